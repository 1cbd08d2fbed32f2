-- Joined cells are cells of the set on the sheet, and the same set with the same first cells is joined alike. That they are those with a
-- way is join_laws'.
use mathlib.Core.Path.{◌≡◌, sym, ◌∙◌, ap}
use mathlib.Core.Bool.{Bool, true, false, ◌&&◌, ◌||◌}
use mathlib.Core.Logic.{⊎_elim}
use mathlib.Core.List.{List}
use Prim.Native.Nat.{ℕ, zero, suc, ◌<◌}
use native.Mathlib.Decide.{dec_lt}
use native.Mathlib.Omega.{arith}
use lib.ListN.{get_or, get_or-eq_default}
use Rattle.grid.specs.declared.Grid.{Grid}
use Rattle.grid.specs.Below.{table, any_below}
use Rattle.grid.specs.Sheet.{size, neighbour}
use Rattle.grid.specs.Joined.{join_pass, join_passes, joined}
use Rattle.grid_laws.proofs.Tests.{true_false, and_left, or_cases}
use Rattle.grid_laws.proofs.Below.{at_table, length_table, table_ext}

-- what a table of tests holds lies in it
table_holds : (n : ℕ) (f : ℕ → Bool) (c : ℕ) → get_or (table n f) c false ≡ true → f c ≡ true
table_holds n f c t = go (dec_lt c n)
  where
    go : Dec (c < n) → f c ≡ true
    go (yes h) = sym (at_table n f c false h) ∙ t
    go (no x) = true_false t (get_or-eq_default (table n f) false (let q = length_table n f in omega arith))

module _ (g : Grid) (member first : ℕ → Bool) where
  pass_member : (k c : ℕ) → get_or (join_passes g member first k) c false ≡ true → member c ≡ true
  unfolding join_passes join_pass
  pass_member zero c t = and_left (member c) (first c) (table_holds (size g) (λ x. member x && first x) c t)
  pass_member (suc k) c t =
      ⊎_elim (pass_member k c)
      (and_left (member c) (any_below 8 (λ p. get_or (join_passes g member first k) (neighbour g c p) false)))
      (or_cases (get_or (join_passes g member first k) c false) _
      (table_holds (size g) (join_pass g member first (join_passes g member first k)) c t))

  pub joined_member : (c : ℕ) → get_or (joined g member first) c false ≡ true → member c ≡ true
  unfolding joined
  joined_member = pass_member (size g)

pub same_joined : (g : Grid) (m n a b : ℕ → Bool) → ((c : ℕ) → m c ≡ n c) → ((c : ℕ) → c < size g → (m c && a c) ≡ (n c && b c)) →
    joined g m a ≡ joined g n b
unfolding joined join_passes join_pass
same_joined g m n a b h k = passes (size g)
  where
    passes : (i : ℕ) → join_passes g m a i ≡ join_passes g n b i
    passes zero = table_ext (size g) (λ c. m c && a c) (λ c. n c && b c) k
    passes (suc i) =
        ap (λ (x : List Bool). table (size g) (join_pass g m a x)) (passes i)
        ∙ table_ext (size g) (join_pass g m a (join_passes g n b i)) (join_pass g n b (join_passes g n b i))
        (λ c l. ap (λ (t : Bool). get_or (join_passes g n b i) c false
        || (t && any_below 8 (λ p. get_or (join_passes g n b i) (neighbour g c p) false))) (h c))
