-- A cell's code, and one turn after another.
use mathlib.Core.Path.{◌≡◌, refl, sym, ◌∙◌, ap}
use mathlib.Core.Bool.{true, false, not}
use mathlib.Core.Logic.{◌⊎◌, inl, inr, ⊎_elim}
use mathlib.Core.List.{List}
use native.Mathlib.Numerals.{add-one}
use Prim.Native.Nat.{ℕ, ◌+◌, ◌≤◌, ◌<◌}
use lib.Dec.{eqb}
use lib.ListN.{length, get_or, get_or-eq_default}
use borrow.Author.Tests.{ltb-true, eqb-true, eqb-false}
use Rattle.grid.specs.declared.Grid.{Grid}
use Rattle.grid.specs.Routes.{position_at, has_code}
use Rattle.grid.specs.Crews.{turn, turns}
use Rattle.grid_laws.proofs.Tests.{test, not_of_true, not_of_false}
use Rattle.grid_laws.proofs.Neighbours.{no_code}
use Rattle.route_laws.specs.Receivers.{AllCodes}

-- ---- a cell's code

pub position_small : (codes : List ℕ) (c : ℕ) → has_code codes c ≡ true → position_at codes c < 8
unfolding has_code
position_small codes c t = ltb-true (position_at codes c) 8 t

pub off_sheet : (codes : List ℕ) (c : ℕ) → length codes ≤ c → false ≡ has_code codes c
off_sheet codes c h = sym (no_code codes c (get_or-eq_default codes 0 h))

pub code_above : (codes : List ℕ) → AllCodes codes → (c : ℕ) → not (eqb (get_or codes c 0) 0) ≡ has_code codes c
code_above codes all c = go (test (eqb (get_or codes c 0) 0))
  where
    go : (eqb (get_or codes c 0) 0 ≡ true) ⊎ (eqb (get_or codes c 0) 0 ≡ false) → not (eqb (get_or codes c 0) 0) ≡ has_code codes c
    go (inl e) = not_of_true e ∙ sym (no_code codes c (eqb-true (get_or codes c 0) 0 e))
    go (inr e) = not_of_false e ∙ sym (⊎_elim (λ z. absurd (eqb-false (get_or codes c 0) 0 e z)) (λ t. t) (all c))

-- ---- turns

pub no_turns : (g : Grid) (codes s : List ℕ) → s ≡ turns g codes 0 s
unfolding turns
no_turns g codes s = refl

pub one_turn : (g : Grid) (codes : List ℕ) (n : ℕ) (s t u : List ℕ) → t ≡ turns g codes n s → u ≡ turn g codes t →
    u ≡ turns g codes (n + 1) s
unfolding turns
one_turn g codes n s t u e q = q ∙ ap (turn g codes) e ∙ ap (λ (k : ℕ). turns g codes k s) (sym (add-one n))
