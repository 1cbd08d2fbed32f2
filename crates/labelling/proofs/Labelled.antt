-- The labels are the results of the walk less n + 1.
use mathlib.Core.Path.{◌≡◌, sym, ◌∙◌, ap}
use mathlib.Core.List.{List}
use Prim.Native.Nat.{ℕ, ◌+◌, ◌-◌, ◌≤◌, ◌<◌}
use native.Mathlib.Omega.{arith}
use lib.ListN.{length, get_or, drop, set}
use lib.Seq.{get_or-set_same, get_or-set_other}
use borrow.Author.Count.{below_more}
use borrow.Author.Tests.{eq-eqb, ne_eqb}
use Rattle.grid.specs.Below.{table}
use Rattle.grid_laws.proofs.Tests.{cond_true, cond_false}
use Rattle.grid_laws.proofs.Below.{table_ext, first_≤}
use Rattle.route_laws.specs.Ends.{last_mark, first_unending}
use Rattle.route_laws.specs.Walking.{live_at, next_at, Walked}
use Rattle.route_laws.proofs.Front.{at_front}
use Rattle.labelling.specs.Labelled.{LabelsOf}

-- ---- one store more: the first i places hold f (the crate `watershed_walk` asks for it)
abbrev pub FilledTo : (ℕ → ℕ) → ℕ → List ℕ → Type 0
FilledTo f i l = (c : ℕ) → c < i → get_or l c 0 ≡ f c

pub filled_more : (f : ℕ → ℕ) (i : ℕ) (l : List ℕ) (v : ℕ) → i < length l → FilledTo f i l → v ≡ f i → FilledTo f (i + 1) (set l i v)
filled_more f i l v h F e =
    below_more (λ c. get_or (set l i v) c 0 ≡ f c) i (λ c k. get_or-set_other l i c v 0 (λ q. let z : ⊥ = omega arith in z) ∙ F c k)
    (get_or-set_same l i v 0 h ∙ e)

-- ---- question 12
pub first_within : (n : ℕ) (t₀ t₁ : List ℕ) (r : ℕ) → Walked n t₀ t₁ r → r ≤ n
unfolding first_unending
first_within n t₀ t₁ r W = rw W.first (first_≤ n _)

module _ (n : ℕ) (t₀ t₁ labels₀ : List ℕ) (r : ℕ) (W : Walked n t₀ t₁ r) where
  pub all_end : n ≤ r → r ≡ n
  all_end h = let k = first_within n t₀ t₁ r W in omega arith

  pub no_labels : r < n → LabelsOf n t₀ labels₀ labels₀ r
  no_labels h = record { first = W.first; result = sym (cond_false _ _ (ne_eqb r n (λ q. let z : ⊥ = omega arith in z))) }

  -- what stands at each place
  at_walked : r ≡ n → (c : ℕ) → c < n → get_or t₁ c 0 ≡ n + 1 + last_mark (live_at n t₀) (next_at n t₀) n c
  at_walked e c h =
      ap (λ (l : List ℕ). get_or l c 0) (W.lasts e) ∙ at_front n (λ c. n + 1 + last_mark (live_at n t₀) (next_at n t₀) n c) (drop n t₀) c h

  pub raised : r ≡ n → (c : ℕ) → c < n → n + 1 ≤ get_or t₁ c 0
  raised e c h = rw (at_walked e c h) (omega arith)

  pub all_labels : r ≡ n → (labels₁ : List ℕ) → labels₁ ≡ table n (λ c. get_or t₁ c 0 - (n + 1)) → LabelsOf n t₀ labels₀ labels₁ r
  all_labels e labels₁ q =
      record {
        first = W.first;
        result = q
            ∙ table_ext n (λ c. get_or t₁ c 0 - (n + 1)) (last_mark (live_at n t₀) (next_at n t₀) n)
            (λ c h. less (get_or t₁ c 0) (last_mark (live_at n t₀) (next_at n t₀) n c) (at_walked e c h))
            ∙ sym (cond_true _ _ (eq-eqb r n e));
      }
    where
      less : (x y : ℕ) → x ≡ n + 1 + y → x - (n + 1) ≡ y
      less x y e = omega arith
