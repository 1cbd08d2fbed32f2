-- By marks and without a subtraction, the same cells are starts.
use mathlib.Core.Path.{◌≡◌, sym, ◌∙◌, ap, ap₂}
use mathlib.Core.Logic.{◌⊎◌, inl, inr, ⊎_elim}
use mathlib.Core.Bool.{Bool, true, false, cond, ◌&&◌}
use mathlib.Core.List.{List}
use Prim.Native.Nat.{ℕ, zero, suc, ◌+◌, ◌-◌, ◌≤◌, ◌<◌}
use native.Mathlib.Omega.{arith}
use lib.Dec.{ltb}
use lib.ListN.{length, get_or, take}
use lib.Seq.{get_or-take}
use lib.IntN.{pos, negsuc, sub_ℕ, ◌-ℤ◌}
use lib.Signed.{lt_z}
use borrow.Author.Tests.{ltb-true, ltb-false, lt-ltb, le-ltb}
use Rattle.grid.specs.declared.Grid.{Grid}
use Rattle.grid.specs.Below.{table, count_below}
use Rattle.grid.specs.Sheet.{size}
use Rattle.grid.specs.Routes.{has_code, receiver}
use Rattle.grid.specs.Starts.{delta, is_start, starts, start_count}
use Rattle.grid_laws.proofs.Tests.{test, and_true, and_false_left, and_false_right, cond_true, cond_false, same_test}
use Rattle.grid_laws.proofs.Below.{table_ext, count_ext}
use Rattle.route_laws.specs.Receivers.{receiver_mark, receivers}
use Rattle.route_laws.proofs.Receivers.{code_below, mark_next, mark_end, mark_none, at_receivers}
use Rattle.accumulation.specs.Tail.{mark_at}
use Rattle.starting.specs.Marked.{start_by, start_number}

-- a difference is above t where the one number is above the sum of the other and t
pub difference_above : (t a b : ℕ) → lt_z (pos t) (pos a -ℤ pos b) ≡ ltb (b + t) a
difference_above t a zero = ap₂ ltb (let e : t ≡ 0 + t = omega arith in e) (let e : a + 0 ≡ a = omega arith in e)
difference_above t a (suc b) = ⊎_elim below above (test (ltb a (suc b)))
  where
    below : ltb a (suc b) ≡ true → lt_z (pos t) (sub_ℕ a (suc b)) ≡ ltb (suc b + t) a
    below y =
        let l = ltb-true a (suc b) y in
        ap (lt_z (pos t)) (cond_true (negsuc (suc b - suc a)) (pos (a - suc b)) y) ∙ sym (le-ltb (suc b + t) a (omega arith))

    above : ltb a (suc b) ≡ false → lt_z (pos t) (sub_ℕ a (suc b)) ≡ ltb (suc b + t) a
    above y =
        let l = ltb-false a (suc b) y in
        ap (lt_z (pos t)) (cond_false (negsuc (suc b - suc a)) (pos (a - suc b)) y)
        ∙ same_test (ltb t (a - suc b)) (ltb (suc b + t) a)
        (λ p. let h = ltb-true t (a - suc b) p in lt-ltb (suc b + t) a (omega arith))
        (λ p. let h = ltb-true (suc b + t) a p in lt-ltb t (a - suc b) (omega arith))

-- what is never above: 0
never_above : (t : ℕ) → lt_z (pos t) (pos 0) ≡ false
never_above t = le-ltb t 0 (omega arith)

module _ (g : Grid) (codes counts : List ℕ) (threshold : ℕ) (t : List ℕ) (long : length codes ≡ size g)
    (marks : take (size g) t ≡ receivers g codes) where
  mark_is : (c : ℕ) → c < size g → mark_at t c ≡ receiver_mark g codes c
  mark_is c l = sym (get_or-take (size g) t c 0 l) ∙ ap (λ (x : List ℕ). get_or x c 0) marks ∙ at_receivers g codes long c 0 l

  pub start_is : (c : ℕ) → c < size g → start_by (size g) t counts threshold c ≡ is_start g codes counts threshold c
  unfolding start_by is_start delta
  start_is c l = by_codes (test (has_code codes c)) (test (has_code codes (receiver g codes c)))
    where
      flows : ltb (mark_at t c) (size g) ≡ true → (has_code codes c && has_code codes (receiver g codes c)) ≡ true →
          mark_at t c ≡ receiver g codes c → start_by (size g) t counts threshold c ≡ is_start g codes counts threshold c
      flows y b e =
          ap (λ (x : Bool). x && (ltb threshold (get_or counts c 0) && ltb (get_or counts c 0 + threshold) (get_or counts (mark_at t c) 0))) y
          ∙ ap (λ (x : Bool). ltb threshold (get_or counts c 0) && x)
          (ap (λ (x : ℕ). ltb (get_or counts c 0 + threshold) (get_or counts x 0)) e
          ∙ sym (difference_above threshold (get_or counts (receiver g codes c) 0) (get_or counts c 0))
          ∙ ap (lt_z (pos threshold)) (sym (cond_true (pos (get_or counts (receiver g codes c) 0) -ℤ pos (get_or counts c 0)) (pos 0) b)))

      ends : size g ≤ mark_at t c → (has_code codes c && has_code codes (receiver g codes c)) ≡ false →
          start_by (size g) t counts threshold c ≡ is_start g codes counts threshold c
      ends h b =
          and_false_left _ (le-ltb (mark_at t c) (size g) h)
          ∙ sym (and_false_right (ltb threshold (get_or counts c 0))
          (ap (lt_z (pos threshold)) (cond_false (pos (get_or counts (receiver g codes c) 0) -ℤ pos (get_or counts c 0)) (pos 0) b)
          ∙ never_above threshold))

      by_codes : (has_code codes c ≡ true) ⊎ (has_code codes c ≡ false) →
          (has_code codes (receiver g codes c) ≡ true) ⊎ (has_code codes (receiver g codes c) ≡ false) →
          start_by (size g) t counts threshold c ≡ is_start g codes counts threshold c
      by_codes (inl p) (inl q) =
          let e = mark_is c l ∙ mark_next g codes long c p q in
          let h = code_below codes (receiver g codes c) q in
          flows (lt-ltb (mark_at t c) (size g) (omega arith)) (and_true p q) e
      by_codes (inl p) (inr q) =
          let e = mark_is c l ∙ mark_end g codes long c p q in ends (omega arith) (and_false_right (has_code codes c) q)
      by_codes (inr p) q =
          let e = mark_is c l ∙ mark_none g codes long c p in ends (omega arith) (and_false_left (has_code codes (receiver g codes c)) p)

  pub count_is : count_below (size g) (start_by (size g) t counts threshold) ≡ start_count g codes counts threshold
  unfolding start_count
  count_is = count_ext (size g) (start_by (size g) t counts threshold) (is_start g codes counts threshold) start_is

  pub starts_are : table (size g) (start_number (size g) t counts threshold) ≡ starts g codes counts threshold
  unfolding start_number starts
  starts_are =
      table_ext (size g) (start_number (size g) t counts threshold)
      (λ c. cond (is_start g codes counts threshold c) (count_below c (is_start g codes counts threshold) + 1) 0)
      (λ c l. ap₂ (λ (b : Bool) (k : ℕ). cond b (k + 1) 0) (start_is c l)
      (count_ext c (start_by (size g) t counts threshold) (is_start g codes counts threshold) (λ k h. start_is k (omega arith))))
