-- How the pass ends. Where every cell is done, each count is the sum over the donors, so it rises along a route: every route ends, and the
-- counts are those of the definition. Where some cell is not done, it has a donor that is not done, which has another: a route with more
-- than n cells.
use mathlib.Core.Path.{◌≡◌, refl, sym, ◌∙◌, subst}
use mathlib.Core.Logic.{⊎_elim}
use mathlib.Core.Bool.{Bool, true, false, not, cond, ◌&&◌}
use Prim.Native.Nat.{ℕ, zero, suc, ◌+◌, ◌≤◌, ◌<◌}
use native.Mathlib.Omega.{arith}
use lib.Dec.{eqb}
use borrow.Author.Tests.{eqb-true, eq-eqb}
use Rattle.grid.specs.Below.{count_below}
use Rattle.grid.specs.Routes.{ends_by}
use Rattle.grid_laws.proofs.Tests.{test, cond_true, and_left, and_right, not_is_true}
use Rattle.grid_laws.proofs.Below.{sum_ext, part_≤_sum, first_≤}
use Rattle.route_laws.specs.Ends.{EndsIn, Ends, first_unending}
use Rattle.route_laws.proofs.Routes.{same_length, short, bounded_rank_ends, first_unending_none, all_end}
use Rattle.count_laws.specs.Inflow.{route_count, inflow, Flow}
use Rattle.count_laws.specs.Passing.{tally, is_done, undone, Passing}
use Rattle.count_laws.proofs.Sums.{same?, sum_some}
use Rattle.count_laws.proofs.Words.{tally_small, awaits_more}
use Rattle.count_laws.proofs.Count.{count_only}

module _ {n : ℕ} {live : ℕ → Bool} {next mark : ℕ → ℕ} (F : Flow n live next mark) (word : ℕ → ℕ) (P : Passing n mark word) where
  -- ---- nothing is left
  module _ (none : undone n word ≡ 0) where
    all_done : (c : ℕ) → c < n → is_done (word c) ≡ true
    unfolding undone count_below
    all_done c l =
        ⊎_elim
        (λ t. t)
        (λ f.
        let a = part_≤_sum n (λ c. cond (not (is_done (word c))) 1 0) c l in
        let b : ◌≡◌ {A = ℕ} (cond (not (is_done (word c))) 1 0) 1 = rw f in
        let z : ⊥ = omega arith in absurd z)
        (test (is_done (word c)))

    tallied : (c : ℕ) → c < n → tally (word c) ≡ inflow n mark (λ d. tally (word d) + 1) c
    unfolding inflow
    tallied c l =
        P.so_far c l
        ∙ sum_ext n (λ d. cond (eqb (mark d) c && is_done (word d)) (tally (word d) + 1) 0)
        (λ d. cond (eqb (mark d) c) (tally (word d) + 1) 0)
        (λ d h. both (eqb (mark d) c) (is_done (word d)) (tally (word d) + 1) (all_done d h))
      where
        both : (a b : Bool) (v : ℕ) → b ≡ true → cond (a && b) v 0 ≡ cond a v 0
        both true b v q = rw q
        both false b v q = refl

    pub done_ends : (c : ℕ) → Ends live next c
    unfolding inflow
    done_ends = bounded_rank_ends live next (λ c. tally (word c)) 16777216 (λ c t. tally_small (word c)) rises
      where
        rises : (c : ℕ) → live c ≡ true → live (next c) ≡ true → tally (word c) < tally (word (next c))
        rises c t u =
            let a = tallied (next c) (F.on_sheet (next c) u) in
            let b = part_≤_sum n (λ d. cond (eqb (mark d) (next c)) (tally (word d) + 1) 0) c (F.on_sheet c t) in
            let v = cond_true (tally (word c) + 1) 0 (eq-eqb (mark c) (next c) (F.from c t u)) in
            omega arith

    pub done_counts : (c : ℕ) → c < n → tally (word c) ≡ route_count live next n c
    done_counts = count_only F done_ends (λ c. tally (word c)) tallied

    pub done_none_endless : first_unending live next n ≡ n
    done_none_endless = first_unending_none live next n F.on_sheet (λ k l. done_ends k)

  -- ---- something is left, though every cell was looked at
  module _ (some : 0 < undone n word) (settled : (k : ℕ) → k < n → 16777216 ≤ word k) where
    first_waiting : (c : ℕ) × (c < n) × (is_done (word c) ≡ false)
    unfolding undone count_below
    first_waiting = let r = sum_some n (λ c. cond (not (is_done (word c))) 1 0) some in (r.0, r.1, off (is_done (word r.0)) r.2)
      where
        off : (b : Bool) → 0 < cond (not b) 1 0 → b ≡ false
        off true h = let z : ⊥ = omega arith in absurd z
        off false h = refl

    -- a cell that waits has a donor that waits
    waiting_donor : (c : ℕ) → c < n → is_done (word c) ≡ false → (d : ℕ) × (d < n) × (is_done (word d) ≡ false) × (live d ≡ true)
        × (next d ≡ c)
    unfolding count_below
    waiting_donor c l f =
        let a = P.to_come c l f in
        let b = awaits_more (word c) (settled c l) in
        let r = sum_some n (λ d. cond (eqb (mark d) c && not (is_done (word d))) 1 0) (omega arith) in
        let both = on (eqb (mark r.0) c && not (is_done (word r.0))) r.2 in
        let e = and_left (eqb (mark r.0) c) (not (is_done (word r.0))) both in
        let w = and_right (eqb (mark r.0) c) (not (is_done (word r.0))) both in
        let i = F.into r.0 c r.1 l (eqb-true (mark r.0) c e) in
        (r.0, r.1, not_is_true (is_done (word r.0)) w, i.0, i.1)
      where
        on : (b : Bool) → 0 < cond b 1 0 → b ≡ true
        on true h = refl
        on false h = let z : ⊥ = omega arith in absurd z

    -- so their routes get longer without end
    climb : (all : (c : ℕ) → Ends live next c) (m : ℕ) → (c : ℕ) × (c < n) × (is_done (word c) ≡ false) × (m ≤ (all c).0)
    climb all zero = let r = first_waiting in (r.0, r.1, r.2, omega arith)
    climb all (suc m) =
        let r = climb all m in
        let d = waiting_donor r.0 r.1 r.2 in
        let e : (all d.0).0 ≡ suc (all r.0).0 =
        same_length live next (all d.0).0 (suc (all r.0).0) d.0 (all d.0).1
        (d.3, subst (λ (x : ℕ). EndsIn live next (all r.0).0 x) (sym d.4) (all r.0).1) in
        let h = r.3 in
        (d.0, d.1, d.2, omega arith)

    pub left_endless : ((c : ℕ) → Ends live next c) → ⊥
    left_endless all =
        let r = climb all (suc n) in
        let s = short live next n F.on_sheet (all r.0).0 r.0 (all r.0).1 in
        let h = r.3 in
        omega arith

    pub left_some_endless : first_unending live next n < n
    unfolding first_unending
    left_some_endless =
        let h = first_≤ n (λ c. not (ends_by live next n c)) in
        ⊎_elim (λ e. absurd (left_endless (all_end live next n F.on_sheet e))) (λ f. omega arith) (same? (first_unending live next n) n)
