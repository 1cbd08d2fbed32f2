-- The marks of a sheet of codes. A cell has at most eight donors, since each of them is one of its eight neighbours.
use mathlib.Core.Path.{◌≡◌, sym, ◌∙◌, ap}
use mathlib.Core.Logic.{⊎_elim}
use mathlib.Core.Bool.{cond}
use mathlib.Core.List.{List}
use Prim.Native.Nat.{ℕ, zero, suc, ◌≤◌, ◌<◌}
use native.Mathlib.Omega.{arith}
use lib.Dec.{eqb}
use lib.ListN.{length}
use borrow.Author.Tests.{eqb-true, eq-eqb, ne_eqb, ltb-true}
use Rattle.grid.specs.declared.Grid.{Grid}
use Rattle.grid.specs.Below.{sum_below, count_below}
use Rattle.grid.specs.Sheet.{size, neighbour}
use Rattle.grid.specs.Routes.{position_at, has_code, receiver}
use Rattle.grid_laws.proofs.Tests.{test, cond_true, cond_false}
use Rattle.grid_laws.proofs.Below.{sum_zero, part_≤_sum, sum_swap}
use Rattle.grid_laws.proofs.Neighbours.{opposite, opposite_small, step_back}
use Rattle.route_laws.specs.Receivers.{receiver_mark}
use Rattle.route_laws.proofs.Receivers.{code_below}
use Rattle.count_laws.specs.Inflow.{mark_of, Flow}
use Rattle.count_laws.specs.Passing.{FewDonors}
use Rattle.count_laws.proofs.Sums.{same?, sum_le, sum_ones}
use Rattle.count_laws.proofs.Count.{mark_flow}

-- at most one number below n is x
one_is : (n x : ℕ) → sum_below n (λ d. cond (eqb x d) 1 0) ≤ 1
unfolding sum_below
one_is zero x = omega arith
one_is (suc n) x =
    ⊎_elim
    (λ e.
    let a = sum_zero n (λ d. cond (eqb x d) 1 0) (λ d l. cond_false {A = ℕ} 1 0 (ne_eqb x d (λ q. let z : ⊥ = omega arith in absurd z))) in
    let b = cond_true {A = ℕ} 1 0 (eq-eqb x n e) in
    omega arith)
    (λ f. let a = one_is n x in let b = cond_false {A = ℕ} 1 0 (ne_eqb x n f) in omega arith)
    (same? x n)

module _ (g : Grid) (codes : List ℕ) (long : length codes ≡ size g) where
  pub sheet_flow : Flow (size g) (has_code codes) (receiver g codes) (receiver_mark g codes)
  unfolding receiver_mark mark_of
  sheet_flow = mark_flow (has_code codes) (receiver g codes) (size g) (λ c t. let h = code_below codes c t in omega arith)

  -- a cell that flows into c is a neighbour of c
  donor_beside : (c d : ℕ) → c < size g → d < size g → receiver_mark g codes d ≡ c → (q : ℕ) × (q < 8) × (neighbour g c q ≡ d)
  unfolding has_code receiver
  donor_beside c d h l e =
      let r = sheet_flow.into d c l h e in
      let p : position_at codes d < 8 = ltb-true (position_at codes d) 8 r.0 in
      let q : neighbour g d (position_at codes d) ≡ c = r.1 in (
        opposite (position_at codes d),
        opposite_small (position_at codes d) p,
        ap (λ (x : ℕ). neighbour g x (opposite (position_at codes d))) (sym q) ∙ step_back g d (position_at codes d) p l (omega arith),
      )

  pub sheet_few : FewDonors (size g) (receiver_mark g codes)
  unfolding count_below
  sheet_few c h =
      let a =
      sum_le (size g) (λ d. cond (eqb (receiver_mark g codes d) c) 1 0) (λ d. sum_below 8 (λ q. cond (eqb (neighbour g c q) d) 1 0))
      (λ d l. ⊎_elim (λ y. beside d l (eqb-true (receiver_mark g codes d) c y)) (λ y. let w = cond_false {A = ℕ} 1 0 y in omega arith)
      (test (eqb (receiver_mark g codes d) c))) in
      let b = sum_swap (size g) 8 (λ d q. cond (eqb (neighbour g c q) d) 1 0) in
      let s = sum_le 8 (λ q. sum_below (size g) (λ d. cond (eqb (neighbour g c q) d) 1 0)) (λ q. 1)
      (λ q l. one_is (size g) (neighbour g c q)) in
      let o = sum_ones 8 in
      omega arith
    where
      beside : (d : ℕ) → d < size g → receiver_mark g codes d ≡ c →
          cond (eqb (receiver_mark g codes d) c) 1 0 ≤ sum_below 8 (λ q. cond (eqb (neighbour g c q) d) 1 0)
      beside d l e =
          let r = donor_beside c d h l e in
          let u = part_≤_sum 8 (λ q. cond (eqb (neighbour g c q) d) 1 0) r.0 r.1 in
          let v = cond_true {A = ℕ} 1 0 (eq-eqb (neighbour g c r.0) d r.2) in
          let w = cond_true {A = ℕ} 1 0 (eq-eqb (receiver_mark g codes d) c e) in
          omega arith
