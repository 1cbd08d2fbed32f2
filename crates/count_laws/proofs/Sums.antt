-- Sums over the numbers below n.
use mathlib.Core.Path.{◌≡◌, refl, sym, ap}
use mathlib.Core.Logic.{◌⊎◌, inl, inr, ⊎_elim}
use mathlib.Core.Bool.{Bool, true, false, cond, ◌&&◌}
use Prim.Native.Nat.{ℕ, zero, suc, ◌+◌, ◌≤◌, ◌<◌}
use native.Mathlib.Omega.{arith}
use lib.Dec.{eqb}
use borrow.Author.Tests.{eqb-true, eqb-false}
use Rattle.grid.specs.Below.{sum_below}
use Rattle.grid_laws.proofs.Tests.{test}
use Rattle.grid_laws.proofs.Below.{sum_ext, sum_zero, part_≤_sum}

pub same? : (a b : ℕ) → (a ≡ b) ⊎ (a ≡ b → ⊥)
same? a b = ⊎_elim (λ e. inl (eqb-true a b e)) (λ e. inr (eqb-false a b e)) (test (eqb a b))

-- a term that no second test lets in
pub none_waiting : (b e : Bool) (v : ℕ) → e ≡ false → cond (b && e) v 0 ≡ 0
none_waiting true e v q = rw q
none_waiting false e v q = refl

pub sum_le : (n : ℕ) (f g : ℕ → ℕ) → ((k : ℕ) → k < n → f k ≤ g k) → sum_below n f ≤ sum_below n g
unfolding sum_below
sum_le zero f g h = omega arith
sum_le (suc n) f g h = let a = sum_le n f g (λ k l. h k (omega arith)) in let b = h n (omega arith) in omega arith

-- one term grows
pub sum_more : (n j v : ℕ) (f g : ℕ → ℕ) → j < n → g j ≡ f j + v → ((k : ℕ) → k < n → (k ≡ j → ⊥) → g k ≡ f k) →
    sum_below n g ≡ sum_below n f + v
unfolding sum_below
sum_more zero j v f g h e z = let w : ⊥ = omega arith in absurd w
sum_more (suc n) j v f g h e z = ⊎_elim here (λ r. there r (sum_more n j v f g (omega arith) e (λ k l. z k (omega arith)))) (same? j n)
  where
    here : j ≡ n → sum_below n g + g n ≡ sum_below n f + f n + v
    here q =
        let a : sum_below n g ≡ sum_below n f = sum_ext n g f (λ k l. z k (omega arith) (λ r. let w : ⊥ = omega arith in absurd w)) in
        let b : g j ≡ g n = ap g q in
        let c : f j ≡ f n = ap f q in
        omega arith

    there : (j ≡ n → ⊥) → sum_below n g ≡ sum_below n f + v → sum_below n g + g n ≡ sum_below n f + f n + v
    there r a = let b : g n ≡ f n = z n (omega arith) (λ q. r (sym q)) in omega arith

-- only one term counts
pub sum_one : (n j : ℕ) (f : ℕ → ℕ) → j < n → ((k : ℕ) → k < n → (k ≡ j → ⊥) → f k ≡ 0) → sum_below n f ≡ f j
sum_one n j f h z =
    let a = sum_more n j (f j) (λ k. 0) f h (omega arith) z in
    let b = sum_zero n (λ k. 0) (λ k l. refl) in
    omega arith

-- two terms together are at most the sum
pub sum_two : (n i j : ℕ) (f : ℕ → ℕ) → i < n → j < n → (i ≡ j → ⊥) → f i + f j ≤ sum_below n f
unfolding sum_below
sum_two zero i j f h k r = let w : ⊥ = omega arith in absurd w
sum_two (suc n) i j f h k r =
    ⊎_elim
    (λ q. let a : f i ≡ f n = ap f q in let b = part_≤_sum n f j (omega arith) in omega arith)
    (λ p. ⊎_elim (λ q. let a : f j ≡ f n = ap f q in let b = part_≤_sum n f i (omega arith) in omega arith)
    (λ q. let a = sum_two n i j f (omega arith) (omega arith) r in omega arith) (same? j n))
    (same? i n)

-- a sum that is not 0 has a term that is not 0
pub sum_some : (n : ℕ) (f : ℕ → ℕ) → 0 < sum_below n f → (k : ℕ) × (k < n) × (0 < f k)
unfolding sum_below
sum_some zero f h = let w : ⊥ = omega arith in absurd w
sum_some (suc n) f h =
    ⊎_elim
    (λ e. let r = sum_some n f (omega arith) in (r.0, (let l = r.1 in omega arith), r.2))
    (λ e. (n, omega arith, omega arith))
    (same? (f n) 0)

-- a sum of ones
pub sum_ones : (n : ℕ) → sum_below n (λ k. 1) ≡ n
unfolding sum_below
sum_ones zero = refl
sum_ones (suc n) = let a = sum_ones n in omega arith
