-- Distances in another unit: each squared distance is another sheet's times one number above 0, and no comparison of products moves by
-- that. Square cells of any width are cells of 1 by 1 in another unit.
use mathlib.Core.Path.{◌≡◌, refl, sym, ◌∙◌, ap}
use mathlib.Core.Bool.{Bool, true, false, not, cond, ◌&&◌}
use mathlib.Core.List.{List}
use Prim.Native.Nat.{ℕ, suc, ◌+◌, ◌*◌, ◌%◌, ◌<◌}
use native.Mathlib.Nat.{mul-le-mul_right, mul-lt-mul_of_pos_right, mul_assoc, mul_comm, mul-pos, mul-mul-mul_comm, add-mul}
use native.Mathlib.Decide.{dec_lt}
use native.Mathlib.Omega.{arith}
use lib.Dec.{eqb, ltb}
use lib.IntN.{ℤ, pos, negsuc}
use lib.Signed.{lt_z}
use borrow.Author.Tests.{lt-ltb, le-ltb}
use Rattle.grid.specs.declared.Grid.{Grid}
use Rattle.grid.specs.Sheet.{is_data, neighbour, cell_at, code_at}
use Rattle.grid.specs.Directions.{drop_to, squared_distance, beats, beaten, is_steepest, steepest_sum}
use Rattle.grid.specs.Shapes.{reshaped, OldDistances}
use Rattle.grid_laws.proofs.Below.{any_ext, sum_ext}

pub old_distances : OldDistances
unfolding squared_distance
old_distances g p = go (eqb (p % 2) 0) (eqb (p % 4) 1)
  where
    go : (t u : Bool) → ◌≡◌ {A = ℕ} (cond t 2 (cond u 1 1)) (cond t 2 1)
    go true u = refl
    go false true = refl
    go false false = refl

ltb_scaled : (k a b : ℕ) → 0 < k → ltb (a * k) (b * k) ≡ ltb a b
ltb_scaled k a b h = go (dec_lt a b)
  where
    go : Dec (a < b) → ltb (a * k) (b * k) ≡ ltb a b
    go (yes l) = lt-ltb (a * k) (b * k) (mul-lt-mul_of_pos_right l h) ∙ sym (lt-ltb a b l)
    go (no f) = le-ltb (a * k) (b * k) (mul-le-mul_right k (omega arith)) ∙ sym (le-ltb a b (omega arith))

module _ (g : Grid) (width height k : ℕ) (above : 0 < k)
    (units : (p : ℕ) → squared_distance g p ≡ squared_distance (reshaped g width height) p * k) where
  abbrev other : Grid
  other = reshaped g width height

  ltb_units : (x y p q : ℕ) → ltb (x * squared_distance g p) (y * squared_distance g q)
      ≡ ltb (x * squared_distance other p) (y * squared_distance other q)
  ltb_units x y p q =
      rw (units p, units q)
      (rw (sym (mul_assoc x (squared_distance other p) k), sym (mul_assoc y (squared_distance other q) k))
      (ltb_scaled k (x * squared_distance other p) (y * squared_distance other q) above))

  beats_units : (a b : ℤ) (p q : ℕ) → beats g a p b q ≡ beats other a p b q
  unfolding beats
  beats_units (pos a) (pos b) p q = ltb_units (b * b) (a * a) p q
  beats_units (pos a) (negsuc b) p q = refl
  beats_units (negsuc a) (pos b) p q = refl
  beats_units (negsuc a) (negsuc b) p q = ltb_units (suc a * suc a) (suc b * suc b) q p

  pub sum_units : (e : List ℤ) (c : ℕ) → steepest_sum g e c ≡ steepest_sum other e c
  unfolding steepest_sum is_steepest beaten drop_to neighbour cell_at
  sum_units e c =
      sum_ext 8 (λ p. cond (is_steepest g e c p) (code_at p) 0) (λ p. cond (is_steepest other e c p) (code_at p) 0)
      (λ p h. ap (λ (t : Bool). cond (is_data e (neighbour g c p) && lt_z (pos 0) (drop_to g e c p) && not t) (code_at p) 0)
      (any_ext 8 (λ q. is_data e (neighbour g c q) && beats g (drop_to g e c q) q (drop_to g e c p) p)
      (λ q. is_data e (neighbour other c q) && beats other (drop_to other e c q) q (drop_to other e c p) p)
      (λ q j. ap (λ (t : Bool). is_data e (neighbour g c q) && t) (beats_units (drop_to g e c q) (drop_to g e c p) q p))))

-- a square in another unit
square_units : (k x : ℕ) → (k * x) * (k * x) ≡ (x * x) * (k * k)
square_units k x = mul-mul-mul_comm k x k x ∙ mul_comm (k * k) (x * x)

module _ (g : Grid) (square : g.width ≡ g.height) (wide : 0 < g.width) where
  in_widths : (p : ℕ) → squared_distance g p ≡ squared_distance (reshaped g 1 1) p * (g.width * g.width)
  unfolding squared_distance
  in_widths p = rw (sym square) (go (eqb (p % 2) 0) (eqb (p % 4) 1) (g.width * g.width))
    where
      go : (t u : Bool) (k : ℕ) → cond t (k + k) (cond u k k) ≡ cond t 2 (cond u 1 1) * k
      go true u k = omega arith
      go false true k = omega arith
      go false false k = omega arith

  pub square_sum : (e : List ℤ) (c : ℕ) → steepest_sum g e c ≡ steepest_sum (reshaped g 1 1) e c
  square_sum = sum_units g 1 1 (g.width * g.width) (mul-pos wide wide) in_widths

module _ (g : Grid) (k : ℕ) (above : 0 < k) where
  in_units : (p : ℕ) → squared_distance (reshaped g (k * g.width) (k * g.height)) p ≡ squared_distance g p * (k * k)
  unfolding squared_distance
  in_units p = rw (square_units k g.width, square_units k g.height) (go (eqb (p % 2) 0) (eqb (p % 4) 1))
    where
      go : (t u : Bool) → cond t ((g.width * g.width) * (k * k) + (g.height * g.height) * (k * k))
          (cond u ((g.width * g.width) * (k * k)) ((g.height * g.height) * (k * k)))
          ≡ cond t (g.width * g.width + g.height * g.height) (cond u (g.width * g.width) (g.height * g.height)) * (k * k)
      go true u = sym (add-mul (g.width * g.width) (g.height * g.height) (k * k))
      go false true = refl
      go false false = refl

  pub unit_sum : (e : List ℤ) (c : ℕ) → steepest_sum (reshaped g (k * g.width) (k * g.height)) e c ≡ steepest_sum g e c
  unit_sum = sum_units (reshaped g (k * g.width) (k * g.height)) g.width g.height (k * k) (mul-pos above above) in_units
