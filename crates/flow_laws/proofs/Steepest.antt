-- A drop above 0 leads to a lower cell, and where there is one, some neighbour has the largest weighted drop.
use mathlib.Core.Path.{◌≡◌, refl, sym, ◌∙◌, ap, subst}
use mathlib.Core.Bool.{Bool, true, false, not, ◌&&◌}
use mathlib.Core.Logic.{⊎_elim}
use mathlib.Core.List.{List}
use Prim.Native.Nat.{ℕ, zero, suc, ◌+◌, ◌-◌, ◌*◌, ◌≤◌, ◌<◌}
use native.Mathlib.Nat.{mul_right_comm, mul-lt-mul_of_pos_right, lt_of_mul-lt-mul_right, zero-mul, mul-zero, mul_comm}
use native.Mathlib.Omega.{arith}
use native.Mathlib.Decide.{dec_lt}
use lib.Dec.{ltb}
use lib.IntN.{ℤ, pos, negsuc, sub_ℕ, ◌-ℤ◌}
use lib.Signed.{lt_z, ◌<ℤ◌, lt_z_yes}
use borrow.Author.Tests.{lt-ltb, le-ltb, ltb-true}
use Rattle.grid.specs.declared.Grid.{Grid}
use Rattle.grid.specs.Sheet.{at, is_data, neighbour}
use Rattle.grid.specs.Directions.{drop_to, squared_distance, beats, beaten, is_steepest, has_descent}
use Rattle.grid_laws.proofs.Tests.{test, true_T, T_true, true_false, and_true, and_left, and_right, not_of_false, not_true_false}
use Rattle.grid_laws.proofs.Below.{any_of, some_of_any, none_of}
use Rattle.flow_laws.proofs.Search.{last?}

-- ---- the sign of a difference
sub_sign : (x y : ℕ) → lt_z (pos 0) (sub_ℕ x y) ≡ ltb y x
sub_sign x y = go (dec_lt x y)
  where
    go : Dec (x < y) → lt_z (pos 0) (sub_ℕ x y) ≡ ltb y x
    go (yes h) = rw (lt-ltb x y h) (sym (le-ltb y x (omega arith)))
    go (no f) = rw (le-ltb x y (omega arith)) (more (dec_lt y x))
      where
        more : Dec (y < x) → ltb 0 (x - y) ≡ ltb y x
        more (yes h) = lt-ltb 0 (x - y) (omega arith) ∙ sym (lt-ltb y x h)
        more (no k) = le-ltb 0 (x - y) (omega arith) ∙ sym (le-ltb y x (omega arith))

suc_ltb : (m n : ℕ) → ltb (suc m) (suc n) ≡ ltb m n
suc_ltb m n = go (dec_lt m n)
  where
    go : Dec (m < n) → ltb (suc m) (suc n) ≡ ltb m n
    go (yes h) = lt-ltb (suc m) (suc n) (omega arith) ∙ sym (lt-ltb m n h)
    go (no f) = le-ltb (suc m) (suc n) (omega arith) ∙ sym (le-ltb m n (omega arith))

pub difference_sign : (a b : ℤ) → lt_z (pos 0) (a -ℤ b) ≡ lt_z b a
difference_sign (pos m) (pos zero) = let q : m + 0 ≡ m = omega arith in ap (ltb 0) q
difference_sign (pos m) (pos (suc n)) = sub_sign m (suc n)
difference_sign (pos m) (negsuc n) = lt-ltb 0 (m + suc n) (omega arith)
difference_sign (negsuc m) (pos zero) = sub_sign 0 (suc m) ∙ le-ltb (suc m) 0 (omega arith)
difference_sign (negsuc m) (pos (suc n)) = refl
difference_sign (negsuc m) (negsuc n) = sub_sign (suc n) (suc m) ∙ suc_ltb m n

module _ (g : Grid) (e : List ℤ) (c : ℕ) where
  -- the neighbour at p is a data cell, and lower
  abbrev pub falls : ℕ → Bool
  falls p = is_data e (neighbour g c p) && lt_z (pos 0) (drop_to g e c p)

  pub drop_lower : (p : ℕ) → lt_z (pos 0) (drop_to g e c p) ≡ true → at e (neighbour g c p) <ℤ at e c
  unfolding drop_to
  drop_lower p q = lt_z_yes (true_T (sym (difference_sign (at e c) (at e (neighbour g c p))) ∙ q))

  pub lower_drop : (p : ℕ) → at e (neighbour g c p) <ℤ at e c → lt_z (pos 0) (drop_to g e c p) ≡ true
  unfolding drop_to
  lower_drop p h = difference_sign (at e c) (at e (neighbour g c p)) ∙ T_true _ h.lt

  pub descends : (p : ℕ) → p < 8 → is_data e (neighbour g c p) ≡ true → at e (neighbour g c p) <ℤ at e c → has_descent g e c ≡ true
  unfolding has_descent
  descends p b d h = any_of 8 falls p b (and_true d (lower_drop p h))

  pub descent_some : has_descent g e c ≡ true → (p : ℕ) × (p < 8) × (falls p ≡ true)
  unfolding has_descent
  descent_some q = some_of_any 8 falls q

  pub steepest_lower : (p : ℕ) → is_steepest g e c p ≡ true → (is_data e (neighbour g c p) ≡ true) × (at e (neighbour g c p) <ℤ at e c)
  unfolding is_steepest
  steepest_lower p q =
      let l = and_left (falls p) (not (beaten g e c p)) q in
      (and_left (is_data e (neighbour g c p)) _ l, drop_lower p (and_right (is_data e (neighbour g c p)) _ l))

-- ---- the order of weighted drops
positive_factor : (x y k : ℕ) → x < y * k → 0 < k
positive_factor x y zero h = let e : y * 0 ≡ 0 = mul-zero y in let z : ⊥ = omega arith in absurd z
positive_factor x y (suc k) h = omega arith

-- x over P is below y over K, and that below z over Q. No distance need be above 0: nothing is above a drop over 0
weigh : (x y z P K Q : ℕ) → x * K < y * P → y * Q < z * K → x * Q < z * P
weigh x y z P K zero a b =
    let e : x * 0 ≡ 0 = mul-zero x in
    let q : 0 < z = positive_factor (y * 0) K z (rw (mul_comm K z) b) in
    let r : 0 * P < z * P = mul-lt-mul_of_pos_right q (positive_factor (x * K) y P a) in
    let s : 0 * P ≡ 0 = zero-mul P in
    omega arith
weigh x y z P K (suc Q) a b =
    let hP : 0 < P = positive_factor (x * K) y P a in
    let i : x * K * suc Q < y * P * suc Q = mul-lt-mul_of_pos_right a (omega arith) in
    let j : y * suc Q * P < z * K * P = mul-lt-mul_of_pos_right b hP in
    let r = mul_right_comm y P (suc Q) in
    let s = mul_right_comm x K (suc Q) in
    let t = mul_right_comm z K P in
    lt_of_mul-lt-mul_right K (omega arith)

module _ (g : Grid) where
  -- what beats a drop above 0 is above 0
  beats_positive : (a b : ℤ) (p q : ℕ) → lt_z (pos 0) b ≡ true → beats g a p b q ≡ true → lt_z (pos 0) a ≡ true
  unfolding beats
  beats_positive (pos zero) (pos b) p q h w =
      let l : b * b * squared_distance g p < 0 * 0 * squared_distance g q =
      ltb-true (b * b * squared_distance g p) (0 * 0 * squared_distance g q) w in
      let z : 0 * 0 * squared_distance g q ≡ 0 = zero-mul (squared_distance g q) in
      let y : ⊥ = omega arith in
      absurd y
  beats_positive (pos (suc a)) (pos b) p q h w = lt-ltb 0 (suc a) (omega arith)
  beats_positive (pos a) (negsuc b) p q h w = true_false h refl
  beats_positive (negsuc a) (pos b) p q h w = true_false w refl
  beats_positive (negsuc a) (negsuc b) p q h w = true_false h refl

  beats_trans : (a b c : ℤ) (p q r : ℕ) → lt_z (pos 0) c ≡ true → beats g a p b q ≡ true → beats g b q c r ≡ true → beats g a p c r ≡ true
  unfolding beats
  beats_trans (pos a) (pos b) (pos c) p q r h w v =
      lt-ltb _ _ (weigh (c * c) (b * b) (a * a) (squared_distance g r) (squared_distance g q) (squared_distance g p) (ltb-true _ _ v)
      (ltb-true _ _ w))
  beats_trans (pos a) (pos b) (negsuc c) p q r h w v = refl
  beats_trans (pos a) (negsuc b) (pos c) p q r h w v = true_false v refl
  beats_trans (pos a) (negsuc b) (negsuc c) p q r h w v = refl
  beats_trans (negsuc a) (pos b) (pos c) p q r h w v = true_false w refl
  beats_trans (negsuc a) (pos b) (negsuc c) p q r h w v = true_false h refl
  beats_trans (negsuc a) (negsuc b) (pos c) p q r h w v = true_false v refl
  beats_trans (negsuc a) (negsuc b) (negsuc c) p q r h w v = true_false h refl

  beats_not_itself : (a : ℤ) (p : ℕ) → beats g a p a p ≡ false
  unfolding beats
  beats_not_itself (pos a) p = le-ltb (a * a * squared_distance g p) (a * a * squared_distance g p) (omega arith)
  beats_not_itself (negsuc a) p = le-ltb (suc a * suc a * squared_distance g p) (suc a * suc a * squared_distance g p) (omega arith)

-- ---- some neighbour has the largest weighted drop
module _ (g : Grid) (e : List ℤ) (c : ℕ) where
  wins : ℕ → ℕ → Bool
  wins q p = is_data e (neighbour g c q) && beats g (drop_to g e c q) q (drop_to g e c p) p

  record BestTo (k : ℕ) : Type 0 where
    place : ℕ
    small : place < 8
    down : falls g e c place ≡ true
    best : (q : ℕ) → q < k → wins q place ≡ false

  best_more : (k : ℕ) → k < 8 → BestTo k → BestTo (suc k)
  unfolding wins
  best_more k h B = ⊎_elim taken kept (test (wins k p))
    where
      p : ℕ
      p = B.place

      kept : wins k p ≡ false → BestTo (suc k)
      kept f = record {
        place = p;
        small = B.small;
        down = B.down;
        best = λ q l. ⊎_elim (λ i. B.best q i) (λ i. subst (λ (x : ℕ). wins x p ≡ false) (sym i) f) (last? k q (omega arith));
      }

      above : lt_z (pos 0) (drop_to g e c p) ≡ true
      above = and_right (is_data e (neighbour g c p)) (lt_z (pos 0) (drop_to g e c p)) B.down

      taken : wins k p ≡ true → BestTo (suc k)
      taken t =
          record {
            place = k;
            small = h;
            down = and_true (and_left (is_data e (neighbour g c k)) (beats g (drop_to g e c k) k (drop_to g e c p) p) t) up;
            best =
                λ q l. ⊎_elim (λ i. loses q i)
                (λ i. not_true_false (wins q k)
                (λ w. true_false (and_right (is_data e (neighbour g c q)) (beats g (drop_to g e c q) q (drop_to g e c k) k) w)
                (subst (λ (x : ℕ). beats g (drop_to g e c x) x (drop_to g e c k) k ≡ false) (sym i) (beats_not_itself g (drop_to g e c k) k))))
                (last? k q (omega arith));
          }
        where
          over : beats g (drop_to g e c k) k (drop_to g e c p) p ≡ true
          over = and_right (is_data e (neighbour g c k)) (beats g (drop_to g e c k) k (drop_to g e c p) p) t

          up : lt_z (pos 0) (drop_to g e c k) ≡ true
          up = beats_positive g (drop_to g e c k) (drop_to g e c p) k p above over

          loses : (q : ℕ) → q < k → wins q k ≡ false
          loses q i =
              not_true_false (wins q k)
              (λ w. true_false (and_true (and_left (is_data e (neighbour g c q)) (beats g (drop_to g e c q) q (drop_to g e c k) k) w)
              (beats_trans g (drop_to g e c q) (drop_to g e c k) (drop_to g e c p) q k p above
              (and_right (is_data e (neighbour g c q)) (beats g (drop_to g e c q) q (drop_to g e c k) k) w) over)) (B.best q i))

  best_to : (k : ℕ) → k ≤ 8 → BestTo 0 → BestTo k
  best_to zero h B = B
  best_to (suc k) h B = best_more k (omega arith) (best_to k (omega arith) B)

  pub some_steepest : has_descent g e c ≡ true → (p : ℕ) × (p < 8) × (is_steepest g e c p ≡ true)
  unfolding is_steepest beaten wins
  some_steepest h =
      let w = descent_some g e c h in
      let B =
      best_to 8 (omega arith)
      (record { place = w.0; small = w.1; down = w.2; best = λ q l. let z : ⊥ = omega arith in absurd z }) in (
        B.place,
        B.small,
        and_true B.down
            (not_of_false (none_of 8 (λ q. is_data e (neighbour g c q) && beats g (drop_to g e c q) q (drop_to g e c B.place) B.place)
            B.best)),
      )

  pub no_descent_none : has_descent g e c ≡ false → (p : ℕ) → p < 8 → is_steepest g e c p ≡ false
  unfolding is_steepest has_descent
  no_descent_none f p b =
      Rattle.grid_laws.proofs.Tests.and_false_left (not (beaten g e c p)) (Rattle.grid_laws.proofs.Below.no_of_any 8 (falls g e c) f p b)
