-- The largest weighted drop by classes: the positions of a class are equally far, so that its lowest key has its largest drop, and a
-- position has the largest of all eight exactly where it is the lowest of its class and its class is not beaten by another. Square cells
-- have two classes, sides and corners, cells of any shape three.
use mathlib.Core.Path.{◌≡◌, refl, sym, ◌∙◌, ap, ap₂, subst}
use mathlib.Core.Bool.{Bool, true, false, not, cond, ◌&&◌, ◌||◌}
use mathlib.Core.Logic.{◌⊎◌, inl, inr, ⊎_elim}
use mathlib.Core.List.{List}
use Prim.Native.Nat.{ℕ, zero, suc, ◌+◌, ◌-◌, ◌*◌, ◌%◌, ◌≤◌, ◌<◌, min}
use native.Mathlib.Nat.{mul-le-mul, mul-le-mul_right, le_of_mul-le-mul_right, mul-lt-mul_of_pos_right, mul-zero}
use native.Mathlib.Decide.{dec_lt}
use native.Mathlib.Omega.{arith}
use lib.Dec.{eqb, ltb, leb, lit<}
use lib.ListN.{get_or}
use borrow.Author.Tests.{ltb-true, ltb-false, lt-ltb, le-ltb, lt-leb, le-leb, eqb-true, eq-eqb}
use Rattle.grid.specs.Below.{any_below, sum_below}
use Rattle.grid.specs.Sheet.{code_at}
use Rattle.grid_laws.proofs.Tests.{and_true, and_left, and_right, or_left, or_right, or_cases}
use Rattle.grid_laws.proofs.Tests.{not_of_false, not_is_true, same_test}
use Rattle.grid_laws.proofs.Neighbours.{at_eight}
use Rattle.grid_laws.proofs.Below.{any_of, some_of_any, no_of_any, none_of}
use Rattle.slopes.specs.Steepest.{distance_of, square_at, unbeaten, steepest_in, any_void, lowest_of}
use Rattle.slopes.specs.Steepest.{low_side, low_across, low_along, low_corner, side_codes, across_codes, along_codes, corner_codes}
use Rattle.slopes.specs.Steepest.{leads_of, leads_both_of, larger_of, largest_of}

-- ---- the lowest of four
abbrev Lower : ℕ → ℕ → ℕ → Type 0
Lower m a b = (m ≤ a) × (m ≤ b) × ((m ≡ a) ⊎ (m ≡ b))

lower_is : (a b : ℕ) → Lower (min a b) a b
lower_is a b = go (dec_lt b a)
  where
    go : Dec (b < a) → Lower (min a b) a b
    go (yes h) = (omega arith, omega arith, inr (omega arith))
    go (no h) = (omega arith, omega arith, inl (omega arith))

-- at most each, and one of them
pub record Lowest (m a b c d : ℕ) : Type 0 where
  pub first : m ≤ a
  pub second : m ≤ b
  pub third : m ≤ c
  pub fourth : m ≤ d
  pub one : ((m ≡ a) ⊎ (m ≡ b)) ⊎ ((m ≡ c) ⊎ (m ≡ d))

pub lowest_is : (a b c d : ℕ) → Lowest (lowest_of a b c d) a b c d
lowest_is a b c d =
    let x = lower_is a b in
    let y = lower_is c d in
    let z = lower_is (min a b) (min c d) in
    let x0 = x.0 in
    let x1 = x.1 in
    let y0 = y.0 in
    let y1 = y.1 in
    let z0 = z.0 in
    let z1 = z.1 in
    record {
      first = omega arith;
      second = omega arith;
      third = omega arith;
      fourth = omega arith;
      one =
          ⊎_elim (λ q. inl (⊎_elim (λ r. inl (q ∙ r)) (λ r. inr (q ∙ r)) x.2))
          (λ q. inr (⊎_elim (λ r. inl (q ∙ r)) (λ r. inr (q ∙ r)) y.2)) z.2;
    }

-- ---- squares
square_le : (a b : ℕ) → a ≤ b → a * a ≤ b * b
square_le a b h = mul-le-mul {n₁ = a} {m₁ = a} {n₂ = b} {m₂ = b} h h

square_back : (a b : ℕ) → a * a ≤ b * b → a ≤ b
square_back a b h = go (dec_lt b a)
  where
    go : Dec (b < a) → a ≤ b
    go (yes l) =
        let one : b * a < a * a = mul-lt-mul_of_pos_right l (omega arith) in
        let two : b * b ≤ b * a = mul-le-mul {n₁ = b} {m₁ = b} {n₂ = b} {m₂ = a} (omega arith) (omega arith) in
        let z : ⊥ = omega arith in
        absurd z
    go (no f) = omega arith

-- ---- classes of equally far positions: `low` is the lowest key of a class, `far` its squared distance
pub record Classes (D : ℕ → ℕ) (l : List ℕ) (K : ℕ) (class low far : ℕ → ℕ) : Type 0 where
  pub of : (q : ℕ) → q < 8 → class q < K
  pub least : (q : ℕ) → q < 8 → low (class q) ≤ get_or l q 0
  pub equally : (q : ℕ) → q < 8 → D q ≡ far (class q)
  pub has : (k : ℕ) → k < K → (m : ℕ) × (m < 8) × (class m ≡ k) × (get_or l m 0 ≡ low k)
  pub apart : (k : ℕ) → k < K → 0 < far k

-- of K classes with the drops `drop`: the class k has a drop, and none is larger
unfoldable leading : ℕ → (drop far : ℕ → ℕ) → ℕ → Bool
leading K drop far k = ltb 0 (drop k) && not (any_below K (λ j. ltb (drop k * drop k * far j) (drop j * drop j * far k)))

module _ (D : ℕ → ℕ) (own : ℕ) (l : List ℕ) (K : ℕ) (class low far : ℕ → ℕ) (C : Classes D l K class low far) where
  abbrev drop : ℕ → ℕ
  drop k = own - low k

  abbrev over : ℕ → ℕ → Bool
  over q r = ltb (square_at own l q * D r) (square_at own l r * D q)

  abbrev under : ℕ → ℕ → Bool
  under k j = ltb (drop k * drop k * far j) (drop j * drop j * far k)

  module _ (q : ℕ) (hq : q < 8) where
    -- what no position beats, no class's lowest beats
    against : (k : ℕ) → k < K → ((r : ℕ) → r < 8 → over q r ≡ false) → drop k * drop k * far (class q) ≤ square_at own l q * far k
    against k hk none =
        let w = C.has k hk in
        let m = w.0 in
        let n = ltb-false (square_at own l q * D m) (square_at own l m * D q) (none m w.1) in
        let e : D m ≡ far k = C.equally m w.1 ∙ ap far w.2 in
        subst (λ (x : ℕ). (own - x) * (own - x) * far (class q) ≤ square_at own l q * far k) w.3
        (subst (λ (x : ℕ). square_at own l m * far (class q) ≤ square_at own l q * x) e
        (subst (λ (x : ℕ). square_at own l m * x ≤ square_at own l q * D m) (C.equally q hq) (omega (arith, n))))

    -- a position with the largest drop is the lowest of its class
    lowest_of_class : get_or l q 0 < own → ((r : ℕ) → r < 8 → over q r ≡ false) → get_or l q 0 ≡ low (class q)
    lowest_of_class falls none =
        let k = class q in
        let s = square_back (drop k) (own - get_or l q 0)
        (le_of_mul-le-mul_right {m = drop k * drop k} {n = square_at own l q} {k = far k} (against k (C.of q hq) none)
        (C.apart k (C.of q hq))) in
        let h = C.least q hq in
        omega arith

    -- where it is, and no class beats its own, no position beats it
    none_over : get_or l q 0 ≡ low (class q) → ((j : ℕ) → j < K → under (class q) j ≡ false) → (r : ℕ) → r < 8 → over q r ≡ false
    none_over here none r hr =
        let k = class r in
        let a = ltb-false (drop (class q) * drop (class q) * far k) (drop k * drop k * far (class q)) (none k (C.of r hr)) in
        let h = C.least r hr in
        let b : square_at own l r * far (class q) ≤ drop k * drop k * far (class q) =
        mul-le-mul_right (far (class q)) (square_le (own - get_or l r 0) (drop k) (omega arith)) in
        le-ltb (square_at own l q * D r) (square_at own l r * D q) (rw (C.equally q hq, C.equally r hr, here) (omega arith))

    unbeaten_is : unbeaten D own l q ≡ (leading K drop far (class q) && eqb (get_or l q 0) (low (class q)))
    unfolding unbeaten leading
    unbeaten_is = same_test _ _ there back
      where
        there : unbeaten D own l q ≡ true → (leading K drop far (class q) && eqb (get_or l q 0) (low (class q))) ≡ true
        there u =
            let falls = ltb-true (get_or l q 0) own (and_left (ltb (get_or l q 0) own) (not (any_below 8 (over q))) u) in
            let none =
            no_of_any 8 (over q)
            (not_is_true (any_below 8 (over q)) (and_right (ltb (get_or l q 0) own) (not (any_below 8 (over q))) u)) in
            let here = lowest_of_class falls none in
            and_true
            (and_true (lt-ltb 0 (drop (class q)) (omega arith))
            (not_of_false (none_of K (under (class q))
            (λ j h. le-ltb (drop (class q) * drop (class q) * far j) (drop j * drop j * far (class q))
            (subst (λ (x : ℕ). drop j * drop j * far (class q) ≤ (own - x) * (own - x) * far j) here (against j h none))))))
            (eq-eqb (get_or l q 0) (low (class q)) here)

        back : (leading K drop far (class q) && eqb (get_or l q 0) (low (class q))) ≡ true → unbeaten D own l q ≡ true
        back t =
            let lead = and_left (leading K drop far (class q)) (eqb (get_or l q 0) (low (class q))) t in
            let same = and_right (leading K drop far (class q)) (eqb (get_or l q 0) (low (class q))) t in
            let here = eqb-true (get_or l q 0) (low (class q)) same in
            let above = ltb-true 0 (drop (class q)) (and_left (ltb 0 (drop (class q))) (not (any_below K (under (class q)))) lead) in
            let none =
            no_of_any K (under (class q))
            (not_is_true (any_below K (under (class q))) (and_right (ltb 0 (drop (class q))) (not (any_below K (under (class q)))) lead)) in
            and_true (lt-ltb (get_or l q 0) own (omega arith)) (not_of_false (none_of 8 (over q) (none_over here none)))

-- ---- sums of codes
times : (t : Bool) (m n : ℕ) → cond t (m * n) 0 ≡ m * cond t n 0
times true m n = refl
times false m n = sym (mul-zero m)

-- the codes of each class by themselves
side_sum : (s t u v w : Bool) → cond (s && t) 2 0 + cond (s && u) 8 0 + cond (s && v) 32 0 + cond (s && w) 128 0
    ≡ cond s (2 * (cond t 1 0 + cond u 4 0 + cond v 16 0 + cond w 64 0)) 0
side_sum true t u v w = omega (arith, times t 2 1, times u 2 4, times v 2 16, times w 2 64)
side_sum false t u v w = refl

across_sum : (s t u : Bool) → cond (s && t) 2 0 + cond (s && u) 32 0 ≡ cond s (2 * (cond t 1 0 + cond u 16 0)) 0
across_sum true t u = omega (arith, times t 2 1, times u 2 16)
across_sum false t u = refl

along_sum : (s t u : Bool) → cond (s && t) 8 0 + cond (s && u) 128 0 ≡ cond s (8 * (cond t 1 0 + cond u 16 0)) 0
along_sum true t u = omega (arith, times t 8 1, times u 8 16)
along_sum false t u = refl

corner_sum : (s t u v w : Bool) → cond (s && t) 1 0 + cond (s && u) 4 0 + cond (s && v) 16 0 + cond (s && w) 64 0
    ≡ cond s (cond t 1 0 + cond u 4 0 + cond v 16 0 + cond w 64 0) 0
corner_sum true t u v w = refl
corner_sum false t u v w = refl

sum_of_eight : (f : ℕ → ℕ) → sum_below 8 f ≡ f 0 + f 1 + f 2 + f 3 + f 4 + f 5 + f 6 + f 7
unfolding sum_below
sum_of_eight f = omega arith

-- ---- what the functions compare
not_below : (x y : ℕ) → not (ltb x y) ≡ leb y x
not_below x y = go (dec_lt x y)
  where
    go : Dec (x < y) → not (ltb x y) ≡ leb y x
    go (yes h) = ap not (lt-ltb x y h) ∙ sym (lt-leb y x h)
    go (no f) = ap not (le-ltb x y (omega arith)) ∙ sym (le-leb y x (omega arith))

itself : (x : ℕ) → ltb x x ≡ false
itself x = le-ltb x x (omega arith)

or_false : (s : Bool) → (s || false) ≡ s
or_false true = refl
or_false false = refl

neither : (d s t : Bool) → (d && not (s || t)) ≡ ((d && not s) && not t)
neither true true t = refl
neither true false t = refl
neither false s t = refl

pub larger_is : (a sides b corners : ℕ) {ab ba : ℕ} {s c : Bool} → ab ≡ a * a * 2 → ba ≡ b * b * 1 → s ≡ leads_of a ab ba →
    c ≡ leads_of b ba ab → cond s sides 0 + cond c corners 0 ≡ larger_of a sides b corners
unfolding larger_of
larger_is a sides b corners p q u v = rw (u, v, p, q) refl

pub largest_is : (w h d a across b along c corners : ℕ) {ab ba ac ca bc cb : ℕ} {x y z : Bool} → ab ≡ a * a * h → ba ≡ b * b * w →
    ac ≡ a * a * d → ca ≡ c * c * w → bc ≡ b * b * d → cb ≡ c * c * h → x ≡ leads_both_of a ac ca ab ba →
    y ≡ leads_both_of b bc cb ba ab → z ≡ leads_both_of c ca ac cb bc →
    cond x across 0 + cond y along 0 + cond z corners 0 ≡ largest_of w h d a across b along c corners
unfolding largest_of
largest_is w h d a across b along c corners e1 e2 e3 e4 e5 e6 u v t = rw (u, v, t, e1, e2, e3, e4, e5, e6) refl

-- of two classes and of three, where one is the class itself
leads_one : (d x y : ℕ) {s : Bool} → s ≡ ltb x y → (ltb 0 d && not s) ≡ leads_of d x y
leads_one d x y q = ap (λ (t : Bool). ltb 0 d && t) (ap not q ∙ not_below x y)

leads_two : (d x y z v : ℕ) {s : Bool} → s ≡ (ltb x y || ltb z v) → (ltb 0 d && not s) ≡ leads_both_of d x y z v
leads_two d x y z v q =
    ap (λ (t : Bool). ltb 0 d && not t) q ∙ neither (ltb 0 d) (ltb x y) (ltb z v)
    ∙ ap₂ (λ (s t : Bool). (ltb 0 d && s) && t) (not_below x y) (not_below z v)

module _ (own : ℕ) (l : List ℕ) where
  abbrev k : ℕ → ℕ
  k p = get_or l p 0

  corner_low : Lowest (low_corner l) (k 0) (k 2) (k 4) (k 6)
  corner_low = lowest_is (k 0) (k 2) (k 4) (k 6)

  -- ---- square cells: corners and sides
  side_low : Lowest (low_side l) (k 1) (k 3) (k 5) (k 7)
  side_low = lowest_is (k 1) (k 3) (k 5) (k 7)

  abbrev class2 : ℕ → ℕ
  class2 q = q % 2

  abbrev low2 : ℕ → ℕ
  low2 j = cond (eqb j 0) (low_corner l) (low_side l)

  abbrev far2 : ℕ → ℕ
  far2 j = cond (eqb j 0) 2 1

  corners_and_sides : Classes (distance_of 1 1) l 2 class2 low2 far2
  corners_and_sides =
      record {
        of = at_eight (λ q. class2 q < 2) (lit< tt) (lit< tt) (lit< tt) (lit< tt) (lit< tt) (lit< tt) (lit< tt) (lit< tt);
        least =
            at_eight (λ q. low2 (class2 q) ≤ k q) corner_low.first side_low.first corner_low.second side_low.second
            corner_low.third side_low.third corner_low.fourth side_low.fourth;
        equally = at_eight (λ q. distance_of 1 1 q ≡ far2 (class2 q)) refl refl refl refl refl refl refl refl;
        has = has;
        apart = apart;
      }
    where
      has : (j : ℕ) → j < 2 → (m : ℕ) × (m < 8) × (class2 m ≡ j) × (k m ≡ low2 j)
      has zero h =
          ⊎_elim (⊎_elim (λ q. (0, lit< tt, refl, sym q)) (λ q. (2, lit< tt, refl, sym q)))
          (⊎_elim (λ q. (4, lit< tt, refl, sym q)) (λ q. (6, lit< tt, refl, sym q))) corner_low.one
      has (suc zero) h =
          ⊎_elim (⊎_elim (λ q. (1, lit< tt, refl, sym q)) (λ q. (3, lit< tt, refl, sym q)))
          (⊎_elim (λ q. (5, lit< tt, refl, sym q)) (λ q. (7, lit< tt, refl, sym q))) side_low.one
      has (suc (suc j)) h = let z : ⊥ = omega arith in absurd z

      apart : (j : ℕ) → j < 2 → 0 < far2 j
      apart zero h = lit< tt
      apart (suc zero) h = lit< tt
      apart (suc (suc j)) h = let z : ⊥ = omega arith in absurd z

  abbrev drop2 : ℕ → ℕ
  drop2 j = own - low2 j

  corners_lead : leading 2 drop2 far2 0 ≡ leads_of (drop2 0) (drop2 0 * drop2 0 * 1) (drop2 1 * drop2 1 * 2)
  unfolding leading any_below
  corners_lead =
      leads_one (drop2 0) (drop2 0 * drop2 0 * 1) (drop2 1 * drop2 1 * 2)
      (ap (λ (t : Bool). t || ltb (drop2 0 * drop2 0 * 1) (drop2 1 * drop2 1 * 2)) (itself (drop2 0 * drop2 0 * 2)))

  sides_lead : leading 2 drop2 far2 1 ≡ leads_of (drop2 1) (drop2 1 * drop2 1 * 2) (drop2 0 * drop2 0 * 1)
  unfolding leading any_below
  sides_lead =
      leads_one (drop2 1) (drop2 1 * drop2 1 * 2) (drop2 0 * drop2 0 * 1)
      (ap (λ (t : Bool). ltb (drop2 1 * drop2 1 * 2) (drop2 0 * drop2 0 * 1) || t) (itself (drop2 1 * drop2 1 * 1))
      ∙ or_false (ltb (drop2 1 * drop2 1 * 2) (drop2 0 * drop2 0 * 1)))

  code2 : ℕ → ℕ
  code2 q = cond (unbeaten (distance_of 1 1) own l q) (code_at q) 0

  square_code : (q : ℕ) → q < 8 → (s : Bool) → leading 2 drop2 far2 (class2 q) ≡ s →
      code2 q ≡ cond (s && eqb (k q) (low2 (class2 q))) (code_at q) 0
  unfolding code2
  square_code q h s e =
      ap (λ (t : Bool). cond t (code_at q) 0)
      (unbeaten_is (distance_of 1 1) own l 2 class2 low2 far2 corners_and_sides q h ∙ ap (λ (t : Bool). t && eqb (k q) (low2 (class2 q))) e)

  pub larger_all : larger_of (own - low_side l) (side_codes l (low_side l)) (own - low_corner l) (corner_codes l (low_corner l))
      ≡ steepest_in 1 1 own l
  unfolding steepest_in larger_of code2
  larger_all =
      let c = leads_of (drop2 0) (drop2 0 * drop2 0 * 1) (drop2 1 * drop2 1 * 2) in
      let s = leads_of (drop2 1) (drop2 1 * drop2 1 * 2) (drop2 0 * drop2 0 * 1) in
      let c0 = square_code 0 (lit< tt) c corners_lead in
      let s1 = square_code 1 (lit< tt) s sides_lead in
      let c2 = square_code 2 (lit< tt) c corners_lead in
      let s3 = square_code 3 (lit< tt) s sides_lead in
      let c4 = square_code 4 (lit< tt) c corners_lead in
      let s5 = square_code 5 (lit< tt) s sides_lead in
      let c6 = square_code 6 (lit< tt) c corners_lead in
      let s7 = square_code 7 (lit< tt) s sides_lead in
      let cs = corner_sum c (eqb (k 0) (low_corner l)) (eqb (k 2) (low_corner l)) (eqb (k 4) (low_corner l)) (eqb (k 6) (low_corner l)) in
      let ss = side_sum s (eqb (k 1) (low_side l)) (eqb (k 3) (low_side l)) (eqb (k 5) (low_side l)) (eqb (k 7) (low_side l)) in
      omega (arith, sum_of_eight code2, cs, ss, c0, s1, c2, s3, c4, s5, c6, s7)

  -- a void is among the nine exactly where the lowest of them is 0
  pub low_void : (x : ℕ) → x ≡ min (min (low_corner l) (low_side l)) own → eqb x 0 ≡ any_void own l
  unfolding any_void
  low_void x e = same_test (eqb x 0) (any_void own l) there back
    where
      outer : Lower (min (min (low_corner l) (low_side l)) own) (min (low_corner l) (low_side l)) own
      outer = lower_is (min (low_corner l) (low_side l)) own

      inner : Lower (min (low_corner l) (low_side l)) (low_corner l) (low_side l)
      inner = lower_is (low_corner l) (low_side l)

      around : (j : ℕ) → j < 2 → low2 j ≡ 0 → any_below 8 (λ q. eqb (k q) 0) ≡ true
      around j b z = let w = corners_and_sides.has j b in any_of 8 (λ q. eqb (k q) 0) w.0 w.1 (eq-eqb (k w.0) 0 (w.3 ∙ z))

      there : eqb x 0 ≡ true → any_void own l ≡ true
      there h =
          let z = eqb-true x 0 h in
          ⊎_elim
          (λ q. or_right (eqb own 0)
          (⊎_elim (λ r. around 0 (lit< tt) (sym r ∙ sym q ∙ sym e ∙ z)) (λ r. around 1 (lit< tt) (sym r ∙ sym q ∙ sym e ∙ z))
          inner.2))
          (λ q. or_left (any_below 8 (λ q. eqb (k q) 0)) (eq-eqb own 0 (sym q ∙ sym e ∙ z))) outer.2

      under : (q : ℕ) → q < 8 → min (low_corner l) (low_side l) ≤ k q
      under =
          at_eight (λ q. min (low_corner l) (low_side l) ≤ k q) (omega (arith, inner.0, corner_low.first))
          (omega (arith, inner.1, side_low.first)) (omega (arith, inner.0, corner_low.second))
          (omega (arith, inner.1, side_low.second)) (omega (arith, inner.0, corner_low.third))
          (omega (arith, inner.1, side_low.third)) (omega (arith, inner.0, corner_low.fourth))
          (omega (arith, inner.1, side_low.fourth))

      back : any_void own l ≡ true → eqb x 0 ≡ true
      back h =
          let a = outer.0 in
          let b = outer.1 in
          eq-eqb x 0
          (⊎_elim (λ t. let z = eqb-true own 0 t in omega arith)
          (λ t. let w = some_of_any 8 (λ q. eqb (k q) 0) t in
          let z = eqb-true (k w.0) 0 w.2 in
          let u = under w.0 w.1 in
          omega arith)
          (or_cases (eqb own 0) (any_below 8 (λ q. eqb (k q) 0)) h))

  -- ---- what the functions work out
  pub square_by : {side corner a b sides corners r : ℕ} → side ≡ low_side l → corner ≡ low_corner l → a ≡ own - side → b ≡ own - corner →
      sides ≡ side_codes l side → corners ≡ corner_codes l corner → r ≡ larger_of a sides b corners → r ≡ steepest_in 1 1 own l
  square_by e1 e2 ea eb es ec er = er ∙ rw (ea, eb, es, ec, e1, e2) larger_all

  pub void_by : {corner side low x r : ℕ} (sum : ℕ) → corner ≡ low_corner l → side ≡ low_side l → low ≡ min corner side →
      x ≡ min low own → r ≡ cond (eqb x 0) 256 sum → r ≡ cond (any_void own l) 256 sum
  void_by {x = x} sum ec es el ex er = er ∙ ap (λ (t : Bool). cond t 256 sum) (low_void x (ex ∙ rw (el, ec, es) refl))

  -- ---- cells of any shape: corners, east and west, north and south
  across_low : Lower (low_across l) (k 1) (k 5)
  across_low = lower_is (k 1) (k 5)

  along_low : Lower (low_along l) (k 3) (k 7)
  along_low = lower_is (k 3) (k 7)

  abbrev class3 : ℕ → ℕ
  class3 q = cond (eqb (q % 2) 0) 0 (cond (eqb (q % 4) 1) 1 2)

  abbrev low3 : ℕ → ℕ
  low3 j = cond (eqb j 0) (low_corner l) (cond (eqb j 1) (low_across l) (low_along l))

  abbrev drop3 : ℕ → ℕ
  drop3 j = own - low3 j

  module _ (w h : ℕ) (wide : 1 ≤ w) (high : 1 ≤ h) where
    abbrev far3 : ℕ → ℕ
    far3 j = cond (eqb j 0) (w + h) (cond (eqb j 1) w h)

    three : Classes (distance_of w h) l 3 class3 low3 far3
    three =
        record {
          of = at_eight (λ q. class3 q < 3) (lit< tt) (lit< tt) (lit< tt) (lit< tt) (lit< tt) (lit< tt) (lit< tt) (lit< tt);
          least =
              at_eight (λ q. low3 (class3 q) ≤ k q) corner_low.first across_low.0 corner_low.second along_low.0
              corner_low.third across_low.1 corner_low.fourth along_low.1;
          equally = at_eight (λ q. distance_of w h q ≡ far3 (class3 q)) refl refl refl refl refl refl refl refl;
          has = has;
          apart = apart;
        }
      where
        has : (j : ℕ) → j < 3 → (m : ℕ) × (m < 8) × (class3 m ≡ j) × (k m ≡ low3 j)
        has zero b =
            ⊎_elim (⊎_elim (λ q. (0, lit< tt, refl, sym q)) (λ q. (2, lit< tt, refl, sym q)))
            (⊎_elim (λ q. (4, lit< tt, refl, sym q)) (λ q. (6, lit< tt, refl, sym q))) corner_low.one
        has (suc zero) b = ⊎_elim (λ q. (1, lit< tt, refl, sym q)) (λ q. (5, lit< tt, refl, sym q)) across_low.2
        has (suc (suc zero)) b = ⊎_elim (λ q. (3, lit< tt, refl, sym q)) (λ q. (7, lit< tt, refl, sym q)) along_low.2
        has (suc (suc (suc j))) b = let z : ⊥ = omega arith in absurd z

        apart : (j : ℕ) → j < 3 → 0 < far3 j
        apart zero b = omega arith
        apart (suc zero) b = omega arith
        apart (suc (suc zero)) b = omega arith
        apart (suc (suc (suc j))) b = let z : ⊥ = omega arith in absurd z

    abbrev product : ℕ → ℕ → ℕ
    product i j = drop3 i * drop3 i * far3 j

    abbrev behind : ℕ → ℕ → Bool
    behind i j = ltb (product i j) (product j i)

    -- which class leads, of corners 0, east and west 1, north and south 2
    lead0 : leading 3 drop3 far3 0 ≡ leads_both_of (drop3 0) (product 0 1) (product 1 0) (product 0 2) (product 2 0)
    unfolding leading any_below
    lead0 =
        leads_two (drop3 0) (product 0 1) (product 1 0) (product 0 2) (product 2 0)
        (ap (λ (t : Bool). (t || behind 0 1) || behind 0 2) (itself (product 0 0)))

    lead1 : leading 3 drop3 far3 1 ≡ leads_both_of (drop3 1) (product 1 0) (product 0 1) (product 1 2) (product 2 1)
    unfolding leading any_below
    lead1 =
        leads_two (drop3 1) (product 1 0) (product 0 1) (product 1 2) (product 2 1)
        (ap (λ (t : Bool). t || behind 1 2)
        (ap (λ (t : Bool). behind 1 0 || t) (itself (product 1 1)) ∙ or_false (behind 1 0)))

    lead2 : leading 3 drop3 far3 2 ≡ leads_both_of (drop3 2) (product 2 0) (product 0 2) (product 2 1) (product 1 2)
    unfolding leading any_below
    lead2 =
        leads_two (drop3 2) (product 2 0) (product 0 2) (product 2 1) (product 1 2)
        (ap (λ (t : Bool). (behind 2 0 || behind 2 1) || t) (itself (product 2 2)) ∙ or_false (behind 2 0 || behind 2 1))

    code3 : ℕ → ℕ
    code3 q = cond (unbeaten (distance_of w h) own l q) (code_at q) 0

    oblong_code : (q : ℕ) → q < 8 → (s : Bool) → leading 3 drop3 far3 (class3 q) ≡ s →
        code3 q ≡ cond (s && eqb (k q) (low3 (class3 q))) (code_at q) 0
    unfolding code3
    oblong_code q b s e =
        ap (λ (t : Bool). cond t (code_at q) 0)
        (unbeaten_is (distance_of w h) own l 3 class3 low3 far3 three q b ∙ ap (λ (t : Bool). t && eqb (k q) (low3 (class3 q))) e)

    pub largest_all : largest_of w h (w + h) (own - low_across l) (across_codes l (low_across l)) (own - low_along l) (along_codes l (low_along l))
        (own - low_corner l) (corner_codes l (low_corner l)) ≡ steepest_in w h own l
    unfolding steepest_in largest_of code3
    largest_all =
        let c = leads_both_of (drop3 0) (product 0 1) (product 1 0) (product 0 2) (product 2 0) in
        let x = leads_both_of (drop3 1) (product 1 0) (product 0 1) (product 1 2) (product 2 1) in
        let y = leads_both_of (drop3 2) (product 2 0) (product 0 2) (product 2 1) (product 1 2) in
        let c0 = oblong_code 0 (lit< tt) c lead0 in
        let x1 = oblong_code 1 (lit< tt) x lead1 in
        let c2 = oblong_code 2 (lit< tt) c lead0 in
        let y3 = oblong_code 3 (lit< tt) y lead2 in
        let c4 = oblong_code 4 (lit< tt) c lead0 in
        let x5 = oblong_code 5 (lit< tt) x lead1 in
        let c6 = oblong_code 6 (lit< tt) c lead0 in
        let y7 = oblong_code 7 (lit< tt) y lead2 in
        let cs = corner_sum c (eqb (k 0) (low_corner l)) (eqb (k 2) (low_corner l)) (eqb (k 4) (low_corner l)) (eqb (k 6) (low_corner l)) in
        let xs = across_sum x (eqb (k 1) (low_across l)) (eqb (k 5) (low_across l)) in
        let ys = along_sum y (eqb (k 3) (low_along l)) (eqb (k 7) (low_along l)) in
        omega (arith, sum_of_eight code3, cs, xs, ys, c0, x1, c2, y3, c4, x5, c6, y7)

    pub oblong_by : {x y z a b c across along corners r : ℕ} → x ≡ low_across l → y ≡ low_along l → z ≡ low_corner l →
        a ≡ own - x → b ≡ own - y → c ≡ own - z → across ≡ across_codes l x → along ≡ along_codes l y → corners ≡ corner_codes l z →
        r ≡ largest_of w h (w + h) a across b along c corners → r ≡ steepest_in w h own l
    oblong_by ex ey ez ea eb ec ed ef eg er = er ∙ rw (ea, eb, ec, ed, ef, eg, ex, ey, ez) largest_all
