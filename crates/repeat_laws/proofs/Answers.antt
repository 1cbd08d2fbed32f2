-- From the numbers to the cells: the lowest number that stands twice in the list is the lowest repeated label.
use mathlib.Core.Path.{◌≡◌, sym, ◌∙◌, ap}
use mathlib.Core.Bool.{false, ◌&&◌}
use mathlib.Core.Logic.{inl, inr}
use mathlib.Core.List.{List}
use Prim.Native.Nat.{ℕ, ◌+◌, ◌≤◌, ◌<◌}
use native.Mathlib.Omega.{arith}
use native.Mathlib.Decide.{dec_lt}
use lib.Dec.{eqb}
use lib.ListN.{get_or}
use borrow.Author.Tests.{eq-eqb, ne_eqb}
use Rattle.grid.specs.declared.Grid.{Grid}
use Rattle.grid.specs.Below.{any_below, first_below}
use Rattle.grid.specs.Sheet.{size}
use Rattle.grid.specs.Routes.{second_cell, first_repeat}
use Rattle.grid_laws.proofs.Tests.{and_true, and_false_left, and_false_right}
use Rattle.grid_laws.proofs.Below.{any_of, none_of, first_is, first_none}
use Rattle.repeat_laws.specs.Listed.{number_in, Listed, Again, LowestTwice, NoneFrom}
use Rattle.repeat_laws.proofs.Repeats.{Twice, twice_repeated, repeated_twice, no_repeat, lowest_repeat}

module _ (g : Grid) (m : ℕ) (starts w : List ℕ) (L : Listed (size g) m starts w) where
  -- a repeated label stands in the list a second time
  abbrev Stands : ℕ → Type 0
  Stands c = (k : ℕ) × (k < m) × Again (number_in 0 w) k × (number_in 0 w k ≡ get_or starts c 0)

  stands : (c d : ℕ) → Twice g starts c d → Stands c
  stands c d t = go (dec_lt (L.place c) (L.place d)) (dec_lt (L.place d) (L.place c))
    where
      above : 0 < get_or starts d 0
      above = let a = t.above in let e = t.same in omega arith

      p : number_in 0 w (L.place c) ≡ get_or starts c 0
      p = L.holds c t.on t.above

      q : number_in 0 w (L.place d) ≡ get_or starts d 0
      q = L.holds d t.other_on above

      go : Dec (L.place c < L.place d) → Dec (L.place d < L.place c) → Stands c
      go (yes l) _ = (L.place d, L.on d t.other_on above, (L.place c, l, p ∙ (t.same ∙ sym q)), q ∙ sym t.same)
      go (no l) (yes k) = (L.place c, L.on c t.on t.above, (L.place d, k, q ∙ (sym t.same ∙ sym p)), p)
      go (no l) (no k) = absurd (t.apart (L.apart c d t.on t.other_on t.above above (omega arith)))

  -- the cell whose label stands at a place
  abbrev At : ℕ → Type 0
  At j = (c : ℕ) × (c < size g) × (0 < get_or starts c 0) × (L.place c ≡ j)

  label : (j : ℕ) (a : At j) → number_in 0 w j ≡ get_or starts a.0 0
  label j a = ap (number_in 0 w) (sym a.3) ∙ L.holds a.0 a.1 a.2

  none_repeated : ((k : ℕ) → k < m → Again (number_in 0 w) k → ⊥) → first_repeat g starts ≡ size g
  none_repeated A =
      no_repeat g starts (λ c h e. let r = repeated_twice g starts c h e in let n = stands c r.0 r.1 in A n.0 n.1 n.2)

  -- fewer than two labels
  pub answer_few : m < 2 → first_repeat g starts ≡ size g
  answer_few l = none_repeated (λ k h a. let y = a.1 in omega arith)

  -- by what the walk found
  pub answer_none : (v : ℕ) → LowestTwice (number_in 0 w) m v → v ≡ 0 → first_repeat g starts ≡ size g
  answer_none v (inl p) e = none_repeated p.1
  answer_none v (inr p) e = let l = p.0 in let z : ⊥ = omega arith in absurd z

  pub answer_second : (v : ℕ) → LowestTwice (number_in 0 w) m v → (v ≡ 0 → ⊥) → first_repeat g starts ≡ second_cell g starts v
  answer_second v (inl p) n = absurd (n p.0)
  answer_second v (inr (positive, (k, h, (i, l, e), q), low)) n = go (L.onto i (omega arith)) (L.onto k h)
    where
      lower : (d : ℕ) → Stands d → v ≤ get_or starts d 0
      lower d t = let z = low t.0 t.1 t.2 in let y = t.3 in omega arith

      go : At i → At k → first_repeat g starts ≡ second_cell g starts v
      go a b =
          lowest_repeat g starts v b.0 b.1
          (twice_repeated g starts b.0 a.0
          (record {
            on = b.1;
            other_on = a.1;
            apart = λ o. (let x = sym b.3 ∙ (ap L.place o ∙ a.3) in omega arith);
            above = b.2;
            same = sym (label k b) ∙ (sym e ∙ label i a);
          }))
          (sym (label k b) ∙ q) (λ d y t. let r = repeated_twice g starts d y t in lower d (stands d r.0 r.1))

-- ---- the second cell with a label

module _ (g : Grid) (starts : List ℕ) (v : ℕ) where
  unlike : (c : ℕ) → (get_or starts c 0 ≡ v → ⊥) → (eqb (get_or starts c 0) v && any_below c (λ d. eqb (get_or starts d 0) v)) ≡ false
  unlike c n = and_false_left _ (ne_eqb (get_or starts c 0) v n)

  -- up to the first cell with the label none has one before it
  lonely : (f : ℕ) → NoneFrom starts v 0 f → (c : ℕ) → c ≤ f →
      (eqb (get_or starts c 0) v && any_below c (λ d. eqb (get_or starts d 0) v)) ≡ false
  lonely f n c h =
      and_false_right (eqb (get_or starts c 0) v)
      (none_of c (λ d. eqb (get_or starts d 0) v) (λ d l. ne_eqb (get_or starts d 0) v (n d (omega arith) (omega arith))))

  pub second_none : NoneFrom starts v 0 (size g) → second_cell g starts v ≡ size g
  unfolding second_cell
  second_none n = first_none (size g) _ (λ c h. unlike c (n c (omega arith) h))

  module _ (f s : ℕ) (first : NoneFrom starts v 0 f) (between : NoneFrom starts v (f + 1) s) where
    before_second : (c : ℕ) → c < s → (eqb (get_or starts c 0) v && any_below c (λ d. eqb (get_or starts d 0) v)) ≡ false
    before_second c h = go (dec_lt f c)
      where
        go : Dec (f < c) → (eqb (get_or starts c 0) v && any_below c (λ d. eqb (get_or starts d 0) v)) ≡ false
        go (yes l) = unlike c (between c (omega arith) h)
        go (no l) = lonely f first c (omega arith)

    pub second_next : f < s → get_or starts f 0 ≡ v → s ≤ size g → (s < size g → get_or starts s 0 ≡ v) → second_cell g starts v ≡ s
    unfolding second_cell
    second_next l e h q = go (dec_lt s (size g))
      where
        go : Dec (s < size g) → first_below (size g) (λ c. eqb (get_or starts c 0) v && any_below c (λ d. eqb (get_or starts d 0) v)) ≡ s
        go (yes k) =
            first_is (size g) _ s k
            (and_true (eq-eqb (get_or starts s 0) v (q k)) (any_of s (λ d. eqb (get_or starts d 0) v) f l (eq-eqb (get_or starts f 0) v e)))
            before_second
        go (no k) =
            let n : size g ≡ s = omega arith in
            first_none (size g) _ (λ c y. before_second c (omega arith)) ∙ n
