-- Codes by table, and the mark of a cell by the tests that a program makes.
use mathlib.Core.Path.{◌≡◌, refl, sym, ◌∙◌, ap, ap₂, subst}
use mathlib.Core.Logic.{◌⊎◌, inl, inr, ⊎_elim}
use mathlib.Core.Bool.{Bool, true, false, not, cond, ◌&&◌}
use mathlib.Core.List.{List}
use Prim.Native.Nat.{ℕ, zero, suc, ◌+◌, ◌*◌, ◌/◌, ◌%◌, ◌^◌, ◌≤◌, ◌<◌}
use native.Mathlib.Omega.{arith}
use native.Mathlib.Decide.{dec_lt}
use lib.Dec.{eqb, ltb, lit<}
use lib.ListN.{length, get_or, set, replicate, length-set}
use lib.Seq.{get_or-set_same, get_or-set_other}
use borrow.Author.Count.{below_more}
use borrow.Author.Tests.{eqb-true, ltb-true}
use Rattle.grid.specs.declared.Grid.{Grid}
use Rattle.grid.specs.Below.{table, first_below}
use Rattle.grid.specs.Sheet.{size, code_at, position_of, neighbour}
use Rattle.grid.specs.Routes.{position_at, has_code, receiver, first_bad_code}
use Rattle.grid_laws.proofs.Tests.{test, true_false, cond_true, cond_false, or_cases, or_none_left, or_none_right}
use Rattle.grid_laws.proofs.Tests.{and_true, and_false_left, and_false_right, not_of_true, not_of_false, not_true_false}
use Rattle.grid_laws.proofs.Below.{at_table, first_is, first_none, first_found, first_all}
use Rattle.grid_laws.proofs.Neighbours.{at_eight, position_of_code, no_code}
use Rattle.route_laws.specs.Receivers.{receiver_mark, AllCodes}
use Rattle.route_laws.proofs.Receivers.{code_below}
use Rattle.cells.specs.Steps.{down_of, right_of, Inner, Offsets}
use Rattle.cells.proofs.Steps.{inner_offset}
use Rattle.receivers.specs.Written.{is_allowed, bad_table, FirstBad, ReachTable}

-- ---- the table of what is no code, once the codes of the first p positions are taken out
unfoldable pub bad_but : ℕ → List ℕ
bad_but zero = set (replicate 256 1) 0 0
bad_but (suc p) = set (bad_but p) (code_at p) 0

pub length_bad_but : (p : ℕ) → length (bad_but p) ≡ 256
unfolding bad_but
length_bad_but zero = refl
length_bad_but (suc p) = length-set (bad_but p) (code_at p) 0 ∙ length_bad_but p

pub bad_none : set (replicate 256 1) 0 0 ≡ bad_but 0
unfolding bad_but
bad_none = refl

pub bad_more : (l : List ℕ) (p k : ℕ) → k ≡ code_at p → l ≡ bad_but p → set l k 0 ≡ bad_but (p + 1)
unfolding bad_but
bad_more l p k e q =
    let s : suc p ≡ p + 1 = omega arith in
    ap₂ (λ (x : List ℕ) (y : ℕ). set x y 0) q e ∙ ap bad_but s

pub bad_table_is : (l : List ℕ) (p : ℕ) → p ≡ 8 → l ≡ bad_but p → l ≡ bad_table
unfolding bad_but bad_table table is_allowed position_of first_below
bad_table_is l p e q = q ∙ ap bad_but e

pub at_bad_table : (k : ℕ) → k < 256 → get_or bad_table k 0 ≡ cond (is_allowed k) 0 1
unfolding bad_table
at_bad_table k h = at_table 256 (λ k. cond (is_allowed k) 0 1) k 0 h

pub bad_yes : (k : ℕ) → k < 256 → get_or bad_table k 0 ≡ 1 → is_allowed k ≡ false
bad_yes k h e =
    not_true_false (is_allowed k) (λ t. let q : get_or bad_table k 0 ≡ 0 = at_bad_table k h ∙ cond_true 0 1 t in let z : ⊥ = omega arith in z)

pub bad_no : (k : ℕ) → k < 256 → (get_or bad_table k 0 ≡ 1 → ⊥) → is_allowed k ≡ true
bad_no k h f = ⊎_elim (λ t. t) (λ t. absurd (f (at_bad_table k h ∙ cond_false 0 1 t))) (test (is_allowed k))

-- ---- question 11
module _ (g : Grid) (codes : List ℕ) where
  not_bad : (c : ℕ) → is_allowed (get_or codes c 0) ≡ true → (not (eqb (get_or codes c 0) 0) && not (has_code codes c)) ≡ false
  unfolding is_allowed has_code
  not_bad c t =
      ⊎_elim (λ e. and_false_left _ (not_of_true e)) (λ e. and_false_right (not (eqb (get_or codes c 0) 0)) (not_of_true e))
      (or_cases (eqb (get_or codes c 0) 0) (ltb (position_at codes c) 8) t)

  bad : (c : ℕ) → is_allowed (get_or codes c 0) ≡ false → (not (eqb (get_or codes c 0) 0) && not (has_code codes c)) ≡ true
  unfolding is_allowed has_code
  bad c f =
      and_true (not_of_false (or_none_left (eqb (get_or codes c 0) 0) (ltb (position_at codes c) 8) f))
      (not_of_false (or_none_right (eqb (get_or codes c 0) 0) (ltb (position_at codes c) 8) f))

  pub first_bad_is : length codes ≡ size g → (r : ℕ) → FirstBad codes r → r ≡ first_bad_code g codes
  unfolding first_bad_code
  first_bad_is long r F = go (dec_lt r (size g))
    where
      p : ℕ → Bool
      p = λ c. not (eqb (get_or codes c 0) 0) && not (has_code codes c)

      go : Dec (r < size g) → r ≡ first_below (size g) (λ c. not (eqb (get_or codes c 0) 0) && not (has_code codes c))
      go (yes h) =
          sym (first_is (size g) (λ c. not (eqb (get_or codes c 0) 0) && not (has_code codes c)) r h (bad r (F.at (omega arith)))
          (λ j l. not_bad j (F.below j l)))
      go (no f) =
          let w = F.within in
          let e : r ≡ size g = omega arith in
          e
          ∙ sym (first_none (size g) (λ c. not (eqb (get_or codes c 0) 0) && not (has_code codes c))
          (λ j l. not_bad j (F.below j (omega arith))))

  -- a yes: every code is 0 or one of the eight
  pub all_codes : length codes ≡ size g → first_bad_code g codes ≡ size g → AllCodes codes
  unfolding first_bad_code
  all_codes long e c = go (dec_lt c (size g)) (test (eqb (get_or codes c 0) 0)) (test (has_code codes c))
    where
      go : Dec (c < size g) → (eqb (get_or codes c 0) 0 ≡ true) ⊎ (eqb (get_or codes c 0) 0 ≡ false) →
          (has_code codes c ≡ true) ⊎ (has_code codes c ≡ false) → (get_or codes c 0 ≡ 0) ⊎ (has_code codes c ≡ true)
      go d (inl z) h = inl (eqb-true (get_or codes c 0) 0 z)
      go d (inr z) (inl h) = inr h
      go (yes l) (inr z) (inr h) =
          true_false (and_true (not_of_false z) (not_of_false h))
          (first_all (size g) (λ c. not (eqb (get_or codes c 0) 0) && not (has_code codes c)) e c l)
      go (no f) (inr z) (inr h) = inl (lib.ListN.get_or-eq_default codes 0 (let q : length codes ≤ c = omega arith in q))

-- ---- the table of reaches, while it is written
pub record ReachTo (offsets reach : List ℕ) (p : ℕ) : Type 0 where
  pub long : length reach ≡ 256
  pub at : (q : ℕ) → q < p → get_or reach (code_at q) 0 ≡ get_or offsets q 0

codes_small : (p : ℕ) → p < 8 → code_at p < 256
codes_small = at_eight (λ p. code_at p < 256) (lit< tt) (lit< tt) (lit< tt) (lit< tt) (lit< tt) (lit< tt) (lit< tt) (lit< tt)

codes_differ : (p q : ℕ) → p < 8 → q < p → code_at p ≡ code_at q → ⊥
codes_differ p q h l e =
    let s : p ≡ q = sym (position_of_code p h) ∙ ap position_of e ∙ position_of_code q (omega arith) in
    let z : ⊥ = omega arith in
    z

pub code_small : (p k : ℕ) → p < 8 → k ≡ code_at p → k < 256
code_small p k h e = rw e (codes_small p h)

pub reach_more : (offsets reach : List ℕ) (p k : ℕ) → p < 8 → k ≡ code_at p → ReachTo offsets reach p →
    ReachTo offsets (set reach k (get_or offsets p 0)) (p + 1)
reach_more offsets reach p k h e R =
    record {
      long = length-set reach k (get_or offsets p 0) ∙ R.long;
      at =
          below_more (λ q. get_or (set reach k (get_or offsets p 0)) (code_at q) 0 ≡ get_or offsets q 0) p
          (λ q l. get_or-set_other reach k (code_at q) (get_or offsets p 0) 0 (λ s. codes_differ p q h l (sym (s ∙ e))) ∙ R.at q l)
          (subst (λ (x : ℕ). get_or (set reach k (get_or offsets p 0)) x 0 ≡ get_or offsets p 0) e
          (get_or-set_same reach k (get_or offsets p 0) 0 (rw R.long (code_small p k h e))));
    }

pub reach_all : (offsets reach : List ℕ) (p : ℕ) → 8 ≤ p → ReachTo offsets reach p → (cols : ℕ) → Offsets cols offsets →
    ReachTable cols reach
reach_all offsets reach p h R cols o = record { long = R.long; at = λ q l. R.at q (omega arith) ∙ o q l }

-- a code and its position
pub code_of_position : (k : ℕ) → position_of k < 8 → k ≡ code_at (position_of k)
unfolding position_of
code_of_position k h = eqb-true k (code_at (first_below 8 (λ p. eqb k (code_at p)))) (first_found 8 (λ p. eqb k (code_at p)) h)

pub reach_at : (cols : ℕ) (reach : List ℕ) (k : ℕ) → ReachTable cols reach → position_of k < 8 →
    get_or reach k 0 ≡ down_of (position_of k) * cols + right_of (position_of k)
reach_at cols reach k R h = ap (λ (x : ℕ). get_or reach x 0) (code_of_position k h) ∙ R.at (position_of k) h

-- ---- the mark of a cell, by the tests of a program
module _ (g : Grid) (codes : List ℕ) (long : length codes ≡ size g) (all : AllCodes codes) (c : ℕ) where
  pub position_small : (get_or codes c 0 ≡ 0 → ⊥) → position_of (get_or codes c 0) < 8
  unfolding has_code
  position_small f = ⊎_elim (λ e. absurd (f e)) (λ t. ltb-true (position_of (get_or codes c 0)) 8 t) (all c)

  pub mark_zero : get_or codes c 0 ≡ 0 → size g + 1 ≡ receiver_mark g codes c
  unfolding receiver_mark
  mark_zero e = sym (cond_false _ _ (no_code codes c e))

  has : (d : ℕ) → (get_or codes d 0 ≡ 0 → ⊥) → has_code codes d ≡ true
  has d f = ⊎_elim (λ e. absurd (f e)) (λ t. t) (all d)

  module _ (f : get_or codes c 0 ≡ 0 → ⊥) {d : ℕ} (e : d ≡ neighbour g c (position_of (get_or codes c 0))) where
    is_receiver : d ≡ receiver g codes c
    unfolding receiver
    is_receiver = e

    pub mark_off : size g ≤ d → size g ≡ receiver_mark g codes c
    unfolding receiver_mark
    mark_off h =
        sym (cond_true _ _ (has c f)
        ∙ cond_false _ _
        (not_true_false (has_code codes (receiver g codes c))
        (λ t. let q = code_below codes (receiver g codes c) t in let r = is_receiver in omega arith)))

    pub mark_stop : get_or codes d 0 ≡ 0 → size g ≡ receiver_mark g codes c
    unfolding receiver_mark
    mark_stop z =
        sym (cond_true _ _ (has c f)
        ∙ cond_false _ _ (no_code codes (receiver g codes c) (subst (λ (x : ℕ). get_or codes x 0 ≡ 0) is_receiver z)))

    pub mark_on : (get_or codes d 0 ≡ 0 → ⊥) → d ≡ receiver_mark g codes c
    unfolding receiver_mark
    mark_on z =
        sym (cond_true _ _ (has c f)
        ∙ cond_true _ _ (has (receiver g codes c) (λ q. z (subst (λ (x : ℕ). get_or codes x 0 ≡ 0) (sym is_receiver) q))) ∙ sym is_receiver)

-- from a cell within the border: the neighbour lies at the table's offset
pub reached : (g : Grid) (c row col k : ℕ) (reach : List ℕ) → size g < 2 ^ 24 → row ≡ c / g.cols → col ≡ c % g.cols →
    position_of k < 8 → ReachTable g.cols reach → Inner g row col →
    (neighbour g c (position_of k) + (g.cols + 1) ≡ c + get_or reach k 0)
    × ((neighbour g c (position_of k) < size g) × (c + get_or reach k 0 + (g.cols + 1) < 2 ^ 26))
reached g c row col k reach hs er eq hp R i =
    inner_offset g c (position_of k) (get_or reach k 0) hs (rw (sym er, sym eq) i) hp (reach_at g.cols reach k R hp)
