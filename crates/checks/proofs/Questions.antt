-- "11. Is each code 0 or one of the eight?" "12. Does every route end?", and 18: the answer by the first cell for which it is no.
use mathlib.Core.Path.{◌≡◌, refl, ◌∙◌}
use mathlib.Core.Bool.{Bool, true, false, not, ◌||◌}
use mathlib.Core.List.{List}
use Prim.Native.Nat.{ℕ, ◌≤◌, ◌<◌}
use native.Mathlib.Omega.{arith}
use lib.Dec.{T, eqb, leb}
use lib.IntN.{ℤ}
use borrow.Author.Tests.{eq-eqb, ne_eqb, eqb-true, leb-true}
use Rattle.grid.specs.declared.Grid.{Grid}
use Rattle.grid.specs.declared.Answer.{Answer}
use Rattle.grid.specs.Sheet.{size}
use Rattle.grid.specs.Outlet.{first_stranded}
use Rattle.grid.specs.Routes.{first_bad_code, first_endless}
use Rattle.grid.specs.Checks.{refusal, accepted, ask, ask_cell, ask_reach, ask_codes}
use Rattle.grid.specs.Promises.{up_to_nine}
use Rattle.grid_laws.proofs.Tests.{T_true, true_false, not_is_true, cond_true, cond_false, and_left, and_right}
use Rattle.grid_laws.proofs.Below.{first_≤}
use Rattle.checks.proofs.Gate.{Gate, one, both, weaken}

pub bad_≤ : (g : Grid) (codes : List ℕ) → first_bad_code g codes ≤ size g
unfolding first_bad_code
bad_≤ g codes = first_≤ (size g) _

pub endless_≤ : (g : Grid) (codes : List ℕ) → first_endless g codes ≤ size g
unfolding first_endless
endless_≤ g codes = first_≤ (size g) _

pub cell_no : (number first : ℕ) (g : Grid) (later : Answer) → first < size g → ask_cell number g first later ≡ refusal number first
cell_no number first g later h = cond_false later (refusal number first) (ne_eqb first (size g) (λ e. let z : ⊥ = omega arith in absurd z))

pub cell_yes : (number first : ℕ) (g : Grid) (later : Answer) → first ≡ size g → ask_cell number g first later ≡ later
cell_yes number first g later e = cond_true later (refusal number first) (eq-eqb first (size g) e)

pub cell_gate : (number first : ℕ) (g : Grid) → 0 < number → Gate (ask_cell number g first) (first ≡ size g)
cell_gate number first g low = weaken (eqb-true first (size g)) (one (eqb first (size g)) number first low)

-- 11 and 12
pub codes_gate : (g : Grid) (codes : List ℕ) → Gate (ask_codes g codes) ((first_bad_code g codes ≡ size g) × (first_endless g codes ≡ size g))
unfolding ask_codes
codes_gate g codes = both (cell_gate 11 (first_bad_code g codes) g (omega arith)) (cell_gate 12 (first_endless g codes) g (omega arith))

module _ (g : Grid) (codes : List ℕ) (later : Answer) where
  pub codes_bad : first_bad_code g codes < size g → ask_codes g codes later ≡ refusal 11 (first_bad_code g codes)
  unfolding ask_codes
  codes_bad h = cell_no 11 (first_bad_code g codes) g (ask_cell 12 g (first_endless g codes) later) h

  pub codes_endless : first_bad_code g codes ≡ size g → first_endless g codes < size g →
      ask_codes g codes later ≡ refusal 12 (first_endless g codes)
  unfolding ask_codes
  codes_endless e h =
      cell_yes 11 (first_bad_code g codes) g (ask_cell 12 g (first_endless g codes) later) e ∙ cell_no 12 (first_endless g codes) g later h

  pub codes_yes : first_bad_code g codes ≡ size g → first_endless g codes ≡ size g → ask_codes g codes later ≡ later
  unfolding ask_codes
  codes_yes e q =
      cell_yes 11 (first_bad_code g codes) g (ask_cell 12 g (first_endless g codes) later) e ∙ cell_yes 12 (first_endless g codes) g later q

-- ---- these are asked when the work buffer may be written: a no is above 9, and neither 17 nor 20

abbrev pub Late : Answer → Type 0
Late a = T (up_to_nine a.number) → ⊥

-- a yes
pub yes_is_late : {number : ℕ} → number ≡ 0 → T (up_to_nine number) → ⊥
unfolding up_to_nine
yes_is_late {number} e t =
    let l = leb-true 1 number (and_left (leb 1 number) (leb number 9 || eqb number 17 || eqb number 20) (T_true (up_to_nine number) t)) in
    omega arith

-- and any of these numbers, which a number that is written out shows by itself
abbrev pub is_late : ℕ → Bool
is_late number = not (leb number 9 || eqb number 17 || eqb number 20)

pub number_late : (number : ℕ) → T (is_late number) → T (up_to_nine number) → ⊥
unfolding up_to_nine
number_late number h t =
    true_false (and_right (leb 1 number) (leb number 9 || eqb number 17 || eqb number 20) (T_true (up_to_nine number) t))
    (not_is_true (leb number 9 || eqb number 17 || eqb number 20) (T_true (is_late number) h))

pub yes_late : Late accepted
yes_late = yes_is_late refl

pub ask_late : (holds : Bool) (number place : ℕ) (later : Answer) → T (is_late number) → Late later →
    Late (ask holds (refusal number place) later)
ask_late true number place later n L = L
ask_late false number place later n L = number_late number n

pub cell_late : (number first : ℕ) (g : Grid) (later : Answer) → T (is_late number) → Late later → Late (ask_cell number g first later)
cell_late number first g later n L = ask_late (eqb first (size g)) number first later n L

pub codes_late : (g : Grid) (codes : List ℕ) (later : Answer) → Late later → Late (ask_codes g codes later)
unfolding ask_codes
codes_late g codes later L =
    cell_late 11 (first_bad_code g codes) g (ask_cell 12 g (first_endless g codes) later) tt
    (cell_late 12 (first_endless g codes) g later tt L)

-- "18 if some data cell has no chain to an outlet"
pub stranded_≤ : (g : Grid) (e : List ℤ) → first_stranded g e ≤ size g
unfolding first_stranded
stranded_≤ g e = first_≤ (size g) _

pub reach_gate : (g : Grid) (e : List ℤ) → Gate (ask_reach g e) (first_stranded g e ≡ size g)
unfolding ask_reach
reach_gate g e = cell_gate 18 (first_stranded g e) g (omega arith)

module _ (g : Grid) (e : List ℤ) (later : Answer) where
  pub reach_no : first_stranded g e < size g → ask_reach g e later ≡ refusal 18 (first_stranded g e)
  unfolding ask_reach
  reach_no h = cell_no 18 (first_stranded g e) g later h

  pub reach_yes : first_stranded g e ≡ size g → ask_reach g e later ≡ later
  unfolding ask_reach
  reach_yes q = cell_yes 18 (first_stranded g e) g later q

  pub reach_late : Late later → Late (ask_reach g e later)
  unfolding ask_reach
  reach_late L = cell_late 18 (first_stranded g e) g later tt L

  -- a no that is asked later makes one of it
  pub reach_above : (later.number ≡ 0 → ⊥) → (ask_reach g e later).number ≡ 0 → ⊥
  unfolding ask_reach
  reach_above f = go (eqb (first_stranded g e) (size g))
    where
      go : (holds : Bool) → (ask holds (refusal 18 (first_stranded g e)) later).number ≡ 0 → ⊥
      go true = f
      go false = λ q. omega arith
