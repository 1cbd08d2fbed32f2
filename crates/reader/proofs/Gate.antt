-- The questions one after the other: each answer is that of `read_check`, and what is known after the last yes.
use mathlib.Core.Path.{◌≡◌, refl, sym, ap, ◌∙◌}
use mathlib.Core.Bool.{true, false, cond}
use mathlib.Core.List.{List, ◌++◌}
use Prim.Native.Nat.{ℕ, ◌≤◌, ◌<◌}
use native.Mathlib.Nat.{mul-le-mul}
use native.Mathlib.Omega.{arith}
use lib.IntN.{ℤ}
use lib.ListN.{length, drop}
use borrow.Author.Tests.{le-leb, lt-leb, eq-eqb, ne_eqb}
use Rattle.grid.specs.declared.Grid.{Grid}
use Rattle.grid.specs.Sheet.{size}
use Rattle.grid.specs.Checks.{refusal, accepted, is_accepted, in_range, ask_size}
use Rattle.grid.specs.Frames.{text_grid, is_shaped, first_bad_byte, read_check, text_sheet}
use Rattle.grid.specs.Promises.{ReadPromise}
use Rattle.checks.proofs.Gate.{passed, is_accepted_lem, by_answer}
use Rattle.text_laws.proofs.Asked.{text_gate, Announced, announces, few_gate}
use Rattle.refusals.specs.declared.Refusal.{Refusal}
use Rattle.refusals.specs.Answers.{refused, refused_dimensions}
use Rattle.refusals.proofs.Answers.{is_no}
use Rattle.reader.specs.Parts.{text_check, size_check}

-- ---- one question at a time

module _ (text : List ℕ) where
  pub too_long : 11529 < length text → text_check text ≡ refusal 1 0
  unfolding text_check
  too_long h = rw (lt-leb (length text) 11529 h)

  pub bad_byte : {place : ℕ} → length text ≤ 11529 → place ≡ first_bad_byte text → place < length text → text_check text ≡ refusal 2 place
  unfolding text_check
  bad_byte {place} h e l = rw (le-leb (length text) 11529 h, ← e, ne_eqb place (length text) (λ q. omega arith))

  module _ {place : ℕ} (h : length text ≤ 11529) (e : place ≡ first_bad_byte text) (l : place ≡ length text) where
    pub shaped : is_shaped text ≡ true → text_check text ≡ accepted
    unfolding text_check
    shaped s = rw (le-leb (length text) 11529 h, ← e, eq-eqb place (length text) l, s)

    pub not_shaped : is_shaped text ≡ false → text_check text ≡ refusal 3 0
    unfolding text_check
    not_shaped s = rw (le-leb (length text) 11529 h, ← e, eq-eqb place (length text) l, s)

module _ (g : Grid) (room : ℕ) where
  pub too_many_cells : 2304 < size g → size_check g room ≡ refusal 4 0
  unfolding size_check
  too_many_cells h = rw (lt-leb (size g) 2304 h)

  module _ (few : size g ≤ 2304) where
    pub bad_rows : in_range g.rows ≡ false → size_check g room ≡ refusal 5 0
    unfolding size_check ask_size
    bad_rows r = rw (le-leb (size g) 2304 few, r)

    pub bad_cols : in_range g.rows ≡ true → in_range g.cols ≡ false → size_check g room ≡ refusal 6 0
    unfolding size_check ask_size
    bad_cols r q = rw (le-leb (size g) 2304 few, r, q)

    pub no_room : in_range g.rows ≡ true → in_range g.cols ≡ true → room < size g → size_check g room ≡ refusal 8 0
    unfolding size_check ask_size
    no_room r q h = rw (le-leb (size g) 2304 few, r, q, lt-leb (size g) room h)

    pub room_enough : in_range g.rows ≡ true → in_range g.cols ≡ true → size g ≤ room → size_check g room ≡ accepted
    unfolding size_check ask_size
    room_enough r q h = rw (le-leb (size g) 2304 few, r, q, le-leb (size g) room h)

-- the number of cells fits a word
pub cells_small : (g : Grid) → g.rows ≤ 69904 → g.cols ≤ 69904 → size g ≤ 4886569216
cells_small g h k = omega (arith, mul-le-mul h k)

-- ---- all of them

pub in_parts : (text : List ℕ) (room : ℕ) →
    read_check text room ≡ cond (is_accepted (text_check text)) (size_check (text_grid text) room) (text_check text)
unfolding read_check text_check size_check
in_parts text room = by_answer (text_gate text) (size_check (text_grid text) room)

pub text_accepted : (text : List ℕ) → (text_check text).number ≡ 0 → Announced text
unfolding text_check
text_accepted text h = announces text (passed (text_gate text) refl h).fact.shaped

pub size_accepted : (g : Grid) (room : ℕ) → (size_check g room).number ≡ 0 → (size g ≤ room) × (size_check g room ≡ accepted)
unfolding size_check
size_accepted g room h = ((passed (few_gate g room) refl h).fact.room_for, is_accepted_lem (few_gate g room) refl h)

-- ---- the promise

module _ (text : List ℕ) (e₀ : List ℤ) where
  -- beside a no
  beside_no : (r : Refusal ℕ) → refused r ≡ read_check text (length e₀) → ReadPromise text e₀ e₀ (refused_dimensions r)
  beside_no r q =
      let n = ne_eqb (refused r).number 0 (is_no r) in
      record { answer = q; rows = rw n; cols = rw n; result = rw n }

  pub text_refused : (r : Refusal ℕ) → refused r ≡ text_check text → ReadPromise text e₀ e₀ (refused_dimensions r)
  text_refused r q =
      let k : is_accepted (text_check text) ≡ false = ap is_accepted (sym q) ∙ ne_eqb (refused r).number 0 (is_no r) in
      beside_no r (q ∙ sym (in_parts text (length e₀) ∙ rw k))

  module _ (fine : (text_check text).number ≡ 0) where
    to_size : (g : Grid) → g ≡ text_grid text → read_check text (length e₀) ≡ size_check g (length e₀)
    to_size g s = in_parts text (length e₀) ∙ rw (eq-eqb (text_check text).number 0 fine, s)

    pub size_refused : (g : Grid) (r : Refusal ℕ) → g ≡ text_grid text → refused r ≡ size_check g (length e₀) →
        ReadPromise text e₀ e₀ (refused_dimensions r)
    size_refused g r s q = beside_no r (q ∙ sym (to_size g s))

    -- after the last yes
    pub all_read : (g : Grid) (e₁ : List ℤ) → g ≡ text_grid text → size_check g (length e₀) ≡ accepted
        → e₁ ≡ text_sheet text ++ drop (size g) e₀ → ReadPromise text e₀ e₁ record { number = 0; place = 0; rows = g.rows; cols = g.cols }
    all_read g e₁ s q h = record {
      answer = sym (to_size g s ∙ q);
      rows = ap (λ (x : Grid). x.rows) s;
      cols = ap (λ (x : Grid). x.cols) s;
      result = h ∙ ap (λ (x : Grid). text_sheet text ++ drop (size x) e₀) s;
    }
