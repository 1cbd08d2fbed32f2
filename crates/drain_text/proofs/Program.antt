-- The steps of the program, one after the other: what was read is what the definitions say, the one call answers 18 of it, and what is
-- printed is the definition's text.
use mathlib.Core.Path.{◌≡◌, refl, ap, ap₂, ◌∙◌}
use mathlib.Core.Bool.{true, ◌&&◌}
use mathlib.Core.List.{List}
use Prim.Native.Nat.{ℕ, ◌*◌, ◌≤◌}
use native.Mathlib.Nat.{mul-le-mul_left}
use native.Mathlib.Omega.{arith}
use lib.IntN.{ℤ}
use lib.ListN.{length, take}
use borrow.Author.Tests.{le-leb, eq-eqb, ne_eqb}
use Rattle.grid.specs.declared.Grid.{Grid}
use Rattle.grid.specs.declared.Answer.{Answer}
use Rattle.grid.specs.declared.Dimensions.{Dimensions}
use Rattle.grid.specs.Sheet.{grid_of, size}
use Rattle.grid.specs.Checks.{accepted, is_accepted, ask_size, all_have, ask_lengths, ask_sides, in_shape, ask_shape, ask_description, ask_flow}
use Rattle.grid.specs.Checks.{ask_work, ask_reach, drain_check}
use Rattle.grid.specs.Frames.{text_grid, read_check, result_text, refusal_text, drain_text, program_text}
use Rattle.grid.specs.Promises.{ReadPromise, DrainPromise}
use Rattle.checks.proofs.Asked.{range_of}
use Rattle.text_laws.proofs.Asked.{FewCells, read_asked, read_rows, read_cols, read_sheet}
use Rattle.frames.specs.Printed.{Printed, Sheets, result_length}
use Rattle.drain_text.specs.Room.{Small, Lent}

-- ---- reading

-- a text has no closed sides, and square cells
text_open : (text : List ℕ) → grid_of (text_grid text).rows (text_grid text).cols ≡ text_grid text
unfolding text_grid
text_open text = refl

module _ (text : List ℕ) (e₀ e₁ : List ℤ) (r : Dimensions) (long : length e₀ ≡ 2304) (p : ReadPromise text e₀ e₁ r) where
  answer_is : record { number = r.number; place = r.place } ≡ read_check text 2304
  answer_is = p.answer ∙ ap (read_check text) long

  -- a no, printed
  pub refused : (out₀ out₁ : List ℕ) (n : ℕ) → (r.number ≡ 0 → ⊥)
      → Printed (refusal_text record { number = r.number; place = r.place }) out₀ out₁ n → Printed (program_text text) out₀ out₁ n
  unfolding program_text
  refused out₀ out₁ n h q = rw (← answer_is, ne_eqb r.number 0 h) q

  module _ (yes : r.number ≡ 0) where
    grid_is : grid_of r.rows r.cols ≡ text_grid text
    grid_is = ap₂ grid_of (read_rows text e₀ e₁ r p yes) (read_cols text e₀ e₁ r p yes) ∙ text_open text

    -- the sheet passes questions 4, 5 and 6
    pub read_small : FewCells (grid_of r.rows r.cols) (length e₀)
    read_small = rw grid_is (read_asked text e₀ e₁ r p yes).1

    -- a yes, drained and printed
    pub drained : (out₀ out₁ : List ℕ) (n : ℕ) → Printed (drain_text (grid_of r.rows r.cols) (take (r.rows * r.cols) e₁)) out₀ out₁ n
        → Printed (program_text text) out₀ out₁ n
    unfolding program_text
    drained out₀ out₁ n q = rw (← answer_is, eq-eqb r.number 0 yes) (rw (read_sheet text e₀ e₁ r p yes, grid_is) at q)

-- ---- draining

-- "rows × columns at most 2,304": what is printed has at most 59,913 bytes
text_small : (g : Grid) → size g ≤ 2304 → 1 ≤ g.cols → result_length g ≤ 59913
text_small g h k = omega (arith, mul-le-mul_left g.rows k)

module _ (g : Grid) (e filled₀ filled₁ : List ℤ) (codes₀ codes₁ counts₀ counts₁ labels₀ labels₁ work₀ work₁ out₀ : List ℕ) (r : Answer)
    (small : Small g e out₀) (lent : Lent g filled₀ codes₀ counts₀ labels₀ work₀)
    (p : DrainPromise g e filled₀ filled₁ codes₀ codes₁ counts₀ counts₁ labels₀ labels₁ work₀ work₁ r) where
  -- "the program uses them": square cells of 1 by 1
  square_cells : (in_shape g.width && in_shape g.height) ≡ true
  unfolding in_shape
  square_cells = rw (small.square.0, small.square.1) refl

  -- of the questions only 18 can be answered by a no
  answers : r ≡ ask_reach g e accepted
  unfolding drain_check ask_flow ask_description ask_sides ask_shape ask_lengths ask_size ask_work all_have
  answers =
      p.answer
      ∙ rw (
        range_of small.fits.rows_low small.fits.rows_high,
        range_of small.fits.cols_low small.fits.cols_high,
        le-leb g.sides 15 (let z = small.no_sides in omega arith),
        square_cells,
        eq-eqb (length e) (size g) small.elevations_size,
        eq-eqb (length filled₀) (size g) lent.filled_size,
        eq-eqb (length codes₀) (size g) lent.codes_size,
        eq-eqb (length counts₀) (size g) lent.counts_size,
        eq-eqb (length labels₀) (size g) lent.labels_size,
        le-leb (4 * size g) (length work₀) lent.work_size,
      )

  -- after a yes its results are the definition's, and so is their text
  pub results_printed : (out₁ : List ℕ) (n : ℕ) → r.number ≡ 0 → Printed (result_text g filled₁ codes₁ counts₁ labels₁) out₀ out₁ n
      → Printed (drain_text g e) out₀ out₁ n
  unfolding drain_text
  results_printed out₁ n z q =
      let f = p.four in
      let b : is_accepted r ≡ true = eq-eqb r.number 0 z in
      rw (← answers, b) (rw (f.filled, f.codes, f.counts, f.labels, b) at q)

  -- and a no is its line
  pub refusal_printed : (out₁ : List ℕ) (n : ℕ) → (r.number ≡ 0 → ⊥) → Printed (refusal_text r) out₀ out₁ n →
      Printed (drain_text g e) out₀ out₁ n
  unfolding drain_text
  refusal_printed out₁ n f q = rw (← answers, ne_eqb r.number 0 f) q

-- its results have the sizes that the printing asks for
pub results_fit : (g : Grid) (e filled₀ filled₁ : List ℤ) (codes₀ codes₁ counts₀ counts₁ labels₀ labels₁ work₀ out₀ : List ℕ)
    → Small g e out₀ → Lent g filled₀ codes₀ counts₀ labels₀ work₀
    → length filled₁ ≡ length filled₀ → length codes₁ ≡ length codes₀ → length counts₁ ≡ length counts₀ → length labels₁ ≡ length labels₀
    → Sheets g filled₁ codes₁ counts₁ labels₁ out₀
results_fit g e filled₀ filled₁ codes₀ codes₁ counts₀ counts₁ labels₀ labels₁ work₀ out₀ small lent f c n l =
    record {
      few_rows = small.fits.rows_high;
      few_cols = small.fits.cols_high;
      filled_size = f ∙ lent.filled_size;
      codes_size = c ∙ lent.codes_size;
      counts_size = n ∙ lent.counts_size;
      labels_size = l ∙ lent.labels_size;
      room = omega (arith, text_small g small.few small.fits.cols_low, small.room);
    }
