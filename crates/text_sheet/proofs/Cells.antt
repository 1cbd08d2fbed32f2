-- A sheet line by line: what the loop keeps, at the start, after one more, and at the end.
use Rattle.std.proofs.Common.{◌≡◌, refl, sym, ap, ap₂, ◌∙◌, List, ◌++◌, ℕ, ◌+◌, ◌-◌, ◌*◌, ◌≤◌, ◌<◌, ℤ, length, take, drop, length-take-le, length-drop, arith}
use Rattle.std.proofs.lemmas.List.{take-append-drop}
use Rattle.std.proofs.lemmas.Slice.{take-put_mid, drop-put_mid}
use borrow.Rule.Slice.PartMut.{put_mid}
use lib.Arith.{digits_div, digits_mod}
use lib.Seq.{drop-drop}
use native.Mathlib.Nat.{suc-mul, zero-mul}
use native.Mathlib.Numerals.{add-one}
use Rattle.grid.specs.declared.Grid.{Grid}
use Rattle.grid.specs.Below.{table}
use Rattle.grid.specs.Sheet.{size}
use Rattle.grid.specs.Frames.{number4, text_grid, from_twos, cell_place, text_sheet}
use Rattle.grid_laws.proofs.Below.{length_table, table_ext}
use Rattle.text_laws.proofs.Runs.{one_more_fits, table_add}
use Rattle.text_sheet.specs.Rows.{elevations_from}

-- the elevation of cell c, where each line has cols
abbrev cell_value : List ℕ → ℕ → ℕ → ℤ
cell_value text cols c = from_twos (number4 text (cell_place cols c))

-- r lines are stored, and what stood past them stands
pub record LinesTo (text : List ℕ) (cols : ℕ) (e₀ e : List ℤ) (next r : ℕ) : Type 0 where
  pub next_place : next ≡ 9 + r * (4 * cols + 1)
  pub stored : take (r * cols) e ≡ table (r * cols) (cell_value text cols)
  pub beyond : drop (r * cols) e ≡ drop (r * cols) e₀

module _ (text : List ℕ) (cols : ℕ) (e₀ : List ℤ) where
  pub lines_none : LinesTo text cols e₀ e₀ 9 0
  unfolding table
  lines_none = record { next_place = rw (zero-mul (4 * cols + 1)); stored = rw (zero-mul cols); beyond = refl }

  -- the cells of line r
  cells_of_line : (r : ℕ) → table cols (λ k. cell_value text cols (r * cols + k)) ≡ elevations_from text (9 + r * (4 * cols + 1)) cols
  cells_of_line r =
      table_ext cols (λ k. cell_value text cols (r * cols + k)) (λ k. from_twos (number4 text (9 + r * (4 * cols + 1) + 4 * k)))
      (λ k l. rw (digits_div r l, digits_mod r l))

  module _ (e : List ℤ) (r rows : ℕ) (h : r < rows) (s : rows * cols ≤ length e) where
    -- the places of line r
    abbrev part : List ℤ
    part = take ((r + 1) * cols - r * cols) (drop (r * cols) e)

    more : (r + 1) * cols ≡ r * cols + cols
    more = rw (add-one r) (suc-mul r cols)

    long : length part ≡ cols
    long = length-take-le _ _ (omega (arith, more, one_more_fits cols h, length-drop (r * cols) e)) ∙ omega (arith, more)

    pub lines_more : {next next₁ : ℕ} {line : List ℤ} → LinesTo text cols e₀ e next r → next₁ ≡ next + (4 * length part + 1)
        → line ≡ elevations_from text next (length part)
        → LinesTo text cols e₀ (put_mid (r * cols) ((r + 1) * cols - r * cols) e line) next₁ (r + 1)
    lines_more {next} {next₁} {line} p n v =
        let w : line ≡ elevations_from text (9 + r * (4 * cols + 1)) cols = v ∙ ap (elevations_from text next) long ∙ ap (λ (i : ℕ). elevations_from text i cols) p.next_place in
        let q : length line ≡ cols = ap length w ∙ length_table cols _ in
        let fits : r * cols ≤ length e = omega (arith, one_more_fits cols h, s) in
        record {
          next_place = n ∙ omega (arith, p.next_place, long, add-one r, suc-mul r (4 * cols + 1));
          stored =
              take-put_mid (r * cols) ((r + 1) * cols - r * cols) e line ((r + 1) * cols) (omega (arith, more, q)) fits
              ∙ ap₂ ◌++◌ p.stored (w ∙ sym (cells_of_line r))
              ∙ sym (table_add (r * cols) cols (cell_value text cols))
              ∙ ap (λ (m : ℕ). table m (cell_value text cols)) (sym more);
          beyond =
              drop-put_mid (r * cols) ((r + 1) * cols - r * cols) e line ((r + 1) * cols) (omega (arith, more)) fits (omega (arith, more, q))
              ∙ ap (λ (m : ℕ). drop m e) more
              ∙ sym (drop-drop cols (r * cols) e)
              ∙ ap (λ (l : List ℤ). drop cols l) p.beyond
              ∙ drop-drop cols (r * cols) e₀
              ∙ ap (λ (m : ℕ). drop m e₀) (sym more);
        }

pub lines_end : (text : List ℕ) (g : Grid) (e₀ : List ℤ) {e : List ℤ} {next r : ℕ} → g ≡ text_grid text → r ≡ g.rows
    → LinesTo text g.cols e₀ e next r → e ≡ text_sheet text ++ drop (size g) e₀
unfolding text_sheet
lines_end text g e₀ {e} {next} {r} s n p =
    let q : LinesTo text g.cols e₀ e next g.rows = rw n at p in
    sym (take-append-drop (size g) e) ∙ ap₂ ◌++◌ (q.stored ∙ ap (λ (x : Grid). table (size x) (cell_value text x.cols)) s) q.beyond
