-- Reading undoes writing: byte by byte a written text is one that passes, and its numbers are those that were written.
use mathlib.Core.Path.{◌≡◌, refl, sym, ◌∙◌, ap, ap₂}
use mathlib.Core.Bool.{true, false, not, ◌&&◌}
use mathlib.Core.Logic.{◌⊎◌, inl, inr, ⊎_elim}
use mathlib.Core.List.{List}
use Prim.Native.Nat.{ℕ, ◌+◌, ◌*◌, ◌/◌, ◌%◌, ◌≤◌, ◌<◌}
use native.Mathlib.Nat.{div-add-mod', mod-lt, div-lt_iff_lt-mul}
use native.Mathlib.Omega.{arith}
use lib.Dec.{eqb}
use lib.IntN.{ℤ}
use lib.ListN.{length, get_or}
use borrow.Author.Tests.{eq-eqb, ne_eqb, le-leb, lt-ltb}
use Rattle.grid.specs.declared.Grid.{Grid}
use Rattle.grid.specs.Sheet.{grid_of, size, at, void, SixteenBits}
use Rattle.grid.specs.Checks.{accepted}
use Rattle.grid.specs.Frames.{line_feed, hex_value, is_text_byte, number4, text_grid, text_length, ends_line, is_shaped, first_bad_byte, read_check}
use Rattle.grid.specs.Frames.{from_twos, to_twos, cell_place, text_sheet, upper_digit, elevation_text}
use Rattle.grid.specs.Writing.{write_check, Writable, WrittenFits, ReadsAs, WrittenReadsBack}
use Rattle.grid_laws.proofs.Tests.{cond_true, and_true, or_left, not_of_false, and_false_left, and_false_right, not_of_true}
use Rattle.grid_laws.proofs.Below.{is_table, first_none, none_of}
use Rattle.checks.proofs.Gate.{number_zero}
use Rattle.checks.proofs.Asked.{size_passes, same_fits}
use Rattle.writing_laws.proofs.Asked.{Printable, printable, short}
use Rattle.writing_laws.proofs.Numbers.{digit_of, digit_small, value_upper, upper_no_feed, reads_number, twos_small, twos_back}
use Rattle.writing_laws.proofs.Bytes.{written_length, rows_at, cols_at, header_feed, cell_at, line_feed_lem}
use Rattle.writing_laws.proofs.Places.{Place, in_rows, in_cols, after_header, in_cell, after_line, place_of_lem}
use Rattle.writing_laws.proofs.Places.{ends_number, ends_header, ends_cell, ends_line_lem}

module _ (g : Grid) (e : List ℤ) {lent : ℕ} (bits : SixteenBits e) (f : Printable g (length e) lent) where
  abbrev text : List ℕ
  text = elevation_text g e

  -- ---- bytes

  -- a line feed where a line ends, and an upper-case digit elsewhere
  abbrev Feed : ℕ → Type 0
  Feed i = (ends_line g.cols i ≡ true) × (get_or text i 0 ≡ line_feed)

  abbrev Digit : ℕ → Type 0
  Digit i = (ends_line g.cols i ≡ false) × ((d : ℕ) × (d < 16) × (get_or text i 0 ≡ upper_digit d))

  feed_or_digit : (i : ℕ) → Place g.rows g.cols i → Feed i ⊎ Digit i
  feed_or_digit _ (in_rows d h) =
      inr (ends_number g.cols d (omega arith), (digit_of g.rows d, digit_small g.rows d, rows_at g e d h))
  feed_or_digit _ (in_cols d h) =
      inr (ends_number g.cols (4 + d) (omega arith), (digit_of g.cols d, digit_small g.cols d, cols_at g e d h))
  feed_or_digit _ after_header = inl (ends_header g.cols, header_feed g e)
  feed_or_digit _ (in_cell r q d h l m) =
      inr (ends_cell g.cols r q d l m, (digit_of _ d, digit_small _ d, cell_at g e r q d h l m))
  feed_or_digit _ (after_line r h) = inl (ends_line_lem g.cols r, line_feed_lem g e r h)

  at_place : (i : ℕ) → i < length text → Feed i ⊎ Digit i
  at_place i h = let l = written_length g e in feed_or_digit i (place_of_lem g.rows g.cols i (omega arith))

  good_byte : (i : ℕ) → i < length text → not (is_text_byte (get_or text i 0)) ≡ false
  unfolding is_text_byte hex_value
  good_byte i h =
      ⊎_elim (λ p. rw p.1 refl)
      (λ p. not_of_true (or_left (eqb (get_or text i 0) line_feed)
      (lt-ltb (hex_value (get_or text i 0)) 16 (rw p.1.2 (rw (value_upper p.1.0 p.1.1) p.1.1)))))
      (at_place i h)

  no_bad_byte : first_bad_byte text ≡ length text
  unfolding first_bad_byte
  no_bad_byte = first_none (length text) (λ i. not (is_text_byte (get_or text i 0))) good_byte

  feed_where_due : (i : ℕ) → i < length text → (not (eqb (get_or text i 0) line_feed) && ends_line g.cols i) ≡ false
  feed_where_due i h =
      ⊎_elim (λ p. and_false_left (ends_line g.cols i) (not_of_true (eq-eqb (get_or text i 0) 10 p.1)))
      (λ p. and_false_right (not (eqb (get_or text i 0) line_feed)) p.0) (at_place i h)

  due_where_feed : (i : ℕ) → i < length text → (eqb (get_or text i 0) line_feed && not (ends_line g.cols i)) ≡ false
  due_where_feed i h =
      ⊎_elim (λ p. and_false_right (eqb (get_or text i 0) line_feed) (not_of_true p.0))
      (λ p.
      and_false_left (not (ends_line g.cols i)) (ne_eqb (get_or text i 0) 10 (λ q. upper_no_feed p.1.0 (sym p.1.2 ∙ q))))
      (at_place i h)

  -- ---- the header, and the questions

  rows_read : number4 text 0 ≡ g.rows
  rows_read =
      let r = f.fits.rows_high in
      reads_number text 0 g.rows (omega arith)
      (λ d l. ap (λ (x : ℕ). get_or text x 0) (let q : 0 + d ≡ d = omega arith in q) ∙ rows_at g e d l)

  cols_read : number4 text 4 ≡ g.cols
  cols_read = let r = f.fits.cols_high in reads_number text 4 g.cols (omega arith) (λ d l. cols_at g e d l)

  grid_read : text_grid text ≡ grid_of g.rows g.cols
  unfolding text_grid
  grid_read = ap₂ grid_of rows_read cols_read

  shaped : is_shaped text ≡ true
  unfolding is_shaped
  shaped =
      let l = written_length g e in
      rw grid_read
      (and_true
      (and_true
      (and_true (le-leb 9 (length text) (let q : 9 ≤ length text = omega arith in q)) (eq-eqb (length text) (text_length g) l))
      (not_of_false (none_of (length text) (λ i. not (eqb (get_or text i 0) line_feed) && ends_line g.cols i) feed_where_due)))
      (not_of_false (none_of (length text) (λ i. eqb (get_or text i 0) line_feed && not (ends_line g.cols i)) due_where_feed)))

  passes : (room : ℕ) → size g ≤ room → read_check text room ≡ accepted
  unfolding read_check
  passes room h =
      cond_true _ _ (le-leb (length text) 11529 (rw (written_length g e) (short g f)))
      ∙ cond_true _ _ (eq-eqb (first_bad_byte text) (length text) no_bad_byte)
      ∙ cond_true _ _ shaped
      ∙ rw grid_read
      (cond_true _ _ (le-leb (size g) 2304 f.few)
      ∙ size_passes (grid_of g.rows g.cols) (same_fits (grid_of g.rows g.cols) g refl refl f.fits) _
      ∙ cond_true _ _ (le-leb (size g) room h))

  -- ---- the cells

  cell_read : (c : ℕ) → c < size g → number4 text (cell_place g.cols c) ≡ to_twos (at e c)
  cell_read c h =
      let cl = f.fits.cols_low in
      let q : c % g.cols < g.cols = mod-lt c (omega arith) in
      let r : c / g.cols < g.rows = (div-lt_iff_lt-mul {k = g.cols} {x = c} {y = g.rows} (omega arith)).1 h in
      reads_number text (cell_place g.cols c) (to_twos (at e c)) (twos_small (at e c) (bits c))
      (λ k l.
      ap (λ (x : ℕ). get_or text x 0) (place (c / g.cols * (4 * g.cols + 1)) (c % g.cols) k)
      ∙ cell_at g e (c / g.cols) (c % g.cols) k r q l
      ∙ ap (λ (x : ℕ). upper_digit (digit_of (to_twos (at e x)) k)) (div-add-mod' c g.cols))
    where
      place : (a q k : ℕ) → 9 + a + 4 * q + k ≡ 9 + (a + (q * 4 + k))
      place a q k = omega arith

  sheet_read : text_sheet text ≡ e
  unfolding text_sheet
  sheet_read =
      rw grid_read
      (sym (is_table (size g) (λ c. from_twos (number4 text (cell_place g.cols c))) e void f.long
      (λ c h. sym (ap from_twos (cell_read c h) ∙ twos_back (at e c) (bits c)))))

  pub reads_as : ReadsAs text g e
  reads_as =
      record {
        accepts = passes;
        rows = ap (λ (x : Grid). x.rows) grid_read;
        cols = ap (λ (x : Grid). x.cols) grid_read;
        elevations = sheet_read;
      }

accepted_of : (g : Grid) (e : List ℤ) → Writable g e → Printable g (length e) (text_length g)
accepted_of g e w = printable g (length e) (text_length g) (number_zero (write_check g (length e) (text_length g)) w.accepts)

pub written_reads_back : WrittenReadsBack
written_reads_back g e w = reads_as g e w.sixteen_bits (accepted_of g e w)

pub written_fits : WrittenFits
written_fits g e w = short g (accepted_of g e w)
