-- Writing undoes reading, but for the case of letters; and a text tells its sheet.
use mathlib.Core.Path.{◌≡◌, refl, sym, ◌∙◌, ap, ap₂, subst}
use mathlib.Core.Bool.{true, false, not, ◌||◌}
use mathlib.Core.Logic.{⊎_elim}
use mathlib.Core.List.{List, map}
use Prim.Native.Nat.{ℕ, ◌+◌, ◌*◌, ◌≤◌, ◌<◌}
use native.Mathlib.Nat.{mul_comm}
use native.Mathlib.Omega.{arith}
use lib.Arith.{digits_mod, digits_div, digits_lt}
use lib.Dec.{eqb, ltb}
use lib.IntN.{ℤ}
use lib.ListN.{length, get_or, length-map, get_or-map}
use lib.Seq.{ext_get_or}
use borrow.Author.Tests.{ltb-true, eqb-true}
use Rattle.grid.specs.declared.Grid.{Grid}
use Rattle.grid.specs.Sheet.{size, at, void}
use Rattle.grid.specs.Checks.{is_accepted}
use Rattle.grid.specs.Frames.{line_feed, hex_value, is_text_byte, number4, text_grid, text_length, ends_line, first_bad_byte, read_check}
use Rattle.grid.specs.Frames.{from_twos, to_twos, cell_place, text_sheet, upper_digit, header_text, sheet_text, elevation_text}
use Rattle.grid.specs.Writing.{raised, ReadsAs, SameSheet, ReadWritesBack, ReadIsWritable, EqualTexts}
use Rattle.grid_laws.proofs.Tests.{test, true_T, true_false, or_cases, not_is_false}
use Rattle.grid_laws.proofs.Tests.{and_rest_false}
use Rattle.grid_laws.proofs.Below.{at_table, first_all, no_of_any}
use Rattle.grid_laws.proofs.Cells.{all_sixteen}
use Rattle.text_laws.proofs.Runs.{one_more_fits}
use Rattle.checks.proofs.Gate.{number_zero}
use Rattle.text_laws.proofs.Asked.{Spelled, lacks_feed, stray_feed, announces, FewCells, read_spelled, sheet_length}
use Rattle.writing_laws.proofs.Asked.{Printable, write_passes}
use Rattle.writing_laws.proofs.Numbers.{digit_of, printed_again, number_small, read_digit, twos_forth, from_sixteen}
use Rattle.writing_laws.proofs.Bytes.{written_length, rows_at, cols_at, header_feed, cell_at, line_feed_lem}
use Rattle.writing_laws.proofs.Places.{Place, in_rows, in_cols, after_header, in_cell, after_line, place_of_lem}
use Rattle.writing_laws.proofs.Places.{ends_number, ends_header, ends_cell, ends_line_lem}
use Rattle.writing_laws.proofs.Written.{written_reads_back}

-- ---- a text that is read

-- its length, and each byte: a line feed where a line ends, and a digit elsewhere
record Frame (text : List ℕ) : Type 0 where
  long : length text ≡ text_length (text_grid text)
  digit : (i : ℕ) → i < length text → ends_line (text_grid text).cols i ≡ false → hex_value (get_or text i 0) < 16
  feed : (i : ℕ) → i < length text → ends_line (text_grid text).cols i ≡ true → get_or text i 0 ≡ 10

frame : (text : List ℕ) → Spelled text → Frame text
unfolding first_bad_byte is_text_byte
frame text s =
    let n = length text in
    let a = announces text s.shaped in
    record {
      long = a.announced;
      digit = λ i h m.
          is_digit i m
          (first_all n (λ j. not (ltb (hex_value (get_or text j 0)) 16 || eqb (get_or text j 0) line_feed)) s.no_bad_byte i h)
          (no_of_any n (stray_feed text) a.none_stray i h);
      feed = λ i h m. is_feed i m (no_of_any n (lacks_feed text) a.none_lacking i h);
    }
  where
    is_digit : (i : ℕ) → ends_line (text_grid text).cols i ≡ false →
        not (ltb (hex_value (get_or text i 0)) 16 || eqb (get_or text i 0) line_feed) ≡ false → stray_feed text i ≡ false →
        hex_value (get_or text i 0) < 16
    is_digit i m p q =
        ⊎_elim (λ t. ltb-true (hex_value (get_or text i 0)) 16 t)
        (λ t. true_false {A = hex_value (get_or text i 0) < 16} (ap not m) (and_rest_false (eqb (get_or text i 0) line_feed) _ t q))
        (or_cases (ltb (hex_value (get_or text i 0)) 16) (eqb (get_or text i 0) line_feed) (not_is_false _ p))

    is_feed : (i : ℕ) → ends_line (text_grid text).cols i ≡ true → lacks_feed text i ≡ false → get_or text i 0 ≡ 10
    is_feed i m q =
        ⊎_elim (λ t. eqb-true (get_or text i 0) 10 t)
        (λ t. true_false {A = get_or text i 0 ≡ 10} m (and_rest_false (not (eqb (get_or text i 0) line_feed)) _ (ap not t) q))
        (test (eqb (get_or text i 0) 10))

-- ---- byte by byte

module _ (text : List ℕ) (F : Frame text) where
  abbrev g : Grid
  g = text_grid text

  abbrev e : List ℤ
  e = text_sheet text

  abbrev rows : ℕ
  rows = g.rows

  abbrev cols : ℕ
  cols = g.cols

  -- a number that stands in four digits, printed again
  digit_written : (i v d : ℕ) → d < 4 → v ≡ number4 text i → ((k : ℕ) → k < 4 → hex_value (get_or text (i + k) 0) < 16) →
      upper_digit (digit_of v d) ≡ raised (get_or text (i + d) 0)
  digit_written i v d l q h =
      ap (λ (x : ℕ). upper_digit (digit_of x d)) q ∙ ap upper_digit (read_digit text i h d l) ∙ printed_again (get_or text (i + d) 0) (h d l)

  -- the first place of the digits of the cell in row r and column q
  abbrev place_at : ℕ → ℕ → ℕ
  place_at r q = 9 + r * (4 * cols + 1) + 4 * q

  inside : (r q d : ℕ) → r < rows → q < cols → d < 4 →
      (place_at r q + d ≡ 9 + (r * (4 * cols + 1) + (q * 4 + d))) × (place_at r q + d < length text)
  inside r q d h l m =
      let f = one_more_fits (4 * cols + 1) h in
      let w = one_more_fits 4 l in
      let z = mul_comm 4 cols in
      let n = F.long in
      (omega arith, omega arith)

  digits_of_cell : (r q : ℕ) → r < rows → q < cols → (k : ℕ) → k < 4 → hex_value (get_or text (place_at r q + k) 0) < 16
  digits_of_cell r q h l k m =
      let p = inside r q k h l m in
      F.digit (place_at r q + k) p.1 (ap (λ (x : ℕ). ends_line cols x) p.0 ∙ ends_cell cols r q k l m)

  value_of_cell : (r q : ℕ) → r < rows → q < cols → to_twos (at e (r * cols + q)) ≡ number4 text (place_at r q)
  unfolding text_sheet
  value_of_cell r q h l =
      ap to_twos
      (at_table (size g) (λ c. from_twos (number4 text (cell_place cols c))) (r * cols + q) void
      (digits_lt h l))
      ∙ ap₂ (λ (x y : ℕ). to_twos (from_twos (number4 text (9 + x * (4 * cols + 1) + 4 * y)))) (digits_div r {m = cols} {r = q} l)
      (digits_mod r {m = cols} {r = q} l)
      ∙ twos_forth (number4 text (place_at r q)) (number_small text (place_at r q) (digits_of_cell r q h l))

  header_digit : (i : ℕ) → i < 8 → hex_value (get_or text i 0) < 16
  header_digit i h = let n = F.long in F.digit i (omega arith) (ends_number cols i h)

  byte_written : (i : ℕ) → Place rows cols i → i < length text → get_or (elevation_text g e) i 0 ≡ raised (get_or text i 0)
  unfolding text_grid raised
  byte_written _ (in_rows d l) h =
      rows_at g e d l ∙ digit_written 0 rows d l refl (λ k m. ap_lt (let q : k ≡ 0 + k = omega arith in q) (header_digit k (omega arith)))
      ∙ ap (λ (x : ℕ). raised (get_or text x 0)) (let q : 0 + d ≡ d = omega arith in q)
    where
      ap_lt : {i j : ℕ} → i ≡ j → hex_value (get_or text i 0) < 16 → hex_value (get_or text j 0) < 16
      ap_lt {i} {j} q l = subst (λ (x : ℕ). hex_value (get_or text x 0) < 16) q l
  byte_written _ (in_cols d l) h = cols_at g e d l ∙ digit_written 4 cols d l refl (λ k m. header_digit (4 + k) (omega arith))
  byte_written _ after_header h = header_feed g e ∙ sym (ap raised (F.feed 8 h (ends_header cols)))
  byte_written _ (in_cell r q d a b c) h =
      cell_at g e r q d a b c
      ∙ digit_written (place_at r q) (to_twos (at e (r * cols + q))) d c (value_of_cell r q a b) (digits_of_cell r q a b)
      ∙ ap (λ (x : ℕ). raised (get_or text x 0)) (inside r q d a b c).0
  byte_written _ (after_line r a) h = line_feed_lem g e r a ∙ sym (ap raised (F.feed _ h (ends_line_lem cols r)))

  same_text : elevation_text g e ≡ map raised text
  unfolding raised
  same_text =
      let n = written_length g e in
      let m = length-map text raised in
      let l = F.long in
      ext_get_or 0 (elevation_text g e) (map raised text) (omega arith)
      (λ i h. byte_written i (place_of_lem rows cols i (omega arith)) (omega arith) ∙ sym (get_or-map raised text i 0))

pub read_writes_back : ReadWritesBack
read_writes_back text room t = same_text text (frame text (read_spelled text room (number_zero (read_check text room) t)).0)

-- ---- the writer accepts what was read

pub read_printable : (text : List ℕ) {room lent : ℕ} → FewCells (text_grid text) room → text_length (text_grid text) ≤ lent →
    Printable (text_grid text) (length (text_sheet text)) lent
read_printable text f h = record { few = f.few; fits = f.fits; long = sheet_length text; room_for = h }

pub read_is_writable : ReadIsWritable
unfolding text_sheet
read_is_writable text room t =
    record {
      sixteen_bits = all_sixteen (text_sheet text) (λ c h.
          rw (at_table (size (text_grid text)) (λ k. from_twos (number4 text (cell_place (text_grid text).cols k))) c void
          (rw (sheet_length text) at h)) (from_sixteen (number4 text (cell_place (text_grid text).cols c))));
      accepts = true_T (ap is_accepted
          (write_passes (text_grid text) (length (text_sheet text)) (text_length (text_grid text))
          (read_printable text (read_spelled text room (number_zero (read_check text room) t)).1 (omega arith))));
    }

-- ---- equal texts

pub text_tells : {t u : List ℕ} (g h : Grid) (e f : List ℤ) → ReadsAs t g e → ReadsAs u h f → t ≡ u → SameSheet g h e f
text_tells g h e f a b q =
    record {
      rows = sym a.rows ∙ ap (λ (t : List ℕ). (text_grid t).rows) q ∙ b.rows;
      cols = sym a.cols ∙ ap (λ (t : List ℕ). (text_grid t).cols) q ∙ b.cols;
      elevations = sym a.elevations ∙ ap text_sheet q ∙ b.elevations;
    }

-- the text is made of rows, columns and elevations alone
pub text_of_same : (g h : Grid) (e f : List ℤ) → SameSheet g h e f → elevation_text g e ≡ elevation_text h f
unfolding elevation_text header_text sheet_text
text_of_same g h e f s = rw (s.rows, s.cols, s.elevations)

pub equal_texts : EqualTexts
equal_texts g h e f w v = (text_tells g h e f (written_reads_back g e w) (written_reads_back h f v), text_of_same g h e f)
