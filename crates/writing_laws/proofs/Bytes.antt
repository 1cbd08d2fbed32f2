-- What stands at each place of a written text: digits of the header, digits of the cells, and line feeds where lines end.
use mathlib.Core.Path.{◌≡◌, refl, sym, ◌∙◌, ap}
use mathlib.Core.Logic.{◌⊎◌, inl, inr, ⊎_elim}
use mathlib.Core.List.{List, [], ◌∷◌, ◌++◌}
use Prim.Native.Nat.{ℕ, zero, suc, ◌+◌, ◌*◌, ◌<◌}
use native.Mathlib.Nat.{mul_comm}
use native.Mathlib.Omega.{arith}
use native.Mathlib.Decide.{dec_lt}
use lib.IntN.{ℤ}
use lib.ListN.{length, get_or, length-append, get_or-append}
use lib.Seq.{get_or-append-add}
use Rattle.grid.specs.declared.Grid.{Grid}
use Rattle.grid.specs.Below.{join_below}
use Rattle.grid.specs.Sheet.{at}
use Rattle.grid.specs.Frames.{line_feed, text_length, to_twos, upper_digit, hex_text, sheet_text, header_text, elevation_text}
use Rattle.grid.specs.Writing.{WrittenLength}
use Rattle.text_laws.proofs.Digits.{length_hex, cells_text, line_text, lines_text, sheet_lines, length_cells, length_line, length_lines}
use Rattle.text_laws.proofs.Runs.{one_more_fits, length_join}
use Rattle.writing_laws.proofs.Numbers.{digit_of, hex_at}

-- place j of piece i, where pieces of one length are joined
at_join : (n k : ℕ) (f : ℕ → List ℕ) → ((i : ℕ) → length (f i) ≡ k) → (i j : ℕ) → i < n → j < k →
    get_or (join_below n f) (i * k + j) 0 ≡ get_or (f i) j 0
unfolding join_below
at_join zero k f len i j h l = absurd (omega arith)
at_join (suc n) k f len i j h l =
    ⊎_elim
    (λ m.
    let r = one_more_fits k m in
    let w = length_join n k f len in
    get_or-append (join_below n f) (f n) 0 (i * k + j) (omega arith) ∙ at_join n k f len i j m l)
    (λ e. ap (λ (x : ℕ). get_or (join_below n f ++ f n) x 0) (ap (λ (x : ℕ). x * k + j) e ∙ ap (λ (x : ℕ). x + j) (sym q))
    ∙ get_or-append-add (join_below n f) (f n) j 0 ∙ ap (λ (x : ℕ). get_or (f x) j 0) (sym e))
    (split (dec_lt i n))
  where
    q : length (join_below n f) ≡ n * k
    q = length_join n k f len

    split : Dec (i < n) → (i < n) ⊎ (i ≡ n)
    split (yes m) = inl m
    split (no m) = inr (omega arith)

module _ (g : Grid) (e : List ℤ) where
  abbrev rows : ℕ
  rows = g.rows

  abbrev cols : ℕ
  cols = g.cols

  abbrev value : ℕ → ℕ
  value c = to_twos (at e c)

  abbrev text : List ℕ
  text = elevation_text g e

  length_header : length (header_text g) ≡ 9
  unfolding header_text hex_text
  length_header = refl

  length_text : length text ≡ text_length g
  unfolding elevation_text
  length_text =
      length-append (header_text g) (sheet_text g 4 value)
      ∙ rw (length_header, sheet_lines g 4 value, length_lines cols 4 value rows)
      (ap (λ (x : ℕ). 9 + rows * (x + 1)) (mul_comm cols 4))

  -- ---- the header

  header_at : (i : ℕ) → i < 9 → get_or text i 0 ≡ get_or (header_text g) i 0
  unfolding elevation_text
  header_at i h = get_or-append (header_text g) (sheet_text g 4 value) 0 i (let l = length_header in omega arith)

  header_rows : (d : ℕ) → d < 4 → get_or (header_text g) d 0 ≡ upper_digit (digit_of rows d)
  unfolding header_text
  header_rows d h =
      let l = length_hex 4 rows in
      let m = length-append (hex_text 4 rows) (hex_text 4 cols) in
      get_or-append (hex_text 4 rows ++ hex_text 4 cols) (line_feed ∷ []) 0 d (omega arith)
      ∙ get_or-append (hex_text 4 rows) (hex_text 4 cols) 0 d (omega arith)
      ∙ hex_at rows d h

  header_cols : (d : ℕ) → d < 4 → get_or (header_text g) (4 + d) 0 ≡ upper_digit (digit_of cols d)
  unfolding header_text
  header_cols d h =
      let l = length_hex 4 rows in
      let k = length_hex 4 cols in
      let m = length-append (hex_text 4 rows) (hex_text 4 cols) in
      get_or-append (hex_text 4 rows ++ hex_text 4 cols) (line_feed ∷ []) 0 (4 + d) (omega arith)
      ∙ ap (λ (x : ℕ). get_or (hex_text 4 rows ++ hex_text 4 cols) (x + d) 0) (sym l)
      ∙ get_or-append-add (hex_text 4 rows) (hex_text 4 cols) d 0
      ∙ hex_at cols d h

  pub rows_at : (d : ℕ) → d < 4 → get_or text d 0 ≡ upper_digit (digit_of rows d)
  rows_at d h = header_at d (omega arith) ∙ header_rows d h

  pub cols_at : (d : ℕ) → d < 4 → get_or text (4 + d) 0 ≡ upper_digit (digit_of cols d)
  cols_at d h = header_at (4 + d) (omega arith) ∙ header_cols d h

  pub header_feed : get_or text 8 0 ≡ line_feed
  unfolding header_text hex_text
  header_feed = header_at 8 (omega arith) ∙ refl

  -- ---- the lines

  -- place j of line r
  line_at : (r j : ℕ) → r < rows → j < 4 * cols + 1 →
      get_or text (9 + (r * (4 * cols + 1) + j)) 0 ≡ get_or (line_text cols 4 value (r * cols)) j 0
  unfolding elevation_text
  line_at r j h l =
      let w : 4 * cols + 1 ≡ cols * 4 + 1 = ap (λ (x : ℕ). x + 1) (mul_comm 4 cols) in
      ap (λ (x : ℕ). get_or (header_text g ++ sheet_text g 4 value) (x + (r * (4 * cols + 1) + j)) 0) (sym length_header)
      ∙ get_or-append-add (header_text g) (sheet_text g 4 value) (r * (4 * cols + 1) + j) 0
      ∙ ap (λ (x : List ℕ). get_or x (r * (4 * cols + 1) + j) 0) (sheet_lines g 4 value)
      ∙ ap (λ (x : ℕ). get_or (lines_text cols 4 value rows) (r * x + j) 0) w
      ∙ at_join rows (cols * 4 + 1) (λ i. line_text cols 4 value (i * cols)) (λ i. length_line cols 4 value (i * cols)) r j h (rw w at l)

  pub cell_at : (r q d : ℕ) → r < rows → q < cols → d < 4 →
      get_or text (9 + (r * (4 * cols + 1) + (q * 4 + d))) 0 ≡ upper_digit (digit_of (value (r * cols + q)) d)
  cell_at r q d h l m =
      let f = one_more_fits 4 l in
      let n = length_cells 4 (λ i. value (r * cols + i)) cols in
      let w = mul_comm 4 cols in
      line_at r (q * 4 + d) h (omega arith)
      ∙ get_or-append (cells_text 4 (λ i. value (r * cols + i)) cols) (line_feed ∷ []) 0 (q * 4 + d) (omega arith)
      ∙ at_join cols 4 (λ i. hex_text 4 (value (r * cols + i))) (λ i. length_hex 4 (value (r * cols + i))) q d l m
      ∙ hex_at (value (r * cols + q)) d m

  pub line_feed_lem : (r : ℕ) → r < rows → get_or text (9 + (r * (4 * cols + 1) + 4 * cols)) 0 ≡ line_feed
  line_feed_lem r h =
      let n = length_cells 4 (λ i. value (r * cols + i)) cols in
      let w = mul_comm 4 cols in
      let p : 4 * cols ≡ length (cells_text 4 (λ i. value (r * cols + i)) cols) + 0 = omega arith in
      line_at r (4 * cols) h (omega arith)
      ∙ ap (λ (x : ℕ). get_or (line_text cols 4 value (r * cols)) x 0) p
      ∙ get_or-append-add (cells_text 4 (λ i. value (r * cols + i)) cols) (line_feed ∷ []) 0 0

pub written_length : WrittenLength
written_length g e = length_text g e
