-- Writing sheets out (document 02, Wish 5): the writer's questions, and what is shown of the texts that it writes: named types, each with
-- a law. The text itself is `elevation_text` of Frames.
use Rattle.std.specs.Prelude.{◌≡◌, cond, ◌&&◌, List, [], ◌∷◌, map, ℕ, ◌-◌, ◌≤◌, T, leb, length, ℤ}
use Rattle.grid.specs.declared.Grid.{Grid}
use Rattle.grid.specs.declared.Answer.{Answer}
use Rattle.grid.specs.Sheet.{size, SixteenBits}
use Rattle.grid.specs.Checks.{refusal, accepted, is_accepted, ask, ask_sheets}
use Rattle.grid.specs.Frames.{text_grid, text_length, read_check, text_sheet, elevation_text}

-- "A text buffer too short gets 8; a sheet above 2,304 cells gets 4": 4, 5 and 6 in the order of `read_check`, then 7 and 8
unfoldable pub write_check : Grid → (elevations room : ℕ) → Answer
write_check g elevations room =
    ask (leb (size g) 2304) (refusal 4 0)
    (ask_sheets g (elevations ∷ []) [] (ask (leb (text_length g) room) (refusal 8 0) accepted))

-- the length that 8 asks for is that of the text
abbrev pub WrittenLength : Type 0
WrittenLength = (g : Grid) (e : List ℤ) → length (elevation_text g e) ≡ text_length g

-- a sheet that the writer accepts, where the buffer is long enough. Every lent `&[i16]` meets the first condition: `WritePromise` says so
-- of the writer's own input, so that no caller has to show it
pub record Writable (g : Grid) (e : List ℤ) : Type 0 where
  pub sixteen_bits : SixteenBits e
  pub accepts : T (is_accepted (write_check g (length e) (text_length g)))

-- no text of such a sheet is too long for question 1
abbrev pub WrittenFits : Type 0
WrittenFits = (g : Grid) (e : List ℤ) → Writable g e → text_length g ≤ 11529

-- ---- "Reading what it wrote yields its rows, columns and elevations"

-- a text that is read, wherever there is room, as these rows, columns and elevations
pub record ReadsAs (text : List ℕ) (g : Grid) (e : List ℤ) : Type 0 where
  pub accepts : (room : ℕ) → size g ≤ room → read_check text room ≡ accepted
  pub rows : (text_grid text).rows ≡ g.rows
  pub cols : (text_grid text).cols ≡ g.cols
  pub elevations : text_sheet text ≡ e

abbrev pub WrittenReadsBack : Type 0
WrittenReadsBack = (g : Grid) (e : List ℤ) → Writable g e → ReadsAs (elevation_text g e) g e

-- ---- "writing what was read yields the text with its letters raised to upper case"

-- a byte, raised if it is one of the letters a to z
unfoldable pub raised : ℕ → ℕ
raised b = cond (leb 97 b && leb b 122) (b - 32) b

abbrev pub ReadWritesBack : Type 0
ReadWritesBack =
    (text : List ℕ) (room : ℕ) → T (is_accepted (read_check text room)) → elevation_text (text_grid text) (text_sheet text) ≡ map raised text

-- and the writer accepts it
abbrev pub ReadIsWritable : Type 0
ReadIsWritable = (text : List ℕ) (room : ℕ) → T (is_accepted (read_check text room)) → Writable (text_grid text) (text_sheet text)

-- ---- "Two sheets have equal text exactly when rows, columns and all elevations are equal; closed sides are no part of the text"

pub record SameSheet (g h : Grid) (e f : List ℤ) : Type 0 where
  pub rows : g.rows ≡ h.rows
  pub cols : g.cols ≡ h.cols
  pub elevations : e ≡ f

abbrev pub EqualTexts : Type 0
EqualTexts =
    (g h : Grid) (e f : List ℤ) → Writable g e → Writable h f →
    (elevation_text g e ≡ elevation_text h f → SameSheet g h e f) × (SameSheet g h e f → elevation_text g e ≡ elevation_text h f)
