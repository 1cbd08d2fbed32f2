-- The questions about a text as gates, what a yes to them says, and what an accepted call of `read` leaves.
use mathlib.Core.Path.{◌≡◌, refl, sym, ◌∙◌, ap, ap₂}
use mathlib.Core.Bool.{Bool, true, false, not, ◌&&◌}
use mathlib.Core.List.{List}
use Prim.Native.Nat.{ℕ, ◌+◌, ◌*◌, ◌≤◌}
use native.Mathlib.Nat.{mul-le-mul}
use native.Mathlib.Omega.{arith}
use lib.Dec.{eqb, leb}
use lib.IntN.{ℤ}
use lib.ListN.{length, get_or, take}
use lib.Seq.{take-append_seam}
use borrow.Author.Tests.{leb-true, eq-eqb, eqb-true}
use Rattle.grid.specs.declared.Grid.{Grid}
use Rattle.grid.specs.declared.Answer.{Answer}
use Rattle.grid.specs.declared.Dimensions.{Dimensions}
use Rattle.grid.specs.Below.{any_below}
use Rattle.grid.specs.Sheet.{size}
use Rattle.grid.specs.Checks.{refusal, ask, ask_size}
use Rattle.grid.specs.Frames.{line_feed, text_grid, ends_line, text_length, is_shaped, first_bad_byte, read_check, text_sheet}
use Rattle.grid.specs.Promises.{ReadPromise}
use Rattle.grid_laws.proofs.Tests.{true_false, cond_true}
use Rattle.grid_laws.proofs.Below.{length_table}
use Rattle.checks.specs.Sizes.{Fits}
use Rattle.checks.proofs.Gate.{Gate, one, both, weaken, passed}
use Rattle.checks.proofs.Asked.{size_gate}

-- ---- 1, 2 and 3

pub record Spelled (text : List ℕ) : Type 0 where
  pub no_bad_byte : first_bad_byte text ≡ length text
  pub shaped : is_shaped text ≡ true

pub text_gate : (text : List ℕ) →
    Gate (λ later. ask (leb (length text) 11529) (refusal 1 0)
    (ask (eqb (first_bad_byte text) (length text)) (refusal 2 (first_bad_byte text)) (ask (is_shaped text) (refusal 3 0) later)))
    (Spelled text)
text_gate text =
    weaken (λ f. record { no_bad_byte = eqb-true (first_bad_byte text) (length text) f.1.0; shaped = f.1.1 })
    (both (one (leb (length text) 11529) 1 0 (omega arith))
    (both (one (eqb (first_bad_byte text) (length text)) 2 (first_bad_byte text) (omega arith)) (one (is_shaped text) 3 0 (omega arith))))

-- no line feed where a line ends, and one where none does
abbrev pub lacks_feed : List ℕ → ℕ → Bool
lacks_feed text i = not (eqb (get_or text i 0) line_feed) && ends_line (text_grid text).cols i

abbrev pub stray_feed : List ℕ → ℕ → Bool
stray_feed text i = eqb (get_or text i 0) line_feed && not (ends_line (text_grid text).cols i)

-- what 3 says: the text has the length that its header announces, and line feeds where lines end alone
pub record Announced (text : List ℕ) : Type 0 where
  pub long : 9 ≤ length text
  pub announced : length text ≡ text_length (text_grid text)
  pub none_lacking : any_below (length text) (lacks_feed text) ≡ false
  pub none_stray : any_below (length text) (stray_feed text) ≡ false

all_four : (a b c d : Bool) → (a && b && not c && not d) ≡ true → (a ≡ true) × (b ≡ true) × (c ≡ false) × (d ≡ false)
all_four true true false false h = (refl, refl, refl, refl)
all_four true true false true h = true_false h refl
all_four true true true d h = true_false h refl
all_four true false c d h = true_false h refl
all_four false b c d h = true_false h refl

pub announces : (text : List ℕ) → is_shaped text ≡ true → Announced text
unfolding is_shaped
announces text s =
    let n = length text in
    let f = all_four (leb 9 n) (eqb n (text_length (text_grid text))) (any_below n (lacks_feed text)) (any_below n (stray_feed text)) s in
    record {
      long = leb-true 9 n f.0;
      announced = eqb-true n (text_length (text_grid text)) f.1;
      none_lacking = f.2;
      none_stray = f.3;
    }

-- the length that a header announces fits a word
pub announced_small : (rows cols : ℕ) → rows ≤ 69904 → cols ≤ 69904 → rows * (4 * cols + 1) ≤ 19546346768
announced_small rows cols h k =
    let l : 4 * cols + 1 ≤ 279617 = omega arith in
    omega (arith, mul-le-mul h l)

-- ---- 4, 5, 6 and 8

pub record FewCells (g : Grid) (room : ℕ) : Type 0 where
  pub few : size g ≤ 2304
  pub fits : Fits g
  pub room_for : size g ≤ room

pub few_gate : (g : Grid) (room : ℕ) →
    Gate (λ later. ask (leb (size g) 2304) (refusal 4 0) (ask_size g (ask (leb (size g) room) (refusal 8 0) later))) (FewCells g room)
few_gate g room =
    weaken (λ f. record { few = leb-true (size g) 2304 f.0; fits = f.1.0; room_for = leb-true (size g) room f.1.1 })
    (both (one (leb (size g) 2304) 4 0 (omega arith)) (both (size_gate g) (one (leb (size g) room) 8 0 (omega arith))))

-- ---- all of them

pub read_spelled : (text : List ℕ) (room : ℕ) → (read_check text room).number ≡ 0 → Spelled text × FewCells (text_grid text) room
unfolding read_check
read_spelled text room z = (passed (both (text_gate text) (few_gate (text_grid text) room)) refl z).fact

pub sheet_length : (text : List ℕ) → length (text_sheet text) ≡ size (text_grid text)
unfolding text_sheet
sheet_length text = length_table (size (text_grid text)) _

module _ (text : List ℕ) (e₀ e₁ : List ℤ) (r : Dimensions) (p : ReadPromise text e₀ e₁ r) (yes : r.number ≡ 0) where
  pub read_asked : Spelled text × FewCells (text_grid text) (length e₀)
  read_asked = read_spelled text (length e₀) (ap (λ (a : Answer). a.number) (sym p.answer) ∙ yes)

  pub read_rows : r.rows ≡ (text_grid text).rows
  read_rows = p.rows ∙ cond_true _ _ (eq-eqb r.number 0 yes)

  pub read_cols : r.cols ≡ (text_grid text).cols
  read_cols = p.cols ∙ cond_true _ _ (eq-eqb r.number 0 yes)

  pub read_sheet : take (r.rows * r.cols) e₁ ≡ text_sheet text
  read_sheet =
      ap₂ take (ap₂ ◌*◌ read_rows read_cols ∙ sym (sheet_length text)) (p.result ∙ cond_true _ _ (eq-eqb r.number 0 yes))
      ∙ take-append_seam (text_sheet text) _
