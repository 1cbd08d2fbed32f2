-- Whole outputs: the runs that make them, one after the other.
use mathlib.Core.Path.{◌≡◌, ◌∙◌, subst}
use mathlib.Core.List.{List, ◌++◌}
use Prim.Native.Nat.{ℕ, ◌+◌, ◌*◌, ◌≤◌}
use native.Mathlib.Omega.{arith}
use lib.IntN.{ℤ}
use lib.ListN.{length, get_or, set}
use Rattle.grid.specs.declared.Grid.{Grid}
use Rattle.grid.specs.declared.Answer.{Answer}
use Rattle.grid.specs.Sheet.{at}
use Rattle.grid.specs.Frames.{line_feed, text_length, to_twos, hex_text, sheet_text, header_text, elevation_text, result_text, refusal_text}
use Rattle.text_lines.specs.Put.{Put}
use Rattle.frames.specs.Printed.{Printed, result_length}
use Rattle.text_laws.proofs.Runs.{sets_front}
use Rattle.text_lines.proofs.Lines.{put_put, put_line_feed}

module _ {a : List ℕ} {n : ℕ} {out₀ out₁ : List ℕ} {j : ℕ} where
  -- a run from the first place on is a whole output
  pub put_printed : n ≤ length out₀ → Put a n 0 out₀ out₁ j → Printed a out₀ out₁ j
  put_printed h p =
      let e : length a ≡ n = p.width_of_text in
      record {
        length_of_text = p.next_place ∙ omega arith;
        stored = p.stored ∙ sets_front a out₀ (omega arith);
      }

-- the header and the rows
pub elevations_put : (g : Grid) (e : List ℤ) {o₀ o₁ o₂ : List ℕ} {n₁ n₂ : ℕ}
    → Put (header_text g) 9 0 o₀ o₁ n₁
    → Put (sheet_text g 4 (λ c. to_twos (at e c))) (g.rows * (g.cols * 4 + 1)) n₁ o₁ o₂ n₂
    → Put (elevation_text g e) (text_length g) 0 o₀ o₂ n₂
unfolding elevation_text
elevations_put g e {o₀} {o₁} {o₂} {n₁} {n₂} a b =
    let w : 9 + g.rows * (g.cols * 4 + 1) ≡ text_length g = omega arith in
    subst (λ (n : ℕ). Put (header_text g ++ sheet_text g 4 (λ c. to_twos (at e c))) n 0 o₀ o₂ n₂) w (put_put a b)

-- the bytes of the four sheets, counted row by row
room_of : (r q : ℕ) → 9 + r * (4 * q + 1) + r * (q * 2 + 1) + r * (q * 8 + 1) + r * (q * 8 + 1) ≡ 9 + r * (22 * q + 4)
room_of r q = omega arith

module _ (g : Grid) (filled : List ℤ) (codes counts labels : List ℕ) {o₀ o₁ o₂ o₃ o₄ : List ℕ} {n₁ n₂ n₃ n₄ : ℕ} where
  pub results_printed : result_length g ≤ length o₀
      → Put (elevation_text g filled) (text_length g) 0 o₀ o₁ n₁
      → Put (sheet_text g 2 (λ c. get_or codes c 0)) (g.rows * (g.cols * 2 + 1)) n₁ o₁ o₂ n₂
      → Put (sheet_text g 8 (λ c. get_or counts c 0)) (g.rows * (g.cols * 8 + 1)) n₂ o₂ o₃ n₃
      → Put (sheet_text g 8 (λ c. get_or labels c 0)) (g.rows * (g.cols * 8 + 1)) n₃ o₃ o₄ n₄
      → Printed (result_text g filled codes counts labels) o₀ o₄ n₄
  unfolding result_text
  results_printed h a b c d = put_printed (omega (arith, room_of g.rows g.cols)) (put_put (put_put (put_put a b) c) d)

-- "FF, the number in 2 digits, the place in 8, all on one line"
module _ (answer : Answer) {o₀ o₁ o₂ o₃ : List ℕ} {n₁ n₂ n₃ : ℕ} where
  pub refusal_printed : 13 ≤ length o₀
      → Put (hex_text 2 255) 2 0 o₀ o₁ n₁
      → Put (hex_text 2 answer.number) 2 n₁ o₁ o₂ n₂
      → Put (hex_text 8 answer.place) 8 n₂ o₂ o₃ n₃
      → Printed (refusal_text answer) o₀ (set o₃ n₃ line_feed) (n₃ + 1)
  unfolding refusal_text
  refusal_printed h a b c = put_printed h (put_line_feed (put_put (put_put a b) c))
