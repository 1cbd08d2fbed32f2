-- The questions of `read` in two parts: about the text alone, and about its rows and columns. `read_check` is the first, and after a yes
-- the second.
use Rattle.std.specs.Prelude.{ℕ, List, eqb, leb, length}
use Rattle.grid.specs.declared.Grid.{Grid}
use Rattle.grid.specs.declared.Answer.{Answer}
use Rattle.grid.specs.Sheet.{size}
use Rattle.grid.specs.Checks.{refusal, accepted, ask, ask_size}
use Rattle.grid.specs.Frames.{first_bad_byte, is_shaped}

-- 1, 2 and 3
unfoldable pub text_check : List ℕ → Answer
text_check text =
    ask (leb (length text) 11529) (refusal 1 0)
    (ask (eqb (first_bad_byte text) (length text)) (refusal 2 (first_bad_byte text)) (ask (is_shaped text) (refusal 3 0) accepted))

-- 4, 5, 6 and 8
unfoldable pub size_check : Grid → (room : ℕ) → Answer
size_check g room = ask (leb (size g) 2304) (refusal 4 0) (ask_size g (ask (leb (size g) room) (refusal 8 0) accepted))
