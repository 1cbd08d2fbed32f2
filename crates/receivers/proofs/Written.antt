-- The list of receivers while it is written, place by place; rows and columns along the numbering.
use mathlib.Core.Path.{◌≡◌, sym, ◌∙◌}
use mathlib.Core.List.{List, ◌++◌}
use Prim.Native.Nat.{ℕ, ◌+◌, ◌*◌, ◌/◌, ◌%◌, ◌≤◌, ◌<◌}
use native.Mathlib.Decide.{dec_lt}
use native.Mathlib.Omega.{arith}
use lib.Arith.{digits_div, digits_mod, digits_lt}
use lib.ListN.{length, get_or, drop, set, length-set}
use lib.Seq.{get_or-set_same, get_or-set_other}
use borrow.Author.Count.{below_more}
use Rattle.grid.specs.declared.Grid.{Grid}
use Rattle.grid.specs.Sheet.{size}
use Rattle.route_laws.specs.Receivers.{receiver_mark, receivers}
use Rattle.route_laws.proofs.Front.{is_front}
use Rattle.receivers.specs.Written.{RowWritten, WrittenTo}

-- ---- the cell in a row and a column
pub in_row : (g : Grid) (row col : ℕ) → row < g.rows → col < g.cols →
    (row * g.cols + col < size g) × (row ≡ (row * g.cols + col) / g.cols) × (col ≡ (row * g.cols + col) % g.cols)
in_row g row col h l = (digits_lt h l, sym (digits_div row l), sym (digits_mod row l))

-- ---- one row more
pub row_more : (g : Grid) (codes : List ℕ) (row k : ℕ) (t₀ t : List ℕ) (v : ℕ) → row * g.cols + k < length t₀ →
    v ≡ receiver_mark g codes (row * g.cols + k) → RowWritten g codes row k t₀ t →
    RowWritten g codes row (k + 1) t₀ (set t (row * g.cols + k) v)
row_more g codes row k t₀ t v h e W =
    let i = row * g.cols + k in
    record {
      same_length = length-set t i v ∙ W.same_length;
      before = λ c l. get_or-set_other t i c v 0 (λ q. omega arith) ∙ W.before c l;
      written =
          λ c l m. below_more (λ d. row * g.cols ≤ d → get_or (set t i v) d 0 ≡ receiver_mark g codes d) i
          (λ d b a. get_or-set_other t i d v 0 (λ q. omega arith) ∙ W.written d a b)
          (λ a. get_or-set_same t i v 0 (let s = W.same_length in omega arith) ∙ e) c (omega arith) l;
      after = λ c l. get_or-set_other t i c v 0 (λ q. omega arith) ∙ W.after c (omega arith);
    }

pub written_more : (g : Grid) (codes : List ℕ) (row : ℕ) (t₀ t t' : List ℕ) → WrittenTo g codes (row * g.cols) t₀ t →
    RowWritten g codes row g.cols t t' → WrittenTo g codes ((row + 1) * g.cols) t₀ t'
written_more g codes row t₀ t t' W R =
    record {
      same_length = R.same_length ∙ W.same_length;
      written = λ c h. go c h (dec_lt c (row * g.cols));
      after = λ c h. R.after c (omega arith) ∙ W.after c (omega arith);
    }
  where
    go : (c : ℕ) → c < (row + 1) * g.cols → Dec (c < row * g.cols) → get_or t' c 0 ≡ receiver_mark g codes c
    go c h (yes l) = R.before c l ∙ W.written c l
    go c h (no f) = R.written c (omega arith) (omega arith)

-- ---- all places
pub written_front : (g : Grid) (codes t₀ t : List ℕ) → size g ≤ length t₀ → WrittenTo g codes (size g) t₀ t →
    t ≡ receivers g codes ++ drop (size g) t₀
unfolding receivers
written_front g codes t₀ t l W = is_front (size g) (receiver_mark g codes) t₀ t W.same_length l W.written W.after
