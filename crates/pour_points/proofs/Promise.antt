-- The questions of Table 6 in order, and the promise at each no and after the last yes.
use mathlib.Core.Path.{◌≡◌, ◌∙◌}
use mathlib.Core.Bool.{true, false}
use mathlib.Core.List.{List, [], ◌∷◌}
use Prim.Native.Nat.{ℕ}
use native.Mathlib.Omega.{arith}
use lib.ListN.{length}
use lib.IntN.{ℤ}
use Rattle.grid.specs.declared.Grid.{Grid}
use Rattle.grid.specs.declared.Answer.{Answer}
use Rattle.grid.specs.declared.Counted.{Counted}
use Rattle.grid.specs.Sheet.{size}
use Rattle.grid.specs.Checks.{refusal, accepted, all_have, ask_sheets, pour_points_check}
use Rattle.grid.specs.PourPoints.{pour_points}
use Rattle.grid.specs.Promises.{PourPointsPromise}
use Rattle.checks.specs.Sizes.{Fits}
use Rattle.checks.proofs.Gate.{Gate, kept, passed, answered_no, next_no, next_yes}
use Rattle.checks.proofs.Asked.{Sheets, sheets_gate, all_are}
use Rattle.pour_laws.specs.Batch.{Scanned}
use Rattle.pour_laws.specs.Columns.{OneLength, Settled}

pub can_scan : (g : Grid) (labels : List ℕ) → length labels ≡ size g → Fits g → Scanned g labels
can_scan g labels q f = record { labels_long = q; small = (let z = f.cells in omega arith); some = (let z = f.cols_low in omega arith) }

module _ {s l c : List ℕ} {e : List ℤ} where
  pub one_length_of : all_have (length s) (length l ∷ length e ∷ length c ∷ []) ≡ true → OneLength s l e c
  one_length_of h =
      let a = all_are (length s) (length l ∷ length e ∷ length c ∷ []) h in
      record { larger = a.0; elevation = a.1.0; cell = a.1.1.0 }

-- ---- the promise

module _ (g : Grid) (e : List ℤ) (labels : List ℕ) where
  -- what the columns' 8 and 14 are asked after
  before_columns : Gate (ask_sheets g (length e ∷ length labels ∷ []) []) (Sheets g (length e ∷ length labels ∷ []) [])
  before_columns = sheets_gate g (length e ∷ length labels ∷ []) []

  pub sizes : (answer : Answer) → answer ≡ ask_sheets g (length e ∷ length labels ∷ []) [] accepted → answer.number ≡ 0 →
      Sheets g (length e ∷ length labels ∷ []) []
  sizes answer is z = (passed before_columns is z).fact

module _ (g : Grid) (e : List ℤ) (labels : List ℕ) {s₀ l₀ c₀ : List ℕ} {e₀ : List ℤ} where
  refusal_promise : (number place : ℕ)
      → (number ≡ 0 → ⊥)
      → refusal number place ≡ pour_points_check g e labels (length s₀) (length l₀) (length e₀) (length c₀)
      → PourPointsPromise g e labels s₀ s₀ l₀ l₀ e₀ e₀ c₀ c₀ (record { number = number; place = place; count = 0 })
  refusal_promise number place above q =
      record {
        answer = q;
        count = kept above _;
        smaller = kept above _;
        larger = kept above _;
        elevation = kept above _;
        cell = kept above _;
      }

  module _ (answer : Answer) (is : answer ≡ ask_sheets g (length e ∷ length labels ∷ []) [] accepted) where
    pub promise_first : (answer.number ≡ 0 → ⊥)
        → PourPointsPromise g e labels s₀ s₀ l₀ l₀ e₀ e₀ c₀ c₀ (record { number = answer.number; place = answer.place; count = 0 })
    unfolding pour_points_check
    promise_first n = refusal_promise answer.number answer.place n (answered_no (before_columns g e labels) is n _)

    pub promise_lengths : answer.number ≡ 0
        → all_have (length s₀) (length l₀ ∷ length e₀ ∷ length c₀ ∷ []) ≡ false
        → PourPointsPromise g e labels s₀ s₀ l₀ l₀ e₀ e₀ c₀ c₀ (record { number = 8; place = 0; count = 0 })
    unfolding pour_points_check
    promise_lengths z h = refusal_promise 8 0 (λ y. omega arith) (next_no (before_columns g e labels) is z (refusal 8 0) _ h)

    pub promise_settled : {s₁ l₁ c₁ : List ℕ} {e₁ : List ℤ} {r : Counted}
        → answer.number ≡ 0
        → all_have (length s₀) (length l₀ ∷ length e₀ ∷ length c₀ ∷ []) ≡ true
        → Settled (pour_points g e labels) s₀ s₁ l₀ l₁ e₀ e₁ c₀ c₁ r
        → PourPointsPromise g e labels s₀ s₁ l₀ l₁ e₀ e₁ c₀ c₁ r
    unfolding pour_points_check
    promise_settled z h w =
        record {
          answer = w.answer ∙ next_yes (before_columns g e labels) is z (refusal 8 0) _ h;
          count = w.count;
          smaller = w.smaller;
          larger = w.larger;
          elevation = w.elevation;
          cell = w.cell;
        }
