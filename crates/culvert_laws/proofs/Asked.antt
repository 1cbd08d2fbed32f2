-- 15 and 16, and all questions of the call, as gates.
use mathlib.Core.Path.{◌≡◌}
use mathlib.Core.Bool.{Bool, true, false, cond}
use mathlib.Core.List.{List, [], ◌∷◌}
use Prim.Native.Nat.{ℕ, ◌<◌}
use native.Mathlib.Omega.{arith}
use lib.Dec.{eqb}
use lib.ListN.{length, get_or}
use lib.IntN.{ℤ}
use borrow.Author.Tests.{eq-eqb, eqb-true}
use Rattle.grid.specs.declared.Grid.{Grid}
use Rattle.grid.specs.declared.Answer.{Answer}
use Rattle.grid.specs.Sheet.{is_data}
use Rattle.grid.specs.Culverts.{first_bad_entry}
use Rattle.grid.specs.Checks.{refusal, ask, ask_entries}
use Rattle.grid_laws.proofs.Tests.{cond_true}
use Rattle.checks.proofs.Gate.{Gate, one, both, weaken}
use Rattle.checks.proofs.Asked.{FlowSized, description_gate, lengths_work_gate}
use Rattle.culvert_laws.specs.Asked.{asked_to9, asked_to16}

sixteen_or_fifteen : (b : Bool) → 0 < cond b 16 15
sixteen_or_fifteen true = omega arith
sixteen_or_fifteen false = omega arith

-- 7 of the two lists
pub pairs_gate : (cells : List ℕ) (levels : List ℤ) →
    Gate (ask (eqb (length levels) (length cells)) (refusal 7 0)) (length levels ≡ length cells)
pairs_gate cells levels =
    weaken (eqb-true (length levels) (length cells)) (one (eqb (length levels) (length cells)) 7 0 (omega arith))

module _ (e : List ℤ) (cells : List ℕ) (levels : List ℤ) where
  -- 15 and 16
  pub entries_gate : Gate (ask_entries e cells levels) (first_bad_entry e cells levels ≡ length cells)
  unfolding ask_entries
  entries_gate =
      weaken (eqb-true (first_bad_entry e cells levels) (length cells))
      (one (eqb (first_bad_entry e cells levels) (length cells)) (cond (is_data e (get_or cells (first_bad_entry e cells levels) 0)) 16 15)
      (first_bad_entry e cells levels) (sixteen_or_fifteen (is_data e (get_or cells (first_bad_entry e cells levels) 0))))

  pub entries_yes : first_bad_entry e cells levels ≡ length cells → (later : Answer) → ask_entries e cells levels later ≡ later
  unfolding ask_entries
  entries_yes none later = cond_true later _ (eq-eqb (first_bad_entry e cells levels) (length cells) none)

  -- what 15 and 16 are asked after, and 18
  module _ (g : Grid) (f k a l w : ℕ) where
    pub before_15 : Gate (asked_to9 g e cells levels f k a l w)
        (FlowSized g (length e ∷ []) (f ∷ k ∷ a ∷ l ∷ []) w × (length levels ≡ length cells))
    before_15 =
        weaken
        (λ x. (
          record { fits = x.0.0; shaped = x.0.1; inputs_have = x.1.1.0.0; results_have = x.1.1.0.1; room = x.1.1.1 },
          x.1.0,
        ))
        (both (description_gate g) (both (pairs_gate cells levels) (lengths_work_gate g (length e ∷ []) (f ∷ k ∷ a ∷ l ∷ []) w)))

    pub before_18 : Gate (asked_to16 g e cells levels f k a l w)
        ((FlowSized g (length e ∷ []) (f ∷ k ∷ a ∷ l ∷ []) w × (length levels ≡ length cells))
        × (first_bad_entry e cells levels ≡ length cells))
    before_18 = both before_15 entries_gate
