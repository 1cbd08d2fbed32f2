-- The questions of the call before 18, which is asked of the opened sheet: 5, 6, 17, 20, 7, 8, 9, 15 and 16.
use Rattle.std.specs.Prelude.{List, [], ◌∷◌, ℕ, eqb, length, ℤ}
use Rattle.grid.specs.declared.Grid.{Grid}
use Rattle.grid.specs.declared.Answer.{Answer}
use Rattle.grid.specs.Checks.{refusal, ask, ask_description, ask_lengths, ask_work, ask_entries}

abbrev pub asked_to9 : Grid → List ℤ → List ℕ → List ℤ → (filled codes counts labels work : ℕ) → Answer → Answer
asked_to9 g e cells levels filled codes counts labels work later =
    ask_description g
    (ask (eqb (length levels) (length cells)) (refusal 7 0)
    (ask_lengths g (length e ∷ []) (filled ∷ codes ∷ counts ∷ labels ∷ []) (ask_work g work later)))

abbrev pub asked_to16 : Grid → List ℤ → List ℕ → List ℤ → (filled codes counts labels work : ℕ) → Answer → Answer
asked_to16 g e cells levels filled codes counts labels work later =
    asked_to9 g e cells levels filled codes counts labels work (ask_entries e cells levels later)
