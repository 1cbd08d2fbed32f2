-- The table of choices: its rule is computed once, over all of its entries, and carried to each sum.
use mathlib.Core.Path.{◌≡◌, refl, ◌∙◌, ap}
use mathlib.Core.Bool.{Bool}
use mathlib.Core.List.{List, [], ◌∷◌}
use Prim.Native.Nat.{ℕ, ◌<◌}
use lib.Dec.{eqb, eqb→eq}
use lib.ListN.{get_or}
use Rattle.grid.specs.Directions.{member, score, best_of, choice}
use Rattle.grid_laws.proofs.Below.{is_table, at_table}
use Rattle.choice_table.specs.Choices.{choices}
use Rattle.choice_table.proofs.Table.{at_entry}

unfoldable pub entries : List ℕ
entries =
    0 ∷ 1 ∷ 2 ∷ 1 ∷ 4 ∷ 1 ∷ 2 ∷ 2 ∷ 8 ∷ 1 ∷ 2 ∷ 2 ∷ 4 ∷ 4 ∷ 4 ∷ 2 ∷
    16 ∷ 1 ∷ 2 ∷ 1 ∷ 4 ∷ 4 ∷ 4 ∷ 2 ∷ 8 ∷ 8 ∷ 8 ∷ 2 ∷ 8 ∷ 4 ∷ 4 ∷ 4 ∷
    32 ∷ 1 ∷ 2 ∷ 1 ∷ 4 ∷ 1 ∷ 2 ∷ 2 ∷ 8 ∷ 8 ∷ 8 ∷ 2 ∷ 8 ∷ 4 ∷ 4 ∷ 2 ∷
    16 ∷ 16 ∷ 16 ∷ 1 ∷ 16 ∷ 16 ∷ 4 ∷ 2 ∷ 16 ∷ 16 ∷ 8 ∷ 8 ∷ 8 ∷ 8 ∷ 8 ∷ 4 ∷
    64 ∷ 1 ∷ 2 ∷ 1 ∷ 4 ∷ 1 ∷ 2 ∷ 1 ∷ 8 ∷ 1 ∷ 2 ∷ 1 ∷ 4 ∷ 4 ∷ 4 ∷ 2 ∷
    16 ∷ 64 ∷ 16 ∷ 1 ∷ 16 ∷ 1 ∷ 4 ∷ 1 ∷ 16 ∷ 16 ∷ 8 ∷ 1 ∷ 8 ∷ 4 ∷ 4 ∷ 4 ∷
    32 ∷ 64 ∷ 32 ∷ 1 ∷ 32 ∷ 64 ∷ 2 ∷ 1 ∷ 32 ∷ 32 ∷ 32 ∷ 1 ∷ 8 ∷ 4 ∷ 4 ∷ 2 ∷
    32 ∷ 32 ∷ 32 ∷ 32 ∷ 16 ∷ 16 ∷ 16 ∷ 1 ∷ 16 ∷ 16 ∷ 16 ∷ 16 ∷ 16 ∷ 16 ∷ 8 ∷ 4 ∷
    128 ∷ 1 ∷ 2 ∷ 1 ∷ 4 ∷ 1 ∷ 2 ∷ 1 ∷ 8 ∷ 1 ∷ 2 ∷ 1 ∷ 4 ∷ 1 ∷ 2 ∷ 2 ∷
    16 ∷ 1 ∷ 2 ∷ 1 ∷ 4 ∷ 1 ∷ 2 ∷ 1 ∷ 8 ∷ 1 ∷ 8 ∷ 1 ∷ 8 ∷ 4 ∷ 4 ∷ 2 ∷
    32 ∷ 128 ∷ 128 ∷ 1 ∷ 32 ∷ 1 ∷ 2 ∷ 1 ∷ 32 ∷ 128 ∷ 2 ∷ 1 ∷ 8 ∷ 1 ∷ 2 ∷ 2 ∷
    32 ∷ 32 ∷ 32 ∷ 1 ∷ 16 ∷ 1 ∷ 2 ∷ 1 ∷ 16 ∷ 16 ∷ 8 ∷ 1 ∷ 8 ∷ 8 ∷ 8 ∷ 2 ∷
    64 ∷ 128 ∷ 128 ∷ 1 ∷ 64 ∷ 1 ∷ 2 ∷ 1 ∷ 64 ∷ 128 ∷ 128 ∷ 1 ∷ 4 ∷ 1 ∷ 2 ∷ 1 ∷
    64 ∷ 64 ∷ 64 ∷ 1 ∷ 64 ∷ 1 ∷ 2 ∷ 1 ∷ 16 ∷ 64 ∷ 8 ∷ 1 ∷ 8 ∷ 1 ∷ 4 ∷ 1 ∷
    64 ∷ 64 ∷ 64 ∷ 128 ∷ 64 ∷ 64 ∷ 64 ∷ 1 ∷ 32 ∷ 64 ∷ 32 ∷ 128 ∷ 32 ∷ 64 ∷ 2 ∷ 1 ∷
    32 ∷ 64 ∷ 32 ∷ 64 ∷ 32 ∷ 64 ∷ 32 ∷ 1 ∷ 32 ∷ 32 ∷ 32 ∷ 32 ∷ 16 ∷ 16 ∷ 8 ∷ 1 ∷ []

-- an entry is the choice for its place
right : ℕ → ℕ → Bool
right k x = eqb x (choice k)

pub entries_are : entries ≡ choices
unfolding entries choices right member score best_of choice
entries_are = is_table 256 choice entries 0 refl (λ k h. eqb→eq (get_or entries k 0) (choice k) (at_entry right entries tt k h))

pub choice_at : (l : List ℕ) (k : ℕ) → l ≡ choices → k < 256 → get_or l k 0 ≡ choice k
unfolding choices
choice_at l k q h = ap (λ (x : List ℕ). get_or x k 0) q ∙ at_table 256 choice k 0 h
