-- "joined as neighbours": the cells of a set that lead on to given cells of it, each a neighbour of the one before.
use Rattle.std.specs.Prelude.{◌≡◌, Bool, false, ◌&&◌, ◌||◌, List, [], ◌∷◌, ℕ, zero, suc, T, get_or}
use Rattle.grid.specs.declared.Grid.{Grid}
use Rattle.grid.specs.Below.{table, any_below, head_of, last_of}
use Rattle.grid.specs.Sheet.{size, neighbour, Touch}

-- `member` tells the cells of the set, `first` those of them that are joined from the start; one pass joins each cell of the set that has
-- a joined neighbour
module _ (g : Grid) (member first : ℕ → Bool) where
  unfoldable pub join_pass : List Bool → ℕ → Bool
  join_pass l c = get_or l c false || (member c && any_below 8 (λ p. get_or l (neighbour g c p) false))

  unfoldable pub join_passes : ℕ → List Bool
  join_passes zero = table (size g) (λ c. member c && first c)
  join_passes (suc k) = let l : List Bool = join_passes k in table (size g) (join_pass l)

  -- rows × columns passes join all that can be joined
  unfoldable pub joined : List Bool
  joined = join_passes (size g)

  -- the same by lists: one or more cells of the set, each a neighbour of the one before
  abbrev pub ChainIn : List ℕ → Type 0
  ChainIn [] = ⊥
  ChainIn (c ∷ []) = T (member c)
  ChainIn (c ∷ d ∷ l) = T (member c) × Touch g c d × ChainIn (d ∷ l)

  -- such a chain from c to a cell that is joined from the start
  pub record ChainTo (c : ℕ) (l : List ℕ) : Type 0 where
    pub starts : head_of l (size g) ≡ c
    pub chain : ChainIn l
    pub ends : T (first (last_of l (size g)))
