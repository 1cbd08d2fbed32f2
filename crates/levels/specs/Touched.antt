-- What a look at the cell m makes of the work buffer.
use Rattle.std.specs.Prelude.{◌≡◌, ◌⊎◌, List, ℕ, ◌+◌, ◌<◌, get_or, set}

-- it gets `word` and is queued where it has no word
abbrev pub Touched : ℕ → List ℕ → List ℕ → (word tail m r : ℕ) → Type 0
Touched half work work' word tail m r =
    ((r ≡ tail) × (work' ≡ work) × (0 < get_or work m 0))
    ⊎ ((r ≡ tail + 1) × (work' ≡ set (set work m word) (half + tail) m) × (get_or work m 0 ≡ 0))
