-- The work buffer of a flood: the word of each cell, its key and 65536 times its level, 0 where it is not reached; then the cells in order
-- of key; and in the second half, from half on, the queue and, from half + n on, the marks of voids, 2 where one is outside. What of it the
-- flood leaves, and what it changes, each as one list.
use Rattle.std.specs.Prelude.{cond, List, ℕ, ◌+◌, ◌-◌, ◌/◌, ◌%◌, get_or, ltb}
use Rattle.grid.specs.Below.{table}

-- the keys, the cells in order of key, and the marks
unfoldable pub front_of : ℕ → ℕ → List ℕ → List ℕ
front_of n half w =
    table (n + n + n) (λ i. cond (ltb i n) (get_or w i 0 % 65536) (cond (ltb i (n + n)) (get_or w i 0) (get_or w (half + (i - n)) 0)))

-- the queue, and the levels
unfoldable pub back_of : ℕ → ℕ → List ℕ → List ℕ
back_of n half w = table (n + n) (λ i. cond (ltb i n) (get_or w (half + i) 0) (get_or w (i - n) 0 / 65536))
