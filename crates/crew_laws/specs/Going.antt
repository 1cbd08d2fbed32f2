-- One crew's trace on its way.
use Rattle.std.specs.Prelude.{◌≡◌, List, ◌⊎◌, ℕ, suc, ◌+◌, ◌-◌, ◌*◌, ◌%◌, ◌<◌, length}
use Rattle.grid.specs.declared.Grid.{Grid}
use Rattle.grid.specs.Below.{last_of}
use Rattle.grid.specs.Routes.{follow, has_code, receiver}
use Rattle.grid.specs.Crews.{waiting, finished, status_of, stands_on, next_crew}
use Rattle.route_laws.specs.Ends.{EndsIn}

-- how many turns come before crew k's
abbrev pub wait : ℕ → ℕ → ℕ
wait next k = (k + 32 - next) % 32

module _ (g : Grid) (codes : List ℕ) where
  -- it is finished, at the cell `last`, before n turns are taken
  pub record OnItsWay (s : List ℕ) (k last n : ℕ) : Type 0 where
    pub status : status_of s k ≡ waiting
    -- the cells after the one it stands on
    pub left : ℕ
    pub ends : EndsIn (has_code codes) (receiver g codes) (suc left) (stands_on s k)
    pub last_is : last_of (follow (has_code codes) (receiver g codes) (suc left) (stands_on s k)) last ≡ last
    pub in_time : 32 * left + wait (next_crew s) k < n

  pub record Arrived (s : List ℕ) (k last : ℕ) : Type 0 where
    pub status : status_of s k ≡ finished
    pub at : stands_on s k ≡ last

  -- within n turns it stands finished at `last`
  abbrev pub Within : List ℕ → ℕ → ℕ → ℕ → Type 0
  Within s k last n = (length s ≡ 66) × (OnItsWay s k last n ⊎ Arrived s k last)
