-- What a call that is lent no sheet but codes is answered first.
use Rattle.std.specs.Prelude.{◌≡◌, List, [], ◌∷◌, ℕ, length}
use Rattle.grid.specs.declared.Grid.{Grid}
use Rattle.grid.specs.declared.Answer.{Answer}
use Rattle.grid.specs.Checks.{accepted, ask_sheets, ask_work, ask_codes}
use Rattle.grid.specs.Promises.{WorkBuffer}

-- 5, 6, 7, 9, 11 and 12, and the work buffer beside the answer
pub record CodesAsked (g : Grid) (codes work₀ work₁ : List ℕ) (r : Answer) : Type 0 where
  pub answer : r ≡ ask_sheets g (length codes ∷ []) [] (ask_work g (length work₀) (ask_codes g codes accepted))
  pub work : WorkBuffer r.number work₀ work₁
