-- The four columns, written stretch by stretch.
use Rattle.std.specs.Prelude.{◌≡◌, List, ◌++◌, map, ℕ, ◌+◌, ◌/◌, ◌%◌, ◌≤◌, ◌<◌, leb, length, get_or, drop, ℤ, pos}
use Rattle.grid.specs.declared.Grid.{Grid}
use Rattle.grid.specs.declared.Counted.{Counted}
use Rattle.grid.specs.Checks.{refusal, accepted, ask, reported, of_counted}
use Rattle.grid.specs.Promises.{column_of}
use Rattle.cells.specs.Keys.{level_of}
use Rattle.grid.specs.PourPoints.{Entry, pour_points}
use Rattle.pour_laws.specs.Words.{Fits, Among}
use Rattle.pour_laws.specs.Batch.{capacity, Reached}
use Rattle.pour_laws.specs.Lines.{lines}

-- k values put into a list from a place on; d is the default that it is read with
pub record Put {A : Type 0} (d : A) (k place : ℕ) (value : ℕ → A) (old new : List A) : Type 0 where
  pub long : length new ≡ length old
  pub written : (i : ℕ) → i < k → get_or new (place + i) d ≡ value i
  pub before : (j : ℕ) → j < place → get_or new j d ≡ get_or old j d
  pub after : (j : ℕ) → place + k ≤ j → get_or new j d ≡ get_or old j d

-- the first `done` of the values stand in the list, and the rest is as at entry
pub record ColumnTo {A : Type 0} (d : A) (values : List A) (done : ℕ) (entry column : List A) : Type 0 where
  pub long : length column ≡ length entry
  pub written : (i : ℕ) → i < done → get_or column i d ≡ get_or values i d
  pub rest : (i : ℕ) → done ≤ i → get_or column i d ≡ get_or entry i d

-- between two scans, of which the last gave k pairs: the first n entries are done, and those of pairs up to the limit
pub record Between (g : Grid) (e : List ℤ) (labels : List ℕ) (limit n k : ℕ) : Type 0 where
  pub within : n ≤ length (pour_points g e labels)
  pub full : k ≤ capacity
  pub more : k ≡ capacity → ((x : Entry) → Among x (lines g e labels g.rows) → Fits x) → Reached (pour_points g e labels) limit n
  pub last : k < capacity → n ≡ length (pour_points g e labels)

-- k entries put into the four columns from a place on
pub record Puts (k place : ℕ) (pairs ranks : List ℕ) (s₀ s₁ l₀ l₁ : List ℕ) (e₀ e₁ : List ℤ) (c₀ c₁ : List ℕ) : Type 0 where
  pub smaller : Put 0 k place (λ i. get_or pairs i 0 / 4294967296 % 4294967296) s₀ s₁
  pub larger : Put 0 k place (λ i. get_or pairs i 0 / 1 % 4294967296) l₀ l₁
  pub elevation : Put (pos 0) k place (λ i. level_of (get_or ranks i 0 / 16777216 % 65536)) e₀ e₁
  pub cell : Put 0 k place (λ i. get_or ranks i 0 / 1 % 16777216) c₀ c₁

-- the first n of the entries stand in the four columns
pub record ColumnsTo (l : List Entry) (n : ℕ) (s₀ s₁ l₀ l₁ : List ℕ) (e₀ e₁ : List ℤ) (c₀ c₁ : List ℕ) : Type 0 where
  pub smaller : ColumnTo 0 (map (λ x. x.smaller) l) n s₀ s₁
  pub larger : ColumnTo 0 (map (λ x. x.larger) l) n l₀ l₁
  pub elevation : ColumnTo (pos 0) (map (λ x. x.elevation) l) n e₀ e₁
  pub cell : ColumnTo 0 (map (λ x. x.cell) l) n c₀ c₁

-- four columns of one length
pub record OneLength (s l : List ℕ) (e : List ℤ) (c : List ℕ) : Type 0 where
  pub larger : length l ≡ length s
  pub elevation : length e ≡ length s
  pub cell : length c ≡ length s

-- the whole of the entries in the four columns, the rest as at entry
pub record Written (l : List Entry) (s₀ s₁ l₀ l₁ : List ℕ) (e₀ e₁ : List ℤ) (c₀ c₁ : List ℕ) : Type 0 where
  pub smaller : s₁ ≡ map (λ x. x.smaller) l ++ drop (length l) s₀
  pub larger : l₁ ≡ map (λ x. x.larger) l ++ drop (length l) l₀
  pub elevation : e₁ ≡ map (λ x. x.elevation) l ++ drop (length l) e₀
  pub cell : c₁ ≡ map (λ x. x.cell) l ++ drop (length l) c₀

-- question 14 and what follows, for columns of one length
pub record Settled (l : List Entry) (s₀ s₁ l₀ l₁ : List ℕ) (e₀ e₁ : List ℤ) (c₀ c₁ : List ℕ) (r : Counted) : Type 0 where
  pub answer : of_counted r ≡ ask (leb (length l) (length s₀)) (refusal 14 (length l)) accepted
  pub count : r.count ≡ reported (of_counted r) (length l)
  pub smaller : s₁ ≡ column_of (of_counted r) (λ x. x.smaller) l s₀
  pub larger : l₁ ≡ column_of (of_counted r) (λ x. x.larger) l l₀
  pub elevation : e₁ ≡ column_of (of_counted r) (λ x. x.elevation) l e₀
  pub cell : c₁ ≡ column_of (of_counted r) (λ x. x.cell) l c₀

-- the two answers of question 14
abbrev pub no_room : ℕ → Counted
no_room n = record { number = 14; place = n; count = 0 }

abbrev pub counted : ℕ → Counted
counted n = record { number = 0; place = 0; count = n }
