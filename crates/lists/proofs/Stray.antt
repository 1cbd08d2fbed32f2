-- One place of a list, by its tests, and the first stray place by a walk along the list.
use mathlib.Core.Path.{◌≡◌, refl, sym, ◌∙◌, ap, ap₂, subst}
use mathlib.Core.Bool.{Bool, true, false, not, ◌||◌}
use mathlib.Core.List.{List}
use Prim.Native.Nat.{ℕ, zero, suc, ◌+◌, ◌-◌, ◌/◌, ◌%◌, ◌^◌, ◌≤◌, ◌<◌}
use native.Mathlib.Nat.{div-le_self, mod-le}
use native.Mathlib.Omega.{arith}
use lib.Dec.{eqb}
use lib.ListN.{length, get_or}
use borrow.Author.Count.{below_more}
use borrow.Author.Tests.{ne_eqb, le-leb, lt-leb, lt-ltb}
use Rattle.grid.specs.declared.Grid.{Grid}
use Rattle.grid.specs.Sheet.{size}
use Rattle.grid.specs.Endings.{is_stray, first_stray}
use Rattle.grid_laws.proofs.Tests.{or_left, or_false}
use Rattle.grid_laws.proofs.Below.{first_is, first_none}
use Rattle.lists.specs.Beside.{are_beside}
use Rattle.lists.proofs.Beside.{beside_is}

module _ (g : Grid) (l : List ℕ) (i : ℕ) where
  pub off_the_sheet : size g ≤ get_or l i 0 → true ≡ is_stray g l i
  unfolding is_stray
  off_the_sheet h = sym (or_left _ (le-leb (size g) (get_or l i 0) h))

  -- what is kept of the cell before, in row `row` and column `col`
  pub record Before (row col : ℕ) : Type 0 where
    pub cell_on : get_or l (i - 1) 0 < size g
    pub row_is : row ≡ get_or l (i - 1) 0 / g.cols
    pub col_is : col ≡ get_or l (i - 1) 0 % g.cols

-- a cell on the sheet, by what is kept of the one before
by_place : (g : Grid) (l : List ℕ) (i row col : ℕ) → get_or l i 0 < size g → (0 < i → Before g l i row col) →
    not (eqb i 0 || are_beside row col (get_or l i 0 / g.cols) (get_or l i 0 % g.cols)) ≡ is_stray g l i
unfolding is_stray
by_place g l zero row col h b = sym (or_false (lt-leb (size g) (get_or l 0 0) h) refl)
by_place g l (suc k) row col h b =
    let w = b (omega arith) in
    let c = get_or l (suc k - 1) 0 in
    let n = get_or l (suc k) 0 in
    rw (lt-leb (size g) n h, ne_eqb (suc k) 0 (λ e. let z : ⊥ = omega arith in z), lt-ltb 0 (suc k) (omega arith))
    (ap not
    (ap₂ (λ (x y : ℕ). are_beside x y (n / g.cols) (n % g.cols)) w.row_is w.col_is ∙ beside_is g c n w.cell_on h))

pub tested : (g : Grid) (l : List ℕ) (i row col : ℕ) → get_or l i 0 < size g → (0 < i → Before g l i row col) → {b : Bool} →
    b ≡ (eqb i 0 || are_beside row col (get_or l i 0 / g.cols) (get_or l i 0 % g.cols)) → is_stray g l i ≡ not b
tested g l i row col h w e = sym (ap not e ∙ by_place g l i row col h w)

-- no place below i is stray
abbrev pub Straight : Grid → List ℕ → ℕ → Type 0
Straight g l i = (j : ℕ) → j < i → is_stray g l j ≡ false

module _ (g : Grid) (l : List ℕ) (i : ℕ) (straight : Straight g l i) where
  pub stray_found : i < length l → is_stray g l i ≡ true → i ≡ first_stray g l
  unfolding first_stray
  stray_found h t = sym (first_is (length l) (is_stray g l) i h t straight)

  pub none_found : length l ≤ i → length l ≡ first_stray g l
  unfolding first_stray
  none_found h = sym (first_none (length l) (is_stray g l) (λ j m. straight j (omega arith)))

-- the walk has come to the place i: no place before it is stray, and row and column of the cell before it are kept
pub record WalkedTo (g : Grid) (l : List ℕ) (i row col : ℕ) : Type 0 where
  pub straight : Straight g l i
  pub row_fits : row < 2 ^ 24
  pub col_fits : col < 2 ^ 24
  pub before : 0 < i → Before g l i row col

pub walked_on : (g : Grid) (l : List ℕ) (i row col : ℕ) → WalkedTo g l i row col → size g ≤ 16000000 → i < length l →
    get_or l i 0 < size g → is_stray g l i ≡ false → WalkedTo g l (i + 1) (get_or l i 0 / g.cols) (get_or l i 0 % g.cols)
walked_on g l i row col w few h on e =
    let q : i ≡ i + 1 - 1 = omega arith in
    let a = div-le_self (get_or l i 0) g.cols in
    let b = mod-le (get_or l i 0) g.cols in
    record {
      straight = below_more _ i w.straight e;
      row_fits = omega arith;
      col_fits = omega arith;
      before = λ _. record {
        cell_on = subst (λ (j : ℕ). get_or l j 0 < size g) q on;
        row_is = ap (λ (j : ℕ). get_or l j 0 / g.cols) q;
        col_is = ap (λ (j : ℕ). get_or l j 0 % g.cols) q;
      };
    }
