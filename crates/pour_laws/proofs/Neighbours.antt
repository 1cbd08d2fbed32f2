-- Two cells touch if one is the east, south-east, south or south-west neighbour of the other.
use mathlib.Core.Path.{◌≡◌, refl, sym, ◌∙◌, ap, ap₂, subst}
use mathlib.Core.Bool.{Bool, true, false, cond, ◌&&◌}
use mathlib.Core.Logic.{◌⊎◌, inl, inr}
use Prim.Native.Nat.{ℕ, zero, suc, ◌+◌, ◌-◌, ◌*◌, ◌/◌, ◌%◌, ◌≤◌, ◌<◌}
use native.Mathlib.Nat.{div-add-mod', div-lt_iff_lt-mul, mod-lt}
use native.Mathlib.Omega.{arith}
use native.Mathlib.Decide.{dec_lt}
use lib.Arith.{digits_lt, digits_div, digits_mod}
use lib.Dec.{ltb}
use lib.IntN.{ℤ, pos, negsuc}
use borrow.Author.Tests.{lt-ltb, le-ltb}
use Rattle.grid.specs.declared.Grid.{Grid}
use Rattle.grid.specs.Sheet.{size, moved, cell_at, neighbour}

-- n comes after c in the order of cells, and touches it
pub data Later (g : Grid) (c n : ℕ) : Type 0 where
  east : (r q : ℕ) → r < g.rows → q + 1 < g.cols → c ≡ r * g.cols + q → n ≡ r * g.cols + 1 + q → Later g c n
  south_east_lem : (r q : ℕ) → r + 1 < g.rows → q + 1 < g.cols → c ≡ r * g.cols + q → n ≡ r * g.cols + g.cols + 1 + q → Later g c n
  south : (r q : ℕ) → r + 1 < g.rows → q < g.cols → c ≡ r * g.cols + q → n ≡ r * g.cols + g.cols + q → Later g c n
  south_west_lem : (r q : ℕ) → r + 1 < g.rows → q + 1 < g.cols → c ≡ r * g.cols + 1 + q → n ≡ r * g.cols + g.cols + q → Later g c n

-- ---- one step along a row or a column of n places
stays_at : (n x : ℕ) → x < n → moved n x (pos 0) ≡ x
unfolding moved
stays_at n x h = let e : x + 0 ≡ x = omega arith in ap (λ (t : Bool). cond t (x + 0) n) (lt-ltb (x + 0) n (omega arith)) ∙ e

goes_up : (n x : ℕ) → x + 1 < n → moved n x (pos 1) ≡ x + 1
unfolding moved
goes_up n x h = ap (λ (t : Bool). cond t (x + 1) n) (lt-ltb (x + 1) n h)

goes_down : (n x : ℕ) → 0 < x → moved n x (negsuc 0) ≡ x - 1
unfolding moved
goes_down n x h = ap (λ (t : Bool). cond t (x - 1) n) (lt-ltb 0 x h)

leaves_up : (n x : ℕ) → n ≤ x + 1 → moved n x (pos 1) ≡ n
unfolding moved
leaves_up n x h = ap (λ (t : Bool). cond t (x + 1) n) (le-ltb (x + 1) n h)

leaves_down : (n x : ℕ) → x ≤ 0 → moved n x (negsuc 0) ≡ n
unfolding moved
leaves_down n x h = ap (λ (t : Bool). cond t (x - 1) n) (le-ltb 0 x h)

up : (n x : ℕ) → moved n x (pos 1) < n → (x + 1 < n) × (moved n x (pos 1) ≡ x + 1)
up n x h = go (dec_lt (x + 1) n)
  where
    go : Dec (x + 1 < n) → (x + 1 < n) × (moved n x (pos 1) ≡ x + 1)
    go (yes p) = (p, goes_up n x p)
    go (no p) = let e = leaves_up n x (omega arith) in let z : ⊥ = omega arith in absurd z

down : (n x : ℕ) → moved n x (negsuc 0) < n → (0 < x) × (moved n x (negsuc 0) ≡ x - 1)
down n x h = go (dec_lt 0 x)
  where
    go : Dec (0 < x) → (0 < x) × (moved n x (negsuc 0) ≡ x - 1)
    go (yes p) = (p, goes_down n x p)
    go (no p) = let e = leaves_down n x (omega arith) in let z : ⊥ = omega arith in absurd z

-- ---- a cell by its row and column
module _ (g : Grid) where
  cell_in : (r q : ℕ) → r < g.rows → q < g.cols → cell_at g r q ≡ r * g.cols + q
  unfolding cell_at
  cell_in r q h k = rw (lt-ltb r g.rows h, lt-ltb q g.cols k)

  cell_on : (r q : ℕ) → cell_at g r q < size g → (r < g.rows) × (q < g.cols) × (cell_at g r q ≡ r * g.cols + q)
  unfolding cell_at
  cell_on r q h = go (dec_lt r g.rows) (dec_lt q g.cols)
    where
      off : cond (ltb r g.rows && ltb q g.cols) (r * g.cols + q) (size g) ≡ size g → ⊥
      off e = omega arith

      out : (t : Bool) → cond (t && false) (r * g.cols + q) (size g) ≡ size g
      out true = refl
      out false = refl

      go : Dec (r < g.rows) → Dec (q < g.cols) →
          (r < g.rows) × (q < g.cols) × (cond (ltb r g.rows && ltb q g.cols) (r * g.cols + q) (size g) ≡ r * g.cols + q)
      go (yes a) (yes b) = (a, b, rw (lt-ltb r g.rows a, lt-ltb q g.cols b))
      go (no a) b = absurd (off (rw (le-ltb r g.rows (omega arith))))
      go (yes a) (no b) = absurd (off (rw (le-ltb q g.cols (omega arith)) (out (ltb r g.rows))))

  -- a cell's row and column
  module _ (r q : ℕ) (h : r < g.rows) (k : q < g.cols) where
    pub cell_below : r * g.cols + q < size g
    cell_below = digits_lt h k

    row_of : (r * g.cols + q) / g.cols ≡ r
    row_of = digits_div r k

    col_of : (r * g.cols + q) % g.cols ≡ q
    col_of = digits_mod r k

    steps_to : (s t : ℤ) (x y : ℕ) → moved g.rows r s ≡ x → moved g.cols q t ≡ y → x < g.rows → y < g.cols
        → cell_at g (moved g.rows ((r * g.cols + q) / g.cols) s) (moved g.cols ((r * g.cols + q) % g.cols) t) ≡ x * g.cols + y
    steps_to s t x y a b i j = rw (row_of, col_of) (rw (a, b) (cell_in x y i j))

abbrev Touches : Grid → ℕ → ℕ → Type 0
Touches g c n = (c < size g) × ((p : ℕ) × (p < 8) × (neighbour g c p ≡ n))

next_row : (r m : ℕ) → (r + 1) * m ≡ r * m + m
next_row r m = omega arith

pub later_touches : (g : Grid) (c n : ℕ) → Later g c n → Touches g c n
unfolding neighbour
later_touches g c n (east r q h k e d) =
    subst (λ (m : ℕ). Touches g m n) (sym e) (
      cell_below g r q h (omega arith),
      (
        1,
        omega arith,
        steps_to g r q h (omega arith) (pos 0) (pos 1) r (q + 1) (stays_at g.rows r h) (goes_up g.cols q k) h k
            ∙ (omega arith) ∙ sym d,
      ),
    )
later_touches g c n (south_east_lem r q h k e d) =
    subst (λ (m : ℕ). Touches g m n) (sym e) (
      cell_below g r q (omega arith) (omega arith),
      (
        2,
        omega arith,
        steps_to g r q (omega arith) (omega arith) (pos 1) (pos 1) (r + 1) (q + 1) (goes_up g.rows r h) (goes_up g.cols q k) h k
            ∙ omega (arith, next_row r g.cols)
            ∙ sym d,
      ),
    )
later_touches g c n (south r q h k e d) =
    subst (λ (m : ℕ). Touches g m n) (sym e) (
      cell_below g r q (omega arith) (omega arith),
      (
        3,
        omega arith,
        steps_to g r q (omega arith) k (pos 1) (pos 0) (r + 1) q (goes_up g.rows r h) (stays_at g.cols q k) h k
            ∙ omega (arith, next_row r g.cols)
            ∙ sym d,
      ),
    )
later_touches g c n (south_west_lem r q h k e d) =
    let e₁ : c ≡ r * g.cols + (q + 1) = omega arith in
    let back : moved g.cols (q + 1) (negsuc 0) ≡ q = goes_down g.cols (q + 1) (omega arith) ∙ omega arith in
    subst (λ (m : ℕ). Touches g m n) (sym e₁) (
      cell_below g r (q + 1) (omega arith) k,
      (
        4,
        omega arith,
        steps_to g r (q + 1) (omega arith) k (pos 1) (negsuc 0) (r + 1) q (goes_up g.rows r h) back h (omega arith)
            ∙ omega (arith, next_row r g.cols)
            ∙ sym d,
      ),
    )

-- the cell at eight positions, as a row and a column
module _ (g : Grid) (c : ℕ) (h : c < size g) where
  abbrev row : ℕ
  row = c / g.cols

  abbrev col : ℕ
  col = c % g.cols

  cols_above : 0 < g.cols
  cols_above = go g.cols refl
    where
      go : (m : ℕ) → g.cols ≡ m → 0 < g.cols
      go zero e = let q : size g ≡ 0 = ap (λ (m : ℕ). g.rows * m) e ∙ omega arith in let z : ⊥ = omega arith in absurd z
      go (suc m) e = omega arith

  row_in : row < g.rows
  row_in = (div-lt_iff_lt-mul cols_above).1 h

  col_in : col < g.cols
  col_in = mod-lt c cols_above

  is_cell : c ≡ row * g.cols + col
  is_cell = sym (div-add-mod' c g.cols)

  abbrev Either : ℕ → Type 0
  Either n = Later g c n ⊎ Later g n c

  abbrev On : ℤ → ℤ → ℕ → Type 0
  On s t n =
      (n ≡ moved g.rows row s * g.cols + moved g.cols col t) × (moved g.rows row s < g.rows) × (moved g.cols col t < g.cols)

  sits : (s t : ℤ) (n x y : ℕ) → On s t n → moved g.rows row s ≡ x → moved g.cols col t ≡ y → n ≡ x * g.cols + y
  sits s t n x y w a b = w.0 ∙ ap₂ (λ (u v : ℕ). u * g.cols + v) a b

  same_row : moved g.rows row (pos 0) ≡ row
  same_row = stays_at g.rows row row_in

  same_col : moved g.cols col (pos 0) ≡ col
  same_col = stays_at g.cols col col_in

  -- row - 1 and row
  row_above : 0 < row → row * g.cols ≡ (row - 1) * g.cols + g.cols
  row_above k = let e : row - 1 + 1 ≡ row = omega arith in ap (λ (m : ℕ). m * g.cols) (sym e) ∙ next_row (row - 1) g.cols

  north_east : (n : ℕ) → On (negsuc 0) (pos 1) n → Either n
  north_east n w =
      let a = down g.rows row w.1 in
      let b = up g.cols col w.2 in
      let k = is_cell in
      let i = row_in in
      let v = row_above a.0 in
      let e = sits (negsuc 0) (pos 1) n (row - 1) (col + 1) w a.1 b.1 in
      inr (south_west_lem (row - 1) col (let z = a.0 in omega arith) b.0 (omega arith) (omega arith))

  to_east : (n : ℕ) → On (pos 0) (pos 1) n → Either n
  to_east n w =
      let b = up g.cols col w.2 in
      let e = sits (pos 0) (pos 1) n row (col + 1) w same_row b.1 in
      inl (east row col row_in b.0 is_cell (omega arith))

  to_south_east : (n : ℕ) → On (pos 1) (pos 1) n → Either n
  to_south_east n w =
      let a = up g.rows row w.1 in
      let b = up g.cols col w.2 in
      let e = sits (pos 1) (pos 1) n (row + 1) (col + 1) w a.1 b.1 in
      inl (south_east_lem row col a.0 b.0 is_cell (omega (arith, next_row row g.cols)))

  to_south : (n : ℕ) → On (pos 1) (pos 0) n → Either n
  to_south n w =
      let a = up g.rows row w.1 in
      let e = sits (pos 1) (pos 0) n (row + 1) col w a.1 same_col in
      inl (south row col a.0 col_in is_cell (omega (arith, next_row row g.cols)))

  to_south_west : (n : ℕ) → On (pos 1) (negsuc 0) n → Either n
  to_south_west n w =
      let a = up g.rows row w.1 in
      let b = down g.cols col w.2 in
      let o = b.0 in
      let k = is_cell in
      let i = col_in in
      let e = sits (pos 1) (negsuc 0) n (row + 1) (col - 1) w a.1 b.1 in
      inl (south_west_lem row (col - 1) a.0 (omega arith) (omega arith) (omega (arith, next_row row g.cols)))

  to_west : (n : ℕ) → On (pos 0) (negsuc 0) n → Either n
  to_west n w =
      let b = down g.cols col w.2 in
      let o = b.0 in
      let k = is_cell in
      let i = col_in in
      let e = sits (pos 0) (negsuc 0) n row (col - 1) w same_row b.1 in
      inr (east row (col - 1) row_in (omega arith) (omega arith) (omega arith))

  north_west : (n : ℕ) → On (negsuc 0) (negsuc 0) n → Either n
  north_west n w =
      let a = down g.rows row w.1 in
      let b = down g.cols col w.2 in
      let o = b.0 in
      let k = is_cell in
      let i = col_in in
      let v = row_above a.0 in
      let e = sits (negsuc 0) (negsuc 0) n (row - 1) (col - 1) w a.1 b.1 in
      inr (south_east_lem (row - 1) (col - 1) (let z = a.0 in let j = row_in in omega arith) (omega arith) (omega arith) (omega arith))

  to_north : (n : ℕ) → On (negsuc 0) (pos 0) n → Either n
  to_north n w =
      let a = down g.rows row w.1 in
      let k = is_cell in
      let v = row_above a.0 in
      let e = sits (negsuc 0) (pos 0) n (row - 1) col w a.1 same_col in
      inr (south (row - 1) col (let z = a.0 in let j = row_in in omega arith) col_in (omega arith) (omega arith))

  on_sheet : (s t : ℤ) → cell_at g (moved g.rows row s) (moved g.cols col t) < size g →
      On s t (cell_at g (moved g.rows row s) (moved g.cols col t))
  on_sheet s t k = let w = cell_on g (moved g.rows row s) (moved g.cols col t) k in (w.2, w.0, w.1)

  pub touch_later : (p : ℕ) → p < 8 → neighbour g c p < size g → Later g c (neighbour g c p) ⊎ Later g (neighbour g c p) c
  unfolding neighbour
  touch_later zero b k = north_east _ (on_sheet (negsuc 0) (pos 1) k)
  touch_later (suc zero) b k = to_east _ (on_sheet (pos 0) (pos 1) k)
  touch_later (suc (suc zero)) b k = to_south_east _ (on_sheet (pos 1) (pos 1) k)
  touch_later (suc (suc (suc zero))) b k = to_south _ (on_sheet (pos 1) (pos 0) k)
  touch_later (suc (suc (suc (suc zero)))) b k = to_south_west _ (on_sheet (pos 1) (negsuc 0) k)
  touch_later (suc (suc (suc (suc (suc zero))))) b k = to_west _ (on_sheet (pos 0) (negsuc 0) k)
  touch_later (suc (suc (suc (suc (suc (suc zero)))))) b k = north_west _ (on_sheet (negsuc 0) (negsuc 0) k)
  touch_later (suc (suc (suc (suc (suc (suc (suc zero))))))) b k = to_north _ (on_sheet (negsuc 0) (pos 0) k)
  touch_later (suc (suc (suc (suc (suc (suc (suc (suc p)))))))) b k = let z : ⊥ = omega arith in absurd z
