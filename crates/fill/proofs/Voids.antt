-- Sheets with the same voids: their keys, their outside and their marks; and what the lowest key says of voids.
use mathlib.Core.Path.{◌≡◌, sym, ◌∙◌, ap, subst}
use mathlib.Core.Bool.{true, cond}
use mathlib.Core.List.{List}
use Prim.Native.Nat.{ℕ, ◌+◌, ◌*◌, ◌/◌, ◌≤◌, ◌<◌}
use native.Mathlib.Omega.{arith}
use native.Mathlib.Decide.{dec_lt}
use lib.Dec.{ltb}
use lib.ListN.{length, get_or}
use lib.IntN.{ℤ}
use Rattle.grid.specs.declared.Grid.{Grid}
use Rattle.grid.specs.Sheet.{size, at, is_data, SixteenBits}
use Rattle.grid.specs.Outlet.{first_stranded}
use Rattle.grid.specs.Gaps.{NoGaps}
use Rattle.grid_laws.proofs.Tests.{true_false, not_true_false}
use Rattle.grid_laws.proofs.Cells.{off_no_data}
use Rattle.grid_laws.proofs.Outlets.{same_voids, same_outside, gap_void, void_on, void_no_data}
use Rattle.cells.specs.Keys.{key_of}
use Rattle.cells.specs.Marks.{Marked}
use Rattle.cells.proofs.Keys.{data_key}
use Rattle.key_sort.specs.Order.{AreKeys, Sorted}
use Rattle.fill_laws.proofs.Left.{open_reach}
use Rattle.fill.specs.Words.{sheet_in, SameVoids}
use Rattle.fill.proofs.Words.{sheet_length, sheet_key, sheet_sixteen}

-- marks go by the voids alone
pub marked_same : (g : Grid) (e f : List ℤ) (base : ℕ) (w : List ℕ) → ((c : ℕ) → is_data e c ≡ is_data f c) → Marked g e base w →
    Marked g f base w
marked_same g e f base w same M c v =
    M c (same_voids g e f same c ∙ v) ∙ ap (λ o. cond o 2 1) (same_outside g e f same c)

module _ (g : Grid) (e : List ℤ) (w : List ℕ) (cells : length e ≡ size g) (keys : AreKeys (size g) w) (same : SameVoids g e w) where
  -- the sheet that the keys spell has the voids of e
  pub spelled_voids : (c : ℕ) → is_data e c ≡ is_data (sheet_in (size g) w) c
  spelled_voids c = go (dec_lt c (size g))
    where
      go : Dec (c < size g) → is_data e c ≡ is_data (sheet_in (size g) w) c
      go (yes h) =
          same c h ∙ ap (ltb 0) (sheet_key (size g) w c h) ∙ sym (data_key (sheet_in (size g) w) c (sheet_sixteen (size g) w keys c).0)
      go (no f) =
          off_no_data e c (omega arith) ∙ sym (off_no_data (sheet_in (size g) w) c (let q = sheet_length (size g) w in omega arith))

-- a sheet that is loaded has its own voids
pub loaded_voids : (g : Grid) (e : List ℤ) (w : List ℕ) → length e ≡ size g → SixteenBits e →
    ((c : ℕ) → c < length e → get_or w c 0 ≡ key_of (at e c)) → SameVoids g e w
loaded_voids g e w cells range loaded c h = data_key e c (range c).0 ∙ ap (ltb 0) (sym (loaded c (omega arith)))

-- the same voids where the keys are the same
pub kept_voids : (g : Grid) (e : List ℤ) (w w' : List ℕ) → ((c : ℕ) → c < size g → get_or w' c 0 ≡ get_or w c 0) → SameVoids g e w →
    SameVoids g e w'
kept_voids g e w w' same voids c h = voids c h ∙ ap (ltb 0) (sym (same c h))

-- ---- where the first of the order is no void, none is
pub first_on : (n : ℕ) (w : List ℕ) → Sorted n w → 0 < n → get_or w n 0 < n
first_on n w S some = let k = S.on 0 some in let z : get_or w (n + 0) 0 ≡ get_or w n 0 = ap (λ (x : ℕ). get_or w x 0) (omega arith) in omega arith

pub lowest_key : (n : ℕ) (w : List ℕ) → Sorted n w → 0 < n → (c : ℕ) → c < n → get_or w (get_or w n 0) 0 ≤ get_or w c 0
lowest_key n w S some c h =
    let p = S.all c h in
    let k = S.rising 0 p.0 (omega arith) p.2 in
    let q = ap (λ (x : ℕ). get_or w x 0) p.3 in
    let z : get_or w (get_or w (n + 0) 0) 0 ≡ get_or w (get_or w n 0) 0 = ap (λ (x : ℕ). get_or w (get_or w x 0) 0) (omega arith) in
    omega arith

-- ---- a sheet without voids has no gaps, so that with every side open none is stranded
module _ (g : Grid) (e : List ℤ) (full : (c : ℕ) → c < size g → is_data e c ≡ true) where
  no_gaps : NoGaps g e
  no_gaps c =
      not_true_false _ (λ t. let v = gap_void g e c t in true_false (full c (void_on g e c v)) (void_no_data g e c v))

  pub full_reach : g.sides ≡ 0 → length e ≡ size g → first_stranded g e ≡ size g
  full_reach z cells = open_reach g z e no_gaps cells

  -- and needs no marks
  pub full_marked : (base : ℕ) (w : List ℕ) → Marked g e base w
  full_marked base w c v = true_false (full c (void_on g e c v)) (void_no_data g e c v)

-- ---- an order that is kept
pub same_sorted : (n : ℕ) (w w' : List ℕ) → ((i : ℕ) → i < n + n → get_or w' i 0 ≡ get_or w i 0) → Sorted n w → Sorted n w'
same_sorted n w w' same S =
    record {
      on = λ j h. rw (same (n + j) (omega arith)) (S.on j h);
      all = λ c h. let p = S.all c h in (p.0, p.1, p.2, same (n + p.0) (let k = p.2 in omega arith) ∙ p.3);
      rising = λ i j h l.
          let a = key i (omega arith) in let b = key j l in let k = S.rising i j h l in omega arith;
    }
  where
    key : (j : ℕ) → j < n → get_or w' (get_or w' (n + j) 0) 0 ≡ get_or w (get_or w (n + j) 0) 0
    key j h =
        ap (λ (x : ℕ). get_or w' x 0) (same (n + j) (omega arith)) ∙ same (get_or w (n + j) 0) (let k = S.on j h in omega arith)

-- ---- what the flood is lent: w₁ holds the keys of a sheet, and in w₃ they are sorted and voids are marked
pub record Ready (g : Grid) (half : ℕ) (w₁ w₃ : List ℕ) : Type 0 where
  pub keys : AreKeys (size g) w₁
  pub sorted : Sorted (size g) w₃
  pub kept : (c : ℕ) → c < size g → get_or w₃ c 0 ≡ get_or w₁ c 0
  pub marks : Marked g (sheet_in (size g) w₁) (half + size g) w₃

-- in w₂ they are sorted, and not yet marked
pub ready : (g : Grid) (e : List ℤ) (w₁ w₂ w₃ : List ℕ) → length e ≡ size g → AreKeys (size g) w₁ → SameVoids g e w₁
    → 4 * size g ≤ length w₁ → length w₂ ≡ length w₁ → Sorted (size g) w₂ → ((c : ℕ) → c < size g → get_or w₂ c 0 ≡ get_or w₁ c 0)
    → Marked g e (length w₂ / 2 + size g) w₃ → ((i : ℕ) → i < length w₂ / 2 → get_or w₃ i 0 ≡ get_or w₂ i 0)
    → Ready g (length w₁ / 2) w₁ w₃
ready g e w₁ w₂ w₃ cells keys same room long S sorted M kept =
    record {
      keys = keys;
      sorted = same_sorted (size g) w₂ w₃ (λ i h. kept i (omega arith)) S;
      kept = λ c h. kept c (omega arith) ∙ sorted c h;
      marks = subst (λ (l : ℕ). Marked g (sheet_in (size g) w₁) (l / 2 + size g) w₃) long
          (marked_same g e (sheet_in (size g) w₁) (length w₂ / 2 + size g) w₃ (spelled_voids g e w₁ cells keys same) M);
    }
