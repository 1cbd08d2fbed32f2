-- The sheet that keys spell is the one that was loaded; the words of a flood have the key of each cell below its filled key.
use mathlib.Core.Path.{◌≡◌, sym, ◌∙◌, ap, subst}
use mathlib.Core.List.{List}
use Prim.Native.Nat.{ℕ, ◌/◌, ◌%◌, ◌<◌}
use native.Mathlib.Omega.{arith}
use lib.ListN.{length, get_or}
use lib.Seq.{ext_get_or}
use lib.IntN.{ℤ}
use Rattle.grid.specs.declared.Grid.{Grid}
use Rattle.grid.specs.Sheet.{size, void, at, SixteenBits, IsElevation}
use Rattle.grid.specs.Fill.{filled}
use Rattle.grid_laws.proofs.Below.{at_table, length_table, is_table}
use Rattle.grid_laws.proofs.Cells.{all_sixteen}
use Rattle.cells.specs.Keys.{key_of, level_of}
use Rattle.cells.proofs.Keys.{level_key, key_level, level_above_void, level_top, key_small}
use Rattle.key_sort.specs.Order.{AreKeys}
use Rattle.fill_laws.proofs.Filled.{filled_length, filled_range}
use Rattle.fill.specs.Words.{sheet_in, Words}

module _ (n : ℕ) (w : List ℕ) where
  pub sheet_length : length (sheet_in n w) ≡ n
  unfolding sheet_in
  sheet_length = length_table n _

  pub sheet_at : (c : ℕ) → c < n → at (sheet_in n w) c ≡ level_of (get_or w c 0)
  unfolding sheet_in
  sheet_at c h = at_table n _ c void h

  pub sheet_key : (c : ℕ) → c < n → get_or w c 0 ≡ key_of (at (sheet_in n w) c)
  sheet_key c h = sym (ap key_of (sheet_at c h) ∙ key_level (get_or w c 0))

  pub sheet_sixteen : AreKeys n w → SixteenBits (sheet_in n w)
  sheet_sixteen K = all_sixteen (sheet_in n w) (λ c h. on c (rw sheet_length at h))
    where
      on : (c : ℕ) → c < n → IsElevation (at (sheet_in n w) c)
      on c h = rw (sheet_at c h) (level_above_void (get_or w c 0), level_top (get_or w c 0) (K c h))

module _ (g : Grid) (e : List ℤ) (w : List ℕ) (cells : length e ≡ size g) (range : SixteenBits e)
    (loaded : (c : ℕ) → c < length e → get_or w c 0 ≡ key_of (at e c)) where
  pub loaded_keys : AreKeys (size g) w
  loaded_keys c h = rw (loaded c (omega arith)) (key_small (at e c) (range c).1)

  pub loaded_sheet : sheet_in (size g) w ≡ e
  unfolding sheet_in
  loaded_sheet =
      sym (is_table (size g) (λ c. level_of (get_or w c 0)) e void cells
      (λ c h. sym (ap level_of (loaded c (omega arith)) ∙ level_key (at e c) (range c).0)))

pub words_of : (g : Grid) (s e : List ℤ) (w : List ℕ) → s ≡ e → Words g s w → Words g e w
words_of g s e w q W = subst (λ (x : List ℤ). Words g x w) q W

module _ (g : Grid) (e : List ℤ) (w : List ℕ) (cells : length e ≡ size g) (range : SixteenBits e) (W : Words g e w) where
  pub words_key : (c : ℕ) → c < size g → get_or w c 0 % 65536 ≡ key_of (at e c)
  words_key c h = let k = key_small (at e c) (range c).1 in let q = W c h in omega arith

  pub words_filled : (c : ℕ) → c < size g → get_or w c 0 / 65536 ≡ key_of (at (filled g e) c)
  words_filled c h = let k = key_small (at e c) (range c).1 in let q = W c h in omega arith

  pub words_level : (c : ℕ) → c < size g → level_of (get_or w c 0 / 65536) ≡ at (filled g e) c
  words_level c h = ap level_of (words_filled c h) ∙ level_key (at (filled g e) c) (filled_range g e cells range c).0

  pub unloaded_filled : (G : List ℤ) → length G ≡ size g → ((c : ℕ) → c < size g → at G c ≡ level_of (get_or w c 0 / 65536)) → G ≡ filled g e
  unloaded_filled G l written =
      ext_get_or void G (filled g e) (l ∙ sym (filled_length g e)) (λ c h. let k : c < size g = omega arith in written c k ∙ words_level c k)
