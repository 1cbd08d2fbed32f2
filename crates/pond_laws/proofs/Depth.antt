-- Wet cells and depths by keys: the filled sheet is nowhere below the input, so that the difference of the keys is the depth.
use mathlib.Core.Path.{◌≡◌, sym, ◌∙◌, ap}
use mathlib.Core.Bool.{false, ◌&&◌}
use mathlib.Core.Logic.{⊎_elim}
use mathlib.Core.List.{List}
use Prim.Native.Nat.{ℕ, ◌-◌, ◌≤◌, ◌<◌}
use native.Mathlib.Omega.{arith}
use lib.Dec.{ltb}
use lib.ListN.{length}
use lib.IntN.{ℤ, pos, ◌-ℤ◌}
use lib.Signed.{lt_z}
use borrow.Author.Tests.{le-ltb, ltb-false}
use Rattle.grid.specs.declared.Grid.{Grid}
use Rattle.grid.specs.Sheet.{size, at, is_data, SixteenBits}
use Rattle.grid.specs.Fill.{filled}
use Rattle.grid.specs.Ponds.{is_wet, natural, depth}
use Rattle.cells.specs.Keys.{key_of}
use Rattle.cells.proofs.Keys.{key_void, key_small, key_mono, key_less, key_drop}
use Rattle.grid_laws.proofs.Tests.{test, true_T, same_test, and_true, and_right, and_false_left}
use Rattle.grid_laws.proofs.Cells.{no_data_void}
use Rattle.fill_laws.proofs.Filled.{input_≤_filled, filled_voids, filled_range}

module _ (g : Grid) (e : List ℤ) (long : length e ≡ size g) (range : SixteenBits e) where
  abbrev f : List ℤ
  f = filled g e

  -- what holds no data has key 0 on both sheets
  void_keys : (c : ℕ) → is_data e c ≡ false → (key_of (at e c) ≡ 0) × (key_of (at f c) ≡ 0)
  void_keys c n = (ap key_of (no_data_void e c n) ∙ key_void, ap key_of (filled_voids g e long range c n) ∙ key_void)

  pub key_≤_filled : (c : ℕ) → key_of (at e c) ≤ key_of (at (filled g e) c)
  key_≤_filled c =
      ⊎_elim
      (λ d. key_mono (at e c) (at f c) (input_≤_filled g e long range c (true_T d)))
      (λ n. let k = void_keys c n in let a = k.0 in let b = k.1 in omega arith)
      (test (is_data e c))

  pub wet_by_keys : (c : ℕ) → is_wet e (filled g e) c ≡ ltb (key_of (at e c)) (key_of (at (filled g e) c))
  unfolding is_wet
  wet_by_keys c =
      ⊎_elim
      (λ d. same_test (is_data e c && lt_z (at e c) (at f c)) (ltb (key_of (at e c)) (key_of (at f c)))
      (λ t. sym (key_less (at e c) (at f c) (range c).0) ∙ and_right (is_data e c) (lt_z (at e c) (at f c)) t)
      (λ t. and_true d (key_less (at e c) (at f c) (range c).0 ∙ t)))
      (λ n. let k = void_keys c n in
      let a = k.0 in
      let b = k.1 in
      and_false_left (lt_z (at e c) (at f c)) n ∙ sym (le-ltb (key_of (at e c)) (key_of (at f c)) (omega arith)))
      (test (is_data e c))

  by_keys : (c : ℕ) → at f c -ℤ at e c ≡ pos (key_of (at f c) - key_of (at e c))
  by_keys c = key_drop (at f c) (at e c) (filled_range g e long range c).0 (range c).0 (key_≤_filled c)

  pub depth_by_keys : (c : ℕ) → depth e (filled g e) c ≡ key_of (at (filled g e) c) - key_of (at e c)
  unfolding depth natural
  depth_by_keys c = ap natural (by_keys c)

  pub difference : (c : ℕ) → at (filled g e) c -ℤ at e c ≡ pos (depth e (filled g e) c)
  difference c = by_keys c ∙ ap pos (sym (depth_by_keys c))

  pub depth_small : (c : ℕ) → depth e (filled g e) c < 65536
  depth_small c = let d = depth_by_keys c in let k = key_small (at f c) (filled_range g e long range c).1 in omega arith

  pub dry_depth : (c : ℕ) → is_wet e (filled g e) c ≡ false → depth e (filled g e) c ≡ 0
  dry_depth c t =
      let d = depth_by_keys c in
      let k = ltb-false (key_of (at e c)) (key_of (at f c)) (sym (wet_by_keys c) ∙ t) in
      omega arith
