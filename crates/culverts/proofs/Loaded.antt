-- When the opened sheet is loaded into w, its keys are keys, with the voids of the elevations e, and spell it.
use mathlib.Core.Path.{◌≡◌, sym, ◌∙◌}
use mathlib.Core.List.{List}
use Prim.Native.Nat.{ℕ}
use lib.ListN.{length}
use lib.IntN.{ℤ}
use Rattle.grid.specs.declared.Grid.{Grid}
use Rattle.grid.specs.Sheet.{size}
use Rattle.grid.specs.Culverts.{opened, first_bad_entry}
use Rattle.key_sort.specs.Order.{AreKeys}
use Rattle.fill.specs.Words.{sheet_in, SameVoids}
use Rattle.fill.proofs.Words.{loaded_keys, loaded_sheet}
use Rattle.fill.proofs.Voids.{loaded_voids}
use Rattle.culvert_laws.proofs.Opened.{all_good, opened_length, opened_data}
use Rattle.culvert_entries.specs.Loaded.{Loaded}

module _ (g : Grid) (e : List ℤ) (cells : List ℕ) (levels : List ℤ) (w : List ℕ) (long : length e ≡ size g)
    (L : Loaded (opened e cells levels) w) where
  same_long : length (opened e cells levels) ≡ size g
  same_long = opened_length e cells levels ∙ long

  pub opened_keys : AreKeys (size g) w
  opened_keys = loaded_keys g (opened e cells levels) w same_long L.sixteen_bits L.keys

  pub opened_sheet : sheet_in (size g) w ≡ opened e cells levels
  opened_sheet = loaded_sheet g (opened e cells levels) w same_long L.sixteen_bits L.keys

  pub opened_voids : first_bad_entry e cells levels ≡ length cells → SameVoids g e w
  opened_voids none c h =
      sym (opened_data e cells levels (all_good e cells levels none) c)
      ∙ loaded_voids g (opened e cells levels) w same_long L.sixteen_bits L.keys c h
