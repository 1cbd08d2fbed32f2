-- "one accepted sheet of codes": what its yes says, and that the sheets which the calls accept or work out are such sheets.
use mathlib.Core.Path.{◌≡◌, refl, ◌∙◌, ap}
use mathlib.Core.List.{List, [], ◌∷◌}
use Prim.Native.Nat.{ℕ}
use lib.Dec.{T}
use lib.ListN.{length}
use lib.IntN.{ℤ}
use borrow.Author.Tests.{eq-eqb}
use Rattle.grid.specs.declared.Grid.{Grid}
use Rattle.grid.specs.declared.Answer.{Answer}
use Rattle.grid.specs.Sheet.{grid_of, size, cell_at, neighbour, SixteenBits}
use Rattle.grid.specs.Fill.{filled}
use Rattle.grid.specs.Directions.{directions}
use Rattle.grid.specs.Routes.{receiver, first_bad_code, first_endless}
use Rattle.grid.specs.Checks.{accepted, is_accepted, all_have, ask_sheets, ask_lengths, ask_codes, codes_check}
use Rattle.grid.specs.Checks.{drain_check}
use Rattle.grid.specs.Endings.{AcceptedCodes, CodesOfCalls}
use Rattle.grid_laws.proofs.Tests.{true_T, cond_true, and_true}
use Rattle.checks.specs.Sizes.{Fits}
use Rattle.checks.proofs.Gate.{both, fact_of}
use Rattle.checks.proofs.Asked.{sheets_gate, check_gate, flow_check_gate, size_passes, same_fits, lengths_asked}
use Rattle.checks.proofs.Questions.{codes_gate, reach_gate, codes_yes}
use Rattle.guarantee_laws.proofs.OneCall.{codes_length, none_bad, all_end}

-- rows, columns and length as they should be, each code 0 or one of the eight, every route ends
pub record Sound (g : Grid) (codes : List ℕ) : Type 0 where
  pub fits : Fits g
  pub long : length codes ≡ size g
  pub all_codes : first_bad_code g codes ≡ size g
  pub all_end : first_endless g codes ≡ size g

pub sound_of : (g : Grid) (codes : List ℕ) → AcceptedCodes g codes → Sound g codes
sound_of g codes t =
    let f = fact_of (both (sheets_gate g (length codes ∷ []) []) (codes_gate g codes)) t in
    record { fits = f.0.fits; long = f.0.inputs_have.0; all_codes = f.1.0; all_end = f.1.1 }

accepted_of : (g : Grid) (codes : List ℕ) → Sound g codes → AcceptedCodes g codes
unfolding ask_lengths all_have
accepted_of g codes s =
    let later : Answer = ask_codes g codes accepted in
    let e : ask_sheets g (length codes ∷ []) [] later ≡ accepted =
    lengths_asked g (length codes ∷ []) [] later
    ∙ size_passes g s.fits (ask_lengths g (length codes ∷ []) [] later)
    ∙ cond_true _ _ (and_true (eq-eqb (length codes) (size g) s.long) refl)
    ∙ codes_yes g codes accepted s.all_codes s.all_end in
    true_T (ap is_accepted e)

-- routes know no sides
open_sound : (g : Grid) (codes : List ℕ) → Sound g codes → Sound (grid_of g.rows g.cols) codes
unfolding first_bad_code first_endless receiver neighbour cell_at
open_sound g codes s =
    record {
      fits = same_fits (grid_of g.rows g.cols) g refl refl s.fits;
      long = s.long;
      all_codes = s.all_codes;
      all_end = s.all_end;
    }

from_codes : (g : Grid) (codes : List ℕ) (result work : ℕ) → T (is_accepted (codes_check g codes result work)) → AcceptedCodes g codes
unfolding codes_check
from_codes g codes result work t =
    let f = fact_of (both (check_gate g (length codes ∷ []) (result ∷ []) work) (codes_gate g codes)) t in
    accepted_of g codes (record { fits = f.0.fits; long = f.0.inputs_have.0; all_codes = f.1.0; all_end = f.1.1 })

from_elevations : (g : Grid) (e : List ℤ) (f c a l work : ℕ) → SixteenBits e → T (is_accepted (drain_check g e f c a l work)) →
    AcceptedCodes (grid_of g.rows g.cols) (directions g (filled g e))
unfolding drain_check
from_elevations g e f c a l work range t =
    let y = fact_of (both (flow_check_gate g (length e ∷ []) (f ∷ c ∷ a ∷ l ∷ []) work) (reach_gate g e)) t in
    let long = y.0.inputs_have.0 in
    accepted_of (grid_of g.rows g.cols) (directions g (filled g e))
    (open_sound g (directions g (filled g e)) (record {
      fits = y.0.fits;
      long = codes_length g e long range y.1;
      all_codes = none_bad g e long range y.1;
      all_end = all_end g e long range y.1;
    }))

pub codes_of_calls : CodesOfCalls
codes_of_calls = (from_codes, from_elevations)
