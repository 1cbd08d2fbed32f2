-- The flood answers 18; after a yes its words are those of the filled sheet.
use mathlib.Core.Path.{◌≡◌}
use native.Mathlib.Omega.{arith}
use Rattle.grid.specs.Sheet.{size}
use Rattle.checks.proofs.Questions.{stranded_≤}
use Rattle.pond_numbers.proofs.Numbering.{sizes_same}
use Rattle.ponds.proofs.Promise.{settled_stranded, settled_reached}
use Rattle.ponds.proofs.settle.Goals as goal

pub returns-then-first-elevations : goal.returns-then-first-elevations
returns-then-first-elevations c =
    let a = c.args in
    let long = c.requires.sizes.long in
    let h = c.if-first-elevations.true in
    rw c.at.ensures (settled_stranded a.g a.elevations.now c.fill_sheet-first.ensures.sixteen_bits c.fill_sheet-first.result c.fill_sheet-first.ensures.value (omega arith))

pub list_found-requires : goal.list_found-requires
list_found-requires c =
    let a = c.args in
    let long = c.requires.sizes.long in
    let h = c.if-first-elevations.false in
    let most = stranded_≤ a.g a.elevations.now in
    let first = c.fill_sheet-first.ensures.value in
    let none : c.fill_sheet-first.result ≡ size a.g = omega arith in
    record {
      sizes = sizes_same c.requires.sizes c.fill_sheet-first.auto.work;
      ponds_len = c.requires.ponds_len;
      one_length = c.requires.one_length;
      sixteen_bits = c.fill_sheet-first.ensures.sixteen_bits;
      words = c.fill_sheet-first.ensures.words none;
    }

pub returns : goal.returns
returns c =
    let a = c.args in
    let long = c.requires.sizes.long in
    let h = c.if-first-elevations.false in
    settled_reached a.g a.elevations.now c.fill_sheet-first.ensures.sixteen_bits c.fill_sheet-first.result c.fill_sheet-first.ensures.value (omega arith) c.list_found.ensures

pub invariant_of-sheet : goal.invariant_of-sheet
invariant_of-sheet c =
    record {
      size_bound = c.requires.sizes.few;
      cols_bound = c.requires.sizes.narrow;
      elevations_len = c.requires.sizes.long;
    }
