-- What is loaded is the sheet that the keys spell.
use mathlib.Core.Path.{◌∙◌, ap}
use native.Mathlib.Omega.{arith}
use Rattle.grid.specs.Outlet.{first_stranded}
use Rattle.fill.proofs.Words.{loaded_keys, loaded_sheet, words_of}
use Rattle.fill.proofs.Voids.{loaded_voids}
use Rattle.fill.proofs.fill_sheet.Goals as goal

pub fill_words-requires : goal.fill_words-requires
fill_words-requires c =
    let a = c.args in
    let same = c.load.auto.work in
    let keys = loaded_keys a.s.now.grid a.s.now.elevations.now c.load.new.work c.args.s.now.elevations_len c.load.ensures.sixteen_bits c.load.ensures.by_index in
    let voids = loaded_voids a.s.now.grid a.s.now.elevations.now c.load.new.work c.args.s.now.elevations_len c.load.ensures.sixteen_bits c.load.ensures.by_index in
    record {
      g_in_bounds = omega arith;
      are_keys = keys;
      same_voids = voids;
    }

pub returns : goal.returns
returns c =
    let a = c.args in
    let sheet = loaded_sheet a.s.now.grid a.s.now.elevations.now c.load.new.work c.args.s.now.elevations_len c.load.ensures.sixteen_bits c.load.ensures.by_index in
    record {
      value = c.fill_words.ensures.value ∙ ap (first_stranded a.s.now.grid) sheet;
      words = λ q. words_of a.s.now.grid _ a.s.now.elevations.now c.fill_words.new.work sheet (c.fill_words.ensures.words q);
      sixteen_bits = c.load.ensures.sixteen_bits;
    }
