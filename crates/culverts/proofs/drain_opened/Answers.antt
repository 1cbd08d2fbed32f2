-- What is loaded spells the opened sheet, and has the voids of the elevations.
use mathlib.Core.Path.{sym, ◌∙◌, ap, subst}
use mathlib.Core.List.{List}
use native.Mathlib.Omega.{arith}
use lib.IntN.{ℤ}
use Rattle.grid.specs.Checks.{accepted, ask_reach}
use Rattle.drainage.specs.Results.{Measured}
use Rattle.drainage.proofs.Four.{four_of}
use Rattle.culverts.proofs.Loaded.{opened_keys, opened_voids, opened_sheet}
use Rattle.culverts.proofs.drain_opened.Goals as goal

pub load_opened-requires : goal.load_opened-requires
load_opened-requires c =
    record {
      elevations_in_bounds = omega (arith, c.requires.measured.room, c.requires.elevations_len);
      levels_len = c.requires.levels_len;
      levels_value = c.requires.levels_value;
    }

pub drain_loaded-requires : goal.drain_loaded-requires
drain_loaded-requires c =
    let a = c.args in
    let L = c.load_opened.ensures in
    record {
      measured = subst (Measured a.g _ _ _ _) (sym c.load_opened.auto.work) c.requires.measured;
      elevations_len = c.requires.elevations_len;
      are_keys = opened_keys a.g a.elevations.now a.cells.now a.levels.now c.load_opened.new.work c.requires.elevations_len L;
      same_voids = opened_voids a.g a.elevations.now a.cells.now a.levels.now c.load_opened.new.work c.requires.elevations_len L
          c.requires.levels_value;
    }

pub returns : goal.returns
returns c =
    let a = c.args in
    let sheet =
    opened_sheet a.g a.elevations.now a.cells.now a.levels.now c.load_opened.new.work c.requires.elevations_len c.load_opened.ensures in
    record {
      value = c.drain_loaded.ensures.value ∙ ap (λ (x : List ℤ). ask_reach a.g x accepted) sheet;
      four_results = four_of sheet c.drain_loaded.ensures.four_results;
    }
