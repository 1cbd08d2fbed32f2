-- Beside a no the result is as at entry; a yes to the three questions is what the watersheds ask for.
use mathlib.Core.Path.{refl}
use native.Mathlib.Omega.{arith}
use Rattle.std.proofs.lemmas.Result.{err_from_is_err_and}
use Rattle.grid.specs.Checks.{accepted}
use Rattle.grid.specs.Routes.{watersheds}
use Rattle.refusals.proofs.Answers.{is_no}
use Rattle.checks.proofs.Gate.{kept}
use Rattle.receivers.proofs.Codes.{all_codes}
use Rattle.watershed_walk.proofs.Asking.{all_yes}
use Rattle.watershed_walk.proofs.watersheds_of.Goals as goal

pub returns-in_err-routes_check : goal.returns-in_err-routes_check
returns-in_err-routes_check c =
    let p = err_from_is_err_and c.from_residual.result c.from_residual.ensures.1 in
    rw (p.1, p.2) record {
      value = c.in_err-routes_check.ensures;
      watersheds_after = kept (is_no c.in_err-routes_check.field-0.0) (watersheds c.args.g c.args.codes.now c.args.starts.now);
    }

pub invariant_of-sheet : goal.invariant_of-sheet
invariant_of-sheet c =
    let y = all_yes c.args.g c.args.codes.now c.args.starts.now accepted c.in_ok-routes_check.ensures refl in
    let f = c.requires.fits.cells in
    record {
      size_bound = omega arith;
      rows_bound = c.requires.fits.rows_low;
      codes_len = c.requires.codes_len;
      all_codes = all_codes c.args.g c.args.codes.now c.requires.codes_len y.no_bad;
    }

pub watersheds_in-requires : goal.watersheds_in-requires
watersheds_in-requires c =
    let y = all_yes c.args.g c.args.codes.now c.args.starts.now accepted c.in_ok-routes_check.ensures refl in
    record {
      starts_len = c.requires.starts_len;
      watersheds_len = c.requires.watersheds_len;
      codes_in_bounds = let k = c.routes_check.auto.tail in omega arith;
      codes_value = y.no_endless;
      starts_value = y.no_stray;
    }

pub returns : goal.returns
returns c = record { value = c.in_ok-routes_check.ensures; watersheds_after = c.watersheds_in.ensures }
