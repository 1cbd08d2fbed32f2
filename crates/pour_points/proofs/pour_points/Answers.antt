-- At each no the columns are as at entry; after the last yes the promise is what `settle` leaves.
use Rattle.std.proofs.lemmas.Result.{err_from_is_err_and}
use Rattle.refusals.specs.Answers.{refused}
use Rattle.refusals.proofs.Answers.{is_no}
use mathlib.Core.Path.{refl}
use Rattle.grid.specs.Checks.{accepted}
use Rattle.checks.proofs.Asked.{says_no, says_yes}
use Rattle.pour_points.proofs.Promise.{promise_first, promise_lengths, promise_settled, can_scan, one_length_of, sizes}
use Rattle.std.proofs.lemmas.Bool.{not_from_false, not_from_true}
use Rattle.pour_points.proofs.pour_points.Goals as goal

pub returns-in_err-inputs : goal.returns-in_err-inputs
returns-in_err-inputs c =
    let g = c.args.g in
    let e = c.args.elevations.now in
    let labels = c.args.labels.now in
    let no_of = c.in_err-inputs.field-0.0 in
    let p = err_from_is_err_and c.from_residual.result c.from_residual.ensures.1 in
    rw (p.1, p.2) (promise_first g e labels (refused no_of) c.in_err-inputs.ensures (is_no no_of))

pub returns-then-not-one_length : goal.returns-then-not-one_length
returns-then-not-one_length c =
    let g = c.args.g in
    let e = c.args.elevations.now in
    let labels = c.args.labels.now in
    rw c.into.ensures (promise_lengths g e labels accepted c.in_ok-inputs.ensures refl
    (says_no c.one_length.ensures (not_from_false _ c.if-not-one_length.true)))

pub settle-requires : goal.settle-requires
settle-requires c =
    let g = c.args.g in
    let e = c.args.elevations.now in
    let labels = c.args.labels.now in
    let z = sizes g e labels accepted c.in_ok-inputs.ensures refl in
    record {
      scanned = can_scan g labels z.inputs_have.1.0 z.fits;
      elevations_len = z.inputs_have.0;
      one_length = one_length_of (says_yes c.one_length.ensures
          (not_from_true _ c.if-not-one_length.false));
    }

pub returns : goal.returns
returns c =
    let g = c.args.g in
    let e = c.args.elevations.now in
    let labels = c.args.labels.now in
    promise_settled g e labels accepted c.in_ok-inputs.ensures refl
    (says_yes c.one_length.ensures
    (not_from_true _ c.if-not-one_length.false)) c.settle.ensures
