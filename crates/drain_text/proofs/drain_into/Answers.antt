-- `drain_text::drain_into`: after a yes the one call's results are the definition's, and so is their text; its no is its line.
use mathlib.Core.Path.{refl}
use Rattle.refusals.proofs.Answers.{is_no}
use Rattle.drain_text.proofs.Program.{results_fit, results_printed, refusal_printed}
use Rattle.drain_text.proofs.drain_into.Goals as goal

pub returns-in-Err : goal.returns-in-Err
returns-in-Err c =
    let s = c.requires in
    refusal_printed _ _ _ _ _ _ _ _ _ _ _ _ _ _ s.0 s.1 c.in-Err.ensures _ _ (is_no c.in-Err.no)
    (rw c.into.ensures at c.write_refusal.ensures)

pub write_results-requires : goal.write_results-requires
write_results-requires c =
    let s = c.requires in
    results_fit _ _ _ _ _ _ _ _ _ _ _ _ s.0 s.1 c.drain.auto.filled c.drain.auto.codes c.drain.auto.counts c.drain.auto.labels

pub returns-in-Ok : goal.returns-in-Ok
returns-in-Ok c =
    let s = c.requires in
    results_printed _ _ _ _ _ _ _ _ _ _ _ _ _ _ s.0 s.1 c.in-Ok.ensures _ _ refl c.write_results.ensures
