-- No crew before the present one is lost.
use Rattle.tracing.proofs.Traces.{NoneLost}
use Rattle.tracing.proofs.first_lost.Given as goal

abbrev pub invariant-loop-k : goal.invariant-loop-k
invariant-loop-k l = NoneLost l.codes l.crews l.k
