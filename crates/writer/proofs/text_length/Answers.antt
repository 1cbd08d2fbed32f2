-- `writer::text_length`: rows and columns up to 4,000 leave every sum and product below a word's limit.
use native.Mathlib.Omega.{arith}
use borrow.Author.Rules.{rules}
use Rattle.text_laws.proofs.Asked.{announced_small}
use Rattle.writer.proofs.text_length.Goals as goal

pub overflow_mul-result-2 : goal.overflow_mul-result-2
overflow_mul-result-2 c = omega (arith, announced_small c.args.g.rows c.args.g.cols (search rules) (search rules))

pub overflow_add-result-2 : goal.overflow_add-result-2
overflow_add-result-2 c = omega (arith, announced_small c.args.g.rows c.args.g.cols (search rules) (search rules))
