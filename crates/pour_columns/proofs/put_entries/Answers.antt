-- A column holds what its closure gives.
use lib.IntN.{pos}
use Rattle.std.proofs.Common.{rules}
use Rattle.pour_columns.proofs.put_entries.Goals as goal

pub returns : goal.returns
returns c =
    record {
      smaller = record { long = c.put.auto.column; written = λ i h. (let w = c.put.ensures.written i 0 h in search rules); before = λ j h. c.put.ensures.before j 0 h; after = λ j h. c.put.ensures.after j 0 h };
      larger = record { long = c.put-2.auto.column; written = λ i h. (let w = c.put-2.ensures.written i 0 h in search rules); before = λ j h. c.put-2.ensures.before j 0 h; after = λ j h. c.put-2.ensures.after j 0 h };
      elevation = record { long = c.put-3.auto.column; written = λ i h. (let w = c.put-3.ensures.written i (pos 0) h in search rules); before = λ j h. c.put-3.ensures.before j (pos 0) h; after = λ j h. c.put-3.ensures.after j (pos 0) h };
      cell = record { long = c.put-4.auto.column; written = λ i h. (let w = c.put-4.ensures.written i 0 h in search rules); before = λ j h. c.put-4.ensures.before j 0 h; after = λ j h. c.put-4.ensures.after j 0 h };
    }
