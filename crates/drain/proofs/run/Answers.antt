-- `drain::run`: what is printed for the bytes that came is what is printed for the first bytes of the input.
use Rattle.std.proofs.Common.{List, ℕ}
use Rattle.std.specs.Io.KnownBytes.{Appends}
use Rattle.std.proofs.lemmas.Result.{IfOk-weaker}
use Rattle.grid.specs.Frames.{program_text}
use Rattle.drain.proofs.Reading.{of_input}
use Rattle.drain.proofs.run.Goals as goal

pub returns : goal.returns
returns g c =
    let read = c.in_ok-n.ensures in
    let printed : List ℕ → Type 0 = λ text. Appends (g.W.Write.contents c.args.output.now) (g.W.Write.contents c.print.new.output) (program_text text) in
    IfOk-weaker c.print.result _ _
    (λ _ done. of_input _ _ c.read_full.new.text c.in_ok-n.n 11530 printed c.read_full.auto.text read.fits read.bytes read.end done)
    c.print.ensures.appends
