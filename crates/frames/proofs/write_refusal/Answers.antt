-- `frames::write_refusal`: three numbers and a line feed, one run after the other.
use Rattle.frames.proofs.Outputs.{refusal_printed}
use Rattle.frames.proofs.write_refusal.Goals as goal

pub returns : goal.returns
returns c = refusal_printed c.args.answer c.requires c.put_hex-after_mark.ensures c.put_hex-after_number.ensures c.put_hex-next.ensures
