-- `frames::header`: two numbers of 4 digits and a line feed, one run after the other.
use Rattle.grid.specs.Frames.{header_text}
use Rattle.text_lines.proofs.Lines.{put_put, put_line_feed}
use Rattle.frames.proofs.header.Goals as goal

pub returns : goal.returns
unfolding header_text
returns c = put_line_feed (put_put c.put_hex-middle.ensures c.put_hex-next.ensures)
