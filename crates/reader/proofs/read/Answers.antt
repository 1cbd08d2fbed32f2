-- `reader::read`: beside a no about the text, beside a no about its rows and columns, and after the last yes.
use Rattle.std.proofs.lemmas.Result.{err_from_is_err_and}
use mathlib.Core.Path.{sym, ap}
use native.Mathlib.Omega.{arith}
use Rattle.grid.specs.declared.Answer.{Answer}
use Rattle.reader.proofs.Gate.{text_accepted, size_accepted, text_refused, size_refused, all_read}
use Rattle.reader.proofs.read.Goals as goal

pub returns-in_err-check_text : goal.returns-in_err-check_text
returns-in_err-check_text c =
    let p = err_from_is_err_and c.from_residual.result c.from_residual.ensures.1 in
    rw (p.1, p.2) (text_refused _ _ c.in_err-check_text.field-0.0 c.in_err-check_text.ensures)

pub header-g-requires : goal.header-g-requires
header-g-requires c =
    let fine = sym (ap (λ (a : Answer). a.number) c.in_ok-check_text.ensures) in
    omega (arith, (text_accepted _ fine).long)

pub returns-in_err-check_size : goal.returns-in_err-check_size
returns-in_err-check_size c =
    let p = err_from_is_err_and c.from_residual-in_err-check_size.result c.from_residual-in_err-check_size.ensures.1 in
    let fine = sym (ap (λ (a : Answer). a.number) c.in_ok-check_text.ensures) in
    rw (p.1, p.2) (size_refused _ _ fine _ c.in_err-check_size.field-0.0 c.header-g.ensures.grid c.in_err-check_size.ensures)

pub read_lines-requires : goal.read_lines-requires
read_lines-requires c =
    let fine = sym (ap (λ (a : Answer). a.number) c.in_ok-check_text.ensures) in
    let grid = c.header-g.ensures.grid in
    let yes = sym (ap (λ (a : Answer). a.number) c.in_ok-check_size.ensures) in
    (grid, rw grid (text_accepted _ fine).announced, (size_accepted _ _ yes).0)

pub returns : goal.returns
returns c =
    let fine = sym (ap (λ (a : Answer). a.number) c.in_ok-check_text.ensures) in
    let grid = c.header-g.ensures.grid in
    let yes = sym (ap (λ (a : Answer). a.number) c.in_ok-check_size.ensures) in
    all_read _ _ fine _ _ grid (size_accepted _ _ yes).1 c.read_lines.ensures
