-- `ending::shared_ending`: no cell behind a no, and the last cells that are alike behind a yes; both parts end where the first list does.
use mathlib.Core.Path.{refl, sym, ◌∙◌}
use Prim.Native.Nat.{◌-◌}
use native.Mathlib.Omega.{arith}
use lib.ListN.{length}
use borrow.Author.Rules.{part_to_end}
use Rattle.ending_laws.proofs.Longest.{part_is, part_byte, no_part}
use Rattle.ending.proofs.Promise.{err_no, ok_yes, refused_part, accepted_part}
use Rattle.ending.proofs.shared_ending.Goals as goal

pub returns-then-is_err : goal.returns-then-is_err
returns-then-is_err c =
    let s = c.args in
    let l = s.first.now in
    let no = err_no c.check_lists.result (sym c.is_err.ensures.value ∙ c.if-is_err.true) in
    record {
      shared = refused_part s.g l s.second.now _ c.check_lists.ensures no _ (no_part l);
      itself = record { block = refl; byte = part_byte l (length l) s.first.ref_ptr.1 (omega arith) };
    }

pub returns : goal.returns
returns c =
    let s = c.args in
    let l = s.first.now in
    let yes = ok_yes c.check_lists.result (sym c.is_err.ensures.value ∙ c.if-is_err.false) in
    let part = part_to_end l (length l - c.shared_length-k.result) ∙ part_is l s.second.now c.shared_length-k.result c.shared_length-k.ensures.value in
    record {
      shared = accepted_part s.g l s.second.now _ c.check_lists.ensures yes _ part;
      itself = record { block = refl; byte = part_byte l (length l - c.shared_length-k.result) s.first.ref_ptr.1 (omega arith) };
    }
