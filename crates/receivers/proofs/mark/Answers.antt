-- The mark by its three tests.
use native.Mathlib.Omega.{arith}
use Rattle.receivers.proofs.Codes.{position_small, mark_zero, mark_off, mark_stop, mark_on}
use Rattle.receivers.proofs.mark.Goals as goal

pub returns-then-code-eq0 : goal.returns-then-code-eq0
returns-then-code-eq0 c =
    record {
      value = mark_zero c.args.codes.now.grid c.args.codes.now.codes.now c.args.codes.now.codes_len c.args.codes.now.all_codes c.args.cell c.if-code-eq0.true;
      upper_bound = omega arith;
    }

pub pointed_at-next-requires : goal.pointed_at-next-requires
pointed_at-next-requires c =
    let q = position_small c.args.codes.now.grid c.args.codes.now.codes.now c.args.codes.now.codes_len c.args.codes.now.all_codes c.args.cell c.if-code-eq0.false in
    record {
      g_bound = c.args.codes.now.size_bound;
      cell_bound = c.requires.cell_bound;
      row_value = c.requires.row_value;
      col_value = c.requires.col_value;
      code_bound = q;
      reach_table = c.requires.reach_table;
    }

pub returns-then-next-n : goal.returns-then-next-n
returns-then-next-n c =
    record {
      value = mark_off c.args.codes.now.grid c.args.codes.now.codes.now c.args.codes.now.codes_len c.args.codes.now.all_codes c.args.cell c.if-code-eq0.false
          c.pointed_at-next.ensures c.if-next-n.true;
      upper_bound = omega arith;
    }

pub returns-then-codes-next-eq0 : goal.returns-then-codes-next-eq0
returns-then-codes-next-eq0 c =
    record {
      value = mark_stop c.args.codes.now.grid c.args.codes.now.codes.now c.args.codes.now.codes_len c.args.codes.now.all_codes c.args.cell
          c.if-code-eq0.false c.pointed_at-next.ensures c.if-codes-next-eq0.true;
      upper_bound = omega arith;
    }

pub returns : goal.returns
returns c =
    let h = c.if-next-n.false in
    record {
      value = mark_on c.args.codes.now.grid c.args.codes.now.codes.now c.args.codes.now.codes_len c.args.codes.now.all_codes c.args.cell
          c.if-code-eq0.false c.pointed_at-next.ensures c.if-codes-next-eq0.false;
      upper_bound = omega arith;
    }
