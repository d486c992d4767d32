use mathlib.Core.Path.{◌∙◌}
use native.Mathlib.Omega.{arith}
use Prim.Native.Nat.{◌+◌, ◌-◌, ◌≤◌}
use lib.ListN.{length}
use Rattle.formula.specs.Sheet.{shape_at, named_in}
use Rattle.sheet_tidy.proofs.KeptLaws.{between-wider, new_by}
use Rattle.sheet_tidy.proofs.WrittenLaws.{writing_start, writing-room, writing-kept, writing-left, writing-end}
use Rattle.sheet_tidy.proofs.rows.write_rows.Goals as goal
use Rattle.sheet_tidy.proofs.rows.write_rows.Goals.{then-kept-i, else-kept-i}

pub loop-i-init : goal.loop-i-init
loop-i-init c = writing_start c.args.fields.now c.args.kept.now c.args.n c.args.out.now

pub new_row-requires : goal.new_row-requires
new_row-requires c =
    let wide : c.loop-i.i + 1 ≤ length c.args.numbers.now + 1 = omega arith in
    (omega arith, omega arith, between-wider (c.loop-i.i + 1) (length c.args.numbers.now + 1) (named_in (shape_at c.args.fields.now (c.loop-i.i + 1))) wide (c.requires.1.names (c.loop-i.i + 1) (omega arith) (omega arith)))

pub put_row-requires : goal.put_row-requires
put_row-requires c = writing-room c.args.fields.now c.args.kept.now c.args.n c.args.out.now c.loop-i.out c.loop-i.at c.loop-i.i c.loop-i.invariant c.loop-i-test.true c.requires.5

pub overflow_add-at : goal.overflow_add-at
overflow_add-at c = let room = writing-room c.args.fields.now c.args.kept.now c.args.n c.args.out.now c.loop-i.out c.loop-i.at c.loop-i.i c.loop-i.invariant c.loop-i-test.true c.requires.5 in omega arith

pub loop-i-preserved : goal.loop-i-preserved
loop-i-preserved c =
    elim c.if-kept-i.branch [
      | then-kept-i w ↦
          rw (w.at-is, w.out-is ∙ w.put_row.ensures) (writing-kept c.args.fields.now c.args.kept.now c.args.n c.args.out.now c.loop-i.out c.loop-i.at c.loop-i.i c.loop-i.invariant c.loop-i-test.true c.requires.5 w.if-kept-i.true _ (w.new_row.ensures ∙ new_by c.args.fields.now c.args.kept.now c.args.n c.args.numbers.now c.requires.1 c.requires.4 (c.loop-i.i + 1) (omega arith) (omega arith)))
      | else-kept-i w ↦
          rw (w.at-is, w.out-is) (writing-left c.args.fields.now c.args.kept.now c.args.n c.args.out.now c.loop-i.out c.loop-i.at c.loop-i.i c.loop-i.invariant c.loop-i-test.true w.if-kept-i.false)
    ]

pub shape_of-out : goal.shape_of-out
shape_of-out c = c.loop-i.invariant.size

pub returns : goal.returns
returns c = writing-end c.args.fields.now c.args.kept.now c.args.n c.args.out.now c.loop-i.out c.loop-i.at c.loop-i.i c.loop-i.invariant (omega arith)
