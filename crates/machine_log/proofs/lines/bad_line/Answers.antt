use native.Mathlib.Omega.{arith}
use Prim.Native.Nat.{◌-◌}
use mathlib.Core.Path.{sym, ap, ◌∙◌}
use Rattle.formula.proofs.TestLaws.{starts, goes_on, stops, ends}
use Rattle.machine_log.specs.Lines.{line_count, listed, line_well}
use Rattle.machine_log.specs.LineLaws.{well-listed, well-many}
use Rattle.machine_log.proofs.lines.bad_line.Goals as goal
use Rattle.machine_log.proofs.lines.bad_line.Goals.{then-j-ge-MOST_LINES-via-then-j-ge-MOST_LINES, then-j-ge-MOST_LINES-via-else-j-ge-MOST_LINES+then-not-is_listed}

pub loop-j-init : goal.loop-j-init
loop-j-init c = (omega arith, starts (line_count c.args.log.now) 0 (line_well c.args.number c.args.log.now))

pub line_at-requires : goal.line_at-requires
line_at-requires c = omega (arith, c.div_ceil-j-end.ensures)

pub returns-then-j-ge-MOST_LINES : goal.returns-then-j-ge-MOST_LINES
returns-then-j-ge-MOST_LINES c =
    sym (stops (line_count c.args.log.now) c.loop-j.j (line_well c.args.number c.args.log.now) (omega (arith, c.div_ceil-j-end.ensures))
    (elim c.then-j-ge-MOST_LINES.branch [
      | then-j-ge-MOST_LINES-via-then-j-ge-MOST_LINES w ↦ well-many c.args.number c.args.log.now c.loop-j.j w.if-j-ge-MOST_LINES.true
      | then-j-ge-MOST_LINES-via-else-j-ge-MOST_LINES+then-not-is_listed w ↦
          well-listed c.args.number c.args.log.now c.loop-j.j w.if-j-ge-MOST_LINES.false (omega (arith, c.div_ceil-j-end.ensures)) ∙ ap (listed c.args.number) (sym w.line_at.ensures) ∙ sym w.is_listed.ensures ∙ w.if-not-is_listed.true
    ]))
    ∙ c.loop-j.invariant.1

pub loop-j-preserved : goal.loop-j-preserved
loop-j-preserved c =
    let e = well-listed c.args.number c.args.log.now c.loop-j.j c.if-j-ge-MOST_LINES.false (omega (arith, c.div_ceil-j-end.ensures)) ∙ ap (listed c.args.number) (sym c.line_at.ensures) ∙ sym c.is_listed.ensures in
    (omega arith, goes_on (line_count c.args.log.now) c.loop-j.j (line_well c.args.number c.args.log.now) (omega (arith, c.div_ceil-j-end.ensures)) (e ∙ c.if-not-is_listed.false) ∙ c.loop-j.invariant.1)

pub returns : goal.returns
returns c = sym (ends (line_count c.args.log.now) c.loop-j.j (line_well c.args.number c.args.log.now) (omega (arith, c.div_ceil-j-end.ensures))) ∙ c.loop-j.invariant.1
