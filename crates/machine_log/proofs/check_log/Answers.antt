use native.Mathlib.Omega.{arith}
use mathlib.Core.Path.{◌≡◌, sym, ap, ◌∙◌}
use mathlib.Core.List.{[]}
use Prim.Native.Nat.{◌*◌}
use lib.ListN.{length}
use Rattle.formula.specs.Tree.{formula_of}
use Rattle.formula.specs.Widths.{width}
use Rattle.formula.specs.Faults.{letters_of}
use Rattle.machine_start.specs.Start.{Begun}
use Rattle.machine_log.specs.declared.LogAnswer.{LogAnswer}
use Rattle.machine_log.specs.Lines.{lines_of}
use Rattle.machine_log.specs.Follow.{followed}
use Rattle.machine_log.specs.Checked.{checks, opening, followed_log}
use Rattle.machine_log.specs.SetLaws.{set_at}
use Rattle.machine_log.specs.CheckedLaws.{letters-few, width_few, opened-refused, opened-passed, opening-row, opening-passed, can-follow, follows-log, checked_refused, checked-passed}
use Rattle.machine_log.proofs.check_log.Goals as goal

pub overflow_cast-row : goal.overflow_cast-row
overflow_cast-row c =
    let b = opening-row c.args.sheet.now c.args.line.now c.args.capacity c.args.sets.now c.args.number c.args.log.now (length c.args.mem.now) (length c.args.out.now) c.in-Err.field-0.refusal c.in-Err.field-0.row (opened-refused (opening c.args.sheet.now c.args.line.now c.args.capacity c.args.sets.now c.args.number c.args.log.now (length c.args.mem.now) (length c.args.out.now)) (length (letters_of (formula_of c.args.sheet.now) c.args.line.now)) (width (formula_of c.args.sheet.now)) c.in-Err.field-0.refusal c.in-Err.field-0.row (sym c.in-Err.is ∙ c.open_log.ensures)) in
    record { fits = omega (arith, b) }

pub overflow_mul-inputs : goal.overflow_mul-inputs
overflow_mul-inputs c =
    let p = opened-passed (opening c.args.sheet.now c.args.line.now c.args.capacity c.args.sets.now c.args.number c.args.log.now (length c.args.mem.now) (length c.args.out.now)) (length (letters_of (formula_of c.args.sheet.now) c.args.line.now)) (width (formula_of c.args.sheet.now)) c.in-Ok.inputs c.in-Ok.width (sym c.in-Ok.is ∙ c.open_log.ensures) in
    let b = letters-few c.args.sheet.now c.args.line.now (opening-passed c.args.sheet.now c.args.line.now c.args.capacity c.args.sets.now c.args.number c.args.log.now (length c.args.mem.now) (length c.args.out.now) p.0).passed in
    record { fits = omega (arith, p.1, b) }

pub follow-progress-requires : goal.follow-progress-requires
follow-progress-requires c =
    let p = opened-passed (opening c.args.sheet.now c.args.line.now c.args.capacity c.args.sets.now c.args.number c.args.log.now (length c.args.mem.now) (length c.args.out.now)) (length (letters_of (formula_of c.args.sheet.now) c.args.line.now)) (width (formula_of c.args.sheet.now)) c.in-Ok.inputs c.in-Ok.width (sym c.in-Ok.is ∙ c.open_log.ensures) in
    let e = ap (λ (b : Begun). b.mem) c.start.ensures in
    rw (p.1, e) (can-follow c.args.sheet.now c.args.line.now c.args.capacity c.args.sets.now c.args.number c.args.log.now c.args.mem.now c.args.out.now (opening-passed c.args.sheet.now c.args.line.now c.args.capacity c.args.sets.now c.args.number c.args.log.now (length c.args.mem.now) (length c.args.out.now) p.0))

pub overflow_cast-width : goal.overflow_cast-width
overflow_cast-width c =
    let p = opened-passed (opening c.args.sheet.now c.args.line.now c.args.capacity c.args.sets.now c.args.number c.args.log.now (length c.args.mem.now) (length c.args.out.now)) (length (letters_of (formula_of c.args.sheet.now) c.args.line.now)) (width (formula_of c.args.sheet.now)) c.in-Ok.inputs c.in-Ok.width (sym c.in-Ok.is ∙ c.open_log.ensures) in
    let b = width_few c.args.sheet.now c.args.line.now (opening-passed c.args.sheet.now c.args.line.now c.args.capacity c.args.sets.now c.args.number c.args.log.now (length c.args.mem.now) (length c.args.out.now) p.0).passed in
    record { fits = omega (arith, p.2, b) }

pub returns-in-Err : goal.returns-in-Err
returns-in-Err c =
    ap (λ (a : LogAnswer). checks a c.args.mem.now c.args.out.now) c.refused.ensures
    ∙ checked_refused c.args.sheet.now c.args.line.now c.args.capacity c.args.sets.now c.args.number c.args.log.now c.args.mem.now c.args.out.now c.in-Err.field-0.refusal c.in-Err.field-0.row (opened-refused (opening c.args.sheet.now c.args.line.now c.args.capacity c.args.sets.now c.args.number c.args.log.now (length c.args.mem.now) (length c.args.out.now)) (length (letters_of (formula_of c.args.sheet.now) c.args.line.now)) (width (formula_of c.args.sheet.now)) c.in-Err.field-0.refusal c.in-Err.field-0.row (sym c.in-Err.is ∙ c.open_log.ensures))

pub returns-in-Ok : goal.returns-in-Ok
returns-in-Ok c =
    let p = opened-passed (opening c.args.sheet.now c.args.line.now c.args.capacity c.args.sets.now c.args.number c.args.log.now (length c.args.mem.now) (length c.args.out.now)) (length (letters_of (formula_of c.args.sheet.now) c.args.line.now)) (width (formula_of c.args.sheet.now)) c.in-Ok.inputs c.in-Ok.width (sym c.in-Ok.is ∙ c.open_log.ensures) in
    let e = ap (λ (b : Begun). b.mem) c.start.ensures in
    let f = followed (set_at (5 * c.in-Ok.inputs) c.args.sets.now) (lines_of c.args.log.now) 1 c.start.new.mem [] in
    let h : f ≡ followed_log c.args.sheet.now c.args.line.now c.args.capacity c.args.sets.now c.args.number c.args.log.now c.args.mem.now = rw (p.1, e) (follows-log c.args.sheet.now c.args.line.now c.args.capacity c.args.sets.now c.args.number c.args.log.now c.args.mem.now c.args.out.now (opening-passed c.args.sheet.now c.args.line.now c.args.capacity c.args.sets.now c.args.number c.args.log.now (length c.args.mem.now) (length c.args.out.now) p.0)) in
    ap (λ (a : LogAnswer). checks a c.follow-progress.new.mem c.follow-progress.new.out) c.told.ensures
    ∙ checked-passed c.args.sheet.now c.args.line.now c.args.capacity c.args.sets.now c.args.number c.args.log.now c.args.mem.now c.args.out.now p.0 f h c.follow-progress.result c.follow-progress.new.mem c.follow-progress.new.out c.follow-progress.ensures c.in-Ok.width p.2
