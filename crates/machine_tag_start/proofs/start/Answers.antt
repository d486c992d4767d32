use native.Mathlib.Omega.{arith}
use mathlib.Core.Path.{sym, ap, ◌∙◌}
use mathlib.Core.Bool.{true, false}
use lib.ListN.{set}
use Rattle.machine_layout.specs.Layout.{capacity_at, links_of}
use Rattle.machine_start.specs.declared.StartAnswer.{StartAnswer}
use Rattle.machine_start.specs.Start.{Begun, begun}
use Rattle.machine_planes.specs.Planes.{most_tags}
use Rattle.machine_tags.specs.TagValid.{tag_mark}
use Rattle.machine_tag_start.specs.TagStart.{emptied_tags}
use Rattle.machine_tag_start.specs.TagStartLaws.{tag-started-short, tag-started-with-for, tag-started-as, tag-started-on, started-few-links}
use Rattle.machine_tag_start.proofs.start.Goals as goal

pub returns-then-mem-lt-TAGGED_NEED : goal.returns-then-mem-lt-TAGGED_NEED
returns-then-mem-lt-TAGGED_NEED c =
    ap (λ (a : StartAnswer). begun a c.args.mem.now) c.refused.ensures
    ∙ sym (tag-started-short c.args.sheet.now c.args.line.now c.args.mem.now (omega arith))

pub returns-then-has_for : goal.returns-then-has_for
returns-then-has_for c =
    ap (λ (a : StartAnswer). begun a c.args.mem.now) c.refuse_loop.ensures
    ∙ sym (tag-started-with-for c.args.sheet.now c.args.line.now c.args.mem.now (omega arith) (sym c.has_for.ensures ∙ c.if-has_for.true))

pub returns-then-answer-ne0 : goal.returns-then-answer-ne0
returns-then-answer-ne0 c =
    c.start-answer.ensures
    ∙ sym (tag-started-as c.args.sheet.now c.args.line.now c.args.mem.now (omega arith) (sym c.has_for.ensures ∙ c.if-has_for.false)
    (λ e. c.if-answer-ne0.true (ap (λ (b : Begun). b.answer.refusal) c.start-answer.ensures ∙ e)))

pub set_tags-requires : goal.set_tags-requires
set_tags-requires c =
    let e = sym (ap (λ (b : Begun). b.answer.refusal) c.start-answer.ensures) ∙ c.if-answer-ne0.false in
    let f = started-few-links c.args.sheet.now c.args.line.now 1 c.args.mem.now e in
    (omega (arith, c.mem-1.given), omega (arith, f, ap (λ (b : Begun). links_of b.mem) c.start-answer.ensures))

pub returns : goal.returns
returns c =
    ap (begun c.start-answer.result) c.set_tags.ensures
    ∙ ap (λ (b : Begun). begun b.answer (emptied_tags most_tags (links_of b.mem) (set b.mem capacity_at tag_mark))) c.start-answer.ensures
    ∙ sym (tag-started-on c.args.sheet.now c.args.line.now c.args.mem.now (omega arith) (sym c.has_for.ensures ∙ c.if-has_for.false)
    (sym (ap (λ (b : Begun). b.answer.refusal) c.start-answer.ensures) ∙ c.if-answer-ne0.false))
