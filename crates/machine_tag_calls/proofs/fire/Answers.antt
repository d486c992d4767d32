use native.Mathlib.Omega.{arith}
use mathlib.Core.Path.{◌≡◌, sym, ◌∙◌, ap}
use mathlib.Core.Logic.{◌≢◌}
use mathlib.Core.Bool.{true, false}
use Rattle.formula.specs.declared.Refusal.TheVariants.{NotAble}
use Rattle.machine_calls.specs.Calls.{outcome, answers, refusal}
use Rattle.machine_planes.specs.Planes.{plane_at}
use Rattle.machine_runs.specs.RunLaws.{fired-idle}
use Rattle.machine_tags.specs.TagRun.{able_under}
use Rattle.machine_tags.specs.TagCalls.{tag_standing}
use Rattle.machine_tag_calls.specs.TagStanding.{tag-standing-good}
use Rattle.machine_tag_calls.specs.TagCallLaws.{tag-fired-refused, tag-fired-absent, tag-fired-no-tag, tag-fired-idle, tag-fired-accepted}
use Rattle.machine_tag_calls.proofs.fire.Goals as goal

pub returns-in-Err : goal.returns-in-Err
returns-in-Err c = let e = c.in-Err.ensures in let n : tag_standing c.args.mem.now ≢ 0 = λ z. absurd (omega (arith, e.0, e.1)) in rw (c.refused.ensures, e.0) (sym (tag-fired-refused c.args.mem.now c.args.operator c.args.tag n))

pub operators-requires : goal.operators-requires
operators-requires c =
    let g = tag-standing-good c.args.mem.now c.in_default.ensures in
    omega (arith, g.long)

pub returns-then-operators-i : goal.returns-then-operators-i
returns-then-operators-i c =
    let st : tag_standing c.args.mem.now ≡ 0 = c.in_default.ensures in
    rw c.refused-then-operators-i.ensures (sym (tag-fired-absent c.args.mem.now st c.args.operator c.args.tag (omega (arith, c.operators.ensures.0))))

pub returns-then-t-ge-TAGS : goal.returns-then-t-ge-TAGS
returns-then-t-ge-TAGS c =
    let st : tag_standing c.args.mem.now ≡ 0 = c.in_default.ensures in
    rw c.refused-then-t-ge-TAGS.ensures (sym (tag-fired-no-tag c.args.mem.now st c.args.operator c.args.tag (omega (arith, c.operators.ensures.0)) (omega arith)))

pub fire_at-requires : goal.fire_at-requires
fire_at-requires c =
    let g = tag-standing-good c.args.mem.now c.in_default.ensures in
    (omega (arith, c.plane-links.ensures.0), omega (arith, c.plane-links.ensures.0, c.plane-links.ensures.1, g.long), omega (arith, g.counts.operators, c.operators.ensures.0))

pub returns-then-fire_at : goal.returns-then-fire_at
returns-then-fire_at c =
    let st : tag_standing c.args.mem.now ≡ 0 = c.in_default.ensures in
    let b : able_under c.args.mem.now c.args.operator c.args.tag ≡ true = rw (c.plane-links.ensures.0, c.plane-links.ensures.1) at (sym c.fire_at.ensures.0 ∙ c.if-fire_at.true) in
    rw c.reply.ensures (ap (outcome (answers 0 0)) (rw (c.plane-links.ensures.0, c.plane-links.ensures.1) at c.fire_at.ensures.1) ∙ sym (tag-fired-accepted c.args.mem.now st c.args.operator c.args.tag (omega (arith, c.operators.ensures.0)) (omega arith) b))

pub returns : goal.returns
returns c =
    let st : tag_standing c.args.mem.now ≡ 0 = c.in_default.ensures in
    let b : able_under c.args.mem.now c.args.operator c.args.tag ≡ false = rw (c.plane-links.ensures.0, c.plane-links.ensures.1) at (sym c.fire_at.ensures.0 ∙ c.if-fire_at.false) in
    rw c.refused-2.ensures (ap (outcome (refusal NotAble)) (rw (c.plane-links.ensures.0, c.plane-links.ensures.1) at c.fire_at.ensures.1 ∙ fired-idle c.args.mem.now (plane_at c.args.tag) 6 c.args.operator b) ∙ sym (tag-fired-idle c.args.mem.now st c.args.operator c.args.tag (omega (arith, c.operators.ensures.0)) (omega arith) b))
