use native.Mathlib.Omega.{arith}
use mathlib.Core.Path.{◌≡◌, sym, ◌∙◌}
use mathlib.Core.Logic.{◌≢◌}
use mathlib.Core.Bool.{true, false}
use Rattle.machine_layout.specs.Layout.{operators_of}
use Rattle.machine_runs.specs.Run.{ran}
use Rattle.machine_tags.specs.TagRun.{tag_runs, tag_still}
use Rattle.machine_tags.specs.TagCalls.{tag_standing}
use Rattle.machine_tag_calls.specs.TagStanding.{tag-standing-good}
use Rattle.machine_tag_calls.specs.TagRanLaws.{tag-ran-refused, tag-ran-still, tag-ran-unfinished, tag-ran-early}
use Rattle.machine_tag_calls.proofs.run.Goals as goal

pub returns-in-Err : goal.returns-in-Err
returns-in-Err c = let e = c.in-Err.ensures in let n : tag_standing c.args.mem.now ≢ 0 = λ z. absurd (omega (arith, e.0, e.1)) in rw (c.refused.ensures, e.0) (sym (tag-ran-refused c.args.mem.now c.args.firings n))

pub operators-n-requires : goal.operators-n-requires
operators-n-requires c =
    let g = tag-standing-good c.args.mem.now c.in_default.ensures in
    omega (arith, g.long)

pub run-count-requires : goal.run-count-requires
run-count-requires c =
    let g = tag-standing-good c.args.mem.now c.in_default.ensures in
    (g.long, omega (arith, g.counts.operators, c.operators-n.ensures.0), rw c.operators-n.ensures.0 g.parts.operators, rw c.operators-n.ensures.0 g.parts.kinds)

pub returns-then-count-firings : goal.returns-then-count-firings
returns-then-count-firings c =
    let st : tag_standing c.args.mem.now ≡ 0 = c.in_default.ensures in
    let e : ran c.run-count.new.mem c.run-count.result ≡ tag_runs (operators_of c.args.mem.now) c.args.firings c.args.mem.now 0 = rw c.operators-n.ensures.0 at c.run-count.ensures in
    rw c.reply.ensures (sym (tag-ran-early c.args.mem.now c.args.firings st c.run-count.result c.run-count.new.mem e c.if-count-firings.true))

pub idle-requires : goal.idle-requires
idle-requires c =
    let g = tag-standing-good c.args.mem.now c.in_default.ensures in
    (omega (arith, g.long, c.run-count.auto.mem), omega (arith, g.counts.operators, c.operators-n.ensures.0))

pub returns-then-idle : goal.returns-then-idle
returns-then-idle c =
    let st : tag_standing c.args.mem.now ≡ 0 = c.in_default.ensures in
    let e : ran c.run-count.new.mem c.run-count.result ≡ tag_runs (operators_of c.args.mem.now) c.args.firings c.args.mem.now 0 = rw c.operators-n.ensures.0 at c.run-count.ensures in
    let q : tag_still c.run-count.new.mem (operators_of c.args.mem.now) ≡ true = rw (← c.operators-n.ensures.0) (sym c.idle.ensures.0 ∙ c.if-idle.true) in
    rw (c.reply-then-idle.ensures, c.idle.ensures.1) (sym (tag-ran-still c.args.mem.now c.args.firings st c.run-count.result c.run-count.new.mem e q))

pub returns : goal.returns
returns c =
    let st : tag_standing c.args.mem.now ≡ 0 = c.in_default.ensures in
    let e : ran c.run-count.new.mem c.run-count.result ≡ tag_runs (operators_of c.args.mem.now) c.args.firings c.args.mem.now 0 = rw c.operators-n.ensures.0 at c.run-count.ensures in
    let q : tag_still c.run-count.new.mem (operators_of c.args.mem.now) ≡ false = rw (← c.operators-n.ensures.0) (sym c.idle.ensures.0 ∙ c.if-idle.false) in
    rw (c.reply-2.ensures, c.from.ensures, c.idle.ensures.1) (sym (tag-ran-unfinished c.args.mem.now c.args.firings st c.run-count.result c.run-count.new.mem e q))
