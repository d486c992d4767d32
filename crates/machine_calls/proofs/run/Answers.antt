use native.Mathlib.Omega.{arith}
use Rattle.machine_runs.specs.Run as Run
use Rattle.machine_calls.specs.CallLaws.{ran-still, ran-unfinished, ran-early, standing-good, ran-refused}
use mathlib.Core.Path.{◌≡◌, sym, ◌∙◌, ap}
use Prim.Native.Nat.{◌-◌}
use mathlib.Core.Bool.{true, false}
use Rattle.machine_calls.specs.Calls.{size_in, standing, ran}
use Rattle.machine_layout.specs.Layout.{size_of, operators_of}
use Rattle.machine_valid.specs.Figures.{valid-figures}
use mathlib.Core.Logic.{◌≢◌}
use Rattle.machine_runs.specs.Run.{runs, still_at}
use Rattle.machine_calls.proofs.run.Goals as goal

pub returns-in-Err : goal.returns-in-Err
returns-in-Err c = let e = c.in-Err.ensures in let n : standing c.args.mem.now ≢ 0 = λ z. absurd (omega (arith, e.0, e.1)) in rw (c.refused.ensures, e.0) (sym (ran-refused c.args.mem.now c.args.firings n))

pub operators-n-requires : goal.operators-n-requires
operators-n-requires c =
    let st : standing c.args.mem.now ≡ 0 = c.in_default.ensures in
    let g = standing-good c.args.mem.now st in
    omega (arith, g.0)

pub run-count-requires : goal.run-count-requires
run-count-requires c =
    let st : standing c.args.mem.now ≡ 0 = c.in_default.ensures in
    let g = standing-good c.args.mem.now st in
    let f = valid-figures c.args.mem.now g.1 in
    let s : c.of-links.result.size ≡ size_in c.args.mem.now = c.of-links.ensures.1 in
    (omega (arith, c.of-links.ensures.0), omega (arith, s, c.of-links.ensures.0, g.0), omega (arith, f.operators, c.operators-n.ensures.0))

pub returns-then-count-firings : goal.returns-then-count-firings
returns-then-count-firings c =
    let st : standing c.args.mem.now ≡ 0 = c.in_default.ensures in
    let s : c.of-links.result.size ≡ size_in c.args.mem.now = c.of-links.ensures.1 in
    let e : Run.ran c.run-count.new.mem c.run-count.result ≡ runs (size_in c.args.mem.now) (operators_of c.args.mem.now) c.args.firings c.args.mem.now 0 = rw (c.operators-n.ensures.0, c.of-links.ensures.0, s) at c.run-count.ensures in
    rw c.reply.ensures (sym (ran-early c.args.mem.now st c.args.firings c.run-count.result c.run-count.new.mem e c.if-count-firings.true))

pub idle-requires : goal.idle-requires
idle-requires c =
    let st : standing c.args.mem.now ≡ 0 = c.in_default.ensures in
    let g = standing-good c.args.mem.now st in
    let f = valid-figures c.args.mem.now g.1 in
    let s : c.of-links.result.size ≡ size_in c.args.mem.now = c.of-links.ensures.1 in
    (omega (arith, c.of-links.ensures.0), omega (arith, s, c.of-links.ensures.0, g.0, c.run-count.auto.mem), omega (arith, f.operators, c.operators-n.ensures.0))

pub returns-then-idle : goal.returns-then-idle
returns-then-idle c =
    let st : standing c.args.mem.now ≡ 0 = c.in_default.ensures in
    let s : c.of-links.result.size ≡ size_in c.args.mem.now = c.of-links.ensures.1 in
    let e : Run.ran c.run-count.new.mem c.run-count.result ≡ runs (size_in c.args.mem.now) (operators_of c.args.mem.now) c.args.firings c.args.mem.now 0 = rw (c.operators-n.ensures.0, c.of-links.ensures.0, s) at c.run-count.ensures in
    let q : still_at c.run-count.new.mem (size_in c.args.mem.now) (operators_of c.args.mem.now) ≡ true = rw (c.of-links.ensures.0, s, c.operators-n.ensures.0) at (sym c.idle.ensures.0 ∙ c.if-idle.true) in
    rw (c.reply-then-idle.ensures, c.idle.ensures.1) (sym (ran-still c.args.mem.now st c.args.firings c.run-count.result c.run-count.new.mem e q))

pub returns : goal.returns
returns c =
    let st : standing c.args.mem.now ≡ 0 = c.in_default.ensures in
    let s : c.of-links.result.size ≡ size_in c.args.mem.now = c.of-links.ensures.1 in
    let e : Run.ran c.run-count.new.mem c.run-count.result ≡ runs (size_in c.args.mem.now) (operators_of c.args.mem.now) c.args.firings c.args.mem.now 0 = rw (c.operators-n.ensures.0, c.of-links.ensures.0, s) at c.run-count.ensures in
    let q : still_at c.run-count.new.mem (size_in c.args.mem.now) (operators_of c.args.mem.now) ≡ false = rw (c.of-links.ensures.0, s, c.operators-n.ensures.0) at (sym c.idle.ensures.0 ∙ c.if-idle.false) in
    rw (c.reply-2.ensures, c.from.ensures, c.idle.ensures.1) (sym (ran-unfinished c.args.mem.now st c.args.firings c.run-count.result c.run-count.new.mem e q))
