use native.Mathlib.Omega.{arith}
use mathlib.Core.Path.{◌≡◌, sym, ◌∙◌, ap}
use mathlib.Core.Logic.{◌≢◌}
use mathlib.Core.Bool.{true, false}
use Rattle.machine_layout.specs.Layout.{size_of, operators_of}
use Rattle.machine_valid.specs.Figures.{valid-figures}
use Rattle.machine_runs.specs.Run.{still_at}
use Rattle.machine_calls.specs.Calls.{size_in, standing}
use Rattle.machine_calls.specs.CallLaws.{standing-good}
use Rattle.machine_rounds.specs.Rounds.{rounded, rounds_from}
use Rattle.machine_rounds.specs.RoundLaws.{rounds-refused, rounds-still, rounds-unfinished, rounds-early}
use Rattle.machine_rounds.proofs.run_rounds.Goals as goal

pub returns-in-Err : goal.returns-in-Err
returns-in-Err c = let e = c.in-Err.ensures in let n : standing c.args.mem.now ≢ 0 = λ z. absurd (omega (arith, e.0, e.1)) in rw (c.reply.ensures, c.from.ensures, e.0) (sym (rounds-refused c.args.mem.now c.args.lent n))

pub operators-n-requires : goal.operators-n-requires
operators-n-requires c =
    let st : standing c.args.mem.now ≡ 0 = c.in_default.ensures in
    let g = standing-good c.args.mem.now st in
    omega (arith, g.0)

pub make_rounds-made-requires : goal.make_rounds-made-requires
make_rounds-made-requires c =
    let st : standing c.args.mem.now ≡ 0 = c.in_default.ensures in
    let g = standing-good c.args.mem.now st in
    let f = valid-figures c.args.mem.now g.1 in
    let s : c.of-links.result.size ≡ size_in c.args.mem.now = c.of-links.ensures.1 in
    (c.of-links.ensures.0, omega (arith, s, g.0), omega (arith, f.operators, c.operators-n.ensures.0))

pub returns-then-made-lent : goal.returns-then-made-lent
returns-then-made-lent c =
    let st : standing c.args.mem.now ≡ 0 = c.in_default.ensures in
    let s : c.of-links.result.size ≡ size_in c.args.mem.now = c.of-links.ensures.1 in
    let e : rounded c.make_rounds-made.new.mem c.make_rounds-made.result.rounds c.make_rounds-made.result.firings ≡ rounds_from (size_in c.args.mem.now) (operators_of c.args.mem.now) c.args.lent c.args.mem.now 0 0 = rw (c.operators-n.ensures.0, s) at c.make_rounds-made.ensures in
    rw c.reply-then-made-lent.ensures (sym (rounds-early c.args.mem.now c.args.lent st c.make_rounds-made.new.mem c.make_rounds-made.result.rounds c.make_rounds-made.result.firings e c.if-made-lent.true))

pub idle-requires : goal.idle-requires
idle-requires c =
    let st : standing c.args.mem.now ≡ 0 = c.in_default.ensures in
    let g = standing-good c.args.mem.now st in
    let f = valid-figures c.args.mem.now g.1 in
    let s : c.of-links.result.size ≡ size_in c.args.mem.now = c.of-links.ensures.1 in
    (omega (arith, c.of-links.ensures.0), omega (arith, s, c.of-links.ensures.0, g.0, c.make_rounds-made.auto.mem), omega (arith, f.operators, c.operators-n.ensures.0))

pub returns-then-idle : goal.returns-then-idle
returns-then-idle c =
    let st : standing c.args.mem.now ≡ 0 = c.in_default.ensures in
    let s : c.of-links.result.size ≡ size_in c.args.mem.now = c.of-links.ensures.1 in
    let e : rounded c.make_rounds-made.new.mem c.make_rounds-made.result.rounds c.make_rounds-made.result.firings ≡ rounds_from (size_in c.args.mem.now) (operators_of c.args.mem.now) c.args.lent c.args.mem.now 0 0 = rw (c.operators-n.ensures.0, s) at c.make_rounds-made.ensures in
    let q : still_at c.make_rounds-made.new.mem (size_in c.args.mem.now) (operators_of c.args.mem.now) ≡ true = rw (c.of-links.ensures.0, s, c.operators-n.ensures.0) at (sym c.idle.ensures.0 ∙ c.if-idle.true) in
    rw (c.reply-then-idle.ensures, c.idle.ensures.1) (sym (rounds-still c.args.mem.now c.args.lent st c.make_rounds-made.new.mem c.make_rounds-made.result.rounds c.make_rounds-made.result.firings e q))

pub returns : goal.returns
returns c =
    let st : standing c.args.mem.now ≡ 0 = c.in_default.ensures in
    let s : c.of-links.result.size ≡ size_in c.args.mem.now = c.of-links.ensures.1 in
    let e : rounded c.make_rounds-made.new.mem c.make_rounds-made.result.rounds c.make_rounds-made.result.firings ≡ rounds_from (size_in c.args.mem.now) (operators_of c.args.mem.now) c.args.lent c.args.mem.now 0 0 = rw (c.operators-n.ensures.0, s) at c.make_rounds-made.ensures in
    let q : still_at c.make_rounds-made.new.mem (size_in c.args.mem.now) (operators_of c.args.mem.now) ≡ false = rw (c.of-links.ensures.0, s, c.operators-n.ensures.0) at (sym c.idle.ensures.0 ∙ c.if-idle.false) in
    rw (c.reply-2.ensures, c.from-2.ensures, c.idle.ensures.1) (sym (rounds-unfinished c.args.mem.now c.args.lent st c.make_rounds-made.new.mem c.make_rounds-made.result.rounds c.make_rounds-made.result.firings e q))
