use native.Mathlib.Omega.{arith}
use borrow.Author.Tests.{lt-ltb, le-ltb}
use Rattle.formula.specs.declared.Refusal.TheVariants.{NotAble}
use mathlib.Core.Path.{◌≡◌, sym, ◌∙◌, ap}
use Prim.Native.Nat.{◌-◌}
use mathlib.Core.Bool.{true, false}
use Rattle.machine_calls.specs.Calls.{size_in, standing, outcome, refusal, answers}
use Rattle.machine_calls.specs.CallLaws.{standing-good, fired-refused, fired-absent, fired-idle, fired-accepted}
use Rattle.machine_layout.specs.Layout.{size_of, operators_of}
use Rattle.machine_valid.specs.Figures.{valid-figures}
use mathlib.Core.Logic.{◌≢◌}
use lib.Dec.{ltb}
use Rattle.machine_firing.specs.Fire.{able_at, fired_from}
use Rattle.machine_calls.proofs.fire.Goals as goal

pub returns-in-Err : goal.returns-in-Err
returns-in-Err c = let e = c.in-Err.ensures in let n : standing c.args.mem.now ≢ 0 = λ z. absurd (omega (arith, e.0, e.1)) in rw (c.refused.ensures, e.0) (sym (fired-refused c.args.mem.now c.args.operator n))

pub operators-requires : goal.operators-requires
operators-requires c =
    let st : standing c.args.mem.now ≡ 0 = c.in_default.ensures in
    let g = standing-good c.args.mem.now st in
    omega (arith, g.0)

pub returns-then-operators-i : goal.returns-then-operators-i
returns-then-operators-i c =
    let st : standing c.args.mem.now ≡ 0 = c.in_default.ensures in
    let a : ltb c.args.operator (operators_of c.args.mem.now) ≡ false = le-ltb c.args.operator (operators_of c.args.mem.now) (omega (arith, c.operators.ensures.0)) in
    rw c.refused-then-operators-i.ensures (sym (fired-absent c.args.mem.now st c.args.operator a))

pub fire_at-requires : goal.fire_at-requires
fire_at-requires c =
    let st : standing c.args.mem.now ≡ 0 = c.in_default.ensures in
    let g = standing-good c.args.mem.now st in
    let f = valid-figures c.args.mem.now g.1 in
    let s : c.of-links.result.size ≡ size_in c.args.mem.now = c.of-links.ensures.1 in
    (omega (arith, c.of-links.ensures.0), omega (arith, s, c.of-links.ensures.0, g.0), omega (arith, f.operators, c.operators.ensures.0))

pub returns-then-fire_at : goal.returns-then-fire_at
returns-then-fire_at c =
    let st : standing c.args.mem.now ≡ 0 = c.in_default.ensures in
    let a : ltb c.args.operator (operators_of c.args.mem.now) ≡ true = lt-ltb c.args.operator (operators_of c.args.mem.now) (omega (arith, c.operators.ensures.0)) in
    let s : c.of-links.result.size ≡ size_in c.args.mem.now = c.of-links.ensures.1 in
    let b : able_at c.args.mem.now (size_in c.args.mem.now) c.args.operator ≡ true = rw (c.of-links.ensures.0, s) at (sym c.fire_at.ensures.0 ∙ c.if-fire_at.true) in
    rw c.reply.ensures (ap (outcome (answers 0 0)) (rw (c.of-links.ensures.0, s) at c.fire_at.ensures.1) ∙ sym (fired-accepted c.args.mem.now st c.args.operator a b))

pub returns : goal.returns
unfolding fired_from
returns c =
    let st : standing c.args.mem.now ≡ 0 = c.in_default.ensures in
    let a : ltb c.args.operator (operators_of c.args.mem.now) ≡ true = lt-ltb c.args.operator (operators_of c.args.mem.now) (omega (arith, c.operators.ensures.0)) in
    let s : c.of-links.result.size ≡ size_in c.args.mem.now = c.of-links.ensures.1 in
    let b : able_at c.args.mem.now (size_in c.args.mem.now) c.args.operator ≡ false = rw (c.of-links.ensures.0, s) at (sym c.fire_at.ensures.0 ∙ c.if-fire_at.false) in
    rw c.refused-2.ensures (ap (outcome (refusal NotAble)) (rw (c.of-links.ensures.0, s) at c.fire_at.ensures.1 ∙ simp b) ∙ sym (fired-idle c.args.mem.now st c.args.operator a b))
