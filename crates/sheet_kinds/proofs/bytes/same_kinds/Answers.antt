use native.Mathlib.Omega.{arith}
use Prim.Native.Nat.{ℕ, ◌+◌}
use mathlib.Core.Path.{◌≡◌, sym, ◌∙◌, ap}
use mathlib.Core.Bool.{Bool, true, false, ◌&&◌}
use Rattle.formula.specs.Kinds.{same_kinds}
use Rattle.sheet_kinds.specs.Bytes.{kinds_in, stretch, same_from, same_start, same_step, same_end, differ}
use Rattle.sheet_kinds.proofs.bytes.same_kinds.Goals as goal

pub returns-then-n-m : goal.returns-then-n-m
returns-then-n-m c = sym (differ (kinds_in c.args.a.now) (kinds_in c.args.b.now) c.args.at 0 c.args.n c.args.m c.if-n-m.true)

pub loop-i-init : goal.loop-i-init
loop-i-init c = (omega arith, same_start c.args.a.now c.args.at c.args.b.now c.args.n)

pub returns-then-not-same_kind : goal.returns-then-not-same_kind
returns-then-not-same_kind c = let e : c.same_kind.result ≡ false = c.if-not-same_kind.true in let s : same_from c.args.a.now c.args.at c.args.b.now c.args.n c.loop-i.i ≡ (c.same_kind.result && same_from c.args.a.now c.args.at c.args.b.now c.args.n (c.loop-i.i + 1)) = same_step c.args.a.now c.args.at c.args.b.now c.args.n c.loop-i.i c.loop-i-test.true c.same_kind.result c.same_kind.ensures in let f : (c.same_kind.result && same_from c.args.a.now c.args.at c.args.b.now c.args.n (c.loop-i.i + 1)) ≡ false = ap (λ (x : Bool). x && same_from c.args.a.now c.args.at c.args.b.now c.args.n (c.loop-i.i + 1)) e in sym (ap (λ (k : ℕ). same_kinds (stretch (kinds_in c.args.a.now) c.args.at c.args.n) (stretch (kinds_in c.args.b.now) 0 k)) (sym c.if-n-m.false) ∙ c.loop-i.invariant.1 ∙ s ∙ f)

pub loop-i-preserved : goal.loop-i-preserved
loop-i-preserved c = let e : c.same_kind.result ≡ true = c.if-not-same_kind.false in let s : same_from c.args.a.now c.args.at c.args.b.now c.args.n c.loop-i.i ≡ (c.same_kind.result && same_from c.args.a.now c.args.at c.args.b.now c.args.n (c.loop-i.i + 1)) = same_step c.args.a.now c.args.at c.args.b.now c.args.n c.loop-i.i c.loop-i-test.true c.same_kind.result c.same_kind.ensures in (omega arith, c.loop-i.invariant.1 ∙ s ∙ ap (λ (x : Bool). x && same_from c.args.a.now c.args.at c.args.b.now c.args.n (c.loop-i.i + 1)) e)

pub returns : goal.returns
returns c = sym (ap (λ (k : ℕ). same_kinds (stretch (kinds_in c.args.a.now) c.args.at c.args.n) (stretch (kinds_in c.args.b.now) 0 k)) (sym c.if-n-m.false) ∙ c.loop-i.invariant.1 ∙ same_end c.args.a.now c.args.at c.args.b.now c.args.n c.loop-i.i c.loop-i-test.false)
