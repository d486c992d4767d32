use Rattle.text.proofs.PrintLaws.{digit-last, digit-more, shown-none}
use native.Mathlib.Omega.{arith}
use Prim.Native.Nat.{ℕ, ◌+◌, ◌-◌, ◌%◌, ◌≤◌}
use mathlib.Core.Path.{◌≡◌, sym, ◌∙◌, ap}
use mathlib.Core.List.{List, ◌++◌}
use lib.ListN.{length, drop, set, length-set}
use lib.Seq.{length-take-le}
use Rattle.text.specs.Printed.{led, shown}
use Rattle.text_print.proofs.show.Goals as goal

pub returns-then-rest-lt10 : goal.returns-then-rest-lt10
returns-then-rest-lt10 c = let f = set c.loop-i.field (c.loop-i.i - 1) (48 + c.loop-i.rest % 10) in let h : c.loop-i.i - 1 ≤ length f = rw (length-set c.loop-i.field (c.loop-i.i - 1) (48 + c.loop-i.rest % 10)) (omega (arith, c.loop-i.invariant.0)) in ap (λ (x : List ℕ). x ++ drop (c.loop-i.i - 1) f) (c.lead.ensures ∙ ap (led c.args.before) (length-take-le (c.loop-i.i - 1) f h)) ∙ digit-last c.args.before c.loop-i.field (length c.args.field.now) c.args.n c.loop-i.i c.loop-i.rest c.loop-i-test.true (omega (arith, c.loop-i.invariant.0)) c.loop-i.invariant.1 c.if-rest-lt10.true

pub loop-i-preserved : goal.loop-i-preserved
loop-i-preserved c = (length-set c.loop-i.field (c.loop-i.i - 1) (48 + c.loop-i.rest % 10) ∙ c.loop-i.invariant.0, digit-more c.args.before c.loop-i.field (length c.args.field.now) c.args.n c.loop-i.i c.loop-i.rest c.loop-i-test.true (omega (arith, c.loop-i.invariant.0)) c.loop-i.invariant.1 c.if-rest-lt10.false)

pub returns : goal.returns
returns c = let e : c.loop-i.i ≡ 0 = omega arith in let q : shown c.args.before 0 c.loop-i.rest ++ drop 0 c.loop-i.field ≡ shown c.args.before (length c.args.field.now) c.args.n = (rw e at c.loop-i.invariant.1) in ap (λ (x : List ℕ). x ++ c.loop-i.field) (sym (shown-none c.args.before c.loop-i.rest)) ∙ q
