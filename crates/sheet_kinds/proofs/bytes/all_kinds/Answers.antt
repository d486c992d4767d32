use native.Mathlib.Omega.{arith}
use Prim.Native.Nat.{◌+◌}
use mathlib.Core.Path.{◌≡◌, sym, ◌∙◌, ap}
use mathlib.Core.Bool.{Bool, true, false, ◌&&◌}
use Rattle.sheet_kinds.specs.Bytes.{kind_of_byte, all_from, all_start, all-step, all_end}
use Rattle.sheet_kinds.proofs.bytes.all_kinds.Goals as goal

pub loop-i-init : goal.loop-i-init
loop-i-init c = (omega arith, all_start (kind_of_byte c.args.k) c.args.l.now c.args.n)

pub returns-then-not-same_kind : goal.returns-then-not-same_kind
returns-then-not-same_kind c = let e : c.same_kind.result ≡ false = c.if-not-same_kind.true in sym (c.loop-i.invariant.1 ∙ all-step (kind_of_byte c.args.k) c.args.l.now c.args.n c.loop-i.i c.loop-i-test.true c.same_kind.result c.same_kind.ensures ∙ ap (λ (x : Bool). x && all_from (kind_of_byte c.args.k) c.args.l.now c.args.n (c.loop-i.i + 1)) e)

pub loop-i-preserved : goal.loop-i-preserved
loop-i-preserved c = let e : c.same_kind.result ≡ true = c.if-not-same_kind.false in (omega arith, c.loop-i.invariant.1 ∙ all-step (kind_of_byte c.args.k) c.args.l.now c.args.n c.loop-i.i c.loop-i-test.true c.same_kind.result c.same_kind.ensures ∙ ap (λ (x : Bool). x && all_from (kind_of_byte c.args.k) c.args.l.now c.args.n (c.loop-i.i + 1)) e)

pub returns : goal.returns
returns c = sym (c.loop-i.invariant.1 ∙ all_end (kind_of_byte c.args.k) c.args.l.now c.args.n c.loop-i.i c.loop-i-test.false)
