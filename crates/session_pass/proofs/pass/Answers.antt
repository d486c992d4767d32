use native.Mathlib.Omega.{arith}
use Prim.Native.Nat.{◌+◌}
use mathlib.Core.Path.{◌∙◌, ap}
use lib.ListN.{drop}
use Rattle.text.specs.Printed.{refusal_line}
use Rattle.text.proofs.PrintLaws.{refusal-length}
use Rattle.session.proofs.PassLaws.{behind-written}
use Rattle.session.proofs.StageLaws.{stage-plain, stage-refused}
use Rattle.session_pass.proofs.pass.Goals as goal

pub feed-at-requires : goal.feed-at-requires
feed-at-requires c = (c.requires.0, c.requires.1, c.requires.3)

pub returns-then-a-eq0 : goal.returns-then-a-eq0
returns-then-a-eq0 c = record { passes_to = stage-plain c.args.kinds.now c.args.sets.now c.args.stage c.args.mem.now c.feed-at.result c.feed-at.new.mem c.feed-at.ensures.feeds_to c.run-a.result c.run-a.new.mem c.run-a.ensures c.drain-taken.new.mem c.drain-taken.new.out c.drain-taken.result.printed c.saturating_sub-firings.result c.drain-taken.ensures.2 c.drain-taken.ensures.1 c.saturating_sub-firings.ensures c.drain-taken.result.count c.saturating_sub.result c.drain-taken.ensures.0 c.saturating_sub.ensures c.if-a-eq0.true; at_in_bounds = (c.feed-at.ensures.upper_bound, omega (arith, c.drain-taken.ensures.3), c.drain-taken.ensures.4) }

pub put_refusal-requires : goal.put_refusal-requires
put_refusal-requires c = omega (arith, c.drain-taken.ensures.3, c.drain-taken.auto.out, c.requires.2)

pub returns : goal.returns
returns c = record { passes_to = stage-refused c.args.kinds.now c.args.sets.now c.args.stage c.args.mem.now c.feed-at.result c.feed-at.new.mem c.feed-at.ensures.feeds_to c.run-a.result c.run-a.new.mem c.run-a.ensures c.drain-taken.new.mem c.drain-taken.new.out c.drain-taken.result.printed c.saturating_sub-firings.result c.drain-taken.ensures.2 c.drain-taken.ensures.1 c.saturating_sub-firings.ensures c.put_refusal.new.out c.put_refusal.ensures (omega (arith, c.drain-taken.ensures.3, c.drain-taken.auto.out, c.requires.2)) c.if-a-eq0.false; at_in_bounds = (c.feed-at.ensures.upper_bound, omega (arith, c.drain-taken.ensures.3), ap (drop (c.drain-taken.result.printed + 13)) c.put_refusal.ensures ∙ behind-written c.args.out.now c.drain-taken.new.out c.drain-taken.result.printed 13 (refusal_line c.run-a.result.refusal 0) (refusal-length c.run-a.result.refusal 0) (omega (arith, c.drain-taken.ensures.3, c.drain-taken.auto.out, c.requires.2)) c.drain-taken.ensures.4) }
