use native.Mathlib.Omega.{arith}
use Prim.Native.Nat.{◌+◌}
use mathlib.Core.Path.{sym, ◌∙◌, ap}
use lib.ListN.{drop}
use Rattle.text.specs.Scan.{scanned}
use Rattle.text.proofs.ScanLaws.{scan-more, scan-end}
use Rattle.text.specs.declared.Seen.{Seen}
use Rattle.text_read.proofs.scan.scan.Goals as goal

pub loop-b-preserved : goal.loop-b-preserved
loop-b-preserved c = ap (λ (z : Seen). scanned z (drop (c.loop-b.b-index + 1) c.args.part.now)) c.after-y.ensures ∙ sym (scan-more c.loop-b.y c.args.part.now c.loop-b.b-index (omega arith)) ∙ c.loop-b.invariant

pub returns : goal.returns
returns c = sym (scan-end c.loop-b.y c.args.part.now c.loop-b.b-index (omega arith)) ∙ c.loop-b.invariant
