use mathlib.Core.Path.{sym}
use Rattle.maker_laid.specs.Joined.{IC-three, IC-two}
use Rattle.maker_emit.proofs.records.ic_of.Goals as goal

pub returns-then-both : goal.returns-then-both
returns-then-both c = sym (IC-three _ c.if-both.true _ _ _ _)

pub returns : goal.returns
returns c = sym (IC-two _ c.if-both.false _ _ _ _)
