use mathlib.Core.Path.{sym, ◌∙◌}
use Rattle.maker_laid.specs.Emitted.{ring-FM, ring-FS}
use Rattle.maker_emit.proofs.records.ring_gate.Goals as goal

pub returns-then-identifier : goal.returns-then-identifier
returns-then-identifier c = c.gate_of.ensures ∙ sym (ring-FM _ c.if-identifier.true _ _ _ _ _)

pub returns : goal.returns
returns c = c.gate_of-2.ensures ∙ sym (ring-FS _ c.if-identifier.false _ _ _ _ _)
