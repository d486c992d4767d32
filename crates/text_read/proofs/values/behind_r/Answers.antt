use native.Mathlib.Omega.{arith}
use mathlib.Core.Path.{sym, ◌∙◌, ap}
use Rattle.formula.specs.Results.{Field}
use Rattle.text.specs.Fields.{patterned, word_by}
use Rattle.text.proofs.FieldLaws.{real-end, real-space, real-digits}
use Rattle.text_read.proofs.values.behind_r.Goals as goal
use Rattle.text_read.proofs.values.behind_r.Goals.{then-i-end-via-then-i-end, then-i-end-via-else-i-end+then-s-i-eq32}

pub returns-then-i-end : goal.returns-then-i-end
returns-then-i-end c =
    elim c.then-i-end.branch [
      | then-i-end-via-then-i-end w ↦ rw w.if-i-end.true (sym (real-end c.args.s.now c.args.end))
      | then-i-end-via-else-i-end+then-s-i-eq32 w ↦ sym (real-space c.args.s.now c.args.i c.args.end (omega arith) (omega arith) w.if-s-i-eq32.true)
    ]

pub returns : goal.returns
returns c = c.real.ensures ∙ ap (λ (f : Field). word_by (patterned f)) c.number.ensures ∙ ap word_by (sym (real-digits c.args.s.now c.args.i c.args.end (omega arith) (omega arith) c.if-s-i-eq32.false))
