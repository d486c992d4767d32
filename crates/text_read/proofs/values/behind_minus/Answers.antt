use native.Mathlib.Omega.{arith}
use Prim.Native.Nat.{ℕ, ◌+◌}
use mathlib.Core.Path.{sym, ◌∙◌, ap}
use lib.Seq.{slice}
use Rattle.text.specs.Fields.{negative, word_by}
use Rattle.text.proofs.FieldLaws.{minus-end, minus-low, minus-high, minus-digit}
use Rattle.formula.specs.Sheet.{digits_of}
use Rattle.formula.specs.Results.{Field}
use Rattle.text_read.proofs.values.behind_minus.Goals as goal

pub returns-then-i-end : goal.returns-then-i-end
returns-then-i-end c = rw c.if-i-end.true (sym (minus-end c.args.s.now c.args.end))

pub returns-in-49-to-57 : goal.returns-in-49-to-57
returns-in-49-to-57 c = c.negative.ensures ∙ ap (λ (f : Field). word_by (negative f)) (c.digits.ensures ∙ ap (λ (n : ℕ). digits_of n (slice (c.args.i + 1) c.args.end c.args.s.now)) c.digit.ensures) ∙ ap word_by (sym (minus-digit c.args.s.now c.args.i c.args.end (omega arith) (omega arith) (omega arith) (omega arith)))

pub returns-in_default : goal.returns-in_default
returns-in_default c = sym (minus-low c.args.s.now c.args.i c.args.end (omega arith) (omega arith) (omega arith))

pub returns-in_default-2 : goal.returns-in_default-2
returns-in_default-2 c = sym (minus-high c.args.s.now c.args.i c.args.end (omega arith) (omega arith) (omega arith))
