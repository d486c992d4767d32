use native.Mathlib.Omega.{arith}
use Prim.Native.Nat.{ℕ, ◌+◌}
use mathlib.Core.Path.{sym, ◌∙◌, ap}
use lib.Seq.{slice}
use Rattle.formula.specs.Sheet.{digits_of, zero_of}
use Rattle.sheet_fields.proofs.FieldLaws.{field-zero, field-low, field-high, field-digit, zero-end, zero_more}
use Rattle.text_read.proofs.values.number.Goals as goal

pub returns-in-48 : goal.returns-in-48
returns-in-48 c = sym (field-zero c.args.s.now c.args.i c.args.end (omega arith) (omega arith) c.in-48.is ∙ ap (λ (j : ℕ). zero_of (slice j c.args.end c.args.s.now)) c.if-i-end.true ∙ zero-end c.args.s.now c.args.end)

pub returns-in_default : goal.returns-in_default
returns-in_default c = sym (field-zero c.args.s.now c.args.i c.args.end (omega arith) (omega arith) c.in-48.is ∙ zero_more c.args.s.now (c.args.i + 1) c.args.end (omega (arith, c.if-i-end.false)) (omega arith))

pub returns-in_default-2 : goal.returns-in_default-2
returns-in_default-2 c = field-low c.args.s.now c.args.i c.args.end (omega arith) (omega arith) c.requires.3 (omega arith)

pub returns-in_default-3 : goal.returns-in_default-3
returns-in_default-3 c = field-high c.args.s.now c.args.i c.args.end (omega arith) (omega arith) (omega arith)

pub returns-in-49-to-57 : goal.returns-in-49-to-57
returns-in-49-to-57 c = c.digits.ensures ∙ ap (λ (n : ℕ). digits_of n (slice (c.args.i + 1) c.args.end c.args.s.now)) c.digit.ensures ∙ sym (field-digit c.args.s.now c.args.i c.args.end (omega arith) (omega arith) (λ e. omega (arith, e)) (omega arith) (omega arith))
