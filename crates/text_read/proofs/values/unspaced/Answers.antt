use native.Mathlib.Omega.{arith}
use Prim.Native.Nat.{◌+◌}
use mathlib.Core.Path.{sym, ◌∙◌, ap}
use mathlib.Core.Bool.{true, false}
use Rattle.value.specs.declared.Reason.TheVariants.{ZeroDivisor, OutOfRange, Other}
use Rattle.value.specs.declared.Value.TheVariants.{Truth, Err}
use Rattle.value.specs.Bytes.{word_of}
use Rattle.formula.specs.Results.{Field}
use Rattle.text.specs.Fields.{positive, word_by}
use Rattle.text.proofs.FieldLaws.{alone-word, value-true, value-false, value-err, value-real, value-minus, value-number}
use Rattle.text_read.proofs.values.unspaced.Goals as goal

pub returns-in-84 : goal.returns-in-84
unfolding word_of
returns-in-84 c = c.alone.ensures ∙ sym (ap word_by (value-true c.args.s.now c.args.i c.args.end (omega arith) (omega arith) c.in-84.is) ∙ alone-word c.args.s.now (c.args.i + 1) c.args.end (Truth true) (omega arith) (omega arith))

pub returns-in-70 : goal.returns-in-70
unfolding word_of
returns-in-70 c = c.alone-in-70.ensures ∙ sym (ap word_by (value-false c.args.s.now c.args.i c.args.end (omega arith) (omega arith) c.in-70.is) ∙ alone-word c.args.s.now (c.args.i + 1) c.args.end (Truth false) (omega arith) (omega arith))

pub returns-in-69 : goal.returns-in-69
unfolding word_of
returns-in-69 c = c.alone-in-69.ensures ∙ sym (ap word_by (value-err c.args.s.now c.args.i c.args.end (omega arith) (omega arith) Other c.in-69.is) ∙ alone-word c.args.s.now (c.args.i + 1) c.args.end (Err Other) (omega arith) (omega arith))

pub returns-in-90 : goal.returns-in-90
unfolding word_of
returns-in-90 c = c.alone-in-90.ensures ∙ sym (ap word_by (value-err c.args.s.now c.args.i c.args.end (omega arith) (omega arith) ZeroDivisor c.in-90.is) ∙ alone-word c.args.s.now (c.args.i + 1) c.args.end (Err ZeroDivisor) (omega arith) (omega arith))

pub returns-in-86 : goal.returns-in-86
unfolding word_of
returns-in-86 c = c.alone-in-86.ensures ∙ sym (ap word_by (value-err c.args.s.now c.args.i c.args.end (omega arith) (omega arith) OutOfRange c.in-86.is) ∙ alone-word c.args.s.now (c.args.i + 1) c.args.end (Err OutOfRange) (omega arith) (omega arith))

pub returns-in-82 : goal.returns-in-82
returns-in-82 c = c.behind_r.ensures ∙ sym (ap word_by (value-real c.args.s.now c.args.i c.args.end (omega arith) (omega arith) c.in-82.is))

pub returns-in-45 : goal.returns-in-45
returns-in-45 c = c.behind_minus.ensures ∙ sym (ap word_by (value-minus c.args.s.now c.args.i c.args.end (omega arith) (omega arith) c.in-45.is))

pub returns-in_default : goal.returns-in_default
returns-in_default c = c.positive.ensures ∙ ap (λ (f : Field). word_by (positive f)) c.number.ensures ∙ sym (ap word_by (value-number c.args.s.now c.args.i c.args.end (omega arith) (omega arith) c.requires.3 (λ e. omega (arith, e)) (λ e. omega (arith, e)) (λ e. omega (arith, e)) (λ e. omega (arith, e)) (λ e. omega (arith, e)) (λ e. omega (arith, e)) (λ e. omega (arith, e))))
