use borrow.Author.Rules.{sfits_of}
use native.Mathlib.Omega.{arith}
use mathlib.Core.Path.{sym, refl, ◌∙◌}
use mathlib.Core.Logic.{inl, inr}
use mir.Syntax.{w32}
use mir.Facts.{to_z-of_z}
use Rattle.value.specs.Operators.{apply}
use Rattle.value.proofs.Codes.{not-no-truth, apply-unknown}
use Rattle.value.proofs.apply_code.Goals as goal
use Rattle.value.proofs.apply_code.Goals.{in_default-via-then-code-lt1, in_default-via-else-code-lt1+else-code-lt8+else-code-lt10}

pub returns-in_default-a : goal.returns-in_default-a
returns-in_default-a c = c.hand_on_one.ensures ∙ rw c.in-10.is (sym (not-no-truth c.args.a c.args.b c.in_default-a.not-Truth))

pub returns-in_default-a-2 : goal.returns-in_default-a-2
unfolding apply
returns-in_default-a-2 c = rw c.in-11.is c.negate_other.ensures

pub returns-in-Truth : goal.returns-in-Truth
unfolding apply
returns-in-Truth c = rw (c.in-10.is, c.in-Truth.is) refl

pub returns-in-Whole : goal.returns-in-Whole
unfolding apply
returns-in-Whole c = rw (c.in-11.is, c.in-Whole.is) (simp (to_z-of_z {w = w32} {z = c.in-Whole.x} (sfits_of c.in-Whole.known_told-in-11-1-own.given.0.1)) at c.negate.ensures)

pub returns-in_default : goal.returns-in_default
returns-in_default c = c.err.ensures ∙ sym (apply-unknown c.args.code c.args.a c.args.b (elim c.in_default.branch [ in_default-via-then-code-lt1 w ↦ inl (omega arith) | in_default-via-else-code-lt1+else-code-lt8+else-code-lt10 w ↦ inr (omega arith) ]))
