use native.Mathlib.Omega.{arith}
use mathlib.Core.Path.{refl, sym, ◌∙◌}
use Rattle.value.specs.Bytes.{word_of}
use Rattle.value.specs.Operators.{real_of}
use Rattle.value.proofs.Floats.{finite_real, bits_below}
use Rattle.value.proofs.Words.{real-word-is}
use Rattle.value.proofs.bytes.real_word.Goals as goal

pub overflow_mul-result : goal.overflow_mul-result
overflow_mul-result c = record { fits = omega (arith, c.from.ensures, bits_below c.args.x c.well_formed.0.1) }

pub overflow_add-result : goal.overflow_add-result
overflow_add-result c = record { fits = omega (arith, c.from.ensures, bits_below c.args.x c.well_formed.0.1) }

pub returns-then-is_finite : goal.returns-then-is_finite
returns-then-is_finite c = rw c.from.ensures (sym (real-word-is c.args.x (finite_real c.args.x c.well_formed.0.1 ∙ sym c.is_finite.ensures.value ∙ c.if-is_finite.true)))

pub returns-else-is_finite : goal.returns-else-is_finite
unfolding word_of real_of
returns-else-is_finite c = rw (finite_real c.args.x c.well_formed.0.1 ∙ sym c.is_finite.ensures.value ∙ c.if-is_finite.false) refl
