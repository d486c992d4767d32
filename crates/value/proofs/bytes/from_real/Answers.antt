use mathlib.Core.Path.{sym, ap, ◌∙◌}
use Rattle.value.specs.Bytes.{decoded}
use Rattle.value.proofs.Floats.{no_nan}
use Rattle.value.proofs.Words.{pattern-some}
use Rattle.value.proofs.bytes.from_real.Goals as goal

pub overflow_cast-result : goal.overflow_cast-result
overflow_cast-result c = record { fits = (pattern-some c.args.bits (sym c.is_pattern.ensures ∙ c.if-is_pattern.true)).0 }

pub float_from_bits-result : goal.float_from_bits-result
float_from_bits-result c = rw (no_nan c.args.bits (pattern-some c.args.bits (sym c.is_pattern.ensures ∙ c.if-is_pattern.true)).1) tt

pub returns-then-is_pattern : goal.returns-then-is_pattern
returns-then-is_pattern c = ap decoded (sym (pattern-some c.args.bits (sym c.is_pattern.ensures ∙ c.if-is_pattern.true)).2)
