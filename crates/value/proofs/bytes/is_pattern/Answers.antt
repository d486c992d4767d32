use borrow.Author.Tests.{le-ltb}
use mathlib.Core.Path.{sym, ap}
use Rattle.value.specs.Bytes.{is_some}
use Rattle.value.proofs.Words.{pattern-small, pattern-large}
use Rattle.value.proofs.bytes.is_pattern.Goals as goal

pub returns-then-bits-lt-PATTERNS : goal.returns-then-bits-lt-PATTERNS
returns-then-bits-lt-PATTERNS c = pattern-small c.args.bits c.if-bits-lt-PATTERNS.true

pub returns-else-bits-lt-PATTERNS : goal.returns-else-bits-lt-PATTERNS
returns-else-bits-lt-PATTERNS c = rw (le-ltb c.args.bits 4294967296 c.if-bits-lt-PATTERNS.false) (ap is_some (sym (pattern-large c.args.bits c.if-bits-lt-PATTERNS.false)))
