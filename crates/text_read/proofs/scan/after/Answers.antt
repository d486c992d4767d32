use native.Mathlib.Omega.{arith}
use Prim.Native.Nat.{ℕ, ◌+◌}
use mir.Val.{bool_byte}
use mathlib.Core.Bool.{Bool, true, false}
use mathlib.Core.Path.{◌≡◌, refl}
use lib.Dec.{ltb}
use borrow.Author.Tests.{lt-ltb, le-ltb}
use Rattle.value.specs.Operators.{pick}
use Rattle.text.specs.Scan.{after}
use Rattle.text_read.proofs.scan.after.Goals as goal

counted : (l : ℕ) (b : Bool) → l + bool_byte b ≡ pick b (l + 1) l
counted l true = refl
counted l false = omega arith

pub returns-then-x-lt-LAST_COLUMN : goal.returns-then-x-lt-LAST_COLUMN
unfolding after
returns-then-x-lt-LAST_COLUMN c = rw (c.from.ensures, counted c.args.x.length (ltb c.args.x.length 6201), lt-ltb c.args.x.column 30 c.if-x-lt-LAST_COLUMN.true) refl

pub returns-then-x : goal.returns-then-x
unfolding after
returns-then-x c = rw (c.from.ensures, counted c.args.x.length (ltb c.args.x.length 6201), c.if-x.true, le-ltb c.args.x.column 30 c.if-x-lt-LAST_COLUMN.false) refl

pub returns-else-x : goal.returns-else-x
unfolding after
returns-else-x c = rw (c.from.ensures, counted c.args.x.length (ltb c.args.x.length 6201), c.if-x.false, le-ltb c.args.x.column 30 c.if-x-lt-LAST_COLUMN.false) refl
