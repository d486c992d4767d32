use native.Mathlib.Omega.{arith}
use Prim.Native.Nat.{◌%◌}
use mathlib.Core.Path.{refl}
use Rattle.machine_marks.specs.Words.{shifted_one}
use Rattle.machine_marks.proofs.without.Goals as goal

pub returns : goal.returns
returns c = record { block = refl; low = refl; here = rw (shifted_one (c.args.u % 64) (omega arith)) refl }
