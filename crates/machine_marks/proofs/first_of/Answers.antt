use native.Mathlib.Omega.{arith}
use Prim.Native.Nat.{◌+◌, ◌*◌}
use mathlib.Core.Path.{refl}
use lib.Count.{count_trailing_zeros, trailing_le}
use Rattle.machine_marks.specs.Held.{lowest-at}
use Rattle.machine_marks.proofs.first_of.Goals as goal

pub returns-then-m-eq0 : goal.returns-then-m-eq0
returns-then-m-eq0 c = (λ h. absurd (omega arith), λ h. c.if-m-eq0.true)

pub overflow_cast-result : goal.overflow_cast-result
overflow_cast-result c = omega (arith, trailing_le 64 c.args.m.here)

pub overflow_add-result : goal.overflow_add-result
overflow_add-result c = omega (arith, trailing_le 64 c.args.m.here)

pub returns : goal.returns
returns c =
    let there = lowest-at c.args.m (64 * c.args.m.block + count_trailing_zeros 64 c.args.m.here) c.if-m-eq0.false (omega arith) refl in
    (λ h. there, λ h. absurd (omega (arith, there.block)))
