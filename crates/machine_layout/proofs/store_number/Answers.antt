use mathlib.Core.Path.{◌≡◌, refl}
use Prim.Native.Nat.{◌/◌, ◌%◌}
use lib.ListN.{length-set}
use Rattle.machine_layout.specs.Layout.{stored16}
use native.Mathlib.Omega.{arith}
use Rattle.machine_layout.proofs.store_number.Goals as goal

pub bounds-mem-at-2 : goal.bounds-mem-at-2
bounds-mem-at-2 c = simp length-set (omega arith)

pub shape_of-mem : goal.shape_of-mem
shape_of-mem c = simp length-set

pub returns : goal.returns
unfolding stored16
returns c =
    let high : c.args.x / 256 % 256 ≡ c.args.x / 256 = omega arith in
    rw (c.to_le_bytes.ensures, high) refl
