use native.Mathlib.Omega.{arith}
use Prim.Native.Nat.{◌+◌, ◌-◌}
use mathlib.Core.Path.{◌≡◌}
use Rattle.machine_layout.specs.Layout.{inputs_of}
use Rattle.machine_firing.specs.Parts.{part_length}
use Rattle.machine_calls.proofs.is_set.Goals as goal

pub is_set-requires : goal.is_set-requires
is_set-requires c = omega (arith, part_length c.args.mem.now 106 c.inputs.result (omega (arith, c.requires, c.inputs.ensures)), c.requires, c.inputs.ensures)

pub returns : goal.returns
returns c =
    let k : 106 + c.inputs.result - 106 ≡ inputs_of c.args.mem.now = omega (arith, c.inputs.ensures.0) in
    (rw k at c.is_set.ensures)
