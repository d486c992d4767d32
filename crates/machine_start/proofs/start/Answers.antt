use Rattle.std.proofs.Common.{◌≤◌, arith}
use Rattle.std.proofs.lemmas.Grind.{common_steps}
use Rattle.machine_start.specs.StartLaws.{capacity-in}
use Rattle.machine_start.proofs.start.Goals as goal

pub build-requires : goal.build-requires
build-requires c =
    let some : 1 ≤ c.args.capacity = grind (arith, common_steps) in
    let most : c.args.capacity ≤ 16 = grind (arith, common_steps) in
    (most, omega (arith, c.machine_need.ensures, c.capacity_asked.ensures, capacity-in c.args.capacity some most))
