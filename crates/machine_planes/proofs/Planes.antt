-- Laws of specs/Planes.antt, and what only they need.
use Rattle.std.specs.Prelude.{◌+◌, ◌*◌, ◌≤◌}
use Rattle.std.proofs.Common.{arith}
use Rattle.machine_planes.specs.Planes.{tagged_need}

-- "the memory needed is at most what a machine may need at capacity 16": "at most 65,536 bytes at capacities 1 and 2 and 32,768 more for each place above 2"
pub tagged-fits : tagged_need ≤ 65536 + 32768 * 14
tagged-fits = omega arith
