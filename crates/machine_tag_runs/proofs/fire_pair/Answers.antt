use native.Mathlib.Omega.{arith}
use Rattle.machine_tag_runs.proofs.fire_pair.Goals as goal

pub fire_at-requires : goal.fire_at-requires
fire_at-requires c = omega (arith, c.plane.ensures.0, c.plane.ensures.1)

pub shape_of-mem : goal.shape_of-mem
shape_of-mem c = omega arith

pub returns : goal.returns
returns c = rw (c.plane.ensures.0, c.plane.ensures.1) at c.fire_at.ensures
