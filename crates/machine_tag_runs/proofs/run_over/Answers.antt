use native.Mathlib.Omega.{arith}
use Rattle.machine_tag_runs.proofs.run_over.Goals as goal

pub fill_users-requires : goal.fill_users-requires
fill_users-requires c = omega arith

pub run_marked-requires : goal.run_marked-requires
run_marked-requires c = (c.requires.0, c.requires.1, c.requires.2, c.requires.3, c.fill_users.ensures.1 c.if-fill_users.true)

pub shape_of-mem-then-fill_users : goal.shape_of-mem-then-fill_users
shape_of-mem-then-fill_users c = omega arith

pub shape_of-users-then-fill_users : goal.shape_of-users-then-fill_users
shape_of-users-then-fill_users c = omega arith

pub returns-then-fill_users : goal.returns-then-fill_users
returns-then-fill_users c = c.run_marked.ensures

pub run_plain-requires : goal.run_plain-requires
run_plain-requires c = (c.requires.0, c.requires.1)

pub shape_of-mem : goal.shape_of-mem
shape_of-mem c = omega arith

pub shape_of-users : goal.shape_of-users
shape_of-users c = omega arith

pub returns : goal.returns
returns c = c.run_plain.ensures
