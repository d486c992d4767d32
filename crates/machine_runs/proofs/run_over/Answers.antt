use native.Mathlib.Omega.{arith}
use Rattle.machine_runs.proofs.run_over.Goals as goal

pub run_marked-requires : goal.run_marked-requires
run_marked-requires c = (omega arith, omega arith, omega arith, c.fill_users.ensures.1 c.if-fill_users.true)
