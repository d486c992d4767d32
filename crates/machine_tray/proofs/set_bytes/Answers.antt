use native.Mathlib.Omega.{arith}
use Rattle.machine_calls.specs.CallLaws.{standing-good}
use Rattle.machine_tray.proofs.set_bytes.Goals as goal

pub returns-then-mem-lt-RECORDS_AT : goal.returns-then-mem-lt-RECORDS_AT
returns-then-mem-lt-RECORDS_AT c = λ st. absurd (omega (arith, (standing-good c.args.mem.now st).0))
