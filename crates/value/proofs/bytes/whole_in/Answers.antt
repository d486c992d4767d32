use native.Mathlib.Omega.{arith}
use Rattle.value.proofs.Words.{whole-not-truth, whole-not-real, whole-of-kind}
use Rattle.value.proofs.bytes.whole_in.Goals as goal

pub returns-in-84 : goal.returns-in-84
returns-in-84 c = whole-not-truth c.args.letter c.args.bits c.in-84.is

pub returns-in-82 : goal.returns-in-82
returns-in-82 c = whole-not-real c.args.letter c.args.bits c.in-82.is

pub returns-in_default : goal.returns-in_default
returns-in_default c = whole-of-kind c.args.letter c.args.bits (λ e. omega arith) (λ e. omega arith)
