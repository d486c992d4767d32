use native.Mathlib.Omega.{arith}
use Rattle.value.proofs.ConstantWords.{whole-constant, truth-constant, float-constant, no-constant}
use Rattle.value.proofs.bytes.in_constant_range.Goals as goal

pub returns-in-1 : goal.returns-in-1
returns-in-1 c = whole-constant c.args.w c.in-1.is

pub returns-in-2 : goal.returns-in-2
returns-in-2 c = truth-constant c.args.w c.in-2.is

pub returns-in-4 : goal.returns-in-4
returns-in-4 c = float-constant c.args.w c.in-4.is

pub returns-in_default : goal.returns-in_default
returns-in_default c = no-constant c.args.w (λ e. omega arith) (λ e. omega arith) (λ e. omega arith)
