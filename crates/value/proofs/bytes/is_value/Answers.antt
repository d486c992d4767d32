use native.Mathlib.Omega.{arith}
use mathlib.Core.Path.{◌∙◌}
use Rattle.value.proofs.Words.{whole-valid, truth-valid, err-valid, float-valid, tag-valid}
use Rattle.value.proofs.bytes.is_value.Goals as goal

pub returns-in-1 : goal.returns-in-1
returns-in-1 c = whole-valid c.args.w c.in-1.is

pub returns-in-2 : goal.returns-in-2
returns-in-2 c = truth-valid c.args.w c.in-2.is

pub returns-in-3 : goal.returns-in-3
returns-in-3 c = err-valid c.args.w c.in-3.is

pub returns-in-4 : goal.returns-in-4
returns-in-4 c = c.is_pattern.ensures ∙ float-valid c.args.w c.in-4.is

pub returns-in_default : goal.returns-in_default
returns-in_default c = tag-valid c.args.w (λ e. omega arith) (λ e. omega arith) (λ e. omega arith) (λ e. omega arith)
