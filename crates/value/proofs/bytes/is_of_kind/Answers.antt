use native.Mathlib.Omega.{arith}
use mathlib.Core.Path.{sym, ap, ◌∙◌}
use Rattle.value.specs.Bytes.{is_some}
use Rattle.value.specs.Kinds.{of_kind}
use Rattle.value.proofs.Words.{tag_one, tag-two, tag-four, err-of-kind, tag-of-kind}
use Rattle.value.proofs.bytes.is_of_kind.Goals as goal

pub returns-in-1 : goal.returns-in-1
returns-in-1 c = c.whole_in.ensures ∙ ap (λ o. is_some (of_kind c.args.letter o)) (sym (tag_one c.args.w c.in-1.is))

pub returns-in-2 : goal.returns-in-2
returns-in-2 c = c.truth_in.ensures ∙ ap (λ o. is_some (of_kind c.args.letter o)) (sym (tag-two c.args.w c.in-2.is))

pub returns-in-3 : goal.returns-in-3
returns-in-3 c = err-of-kind c.args.w c.args.letter c.in-3.is

pub returns-in-4 : goal.returns-in-4
returns-in-4 c = c.real_in.ensures ∙ ap (λ o. is_some (of_kind c.args.letter o)) (sym (tag-four c.args.w c.in-4.is))

pub returns-in_default : goal.returns-in_default
returns-in_default c = tag-of-kind c.args.w c.args.letter (λ e. omega arith) (λ e. omega arith) (λ e. omega arith) (λ e. omega arith)
