use mathlib.Core.Path.{◌∙◌, ap, sym}
use mathlib.Core.Bool.{true}
use Prim.Native.Nat.{ℕ}
use Rattle.formula.specs.Tree.{exp_of}
use Rattle.formula.specs.Faults.{line_well}
use Rattle.eval_words.specs.Inputs.{inputs_in_lem}
use Rattle.formula.specs.declared.Refusal.TheVariants.{KindsBroken}
use Rattle.formula.specs.Tests.{after_check}
use Rattle.std.specs.Prelude.{Ok}
use Rattle.sheet_read.proofs.ReadLaws.{fault-line, kinds-end}
use Rattle.sheet_read.proofs.read.kind_tests.Goals as goal

pub returns-then-not-kinds_line : goal.returns-then-not-kinds_line
returns-then-not-kinds_line c = fault-line c.args.fields.now c.args.n c.args.line.now c.inputs_in.result (c.inputs_in.ensures.0 ∙ inputs_in_lem (exp_of c.args.fields.now c.args.n) c.args.free c.requires.1) (sym c.kinds_line.ensures ∙ c.if-not-kinds_line.true)

pub test_kinds-requires : goal.test_kinds-requires
test_kinds-requires c = (c.requires.0, c.requires.1, ap (λ (k : ℕ). line_well k c.args.line.now) (sym (c.inputs_in.ensures.0 ∙ inputs_in_lem (exp_of c.args.fields.now c.args.n) c.args.free c.requires.1)) ∙ sym c.kinds_line.ensures ∙ c.if-not-kinds_line.false)

pub returns-in-Ok : goal.returns-in-Ok
unfolding after_check
returns-in-Ok c = ap (λ x. after_check KindsBroken x (Ok tt)) (sym c.in-Ok.is ∙ c.test_kinds.ensures) ∙ kinds-end c.args.fields.now c.args.n c.args.line.now c.inputs_in.result (c.inputs_in.ensures.0 ∙ inputs_in_lem (exp_of c.args.fields.now c.args.n) c.args.free c.requires.1) (sym c.kinds_line.ensures ∙ c.if-not-kinds_line.false)

pub returns-in-Err : goal.returns-in-Err
unfolding after_check
returns-in-Err c = ap (λ x. after_check KindsBroken x (Ok tt)) (sym c.in-Err.is ∙ c.test_kinds.ensures) ∙ kinds-end c.args.fields.now c.args.n c.args.line.now c.inputs_in.result (c.inputs_in.ensures.0 ∙ inputs_in_lem (exp_of c.args.fields.now c.args.n) c.args.free c.requires.1) (sym c.kinds_line.ensures ∙ c.if-not-kinds_line.false)
