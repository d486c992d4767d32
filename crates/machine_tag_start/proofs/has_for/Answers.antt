use native.Mathlib.Omega.{arith}
use mathlib.Core.Path.{◌≡◌, sym, ◌∙◌, ap}
use mathlib.Core.Bool.{true, false, not}
use Prim.Native.Nat.{ℕ, ◌+◌, ◌-◌}
use lib.Dec.{eqb}
use borrow.Author.Tests.{eq-eqb, ne_eqb}
use Rattle.formula.specs.Results.{Check}
use Rattle.formula.specs.Sheet.{row_count, fields_of, number_in}
use Rattle.formula.specs.Tests.{is-passed}
use Rattle.formula.proofs.TestLaws.{starts, goes_on, stops, ends}
use Rattle.machine_tag_start.specs.TagStart.{for_kind, not_for, has_for}
use Rattle.machine_tag_start.specs.TagStartLaws.{kind-written}
use Rattle.machine_tag_start.proofs.has_for.Goals as goal

pub loop-i-init : goal.loop-i-init
loop-i-init c = starts (row_count c.args.sheet.now) 0 (not_for (fields_of c.args.sheet.now))

pub returns-then-unwrap_or-eq-FOR : goal.returns-then-unwrap_or-eq-FOR
unfolding has_for
returns-then-unwrap_or-eq-FOR c =
    let s = c.args.sheet.now in
    let w = not_for (fields_of s) in
    let k = kind-written s c.loop-i.i (omega arith) ∙ sym (c.unwrap_or.ensures ∙ ap number_in c.field_in.ensures) in
    let e : w (c.loop-i.i + 1) ≡ false = ap (λ (b : ℕ). not (eqb b for_kind)) k ∙ ap not (eq-eqb c.unwrap_or.result for_kind c.if-unwrap_or-eq-FOR.true) in
    ap (λ (x : Check). not (is-passed x)) (sym (stops (row_count s) c.loop-i.i w c.loop-i-test.true e) ∙ c.loop-i.invariant)

pub loop-i-preserved : goal.loop-i-preserved
loop-i-preserved c =
    let s = c.args.sheet.now in
    let w = not_for (fields_of s) in
    let k = kind-written s c.loop-i.i (omega arith) ∙ sym (c.unwrap_or.ensures ∙ ap number_in c.field_in.ensures) in
    let e : w (c.loop-i.i + 1) ≡ true = ap (λ (b : ℕ). not (eqb b for_kind)) k ∙ ap not (ne_eqb c.unwrap_or.result for_kind c.if-unwrap_or-eq-FOR.false) in
    goes_on (row_count s) c.loop-i.i w c.loop-i-test.true e ∙ c.loop-i.invariant

pub returns : goal.returns
unfolding has_for
returns c =
    let s = c.args.sheet.now in
    ap (λ (x : Check). not (is-passed x)) (sym (ends (row_count s) c.loop-i.i (not_for (fields_of s)) (omega arith)) ∙ c.loop-i.invariant)
