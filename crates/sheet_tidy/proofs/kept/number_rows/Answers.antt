use mathlib.Core.Path.{sym, ◌∙◌, ap, refl, subst, ◌≡◌}
use native.Mathlib.Omega.{arith}
use Prim.Native.Nat.{ℕ, ◌+◌, ◌-◌}
use lib.ListN.{length, length-set}
use Rattle.sheet_tables.specs.Nodes.{Holds}
use Rattle.sheet_tables.proofs.NodeLaws.{holds-none, holds_more}
use Rattle.sheet_tidied.specs.Tidy.{new_number}
use Rattle.sheet_tidy.proofs.KeptLaws.{number-kept, number-left}
use Rattle.sheet_tidied.proofs.NumberLaws.{number-most}
use Rattle.sheet_tidy.proofs.kept.number_rows.Goals as goal
use Rattle.sheet_tidy.proofs.kept.number_rows.Goals.{then-stays, else-stays}

pub loop-i-init : goal.loop-i-init
unfolding new_number
loop-i-init c = (omega arith, refl, holds-none 0 c.args.numbers.now 0 (new_number c.args.kept.now), c.requires.1)

pub overflow_add-count : goal.overflow_add-count
overflow_add-count c = let l = number-most c.args.kept.now c.loop-i.i in omega (arith, c.requires.0)

pub loop-i-preserved : goal.loop-i-preserved
loop-i-preserved c =
    let next : c.if-stays.count ≡ new_number c.args.kept.now (c.loop-i.i + 1) =
    elim c.if-stays.branch [
      | then-stays w ↦ w.count-is ∙ ap (λ (x : ℕ). x + 1) c.loop-i.invariant.1 ∙ sym (number-kept c.args.kept.now c.loop-i.i w.if-stays.true)
      | else-stays w ↦ w.count-is ∙ c.loop-i.invariant.1 ∙ sym (number-left c.args.kept.now c.loop-i.i w.if-stays.false)
    ] in
    (omega arith, next, holds_more 0 c.loop-i.numbers c.loop-i.i (new_number c.args.kept.now) c.if-stays.count c.loop-i.invariant.2 (omega arith) next, length-set c.loop-i.numbers c.loop-i.i c.if-stays.count ∙ c.loop-i.invariant.3)

pub returns : goal.returns
returns c =
    let e : c.loop-i.i ≡ length c.args.kept.now = omega arith in
    (c.loop-i.invariant.1 ∙ ap (new_number c.args.kept.now) e, subst (λ (j : ℕ). Holds 0 c.loop-i.numbers j (new_number c.args.kept.now)) e c.loop-i.invariant.2)
