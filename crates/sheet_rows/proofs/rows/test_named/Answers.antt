use mathlib.Core.Path.{sym, ◌∙◌, ap, refl, ◌≡◌}
use native.Mathlib.Omega.{arith}
use Prim.Native.Nat.{◌-◌}
use lib.ListN.{length, take, get_or, replicate}
use lib.Dec.{eqb}
use Rattle.formula.specs.Tests.{lowest}
use Rattle.sheet_fields.proofs.TableLaws.{take-replicate, part_length, lent_length, whole_length, part-back}
use Rattle.sheet_rows.proofs.RowLaws.{tallied-once}
use Rattle.sheet_rows.proofs.rows.test_named.Goals as goal

pub slice_bounds-tally_all-end : goal.slice_bounds-tally_all-end
slice_bounds-tally_all-end c = part_length c.args.n 200 c.requires.2 (replicate 200 0) refl

pub tally_all-requires : goal.tally_all-requires
tally_all-requires c = (c.requires.0, sym (part_length c.args.n 200 c.requires.2 (replicate 200 0) refl), c.requires.3)

pub slice_bounds-named-end-2 : goal.slice_bounds-named-end-2
slice_bounds-named-end-2 c = let e = whole_length c.args.n 200 c.requires.2 (replicate 200 0) refl c.tally_all.new.times c.tally_all.auto.times in omega (arith, e, c.requires.2)

pub slice_bounds-first_unnamed-end : goal.slice_bounds-first_unnamed-end
slice_bounds-first_unnamed-end c =
    let l = c.tally_all.new.times in
    sym (ap length (part-back c.args.n 200 c.requires.2 (replicate 200 0) refl l c.tally_all.auto.times) ∙ lent_length c.args.n 200 c.requires.2 (replicate 200 0) refl l c.tally_all.auto.times)

pub first_unnamed-requires : goal.first_unnamed-requires
first_unnamed-requires c =
    let l = c.tally_all.new.times in
    let e = ap length (part-back c.args.n 200 c.requires.2 (replicate 200 0) refl l c.tally_all.auto.times) ∙ lent_length c.args.n 200 c.requires.2 (replicate 200 0) refl l c.tally_all.auto.times in
    omega (arith, e)

pub returns : goal.returns
returns c =
    let l = c.tally_all.new.times in
    let b = part-back c.args.n 200 c.requires.2 (replicate 200 0) refl l c.tally_all.auto.times in
    let z : take c.args.n (replicate 200 0) ≡ replicate c.args.n 0 = take-replicate c.args.n 200 0 c.requires.2 in
    c.first_unnamed.ensures
    ∙ ap (λ x. lowest (c.args.n - 1) (λ k. eqb (get_or x (k - 1) 0) 1)) (b ∙ c.tally_all.ensures)
    ∙ tallied-once c.args.fields.now (take c.args.n (replicate 200 0)) c.args.n c.requires.3 z
