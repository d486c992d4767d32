use mathlib.Core.Path.{◌≡◌, sym, ◌∙◌, ap, refl}
use native.Mathlib.Omega.{arith}
use Prim.Native.Nat.{ℕ}
use mathlib.Core.List.{List, ◌++◌}
use lib.ListN.{length, take, drop, replicate}
use Rattle.formula.specs.declared.Shape.{Shape}
use Rattle.formula.specs.Sheet.{named_in, shape_at}
use Rattle.sheet_fields.proofs.TableLaws.{part_length, lent_length, whole_length, part-back, take-replicate}
use Rattle.sheet_stands.specs.Tests.{all_once}
use Rattle.sheet_stands.proofs.TestLaws.{last-names, once-tallied}
use Rattle.sheet_stands.proofs.tests.names_once.Goals as goal

pub slice_bounds-tally_all-end : goal.slice_bounds-tally_all-end
slice_bounds-tally_all-end c = part_length c.args.r 5 c.requires.2 (replicate 5 0) refl

pub tally_all-requires : goal.tally_all-requires
tally_all-requires c = (c.requires.0, sym (part_length c.args.r 5 c.requires.2 (replicate 5 0) refl), c.requires.3)

pub slice_bounds-times-end-2 : goal.slice_bounds-times-end-2
slice_bounds-times-end-2 c = let e = whole_length c.args.r 5 c.requires.2 (replicate 5 0) refl c.tally_all.new.times c.tally_all.auto.times in omega (arith, e, c.requires.2)

pub slice_bounds-each_once-end : goal.slice_bounds-each_once-end
slice_bounds-each_once-end c = sym (ap length (part-back c.args.r 5 c.requires.2 (replicate 5 0) refl c.tally_all.new.times c.tally_all.auto.times) ∙ lent_length c.args.r 5 c.requires.2 (replicate 5 0) refl c.tally_all.new.times c.tally_all.auto.times)

pub each_once-requires : goal.each_once-requires
each_once-requires c =
    let e = ap length (part-back c.args.r 5 c.requires.2 (replicate 5 0) refl c.tally_all.new.times c.tally_all.auto.times) ∙ lent_length c.args.r 5 c.requires.2 (replicate 5 0) refl c.tally_all.new.times c.tally_all.auto.times in
    rw (c.shape_at.ensures, e) (last-names c.args.t.now c.args.r c.requires.1 c.requires.3)

pub returns : goal.returns
returns c =
    let z : ◌≡◌ {A = List ℕ} (take c.args.r (replicate 5 0)) (replicate c.args.r 0) = take-replicate c.args.r 5 0 c.requires.2 in
    c.each_once.ensures
    ∙ ap (λ (s : Shape). all_once (take c.args.r (c.tally_all.new.times ++ drop c.args.r (replicate 5 0))) (named_in s)) c.shape_at.ensures
    ∙ ap (λ (l : List ℕ). all_once l (named_in (shape_at c.args.t.now c.args.r))) (part-back c.args.r 5 c.requires.2 (replicate 5 0) refl c.tally_all.new.times c.tally_all.auto.times ∙ c.tally_all.ensures)
    ∙ once-tallied c.args.t.now (take c.args.r (replicate 5 0)) c.args.r c.requires.3 z (named_in (shape_at c.args.t.now c.args.r)) (last-names c.args.t.now c.args.r c.requires.1 c.requires.3)
