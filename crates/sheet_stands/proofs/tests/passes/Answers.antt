use mathlib.Core.Path.{sym, ◌∙◌, ap, refl, subst}
use mathlib.Core.Bool.{Bool, false}
use mathlib.Core.List.{List}
use native.Mathlib.Omega.{arith}
use lib.ListN.{length, replicate}
use Rattle.formula.specs.Tests.{lowest, placed_well}
use Rattle.sheet_tables.specs.Ready.{Ready}
use Rattle.sheet_fields.proofs.TableLaws.{part_length, lent_length, whole_length, part-back, take-replicate}
use Rattle.sheet_read.proofs.ReadLaws.{ready}
use Rattle.sheet_stands.specs.Tests.{tables_pass}
use Rattle.sheet_stands.proofs.TestLaws.{is-well, passes-by}
use Rattle.sheet_stands.proofs.tests.passes.Goals as goal

pub returns-then-not-is_ok : goal.returns-then-not-is_ok
returns-then-not-is_ok c = rw (passes-by c.args.t.now c.args.n, sym c.test_named.ensures, sym c.is_ok.ensures.value, c.if-not-is_ok.true) refl

pub slice_bounds-find_places-end : goal.slice_bounds-find_places-end
slice_bounds-find_places-end c = part_length c.args.n 5 c.requires.2 (replicate 5 false) refl

pub find_places-requires : goal.find_places-requires
find_places-requires c = (c.requires.0, take-replicate c.args.n 5 false c.requires.2, c.requires.4)

pub slice_bounds-places-end-2 : goal.slice_bounds-places-end-2
slice_bounds-places-end-2 c = let e = whole_length c.args.n 5 c.requires.2 (replicate 5 false) refl c.find_places.new.places c.find_places.auto.places in omega (arith, e, c.requires.2)

pub slice_bounds-test_places-end : goal.slice_bounds-test_places-end
slice_bounds-test_places-end c = sym (ap length (part-back c.args.n 5 c.requires.2 (replicate 5 false) refl c.find_places.new.places c.find_places.auto.places) ∙ lent_length c.args.n 5 c.requires.2 (replicate 5 false) refl c.find_places.new.places c.find_places.auto.places)

pub test_places-requires : goal.test_places-requires
test_places-requires c = (c.requires.0, ap length (part-back c.args.n 5 c.requires.2 (replicate 5 false) refl c.find_places.new.places c.find_places.auto.places) ∙ lent_length c.args.n 5 c.requires.2 (replicate 5 false) refl c.find_places.new.places c.find_places.auto.places)

pub returns-then-not-is_ok-2 : goal.returns-then-not-is_ok-2
returns-then-not-is_ok-2 c =
    let p = part-back c.args.n 5 c.requires.2 (replicate 5 false) refl c.find_places.new.places c.find_places.auto.places ∙ c.find_places.ensures in
    let w = c.test_places.ensures ∙ ap (λ (x : List Bool). lowest c.args.n (placed_well c.args.t.now x)) p in
    rw (passes-by c.args.t.now c.args.n, sym c.test_named.ensures, sym c.is_ok.ensures.value, c.if-not-is_ok.false, sym w, sym c.is_ok-2.ensures.value, c.if-not-is_ok-2.true) refl

pub slice_bounds-places-end-3 : goal.slice_bounds-places-end-3
slice_bounds-places-end-3 c = let e = whole_length c.args.n 5 c.requires.2 (replicate 5 false) refl c.find_places.new.places c.find_places.auto.places in omega (arith, e, c.requires.2)

pub slice_bounds-tables_pass-end : goal.slice_bounds-tables_pass-end
slice_bounds-tables_pass-end c = sym (ap length (part-back c.args.n 5 c.requires.2 (replicate 5 false) refl c.find_places.new.places c.find_places.auto.places) ∙ lent_length c.args.n 5 c.requires.2 (replicate 5 false) refl c.find_places.new.places c.find_places.auto.places)

pub tables_pass-requires : goal.tables_pass-requires
tables_pass-requires c =
    let p = part-back c.args.n 5 c.requires.2 (replicate 5 false) refl c.find_places.new.places c.find_places.auto.places ∙ c.find_places.ensures in
    let w = c.test_places.ensures ∙ ap (λ (x : List Bool). lowest c.args.n (placed_well c.args.t.now x)) p in (
      subst (λ (x : List Bool). Ready c.args.t.now c.args.n x) (sym p)
          (ready c.args.t.now c.args.n c.requires.0 c.requires.3 c.requires.4
          (sym c.test_named.ensures ∙ is-well c.test_named.result (sym c.is_ok.ensures.value ∙ c.if-not-is_ok.false))
          (sym w ∙ is-well c.test_places.result (sym c.is_ok-2.ensures.value ∙ c.if-not-is_ok-2.false))),
      c.requires.2,
    )

pub returns : goal.returns
returns c =
    let p = part-back c.args.n 5 c.requires.2 (replicate 5 false) refl c.find_places.new.places c.find_places.auto.places ∙ c.find_places.ensures in
    let w = c.test_places.ensures ∙ ap (λ (x : List Bool). lowest c.args.n (placed_well c.args.t.now x)) p in
    rw (passes-by c.args.t.now c.args.n, sym c.test_named.ensures, sym c.is_ok.ensures.value, c.if-not-is_ok.false, sym w, sym c.is_ok-2.ensures.value, c.if-not-is_ok-2.false)
    (c.tables_pass.ensures ∙ ap (λ (x : List Bool). tables_pass c.args.t.now c.args.n x) p)
