use Prim.Native.Nat.{ℕ, ◌+◌, ◌*◌, ◌-◌}
use mathlib.Core.Path.{◌≡◌, refl, sym, ap, subst, ◌∙◌}
use mathlib.Core.Bool.{Bool}
use native.Mathlib.Omega.{arith}
use lib.ListN.{take}
use borrow.Author.Tests.{not-true, not-false}
use Rattle.std.specs.Prelude.{Ok}
use Rattle.formula.specs.Tests.{lowest, ranges_well, names_well}
use Rattle.sheet_listed.proofs.SearchLaws.{search-end}
use Rattle.sheet_stands.specs.Fronts.{rows_to, Front}
use Rattle.sheet_stands.proofs.FrontLaws.{agree_less, front_less}
use Rattle.sheet_next.specs.Found.{found}
use Rattle.sheet_next.proofs.RowsLaws.{rows_written}
use Rattle.sheet_next.proofs.StepLaws.{part-size, part-content, part-front, whole-front, fallen, inner, front-ranged, front-names, last_row, laid-content, laid-stays, laid-size, laid-front, laid-search, step-found, step-none}
use Rattle.sheet_next.proofs.search.+completes_first_from.Goals as goal

--   completes-lts if1  let end = FIELDS * r; ⏎ if !stands(&t[..end], r, widths, masks) {

--   completes-lts if2  } ⏎ if r == n {

--   first-from-lts if1  put_content(t, r, k); ⏎ if completes(t, widths, masks, n, r) {

pub completes-slice_bounds-stands-end : goal.completes-slice_bounds-stands-end
completes-slice_bounds-stands-end t c = (omega (arith, c.requires.3, c.requires.1, c.requires.2))

pub completes-slice_bounds-stands-end-2 : goal.completes-slice_bounds-stands-end-2
completes-slice_bounds-stands-end-2 t c = sym (part-size c.args.t.now c.args.r c.requires.0 (omega (arith, c.requires.3, c.requires.1, c.requires.2)))

pub completes-stands-requires : goal.completes-stands-requires
completes-stands-requires t c = (part-size c.args.t.now c.args.r c.requires.0 (omega (arith, c.requires.3, c.requires.1, c.requires.2)), c.requires.0, omega (arith, c.requires.1, c.requires.2), part-content c.args.t.now c.args.r c.requires.0 (omega (arith, c.requires.3, c.requires.1, c.requires.2)) c.requires.4, part-front c.args.t.now c.args.r c.requires.0 (omega (arith, c.requires.3, c.requires.1, c.requires.2)) c.args.widths.now c.args.masks.now c.requires.5)

pub completes-returns-then-not-stands : goal.completes-returns-then-not-stands
completes-returns-then-not-stands t c = (fallen c.args.t.now c.args.widths.now c.args.masks.now c.args.n c.args.r c.requires.0 c.requires.1 c.requires.2 c.requires.3 c.requires.4 c.requires.5 (sym c.stands.ensures.0 ∙ c.if-not-stands.true), λ i l. refl, whole-front c.args.t.now c.args.r c.requires.0 (omega (arith, c.requires.3, c.requires.1, c.requires.2)) _ _ (c.args.r - 1) (omega arith) c.stands.ensures.2)

pub completes-slice_bounds-passes-end : goal.completes-slice_bounds-passes-end
completes-slice_bounds-passes-end t c = (omega (arith, c.requires.3, c.requires.1, c.requires.2))

pub completes-slice_bounds-passes-end-then-r-n : goal.completes-slice_bounds-passes-end-then-r-n
completes-slice_bounds-passes-end-then-r-n t c = sym (part-size c.args.t.now c.args.r c.requires.0 (omega (arith, c.requires.3, c.requires.1, c.requires.2)))

pub completes-passes-requires : goal.completes-passes-requires
completes-passes-requires t c = (
  part-size c.args.t.now c.args.r c.requires.0 (omega (arith, c.requires.3, c.requires.1, c.requires.2)) ∙ ap (λ (i : ℕ). 5 * i) c.if-r-n.true,
  omega (arith, c.requires.0, c.requires.1),
  c.requires.2,
  subst (λ (i : ℕ). lowest i (ranges_well (take (5 * c.args.r) c.args.t.now)) ≡ Ok tt) c.if-r-n.true (front-ranged (take (5 * c.args.r) c.args.t.now) _ _ c.args.r (c.stands.ensures.1 c.if-not-stands.false)),
  subst (λ (i : ℕ). lowest i (names_well (take (5 * c.args.r) c.args.t.now)) ≡ Ok tt) c.if-r-n.true (front-names (take (5 * c.args.r) c.args.t.now) _ _ c.args.r (c.stands.ensures.1 c.if-not-stands.false)),
)

pub completes-returns-then-r-n : goal.completes-returns-then-r-n
completes-returns-then-r-n t c = (last_row c.args.t.now _ _ c.args.n c.args.r c.requires.0 c.if-r-n.true c.requires.2 c.requires.3 (c.stands.ensures.1 c.if-not-stands.false) c.passes.result c.passes.ensures, λ i l. refl, whole-front c.args.t.now c.args.r c.requires.0 (omega (arith, c.requires.3, c.requires.1, c.requires.2)) _ _ (c.args.r - 1) (omega arith) c.stands.ensures.2)

pub completes-first_from-requires : goal.completes-first_from-requires
completes-first_from-requires t c =
    let e : c.args.r ≡ c.args.r + 1 - 1 = omega arith in
    (omega (arith, c.requires.0, c.requires.1, c.if-r-n.false), (omega arith, omega (arith, c.requires.1, c.if-r-n.false), c.requires.2, omega arith, c.requires.3, subst (λ (i : ℕ). Front c.args.t.now c.stands.new.widths c.stands.new.masks i) e (whole-front c.args.t.now c.args.r c.requires.0 (omega (arith, c.requires.3, c.requires.1, c.requires.2)) _ _ c.args.r (omega arith) (c.stands.ensures.1 c.if-not-stands.false))))

pub completes-returns : goal.completes-returns
completes-returns t c = (
  c.first_from.ensures.0 ∙ inner c.args.t.now c.args.widths.now c.args.masks.now c.args.n c.args.r c.requires.0 c.requires.1 c.requires.2 c.requires.3 (omega (arith, c.requires.1, c.if-r-n.false)),
  agree_less (c.args.r + 1 - 1) (c.args.r - 1) c.first_from.new.t c.args.t.now (omega arith) c.first_from.ensures.1,
  front_less c.first_from.new.t c.first_from.new.widths c.first_from.new.masks (c.args.r + 1 - 1) (c.args.r - 1) (omega arith) c.first_from.ensures.2,
)

pub first_from-loop-k-init : goal.first_from-loop-k-init
first_from-loop-k-init t c = (c.requires.3, c.requires.4, λ i l. refl, c.requires.5, refl)

pub first_from-put_content-requires : goal.first_from-put_content-requires
first_from-put_content-requires t c = (c.requires.0, omega (arith, c.loop-k.invariant.1, c.requires.1, c.requires.2), c.loop-k-test.true)

pub first_from-completes-requires : goal.first_from-completes-requires
first_from-completes-requires t c = (omega (arith, c.requires.0), (c.requires.0, c.requires.1, c.requires.2, laid-size c.loop-k.t c.put_content.new.t c.args.r c.loop-k.k c.requires.0 (omega (arith, c.requires.1, c.requires.2)) c.loop-k-test.true c.loop-k.invariant.1 c.put_content.ensures, laid-content c.loop-k.t c.put_content.new.t c.args.r c.loop-k.k c.requires.0 (omega (arith, c.requires.1, c.requires.2)) c.loop-k-test.true c.loop-k.invariant.1 c.put_content.ensures, laid-front c.loop-k.t c.put_content.new.t c.args.r c.loop-k.k c.requires.0 (omega (arith, c.requires.1, c.requires.2)) c.loop-k-test.true c.loop-k.invariant.1 c.put_content.ensures _ _ c.loop-k.invariant.3))

pub first_from-returns-then-completes : goal.first_from-returns-then-completes
first_from-returns-then-completes t c = (
  step-found (rows_to (c.args.r - 1) c.args.t.now) c.loop-k.k (c.args.n - c.args.r) c.loop-k-test.true (rows_to c.args.n c.completes.new.t) (ap (λ (b : Bool). found b (rows_to c.args.n c.completes.new.t)) (sym c.if-completes.true) ∙ c.completes.ensures.0 ∙ laid-search c.loop-k.t c.put_content.new.t c.args.r c.loop-k.k c.requires.0 (omega (arith, c.requires.1, c.requires.2)) c.loop-k-test.true c.loop-k.invariant.1 c.put_content.ensures c.args.t.now c.loop-k.invariant.2 (c.args.n - c.args.r)) ∙ c.loop-k.invariant.4,
  laid-stays c.loop-k.t c.put_content.new.t c.args.r c.loop-k.k c.requires.0 (omega (arith, c.requires.1, c.requires.2)) c.loop-k-test.true c.loop-k.invariant.1 c.put_content.ensures c.completes.new.t c.args.t.now c.completes.ensures.1 c.loop-k.invariant.2,
  c.completes.ensures.2,
)

pub first_from-loop-k-preserved : goal.first_from-loop-k-preserved
first_from-loop-k-preserved t c = (
  omega arith,
  c.completes.auto.t ∙ laid-size c.loop-k.t c.put_content.new.t c.args.r c.loop-k.k c.requires.0 (omega (arith, c.requires.1, c.requires.2)) c.loop-k-test.true c.loop-k.invariant.1 c.put_content.ensures,
  laid-stays c.loop-k.t c.put_content.new.t c.args.r c.loop-k.k c.requires.0 (omega (arith, c.requires.1, c.requires.2)) c.loop-k-test.true c.loop-k.invariant.1 c.put_content.ensures c.completes.new.t c.args.t.now c.completes.ensures.1 c.loop-k.invariant.2,
  c.completes.ensures.2,
  step-none (rows_to (c.args.r - 1) c.args.t.now) c.loop-k.k (c.args.n - c.args.r) c.loop-k-test.true (ap (λ (b : Bool). found b (rows_to c.args.n c.completes.new.t)) (sym c.if-completes.false) ∙ c.completes.ensures.0 ∙ laid-search c.loop-k.t c.put_content.new.t c.args.r c.loop-k.k c.requires.0 (omega (arith, c.requires.1, c.requires.2)) c.loop-k-test.true c.loop-k.invariant.1 c.put_content.ensures c.args.t.now c.loop-k.invariant.2 (c.args.n - c.args.r)) ∙ c.loop-k.invariant.4,
)

pub first_from-returns : goal.first_from-returns
first_from-returns t c = (sym (search-end (rows_to (c.args.r - 1) c.args.t.now) (rows_written c.args.t.now (c.args.r - 1) c.requires.5.content) c.loop-k.k (c.args.n - c.args.r) (omega arith)) ∙ c.loop-k.invariant.4, c.loop-k.invariant.2, c.loop-k.invariant.3)
