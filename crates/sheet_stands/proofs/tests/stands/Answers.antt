use Prim.Native.Nat.{◌-◌, ◌<◌, ◌^◌}
use mathlib.Core.Path.{◌≡◌, sym, ◌∙◌}
use mathlib.Core.Bool.{true, false≢true}
use native.Mathlib.Omega.{arith}
use lib.ListN.{replicate}
use Rattle.sheet_listed.specs.Search.{stands_at}
use Rattle.sheet_tables.proofs.WidthLaws.{well-bounds}
use Rattle.sheet_stands.proofs.FrontLaws.{front_less}
use Rattle.sheet_stands.proofs.StandLaws.{zeros-at, ranged, names-wrongly, all-name-well, between, width-told, mask-told, names-again, too_wide, bound-decides, front-more}
use Rattle.sheet_stands.proofs.tests.stands.Goals as goal

pub returns-then-not-names_well : goal.returns-then-not-names_well
returns-then-not-names_well c = (names-wrongly c.args.t.now c.args.widths.now c.args.masks.now c.args.r c.requires.1 c.requires.3 c.requires.4 c.shape_at-s.result c.shape_at-s.ensures (sym c.names_well.ensures ∙ c.if-not-names_well.true), λ z. absurd (false≢true z), c.requires.4)

pub names_once-requires : goal.names_once-requires
names_once-requires c = (c.requires.0, c.requires.1, c.requires.2, all-name-well c.args.t.now c.args.widths.now c.args.masks.now c.args.r c.requires.1 c.requires.3 c.requires.4 c.shape_at-s.result c.shape_at-s.ensures (sym c.names_well.ensures ∙ c.if-not-names_well.false))

pub returns-then-not-names_once : goal.returns-then-not-names_once
returns-then-not-names_once c = (names-again c.args.t.now c.args.widths.now c.args.masks.now c.args.r c.requires.1 c.requires.3 c.requires.4 c.shape_at-s.result c.shape_at-s.ensures (sym c.names_well.ensures ∙ c.if-not-names_well.false) (sym c.names_once.ensures ∙ c.if-not-names_once.true), λ z. absurd (false≢true z), c.requires.4)

pub widths_of-w-requires : goal.widths_of-w-requires
widths_of-w-requires c = (between c.args.t.now c.args.widths.now c.args.masks.now c.args.r c.requires.1 c.requires.3 c.requires.4 c.shape_at-s.result c.shape_at-s.ensures (sym c.names_well.ensures ∙ c.if-not-names_well.false), omega (arith, c.requires.4.widths-size), omega (arith, c.requires.2))

pub returns-then-not-widths_well : goal.returns-then-not-widths_well
returns-then-not-widths_well c = (too_wide c.args.t.now c.args.widths.now c.args.masks.now c.args.r c.requires.1 c.requires.3 c.requires.4 c.shape_at-s.result c.shape_at-s.ensures (sym c.names_well.ensures ∙ c.if-not-names_well.false) (replicate 5 0) (zeros-at 5) c.widths_of-w.result c.widths_of-w.ensures (sym c.names_once.ensures ∙ c.if-not-names_once.false) (sym c.widths_well.ensures ∙ c.if-not-widths_well.true), λ z. absurd (false≢true z), c.requires.4)

pub bound_well-requires : goal.bound_well-requires
bound_well-requires c = (between c.args.t.now c.args.widths.now c.args.masks.now c.args.r c.requires.1 c.requires.3 c.requires.4 c.shape_at-s.result c.shape_at-s.ensures (sym c.names_well.ensures ∙ c.if-not-names_well.false), ranged c.args.t.now c.args.widths.now c.args.masks.now c.args.r c.requires.1 c.requires.3 c.requires.4 c.shape_at-s.result c.shape_at-s.ensures, omega (arith, c.requires.4.masks-size))

pub returns-then-not-bound_well : goal.returns-then-not-bound_well
returns-then-not-bound_well c = (sym (c.if-not-bound_well.true) ∙ c.bound_well.ensures ∙ bound-decides c.args.t.now c.args.widths.now c.args.masks.now c.args.r c.requires.1 c.requires.3 c.requires.4 c.shape_at-s.result c.shape_at-s.ensures (sym c.names_well.ensures ∙ c.if-not-names_well.false) (replicate 5 0) (zeros-at 5) c.widths_of-w.result c.widths_of-w.ensures (sym c.names_once.ensures ∙ c.if-not-names_once.false) (sym c.widths_well.ensures ∙ c.if-not-widths_well.false), λ z. absurd (false≢true z), c.requires.4)

pub overflow_cast-widths : goal.overflow_cast-widths
overflow_cast-widths c =
    let h = well-bounds c.widths_of-w.result (sym c.widths_well.ensures ∙ c.if-not-widths_well.false) in
    let k : c.widths_of-w.result.returned < 2 ^ 8 = omega arith in
    record { fits = k }

pub bounds-widths-r : goal.bounds-widths-r
bounds-widths-r c = omega (arith, c.requires.4.widths-size)

pub plain_mask-requires : goal.plain_mask-requires
plain_mask-requires c = (between c.args.t.now c.args.widths.now c.args.masks.now c.args.r c.requires.1 c.requires.3 c.requires.4 c.shape_at-s.result c.shape_at-s.ensures (sym c.names_well.ensures ∙ c.if-not-names_well.false), ranged c.args.t.now c.args.widths.now c.args.masks.now c.args.r c.requires.1 c.requires.3 c.requires.4 c.shape_at-s.result c.shape_at-s.ensures, omega (arith, c.requires.4.masks-size))

pub bounds-masks-r : goal.bounds-masks-r
bounds-masks-r c = omega (arith, c.requires.4.masks-size)

pub returns : goal.returns
returns c =
    let stood : stands_at c.args.t.now c.args.r ≡ true = sym (c.bound_well.ensures ∙ bound-decides c.args.t.now c.args.widths.now c.args.masks.now c.args.r c.requires.1 c.requires.3 c.requires.4 c.shape_at-s.result c.shape_at-s.ensures (sym c.names_well.ensures ∙ c.if-not-names_well.false) (replicate 5 0) (zeros-at 5) c.widths_of-w.result c.widths_of-w.ensures (sym c.names_once.ensures ∙ c.if-not-names_once.false) (sym c.widths_well.ensures ∙ c.if-not-widths_well.false)) ∙ (c.if-not-bound_well.false) in
    let more = front-more c.args.t.now c.args.widths.now c.args.masks.now c.args.r c.requires.1 c.requires.3 c.requires.4 c.shape_at-s.result c.shape_at-s.ensures stood c.requires.2 c.widths_of-w.result.returned c.plain_mask.result (width-told c.args.t.now c.args.widths.now c.args.masks.now c.args.r c.requires.1 c.requires.3 c.requires.4 c.shape_at-s.result c.shape_at-s.ensures (sym c.names_well.ensures ∙ c.if-not-names_well.false) (replicate 5 0) (zeros-at 5) c.widths_of-w.result c.widths_of-w.ensures) (c.plain_mask.ensures ∙ mask-told c.args.t.now c.args.widths.now c.args.masks.now c.args.r c.requires.1 c.requires.3 c.requires.4 c.shape_at-s.result c.shape_at-s.ensures (sym c.names_well.ensures ∙ c.if-not-names_well.false)) in
    (sym stood, λ z. more, front_less c.args.t.now _ _ c.args.r (c.args.r - 1) (omega arith) more)
