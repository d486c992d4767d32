use native.Mathlib.Omega.{arith}
use borrow.Author.Rules.{rules}
use Prim.Native.Nat.{ℕ, ◌+◌, ◌*◌, ◌-◌, ◌≤◌}
use mathlib.Core.Path.{refl, sym, ap, ap₂, ◌∙◌, subst}
use mathlib.Core.Bool.{Bool, true, false, cond, false≢true}
use lib.ListN.{length, get_or}
use lib.Bits.{bit_and, bit_or}
use Rattle.machine_layout.specs.Record.{placed}
use Rattle.formula.specs.Sheet.{shape_at, named_in}
use Rattle.sheet_tables.specs.Masks.{outside, plain_mask, Ranged}
use Rattle.formula.specs.declared.Shape.{Shape}
use Rattle.formula.specs.TreeLaws.{AllBetween}
use Rattle.maker_laid.specs.Nodes.{Ready, Ends, graph_in, at-identifier, at_constant, at-iter}
use Rattle.maker_laid.specs.Counts.{operator_count}
use Rattle.maker_laid.specs.Masked.{list_of, Mask}
use Rattle.formula.specs.declared.Way.TheVariants.{Let as let-way, If as if-way, Iter as iter-way, End}
use Rattle.maker_parts.specs.Room.{Room}
use Rattle.maker_parts.specs.Ranges.{mask-of-range}
use Rattle.maker_parts.specs.Parts.{Closed, Numbered}
use Rattle.maker_rows.specs.Rows.{Part}
use Rattle.maker_rows.proofs.Splits.{split-mask, split-fork, split-first, split-second, split-needs, fork-same, child-mask, child-alone, forked-long, arm-needs, arm-behind, arm-part}
use Rattle.maker_rows.proofs.Steps.{shaped-as, by_place, row_inside, pair-first, pair-second, pair-split, pair-part, let-first, let-second, let-low, let-split, let-part, end-split, end-part, end-constant-room, iter-child, iter-room, iter-part, return-ready, return-room, return-part, part-E, room-E, few-results, constant-part, constant-room, operator-child, operator-room, operator-needs, operator-part, plain-between, plain-ranged, plain-mask-is, as-expression}
use Rattle.maker_rows.proofs.Choosing.{if-test, if-first, if-second, if-split, room-first, room-between, room-joins, if-needs, if-part, arms-mask, arms-room}
use Rattle.maker_rows.proofs.Looping.{for-first, for-second, for-low, body-some, for-split, room-body, room-ring, for-part, body-read, room-start}
use Rattle.maker_rows.proofs.+arm_ended_fors_ifs_lets_pairs_plain_row.Goals as goal

--   row-lts if1  Way::Iter(a) => { ⏎ if place.body {

--   row-lts if2  Way::End => { ⏎ if place.body {

pub arm-store_operator-requires : goal.arm-store_operator-requires
arm-store_operator-requires t c = (c.requires.1, search rules)

pub arm-mask_at-requires : goal.arm-mask_at-requires
arm-mask_at-requires t c = (c.requires.0.ready.low, c.requires.0.in-masks)

pub arm-gated-g-requires : goal.arm-gated-g-requires
arm-gated-g-requires t c = let h = arm-needs c.args.tables.now.t.now c.args.tables.now.masks.now c.args.tables.now.widths.now c.args.place.body c.args.place.returned c.args.k c.requires.0 c.mask_at.result (c.args.next.link + 2) (c.args.next.operator + 1) _ c.mask_at.ensures c.requires.3 in (h.0, h.1, h.2, omega (arith, c.requires.4, c.mem-1.given))

pub arm-row-requires : goal.arm-row-requires
arm-row-requires t c = (omega (arith, (by_place c.args.place.body).1), (c.requires.0.ready, arm-behind c.args.tables.now.t.now c.args.tables.now.masks.now c.args.tables.now.widths.now c.args.place.body c.args.place.returned c.args.k c.requires.0 c.args.yes c.mask_at.result c.args.next.link (c.args.next.link + 2) (c.args.next.operator + 1) _ _ _ _ _ _ _ c.mask_at.ensures c.gated-g.ensures c.requires.3, omega (arith, c.requires.4, c.mem-1.given, c.mem-2-1.given)))

pub arm-shape_of-mem : goal.arm-shape_of-mem
arm-shape_of-mem t c = c.mem-3-1.given ∙ c.mem-2-1.given ∙ c.mem-1.given

pub arm-returns : goal.arm-returns
arm-returns t c = record { middle = c.store_operator.new.mem; copied = c.store_operator.ensures ∙ ap (placed _ _) c.copy_of.ensures; armed = arm-part c.args.tables.now.t.now c.args.tables.now.masks.now c.args.tables.now.widths.now c.args.place.body c.args.place.returned c.args.k c.requires.0 c.args.yes c.mask_at.result c.args.next.link (c.args.next.link + 2) (c.args.next.operator + 1) _ _ _ _ _ _ _ c.row.result (search (rules, c.well_formed.1.1.1.1.1.1.1.0)) c.mask_at.ensures c.gated-g.ensures c.row.ensures }

pub ended-fork-f-requires : goal.ended-fork-f-requires
ended-fork-f-requires t c = (split-mask _ _ _ _ _ _ (end-split c.args.tables.now.t.now c.args.tables.now.masks.now c.args.tables.now.widths.now c.args.iter c.args.k c.requires.0 c.args.free c.requires.1 c.args.next.link c.args.next.operator c.requires.2), split-fork _ _ _ _ _ _ (end-split c.args.tables.now.t.now c.args.tables.now.masks.now c.args.tables.now.widths.now c.args.iter c.args.k c.requires.0 c.args.free c.requires.1 c.args.next.link c.args.next.operator c.requires.2), search rules)

pub ended-constant-c-requires : goal.ended-constant-c-requires
ended-constant-c-requires t c = (end-constant-room c.args.tables.now.t.now c.args.tables.now.masks.now c.args.tables.now.widths.now c.args.iter _ _ (split-first _ _ _ _ _ _ (end-split c.args.tables.now.t.now c.args.tables.now.masks.now c.args.tables.now.widths.now c.args.iter c.args.k c.requires.0 c.args.free c.requires.1 c.args.next.link c.args.next.operator c.requires.2) _ _ _ _ _ _ _ c.fork-f.ensures), omega (arith, c.requires.3, c.mem-1.given))

pub ended-row-x-requires : goal.ended-row-x-requires
ended-row-x-requires t c = (omega (arith), (c.requires.0, split-second _ _ _ _ _ _ (end-split c.args.tables.now.t.now c.args.tables.now.masks.now c.args.tables.now.widths.now c.args.iter c.args.k c.requires.0 c.args.free c.requires.1 c.args.next.link c.args.next.operator c.requires.2) _ _ _ _ _ _ _ _ c.constant-c.result c.fork-f.ensures c.constant-c.ensures, omega (arith, c.requires.3, c.mem-1.given, c.mem-2-1.given)))

pub ended-join-outs-requires : goal.ended-join-outs-requires
ended-join-outs-requires t c = omega (arith, few-results c.args.tables.now.t.now c.args.tables.now.masks.now c.args.tables.now.widths.now c.args.k _ _ _ _ _ c.row-x.result c.requires.0 c.row-x.ensures)

pub ended-overflow_add-result : goal.ended-overflow_add-result
ended-overflow_add-result t c = omega (arith, few-results c.args.tables.now.t.now c.args.tables.now.masks.now c.args.tables.now.widths.now c.args.k _ _ _ _ _ c.row-x.result c.requires.0 c.row-x.ensures)

pub ended-returns-then-iter : goal.ended-returns-then-iter
ended-returns-then-iter t c = end-part c.args.tables.now.t.now c.args.tables.now.masks.now c.args.tables.now.widths.now c.args.iter c.args.k c.requires.0 c.args.free c.requires.1 c.args.next.link c.args.next.operator _ _ _ _ _ _ _ _ _ _ _ c.constant-c.result c.row-x.result (search (rules, c.well_formed.1.1.1.1.1.1.0)) c.requires.2 c.fork-f.ensures c.constant-c.ensures c.row-x.ensures c.join-outs.ensures (ap (λ (b : Bool). cond b c.row-x.result.count 0) (sym c.if-iter.true))

pub ended-returns-else-iter : goal.ended-returns-else-iter
ended-returns-else-iter t c = end-part c.args.tables.now.t.now c.args.tables.now.masks.now c.args.tables.now.widths.now c.args.iter c.args.k c.requires.0 c.args.free c.requires.1 c.args.next.link c.args.next.operator _ _ _ _ _ _ _ _ _ _ _ c.constant-c.result c.row-x.result (search (rules, c.well_formed.1.1.1.1.1.1.0)) c.requires.2 c.fork-f.ensures c.constant-c.ensures c.row-x.ensures c.join-outs.ensures (ap (λ (b : Bool). cond b c.row-x.result.count 0) (sym c.if-iter.false))

pub fors-mask_at-names-requires : goal.fors-mask_at-names-requires
fors-mask_at-names-requires t c = ((body-read c.args.tables.now.t.now c.args.tables.now.masks.now c.args.tables.now.widths.now c.args.r c.args.binding.first c.args.binding.count c.args.binding.value c.args.binding.inner c.requires.0 c.requires.1).ready.low, (body-read c.args.tables.now.t.now c.args.tables.now.masks.now c.args.tables.now.widths.now c.args.r c.args.binding.first c.args.binding.count c.args.binding.value c.args.binding.inner c.requires.0 c.requires.1).in-masks)

pub fors-names_in-k-requires : goal.fors-names_in-k-requires
fors-names_in-k-requires t c = subst Mask (sym c.mask_at-names.ensures) (child-mask c.args.tables.now.t.now c.args.tables.now.masks.now c.args.tables.now.widths.now true _ c.args.r c.args.binding.inner (body-read c.args.tables.now.t.now c.args.tables.now.masks.now c.args.tables.now.widths.now c.args.r c.args.binding.first c.args.binding.count c.args.binding.value c.args.binding.inner c.requires.0 c.requires.1))

pub fors-outside-outer-requires : goal.fors-outside-outer-requires
fors-outside-outer-requires t c = for-low c.args.tables.now.t.now c.args.tables.now.masks.now c.args.tables.now.widths.now c.args.r c.args.binding.first c.args.binding.count c.args.binding.value c.args.binding.inner c.requires.0 c.requires.1

pub fors-mask_at-requires : goal.fors-mask_at-requires
fors-mask_at-requires t c = ((for-first c.args.tables.now.t.now c.args.tables.now.masks.now c.args.tables.now.widths.now c.args.r c.args.binding.first c.args.binding.count c.args.binding.value c.args.binding.inner c.requires.0 c.requires.1).ready.low, (for-first c.args.tables.now.t.now c.args.tables.now.masks.now c.args.tables.now.widths.now c.args.r c.args.binding.first c.args.binding.count c.args.binding.value c.args.binding.inner c.requires.0 c.requires.1).in-masks)

pub fors-fork-f-requires : goal.fors-fork-f-requires
fors-fork-f-requires t c = let h = split-needs _ _ _ _ _ _ (for-split c.args.tables.now.t.now c.args.tables.now.masks.now c.args.tables.now.widths.now c.args.r c.args.binding.first c.args.binding.count c.args.binding.value c.args.binding.inner c.requires.0 c.requires.1 c.args.next.link c.args.next.operator c.requires.2) _ (ap₂ bit_and c.mask_at.ensures (c.outside-outer.ensures ∙ ap (λ (z : ℕ). outside z c.args.binding.first c.args.binding.count) c.mask_at-names.ensures)) in (h.0, h.1, search rules)

pub fors-row-x-requires : goal.fors-row-x-requires
fors-row-x-requires t c = (omega (arith, (for-first c.args.tables.now.t.now c.args.tables.now.masks.now c.args.tables.now.widths.now c.args.r c.args.binding.first c.args.binding.count c.args.binding.value c.args.binding.inner c.requires.0 c.requires.1).less), ((for-first c.args.tables.now.t.now c.args.tables.now.masks.now c.args.tables.now.widths.now c.args.r c.args.binding.first c.args.binding.count c.args.binding.value c.args.binding.inner c.requires.0 c.requires.1).ready, split-first _ _ _ _ _ _ (for-split c.args.tables.now.t.now c.args.tables.now.masks.now c.args.tables.now.widths.now c.args.r c.args.binding.first c.args.binding.count c.args.binding.value c.args.binding.inner c.requires.0 c.requires.1 c.args.next.link c.args.next.operator c.requires.2) _ _ _ _ _ _ _ (fork-same _ _ _ _ _ _ _ _ _ _ _ (ap₂ bit_and c.mask_at.ensures (c.outside-outer.ensures ∙ ap (λ (z : ℕ). outside z c.args.binding.first c.args.binding.count) c.mask_at-names.ensures)) c.fork-f.ensures), omega (arith, c.requires.3, c.mem-1.given)))

pub fors-numbered-inner-requires : goal.fors-numbered-inner-requires
fors-numbered-inner-requires t c = omega (arith, room-start c.args.tables.now.t.now c.args.tables.now.masks.now c.args.tables.now.widths.now c.args.r c.args.binding.first c.args.binding.count c.args.binding.value c.args.binding.inner c.requires.0 c.requires.1 _ _ (split-second _ _ _ _ _ _ (for-split c.args.tables.now.t.now c.args.tables.now.masks.now c.args.tables.now.widths.now c.args.r c.args.binding.first c.args.binding.count c.args.binding.value c.args.binding.inner c.requires.0 c.requires.1 c.args.next.link c.args.next.operator c.requires.2) _ _ _ _ _ _ _ _ c.row-x.result (fork-same _ _ _ _ _ _ _ _ _ _ _ (ap₂ bit_and c.mask_at.ensures (c.outside-outer.ensures ∙ ap (λ (z : ℕ). outside z c.args.binding.first c.args.binding.count) c.mask_at-names.ensures)) c.fork-f.ensures) c.row-x.ensures.done))

pub fors-width_at-requires : goal.fors-width_at-requires
fors-width_at-requires t c = ((body-read c.args.tables.now.t.now c.args.tables.now.masks.now c.args.tables.now.widths.now c.args.r c.args.binding.first c.args.binding.count c.args.binding.value c.args.binding.inner c.requires.0 c.requires.1).ready.low, (body-read c.args.tables.now.t.now c.args.tables.now.masks.now c.args.tables.now.widths.now c.args.r c.args.binding.first c.args.binding.count c.args.binding.value c.args.binding.inner c.requires.0 c.requires.1).in-widths)

pub fors-overflow_add-behind : goal.fors-overflow_add-behind
fors-overflow_add-behind t c = omega (arith, c.names_in-k.ensures.1, room-start c.args.tables.now.t.now c.args.tables.now.masks.now c.args.tables.now.widths.now c.args.r c.args.binding.first c.args.binding.count c.args.binding.value c.args.binding.inner c.requires.0 c.requires.1 _ _ (split-second _ _ _ _ _ _ (for-split c.args.tables.now.t.now c.args.tables.now.masks.now c.args.tables.now.widths.now c.args.r c.args.binding.first c.args.binding.count c.args.binding.value c.args.binding.inner c.requires.0 c.requires.1 c.args.next.link c.args.next.operator c.requires.2) _ _ _ _ _ _ _ _ c.row-x.result (fork-same _ _ _ _ _ _ _ _ _ _ _ (ap₂ bit_and c.mask_at.ensures (c.outside-outer.ensures ∙ ap (λ (z : ℕ). outside z c.args.binding.first c.args.binding.count) c.mask_at-names.ensures)) c.fork-f.ensures) c.row-x.ensures.done))

pub fors-row-y-requires : goal.fors-row-y-requires
fors-row-y-requires t c = (omega (arith, (body-read c.args.tables.now.t.now c.args.tables.now.masks.now c.args.tables.now.widths.now c.args.r c.args.binding.first c.args.binding.count c.args.binding.value c.args.binding.inner c.requires.0 c.requires.1).less), ((for-second c.args.tables.now.t.now c.args.tables.now.masks.now c.args.tables.now.widths.now c.args.r c.args.binding.first c.args.binding.count c.args.binding.value c.args.binding.inner c.requires.0 c.requires.1 c.width_at.result c.width_at.ensures.0).ready, (room-body c.args.tables.now.t.now c.args.tables.now.masks.now c.args.tables.now.widths.now c.args.r c.args.binding.first c.args.binding.count c.args.binding.value c.args.binding.inner c.requires.0 c.requires.1 c.width_at.result c.row-x.result.next.link c.row-x.result.next.operator c.names_in-k.result c.width_at.ensures.0 (c.names_in-k.ensures.0 ∙ ap (λ (z : ℕ). length (list_of z)) c.mask_at-names.ensures) (split-second _ _ _ _ _ _ (for-split c.args.tables.now.t.now c.args.tables.now.masks.now c.args.tables.now.widths.now c.args.r c.args.binding.first c.args.binding.count c.args.binding.value c.args.binding.inner c.requires.0 c.requires.1 c.args.next.link c.args.next.operator c.requires.2) _ _ _ _ _ _ _ _ c.row-x.result (fork-same _ _ _ _ _ _ _ _ _ _ _ (ap₂ bit_and c.mask_at.ensures (c.outside-outer.ensures ∙ ap (λ (z : ℕ). outside z c.args.binding.first c.args.binding.count) c.mask_at-names.ensures)) c.fork-f.ensures) c.row-x.ensures.done)).1, omega (arith, c.requires.3, c.mem-1.given, c.mem-2-1.given)))

pub fors-closed-requires : goal.fors-closed-requires
fors-closed-requires t c = let h = room-ring c.args.tables.now.t.now c.args.tables.now.masks.now c.args.tables.now.widths.now c.args.r c.args.binding.first c.args.binding.count c.args.binding.value c.args.binding.inner c.requires.0 c.requires.1 c.width_at.result c.row-x.result.next.link c.row-x.result.next.operator c.names_in-k.result _ _ _ c.row-y.result c.width_at.ensures.0 (c.names_in-k.ensures.0 ∙ ap (λ (z : ℕ). length (list_of z)) c.mask_at-names.ensures) c.row-y.ensures (split-second _ _ _ _ _ _ (for-split c.args.tables.now.t.now c.args.tables.now.masks.now c.args.tables.now.widths.now c.args.r c.args.binding.first c.args.binding.count c.args.binding.value c.args.binding.inner c.requires.0 c.requires.1 c.args.next.link c.args.next.operator c.requires.2) _ _ _ _ _ _ _ _ c.row-x.result (fork-same _ _ _ _ _ _ _ _ _ _ _ (ap₂ bit_and c.mask_at.ensures (c.outside-outer.ensures ∙ ap (λ (z : ℕ). outside z c.args.binding.first c.args.binding.count) c.mask_at-names.ensures)) c.fork-f.ensures) c.row-x.ensures.done) in (subst Mask (sym c.mask_at-names.ensures) (child-mask c.args.tables.now.t.now c.args.tables.now.masks.now c.args.tables.now.widths.now true _ c.args.r c.args.binding.inner (body-read c.args.tables.now.t.now c.args.tables.now.masks.now c.args.tables.now.widths.now c.args.r c.args.binding.first c.args.binding.count c.args.binding.value c.args.binding.inner c.requires.0 c.requires.1)), for-low c.args.tables.now.t.now c.args.tables.now.masks.now c.args.tables.now.widths.now c.args.r c.args.binding.first c.args.binding.count c.args.binding.value c.args.binding.inner c.requires.0 c.requires.1, subst (λ (z : ℕ). 1 ≤ length (list_of z)) (sym c.mask_at-names.ensures) (body-some c.args.tables.now.t.now c.args.tables.now.masks.now c.args.tables.now.widths.now c.args.r c.args.binding.first c.args.binding.count c.args.binding.value c.args.binding.inner c.requires.0 c.requires.1), h.0, subst (λ (z : ℕ). c.row-y.result.next.operator + (2 * length (list_of z) - 1) ≤ 1024) (sym c.mask_at-names.ensures) h.1, h.2, omega (arith, c.requires.3, c.mem-1.given, c.mem-2-1.given, c.mem-3-1.given))

pub fors-shape_of-mem : goal.fors-shape_of-mem
fors-shape_of-mem t c = c.mem-4-1.given ∙ c.mem-3-1.given ∙ c.mem-2-1.given ∙ c.mem-1.given

pub fors-returns : goal.fors-returns
fors-returns t c = for-part c.args.tables.now.t.now c.args.tables.now.masks.now c.args.tables.now.widths.now c.args.r c.args.binding.first c.args.binding.count c.args.binding.value c.args.binding.inner c.requires.0 c.requires.1 c.width_at.result c.row-x.result.next.link c.row-x.result.next.operator c.names_in-k.result _ _ _ c.row-y.result c.width_at.ensures.0 (c.names_in-k.ensures.0 ∙ ap (λ (z : ℕ). length (list_of z)) c.mask_at-names.ensures) c.row-y.ensures c.args.next.link c.args.next.operator _ _ 0 _ _ _ _ _ _ c.row-x.result c.closed.result (search (rules, c.well_formed.1.1.1.1.1.0)) c.requires.2 (fork-same _ _ _ _ _ _ _ _ _ _ _ (ap₂ bit_and c.mask_at.ensures (c.outside-outer.ensures ∙ ap (λ (z : ℕ). outside z c.args.binding.first c.args.binding.count) c.mask_at-names.ensures)) c.fork-f.ensures) c.row-x.ensures refl refl (subst (λ (z : ℕ). Numbered z c.row-x.result.next.link c.numbered-inner.result) c.mask_at-names.ensures c.numbered-inner.ensures) (subst (λ (z : ℕ). Closed z c.args.binding.first c.args.binding.count c.args.env c.fork-f.result.second c.numbered-inner.result c.row-y.new.mem c.closed.new.mem c.row-x.result c.row-y.result c.closed.result) c.mask_at-names.ensures c.closed.ensures)

pub ifs-mask_at-mb-requires : goal.ifs-mask_at-mb-requires
ifs-mask_at-mb-requires t c = ((if-first c.args.tables.now.t.now c.args.tables.now.masks.now c.args.tables.now.widths.now c.args.place.body c.args.place.returned c.args.r c.args.choice.test c.args.choice.first c.args.choice.second c.requires.0 c.requires.1).ready.low, (if-first c.args.tables.now.t.now c.args.tables.now.masks.now c.args.tables.now.widths.now c.args.place.body c.args.place.returned c.args.r c.args.choice.test c.args.choice.first c.args.choice.second c.requires.0 c.requires.1).in-masks)

pub ifs-mask_at-mc-requires : goal.ifs-mask_at-mc-requires
ifs-mask_at-mc-requires t c = ((if-second c.args.tables.now.t.now c.args.tables.now.masks.now c.args.tables.now.widths.now c.args.place.body c.args.place.returned c.args.r c.args.choice.test c.args.choice.first c.args.choice.second c.requires.0 c.requires.1).ready.low, (if-second c.args.tables.now.t.now c.args.tables.now.masks.now c.args.tables.now.widths.now c.args.place.body c.args.place.returned c.args.r c.args.choice.test c.args.choice.first c.args.choice.second c.requires.0 c.requires.1).in-masks)

pub ifs-mask_at-requires : goal.ifs-mask_at-requires
ifs-mask_at-requires t c = ((if-test c.args.tables.now.t.now c.args.tables.now.masks.now c.args.tables.now.widths.now c.args.place.body c.args.place.returned c.args.r c.args.choice.test c.args.choice.first c.args.choice.second c.requires.0 c.requires.1).ready.low, (if-test c.args.tables.now.t.now c.args.tables.now.masks.now c.args.tables.now.widths.now c.args.place.body c.args.place.returned c.args.r c.args.choice.test c.args.choice.first c.args.choice.second c.requires.0 c.requires.1).in-masks)

pub ifs-fork-f-requires : goal.ifs-fork-f-requires
ifs-fork-f-requires t c = let h = split-needs _ _ _ _ _ _ (if-split c.args.tables.now.t.now c.args.tables.now.masks.now c.args.tables.now.widths.now c.args.place.body c.args.place.returned c.args.r c.args.choice.test c.args.choice.first c.args.choice.second c.requires.0 c.requires.1 c.args.next.link c.args.next.operator c.requires.2) _ (λ i. bit_and (c.mask_at.ensures i) (bit_or (c.mask_at-mb.ensures i) (c.mask_at-mc.ensures i))) in (h.0, h.1, search rules)

pub ifs-row-x-requires : goal.ifs-row-x-requires
ifs-row-x-requires t c = (omega (arith, (if-test c.args.tables.now.t.now c.args.tables.now.masks.now c.args.tables.now.widths.now c.args.place.body c.args.place.returned c.args.r c.args.choice.test c.args.choice.first c.args.choice.second c.requires.0 c.requires.1).less), ((if-test c.args.tables.now.t.now c.args.tables.now.masks.now c.args.tables.now.widths.now c.args.place.body c.args.place.returned c.args.r c.args.choice.test c.args.choice.first c.args.choice.second c.requires.0 c.requires.1).ready, split-first _ _ _ _ _ _ (if-split c.args.tables.now.t.now c.args.tables.now.masks.now c.args.tables.now.widths.now c.args.place.body c.args.place.returned c.args.r c.args.choice.test c.args.choice.first c.args.choice.second c.requires.0 c.requires.1 c.args.next.link c.args.next.operator c.requires.2) _ _ _ _ _ _ _ (fork-same _ _ _ _ _ _ _ _ _ _ _ (λ i. bit_and (c.mask_at.ensures i) (bit_or (c.mask_at-mb.ensures i) (c.mask_at-mc.ensures i))) c.fork-f.ensures), omega (arith, c.requires.3, c.mem-1.given)))

pub ifs-fork-g-requires : goal.ifs-fork-g-requires
ifs-fork-g-requires t c = (arms-mask c.args.tables.now.t.now c.args.tables.now.masks.now c.args.tables.now.widths.now c.args.place.body c.args.place.returned c.args.r c.args.choice.test c.args.choice.first c.args.choice.second c.requires.0 c.requires.1 _ (ap₂ bit_and c.mask_at-mb.ensures c.mask_at-mc.ensures), arms-room c.args.tables.now.t.now c.args.tables.now.masks.now c.args.tables.now.widths.now c.args.place.body c.args.place.returned c.args.r c.args.choice.test c.args.choice.first c.args.choice.second c.requires.0 c.requires.1 _ _ _ (ap₂ bit_and c.mask_at-mb.ensures c.mask_at-mc.ensures) (split-second _ _ _ _ _ _ (if-split c.args.tables.now.t.now c.args.tables.now.masks.now c.args.tables.now.widths.now c.args.place.body c.args.place.returned c.args.r c.args.choice.test c.args.choice.first c.args.choice.second c.requires.0 c.requires.1 c.args.next.link c.args.next.operator c.requires.2) _ _ _ _ _ _ _ _ c.row-x.result (fork-same _ _ _ _ _ _ _ _ _ _ _ (λ i. bit_and (c.mask_at.ensures i) (bit_or (c.mask_at-mb.ensures i) (c.mask_at-mc.ensures i))) c.fork-f.ensures) c.row-x.ensures.done), omega (arith, c.requires.3, c.mem-1.given, c.mem-2-1.given))

pub ifs-arm-y-requires : goal.ifs-arm-y-requires
ifs-arm-y-requires t c = (omega (arith, (if-first c.args.tables.now.t.now c.args.tables.now.masks.now c.args.tables.now.widths.now c.args.place.body c.args.place.returned c.args.r c.args.choice.test c.args.choice.first c.args.choice.second c.requires.0 c.requires.1).less), (child-alone c.args.tables.now.t.now c.args.tables.now.masks.now c.args.tables.now.widths.now c.args.place.body c.args.place.returned c.args.r c.args.choice.first (if-first c.args.tables.now.t.now c.args.tables.now.masks.now c.args.tables.now.widths.now c.args.place.body c.args.place.returned c.args.r c.args.choice.test c.args.choice.first c.args.choice.second c.requires.0 c.requires.1), (room-first c.args.tables.now.t.now c.args.tables.now.masks.now c.args.tables.now.widths.now c.args.place.body c.args.place.returned c.args.r c.args.choice.test c.args.choice.first c.args.choice.second c.requires.0 c.requires.1 _ _ _ _ _ _ _ _ _ (split-second _ _ _ _ _ _ (if-split c.args.tables.now.t.now c.args.tables.now.masks.now c.args.tables.now.widths.now c.args.place.body c.args.place.returned c.args.r c.args.choice.test c.args.choice.first c.args.choice.second c.requires.0 c.requires.1 c.args.next.link c.args.next.operator c.requires.2) _ _ _ _ _ _ _ _ c.row-x.result (fork-same _ _ _ _ _ _ _ _ _ _ _ (λ i. bit_and (c.mask_at.ensures i) (bit_or (c.mask_at-mb.ensures i) (c.mask_at-mc.ensures i))) c.fork-f.ensures) c.row-x.ensures.done) (fork-same _ _ _ _ _ _ _ _ _ _ _ (ap₂ bit_and c.mask_at-mb.ensures c.mask_at-mc.ensures) c.fork-g.ensures)).0, (room-first c.args.tables.now.t.now c.args.tables.now.masks.now c.args.tables.now.widths.now c.args.place.body c.args.place.returned c.args.r c.args.choice.test c.args.choice.first c.args.choice.second c.requires.0 c.requires.1 _ _ _ _ _ _ _ _ _ (split-second _ _ _ _ _ _ (if-split c.args.tables.now.t.now c.args.tables.now.masks.now c.args.tables.now.widths.now c.args.place.body c.args.place.returned c.args.r c.args.choice.test c.args.choice.first c.args.choice.second c.requires.0 c.requires.1 c.args.next.link c.args.next.operator c.requires.2) _ _ _ _ _ _ _ _ c.row-x.result (fork-same _ _ _ _ _ _ _ _ _ _ _ (λ i. bit_and (c.mask_at.ensures i) (bit_or (c.mask_at-mb.ensures i) (c.mask_at-mc.ensures i))) c.fork-f.ensures) c.row-x.ensures.done) (fork-same _ _ _ _ _ _ _ _ _ _ _ (ap₂ bit_and c.mask_at-mb.ensures c.mask_at-mc.ensures) c.fork-g.ensures)).1, (room-first c.args.tables.now.t.now c.args.tables.now.masks.now c.args.tables.now.widths.now c.args.place.body c.args.place.returned c.args.r c.args.choice.test c.args.choice.first c.args.choice.second c.requires.0 c.requires.1 _ _ _ _ _ _ _ _ _ (split-second _ _ _ _ _ _ (if-split c.args.tables.now.t.now c.args.tables.now.masks.now c.args.tables.now.widths.now c.args.place.body c.args.place.returned c.args.r c.args.choice.test c.args.choice.first c.args.choice.second c.requires.0 c.requires.1 c.args.next.link c.args.next.operator c.requires.2) _ _ _ _ _ _ _ _ c.row-x.result (fork-same _ _ _ _ _ _ _ _ _ _ _ (λ i. bit_and (c.mask_at.ensures i) (bit_or (c.mask_at-mb.ensures i) (c.mask_at-mc.ensures i))) c.fork-f.ensures) c.row-x.ensures.done) (fork-same _ _ _ _ _ _ _ _ _ _ _ (ap₂ bit_and c.mask_at-mb.ensures c.mask_at-mc.ensures) c.fork-g.ensures)).2, omega (arith, c.requires.3, c.mem-1.given, c.mem-2-1.given, c.mem-3-1.given)))

pub ifs-overflow_add-copied : goal.ifs-overflow_add-copied
ifs-overflow_add-copied t c = omega (arith, (room-first c.args.tables.now.t.now c.args.tables.now.masks.now c.args.tables.now.widths.now c.args.place.body c.args.place.returned c.args.r c.args.choice.test c.args.choice.first c.args.choice.second c.requires.0 c.requires.1 _ _ _ _ _ _ _ _ _ (split-second _ _ _ _ _ _ (if-split c.args.tables.now.t.now c.args.tables.now.masks.now c.args.tables.now.widths.now c.args.place.body c.args.place.returned c.args.r c.args.choice.test c.args.choice.first c.args.choice.second c.requires.0 c.requires.1 c.args.next.link c.args.next.operator c.requires.2) _ _ _ _ _ _ _ _ c.row-x.result (fork-same _ _ _ _ _ _ _ _ _ _ _ (λ i. bit_and (c.mask_at.ensures i) (bit_or (c.mask_at-mb.ensures i) (c.mask_at-mc.ensures i))) c.fork-f.ensures) c.row-x.ensures.done) (fork-same _ _ _ _ _ _ _ _ _ _ _ (ap₂ bit_and c.mask_at-mb.ensures c.mask_at-mc.ensures) c.fork-g.ensures)).1)

pub ifs-overflow_cast-copied : goal.ifs-overflow_cast-copied
ifs-overflow_cast-copied t c = omega (arith, (room-first c.args.tables.now.t.now c.args.tables.now.masks.now c.args.tables.now.widths.now c.args.place.body c.args.place.returned c.args.r c.args.choice.test c.args.choice.first c.args.choice.second c.requires.0 c.requires.1 _ _ _ _ _ _ _ _ _ (split-second _ _ _ _ _ _ (if-split c.args.tables.now.t.now c.args.tables.now.masks.now c.args.tables.now.widths.now c.args.place.body c.args.place.returned c.args.r c.args.choice.test c.args.choice.first c.args.choice.second c.requires.0 c.requires.1 c.args.next.link c.args.next.operator c.requires.2) _ _ _ _ _ _ _ _ c.row-x.result (fork-same _ _ _ _ _ _ _ _ _ _ _ (λ i. bit_and (c.mask_at.ensures i) (bit_or (c.mask_at-mb.ensures i) (c.mask_at-mc.ensures i))) c.fork-f.ensures) c.row-x.ensures.done) (fork-same _ _ _ _ _ _ _ _ _ _ _ (ap₂ bit_and c.mask_at-mb.ensures c.mask_at-mc.ensures) c.fork-g.ensures)).1)

pub ifs-arm-z-requires : goal.ifs-arm-z-requires
ifs-arm-z-requires t c = (omega (arith, (if-second c.args.tables.now.t.now c.args.tables.now.masks.now c.args.tables.now.widths.now c.args.place.body c.args.place.returned c.args.r c.args.choice.test c.args.choice.first c.args.choice.second c.requires.0 c.requires.1).less), (child-alone c.args.tables.now.t.now c.args.tables.now.masks.now c.args.tables.now.widths.now c.args.place.body c.args.place.returned c.args.r c.args.choice.second (if-second c.args.tables.now.t.now c.args.tables.now.masks.now c.args.tables.now.widths.now c.args.place.body c.args.place.returned c.args.r c.args.choice.test c.args.choice.first c.args.choice.second c.requires.0 c.requires.1), (room-between c.args.tables.now.t.now c.args.tables.now.masks.now c.args.tables.now.widths.now c.args.place.body c.args.place.returned c.args.r c.args.choice.test c.args.choice.first c.args.choice.second c.requires.0 c.requires.1 _ _ _ _ _ (room-first c.args.tables.now.t.now c.args.tables.now.masks.now c.args.tables.now.widths.now c.args.place.body c.args.place.returned c.args.r c.args.choice.test c.args.choice.first c.args.choice.second c.requires.0 c.requires.1 _ _ _ _ _ _ _ _ _ (split-second _ _ _ _ _ _ (if-split c.args.tables.now.t.now c.args.tables.now.masks.now c.args.tables.now.widths.now c.args.place.body c.args.place.returned c.args.r c.args.choice.test c.args.choice.first c.args.choice.second c.requires.0 c.requires.1 c.args.next.link c.args.next.operator c.requires.2) _ _ _ _ _ _ _ _ c.row-x.result (fork-same _ _ _ _ _ _ _ _ _ _ _ (λ i. bit_and (c.mask_at.ensures i) (bit_or (c.mask_at-mb.ensures i) (c.mask_at-mc.ensures i))) c.fork-f.ensures) c.row-x.ensures.done) (fork-same _ _ _ _ _ _ _ _ _ _ _ (ap₂ bit_and c.mask_at-mb.ensures c.mask_at-mc.ensures) c.fork-g.ensures)).3 (room-first c.args.tables.now.t.now c.args.tables.now.masks.now c.args.tables.now.widths.now c.args.place.body c.args.place.returned c.args.r c.args.choice.test c.args.choice.first c.args.choice.second c.requires.0 c.requires.1 _ _ _ _ _ _ _ _ _ (split-second _ _ _ _ _ _ (if-split c.args.tables.now.t.now c.args.tables.now.masks.now c.args.tables.now.widths.now c.args.place.body c.args.place.returned c.args.r c.args.choice.test c.args.choice.first c.args.choice.second c.requires.0 c.requires.1 c.args.next.link c.args.next.operator c.requires.2) _ _ _ _ _ _ _ _ c.row-x.result (fork-same _ _ _ _ _ _ _ _ _ _ _ (λ i. bit_and (c.mask_at.ensures i) (bit_or (c.mask_at-mb.ensures i) (c.mask_at-mc.ensures i))) c.fork-f.ensures) c.row-x.ensures.done) (fork-same _ _ _ _ _ _ _ _ _ _ _ (ap₂ bit_and c.mask_at-mb.ensures c.mask_at-mc.ensures) c.fork-g.ensures)).4 c.arm-y.ensures.armed.operators c.arm-y.ensures.armed.links).0, (room-between c.args.tables.now.t.now c.args.tables.now.masks.now c.args.tables.now.widths.now c.args.place.body c.args.place.returned c.args.r c.args.choice.test c.args.choice.first c.args.choice.second c.requires.0 c.requires.1 _ _ _ _ _ (room-first c.args.tables.now.t.now c.args.tables.now.masks.now c.args.tables.now.widths.now c.args.place.body c.args.place.returned c.args.r c.args.choice.test c.args.choice.first c.args.choice.second c.requires.0 c.requires.1 _ _ _ _ _ _ _ _ _ (split-second _ _ _ _ _ _ (if-split c.args.tables.now.t.now c.args.tables.now.masks.now c.args.tables.now.widths.now c.args.place.body c.args.place.returned c.args.r c.args.choice.test c.args.choice.first c.args.choice.second c.requires.0 c.requires.1 c.args.next.link c.args.next.operator c.requires.2) _ _ _ _ _ _ _ _ c.row-x.result (fork-same _ _ _ _ _ _ _ _ _ _ _ (λ i. bit_and (c.mask_at.ensures i) (bit_or (c.mask_at-mb.ensures i) (c.mask_at-mc.ensures i))) c.fork-f.ensures) c.row-x.ensures.done) (fork-same _ _ _ _ _ _ _ _ _ _ _ (ap₂ bit_and c.mask_at-mb.ensures c.mask_at-mc.ensures) c.fork-g.ensures)).3 (room-first c.args.tables.now.t.now c.args.tables.now.masks.now c.args.tables.now.widths.now c.args.place.body c.args.place.returned c.args.r c.args.choice.test c.args.choice.first c.args.choice.second c.requires.0 c.requires.1 _ _ _ _ _ _ _ _ _ (split-second _ _ _ _ _ _ (if-split c.args.tables.now.t.now c.args.tables.now.masks.now c.args.tables.now.widths.now c.args.place.body c.args.place.returned c.args.r c.args.choice.test c.args.choice.first c.args.choice.second c.requires.0 c.requires.1 c.args.next.link c.args.next.operator c.requires.2) _ _ _ _ _ _ _ _ c.row-x.result (fork-same _ _ _ _ _ _ _ _ _ _ _ (λ i. bit_and (c.mask_at.ensures i) (bit_or (c.mask_at-mb.ensures i) (c.mask_at-mc.ensures i))) c.fork-f.ensures) c.row-x.ensures.done) (fork-same _ _ _ _ _ _ _ _ _ _ _ (ap₂ bit_and c.mask_at-mb.ensures c.mask_at-mc.ensures) c.fork-g.ensures)).4 c.arm-y.ensures.armed.operators c.arm-y.ensures.armed.links).1, (room-between c.args.tables.now.t.now c.args.tables.now.masks.now c.args.tables.now.widths.now c.args.place.body c.args.place.returned c.args.r c.args.choice.test c.args.choice.first c.args.choice.second c.requires.0 c.requires.1 _ _ _ _ _ (room-first c.args.tables.now.t.now c.args.tables.now.masks.now c.args.tables.now.widths.now c.args.place.body c.args.place.returned c.args.r c.args.choice.test c.args.choice.first c.args.choice.second c.requires.0 c.requires.1 _ _ _ _ _ _ _ _ _ (split-second _ _ _ _ _ _ (if-split c.args.tables.now.t.now c.args.tables.now.masks.now c.args.tables.now.widths.now c.args.place.body c.args.place.returned c.args.r c.args.choice.test c.args.choice.first c.args.choice.second c.requires.0 c.requires.1 c.args.next.link c.args.next.operator c.requires.2) _ _ _ _ _ _ _ _ c.row-x.result (fork-same _ _ _ _ _ _ _ _ _ _ _ (λ i. bit_and (c.mask_at.ensures i) (bit_or (c.mask_at-mb.ensures i) (c.mask_at-mc.ensures i))) c.fork-f.ensures) c.row-x.ensures.done) (fork-same _ _ _ _ _ _ _ _ _ _ _ (ap₂ bit_and c.mask_at-mb.ensures c.mask_at-mc.ensures) c.fork-g.ensures)).3 (room-first c.args.tables.now.t.now c.args.tables.now.masks.now c.args.tables.now.widths.now c.args.place.body c.args.place.returned c.args.r c.args.choice.test c.args.choice.first c.args.choice.second c.requires.0 c.requires.1 _ _ _ _ _ _ _ _ _ (split-second _ _ _ _ _ _ (if-split c.args.tables.now.t.now c.args.tables.now.masks.now c.args.tables.now.widths.now c.args.place.body c.args.place.returned c.args.r c.args.choice.test c.args.choice.first c.args.choice.second c.requires.0 c.requires.1 c.args.next.link c.args.next.operator c.requires.2) _ _ _ _ _ _ _ _ c.row-x.result (fork-same _ _ _ _ _ _ _ _ _ _ _ (λ i. bit_and (c.mask_at.ensures i) (bit_or (c.mask_at-mb.ensures i) (c.mask_at-mc.ensures i))) c.fork-f.ensures) c.row-x.ensures.done) (fork-same _ _ _ _ _ _ _ _ _ _ _ (ap₂ bit_and c.mask_at-mb.ensures c.mask_at-mc.ensures) c.fork-g.ensures)).4 c.arm-y.ensures.armed.operators c.arm-y.ensures.armed.links).2, omega (arith, c.requires.3, c.mem-1.given, c.mem-2-1.given, c.mem-3-1.given, c.mem-4-1.given)))

pub ifs-overflow_add-last : goal.ifs-overflow_add-last
ifs-overflow_add-last t c = omega (arith, (room-between c.args.tables.now.t.now c.args.tables.now.masks.now c.args.tables.now.widths.now c.args.place.body c.args.place.returned c.args.r c.args.choice.test c.args.choice.first c.args.choice.second c.requires.0 c.requires.1 _ _ _ _ _ (room-first c.args.tables.now.t.now c.args.tables.now.masks.now c.args.tables.now.widths.now c.args.place.body c.args.place.returned c.args.r c.args.choice.test c.args.choice.first c.args.choice.second c.requires.0 c.requires.1 _ _ _ _ _ _ _ _ _ (split-second _ _ _ _ _ _ (if-split c.args.tables.now.t.now c.args.tables.now.masks.now c.args.tables.now.widths.now c.args.place.body c.args.place.returned c.args.r c.args.choice.test c.args.choice.first c.args.choice.second c.requires.0 c.requires.1 c.args.next.link c.args.next.operator c.requires.2) _ _ _ _ _ _ _ _ c.row-x.result (fork-same _ _ _ _ _ _ _ _ _ _ _ (λ i. bit_and (c.mask_at.ensures i) (bit_or (c.mask_at-mb.ensures i) (c.mask_at-mc.ensures i))) c.fork-f.ensures) c.row-x.ensures.done) (fork-same _ _ _ _ _ _ _ _ _ _ _ (ap₂ bit_and c.mask_at-mb.ensures c.mask_at-mc.ensures) c.fork-g.ensures)).3 (room-first c.args.tables.now.t.now c.args.tables.now.masks.now c.args.tables.now.widths.now c.args.place.body c.args.place.returned c.args.r c.args.choice.test c.args.choice.first c.args.choice.second c.requires.0 c.requires.1 _ _ _ _ _ _ _ _ _ (split-second _ _ _ _ _ _ (if-split c.args.tables.now.t.now c.args.tables.now.masks.now c.args.tables.now.widths.now c.args.place.body c.args.place.returned c.args.r c.args.choice.test c.args.choice.first c.args.choice.second c.requires.0 c.requires.1 c.args.next.link c.args.next.operator c.requires.2) _ _ _ _ _ _ _ _ c.row-x.result (fork-same _ _ _ _ _ _ _ _ _ _ _ (λ i. bit_and (c.mask_at.ensures i) (bit_or (c.mask_at-mb.ensures i) (c.mask_at-mc.ensures i))) c.fork-f.ensures) c.row-x.ensures.done) (fork-same _ _ _ _ _ _ _ _ _ _ _ (ap₂ bit_and c.mask_at-mb.ensures c.mask_at-mc.ensures) c.fork-g.ensures)).4 c.arm-y.ensures.armed.operators c.arm-y.ensures.armed.links).1)

pub ifs-overflow_cast-last : goal.ifs-overflow_cast-last
ifs-overflow_cast-last t c = omega (arith, (room-between c.args.tables.now.t.now c.args.tables.now.masks.now c.args.tables.now.widths.now c.args.place.body c.args.place.returned c.args.r c.args.choice.test c.args.choice.first c.args.choice.second c.requires.0 c.requires.1 _ _ _ _ _ (room-first c.args.tables.now.t.now c.args.tables.now.masks.now c.args.tables.now.widths.now c.args.place.body c.args.place.returned c.args.r c.args.choice.test c.args.choice.first c.args.choice.second c.requires.0 c.requires.1 _ _ _ _ _ _ _ _ _ (split-second _ _ _ _ _ _ (if-split c.args.tables.now.t.now c.args.tables.now.masks.now c.args.tables.now.widths.now c.args.place.body c.args.place.returned c.args.r c.args.choice.test c.args.choice.first c.args.choice.second c.requires.0 c.requires.1 c.args.next.link c.args.next.operator c.requires.2) _ _ _ _ _ _ _ _ c.row-x.result (fork-same _ _ _ _ _ _ _ _ _ _ _ (λ i. bit_and (c.mask_at.ensures i) (bit_or (c.mask_at-mb.ensures i) (c.mask_at-mc.ensures i))) c.fork-f.ensures) c.row-x.ensures.done) (fork-same _ _ _ _ _ _ _ _ _ _ _ (ap₂ bit_and c.mask_at-mb.ensures c.mask_at-mc.ensures) c.fork-g.ensures)).3 (room-first c.args.tables.now.t.now c.args.tables.now.masks.now c.args.tables.now.widths.now c.args.place.body c.args.place.returned c.args.r c.args.choice.test c.args.choice.first c.args.choice.second c.requires.0 c.requires.1 _ _ _ _ _ _ _ _ _ (split-second _ _ _ _ _ _ (if-split c.args.tables.now.t.now c.args.tables.now.masks.now c.args.tables.now.widths.now c.args.place.body c.args.place.returned c.args.r c.args.choice.test c.args.choice.first c.args.choice.second c.requires.0 c.requires.1 c.args.next.link c.args.next.operator c.requires.2) _ _ _ _ _ _ _ _ c.row-x.result (fork-same _ _ _ _ _ _ _ _ _ _ _ (λ i. bit_and (c.mask_at.ensures i) (bit_or (c.mask_at-mb.ensures i) (c.mask_at-mc.ensures i))) c.fork-f.ensures) c.row-x.ensures.done) (fork-same _ _ _ _ _ _ _ _ _ _ _ (ap₂ bit_and c.mask_at-mb.ensures c.mask_at-mc.ensures) c.fork-g.ensures)).4 c.arm-y.ensures.armed.operators c.arm-y.ensures.armed.links).1)

pub ifs-joined-requires : goal.ifs-joined-requires
ifs-joined-requires t c = (if-needs c.args.tables.now.t.now c.args.tables.now.masks.now c.args.tables.now.widths.now c.args.place.body c.args.place.returned c.args.r c.args.choice.test c.args.choice.first c.args.choice.second c.requires.0 c.requires.1 _ _ _ _ _ _ _ _ _ _ _ _ _ _ c.arm-y.result c.arm-z.result c.arm-y.ensures.armed c.arm-z.ensures.armed (room-joins c.args.tables.now.t.now c.args.tables.now.masks.now c.args.tables.now.widths.now c.args.place.body c.args.place.returned c.args.r c.args.choice.test c.args.choice.first c.args.choice.second c.requires.0 c.requires.1 _ _ _ _ _ (room-between c.args.tables.now.t.now c.args.tables.now.masks.now c.args.tables.now.widths.now c.args.place.body c.args.place.returned c.args.r c.args.choice.test c.args.choice.first c.args.choice.second c.requires.0 c.requires.1 _ _ _ _ _ (room-first c.args.tables.now.t.now c.args.tables.now.masks.now c.args.tables.now.widths.now c.args.place.body c.args.place.returned c.args.r c.args.choice.test c.args.choice.first c.args.choice.second c.requires.0 c.requires.1 _ _ _ _ _ _ _ _ _ (split-second _ _ _ _ _ _ (if-split c.args.tables.now.t.now c.args.tables.now.masks.now c.args.tables.now.widths.now c.args.place.body c.args.place.returned c.args.r c.args.choice.test c.args.choice.first c.args.choice.second c.requires.0 c.requires.1 c.args.next.link c.args.next.operator c.requires.2) _ _ _ _ _ _ _ _ c.row-x.result (fork-same _ _ _ _ _ _ _ _ _ _ _ (λ i. bit_and (c.mask_at.ensures i) (bit_or (c.mask_at-mb.ensures i) (c.mask_at-mc.ensures i))) c.fork-f.ensures) c.row-x.ensures.done) (fork-same _ _ _ _ _ _ _ _ _ _ _ (ap₂ bit_and c.mask_at-mb.ensures c.mask_at-mc.ensures) c.fork-g.ensures)).3 (room-first c.args.tables.now.t.now c.args.tables.now.masks.now c.args.tables.now.widths.now c.args.place.body c.args.place.returned c.args.r c.args.choice.test c.args.choice.first c.args.choice.second c.requires.0 c.requires.1 _ _ _ _ _ _ _ _ _ (split-second _ _ _ _ _ _ (if-split c.args.tables.now.t.now c.args.tables.now.masks.now c.args.tables.now.widths.now c.args.place.body c.args.place.returned c.args.r c.args.choice.test c.args.choice.first c.args.choice.second c.requires.0 c.requires.1 c.args.next.link c.args.next.operator c.requires.2) _ _ _ _ _ _ _ _ c.row-x.result (fork-same _ _ _ _ _ _ _ _ _ _ _ (λ i. bit_and (c.mask_at.ensures i) (bit_or (c.mask_at-mb.ensures i) (c.mask_at-mc.ensures i))) c.fork-f.ensures) c.row-x.ensures.done) (fork-same _ _ _ _ _ _ _ _ _ _ _ (ap₂ bit_and c.mask_at-mb.ensures c.mask_at-mc.ensures) c.fork-g.ensures)).4 c.arm-y.ensures.armed.operators c.arm-y.ensures.armed.links).3 (room-between c.args.tables.now.t.now c.args.tables.now.masks.now c.args.tables.now.widths.now c.args.place.body c.args.place.returned c.args.r c.args.choice.test c.args.choice.first c.args.choice.second c.requires.0 c.requires.1 _ _ _ _ _ (room-first c.args.tables.now.t.now c.args.tables.now.masks.now c.args.tables.now.widths.now c.args.place.body c.args.place.returned c.args.r c.args.choice.test c.args.choice.first c.args.choice.second c.requires.0 c.requires.1 _ _ _ _ _ _ _ _ _ (split-second _ _ _ _ _ _ (if-split c.args.tables.now.t.now c.args.tables.now.masks.now c.args.tables.now.widths.now c.args.place.body c.args.place.returned c.args.r c.args.choice.test c.args.choice.first c.args.choice.second c.requires.0 c.requires.1 c.args.next.link c.args.next.operator c.requires.2) _ _ _ _ _ _ _ _ c.row-x.result (fork-same _ _ _ _ _ _ _ _ _ _ _ (λ i. bit_and (c.mask_at.ensures i) (bit_or (c.mask_at-mb.ensures i) (c.mask_at-mc.ensures i))) c.fork-f.ensures) c.row-x.ensures.done) (fork-same _ _ _ _ _ _ _ _ _ _ _ (ap₂ bit_and c.mask_at-mb.ensures c.mask_at-mc.ensures) c.fork-g.ensures)).3 (room-first c.args.tables.now.t.now c.args.tables.now.masks.now c.args.tables.now.widths.now c.args.place.body c.args.place.returned c.args.r c.args.choice.test c.args.choice.first c.args.choice.second c.requires.0 c.requires.1 _ _ _ _ _ _ _ _ _ (split-second _ _ _ _ _ _ (if-split c.args.tables.now.t.now c.args.tables.now.masks.now c.args.tables.now.widths.now c.args.place.body c.args.place.returned c.args.r c.args.choice.test c.args.choice.first c.args.choice.second c.requires.0 c.requires.1 c.args.next.link c.args.next.operator c.requires.2) _ _ _ _ _ _ _ _ c.row-x.result (fork-same _ _ _ _ _ _ _ _ _ _ _ (λ i. bit_and (c.mask_at.ensures i) (bit_or (c.mask_at-mb.ensures i) (c.mask_at-mc.ensures i))) c.fork-f.ensures) c.row-x.ensures.done) (fork-same _ _ _ _ _ _ _ _ _ _ _ (ap₂ bit_and c.mask_at-mb.ensures c.mask_at-mc.ensures) c.fork-g.ensures)).4 c.arm-y.ensures.armed.operators c.arm-y.ensures.armed.links).4 c.arm-z.ensures.armed.operators c.arm-z.ensures.armed.links), omega (arith, c.requires.3, c.mem-1.given, c.mem-2-1.given, c.mem-3-1.given, c.mem-4-1.given, c.mem-5-1.given))

pub ifs-shape_of-mem : goal.ifs-shape_of-mem
ifs-shape_of-mem t c = c.mem-6-1.given ∙ c.mem-5-1.given ∙ c.mem-4-1.given ∙ c.mem-3-1.given ∙ c.mem-2-1.given ∙ c.mem-1.given

pub ifs-returns : goal.ifs-returns
ifs-returns t c = if-part c.args.tables.now.t.now c.args.tables.now.masks.now c.args.tables.now.widths.now c.args.place.body c.args.place.returned c.args.r c.args.choice.test c.args.choice.first c.args.choice.second c.requires.0 c.requires.1 c.args.next.link c.args.next.operator _ _ _ _ _ _ _ _ _ _ _ _ _ _ _ _ _ _ c.row-x.result c.arm-y.result c.arm-z.result c.joined.result (search (rules, c.well_formed.1.1.1.1.1.1.0)) (forked-long _ _ _ _ _ _ _ _ _ _ c.fork-f.ensures (search (rules, c.well_formed.1.1.1.1.1.1.0))) c.requires.2 (fork-same _ _ _ _ _ _ _ _ _ _ _ (λ i. bit_and (c.mask_at.ensures i) (bit_or (c.mask_at-mb.ensures i) (c.mask_at-mc.ensures i))) c.fork-f.ensures) c.row-x.ensures (fork-same _ _ _ _ _ _ _ _ _ _ _ (ap₂ bit_and c.mask_at-mb.ensures c.mask_at-mc.ensures) c.fork-g.ensures) c.arm-y.ensures.copied c.arm-y.ensures.armed c.arm-z.ensures.copied c.arm-z.ensures.armed c.joined.ensures

pub lets-mask_at-value-requires : goal.lets-mask_at-value-requires
lets-mask_at-value-requires t c = ((let-first c.args.tables.now.t.now c.args.tables.now.masks.now c.args.tables.now.widths.now c.args.place.body c.args.place.returned c.args.r c.args.binding.first c.args.binding.count c.args.binding.value c.args.binding.inner c.requires.0 c.requires.1).ready.low, (let-first c.args.tables.now.t.now c.args.tables.now.masks.now c.args.tables.now.widths.now c.args.place.body c.args.place.returned c.args.r c.args.binding.first c.args.binding.count c.args.binding.value c.args.binding.inner c.requires.0 c.requires.1).in-masks)

pub lets-mask_at-requires : goal.lets-mask_at-requires
lets-mask_at-requires t c = ((let-second c.args.tables.now.t.now c.args.tables.now.masks.now c.args.tables.now.widths.now c.args.place.body c.args.place.returned c.args.r c.args.binding.first c.args.binding.count c.args.binding.value c.args.binding.inner c.requires.0 c.requires.1).ready.low, (let-second c.args.tables.now.t.now c.args.tables.now.masks.now c.args.tables.now.widths.now c.args.place.body c.args.place.returned c.args.r c.args.binding.first c.args.binding.count c.args.binding.value c.args.binding.inner c.requires.0 c.requires.1).in-masks)

pub lets-outside-inner-requires : goal.lets-outside-inner-requires
lets-outside-inner-requires t c = let-low c.args.tables.now.t.now c.args.tables.now.masks.now c.args.tables.now.widths.now c.args.place.body c.args.place.returned c.args.r c.args.binding.first c.args.binding.count c.args.binding.value c.args.binding.inner c.requires.0 c.requires.1

pub lets-fork-f-requires : goal.lets-fork-f-requires
lets-fork-f-requires t c = let h = split-needs _ _ _ _ _ _ (let-split c.args.tables.now.t.now c.args.tables.now.masks.now c.args.tables.now.widths.now c.args.place.body c.args.place.returned c.args.r c.args.binding.first c.args.binding.count c.args.binding.value c.args.binding.inner c.requires.0 c.requires.1 c.args.next.link c.args.next.operator c.requires.2) _ (ap₂ bit_and c.mask_at-value.ensures (c.outside-inner.ensures ∙ ap (λ (z : ℕ). outside z c.args.binding.first c.args.binding.count) c.mask_at.ensures)) in (h.0, h.1, search rules)

pub lets-row-x-requires : goal.lets-row-x-requires
lets-row-x-requires t c = (omega (arith, (let-first c.args.tables.now.t.now c.args.tables.now.masks.now c.args.tables.now.widths.now c.args.place.body c.args.place.returned c.args.r c.args.binding.first c.args.binding.count c.args.binding.value c.args.binding.inner c.requires.0 c.requires.1).less), ((let-first c.args.tables.now.t.now c.args.tables.now.masks.now c.args.tables.now.widths.now c.args.place.body c.args.place.returned c.args.r c.args.binding.first c.args.binding.count c.args.binding.value c.args.binding.inner c.requires.0 c.requires.1).ready, split-first _ _ _ _ _ _ (let-split c.args.tables.now.t.now c.args.tables.now.masks.now c.args.tables.now.widths.now c.args.place.body c.args.place.returned c.args.r c.args.binding.first c.args.binding.count c.args.binding.value c.args.binding.inner c.requires.0 c.requires.1 c.args.next.link c.args.next.operator c.requires.2) _ _ _ _ _ _ _ (fork-same _ _ _ _ _ _ _ _ _ _ _ (ap₂ bit_and c.mask_at-value.ensures (c.outside-inner.ensures ∙ ap (λ (z : ℕ). outside z c.args.binding.first c.args.binding.count) c.mask_at.ensures)) c.fork-f.ensures), omega (arith, c.requires.3, c.mem-1.given)))

pub lets-range_mask-requires : goal.lets-range_mask-requires
lets-range_mask-requires t c = omega (arith, let-low c.args.tables.now.t.now c.args.tables.now.masks.now c.args.tables.now.widths.now c.args.place.body c.args.place.returned c.args.r c.args.binding.first c.args.binding.count c.args.binding.value c.args.binding.inner c.requires.0 c.requires.1)

pub lets-assign-bound-requires : goal.lets-assign-bound-requires
lets-assign-bound-requires t c = mask-of-range c.args.binding.first c.args.binding.count c.range_mask.result (omega (arith, let-low c.args.tables.now.t.now c.args.tables.now.masks.now c.args.tables.now.widths.now c.args.place.body c.args.place.returned c.args.r c.args.binding.first c.args.binding.count c.args.binding.value c.args.binding.inner c.requires.0 c.requires.1)) c.range_mask.ensures

pub lets-row-requires : goal.lets-row-requires
lets-row-requires t c = (omega (arith, (let-second c.args.tables.now.t.now c.args.tables.now.masks.now c.args.tables.now.widths.now c.args.place.body c.args.place.returned c.args.r c.args.binding.first c.args.binding.count c.args.binding.value c.args.binding.inner c.requires.0 c.requires.1).less, (by_place c.args.place.body).1), ((let-second c.args.tables.now.t.now c.args.tables.now.masks.now c.args.tables.now.widths.now c.args.place.body c.args.place.returned c.args.r c.args.binding.first c.args.binding.count c.args.binding.value c.args.binding.inner c.requires.0 c.requires.1).ready, split-second _ _ _ _ _ _ (let-split c.args.tables.now.t.now c.args.tables.now.masks.now c.args.tables.now.widths.now c.args.place.body c.args.place.returned c.args.r c.args.binding.first c.args.binding.count c.args.binding.value c.args.binding.inner c.requires.0 c.requires.1 c.args.next.link c.args.next.operator c.requires.2) _ _ _ _ _ _ _ _ c.row-x.result (fork-same _ _ _ _ _ _ _ _ _ _ _ (ap₂ bit_and c.mask_at-value.ensures (c.outside-inner.ensures ∙ ap (λ (z : ℕ). outside z c.args.binding.first c.args.binding.count) c.mask_at.ensures)) c.fork-f.ensures) c.row-x.ensures.done, omega (arith, c.requires.3, c.mem-1.given, c.mem-2-1.given)))

pub lets-shape_of-mem : goal.lets-shape_of-mem
lets-shape_of-mem t c = c.mem-3-1.given ∙ c.mem-2-1.given ∙ c.mem-1.given

pub lets-returns : goal.lets-returns
lets-returns t c = let-part c.args.tables.now.t.now c.args.tables.now.masks.now c.args.tables.now.widths.now c.args.place.body c.args.place.returned c.args.r c.args.binding.first c.args.binding.count c.args.binding.value c.args.binding.inner c.requires.0 c.requires.1 c.args.next.link c.args.next.operator c.range_mask.result _ _ _ _ _ _ _ _ _ _ c.row-x.result c.row.result (search (rules, c.well_formed.1.1.1.1.1.1.0)) (forked-long _ _ _ _ _ _ _ _ _ _ c.fork-f.ensures (search (rules, c.well_formed.1.1.1.1.1.1.0))) c.requires.2 (fork-same _ _ _ _ _ _ _ _ _ _ _ (ap₂ bit_and c.mask_at-value.ensures (c.outside-inner.ensures ∙ ap (λ (z : ℕ). outside z c.args.binding.first c.args.binding.count) c.mask_at.ensures)) c.fork-f.ensures) c.row-x.ensures c.range_mask.ensures c.assign-bound.ensures c.row.ensures

pub pairs-mask_at-requires : goal.pairs-mask_at-requires
pairs-mask_at-requires t c = ((pair-first c.args.tables.now.t.now c.args.tables.now.masks.now c.args.tables.now.widths.now c.args.r c.args.a c.args.b c.requires.0 c.requires.1).ready.low, (pair-first c.args.tables.now.t.now c.args.tables.now.masks.now c.args.tables.now.widths.now c.args.r c.args.a c.args.b c.requires.0 c.requires.1).in-masks)

pub pairs-mask_at-requires-2 : goal.pairs-mask_at-requires-2
pairs-mask_at-requires-2 t c = ((pair-second c.args.tables.now.t.now c.args.tables.now.masks.now c.args.tables.now.widths.now c.args.r c.args.a c.args.b c.requires.0 c.requires.1).ready.low, (pair-second c.args.tables.now.t.now c.args.tables.now.masks.now c.args.tables.now.widths.now c.args.r c.args.a c.args.b c.requires.0 c.requires.1).in-masks)

pub pairs-fork-f-requires : goal.pairs-fork-f-requires
pairs-fork-f-requires t c = let h = split-needs _ _ _ _ _ _ (pair-split c.args.tables.now.t.now c.args.tables.now.masks.now c.args.tables.now.widths.now c.args.r c.args.a c.args.b c.requires.0 c.requires.1 c.args.next.link c.args.next.operator c.requires.2) _ (ap₂ bit_and c.mask_at.ensures c.mask_at-2.ensures) in (h.0, h.1, search rules)

pub pairs-row-x-requires : goal.pairs-row-x-requires
pairs-row-x-requires t c = (omega (arith, (pair-first c.args.tables.now.t.now c.args.tables.now.masks.now c.args.tables.now.widths.now c.args.r c.args.a c.args.b c.requires.0 c.requires.1).less), ((pair-first c.args.tables.now.t.now c.args.tables.now.masks.now c.args.tables.now.widths.now c.args.r c.args.a c.args.b c.requires.0 c.requires.1).ready, split-first _ _ _ _ _ _ (pair-split c.args.tables.now.t.now c.args.tables.now.masks.now c.args.tables.now.widths.now c.args.r c.args.a c.args.b c.requires.0 c.requires.1 c.args.next.link c.args.next.operator c.requires.2) _ _ _ _ _ _ _ (fork-same _ _ _ _ _ _ _ _ _ _ _ (ap₂ bit_and c.mask_at.ensures c.mask_at-2.ensures) c.fork-f.ensures), omega (arith, c.requires.3, c.mem-1.given)))

pub pairs-row-y-requires : goal.pairs-row-y-requires
pairs-row-y-requires t c = (omega (arith, (pair-second c.args.tables.now.t.now c.args.tables.now.masks.now c.args.tables.now.widths.now c.args.r c.args.a c.args.b c.requires.0 c.requires.1).less), ((pair-second c.args.tables.now.t.now c.args.tables.now.masks.now c.args.tables.now.widths.now c.args.r c.args.a c.args.b c.requires.0 c.requires.1).ready, split-second _ _ _ _ _ _ (pair-split c.args.tables.now.t.now c.args.tables.now.masks.now c.args.tables.now.widths.now c.args.r c.args.a c.args.b c.requires.0 c.requires.1 c.args.next.link c.args.next.operator c.requires.2) _ _ _ _ _ _ _ _ c.row-x.result (fork-same _ _ _ _ _ _ _ _ _ _ _ (ap₂ bit_and c.mask_at.ensures c.mask_at-2.ensures) c.fork-f.ensures) c.row-x.ensures.done, omega (arith, c.requires.3, c.mem-1.given, c.mem-2-1.given)))

pub pairs-join-outs-requires : goal.pairs-join-outs-requires
pairs-join-outs-requires t c = omega (arith, few-results c.args.tables.now.t.now c.args.tables.now.masks.now c.args.tables.now.widths.now c.args.a _ _ _ _ _ c.row-x.result (pair-first c.args.tables.now.t.now c.args.tables.now.masks.now c.args.tables.now.widths.now c.args.r c.args.a c.args.b c.requires.0 c.requires.1).ready c.row-x.ensures, few-results c.args.tables.now.t.now c.args.tables.now.masks.now c.args.tables.now.widths.now c.args.b _ _ _ _ _ c.row-y.result (pair-second c.args.tables.now.t.now c.args.tables.now.masks.now c.args.tables.now.widths.now c.args.r c.args.a c.args.b c.requires.0 c.requires.1).ready c.row-y.ensures)

pub pairs-overflow_add-result : goal.pairs-overflow_add-result
pairs-overflow_add-result t c = omega (arith, few-results c.args.tables.now.t.now c.args.tables.now.masks.now c.args.tables.now.widths.now c.args.a _ _ _ _ _ c.row-x.result (pair-first c.args.tables.now.t.now c.args.tables.now.masks.now c.args.tables.now.widths.now c.args.r c.args.a c.args.b c.requires.0 c.requires.1).ready c.row-x.ensures, few-results c.args.tables.now.t.now c.args.tables.now.masks.now c.args.tables.now.widths.now c.args.b _ _ _ _ _ c.row-y.result (pair-second c.args.tables.now.t.now c.args.tables.now.masks.now c.args.tables.now.widths.now c.args.r c.args.a c.args.b c.requires.0 c.requires.1).ready c.row-y.ensures)

pub pairs-shape_of-mem : goal.pairs-shape_of-mem
pairs-shape_of-mem t c = c.mem-3-1.given ∙ c.mem-2-1.given ∙ c.mem-1.given

pub pairs-returns : goal.pairs-returns
pairs-returns t c = record { done = pair-part c.args.tables.now.t.now c.args.tables.now.masks.now c.args.tables.now.widths.now c.args.r c.args.a c.args.b c.requires.0 c.requires.1 c.args.next.link c.args.next.operator _ _ _ _ _ _ _ _ _ _ c.row-x.result c.row-y.result (search (rules, c.well_formed.1.1.1.1.1.1.0)) c.requires.2 (fork-same _ _ _ _ _ _ _ _ _ _ _ (ap₂ bit_and c.mask_at.ensures c.mask_at-2.ensures) c.fork-f.ensures) c.row-x.ensures c.row-y.ensures c.join-outs.ensures; iterates = λ q. absurd (false≢true q) }

pub plain-shape_at-requires : goal.plain-shape_at-requires
plain-shape_at-requires t c = ((row_inside c.args.tables.now.t.now c.args.tables.now.masks.now c.args.tables.now.widths.now false 0 c.args.r c.requires.0).0, (row_inside c.args.tables.now.t.now c.args.tables.now.masks.now c.args.tables.now.widths.now false 0 c.args.r c.requires.0).1)

pub plain-identifier-requires : goal.plain-identifier-requires
plain-identifier-requires t c = omega (arith, (at-identifier c.args.tables.now.t.now c.args.tables.now.masks.now c.args.tables.now.widths.now 0 c.args.r c.requires.0 c.in-Identifier.a (sym c.shape_at.ensures ∙ c.in-Identifier.is)).1)

pub plain-constant-requires : goal.plain-constant-requires
plain-constant-requires t c = (at_constant c.args.tables.now.t.now c.args.tables.now.masks.now c.args.tables.now.widths.now 0 c.args.r c.requires.0 c.in-Constant.kind c.in-Constant.a (sym c.shape_at.ensures ∙ c.in-Constant.is)).1

pub plain-constant-requires-in-Constant : goal.plain-constant-requires-in-Constant
plain-constant-requires-in-Constant t c = (constant-room c.args.tables.now.t.now c.args.tables.now.masks.now c.args.tables.now.widths.now c.args.r c.requires.0 c.in-Constant.kind c.in-Constant.a (sym c.shape_at.ensures ∙ c.in-Constant.is) c.args.next.link c.args.next.operator c.requires.2, search rules)

pub plain-pairs-requires : goal.plain-pairs-requires
plain-pairs-requires t c = (omega (arith), (c.requires.0, (sym c.shape_at.ensures ∙ c.in-Pair.is), c.requires.2, search rules))

pub plain-row-x-requires : goal.plain-row-x-requires
plain-row-x-requires t c = (omega (arith, (operator-child c.args.tables.now.t.now c.args.tables.now.masks.now c.args.tables.now.widths.now c.args.r c.requires.0 c.in-Operator.code c.in-Operator.b (sym c.shape_at.ensures ∙ c.in-Operator.is)).less), ((operator-child c.args.tables.now.t.now c.args.tables.now.masks.now c.args.tables.now.widths.now c.args.r c.requires.0 c.in-Operator.code c.in-Operator.b (sym c.shape_at.ensures ∙ c.in-Operator.is)).ready, operator-room c.args.tables.now.t.now c.args.tables.now.masks.now c.args.tables.now.widths.now c.args.r c.requires.0 c.in-Operator.code c.in-Operator.b (sym c.shape_at.ensures ∙ c.in-Operator.is) c.args.next.link c.args.next.operator c.requires.2, search rules))

pub plain-applied-requires : goal.plain-applied-requires
plain-applied-requires t c = let h = operator-needs c.args.tables.now.t.now c.args.tables.now.masks.now c.args.tables.now.widths.now c.args.r c.requires.0 c.in-Operator.code c.in-Operator.b (sym c.shape_at.ensures ∙ c.in-Operator.is) c.args.next.link c.args.next.operator _ _ _ c.row-x.result c.requires.2 c.row-x.ensures in (h.0, h.1, h.2, h.3, search rules)

pub plain-fors-requires : goal.plain-fors-requires
plain-fors-requires t c = (omega (arith), (c.requires.0, (sym c.shape_at.ensures ∙ c.in-For.is), c.requires.2, search rules))

pub plain-identifier-requires-in-Let : goal.plain-identifier-requires-in-Let
plain-identifier-requires-in-Let t c = omega arith

pub plain-identifier-requires-in-If : goal.plain-identifier-requires-in-If
plain-identifier-requires-in-If t c = omega arith

pub plain-identifier-requires-in-Iter : goal.plain-identifier-requires-in-Iter
plain-identifier-requires-in-Iter t c = omega arith

pub plain-returns-in-Identifier : goal.plain-returns-in-Identifier
plain-returns-in-Identifier t c = part-E c.args.tables.now.t.now c.args.tables.now.masks.now c.args.tables.now.widths.now c.args.r c.args.next.link c.args.next.operator _ _ _ c.identifier.result _ (at-identifier c.args.tables.now.t.now c.args.tables.now.masks.now c.args.tables.now.widths.now 0 c.args.r c.requires.0 c.in-Identifier.a (sym c.shape_at.ensures ∙ c.in-Identifier.is)).0 (c.identifier.ensures _)

pub plain-returns-in-Constant : goal.plain-returns-in-Constant
plain-returns-in-Constant t c = constant-part c.args.tables.now.t.now c.args.tables.now.masks.now c.args.tables.now.widths.now c.args.r c.requires.0 c.in-Constant.kind c.in-Constant.a (sym c.shape_at.ensures ∙ c.in-Constant.is) _ c.constant.ensures c.args.next.link c.args.next.operator _ _ _ c.constant-in-Constant.result c.constant-in-Constant.ensures

pub plain-returns-in-Pair : goal.plain-returns-in-Pair
plain-returns-in-Pair t c = c.pairs.ensures

pub plain-returns-in-Operator : goal.plain-returns-in-Operator
plain-returns-in-Operator t c = operator-part c.args.tables.now.t.now c.args.tables.now.masks.now c.args.tables.now.widths.now c.args.r c.requires.0 c.in-Operator.code c.in-Operator.b (sym c.shape_at.ensures ∙ c.in-Operator.is) c.args.next.link c.args.next.operator _ _ _ _ c.row-x.result c.applied.result c.row-x.ensures c.applied.ensures

pub plain-returns-in-For : goal.plain-returns-in-For
plain-returns-in-For t c = c.fors.ensures

pub plain-returns-in-Let : goal.plain-returns-in-Let
plain-returns-in-Let t c = absurd (subst (Ends c.args.tables.now.t.now c.args.tables.now.masks.now c.args.tables.now.widths.now) (sym c.shape_at.ensures ∙ c.in-Let.is) c.requires.1)

pub plain-returns-in-If : goal.plain-returns-in-If
plain-returns-in-If t c = absurd (subst (Ends c.args.tables.now.t.now c.args.tables.now.masks.now c.args.tables.now.widths.now) (sym c.shape_at.ensures ∙ c.in-If.is) c.requires.1)

pub plain-returns-in-Iter : goal.plain-returns-in-Iter
plain-returns-in-Iter t c = absurd (subst (Ends c.args.tables.now.t.now c.args.tables.now.masks.now c.args.tables.now.widths.now) (sym c.shape_at.ensures ∙ c.in-Iter.is) c.requires.1)

pub row-way_at-requires : goal.row-way_at-requires
row-way_at-requires t c = ((row_inside c.args.tables.now.t.now c.args.tables.now.masks.now c.args.tables.now.widths.now c.args.place.body c.args.place.returned c.args.r c.requires.0).0, (row_inside c.args.tables.now.t.now c.args.tables.now.masks.now c.args.tables.now.widths.now c.args.place.body c.args.place.returned c.args.r c.requires.0).1)

pub row-lets-requires : goal.row-lets-requires
row-lets-requires t c = (omega (arith, (by_place c.args.place.body).0), (c.requires.0, (shaped-as c.args.tables.now.t.now c.args.tables.now.masks.now c.args.tables.now.widths.now (shape_at c.args.tables.now.t.now c.args.r) (let-way c.in-Let.first c.in-Let.count c.in-Let.value c.in-Let.inner) (sym c.in-Let.is ∙ c.way_at.ensures)), c.requires.1, search rules))

pub row-ifs-requires : goal.row-ifs-requires
row-ifs-requires t c = (omega (arith, (by_place c.args.place.body).0), (c.requires.0, (shaped-as c.args.tables.now.t.now c.args.tables.now.masks.now c.args.tables.now.widths.now (shape_at c.args.tables.now.t.now c.args.r) (if-way c.in-If.test c.in-If.first c.in-If.second) (sym c.in-If.is ∙ c.way_at.ensures)), c.requires.1, search rules))

pub row-mask_at-free-requires : goal.row-mask_at-free-requires
row-mask_at-free-requires t c = ((iter-child c.args.tables.now.t.now c.args.tables.now.masks.now c.args.tables.now.widths.now c.args.place.returned c.args.r (subst (λ (b : Bool). Ready c.args.tables.now.t.now c.args.tables.now.masks.now c.args.tables.now.widths.now b c.args.place.returned c.args.r) c.if-place.true c.requires.0) c.in-Iter.a (shaped-as c.args.tables.now.t.now c.args.tables.now.masks.now c.args.tables.now.widths.now (shape_at c.args.tables.now.t.now c.args.r) (iter-way c.in-Iter.a) (sym c.in-Iter.is ∙ c.way_at.ensures))).ready.low, (iter-child c.args.tables.now.t.now c.args.tables.now.masks.now c.args.tables.now.widths.now c.args.place.returned c.args.r (subst (λ (b : Bool). Ready c.args.tables.now.t.now c.args.tables.now.masks.now c.args.tables.now.widths.now b c.args.place.returned c.args.r) c.if-place.true c.requires.0) c.in-Iter.a (shaped-as c.args.tables.now.t.now c.args.tables.now.masks.now c.args.tables.now.widths.now (shape_at c.args.tables.now.t.now c.args.r) (iter-way c.in-Iter.a) (sym c.in-Iter.is ∙ c.way_at.ensures))).in-masks)

pub row-ended-requires : goal.row-ended-requires
row-ended-requires t c = (omega (arith, (iter-child c.args.tables.now.t.now c.args.tables.now.masks.now c.args.tables.now.widths.now c.args.place.returned c.args.r (subst (λ (b : Bool). Ready c.args.tables.now.t.now c.args.tables.now.masks.now c.args.tables.now.widths.now b c.args.place.returned c.args.r) c.if-place.true c.requires.0) c.in-Iter.a (shaped-as c.args.tables.now.t.now c.args.tables.now.masks.now c.args.tables.now.widths.now (shape_at c.args.tables.now.t.now c.args.r) (iter-way c.in-Iter.a) (sym c.in-Iter.is ∙ c.way_at.ensures))).less, (by_place c.args.place.body).0), ((iter-child c.args.tables.now.t.now c.args.tables.now.masks.now c.args.tables.now.widths.now c.args.place.returned c.args.r (subst (λ (b : Bool). Ready c.args.tables.now.t.now c.args.tables.now.masks.now c.args.tables.now.widths.now b c.args.place.returned c.args.r) c.if-place.true c.requires.0) c.in-Iter.a (shaped-as c.args.tables.now.t.now c.args.tables.now.masks.now c.args.tables.now.widths.now (shape_at c.args.tables.now.t.now c.args.r) (iter-way c.in-Iter.a) (sym c.in-Iter.is ∙ c.way_at.ensures))).ready, c.mask_at-free.ensures ∙ (iter-child c.args.tables.now.t.now c.args.tables.now.masks.now c.args.tables.now.widths.now c.args.place.returned c.args.r (subst (λ (b : Bool). Ready c.args.tables.now.t.now c.args.tables.now.masks.now c.args.tables.now.widths.now b c.args.place.returned c.args.r) c.if-place.true c.requires.0) c.in-Iter.a (shaped-as c.args.tables.now.t.now c.args.tables.now.masks.now c.args.tables.now.widths.now (shape_at c.args.tables.now.t.now c.args.r) (iter-way c.in-Iter.a) (sym c.in-Iter.is ∙ c.way_at.ensures))).masked, iter-room c.args.tables.now.t.now c.args.tables.now.masks.now c.args.tables.now.widths.now c.args.place.returned c.args.r (subst (λ (b : Bool). Ready c.args.tables.now.t.now c.args.tables.now.masks.now c.args.tables.now.widths.now b c.args.place.returned c.args.r) c.if-place.true c.requires.0) c.in-Iter.a (shaped-as c.args.tables.now.t.now c.args.tables.now.masks.now c.args.tables.now.widths.now (shape_at c.args.tables.now.t.now c.args.r) (iter-way c.in-Iter.a) (sym c.in-Iter.is ∙ c.way_at.ensures)) c.args.next.link c.args.next.operator (subst (λ (b : Bool). Room c.args.next.link c.args.next.operator (operator_count (graph_in b c.args.place.returned c.args.tables.now.t.now c.args.r))) c.if-place.true c.requires.1), search rules))

pub row-returns-then-place : goal.row-returns-then-place
row-returns-then-place t c = subst (λ (b : Bool). Part b c.args.place.returned c.args.tables.now.t.now c.args.r c.args.next.link c.args.next.operator c.args.env c.args.mem.now c.ended.new.mem c.ended.result) (sym c.if-place.true) (iter-part c.args.tables.now.t.now c.args.tables.now.masks.now c.args.tables.now.widths.now c.args.place.returned c.args.r (subst (λ (b : Bool). Ready c.args.tables.now.t.now c.args.tables.now.masks.now c.args.tables.now.widths.now b c.args.place.returned c.args.r) c.if-place.true c.requires.0) c.in-Iter.a (shaped-as c.args.tables.now.t.now c.args.tables.now.masks.now c.args.tables.now.widths.now (shape_at c.args.tables.now.t.now c.args.r) (iter-way c.in-Iter.a) (sym c.in-Iter.is ∙ c.way_at.ensures)) c.args.next.link c.args.next.operator _ _ _ c.ended.result c.ended.ensures)

pub row-row-requires : goal.row-row-requires
row-row-requires t c = (omega (arith, (at-iter c.args.tables.now.t.now c.args.tables.now.masks.now c.args.tables.now.widths.now c.args.place.returned c.args.r (subst (λ (b : Bool). Ready c.args.tables.now.t.now c.args.tables.now.masks.now c.args.tables.now.widths.now b c.args.place.returned c.args.r) c.if-place.false c.requires.0) c.in-Iter.a (shaped-as c.args.tables.now.t.now c.args.tables.now.masks.now c.args.tables.now.widths.now (shape_at c.args.tables.now.t.now c.args.r) (iter-way c.in-Iter.a) (sym c.in-Iter.is ∙ c.way_at.ensures))).1.less, (by_place c.args.place.body).0), ((at-iter c.args.tables.now.t.now c.args.tables.now.masks.now c.args.tables.now.widths.now c.args.place.returned c.args.r (subst (λ (b : Bool). Ready c.args.tables.now.t.now c.args.tables.now.masks.now c.args.tables.now.widths.now b c.args.place.returned c.args.r) c.if-place.false c.requires.0) c.in-Iter.a (shaped-as c.args.tables.now.t.now c.args.tables.now.masks.now c.args.tables.now.widths.now (shape_at c.args.tables.now.t.now c.args.r) (iter-way c.in-Iter.a) (sym c.in-Iter.is ∙ c.way_at.ensures))).1.ready, room-E c.args.tables.now.t.now c.args.tables.now.masks.now c.args.tables.now.widths.now c.args.r c.args.next.link c.args.next.operator _ (at-iter c.args.tables.now.t.now c.args.tables.now.masks.now c.args.tables.now.widths.now c.args.place.returned c.args.r (subst (λ (b : Bool). Ready c.args.tables.now.t.now c.args.tables.now.masks.now c.args.tables.now.widths.now b c.args.place.returned c.args.r) c.if-place.false c.requires.0) c.in-Iter.a (shaped-as c.args.tables.now.t.now c.args.tables.now.masks.now c.args.tables.now.widths.now (shape_at c.args.tables.now.t.now c.args.r) (iter-way c.in-Iter.a) (sym c.in-Iter.is ∙ c.way_at.ensures))).0 (subst (λ (b : Bool). Room c.args.next.link c.args.next.operator (operator_count (graph_in b c.args.place.returned c.args.tables.now.t.now c.args.r))) c.if-place.false c.requires.1), search rules))

pub row-shape_at-requires : goal.row-shape_at-requires
row-shape_at-requires t c = ((row_inside c.args.tables.now.t.now c.args.tables.now.masks.now c.args.tables.now.widths.now c.args.place.body c.args.place.returned c.args.r c.requires.0).0, (row_inside c.args.tables.now.t.now c.args.tables.now.masks.now c.args.tables.now.widths.now c.args.place.body c.args.place.returned c.args.r c.requires.0).1)

pub row-plain_mask-free-requires : goal.row-plain_mask-free-requires
row-plain_mask-free-requires t c = (subst (λ (s : Shape). AllBetween c.args.r (named_in s)) (sym c.shape_at.ensures) (plain-between c.args.tables.now.t.now c.args.tables.now.masks.now c.args.tables.now.widths.now c.args.r (return-ready c.args.tables.now.t.now c.args.tables.now.masks.now c.args.tables.now.widths.now c.args.place.returned c.args.r (subst (λ (b : Bool). Ready c.args.tables.now.t.now c.args.tables.now.masks.now c.args.tables.now.widths.now b c.args.place.returned c.args.r) c.if-place-2.true c.requires.0) (shaped-as c.args.tables.now.t.now c.args.tables.now.masks.now c.args.tables.now.widths.now (shape_at c.args.tables.now.t.now c.args.r) (End) (sym c.in-End.is ∙ c.way_at.ensures))) (shaped-as c.args.tables.now.t.now c.args.tables.now.masks.now c.args.tables.now.widths.now (shape_at c.args.tables.now.t.now c.args.r) (End) (sym c.in-End.is ∙ c.way_at.ensures))), subst Ranged (sym c.shape_at.ensures) (plain-ranged c.args.tables.now.t.now c.args.tables.now.masks.now c.args.tables.now.widths.now c.args.r (return-ready c.args.tables.now.t.now c.args.tables.now.masks.now c.args.tables.now.widths.now c.args.place.returned c.args.r (subst (λ (b : Bool). Ready c.args.tables.now.t.now c.args.tables.now.masks.now c.args.tables.now.widths.now b c.args.place.returned c.args.r) c.if-place-2.true c.requires.0) (shaped-as c.args.tables.now.t.now c.args.tables.now.masks.now c.args.tables.now.widths.now (shape_at c.args.tables.now.t.now c.args.r) (End) (sym c.in-End.is ∙ c.way_at.ensures))) (shaped-as c.args.tables.now.t.now c.args.tables.now.masks.now c.args.tables.now.widths.now (shape_at c.args.tables.now.t.now c.args.r) (End) (sym c.in-End.is ∙ c.way_at.ensures))), omega (arith, (row_inside c.args.tables.now.t.now c.args.tables.now.masks.now c.args.tables.now.widths.now c.args.place.body c.args.place.returned c.args.r c.requires.0).2))

pub row-ended-requires-then-place-2 : goal.row-ended-requires-then-place-2
row-ended-requires-then-place-2 t c = (omega (arith, ap {B = ℕ} (λ (b : Bool). cond b 4 2) c.if-place-2.true), ((return-ready c.args.tables.now.t.now c.args.tables.now.masks.now c.args.tables.now.widths.now c.args.place.returned c.args.r (subst (λ (b : Bool). Ready c.args.tables.now.t.now c.args.tables.now.masks.now c.args.tables.now.widths.now b c.args.place.returned c.args.r) c.if-place-2.true c.requires.0) (shaped-as c.args.tables.now.t.now c.args.tables.now.masks.now c.args.tables.now.widths.now (shape_at c.args.tables.now.t.now c.args.r) (End) (sym c.in-End.is ∙ c.way_at.ensures))), c.plain_mask-free.ensures ∙ ap (plain_mask (λ k. get_or c.args.tables.now.masks.now (k - 1) 0)) c.shape_at.ensures ∙ plain-mask-is c.args.tables.now.t.now c.args.tables.now.masks.now c.args.tables.now.widths.now c.args.r (return-ready c.args.tables.now.t.now c.args.tables.now.masks.now c.args.tables.now.widths.now c.args.place.returned c.args.r (subst (λ (b : Bool). Ready c.args.tables.now.t.now c.args.tables.now.masks.now c.args.tables.now.widths.now b c.args.place.returned c.args.r) c.if-place-2.true c.requires.0) (shaped-as c.args.tables.now.t.now c.args.tables.now.masks.now c.args.tables.now.widths.now (shape_at c.args.tables.now.t.now c.args.r) (End) (sym c.in-End.is ∙ c.way_at.ensures))) (shaped-as c.args.tables.now.t.now c.args.tables.now.masks.now c.args.tables.now.widths.now (shape_at c.args.tables.now.t.now c.args.r) (End) (sym c.in-End.is ∙ c.way_at.ensures)), return-room c.args.tables.now.t.now c.args.tables.now.masks.now c.args.tables.now.widths.now c.args.place.returned c.args.r (subst (λ (b : Bool). Ready c.args.tables.now.t.now c.args.tables.now.masks.now c.args.tables.now.widths.now b c.args.place.returned c.args.r) c.if-place-2.true c.requires.0) (shaped-as c.args.tables.now.t.now c.args.tables.now.masks.now c.args.tables.now.widths.now (shape_at c.args.tables.now.t.now c.args.r) (End) (sym c.in-End.is ∙ c.way_at.ensures)) c.args.next.link c.args.next.operator (subst (λ (b : Bool). Room c.args.next.link c.args.next.operator (operator_count (graph_in b c.args.place.returned c.args.tables.now.t.now c.args.r))) c.if-place-2.true c.requires.1), search rules))

pub row-returns-then-place-2 : goal.row-returns-then-place-2
row-returns-then-place-2 t c = subst (λ (b : Bool). Part b c.args.place.returned c.args.tables.now.t.now c.args.r c.args.next.link c.args.next.operator c.args.env c.args.mem.now c.ended-then-place-2.new.mem c.ended-then-place-2.result) (sym c.if-place-2.true) (return-part c.args.tables.now.t.now c.args.tables.now.masks.now c.args.tables.now.widths.now c.args.place.returned c.args.r (subst (λ (b : Bool). Ready c.args.tables.now.t.now c.args.tables.now.masks.now c.args.tables.now.widths.now b c.args.place.returned c.args.r) c.if-place-2.true c.requires.0) (shaped-as c.args.tables.now.t.now c.args.tables.now.masks.now c.args.tables.now.widths.now (shape_at c.args.tables.now.t.now c.args.r) (End) (sym c.in-End.is ∙ c.way_at.ensures)) c.args.next.link c.args.next.operator _ _ _ c.ended-then-place-2.result c.ended-then-place-2.ensures)

pub row-plain-requires : goal.row-plain-requires
row-plain-requires t c = (omega (arith, (by_place c.args.place.body).0), (as-expression c.args.tables.now.t.now c.args.tables.now.masks.now c.args.tables.now.widths.now c.args.place.returned c.args.r (subst (λ (b : Bool). Ready c.args.tables.now.t.now c.args.tables.now.masks.now c.args.tables.now.widths.now b c.args.place.returned c.args.r) c.if-place-2.false c.requires.0), (shaped-as c.args.tables.now.t.now c.args.tables.now.masks.now c.args.tables.now.widths.now (shape_at c.args.tables.now.t.now c.args.r) (End) (sym c.in-End.is ∙ c.way_at.ensures)), (subst (λ (b : Bool). Room c.args.next.link c.args.next.operator (operator_count (graph_in b c.args.place.returned c.args.tables.now.t.now c.args.r))) c.if-place-2.false c.requires.1), search rules))

pub row-returns-in-Let : goal.row-returns-in-Let
row-returns-in-Let t c = c.lets.ensures

pub row-returns-in-If : goal.row-returns-in-If
row-returns-in-If t c = c.ifs.ensures

pub row-returns-else-place : goal.row-returns-else-place
row-returns-else-place t c = subst (λ (b : Bool). Part b c.args.place.returned c.args.tables.now.t.now c.args.r c.args.next.link c.args.next.operator c.args.env c.args.mem.now c.row.new.mem c.row.result) (sym c.if-place.false) (record { done = (part-E c.args.tables.now.t.now c.args.tables.now.masks.now c.args.tables.now.widths.now c.args.r c.args.next.link c.args.next.operator _ _ _ c.row.result _ (at-iter c.args.tables.now.t.now c.args.tables.now.masks.now c.args.tables.now.widths.now c.args.place.returned c.args.r (subst (λ (b : Bool). Ready c.args.tables.now.t.now c.args.tables.now.masks.now c.args.tables.now.widths.now b c.args.place.returned c.args.r) c.if-place.false c.requires.0) c.in-Iter.a (shaped-as c.args.tables.now.t.now c.args.tables.now.masks.now c.args.tables.now.widths.now (shape_at c.args.tables.now.t.now c.args.r) (iter-way c.in-Iter.a) (sym c.in-Iter.is ∙ c.way_at.ensures))).0 c.row.ensures.done).done; iterates = λ q. absurd (false≢true q) })

pub row-returns-else-place-2 : goal.row-returns-else-place-2
row-returns-else-place-2 t c = subst (λ (b : Bool). Part b c.args.place.returned c.args.tables.now.t.now c.args.r c.args.next.link c.args.next.operator c.args.env c.args.mem.now c.plain.new.mem c.plain.result) (sym c.if-place-2.false) (record { done = c.plain.ensures.done; iterates = λ q. absurd (false≢true q) })
