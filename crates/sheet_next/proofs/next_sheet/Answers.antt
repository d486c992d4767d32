use mathlib.Core.Path.{refl, sym, ap, ◌∙◌}
use native.Mathlib.Omega.{arith}
use Rattle.sheet_stands.specs.Fronts.{rows_to}
use Rattle.sheet_next.specs.Next.{handed, answers}
use Rattle.sheet_next.proofs.AnswerLaws.{given, next-told, memory-short, not_listed, none_left, next-written}
use Rattle.sheet_next.proofs.next_sheet.Goals as goal

pub returns-then-out-lt-SMALL_BYTES : goal.returns-then-out-lt-SMALL_BYTES
returns-then-out-lt-SMALL_BYTES c = rw c.refused.ensures (memory-short c.args.sheet.now c.args.out.now c.if-out-lt-SMALL_BYTES.true)

pub listed-requires : goal.listed-requires
listed-requires c = refl

pub returns-then-not-listed : goal.returns-then-not-listed
returns-then-not-listed c = rw c.refused-then-not-listed.ensures (not_listed c.args.sheet.now c.args.out.now c.if-out-lt-SMALL_BYTES.false (sym c.listed.ensures.0 ∙ c.if-not-listed.true))

pub slice_bounds-behind-end : goal.slice_bounds-behind-end
slice_bounds-behind-end c = sym c.listed.auto.fields

pub behind-rows-requires : goal.behind-rows-requires
behind-rows-requires c = given c.args.sheet.now c.listed.new.fields c.listed.auto.fields (sym c.listed.ensures.0 ∙ c.if-not-listed.false) c.listed.ensures.1

pub returns-then-rows-eq0 : goal.returns-then-rows-eq0
returns-then-rows-eq0 c = rw c.refused-then-rows-eq0.ensures (none_left c.args.sheet.now c.args.out.now c.if-out-lt-SMALL_BYTES.false _ (next-told c.args.sheet.now c.listed.new.fields c.listed.auto.fields (sym c.listed.ensures.0 ∙ c.if-not-listed.false) c.listed.ensures.1) (rows_to c.behind-rows.result c.behind-rows.new.t) c.behind-rows.result c.behind-rows.ensures.0 c.if-rows-eq0.true)

pub slice_bounds-write_rows-end : goal.slice_bounds-write_rows-end
slice_bounds-write_rows-end c = sym (c.behind-rows.auto.t ∙ c.listed.auto.fields)

pub write_rows-requires : goal.write_rows-requires
write_rows-requires c = (omega (arith, c.behind-rows.ensures.1, c.behind-rows.auto.t, c.listed.auto.fields), omega (arith, c.behind-rows.ensures.1, c.if-out-lt-SMALL_BYTES.false))

pub overflow_cast-result : goal.overflow_cast-result
overflow_cast-result c = record { fits = omega (arith, c.behind-rows.ensures.1) }

pub returns : goal.returns
returns c = ap (handed (answers 0 0 c.behind-rows.result)) c.write_rows.ensures ∙ next-written c.args.sheet.now c.args.out.now c.if-out-lt-SMALL_BYTES.false _ (next-told c.args.sheet.now c.listed.new.fields c.listed.auto.fields (sym c.listed.ensures.0 ∙ c.if-not-listed.false) c.listed.ensures.1) c.behind-rows.new.t c.behind-rows.result c.behind-rows.ensures.0 c.if-rows-eq0.false
