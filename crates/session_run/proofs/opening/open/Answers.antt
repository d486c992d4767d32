use native.Mathlib.Omega.{arith}
use mathlib.Core.Path.{sym, ◌∙◌}
use lib.ListN.{length}
use lib.Seq.{length-take-le}
use Rattle.formula.specs.declared.Refusal.TheVariants.{Layout, Rows, SetFile}
use Rattle.formula.specs.Refusals.{number_of}
use Rattle.session.specs.Opening.{Refuses}
use Rattle.session.proofs.OpeningLaws.{opens-layout, opens-rows, opens-refused, inputs-few, inputs-told, opens-long, opens-judged, refusal-bounds, judged-bounds, memory-unlaid, memory-long, memory-started}
use Rattle.session_run.proofs.opening.open.Goals as goal

pub returns-then-not-seen_laid_out : goal.returns-then-not-seen_laid_out
returns-then-not-seen_laid_out c = let p : Refuses (number_of Layout) 0 (length c.args.sets.now) c.refused.result c.refused.new.out = (rw c.from.ensures at c.refused.ensures.refuses) in let b = refusal-bounds (number_of Layout) 0 c.args.line.now (length c.args.sets.now) c.refused.result c.refused.new.out p in record { opens_to = opens-layout c.args.first.now c.args.seen c.args.line.now c.args.sets.now c.args.mem.now c.refused.result c.args.mem.now c.refused.new.out (sym c.seen_laid_out.ensures ∙ c.if-not-seen_laid_out.true) p; within = (b, memory-unlaid c.args.first.now c.args.seen c.args.line.now c.args.mem.now (sym c.seen_laid_out.ensures ∙ c.if-not-seen_laid_out.true), c.refused.ensures.out_unchanged) }

pub returns-then-seen-gt-SHEET : goal.returns-then-seen-gt-SHEET
returns-then-seen-gt-SHEET c = let p : Refuses (number_of Rows) 0 (length c.args.sets.now) c.refused-then-seen-gt-SHEET.result c.refused-then-seen-gt-SHEET.new.out = (rw c.from-then-seen-gt-SHEET.ensures at c.refused-then-seen-gt-SHEET.ensures.refuses) in let b = refusal-bounds (number_of Rows) 0 c.args.line.now (length c.args.sets.now) c.refused-then-seen-gt-SHEET.result c.refused-then-seen-gt-SHEET.new.out p in record { opens_to = opens-rows c.args.first.now c.args.seen c.args.line.now c.args.sets.now c.args.mem.now c.refused-then-seen-gt-SHEET.result c.args.mem.now c.refused-then-seen-gt-SHEET.new.out (sym c.seen_laid_out.ensures ∙ c.if-not-seen_laid_out.false) c.if-seen-gt-SHEET.true p; within = (b, memory-long c.args.first.now c.args.seen c.args.line.now c.args.mem.now (sym c.seen_laid_out.ensures ∙ c.if-not-seen_laid_out.false) c.if-seen-gt-SHEET.true, c.refused-then-seen-gt-SHEET.ensures.out_unchanged) }

pub returns-then-a-ne0 : goal.returns-then-a-ne0
returns-then-a-ne0 c = let p : Refuses c.start-a.result.refusal c.start-a.result.row (length c.args.sets.now) c.refused-then-a-ne0.result c.refused-then-a-ne0.new.out = c.refused-then-a-ne0.ensures.refuses in let b = refusal-bounds c.start-a.result.refusal c.start-a.result.row c.args.line.now (length c.args.sets.now) c.refused-then-a-ne0.result c.refused-then-a-ne0.new.out p in record { opens_to = opens-refused c.args.first.now c.args.seen c.args.line.now c.args.sets.now c.args.mem.now c.refused-then-a-ne0.result c.start-a.new.mem c.refused-then-a-ne0.new.out c.if-seen-gt-SHEET.false c.requires.0 c.start-a.result c.start-a.ensures c.if-a-ne0.true p; within = (b, memory-started c.args.first.now c.args.seen c.args.line.now c.args.mem.now (sym c.seen_laid_out.ensures ∙ c.if-not-seen_laid_out.false) c.if-seen-gt-SHEET.false c.start-a.result c.start-a.new.mem c.start-a.ensures, c.refused-then-a-ne0.ensures.out_unchanged) }

pub returns-then-end-gt-SET_FILE : goal.returns-then-end-gt-SET_FILE
returns-then-end-gt-SET_FILE c = let p : Refuses (number_of SetFile) 0 (length c.args.sets.now) c.refused-then-end-gt-SET_FILE.result c.refused-then-end-gt-SET_FILE.new.out = (rw c.from-then-end-gt-SET_FILE.ensures at c.refused-then-end-gt-SET_FILE.ensures.refuses) in let b = refusal-bounds (number_of SetFile) 0 c.args.line.now (length c.args.sets.now) c.refused-then-end-gt-SET_FILE.result c.refused-then-end-gt-SET_FILE.new.out p in record { opens_to = opens-long c.args.first.now c.args.seen c.args.line.now c.args.sets.now c.args.mem.now c.refused-then-end-gt-SET_FILE.result c.start-a.new.mem c.refused-then-end-gt-SET_FILE.new.out c.if-seen-gt-SHEET.false c.requires.0 c.start-a.result c.start-a.ensures c.if-a-ne0.false c.if-end-gt-SET_FILE.true p; within = (b, memory-started c.args.first.now c.args.seen c.args.line.now c.args.mem.now (sym c.seen_laid_out.ensures ∙ c.if-not-seen_laid_out.false) c.if-seen-gt-SHEET.false c.start-a.result c.start-a.new.mem c.start-a.ensures, c.refused-then-end-gt-SET_FILE.ensures.out_unchanged) }

pub slice_bounds-judge-end : goal.slice_bounds-judge-end
slice_bounds-judge-end c = sym (length-take-le c.start-a.result.inputs c.args.line.now (inputs-told c.args.first.now c.args.seen c.args.line.now c.args.sets.now c.args.mem.now (record { inputs = 0; stage = record { at = 0; remaining = 0; firings = 0; printed = 0 } }) c.start-a.new.mem c.args.out.now c.if-seen-gt-SHEET.false c.requires.0 c.start-a.result c.start-a.ensures c.if-a-ne0.false))

pub judge-requires : goal.judge-requires
judge-requires c = (omega (arith, inputs-few c.args.first.now c.args.seen c.args.line.now c.args.sets.now c.args.mem.now (record { inputs = 0; stage = record { at = 0; remaining = 0; firings = 0; printed = 0 } }) c.start-a.new.mem c.args.out.now c.if-seen-gt-SHEET.false c.requires.0 c.start-a.result c.start-a.ensures c.if-a-ne0.false, length-take-le c.start-a.result.inputs c.args.line.now (inputs-told c.args.first.now c.args.seen c.args.line.now c.args.sets.now c.args.mem.now (record { inputs = 0; stage = record { at = 0; remaining = 0; firings = 0; printed = 0 } }) c.start-a.new.mem c.args.out.now c.if-seen-gt-SHEET.false c.requires.0 c.start-a.result c.start-a.ensures c.if-a-ne0.false)), omega (arith, c.requires.1), c.if-end-gt-SET_FILE.false)

pub returns : goal.returns
returns c = let b = judged-bounds c.start-a.result.inputs c.args.line.now c.start-a.result.results c.args.sets.now c.judge.result c.judge.new.out (inputs-few c.args.first.now c.args.seen c.args.line.now c.args.sets.now c.args.mem.now (record { inputs = 0; stage = record { at = 0; remaining = 0; firings = 0; printed = 0 } }) c.start-a.new.mem c.args.out.now c.if-seen-gt-SHEET.false c.requires.0 c.start-a.result c.start-a.ensures c.if-a-ne0.false) (inputs-told c.args.first.now c.args.seen c.args.line.now c.args.sets.now c.args.mem.now (record { inputs = 0; stage = record { at = 0; remaining = 0; firings = 0; printed = 0 } }) c.start-a.new.mem c.args.out.now c.if-seen-gt-SHEET.false c.requires.0 c.start-a.result c.start-a.ensures c.if-a-ne0.false) c.judge.ensures.judges in record { opens_to = opens-judged c.args.first.now c.args.seen c.args.line.now c.args.sets.now c.args.mem.now c.judge.result c.start-a.new.mem c.judge.new.out c.if-seen-gt-SHEET.false c.requires.0 c.start-a.result c.start-a.ensures c.if-a-ne0.false c.if-end-gt-SET_FILE.false c.judge.ensures.judges; within = (b, memory-started c.args.first.now c.args.seen c.args.line.now c.args.mem.now (sym c.seen_laid_out.ensures ∙ c.if-not-seen_laid_out.false) c.if-seen-gt-SHEET.false c.start-a.result c.start-a.new.mem c.start-a.ensures, c.judge.ensures.out_unchanged) }
