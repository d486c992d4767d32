use mathlib.Core.Path.{sym, ◌∙◌, ap, refl}
use native.Mathlib.Omega.{arith}
use Prim.Native.Nat.{◌-◌}
use lib.ListN.{length}
use Rattle.std.specs.Prelude.{Ok}
use Rattle.formula.proofs.Acceptance.{reading-passed, reading-refused}
use Rattle.formula.proofs.Results.{exit-with}
use Rattle.sheet_read.specs.Reading.{verdict_in, operators_in}
use Rattle.sheet_read.proofs.FigureLaws.{figures-are}
use Rattle.sheet_read.proofs.read.read.Goals as goal

pub fill_tables-requires : goal.fill_tables-requires
fill_tables-requires c = (refl, refl, refl)

pub overflow_sub-last : goal.overflow_sub-last
overflow_sub-last c = let b = (c.fill_tables.ensures.accepts (ap verdict_in c.in_ok-operators.was)).some in omega (arith, b)

pub offset_bounds-masks-last : goal.offset_bounds-masks-last
offset_bounds-masks-last c = let d = (c.fill_tables.ensures.accepts (ap verdict_in c.in_ok-operators.was)).few in omega (arith, d)

pub bounds-masks-last : goal.bounds-masks-last
bounds-masks-last c = let b = (c.fill_tables.ensures.accepts (ap verdict_in c.in_ok-operators.was)).some in let d = (c.fill_tables.ensures.accepts (ap verdict_in c.in_ok-operators.was)).few in omega (arith, b, d)

pub bounds-returned-last : goal.bounds-returned-last
bounds-returned-last c = let b = (c.fill_tables.ensures.accepts (ap verdict_in c.in_ok-operators.was)).some in let d = (c.fill_tables.ensures.accepts (ap verdict_in c.in_ok-operators.was)).few in omega (arith, b, d)

pub returns-in_err-operators : goal.returns-in_err-operators
returns-in_err-operators c =
    exit-with _ _ c.from_residual.ensures.1
    ∙ sym (reading-refused c.args.sheet.now c.args.line.now _ _ (sym c.fill_tables.ensures.verdict ∙ ap verdict_in c.in_err-operators.was))

pub returns : goal.returns
returns c =
    ap Ok (figures-are c.args.sheet.now _ (c.fill_tables.ensures.accepts (ap verdict_in c.in_ok-operators.was)) c.figures.result c.figures.ensures.0 (c.figures.ensures.1 ∙ sym (ap operators_in c.in_ok-operators.was)) c.figures.ensures.2 c.figures.ensures.3)
    ∙ sym (reading-passed c.args.sheet.now c.args.line.now (sym c.fill_tables.ensures.verdict ∙ ap verdict_in c.in_ok-operators.was))
