-- Demand 2: "A call is refused exactly when document 01 gives it a refusal, and with the first in the order there." Each call's refusal is the first of its
-- table (Conditions), for every memory, set and number; with FirstRefusal's `accepted-exactly` and `refused-exactly` this is the sentence. The calls are
-- the definitions that the contracts of their entry points cite. Assumes nothing.
use Rattle.std.specs.Prelude.{ℕ, ◌-◌, ◌≤◌, ◌≡◌, refl, Bool, true, false, not, cond, ◌&&◌, List, [], ◌∷◌, ◌++◌, leb, ltb, eqb, length, Ok, Err}
use Rattle.value.specs.declared.Value.{Value}
use Rattle.value.specs.Operators.{pick}
use Rattle.formula.specs.declared.Refusal.{Refusal}
use Rattle.formula.specs.declared.Refusal.TheVariants.{Memory, Set, Capacity, Altered, Untaken, Full, NotAble, NoResult, Unfinished}
use Rattle.formula.specs.Results.{Verdict}
use Rattle.formula.specs.declared.Figures.{Figures}
use Rattle.formula.specs.Refusals.{number_of}
use Rattle.formula.specs.Sheet.{row_count, lines_of, fields_of}
use Rattle.formula.specs.Tree.{Exp, formula_of}
use Rattle.formula.specs.Free.{free_e}
use Rattle.formula.specs.Faults.{letters_of}
use Rattle.formula.specs.Tests.{Sheet, Test, whole, laid_out, few_rows, line_fits, operators_of as operators_in, after_check, verdict_by, verdict_of, tests, row_tests, formula_tests, kind_tests, graph_tests, sheet_of, figures_of, answer_by, reading_of}
use Rattle.sheet_read.specs.Reading.{answer_of}
use Rattle.meaning.specs.Meaning.{Outcome, yields, inputs_hold, eval_e}
use Rattle.meaning.specs.declared.Evaluation.{Evaluation}
use Rattle.meaning.specs.Evaluate.{concluded, evaluated_with, evaluated, after_verdict, evaluation_of}
use Rattle.value_sets.specs.Sets.{set_values, set_ok}
use Rattle.eval_sheet.specs.Handed.{told, handed_out, handed as evaluate-handed, answers as evaluate-answers}
use Rattle.machine_layout.specs.Layout.{operators_of, inputs_of, results_of, untaken_of, stored_kinds}
use Rattle.machine_firing.specs.Fire.{able_at, fired_at}
use Rattle.machine_valid.specs.Below.{all_below}
use Rattle.machine_valid.specs.Valid.{valid}
use Rattle.machine_runs.specs.Run.{Ran, runs, still_at}
use Rattle.machine_calls.specs.Calls.{outcome, handed, answers, refusal, size_in, standing, rooms_ok, pushed_memory, pushed, fired, ended, ran, result_ready, written, taken_memory, taken}
use Rattle.machine_rounds.specs.Rounds.{Rounded, rounds_from, outcome as rounds-outcome, answers as rounds-answers, ended as rounds-ended, ran_rounds}
use Rattle.machine_start.specs.Start.{begun, by_verdict, started, refusal as startRefusal}
use Rattle.refusals.specs.FirstRefusal.{Row}
use Rattle.refusals.specs.Conditions.{failed}

-- ---- what reading says
-- The number of a verdict, 0 where the sheet passed.
abbrev pub number_in : Verdict → ℕ
number_in (Ok _) = 0
number_in (Err why) = number_of why.refusal

-- The table of a list of tests: the number of their verdict is its first refusal.
abbrev pub table_by : List Test → Sheet → List Row
table_by [] x = []
table_by (t ∷ ts) x = (failed (t.check x), t.refusal) ∷ table_by ts x
