-- What the evaluation call (eval_sheet's specs/Handed `handed_out`, the contract of bench_evaluate) has read, yielded and written where it is accepted, and
-- when it is. Assumes nothing.
use Prim.Native.Nat.{ℕ, zero, suc, ◌-◌, ◌*◌, ◌≤◌, ◌<◌}
use Rattle.std.specs.Prelude.{◌≡◌, Bool, true, false, List, [], ◌∷◌, ◌++◌, map, ltb, length, get_or, replicate}
use Rattle.value.specs.declared.Value.{Value}
use Rattle.value.specs.Operators.{pick}
use Rattle.value.specs.Bytes.{InRange, value_of, word_of, word_at, stored}
use Rattle.value.specs.Senses.{err}
use Rattle.value_sets.specs.Sets.{set_values}
use Rattle.formula.specs.declared.Refusal.TheVariants.{Memory, Set, Unfinished}
use Rattle.formula.specs.Refusals.{number_of}
use Rattle.formula.specs.Tree.{Exp, formula_of}
use Rattle.formula.specs.Free.{free_e}
use Rattle.formula.specs.Faults.{letters_of}
use Rattle.formula.specs.Tests.{verdict_of}
use Rattle.meaning.specs.declared.Cell.{Cell}
use Rattle.meaning.specs.declared.Evaluation.{Evaluation}
use Rattle.meaning.specs.Meaning.{Outcome, yields, inputs_hold, eval_e}
use Rattle.meaning.specs.Evaluate.{cell, cells_of, concluded, evaluated_with, evaluated, after_verdict, evaluation_of}
use Rattle.eval_sheet.specs.Handed.{Handed, answers, handed, written, told, handed_out}

-- ---- what an evaluation that is no refusal has behind it
abbrev pub refusal_in : Evaluation → List ℕ → ℕ
refusal_in e o = (told e.verdict e o).answer.refusal
