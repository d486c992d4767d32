-- Document 01, "Direct evaluation is lent rounds and tells those used", "A result set is sixteen values carried whole, with
-- its width; places past the width hold err", and the refusals of evaluation in their order: the sheet's with its kinds line (formula's specs/Tests),
-- 12, 36. A set is lent in the byte form (value_sets' specs/Sets). Assumes nothing.
use Rattle.std.specs.Prelude.{ℕ, ◌-◌, List, ◌++◌, map, length, replicate, Ok, Err}
use Rattle.std.proofs.Math.Option.{Option, some, none}
use Rattle.value.specs.declared.Value.{Value}
use Rattle.value.specs.Senses.{err}
use Rattle.value_sets.specs.Sets.{set_values}
use Rattle.formula.specs.declared.Refusal.{Refusal}
use Rattle.formula.specs.declared.Refusal.TheVariants.{Set, Unfinished}
use Rattle.formula.specs.Results.{Verdict, refused as refusing}
use Rattle.formula.specs.Tree.{Exp, formula_of}
use Rattle.formula.specs.Free.{free_e}
use Rattle.formula.specs.Faults.{letters_of}
use Rattle.formula.specs.Tests.{verdict_of}
use Rattle.meaning.specs.Meaning.{Outcome, yields, inputs_hold, eval_e}
use Rattle.meaning.specs.declared.Cell.{Cell}
use Rattle.meaning.specs.declared.Evaluation.{Evaluation}

abbrev pub cell : Value → Cell
cell v = record { v = v }

-- Sixteen cells, err past the values.
unfoldable pub cells_of : List Value → List Cell
cells_of vs = map cell vs ++ replicate (16 - length vs) (cell err)

-- "A refusal's counts and rows are 0 unless stated, its result set has width 0."
abbrev pub refused : Refusal → ℕ → Evaluation
refused r row = record { cells = replicate 16 (cell err); width = 0; rounds = 0; verdict = refusing r row }

-- 36 "evaluation: more rounds needed than lent"; else the rounds used are told.
unfoldable pub concluded : ℕ → Outcome → Evaluation
unfolding cells_of
concluded rounds (yields vs left) =
    record { cells = cells_of vs; width = length vs; rounds = rounds - left; verdict = Ok tt }
concluded rounds Outcome.unfinished = refused Unfinished 0

abbrev pub evaluated_with : Exp → ℕ → Option (List Value) → Evaluation
evaluated_with x rounds (some vs) = concluded rounds (eval_e x (inputs_hold (free_e x) vs) rounds)
evaluated_with x rounds none = refused Set 0

-- A formula on a set of values of these kinds.
unfoldable pub evaluated : Exp → List ℕ → List ℕ → ℕ → Evaluation
unfolding set_values concluded eval_e inputs_hold free_e
evaluated x kinds set rounds = evaluated_with x rounds (set_values kinds set)

abbrev pub after_verdict : Verdict → Evaluation → Evaluation
after_verdict (Ok _) e = e
after_verdict (Err why) e = refused why.refusal why.row

unfoldable pub evaluation_of : List ℕ → List ℕ → List ℕ → ℕ → Evaluation
unfolding verdict_of formula_of letters_of evaluated
evaluation_of sheet line set rounds =
    let e : Evaluation = evaluated (formula_of sheet) (letters_of (formula_of sheet) line) set rounds in
    after_verdict (verdict_of sheet line) e
