-- What a refused call says and hands back, call by call: demand 1, "hands every lent byte back unaltered, save a run that has used up its lent firings", or, run by
-- rounds, its lent rounds (document 02, Job 7); a tray of sets is another exception, of which "the rule on unaltered memory speaks of the refused set alone"
-- (document 02, Job 1); document 01, "A refusal's counts and rows are 0 unless stated". A log's check stands in LogKept, the tidy call in TidyRefused, the drift call in DriftRefused. Here without the refusals' names, which
-- Refused adds. Assumes nothing.
use Rattle.std.specs.Prelude.{ℕ, zero, suc, ◌≡◌, refl, Bool, true, false, ◌&&◌, ◌⊎◌, ◌≢◌, List, leb, ltb, eqb, length}
use Rattle.value.specs.declared.Value.{Value}
use Rattle.formula.specs.declared.Refusal.TheVariants.{Memory, Capacity, Unfinished}
use Rattle.formula.specs.declared.Figures.{Figures}
use Rattle.formula.specs.Refusals.{number_of}
use Rattle.formula.specs.Tree.{Exp, formula_of}
use Rattle.formula.specs.Free.{free_e}
use Rattle.formula.specs.Faults.{letters_of}
use Rattle.formula.specs.Tests.{verdict_of, figures_of, answer_by, reading_of}
use Rattle.sheet_read.specs.declared.read.ReadAnswer.{ReadAnswer}
use Rattle.sheet_read.specs.Reading.{answer_of}
use Rattle.meaning.specs.Meaning.{Outcome as Ended, yields, inputs_hold, eval_e}
use Rattle.meaning.specs.declared.Evaluation.{Evaluation}
use Rattle.meaning.specs.Evaluate.{concluded, evaluated_with, evaluated, after_verdict, evaluation_of}
use Rattle.value_sets.specs.Sets.{set_values}
use Rattle.eval_sheet.specs.Handed.{told, handed_out, Handed as Evaluated}
use Rattle.machine_layout.specs.Layout.{operators_of, results_of, untaken_of}
use Rattle.machine_firing.specs.Fire.{able_at, fired_at}
use Rattle.machine_valid.specs.Below.{all_below}
use Rattle.machine_runs.specs.Run.{runs, still_at}
use Rattle.machine_calls.specs.Calls.{Outcome, Handed, outcome, handed, answers, refusal, size_in, standing, pushed, fired, ran, result_ready, taken}
use Rattle.machine_calls.specs.CallLaws.{ran-refused}
use Rattle.machine_rounds.specs.Rounds.{Outcome as RoundsOutcome, ran_rounds}
use Rattle.machine_rounds.specs.RoundLaws.{rounds-refused}
use Rattle.machine_rounds.specs.Turns.{RoundsMade}
use Rattle.machine_rounds.specs.Counted.{RoundsCount, rounds-count}
use Rattle.machine_tray.specs.Tray.{set_bytes, trayed, cut, went_in}
use Rattle.machine_tray.specs.TrayLaws.{tray-of-none}
use Rattle.machine_tray.specs.OneByOne.{either, push-leaves, Pushes, Stops, went-in, refused-set}
use Rattle.machine_start.specs.Start.{Begun, by_verdict, started}
use Rattle.refusals.specs.Rows.{RowTold}
use Rattle.refusals.specs.RunCount.{Firings}

-- A refusal with count 0 that leaves the memory, or an acceptance.
abbrev pub Keeps : List ℕ → Outcome → Type 0
Keeps m o = o.answer.refusal ≢ 0 → (o.answer.count ≡ 0) × (o.mem ≡ m)

-- A tray of sets: "For this call the rule on unaltered memory speaks of the refused set alone." The memory is the one after the sets that went in, each
-- an accepted push, and the push of the set behind them gives the refusal and changes nothing.
abbrev pub SetRefused : List ℕ → List ℕ → ℕ → Type 0
SetRefused m sets number =
    Pushes (went_in m sets number) m (trayed m sets number).mem × Stops (cut number (set_bytes m) sets) (went_in m sets number) (trayed m sets number)

-- "A run's 36 keeps its firings and gives their count", which is the lent number: the memory is the one after that many firings.
abbrev pub UsedUpFirings : List ℕ → ℕ → Type 0
UsedUpFirings m firings =
    ((ran m firings).answer.refusal ≡ number_of Unfinished) × ((ran m firings).answer.count ≡ firings) × Firings (size_in m) (operators_of m) firings m (ran m firings).mem

-- A run by rounds: at 36 "the firings kept as at run's 36. The call gives its firings and its rounds, on 36 too" (document 02, Job 7). The rounds are the
-- lent number, and the memory is the one after them.
abbrev pub UsedUpRounds : List ℕ → ℕ → Type 0
UsedUpRounds m number =
    ((ran_rounds m number).answer.refusal ≡ number_of Unfinished) × ((ran_rounds m number).answer.rounds ≡ number)
    × RoundsMade (size_in m) (operators_of m) number (ran_rounds m number).answer.firings m (ran_rounds m number).mem

-- 11 and 31 leave the memory.
abbrev pub RoundsLeave : List ℕ → RoundsOutcome → Type 0
RoundsLeave m o = (o.answer.rounds ≡ 0) × (o.answer.firings ≡ 0) × (o.mem ≡ m)

abbrev pub KeepsBoth : List ℕ → List ℕ → Handed → Type 0
KeepsBoth m out h = h.answer.refusal ≢ 0 → (h.answer.count ≡ 0) × (h.mem ≡ m) × (h.out ≡ out)

-- ---- sheets, with the row that goes with the refusal
-- Reading is lent the sheet and its kinds line alone.
abbrev pub ReadKeeps : List ℕ → List ℕ → ReadAnswer → Type 0
ReadKeeps sheet line a = a.refusal ≢ 0 → RowTold sheet line a.refusal a.row × (a.rows ≡ 0) × (a.operators ≡ 0) × (a.inputs ≡ 0) × (a.results ≡ 0)

abbrev pub StartKeeps : List ℕ → List ℕ → List ℕ → Begun → Type 0
StartKeeps sheet line m b = b.answer.refusal ≢ 0
    → RowTold sheet line b.answer.refusal b.answer.row × (b.answer.operators ≡ 0) × (b.answer.inputs ≡ 0) × (b.answer.results ≡ 0) × (b.mem ≡ m)

abbrev pub EvaluateKeeps : List ℕ → List ℕ → List ℕ → Evaluated → Type 0
EvaluateKeeps sheet line out e = e.answer.refusal ≢ 0
    → RowTold sheet line e.answer.refusal e.answer.row × (e.answer.width ≡ 0) × (e.answer.rounds ≡ 0) × (e.out ≡ out)
