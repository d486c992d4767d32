-- Where evaluation of each set of a list ends, working them one after another is accepted, with any lent numbers that together are large enough for each set: so
-- the bound of document 02, Job 7 (RoundsReady: take-after-rounds) is never empty. For every accepted sheet and every capacity from 1 on.
-- Assumes an admissible sheet, one place a link and sets with a value for each input.
use Rattle.std.specs.Prelude.{ℕ, zero, suc, ◌+◌, ◌-◌, ◌≤◌, ◌<◌, ◌≡◌, ◌≢◌, ◌⊎◌, length, get_or, take}
use mathlib.Core.List.{List, [], ◌∷◌, ◌++◌, map}
use Rattle.theory_schedule.specs.Counts.{count}
use Rattle.value.specs.declared.Value.{Value}
use Rattle.names.specs.Names.{bit, size}
use Rattle.formula.specs.Tree.{Exp, formula_of}
use Rattle.formula.specs.Free.{free_e, inputs_of}
use Rattle.formula.specs.Count.{count_e}
use Rattle.formula.specs.Admitted.{AdmittedE}
use Rattle.formula.specs.Acceptance.{Admissible}
use Rattle.network.specs.Values.{true-value}
use Rattle.network.specs.Net.{val, Demand, fire, Links, Able, act}
use Rattle.network.specs.Commute.{Free}
use Rattle.network.specs.Ends.{take-demand}
use Rattle.theory_pieces.specs.Load.{Load, put}
use Rattle.theory_pieces.specs.Sets.{onto}
use Rattle.theory_pieces.specs.Tape.{Step, pushing, firing, taking}
use Rattle.graph.specs.Translation.{graph_e, port_of, made_of}
use Rattle.theory_wiring.specs.Machine.{net_of, TakesAt, PutsAt}
use Rattle.theory_verdicts.specs.Results.{result_of, EndsWith, EachEnds}
use Rattle.theory_verdicts.specs.Owed.{push_number, take_number, source_link, credit_link}
use Rattle.theory_verdicts.specs.Running.{places, operator_at, with_trigger, push_of, take_of, start_of, dec_able, Call, pushes, fires, runs, takes, after_steps, steps_of, steps_from, history, standing, pushed, taken}
use Rattle.theory_rounds.specs.RunsFire.{total}

-- Each set's lent numbers are together as large as it needs.
abbrev pub Enough : List ℕ → List (List ℕ) → Type 0
Enough [] lent = Unit {0}
Enough (n ∷ needs) [] = ⊥
Enough (n ∷ needs) (ns ∷ lent) = (n ≤ total ns) × Enough needs lent

-- what a lent number of 32 bits can be
abbrev pub most_lent : ℕ
most_lent = 4294967295

abbrev pub EachLentFits : List ℕ → Type 0
EachLentFits [] = Unit {0}
EachLentFits (n ∷ ns) = (n ≤ most_lent) × EachLentFits ns

abbrev pub LentFits : List (List ℕ) → Type 0
LentFits [] = Unit {0}
LentFits (ns ∷ lent) = EachLentFits ns × LentFits lent

-- Runs of one firing each: whatever a set needs can be lent in small numbers.
abbrev pub ones : ℕ → List ℕ
ones zero = []
ones (suc n) = 1 ∷ ones n
