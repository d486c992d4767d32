-- The calls of the machine with tags (document 02, Job 12): each call's refusal is the first of its table (Conditions), and what a refused one says and hands back. A run's 36
-- "keeps its firings and gives their count". Assumes nothing.
use Rattle.std.specs.Prelude.{ℕ, ◌<◌, ◌≡◌, refl, Bool, true, false, not, ◌&&◌, ◌⊎◌, ◌≢◌, List, [], ◌∷◌, ◌++◌, ltb, eqb, length}
use Rattle.value.specs.Operators.{pick}
use Rattle.formula.specs.declared.Refusal.TheVariants.{Memory, Set, Altered, Unfinished, NoTag, NoTagResult, Loop}
use Rattle.formula.specs.Refusals.{number_of}
use Rattle.formula.specs.Tree.{Exp, formula_of}
use Rattle.formula.specs.Faults.{letters_of}
use Rattle.formula.specs.Tests.{verdict_of}
use Rattle.value_sets.specs.Sets.{set_ok}
use Rattle.machine_layout.specs.Layout.{operators_of, results_of, stored_kinds, least_size}
use Rattle.machine_valid.specs.Below.{all_below, below_all, below-fail}
use Rattle.machine_runs.specs.Run.{Ran}
use Rattle.machine_calls.specs.Calls.{Outcome, Handed, outcome, handed, answers, refusal, written_from}
use Rattle.machine_tray.specs.OneByOne.{either}
use Rattle.machine_start.specs.Start.{Begun, begun, refusal as startRefusal}
use Rattle.machine_planes.specs.Planes.{most_tags, plane_at}
use Rattle.machine_tags.specs.Least.{Least, least}
use Rattle.machine_tags.specs.TagRun.{able_under, fired_under, tag_runs, tag_still}
use Rattle.machine_tags.specs.TagValid.{tag_valid}
use Rattle.machine_tags.specs.TagCalls.{tag_standing, free_tag, lowest_free, tag_pushed_memory, tag_pushed, tag_fired, tag_ended, tag_ran, whole_result, tag_taken_memory, tag_taken}
use Rattle.machine_tag_start.specs.TagStart.{has_for, tag_by_verdict, tag_started}
use Rattle.refusals.specs.TagRunCount.{TagFirings}

-- "A run's 36 keeps its firings and gives their count", which is the lent number: the memory is the one after that many firings.
abbrev pub UsedUpTagged : List ℕ → ℕ → Type 0
UsedUpTagged m firings =
    ((tag_ran m firings).answer.refusal ≡ number_of Unfinished) × ((tag_ran m firings).answer.count ≡ firings) × TagFirings (operators_of m) firings m (tag_ran m firings).mem
