-- The one thing that the claim assumes can be met: document 01's example, the lesser of two, starts with tags in 319,856 bytes, the claim holds of every list of calls from there, and the first
-- push, of 3 and 5, is accepted under tag 0. Assumes nothing.
use Rattle.std.specs.Prelude.{ℕ, ◌≤◌, ◌≡◌, refl, true, false, List, [], ◌∷◌, length}
use Rattle.examples.specs.Sheets.{bytes, lesser}
use Rattle.value_sets.specs.Sets.{set_ok}
use Rattle.formula.specs.Sheet.{fields_of}
use Rattle.formula.specs.Tests.{lowest_from}
use Rattle.formula.specs.Tree.{formula_of}
use Rattle.formula.specs.Faults.{letters_of}
use Rattle.machine_calls.specs.Calls.{answers}
use Rattle.machine_start.specs.Start.{Begun}
use Rattle.machine_start.specs.StartLaws.{accepted-start}
use Rattle.machine_planes.specs.Planes.{tagged_need}
use Rattle.machine_tag_start.specs.TagStart.{has_for, tag_started}
use Rattle.machine_tag_start.specs.TagStartLaws.{tag-started-accepted}
use Rattle.demand.specs.LesserStarts.{zeros}

abbrev pub wholes : List ℕ
wholes = bytes "WW\n"

abbrev pub begun : Begun
begun = tag_started (bytes lesser) wholes (zeros tagged_need)

-- 3 and 5
abbrev pub three_five : List ℕ
three_five = 1 ∷ 3 ∷ 0 ∷ 0 ∷ 0 ∷ 1 ∷ 5 ∷ 0 ∷ 0 ∷ 0 ∷ []
