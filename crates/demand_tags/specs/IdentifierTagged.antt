-- A take can be accepted: the smallest sheet, one row that is an identifier, starts with tags in 319,856 bytes, its first push, of 7, is accepted under tag 0, and right behind it a take of
-- tag 0 is accepted, so that the claim's `own` says of a result what evaluation yields. Assumes nothing.
use Rattle.std.specs.Prelude.{ℕ, ◌≤◌, ◌≡◌, refl, ◌⊎◌, true, false, List, [], ◌∷◌, ◌++◌, length, get_or}
use Prim.Native.String.{String}
use Rattle.examples.specs.Sheets.{bytes}
use Rattle.value_sets.specs.Sets.{set_ok}
use Rattle.formula.specs.Sheet.{fields_of}
use Rattle.formula.specs.Tests.{lowest_from, verdict_of}
use Rattle.formula.specs.Tree.{formula_of}
use Rattle.formula.specs.Faults.{letters_of}
use Rattle.graph.specs.Translation.{made_of}
use Rattle.meaning.specs.Evaluate.{evaluation_of}
use Rattle.machine_layout.specs.Layout.{operators_of}
use Rattle.machine_calls.specs.Calls.{answers}
use Rattle.machine_start.specs.Start.{Begun}
use Rattle.machine_planes.specs.Planes.{tagged_need, plane_of}
use Rattle.machine_tags.specs.TagCalls.{free_tag}
use Rattle.machine_tag_start.specs.TagStart.{has_for, tag_started}
use Rattle.machine_tag_start.specs.TagStartLaws.{tag-started-accepted}
use Rattle.demand.specs.LesserStarts.{zeros}
use Rattle.demand.specs.Claim.{Enough, yielded}
use Rattle.demand_tags.specs.TagLists.{Call, push, take, memory_after_all, result_under}

-- x
unfoldable pub identifier : String
identifier = "     1     0     0     0     0\n"

abbrev pub one_whole : List ℕ
one_whole = bytes "W\n"

-- ---- the start
abbrev pub begun : Begun
begun = tag_started (bytes identifier) one_whole (zeros tagged_need)

-- ---- the push
abbrev pub seven : List ℕ
seven = 1 ∷ 7 ∷ 0 ∷ 0 ∷ 0 ∷ []

abbrev pub push_seven : Call
push_seven = push (length begun.mem) seven

-- ---- the take
abbrev pub pushed_seven : List ℕ
pushed_seven = memory_after_all (push_seven ∷ []) begun.mem

-- lent everything
abbrev pub take_seven : Call
take_seven = take (length pushed_seven) 0 (zeros 80)

-- What evaluation yields for a set is what the take hands out.
abbrev pub HandsOut : List ℕ → Type 0
HandsOut set = (rounds : ℕ) → Enough (bytes identifier) one_whole set rounds
    × (result_under 0 take_seven pushed_seven ≡ yielded (evaluation_of (bytes identifier) one_whole set rounds) ∷ [])
