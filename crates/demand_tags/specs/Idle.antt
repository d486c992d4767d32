-- Which operators cannot fire, by the answers of a fire and a run: one whose fire is refused with 34, and after an accepted run every one under every tag. Assumes an accepted sheet and a
-- benched memory.
use Prim.Native.Nat.{ℕ, ◌≤◌, ◌<◌}
use Rattle.std.specs.Prelude.{◌≡◌, false, length, drop, take as first_of}
use mathlib.Core.List.{List, ◌++◌}
use Rattle.formula.specs.declared.Refusal.TheVariants.{NotAble}
use Rattle.formula.specs.Refusals.{number_of}
use Rattle.formula.specs.Acceptance.{Admissible}
use Rattle.machine_layout.specs.Layout.{operators_of}
use Rattle.machine_calls.specs.Calls.{Outcome}
use Rattle.machine_planes.specs.Planes.{most_tags, tagged_need}
use Rattle.machine_tags.specs.TagRun.{able_under}
use Rattle.machine_tags.specs.TagCalls.{tag_standing, tag_ran}

-- No operator that the memory has is able under any tag.
abbrev pub Idle : List ℕ → Type 0
Idle m = (i t : ℕ) → i < operators_of m → t < most_tags → able_under m i t ≡ false
