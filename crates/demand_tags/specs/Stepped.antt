-- From one memory with tags to another (`Stepped`): what stands once stays, the machine of each tag is played by calls of the first machine that push and take what is
-- pushed and taken under the tag, and the tag's byte counts the sets untaken. None, a call under one tag, one step behind another, and a step of what is lent of a memory. Such steps lead
-- from a benched memory to another. Assumes an accepted sheet.
use Rattle.std.specs.Prelude.{ℕ, ◌+◌, ◌≤◌, ◌<◌, ◌≡◌, refl, ◌≢◌, List, [], ◌++◌, length, get_or, take, drop}
use Rattle.network.specs.Net.{Links}
use Rattle.formula.specs.Tree.{formula_of}
use Rattle.formula.specs.Faults.{letters_of}
use Rattle.formula.specs.Acceptance.{Admissible}
use Rattle.machine_layout.specs.Layout.{links_at}
use Rattle.machine_planes.specs.Planes.{most_tags, tags_at, untaken_under, tagged_need, plane_of}
use Rattle.machine_tags.specs.Changes.{Changed}
use Rattle.demand.specs.MemoryCalls.{Result}

abbrev pub no-sets : ℕ → List (List ℕ)
no-sets t = []

abbrev pub no-results : ℕ → List Result
no-results t = []
