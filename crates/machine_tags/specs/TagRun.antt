-- A firing and a run of the machine with tags, the small bench of document 02, Job 12: "Tokens carry it" (the tag), "fire names an operator and a tag",
-- "Run picks the least-numbered able operator and then its lowest able tag". A token carries its tag by its place: the links of each tag are a plane of their own
-- (machine_planes/specs/Planes), and a firing under a tag is the first machine's, on the links of that plane, each with one place. Assumes nothing.
use Rattle.std.specs.Prelude.{ℕ, zero, suc, ◌+◌, Bool, not, List, ltb}
use Rattle.value.specs.Operators.{pick}
use Rattle.machine_layout.specs.Layout.{least_size}
use Rattle.machine_firing.specs.Fire.{able_from, fired_from}
use Rattle.machine_runs.specs.Run.{Ran, ran}
use Rattle.machine_planes.specs.Planes.{most_tags, plane_at}
use Rattle.machine_tags.specs.Least.{least}

-- operator i can fire under tag t, and the memory after it has
abbrev pub able_under : List ℕ → ℕ → ℕ → Bool
able_under m i t = able_from m (plane_at t) least_size i

abbrev pub fired_under : List ℕ → ℕ → ℕ → List ℕ
fired_under m i t = fired_from m (plane_at t) least_size i

-- "its lowest able tag", or 16; an operator is able where it has one
unfoldable pub lowest_tag : List ℕ → ℕ → ℕ
lowest_tag m i = least (able_under m i) most_tags

unfoldable pub able_tagged : List ℕ → ℕ → Bool
able_tagged m i = ltb (lowest_tag m i) most_tags

-- "the least-numbered able operator" of n, or n
unfoldable pub least_operator : List ℕ → ℕ → ℕ
least_operator m n = least (able_tagged m) n

-- the run of n operators with b firings left and c made
unfoldable pub tag_runs : ℕ → ℕ → List ℕ → ℕ → Ran
tag_runs n zero m c = ran m c
tag_runs n (suc b) m c =
    pick (ltb (least_operator m n) n) (tag_runs n b (fired_under m (least_operator m n) (lowest_tag m (least_operator m n))) (c + 1)) (ran m c)

-- nothing can fire
unfoldable pub tag_still : List ℕ → ℕ → Bool
tag_still m n = not (ltb (least_operator m n) n)
