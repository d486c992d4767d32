-- The planes of a memory with tags. The links of each of sixteen tags lie in a plane of their own behind the header, the operators and the registers, which
-- stand once; a link of a plane is a stretch with one place, a queue of capacity 1. A tag's plane with what stands once is a machine's memory at capacity 1
-- (`plane_of`): what a firing does under a tag is what the machine's own does there (PlaneFirings.antt). Assumes nothing.
use Rattle.std.specs.Prelude.{ℕ, ◌+◌, ◌*◌, ◌≤◌, List, ◌++◌, get_or, take, set}
use Rattle.machine_layout.specs.Layout.{capacity_at, untaken_at, most_links, links_at, least_size, part}

abbrev pub most_tags : ℕ
most_tags = 16

abbrev pub plane_bytes : ℕ
plane_bytes = most_links * least_size

abbrev pub plane_at : ℕ → ℕ
plane_at t = links_at + t * plane_bytes

-- Behind the planes, so that no tag's machine holds another's, a byte for each tag: 1 where a set is pushed and its result not taken, else 0.
abbrev pub tags_at : ℕ
tags_at = plane_at most_tags

abbrev pub untaken_under : List ℕ → ℕ → ℕ
untaken_under m t = get_or m (tags_at + t) 0

-- 319,856 bytes
abbrev pub tagged_need : ℕ
tagged_need = tags_at + most_tags

-- The machine of a tag: capacity 1, the tag's byte for the sets untaken, and the links of its plane.
unfoldable pub plane_of : List ℕ → ℕ → List ℕ
plane_of m t = set (set (take links_at m ++ part m (plane_at t) plane_bytes) capacity_at 1) untaken_at (untaken_under m t)
