-- What a call under a tag leaves as it was: every other tag's links and byte, and all that stands once. Assumes a memory in good standing before the call.
use Rattle.std.specs.Prelude.{ℕ, ◌+◌, ◌≤◌, ◌<◌, ◌≡◌, ◌≢◌, List, length, get_or}
use Rattle.machine_layout.specs.Layout.{links_at, operators_of, register_at}
use Rattle.machine_planes.specs.Planes.{most_tags, untaken_under, tagged_need, plane_of}

-- what a call under tag t makes of a memory: it changes the tag's byte and links, and nothing else
pub record Changed (t : ℕ) (m n : List ℕ) : Type 0 where
  pub size : length n ≡ length m
  pub low : (at : ℕ) → at < links_at → get_or n at 0 ≡ get_or m at 0
  pub byte : untaken_under n t ≤ 1
  pub bytes : (u : ℕ) → u ≢ t → untaken_under n u ≡ untaken_under m u
  pub beside : (u : ℕ) → u < most_tags → u ≢ t → plane_of n u ≡ plane_of m u
