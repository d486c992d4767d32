-- What is read of a memory with tags lies in the bytes that the machine needs: the machine of each tag, what is able under it and whether it is free are the same in a memory that is
-- lent in part or stands with more behind it; a tag is free where its machine has no set untaken and no token on any link. Assumes that the memory has its planes.
use Rattle.std.specs.Prelude.{ℕ, ◌+◌, ◌≤◌, ◌<◌, ◌≡◌, Bool, ◌&&◌, List, ◌++◌, eqb, length, take}
use Rattle.machine_queue.specs.Stretch.{waiting}
use Rattle.machine_layout.specs.Layout.{most_operators, most_links, links_at, least_size, links_of, untaken_of, part}
use Rattle.machine_firing.specs.LinkLaws.{link_part}
use Rattle.machine_firing.specs.Fire.{able_at}
use Rattle.machine_valid.specs.Below.{all_below}
use Rattle.machine_planes.specs.Planes.{most_tags, tags_at, untaken_under, plane_bytes, plane_at, tagged_need, plane_of}
use Rattle.machine_planes.specs.PlaneBytes.{headed}
use Rattle.machine_tags.specs.TagRun.{able_under}
use Rattle.machine_tags.specs.TagCalls.{empty_link, free_tag}

-- ---- free tags
-- no set untaken, and no token on any link
abbrev pub restful : List ℕ → Bool
restful p = eqb (untaken_of p) 0 && all_below (links_of p) (λ l. eqb (waiting (link_part p least_size l)) 0)
