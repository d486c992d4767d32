-- Refusal 31 for the machine with tags: as for the first machine (machine_valid/specs/Valid), with the figures that this one has. "Capacity here is one token a
-- tag on each link", and it is "for sheets without for", so that a graph has none of the gates of a loop. Assumes nothing.
use Rattle.std.specs.Prelude.{ℕ, ◌+◌, Bool, ◌&&◌, List, leb, eqb}
use Rattle.network.specs.Rules.{M-gate}
use Rattle.machine_layout.specs.Layout.{result_links_at, capacity_byte, untaken_of, operators_of, links_of, inputs_of, results_of, kind_byte, least_size}
use Rattle.machine_layout.specs.Kinds.{byte_of}
use Rattle.machine_valid.specs.Below.{all_below}
use Rattle.machine_valid.specs.Valid.{counts_ok, result_ok, input_ok, letter_ok, operator_ok, link_ok_from}
use Rattle.machine_planes.specs.Planes.{most_tags, untaken_under, plane_at}

-- Where the first machine has its capacity, 1 to 16, this one has 17: memory of the one is no memory of the other.
abbrev pub tag_mark : ℕ
tag_mark = 17

-- the mark, nothing in the place of the sets untaken, which each tag has a byte for, and the graph's figures
unfoldable pub tag_figures_ok : List ℕ → Bool
tag_figures_ok m = eqb (capacity_byte m) tag_mark && (eqb (untaken_of m) 0 && counts_ok m)

-- an operator of a graph without for: no byte behind M's, which are those of a loop's gates E, IC, FM and FS
unfoldable pub plain_kind : List ℕ → ℕ → Bool
plain_kind m i = leb (kind_byte m i) (byte_of M-gate)

-- 1 where a set is pushed under the tag and its result not taken, else 0
unfoldable pub untaken_under_ok : List ℕ → ℕ → Bool
untaken_under_ok m t = leb (untaken_under m t) 1

-- the tag's links: at most one token on each, and that a value
unfoldable pub plane_ok : List ℕ → ℕ → Bool
plane_ok m t = all_below (links_of m) (link_ok_from m (plane_at t) least_size)

unfoldable pub tag_valid : List ℕ → Bool
tag_valid m =
    tag_figures_ok m
    && (all_below (operators_of m) (operator_ok m)
    && (all_below (operators_of m) (plain_kind m)
    && (all_below most_tags (untaken_under_ok m)
    && (all_below most_tags (plane_ok m)
    && (all_below (inputs_of m + 1) (input_ok m) && (all_below (inputs_of m) (letter_ok m) && all_below (results_of m) (result_ok m result_links_at)))))))
