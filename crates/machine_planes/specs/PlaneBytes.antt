-- The bytes of a tag's machine: what stands once is the memory's, but for the capacity and the sets untaken, and its links are those of the tag's plane.
-- Assumes that the memory has its planes and that the tag is one; it may hold anything.
use Rattle.std.specs.Prelude.{ℕ, ◌+◌, ◌-◌, ◌*◌, ◌≤◌, ◌<◌, ◌≡◌, ◌≢◌, take, drop}
use mathlib.Core.List.{List, ◌++◌, append_assoc}
use Rattle.std.proofs.Math.ListN.{set}
use Rattle.value.specs.Bytes.{word_at}
use Rattle.machine_layout.specs.Layout.{capacity_at, operator_count_at, link_count_at, input_count_at, result_count_at, untaken_at, trigger_at, input_links_at, result_links_at, input_kinds_at, capacity_byte, operators_of, links_of, inputs_of, results_of, untaken_of, trigger_of, input_link, result_link, stored_kinds, most_inputs, most_results, most_operators, most_links, links_at, least_size, link_at, link_from, need, number16, name_at, operator_at, ports_at, port_of, kind_byte, register_at, part, put}
use Rattle.machine_firing.specs.Parts.{length-put, drop-put-above, part_length, part-set-below}
use Rattle.machine_firing.specs.Fire.{register_of}

-- ---- the machine of a tag: what stands once, and the plane
abbrev pub headed : List ℕ → ℕ → List ℕ
headed x b = set (set x capacity_at 1) untaken_at b
