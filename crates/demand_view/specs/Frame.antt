-- What a change of the memory has to keep for a machine to stand there still: its header (the count of untaken sets, byte 7, apart), its operators'
-- records, and for each register and each link what the links now say. One law, `stands-changed`, for every call; `stands-links` for a change of links
-- alone. Layout of the bytes: machine_layout/specs/Layout. Assumes of the graph the bounds of `Sound`.
use Rattle.std.specs.Prelude.{ℕ, zero, suc, ◌+◌, ◌*◌, ◌≤◌, ◌<◌, ◌≡◌, ◌≢◌, Bool, true, false, List, [], ◌∷◌, length, get_or, drop}
use Rattle.network.specs.Rules.{Register}
use Rattle.network.specs.Net.{Links}
use Rattle.network.specs.Fill.{remembering}
use Rattle.network.specs.Firing.{Holds}
use Rattle.machine_layout.specs.Layout.{input_kinds_at, number16, name_at, inputs_of, untaken_of, operator_at, port_of, register_at, size_of, part}
use Rattle.machine_firing.specs.Parts.{part_length}
use Rattle.machine_firing.specs.LinkLaws.{link_part}
use Rattle.graph.specs.Assembly.{Operator}
use Rattle.graph.specs.Translation.{Made}
use Rattle.theory_reference.specs.Plugged.{nowhere, registers, link-of, ports_of}
use Rattle.theory_verdicts.specs.Owed.{credit_link}

-- The bytes of the header and of the operators' records are as they were, the count of untaken sets apart.
abbrev pub Figures-kept : List ℕ → List ℕ → Type 0
Figures-kept m n = (at : ℕ) → at < 16640 → at ≢ 7 → get_or n at 0 ≡ get_or m at 0

-- The bytes below the links are as they were.
abbrev pub Low-kept : List ℕ → List ℕ → Type 0
Low-kept m n = (at : ℕ) → at < 21760 → get_or n at 0 ≡ get_or m at 0
