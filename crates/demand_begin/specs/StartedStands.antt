-- Start leaves the machine of the made graph, empty: its operators and registers, its header, no token on any link, no set untaken, and every FM and FS as before
-- its first firing; and the letters of its inputs' kinds (document 02, Job 6). Document 01, demand 3: "Start a machine empty for an accepted sheet". Assumes a
-- sound graph, a letter for each input, a capacity of 1 to 16 and a memory of the length that refusal 11 asks for.
use Rattle.std.specs.Prelude.{ℕ, ◌+◌, ◌≤◌, ◌<◌, ◌≡◌, refl, Bool, true, false, List, [], ◌∷◌, ◌++◌, length, get_or, drop}
use Rattle.value.specs.Kinds.{is_letter}
use Rattle.formula.specs.Tree.{formula_of}
use Rattle.formula.specs.Faults.{letters_of}
use Rattle.formula.specs.Acceptance.{Admissible, Kinded}
use Rattle.network.specs.Rules.{Kind, constant, copy, operator, T-gate, F-gate, M-gate, E-gate, IC-gate, FM-gate, FS-gate, Register}
use Rattle.network.specs.Net.{Token, mark, Links}
use Rattle.network.specs.Fill.{remembering, register-token}
use Rattle.network.specs.Firing.{Holds}
use Rattle.network.specs.Uses.{In}
use Rattle.theory_pieces.specs.Load.{put, On}
use Rattle.machine_queue.specs.Stretch.{waiting}
use Rattle.machine_layout.specs.Layout.{links_at, input_kinds_at, inputs_of, operator_at, register_at, size_of, link_at, need, part, stored_kinds}
use Rattle.machine_layout.specs.Fits.{stretch-fits}
use Rattle.machine_firing.specs.LinkLaws.{link_part}
use Rattle.graph.specs.Assembly.{Operator}
use Rattle.graph.specs.Translation.{Made, made_of}
use Rattle.theory_reference.specs.Plugged.{nowhere, registers, link-of, ports_of}
use Rattle.theory_reference.specs.Marks.{register_of, marks, Remembers-in}
use Rattle.theory_wiring.specs.Links.{optional, output_links}
use Rattle.theory_wiring.specs.Ports.{Ported}
use Rattle.theory_verdicts.specs.Owed.{credit_link}
use Rattle.theory_verdicts.specs.Running.{start_of}
use Rattle.maker_laid.specs.Encode.{held_of, encode, encoded, written, length-written}
use Rattle.maker_laid.specs.Encode.{port_of as portWritten}
use Rattle.machine_start.specs.Start.{Begun, headed, emptied, started_memory, started}
use Rattle.machine_start.specs.StartLaws.{accepted-start}
use Rattle.machine_start.specs.ReadBack.{length-emptied, emptied-kept, emptied-read}
use Rattle.machine_start.specs.HeaderLaws.{Fits, length-headed, headed-kept, headed-capacity, headed-operators, headed-links, headed-inputs, headed-results, headed-untaken, headed-trigger, headed-input, headed-result, headed-kinds}
use Rattle.machine_start.specs.Letters.{letters-count, letters-each}
use Rattle.demand_view.specs.Sound.{Ith, HeldOf, Sound}
use Rattle.demand_view.specs.Stands.{Waits, Recorded, word_in, Fine, Registered, Stands}

-- ---- links at the start
-- the links on which a mark lies
abbrev pub Marked : ℕ → Type 0
Marked r = (registers ≤ r) × (r < registers + 3105)
