-- What a call under a tag leaves: the machines of the other tags, but for a register that an operator changes, every byte below the registers, and the bytes of the tags.
-- Assumes that the memory has its planes and that the tags are such; it may hold anything.
use Rattle.std.specs.Prelude.{ℕ, suc, ◌+◌, ◌*◌, ◌/◌, ◌%◌, ◌≤◌, ◌<◌, ◌≡◌, ◌≢◌, ◌⊎◌, Bool, ◌&&◌, leb, ltb, eqb, take, set}
use Rattle.std.proofs.Math.Bool.{false}
use mathlib.Core.List.{List, [], ◌∷◌, ◌++◌}
use Rattle.std.proofs.Math.Option.{Option, none, some}
use Rattle.value.specs.declared.Value.{Value}
use Rattle.value.specs.Operators.{pick}
use Rattle.value.specs.Bytes.{decoded, word_or, word_bytes, word_at, stored}
use Rattle.network.specs.Rules.{Kind, constant, copy, operator, T-gate, F-gate, M-gate, E-gate, IC-gate, FM-gate, FS-gate, Input, Firing, takes, gives, never, rule}
use Rattle.network.specs.Decide.{Taken, untouched, also, with-head, decided}
use Rattle.network.specs.Fill.{remembering, Gives}
use Rattle.machine_queue.specs.Stretch.{removed, appended}
use Rattle.machine_gates.specs.Decide.{optional, heads, told, ruled, decide_at}
use Rattle.machine_gates.specs.GateLaws.{Leaves}
use Rattle.machine_layout.specs.Kinds.{byte_of, kind_of}
use Rattle.machine_layout.specs.Layout.{most_operators, most_links, registers_at, links_at, least_size, need_from, link_from, kind_byte, register_at, part, put}
use Rattle.machine_layout.specs.Fits.{stretch-fits}
use Rattle.machine_firing.specs.Links.{on_link_from, removed_from, appended_from}
use Rattle.machine_firing.specs.Parts.{length-put, part-put-below, part-put-above, part_length}
use Rattle.machine_firing.specs.LinkLaws.{Keeps, length-on, low-on, byte-kept, keeps-removed, keeps-appended}
use Rattle.machine_firing.specs.Fire.{Plan, planned, register_of, decision_from, plan_from, ready_from, moved_from, performed_from, able_from, fired_from}

abbrev pub Forgets : Option Kind → Type 0
Forgets none = Unit {0}
Forgets (some k) = remembering k ≡ false
