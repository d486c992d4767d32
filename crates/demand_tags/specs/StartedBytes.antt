-- Two things that start wrote (machine_start/specs/Start), whatever stood there before: the register of each operator stands in five bytes below 256, and no token waits on a link.
-- Assumes an accepted start.
use Rattle.std.specs.Prelude.{ℕ, zero, suc, ◌+◌, ◌≤◌, ◌<◌, ◌≡◌, List, [], ◌∷◌, length, get_or, drop}
use Rattle.value.specs.Bytes.{word_bytes, stored}
use Rattle.formula.specs.Tree.{formula_of}
use Rattle.formula.specs.Faults.{letters_of}
use Rattle.graph.specs.Translation.{Made, made_of}
use Rattle.machine_queue.specs.Stretch.{waiting}
use Rattle.machine_layout.specs.Layout.{operator_at, register_at, links_at, least_size, link_at, most_operators}
use Rattle.machine_layout.specs.Record.{record_bytes, recorded, placed}
use Rattle.machine_layout.specs.declared.Operator.{Operator as Record}
use Rattle.maker_laid.specs.Encode.{encode, encoded, written, length-placed, length-written}
use Rattle.machine_firing.specs.LinkLaws.{link_part}
use Rattle.machine_start.specs.Start.{Begun, headed, emptied, started_memory, started}
use Rattle.machine_start.specs.StartLaws.{accepted-start}
use Rattle.machine_start.specs.ReadBack.{row_read, emptied-kept, emptied-read}
use Rattle.machine_start.specs.HeaderLaws.{Fits, length-headed, headed-kept}
use Rattle.machine_start.specs.Letters.{letters-count}
use Rattle.demand_view.specs.Sound.{Sound}

abbrev pub SmallRegister : List ℕ → ℕ → Type 0
SmallRegister m i = (j : ℕ) → j < 5 → get_or m (register_at i + j) 0 < 256
