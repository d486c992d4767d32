-- The one thing that `tally-shows` assumes can be met, and the counts are not all 0: document 01's example, the lesser of two, started in 40,390 bytes (demand/specs/LesserStarts),
-- and by computation a push, a tray and a take that are lent nothing: two refused pushes, and no take.
use Rattle.std.specs.Prelude.{ℕ, ◌≡◌, refl, List, [], ◌∷◌}
use Rattle.examples.specs.Sheets.{bytes, lesser}
use Rattle.formula.specs.Tests.{verdict_of}
use Rattle.machine_layout.specs.Layout.{capacity_in}
use Rattle.machine_calls.specs.Calls.{standing, pushed, taken}
use Rattle.machine_tray.specs.Tray.{trayed}
use Rattle.machine_start.specs.Start.{started}
use Rattle.machine_tally.specs.declared.Tally.{Tally}
use Rattle.machine_tally.specs.Tallied.{tallies, after_start, after_push, after_tray, after_take}
use Rattle.demand.specs.MemoryCalls.{Call, push, tray, take, answer_of}
use Rattle.demand.specs.LesserStarts.{zeros}

abbrev pub begun : List ℕ
begun = (started (bytes lesser) (bytes "WW\n") 1 (zeros 40390)).mem

abbrev pub trial : List Call
trial = push 0 [] ∷ tray 0 [] 2 ∷ take 0 [] ∷ []
