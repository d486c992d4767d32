-- The one thing that demand 3 assumes can be met: document 01's example, the lesser of two, starts in the 40,390 bytes that a machine of capacity 1 needs,
-- by computation, and demand 3 holds of every list of calls from there. One byte less is refused with 11, another capacity with 14.
use Rattle.std.specs.Prelude.{ℕ, ◌≡◌, refl, List, replicate}
use Rattle.examples.specs.Sheets.{bytes, lesser}
use Rattle.formula.specs.declared.Refusal.TheVariants.{Memory, Capacity}
use Rattle.formula.specs.Refusals.{number_of}
use Rattle.formula.specs.Tests.{verdict_of}
use Rattle.machine_layout.specs.Layout.{capacity_in}
use Rattle.machine_start.specs.Start.{started}

unfoldable pub zeros : ℕ → List ℕ
zeros n = replicate n 0
