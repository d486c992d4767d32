use Prim.Native.Nat.{◌+◌, ◌-◌, ◌≤◌}
use mathlib.Core.Path.{◌≡◌}
use lib.ListN.{drop}
use Rattle.sheet_listed.specs.Small.{small_rows}
use Rattle.sheet_listed.specs.Search.{place_in, place_of}
use Rattle.sheet_listed.specs.Texts.{field_row}
use Rattle.sheet_stands.proofs.contents.number_of.Given as goal

abbrev pub invariant-loop-k : goal.invariant-loop-k
invariant-loop-k l = (l.k ≤ 178) × (place_of (field_row l.t l.r) ≡ l.k + place_in (drop l.k small_rows) (field_row l.t l.r))
