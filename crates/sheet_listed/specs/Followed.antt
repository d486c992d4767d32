-- What stands behind a sheet in a list of sheets, and what follows it among the small ones of the list. Assumes nothing.
use Rattle.std.specs.Prelude.{◌≡◌, ℕ, ◌⊎◌, Bool}
use Rattle.std.proofs.Math.Bool.{cond}
use mathlib.Core.List.{List, [], ◌∷◌, ◌++◌, map}
use Rattle.std.proofs.Math.Option.{Option, some, none}
use Rattle.formula.specs.FaultRows.{Among}
use Rattle.sheet_tidied.specs.Text.{sheet_text}
use Rattle.sheet_listed.specs.Small.{Behind, next, none-behind, same}
use Rattle.sheet_listed.specs.Search.{Rows}

-- What the call tells of a search.
abbrev pub told : Option Rows → Behind
told none = none-behind
told (some rs) = next (sheet_text rs)

-- ---- what stands behind a sheet in a list of sheets
unfoldable pub behind_in : List Rows → List ℕ → List Rows
behind_in [] g = []
behind_in (rs ∷ l) g = cond (same (sheet_text rs) g) l (behind_in l g)

abbrev pub In : List ℕ → List Rows → Type 0
In g l = Among g (map sheet_text l)
