-- The search goes through the rows in their order (specs/Search): one row after another, with whatever can follow it; a row that does not stand and a row
-- of a loop have no small sheet. The lists of sheets are taken as they are defined and never computed.
use Rattle.std.specs.Prelude.{ℕ, zero, suc, ◌+◌, ◌-◌, ◌≤◌, ◌<◌, ◌≡◌, refl, ◌⊎◌, Bool, true, false, cond, length, get_or, take, drop}
use mathlib.Core.List.{List, [], ◌∷◌, ◌++◌, map, map-map, map-append, append_assoc, flatten}
use Rattle.formula.specs.Sheet.{field}
use Rattle.formula.specs.FaultRows.{Among}
use Rattle.sheet_tidied.specs.Text.{sheet_text}
use Rattle.sheet_tidied.specs.TextLaws.{Row, Rows as Written}
use Rattle.sheet_listed.specs.Small.{sheets_of}
use Rattle.sheet_listed.specs.Search.{Rows}

-- ---- what the search goes through
-- The sheets that begin with `front` and `row`, with any j rows behind them.
abbrev pub behind_row : Rows → List ℕ → ℕ → List Rows
behind_row front row j = map (λ (rest : Rows). front ++ (row ∷ rest)) (sheets_of j)
