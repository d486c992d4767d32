-- The list of small sheets is exactly the small sheets (document 02, Job 14), and 22 comes exactly for a sheet that is neither empty nor in it. The
-- lists of sheets are taken as they are defined and never computed.
use Rattle.std.specs.Prelude.{ℕ, zero, suc, ◌≤◌, ◌<◌, ◌≡◌, refl, ◌⊎◌, ◌↔◌, Bool, true, false, cond, List, [], ◌∷◌, ◌++◌, map, eqb, length, get_or}
use Rattle.formula.specs.Sheet.{row_count}
use Rattle.formula.specs.FaultRows.{Among}
use Rattle.sheet_tidied.specs.Text.{sheet_text}
use Rattle.sheet_tidied.specs.TextLaws.{Rows}
use Rattle.sheet_listed.specs.Small.{small_rows}

-- ---- the sheets of n small rows
abbrev pub before : List (List (List ℕ)) → List ℕ → List (List (List ℕ))
before l row = map (λ (rest : List (List ℕ)). row ∷ rest) l

-- n rows, each of the list of small rows.
pub record RowsListed (n : ℕ) (rs : List (List ℕ)) : Type 0 where
  pub size : length rs ≡ n
  pub listed : (i : ℕ) → i < n → Among (get_or rs i []) small_rows
