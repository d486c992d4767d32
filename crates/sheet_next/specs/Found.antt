-- What the search for the next small sheet starts from, and what it answers. Definitions only; assumes nothing.
use Rattle.std.specs.Prelude.{ℕ, zero, suc, ◌≤◌, ◌≡◌, Bool, true, false, List, length}
use Rattle.std.proofs.Math.Option.{Option, some, none}
use Rattle.sheet_listed.specs.Search.{Rows, stands_at}
use Rattle.sheet_listed.specs.Texts.{field_row}
use Rattle.sheet_stands.specs.Fronts.{Content}

-- The n rows of a small sheet, in a table of five.
pub record Given (t : List ℕ) (n : ℕ) : Type 0 where
  pub size : length t ≡ 25
  pub few : n ≤ 5
  pub content : (r : ℕ) → 1 ≤ r → r ≤ n → Content (field_row t r)
  pub stand : (r : ℕ) → 1 ≤ r → r ≤ n → stands_at t r ≡ true

-- Whether a search found rows, which are then rs.
abbrev pub found : Bool → Rows → Option Rows
found true rs = some rs
found false rs = none

-- The same by their number, 0 where it found none.
abbrev pub found_as : ℕ → Rows → Option Rows
found_as zero rs = none
found_as (suc n) rs = some rs
