-- What the search for the next small sheet knows of the rows that it has laid down: each is a row that a small sheet can have and stands, and its width and
-- free names are in tables. Definitions only; assumes nothing.
use Rattle.std.specs.Prelude.{ℕ, zero, suc, ◌≤◌, ◌<◌, ◌≡◌, true, List, [], ◌∷◌, ◌++◌, length}
use Rattle.names.specs.Names.{mask}
use Rattle.formula.specs.Tree.{exp_of}
use Rattle.formula.specs.Widths.{width}
use Rattle.formula.specs.Free.{free_e}
use Rattle.sheet_tables.specs.Nodes.{Holds}
use Rattle.sheet_listed.specs.Search.{Rows, content_at, stands_at}
use Rattle.sheet_listed.specs.Texts.{field_row}

-- The first n rows of a table.
unfoldable pub rows_to : ℕ → List ℕ → Rows
rows_to zero t = []
rows_to (suc n) t = rows_to n t ++ (field_row t (suc n) ∷ [])

-- A row that a small sheet can have, by its number.
pub record Content (q : List ℕ) : Type 0 where
  pub number : ℕ
  pub low : number < 178
  pub is : q ≡ content_at number

-- The first i rows of the table t, and the tables w of their widths and m of their masks, which have five entries.
pub record Front (t w m : List ℕ) (i : ℕ) : Type 0 where
  pub content : (r : ℕ) → 1 ≤ r → r ≤ i → Content (field_row t r)
  pub stand : (r : ℕ) → 1 ≤ r → r ≤ i → stands_at t r ≡ true
  pub widths : Holds 0 w i (λ k. width (exp_of t k))
  pub masks : Holds 0 m i (λ k. mask (free_e (exp_of t k)))
  pub widths-size : length w ≡ 5
  pub masks-size : length m ≡ 5
