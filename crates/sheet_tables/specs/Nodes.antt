-- What each row's table entries are: the widths, free names and ends of the row's node, which is an expression or a body by
-- the row's place (document 01, "Widths", "Names free in a row", "The graph").
use Rattle.std.specs.Prelude.{ℕ, ◌-◌, ◌≤◌, ◌≡◌, Bool, List, get_or}
use Rattle.names.specs.Names.{Names}
use Rattle.formula.specs.Places.{Node, expression, body, node_in, is_in_body}
use Rattle.formula.specs.Widths.{width, returned, iterated}
use Rattle.formula.specs.Free.{free_e, free_b}
use Rattle.formula.specs.Count.{Count, count_e, count_b}

abbrev pub node_at : List ℕ → List Bool → ℕ → Node
node_at t p r = node_in (is_in_body p r) t r

-- An expression returns all of its values and iterates none.
abbrev pub returned_in : Node → ℕ
returned_in (expression x) = width x
returned_in (body y) = returned y

abbrev pub iterated_in : Node → ℕ
iterated_in (expression x) = 0
iterated_in (body y) = iterated y

abbrev pub free_in : Node → Names
free_in (expression x) = free_e x
free_in (body y) = free_b y

-- A body is counted with w, the returned width of the whole loop.
abbrev pub count_in : ℕ → Node → Count
count_in w (expression x) = count_e x
count_in w (body y) = count_b w y

-- A table of which the first n rows have the entries that f says.
pub record Holds {A : Type 0} (none : A) (l : List A) (n : ℕ) (f : ℕ → A) : Type 0 where
  pub entry : (r : ℕ) → 1 ≤ r → r ≤ n → get_or l (r - 1) none ≡ f r
