-- Document 01: "Body places are d of a for, and, of a row in a body place, d of a let and b, c of an if. All other places
-- are expression places." A row is named by a later one, so places are found from the last row down.
use Rattle.std.specs.Prelude.{ℕ, zero, suc, ◌-◌, Bool, true, false, cond, List, [], ◌∷◌, get_or, set, replicate}
use Rattle.formula.specs.declared.Shape.{Shape}
use Rattle.formula.specs.declared.Shape.TheVariants.{Identifier, Constant, Pair, Operator, Let, If, For, Iter}
use Rattle.formula.specs.Sheet.{shape_at}
use Rattle.formula.specs.Tree.{Exp, Body, exp_of, body_of}

-- The rows that a row names in body places; `is_in_body` says whether the row itself is in one.
unfoldable pub bodies_in : Bool → Shape → List ℕ
bodies_in is_in_body (Identifier a) = []
bodies_in is_in_body (Constant k a) = []
bodies_in is_in_body (Pair a b) = []
bodies_in is_in_body (Operator a b) = []
bodies_in is_in_body (Let a b c d) = cond is_in_body (d ∷ []) []
bodies_in is_in_body (If a b c) = cond is_in_body (b ∷ c ∷ []) []
bodies_in is_in_body (For a b c d) = d ∷ []
bodies_in is_in_body (Iter a) = []

-- Whether row r is in a body place, by a list with an entry for each row.
abbrev pub is_in_body : List Bool → ℕ → Bool
is_in_body p r = get_or p (r - 1) false

unfoldable pub mark : List ℕ → List Bool → List Bool
mark [] p = p
mark (x ∷ xs) p = mark xs (set p (x - 1) true)

-- The rows r, r - 1, .. 1 mark the body places that they name.
unfoldable pub mark_down : List ℕ → ℕ → List Bool → List Bool
unfolding mark bodies_in shape_at
mark_down t zero p = p
mark_down t (suc r) p = mark_down t r (mark (bodies_in (is_in_body p (suc r)) (shape_at t (suc r))) p)

-- The places of a sheet of n rows with the fields t.
unfoldable pub places_of : List ℕ → ℕ → List Bool
unfolding mark_down
places_of t n = mark_down t n (replicate n false)

-- A row as its place has it read.
pub data Node : Type 0 where
  expression : Exp → Node
  body : Body → Node

unfoldable pub node_in : Bool → List ℕ → ℕ → Node
unfolding exp_of body_of
node_in true t r = body (body_of t r)
node_in false t r = expression (exp_of t r)
