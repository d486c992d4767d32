-- Document 01, "The graph": "Its returned results, as many as the whole loop returns". For each row in a body place the
-- returned width of the innermost for above it, found from the last row down, as places are; 0 for other rows.
use Rattle.std.specs.Prelude.{ℕ, zero, suc, ◌-◌, Bool, List, [], ◌∷◌, get_or, set, replicate}
use Rattle.formula.specs.declared.Shape.{Shape}
use Rattle.formula.specs.declared.Shape.TheVariants.{Identifier, Constant, Pair, Operator, Let, If, For, Iter}
use Rattle.formula.specs.Sheet.{shape_at}
use Rattle.formula.specs.Places.{bodies_in, is_in_body}

-- What a row hands on to the rows that it names in body places: a for its body's returned width, others their own loop's.
unfoldable pub handed : (ℕ → ℕ) → ℕ → Shape → ℕ
handed R w (Identifier a) = w
handed R w (Constant k a) = w
handed R w (Pair x y) = w
handed R w (Operator k x) = w
handed R w (Let a k x y) = w
handed R w (If x y z) = w
handed R w (For a k x y) = R y
handed R w (Iter x) = w

unfoldable pub fill : List ℕ → ℕ → List ℕ → List ℕ
fill [] v l = l
fill (x ∷ xs) v l = fill xs v (set l (x - 1) v)

-- The rows r, r - 1, .. 1 hand on; p has the places of the rows and R their returned widths.
unfoldable pub loops_down : List ℕ → List Bool → (ℕ → ℕ) → ℕ → List ℕ → List ℕ
unfolding fill handed bodies_in shape_at
loops_down t p R zero l = l
loops_down t p R (suc r) l =
    loops_down t p R r (fill (bodies_in (is_in_body p (suc r)) (shape_at t (suc r))) (handed R (get_or l r 0) (shape_at t (suc r))) l)

unfoldable pub loops_of : List ℕ → List Bool → (ℕ → ℕ) → ℕ → List ℕ
unfolding loops_down
loops_of t p R n = loops_down t p R n (replicate n 0)
