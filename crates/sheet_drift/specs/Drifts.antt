-- The formulas that drift is told for (sheet_movement's specs/Drifts), row by row: a row of such a tree names rows of such trees, a row has as many
-- numbers as values, and a sheet that passes 20 has such a formula.
use Rattle.std.specs.Prelude.{ℕ, ◌≡◌, true, List, length, Ok}
use Rattle.std.proofs.Common.{sym, ◌∙◌, subst}
use Rattle.formula.specs.declared.Shape.{Shape}
use Rattle.formula.specs.declared.Shape.TheVariants.{Identifier, Constant, Pair, Operator, Let, If, For, Iter}
use Rattle.formula.specs.Sheet.{shape_at}
use Rattle.formula.specs.Tree.{exp_node, exp_of, body_of}
use Rattle.formula.proofs.TreeLaws.{exp-as}
use Rattle.formula.specs.Faults.{kind_check}
use Rattle.formula.proofs.FaultRows.{none-lowest}
use Rattle.meaning.specs.Rows.{ExpRow, ExpChildren}
use Rattle.meaning.proofs.Rows.{exp-children, exp-facts}
use Rattle.eval_words.specs.Needs.{W}
use Rattle.sheet_movement.specs.Sorts.{code_sort, sorts_kept}
use Rattle.sheet_movement.specs.Moves.{Moves, moves_e}
use Rattle.sheet_movement.specs.Drifts.{Drifts}
use Rattle.sheet_movement.proofs.Drifts.{faultless-drifts}
use Rattle.sheet_movement.proofs.Numbers.{moves-width}

-- The rows that such a row names.
abbrev pub DriftsBelow : List ℕ → Shape → Type 0
DriftsBelow t (Identifier a) = Unit {0}
DriftsBelow t (Constant k a) = k ≡ 2
DriftsBelow t (Pair a b) = Drifts (exp_of t a) × Drifts (exp_of t b)
DriftsBelow t (Operator code b) = (code_sort code (exp_of t b) ≡ true) × Drifts (exp_of t b)
DriftsBelow t (Let a b c d) = Drifts (exp_of t c) × Drifts (exp_of t d)
DriftsBelow t (If a b c) = ⊥
DriftsBelow t (For a b c d) = ⊥
DriftsBelow t (Iter a) = ⊥

module _ (t ws : List ℕ) (r : ℕ) (h : ExpRow t ws r) where
  pub tree : (s : Shape) → shape_at t r ≡ s → exp_of t r ≡ exp_node (exp_of t) (body_of t) s
  tree s e = exp-as t h.rows h.accepted.named r h.low h.high s e

  pub drifts-below : Drifts (exp_of t r) → (s : Shape) → shape_at t r ≡ s → DriftsBelow t s
  unfolding exp_node
  drifts-below d s e = go s (exp-children t ws r h s e) (subst Drifts (tree s e) d)
    where
      go : (z : Shape) → ExpChildren t ws r z → Drifts (exp_node (exp_of t) (body_of t) z) → DriftsBelow t z
      go (Identifier a) c i = i
      go (Constant k a) c i = i
      go (Pair a b) c i = i
      go (Operator code b) c i = i
      go (Let a b x y) c i = i
      go (If a b x) c i = i
      go (For a b x y) c i = i
      go (Iter a) c i = c

-- ---- a row has as many numbers as values

pub moves-counted : (t ws : List ℕ) (r : ℕ) → ExpRow t ws r → Drifts (exp_of t r) → (moves : Moves) → W ws r ≡ length (moves_e (exp_of t r) moves)
moves-counted t ws r h d moves = (exp-facts t ws r h).1 ∙ sym (moves-width (exp_of t r) d moves)

-- ---- what 20 leaves

pub kept-drifts : (t ws : List ℕ) (n : ℕ) (line : List ℕ) → ExpRow t ws n → sorts_kept t n line ≡ Ok tt → Drifts (exp_of t n)
unfolding sorts_kept kind_check
kept-drifts t ws n line h e = faultless-drifts t h.rows h.accepted.named n h.low h.high _ (none-lowest _ e)
