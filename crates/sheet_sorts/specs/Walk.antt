-- The walk's answer (sheet_movement's specs/Sorts, 20) at a row, and what it needs of an accepted sheet's row in either place.
use Rattle.std.specs.Prelude.{ℕ, ◌+◌, ◌*◌, ◌≤◌, ◌<◌, ◌≡◌, Bool, true, false, List, length}
use Rattle.std.proofs.Common.{sym, subst, arith}
use Rattle.formula.specs.declared.Shape.{Shape}
use Rattle.formula.specs.declared.Shape.TheVariants.{Identifier, Constant, Pair, Operator, Let, If, For, Iter}
use Rattle.formula.specs.Results.{Check}
use Rattle.formula.specs.Sheet.{shape_at}
use Rattle.formula.specs.Kinds.{Kinds}
use Rattle.formula.specs.Faults.{lowest_of}
use Rattle.formula.specs.FaultLaws.{faults_at}
use Rattle.meaning.specs.Rows.{ExpRow, BodyRow, ExpChildren, BodyChildren, Plain}
use Rattle.meaning.proofs.Rows.{exp-children, body-children, ending-row}
use Rattle.eval_words.specs.Needs.{W, ExpNeeds, BodyNeeds, exp-needs, body-needs}
use Rattle.sheet_movement.specs.Sorts.{drifting}

-- A row of an accepted sheet as an expression or as a body.
abbrev pub InPlace : List ℕ → List ℕ → Bool → ℕ → Type 0
InPlace t ws false r = ExpRow t ws r
InPlace t ws true r = BodyRow t ws r

abbrev pub Placed : List ℕ → List ℕ → ℕ → Type 0
Placed t ws r = (b : Bool) × InPlace t ws b r

-- The lowest row at fault among row r and those below it.
abbrev pub lowest_at : List ℕ → Bool → Kinds → ℕ → Check
lowest_at t b kinds r = lowest_of (faults_at drifting t b kinds r)

-- The walk's answer at row r, in each place in which the row can stand.
abbrev pub Answers : List ℕ → List ℕ → ℕ → Kinds → Check → Type 0
Answers t ws r kinds c = (b : Bool) → InPlace t ws b r → c ≡ lowest_at t b kinds r

-- The rows that a row in place b names, each with its place, and the bounds of its identifiers.
abbrev pub Parts : List ℕ → List ℕ → Bool → ℕ → Shape → Type 0
Parts t ws b r (Identifier a) = a < 32
Parts t ws b r (Constant k a) = Unit {0}
Parts t ws b r (Pair x y) = (ExpRow t ws x × (x < r)) × (ExpRow t ws y × (y < r))
Parts t ws b r (Operator k x) = ExpRow t ws x × (x < r)
Parts t ws b r (Let a n x y) = (ExpRow t ws x × (x < r)) × (InPlace t ws b y × (y < r)) × ((W ws x ≡ n) × (a + n ≤ 32))
Parts t ws b r (If x y z) = (ExpRow t ws x × (x < r)) × (InPlace t ws b y × (y < r)) × (InPlace t ws b z × (z < r))
Parts t ws b r (For a n x y) = (ExpRow t ws x × (x < r)) × (BodyRow t ws y × (y < r)) × ((W ws x ≡ n) × (a + n ≤ 32))
Parts t ws b r (Iter x) = ExpRow t ws x × (x < r)

exp-parts : (t ws : List ℕ) (r : ℕ) → ExpRow t ws r → (s : Shape) → shape_at t r ≡ s → Parts t ws false r s
exp-parts t ws r h s e = go s (exp-children t ws r h s e) (exp-needs t ws r h s e)
  where
    go : (z : Shape) → ExpChildren t ws r z → ExpNeeds t ws r z → Parts t ws false r z
    go (Identifier a) c f = f.1
    go (Constant k a) c f = tt
    go (Pair x y) c f = c
    go (Operator k x) c f = c
    go (Let a n x y) c f = (c.0, c.1, (f.0, f.1))
    go (If x y z) c f = c
    go (For a n x y) c f = (c.0, c.1, (f.0, f.1))
    go (Iter x) c f = absurd c

body-parts : (t ws : List ℕ) (r : ℕ) → BodyRow t ws r → (s : Shape) → shape_at t r ≡ s → Parts t ws true r s
body-parts t ws r h s e = go s e (body-children t ws r h s e) (body-needs t ws r h s e)
  where
    ends : (z : Shape) → shape_at t r ≡ z → Plain z → Parts t ws false r z
    ends z f p = exp-parts t ws r (ending-row t ws r h (subst Plain (sym f) p)) z f

    go : (z : Shape) → shape_at t r ≡ z → BodyChildren t ws r z → BodyNeeds t ws r z → Parts t ws true r z
    go (Identifier a) i c f = ends (Identifier a) i tt
    go (Constant k a) i c f = tt
    go (Pair x y) i c f = ends (Pair x y) i tt
    go (Operator k x) i c f = ends (Operator k x) i tt
    go (Let a n x y) i c f = (c.0, c.1, (f.0, f.1))
    go (If x y z) i c f = c
    go (For a n x y) i c f = ends (For a n x y) i tt
    go (Iter x) i c f = c

pub parts : (t ws : List ℕ) (b : Bool) (r : ℕ) → InPlace t ws b r → (s : Shape) → shape_at t r ≡ s → Parts t ws b r s
parts t ws false r h s e = exp-parts t ws r h s e
parts t ws true r h s e = body-parts t ws r h s e

-- The row is in the table.
pub in_table : (t ws : List ℕ) (b : Bool) (r : ℕ) → InPlace t ws b r → (1 ≤ r) × (5 * r ≤ length t)
in_table t ws false r h = (h.low, omega (arith, h.accepted.fields, h.high))
in_table t ws true r h = (h.low, omega (arith, h.accepted.fields, h.high))
