-- What an accepted sheet gives the evaluators: the tables that reading makes, and for each row what tests 4 to 8 say of it.
-- A row is evaluated as an expression or as a body, by its place (document 01: "Body places are .. All other places are
-- expression places."). Assumes nothing.
use Rattle.std.specs.Prelude.{ℕ, zero, suc, ◌+◌, ◌*◌, ◌-◌, ◌≤◌, ◌<◌, ◌≡◌, Bool, true, false, cond, ◌&&◌, List, eqb, leb, length, get_or}
use Rattle.formula.specs.declared.Shape.{Shape}
use Rattle.formula.specs.declared.Shape.TheVariants.{Identifier, Constant, Pair, Operator, Let, If, For, Iter}
use Rattle.formula.specs.Constants.{constant_most}
use Rattle.formula.specs.Sheet.{field, shape_of, shape_at, named_in}
use Rattle.formula.specs.Tree.{Exp, Body, ret, exp_node, body_node, exp_of, body_of}
use Rattle.formula.specs.TreeLaws.{AllBetween, Named}
use Rattle.formula.specs.Places.{is_in_body, places_of, node_in}
use Rattle.formula.specs.Widths.{width, returned, wide_e, wide_b}
use Rattle.formula.specs.Tests.{in_range, ranges_well, placed_well, wide_node, widths_well}

-- ---- test 4 by a row's shape
-- The bounds that evaluation rests on.
abbrev pub InBounds : Shape → Type 0
InBounds (Identifier a) = a ≤ 31
InBounds (Constant k a) = a ≤ constant_most k
InBounds (Pair a b) = Unit {0}
InBounds (Operator a b) = a ≤ 11
InBounds (Let a b c d) = a + b ≤ 32
InBounds (If a b c) = Unit {0}
InBounds (For a b c d) = a + b ≤ 32
InBounds (Iter a) = Unit {0}

-- ---- places
-- The places of the rows that a row names, where `place` is its own.
abbrev pub Placed : List Bool → Bool → Shape → Type 0
Placed p place (Identifier a) = Unit {0}
Placed p place (Constant k a) = Unit {0}
Placed p place (Pair a b) = (is_in_body p a ≡ false) × (is_in_body p b ≡ false)
Placed p place (Operator a b) = is_in_body p b ≡ false
Placed p place (Let a b c d) = (is_in_body p c ≡ false) × (is_in_body p d ≡ place)
Placed p place (If a b c) = (is_in_body p a ≡ false) × (is_in_body p b ≡ place) × (is_in_body p c ≡ place)
Placed p place (For a b c d) = (is_in_body p c ≡ false) × (is_in_body p d ≡ true)
Placed p place (Iter a) = is_in_body p a ≡ false

-- A row that is read alike in both places.
abbrev pub Plain : Shape → Type 0
Plain (Identifier a) = Unit {0}
Plain (Constant k a) = Unit {0}
Plain (Pair a b) = Unit {0}
Plain (Operator a b) = Unit {0}
Plain (Let a b c d) = ⊥
Plain (If a b c) = ⊥
Plain (For a b c d) = Unit {0}
Plain (Iter a) = ⊥

-- The width of a row in its place.
unfoldable pub width_in : Bool → List ℕ → ℕ → ℕ
unfolding width returned exp_of body_of
width_in true t r = returned (body_of t r)
width_in false t r = width (exp_of t r)

-- The fields t and the widths ws of an accepted sheet of n rows.
pub record Accepted (t ws : List ℕ) (n : ℕ) : Type 0 where
  pub fields : length t ≡ 5 * n
  pub table : n ≤ length ws
  pub named : Named t n
  pub ranged : (r : ℕ) → 1 ≤ r → r ≤ n → ranges_well t r ≡ true
  pub placed : (r : ℕ) → 1 ≤ r → r ≤ n → Placed (places_of t n) (is_in_body (places_of t n) r) (shape_at t r)
  pub iters : (r : ℕ) → 1 ≤ r → r ≤ n → placed_well t (places_of t n) r ≡ true
  pub wide : (r : ℕ) → 1 ≤ r → r ≤ n → widths_well t (places_of t n) r ≡ true
  pub widths : (r : ℕ) → 1 ≤ r → r ≤ n → get_or ws (r - 1) 0 ≡ width_in (is_in_body (places_of t n) r) t r

abbrev pub ExpPlace : Bool → Shape → Type 0
ExpPlace true s = Plain s
ExpPlace false s = Unit {0}

-- A row that is evaluated as an expression: it is in an expression place, or it ends a body and is read alike there.
pub record ExpRow (t ws : List ℕ) (r : ℕ) : Type 0 where
  pub rows : ℕ
  pub accepted : Accepted t ws rows
  pub low : 1 ≤ r
  pub high : r ≤ rows
  pub place : ExpPlace (is_in_body (places_of t rows) r) (shape_at t r)

-- A row in a body place.
pub record BodyRow (t ws : List ℕ) (r : ℕ) : Type 0 where
  pub rows : ℕ
  pub accepted : Accepted t ws rows
  pub low : 1 ≤ r
  pub high : r ≤ rows
  pub place : is_in_body (places_of t rows) r ≡ true

-- The rows that a row names, each with its place.
abbrev pub ExpChildren : List ℕ → List ℕ → ℕ → Shape → Type 0
ExpChildren t ws r (Identifier a) = Unit {0}
ExpChildren t ws r (Constant k a) = Unit {0}
ExpChildren t ws r (Pair a b) = (ExpRow t ws a × (a < r)) × (ExpRow t ws b × (b < r))
ExpChildren t ws r (Operator a b) = ExpRow t ws b × (b < r)
ExpChildren t ws r (Let a b c d) = (ExpRow t ws c × (c < r)) × (ExpRow t ws d × (d < r))
ExpChildren t ws r (If a b c) = (ExpRow t ws a × (a < r)) × (ExpRow t ws b × (b < r)) × (ExpRow t ws c × (c < r))
ExpChildren t ws r (For a b c d) = (ExpRow t ws c × (c < r)) × (BodyRow t ws d × (d < r))
ExpChildren t ws r (Iter a) = ⊥

abbrev pub BodyChildren : List ℕ → List ℕ → ℕ → Shape → Type 0
BodyChildren t ws r (Identifier a) = Unit {0}
BodyChildren t ws r (Constant k a) = Unit {0}
BodyChildren t ws r (Pair a b) = Unit {0}
BodyChildren t ws r (Operator a b) = Unit {0}
BodyChildren t ws r (Let a b c d) = (ExpRow t ws c × (c < r)) × (BodyRow t ws d × (d < r))
BodyChildren t ws r (If a b c) = (ExpRow t ws a × (a < r)) × (BodyRow t ws b × (b < r)) × (BodyRow t ws c × (c < r))
BodyChildren t ws r (For a b c d) = Unit {0}
BodyChildren t ws r (Iter a) = ExpRow t ws a × (a < r)
