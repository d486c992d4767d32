-- A tree that document 01's rules admit: at every node the ranges of test 4, the widths of test 8 and the bound identifiers of
-- test 9. The formula of an accepted sheet is such a tree; theorems about formulas go by induction over it.
use Rattle.std.specs.Prelude.{ℕ, ◌+◌, ◌≤◌, ◌<◌, ◌≡◌, true}
use Rattle.formula.specs.Tree.{Exp, identifier, constant, pair, operator, let_e, if_e, for_e, Body, ret, iter, let_b, if_b}
use Rattle.formula.specs.Constants.{constant_most}
use Rattle.formula.specs.Widths.{wide_e, wide_b}
use Rattle.formula.specs.Free.{bound_e, bound_b}

-- "b is at least 1 and a+b-1 at most 31"
abbrev pub Binds : ℕ → ℕ → Type 0
Binds a b = (1 ≤ b) × (a + b ≤ 32)

abbrev pub FineE : Exp → Type 0
FineE x = (wide_e x ≡ true) × (bound_e x ≡ true)

abbrev pub FineB : Body → Type 0
FineB y = (wide_b y ≡ true) × (bound_b y ≡ true)

abbrev mutual
  pub AdmittedE : Exp → Type 0
  AdmittedE (identifier a) = a < 32
  AdmittedE (constant k a) = a ≤ constant_most k
  AdmittedE (pair x y) = FineE (pair x y) × AdmittedE x × AdmittedE y
  AdmittedE (operator k x) = FineE (operator k x) × ((1 ≤ k) × (k ≤ 11)) × AdmittedE x
  AdmittedE (let_e a b x y) = FineE (let_e a b x y) × Binds a b × AdmittedE x × AdmittedE y
  AdmittedE (if_e t x y) = FineE (if_e t x y) × AdmittedE t × AdmittedE x × AdmittedE y
  AdmittedE (for_e a b x y) = FineE (for_e a b x y) × Binds a b × AdmittedE x × AdmittedB y

  pub AdmittedB : Body → Type 0
  AdmittedB (ret x) = FineB (ret x) × AdmittedE x
  AdmittedB (iter x) = FineB (iter x) × AdmittedE x
  AdmittedB (let_b a b x y) = FineB (let_b a b x y) × Binds a b × AdmittedE x × AdmittedB y
  AdmittedB (if_b t x y) = FineB (if_b t x y) × AdmittedE t × AdmittedB x × AdmittedB y
