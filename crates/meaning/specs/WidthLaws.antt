-- The width rules of document 01 over a whole tree, and what they give: evaluation yields as many values as the width says
-- ("kinds 1 to 3 have one value, a pair the sum, ..", "a for what its body returns"), an iter as many as the iterated width.
-- Assumes that every node of the tree passes test 8.
use Rattle.std.specs.Prelude.{ℕ, zero, suc, ◌+◌, ◌≤◌, ◌≡◌, refl, true, not, ◌&&◌, List, ◌++◌, eqb, leb, length, get_or}
use Rattle.value.specs.declared.Value.{Value}
use Rattle.value.specs.Senses.{err, sense}
use Rattle.value.specs.Operators.{operands}
use Rattle.formula.specs.Tree.{Exp, identifier, constant, pair, operator, let_e, if_e, for_e, Body, ret, iter, let_b, if_b}
use Rattle.formula.specs.Widths.{width, returned, iterated, either, agree, fitting_e, fitting_b, wide_e, wide_b}
use Rattle.formula.specs.Admitted.{AdmittedE, AdmittedB}
use Rattle.meaning.specs.Meaning.{Outcome, yields, Ending, again, returns}

-- A width that there is, is w.
abbrev pub Suits : ℕ → ℕ → Type 0
Suits u w = 1 ≤ u → u ≡ w

-- ---- a tree of which every node passes test 8
abbrev mutual
  pub SoundE : Exp → Type 0
  SoundE (identifier a) = Unit {0}
  SoundE (constant k a) = Unit {0}
  SoundE (pair x y) = (wide_e (pair x y) ≡ true) × SoundE x × SoundE y
  SoundE (operator k x) = (wide_e (operator k x) ≡ true) × SoundE x
  SoundE (let_e a b x y) = (wide_e (let_e a b x y) ≡ true) × SoundE x × SoundE y
  SoundE (if_e t x y) = (wide_e (if_e t x y) ≡ true) × SoundE t × SoundE x × SoundE y
  SoundE (for_e a b x y) = (wide_e (for_e a b x y) ≡ true) × SoundE x × SoundB y

  pub SoundB : Body → Type 0
  SoundB (ret x) = SoundE x
  SoundB (iter x) = (wide_b (iter x) ≡ true) × SoundE x
  SoundB (let_b a b x y) = (wide_b (let_b a b x y) ≡ true) × SoundE x × SoundB y
  SoundB (if_b t x y) = (wide_b (if_b t x y) ≡ true) × SoundE t × SoundB x × SoundB y

-- ---- how many values there are
abbrev pub Sized : ℕ → Outcome → Type 0
Sized n (yields vs l) = length vs ≡ n
Sized n Outcome.unfinished = Unit {0}

-- n values go to the next round, w are returned.
abbrev pub SizedB : ℕ → ℕ → Ending → Type 0
SizedB n w (again vs l) = (length vs ≡ n) × (1 ≤ n)
SizedB n w (returns vs l) = length vs ≡ w
SizedB n w Ending.unfinished = Unit {0}
