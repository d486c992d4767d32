-- Document 01, "The graph": how many operators a formula's graph has, and how many links its operators emit on. Only the
-- counts stand here; which operator takes from which link is the translation's, and it has these counts.
use Rattle.std.specs.Prelude.{ℕ, ◌+◌, ◌*◌, ◌-◌, Bool, true, false, cond, ◌&&◌, ◌||◌}
use Rattle.names.specs.Names.{Names, trigger, one, union, common, without, range, size, size_from}
use Rattle.formula.specs.Tree.{Exp, identifier, constant, pair, operator, let_e, if_e, for_e, Body, ret, iter, let_b, if_b}
use Rattle.formula.specs.Widths.{width, iterated, returned}
use Rattle.formula.specs.Free.{free_e, free_b}

pub record Count : Type 0 where
  pub operators : ℕ
  pub links : ℕ

abbrev pub ◌⊕◌ : Count → Count → Count
◌⊕◌ u v = record { operators = u.operators + v.operators; links = u.links + v.links }

infixr 5 ◌⊕◌
-- k operators that emit on one link each
abbrev pub gates : ℕ → Count
gates k = record { operators = k; links = k }

-- k two-way copies
abbrev pub copies : ℕ → Count
copies k = record { operators = k; links = 2 * k }

-- One IC gate: iter? and the third output always have users, the second only where both arms iterate.
abbrev pub joins : Bool → Count
joins both = record { operators = 1; links = cond both 3 2 }

-- A copy for each name that two parts of a row both use: "A name .. used k times, k above 1, passes k-1 two-way copies."
unfoldable pub shared : Names → Names → Count
unfolding size size_from
shared f g = copies (size (common f g))

-- The names of an if: the test's and the two arms' uses, a T gate on each free name of arm b and an F gate on each of arm c.
unfoldable pub gated : Names → Names → Names → Count
unfolding shared size size_from
gated t f g = shared t (union f g) ⊕ shared f g ⊕ gates (size f + size g)

-- "an arm that ends, behind any lets, in a body if always returns"
unfoldable pub returns : Body → Bool
returns (ret x) = true
returns (iter x) = false
returns (let_b a b x y) = returns y
returns (if_b t x y) = true

unfoldable pub iterates : Body → Bool
iterates (ret x) = false
iterates (iter x) = true
iterates (let_b a b x y) = iterates y
iterates (if_b t x y) = iterates x || iterates y

-- The joins of a body if behind its IC gate. Iterated results: M gates and the copies of the second output "where both arms
-- iterate, else pass straight". Returned results, w of them: w M or E gates where an arm returns, none where neither does,
-- and in all three cases w - 1 copies of the third output.
unfoldable pub joined : ℕ → Body → Body → Count
unfolding returns iterates iterated
joined w x y =
    joins (iterates x && iterates y)
    ⊕ cond (iterates x && iterates y) (gates (iterated x) ⊕ copies (iterated x - 1)) (gates 0)
    ⊕ cond (returns x || returns y) (gates w) (gates 0)
    ⊕ copies (w - 1)

-- The operators of a row and of all below it. A body is counted with w, the returned width of the whole loop.
unfoldable mutual
  unfolding shared gated joined width returned iterated size size_from free_e

  pub count_e : Exp → Count
  count_e (identifier a) = gates 0
  count_e (constant k a) = gates 1
  count_e (pair x y) = shared (free_e x) (free_e y) ⊕ count_e x ⊕ count_e y
  count_e (operator k x) = count_e x ⊕ gates 1
  count_e (let_e a b x y) = shared (free_e x) (without (free_e y) (range a b)) ⊕ count_e x ⊕ count_e y
  -- the test's output is used by each T, F and M gate
  count_e (if_e t x y) =
      gated (free_e t) (free_e x) (free_e y)
      ⊕ count_e t ⊕ copies (size (free_e x) + size (free_e y) + width x - 1)
      ⊕ count_e x ⊕ count_e y ⊕ gates (width x)
  -- an FM gate on each identifier, an FS gate on each other name of the body; iter? is used by each of them
  count_e (for_e a b x y) =
      shared (free_e x) (without (free_b y) (range a b))
      ⊕ count_e x ⊕ gates (size (free_b y)) ⊕ copies (size (free_b y) - 1)
      ⊕ count_b (returned y) y

  pub count_b : ℕ → Body → Count
  -- "A body emits iter?: true constant at iter, false at a returned expression."
  count_b w (ret x) = shared (one trigger) (free_e x) ⊕ gates 1 ⊕ count_e x
  count_b w (iter x) = shared (one trigger) (free_e x) ⊕ gates 1 ⊕ count_e x
  count_b w (let_b a b x y) = shared (free_e x) (without (free_b y) (range a b)) ⊕ count_e x ⊕ count_b w y
  -- the test's output is used by each T and F gate and by IC
  count_b w (if_b t x y) =
      gated (free_e t) (free_b x) (free_b y)
      ⊕ count_e t ⊕ copies (size (free_b x) + size (free_b y))
      ⊕ count_b w x ⊕ count_b w y ⊕ joined w x y
