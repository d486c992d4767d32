-- The outputs of a body's graph, by the body's widths (document 01, "The graph"): the iterated results that a body has, and the returned
-- ones. A body that has a returned width returns; one that always returns, since it ends in an if, need not have such a width.
use Rattle.std.specs.Prelude.{ℕ, ◌≤◌, ◌≡◌, refl, Bool, true, false, cond}
use Rattle.formula.specs.Tree.{Exp, identifier, constant, pair, operator, let_e, if_e, for_e, Body, ret, iter, let_b, if_b}
use Rattle.formula.specs.Widths.{width, returned, iterated, either, wide_b}
use Rattle.formula.specs.Count.{returns, iterates}
use Rattle.formula.specs.Admitted.{AdmittedE, AdmittedB}
use Rattle.meaning.specs.WidthLaws.{SoundE, SoundB, Suits}

-- ---- the outputs that a body has, behind its iter?
unfoldable pub iterated_outputs : Body → ℕ
unfolding iterates iterated
iterated_outputs y = cond (iterates y) (iterated y) 0

-- as many as the whole loop returns, which is w
unfoldable pub returned_outputs : ℕ → Body → ℕ
unfolding returns
returned_outputs w y = cond (returns y) w 0
