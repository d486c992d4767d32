-- Laws of specs/LoopFree.antt, and what only they need.
use Rattle.std.specs.Prelude.{ℕ, List, [], ◌∷◌}
use Rattle.std.proofs.Common.{inl, inr}
use Rattle.names.specs.Names.{Names, members}
use Rattle.formula.specs.Tree.{Exp, identifier, constant, pair, operator, let_e, if_e, for_e}
use Rattle.formula.specs.Widths.{width}
use Rattle.formula.specs.Free.{free_e}
use Rattle.meaning.specs.Loopless.{Loopless}
use Rattle.graph.specs.Assembly.{Graph, wire, nothing, beside, bind, gate, loop, Gate, up_from, T, F}
use Rattle.graph.specs.Translation.{row, gated, arm, merged, merge_row, test_name, returned_name, graph_e}
use Rattle.theory_reference.specs.GraphLayout.{RingOf}
use Rattle.theory_rest.specs.LoopFree.{Loop-free}

-- It has no gate of a loop.
pub no-ring : (g : Graph) → Loop-free g → (n c r : ℕ) → RingOf g n c r → ⊥
no-ring (wire x) h n c r k = k
no-ring nothing h n c r k = k
no-ring (beside a b) h n c r (inl k) = no-ring a h.0 _ c r k
no-ring (beside a b) h n c r (inr k) = no-ring b h.1 _ c r k
no-ring (bind ns a b) h n c r (inl k) = no-ring a h.0 _ c r k
no-ring (bind ns a b) h n c r (inr k) = no-ring b h.1 _ c r k
no-ring (gate g a) h n c r k = no-ring a h n c r k
no-ring (loop ns a b) h n c r k = h

row-free : (f : ℕ → Graph) → ((x : ℕ) → Loop-free (f x)) → (xs : List ℕ) → Loop-free (row f xs)
unfolding row
row-free f h [] = tt
row-free f h (x ∷ xs) = (h x, row-free f h xs)

arm-free : (g : Gate) (f : Names) (a : Graph) → Loop-free a → Loop-free (arm g f a)
unfolding arm
arm-free g f a h = (row-free (gated g) (λ x. (tt, tt)) (members f), h)

merge_free : (control w : ℕ) → Loop-free (merge_row control returned_name w)
unfolding merge_row
merge_free control w = row-free (merged control returned_name) (λ i. (tt, (tt, tt))) (up_from 0 w)

-- The graph of a formula without for.
pub graph-free : (x : Exp) → Loopless x → Loop-free (graph_e x)
unfolding graph_e
graph-free (identifier a) h = tt
graph-free (constant k a) h = tt
graph-free (pair x y) h = (graph-free x h.0, graph-free y h.1)
graph-free (operator k x) h = graph-free x h
graph-free (let_e a b x y) h = (graph-free x h.0, graph-free y h.1)
graph-free (if_e t x y) h =
    (graph-free t h.0, (arm-free T (free_e x) (graph_e x) (graph-free x h.1), (arm-free F (free_e y) (graph_e y) (graph-free y h.2), merge_free test_name (width x))))
graph-free (for_e a b x y) h = absurd h
