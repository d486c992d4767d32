-- Laws of specs/PlainGraphs.antt, and what only they need.
use Rattle.std.specs.Prelude.{ℕ, ◌+◌, List, [], ◌∷◌, ◌++◌}
use Rattle.std.proofs.Common.{arith}
use Rattle.names.specs.Names.{Names, common, without, members}
use Rattle.formula.specs.Tree.{Exp, identifier, constant, pair, operator, let_e, if_e, for_e}
use Rattle.formula.specs.Widths.{width}
use Rattle.formula.specs.Free.{free_e}
use Rattle.formula.specs.Admitted.{AdmittedE}
use Rattle.meaning.specs.Loopless.{Loopless}
use Rattle.graph.specs.Assembly.{Gate, const, oper, T, F, M, E, IC, Graph, wire, nothing, beside, bind, gate, loop, free, member_of, Env, Operator, up_from, gate_of, copies_for, sharing, shared_links, first_use, second_use, named, listed, links_of, outputs, operators_of}
use Rattle.graph.specs.Translation.{row, gated, arm, merged, merge_row, test_name, returned_name, graph_e, made_of, port_of}
use Rattle.theory_reference.specs.Plugged.{Each}
use Rattle.theory_wiring.proofs.Ports.{each_append}
use Rattle.theory_tags.specs.PlainGraphs.{Plain, PlainGate, PlainGraph}

gate-plain : (g : Gate) (ins : List ℕ) (n : ℕ) → PlainGate g → Plain (gate_of g ins n)
unfolding gate_of
gate-plain (const v) ins n p = omega arith
gate-plain (oper k) ins n p = omega arith
gate-plain T ins n p = omega arith
gate-plain F ins n p = omega arith
gate-plain M ins n p = omega arith
gate-plain E ins n p = absurd p
gate-plain (IC second) ins n p = absurd p

copies_plain : (xs : List ℕ) (env e₁ e₂ : Env) → Each Plain (copies_for xs env e₁ e₂)
unfolding copies_for
copies_plain [] env e₁ e₂ = tt
copies_plain (x ∷ xs) env e₁ e₂ = (omega arith, copies_plain xs env e₁ e₂)

sharing-plain : (f g : Names) (n : ℕ) (env : Env) → Each Plain (sharing f g n env)
unfolding sharing
sharing-plain f g n env = copies_plain (listed (common f g)) env (first_use f g n env) (second_use f g n env)

operators-plain : (g : Graph) (n : ℕ) (env : Env) → PlainGraph g → Each Plain (operators_of g n env)
unfolding operators_of
operators-plain (wire x) n env p = tt
operators-plain nothing n env p = tt
operators-plain (beside a b) n env p =
    let f : Names = free a in
    let g : Names = free b in
    let m : ℕ = n + shared_links f g in
    let A : List Operator = operators_of a m (first_use f g n env) in
    let B : List Operator = operators_of b (m + links_of a) (second_use f g n env) in
    each_append Plain (sharing f g n env) (A ++ B) (sharing-plain f g n env)
    (each_append Plain A B (operators-plain a m (first_use f g n env) p.0) (operators-plain b (m + links_of a) (second_use f g n env) p.1))
operators-plain (bind ns a b) n env p =
    let f : Names = free a in
    let g : Names = without (free b) (member_of ns) in
    let m : ℕ = n + shared_links f g in
    let e₁ : Env = first_use f g n env in
    let link : Env = named ns (outputs a m e₁) (second_use f g n env) in
    let A : List Operator = operators_of a m e₁ in
    let B : List Operator = operators_of b (m + links_of a) link in
    each_append Plain (sharing f g n env) (A ++ B) (sharing-plain f g n env)
    (each_append Plain A B (operators-plain a m e₁ p.0) (operators-plain b (m + links_of a) link p.1))
operators-plain (gate g a) n env p =
    each_append Plain (operators_of a n env) (gate_of g (outputs a n env) (n + links_of a) ∷ []) (operators-plain a n env p.1)
    (gate-plain g (outputs a n env) (n + links_of a) p.0, tt)
operators-plain (loop ns a b) n env p = absurd p

-- ---- the graph of a formula
row_plain : (f : ℕ → Graph) (xs : List ℕ) → ((x : ℕ) → PlainGraph (f x)) → PlainGraph (row f xs)
unfolding row
row_plain f [] each = tt
row_plain f (x ∷ xs) each = (each x, row_plain f xs each)

arm_plain : (g : Gate) (f : Names) (a : Graph) → PlainGate g → PlainGraph a → PlainGraph (arm g f a)
unfolding arm
arm_plain g f a p q = (row_plain (gated g) (members f) (λ x. (p, (tt, tt))), q)

graph-plain : (x : Exp) → AdmittedE x → Loopless x → PlainGraph (graph_e x)
unfolding graph_e merge_row
graph-plain (identifier a) ok h = tt
graph-plain (constant k a) ok h = (tt, tt)
graph-plain (pair x y) ok h = (graph-plain x ok.1 h.0, graph-plain y ok.2 h.1)
graph-plain (operator k x) ok h = (ok.1.1, graph-plain x ok.2 h)
graph-plain (let_e a b x y) ok h = (graph-plain x ok.2 h.0, graph-plain y ok.3 h.1)
graph-plain (if_e t x y) ok h = (
  graph-plain t ok.1 h.0,
  (
    arm_plain T (free_e x) (graph_e x) tt (graph-plain x ok.2 h.1),
    (
      arm_plain F (free_e y) (graph_e y) tt (graph-plain y ok.3 h.2),
      row_plain (merged test_name returned_name) (up_from 0 (width x)) (λ i. (tt, (tt, (tt, tt)))),
    ),
  ),
)
graph-plain (for_e a b x y) ok h = absurd h

pub plain-graph : (x : Exp) → AdmittedE x → Loopless x → Each Plain (made_of x).operators
unfolding made_of
plain-graph x ok h = operators-plain (graph_e x) _ (port_of x) (graph-plain x ok h)
