-- The made graph of an accepted sheet is sound (demand_view/specs/Sound): its wiring, its figures and its operators are such as the machine's memory asks.
-- Document 01, refusal 31: "never given for a machine that start made". Assumes nothing but the verdict.
use Rattle.std.specs.Prelude.{ℕ, ◌+◌, ◌≤◌, ◌≡◌, refl, Bool, true, false, cond, ◌&&◌, List, [], ◌∷◌, length}
use Rattle.std.proofs.Common.{sym, subst, arith}
use Rattle.names.specs.Names.{Names, bit, size, members}
use Rattle.formula.proofs.Constants.{constant-in-range}
use Rattle.formula.specs.Tree.{Exp, identifier, constant, pair, operator, let_e, if_e, for_e, Body, ret, iter, let_b, if_b, formula_of}
use Rattle.formula.specs.Free.{free_e, free_b}
use Rattle.formula.specs.Widths.{width, returned, iterated}
use Rattle.formula.specs.Count.{returns, iterates}
use Rattle.formula.specs.Admitted.{AdmittedE, AdmittedB}
use Rattle.formula.specs.Tests.{figures_of}
use Rattle.formula.specs.Acceptance.{Admissible}
use Rattle.graph.specs.Assembly.{Graph, wire, Gate, T, F, up_from, links_of}
use Rattle.graph.specs.Translation.{row, gated, arm, merged, excepted, merge_row, except_row, straight, copied, iterated_join, returned_join, joined, graph_e, graph_b, port_of, made_of, test_name, returned_name, iterated_name, join_name}
use Rattle.theory_yields.proofs.FitGraphs.{fit-E}
use Rattle.theory_yields.proofs.BodyWidths.{wide_enough}
use Rattle.theory_wiring.proofs.FormulaCounts.{made-operators, made-links-bound}
use Rattle.theory_wiring.proofs.MadeGraph.{port-count, result_count, well-wired}
use Rattle.theory_verdicts.proofs.Admitting.{accepted-admitted, accepted-operators}
use Rattle.theory_reference.specs.Plugged.{Each}
use Rattle.machine_start.specs.Completed.{made-inputs, made-results}
use Rattle.demand_view.specs.Sound.{Formed, Sound}
use Rattle.demand_begin.specs.FormedGraphs.{ProperGate, Proper}
use Rattle.demand_begin.proofs.FormedGraphs.{graph-formed}
use Rattle.demand_begin.proofs.Positions.{each-ith}
use Rattle.demand_begin.proofs.StoredConstants.{constant-stored}

-- ---- codes and constants of the translation
row-proper : (f : ℕ → Graph) (xs : List ℕ) → ((i : ℕ) → Proper (f i)) → Proper (row f xs)
unfolding row
row-proper f [] h = tt
row-proper f (x ∷ xs) h = (h x, row-proper f xs h)

cond-proper : (b : Bool) (x y : Graph) → Proper x → Proper y → Proper (cond b x y)
cond-proper true x y p q = p
cond-proper false x y p q = q

arm-proper : (g : Gate) (f : Names) (a : Graph) → ProperGate g → Proper a → Proper (arm g f a)
unfolding arm
arm-proper g f a p q = (row-proper (gated g) (members f) (λ x. (p, (tt, tt))), q)

merge-proper : (control : ℕ) (s : Bool → ℕ) (w : ℕ) → Proper (merge_row control s w)
unfolding merge_row
merge-proper control s w = row-proper (merged control s) (up_from 0 w) (λ i. (tt, (tt, (tt, tt))))

except-proper : (control s w : ℕ) → Proper (except_row control s w)
unfolding except_row
except-proper control s w = row-proper (excepted control s) (up_from 0 w) (λ i. (tt, (tt, tt)))

straight-proper : (s w : ℕ) → Proper (straight s w)
unfolding straight
straight-proper s w = row-proper (λ i. wire (s + i)) (up_from 0 w) (λ i. tt)

copied-proper : (control w : ℕ) → Proper (copied control w)
unfolding copied
copied-proper control w = row-proper (λ i. wire control) (up_from 0 w) (λ i. tt)

iterated-proper : (x y : Body) → Proper (iterated_join x y)
unfolding iterated_join
iterated-proper x y =
    cond-proper (iterates x && iterates y) _ _ (merge-proper (join_name + 1) iterated_name (iterated x))
    (cond-proper (iterates x) _ _ (straight-proper (iterated_name true) (iterated x))
    (cond-proper (iterates y) _ _ (straight-proper (iterated_name false) (iterated y)) tt))

returned-proper : (w : ℕ) (x y : Body) → Proper (returned_join w x y)
unfolding returned_join
returned-proper w x y =
    cond-proper (returns x && returns y) _ _ (merge-proper (join_name + 2) returned_name w)
    (cond-proper (returns x) _ _ (except-proper (join_name + 2) (returned_name true) w)
    (cond-proper (returns y) _ _ (except-proper (join_name + 2) (returned_name false) w) (copied-proper (join_name + 2) w)))

joined-proper : (w : ℕ) (x y : Body) → Proper (joined w x y)
unfolding joined
joined-proper w x y = ((tt, (tt, (tt, tt))), (tt, (iterated-proper x y, returned-proper w x y)))

mutual
  unfolding graph_e graph_b

  proper-E : (x : Exp) → AdmittedE x → Proper (graph_e x)
  proper-E (identifier a) h = tt
  proper-E (constant k a) h = ((constant-in-range k a h, constant-stored k a h), tt)
  proper-E (pair x y) h = (proper-E x h.1, proper-E y h.2)
  proper-E (operator k x) h = (h.1, proper-E x h.2)
  proper-E (let_e a b x y) h = (proper-E x h.2, proper-E y h.3)
  proper-E (if_e t x y) h =
      (proper-E t h.1, (arm-proper T (free_e x) (graph_e x) tt (proper-E x h.2), (arm-proper F (free_e y) (graph_e y) tt (proper-E y h.3), merge-proper test_name returned_name (width x))))
  proper-E (for_e a b x y) h = (proper-E x h.2, proper-B (returned y) y h.3)

  proper-B : (w : ℕ) (y : Body) → AdmittedB y → Proper (graph_b w y)
  proper-B w (ret x) h = (((tt, refl), tt), proper-E x h.1)
  proper-B w (iter x) h = (((tt, refl), tt), proper-E x h.1)
  proper-B w (let_b a b x y) h = (proper-E x h.2, proper-B w y h.3)
  proper-B w (if_b t x y) h =
      (proper-E t h.1, (arm-proper T (free_b x) (graph_b w x) tt (proper-B w x h.2), (arm-proper F (free_b y) (graph_b w y) tt (proper-B w y h.3), joined-proper w x y)))

-- ---- the figures
names-below : (x : Exp) → (made_of x).inputs + bit (made_of x).triggered ≤ (made_of x).links
unfolding made_of
names-below x = subst (λ (k : ℕ). k ≤ size (free_e x) + links_of (graph_e x)) (port-count x) (up (size (free_e x)) (links_of (graph_e x)))
  where
    up : (n k : ℕ) → n ≤ n + k
    up n k = omega arith

-- ---- the operators
operators-formed : (x : Exp) → AdmittedE x → Each Formed (made_of x).operators
unfolding made_of
operators-formed x h = graph-formed (graph_e x) (size (free_e x)) (port_of x) (fit-E x h) (proper-E x h)

-- ---- the whole
pub made-sound : (s : List ℕ) → Admissible s → Sound (made_of (formula_of s))
made-sound s accepted =
    let x : Exp = formula_of s in
    let h : AdmittedE x = accepted-admitted s accepted in
    let few = accepted-operators s accepted in
    record {
      wired = well-wired x h few;
      few-operators = subst (λ (n : ℕ). n ≤ 1024) (sym (made-operators x h)) few;
      few-links = made-links-bound x h few;
      few-inputs = made-inputs x;
      names-below = names-below x;
      some_result = subst (λ (n : ℕ). 1 ≤ n) (sym (result_count x h)) (wide_enough x h);
      few-results = made-results x h;
      formed = each-ith Formed (made_of x).operators (operators-formed x h);
    }

-- Start tells the figures that reading tells.
pub same-figures : (s : List ℕ) → Admissible s
    → (length (made_of (formula_of s)).operators ≡ (figures_of s).operators) × ((made_of (formula_of s)).inputs ≡ (figures_of s).inputs)
    × (length (made_of (formula_of s)).results ≡ (figures_of s).results)
unfolding figures_of made_of
same-figures s accepted =
    let h : AdmittedE (formula_of s) = accepted-admitted s accepted in
    (made-operators (formula_of s) h, refl, result_count (formula_of s) h)
