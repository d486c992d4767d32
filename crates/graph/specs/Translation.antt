-- The translation of a formula to its graph: Brock, figures 2.3 to 2.13, as document 01, "The graph", completes them.
use Rattle.std.specs.Prelude.{ℕ, ◌+◌, Bool, true, false, cond, ◌&&◌, List, [], ◌∷◌, ◌++◌, length}
use Rattle.value.specs.declared.Value.{Value}
use Rattle.value.specs.declared.Value.TheVariants.{Truth}
use Rattle.names.specs.Names.{Names, trigger, size, size_from, members, members_from, below}
use Rattle.formula.specs.Constants.{constant_value}
use Rattle.formula.specs.Tree.{Exp, identifier, constant, pair, operator, let_e, if_e, for_e, Body, ret, iter, let_b, if_b}
use Rattle.formula.specs.Widths.{width, returned, iterated}
use Rattle.formula.specs.Free.{free_e, free_b, inputs_of}
use Rattle.formula.specs.Count.{returns, iterates}
use Rattle.graph.specs.Assembly.{Graph, wire, nothing, beside, bind, gate, loop, Gate, const, oper, T, F, M, E, IC, up_from, Operator, operators_of, outputs, links_of}

-- The names of links that no identifier has: a test's output; of each arm of an if its iter?, its iterated and its returned
-- results; the three outputs of IC.
abbrev pub test_name : ℕ
test_name = 33

abbrev pub iter_name : Bool → ℕ
iter_name true = 34
iter_name false = 67

abbrev pub iterated_name : Bool → ℕ
iterated_name true = 35
iterated_name false = 68

abbrev pub returned_name : Bool → ℕ
returned_name true = 51
returned_name false = 84

abbrev pub join_name : ℕ
join_name = 100

-- One graph for each of a list of numbers, side by side.
unfoldable pub row : (ℕ → Graph) → List ℕ → Graph
row f [] = nothing
row f (x ∷ xs) = beside (f x) (row f xs)

-- T or F on a name, with the test's output for control.
abbrev pub gated : Gate → ℕ → Graph
gated g x = gate g (beside (wire test_name) (wire x))

-- "a T gate on each free name of arm b and an F gate on each of arm c": the arm behind its gates.
unfoldable pub arm : Gate → Names → Graph → Graph
unfolding row members members_from
arm g f a = bind (members f) (row (gated g) (members f)) a

-- M on the i-th results of both arms, from the names `s` on, with a control.
abbrev pub merged : ℕ → (Bool → ℕ) → ℕ → Graph
merged control s i = gate M (beside (wire control) (beside (wire (s true + i)) (wire (s false + i))))

-- E on the i-th result of one arm.
abbrev pub excepted : ℕ → ℕ → ℕ → Graph
excepted control s i = gate E (beside (wire control) (wire (s + i)))

unfoldable pub merge_row : ℕ → (Bool → ℕ) → ℕ → Graph
unfolding row up_from
merge_row control s w = row (merged control s) (up_from 0 w)

unfoldable pub except_row : ℕ → ℕ → ℕ → Graph
unfolding row up_from
except_row control s w = row (excepted control s) (up_from 0 w)

-- Results that pass straight, and copies of one link.
unfoldable pub straight : ℕ → ℕ → Graph
unfolding row up_from
straight s w = row (λ i. wire (s + i)) (up_from 0 w)

unfoldable pub copied : ℕ → ℕ → Graph
unfolding row up_from
copied control w = row (λ i. wire control) (up_from 0 w)

-- "Its iterated results join by M on the second IC output where both arms iterate, else pass straight."
unfoldable pub iterated_join : Body → Body → Graph
unfolding iterates iterated merge_row straight
iterated_join x y =
    cond (iterates x && iterates y) (merge_row (join_name + 1) iterated_name (iterated x))
    (cond (iterates x) (straight (iterated_name true) (iterated x))
    (cond (iterates y) (straight (iterated_name false) (iterated y))
    nothing))

-- "Its returned results, as many as the whole loop returns, join by M on the third output where both arms return, by E where one
-- does; where neither does, each is a copy of that third output."
unfoldable pub returned_join : ℕ → Body → Body → Graph
unfolding returns merge_row except_row copied
returned_join w x y =
    cond (returns x && returns y) (merge_row (join_name + 2) returned_name w)
    (cond (returns x) (except_row (join_name + 2) (returned_name true) w)
    (cond (returns y) (except_row (join_name + 2) (returned_name false) w)
    (copied (join_name + 2) w)))

-- The names of an arm's outputs: iter?, the iterated results that it has, the returned results that it has.
unfoldable pub arm_names : Bool → ℕ → Body → List ℕ
unfolding up_from iterates iterated returns
arm_names side w x =
    iter_name side
    ∷ (up_from (iterated_name side) (cond (iterates x) (iterated x) 0) ++ up_from (returned_name side) (cond (returns x) w 0))

-- "A body if joins these by one IC gate." Its second output is used where both arms iterate.
unfoldable pub join_names : Bool → List ℕ
join_names true = join_name ∷ (join_name + 1) ∷ (join_name + 2) ∷ []
join_names false = join_name ∷ (join_name + 2) ∷ []

unfoldable pub joined : ℕ → Body → Body → Graph
unfolding iterates join_names iterated_join returned_join
joined w x y =
    bind (join_names (iterates x && iterates y))
    (gate (IC (iterates x && iterates y)) (beside (wire test_name) (beside (wire (iter_name true)) (wire (iter_name false)))))
    (beside (wire join_name) (beside (iterated_join x y) (returned_join w x y)))

-- A constant takes one trigger.
abbrev pub constant_of : Value → Graph
constant_of v = gate (const v) (wire trigger)

unfoldable mutual
  unfolding arm merge_row joined arm_names up_from width returned free_e

  pub graph_e : Exp → Graph
  -- Figure 2.3
  graph_e (identifier a) = wire a
  -- Figure 2.4
  graph_e (constant k a) = constant_of (constant_value k a)
  -- Figure 2.5
  graph_e (pair x y) = beside (graph_e x) (graph_e y)
  -- Figure 2.6
  graph_e (operator k x) = gate (oper k) (graph_e x)
  -- Figure 2.7
  graph_e (let_e a b x y) = bind (up_from a b) (graph_e x) (graph_e y)
  -- Figure 2.8
  graph_e (if_e t x y) =
      bind (test_name ∷ []) (graph_e t)
      (bind (up_from (returned_name true) (width x)) (arm T (free_e x) (graph_e x))
      (bind (up_from (returned_name false) (width x)) (arm F (free_e y) (graph_e y))
      (merge_row test_name returned_name (width x))))
  -- Figure 2.13
  graph_e (for_e a b x y) = loop (up_from a b) (graph_e x) (graph_b (returned y) y)

  -- A body's outputs are iter?, the iterated results, the returned results; w is the returned width of the whole loop.
  pub graph_b : ℕ → Body → Graph
  -- Figure 2.10: "false at a returned expression"
  graph_b w (ret x) = beside (constant_of (Truth false)) (graph_e x)
  -- Figure 2.11: "true constant at iter"
  graph_b w (iter x) = beside (constant_of (Truth true)) (graph_e x)
  graph_b w (let_b a b x y) = bind (up_from a b) (graph_e x) (graph_b w y)
  -- Figure 2.12
  graph_b w (if_b t x y) =
      bind (test_name ∷ []) (graph_e t)
      (bind (arm_names true w x) (arm T (free_b x) (graph_b w x))
      (bind (arm_names false w y) (arm F (free_b y) (graph_b w y))
      (joined w x y)))

-- A formula's graph: the links 0, 1, .. are those of its inputs, rising, and of the trigger behind them, where it is a free name.
pub record Made : Type 0 where
  pub operators : List Operator
  pub links : ℕ
  pub inputs : ℕ
  pub triggered : Bool
  pub results : List ℕ

-- the link of a free name of the formula
unfoldable pub port_of : Exp → ℕ → ℕ
unfolding below size_from free_e
port_of x k = below (free_e x) k

unfoldable pub made_of : Exp → Made
unfolding graph_e operators_of outputs links_of port_of size size_from free_e inputs_of
made_of x =
    let n : ℕ = size (free_e x) in
    record {
      operators = operators_of (graph_e x) n (port_of x);
      links = n + links_of (graph_e x);
      inputs = length (inputs_of x);
      triggered = free_e x trigger;
      results = outputs (graph_e x) n (port_of x);
    }
