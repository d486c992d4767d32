-- Where the test of a loop's body is copied. A body that iterates and returns is lets around an if (Translation.antt: graph_b); behind the test's name
-- the first arm with its gates, the second with its gates and IC each use the test, so that it passes two copies, and iter? is IC's first output.
-- That the graph of an admitted formula is such is proved in crate theory_yields. Definitions only; assumes nothing.
use Rattle.std.specs.Prelude.{ℕ, ◌≡◌, Bool, true, false, List, [], ◌∷◌}
use Rattle.names.specs.Names.{without}
use Rattle.graph.specs.Assembly.{Graph, wire, nothing, beside, bind, gate, loop, IC, free, member_of}
use Rattle.graph.specs.Translation.{test_name}

-- An if behind its test: the first arm p, the second arm q, IC with the test for its control, and what is joined, iter? first.
pub data Behind : Graph → Type 0 where
  behind : (ms ns ks : List ℕ) (k : ℕ) (both : Bool) (p q z v : Graph)
      → free p test_name ≡ true → member_of ms test_name ≡ false → free q test_name ≡ true → member_of ns test_name ≡ false
      → free z test_name ≡ false → without (free (beside (wire k) v)) (member_of (k ∷ ks)) test_name ≡ false → free v k ≡ false
      → Behind (bind ms p (bind ns q (bind (k ∷ ks) (gate (IC both) (beside (wire test_name) z)) (beside (wire k) v))))

-- Lets around an if: a let's names are never the test's.
pub data Testing : Graph → Type 0 where
  let-first : (ns : List ℕ) (a b : Graph) → (ns ≡ test_name ∷ [] → ⊥) → Testing b → Testing (bind ns a b)
  at_test : (t b : Graph) → Behind b → Testing (bind (test_name ∷ []) t b)

-- Each loop of the graph has such a body.
abbrev pub Cuttable : Graph → Type 0
Cuttable (wire x) = Unit {0}
Cuttable nothing = Unit {0}
Cuttable (beside a b) = Cuttable a × Cuttable b
Cuttable (bind ns a b) = Cuttable a × Cuttable b
Cuttable (gate g a) = Cuttable a
Cuttable (loop ns a b) = Cuttable a × Cuttable b × Testing b
