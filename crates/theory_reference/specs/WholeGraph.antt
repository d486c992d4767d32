-- A whole fit graph as a piece with the schedule lemma (pieces, Piece.antt), so that both halves of demand 3 follow (pieces, Alone.antt and
-- Calls.antt). Its inputs are the links of its free names, rising; an idle load says what lies on its own links and registers
-- between two sets. Assumes the schedule lemma for the graph's layout, with any meaning, and that source and credit are no links of the graph and that
-- no operator of the net uses them.
use Rattle.std.specs.Prelude.{ℕ, ◌+◌, ◌≤◌, ◌<◌, ◌≡◌, refl, ◌≢◌, ◌⊎◌, List, [], ◌∷◌, ◌++◌, length}
use Rattle.value.specs.declared.Value.{Value}
use Rattle.network.specs.Net.{Token, mark, Links}
use Rattle.network.specs.Uses.{In}
use Rattle.theory_pieces.specs.Load.{Load, opt, set_link, put, On, Clear}
use Rattle.theory_pieces.specs.Goes.{Net}
use Rattle.theory_pieces.specs.Piece.{load, Piece, Region, Neat, Means}
use Rattle.theory_pieces.specs.Sets.{Different}
use Rattle.graph.specs.Assembly.{Graph, Env, free, links_of, outputs, listed, up_from}
use Rattle.graph.specs.Yields.{Values, Answer, Yields, bound}
use Rattle.graph.specs.Fit.{Fit}
use Rattle.theory_reference.specs.WrittenOut.{links-of, no-values}

abbrev pub bare-state : Links
bare-state l = []

module _ (g : Graph) (n : ℕ) (env : Env) (source credit : ℕ) where
  -- "The inputs are the formula's free identifiers, rising", the trigger behind them.
  abbrev pub inputs : List ℕ
  inputs = links-of (listed (free g)) env

  -- What is said of values of names, said of the values of the inputs.
  abbrev pub from-inputs : (Values → ℕ → Answer → Type 0) → Means
  from-inputs M vs c a = M (bound (listed (free g)) vs no-values) c a
