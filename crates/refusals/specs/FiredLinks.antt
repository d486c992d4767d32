-- What an accepted fire does to the links of any memory that gets neither 11 nor 31 (document 01: "each firing does to the links just what his history rules say
-- for the next tokens"; 31 "a link named twice by one operator"). The decision is the table's, on the tokens that wait first on the operator's inputs and on its
-- register (machine_gates/specs/Decide, equal to network/specs/Rules). Its inputs lose their first token where it takes one and nothing else, its outputs get at their end
-- what it gives and nothing else, and every link that the operator does not name keeps its bytes. Two operators may share a link. Assumes nothing of the graph.
use Rattle.std.specs.Prelude.{ℕ, ◌+◌, ◌≤◌, ◌<◌, ◌≡◌, ◌≢◌, Bool, false, ◌&&◌, ◌||◌, not, List, [], ◌∷◌, ◌++◌, eqb, ltb, length}
use Rattle.std.proofs.Math.Bool.{true}
use Rattle.value.specs.Operators.{pick}
use Rattle.value.specs.Bytes.{word_or, word_at, stored}
use Rattle.machine_queue.specs.Stretch.{appended, removed}
use Rattle.formula.specs.declared.Refusal.TheVariants.{NotAble}
use Rattle.machine_layout.specs.Layout.{links_at, capacity_byte, operators_of, links_of, inputs_of, results_of, no_link, name_at, operator_at, kind_byte, port_of, register_at, size_of, link_at, need}
use Rattle.machine_gates.specs.Decide.{Decided, is_absent}
use Rattle.machine_firing.specs.Links.{on_link, removed_from, appended_from}
use Rattle.machine_firing.specs.LinkLaws.{link_part, Keeps, keeps-removed, keeps-appended, length-on, same-on, other-on, part-stored}
use Rattle.machine_firing.specs.Fire.{taken, given, planned, decision_at, plan_from, ready_from, performed_from, able_at, able_from, fired_at, fired_from}
use Rattle.machine_valid.specs.Below.{all_below, and_left, and_right, below_at}
use Rattle.machine_valid.specs.Valid.{figures_ok, unlike, unlike_at, fresh_at, result_ok, input_ok, letter_ok, named_ok, port_ok, kind_ok, register_ok, operator_ok, link_ok, valid}
use Rattle.machine_valid.specs.Figures.{valid-figures}
use Rattle.machine_calls.specs.Calls.{outcome, answers, refusal, size_in, standing, fired}
use Rattle.machine_calls.specs.CallLaws.{standing-good}

-- ---- changes of links, one after the other
abbrev pub Changes : Type 0
Changes = List (ℕ × (List ℕ → List ℕ))

abbrev pub AllKeep : Changes → Type 0
AllKeep [] = Unit {0}
AllKeep (c ∷ cs) = Keeps c.1 × AllKeep cs

abbrev pub Off : ℕ → Changes → Type 0
Off l [] = Unit {0}
Off l (c ∷ cs) = (l ≢ c.0) × Off l cs

-- ---- the firing
-- From the memory m to the memory n by a firing of operator i: its stretches, input by input, output by output, and every other one.
pub record FiredLinks (m : List ℕ) (i : ℕ) (n : List ℕ) : Type 0 where
  pub able : (decision_at m (size_in m) i).able ≡ true
  -- the first token gone where it is taken, nothing else
  pub input1 : port_of m i 0 < 3105 → link_part n (size_in m) (port_of m i 0)
      ≡ pick (decision_at m (size_in m) i).take1 (removed (link_part m (size_in m) (port_of m i 0))) (link_part m (size_in m) (port_of m i 0))
  pub input2 : port_of m i 1 < 3105 → link_part n (size_in m) (port_of m i 1)
      ≡ pick (decision_at m (size_in m) i).take2 (removed (link_part m (size_in m) (port_of m i 1))) (link_part m (size_in m) (port_of m i 1))
  pub input3 : port_of m i 2 < 3105 → link_part n (size_in m) (port_of m i 2)
      ≡ pick (decision_at m (size_in m) i).take3 (removed (link_part m (size_in m) (port_of m i 2))) (link_part m (size_in m) (port_of m i 2))
  -- what is given stands at the end, nothing else
  pub output1 : port_of m i 3 < 3105 → link_part n (size_in m) (port_of m i 3)
      ≡ pick (is_absent (decision_at m (size_in m) i).give1) (link_part m (size_in m) (port_of m i 3))
      (appended (link_part m (size_in m) (port_of m i 3)) (word_or (decision_at m (size_in m) i).give1))
  pub output2 : port_of m i 4 < 3105 → link_part n (size_in m) (port_of m i 4)
      ≡ pick (is_absent (decision_at m (size_in m) i).give2) (link_part m (size_in m) (port_of m i 4))
      (appended (link_part m (size_in m) (port_of m i 4)) (word_or (decision_at m (size_in m) i).give2))
  pub output3 : port_of m i 5 < 3105 → link_part n (size_in m) (port_of m i 5)
      ≡ pick (is_absent (decision_at m (size_in m) i).give3) (link_part m (size_in m) (port_of m i 5))
      (appended (link_part m (size_in m) (port_of m i 5)) (word_or (decision_at m (size_in m) i).give3))
  -- a link that the operator does not name
  pub elsewhere : (l : ℕ) → l < 3105 → ((p : ℕ) → p < 6 → l ≢ port_of m i p) → link_part n (size_in m) l ≡ link_part m (size_in m) l
