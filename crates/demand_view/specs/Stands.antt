-- The one bridge between the machine's memory and the network (network/specs/Net): `Stands g kinds capacity m q` says that the memory m holds the machine of
-- the graph g, whose inputs have kinds with these letters, at a capacity, with the tokens of q waiting on its links. Header, operators' records and stretches:
-- machine_layout/specs/Layout. The links of q beyond the graph's own are the registers of FM and FS gates (theory_reference/specs/Plugged) and the credit link,
-- one token for each set untaken (theory_verdicts/specs/Owed). Definitions only; assumes nothing.
use Rattle.std.specs.Prelude.{ℕ, ◌+◌, ◌*◌, ◌≤◌, ◌<◌, ◌≡◌, true, cond, List, [], length, get_or}
use Rattle.std.proofs.Math.Option.{none, some}
use Rattle.value.specs.declared.Value.{Value}
use Rattle.value.specs.Bytes.{InRange, word_of, word_at}
use Rattle.value.specs.Kinds.{is_letter}
use Rattle.network.specs.Rules.{Register}
use Rattle.network.specs.Net.{Token, val, mark, Links}
use Rattle.network.specs.Fill.{remembering}
use Rattle.network.specs.Firing.{Holds}
use Rattle.machine_queue.specs.Stretch.{waiting}
use Rattle.machine_layout.specs.Layout.{capacity_byte, operators_of, links_of, inputs_of, results_of, untaken_of, no_link, trigger_of, input_link, result_link, kind_byte, port_of, register_at, size_of, need, stored_kinds}
use Rattle.machine_layout.specs.Kinds.{byte_of}
use Rattle.machine_firing.specs.LinkLaws.{link_part}
use Rattle.graph.specs.Assembly.{Operator}
use Rattle.graph.specs.Translation.{Made}
use Rattle.theory_reference.specs.Plugged.{nowhere, link-of, ports_of}
use Rattle.theory_verdicts.specs.Owed.{credit_link}
use Rattle.demand_view.specs.Sound.{Ith}

-- A stretch in which these tokens wait, the oldest first.
pub record Waits (capacity : ℕ) (s : List ℕ) (ts : List Token) : Type 0 where
  pub counted : waiting s ≡ length ts
  pub fits : length ts ≤ capacity
  pub each : (j : ℕ) → j < length ts → (v : Value) × InRange v × (get_or ts j mark ≡ val v) × (word_at s (5 * j + 1) ≡ word_of v)

-- The record of operator i.
pub record Recorded (m : List ℕ) (i : ℕ) (o : Operator) : Type 0 where
  pub kind : kind_byte m i ≡ byte_of o.kind
  pub in1 : port_of m i 0 ≡ link-of o.in1
  pub in2 : port_of m i 1 ≡ link-of o.in2
  pub in3 : port_of m i 2 ≡ link-of o.in3
  pub out1 : port_of m i 3 ≡ link-of o.out1
  pub out2 : port_of m i 4 ≡ link-of o.out2
  pub out3 : port_of m i 5 ≡ link-of o.out3

-- A register as a word: 0 before the first firing.
abbrev pub word_in : Register → ℕ
word_in none = 0
word_in (some v) = word_of v

abbrev pub Fine : Register → Type 0
Fine none = Unit {0}
Fine (some v) = InRange v

-- The register of operator i: on the gate's own link for FM and FS, fixed for the others.
pub record Registered (m : List ℕ) (q : Links) (i : ℕ) (o : Operator) : Type 0 where
  pub register : Register
  pub fine : Fine register
  pub word : word_at m (register_at i) ≡ word_in register
  pub held : Holds (remembering o.kind) (ports_of o) q register

pub record Stands (g : Made) (kinds : List ℕ) (capacity : ℕ) (m : List ℕ) (q : Links) : Type 0 where
  pub long : need (size_of capacity) ≤ length m
  pub capacity-is : capacity_byte m ≡ capacity
  pub operators-are : operators_of m ≡ length g.operators
  pub links-are : links_of m ≡ g.links
  pub inputs_are : inputs_of m ≡ g.inputs
  pub kinds-are : stored_kinds m ≡ kinds
  pub kinds-count : length kinds ≡ g.inputs
  pub kinds-letters : (j : ℕ) → j < g.inputs → is_letter (get_or kinds j 0) ≡ true
  pub results-are : results_of m ≡ length g.results
  pub untaken-is : untaken_of m ≡ length (q credit_link)
  pub untaken-few : length (q credit_link) ≤ 16
  pub trigger-is : trigger_of m ≡ cond g.triggered g.inputs no_link
  pub input-links : (j : ℕ) → j < g.inputs → input_link m j ≡ j
  pub result-links : (j : ℕ) → j < length g.results → result_link m j ≡ get_or g.results j 0
  pub recorded : (i : ℕ) (o : Operator) → Ith g.operators i o → Recorded m i o
  pub registered : (i : ℕ) (o : Operator) → Ith g.operators i o → Registered m q i o
  pub waits : (l : ℕ) → l < g.links → Waits capacity (link_part m (size_of capacity) l) (q l)
  pub nowhere-empty : q nowhere ≡ []
