-- Demand 2 on the machine's memory: "each firing does to the links just what his history rules say for the next tokens". A fire that is accepted leaves a
-- memory that stands with links which Brock's history rule of the operator's kind (network/specs/Histories) explains, `fired-by-history`; and where an
-- operator with a free place on each output cannot fire, his rule gives nothing for the tokens that wait, `silent-by-history`. The theorem is
-- network/specs/FiringHistory's; its hypotheses come from the graph's wiring and the memory. Assumes an operator of the graph.
use Rattle.std.specs.Prelude.{ℕ, ◌≤◌, ◌≡◌, refl, true, false, List, length}
use Rattle.value.specs.declared.Value.{Value}
use Rattle.value.specs.Bytes.{word_at}
use Rattle.network.specs.Rules.{Register}
use Rattle.network.specs.Histories.{silence}
use Rattle.network.specs.Net.{Links, act}
use Rattle.network.specs.Decide.{Decision}
use Rattle.network.specs.FiringLinks.{output1, output2, output3}
use Rattle.network.specs.FiringHistory.{to-come, Fires-by-history, Wants-token}
use Rattle.machine_layout.specs.Layout.{register_at, size_of}
use Rattle.machine_firing.specs.Links.{room_at}
use Rattle.machine_firing.specs.Fire.{able_at, fired_at}
use Rattle.graph.specs.Assembly.{Operator}
use Rattle.graph.specs.Translation.{Made}
use Rattle.theory_reference.specs.Plugged.{link-of, ports_of, demand_of}
use Rattle.theory_verdicts.specs.Running.{places}
use Rattle.demand_view.specs.Stands.{word_in, Stands}

-- From the memory m, which stands with the links q, to the memory n after operator i, which is o, has fired.
pub record Fires-in-memory (g : Made) (kinds : List ℕ) (capacity : ℕ) (m : List ℕ) (q : Links) (i : ℕ) (o : Operator) (n : List ℕ) : Type 0 where
  -- the register before, as it is stored
  pub register : Register
  pub stored-register : word_at m (register_at i) ≡ word_in register
  -- the links after, as they are stored
  pub after : Links
  pub stands : Stands g kinds capacity n after
  pub by-history : Fires-by-history o.kind (ports_of o) register q after
