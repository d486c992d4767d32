-- What the maker owes about the numbers of links and operators, as one record: each link has one taker and one putter, and push, take, source and
-- credit keep apart from the graph. It gives what Made.antt and Calls.antt ask for: that operators commute, and that source and credit link are
-- used by push and take alone. Facts about fresh numbers, proved once over the translation.
use Rattle.std.specs.Prelude.{ℕ, ◌≡◌, ◌≢◌, List}
use Rattle.network.specs.Net.{Demand, halt}
use Rattle.network.specs.Commute.{Free}
use Rattle.network.proofs.Wired.{never-asks, never-emits}
use Rattle.network.proofs.Ends.{machine}
use Rattle.network.specs.Uses.{In}
use Rattle.network.proofs.Uses.{Apart-ends, machine-free}
use Rattle.theory_pieces.proofs.Tape.{Source-apart}
use Rattle.theory_pieces.proofs.Calls.{Credit-apart}

module _ (graph : ℕ → Demand) (push take source credit : ℕ) (ins outs : List ℕ) (R W : ℕ → ℕ → Type 0) where
  pub record Wiring : Type 0 where
    pub ends : Apart-ends graph push take source credit ins outs R W
    pub puts-no-source : (a : ℕ) → W a source → ⊥
    pub push-halts : graph push ≡ halt
    pub take-halts : graph take ≡ halt
    pub push-not-take : push ≢ take
    pub source-no-input : In source ins → ⊥
    pub credit-no-input : In credit ins → ⊥
    pub credit-no-result : In credit outs → ⊥

  module _ (H : Wiring) where
    pub wiring-free : (a b : ℕ) → a ≢ b → Free (machine graph push take source credit ins outs a) (machine graph push take source credit ins outs b)
    wiring-free = machine-free graph push take source credit ins outs R W H.ends

    pub source-apart : (cap : ℕ → ℕ) → Source-apart graph push take source credit ins outs cap
    source-apart cap =
        record {
          graph-asks = λ a. never-asks (R a) (W a) (graph a) (H.ends.graph-uses a) source (H.ends.takes-no-source a);
          graph-emits = λ a. never-emits (R a) (W a) (graph a) (H.ends.graph-uses a) source (H.puts-no-source a);
          no-push = H.push-halts;
          no-take = H.take-halts;
          push-not-take = H.push-not-take;
          source-no-credit = H.ends.source-no-credit;
          source-no-input = H.source-no-input;
          source-no-result = H.ends.source-no-result;
        }

    pub credit-apart : (cap : ℕ → ℕ) → Credit-apart graph credit ins outs cap
    credit-apart cap =
        record {
          credit-asks = λ a. never-asks (R a) (W a) (graph a) (H.ends.graph-uses a) credit (H.ends.takes-no-credit a);
          credit-emits = λ a. never-emits (R a) (W a) (graph a) (H.ends.graph-uses a) credit (H.ends.puts-no-credit a);
          credit-no-input = H.credit-no-input;
          credit-no-result = H.credit-no-result;
        }
