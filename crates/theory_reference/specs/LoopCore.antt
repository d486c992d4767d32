-- A loop without what starts it: nothing comes and it rests, or every name of the body has a value and it spins. With the start bound
-- to its identifiers (OneAfterAnother.antt) it is the whole loop.
use Rattle.std.specs.Prelude.{ℕ, ◌+◌, ◌-◌, ◌<◌, ◌≤◌, ◌≡◌, refl, ◌⊎◌, true, false, List, [], ◌∷◌, ◌++◌, length}
use Rattle.std.proofs.Math.Option.{Option, none, some}
use Rattle.value.specs.declared.Value.{Value}
use Rattle.names.specs.Names.{Names}
use Rattle.theory_schedule.specs.Counts.{count}
use Rattle.network.specs.Values.{true-value}
use Rattle.network.specs.Net.{val, Links}
use Rattle.network.specs.Uses.{In}
use Rattle.theory_pieces.specs.Goes.{Net}
use Rattle.graph.specs.Assembly.{Env, member_of, total, ring_gate, chain, chain_links}
use Rattle.graph.specs.Yields.{Values, Answer, absent, present, bound, Spins, Cut-spins}

-- ρ' has the values of the body's names at the start; ρ those of the names that are not the loop's own.
pub data Core-yields (ns : List ℕ) (h : Names) (r : ℕ) (M : Values → ℕ → Answer → Type 0) (ρ' : Values) : ℕ → Answer → Type 0 where
  rests : ((x : ℕ) → h x ≡ true → ρ' x ≡ none) → Core-yields ns h r M ρ' 0 (some (absent r))
  spins : (ρ : Values) (vs : List Value) (d : ℕ) (a : Answer) → length vs ≡ length ns → ((x : ℕ) → h x ≡ true → ρ' x ≡ bound ns (present vs) ρ x)
      → ((x : ℕ) → h x ≡ true → member_of ns x ≡ false → (v : Value) × (ρ x ≡ some v)) → Spins (length ns) (λ ws. M (bound ns (present ws) ρ)) vs d a
      → Core-yields ns h r M ρ' d a

-- The same for a loop that is cut: its rounds may end as C says once N are gone.
pub data Cut-core (ns : List ℕ) (h : Names) (r N : ℕ) (M C : Values → ℕ → Answer → Type 0) (ρ' : Values) : ℕ → Answer → Type 0 where
  rests : ((x : ℕ) → h x ≡ true → ρ' x ≡ none) → Cut-core ns h r N M C ρ' 0 (some (absent r))
  spins : (ρ : Values) (vs : List Value) (us : List (Option Value)) → length vs ≡ length ns → ((x : ℕ) → h x ≡ true → ρ' x ≡ bound ns (present vs) ρ x)
      → ((x : ℕ) → h x ≡ true → member_of ns x ≡ false → (v : Value) × (ρ x ≡ some v))
      → Cut-spins (length ns) N (λ ws. M (bound ns (present ws) ρ)) (λ ws. C (bound ns (present ws) ρ)) 0 vs us → Cut-core ns h r N M C ρ' 0 (some us)
