-- What a graph yields for one set of values. A name's value may be absent: the arm of an if that was not chosen gets nothing and
-- gives nothing. No link, no state and no order of firings appears here; that the network does just this is the schedule
-- lemma. The number counts rounds (entries into a loop body); the answer is none where the rounds lent did not suffice.
use Rattle.std.specs.Prelude.{ℕ, zero, suc, ◌+◌, ◌-◌, ◌≤◌, ◌≡◌, ◌⊎◌, Bool, true, false, cond, List, [], ◌∷◌, ◌++◌, length, replicate, eqb}
use Rattle.std.proofs.Math.Option.{Option, none, some}
use Rattle.value.specs.declared.Value.{Value}
use Rattle.network.specs.Values.{true-value, false-value, err-value}
use Rattle.network.specs.Rules.{Kind, constant, operator, T-gate, F-gate, M-gate, E-gate, IC-gate, Input, first, second, third, Register}
use Rattle.network.specs.Decide.{Decision, decide}
use Rattle.graph.specs.Assembly.{Gate, const, oper, T, F, M, E, IC, Graph, wire, nothing, beside, bind, gate, loop, free, member_of, gate_outputs}

-- The value of each name.
abbrev pub Values : Type 0
Values = ℕ → Option Value

abbrev pub Answer : Type 0
Answer = Option (List (Option Value))

abbrev pub absent : ℕ → List (Option Value)
absent k = replicate k none

abbrev pub present : List Value → List (Option Value)
present [] = []
present (v ∷ vs) = some v ∷ present vs

-- The names of a list have the values of a list, the others their own.
unfoldable pub bound : List ℕ → List (Option Value) → Values → Values
bound [] vs ρ x = ρ x
bound (y ∷ ns) [] ρ x = ρ x
bound (y ∷ ns) (v ∷ vs) ρ x = cond (eqb y x) v (bound ns vs ρ x)

-- The kind of a gate and the register that it holds for ever.
abbrev pub kind_of : Gate → Kind
kind_of (const v) = constant
kind_of (oper k) = operator k
kind_of T = T-gate
kind_of F = F-gate
kind_of M = M-gate
kind_of E = E-gate
kind_of (IC both) = IC-gate

abbrev pub held_by : Gate → Register
held_by (const v) = some v
held_by (oper k) = none
held_by T = none
held_by F = none
held_by M = none
held_by E = none
held_by (IC both) = none

-- The tokens that wait on the ports of a gate.
abbrev pub waiting : List (Option Value) → Input → Option Value
waiting [] i = none
waiting (a ∷ vs) first = a
waiting (a ∷ []) second = none
waiting (a ∷ b ∷ vs) second = b
waiting (a ∷ []) third = none
waiting (a ∷ b ∷ []) third = none
waiting (a ∷ b ∷ c ∷ vs) third = c

abbrev pub is_there : Option Value → Bool
is_there none = false
is_there (some v) = true

-- A firing takes every token that waits, so that nothing stays behind.
pub record TakesAll (vs : List (Option Value)) (d : Decision) : Type 0 where
  pub control : d.taken.take1 ≡ is_there (waiting vs first)
  pub data2 : d.taken.take2 ≡ is_there (waiting vs second)
  pub data3 : d.taken.take3 ≡ is_there (waiting vs third)

-- What a firing gives on the outputs that the gate has.
abbrev pub given : Gate → Decision → List (Option Value)
given (const v) d = d.give1 ∷ []
given (oper k) d = d.give1 ∷ []
given T d = d.give1 ∷ []
given F d = d.give1 ∷ []
given M d = d.give1 ∷ []
given E d = d.give1 ∷ []
given (IC true) d = d.give1 ∷ d.give2 ∷ d.give3 ∷ []
given (IC false) d = d.give1 ∷ d.give3 ∷ []

-- A gate to which nothing comes does nothing; else it fires once, by the table of rules.
pub data Fires : Gate → List (Option Value) → List (Option Value) → Type 0 where
  rests : (g : Gate) (k : ℕ) → Fires g (absent k) (absent (gate_outputs g))
  fires : (g : Gate) (vs : List (Option Value)) (d : Decision) → decide (kind_of g) (held_by g) (waiting vs) ≡ some d → TakesAll vs d
      → Fires g vs (given g d)

-- One part after another: both end, or one of them does not.
pub data Sequel (P : ℕ → Answer → Type 0) (Q : List (Option Value) → ℕ → Answer → Type 0) : ℕ → Answer → Type 0 where
  stops : (c : ℕ) → P c none → Sequel P Q c none
  goes_on : (c d : ℕ) (vs : List (Option Value)) (a : Answer) → P c (some vs) → Q vs d a → Sequel P Q (c + d) a

-- Values put before those of an answer.
abbrev pub before : List (Option Value) → Answer → Answer
before vs none = none
before vs (some ws) = some (vs ++ ws)

pub data Beside (P Q : ℕ → Answer → Type 0) : ℕ → Answer → Type 0 where
  stops : (c : ℕ) → P c none → Beside P Q c none
  goes_on : (c d : ℕ) (vs : List (Option Value)) (a : Answer) → P c (some vs) → Q d a → Beside P Q (c + d) (before vs a)

pub data Gated (g : Gate) (P : ℕ → Answer → Type 0) : ℕ → Answer → Type 0 where
  stops : (c : ℕ) → P c none → Gated g P c none
  ends : (c : ℕ) (vs ws : List (Option Value)) → P c (some vs) → Fires g vs ws → Gated g P c (some ws)

-- The rounds of a loop whose identifiers have the values vs. k is the number of iterated values. A body that iterates gives true and
-- the iterated values, one that returns gives false and the returned values.
pub data Spins (k : ℕ) (B : List Value → ℕ → Answer → Type 0) : List Value → ℕ → Answer → Type 0 where
  -- no more rounds were lent
  spent : (vs : List Value) → Spins k B vs 0 none
  stops : (vs : List Value) (c : ℕ) → B vs c none → Spins k B vs (suc c) none
  returns : (vs : List Value) (c : ℕ) (rs : List (Option Value)) → B vs c (some (some false-value ∷ (absent k ++ rs)))
      → Spins k B vs (suc c) (some rs)
  again : (vs us : List Value) (c d r : ℕ) (a : Answer) → length us ≡ k → B vs c (some (some true-value ∷ (present us ++ absent r)))
      → Spins k B us d a → Spins k B vs (suc (c + d)) a

-- A loop: nothing comes and nothing goes; or its start does not end; or all its names have values and it spins.
pub data Looped (ns : List ℕ) (others : ℕ → Type 0) (r : ℕ) (ρ : Values) (P : ℕ → Answer → Type 0) (B : List Value → ℕ → Answer → Type 0)
    : ℕ → Answer → Type 0 where
  rests : P 0 (some (absent (length ns))) → ((x : ℕ) → others x → ρ x ≡ none) → Looped ns others r ρ P B 0 (some (absent r))
  stops : (c : ℕ) → P c none → Looped ns others r ρ P B c none
  spins : (c d : ℕ) (vs : List Value) (a : Answer) → length vs ≡ length ns → P c (some (present vs))
      → ((x : ℕ) → others x → (v : Value) × (ρ x ≡ some v)) → Spins (length ns) B vs d a → Looped ns others r ρ P B (c + d) a

-- The rounds of a loop of which i are gone: as Spins, and from N rounds on a round may be made as C says, which ends the loop.
pub data Cut-spins (k N : ℕ) (B C : List Value → ℕ → Answer → Type 0) : ℕ → List Value → List (Option Value) → Type 0 where
  last : (i : ℕ) (vs : List Value) (c : ℕ) (us : List (Option Value)) → B vs c (some (some false-value ∷ (absent k ++ us))) → Cut-spins k N B C i vs us
  onward : (i : ℕ) (vs ws : List Value) (c r : ℕ) (us : List (Option Value)) → length ws ≡ k → B vs c (some (some true-value ∷ (present ws ++ absent r)))
      → Cut-spins k N B C (suc i) ws us → Cut-spins k N B C i vs us
  cuts : (i : ℕ) (vs : List Value) (c : ℕ) (us : List (Option Value)) → N ≤ i → C vs c (some (some false-value ∷ (absent k ++ us))) → Cut-spins k N B C i vs us

-- A loop that may be cut: as Looped, but it always ends, and its rounds are not counted.
pub data Cut-looped (N : ℕ) (ns : List ℕ) (others : ℕ → Type 0) (r : ℕ) (ρ : Values) (P : ℕ → Answer → Type 0) (B C : List Value → ℕ → Answer → Type 0)
    : ℕ → Answer → Type 0 where
  rests : P 0 (some (absent (length ns))) → ((x : ℕ) → others x → ρ x ≡ none) → Cut-looped N ns others r ρ P B C 0 (some (absent r))
  spins : (c : ℕ) (vs : List Value) (us : List (Option Value)) → length vs ≡ length ns → P c (some (present vs))
      → ((x : ℕ) → others x → (v : Value) × (ρ x ≡ some v)) → Cut-spins (length ns) N B C 0 vs us → Cut-looped N ns others r ρ P B C c (some us)

-- The number of a graph's outputs.
unfoldable pub output_count : Graph → ℕ
unfolding gate_outputs
output_count (wire x) = 1
output_count nothing = 0
output_count (beside a b) = output_count a + output_count b
output_count (bind ns a b) = output_count b
output_count (gate g a) = gate_outputs g
output_count (loop ns a b) = returned_count (output_count b) (length ns)
  where
    returned_count : ℕ → ℕ → ℕ
    returned_count zero k = 0
    returned_count (suc n) k = n - k

-- What a loop yields, from its start and its body; the last part is the body with its first test overridden, for a loop that is cut.
abbrev pub Loops : Type 1
Loops = List ℕ → (ℕ → Type 0) → ℕ → Values → (ℕ → Answer → Type 0) → (List Value → ℕ → Answer → Type 0) → (List Value → ℕ → Answer → Type 0) → ℕ → Answer → Type 0

-- What a graph yields with these values of its names, in so many rounds. With `true`: a body whose first test counts as err.
abbrev pub YieldsBy : Loops → Graph → Bool → Values → ℕ → Answer → Type 0
YieldsBy L (wire x) false ρ c a = (c ≡ 0) × (a ≡ some (ρ x ∷ []))
YieldsBy L nothing false ρ c a = (c ≡ 0) × (a ≡ some [])
YieldsBy L (beside x y) false ρ c a = Beside (YieldsBy L x false ρ) (YieldsBy L y false ρ) c a
YieldsBy L (bind ns x y) false ρ c a = Sequel (YieldsBy L x false ρ) (λ vs. YieldsBy L y false (bound ns vs ρ)) c a
YieldsBy L (gate g x) false ρ c a = Gated g (YieldsBy L x false ρ) c a
YieldsBy L (loop ns x y) false ρ c a =
    L ns (λ n. (free y n ≡ true) × (member_of ns n ≡ false)) (output_count (loop ns x y)) ρ (YieldsBy L x false ρ)
    (λ vs. YieldsBy L y false (bound ns (present vs) ρ)) (λ vs. YieldsBy L y true (bound ns (present vs) ρ)) c a
YieldsBy L (wire x) true ρ c a = ⊥
YieldsBy L nothing true ρ c a = ⊥
YieldsBy L (beside x y) true ρ c a = ⊥
YieldsBy L (gate g x) true ρ c a = ⊥
YieldsBy L (loop ns x y) true ρ c a = ⊥
YieldsBy L (bind ns x y) true ρ c a =
    ((ns ≡ 33 ∷ [] → ⊥) × Sequel (YieldsBy L x false ρ) (λ vs. YieldsBy L y true (bound ns vs ρ)) c a)
    ⊎ ((ns ≡ 33 ∷ [])
    × Sequel (YieldsBy L x false ρ) (λ vs d b. ((v : Value) × (vs ≡ some v ∷ [])) × YieldsBy L y false (bound ns (some err-value ∷ []) ρ) d b) c a)

abbrev pub whole-loops : Loops
whole-loops ns others r ρ P B O c a = Looped ns others r ρ P B c a

abbrev pub Yields : Graph → Values → ℕ → Answer → Type 0
Yields g ρ c a = YieldsBy whole-loops g false ρ c a

-- Loops that may be cut from N rounds on.
abbrev pub cut-loops : ℕ → Loops
cut-loops N ns others r ρ P B C c a = Cut-looped N ns others r ρ P B C c a

-- Loops as the language has them, or cut.
abbrev pub loops-of : Option ℕ → Loops
loops-of none = whole-loops
loops-of (some N) = cut-loops N

abbrev pub YieldsIn : Option ℕ → Graph → Values → ℕ → Answer → Type 0
YieldsIn cut g ρ c a = YieldsBy (loops-of cut) g false ρ c a

-- A loop to which nothing comes rests, in each member of the family.
pub loop-rests : (cut : Option ℕ) (ns : List ℕ) (others : ℕ → Type 0) (r : ℕ) (ρ : Values) (P : ℕ → Answer → Type 0) (B C : List Value → ℕ → Answer → Type 0)
    → P 0 (some (absent (length ns))) → ((x : ℕ) → others x → ρ x ≡ none) → loops-of cut ns others r ρ P B C 0 (some (absent r))
loop-rests none ns others r ρ P B C p q = Looped.rests p q
loop-rests (some N) ns others r ρ P B C p q = Cut-looped.rests p q
