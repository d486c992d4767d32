-- Document 01, "Running", on the abstract machine of a formula: what push, fire, run and take do to the links, over every list of calls, refused
-- calls included. A link is the queue of its waiting tokens (network/specs/Net); the graph is the made one (graph/specs/Translation: made_of). The
-- credit link holds one token for each set untaken, so that "sixteen sets untaken" is want of room there. Definitions only, and what demand 3
-- says of them; assumes nothing.
use Rattle.std.specs.Prelude.{ℕ, zero, suc, ◌≤◌, ◌<◌, ◌≡◌, ◌⊎◌, Bool, true, false, cond, List, [], ◌∷◌, ◌++◌, eqb, length, get_or}
use Rattle.std.proofs.Math.Option.{Option, none, some}
use Rattle.std.proofs.Math.Decide.{dec_lt}
use Rattle.value.specs.declared.Value.{Value}
use Rattle.network.specs.Values.{true-value}
use Rattle.network.specs.Net.{Token, val, Demand, ask, fire, halt, Links, head, pop, append, Room, Able, act, label}
use Rattle.network.specs.Ends.{take-demand, capacities}
use Rattle.theory_pieces.specs.Load.{put}
use Rattle.theory_pieces.specs.Sets.{tokens-of, onto}
use Rattle.theory_pieces.specs.Tape.{Step, pushing, firing, taking, sets_of}
use Rattle.formula.specs.Tree.{Exp}
use Rattle.graph.specs.Translation.{made_of}
use Rattle.theory_reference.specs.Marks.{marks}
use Rattle.theory_wiring.specs.Machine.{net_of}
use Rattle.theory_wiring.specs.MadeGraph.{push_links}
use Rattle.theory_verdicts.specs.Results.{EndsWith}
use Rattle.theory_verdicts.specs.Owed.{credit_link}

-- ---- whether a firing can be made

unfoldable pub both : {A B : Type 0} → Dec A → Dec B → Dec (A × B)
both (yes a) (yes b) = yes (a, b)
both (yes a) (no n) = no (λ p. n p.1)
both (no n) d = no (λ p. n p.0)

-- "each link it emits on has a free place"
unfoldable pub dec_room : (cap : ℕ → ℕ) (es : List (ℕ × Token)) (q : Links) → Dec (Room cap es q)
dec_room cap [] q = yes tt
dec_room cap (e ∷ es) q = both (dec_lt (length (q e.0)) (cap e.0)) (dec_room cap es (append e.0 e.1 q))

-- "An operator fires only when every token listed waits and each link it emits on has a free place."
unfoldable pub dec_able : (cap : ℕ → ℕ) (d : Demand) (q : Links) → Dec (Able cap d q)
dec_able cap (ask l k) q = both (dec_lt 0 (length (q l))) (dec_able cap (k (head (q l))) (pop l q))
dec_able cap (fire es r) q = dec_room cap es q
dec_able cap halt q = no (λ z. z)

-- ---- the machine of a formula

-- Every link has the places that start was asked for, the credit link sixteen.
abbrev pub places : ℕ → ℕ → ℕ
places capacity = capacities credit_link capacity

-- What operator a takes and emits; a number past the last is no operator.
abbrev pub operator_at : Exp → ℕ → Demand
operator_at x a = net_of (made_of x).operators a

-- "one trigger if that link exists": any value serves as trigger.
abbrev pub with_trigger : Bool → List Value → List Value
with_trigger true v = v ++ (true-value ∷ [])
with_trigger false v = v

-- "Push gives one value to each input link, and one trigger if that link exists."
abbrev pub push_of : Exp → List Value → Demand
push_of x v = fire ((credit_link, val true-value) ∷ onto (push_links (made_of x)) (with_trigger (made_of x).triggered v)) []

-- "Take removes one value from each result port."
abbrev pub take_of : Exp → Demand
take_of x = take-demand credit_link (made_of x).results

-- "Start a machine empty": no token waits; FM and FS gates are marked as not yet fired.
abbrev pub start_of : Exp → Links
start_of x = put (marks (made_of x).operators) (λ l. [])

-- ---- calls

pub data Call : Type 0 where
  pushes : List Value → Call
  fires : ℕ → Call
  runs : ℕ → Call
  takes : Call

-- A step is an accepted push, a firing or an accepted take.
abbrev pub demand_of : Exp → Step → Demand
demand_of x (pushing v) = push_of x v
demand_of x (firing a) = operator_at x a
demand_of x taking = take_of x

-- The links after some steps.
abbrev pub after_steps : Exp → List Step → Links → Links
after_steps x [] q = q
after_steps x (s ∷ w) q = after_steps x w (act (demand_of x s) q)

-- What the takes among them hand out, in order.
abbrev pub handed : Exp → List Step → Links → List (List Token)
handed x [] q = []
handed x (pushing v ∷ w) q = handed x w (act (push_of x v) q)
handed x (firing a ∷ w) q = handed x w (act (operator_at x a) q)
handed x (taking ∷ w) q = label (take_of x) q ∷ handed x w (act (take_of x) q)

-- A call that cannot be made is refused and is no step.
abbrev pub accept : {A : Type 0} → Dec A → Step → List Step
accept (yes p) s = s ∷ []
accept (no n) s = []

-- The least of k operators from a on that can fire.
abbrev pub pick : {A : Type 0} → Dec A → ℕ → Option ℕ → Option ℕ
pick (yes p) a later = some a
pick (no n) a later = later

unfoldable pub least_from : Exp → ℕ → ℕ → ℕ → Links → Option ℕ
least_from x capacity zero a q = none
least_from x capacity (suc k) a q = pick (dec_able (places capacity) (operator_at x a) q) a (least_from x capacity k (suc a) q)

abbrev pub least_able : Exp → ℕ → Links → Option ℕ
least_able x capacity q = least_from x capacity (length (made_of x).operators) 0 q

abbrev pub onward : Option ℕ → (ℕ → List Step) → List Step
onward none k = []
onward (some a) k = firing a ∷ k a

-- "Run fires the least-numbered able operator, up to a lent number of firings"
unfoldable pub run_steps : Exp → ℕ → ℕ → Links → List Step
unfolding least_from
run_steps x capacity zero q = []
run_steps x capacity (suc lent) q = onward (least_able x capacity q) (λ a. run_steps x capacity lent (act (operator_at x a) q))

-- The steps of a call: none where it is refused. "12 a set with another number of values than inputs"; 32, 33: no room for a push; "34 the operator
-- is absent or not able"; "35 a result port empty or no set untaken". A run's 36 keeps its firings.
unfoldable pub steps_of : Exp → ℕ → Call → Links → List Step
unfolding run_steps
steps_of x capacity (pushes v) q = cond (eqb (length v) (made_of x).inputs) (accept (dec_able (places capacity) (push_of x v) q) (pushing v)) []
steps_of x capacity (fires a) q = accept (dec_able (places capacity) (operator_at x a) q) (firing a)
steps_of x capacity (runs lent) q = run_steps x capacity lent q
steps_of x capacity takes q = accept (dec_able (places capacity) (take_of x) q) taking

-- "each push, fire, run or take is lent that memory as the call before left it"
unfoldable pub steps_from : Exp → ℕ → List Call → Links → List Step
unfolding steps_of
steps_from x capacity [] q = []
steps_from x capacity (c ∷ calls) q = steps_of x capacity c q ++ steps_from x capacity calls (after_steps x (steps_of x capacity c q) q)

-- ---- a list of calls from the start

abbrev pub history : Exp → ℕ → List Call → List Step
history x capacity calls = steps_from x capacity calls (start_of x)

-- The links as the last call left them.
abbrev pub standing : Exp → ℕ → List Call → Links
standing x capacity calls = after_steps x (history x capacity calls) (start_of x)

-- "an accepted push adds its set"
abbrev pub pushed : Exp → ℕ → List Call → List (List Value)
pushed x capacity calls = sets_of (history x capacity calls)

-- "an accepted take takes the oldest untaken": the results taken, in order.
abbrev pub taken : Exp → ℕ → List Call → List (List Token)
taken x capacity calls = handed x (history x capacity calls) (start_of x)

-- ---- demand 3

-- What demand 3 says of a list of calls on the machine of the formula x. Sets and results count from 0 here.
pub record OwnVerdicts (x : Exp) (capacity : ℕ) (calls : List Call) : Type 0 where
  -- "For every k up to the number of results taken since that start: if direct evaluation of each of the first k sets pushed ends, the k-th result
  -- taken is exactly what it yields for the k-th set pushed."
  pub own : (k : ℕ) → k < length (taken x capacity calls) → ((j : ℕ) → j ≤ k → (r : List Value) × EndsWith x (get_or (pushed x capacity calls) j []) r)
      → (r : List Value) → EndsWith x (get_or (pushed x capacity calls) k []) r → get_or (taken x capacity calls) k [] ≡ tokens-of r
  -- Every result taken is that of a pushed set.
  pub none-invented : length (taken x capacity calls) ≤ length (pushed x capacity calls)
  -- "And when nothing can fire, either every pushed set has been taken, or the oldest untaken one has its whole result ready to take." "Nothing can
  -- fire when each operator would get 34; a whole result is ready when a take would be accepted."
  pub ready : ((a : ℕ) → steps_of x capacity (fires a) (standing x capacity calls) ≡ [])
      → (length (taken x capacity calls) ≡ length (pushed x capacity calls)) ⊎ (steps_of x capacity takes (standing x capacity calls) ≡ taking ∷ [])
