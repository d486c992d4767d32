-- Laws of specs/Runs.antt, and what only they need.
use Prim.Native.Nat.{ℕ, zero, suc, ◌<◌, ◌≤◌, ◌+◌, ◌-◌}
use Rattle.std.specs.Prelude.{◌≡◌, ◌⊎◌, Bool, false, get_or}
use Rattle.std.proofs.Math.Path.{refl, ap, subst}
use Rattle.std.proofs.Common.{sym, ◌∙◌, inl, inr, ⊎_elim}
use Rattle.std.proofs.Math.Bool.{true}
use Rattle.std.proofs.lemmas.Bool.{false≢true}
use mathlib.Core.List.{List, [], ◌∷◌}
use Rattle.std.proofs.Math.ListN.{length, get_or-append}
use Rattle.std.proofs.Math.Seq.{get_or-append_seam}
use Rattle.std.proofs.Math.Decide.{ℕ_discrete, dec_lt}
use native.Mathlib.Omega.{arith}
use Rattle.value.specs.declared.Value.{Value}
use Rattle.value.specs.declared.ValueKind.{ValueKind}
use Rattle.value.specs.Senses.{err}
use Rattle.value.specs.Kinds.{suits}
use Rattle.names.specs.Names.{trigger, bit, size, below, size_from}
use Rattle.names.proofs.Counts.{Member, member_of_lem, size_from-suc, size_from-mono}
use Rattle.network.specs.Values.{true-value, err-value}
use Rattle.network.specs.Net.{Token, val, Demand, ask, fire, Links, head, pop, Able, act, label}
use Rattle.network.specs.Fill.{value-of}
use Rattle.network.specs.Ends.{collect}
use Rattle.formula.specs.Tree.{Exp}
use Rattle.formula.specs.Free.{free_e, inputs_of}
use Rattle.formula.specs.Kinds.{Kinds, kinds_e}
use Rattle.graph.specs.Assembly.{Operator, up_from}
use Rattle.graph.specs.Translation.{port_of, made_of}
use Rattle.theory_pieces.specs.Load.{Load, On}
use Rattle.theory_pieces.proofs.Load.{put-off}
use Rattle.theory_pieces.specs.Sets.{onto}
use Rattle.theory_pieces.specs.Tape.{Step, pushing, firing, taking, sets_of}
use Rattle.theory_reference.specs.Plugged.{registers, link-of, ports_of, Each}
use Rattle.theory_reference.specs.Marks.{marks, Remembers-in}
use Rattle.theory_reference.proofs.Marks.{marks-hold, marks-in}
use Rattle.theory_wiring.specs.Machine.{net_of}
use Rattle.theory_wiring.proofs.MadeGraph.{trigger-link, port-count}
use Rattle.theory_wiring.specs.MadeGraph.{push_links}
use Rattle.theory_verdicts.specs.Owed.{credit_link}
use Rattle.theory_verdicts.specs.Running.{places, with_trigger, push_of, take_of, start_of, Call, after_steps, handed, history, standing, pushed, taken}
use Rattle.theory_verdicts.proofs.RunningLaws.{Made-in-turn, calls-made, Whole-sets, calls-whole}
use Rattle.theory_claims.specs.Claims.{Claim, Meets, Sides, Fits, Claims, sides}
use Rattle.theory_claims.specs.Keeps.{Waiting, Clean}
use Rattle.theory_claims.proofs.Keeps.{waiting-head, pop-keeps, Fine, appends-keep, firing-keeps, operandKind, operand-kind-taken, no-wrong-kind}
use Rattle.theory_claims.specs.MadeClaims.{Kinds-at, Claimed}
use Rattle.theory_claims.specs.Runs.{Tokens-of-kinds, Results-of-kinds, Of-one-kind}

-- ---- sets and results
module _ (x : Exp) (kinds : Kinds) where
  -- "inputs of their kinds or errs": each input's value stands in a set where its link stands among the inputs' links.
  abbrev pub Set-of-kinds : List Value → Type 0
  Set-of-kinds v = (k : ℕ) → free_e x k ≡ true → k < trigger → suits (kinds k) (get_or v (port_of x k) err) ≡ true

  abbrev pub Sets-of-kinds : List (List Value) → Type 0
  Sets-of-kinds [] = Unit {0}
  Sets-of-kinds (v ∷ vs) = Set-of-kinds v × Sets-of-kinds vs

-- ---- the parts of a step
module _ (K : Claims) where
  onto-fine : (a n : ℕ) (vs : List Value) → ((i : ℕ) → i < n → Meets (K (a + i)) (get_or vs i err)) → Fine K (onto (up_from a n) vs)
  unfolding up_from
  onto-fine a zero vs h = tt
  onto-fine a (suc n) [] h = tt
  onto-fine a (suc n) (v ∷ vs) h = (
    (let z : a + 0 ≡ a = omega arith in subst (λ (l : ℕ). Meets (K l) v) z (h 0 (omega arith))),
    onto-fine (suc a) n vs
        (λ i l. let z : a + suc i ≡ suc a + i = omega arith in subst (λ (j : ℕ). Meets (K j) (get_or vs i err)) z (h (suc i) (omega arith))),
  )

  net-keeps : (cap : ℕ → ℕ) (os : List Operator) → Each (λ o. Fits o.kind (sides K (ports_of o))) os → (a : ℕ) (q : Links) → Able cap (net_of os a) q → Clean K q
      → Clean K (act (net_of os a) q)
  net-keeps cap [] f a q b h = h
  net-keeps cap (o ∷ os) f zero q b h = firing-keeps K (ports_of o) cap o.kind f.0 q h b
  net-keeps cap (o ∷ os) f (suc a) q b h = net-keeps cap os f.1 a q b h

  collect-keeps : (ls : List ℕ) (k : List Token → Demand) → ((ts : List Token) (q : Links) → Clean K q → Clean K (act (k ts) q)) → (q : Links) → Clean K q
      → Clean K (act (collect ls k) q)
  collect-keeps [] k e q h = e [] q h
  collect-keeps (l ∷ ls) k e q h = collect-keeps ls (λ ts. k (head (q l) ∷ ts)) (λ ts. e (head (q l) ∷ ts)) (pop l q) (pop-keeps K q l h)

  -- What is collected from links with kinds is of those kinds.
  collect-hands : (cap : ℕ → ℕ) (ls : List ℕ) (ks : List ValueKind) → Kinds-at K ls ks → (k : List Token → Demand) (P : List Token → Type 0)
      → ((ts : List Token) (q : Links) → Tokens-of-kinds ts ks → P (label (k ts) q)) → (q : Links) → Able cap (collect ls k) q → Clean K q → P (label (collect ls k) q)
  collect-hands cap [] [] e k P f q a h = f [] q tt
  collect-hands cap [] (j ∷ ks) e k P f q a h = absurd e
  collect-hands cap (l ∷ ls) [] e k P f q a h = absurd e
  collect-hands cap (l ∷ ls) (j ∷ ks) e k P f q a h =
      let t : Token = head (q l) in
      let m : suits j (value-of t) ≡ true = subst (λ (c : Claim). Meets c (value-of t)) e.0 (waiting-head (Meets (K l)) (q l) a.0 (h l)) in
      collect-hands cap ls ks e.1 (λ ts. k (t ∷ ts)) P (λ ts r i. f (t ∷ ts) r (m, i)) (pop l q) a.1 (pop-keeps K q l h)

-- ---- the start
on-or-off : (l : ℕ) (σ : Load) → On l σ ⊎ (On l σ → ⊥)
on-or-off l [] = inr (λ o. o)
on-or-off l (x ∷ σ) = go (ℕ_discrete l x.0) (on-or-off l σ)
  where
    go : Dec (l ≡ x.0) → On l σ ⊎ (On l σ → ⊥) → On l (x ∷ σ) ⊎ (On l (x ∷ σ) → ⊥)
    go (yes e) d = inl (inl e)
    go (no n) (inl o) = inl (inr o)
    go (no n) (inr f) = inr (⊎_elim n f)

registers-behind : (os : List Operator) → Each (Remembers-in (λ l. registers ≤ l)) os
registers-behind [] = tt
registers-behind (o ∷ os) = ((λ e. behind (link-of o.out1)), registers-behind os)
  where
    behind : (l : ℕ) → registers ≤ registers + l
    behind l = omega arith

-- ---- lists of calls
module _ (x : Exp) (kinds : Kinds) (K : Claims) (H : Claimed x kinds K) where
  start-clean : Clean K (start_of x)
  start-clean l = go (on-or-off l (marks os))
    where
      os : List Operator
      os = (made_of x).operators

      at_register : registers ≤ l → Meets (K l) err-value
      at_register h = let z : registers + (l - registers) ≡ l = omega arith in subst (λ (j : ℕ). Meets (K j) err-value) z (H.marks (l - registers))

      go : On l (marks os) ⊎ (On l (marks os) → ⊥) → Waiting (Meets (K l)) (start_of x l)
      go (inl o) =
          subst (Waiting (Meets (K l))) (sym (marks-hold os (λ j. []) l o)) (at_register (marks-in (λ j. registers ≤ j) os (registers-behind os) l o), tt)
      go (inr f) = subst (Waiting (Meets (K l))) (sym (put-off l (marks os) (λ j. []) f)) tt

  front : (b : Bool) (v : List Value) (i : ℕ) → i < length v → get_or (with_trigger b v) i err ≡ get_or v i err
  front true v i h = get_or-append v (true-value ∷ []) err i h
  front false v i h = refl

  -- Each link that push puts onto gets what its claim says.
  input-meets : (v : List Value) → length v ≡ length (inputs_of x) → Set-of-kinds x kinds v → (i : ℕ) → i < length (inputs_of x) + bit (free_e x trigger)
      → Meets (K i) (get_or (with_trigger (free_e x trigger) v) i err)
  unfolding port_of below size
  input-meets v e s i h = go (member_of_lem 33 0 i (free_e x) (omega (arith, port-count x, h)))
    where
      -- an identifier's link lies before the trigger's
      before : (k : ℕ) → k < trigger → free_e x k ≡ true → port_of x k < length v
      before k l z =
          let a : size_from (suc k) (free_e x) ≡ size_from k (free_e x) + 1 = size_from-suc k (free_e x) ∙ ap (λ (b : Bool). size_from k (free_e x) + bit b) z in
          let t : size_from trigger (free_e x) ≡ length (inputs_of x) = trigger-link x in
          omega (arith, size_from-mono (suc k) trigger (free_e x) (omega arith), e)

      identifier-meets : (k : ℕ) → k < trigger → free_e x k ≡ true → port_of x k ≡ i → Meets (K i) (get_or (with_trigger (free_e x trigger) v) i err)
      identifier-meets k l z p =
          subst (λ (j : ℕ). Meets (K j) (get_or (with_trigger (free_e x trigger) v) j err)) p
          (subst (λ (c : Claim). Meets c (get_or (with_trigger (free_e x trigger) v) (port_of x k) err)) (sym (H.inputs k z l))
          (subst (λ (w : Value). suits (kinds k) w ≡ true) (sym (front (free_e x trigger) v (port_of x k) (before k l z))) (s k z l)))

      last : (b : Bool) → b ≡ true → get_or (with_trigger b v) (length v) err ≡ true-value
      last true z = get_or-append_seam v true-value [] err
      last false z = absurd (false≢true z)

      trigger-meets : free_e x trigger ≡ true → port_of x trigger ≡ i → Meets (K i) (get_or (with_trigger (free_e x trigger) v) i err)
      trigger-meets z p =
          subst (λ (j : ℕ). Meets (K j) (get_or (with_trigger (free_e x trigger) v) j err)) p
          (subst (λ (c : Claim). Meets c (get_or (with_trigger (free_e x trigger) v) (port_of x trigger) err)) (sym (H.triggered z))
          (rw (trigger-link x ∙ sym e, last (free_e x trigger) z) refl))

      go : Member 33 0 i (free_e x) → Meets (K i) (get_or (with_trigger (free_e x trigger) v) i err)
      go m = by (dec_lt m.place trigger)
        where
          by : Dec (m.place < trigger) → Meets (K i) (get_or (with_trigger (free_e x trigger) v) i err)
          by (yes l) = identifier-meets m.place l m.is-in m.rank
          by (no l) =
              let z : m.place ≡ trigger = omega (arith, m.inside, l) in
              trigger-meets (subst (λ (k : ℕ). free_e x k ≡ true) z m.is-in) (ap (λ (k : ℕ). port_of x k) (sym z) ∙ m.rank)

  push-keeps : (v : List Value) (q : Links) → length v ≡ (made_of x).inputs → Set-of-kinds x kinds v → Clean K q → Clean K (act (push_of x v) q)
  unfolding made_of
  push-keeps v q e s h =
      appends-keep K ((credit_link, val true-value) ∷ onto (push_links (made_of x)) (with_trigger (free_e x trigger) v)) q
      (credit, onto-fine K 0 (length (inputs_of x) + bit (free_e x trigger)) (with_trigger (free_e x trigger) v) links) h
    where
      credit : Meets (K credit_link) true-value
      credit = subst (λ (c : Claim). Meets c true-value) (sym (H.beyond credit_link (omega arith))) refl

      links : (i : ℕ) → i < length (inputs_of x) + bit (free_e x trigger) → Meets (K (0 + i)) (get_or (with_trigger (free_e x trigger) v) i err)
      links i l =
          let z : i ≡ 0 + i = omega arith in
          subst (λ (j : ℕ). Meets (K j) (get_or (with_trigger (free_e x trigger) v) i err)) z (input-meets v e s i l)

  take-keeps : (q : Links) → Clean K q → Clean K (act (take_of x) q)
  take-keeps q h = collect-keeps K (made_of x).results (λ ts. ask credit_link (λ u. fire [] ts)) (λ ts r i. pop-keeps K r credit_link i) q h

  -- Steps that can be made, with sets of their kinds: every waiting token meets its link's claim, every result is of its kinds.
  steps-keep : (capacity : ℕ) (w : List Step) (q : Links) → Made-in-turn x capacity w q → Whole-sets x capacity w → Sets-of-kinds x kinds (sets_of w) → Clean K q
      → Clean K (after_steps x w q) × Results-of-kinds (handed x w q) (kinds_e x kinds)
  steps-keep capacity [] q m n s h = (h, tt)
  steps-keep capacity (pushing v ∷ w) q m n s h = steps-keep capacity w (act (push_of x v) q) m.1 n.1 s.1 (push-keeps v q n.0 s.0 h)
  steps-keep capacity (firing a ∷ w) q m n s h =
      steps-keep capacity w (act (net_of (made_of x).operators a) q) m.1 n s (net-keeps K (places capacity) (made_of x).operators H.operators a q m.0 h)
  steps-keep capacity (taking ∷ w) q m n s h =
      let rest = steps-keep capacity w (act (take_of x) q) m.1 n s (take-keeps q h) in (
        rest.0,
        (
          collect-hands K (places capacity) (made_of x).results (kinds_e x kinds) H.results (λ ts. ask credit_link (λ u. fire [] ts))
              (λ r. Tokens-of-kinds r (kinds_e x kinds)) (λ ts r i. i) q m.0 h,
          rest.1,
        ),
      )

  calls-keep : (capacity : ℕ) (calls : List Call) → Sets-of-kinds x kinds (pushed x capacity calls)
      → Clean K (standing x capacity calls) × Results-of-kinds (taken x capacity calls) (kinds_e x kinds)
  calls-keep capacity calls s =
      steps-keep capacity (history x capacity calls) (start_of x) (calls-made x capacity calls (start_of x)) (calls-whole x capacity calls (start_of x)) s start-clean

  each-of-one-kind : (os : List Operator) → Each (λ o. Fits o.kind (sides K (ports_of o))) os → Each (Of-one-kind x (Sets-of-kinds x kinds)) os
  each-of-one-kind [] f = tt
  each-of-one-kind (o ∷ os) f =
      let s : Sides = sides K (ports_of o) in (
        (
          operandKind s o.kind f.0,
          operand-kind-taken s o.kind f.0,
          λ capacity calls h. no-wrong-kind K (standing x capacity calls) (calls-keep capacity calls h).0 o.kind (ports_of o) f.0,
        ),
        each-of-one-kind os f.1,
      )

  -- NO WRONG KIND before any operator, after any list of calls.
  pub never-a-wrong-kind : Each (Of-one-kind x (Sets-of-kinds x kinds)) (made_of x).operators
  never-a-wrong-kind = each-of-one-kind (made_of x).operators H.operators

  -- And none in any result taken.
  pub results-of-kinds : (capacity : ℕ) (calls : List Call) → Sets-of-kinds x kinds (pushed x capacity calls) → Results-of-kinds (taken x capacity calls) (kinds_e x kinds)
  results-of-kinds capacity calls s = (calls-keep capacity calls s).1
