-- Demand 3's second half over every list of accepted calls, for a graph that the maker made (`Made`) and any capacity of at least one place: when nothing can fire,
-- every pushed set has been taken or a take is possible, and with every pushed set taken any whole set can be pushed. A refused call is no step of the
-- list and a run is its firings. The first half is Alone.antt's.
-- Assumes besides `Made` that the source is used by push alone and the credit link by push and take alone.
use Rattle.std.specs.Prelude.{ℕ, zero, suc, ◌<◌, ◌≤◌, ◌+◌, ◌≡◌, refl, ◌≢◌, ◌⊎◌, List, [], ◌∷◌, ◌++◌, length, take, drop}
use Rattle.std.proofs.Common.{sym, ◌∙◌, ap, subst, inl, inr, take-append-drop, length-append, arith}
use Rattle.std.proofs.Math.Logic.{Ne-symm}
use Rattle.std.proofs.Math.Option.{Option}
use Rattle.std.proofs.Math.Decide.{ℕ_discrete, dec_le}
use Rattle.theory_schedule.proofs.Schedules.{Possible, Diamond}
use Rattle.theory_schedule.specs.Schedules.{reached}
use Rattle.theory_schedule.specs.Counts.{count}
use Rattle.theory_schedule.proofs.Progress.{endless, rest-covers}
use Rattle.network.proofs.Commute.{diamond}
use Rattle.value.specs.declared.Value.{Value}
use Rattle.network.specs.Values.{true-value}
use Rattle.network.specs.Net.{Token, val, Demand, ask, fire, halt, Links, head, tail, pop, append, Able, appends, act}
use Rattle.network.proofs.Net.{pop-same, pop-other, append-same, append-other}
use Rattle.network.specs.Commute.{Never-asks, Not-among, Never-emits}
use Rattle.network.specs.Ends.{push-demand, take-demand, collect}
use Rattle.network.proofs.Ends.{machine-push, machine-take, machine-graph}
use Rattle.network.specs.Uses.{In}
use Rattle.theory_pieces.specs.Load.{Load, set_link, put}
use Rattle.theory_pieces.proofs.Load.{set_other, set-ext, put-off}
use Rattle.theory_pieces.specs.Piece.{Piece, Means, Fits}
use Rattle.theory_pieces.specs.Sets.{tokens-of, onto}
use Rattle.theory_pieces.proofs.Sets.{net, drawn-able, able-with-more}
use Rattle.theory_pieces.specs.Goes.{one_place}
use Rattle.theory_pieces.specs.Demand3.{tape-of}
use Rattle.theory_pieces.proofs.Demand3.{All-worked, Long-reference, tried}
use Rattle.theory_pieces.proofs.Made.{Made, Ending, Fitting, E, X, O, demand-ready, demand-ends, demand-push-or-take, tries}
use Rattle.theory_pieces.proofs.Tape.{able-set, Accepted, after, events-of, Source-apart, Follows, asks-take, emits-take, simulated, counts}
use Rattle.theory_pieces.specs.Tape.{Step, pushing, firing, taking, sets_of, takes_of, results-of, Sized}

-- A firing leaves a link that it does not use as it was.
appends-at : (es : List (ℕ × Token)) (l : ℕ) (q : Links) → Not-among es l → appends es q l ≡ q l
appends-at [] l q n = refl
appends-at (e ∷ es) l q n = appends-at es l (append e.0 e.1 q) n.1 ∙ append-other e.0 l e.1 q (Ne-symm n.0)

act-at : (d : Demand) (l : ℕ) (q : Links) → Never-asks d l → Never-emits d l → act d q l ≡ q l
act-at (ask m k) l q na ne = act-at (k (head (q m))) l (pop m q) (na.1 (head (q m))) (ne (head (q m))) ∙ pop-other m l q (Ne-symm na.0)
act-at (fire es r) l q na ne = appends-at es l q ne
act-at halt l q na ne = refl

onto-apart : (l : ℕ) (is : List ℕ) (vs : List Value) → (In l is → ⊥) → Not-among (onto is vs) l
onto-apart l [] vs n = tt
onto-apart l (i ∷ is) [] n = tt
onto-apart l (i ∷ is) (v ∷ vs) n = (λ e. n (inl (sym e)), onto-apart l is vs (λ m. n (inr m)))

-- a take removes one token from the credit link
collect-credit : (cap : ℕ → ℕ) (credit : ℕ) (os : List ℕ) (k : List Token → List Token) (q : Links) → (In credit os → ⊥) →
    Able cap (collect os (λ ts. ask credit (λ u. fire [] (k ts)))) q →
    length (q credit) ≡ suc (length (act (collect os (λ ts. ask credit (λ u. fire [] (k ts)))) q credit))
collect-credit cap credit [] k q n (h, o) = shorter (q credit) h ∙ ap (λ z. suc (length z)) (sym (pop-same credit q))
  where
    shorter : (ts : List Token) → 0 < length ts → length ts ≡ suc (length (tail ts))
    shorter [] h = absurd (omega arith)
    shorter (t ∷ ts) h = refl
collect-credit cap credit (m ∷ os) k q n (h, o) =
    ap length (sym (pop-other m credit q (λ e. n (inl e)))) ∙ collect-credit cap credit os (λ ts. k (head (q m) ∷ ts)) (pop m q) (λ i. n (inr i)) o

module _ (graph : ℕ → Demand) (credit : ℕ) (ins outs : List ℕ) (cap : ℕ → ℕ) where
  -- The credit link is used by push and take alone.
  pub record Credit-apart : Type 0 where
    pub credit-asks : (a : ℕ) → Never-asks (graph a) credit
    pub credit-emits : (a : ℕ) → Never-emits (graph a) credit
    pub credit-no-input : In credit ins → ⊥
    pub credit-no-result : In credit outs → ⊥

  -- The credit link counts the sets untaken.
  pub untaken-counted : Credit-apart → (w : List Step) (q : Links) → Accepted graph credit ins outs cap w q →
      takes_of w + length (after graph credit ins outs cap w q credit) ≡ length (sets_of w) + length (q credit)
  untaken-counted C [] q a = refl
  untaken-counted C (pushing vs ∷ w) q (o, a) =
      let D : Demand = fire ((credit, val true-value) ∷ onto ins vs) [] in
      let e : act D q credit ≡ q credit ++ (val true-value ∷ [])
      = appends-at (onto ins vs) credit (append credit (val true-value) q) (onto-apart credit ins vs C.credit-no-input) ∙ append-same credit (val true-value) q in
      omega (arith, untaken-counted C w (act D q) a, ap length e ∙ length-append (q credit) (val true-value ∷ []))
  untaken-counted C (firing b ∷ w) q (o, a) =
      omega (arith, untaken-counted C w (act (graph b) q) a, ap length (act-at (graph b) credit q (C.credit-asks b) (C.credit-emits b)))
  untaken-counted C (taking ∷ w) q (o, a) =
      omega (arith, untaken-counted C w (act (take-demand credit outs) q) a, collect-credit cap credit outs (λ ts. ts) q C.credit-no-result o)

pub length-results : (graph : ℕ → Demand) (credit : ℕ) (ins outs : List ℕ) (cap : ℕ → ℕ) (w : List Step) (q : Links) →
    length (results-of graph credit ins outs cap w q) ≡ takes_of w
length-results graph credit ins outs cap [] q = refl
length-results graph credit ins outs cap (pushing vs ∷ w) q = length-results graph credit ins outs cap w (act (fire ((credit, val true-value) ∷ onto ins vs) []) q)
length-results graph credit ins outs cap (firing b ∷ w) q = length-results graph credit ins outs cap w (act (graph b) q)
length-results graph credit ins outs cap (taking ∷ w) q = ap suc (length-results graph credit ins outs cap w (act (take-demand credit outs) q))

pub tape-append : (vss wss : List (List Value)) (t : List Token) → tape-of (vss ++ wss) t ≡ tape-of vss (tape-of wss t)
tape-append [] wss t = refl
tape-append (v ∷ vss) wss t = ap (λ z. tokens-of v ++ z) (tape-append vss wss t)

pub one_each : (l : ℕ) → 1 ≤ one_place l
one_each l = omega arith

module _ (graph : ℕ → Demand) (p k source credit : ℕ) (P : Piece) (M : Means) (eval : ℕ → List Value → Option (List Value)) (F : Made graph p k source credit P M eval) (cap : ℕ → ℕ)
    (roomy : (l : ℕ) → 1 ≤ cap l) (A : Source-apart graph p k source credit P.ins P.outs cap) (C : Credit-apart graph credit P.ins P.outs cap) where
  -- the machine as start leaves it
  abbrev pub started : Links
  started = put F.fresh (λ l. [])

  abbrev pub Accepted-calls : List Step → Type 0
  Accepted-calls w = Accepted graph credit P.ins P.outs cap w started

  abbrev pub standing : List Step → Links
  standing w = after graph credit P.ins P.outs cap w started

  abbrev pub taken-results : List Step → List (List Token)
  taken-results w = results-of graph credit P.ins P.outs cap w started

  fitting : (vss : List (List Value)) → Sized P.ins vss → Fitting graph p k source credit P M eval vss
  fitting [] s = tt
  fitting (v ∷ vss) s = (s.0, fitting vss s.1)

  credit-empty : started credit ≡ []
  credit-empty = put-off credit F.fresh (λ l. []) (λ o. F.bench.credit-off (inl (F.bench.neat.idle-own F.fresh F.fresh-idle credit o)))

  length-take-at : {B : Type 0} (n : ℕ) (xs : List B) → n ≤ length xs → length (take n xs) ≡ n
  length-take-at zero xs h = refl
  length-take-at (suc n) [] h = absurd (omega arith)
  length-take-at (suc n) (x ∷ xs) h = ap suc (length-take-at n xs (omega arith))

  -- From the start on: the credit link holds a token for each set pushed and not taken.
  pub untaken-from-start : (w : List Step) → Accepted-calls w → takes_of w + length (standing w credit) ≡ length (sets_of w)
  untaken-from-start w a =
      omega (arith, untaken-counted graph credit P.ins P.outs cap C w started a, ap length credit-empty)

  -- No more results are taken than sets were pushed.
  pub taken-at-most-pushed : (w : List Step) → Accepted-calls w → takes_of w ≤ length (sets_of w)
  taken-at-most-pushed w a = omega (arith, untaken-from-start w a)

  -- a firing that does not use the source, with the tape and without it
  without-tape : (tape : List Token) (d : Demand) (q : Links) → Never-asks d source → Never-emits d source → Able cap d (set_link source tape q) → Able cap d q
  without-tape tape d q na ne o =
      subst (Able cap d) (set-ext source (q source) (set_link source tape q) q refl (λ j n. set_other source j tape q n))
      (able-set cap source (q source) d (set_link source tape q) na ne o)

  -- The events of the calls, from the start with the sets to come on the source.
  abbrev Can : ℕ → Links → Type 0
  Can = E graph p k source credit P M eval F cap roomy

  abbrev led : List Step → List Token → Links
  led w tape = reached Can (X graph p k source credit P M eval F cap roomy) (O graph p k source credit P M eval F cap roomy) (events-of p k w) (set_link source tape started)

  -- What can happen after them, and `rest` is left on the source.
  module _ (w : List Step) (tape rest : List Token) (there : led w tape ≡ set_link source rest (standing w)) where
    event-able : (b : ℕ) (d : Demand) → net graph p k source credit P M b ≡ d → Can b (led w tape) → Able cap d (set_link source rest (standing w))
    event-able b d e en = subst (λ z. Able cap z (set_link source rest (standing w))) e (subst (Can b) there en)

    none-fires : ((a : ℕ) → Able cap (graph a) (standing w) → ⊥) → (b : ℕ) → b ≢ p → b ≢ k → Can b (led w tape) → ⊥
    none-fires quiet b np nk en =
        quiet b (without-tape rest (graph b) (standing w) (A.graph-asks b) (A.graph-emits b)
        (event-able b (graph b) (machine-graph graph p k source credit P.ins P.outs b np nk) en))

    take-able : Can k (led w tape) → Able cap (take-demand credit P.outs) (standing w)
    take-able en =
        without-tape rest (take-demand credit P.outs) (standing w) (asks-take graph p k source credit P.ins P.outs cap A) (emits-take graph p k source credit P.ins P.outs cap A)
        (event-able k (take-demand credit P.outs) (machine-take graph p k source credit P.ins P.outs A.push-not-take) en)

  -- Second half: "when nothing can fire, either every pushed set has been taken, or the oldest untaken one has its whole result ready to take."
  pub second-half : (w : List Step) → Sized P.ins (sets_of w) → Accepted-calls w → ((a : ℕ) → Able cap (graph a) (standing w) → ⊥) →
      (takes_of w ≡ length (sets_of w)) ⊎ Able cap (take-demand credit P.outs) (standing w)
  second-half w s a quiet = go (dec_le (length (sets_of w)) (takes_of w))
    where
      sim : Follows graph p k source credit P.ins P.outs cap (events-of p k w) (set_link source (tape-of (sets_of w) []) started) (set_link source [] (standing w)) (taken-results w)
      sim = simulated graph p k source credit P.ins P.outs cap A w started [] s a

      go : Dec (length (sets_of w) ≤ takes_of w) → (takes_of w ≡ length (sets_of w)) ⊎ Able cap (take-demand credit P.outs) (standing w)
      go (yes le) = inl (omega (arith, taken-at-most-pushed w a))
      go (no n) =
          let c = counts graph p k source credit P.ins P.outs cap A w started a in
          inr (take-able w (tape-of (sets_of w) []) [] sim.leads
          (demand-ready graph p k source credit P M eval F cap roomy (sets_of w) [] (events-of p k w) (fitting (sets_of w) s) sim.possible (omega (arith, c.0)) (omega (arith, c.0, c.1))
          (none-fires w (tape-of (sets_of w) []) [] sim.leads quiet)))

  first-sized : (n : ℕ) (vss : List (List Value)) → Sized P.ins vss → Sized P.ins (take n vss)
  first-sized zero vss s = tt
  first-sized (suc n) [] s = tt
  first-sized (suc n) (v ∷ vss) s = (s.0, first-sized n vss s.1)

  -- Where nothing can fire, the evaluation of the oldest untaken set has ended, and so has that of every set before it.
  pub ended-when-quiet : (w : List Step) → Sized P.ins (sets_of w) → Accepted-calls w → ((a : ℕ) → Able cap (graph a) (standing w) → ⊥) →
      (n : ℕ) → n ≤ length (sets_of w) → n ≤ suc (takes_of w) → (rss : List (List Value)) × Ending graph p k source credit P M eval (take n (sets_of w)) rss
  ended-when-quiet w s a quiet n few most =
      let c = counts graph p k source credit P.ins P.outs cap A w started a in
      let l : length (take n (sets_of w)) ≡ n = length-take-at n (sets_of w) few in
      demand-ends graph p k source credit P M eval F cap roomy (take n (sets_of w)) (tape-of (drop n (sets_of w)) []) (events-of p k w)
      (fitting (take n (sets_of w)) (first-sized n (sets_of w) s)) (subst (λ t. Possible Can Xs Os (events-of p k w) (set_link source t started)) tapes sim.possible)
      (omega (arith, c.0, l)) (omega (arith, c.1, l))
      (none-fires w (tape-of (take n (sets_of w)) (tape-of (drop n (sets_of w)) [])) [] (subst (λ t. led w t ≡ set_link source [] (standing w)) tapes sim.leads) quiet)
    where
      Xs : ℕ → Links → Links
      Xs = X graph p k source credit P M eval F cap roomy

      Os : ℕ → Links → List Token
      Os = O graph p k source credit P M eval F cap roomy

      sim : Follows graph p k source credit P.ins P.outs cap (events-of p k w) (set_link source (tape-of (sets_of w) []) started) (set_link source [] (standing w)) (taken-results w)
      sim = simulated graph p k source credit P.ins P.outs cap A w started [] s a

      tapes : tape-of (sets_of w) [] ≡ tape-of (take n (sets_of w)) (tape-of (drop n (sets_of w)) [])
      tapes = ap (λ z. tape-of z []) (sym (take-append-drop n (sets_of w))) ∙ tape-append (take n (sets_of w)) (drop n (sets_of w)) []

  sized-more : (vss : List (List Value)) (v : List Value) → Sized P.ins vss → Fits P.ins v → Sized P.ins (vss ++ (v ∷ []))
  sized-more [] v s f = (f, tt)
  sized-more (u ∷ vss) v s f = (s.0, sized-more vss v s.1 f)

  -- Where nothing can fire and every pushed set has been taken, a push of any whole set is accepted: of the reference for the sets pushed and this one
  -- something is left, and it is neither a firing nor a take.
  pub push-when-quiet : (w : List Step) → Sized P.ins (sets_of w) → Accepted-calls w → ((a : ℕ) → Able cap (graph a) (standing w) → ⊥) →
      takes_of w ≡ length (sets_of w) → (v : List Value) → Fits P.ins v → Able cap (fire ((credit, val true-value) ∷ onto P.ins v) []) (standing w)
  push-when-quiet w s a quiet all v f =
      go (demand-push-or-take graph p k source credit P M eval F cap roomy (sets_of w ++ (v ∷ [])) [] (events-of p k w)
      (fitting (sets_of w ++ (v ∷ [])) (sized-more (sets_of w) v s f)) possible
      (omega (arith, (counts graph p k source credit P.ins P.outs cap A w started a).0, length-append (sets_of w) (v ∷ [])))
      (none-fires w tape (tokens-of v ++ []) there quiet))
    where
      tape : List Token
      tape = tape-of (sets_of w ++ (v ∷ [])) []

      same : tape ≡ tape-of (sets_of w) (tokens-of v ++ [])
      same = tape-append (sets_of w) (v ∷ []) []

      sim : Follows graph p k source credit P.ins P.outs cap (events-of p k w) (set_link source (tape-of (sets_of w) (tokens-of v ++ [])) started)
          (set_link source (tokens-of v ++ []) (standing w)) (taken-results w)
      sim = simulated graph p k source credit P.ins P.outs cap A w started (tokens-of v ++ []) s a

      possible : Possible Can (X graph p k source credit P M eval F cap roomy) (O graph p k source credit P M eval F cap roomy) (events-of p k w) (set_link source tape started)
      possible =
          subst (λ t. Possible Can (X graph p k source credit P M eval F cap roomy) (O graph p k source credit P M eval F cap roomy) (events-of p k w) (set_link source t started)) (sym same)
          sim.possible

      there : led w tape ≡ set_link source (tokens-of v ++ []) (standing w)
      there = ap (led w) same ∙ sim.leads

      go : Can p (led w tape) ⊎ Can k (led w tape) → Able cap (fire ((credit, val true-value) ∷ onto P.ins v) []) (standing w)
      go (inl en) =
          without-tape [] (fire ((credit, val true-value) ∷ onto P.ins v) []) (standing w) tt
          (Ne-symm A.source-no-credit, onto-apart source P.ins v A.source-no-input)
          (drawn-able cap source P.ins v [] (standing w) (λ es. fire ((credit, val true-value) ∷ es) []) f
          (event-able w tape (tokens-of v ++ []) there p (push-demand source credit P.ins) (machine-push graph p k source credit P.ins P.outs) en))
      go (inr en) =
          absurd (omega (
            arith,
            untaken-from-start w a,
            collect-credit cap credit P.outs (λ ts. ts) (standing w) C.credit-no-result (take-able w tape (tokens-of v ++ []) there en),
          ))

  -- ---- counts of firings
  -- The references with one place a link, which are references at every capacity.
  abbrev pub Worked : List (List Value) → Type 0
  Worked vss = All-worked graph p k source credit P M F.bench one_place one_each vss [] F.fresh (λ l. [])

  abbrev pub Endless : List (List Value) → ℕ → Type 0
  Endless vss c = Long-reference graph p k source credit P M F.bench one_place one_each (set_link source (tape-of vss []) started) (length vss) c

  abbrev Nx : ℕ → Links → Links
  Nx = X graph p k source credit P M eval F cap roomy

  abbrev Ou : ℕ → Links → List Token
  Ou = O graph p k source credit P M eval F cap roomy

  with-more-places : (w : List ℕ) (q : Links)
      → Possible (E graph p k source credit P M eval F one_place one_each) (X graph p k source credit P M eval F one_place one_each) (O graph p k source credit P M eval F one_place one_each) w q
      → Possible Can Nx Ou w q
  with-more-places [] q r = tt
  with-more-places (a ∷ w) q r = (able-with-more cap roomy (net graph p k source credit P M a) q r.0, with-more-places w (act (net graph p k source credit P M a) q) r.1)

  module _ (w : List Step) (s : Sized P.ins (sets_of w)) (a : Accepted-calls w) (quiet : (a : ℕ) → Able cap (graph a) (standing w) → ⊥) (all : takes_of w ≡ length (sets_of w)) where
    sim-all : Follows graph p k source credit P.ins P.outs cap (events-of p k w) (set_link source (tape-of (sets_of w) []) started) (set_link source [] (standing w)) (taken-results w)
    sim-all = simulated graph p k source credit P.ins P.outs cap A w started [] s a

    -- Nothing but a push can happen.
    at_rest : (e : ℕ) → e ≢ p → Can e (led w (tape-of (sets_of w) [])) → ⊥
    at_rest e np en = go (ℕ_discrete e k)
      where
        go : Dec (e ≡ k) → ⊥
        go (yes z) =
            omega (
              arith,
              untaken-from-start w a,
              all,
              collect-credit cap credit P.outs (λ ts. ts) (standing w) C.credit-no-result
                  (take-able w (tape-of (sets_of w) []) [] sim-all.leads (subst (λ (x : ℕ). Can x (led w (tape-of (sets_of w) []))) z en)),
            )
        go (no nk) = none-fires w (tape-of (sets_of w) []) [] sim-all.leads quiet e np nk en

    pub all_end : Endless (sets_of w) (suc (length (events-of p k w))) → ⊥
    all_end L =
        let h = endless Can Nx Ou (diamond (net graph p k source credit P M) cap F.free) p (events-of p k w) L.w (set_link source (tape-of (sets_of w) []) started) sim-all.possible (with-more-places L.w (set_link source (tape-of (sets_of w) []) started) L.runs)
        (omega (arith, L.few, (counts graph p k source credit P.ins P.outs cap A w started a).0)) (omega (arith, L.many)) in
        at_rest h.0 h.1 h.2

    -- Each operator has fired as often as in the reference.
    pub fired-as-worked : ((σ : Load) → P.Idle σ → (i : ℕ) → Able cap (graph i) (put σ (λ l. [])) → ⊥) → (R : Worked (sets_of w))
        → (e : ℕ) → count e (events-of p k w) ≡ count e R.reference.w
    fired-as-worked still R e =
        let u = events-of p k w in
        let v = R.reference.w in
        let D : Diamond Can Nx Ou = diamond (net graph p k source credit P M) cap F.free in
        let many = (counts graph p k source credit P.ins P.outs cap A w started a).0 in
        let rv : Possible Can Nx Ou v s₀ = with-more-places v s₀ R.reference.runs in
        omega (
          arith,
          rest-covers Can Nx Ou D p u v s₀ sim-all.possible rv (omega (arith, many, R.reference.pushes, R.as_many)) at_rest e,
          rest-covers Can Nx Ou D p v u s₀ rv sim-all.possible (omega (arith, many, R.reference.pushes, R.as_many)) ends e,
        )
      where
        s₀ : Links
        s₀ = set_link source (tape-of (sets_of w) []) started

        final : Links
        final = put R.idle-load (λ l. [])

        here : (b : ℕ) (d : Demand) → net graph p k source credit P M b ≡ d → Can b (reached Can Nx Ou R.reference.w s₀) → Able cap d (set_link source [] final)
        here b d z en = subst (λ x. Able cap x (set_link source [] final)) z (subst (Can b) R.reference.leads en)

        no-credit : final credit ≡ []
        no-credit = put-off credit R.idle-load (λ l. []) (λ o. F.bench.credit-off (inl (F.bench.neat.idle-own R.idle-load R.is-idle credit o)))

        ends : (b : ℕ) → b ≢ p → Can b (reached Can Nx Ou R.reference.w s₀) → ⊥
        ends b np en = by (ℕ_discrete b k)
          where
            by : Dec (b ≡ k) → ⊥
            by (yes z) =
                let o = without-tape [] (take-demand credit P.outs) final (asks-take graph p k source credit P.ins P.outs cap A) (emits-take graph p k source credit P.ins P.outs cap A)
                (here k (take-demand credit P.outs) (machine-take graph p k source credit P.ins P.outs A.push-not-take) (subst (λ (x : ℕ). Can x (reached Can Nx Ou R.reference.w s₀)) z en)) in
                omega (arith, ap length no-credit, collect-credit cap credit P.outs (λ ts. ts) final C.credit-no-result o)
            by (no nk) =
                still R.idle-load R.is-idle b
                (without-tape [] (graph b) final (A.graph-asks b) (A.graph-emits b) (here b (graph b) (machine-graph graph p k source credit P.ins P.outs b np nk) en))

-- Two runs of one graph, at any two capacities, over the same sets: where both are at rest with every set taken, each operator has fired equally often.
module _ (graph : ℕ → Demand) (p k source credit : ℕ) (P : Piece) (M : Means) (eval : ℕ → List Value → Option (List Value)) (F : Made graph p k source credit P M eval) where
  pub record At-rest (cap : ℕ → ℕ) (roomy : (l : ℕ) → 1 ≤ cap l) (A : Source-apart graph p k source credit P.ins P.outs cap) (C : Credit-apart graph credit P.ins P.outs cap) (w : List Step) : Type 0 where
    pub sized : Sized P.ins (sets_of w)
    pub accepted : Accepted-calls graph p k source credit P M eval F cap roomy A C w
    pub quiet : (a : ℕ) → Able cap (graph a) (standing graph p k source credit P M eval F cap roomy A C w) → ⊥
    pub all-taken : takes_of w ≡ length (sets_of w)
    pub idle-still : (σ : Load) → P.Idle σ → (i : ℕ) → Able cap (graph i) (put σ (λ l. [])) → ⊥

  pub fired-alike : (cap cap' : ℕ → ℕ) (roomy : (l : ℕ) → 1 ≤ cap l) (roomy' : (l : ℕ) → 1 ≤ cap' l)
      (A : Source-apart graph p k source credit P.ins P.outs cap) (A' : Source-apart graph p k source credit P.ins P.outs cap')
      (C : Credit-apart graph credit P.ins P.outs cap) (C' : Credit-apart graph credit P.ins P.outs cap') (w w' : List Step)
      → At-rest cap roomy A C w → At-rest cap' roomy' A' C' w' → sets_of w ≡ sets_of w' → (e : ℕ) → count e (events-of p k w) ≡ count e (events-of p k w')
  fired-alike cap cap' roomy roomy' A A' C C' w w' r r' same e =
      go (tried graph p k source credit P M F.bench one_place one_each (suc (length (events-of p k w))) (sets_of w) [] F.fresh (λ l. [])
      (tries graph p k source credit P M eval F one_place one_each (suc (length (events-of p k w))) (sets_of w) (fitted (sets_of w) r.sized)) F.fresh-idle (λ l d. refl) refl)
    where
      fitted : (vss : List (List Value)) → Sized P.ins vss → Fitting graph p k source credit P M eval vss
      fitted [] s = tt
      fitted (v ∷ vss) s = (s.0, fitted vss s.1)

      go : Worked graph p k source credit P M eval F cap roomy A C (sets_of w) ⊎ Endless graph p k source credit P M eval F cap roomy A C (sets_of w) (suc (length (events-of p k w)))
          → count e (events-of p k w) ≡ count e (events-of p k w')
      go (inl R) =
          fired-as-worked graph p k source credit P M eval F cap roomy A C w r.sized r.accepted r.quiet r.all-taken r.idle-still R e
          ∙ sym (moved R)
        where
          moved : (R : Worked graph p k source credit P M eval F cap roomy A C (sets_of w)) → count e (events-of p k w') ≡ count e R.reference.w
          moved = subst (λ (vss : List (List Value)). (R : Worked graph p k source credit P M eval F cap roomy A C vss) → count e (events-of p k w') ≡ count e R.reference.w) (sym same)
              (λ R. fired-as-worked graph p k source credit P M eval F cap' roomy' A' C' w' r'.sized r'.accepted r'.quiet r'.all-taken r'.idle-still R e)
      go (inr L) = absurd (all_end graph p k source credit P M eval F cap roomy A C w r.sized r.accepted r.quiet r.all-taken L)
