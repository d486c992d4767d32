-- Laws of specs/Tape.antt, and what only they need.
use Rattle.std.specs.Prelude.{ℕ, suc, ◌<◌, ◌≡◌, refl, ◌≢◌, length}
use Rattle.std.proofs.Math.Path.{sym, ap}
use Rattle.std.proofs.Common.{◌∙◌, subst, inl, inr}
use Rattle.std.proofs.Math.Logic.{ite, if_pos, if_neg, Ne-symm}
use mathlib.Core.List.{List, [], ◌∷◌, ◌++◌}
use Rattle.std.proofs.Math.Decide.{ℕ_discrete}
use Rattle.theory_schedule.proofs.Schedules.{Possible, outputs}
use Rattle.theory_schedule.specs.Schedules.{reached}
use Rattle.theory_schedule.specs.Counts.{count}
use Rattle.value.specs.declared.Value.{Value}
use Rattle.network.specs.Values.{true-value}
use Rattle.network.specs.Net.{Token, val, Demand, ask, fire, halt, Links, head, tail, pop, append, Room, Able, appends, act, label}
use Rattle.network.proofs.Commute.{enabled, next, output}
use Rattle.network.specs.Commute.{Never-asks, Not-among, Never-emits}
use Rattle.network.specs.Ends.{push-demand, take-demand, collect}
use Rattle.network.proofs.Ends.{machine, machine-push, machine-take, machine-graph}
use Rattle.network.specs.Uses.{In}
use Rattle.theory_pieces.specs.Load.{set_link}
use Rattle.theory_pieces.proofs.Load.{set_same, set_other, set-ext}
use Rattle.theory_pieces.specs.Sets.{tokens-of, onto}
use Rattle.theory_pieces.proofs.Sets.{draw-does}
use Rattle.theory_pieces.specs.Demand3.{tape-of}
use Rattle.theory_pieces.specs.Tape.{Step, pushing, firing, taking, sets_of, takes_of, Sized}
use Rattle.theory_pieces.specs.Tape as Stated

-- A link that a firing does not use may hold anything.
module _ (cap : ℕ → ℕ) (l : ℕ) (x : List Token) where
  append-set : (m : ℕ) (t : Token) (q : Links) → m ≢ l → append m t (set_link l x q) ≡ set_link l x (append m t q)
  unfolding append
  append-set m t q ne =
      sym (set-ext l x (append m t q) (append m t (set_link l x q)) (if_neg (ℕ_discrete l m) (Ne-symm ne) _ _ ∙ set_same l x q)
      (λ j n. ap (λ (z : List Token). ite (ℕ_discrete j m) (z ++ (t ∷ [])) z) (sym (set_other l j x q n))))

  pop-set-other : (m : ℕ) (q : Links) → m ≢ l → pop m (set_link l x q) ≡ set_link l x (pop m q)
  unfolding pop
  pop-set-other m q ne =
      sym (set-ext l x (pop m q) (pop m (set_link l x q)) (if_neg (ℕ_discrete l m) (Ne-symm ne) _ _ ∙ set_same l x q)
      (λ j n. ap (λ (z : List Token). ite (ℕ_discrete j m) (tail z) z) (sym (set_other l j x q n))))

  room-set : (es : List (ℕ × Token)) (q : Links) → Not-among es l → Room cap es q → Room cap es (set_link l x q)
  room-set [] q n r = tt
  room-set (e ∷ es) q n r = (
    subst (λ z. length z < cap e.0) (sym (set_other l e.0 x q n.0)) r.0,
    subst (Room cap es) (sym (append-set e.0 e.1 q n.0)) (room-set es (append e.0 e.1 q) n.1 r.1),
  )

  appends-set : (es : List (ℕ × Token)) (q : Links) → Not-among es l → appends es (set_link l x q) ≡ set_link l x (appends es q)
  appends-set [] q n = refl
  appends-set (e ∷ es) q n = ap (appends es) (append-set e.0 e.1 q n.0) ∙ appends-set es (append e.0 e.1 q) n.1

  pub able-set : (d : Demand) (q : Links) → Never-asks d l → Never-emits d l → Able cap d q → Able cap d (set_link l x q)
  able-set (ask m k) q na ne (h, o) =
      let e : set_link l x q m ≡ q m = set_other l m x q na.0 in (
        subst (λ z. 0 < length z) (sym e) h,
        subst (λ z. Able cap (k (head z)) (pop m (set_link l x q))) (sym e)
            (subst (Able cap (k (head (q m)))) (sym (pop-set-other m q na.0)) (able-set (k (head (q m))) (pop m q) (na.1 (head (q m))) (ne (head (q m))) o)),
      )
  able-set (fire es r) q na ne o = room-set es q ne o
  able-set halt q na ne o = absurd o

  pub act-set : (d : Demand) (q : Links) → Never-asks d l → Never-emits d l → act d (set_link l x q) ≡ set_link l x (act d q)
  act-set (ask m k) q na ne =
      ap (λ z. act (k (head z)) (pop m (set_link l x q))) (set_other l m x q na.0) ∙ ap (act (k (head (q m)))) (pop-set-other m q na.0)
      ∙ act-set (k (head (q m))) (pop m q) (na.1 (head (q m))) (ne (head (q m)))
  act-set (fire es r) q na ne = appends-set es q ne
  act-set halt q na ne = refl

  pub label-set : (d : Demand) (q : Links) → Never-asks d l → Never-emits d l → label d (set_link l x q) ≡ label d q
  label-set (ask m k) q na ne =
      ap (λ z. label (k (head z)) (pop m (set_link l x q))) (set_other l m x q na.0) ∙ ap (label (k (head (q m)))) (pop-set-other m q na.0)
      ∙ label-set (k (head (q m))) (pop m q) (na.1 (head (q m))) (ne (head (q m)))
  label-set (fire es r) q na ne = refl
  label-set halt q na ne = refl

module _ (graph : ℕ → Demand) (credit : ℕ) (ins outs : List ℕ) (cap : ℕ → ℕ) where
  abbrev demand-of : Step → Demand
  demand-of = Stated.demand-of graph credit ins outs cap

  -- every call of the list is accepted, one after another
  abbrev pub Accepted : List Step → Links → Type 0
  Accepted [] q = Unit {0}
  Accepted (s ∷ w) q = Able cap (demand-of s) q × Accepted w (act (demand-of s) q)

  abbrev pub after : List Step → Links → Links
  after [] q = q
  after (s ∷ w) q = after w (act (demand-of s) q)

  abbrev results-of : List Step → Links → List (List Token)
  results-of = Stated.results-of graph credit ins outs cap

module _ (push take : ℕ) where
  abbrev pub events-of : List Step → List ℕ
  events-of [] = []
  events-of (pushing vs ∷ w) = push ∷ events-of w
  events-of (firing a ∷ w) = a ∷ events-of w
  events-of (taking ∷ w) = take ∷ events-of w

module _ (graph : ℕ → Demand) (push take source credit : ℕ) (ins outs : List ℕ) (cap : ℕ → ℕ) where
  -- The source is used by push alone; push and take are no operators of the graph.
  pub record Source-apart : Type 0 where
    pub graph-asks : (a : ℕ) → Never-asks (graph a) source
    pub graph-emits : (a : ℕ) → Never-emits (graph a) source
    pub no-push : graph push ≡ halt
    pub no-take : graph take ≡ halt
    pub push-not-take : push ≢ take
    pub source-no-credit : source ≢ credit
    pub source-no-input : In source ins → ⊥
    pub source-no-result : In source outs → ⊥

  abbrev N : ℕ → Demand
  N = machine graph push take source credit ins outs

  abbrev En : ℕ → Links → Type 0
  En = enabled N cap

  abbrev Nx : ℕ → Links → Links
  Nx = next N cap

  abbrev Ou : ℕ → Links → List Token
  Ou = output N cap

  -- these events are possible, lead there and hand these results out
  pub record Follows (u : List ℕ) (s s' : Links) (os : List (List Token)) : Type 0 where
    pub possible : Possible En Nx Ou u s
    pub leads : reached En Nx Ou u s ≡ s'
    pub hands : outputs En Nx Ou take u s ≡ os

  other-first : (a : ℕ) (d : Demand) (u : List ℕ) (s s₁ s' : Links) (os : List (List Token)) → N a ≡ d → take ≢ a → Able cap d s → act d s ≡ s₁ → Follows u s₁ s' os →
      Follows (a ∷ u) s s' os
  other-first a d u s s₁ s' os e ne o m F =
      let to : Nx a s ≡ s₁ = ap (λ z. act z s) e ∙ m in
      record {
        possible = (subst (λ z. Able cap z s) (sym e) o, subst (Possible En Nx Ou u) (sym to) F.possible);
        leads = ap (reached En Nx Ou u) to ∙ F.leads;
        hands = if_neg (ℕ_discrete take a) ne _ _ ∙ ap (outputs En Nx Ou take u) to ∙ F.hands;
      }

  take-first : (d : Demand) (u : List ℕ) (s s₁ s' : Links) (o : List Token) (os : List (List Token)) → N take ≡ d → Able cap d s → act d s ≡ s₁ → label d s ≡ o →
      Follows u s₁ s' os → Follows (take ∷ u) s s' (o ∷ os)
  take-first d u s s₁ s' o os e ab m lb F =
      let to : Nx take s ≡ s₁ = ap (λ z. act z s) e ∙ m in
      record {
        possible = (subst (λ z. Able cap z s) (sym e) ab, subst (Possible En Nx Ou u) (sym to) F.possible);
        leads = ap (reached En Nx Ou u) to ∙ F.leads;
        hands = if_pos (ℕ_discrete take take) refl _ _ ∙ ap (λ z. z ∷ outputs En Nx Ou take u (Nx take s)) (ap (λ z. label z s) e ∙ lb)
            ∙ ap (λ z. o ∷ z) (ap (outputs En Nx Ou take u) to ∙ F.hands);
      }

  onto-apart : (is : List ℕ) (vs : List Value) → (In source is → ⊥) → Not-among (onto is vs) source
  onto-apart [] vs n = tt
  onto-apart (i ∷ is) [] n = tt
  onto-apart (i ∷ is) (v ∷ vs) n = (λ e. n (inl (sym e)), onto-apart is vs (λ m. n (inr m)))

  module _ (A : Source-apart) where
    take-asks : (os : List ℕ) (k : List Token → Demand) → (In source os → ⊥) → ((ts : List Token) → Never-asks (k ts) source) → Never-asks (collect os k) source
    take-asks [] k n f = f []
    take-asks (o ∷ os) k n f = (λ e. n (inl (sym e)), λ t. take-asks os (λ ts. k (t ∷ ts)) (λ m. n (inr m)) (λ ts. f (t ∷ ts)))

    take-emits : (os : List ℕ) (k : List Token → Demand) → ((ts : List Token) → Never-emits (k ts) source) → Never-emits (collect os k) source
    take-emits [] k f = f []
    take-emits (o ∷ os) k f = λ t. take-emits os (λ ts. k (t ∷ ts)) (λ ts. f (t ∷ ts))

    pub asks-take : Never-asks (take-demand credit outs) source
    asks-take = take-asks outs (λ ts. ask credit (λ u. fire [] ts)) A.source-no-result (λ ts. (Ne-symm A.source-no-credit, λ t. tt))

    pub emits-take : Never-emits (take-demand credit outs) source
    emits-take = take-emits outs (λ ts. ask credit (λ u. fire [] ts)) (λ ts t. tt)

    -- an operator that can fire is neither push nor take
    able-not : (a b : ℕ) (q : Links) → graph b ≡ halt → Able cap (graph a) q → b ≢ a
    able-not a b q h o e = subst (λ d. Able cap d q) h (subst (λ x. Able cap (graph x) q) (sym e) o)

    -- What the accepted calls do, the events do with the sets on the source.
    pub simulated : (w : List Step) (q : Links) (tape : List Token) → Sized ins (sets_of w) → Accepted graph credit ins outs cap w q →
        Follows (events-of push take w) (set_link source (tape-of (sets_of w) tape) q) (set_link source tape (after graph credit ins outs cap w q))
        (results-of graph credit ins outs cap w q)
    simulated [] q tape f a = record { possible = tt; leads = refl; hands = refl }
    simulated (pushing vs ∷ w) q tape f (o, a) =
        other-first push (push-demand source credit ins) (events-of push take w) (set_link source (tokens-of vs ++ T) q) (set_link source T (act D q))
        (set_link source tape (after graph credit ins outs cap w (act D q))) (results-of graph credit ins outs cap w (act D q))
        (machine-push graph push take source credit ins outs) (Ne-symm A.push-not-take) (h.0 (able-set cap source T D q tt apart o)) (h.1 ∙ act-set cap source T D q tt apart)
        (simulated w (act D q) tape f.1 a)
      where
        T : List Token
        T = tape-of (sets_of w) tape

        D : Demand
        D = fire ((credit, val true-value) ∷ onto ins vs) []

        apart : Not-among ((credit, val true-value) ∷ onto ins vs) source
        apart = (Ne-symm A.source-no-credit, onto-apart ins vs A.source-no-input)

        h : (Able cap D (set_link source T q) → Able cap (push-demand source credit ins) (set_link source (tokens-of vs ++ T) q))
            × (act (push-demand source credit ins) (set_link source (tokens-of vs ++ T) q) ≡ act D (set_link source T q))
        h = draw-does cap source ins vs T q (λ es. fire ((credit, val true-value) ∷ es) []) f.0
    simulated (firing b ∷ w) q tape f (o, a) =
        other-first b (graph b) (events-of push take w) (set_link source T q) (set_link source T (act (graph b) q)) (set_link source tape (after graph credit ins outs cap w (act (graph b) q)))
        (results-of graph credit ins outs cap w (act (graph b) q))
        (machine-graph graph push take source credit ins outs b (Ne-symm (able-not b push q A.no-push o)) (Ne-symm (able-not b take q A.no-take o)))
        (able-not b take q A.no-take o) (able-set cap source T (graph b) q (A.graph-asks b) (A.graph-emits b) o) (act-set cap source T (graph b) q (A.graph-asks b) (A.graph-emits b))
        (simulated w (act (graph b) q) tape f a)
      where
        T : List Token
        T = tape-of (sets_of w) tape
    simulated (taking ∷ w) q tape f (o, a) =
        take-first K (events-of push take w) (set_link source T q) (set_link source T (act K q)) (set_link source tape (after graph credit ins outs cap w (act K q))) (label K q)
        (results-of graph credit ins outs cap w (act K q)) (machine-take graph push take source credit ins outs A.push-not-take)
        (able-set cap source T K q asks-take emits-take o) (act-set cap source T K q asks-take emits-take) (label-set cap source T K q asks-take emits-take)
        (simulated w (act K q) tape f a)
      where
        K : Demand
        K = take-demand credit outs

        T : List Token
        T = tape-of (sets_of w) tape

    -- the events count the pushes and the takes
    pub counts : (w : List Step) (q : Links) → Accepted graph credit ins outs cap w q →
        (count push (events-of push take w) ≡ length (sets_of w)) × (count take (events-of push take w) ≡ takes_of w)
    counts [] q a = (refl, refl)
    counts (pushing vs ∷ w) q (o, a) =
        let h = counts w (act (fire ((credit, val true-value) ∷ onto ins vs) []) q) a in
        (if_pos (ℕ_discrete push push) refl _ _ ∙ ap suc h.0, if_neg (ℕ_discrete take push) (Ne-symm A.push-not-take) _ _ ∙ h.1)
    counts (firing b ∷ w) q (o, a) =
        let h = counts w (act (graph b) q) a in (
          if_neg (ℕ_discrete push b) (able-not b push q A.no-push o) _ _ ∙ h.0,
          if_neg (ℕ_discrete take b) (able-not b take q A.no-take o) _ _ ∙ h.1,
        )
    counts (taking ∷ w) q (o, a) =
        let h = counts w (act (take-demand credit outs) q) a in
        (if_neg (ℕ_discrete push take) A.push-not-take _ _ ∙ h.0, if_pos (ℕ_discrete take take) refl _ _ ∙ ap suc h.1)
