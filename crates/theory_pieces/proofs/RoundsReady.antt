-- Runs by rounds on the machine that the calls see (document 02: "operators rising, each that is able at its turn firing once"): after as many rounds as
-- there are firings left of working the sets one after another up to the oldest untaken one, a take is possible. Whatever later sets do and at every capacity.
-- Assumes what Calls.antt assumes, and that every number from n on is no operator.
use Prim.Native.Nat.{ℕ, zero, suc, ◌<◌, ◌≤◌, ◌+◌}
use Rattle.std.specs.Prelude.{◌≡◌, ◌≢◌, length}
use Rattle.std.proofs.Math.Path.{refl, ap, ap₂}
use Rattle.std.proofs.Common.{sym, ◌∙◌, subst, length-append, arith}
use Rattle.std.proofs.Math.Logic.{if_neg}
use mathlib.Core.List.{List, [], ◌∷◌, ◌++◌}
use Rattle.std.proofs.Math.Option.{Option}
use Rattle.std.proofs.Math.Decide.{ℕ_discrete}
use Rattle.theory_schedule.specs.Schedules.{remaining, reached}
use Rattle.theory_schedule.proofs.Schedules.{Possible, reached-append}
use Rattle.theory_schedule.specs.Counts.{count}
use Rattle.theory_schedule.proofs.Rounds.{turn, roundFrom, rounds, ready-after}
use Rattle.value.specs.declared.Value.{Value}
use Rattle.network.specs.Net.{Token, Demand, halt, Links, Able, act}
use Rattle.network.proofs.Commute.{enabled, next, output, diamond}
use Rattle.network.specs.Ends.{take-demand}
use Rattle.network.proofs.Ends.{machine, machine-graph, machine-take}
use Rattle.theory_pieces.specs.Load.{set_link}
use Rattle.theory_pieces.proofs.Load.{set_other, set-ext}
use Rattle.theory_pieces.proofs.Tape.{able-set, act-set, Accepted, events-of, Source-apart, Follows, asks-take, emits-take, simulated, counts}
use Rattle.theory_pieces.specs.Tape.{Step, pushing, firing, taking, sets_of, takes_of, demand-of, results-of, Sized}
use Rattle.theory_pieces.specs.Piece.{Piece, Means}
use Rattle.theory_pieces.proofs.Sets.{net}
use Rattle.theory_pieces.proofs.Made.{Made}
use Rattle.theory_pieces.specs.Demand3.{tape-of}
use Rattle.theory_pieces.proofs.Calls.{Credit-apart, started, standing, Accepted-calls, tape-append}

-- ---- a round does not see the sets to come
module _ (graph : ℕ → Demand) (push take source credit : ℕ) (ins outs : List ℕ) (cap : ℕ → ℕ) (A : Source-apart graph push take source credit ins outs cap)
    (decide : (d : Demand) (q : Links) → Dec (Able cap d q)) (n : ℕ) (np : n ≤ push) (nk : n ≤ take) where
  abbrev N : ℕ → Demand
  N = machine graph push take source credit ins outs

  -- a round of the network with its push and take, and one of the graph alone
  abbrev pub netRound : ℕ → ℕ → Links → List ℕ
  netRound = roundFrom (enabled N cap) (next N cap) (output N cap) (λ e q. decide (N e) q)

  abbrev pub graphRound : ℕ → ℕ → Links → List ℕ
  graphRound = roundFrom (enabled graph cap) (next graph cap) (output graph cap) (λ e q. decide (graph e) q)

  abbrev pub netRounds : ℕ → Links → List ℕ
  netRounds = rounds (enabled N cap) (next N cap) (output N cap) (λ e q. decide (N e) q) n

  abbrev pub graphRounds : ℕ → Links → List ℕ
  graphRounds = rounds (enabled graph cap) (next graph cap) (output graph cap) (λ e q. decide (graph e) q) n

  abbrev pub R : List ℕ → Links → Links
  R = reached (enabled N cap) (next N cap) (output N cap)

  abbrev pub G : List ℕ → Links → Links
  G = reached (enabled graph cap) (next graph cap) (output graph cap)

  same-operator : (i : ℕ) → i < n → N i ≡ graph i
  same-operator i l = machine-graph graph push take source credit ins outs i (λ (e : i ≡ push). omega arith) (λ (e : i ≡ take). omega arith)

  module _ (tape : List Token) where
    seen : (i : ℕ) (q : Links) → i < n → Able cap (graph i) q → Able cap (N i) (set_link source tape q)
    seen i q l o = subst (λ d. Able cap d (set_link source tape q)) (sym (same-operator i l)) (able-set cap source tape (graph i) q (A.graph-asks i) (A.graph-emits i) o)

    unseen : (i : ℕ) (q : Links) → i < n → Able cap (N i) (set_link source tape q) → Able cap (graph i) q
    unseen i q l o =
        subst (Able cap (graph i)) (set-ext source (q source) (set_link source tape q) q refl (λ j n. set_other source j tape q n))
        (able-set cap source (q source) (graph i) (set_link source tape q) (A.graph-asks i) (A.graph-emits i) (subst (λ d. Able cap d (set_link source tape q)) (same-operator i l) o))

    acts : (i : ℕ) (q : Links) → i < n → act (N i) (set_link source tape q) ≡ set_link source tape (act (graph i) q)
    acts i q l = ap (λ d. act d (set_link source tape q)) (same-operator i l) ∙ act-set cap source tape (graph i) q (A.graph-asks i) (A.graph-emits i)

    round_same : (k i : ℕ) (q : Links) → i + k ≤ n → netRound k i (set_link source tape q) ≡ graphRound k i q
    unfolding roundFrom
    round_same zero i q l = refl
    round_same (suc k) i q l =
        go (decide (N i) (set_link source tape q)) (decide (graph i) q)
        (ap (netRound k (suc i)) (acts i q (omega arith)) ∙ round_same k (suc i) (act (graph i) q) (omega arith)) (round_same k (suc i) q (omega arith))
      where
        go : (d : Dec (Able cap (N i) (set_link source tape q))) (d' : Dec (Able cap (graph i) q))
            → netRound k (suc i) (act (N i) (set_link source tape q)) ≡ graphRound k (suc i) (act (graph i) q)
            → netRound k (suc i) (set_link source tape q) ≡ graphRound k (suc i) q
            → turn (enabled N cap) (next N cap) (output N cap) (λ e q. decide (N e) q) d i (netRound k (suc i) (act (N i) (set_link source tape q))) (netRound k (suc i) (set_link source tape q))
            ≡ turn (enabled graph cap) (next graph cap) (output graph cap) (λ e q. decide (graph e) q) d' i (graphRound k (suc i) (act (graph i) q)) (graphRound k (suc i) q)
        go (yes a) (yes b) f g = ap (λ (z : List ℕ). i ∷ z) f
        go (yes a) (no b) f g = absurd (b (unseen i q (omega arith) a))
        go (no a) (yes b) f g = absurd (a (seen i q (omega arith) b))
        go (no a) (no b) f g = g

    -- and both lead to the same links beside the tape
    round-leads : (k i : ℕ) (q : Links) → i + k ≤ n
        → reached (enabled N cap) (next N cap) (output N cap) (graphRound k i q) (set_link source tape q)
        ≡ set_link source tape (reached (enabled graph cap) (next graph cap) (output graph cap) (graphRound k i q) q)
    unfolding roundFrom
    round-leads zero i q l = refl
    round-leads (suc k) i q l = go (decide (graph i) q) (round-leads k (suc i) (act (graph i) q) (omega arith)) (round-leads k (suc i) q (omega arith))
      where
        go : (d : Dec (Able cap (graph i) q)) → R (graphRound k (suc i) (act (graph i) q)) (set_link source tape (act (graph i) q)) ≡ set_link source tape (G (graphRound k (suc i) (act (graph i) q)) (act (graph i) q))
            → R (graphRound k (suc i) q) (set_link source tape q) ≡ set_link source tape (G (graphRound k (suc i) q) q)
            → R (turn (enabled graph cap) (next graph cap) (output graph cap) (λ e q. decide (graph e) q) d i (graphRound k (suc i) (act (graph i) q)) (graphRound k (suc i) q)) (set_link source tape q)
            ≡ set_link source tape (G (turn (enabled graph cap) (next graph cap) (output graph cap) (λ e q. decide (graph e) q) d i (graphRound k (suc i) (act (graph i) q)) (graphRound k (suc i) q)) q)
        go (yes a) f g = ap (R (graphRound k (suc i) (act (graph i) q))) (acts i q (omega arith)) ∙ f
        go (no a) f g = g

    pub rounds-same : (b : ℕ) (q : Links) → (netRounds b (set_link source tape q) ≡ graphRounds b q) × (R (graphRounds b q) (set_link source tape q) ≡ set_link source tape (G (graphRounds b q) q))
    unfolding rounds
    rounds-same zero q = (refl, refl)
    rounds-same (suc b) q =
        let t = graphRound n 0 q in
        let e = round_same n 0 q (omega arith) in
        let m : R t (set_link source tape q) ≡ set_link source tape (G t q) = round-leads n 0 q (omega arith) in
        let h = rounds-same b (G t q) in (
          ap₂ {B = List ℕ} (λ (x y : List ℕ). x ++ y) e (ap (λ (z : List ℕ). netRounds b (R z (set_link source tape q))) e ∙ ap (netRounds b) m ∙ h.0),
          reached-append (enabled N cap) (next N cap) (output N cap) t (graphRounds b (G t q)) (set_link source tape q)
              ∙ ap (R (graphRounds b (G t q))) m ∙ h.1 ∙ ap (set_link source tape) (sym (reached-append (enabled graph cap) (next graph cap) (output graph cap) t (graphRounds b (G t q)) q)),
        )

-- ---- lists of accepted calls
sets_end : (v : List Step) → sets_of (v ++ (taking ∷ [])) ≡ sets_of v
sets_end [] = refl
sets_end (pushing vs ∷ v) = ap (λ (z : List (List Value)). vs ∷ z) (sets_end v)
sets_end (firing a ∷ v) = sets_end v
sets_end (taking ∷ v) = sets_end v

events-end : (p k : ℕ) (v : List Step) → events-of p k (v ++ (taking ∷ [])) ≡ events-of p k v ++ (k ∷ [])
events-end p k [] = refl
events-end p k (pushing vs ∷ v) = ap (λ (z : List ℕ). p ∷ z) (events-end p k v)
events-end p k (firing a ∷ v) = ap (λ (z : List ℕ). a ∷ z) (events-end p k v)
events-end p k (taking ∷ v) = ap (λ (z : List ℕ). k ∷ z) (events-end p k v)

module _ (graph : ℕ → Demand) (credit : ℕ) (ins outs : List ℕ) (cap : ℕ → ℕ) where
  accepted-first : (v w : List Step) (q : Links) → Accepted graph credit ins outs cap (v ++ w) q → Accepted graph credit ins outs cap v q
  accepted-first [] w q a = tt
  accepted-first (s ∷ v) w q a = (a.0, accepted-first v w (act (demand-of graph credit ins outs cap s) q) a.1)

  -- a number that is no operator does not fire
  none-past : (p k n : ℕ) → ((a : ℕ) → n ≤ a → graph a ≡ halt) → (v : List Step) (q : Links) → Accepted graph credit ins outs cap v q
      → (e : ℕ) → n ≤ e → e ≢ p → e ≢ k → count e (events-of p k v) ≡ 0
  none-past p k n past [] q a e l np nk = refl
  none-past p k n past (pushing vs ∷ v) q a e l np nk = if_neg (ℕ_discrete e p) np _ _ ∙ none-past p k n past v (act (demand-of graph credit ins outs cap (pushing vs)) q) a.1 e l np nk
  none-past p k n past (firing b ∷ v) q a e l np nk =
      if_neg (ℕ_discrete e b) (λ z. subst (λ d. Able cap d q) (past e l) (subst (λ x. Able cap (graph x) q) (sym z) a.0)) _ _
      ∙ none-past p k n past v (act (graph b) q) a.1 e l np nk
  none-past p k n past (taking ∷ v) q a e l np nk = if_neg (ℕ_discrete e k) nk _ _ ∙ none-past p k n past v (act (take-demand credit outs) q) a.1 e l np nk

module _ (graph : ℕ → Demand) (p k source credit : ℕ) (P : Piece) (M : Means) (eval : ℕ → List Value → Option (List Value)) (F : Made graph p k source credit P M eval) (cap : ℕ → ℕ)
    (roomy : (l : ℕ) → 1 ≤ cap l) (A : Source-apart graph p k source credit P.ins P.outs cap) (C : Credit-apart graph credit P.ins P.outs cap)
    (decide : (d : Demand) (q : Links) → Dec (Able cap d q)) (n : ℕ) (np : n ≤ p) (nk : n ≤ k) (past : (a : ℕ) → n ≤ a → graph a ≡ halt) where
  abbrev begun : Links
  begun = started graph p k source credit P M eval F cap roomy A C

  abbrev stood : List Step → Links
  stood = standing graph p k source credit P M eval F cap roomy A C

  -- `v` works the sets up to the oldest untaken one in turn, all but its take; `w` are the calls so far. After as many rounds as `v` has firings left, a take is possible.
  pub rounds-ready : (w v : List Step) (more : List (List Value)) → Sized P.ins (sets_of w) → Sized P.ins (sets_of v)
      → Accepted-calls graph p k source credit P M eval F cap roomy A C w → Accepted-calls graph p k source credit P M eval F cap roomy A C (v ++ (taking ∷ []))
      → sets_of w ≡ sets_of v ++ more → takes_of w ≡ takes_of v → (b : ℕ) → length (remaining (events-of p k w) (events-of p k v)) ≤ b
      → Able cap (take-demand credit P.outs)
      (G graph p k source credit P.ins P.outs cap A decide n np nk (graphRounds graph p k source credit P.ins P.outs cap A decide n np nk b (stood w)) (stood w))
  rounds-ready w v more s sv a av same taken b l =
      let T = rounds-same graph p k source credit P.ins P.outs cap A decide n np nk [] b (stood w) in
      let en = ready-after Can Nx Ou (λ e q. decide (net graph p k source credit P M e) q) (diamond (net graph p k source credit P M) cap F.free) n k u (events-of p k v) s₀ nk
      sim.possible rv far (omega (arith, cw.1, cv.1)) b l in
      let at : Can k (set_link source [] final) =
      subst (Can k) T.1
      (subst (λ (t : List ℕ). Can k (reached Can Nx Ou t (set_link source [] (stood w)))) T.0
      (subst (λ (q : Links). Can k (reached Can Nx Ou (rounds Can Nx Ou (λ e q. decide (net graph p k source credit P M e) q) n b q) q)) sim.leads en)) in
      subst (Able cap (take-demand credit P.outs)) (set-ext source (final source) (set_link source [] final) final refl (λ j x. set_other source j [] final x))
      (able-set cap source (final source) (take-demand credit P.outs) (set_link source [] final) (asks-take graph p k source credit P.ins P.outs cap A) (emits-take graph p k source credit P.ins P.outs cap A)
      (subst (λ d. Able cap d (set_link source [] final)) (machine-take graph p k source credit P.ins P.outs A.push-not-take) at))
    where
      Can : ℕ → Links → Type 0
      Can = enabled (net graph p k source credit P M) cap

      Nx : ℕ → Links → Links
      Nx = next (net graph p k source credit P M) cap

      Ou : ℕ → Links → List Token
      Ou = output (net graph p k source credit P M) cap

      u : List ℕ
      u = events-of p k w

      s₀ : Links
      s₀ = set_link source (tape-of (sets_of w) []) begun

      final : Links
      final = G graph p k source credit P.ins P.outs cap A decide n np nk (graphRounds graph p k source credit P.ins P.outs cap A decide n np nk b (stood w)) (stood w)

      sim : Follows graph p k source credit P.ins P.outs cap u s₀ (set_link source [] (stood w)) (results-of graph credit P.ins P.outs cap w begun)
      sim = simulated graph p k source credit P.ins P.outs cap A w begun [] s a

      av₁ : Accepted graph credit P.ins P.outs cap v begun
      av₁ = accepted-first graph credit P.ins P.outs cap v (taking ∷ []) begun av

      cw : (count p u ≡ length (sets_of w)) × (count k u ≡ takes_of w)
      cw = counts graph p k source credit P.ins P.outs cap A w begun a

      cv : (count p (events-of p k v) ≡ length (sets_of v)) × (count k (events-of p k v) ≡ takes_of v)
      cv = counts graph p k source credit P.ins P.outs cap A v begun av₁

      rv : Possible (enabled (net graph p k source credit P M) cap) (next (net graph p k source credit P M) cap) (output (net graph p k source credit P M) cap) (events-of p k v ++ (k ∷ [])) s₀
      rv =
          let E = enabled (net graph p k source credit P M) cap in
          let tapes : tape-of (sets_of (v ++ (taking ∷ []))) (tape-of more []) ≡ tape-of (sets_of w) []
          = ap (λ (z : List (List Value)). tape-of z (tape-of more [])) (sets_end v) ∙ sym (tape-append (sets_of v) more []) ∙ ap (λ (z : List (List Value)). tape-of z []) (sym same) in
          subst (λ (t : List Token). Possible E (next (net graph p k source credit P M) cap) (output (net graph p k source credit P M) cap) (events-of p k v ++ (k ∷ [])) (set_link source t begun)) tapes
          (subst (λ (t : List ℕ). Possible E (next (net graph p k source credit P M) cap) (output (net graph p k source credit P M) cap) t
          (set_link source (tape-of (sets_of (v ++ (taking ∷ []))) (tape-of more [])) begun)) (events-end p k v)
          (simulated graph p k source credit P.ins P.outs cap A (v ++ (taking ∷ [])) begun (tape-of more []) (subst (Sized P.ins) (sym (sets_end v)) sv) av).possible)

      far : (e : ℕ) → n ≤ e → count e (events-of p k v) ≤ count e u
      far e h = go (ℕ_discrete e p) (ℕ_discrete e k)
        where
          go : Dec (e ≡ p) → Dec (e ≡ k) → count e (events-of p k v) ≤ count e u
          go (yes z) d =
              subst (λ (x : ℕ). count x (events-of p k v) ≤ count x u) (sym z) (omega (arith, cw.0, cv.0, ap length same ∙ length-append (sets_of v) more))
          go (no y) (yes z) = subst (λ (x : ℕ). count x (events-of p k v) ≤ count x u) (sym z) (omega (arith, cw.1, cv.1))
          go (no y) (no z) = omega (arith, none-past graph credit P.ins P.outs cap p k n past v begun av₁ e h y z)
