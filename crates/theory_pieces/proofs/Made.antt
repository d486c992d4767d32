-- What the maker of a graph owes (`Made`), and what follows from it: demand 3's second half in terms of the direct evaluator.
use Rattle.std.specs.Prelude.{ℕ, suc, ◌<◌, ◌≤◌, ◌≡◌, refl, ◌≢◌, ◌⊎◌, List, [], ◌∷◌, length}
use Rattle.std.proofs.Common.{inl, inr, arith}
use Rattle.std.proofs.Math.Option.{Option, none, some}
use Rattle.theory_schedule.proofs.Schedules.{Possible}
use Rattle.theory_schedule.specs.Schedules.{reached}
use Rattle.theory_schedule.specs.Counts.{count}
use Rattle.theory_schedule.proofs.Progress.{endless-inside}
use Rattle.value.specs.declared.Value.{Value}
use Rattle.network.specs.Net.{Token, Demand, Links}
use Rattle.network.specs.Commute.{Free}
use Rattle.network.proofs.Commute.{diamond}
use Rattle.theory_pieces.specs.Load.{Load}
use Rattle.theory_pieces.specs.Piece.{Piece, Means, some_of, Fits}
use Rattle.theory_pieces.specs.Sets.{tokens-of}
use Rattle.theory_pieces.proofs.Sets.{net, Bench}
use Rattle.theory_pieces.proofs.Demand3.{Enabled, Next, Output, Between, Reference, Long-reference, ref-long, one, one-long, Tried, ready, push-or-take}
use Rattle.theory_pieces.specs.Demand3.{tape-of}

-- For one accepted formula: the graph `graph` with the numbers of push and take, of the tape's link and of the credit's; its piece, with the schedule lemma
-- (in `bench`); that operators commute (`free`, from one taker and one putter a link); and that the piece means what the evaluator gives.
module _ (graph : ℕ → Demand) (p k source credit : ℕ) (P : Piece) (M : Means) (eval : ℕ → List Value → Option (List Value)) where
  pub record Made : Type 0 where
    pub bench : Bench graph p k source credit P M
    pub free : (a b : ℕ) → a ≢ b → Free (net graph p k source credit P M a) (net graph p k source credit P M b)
    -- lent n rounds it ends with `r`: so does the piece
    pub ended : (n : ℕ) (v r : List Value) → Fits P.ins v → eval n v ≡ some r → Fits P.outs r × ((c : ℕ) × M (some_of v) c (some (some_of r)))
    -- n rounds are not enough: the piece goes on for n firings at least
    pub lost : (n : ℕ) (v : List Value) → Fits P.ins v → eval n v ≡ none → M (some_of v) n none
    -- at the start: every register marked, everything else empty
    pub fresh : Load
    pub fresh-idle : P.Idle fresh

  -- some number of rounds is enough for each set
  abbrev pub Ending : List (List Value) → List (List Value) → Type 0
  Ending [] [] = Unit {0}
  Ending [] (r ∷ rss) = ⊥
  Ending (v ∷ vss) [] = ⊥
  Ending (v ∷ vss) (r ∷ rss) = Fits P.ins v × ((n : ℕ) × (eval n v ≡ some r)) × Ending vss rss

  abbrev pub Fitting : List (List Value) → Type 0
  Fitting [] = Unit {0}
  Fitting (v ∷ vss) = Fits P.ins v × Fitting vss

  module _ (F : Made) (cap : ℕ → ℕ) (roomy : (l : ℕ) → 1 ≤ cap l) where
    abbrev pub E : ℕ → Links → Type 0
    E = Enabled graph p k source credit P M F.bench cap roomy

    abbrev pub X : ℕ → Links → Links
    X = Next graph p k source credit P M F.bench cap roomy

    abbrev pub O : ℕ → Links → List Token
    O = Output graph p k source credit P M F.bench cap roomy

    -- the machine at rest with an idle load, and as start leaves it, with the sets to come on the tape
    abbrev At : Load → List Token → Links
    At σ tape = Between graph p k source credit P M F.bench cap roomy σ tape (λ l. [])

    abbrev pub Start : List Token → Links
    Start tape = At F.fresh tape

    pub tries : (n : ℕ) (vss : List (List Value)) → Fitting vss → Tried graph p k source credit P M F.bench cap roomy n vss
    tries n [] f = tt
    tries n (v ∷ vss) f = (f.0, go (eval n v) refl, tries n vss f.1)
      where
        go : (o : Option (List Value)) → eval n v ≡ o → ((r : List Value) × (d : ℕ) × Fits P.outs r × M (some_of v) d (some (some_of r))) ⊎ M (some_of v) n none
        go none e = inr (F.lost n v f.0 e)
        go (some r) e = let h = F.ended n v r f.0 e in inl (r, h.1.0, h.0, h.1.1)

    -- Second half: with all of `vss` pushed and fewer taken, where nothing can fire a whole result is ready.
    pub demand-ready : (vss : List (List Value)) (tail : List Token) (u : List ℕ) → Fitting vss → Possible E X O u (Start (tape-of vss tail)) → length vss ≤ count p u →
        count k u < length vss → ((a : ℕ) → a ≢ p → a ≢ k → E a (reached E X O u (Start (tape-of vss tail))) → ⊥) → E k (reached E X O u (Start (tape-of vss tail)))
    demand-ready vss tail u f ru le lt stuck =
        ready graph p k source credit P M F.bench cap roomy F.free vss tail F.fresh (λ l. []) u (tries (suc (length u)) vss f) F.fresh-idle (λ l d. refl) refl ru le lt stuck

    -- Lent n rounds for each of these sets, the evaluator ends with every one, or there is a list of events as long as that.
    settled : (n : ℕ) (vss : List (List Value)) (tail : List Token) (σ : Load) → Fitting vss → P.Idle σ →
        ((rss : List (List Value)) × Ending vss rss) ⊎ Long-reference graph p k source credit P M F.bench cap roomy (At σ (tape-of vss tail)) (length vss) n
    settled n [] tail σ f i = inl ([], tt)
    settled n (v ∷ vss) tail σ f i = go (λ σ' j. settled n vss tail σ' f.1 j) (eval n v) refl
      where
        go : ((σ' : Load) → P.Idle σ' →
            ((rss : List (List Value)) × Ending vss rss) ⊎ Long-reference graph p k source credit P M F.bench cap roomy (At σ' (tape-of vss tail)) (length vss) n) → (o : Option (List Value)) → eval n v ≡ o →
            ((rss : List (List Value)) × Ending (v ∷ vss) rss) ⊎ Long-reference graph p k source credit P M F.bench cap roomy (At σ (tape-of (v ∷ vss) tail)) (suc (length vss)) n
        go ih none e =
            let h = one-long graph p k source credit P M F.bench cap roomy v n (tape-of vss tail) σ (λ l. []) f.0 (F.lost n v f.0 e) i (λ l d. refl) refl in
            inr (record { w = h.w; runs = h.runs; many = h.many; few = omega (arith, h.few); untaken = omega (arith, h.untaken) })
        go ih (some r) e =
            let m = F.ended n v r f.0 e in
            let o = one graph p k source credit P M F.bench cap roomy v r m.1.0 (tape-of vss tail) σ (λ l. []) f.0 m.0 m.1.1 i (λ l d. refl) refl in
            next o.0 o.2 (ih o.0 o.1)
          where
            next : (σ' : Load) → Reference graph p k source credit P M F.bench cap roomy (At σ (tape-of (v ∷ vss) tail)) (tokens-of r ∷ []) (At σ' (tape-of vss tail)) →
                ((rss : List (List Value)) × Ending vss rss) ⊎ Long-reference graph p k source credit P M F.bench cap roomy (At σ' (tape-of vss tail)) (length vss) n →
                ((rss : List (List Value)) × Ending (v ∷ vss) rss) ⊎ Long-reference graph p k source credit P M F.bench cap roomy (At σ (tape-of (v ∷ vss) tail)) (suc (length vss)) n
            next σ' g (inl (rss, x)) = inl (r ∷ rss, (f.0, (n, e), x))
            next σ' g (inr l) =
                let h = ref-long graph p k source credit P M F.bench cap roomy (At σ (tape-of (v ∷ vss) tail)) (At σ' (tape-of vss tail)) (tokens-of r ∷ []) (length vss) n g l in
                inr (record { w = h.w; runs = h.runs; many = h.many; few = omega (arith, h.few); untaken = omega (arith, h.untaken) })

    -- With all of `vss` pushed and all but the last of them taken: where nothing can fire, the evaluation of each has ended.
    pub demand-ends : (vss : List (List Value)) (tail : List Token) (u : List ℕ) → Fitting vss → Possible E X O u (Start (tape-of vss tail)) → length vss ≤ count p u →
        length vss ≤ suc (count k u) → ((a : ℕ) → a ≢ p → a ≢ k → E a (reached E X O u (Start (tape-of vss tail))) → ⊥) → (rss : List (List Value)) × Ending vss rss
    demand-ends vss tail u f ru le lt stuck = go (settled (suc (length u)) vss tail F.fresh f F.fresh-idle)
      where
        go : ((rss : List (List Value)) × Ending vss rss) ⊎ Long-reference graph p k source credit P M F.bench cap roomy (Start (tape-of vss tail)) (length vss) (suc (length u)) →
            (rss : List (List Value)) × Ending vss rss
        go (inl z) = z
        go (inr l) =
            let h =
            endless-inside E X O (diamond (net graph p k source credit P M) cap F.free) p k u l.w (Start (tape-of vss tail)) ru l.runs (omega (arith, l.few)) (omega (arith, l.untaken))
            (omega (arith, l.many)) in
            absurd (stuck h.0 h.1 h.2 h.3)

    -- With a set of `vss` not pushed yet: where nothing can fire, a push or a take is possible.
    pub demand-push-or-take : (vss : List (List Value)) (tail : List Token) (u : List ℕ) → Fitting vss → Possible E X O u (Start (tape-of vss tail)) → count p u < length vss →
        ((a : ℕ) → a ≢ p → a ≢ k → E a (reached E X O u (Start (tape-of vss tail))) → ⊥) →
        E p (reached E X O u (Start (tape-of vss tail))) ⊎ E k (reached E X O u (Start (tape-of vss tail)))
    demand-push-or-take vss tail u f ru lt stuck =
        push-or-take graph p k source credit P M F.bench cap roomy F.free vss tail F.fresh (λ l. []) u (tries (suc (length u)) vss f) F.fresh-idle (λ l d. refl) refl ru lt stuck
