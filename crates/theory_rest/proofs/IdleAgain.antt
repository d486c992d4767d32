-- Where nothing can fire and every pushed set has been taken, a made graph stands as after working the sets one after another: on its links lies an idle load
-- (document 02, Job 12). For any made graph (theory_pieces/specs/Made), with loops or without, and any capacity of at least one place.
-- Assumes what theory_pieces/specs/Calls `fired-alike` does.
use Rattle.std.specs.Prelude.{ℕ, suc, ◌≤◌, ◌≡◌, refl, ◌≢◌, ◌⊎◌, List, [], ◌∷◌, length}
use Rattle.std.proofs.Common.{sym, ◌∙◌, ap, inl, inr}
use Rattle.std.proofs.Math.Option.{Option}
use Rattle.theory_schedule.proofs.Schedules.{Possible}
use Rattle.value.specs.declared.Value.{Value}
use Rattle.network.specs.Net.{Token, Demand, Links, act}
use Rattle.network.proofs.Commute.{diamond}
use Rattle.theory_pieces.specs.Load.{Load, set_link, put}
use Rattle.theory_pieces.proofs.Load.{set_other}
use Rattle.theory_pieces.specs.Piece.{Piece, Means}
use Rattle.theory_pieces.proofs.Sets.{net, able-with-more}
use Rattle.theory_pieces.specs.Goes.{one_place}
use Rattle.theory_pieces.specs.Demand3.{tape-of}
use Rattle.theory_pieces.proofs.Demand3.{tried}
use Rattle.theory_pieces.proofs.Made.{Made, Fitting, E, X, O, tries}
use Rattle.theory_pieces.specs.Tape.{Step, sets_of, Sized}
use Rattle.theory_pieces.proofs.Tape.{events-of, Source-apart, Follows, simulated}
use Rattle.theory_pieces.proofs.Calls.{Credit-apart, one_each, started, standing, taken-results, Worked, Endless, all_end, fired-as-worked, At-rest}
use Rattle.theory_rest.proofs.SameState.{same-state}

module _ (graph : ℕ → Demand) (p k source credit : ℕ) (P : Piece) (M : Means) (eval : ℕ → List Value → Option (List Value)) (F : Made graph p k source credit P M eval) (cap : ℕ → ℕ)
    (roomy : (l : ℕ) → 1 ≤ cap l) (A : Source-apart graph p k source credit P.ins P.outs cap) (C : Credit-apart graph credit P.ins P.outs cap) where
  abbrev stands : List Step → Links
  stands w = standing graph p k source credit P M eval F cap roomy A C w

  -- The links are an idle load's, but for the source, which only the proof has.
  pub record Stands-idle (w : List Step) : Type 0 where
    pub idle-load : Load
    pub is-idle : P.Idle idle-load
    pub agrees : (l : ℕ) → l ≢ source → stands w l ≡ put idle-load (λ m. []) l

  abbrev Can : ℕ → Links → Type 0
  Can = E graph p k source credit P M eval F cap roomy

  abbrev To : ℕ → Links → Links
  To = X graph p k source credit P M eval F cap roomy

  abbrev Gives : ℕ → Links → List Token
  Gives = O graph p k source credit P M eval F cap roomy

  -- A list of events that is possible with one place a link is possible with more.
  with-more-places : (u : List ℕ) (q : Links)
      → Possible (E graph p k source credit P M eval F one_place one_each) (X graph p k source credit P M eval F one_place one_each) (O graph p k source credit P M eval F one_place one_each) u q
      → Possible Can To Gives u q
  with-more-places [] q r = tt
  with-more-places (a ∷ u) q r = (able-with-more cap roomy (net graph p k source credit P M a) q r.0, with-more-places u (act (net graph p k source credit P M a) q) r.1)

  fitted : (vss : List (List Value)) → Sized P.ins vss → Fitting graph p k source credit P M eval vss
  fitted [] s = tt
  fitted (v ∷ vss) s = (s.0, fitted vss s.1)

  module _ (w : List Step) (r : At-rest graph p k source credit P M eval F cap roomy A C w) where
    abbrev from : Links
    from = set_link source (tape-of (sets_of w) []) (started graph p k source credit P M eval F cap roomy A C)

    follows : Follows graph p k source credit P.ins P.outs cap (events-of p k w) from (set_link source [] (stands w)) (taken-results graph p k source credit P M eval F cap roomy A C w)
    follows = simulated graph p k source credit P.ins P.outs cap A w (started graph p k source credit P M eval F cap roomy A C) [] r.sized r.accepted

    as-worked : Worked graph p k source credit P M eval F cap roomy A C (sets_of w) → Stands-idle w
    as-worked R = record { idle-load = R.idle-load; is-idle = R.is-idle; agrees = alike }
      where
        one_state : set_link source [] (stands w) ≡ set_link source [] (put R.idle-load (λ l. []))
        one_state =
            sym follows.leads
            ∙ same-state Can To Gives (diamond (net graph p k source credit P M) cap F.free) (events-of p k w) R.reference.w from follows.possible
            (with-more-places R.reference.w from R.reference.runs)
            (fired-as-worked graph p k source credit P M eval F cap roomy A C w r.sized r.accepted r.quiet r.all-taken r.idle-still R)
            ∙ R.reference.leads

        alike : (l : ℕ) → l ≢ source → stands w l ≡ put R.idle-load (λ m. []) l
        alike l ne = sym (set_other source l [] (stands w) ne) ∙ ap (λ (q : Links). q l) one_state ∙ set_other source l [] (put R.idle-load (λ m. [])) ne

    pub idle-again : Stands-idle w
    idle-again =
        go (tried graph p k source credit P M F.bench one_place one_each (suc (length (events-of p k w))) (sets_of w) [] F.fresh (λ l. [])
        (tries graph p k source credit P M eval F one_place one_each (suc (length (events-of p k w))) (sets_of w) (fitted (sets_of w) r.sized)) F.fresh-idle (λ l d. refl) refl)
      where
        go : Worked graph p k source credit P M eval F cap roomy A C (sets_of w) ⊎ Endless graph p k source credit P M eval F cap roomy A C (sets_of w) (suc (length (events-of p k w))) → Stands-idle w
        go (inl R) = as-worked R
        go (inr L) = absurd (all_end graph p k source credit P M eval F cap roomy A C w r.sized r.accepted r.quiet r.all-taken L)
