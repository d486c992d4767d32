-- One set worked alone on a machine at rest, for any made graph (theory_pieces/specs/Made) and any capacity of at least one place: it can be pushed, some list of
-- firings leads to where nothing can fire and its whole result can be taken, and the take leaves the machine at rest again.
-- Assumes that operators commute and that nothing can fire on an idle load.
use Rattle.std.specs.Prelude.{ℕ, ◌≤◌, ◌≡◌, ◌≢◌}
use Rattle.std.proofs.Math.Path.{refl, sym, ap}
use Rattle.std.proofs.Common.{◌∙◌, subst, inl, inr}
use Rattle.std.proofs.Math.Logic.{Ne-symm}
use mathlib.Core.List.{List, [], ◌∷◌, ◌++◌}
use Rattle.std.proofs.Math.Option.{Option, some}
use Rattle.theory_schedule.proofs.Schedules.{Possible}
use Rattle.theory_schedule.specs.Schedules.{reached}
use Rattle.value.specs.declared.Value.{Value}
use Rattle.network.specs.Values.{true-value}
use Rattle.network.specs.Net.{val, Demand, fire, halt, Links, Able, act}
use Rattle.network.specs.Commute.{Free}
use Rattle.network.proofs.Commute.{enabled, next, output, stays}
use Rattle.network.specs.Ends.{push-demand, take-demand}
use Rattle.network.proofs.Ends.{machine, machine-take, machine-graph}
use Rattle.theory_pieces.specs.Load.{Load, set_link, put, On, Clear}
use Rattle.theory_pieces.proofs.Load.{set_same, set_other, set-ext, put-app, put-off, put-set}
use Rattle.theory_pieces.specs.Goes.{one_place}
use Rattle.theory_pieces.proofs.Goes.{Feasible, led-to}
use Rattle.theory_pieces.specs.Piece.{Piece, Means, Region, Fits, load, some_of}
use Rattle.theory_pieces.proofs.Piece.{load-in}
use Rattle.theory_pieces.specs.Sets.{tokens-of, onto}
use Rattle.theory_pieces.proofs.Sets.{draw-does, drawn-able, able-with-more, Bench, push-set, take-set}
use Rattle.theory_pieces.proofs.Made.{Made}

module _ (graph : ℕ → Demand) (p k source credit : ℕ) (P : Piece) (M : Means) (eval : ℕ → List Value → Option (List Value)) (F : Made graph p k source credit P M eval) (cap : ℕ → ℕ)
    (roomy : (l : ℕ) → 1 ≤ cap l) (still : (σ : Load) → P.Idle σ → (i : ℕ) → Able cap (graph i) (put σ (λ l. [])) → ⊥) where
  abbrev B : Bench graph p k source credit P M
  B = F.bench

  abbrev bare : Links
  bare l = []

  -- the machine between two sets
  abbrev pub rest : Load → Links
  rest σ = put σ (λ l. [])

  abbrev pub pushing-set : List Value → Demand
  pushing-set vs = fire ((credit, val true-value) ∷ onto P.ins vs) []

  abbrev pub taking-set : Demand
  taking-set = take-demand credit P.outs

  abbrev pub Fires : List ℕ → Links → Type 0
  Fires = Possible (enabled graph cap) (next graph cap) (output graph cap)

  abbrev pub fired : List ℕ → Links → Links
  fired = reached (enabled graph cap) (next graph cap) (output graph cap)

  -- A set worked from an idle load on, by this push and this take.
  pub record Worked-set (push take : Demand) (σ : Load) : Type 0 where
    pub can-push : Able cap push (rest σ)
    pub work : List ℕ
    pub possible : Fires work (act push (rest σ))
    pub quiet : (i : ℕ) → Able cap (graph i) (fired work (act push (rest σ))) → ⊥
    pub can-take : Able cap take (fired work (act push (rest σ)))
    pub idle-load : Load
    pub is-idle : P.Idle idle-load
    pub leads : act take (fired work (act push (rest σ))) ≡ rest idle-load

  -- with more places the same firings are possible
  more-places : (w : List ℕ) (q : Links) → Feasible graph w q → Fires w q
  more-places [] q r = tt
  more-places (a ∷ w) q r = (able-with-more cap roomy (graph a) q r.0, more-places w (act (graph a) q) r.1)

  led-fired : (w : List ℕ) (q : Links) → led-to graph w q ≡ fired w q
  led-fired [] q = refl
  led-fired (a ∷ w) q = led-fired w (act (graph a) q)

  -- an operator that can fire is neither push nor take
  able-not : (a b : ℕ) (q : Links) → graph b ≡ halt → Able cap (graph a) q → a ≢ b
  able-not a b q e o z = subst (λ d. Able cap d q) e (subst (λ (c : ℕ). Able cap (graph c) q) z o)

  off : (σ : Load) → P.Idle σ → (l : ℕ) → (Region P l → ⊥) → On l σ → ⊥
  off σ i l n o = n (inl (B.neat.idle-own σ i l o))

  -- the base under the piece while a set is untaken
  base : Links
  base = set_link credit (val true-value ∷ []) bare

  base-clear : Clear (Region P) base
  unfolding base
  base-clear l d = set_other credit l (val true-value ∷ []) bare (λ e. B.credit-off (subst (Region P) e d))

  module _ (vs : List Value) (σ : Load) (i : P.Idle σ) (fits : Fits P.ins vs) where
    no_source : set_link source [] (rest σ) ≡ rest σ
    no_source = set-ext source [] (rest σ) (rest σ) (put-off source σ bare (off σ i source B.source-off)) (λ j n. refl)

    drawn : Able one_place (push-demand source credit P.ins) (set_link source (tokens-of vs ++ []) (rest σ))
        × (act (push-demand source credit P.ins) (set_link source (tokens-of vs ++ []) (rest σ))
        ≡ put ((credit, some (val true-value)) ∷ load P.ins (some_of vs)) (set_link source [] (rest σ)))
    drawn =
        push-set graph p k source credit P M B vs [] (rest σ) fits
        (λ l j. put-off l σ bare (λ o. B.neat.off-ins l (B.neat.idle-own σ i l o) j)) (put-off credit σ bare (off σ i credit B.credit-off))

    pushable : Able cap (pushing-set vs) (rest σ)
    pushable =
        able-with-more cap roomy (pushing-set vs) (rest σ)
        (subst (Able one_place (pushing-set vs)) no_source
        (drawn-able one_place source P.ins vs [] (rest σ) (λ es. fire ((credit, val true-value) ∷ es) []) fits drawn.0))

    -- where the push leads
    push-leads : act (pushing-set vs) (rest σ) ≡ put (load P.ins (some_of vs) ++ σ) base
    unfolding base
    push-leads =
        ap (act (pushing-set vs)) (sym no_source)
        ∙ sym (draw-does one_place source P.ins vs [] (rest σ) (λ es. fire ((credit, val true-value) ∷ es) []) fits).1
        ∙ drawn.1
        ∙ ap (λ (q : Links). put ((credit, some (val true-value)) ∷ L) q) no_source
        ∙ put-set credit (val true-value ∷ []) L (rest σ) (λ o. B.credit-off (inr (inl (load-in P.ins (some_of vs) credit o))))
        ∙ ap (put L) (put-set credit (val true-value ∷ []) σ bare (off σ i credit B.credit-off))
        ∙ sym (put-app L σ (set_link credit (val true-value ∷ []) bare))
      where
        L : Load
        L = load P.ins (some_of vs)

  module _ (rs : List Value) (σ : Load) (i : P.Idle σ) (fits : Fits P.outs rs) where
    -- the whole result on its ports
    abbrev whole : Links
    whole = put (load P.outs (some_of rs) ++ σ) base

    taken : Able one_place taking-set (put (load P.outs (some_of rs)) (put σ base))
        × (act taking-set (put (load P.outs (some_of rs)) (put σ base)) ≡ set_link credit [] (put σ base))
    unfolding base
    taken =
        let t = take-set graph p k source credit P M B rs (put σ base) fits
        (λ l j. put-off l σ base (λ o. B.neat.off-outs l (B.neat.idle-own σ i l o) j) ∙ base-clear l (inr (inr j)))
        (put-off credit σ base (off σ i credit B.credit-off) ∙ set_same credit (val true-value ∷ []) bare) in
        (t.0, t.1)

    takable : Able cap taking-set whole
    takable =
        able-with-more cap roomy taking-set whole
        (subst (Able one_place taking-set) (sym (put-app (load P.outs (some_of rs)) σ base)) taken.0)

    take-leads : act taking-set whole ≡ rest σ
    unfolding base
    take-leads =
        ap (act taking-set) (put-app (load P.outs (some_of rs)) σ base) ∙ taken.1
        ∙ put-set credit [] σ base (off σ i credit B.credit-off)
        ∙ ap (put σ) (set-ext credit [] base bare refl (λ j n. set_other credit j (val true-value ∷ []) bare n))

    -- Nothing can fire there: it could after the take too.
    whole-quiet : (a : ℕ) → Able cap (graph a) whole → ⊥
    whole-quiet a o =
        let np = able-not a p whole B.push-apart o in
        let nk = able-not a k whole B.take-apart o in
        let free : Free taking-set (graph a) =
        subst (λ d. Free d (graph a)) (machine-take graph p k source credit P.ins P.outs B.push-not-take)
        (subst (Free (net-at k)) (machine-graph graph p k source credit P.ins P.outs a np nk) (F.free k a (Ne-symm nk))) in
        still σ i a (subst (Able cap (graph a)) take-leads (stays cap taking-set (graph a) whole free takable o))
      where
        net-at : ℕ → Demand
        net-at = machine graph p k source credit P.ins P.outs

  -- A set whose evaluation ends.
  pub works : (vs rs : List Value) (n : ℕ) (σ : Load) → P.Idle σ → Fits P.ins vs → eval n vs ≡ some rs → Worked-set (pushing-set vs) taking-set σ
  works vs rs n σ i fits e =
      let m = F.ended n vs rs fits e in
      let s = B.serves (some_of vs) m.1.0 (some (some_of rs)) m.1.1 σ i in
      let t = s.2 base base-clear in
      let from = push-leads vs σ i fits in
      let there : fired t.w (act (pushing-set vs) (rest σ)) ≡ whole rs s.0 s.1 m.0 = ap (fired t.w) from ∙ sym (led-fired t.w (put (load P.ins (some_of vs) ++ σ) base)) ∙ t.ends in
      record {
        can-push = pushable vs σ i fits;
        work = t.w;
        possible = subst (Fires t.w) (sym from) (more-places t.w (put (load P.ins (some_of vs) ++ σ) base) t.runs);
        quiet = λ a o. whole-quiet rs s.0 s.1 m.0 a (subst (Able cap (graph a)) there o);
        can-take = subst (Able cap taking-set) (sym there) (takable rs s.0 s.1 m.0);
        idle-load = s.0;
        is-idle = s.1;
        leads = ap (act taking-set) there ∙ take-leads rs s.0 s.1 m.0;
      }
