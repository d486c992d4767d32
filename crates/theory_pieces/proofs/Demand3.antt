-- Laws of specs/Demand3.antt, and what only they need.
use Rattle.std.specs.Prelude.{ℕ, suc, ◌<◌, ◌≤◌, ◌+◌, ◌≡◌, refl, ◌≢◌, ◌⊎◌, length}
use Rattle.std.proofs.Math.Path.{sym, ap}
use Rattle.std.proofs.Common.{◌∙◌, subst, inl, inr, length-append, arith}
use Rattle.std.proofs.Math.Logic.{if_pos, if_neg, Ne-symm}
use mathlib.Core.List.{List, [], ◌∷◌, ◌++◌}
use Rattle.std.proofs.Math.Option.{none, some}
use Rattle.std.proofs.Math.Decide.{ℕ_discrete}
use Rattle.theory_schedule.proofs.Schedules.{Possible, outputs, Diamond, possible-append, reached-append, outputs-append}
use Rattle.theory_schedule.specs.Schedules.{reached}
use Rattle.theory_schedule.specs.Counts.{count}
use Rattle.theory_schedule.proofs.Counts.{count-append}
use Rattle.theory_schedule.proofs.Progress.{progress, endless, something-left}
use Rattle.value.specs.declared.Value.{Value}
use Rattle.network.specs.Values.{true-value}
use Rattle.network.specs.Net.{Token, val, Demand, Links, tail, Able, act, label}
use Rattle.network.proofs.Ends.{machine-push, machine-take, machine-graph}
use Rattle.network.specs.Commute.{Free}
use Rattle.network.proofs.Commute.{enabled, next, output, diamond}
use Rattle.network.specs.Uses.{In}
use Rattle.theory_pieces.specs.Load.{Load, set_link, put, On, Clear}
use Rattle.theory_pieces.proofs.Load.{set_same, set_other, set-ext, put-app, put-off, put-set}
use Rattle.theory_pieces.specs.Goes.{one_place}
use Rattle.theory_pieces.proofs.Goes.{Feasible, led-to}
use Rattle.theory_pieces.specs.Piece.{load, Piece, Region, Means, some_of, Fits}
use Rattle.theory_pieces.proofs.Piece.{load-in}
use Rattle.theory_pieces.specs.Sets.{tokens-of}
use Rattle.theory_pieces.proofs.Sets.{able-with-more, push-it, take-it, net, Bench, Resting, graph-ne, push-set, take-set}
use Rattle.theory_pieces.specs.Demand3.{tape-of}

module _ (graph : ℕ → Demand) (p k source credit : ℕ) (P : Piece) (M : Means) (B : Bench graph p k source credit P M) (cap : ℕ → ℕ) (roomy : (l : ℕ) → 1 ≤ cap l) where
  abbrev N : ℕ → Demand
  N = net graph p k source credit P M

  abbrev pub Enabled : ℕ → Links → Type 0
  Enabled = enabled N cap

  abbrev pub Next : ℕ → Links → Links
  Next = next N cap

  abbrev pub Output : ℕ → Links → List Token
  Output = output N cap

  abbrev pub Between : Load → List Token → Links → Links
  Between σ tape b = Resting graph p k source credit P M σ tape b

  -- a schedule of the piece in the machine
  record Lift (w : List ℕ) (q : Links) : Type 0 where
    runs : Possible Enabled Next Output w q
    ends' : reached Enabled Next Output w q ≡ led-to graph w q
    no-push : count p w ≡ 0
    no-take : count k w ≡ 0
    quiet : outputs Enabled Next Output k w q ≡ []

  lift : (w : List ℕ) (q : Links) → Feasible graph w q → Lift w q
  lift [] q r = record { runs = tt; ends' = refl; no-push = refl; no-take = refl; quiet = refl }
  lift (a ∷ w) q r =
      let ne = graph-ne graph p k source credit P M B a q r.0 in
      let e : N a ≡ graph a = machine-graph graph p k source credit P.ins P.outs a ne.0 ne.1 in
      let h = lift w (act (graph a) q) r.1 in
      let h' : Lift w (act (N a) q) = subst (λ d. Lift w (act d q)) (sym e) h in
      record {
        runs = (subst (λ d. Able cap d q) (sym e) (able-with-more cap roomy (graph a) q r.0), h'.runs);
        ends' = h'.ends' ∙ ap (λ d. led-to graph w (act d q)) e;
        no-push = if_neg (ℕ_discrete p a) (Ne-symm ne.0) _ _ ∙ h.no-push;
        no-take = if_neg (ℕ_discrete k a) (Ne-symm ne.1) _ _ ∙ h.no-take;
        quiet = if_neg (ℕ_discrete k a) (Ne-symm ne.1) _ _ ∙ h'.quiet;
      }

  -- A reference: a list of events that gives these results and no other, one push and one take for each.
  pub record Reference (q : Links) (rss : List (List Token)) (q' : Links) : Type 0 where
    pub w : List ℕ
    pub runs : Possible Enabled Next Output w q
    pub leads : reached Enabled Next Output w q ≡ q'
    pub gives : outputs Enabled Next Output k w q ≡ rss
    pub pushes : count p w ≡ length rss
    pub takes : count k w ≡ length rss

  -- a list of events of at least so many, with few pushes and a take less
  pub record Long-reference (q : Links) (n c : ℕ) : Type 0 where
    pub w : List ℕ
    pub runs : Possible Enabled Next Output w q
    pub many : c ≤ length w
    pub few : count p w ≤ n
    pub untaken : count k w < n

  unfoldable pub ref-nil : (q : Links) → Reference q [] q
  ref-nil q = record { w = []; runs = tt; leads = refl; gives = refl; pushes = refl; takes = refl }

  unfoldable pub ref-then : (q q₁ q₂ : Links) (r s : List (List Token)) → Reference q r q₁ → Reference q₁ s q₂ → Reference q (r ++ s) q₂
  ref-then q q₁ q₂ r s f g =
      record {
        w = f.w ++ g.w;
        runs = possible-append Enabled Next Output f.w g.w q f.runs (subst (Possible Enabled Next Output g.w) (sym f.leads) g.runs);
        leads = reached-append Enabled Next Output f.w g.w q ∙ ap (reached Enabled Next Output g.w) f.leads ∙ g.leads;
        gives = outputs-append Enabled Next Output k f.w g.w q ∙ ap (λ z. outputs Enabled Next Output k f.w q ++ outputs Enabled Next Output k g.w z) f.leads
            ∙ ap (λ z. z ++ outputs Enabled Next Output k g.w q₁) f.gives ∙ ap (λ z. r ++ z) g.gives;
        pushes = count-append p f.w g.w ∙ simp length-append (omega (arith, f.pushes, g.pushes));
        takes = count-append k f.w g.w ∙ simp length-append (omega (arith, f.takes, g.takes));
      }

  pub ref-long : (q q₁ : Links) (r : List (List Token)) (n c : ℕ) → Reference q r q₁ → Long-reference q₁ n c → Long-reference q (length r + n) c
  ref-long q q₁ r n c f g =
      record {
        w = f.w ++ g.w;
        runs = possible-append Enabled Next Output f.w g.w q f.runs (subst (Possible Enabled Next Output g.w) (sym f.leads) g.runs);
        many = simp length-append (omega (arith, g.many));
        few = omega (arith, count-append p f.w g.w, f.pushes, g.few);
        untaken = omega (arith, count-append k f.w g.w, f.takes, g.untaken);
      }

  -- push: an event of the machine, to the load of the piece's inputs on a base that holds the credit
  pub base : List Token → Links → Links
  base tape b = set_link credit (val true-value ∷ []) (set_link source tape b)

  own-src : (σ : Load) → P.Idle σ → (l : ℕ) → (Region P l → ⊥) → On l σ → ⊥
  own-src σ i l n o = n (inl (B.neat.idle-own σ i l o))

  pub base-clear : (tape : List Token) (b : Links) → Clear (Region P) b → Clear (Region P) (base tape b)
  unfolding base
  base-clear tape b c l d =
      set_other credit l (val true-value ∷ []) (set_link source tape b) (λ e. B.credit-off (subst (Region P) e d))
      ∙ set_other source l tape b (λ e. B.source-off (subst (Region P) e d)) ∙ c l d

  module _ (vs : List Value) (tape : List Token) (σ : Load) (b : Links) (fv : Fits P.ins vs) (i : P.Idle σ) (cl : Clear (Region P) b) (ce : b credit ≡ []) where
    off-σ : (l : ℕ) → In l P.ins → put σ b l ≡ []
    off-σ l j = put-off l σ b (λ o. B.neat.off-ins l (B.neat.idle-own σ i l o) j) ∙ cl l (inr (inl j))

    pushed : Able one_place (push-it graph p k source credit P M) (Between σ (tokens-of vs ++ tape) b)
        × (act (push-it graph p k source credit P M) (Between σ (tokens-of vs ++ tape) b) ≡ put ((credit, some (val true-value)) ∷ load P.ins (some_of vs)) (set_link source tape (put σ b)))
    pushed = push-set graph p k source credit P M B vs tape (put σ b) fv off-σ (put-off credit σ b (own-src σ i credit B.credit-off) ∙ ce)

    push-on : Enabled p (Between σ (tokens-of vs ++ tape) b)
    push-on = subst (λ d. Able cap d (Between σ (tokens-of vs ++ tape) b)) (sym (machine-push graph p k source credit P.ins P.outs)) (able-with-more cap roomy (push-it graph p k source credit P M) (Between σ (tokens-of vs ++ tape) b) pushed.0)

    push-to : Next p (Between σ (tokens-of vs ++ tape) b) ≡ put (load P.ins (some_of vs) ++ σ) (base tape b)
    unfolding base
    push-to =
        ap (λ d. act d (Between σ (tokens-of vs ++ tape) b)) (machine-push graph p k source credit P.ins P.outs) ∙ pushed.1
        ∙ ap (λ z. put ((credit, some (val true-value)) ∷ L) z) (put-set source tape σ b (own-src σ i source B.source-off))
        ∙ put-set credit (val true-value ∷ []) L (put σ (set_link source tape b)) (λ o. B.credit-off (inr (inl (load-in P.ins (some_of vs) credit o))))
        ∙ ap (put L) (put-set credit (val true-value ∷ []) σ (set_link source tape b) (own-src σ i credit B.credit-off))
        ∙ sym (put-app L σ (set_link credit (val true-value ∷ []) (set_link source tape b)))
      where
        L : Load
        L = load P.ins (some_of vs)

  -- take
  module _ (rs : List Value) (tape : List Token) (σ : Load) (b : Links) (fr : Fits P.outs rs) (i : P.Idle σ) (cl : Clear (Region P) b) (ce : b credit ≡ []) where
    abbrev Q : Links
    Q = put (load P.outs (some_of rs) ++ σ) (base tape b)

    split : Q ≡ put (load P.outs (some_of rs)) (put σ (base tape b))
    split = put-app (load P.outs (some_of rs)) σ (base tape b)

    taken : Able one_place (take-it graph p k source credit P M) (put (load P.outs (some_of rs)) (put σ (base tape b)))
        × (act (take-it graph p k source credit P M) (put (load P.outs (some_of rs)) (put σ (base tape b))) ≡ set_link credit [] (put σ (base tape b)))
        × (label (take-it graph p k source credit P M) (put (load P.outs (some_of rs)) (put σ (base tape b))) ≡ tokens-of rs)
    unfolding base
    taken =
        take-set graph p k source credit P M B rs (put σ (base tape b)) fr
        (λ l j. put-off l σ (base tape b) (λ o. B.neat.off-outs l (B.neat.idle-own σ i l o) j) ∙ base-clear tape b cl l (inr (inr j)))
        (put-off credit σ (base tape b) (own-src σ i credit B.credit-off) ∙ set_same credit (val true-value ∷ []) (set_link source tape b))

    take_on : Enabled k Q
    take_on =
        subst (λ d. Able cap d Q) (sym (machine-take graph p k source credit P.ins P.outs B.push-not-take)) (subst (λ q. Able cap (take-it graph p k source credit P M) q) (sym split) (able-with-more cap roomy (take-it graph p k source credit P M) (put (load P.outs (some_of rs)) (put σ (base tape b))) taken.0))

    take_out : Output k Q ≡ tokens-of rs
    take_out = ap (λ d. label d Q) (machine-take graph p k source credit P.ins P.outs B.push-not-take) ∙ ap (label (take-it graph p k source credit P M)) split ∙ taken.2

    take-to : Next k Q ≡ Between σ tape b
    unfolding base
    take-to =
        ap (λ d. act d Q) (machine-take graph p k source credit P.ins P.outs B.push-not-take) ∙ ap (act (take-it graph p k source credit P M)) split ∙ taken.1
        ∙ put-set credit [] σ (base tape b) (own-src σ i credit B.credit-off)
        ∙ ap (put σ) (set-ext credit [] (base tape b) (set_link source tape b) (set_other source credit tape b (Ne-symm B.source-not-credit) ∙ ce)
        (λ j ne. set_other credit j (val true-value ∷ []) (set_link source tape b) ne))
        ∙ sym (put-set source tape σ b (own-src σ i source B.source-off))

  -- one set, from its push to its take, by a schedule of the piece
  pub worked : (vs rs : List Value) (tape : List Token) (σ σ' : Load) (b : Links) → Fits P.ins vs → Fits P.outs rs → P.Idle σ → P.Idle σ' → Clear (Region P) b → b credit ≡ [] →
      (w : List ℕ) → Feasible graph w (put (load P.ins (some_of vs) ++ σ) (base tape b)) →
      led-to graph w (put (load P.ins (some_of vs) ++ σ) (base tape b)) ≡ put (load P.outs (some_of rs) ++ σ') (base tape b) →
      (R : Reference (Between σ (tokens-of vs ++ tape) b) (tokens-of rs ∷ []) (Between σ' tape b)) × (R.w ≡ p ∷ (w ++ (k ∷ [])))
  worked vs rs tape σ σ' b fv fr i j cl ce w r e =
      let l : Lift w q₁ = lift w q₁ r in
      let pt : Next p q₀ ≡ q₁ = push-to vs tape σ b fv i cl ce in
      let en₁ : reached Enabled Next Output w (Next p q₀) ≡ Q rs tape σ' b fr j cl ce = ap (reached Enabled Next Output w) pt ∙ l.ends' ∙ e in
      let kp : k ≢ p = Ne-symm B.push-not-take in
      let tail : Possible Enabled Next Output (w ++ (k ∷ [])) (Next p q₀)
      = possible-append Enabled Next Output w (k ∷ []) (Next p q₀) (subst (Possible Enabled Next Output w) (sym pt) l.runs) (subst (λ q. Enabled k q) (sym en₁) (take_on rs tape σ' b fr j cl ce), tt) in (
        record {
          w = p ∷ (w ++ (k ∷ []));
          runs = (push-on vs tape σ b fv i cl ce, tail);
          leads = reached-append Enabled Next Output w (k ∷ []) (Next p q₀) ∙ ap (Next k) en₁ ∙ take-to rs tape σ' b fr j cl ce;
          gives = if_neg (ℕ_discrete k p) kp _ _ ∙ outputs-append Enabled Next Output k w (k ∷ []) (Next p q₀)
              ∙ ap (λ z. outputs Enabled Next Output k w z ++ outputs Enabled Next Output k (k ∷ []) (reached Enabled Next Output w (Next p q₀))) pt
              ∙ ap (λ z. z ++ outputs Enabled Next Output k (k ∷ []) (reached Enabled Next Output w (Next p q₀))) l.quiet
              ∙ if_pos (ℕ_discrete k k) refl _ _ ∙ ap (λ z. Output k z ∷ []) en₁ ∙ ap (λ z. z ∷ []) (take_out rs tape σ' b fr j cl ce);
          pushes = if_pos (ℕ_discrete p p) refl _ _ ∙ ap suc (count-append p w (k ∷ []) ∙ ap (λ z. z + count p (k ∷ [])) l.no-push ∙ ap (λ z. 0 + z) (if_neg (ℕ_discrete p k) B.push-not-take _ _));
          takes = if_neg (ℕ_discrete k p) kp _ _ ∙ count-append k w (k ∷ []) ∙ ap (λ z. z + count k (k ∷ [])) l.no-take ∙ ap (λ z. 0 + z) (if_pos (ℕ_discrete k k) refl _ _);
        },
        refl,
      )
    where
      q₀ : Links
      q₀ = Between σ (tokens-of vs ++ tape) b

      q₁ : Links
      q₁ = put (load P.ins (some_of vs) ++ σ) (base tape b)

  -- and by the schedule that the piece has
  pub one : (vs rs : List Value) (c : ℕ) (tape : List Token) (σ : Load) (b : Links) → Fits P.ins vs → Fits P.outs rs → M (some_of vs) c (some (some_of rs)) →
      P.Idle σ → Clear (Region P) b → b credit ≡ [] → (σ' : Load) × P.Idle σ' × Reference (Between σ (tokens-of vs ++ tape) b) (tokens-of rs ∷ []) (Between σ' tape b)
  one vs rs c tape σ b fv fr m i cl ce =
      let h = B.serves (some_of vs) c (some (some_of rs)) m σ i in
      let s = h.2 (base tape b) (base-clear tape b cl) in
      (h.0, h.1, (worked vs rs tape σ h.0 b fv fr i h.1 cl ce s.w s.runs s.ends).0)

  -- a set whose rounds do not suffice
  pub one-long : (vs : List Value) (c : ℕ) (tape : List Token) (σ : Load) (b : Links) → Fits P.ins vs → M (some_of vs) c none →
      P.Idle σ → Clear (Region P) b → b credit ≡ [] → Long-reference (Between σ (tokens-of vs ++ tape) b) 1 c
  one-long vs c tape σ b fv m i cl ce =
      let s = B.serves (some_of vs) c none m σ i (base tape b) (base-clear tape b cl) in
      done s.w s.runs s.many
    where
      done : (w : List ℕ) → Feasible graph w (put (load P.ins (some_of vs) ++ σ) (base tape b)) → c ≤ length w → Long-reference (Between σ (tokens-of vs ++ tape) b) 1 c
      done w r le =
          let l : Lift w (put (load P.ins (some_of vs) ++ σ) (base tape b)) = lift w (put (load P.ins (some_of vs) ++ σ) (base tape b)) r in
          record {
            w = p ∷ w;
            runs = (push-on vs tape σ b fv i cl ce, subst (Possible Enabled Next Output w) (sym (push-to vs tape σ b fv i cl ce)) l.runs);
            many = omega arith;
            few = let z : count p (p ∷ w) ≡ suc (count p w) = if_pos (ℕ_discrete p p) refl _ _ in omega (arith, l.no-push);
            untaken = let z : count k (p ∷ w) ≡ count k w = if_neg (ℕ_discrete k p) (Ne-symm B.push-not-take) _ _ in omega (arith, l.no-take);
          }

  -- Each set has this result, by M.
  abbrev pub Evaluated : List (List Value) → List (List Value) → Type 0
  Evaluated [] [] = Unit {0}
  Evaluated [] (r ∷ rss) = ⊥
  Evaluated (v ∷ vss) [] = ⊥
  Evaluated (v ∷ vss) (r ∷ rss) = Fits P.ins v × Fits P.outs r × ((c : ℕ) × M (some_of v) c (some (some_of r))) × Evaluated vss rss

  -- the evaluator, lent `c` rounds for each set: it ends or it does not
  abbrev pub Tried : ℕ → List (List Value) → Type 0
  Tried c [] = Unit {0}
  Tried c (v ∷ vss) =
      Fits P.ins v × (((r : List Value) × (d : ℕ) × Fits P.outs r × M (some_of v) d (some (some_of r))) ⊎ M (some_of v) c none) × Tried c vss

  -- All of these sets worked one after another, from one idle load to another.
  pub record All-worked (vss : List (List Value)) (tail : List Token) (σ : Load) (b : Links) : Type 0 where
    pub results-are : List (List Token)
    pub idle-load : Load
    pub is-idle : P.Idle idle-load
    pub as_many : length results-are ≡ length vss
    pub reference : Reference (Between σ (tape-of vss tail) b) results-are (Between idle-load tail b)

  pub tried : (c : ℕ) (vss : List (List Value)) (tail : List Token) (σ : Load) (b : Links) → Tried c vss → P.Idle σ → Clear (Region P) b → b credit ≡ [] →
      All-worked vss tail σ b ⊎ Long-reference (Between σ (tape-of vss tail) b) (length vss) c
  tried c [] tail σ b t i cl ce = inl (record { results-are = []; idle-load = σ; is-idle = i; as_many = refl; reference = ref-nil (Between σ tail b) })
  tried c (v ∷ vss) tail σ b t i cl ce = go (λ σ' j. tried c vss tail σ' b t.2 j cl ce) t.1
    where
      next' : (r : List Value) (σ' : Load) → Reference (Between σ (tokens-of v ++ tape-of vss tail) b) (tokens-of r ∷ []) (Between σ' (tape-of vss tail) b) →
          All-worked vss tail σ' b ⊎ Long-reference (Between σ' (tape-of vss tail) b) (length vss) c →
          All-worked (v ∷ vss) tail σ b ⊎ Long-reference (Between σ (tokens-of v ++ tape-of vss tail) b) (suc (length vss)) c
      next' r σ' f (inl g) =
          inl (record {
            results-are = tokens-of r ∷ g.results-are;
            idle-load = g.idle-load;
            is-idle = g.is-idle;
            as_many = ap suc g.as_many;
            reference = ref-then (Between σ (tokens-of v ++ tape-of vss tail) b) (Between σ' (tape-of vss tail) b) (Between g.idle-load tail b) (tokens-of r ∷ []) g.results-are f g.reference;
          })
      next' r σ' f (inr g) =
          let h = ref-long (Between σ (tokens-of v ++ tape-of vss tail) b) (Between σ' (tape-of vss tail) b) (tokens-of r ∷ []) (length vss) c f g in
          inr (record { w = h.w; runs = h.runs; many = h.many; few = omega (arith, h.few); untaken = omega (arith, h.untaken) })

      go : ((σ' : Load) → P.Idle σ' → All-worked vss tail σ' b ⊎ Long-reference (Between σ' (tape-of vss tail) b) (length vss) c) →
          ((r : List Value) × (d : ℕ) × Fits P.outs r × M (some_of v) d (some (some_of r))) ⊎ M (some_of v) c none →
          All-worked (v ∷ vss) tail σ b ⊎ Long-reference (Between σ (tokens-of v ++ tape-of vss tail) b) (suc (length vss)) c
      go ih (inl (r, d, fr, m)) =
          let f = one v r d (tape-of vss tail) σ b t.0 fr m i cl ce in
          next' r f.0 f.2 (ih f.0 f.1)
      go ih (inr m) =
          let h = one-long v c (tape-of vss tail) σ b t.0 m i cl ce in
          inr (record { w = h.w; runs = h.runs; many = h.many; few = omega (arith, h.few); untaken = omega (arith, h.untaken) })

  module _ (free : (a b : ℕ) → a ≢ b → Free (N a) (N b)) where
    abbrev Commutes : Diamond Enabled Next Output
    Commutes = diamond N cap free

    -- Demand 3, second half. If the sets `vss` are pushed and not all of them taken, and nothing can fire, then a whole result is ready: a take is
    -- possible. Nothing is assumed of whether evaluations end; the evaluator is only asked with more rounds than there were events.
    pub ready : (vss : List (List Value)) (tail : List Token) (σ : Load) (b : Links) (u : List ℕ) → Tried (suc (length u)) vss → P.Idle σ → Clear (Region P) b → b credit ≡ [] →
        Possible Enabled Next Output u (Between σ (tape-of vss tail) b) → length vss ≤ count p u → count k u < length vss →
        ((a : ℕ) → a ≢ p → a ≢ k → Enabled a (reached Enabled Next Output u (Between σ (tape-of vss tail) b)) → ⊥) → Enabled k (reached Enabled Next Output u (Between σ (tape-of vss tail) b))
    ready vss tail σ b u t i cl ce ru le lt stuck = go (tried (suc (length u)) vss tail σ b t i cl ce)
      where
        q : Links
        q = Between σ (tape-of vss tail) b

        pick : (e : ℕ) × (e ≢ p) × Enabled e (reached Enabled Next Output u q) → Enabled k (reached Enabled Next Output u q)
        pick (e, ne, h) = by (ℕ_discrete e k)
          where
            by : Dec (e ≡ k) → Enabled k (reached Enabled Next Output u q)
            by (yes z) = subst (λ a. Enabled a (reached Enabled Next Output u q)) z h
            by (no z) = absurd (stuck e ne z h)

        go : All-worked vss tail σ b ⊎ Long-reference q (length vss) (suc (length u)) → Enabled k (reached Enabled Next Output u q)
        go (inl g) = by (progress Enabled Next Output Commutes p k u g.reference.w q ru g.reference.runs (omega (arith, g.reference.pushes, g.as_many)))
          where
            by : (count k g.reference.w ≤ count k u) ⊎ ((e : ℕ) × (e ≢ p) × Enabled e (reached Enabled Next Output u q)) → Enabled k (reached Enabled Next Output u q)
            by (inl z) = absurd (omega (arith, g.reference.takes, g.as_many))
            by (inr z) = pick z
        go (inr r) = pick (endless Enabled Next Output Commutes p u r.w q ru r.runs (omega (arith, r.few)) (omega (arith, r.many)))

    -- If the tape holds a set that was not pushed yet, and nothing can fire, then a push or a take is possible.
    pub push-or-take : (vss : List (List Value)) (tail : List Token) (σ : Load) (b : Links) (u : List ℕ) → Tried (suc (length u)) vss → P.Idle σ → Clear (Region P) b → b credit ≡ [] →
        Possible Enabled Next Output u (Between σ (tape-of vss tail) b) → count p u < length vss →
        ((a : ℕ) → a ≢ p → a ≢ k → Enabled a (reached Enabled Next Output u (Between σ (tape-of vss tail) b)) → ⊥) →
        Enabled p (reached Enabled Next Output u (Between σ (tape-of vss tail) b)) ⊎ Enabled k (reached Enabled Next Output u (Between σ (tape-of vss tail) b))
    push-or-take vss tail σ b u t i cl ce ru lt stuck = go (tried (suc (length u)) vss tail σ b t i cl ce)
      where
        q : Links
        q = Between σ (tape-of vss tail) b

        pick : (e : ℕ) × Enabled e (reached Enabled Next Output u q) → Enabled p (reached Enabled Next Output u q) ⊎ Enabled k (reached Enabled Next Output u q)
        pick (e, h) = by (ℕ_discrete e p) (ℕ_discrete e k)
          where
            by : Dec (e ≡ p) → Dec (e ≡ k) → Enabled p (reached Enabled Next Output u q) ⊎ Enabled k (reached Enabled Next Output u q)
            by (yes z) d = inl (subst (λ a. Enabled a (reached Enabled Next Output u q)) z h)
            by (no n) (yes z) = inr (subst (λ a. Enabled a (reached Enabled Next Output u q)) z h)
            by (no n) (no m) = absurd (stuck e n m h)

        go : All-worked vss tail σ b ⊎ Long-reference q (length vss) (suc (length u)) →
            Enabled p (reached Enabled Next Output u q) ⊎ Enabled k (reached Enabled Next Output u q)
        go (inl g) = pick (something-left Enabled Next Output Commutes p u g.reference.w q ru g.reference.runs (inl (omega (arith, g.reference.pushes, g.as_many))))
        go (inr r) = pick (something-left Enabled Next Output Commutes p u r.w q ru r.runs (inr (omega (arith, r.many))))
