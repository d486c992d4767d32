-- Laws of specs/Sets.antt, and what only they need.
use Rattle.std.specs.Prelude.{ℕ, ◌≤◌, ◌≡◌, refl, ◌≢◌, ◌⊎◌, List, [], ◌∷◌, ◌++◌}
use Rattle.std.proofs.Common.{sym, ◌∙◌, ap, subst, inl, inr, arith}
use Rattle.std.proofs.Math.Option.{some}
use Rattle.value.specs.declared.Value.{Value}
use Rattle.network.specs.Values.{true-value}
use Rattle.network.specs.Net.{Token, val, Demand, ask, fire, halt, Links, head, tail, pop, append, Room, Able, act, label}
use Rattle.network.proofs.Net.{pop-same, pop-other}
use Rattle.network.specs.Ends.{draw, collect, push-demand, take-demand}
use Rattle.network.proofs.Ends.{machine}
use Rattle.network.specs.Uses.{In}
use Rattle.theory_pieces.specs.Load.{Load, set_link, put, On}
use Rattle.theory_pieces.proofs.Load.{set_same, set_other, set-ext, put-off}
use Rattle.theory_pieces.specs.Goes.{any-list, one_place}
use Rattle.theory_pieces.specs.Gate.{Distinct, emitted}
use Rattle.theory_pieces.proofs.Gate.{emits, pop-set}
use Rattle.theory_pieces.specs.Piece.{Values, load, Piece, Region, Neat, Means, some_of, Fits}
use Rattle.theory_pieces.proofs.Piece.{Serves, load-in}
use Rattle.theory_pieces.specs.Sets.{tokens-of, onto, Different}

emitted-onto : (is : List ℕ) (vs : List Value) → Fits is vs → emitted (onto is vs) ≡ load is (some_of vs)
emitted-onto [] [] f = refl
emitted-onto [] (v ∷ vs) f = absurd f
emitted-onto (i ∷ is) [] f = absurd f
emitted-onto (i ∷ is) (v ∷ vs) f = ap (λ z. (i, some (val v)) ∷ z) (emitted-onto is vs f)

pop-set-link : (l : ℕ) (t : Token) (xs : List Token) (q : Links) → pop l (set_link l (t ∷ xs) q) ≡ set_link l xs q
pop-set-link l t xs q =
    sym (set-ext l xs q (pop l (set_link l (t ∷ xs) q)) (pop-same l (set_link l (t ∷ xs) q) ∙ ap tail (set_same l (t ∷ xs) q))
    (λ j ne. sym (pop-other l j (set_link l (t ∷ xs) q) ne ∙ set_other l j (t ∷ xs) q ne)))

pub draw-does : (cap : ℕ → ℕ) (source : ℕ) (is : List ℕ) (vs : List Value) (rs : List Token) (b : Links) (k : List (ℕ × Token) → Demand) → Fits is vs →
    (Able cap (k (onto is vs)) (set_link source rs b) → Able cap (draw source is k) (set_link source (tokens-of vs ++ rs) b))
    × (act (draw source is k) (set_link source (tokens-of vs ++ rs) b) ≡ act (k (onto is vs)) (set_link source rs b))
draw-does cap source [] [] rs b k f = (λ o. o, refl)
draw-does cap source [] (v ∷ vs) rs b k f = absurd f
draw-does cap source (i ∷ is) [] rs b k f = absurd f
draw-does cap source (i ∷ is) (v ∷ vs) rs b k f =
    let at : set_link source (val v ∷ (tokens-of vs ++ rs)) b source ≡ val v ∷ (tokens-of vs ++ rs) = set_same source (val v ∷ (tokens-of vs ++ rs)) b in
    let po : pop source (set_link source (val v ∷ (tokens-of vs ++ rs)) b) ≡ set_link source (tokens-of vs ++ rs) b = pop-set-link source (val v) (tokens-of vs ++ rs) b in
    let h = draw-does cap source is vs rs b (λ es. k ((i, val v) ∷ es)) f in
    let g : head (set_link source (val v ∷ (tokens-of vs ++ rs)) b source) ≡ val v = ap head at in (
      λ o. (
        rw at (omega arith),
        subst (λ u. Able cap (draw source is (λ es. k ((i, u) ∷ es))) (pop source (set_link source (val v ∷ (tokens-of vs ++ rs)) b))) (sym g)
            (subst (λ q. Able cap (draw source is (λ es. k ((i, val v) ∷ es))) q) (sym po) (h.0 o)),
      ),
      ap (λ u. act (draw source is (λ es. k ((i, u) ∷ es))) (pop source (set_link source (val v ∷ (tokens-of vs ++ rs)) b))) g
          ∙ ap (act (draw source is (λ es. k ((i, val v) ∷ es)))) po ∙ h.1,
    )

-- Where a push of the tape's next set can be made, so can the push of that set as given.
pub drawn-able : (cap : ℕ → ℕ) (source : ℕ) (is : List ℕ) (vs : List Value) (rs : List Token) (b : Links) (k : List (ℕ × Token) → Demand) → Fits is vs →
    Able cap (draw source is k) (set_link source (tokens-of vs ++ rs) b) → Able cap (k (onto is vs)) (set_link source rs b)
drawn-able cap source [] [] rs b k f o = o
drawn-able cap source [] (v ∷ vs) rs b k f o = absurd f
drawn-able cap source (i ∷ is) [] rs b k f o = absurd f
drawn-able cap source (i ∷ is) (v ∷ vs) rs b k f o =
    let g : head (set_link source (val v ∷ (tokens-of vs ++ rs)) b source) ≡ val v = ap head (set_same source (val v ∷ (tokens-of vs ++ rs)) b) in
    let po : pop source (set_link source (val v ∷ (tokens-of vs ++ rs)) b) ≡ set_link source (tokens-of vs ++ rs) b = pop-set-link source (val v) (tokens-of vs ++ rs) b in
    drawn-able cap source is vs rs b (λ es. k ((i, val v) ∷ es)) f
    (subst (λ q. Able cap (draw source is (λ es. k ((i, val v) ∷ es))) q) po
    (subst (λ u. Able cap (draw source is (λ es. k ((i, u) ∷ es))) (pop source (set_link source (val v ∷ (tokens-of vs ++ rs)) b))) g o.1))

set-clear : (l : ℕ) (q : Links) → q l ≡ [] → set_link l [] q ≡ q
set-clear l q e = set-ext l [] q q e (λ j ne. refl)

collect-does : (os : List ℕ) (rs : List Value) (b : Links) (k : List Token → Demand) → Fits os rs → Different os → ((l : ℕ) → In l os → b l ≡ []) →
    (Able one_place (k (tokens-of rs)) b → Able one_place (collect os k) (put (load os (some_of rs)) b)) × (act (collect os k) (put (load os (some_of rs)) b) ≡ act (k (tokens-of rs)) b)
    × (label (collect os k) (put (load os (some_of rs)) b) ≡ label (k (tokens-of rs)) b)
collect-does [] [] b k f d c = (λ o. o, refl, refl)
collect-does [] (v ∷ vs) b k f d c = absurd f
collect-does (o ∷ os) [] b k f d c = absurd f
collect-does (o ∷ os) (r ∷ rs) b k f d c =
    let Q = put (load os (some_of rs)) b in
    let at : set_link o (val r ∷ []) Q o ≡ val r ∷ [] = set_same o (val r ∷ []) Q in
    let po : pop o (set_link o (val r ∷ []) Q) ≡ Q
    = pop-set-link o (val r) [] Q ∙ set-clear o Q (put-off o (load os (some_of rs)) b (λ i. d.0 (load-in os (some_of rs) o i)) ∙ c o (inl refl)) in
    let h = collect-does os rs b (λ ts. k (val r ∷ ts)) f d.1 (λ l i. c l (inr i)) in
    let g : head (set_link o (val r ∷ []) Q o) ≡ val r = ap head at in (
      λ x. (
        rw at (omega arith),
        subst (λ u. Able one_place (collect os (λ ts. k (u ∷ ts))) (pop o (set_link o (val r ∷ []) Q))) (sym g)
            (subst (λ q. Able one_place (collect os (λ ts. k (val r ∷ ts))) q) (sym po) (h.0 x)),
      ),
      ap (λ u. act (collect os (λ ts. k (u ∷ ts))) (pop o (set_link o (val r ∷ []) Q))) g ∙ ap (act (collect os (λ ts. k (val r ∷ ts)))) po ∙ h.1,
      ap (λ u. label (collect os (λ ts. k (u ∷ ts))) (pop o (set_link o (val r ∷ []) Q))) g ∙ ap (label (collect os (λ ts. k (val r ∷ ts)))) po ∙ h.2,
    )

-- more room is no hindrance
room-with-more : (cap : ℕ → ℕ) → ((l : ℕ) → 1 ≤ cap l) → (es : List (ℕ × Token)) (q : Links) → Room one_place es q → Room cap es q
room-with-more cap h [] q r = tt
room-with-more cap h (e ∷ es) q r = (omega (arith, h e.0, r.0), room-with-more cap h es (push' e q) r.1)
  where
    push' : ℕ × Token → Links → Links
    push' e q = append e.0 e.1 q

pub able-with-more : (cap : ℕ → ℕ) → ((l : ℕ) → 1 ≤ cap l) → (d : Demand) (q : Links) → Able one_place d q → Able cap d q
able-with-more cap h (ask l k) q o = (o.0, able-with-more cap h (k (head (q l))) (pop l q) o.1)
able-with-more cap h (fire es r) q o = room-with-more cap h es q o
able-with-more cap h halt q o = o

-- The machine over a piece: the piece's operators, push `p`, take `k`, the source and the credit link.
module _ (graph : ℕ → Demand) (p k source credit : ℕ) (P : Piece) (M : Means) where
  abbrev pub push-it : Demand
  push-it = push-demand source credit P.ins

  abbrev pub take-it : Demand
  take-it = take-demand credit P.outs

  abbrev pub net : ℕ → Demand
  net = machine graph p k source credit P.ins P.outs

  pub record Bench : Type 0 where
    pub serves : Serves (any-list graph) P M
    pub neat : Neat P
    pub push-apart : graph p ≡ halt
    pub take-apart : graph k ≡ halt
    pub push-not-take : p ≢ k
    pub source-off : Region P source → ⊥
    pub credit-off : Region P credit → ⊥
    pub source-not-credit : source ≢ credit
    pub ins-differ : Different P.ins
    pub outs-differ : Different P.outs

  -- a state between two sets: the tape, the idle piece
  abbrev pub Resting : Load → List Token → Links → Links
  Resting σ tape b = set_link source tape (put σ b)

  module _ (B : Bench) where
    differ-dist : (is : List ℕ) (vs : Values) → Different is → Distinct (load is vs)
    differ-dist [] vs d = tt
    differ-dist (i ∷ is) [] d = (λ o. d.0 (load-in is [] i o), differ-dist is [] d.1)
    differ-dist (i ∷ is) (v ∷ vs) d = (λ o. d.0 (load-in is vs i o), differ-dist is vs d.1)

    -- operators of the piece
    pub graph-ne : (a : ℕ) (q : Links) → Able one_place (graph a) q → (a ≢ p) × (a ≢ k)
    graph-ne a q o = (
      λ e. subst (λ d. Able one_place d q) B.push-apart (subst (λ x. Able one_place (graph x) q) e o),
      λ e. subst (λ d. Able one_place d q) B.take-apart (subst (λ x. Able one_place (graph x) q) e o),
    )

    -- a push
    pub push-set : (vs : List Value) (tape : List Token) (b : Links) → Fits P.ins vs → ((l : ℕ) → In l P.ins → b l ≡ []) → b credit ≡ [] →
        Able one_place push-it (set_link source (tokens-of vs ++ tape) b)
        × (act push-it (set_link source (tokens-of vs ++ tape) b) ≡ put ((credit, some (val true-value)) ∷ load P.ins (some_of vs)) (set_link source tape b))
    push-set vs tape b f ci cc =
        let es = onto P.ins vs in
        let z : emitted es ≡ load P.ins (some_of vs) = emitted-onto P.ins vs f in
        let h = draw-does one_place source P.ins vs tape b (λ es. fire ((credit, val true-value) ∷ es) []) f in
        let dd : Distinct ((credit, some (val true-value)) ∷ emitted es)
        = subst (λ x. Distinct ((credit, some (val true-value)) ∷ x)) (sym z)
        (λ o. B.credit-off (inr (inl (load-in P.ins (some_of vs) credit o))), differ-dist P.ins (some_of vs) B.ins-differ) in
        let e = emits ((credit, val true-value) ∷ es) (set_link source tape b) dd (λ l o. dry l o) in
        (h.0 e.0, h.1 ∙ e.1 ∙ ap (λ x. put ((credit, some (val true-value)) ∷ x) (set_link source tape b)) z)
      where
        dry : (l : ℕ) → (l ≡ credit) ⊎ On l (emitted (onto P.ins vs)) → set_link source tape b l ≡ []
        dry l (inl e) = set_other source l tape b (λ y. B.source-not-credit (sym y ∙ e)) ∙ ap b e ∙ cc
        dry l (inr o) =
            let i : In l P.ins = load-in P.ins (some_of vs) l (subst (λ x. On l x) (emitted-onto P.ins vs f) o) in
            set_other source l tape b (λ y. B.source-off (subst (Region P) y (inr (inl i)))) ∙ ci l i

    -- a take
    pub take-set : (rs : List Value) (b : Links) → Fits P.outs rs → ((l : ℕ) → In l P.outs → b l ≡ []) → b credit ≡ val true-value ∷ [] →
        Able one_place take-it (put (load P.outs (some_of rs)) b) × (act take-it (put (load P.outs (some_of rs)) b) ≡ set_link credit [] b)
        × (label take-it (put (load P.outs (some_of rs)) b) ≡ tokens-of rs)
    take-set rs b f c h =
        let t = collect-does P.outs rs b (λ ts. ask credit (λ u. fire [] ts)) f B.outs-differ c in
        (t.0 (rw h (omega arith), tt), t.1 ∙ pop-set credit b (val true-value) h, t.2)
