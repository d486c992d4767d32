-- The laws of Told for a row in a body place and for the rounds of a loop (document 01: "An iter starts the body again with
-- its identifiers rebound; another ending returns its values."; "in a body it ends the loop with err for each returned
-- value"). Assumes an accepted sheet's rows.
use Prim.Native.Nat.{ℕ, suc, ◌+◌, ◌-◌, ◌≤◌, ◌<◌}
use Rattle.std.specs.Prelude.{◌≡◌, refl, List, get_or, replicate, Option, Some, None}
use Rattle.std.proofs.Math.Path.{sym, ap, subst}
use Rattle.std.proofs.Common.{◌∙◌}
use Rattle.std.proofs.Math.ListN.{length}
use Rattle.std.proofs.lemmas.List.{length-replicate}
use Rattle.std.proofs.Math.Seq.{paste}
use native.Mathlib.Omega.{arith}
use Rattle.value.specs.declared.Value.{Value}
use Rattle.value.specs.declared.Sense.{Sense}
use Rattle.value.specs.declared.Sense.TheVariants.{True, False, Neither}
use Rattle.value.specs.Senses.{err, sense}
use Rattle.formula.specs.declared.Shape.{Shape}
use Rattle.formula.specs.declared.Shape.TheVariants.{Identifier, Constant, Pair, Operator, Let, If, For, Iter}
use Rattle.formula.specs.Sheet.{shape_at}
use Rattle.formula.specs.Tree.{Body, body_node, exp_of, body_of}
use Rattle.formula.proofs.TreeLaws.{body-as}
use Rattle.formula.specs.Widths.{returned, iterated}
use Rattle.meaning.specs.Meaning.{Env, bind, Ending, again, returns, then_b, after, branch, eval_e, eval_b}
use Rattle.meaning.proofs.Binding.{bind-again, bound-among}
use Rattle.meaning.specs.Rounds.{turns, WithinB}
use Rattle.meaning.proofs.Rounds.{turns-none, turns-step, within-B}
use Rattle.meaning.specs.WidthLaws.{SizedB}
use Rattle.meaning.proofs.WidthLaws.{sized-B}
use Rattle.eval_cycle.specs.declared.Turn.{Turn}
use Rattle.eval_cycle.specs.declared.Turn.TheVariants.{Again, Back}
use Rattle.formula.specs.Ways.{way_of}
use Rattle.formula.specs.declared.Way.{Way}
use Rattle.formula.specs.declared.Way.TheVariants.{Iter as iter-way, Let as let-way, If as if-way, End}
use Rattle.eval_words.specs.Words.{held_of, env_of, outcome_of, paste-binds}
use Rattle.meaning.specs.Rows.{BodyRow, Plain}
use Rattle.meaning.proofs.Rows.{body-children, body-sound, plain-as}
use Rattle.eval_words.specs.Needs.{body-needs}
use Rattle.eval_cycle.specs.Told.{Told, ToldB, Values, told-left, told-short, tell, tell-short, tell-short-B, then-short-B, then-yields-B, counted}

-- An expression's answer as that of a round which an iter ends, or which returns.
abbrev pub again_of : Option ℕ → Option Turn
again_of (Some l) = Some (Again l)
again_of None = None

abbrev pub back_of : Option ℕ → Option Turn
back_of (Some l) = Some (Back l)
back_of None = None

tell-again : (o : Ending) (vs : List Value) (k : ℕ) (b a : List ℕ)
    → o ≡ again vs k → env_of a ≡ bind 0 (length vs) vs (env_of b) → ToldB o (Some (Again k)) b a
tell-again o vs k b a e h = subst (λ (z : Ending). ToldB z (Some (Again k)) b a) (sym e) (refl, h)

tell-back : (o : Ending) (vs : List Value) (k : ℕ) (b a : List ℕ)
    → o ≡ returns vs k → env_of a ≡ bind 0 (length vs) vs (env_of b) → ToldB o (Some (Back k)) b a
tell-back o vs k b a e h = subst (λ (z : Ending). ToldB z (Some (Back k)) b a) (sym e) (refl, h)

-- The shape behind a way.
abbrev Shaped : Shape → Way → Type 0
Shaped s (iter-way a) = s ≡ Iter a
Shaped s (let-way a b c d) = s ≡ Let a b c d
Shaped s (if-way a b c) = s ≡ If a b c
Shaped s End = Plain s

shaped : (s : Shape) → Shaped s (way_of s)
shaped (Identifier a) = tt
shaped (Constant k a) = tt
shaped (Pair a b) = tt
shaped (Operator a b) = tt
shaped (Let a b c d) = refl
shaped (If a b c) = refl
shaped (For a b c d) = tt
shaped (Iter a) = refl

pub shaped-as : (s : Shape) (w : Way) → w ≡ way_of s → Shaped s w
shaped-as s w e = subst (Shaped s) (sym e) (shaped s)

module _ (t ws : List ℕ) (r : ℕ) (h : BodyRow t ws r) (w : ℕ) (env : Env) (left : ℕ) where
  by_shape : (s : Shape) → shape_at t r ≡ s
      → eval_b (body_of t r) w env left ≡ eval_b (body_node (exp_of t) (body_of t) s) w env left
  by_shape s e =
      ap (λ (y : Body). eval_b y w env left) (body-as t h.rows h.accepted.named r h.low h.high s e)

  by-plain : Plain (shape_at t r) → eval_b (body_of t r) w env left ≡ then_b (eval_e (exp_of t r) env left) (λ vs l. returns vs l)
  unfolding eval_e
  by-plain p =
      ap (λ (y : Body). eval_b y w env left) (plain-as t h.rows h.accepted.named r h.low h.high p)

  module _ (o o' : List ℕ) where
    pub tell-iter : (a : ℕ) → shape_at t r ≡ Iter a → (ans : Option ℕ)
        → Told (eval_e (exp_of t a) env left) ans 0 o o' → ToldB (eval_b (body_of t r) w env left) (again_of ans) o o'
    unfolding eval_e body_node
    tell-iter a e (Some l) p =
        let v : Values (eval_e (exp_of t a) env left) l 0 o o' = told-left _ l 0 o o' p in
        tell-again _ v.values l o o'
        (by_shape (Iter a) e ∙ then-yields-B (λ vs l₁. again vs l₁) v.is) v.held
    tell-iter a e None p =
        tell-short-B _ o o'
        (by_shape (Iter a) e
        ∙ then-short-B (λ vs l₁. again vs l₁) (told-short (eval_e (exp_of t a) env left) 0 o o' p))

    pub tell-ending : Plain (shape_at t r) → (ans : Option ℕ)
        → Told (eval_e (exp_of t r) env left) ans 0 o o' → ToldB (eval_b (body_of t r) w env left) (back_of ans) o o'
    tell-ending q (Some l) p =
        let v : Values (eval_e (exp_of t r) env left) l 0 o o' = told-left _ l 0 o o' p in
        tell-back _ v.values l o o' (by-plain q ∙ then-yields-B (λ vs l₁. returns vs l₁) v.is) v.held
    tell-ending q None p = tell-short-B _ o o' (by-plain q ∙ then-short-B _ (told-short _ 0 o o' p))

    pub tell-let-B : (a b c d : ℕ) → shape_at t r ≡ Let a b c d → (z z' : List ℕ) (l : ℕ) (ans : Option Turn) → env_of z ≡ env
        → Told (eval_e (exp_of t c) env left) (Some l) a z z'
        → ToldB (eval_b (body_of t d) w (env_of z') l) ans o o'
        → ToldB (eval_b (body_of t r) w env left) ans o o'
    unfolding eval_e body_node
    tell-let-B a b c d e z z' l ans i p q =
        let v : Values (eval_e (exp_of t c) env left) l a z z' = told-left _ l a z z' p in
        let n : length v.values ≡ b =
        counted t ws c (body-children t ws r h (Let a b c d) e).0.0 env left v.is ∙ (body-needs t ws r h (Let a b c d) e).0
        in
        let inner : env_of z' ≡ bind a b v.values env = v.held ∙ (λ j. bind a (n j) v.values (i j)) in
        subst (λ (y : Ending). ToldB y ans o o')
        (sym (by_shape (Let a b c d) e
        ∙ then-yields-B (λ vs l₁. eval_b (body_of t d) w (bind a b vs env) l₁) v.is
        ∙ ap (λ (f : Env). eval_b (body_of t d) w f l) (sym inner)))
        q

    pub tell-let-B-short : (a b c d : ℕ) → shape_at t r ≡ Let a b c d → (i : ℕ) (z z' : List ℕ)
        → Told (eval_e (exp_of t c) env left) None i z z' → ToldB (eval_b (body_of t r) w env left) None o o'
    unfolding eval_e body_node
    tell-let-B-short a b c d e i z z' p =
        tell-short-B _ o o'
        (by_shape (Let a b c d) e
        ∙ then-short-B (λ vs l₁. eval_b (body_of t d) w (bind a b vs env) l₁) (told-short (eval_e (exp_of t c) env left) i z z' p))

    module _ (a b c : ℕ) (e : shape_at t r ≡ If a b c) (s : Option (ℕ × ℕ)) (p : eval_e (exp_of t a) env left ≡ outcome_of s) where
      by-sense : (v l : ℕ) → s ≡ Some (v, l) → (z : Sense) → sense (held_of v) ≡ z
          → eval_b (body_of t r) w env left
          ≡ branch z (returns (replicate w err) l) (λ _. eval_b (body_of t b) w env l) (λ _. eval_b (body_of t c) w env l)
      unfolding eval_e body_node
      by-sense v l i z f =
          by_shape (If a b c) e
          ∙ then-yields-B
          (λ vs m.
          branch (sense (get_or vs 0 err)) (returns (replicate w err) m) (λ _. eval_b (body_of t b) w env m)
          (λ _. eval_b (body_of t c) w env m)
          )
          (p ∙ ap outcome_of i)
          ∙ ap
          (λ (y : Sense). branch y (returns (replicate w err) l) (λ _. eval_b (body_of t b) w env l) (λ _. eval_b (body_of t c) w env l))
          f

      module _ (v l : ℕ) (i : s ≡ Some (v, l)) where
        pub tell-first-B : (ans : Option Turn) → sense (held_of v) ≡ True → ToldB (eval_b (body_of t b) w env l) ans o o'
            → ToldB (eval_b (body_of t r) w env left) ans o o'
        unfolding branch
        tell-first-B ans f q = subst (λ (y : Ending). ToldB y ans o o') (sym (by-sense v l i True f)) q

        pub tell-second-B : (ans : Option Turn) → sense (held_of v) ≡ False → ToldB (eval_b (body_of t c) w env l) ans o o'
            → ToldB (eval_b (body_of t r) w env left) ans o o'
        unfolding branch
        tell-second-B ans f q = subst (λ (y : Ending). ToldB y ans o o') (sym (by-sense v l i False f)) q

        -- "in a body it ends the loop with err for each returned value"
        pub tell-neither-B : sense (held_of v) ≡ Neither → env_of o' ≡ bind 0 w (replicate w err) (env_of o)
            → ToldB (eval_b (body_of t r) w env left) (Some (Back l)) o o'
        unfolding branch
        tell-neither-B f q =
            tell-back _ (replicate w err) l o o' (by-sense v l i Neither f)
            (subst (λ (k : ℕ). env_of o' ≡ bind 0 k (replicate w err) (env_of o)) (sym (length-replicate w err)) q)

      pub tell-untested-B : s ≡ None → ToldB (eval_b (body_of t r) w env left) None o o'
      unfolding eval_e body_node
      tell-untested-B i = tell-short-B _ o o' (by_shape (If a b c) e ∙ then-short-B _ (p ∙ ap outcome_of i))

-- ---- the rounds of a loop

-- The values behind a body's answer.
pub record Ended (o : Ending) (made : List Value → ℕ → Ending) (k n : ℕ) (b a : List ℕ) : Type 0 where
  pub values : List Value
  pub is : o ≡ made values k
  pub held : env_of a ≡ bind 0 n values (env_of b)

module _ (n w k : ℕ) (b a : List ℕ) where
  ended-again : (o : Ending) → SizedB n w o → ToldB o (Some (Again k)) b a → Ended o again k n b a
  ended-again (again vs l) s h =
      record {
        values = vs;
        is = ap (again vs) (sym h.0);
        held = subst (λ (m : ℕ). env_of a ≡ bind 0 m vs (env_of b)) s.0 h.1;
      }
  ended-again (returns vs l) s h = absurd h
  ended-again Ending.unfinished s h = absurd h

  ended-back : (o : Ending) → SizedB n w o → ToldB o (Some (Back k)) b a → Ended o returns k w b a
  ended-back (again vs l) s h = absurd h
  ended-back (returns vs l) s h =
      record {
        values = vs;
        is = ap (returns vs) (sym h.0);
        held = subst (λ (m : ℕ). env_of a ≡ bind 0 m vs (env_of b)) s h.1;
      }
  ended-back Ending.unfinished s h = absurd h

  ended-short : (o : Ending) → ToldB o None b a → o ≡ Ending.unfinished
  ended-short (again vs l) h = absurd h
  ended-short (returns vs l) h = absurd h
  ended-short Ending.unfinished h = refl

  within-again : (o : Ending) (m : ℕ) → WithinB m o → ToldB o (Some (Again k)) b a → k ≤ m
  within-again (again vs l) m i h = omega (arith, h.0, i)
  within-again (returns vs l) m i h = absurd h
  within-again Ending.unfinished m i h = absurd h

held_at : (q q' : List ℕ) (vs : List Value) (n : ℕ) → env_of q' ≡ bind 0 n vs (env_of q)
    → (i : ℕ) → i < n → env_of q' i ≡ get_or vs i err
held_at q q' vs n e i h =
    let z : i - 0 ≡ i = omega arith in
    ap (λ (f : Env). f i) e ∙ bound-among 0 n vs (env_of q) i (omega arith) (omega arith) ∙ ap (λ (k : ℕ). get_or vs k err) z

-- Where the loop stands: what is left of it is the whole loop, and rebinding forgets what the last round bound.
pub record Turning (y : Body) (a b : ℕ) (z₀ z : List ℕ) (left l : ℕ) : Type 0 where
  pub same : turns y a b (env_of z₀) (env_of z) l ≡ turns y a b (env_of z₀) (env_of z₀) left
  pub forgets : (vs : List Value) → bind a b vs (env_of z) ≡ bind a b vs (env_of z₀)

-- No round is left.
pub turning-none : (y : Body) (a b : ℕ) (z₀ z : List ℕ) (left l : ℕ) → Turning y a b z₀ z left l → l ≤ 0
    → (at : ℕ) (o o' : List ℕ) → Told (turns y a b (env_of z₀) (env_of z₀) left) None at o o'
turning-none y a b z₀ z left l h i at o o' =
    let e : l ≡ 0 = omega arith in
    tell-short _ at o o' (sym h.same ∙ ap (λ (k : ℕ). turns y a b (env_of z₀) (env_of z) k) e ∙ turns-none y a b _ _)

module _ (t ws : List ℕ) (d : ℕ) (row : BodyRow t ws d) (a b w : ℕ)
    (back : returned (body_of t d) ≡ w) (on : iterated (body_of t d) ≡ b)
    (z₀ z : List ℕ) (left l : ℕ) (h : Turning (body_of t d) a b z₀ z left l) (some : 0 < l) (q q' : List ℕ) where
  round : Ending
  round = eval_b (body_of t d) w (env_of z) (l - 1)

  step : turns (body_of t d) a b (env_of z₀) (env_of z₀) left
      ≡ after round (λ vs m. turns (body_of t d) a b (env_of z₀) (bind a b vs (env_of z₀)) m)
  unfolding round
  step =
      let e : l ≡ suc (l - 1) = omega arith in
      sym h.same
      ∙ ap (λ (k : ℕ). turns (body_of t d) a b (env_of z₀) (env_of z) k) e
      ∙ turns-step (body_of t d) a b (env_of z₀) (env_of z) (l - 1)
      ∙ ap
      (λ (k : ℕ).
      after (eval_b (body_of t d) k (env_of z) (l - 1)) (λ vs m. turns (body_of t d) a b (env_of z₀) (bind a b vs (env_of z₀)) m)
      )
      back

  sizes : SizedB b w round
  unfolding round
  sizes =
      subst (λ (k : ℕ). SizedB k w (eval_b (body_of t d) w (env_of z) (l - 1))) on
      (sized-B (body_of t d) (body-sound t ws d row) w (λ i. back) (env_of z) (l - 1))

  pub round-short : ToldB (eval_b (body_of t d) w (env_of z) (l - 1)) None q q' → (at : ℕ) (o o' : List ℕ)
      → Told (turns (body_of t d) a b (env_of z₀) (env_of z₀) left) None at o o'
  unfolding round after
  round-short p at o o' =
      tell-short _ at o o'
      (step ∙ ap (λ (x : Ending). after x (λ vs m. turns (body_of t d) a b (env_of z₀) (bind a b vs (env_of z₀)) m))
      (ended-short b w 0 q q' round p))

  pub round-back : (m : ℕ) → ToldB (eval_b (body_of t d) w (env_of z) (l - 1)) (Some (Back m)) q q'
      → (at : ℕ) (o : List ℕ) → at + w ≤ length o → w ≤ length q'
      → Told (turns (body_of t d) a b (env_of z₀) (env_of z₀) left) (Some m) at o (paste o at q' w)
  unfolding round after
  round-back m p at o room given =
      let v : Ended round returns m w q q' = ended-back b w m q q' round sizes p in
      let n : length v.values ≡ w = subst (SizedB b w) v.is sizes in
      tell _ v.values m at o (paste o at q' w)
      (step ∙ ap (λ (x : Ending). after x (λ vs k. turns (body_of t d) a b (env_of z₀) (bind a b vs (env_of z₀)) k)) v.is)
      (subst (λ (k : ℕ). env_of (paste o at q' w) ≡ bind at k v.values (env_of o)) (sym n)
      (paste-binds o at q' w room given v.values (λ i j. held_at q q' v.values w v.held i j)))

  pub round-again : (m : ℕ) → ToldB (eval_b (body_of t d) w (env_of z) (l - 1)) (Some (Again m)) q q'
      → a + b ≤ length z → b ≤ length q'
      → Turning (body_of t d) a b z₀ (paste z a q' b) left m × (m < l)
  unfolding round after
  round-again m p room given =
      let v : Ended round again m b q q' = ended-again b w m q q' round sizes p in
      let bound : env_of (paste z a q' b) ≡ bind a b v.values (env_of z) =
      paste-binds z a q' b room given v.values (λ i j. held_at q q' v.values b v.held i j)
      in
      let over : env_of (paste z a q' b) ≡ bind a b v.values (env_of z₀) = bound ∙ h.forgets v.values in
      let fewer : m ≤ l - 1 = within-again b w m q q' round (l - 1) (within-B (body_of t d) w (env_of z) (l - 1)) p in (
        record {
          same =
              ap (λ (f : Env). turns (body_of t d) a b (env_of z₀) f m) over
              ∙ sym (step ∙ ap (λ (x : Ending). after x (λ vs k. turns (body_of t d) a b (env_of z₀) (bind a b vs (env_of z₀)) k)) v.is);
          forgets = λ vs. ap (bind a b vs) over ∙ bind-again a b v.values vs (env_of z₀);
        },
        omega arith,
      )
