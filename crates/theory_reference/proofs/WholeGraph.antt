-- Laws of specs/WholeGraph.antt, and what only they need.
use Rattle.std.specs.Prelude.{ℕ, ◌+◌, ◌≤◌, ◌<◌, ◌≡◌, refl, ◌≢◌, ◌⊎◌, List, [], ◌∷◌, ◌++◌, length}
use Rattle.std.proofs.Common.{sym, ◌∙◌, ap, subst, arith}
use Rattle.std.proofs.Math.Path.{fun_ext}
use Rattle.std.proofs.Math.Logic.{inl, inr, ⊎_elim}
use Rattle.std.proofs.Math.Option.{Option, none, some}
use Rattle.std.proofs.Math.Decide.{ℕ_discrete, dec_lt}
use Rattle.value.specs.declared.Value.{Value}
use Rattle.network.specs.Net.{Token, mark, Links}
use Rattle.network.specs.Uses.{In}
use Rattle.theory_pieces.specs.Load.{Load, opt, set_link, put, On, Clear}
use Rattle.theory_pieces.proofs.Load.{set_same, set_other, set-ext, put-app, put-off, put-set, on-app}
use Rattle.theory_pieces.specs.Goes.{Net}
use Rattle.theory_pieces.proofs.Goes.{Steps, Long}
use Rattle.theory_pieces.specs.Piece.{load, Piece, Region, Neat, Means}
use Rattle.theory_pieces.proofs.Piece.{load-in}
use Rattle.theory_pieces.proofs.Piece as Pieces
use Rattle.theory_pieces.specs.Sets.{Different}
use Rattle.theory_pieces.proofs.Rows.{in-front, in-back, in_app, dec-in}
use Rattle.graph.specs.Assembly.{Graph, Env, free, links_of, outputs, listed, up_from}
use Rattle.graph.specs.Yields.{Values, Answer, Yields, bound}
use Rattle.graph.specs.Fit.{Fit}
use Rattle.theory_reference.proofs.NameSets.{listed_has, listed-only, listed-differ}
use Rattle.theory_reference.specs.Plugged.{nowhere, registers}
use Rattle.theory_reference.specs.Plan.{Hold, Between, Plan, Own, Register, Port, Zone, Control, Envs, Sound, Ready, Before, After}
use Rattle.theory_reference.proofs.Plan.{hold-same, ready-same, Leads, Serves}
use Rattle.theory_reference.proofs.BehindGate.{in-up_from, up_from-in}
use Rattle.theory_reference.specs.GraphLayout.{plan_of, RingOf}
use Rattle.theory_reference.proofs.GraphLayout.{layout}
use Rattle.theory_reference.specs.Bystanders.{Unused, Single}
use Rattle.theory_reference.proofs.Bystanders.{steps-beside, long-beside, steps-single}
use Rattle.theory_reference.specs.WrittenOut.{no-values}
use Rattle.theory_reference.proofs.WrittenOut.{in-links, links-in, links-differ, load-laid, load-holds, written, written_on, written-here, written-there}
use Rattle.theory_reference.specs.WholeGraph.{bare-state}
use Rattle.theory_reference.specs.WholeGraph as Stated

put-single : (σ : Load) (b : Links) → Single b → Single (put σ b)
put-single [] b h = h
put-single (x ∷ σ) b h = λ l. go l (ℕ_discrete l x.0) (put-single σ b h l)
  where
    opt-single : (t : Option Token) → length (opt t) ≤ 1
    opt-single none = omega arith
    opt-single (some t) = omega arith

    go : (l : ℕ) → Dec (l ≡ x.0) → length (put σ b l) ≤ 1 → length (set_link x.0 (opt x.1) (put σ b) l) ≤ 1
    go l (yes e) k =
        let z : length (set_link x.0 (opt x.1) (put σ b) l) ≡ length (opt x.1) = ap length (ap (set_link x.0 (opt x.1) (put σ b)) e ∙ set_same x.0 (opt x.1) (put σ b)) in
        omega (arith, opt-single x.1)
    go l (no e) k = let z : length (set_link x.0 (opt x.1) (put σ b) l) ≡ length (put σ b l) = ap length (set_other x.0 l (opt x.1) (put σ b) e) in omega arith

module _ (g : Graph) (n : ℕ) (env : Env) (source credit : ℕ) where
  abbrev pub plan : Plan
  plan = plan_of g n env

  abbrev inputs : List ℕ
  inputs = Stated.inputs g n env source credit

  abbrev pub results : List ℕ
  results = outputs g n env

  -- Own links and registers.
  abbrev pub Inner : ℕ → Type 0
  Inner l = Own plan l ⊎ Register plan l

  -- Everything is the graph's but its inputs and results and the two links of push and take.
  abbrev pub owned : ℕ → Type 0
  owned l = (l ≢ source) × (l ≢ credit) × (In l inputs → ⊥) × (In l results → ⊥)

  -- An idle load: put on the empty state, the graph is calm and no value waits.
  pub record Idle-load (σ : Load) : Type 0 where
    pub within : (l : ℕ) → On l σ → Inner l × owned l
    pub calm : Before plan no-values (put σ bare-state)

  abbrev pub whole : Piece
  whole = record { ins = inputs; outs = results; own = owned; Idle = Idle-load }

  abbrev from-inputs : (Values → ℕ → Answer → Type 0) → Means
  from-inputs = Stated.from-inputs g n env source credit

  -- What the graph means: what it yields with these values of its names.
  abbrev pub yields : Means
  yields = from-inputs (Yields g)

  pub whole-neat : Neat whole
  whole-neat =
      record { idle-own = λ σ i l o. (i.within l o).1; off-ins = λ l o i. o.2 i; off-outs = λ l o i. o.3 i }

  -- Outside the graph: source and credit.
  pub record Ends-apart : Type 0 where
    pub source-off : Zone plan source → ⊥
    pub source-no-register : Register plan source → ⊥
    pub credit-off : Zone plan credit → ⊥
    pub credit-no-register : Register plan credit → ⊥
    pub source-not-credit : source ≢ credit

  module _ (ft : Fit g) (E : Envs (free g) env n) (fits : n + links_of g ≤ nowhere) (A : Ends-apart) where
    sound : Sound plan
    sound = (layout g ft n env E fits).sound

    pub input-port : (l : ℕ) → In l inputs → Port plan l
    input-port l i = let h = in-links (listed (free g)) env l i in (h.0, listed-only (free g) h.0 h.1, h.2)

    port-input : (l : ℕ) → Port plan l → In l inputs
    port-input l (x, e, z) = subst (λ k. In k inputs) (sym z) (links-in (listed (free g)) env x (listed_has (free g) x (E.small x e) e))

    input-low : (l : ℕ) → In l inputs → l < n
    input-low l i = let p = input-port l i in let q = E.below p.0 p.1 in let z = p.2 in omega arith

    result_low : (l : ℕ) → In l results → l < nowhere
    result_low l i = go (sound.outs-zone l i)
      where
        go : Zone plan l → l < nowhere
        go (inl o) = omega arith
        go (inr p) = let q = E.below p.0 p.1 in let z = p.2 in omega arith

    inner-no-input : (l : ℕ) → Inner l → In l inputs → ⊥
    inner-no-input l (inl o) i = let q = input-low l i in omega arith
    inner-no-input l (inr o) i = let q = input-low l i in omega arith

    inner-no-source : (l : ℕ) → Inner l → l ≢ source
    inner-no-source l (inl o) e = A.source-off (inl (subst (Own plan) e o))
    inner-no-source l (inr o) e = A.source-no-register (subst (Register plan) e o)

    inner-no-credit : (l : ℕ) → Inner l → l ≢ credit
    inner-no-credit l (inl o) e = A.credit-off (inl (subst (Own plan) e o))
    inner-no-credit l (inr o) e = A.credit-no-register (subst (Register plan) e o)

    pub inputs-differ : Different inputs
    inputs-differ = links-differ (listed (free g)) env (listed-differ (free g)) (λ x y a b e. E.differ x y (listed-only (free g) x a) (listed-only (free g) y b) e)

    pub results-differ : Different results
    results-differ = sound.outs-differ

    pub source-off-region : Region whole source → ⊥
    source-off-region (inl o) = o.0 refl
    source-off-region (inr (inl i)) = A.source-off (inr (input-port source i))
    source-off-region (inr (inr i)) = A.source-off (sound.outs-zone source i)

    pub credit-off-region : Region whole credit → ⊥
    credit-off-region (inl o) = o.1 refl
    credit-off-region (inr (inl i)) = A.credit-off (inr (input-port credit i))
    credit-off-region (inr (inr i)) = A.credit-off (sound.outs-zone credit i)

    -- Every other link is in the region.
    in-region : (l : ℕ) → l ≢ source → l ≢ credit → Region whole l
    in-region l a b = go (dec-in l inputs) (dec-in l results)
      where
        go : Dec (In l inputs) → Dec (In l results) → Region whole l
        go (yes i) d = inr (inl i)
        go (no i) (yes j) = inr (inr j)
        go (no i) (no j) = inl (a, b, i, j)

    -- the links that an idle load may have
    inner-links : List ℕ
    inner-links = up_from n (links_of g) ++ up_from (registers + n) (links_of g)

    inner-in : (l : ℕ) → Inner l → In l inner-links
    unfolding inner-links
    inner-in l (inl o) = in-front l (up_from n (links_of g)) (up_from (registers + n) (links_of g)) (up_from-in n (links_of g) l o)
    inner-in l (inr o) = in-back l (up_from n (links_of g)) (up_from (registers + n) (links_of g)) (up_from-in (registers + n) (links_of g) l o)

    in_inner : (l : ℕ) → In l inner-links → Inner l
    unfolding inner-links
    in_inner l i =
        ⊎_elim (λ (j : In l (up_from n (links_of g))). inl (in-up_from n (links_of g) l j)) (λ (j : In l (up_from (registers + n) (links_of g))). inr (in-up_from (registers + n) (links_of g) l j))
        (in_app l (up_from n (links_of g)) (up_from (registers + n) (links_of g)) i)

    -- A load of the registers in which every gate of a loop is marked is idle: the graph at the start.
    pub fresh-idle : (σ : Load) → ((l : ℕ) → On l σ → Register plan l) → ((c r : ℕ) → RingOf g n c r → put σ bare-state r ≡ mark ∷ []) → Idle-load σ
    fresh-idle σ w marked =
        record {
          within = λ l o. let r = w l o in
              (inr r, (inner-no-source l (inr r), inner-no-credit l (inr r), inner-no-input l (inr r), λ i. let q = result_low l i in omega arith));
          calm = record {
            laid = λ x e. put-off (env x) σ bare-state (λ o. let r = w (env x) o in let q = E.below x e in omega arith);
            clear = λ l o c. put-off l σ bare-state (λ k. let r = w l k in omega arith);
            ready = λ c r k. inl (marked c r k, put-off c σ bare-state (λ o. let q = w c o in let p = sound.ring-own c r k in omega arith));
            void = put-off nowhere σ bare-state (λ o. let r = w nowhere o in omega arith);
          };
        }

    module _ (vs : List (Option Value)) (σ : Load) (I : Idle-load σ) where
      abbrev ρ : Values
      ρ = bound (listed (free g)) vs no-values

      -- the values laid on the empty state
      abbrev s₀ : Links
      s₀ = put (load inputs vs ++ σ) bare-state

      no-load : (l : ℕ) → (In l inputs → ⊥) → s₀ l ≡ put σ bare-state l
      no-load l off =
          ap (λ (z : Links). z l) (put-app (load inputs vs) σ bare-state) ∙ put-off l (load inputs vs) (put σ bare-state) (λ o. off (load-in inputs vs l o))

      before : Before plan ρ s₀
      before =
          record {
            laid = λ x e. ap (λ (z : Links). z (env x)) (put-app (load inputs vs) σ bare-state)
                ∙ load-laid (listed (free g)) env vs (put σ bare-state) x (listed_has (free g) x (E.small x e) e) (λ y m k. E.differ y x (listed-only (free g) y m) e (sym k));
            clear = λ l o c. no-load l (inner-no-input l (inl o)) ∙ I.calm.clear l o c;
            ready = λ c r k. let p = sound.ring-own c r k in
                ready-same c r (put σ bare-state) s₀ (no-load c (inner-no-input c (inl p.0))) (no-load r (inner-no-input r (inr p.1))) (I.calm.ready c r k);
            void = no-load nowhere (λ i. let q = input-low nowhere i in omega arith) ∙ I.calm.void;
          }

      -- another base: it differs at source and credit only
      based : (b : Links) → Clear (Region whole) b → put (load inputs vs ++ σ) b ≡ set_link source (b source) (set_link credit (b credit) s₀)
      based b cl =
          ap (put xs) base-is ∙ sym (put-set source (b source) xs (set_link credit (b credit) bare-state) (λ o. off source (λ r. source-off-region r) o))
          ∙ ap (set_link source (b source)) (sym (put-set credit (b credit) xs bare-state (λ o. off credit (λ r. credit-off-region r) o)))
        where
          xs : Load
          xs = load inputs vs ++ σ

          off : (l : ℕ) → (Region whole l → ⊥) → On l xs → ⊥
          off l out o = ⊎_elim (λ (k : On l (load inputs vs)). out (inr (inl (load-in inputs vs l k)))) (λ (k : On l σ). out (inl (I.within l k).1)) (on-app l (load inputs vs) σ o)

          base-is : b ≡ set_link source (b source) (set_link credit (b credit) bare-state)
          base-is =
              sym (set-ext source (b source) (set_link credit (b credit) bare-state) b refl
              (λ j ne. go j ne (ℕ_discrete j credit)))
            where
              go : (j : ℕ) → j ≢ source → Dec (j ≡ credit) → set_link credit (b credit) bare-state j ≡ b j
              go j ne (yes e) = ap (set_link credit (b credit) bare-state) e ∙ set_same credit (b credit) bare-state ∙ ap b (sym e)
              go j ne (no e) = set_other credit j (b credit) bare-state e ∙ sym (cl j (in-region j ne e))

      module _ (ws : List (Option Value)) (s' : Links) (X : After plan s₀ s' ws) (one : Single s') where
        τ : Load
        τ = written results inner-links s'

        τ-here : (b : Links) (l : ℕ) → Inner l → (In l results → ⊥) → put τ b l ≡ s' l
        unfolding τ
        τ-here b l i no-out = written-here results inner-links s' b l (one l) (inner-in l i) no-out

        τ-result : (b : Links) (l : ℕ) → In l results → put τ b l ≡ b l
        unfolding τ
        τ-result b l i = written-there results inner-links s' b l (λ k. i)

        τ-there : (b : Links) (l : ℕ) → (Inner l → ⊥) → put τ b l ≡ b l
        unfolding τ
        τ-there b l no-in = written-there results inner-links s' b l (λ k. absurd (no-in (in_inner l k)))

        τ-within : (l : ℕ) → On l τ → Inner l × owned l
        unfolding τ
        τ-within l o =
            let h = written_on results inner-links s' l o in
            let i = in_inner l h.0 in
            (i, (inner-no-source l i, inner-no-credit l i, inner-no-input l i, h.1))

        ring-kept : (c r : ℕ) → RingOf g n c r → Ready c r (put τ bare-state)
        ring-kept c r k =
            let p = sound.ring-own c r k in
            ready-same c r s' (put τ bare-state) (τ-here bare-state c (inl p.0) (sound.ring-off c r k))
            (τ-here bare-state r (inr p.1) (λ i. let q = result_low r i in omega arith)) (X.ready c r k)

        idle-again : Idle-load τ
        idle-again =
            record {
              within = τ-within;
              calm = record {
                laid = λ x e. τ-there bare-state (env x) (λ i. inner-no-input (env x) i (port-input (env x) (x, e, refl)));
                clear = λ l o c. go l o c (dec-in l results);
                ready = ring-kept;
                void = τ-there bare-state nowhere far;
              };
            }
          where
            far : Inner nowhere → ⊥
            far (inl o) = omega arith
            far (inr o) = omega arith

            go : (l : ℕ) → Own plan l → (Control plan l → ⊥) → Dec (In l results) → put τ bare-state l ≡ []
            go l o c (yes i) = τ-result bare-state l i
            go l o c (no i) = τ-here bare-state l (inl o) i ∙ X.clear l (inl o) c i

        -- what is neither own nor result is empty, but for source and credit
        rest-empty : (l : ℕ) → (Inner l → ⊥) → (In l results → ⊥) → s' l ≡ []
        rest-empty l no-in no-out = go (dec-in l inputs)
          where
            control-own : Control plan l → ⊥
            control-own c = no-in (inl (sound.ring-own l c.0 c.1).0)

            go : Dec (In l inputs) → s' l ≡ []
            go (yes i) = X.clear l (inr (input-port l i)) control-own no-out
            go (no i) =
                X.same l (record { not_own = λ o. no-in (inl o); not_register = λ o. no-in (inr o); not-port = λ p. i (port-input l p) })
                ∙ no-load l i ∙ put-off l σ bare-state (λ o. no-in (I.within l o).0)

        ended : (b : Links) → Clear (Region whole) b → set_link source (b source) (set_link credit (b credit) s') ≡ put (load results ws ++ τ) b
        ended b cl = sym (put-app (load results ws) τ b ∙ fun_ext (λ l. load-holds results ws final (put τ b) held l (λ no-out. rest l no-out)))
          where
            final : Links
            final = set_link source (b source) (set_link credit (b credit) s')

            plain : (l : ℕ) → l ≢ source → l ≢ credit → final l ≡ s' l
            plain l a c = set_other source l (b source) (set_link credit (b credit) s') a ∙ set_other credit l (b credit) s' c

            no_end : (l : ℕ) → In l results → (l ≢ source) × (l ≢ credit)
            no_end l i = (λ e. A.source-off (subst (Zone plan) e (sound.outs-zone l i)), λ e. A.credit-off (subst (Zone plan) e (sound.outs-zone l i)))

            held : Hold results ws final
            held = hold-same results ws s' final (λ l i. let q = no_end l i in plain l q.0 q.1) X.gives

            dec-between : (m k l : ℕ) → Dec (Between m k l)
            dec-between m k l = go (dec_lt l m) (dec_lt l (m + k))
              where
                go : Dec (l < m) → Dec (l < m + k) → Dec (Between m k l)
                go (yes p) d = no (λ w. omega arith)
                go (no p) (yes q) = yes (omega arith, omega arith)
                go (no p) (no q) = no (λ w. omega arith)

            dec-inner : (l : ℕ) → Dec (Between n (links_of g) l) → Dec (Between (registers + n) (links_of g) l) → Dec (Inner l)
            dec-inner l (yes o) d = yes (inl o)
            dec-inner l (no o) (yes r) = yes (inr r)
            dec-inner l (no o) (no r) = no (λ i. ⊎_elim o r i)

            rest : (l : ℕ) → (In l results → ⊥) → put τ b l ≡ final l
            rest l no-out = go (ℕ_discrete l source) (ℕ_discrete l credit) (dec-inner l (dec-between n (links_of g) l) (dec-between (registers + n) (links_of g) l))
              where
                go : Dec (l ≡ source) → Dec (l ≡ credit) → Dec (Inner l) → put τ b l ≡ final l
                go (yes e) d (yes i) = absurd (inner-no-source l i e)
                go (yes e) d (no i) = τ-there b l i ∙ ap b e ∙ sym (ap final e ∙ set_same source (b source) (set_link credit (b credit) s'))
                go (no e) (yes c) (yes i) = absurd (inner-no-credit l i c)
                go (no e) (yes c) (no i) =
                    τ-there b l i ∙ ap b c ∙ sym (set_other source l (b source) (set_link credit (b credit) s') e ∙ ap (set_link credit (b credit) s') c ∙ set_same credit (b credit) s')
                go (no e) (no c) (yes i) = τ-here b l i no-out ∙ sym (plain l e c)
                go (no e) (no c) (no i) = τ-there b l i ∙ cl l (in-region l e c) ∙ sym (plain l e c ∙ rest-empty l i no-out)

    -- The whole graph has the schedule lemma as the pieces state it, for every meaning with which its layout has it.
    pub whole-serves : (net : Net) (M : Values → ℕ → Answer → Type 0) → Serves net plan M → Unused net.at source → Unused net.at credit →
        Pieces.Serves net whole (from-inputs M)
    whole-serves net M S Us Uc vs c a y σ I = go a (S (ρ vs σ I) c a y (s₀ vs σ I) (before vs σ I))
      where
        go : (a : Answer) → Leads net plan (s₀ vs σ I) c a → Pieces.Leads net (Region whole) (load inputs vs ++ σ) results Idle-load c a
        go none L = λ b cl.
            subst (λ q. Long net q c) (sym (based vs σ I b cl))
            (long-beside net source Us (b source) (set_link credit (b credit) (s₀ vs σ I)) c (long-beside net credit Uc (b credit) (s₀ vs σ I) c L))
        go (some ws) (s', t, X) =
            let one : Single s' = steps-single net (s₀ vs σ I) s' c t (put-single (load inputs vs ++ σ) bare-state (λ l. omega arith)) in (
              τ vs σ I ws s' X one,
              idle-again vs σ I ws s' X one,
              λ b cl.
                  subst (λ q. Steps net q c (put (load results ws ++ τ vs σ I ws s' X one) b)) (sym (based vs σ I b cl))
                  (subst (Steps net (set_link source (b source) (set_link credit (b credit) (s₀ vs σ I))) c) (ended vs σ I ws s' X one b cl)
                  (steps-beside net source Us (b source) (set_link credit (b credit) (s₀ vs σ I)) (set_link credit (b credit) s') c (steps-beside net credit Uc (b credit) (s₀ vs σ I) s' c t))),
            )
