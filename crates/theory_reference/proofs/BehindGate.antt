-- A graph with a gate behind its outputs: nothing comes to the gate and it rests, or it fires once by the table of rules.
use Rattle.std.specs.Prelude.{ℕ, zero, suc, ◌+◌, ◌≤◌, ◌<◌, ◌≡◌, ◌⊎◌, true, false, List, [], ◌∷◌, length}
use Rattle.std.proofs.Math.Path.{refl, ap}
use Rattle.std.proofs.Common.{◌∙◌, inl, inr, ⊎_elim}
use Rattle.std.proofs.Math.Option.{Option, none, some}
use Rattle.std.proofs.Math.Decide.{ℕ_discrete, dec_lt}
use native.Mathlib.Omega.{arith}
use Rattle.value.specs.declared.Value.{Value}
use Rattle.names.specs.Names.{Names}
use Rattle.network.specs.Rules.{Kind, Register}
use Rattle.network.specs.Net.{Links}
use Rattle.network.specs.Fill.{remembering}
use Rattle.network.specs.Decide.{Decision, decide}
use Rattle.network.specs.Uses.{In}
use Rattle.theory_pieces.specs.Load.{set_link}
use Rattle.theory_pieces.proofs.Load.{set_same, set_other}
use Rattle.theory_pieces.specs.Goes.{Net}
use Rattle.theory_pieces.proofs.Goes.{Steps, steps_then}
use Rattle.theory_pieces.specs.Sets.{Different}
use Rattle.theory_pieces.proofs.Rows.{dec-in}
use Rattle.graph.specs.Assembly.{Gate, const, oper, T, F, M, E, IC, Env, gate_outputs, gate_of, made, up_from}
use Rattle.graph.specs.Yields.{Values, Answer, kind_of, held_by, waiting, TakesAll, given, absent, Fires, rests, fires, Gated, stops, ends}
use Rattle.theory_reference.specs.Plugged.{nowhere}
use Rattle.theory_reference.proofs.Plugged.{Somewhere}
use Rattle.theory_reference.specs.Plan.{tokens, Hold, Between, Plan, Own, Register as RegisterOf, Zone, Control, Outside, Sound, Ready, Before, After}
use Rattle.theory_reference.proofs.Plan.{Leads, Serves, fewer, ready-same}
use Rattle.theory_reference.proofs.NameRows.{Works}
use Rattle.theory_reference.specs.GateFiring.{emptied}
use Rattle.theory_reference.proofs.GateFiring.{emptied-here, emptied-there, gate-fires}

-- The links from n on.
pub in-up_from : (n k l : ℕ) → In l (up_from n k) → Between n k l
unfolding up_from
in-up_from n zero l i = absurd i
in-up_from n (suc k) l (inl e) = (omega arith, omega arith)
in-up_from n (suc k) l (inr i) = let h = in-up_from (suc n) k l i in (omega arith, omega arith)

pub up_from-in : (n k l : ℕ) → Between n k l → In l (up_from n k)
unfolding up_from
up_from-in n zero l b = absurd (omega arith)
up_from-in n (suc k) l b = go (ℕ_discrete l n) (λ c. up_from-in (suc n) k l c)
  where
    go : Dec (l ≡ n) → (Between (suc n) k l → In l (up_from (suc n) k)) → (l ≡ n) ⊎ In l (up_from (suc n) k)
    go (yes e) ih = inl e
    go (no e) ih = inr (ih (omega arith, omega arith))

pub up_from-differ : (n k : ℕ) → Different (up_from n k)
unfolding up_from
up_from-differ n zero = tt
up_from-differ n (suc k) = (λ i. let h = in-up_from (suc n) k n i in omega arith, up_from-differ (suc n) k)

pub up_from-length : (n k : ℕ) → length (up_from n k) ≡ k
unfolding up_from
up_from-length n zero = refl
up_from-length n (suc k) = ap suc (up_from-length (suc n) k)

pub hold-absent : (n k : ℕ) (s : Links) → ((l : ℕ) → Between n k l → s l ≡ []) → Hold (up_from n k) (absent k) s
unfolding up_from
hold-absent n zero s e = tt
hold-absent n (suc k) s e = (e n (omega arith, omega arith), hold-absent (suc n) k s (λ l b. e l (omega arith, omega arith)))

pub absent-empty : (ls : List ℕ) (k : ℕ) (s : Links) → Hold ls (absent k) s → (l : ℕ) → In l ls → s l ≡ []
absent-empty [] k s h l i = absurd i
absent-empty (m ∷ ls) zero s h l i = absurd h
absent-empty (m ∷ ls) (suc k) s h l (inl e) = ap s e ∙ h.0
absent-empty (m ∷ ls) (suc k) s h l (inr i) = absent-empty ls k s h.1 l i

-- What one firing does, for every gate.
module _ (net : Net) (ins : List ℕ) (vs : List (Option Value)) (d : Decision) (s : Links) (o : ℕ) (few : length ins ≤ 3) (held : Hold ins vs s) (differ : Different ins)
    (void : s nowhere ≡ []) (low : (l : ℕ) → In l ins → l < o) (t : TakesAll vs d) where
  abbrev Does : ℕ → List (Option Value) → Type 0
  Does k ws = Works net (λ l. In l ins ⊎ Between o k l) 1 (λ s'. Hold (up_from o k) ws s' × ((l : ℕ) → In l ins → s' l ≡ [])) s

  r : Links
  r = emptied ins s

  fresh : (l : ℕ) → o ≤ l → s l ≡ [] → r l ≡ []
  unfolding r
  fresh l le e = emptied-there ins s l (λ i. let q = low l i in omega arith) ∙ e

  one-output : (k : Kind) (g : Register) → remembering k ≡ false → Somewhere net (made k g ins (some o) none none) → ((l : ℕ) → Between o 1 l → s l ≡ []) → decide k g (waiting vs) ≡ some d →
      Does 1 (d.give1 ∷ [])
  unfolding r up_from
  one-output k g plain at dry e = (
    set_link o (tokens d.give1) r,
    gate-fires net k g (some o) none none ins vs d s plain at few held differ void e t (fresh o (omega arith) (dry o (omega arith, omega arith))) tt tt,
    ((set_same o (tokens d.give1) r, tt), λ l i. set_other o l (tokens d.give1) r (λ z. let q = low l i in omega arith) ∙ emptied-here ins s l i),
    λ l n. set_other o l (tokens d.give1) r (λ z. n (inr (omega arith, omega arith))) ∙ emptied-there ins s l (λ i. n (inl i)),
  )

  two-outputs : (k : Kind) (g : Register) → remembering k ≡ false → Somewhere net (made k g ins (some o) none (some (o + 1))) → ((l : ℕ) → Between o 2 l → s l ≡ []) → decide k g (waiting vs) ≡ some d →
      Does 2 (d.give1 ∷ d.give3 ∷ [])
  unfolding r up_from
  two-outputs k g plain at dry e = (
    q₂,
    gate-fires net k g (some o) none (some (o + 1)) ins vs d s plain at few held differ void e t (fresh o (omega arith) (dry o (omega arith, omega arith))) tt
        (set_other o (o + 1) (tokens d.give1) r (omega arith) ∙ fresh (o + 1) (omega arith) (dry (o + 1) (omega arith, omega arith))),
    (
      (set_other (o + 1) o (tokens d.give3) q₁ (omega arith) ∙ set_same o (tokens d.give1) r, (ap q₂ up ∙ set_same (o + 1) (tokens d.give3) q₁, tt)),
      λ l i. let q = low l i in set_other (o + 1) l (tokens d.give3) q₁ (omega arith) ∙ set_other o l (tokens d.give1) r (omega arith) ∙ emptied-here ins s l i,
    ),
    λ l n. set_other (o + 1) l (tokens d.give3) q₁ (λ z. n (inr (omega arith, omega arith))) ∙ set_other o l (tokens d.give1) r (λ z. n (inr (omega arith, omega arith)))
        ∙ emptied-there ins s l (λ i. n (inl i)),
  )
    where
      q₁ : Links
      q₁ = set_link o (tokens d.give1) r

      q₂ : Links
      q₂ = set_link (o + 1) (tokens d.give3) q₁

      up : suc o ≡ o + 1
      up = omega arith

  three-outputs : (k : Kind) (g : Register) → remembering k ≡ false → Somewhere net (made k g ins (some o) (some (o + 1)) (some (o + 2))) → ((l : ℕ) → Between o 3 l → s l ≡ []) →
      decide k g (waiting vs) ≡ some d → Does 3 (d.give1 ∷ d.give2 ∷ d.give3 ∷ [])
  unfolding r up_from
  three-outputs k g plain at dry e = (
    q₃,
    gate-fires net k g (some o) (some (o + 1)) (some (o + 2)) ins vs d s plain at few held differ void e t (fresh o (omega arith) (dry o (omega arith, omega arith)))
        (set_other o (o + 1) (tokens d.give1) r (omega arith) ∙ fresh (o + 1) (omega arith) (dry (o + 1) (omega arith, omega arith)))
        (set_other (o + 1) (o + 2) (tokens d.give2) q₁ (omega arith) ∙ set_other o (o + 2) (tokens d.give1) r (omega arith) ∙ fresh (o + 2) (omega arith) (dry (o + 2) (omega arith, omega arith))),
    (
      (
        set_other (o + 2) o (tokens d.give3) q₂ (omega arith) ∙ set_other (o + 1) o (tokens d.give2) q₁ (omega arith) ∙ set_same o (tokens d.give1) r,
        (
          ap q₃ up ∙ set_other (o + 2) (o + 1) (tokens d.give3) q₂ (omega arith) ∙ set_same (o + 1) (tokens d.give2) q₁,
          (ap q₃ upper ∙ set_same (o + 2) (tokens d.give3) q₂, tt),
        ),
      ),
      λ l i. let q = low l i in set_other (o + 2) l (tokens d.give3) q₂ (omega arith) ∙ set_other (o + 1) l (tokens d.give2) q₁ (omega arith) ∙ set_other o l (tokens d.give1) r (omega arith)
          ∙ emptied-here ins s l i,
    ),
    λ l n. set_other (o + 2) l (tokens d.give3) q₂ (λ z. n (inr (omega arith, omega arith))) ∙ set_other (o + 1) l (tokens d.give2) q₁ (λ z. n (inr (omega arith, omega arith)))
        ∙ set_other o l (tokens d.give1) r (λ z. n (inr (omega arith, omega arith))) ∙ emptied-there ins s l (λ i. n (inl i)),
  )
    where
      q₁ : Links
      q₁ = set_link o (tokens d.give1) r

      q₂ : Links
      q₂ = set_link (o + 1) (tokens d.give2) q₁

      q₃ : Links
      q₃ = set_link (o + 2) (tokens d.give3) q₂

      up : suc o ≡ o + 1
      up = omega arith

      upper : suc (suc o) ≡ o + 2
      upper = omega arith

  pub gate-does : (g : Gate) → Somewhere net (gate_of g ins o) → ((l : ℕ) → Between o (gate_outputs g) l → s l ≡ []) → decide (kind_of g) (held_by g) (waiting vs) ≡ some d → Does (gate_outputs g) (given g d)
  unfolding gate_of gate_outputs
  gate-does (const v) at dry e = one-output (kind_of (const v)) (some v) refl at dry e
  gate-does (oper k) at dry e = one-output (kind_of (oper k)) none refl at dry e
  gate-does T at dry e = one-output (kind_of T) none refl at dry e
  gate-does F at dry e = one-output (kind_of F) none refl at dry e
  gate-does M at dry e = one-output (kind_of M) none refl at dry e
  gate-does E at dry e = one-output (kind_of E) none refl at dry e
  gate-does (IC true) at dry e = three-outputs (kind_of (IC true)) none refl at dry e
  gate-does (IC false) at dry e = two-outputs (kind_of (IC false)) none refl at dry e

module _ (g : Gate) (f : Names) (n ka : ℕ) (env : Env) (ins : List ℕ) (Ra : ℕ → ℕ → Type 0) where
  abbrev k : ℕ
  k = gate_outputs g

  abbrev pub Fore : Plan
  Fore = record { names = f; start = n; size = ka; env = env; outs = ins; Ring = Ra }

  abbrev pub Behind : Plan
  Behind = record { names = f; start = n; size = ka + gate_outputs g; env = env; outs = up_from (n + ka) (gate_outputs g); Ring = Ra }

  module _ (SA : Sound Fore) (fits : n + (ka + gate_outputs g) ≤ nowhere) where
    pub gate-sound : Sound Behind
    gate-sound =
        record {
          envs = SA.envs;
          fits = fits;
          outs-zone = λ l i. let b = in-up_from (n + ka) k l i in inl (omega arith, omega arith);
          outs-differ = up_from-differ (n + ka) k;
          ring-own = λ c r x. let o = SA.ring-own c r x in ((omega arith, omega arith), (omega arith, omega arith));
          ring-off = λ c r x i. let o = SA.ring-own c r x in let b = in-up_from (n + ka) k c i in omega arith;
        }

    low : (l : ℕ) → In l ins → l < n + ka
    low l i = go (SA.outs-zone l i)
      where
        go : Zone Fore l → l < n + ka
        go (inl o) = omega arith
        go (inr (x, e, z)) = let q = SA.envs.below x e in omega arith

    zone-cases : (l : ℕ) → Zone Behind l → Zone Fore l ⊎ Between (n + ka) k l
    zone-cases l (inr p) = inl (inr p)
    zone-cases l (inl o) = go (dec_lt l (n + ka))
      where
        go : Dec (l < n + ka) → Zone Fore l ⊎ Between (n + ka) k l
        go (yes h) = inl (inl (omega arith, omega arith))
        go (no h) = inr (omega arith, omega arith)

    outside-fore : (l : ℕ) → Outside Behind l → Outside Fore l
    outside-fore l u = record { not_own = λ o. u.not_own (omega arith, omega arith); not_register = λ o. u.not_register (omega arith, omega arith); not-port = u.not-port }

    behind-outside : (l : ℕ) → Between (n + ka) k l → Outside Fore l
    behind-outside l b =
        record { not_own = λ o. omega arith; not_register = λ o. omega arith; not-port = λ p. let q = SA.envs.below p.0 p.1 in let z = p.2 in omega arith }

    nowhere-outside : Outside Fore nowhere
    nowhere-outside =
        record { not_own = λ o. omega arith; not_register = λ o. omega arith; not-port = λ p. let q = SA.envs.below p.0 p.1 in let z = p.2 in omega arith }

    -- A register is no link.
    register-high : (l : ℕ) → RegisterOf Fore l → In l ins ⊎ Between (n + ka) k l → ⊥
    register-high l r (inl i) = let q = low l i in omega arith
    register-high l r (inr b) = omega arith

    module _ (few : length ins ≤ 3) (net : Net) (at : Somewhere net (gate_of g ins (n + ka))) (M : Values → ℕ → Answer → Type 0) (SM : Serves net Fore M) where
      module _ (ρ : Values) (s : Links) (bef : Before Behind ρ s) where
        control-low : (l : ℕ) → n + ka ≤ l → Control Behind l → ⊥
        control-low l le (r, x) = let o = SA.ring-own l r x in omega arith

        to-fore : Before Fore ρ s
        to-fore = record { laid = bef.laid; clear = λ l o c. bef.clear l (omega arith, omega arith) c; ready = bef.ready; void = bef.void }

        module _ (c : ℕ) (s₁ : Links) (st : Steps net s c s₁) (vs : List (Option Value)) (X : After Fore s s₁ vs) where
          behind-dry : (l : ℕ) → Between (n + ka) k l → s₁ l ≡ []
          behind-dry l b = X.same l (behind-outside l b) ∙ bef.clear l (omega arith, omega arith) (control-low l b.0)

          -- After the gate: what is neither input nor output of it is as it was.
          after-gate : (ws : List (Option Value)) (s₂ : Links) → Hold (up_from (n + ka) k) ws s₂ → ((l : ℕ) → In l ins → s₂ l ≡ []) →
              ((l : ℕ) → (In l ins ⊎ Between (n + ka) k l → ⊥) → s₂ l ≡ s₁ l) → After Behind s s₂ ws
          after-gate ws s₂ h e fr = record { gives = h; clear = clear; ready = ready; same = same }
            where
              clear : (l : ℕ) → Zone Behind l → (Control Behind l → ⊥) → (In l (up_from (n + ka) k) → ⊥) → s₂ l ≡ []
              clear l z c o = go (zone-cases l z) (dec-in l ins)
                where
                  away : In l ins ⊎ Between (n + ka) k l → (In l ins → ⊥) → ⊥
                  away (inl i) m = m i
                  away (inr b) m = o (up_from-in (n + ka) k l b)

                  go : Zone Fore l ⊎ Between (n + ka) k l → Dec (In l ins) → s₂ l ≡ []
                  go (inr b) d = absurd (o (up_from-in (n + ka) k l b))
                  go (inl y) (yes i) = e l i
                  go (inl y) (no i) = fr l (λ w. away w i) ∙ X.clear l y c i

              ready : (c r : ℕ) → Ra c r → Ready c r s₂
              ready c r x =
                  let o = SA.ring-own c r x in
                  ready-same c r s₁ s₂ (fr c (λ w. off w)) (fr r (register-high r o.1)) (X.ready c r x)
                where
                  off : In c ins ⊎ Between (n + ka) k c → ⊥
                  off (inl i) = SA.ring-off c r x i
                  off (inr b) = let o = SA.ring-own c r x in omega arith

              same : (l : ℕ) → Outside Behind l → s₂ l ≡ s l
              same l u = fr l away ∙ X.same l (outside-fore l u)
                where
                  away : In l ins ⊎ Between (n + ka) k l → ⊥
                  away (inl i) = ⊎_elim (λ (o : Own Fore l). u.not_own (omega arith, omega arith)) u.not-port (SA.outs-zone l i)
                  away (inr b) = u.not_own (omega arith, omega arith)

          fire : (ws : List (Option Value)) → Fires g vs ws → (s₂ : Links) × Steps net s c s₂ × After Behind s s₂ ws
          fire ws y = go y X.gives
            where
              go : {vs' ws : List (Option Value)} → Fires g vs' ws → Hold ins vs' s₁ → (s₂ : Links) × Steps net s c s₂ × After Behind s s₂ ws
              go (rests _ j) h =
                  (s₁, st, after-gate (absent k) s₁ (hold-absent (n + ka) k s₁ behind-dry) (absent-empty ins j s₁ h) (λ l w. refl))
              go (fires _ us d e t) h =
                  let w = gate-does net ins us d s₁ (n + ka) few h SA.outs-differ (X.same nowhere nowhere-outside ∙ bef.void) low t g at behind-dry e in
                  (w.0, fewer net s w.0 (c + 1) c (omega arith) (steps_then net s s₁ w.0 c 1 st w.1), after-gate (given g d) w.0 w.2.0 w.2.1 w.3)

        lead : (c : ℕ) (a : Answer) → Gated g (M ρ) c a → Leads net Behind s c a
        lead e b (stops c p) = SM ρ c none p s to-fore
        lead e b (ends c vs ws p y) = go (SM ρ c (some vs) p s to-fore)
          where
            go : Leads net Fore s c (some vs) → Leads net Behind s c (some ws)
            go (s₁, t, X) = fire c s₁ t vs X ws y

      pub gate-serves : Serves net Behind (λ ρ. Gated g (M ρ))
      gate-serves ρ c a y s bef = lead ρ s bef c a y
