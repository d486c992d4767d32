-- Two graphs side by side: the copies of the names that both use, then the first, then the second.
use Rattle.std.specs.Prelude.{ℕ, ◌+◌, ◌≤◌, ◌≡◌, refl, ◌⊎◌, List, [], ◌∷◌, ◌++◌}
use Rattle.std.proofs.Common.{◌∙◌, ap, inl, inr, ⊎_elim, arith}
use Rattle.std.proofs.Math.Option.{Option, none, some}
use Rattle.value.specs.declared.Value.{Value}
use Rattle.names.specs.Names.{Names, union}
use Rattle.network.specs.Net.{Links}
use Rattle.network.specs.Uses.{In}
use Rattle.theory_pieces.specs.Goes.{Net}
use Rattle.theory_pieces.proofs.Goes.{Steps, steps_then, steps-long}
use Rattle.theory_pieces.proofs.Rows.{in-front, in-back, in_app}
use Rattle.theory_pieces.specs.Sets.{Different}
use Rattle.graph.specs.Assembly.{Env, shared_links, second_use, sharing}
use Rattle.graph.specs.Yields.{Values, Answer, Beside, stops, goes_on, before}
use Rattle.theory_reference.proofs.NameSets.{and_left, or_left}
use Rattle.theory_reference.specs.Plugged.{nowhere}
use Rattle.theory_reference.proofs.Plugged.{Has}
use Rattle.theory_reference.specs.Plan.{Hold, Between, Plan, Own, Register, Zone, Control, Outside, Envs, Sound, Ready, Before, After}
use Rattle.theory_reference.proofs.Plan.{Leads, Serves, fewer, fewer-long, ready-same, hold-same, hold-both}
use Rattle.theory_reference.proofs.Sharing.{Split, split}
use Rattle.theory_reference.proofs.Parts as Parts

pub different-app : (xs ys : List ℕ) → Different xs → Different ys → ((l : ℕ) → In l xs → In l ys → ⊥) → Different (xs ++ ys)
different-app [] ys dx dy a = dy
different-app (x ∷ xs) ys dx dy a =
    (λ i. ⊎_elim dx.0 (λ (j : In x ys). a x (inl refl) j) (in_app x xs ys i), different-app xs ys dx.1 dy (λ l i j. a l (inr i) j))

-- What the copies leave of the state of the whole: each part's own links and registers are as they were.
module _ (f g : Names) (n ka kb : ℕ) (env : Env) (oa ob : List ℕ) (Ra RB : ℕ → ℕ → Type 0) (os : List ℕ) (E : Envs (union f g) env n) where
  abbrev A : Plan
  A = Parts.First f g n ka kb env oa ob Ra RB

  abbrev B : Plan
  B = Parts.Second f g n ka kb env oa ob Ra RB

  abbrev W : Plan
  W = Parts.Whole f g n ka kb env oa ob Ra RB os

  module _ (own-A : (c r : ℕ) → Ra c r → Own A c × Register A r) (own-B : (c r : ℕ) → RB c r → Own B c × Register B r)
      (fits : n + (shared_links f g + (ka + kb)) ≤ nowhere) (net : Net) (H : Has net (sharing f g n env)) (ρ : Values) (s : Links) (bef : Before W ρ s) where
    first-control : (l : ℕ) → Own A l → (Control A l → ⊥) → Control W l → ⊥
    first-control l o n (r, inl k) = n (r, k)
    first-control l o n (r, inr k) = omega (arith, (own-B l r k).0)

    second-control : (l : ℕ) → Own B l → (Control B l → ⊥) → Control W l → ⊥
    second-control l o n (r, inl k) = omega (arith, (own-A l r k).0)
    second-control l o n (r, inr k) = n (r, k)

    pub copy-control : (l : ℕ) → Between n (shared_links f g) l → Control W l → ⊥
    copy-control l o (r, inl k) = omega (arith, (own-A l r k).0)
    copy-control l o (r, inr k) = omega (arith, (own-B l r k).0)

    pub copied : (s' : Links) × Split f g n env E net ρ s s'
    copied = split f g n env E net ρ s H bef.laid (λ l b. bef.clear l (omega arith, omega arith) (copy-control l b))

    -- the copies may have changed values: to those of ρ'
    module _ (ρ' : Values) (s₁ : Links) (S : Split f g n env E net ρ' s s₁) where
      -- beyond the copies nothing has changed
      pub beyond : (l : ℕ) → n + shared_links f g ≤ l → s₁ l ≡ s l
      beyond l le = S.same l (λ b. omega arith) (λ x e z. let q = E.below x (or_left (f x) (g x) (and_left (f x) (g x) e)) in omega arith)

      pub before-first : Before A ρ' s₁
      before-first =
          record {
            laid = S.first;
            clear = λ l o c. beyond l (omega arith) ∙ bef.clear l (omega arith, omega arith) (first-control l o c);
            ready = λ c r k. let o = own-A c r k in ready-same c r s s₁ (beyond c (omega arith)) (beyond r (omega arith)) (bef.ready c r (inl k));
            void = beyond nowhere (omega arith) ∙ bef.void;
          }

      -- the second part's own links, in a state that agrees there
      pub second-clear : (s₂ : Links) → ((l : ℕ) → Own B l → s₂ l ≡ s₁ l) → (l : ℕ) → Own B l → (Control B l → ⊥) → s₂ l ≡ []
      second-clear s₂ e l o c = e l o ∙ beyond l (omega arith) ∙ bef.clear l (omega arith, omega arith) (second-control l o c)

      pub second-ready : (s₂ : Links) → ((l : ℕ) → Own B l → s₂ l ≡ s₁ l) → ((l : ℕ) → Register B l → s₂ l ≡ s₁ l) → (c r : ℕ) → RB c r → Ready c r s₂
      second-ready s₂ e k c r x =
          let o = own-B c r x in
          ready-same c r s s₂ (e c o.0 ∙ beyond c (omega arith)) (k r o.1 ∙ beyond r (omega arith)) (bef.ready c r (inr x))

      pub untouched : (l : ℕ) → Outside W l → s₁ l ≡ s l
      untouched l u = S.same l (λ b. u.not_own (omega arith, omega arith)) (λ x e z. u.not-port (x, or_left (f x) (g x) (and_left (f x) (g x) e), z))

module _ (f g : Names) (n ka kb : ℕ) (env : Env) (oa ob : List ℕ) (Ra RB : ℕ → ℕ → Type 0) (E : Envs (union f g) env n) (fits : n + (shared_links f g + (ka + kb)) ≤ nowhere) where
  abbrev P : Plan
  P = Parts.First f g n ka kb env oa ob Ra RB

  abbrev Q : Plan
  Q = Parts.Second f g n ka kb env oa ob Ra RB

  abbrev Pair : Plan
  Pair = Parts.Whole f g n ka kb env oa ob Ra RB (oa ++ ob)

  module _ (SP : Sound P) (SQ : Sound Q) where
    abbrev os : List ℕ
    os = oa ++ ob

    pub beside-sound : Sound Pair
    beside-sound =
        record {
          envs = E;
          fits = fits;
          outs-zone = λ l i. ⊎_elim (λ (j : In l oa). Parts.first-in f g n ka kb env oa ob Ra RB os E l (SP.outs-zone l j))
              (λ (j : In l ob). Parts.second-in f g n ka kb env oa ob Ra RB os E l (SQ.outs-zone l j)) (in_app l oa ob i);
          outs-differ = different-app oa ob SP.outs-differ SQ.outs-differ (λ l i j. Parts.zones-apart f g n ka kb env oa ob Ra RB os E l (SP.outs-zone l i) (SQ.outs-zone l j));
          ring-own = own;
          ring-off = off;
        }
      where
        own : (c r : ℕ) → Ra c r ⊎ RB c r → Own Pair c × Register Pair r
        own c r (inl k) = let o = SP.ring-own c r k in ((omega arith, omega arith), (omega arith, omega arith))
        own c r (inr k) = let o = SQ.ring-own c r k in ((omega arith, omega arith), (omega arith, omega arith))

        off : (c r : ℕ) → Ra c r ⊎ RB c r → In c (oa ++ ob) → ⊥
        off c r (inl k) i =
            ⊎_elim (SP.ring-off c r k) (λ (j : In c ob). Parts.zones-apart f g n ka kb env oa ob Ra RB os E c (inl (SP.ring-own c r k).0) (SQ.outs-zone c j)) (in_app c oa ob i)
        off c r (inr k) i =
            ⊎_elim (λ (j : In c oa). Parts.zones-apart f g n ka kb env oa ob Ra RB os E c (SP.outs-zone c j) (inl (SQ.ring-own c r k).0)) (SQ.ring-off c r k) (in_app c oa ob i)

    module _ (net : Net) (H : Has net (sharing f g n env)) (M N : Values → ℕ → Answer → Type 0) (SM : Serves net P M) (SN : Serves net Q N) where
      module _ (ρ : Values) (s : Links) (bef : Before Pair ρ s) (s₁ : Links) (S : Split f g n env E net ρ s s₁) where
        to-first : Before P ρ s₁
        to-first = before-first f g n ka kb env oa ob Ra RB os E SP.ring-own SQ.ring-own fits net H ρ s bef ρ s₁ S

        module _ (s₂ : Links) (vs : List (Option Value)) (X : After P s₁ s₂ vs) where
          own_same : (l : ℕ) → Zone Q l → s₂ l ≡ s₁ l
          own_same l z = X.same l (Parts.second-outside f g n ka kb env oa ob Ra RB os E fits l z)

          register-same : (l : ℕ) → Register Q l → s₂ l ≡ s₁ l
          register-same l z = X.same l (Parts.second-register-outside f g n ka kb env oa ob Ra RB os E fits l z)

          to-second : Before Q ρ s₂
          to-second =
              record {
                laid = λ x e. own_same (second_use f g n env x) (inr (x, e, refl)) ∙ S.second x e;
                clear = second-clear f g n ka kb env oa ob Ra RB os E SP.ring-own SQ.ring-own fits net H ρ s bef ρ s₁ S s₂ (λ l o. own_same l (inl o));
                ready = second-ready f g n ka kb env oa ob Ra RB os E SP.ring-own SQ.ring-own fits net H ρ s bef ρ s₁ S s₂ (λ l o. own_same l (inl o)) register-same;
                void = X.same nowhere (Parts.nowhere-outside-first f g n ka kb env oa ob Ra RB os E fits) ∙ to-first.void;
              }

          module _ (s₃ : Links) (ws : List (Option Value)) (Y : After Q s₂ s₃ ws) where
            both : After Pair s s₃ (vs ++ ws)
            both = record { gives = hold-both oa ob vs ws s₃ held Y.gives; clear = clear; ready = ready; same = same }
              where
                kept : (l : ℕ) → Zone P l → s₃ l ≡ s₂ l
                kept l z = Y.same l (Parts.first-outside f g n ka kb env oa ob Ra RB os E fits l z)

                held : Hold oa vs s₃
                held = hold-same oa vs s₂ s₃ (λ l i. kept l (SP.outs-zone l i)) X.gives

                clear : (l : ℕ) → Zone Pair l → (Control Pair l → ⊥) → (In l (oa ++ ob) → ⊥) → s₃ l ≡ []
                clear l z c o = go (Parts.zone-cases f g n ka kb env oa ob Ra RB os E l z)
                  where
                    go : Parts.Spent f g n ka kb env oa ob Ra RB os E l ⊎ (Zone P l ⊎ Zone Q l) → s₃ l ≡ []
                    go (inl (x, e, y)) =
                        Y.same l (Parts.spent-outside-second f g n ka kb env oa ob Ra RB os E fits l (x, e, y))
                        ∙ X.same l (Parts.spent-outside-first f g n ka kb env oa ob Ra RB os E fits l (x, e, y)) ∙ ap s₁ y ∙ S.emptied x e
                    go (inr (inl y)) = kept l y ∙ X.clear l y (λ k. c (k.0, inl k.1)) (λ i. o (in-front l oa ob i))
                    go (inr (inr y)) = Y.clear l y (λ k. c (k.0, inr k.1)) (λ i. o (in-back l oa ob i))

                ready : (c r : ℕ) → Ra c r ⊎ RB c r → Ready c r s₃
                ready c r (inl k) =
                    let w = SP.ring-own c r k in
                    ready-same c r s₂ s₃ (kept c (inl w.0)) (Y.same r (Parts.first-register-outside f g n ka kb env oa ob Ra RB os E fits r w.1)) (X.ready c r k)
                ready c r (inr k) = Y.ready c r k

                same : (l : ℕ) → Outside Pair l → s₃ l ≡ s l
                same l u =
                    Y.same l (Parts.outside-second f g n ka kb env oa ob Ra RB os E l u) ∙ X.same l (Parts.outside-first f g n ka kb env oa ob Ra RB os E l u)
                    ∙ untouched f g n ka kb env oa ob Ra RB os E SP.ring-own SQ.ring-own fits net H ρ s bef ρ s₁ S l u

          lead-second : (c d : ℕ) → Steps net s₁ c s₂ → (a : Answer) → Leads net Q s₂ d a → Leads net Pair s (c + d) (before vs a)
          lead-second c d t none L =
              fewer-long net s (0 + (c + d)) (c + d) (omega arith) (steps-long net s s₁ 0 (c + d) S.steps (steps-long net s₁ s₂ c d t L))
          lead-second c d t (some ws) (s₃, u, Y) =
              (s₃, fewer net s s₃ (0 + (c + d)) (c + d) (omega arith) (steps_then net s s₁ s₃ 0 (c + d) S.steps (steps_then net s₁ s₂ s₃ c d t u)), both s₃ ws Y)

        lead-first : (c d : ℕ) (vs : List (Option Value)) (a : Answer) → N ρ d a → Leads net P s₁ c (some vs) → Leads net Pair s (c + d) (before vs a)
        lead-first c d vs a y (s₂, t, X) = lead-second s₂ vs X c d t a (SN ρ d a y s₂ (to-second s₂ vs X))

        lead : (c : ℕ) (a : Answer) → Beside (M ρ) (N ρ) c a → Leads net Pair s c a
        lead e b (stops c p) = fewer-long net s (0 + c) c (omega arith) (steps-long net s s₁ 0 c S.steps (SM ρ c none p s₁ to-first))
        lead e b (goes_on c d vs a p y) = lead-first c d vs a y (SM ρ c (some vs) p s₁ to-first)

      pub beside-serves : Serves net Pair (λ ρ. Beside (M ρ) (N ρ))
      beside-serves ρ c a y s bef =
          let k = copied f g n ka kb env oa ob Ra RB os E SP.ring-own SQ.ring-own fits net H ρ s bef in
          lead ρ s bef k.0 k.1 c a y
