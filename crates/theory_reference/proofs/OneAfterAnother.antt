-- One graph after another, its outputs bound to names of the second: the copies of the names that both use, then the first, then the
-- second. Every bound name is used by the second, so nothing stays behind on an output of the first.
use Rattle.std.specs.Prelude.{ℕ, ◌+◌, ◌≤◌, ◌<◌, ◌≡◌, refl, ◌⊎◌, true, false, List, [], length}
use Rattle.std.proofs.Common.{sym, ◌∙◌, ap, subst, inl, inr, ⊎_elim, arith}
use Rattle.std.proofs.Math.Option.{Option, none, some}
use Rattle.value.specs.declared.Value.{Value}
use Rattle.names.specs.Names.{Names, union, without}
use Rattle.network.specs.Net.{Links}
use Rattle.network.specs.Uses.{In}
use Rattle.theory_pieces.specs.Goes.{Net}
use Rattle.theory_pieces.proofs.Goes.{Steps, steps_then, steps-long}
use Rattle.theory_pieces.proofs.Rows.{dec-in}
use Rattle.graph.specs.Assembly.{Env, name_count, member_of, named, shared_links, second_use, sharing}
use Rattle.graph.specs.Yields.{Values, Answer, bound, Sequel, stops, goes_on}
use Rattle.graph.specs.Fit.{Different as DifferentNames}
use Rattle.theory_reference.proofs.NameSets.{either, or_right, without_in, without-here, without-there}
use Rattle.theory_reference.specs.Plugged.{nowhere}
use Rattle.theory_reference.proofs.Plugged.{Has}
use Rattle.theory_reference.specs.Plan.{tokens, Plan, Own, Register, Port, Zone, Control, Outside, Envs, Sound, Ready, Before, After}
use Rattle.theory_reference.proofs.Plan.{Leads, Serves, fewer, fewer-long, ready-same}
use Rattle.theory_reference.proofs.Sharing.{Split, Changes, split-over, envs-second}
use Rattle.theory_reference.proofs.Parts as Parts
use Rattle.theory_reference.proofs.SideBySide as Copied
use Rattle.theory_reference.proofs.Binding.{named-others, named_in, named-differ, named-onto, names-small, bound-others, named-holds}

-- f and h are the names of the two parts, ns the names that the second part gets from the first.
module _ (ns : List ℕ) (f h : Names) (n ka kb : ℕ) (env : Env) (oa ob : List ℕ) (Ra RB : ℕ → ℕ → Type 0) where
  abbrev pub outer : Names
  outer = without h (member_of ns)

  abbrev pub Maker : Plan
  Maker = Parts.First f outer n ka kb env oa ob Ra RB

  -- the second part, but for the names that it gets from the first
  abbrev Rest : Plan
  Rest = Parts.Second f outer n ka kb env oa ob Ra RB

  abbrev pub User : Plan
  User =
      record {
        names = h;
        start = n + shared_links f outer + ka;
        size = kb;
        env = named ns oa (second_use f outer n env);
        outs = ob;
        Ring = RB;
      }

  abbrev pub Bound : Plan
  Bound = Parts.Whole f outer n ka kb env oa ob Ra RB ob

  module _ (E : Envs (union f outer) env n) (fits : n + (shared_links f outer + (ka + kb)) ≤ nowhere) (SA : Sound Maker)
      (many : length oa ≡ length ns) (DN : DifferentNames ns) (used : (x : ℕ) → member_of ns x ≡ true → h x ≡ true) where
    abbrev link : Env
    link = named ns oa (second_use f outer n env)

    handed : (x : ℕ) → member_of ns x ≡ true → In (link x) oa
    handed x e = named_in ns oa (second_use f outer n env) x (omega arith) e

    kept-name : (x : ℕ) → h x ≡ true → member_of ns x ≡ false → (outer x ≡ true) × (link x ≡ second_use f outer n env x)
    kept-name x e k = (without_in h (member_of ns) x e k, named-others ns oa (second_use f outer n env) x k)

    -- The second part's zone is the rest of it and the first part's outputs.
    user-zone : (l : ℕ) → Zone User l → In l oa ⊎ Zone Rest l
    user-zone l (inl o) = inr (inl o)
    user-zone l (inr (x, e, z)) = go (either (member_of ns x))
      where
        go : (member_of ns x ≡ true) ⊎ (member_of ns x ≡ false) → In l oa ⊎ Zone Rest l
        go (inl k) = inl (subst (λ j. In j oa) (sym z) (handed x k))
        go (inr k) = let w = kept-name x e k in inr (inr (x, w.0, z ∙ w.1))

    rest-zone : (l : ℕ) → Zone Rest l → Zone User l
    rest-zone l (inl o) = inl o
    rest-zone l (inr (x, e, z)) =
        inr (x, without-here h (member_of ns) x e, z ∙ sym (named-others ns oa (second_use f outer n env) x (without-there h (member_of ns) x e)))

    output-port : (l : ℕ) → In l oa → Port User l
    output-port l i =
        let w = named-onto ns oa (second_use f outer n env) l many DN i in
        (w.0, used w.0 w.1, w.2)

    outside-user : (l : ℕ) → Outside Rest l → (In l oa → ⊥) → Outside User l
    outside-user l u no-out =
        record { not_own = u.not_own; not_register = u.not_register; not-port = λ p. ⊎_elim no-out (λ (z : Zone Rest l). ⊎_elim u.not_own u.not-port z) (user-zone l (inr p)) }

    made-apart : (l : ℕ) → In l oa → Zone Rest l → ⊥
    made-apart l i z = Parts.zones-apart f outer n ka kb env oa ob Ra RB ob E l (SA.outs-zone l i) z

    -- The links of the second part's names.
    pub user-envs : Envs h link (n + shared_links f outer + ka)
    user-envs =
        record {
          below = λ x e. below x e (either (member_of ns x));
          differ = λ x y a b e. differ x y a b e (either (member_of ns x)) (either (member_of ns y));
          small = λ x e. small x e (either (member_of ns x));
        }
      where
        low : (l : ℕ) → Zone Maker l → l < n + shared_links f outer + ka
        low l (inl o) = omega arith
        low l (inr (x, e, z)) = let q = SA.envs.below x e in omega arith

        below : (x : ℕ) → h x ≡ true → (member_of ns x ≡ true) ⊎ (member_of ns x ≡ false) → link x < n + shared_links f outer + ka
        below x e (inl k) = low (link x) (SA.outs-zone (link x) (handed x k))
        below x e (inr k) = let w = kept-name x e k in let q = (envs-second f outer n env E).below x w.0 in omega (arith, w.1)

        differ : (x y : ℕ) → h x ≡ true → h y ≡ true → link x ≡ link y → (member_of ns x ≡ true) ⊎ (member_of ns x ≡ false) → (member_of ns y ≡ true) ⊎ (member_of ns y ≡ false) → x ≡ y
        differ x y a b e (inl k) (inl m) = named-differ ns oa (second_use f outer n env) x y (omega arith) SA.outs-differ k m e
        differ x y a b e (inl k) (inr m) = let w = kept-name y b m in absurd (made-apart (link x) (handed x k) (inr (y, w.0, e ∙ w.1)))
        differ x y a b e (inr k) (inl m) = let w = kept-name x a k in absurd (made-apart (link y) (handed y m) (inr (x, w.0, sym e ∙ w.1)))
        differ x y a b e (inr k) (inr m) =
            let w = kept-name x a k in
            let v = kept-name y b m in
            (envs-second f outer n env E).differ x y w.0 v.0 (sym w.1 ∙ e ∙ v.1)

        small : (x : ℕ) → h x ≡ true → (member_of ns x ≡ true) ⊎ (member_of ns x ≡ false) → x < name_count
        small x e (inl k) = names-small ns x DN k
        small x e (inr k) = E.small x (or_right (f x) (outer x) (kept-name x e k).0)

    module _ (SB : Sound User) where
      pub bind-sound : Sound Bound
      bind-sound =
          record {
            envs = E;
            fits = fits;
            outs-zone = λ l i. ⊎_elim (λ (j : In l oa). Parts.first-in f outer n ka kb env oa ob Ra RB ob E l (SA.outs-zone l j))
                (λ (z : Zone Rest l). Parts.second-in f outer n ka kb env oa ob Ra RB ob E l z) (user-zone l (SB.outs-zone l i));
            outs-differ = SB.outs-differ;
            ring-own = own;
            ring-off = off;
          }
        where
          own : (c r : ℕ) → Ra c r ⊎ RB c r → Own Bound c × Register Bound r
          own c r (inl k) = let o = SA.ring-own c r k in ((omega arith, omega arith), (omega arith, omega arith))
          own c r (inr k) = let o = SB.ring-own c r k in ((omega arith, omega arith), (omega arith, omega arith))

          off : (c r : ℕ) → Ra c r ⊎ RB c r → In c ob → ⊥
          off c r (inl k) i =
              ⊎_elim (SA.ring-off c r k) (λ (z : Zone Rest c). Parts.zones-apart f outer n ka kb env oa ob Ra RB ob E c (inl (SA.ring-own c r k).0) z) (user-zone c (SB.outs-zone c i))
          off c r (inr k) i = SB.ring-off c r k i

      module _ (net : Net) (H : Has net (sharing f outer n env)) (M N : Values → ℕ → Answer → Type 0) (SM : Serves net Maker M) (SN : Serves net User N) where
        module _ (ρ₀ ρ : Values) (s : Links) (bef : Before Bound ρ₀ s) (s₁ : Links) (S : Split f outer n env E net ρ s s₁) where
          to-maker : Before Maker ρ s₁
          to-maker = Copied.before-first f outer n ka kb env oa ob Ra RB ob E SA.ring-own SB.ring-own fits net H ρ₀ s bef ρ s₁ S

          module _ (s₂ : Links) (vs : List (Option Value)) (X : After Maker s₁ s₂ vs) where
            rest-same : (l : ℕ) → Zone Rest l → s₂ l ≡ s₁ l
            rest-same l z = X.same l (Parts.second-outside f outer n ka kb env oa ob Ra RB ob E fits l z)

            register-same : (l : ℕ) → Register Rest l → s₂ l ≡ s₁ l
            register-same l z = X.same l (Parts.second-register-outside f outer n ka kb env oa ob Ra RB ob E fits l z)

            laid-user : (x : ℕ) → h x ≡ true → (member_of ns x ≡ true) ⊎ (member_of ns x ≡ false) → s₂ (link x) ≡ tokens (bound ns vs ρ x)
            laid-user x e (inl k) = named-holds ns oa vs (second_use f outer n env) ρ s₂ x (omega arith) X.gives k
            laid-user x e (inr k) =
                let w = kept-name x e k in
                ap s₂ w.1 ∙ rest-same (second_use f outer n env x) (inr (x, w.0, refl)) ∙ S.second x w.0 ∙ ap tokens (sym (bound-others ns vs ρ x k))

            to-user : Before User (bound ns vs ρ) s₂
            to-user =
                record {
                  laid = λ x e. laid-user x e (either (member_of ns x));
                  clear = Copied.second-clear f outer n ka kb env oa ob Ra RB ob E SA.ring-own SB.ring-own fits net H ρ₀ s bef ρ s₁ S s₂ (λ l o. rest-same l (inl o));
                  ready = Copied.second-ready f outer n ka kb env oa ob Ra RB ob E SA.ring-own SB.ring-own fits net H ρ₀ s bef ρ s₁ S s₂ (λ l o. rest-same l (inl o)) register-same;
                  void = X.same nowhere (Parts.nowhere-outside-first f outer n ka kb env oa ob Ra RB ob E fits) ∙ to-maker.void;
                }

            module _ (s₃ : Links) (ws : List (Option Value)) (Y : After User s₂ s₃ ws) where
              both : After Bound s s₃ ws
              both = record { gives = Y.gives; clear = clear; ready = ready; same = same }
                where
                  kept : (l : ℕ) → Zone Maker l → (In l oa → ⊥) → s₃ l ≡ s₂ l
                  kept l z no-out = Y.same l (outside-user l (Parts.first-outside f outer n ka kb env oa ob Ra RB ob E fits l z) no-out)

                  clear : (l : ℕ) → Zone Bound l → (Control Bound l → ⊥) → (In l ob → ⊥) → s₃ l ≡ []
                  clear l z c o = go (Parts.zone-cases f outer n ka kb env oa ob Ra RB ob E l z)
                    where
                      made : Zone Maker l → Dec (In l oa) → s₃ l ≡ []
                      made y (yes i) = Y.clear l (inr (output-port l i)) (λ k. c (k.0, inr k.1)) o
                      made y (no i) = kept l y i ∙ X.clear l y (λ k. c (k.0, inl k.1)) i

                      go : Parts.Spent f outer n ka kb env oa ob Ra RB ob E l ⊎ (Zone Maker l ⊎ Zone Rest l) → s₃ l ≡ []
                      go (inl (x, e, y)) =
                          Y.same l (outside-user l (Parts.spent-outside-second f outer n ka kb env oa ob Ra RB ob E fits l (x, e, y))
                          (λ i. Parts.spent-first f outer n ka kb env oa ob Ra RB ob E l (x, e, y) (SA.outs-zone l i)))
                          ∙ X.same l (Parts.spent-outside-first f outer n ka kb env oa ob Ra RB ob E fits l (x, e, y)) ∙ ap s₁ y ∙ S.emptied x e
                      go (inr (inl y)) = made y (dec-in l oa)
                      go (inr (inr y)) = Y.clear l (rest-zone l y) (λ k. c (k.0, inr k.1)) o

                  ready : (c r : ℕ) → Ra c r ⊎ RB c r → Ready c r s₃
                  ready c r (inl k) =
                      let w = SA.ring-own c r k in
                      ready-same c r s₂ s₃ (kept c (inl w.0) (SA.ring-off c r k))
                      (Y.same r (outside-user r (Parts.first-register-outside f outer n ka kb env oa ob Ra RB ob E fits r w.1)
                      (λ i. let q = Parts.first-low f outer n ka kb env oa ob Ra RB ob E fits r (SA.outs-zone r i) in omega arith))) (X.ready c r k)
                  ready c r (inr k) = Y.ready c r k

                  same : (l : ℕ) → Outside Bound l → s₃ l ≡ s l
                  same l u =
                      Y.same l (outside-user l (Parts.outside-second f outer n ka kb env oa ob Ra RB ob E l u)
                      (λ i. ⊎_elim u.not_own u.not-port (Parts.first-in f outer n ka kb env oa ob Ra RB ob E l (SA.outs-zone l i))))
                      ∙ X.same l (Parts.outside-first f outer n ka kb env oa ob Ra RB ob E l u)
                      ∙ Copied.untouched f outer n ka kb env oa ob Ra RB ob E SA.ring-own SB.ring-own fits net H ρ₀ s bef ρ s₁ S l u

            lead-user : (c d : ℕ) → Steps net s₁ c s₂ → (a : Answer) → Leads net User s₂ d a → Leads net Bound s (c + d) a
            lead-user c d t none L =
                fewer-long net s (0 + (c + d)) (c + d) (omega arith) (steps-long net s s₁ 0 (c + d) S.steps (steps-long net s₁ s₂ c d t L))
            lead-user c d t (some ws) (s₃, u, Y) =
                (s₃, fewer net s s₃ (0 + (c + d)) (c + d) (omega arith) (steps_then net s s₁ s₃ 0 (c + d) S.steps (steps_then net s₁ s₂ s₃ c d t u)), both s₃ ws Y)

          lead-maker : (c d : ℕ) (vs : List (Option Value)) (a : Answer) → N (bound ns vs ρ) d a → Leads net Maker s₁ c (some vs) → Leads net Bound s (c + d) a
          lead-maker c d vs a y (s₂, t, X) = lead-user s₂ vs X c d t a (SN (bound ns vs ρ) d a y s₂ (to-user s₂ vs X))

          lead : (c : ℕ) (a : Answer) → Sequel (M ρ) (λ vs. N (bound ns vs ρ)) c a → Leads net Bound s c a
          lead e b (stops c p) = fewer-long net s (0 + c) c (omega arith) (steps-long net s s₁ 0 c S.steps (SM ρ c none p s₁ to-maker))
          lead e b (goes_on c d vs a p y) = lead-maker c d vs a y (SM ρ c (some vs) p s₁ to-maker)

        pub bind-serves : Serves net Bound (λ ρ. Sequel (M ρ) (λ vs. N (bound ns vs ρ)))
        bind-serves ρ c a y s bef =
            let k = Copied.copied f outer n ka kb env oa ob Ra RB ob E SA.ring-own SB.ring-own fits net H ρ s bef in
            lead ρ ρ s bef k.0 k.1 c a y

        -- The same, where a twin of a shared name's copy makes its value err.
        pub bind-over : Serves net Bound (λ ρ c a. (ρ' : Values) × Changes f outer n env E net ρ ρ' × Sequel (M ρ') (λ vs. N (bound ns vs ρ')) c a)
        bind-over ρ c a (ρ', ch, y) s bef =
            let k = split-over f outer n env E net ρ ρ' s H ch bef.laid (λ l b. bef.clear l (omega arith, omega arith)
            (Copied.copy-control f outer n ka kb env oa ob Ra RB ob E SA.ring-own SB.ring-own fits net H ρ s bef l b)) in
            lead ρ ρ' s bef k.0 k.1 c a y
