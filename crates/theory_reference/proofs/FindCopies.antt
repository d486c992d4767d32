-- Laws of specs/FindCopies.antt, and what only they need.
use Prim.Native.Nat.{ℕ, ◌+◌, ◌≤◌, ◌<◌}
use Rattle.std.specs.Prelude.{◌≡◌, Bool, false, ◌&&◌, get_or}
use Rattle.std.proofs.Math.Path.{refl, ap, subst}
use Rattle.std.proofs.Common.{sym, ◌∙◌, inl, inr}
use Rattle.std.proofs.Math.Bool.{true}
use mathlib.Core.List.{List, [], ◌∷◌}
use native.Mathlib.Omega.{arith}
use Rattle.names.specs.Names.{Names, without}
use Rattle.network.specs.Net.{Token, mark, Demand, ask}
use Rattle.network.specs.Commute.{Never-emits}
use Rattle.network.specs.Uses.{Puts-onto}
use Rattle.graph.specs.Assembly.{Graph, wire, beside, bind, gate, IC, Env, name_count, member_of, nth, named, up_from, gate_outputs, free, links_of, outputs, operators_of, shared_links, first_use, second_use, Operator, copy_of, gate_of}
use Rattle.graph.specs.Translation.{test_name}
use Rattle.graph.specs.Tests.{Behind, behind}
use Rattle.graph.specs.Fit.{Fit}
use Rattle.theory_reference.proofs.NameSets.{and_both, or_left, without_in}
use Rattle.theory_reference.specs.Plugged.{nowhere, ports_of, demand_of, Each}
use Rattle.theory_reference.proofs.Plugged.{each-rest, each_copy}
use Rattle.theory_reference.specs.Plan.{Between, Control, Envs}
use Rattle.theory_reference.proofs.Sharing.{first-shared, first_alone, second-shared, envs-first, envs-second}
use Rattle.theory_reference.proofs.Binding.{named_here, named-others}
use Rattle.theory_reference.specs.GraphLayout.{RingOf, plan_of}
use Rattle.theory_reference.proofs.GraphLayout.{layout}
use Rattle.theory_reference.proofs.GraphParts.{outer, maker-at, maker-env, user-at, user-env, bind-room, bind-each}
use Rattle.theory_reference.proofs.Placed.{Placed, Copied}
use Rattle.theory_reference.specs.TwinNets.{Tested}
use Rattle.theory_reference.specs.FindCopies.{joined}

second-own : (n s a b l : ℕ) → Between (n + s + a) b l → Between n (s + (a + b)) l
second-own n s a b l o = (omega arith, omega arith)

copies-own : (n s a b l : ℕ) → Between n s l → Between n (s + (a + b)) l
copies-own n s a b l o = (omega arith, omega arith)

-- One graph bound to names of another: where the copies and the two parts lie, and that neither part's controls lie among the links of the rest.
module _ (ns : List ℕ) (a b : Graph) (n : ℕ) (env : Env) where
  abbrev apart : Names
  apart = outer ns a b n env

  abbrev copies : ℕ
  copies = shared_links (free a) apart

  copy-up : (l : ℕ) → Between n copies l → Between n (links_of (bind ns a b)) l
  unfolding links_of
  copy-up l o = copies-own n copies (links_of a) (links_of b) l o

  second-up : (l : ℕ) → Between (user-at ns a b n env) (links_of b) l → Between n (links_of (bind ns a b)) l
  unfolding links_of
  second-up l o = second-own n copies (links_of a) (links_of b) l o

  -- the links of a shared name's copy
  copy-links : Envs (free (bind ns a b)) env n → (x : ℕ) → free a x ≡ true → apart x ≡ true →
      Between n copies (first_use (free a) apart n env x) × Between n copies (second_use (free a) apart n env x)
  unfolding free
  copy-links E x p q =
      let u = first-shared (free a) apart n env x (and_both (free a x) (apart x) p q) in
      let v = second-shared (free a) apart n env x (and_both (free a x) (apart x) p q) in
      ((omega arith, (envs-first (free a) apart n env E).below x p), (omega arith, (envs-second (free a) apart n env E).below x q))

  module _ (ft : Fit (bind ns a b)) (E : Envs (free (bind ns a b)) env n) (le : n + links_of (bind ns a b) ≤ nowhere) where
    first-controls : (c r : ℕ) → RingOf a (maker-at ns a b n env) c r → Between (maker-at ns a b n env) (links_of a) c
    first-controls c r k =
        let p = bind-room ns a b n env ft E le in
        ((layout a ft.0 (maker-at ns a b n env) (maker-env ns a b n env) p.envs-a p.fits-a).sound.ring-own c r k).0

    second-controls : (c r : ℕ) → RingOf b (user-at ns a b n env) c r → Between (user-at ns a b n env) (links_of b) c
    second-controls c r k =
        let p = bind-room ns a b n env ft E le in
        ((layout b ft.1 (user-at ns a b n env) (user-env ns a b n env) p.envs-b p.fits-b).sound.ring-own c r k).0

    copies-off : (l : ℕ) → Between n copies l → Control (plan_of (bind ns a b) n env) l → ⊥
    copies-off l o (r, inl k) = let c = first-controls l r k in omega arith
    copies-off l o (r, inr k) = let c = second-controls l r k in omega arith

    second-off : (l : ℕ) → user-at ns a b n env ≤ l → (Control (plan_of b (user-at ns a b n env) (user-env ns a b n env)) l → ⊥) → Control (plan_of (bind ns a b) n env) l → ⊥
    second-off l low off (r, inl k) = let c = first-controls l r k in omega arith
    second-off l low off (r, inr k) = off (r, k)

pub test-small : test_name < name_count
test-small = omega arith

and_none : (p q : Bool) → q ≡ false → p && q ≡ false
and_none true q e = e
and_none false q e = refl

-- A name that the second of two parts does not use keeps its link in the first.
alone-first : (f g : Names) (n : ℕ) (env : Env) (x : ℕ) → g x ≡ false → first_use f g n env x ≡ env x
alone-first f g n env x e = first_alone f g n env x (and_none (f x) (g x) e)

wire-first : (x : ℕ) (v : Graph) (n : ℕ) (env : Env) → free v x ≡ false → (ls : List ℕ) × (outputs (beside (wire x) v) n env ≡ env x ∷ ls)
unfolding outputs free links_of
wire-first x v n env e =
    let m : ℕ = n + shared_links (free (wire x)) (free v) in
    let ls : List ℕ = outputs v (m + 0) (second_use (free (wire x)) (free v) n env) in
    (ls, ap (λ l. l ∷ ls) (alone-first (free (wire x)) (free v) n env x e))

IC-begins : (both : Bool) (l : ℕ) (ls : List ℕ) (n : ℕ) → (k : Token → Demand) × (demand_of (gate_of (IC both) (l ∷ ls) n) ≡ ask l k)
unfolding gate_of nth
IC-begins true l ls n = (_, refl)
IC-begins false l ls n = (_, refl)

IC-gives : (both : Bool) (ls : List ℕ) (n : ℕ) → Puts-onto (gate_of (IC both) ls n).kind (ports_of (gate_of (IC both) ls n)) n
unfolding gate_of nth
IC-gives true ls n = inl refl
IC-gives false ls n = inl refl

-- iter? is the first output of IC, and of what is joined.
IC-named : (both : Bool) (k : ℕ) (ks : List ℕ) (o : ℕ) (env : Env) → named (k ∷ ks) (up_from o (gate_outputs (IC both))) env k ≡ o
unfolding up_from gate_outputs
IC-named true k ks o env = named_here k ks o _ env
IC-named false k ks o env = named_here k ks o _ env

IC-first : (both : Bool) (k : ℕ) (ks : List ℕ) (v : Graph) (o n : ℕ) (env : Env) → free v k ≡ false →
    get_or (outputs (beside (wire k) v) n (named (k ∷ ks) (up_from o (gate_outputs (IC both))) env)) 0 0 ≡ o
IC-first both k ks v o n env e = ap (λ ls. get_or ls 0 0) (wire-first k v n (named (k ∷ ks) (up_from o (gate_outputs (IC both))) env) e).1 ∙ IC-named both k ks o env

module _ (at : ℕ → Demand) (plain : ℕ → ℕ) where
  -- It takes the test from its own link, since neither the other inputs nor what is joined uses it.
  ic-found : (both : Bool) (k : ℕ) (ks : List ℕ) (z v : Graph) → free z test_name ≡ false → without (free (beside (wire k) v)) (member_of (k ∷ ks)) test_name ≡ false → free v k ≡ false →
      (n : ℕ) (env : Env) → Each (Placed at plain) (operators_of (joined both k ks z v) n env) →
      (o : Operator) × Placed at plain o × ((j : Token → Demand) × (demand_of o ≡ ask (env test_name) j)) × Puts-onto o.kind (ports_of o) (get_or (outputs (joined both k ks z v) n env) 0 0)
  unfolding free links_of outputs operators_of
  ic-found both k ks z v hz hg hv n env H =
      let c : Graph = beside (wire test_name) z in
      let b : Graph = beside (wire k) v in
      let f : Names = free (gate (IC both) c) in
      let g : Names = without (free b) (member_of (k ∷ ks)) in
      let m : ℕ = n + shared_links f g in
      let e : Env = first_use f g n env in
      let ins : List ℕ = outputs c m e in
      let o : ℕ = m + links_of c in
      let op : Operator = gate_of (IC both) ins o in
      let opc : List Operator = operators_of c m e in
      let w = wire-first test_name z m e hz in
      let is-ins : ins ≡ env test_name ∷ w.0 = w.1 ∙ ap (λ l. l ∷ w.0) (alone-first f g n env test_name hg) in (
        op,
        (each-rest (Placed at plain) opc (op ∷ []) (bind-each (k ∷ ks) (gate (IC both) c) b n env (Placed at plain) H).1).0,
        subst (λ is. (j : Token → Demand) × (demand_of (gate_of (IC both) is o) ≡ ask (env test_name) j)) (sym is-ins) (IC-begins both (env test_name) w.0 o),
        subst (λ l. Puts-onto op.kind (ports_of op) l) (sym (IC-first both k ks v o (m + links_of (gate (IC both) c)) (second_use f g n env) hv)) (IC-gives both ins o),
      )

  -- Behind the test's name: the copies at the first and at the second arm, and IC.
  pub find-behind : (ms : List ℕ) (p r : Graph) → Behind (bind ms p r) → Fit (bind ms p r) → (n : ℕ) (env : Env) → Envs (free (bind ms p r)) env n → n + links_of (bind ms p r) ≤ nowhere →
      Each (Placed at plain) (operators_of (bind ms p r) n env) →
      (c : Placed at plain (copy_of (env test_name) (first_use (free p) (without (free r) (member_of ms)) n env test_name) (second_use (free p) (without (free r) (member_of ms)) n env test_name))) →
      (F : Copied at plain (bind ms p r) n env) × (F.first.number ≡ c.number)
  unfolding free outputs
  find-behind ms p _ (behind _ ns ks k both _ q z v hp hm hq hn hz hg hv) ft n env E le H c =
      let t : Graph = joined both k ks z v in
      let r : Graph = bind ns q t in
      let g₁ : Names = without (free r) (member_of ms) in
      let g₂ : Names = without (free t) (member_of ns) in
      let n₂ : ℕ = user-at ms p r n env in
      let env₂ : Env = user-env ms p r n env in
      let room = bind-room ms p r n env ft E le in
      let E₂ : Envs (free r) env₂ n₂ = room.envs-b in
      let le₂ : n₂ + links_of r ≤ nowhere = room.fits-b in
      let H₂ = bind-each ns q t n₂ env₂ (Placed at plain) (bind-each ms p r n env (Placed at plain) H).2 in
      let in-t : g₂ test_name ≡ true = without_in (free t) (member_of ns) test_name refl hn in
      let in-r : g₁ test_name ≡ true = without_in (free r) (member_of ms) test_name (or_left (free q test_name) (g₂ test_name) hq) hm in
      let a₂ : ℕ = first_use (free q) g₂ n₂ env₂ test_name in
      let o₂ : ℕ = second_use (free q) g₂ n₂ env₂ test_name in
      let d : Placed at plain (copy_of (env₂ test_name) a₂ o₂)
      = each_copy (Placed at plain) (free q) g₂ n₂ env₂ H₂.0 test_name test-small (and_both (free q test_name) (g₂ test_name) hq in-t) in
      let i = ic-found both k ks z v hz hg hv (user-at ns q t n₂ env₂) (user-env ns q t n₂ env₂) H₂.2 in
      let l₁ = copy-links ms p r n env E test_name hp in-r in
      let l₂ = copy-links ns q t n₂ env₂ E₂ test_name hq in-t in (
        record {
          test = env test_name;
          arm₁ = first_use (free p) g₁ n env test_name;
          on₁ = second_use (free p) g₁ n env test_name;
          arm₂ = a₂;
          on₂ = o₂;
          first = c;
          second = subst (λ l. Placed at plain (copy_of l a₂ o₂)) (named-others ms (outputs p (maker-at ms p r n env) (first_use (free p) g₁ n env)) (second_use (free p) g₁ n env) test_name hm) d;
          ic = i.0;
          third = i.1;
          begins = subst (λ l. (j : Token → Demand) × (demand_of i.0 ≡ ask l j))
              (named-others ns (outputs q (maker-at ns q t n₂ env₂) (first_use (free q) g₂ n₂ env₂)) (second_use (free q) g₂ n₂ env₂) test_name hn) i.2;
          gives = i.3;
          own-arm = copy-up ms p r n env (first_use (free p) g₁ n env test_name) l₁.0;
          own₁ = copy-up ms p r n env (second_use (free p) g₁ n env test_name) l₁.1;
          own₂ = second-up ms p r n env o₂ (copy-up ns q t n₂ env₂ o₂ l₂.1);
          free₁ = copies-off ms p r n env ft E le (second_use (free p) g₁ n env test_name) l₁.1;
          free₂ = second-off ms p r n env ft E le o₂ l₂.1.0 (copies-off ns q t n₂ env₂ ft.1 E₂ le₂ o₂ l₂.1);
        },
        refl,
      )

  -- A let around the graph: the same operators and links.
  pub lift-copied : (ns : List ℕ) (a b : Graph) → Fit (bind ns a b) → (n : ℕ) (env : Env) → Envs (free (bind ns a b)) env n → n + links_of (bind ns a b) ≤ nowhere →
      (F : Copied at plain b (n + shared_links (free a) (without (free b) (member_of ns)) + links_of a)
      (named ns (outputs a (n + shared_links (free a) (without (free b) (member_of ns))) (first_use (free a) (without (free b) (member_of ns)) n env))
      (second_use (free a) (without (free b) (member_of ns)) n env))) →
      (G : Copied at plain (bind ns a b) n env) × (G.first.number ≡ F.first.number) × (G.arm₁ ≡ F.arm₁) × (G.on₁ ≡ F.on₁)
  unfolding outputs
  lift-copied ns a b ft n env E le F =
      let up : (l : ℕ) → Between (user-at ns a b n env) (links_of b) l → Between n (links_of (bind ns a b)) l = second-up ns a b n env in (
        record {
          test = F.test;
          arm₁ = F.arm₁;
          on₁ = F.on₁;
          arm₂ = F.arm₂;
          on₂ = F.on₂;
          first = F.first;
          second = F.second;
          ic = F.ic;
          third = F.third;
          begins = F.begins;
          gives = F.gives;
          own-arm = up F.arm₁ F.own-arm;
          own₁ = up F.on₁ F.own₁;
          own₂ = up F.on₂ F.own₂;
          free₁ = second-off ns a b n env ft E le F.on₁ F.own₁.0 F.free₁;
          free₂ = second-off ns a b n env ft E le F.on₂ F.own₂.0 F.free₂;
        },
        refl,
        refl,
        refl,
      )

  -- A copy gives on both outputs and on no other link.
  pub copy-else : (t a b : ℕ) (c : Placed at plain (copy_of t a b)) (l : ℕ) → (l ≡ a → ⊥) → (l ≡ b → ⊥) → Never-emits (at c.number) l
  unfolding nth
  copy-else t a b c l off-a off-b = subst (λ d. Never-emits d l) (sym c.is) (λ v. (λ e. off-a (sym e), (λ e. off-b (sym e), tt)))

  module _ (g : Graph) (n : ℕ) (env : Env) (F : Copied at plain g n env) where
    pub copied-tested : Tested at plain F.first.number F.second.number F.third.number F.on₁ F.on₂ (get_or (outputs g n env) 0 0)
    unfolding nth
    copied-tested =
        record {
          one₁ = F.first.alone F.on₁ (inr (inl refl));
          one₂ = F.second.alone F.on₂ (inr (inl refl));
          one₃ = F.third.alone (get_or (outputs g n env) 0 0) F.gives;
          asks₁ = F.second.asks F.on₁ _ refl;
          asks₂ = F.third.asks F.on₂ F.begins.0 F.begins.1;
        }

    pub first-emits : Never-emits (at F.first.number) F.on₁ → ⊥
    unfolding nth
    first-emits h = (subst (λ d. Never-emits d F.on₁) F.first.is h mark).1.0 refl

    pub first_else : (l : ℕ) → (l ≡ F.arm₁ → ⊥) → (l ≡ F.on₁ → ⊥) → Never-emits (at F.first.number) l
    first_else = copy-else F.test F.arm₁ F.on₁ F.first
