-- Laws of specs/Marks.antt, and what only they need.
use Prim.Native.Nat.{ℕ, zero, suc, ◌+◌, ◌≤◌, ◌<◌}
use Rattle.std.specs.Prelude.{◌≡◌, ◌⊎◌, Bool, get_or, drop}
use Rattle.std.proofs.Math.Path.{refl}
use Rattle.std.proofs.Common.{sym, ◌∙◌, ap, subst, inl, inr, ⊎_elim, arith}
use Rattle.std.proofs.Math.Bool.{true, false}
use Rattle.std.proofs.lemmas.Bool.{false≢true}
use mathlib.Core.List.{List, [], ◌∷◌, ◌++◌}
use Rattle.std.proofs.Math.Decide.{ℕ_discrete}
use Rattle.names.specs.Names.{Names, common, without}
use Rattle.network.specs.Net.{mark, Links}
use Rattle.network.specs.Fill.{remembering}
use Rattle.theory_pieces.specs.Load.{set_link, put, On}
use Rattle.theory_pieces.proofs.Load.{set_same, set_other}
use Rattle.graph.specs.Assembly.{Gate, const, oper, T, F, M, E, IC, Graph, wire, nothing, beside, bind, gate, loop, Env, member_of, named, spread, rank, total, free, links_of, outputs, operators_of, Operator, copies_for, sharing, shared_links, first_use, second_use, gate_of, gate_outputs, chain, chain_ends, chain_links, ring_gate, ring, listed}
use Rattle.graph.specs.Fit.{Fit}
use Rattle.theory_reference.proofs.NameSets.{member-head, member-tail, listed-only, rank-total}
use Rattle.theory_reference.specs.Plugged.{registers, Each}
use Rattle.theory_reference.proofs.Plugged.{each_first, each-rest, each-ring}
use Rattle.theory_reference.specs.Plan.{Between}
use Rattle.theory_reference.proofs.Copies.{ends-length}
use Rattle.theory_reference.proofs.LoopLayout.{spread-is}
use Rattle.theory_reference.specs.GraphLayout.{RingOf}
use Rattle.theory_reference.proofs.GraphLayout.{free-small}
use Rattle.theory_reference.specs.Marks.{register_of, with-mark, marks, Remembers-in}

-- Every link of the load holds the mark.
pub marks-hold : (os : List Operator) (b : Links) (l : ℕ) → On l (marks os) → put (marks os) b l ≡ mark ∷ []
unfolding marks
marks-hold [] b l o = absurd o
marks-hold (x ∷ os) b l o = go (remembering x.kind) (ℕ_discrete l (register_of x)) (λ k. marks-hold os b l k) o
  where
    go : (c : Bool) → Dec (l ≡ register_of x) → (On l (marks os) → put (marks os) b l ≡ mark ∷ []) → On l (with-mark c (register_of x) (marks os)) → put (with-mark c (register_of x) (marks os)) b l ≡ mark ∷ []
    go true (yes e) ih k = ap (set_link (register_of x) (mark ∷ []) (put (marks os) b)) e ∙ set_same (register_of x) (mark ∷ []) (put (marks os) b)
    go true (no e) ih (inl k) = absurd (e k)
    go true (no e) ih (inr k) = set_other (register_of x) l (mark ∷ []) (put (marks os) b) e ∙ ih k
    go false d ih k = ih k

pub marks-in : (D : ℕ → Type 0) (os : List Operator) → Each (Remembers-in D) os → (l : ℕ) → On l (marks os) → D l
unfolding marks
marks-in D [] h l o = absurd o
marks-in D (x ∷ os) h l o = go (remembering x.kind) refl (λ k. marks-in D os h.1 l k) o
  where
    go : (c : Bool) → remembering x.kind ≡ c → (On l (marks os) → D l) → On l (with-mark c (register_of x) (marks os)) → D l
    go true e ih (inl k) = subst D (sym k) (h.0 e)
    go true e ih (inr k) = ih k
    go false e ih k = ih k

-- Each operator that remembers is marked.
pub each-marked : (D : ℕ → Type 0) (os : List Operator) → ((l : ℕ) → On l (marks os) → D l) → Each (Remembers-in D) os
unfolding marks
each-marked D [] h = tt
each-marked D (x ∷ os) h = (here (remembering x.kind) h, each-marked D os (λ l o. there (remembering x.kind) h l o))
  where
    here : (c : Bool) → ((l : ℕ) → On l (with-mark c (register_of x) (marks os)) → D l) → c ≡ true → D (register_of x)
    here true k e = k (register_of x) (inl refl)
    here false k e = absurd (false≢true e)

    there : (c : Bool) → ((l : ℕ) → On l (with-mark c (register_of x) (marks os)) → D l) → (l : ℕ) → On l (marks os) → D l
    there true k l o = k l (inr o)
    there false k l o = k l o

pub each_app : (P : Operator → Type 0) (xs ys : List Operator) → Each P xs → Each P ys → Each P (xs ++ ys)
each_app P [] ys h k = k
each_app P (x ∷ xs) ys h k = (h.0, each_app P xs ys h.1 k)

each_map : (P Q : Operator → Type 0) → ((o : Operator) → P o → Q o) → (os : List Operator) → Each P os → Each Q os
each_map P Q f [] h = tt
each_map P Q f (o ∷ os) h = (f o h.0, each_map P Q f os h.1)

-- Copies and the gates between inputs and outputs remember nothing.
module _ (D : ℕ → Type 0) where
  copies-forget : (xs : List ℕ) (env e₁ e₂ : Env) → Each (Remembers-in D) (copies_for xs env e₁ e₂)
  unfolding copies_for
  copies-forget [] env e₁ e₂ = tt
  copies-forget (x ∷ xs) env e₁ e₂ = (λ e. absurd (false≢true e), copies-forget xs env e₁ e₂)

  sharing-forgets : (f g : Names) (n : ℕ) (env : Env) → Each (Remembers-in D) (sharing f g n env)
  unfolding sharing
  sharing-forgets f g n env = copies-forget (listed (common f g)) env (first_use f g n env) (second_use f g n env)

  chain-forgets : (k l n : ℕ) → Each (Remembers-in D) (chain l n k)
  unfolding chain
  chain-forgets zero l n = tt
  chain-forgets (suc zero) l n = tt
  chain-forgets (suc (suc k)) l n = (λ e. absurd (false≢true e), chain-forgets (suc k) (suc n) (suc (suc n)))

  gate-forgets : (g : Gate) (ins : List ℕ) (n : ℕ) → Remembers-in D (gate_of g ins n)
  unfolding gate_of
  gate-forgets (const v) ins n e = absurd (false≢true e)
  gate-forgets (oper k) ins n e = absurd (false≢true e)
  gate-forgets T ins n e = absurd (false≢true e)
  gate-forgets F ins n e = absurd (false≢true e)
  gate-forgets M ins n e = absurd (false≢true e)
  gate-forgets E ins n e = absurd (false≢true e)
  gate-forgets (IC true) ins n e = absurd (false≢true e)
  gate-forgets (IC false) ins n e = absurd (false≢true e)

  -- The gate of a name remembers, in the register beside its output.
  ring-remembers : (b : Bool) (c i s w o : ℕ) → D (registers + o) → Remembers-in D (ring_gate b c i s w o)
  unfolding ring_gate
  ring-remembers true c i s w o d e = d
  ring-remembers false c i s w o d e = d

  ring-remembered : (b : Bool) (c i s w o : ℕ) → Remembers-in D (ring_gate b c i s w o) → D (registers + o)
  unfolding ring_gate
  ring-remembered true c i s w o h = h refl
  ring-remembered false c i s w o h = h refl

  rings-remember : (xs : List ℕ) (ids : Names) (cs : List ℕ) (it st ow out : Env) → ((x : ℕ) → member_of xs x ≡ true → D (registers + out x)) → Each (Remembers-in D) (ring xs ids cs it st ow out)
  unfolding ring
  rings-remember [] ids cs it st ow out h = tt
  rings-remember (x ∷ xs) ids [] it st ow out h = tt
  rings-remember (x ∷ xs) ids (c ∷ cs) it st ow out h =
      (ring-remembers (ids x) c (it x) (st x) (ow x) (out x) (h x (member-head x xs)), rings-remember xs ids cs it st ow out (λ y e. h y (member-tail x xs y e)))

-- Registers of parts are registers of the whole.
first-register : (n s a b r : ℕ) → Between (registers + (n + s)) a r → Between (registers + n) (s + (a + b)) r
first-register n s a b r w = (omega arith, omega arith)

second-register : (n s a b r : ℕ) → Between (registers + (n + s + a)) b r → Between (registers + n) (s + (a + b)) r
second-register n s a b r w = (omega arith, omega arith)

fore-register : (n a k r : ℕ) → Between (registers + n) a r → Between (registers + n) (a + k) r
fore-register n a k r w = (omega arith, omega arith)

body-register : (n s a t b c r : ℕ) → Between (registers + (n + s + a + t)) b r → Between (registers + n) (s + (a + (t + (b + c)))) r
body-register n s a t b c r w = (omega arith, omega arith)

gate-register : (n s a t b c k : ℕ) → k < t → Between (registers + n) (s + (a + (t + (b + c)))) (registers + (n + s + a + k))
gate-register n s a t b c k lt = (omega arith, omega arith)

-- Every register of a fit graph's operators lies beside its own links.
pub registers-own : (g : Graph) → Fit g → (n : ℕ) (env : Env) → Each (Remembers-in (Between (registers + n) (links_of g))) (operators_of g n env)
unfolding links_of operators_of
registers-own (wire x) ft n env = tt
registers-own nothing ft n env = tt
registers-own (beside a b) ft n env =
    let f : Names = free a in
    let g : Names = free b in
    let s : ℕ = shared_links f g in
    let D : ℕ → Type 0 = Between (registers + n) (s + (links_of a + links_of b)) in
    let opa = operators_of a (n + s) (first_use f g n env) in
    let opb = operators_of b (n + s + links_of a) (second_use f g n env) in
    each_app (Remembers-in D) (sharing f g n env) (opa ++ opb) (sharing-forgets D f g n env)
    (each_app (Remembers-in D) opa opb
    (each_map (Remembers-in (Between (registers + (n + s)) (links_of a))) (Remembers-in D) (λ o h e. first-register n s (links_of a) (links_of b) (register_of o) (h e)) opa (registers-own a ft.0 (n + s) (first_use f g n env)))
    (each_map (Remembers-in (Between (registers + (n + s + links_of a)) (links_of b))) (Remembers-in D) (λ o h e. second-register n s (links_of a) (links_of b) (register_of o) (h e)) opb
    (registers-own b ft.1 (n + s + links_of a) (second_use f g n env))))
registers-own (bind ns a b) ft n env =
    let f : Names = free a in
    let g : Names = without (free b) (member_of ns) in
    let s : ℕ = shared_links f g in
    let D : ℕ → Type 0 = Between (registers + n) (s + (links_of a + links_of b)) in
    let link : Env = named ns (outputs a (n + s) (first_use f g n env)) (second_use f g n env) in
    let opa = operators_of a (n + s) (first_use f g n env) in
    let opb = operators_of b (n + s + links_of a) link in
    each_app (Remembers-in D) (sharing f g n env) (opa ++ opb) (sharing-forgets D f g n env)
    (each_app (Remembers-in D) opa opb
    (each_map (Remembers-in (Between (registers + (n + s)) (links_of a))) (Remembers-in D) (λ o h e. first-register n s (links_of a) (links_of b) (register_of o) (h e)) opa (registers-own a ft.0 (n + s) (first_use f g n env)))
    (each_map (Remembers-in (Between (registers + (n + s + links_of a)) (links_of b))) (Remembers-in D) (λ o h e. second-register n s (links_of a) (links_of b) (register_of o) (h e)) opb
    (registers-own b ft.1 (n + s + links_of a) link)))
registers-own (gate k a) ft n env =
    let D : ℕ → Type 0 = Between (registers + n) (links_of a + gate_outputs k) in
    let opa = operators_of a n env in
    each_app (Remembers-in D) opa (gate_of k (outputs a n env) (n + links_of a) ∷ [])
    (each_map (Remembers-in (Between (registers + n) (links_of a))) (Remembers-in D) (λ o h e. fore-register n (links_of a) (gate_outputs k) (register_of o) (h e)) opa (registers-own a ft.0 n env))
    (gate-forgets D k (outputs a n env) (n + links_of a), tt)
registers-own (loop ns a b) ft n env =
    let f : Names = free a in
    let h : Names = free b in
    let g : Names = without h (member_of ns) in
    let s : ℕ = shared_links f g in
    let o : ℕ = n + s + links_of a in
    let t : ℕ = total h in
    let D : ℕ → Type 0 = Between (registers + n) (s + (links_of a + (t + (links_of b + chain_links t)))) in
    let e₁ : Env = first_use f g n env in
    let oa : List ℕ = outputs a (n + s) e₁ in
    let ob : List ℕ = outputs b (o + t) (spread h o) in
    let cs : List ℕ = chain_ends (get_or ob 0 0) (o + t + links_of b) t in
    let opa = operators_of a (n + s) e₁ in
    let opb = operators_of b (o + t) (spread h o) in
    let opc = chain (get_or ob 0 0) (o + t + links_of b) t in
    let opr = ring (listed h) (member_of ns) cs (named ns (drop 1 ob) env) (named ns oa env) (second_use f g n env) (spread h o) in
    each_app (Remembers-in D) (sharing f g n env) (opa ++ (opb ++ (opc ++ opr))) (sharing-forgets D f g n env)
    (each_app (Remembers-in D) opa (opb ++ (opc ++ opr))
    (each_map (Remembers-in (Between (registers + (n + s)) (links_of a))) (Remembers-in D) (λ x k e. first-register n s (links_of a) (t + (links_of b + chain_links t)) (register_of x) (k e)) opa (registers-own a ft.0 (n + s) e₁))
    (each_app (Remembers-in D) opb (opc ++ opr)
    (each_map (Remembers-in (Between (registers + (o + t)) (links_of b))) (Remembers-in D) (λ x k e. body-register n s (links_of a) t (links_of b) (chain_links t) (register_of x) (k e)) opb (registers-own b ft.1 (o + t) (spread h o)))
    (each_app (Remembers-in D) opc opr (chain-forgets D t (get_or ob 0 0) (o + t + links_of b))
    (rings-remember D (listed h) (member_of ns) cs (named ns (drop 1 ob) env) (named ns oa env) (second_use f g n env) (spread h o)
    (λ x e. let m : h x ≡ true = listed-only h x e in
    subst (λ z. D (registers + z)) (sym (spread-is h o x)) (gate-register n s (links_of a) t (links_of b) (chain_links t) (rank h x) (rank-total h x m (free-small b ft.1 x m))))))))

no-fewer : {k c : ℕ} → c ≡ k → k ≤ c
no-fewer e = omega arith

-- Every gate of a loop is one of the operators: what each operator of a kind of gate has, it has too.
pub rings-each : (Q : Operator → Type 0) (D : ℕ → ℕ → Type 0) → ((b : Bool) (c i s w o : ℕ) → Q (ring_gate b c i s w o) → D c (registers + o)) → (g : Graph) → Fit g → (n : ℕ) (env : Env) → Each Q (operators_of g n env) → (c r : ℕ) → RingOf g n c r → D c r
unfolding operators_of
rings-each Q D at (wire x) ft n env H c r k = absurd k
rings-each Q D at nothing ft n env H c r k = absurd k
rings-each Q D at (beside a b) ft n env H c r k =
    let f : Names = free a in
    let g : Names = free b in
    let s : ℕ = shared_links f g in
    let opa = operators_of a (n + s) (first_use f g n env) in
    let opb = operators_of b (n + s + links_of a) (second_use f g n env) in
    let Hp : Each Q (opa ++ opb) = each-rest Q (sharing f g n env) (opa ++ opb) H in
    ⊎_elim (λ (z : RingOf a (n + s) c r). rings-each Q D at a ft.0 (n + s) (first_use f g n env) (each_first Q opa opb Hp) c r z)
    (λ (z : RingOf b (n + s + links_of a) c r). rings-each Q D at b ft.1 (n + s + links_of a) (second_use f g n env) (each-rest Q opa opb Hp) c r z) k
rings-each Q D at (bind ns a b) ft n env H c r k =
    let f : Names = free a in
    let g : Names = without (free b) (member_of ns) in
    let s : ℕ = shared_links f g in
    let link : Env = named ns (outputs a (n + s) (first_use f g n env)) (second_use f g n env) in
    let opa = operators_of a (n + s) (first_use f g n env) in
    let opb = operators_of b (n + s + links_of a) link in
    let Hp : Each Q (opa ++ opb) = each-rest Q (sharing f g n env) (opa ++ opb) H in
    ⊎_elim (λ (z : RingOf a (n + s) c r). rings-each Q D at a ft.0 (n + s) (first_use f g n env) (each_first Q opa opb Hp) c r z)
    (λ (z : RingOf b (n + s + links_of a) c r). rings-each Q D at b ft.1 (n + s + links_of a) link (each-rest Q opa opb Hp) c r z) k
rings-each Q D at (gate j a) ft n env H c r k =
    rings-each Q D at a ft.0 n env (each_first Q (operators_of a n env) (gate_of j (outputs a n env) (n + links_of a) ∷ []) H) c r k
rings-each Q D at (loop ns a b) ft n env H c r k =
    let f : Names = free a in
    let h : Names = free b in
    let g : Names = without h (member_of ns) in
    let s : ℕ = shared_links f g in
    let o : ℕ = n + s + links_of a in
    let t : ℕ = total h in
    let e₁ : Env = first_use f g n env in
    let oa : List ℕ = outputs a (n + s) e₁ in
    let ob : List ℕ = outputs b (o + t) (spread h o) in
    let it : ℕ = get_or ob 0 0 in
    let cs : List ℕ = chain_ends it (o + t + links_of b) t in
    let opa = operators_of a (n + s) e₁ in
    let opb = operators_of b (o + t) (spread h o) in
    let opc = chain it (o + t + links_of b) t in
    let opr = ring (listed h) (member_of ns) cs (named ns (drop 1 ob) env) (named ns oa env) (second_use f g n env) (spread h o) in
    let Hp : Each Q (opa ++ (opb ++ (opc ++ opr))) = each-rest Q (sharing f g n env) (opa ++ (opb ++ (opc ++ opr))) H in
    let Hq : Each Q (opb ++ (opc ++ opr)) = each-rest Q opa (opb ++ (opc ++ opr)) Hp in
    let Hr : Each Q (opc ++ opr) = each-rest Q opb (opc ++ opr) Hq in
    ⊎_elim (λ (z : RingOf a (n + s) c r). rings-each Q D at a ft.0 (n + s) e₁ (each_first Q opa (opb ++ (opc ++ opr)) Hp) c r z)
    (λ (y : RingOf b (o + t) c r ⊎ ((x : ℕ) × (h x ≡ true) × (c ≡ get_or cs (rank h x) 0) × (r ≡ registers + spread h o x))).
    ⊎_elim (λ (z : RingOf b (o + t) c r). rings-each Q D at b ft.1 (o + t) (spread h o) (each_first Q opb (opc ++ opr) Hq) c r z)
    (λ (z : (x : ℕ) × (h x ≡ true) × (c ≡ get_or cs (rank h x) 0) × (r ≡ registers + spread h o x)).
    subst (λ k. D k r) (sym z.2) (subst (D (get_or cs (rank h z.0) 0)) (sym z.3)
    (at (member_of ns z.0) (get_or cs (rank h z.0) 0) (named ns (drop 1 ob) env z.0) (named ns oa env z.0) (second_use f g n env z.0) (spread h o z.0)
    (each-ring Q h (member_of ns) cs (named ns (drop 1 ob) env) (named ns oa env) (second_use f g n env) (spread h o) (no-fewer (ends-length t it (o + t + links_of b)))
    (each-rest Q opc opr Hr) z.0 (free-small b ft.1 z.0 z.1) z.1)))) y) k

pub rings-marked : (D : ℕ → Type 0) (g : Graph) → Fit g → (n : ℕ) (env : Env) → Each (Remembers-in D) (operators_of g n env) → (c r : ℕ) → RingOf g n c r → D r
rings-marked D g ft n env H c r k = rings-each (Remembers-in D) (λ c r. D r) (λ b c i s w o h. ring-remembered D b c i s w o h) g ft n env H c r k
