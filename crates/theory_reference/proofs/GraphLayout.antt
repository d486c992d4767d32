-- Laws of specs/GraphLayout.antt, and what only they need.
use Rattle.std.specs.Prelude.{ℕ, zero, suc, ◌+◌, ◌-◌, ◌≤◌, ◌<◌, ◌≡◌, refl, ◌⊎◌, Bool, true, false, cond, List, [], ◌∷◌, ◌++◌, length, get_or, take, drop, eqb}
use Rattle.std.proofs.Common.{sym, ◌∙◌, ap, ap₂, subst, inl, inr, ⊎_elim, length-append, length-drop, take-append-drop, arith, eqb-true, eq-eqb}
use Rattle.std.proofs.lemmas.Bool.{false≢true}
use Rattle.names.specs.Names.{Names, none as noNames, union, common, without}
use Rattle.network.specs.Uses.{In}
use Rattle.graph.specs.Assembly.{Graph, wire, nothing, beside, bind, gate, loop, Env, name_count, member_of, named, spread, rank, total, free, links_of, outputs, gate_outputs, shared_links, first_use, second_use, chain_ends, chain_links}
use Rattle.graph.specs.Yields.{output_count}
use Rattle.graph.specs.Fit.{Fit, bare, Different as DifferentNames}
use Rattle.theory_reference.proofs.NameSets.{not-both, or_left, or_right, or_cases, without_in, without-here, without-there}
use Rattle.theory_reference.specs.Plugged.{nowhere, registers}
use Rattle.theory_reference.specs.Plan.{Between, Envs, Sound}
use Rattle.theory_reference.proofs.Sharing.{envs-first, envs-second}
use Rattle.theory_reference.proofs.SideBySide as Side
use Rattle.theory_reference.proofs.OneAfterAnother as After
use Rattle.theory_reference.proofs.BehindGate as Gates
use Rattle.theory_reference.proofs.BehindGate.{up_from-length, in-up_from}
use Rattle.theory_reference.proofs.LoopLayout as Lay
use Rattle.theory_reference.proofs.LoopLayout.{spread-envs}
use Rattle.theory_reference.specs.Bareness.{Straight}
use Rattle.theory_reference.proofs.Bareness.{beside-straight, bound-straight}
use Rattle.theory_reference.specs.GraphLayout.{RingOf, plan_of, Layout, body_plan}

-- A bare name is free.
pub bare-free : (g : Graph) (x : ℕ) → bare g x ≡ true → free g x ≡ true
unfolding bare free
bare-free (wire y) x e = e
bare-free nothing x e = e
bare-free (beside a b) x e =
    ⊎_elim (λ (k : bare a x ≡ true). or_left (free a x) (free b x) (bare-free a x k)) (λ (k : bare b x ≡ true). or_right (free a x) (free b x) (bare-free b x k)) (or_cases (bare a x) (bare b x) e)
bare-free (bind ns a b) x e = go (bare-free a x) (bare-free b x) (or_cases (without (bare b) (member_of ns) x) (cond (eqb (total (common (bare b) (member_of ns))) 0) noNames (bare a) x) e)
  where
    first : (c : Bool) → cond c noNames (bare a) x ≡ true → bare a x ≡ true
    first true k = absurd (false≢true k)
    first false k = k

    go : (bare a x ≡ true → free a x ≡ true) → (bare b x ≡ true → free b x ≡ true) →
        (without (bare b) (member_of ns) x ≡ true) ⊎ (cond (eqb (total (common (bare b) (member_of ns))) 0) noNames (bare a) x ≡ true) → union (free a) (without (free b) (member_of ns)) x ≡ true
    go ia ib (inl k) =
        or_right (free a x) (without (free b) (member_of ns) x) (without_in (free b) (member_of ns) x (ib (without-here (bare b) (member_of ns) x k)) (without-there (bare b) (member_of ns) x k))
    go ia ib (inr k) = or_left (free a x) (without (free b) (member_of ns) x) (ia (first (eqb (total (common (bare b) (member_of ns))) 0) k))
bare-free (gate g a) x e = absurd (false≢true e)
bare-free (loop ns a b) x e = absurd (false≢true e)

-- The names of a fit graph are names of the language.
pub free-small : (g : Graph) → Fit g → (x : ℕ) → free g x ≡ true → x < name_count
unfolding free
free-small (wire y) ft x e = subst (λ z. z < name_count) (eqb-true y x e) ft
free-small nothing ft x e = absurd (false≢true e)
free-small (beside a b) ft x e = ⊎_elim (λ (k : free a x ≡ true). free-small a ft.0 x k) (λ (k : free b x ≡ true). free-small b ft.1 x k) (or_cases (free a x) (free b x) e)
free-small (bind ns a b) ft x e =
    ⊎_elim (λ (k : free a x ≡ true). free-small a ft.0 x k) (λ (k : without (free b) (member_of ns) x ≡ true). free-small b ft.1 x (without-here (free b) (member_of ns) x k))
    (or_cases (free a x) (without (free b) (member_of ns) x) e)
free-small (gate g a) ft x e = free-small a ft.0 x e
free-small (loop ns a b) ft x e =
    ⊎_elim (λ (k : free a x ≡ true). free-small a ft.0 x k) (λ (k : without (free b) (member_of ns) x ≡ true). free-small b ft.1 x (without-here (free b) (member_of ns) x k))
    (or_cases (free a x) (without (free b) (member_of ns) x) e)

-- A body's outputs: iter?, as many iterated links as the loop has names, and the rest.
pub outs-parts : (k : ℕ) (ls : List ℕ) → suc k ≤ length ls → ls ≡ get_or ls 0 0 ∷ (take k (drop 1 ls) ++ drop (suc k) ls)
outs-parts k [] le = absurd (omega arith)
outs-parts k (l ∷ ls) le = ap (λ z. l ∷ z) (sym (take-append-drop k ls))

take-length : (k : ℕ) (ls : List ℕ) → k ≤ length ls → length (take k ls) ≡ k
take-length zero ls le = refl
take-length (suc k) [] le = absurd (omega arith)
take-length (suc k) (l ∷ ls) le = ap suc (take-length k ls (omega arith))

pub iterated-length : (k : ℕ) (ls : List ℕ) → suc k ≤ length ls → length (take k (drop 1 ls)) ≡ k
iterated-length k [] le = absurd (omega arith)
iterated-length k (l ∷ ls) le = take-length k ls (omega arith)

loop-count : (ns : List ℕ) (a b : Graph) (m : ℕ) → output_count b ≡ suc m → output_count (loop ns a b) ≡ m - length ns
unfolding output_count
loop-count ns a b m e = rw e refl

pub loop-length : (ns : List ℕ) (a b : Graph) (ob : List ℕ) → length ob ≡ output_count b → suc (length ns) ≤ output_count b → length (drop (suc (length ns)) ob) ≡ output_count (loop ns a b)
loop-length ns a b ob e le =
    let d = length-drop (suc (length ns)) ob in
    let c = loop-count ns a b (output_count b - 1) (omega arith) in
    omega arith

drop-in : (k : ℕ) (ls : List ℕ) (l : ℕ) → In l (drop k ls) → In l ls
drop-in zero ls l i = i
drop-in (suc k) [] l i = i
drop-in (suc k) (m ∷ ls) l i = inr (drop-in k ls l i)

pub loop-laid : (ns : List ℕ) (h : Names) (o kb : ℕ) (ob : List ℕ) (RB : ℕ → ℕ → Type 0) (env : Env) → Envs h env o → o + (total h + (kb + chain_links (total h))) ≤ nowhere → Sound (body_plan h o kb RB ob) →
    ((l : ℕ) → In l ob → Between (o + total h) kb l) → 2 ≤ total h → suc (length ns) ≤ length ob → DifferentNames ns → ((x : ℕ) → member_of ns x ≡ true → h x ≡ true) →
    Lay.Laid_out ns h o kb (get_or ob 0 0) (take (length ns) (drop 1 ob)) (drop (suc (length ns)) ob) RB env
loop-laid ns h o kb ob RB env E fits SB inside two le DN used =
    let p = outs-parts (length ns) ob le in
    record {
      envs = E;
      fits = fits;
      body = subst (λ os. Sound (body_plan h o kb RB os)) p SB;
      inside = λ l i. inside l (subst (λ os. In l os) (sym p) i);
      two = two;
      many = iterated-length (length ns) ob le;
      names-differ = DN;
      used = used;
    }

-- Parts of what fits fit.
pub first_fits : (n s a b : ℕ) → n + (s + (a + b)) ≤ nowhere → n + s + a ≤ nowhere
first_fits n s a b h = omega arith

pub second_fits : (n s a b : ℕ) → n + (s + (a + b)) ≤ nowhere → n + s + a + b ≤ nowhere
second_fits n s a b h = omega arith

pub fore-fits : (n a g : ℕ) → n + (a + g) ≤ nowhere → n + a ≤ nowhere
fore-fits n a g h = omega arith

pub body-fits : (n s a t b c : ℕ) → n + (s + (a + (t + (b + c)))) ≤ nowhere → n + s + a + t + b ≤ nowhere
body-fits n s a t b c h = omega arith

pub up_to : (m k : ℕ) → m ≤ m + k
up_to m k = omega arith

behind-own : (n a g l : ℕ) → Between (n + a) g l → Between n (a + g) l
behind-own n a g l b = (omega arith, omega arith)

pub envs-up : (f : Names) (env : Env) (n m : ℕ) → n ≤ m → Envs f env n → Envs f env m
envs-up f env n m le E = record { below = λ x e. let q = E.below x e in omega arith; differ = E.differ; small = E.small }

pub never-bare : (b : Graph) (n : ℕ) (env : Env) → Straight (bare b) (plan_of b n env) → ((x : ℕ) → bare b x ≡ false) → (l : ℕ) → In l (outputs b n env) → Between n (links_of b) l
never-bare b n env st no_bare l i = ⊎_elim (λ (w : Between n (links_of b) l). w) (λ (w : (x : ℕ) × (bare b x ≡ true) × (l ≡ env x)). absurd (not-both (bare b w.0) w.1 (no_bare w.0))) (st l i)

pub enough : {k c d : ℕ} → d ≡ c → suc k ≤ c → suc k ≤ d
enough e le = omega arith

inner-own : (n s a t b c l : ℕ) → Between (n + s + a + t) b l → Between n (s + (a + (t + (b + c)))) l
inner-own n s a t b c l w = (omega arith, omega arith)

pub layout : (g : Graph) → Fit g → (n : ℕ) (env : Env) → Envs (free g) env n → n + links_of g ≤ nowhere → Layout g n env
unfolding free links_of outputs output_count bare
layout (wire x) ft n env E le =
    record {
      sound = record {
        envs = E;
        fits = le;
        outs-zone = λ l i. inr (x, eq-eqb x x refl, ⊎_elim (λ (e : l ≡ env x). e) (λ (e : ⊥). absurd e) i);
        outs-differ = (λ i. i, tt);
        ring-own = λ c r k. absurd k;
        ring-off = λ c r k i. k;
      };
      count = refl;
      straight = λ l i. inr (x, eq-eqb x x refl, ⊎_elim (λ (e : l ≡ env x). e) (λ (e : ⊥). absurd e) i);
    }
layout nothing ft n env E le =
    record {
      sound = record { envs = E; fits = le; outs-zone = λ l i. absurd i; outs-differ = tt; ring-own = λ c r k. absurd k; ring-off = λ c r k i. k };
      count = refl;
      straight = λ l i. absurd i;
    }
layout (beside a b) ft n env E le =
    let f : Names = free a in
    let g : Names = free b in
    let m : ℕ = n + shared_links f g in
    let fits : n + (shared_links f g + (links_of a + links_of b)) ≤ nowhere = le in
    let oa : List ℕ = outputs a m (first_use f g n env) in
    let ob : List ℕ = outputs b (m + links_of a) (second_use f g n env) in
    let la : Layout a m (first_use f g n env) = layout a ft.0 m (first_use f g n env) (envs-first f g n env E) (first_fits n (shared_links f g) (links_of a) (links_of b) fits) in
    let lb : Layout b (m + links_of a) (second_use f g n env)
    = layout b ft.1 (m + links_of a) (second_use f g n env) (envs-up g (second_use f g n env) m (m + links_of a) (up_to m (links_of a)) (envs-second f g n env E))
    (second_fits n (shared_links f g) (links_of a) (links_of b) fits) in
    record {
      sound = Side.beside-sound f g n (links_of a) (links_of b) env oa ob (RingOf a m) (RingOf b (m + links_of a)) E fits la.sound lb.sound;
      count = length-append oa ob ∙ ap₂ (λ (i j : ℕ). i + j) la.count lb.count;
      straight = beside-straight f g n (links_of a) (links_of b) env oa ob (RingOf a m) (RingOf b (m + links_of a)) (oa ++ ob) E (bare a) (bare b) (bare-free a) (bare-free b) la.straight lb.straight;
    }
layout (bind ns a b) ft n env E le =
    let f : Names = free a in
    let g : Names = without (free b) (member_of ns) in
    let m : ℕ = n + shared_links f g in
    let fits : n + (shared_links f g + (links_of a + links_of b)) ≤ nowhere = le in
    let oa : List ℕ = outputs a m (first_use f g n env) in
    let link : Env = named ns oa (second_use f g n env) in
    let ob : List ℕ = outputs b (m + links_of a) link in
    let la : Layout a m (first_use f g n env) = layout a ft.0 m (first_use f g n env) (envs-first f g n env E) (first_fits n (shared_links f g) (links_of a) (links_of b) fits) in
    let many : length oa ≡ length ns = la.count ∙ ft.2 in
    let eb : Envs (free b) link (m + links_of a)
    = After.user-envs ns f (free b) n (links_of a) (links_of b) env oa ob (RingOf a m) (RingOf b (m + links_of a)) E fits la.sound many ft.3 ft.4 in
    let lb : Layout b (m + links_of a) link = layout b ft.1 (m + links_of a) link eb (second_fits n (shared_links f g) (links_of a) (links_of b) fits) in
    record {
      sound = After.bind-sound ns f (free b) n (links_of a) (links_of b) env oa ob (RingOf a m) (RingOf b (m + links_of a)) E fits la.sound many ft.3 ft.4 lb.sound;
      count = lb.count;
      straight = bound-straight ns f (free b) n (links_of a) (links_of b) env oa ob (RingOf a m) (RingOf b (m + links_of a)) E many ft.3 (bare a) (bare b) (bare-free a) (bare-free b) la.straight lb.straight;
    }
layout (gate g a) ft n env E le =
    let fits : n + (links_of a + gate_outputs g) ≤ nowhere = le in
    let la : Layout a n env = layout a ft.0 n env E (fore-fits n (links_of a) (gate_outputs g) fits) in
    record {
      sound = Gates.gate-sound g (free a) n (links_of a) env (outputs a n env) (RingOf a n) la.sound fits;
      count = up_from-length (n + links_of a) (gate_outputs g);
      straight = λ l i. inl (behind-own n (links_of a) (gate_outputs g) l (in-up_from (n + links_of a) (gate_outputs g) l i));
    }
layout (loop ns a b) ft n env E le =
    let f : Names = free a in
    let h : Names = free b in
    let g : Names = without h (member_of ns) in
    let m : ℕ = n + shared_links f g in
    let o : ℕ = m + links_of a in
    let s : ℕ = total h in
    let kc : ℕ = s + (links_of b + chain_links s) in
    let fits : n + (shared_links f g + (links_of a + kc)) ≤ nowhere = le in
    let oa : List ℕ = outputs a m (first_use f g n env) in
    let link : Env = named ns oa (second_use f g n env) in
    let ob : List ℕ = outputs b (o + s) (spread h o) in
    let rs : List ℕ = drop (suc (length ns)) ob in
    let la : Layout a m (first_use f g n env) = layout a ft.0 m (first_use f g n env) (envs-first f g n env E) (first_fits n (shared_links f g) (links_of a) kc fits) in
    let many : length oa ≡ length ns = la.count ∙ ft.2 in
    let RB : ℕ → ℕ → Type 0 = RingOf b (o + s) in
    let RC : ℕ → ℕ → Type 0 = λ c r. RB c r ⊎ ((x : ℕ) × (h x ≡ true) × (c ≡ get_or (chain_ends (get_or ob 0 0) (o + s + links_of b) s) (rank h x) 0) × (r ≡ registers + spread h o x)) in
    let ec : Envs h link o = After.user-envs ns f h n (links_of a) kc env oa rs (RingOf a m) RC E fits la.sound many ft.3 ft.4 in
    let lb : Layout b (o + s) (spread h o)
    = layout b ft.1 (o + s) (spread h o) (spread-envs h o (free-small b ft.1)) (body-fits n (shared_links f g) (links_of a) s (links_of b) (chain_links s) fits) in
    let inside : (l : ℕ) → In l ob → Between (o + s) (links_of b) l = λ l i. never-bare b (o + s) (spread h o) lb.straight ft.7 l i in
    let K : Lay.Laid_out ns h o (links_of b) (get_or ob 0 0) (take (length ns) (drop 1 ob)) rs RB link
    = loop-laid ns h o (links_of b) ob RB link ec (second_fits n (shared_links f g) (links_of a) kc fits) lb.sound inside ft.6 (enough lb.count ft.5) ft.3 ft.4 in
    record {
      sound = After.bind-sound ns f h n (links_of a) kc env oa rs (RingOf a m) RC E fits la.sound many ft.3 ft.4
          (Lay.core-sound ns h o (links_of b) (get_or ob 0 0) (take (length ns) (drop 1 ob)) rs RB link K);
      count = loop-length ns a b ob lb.count ft.5;
      straight = λ l i. inl (inner-own n (shared_links f g) (links_of a) s (links_of b) (chain_links s) l (inside l (drop-in (suc (length ns)) ob l i)));
    }
