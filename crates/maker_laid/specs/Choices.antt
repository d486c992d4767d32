-- An if laid out (graph/specs/Translation: arm; theory_yields/specs/Choice: one shape for expressions and bodies): which names its parts share, and the order
-- in which its parts are written. Document 01, "The graph": "Any if puts a T gate on each free name of arm b and an F gate on each of arm c".
-- Assumes of the arms what an admitted formula gives.
use Rattle.std.specs.Prelude.{ℕ, ◌≤◌, ◌<◌, ◌≡◌, Bool, ◌&&◌, ◌||◌, List, [], ◌∷◌, eqb, ltb}
use Rattle.std.proofs.Math.Path.{refl, ap, ap₂}
use Rattle.std.proofs.Common.{sym, ◌∙◌, subst, eqb-true, ltb-true, ltb-false}
use Rattle.std.proofs.Math.Bool.{true, false, not}
use Rattle.std.proofs.lemmas.Bool.{false≢true, eqb-false}
use native.Mathlib.Omega.{arith}
use Rattle.names.specs.Names.{Names, common, without, members}
use Rattle.theory_yields.specs.Naming.{Small}
use Rattle.theory_yields.proofs.Naming.{or_left, or_right, member-members}
use Rattle.theory_yields.specs.Choice.{choice, From, Has}
use Rattle.theory_yields.proofs.Choice.{choice-free, arm-free, row_has}
use Rattle.graph.specs.Assembly.{Graph, nothing, bind, Gate, T, F, Env, free, member_of, first_use, second_use, named}
use Rattle.graph.specs.Translation.{test_name, row, gated, arm}
use Rattle.maker_laid.specs.Laid.{Laid, Copied, laid-bind}
use Rattle.maker_laid.specs.Sharing.{copied_none, first-none, second_none}

-- ---- a binding whose parts share nothing

pub bind-apart : (ns : List ℕ) (a b : Graph) → ((x : ℕ) → free a x && without (free b) (member_of ns) x ≡ false) → (n m : ℕ) (env : Env)
    (mem mem₁ mem₂ o₁ o₂ : List ℕ) (n₁ m₁ n₂ m₂ : ℕ) → Laid a n m env mem mem₁ o₁ n₁ m₁ → Laid b n₁ m₁ (named ns o₁ env) mem₁ mem₂ o₂ n₂ m₂
    → Laid (bind ns a b) n m env mem mem₂ o₂ n₂ m₂
bind-apart ns a b h n m env mem mem₁ mem₂ o₁ o₂ n₁ m₁ n₂ m₂ la lb =
    let f = free a in
    let g = without (free b) (member_of ns) in
    laid-bind ns a b n m env mem mem mem₁ mem₂ o₁ o₂ n m n₁ m₁ n₂ m₂ (copied_none f g h n env m mem)
    (subst (λ (e : Env). Laid a n m e mem mem₁ o₁ n₁ m₁) (sym (first-none f g h n env)) la)
    (subst (λ (e : Env). Laid b n₁ m₁ (named ns o₁ e) mem₁ mem₂ o₂ n₂ m₂) (sym (second_none f g h n env)) lb)

and_none : (b : Bool) → b && false ≡ false
and_none true = refl
and_none false = refl

-- ---- an arm behind its gates

pub laid-arm : (G : Gate) (f : Names) (a : Graph) → Small f → Has a f → (n m : ℕ) (env : Env) (mem mem₁ mem₂ o₁ o₂ : List ℕ) (n₁ m₁ n₂ m₂ : ℕ)
    → Laid (row (gated G) (members f)) n m env mem mem₁ o₁ n₁ m₁ → Laid a n₁ m₁ (named (members f) o₁ env) mem₁ mem₂ o₂ n₂ m₂
    → Laid (arm G f a) n m env mem mem₂ o₂ n₂ m₂
unfolding arm
laid-arm G f a s h n m env mem mem₁ mem₂ o₁ o₂ n₁ m₁ n₂ m₂ lr la =
    bind-apart (members f) (row (gated G) (members f)) a apart n m env mem mem₁ mem₂ o₁ o₂ n₁ m₁ n₂ m₂ lr la
  where
    apart : (x : ℕ) → free (row (gated G) (members f)) x && (free a x && not (member_of (members f) x)) ≡ false
    apart x = ap (λ (b : Bool). free (row (gated G) (members f)) x && b) (rw (h x, member-members f s x) (self (f x))) ∙ and_none (free (row (gated G) (members f)) x)
      where
        self : (b : Bool) → b && not b ≡ false
        self true = refl
        self false = refl

-- An arm has its test's output, since it has some name.
pub arm-tested : (G : Gate) (f : Names) (a : Graph) → Small f → (x : ℕ) → f x ≡ true → free (arm G f a) test_name ≡ true
unfolding arm free
arm-tested G f a s x h = or_left _ _ (row_has (gated G) (members f) test_name x (member-members f s x ∙ h) refl)

-- ---- the names that the parts of an if share

module _ (ns : List ℕ) (f : Names) (a : Graph) (ms : List ℕ) (g : Names) (b j : Graph) where
  -- what an if's parts are known to be
  pub record Parts : Type 0 where
    pub small-f : Small f
    pub small-g : Small g
    pub has-f : Has a f
    pub has-g : Has b g
    pub some-f : ℕ
    pub in_f : f some-f ≡ true
    pub some-g : ℕ
    pub in_g : g some-g ≡ true
    pub from-ns : From 34 ns
    pub from-ms : From 34 ms
    pub joins : (k : ℕ) → (k ≡ test_name → ⊥) → member_of ns k ≡ false → member_of ms k ≡ false → free j k ≡ false
    pub tests : free j test_name ≡ true

  abbrev pub lastPart : Graph
  lastPart = bind ms (arm F g b) j

  abbrev pub armsPart : Graph
  armsPart = bind ns (arm T f a) lastPart

  module _ (P : Parts) where
    -- behind the test
    pub arms-free : (k : ℕ) → without (free armsPart) (member_of (test_name ∷ [])) k ≡ f k || g k
    unfolding free member_of
    arms-free k = choice-free nothing ns f a ms g b j (λ x l. refl) P.small-f P.small-g P.has-f P.has-g P.from-ns P.from-ms P.joins k

    last-free : (k : ℕ) → k < 33 → free lastPart k ≡ g k
    unfolding free
    last-free k l =
        let n : k ≡ test_name → ⊥ = λ (e : k ≡ test_name). omega arith in
        ap₂ (λ (x y : Bool). x || (y && not (member_of ms k))) (arm-free F g b P.small-g P.has-g k n)
        (P.joins k n (P.from-ns k (omega arith)) (P.from-ms k (omega arith)))
        ∙ or-none (g k)
      where
        or-none : (t : Bool) → t || false ≡ t
        or-none true = refl
        or-none false = refl

    -- the first arm and what comes behind it share the names of both arms, and the test's output
    pub arms-share : (k : ℕ) → free (arm T f a) k && without (free lastPart) (member_of ns) k ≡ common f g k || eqb test_name k
    unfolding free
    arms-share k = go (ltb k 33) refl (eqb test_name k) refl
      where
        at_test : test_name ≡ k → free (arm T f a) k && (free lastPart k && not (member_of ns k)) ≡ true
        at_test e =
            let l : free (arm T f a) k ≡ true = ap (free (arm T f a)) (sym e) ∙ arm-tested T f a P.small-f P.some-f P.in_f in
            let r : free lastPart k ≡ true =
            ap (free lastPart) (sym e) ∙ or_left _ _ (arm-tested F g b P.small-g P.some-g P.in_g)
            in
            let q : member_of ns k ≡ false = ap (member_of ns) (sym e) ∙ P.from-ns test_name (omega arith) in
            rw (l, r, q) refl

        go : (s : Bool) → ltb k 33 ≡ s → (t : Bool) → eqb test_name k ≡ t
            → free (arm T f a) k && (free lastPart k && not (member_of ns k)) ≡ (f k && g k) || t
        go s p true q = at_test (eqb-true test_name k q) ∙ sym (or_right (f k && g k) true refl)
        go true p false q =
            let l : k < 33 = ltb-true k 33 p in
            let n : k ≡ test_name → ⊥ = λ (e : k ≡ test_name). omega arith in
            rw (arm-free T f a P.small-f P.has-f k n, last-free k l, P.from-ns k (omega arith)) (same (f k) (g k))
          where
            same : (x y : Bool) → x && (y && true) ≡ (x && y) || false
            same true true = refl
            same true false = refl
            same false y = refl
        go false p false q =
            let l : 33 ≤ k = ltb-false k 33 p in
            let n : k ≡ test_name → ⊥ = λ (e : k ≡ test_name). eqb-false test_name k q (sym e) in
            rw (arm-free T f a P.small-f P.has-f k n, P.small-f k l) refl

    -- the second arm and what joins the results share the test's output
    pub join-shares : (k : ℕ) → free (arm F g b) k && without (free j) (member_of ms) k ≡ eqb test_name k
    join-shares k = go (eqb test_name k) refl (g k) refl
      where
        go : (t : Bool) → eqb test_name k ≡ t → (u : Bool) → g k ≡ u → free (arm F g b) k && (free j k && not (member_of ms k)) ≡ t
        go true q u r =
            let e : test_name ≡ k = eqb-true test_name k q in
            rw (sym e, arm-tested F g b P.small-g P.some-g P.in_g, P.tests, P.from-ms test_name (omega arith)) refl
        go false q false r =
            let n : k ≡ test_name → ⊥ = λ (e : k ≡ test_name). eqb-false test_name k q (sym e) in
            rw (arm-free F g b P.small-g P.has-g k n, r) refl
        go false q true r =
            let n : k ≡ test_name → ⊥ = λ (e : k ≡ test_name). eqb-false test_name k q (sym e) in
            let l : k < 33 = below k r in
            rw (P.joins k n (P.from-ns k (omega arith)) (P.from-ms k (omega arith))) (and_none (free (arm F g b) k))
          where
            below : (x : ℕ) → g x ≡ true → x < 33
            below x h = pick (ltb x 33) refl
              where
                pick : (t : Bool) → ltb x 33 ≡ t → x < 33
                pick true p = ltb-true x 33 p
                pick false p = absurd (false≢true (sym (P.small-g x (ltb-false x 33 p)) ∙ h))

  -- ---- the parts, one after another

  pub laid-choice : (t : Graph) (n m : ℕ) (env : Env) (mem mem₁ mem₂ mem₃ mem₄ mem₅ mem₆ mem₇ o₀ o₁ o₂ o₃ : List ℕ) (n₁ m₁ n₂ m₂ n₃ m₃ n₄ m₄ n₅ m₅ n₆ m₆ n₇ m₇ : ℕ) (E₁ E₂ E₃ : Env)
      → E₁ ≡ named (test_name ∷ []) o₀ (second_use (free t) (without (free armsPart) (member_of (test_name ∷ []))) n env)
      → E₂ ≡ named ns o₁ (second_use (free (arm T f a)) (without (free lastPart) (member_of ns)) n₂ E₁)
      → E₃ ≡ named ms o₂ (second_use (free (arm F g b)) (without (free j) (member_of ms)) n₄ E₂)
      → Copied (free t) (without (free armsPart) (member_of (test_name ∷ []))) n m env mem mem₁ n₁ m₁
      → Laid t n₁ m₁ (first_use (free t) (without (free armsPart) (member_of (test_name ∷ []))) n env) mem₁ mem₂ o₀ n₂ m₂
      → Copied (free (arm T f a)) (without (free lastPart) (member_of ns)) n₂ m₂ E₁ mem₂ mem₃ n₃ m₃
      → Laid (arm T f a) n₃ m₃ (first_use (free (arm T f a)) (without (free lastPart) (member_of ns)) n₂ E₁) mem₃ mem₄ o₁ n₄ m₄
      → Copied (free (arm F g b)) (without (free j) (member_of ms)) n₄ m₄ E₂ mem₄ mem₅ n₅ m₅
      → Laid (arm F g b) n₅ m₅ (first_use (free (arm F g b)) (without (free j) (member_of ms)) n₄ E₂) mem₅ mem₆ o₂ n₆ m₆
      → Laid j n₆ m₆ E₃ mem₆ mem₇ o₃ n₇ m₇ → Laid (choice t ns f a ms g b j) n m env mem mem₇ o₃ n₇ m₇
  laid-choice t n m env mem mem₁ mem₂ mem₃ mem₄ mem₅ mem₆ mem₇ o₀ o₁ o₂ o₃ n₁ m₁ n₂ m₂ n₃ m₃ n₄ m₄ n₅ m₅ n₆ m₆ n₇ m₇ E₁ E₂ E₃ d₁ d₂ d₃ c₁ lt c₂ la c₃ lb lj =
      laid-bind (test_name ∷ []) t armsPart n m env mem mem₁ mem₂ mem₇ o₀ o₃ n₁ m₁ n₂ m₂ n₇ m₇ c₁ lt
      (subst (λ (e : Env). Laid armsPart n₂ m₂ e mem₂ mem₇ o₃ n₇ m₇) d₁
      (laid-bind ns (arm T f a) lastPart n₂ m₂ E₁ mem₂ mem₃ mem₄ mem₇ o₁ o₃ n₃ m₃ n₄ m₄ n₇ m₇ c₂ la
      (subst (λ (e : Env). Laid lastPart n₄ m₄ e mem₄ mem₇ o₃ n₇ m₇) d₂
      (laid-bind ms (arm F g b) j n₄ m₄ E₂ mem₄ mem₅ mem₆ mem₇ o₂ o₃ n₅ m₅ n₆ m₆ n₇ m₇ c₃ lb
      (subst (λ (e : Env). Laid j n₆ m₆ e mem₆ mem₇ o₃ n₇ m₇) d₃ lj)))))
