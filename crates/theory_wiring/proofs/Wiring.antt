-- Laws of specs/Wiring.antt, and what only they need.
use Prim.Native.Nat.{ℕ, zero, suc, ◌+◌, ◌≤◌, ◌<◌}
use Rattle.std.specs.Prelude.{◌≡◌, ◌⊎◌, Bool, true, false, List, [], ◌∷◌, eqb}
use Rattle.std.proofs.Math.Path.{refl, sym}
use Rattle.std.proofs.Common.{ap, ◌∙◌, inl, inr, eqb-true, eq-eqb}
use native.Mathlib.Omega.{arith}
use Rattle.std.proofs.Math.Decide.{dec_lt}
use Rattle.names.specs.Names.{Names, bit}
use Rattle.network.specs.Uses.{In}
use Rattle.theory_pieces.specs.Sets.{Different}
use Rattle.graph.specs.Assembly.{Graph, free, Env, Operator, up_from, name_count, links_of, outputs, operators_of}
use Rattle.graph.specs.Fit.{Fit}
use Rattle.theory_reference.specs.Plan.{Between, Envs}
use Rattle.theory_wiring.specs.Tally.{times, amount, sum_over}
use Rattle.theory_wiring.proofs.Tally.{times-append, times-nil, in-times, before-times, behind-times, within-times, sum-end}
use Rattle.theory_wiring.specs.Links.{input_links, output_links, taken, emitted}
use Rattle.theory_wiring.proofs.Links.{hits}
use Rattle.theory_wiring.proofs.Conservation.{emitted-once, conserved}
use Rattle.theory_wiring.specs.Wiring.{inputs_at, outputs_at}

-- ---- lists in which no link stands twice
pub once-different : (xs : List ℕ) → ((l : ℕ) → times l xs ≤ 1) → Different xs
unfolding times
once-different [] h = tt
once-different (x ∷ xs) h = (
  (λ i.
      let b : bit (eqb x x) ≡ 1 = ap bit (eq-eqb x x refl) in
      omega (arith, b, h x, in-times x xs i)
      ),
  once-different xs (λ l. omega (arith, h l)),
)

pub taken_at : (l : ℕ) (ops : List Operator) (i : ℕ) → times l (inputs_at ops i) ≤ times l (taken ops)
unfolding inputs_at taken
taken_at l [] i = omega (arith, times-nil l)
taken_at l (o ∷ ops) zero = omega (arith, times-append l (input_links o) (taken ops))
taken_at l (o ∷ ops) (suc i) = omega (arith, times-append l (input_links o) (taken ops), taken_at l ops i)

pub emitted-at : (l : ℕ) (ops : List Operator) (i : ℕ) → times l (outputs_at ops i) ≤ times l (emitted ops)
unfolding outputs_at emitted
emitted-at l [] i = omega (arith, times-nil l)
emitted-at l (o ∷ ops) zero = omega (arith, times-append l (output_links o) (emitted ops))
emitted-at l (o ∷ ops) (suc i) = omega (arith, times-append l (output_links o) (emitted ops), emitted-at l ops i)

one_place : (l : ℕ) (ops : List Operator) → times l (taken ops) ≤ 1 → (i j : ℕ) → 1 ≤ times l (inputs_at ops i) → 1 ≤ times l (inputs_at ops j) → i ≡ j
unfolding inputs_at taken
one_place l [] h i j p q = absurd (omega (arith, times-nil l))
one_place l (o ∷ ops) h zero zero p q = refl
one_place l (o ∷ ops) h zero (suc j) p q = absurd (omega (arith, times-append l (input_links o) (taken ops), taken_at l ops j))
one_place l (o ∷ ops) h (suc i) zero p q = absurd (omega (arith, times-append l (input_links o) (taken ops), taken_at l ops i))
one_place l (o ∷ ops) h (suc i) (suc j) p q = ap suc (one_place l ops (omega (arith, times-append l (input_links o) (taken ops))) i j p q)

one-source : (l : ℕ) (ops : List Operator) → times l (emitted ops) ≤ 1 → (i j : ℕ) → 1 ≤ times l (outputs_at ops i) → 1 ≤ times l (outputs_at ops j) → i ≡ j
unfolding outputs_at emitted
one-source l [] h i j p q = absurd (omega (arith, times-nil l))
one-source l (o ∷ ops) h zero zero p q = refl
one-source l (o ∷ ops) h zero (suc j) p q = absurd (omega (arith, times-append l (output_links o) (emitted ops), emitted-at l ops j))
one-source l (o ∷ ops) h (suc i) zero p q = absurd (omega (arith, times-append l (output_links o) (emitted ops), emitted-at l ops i))
one-source l (o ∷ ops) h (suc i) (suc j) p q = ap suc (one-source l ops (omega (arith, times-append l (output_links o) (emitted ops))) i j p q)

-- ---- the links of names
module _ (l : ℕ) (f : Names) (env : Env) where
  -- a name that has this link, among the first k
  abbrev Name : ℕ → Type 0
  Name k = (x : ℕ) × (x < k) × (f x ≡ true) × (env x ≡ l)

  last_name : (k : ℕ) (b : Bool) → f k ≡ b → 1 ≤ amount b (hits l env k) → (f k ≡ true) × (env k ≡ l)
  last_name k true e h = (e, go (eqb (env k) l) refl)
    where
      go : (c : Bool) → eqb (env k) l ≡ c → env k ≡ l
      go true p = eqb-true (env k) l p
      go false p = let z : bit (eqb (env k) l) ≡ 0 = ap bit p in absurd (omega arith)
  last_name k false e h = absurd (omega arith)

  named-somewhere : (k : ℕ) → 1 ≤ sum_over k f (hits l env) → Name k
  unfolding sum_over
  named-somewhere zero h = absurd (omega arith)
  named-somewhere (suc k) h = go (λ p. named-somewhere k p) (dec_lt 0 (sum_over k f (hits l env)))
    where
      go : (1 ≤ sum_over k f (hits l env) → Name k) → Dec (0 < sum_over k f (hits l env)) → Name (suc k)
      go ih (yes p) = let w = ih (omega arith) in (w.0, omega (arith, w.1), w.2, w.3)
      go ih (no p) =
          let w = last_name k (f k) refl (omega (arith, h, sum-end k f (hits l env))) in
          (k, omega arith, w.0, w.1)

  hit-le : (b : Bool) (k : ℕ) → amount b (hits l env k) ≤ 1
  hit-le true k = go (eqb (env k) l)
    where
      go : (c : Bool) → bit c ≤ 1
      go true = omega arith
      go false = omega arith
  hit-le false k = omega arith

  named-once : ((x y : ℕ) → f x ≡ true → f y ≡ true → env x ≡ env y → x ≡ y) → (k : ℕ) → sum_over k f (hits l env) ≤ 1
  unfolding sum_over
  named-once d zero = omega arith
  named-once d (suc k) = go (named-once d k) (dec_lt 0 (sum_over k f (hits l env))) (dec_lt 0 (amount (f k) (hits l env k)))
    where
      go : sum_over k f (hits l env) ≤ 1 → Dec (0 < sum_over k f (hits l env)) → Dec (0 < amount (f k) (hits l env k)) → sum_over (suc k) f (hits l env) ≤ 1
      go ih (yes p) (yes q) =
          let w = named-somewhere k p in
          let v = last_name k (f k) refl q in
          absurd (omega (arith, w.1, d w.0 k w.2 v.0 (w.3 ∙ sym v.1)))
      go ih (yes p) (no q) = omega (arith, ih, sum-end k f (hits l env))
      go ih (no p) d = omega (arith, sum-end k f (hits l env), hit-le (f k) k)

-- ---- one taker, one putter
module _ (g : Graph) (n : ℕ) (env : Env) where
  abbrev ops : List Operator
  ops = operators_of g n env

  abbrev outs : List ℕ
  outs = outputs g n env

  -- A link of the graph's own, and the link of one of its names.
  abbrev pub Own : ℕ → Type 0
  Own l = Between n (links_of g) l

  abbrev pub Port : ℕ → Type 0
  Port l = (x : ℕ) × (free g x ≡ true) × (l ≡ env x)

  abbrev pub Zone : ℕ → Type 0
  Zone l = Own l ⊎ Port l

  module _ (F : Fit g) (E : Envs (free g) env n) where
    -- a link lies before the own links, among them or behind them
    abbrev Cases : ℕ → Type 0
    Cases l = ((l < n) × (times l (up_from n (links_of g)) ≡ 0)) ⊎ ((Own l × (times l (up_from n (links_of g)) ≡ 1)) ⊎ ((n + links_of g ≤ l) × (times l (up_from n (links_of g)) ≡ 0)))

    own-cases : (l : ℕ) → Cases l
    own-cases l = go (dec_lt l n) (dec_lt l (n + links_of g))
      where
        go : Dec (l < n) → Dec (l < n + links_of g) → Cases l
        go (yes p) d = inl (p, before-times l n (links_of g) p)
        go (no p) (yes q) = inr (inl ((omega arith, q), within-times l n (links_of g) (omega arith) q))
        go (no p) (no q) = inr (inr (omega arith, behind-times l n (links_of g) (omega arith)))

    abbrev names : ℕ → ℕ
    names l = sum_over name_count (free g) (hits l env)

    name-port : (l : ℕ) → 1 ≤ names l → Port l
    name-port l h = let w = named-somewhere l (free g) env name_count h in (w.0, w.2, sym w.3)

    high-nameless : (l : ℕ) → n ≤ l → names l ≡ 0
    high-nameless l h = go (dec_lt 0 (names l))
      where
        go : Dec (0 < names l) → names l ≡ 0
        go (yes p) = let w = name-port l p in absurd (omega (arith, w.2, E.below w.0 w.1))
        go (no p) = omega arith

    pub once : (l : ℕ) → times l (taken ops) + times l outs ≤ 1
    once l = go (own-cases l)
      where
        low : names l ≤ 1
        low = named-once l (free g) env E.differ name_count

        go : Cases l → times l (taken ops) + times l outs ≤ 1
        go (inl (p, e)) = omega (arith, conserved l g n env F, emitted-once l g n env F, low)
        go (inr (inl (p, e))) = omega (arith, conserved l g n env F, emitted-once l g n env F, high-nameless l p.0)
        go (inr (inr (p, e))) = omega (arith, conserved l g n env F, emitted-once l g n env F, high-nameless l (omega arith))

    pub emitted-le : (l : ℕ) → times l (emitted ops) ≤ 1
    emitted-le l = go (own-cases l)
      where
        go : Cases l → times l (emitted ops) ≤ 1
        go (inl (p, e)) = omega (arith, emitted-once l g n env F)
        go (inr (inl (p, e))) = omega (arith, emitted-once l g n env F)
        go (inr (inr (p, e))) = omega (arith, emitted-once l g n env F)

    emitted-own : (l : ℕ) → 1 ≤ times l (emitted ops) → Own l
    emitted-own l h = go (own-cases l)
      where
        go : Cases l → Own l
        go (inl (p, e)) = absurd (omega (arith, h, emitted-once l g n env F))
        go (inr (inl (p, e))) = p
        go (inr (inr (p, e))) = absurd (omega (arith, h, emitted-once l g n env F))

    -- what is taken from or is an output is an own link or a name's
    used-zone : (l : ℕ) → 1 ≤ times l (taken ops) + times l outs → Zone l
    used-zone l h = go (dec_lt 0 (names l))
      where
        go : Dec (0 < names l) → Zone l
        go (yes p) = inr (name-port l p)
        go (no p) = inl (emitted-own l (omega (arith, h, conserved l g n env F)))

    -- Every own link is taken from or is an output; so is every name's link.
    pub own-used : (l : ℕ) → Own l → times l (taken ops) + times l outs ≡ 1
    own-used l o = omega (arith, conserved l g n env F, emitted-once l g n env F, within-times l n (links_of g) o.0 o.1, high-nameless l o.0)

    -- The outputs: own links or links of names, and all different.
    pub outputs-zone : (l : ℕ) → In l outs → Zone l
    outputs-zone l i = used-zone l (omega (arith, in-times l outs i))

    pub outputs-different : Different outs
    outputs-different = once-different outs (λ l. omega (arith, once l))

    -- The wiring, by operators' numbers.
    pub record Wired : Type 0 where
      pub one-taker : (i j l : ℕ) → In l (inputs_at ops i) → In l (inputs_at ops j) → i ≡ j
      pub one-putter : (i j l : ℕ) → In l (outputs_at ops i) → In l (outputs_at ops j) → i ≡ j
      pub inputs-differ : (i : ℕ) → Different (inputs_at ops i)
      pub outputs-differ : (i : ℕ) → Different (outputs_at ops i)
      pub takes-in-zone : (i l : ℕ) → In l (inputs_at ops i) → Zone l
      pub puts-own : (i l : ℕ) → In l (outputs_at ops i) → Own l
      pub takes-no-output : (i l : ℕ) → In l (inputs_at ops i) → In l outs → ⊥

    pub wired : Wired
    wired =
        record {
          one-taker = λ i j l p q. one_place l ops (omega (arith, once l)) i j (in-times l (inputs_at ops i) p) (in-times l (inputs_at ops j) q);
          one-putter = λ i j l p q. one-source l ops (emitted-le l) i j (in-times l (outputs_at ops i) p) (in-times l (outputs_at ops j) q);
          inputs-differ = λ i. once-different (inputs_at ops i) (λ l. omega (arith, once l, taken_at l ops i));
          outputs-differ = λ i. once-different (outputs_at ops i) (λ l. omega (arith, emitted-le l, emitted-at l ops i));
          takes-in-zone = λ i l p. used-zone l (omega (arith, in-times l (inputs_at ops i) p, taken_at l ops i));
          puts-own = λ i l p. emitted-own l (omega (arith, in-times l (outputs_at ops i) p, emitted-at l ops i));
          takes-no-output = λ i l p q. omega (arith, once l, in-times l (inputs_at ops i) p, taken_at l ops i, in-times l outs q);
        }
