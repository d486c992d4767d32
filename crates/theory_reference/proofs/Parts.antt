-- Two parts of a graph laid out one behind the other, with the copies of the names that both use before them: where the links of the
-- parts lie in the whole. Both users' links are different, and each link of the whole is one of a part or the link of a shared name.
use Rattle.std.specs.Prelude.{ℕ, ◌+◌, ◌≤◌, ◌<◌, ◌≡◌, ◌⊎◌, true, false, ◌&&◌, List}
use Rattle.std.proofs.Common.{sym, ◌∙◌, subst, inl, inr, ⊎_elim, arith}
use Rattle.std.proofs.Math.Decide.{dec_lt}
use Rattle.names.specs.Names.{Names, union}
use Rattle.graph.specs.Assembly.{Env, shared_links, first_use, second_use}
use Rattle.theory_reference.proofs.NameSets.{either, or_left, or_right, or_cases, and_left, and_right}
use Rattle.theory_reference.specs.Plugged.{nowhere}
use Rattle.theory_reference.specs.Plan.{Plan, Register, Zone, Outside, Envs}
use Rattle.theory_reference.proofs.Sharing.{Shared, first_alone, second-alone, Spot, first-spot, second-spot, envs-first, envs-second, uses-apart, first-left, second-left, copies-used}

module _ (f g : Names) (n ka kb : ℕ) (env : Env) (oa ob : List ℕ) (Ra RB : ℕ → ℕ → Type 0) where
  abbrev pub First : Plan
  First = record { names = f; start = n + shared_links f g; size = ka; env = first_use f g n env; outs = oa; Ring = Ra }

  abbrev pub Second : Plan
  Second = record { names = g; start = n + shared_links f g + ka; size = kb; env = second_use f g n env; outs = ob; Ring = RB }

  -- The whole, with given outputs.
  abbrev pub Whole : List ℕ → Plan
  Whole os =
      record {
        names = union f g;
        start = n;
        size = shared_links f g + (ka + kb);
        env = env;
        outs = os;
        Ring = λ c r. Ra c r ⊎ RB c r;
      }

  module _ (os : List ℕ) (E : Envs (union f g) env n) where
    abbrev W : Plan
    W = Whole os

    pub zones-apart : (l : ℕ) → Zone First l → Zone Second l → ⊥
    zones-apart l (inl a) (inl b) = omega arith
    zones-apart l (inl a) (inr (y, b, e)) = let q = (envs-second f g n env E).below y b in omega arith
    zones-apart l (inr (x, a, e)) (inl b) = let q = (envs-first f g n env E).below x a in omega arith
    zones-apart l (inr (x, a, e)) (inr (y, b, h)) = uses-apart f g n env E x y a b (sym e ∙ h)

    spot-zone : (x l : ℕ) → union f g x ≡ true → l < n + shared_links f g → Spot f g n env E x l → Zone W l
    spot-zone x l a lt (inl (e, z)) = inr (x, a, z)
    spot-zone x l a lt (inr (e, lo, hi)) = inl (omega arith, omega arith)

    pub first-in : (l : ℕ) → Zone First l → Zone W l
    first-in l (inl a) = inl (omega arith, omega arith)
    first-in l (inr (x, a, e)) =
        let q = (envs-first f g n env E).below x a in
        spot-zone x l (or_left (f x) (g x) a) (omega arith) (subst (Spot f g n env E x) (sym e) (first-spot f g n env E x))

    pub second-in : (l : ℕ) → Zone Second l → Zone W l
    second-in l (inl a) = inl (omega arith, omega arith)
    second-in l (inr (x, a, e)) =
        let q = (envs-second f g n env E).below x a in
        spot-zone x l (or_right (f x) (g x) a) (omega arith) (subst (Spot f g n env E x) (sym e) (second-spot f g n env E x))

    -- the link of a shared name
    abbrev pub Spent : ℕ → Type 0
    Spent l = (x : ℕ) × Shared f g n env x × (l ≡ env x)

    pub spent-first : (l : ℕ) → Spent l → Zone First l → ⊥
    spent-first l (x, e, z) (inl a) = let q = E.below x (or_left (f x) (g x) (and_left (f x) (g x) e)) in omega arith
    spent-first l (x, e, z) (inr (y, b, h)) = first-left f g n env E x y e b (sym z ∙ h)

    pub spent-second : (l : ℕ) → Spent l → Zone Second l → ⊥
    spent-second l (x, e, z) (inl a) = let q = E.below x (or_left (f x) (g x) (and_left (f x) (g x) e)) in omega arith
    spent-second l (x, e, z) (inr (y, b, h)) = second-left f g n env E x y e b (sym z ∙ h)

    pub spent-low : (l : ℕ) → Spent l → l < n
    spent-low l (x, e, z) = let q = E.below x (or_left (f x) (g x) (and_left (f x) (g x) e)) in omega arith

    pub zone-cases : (l : ℕ) → Zone W l → Spent l ⊎ (Zone First l ⊎ Zone Second l)
    zone-cases l (inr (x, a, z)) = go (either (f x && g x)) (or_cases (f x) (g x) a)
      where
        go : (f x && g x ≡ true) ⊎ (f x && g x ≡ false) → (f x ≡ true) ⊎ (g x ≡ true) → Spent l ⊎ (Zone First l ⊎ Zone Second l)
        go (inl e) d = inl (x, e, z)
        go (inr e) (inl b) = inr (inl (inr (x, b, z ∙ sym (first_alone f g n env x e))))
        go (inr e) (inr b) = inr (inr (inr (x, b, z ∙ sym (second-alone f g n env x e))))
    zone-cases l (inl o) = go (dec_lt l (n + shared_links f g)) (dec_lt l (n + shared_links f g + ka))
      where
        used : (x : ℕ) × Shared f g n env x × ((l ≡ first_use f g n env x) ⊎ (l ≡ second_use f g n env x)) → Spent l ⊎ (Zone First l ⊎ Zone Second l)
        used (x, e, inl z) = inr (inl (inr (x, and_left (f x) (g x) e, z)))
        used (x, e, inr z) = inr (inr (inr (x, and_right (f x) (g x) e, z)))

        go : Dec (l < n + shared_links f g) → Dec (l < n + shared_links f g + ka) → Spent l ⊎ (Zone First l ⊎ Zone Second l)
        go (yes p) d = used (copies-used f g n env E l (omega arith, omega arith))
        go (no p) (yes q) = inr (inl (inl (omega arith, omega arith)))
        go (no p) (no q) = inr (inr (inl (omega arith, omega arith)))

    -- What lies outside the whole lies outside each part.
    pub outside-first : (l : ℕ) → Outside W l → Outside First l
    outside-first l u =
        record {
          not_own = λ a. u.not_own (omega arith, omega arith);
          not_register = λ a. u.not_register (omega arith, omega arith);
          not-port = λ p. ⊎_elim u.not_own u.not-port (first-in l (inr p));
        }

    pub outside-second : (l : ℕ) → Outside W l → Outside Second l
    outside-second l u =
        record {
          not_own = λ a. u.not_own (omega arith, omega arith);
          not_register = λ a. u.not_register (omega arith, omega arith);
          not-port = λ p. ⊎_elim u.not_own u.not-port (second-in l (inr p));
        }

    -- Links of one part lie outside the other. All of them lie below the absent link.
    module _ (fits : n + (shared_links f g + (ka + kb)) ≤ nowhere) where
      pub first-low : (l : ℕ) → Zone First l → l < nowhere
      first-low l (inl a) = omega arith
      first-low l (inr (x, a, e)) = let q = (envs-first f g n env E).below x a in omega arith

      pub second-low : (l : ℕ) → Zone Second l → l < nowhere
      second-low l (inl a) = omega arith
      second-low l (inr (x, a, e)) = let q = (envs-second f g n env E).below x a in omega arith

      pub first-outside : (l : ℕ) → Zone First l → Outside Second l
      first-outside l z =
          let q = first-low l z in
          record { not_own = λ a. zones-apart l z (inl a); not_register = λ a. omega arith; not-port = λ p. zones-apart l z (inr p) }

      pub second-outside : (l : ℕ) → Zone Second l → Outside First l
      second-outside l z =
          let q = second-low l z in
          record { not_own = λ a. zones-apart l (inl a) z; not_register = λ a. omega arith; not-port = λ p. zones-apart l (inr p) z }

      pub first-register-outside : (l : ℕ) → Register First l → Outside Second l
      first-register-outside l r =
          record { not_own = λ a. omega arith; not_register = λ a. omega arith; not-port = λ p. let q = second-low l (inr p) in omega arith }

      pub second-register-outside : (l : ℕ) → Register Second l → Outside First l
      second-register-outside l r =
          record { not_own = λ a. omega arith; not_register = λ a. omega arith; not-port = λ p. let q = first-low l (inr p) in omega arith }

      pub spent-outside-first : (l : ℕ) → Spent l → Outside First l
      spent-outside-first l z =
          let q = spent-low l z in
          record { not_own = λ a. spent-first l z (inl a); not_register = λ a. omega arith; not-port = λ p. spent-first l z (inr p) }

      pub spent-outside-second : (l : ℕ) → Spent l → Outside Second l
      spent-outside-second l z =
          let q = spent-low l z in
          record { not_own = λ a. spent-second l z (inl a); not_register = λ a. omega arith; not-port = λ p. spent-second l z (inr p) }

      pub nowhere-outside-first : Outside First nowhere
      nowhere-outside-first =
          record { not_own = λ a. omega arith; not_register = λ a. omega arith; not-port = λ p. let q = first-low nowhere (inr p) in omega arith }
