-- Laws of specs/BodyWidths.antt, and what only they need.
use Rattle.std.specs.Prelude.{ℕ, ◌≤◌, ◌≡◌, refl, Bool, true, false, cond}
use Rattle.std.proofs.Common.{sym, ◌∙◌, ne_eqb, arith}
use Rattle.std.proofs.lemmas.Bool.{false≢true}
use Rattle.formula.specs.Tree.{Exp, identifier, constant, pair, operator, let_e, if_e, for_e, Body, ret, iter, let_b, if_b}
use Rattle.formula.specs.Widths.{width, returned, iterated, either, wide_b}
use Rattle.formula.specs.Count.{returns, iterates}
use Rattle.formula.specs.Admitted.{AdmittedE, AdmittedB}
use Rattle.meaning.specs.WidthLaws.{SoundE, SoundB, Suits}
use Rattle.meaning.proofs.WidthLaws.{positive, if-fits-B, arms-suit, wide-16, wide-16-B}
use Rattle.theory_yields.proofs.Naming.{or-neither}
use Rattle.theory_yields.specs.BodyWidths.{iterated_outputs, returned_outputs}

-- ---- an admitted tree passes test 8 everywhere
mutual
  pub sound-E : (x : Exp) → AdmittedE x → SoundE x
  sound-E (identifier a) h = tt
  sound-E (constant k a) h = tt
  sound-E (pair x y) h = (h.0.0, sound-E x h.1, sound-E y h.2)
  sound-E (operator k x) h = (h.0.0, sound-E x h.2)
  sound-E (let_e a b x y) h = (h.0.0, sound-E x h.2, sound-E y h.3)
  sound-E (if_e t x y) h = (h.0.0, sound-E t h.1, sound-E x h.2, sound-E y h.3)
  sound-E (for_e a b x y) h = (h.0.0, sound-E x h.2, sound-B y h.3)

  pub sound-B : (y : Body) → AdmittedB y → SoundB y
  sound-B (ret x) h = sound-E x h.1
  sound-B (iter x) h = (h.0.0, sound-E x h.1)
  sound-B (let_b a b x y) h = (h.0.0, sound-E x h.2, sound-B y h.3)
  sound-B (if_b t x y) h = (h.0.0, sound-E t h.1, sound-B x h.2, sound-B y h.3)

pub wide_enough : (x : Exp) → AdmittedE x → 1 ≤ width x
wide_enough x h = positive x (sound-E x h)

pub not-too-wide : (x : Exp) → AdmittedE x → width x ≤ 16
unfolding width
not-too-wide (identifier a) h = omega arith
not-too-wide (constant k a) h = omega arith
not-too-wide (pair x y) h = wide-16 (pair x y) h.0.0
not-too-wide (operator k x) h = omega arith
not-too-wide (let_e a b x y) h = wide-16 (let_e a b x y) h.0.0
not-too-wide (if_e t x y) h = wide-16 (if_e t x y) h.0.0
not-too-wide (for_e a b x y) h = wide-16 (for_e a b x y) h.0.0

pub fine-body : (y : Body) → AdmittedB y → wide_b y ≡ true
fine-body (ret x) h = h.0.0
fine-body (iter x) h = h.0.0
fine-body (let_b a b x y) h = h.0.0
fine-body (if_b t x y) h = h.0.0

pub iterated-16 : (y : Body) → AdmittedB y → iterated y ≤ 16
iterated-16 y h = (wide-16-B y (fine-body y h)).0

-- ---- the width of two arms
pub either-none : (u v : ℕ) → u ≡ 0 → either u v ≡ v
either-none u v e = rw e refl

pub either-some : (u v : ℕ) → 1 ≤ u → either u v ≡ u
either-some u v h = simp (ne_eqb u 0 (λ e. omega arith))

-- ---- iterating and the iterated width
pub iterated-none : (y : Body) → iterates y ≡ false → iterated y ≡ 0
unfolding iterates iterated
iterated-none (ret x) h = refl
iterated-none (iter x) h = absurd (false≢true (sym h))
iterated-none (let_b a b x y) h = iterated-none y h
iterated-none (if_b t x y) h =
    let n : (iterates x ≡ false) × (iterates y ≡ false) = or-neither (iterates x) (iterates y) h in
    either-none (iterated x) (iterated y) (iterated-none x n.0) ∙ iterated-none y n.1

pub iterated-some : (y : Body) → AdmittedB y → iterates y ≡ true → 1 ≤ iterated y
unfolding iterates iterated
iterated-some (ret x) a h = absurd (false≢true h)
iterated-some (iter x) a h = wide_enough x a.1
iterated-some (let_b p q x y) a h = iterated-some y a.3 h
iterated-some (if_b t x y) a h = go (iterates x) refl (λ e. iterated-some x a.2 e) (λ e. iterated-some y a.3 e)
  where
    go : (b : Bool) → iterates x ≡ b → (iterates x ≡ true → 1 ≤ iterated x) → (iterates y ≡ true → 1 ≤ iterated y)
        → 1 ≤ either (iterated x) (iterated y)
    go true e p q = rw (either-some (iterated x) (iterated y) (p e)) (p e)
    go false e p q =
        let i : iterates y ≡ true = rw e at h in
        rw (either-none (iterated x) (iterated y) (iterated-none x e)) (q i)

pub iterates-some : (y : Body) → 1 ≤ iterated y → iterates y ≡ true
iterates-some y h = go (iterates y) refl
  where
    go : (b : Bool) → iterates y ≡ b → b ≡ true
    go true e = refl
    go false e = absurd (omega (arith, h, iterated-none y e))

-- ---- returning and the returned width
pub returns-some : (y : Body) → 1 ≤ returned y → returns y ≡ true
unfolding returns width
returns-some (ret x) h = refl
returns-some (iter x) h = absurd (omega arith)
returns-some (let_b a b x y) h = returns-some y h
returns-some (if_b t x y) h = refl

pub iterated-outputs : (y : Body) → iterated_outputs y ≡ iterated y
unfolding iterated_outputs
iterated-outputs y = go (iterates y) refl
  where
    go : (b : Bool) → iterates y ≡ b → cond b (iterated y) 0 ≡ iterated y
    go true e = refl
    go false e = sym (iterated-none y e)

pub returned-outputs : (w : ℕ) (y : Body) → returns y ≡ true → returned_outputs w y ≡ w
unfolding returned_outputs
returned-outputs w y h = rw h refl

pub returned-outputs-none : (w : ℕ) (y : Body) → returns y ≡ false → returned_outputs w y ≡ 0
unfolding returned_outputs
returned-outputs-none w y h = rw h refl

pub returned-outputs-le : (w : ℕ) (y : Body) → returned_outputs w y ≤ w
unfolding returned_outputs
returned-outputs-le w y = go (returns y)
  where
    go : (b : Bool) → cond b w 0 ≤ w
    go true = omega arith
    go false = omega arith

-- ---- the arms of a body's if
-- Where both arms iterate, they iterate as many values, and so does the if.
pub iterated-both : (t : Exp) (x y : Body) → AdmittedB (if_b t x y) → iterates x ≡ true → iterates y ≡ true → iterated x ≡ iterated y
iterated-both t x y a p q =
    let s = arms-suit (iterated x) (iterated y) (either (iterated x) (iterated y)) (if-fits-B t x y a.0.0).1 (λ i. refl) in
    s.0 (iterated-some x a.2 p) ∙ sym (s.1 (iterated-some y a.3 q))

pub iterated-first : (t : Exp) (x y : Body) → AdmittedB (if_b t x y) → iterates x ≡ true → iterated (if_b t x y) ≡ iterated x
unfolding iterated
iterated-first t x y a p = either-some (iterated x) (iterated y) (iterated-some x a.2 p)

pub iterated-second : (t : Exp) (x y : Body) → AdmittedB (if_b t x y) → iterates y ≡ true → iterated (if_b t x y) ≡ iterated y
unfolding iterated
iterated-second t x y a q =
    let s = arms-suit (iterated x) (iterated y) (either (iterated x) (iterated y)) (if-fits-B t x y a.0.0).1 (λ i. refl) in
    sym (s.1 (iterated-some y a.3 q))

-- The returned width of each arm that has one is that of the whole loop.
pub arms-return : (t : Exp) (x y : Body) (w : ℕ) → AdmittedB (if_b t x y) → Suits (returned (if_b t x y)) w
    → Suits (returned x) w × Suits (returned y) w
unfolding width
arms-return t x y w a s = arms-suit (returned x) (returned y) w (if-fits-B t x y a.0.0).2 s
