-- Laws of specs/WidthLaws.antt, and what only they need.
use Rattle.std.specs.Prelude.{ℕ, zero, suc, ◌+◌, ◌≤◌, ◌≡◌, refl, true, not, ◌&&◌, List, ◌++◌, eqb, leb, length, get_or}
use Rattle.std.proofs.Common.{sym, ◌∙◌, length-append, leb-true, eqb-true, ne_eqb, arith}
use Rattle.std.proofs.lemmas.Bool.{false≢true}
use Rattle.std.proofs.lemmas.List.{length-replicate}
use Rattle.value.specs.declared.Value.{Value}
use Rattle.value.specs.Senses.{err, sense}
use Rattle.value.specs.Operators.{operands}
use Rattle.formula.specs.Tree.{Exp, identifier, constant, pair, operator, let_e, if_e, for_e, Body, ret, iter, let_b, if_b}
use Rattle.formula.specs.Widths.{width, returned, iterated, either, agree, fitting_e, fitting_b, wide_e, wide_b}
use Rattle.formula.proofs.TreeLaws.{and-true}
use Rattle.formula.specs.Admitted.{AdmittedE, AdmittedB}
use Rattle.meaning.specs.Meaning.{Env, bind, Outcome, yields, Ending, again, returns, then, then_b, after, enter, loop, eval_e, eval_b}
use Rattle.meaning.proofs.Rounds.{branch-holds}
use Rattle.meaning.specs.WidthLaws.{Suits, SoundE, SoundB, Sized, SizedB}

-- ---- what test 8 says of a node, as equations
pub wide-16 : (x : Exp) → wide_e x ≡ true → width x ≤ 16
unfolding wide_e
wide-16 x h = leb-true (width x) 16 (and-true (leb (width x) 16) (fitting_e x) h).0

fitting : (x : Exp) → wide_e x ≡ true → fitting_e x ≡ true
unfolding wide_e
fitting x h = (and-true (leb (width x) 16) (fitting_e x) h).1

pub operator-fits : (k : ℕ) (x : Exp) → wide_e (operator k x) ≡ true → width x ≡ operands k
unfolding fitting_e
operator-fits k x h = eqb-true (width x) (operands k) (fitting (operator k x) h)

pub let-fits : (a b : ℕ) (x y : Exp) → wide_e (let_e a b x y) ≡ true → width x ≡ b
unfolding fitting_e
let-fits a b x y h = eqb-true (width x) b (fitting (let_e a b x y) h)

pub if-fits : (t x y : Exp) → wide_e (if_e t x y) ≡ true → (width t ≡ 1) × (width x ≡ width y)
unfolding fitting_e
if-fits t x y h =
    let both : (eqb (width t) 1 ≡ true) × (eqb (width x) (width y) ≡ true) =
    and-true (eqb (width t) 1) (eqb (width x) (width y)) (fitting (if_e t x y) h)
    in
    (eqb-true (width t) 1 both.0, eqb-true (width x) (width y) both.1)

not-zero : (n : ℕ) → not (eqb n 0) ≡ true → 1 ≤ n
not-zero zero h = absurd (false≢true h)
not-zero (suc n) h = omega arith

pub for-fits : (a b : ℕ) (x : Exp) (y : Body)
    → wide_e (for_e a b x y) ≡ true → (width x ≡ b) × (iterated y ≡ b) × (1 ≤ returned y)
unfolding fitting_e
for-fits a b x y h =
    let all : (eqb (width x) b && eqb (iterated y) b ≡ true) × (not (eqb (returned y) 0) ≡ true) =
    and-true (eqb (width x) b && eqb (iterated y) b) (not (eqb (returned y) 0)) (fitting (for_e a b x y) h)
    in
    let both : (eqb (width x) b ≡ true) × (eqb (iterated y) b ≡ true) =
    and-true (eqb (width x) b) (eqb (iterated y) b) all.0
    in
    (eqb-true (width x) b both.0, eqb-true (iterated y) b both.1, not-zero (returned y) all.1)

pub wide-16-B : (y : Body) → wide_b y ≡ true → (iterated y ≤ 16) × (returned y ≤ 16)
unfolding wide_b
wide-16-B y h =
    let both : (leb (iterated y) 16 ≡ true) × (leb (returned y) 16 ≡ true) =
    and-true (leb (iterated y) 16) (leb (returned y) 16)
    (and-true (leb (iterated y) 16 && leb (returned y) 16) (fitting_b y) h).0
    in
    (leb-true (iterated y) 16 both.0, leb-true (returned y) 16 both.1)

fitting-B : (y : Body) → wide_b y ≡ true → fitting_b y ≡ true
unfolding wide_b
fitting-B y h = (and-true (leb (iterated y) 16 && leb (returned y) 16) (fitting_b y) h).1

-- A returned expression passes as an expression.
pub ret-fits : (x : Exp) → wide_b (ret x) ≡ true → wide_e x ≡ true
unfolding wide_e fitting_b wide_b
ret-fits x h = rw (and-true (leb (width x) 16) (fitting_e x) h).0 (fitting-B (ret x) h)

pub let-fits-B : (a b : ℕ) (x : Exp) (y : Body) → wide_b (let_b a b x y) ≡ true → width x ≡ b
unfolding fitting_b
let-fits-B a b x y h = eqb-true (width x) b (fitting-B (let_b a b x y) h)

pub if-fits-B : (t : Exp) (x y : Body)
    → wide_b (if_b t x y) ≡ true
    → (width t ≡ 1) × (agree (iterated x) (iterated y) ≡ true) × (agree (returned x) (returned y) ≡ true)
unfolding fitting_b
if-fits-B t x y h =
    let all : (eqb (width t) 1 && agree (iterated x) (iterated y) ≡ true) × (agree (returned x) (returned y) ≡ true) =
    and-true (eqb (width t) 1 && agree (iterated x) (iterated y)) (agree (returned x) (returned y))
    (fitting-B (if_b t x y) h)
    in
    let both : (eqb (width t) 1 ≡ true) × (agree (iterated x) (iterated y) ≡ true) =
    and-true (eqb (width t) 1) (agree (iterated x) (iterated y)) all.0
    in
    (eqb-true (width t) 1 both.0, both.1, all.1)

positive-first : (u v : ℕ) → either (suc u) v ≡ suc u
positive-first u v = simp (ne_eqb (suc u) 0 (λ e. omega arith))

positive-agree : (u v : ℕ) → agree (suc u) (suc v) ≡ true → suc u ≡ suc v
positive-agree u v h =
    eqb-true (suc u) (suc v) (simp (ne_eqb (suc u) 0 (λ e. omega arith), ne_eqb (suc v) 0 (λ e. omega arith)) at h)

-- "body arms are equal in each width that both have": each arm's width, where it has one, is that of the two.
pub arms-suit : (u v w : ℕ) → agree u v ≡ true → Suits (either u v) w → Suits u w × Suits v w
arms-suit zero v w h s = ((λ i. absurd (omega arith)), s)
arms-suit (suc u) zero w h s = (rw (positive-first u 0) at s, (λ i. absurd (omega arith)))
arms-suit (suc u) (suc v) w h s =
    let t : Suits (suc u) w = rw (positive-first u (suc v)) at s in
    (t, (λ i. sym (positive-agree u v h) ∙ t (omega arith)))

-- Every width there is, is at least 1.
pub positive : (x : Exp) → SoundE x → 1 ≤ width x
unfolding width
positive (identifier a) s = omega arith
positive (constant k a) s = omega arith
positive (pair x y) s = omega (arith, positive x s.1, positive y s.2)
positive (operator k x) s = omega arith
positive (let_e a b x y) s = positive y s.2
positive (if_e t x y) s = positive x s.2
positive (for_e a b x y) s = (for-fits a b x y s.0).2

then-sized : (n m : ℕ) (o : Outcome) (f : List Value → ℕ → Outcome)
    → Sized n o → ((vs : List Value) (l : ℕ) → length vs ≡ n → Sized m (f vs l)) → Sized m (then o f)
unfolding then
then-sized n m (yields vs l) f h k = k vs l h
then-sized n m Outcome.unfinished f h k = tt

then-sized-B : (n i w : ℕ) (o : Outcome) (f : List Value → ℕ → Ending)
    → Sized n o → ((vs : List Value) (l : ℕ) → length vs ≡ n → SizedB i w (f vs l)) → SizedB i w (then_b o f)
unfolding then_b
then-sized-B n i w (yields vs l) f h k = k vs l h
then-sized-B n i w Outcome.unfinished f h k = tt

after-sized : (n w : ℕ) (o : Ending) (f : List Value → ℕ → Outcome)
    → SizedB n w o → ((vs : List Value) (l : ℕ) → Sized w (f vs l)) → Sized w (after o f)
unfolding after
after-sized n w (again vs l) f h k = k vs l
after-sized n w (returns vs l) f h k = h
after-sized n w Ending.unfinished f h k = tt

loop-sized : (n w : ℕ) (round : Env → ℕ → Ending) (rebind : List Value → Env)
    → ((env : Env) (l : ℕ) → SizedB n w (round env l))
    → (bound : ℕ) (env : Env) (l : ℕ) → Sized w (loop bound round rebind env l)
unfolding loop enter
loop-sized n w round rebind h zero env l = tt
loop-sized n w round rebind h (suc f) env zero = tt
loop-sized n w round rebind h (suc f) env (suc m) =
    after-sized n w (round env m) (λ vs l'. loop f round rebind (rebind vs) l') (h env m)
    (λ vs l'. loop-sized n w round rebind h f (rebind vs) l')

-- An arm's iterated values are as many as the two arms'.
arm-sized : (n m w : ℕ) (o : Ending) → Suits n m → SizedB n w o → SizedB m w o
arm-sized n m w (again vs l) s h = (h.0 ∙ s h.1, omega (arith, h.1, s h.1))
arm-sized n m w (returns vs l) s h = h
arm-sized n m w Ending.unfinished s h = tt

mutual
  unfolding eval_e width iterated then then_b

  pub sized : (x : Exp) → SoundE x → (env : Env) (l : ℕ) → Sized (width x) (eval_e x env l)
  sized (identifier a) s env l = refl
  sized (constant k a) s env l = refl
  sized (pair x y) s env l =
      then-sized (width x) (width x + width y) (eval_e x env l) _ (sized x s.1 env l)
      (λ vs l₁ h.
      then-sized (width y) (width x + width y) (eval_e y env l₁) (λ ws l₂. yields (vs ++ ws) l₂) (sized y s.2 env l₁)
      (λ ws l₂ i. length-append vs ws ∙ rw (h, i) refl)
      )
  sized (operator k x) s env l =
      then-sized (width x) 1 (eval_e x env l) _ (sized x s.1 env l) (λ vs l₁ h. refl)
  sized (let_e a b x y) s env l =
      then-sized (width x) (width y) (eval_e x env l) _ (sized x s.1 env l)
      (λ vs l₁ h. sized y s.2 (bind a b vs env) l₁)
  sized (if_e t x y) s env l =
      then-sized (width t) (width x) (eval_e t env l) _ (sized t s.1 env l)
      (λ vs l₁ h.
      branch-holds (Sized (width x)) (sense (get_or vs 0 err)) _ (λ _. eval_e x env l₁) (λ _. eval_e y env l₁) (length-replicate (width x) err)
      (sized x s.2 env l₁)
      (rw (if-fits t x y s.0).1 (sized y s.3 env l₁))
      )
  sized (for_e a b x y) s env l =
      then-sized (width x) (returned y) (eval_e x env l) _ (sized x s.1 env l)
      (λ vs l₁ h.
      loop-sized (iterated y) (returned y) (λ e m. eval_b y (returned y) e m) (λ ws. bind a b ws env)
      (λ e m. sized-B y s.2 (returned y) (λ i. refl) e m) l₁ (bind a b vs env) l₁
      )

  pub sized-B : (y : Body) → SoundB y → (w : ℕ) → Suits (returned y) w → (env : Env) (l : ℕ)
      → SizedB (iterated y) w (eval_b y w env l)
  sized-B (ret x) s w r env l =
      then-sized-B (width x) 0 w (eval_e x env l) _ (sized x s env l) (λ vs l₁ h. h ∙ r (positive x s))
  sized-B (iter x) s w r env l =
      then-sized-B (width x) (width x) w (eval_e x env l) _ (sized x s.1 env l) (λ vs l₁ h. (h, positive x s.1))
  sized-B (let_b a b x y) s w r env l =
      then-sized-B (width x) (iterated y) w (eval_e x env l) _ (sized x s.1 env l)
      (λ vs l₁ h. sized-B y s.2 w r (bind a b vs env) l₁)
  sized-B (if_b t x y) s w r env l =
      let fits : (width t ≡ 1) × (agree (iterated x) (iterated y) ≡ true) × (agree (returned x) (returned y) ≡ true) =
      if-fits-B t x y s.0
      in
      let back : Suits (returned x) w × Suits (returned y) w = arms-suit (returned x) (returned y) w fits.2 r in
      let on : Suits (iterated x) (either (iterated x) (iterated y)) × Suits (iterated y) (either (iterated x) (iterated y)) =
      arms-suit (iterated x) (iterated y) (either (iterated x) (iterated y)) fits.1 (λ i. refl)
      in
      then-sized-B (width t) (either (iterated x) (iterated y)) w (eval_e t env l) _ (sized t s.1 env l)
      (λ vs l₁ h.
      branch-holds (SizedB (either (iterated x) (iterated y)) w) (sense (get_or vs 0 err)) _ (λ _. eval_b x w env l₁) (λ _. eval_b y w env l₁)
      (length-replicate w err)
      (arm-sized (iterated x) _ w (eval_b x w env l₁) on.0 (sized-B x s.2 w back.0 env l₁))
      (arm-sized (iterated y) _ w (eval_b y w env l₁) on.1 (sized-B y s.3 w back.1 env l₁))
      )

-- ---- an admitted tree is sound
mutual
  pub admitted-sound : (x : Exp) → AdmittedE x → SoundE x
  admitted-sound (identifier a) h = tt
  admitted-sound (constant k a) h = tt
  admitted-sound (pair x y) h = (h.0.0, admitted-sound x h.1, admitted-sound y h.2)
  admitted-sound (operator k x) h = (h.0.0, admitted-sound x h.2)
  admitted-sound (let_e a b x y) h = (h.0.0, admitted-sound x h.2, admitted-sound y h.3)
  admitted-sound (if_e t x y) h = (h.0.0, admitted-sound t h.1, admitted-sound x h.2, admitted-sound y h.3)
  admitted-sound (for_e a b x y) h = (h.0.0, admitted-sound x h.2, admitted-sound-B y h.3)

  pub admitted-sound-B : (y : Body) → AdmittedB y → SoundB y
  admitted-sound-B (ret x) h = admitted-sound x h.1
  admitted-sound-B (iter x) h = (h.0.0, admitted-sound x h.1)
  admitted-sound-B (let_b a b x y) h = (h.0.0, admitted-sound x h.2, admitted-sound-B y h.3)
  admitted-sound-B (if_b t x y) h = (h.0.0, admitted-sound t h.1, admitted-sound-B x h.2, admitted-sound-B y h.3)
