-- Laws of specs/Rounds.antt, and what only they need.
use Rattle.std.specs.Prelude.{ℕ, zero, suc, ◌+◌, ◌-◌, ◌≤◌, ◌≡◌, refl, Bool, true, false, List, ◌++◌, get_or, leb}
use Rattle.std.proofs.Common.{sym, ap, ◌∙◌, subst, arith, suc-add, le_of_suc-le-suc, leb-true, leb-false}
use Rattle.value.specs.declared.Value.{Value}
use Rattle.value.specs.declared.Sense.{Sense}
use Rattle.value.specs.declared.Sense.TheVariants.{True, False, Neither}
use Rattle.value.specs.Senses.{err, sense}
use Rattle.formula.specs.Tree.{Exp, identifier, constant, pair, operator, let_e, if_e, for_e, Body, ret, iter, let_b, if_b}
use Rattle.formula.specs.Widths.{returned}
use Rattle.meaning.specs.Meaning.{Env, bind, Outcome, yields, Ending, again, returns, then, then_b, after, enter, loop, branch, eval_e, eval_b}
use Rattle.meaning.specs.Rounds.{Within, WithinB, turns, extra, extra_b, Finished, FinishedB, Ends, values_of, left_of}

within-le : (o : Outcome) {m n : ℕ} → m ≤ n → Within m o → Within n o
within-le (yields vs l) h w = omega arith
within-le Outcome.unfinished h w = tt

within-le-B : (o : Ending) {m n : ℕ} → m ≤ n → WithinB m o → WithinB n o
within-le-B (again vs l) h w = omega arith
within-le-B (returns vs l) h w = omega arith
within-le-B Ending.unfinished h w = tt

then-within : (n : ℕ) (o : Outcome) (f : List Value → ℕ → Outcome)
    → Within n o → ((vs : List Value) (l : ℕ) → Within l (f vs l)) → Within n (then o f)
unfolding then
then-within n (yields vs l) f h k = within-le (f vs l) h (k vs l)
then-within n Outcome.unfinished f h k = tt

then-within-B : (n : ℕ) (o : Outcome) (f : List Value → ℕ → Ending)
    → Within n o → ((vs : List Value) (l : ℕ) → WithinB l (f vs l)) → WithinB n (then_b o f)
unfolding then_b
then-within-B n (yields vs l) f h k = within-le-B (f vs l) h (k vs l)
then-within-B n Outcome.unfinished f h k = tt

after-within : (n : ℕ) (o : Ending) (f : List Value → ℕ → Outcome)
    → WithinB n o → ((vs : List Value) (l : ℕ) → Within l (f vs l)) → Within n (after o f)
unfolding after
after-within n (again vs l) f h k = within-le (f vs l) h (k vs l)
after-within n (returns vs l) f h k = h
after-within n Ending.unfinished f h k = tt

loop-within : (round : Env → ℕ → Ending) (rebind : List Value → Env)
    → ((env : Env) (l : ℕ) → WithinB l (round env l))
    → (bound : ℕ) (env : Env) (l : ℕ) → Within l (loop bound round rebind env l)
unfolding loop enter
loop-within round rebind h zero env l = tt
loop-within round rebind h (suc f) env zero = tt
loop-within round rebind h (suc f) env (suc m) =
    within-le (after (round env m) (λ vs l'. loop f round rebind (rebind vs) l')) (omega arith)
    (after-within m (round env m) (λ vs l'. loop f round rebind (rebind vs) l') (h env m)
    (λ vs l'. loop-within round rebind h f (rebind vs) l'))

-- What holds of each way that a branch may go holds of the branch.
pub branch-holds : {A : Type 0} (P : A → Type 0) (s : Sense) (bad : A) (f g : Unit {0} → A)
    → P bad → P (f tt) → P (g tt) → P (branch s bad f g)
unfolding branch
branch-holds P True bad f g p q r = q
branch-holds P False bad f g p q r = r
branch-holds P Neither bad f g p q r = p

mutual
  unfolding eval_e then then_b loop branch

  pub within : (x : Exp) (env : Env) (l : ℕ) → Within l (eval_e x env l)
  within (identifier a) env l = omega arith
  within (constant k a) env l = omega arith
  within (pair x y) env l =
      then-within l (eval_e x env l) _ (within x env l)
      (λ vs l₁. then-within l₁ (eval_e y env l₁) (λ ws l₂. yields (vs ++ ws) l₂) (within y env l₁) (λ ws l₂. omega arith))
  within (operator k x) env l = then-within l (eval_e x env l) _ (within x env l) (λ vs l₁. omega arith)
  within (let_e a b x y) env l =
      then-within l (eval_e x env l) _ (within x env l) (λ vs l₁. within y (bind a b vs env) l₁)
  within (if_e t x y) env l =
      then-within l (eval_e t env l) _ (within t env l)
      (λ vs l₁.
      branch-holds (Within l₁) (sense (get_or vs 0 err)) _ (λ _. eval_e x env l₁) (λ _. eval_e y env l₁) (omega arith) (within x env l₁)
      (within y env l₁)
      )
  within (for_e a b x y) env l =
      then-within l (eval_e x env l) _ (within x env l)
      (λ vs l₁.
      loop-within (λ e m. eval_b y (returned y) e m) (λ ws. bind a b ws env) (λ e m. within-B y (returned y) e m) l₁
      (bind a b vs env) l₁
      )

  pub within-B : (y : Body) (w : ℕ) (env : Env) (l : ℕ) → WithinB l (eval_b y w env l)
  within-B (ret x) w env l = then-within-B l (eval_e x env l) _ (within x env l) (λ vs l₁. omega arith)
  within-B (iter x) w env l = then-within-B l (eval_e x env l) _ (within x env l) (λ vs l₁. omega arith)
  within-B (let_b a b x y) w env l =
      then-within-B l (eval_e x env l) _ (within x env l) (λ vs l₁. within-B y w (bind a b vs env) l₁)
  within-B (if_b t x y) w env l =
      then-within-B l (eval_e t env l) _ (within t env l)
      (λ vs l₁.
      branch-holds (WithinB l₁) (sense (get_or vs 0 err)) _ (λ _. eval_b x w env l₁) (λ _. eval_b y w env l₁) (omega arith)
      (within-B x w env l₁) (within-B y w env l₁)
      )

after-alike : (n : ℕ) (o : Ending) (f g : List Value → ℕ → Outcome)
    → WithinB n o → ((vs : List Value) (l : ℕ) → l ≤ n → f vs l ≡ g vs l) → after o f ≡ after o g
unfolding after
after-alike n (again vs l) f g h k = k vs l h
after-alike n (returns vs l) f g h k = refl
after-alike n Ending.unfinished f g h k = refl

-- Any bound from the rounds left on gives the same.
pub loop-bound : (round : Env → ℕ → Ending) (rebind : List Value → Env)
    → ((env : Env) (l : ℕ) → WithinB l (round env l))
    → (f g : ℕ) (env : Env) (l : ℕ) → l ≤ f → l ≤ g → loop f round rebind env l ≡ loop g round rebind env l
unfolding loop enter
loop-bound round rebind h zero zero env l p q = refl
loop-bound round rebind h zero (suc g) env zero p q = refl
loop-bound round rebind h zero (suc g) env (suc m) p q = absurd (omega arith)
loop-bound round rebind h (suc f) zero env zero p q = refl
loop-bound round rebind h (suc f) zero env (suc m) p q = absurd (omega arith)
loop-bound round rebind h (suc f) (suc g) env zero p q = refl
loop-bound round rebind h (suc f) (suc g) env (suc m) p q =
    after-alike m (round env m) _ _ (h env m)
    (λ vs l i. loop-bound round rebind h f g (rebind vs) l (omega arith) (omega arith))

-- "36 .. more rounds needed than lent": a body is not entered without a round.
pub turns-none : (y : Body) (a b : ℕ) (outer env : Env) → turns y a b outer env 0 ≡ Outcome.unfinished
unfolding turns loop
turns-none y a b outer env = refl

-- "a round is one entry into a loop body"; "An iter starts the body again with its identifiers rebound".
pub turns-step : (y : Body) (a b : ℕ) (outer env : Env) (m : ℕ)
    → turns y a b outer env (suc m)
    ≡ after (eval_b y (returned y) env m) (λ ws l. turns y a b outer (bind a b ws outer) l)
unfolding turns loop enter
turns-step y a b outer env m =
    after-alike m (eval_b y (returned y) env m) _ _ (within-B y (returned y) env m)
    (λ ws l h.
    loop-bound (λ e k. eval_b y (returned y) e k) (λ us. bind a b us outer) (λ e k. within-B y (returned y) e k) m l
    (bind a b ws outer) l h (omega arith)
    )

then-more : (k : ℕ) (o o' : Outcome) (f : List Value → ℕ → Outcome)
    → (Finished o → o' ≡ extra k o)
    → ((vs : List Value) (l : ℕ) → Finished (f vs l) → f vs (l + k) ≡ extra k (f vs l))
    → Finished (then o f) → then o' f ≡ extra k (then o f)
unfolding then extra
then-more k (yields vs l) o' f p q h = rw (p tt) (q vs l h)
then-more k Outcome.unfinished o' f p q h = absurd h

then-more-B : (k : ℕ) (o o' : Outcome) (f : List Value → ℕ → Ending)
    → (Finished o → o' ≡ extra k o)
    → ((vs : List Value) (l : ℕ) → FinishedB (f vs l) → f vs (l + k) ≡ extra_b k (f vs l))
    → FinishedB (then_b o f) → then_b o' f ≡ extra_b k (then_b o f)
unfolding then_b extra
then-more-B k (yields vs l) o' f p q h = rw (p tt) (q vs l h)
then-more-B k Outcome.unfinished o' f p q h = absurd h

after_more : (k : ℕ) (o o' : Ending) (f f' : List Value → ℕ → Outcome)
    → (FinishedB o → o' ≡ extra_b k o)
    → ((vs : List Value) (l : ℕ) → Finished (f vs l) → f' vs (l + k) ≡ extra k (f vs l))
    → Finished (after o f) → after o' f' ≡ extra k (after o f)
unfolding after extra extra_b
after_more k (again vs l) o' f f' p q h = rw (p tt) (q vs l h)
after_more k (returns vs l) o' f f' p q h = rw (p tt) refl
after_more k Ending.unfinished o' f f' p q h = absurd h

loop-more : (k : ℕ) (round : Env → ℕ → Ending) (rebind : List Value → Env)
    → ((env : Env) (l : ℕ) → FinishedB (round env l) → round env (l + k) ≡ extra_b k (round env l))
    → (f f' : ℕ) → f ≤ f' → (env : Env) (l : ℕ)
    → Finished (loop f round rebind env l) → loop f' round rebind env (l + k) ≡ extra k (loop f round rebind env l)
unfolding loop enter
loop-more k round rebind q zero f' p env l h = absurd h
loop-more k round rebind q (suc f) zero p env l h = absurd (omega arith)
loop-more k round rebind q (suc f) (suc f') p env zero h = absurd h
loop-more k round rebind q (suc f) (suc f') p env (suc m) h =
    rw suc-add
    (after_more k (round env m) (round env (m + k)) _ _ (q env m)
    (λ vs l e. loop-more k round rebind q f f' (le_of_suc-le-suc p) (rebind vs) l e) h)

branch-more : {A : Type 0} (Done : A → Type 0) (more : A → A) (s : Sense) (e e' : A) (f f' g g' : Unit {0} → A)
    → e' ≡ more e → (Done (f tt) → f' tt ≡ more (f tt)) → (Done (g tt) → g' tt ≡ more (g tt))
    → Done (branch s e f g) → branch s e' f' g' ≡ more (branch s e f g)
unfolding branch
branch-more Done more True e e' f f' g g' p q r h = q h
branch-more Done more False e e' f f' g g' p q r h = r h
branch-more Done more Neither e e' f f' g g' p q r h = p

mutual
  unfolding eval_e extra extra_b then then_b

  -- More rounds never change a finished outcome; they are all left.
  pub more-rounds : (x : Exp) (k : ℕ) (env : Env) (l : ℕ)
      → Finished (eval_e x env l) → eval_e x env (l + k) ≡ extra k (eval_e x env l)
  more-rounds (identifier a) k env l h = refl
  more-rounds (constant kind a) k env l h = refl
  more-rounds (pair x y) k env l h =
      then-more k (eval_e x env l) (eval_e x env (l + k)) _ (λ e. more-rounds x k env l e)
      (λ vs l₁ h₁.
      then-more k (eval_e y env l₁) (eval_e y env (l₁ + k)) _ (λ e. more-rounds y k env l₁ e) (λ ws l₂ h₂. refl) h₁
      )
      h
  more-rounds (operator c x) k env l h =
      then-more k (eval_e x env l) (eval_e x env (l + k)) _ (λ e. more-rounds x k env l e) (λ vs l₁ h₁. refl) h
  more-rounds (let_e a b x y) k env l h =
      then-more k (eval_e x env l) (eval_e x env (l + k)) _ (λ e. more-rounds x k env l e)
      (λ vs l₁ h₁. more-rounds y k (bind a b vs env) l₁ h₁) h
  more-rounds (if_e t x y) k env l h =
      then-more k (eval_e t env l) (eval_e t env (l + k)) _ (λ e. more-rounds t k env l e)
      (λ vs l₁ h₁.
      branch-more Finished (extra k) (sense (get_or vs 0 err)) _ _ _ _ _ _ refl (λ e. more-rounds x k env l₁ e) (λ e. more-rounds y k env l₁ e) h₁
      )
      h
  more-rounds (for_e a b x y) k env l h =
      then-more k (eval_e x env l) (eval_e x env (l + k)) _ (λ e. more-rounds x k env l e)
      (λ vs l₁ h₁.
      loop-more k _ _ (λ e m h₂. more-rounds-B y k (returned y) e m h₂) l₁ (l₁ + k) (omega arith) (bind a b vs env) l₁
      h₁
      )
      h

  pub more-rounds-B : (y : Body) (k w : ℕ) (env : Env) (l : ℕ)
      → FinishedB (eval_b y w env l) → eval_b y w env (l + k) ≡ extra_b k (eval_b y w env l)
  more-rounds-B (ret x) k w env l h =
      then-more-B k (eval_e x env l) (eval_e x env (l + k)) _ (λ e. more-rounds x k env l e) (λ vs l₁ h₁. refl) h
  more-rounds-B (iter x) k w env l h =
      then-more-B k (eval_e x env l) (eval_e x env (l + k)) _ (λ e. more-rounds x k env l e) (λ vs l₁ h₁. refl) h
  more-rounds-B (let_b a b x y) k w env l h =
      then-more-B k (eval_e x env l) (eval_e x env (l + k)) _ (λ e. more-rounds x k env l e)
      (λ vs l₁ h₁. more-rounds-B y k w (bind a b vs env) l₁ h₁) h
  more-rounds-B (if_b t x y) k w env l h =
      then-more-B k (eval_e t env l) (eval_e t env (l + k)) _ (λ e. more-rounds t k env l e)
      (λ vs l₁ h₁.
      branch-more FinishedB (extra_b k) (sense (get_or vs 0 err)) _ _ _ _ _ _ refl (λ e. more-rounds-B x k w env l₁ e)
      (λ e. more-rounds-B y k w env l₁ e) h₁
      )
      h

finished_as : {vs : List Value} {l : ℕ} (o : Outcome) → o ≡ yields vs l → Finished o
finished_as (yields vs l) e = tt
finished_as Outcome.unfinished e = absurd (subst Finished (sym e) tt)

-- What is yielded with some rounds is yielded with more, and as many are used.
pub still-enough : (x : Exp) (env : Env) (vs : List Value) (lent left k : ℕ)
    → eval_e x env lent ≡ yields vs left → eval_e x env (lent + k) ≡ yields vs (left + k)
unfolding extra
still-enough x env vs lent left k e = more-rounds x k env lent (finished_as (eval_e x env lent) e) ∙ ap (extra k) e

the_rest : (m n : ℕ) → m ≤ n → m + (n - m) ≡ n
the_rest m n h = omega arith

-- The result, and the rounds used, are the same for any numbers of rounds that are enough.
pub one-outcome : (x : Exp) (env : Env) (vs ws : List Value) (l m l' m' : ℕ)
    → eval_e x env l ≡ yields vs m → eval_e x env l' ≡ yields ws m' → (vs ≡ ws) × (m + l' ≡ m' + l)
one-outcome x env vs ws l m l' m' p q = go (leb l l') refl
  where
    go : (b : Bool) → leb l l' ≡ b → (vs ≡ ws) × (m + l' ≡ m' + l)
    go true t =
        let h : l ≤ l' = leb-true l l' t in
        let e : eval_e x env l' ≡ yields vs (m + (l' - l)) =
        subst (λ (n : ℕ). eval_e x env n ≡ yields vs (m + (l' - l))) (the_rest l l' h)
        (still-enough x env vs l m (l' - l) p)
        in
        let f : yields vs (m + (l' - l)) ≡ yields ws m' = sym e ∙ q in
        (ap values_of f, omega (arith, h, ap left_of f))
    go false t =
        let h : l' ≤ l = omega (arith, leb-false l l' t) in
        let e : eval_e x env l ≡ yields ws (m' + (l - l')) =
        subst (λ (n : ℕ). eval_e x env n ≡ yields ws (m' + (l - l'))) (the_rest l' l h)
        (still-enough x env ws l' m' (l - l') q)
        in
        let f : yields vs m ≡ yields ws (m' + (l - l')) = sym p ∙ e in
        (ap values_of f, omega (arith, h, ap left_of f))

pub ends-once : (x : Exp) (env : Env) (vs ws : List Value) → Ends x env vs → Ends x env ws → vs ≡ ws
ends-once x env vs ws p q =
    (one-outcome x env vs ws p.lent p.left q.lent q.left p.enough q.enough).0
