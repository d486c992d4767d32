-- Laws of specs/Scope.antt, and what only they need.
use Rattle.std.specs.Prelude.{ℕ, zero, suc, ◌-◌, ◌≡◌, refl, Bool, true, false, not, ◌&&◌, ◌||◌, cond, List, [], ◌∷◌, ◌++◌, get_or, replicate}
use Rattle.std.proofs.Common.{sym, ap, eq-eqb}
use Rattle.std.proofs.lemmas.Bool.{false≢true}
use Rattle.value.specs.declared.Value.{Value}
use Rattle.value.specs.Senses.{err, sense}
use Rattle.value.specs.Operators.{apply}
use Rattle.names.specs.Names.{Names, trigger, one, union, without, range}
use Rattle.formula.specs.Tree.{Exp, identifier, constant, pair, operator, let_e, if_e, for_e, Body, ret, iter, let_b, if_b}
use Rattle.formula.specs.Free.{free_e, free_b}
use Rattle.formula.specs.Widths.{width, returned}
use Rattle.meaning.specs.Meaning.{Env, bind, yields, Ending, again, returns, then, then_b, after, enter, loop, branch, eval_e, eval_b}
use Rattle.meaning.specs.Scope.{Agree}

or_left : (a b : Bool) → a ≡ true → a || b ≡ true
or_left true b h = refl
or_left false b h = absurd (false≢true h)

or_right : (a b : Bool) → b ≡ true → a || b ≡ true
or_right true b h = refl
or_right false b h = h

module _ (f g : Names) (e e' : Env) (h : Agree (union f g) e e') where
  agree_left : Agree f e e'
  agree_left k i = h k (or_left (f k) (g k) i)

  agree_right : Agree g e e'
  agree_right k i = h k (or_right (f k) (g k) i)

-- With the same values bound they agree on those names too.
agree-bound : (f : Names) (a b : ℕ) (vs : List Value) (e e' : Env) → Agree (without f (range a b)) e e' → Agree f (bind a b vs e) (bind a b vs e')
unfolding bind
agree-bound f a b vs e e' h k i = go (range a b k) (λ n. h k (out (f k) (range a b k) i n))
  where
    out : (p q : Bool) → p ≡ true → q ≡ false → p && not q ≡ true
    out true false s t = refl
    out true true s t = sym t
    out false q s t = s

    go : (r : Bool) → (r ≡ false → e k ≡ e' k) → cond r (get_or vs (k - a) err) (e k) ≡ cond r (get_or vs (k - a) err) (e' k)
    go true n = refl
    go false n = n refl

-- Loops whose rounds agree on the environments that they are given.
agree-loop : (f : Names) (round : Env → ℕ → Ending) → ((e e' : Env) → Agree f e e' → (l : ℕ) → round e l ≡ round e' l)
    → (rebind rebind' : List Value → Env) → ((vs : List Value) → Agree f (rebind vs) (rebind' vs))
    → (bound : ℕ) (e e' : Env) → Agree f e e' → (l : ℕ) → loop bound round rebind e l ≡ loop bound round rebind' e' l
unfolding loop
agree-loop f round same rebind rebind' agreed zero e e' h l = refl
agree-loop f round same rebind rebind' agreed (suc bound) e e' h l = λ i.
    enter l (λ m. after (same e e' h m i) (λ vs n. agree-loop f round same rebind rebind' agreed bound (rebind vs) (rebind' vs) (agreed vs) n i))

mutual
  unfolding free_e eval_e

  pub scope-E : (x : Exp) (e e' : Env) → Agree (free_e x) e e' → (left : ℕ) → eval_e x e left ≡ eval_e x e' left
  scope-E (identifier a) e e' h left = ap (λ (v : Value). yields (v ∷ []) left) (h a (eq-eqb a a refl))
  scope-E (constant k a) e e' h left = refl
  scope-E (pair x y) e e' h left = λ i.
      then (scope-E x e e' (agree_left (free_e x) (free_e y) e e' h) left i)
      (λ vs l. then (scope-E y e e' (agree_right (free_e x) (free_e y) e e' h) l i) (λ ws m. yields (vs ++ ws) m))
  scope-E (operator k x) e e' h left = λ i.
      then (scope-E x e e' h left i) (λ vs l. yields (apply k (get_or vs 0 err) (get_or vs 1 err) ∷ []) l)
  scope-E (let_e a b x y) e e' h left = λ i.
      then (scope-E x e e' (agree_left (free_e x) (without (free_e y) (range a b)) e e' h) left i)
      (λ vs l. scope-E y (bind a b vs e) (bind a b vs e') (agree-bound (free_e y) a b vs e e' (agree_right (free_e x) (without (free_e y) (range a b)) e e' h)) l i)
  scope-E (if_e t x y) e e' h left = λ i.
      then (scope-E t e e' (agree_left (free_e t) (union (free_e x) (free_e y)) e e' h) left i)
      (λ vs l. branch (sense (get_or vs 0 err)) (yields (replicate (width x) err) l)
      (λ _. scope-E x e e' (agree_left (free_e x) (free_e y) e e' (agree_right (free_e t) (union (free_e x) (free_e y)) e e' h)) l i)
      (λ _. scope-E y e e' (agree_right (free_e x) (free_e y) e e' (agree_right (free_e t) (union (free_e x) (free_e y)) e e' h)) l i))
  scope-E (for_e a b x y) e e' h left = λ i.
      then (scope-E x e e' (agree_left (free_e x) (without (free_b y) (range a b)) e e' h) left i)
      (λ vs l. agree-loop (free_b y) (λ d m. eval_b y (returned y) d m) (λ d d' g m. scope-B y (returned y) d d' g m)
      (λ ws. bind a b ws e) (λ ws. bind a b ws e')
      (λ ws. agree-bound (free_b y) a b ws e e' (agree_right (free_e x) (without (free_b y) (range a b)) e e' h))
      l (bind a b vs e) (bind a b vs e')
      (agree-bound (free_b y) a b vs e e' (agree_right (free_e x) (without (free_b y) (range a b)) e e' h)) l i)

  pub scope-B : (y : Body) (w : ℕ) (e e' : Env) → Agree (free_b y) e e' → (left : ℕ) → eval_b y w e left ≡ eval_b y w e' left
  scope-B (ret x) w e e' h left = λ i.
      then_b (scope-E x e e' (agree_right (one trigger) (free_e x) e e' h) left i) (λ vs l. returns vs l)
  scope-B (iter x) w e e' h left = λ i.
      then_b (scope-E x e e' (agree_right (one trigger) (free_e x) e e' h) left i) (λ vs l. again vs l)
  scope-B (let_b a b x y) w e e' h left = λ i.
      then_b (scope-E x e e' (agree_left (free_e x) (without (free_b y) (range a b)) e e' h) left i)
      (λ vs l. scope-B y w (bind a b vs e) (bind a b vs e') (agree-bound (free_b y) a b vs e e' (agree_right (free_e x) (without (free_b y) (range a b)) e e' h)) l i)
  scope-B (if_b t x y) w e e' h left = λ i.
      then_b (scope-E t e e' (agree_left (free_e t) (union (free_b x) (free_b y)) e e' h) left i)
      (λ vs l. branch (sense (get_or vs 0 err)) (returns (replicate w err) l)
      (λ _. scope-B x w e e' (agree_left (free_b x) (free_b y) e e' (agree_right (free_e t) (union (free_b x) (free_b y)) e e' h)) l i)
      (λ _. scope-B y w e e' (agree_right (free_b x) (free_b y) e e' (agree_right (free_e t) (union (free_b x) (free_b y)) e e' h)) l i))
