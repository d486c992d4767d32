-- Laws of specs/Sound.antt, and what only they need.
use Rattle.std.specs.Prelude.{ℕ, zero, suc, ◌-◌, ◌≡◌, Bool, true, false, cond, List, [], ◌∷◌, ◌++◌, pos, length, get_or}
use Rattle.std.proofs.Math.Path.{refl}
use Rattle.std.proofs.Common.{subst, ◌∙◌, arith}
use Rattle.value.specs.declared.Reason.TheVariants.{Other}
use Rattle.value.specs.declared.Value.{Value}
use Rattle.value.specs.declared.Value.TheVariants.{Whole}
use Rattle.value.specs.Operators.{apply, operands}
use Rattle.value.specs.Senses.{err}
use Rattle.names.specs.Names.{range}
use Rattle.formula.specs.Tree.{Exp, identifier, constant, pair, operator, let_e, if_e, for_e}
use Rattle.formula.specs.Widths.{width}
use Rattle.meaning.specs.Meaning.{Env, bind, Outcome, yields, then, eval_e}
use Rattle.meaning.specs.Loopless.{Loopless}
use Rattle.meaning.specs.WidthLaws.{SoundE, Sized}
use Rattle.meaning.proofs.WidthLaws.{sized, operator-fits}
use Rattle.sheet_movement.specs.Drifts.{Drifts, Operated, add, subtract, negate, multiply-first, multiply-second, divide}
use Rattle.sheet_movement.proofs.Drifts.{operated}
use Rattle.sheet_movement.specs.Moves.{Moves, bind_moves, moved, moves_e}
use Rattle.sheet_movement.specs.Outcomes.{Each, Any}
use Rattle.sheet_movement.proofs.Outcomes.{any, then-each}
use Rattle.sheet_movement.specs.Near.{Near, left}
use Rattle.sheet_movement.proofs.Near.{near-constant, near_add, near-subtract, near-negate, near-multiply-first, near-multiply-second, near-divide}
use Rattle.sheet_movement.specs.Sound.{AllNear, none, more, BothNear, NearEnv, First, Second}

-- No loop: evaluation ends and uses no round (meaning's specs/Loopless).
pub drifts-loopless : (x : Exp) → Drifts x → Loopless x
drifts-loopless (identifier a) h = tt
drifts-loopless (constant k a) h = tt
drifts-loopless (pair x y) h = (drifts-loopless x h.0, drifts-loopless y h.1)
drifts-loopless (operator code x) h = drifts-loopless x h.1
drifts-loopless (let_e a b x y) h = (drifts-loopless x h.0, drifts-loopless y h.1)
drifts-loopless (if_e t x y) h = absurd h
drifts-loopless (for_e a b x y) h = absurd h

-- At every place: past the values there is err.
pub near-at : (ds : List ℕ) (vs ws : List Value) → AllNear ds vs ws → (i : ℕ) → Near (get_or ds i 0) (get_or vs i err) (get_or ws i err)
near-at ds vs ws none i = left Other err
near-at ds vs ws (more n a) zero = n
near-at ds vs ws (more {ds = es} {vs = us} {ws = xs} n a) (suc i) = near-at es us xs a i

near-append : (ds es : List ℕ) (vs ws us xs : List Value) → AllNear ds vs ws → AllNear es us xs → AllNear (ds ++ es) (vs ++ us) (ws ++ xs)
near-append ds es vs ws us xs none b = b
near-append ds es vs ws us xs (more {ds = ds'} {vs = vs'} {ws = ws'} n a) b = more n (near-append ds' es vs' ws' us xs a b)

one-near : (d : ℕ) (v w : Value) → Near d v w → AllNear (d ∷ []) (v ∷ []) (w ∷ [])
one-near d v w n = more n none

then-near : (ds es : List ℕ) (P : List Value → Type 0) (o p : Outcome) (f g : List Value → ℕ → Outcome) → BothNear ds o p → Each P o → Each P p
    → ((vs ws : List Value) (l m : ℕ) → AllNear ds vs ws → P vs → P ws → BothNear es (f vs l) (g ws m)) → BothNear es (then o f) (then p g)
unfolding then
then-near ds es P (yields vs l) (yields ws m) f g n h i k = k vs ws l m n h i
then-near ds es P (yields vs l) Outcome.unfinished f g n h i k = nothing (f vs l)
  where
    nothing : (o : Outcome) → BothNear es o Outcome.unfinished
    nothing (yields us j) = tt
    nothing Outcome.unfinished = tt
then-near ds es P Outcome.unfinished p f g n h i k = tt

follow-near : (ds es : List ℕ) (o p : Outcome) (f g : List Value → ℕ → Outcome) → BothNear ds o p
    → ((vs ws : List Value) (l m : ℕ) → AllNear ds vs ws → BothNear es (f vs l) (g ws m)) → BothNear es (then o f) (then p g)
follow-near ds es o p f g n k = then-near ds es Any o p f g n (any o) (any p) (λ vs ws l m a h i. k vs ws l m a)

bind_near : (a b : ℕ) (ds : List ℕ) (vs ws : List Value) → AllNear ds vs ws → (moves : Moves) (u v : Env) → NearEnv moves u v
    → NearEnv (bind_moves a b ds moves) (bind a b vs u) (bind a b ws v)
unfolding bind bind_moves
bind_near a b ds vs ws n moves u v h k = go (range a b k)
  where
    go : (t : Bool) → Near (cond t (get_or ds (k - a) 0) (moves k)) (cond t (get_or vs (k - a) err) (u k)) (cond t (get_or ws (k - a) err) (v k))
    go true = near-at ds vs ws n (k - a)
    go false = h k

behind-one : (vs : List Value) (v : Value) → length vs ≡ 1 → get_or (vs ++ v ∷ []) 1 err ≡ v
behind-one [] v h = absurd (omega arith)
behind-one (u ∷ []) v h = refl
behind-one (u ∷ t ∷ vs) v h = absurd (omega (arith, h))

first-constant : (a : ℕ) (y : Exp) (env : Env) (l : ℕ) → Each (First a) (eval_e (pair (constant 2 a) y) env l)
unfolding eval_e then
first-constant a y env l = then-each Any (First a) (eval_e y env l) _ (any (eval_e y env l)) (λ ws m t. refl)

sized-each : (n : ℕ) (o : Outcome) → Sized n o → Each (λ vs. length vs ≡ n) o
sized-each n (yields vs l) h = h
sized-each n Outcome.unfinished h = tt

second-constant : (x : Exp) (a : ℕ) → SoundE x → width x ≡ 1 → (env : Env) (l : ℕ) → Each (Second a) (eval_e (pair x (constant 2 a)) env l)
unfolding eval_e then
second-constant x a s w env l =
    then-each (λ vs. length vs ≡ width x) (Second a) (eval_e x env l) _ (sized-each (width x) (eval_e x env l) (sized x s env l))
    (λ vs m h. behind-one vs (Whole (pos a)) (h ∙ w))

-- ---- trees
module _ (moves : Moves) (u v : Env) (l m : ℕ) where
  abbrev RowNear : Exp → Type 0
  RowNear x = BothNear (moves_e x moves) (eval_e x u l) (eval_e x v m)

  abbrev Both : (List Value → Type 0) → Exp → Type 0
  Both P x = Each P (eval_e x u l) × Each P (eval_e x v m)

  any-both : (x : Exp) → Both Any x
  any-both x = (any (eval_e x u l), any (eval_e x v m))

  -- An operator on a row whose values are near: what is left is its law.
  operate : (code : ℕ) (x : Exp) (P : List Value → Type 0) → RowNear x → Both P x
      → ((vs ws : List Value) → AllNear (moves_e x moves) vs ws → P vs → P ws
      → Near (moved code x (get_or (moves_e x moves) 0 0) (get_or (moves_e x moves) 1 0)) (apply code (get_or vs 0 err) (get_or vs 1 err)) (apply code (get_or ws 0 err) (get_or ws 1 err)))
      → RowNear (operator code x)
  unfolding eval_e moves_e
  operate code x P n h k = then-near (moves_e x moves) _ P (eval_e x u l) (eval_e x v m) _ _ n h.0 h.1 (λ vs ws i j near p q. one-near _ _ _ (k vs ws near p q))

  beside-constant : (code : ℕ) (x : Exp) (a : ℕ) → operands code ≡ 2 → SoundE (operator code (pair x (constant 2 a))) → Both (Second a) (pair x (constant 2 a))
  unfolding width
  beside-constant code x a two s =
      let w : width x ≡ 1 = omega (arith, operator-fits code (pair x (constant 2 a)) s.0, two) in
      (second-constant x a s.1.1 w u l, second-constant x a s.1.1 w v m)

  operator-near : (code : ℕ) (x : Exp) → Operated code x → SoundE (operator code x) → RowNear x → RowNear (operator code x)
  unfolding moved operands moves_e
  operator-near code x (add z) s n =
      operate 1 z Any n (any-both z)
      (λ vs ws h p q. near_add _ _ _ _ _ _ (near-at (moves_e z moves) vs ws h 0) (near-at (moves_e z moves) vs ws h 1))
  operator-near code x (subtract z) s n =
      operate 2 z Any n (any-both z)
      (λ vs ws h p q. near-subtract _ _ _ _ _ _ (near-at (moves_e z moves) vs ws h 0) (near-at (moves_e z moves) vs ws h 1))
  operator-near code x (negate z) s n =
      operate 11 z Any n (any-both z)
      (λ vs ws h p q. near-negate _ _ _ _ _ (near-at (moves_e z moves) vs ws h 0))
  operator-near code x (multiply-first a y) s n =
      operate 3 (pair (constant 2 a) y) (First a) n (first-constant a y u l, first-constant a y v m)
      (λ vs ws h p q. rw (p, q) (near-multiply-first _ a _ _ (near-at (moves_e (pair (constant 2 a) y) moves) vs ws h 1)))
  operator-near code x (multiply-second z a t) s n =
      operate 3 (pair z (constant 2 a)) (Second a) n (beside-constant 3 z a refl s)
      (λ vs ws h p q. rw (p, q, t) (near-multiply-second _ a _ _ (near-at (moves_e (pair z (constant 2 a)) moves) vs ws h 0)))
  operator-near code x (divide z a t) s n =
      operate 4 (pair z (constant 2 a)) (Second a) n (beside-constant 4 z a refl s)
      (λ vs ws h p q. rw (p, q) (near-divide _ a _ _ t (near-at (moves_e (pair z (constant 2 a)) moves) vs ws h 0)))

both-near : (x : Exp) → Drifts x → SoundE x → (moves : Moves) (u v : Env) → NearEnv moves u v → (l m : ℕ)
    → BothNear (moves_e x moves) (eval_e x u l) (eval_e x v m)
unfolding eval_e moves_e
both-near (identifier a) h s moves u v n l m = one-near _ _ _ (n a)
both-near (constant k a) h s moves u v n l m = rw h (one-near _ _ _ (near-constant a))
both-near (pair x y) h s moves u v n l m =
    follow-near (moves_e x moves) _ (eval_e x u l) (eval_e x v m) _ _ (both-near x h.0 s.1 moves u v n l m)
    (λ vs ws i j a. follow-near (moves_e y moves) _ (eval_e y u i) (eval_e y v j) _ _ (both-near y h.1 s.2 moves u v n i j)
    (λ us xs i' j' b. near-append _ _ _ _ _ _ a b))
both-near (operator code x) h s moves u v n l m =
    operator-near moves u v l m code x (operated code x h.0) s (both-near x h.1 s.1 moves u v n l m)
both-near (let_e a b x y) h s moves u v n l m =
    follow-near (moves_e x moves) _ (eval_e x u l) (eval_e x v m) _ _ (both-near x h.0 s.1 moves u v n l m)
    (λ vs ws i j c. both-near y h.1 s.2 _ _ _ (bind_near a b (moves_e x moves) vs ws c moves u v n) i j)
both-near (if_e t x y) h s moves u v n l m = absurd h
both-near (for_e a b x y) h s moves u v n l m = absurd h

-- THE NUMBERS HOLD, of a tree.
pub moves-near : (x : Exp) → Drifts x → SoundE x → (moves : Moves) (u v : Env) → NearEnv moves u v → (l l' m m' : ℕ) (vs ws : List Value)
    → eval_e x u l ≡ yields vs l' → eval_e x v m ≡ yields ws m' → AllNear (moves_e x moves) vs ws
moves-near x h s moves u v n l l' m m' vs ws p q =
    subst (λ (o : Outcome). BothNear (moves_e x moves) (yields vs l') o) q
    (subst (λ (o : Outcome). BothNear (moves_e x moves) o (eval_e x v m)) p (both-near x h s moves u v n l m))
