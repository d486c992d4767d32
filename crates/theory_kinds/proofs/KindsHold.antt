-- Laws of specs/KindsHold.antt, and what only they need.
use Prim.Native.Nat.{ℕ, zero, suc, ◌≤◌}
use Rattle.std.specs.Prelude.{◌≡◌, refl, ◌⊎◌, Bool, true, false, ◌&&◌, ◌||◌, List, [], ◌∷◌, ◌++◌, length, get_or}
use Rattle.std.proofs.Common.{sym, ap, subst, ◌∙◌, inl, inr}
use Rattle.std.proofs.Math.Logic.{⊎_elim}
use Rattle.std.proofs.Math.Option.{Option, some}
use Rattle.std.proofs.Math.ListN.{replicate}
use Rattle.value.specs.declared.Value.{Value}
use Rattle.value.specs.declared.ValueKind.{ValueKind}
use Rattle.value.specs.declared.ValueKind.TheVariants.{Whole as whole-kind, Truth as truth-kind, Real as real-kind}
use Rattle.value.specs.declared.Sense.{Sense}
use Rattle.value.specs.declared.Sense.TheVariants.{True, False, Neither}
use Rattle.value.specs.Senses.{err, sense}
use Rattle.value.specs.Operators.{apply}
use Rattle.value.specs.Kinds.{suits, all_of, wanted, wanted_test, given, one-kind, gives-its-kind}
use Rattle.formula.specs.Tree.{Exp, identifier, constant, pair, operator, let_e, if_e, for_e, Body, ret, iter, let_b, if_b}
use Rattle.formula.proofs.TreeLaws.{and-true}
use Rattle.formula.specs.Widths.{width, returned}
use Rattle.formula.specs.Kinds.{Kinds, bind_kinds, either_kinds, same_kinds, agree_kinds, kinds_e, returned_kinds, iterated_kinds, kinded_e, kinded_b}
use Rattle.formula.proofs.KindWidths.{kinds-length, returned-length}
use Rattle.meaning.specs.Meaning.{Env, bind, Outcome, yields, Ending, again, returns, then, then_b, after, enter, loop, branch, eval_e, eval_b}
use Rattle.meaning.specs.WidthLaws.{SoundE, SoundB}
use Rattle.meaning.proofs.WidthLaws.{positive}
use Rattle.theory_kinds.specs.Strict.{alike, operands_wanted, test_wanted, guard, then_s, then_bS, after_s, enter_s, loop_s, strict_e, strict_b}
use Rattle.theory_kinds.specs.Kinded.{AllE, AllB}
use Rattle.theory_kinds.proofs.KindLaws.{same-kinds, given-alike, suited-append, errs-suited, all-suited, constant-suited, bound-suits, first-arm, second-arm}
use Rattle.theory_kinds.specs.KindLaws.{Suited-list, Env-suits, Some-suited}
use Rattle.theory_kinds.specs.KindsHold.{Suited, SuitedB, Holds, HoldsB}

-- ---- what the rule says of a node
pub operator-rule : (k : ℕ) (x : Exp) (kinds : Kinds) → kinded_e (operator k x) kinds ≡ true → wanted k (kinds_e x kinds) ≡ true
unfolding kinded_e
operator-rule k x kinds h = h

pub if-rule : (t x y : Exp) (kinds : Kinds) → kinded_e (if_e t x y) kinds ≡ true → (all_of truth-kind (kinds_e t kinds) ≡ true) × (kinds_e x kinds ≡ kinds_e y kinds)
unfolding kinded_e wanted_test
if-rule t x y kinds h =
    let both = and-true (wanted_test (kinds_e t kinds)) (same_kinds (kinds_e x kinds) (kinds_e y kinds)) h in
    (both.0, same-kinds (kinds_e x kinds) (kinds_e y kinds) both.1)

pub for-rule : (a b : ℕ) (x : Exp) (y : Body) (kinds : Kinds) → kinded_e (for_e a b x y) kinds ≡ true
    → kinds_e x kinds ≡ iterated_kinds y (bind_kinds a b (kinds_e x kinds) kinds)
unfolding kinded_e
for-rule a b x y kinds h = same-kinds (kinds_e x kinds) (iterated_kinds y (bind_kinds a b (kinds_e x kinds) kinds)) h

pub if-rule-B : (t : Exp) (x y : Body) (kinds : Kinds) → kinded_b (if_b t x y) kinds ≡ true
    → (all_of truth-kind (kinds_e t kinds) ≡ true)
    × (agree_kinds (iterated_kinds x kinds) (iterated_kinds y kinds) ≡ true)
    × (agree_kinds (returned_kinds x kinds) (returned_kinds y kinds) ≡ true)
unfolding kinded_b wanted_test
if-rule-B t x y kinds h =
    let all = and-true (wanted_test (kinds_e t kinds) && agree_kinds (iterated_kinds x kinds) (iterated_kinds y kinds)) _ h in
    let both = and-true (wanted_test (kinds_e t kinds)) (agree_kinds (iterated_kinds x kinds) (iterated_kinds y kinds)) all.0 in
    (both.0, both.1, all.1)

then-holds : (ks ms : List ValueKind) (p : Option Outcome) (o : Outcome) (g : List Value → ℕ → Option Outcome) (f : List Value → ℕ → Outcome)
    → Holds ks p o → ((vs : List Value) (l : ℕ) → Suited-list vs ks → Holds ms (g vs l) (f vs l)) → Holds ms (then_s p g) (then o f)
unfolding then then_s
then-holds ks ms p (yields vs l) g f h k = rw h.0 (k vs l h.1)
then-holds ks ms p Outcome.unfinished g f h k = rw h.0 (refl, tt)

then-holds-B : (w : ℕ) (ks is rs : List ValueKind) (p : Option Outcome) (o : Outcome) (g : List Value → ℕ → Option Ending) (f : List Value → ℕ → Ending)
    → Holds ks p o → ((vs : List Value) (l : ℕ) → Suited-list vs ks → HoldsB w is rs (g vs l) (f vs l)) → HoldsB w is rs (then_bS p g) (then_b o f)
unfolding then_b then_bS
then-holds-B w ks is rs p (yields vs l) g f h k = rw h.0 (k vs l h.1)
then-holds-B w ks is rs p Outcome.unfinished g f h k = rw h.0 (refl, tt)

-- A guard that holds changes nothing.
guarded : {A : Type 0} (P : Option A → Type 0) (b : Bool) (p : Option A) → b ≡ true → P p → P (guard b p)
unfolding guard
guarded P b p e h = rw e h

or-true : (t : Bool) → t || true ≡ true
or-true true = refl
or-true false = refl

operands-pass : (c : ℕ) (k : ValueKind) → wanted c (k ∷ []) ≡ true → (a b : Value) → suits k a ≡ true → suits k b ≡ true → operands_wanted c a b ≡ true
operands-pass c whole-kind w a b h i = rw (w, h, i) refl
operands-pass c truth-kind w a b h i = rw (w, h, i) (or-true (wanted c (whole-kind ∷ []) && alike whole-kind a b))
operands-pass c real-kind w a b h i =
    rw (w, h, i, or-true (wanted c (truth-kind ∷ []) && alike truth-kind a b)) (or-true (wanted c (whole-kind ∷ []) && alike whole-kind a b))

-- The answer of an operator on some operands of one kind is of the kind that it gives on them.
answer-suits : (c : ℕ) (k : ValueKind) (ks : List ValueKind) → 1 ≤ length ks → all_of k ks ≡ true → (a b : Value) → suits k a ≡ true → suits k b ≡ true
    → suits (given c ks) (apply c a b) ≡ true
answer-suits c k ks l e a b h i = ap (λ (g : ValueKind). suits g (apply c a b)) (given-alike c k ks l e) ∙ gives-its-kind c k a b h i

test-passes : (v : Value) → suits truth-kind v ≡ true → test_wanted v ≡ true
test-passes v h = cc h

-- Two branches on one test.
branch-both : {A B : Type 0} (R : A → B → Type 0) (s : Sense) (bad : A) (bad' : B) (f g : Unit {0} → A) (f' g' : Unit {0} → B)
    → R bad bad' → R (f tt) (f' tt) → R (g tt) (g' tt) → R (branch s bad f g) (branch s bad' f' g')
unfolding branch
branch-both R True bad bad' f g f' g' p q r = q
branch-both R False bad bad' f g f' g' p q r = r
branch-both R Neither bad bad' f g f' g' p q r = p

-- An if whose test, the first of its values, is a truth or an err.
if-holds : {A : Type 0} (R : Option A → A → Type 0) (ks : List ValueKind) (vs : List Value) → all_of truth-kind ks ≡ true → Suited-list vs ks
    → (bad : A) (f g : Unit {0} → Option A) (f' g' : Unit {0} → A) → R (some bad) bad → R (f tt) (f' tt) → R (g tt) (g' tt)
    → R (guard (test_wanted (get_or vs 0 err)) (branch (sense (get_or vs 0 err)) (some bad) f g)) (branch (sense (get_or vs 0 err)) bad f' g')
if-holds {A} R ks vs a h bad f g f' g' p q r =
    guarded (λ (o : Option A). R o (branch (sense (get_or vs 0 err)) bad f' g')) (test_wanted (get_or vs 0 err)) _
    (test-passes (get_or vs 0 err) (all-suited truth-kind vs ks a h 0))
    (branch-both R (sense (get_or vs 0 err)) (some bad) bad f g f' g' p q r)

-- ---- loops
module _
    (w : ℕ)
    (is rs : List ValueKind)
    (wide : w ≡ length rs)
    (Fine : Env → Type 0)
    (roundS : Env → ℕ → Option Ending)
    (round : Env → ℕ → Ending)
    (rebind : List Value → Env)
    (rounds : (env : Env) → Fine env → (l : ℕ) → HoldsB w is rs (roundS env l) (round env l))
    (again-fine : (vs : List Value) → Suited-list vs is → Fine (rebind vs))
  where
    after_holds : (p : Option Ending) (o : Ending) (g : List Value → ℕ → Option Outcome) (f : List Value → ℕ → Outcome)
        → HoldsB w is rs p o → ((vs : List Value) (l : ℕ) → Suited-list vs is → Holds rs (g vs l) (f vs l)) → Holds rs (after_s p g) (after o f)
    unfolding after after_s
    after_holds p (again vs l) g f h k = rw h.0 (k vs l h.1.0)
    after_holds p (returns vs l) g f h k =
        rw h.0 (refl, ⊎_elim (λ (s : Some-suited vs rs). s.0) (λ (e : vs ≡ replicate w err). rw (e, wide) (errs-suited rs)) h.1)
    after_holds p Ending.unfinished g f h k = rw h.0 (refl, tt)

    loop-holds : (bound : ℕ) (env : Env) → Fine env → (l : ℕ) → Holds rs (loop_s bound roundS rebind env l) (loop bound round rebind env l)
    unfolding loop loop_s enter enter_s
    loop-holds zero env e l = (refl, tt)
    loop-holds (suc bound) env e zero = (refl, tt)
    loop-holds (suc bound) env e (suc m) =
        after_holds (roundS env m) (round env m) (λ vs l. loop_s bound roundS rebind (rebind vs) l) (λ vs l. loop bound round rebind (rebind vs) l)
        (rounds env e m) (λ vs l h. loop-holds bound (rebind vs) (again-fine vs h) l)

-- ---- the tree
-- What an arm gives, the two arms together give.
arm-holds : (w : ℕ) (is rs is' rs' : List ValueKind) (p : Option Ending) (o : Ending)
    → ((vs : List Value) → Some-suited vs is → Some-suited vs is') → ((vs : List Value) → Some-suited vs rs → Some-suited vs rs')
    → HoldsB w is rs p o → HoldsB w is' rs' p o
arm-holds w is rs is' rs' p (again vs l) f g h = (h.0, f vs h.1)
arm-holds w is rs is' rs' p (returns vs l) f g h =
    (h.0, ⊎_elim (λ (s : Some-suited vs rs). inl (g vs s)) (λ (e : vs ≡ replicate w err). inr e) h.1)
arm-holds w is rs is' rs' p Ending.unfinished f g h = (h.0, tt)

some-kinds : (x : Exp) (kinds : Kinds) → SoundE x → 1 ≤ length (kinds_e x kinds)
some-kinds x kinds s = rw (kinds-length x kinds) (positive x s)

mutual
  unfolding kinds_e iterated_kinds eval_e strict_e then then_s then_b then_bS

  pub kinds-hold : (x : Exp) (kinds : Kinds) → SoundE x → AllE x kinds → (env : Env) → Env-suits kinds env → (l : ℕ)
      → (strict_e x env l ≡ some (eval_e x env l)) × Suited (eval_e x env l) (kinds_e x kinds)
  kinds-hold (identifier a) kinds s h env e l = (refl, (e a, tt))
  kinds-hold (constant k a) kinds s h env e l = (refl, (constant-suited k a, tt))
  kinds-hold (pair x y) kinds s h env e l =
      let both : List ValueKind = kinds_e x kinds ++ kinds_e y kinds in
      then-holds (kinds_e x kinds) both (strict_e x env l) (eval_e x env l) _ _ (kinds-hold x kinds s.1 h.1 env e l)
      (λ vs l₁ i.
      then-holds (kinds_e y kinds) both (strict_e y env l₁) (eval_e y env l₁) (λ ws m. some (yields (vs ++ ws) m)) (λ ws m. yields (vs ++ ws) m)
      (kinds-hold y kinds s.2 h.2 env e l₁)
      (λ ws m j. (refl, suited-append vs ws (kinds_e x kinds) (kinds_e y kinds) i j)))
  kinds-hold (operator k x) kinds s h env e l =
      let one : List ValueKind = kinds_e (operator k x) kinds in
      then-holds (kinds_e x kinds) one (strict_e x env l) (eval_e x env l) _ _ (kinds-hold x kinds s.1 h.1 env e l)
      (λ vs l₁ i.
      let kind = one-kind k (kinds_e x kinds) (operator-rule k x kinds h.0) in
      let want = all-suited kind.0 vs (kinds_e x kinds) kind.2 i in
      guarded (λ (p : Option Outcome). Holds one p (yields (apply k (get_or vs 0 err) (get_or vs 1 err) ∷ []) l₁)) _ _
      (operands-pass k kind.0 kind.1 (get_or vs 0 err) (get_or vs 1 err) (want 0) (want 1))
      (refl, (answer-suits k kind.0 (kinds_e x kinds) (some-kinds x kinds s.1) kind.2 (get_or vs 0 err) (get_or vs 1 err) (want 0) (want 1), tt)))
  kinds-hold (let_e a b x y) kinds s h env e l =
      let inner : Kinds = bind_kinds a b (kinds_e x kinds) kinds in
      then-holds (kinds_e x kinds) (kinds_e y inner) (strict_e x env l) (eval_e x env l) _ _ (kinds-hold x kinds s.1 h.1 env e l)
      (λ vs l₁ i. kinds-hold y inner s.2 h.2 (bind a b vs env) (bound-suits a b vs (kinds_e x kinds) kinds env i e) l₁)
  kinds-hold (if_e t x y) kinds s h env e l =
      let rule = if-rule t x y kinds h.0 in
      then-holds (kinds_e t kinds) (kinds_e x kinds) (strict_e t env l) (eval_e t env l) _ _ (kinds-hold t kinds s.1 h.1 env e l)
      (λ vs l₁ i.
      if-holds (Holds (kinds_e x kinds)) (kinds_e t kinds) vs rule.0 i (yields (replicate (width x) err) l₁)
      (λ _. strict_e x env l₁) (λ _. strict_e y env l₁) (λ _. eval_e x env l₁) (λ _. eval_e y env l₁)
      (refl, subst (λ (w : ℕ). Suited-list (replicate w err) (kinds_e x kinds)) (kinds-length x kinds) (errs-suited (kinds_e x kinds)))
      (kinds-hold x kinds s.2 h.2 env e l₁)
      (subst (λ (ks : List ValueKind). Holds ks (strict_e y env l₁) (eval_e y env l₁)) (sym rule.1) (kinds-hold y kinds s.3 h.3 env e l₁)))
  kinds-hold (for_e a b x y) kinds s h env e l =
      let inner : Kinds = bind_kinds a b (kinds_e x kinds) kinds in
      then-holds (kinds_e x kinds) (returned_kinds y inner) (strict_e x env l) (eval_e x env l) _ _ (kinds-hold x kinds s.1 h.1 env e l)
      (λ vs l₁ i.
      loop-holds (returned y) (iterated_kinds y inner) (returned_kinds y inner) (sym (returned-length y inner)) (Env-suits inner)
      (λ d m. strict_b y (returned y) d m) (λ d m. eval_b y (returned y) d m) (λ ws. bind a b ws env)
      (λ d g m. kinds-hold-B y inner s.2 h.2 (returned y) d g m)
      (λ ws g. bound-suits a b ws (kinds_e x kinds) kinds env (subst (Suited-list ws) (sym (for-rule a b x y kinds h.0)) g) e)
      l₁ (bind a b vs env) (bound-suits a b vs (kinds_e x kinds) kinds env i e) l₁)

  pub kinds-hold-B : (y : Body) (kinds : Kinds) → SoundB y → AllB y kinds → (w : ℕ) (env : Env) → Env-suits kinds env → (l : ℕ)
      → (strict_b y w env l ≡ some (eval_b y w env l)) × SuitedB w (eval_b y w env l) (iterated_kinds y kinds) (returned_kinds y kinds)
  kinds-hold-B (ret x) kinds s h w env e l =
      then-holds-B w (kinds_e x kinds) [] (kinds_e x kinds) (strict_e x env l) (eval_e x env l) _ _ (kinds-hold x kinds s h env e l)
      (λ vs l₁ i. (refl, inl (i, some-kinds x kinds s)))
  kinds-hold-B (iter x) kinds s h w env e l =
      then-holds-B w (kinds_e x kinds) (kinds_e x kinds) [] (strict_e x env l) (eval_e x env l) _ _ (kinds-hold x kinds s.1 h.1 env e l)
      (λ vs l₁ i. (refl, (i, some-kinds x kinds s.1)))
  kinds-hold-B (let_b a b x y) kinds s h w env e l =
      let inner : Kinds = bind_kinds a b (kinds_e x kinds) kinds in
      then-holds-B w (kinds_e x kinds) (iterated_kinds y inner) (returned_kinds y inner) (strict_e x env l) (eval_e x env l) _ _
      (kinds-hold x kinds s.1 h.1 env e l)
      (λ vs l₁ i. kinds-hold-B y inner s.2 h.2 w (bind a b vs env) (bound-suits a b vs (kinds_e x kinds) kinds env i e) l₁)
  kinds-hold-B (if_b t x y) kinds s h w env e l =
      let rule = if-rule-B t x y kinds h.0 in
      let is : List ValueKind = either_kinds (iterated_kinds x kinds) (iterated_kinds y kinds) in
      let rs : List ValueKind = either_kinds (returned_kinds x kinds) (returned_kinds y kinds) in
      then-holds-B w (kinds_e t kinds) is rs (strict_e t env l) (eval_e t env l) _ _ (kinds-hold t kinds s.1 h.1 env e l)
      (λ vs l₁ i.
      if-holds (HoldsB w is rs) (kinds_e t kinds) vs rule.0 i (returns (replicate w err) l₁)
      (λ _. strict_b x w env l₁) (λ _. strict_b y w env l₁) (λ _. eval_b x w env l₁) (λ _. eval_b y w env l₁)
      (refl, inr refl)
      (arm-holds w (iterated_kinds x kinds) (returned_kinds x kinds) is rs (strict_b x w env l₁) (eval_b x w env l₁)
      (λ us. first-arm us (iterated_kinds x kinds) (iterated_kinds y kinds))
      (λ us. first-arm us (returned_kinds x kinds) (returned_kinds y kinds))
      (kinds-hold-B x kinds s.2 h.2 w env e l₁))
      (arm-holds w (iterated_kinds y kinds) (returned_kinds y kinds) is rs (strict_b y w env l₁) (eval_b y w env l₁)
      (λ us. second-arm us (iterated_kinds x kinds) (iterated_kinds y kinds) rule.1)
      (λ us. second-arm us (returned_kinds x kinds) (returned_kinds y kinds) rule.2)
      (kinds-hold-B y kinds s.3 h.3 w env e l₁)))
