-- Laws of specs/KindLaws.antt, and what only they need.
use Rattle.std.specs.Prelude.{ℕ, zero, suc, ◌-◌, ◌≤◌, ◌≡◌, refl, Bool, true, false, cond, List, [], ◌∷◌, ◌++◌, pos, eqb, length, get_or, replicate}
use Rattle.std.proofs.Common.{sym, subst, arith}
use Rattle.std.proofs.lemmas.Bool.{false≢true}
use Rattle.value.specs.declared.Value.{Value}
use Rattle.value.specs.declared.Value.TheVariants.{Whole, Truth}
use Rattle.value.specs.declared.ValueKind.{ValueKind}
use Rattle.value.specs.declared.ValueKind.TheVariants.{Whole as whole-kind, Truth as truth-kind, Real as real-kind}
use Rattle.value.specs.Senses.{err}
use Rattle.value.specs.Constants.{thousandths}
use Rattle.value.specs.Kinds.{same_kind, suits, all_of, given, given-one}
use Rattle.names.specs.Names.{range}
use Rattle.formula.proofs.TreeLaws.{and-true}
use Rattle.formula.specs.Constants.{constant_value}
use Rattle.formula.specs.Kinds.{Kinds, bind_kinds, kind_of_constant, either_kinds, same_kinds, agree_kinds}
use Rattle.meaning.specs.Meaning.{Env, bind}
use Rattle.theory_kinds.specs.KindLaws.{Suited-list, Env-suits, Some-suited}

-- ---- kinds that agree
pub same_kind_lem : (k l : ValueKind) → same_kind k l ≡ true → k ≡ l
same_kind_lem whole-kind whole-kind h = refl
same_kind_lem whole-kind truth-kind h = absurd (false≢true h)
same_kind_lem whole-kind real-kind h = absurd (false≢true h)
same_kind_lem truth-kind whole-kind h = absurd (false≢true h)
same_kind_lem truth-kind truth-kind h = refl
same_kind_lem truth-kind real-kind h = absurd (false≢true h)
same_kind_lem real-kind whole-kind h = absurd (false≢true h)
same_kind_lem real-kind truth-kind h = absurd (false≢true h)
same_kind_lem real-kind real-kind h = refl

pub same-kinds : (ks ls : List ValueKind) → same_kinds ks ls ≡ true → ks ≡ ls
same-kinds [] [] h = refl
same-kinds [] (l ∷ ls) h = absurd (false≢true h)
same-kinds (k ∷ ks) [] h = absurd (false≢true h)
same-kinds (k ∷ ks) (l ∷ ls) h =
    let both = and-true (same_kind k l) (same_kinds ks ls) h in
    cc (same_kind_lem k l both.0, same-kinds ks ls both.1)

-- What an operator gives on some operands of one kind.
pub given-alike : (c : ℕ) (k : ValueKind) (ks : List ValueKind) → 1 ≤ length ks → all_of k ks ≡ true → given c ks ≡ given c (k ∷ [])
given-alike c k [] l h = absurd (omega arith)
given-alike c k (j ∷ ks) l h = given-one c k j ks h

pub suited-append : (vs ws : List Value) (ks ls : List ValueKind) → Suited-list vs ks → Suited-list ws ls → Suited-list (vs ++ ws) (ks ++ ls)
suited-append [] ws [] ls h i = i
suited-append [] ws (k ∷ ks) ls h i = absurd h
suited-append (v ∷ vs) ws [] ls h i = absurd h
suited-append (v ∷ vs) ws (k ∷ ks) ls h i = (h.0, suited-append vs ws ks ls h.1 i)

-- "err for each of its values"
pub errs-suited : (ks : List ValueKind) → Suited-list (replicate (length ks) err) ks
errs-suited [] = tt
errs-suited (k ∷ ks) = (refl, errs-suited ks)

-- At every place, also past the last.
suited-at : (vs : List Value) (ks : List ValueKind) → Suited-list vs ks → (j : ℕ) → suits (get_or ks j whole-kind) (get_or vs j err) ≡ true
suited-at [] [] h j = refl
suited-at [] (k ∷ ks) h j = absurd h
suited-at (v ∷ vs) [] h j = absurd h
suited-at (v ∷ vs) (k ∷ ks) h zero = h.0
suited-at (v ∷ vs) (k ∷ ks) h (suc j) = suited-at vs ks h.1 j

-- Where all kinds are one, every value is of it or an err.
pub all-suited : (w : ValueKind) (vs : List Value) (ks : List ValueKind) → all_of w ks ≡ true → Suited-list vs ks → (j : ℕ) → suits w (get_or vs j err) ≡ true
all-suited w [] [] a h j = refl
all-suited w [] (k ∷ ks) a h j = absurd h
all-suited w (v ∷ vs) [] a h j = absurd h
all-suited w (v ∷ vs) (k ∷ ks) a h zero =
    subst (λ (z : ValueKind). suits z v ≡ true) (sym (same_kind_lem w k (and-true (same_kind w k) (all_of w ks) a).0)) h.0
all-suited w (v ∷ vs) (k ∷ ks) a h (suc j) = all-suited w vs ks (and-true (same_kind w k) (all_of w ks) a).1 h.1 j

pub constant-suited : (k a : ℕ) → suits (kind_of_constant k) (constant_value k a) ≡ true
unfolding thousandths
constant-suited k a = go (eqb k 3) (eqb k 10)
  where
    go : (b c : Bool) → suits (cond b truth-kind (cond c real-kind whole-kind)) (cond b (Truth (eqb a 1)) (cond c (thousandths a) (Whole (pos a)))) ≡ true
    go true c = refl
    go false true = refl
    go false false = refl

pub bound-suits : (a b : ℕ) (vs : List Value) (ks : List ValueKind) (kinds : Kinds) (env : Env)
    → Suited-list vs ks → Env-suits kinds env → Env-suits (bind_kinds a b ks kinds) (bind a b vs env)
unfolding bind_kinds bind
bound-suits a b vs ks kinds env h e k = go (range a b k)
  where
    go : (t : Bool) → suits (cond t (get_or ks (k - a) whole-kind) (kinds k)) (cond t (get_or vs (k - a) err) (env k)) ≡ true
    go true = suited-at vs ks h (k - a)
    go false = e k

pub first-arm : (vs : List Value) (ks ls : List ValueKind) → Some-suited vs ks → Some-suited vs (either_kinds ks ls)
first-arm vs [] ls h = absurd (omega (arith, h.1))
first-arm vs (k ∷ ks) ls h = h

pub second-arm : (vs : List Value) (ks ls : List ValueKind) → agree_kinds ks ls ≡ true → Some-suited vs ls → Some-suited vs (either_kinds ks ls)
second-arm vs [] ls a h = h
second-arm vs (k ∷ ks) [] a h = absurd (omega (arith, h.1))
second-arm vs (k ∷ ks) (l ∷ ls) a h = subst (Some-suited vs) (sym (same-kinds (k ∷ ks) (l ∷ ls) a)) h
