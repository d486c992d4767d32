-- Laws of specs/Tables.antt, and what only they need.
use Rattle.std.specs.Prelude.{ℕ, ◌≤◌, ◌<◌, ◌≡◌, Bool, not, ◌&&◌, ◌||◌, ◌≢◌, ◌⊎◌, Option, Some, None}
use Rattle.std.proofs.Math.Path.{refl}
use Rattle.std.proofs.Common.{inl, inr}
use Rattle.std.proofs.Math.Bool.{true, false}
use Rattle.std.proofs.Math.Option.{some}
use native.Mathlib.Omega.{arith}
use borrow.Author.Tests.{le-leb, lt-leb, eq-eqb, ne_eqb, eqb-false}
use Rattle.std.proofs.Math.Dec.{eqb}
use Rattle.value.specs.declared.Value.{Value}
use Rattle.value.specs.Operators.{pick}
use Rattle.value.specs.Bytes.{decoded}
use Rattle.value.specs.declared.Sense.{Sense}
use Rattle.value.specs.declared.Sense.TheVariants.{True, False, Neither}
use Rattle.value.specs.Senses.{sense}
use Rattle.network.specs.Values.{true-value, false-value, err-value, one-operand}
use Rattle.network.specs.Rules.{constant, copy, operator, T-gate, F-gate, M-gate, E-gate, IC-gate, FM-gate, FS-gate, Register, first, second, third, T-rule, F-rule, M-rule, E-rule, chosen, as-truth, IC-table, FS-rule}
use Rattle.network.specs.Decide.{untouched, also, decided}
use Rattle.machine_layout.specs.Kinds.{kind_of}
use Rattle.machine_gates.specs.Decide.{optional, heads, does, idle, told, decide_at, is_true, counts_false, true_sense, false_sense, neither_sense}
use Rattle.machine_gates.proofs.Decide.{read_back}
use Rattle.machine_gates.specs.Gates.{passing, dropping, unary_by, binary_by, constant_by, copy_by, t_by, f_by, m_by, e_by, ic_by, fm_by, fs_by}
use Rattle.machine_gates.specs.Tables.{says}

constant-says : (a b c g : Option Value) → says constant a b c g ≡ constant_by a g
unfolding constant_by
constant-says None b c None = refl
constant-says (Some t) b c None = refl
constant-says None b c (Some v) = refl
constant-says (Some t) b c (Some v) = refl

copy-says : (a b c g : Option Value) → says copy a b c g ≡ copy_by a g
unfolding copy_by
copy-says (Some v) b c g = rw (read_back g) refl
copy-says None b c g = refl

unary-says : (code : ℕ) → one-operand code ≡ true → (a b c g : Option Value) → says (operator code) a b c g ≡ unary_by code a g
unfolding unary_by
unary-says code e (Some v) b c g = rw (e, read_back g) refl
unary-says code e None b c g = refl

binary-says : (code : ℕ) → one-operand code ≡ false → (a b c g : Option Value) → says (operator code) a b c g ≡ binary_by code a b g
unfolding binary_by
binary-says code e (Some v) (Some w) c g = rw (e, read_back g) refl
binary-says code e (Some v) None c g = rw e refl
binary-says code e None b c g = refl

T-says : (a b c g : Option Value) → says T-gate a b c g ≡ t_by a b g
unfolding t_by
T-says None b c g = refl
T-says (Some x) b c g = go (sense x) b
  where
    go : (s : Sense) (b : Option Value) →
        told (decided (also first untouched) (T-rule (optional g) s) (heads (Some x) b c))
        ≡ pick (true_sense s) (passing true true false b g) (dropping true true false b g)
    go True (Some v) = rw (read_back g) refl
    go True None = refl
    go False (Some v) = rw (read_back g) refl
    go False None = refl
    go Neither (Some v) = rw (read_back g) refl
    go Neither None = refl

F-says : (a b c g : Option Value) → says F-gate a b c g ≡ f_by a b g
unfolding f_by
F-says None b c g = refl
F-says (Some x) b c g = go (sense x) b
  where
    go : (s : Sense) (b : Option Value) →
        told (decided (also first untouched) (F-rule (optional g) s) (heads (Some x) b c))
        ≡ pick (false_sense s) (passing true true false b g) (dropping true true false b g)
    go True (Some v) = rw (read_back g) refl
    go True None = refl
    go False (Some v) = rw (read_back g) refl
    go False None = refl
    go Neither (Some v) = rw (read_back g) refl
    go Neither None = refl

-- M after its control, for M and FM alike
M-by-sense : (x : Value) (b c g : Option Value) (r : Register) → decoded r ≡ g → (s : Sense) →
    told (decided (also first untouched) (M-rule r s) (heads (Some x) b c))
    ≡ pick (true_sense s) (passing true true false b g)
    (pick (false_sense s) (passing true false true c g)
    (does true false false (Some err-value) None None g))
M-by-sense x (Some v) c g r e True = rw e refl
M-by-sense x None c g r e True = refl
M-by-sense x b (Some v) g r e False = rw e refl
M-by-sense x b None g r e False = refl
M-by-sense x b c g r e Neither = rw e refl

M-says : (a b c g : Option Value) → says M-gate a b c g ≡ m_by a b c g
unfolding m_by
M-says None b c g = refl
M-says (Some x) b c g = M-by-sense x b c g (optional g) (read_back g) (sense x)

E-says : (a b c g : Option Value) → says E-gate a b c g ≡ e_by a b g
unfolding e_by
E-says None b c g = refl
E-says (Some x) b c g = go (sense x) b
  where
    go : (s : Sense) (b : Option Value) →
        told (decided (also first untouched) (E-rule (optional g) s) (heads (Some x) b c))
        ≡ pick (neither_sense s) (does true false false (Some err-value) None None g) (passing true true false b g)
    go True (Some v) = rw (read_back g) refl
    go True None = refl
    go False (Some v) = rw (read_back g) refl
    go False None = refl
    go Neither b = rw (read_back g) refl

FM-says : (a b c g : Option Value) → says FM-gate a b c g ≡ fm_by a b c g
unfolding fm_by
FM-says a b (Some v) None = refl
FM-says a b None None = refl
FM-says None b c (Some r) = refl
FM-says (Some x) b c (Some r) = M-by-sense x b c (Some true-value) (some true-value) refl (sense x)

FS-says : (a b c g : Option Value) → says FS-gate a b c g ≡ fs_by a b g
unfolding fs_by
FS-says a (Some v) c None = refl
FS-says a None c None = refl
FS-says None b c (Some r) = refl
FS-says (Some x) b c (Some r) = go (sense x) b
  where
    go : (s : Sense) (b : Option Value) →
        told (decided (also first untouched) (FS-rule r s) (heads (Some x) b c))
        ≡ pick (true_sense s) (does true false false (Some r) None None (Some r)) (passing true true false b b)
    go True b = refl
    go False (Some v) = refl
    go False None = refl
    go Neither (Some v) = refl
    go Neither None = refl

-- IC after its control: the chosen input decides the row
IC-true : (x y : Value) (c g : Option Value) (s : Sense) →
    told (decided (also second (also first untouched)) (IC-table (optional g) True (as-truth s)) (heads (Some x) (Some y) c))
    ≡ pick (true_sense s) (does true true false (Some true-value) (Some true-value) None g)
    (pick (not (as-truth s)) (does true true false (Some false-value) None (Some true-value) g) idle)
IC-true x y c g True = rw (read_back g) refl
IC-true x y c g False = rw (read_back g) refl
IC-true x y c g Neither = rw (read_back g) refl

IC-false : (x z : Value) (b g : Option Value) (s : Sense) →
    told (decided (also third (also first untouched)) (IC-table (optional g) False (as-truth s)) (heads (Some x) b (Some z)))
    ≡ pick (true_sense s) (does true false true (Some true-value) (Some false-value) None g)
    (pick (not (as-truth s)) (does true false true (Some false-value) None (Some false-value) g) idle)
IC-false x z b g True = rw (read_back g) refl
IC-false x z b g False = rw (read_back g) refl
IC-false x z b g Neither = rw (read_back g) refl

IC-says : (a b c g : Option Value) → says IC-gate a b c g ≡ ic_by a b c g
unfolding ic_by
IC-says None b c g = refl
IC-says (Some x) b c g = go (sense x) b c
  where
    go : (s : Sense) (b c : Option Value) →
        told (decided (also first untouched) (chosen s (IC-table (optional g) s)) (heads (Some x) b c))
        ≡ pick (true_sense s && is_true b) (does true true false (Some true-value) (Some true-value) None g)
        (pick (true_sense s && counts_false b) (does true true false (Some false-value) None (Some true-value) g)
        (pick (false_sense s && is_true c) (does true false true (Some true-value) (Some false-value) None g)
        (pick (false_sense s && counts_false c) (does true false true (Some false-value) None (Some false-value) g)
        (pick (neither_sense s) (does true false false (Some false-value) None (Some err-value) g)
        idle))))
    go True None c = refl
    go True (Some y) c = IC-true x y c g (sense y)
    go False b None = refl
    go False b (Some z) = IC-false x z b g (sense z)
    go Neither b c = rw (read_back g) refl

-- ---- the decision by the kind's byte
module _ (a b c g : Option Value) where
  pub decide-binary : (k : ℕ) → 1 ≤ k → k ≤ 9 → decide_at k a b c g ≡ binary_by k a b g
  unfolding decide_at kind_of
  decide-binary k h j =
      let n10 : k ≢ 10 = omega arith in
      let n11 : k ≢ 11 = omega arith in
      simp (le-leb 1 k h, le-leb k 11 (omega arith)) (binary-says k (simp (ne_eqb k 10 n10, ne_eqb k 11 n11)) a b c g)

  pub decide-unary : (k : ℕ) → 10 ≤ k → k ≤ 11 → decide_at k a b c g ≡ unary_by k a g
  unfolding decide_at kind_of
  decide-unary k h j = simp (le-leb 1 k (omega arith), le-leb k 11 j) (unary-says k (go (eqb k 10) refl) a b c g)
    where
      go : (t : Bool) → eqb k 10 ≡ t → t || eqb k 11 ≡ true
      go true e = refl
      go false e = eq-eqb k 11 (omega (arith, eqb-false k 10 e))

  pub decide-constant : decide_at 12 a b c g ≡ constant_by a g
  unfolding decide_at kind_of
  decide-constant = constant-says a b c g

  pub decide-copy : decide_at 13 a b c g ≡ copy_by a g
  unfolding decide_at kind_of
  decide-copy = copy-says a b c g

  pub decide_T : decide_at 14 a b c g ≡ t_by a b g
  unfolding decide_at kind_of
  decide_T = T-says a b c g

  pub decide-F : decide_at 15 a b c g ≡ f_by a b g
  unfolding decide_at kind_of
  decide-F = F-says a b c g

  pub decide-M : decide_at 16 a b c g ≡ m_by a b c g
  unfolding decide_at kind_of
  decide-M = M-says a b c g

  pub decide-E : decide_at 17 a b c g ≡ e_by a b g
  unfolding decide_at kind_of
  decide-E = E-says a b c g

  pub decide-IC : decide_at 18 a b c g ≡ ic_by a b c g
  unfolding decide_at kind_of
  decide-IC = IC-says a b c g

  pub decide-FM : decide_at 19 a b c g ≡ fm_by a b c g
  unfolding decide_at kind_of
  decide-FM = FM-says a b c g

  pub decide-FS : decide_at 20 a b c g ≡ fs_by a b g
  unfolding decide_at kind_of
  decide-FS = FS-says a b c g

  pub decide-none : (k : ℕ) → (k ≡ 0) ⊎ (20 < k) → decide_at k a b c g ≡ idle
  unfolding decide_at kind_of
  decide-none k (inl e) = rw e refl
  decide-none k (inr h) =
      let n12 : k ≢ 12 = omega arith in
      let n13 : k ≢ 13 = omega arith in
      let n14 : k ≢ 14 = omega arith in
      let n15 : k ≢ 15 = omega arith in
      let n16 : k ≢ 16 = omega arith in
      let n17 : k ≢ 17 = omega arith in
      let n18 : k ≢ 18 = omega arith in
      let n19 : k ≢ 19 = omega arith in
      let n20 : k ≢ 20 = omega arith in
      simp (le-leb 1 k (omega arith), lt-leb k 11 (omega arith), ne_eqb k 12 n12, ne_eqb k 13 n13, ne_eqb k 14 n14, ne_eqb k 15 n15, ne_eqb k 16 n16, ne_eqb k 17 n17, ne_eqb k 18 n18, ne_eqb k 19 n19, ne_eqb k 20 n20)
