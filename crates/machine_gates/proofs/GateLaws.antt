-- Laws of specs/GateLaws.antt, and what only they need.
use Rattle.std.specs.Prelude.{ℕ, ◌≡◌, refl, Bool, true, false, ◌&&◌, Option, Some, None}
use Rattle.std.proofs.lemmas.Bool.{false≢true}
use Rattle.value.specs.declared.Value.{Value}
use Rattle.value.specs.Operators.{pick}
use Rattle.network.specs.Values.{true-value}
use Rattle.machine_gates.specs.Decide.{Decided, idle, is_absent, is_true, is_false, is_neither, counts_false}
use Rattle.machine_gates.specs.Gates.{applied, unary_by, binary_by, constant_by, copy_by, t_by, f_by, m_by, e_by, ic_by, fm_by}
use Rattle.machine_gates.specs.GateLaws.{Leaves}

pub applied-there : (code : ℕ) (a b : Option Value) → is_absent a ≡ false → is_absent b ≡ false → is_absent (applied code a b) ≡ false
applied-there code (Some x) (Some y) p q = refl
applied-there code (Some x) None p q = q
applied-there code None b p q = p

pub idle-leaves : (g : Option Value) → Leaves g idle
idle-leaves g e = absurd (false≢true e)

either : (g : Option Value) (t : Bool) (x y : Decided) → Leaves g x → Leaves g y → Leaves g (pick t x y)
either g true x y p q = p
either g false x y p q = q

-- a decision that is made only where a token waits
waiting : (g a : Option Value) (d : Decided) → Leaves g d → Leaves g (pick (is_absent a) idle d)
waiting g a d p = either g (is_absent a) idle d (idle-leaves g) p

module _ (a b c g : Option Value) where
  pub unary-leaves : (code : ℕ) → Leaves g (unary_by code a g)
  unfolding unary_by
  unary-leaves code = waiting g a _ (λ e. refl)

  pub binary-leaves : (code : ℕ) → Leaves g (binary_by code a b g)
  unfolding binary_by
  binary-leaves code = waiting g a _ (waiting g b _ (λ e. refl))

  pub constant-leaves : Leaves g (constant_by a g)
  unfolding constant_by
  constant-leaves = waiting g a _ (waiting g g _ (λ e. refl))

  pub copy-leaves : Leaves g (copy_by a g)
  unfolding copy_by
  copy-leaves = waiting g a _ (λ e. refl)

  pub T-leaves : Leaves g (t_by a b g)
  unfolding t_by
  T-leaves = waiting g a _ (either g (is_true a) _ _ (waiting g b _ (λ e. refl)) (waiting g b _ (λ e. refl)))

  pub F-leaves : Leaves g (f_by a b g)
  unfolding f_by
  F-leaves = waiting g a _ (either g (is_false a) _ _ (waiting g b _ (λ e. refl)) (waiting g b _ (λ e. refl)))

  pub M-leaves : Leaves g (m_by a b c g)
  unfolding m_by
  M-leaves = waiting g a _ (either g (is_true a) _ _ (waiting g b _ (λ e. refl)) (either g (is_false a) _ _ (waiting g c _ (λ e. refl)) (λ e. refl)))

  pub E-leaves : Leaves g (e_by a b g)
  unfolding e_by
  E-leaves = waiting g a _ (either g (is_neither a) _ _ (λ e. refl) (waiting g b _ (λ e. refl)))

  pub IC-leaves : Leaves g (ic_by a b c g)
  unfolding ic_by
  IC-leaves =
      either g (is_true a && is_true b) _ _ (λ e. refl)
      (either g (is_true a && counts_false b) _ _ (λ e. refl)
      (either g (is_false a && is_true c) _ _ (λ e. refl)
      (either g (is_false a && counts_false c) _ _ (λ e. refl)
      (either g (is_neither a) _ _ (λ e. refl) (idle-leaves g)))))

pub FM-leaves : (a b c g : Option Value) → Leaves (Some true-value) (fm_by a b c g)
unfolding fm_by
FM-leaves a b c g = either (Some true-value) (is_absent g) _ _ (waiting (Some true-value) c _ (λ e. refl)) (M-leaves a b c (Some true-value))
