use mathlib.Core.Path.{◌≡◌, sym, ◌∙◌, refl, ap}
use mathlib.Core.Bool.{true, false}
use Rattle.machine_firing.specs.Moves.{Done}
use mathlib.Core.List.{List}
use Prim.Native.Nat.{ℕ}
use Rattle.value.specs.Bytes.{stored}
use Rattle.machine_layout.specs.Layout.{register_at}
use Rattle.machine_firing.proofs.remember.Goals as goal

pub returns-then-not-give_one : goal.returns-then-not-give_one
unfolding Done
returns-then-not-give_one c = let e : c.give_one.result ≡ false = c.if-not-give_one.true in (sym e ∙ c.give_one.ensures.0, c.give_one.ensures.1 ∙ rw e refl)

pub returns-then-dry : goal.returns-then-dry
unfolding Done
returns-then-dry c = let e : c.give_one.result ≡ true = c.if-not-give_one.false in (sym e ∙ c.give_one.ensures.0, c.give_one.ensures.1 ∙ rw (c.if-dry.true, e) refl)

pub returns : goal.returns
unfolding Done
returns c = let e : c.give_one.result ≡ true = c.if-not-give_one.false in (sym e ∙ c.give_one.ensures.0, c.set_register.ensures ∙ rw c.if-dry.false (ap (λ (m : List ℕ). stored m (register_at c.args.i) c.args.word) (c.give_one.ensures.1 ∙ rw (c.if-dry.false, e) refl)))
