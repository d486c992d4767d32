-- Laws of specs/Fill.antt, and what only they need.
use Rattle.std.specs.Prelude.{ℕ, ◌≡◌, refl, Bool, true, false}
use Rattle.std.proofs.Common.{sym}
use Rattle.std.proofs.lemmas.Bool.{false≢true}
use Rattle.std.proofs.Math.Option.{none, some}
use Rattle.value.specs.declared.Value.{Value}
use Rattle.value.specs.declared.Sense.{Sense}
use Rattle.value.specs.declared.Sense.TheVariants.{True, False, Neither}
use Rattle.value.specs.Senses.{sense}
use Rattle.network.specs.Values.{one-operand}
use Rattle.network.specs.Rules.{Kind, constant, copy, operator, T-gate, F-gate, M-gate, E-gate, IC-gate, FM-gate, FS-gate, Register, Firing, T-rule, F-rule, M-rule, E-rule, chosen, as-truth, IC-table, operator-rule, rule}
use Rattle.network.specs.Fill.{remembering, Gives}

module _ (g : Register) where
  abbrev Keeps : Firing → Type 0
  Keeps f = Gives (λ h. h ≡ g) f

  T-keeps : (s : Sense) → Keeps (T-rule g s)
  T-keeps True = λ v. refl
  T-keeps False = λ v. refl
  T-keeps Neither = λ v. refl

  F-keeps : (s : Sense) → Keeps (F-rule g s)
  F-keeps True = λ v. refl
  F-keeps False = λ v. refl
  F-keeps Neither = λ v. refl

  M-keeps : (s : Sense) → Keeps (M-rule g s)
  M-keeps True = λ v. refl
  M-keeps False = λ v. refl
  M-keeps Neither = refl

  E-keeps : (s : Sense) → Keeps (E-rule g s)
  E-keeps True = λ v. refl
  E-keeps False = λ v. refl
  E-keeps Neither = refl

  table-keeps : (c : Sense) (i : Bool) → Keeps (IC-table g c i)
  table-keeps True true = refl
  table-keeps True false = refl
  table-keeps False true = refl
  table-keeps False false = refl
  table-keeps Neither i = refl

  IC-keeps : (s : Sense) → Keeps (chosen s (IC-table g s))
  IC-keeps True = λ v. table-keeps True (as-truth (sense v))
  IC-keeps False = λ v. table-keeps False (as-truth (sense v))
  IC-keeps Neither = refl

  operator-keeps : (b : Bool) (code : ℕ) (v : Value) → Keeps (operator-rule b code g v)
  operator-keeps true code v = refl
  operator-keeps false code v = λ w. refl

-- A kind that does not remember leaves its register as it is, so nothing is lost by giving it no link.
pub register-kept : (k : Kind) (g : Register) → remembering k ≡ false → Gives (λ h. h ≡ g) (rule k g)
register-kept constant none e = tt
register-kept constant (some v) e = λ t. refl
register-kept copy g e = λ v. refl
register-kept (operator code) g e = operator-keeps g (one-operand code) code
register-kept T-gate g e = λ c. T-keeps g (sense c)
register-kept F-gate g e = λ c. F-keeps g (sense c)
register-kept M-gate g e = λ c. M-keeps g (sense c)
register-kept E-gate g e = λ c. E-keeps g (sense c)
register-kept IC-gate g e = λ c. IC-keeps g (sense c)
register-kept FM-gate g e = absurd (false≢true (sym e))
register-kept FS-gate g e = absurd (false≢true (sym e))
