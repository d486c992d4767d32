-- Laws of specs/Given.antt, and what only they need.
use Rattle.std.specs.Prelude.{ℕ, ◌≡◌, Bool, true, false}
use Rattle.std.proofs.Common.{subst}
use Rattle.std.proofs.Math.Option.{Option, none, some}
use Rattle.value.specs.declared.Value.{Value}
use Rattle.value.specs.Bytes.{InRange}
use Rattle.value.proofs.Codes.{apply-in-range}
use Rattle.value.specs.declared.Sense.{Sense}
use Rattle.value.specs.declared.Sense.TheVariants.{True, False, Neither}
use Rattle.value.specs.Senses.{sense}
use Rattle.network.specs.Values.{err-value, one-operand}
use Rattle.network.specs.Rules.{Kind, constant, copy, operator, T-gate, F-gate, M-gate, E-gate, IC-gate, FM-gate, FS-gate, Register, Firing, takes, gives, never, Input, T-rule, F-rule, M-rule, E-rule, chosen, as-truth, IC-table, fired, FS-rule, operator-rule, rule}
use Rattle.network.specs.Decide.{Taken, also, untouched, Decision, with-head, decided, decide}
use Rattle.network.proofs.Firing.{none-is-not-some, some_same}
use Rattle.demand_view.specs.Stands.{Fine}
use Rattle.demand_view.specs.Given.{Gives-fine, Fine-decision}

module _ (g : Register) (f : Fine g) where
  T-fine : (s : Sense) → Gives-fine (T-rule g s)
  T-fine True = λ v h. (h, tt, tt, f)
  T-fine False = λ v h. (tt, tt, tt, f)
  T-fine Neither = λ v h. (tt, tt, tt, f)

  F-fine : (s : Sense) → Gives-fine (F-rule g s)
  F-fine True = λ v h. (tt, tt, tt, f)
  F-fine False = λ v h. (h, tt, tt, f)
  F-fine Neither = λ v h. (tt, tt, tt, f)

  M-fine : (s : Sense) → Gives-fine (M-rule g s)
  M-fine True = λ v h. (h, tt, tt, f)
  M-fine False = λ v h. (h, tt, tt, f)
  M-fine Neither = (tt, tt, tt, f)

  E-fine : (s : Sense) → Gives-fine (E-rule g s)
  E-fine True = λ v h. (h, tt, tt, f)
  E-fine False = λ v h. (h, tt, tt, f)
  E-fine Neither = (tt, tt, tt, f)

  table-fine : (c : Sense) (i : Bool) → Gives-fine (IC-table g c i)
  table-fine True true = (tt, tt, tt, f)
  table-fine True false = (tt, tt, tt, f)
  table-fine False true = (tt, tt, tt, f)
  table-fine False false = (tt, tt, tt, f)
  table-fine Neither i = (tt, tt, tt, f)

  IC-fine : (s : Sense) → Gives-fine (chosen s (IC-table g s))
  IC-fine True = λ v h. table-fine True (as-truth (sense v))
  IC-fine False = λ v h. table-fine False (as-truth (sense v))
  IC-fine Neither = table-fine Neither false

  operator-fine : (b : Bool) (code : ℕ) (v : Value) → Gives-fine (operator-rule b code g v)
  operator-fine true code v = (apply-in-range code v err-value, tt, tt, f)
  operator-fine false code v = λ w h. (apply-in-range code v w, tt, tt, f)

FS-fine : (r : Value) → InRange r → (s : Sense) → Gives-fine (FS-rule r s)
FS-fine r f True = (f, tt, tt, f)
FS-fine r f False = λ v h. (h, tt, tt, h)
FS-fine r f Neither = λ v h. (h, tt, tt, h)

pub rule-fine : (k : Kind) (g : Register) → Fine g → Gives-fine (rule k g)
rule-fine constant none f = tt
rule-fine constant (some v) f = λ t h. (f, tt, tt, f)
rule-fine copy g f = λ v h. (h, h, tt, f)
rule-fine (operator code) g f = λ v h. operator-fine g f (one-operand code) code v
rule-fine T-gate g f = λ c h. T-fine g f (sense c)
rule-fine F-gate g f = λ c h. F-fine g f (sense c)
rule-fine M-gate g f = λ c h. M-fine g f (sense c)
rule-fine E-gate g f = λ c h. E-fine g f (sense c)
rule-fine IC-gate g f = λ c h. IC-fine g f (sense c)
rule-fine FM-gate none f = λ v h. (h, tt, tt, tt)
rule-fine FM-gate (some r) f = λ c h. M-fine fired tt (sense c)
rule-fine FS-gate none f = λ v h. (h, tt, tt, h)
rule-fine FS-gate (some r) f = λ c h. FS-fine r f (sense c)

decided-fine : (f : Firing) (t : Taken) (hs : Input → Option Value) (d : Decision) → Gives-fine f → ((i : Input) → Fine (hs i)) → decided t f hs ≡ some d → Fine-decision d
decided-fine (takes i k) t hs d g h = go (λ v r. decided-fine (k v) (also i t) hs d (g v r) h) (hs i) (h i)
  where
    go : ((v : Value) → InRange v → decided (also i t) (k v) hs ≡ some d → Fine-decision d) → (o : Option Value) → Fine o →
        with-head o (λ v. decided (also i t) (k v) hs) ≡ some d → Fine-decision d
    go ih none r e = absurd (none-is-not-some d e)
    go ih (some v) r e = ih v r e
decided-fine (gives a b c r) t hs d g h =
    λ e. subst Fine-decision (some_same (record { taken = t; give1 = a; give2 = b; give3 = c; register = r }) d e) g
decided-fine never t hs d g h = λ e. absurd (none-is-not-some d e)

pub decision-fine : (k : Kind) (g : Register) (hs : Input → Option Value) (d : Decision) → Fine g → ((i : Input) → Fine (hs i)) → decide k g hs ≡ some d →
    Fine-decision d
decision-fine k g hs d f h = decided-fine (rule k g) untouched hs d (rule-fine k g f) h
