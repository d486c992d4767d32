-- Laws of specs/Decide.antt, and what only they need.
use Rattle.std.specs.Prelude.{ℕ, ◌≡◌, refl, Bool, true, false, [], ◌∷◌}
use Rattle.std.proofs.Math.Option.{none, some}
use Rattle.value.specs.declared.Value.{Value}
use Rattle.value.specs.declared.Sense.{Sense}
use Rattle.value.specs.declared.Sense.TheVariants.{True, False, Neither}
use Rattle.value.specs.Senses.{sense}
use Rattle.network.specs.Values.{one-operand}
use Rattle.network.specs.Rules.{Kind, constant, copy, operator, T-gate, F-gate, M-gate, E-gate, IC-gate, FM-gate, FS-gate, Register, Firing, takes, gives, never, first, second, third, T-rule, F-rule, M-rule, E-rule, chosen, as-truth, IC-table, fired, FS-rule, operator-rule, rule}
use Rattle.network.specs.Histories.{History}
use Rattle.network.specs.HistoryLaw.{outcome}
use Rattle.network.specs.Decide.{Taken, untouched, also, decided, decide, Once, after-control, left, heads-of, carried-out}

T-once : (g : Register) (s : Sense) → Once after-control (T-rule g s)
T-once g True = (refl, λ v. tt)
T-once g False = (refl, λ v. tt)
T-once g Neither = (refl, λ v. tt)

F-once : (g : Register) (s : Sense) → Once after-control (F-rule g s)
F-once g True = (refl, λ v. tt)
F-once g False = (refl, λ v. tt)
F-once g Neither = (refl, λ v. tt)

M-once : (g : Register) (s : Sense) → Once after-control (M-rule g s)
M-once g True = (refl, λ v. tt)
M-once g False = (refl, λ v. tt)
M-once g Neither = tt

E-once : (g : Register) (s : Sense) → Once after-control (E-rule g s)
E-once g True = (refl, λ v. tt)
E-once g False = (refl, λ v. tt)
E-once g Neither = tt

table-once : (t : Taken) (g : Register) (c : Sense) (i : Bool) → Once t (IC-table g c i)
table-once t g True true = tt
table-once t g True false = tt
table-once t g False true = tt
table-once t g False false = tt
table-once t g Neither i = tt

IC-once : (g : Register) (s : Sense) → Once after-control (chosen s (IC-table g s))
IC-once g True = (refl, λ v. table-once (also second after-control) g True (as-truth (sense v)))
IC-once g False = (refl, λ v. table-once (also third after-control) g False (as-truth (sense v)))
IC-once g Neither = tt

FS-once : (r : Value) (s : Sense) → Once after-control (FS-rule r s)
FS-once r True = tt
FS-once r False = (refl, λ v. tt)
FS-once r Neither = (refl, λ v. tt)

operator-once : (b : Bool) (code : ℕ) (g : Register) (v : Value) → Once after-control (operator-rule b code g v)
operator-once true code g v = tt
operator-once false code g v = (refl, λ w. tt)

pub rule-once : (k : Kind) (g : Register) → Once untouched (rule k g)
rule-once constant none = tt
rule-once constant (some v) = (refl, λ t. tt)
rule-once copy g = (refl, λ v. tt)
rule-once (operator code) g = (refl, operator-once (one-operand code) code g)
rule-once T-gate g = (refl, λ c. T-once g (sense c))
rule-once F-gate g = (refl, λ c. F-once g (sense c))
rule-once M-gate g = (refl, λ c. M-once g (sense c))
rule-once E-gate g = (refl, λ c. E-once g (sense c))
rule-once IC-gate g = (refl, λ c. IC-once g (sense c))
rule-once FM-gate none = (refl, λ v. tt)
rule-once FM-gate (some r) = (refl, λ c. M-once fired (sense c))
rule-once FS-gate none = (refl, λ v. tt)
rule-once FS-gate (some r) = (refl, λ c. FS-once r (sense c))

pub decided-outcome : (f : Firing) (t : Taken) (xs ys zs : History) → Once t f →
    outcome f (left t.take1 xs) (left t.take2 ys) (left t.take3 zs) ≡ carried-out (decided t f (heads-of xs ys zs)) xs ys zs
decided-outcome (takes first k) t [] ys zs o = rw o.0 refl
decided-outcome (takes first k) t (x ∷ xs) ys zs o = rw o.0 (decided-outcome (k x) (also first t) (x ∷ xs) ys zs (o.1 x))
decided-outcome (takes second k) t xs [] zs o = rw o.0 refl
decided-outcome (takes second k) t xs (y ∷ ys) zs o = rw o.0 (decided-outcome (k y) (also second t) xs (y ∷ ys) zs (o.1 y))
decided-outcome (takes third k) t xs ys [] o = rw o.0 refl
decided-outcome (takes third k) t xs ys (z ∷ zs) o = rw o.0 (decided-outcome (k z) (also third t) xs ys (z ∷ zs) (o.1 z))
decided-outcome (gives a b c g) t xs ys zs o = refl
decided-outcome never t xs ys zs o = refl

pub decide-outcome : (k : Kind) (g : Register) (xs ys zs : History) →
    outcome (rule k g) xs ys zs ≡ carried-out (decide k g (heads-of xs ys zs)) xs ys zs
decide-outcome k g xs ys zs = decided-outcome (rule k g) untouched xs ys zs (rule-once k g)
