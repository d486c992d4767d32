-- Laws of specs/HistoryLaw.antt, and what only they need.
use Rattle.std.specs.Prelude.{ℕ, ◌≡◌, refl, Bool, true, false, [], ◌∷◌}
use Rattle.std.proofs.Common.{sym, ap}
use Rattle.std.proofs.Math.Option.{none, some}
use Rattle.value.specs.declared.Value.{Value}
use Rattle.value.specs.declared.Sense.{Sense}
use Rattle.value.specs.declared.Sense.TheVariants.{True, False, Neither}
use Rattle.value.specs.Senses.{sense}
use Rattle.network.specs.Values.{err-value, one-operand, apply}
use Rattle.network.specs.Rules.{Kind, constant, copy, operator, T-gate, F-gate, M-gate, E-gate, IC-gate, FM-gate, FS-gate, Register, T-rule, F-rule, M-rule, E-rule, chosen, as-truth, IC-table, fired, FS-rule, operator-rule, rule}
use Rattle.network.specs.Histories.{History, senses, truths, silence, followed, only, operator-history, T-history, F-history, M-history, S-history, IC-history, E-history, history}
use Rattle.network.specs.HistoryLaw.{outcome, continued}

M-law : (k : Kind) (g : Register) → ((xs ys zs : History) → history k g xs ys zs ≡ only (M-history (senses xs) ys zs)) →
    (s : Sense) (xs ys zs : History) → only (M-history (s ∷ senses xs) ys zs) ≡ continued k (outcome (M-rule g s) xs ys zs)
M-law k g h True xs [] zs = refl
M-law k g h True xs (y ∷ ys) zs = ap (followed (some y) none none) (sym (h xs ys zs))
M-law k g h False xs ys [] = refl
M-law k g h False xs ys (z ∷ zs) = ap (followed (some z) none none) (sym (h xs ys zs))
M-law k g h Neither xs ys zs = ap (followed (some err-value) none none) (sym (h xs ys zs))

T-law : (g : Register) (s : Sense) (xs ys zs : History) → only (T-history (s ∷ senses xs) ys) ≡ continued T-gate (outcome (T-rule g s) xs ys zs)
T-law g True xs [] zs = refl
T-law g False xs [] zs = refl
T-law g Neither xs [] zs = refl
T-law g True xs (y ∷ ys) zs = refl
T-law g False xs (y ∷ ys) zs = refl
T-law g Neither xs (y ∷ ys) zs = refl

F-law : (g : Register) (s : Sense) (xs ys zs : History) → only (F-history (s ∷ senses xs) ys) ≡ continued F-gate (outcome (F-rule g s) xs ys zs)
F-law g True xs [] zs = refl
F-law g False xs [] zs = refl
F-law g Neither xs [] zs = refl
F-law g True xs (y ∷ ys) zs = refl
F-law g False xs (y ∷ ys) zs = refl
F-law g Neither xs (y ∷ ys) zs = refl

E-law : (g : Register) (s : Sense) (xs ys zs : History) → only (E-history (s ∷ senses xs) ys) ≡ continued E-gate (outcome (E-rule g s) xs ys zs)
E-law g True xs [] zs = refl
E-law g True xs (y ∷ ys) zs = refl
E-law g False xs [] zs = refl
E-law g False xs (y ∷ ys) zs = refl
E-law g Neither xs ys zs = refl

IC-true-law : (g : Register) (t : Bool) (xs ys zs : History) →
    IC-history (True ∷ senses xs) (t ∷ truths ys) (truths zs) ≡ continued IC-gate (outcome (IC-table g True t) xs ys zs)
IC-true-law g true xs ys zs = refl
IC-true-law g false xs ys zs = refl

IC-false-law : (g : Register) (t : Bool) (xs ys zs : History) →
    IC-history (False ∷ senses xs) (truths ys) (t ∷ truths zs) ≡ continued IC-gate (outcome (IC-table g False t) xs ys zs)
IC-false-law g true xs ys zs = refl
IC-false-law g false xs ys zs = refl

IC-law : (g : Register) (s : Sense) (xs ys zs : History) →
    IC-history (s ∷ senses xs) (truths ys) (truths zs) ≡ continued IC-gate (outcome (chosen s (IC-table g s)) xs ys zs)
IC-law g True xs [] zs = refl
IC-law g True xs (y ∷ ys) zs = IC-true-law g (as-truth (sense y)) xs ys zs
IC-law g False xs ys [] = refl
IC-law g False xs ys (z ∷ zs) = IC-false-law g (as-truth (sense z)) xs ys zs
IC-law g Neither xs ys zs = refl

FS-law : (r : Value) (s : Sense) (xs ys zs : History) → only (S-history r (s ∷ senses xs) ys) ≡ continued FS-gate (outcome (FS-rule r s) xs ys zs)
FS-law r True xs ys zs = refl
FS-law r False xs [] zs = refl
FS-law r False xs (y ∷ ys) zs = refl
FS-law r Neither xs [] zs = refl
FS-law r Neither xs (y ∷ ys) zs = refl

operator-law : (code : ℕ) (g : Register) (b : Bool) → one-operand code ≡ b → (x : Value) (xs ys zs : History) →
    only (operator-history b code (x ∷ xs) ys) ≡ continued (operator code) (outcome (operator-rule b code g x) xs ys zs)
operator-law code g true e x xs ys zs =
    ap (λ b. followed (some (apply code x err-value)) none none (only (operator-history b code xs ys))) (sym e)
operator-law code g false e x xs [] zs = refl
operator-law code g false e x xs (y ∷ ys) zs =
    ap (λ b. followed (some (apply code x y)) none none (only (operator-history b code xs ys))) (sym e)

no_operand : (code : ℕ) (b : Bool) (ys : History) → only (operator-history b code [] ys) ≡ silence
no_operand code true ys = refl
no_operand code false ys = refl

-- The law, kind by kind.
pub history-law : (k : Kind) (g : Register) (xs ys zs : History) → history k g xs ys zs ≡ continued k (outcome (rule k g) xs ys zs)
history-law constant none xs ys zs = refl
history-law constant (some v) [] ys zs = refl
history-law constant (some v) (x ∷ xs) ys zs = refl
history-law copy g [] ys zs = refl
history-law copy g (x ∷ xs) ys zs = refl
history-law (operator code) g [] ys zs = no_operand code (one-operand code) ys
history-law (operator code) g (x ∷ xs) ys zs = operator-law code g (one-operand code) refl x xs ys zs
history-law T-gate g [] ys zs = refl
history-law T-gate g (x ∷ xs) ys zs = T-law g (sense x) xs ys zs
history-law F-gate g [] ys zs = refl
history-law F-gate g (x ∷ xs) ys zs = F-law g (sense x) xs ys zs
history-law M-gate g [] ys zs = refl
history-law M-gate g (x ∷ xs) ys zs = M-law M-gate g (λ xs ys zs. refl) (sense x) xs ys zs
history-law E-gate g [] ys zs = refl
history-law E-gate g (x ∷ xs) ys zs = E-law g (sense x) xs ys zs
history-law IC-gate g [] ys zs = refl
history-law IC-gate g (x ∷ xs) ys zs = IC-law g (sense x) xs ys zs
history-law FM-gate none xs ys [] = refl
history-law FM-gate none xs ys (z ∷ zs) = refl
history-law FM-gate (some r) [] ys zs = refl
history-law FM-gate (some r) (x ∷ xs) ys zs = M-law FM-gate fired (λ xs ys zs. refl) (sense x) xs ys zs
history-law FS-gate none xs [] zs = refl
history-law FS-gate none xs (y ∷ ys) zs = refl
history-law FS-gate (some r) [] ys zs = refl
history-law FS-gate (some r) (x ∷ xs) ys zs = FS-law r (sense x) xs ys zs
