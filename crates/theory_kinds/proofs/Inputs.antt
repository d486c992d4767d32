-- Laws of specs/Inputs.antt, and what only they need.
use Rattle.std.specs.Prelude.{ℕ, zero, suc, ◌≤◌, ◌<◌, ◌≡◌, refl, ◌↔◌, true, List, [], ◌∷◌, length, get_or, take, Ok}
use Rattle.std.proofs.Common.{ap, subst, ◌∙◌, get_or-take, arith}
use Rattle.std.proofs.Math.Option.{some}
use Rattle.std.proofs.Math.ListN.{get_or-eq_default}
use Rattle.std.proofs.Math.Decide.{dec_lt}
use Rattle.value.specs.declared.Value.{Value}
use Rattle.value.specs.declared.ValueKind.{ValueKind}
use Rattle.value.specs.declared.ValueKind.TheVariants.{Whole as whole-kind, Truth as truth-kind, Real as real-kind}
use Rattle.value.specs.Senses.{err}
use Rattle.value.specs.Kinds.{suits, kind_of_letter}
use Rattle.value_sets.specs.Sets.{set_values, IsSet}
use Rattle.value_sets.proofs.Sets.{values-set}
use Rattle.names.specs.Names.{Names, below}
use Rattle.formula.specs.Sheet.{row_count, fields_of}
use Rattle.formula.specs.Tree.{Exp, formula_of}
use Rattle.formula.specs.Free.{free_e, inputs_of}
use Rattle.formula.specs.Tests.{verdict_of, kinds_kept}
use Rattle.formula.specs.Acceptance.{Admissible, Kinded}
use Rattle.formula.proofs.Acceptance.{passed-admissible, passed-kinded}
use Rattle.formula.specs.Kinds.{Kinds, kinds_e, kinded}
use Rattle.formula.specs.Faults.{input_kinds, kind_check, letters_of}
use Rattle.meaning.specs.Meaning.{Env, inputs_hold, eval_e}
use Rattle.meaning.proofs.Accepted.{names-earlier, has-rows, formula-sound}
use Rattle.theory_kinds.specs.Strict.{strict_e}
use Rattle.theory_kinds.specs.Kinded.{AllE}
use Rattle.theory_kinds.proofs.Kinded.{passes-iff}
use Rattle.theory_kinds.specs.KindLaws.{Env-suits}
use Rattle.theory_kinds.specs.KindsHold.{Suited}
use Rattle.theory_kinds.proofs.KindsHold.{kinds-hold}
use Rattle.theory_kinds.specs.Inputs.{Set-suits}

err-suits : (k : ValueKind) → suits k err ≡ true
err-suits whole-kind = refl
err-suits truth-kind = refl
err-suits real-kind = refl

take_short : (n : ℕ) (l : List ℕ) → length (take n l) ≤ n
take_short zero l = omega arith
take_short (suc n) [] = omega arith
take_short (suc n) (x ∷ l) = let i = take_short n l in omega arith

-- 12 lets no other set pass.
pub read-suits : (x : Exp) (line set : List ℕ) (vs : List Value) → set_values (letters_of x line) set ≡ some vs → Set-suits line vs
unfolding letters_of
read-suits x line set vs h i = go (dec_lt i (length vs))
  where
    letters : List ℕ
    letters = take (length (inputs_of x)) line

    read : IsSet letters set vs
    read = values-set letters set vs h

    within : i < length vs → i < length (inputs_of x)
    within l = omega (arith, read.count, take_short (length (inputs_of x)) line)

    go : Dec (i < length vs) → suits (kind_of_letter (get_or line i 0)) (get_or vs i err) ≡ true
    go (yes l) =
        subst (λ (b : ℕ). suits (kind_of_letter b) (get_or vs i err) ≡ true) (get_or-take (length (inputs_of x)) line i 0 (within l)) (read.suit i (omega (arith, read.count)))
    go (no l) =
        ap (suits (kind_of_letter (get_or line i 0))) (get_or-eq_default vs err (omega arith)) ∙ err-suits (kind_of_letter (get_or line i 0))

-- The inputs, rising, have both the values and the letters in their order.
pub inputs-suit : (f : Names) (line : List ℕ) (vs : List Value) → Set-suits line vs → Env-suits (input_kinds f line) (inputs_hold f vs)
unfolding input_kinds inputs_hold
inputs-suit f line vs h k = h (below f k)

module _ (s line : List ℕ) (vs : List Value) where
  -- The formula of a sheet, the kinds that a line gives its inputs, and what they hold.
  abbrev x : Exp
  x = formula_of s

  abbrev kinds : Kinds
  kinds = input_kinds (free_e x) line

  abbrev env : Env
  env = inputs_hold (free_e x) vs

  module _ (h : Admissible s) where
    -- 18 passes a sheet if and only if every node of its formula keeps the rule of kinds.
    pub sheet-passes-iff : (kind_check kinded (fields_of s) (row_count s) kinds ≡ Ok tt) ↔ AllE x kinds
    unfolding formula_of
    sheet-passes-iff = passes-iff (fields_of s) (row_count s) (names-earlier s h) (has-rows s h) kinds

    -- With any number of rounds, strict evaluation of a passed sheet does not stop: it yields what direct evaluation yields, each
    -- result of its kind or an err.
    pub sheet-kinds-hold : kind_check kinded (fields_of s) (row_count s) kinds ≡ Ok tt → Set-suits line vs → (rounds : ℕ)
        → (strict_e x env rounds ≡ some (eval_e x env rounds)) × Suited (eval_e x env rounds) (kinds_e x kinds)
    sheet-kinds-hold passed suit rounds =
        kinds-hold x kinds (formula-sound s h) (sheet-passes-iff.0 passed) env (inputs-suit (free_e x) line vs suit) rounds

-- 18 of an accepted sheet, as the laws above have it.
pub kinds_kept_lem : (s line : List ℕ) → Kinded s line → kind_check kinded (fields_of s) (row_count s) (input_kinds (free_e (formula_of s)) line) ≡ Ok tt
unfolding kinds_kept formula_of
kinds_kept_lem s line k = k.kept

-- NO WRONG KIND in direct evaluation: of a sheet accepted with its kinds line, on any set that passes 12, with any number of rounds.
pub evaluation-kinds-hold : (s line set : List ℕ) (vs : List Value) → verdict_of s line ≡ Ok tt → set_values (letters_of (formula_of s) line) set ≡ some vs → (rounds : ℕ)
    → (strict_e (formula_of s) (inputs_hold (free_e (formula_of s)) vs) rounds ≡ some (eval_e (formula_of s) (inputs_hold (free_e (formula_of s)) vs) rounds))
    × Suited (eval_e (formula_of s) (inputs_hold (free_e (formula_of s)) vs) rounds) (kinds_e (formula_of s) (input_kinds (free_e (formula_of s)) line))
evaluation-kinds-hold s line set vs accepted read =
    sheet-kinds-hold s line vs (passed-admissible s line accepted) (kinds_kept_lem s line (passed-kinded s line accepted)) (read-suits (formula_of s) line set vs read)
