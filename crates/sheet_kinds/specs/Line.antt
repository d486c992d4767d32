-- The kinds line's letters one by one, and how they reach the environment (document 02: "one letter an input, W or T, and a line feed",
-- "kind letter R"). Assumes nothing.
use Prim.Native.Nat.{ℕ, zero, suc, ◌+◌, ◌-◌, ◌≤◌, ◌<◌}
use Rattle.std.specs.Prelude.{◌≡◌, refl, Bool, true, false, ◌&&◌, eqb, ltb, length, get_or, set}
use Rattle.std.proofs.Common.{sym, ◌∙◌, subst, length-set, drop-cons, get_or-set_same, get_or-set_other, ltb-true, ltb-false, eqb-true}
use Rattle.std.proofs.Math.Path.{ap, fun_ext}
use Rattle.std.proofs.lemmas.Bool.{false≢true, eqb-false}
use mathlib.Core.List.{List, [], ◌∷◌}
use Rattle.std.proofs.Math.ListN.{drop, drop_of_length-le, get_or-eq_default}
use native.Mathlib.Omega.{arith}
use Rattle.value.specs.declared.ValueKind.TheVariants.{Whole as whole-kind}
use Rattle.value.specs.Kinds.{is_letter, kind_of_letter}
use Rattle.names.specs.Names.{below, mask}
use Rattle.names.proofs.Sets.{mask-has, below-mono, below-cong}
use Rattle.formula.specs.Tree.{Exp}
use Rattle.formula.proofs.TreeLaws.{and-true}
use Rattle.formula.specs.Free.{free_e, inputs_of}
use Rattle.formula.specs.Faults.{line_well, input_kinds}
use Rattle.eval_words.specs.Inputs.{set_in, inputs-below}
use Rattle.sheet_kinds.specs.Bytes.{never, kind_of_byte, kinds_in}

-- ---- letter by letter

-- "another length"
pub other_length : (inputs : ℕ) (line : List ℕ) → (length line ≡ suc inputs → ⊥) → line_well inputs line ≡ false
unfolding line_well
other_length zero [] h = refl
other_length zero (b ∷ []) h = absurd (h refl)
other_length zero (b ∷ (c ∷ s)) h = refl
other_length (suc inputs) [] h = refl
other_length (suc inputs) (b ∷ s) h =
    ap (λ (x : Bool). is_letter b && x) (other_length inputs s (λ e. h (ap suc e))) ∙ never (is_letter b)

pub well-length : (inputs : ℕ) (line : List ℕ) → line_well inputs line ≡ true → length line ≡ suc inputs
unfolding line_well
well-length zero [] h = absurd (false≢true h)
well-length zero (b ∷ []) h = refl
well-length zero (b ∷ (c ∷ s)) h = absurd (false≢true h)
well-length (suc inputs) [] h = absurd (false≢true h)
well-length (suc inputs) (b ∷ s) h = ap suc (well-length inputs s (and-true (is_letter b) (line_well inputs s) h).1)

-- A line's last byte is its line feed.
well-end : (inputs : ℕ) (line : List ℕ) → line_well inputs line ≡ true → get_or line inputs 0 ≡ 10
unfolding line_well
well-end zero [] h = absurd (false≢true h)
well-end zero (b ∷ []) h = eqb-true b 10 h
well-end zero (b ∷ (c ∷ s)) h = absurd (false≢true h)
well-end (suc inputs) [] h = absurd (false≢true h)
well-end (suc inputs) (b ∷ s) h = well-end inputs s (and-true (is_letter b) (line_well inputs s) h).1

-- Each byte before it is a letter.
pub well-letter : (inputs : ℕ) (line : List ℕ) → line_well inputs line ≡ true → (j : ℕ) → j < inputs → is_letter (get_or line j 0) ≡ true
unfolding line_well
well-letter zero line h j l = absurd (omega arith)
well-letter (suc inputs) [] h j l = absurd (false≢true h)
well-letter (suc inputs) (b ∷ s) h zero l = (and-true (is_letter b) (line_well inputs s) h).0
well-letter (suc inputs) (b ∷ s) h (suc j) l = well-letter inputs s (and-true (is_letter b) (line_well inputs s) h).1 j (omega arith)

-- What is left to test from letter i on.
abbrev pub well_from : ℕ → List ℕ → ℕ → Bool
well_from n line i = line_well (n - i) (drop i line)

module _ (n : ℕ) (line : List ℕ) where
  pub well-start : line_well n line ≡ well_from n line 0
  well-start =
      let e : n ≡ n - 0 = omega arith in
      ap (λ (m : ℕ). line_well m line) e

  pub well-step : (i : ℕ) → i < n → n < length line → (letter : Bool) → letter ≡ is_letter (get_or line i 0)
      → well_from n line i ≡ letter && well_from n line (i + 1)
  unfolding line_well
  well-step i h l letter e =
      let m : n - i ≡ suc (n - (i + 1)) = omega arith in
      let next : suc i ≡ i + 1 = omega arith in
      (λ j. line_well (m j) (drop-cons line i 0 (omega arith) j))
      ∙ ap (λ (x : Bool). x && line_well (n - (i + 1)) (drop (suc i) line)) (sym e)
      ∙ ap (λ (k : ℕ). letter && line_well (n - (i + 1)) (drop k line)) next

  pub well-last : (i : ℕ) → i ≡ n → length line - n ≡ 1 → well_from n line i ≡ eqb (get_or line n 0) 10
  unfolding line_well
  well-last i e l =
      let z : n - n ≡ 0 = omega arith in
      let s : drop (suc n) line ≡ [] = drop_of_length-le line {i = suc n} (omega arith) in
      ap (well_from n line) e
      ∙ (λ j. line_well (z j) (drop-cons line n 0 (omega arith) j))
      ∙ ap (λ (xs : List ℕ). line_well 0 (get_or line n 0 ∷ xs)) s

-- ---- the environment

-- The first k bytes of an environment that tells a line's kinds to the members of m.
pub record Tells (line : List ℕ) (m : ℕ) (env : List ℕ) (k : ℕ) : Type 0 where
  pub long : length env ≡ 32
  pub told : (j : ℕ) → j < k → kind_of_byte (get_or env j 0) ≡ kind_of_letter (get_or line (below (set_in m) j) 0)

pub tells_none : (line : List ℕ) (m : ℕ) (env : List ℕ) → length env ≡ 32 → Tells line m env 0
tells_none line m env l = record { long = l; told = λ j i. absurd (omega arith) }

pub tells_more : (line : List ℕ) (m : ℕ) (env : List ℕ) (k i b : ℕ) → k < 32 → i ≡ below (set_in m) k
    → kind_of_byte b ≡ kind_of_letter (get_or line i 0) → Tells line m env k → Tells line m (set env k b) (k + 1)
tells_more line m env k i b l e f h =
    record {
      long = length-set env k b ∙ h.long;
      told = λ j u. go j u (eqb j k) refl;
    }
  where
    go : (j : ℕ) → j < k + 1 → (x : Bool) → eqb j k ≡ x
        → kind_of_byte (get_or (set env k b) j 0) ≡ kind_of_letter (get_or line (below (set_in m) j) 0)
    go j u true p =
        let q : j ≡ k = eqb-true j k p in
        rw q (ap kind_of_byte (get_or-set_same env k b 0 (omega (arith, h.long))) ∙ f ∙ ap (λ (z : ℕ). kind_of_letter (get_or line z 0)) e)
    go j u false p =
        let q : j ≡ k → ⊥ = eqb-false j k p in
        ap kind_of_byte (get_or-set_other env k j b 0 q) ∙ h.told j (omega (arith, q))

-- Bytes that tell a well-formed line's kinds are the kinds of the inputs.
pub tells-inputs : (x : Exp) (line env : List ℕ) → line_well (length (inputs_of x)) line ≡ true → Tells line (mask (free_e x)) env 32
    → kinds_in env ≡ input_kinds (free_e x) line
unfolding kinds_in input_kinds
tells-inputs x line env w h = fun_ext (λ j. go j (ltb j 32) refl)
  where
    n : ℕ
    n = below (free_e x) 32

    well : line_well n line ≡ true
    well = subst (λ (m : ℕ). line_well m line ≡ true) (inputs-below x) w

    -- at the line feed and past it
    past : (i : ℕ) → n ≤ i → kind_of_letter (get_or line i 0) ≡ whole-kind
    past i l = split (eqb i n) refl
      where
        split : (b : Bool) → eqb i n ≡ b → kind_of_letter (get_or line i 0) ≡ whole-kind
        split true p = ap (λ (z : ℕ). kind_of_letter (get_or line z 0)) (eqb-true i n p) ∙ ap kind_of_letter (well-end n line well)
        split false p =
            let q : i ≡ n → ⊥ = eqb-false i n p in
            ap kind_of_letter (get_or-eq_default line 0 (omega (arith, q, well-length n line well)))

    go : (j : ℕ) (b : Bool) → ltb j 32 ≡ b → kind_of_byte (get_or env j 0) ≡ kind_of_letter (get_or line (below (free_e x) j) 0)
    go j true p =
        let l : j < 32 = ltb-true j 32 p in
        h.told j l
        ∙ ap (λ (i : ℕ). kind_of_letter (get_or line i 0))
        (below-cong (set_in (mask (free_e x))) (free_e x) j (λ i m. mask-has (free_e x) i (omega arith)))
    go j false p =
        let l : 32 ≤ j = ltb-false j 32 p in
        ap kind_of_byte (get_or-eq_default env 0 (omega (arith, h.long)))
        ∙ sym (past (below (free_e x) j) (below-mono (free_e x) 32 j l))
