use mathlib.Core.Path.{◌≡◌, ap, ◌∙◌}
use Prim.Native.Nat.{ℕ, ◌+◌, ◌≤◌}
use mathlib.Core.List.{List, [], ◌∷◌, ◌++◌, append_assoc}
use native.Mathlib.Omega.{arith}
use lib.ListN.{length, replicate, length-append}
use lib.Seq.{sets}
use Rattle.text.specs.Printed.{number_field}
use Rattle.text.proofs.PrintLaws.{number-length, written-part, written_both}
use Rattle.sheet_runs.specs.Lines.{line_of}
use Rattle.sheet_runs.proofs.line.Goals as goal

-- Six fields one behind the other, and the line feed that was there.

one-more : (l x y : List ℕ) (n : ℕ) → length x ≡ n → n + length y ≤ length l → sets (sets l 0 x) n y ≡ sets l 0 (x ++ y)
one-more l x y n e h = ap (λ k. sets (sets l 0 x) k y) (omega (arith, e)) ∙ written_both l 0 x y (omega (arith, e, h))

laid : (a b c d e f : List ℕ) → length a ≡ 6 → length b ≡ 6 → length c ≡ 6 → length d ≡ 6 → length e ≡ 6 → length f ≡ 6
    → sets (sets (sets (sets (sets (sets (replicate 37 10) 0 a) 6 b) 12 c) 18 d) 24 e) 30 f ≡ a ++ b ++ c ++ d ++ e ++ f ++ (10 ∷ [])
laid a b c d e f ha hb hc hd he hf =
    let l : List ℕ = replicate 37 10 in
    let two : length (a ++ b) ≡ 12 = length-append a b ∙ omega arith in
    let three : length ((a ++ b) ++ c) ≡ 18 = length-append (a ++ b) c ∙ omega arith in
    let four : length (((a ++ b) ++ c) ++ d) ≡ 24 = length-append ((a ++ b) ++ c) d ∙ omega arith in
    let five : length ((((a ++ b) ++ c) ++ d) ++ e) ≡ 30 = length-append (((a ++ b) ++ c) ++ d) e ∙ omega arith in
    let six : length (((((a ++ b) ++ c) ++ d) ++ e) ++ f) ≡ 36 = length-append ((((a ++ b) ++ c) ++ d) ++ e) f ∙ omega arith in
    ap (λ x. sets (sets (sets (sets x 12 c) 18 d) 24 e) 30 f) (one-more l a b 6 ha (omega arith))
    ∙ ap (λ x. sets (sets (sets x 18 d) 24 e) 30 f) (one-more l (a ++ b) c 12 two (omega arith))
    ∙ ap (λ x. sets (sets x 24 e) 30 f) (one-more l ((a ++ b) ++ c) d 18 three (omega arith))
    ∙ ap (λ x. sets x 30 f) (one-more l (((a ++ b) ++ c) ++ d) e 24 four (omega arith))
    ∙ one-more l ((((a ++ b) ++ c) ++ d) ++ e) f 30 five (omega arith)
    ∙ written-part l 0 36 (((((a ++ b) ++ c) ++ d) ++ e) ++ f) six (omega arith)
    ∙ simp append_assoc

pub returns : goal.returns
unfolding line_of
returns c =
    let a = c.args.a in
    c.put_number-6.ensures
    ∙ ap (λ (l : List ℕ). sets l 30 (number_field a.results)) (c.put_number-5.ensures
    ∙ ap (λ (l : List ℕ). sets l 24 (number_field a.inputs)) (c.put_number-4.ensures
    ∙ ap (λ (l : List ℕ). sets l 18 (number_field a.operators)) (c.put_number-3.ensures
    ∙ ap (λ (l : List ℕ). sets l 12 (number_field a.rows)) (c.put_number-2.ensures
    ∙ ap (λ (l : List ℕ). sets l 6 (number_field a.row)) c.put_number.ensures))))
    ∙ laid (number_field a.refusal) (number_field a.row) (number_field a.rows) (number_field a.operators) (number_field a.inputs) (number_field a.results) (number-length a.refusal) (number-length a.row) (number-length a.rows) (number-length a.operators) (number-length a.inputs) (number-length a.results)
