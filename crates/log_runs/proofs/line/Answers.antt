use Prim.Native.Nat.{ℕ, ◌+◌}
use mathlib.Core.Path.{◌≡◌, refl, sym, ap, ◌∙◌}
use mathlib.Core.List.{List, [], ◌++◌, append_assoc, append-nil}
use native.Mathlib.Omega.{arith}
use lib.ListN.{length, drop, replicate, length-append}
use lib.Seq.{sets, drop-length}
use Rattle.text.specs.Printed.{number_field, refusal_line}
use Rattle.text.proofs.PrintLaws.{number-length, refusal-length, written-part, written_both}
use Rattle.log_runs.specs.Lines.{line_of}
use Rattle.log_runs.proofs.line.Goals as goal

-- Three parts of a line one behind another, which are all of it.

laid : (l a b c : List ℕ) → length a ≡ 6 → length b ≡ 6 → length c ≡ 13 → length l ≡ 25 → sets (sets (sets l 0 a) 6 b) 12 c ≡ a ++ (b ++ c)
laid l a b c p q r s =
    let ab : length (a ++ b) ≡ 12 = length-append a b ∙ omega arith in
    let abc : length ((a ++ b) ++ c) ≡ 25 = length-append (a ++ b) c ∙ omega arith in
    let u : 6 ≡ 0 + length a = omega arith in
    let v : 12 ≡ 0 + length (a ++ b) = omega arith in
    let e : drop 25 l ≡ [] = ap (λ (n : ℕ). drop n l) (sym s) ∙ drop-length l in
    ap (λ (j : ℕ). sets (sets (sets l 0 a) j b) 12 c) u
    ∙ ap (λ (x : List ℕ). sets x 12 c) (written_both l 0 a b (omega arith))
    ∙ ap (λ (j : ℕ). sets (sets l 0 (a ++ b)) j c) v
    ∙ written_both l 0 (a ++ b) c (omega arith)
    ∙ written-part l 0 25 ((a ++ b) ++ c) abc (omega arith)
    ∙ rw (e, append-nil ((a ++ b) ++ c)) (append_assoc a b c)

pub returns : goal.returns
unfolding line_of
returns c =
    let a = c.args.a in
    c.put_refusal.ensures
    ∙ ap (λ (l : List ℕ). sets l 12 (refusal_line a.count a.width)) (c.put_number-2.ensures
    ∙ ap (λ (l : List ℕ). sets l 6 (number_field a.row)) c.put_number.ensures)
    ∙ laid (replicate 25 0) (number_field a.refusal) (number_field a.row) (refusal_line a.count a.width) (number-length a.refusal) (number-length a.row) (refusal-length a.count a.width) refl
