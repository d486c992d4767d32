use native.Mathlib.Omega.{arith}
use Prim.Native.Nat.{ℕ, ◌+◌, ◌-◌}
use mathlib.Core.Path.{◌≡◌, sym, ◌∙◌, ap}
use Rattle.std.specs.Prelude.{replicate, length, take, drop}
use Rattle.std.proofs.Common.{length-take-le, length-drop}
use Rattle.std.proofs.Math.Seq.{paste}
use borrow.Rule.Slice.PartMut.{put_mid}
use Rattle.std.proofs.lemmas.List.Edits.{length-paste}
use Rattle.std.proofs.lemmas.List.{length-replicate}
use Rattle.std.proofs.lemmas.Slice.{put_mid-paste}
use Rattle.value.specs.Senses.{err, word-of-err}
use Rattle.eval_words.specs.Words.{held_of, env_of, held_word, errs-binds}
use Rattle.eval_words.proofs.words.put_errs.Goals as goal

pub returns : goal.returns
returns c =
    let k : c.args.at + c.args.n - c.args.at ≡ c.args.n = omega arith in
    let m : length (take (c.args.at + c.args.n - c.args.at) (drop c.args.at c.args.out.now)) ≡ c.args.n = length-take-le _ _ (omega (arith, length-drop c.args.at c.args.out.now)) ∙ k in
    let f : c.fill.new.self ≡ replicate c.args.n 3 = c.fill.ensures.after (λ y h. h) ∙ ap (λ j. replicate j 3) m in
    let e : put_mid c.args.at (c.args.at + c.args.n - c.args.at) c.args.out.now c.fill.new.self ≡ paste c.args.out.now c.args.at (replicate c.args.n 3) c.args.n = put_mid-paste _ _ _ _ _ c.args.n f (sym k) (sym (length-replicate {A = ℕ} c.args.n 3)) in
    (ap env_of e ∙ errs-binds c.args.out.now c.args.at c.args.n 3 (ap held_of (sym word-of-err) ∙ held_word err tt) c.requires, ap length e ∙ length-paste c.args.out.now c.args.at (replicate c.args.n 3) c.args.n c.requires (omega (arith, length-replicate {A = ℕ} c.args.n 3)))
