use native.Mathlib.Omega.{arith}
use Prim.Native.Nat.{ℕ, zero, suc, ◌+◌, ◌-◌, ◌≤◌, ◌<◌}
use mathlib.Core.Path.{◌≡◌, sym, ◌∙◌, ap, refl}
use mathlib.Core.List.{List}
use lib.ListN.{length, get_or}
use lib.Seq.{slice}
use borrow.Author.Tests.{tests}
use Rattle.std.proofs.Common.{take, drop, rules}
use Rattle.std.proofs.lemmas.List.{get_or-take, get_or-drop, length-take-le}
use Rattle.std.proofs.Math.ListN.{length-drop}
use Rattle.std.specs.List.{AllWithin, HoldsAt}
use Rattle.std.specs.Option.{MatchOption}
use Rattle.std.proofs.lemmas.Option.{MatchOption-at_some, MatchOption-at_none}
use Rattle.std.proofs.lemmas.Iterator.{IsFirst-from_position, YieldsList-from_slice}
use Rattle.text.specs.Fields.{field_value, word_by}
use Rattle.text.proofs.FieldLaws.{value-space, value-end}
use Rattle.text_read.proofs.values.word_in.Goals as goal

-- Spaces add nothing to the field.
spaces : (s : List ℕ) (at end k : ℕ) → at + k ≤ end → end ≤ length s → ((j : ℕ) → j < k → get_or s (at + j) 0 ≡ 32)
    → field_value (slice (at + k) end s) ≡ field_value (slice at end s)
spaces s at end zero h l p = let e : at + 0 ≡ at = omega arith in rw e refl
spaces s at end (suc k) h l p =
    let e : at + suc k ≡ at + k + 1 = omega arith in
    rw e (sym (value-space s (at + k) end (omega arith) l (p k (omega arith)))) ∙ spaces s at end k (omega arith) l (λ j i. p j (omega (arith, i)))

-- The field's characters as the code goes over them.
cut-at : (s : List ℕ) (at i : ℕ) → i < 11 → get_or (take (at + 11 - at) (drop at s)) i 0 ≡ get_or s (at + i) 0
cut-at s at i h = get_or-take (at + 11 - at) (drop at s) i 0 (omega arith) ∙ get_or-drop at s i 0

cut-long : (s : List ℕ) (at : ℕ) → at + 11 ≤ length s → length (take (at + 11 - at) (drop at s)) ≡ 11
cut-long s at h = length-take-le (at + 11 - at) (drop at s) (simp length-drop (omega arith)) ∙ (omega arith)

pub returns-in-Some : goal.returns-in-Some
returns-in-Some c =
    let cut : List ℕ = take (c.args.at + 11 - c.args.at) (drop c.args.at c.args.s.now) in
    let n : length cut ≡ 11 = cut-long c.args.s.now c.args.at c.requires in
    let p : MatchOption c.position.result (AllWithin (λ b. b ≡ 32) cut 0 (length cut)) (λ i. (i < length cut) × HoldsAt (λ b. b ≡ 32 → ⊥) cut i × AllWithin (λ b. b ≡ 32) cut 0 i) = IsFirst-from_position _ _ _ (λ b. b ≡ 32 → ⊥) (λ b. b ≡ 32) c.position.ensures.ran (YieldsList-from_slice cut cc) (λ x q k. search (rules, tests)) (λ x q k. search (rules, tests)) in
    let f = MatchOption-at_some _ _ c.in-Some.k c.in-Some.is p in
    let l : c.in-Some.k < 11 = omega (arith, f.0, n) in
    c.unspaced.ensures ∙ ap word_by (spaces c.args.s.now c.args.at (c.args.at + 11) c.in-Some.k (omega arith) c.requires (λ j h. sym (cut-at c.args.s.now c.args.at j (omega (arith, h, l))) ∙ f.2 j 0 (omega arith) h))

pub returns-in-None : goal.returns-in-None
returns-in-None c =
    let cut : List ℕ = take (c.args.at + 11 - c.args.at) (drop c.args.at c.args.s.now) in
    let n : length cut ≡ 11 = cut-long c.args.s.now c.args.at c.requires in
    let p : MatchOption c.position.result (AllWithin (λ b. b ≡ 32) cut 0 (length cut)) (λ i. (i < length cut) × HoldsAt (λ b. b ≡ 32 → ⊥) cut i × AllWithin (λ b. b ≡ 32) cut 0 i) = IsFirst-from_position _ _ _ (λ b. b ≡ 32 → ⊥) (λ b. b ≡ 32) c.position.ensures.ran (YieldsList-from_slice cut cc) (λ x q k. search (rules, tests)) (λ x q k. search (rules, tests)) in
    let f = MatchOption-at_none _ _ c.in-None.is p in
    ap word_by (sym (value-end c.args.s.now (c.args.at + 11)) ∙ spaces c.args.s.now c.args.at (c.args.at + 11) 11 (omega arith) c.requires (λ j h. sym (cut-at c.args.s.now c.args.at j h) ∙ f j 0 (omega arith) (omega (arith, h, n))))
