-- A repetition's stage from what its calls answered: the pieces of a pass put together. Assumes nothing.
use Rattle.std.specs.Prelude.{ℕ, ◌+◌, ◌-◌, ◌≤◌, ◌≡◌, List, ◌++◌, length, take}
use Rattle.std.proofs.Common.{sym, ap, subst, ◌∙◌}
use Rattle.std.proofs.lemmas.List.Edits.{sets}
use Rattle.machine_calls.specs.declared.Answer.{Answer}
use Rattle.machine_calls.specs.Calls.{Outcome, outcome, ran}
use Rattle.text.specs.Printed.{refusal_line}
use Rattle.text.proofs.PrintLaws.{refusal-length, written-front}
use Rattle.session.specs.declared.Stage.{Stage}
use Rattle.session.specs.Passes.{feeding, drained_of, Pass, pass_of}
use Rattle.session.specs.Waiting.{Waiting, FeedsTo, PassesTo}
use Rattle.session.proofs.PassLaws.{pass-is, part-plain, part-refused, remaining-plain, remaining-refused}

module _ (kinds s : List ℕ) (stage : Stage) (m : List ℕ) (at : ℕ) (mf : List ℕ) (f : FeedsTo kinds s stage.at m at mf) (a : Answer) (mr : List ℕ)
    (e : outcome a mr ≡ ran mf stage.firings) (md out : List ℕ) (printed firings : ℕ) (d : md ≡ (drained_of mr).mem) (t : take printed out ≡ (drained_of mr).lines)
    (g : firings ≡ stage.firings - a.count) where
  ran-is : (rest : List (List ℕ)) → Waiting kinds s stage.at rest → ran (feeding rest m).mem stage.firings ≡ outcome a mr
  ran-is rest w = sym (e ∙ ap (λ (x : List ℕ). ran x stage.firings) (f rest w).0)

  mem_is : (rest : List (List ℕ)) → Waiting kinds s stage.at rest → md ≡ (pass_of rest m stage.firings).mem
  mem_is rest w =
      d ∙ ap (λ (x : Outcome). (drained_of x.mem).mem) (sym (ran-is rest w))
      ∙ ap (λ (p : Pass). p.mem) (sym (pass-is rest m stage.firings))

  waits-are : (rest : List (List ℕ)) → Waiting kinds s stage.at rest → Waiting kinds s at (pass_of rest m stage.firings).rest
  waits-are rest w = subst (λ (p : Pass). Waiting kinds s at p.rest) (sym (pass-is rest m stage.firings)) (f rest w).1

  left_is : (rest : List (List ℕ)) → Waiting kinds s stage.at rest → firings ≡ (pass_of rest m stage.firings).left
  left_is rest w =
      g ∙ ap (λ (x : Outcome). stage.firings - x.answer.count) (sym (ran-is rest w))
      ∙ ap (λ (p : Pass). p.left) (sym (pass-is rest m stage.firings))

  refusal_is : (rest : List (List ℕ)) → Waiting kinds s stage.at rest → (ran (feeding rest m).mem stage.firings).answer.refusal ≡ a.refusal
  refusal_is rest w = ap (λ (x : Outcome). x.answer.refusal) (ran-is rest w)

  pub stage-plain : (count remaining : ℕ) → count ≡ (drained_of mr).count → remaining ≡ stage.remaining - count → a.refusal ≡ 0
      → PassesTo kinds s stage m (record { at = at; remaining = remaining; firings = firings; printed = printed }) md out
  stage-plain count remaining c r z rest w =
      let n = refusal_is rest w ∙ z in
      record {
        memory = mem_is rest w;
        waits = waits-are rest w;
        remaining-is =
            r ∙ ap (λ (x : ℕ). stage.remaining - x) (c ∙ ap (λ (x : Outcome). (drained_of x.mem).count) (sym (ran-is rest w)))
            ∙ sym (remaining-plain rest m stage.firings stage.remaining n);
        firings-are = left_is rest w;
        prints = t ∙ ap (λ (x : Outcome). (drained_of x.mem).lines) (sym (ran-is rest w)) ∙ sym (part-plain rest m stage.firings n);
      }

  pub stage-refused : (last : List ℕ) → last ≡ sets out printed (refusal_line a.refusal 0) → printed + 13 ≤ length out → (a.refusal ≡ 0 → ⊥)
      → PassesTo kinds s stage m (record { at = at; remaining = 0; firings = firings; printed = printed + 13 }) md last
  stage-refused last l h z rest w =
      let n : (ran (feeding rest m).mem stage.firings).answer.refusal ≡ 0 → ⊥ = λ q. z (sym (refusal_is rest w) ∙ q) in
      record {
        memory = mem_is rest w;
        waits = waits-are rest w;
        remaining-is = sym (remaining-refused rest m stage.firings stage.remaining n);
        firings-are = left_is rest w;
        prints =
            ap (take (printed + 13)) l
            ∙ written-front out printed 13 (refusal_line a.refusal 0) (refusal-length a.refusal 0) h
            ∙ ap (λ (x : List ℕ). x ++ refusal_line a.refusal 0) t
            ∙ ap (λ (x : Outcome). (drained_of x.mem).lines ++ refusal_line x.answer.refusal 0) (sym (ran-is rest w))
            ∙ sym (part-refused rest m stage.firings n);
      }
