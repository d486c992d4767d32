-- "when nothing can fire every tag is free or has its whole result" (document 02, Job 12): OutOfOrder's `settled`, and behind an accepted run `run-settles`. Assumes
-- what a start leaves (Begins).
use Rattle.std.specs.Prelude.{ℕ, ◌≤◌, ◌<◌, ◌≡◌, refl, ◌⊎◌, true, List, [], ◌∷◌, ◌++◌, length}
use Rattle.std.proofs.Common.{sym, ap, ◌∙◌, subst, inl, inr, arith}
use Rattle.formula.specs.declared.Refusal.TheVariants.{NotAble}
use Rattle.formula.specs.Refusals.{number_of}
use Rattle.machine_queue.specs.Stretch.{waiting}
use Rattle.machine_layout.specs.Layout.{operators_of, links_of}
use Rattle.machine_calls.specs.Calls.{taken}
use Rattle.machine_planes.specs.Planes.{most_tags, plane_of}
use Rattle.machine_planes.proofs.PlaneBytes.{plane-operators, plane-link-count, plane-link}
use Rattle.machine_tags.specs.TagCalls.{tag_standing, free_tag}
use Rattle.machine_tags.proofs.PlaneFire.{plane-idle}
use Rattle.machine_start.specs.Start.{started}
use Rattle.demand_tags.specs.TagLists.{Call, fire, run, answer_of, memory_after, memory_after_all, sets_under, results_under}
use Rattle.demand_tags.specs.OutOfOrder.{FreeOrWhole}
use Rattle.demand_tags.specs.Plays.{Plays}
use Rattle.demand_tags.specs.Benched.{Benched}
use Rattle.demand_tags.proofs.Benched.{few-links, bench-stands}
use Rattle.demand_tags.specs.Idle.{Idle}
use Rattle.demand_tags.proofs.Idle.{refused-idle, run-idle}
use Rattle.demand_tags.specs.Begins.{Begins}
use Rattle.demand_tags.specs.Played.{Still}
use Rattle.demand_tags.proofs.Played.{played-ready, played-empty}
use Rattle.demand_tags.proofs.UnderTags.{played-from, stepped, benched}
use Rattle.demand_tags.proofs.FreeTags.{left-free}
use Rattle.demand_tags.proofs.WholeResults.{handed}

module _ (sheet line start : List ℕ) (b : Begins sheet line start) (calls : List Call) where
  abbrev now : List ℕ
  now = memory_after_all calls start

  B : Benched sheet line now
  B = benched sheet line start b calls

  st : tag_standing now ≡ 0
  st = bench-stands sheet line b.admissible now B

  module _ (idle : Idle now) (t : ℕ) (tag : t < most_tags) where
    still : Still (plane_of now t)
    still i l = let n = plane-operators now t B.long tag in plane-idle now st i (omega arith) t tag (idle i t (omega arith) tag)

    played : Plays (started sheet line 1 (b.planes t tag).0).mem (plane_of now t) (sets_under t calls start) (results_under t calls start)
    played = played-from sheet line start b now (λ u. sets_under u calls start) (λ u. results_under u calls start) (stepped sheet line start b calls) t tag

    -- Where all is taken the tag is free.
    rested : length (results_under t calls start) ≡ length (sets_under t calls start) → free_tag now t ≡ true
    rested all =
        let p = b.planes t tag in
        let H = (B.planes t tag).1 in
        let few = few-links sheet line b.admissible now B in
        let n : links_of (plane_of now t) ≡ links_of now = plane-link-count now t B.long tag in
        left-free sheet line start b calls t tag (
          all,
          λ l k.
              ap waiting (sym (plane-link now t B.long tag l (omega arith)))
              ∙ played-empty sheet line p.0 p.1 (plane_of now t) (sets_under t calls start) (results_under t calls start) played still b.loopless all l (omega (arith, H.links-are)),
        )

    idle-settles : FreeOrWhole now t
    idle-settles = go (played-ready sheet line (b.planes t tag).0 (b.planes t tag).1 (plane_of now t) (sets_under t calls start) (results_under t calls start) played still)
      where
        go : (length (results_under t calls start) ≡ length (sets_under t calls start)) ⊎ ((out : List ℕ) → 80 ≤ length out → (taken (plane_of now t) out).answer.refusal ≡ 0)
            → FreeOrWhole now t
        go (inl e) = inl (rested e)
        go (inr f) = inr (λ lent out enough room. handed sheet line start b calls t tag lent out enough room f)

  pub settled : ((i t : ℕ) → i < operators_of now → t < most_tags → (answer_of (fire (length now) i t) now).refusal ≡ number_of NotAble) → (t : ℕ) → t < most_tags → FreeOrWhole now t
  settled quiet = idle-settles (λ i t l tag. refused-idle sheet line b.admissible now B (length now) B.long i t l tag (quiet i t l tag))

-- ---- behind a run
memory-with : (calls : List Call) (c : Call) (m : List ℕ) → memory_after_all (calls ++ (c ∷ [])) m ≡ memory_after c (memory_after_all calls m)
unfolding memory_after_all
memory-with [] c m = refl
memory-with (d ∷ calls) c m = memory-with calls c (memory_after d m)

-- The list with the run at its end leaves an idle memory.
pub run-settles : (sheet line start : List ℕ) → Begins sheet line start → (calls : List Call) (lent firings : ℕ) → (answer_of (run lent firings) (memory_after_all calls start)).refusal ≡ 0
    → (t : ℕ) → t < most_tags → FreeOrWhole (memory_after (run lent firings) (memory_after_all calls start)) t
run-settles sheet line start b calls lent firings z t tag =
    let e = memory-with calls (run lent firings) start in
    let i = run-idle sheet line b.admissible (memory_after_all calls start) (benched sheet line start b calls) lent firings z in
    subst (λ (x : List ℕ). FreeOrWhole x t) e (idle-settles sheet line start b (calls ++ (run lent firings ∷ [])) (subst Idle (sym e) i) t tag)
