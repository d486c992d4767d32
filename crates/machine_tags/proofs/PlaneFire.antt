-- A firing under a tag (TagRun's fired_under) is the first machine's on the tag's machine: accepted where the operator is able under the tag, else refused with 34; and it leaves
-- every other tag's machine. Assumes a memory in good standing, an operator that is there and a tag; of the register's five bytes, where said, that they are below 256.
use Rattle.std.specs.Prelude.{ℕ, ◌+◌, ◌≤◌, ◌<◌, ◌≡◌, ◌≢◌, true, false, List, ltb, length, get_or}
use Rattle.std.proofs.Common.{sym, ap, ◌∙◌, arith, lt-ltb}
use Rattle.std.proofs.Math.Decide.{dec_lt, ℕ_discrete}
use Rattle.formula.specs.declared.Refusal.TheVariants.{NotAble}
use Rattle.formula.specs.Refusals.{number_of}
use Rattle.machine_layout.specs.Layout.{registers_at, links_at, least_size, most_operators, operators_of, register_at}
use Rattle.machine_firing.specs.Fire.{fired_at, able_at}
use Rattle.machine_calls.specs.Calls.{Outcome, outcome, answers, refusal, size_in, fired}
use Rattle.machine_calls.specs.CallLaws.{fired-accepted, fired-idle}
use Rattle.machine_planes.specs.Planes.{most_tags, untaken_under, plane_at, tagged_need, plane_of}
use Rattle.machine_planes.proofs.PlaneBytes.{plane-byte, plane-operators}
use Rattle.machine_planes.proofs.PlaneFirings.{plane-able, plane-fired}
use Rattle.machine_planes.proofs.PlaneOthers.{beside-fired, fired-length, fired-low, tag-fired}
use Rattle.machine_tags.specs.TagRun.{able_under, fired_under}
use Rattle.machine_tags.specs.TagCalls.{tag_standing}
use Rattle.machine_tags.proofs.PlaneStanding.{tag-standing-good, tag-counts, plane-size, plane-stands, registers-stay}

module _ (m : List ℕ) (st : tag_standing m ≡ 0) (i : ℕ) (few : i < operators_of m) (t : ℕ) (tag : t < most_tags) where
  there : i < most_operators
  there = omega (arith, (tag-counts m st).operators)

  long : tagged_need ≤ length m
  long = (tag-standing-good m st).0

  -- the operator is one of the tag's machine, and able there where it is under the tag
  in-plane : ltb i (operators_of (plane_of m t)) ≡ true
  in-plane = rw (plane-operators m t long tag) (lt-ltb i (operators_of m) few)

  able-in-plane : able_at (plane_of m t) (size_in (plane_of m t)) i ≡ able_under m i t
  able-in-plane = rw (plane-size m t long tag) (sym (plane-able m t long tag i there))

  pub plane-fire : able_under m i t ≡ true → fired (plane_of m t) i ≡ outcome (answers 0 0) (plane_of (fired_under m i t) t)
  plane-fire able =
      fired-accepted (plane_of m t) (plane-stands m st t tag) i in-plane (able-in-plane ∙ able)
      ∙ ap (outcome (answers 0 0)) (ap (λ (size : ℕ). fired_at (plane_of m t) size i) (plane-size m t long tag) ∙ sym (plane-fired m t long tag i there))

  pub plane-not-fired : able_under m i t ≡ false → fired (plane_of m t) i ≡ outcome (refusal NotAble) (plane_of m t)
  plane-not-fired idle = fired-idle (plane_of m t) (plane-stands m st t tag) i in-plane (able-in-plane ∙ idle)

  pub plane-idle : able_under m i t ≡ false → (fired (plane_of m t) i).answer.refusal ≡ number_of NotAble
  plane-idle idle = ap (λ (o : Outcome). o.answer.refusal) (plane-not-fired idle)

  pub fired-tag-length : length (fired_under m i t) ≡ length m
  fired-tag-length = let l = long in fired-length m (plane_at t) least_size (omega arith) i

  pub fired-tag-bytes : (u : ℕ) → untaken_under (fired_under m i t) u ≡ untaken_under m u
  fired-tag-bytes u = tag-fired m t long tag i there u

  module _ (small : (j : ℕ) → j < 5 → get_or m (register_at i + j) 0 < 256) where
    pub beside-fire : (u : ℕ) → u < most_tags → u ≢ t → plane_of (fired_under m i t) u ≡ plane_of m u
    beside-fire u tag' other = beside-fired t u tag tag' other m long i there (registers-stay m st i t few small)

    -- every byte below the links: those below the registers are never written, and the registers another tag's machine shows too
    pub fired-tag-low : (at : ℕ) → at < links_at → get_or (fired_under m i t) at 0 ≡ get_or m at 0
    fired-tag-low at h = go (dec_lt at registers_at) (ℕ_discrete t 0)
      where
        shown : (u : ℕ) → u < most_tags → u ≢ t → registers_at ≤ at → get_or (fired_under m i t) at 0 ≡ get_or m at 0
        shown u tag' other k =
            let l : tagged_need ≤ length (fired_under m i t) = omega (arith, fired-tag-length, long) in
            sym (plane-byte (fired_under m i t) u l tag' at h (omega arith) (omega arith))
            ∙ ap (λ (x : List ℕ). get_or x at 0) (beside-fire u tag' other)
            ∙ plane-byte m u long tag' at h (omega arith) (omega arith)

        go : Dec (at < registers_at) → Dec (t ≡ 0) → get_or (fired_under m i t) at 0 ≡ get_or m at 0
        go (yes p) d = let l = long in fired-low m (plane_at t) least_size (omega arith) (omega arith) i at p
        go (no p) (yes e) = shown 1 (omega arith) (omega arith) (omega arith)
        go (no p) (no e) = shown 0 (omega arith) (omega arith) (omega arith)
