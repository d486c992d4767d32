-- Laws of specs/LentPlanes.antt, and what only they need.
use Rattle.std.specs.Prelude.{ℕ, ◌+◌, ◌≤◌, ◌<◌, ◌≡◌, ◌&&◌, List, ◌++◌, eqb, length, take}
use Rattle.std.proofs.Common.{sym, ap, ap₂, ◌∙◌, arith, length-take, length-append, get_or-take}
use Rattle.std.proofs.Math.ListN.{get_or-append}
use Rattle.machine_queue.specs.Stretch.{waiting}
use Rattle.machine_layout.specs.Layout.{most_operators, most_links, links_at, least_size, links_of, part}
use Rattle.machine_firing.specs.LinkLaws.{link_part}
use Rattle.machine_firing.specs.Fire.{able_at}
use Rattle.machine_valid.specs.Below.{all_below}
use Rattle.machine_planes.specs.Planes.{most_tags, tags_at, untaken_under, plane_bytes, plane_at, tagged_need, plane_of}
use Rattle.machine_planes.specs.PlaneBytes.{headed}
use Rattle.machine_planes.proofs.PlaneBytes.{plane-split, plane-untaken, plane-link-count, plane-link}
use Rattle.machine_planes.proofs.PlaneFirings.{plane-able}
use Rattle.machine_tags.specs.TagRun.{able_under}
use Rattle.machine_tags.specs.TagCalls.{empty_link, free_tag}
use Rattle.machine_tags.proofs.PlaneStanding.{below-same}
use Rattle.demand_begin.proofs.Lent.{Agree, agree-part}
use Rattle.demand_tags.specs.LentPlanes.{restful}

-- ---- the machine of a tag
pub plane-agrees : (m k : List ℕ) → tagged_need ≤ length m → tagged_need ≤ length k → Agree tagged_need m k → (t : ℕ) → t < most_tags → plane_of k t ≡ plane_of m t
plane-agrees m k long long' same t tag =
    plane-split k t long' tag
    ∙ ap (λ (b : ℕ). headed (take links_at k) b ++ part k (plane_at t) plane_bytes) (same (tags_at + t) (omega arith))
    ∙ ap₂ (λ (x y : List ℕ). headed x (untaken_under m t) ++ y) (agree-part tagged_need m k same 0 links_at (omega arith) (omega arith) (omega arith))
    (agree-part tagged_need m k same (plane_at t) plane_bytes (omega arith) (omega arith) (omega arith))
    ∙ sym (plane-split m t long tag)

-- lent in part, but no less than is needed
pub plane-lent : (m : List ℕ) → tagged_need ≤ length m → (n : ℕ) → tagged_need ≤ n → (t : ℕ) → t < most_tags → plane_of (take n m) t ≡ plane_of m t
plane-lent m long n h = plane-agrees m (take n m) long (omega (arith, length-take n m)) (λ i l. get_or-take n m i 0 (omega arith))

-- with more behind it
pub plane-behind : (m rest : List ℕ) → tagged_need ≤ length m → (t : ℕ) → t < most_tags → plane_of (m ++ rest) t ≡ plane_of m t
plane-behind m rest long = plane-agrees m (m ++ rest) long (omega (arith, length-append m rest)) (λ i l. get_or-append m rest 0 i (omega arith))

-- Where a tag's machine is the same an operator is able under the tag in the one memory as in the other.
pub able-same : (m k : List ℕ) → tagged_need ≤ length m → tagged_need ≤ length k → (t : ℕ) → t < most_tags → plane_of k t ≡ plane_of m t
    → (i : ℕ) → i < most_operators → able_under k i t ≡ able_under m i t
able-same m k long long' t tag e i few =
    plane-able k t long' tag i few ∙ ap (λ (x : List ℕ). able_at x least_size i) e ∙ sym (plane-able m t long tag i few)

pub free-rests : (m : List ℕ) → tagged_need ≤ length m → links_of m ≤ most_links → (t : ℕ) → t < most_tags → free_tag m t ≡ restful (plane_of m t)
unfolding free_tag empty_link
free-rests m long few t tag =
    ap₂ ◌&&◌ (ap (λ (b : ℕ). eqb b 0) (sym (plane-untaken m t long tag)))
    (below-same (links_of m) _ (λ l. eqb (waiting (link_part (plane_of m t) least_size l)) 0)
    (λ l h. ap (λ (s : List ℕ). eqb (waiting s) 0) (sym (plane-link m t long tag l (omega arith))))
    ∙ ap (λ (n : ℕ). all_below n (λ l. eqb (waiting (link_part (plane_of m t) least_size l)) 0)) (sym (plane-link-count m t long tag)))
