-- Laws of specs/RunSteps.antt, and what only they need.
use Rattle.std.specs.Prelude.{ℕ, zero, suc, ◌+◌, ◌<◌, ◌≡◌, refl, Bool, true, false, List, [], ◌∷◌, ltb}
use Rattle.std.proofs.Common.{arith, ltb-true, ltb-false}
use Rattle.std.proofs.lemmas.Bool.{not-true, not-false}
use Rattle.value.specs.Operators.{pick}
use Rattle.machine_runs.specs.Run.{ran}
use Rattle.machine_planes.specs.Planes.{most_tags}
use Rattle.machine_tags.specs.Least.{Least}
use Rattle.machine_tags.proofs.Least.{least-says}
use Rattle.machine_tags.specs.TagRun.{able_under, fired_under, lowest_tag, able_tagged, least_operator, tag_runs, tag_still}
use Rattle.machine_tags.specs.RunSteps.{tag_firing, tag_firings, Steps}

-- ---- which operator and which tag
pub lowest-tag-says : (m : List ℕ) (i : ℕ) → Least (able_under m i) most_tags (lowest_tag m i)
unfolding lowest_tag
lowest-tag-says m i = least-says (able_under m i) most_tags

pub lowest-operator-says : (m : List ℕ) (n : ℕ) → Least (able_tagged m) n (least_operator m n)
unfolding least_operator
lowest-operator-says m n = least-says (able_tagged m) n

-- an operator is able where it is under some tag, and then under its lowest
pub tagged-able : (m : List ℕ) (i : ℕ) → able_tagged m i ≡ true → (lowest_tag m i < most_tags) × (able_under m i (lowest_tag m i) ≡ true)
unfolding able_tagged
tagged-able m i e = let h = ltb-true (lowest_tag m i) most_tags e in (h, (lowest-tag-says m i).passes h)

pub tagged-idle : (m : List ℕ) (i : ℕ) → able_tagged m i ≡ false → (t : ℕ) → t < most_tags → able_under m i t ≡ false
unfolding able_tagged
tagged-idle m i e t h = (lowest-tag-says m i).none t (omega (arith, ltb-false (lowest_tag m i) most_tags e))

-- ---- nothing can fire: no operator under any tag; else one can under some tag
pub tag-still-says : (m : List ℕ) (n : ℕ) → tag_still m n ≡ true → (i t : ℕ) → i < n → t < most_tags → able_under m i t ≡ false
unfolding tag_still
tag-still-says m n e i t few tag =
    let l = ltb-false (least_operator m n) n (not-true (ltb (least_operator m n) n) e) in
    tagged-idle m i ((lowest-operator-says m n).none i (omega arith)) t tag

pub tag-unstill-says : (m : List ℕ) (n : ℕ) → tag_still m n ≡ false → (i t : ℕ) × (i < n) × (t < most_tags) × (able_under m i t ≡ true)
unfolding tag_still
tag-unstill-says m n e =
    let h = ltb-true (least_operator m n) n (not-false (ltb (least_operator m n) n) e) in
    let p = tagged-able m (least_operator m n) ((lowest-operator-says m n).passes h) in
    (least_operator m n, lowest_tag m (least_operator m n), h, p.0, p.1)

pub run-steps : (n b : ℕ) (m : List ℕ) (c : ℕ) → Steps n b m c (tag_runs n b m c) (tag_firings n b m)
unfolding tag_runs tag_firings
run-steps n zero m c = record { accepted = tt; memory = refl; count = omega arith; few = omega arith }
run-steps n (suc b) m c = go (ltb (least_operator m n) n) refl (run-steps n b next (c + 1))
  where
    i : ℕ
    i = least_operator m n

    next : List ℕ
    next = fired_under m (least_operator m n) (lowest_tag m (least_operator m n))

    go : (a : Bool) → ltb (least_operator m n) n ≡ a → Steps n b next (c + 1) (tag_runs n b next (c + 1)) (tag_firings n b next) →
        Steps n (suc b) m c (pick a (tag_runs n b next (c + 1)) (ran m c)) (pick a (tag_firing i (lowest_tag m i) ∷ tag_firings n b next) [])
    go true e further =
        let h = ltb-true (least_operator m n) n e in
        let p = tagged-able m i ((lowest-operator-says m n).passes h) in
        record { accepted = (record { there = h; tagged = p.0; able = p.1 }, further.accepted); memory = further.memory; count = omega (arith, further.count); few = omega (arith, further.few) }
    go false e further = record { accepted = tt; memory = refl; count = omega arith; few = omega arith }
