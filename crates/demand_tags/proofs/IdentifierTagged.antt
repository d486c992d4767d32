-- Laws of specs/IdentifierTagged.antt, and what only they need.
use Rattle.std.specs.Prelude.{ℕ, ◌≤◌, ◌≡◌, refl, ◌⊎◌, true, false, List, [], ◌∷◌, ◌++◌, length, get_or, Ok}
use Rattle.std.proofs.Common.{sym, ap, ◌∙◌, subst, inl, inr, arith, length-append}
use Rattle.std.proofs.lemmas.List.{length-replicate}
use Rattle.examples.specs.Sheets.{bytes}
use Rattle.value_sets.specs.Sets.{set_ok}
use Rattle.formula.specs.Sheet.{fields_of}
use Rattle.formula.specs.Tests.{lowest_from, verdict_of}
use Rattle.formula.specs.Tree.{formula_of}
use Rattle.formula.specs.Faults.{letters_of}
use Rattle.graph.specs.Translation.{made_of}
use Rattle.machine_layout.specs.Layout.{operators_of}
use Rattle.machine_calls.specs.Calls.{answers}
use Rattle.machine_start.specs.Start.{Begun}
use Rattle.machine_planes.specs.Planes.{tagged_need, plane_of}
use Rattle.machine_planes.proofs.PlaneBytes.{plane-operators}
use Rattle.machine_tags.specs.TagCalls.{free_tag}
use Rattle.machine_tag_start.specs.TagStart.{has_for}
use Rattle.machine_tag_start.specs.TagStartLaws.{tag-started-accepted}
use Rattle.demand.specs.LesserStarts.{zeros}
use Rattle.demand_tags.specs.TagLists.{take, answer_of, result_under, sets_under, results_under}
use Rattle.demand_tags.specs.OutOfOrder.{OutOfOrder}
use Rattle.demand_tags.specs.Benched.{Benched}
use Rattle.demand_tags.specs.Begins.{Begins}
use Rattle.demand_tags.proofs.UnderTags.{benched}
use Rattle.demand_tags.proofs.FirstPush.{first-push, first-set}
use Rattle.demand_tags.proofs.TaggedStart.{start-begins, out_of_order}
use Rattle.demand_tags.specs.IdentifierTagged.{identifier, one_whole, begun, seven, push_seven, pushed_seven, take_seven, HandsOut}

passed : verdict_of (bytes identifier) one_whole ≡ Ok tt
unfolding verdict_of bytes identifier
passed = refl

no-for : has_for (bytes identifier) ≡ false
unfolding has_for lowest_from fields_of bytes identifier
no-for = refl

long : tagged_need ≤ length (zeros tagged_need)
unfolding zeros
long = omega (arith, length-replicate {A = ℕ} tagged_need 0)

pub identifier-starts-tagged : begun.answer.refusal ≡ 0
identifier-starts-tagged = ap (λ (b : Begun). b.answer.refusal) (tag-started-accepted (bytes identifier) one_whole (zeros tagged_need) long passed no-for)

begins : Begins (bytes identifier) one_whole begun.mem
begins = start-begins (bytes identifier) one_whole (zeros tagged_need) identifier-starts-tagged

seven-read : set_ok (letters_of (formula_of (bytes identifier)) one_whole) seven ≡ true
unfolding set_ok letters_of formula_of bytes identifier
seven-read = refl

pub identifier-push : answer_of push_seven begun.mem ≡ answers 0 0
identifier-push = first-push (bytes identifier) one_whole begun.mem begins seven seven-read

claim : OutOfOrder (bytes identifier) one_whole begun.mem (push_seven ∷ [])
claim = out_of_order (bytes identifier) one_whole (zeros tagged_need) identifier-starts-tagged (push_seven ∷ [])

one_set : sets_under 0 (push_seven ∷ []) begun.mem ≡ seven ∷ []
one_set = first-set (bytes identifier) one_whole begun.mem begins seven seven-read

no_result : results_under 0 (push_seven ∷ []) begun.mem ≡ []
unfolding results_under result_under
no_result = refl

bench : Benched (bytes identifier) one_whole pushed_seven
bench = benched (bytes identifier) one_whole begun.mem begins (push_seven ∷ [])

-- An identifier is a bare link.
bare : length (made_of (formula_of (bytes identifier))).operators ≡ 0
unfolding made_of formula_of bytes identifier
bare = refl

no-operators : operators_of pushed_seven ≡ 0
no-operators =
    let n : operators_of (plane_of pushed_seven 0) ≡ operators_of pushed_seven = plane-operators pushed_seven 0 bench.long (omega arith) in
    omega (arith, (bench.planes 0 (omega arith)).1.operators-are, bare)

room : 80 ≤ length (zeros 80)
unfolding zeros
room = omega (arith, length-replicate {A = ℕ} 80 0)

-- Without operators nothing can fire, and the tag is not free while its set is untaken; so its whole result waits.
pub identifier-take : (answer_of take_seven pushed_seven).refusal ≡ 0
identifier-take = go (claim.settled (λ i t l tag. absurd (omega (arith, no-operators))) 0 (omega arith))
  where
    go : (free_tag pushed_seven 0 ≡ true) ⊎ ((lent : ℕ) (out : List ℕ) → tagged_need ≤ lent → 80 ≤ length out → (answer_of (take lent 0 out) pushed_seven).refusal ≡ 0)
        → (answer_of take_seven pushed_seven).refusal ≡ 0
    go (inl free) = absurd (omega (arith, ((claim.free-exactly 0 (omega arith)).0 free).0, ap length one_set, ap length no_result))
    go (inr ready) = ready (length pushed_seven) (zeros 80) bench.long room

-- ---- its result
-- A list of one ends in that one.
only_one : (before : List (List ℕ)) (x y : List ℕ) → y ∷ [] ≡ before ++ (x ∷ []) → x ≡ y
only_one [] x y e = sym (ap (λ (l : List (List ℕ)). get_or l 0 []) e)
only_one (z ∷ before) x y e = absurd (omega (arith, ap length e, length-append before (x ∷ [])))

-- "each taken result is that of the set last pushed under its tag"
pub identifier-own : HandsOut seven
identifier-own =
    let o = claim.own (length pushed_seven) 0 (zeros 80) identifier-take in
    subst HandsOut (only_one o.0 o.1 seven (sym one_set ∙ o.2)) o.3
