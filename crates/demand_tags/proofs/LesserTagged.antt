-- Laws of specs/LesserTagged.antt, and what only they need.
use Rattle.std.specs.Prelude.{ℕ, ◌≤◌, ◌≡◌, refl, true, false, List, [], ◌∷◌, length}
use Rattle.std.proofs.Common.{ap, arith}
use Rattle.std.proofs.lemmas.List.{length-replicate}
use Rattle.examples.specs.Sheets.{bytes, lesser}
use Rattle.value_sets.specs.Sets.{set_ok}
use Rattle.formula.specs.Sheet.{fields_of}
use Rattle.formula.specs.Tests.{lowest_from}
use Rattle.formula.specs.Tree.{formula_of}
use Rattle.formula.specs.Faults.{letters_of}
use Rattle.machine_calls.specs.Calls.{answers}
use Rattle.machine_start.specs.Start.{Begun}
use Rattle.machine_start.specs.StartLaws.{accepted-start}
use Rattle.machine_planes.specs.Planes.{tagged_need}
use Rattle.machine_tag_start.specs.TagStart.{has_for}
use Rattle.machine_tag_start.specs.TagStartLaws.{tag-started-accepted}
use Rattle.demand.specs.LesserStarts.{zeros}
use Rattle.demand.proofs.LesserStarts.{lesser-starts}
use Rattle.demand_tags.specs.TagLists.{Call, push, answer_of, sets_under}
use Rattle.demand_tags.specs.OutOfOrder.{OutOfOrder}
use Rattle.demand_tags.proofs.FirstPush.{first-push, first-set}
use Rattle.demand_tags.proofs.TaggedStart.{start-begins, out_of_order}
use Rattle.demand_tags.specs.LesserTagged.{wholes, begun, three_five}

no-for : has_for (bytes lesser) ≡ false
unfolding has_for lowest_from fields_of bytes lesser
no-for = refl

long : tagged_need ≤ length (zeros tagged_need)
unfolding zeros
long = omega (arith, length-replicate {A = ℕ} tagged_need 0)

pub lesser-starts-tagged : begun.answer.refusal ≡ 0
lesser-starts-tagged = ap (λ (b : Begun). b.answer.refusal) (tag-started-accepted (bytes lesser) wholes (zeros tagged_need) long (accepted-start (bytes lesser) wholes 1 (zeros 40390) lesser-starts).passed no-for)

pub lesser-out-of-order : (calls : List Call) → OutOfOrder (bytes lesser) wholes begun.mem calls
lesser-out-of-order calls = out_of_order (bytes lesser) wholes (zeros tagged_need) lesser-starts-tagged calls

three-five-read : set_ok (letters_of (formula_of (bytes lesser)) wholes) three_five ≡ true
unfolding set_ok letters_of formula_of bytes lesser
three-five-read = refl

pub lesser-first-push : answer_of (push (length begun.mem) three_five) begun.mem ≡ answers 0 0
lesser-first-push = first-push (bytes lesser) wholes begun.mem (start-begins (bytes lesser) wholes (zeros tagged_need) lesser-starts-tagged) three_five three-five-read

pub lesser-first-set : sets_under 0 (push (length begun.mem) three_five ∷ []) begun.mem ≡ three_five ∷ []
lesser-first-set = first-set (bytes lesser) wholes begun.mem (start-begins (bytes lesser) wholes (zeros tagged_need) lesser-starts-tagged) three_five three-five-read
