use borrow.Author.Rules.{rules}
use mathlib.Core.Path.{sym, subst}
use mathlib.Core.Bool.{Bool}
use Rattle.maker_parts.specs.Parts.{JoinNeeds, JoinGives, body-needs, body-gives}
use Rattle.maker_parts.proofs.joined.Goals as goal

pub results_of-requires : goal.results_of-requires
results_of-requires c = (subst (λ (b : Bool). JoinNeeds b c.args.place.returned c.args.next.link c.args.next.operator c.args.x c.args.y) c.if-place.true c.requires.0).first

pub results_of-requires-then-place : goal.results_of-requires-then-place
results_of-requires-then-place c = (subst (λ (b : Bool). JoinNeeds b c.args.place.returned c.args.next.link c.args.next.operator c.args.x c.args.y) c.if-place.true c.requires.0).second

pub join_arms-requires : goal.join_arms-requires
join_arms-requires c = let h = body-needs c.args.place.returned c.args.next.link c.args.next.operator c.args.x c.args.y c.results_of.result c.results_of-then-place.result (subst (λ (b : Bool). JoinNeeds b c.args.place.returned c.args.next.link c.args.next.operator c.args.x c.args.y) c.if-place.true c.requires.0) c.results_of.ensures c.results_of-then-place.ensures in (h.0, h.1, h.2, h.3, h.4, h.5, h.6, search rules)

pub returns-then-place : goal.returns-then-place
returns-then-place c = subst (λ (b : Bool). JoinGives b c.args.place.returned c.args.test c.args.next.link c.args.next.operator c.args.mem.now c.join_arms.new.mem c.args.x c.args.y c.join_arms.result) (sym c.if-place.true) (body-gives c.args.place.returned c.args.test c.args.next.link c.args.next.operator c.args.x c.args.y c.join_arms.result c.results_of.result c.results_of-then-place.result _ _ c.results_of.ensures c.results_of-then-place.ensures c.join_arms.ensures.0 c.join_arms.ensures.1 c.join_arms.ensures.2)

pub merged-requires : goal.merged-requires
merged-requires c = (subst (λ (b : Bool). JoinNeeds b c.args.place.returned c.args.next.link c.args.next.operator c.args.x c.args.y) c.if-place.false c.requires.0, search rules)

pub returns : goal.returns
returns c = subst (λ (b : Bool). JoinGives b c.args.place.returned c.args.test c.args.next.link c.args.next.operator c.args.mem.now c.merged.new.mem c.args.x c.args.y c.merged.result) (sym c.if-place.false) c.merged.ensures
