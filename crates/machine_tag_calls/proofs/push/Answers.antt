use native.Mathlib.Omega.{arith}
use mathlib.Core.Path.{◌≡◌, sym, ◌∙◌, refl, ap₂}
use mathlib.Core.Logic.{◌≢◌}
use mathlib.Core.Bool.{true, false}
use mathlib.Core.List.{List}
use Prim.Native.Nat.{ℕ, ◌+◌, ◌<◌}
use lib.ListN.{set, length-set}
use Rattle.value_sets.proofs.Sets.{set-length}
use Rattle.value_sets.specs.Sets.{set_ok}
use Rattle.machine_layout.specs.Layout.{stored_kinds}
use Rattle.machine_calls.specs.Calls.{outcome, answers, triggered_from}
use Rattle.machine_tags.specs.TagCalls.{tag_standing, lowest_free, tag_pushed_memory}
use Rattle.machine_tag_calls.specs.TagStanding.{tag-standing-good, tag-kinds-length}
use Rattle.machine_tag_calls.specs.TagCallLaws.{tag-pushed-refused, tag-pushed-no-set, tag-pushed-no-tag, tag-pushed-accepted}
use Rattle.machine_tag_calls.proofs.push.Goals as goal

pub returns-in-Err : goal.returns-in-Err
returns-in-Err c = let e = c.in-Err.ensures in let n : tag_standing c.args.mem.now ≢ 0 = λ z. absurd (omega (arith, e.0, e.1)) in rw (c.refused.ensures, e.0) (sym (tag-pushed-refused c.args.mem.now c.args.set.now n))

pub is_set-requires : goal.is_set-requires
is_set-requires c =
    let g = tag-standing-good c.args.mem.now c.in_default.ensures in
    (omega (arith, g.long), g.counts.inputs)

pub returns-then-not-is_set : goal.returns-then-not-is_set
returns-then-not-is_set c =
    let st : tag_standing c.args.mem.now ≡ 0 = c.in_default.ensures in
    let a : set_ok (stored_kinds c.args.mem.now) c.args.set.now ≡ false = sym c.is_set.ensures ∙ c.if-not-is_set.true in
    rw c.refused-then-not-is_set.ensures (sym (tag-pushed-no-set c.args.mem.now st c.args.set.now a))

pub lowest_free-requires : goal.lowest_free-requires
lowest_free-requires c =
    let g = tag-standing-good c.args.mem.now c.in_default.ensures in
    (g.long, g.counts.links)

pub returns-in_default-lowest_free : goal.returns-in_default-lowest_free
returns-in_default-lowest_free c =
    let st : tag_standing c.args.mem.now ≡ 0 = c.in_default.ensures in
    let a : set_ok (stored_kinds c.args.mem.now) c.args.set.now ≡ true = sym c.is_set.ensures ∙ c.if-not-is_set.false in
    rw c.refused-in_default-lowest_free.ensures (sym (tag-pushed-no-tag c.args.mem.now st c.args.set.now a (omega (arith, c.in_default-lowest_free.ensures))))

pub trigger-trigger-requires : goal.trigger-trigger-requires
trigger-trigger-requires c =
    let g = tag-standing-good c.args.mem.now c.in_default.ensures in
    omega (arith, g.long)

pub inputs-requires : goal.inputs-requires
inputs-requires c =
    let g = tag-standing-good c.args.mem.now c.in_default.ensures in
    omega (arith, g.long)

pub enter-requires : goal.enter-requires
enter-requires c =
    let g = tag-standing-good c.args.mem.now c.in_default.ensures in
    let a : set_ok (stored_kinds c.args.mem.now) c.args.set.now ≡ true = sym c.is_set.ensures ∙ c.if-not-is_set.false in
    (omega (arith, c.plane-links.ensures.0), omega (arith, c.plane-links.ensures.0, c.plane-links.ensures.1, g.long), omega (arith, g.counts.inputs, c.inputs.ensures.0), omega (arith, set-length (stored_kinds c.args.mem.now) c.args.set.now a, tag-kinds-length c.args.mem.now g, c.inputs.ensures.0))

pub append_to-requires : goal.append_to-requires
append_to-requires c =
    let g = tag-standing-good c.args.mem.now c.in_default.ensures in
    omega (arith, c.plane-links.ensures.0, c.plane-links.ensures.1, g.long, c.enter.auto.mem)

pub bounds-mem-t : goal.bounds-mem-t
bounds-mem-t c =
    let g = tag-standing-good c.args.mem.now c.in_default.ensures in
    omega (arith, g.long, c.enter.auto.mem, c.append_to.auto.mem)

pub shape_of-mem : goal.shape_of-mem
shape_of-mem c = length-set c.append_to.new.mem (319840 + c.in-Some.t) 1 ∙ c.append_to.auto.mem ∙ c.enter.auto.mem

pub returns : goal.returns
unfolding tag_pushed_memory triggered_from
returns c =
    let st : tag_standing c.args.mem.now ≡ 0 = c.in_default.ensures in
    let a : set_ok (stored_kinds c.args.mem.now) c.args.set.now ≡ true = sym c.is_set.ensures ∙ c.if-not-is_set.false in
    let h : lowest_free c.args.mem.now < 16 = omega (arith, c.in-Some.ensures.0, c.in-Some.ensures.1) in
    let e : set c.append_to.new.mem (319840 + c.in-Some.t) 1 ≡ tag_pushed_memory c.args.mem.now c.args.set.now (lowest_free c.args.mem.now) = rw (c.append_to.ensures, c.enter.ensures, c.to_word-token.ensures, c.trigger-trigger.ensures.0, c.inputs.ensures.0, c.plane-links.ensures.0, c.plane-links.ensures.1, c.in-Some.ensures.0) refl in
    rw c.reply.ensures (ap₂ (λ (q : ℕ) (x : List ℕ). outcome (answers 0 q) x) c.in-Some.ensures.0 e ∙ sym (tag-pushed-accepted c.args.mem.now st c.args.set.now a h))
