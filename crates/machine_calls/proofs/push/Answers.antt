use native.Mathlib.Omega.{arith}
use borrow.Author.Tests.{lt-ltb, le-ltb}
use Rattle.value_sets.proofs.Sets.{set-length}
use Rattle.value_sets.specs.Sets.{set_ok}
use mathlib.Core.Path.{◌≡◌, sym, ◌∙◌, refl, ap}
use Prim.Native.Nat.{◌+◌, ◌-◌}
use mathlib.Core.Bool.{true, false}
use Rattle.machine_calls.specs.Calls.{size_in, standing, rooms_ok, triggered_from, pushed_memory, outcome, answers}
use Rattle.machine_calls.specs.CallLaws.{standing-good, kinds-length, pushed-refused, pushed-no-set, pushed-untaken, pushed-full, pushed-accepted}
use Rattle.machine_layout.specs.Layout.{size_of, inputs_of, untaken_of, stored_kinds}
use lib.ListN.{set, length-set}
use Rattle.machine_valid.specs.Figures.{valid-figures}
use mathlib.Core.Logic.{◌≢◌}
use lib.Dec.{ltb}
use Rattle.machine_calls.proofs.push.Goals as goal

pub returns-in-Err : goal.returns-in-Err
returns-in-Err c = let e = c.in-Err.ensures in let n : standing c.args.mem.now ≢ 0 = λ z. absurd (omega (arith, e.0, e.1)) in rw (c.refused.ensures, e.0) (sym (pushed-refused c.args.mem.now c.args.set.now n))

pub is_set-requires : goal.is_set-requires
is_set-requires c =
    let st : standing c.args.mem.now ≡ 0 = c.in_default.ensures in
    let g = standing-good c.args.mem.now st in
    (omega (arith, g.0), (valid-figures c.args.mem.now g.1).inputs)

pub returns-then-not-is_set : goal.returns-then-not-is_set
returns-then-not-is_set c =
    let st : standing c.args.mem.now ≡ 0 = c.in_default.ensures in
    let a : set_ok (stored_kinds c.args.mem.now) c.args.set.now ≡ false = sym c.is_set.ensures ∙ c.if-not-is_set.true in
    rw c.refused-then-not-is_set.ensures (sym (pushed-no-set c.args.mem.now st c.args.set.now a))

pub untaken-untaken-requires : goal.untaken-untaken-requires
untaken-untaken-requires c =
    let st : standing c.args.mem.now ≡ 0 = c.in_default.ensures in
    let g = standing-good c.args.mem.now st in
    omega (arith, g.0)

pub returns-then-untaken-ge-UNTAKEN : goal.returns-then-untaken-ge-UNTAKEN
returns-then-untaken-ge-UNTAKEN c =
    let st : standing c.args.mem.now ≡ 0 = c.in_default.ensures in
    let a : set_ok (stored_kinds c.args.mem.now) c.args.set.now ≡ true = sym c.is_set.ensures ∙ c.if-not-is_set.false in
    let b : ltb (untaken_of c.args.mem.now) 16 ≡ false = le-ltb (untaken_of c.args.mem.now) 16 (omega (arith, c.untaken-untaken.ensures.0)) in
    rw c.refused-then-untaken-ge-UNTAKEN.ensures (sym (pushed-untaken c.args.mem.now st c.args.set.now a b))

pub inputs-inputs-requires : goal.inputs-inputs-requires
inputs-inputs-requires c =
    let st : standing c.args.mem.now ≡ 0 = c.in_default.ensures in
    let g = standing-good c.args.mem.now st in
    omega (arith, g.0)

pub have_room-requires : goal.have_room-requires
have_room-requires c =
    let st : standing c.args.mem.now ≡ 0 = c.in_default.ensures in
    let g = standing-good c.args.mem.now st in
    let f = valid-figures c.args.mem.now g.1 in
    let s : c.of-links.result.size ≡ size_in c.args.mem.now = c.of-links.ensures.1 in
    (c.of-links.ensures.0, omega (arith, s, g.0), omega (arith, f.inputs, c.inputs-inputs.ensures.0))

pub returns-then-not-have_room : goal.returns-then-not-have_room
returns-then-not-have_room c =
    let st : standing c.args.mem.now ≡ 0 = c.in_default.ensures in
    let a : set_ok (stored_kinds c.args.mem.now) c.args.set.now ≡ true = sym c.is_set.ensures ∙ c.if-not-is_set.false in
    let b : ltb (untaken_of c.args.mem.now) 16 ≡ true = lt-ltb (untaken_of c.args.mem.now) 16 (omega (arith, c.untaken-untaken.ensures.0)) in
    let s : c.of-links.result.size ≡ size_in c.args.mem.now = c.of-links.ensures.1 in
    let d : rooms_ok c.args.mem.now (size_in c.args.mem.now) (inputs_of c.args.mem.now) ≡ false = rw (s, c.inputs-inputs.ensures.0) at (sym c.have_room.ensures ∙ c.if-not-have_room.true) in
    rw c.refused-then-not-have_room.ensures (sym (pushed-full c.args.mem.now st c.args.set.now a b d))

pub trigger-trigger-requires : goal.trigger-trigger-requires
trigger-trigger-requires c =
    let st : standing c.args.mem.now ≡ 0 = c.in_default.ensures in
    let g = standing-good c.args.mem.now st in
    omega (arith, g.0)

pub enter-requires : goal.enter-requires
enter-requires c =
    let st : standing c.args.mem.now ≡ 0 = c.in_default.ensures in
    let g = standing-good c.args.mem.now st in
    let f = valid-figures c.args.mem.now g.1 in
    let a : set_ok (stored_kinds c.args.mem.now) c.args.set.now ≡ true = sym c.is_set.ensures ∙ c.if-not-is_set.false in
    let s : c.of-links.result.size ≡ size_in c.args.mem.now = c.of-links.ensures.1 in
    (omega (arith, c.of-links.ensures.0), omega (arith, s, c.of-links.ensures.0, g.0), omega (arith, f.inputs, c.inputs-inputs.ensures.0), omega (arith, set-length (stored_kinds c.args.mem.now) c.args.set.now a, kinds-length c.args.mem.now st, c.inputs-inputs.ensures.0))

pub append_to-requires : goal.append_to-requires
append_to-requires c =
    let st : standing c.args.mem.now ≡ 0 = c.in_default.ensures in
    let g = standing-good c.args.mem.now st in
    let s : c.of-links.result.size ≡ size_in c.args.mem.now = c.of-links.ensures.1 in
    (omega (arith, s, c.of-links.ensures.0, g.0, c.enter.auto.mem))

pub bounds-mem-7 : goal.bounds-mem-7
bounds-mem-7 c =
    let st : standing c.args.mem.now ≡ 0 = c.in_default.ensures in
    let g = standing-good c.args.mem.now st in
    omega (arith, g.0, c.enter.auto.mem, c.append_to.auto.mem)

pub shape_of-mem : goal.shape_of-mem
shape_of-mem c = length-set c.append_to.new.mem 7 (c.untaken-untaken.result + 1) ∙ c.append_to.auto.mem ∙ c.enter.auto.mem

pub returns : goal.returns
unfolding pushed_memory triggered_from
returns c =
    let st : standing c.args.mem.now ≡ 0 = c.in_default.ensures in
    let a : set_ok (stored_kinds c.args.mem.now) c.args.set.now ≡ true = sym c.is_set.ensures ∙ c.if-not-is_set.false in
    let b : ltb (untaken_of c.args.mem.now) 16 ≡ true = lt-ltb (untaken_of c.args.mem.now) 16 (omega (arith, c.untaken-untaken.ensures.0)) in
    let s : c.of-links.result.size ≡ size_in c.args.mem.now = c.of-links.ensures.1 in
    let d : rooms_ok c.args.mem.now (size_in c.args.mem.now) (inputs_of c.args.mem.now) ≡ true = rw (s, c.inputs-inputs.ensures.0) at (sym c.have_room.ensures ∙ c.if-not-have_room.false) in
    rw c.reply.ensures (ap (outcome (answers 0 0)) (rw (c.append_to.ensures, c.enter.ensures, c.to_word-token.ensures, c.trigger-trigger.ensures.0, c.inputs-inputs.ensures.0, c.untaken-untaken.ensures.0, c.of-links.ensures.0, s) refl) ∙ sym (pushed-accepted c.args.mem.now st c.args.set.now a b d))
