use native.Mathlib.Omega.{arith}
use mathlib.Core.Path.{◌≡◌, sym, ◌∙◌, refl, ap, ap₂}
use mathlib.Core.Logic.{◌≢◌}
use mathlib.Core.Bool.{true, false}
use mathlib.Core.List.{List}
use Prim.Native.Nat.{ℕ, ◌+◌}
use lib.ListN.{set}
use Rattle.machine_layout.specs.Layout.{results_of}
use Rattle.machine_valid.specs.Below.{all_below}
use Rattle.machine_calls.specs.Calls.{handed, answers, result_ready_from, written_from}
use Rattle.machine_planes.specs.Planes.{plane_at, untaken_under}
use Rattle.machine_tags.specs.TagCalls.{tag_standing, tag_taken_memory}
use Rattle.machine_tag_calls.specs.TagStanding.{tag-standing-good}
use Rattle.machine_tag_calls.specs.TagCallLaws.{tag-taken-short, tag-taken-refused, tag-taken-no-tag, tag-taken-none, tag-taken-empty, tag-taken-accepted}
use Rattle.machine_tag_calls.proofs.take.Goals as goal

pub returns-then-out-lt-RESULT_BYTES : goal.returns-then-out-lt-RESULT_BYTES
returns-then-out-lt-RESULT_BYTES c = rw c.refused.ensures (sym (tag-taken-short c.args.mem.now c.args.tag c.args.out.now c.if-out-lt-RESULT_BYTES.true))

pub returns-in-Err : goal.returns-in-Err
returns-in-Err c = let e = c.in-Err.ensures in let n : tag_standing c.args.mem.now ≢ 0 = λ z. absurd (omega (arith, e.0, e.1)) in rw (c.refused-in-Err.ensures, e.0) (sym (tag-taken-refused c.args.mem.now c.args.tag c.args.out.now c.if-out-lt-RESULT_BYTES.false n))

pub returns-then-t-ge-TAGS : goal.returns-then-t-ge-TAGS
returns-then-t-ge-TAGS c =
    let st : tag_standing c.args.mem.now ≡ 0 = c.in_default.ensures in
    rw c.refused-then-t-ge-TAGS.ensures (sym (tag-taken-no-tag c.args.mem.now st c.args.tag c.args.out.now c.if-out-lt-RESULT_BYTES.false (omega arith)))

pub untaken_under-requires : goal.untaken_under-requires
untaken_under-requires c =
    let g = tag-standing-good c.args.mem.now c.in_default.ensures in
    (g.long, omega arith)

pub returns-then-untaken_under-ne1 : goal.returns-then-untaken_under-ne1
returns-then-untaken_under-ne1 c =
    let st : tag_standing c.args.mem.now ≡ 0 = c.in_default.ensures in
    let n : untaken_under c.args.mem.now c.args.tag ≢ 1 = λ e. c.if-untaken_under-ne1.true (c.untaken_under.ensures ∙ e) in
    rw c.refused-then-untaken_under-ne1.ensures (sym (tag-taken-none c.args.mem.now st c.args.tag c.args.out.now c.if-out-lt-RESULT_BYTES.false (omega arith) n))

pub results-results-requires : goal.results-results-requires
results-results-requires c =
    let g = tag-standing-good c.args.mem.now c.in_default.ensures in
    omega (arith, g.long)

pub are_ready-requires : goal.are_ready-requires
are_ready-requires c =
    let g = tag-standing-good c.args.mem.now c.in_default.ensures in
    (omega (arith, c.plane-links.ensures.0), omega (arith, c.plane-links.ensures.0, c.plane-links.ensures.1, g.long), omega (arith, g.counts.results16, c.results-results.ensures.0))

pub returns-then-not-are_ready : goal.returns-then-not-are_ready
returns-then-not-are_ready c =
    let st : tag_standing c.args.mem.now ≡ 0 = c.in_default.ensures in
    let a : untaken_under c.args.mem.now c.args.tag ≡ 1 = sym c.untaken_under.ensures ∙ c.if-untaken_under-ne1.false in
    let b : all_below (results_of c.args.mem.now) (result_ready_from c.args.mem.now (plane_at c.args.tag) 6) ≡ false = sym (rw (c.results-results.ensures.0, c.plane-links.ensures.0, c.plane-links.ensures.1) at c.are_ready.ensures) ∙ c.if-not-are_ready.true in
    rw c.refused-then-not-are_ready.ensures (sym (tag-taken-empty c.args.mem.now st c.args.tag c.args.out.now c.if-out-lt-RESULT_BYTES.false (omega arith) a b))

pub write_results-requires : goal.write_results-requires
write_results-requires c =
    let g = tag-standing-good c.args.mem.now c.in_default.ensures in
    (omega (arith, c.plane-links.ensures.0), omega (arith, c.plane-links.ensures.0, c.plane-links.ensures.1, g.long), omega (arith, g.counts.results16, c.results-results.ensures.0), omega arith)

pub empty_results-requires : goal.empty_results-requires
empty_results-requires c =
    let g = tag-standing-good c.args.mem.now c.in_default.ensures in
    (omega (arith, c.plane-links.ensures.0), omega (arith, c.plane-links.ensures.0, c.plane-links.ensures.1, g.long), omega (arith, g.counts.results16, c.results-results.ensures.0))

pub bounds-mem-t : goal.bounds-mem-t
bounds-mem-t c =
    let g = tag-standing-good c.args.mem.now c.in_default.ensures in
    omega (arith, g.long, c.empty_results.auto.mem)

pub returns : goal.returns
unfolding tag_taken_memory
returns c =
    let st : tag_standing c.args.mem.now ≡ 0 = c.in_default.ensures in
    let a : untaken_under c.args.mem.now c.args.tag ≡ 1 = sym c.untaken_under.ensures ∙ c.if-untaken_under-ne1.false in
    let b : all_below (results_of c.args.mem.now) (result_ready_from c.args.mem.now (plane_at c.args.tag) 6) ≡ true = sym (rw (c.results-results.ensures.0, c.plane-links.ensures.0, c.plane-links.ensures.1) at c.are_ready.ensures) ∙ c.if-not-are_ready.false in
    let mm : set c.empty_results.new.mem (319840 + c.args.tag) 0 ≡ tag_taken_memory c.args.mem.now c.args.tag = rw (c.empty_results.ensures, c.results-results.ensures.0, c.plane-links.ensures.0, c.plane-links.ensures.1) refl in
    let oo : c.write_results.new.out ≡ written_from 16 c.args.mem.now (plane_at c.args.tag) 6 (results_of c.args.mem.now) c.args.out.now = rw (c.results-results.ensures.0, c.plane-links.ensures.0, c.plane-links.ensures.1) at c.write_results.ensures in
    rw c.reply.ensures (ap (λ (q : ℕ). handed (answers 0 q) (set c.empty_results.new.mem (319840 + c.args.tag) 0) c.write_results.new.out) c.results-results.ensures.0 ∙ ap₂ (λ (x y : List ℕ). handed (answers 0 (results_of c.args.mem.now)) x y) mm oo ∙ sym (tag-taken-accepted c.args.mem.now st c.args.tag c.args.out.now c.if-out-lt-RESULT_BYTES.false (omega arith) a b))
