use native.Mathlib.Omega.{arith}
use borrow.Author.Tests.{lt-ltb, le-ltb}
use mathlib.Core.Path.{ap₂, ◌≡◌, sym, ◌∙◌, refl, ap}
use Prim.Native.Nat.{ℕ, ◌-◌}
use mathlib.Core.List.{List}
use mathlib.Core.Bool.{true, false}
use Rattle.machine_calls.specs.Calls.{size_in, standing, result_ready, written, taken_memory, handed, answers}
use Rattle.machine_calls.specs.CallLaws.{standing-good, taken-short, taken_refused, taken_none, taken-empty, taken-accepted}
use Rattle.machine_layout.specs.Layout.{size_of, results_of, untaken_of}
use lib.ListN.{set}
use Rattle.machine_valid.specs.Figures.{valid-figures}
use Rattle.machine_valid.specs.Below.{all_below}
use mathlib.Core.Logic.{◌≢◌}
use lib.Dec.{ltb}
use Rattle.machine_calls.proofs.take.Goals as goal

pub returns-then-out-lt-RESULT_BYTES : goal.returns-then-out-lt-RESULT_BYTES
returns-then-out-lt-RESULT_BYTES c = rw c.refused.ensures (sym (taken-short c.args.mem.now c.args.out.now c.if-out-lt-RESULT_BYTES.true))

pub returns-in-Err : goal.returns-in-Err
returns-in-Err c = let e = c.in-Err.ensures in let n : standing c.args.mem.now ≢ 0 = λ z. absurd (omega (arith, e.0, e.1)) in rw (c.refused-in-Err.ensures, e.0) (sym (taken_refused c.args.mem.now c.args.out.now c.if-out-lt-RESULT_BYTES.false n))

pub untaken-untaken-requires : goal.untaken-untaken-requires
untaken-untaken-requires c =
    let st : standing c.args.mem.now ≡ 0 = c.in_default.ensures in
    let g = standing-good c.args.mem.now st in
    omega (arith, g.0)

pub returns-then-untaken-lt1 : goal.returns-then-untaken-lt1
returns-then-untaken-lt1 c =
    let st : standing c.args.mem.now ≡ 0 = c.in_default.ensures in
    let a : ltb 0 (untaken_of c.args.mem.now) ≡ false = le-ltb 0 (untaken_of c.args.mem.now) (omega (arith, c.untaken-untaken.ensures.0)) in
    rw c.refused-then-untaken-lt1.ensures (sym (taken_none c.args.mem.now st c.args.out.now c.if-out-lt-RESULT_BYTES.false a))

pub results-results-requires : goal.results-results-requires
results-results-requires c =
    let st : standing c.args.mem.now ≡ 0 = c.in_default.ensures in
    let g = standing-good c.args.mem.now st in
    omega (arith, g.0)

pub are_ready-requires : goal.are_ready-requires
are_ready-requires c =
    let st : standing c.args.mem.now ≡ 0 = c.in_default.ensures in
    let g = standing-good c.args.mem.now st in
    let f = valid-figures c.args.mem.now g.1 in
    let s : c.of-links.result.size ≡ size_in c.args.mem.now = c.of-links.ensures.1 in
    (omega (arith, c.of-links.ensures.0), omega (arith, s, c.of-links.ensures.0, g.0), omega (arith, f.results16, c.results-results.ensures.0))

pub returns-then-not-are_ready : goal.returns-then-not-are_ready
returns-then-not-are_ready c =
    let st : standing c.args.mem.now ≡ 0 = c.in_default.ensures in
    let a : ltb 0 (untaken_of c.args.mem.now) ≡ true = lt-ltb 0 (untaken_of c.args.mem.now) (omega (arith, c.untaken-untaken.ensures.0)) in
    let s : c.of-links.result.size ≡ size_in c.args.mem.now = c.of-links.ensures.1 in
    let b : all_below (results_of c.args.mem.now) (result_ready c.args.mem.now (size_in c.args.mem.now)) ≡ false = rw (c.of-links.ensures.0, s, c.results-results.ensures.0) at (sym c.are_ready.ensures ∙ c.if-not-are_ready.true) in
    rw c.refused-then-not-are_ready.ensures (sym (taken-empty c.args.mem.now st c.args.out.now c.if-out-lt-RESULT_BYTES.false a b))

pub write_results-requires : goal.write_results-requires
write_results-requires c =
    let st : standing c.args.mem.now ≡ 0 = c.in_default.ensures in
    let g = standing-good c.args.mem.now st in
    let f = valid-figures c.args.mem.now g.1 in
    let s : c.of-links.result.size ≡ size_in c.args.mem.now = c.of-links.ensures.1 in
    (omega (arith, c.of-links.ensures.0), omega (arith, s, c.of-links.ensures.0, g.0), omega (arith, f.results16, c.results-results.ensures.0), omega arith)

pub empty_results-requires : goal.empty_results-requires
empty_results-requires c =
    let st : standing c.args.mem.now ≡ 0 = c.in_default.ensures in
    let g = standing-good c.args.mem.now st in
    let f = valid-figures c.args.mem.now g.1 in
    let s : c.of-links.result.size ≡ size_in c.args.mem.now = c.of-links.ensures.1 in
    (omega (arith, c.of-links.ensures.0), omega (arith, s, c.of-links.ensures.0, g.0), omega (arith, f.results16, c.results-results.ensures.0))

pub bounds-mem-7 : goal.bounds-mem-7
bounds-mem-7 c =
    let st : standing c.args.mem.now ≡ 0 = c.in_default.ensures in
    let g = standing-good c.args.mem.now st in
    omega (arith, g.0, c.empty_results.auto.mem)

pub returns : goal.returns
unfolding taken_memory
returns c =
    let st : standing c.args.mem.now ≡ 0 = c.in_default.ensures in
    let a : ltb 0 (untaken_of c.args.mem.now) ≡ true = lt-ltb 0 (untaken_of c.args.mem.now) (omega (arith, c.untaken-untaken.ensures.0)) in
    let s : c.of-links.result.size ≡ size_in c.args.mem.now = c.of-links.ensures.1 in
    let b : all_below (results_of c.args.mem.now) (result_ready c.args.mem.now (size_in c.args.mem.now)) ≡ true = rw (c.of-links.ensures.0, s, c.results-results.ensures.0) at (sym c.are_ready.ensures ∙ c.if-not-are_ready.false) in
    let mm : set c.empty_results.new.mem 7 (c.untaken-untaken.result - 1) ≡ taken_memory c.args.mem.now = rw (c.empty_results.ensures, c.results-results.ensures.0, c.untaken-untaken.ensures.0, c.of-links.ensures.0, s) refl in
    let oo : c.write_results.new.out ≡ written 16 c.args.mem.now (size_in c.args.mem.now) (results_of c.args.mem.now) c.args.out.now = rw (c.results-results.ensures.0, c.of-links.ensures.0, s) at c.write_results.ensures in
    rw c.reply.ensures (ap (λ (q : ℕ). handed (answers 0 q) (set c.empty_results.new.mem 7 (c.untaken-untaken.result - 1)) c.write_results.new.out) c.results-results.ensures.0 ∙ ap₂ (λ (x y : List ℕ). handed (answers 0 (results_of c.args.mem.now)) x y) mm oo ∙ sym (taken-accepted c.args.mem.now st c.args.out.now c.if-out-lt-RESULT_BYTES.false a b))
