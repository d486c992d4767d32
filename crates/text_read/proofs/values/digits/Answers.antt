use native.Mathlib.Omega.{arith}
use Prim.Native.Nat.{ℕ, ◌+◌, ◌-◌, ◌^◌, ◌<◌, ◌≤◌}
use mathlib.Core.Path.{◌≡◌, sym, ◌∙◌, ap}
use lib.ListN.{get_or}
use Rattle.std.specs.Char.{is_ascii_digit}
use native.Mathlib.Nat.{pow-le-pow_right, lt_of_lt_of_le}
use Rattle.sheet_fields.proofs.FieldLaws.{grows, digits_more, digits-no-digit, digits-end, cut-at, cut-long}
use Rattle.text_read.proofs.values.digits.Goals as goal

-- v has at most k + 1 digits
small : (v k : ℕ) → v < 10 ^ (k + 1) → k ≤ 9 → v < 10000000000
small v k h l = lt_of_lt_of_le h (pow-le-pow_right (omega arith) {i = k + 1} {j = 10} (omega arith))

pub loop-b-init : goal.loop-b-init
loop-b-init c = let e : c.args.from + 0 ≡ c.args.from = omega arith in (omega arith, rw e)

pub returns-then-not-is_ascii_digit : goal.returns-then-not-is_ascii_digit
returns-then-not-is_ascii_digit c =
    let n = cut-long c.args.s.now c.args.from c.args.end (omega arith) (omega arith) in
    let l : c.args.from + c.loop-b.b-index < c.args.end = omega arith in
    let e = cut-at c.args.s.now c.args.from c.args.end c.loop-b.b-index l in
    digits-no-digit c.args.s.now (c.args.from + c.loop-b.b-index) c.args.end c.loop-b.v l (omega arith) (ap is_ascii_digit (sym e) ∙ sym c.is_ascii_digit.ensures.value ∙ c.if-not-is_ascii_digit.true) ∙ c.loop-b.invariant.1

pub overflow_mul-v : goal.overflow_mul-v
overflow_mul-v c =
    let n = cut-long c.args.s.now c.args.from c.args.end (omega arith) (omega arith) in
    omega (arith, small c.loop-b.v c.loop-b.b-index c.loop-b.invariant.0 (omega arith))

pub overflow_add-v : goal.overflow_add-v
overflow_add-v c =
    let n = cut-long c.args.s.now c.args.from c.args.end (omega arith) (omega arith) in
    let d : c.digit.result < 10 = grind arith in
    omega (arith, small c.loop-b.v c.loop-b.b-index c.loop-b.invariant.0 (omega arith))

pub loop-b-preserved : goal.loop-b-preserved
loop-b-preserved c =
    let n = cut-long c.args.s.now c.args.from c.args.end (omega arith) (omega arith) in
    let l : c.args.from + c.loop-b.b-index < c.args.end = omega arith in
    let i = c.args.from + c.loop-b.b-index in
    let e = cut-at c.args.s.now c.args.from c.args.end c.loop-b.b-index l in
    let lo : 48 ≤ get_or c.args.s.now i 0 = grind arith in
    let hi : get_or c.args.s.now i 0 ≤ 57 = grind arith in
    let d : c.digit.result ≡ get_or c.args.s.now i 0 - 48 = c.digit.ensures ∙ ap (λ b. b - 48) e in
    let m : c.args.from + (c.loop-b.b-index + 1) ≡ i + 1 = omega arith in (
      grows c.loop-b.v c.digit.result c.loop-b.b-index c.loop-b.invariant.0 (omega arith),
      rw (d, m) (sym (digits_more c.args.s.now i c.args.end l (omega arith) c.loop-b.v lo hi) ∙ c.loop-b.invariant.1),
    )

pub returns : goal.returns
returns c =
    let n = cut-long c.args.s.now c.args.from c.args.end (omega arith) (omega arith) in
    let e : c.args.from + c.loop-b.b-index ≡ c.args.end = omega arith in
    digits-end c.args.s.now c.args.end c.loop-b.v ∙ (rw e at c.loop-b.invariant.1)
