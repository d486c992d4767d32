use Prim.Native.Nat.{ℕ, ◌+◌, ◌*◌, ◌-◌, ◌≤◌, ◌<◌}
use native.Mathlib.Omega.{arith}
use lib.ListN.{get_or, set, length-set}
use Rattle.machine_marks.specs.Held.{moved_none, moved_on, moved-end, bare-end}
use Rattle.machine_marks.proofs.forward.Goals as goal

-- a later block is nearer to the end, whatever it holds

later : (a b x y : ℕ) → a < b → b < 16 → x < 18446744073709551616 → 18446744073709551616 * (16 - b) + x ≤ 18446744073709551616 * (16 - a) + y
later a b x y p q h = omega arith

pub returns-then-m-ne0 : goal.returns-then-m-ne0
returns-then-m-ne0 c = (moved_none c.args.awake.now c.args.m c.requires.0 (omega arith), omega arith, λ z. absurd (c.if-m-ne0.true z))

pub next_block-next-requires : goal.next_block-next-requires
next_block-next-requires c = (omega (arith, length-set c.args.awake.now c.args.m.block 0, c.requires.0.len), omega (arith, c.requires.0.inside))

pub bounds-awake-next : goal.bounds-awake-next
bounds-awake-next c = omega (arith, length-set c.args.awake.now c.args.m.block 0, c.requires.0.len)

pub returns-then-next-lt-MARK_WORDS : goal.returns-then-next-lt-MARK_WORDS
returns-then-next-lt-MARK_WORDS c = (
  moved_on c.args.awake.now c.args.m c.requires.0 c.requires.1 c.if-m-ne0.false c.next_block-next.result c.next_block-next.ensures.0 c.next_block-next.ensures.2 (omega arith),
  later c.args.m.block c.next_block-next.result (get_or (set c.args.awake.now c.args.m.block 0) c.next_block-next.result 0) c.args.m.here (omega (arith, c.next_block-next.ensures.0)) (omega arith) (omega (arith, c.type_inv.awake c.next_block-next.result)),
  λ z. absurd (c.next_block-next.ensures.3 (omega arith) z),
)

pub returns : goal.returns
returns c = (
  moved-end c.args.awake.now c.args.m c.requires.0 c.requires.1 c.if-m-ne0.false c.next_block-next.result c.next_block-next.ensures.0 c.next_block-next.ensures.2,
  omega arith,
  λ z. bare-end c.args.awake.now c.args.m c.requires.0 c.requires.1 c.if-m-ne0.false c.next_block-next.result c.next_block-next.ensures.0 c.next_block-next.ensures.2 (omega arith),
)
