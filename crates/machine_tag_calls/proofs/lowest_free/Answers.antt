use native.Mathlib.Omega.{arith}
use mathlib.Core.Path.{◌≡◌, sym, ◌∙◌}
use mathlib.Core.Bool.{Bool, true, false}
use Prim.Native.Nat.{ℕ, ◌+◌, ◌-◌}
use native.Mathlib.Decide.{ℕ_discrete}
use Rattle.machine_tags.specs.Least.{NoneBelow}
use Rattle.machine_tags.proofs.Least.{least_at, least-none}
use Rattle.machine_tags.specs.TagCalls.{free_tag, lowest_free}
use Rattle.machine_tag_calls.proofs.lowest_free.Goals as goal

none-next : (f : ℕ → Bool) (i : ℕ) → NoneBelow f i → f i ≡ false → NoneBelow f (i + 1)
none-next f i none q j h = go (ℕ_discrete j i)
  where
    go : Dec (j ≡ i) → f j ≡ false
    go (yes p) = rw p q
    go (no d) = none j (omega arith)

pub loop-t-init : goal.loop-t-init
loop-t-init c = (omega arith, λ j h. absurd (omega arith))

pub returns-then-is_free : goal.returns-then-is_free
unfolding lowest_free
returns-then-is_free c = (sym (least_at (free_tag c.args.mem.now) 16 c.loop-t.t (omega arith) c.loop-t.invariant.1 (sym c.is_free.ensures ∙ c.if-is_free.true)), omega arith)

pub loop-t-preserved : goal.loop-t-preserved
loop-t-preserved c = (omega arith, none-next (free_tag c.args.mem.now) c.loop-t.t c.loop-t.invariant.1 (sym c.is_free.ensures ∙ c.if-is_free.false))

pub returns : goal.returns
unfolding lowest_free
returns c =
    let e : c.loop-t.t ≡ 16 = omega arith in
    least-none (free_tag c.args.mem.now) 16 (rw e at c.loop-t.invariant.1)
