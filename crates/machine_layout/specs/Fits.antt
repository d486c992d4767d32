-- Every stretch lies in the memory that its links need, and the stretches of two links lie apart. Assumes nothing.
use Rattle.std.specs.Prelude.{ℕ, suc, ◌+◌, ◌*◌, ◌≤◌, ◌<◌, ◌≡◌}
use Rattle.std.proofs.Common.{arith, suc-mul, mul-le-mul_right}
use Rattle.machine_layout.specs.Layout.{most_links, link_from, need_from}

pub apart : (size l k : ℕ) → l < k → l * size + size ≤ k * size
apart size l k h = let a : suc l * size ≤ k * size = mul-le-mul_right size h in omega (arith, suc-mul l size)

pub stretch-fits : (base size l : ℕ) → l < most_links → link_from base size l + size ≤ need_from base size
stretch-fits base size l h = omega (arith, apart size l most_links h)
