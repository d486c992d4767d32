use native.Mathlib.Omega.{arith}
use mathlib.Core.Path.{refl}
use Rattle.machine_layout.specs.Fits.{apart}
use Rattle.machine_layout.specs.Layout.{most_links}
use Rattle.machine_layout.proofs.link_from.Goals as goal

pub overflow_mul-result : goal.overflow_mul-result
overflow_mul-result c = omega (arith, apart c.args.size c.args.l most_links c.requires.1)

pub overflow_add-result : goal.overflow_add-result
overflow_add-result c = omega (arith, apart c.args.size c.args.l most_links c.requires.1)

pub returns : goal.returns
returns c = (refl, omega (arith, apart c.args.size c.args.l most_links c.requires.1))
