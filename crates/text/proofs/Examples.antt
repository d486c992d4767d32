-- Laws of specs/Examples.antt, and what only they need.
use Rattle.std.specs.Prelude.{◌≡◌, refl, map}
use Rattle.std.specs.Float.Ieee.{of_bits, to_bits, fits}
use Rattle.text.specs.Examples.{got, cases}

pub cases-worked : map (λ c. got c.asks) cases ≡ map (λ c. c.gives) cases
unfolding cases got of_bits to_bits fits
cases-worked = refl
