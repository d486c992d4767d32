-- Two laws of the machine with tags' memory: a link is empty where its first byte is 0, and no memory is one of both machines. Assumes nothing.
use Rattle.std.specs.Prelude.{ℕ, ◌+◌, ◌≡◌, refl, Bool, true, false, List, eqb, get_or, drop}
use Rattle.std.proofs.Common.{arith, eqb-true, get_or-take, get_or-drop}
use Rattle.machine_layout.specs.Layout.{capacity_byte, least_size, link_from}
use Rattle.machine_valid.specs.Below.{and_left}
use Rattle.machine_valid.specs.Valid.{valid}
use Rattle.machine_valid.specs.Figures.{valid-figures}
use Rattle.machine_planes.specs.Planes.{plane_at}
use Rattle.machine_tags.specs.TagValid.{tag_mark, tag_figures_ok, tag_valid}
use Rattle.machine_tags.specs.TagCalls.{empty_link}

pub empty-byte : (m : List ℕ) (t l : ℕ) → empty_link m t l ≡ eqb (get_or m (link_from (plane_at t) least_size l) 0) 0
unfolding empty_link
empty-byte m t l =
    let z : link_from (plane_at t) least_size l + 0 ≡ link_from (plane_at t) least_size l = omega arith in
    rw (get_or-take least_size (drop (link_from (plane_at t) least_size l) m) 0 0 (omega arith), get_or-drop (link_from (plane_at t) least_size l) m 0 0, z) refl

marked : (m : List ℕ) → tag_valid m ≡ true → capacity_byte m ≡ tag_mark
unfolding tag_valid tag_figures_ok
marked m v = eqb-true (capacity_byte m) tag_mark (and_left (eqb (capacity_byte m) tag_mark) _ (and_left (tag_figures_ok m) _ v))

-- No memory is valid for both machines, so the calls of either that look at what is stored give 31 for the other's.
pub one-machine : (m : List ℕ) → tag_valid m ≡ true → valid m ≡ false
one-machine m v = go (valid m) refl
  where
    go : (b : Bool) → valid m ≡ b → b ≡ false
    go false e = refl
    go true e = absurd (omega (arith, marked m v, (valid-figures m e).capacity16))
