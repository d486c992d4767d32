-- Towards demand 2's "just what his history rules say for the next tokens": the firing rules of Rules.antt agree with Brock's history rules, on
-- histories; FiringHistory.antt says it of links. One statement over every kind of operator, every register and every input history: the
-- output histories are those that the firing of the rule emits, followed by the output histories of what it leaves, with the register it
-- leaves; and where a token that the rule wants is not there, they are empty.
use Rattle.std.specs.Prelude.{ℕ, ◌≡◌, refl, Bool, true, false, [], ◌∷◌}
use Rattle.std.proofs.Math.Option.{Option, none, some}
use Rattle.value.specs.declared.Value.{Value}
use Rattle.value.specs.declared.Sense.{Sense}
use Rattle.value.specs.declared.Sense.TheVariants.{True, False, Neither}
use Rattle.value.specs.Senses.{sense}
use Rattle.network.specs.Rules.{Kind, Register, Firing, takes, gives, never, first, second, third}
use Rattle.network.specs.Histories.{History, Outputs, silence, followed, history}

-- One firing on three input histories: what it leaves of them, what it gives on the outputs, the register it leaves.
pub record Outcome : Type 0 where
  pub left1 : History
  pub left2 : History
  pub left3 : History
  pub give1 : Option Value
  pub give2 : Option Value
  pub give3 : Option Value
  pub register : Register

-- None: a token that it wants is not there.
abbrev pub outcome : Firing → History → History → History → Option Outcome
outcome (takes first k) [] ys zs = none
outcome (takes first k) (x ∷ xs) ys zs = outcome (k x) xs ys zs
outcome (takes second k) xs [] zs = none
outcome (takes second k) xs (y ∷ ys) zs = outcome (k y) xs ys zs
outcome (takes third k) xs ys [] = none
outcome (takes third k) xs ys (z ∷ zs) = outcome (k z) xs ys zs
outcome (gives a b c g) xs ys zs =
    some (record { left1 = xs; left2 = ys; left3 = zs; give1 = a; give2 = b; give3 = c; register = g })
outcome never xs ys zs = none

-- What comes out in all: what this firing gives, then what the operator makes of the rest.
abbrev pub continued : Kind → Option Outcome → Outputs
continued k none = silence
continued k (some o) =
    followed o.give1 o.give2 o.give3 (history k o.register o.left1 o.left2 o.left3)
