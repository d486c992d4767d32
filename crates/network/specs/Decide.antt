-- The decision of a firing by the tokens that wait first on its inputs: which inputs it takes, what it gives, which register it leaves. This is
-- what a machine computes before it touches a link; Firing.antt has that doing it is the firing on the network. It is read off the one table of
-- rules, by evaluating its little program on the heads.
use Rattle.std.specs.Prelude.{ℕ, ◌≡◌, refl, Bool, true, false, [], ◌∷◌}
use Rattle.std.proofs.Math.Option.{Option, none, some}
use Rattle.value.specs.declared.Value.{Value}
use Rattle.value.specs.declared.Sense.{Sense}
use Rattle.value.specs.declared.Sense.TheVariants.{True, False, Neither}
use Rattle.value.specs.Senses.{sense}
use Rattle.network.specs.Rules.{Kind, Register, Firing, takes, gives, never, Input, first, second, third, rule}
use Rattle.network.specs.Histories.{History}
use Rattle.network.specs.HistoryLaw.{Outcome}

-- Which inputs are taken.
pub record Taken : Type 0 where
  pub take1 : Bool
  pub take2 : Bool
  pub take3 : Bool

abbrev pub untouched : Taken
untouched = record { take1 = false; take2 = false; take3 = false }

abbrev pub is-taken : Taken → Input → Bool
is-taken t first = t.take1
is-taken t second = t.take2
is-taken t third = t.take3

abbrev pub also : Input → Taken → Taken
also first t = record { take1 = true; take2 = t.take2; take3 = t.take3 }
also second t = record { take1 = t.take1; take2 = true; take3 = t.take3 }
also third t = record { take1 = t.take1; take2 = t.take2; take3 = true }

pub record Decision : Type 0 where
  pub taken : Taken
  pub give1 : Option Value
  pub give2 : Option Value
  pub give3 : Option Value
  pub register : Register

abbrev pub with-head : {A : Type 0} → Option Value → (Value → Option A) → Option A
with-head none k = none
with-head (some v) k = k v

-- None: a token that the firing wants does not wait. `heads` are the first tokens of the inputs, none where nothing waits.
abbrev pub decided : Taken → Firing → (Input → Option Value) → Option Decision
decided t (takes i k) heads = with-head (heads i) (λ v. decided (also i t) (k v) heads)
decided t (gives a b c g) heads = some (record { taken = t; give1 = a; give2 = b; give3 = c; register = g })
decided t never heads = none

abbrev pub decide : Kind → Register → (Input → Option Value) → Option Decision
decide k g heads = decided untouched (rule k g) heads

-- A rule takes from an input at most once.
abbrev pub Once : Taken → Firing → Type 0
Once t (takes i k) = (is-taken t i ≡ false) × ((v : Value) → Once (also i t) (k v))
Once t (gives a b c g) = Unit {0}
Once t never = Unit {0}

-- the control was taken
abbrev pub after-control : Taken
after-control = also first untouched

-- The decision on the heads is the outcome on the histories (HistoryLaw.antt): what is taken is gone, the rest is left.
abbrev pub earliest : History → Option Value
earliest [] = none
earliest (x ∷ xs) = some x

abbrev pub left : Bool → History → History
left false xs = xs
left true [] = []
left true (x ∷ xs) = xs

abbrev pub heads-of : History → History → History → Input → Option Value
heads-of xs ys zs first = earliest xs
heads-of xs ys zs second = earliest ys
heads-of xs ys zs third = earliest zs

abbrev pub carried-out : Option Decision → History → History → History → Option Outcome
carried-out none xs ys zs = none
carried-out (some d) xs ys zs =
    some
    (record {
      left1 = left d.taken.take1 xs;
      left2 = left d.taken.take2 ys;
      left3 = left d.taken.take3 zs;
      give1 = d.give1;
      give2 = d.give2;
      give3 = d.give3;
      register = d.register;
    })
