-- A claim for each link number and for the register of the gate whose first output it is, told from below upwards: a part of a graph tells
-- of its own links and leaves what is told of those before them. Assumes nothing.
use Prim.Native.Nat.{ℕ, zero, suc, ◌+◌, ◌-◌, ◌≤◌, ◌<◌}
use Rattle.std.specs.Prelude.{◌≡◌, refl, Bool, true, false, cond, length, get_or, drop, ltb}
use mathlib.Core.List.{List, [], ◌∷◌, ◌++◌}
use Rattle.names.specs.Names.{Names}
use Rattle.network.specs.Values.{err-value}
use Rattle.graph.specs.Assembly.{Env, Operator, nth}
use Rattle.theory_reference.specs.Plugged.{link-of}
use Rattle.theory_claims.specs.Claims.{Claim, Meets, truths, Fits, Claims, claimed}

pub record Told : Type 0 where
  pub link : Claim
  pub register : Claim

abbrev pub Telling : Type 0
Telling = ℕ → Told

-- Told of a link that no loop's gate gives on.
abbrev pub plain : Claim → Told
plain c = record { link = c; register = truths }

abbrev pub links : Telling → Claims
links S l = (S l).link

-- An operator of a graph whose links have claims that fit it.
abbrev pub Typed-operator : Telling → Operator → Type 0
Typed-operator S o =
    Fits o.kind
    (record {
      in1 = links S (link-of o.in1);
      in2 = links S (link-of o.in2);
      in3 = links S (link-of o.in3);
      out1 = claimed (links S) o.out1;
      out2 = claimed (links S) o.out2;
      out3 = claimed (links S) o.out3;
      register = (S (link-of o.out1)).register;
      held = o.held;
    })

-- The same is told of the links below n.
abbrev pub Agree : ℕ → Telling → Telling → Type 0
Agree n S U = (l : ℕ) → l < n → U l ≡ S l

-- Told anew from n on.
unfoldable pub above : ℕ → Telling → Telling → Telling
above n S h l = cond (ltb l n) (S l) (h (l - n))

-- A register that has never fired counts as err.
abbrev pub Marked : Telling → Type 0
Marked S = (l : ℕ) → Meets (S l).register err-value

-- ---- the links of names
-- The links of names lie below n and have the names' claims.
pub record Named (f : Names) (env : Env) (n : ℕ) (S : Telling) (C : Claims) : Type 0 where
  pub below : (x : ℕ) → f x ≡ true → env x < n
  pub claims : (x : ℕ) → f x ≡ true → links S (env x) ≡ C x

-- ---- the links of outputs
-- As many links as claims, all below p, each with its claim.
abbrev pub Outs : ℕ → Telling → List ℕ → List Claim → Type 0
Outs p S [] [] = Unit {0}
Outs p S [] (c ∷ cs) = ⊥
Outs p S (l ∷ ls) [] = ⊥
Outs p S (l ∷ ls) (c ∷ cs) = (l < p) × (links S l ≡ c) × Outs p S ls cs
