-- What a firing under a tag leaves to the other tags of a graph without `for` (document 02, Job 12): no operator remembers, so that no register changes, and an operator is as
-- able under another tag as before. Assumes that the memory has its planes and holds bytes.
use Prim.Native.Nat.{ℕ, ◌+◌, ◌%◌, ◌≤◌, ◌<◌}
use Rattle.std.specs.Prelude.{◌≡◌, refl, ◌≢◌, Bool, true, false, ◌&&◌, ◌||◌, List, eqb, length, get_or}
use Rattle.std.proofs.Common.{sym, ap, ◌∙◌, arith, leb-true, eqb-true}
use Rattle.std.proofs.lemmas.Bool.{false≢true, lt-leb}
use Rattle.std.proofs.Math.Option.{Option, some, none}
use Rattle.value.specs.declared.Value.{Value}
use Rattle.value.specs.Operators.{pick}
use Rattle.value.specs.Bytes.{is_some, word_or, decoded, value_of, word_at}
use Rattle.value.specs.Constants.{in_constant_range}
use Rattle.value.proofs.Tokens.{word-of-token}
use Rattle.network.specs.Rules.{constant, M-gate, FM-gate}
use Rattle.machine_layout.specs.Kinds.{byte_of}
use Rattle.machine_layout.specs.Layout.{most_operators, least_size, ports_at, operator_at, kind_byte, register_at}
use Rattle.machine_firing.specs.Fire.{register_of, able_at}
use Rattle.machine_valid.specs.Below.{all_below, below_at, and_right}
use Rattle.machine_valid.specs.Valid.{named_ok, register_ok, kind_ok, operator_ok}
use Rattle.machine_planes.specs.Planes.{most_tags, plane_at, tagged_need, plane_of}
use Rattle.machine_planes.proofs.PlaneBytes.{plane-word, plane-kind}
use Rattle.machine_planes.proofs.PlaneFirings.{plane-able}
use Rattle.machine_planes.proofs.PlaneOthers.{beside-fired, register-stays, fired-length}
use Rattle.machine_tags.specs.TagRun.{able_under, fired_under}
use Rattle.machine_tags.specs.TagValid.{plain_kind}

-- operator i does not remember, and its register holds a value or nothing
pub record Plain (m : List ℕ) (i : ℕ) : Type 0 where
  pub kind : kind_byte m i < byte_of FM-gate
  pub holds : word_or (register_of m i) ≡ word_at m (register_at i)

abbrev pub PlainBelow : List ℕ → ℕ → Type 0
PlainBelow m n = (i : ℕ) → i < n → Plain m i

-- ---- valid memory is so

constant-some : (o : Option Value) → in_constant_range o ≡ true → is_some o ≡ true
constant-some (some v) e = refl
constant-some none e = e

register-holds : (kind w : ℕ) → kind ≤ byte_of M-gate → register_ok kind w ≡ true → word_or (decoded (value_of w)) ≡ w
unfolding register_ok
register-holds kind w low ok = word-of-token w ∙ go (eqb kind (byte_of constant)) (rw (lt-leb (byte_of FM-gate) kind (omega arith)) at ok)
  where
    nothing : (b : Bool) → eqb w 0 ≡ b → b || false ≡ true → pick (is_some (value_of w)) w 0 ≡ w
    nothing true e h = let z : w ≡ 0 = eqb-true w 0 e in rw z (same (is_some (value_of 0)))
      where
        same : (b : Bool) → pick {A = ℕ} b 0 0 ≡ 0
        same true = refl
        same false = refl
    nothing false e h = absurd (false≢true h)

    go : (b : Bool) → pick b (in_constant_range (value_of w)) (eqb w 0 || (false && is_some (value_of w))) ≡ true → pick (is_some (value_of w)) w 0 ≡ w
    go true h = rw (constant-some (value_of w) h) refl
    go false h = nothing (eqb w 0) refl h

register-valid : (m : List ℕ) (i : ℕ) → operator_ok m i ≡ true → register_ok (kind_byte m i) (word_at m (register_at i)) ≡ true
unfolding operator_ok
register-valid m i ok =
    let ports = all_below 6 (named_ok m (operator_at i + ports_at) (kind_byte m i)) in
    let register = register_ok (kind_byte m i) (word_at m (register_at i)) in
    and_right ports register (and_right (kind_ok (kind_byte m i)) (ports && register) ok)

pub plain-valid : (m : List ℕ) (n : ℕ) → all_below n (operator_ok m) ≡ true → all_below n (plain_kind m) ≡ true → PlainBelow m n
unfolding plain_kind register_of
plain-valid m n operators kinds i h =
    let low : kind_byte m i ≤ byte_of M-gate = leb-true (kind_byte m i) (byte_of M-gate) (below_at n (plain_kind m) kinds i h) in
    record { kind = omega arith; holds = register-holds (kind_byte m i) (word_at m (register_at i)) low (register-valid m i (below_at n (operator_ok m) operators i h)) }

-- ---- and stays so, with what every other tag can do

module _ (m : List ℕ) (t : ℕ) (long : tagged_need ≤ length m) (tag : t < most_tags) (small : (j : ℕ) → get_or m j 0 < 256) (i : ℕ) (few : i < most_operators) (plain : Plain m i) where
  long-fired : tagged_need ≤ length (fired_under m i t)
  long-fired = omega (arith, fired-length m (plane_at t) least_size (omega arith) i)

  pub other-plane : (s : ℕ) → s < most_tags → s ≢ t → plane_of (fired_under m i t) s ≡ plane_of m s
  other-plane s tag' other = beside-fired t s tag tag' other m long i few (register-stays m (plane_at t) least_size i small plain.kind plain.holds)

  pub other-able : (s : ℕ) → s < most_tags → s ≢ t → (j : ℕ) → j < most_operators → able_under (fired_under m i t) j s ≡ able_under m j s
  other-able s tag' other j few' =
      plane-able (fired_under m i t) s long-fired tag' j few' ∙ ap (λ (x : List ℕ). able_at x least_size j) (other-plane s tag' other) ∙ sym (plane-able m s long tag' j few')

  pub plain-fired : (j : ℕ) → j < most_operators → Plain m j → Plain (fired_under m i t) j
  unfolding register_of
  plain-fired j few' p = record { kind = rw same_kind_lem p.kind; holds = rw same_word p.holds }
    where
      -- any other tag's machine holds what stands once
      s : ℕ
      s = (t + 1) % 16

      same-machine : plane_of (fired_under m i t) s ≡ plane_of m s
      same-machine = other-plane s (omega arith) (omega arith)

      same_kind_lem : kind_byte (fired_under m i t) j ≡ kind_byte m j
      same_kind_lem = sym (plane-kind (fired_under m i t) s long-fired (omega arith) j few') ∙ ap (λ (x : List ℕ). kind_byte x j) same-machine ∙ plane-kind m s long (omega arith) j few'

      same_word : word_at (fired_under m i t) (register_at j) ≡ word_at m (register_at j)
      same_word =
          sym (plane-word (fired_under m i t) s long-fired (omega arith) (register_at j) (omega arith) (omega arith)) ∙ ap (λ (x : List ℕ). word_at x (register_at j)) same-machine
          ∙ plane-word m s long (omega arith) (register_at j) (omega arith) (omega arith)
