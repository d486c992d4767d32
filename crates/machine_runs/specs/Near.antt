-- Which operators a firing can make able. One that meets the same first tokens and the same room is as able as before; a link that the firing operator gives to
-- has another first token only where just one token waits afterwards, and one that it takes from has other room only where fewer than two places are free
-- afterwards. Assumes that the memory is as long as its links need and that they begin behind the registers, and nothing of its contents.
use Rattle.std.specs.Prelude.{ℕ, ◌+◌, ◌*◌, ◌≤◌, ◌<◌, ◌≡◌, ◌≢◌, Bool, List, length, Option}
use Rattle.std.proofs.Math.Path.{refl, ap}
use Rattle.std.proofs.Common.{◌∙◌, inl, inr, arith, lt-ltb, le-ltb}
use Rattle.std.proofs.Math.Bool.{true, false}
use Rattle.std.proofs.Math.Decide.{dec_lt}
use Rattle.std.proofs.Math.ListN.{get_or}
use Rattle.value.specs.declared.Value.{Value}
use Rattle.value.specs.Operators.{pick}
use Rattle.value.specs.Bytes.{word_at, decoded, value_of}
use Rattle.machine_queue.specs.Stretch.{waiting, head_of, room_in}
use Rattle.machine_gates.specs.Decide.{is_absent}
use Rattle.machine_layout.specs.Layout.{number16, no_link, links_at, name_at, operator_at, port_of, register_at, need_from}
use Rattle.machine_firing.specs.Links.{head_from, token_from, room_from}
use Rattle.machine_firing.specs.Fire.{Plan, taken, given, planned, register_of, decision_from, plan_from, ready_from, performed_from, able_from, fired_from}
use Rattle.machine_firing.specs.LinkLaws.{link_part_from}
use Rattle.machine_runs.specs.Performed.{Among, Single, low-performed, other-register, head-performed, room-performed}

abbrev pub name : List ℕ → ℕ → ℕ → ℕ
name m j k = port_of m j k

-- l stands at most once among ports a to e - 1 of operator i
abbrev pub Once : List ℕ → ℕ → ℕ → ℕ → ℕ → Type 0
Once m i a e l = (k k' : ℕ) → a ≤ k → k < k' → k' < e → l ≡ name m i k → l ≢ name m i k'

-- ---- what is met at a link

module _ (m n : List ℕ) (base size l : ℕ) where
  token-same : l < 3105 → head_of (link_part_from n base size l) ≡ head_of (link_part_from m base size l) → token_from n base size l ≡ token_from m base size l
  unfolding token_from head_from
  token-same lt e = rw (lt-ltb l 3105 lt, e) refl

  room-same : l < 3105 → room_in (link_part_from n base size l) ≡ room_in (link_part_from m base size l) → room_from n base size l ≡ room_from m base size l
  unfolding room_from
  room-same lt e = rw (lt-ltb l 3105 lt, e) refl

  -- where there is no link, nothing waits and there is always room
  token-anywhere : (l < 3105 → token_from n base size l ≡ token_from m base size l) → token_from n base size l ≡ token_from m base size l
  unfolding token_from head_from
  token-anywhere e = go (dec_lt l 3105)
    where
      go : Dec (l < 3105) → token_from n base size l ≡ token_from m base size l
      go (yes lt) = e lt
      go (no ge) = rw (le-ltb l 3105 (omega arith)) refl

  room-anywhere : (l < 3105 → room_from n base size l ≡ room_from m base size l) → room_from n base size l ≡ room_from m base size l
  unfolding room_from
  room-anywhere e = go (dec_lt l 3105)
    where
      go : Dec (l < 3105) → room_from n base size l ≡ room_from m base size l
      go (yes lt) = e lt
      go (no ge) = rw (le-ltb l 3105 (omega arith)) refl

-- ---- the links that a firing takes from and gives to

is-taken : (b : Bool) (x l : ℕ) → l < 3105 → l ≡ taken b x → l ≡ x
unfolding taken
is-taken true x l h e = e
is-taken false x l h e = absurd (omega arith)

is-given : (t : Option Value) (x l : ℕ) → l < 3105 → l ≡ given t x → l ≡ x
unfolding given
is-given t x l h = go (is_absent t)
  where
    go : (b : Bool) → l ≡ pick b no_link x → l ≡ x
    go true e = absurd (omega arith)
    go false e = e

module _ (m : List ℕ) (base size : ℕ) (behind : links_at ≤ base) (h : need_from base size ≤ length m) (i : ℕ) (small : i < 1024) where
  abbrev plan : Plan
  plan = plan_from m base size i

  module _ (l : ℕ) (lt : l < 3105) where
    in1 : l ≡ plan.in1 → l ≡ name m i 0
    unfolding plan_from planned
    in1 = is-taken (decision_from m base size i).take1 (name m i 0) l lt

    in2 : l ≡ plan.in2 → l ≡ name m i 1
    unfolding plan_from planned
    in2 = is-taken (decision_from m base size i).take2 (name m i 1) l lt

    in3 : l ≡ plan.in3 → l ≡ name m i 2
    unfolding plan_from planned
    in3 = is-taken (decision_from m base size i).take3 (name m i 2) l lt

    out1 : l ≡ plan.out1 → l ≡ name m i 3
    unfolding plan_from planned
    out1 = is-given (decision_from m base size i).give1 (name m i 3) l lt

    out2 : l ≡ plan.out2 → l ≡ name m i 4
    unfolding plan_from planned
    out2 = is-given (decision_from m base size i).give2 (name m i 4) l lt

    out3 : l ≡ plan.out3 → l ≡ name m i 5
    unfolding plan_from planned
    out3 = is-given (decision_from m base size i).give3 (name m i 5) l lt

    input : (P : Type 0) → ((k : ℕ) → k < 3 → l ≡ name m i k → P) → Among l plan.in1 plan.in2 plan.in3 → P
    input P u (inl e) = u 0 (omega arith) (in1 e)
    input P u (inr (inl e)) = u 1 (omega arith) (in2 e)
    input P u (inr (inr e)) = u 2 (omega arith) (in3 e)

    output : (P : Type 0) → ((k : ℕ) → 3 ≤ k → k < 6 → l ≡ name m i k → P) → Among l plan.out1 plan.out2 plan.out3 → P
    output P u (inl e) = u 3 (omega arith) (omega arith) (out1 e)
    output P u (inr (inl e)) = u 4 (omega arith) (omega arith) (out2 e)
    output P u (inr (inr e)) = u 5 (omega arith) (omega arith) (out3 e)

    single-input : Once m i 0 3 l → Single l plan.in1 plan.in2 plan.in3
    single-input once = (
      λ a b. once 0 1 (omega arith) (omega arith) (omega arith) (in1 a) (in2 b),
      λ a b. once 0 2 (omega arith) (omega arith) (omega arith) (in1 a) (in3 b),
      λ a b. once 1 2 (omega arith) (omega arith) (omega arith) (in2 a) (in3 b),
    )

    single-output : Once m i 3 6 l → Single l plan.out1 plan.out2 plan.out3
    single-output once = (
      λ a b. once 3 4 (omega arith) (omega arith) (omega arith) (out1 a) (out2 b),
      λ a b. once 3 5 (omega arith) (omega arith) (omega arith) (out1 a) (out3 b),
      λ a b. once 4 5 (omega arith) (omega arith) (omega arith) (out2 a) (out3 b),
    )

    -- THE FIRST TOKEN STAYS on a link that i does not take from: what i gives goes behind one that waits, and where none did, one waits afterwards.
    pub head-kept : ((k : ℕ) → k < 3 → l ≢ name m i k) → Once m i 3 6 l →
        ((k : ℕ) → 3 ≤ k → k < 6 → l ≡ name m i k → waiting (link_part_from (fired_from m base size i) base size l) ≢ 1) → token_from (fired_from m base size i) base size l ≡ token_from m base size l
    unfolding fired_from
    head-kept ins once = go (able_from m base size i)
      where
        go : (b : Bool) → ((k : ℕ) → 3 ≤ k → k < 6 → l ≡ name m i k → waiting (link_part_from (pick b (performed_from m base size i plan) m) base size l) ≢ 1) →
            token_from (pick b (performed_from m base size i plan) m) base size l ≡ token_from m base size l
        go true u =
            token-same m (performed_from m base size i plan) base size l lt
            (head-performed m base size behind h i small plan l lt (input ⊥ ins) (single-output once) (output (waiting (link_part_from (performed_from m base size i plan) base size l) ≢ 1) u))
        go false u = refl

    -- WHETHER THERE IS ROOM STAYS on a link that i gives nothing to: where two places are free after i took a token, one was free before.
    pub room-kept : ((k : ℕ) → 3 ≤ k → k < 6 → l ≢ name m i k) → Once m i 0 3 l →
        ((k : ℕ) → k < 3 → l ≡ name m i k → 5 * waiting (link_part_from (fired_from m base size i) base size l) + 11 ≤ size) → room_from (fired_from m base size i) base size l ≡ room_from m base size l
    unfolding fired_from
    room-kept outs once = go (able_from m base size i)
      where
        go : (b : Bool) → ((k : ℕ) → k < 3 → l ≡ name m i k → 5 * waiting (link_part_from (pick b (performed_from m base size i plan) m) base size l) + 11 ≤ size) →
            room_from (pick b (performed_from m base size i plan) m) base size l ≡ room_from m base size l
        go true u =
            room-same m (performed_from m base size i plan) base size l lt
            (room-performed m base size behind h i small plan l lt (output ⊥ outs) (single-input once) (input (5 * waiting (link_part_from (performed_from m base size i plan) base size l) + 11 ≤ size) u))
        go false u = refl

  -- ---- the bytes below the registers after a firing

  pub static-fired : (at : ℕ) → at < 16640 → get_or (fired_from m base size i) at 0 ≡ get_or m at 0
  unfolding fired_from
  static-fired at k = go (able_from m base size i)
    where
      go : (b : Bool) → get_or (pick b (performed_from m base size i plan) m) at 0 ≡ get_or m at 0
      go true = low-performed m base size behind h i small plan at (omega arith) (inl (omega arith))
      go false = refl

  pub port-fired : (j k : ℕ) → j < 1024 → k < 6 → name (fired_from m base size i) j k ≡ name m j k
  unfolding name_at number16
  port-fired j k jl kl = rw (static-fired (operator_at j + 2 + 2 * k) (omega arith), static-fired (operator_at j + 2 + 2 * k + 1) (omega arith)) refl

  -- ---- another operator

  module _ (j : ℕ) (jl : j < 1024) (ne : j ≢ i) where
    register-fired : register_of (fired_from m base size i) j ≡ register_of m j
    unfolding fired_from register_of
    register-fired = go (able_from m base size i)
      where
        go : (b : Bool) → decoded (value_of (word_at (pick b (performed_from m base size i plan) m) (register_at j))) ≡ decoded (value_of (word_at m (register_at j)))
        go true = ap (λ (w : ℕ). decoded (value_of w)) (other-register m base size behind h i small plan j jl ne)
        go false = refl

    module _ (heads : (k : ℕ) → k < 3 → name m j k < 3105 → token_from (fired_from m base size i) base size (name m j k) ≡ token_from m base size (name m j k))
        (rooms : (k : ℕ) → 3 ≤ k → k < 6 → name m j k < 3105 → room_from (fired_from m base size i) base size (name m j k) ≡ room_from m base size (name m j k)) where
      abbrev m' : List ℕ
      m' = fired_from m base size i

      token : (k : ℕ) → k < 3 → token_from m' base size (name m' j k) ≡ token_from m base size (name m j k)
      token k kl = ap (token_from m' base size) (port-fired j k jl (omega arith)) ∙ token-anywhere m m' base size (name m j k) (heads k kl)

      decision-same : decision_from m' base size j ≡ decision_from m base size j
      unfolding decision_from
      decision-same = rw (static-fired (operator_at j) (omega arith), token 0 (omega arith), token 1 (omega arith), token 2 (omega arith), register-fired) refl

      plan-same : plan_from m' base size j ≡ plan_from m base size j
      unfolding plan_from planned
      plan-same =
          rw (decision-same, port-fired j 0 jl (omega arith), port-fired j 1 jl (omega arith), port-fired j 2 jl (omega arith), port-fired j 3 jl (omega arith), port-fired j 4 jl (omega arith), port-fired j 5 jl (omega arith)) refl

      room : (k : ℕ) (t : Option Value) → 3 ≤ k → k < 6 → room_from m' base size (given t (name m j k)) ≡ room_from m base size (given t (name m j k))
      room k t lo hi =
          room-anywhere m m' base size (given t (name m j k))
          (λ lt. let e = is-given t (name m j k) (given t (name m j k)) lt refl in rw e (rooms k lo hi (rw e at lt)))

      ready-same : ready_from m' base size (plan_from m base size j) ≡ ready_from m base size (plan_from m base size j)
      unfolding ready_from plan_from planned
      ready-same =
          rw (room 3 (decision_from m base size j).give1 (omega arith) (omega arith), room 4 (decision_from m base size j).give2 (omega arith) (omega arith), room 5 (decision_from m base size j).give3 (omega arith) (omega arith)) refl

      -- AS ABLE AS BEFORE: an operator that did not fire, where its inputs' first tokens and its outputs' room are the same.
      pub able-kept : able_from m' base size j ≡ able_from m base size j
      unfolding able_from
      able-kept = ap (ready_from m' base size) plan-same ∙ ready-same
