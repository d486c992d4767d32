-- A firing on bytes. Document 01, "The graph": "An operator fires only when every token listed waits and each link it emits on has a free
-- place". The decision is the table's (gates' specs/Decide); here it gets the links that stand in the operator's record.
-- All is stated over the byte `base` where the links begin. Assumes nothing.
use Rattle.std.specs.Prelude.{ℕ, ◌+◌, Bool, true, false, ◌&&◌, List, get_or, Option}
use Rattle.value.specs.declared.Value.{Value}
use Rattle.value.specs.Operators.{pick}
use Rattle.value.specs.Bytes.{decoded, value_of, word_or, word_at, stored}
use Rattle.machine_gates.specs.Decide.{Decided, is_absent, decide_at}
use Rattle.machine_layout.specs.Layout.{no_link, links_at, name_at, operator_at, kind_byte, port_of, register_at}
use Rattle.machine_firing.specs.Links.{token_from, room_from, removed_from, appended_from}

-- What a firing takes and gives: links (65535: none), the words that go onto the outputs, and the register's next word.
pub record Plan : Type 0 where
  pub able : Bool
  pub in1 : ℕ
  pub in2 : ℕ
  pub in3 : ℕ
  pub out1 : ℕ
  pub out2 : ℕ
  pub out3 : ℕ
  pub word1 : ℕ
  pub word2 : ℕ
  pub word3 : ℕ
  pub register : ℕ

-- an input's link where it is taken from, an output's where a token goes onto it
unfoldable pub taken : Bool → ℕ → ℕ
taken takes l = pick takes l no_link

unfoldable pub given : Option Value → ℕ → ℕ
given token l = pick (is_absent token) no_link l

-- the decision with the links of the ports that begin at a place
unfoldable pub planned : List ℕ → ℕ → Decided → Plan
planned m at d =
    record {
      able = d.able;
      in1 = taken d.take1 (name_at m at 0);
      in2 = taken d.take2 (name_at m at 1);
      in3 = taken d.take3 (name_at m at 2);
      out1 = given d.give1 (name_at m at 3);
      out2 = given d.give2 (name_at m at 4);
      out3 = given d.give3 (name_at m at 5);
      word1 = word_or d.give1;
      word2 = word_or d.give2;
      word3 = word_or d.give3;
      register = word_or d.register;
    }

-- the register of operator i as a value, none before the first firing
unfoldable pub register_of : List ℕ → ℕ → Option Value
register_of m i = decoded (value_of (word_at m (register_at i)))

unfoldable pub decision_from : List ℕ → ℕ → ℕ → ℕ → Decided
decision_from m base size i =
    decide_at (kind_byte m i) (token_from m base size (port_of m i 0)) (token_from m base size (port_of m i 1)) (token_from m base size (port_of m i 2)) (register_of m i)

unfoldable pub plan_from : List ℕ → ℕ → ℕ → ℕ → Plan
plan_from m base size i = planned m (operator_at i + 2) (decision_from m base size i)

unfoldable pub ready_from : List ℕ → ℕ → ℕ → Plan → Bool
ready_from m base size p =
    p.able && (room_from m base size p.out1 && (room_from m base size p.out2 && room_from m base size p.out3))

-- the tokens taken, the tokens given
unfoldable pub moved_from : List ℕ → ℕ → ℕ → Plan → List ℕ
moved_from m base size p =
    appended_from (appended_from (appended_from
    (removed_from (removed_from (removed_from m base size p.in1) base size p.in2) base size p.in3)
    base size p.out1 p.word1) base size p.out2 p.word2) base size p.out3 p.word3

-- and the register
unfoldable pub performed_from : List ℕ → ℕ → ℕ → ℕ → Plan → List ℕ
unfolding moved_from
performed_from m base size i p = stored (moved_from m base size p) (register_at i) p.register

-- operator i can fire
unfoldable pub able_from : List ℕ → ℕ → ℕ → ℕ → Bool
able_from m base size i = ready_from m base size (plan_from m base size i)

-- the memory after operator i has fired, or as it was where it cannot
unfoldable pub fired_from : List ℕ → ℕ → ℕ → ℕ → List ℕ
fired_from m base size i = pick (able_from m base size i) (performed_from m base size i (plan_from m base size i)) m

-- ---- the same on the links of a machine, from `links_at` on

abbrev pub decision_at : List ℕ → ℕ → ℕ → Decided
decision_at m size i = decision_from m links_at size i

abbrev pub plan_at : List ℕ → ℕ → ℕ → Plan
plan_at m size i = plan_from m links_at size i

abbrev pub ready_for : List ℕ → ℕ → Plan → Bool
ready_for m size p = ready_from m links_at size p

abbrev pub moved : List ℕ → ℕ → Plan → List ℕ
moved m size p = moved_from m links_at size p

abbrev pub performed : List ℕ → ℕ → ℕ → Plan → List ℕ
performed m size i p = performed_from m links_at size i p

abbrev pub able_at : List ℕ → ℕ → ℕ → Bool
able_at m size i = able_from m links_at size i

abbrev pub fired_at : List ℕ → ℕ → ℕ → List ℕ
fired_at m size i = fired_from m links_at size i
