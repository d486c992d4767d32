-- Pushes of one set, one after another, as they are answered: read off the links of the network (`push_refusals`) and by the calls on real memory
-- (`push_answers`), and that both are the same. Document 01: "32 sixteen sets untaken", "33 an input link, or the trigger's link where it exists, full",
-- tested in this order. Assumes a standing machine of a sound graph, a capacity of 1 to 16, and a set that passes 12; at the end an accepted start.
use Prim.Native.Nat.{ℕ, zero, suc, ◌+◌, ◌≤◌}
use Rattle.std.specs.Prelude.{◌≡◌, Bool, eqb, ltb, length, take as first_of, replicate}
use mathlib.Core.List.{List, [], ◌∷◌, ◌++◌, map}
use borrow.Author.Tests.{ltb-true, lt-ltb}
use Rattle.names.specs.Names.{bit}
use Rattle.value.specs.declared.Value.{Value}
use Rattle.value.specs.Operators.{pick}
use Rattle.formula.specs.declared.Refusal.TheVariants.{Untaken, Full}
use Rattle.formula.specs.Refusals.{number_of}
use Rattle.formula.specs.Tree.{Exp, formula_of}
use Rattle.formula.specs.Faults.{letters_of}
use Rattle.network.specs.Net.{Links, Able, act}
use Rattle.graph.specs.Translation.{made_of}
use Rattle.machine_layout.specs.Layout.{inputs_of, untaken_of, size_of, need, stored_kinds}
use Rattle.machine_valid.specs.Below.{all_below, and_both, below_at, below_all}
use Rattle.machine_calls.specs.Calls.{Outcome, size_in, standing, rooms_ok, pushed}
use Rattle.value_sets.specs.Sets.{set_ok, set_values, IsSet}
use Rattle.machine_calls.specs.CallLaws.{pushed-untaken, pushed-full}
use Rattle.theory_verdicts.specs.Owed.{credit_link}
use Rattle.theory_verdicts.specs.Running.{places, push_of, start_of}
use Rattle.demand_view.specs.Sound.{Sound}
use Rattle.demand_view.specs.Stands.{Stands}
use Rattle.machine_start.specs.Start.{started}
use Rattle.machine_start.specs.StartLaws.{accepted-start}
use Rattle.demand.specs.MemoryCalls.{push, answers_of}

-- ---- on the links
unfoldable pub has_room : ℕ → Links → ℕ → Bool
has_room capacity q l = ltb (length (q l)) capacity

-- The number that push answers for a good set, 0 where it accepts. The credit link holds a token for each set untaken; the inputs have the links 0, 1, .. and
-- the trigger, where it exists, the next.
unfoldable pub push_refusal : Exp → ℕ → Links → ℕ
unfolding all_below has_room
push_refusal x capacity q =
    pick (ltb (length (q credit_link)) 16)
    (pick (all_below ((made_of x).inputs + bit (made_of x).triggered) (has_room capacity q)) 0 (number_of Full))
    (number_of Untaken)

-- An accepted push acts, a refused one leaves the links as they are.
unfoldable pub after_push : Exp → ℕ → List Value → Links → Links
unfolding push_refusal
after_push x capacity v q = pick (eqb (push_refusal x capacity q) 0) (act (push_of x v) q) q

-- The answers to k pushes of one set.
unfoldable pub push_refusals : Exp → ℕ → List Value → ℕ → Links → List ℕ
unfolding push_refusal after_push
push_refusals x capacity v zero q = []
push_refusals x capacity v (suc k) q = push_refusal x capacity q ∷ push_refusals x capacity v k (after_push x capacity v q)

-- ---- on the memory
-- The refusals' numbers of k pushes of one set, each lent so many bytes of the memory as the one before left it.
unfoldable pub push_answers : ℕ → ℕ → List ℕ → List ℕ → List ℕ
unfolding answers_of
push_answers lent k set m = map (λ a. a.refusal) (answers_of (replicate k (push lent set)) m)
