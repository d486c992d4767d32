-- Laws of specs/ByHistory.antt, and what only they need.
use Prim.Native.Nat.{ℕ, zero, suc, ◌+◌, ◌≤◌, ◌<◌}
use Rattle.std.specs.Prelude.{◌≡◌, length, drop, take as first_of}
use Rattle.std.proofs.Common.{sym, ◌∙◌, arith, take-append-drop}
use Rattle.std.proofs.Math.Path.{ap, subst}
use mathlib.Core.List.{List, ◌++◌}
use Rattle.std.proofs.Math.Decide.{dec_lt}
use Rattle.std.proofs.Math.ListN.{get_or-append}
use Rattle.network.specs.Net.{Links}
use Rattle.formula.specs.Faults.{letters_of}
use Rattle.formula.specs.Tree.{formula_of}
use Rattle.formula.specs.declared.Refusal.TheVariants.{Memory}
use Rattle.formula.specs.Refusals.{number_of}
use Rattle.graph.specs.Assembly.{Operator}
use Rattle.graph.specs.Translation.{Made, made_of}
use Rattle.machine_layout.specs.Layout.{operators_of, register_at, size_of, need}
use Rattle.machine_firing.specs.Fire.{fired_at}
use Rattle.machine_calls.specs.Calls.{size_in, standing, fired, ran}
use Rattle.machine_calls.specs.CallLaws.{fired-refused, ran-refused}
use Rattle.machine_rounds.specs.Rounds.{ran_rounds}
use Rattle.machine_rounds.specs.RoundLaws.{rounds-refused}
use Rattle.machine_rounds.specs.Turns.{Turns, RoundsMade}
use Rattle.machine_rounds.specs.Counted.{rounds-count}
use Rattle.demand_view.specs.Sound.{Ith, Sound}
use Rattle.demand_view.specs.Stands.{Stands}
use Rattle.demand_view.proofs.Operators.{ith-there}
use Rattle.demand_view.specs.FiredHistory.{Fires-in-memory}
use Rattle.demand_view.proofs.FiredHistory.{fired-by-history}
use Rattle.demand_view.proofs.FireCall as Standing
use Rattle.demand_view.proofs.FireCall.{stands-size}
use Rattle.demand_begin.proofs.Positions.{ith-inside}
use Rattle.demand_begin.proofs.Lent.{agree-word, stands-lent, stands-behind, short-refused}
use Rattle.refusals.specs.RunCount.{Firings}
use Rattle.refusals.proofs.RunCount.{run-counts}
use Rattle.machine_start.specs.Start.{started}
use Rattle.demand_begin.proofs.StartedStands.{accepted-stands}
use Rattle.demand.specs.MemoryCalls.{Call, fire, run, by_rounds, answer_of, memory_after, memory_after_all}
use Rattle.demand.specs.Agree.{CallsAgree}
use Rattle.demand.proofs.Agreed.{calls-agree}
use Rattle.demand.proofs.OnMemory.{F as bytes-follow}
use Rattle.machine_start.specs.StartLaws.{AcceptedStart, accepted-start}
use Rattle.demand.specs.ByHistory.{AnyFirings}

-- So many firings by Brock's rule lead from the memory m, in which the links q stand, to the memory n: each finds the links as the one before left them.
abbrev pub Fire-by-history : (g : Made) (kinds : List ℕ) (capacity : ℕ) → ℕ → (m : List ℕ) (q : Links) (n : List ℕ) → Type 0
Fire-by-history g kinds capacity zero m q n = n ≡ m
Fire-by-history g kinds capacity (suc k) m q n =
    (i : ℕ) × (o : Operator) × (next : List ℕ) × Ith g.operators i o × ((f : Fires-in-memory g kinds capacity m q i o next) × Fire-by-history g kinds capacity k next f.after n)

module _ (size n : ℕ) where
  any-then : (a b : ℕ) (m x m' : List ℕ) → AnyFirings size n a m x → AnyFirings size n b x m' → AnyFirings size n (a + b) m m'
  any-then zero b m x m' e u =
      let z : b ≡ 0 + b = omega arith in
      subst (λ (k : ℕ). AnyFirings size n k m m') z (subst (λ (y : List ℕ). AnyFirings size n b y m') e u)
  any-then (suc a) b m x m' (i, inside, able, more) u =
      let z : suc (a + b) ≡ suc a + b = omega arith in
      subst (λ (k : ℕ). AnyFirings size n k m m') z (i, inside, able, any-then a b (fired_at m size i) x m' more u)

  any-run : (k : ℕ) (m m' : List ℕ) → Firings size n k m m' → AnyFirings size n k m m'
  any-run zero m m' e = e
  any-run (suc k) m m' (i, inside, able, quiet, more) = (i, inside, able, any-run k (fired_at m size i) m' more)

  any-turns : (i f : ℕ) (m m' : List ℕ) → Turns size n i f m m' → AnyFirings size n f m m'
  any-turns i zero m m' t = t.0
  any-turns i (suc f) m m' (j, from, inside, able, passed, more) = (j, inside, able, any-turns (suc j) f (fired_at m size j) m' more)

  any-rounds : (r f : ℕ) (m m' : List ℕ) → RoundsMade size n r f m m' → AnyFirings size n f m m'
  any-rounds zero f m m' t = subst (λ (k : ℕ). AnyFirings size n k m m') (sym t.0) t.1
  any-rounds (suc r) f m m' (g, h, x, sum, round, more) =
      subst (λ (k : ℕ). AnyFirings size n k m m') (sym sum) (any-then g h m x m' (any-turns 0 g m x round.turns) (any-rounds r h x m' more))

-- ---- by Brock's rule
module _ (g : Made) (S : Sound g) (kinds : List ℕ) (capacity : ℕ) (low : 1 ≤ capacity) (high : capacity ≤ 16) (rest : List ℕ) where
  -- A firing in the part of the memory that a call was lent is one in the whole.
  fires-behind : (m : List ℕ) (q : Links) → Stands g kinds capacity m q → (i : ℕ) (o : Operator) → Ith g.operators i o → (n : List ℕ)
      → Fires-in-memory g kinds capacity m q i o n → Fires-in-memory g kinds capacity (m ++ rest) q i o (n ++ rest)
  fires-behind m q H i o at n f =
      let inside = ith-inside g.operators i o at in
      record {
        register = f.register;
        stored-register =
            agree-word (need (size_of capacity)) m (m ++ rest) (λ j l. get_or-append m rest 0 j (omega (arith, H.long))) (register_at i) (omega (arith, S.few-operators))
            ∙ f.stored-register;
        after = f.after;
        stands = stands-behind g S kinds capacity n f.after f.stands rest;
        by-history = f.by-history;
      }

  firings-behind : (k : ℕ) (m : List ℕ) (q : Links) → Stands g kinds capacity m q → (n : List ℕ) → AnyFirings (size_of capacity) (length g.operators) k m n
      → Fire-by-history g kinds capacity k (m ++ rest) q (n ++ rest)
  unfolding fires-behind
  firings-behind zero m q H n e = ap (λ (z : List ℕ). z ++ rest) e
  firings-behind (suc k) m q H n (i, inside, able, more) =
      let w = ith-there g.operators i inside in
      let f = fired-by-history g S kinds capacity m q H i w.0 w.1 low able in (
        i,
        w.0,
        fired_at m (size_of capacity) i ++ rest,
        w.1,
        (
          fires-behind m q H i w.0 w.1 (fired_at m (size_of capacity) i) f,
          firings-behind k (fired_at m (size_of capacity) i) f.after f.stands n more,
        ),
      )

module _ (sheet line : List ℕ) (capacity : ℕ) (memory : List ℕ) (h : (started sheet line capacity memory).answer.refusal ≡ 0) (calls : List Call) where
  abbrev graph : Made
  graph = made_of (formula_of sheet)

  abbrev kinds : List ℕ
  kinds = letters_of (formula_of sheet) line

  abbrev now : List ℕ
  now = memory_after_all calls (started sheet line capacity memory).mem

  begun : AcceptedStart sheet line capacity memory
  begun = accepted-start sheet line capacity memory h

  agree : CallsAgree (formula_of sheet) kinds capacity
  agree = calls-agree sheet begun.admissible kinds capacity begun.some begun.most

  -- After the calls the memory holds the machine of the sheet, with some tokens on its links.
  pub machine-stands : (q : Links) × Stands (made_of (formula_of sheet)) (letters_of (formula_of sheet) line) capacity (memory_after_all calls (started sheet line capacity memory).mem) q
  machine-stands =
      let F = bytes-follow sheet line begun.admissible begun.kinded capacity begun.some begun.most agree (started sheet line capacity memory).mem (accepted-stands sheet line capacity memory h) calls in
      (_, F.stands)

  module _ (q : Links) (H : Stands graph kinds capacity now q) (lent : ℕ) where
    abbrev lentPart : List ℕ
    lentPart = first_of lent now

    abbrev behind : List ℕ
    behind = drop lent now

    too-little : lent < need (size_of capacity) → standing lentPart ≡ number_of Memory
    too-little l = short-refused graph kinds capacity now q begun.some begun.most H lent l

    enough : need (size_of capacity) ≤ lent → Stands graph kinds capacity lentPart q
    enough l = stands-lent graph agree.sound kinds capacity now q H lent l

    -- AN ACCEPTED FIRE.
    pub fire-by-history : (i : ℕ) → (answer_of (fire lent i) now).refusal ≡ 0
        → (o : Operator) × Ith graph.operators i o × Fires-in-memory graph kinds capacity now q i o (memory_after (fire lent i) now)
    unfolding answer_of memory_after
    fire-by-history i z = go (dec_lt lent (need (size_of capacity)))
      where
        go : Dec (lent < need (size_of capacity))
            → (o : Operator) × Ith graph.operators i o × Fires-in-memory graph kinds capacity now q i o ((fired lentPart i).mem ++ behind)
        go (yes l) =
            let st = too-little l in
            let e : (fired lentPart i).answer.refusal ≡ standing lentPart = ap (λ o. o.answer.refusal) (fired-refused lentPart i (λ w. absurd (omega (arith, st, w)))) in
            absurd (omega (arith, e, st, z))
        go (no l) =
            let L = enough (omega arith) in
            let f = Standing.fire-by-history graph agree.sound kinds capacity begun.some begun.most lentPart q L i z in (
              f.0,
              f.1,
              subst (λ (m : List ℕ). Fires-in-memory graph kinds capacity m q i f.0 ((fired lentPart i).mem ++ behind)) (take-append-drop lent now)
                  (fires-behind graph agree.sound kinds capacity begun.some begun.most behind lentPart q L i f.0 f.1 (fired lentPart i).mem f.2),
            )

    -- Firings in the lent part are firings by his rule in the whole memory.
    made-by-history : need (size_of capacity) ≤ lent → (k : ℕ) (n : List ℕ) → AnyFirings (size_in lentPart) (operators_of lentPart) k lentPart n
        → Fire-by-history graph kinds capacity k now q (n ++ behind)
    made-by-history l k n f =
        let L = enough l in
        let s = stands-size graph agree.sound kinds capacity begun.some begun.most lentPart q L in
        let f' : AnyFirings (size_of capacity) (length graph.operators) k lentPart n
        = subst (λ (c : ℕ). AnyFirings (size_of capacity) c k lentPart n) L.operators-are
        (subst (λ (z : ℕ). AnyFirings z (operators_of lentPart) k lentPart n) s f) in
        subst (λ (m : List ℕ). Fire-by-history graph kinds capacity k m q (n ++ behind)) (take-append-drop lent now)
        (firings-behind graph agree.sound kinds capacity begun.some begun.most behind k lentPart q L n f')

    -- EVERY RUN, refused ones included: it makes the firings that it counts.
    pub run-by-history : (firings : ℕ) → Fire-by-history graph kinds capacity (answer_of (run lent firings) now).count now q (memory_after (run lent firings) now)
    unfolding answer_of memory_after
    run-by-history firings = go (dec_lt lent (need (size_of capacity)))
      where
        go : Dec (lent < need (size_of capacity)) → Fire-by-history graph kinds capacity (ran lentPart firings).answer.count now q ((ran lentPart firings).mem ++ behind)
        go (yes l) =
            let st = too-little l in
            rw (ran-refused lentPart firings (λ w. absurd (omega (arith, st, w)))) (take-append-drop lent now)
        go (no l) =
            let C = run-counts lentPart firings (agree.good lentPart q (enough (omega arith))) in
            made-by-history (omega arith) (ran lentPart firings).answer.count (ran lentPart firings).mem
            (any-run (size_in lentPart) (operators_of lentPart) (ran lentPart firings).answer.count lentPart (ran lentPart firings).mem C.between)

    -- EVERY RUN BY ROUNDS, refused ones included: it makes the firings that it gives.
    pub rounds-by-history : (rounds : ℕ)
        → Fire-by-history graph kinds capacity (ran_rounds (first_of lent now) rounds).answer.firings now q (memory_after (by_rounds lent rounds) now)
    unfolding memory_after
    rounds-by-history rounds = go (dec_lt lent (need (size_of capacity)))
      where
        go : Dec (lent < need (size_of capacity))
            → Fire-by-history graph kinds capacity (ran_rounds lentPart rounds).answer.firings now q ((ran_rounds lentPart rounds).mem ++ behind)
        go (yes l) =
            let st = too-little l in
            rw (rounds-refused lentPart rounds (λ w. absurd (omega (arith, st, w)))) (take-append-drop lent now)
        go (no l) =
            let a = (ran_rounds lentPart rounds).answer in
            let C = rounds-count lentPart rounds (agree.good lentPart q (enough (omega arith))) in
            made-by-history (omega arith) a.firings (ran_rounds lentPart rounds).mem
            (any-rounds (size_in lentPart) (operators_of lentPart) a.rounds a.firings lentPart (ran_rounds lentPart rounds).mem C.between)
