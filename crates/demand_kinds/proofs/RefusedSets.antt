-- "Sets with another kind are refused with 12" (document 02, Job 6), of a machine: after every list of calls from an accepted start, push gives 12 for just the sets
-- that evaluation gives it for: those that are not one value an input, each of its letter's kind or an err. Assumes an accepted start, and a push that is lent what a
-- machine needs.
use Rattle.std.specs.Prelude.{ℕ, ◌≤◌, ◌≡◌, refl, ◌↔◌, Bool, true, false, ltb, take as first_of}
use Rattle.std.proofs.Common.{sym, ap, subst, ◌∙◌, arith}
use mathlib.Core.List.{List}
use Rattle.std.proofs.Math.Option.{none}
use Rattle.formula.specs.declared.Refusal.TheVariants.{Set}
use Rattle.formula.specs.Refusals.{number_of}
use Rattle.formula.specs.Tree.{formula_of}
use Rattle.formula.specs.Faults.{letters_of}
use Rattle.value_sets.specs.Sets.{set_values, set_ok}
use Rattle.value_sets.proofs.Sets.{no-set}
use Rattle.machine_layout.specs.Layout.{inputs_of, untaken_of, size_of, need, stored_kinds}
use Rattle.machine_calls.specs.Calls.{Outcome, size_in, standing, rooms_ok, pushed}
use Rattle.machine_calls.specs.CallLaws.{pushed-no-set, pushed-untaken, pushed-full, pushed-accepted}
use Rattle.graph.specs.Translation.{made_of}
use Rattle.demand_begin.proofs.MadeSound.{made-sound}
use Rattle.demand_begin.proofs.Lent.{stands-lent}
use Rattle.demand_begin.proofs.StandsValid.{stands-well}
use Rattle.machine_start.specs.Start.{started}
use Rattle.machine_start.specs.StartLaws.{AcceptedStart, accepted-start}
use Rattle.demand.specs.MemoryCalls.{Call, push, answer_of, memory_after_all}
use Rattle.demand.proofs.ByHistory.{machine-stands}

module _ (m : List ℕ) (st : standing m ≡ 0) (set : List ℕ) where
  abbrev answered : ℕ
  answered = (pushed m set).answer.refusal

  told : (o : Outcome) → pushed m set ≡ o → answered ≡ o.answer.refusal
  told o e = ap (λ (z : Outcome). z.answer.refusal) e

  -- Behind 11 and 31, push's 12 is the set's test.
  twelve : (answered ≡ number_of Set) ↔ (set_ok (stored_kinds m) set ≡ false)
  twelve = (λ h. go (set_ok (stored_kinds m) set) refl (ltb (untaken_of m) 16) refl (rooms_ok m (size_in m) (inputs_of m)) refl h, λ e. told _ (pushed-no-set m st set e))
    where
      go : (a : Bool) → set_ok (stored_kinds m) set ≡ a → (b : Bool) → ltb (untaken_of m) 16 ≡ b → (c : Bool) → rooms_ok m (size_in m) (inputs_of m) ≡ c
          → answered ≡ number_of Set → set_ok (stored_kinds m) set ≡ false
      go false a b e c f h = a
      go true a false e c f h = absurd (let z = sym h ∙ told _ (pushed-untaken m st set a e) in omega arith)
      go true a true e false f h = absurd (let z = sym h ∙ told _ (pushed-full m st set a e f) in omega arith)
      go true a true e true f h = absurd (let z = sym h ∙ told _ (pushed-accepted m st set a e f) in omega arith)

no-values : (kinds set : List ℕ) → set_values kinds set ≡ none → set_ok kinds set ≡ false
unfolding set_ok
no-values kinds set e = rw e refl

module _ (sheet line : List ℕ) (capacity : ℕ) (memory : List ℕ) (h : (started sheet line capacity memory).answer.refusal ≡ 0) (calls : List Call) where
  abbrev kinds : List ℕ
  kinds = letters_of (formula_of sheet) line

  abbrev now : List ℕ
  now = memory_after_all calls (started sheet line capacity memory).mem

  begun : AcceptedStart sheet line capacity memory
  begun = accepted-start sheet line capacity memory h

  -- 12 EXACTLY for the sets that evaluation refuses with it.
  pub twelve-exactly : (lent : ℕ) → need (size_of capacity) ≤ lent → (set : List ℕ) → ((answer_of (push lent set) now).refusal ≡ number_of Set) ↔ (set_values kinds set ≡ none)
  unfolding answer_of
  twelve-exactly lent enough set =
      let S = made-sound sheet begun.admissible in
      let stood = machine-stands sheet line capacity memory h calls in
      let L = stands-lent (made_of (formula_of sheet)) S kinds capacity now stood.0 stood.1 lent enough in
      let t = twelve (first_of lent now) (stands-well (made_of (formula_of sheet)) S kinds capacity begun.some begun.most (first_of lent now) stood.0 L) set in (
        λ e. no-set kinds set (subst (λ (ks : List ℕ). set_ok ks set ≡ false) L.kinds-are (t.0 e)),
        λ e. t.1 (subst (λ (ks : List ℕ). set_ok ks set ≡ false) (sym L.kinds-are) (no-values kinds set e)),
      )
