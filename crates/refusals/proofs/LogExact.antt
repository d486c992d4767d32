-- Demand 2's last sentence for a log's check: its refusal is the first of its table. Assumes nothing.
use Prim.Native.Nat.{ℕ}
use Rattle.std.specs.Prelude.{◌≡◌, ◌≢◌, Bool, not, ◌&&◌, eqb, ltb, length, Ok, Err}
use Rattle.std.proofs.Math.Path.{refl, sym}
use Rattle.std.proofs.Common.{ap, subst, ◌∙◌, arith, leb-true, leb-false, lt-ltb, le-ltb}
use Rattle.std.proofs.Math.Bool.{true, false}
use mathlib.Core.List.{List, [], ◌∷◌, ◌++◌}
use Rattle.std.proofs.Math.Dec.{leb}
use Rattle.value.specs.Operators.{pick}
use Rattle.formula.specs.declared.Refusal.{Refusal}
use Rattle.formula.specs.declared.Refusal.TheVariants.{Memory, Capacity, Set, LogLine, LogRefused}
use Rattle.formula.specs.Results.{Verdict, refused}
use Rattle.formula.specs.Refusals.{number_of}
use Rattle.formula.proofs.Refusals.{number-positive}
use Rattle.formula.specs.Tree.{formula_of}
use Rattle.formula.specs.Faults.{letters_of}
use Rattle.formula.specs.Widths.{width}
use Rattle.formula.specs.Tests.{whole, after_check, verdict_of}
use Rattle.machine_layout.specs.Layout.{size_of, need, capacity_in}
use Rattle.machine_log.specs.Lines.{log_check}
use Rattle.machine_log.specs.Follow.{Followed}
use Rattle.machine_log.specs.Checked.{set_list, all_sets, room_for, behind, opening, followed_log, told, by_opening, checked}
use Rattle.refusals.specs.FirstRefusal.{Row, first-refusal, Among, numbers}
use Rattle.refusals.proofs.FirstRefusal.{first-among, not-among}
use Rattle.refusals.specs.Conditions.{short-asked, no-room-for, capacity-outside, sheet_table, no-list, line-at-fault, log_table}
use Rattle.refusals.specs.Exact.{number_in}
use Rattle.refusals.proofs.Exact.{check-order, failed-whole, sheet-exact, behind-none, behind-some}

whole-order : (r : Refusal) (b c : Bool) → not b ≡ c → (v : Verdict) (cs : List Row) → number_in v ≡ first-refusal cs
    → number_in (after_check r (whole b) v) ≡ first-refusal ((c, r) ∷ cs)
whole-order r b c e v cs h = check-order r (whole b) v cs h ∙ ap (λ (d : Bool). first-refusal ((d, r) ∷ cs)) (failed-whole b ∙ e)

behind-order : (v w : Verdict) (cs ds : List Row) → number_in v ≡ first-refusal cs → number_in w ≡ first-refusal ds → number_in (behind v w) ≡ first-refusal (cs ++ ds)
unfolding behind
behind-order (Ok _) w cs ds h k = k ∙ sym (behind-none cs ds (sym h))
behind-order (Err why) w cs ds h k = behind-some cs ds (number_of why.refusal) (number-positive why.refusal) h

none-order : number_in (Ok tt) ≡ first-refusal []
unfolding first-refusal
none-order = refl

shorter : (a b : ℕ) → not (leb a b) ≡ ltb b a
shorter a b = go (leb a b) refl
  where
    go : (t : Bool) → leb a b ≡ t → not t ≡ ltb b a
    go true e = sym (le-ltb b a (leb-true a b e))
    go false e = sym (lt-ltb b a (leb-false a b e))

module _ (sheet line : List ℕ) (capacity : ℕ) (sets : List ℕ) (number : ℕ) (log m out : List ℕ) where
  -- The table up to 15.
  abbrev openTable : List Row
  openTable =
      (short-asked capacity m, Memory)
      ∷ (no-room-for log out, Memory)
      ∷ (capacity-outside capacity, Capacity)
      ∷ (sheet_table sheet line ++ ((no-list sheet line sets number, Set) ∷ (line-at-fault number log, LogLine) ∷ []))

  open-exact : number_in (opening sheet line capacity sets number log (length m) (length out)) ≡ first-refusal openTable
  unfolding opening
  open-exact =
      let kinds : List ℕ = letters_of (formula_of sheet) line in
      whole-order Memory (leb (need (size_of (capacity_in capacity))) (length m)) _ (shorter (need (size_of (capacity_in capacity))) (length m)) _ _
      (whole-order Memory (leb (room_for (length log)) (length out)) _ (shorter (room_for (length log)) (length out)) _ _
      (whole-order Capacity (leb 1 capacity && leb capacity 16) _ refl _ _
      (behind-order (verdict_of sheet line) _ (sheet_table sheet line) _ (sheet-exact sheet line)
      (whole-order Set (all_sets kinds (set_list kinds sets number)) _ refl _ _
      (check-order LogLine (log_check number log) (Ok tt) [] none-order)))))

  -- None of these is 16.
  pub not-yet-refused : (r : Refusal) (row : ℕ) → opening sheet line capacity sets number log (length m) (length out) ≡ refused r row → number_of r ≢ number_of LogRefused
  not-yet-refused r row e h =
      let i : first-refusal openTable ≡ number_of LogRefused = sym open-exact ∙ ap number_in e ∙ h in
      not-among 16 (numbers openTable) refl (subst (λ (n : ℕ). Among n (numbers openTable)) i (first-among openTable (λ z. omega (arith, i))))

  told-order : (b : Bool) → pick b 0 (number_of LogRefused) ≡ first-refusal ((not b, LogRefused) ∷ [])
  unfolding first-refusal
  told-order true = refl
  told-order false = refl

  open_order : (v : Verdict) (f : Followed) (w : ℕ) (cs : List Row) → number_in v ≡ first-refusal cs
      → (by_opening v f w m out).answer.refusal ≡ first-refusal (cs ++ ((not (eqb f.line 0), LogRefused) ∷ []))
  unfolding by_opening told
  open_order (Ok _) f w cs h = told-order (eqb f.line 0) ∙ sym (behind-none cs _ (sym h))
  open_order (Err why) f w cs h = behind-some cs _ (number_of why.refusal) (number-positive why.refusal) h

  -- 11, 14, the sheet's, 12, 15, 16
  pub log-exact : (checked sheet line capacity sets number log m out).answer.refusal ≡ first-refusal (log_table sheet line capacity sets number log m out)
  unfolding checked
  log-exact =
      open_order (opening sheet line capacity sets number log (length m) (length out)) (followed_log sheet line capacity sets number log m) (width (formula_of sheet))
      openTable open-exact
