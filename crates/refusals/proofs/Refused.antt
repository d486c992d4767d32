-- Laws of specs/Refused.antt, and what only they need.
use Rattle.std.specs.Prelude.{ℕ, ◌≡◌, refl, ◌⊎◌, ◌≢◌, ◌↔◌, List, [], ◌∷◌}
use Rattle.std.proofs.Common.{sym, ◌∙◌, subst, inl, inr}
use Rattle.formula.specs.declared.Refusal.{Refusal}
use Rattle.formula.specs.Refusals.{number_of}
use Rattle.machine_calls.specs.Calls.{ran}
use Rattle.machine_rounds.specs.Rounds.{ran_rounds}
use Rattle.machine_tray.specs.Tray.{trayed}
use Rattle.machine_log.specs.Checked.{checked}
use Rattle.refusals.specs.FirstRefusal.{first-refusal, Named, Among, numbers, NoneHolds, FirstHolds}
use Rattle.refusals.proofs.FirstRefusal.{accepted-exactly, refused-exactly, first-among, first-named}
use Rattle.machine_tags.specs.TagCalls.{tag_ran}
use Rattle.refusals.proofs.Exact.{push-exact, fire-exact, run-exact, rounds-exact, take_exact, read-exact, start-exact, evaluate-exact}
use Rattle.refusals.proofs.TrayExact.{tray-exact, tray-numbers}
use Rattle.refusals.proofs.LogExact.{log-exact}
use Rattle.refusals.proofs.LogRows.{log-row}
use Rattle.refusals.proofs.TidyRefused.{tidy-exact, tidy-keeps}
use Rattle.refusals.proofs.DriftRefused.{drift-exact, drift-keeps}
use Rattle.refusals.proofs.NextRefused.{next-exact, next-keeps}
use Rattle.refusals.specs.Kept.{UsedUpFirings, UsedUpRounds, RoundsLeave, SetRefused}
use Rattle.refusals.proofs.Kept.{read_keeps, start-keeps, push-keeps, tray-keeps, fire-keeps, run-keeps, rounds-keeps, take-keeps, evaluate-keeps}
use Rattle.refusals.specs.TaggedRefused.{UsedUpTagged}
use Rattle.refusals.proofs.TaggedRefused.{tagged-start-exact, tagged-push-exact, tagged-fire-exact, tagged-run-exact, tagged-take-exact, tagged-start-keeps, tagged-push-keeps, tagged-fire-keeps, tagged-run-keeps, tagged-take-keeps}
use Rattle.refusals.specs.LogKept.{AsEarlierLines, LogLeaves}
use Rattle.refusals.proofs.LogKept.{log-keeps}
use Rattle.refusals.specs.Refused.{Call, read, tidy, drift, next_sheet, start, push, tray, fire, run, rounds, take, evaluate, check_log, tagged_start, tagged_push, tagged_fire, tagged_run, tagged_take, refusal_of, counts_of, lent, handed-back, table_of, numbers_of, AllZero, Excepted, RowSaid, RefusedCall}

-- Demand 2's last sentence for every call: its refusal is the first of its table.
pub call-exact : (c : Call) → refusal_of c ≡ first-refusal (table_of c)
unfolding refusal_of table_of
call-exact (read sheet line) = read-exact sheet line
call-exact (tidy sheet out) = tidy-exact sheet out
call-exact (drift sheet line tolerances out) = drift-exact sheet line tolerances out
call-exact (next_sheet sheet out) = next-exact sheet out
call-exact (start sheet line capacity m) = start-exact sheet line capacity m
call-exact (push m set) = push-exact m set
call-exact (tray m sets number) = tray-exact m sets number
call-exact (fire m operator) = fire-exact m operator
call-exact (run m firings) = run-exact m firings
call-exact (rounds m number) = rounds-exact m number
call-exact (take m out) = take_exact m out
call-exact (evaluate sheet line set number out) = evaluate-exact sheet line set number out
call-exact (check_log sheet line capacity sets number log m out) = log-exact sheet line capacity sets number log m out
call-exact (tagged_start sheet line m) = tagged-start-exact sheet line m
call-exact (tagged_push m set) = tagged-push-exact m set
call-exact (tagged_fire m operator tag) = tagged-fire-exact m operator tag
call-exact (tagged_run m firings) = tagged-run-exact m firings
call-exact (tagged_take m tag out) = tagged-take-exact m tag out

-- Accepted exactly where no condition of its table holds; refused with a number exactly where that number's condition is the first that holds.
pub call-accepted : (c : Call) → (refusal_of c ≡ 0) ↔ NoneHolds (table_of c)
call-accepted c = let i = accepted-exactly (table_of c) in (λ h. i.0 (sym (call-exact c) ∙ h), λ h. call-exact c ∙ i.1 h)

pub call-refused : (c : Call) (r : Refusal) → (refusal_of c ≡ number_of r) ↔ FirstHolds (number_of r) (table_of c)
call-refused c r = let i = refused-exactly (table_of c) r in (λ h. i.0 (sym (call-exact c) ∙ h), λ h. call-exact c ∙ i.1 h)

table-numbers : (c : Call) (n : ℕ) → Among n (numbers (table_of c)) → Among n (numbers_of c)
unfolding table_of numbers_of
table-numbers (read sheet line) n a = a
table-numbers (tidy sheet out) n a = a
table-numbers (drift sheet line tolerances out) n a = a
table-numbers (next_sheet sheet out) n a = a
table-numbers (start sheet line capacity m) n a = a
table-numbers (push m set) n a = a
table-numbers (tray m sets number) n a = tray-numbers m sets number n a
table-numbers (fire m operator) n a = a
table-numbers (run m firings) n a = a
table-numbers (rounds m number) n a = a
table-numbers (take m out) n (inl e) = inl e
table-numbers (take m out) n (inr a) = a
table-numbers (evaluate sheet line set number out) n a = a
table-numbers (check_log sheet line capacity sets number log m out) n (inl e) = inl e
table-numbers (check_log sheet line capacity sets number log m out) n (inr a) = a
table-numbers (tagged_start sheet line m) n a = a
table-numbers (tagged_push m set) n a = a
table-numbers (tagged_fire m operator tag) n a = a
table-numbers (tagged_run m firings) n a = a
table-numbers (tagged_take m tag out) n (inl e) = inl e
table-numbers (tagged_take m tag out) n (inr a) = a

one : {m m' : List ℕ} → m' ≡ m → ◌≡◌ {A = List (List ℕ)} (m' ∷ []) (m ∷ [])
one e = λ i. e i ∷ []

two : {m m' o o' : List ℕ} → m' ≡ m → o' ≡ o → ◌≡◌ {A = List (List ℕ)} (m' ∷ o' ∷ []) (m ∷ o ∷ [])
two e f = λ i. e i ∷ f i ∷ []

row-said : (c : Call) → refusal_of c ≢ 0 → RowSaid c
unfolding refusal_of
row-said (read sheet line) h = (read_keeps sheet line h).0
row-said (tidy sheet out) h = (tidy-keeps sheet out h).0
row-said (drift sheet line tolerances out) h = (drift-keeps sheet line tolerances out h).0
row-said (next_sheet sheet out) h = (next-keeps sheet out h).0
row-said (start sheet line capacity m) h = (start-keeps sheet line capacity m h).0
row-said (push m set) h = tt
row-said (tray m sets number) h = tt
row-said (fire m operator) h = tt
row-said (run m firings) h = tt
row-said (rounds m number) h = tt
row-said (take m out) h = tt
row-said (evaluate sheet line set number out) h = (evaluate-keeps sheet line set number out h).0
row-said (check_log sheet line capacity sets number log m out) h = log-row sheet line capacity sets number log m out h
row-said (tagged_start sheet line m) h = (tagged-start-keeps sheet line m h).0
row-said (tagged_push m set) h = tt
row-said (tagged_fire m operator tag) h = tt
row-said (tagged_run m firings) h = tt
row-said (tagged_take m tag out) h = tt

bytes_back : (c : Call) → refusal_of c ≢ 0 → ((handed-back c ≡ lent c) × AllZero (counts_of c)) ⊎ Excepted c
unfolding refusal_of handed-back lent counts_of
bytes_back (read sheet line) h = let k = read_keeps sheet line h in inl (refl, (k.1, (k.2, (k.3, (k.4, tt)))))
bytes_back (tidy sheet out) h = let k = tidy-keeps sheet out h in inl (one k.2, (k.1, tt))
bytes_back (drift sheet line tolerances out) h = let k = drift-keeps sheet line tolerances out h in inl (one k.2, (k.1, tt))
bytes_back (next_sheet sheet out) h = let k = next-keeps sheet out h in inl (one k.2, (k.1, tt))
bytes_back (start sheet line capacity m) h = let k = start-keeps sheet line capacity m h in inl (one k.4, (k.1, (k.2, (k.3, tt))))
bytes_back (push m set) h = let k = push-keeps m set h in inl (one k.1, (k.0, tt))
bytes_back (tray m sets number) h = go (tray-keeps m sets number h)
  where
    go : (((trayed m sets number).answer.count ≡ 0) × ((trayed m sets number).mem ≡ m)) ⊎ SetRefused m sets number
        → ((handed-back (tray m sets number) ≡ lent (tray m sets number)) × AllZero (counts_of (tray m sets number))) ⊎ Excepted (tray m sets number)
    go (inl k) = inl (one k.1, (k.0, tt))
    go (inr k) = inr k
bytes_back (fire m operator) h = let k = fire-keeps m operator h in inl (one k.1, (k.0, tt))
bytes_back (run m firings) h = go (run-keeps m firings h)
  where
    go : (((ran m firings).answer.count ≡ 0) × ((ran m firings).mem ≡ m))
        ⊎ UsedUpFirings m firings
        → ((handed-back (run m firings) ≡ lent (run m firings)) × AllZero (counts_of (run m firings))) ⊎ Excepted (run m firings)
    go (inl k) = inl (one k.1, (k.0, tt))
    go (inr k) = inr k
bytes_back (rounds m number) h = go (rounds-keeps m number h)
  where
    go : RoundsLeave m (ran_rounds m number)
        ⊎ UsedUpRounds m number
        → ((handed-back (rounds m number) ≡ lent (rounds m number)) × AllZero (counts_of (rounds m number))) ⊎ Excepted (rounds m number)
    go (inl k) = inl (one k.2, (k.0, (k.1, tt)))
    go (inr k) = inr k
bytes_back (take m out) h = let k = take-keeps m out h in inl (two k.1 k.2, (k.0, tt))
bytes_back (evaluate sheet line set number out) h = let k = evaluate-keeps sheet line set number out h in inl (one k.3, (k.1, (k.2, tt)))
bytes_back (check_log sheet line capacity sets number log m out) h = go (log-keeps sheet line capacity sets number log m out h)
  where
    go : LogLeaves m out (checked sheet line capacity sets number log m out)
        ⊎ AsEarlierLines sheet line capacity sets number log m out
        → ((handed-back (check_log sheet line capacity sets number log m out) ≡ lent (check_log sheet line capacity sets number log m out))
        × AllZero (counts_of (check_log sheet line capacity sets number log m out))) ⊎ Excepted (check_log sheet line capacity sets number log m out)
    go (inl k) = inl (two k.2 k.3, (k.0, (k.1, tt)))
    go (inr k) = inr k
bytes_back (tagged_start sheet line m) h = let k = tagged-start-keeps sheet line m h in inl (one k.4, (k.1, (k.2, (k.3, tt))))
bytes_back (tagged_push m set) h = let k = tagged-push-keeps m set h in inl (one k.1, (k.0, tt))
bytes_back (tagged_fire m operator tag) h = let k = tagged-fire-keeps m operator tag h in inl (one k.1, (k.0, tt))
bytes_back (tagged_run m firings) h = go (tagged-run-keeps m firings h)
  where
    go : (((tag_ran m firings).answer.count ≡ 0) × ((tag_ran m firings).mem ≡ m))
        ⊎ UsedUpTagged m firings
        → ((handed-back (tagged_run m firings) ≡ lent (tagged_run m firings)) × AllZero (counts_of (tagged_run m firings))) ⊎ Excepted (tagged_run m firings)
    go (inl k) = inl (one k.1, (k.0, tt))
    go (inr k) = inr k
bytes_back (tagged_take m tag out) h = let k = tagged-take-keeps m tag out h in inl (two k.1 k.2, (k.0, tt))

pub refused-call : (c : Call) → refusal_of c ≢ 0 → RefusedCall c
refused-call c h =
    let n : first-refusal (table_of c) ≢ 0 = λ e. h (call-exact c ∙ e) in
    record {
      names = subst Named (sym (call-exact c)) (first-named (table_of c) n);
      own = subst (λ (k : ℕ). Among k (numbers_of c)) (sym (call-exact c)) (table-numbers c (first-refusal (table_of c)) (first-among (table_of c) n));
      row = row-said c h;
      back = bytes_back c h;
    }
