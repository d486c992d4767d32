-- Laws of specs/Verdicts.antt, and what only they need.
use Rattle.std.specs.Prelude.{ℕ, ◌↔◌, Ok, Err}
use Rattle.std.proofs.Math.Path.{◌≡◌, refl, sym, ap}
use Rattle.std.proofs.Common.{◌∙◌, arith}
use mathlib.Core.List.{List, [], ◌∷◌, ◌++◌}
use Rattle.formula.specs.Results.{Check, Verdict, refused}
use Rattle.formula.proofs.Results.{same-refusal, same-row}
use Rattle.formula.specs.declared.Refusal.{Refusal}
use Rattle.formula.specs.Tests.{Sheet, Test, after_check, verdict_by}
use Rattle.formula.specs.Verdicts.{Each, Passes, FaultSays, then}

module _ (x : Sheet) where
  after-passed : (r : Refusal) (c : Check) (later : Verdict) → after_check r c later ≡ Ok tt → (c ≡ Ok tt) × (later ≡ Ok tt)
  unfolding after_check
  after-passed r (Ok _) later h = (refl, h)
  after-passed r (Err row) later h = absurd (let z : ◌≡◌ {A = ℕ} 0 1 = cc h in omega arith)

  passed-all : (ts : List Test) → verdict_by ts x ≡ Ok tt → Each (Passes x) ts
  unfolding verdict_by
  passed-all [] h = tt
  passed-all (t ∷ ts) h = let a = after-passed t.refusal (t.check x) (verdict_by ts x) h in (a.0, passed-all ts a.1)

  all-passed : (ts : List Test) → Each (Passes x) ts → verdict_by ts x ≡ Ok tt
  unfolding verdict_by after_check
  all-passed [] h = refl
  all-passed (t ∷ ts) h = ap (λ (c : Check). after_check t.refusal c (verdict_by ts x)) h.0 ∙ all-passed ts h.1

  pub all_pass : (ts : List Test) → (verdict_by ts x ≡ Ok tt) ↔ Each (Passes x) ts
  all_pass ts = (passed-all ts, all-passed ts)

  -- Tests behind others are looked at where those have passed.
  pub then-behind : (ts us : List Test) → verdict_by (ts ++ us) x ≡ then (verdict_by ts x) (verdict_by us x)
  unfolding verdict_by after_check
  then-behind [] us = refl
  then-behind (t ∷ ts) us = go (t.check x) (then-behind ts us)
    where
      go : (c : Check) → verdict_by (ts ++ us) x ≡ then (verdict_by ts x) (verdict_by us x)
          → after_check t.refusal c (verdict_by (ts ++ us) x) ≡ then (after_check t.refusal c (verdict_by ts x)) (verdict_by us x)
      go (Ok _) ih = ih
      go (Err row) ih = refl

  -- What each fault says, the refusal says.
  pub refusal-says : (Says : Refusal → ℕ → Type 0) (ts : List Test) → Each (FaultSays Says x) ts → (r : Refusal) (row : ℕ) → verdict_by ts x ≡ refused r row → Says r row
  unfolding verdict_by after_check
  refusal-says Says [] h r row e = absurd (let z : ◌≡◌ {A = ℕ} 0 1 = cc e in omega arith)
  refusal-says Says (t ∷ ts) h r row e = go (t.check x) refl e (refusal-says Says ts h.1 r row)
    where
      go : (c : Check) → t.check x ≡ c → after_check t.refusal c (verdict_by ts x) ≡ refused r row → (verdict_by ts x ≡ refused r row → Says r row) → Says r row
      go (Ok _) p q ih = ih q
      go (Err k) p q ih =
          let a : t.refusal ≡ r = same-refusal _ _ _ _ q in
          let b : k ≡ row = same-row _ _ _ _ q in
          rw (sym a, sym b) (h.0 k p)

  -- The same where the later tests rest on the first, which have then passed.
  pub later-says : (Says : Refusal → ℕ → Type 0) (ts us : List Test) → Each (FaultSays Says x) ts → (Each (Passes x) ts → Each (FaultSays Says x) us)
      → (r : Refusal) (row : ℕ) → verdict_by (ts ++ us) x ≡ refused r row → Says r row
  later-says Says ts us h later r row e = go (verdict_by ts x) refl (sym (then-behind ts us) ∙ e)
    where
      go : (v : Verdict) → verdict_by ts x ≡ v → then v (verdict_by us x) ≡ refused r row → Says r row
      go (Ok _) p q = refusal-says Says us (later (passed-all ts p)) r row q
      go (Err why) p q = refusal-says Says ts h r row (p ∙ q)
