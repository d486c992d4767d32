-- The count of untaken sets: byte 7 of the memory (machine_layout/specs/Layout) is the length of the credit link (theory_verdicts/specs/Running). Setting the byte
-- stands with one token more or less on that link, and with nothing else. Document 01, "32 sixteen sets untaken", "35 .. no set untaken". Assumes
-- the bounds of `Sound`.
use Rattle.std.specs.Prelude.{ℕ, zero, suc, ◌+◌, ◌≤◌, ◌<◌, ◌≡◌, refl, ◌≢◌, Bool, true, false, List, [], ◌∷◌, ◌++◌, length, take, set}
use Rattle.std.proofs.Common.{sym, ap, subst, ◌∙◌, inl, arith, length-set, get_or-set_same, get_or-set_other, drop-set-lt}
use Rattle.std.proofs.Math.Option.{Option, none, some}
use Rattle.network.specs.Rules.{Register}
use Rattle.network.specs.Net.{Links}
use Rattle.network.specs.Uses.{In}
use Rattle.network.specs.Fill.{remembering}
use Rattle.network.specs.Firing.{Holds}
use Rattle.machine_layout.specs.Layout.{register_at, link_at, size_of}
use Rattle.machine_firing.specs.LinkLaws.{link_part}
use Rattle.graph.specs.Assembly.{Operator}
use Rattle.graph.specs.Translation.{Made}
use Rattle.theory_reference.specs.Plugged.{nowhere, registers, link-of, ports_of}
use Rattle.theory_wiring.specs.Links.{optional}
use Rattle.theory_wiring.specs.Wiring.{outputs_at}
use Rattle.theory_verdicts.specs.Owed.{credit_link}
use Rattle.demand_view.specs.Sound.{Ith, Sound}
use Rattle.demand_view.specs.Stands.{Waits, Registered, Stands}
use Rattle.demand_view.proofs.Waits.{word-agrees}
use Rattle.demand_view.proofs.Frame.{stands-changed}

-- ---- no register lies on the credit link
first-output : (os : List Operator) (i : ℕ) (o : Operator) → Ith os i o → (l : ℕ) → o.out1 ≡ some l → In l (outputs_at os i)
unfolding outputs_at
first-output [] i o h l e = absurd h
first-output (x ∷ os) zero o h l e = subst (λ (y : Option ℕ). In l (optional y ++ (optional x.out2 ++ optional x.out3))) (sym (ap (λ (y : Operator). y.out1) h ∙ e)) (inl refl)
first-output (x ∷ os) (suc i) o h l e = first-output os i o h l e

module _ (g : Made) (S : Sound g) where
  register-near : (i : ℕ) (o : Operator) → Ith g.operators i o → registers + link-of o.out1 < credit_link
  register-near i o h = go o.out1 refl
    where
      go : (y : Option ℕ) → o.out1 ≡ y → registers + link-of y < credit_link
      go none e = omega arith
      go (some l) e =
          let b : l < g.links = (S.wired.puts-below i l (first-output g.operators i o h l e)).1 in
          omega (arith, S.few-links)

  module _ (kinds : List ℕ) (capacity : ℕ) (m : List ℕ) (q : Links) (H : Stands g kinds capacity m q) where
    part_same : (n l : ℕ) → link_part (set m 7 n) (size_of capacity) l ≡ link_part m (size_of capacity) l
    part_same n l = ap (take (size_of capacity)) (drop-set-lt (link_at (size_of capacity) l) m 7 n (omega arith))

    -- The byte set, and the credit link with it.
    pub stands-untaken : (n : ℕ) (r : Links) → ((l : ℕ) → l ≢ credit_link → r l ≡ q l) → length (r credit_link) ≡ n → n ≤ 16 → Stands g kinds capacity (set m 7 n) r
    stands-untaken n r same count few =
        stands-changed g S kinds capacity m q H (set m 7 n) r (length-set m 7 n) (λ at h a. get_or-set_other m 7 at n 0 a)
        (get_or-set_same m 7 n 0 (omega (arith, H.long)) ∙ sym count) (omega (arith, count)) registered
        (λ l h. subst (λ (s : List ℕ). Waits capacity s (r l)) (sym (part_same n l)) (subst (Waits capacity (link_part m (size_of capacity) l)) (sym (same l (λ e. omega (arith, S.few-links)))) (H.waits l h)))
        (same nowhere (λ e. omega arith) ∙ H.nowhere-empty)
      where
        held : (b : Bool) (o : Operator) (x : Register) → registers + link-of o.out1 < credit_link → Holds b (ports_of o) q x → Holds b (ports_of o) r x
        held true o x near h = same (registers + link-of o.out1) (λ e. omega arith) ∙ h
        held false o x near h = h

        registered : (i : ℕ) (o : Operator) → Ith g.operators i o → Registered (set m 7 n) r i o
        registered i o h =
            let x = H.registered i o h in
            record {
              register = x.register;
              fine = x.fine;
              word = word-agrees (set m 7 n) m (register_at i) (register_at i) (λ j l. get_or-set_other m 7 (register_at i + j) n 0 (λ e. omega arith)) ∙ x.word;
              held = held (remembering o.kind) o x.register (register-near i o h) x.held;
            }
