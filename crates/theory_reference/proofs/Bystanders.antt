-- Laws of specs/Bystanders.antt, and what only they need.
use Rattle.std.specs.Prelude.{ℕ, ◌<◌, ◌≤◌, ◌≡◌, refl, List, [], ◌∷◌, ◌++◌, length}
use Rattle.std.proofs.Common.{sym, ◌∙◌, ap, subst, length-append, arith}
use Rattle.std.proofs.Math.Decide.{ℕ_discrete}
use Rattle.network.specs.Net.{Token, Demand, ask, fire, halt, Links, head, pop, append, Room, Able, appends, act}
use Rattle.network.proofs.Net.{pop-shortens, append-same, append-other}
use Rattle.theory_pieces.specs.Load.{set_link}
use Rattle.theory_pieces.specs.Goes.{Net, one_place}
use Rattle.theory_pieces.proofs.Goes.{Feasible, led-to, Steps, Long}
use Rattle.theory_pieces.proofs.Tape.{able-set, act-set}
use Rattle.theory_reference.specs.Bystanders.{Unused, Single}

module _ (net : ℕ → Demand) (l : ℕ) (U : Unused net l) (x : List Token) where
  feasible-beside : (w : List ℕ) (q : Links) → Feasible net w q → Feasible net w (set_link l x q) × (led-to net w (set_link l x q) ≡ set_link l x (led-to net w q))
  feasible-beside [] q f = (tt, refl)
  feasible-beside (a ∷ w) q f =
      let e : act (net a) (set_link l x q) ≡ set_link l x (act (net a) q) = act-set one_place l x (net a) q (U.asks a) (U.emits a) in
      let h = feasible-beside w (act (net a) q) f.1 in
      ((able-set one_place l x (net a) q (U.asks a) (U.emits a) f.0, subst (Feasible net w) (sym e) h.0), ap (led-to net w) e ∙ h.1)

module _ (net : Net) (l : ℕ) (U : Unused net.at l) (x : List Token) where
  pub steps-beside : (q q' : Links) (c : ℕ) → Steps net q c q' → Steps net (set_link l x q) c (set_link l x q')
  steps-beside q q' c s =
      let h = feasible-beside net.at l U x s.w q s.runs in
      record { w = s.w; runs = h.0; ends = h.1 ∙ ap (set_link l x) s.ends; many = s.many; fine = s.fine }

  pub long-beside : (q : Links) (c : ℕ) → Long net q c → Long net (set_link l x q) c
  long-beside q c s = record { w = s.w; runs = (feasible-beside net.at l U x s.w q s.runs).0; many = s.many; fine = s.fine }

pop-single : (m : ℕ) (q : Links) → Single q → Single (pop m q)
pop-single m q h l = omega (arith, h l, pop-shortens m l q)

append-single : (m : ℕ) (t : Token) (q : Links) → length (q m) < 1 → Single q → Single (append m t q)
append-single m t q r h l = go (ℕ_discrete l m)
  where
    go : Dec (l ≡ m) → length (append m t q l) ≤ 1
    go (yes e) =
        let a : length (append m t q l) ≡ length (q m ++ (t ∷ [])) = ap (λ z. length (append m t q z)) e ∙ ap length (append-same m t q) in
        let b = length-append (q m) (t ∷ []) in
        omega arith
    go (no n) = let a : length (append m t q l) ≡ length (q l) = ap length (append-other m l t q n) in omega (arith, h l)

appends-single : (es : List (ℕ × Token)) (q : Links) → Room one_place es q → Single q → Single (appends es q)
appends-single [] q r h = h
appends-single (e ∷ es) q r h = appends-single es (append e.0 e.1 q) r.1 (append-single e.0 e.1 q r.0 h)

act-single : (d : Demand) (q : Links) → Able one_place d q → Single q → Single (act d q)
act-single (ask m k) q o h = act-single (k (head (q m))) (pop m q) o.1 (pop-single m q h)
act-single (fire es r) q o h = appends-single es q o h
act-single halt q o h = h

led-single : (net : ℕ → Demand) (w : List ℕ) (q : Links) → Feasible net w q → Single q → Single (led-to net w q)
led-single net [] q f h = h
led-single net (a ∷ w) q f h = led-single net w (act (net a) q) f.1 (act-single (net a) q f.0 h)

pub steps-single : (net : Net) (q q' : Links) (c : ℕ) → Steps net q c q' → Single q → Single q'
steps-single net q q' c s h = subst Single s.ends (led-single net.at s.w q s.runs h)
