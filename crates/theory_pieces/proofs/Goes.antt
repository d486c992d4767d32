-- Laws of specs/Goes.antt, and what only they need.
use Rattle.std.specs.Prelude.{ℕ, ◌≤◌, ◌+◌, ◌≡◌, refl, List, [], ◌++◌, length}
use Rattle.std.proofs.Common.{sym, ◌∙◌, ap, subst, length-append, arith}
use Rattle.network.specs.Net.{Demand, Links}
use Rattle.network.proofs.Commute.{enabled, next, output}
use Rattle.theory_schedule.proofs.Schedules.{Possible, possible-append, reached-append}
use Rattle.theory_schedule.specs.Schedules.{reached}
use Rattle.theory_pieces.specs.Load.{Load, put, Clear, Off}
use Rattle.theory_pieces.proofs.Load.{put-app, put-clear}
use Rattle.theory_pieces.specs.Goes.{one_place, Net}

module _ (net : ℕ → Demand) where
  -- A schedule that is possible with one place a link, and where it leads.
  abbrev pub Feasible : List ℕ → Links → Type 0
  Feasible = Possible (enabled net one_place) (next net one_place) (output net one_place)

  abbrev pub led-to : List ℕ → Links → Links
  led-to = reached (enabled net one_place) (next net one_place) (output net one_place)

  feasible-append : (u w : List ℕ) (q : Links) → Feasible u q → Feasible w (led-to u q) → Feasible (u ++ w) q
  feasible-append = possible-append (enabled net one_place) (next net one_place) (output net one_place)

  led-to-append : (u w : List ℕ) (q : Links) → led-to (u ++ w) q ≡ led-to w (led-to u q)
  led-to-append = reached-append (enabled net one_place) (next net one_place) (output net one_place)

module _ (net : Net) where
  -- A schedule of at least `c` firings, from one state to exactly another.
  pub record Steps (q : Links) (c : ℕ) (q' : Links) : Type 0 where
    pub w : List ℕ
    pub runs : Feasible net.at w q
    pub ends : led-to net.at w q ≡ q'
    pub many : c ≤ length w
    pub fine : net.Fine w

  -- A schedule of at least `c` firings, wherever it leads.
  pub record Long (q : Links) (c : ℕ) : Type 0 where
    pub w : List ℕ
    pub runs : Feasible net.at w q
    pub many : c ≤ length w
    pub fine : net.Fine w

  pub stay : (q : Links) → Steps q 0 q
  stay q = record { w = []; runs = tt; ends = refl; many = omega arith; fine = net.fine-none }

  pub steps_then : (q q₁ q₂ : Links) (c d : ℕ) → Steps q c q₁ → Steps q₁ d q₂ → Steps q (c + d) q₂
  steps_then q q₁ q₂ c d s t =
      record {
        w = s.w ++ t.w;
        runs = feasible-append net.at s.w t.w q s.runs (subst (Feasible net.at t.w) (sym s.ends) t.runs);
        ends = led-to-append net.at s.w t.w q ∙ ap (led-to net.at t.w) s.ends ∙ t.ends;
        many = simp length-append (omega (arith, s.many, t.many));
        fine = net.fine-both s.w t.w s.fine t.fine;
      }

  pub steps-long : (q q₁ : Links) (c d : ℕ) → Steps q c q₁ → Long q₁ d → Long q (c + d)
  steps-long q q₁ c d s t =
      record {
        w = s.w ++ t.w;
        runs = feasible-append net.at s.w t.w q s.runs (subst (Feasible net.at t.w) (sym s.ends) t.runs);
        many = simp length-append (omega (arith, s.many, t.many));
        fine = net.fine-both s.w t.w s.fine t.fine;
      }

  -- The judgements. `Goes D xs c ys`: on every base that is empty in the region `D`, the load `xs` becomes the load `ys` by a schedule of at
  -- least `c` firings. The base is any: so nothing that is not in the load is touched, and every frame is built in.
  abbrev pub Goes : (ℕ → Type 0) → Load → ℕ → Load → Type 0
  Goes D xs c ys = (b : Links) → Clear D b → Steps (put xs b) c (put ys b)

  abbrev pub Goes_on : (ℕ → Type 0) → Load → ℕ → Type 0
  Goes_on D xs c = (b : Links) → Clear D b → Long (put xs b) c

  -- Its rules.
  pub go-stay : (D : ℕ → Type 0) (xs : Load) → Goes D xs 0 xs
  go-stay D xs b cl = stay (put xs b)

  pub go-then : (D : ℕ → Type 0) (xs ys zs : Load) (c d : ℕ) → Goes D xs c ys → Goes D ys d zs → Goes D xs (c + d) zs
  go-then D xs ys zs c d f g b cl = steps_then (put xs b) (put ys b) (put zs b) c d (f b cl) (g b cl)

  pub go-wide : (D E : ℕ → Type 0) (xs ys : Load) (c : ℕ) → ((l : ℕ) → D l → E l) → Goes D xs c ys → Goes E xs c ys
  go-wide D E xs ys c up f b cl = f b (λ l d. cl l (up l d))

  -- the frame: tokens away from the region pass by
  pub go-by : (D : ℕ → Type 0) (xs ys zs : Load) (c : ℕ) → Off zs D → Goes D xs c ys → Goes D (xs ++ zs) c (ys ++ zs)
  go-by D xs ys zs c off f b cl =
      rw (put-app xs zs b, put-app ys zs b) (f (put zs b) (put-clear zs D b off cl))

  -- loads that are one and the same on a clear base
  abbrev pub Alike : (ℕ → Type 0) → Load → Load → Type 0
  Alike D xs ys = (b : Links) → Clear D b → put xs b ≡ put ys b
