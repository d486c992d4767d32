-- The parts of a graph put together of others (graph, Assembly.antt): from which link on and in which environment each is laid out, that its links fit, and
-- what holds of its operators where it holds of all the graph's. For a loop also the layout of its gates round its body. Assumes that the graph is fit.
use Prim.Native.Nat.{ℕ, suc, ◌+◌, ◌≤◌}
use Rattle.std.specs.Prelude.{◌≡◌, true, false, List, [], ◌∷◌, ◌++◌, get_or, take, drop}
use Rattle.std.proofs.Math.Path.{sym}
use Rattle.std.proofs.Common.{◌∙◌, arith}
use Rattle.std.proofs.Math.ListN.{length}
use Rattle.names.specs.Names.{Names, without}
use Rattle.graph.specs.Assembly.{Graph, beside, bind, loop, Operator, Env, member_of, named, spread, rank, total, free, links_of, outputs, operators_of, sharing, shared_links, first_use, second_use, chain, chain_ends, chain_links, ring_gate, ring, listed}
use Rattle.graph.specs.Yields.{output_count}
use Rattle.graph.specs.Fit.{Fit}
use Rattle.theory_reference.specs.Plugged.{nowhere, Each}
use Rattle.theory_reference.proofs.Plugged.{each_first, each-rest, each-ring}
use Rattle.theory_reference.specs.Plan.{Plan, Envs}
use Rattle.theory_reference.proofs.Sharing.{envs-first, envs-second}
use Rattle.theory_reference.proofs.Binding.{named-others, named-any, named-front}
use Rattle.theory_reference.proofs.Copies.{ends-length}
use Rattle.theory_reference.proofs.OneAfterAnother as Follow
use Rattle.theory_reference.proofs.LoopLayout as Lay
use Rattle.theory_reference.proofs.LoopLayout.{spread-envs}
use Rattle.theory_reference.specs.GraphLayout.{RingOf, Layout}
use Rattle.theory_reference.proofs.GraphLayout.{layout, free-small, loop-laid, iterated-length, loop-length, never-bare, enough, envs-up, up_to, first_fits, second_fits, body-fits}

no_more : {k c : ℕ} → c ≡ k → k ≤ c
no_more e = omega arith

rest-long : (k : ℕ) (ls : List ℕ) → suc k ≤ length ls → k ≤ length (drop 1 ls)
rest-long k [] le = absurd (omega arith)
rest-long k (l ∷ ls) le = omega arith

each_three : (P : Operator → Type 0) (xs ys zs : List Operator) → Each P (xs ++ (ys ++ zs)) → Each P xs × Each P ys × Each P zs
each_three P xs ys zs h =
    let r = each-rest P xs (ys ++ zs) h in
    (each_first P xs (ys ++ zs) h, each_first P ys zs r, each-rest P ys zs r)

-- Side by side.
module _ (a b : Graph) (n : ℕ) (env : Env) where
  abbrev pub left_at : ℕ
  left_at = n + shared_links (free a) (free b)

  abbrev pub left-env : Env
  left-env = first_use (free a) (free b) n env

  abbrev pub right-at : ℕ
  right-at = left_at + links_of a

  abbrev pub right-env : Env
  right-env = second_use (free a) (free b) n env

  pub record Pair-room : Type 0 where
    pub envs-a : Envs (free a) left-env left_at
    pub fits-a : left_at + links_of a ≤ nowhere
    pub envs-b : Envs (free b) right-env right-at
    pub fits-b : right-at + links_of b ≤ nowhere

  pub pair-room : Envs (free (beside a b)) env n → n + links_of (beside a b) ≤ nowhere → Pair-room
  unfolding free links_of
  pair-room En le =
      let f : Names = free a in
      let g : Names = free b in
      record {
        envs-a = envs-first f g n env En;
        fits-a = first_fits n (shared_links f g) (links_of a) (links_of b) le;
        envs-b = envs-up g right-env left_at right-at (up_to left_at (links_of a)) (envs-second f g n env En);
        fits-b = second_fits n (shared_links f g) (links_of a) (links_of b) le;
      }

  pub pair-each : (P : Operator → Type 0) → Each P (operators_of (beside a b) n env) →
      Each P (sharing (free a) (free b) n env) × Each P (operators_of a left_at left-env) × Each P (operators_of b right-at right-env)
  unfolding operators_of
  pair-each P H = each_three P (sharing (free a) (free b) n env) (operators_of a left_at left-env) (operators_of b right-at right-env) H

-- One after another, and a loop's start.
module _ (ns : List ℕ) (a b : Graph) (n : ℕ) (env : Env) where
  abbrev pub outer : Names
  outer = without (free b) (member_of ns)

  abbrev pub maker-at : ℕ
  maker-at = n + shared_links (free a) outer

  abbrev pub maker-env : Env
  maker-env = first_use (free a) outer n env

  abbrev pub made : List ℕ
  made = outputs a maker-at maker-env

  abbrev pub user-at : ℕ
  user-at = maker-at + links_of a

  abbrev pub user-env : Env
  user-env = named ns made (second_use (free a) outer n env)

  pub record Bind-room : Type 0 where
    pub envs-a : Envs (free a) maker-env maker-at
    pub fits-a : maker-at + links_of a ≤ nowhere
    pub envs-b : Envs (free b) user-env user-at
    pub fits-b : user-at + links_of b ≤ nowhere

  pub bind-room : Fit (bind ns a b) → Envs (free (bind ns a b)) env n → n + links_of (bind ns a b) ≤ nowhere → Bind-room
  unfolding free links_of
  bind-room ft En le =
      let f : Names = free a in
      let fa : maker-at + links_of a ≤ nowhere = first_fits n (shared_links f outer) (links_of a) (links_of b) le in
      let la : Layout a maker-at maker-env = layout a ft.0 maker-at maker-env (envs-first f outer n env En) fa in
      record {
        envs-a = envs-first f outer n env En;
        fits-a = fa;
        envs-b = Follow.user-envs ns f (free b) n (links_of a) (links_of b) env made (outputs b user-at user-env) (RingOf a maker-at) (RingOf b user-at) En le
            la.sound (la.count ∙ ft.2) ft.3 ft.4;
        fits-b = second_fits n (shared_links f outer) (links_of a) (links_of b) le;
      }

  pub bind-each : (P : Operator → Type 0) → Each P (operators_of (bind ns a b) n env) →
      Each P (sharing (free a) outer n env) × Each P (operators_of a maker-at maker-env) × Each P (operators_of b user-at user-env)
  unfolding operators_of
  bind-each P H = each_three P (sharing (free a) outer n env) (operators_of a maker-at maker-env) (operators_of b user-at user-env) H

  -- A loop: behind its start the outputs of its gates, the body, and the copies of iter?.
  abbrev pub users : ℕ
  users = total (free b)

  abbrev pub body_at : ℕ
  body_at = user-at + users

  abbrev pub inner : Env
  inner = spread (free b) user-at

  abbrev pub yielded : List ℕ
  yielded = outputs b body_at inner

  abbrev pub iter : ℕ
  iter = get_or yielded 0 0

  abbrev pub iterates : List ℕ
  iterates = take (length ns) (drop 1 yielded)

  abbrev pub returns : List ℕ
  returns = drop (suc (length ns)) yielded

  abbrev pub core-size : ℕ
  core-size = users + (links_of b + chain_links users)

  abbrev pub BodyPlan : Plan
  BodyPlan = Lay.Body ns (free b) user-at (links_of b) iter iterates returns (RingOf b body_at) user-env

  abbrev pub CorePlan : Plan
  CorePlan = Lay.Core ns (free b) user-at (links_of b) iter iterates returns (RingOf b body_at) user-env

  abbrev pub controls : List ℕ
  controls = chain_ends iter (body_at + links_of b) users

  -- what its gates take
  abbrev pub iterated : Env
  iterated = named ns (drop 1 yielded) env

  abbrev pub started : Env
  started = named ns made env

  abbrev pub own : Env
  own = second_use (free a) outer n env

  pub record Loop-room : Type 0 where
    pub envs-a : Envs (free a) maker-env maker-at
    pub fits-a : maker-at + links_of a ≤ nowhere
    pub envs-b : Envs (free b) inner body_at
    pub fits-b : body_at + links_of b ≤ nowhere
    pub laid : Lay.Laid_out ns (free b) user-at (links_of b) iter iterates returns (RingOf b body_at) user-env
    pub long : suc (length ns) ≤ length yielded
    pub returned : length returns ≡ output_count (loop ns a b)
    pub start_is : (x : ℕ) → free b x ≡ true → member_of ns x ≡ true → started x ≡ user-env x
    pub own_is : (x : ℕ) → free b x ≡ true → member_of ns x ≡ false → own x ≡ user-env x
    pub iter-is : (x : ℕ) → member_of ns x ≡ true → iterated x ≡ named ns iterates user-env x

  pub loop-room : Fit (loop ns a b) → Envs (free (loop ns a b)) env n → n + links_of (loop ns a b) ≤ nowhere → Loop-room
  unfolding free links_of
  loop-room ft En le =
      let f : Names = free a in
      let h : Names = free b in
      let fa : maker-at + links_of a ≤ nowhere = first_fits n (shared_links f outer) (links_of a) core-size le in
      let fb : body_at + links_of b ≤ nowhere = body-fits n (shared_links f outer) (links_of a) users (links_of b) (chain_links users) le in
      let la : Layout a maker-at maker-env = layout a ft.0 maker-at maker-env (envs-first f outer n env En) fa in
      let many : length made ≡ length ns = la.count ∙ ft.2 in
      let Ec : Envs h user-env user-at = Follow.user-envs ns f h n (links_of a) core-size env made returns (RingOf a maker-at) CorePlan.Ring En le la.sound many ft.3 ft.4 in
      let Es : Envs h inner body_at = spread-envs h user-at (free-small b ft.1) in
      let lb : Layout b body_at inner = layout b ft.1 body_at inner Es fb in
      let long : suc (length ns) ≤ length yielded = enough lb.count ft.5 in
      record {
        envs-a = envs-first f outer n env En;
        fits-a = fa;
        envs-b = Es;
        fits-b = fb;
        laid = loop-laid ns h user-at (links_of b) yielded (RingOf b body_at) user-env Ec (second_fits n (shared_links f outer) (links_of a) core-size le) lb.sound
            (never-bare b body_at inner lb.straight ft.7) ft.6 long ft.3 ft.4;
        long = long;
        returned = loop-length ns a b yielded lb.count ft.5;
        start_is = λ x e k. named-any ns made env own x (no_more many) k;
        own_is = λ x e k. sym (named-others ns made own x k);
        iter-is = λ x k. sym (named-front ns (drop 1 yielded) env x (rest-long (length ns) yielded long))
            ∙ named-any ns iterates env user-env x (no_more (iterated-length (length ns) yielded long)) k;
      }

  pub record Loop-each (P : Operator → Type 0) : Type 0 where
    pub copies : Each P (sharing (free a) outer n env)
    pub first : Each P (operators_of a maker-at maker-env)
    pub second : Each P (operators_of b body_at inner)
    pub fan : Each P (chain iter (body_at + links_of b) users)
    pub gates : (x : ℕ) → free b x ≡ true → P (ring_gate (member_of ns x) (get_or controls (rank (free b) x) 0) (iterated x) (started x) (own x) (inner x))

  pub loop-each : (P : Operator → Type 0) → Fit (loop ns a b) → Each P (operators_of (loop ns a b) n env) → Loop-each P
  unfolding operators_of
  loop-each P ft H =
      let opb = operators_of b body_at inner in
      let opc = chain iter (body_at + links_of b) users in
      let opr = ring (listed (free b)) (member_of ns) controls iterated started own inner in
      let p = each_three P (sharing (free a) outer n env) (operators_of a maker-at maker-env) (opb ++ (opc ++ opr)) H in
      let q = each_three P opb opc opr p.2 in
      record {
        copies = p.0;
        first = p.1;
        second = q.0;
        fan = q.1;
        gates = λ x e. each-ring P (free b) (member_of ns) controls iterated started own inner (no_more (ends-length users iter (body_at + links_of b))) q.2 x (free-small b ft.1 x e) e;
      }
