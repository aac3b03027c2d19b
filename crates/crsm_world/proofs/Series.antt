-- Several deliveries, one by one.
use Rattle.std.proofs.Common.{◌≡◌, ◌<◌, ◌≤◌, ◌+◌, ℕ, zero, suc, Bool, true, false, cond, List, [], ◌∷◌, ◌++◌, length, map, set, get_or, take, drop, Option, Some, None, refl, ap, sym, ◌∙◌, subst, arith, append_assoc, append-nil}
use Rattle.std.specs.Prelude.{slice_get, slice_set, nat_le, option_map}
use Rattle.std.specs.Option.{option_map_or}
use Rattle.std.proofs.Math.Seq.{drop-cons}
use Rattle.std.proofs.lemmas.List.{length-map, map-append, take_more}
use Rattle.crsm_base.specs.Messages.{datagram_bytes}
use Rattle.crsm_base.specs.declared.send.Send.{Send}
use Rattle.crsm_base.specs.Limits.{most_world}
use Rattle.crsm_spec.specs.Types.{Line}
use Rattle.crsm_spec.specs.Replica.{Replica}
use Rattle.crsm_spec.specs.Draft.{Draft, begun}
use Rattle.crsm_spec.specs.Node.{Turn, turn, input_of}
use Rattle.crsm_base.proofs.DatagramLaws.{datagram_of-bytes}
use Rattle.crsm_sim_machine.specs.declared.Step.{Step}
use Rattle.crsm_sim_machine.specs.Outcomes.{Makes, Sends}
use Rattle.crsm_port.specs.Meaning.{Packet as Sent}
use Rattle.crsm_port.specs.Memory.{Memory}
use Rattle.crsm_shell.specs.Shell.{sends_in, sends_of}
use Rattle.crsm_sim_network.specs.declared.PacketView.{PacketView}
use Rattle.crsm_world.specs.Effects.{LetsOut}
use Rattle.crsm_spec.specs.Step.{Input, step as begin_step}
use Rattle.crsm_spec.specs.World.{Site, Packet, World as Cluster, Moment, is_full, whole_step, after_step, packet_of}
use Rattle.crsm_spec.specs.Moments.{single, begun_at, come, step_at, step_at_site, use_up, go_each, go_all, world_after, lines_of}
use Rattle.crsm_world.specs.declared.world.World.{World}
use Rattle.crsm_world.specs.Machines.{MachinesPend, MachinesStand}
use Rattle.crsm_world.specs.declared.groups.DeliveredStep.{DeliveredStep}
use Rattle.crsm_sim_network.specs.declared.Network.{Network}
use Rattle.crsm_sim_network.specs.Packets.{AreSpelt, IsPacketView, NetworkStands, used_up, receiver_of}
use Rattle.crsm_world.specs.Several.{IsFor, AreFor, AreStill, IsStill, Runs, TakesOne, TookAll, all_gone, each_gone, gone, number_of, step_of, together}
use Rattle.crsm_world.specs.World.{Holds, HoldsBeside, Leads, LeadsOn}
use Rattle.crsm_world.proofs.Letting.{drop_seam, spelt_here}
use Rattle.crsm_world.proofs.Turns.{get_set}

next : (is : List ℕ) (i : ℕ) → i < length is → drop i is ≡ get_or is i 0 ∷ drop (i + 1) is
next is i l = let e : suc i ≡ i + 1 = omega arith in drop-cons is i 0 l ∙ ap (λ n. get_or is i 0 ∷ drop n is) e

none_left : (is : List ℕ) (i : ℕ) → length is ≤ i → drop i is ≡ []
none_left [] zero l = refl
none_left [] (suc i) l = refl
none_left (x ∷ is) zero l = absurd (omega arith)
none_left (x ∷ is) (suc i) l = none_left is i (omega arith)

all_left : (is : List ℕ) → drop 0 is ≡ is
all_left is = refl

-- ---- each by itself

-- the world after the first i deliveries, and what is still to come of the others
pub record Going (v : Cluster) (t : ℕ) (is : List ℕ) (i : ℕ) (w : World) (lines : List Line) : Type 0 where
  pub now : Cluster
  pub held : Holds w now
  pub after : world_after v (go_each t is v) ≡ world_after now (go_each t (drop i is) now)
  pub told : lines ++ lines_of (go_each t (drop i is) now) ≡ lines_of (go_each t is v)

pub each_begins : (v : Cluster) (t : ℕ) (is : List ℕ) (w : World) (lines : List Line) → Holds w v → lines ≡ [] → Going v t is 0 w lines
each_begins v t is w lines h e = record { now = v; held = h; after = refl; told = ap (λ ls. ls ++ lines_of (go_each t is v)) e }

full_as : (w : World) (now : Cluster) (b x : Bool) → Holds w now → ((packets : List Packet) (bytes : ℕ) → NetworkStands w.network packets bytes → b ≡ nat_le most_world bytes) → b ≡ x → is_full now ≡ x
unfolding is_full
full_as w now b x h f e = sym (f now.packets now.bytes h.network) ∙ e

going_on : (t i : ℕ) (is : List ℕ) (now : Cluster) → is_full now ≡ false → go_each t (i ∷ is) now ≡ gone t i now ∷ go_each t is (gone t i now).after
unfolding go_each
going_on t i is now e = ap (λ b. cond b [] (gone t i now ∷ go_each t is (gone t i now).after)) e

going_no_more : (t i : ℕ) (is : List ℕ) (now : Cluster) → is_full now ≡ true → go_each t (i ∷ is) now ≡ []
unfolding go_each
going_no_more t i is now e = ap (λ b. cond b [] (gone t i now ∷ go_each t is (gone t i now).after)) e

after_first : (w : Cluster) (m : Moment) (ms : List Moment) → world_after w (m ∷ ms) ≡ world_after m.after ms
unfolding world_after
after_first w m ms = refl

lines_first : (m : Moment) (ms : List Moment) → lines_of (m ∷ ms) ≡ m.lines ++ lines_of ms
unfolding lines_of
lines_first m ms = refl

pub each_next : (v : Cluster) (t : ℕ) (is : List ℕ) (i : ℕ) (w new : World) (lines all : List Line) (b : Bool) → Going v t is i w lines → i < length is
    → ((packets : List Packet) (bytes : ℕ) → NetworkStands w.network packets bytes → b ≡ nat_le most_world bytes) → b ≡ false
    → ((u : Cluster) → Holds w u → LeadsOn (gone t (get_or is i 0) u) new.sites new.network lines all) → Going v t is (i + 1) new all
each_next v t is i w new lines all b g l f e step =
    let x = get_or is i 0 in
    let m = gone t x g.now in
    let went = step g.now g.held in
    let rest : go_each t (drop i is) g.now ≡ m ∷ go_each t (drop (i + 1) is) m.after = ap (λ js. go_each t js g.now) (next is i l) ∙ going_on t x (drop (i + 1) is) g.now (full_as w g.now b false g.held f e) in
    record {
      now = m.after;
      held = record { sites = went.places; network = went.packets };
      after = g.after ∙ ap (world_after g.now) rest ∙ after_first g.now m _;
      told = ap (λ ls. ls ++ lines_of (go_each t (drop (i + 1) is) m.after)) went.told ∙ append_assoc lines m.lines _
          ∙ ap (λ ls. lines ++ ls) (sym (lines_first m _)) ∙ ap (λ ms. lines ++ lines_of ms) (sym rest) ∙ g.told;
    }

stopped : (v : Cluster) (t : ℕ) (is : List ℕ) (i : ℕ) (w : World) (lines : List Line) (g : Going v t is i w lines) → go_each t (drop i is) g.now ≡ [] → Leads (each_gone t is v) w lines
unfolding each_gone together world_after lines_of
stopped v t is i w lines g e = record {
  after = subst (λ (u : Cluster). Holds w u) (sym (g.after ∙ ap (world_after g.now) e)) g.held;
  told = sym (append-nil lines) ∙ ap (λ ms. lines ++ lines_of ms) (sym e) ∙ g.told;
}

pub each_full : (v : Cluster) (t : ℕ) (is : List ℕ) (i : ℕ) (w : World) (lines : List Line) (b : Bool) → Going v t is i w lines → i < length is
    → ((packets : List Packet) (bytes : ℕ) → NetworkStands w.network packets bytes → b ≡ nat_le most_world bytes) → b ≡ true → Leads (each_gone t is v) w lines
each_full v t is i w lines b g l f e =
    stopped v t is i w lines g (ap (λ js. go_each t js g.now) (next is i l) ∙ going_no_more t (get_or is i 0) (drop (i + 1) is) g.now (full_as w g.now b true g.held f e))

pub each_ends : (v : Cluster) (t : ℕ) (is : List ℕ) (i : ℕ) (w : World) (lines : List Line) → Going v t is i w lines → length is ≤ i → Leads (each_gone t is v) w lines
unfolding go_each
each_ends v t is i w lines g l = stopped v t is i w lines g (ap (λ js. go_each t js g.now) (none_left is i l))

-- ---- kept together

still_same : (packets : List Packet) → AreStill packets packets
still_same packets i p e = record { found = p; is = e; from = refl; to = refl; datagram = refl }

still_then : (a b c : List Packet) → AreStill a b → AreStill b c → AreStill a c
still_then a b c f g i p e =
    let x = f i p e in
    let y = g i x.found x.is in
    record { found = y.found; is = y.is; from = y.from ∙ x.from; to = y.to ∙ x.to; datagram = y.datagram ∙ x.datagram }

still_used : (packets : List Packet) (j : ℕ) → AreStill packets (used_up j packets)
unfolding used_up
still_used packets j i p e = at (slice_get packets j)
  where
    marked : (ms : List Packet) (j i : ℕ) (q p : Packet) → slice_get ms j ≡ Some q → slice_get ms i ≡ Some p → IsStill p (set ms j (record q { used = true })) i
    marked [] j i q p f e = cc
    marked (m ∷ ms) zero zero q p f e = let h : q ≡ p = cc in record { found = record q { used = true }; is = refl; from = ap (λ (r : Packet). r.from) h; to = ap (λ (r : Packet). r.to) h; datagram = ap (λ (r : Packet). r.datagram) h }
    marked (m ∷ ms) zero (suc i) q p f e = record { found = p; is = e; from = refl; to = refl; datagram = refl }
    marked (m ∷ ms) (suc j) zero q p f e = record { found = p; is = e; from = refl; to = refl; datagram = refl }
    marked (m ∷ ms) (suc j) (suc i) q p f e = let r = marked ms j i q p f e in record { found = r.found; is = r.is; from = r.from; to = r.to; datagram = r.datagram }

    go : (o : Option Packet) → slice_get packets j ≡ o → IsStill p (option_map_or (λ q. set packets j (record q { used = true })) o packets) i
    go (Some q) f = marked packets j i q p f e
    go None f = record { found = p; is = e; from = refl; to = refl; datagram = refl }

    at : (o : Option Packet) → IsStill p (option_map_or (λ q. set packets j (record q { used = true })) (slice_get packets j) packets) i
    at o = go (slice_get packets j) refl

still_longer : (packets more : List Packet) → AreStill packets (packets ++ more)
still_longer packets more i p e = record { found = p; is = go packets i e; from = refl; to = refl; datagram = refl }
  where
    go : (ms : List Packet) (i : ℕ) → slice_get ms i ≡ Some p → slice_get (ms ++ more) i ≡ Some p
    go [] i e = cc
    go (m ∷ ms) zero e = e
    go (m ∷ ms) (suc i) e = go ms i e

pub gone_is : (k t i : ℕ) (v : Cluster) (r : Replica) (p : Packet) → slice_get v.packets i ≡ Some p → p.to ≡ k → slice_get v.sites k ≡ Some (Site.Up r) → gone t i v ≡ begun_at v (whole_step (use_up i v) k (step_of r p t))
unfolding single come step_at step_at_site use_up
gone_is k t i v r p f to e =
    ap (λ o. begun_at v (come whole_step (use_up i v) t o)) f
    ∙ ap (λ j. begun_at v (step_at whole_step (use_up i v) j (Input.Came p.from p.datagram) t)) to
    ∙ ap (λ o. begun_at v (step_at_site whole_step (use_up i v) k (Input.Came p.from p.datagram) t o)) e

-- what is there of the world after a step that is out
record Steps (k i : ℕ) (v u : Cluster) (x : Draft) : Type 0 where
  n : u.n ≡ v.n
  sites : u.sites ≡ slice_set v.sites k (Site.Up x.replica)
  packets : u.packets ≡ used_up i v.packets ++ map (packet_of k) x.sends

stepped : (k i : ℕ) (v : Cluster) (x : Draft) → Steps k i v (begun_at v (whole_step (use_up i v) k x)).after x
unfolding begun_at whole_step after_step use_up used_up
stepped k i v x = record { n = refl; sites = refl; packets = refl }

steps_as : (k i : ℕ) (v : Cluster) (x : Draft) (m : Moment) → m ≡ begun_at v (whole_step (use_up i v) k x) → Steps k i v m.after x
steps_as k i v x m e = subst (λ (n : Moment). Steps k i v n.after x) (sym e) (stepped k i v x)

runs_more : (k t : ℕ) (v : Cluster) (taken : List DeliveredStep) (steps : List Draft) (now : Cluster) (a : DeliveredStep) (x : Draft) → Runs k t v taken steps now
    → gone t a.number now ≡ begun_at now (whole_step (use_up a.number now) k x) → Makes a.step x → Runs k t v (taken ++ a ∷ []) (steps ++ x ∷ []) (gone t a.number now).after
runs_more k t v [] [] now a x runs e made = subst (λ (u : Cluster). Runs k t u (a ∷ []) (x ∷ []) (gone t a.number now).after) runs (e, made, refl)
runs_more k t v (b ∷ taken) (y ∷ steps) now a x runs e made = (runs.0, runs.1, runs_more k t (gone t b.number v).after taken steps now a x runs.2 e made)
runs_more k t v [] (y ∷ steps) now a x runs e made = absurd runs
runs_more k t v (b ∷ taken) [] now a x runs e made = absurd runs

pub nothing_left : {X : Type 0} (xs : List X) → length xs ≡ 0 → xs ≡ []
nothing_left [] h = refl
nothing_left (x ∷ xs) h = absurd (omega arith)

pub took_none : (k t : ℕ) (v : Cluster) (is : List ℕ) (w : World) (r : Replica) (taken : List DeliveredStep) → HoldsBeside k [] w v v.n v.sites → slice_get v.sites k ≡ Some (Site.Up r) → taken ≡ [] → TookAll k t v (take 0 is) w taken
took_none k t v is w r taken h e none = record {
  now = v;
  replica = r;
  steps = [];
  runs = subst (λ (ts : List DeliveredStep). Runs k t v ts [] v) (sym none) refl;
  numbers = ap (map number_of) none;
  up = e;
  held = h;
  still = still_same v.packets;
}

for_one : (k : ℕ) (packets : List Packet) (is : List ℕ) (i : ℕ) → i < length is → AreFor k packets is → IsFor k packets (get_or is i 0)
for_one k packets [] i l all = absurd (omega arith)
for_one k packets (j ∷ is) zero l all = all.0
for_one k packets (j ∷ is) (suc i) l all = for_one k packets is i (omega arith) all.1

took_one : (k t i : ℕ) (w : World) (before after : List DeliveredStep) (v : Cluster) (n : ℕ) (places : List Site) (r : Replica) (steps : List Draft) (p : Packet) → slice_get v.packets i ≡ Some p → TakesOne k t i w before after v n places r steps
    → (a : DeliveredStep) × (after ≡ before ++ a ∷ []) × (a.number ≡ i) × Makes a.step (step_of r p t) × HoldsBeside k (steps ++ step_of r p t ∷ []) w v n (slice_set places k (Site.Up (step_of r p t).replica))
took_one k t i w before after v n places r steps p f h = rw f at h

pub took_more : (k t : ℕ) (v : Cluster) (is : List ℕ) (i : ℕ) (w new : World) (taken more : List DeliveredStep) → TookAll k t v (take i is) w taken → i < length is → AreFor k v.packets is
    → ((u : Cluster) (n : ℕ) (places : List Site) (r : Replica) (steps : List Draft) → HoldsBeside k steps w u n places → slice_get places k ≡ Some (Site.Up r) → TakesOne k t (get_or is i 0) new taken more u n places r steps)
    → TookAll k t v (take (i + 1) is) new more
took_more k t v is i w new taken more g l all step =
    let j = get_or is i 0 in
    let f = for_one k v.packets is i l all in
    let p = f.found in
    let q = g.still j p f.is in
    let x = step_of g.replica p t in
    let one = took_one k t j new taken more v g.now.n g.now.sites g.replica g.steps p f.is (step v g.now.n g.now.sites g.replica g.steps g.held g.up) in
    let a = one.0 in
    let e = one.1 in
    let number = one.2 in
    let same : step_of g.replica q.found t ≡ x = ap (λ (b : ℕ). begin_step g.replica (Input.Came b q.found.datagram) t) q.from ∙ ap (λ (d : _). begin_step g.replica (Input.Came p.from d) t) q.datagram in
    let went : gone t j g.now ≡ begun_at g.now (whole_step (use_up j g.now) k x) = gone_is k t j g.now g.replica q.found q.is (q.to ∙ f.receiver) g.up ∙ ap (λ (y : Draft). begun_at g.now (whole_step (use_up j g.now) k y)) same in
    let went_a : gone t a.number g.now ≡ begun_at g.now (whole_step (use_up a.number g.now) k x) = subst (λ (b : ℕ). gone t b g.now ≡ begun_at g.now (whole_step (use_up b g.now) k x)) (sym number) went in
    let after = steps_as k a.number g.now x (gone t a.number g.now) went_a in
    record {
      now = (gone t a.number g.now).after;
      replica = x.replica;
      steps = g.steps ++ x ∷ [];
      runs = subst (λ (ts : List DeliveredStep). Runs k t v ts (g.steps ++ x ∷ []) (gone t a.number g.now).after) (sym e) (runs_more k t v taken g.steps g.now a x g.runs went_a one.3);
      numbers = ap (map number_of) e ∙ map-append number_of taken (a ∷ []) ∙ ap (λ ns. ns ++ a.number ∷ []) g.numbers ∙ ap (λ b. take i is ++ b ∷ []) number ∙ sym (take_more is i 0 l);
      up = ap (λ (ps : List Site). slice_get ps k) after.sites ∙ get_set g.now.sites k _ (Site.Up g.replica) g.up;
      held = subst (λ (ps : List Site). HoldsBeside k (g.steps ++ x ∷ []) new v (gone t a.number g.now).after.n ps) (sym after.sites)
          (subst (λ (m : ℕ). HoldsBeside k (g.steps ++ x ∷ []) new v m (slice_set g.now.sites k (Site.Up x.replica))) (sym after.n) one.4);
      still = still_then _ _ _ g.still (still_then _ _ _ (still_used g.now.packets a.number)
          (subst (λ (ps : List Packet). AreStill (used_up a.number g.now.packets) ps) (sym after.packets) (still_longer (used_up a.number g.now.packets) (map (packet_of k) x.sends))));
    }

-- ---- sent in turn

-- the world after some of the steps, which are out, and what is still to come of the others
pub record Out (k t : ℕ) (v now : Cluster) (all rest : List DeliveredStep) (sent : List Sent) (place : ℕ) (w : World) (lines : List Line) : Type 0 where
  pub at : Cluster
  pub left : List Draft
  pub runs : Runs k t at rest left now
  pub network : NetworkStands w.network at.packets at.bytes
  pub texts : drop place (map (λ d. d.bytes) sent) ≡ map (λ s. datagram_bytes s.datagram) (sends_of left)
  pub after : world_after v (go_all t (map number_of all) v) ≡ world_after at (go_all t (map number_of rest) at)
  pub told : lines ++ lines_of (go_all t (map number_of rest) at) ≡ lines_of (go_all t (map number_of all) v)

pub out_none : (k t : ℕ) (v now : Cluster) (all rest : List DeliveredStep) (steps : List Draft) (port : Memory) (first place : ℕ) (w : World) (lines : List Line) → NetworkStands w.network v.packets v.bytes → Runs k t v all steps now
    → Sends port first steps → rest ≡ all → place ≡ first → lines ≡ [] → Out k t v now all rest port.sent place w lines
out_none k t v now all rest steps port first place w lines h runs sent e f l =
    subst (λ (ts : List DeliveredStep). Out k t v now all ts port.sent place w lines) (sym e) (record {
      at = v;
      left = steps;
      runs = runs;
      network = h;
      texts = ap (λ n. drop n (map (λ d. d.bytes) port.sent)) f ∙ sent.texts;
      after = refl;
      told = ap (λ ls. ls ++ lines_of (go_all t (map number_of all) v)) l;
    })

gone_first : (t i : ℕ) (is : List ℕ) (now : Cluster) → go_all t (i ∷ is) now ≡ gone t i now ∷ go_all t is (gone t i now).after
unfolding go_all
gone_first t i is now = refl

drop_none : {X : Type 0} (n : ℕ) → drop {A = X} n [] ≡ []
drop_none zero = refl
drop_none (suc n) = refl

drop_both : {X : Type 0} (xs : List X) (a b : ℕ) → drop (a + b) xs ≡ drop b (drop a xs)
drop_both xs zero b = let z : 0 + b ≡ b = omega arith in ap (λ n. drop n xs) z
drop_both [] (suc a) b = drop_none (suc a + b) ∙ sym (drop_none b)
drop_both (x ∷ xs) (suc a) b = let z : suc a + b ≡ suc (a + b) = omega arith in ap (λ n. drop n (x ∷ xs)) z ∙ drop_both xs a b

-- the moment that a step makes, where it is out
out_one : (k i : ℕ) (v : Cluster) (x : Draft) (network : Network) (before lines : List Line) → LetsOut before (used_up i v.packets) v.bytes k x x.sends x.replies network lines
    → NetworkStands network (begun_at v (whole_step (use_up i v) k x)).after.packets (begun_at v (whole_step (use_up i v) k x)).after.bytes × (lines ≡ before ++ (begun_at v (whole_step (use_up i v) k x)).lines)
unfolding begun_at whole_step after_step use_up used_up
out_one k i v x network before lines o = (o.stands, o.told)

pub out_more : (k t : ℕ) (v now : Cluster) (all rest more : List DeliveredStep) (a : DeliveredStep) (sent : List Sent) (place next : ℕ) (w new : World) (lines more_lines : List Line) → Out k t v now all rest sent place w lines → rest ≡ a ∷ more
    → (AreSpelt a.step.batch.sends sent place → next ≡ place + length a.step.batch.sends)
    → ((u : Cluster) (x : Draft) → NetworkStands w.network u.packets u.bytes → Makes a.step x → AreSpelt a.step.batch.sends sent place → LetsOut lines (used_up a.number u.packets) u.bytes k x x.sends x.replies new.network more_lines)
    → Out k t v now all more sent next new more_lines
unfolding sends_of sends_in
out_more k t v now all rest more a sent place next w new lines more_lines g e n out =
    go g.left (subst (λ (ts : List DeliveredStep). Runs k t g.at ts g.left now) e g.runs) g.texts
  where
    go : (left : List Draft) → Runs k t g.at (a ∷ more) left now → drop place (map (λ d. d.bytes) sent) ≡ map (λ s. datagram_bytes s.datagram) (sends_of left) → Out k t v now all more sent next new more_lines
    go [] runs texts = absurd runs
    go (x ∷ left) runs texts =
        let m = gone t a.number g.at in
        let sends : sends_in x ≡ a.step.batch.sends = sym runs.1.batch.made.sends in
        let split : drop place (map (λ d. d.bytes) sent) ≡ map (λ s. datagram_bytes s.datagram) a.step.batch.sends ++ map (λ s. datagram_bytes s.datagram) (sends_of left) =
        texts ∙ map-append (λ s. datagram_bytes s.datagram) (sends_in x) (sends_of left) ∙ ap (λ (ss : List Send). map (λ s. datagram_bytes s.datagram) ss ++ map (λ s. datagram_bytes s.datagram) (sends_of left)) sends in
        let spelt = spelt_here a.step.batch.sends (map (λ s. datagram_bytes s.datagram) (sends_of left)) sent place split in
        let done = out_one k a.number g.at x new.network lines more_lines (out g.at x g.network runs.1 spelt) in
        let both = subst (λ (n : Moment). NetworkStands new.network n.after.packets n.after.bytes × (more_lines ≡ lines ++ n.lines)) (sym runs.0) done in
        let rest_is : go_all t (map number_of rest) g.at ≡ m ∷ go_all t (map number_of more) m.after = ap (λ (ts : List DeliveredStep). go_all t (map number_of ts) g.at) e ∙ gone_first t a.number (map number_of more) g.at in
        record {
          at = m.after;
          left = left;
          runs = runs.2;
          network = both.0;
          texts = ap (λ b. drop b (map (λ d. d.bytes) sent)) (n spelt) ∙ drop_both (map (λ d. d.bytes) sent) place (length a.step.batch.sends) ∙ ap (drop (length a.step.batch.sends)) split
              ∙ ap (λ b. drop b (map (λ s. datagram_bytes s.datagram) a.step.batch.sends ++ map (λ s. datagram_bytes s.datagram) (sends_of left))) (sym (length-map a.step.batch.sends (λ s. datagram_bytes s.datagram)))
              ∙ drop_seam (map (λ s. datagram_bytes s.datagram) a.step.batch.sends) (map (λ s. datagram_bytes s.datagram) (sends_of left));
          after = g.after ∙ ap (world_after g.at) rest_is ∙ after_first g.at m _;
          told = ap (λ ls. ls ++ lines_of (go_all t (map number_of more) m.after)) both.1 ∙ append_assoc lines m.lines _
              ∙ ap (λ ls. lines ++ ls) (sym (lines_first m _)) ∙ ap (λ ms. lines ++ lines_of ms) (sym rest_is) ∙ g.told;
        }

pub out_all : (k t : ℕ) (v now : Cluster) (all rest : List DeliveredStep) (sent : List Sent) (place : ℕ) (w : World) (lines : List Line) → Out k t v now all rest sent place w lines → rest ≡ [] → MachinesStand w.sites now.n now.sites
    → Leads (all_gone t (map number_of all) v) w lines
unfolding all_gone together world_after lines_of go_all
out_all k t v now all rest sent place w lines g e sites =
    go g.left (subst (λ (ts : List DeliveredStep). Runs k t g.at ts g.left now) e g.runs)
  where
    go : (left : List Draft) → Runs k t g.at [] left now → Leads (all_gone t (map number_of all) v) w lines
    go (x ∷ left) runs = absurd runs
    go [] runs =
        let none : go_all t (map number_of rest) g.at ≡ [] = ap (λ (ts : List DeliveredStep). go_all t (map number_of ts) g.at) e in
        let held : Holds w g.at = record { sites = subst (λ (u : Cluster). MachinesStand w.sites u.n u.sites) runs sites; network = g.network } in
        record {
          after = subst (λ (u : Cluster). Holds w u) (sym (g.after ∙ ap (world_after g.at) none)) held;
          told = sym (append-nil lines) ∙ ap (λ ms. lines ++ lines_of ms) (sym none) ∙ g.told;
        }

-- ---- a step that is taken

turn_is : (r : Replica) (m : PacketView) (p : Packet) (from t : ℕ) (bytes : List ℕ) → IsPacketView m p → from ≡ m.from → bytes ≡ m.bytes.now → turn r (Turn.In from bytes, t) ≡ step_of r p t
unfolding turn input_of
turn_is r m p from t bytes is e f =
    ap (λ a. turn r (Turn.In a bytes, t)) (e ∙ is.from) ∙ ap (λ b. turn r (Turn.In p.from b, t)) (f ∙ is.bytes)
    ∙ ap (λ i. option_map_or (λ j. begin_step r j t) (option_map (Input.Came p.from) i) (begun r)) (datagram_of-bytes p.datagram is.fits)

pub taken : (k t : ℕ) (v : Cluster) (n : ℕ) (places : List Site) (r : Replica) (steps : List Draft) (p : Packet) (m : PacketView) (from : ℕ) (bytes : List ℕ) (w : World) (made : Step) → IsPacketView m p → from ≡ m.from → bytes ≡ m.bytes.now
    → NetworkStands w.network v.packets v.bytes
    → Makes made (turn r (Turn.In from bytes, t)) × MachinesPend k (steps ++ turn r (Turn.In from bytes, t) ∷ []) w.sites n (slice_set places k (Site.Up (turn r (Turn.In from bytes, t)).replica))
    → Makes made (step_of r p t) × HoldsBeside k (steps ++ step_of r p t ∷ []) w v n (slice_set places k (Site.Up (step_of r p t).replica))
taken k t v n places r steps p m from bytes w made is e g network stands =
    let whole : Makes made (turn r (Turn.In from bytes, t)) × HoldsBeside k (steps ++ turn r (Turn.In from bytes, t) ∷ []) w v n (slice_set places k (Site.Up (turn r (Turn.In from bytes, t)).replica)) =
    (stands.0, record { sites = stands.1; network = network }) in
    subst (λ (x : Draft). Makes made x × HoldsBeside k (steps ++ x ∷ []) w v n (slice_set places k (Site.Up x.replica))) (turn_is r m p from t bytes is e g) whole

pub nothing_gone : (v : Cluster) (t : ℕ) (w : World) (lines : List Line) → Holds w v → lines ≡ [] → Leads (all_gone t [] v) w lines
unfolding all_gone together world_after lines_of go_all
nothing_gone v t w lines h e = record { after = h; told = e }

pub receiver_for : (k : ℕ) (packets : List Packet) (i : ℕ) → IsFor k packets i → receiver_of packets i ≡ Some k
unfolding receiver_of
receiver_for k packets i f = ap (option_map {T = Packet} (λ m. m.to)) f.is ∙ ap Some f.receiver
