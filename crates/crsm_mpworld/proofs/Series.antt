-- Several deliveries, one by one.
use Rattle.std.proofs.Common.{◌≡◌, ◌<◌, ◌≤◌, ◌+◌, ℕ, zero, suc, Bool, true, false, cond, List, [], ◌∷◌, ◌++◌, length, get_or, drop, refl, ap, sym, ◌∙◌, subst, arith, append_assoc, append-nil}
use Rattle.std.specs.Prelude.{nat_le}
use Rattle.std.proofs.Math.Seq.{drop-cons}
use Rattle.crsm_base.specs.Limits.{most_world}
use Rattle.crsm_spec.specs.Acts.{Single}
use Rattle.crsm_mpspec.specs.declared.line.MpLine.{MpLine}
use Rattle.crsm_mpspec.specs.Moments.{single, go_each, world_after, lines_of}
use Rattle.crsm_mpspec.specs.World.{Packet, World, Moment, is_full, whole_step}
use Rattle.crsm_mpworld.specs.declared.world.MpWorld.{MpWorld}
use Rattle.crsm_mpworld.specs.Effects.{WorldLeadsOn, each_gone}
use Rattle.crsm_mpworld.specs.Packets.{MpNetworkStands}
use Rattle.crsm_mpworld.specs.World.{Holds, Leads}

-- the delivery of message i
abbrev gone : ℕ → ℕ → World → Moment
gone t i w = single whole_step w (Single.Go i t)

next : (is : List ℕ) (i : ℕ) → i < length is → drop i is ≡ get_or is i 0 ∷ drop (i + 1) is
next is i l = let e : suc i ≡ i + 1 = omega arith in drop-cons is i 0 l ∙ ap (λ n. get_or is i 0 ∷ drop n is) e

none_left : (is : List ℕ) (i : ℕ) → length is ≤ i → drop i is ≡ []
none_left [] zero l = refl
none_left [] (suc i) l = refl
none_left (x ∷ is) zero l = absurd (omega arith)
none_left (x ∷ is) (suc i) l = none_left is i (omega arith)

-- the world after the first i deliveries, and what is still to come of the others
pub record Going (v : World) (t : ℕ) (is : List ℕ) (i : ℕ) (w : MpWorld) (lines : List MpLine) : Type 0 where
  pub now : World
  pub held : Holds w now
  pub after : world_after v (go_each t is v) ≡ world_after now (go_each t (drop i is) now)
  pub told : lines ++ lines_of (go_each t (drop i is) now) ≡ lines_of (go_each t is v)

pub each_begins : (v : World) (t : ℕ) (is : List ℕ) (w : MpWorld) (lines : List MpLine) → Holds w v → lines ≡ [] → Going v t is 0 w lines
each_begins v t is w lines h e = record { now = v; held = h; after = refl; told = ap (λ ls. ls ++ lines_of (go_each t is v)) e }

full_as : (w : MpWorld) (now : World) (b x : Bool) → Holds w now → ((packets : List Packet) (bytes : ℕ) → MpNetworkStands w.network packets bytes → b ≡ nat_le most_world bytes) → b ≡ x → is_full now ≡ x
unfolding is_full
full_as w now b x h f e = sym (f now.packets now.bytes h.network) ∙ e

going_on : (t i : ℕ) (is : List ℕ) (now : World) → is_full now ≡ false → go_each t (i ∷ is) now ≡ gone t i now ∷ go_each t is (gone t i now).after
unfolding go_each
going_on t i is now e = ap (λ b. cond b [] (gone t i now ∷ go_each t is (gone t i now).after)) e

going_no_more : (t i : ℕ) (is : List ℕ) (now : World) → is_full now ≡ true → go_each t (i ∷ is) now ≡ []
unfolding go_each
going_no_more t i is now e = ap (λ b. cond b [] (gone t i now ∷ go_each t is (gone t i now).after)) e

after_first : (w : World) (m : Moment) (ms : List Moment) → world_after w (m ∷ ms) ≡ world_after m.after ms
unfolding world_after
after_first w m ms = refl

lines_first : (m : Moment) (ms : List Moment) → lines_of (m ∷ ms) ≡ m.lines ++ lines_of ms
unfolding lines_of
lines_first m ms = refl

pub each_next : (v : World) (t : ℕ) (is : List ℕ) (i : ℕ) (w new : MpWorld) (lines all : List MpLine) (b : Bool) → Going v t is i w lines → i < length is
    → ((packets : List Packet) (bytes : ℕ) → MpNetworkStands w.network packets bytes → b ≡ nat_le most_world bytes) → b ≡ false
    → ((u : World) → Holds w u → (s : ℕ) → WorldLeadsOn (gone s (get_or is i 0) u) new lines all) → Going v t is (i + 1) new all
each_next v t is i w new lines all b g l f e step =
    let x = get_or is i 0 in
    let m = gone t x g.now in
    let went = step g.now g.held t in
    let rest : go_each t (drop i is) g.now ≡ m ∷ go_each t (drop (i + 1) is) m.after = ap (λ js. go_each t js g.now) (next is i l) ∙ going_on t x (drop (i + 1) is) g.now (full_as w g.now b false g.held f e) in
    record {
      now = m.after;
      held = record { n = went.count; sites = went.places; network = went.packets };
      after = g.after ∙ ap (world_after g.now) rest ∙ after_first g.now m _;
      told = ap (λ ls. ls ++ lines_of (go_each t (drop (i + 1) is) m.after)) went.told ∙ append_assoc lines m.lines _
          ∙ ap (λ ls. lines ++ ls) (sym (lines_first m _)) ∙ ap (λ ms. lines ++ lines_of ms) (sym rest) ∙ g.told;
    }

stopped : (v : World) (t : ℕ) (is : List ℕ) (i : ℕ) (w : MpWorld) (lines : List MpLine) (g : Going v t is i w lines) → go_each t (drop i is) g.now ≡ [] → Leads (each_gone t is v) w lines
unfolding each_gone world_after lines_of
stopped v t is i w lines g e = record {
  after = subst (λ (u : World). Holds w u) (sym (g.after ∙ ap (world_after g.now) e)) g.held;
  told = sym (append-nil lines) ∙ ap (λ ms. lines ++ lines_of ms) (sym e) ∙ g.told;
}

pub each_full : (v : World) (t : ℕ) (is : List ℕ) (i : ℕ) (w : MpWorld) (lines : List MpLine) (b : Bool) → Going v t is i w lines → i < length is
    → ((packets : List Packet) (bytes : ℕ) → MpNetworkStands w.network packets bytes → b ≡ nat_le most_world bytes) → b ≡ true → Leads (each_gone t is v) w lines
each_full v t is i w lines b g l f e =
    stopped v t is i w lines g (ap (λ js. go_each t js g.now) (next is i l) ∙ going_no_more t (get_or is i 0) (drop (i + 1) is) g.now (full_as w g.now b true g.held f e))

pub each_ends : (v : World) (t : ℕ) (is : List ℕ) (i : ℕ) (w : MpWorld) (lines : List MpLine) → Going v t is i w lines → length is ≤ i → Leads (each_gone t is v) w lines
unfolding go_each
each_ends v t is i w lines g l = stopped v t is i w lines g (ap (λ js. go_each t js g.now) (none_left is i l))
