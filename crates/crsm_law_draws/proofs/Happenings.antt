-- Every moment of a possible act that starts no replica but the first ones is such a happening.
use Rattle.std.proofs.Common.{◌≡◌, ℕ, ◌<◌, List, [], ◌∷◌, length, refl, sym, subst, inl, Bool, true, false, cond, arith}
use Rattle.std.specs.Prelude.{◌^◌, Option, Some, None, ◌&&◌, nat_lt, nat_le, fold, slice_get}
use Rattle.std.specs.List.{list_any}
use Rattle.std.proofs.lemmas.Bool.{leb-false, or_parts}
use Rattle.std.proofs.lemmas.Option.{none-some}
use Rattle.crsm_spec.specs.Types.{Datagram}
use Rattle.crsm_spec.specs.Lists.{has, numbers_below}
use Rattle.crsm_spec.specs.Draft.{Draft, begun}
use Rattle.crsm_spec.specs.Step.{Input, step}
use Rattle.crsm_spec.specs.World.{Site, Packet, World, Moment, Ending, is_full, whole_step, cut_step, lost_step, down, after_step, then_down}
use Rattle.crsm_spec.specs.Acts.{Single, Act, Bad, FitsSingle, FitsAct}
use Rattle.crsm_spec.specs.Moments.{use_up, silent, begun_at, step_at_site, step_at, come, junk_at, single, deliverable, go_each, go_all, lose_batch, cut_at, is_kept, start_at, moments_of}
use Rattle.crsm_spec.specs.Possible.{first_bad, possible, causes_of, causes_of_single, is_none_of}
use Rattle.crsm_law_steps.specs.Happenings.{Marks, WasSent, CanCome, Ends, Happens, IsReached}
use Rattle.crsm_law_steps.specs.Happenings.Marks.{none, mark}
use Rattle.crsm_law_steps.specs.Happenings.CanCome.{IsPacket, IsCommand, IsReply, IsTick, IsSuspicion}
use Rattle.crsm_law_steps.specs.Happenings.Ends.{IsWhole, IsCut, IsLost}
use Rattle.crsm_law_steps.specs.Happenings.Happens.{Nothing, Steps, Junk, Stops, Joins, Starts}
use Rattle.crsm_law_steps.specs.Happenings.IsReached.{first, next}
use Rattle.crsm_fact_log.proofs.Lists.{has_in}
use Rattle.crsm_law_epoch.proofs.Words.{is_range}
use Rattle.crsm_law_steps.proofs.Happen.{IsEnding, got_among, sent_before}
use Rattle.crsm_law_draws.specs.Founders.{StartsAFounder}
use Rattle.crsm_law_draws.proofs.Decisions.{AreFounders}

-- ---- happenings among the first n replicas

abbrev pub AsksFounders : ℕ → {w : World} {k : ℕ} {input : Input} → CanCome w k input → Type 0
AsksFounders n (IsPacket from d s) = Unit {0}
AsksFounders n (IsCommand address c f) = Unit {0}
AsksFounders n (IsReply address client number told) = Unit {0}
AsksFounders n IsTick = Unit {0}
AsksFounders n (IsSuspicion ms f) = AreFounders n ms

abbrev pub IsOfFounders : ℕ → {w : World} {m : Moment} → Happens w m → Type 0
IsOfFounders n (Nothing v p) = Unit {0}
IsOfFounders n (Steps v p k r e input reading lt c m ends) = AsksFounders n c
IsOfFounders n (Junk k r e m ends) = Unit {0}
IsOfFounders n (Stops k) = Unit {0}
IsOfFounders n (Joins f) = ⊥
IsOfFounders n (Starts k d f) = k < n

-- a history of such happenings
abbrev pub HasHistory : {n : ℕ} {w : World} → IsReached n w → Type 0
HasHistory first = Unit {0}
HasHistory {n} (next q h) = HasHistory q × IsOfFounders n h

-- each of these moments can happen after the one before, among the first n replicas
abbrev pub GoOn : ℕ → World → List Moment → Type 0
GoOn n w [] = Unit {0}
GoOn n w (m ∷ ms) = ((h : Happens w m) × IsOfFounders n h) × GoOn n m.after ms

-- ---- steps

whole_is : IsEnding whole_step
whole_is w k x = IsWhole

cut_is : (count : ℕ) → IsEnding (cut_step count)
cut_is count w k x = IsCut count

lost_is : IsEnding lost_step
lost_is w k x = IsLost

cut_at_is : (calls fill : ℕ) → IsEnding (cut_at calls fill)
unfolding cut_at
cut_at_is calls fill w k x = go (is_kept calls fill && nat_lt 0 (length x.batch))
  where
    go : (c : Bool) → Ends w k x (cond c (cut_step 0 w k x) (lost_step w k x))
    go true = IsCut 0
    go false = IsLost

begins_there : (w : World) (k : ℕ) (x : Draft) (m : Moment) → Ends w k x m → m ≡ begun_at w m
unfolding whole_step cut_step lost_step then_down after_step down begun_at
begins_there w k x m IsWhole = refl
begins_there w k x m (IsCut count) = refl
begins_there w k x m IsLost = refl

twice_begun : (v w : World) (m : Moment) → begun_at w (begun_at v m) ≡ begun_at w m
unfolding begun_at
twice_begun v w m = refl

-- none of them is past the n replicas that there are
are_founders : (n size : ℕ) (ms : List ℕ) → size ≡ n → list_any (nat_le size) ms ≡ false → AreFounders n ms
unfolding numbers_below
are_founders n size [] e h = refl
are_founders n size (k ∷ ms) e h =
    let p = or_parts (nat_le size k) (list_any (nat_le size) ms) h in
    let below : k < n = let l = leb-false size k p.0 in omega (arith, l, e) in
    let here : has (numbers_below n) k ≡ true = founder k below in
    rw (here) (are_founders n size ms e p.1)
  where
    founder : (k : ℕ) → k < n → has (numbers_below n) k ≡ true
    founder k below = has_in (numbers_below n) k (is_range 0 n k (omega arith) (omega (arith, below)))

no_cause : (c : Bool × Bad) (cs : List (Bool × Bad)) → first_bad (c ∷ cs) ≡ None → (c.0 ≡ false) × (first_bad cs ≡ None)
unfolding first_bad
no_cause (true, b) cs h = absurd (none-some b (sym h))
no_cause (false, b) cs h = (refl, h)

module _ (n : ℕ) where
  abbrev SingleAsks : Single → Type 0
  SingleAsks (Single.Suspect k t ms) = AreFounders n ms
  SingleAsks _ = Unit {0}

  abbrev IsAt : World → Moment → Type 0
  IsAt w m = (h : Happens w m) × IsOfFounders n h

  silent_is : (w v : World) → Marks w v → IsAt w (begun_at w (silent v v))
  unfolding begun_at silent
  silent_is w v p = (Nothing v p, tt)

  at_site : (ends : Ending) → IsEnding ends → (w v : World) → Marks w v → (k : ℕ) (i : Input) (t : ℕ) → t < 2 ^ 64 → (c : CanCome w k i) → AsksFounders n c → (o : Option Site) → slice_get v.sites k ≡ o →
      IsAt w (begun_at w (step_at_site ends v k i t o))
  unfolding step_at_site
  at_site ends h w v p k i t lt c b (Some (Site.Up r)) e = (Steps v p k r e i t lt c _ (h v k (step r i t)), b)
  at_site ends h w v p k i t lt c b (Some (Site.Down log)) e = silent_is w v p
  at_site ends h w v p k i t lt c b None e = silent_is w v p

  comes : (ends : Ending) → IsEnding ends → (w v : World) → Marks w v → (t : ℕ) → t < 2 ^ 64 → (o : Option Packet) → ((m : Packet) → o ≡ Some m → WasSent w m.from m.to m.datagram) →
      IsAt w (begun_at w (come ends v t o))
  unfolding come step_at
  comes ends h w v p t lt None g = silent_is w v p
  comes ends h w v p t lt (Some m) g = at_site ends h w v p m.to (Input.Came m.from m.datagram) t lt (IsPacket m.from m.datagram (g m refl)) tt (slice_get v.sites m.to) refl

  got_sent : (w : World) (i : ℕ) (m : Packet) → slice_get w.packets i ≡ Some m → WasSent w m.from m.to m.datagram
  got_sent w i m e = (m.used, got_among w.packets i m e)

  unmarked : (ends : Ending) → IsEnding ends → (w : World) (k : ℕ) (i : Input) (t : ℕ) (o : Option Site) → step_at_site ends w k i t o ≡ begun_at w (step_at_site ends w k i t o)
  unfolding step_at_site silent begun_at
  unmarked ends h w k i t (Some (Site.Up r)) = begins_there w k (step r i t) _ (h w k (step r i t))
  unmarked ends h w k i t (Some (Site.Down log)) = refl
  unmarked ends h w k i t None = refl

  at_once : (ends : Ending) → IsEnding ends → (w : World) (k : ℕ) (i : Input) (t : ℕ) → t < 2 ^ 64 → (c : CanCome w k i) → AsksFounders n c → IsAt w (step_at ends w k i t)
  unfolding step_at
  at_once ends h w k i t lt c b = subst (IsAt w) (sym (unmarked ends h w k i t (slice_get w.sites k))) (at_site ends h w w none k i t lt c b (slice_get w.sites k) refl)

  comes_once : (ends : Ending) → IsEnding ends → (w : World) (t : ℕ) → t < 2 ^ 64 → (o : Option Packet) → ((m : Packet) → o ≡ Some m → WasSent w m.from m.to m.datagram) → IsAt w (come ends w t o)
  unfolding come
  comes_once ends h w t lt None g = (Nothing w none, tt)
  comes_once ends h w t lt (Some m) g = at_once ends h w m.to (Input.Came m.from m.datagram) t lt (IsPacket m.from m.datagram (g m refl)) tt

  junks : (ends : Ending) → IsEnding ends → (w : World) (k : ℕ) (o : Option Site) → slice_get w.sites k ≡ o → IsAt w (junk_at ends w k o)
  unfolding junk_at
  junks ends h w k (Some (Site.Up r)) e = subst (IsAt w) (sym (begins_there w k (begun r) _ (h w k (begun r)))) (Junk k r e _ (h w k (begun r)), tt)
  junks ends h w k (Some (Site.Down log)) e = (Nothing w none, tt)
  junks ends h w k None e = (Nothing w none, tt)

  singles : (ends : Ending) → IsEnding ends → (w : World) (s : Single) → FitsSingle s → SingleAsks s → IsAt w (single ends w s)
  unfolding single
  singles ends h w (Single.Request k t c) f by = at_once ends h w k (Input.Came c.client (Datagram.Request c)) t f.1 (IsCommand c.client c f.2) tt
  singles ends h w (Single.Go i t) f by = comes ends h w (use_up i w) (mark i none) t f.1 (slice_get w.packets i) (λ m e. got_sent w i m e)
  singles ends h w (Single.Again i t) f by = comes_once ends h w t f.1 (slice_get w.packets i) (λ m e. got_sent w i m e)
  singles ends h w (Single.Tick k t) f by = at_once ends h w k Input.Ticked t f.1 IsTick tt
  singles ends h w (Single.Suspect k t ms) f by = at_once ends h w k (Input.Suspected ms) t f.1 (IsSuspicion ms f.2) by
  singles ends h w (Single.Junk k t bytes) f by = junks ends h w k (slice_get w.sites k) refl

  -- a possible suspicion names replicas that there are
  single_asks : (w : World) (s : Single) → length w.sites ≡ n → first_bad (causes_of_single w s) ≡ None → SingleAsks s
  unfolding causes_of_single is_none_of
  single_asks w (Single.Request k t c) e p = tt
  single_asks w (Single.Go i t) e p = tt
  single_asks w (Single.Again i t) e p = tt
  single_asks w (Single.Tick k t) e p = tt
  single_asks w (Single.Suspect k t ms) e p = are_founders n (length w.sites) ms e (or_parts (nat_le (length w.sites) k) _ (no_cause _ _ p).0).1
  single_asks w (Single.Junk k t bytes) e p = tt

  -- ---- acts

  delivers : (t i : ℕ) → t < 2 ^ 64 → (w : World) → IsAt w (single whole_step w (Single.Go i t))
  unfolding single
  delivers t i lt w = comes whole_step whole_is w (use_up i w) (mark i none) t lt (slice_get w.packets i) (λ m e. got_sent w i m e)

  each_when : (w : World) (ms : List Moment) (c : Bool) → GoOn n w ms → GoOn n w (cond c [] ms)
  each_when w ms true g = tt
  each_when w ms false g = g

  goes_each : (t : ℕ) → t < 2 ^ 64 → (is : List ℕ) (w : World) → GoOn n w (go_each t is w)
  unfolding go_each
  goes_each t lt [] w = tt
  goes_each t lt (i ∷ is) w =
      let m = single whole_step w (Single.Go i t) in
      let h : IsAt w m = delivers t i lt w in
      each_when w (m ∷ go_each t is m.after) (is_full w) (h, goes_each t lt is m.after)

  goes_all : (t : ℕ) → t < 2 ^ 64 → (is : List ℕ) (w : World) → GoOn n w (go_all t is w)
  unfolding go_all
  goes_all t lt [] w = tt
  goes_all t lt (i ∷ is) w =
      let m = single whole_step w (Single.Go i t) in
      let h : IsAt w m = delivers t i lt w in
      (h, goes_all t lt is m.after)

  marks_all : (is : List ℕ) (w v : World) → Marks w v → Marks w (fold (λ u j. use_up j u) v is)
  marks_all [] w v p = p
  marks_all (i ∷ is) w v p = marks_all is w (use_up i v) (mark i p)

  loses : (t : ℕ) → t < 2 ^ 64 → (is : List ℕ) (w : World) → IsAt w (lose_batch t is w)
  unfolding lose_batch single
  loses t lt [] w = (Nothing w none, tt)
  loses t lt (i ∷ is) w =
      let v = fold (λ u j. use_up j u) w is in
      let p : Marks w v = marks_all is w w none in
      subst (IsAt w) (sym (twice_begun v w (come lost_step (use_up i v) t (slice_get v.packets i))))
      (comes lost_step lost_is w (use_up i v) (mark i p) t lt (slice_get v.packets i) (λ m e. sent_before p m.from m.to m.datagram (got_sent v i m e)))

  -- what starts is one of them
  starts : (w : World) (k : ℕ) → length w.sites ≡ n → k < n → possible w (Act.Start k) ≡ None → IsAt w (start_at w k)
  unfolding possible causes_of is_none_of
  starts w k e lt p =
      let q = no_cause _ _ (no_cause _ _ (no_cause (is_full w, Bad.Full w.bytes) _ p).1).1 in
      (Starts k q.0 (inl (omega (arith, lt, e))), lt)

  pub act_goes_on : (w : World) (a : Act) → FitsAct a → possible w a ≡ None → StartsAFounder n a → length w.sites ≡ n → GoOn n w (moments_of w a)
  unfolding moments_of possible causes_of
  act_goes_on w (Act.One s) f p b e = (singles whole_step whole_is w s f (single_asks w s e (no_cause _ _ p).1), tt)
  act_goes_on w (Act.Lose i) f p b e = ((Nothing (use_up i w) (mark i none), tt), tt)
  act_goes_on w (Act.Crash k) f p b e = ((Stops k, tt), tt)
  act_goes_on w (Act.Start k) f p b e = (starts w k e b p, tt)
  act_goes_on w (Act.Settle t) f p b e = goes_each t f (deliverable w) w
  act_goes_on w (Act.CutLost s) f p b e = (singles lost_step lost_is w s f (single_asks w s e (no_cause _ _ p).1), tt)
  act_goes_on w (Act.CutKept count s) f p b e = (singles (cut_step count) (cut_is count) w s f.1 (single_asks w s e (no_cause _ _ p).1), tt)
  act_goes_on w (Act.Batch t is) f p b e = goes_all t f.0 is w
  act_goes_on w (Act.CutLostBatch t is) f p b e = (loses t f.0 is w, tt)
  act_goes_on w (Act.CutAt calls fill s) f p b e = (singles (cut_at calls fill) (cut_at_is calls fill) w s f.2 (single_asks w s e (no_cause _ _ p).1), tt)
