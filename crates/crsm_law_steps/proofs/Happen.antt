-- Every moment of a possible act is one that can happen.
use Rattle.std.proofs.Common.{◌≡◌, ℕ, zero, suc, ◌<◌, List, [], ◌∷◌, ◌++◌, length, refl, sym, ap, subst, inl, inr, Bool, true, false, cond, map}
use Rattle.std.specs.Prelude.{◌⊎◌, ◌^◌, Option, Some, None, ◌==◌, ◌&&◌, not, nat_lt, fold, slice_get, slice_set}
use Rattle.std.specs.Option.{option_map_or}
use Rattle.std.specs.List.{AllByRecursion}
use Rattle.std.proofs.lemmas.Bool.{and_parts, eqb-true, not-false, ltb-true, leb-false}
use Rattle.std.proofs.lemmas.Option.{none-some, same_Some}
use Rattle.crsm_spec.specs.Types.{Command, Datagram}
use Rattle.crsm_spec.specs.Lists.{Among}
use Rattle.crsm_spec.specs.Draft.{Draft, begun}
use Rattle.crsm_spec.specs.Step.{Input, step}
use Rattle.crsm_spec.specs.World.{Site, Packet, World, Moment, Ending, begin, is_full, whole_step, cut_step, lost_step, down, after_step, then_down}
use Rattle.crsm_spec.specs.Acts.{Single, Act, Bad, FitsSingle, FitsAct}
use Rattle.crsm_spec.specs.Moments.{use_up, silent, begun_at, step_at_site, step_at, come, junk_at, single, deliverable, go_each, go_all, lose_batch, cut_at, is_kept, start_at, moments_of, world_after, act}
use Rattle.crsm_spec.specs.Possible.{first_bad, possible, causes_of, is_none_of, is_next_new}
use Rattle.crsm_spec.specs.Run.{ArePossible, moments, moments_of_run, all_worlds}
use Rattle.crsm_spec.specs.Safe.{command_of_single, command_of}
use Rattle.crsm_law_steps.specs.Happenings.{Marks, WasSent, CanCome, Ends, Happens, IsReached, Brings, IsLedBy, GoOnBy, GoOn}
use Rattle.crsm_law_steps.specs.Happenings.Marks.{none, mark}
use Rattle.crsm_law_steps.specs.Happenings.CanCome.{IsPacket, IsCommand, IsTick, IsSuspicion}
use Rattle.crsm_law_steps.specs.Happenings.Ends.{IsWhole, IsCut, IsLost}
use Rattle.crsm_law_steps.specs.Happenings.Happens.{Nothing, Steps, Junk, Stops, Joins, Starts}
use Rattle.crsm_law_steps.specs.Happenings.IsReached.{first, next}
use Rattle.crsm_law_steps.specs.Laws.{IsRunOf}

-- ---- marks

pub got_among : {A : Type 0} (xs : List A) (i : ℕ) (x : A) → slice_get xs i ≡ Some x → Among xs x
got_among [] i x h = absurd (none-some x h)
got_among (y ∷ ys) zero x h = inl (same_Some y x h)
got_among (y ∷ ys) (suc i) x h = inr (got_among ys i x h)

pub among_set : {A : Type 0} (xs : List A) (i : ℕ) (y z : A) → Among (slice_set xs i y) z → (y ≡ z) ⊎ Among xs z
among_set [] i y z h = absurd h
among_set (x ∷ xs) zero y z (inl e) = inl e
among_set (x ∷ xs) zero y z (inr h) = inr (inr h)
among_set (x ∷ xs) (suc i) y z (inl e) = inr (inl e)
among_set (x ∷ xs) (suc i) y z (inr h) = elim (among_set xs i y z h) [ inl e ↦ inl e | inr g ↦ inr (inr g) ]

-- what was sent in a marked world was sent
sent_before_mark : (i : ℕ) (v : World) (from to : ℕ) (d : Datagram) → WasSent (use_up i v) from to d → WasSent v from to d
unfolding use_up
sent_before_mark i v from to d (used, h) = go (slice_get v.packets i) refl h
  where
    go : (o : Option Packet) → slice_get v.packets i ≡ o → Among (option_map_or (λ m. slice_set v.packets i (record m { used = true })) o v.packets) (record { from = from; to = to; datagram = d; used = used }) →
        WasSent v from to d
    go None e a = (used, a)
    go (Some m) e a = elim (among_set v.packets i (record m { used = true }) (record { from = from; to = to; datagram = d; used = used }) a) [
      | inl w ↦ (m.used, subst (Among v.packets) (ap (λ (q : Packet). record q { used = m.used }) w) (got_among v.packets i m e))
      | inr b ↦ (used, b)
    ]

pub sent_before : {w v : World} → Marks w v → (from to : ℕ) (d : Datagram) → WasSent v from to d → WasSent w from to d
sent_before none from to d h = h
sent_before (mark {v = v} i p) from to d h = sent_before p from to d (sent_before_mark i v from to d h)

-- ---- steps

-- an ending is one of the three, for each world and step
abbrev pub IsEnding : Ending → Type 0
IsEnding ends = (w : World) (k : ℕ) (x : Draft) → Ends w k x (ends w k x)

whole_is : IsEnding whole_step
whole_is w k x = IsWhole

cut_is : (count : ℕ) → IsEnding (cut_step count)
cut_is count w k x = IsCut count

lost_is : IsEnding lost_step
lost_is w k x = IsLost

cut_at_is : (calls fill : ℕ) → IsEnding (cut_at calls fill)
unfolding cut_at
cut_at_is calls fill w k x = go (is_kept calls fill && nat_lt 0 (length x.batch))
  where
    go : (c : Bool) → Ends w k x (cond c (cut_step 0 w k x) (lost_step w k x))
    go true = IsCut 0
    go false = IsLost

-- a moment of an ending begins at its world
begins_there : (w : World) (k : ℕ) (x : Draft) (m : Moment) → Ends w k x m → m ≡ begun_at w m
unfolding whole_step cut_step lost_step then_down after_step down begun_at
begins_there w k x m IsWhole = refl
begins_there w k x m (IsCut count) = refl
begins_there w k x m IsLost = refl

twice_begun : (v w : World) (m : Moment) → begun_at w (begun_at v m) ≡ begun_at w m
unfolding begun_at
twice_begun v w m = refl

module _ (led : Act) where
  -- a moment of w as one that begins at w
  abbrev pub IsAt : World → Moment → Type 0
  IsAt w m = (m.before ≡ w) × (h : Happens w m) × IsLedBy led h

  silent_is : (w v : World) → Marks w v → IsAt w (begun_at w (silent v v))
  unfolding begun_at silent
  silent_is w v p = (refl, Nothing v p, tt)

  begun_before : (w : World) (m : Moment) → (begun_at w m).before ≡ w
  unfolding begun_at
  begun_before w m = refl

  at_site : (ends : Ending) → IsEnding ends → (w v : World) → Marks w v → (k : ℕ) (i : Input) (t : ℕ) → t < 2 ^ 64 → (c : CanCome w k i) → Brings led c → (o : Option Site) → slice_get v.sites k ≡ o →
      IsAt w (begun_at w (step_at_site ends v k i t o))
  unfolding step_at_site
  at_site ends h w v p k i t lt c b (Some (Site.Up r)) e = (begun_before w _, Steps v p k r e i t lt c _ (h v k (step r i t)), b)
  at_site ends h w v p k i t lt c b (Some (Site.Down log)) e = silent_is w v p
  at_site ends h w v p k i t lt c b None e = silent_is w v p

  at : (ends : Ending) → IsEnding ends → (w v : World) → Marks w v → (k : ℕ) (i : Input) (t : ℕ) → t < 2 ^ 64 → (c : CanCome w k i) → Brings led c → IsAt w (begun_at w (step_at ends v k i t))
  unfolding step_at
  at ends h w v p k i t lt c b = at_site ends h w v p k i t lt c b (slice_get v.sites k) refl

  comes : (ends : Ending) → IsEnding ends → (w v : World) → Marks w v → (t : ℕ) → t < 2 ^ 64 → (o : Option Packet) → ((m : Packet) → o ≡ Some m → WasSent w m.from m.to m.datagram) →
      IsAt w (begun_at w (come ends v t o))
  unfolding come
  comes ends h w v p t lt None g = silent_is w v p
  comes ends h w v p t lt (Some m) g = at ends h w v p m.to (Input.Came m.from m.datagram) t lt (IsPacket m.from m.datagram (g m refl)) tt

  -- a datagram of the mail was sent
  got_sent : (w : World) (i : ℕ) (m : Packet) → slice_get w.packets i ≡ Some m → WasSent w m.from m.to m.datagram
  got_sent w i m e = (m.used, got_among w.packets i m e)

  -- where nothing is marked the moment is as it stands
  unmarked : (ends : Ending) → IsEnding ends → (w : World) (k : ℕ) (i : Input) (t : ℕ) (o : Option Site) → step_at_site ends w k i t o ≡ begun_at w (step_at_site ends w k i t o)
  unfolding step_at_site silent begun_at
  unmarked ends h w k i t (Some (Site.Up r)) = begins_there w k (step r i t) _ (h w k (step r i t))
  unmarked ends h w k i t (Some (Site.Down log)) = refl
  unmarked ends h w k i t None = refl

  at_once : (ends : Ending) → IsEnding ends → (w : World) (k : ℕ) (i : Input) (t : ℕ) → t < 2 ^ 64 → (c : CanCome w k i) → Brings led c → IsAt w (step_at ends w k i t)
  unfolding step_at
  at_once ends h w k i t lt c b = subst (IsAt w) (sym (unmarked ends h w k i t (slice_get w.sites k))) (at_site ends h w w none k i t lt c b (slice_get w.sites k) refl)

  comes_once : (ends : Ending) → IsEnding ends → (w : World) (t : ℕ) → t < 2 ^ 64 → (o : Option Packet) → ((m : Packet) → o ≡ Some m → WasSent w m.from m.to m.datagram) → IsAt w (come ends w t o)
  unfolding come silent
  comes_once ends h w t lt None g = (refl, Nothing w none, tt)
  comes_once ends h w t lt (Some m) g = at_once ends h w m.to (Input.Came m.from m.datagram) t lt (IsPacket m.from m.datagram (g m refl)) tt

  junks : (ends : Ending) → IsEnding ends → (w : World) (k : ℕ) (o : Option Site) → slice_get w.sites k ≡ o → IsAt w (junk_at ends w k o)
  unfolding junk_at silent
  junks ends h w k (Some (Site.Up r)) e = subst (IsAt w) (sym (begins_there w k (begun r) _ (h w k (begun r)))) (begun_before w _, Junk k r e _ (h w k (begun r)), tt)
  junks ends h w k (Some (Site.Down log)) e = (refl, Nothing w none, tt)
  junks ends h w k None e = (refl, Nothing w none, tt)

  singles : (ends : Ending) → IsEnding ends → (w : World) (s : Single) → FitsSingle s → ((c : Command) → command_of_single s ≡ Some c → command_of (Some led) ≡ Some c) → IsAt w (single ends w s)
  unfolding single command_of_single
  singles ends h w (Single.Request k t c) f by = at_once ends h w k (Input.Came c.client (Datagram.Request c)) t f.1 (IsCommand c.client c f.2) (by c refl)
  singles ends h w (Single.Go i t) f by = comes ends h w (use_up i w) (mark i none) t f.1 (slice_get w.packets i) (λ m e. got_sent w i m e)
  singles ends h w (Single.Again i t) f by = comes_once ends h w t f.1 (slice_get w.packets i) (λ m e. got_sent w i m e)
  singles ends h w (Single.Tick k t) f by = at_once ends h w k Input.Ticked t f.1 IsTick tt
  singles ends h w (Single.Suspect k t ms) f by = at_once ends h w k (Input.Suspected ms) t f.1 (IsSuspicion ms f.2) tt
  singles ends h w (Single.Junk k t bytes) f by = junks ends h w k (slice_get w.sites k) refl

  -- ---- acts

  one_at : (w : World) (m : Moment) → IsAt w m → GoOnBy led w (m ∷ [])
  one_at w m h = (h.0, (h.1, h.2), tt)

  each_when : (w : World) (ms : List Moment) (c : Bool) → GoOnBy led w ms → GoOnBy led w (cond c [] ms)
  each_when w ms true g = tt
  each_when w ms false g = g

  delivers : (t i : ℕ) → t < 2 ^ 64 → (w : World) → IsAt w (single whole_step w (Single.Go i t))
  unfolding single
  delivers t i lt w = comes whole_step whole_is w (use_up i w) (mark i none) t lt (slice_get w.packets i) (λ m e. got_sent w i m e)

  goes_each : (t : ℕ) → t < 2 ^ 64 → (is : List ℕ) (w : World) → GoOnBy led w (go_each t is w)
  unfolding go_each
  goes_each t lt [] w = tt
  goes_each t lt (i ∷ is) w =
      let m = single whole_step w (Single.Go i t) in
      let h : IsAt w m = delivers t i lt w in
      each_when w (m ∷ go_each t is m.after) (is_full w) (h.0, (h.1, h.2), goes_each t lt is m.after)

  goes_all : (t : ℕ) → t < 2 ^ 64 → (is : List ℕ) (w : World) → GoOnBy led w (go_all t is w)
  unfolding go_all
  goes_all t lt [] w = tt
  goes_all t lt (i ∷ is) w =
      let m = single whole_step w (Single.Go i t) in
      let h : IsAt w m = delivers t i lt w in
      (h.0, (h.1, h.2), goes_all t lt is m.after)

  marks_all : (is : List ℕ) (w v : World) → Marks w v → Marks w (fold (λ u j. use_up j u) v is)
  marks_all [] w v p = p
  marks_all (i ∷ is) w v p = marks_all is w (use_up i v) (mark i p)

  loses : (t : ℕ) → t < 2 ^ 64 → (is : List ℕ) (w : World) → IsAt w (lose_batch t is w)
  unfolding lose_batch single silent
  loses t lt [] w = (refl, Nothing w none, tt)
  loses t lt (i ∷ is) w =
      let v = fold (λ u j. use_up j u) w is in
      let p : Marks w v = marks_all is w w none in
      subst (IsAt w) (sym (twice_begun v w (come lost_step (use_up i v) t (slice_get v.packets i))))
      (comes lost_step lost_is w (use_up i v) (mark i p) t lt (slice_get v.packets i) (λ m e. sent_before p m.from m.to m.datagram (got_sent v i m e)))

-- what is possible meets no cause
started_before : (w : World) (k : ℕ) → (start_at w k).before ≡ w
unfolding start_at begun_at
started_before w k = refl

no_cause : (c : Bool × Bad) (cs : List (Bool × Bad)) → first_bad (c ∷ cs) ≡ None → (c.0 ≡ false) × (first_bad cs ≡ None)
unfolding first_bad
no_cause (true, b) cs h = absurd (none-some b (sym h))
no_cause (false, b) cs h = (refl, h)

starts : (w : World) (k : ℕ) → possible w (Act.Start k) ≡ None → IsAt (Act.Start k) w (start_at w k)
unfolding possible causes_of is_none_of is_next_new
starts w k h =
    let p = no_cause _ _ (no_cause (is_full w, Bad.Full w.bytes) _ h).1 in
    let q = no_cause _ _ p.1 in
    (started_before w k, Starts k q.0 (go (is_none_of w k) refl p.0), tt)
  where
    go : (c : Bool) → is_none_of w k ≡ c → (c && not (is_next_new w k)) ≡ false → (k < length w.sites) ⊎ ((k ≡ length w.sites) × (k < 15))
    go true e f = let t = and_parts (k == length w.sites) (nat_lt k 15) (not-false (is_next_new w k) f) in inr (eqb-true k (length w.sites) t.0, ltb-true k 15 t.1)
    go false e f = inl (leb-false (length w.sites) k e)

pub act_leads : (w : World) (a : Act) → FitsAct a → possible w a ≡ None → GoOnBy a w (moments_of w a)
unfolding moments_of silent down command_of
act_leads w (Act.One s) f p = one_at (Act.One s) w _ (singles (Act.One s) whole_step whole_is w s f (λ c e. e))
act_leads w (Act.Lose i) f p = one_at (Act.Lose i) w _ (refl, Nothing (use_up i w) (mark i none), tt)
act_leads w (Act.Crash k) f p = one_at (Act.Crash k) w _ (refl, Stops k, tt)
act_leads w (Act.Start k) f p = one_at (Act.Start k) w _ (starts w k p)
act_leads w (Act.Settle t) f p = goes_each (Act.Settle t) t f (deliverable w) w
act_leads w (Act.CutLost s) f p = one_at (Act.CutLost s) w _ (singles (Act.CutLost s) lost_step lost_is w s f (λ c e. e))
act_leads w (Act.CutKept count s) f p = one_at (Act.CutKept count s) w _ (singles (Act.CutKept count s) (cut_step count) (cut_is count) w s f.1 (λ c e. e))
act_leads w (Act.Batch t is) f p = goes_all (Act.Batch t is) t f.0 is w
act_leads w (Act.CutLostBatch t is) f p = one_at (Act.CutLostBatch t is) w _ (loses (Act.CutLostBatch t is) t f.0 is w)
act_leads w (Act.CutAt calls fill s) f p = one_at (Act.CutAt calls fill s) w _ (singles (Act.CutAt calls fill s) (cut_at calls fill) (cut_at_is calls fill) w s f.2 (λ c e. e))

happens_by : (a : Act) (w : World) (ms : List Moment) → GoOnBy a w ms → GoOn w ms
happens_by a w [] g = tt
happens_by a w (m ∷ ms) g = (g.0, g.1.0, happens_by a m.after ms g.2)

pub act_happens : (w : World) (a : Act) → FitsAct a → possible w a ≡ None → GoOn w (moments_of w a)
act_happens w a f p = happens_by a w (moments_of w a) (act_leads w a f p)

-- ---- runs

go_on_then : (w : World) (ms ns : List Moment) → GoOn w ms → GoOn (world_after w ms) ns → GoOn w (ms ++ ns)
unfolding world_after
go_on_then w [] ns g h = h
go_on_then w (m ∷ ms) ns g h = (g.0, g.1, go_on_then m.after ms ns g.2 h)

pub run_happens : (w : World) (acts : List Act) → ArePossible w acts → GoOn w (moments w acts)
unfolding moments act
run_happens w [] p = tt
run_happens w (a ∷ acts) p = go_on_then w (moments_of w a) _ (act_happens w a p.0 p.1) (run_happens (act w a).after acts p.2)

reached_all : (n : ℕ) (w : World) (ms : List Moment) → IsReached n w → GoOn w ms → AllByRecursion (IsReached n) (map (λ m. m.after) ms)
reached_all n w [] r g = tt
reached_all n w (m ∷ ms) r g = let h = next r g.1 in (h, reached_all n m.after ms h g.2)

pub runs : (n : ℕ) (acts : List Act) → ArePossible (begin n) acts → IsRunOf n acts
unfolding all_worlds moments_of_run
runs n acts p =
    let g = run_happens (begin n) acts p in
    record { goes_on = g; reached = (first, reached_all n (begin n) (moments (begin n) acts) first g) }
