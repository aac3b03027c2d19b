-- Possible acts make a run, moment by moment.
use Rattle.std.proofs.Common.{◌≡◌, ℕ, ◌<◌, Bool, true, false, cond, leb, List, [], ◌∷◌, ◌++◌, map, length, append_assoc, append-nil, arith, refl, sym, subst, ap, ◌∙◌, Option, Some, None, option_map}
use Rattle.std.specs.List.{slice_get}
use Rattle.std.proofs.lemmas.Bool.Decides.{nat_tests}
use Rattle.crsm_spec.specs.Acts.{Single, Act, Bad}
use Rattle.crsm_spec.specs.Safe.{command_of, command_of_single}
use Rattle.crsm_spec.specs.Choice.{when◌then◌otherwise◌}
use Rattle.crsm_spec.specs.Possible.{first_bad}
use Rattle.crsm_safety.proofs.Paxos.Basics.{got}
use Rattle.crsm_mpspec.specs.declared.MpInput.{MpInput}
use Rattle.crsm_mpspec.specs.Types.{Command}
use Rattle.crsm_mpspec.specs.Draft.{Draft}
use Rattle.crsm_mpspec.specs.Step.{step}
use Rattle.crsm_mpspec.specs.World.{Site, Packet, World, Moment, Ending, begin, first_lines, is_full, is_up_at, then_down, after_step, whole_step, cut_step, lost_step, down}
use Rattle.crsm_mpspec.specs.Moments.{use_up, silent, begun_at, step_at_site, step_at, come, single, deliverable, go_each, start_at, moments_of, world_after, lines_of, act}
use Rattle.crsm_mpspec.specs.Possible.{Cause, is_not_here, is_none_of, causes_of, possible}
use Rattle.crsm_mpspec.specs.Run.{TraceLine, traced, after_acts, ArePossible, moments, moments_of_run, last_world, told, seen, all_worlds}
use Rattle.crsm_law_mp.specs.Happenings.{Marks, CanCome, Ends, Happens}
use Rattle.crsm_law_mp.specs.Happenings.Marks.{none, mark}
use Rattle.crsm_law_mp.specs.Happenings.Ends.{IsWhole, IsCut, IsLost}
use Rattle.crsm_law_mp.specs.Happenings.Happens.{Nothing, Steps, Stops, Starts}
use Rattle.crsm_law_mp.proofs.Lists.{map_append}
use Rattle.crsm_law_mp.specs.Traces.{Runs}
use Rattle.crsm_law_mp.proofs.Places.{none_some}
use Rattle.crsm_law_mp.specs.Traces.Runs.{first, next}

-- moments that follow one another
data AllHappen (command : Option Command) : World → List Moment → World → Type 0 where
  no_more : {w : World} → AllHappen command w [] w
  one_more : {w v : World} {ms : List Moment} (m : Moment) → Happens w command (begun_at w m) → AllHappen command m.after ms v → AllHappen command w (m ∷ ms) v

-- ---- one step

module _ (ends : Ending) (is_end : (w : World) (k : ℕ) (x : Draft) → Ends w k x (ends w k x)) (command : Option Command) where
  site_happens : (w v : World) → Marks w v → (k : ℕ) (input : MpInput) (from : ℕ) → CanCome w command input from → (o : Option Site) → slice_get v.sites k ≡ o →
      Happens w command (begun_at w (step_at_site ends v k input from o))
  unfolding step_at_site begun_at silent
  site_happens w v marks k input from can None is = Nothing v marks
  site_happens w v marks k input from can (Some (Site.Down log)) is = Nothing v marks
  site_happens w v marks k input from can (Some (Site.Up r)) is = Steps v marks k r is input from can (ends v k (step r input from)) (is_end v k (step r input from))

  come_happens : (w v : World) → Marks w v → (i : ℕ) (o : Option Packet) → slice_get w.packets i ≡ o → Happens w command (begun_at w (come ends v o))
  unfolding come begun_at silent step_at
  come_happens w v marks i None is = Nothing v marks
  come_happens w v marks i (Some p) is =
      site_happens w v marks p.to (MpInput.Message p.message) p.from (p, got w.packets i p is, refl, refl) (slice_get v.sites p.to) refl

  single_happens : (w : World) (s : Single) → ((c : Command) → command_of_single s ≡ Some c → command ≡ Some c) → Happens w command (begun_at w (single ends w s))
  unfolding single step_at command_of_single begun_at silent
  single_happens w (Single.Request k t c) by = site_happens w w none k (MpInput.Request c) 0 (by c refl) (slice_get w.sites k) refl
  single_happens w (Single.Go i t) by = come_happens w (use_up i w) (mark i) i (slice_get w.packets i) refl
  single_happens w (Single.Again i t) by = come_happens w w none i (slice_get w.packets i) refl
  single_happens w (Single.Tick k t) by = site_happens w w none k MpInput.Tick 0 tt (slice_get w.sites k) refl
  single_happens w (Single.Suspect k t ms) by = site_happens w w none k MpInput.Lead 0 tt (slice_get w.sites k) refl
  single_happens w (Single.Junk k t bytes) by = Nothing w none

each_happens : (command : Option Command) (t : ℕ) (is : List ℕ) (w : World) → ((c : Command) → None ≡ Some c → command ≡ Some c) → AllHappen command w (go_each t is w) (world_after w (go_each t is w))
unfolding go_each world_after command_of_single
each_happens command t [] w by = no_more
each_happens command t (i ∷ is) w by = go (is_full w) (each_happens command t is m.after by)
  where
    m : Moment
    m = single whole_step w (Single.Go i t)

    go : (b : Bool) → AllHappen command m.after (go_each t is m.after) (world_after m.after (go_each t is m.after)) →
        AllHappen command w (cond b [] (m ∷ go_each t is m.after)) (world_after w (cond b [] (m ∷ go_each t is m.after)))
    go true rest = no_more
    go false rest = one_more m (single_happens whole_step (λ v k x. IsWhole) command w (Single.Go i t) (λ c e. by c e)) rest

-- ---- acts

-- a replica that starts is there
there : (w : World) (k : ℕ) → possible w (Act.Start k) ≡ None → k < length w.sites
unfolding possible is_not_here when◌then◌otherwise◌ first_bad causes_of is_none_of
there w k may = go (is_full w) (leb (length w.sites) k) refl (is_up_at w k) may
  where
    go : (f t : Bool) → leb (length w.sites) k ≡ t → (u : Bool) →
        option_map (λ why. Cause.Met why) (cond f (Some (Bad.Full w.bytes)) (cond t (Some Bad.NoSuchReplica) (cond u (Some Bad.IsUp) None))) ≡ None → k < length w.sites
    go true t e u may = absurd (none_some _ (sym may))
    go false true e u may = absurd (none_some _ (sym may))
    go false false e u may = grind (arith, nat_tests)

act_happens : (w : World) (a : Act) → possible w a ≡ None → AllHappen (command_of (Some a)) w (moments_of w a) (world_after w (moments_of w a))
unfolding moments_of world_after command_of begun_at silent start_at down lost_step cut_step then_down whole_step after_step
act_happens w (Act.One s) may = one_more (single whole_step w s) (single_happens whole_step (λ v k x. IsWhole) (command_of_single s) w s (λ c e. e)) no_more
act_happens w (Act.Lose i) may = one_more (silent w (use_up i w)) (Nothing (use_up i w) (mark i)) no_more
act_happens w (Act.Crash k) may = one_more (down w k) (Stops k) no_more
act_happens w (Act.Start k) may = one_more (start_at w k) (Starts k (there w k may)) no_more
act_happens w (Act.Settle t) may = each_happens None t (deliverable w) w (λ c e. e)
act_happens w (Act.CutLost s) may = one_more (single lost_step w s) (single_happens lost_step (λ v k x. IsLost) (command_of_single s) w s (λ c e. e)) no_more
act_happens w (Act.CutKept count s) may =
    one_more (single (cut_step count) w s) (single_happens (cut_step count) (λ v k x. IsCut count) (command_of_single s) w s (λ c e. e)) no_more
act_happens w (Act.Batch t is) may = no_more
act_happens w (Act.CutLostBatch t is) may = no_more
act_happens w (Act.CutAt calls fill s) may = no_more

-- ---- runs

module _ (n : ℕ) where
  moments_run : (a : Act) (w v : World) (ms : List Moment) (lines : List TraceLine) (worlds : List World) → Runs n lines worlds w → AllHappen (command_of (Some a)) w ms v →
      Runs n (lines ++ map (traced (Some a)) (lines_of ms)) (worlds ++ map (λ m. m.after) ms) v
  unfolding lines_of begun_at
  moments_run a w v [] lines worlds run no_more = rw (append-nil lines, append-nil worlds) run
  moments_run a w v (m ∷ ms) lines worlds run (one_more _ h rest) =
      let now : Runs n (lines ++ map (traced (Some a)) m.lines) (worlds ++ m.after ∷ []) m.after = next run a h in
      let whole : Runs n ((lines ++ map (traced (Some a)) m.lines) ++ map (traced (Some a)) (lines_of ms)) ((worlds ++ m.after ∷ []) ++ map (λ m. m.after) ms) v =
      moments_run a m.after v ms (lines ++ map (traced (Some a)) m.lines) (worlds ++ m.after ∷ []) now rest in
      let same_lines : (lines ++ map (traced (Some a)) m.lines) ++ map (traced (Some a)) (lines_of ms) ≡ lines ++ map (traced (Some a)) (m.lines ++ lines_of ms) =
      append_assoc lines (map (traced (Some a)) m.lines) (map (traced (Some a)) (lines_of ms)) ∙ ap (λ ls. lines ++ ls) (sym (map_append (traced (Some a)) m.lines (lines_of ms))) in
      subst (λ ls. Runs n ls (worlds ++ m.after ∷ map (λ m. m.after) ms) v) same_lines
      (subst (λ ws. Runs n ((lines ++ map (traced (Some a)) m.lines) ++ map (traced (Some a)) (lines_of ms)) ws v) (append_assoc worlds (m.after ∷ []) (map (λ m. m.after) ms)) whole)

  acts_run : (acts : List Act) (w : World) (lines : List TraceLine) (worlds : List World) → Runs n lines worlds w → ArePossible w acts →
      Runs n (lines ++ told w acts) (worlds ++ map (λ m. m.after) (moments w acts)) (after_acts w acts)
  unfolding told moments after_acts act
  acts_run [] w lines worlds run may = rw (append-nil lines, append-nil worlds) run
  acts_run (a ∷ acts) w lines worlds run may =
      let ms : List Moment = moments_of w a in
      let v : World = world_after w ms in
      let now : Runs n (lines ++ map (traced (Some a)) (lines_of ms)) (worlds ++ map (λ m. m.after) ms) v = moments_run a w v ms lines worlds run (act_happens w a may.1) in
      let whole : Runs n ((lines ++ map (traced (Some a)) (lines_of ms)) ++ told v acts) ((worlds ++ map (λ m. m.after) ms) ++ map (λ m. m.after) (moments v acts)) (after_acts v acts) =
      acts_run acts v (lines ++ map (traced (Some a)) (lines_of ms)) (worlds ++ map (λ m. m.after) ms) now may.2 in
      let same_worlds : (worlds ++ map (λ m. m.after) ms) ++ map (λ m. m.after) (moments v acts) ≡ worlds ++ map (λ m. m.after) (ms ++ moments v acts) =
      append_assoc worlds (map (λ m. m.after) ms) (map (λ m. m.after) (moments v acts)) ∙ ap (λ ws. worlds ++ ws) (sym (map_append (λ m. m.after) ms (moments v acts))) in
      subst (λ ls. Runs n ls (worlds ++ map (λ m. m.after) (ms ++ moments v acts)) (after_acts v acts)) (append_assoc lines (map (traced (Some a)) (lines_of ms)) (told v acts))
      (subst (λ ws. Runs n ((lines ++ map (traced (Some a)) (lines_of ms)) ++ told v acts) ws (after_acts v acts)) same_worlds whole)

  -- possible acts make a run
  pub run_of : (acts : List Act) → ArePossible (begin n) acts → Runs n (seen n acts) (all_worlds n acts) (last_world n acts)
  unfolding seen all_worlds moments_of_run last_world
  run_of acts may = acts_run acts (begin n) (map (traced None) (first_lines n)) (begin n ∷ []) first may
