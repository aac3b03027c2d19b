-- Each happening keeps the invariant of a run.
use Rattle.std.proofs.Common.{◌≡◌, ℕ, ◌-◌, ◌<◌, ◌⊎◌, List, [], ◌∷◌, ◌++◌, map, length, take, append_assoc, append-nil, inl, inr, refl, sym, subst, ap, ◌∙◌, Some}
use Rattle.std.specs.List.{Contains, slice_get, slice_set, enumerate_from}
use Rattle.std.specs.Option.{option_map_or}
use Rattle.std.proofs.lemmas.List.Elements.{Contains-append_cases}
use Rattle.std.proofs.lemmas.List.{length-set}
use Rattle.std.proofs.lemmas.Option.{slice_get_within}
use Rattle.crsm_spec.specs.Acts.{Act}
use Rattle.crsm_spec.specs.Safe.{command_of}
use Rattle.crsm_law_steps.proofs.Moments.{set_case, set_there}
use Rattle.crsm_mpspec.specs.declared.MpRec.{MpRec}
use Rattle.crsm_mpspec.specs.declared.MpMessage.{MpMessage}
use Rattle.crsm_mpspec.specs.declared.MpInput.{MpInput}
use Rattle.crsm_mpspec.specs.declared.MpLine.{MpLine}
use Rattle.crsm_mpspec.specs.Log.{Log}
use Rattle.crsm_mpspec.specs.Replica.{Replica, Waiting, fresh}
use Rattle.crsm_mpspec.specs.Draft.{Draft, begun, keep, keep_as}
use Rattle.crsm_mpspec.specs.Step.{on_input, step, boot}
use Rattle.crsm_mpspec.specs.World.{Site, World, Moment, log_of, log_at, with_site, kind_of, send_line, send_lines, after_step, whole_step, then_down, cut_step, lost_step, down}
use Rattle.crsm_mpspec.specs.Moments.{use_up, silent, begun_at}
use Rattle.crsm_mpspec.specs.Run.{TraceLine, traced}
use Rattle.crsm_law_mp.proofs.Lists.{cons_cases, none_in, in_map}
use Rattle.crsm_law_mp.specs.Happenings.{Marks, CanCome, Ends, Happens}
use Rattle.crsm_law_mp.specs.Happenings.Marks.{none, mark}
use Rattle.crsm_law_mp.specs.Happenings.Ends.{IsWhole, IsCut, IsLost}
use Rattle.crsm_law_mp.specs.Happenings.Happens.{Nothing, Steps, Stops, Starts}
use Rattle.crsm_law_mp.proofs.Moments.{replied_lines}
use Rattle.crsm_law_mp.proofs.Telling.{in_take}
use Rattle.crsm_law_mp.proofs.Worlds.{same_site, up_is, never_up}
use Rattle.crsm_law_mp.specs.Kept.{Kept}
use Rattle.crsm_law_mp.proofs.Chain.{AsksFor}
use Rattle.crsm_law_mp.proofs.Told.{IsRefusal, input_lawful, kept_lawful}
use Rattle.crsm_law_mp.proofs.Replying.{IsAnswer, replied}
use Rattle.crsm_law_mp.proofs.Keeping.{IsQuiet, IsStep, plain, stepped}

marked_sites : (w v : World) → Marks w v → v.sites ≡ w.sites
unfolding use_up
marked_sites w v none = refl
marked_sites w v (mark i) = refl

-- a replica that is up when one has gone down was up
up_before : (sites : List Site) (k : ℕ) (log : Log) (j : ℕ) (q : Replica) → slice_get (slice_set sites k (Site.Down log)) j ≡ Some (Site.Up q) → slice_get sites j ≡ Some (Site.Up q)
up_before sites k log j q is =
    elim (set_case sites k (Site.Down log) j) [
      | inl e ↦ sym e ∙ is
      | inr c ↦ absurd (never_up log q (same_site (Site.Down log) (Site.Up q) (sym c.1 ∙ is)))
    ]

-- a replica that is up when another site is at k was up, or is the one there
up_after : (sites : List Site) (k : ℕ) (r : Replica) (j : ℕ) (q : Replica) → slice_get (slice_set sites k (Site.Up r)) j ≡ Some (Site.Up q) → (slice_get sites j ≡ Some (Site.Up q)) ⊎ ((j ≡ k) × (r ≡ q))
up_after sites k r j q is =
    elim (set_case sites k (Site.Up r) j) [
      | inl e ↦ inl (sym e ∙ is)
      | inr c ↦ inr (c.0, up_is r q (same_site (Site.Up r) (Site.Up q) (sym c.1 ∙ is)))
    ]

quiet_send : (k i : ℕ) (sends : List (ℕ × MpMessage)) (line : MpLine) → Contains (send_lines k i sends) line → IsQuiet line
unfolding send_lines send_line
quiet_send k i sends line c =
    let (s, there, is) = in_map (λ s. MpLine.Send s.0 k s.1.0 (kind_of s.1.1)) (enumerate_from i sends) line c in subst IsQuiet is tt

refusal_quiet : (line : MpLine) → IsRefusal line → IsQuiet line
refusal_quiet (MpLine.ReplyNo k client number code) r = tt
refusal_quiet (MpLine.Send _ _ _ _) r = tt
refusal_quiet (MpLine.Down _) r = tt
refusal_quiet (MpLine.Exec _ _ _ _ _) r = absurd r
refusal_quiet (MpLine.ExecNoop _ _) r = absurd r
refusal_quiet (MpLine.ReplyOk _ _ _ _ _) r = absurd r
refusal_quiet (MpLine.ReplyDropped _ _ _ _) r = absurd r
refusal_quiet (MpLine.Boot _ _) r = absurd r
refusal_quiet (MpLine.Submit _ _ _ _ _ _) r = absurd r
refusal_quiet (MpLine.Accept _ _ _ _) r = absurd r
refusal_quiet (MpLine.Promise _ _ _) r = absurd r
refusal_quiet (MpLine.Choose _ _) r = absurd r
refusal_quiet (MpLine.Final _ _ _) r = absurd r

module _ (n : ℕ) (lines : List TraceLine) (worlds : List World) (w : World) (kept : Kept n lines worlds w) (a : Act) where
  nothing_keeps : (v : World) (marks : Marks w v) → Kept n (lines ++ map (traced (Some a)) []) (worlds ++ v ∷ []) v
  unfolding silent
  nothing_keeps v marks =
      plain n lines worlds w kept a (silent w v) (Nothing v marks) (λ line c. absurd (none_in line c))
      (λ k r is. subst (λ ss. slice_get ss k ≡ Some (Site.Up r)) (marked_sites w v marks) is)

  quiet_down : (k : ℕ) (line : MpLine) → Contains (MpLine.Down k ∷ []) line → IsQuiet line
  quiet_down k line c = elim (cons_cases (MpLine.Down k) [] line c) [ inl is ↦ subst IsQuiet is tt | inr nowhere ↦ absurd (none_in line nowhere) ]

  stops_keeps : (k : ℕ) → Kept n (lines ++ map (traced (Some a)) (down w k).lines) (worlds ++ (down w k).after ∷ []) (down w k).after
  unfolding down with_site
  stops_keeps k = plain n lines worlds w kept a (down w k) (Stops k) (quiet_down k) (λ j q is. up_before w.sites k (log_at w k) j q is)

  starts_keeps : (k : ℕ) (below : k < length w.sites) → Kept n (lines ++ map (traced (Some a)) (whole_step w k (boot k w.n (log_at w k))).lines)
      (worlds ++ (whole_step w k (boot k w.n (log_at w k))).after ∷ []) (whole_step w k (boot k w.n (log_at w k))).after
  unfolding whole_step after_step boot keep keep_as begun fresh log_at log_of send_lines
  starts_keeps k below =
      let r : Replica = fresh k w.n (log_at w k) in
      let y : Draft = boot k w.n (log_at w k) in
      stepped n lines worlds w kept a (whole_step w k y) (Starts k below) k r y (record {
        mine = refl;
        lawful = kept_lawful r (command_of (Some a)) MpRec.Boot tt;
        others = [];
        tells = append-nil (y.lines ++ []);
        quiet = λ line c. absurd (none_in line c);
        below = subst (λ l. k < l) (sym (length-set w.sites k (Site.Up y.replica))) below;
        log = ap (λ o. option_map_or log_of o []) (set_there w.sites k (Site.Up y.replica) below);
        olds = λ wt c. absurd (none_in wt c);
        ups = λ j q is. elim (up_after w.sites k y.replica j q is) [
          | inl old ↦ inl old
          | inr mine ↦ inr (mine.0, λ wt c. subst (λ z. Contains z.waiting wt) (sym mine.1) c)
        ];
      })

  module _ (v : World) (marks : Marks w v) (k : ℕ) (r : Replica) (is : slice_get v.sites k ≡ Some (Site.Up r)) (input : MpInput) (from : ℕ)
      (can : CanCome w (command_of (Some a)) input from) where
    y : Draft
    y = on_input input from (begun r)

    was : slice_get w.sites k ≡ Some (Site.Up r)
    was = subst (λ ss. slice_get ss k ≡ Some (Site.Up r)) (marked_sites w v marks) is

    below : k < length v.sites
    below = slice_get_within v.sites k (Site.Up r) is

    asks : (i : MpInput) → CanCome w (command_of (Some a)) i from → AsksFor (λ c. command_of (Some a) ≡ Some c) i
    asks (MpInput.Request c) can = can
    asks (MpInput.Message m) can = tt
    asks MpInput.Tick can = tt
    asks MpInput.Lead can = tt

    still : (j : ℕ) (q : Replica) → slice_get v.sites j ≡ Some (Site.Up q) → slice_get w.sites j ≡ Some (Site.Up q)
    still j q e = subst (λ ss. slice_get ss j ≡ Some (Site.Up q)) (marked_sites w v marks) e

    x : Draft
    x = step r input from

    -- a reply of the step
    reply_is : (line : MpLine) → Contains x.replies line → IsQuiet line ⊎ IsAnswer y line
    unfolding x y step
    reply_is line c =
        elim ((replied (on_input input from (begun r))).replies line c) [
          | inl old ↦ inl (refusal_quiet line ((input_lawful r (command_of (Some a)) input from (asks input can)).refusals line old))
          | inr answer ↦ inr answer
        ]

    same_lines : x.lines ≡ y.lines
    unfolding x y step
    same_lines = replied_lines (on_input input from (begun r))

    same_log : x.replica.log ≡ y.replica.log
    unfolding x y step
    same_log = (replied (on_input input from (begun r))).log

    fewer : (wt : Waiting) → Contains x.replica.waiting wt → Contains y.replica.waiting wt
    unfolding x y step
    fewer wt c = (replied (on_input input from (begun r))).waits wt c

    -- what the step makes, with the rest of its lines
    step_of : (m : Moment) (h : Happens w (command_of (Some a)) m) (others : List MpLine) → m.lines ≡ x.lines ++ others →
        ((line : MpLine) → Contains others line → IsQuiet line ⊎ IsAnswer y line) → (site : Site) → m.after.sites ≡ slice_set v.sites k site → log_of site ≡ x.replica.log →
        ((q : Replica) → site ≡ Site.Up q → q ≡ x.replica) → IsStep n lines worlds w kept a m h k r y
    unfolding y log_at
    step_of m h others tells quiet site sites log up = record {
      mine = kept.sound.me k r was;
      lawful = input_lawful r (command_of (Some a)) input from (asks input can);
      others = others;
      tells = tells ∙ ap (λ ls. ls ++ others) same_lines;
      quiet = quiet;
      below = subst (λ ss. k < length ss) (sym sites) (subst (λ l. k < l) (sym (length-set v.sites k site)) below);
      log = subst (λ ss. option_map_or log_of (slice_get ss k) [] ≡ y.replica.log) (sym sites)
          (ap (λ o. option_map_or log_of o []) (set_there v.sites k site below) ∙ (log ∙ same_log));
      olds = λ wt c. was;
      ups = λ j q e. elim (set_case v.sites k site j) [
        | inl same ↦ inl (still j q (sym same ∙ subst (λ ss. slice_get ss j ≡ Some (Site.Up q)) sites e))
        | inr c ↦
            let here : site ≡ Site.Up q = same_site site (Site.Up q) (sym c.1 ∙ subst (λ ss. slice_get ss j ≡ Some (Site.Up q)) sites e) in
            inr (c.0, λ wt there. fewer wt (subst (λ z. Contains z.waiting wt) (up q here) there))
      ];
    }

    steps_keeps : (m : Moment) (e : Ends v k x m) → Happens w (command_of (Some a)) (begun_at w m) → Kept n (lines ++ map (traced (Some a)) m.lines) (worlds ++ m.after ∷ []) m.after
    unfolding begun_at whole_step cut_step then_down after_step lost_step down with_site log_of
    steps_keeps m IsWhole h =
        let sends : List MpLine = send_lines k (length v.packets) x.sends in
        stepped n lines worlds w kept a (begun_at w (whole_step v k x)) h k r y
        (step_of (begun_at w (whole_step v k x)) h (sends ++ x.replies) (append_assoc x.lines sends x.replies)
        (λ line c. elim (Contains-append_cases sends x.replies line c) [
          | inl sent ↦ inl (quiet_send k (length v.packets) x.sends line sent)
          | inr told ↦ reply_is line told
        ])
        (Site.Up x.replica) refl refl (λ q is. sym (up_is x.replica q is)))
    steps_keeps m (IsCut count) h =
        let sends : List MpLine = send_lines k (length v.packets) (take count x.sends) in
        let told : List MpLine = take (count - length x.sends) x.replies in
        stepped n lines worlds w kept a (begun_at w (cut_step count v k x)) h k r y
        (step_of (begun_at w (cut_step count v k x)) h ((sends ++ told) ++ MpLine.Down k ∷ [])
        (ap (λ ls. ls ++ MpLine.Down k ∷ []) (append_assoc x.lines sends told) ∙ append_assoc x.lines (sends ++ told) (MpLine.Down k ∷ []))
        (λ line c. elim (Contains-append_cases (sends ++ told) (MpLine.Down k ∷ []) line c) [
          | inl before ↦ elim (Contains-append_cases sends told line before) [
            | inl sent ↦ inl (quiet_send k (length v.packets) (take count x.sends) line sent)
            | inr reply ↦ reply_is line (in_take (count - length x.sends) x.replies line reply)
          ]
          | inr last ↦ inl (quiet_down k line last)
        ])
        (Site.Down x.replica.log) refl refl (λ q is. absurd (never_up x.replica.log q is)))
    steps_keeps m IsLost h =
        plain n lines worlds w kept a (begun_at w (lost_step v k x)) h (quiet_down k) (λ j q e. still j q (up_before v.sites k (log_at v k) j q e))

  -- any moment
  pub keeps_on : (m : Moment) → Happens w (command_of (Some a)) m → Kept n (lines ++ map (traced (Some a)) m.lines) (worlds ++ m.after ∷ []) m.after
  unfolding silent begun_at x
  keeps_on m (Nothing v marks) = nothing_keeps v marks
  keeps_on m (Stops k) = stops_keeps k
  keeps_on m (Starts k below) = starts_keeps k below
  keeps_on m (Steps v marks k r is input from can mm e) = steps_keeps v marks k r is input from can mm e (Steps v marks k r is input from can mm e)
