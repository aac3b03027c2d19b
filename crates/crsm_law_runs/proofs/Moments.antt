-- The invariant of the transcript holds at the beginning, and each moment keeps it.
use Rattle.std.proofs.Common.{◌≡◌, ℕ, zero, suc, ◌-◌, ◌<◌, List, [], ◌∷◌, ◌++◌, length, take, refl, sym, ◌∙◌, ap, subst, inl, inr, Bool, true, false, map, append_assoc}
use Rattle.std.specs.Prelude.{◌⊎◌, ◌^◌, Option, Some, None, slice_get, slice_set, nat_lt, flat_map}
use Rattle.std.specs.List.{enumerate_from, range_with_len}
use Rattle.std.specs.Option.{option_map_or}
use Rattle.std.proofs.lemmas.Bool.{cases_eq}
use Rattle.std.proofs.lemmas.List.{append-nil}
use Rattle.crsm_spec.specs.Choice.{when◌then◌otherwise◌}
use Rattle.crsm_spec.specs.Types.{Entry, Datagram, Line}
use Rattle.crsm_spec.specs.Lists.{Among, numbers_below}
use Rattle.crsm_spec.specs.Log.{Log}
use Rattle.crsm_spec.specs.Lines.{lines_of}
use Rattle.crsm_spec.specs.Replica.{Replica, fresh}
use Rattle.crsm_spec.specs.Draft.{Draft, Reply, begun, keep}
use Rattle.crsm_spec.specs.Step.{Input, step, boot, boot_again, founding_boot, first_boot}
use Rattle.crsm_base.specs.Messages.{datagram_bytes}
use Rattle.crsm_spec.specs.World.{kind_of, Site, World, Moment, begin, first_lines, log_of, log_at, with_site, send_line, send_lines, whole_step, cut_step, lost_step, down, after_step, then_down}
use Rattle.crsm_spec.specs.Moments.{silent, begun_at, with_room, start_at}
use Rattle.crsm_spec.specs.Acts.{Act}
use Rattle.crsm_spec.specs.Run.{TraceLine, traced}
use Rattle.crsm_law_steps.specs.Laws.{LogsGoOn}
use Rattle.crsm_law_steps.specs.Happenings.{Marks, CanCome, Ends, Happens, Brings, IsLedBy, IsReached}
use Rattle.crsm_law_steps.specs.Happenings.Marks.{none}
use Rattle.crsm_law_steps.specs.Happenings.Ends.{IsWhole, IsCut, IsLost}
use Rattle.crsm_law_steps.specs.Happenings.Happens.{Nothing, Steps, Junk, Stops, Joins, Starts}
use Rattle.crsm_law_steps.specs.Happenings.IsReached.{first, next}
use Rattle.crsm_fact_log.proofs.Logged.{extends_trans}
use Rattle.crsm_law_steps.proofs.Moments.{moment_goes_on}
use Rattle.crsm_law_epoch.specs.Seats.{Seat}
use Rattle.crsm_fact_log.specs.Logs.{Logged}
use Rattle.crsm_law_epoch.proofs.Worlds.{marked_sites, seat_log_at, room_seats}
use Rattle.crsm_law_messages.proofs.Worlds.{set_up, not_up, up_same, room_up, founded_is, all_known, kept_whole, kept_cut}
use Rattle.crsm_law_epoch.proofs.LogWorlds.{all_held, get_range, from_zero}
use Rattle.crsm_law_bounds.proofs.Short.{log_set}
use Rattle.crsm_law_agreement.proofs.DecidedWorlds.{log_other, same_logs, kept_logs, up_is, down_is}
use Rattle.crsm_law_runs.specs.Seen.{IsSeen, boots, then_on}
use Rattle.crsm_law_runs.proofs.Each.{Each, each_then, each_all}
use Rattle.crsm_law_runs.proofs.Effects.{IsPlain, ArePlain, plain_then}
use Rattle.crsm_law_runs.proofs.Words.{IsLast, IsLate, IsNew, submitted_more, seen_by}
use Rattle.crsm_law_runs.proofs.LineKinds.{plain_right, late_other, of_submit, on_is_reply, one_replies}
use Rattle.crsm_law_runs.proofs.Holds.{Wait, Holds, Stepping, within_longer, other_within}
use Rattle.crsm_law_runs.proofs.Drafts.{among_either, among_unmap}
use Rattle.crsm_law_runs.proofs.Ends.{step_good}
use Rattle.crsm_law_runs.proofs.Worlds.{kept_holds, stamp_later, executed_longer, plain_at, says_nothing}

-- ---- plain lines, told by an act or by none

module _ (by : Option Act) where
  abbrev told_all : List Line → List TraceLine
  told_all ls = map (traced by) ls

  line_is : (l : Line) → (traced by l).line ≡ l
  unfolding traced
  line_is l = refl

  plain_told : (ls : List Line) → ArePlain ls → (t : TraceLine) → Among (told_all ls) t → IsPlain t.line
  plain_told ls h t a =
      let q = among_unmap (traced by) ls t a in subst IsPlain (sym (line_is q.0) ∙ ap (λ (z : TraceLine). z.line) q.2) (plain_at ls q.0 h q.1)

  plain_late : (list : List Entry) (before : List TraceLine) (ls : List Line) → ArePlain ls → Each (IsLate list) before (told_all ls)
  plain_late list before ls h = each_all (IsLate list) before (told_all ls) (λ b t a. late_other list b t.line (says_nothing t.line (plain_told ls h t a)).submit)

  plain_new : (before : List TraceLine) (ls : List Line) → ArePlain ls → Each IsNew before (told_all ls)
  plain_new before ls h = each_all IsNew before (told_all ls) (λ b t a u m q. (says_nothing t.line (plain_told ls h t a)).reply (one_replies u.line t.line q).1)

-- ---- moments in which nothing is kept but boots

module _ (end : World) (list : List Entry) (w u : World) (lines : List TraceLine) (act : Act) (ls : List Line) where
  plain_holds : LogsGoOn w u → ((j : ℕ) (e : Entry) → Logged (log_at u j) e → Logged (log_at w j) e) → ArePlain ls →
      ((j : ℕ) (q : Replica) → slice_get u.sites j ≡ Some (Site.Up q) → (slice_get w.sites j ≡ Some (Site.Up q)) ⊎ (q.waiting ≡ [])) → Holds end list w lines → Holds end list u (lines ++ seen_by act ls)
  plain_holds grows logged plain up h = record {
    right = λ t a. elim (among_either lines (seen_by act ls) t a) [ inl b ↦ h.right t b | inr b ↦ plain_right end list t.line (plain_told (Some act) ls plain t b) ];
    within = λ t a. elim (among_either lines (seen_by act ls) t a) [
      | inl b ↦ within_longer (log_at w) (log_at u) (λ j. executed_longer (log_at w j) (log_at u j) (grows j)) t.line (h.within t b)
      | inr b ↦ other_within (log_at u) t.line (says_nothing t.line (plain_told (Some act) ls plain t b)).reply
    ];
    submitted = λ j e q o. submitted_more lines (seen_by act ls) e (h.submitted j e (logged j e q) o);
    executes = λ t a y v q. elim (among_either lines (seen_by act ls) t a) [
      | inl b ↦ stamp_later w u y v grows (h.executes t b y v q)
      | inr b ↦ absurd ((says_nothing t.line (plain_told (Some act) ls plain t b)).exec y v q)
    ];
    submits = λ t a y v q. elim (among_either lines (seen_by act ls) t a) [
      | inl b ↦ stamp_later w u y v grows (h.submits t b y v q)
      | inr b ↦ absurd ((says_nothing t.line (plain_told (Some act) ls plain t b)).submit (of_submit y v t.line q))
    ];
    replies = λ t a y v q. elim (among_either lines (seen_by act ls) t a) [
      | inl b ↦ stamp_later w u y v grows (h.replies t b y v q)
      | inr b ↦ absurd ((says_nothing t.line (plain_told (Some act) ls plain t b)).reply (on_is_reply list y v t.line q))
    ];
    late = each_then (IsLate list) [] lines (seen_by act ls) h.late (plain_late (Some act) list lines ls plain);
    once = each_then IsNew [] lines (seen_by act ls) h.once (plain_new (Some act) lines ls plain);
    wait = λ j q e. elim (up j q e) [
      | inl z ↦ (let old = h.wait j q z in record {
        logged = old.logged;
        new = λ f m t i r. elim (among_either lines (seen_by act ls) t i) [
          | inl b ↦ old.new f m t b r
          | inr b ↦ (says_nothing t.line (plain_told (Some act) ls plain t b)).reply (on_is_reply list f.entry.epoch f.entry.stamp t.line r)
        ];
        apart = old.apart;
      })
      | inr z ↦ subst (Wait list (lines ++ seen_by act ls) j q.log) (sym z) (record { logged = λ f m. absurd m; new = λ f m. absurd m; apart = tt })
    ];
  }

  -- where no log changes
  same_holds : LogsGoOn w u → ((j : ℕ) → log_at u j ≡ log_at w j) → ArePlain ls →
      ((j : ℕ) (q : Replica) → slice_get u.sites j ≡ Some (Site.Up q) → (slice_get w.sites j ≡ Some (Site.Up q)) ⊎ (q.waiting ≡ [])) → Holds end list w lines → Holds end list u (lines ++ seen_by act ls)
  same_holds grows logs plain up h = plain_holds grows (λ j e q. subst (λ l. Logged l e) (logs j) q) plain up h

-- ---- the lines of a moment

sends_plain : (k i : ℕ) (ss : List (ℕ × Datagram)) → ArePlain (send_lines k i ss)
unfolding send_lines send_line
sends_plain k i ss = go (enumerate_from i ss)
  where
    go : (fs : List (ℕ × (ℕ × Datagram))) → ArePlain (map (λ f. Line.Send f.0 k f.1.0 (kind_of f.1.1) (datagram_bytes f.1.1)) fs)
    go [] = tt
    go (f ∷ fs) = (tt, go fs)

take_all : {A : Type 0} (xs : List A) → take (length xs) xs ≡ xs
take_all [] = refl
take_all (x ∷ xs) = ap (λ l. x ∷ l) (take_all xs)

-- ---- steps

other_sites : (w v u : World) → Marks w v → (k : ℕ) (t : Site) → u.sites ≡ slice_set v.sites k t → (j : ℕ) → (j ≡ k → ⊥) → log_at u j ≡ log_at w j
other_sites w v u p k t is j ne = log_other v u k j t is ne ∙ same_logs w v (marked_sites p) j

up_sites : (w v u : World) → Marks w v → (k : ℕ) (t : Site) → u.sites ≡ slice_set v.sites k t → (j : ℕ) (q : Replica) → slice_get u.sites j ≡ Some (Site.Up q) →
    ((j ≡ k → ⊥) × (slice_get w.sites j ≡ Some (Site.Up q))) ⊎ ((j ≡ k) × (t ≡ Site.Up q))
up_sites w v u p k t is j q e = elim (set_up v.sites k t j q (subst (λ ss. slice_get ss j ≡ Some (Site.Up q)) is e)) [
  | inl z ↦ inl (z.0, subst (λ ss. slice_get ss j ≡ Some (Site.Up q)) (marked_sites p) z.1)
  | inr z ↦ inr z
]

here_log : (w v : World) → Marks w v → (k : ℕ) (r : Replica) → slice_get v.sites k ≡ Some (Site.Up r) → log_at w k ≡ r.log
unfolding log_at log_of
here_log w v p k r e = ap (λ o. option_map_or log_of o []) (subst (λ ss. slice_get ss k ≡ Some (Site.Up r)) (marked_sites p) e)

-- the lines of a whole step, and of one that is cut, part by part
whole_lines : (v : World) (k : ℕ) (x : Draft) → (whole_step v k x).lines ≡ (x.lines ++ (x.excess ++ send_lines k (length v.packets) x.sends)) ++ (map (λ (a : Reply). a.line) (take (length x.replies) x.replies) ++ [])
unfolding whole_step after_step
whole_lines v k x =
    ap (λ z. z ++ map (λ (a : Reply). a.line) x.replies) (append_assoc x.lines x.excess (send_lines k (length v.packets) x.sends))
    ∙ ap (λ z. (x.lines ++ (x.excess ++ send_lines k (length v.packets) x.sends)) ++ z) (ap (map (λ (a : Reply). a.line)) (sym (take_all x.replies)) ∙ sym (append-nil (map (λ (a : Reply). a.line) (take (length x.replies) x.replies))))

cut_lines : (v : World) (k count : ℕ) (x : Draft) →
    (cut_step count v k x).lines ≡ (x.lines ++ (x.excess ++ send_lines k (length v.packets) (take count x.sends))) ++ (map (λ (a : Reply). a.line) (take (count - length x.sends) x.replies) ++ Line.Down k ∷ [])
unfolding cut_step then_down after_step
cut_lines v k count x =
    append_assoc ((x.lines ++ x.excess) ++ send_lines k (length v.packets) (take count x.sends)) (map (λ (a : Reply). a.line) (take (count - length x.sends) x.replies)) (Line.Down k ∷ [])
    ∙ ap (λ z. z ++ (map (λ (a : Reply). a.line) (take (count - length x.sends) x.replies) ++ Line.Down k ∷ [])) (append_assoc x.lines x.excess (send_lines k (length v.packets) (take count x.sends)))

whole_sites : (v : World) (k : ℕ) (x : Draft) → (whole_step v k x).after.sites ≡ slice_set v.sites k (Site.Up x.replica)
unfolding whole_step after_step
whole_sites v k x = refl

cut_sites : (v : World) (k count : ℕ) (x : Draft) → (cut_step count v k x).after.sites ≡ slice_set v.sites k (Site.Down x.replica.log)
unfolding cut_step then_down after_step
cut_sites v k count x = refl

lost_sites : (v : World) (k : ℕ) (x : Draft) → (lost_step v k x).after.sites ≡ slice_set v.sites k (Site.Down (log_at v k))
unfolding lost_step down with_site
lost_sites v k x = refl

lost_lines : (v : World) (k : ℕ) (x : Draft) → (lost_step v k x).lines ≡ Line.Down k ∷ []
unfolding lost_step down
lost_lines v k x = refl

-- a site that goes down with its log
lost_holds : (end : World) (list : List Entry) (w v u : World) (p : Marks w v) (lines : List TraceLine) (act : Act) (k : ℕ) → u.sites ≡ slice_set v.sites k (Site.Down (log_at v k)) → LogsGoOn w u →
    Holds end list w lines → Holds end list u (lines ++ seen_by act (Line.Down k ∷ []))
lost_holds end list w v u p lines act k is grows h =
    same_holds end list w u lines act (Line.Down k ∷ []) grows (λ j. kept_logs v u k (Site.Down (log_at v k)) is (down_is (log_at v k)) j ∙ same_logs w v (marked_sites p) j) (tt, tt)
    (λ j q e. elim (up_sites w v u p k (Site.Down (log_at v k)) is j q e) [ inl z ↦ inl z.1 | inr z ↦ absurd (not_up (log_at v k) q z.1) ]) h

-- ---- boots

-- a draft of a boot: it tells of the boot, and nobody waits
record IsBoot (b : Draft) : Type 0 where
  lines : ArePlain b.lines
  excess : b.excess ≡ []
  replies : b.replies ≡ []
  waiting : b.replica.waiting ≡ []

boot_quiet : (k m : ℕ) (log : Log) → IsBoot (boot k m log)
unfolding boot first_boot founding_boot boot_again keep begun fresh lines_of when◌then◌otherwise◌
boot_quiet k m (rec ∷ log) = record { lines = (tt, tt); excess = refl; replies = refl; waiting = refl }
boot_quiet k m [] = go (nat_lt k m)
  where
    go : (c : Bool) → IsBoot (when c then founding_boot k m otherwise boot_again k m [])
    go true = record { lines = (tt, (tt, tt)); excess = refl; replies = refl; waiting = refl }
    go false = record { lines = (tt, tt); excess = refl; replies = refl; waiting = refl }

quiet_plain : (k i : ℕ) (b : Draft) → IsBoot b → ArePlain ((b.lines ++ (b.excess ++ send_lines k i b.sends)) ++ (map (λ (a : Reply). a.line) (take (length b.replies) b.replies) ++ []))
quiet_plain k i b q =
    plain_then (b.lines ++ (b.excess ++ send_lines k i b.sends)) (map (λ (a : Reply). a.line) (take (length b.replies) b.replies) ++ [])
    (plain_then b.lines (b.excess ++ send_lines k i b.sends) q.lines (subst (λ z. ArePlain (z ++ send_lines k i b.sends)) (sym q.excess) (sends_plain k i b.sends)))
    (subst (λ z. ArePlain (map (λ (a : Reply). a.line) (take (length z) z) ++ [])) (sym q.replies) tt)

room_logs : (w : World) (k j : ℕ) → log_at (with_room w k) j ≡ log_at w j
room_logs w k j = sym (seat_log_at (with_room w k) j) ∙ ap (λ (s : Seat). s.log) (sym (room_seats w k j)) ∙ seat_log_at w j

-- an entry that is logged after the start is logged in the log of the boot
started_logged : (v : World) (k : ℕ) (b : Draft) (e : Entry) → Logged (log_at (whole_step v k b).after k) e → Logged (log_at v k) e ⊎ Logged b.replica.log e
started_logged v k b e q = elim (log_set v (whole_step v k b).after k (Site.Up b.replica) (whole_sites v k b) k) [
  | inl is ↦ inl (subst (λ l. Logged l e) is q)
  | inr is ↦ inr (subst (λ l. Logged l e) (is.1 ∙ up_is b.replica) q)
]

module _ (n : ℕ) (end : World) (list : List Entry) (last : IsLast n end list) (w : World) (g : IsReached n w) (lines : List TraceLine) (h : Holds end list w lines) (act : Act) where
  module _ (v : World) (p : Marks w v) (k : ℕ) (r : Replica) (e : slice_get v.sites k ≡ Some (Site.Up r)) (input : Input) (reading : ℕ) (lt : reading < 2 ^ 64) (c : CanCome w k input) (led : Brings act c) where
    abbrev x : Draft
    x = step r input reading

    stepping : (u : World) (t : Site) → IsReached n u → u.sites ≡ slice_set v.sites k t → log_at u k ≡ x.replica.log → LogsGoOn w u → LogsGoOn u end → Stepping n end list w u lines k r input reading act
    stepping u t after is kept grows on = record {
      last = last;
      reached = g;
      marked = v;
      marks = p;
      up = e;
      can = c;
      led = led;
      here = here_log w v p k r e;
      me = ((all_held n w g).sites k (Site.Up r) (subst (λ ss. slice_get ss k ≡ Some (Site.Up r)) (marked_sites p) e)).number;
      after = after;
      grows = grows;
      on = on;
      kept = kept;
      others = other_sites w v u p k t is;
      holds = h;
    }

    steps_hold : (z : Moment) → Ends v k x z → IsReached n z.after → LogsGoOn w z.after → LogsGoOn z.after end → Holds end list z.after (lines ++ seen_by act z.lines)
    steps_hold z IsWhole after grows on =
        let s = stepping (whole_step v k x).after (Site.Up x.replica) after (whole_sites v k x) (kept_whole n w v p g (all_known n w g) k r e x) grows on in
        subst (λ ls. Holds end list (whole_step v k x).after (lines ++ seen_by act ls)) (sym (whole_lines v k x))
        (kept_holds s (x.excess ++ send_lines k (length v.packets) x.sends) [] (plain_then x.excess (send_lines k (length v.packets) x.sends) (step_good s).excess (sends_plain k (length v.packets) x.sends)) tt (length x.replies)
        (λ j q f. elim (up_sites w v (whole_step v k x).after p k (Site.Up x.replica) (whole_sites v k x) j q f) [ inl y ↦ inl y | inr y ↦ inr (y.0, sym (up_same x.replica q y.1), take_all x.replies) ]))
    steps_hold z (IsCut count) after grows on =
        let s = stepping (cut_step count v k x).after (Site.Down x.replica.log) after (cut_sites v k count x) (kept_cut n w v p g (all_known n w g) k r e x count) grows on in
        subst (λ ls. Holds end list (cut_step count v k x).after (lines ++ seen_by act ls)) (sym (cut_lines v k count x))
        (kept_holds s (x.excess ++ send_lines k (length v.packets) (take count x.sends)) (Line.Down k ∷ [])
        (plain_then x.excess (send_lines k (length v.packets) (take count x.sends)) (step_good s).excess (sends_plain k (length v.packets) (take count x.sends))) (tt, tt) (count - length x.sends)
        (λ j q f. elim (up_sites w v (cut_step count v k x).after p k (Site.Down x.replica.log) (cut_sites v k count x) j q f) [ inl y ↦ inl y | inr y ↦ absurd (not_up x.replica.log q y.1) ]))
    steps_hold z IsLost after grows on =
        subst (λ ls. Holds end list (lost_step v k x).after (lines ++ seen_by act ls)) (sym (lost_lines v k x)) (lost_holds end list w v (lost_step v k x).after p lines act k (lost_sites v k x) grows h)

  -- ---- bytes that are no datagram

  none_left : (c : ℕ) (q : Replica) → map (λ (a : Reply). a.line) (take c (begun q).replies) ≡ []
  unfolding begun
  none_left zero q = refl
  none_left (suc c) q = refl

  begun_plain : (k i c : ℕ) (ss : List (ℕ × Datagram)) (q : Replica) (tail : List Line) → ArePlain tail →
      ArePlain (((begun q).lines ++ ((begun q).excess ++ send_lines k i ss)) ++ (map (λ (a : Reply). a.line) (take c (begun q).replies) ++ tail))
  unfolding begun
  begun_plain k i c ss q tail h =
      plain_then (send_lines k i ss) (map (λ (a : Reply). a.line) (take c (begun q).replies) ++ tail) (sends_plain k i ss) (subst (λ z. ArePlain (z ++ tail)) (sym (none_left c q)) h)

  begun_site : (q : Replica) → log_of (Site.Up (begun q).replica) ≡ q.log
  unfolding begun log_of
  begun_site q = refl

  begun_down : (q : Replica) → log_of (Site.Down (begun q).replica.log) ≡ q.log
  unfolding begun log_of
  begun_down q = refl

  begun_same : (q : Replica) → Site.Up (begun q).replica ≡ Site.Up q
  unfolding begun
  begun_same q = refl

  junk_holds : (k : ℕ) (q : Replica) (e : slice_get w.sites k ≡ Some (Site.Up q)) (z : Moment) → Ends w k (begun q) z → LogsGoOn w z.after → Holds end list z.after (lines ++ seen_by act z.lines)
  junk_holds k q e z IsWhole grows =
      let b = begun q in
      let u = (whole_step w k b).after in
      same_holds end list w u lines act (whole_step w k b).lines grows
      (kept_logs w u k (Site.Up b.replica) (whole_sites w k b) (begun_site q ∙ sym (here_log w w none k q e)))
      (subst ArePlain (sym (whole_lines w k b)) (begun_plain k (length w.packets) (length b.replies) b.sends q [] tt))
      (λ j r f. elim (up_sites w w u none k (Site.Up b.replica) (whole_sites w k b) j r f) [
        | inl y ↦ inl y.1
        | inr y ↦ inl (subst (λ i. slice_get w.sites i ≡ Some (Site.Up r)) (sym y.0) (subst (λ t. slice_get w.sites k ≡ Some t) (sym (begun_same q) ∙ y.1) e))
      ]) h
  junk_holds k q e z (IsCut count) grows =
      let b = begun q in
      let u = (cut_step count w k b).after in
      same_holds end list w u lines act (cut_step count w k b).lines grows
      (kept_logs w u k (Site.Down b.replica.log) (cut_sites w k count b) (begun_down q ∙ sym (here_log w w none k q e)))
      (subst ArePlain (sym (cut_lines w k count b)) (begun_plain k (length w.packets) (count - length b.sends) (take count b.sends) q (Line.Down k ∷ []) (tt, tt)))
      (λ j r f. elim (up_sites w w u none k (Site.Down b.replica.log) (cut_sites w k count b) j r f) [ inl y ↦ inl y.1 | inr y ↦ absurd (not_up b.replica.log r y.1) ]) h
  junk_holds k q e z IsLost grows =
      subst (λ ls. Holds end list (lost_step w k (begun q)).after (lines ++ seen_by act ls)) (sym (lost_lines w k (begun q))) (lost_holds end list w w (lost_step w k (begun q)).after none lines act k (lost_sites w k (begun q)) grows h)

  -- ---- stops and starts

  down_holds : (k : ℕ) → LogsGoOn w (down w k).after → Holds end list (down w k).after (lines ++ seen_by act (down w k).lines)
  unfolding down with_site
  down_holds k grows = lost_holds end list w w (down w k).after none lines act k refl grows h

  boot_logged : (k m : ℕ) (log : Log) (e : Entry) → Logged (boot k m log).replica.log e → Logged log e
  unfolding boot first_boot founding_boot boot_again keep begun fresh when◌then◌otherwise◌
  boot_logged k m (rec ∷ log) e (inl q) = absurd (cc)
  boot_logged k m (rec ∷ log) e (inr q) = q
  boot_logged k m [] e q = go (nat_lt k m) q
    where
      go : (c : Bool) → Logged (when c then founding_boot k m otherwise boot_again k m []).replica.log e → ⊥
      go true (inl q) = absurd (cc)
      go true (inr (inl q)) = absurd (cc)
      go true (inr (inr q)) = q
      go false (inl q) = absurd (cc)
      go false (inr q) = q

  start_holds : (k : ℕ) → LogsGoOn w (start_at w k).after → Holds end list (start_at w k).after (lines ++ seen_by act (start_at w k).lines)
  unfolding start_at begun_at
  start_holds k grows =
      let v = with_room w k in
      let b = boot k v.n (log_at v k) in
      let u = (whole_step v k b).after in
      let ok = boot_quiet k v.n (log_at v k) in
      plain_holds end list w u lines act (whole_step v k b).lines grows
      (λ j e q. elim (cases_eq j k) [
        | inl is ↦ subst (λ i. Logged (log_at w i) e) (sym is) (subst (λ l. Logged l e) (room_logs w k k)
            (elim (started_logged v k b e (subst (λ i. Logged (log_at u i) e) is q)) [ inl old ↦ old | inr new ↦ boot_logged k v.n (log_at v k) e new ]))
        | inr ne ↦ subst (λ l. Logged l e) (log_other v u k j (Site.Up b.replica) (whole_sites v k b) ne ∙ room_logs w k j) q
      ])
      (subst ArePlain (sym (whole_lines v k b)) (quiet_plain k (length v.packets) b ok))
      (λ j q f. elim (set_up v.sites k (Site.Up b.replica) j q (subst (λ ss. slice_get ss j ≡ Some (Site.Up q)) (whole_sites v k b) f)) [
        | inl y ↦ inl (room_up w k j q y.1)
        | inr y ↦ inr (ap (λ (z : Replica). z.waiting) (sym (up_same b.replica q y.1)) ∙ ok.waiting)
      ]) h

  moment_holds : (m : Moment) (i : Happens w m) → IsLedBy act i → LogsGoOn m.after end → Holds end list m.after (lines ++ seen_by act m.lines)
  unfolding silent begun_at
  moment_holds m (Nothing v p) led on =
      same_holds end list w v lines act [] (moment_goes_on w (silent w v) (Nothing v p)) (same_logs w v (marked_sites p)) tt
      (λ j q e. inl (subst (λ ss. slice_get ss j ≡ Some (Site.Up q)) (marked_sites p) e)) h
  moment_holds m (Steps v p k r e input reading lt c z ends) led on =
      let i = Steps v p k r e input reading lt c z ends in
      steps_hold v p k r e input reading lt c led z ends (next g i) (moment_goes_on w (begun_at w z) i) on
  moment_holds m (Junk k r e z ends) led on = junk_holds k r e z ends (moment_goes_on w (begun_at w z) (Junk k r e z ends))
  moment_holds m (Stops k) led on = down_holds k (moment_goes_on w (down w k) (Stops k))
  moment_holds m (Joins f) led on =
      let v = with_room w (length w.sites) in
      same_holds end list w v lines act [] (moment_goes_on w (silent w v) (Joins f)) (room_logs w (length w.sites)) tt
      (λ j q e. inl (room_up w (length w.sites) j q e)) h
  moment_holds m (Starts k d f) led on = start_holds k (moment_goes_on w (start_at w k) (Starts k d f))

-- ---- the first world

first_plain : (n : ℕ) → ArePlain (first_lines n)
unfolding first_lines founding_boot boot_again keep begun fresh lines_of
first_plain n = go (numbers_below n)
  where
    go : (ks : List ℕ) → ArePlain (flat_map (λ k. (founding_boot k n).lines) ks)
    go [] = tt
    go (k ∷ ks) = (tt, (tt, go ks))

founding_logged : (k n : ℕ) (e : Entry) → Logged (founding_boot k n).replica.log e → ⊥
unfolding founding_boot boot_again keep begun fresh
founding_logged k n e (inl q) = absurd (cc)
founding_logged k n e (inr (inl q)) = absurd (cc)
founding_logged k n e (inr (inr q)) = q

founding_waits : (k n : ℕ) → (founding_boot k n).replica.waiting ≡ []
unfolding founding_boot boot_again keep begun fresh
founding_waits k n = refl

first_logged : (n j : ℕ) (e : Entry) → Logged (log_at (begin n) j) e → ⊥
unfolding begin log_at log_of numbers_below
first_logged n j e q = go (slice_get (map (λ k. Site.Up (founding_boot k n).replica) (range_with_len 0 n)) j) refl q
  where
    go : (o : Option Site) → slice_get (map (λ k. Site.Up (founding_boot k n).replica) (range_with_len 0 n)) j ≡ o → Logged (option_map_or log_of o []) e → ⊥
    go None is q = q
    go (Some s) is q =
        let t = get_range (λ k. Site.Up (founding_boot k n).replica) 0 n j s is in
        founding_logged j n e (subst (λ z. Logged (log_of z) e) (sym (from_zero n j s t.1)) q)

first_holds : (n : ℕ) (end : World) (list : List Entry) → Holds end list (begin n) (map (traced None) (first_lines n))
first_holds n end list =
    let plain = plain_told None (first_lines n) (first_plain n) in
    record {
      right = λ t a. plain_right end list t.line (plain t a);
      within = λ t a. other_within (log_at (begin n)) t.line (says_nothing t.line (plain t a)).reply;
      submitted = λ j e q o. absurd (first_logged n j e q);
      executes = λ t a y v q. absurd ((says_nothing t.line (plain t a)).exec y v q);
      submits = λ t a y v q. absurd ((says_nothing t.line (plain t a)).submit (of_submit y v t.line q));
      replies = λ t a y v q. absurd ((says_nothing t.line (plain t a)).reply (on_is_reply list y v t.line q));
      late = plain_late None list [] (first_lines n) (first_plain n);
      once = plain_new None [] (first_lines n) (first_plain n);
      wait = λ j q e. subst (Wait list (map (traced None) (first_lines n)) j q.log) (sym (ap (λ (z : Replica). z.waiting) (sym (founded_is n j q e)) ∙ founding_waits j n)) (record { logged = λ f m. absurd m; new = λ f m. absurd m; apart = tt });
    }

-- ---- every world

pub seen_reached : (n : ℕ) (w : World) (lines : List TraceLine) → IsSeen n w lines → IsReached n w
seen_reached n w lines boots = first
seen_reached n w lines (then_on {w = v} {lines = ls} q a h led) = next (seen_reached n v ls q) h

pub seen_holds : (n : ℕ) (end : World) (list : List Entry) → IsLast n end list → (w : World) (lines : List TraceLine) → IsSeen n w lines → LogsGoOn w end → Holds end list w lines
seen_holds n end list last w lines boots on = first_holds n end list
seen_holds n end list last w lines (then_on {w = v} {m = m} {lines = ls} q a h led) on =
    let before : LogsGoOn v end = λ j. extends_trans (moment_goes_on v m h j) (on j) in
    moment_holds n end list last v (seen_reached n v ls q) ls (seen_holds n end list last v ls q before) a m h led on
