-- Each change of a step keeps the invariant of its drafts.
use Rattle.std.proofs.Common.{◌≡◌, ℕ, ◌-◌, ◌<◌, ◌≤◌, List, [], ◌∷◌, ◌++◌, length, drop, refl, sym, ◌∙◌, ap, subst, inl, inr, cond, arith, map, append_assoc}
use Rattle.std.specs.Prelude.{◌⊎◌, ◌≢◌, Option, Some, None, slice_get, option_to_list}
use Rattle.std.specs.Option.{option_map_or}
use Rattle.std.proofs.lemmas.Bool.{cases_eq, cases_lt, ne_eqb, eq-eqb}
use Rattle.std.proofs.lemmas.Option.{same_Some}
use Rattle.std.proofs.lemmas.List.{append-nil, map-append, length-append}
use Rattle.crsm_spec.specs.Types.{Stamp, Entry, Decision, Command, Answer, Rec, InEpoch, Datagram, Control, Line}
use Rattle.crsm_spec.specs.Lists.{Among, first_of}
use Rattle.crsm_spec.specs.Log.{Log, known, decision, executed, logged, logged_in, entry_of, unexecuted}
use Rattle.crsm_spec.specs.Lines.{lines_of, exec_lines}
use Rattle.crsm_spec.specs.Replica.{Replica, Waiting}
use Rattle.crsm_spec.specs.Controls.{new_entries}
use Rattle.crsm_spec.specs.Draft.{Draft, Reply, keep, count_vote, issued_at, push_to_members, push_to}
use Rattle.crsm_spec.specs.Clients.{submit, await}
use Rattle.crsm_spec.specs.Step.{Input, step}
use Rattle.crsm_spec.specs.World.{World, log_at}
use Rattle.crsm_spec.specs.Acts.{Act}
use Rattle.crsm_spec.specs.Run.{TraceLine, traced}
use Rattle.crsm_spec.specs.Safe.{IsExecOf, IsSubmitOf, command_of}
use Rattle.crsm_fact_log.specs.Logs.{AllFit, Extends, same, more, Logged}
use Rattle.crsm_law_steps.specs.Laws.{LogsGoOn}
use Rattle.crsm_fact_step.specs.Messages.{ReceivesControl}
use Rattle.crsm_law_steps.specs.Happenings.{CanCome, Brings, IsReached}
use Rattle.crsm_law_steps.specs.Happenings.CanCome.{IsPacket, IsCommand, IsReply, IsTick, IsSuspicion}
use Rattle.crsm_fact_log.proofs.Logged.{extends_trans, end_fits, prepare_known, newest_all}
use Rattle.crsm_law_epoch.specs.Worlds.{sent_in}
use Rattle.crsm_law_epoch.proofs.Words.{among_map}
use Rattle.crsm_law_epoch.proofs.Worlds.{seat_log_at}
use Rattle.crsm_fact_log.proofs.Sorted.{Le, lt_not, le_self}
use Rattle.crsm_fact_log.proofs.Lists.{all_at, get_some}
use Rattle.crsm_law_epoch.proofs.CommitEffects.{same_entry}
use Rattle.crsm_law_epoch.proofs.LogSteps.{IsBetween}
use Rattle.crsm_law_epoch.proofs.LogWorlds.{all_held, logs_fit, epochs_hold_always}
use Rattle.crsm_law_messages.specs.Laws.{Says, ReceivesIn}
use Rattle.crsm_law_messages.proofs.Worlds.{received_is_sent}
use Rattle.crsm_law_messages.proofs.Truth.{sent_is_true}
use Rattle.crsm_law_agreement.proofs.Coordinators.{extends_among}
use Rattle.crsm_law_agreement.proofs.Logs.{is_logged}
use Rattle.crsm_law_bounds.specs.Bounds.{IsSpelt}
use Rattle.crsm_law_bounds.proofs.Worlds.{short_before, short_logs_are_spelt}
use Rattle.crsm_fact_log.proofs.LogsFit.{of_known, commit_entry}
use Rattle.crsm_law_runs.proofs.Lists.{got_among, tail_logged, executed_logged}
use Rattle.crsm_law_runs.proofs.Each.{Each, each_then, each_all}
use Rattle.crsm_law_runs.proofs.Effects.{ArePlain, IsQuiet, IsKept}
use Rattle.crsm_law_runs.proofs.Words.{IsRight, IsReplyOn, IsReplyLine, IsSubmitLine, IsLate, IsLateLine, IsNew, IsSubmittedIn, submitted_more, seen_by, exec_right, exec_only}
use Rattle.crsm_law_runs.proofs.LineKinds.{late_other, of_submit, on_is_reply, Kind, Plain, Exec, Submit, Ok, Dropped, kind_of_line}
use Rattle.crsm_law_runs.proofs.Holds.{HasStamp, AreApart, Wait, Stepping, Has, HasIn, IsHere, IsWithin, reply_lines, Good, here_longer}
use Rattle.crsm_law_runs.proofs.Drafts.{among_left, among_either, among_unmap, among_dropped, placed, told_line, seen_among, no_more, quiet_logs, quiet_executes, quiet_lines, logged_before, page_among, new_among, apart_then, decision_among, get_prefix}

pub seen_more : (act : Act) (lines : List TraceLine) (ls ms : List Line) → lines ++ seen_by act (ls ++ ms) ≡ (lines ++ seen_by act ls) ++ seen_by act ms
seen_more act lines ls ms = ap (λ l. lines ++ l) (map-append (traced (Some act)) ls ms) ∙ sym (append_assoc lines (seen_by act ls) (seen_by act ms))

pub same_came : (a b : ℕ) (c d : Datagram) → Input.Came a c ≡ Input.Came b d → c ≡ d
same_came a b c d h = cc

-- ---- an own entry is logged

submit_line : (me : ℕ) (log : Log) (f : Entry) → f.stamp.origin ≡ me → lines_of me log (Rec.Prepare f) ≡ Line.Submit me f.epoch f.stamp.time f.command.client f.command.number ∷ []
unfolding lines_of
submit_line me log f e = ap (λ c. cond c (Line.Submit me f.epoch f.stamp.time f.command.client f.command.number) (Line.Log me f.epoch f.stamp) ∷ []) (eq-eqb f.stamp.origin me e)

pub record IsStamped (a : ℕ) (e : Entry) (x y : Draft) : Type 0 where
  pub log : y.replica.log ≡ Rec.Prepare e ∷ x.replica.log
  pub lines : y.lines ≡ x.lines ++ Line.Submit x.replica.me e.epoch e.stamp.time e.command.client e.command.number ∷ []
  pub replies : y.replies ≡ x.replies
  pub waiting : y.replica.waiting ≡ x.replica.waiting ++ record { address = a; entry = e } ∷ []
  pub me : y.replica.me ≡ x.replica.me
  pub excess : y.excess ≡ x.excess

abbrev pub the_entry : Command → ℕ → Draft → Entry
the_entry c t x = record { epoch = known x.replica.log; stamp = record { time = t; origin = x.replica.me }; command = c }

pub is_stamped : (a : ℕ) (c : Command) (t : ℕ) (x : Draft) → IsStamped a (the_entry c t x) x (submit a c t x)
unfolding submit await push_to_members push_to count_vote issued_at keep
is_stamped a c t x = record { log = refl; lines = ap (λ l. x.lines ++ l) (submit_line x.replica.me x.replica.log (the_entry c t x) refl); replies = refl; waiting = refl; me = refl; excess = refl }

told_act : (act : Act) (l : Line) → command_of (traced (Some act) l).by ≡ command_of (Some act)
unfolding traced
told_act act l = refl

module _ {n : ℕ} {end : World} {list : List Entry} {w u : World} {lines : List TraceLine} {k : ℕ} {r : Replica} {input : Input} {reading : ℕ} {act : Act}
    (s : Stepping n end list w u lines k r input reading act) where
  abbrev pub last : Log
  last = (step r input reading).replica.log

  abbrev pub IsGood : List Waiting → Draft → Type 0
  IsGood = Good end list w lines k act

  pub short_end : (v : World) → IsReached n v → LogsGoOn v end → IsSpelt n v
  short_end v q on = short_logs_are_spelt n v s.last.most q (short_before v end on s.last.short)

  pub spelt_w : IsSpelt n w
  spelt_w = short_end w s.reached (λ j. extends_trans (s.grows j) (s.on j))

  pub spelt_u : IsSpelt n u
  spelt_u = short_end u s.after s.on

  pub spelt_end : IsSpelt n end
  spelt_end = short_logs_are_spelt n end s.last.most s.last.reached s.last.short

  pub fit_last : AllFit k n last
  fit_last = subst (AllFit k n) s.kept (logs_fit n u s.after spelt_u.few k)

  pub at_u : (a : Log) → Extends a last → Extends a (log_at u k)
  at_u a x = subst (Extends a) (sym s.kept) x

  pub at_end : (a : Log) → Extends a last → Extends a (log_at end k)
  at_end a x = extends_trans (at_u a x) (s.on k)

  -- ---- entries that are logged

  pub has_more : (rec : Rec) (log : Log) (f : Entry) → Has w k log f → Has w k (rec ∷ log) f
  has_more rec log f (inl h) = inl (h.0, inr h.1)
  has_more rec log f (inr h) = inr h

  pub has_own : (log : Log) → Extends r.log log → (f : Entry) → Has w k log f → f.stamp.origin ≡ k → Logged log f
  has_own log x f (inl h) o = h.1
  has_own log x f (inr h) o = extends_among x (Rec.Prepare f) (subst (λ l. Logged l f) s.here (subst (λ i. Logged (log_at w i) f) o h))

  stamped : (x : ℕ) (t : Stamp) (log : Log) → HasStamp w x t → HasIn w k log x t
  stamped x t log h = record { entry = h.entry; epoch = h.epoch; stamp = h.stamp; has = inr h.logged }

  pub in_more : (rec : Rec) (log : Log) (x : ℕ) (t : Stamp) → HasIn w k log x t → HasIn w k (rec ∷ log) x t
  in_more rec log x t h = record { entry = h.entry; epoch = h.epoch; stamp = h.stamp; has = has_more rec log h.entry h.has }

  -- what is not of here is logged at w, where it is logged at u
  known_there : (log : Log) → (f : Entry) → Logged (log_at u f.stamp.origin) f → (f.stamp.origin ≡ k → Logged log f) → Has w k log f
  known_there log f h own = elim (cases_eq f.stamp.origin k) [
    | inl e ↦ inl (e, own e)
    | inr ne ↦ inr (subst (λ l. Logged l f) (s.others f.stamp.origin ne) h)
  ]

  -- ---- a record is kept

  module _ (rec : Rec) (x y : Draft) (kept : IsKept rec x y) (rest : List Waiting) (g : IsGood rest x) where
    abbrev ls : List Line
    ls = lines_of x.replica.me x.replica.log rec

    keeps_good : ((e : Entry) → Logged (rec ∷ x.replica.log) e → Has w k (rec ∷ x.replica.log) e) →
        ((e : Entry) → Logged (rec ∷ x.replica.log) e → e.stamp.origin ≡ k → Logged x.replica.log e) →
        ((p : ℕ) (e : Entry) → slice_get (executed (rec ∷ x.replica.log)) p ≡ Some e → Has w k (rec ∷ x.replica.log) e) →
        length (executed x.replica.log) ≤ length (executed (rec ∷ x.replica.log)) →
        ((l : Line) → Among ls l → IsRight end list l × (IsSubmitLine l → ⊥) × (IsReplyLine l → ⊥) × ((z : ℕ) (t : Stamp) → IsExecOf z t l → HasIn w k (rec ∷ x.replica.log) z t)) → IsGood rest y
    keeps_good logs own runs longer says = record {
      me = kept.silent.me ∙ g.me;
      right = λ l a. elim (line_of l a) [ inl b ↦ g.right l b | inr b ↦ (says l b).0 ];
      submitted = λ e h o. subst (λ z. IsSubmittedIn z e) (sym (ap (λ z. lines ++ seen_by act z) kept.lines ∙ seen_more act lines x.lines ls))
          (submitted_more (lines ++ seen_by act x.lines) (seen_by act ls) e (g.submitted e (own e (subst (λ l. Logged l e) kept.log h) o) o));
      logged = λ e h. subst (λ l. Has w k l e) (sym kept.log) (logs e (subst (λ l. Logged l e) kept.log h));
      known = λ p e h. subst (λ l. Has w k l e) (sym kept.log) (runs p e (subst (λ l. slice_get (executed l) p ≡ Some e) kept.log h));
      executes = λ l a z t h. subst (λ q. HasIn w k q z t) (sym kept.log) (elim (line_of l a) [ inl b ↦ in_more rec x.replica.log z t (g.executes l b z t h) | inr b ↦ (says l b).3 z t h ]);
      submits = λ l a z t h. subst (λ q. HasIn w k q z t) (sym kept.log) (elim (line_of l a) [ inl b ↦ in_more rec x.replica.log z t (g.submits l b z t h) | inr b ↦ absurd ((says l b).1 (of_submit z t l h)) ]);
      late = subst (λ z. Each (IsLate list) lines (seen_by act z)) (sym kept.lines) (subst (Each (IsLate list) lines) (sym (map-append (traced (Some act)) x.lines ls))
          (each_then (IsLate list) lines (seen_by act x.lines) (seen_by act ls) g.late
          (each_all (IsLate list) (lines ++ seen_by act x.lines) (seen_by act ls) (λ before t a. let q = seen_among act ls t a in subst (IsLateLine list before) (sym q.2) (late_other list before q.0 (says q.0 q.1).1)))));
      quiet = λ l a h. elim (line_of l a) [ inl b ↦ g.quiet l b h | inr b ↦ (says l b).2 h ];
      excess = kept.silent.excess g.excess;
      answers = λ a h. let q = g.answers a (subst (λ z. Among z a) kept.silent.replies h) in (q.0, subst (λ l. IsHere k l a.line) (sym kept.log) (here_longer k x.replica.log (rec ∷ x.replica.log) longer a.line q.1), q.2, q.3);
      replies = λ a h z t q. subst (λ l. HasIn w k l z t) (sym kept.log) (in_more rec x.replica.log z t (g.replies a (subst (λ l. Among l a) kept.silent.replies h) z t q));
      once = subst (λ z. Each IsNew lines (reply_lines act z)) (sym kept.silent.replies) g.once;
      wait = subst (λ z. Wait list (lines ++ reply_lines act z) k y.replica.log (y.replica.waiting ++ rest)) (sym kept.silent.replies)
          (subst (λ z. Wait list (lines ++ reply_lines act x.replies) k y.replica.log (z ++ rest)) (sym kept.silent.waiting)
          (record { logged = λ f a. let q = g.wait.logged f a in (subst (λ l. Logged l f.entry) (sym kept.log) (inr q.0), q.1); new = g.wait.new; apart = g.wait.apart }));
    }
      where
        line_of : (l : Line) → Among y.lines l → Among x.lines l ⊎ Among ls l
        line_of l a = among_either x.lines ls l (subst (λ z. Among z l) kept.lines a)

  has_exec : (log : Log) (l : Line) (z : ℕ) (q : Stamp) → IsExecOf z q l → (e : Entry) → IsExecOf e.epoch e.stamp l → Has w k log e → HasIn w k log z q
  has_exec log l z q h e i has = go l (kind_of_line l) h i
    where
      go : (l : Line) → Kind l → IsExecOf z q l → IsExecOf e.epoch e.stamp l → HasIn w k log z q
      go l (Plain p a b c) h i = absurd (c z q h)
      go _ (Exec a b x t c m v) h i = record { entry = e; epoch = sym i.0 ∙ h.0; stamp = sym i.1 ∙ h.1; has = has }
      go _ (Submit a b c d e) h i = absurd h
      go _ (Ok a b c d e) h i = absurd h
      go _ (Dropped a b c d e) h i = absurd h

  -- ---- records that log and execute nothing

  pub quiet_good : (rec : Rec) → IsQuiet rec → (x y : Draft) → IsKept rec x y → (rest : List Waiting) → IsGood rest x → IsGood rest y
  quiet_good rec q x y kept rest g =
      let log = x.replica.log in
      let old : (e : Entry) → Logged (rec ∷ log) e → Logged log e = no_more rec log (quiet_logs rec q) in
      let runs = quiet_executes rec log q in
      let len = ap length runs in
      keeps_good rec x y kept rest g
      (λ e h. has_more rec log e (g.logged e (old e h)))
      (λ e h o. old e h)
      (λ p e h. has_more rec log e (g.known p e (subst (λ z. slice_get z p ≡ Some e) runs h)))
      (omega (arith, len))
      (λ l a. let o = quiet_lines x.replica.me log rec q l a in (o.right end list, o.submit, o.reply, λ z t h. absurd (o.exec z t h)))

  -- ---- an entry of another

  frame_logged : (a j me e i : ℕ) (f : Entry) → input ≡ Input.Came a (Datagram.Frame j me e i (InEpoch.Prepare f)) → f.stamp.origin ≡ j → Logged (log_at w f.stamp.origin) f
  unfolding sent_in
  frame_logged a j me e i f is o = go input s.can is
    where
      go : (z : Input) → CanCome w k z → z ≡ Input.Came a (Datagram.Frame j me e i (InEpoch.Prepare f)) → Logged (log_at w f.stamp.origin) f
      go z (IsPacket from d m) q =
          let was = subst (Among (sent_in w)) (same_came from a d (Datagram.Frame j me e i (InEpoch.Prepare f)) q) (among_map (λ m. m.datagram) w.packets (record { from = from; to = k; datagram = d; used = m.0 }) m.1) in
          subst (λ l. Logged (log_at w l) f) (sym o) (subst (λ l. Logged l f) (seat_log_at w j) ((epochs_hold_always n w s.reached spelt_w.few).says j me e i f was).0)
      go z (IsCommand b c x) q = absurd (cc)
      go z (IsReply b c d t) q = absurd (cc)
      go z IsTick q = absurd (cc)
      go z (IsSuspicion ms x) q = absurd (cc)

  log_line : (me : ℕ) (log : Log) (f : Entry) → (f.stamp.origin ≡ me → ⊥) → lines_of me log (Rec.Prepare f) ≡ Line.Log me f.epoch f.stamp ∷ []
  unfolding lines_of
  log_line me log f ne = ap (λ c. cond c (Line.Submit me f.epoch f.stamp.time f.command.client f.command.number) (Line.Log me f.epoch f.stamp) ∷ []) (ne_eqb f.stamp.origin me ne)

  prepare_executes : (f : Entry) (log : Log) → executed (Rec.Prepare f ∷ log) ≡ executed log
  unfolding executed
  prepare_executes f log = refl

  pub took_good : (a j e i : ℕ) (f : Entry) → input ≡ Input.Came a (Datagram.Frame j r.me e i (InEpoch.Prepare f)) → j ≢ r.me → f.stamp.origin ≡ j → (x y : Draft) → IsKept (Rec.Prepare f) x y → (rest : List Waiting) → IsGood rest x → IsGood rest y
  took_good a j e i f is ne o x y kept rest g =
      let rec = Rec.Prepare f in
      let log = x.replica.log in
      let foreign : f.stamp.origin ≡ k → ⊥ = λ q. ne (sym o ∙ q ∙ sym s.me) in
      let runs = prepare_executes f log in
      let len = ap length runs in
      keeps_good rec x y kept rest g
      (λ z h. elim h [
        | inl q ↦ subst (Has w k (rec ∷ log)) (same_entry f z q) (inr (frame_logged a j r.me e i f is o))
        | inr q ↦ has_more rec log z (g.logged z q)
      ])
      (λ z h own. elim h [ inl q ↦ absurd (foreign (ap (λ (t : Entry). t.stamp.origin) (same_entry f z q) ∙ own)) | inr q ↦ q ])
      (λ p z h. has_more rec log z (g.known p z (subst (λ t. slice_get t p ≡ Some z) runs h)))
      (omega (arith, len))
      (λ l m. other_line l (subst (λ t. Among t l) (log_line x.replica.me log f (λ q. foreign (q ∙ g.me))) m))
    where
      other_line : (l : Line) → Among (Line.Log x.replica.me f.epoch f.stamp ∷ []) l →
          IsRight end list l × (IsSubmitLine l → ⊥) × (IsReplyLine l → ⊥) × ((z : ℕ) (t : Stamp) → IsExecOf z t l → HasIn w k (Rec.Prepare f ∷ x.replica.log) z t)
      other_line l (inl q) = subst (λ c. IsRight end list c × (IsSubmitLine c → ⊥) × (IsReplyLine c → ⊥) × ((z : ℕ) (t : Stamp) → IsExecOf z t c → HasIn w k (Rec.Prepare f ∷ x.replica.log) z t)) q (tt, (λ h. h), (λ h. h), λ z t h. absurd h)
      other_line l (inr q) = absurd q

  -- ---- entries that are executed

  runs_good : (rec : Rec) (es : List Entry) (x y : Draft) → IsKept rec x y → ((f : Entry) → rec ≡ Rec.Prepare f → ⊥) → executed (rec ∷ x.replica.log) ≡ executed x.replica.log ++ es →
      lines_of x.replica.me x.replica.log rec ≡ exec_lines x.replica.me (executed x.replica.log) es → Extends (rec ∷ x.replica.log) last → ((e : Entry) → Among es e → Has w k x.replica.log e) → (rest : List Waiting) → IsGood rest x → IsGood rest y
  runs_good rec es x y kept none runs says ext has rest g =
      let log = x.replica.log in
      let old : (e : Entry) → Logged (rec ∷ log) e → Logged log e = no_more rec log none in
      let len = ap length runs ∙ length-append (executed log) es in
      let prefix = s.last.prefix k (rec ∷ log) (at_end (rec ∷ log) ext) in
      keeps_good rec x y kept rest g
      (λ e h. has_more rec log e (g.logged e (old e h)))
      (λ e h o. old e h)
      (λ p e h. has_more rec log e (elim (among_either (executed log) es e (subst (λ z. Among z e) runs (got_among (executed (rec ∷ log)) p e h))) [
        | inl a ↦ (let t = placed (executed log) e a in g.known t.0 e t.1)
        | inr a ↦ has e a
      ]))
      (omega (arith, len))
      (λ l a.
      let m = subst (λ z. Among z l) says a in
      let o = exec_only x.replica.me (executed log) es l m in
      let t = exec_right end list x.replica.me (executed log) es prefix.0 (ap (λ z. z ++ prefix.0) (sym runs) ∙ prefix.1) l m in
      (t.0, o.0, o.1, λ z q h. has_exec (rec ∷ log) l z q h t.1 t.3 (has_more rec log t.1 (has t.1 t.2))))

  pub executed_good : (e : Entry) (x y : Draft) → first_of (unexecuted x.replica.log) ≡ Some e → IsKept (Rec.Commit e.stamp) x y → Extends (Rec.Commit e.stamp ∷ x.replica.log) last → (rest : List Waiting) → IsGood rest x → IsGood rest y
  unfolding executed lines_of
  executed_good e x y is kept ext rest g =
      let log = x.replica.log in
      runs_good (Rec.Commit e.stamp) (option_to_list (entry_of log e.stamp)) x y kept (λ f q. absurd (cc)) refl refl ext
      (λ z a. let t = listed (entry_of log e.stamp) z a in g.logged z (of_known log z (commit_entry log e.stamp z t).0).0) rest g
    where
      listed : (o : Option Entry) (z : Entry) → Among (option_to_list o) z → o ≡ Some z
      listed None z a = absurd a
      listed (Some f) z (inl q) = ap (λ t. Some t) q
      listed (Some f) z (inr q) = absurd q

  pub tail_good : (d : Decision) (x y : Draft) → decision x.replica.log ≡ Some d →
      IsKept (Rec.Adopt (length (executed x.replica.log)) (drop (length (executed x.replica.log) - d.base_len) d.tail)) x y →
      Extends (Rec.Adopt (length (executed x.replica.log)) (drop (length (executed x.replica.log) - d.base_len) d.tail) ∷ x.replica.log) last → (rest : List Waiting) → IsGood rest x → IsGood rest y
  unfolding executed lines_of known
  tail_good d x y is kept ext rest g =
      let log = x.replica.log in
      let done = length (executed log) in
      let before : Extends log last = extends_trans (more (Rec.Adopt done (drop (done - d.base_len) d.tail)) same) ext in
      let on_record = extends_among (at_u log before) (Rec.Decide d) (decision_among log d is) in
      let fits = all_at _ (log_at u k) (Rec.Decide d) (spelt_u.records k) on_record in
      runs_good (Rec.Adopt done (drop (done - d.base_len) d.tail)) (drop (done - d.base_len) d.tail) x y kept (λ f q. absurd (cc)) refl refl ext
      (λ z a.
      let t = tail_logged n u s.after spelt_u.few spelt_u.messages k d on_record fits.first z (among_dropped (done - d.base_len) d.tail z a) in
      let ep = t.1 in
      let kn : known log ≡ d.epoch = ap (λ o. option_map_or (λ d. d.epoch) o 0) is in
      known_there log z t.0 (λ o. logged_before k n log last before fit_last z (subst (λ l. Logged l z) s.kept (subst (λ i. Logged (log_at u i) z) o t.0)) (omega (arith, ep, kn)))) rest g

  pub page_good : (j e from : ℕ) (es : List Entry) (x y : Draft) → ReceivesControl r input j (Control.Page e from es) →
      IsKept (Rec.Adopt (length (executed x.replica.log)) (new_entries x.replica.log from es)) x y →
      Extends (Rec.Adopt (length (executed x.replica.log)) (new_entries x.replica.log from es) ∷ x.replica.log) last → (rest : List Waiting) → IsGood rest x → IsGood rest y
  unfolding executed lines_of
  page_good j e from es x y h kept ext rest g =
      let log = x.replica.log in
      let receives : ReceivesIn n w j k (Control.Page e from es) =
      record { reached = s.reached; marked = s.marked; marks = s.marks; replica = r; up = s.up; input = input; can_come = s.can; receives = h } in
      let told = received_is_sent n w j k (Control.Page e from es) receives spelt_w.messages in
      let true_of = sent_is_true n w told.0 told.4 in
      let says = subst (Says true_of.0) told.3 true_of.2 in
      runs_good (Rec.Adopt (length (executed log)) (new_entries log from es)) (new_entries log from es) x y kept (λ f q. absurd (cc)) refl refl ext
      (λ z a.
      let m = placed (executed true_of.0) z (page_among true_of.0 e from from es z says.1 (new_among log from es z a)) in
      inr (executed_logged n w s.reached spelt_w.few spelt_w.messages told.0.from true_of.0 true_of.1 m.0 z m.1)) rest g

  -- ---- an own entry

  -- what is stamped now has a stamp of its own
  pub fresh : (x : Draft) (e : Entry) → Extends (Rec.Prepare e ∷ x.replica.log) last → Extends r.log x.replica.log → e.stamp.origin ≡ k → (f : Entry) → Has w k x.replica.log f → f.epoch ≡ e.epoch → f.stamp ≡ e.stamp → ⊥
  unfolding logged
  fresh x e ext old o f has ep st =
      let log = x.replica.log in
      let own = has_own log old f has (ap (λ (t : Stamp). t.origin) st ∙ o) in
      let fits = prepare_known k n log e (end_fits k n ext fit_last).0 in
      let apart = all_at _ (logged_in (known log) log) f (newest_all e (logged_in (known log) log) fits.1) (is_logged (known log) log f own (ep ∙ fits.0)) in
      elim apart [
        | inl lt ↦ lt_not e.stamp f.stamp lt (subst (λ t. Le f.stamp t) st (le_self f.stamp))
        | inr lt ↦ lt_not f.stamp e.stamp lt (subst (λ t. Le t f.stamp) st (le_self f.stamp))
      ]

  pub command_is : (a : ℕ) (c : Command) → input ≡ Input.Came a (Datagram.Request c) → command_of (Some act) ≡ Some c
  command_is a c is = go input s.can s.led is
    where
      same_request : (c d : Command) → Datagram.Request c ≡ Datagram.Request d → c ≡ d
      same_request c d e = cc

      go : (z : Input) (m : CanCome w k z) → Brings act m → z ≡ Input.Came a (Datagram.Request c) → command_of (Some act) ≡ Some c
      go z (IsPacket from d m) b q = absurd (subst IsBetween (same_came from a d (Datagram.Request c) q) ((all_held n w s.reached).packets (record { from = from; to = k; datagram = d; used = m.0 }) m.1))
      go z (IsReply x y d t) b q = absurd (cc)
      go z (IsCommand x d m) b q = b ∙ ap (λ z. Some z) (same_request d c (same_came x a (Datagram.Request d) (Datagram.Request c) q))
      go z IsTick b q = absurd (cc)
      go z (IsSuspicion ms m) b q = absurd (cc)

  -- the stamp that its line tells
  abbrev now : Draft → Entry → Stamp
  now x e = record { time = e.stamp.time; origin = x.replica.me }

  now_is : (x : Draft) (e : Entry) → e.stamp.origin ≡ k → IsGood [] x → now x e ≡ e.stamp
  now_is x e o g = ap (λ z. record { time = e.stamp.time; origin = z }) (g.me ∙ sym o)

  is_behind : (x : Draft) (e : Entry) → e.stamp.origin ≡ k → IsGood [] x → ((f : Entry) → Has w k x.replica.log f → f.epoch ≡ e.epoch → f.stamp ≡ e.stamp → ⊥) →
      (t : TraceLine) → Among (lines ++ seen_by act x.lines) t → (j d i place : ℕ) (v : Answer) → t.line ≡ Line.ReplyOk j d i place v →
      (q : ℕ) (f : Entry) → slice_get list q ≡ Some f → f.epoch ≡ e.epoch → f.stamp ≡ now x e → place < q
  is_behind x e o g newly t m j d i place v is q f at ep st = elim (among_either lines (seen_by act x.lines) t m) [
    | inr b ↦ (let z = seen_among act x.lines t b in absurd (g.quiet z.0 z.1 (subst IsReplyLine (sym is ∙ z.2) tt)))
    | inl b ↦ elim (cases_lt place q) [
      | inl lt ↦ lt
      | inr le ↦ (let within : place < length (executed (log_at w j)) = subst (IsWithin (log_at w)) is (s.holds.within t b) in
          let y = get_some (executed (log_at w j)) q (omega (arith, within, le)) in
          let prefix = s.last.prefix j (log_at w j) (extends_trans (s.grows j) (s.on j)) in
          let same_one : y.0 ≡ f = same_Some y.0 f (sym (subst (λ z. slice_get z q ≡ Some y.0) prefix.1 (get_prefix (executed (log_at w j)) prefix.0 q y.0 y.1)) ∙ at) in
          let there = executed_logged n w s.reached spelt_w.few spelt_w.messages j (log_at w j) same q f (subst (λ z. slice_get (executed (log_at w j)) q ≡ Some z) same_one y.1) in
          absurd (newly f (inr there) ep (st ∙ now_is x e o g)))
    ]
  ]

  -- it was not submitted or replied to before, and stands behind all that was answered before
  is_late : (x : Draft) (e : Entry) → e.stamp.origin ≡ k → IsGood [] x → ((f : Entry) → Has w k x.replica.log f → f.epoch ≡ e.epoch → f.stamp ≡ e.stamp → ⊥) →
      IsLateLine list (lines ++ seen_by act x.lines) (Line.Submit x.replica.me e.epoch e.stamp.time e.command.client e.command.number)
  is_late x e o g newly = record {
    submitted = λ t m h. elim (among_either lines (seen_by act x.lines) t m) [
      | inl b ↦ (let z = s.holds.submits t b e.epoch (now x e) h in newly z.entry (inr z.logged) z.epoch (z.stamp ∙ now_is x e o g))
      | inr b ↦ (let q = seen_among act x.lines t b in let z = g.submits q.0 q.1 e.epoch (now x e) (subst (IsSubmitOf e.epoch (now x e)) q.2 h) in newly z.entry z.has z.epoch (z.stamp ∙ now_is x e o g))
    ];
    replied = λ t m h. elim (among_either lines (seen_by act x.lines) t m) [
      | inl b ↦ (let z = s.holds.replies t b e.epoch (now x e) h in newly z.entry (inr z.logged) z.epoch (z.stamp ∙ now_is x e o g))
      | inr b ↦ (let q = seen_among act x.lines t b in g.quiet q.0 q.1 (on_is_reply list e.epoch (now x e) q.0 (subst (IsReplyOn list e.epoch (now x e)) q.2 h)))
    ];
    behind = is_behind x e o g newly;
  }

  pub stamped_good : (a : ℕ) (e : Entry) (x y : Draft) → IsStamped a e x y → command_of (Some act) ≡ Some e.command → e.stamp.origin ≡ k → Extends (Rec.Prepare e ∷ x.replica.log) last → Extends r.log x.replica.log →
      IsGood [] x → IsGood [] y
  stamped_good a e x y is by o ext old g =
      let rec = Rec.Prepare e in
      let log = x.replica.log in
      let line = Line.Submit x.replica.me e.epoch e.stamp.time e.command.client e.command.number in
      let runs = prepare_executes e log in
      let len = ap length runs in
      let all_is = ap (λ z. lines ++ seen_by act z) is.lines ∙ seen_more act lines x.lines (line ∷ []) in
      let newly = fresh x e ext old o in
      let waiter : Waiting = record { address = a; entry = e } in
      record {
        me = is.me ∙ g.me;
        right = λ l m. elim (line_of l m) [ inl b ↦ g.right l b | inr q ↦ subst (IsRight end list) q tt ];
        submitted = λ f h own. subst (λ z. IsSubmittedIn z f) (sym all_is) (elim (subst (λ l. Logged l f) is.log h) [
          | inl q ↦ subst (IsSubmittedIn ((lines ++ seen_by act x.lines) ++ seen_by act (line ∷ []))) (same_entry e f q) (record {
            before = lines ++ seen_by act x.lines;
            told = traced (Some act) line;
            after = [];
            is = refl;
            submits = (told_line act line ∙ ap (λ i. Line.Submit i e.epoch e.stamp.time e.command.client e.command.number) (g.me ∙ sym o), told_act act line ∙ by);
            first = λ t m i. elim (among_either lines (seen_by act x.lines) t m) [
              | inl b ↦ (let z = s.holds.executes t b e.epoch e.stamp i in newly z.entry (inr z.logged) z.epoch z.stamp)
              | inr b ↦ (let q = seen_among act x.lines t b in let z = g.executes q.0 q.1 e.epoch e.stamp (subst (IsExecOf e.epoch e.stamp) q.2 i) in newly z.entry z.has z.epoch z.stamp)
            ];
          })
          | inr q ↦ submitted_more (lines ++ seen_by act x.lines) (seen_by act (line ∷ [])) f (g.submitted f q own)
        ]);
        logged = λ f h. subst (λ l. Has w k l f) (sym is.log) (elim (subst (λ l. Logged l f) is.log h) [
          | inl q ↦ subst (Has w k (rec ∷ log)) (same_entry e f q) (inl (o, inl refl))
          | inr q ↦ has_more rec log f (g.logged f q)
        ]);
        known = λ p f h. subst (λ l. Has w k l f) (sym is.log) (has_more rec log f (g.known p f (subst (λ z. slice_get z p ≡ Some f) runs (subst (λ l. slice_get (executed l) p ≡ Some f) is.log h))));
        executes = λ l m z t h. subst (λ q. HasIn w k q z t) (sym is.log) (elim (line_of l m) [ inl b ↦ in_more rec log z t (g.executes l b z t h) | inr q ↦ absurd (subst (IsExecOf z t) (sym q) h) ]);
        submits = λ l m z t h. subst (λ q. HasIn w k q z t) (sym is.log) (elim (line_of l m) [
          | inl b ↦ in_more rec log z t (g.submits l b z t h)
          | inr q ↦ (let i = subst (IsSubmitOf z t) (sym q) h in record { entry = e; epoch = i.0; stamp = sym (now_is x e o g) ∙ i.1; has = inl (o, inl refl) })
        ]);
        late = subst (λ z. Each (IsLate list) lines (seen_by act z)) (sym is.lines) (subst (Each (IsLate list) lines) (sym (map-append (traced (Some act)) x.lines (line ∷ [])))
            (each_then (IsLate list) lines (seen_by act x.lines) (seen_by act (line ∷ [])) g.late (subst (IsLateLine list (lines ++ seen_by act x.lines)) (sym (told_line act line)) (is_late x e o g newly), tt)));
        quiet = λ l m h. elim (line_of l m) [ inl b ↦ g.quiet l b h | inr q ↦ subst IsReplyLine (sym q) h ];
        excess = subst ArePlain (sym is.excess) g.excess;
        answers = λ b h. let q = g.answers b (subst (λ z. Among z b) is.replies h) in (q.0, subst (λ l. IsHere k l b.line) (sym is.log) (here_longer k log (rec ∷ log) (omega (arith, len)) b.line q.1), q.2, q.3);
        replies = λ b h z t q. subst (λ l. HasIn w k l z t) (sym is.log) (in_more rec log z t (g.replies b (subst (λ l. Among l b) is.replies h) z t q));
        once = subst (λ z. Each IsNew lines (reply_lines act z)) (sym is.replies) g.once;
        wait = subst (λ z. Wait list (lines ++ reply_lines act z) k y.replica.log (y.replica.waiting ++ [])) (sym is.replies)
            (subst (λ z. Wait list (lines ++ reply_lines act x.replies) k y.replica.log z) (sym (append-nil y.replica.waiting ∙ is.waiting))
            (subst (λ l. Wait list (lines ++ reply_lines act x.replies) k l (x.replica.waiting ++ waiter ∷ [])) (sym is.log) (record {
              logged = λ f m. elim (among_either x.replica.waiting (waiter ∷ []) f m) [
                | inl b ↦ (let q = g.wait.logged f (among_left x.replica.waiting [] f b) in (inr q.0, q.1))
                | inr b ↦ elim b [ inl q ↦ subst (λ (v : Waiting). Logged (rec ∷ log) v.entry × (v.entry.stamp.origin ≡ k)) q (inl refl, o) | inr q ↦ absurd q ]
              ];
              new = λ f m t i h. elim (among_either x.replica.waiting (waiter ∷ []) f m) [
                | inl b ↦ g.wait.new f (among_left x.replica.waiting [] f b) t i h
                | inr b ↦ elim b [ inl q ↦ not_replied x g newly t i (subst (λ (v : Waiting). IsReplyOn list v.entry.epoch v.entry.stamp t.line) (sym q) h) | inr q ↦ q ]
              ];
              apart = apart_then x.replica.waiting waiter (subst AreApart (append-nil x.replica.waiting) g.wait.apart)
                  (λ f m ep st. newly f.entry (g.logged f.entry (g.wait.logged f (among_left x.replica.waiting [] f m)).0) ep st);
            })));
      }
    where
      line_of : (l : Line) → Among y.lines l → Among x.lines l ⊎ (Line.Submit x.replica.me e.epoch e.stamp.time e.command.client e.command.number ≡ l)
      line_of l m = elim (among_either x.lines _ l (subst (λ z. Among z l) is.lines m)) [ inl b ↦ inl b | inr b ↦ elim b [ inl q ↦ inr q | inr q ↦ absurd q ] ]

      not_replied : (x : Draft) → IsGood [] x → ((f : Entry) → Has w k x.replica.log f → f.epoch ≡ e.epoch → f.stamp ≡ e.stamp → ⊥) → (t : TraceLine) → Among (lines ++ reply_lines act x.replies) t → IsReplyOn list e.epoch e.stamp t.line → ⊥
      not_replied x g newly t m h = elim (among_either lines (reply_lines act x.replies) t m) [
        | inl b ↦ (let z = s.holds.replies t b e.epoch e.stamp h in newly z.entry (inr z.logged) z.epoch z.stamp)
        | inr b ↦ (let q = seen_among act (map (λ (a : Reply). a.line) x.replies) t b in
            let v = among_unmap (λ (a : Reply). a.line) x.replies q.0 q.1 in
            let z = g.replies v.0 v.1 e.epoch e.stamp (subst (IsReplyOn list e.epoch e.stamp) (q.2 ∙ sym v.2) h) in newly z.entry z.has z.epoch z.stamp)
      ]
