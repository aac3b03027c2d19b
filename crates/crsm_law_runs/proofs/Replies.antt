-- The replies of a step keep the invariant of its drafts.
use Rattle.std.proofs.Common.{◌≡◌, ℕ, ◌<◌, ◌≤◌, List, [], ◌∷◌, ◌++◌, length, take, refl, sym, ◌∙◌, ap, subst, inl, inr, Bool, true, false, arith, map, append_assoc}
use Rattle.std.specs.Prelude.{IsTrue, Option, Some, None, slice_get, nat_lt, nat_le, ◌==◌, ◌&&◌}
use Rattle.std.proofs.lemmas.Bool.{eq-eqb, and_parts, leb-true, ltb-true, eqb-true, false≢true}
use Rattle.std.proofs.lemmas.Option.{same_Some}
use Rattle.std.proofs.lemmas.List.{append-nil, map-append}
use Rattle.crsm_spec.specs.Choice.{when◌then◌otherwise◌}
use Rattle.crsm_base.specs.Spelling.{refusal_number}
use Rattle.crsm_spec.specs.Types.{Outcome, Stamp, Entry, Command, Refusal, Rec, Line}
use Rattle.crsm_spec.specs.Lists.{Among}
use Rattle.crsm_spec.specs.Log.{Log, known, executed, start}
use Rattle.crsm_spec.specs.Replica.{Replica, Waiting}
use Rattle.crsm_spec.specs.Draft.{Draft, Reply, reply}
use Rattle.crsm_spec.specs.Clients.{refuse, replies, answer_each, answer_found, reply_ok, reply_dropped, find_executed, is_dropped}
use Rattle.crsm_spec.specs.Step.{Input}
use Rattle.crsm_spec.specs.World.{World, log_at}
use Rattle.crsm_spec.specs.Acts.{Act}
use Rattle.crsm_spec.specs.Run.{TraceLine, traced}
use Rattle.crsm_spec.specs.Safe.{IsExecOf}
use Rattle.crsm_fact_log.specs.Logs.{Extends, Logged}
use Rattle.crsm_fact_log.proofs.Lists.{get_inside, get_some}
use Rattle.crsm_law_agreement.proofs.Coordinators.{extends_among}
use Rattle.crsm_law_runs.proofs.Lists.{executed_logged, older_below}
use Rattle.crsm_law_runs.proofs.Each.{Each, each_then}
use Rattle.crsm_law_runs.proofs.Words.{IsRight, IsReplyOn, IsReplyLine, IsSubmitLine, IsNew, seen_by}
use Rattle.crsm_law_runs.proofs.LineKinds.{one_replies, one_key}
use Rattle.crsm_law_runs.proofs.Holds.{Wait, Stepping, IsHere, reply_lines}
use Rattle.crsm_law_runs.proofs.Drafts.{among_right, among_either, told_line, apart_from, without, apart_without, find_at, find_none, take_prefix, get_prefix}
use Rattle.crsm_base.specs.Order.{stamp_eq}
use Rattle.crsm_base.specs.Store.{answer_after}
use Rattle.crsm_fact_log.proofs.Tests.{same_stamp}
use Rattle.crsm_fact_log.proofs.Sorted.{eq_self}
use Rattle.crsm_law_agreement.proofs.Worlds.{one_entry}
use Rattle.crsm_law_runs.proofs.Steps.{last, IsGood, spelt_end, at_end}

module _ {n : ℕ} {end : World} {list : List Entry} {w u : World} {lines : List TraceLine} {k : ℕ} {r : Replica} {input : Input} {reading : ℕ} {act : Act}
    (s : Stepping n end list w u lines k r input reading act) where
  -- ---- one more reply

  reply_more : (rs : List Reply) (a : Reply) → reply_lines act (rs ++ a ∷ []) ≡ reply_lines act rs ++ traced (Some act) a.line ∷ []
  reply_more rs a = ap (seen_by act) (map-append (λ (a : Reply). a.line) rs (a ∷ [])) ∙ map-append (traced (Some act)) (map (λ (a : Reply). a.line) rs) (a.line ∷ [])

  -- a line that is no reply on an entry
  pub refused_good : (a : ℕ) (c : Command) (why : Refusal) (x : Draft) → IsGood s [] x → IsGood s [] (refuse a c why x)
  unfolding refuse reply
  refused_good a c why x g =
      let new : Reply = record { address = a; client = c.client; number = c.number; says = Outcome.Refused why; line = Line.ReplyNo x.replica.me c.client c.number (refusal_number why) } in
      let is = reply_more x.replies new in
      record {
        me = g.me;
        right = g.right;
        submitted = g.submitted;
        logged = g.logged;
        known = g.known;
        executes = g.executes;
        submits = g.submits;
        late = g.late;
        quiet = g.quiet;
        excess = g.excess;
        answers = λ b h. elim (among_either x.replies (new ∷ []) b h) [
          | inl o ↦ g.answers b o
          | inr o ↦ elim o [ inl q ↦ subst (λ (z : Reply). IsRight end list z.line × IsHere k x.replica.log z.line × (IsSubmitLine z.line → ⊥) × ((y : ℕ) (t : Stamp) → IsExecOf y t z.line → ⊥)) q (tt, tt, (λ z. z), λ y t z. z) | inr q ↦ absurd q ]
        ];
        replies = λ b h y t z. elim (among_either x.replies (new ∷ []) b h) [
          | inl o ↦ g.replies b o y t z
          | inr o ↦ elim o [ inl q ↦ absurd (subst (λ (v : Reply). IsReplyOn list y t v.line) (sym q) z) | inr q ↦ absurd q ]
        ];
        once = subst (Each IsNew lines) (sym is) (each_then IsNew lines (reply_lines act x.replies) (traced (Some act) new.line ∷ []) g.once
            ((λ v m h. subst IsReplyLine (told_line act new.line) (one_replies v.line (traced (Some act) new.line).line h).1), tt));
        wait = record {
          logged = g.wait.logged;
          new = λ f m t i h. elim (among_either (lines ++ reply_lines act x.replies) (traced (Some act) new.line ∷ []) t (subst (λ l. Among l t) (ap (λ l. lines ++ l) is ∙ sym (append_assoc lines (reply_lines act x.replies) (traced (Some act) new.line ∷ []))) i)) [
            | inl o ↦ g.wait.new f m t o h
            | inr o ↦ elim o [ inl q ↦ subst (IsReplyOn list f.entry.epoch f.entry.stamp) (ap (λ (z : TraceLine). z.line) (sym q) ∙ told_line act new.line) h | inr q ↦ q ]
          ];
          apart = g.wait.apart;
        };
      }

  -- a reply on the entry for which a client waits
  module _ (f : Waiting) (rest : List Waiting) (x : Draft) (g : IsGood s (f ∷ rest) x) (new : Reply) (right : IsRight end list new.line) (here : IsHere k x.replica.log new.line) (no_submit : IsSubmitLine new.line → ⊥)
      (no_exec : (y : ℕ) (t : Stamp) → IsExecOf y t new.line → ⊥) (key : IsReplyOn list f.entry.epoch f.entry.stamp new.line)
      (only : (y : ℕ) (t : Stamp) → IsReplyOn list y t new.line → (f.entry.epoch ≡ y) × (f.entry.stamp ≡ t)) where
    replied_good : IsGood s rest (reply new x)
    unfolding reply
    replied_good =
        let is = reply_more x.replies new in
        let told = traced (Some act) new.line in
        let here_f = among_right x.replica.waiting (f ∷ rest) f (inl refl) in
        let own = g.wait.logged f here_f in
        record {
          me = g.me;
          right = g.right;
          submitted = g.submitted;
          logged = g.logged;
          known = g.known;
          executes = g.executes;
          submits = g.submits;
          late = g.late;
          quiet = g.quiet;
          excess = g.excess;
          answers = λ b h. elim (among_either x.replies (new ∷ []) b h) [
            | inl o ↦ g.answers b o
            | inr o ↦ elim o [ inl q ↦ subst (λ (z : Reply). IsRight end list z.line × IsHere k x.replica.log z.line × (IsSubmitLine z.line → ⊥) × ((y : ℕ) (t : Stamp) → IsExecOf y t z.line → ⊥)) q (right, here, no_submit, no_exec) | inr q ↦ absurd q ]
          ];
          replies = λ b h y t z. elim (among_either x.replies (new ∷ []) b h) [
            | inl o ↦ g.replies b o y t z
            | inr o ↦ elim o [
              | inl q ↦ (let e = only y t (subst (λ (v : Reply). IsReplyOn list y t v.line) (sym q) z) in record { entry = f.entry; epoch = e.0; stamp = e.1; has = g.logged f.entry own.0 })
              | inr q ↦ absurd q
            ]
          ];
          once = subst (Each IsNew lines) (sym is) (each_then IsNew lines (reply_lines act x.replies) (told ∷ []) g.once
              ((λ v m h. g.wait.new f here_f v m (subst (IsReplyOn list f.entry.epoch f.entry.stamp) refl (one_key list v.line told.line h f.entry.epoch f.entry.stamp (subst (IsReplyOn list f.entry.epoch f.entry.stamp) (sym (told_line act new.line)) key)))), tt));
          wait = record {
            logged = λ v m. g.wait.logged v (without x.replica.waiting f rest v m);
            new = λ v m t i h. elim (among_either (lines ++ reply_lines act x.replies) (told ∷ []) t (subst (λ l. Among l t) (ap (λ l. lines ++ l) is ∙ sym (append_assoc lines (reply_lines act x.replies) (told ∷ []))) i)) [
              | inl o ↦ g.wait.new v (without x.replica.waiting f rest v m) t o h
              | inr o ↦ elim o [
                | inl q ↦ (let e = only v.entry.epoch v.entry.stamp (subst (IsReplyOn list v.entry.epoch v.entry.stamp) (ap (λ (z : TraceLine). z.line) (sym q) ∙ told_line act new.line) h) in
                    apart_from x.replica.waiting f rest g.wait.apart v m (sym e.0) (sym e.1))
                | inr q ↦ q
              ]
            ];
            apart = apart_without x.replica.waiting f rest g.wait.apart;
          };
        }

  -- ---- a client whose entry is executed

  is_found : (f : Waiting) (log : Log) (p : ℕ × Entry) → find_executed (executed log) f.entry ≡ Some p →
      (slice_get (executed log) p.0 ≡ Some p.1) × (p.1.epoch ≡ f.entry.epoch) × (p.1.stamp ≡ f.entry.stamp)
  unfolding find_executed
  is_found f log p h =
      let t = find_at (λ q. q.1.epoch == f.entry.epoch && stamp_eq q.1.stamp f.entry.stamp) 0 (executed log) p h in
      let b = and_parts (p.1.epoch == f.entry.epoch) (stamp_eq p.1.stamp f.entry.stamp) t.3 in
      let is = t.1 in
      let place : t.0 ≡ p.0 = omega (arith, is) in
      (subst (λ j. slice_get (executed log) j ≡ Some p.1) place t.2, eqb-true p.1.epoch f.entry.epoch b.0, same_stamp p.1.stamp f.entry.stamp b.1)

  ok_good : (f : Waiting) (rest : List Waiting) (p : ℕ × Entry) (x : Draft) → Extends x.replica.log (last s) → find_executed (executed x.replica.log) f.entry ≡ Some p → IsGood s (f ∷ rest) x →
      IsGood s rest (reply_ok f p.0 (answer_after (take p.0 (executed x.replica.log)) p.1) x)
  unfolding reply_ok
  ok_good f rest p x ext is g =
      let log = x.replica.log in
      let t = is_found f log p is in
      let own = g.wait.logged f (among_right x.replica.waiting (f ∷ rest) f (inl refl)) in
      let at = at_end s log ext in
      let prefix = s.last.prefix k log at in
      let there : slice_get list p.0 ≡ Some p.1 = subst (λ z. slice_get z p.0 ≡ Some p.1) prefix.1 (get_prefix (executed log) prefix.0 p.0 p.1 t.0) in
      let inside = get_inside (executed log) p.0 p.1 t.0 in
      let taken : take p.0 list ≡ take p.0 (executed log) = subst (λ z. take p.0 z ≡ take p.0 (executed log)) prefix.1 (take_prefix (executed log) prefix.0 p.0 (omega (arith, inside))) in
      let few = (spelt_end s).few in
      let logged = executed_logged n end s.last.reached few (spelt_end s).messages k log at p.0 p.1 t.0 in
      let same_one : p.1 ≡ f.entry = one_entry n end s.last.reached few p.1.stamp.origin k p.1 f.entry logged (extends_among at (Rec.Prepare f.entry) own.0) t.1 t.2 in
      replied_good f rest x g _
      (p.1, (there, ap (λ z. answer_after z p.1) (sym taken)), ap (λ (e : Entry). e.stamp.origin) same_one ∙ own.1 ∙ sym g.me, ap (λ (e : Entry). e.command.client) same_one, ap (λ (e : Entry). e.command.number) same_one)
      (g.me, inside) (λ z. z) (λ y t z. z) (p.1, there, t.1, t.2)
      (λ y v h. let q = same_Some p.1 h.0 (sym there ∙ h.1) in (sym t.1 ∙ ap (λ (e : Entry). e.epoch) q ∙ h.2, sym t.2 ∙ ap (λ (e : Entry). e.stamp) q ∙ h.3))

  -- ---- a client whose entry is dropped

  dropped_parts : (x : Draft) (e : Entry) → IsTrue (is_dropped x.replica e) → (start x.replica.log ≤ length (executed x.replica.log)) × (e.epoch < known x.replica.log)
  unfolding is_dropped
  dropped_parts x e h =
      let t = and_parts (nat_le (start x.replica.log) (length (executed x.replica.log))) (nat_lt e.epoch (known x.replica.log)) h in (leb-true _ _ t.0, ltb-true _ _ t.1)

  not_found : (e : Entry) (log : Log) → find_executed (executed log) e ≡ None → (p : ℕ) (y : Entry) → slice_get (executed log) p ≡ Some y → y.epoch ≡ e.epoch → y.stamp ≡ e.stamp → ⊥
  unfolding find_executed
  not_found e log h p y at ep st =
      let t = find_none (λ q. q.1.epoch == e.epoch && stamp_eq q.1.stamp e.stamp) 0 (executed log) h p y at in
      false≢true (sym t.1 ∙ both_true (y.epoch == e.epoch) (stamp_eq y.stamp e.stamp) (eq-eqb y.epoch e.epoch ep) (subst (λ z. IsTrue (stamp_eq y.stamp z)) st (eq_self y.stamp)))
    where
      both_true : (a b : Bool) → a ≡ true → b ≡ true → (a && b) ≡ true
      both_true true b i j = j
      both_true false b i j = i

  dropped_good : (f : Waiting) (rest : List Waiting) (x : Draft) → Extends x.replica.log (last s) → find_executed (executed x.replica.log) f.entry ≡ None → IsTrue (is_dropped x.replica f.entry) → IsGood s (f ∷ rest) x →
      IsGood s rest (reply_dropped f x)
  unfolding reply_dropped
  dropped_good f rest x ext none over g =
      let log = x.replica.log in
      let own = g.wait.logged f (among_right x.replica.waiting (f ∷ rest) f (inl refl)) in
      let at = at_end s log ext in
      let prefix = s.last.prefix k log at in
      let parts = dropped_parts x f.entry over in
      replied_good f rest x g _ (
        f.entry,
        subst (λ i. Logged (log_at end i) f.entry) (sym g.me) (extends_among at (Rec.Prepare f.entry) own.0),
        own.1 ∙ sym g.me,
        refl,
        refl,
        refl,
        refl,
        λ p e there ep st.
            let h = s.last.held p e there in
            let lt = older_below n end s.last.reached (spelt_end s).few (spelt_end s).messages k h.0 log h.1 at h.2 p e h.3 (subst (λ z. z < known log) (sym ep) parts.1) in
            let le = parts.0 in
            let y = get_some (executed log) p (omega (arith, lt, le)) in
            let same_one : y.0 ≡ e = same_Some y.0 e (sym (subst (λ z. slice_get z p ≡ Some y.0) prefix.1 (get_prefix (executed log) prefix.0 p y.0 y.1)) ∙ there) in
            not_found f.entry log none p e (subst (λ z. slice_get (executed log) p ≡ Some z) same_one y.1) ep st,
      )
      g.me (λ z. z) (λ y t z. z) (refl, refl) (λ y t h. h)

  -- ---- and one that waits on

  waits_good : (f : Waiting) (rest : List Waiting) (x : Draft) → IsGood s (f ∷ rest) x → IsGood s rest (record x { replica = record x.replica { waiting = x.replica.waiting ++ f ∷ [] } })
  waits_good f rest x g = record {
    me = g.me;
    right = g.right;
    submitted = g.submitted;
    logged = g.logged;
    known = g.known;
    executes = g.executes;
    submits = g.submits;
    late = g.late;
    quiet = g.quiet;
    excess = g.excess;
    answers = g.answers;
    replies = g.replies;
    once = g.once;
    wait = subst (Wait list (lines ++ reply_lines act x.replies) k x.replica.log) (sym (append_assoc x.replica.waiting (f ∷ []) rest)) g.wait;
  }

  found_good : (f : Waiting) (rest : List Waiting) (x : Draft) → Extends x.replica.log (last s) → IsGood s (f ∷ rest) x → IsGood s rest (answer_found f (find_executed (executed x.replica.log) f.entry) x)
  unfolding answer_found when◌then◌otherwise◌
  found_good f rest x ext g = go (find_executed (executed x.replica.log) f.entry) refl
    where
      pick : (c : Bool) → is_dropped x.replica f.entry ≡ c → find_executed (executed x.replica.log) f.entry ≡ None →
          IsGood s rest (when c then reply_dropped f x otherwise record x { replica = record x.replica { waiting = x.replica.waiting ++ f ∷ [] } })
      pick true e none = dropped_good f rest x ext none e g
      pick false e none = waits_good f rest x g

      go : (o : Option (ℕ × Entry)) → find_executed (executed x.replica.log) f.entry ≡ o → IsGood s rest (answer_found f o x)
      go (Some p) e = ok_good f rest p x ext e g
      go None e = pick (is_dropped x.replica f.entry) refl e

  found_log : (f : Waiting) (o : Option (ℕ × Entry)) (x : Draft) → (answer_found f o x).replica.log ≡ x.replica.log
  unfolding answer_found reply_ok reply_dropped reply when◌then◌otherwise◌
  found_log f (Some p) x = refl
  found_log f None x = go (is_dropped x.replica f.entry)
    where
      go : (c : Bool) → (when c then reply_dropped f x otherwise record x { replica = record x.replica { waiting = x.replica.waiting ++ f ∷ [] } }).replica.log ≡ x.replica.log
      go true = refl
      go false = refl

  each_good : (fs : List Waiting) (x : Draft) → Extends x.replica.log (last s) → IsGood s fs x → IsGood s [] (answer_each fs x)
  unfolding answer_each
  each_good [] x ext g = g
  each_good (f ∷ fs) x ext g =
      let y = answer_found f (find_executed (executed x.replica.log) f.entry) x in
      each_good fs y (subst (λ l. Extends l (last s)) (sym (found_log f (find_executed (executed x.replica.log) f.entry) x)) ext) (found_good f fs x ext g)

  pub answered_good : (x : Draft) → Extends x.replica.log (last s) → IsGood s [] x → IsGood s [] (replies x)
  unfolding replies
  answered_good x ext g = each_good x.replica.waiting (record x { replica = record x.replica { waiting = [] } }) ext (record {
    me = g.me;
    right = g.right;
    submitted = g.submitted;
    logged = g.logged;
    known = g.known;
    executes = g.executes;
    submits = g.submits;
    late = g.late;
    quiet = g.quiet;
    excess = g.excess;
    answers = g.answers;
    replies = g.replies;
    once = g.once;
    wait = subst (Wait list (lines ++ reply_lines act x.replies) k x.replica.log) (append-nil x.replica.waiting) g.wait;
  })
