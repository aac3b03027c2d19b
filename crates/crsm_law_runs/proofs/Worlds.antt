-- Each moment keeps the invariant of the transcript.
use Rattle.std.proofs.Common.{◌≡◌, ℕ, zero, suc, ◌≤◌, List, [], ◌∷◌, ◌++◌, length, take, refl, sym, ◌∙◌, ap, subst, inl, inr, arith, map, append_assoc}
use Rattle.std.specs.Prelude.{◌⊎◌, Some, slice_get, option_to_list}
use Rattle.std.proofs.lemmas.Bool.{cases_eq}
use Rattle.std.proofs.lemmas.Option.{same_Some}
use Rattle.std.proofs.lemmas.List.{append-nil, map-append, length-append}
use Rattle.crsm_spec.specs.Types.{Stamp, Entry, Rec, Line}
use Rattle.crsm_spec.specs.Lists.{Among}
use Rattle.crsm_spec.specs.Log.{Log, executed, entry_of}
use Rattle.crsm_spec.specs.Replica.{Replica}
use Rattle.crsm_spec.specs.Draft.{Draft, Reply}
use Rattle.crsm_spec.specs.Step.{Input, step}
use Rattle.crsm_spec.specs.World.{Site, World, log_at}
use Rattle.crsm_spec.specs.Acts.{Act}
use Rattle.crsm_spec.specs.Run.{TraceLine, traced}
use Rattle.crsm_spec.specs.Safe.{IsExecOf, IsSubmitOf}
use Rattle.crsm_fact_log.specs.Logs.{Extends, same, more, Logged}
use Rattle.crsm_law_steps.specs.Laws.{LogsGoOn}
use Rattle.crsm_law_agreement.proofs.Coordinators.{extends_among}
use Rattle.crsm_law_runs.proofs.Each.{Each, each_then, each_all, each_from, each_take, among_prefix}
use Rattle.crsm_law_runs.proofs.Effects.{IsPlain, ArePlain}
use Rattle.crsm_law_runs.proofs.Words.{IsRight, IsReplyOn, IsReplyLine, IsSubmitLine, IsLate, IsLateLine, IsNew, IsSubmittedIn, submitted_more, seen_by}
use Rattle.crsm_law_runs.proofs.LineKinds.{late_other, of_submit, on_is_reply, one_replies, Kind, Plain, Exec, Submit, Ok, Dropped, kind_of_line, plain_right}
use Rattle.crsm_law_runs.proofs.Holds.{HasStamp, AreApart, Wait, Holds, Stepping, Has, HasIn, IsHere, IsWithin, reply_lines, within_longer, here_within, other_within}
use Rattle.crsm_law_runs.proofs.Drafts.{among_left, among_right, among_either, among_unmap, seen_among}
use Rattle.crsm_law_runs.proofs.Steps.{last, IsGood, seen_more}
use Rattle.crsm_law_runs.proofs.Ends.{step_good}

-- ---- plain lines

pub plain_at : (ls : List Line) (l : Line) → ArePlain ls → Among ls l → IsPlain l
plain_at (m ∷ ls) l h (inl e) = subst IsPlain e h.0
plain_at (m ∷ ls) l h (inr a) = plain_at ls l h.1 a
plain_at [] l h a = absurd a

pub record SaysNothing (l : Line) : Type 0 where
  pub submit : IsSubmitLine l → ⊥
  pub reply : IsReplyLine l → ⊥
  pub exec : (x : ℕ) (s : Stamp) → IsExecOf x s l → ⊥

pub says_nothing : (l : Line) → IsPlain l → SaysNothing l
says_nothing l p = go l (kind_of_line l) p
  where
    go : (l : Line) → Kind l → IsPlain l → SaysNothing l
    go l (Plain p a b c) h = record { submit = a; reply = b; exec = c }
    go _ (Exec a b x t c m v) h = absurd h
    go _ (Submit a b c d e) h = absurd h
    go _ (Ok a b c d e) h = absurd h
    go _ (Dropped a b c d e) h = absurd h

-- a reply from here is on an own entry
reply_origin : (end : World) (list : List Entry) (k : ℕ) (log : Log) (x : ℕ) (t : Stamp) (l : Line) → IsRight end list l → IsHere k log l → IsReplyOn list x t l → t.origin ≡ k
reply_origin end list k log x t (Line.Boot a0 a1) r h q = absurd q
reply_origin end list k log x t (Line.Submit a0 a1 a2 a3 a4) r h q = absurd q
reply_origin end list k log x t (Line.Log a0 a1 a2) r h q = absurd q
reply_origin end list k log x t (Line.Exec a0 a1 a2 a3 a4 a5 a6) r h q = absurd q
reply_origin end list k log x t (Line.Suspend a0 a1) r h q = absurd q
reply_origin end list k log x t (Line.Promise a0 a1 a2 a3) r h q = absurd q
reply_origin end list k log x t (Line.Accept a0 a1 a2 a3) r h q = absurd q
reply_origin end list k log x t (Line.Decide a0 a1 a2 a3 a4) r h q = absurd q
reply_origin end list k log x t (Line.Enter a0 a1) r h q = absurd q
reply_origin end list k log x t (Line.TooMany a0 a1 a2 a3) r h q = absurd q
reply_origin end list k log x t (Line.Send a0 a1 a2 a3 a4) r h q = absurd q
reply_origin end list k log x t (Line.ReplyOk a0 a1 a2 a3 a4) r h q = ap (λ (z : Stamp). z.origin) (sym q.3) ∙ ap (λ (e : Entry). e.stamp.origin) (same_Some q.0 r.0 (sym q.1 ∙ r.1.0)) ∙ r.2 ∙ h.0
reply_origin end list k log x t (Line.ReplyNo a0 a1 a2 a3) r h q = absurd q
reply_origin end list k log x t (Line.ReplyDropped a0 a1 a2 a3 a4) r h q = ap (λ (z : Stamp). z.origin) (sym q.1 ∙ sym r.4) ∙ r.2 ∙ h
reply_origin end list k log x t (Line.Down a0) r h q = absurd q
reply_origin end list k log x t (Line.Final a0 a1 a2 a3) r h q = absurd q
reply_origin end list k log x t (Line.Out a0 a1) r h q = absurd q
reply_origin end list k log x t (Line.Back a0 a1) r h q = absurd q

-- ---- logs that go on

length_more : (rec : Rec) (log : Log) → length (executed log) ≤ length (executed (rec ∷ log))
unfolding executed
length_more (Rec.Boot a b) log = omega arith
length_more (Rec.Prepare e) log = omega arith
length_more (Rec.Commit t) log = let l = length-append (executed log) (option_to_list (entry_of log t)) in omega (arith, l)
length_more (Rec.Adopt p es) log = let l = length-append (executed log) es in omega (arith, l)
length_more (Rec.Suspend x) log = omega arith
length_more (Rec.Promise i b) log = omega arith
length_more (Rec.Accept i b d) log = omega arith
length_more (Rec.Decide d) log = omega arith
length_more (Rec.Enter x) log = omega arith

pub executed_longer : (a b : Log) → Extends a b → length (executed a) ≤ length (executed b)
executed_longer a b same = omega arith
executed_longer a b (more {new = c} rec p) = let t = executed_longer a c p in let m = length_more rec c in omega (arith, t, m)

pub stamp_later : (w u : World) (x : ℕ) (t : Stamp) → LogsGoOn w u → HasStamp w x t → HasStamp u x t
stamp_later w u x t grows h = record { entry = h.entry; logged = extends_among (grows h.entry.stamp.origin) (Rec.Prepare h.entry) h.logged; epoch = h.epoch; stamp = h.stamp }

-- the lines of the first replies
taken_told : {A B : Type 0} (f : A → B) (n : ℕ) (xs : List A) → take n (map f xs) ≡ map f (take n xs)
taken_told f zero xs = refl
taken_told f (suc n) [] = refl
taken_told f (suc n) (x ∷ xs) = ap (λ l. f x ∷ l) (taken_told f n xs)

taken_lines : (act : Act) (n : ℕ) (rs : List Reply) → take n (reply_lines act rs) ≡ seen_by act (map (λ (a : Reply). a.line) (take n rs))
taken_lines act n rs = taken_told (traced (Some act)) n (map (λ (a : Reply). a.line) rs) ∙ ap (seen_by act) (taken_told (λ (a : Reply). a.line) n rs)

-- ---- a step whose records are kept

module _ {n : ℕ} {end : World} {list : List Entry} {w u : World} {lines : List TraceLine} {k : ℕ} {r : Replica} {input : Input} {reading : ℕ} {act : Act}
    (s : Stepping n end list w u lines k r input reading act) where
  abbrev x : Draft
  x = step r input reading

  stamp_here : (y : ℕ) (t : Stamp) → HasIn w k (last s) y t → HasStamp u y t
  stamp_here y t h = record { entry = h.entry; epoch = h.epoch; stamp = h.stamp; logged = logged_here h.entry h.has }
    where
      logged_here : (e : Entry) → Has w k (last s) e → Logged (log_at u e.stamp.origin) e
      logged_here e (inl q) = subst (λ i. Logged (log_at u i) e) (sym q.0) (subst (λ l. Logged l e) (sym s.kept) q.1)
      logged_here e (inr q) = extends_among (s.grows e.stamp.origin) (Rec.Prepare e) q

  -- the lines of the step: of its records, then plain ones, then those of its first replies, then plain ones
  module _ (plain tail : List Line) (are_plain : ArePlain plain) (tail_plain : ArePlain tail) (count : ℕ)
      (up : (j : ℕ) (q : Replica) → slice_get u.sites j ≡ Some (Site.Up q) → ((j ≡ k → ⊥) × (slice_get w.sites j ≡ Some (Site.Up q))) ⊎ ((j ≡ k) × (q ≡ x.replica) × (take count x.replies ≡ x.replies))) where
    abbrev answers : List Line
    answers = map (λ (a : Reply). a.line) (take count x.replies)

    abbrev prefix : List Line
    prefix = x.lines ++ plain

    abbrev all : List Line
    all = prefix ++ (answers ++ tail)

    -- where a line is of
    data Of (l : Line) : Type 0 where
      Record : Among x.lines l → Of l
      Other : IsPlain l → Of l
      Answer : (a : Reply) → Among x.replies a → a.line ≡ l → Of l

    of_line : (l : Line) → Among all l → Of l
    of_line l a = elim (among_either prefix (answers ++ tail) l a) [
      | inl b ↦ elim (among_either x.lines plain l b) [ inl c ↦ Record c | inr c ↦ Other (plain_at plain l are_plain c) ]
      | inr b ↦ elim (among_either answers tail l b) [
        | inl c ↦ (let t = among_unmap (λ (a : Reply). a.line) (take count x.replies) l c in Answer t.0 (among_prefix count x.replies t.0 t.1) t.2)
        | inr c ↦ Other (plain_at tail l tail_plain c)
      ]
    ]

    good : IsGood s [] x
    good = step_good s

    told_of : (t : TraceLine) → Among (lines ++ seen_by act all) t → Among lines t ⊎ Of t.line
    told_of t a = elim (among_either lines (seen_by act all) t a) [
      | inl b ↦ inl b
      | inr b ↦ (let q = seen_among act all t b in inr (subst Of (sym q.2) (of_line q.0 q.1)))
    ]

    -- no line of the prefix replies
    prefix_quiet : (l : Line) → Among prefix l → IsReplyLine l → ⊥
    prefix_quiet l a h = elim (among_either x.lines plain l a) [ inl b ↦ good.quiet l b h | inr b ↦ (says_nothing l (plain_at plain l are_plain b)).reply h ]

    late_all : Each (IsLate list) [] (lines ++ seen_by act all)
    late_all =
        subst (λ z. Each (IsLate list) [] (lines ++ z)) (sym (ap (seen_by act) (append_assoc x.lines plain (answers ++ tail)) ∙ map-append (traced (Some act)) x.lines (plain ++ (answers ++ tail))))
        (each_then (IsLate list) [] lines (seen_by act x.lines ++ seen_by act (plain ++ (answers ++ tail))) s.holds.late
        (each_then (IsLate list) lines (seen_by act x.lines) (seen_by act (plain ++ (answers ++ tail))) good.late
        (each_all (IsLate list) (lines ++ seen_by act x.lines) (seen_by act (plain ++ (answers ++ tail))) (λ before t a.
        let q = seen_among act (plain ++ (answers ++ tail)) t a in subst (IsLateLine list before) (sym q.2) (late_other list before q.0 (no_submit q.0 q.1))))))
      where
        no_submit : (l : Line) → Among (plain ++ (answers ++ tail)) l → IsSubmitLine l → ⊥
        no_submit l a = elim (among_either plain (answers ++ tail) l a) [
          | inl b ↦ (says_nothing l (plain_at plain l are_plain b)).submit
          | inr b ↦ elim (among_either answers tail l b) [
            | inl c ↦ (let t = among_unmap (λ (a : Reply). a.line) (take count x.replies) l c in subst (λ z. IsSubmitLine z → ⊥) t.2 (good.answers t.0 (among_prefix count x.replies t.0 t.1)).2)
            | inr c ↦ (says_nothing l (plain_at tail l tail_plain c)).submit
          ]
        ]

    once_all : Each IsNew [] (lines ++ seen_by act all)
    once_all = each_then IsNew [] lines (seen_by act all) s.holds.once (subst (Each IsNew lines) (sym (map-append (traced (Some act)) prefix (answers ++ tail)))
        (each_then IsNew lines (seen_by act prefix) (seen_by act (answers ++ tail)) (quiet_new lines prefix prefix_quiet)
        (subst (Each IsNew (lines ++ seen_by act prefix)) (sym (map-append (traced (Some act)) answers tail))
        (each_then IsNew (lines ++ seen_by act prefix) (seen_by act answers) (seen_by act tail) answers_new
        (quiet_new ((lines ++ seen_by act prefix) ++ seen_by act answers) tail (λ l a h. (says_nothing l (plain_at tail l tail_plain a)).reply h))))))
      where
        quiet_new : (before : List TraceLine) (ls : List Line) → ((l : Line) → Among ls l → IsReplyLine l → ⊥) → Each IsNew before (seen_by act ls)
        quiet_new before ls none = each_all IsNew before (seen_by act ls) (λ b t a v m h. let q = seen_among act ls t a in none q.0 q.1 (subst IsReplyLine q.2 (one_replies v.line t.line h).1))

        first_answers : Each IsNew lines (seen_by act answers)
        first_answers = subst (Each IsNew lines) (taken_lines act count x.replies) (each_take IsNew count lines (reply_lines act x.replies) good.once)

        answers_new : Each IsNew (lines ++ seen_by act prefix) (seen_by act answers)
        answers_new = each_from IsNew IsNew lines (lines ++ seen_by act prefix) (seen_by act answers) (λ m t a new v i h. elim (among_either (lines ++ seen_by act prefix) m v i) [
          | inr b ↦ new v (among_right lines m v b) h
          | inl b ↦ elim (among_either lines (seen_by act prefix) v b) [
            | inl c ↦ new v (among_left lines m v c) h
            | inr c ↦ (let q = seen_among act prefix v c in prefix_quiet q.0 q.1 (subst IsReplyLine q.2 (one_replies v.line t.line h).0))
          ]
        ]) first_answers

    pub kept_holds : Holds end list u (lines ++ seen_by act all)
    kept_holds = record {
      right = λ t a. elim (told_of t a) [ inl b ↦ s.holds.right t b | inr b ↦ right_of t.line b ];
      within = λ t a. elim (told_of t a) [ inl b ↦ within_longer (log_at w) (log_at u) (λ j. executed_longer (log_at w j) (log_at u j) (s.grows j)) t.line (s.holds.within t b) | inr b ↦ within_of t.line b ];
      submitted = λ j e h o. elim (cases_eq j k) [
        | inl q ↦ subst (λ z. IsSubmittedIn z e) (sym all_is) (submitted_more (lines ++ seen_by act x.lines) (seen_by act (plain ++ (answers ++ tail))) e
            (good.submitted e (subst (λ l. Logged l e) s.kept (subst (λ i. Logged (log_at u i) e) q h)) (o ∙ q)))
        | inr ne ↦ submitted_more lines (seen_by act all) e (s.holds.submitted j e (subst (λ l. Logged l e) (s.others j ne) h) o)
      ];
      executes = λ t a y v h. elim (told_of t a) [ inl b ↦ stamp_later w u y v s.grows (s.holds.executes t b y v h) | inr b ↦ executes_of t.line b y v h ];
      submits = λ t a y v h. elim (told_of t a) [ inl b ↦ stamp_later w u y v s.grows (s.holds.submits t b y v h) | inr b ↦ submits_of t.line b y v h ];
      replies = λ t a y v h. elim (told_of t a) [ inl b ↦ stamp_later w u y v s.grows (s.holds.replies t b y v h) | inr b ↦ (replies_of t.line b y v h).0 ];
      late = late_all;
      once = once_all;
      wait = λ j q e. elim (up j q e) [
        | inl z ↦ (let old = s.holds.wait j q z.1 in record {
          logged = old.logged;
          new = λ f m t i h. elim (told_of t i) [
            | inl b ↦ old.new f m t b h
            | inr b ↦ z.0 (sym (old.logged f m).1 ∙ (replies_of t.line b f.entry.epoch f.entry.stamp h).1)
          ];
          apart = old.apart;
        })
        | inr z ↦ subst (λ v. Wait list (lines ++ seen_by act all) j v.log v.waiting) (sym z.1) (subst (λ i. Wait list (lines ++ seen_by act all) i x.replica.log x.replica.waiting) (sym z.0) (record {
          logged = λ f m. good.wait.logged f (among_left x.replica.waiting [] f m);
          new = λ f m t i h. elim (among_either lines (seen_by act all) t i) [
            | inl b ↦ good.wait.new f (among_left x.replica.waiting [] f m) t (among_left lines (reply_lines act x.replies) t b) h
            | inr b ↦ good.wait.new f (among_left x.replica.waiting [] f m) t (among_right lines (reply_lines act x.replies) t (answer_among t b (on_is_reply list f.entry.epoch f.entry.stamp t.line h))) h
          ];
          apart = subst AreApart (append-nil x.replica.waiting) good.wait.apart;
        }))
      ];
    }
      where
        all_is : lines ++ seen_by act all ≡ (lines ++ seen_by act x.lines) ++ seen_by act (plain ++ (answers ++ tail))
        all_is = ap (λ z. lines ++ seen_by act z) (append_assoc x.lines plain (answers ++ tail)) ∙ seen_more act lines x.lines (plain ++ (answers ++ tail))

        right_of : (l : Line) → Of l → IsRight end list l
        right_of l (Record a) = good.right l a
        right_of l (Other p) = plain_right end list l p
        right_of l (Answer a m e) = subst (IsRight end list) e (good.answers a m).0

        within_of : (l : Line) → Of l → IsWithin (log_at u) l
        within_of l (Record a) = other_within (log_at u) l (good.quiet l a)
        within_of l (Other p) = other_within (log_at u) l (says_nothing l p).reply
        within_of l (Answer a m e) = here_within k (log_at u) l (subst (λ z. IsHere k z l) (sym s.kept) (subst (IsHere k (last s)) e (good.answers a m).1))

        executes_of : (l : Line) → Of l → (y : ℕ) (v : Stamp) → IsExecOf y v l → HasStamp u y v
        executes_of l (Record a) y v h = stamp_here y v (good.executes l a y v h)
        executes_of l (Other p) y v h = absurd ((says_nothing l p).exec y v h)
        executes_of l (Answer a m e) y v h = absurd ((good.answers a m).3 y v (subst (IsExecOf y v) (sym e) h))

        submits_of : (l : Line) → Of l → (y : ℕ) (v : Stamp) → IsSubmitOf y v l → HasStamp u y v
        submits_of l (Record a) y v h = stamp_here y v (good.submits l a y v h)
        submits_of l (Other p) y v h = absurd ((says_nothing l p).submit (of_submit y v l h))
        submits_of l (Answer a m e) y v h = absurd ((good.answers a m).2 (of_submit y v a.line (subst (IsSubmitOf y v) (sym e) h)))

        replies_of : (l : Line) → Of l → (y : ℕ) (v : Stamp) → IsReplyOn list y v l → HasStamp u y v × (v.origin ≡ k)
        replies_of l (Record a) y v h = absurd (good.quiet l a (on_is_reply list y v l h))
        replies_of l (Other p) y v h = absurd ((says_nothing l p).reply (on_is_reply list y v l h))
        replies_of l (Answer a m e) y v h =
            let q = subst (IsReplyOn list y v) (sym e) h in
            let t = good.answers a m in (stamp_here y v (good.replies a m y v q), reply_origin end list k (last s) y v a.line t.0 t.1 q)

        answer_among : (t : TraceLine) → Among (seen_by act all) t → IsReplyLine t.line → Among (reply_lines act x.replies) t
        answer_among t a h = elim (among_either (seen_by act prefix) (seen_by act (answers ++ tail)) t (subst (λ z. Among z t) (map-append (traced (Some act)) prefix (answers ++ tail)) a)) [
          | inl b ↦ (let q = seen_among act prefix t b in absurd (prefix_quiet q.0 q.1 (subst IsReplyLine q.2 h)))
          | inr b ↦ elim (among_either (seen_by act answers) (seen_by act tail) t (subst (λ z. Among z t) (map-append (traced (Some act)) answers tail) b)) [
            | inl c ↦ among_prefix count (reply_lines act x.replies) t (subst (λ z. Among z t) (sym (taken_lines act count x.replies)) c)
            | inr c ↦ (let q = seen_among act tail t c in absurd ((says_nothing q.0 (plain_at tail q.0 tail_plain q.1)).reply (subst IsReplyLine q.2 h)))
          ]
        ]
