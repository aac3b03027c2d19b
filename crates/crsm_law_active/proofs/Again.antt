-- At a tick all unacknowledged frames are sent, in order.
use Rattle.std.proofs.Common.{◌≡◌, ℕ, zero, suc, ◌+◌, ◌≤◌, List, [], ◌∷◌, ◌++◌, length, refl, sym, ◌∙◌, ap, subst, inl, inr, Bool, true, false, cond, arith, map, take, drop, append_assoc, length-append}
use Rattle.std.specs.Prelude.{Option, Some, None, filter, fold, ◌==◌}
use Rattle.std.specs.Option.{option_map_or}
use Rattle.std.specs.List.{enumerate_from}
use Rattle.std.proofs.lemmas.Bool.{eq-eqb, ne_eqb}
use Rattle.std.proofs.lemmas.List.{map-append, append-nil, drop-append-le}
use Rattle.std.proofs.lemmas.List.FromFn.{length-enumerate_from}
use Rattle.std.proofs.lemmas.List.Elements.{filter-append}
use Rattle.crsm_base.specs.Limits.{most_again}
use Rattle.crsm_spec.specs.Choice.{when◌then◌otherwise◌}
use Rattle.crsm_spec.specs.Types.{Stamp, Entry, Rec, InEpoch, Datagram}
use Rattle.crsm_spec.specs.Lists.{Among}
use Rattle.crsm_spec.specs.Log.{known, decision, members, active, unexecuted, executed}
use Rattle.crsm_spec.specs.Replica.{Replica, Waiting, members_of, other_members, frames_to, acked_by, unacked}
use Rattle.crsm_spec.specs.Ready.{is_ready}
use Rattle.crsm_spec.specs.Draft.{Draft, begun, keep, send, reply, issued_at, push_to_members, push_to, next_frame, would}
use Rattle.crsm_spec.specs.Clients.{commit_run, commits, replies, answer_each, answer_found, reply_ok, reply_dropped, find_executed}
use Rattle.crsm_spec.specs.Frames.{pay, owing, pay_run, owed_oks, send_time, idle, again_frame, again_to, send_again}
use Rattle.crsm_spec.specs.Step.{Input, if_fitting, on_input, on_tick, idle_at, step}
use Rattle.crsm_law_epoch.specs.Numbers.{Distinct}
use Rattle.crsm_law_active.specs.Again.{sent_to, frame_of, StepsSendAgain}
use Rattle.crsm_law_active.proofs.Ending.{on_true}

-- ---- what goes to one replica

sent_append : (j : ℕ) (a b : List (ℕ × Datagram)) → sent_to j (a ++ b) ≡ sent_to j a ++ sent_to j b
unfolding sent_to
sent_append j a b = ap (map (λ s. s.1)) (filter-append (λ s. s.0 == j) a b) ∙ map-append (λ s. s.1) (filter (λ s. s.0 == j) a) (filter (λ s. s.0 == j) b)

-- datagrams for k, made of a list
abbrev to_k : {A : Type 0} → ℕ → (A → Datagram) → List A → List (ℕ × Datagram)
to_k k d fs = map (λ f. (k, d f)) fs

sent_same : {A : Type 0} (j : ℕ) (d : A → Datagram) (fs : List A) → sent_to j (to_k j d fs) ≡ map d fs
unfolding sent_to
sent_same j d [] = refl
sent_same j d (f ∷ fs) =
    ap (λ (b : Bool). map (λ (s : ℕ × Datagram). s.1) (cond b ((j, d f) ∷ filter (λ s. s.0 == j) (to_k j d fs)) (filter (λ s. s.0 == j) (to_k j d fs)))) (eq-eqb j j refl)
    ∙ ap (λ l. d f ∷ l) (sent_same j d fs)

sent_other : {A : Type 0} (j k : ℕ) (d : A → Datagram) (fs : List A) → (k ≡ j → ⊥) → sent_to j (to_k k d fs) ≡ []
unfolding sent_to
sent_other j k d [] ne = refl
sent_other j k d (f ∷ fs) ne =
    ap (λ (b : Bool). map (λ (s : ℕ × Datagram). s.1) (cond b ((k, d f) ∷ filter (λ s. s.0 == j) (to_k k d fs)) (filter (λ s. s.0 == j) (to_k k d fs)))) (ne_eqb k j ne)
    ∙ sent_other j k d fs ne

-- ---- sending again

take_all : {A : Type 0} (n : ℕ) (xs : List A) → length xs ≤ n → take n xs ≡ xs
take_all zero [] h = refl
take_all zero (x ∷ xs) h = absurd (omega (arith, h))
take_all (suc n) [] h = refl
take_all (suc n) (x ∷ xs) h = ap (λ l. x ∷ l) (take_all n xs (omega (arith, h)))

frames_sent : (k : ℕ) (fs : List (ℕ × InEpoch)) (x : Draft) →
    ((fold (again_frame k) x fs).replica ≡ x.replica) × ((fold (again_frame k) x fs).sends ≡ x.sends ++ to_k k (frame_of x.replica.me (known x.replica.log) k) fs)
    × ((fold (again_frame k) x fs).fitting ≡ x.fitting)
unfolding again_frame send frame_of
frames_sent k [] x = (refl, sym (append-nil x.sends), refl)
frames_sent k (f ∷ fs) x =
    let d : Datagram = Datagram.Frame x.replica.me k (known x.replica.log) f.0 f.1 in
    let t = frames_sent k fs (again_frame k x f) in
    (t.0, t.1 ∙ append_assoc x.sends ((k, d) ∷ []) (to_k k (frame_of x.replica.me (known x.replica.log) k) fs), t.2)

abbrev again_for : Replica → ℕ → List (ℕ × Datagram)
again_for r k = to_k k (frame_of r.me (known r.log) k) (take most_again (unacked r k))

abbrev again_all : Replica → List ℕ → List (ℕ × Datagram)
again_all r [] = []
again_all r (k ∷ ks) = again_for r k ++ again_all r ks

pub all_sent : (r : Replica) (ks : List ℕ) (x : Draft) → x.replica ≡ r →
    ((fold again_to x ks).replica ≡ r) × ((fold again_to x ks).sends ≡ x.sends ++ again_all r ks) × ((fold again_to x ks).fitting ≡ x.fitting)
unfolding again_to
all_sent r [] x e = (e, sym (append-nil x.sends), refl)
all_sent r (k ∷ ks) x e =
    let one = frames_sent k (take most_again (unacked x.replica k)) x in
    let t = all_sent r ks (fold (again_frame k) x (take most_again (unacked x.replica k))) (one.0 ∙ e) in
    (t.0, t.1 ∙ ap (λ l. l ++ again_all r ks) (one.1 ∙ ap (λ (q : Replica). x.sends ++ again_for q k) e) ∙ append_assoc x.sends (again_for r k) (again_all r ks), t.2 ∙ one.2)

none_for : (r : Replica) (j : ℕ) (ks : List ℕ) → (Among ks j → ⊥) → sent_to j (again_all r ks) ≡ []
unfolding sent_to
none_for r j [] n = refl
none_for r j (k ∷ ks) n =
    sent_append j (again_for r k) (again_all r ks)
    ∙ ap (λ l. l ++ sent_to j (again_all r ks)) (sent_other j k (frame_of r.me (known r.log) k) (take most_again (unacked r k)) (λ e. n (inl e)))
    ∙ none_for r j ks (λ m. n (inr m))

just_for : (r : Replica) (j : ℕ) (ks : List ℕ) → Distinct ks → Among ks j → sent_to j (again_all r ks) ≡ map (frame_of r.me (known r.log) j) (take most_again (unacked r j))
just_for r j [] d m = absurd m
just_for r j (k ∷ ks) d (inl e) =
    sent_append j (again_for r k) (again_all r ks)
    ∙ ap (λ i. sent_to j (again_for r i) ++ sent_to j (again_all r ks)) e
    ∙ ap (λ l. l ++ sent_to j (again_all r ks)) (sent_same j (frame_of r.me (known r.log) j) (take most_again (unacked r j)))
    ∙ ap (λ l. map (frame_of r.me (known r.log) j) (take most_again (unacked r j)) ++ l) (none_for r j ks (λ m. d.0 (subst (Among ks) (sym e) m)))
    ∙ append-nil (map (frame_of r.me (known r.log) j) (take most_again (unacked r j)))
just_for r j (k ∷ ks) d (inr m) =
    sent_append j (again_for r k) (again_all r ks)
    ∙ ap (λ l. l ++ sent_to j (again_all r ks)) (sent_other j k (frame_of r.me (known r.log) k) (take most_again (unacked r k)) (λ e. d.0 (subst (Among ks) (sym e) m)))
    ∙ just_for r j ks d.1 m

-- ---- one more frame

enumerate_more : {A : Type 0} (i : ℕ) (xs : List A) (x : A) → enumerate_from i (xs ++ x ∷ []) ≡ enumerate_from i xs ++ (i + length xs, x) ∷ []
enumerate_more i [] x = ap (λ n. (n, x) ∷ []) (omega arith)
enumerate_more i (y ∷ ys) x = ap (λ l. (i, y) ∷ l) (enumerate_more (i + 1) ys x ∙ ap (λ n. enumerate_from (i + 1) ys ++ (n, x) ∷ []) (omega arith))

pub pair_none : (p : InEpoch) (j : ℕ) (ks : List ℕ) → (Among ks j → ⊥) → map (λ (f : ℕ × InEpoch). f.1) (filter (λ f. f.0 == j) (map (λ k. (k, p)) ks)) ≡ []
pair_none p j [] n = refl
pair_none p j (k ∷ ks) n =
    ap (λ (b : Bool). map (λ (f : ℕ × InEpoch). f.1) (cond b ((k, p) ∷ filter (λ f. f.0 == j) (map (λ k. (k, p)) ks)) (filter (λ f. f.0 == j) (map (λ k. (k, p)) ks)))) (ne_eqb k j (λ e. n (inl e)))
    ∙ pair_none p j ks (λ m. n (inr m))

pub pair_one : (p : InEpoch) (j : ℕ) (ks : List ℕ) → Distinct ks → Among ks j → map (λ (f : ℕ × InEpoch). f.1) (filter (λ f. f.0 == j) (map (λ k. (k, p)) ks)) ≡ p ∷ []
pair_one p j [] d m = absurd m
pair_one p j (k ∷ ks) d (inl e) =
    ap (λ (b : Bool). map (λ (f : ℕ × InEpoch). f.1) (cond b ((k, p) ∷ filter (λ f. f.0 == j) (map (λ k. (k, p)) ks)) (filter (λ f. f.0 == j) (map (λ k. (k, p)) ks)))) (eq-eqb k j e)
    ∙ ap (λ l. p ∷ l) (pair_none p j ks (λ m. d.0 (subst (Among ks) (sym e) m)))
pair_one p j (k ∷ ks) d (inr m) =
    ap (λ (b : Bool). map (λ (f : ℕ × InEpoch). f.1) (cond b ((k, p) ∷ filter (λ f. f.0 == j) (map (λ k. (k, p)) ks)) (filter (λ f. f.0 == j) (map (λ k. (k, p)) ks)))) (ne_eqb k j (λ e. d.0 (subst (Among ks) (sym e) m)))
    ∙ pair_one p j ks d.1 m

next_none : (r : Replica) (p : InEpoch) (j : ℕ) (ks : List ℕ) → (Among ks j → ⊥) → sent_to j (map (next_frame r p) ks) ≡ []
unfolding sent_to next_frame
next_none r p j [] n = refl
next_none r p j (k ∷ ks) n =
    ap (λ (b : Bool). map (λ (s : ℕ × Datagram). s.1) (cond b (next_frame r p k ∷ filter (λ s. s.0 == j) (map (next_frame r p) ks)) (filter (λ s. s.0 == j) (map (next_frame r p) ks)))) (ne_eqb k j (λ e. n (inl e)))
    ∙ next_none r p j ks (λ m. n (inr m))

next_one : (r : Replica) (p : InEpoch) (j : ℕ) (ks : List ℕ) → Distinct ks → Among ks j → sent_to j (map (next_frame r p) ks) ≡ Datagram.Frame r.me j (known r.log) (length (frames_to r j)) p ∷ []
unfolding sent_to next_frame
next_one r p j [] d m = absurd m
next_one r p j (k ∷ ks) d (inl e) =
    ap (λ (b : Bool). map (λ (s : ℕ × Datagram). s.1) (cond b (next_frame r p k ∷ filter (λ s. s.0 == j) (map (next_frame r p) ks)) (filter (λ s. s.0 == j) (map (next_frame r p) ks)))) (eq-eqb k j e)
    ∙ ap (λ l. Datagram.Frame r.me k (known r.log) (length (frames_to r k)) p ∷ l) (next_none r p j ks (λ m. d.0 (subst (Among ks) (sym e) m)))
    ∙ ap (λ i. Datagram.Frame r.me i (known r.log) (length (frames_to r i)) p ∷ []) e
next_one r p j (k ∷ ks) d (inr m) =
    ap (λ (b : Bool). map (λ (s : ℕ × Datagram). s.1) (cond b (next_frame r p k ∷ filter (λ s. s.0 == j) (map (next_frame r p) ks)) (filter (λ s. s.0 == j) (map (next_frame r p) ks)))) (ne_eqb k j (λ e. d.0 (subst (Among ks) (sym e) m)))
    ∙ next_one r p j ks d.1 m

-- ---- all that is unacknowledged has gone out

module _ (r : Replica) (j : ℕ) (apart : Distinct (other_members r)) (member : Among (other_members r) j) where
  record Ahead (x : Draft) : Type 0 where
    me : x.replica.me ≡ r.me
    knows : known x.replica.log ≡ known r.log
    others : other_members x.replica ≡ other_members r
    acked : acked_by x.replica j ≡ acked_by r j
    le : acked_by r j ≤ length (frames_to x.replica j)
    is : sent_to j x.sends ≡ map (frame_of r.me (known r.log) j) (drop (acked_by r j) (enumerate_from 0 (frames_to x.replica j)))

  frames_more : (x : Draft) (p : InEpoch) → other_members x.replica ≡ other_members r → frames_to (push_to_members p x).replica j ≡ frames_to x.replica j ++ p ∷ []
  unfolding frames_to push_to_members push_to
  frames_more x p o =
      ap (λ l. map (λ (f : ℕ × InEpoch). f.1) l) (filter-append (λ (f : ℕ × InEpoch). f.0 == j) x.replica.pushed (map (λ k. (k, p)) (other_members x.replica)))
      ∙ map-append (λ (f : ℕ × InEpoch). f.1) (filter (λ (f : ℕ × InEpoch). f.0 == j) x.replica.pushed) (filter (λ (f : ℕ × InEpoch). f.0 == j) (map (λ k. (k, p)) (other_members x.replica)))
      ∙ ap (λ ks. map (λ (f : ℕ × InEpoch). f.1) (filter (λ f. f.0 == j) x.replica.pushed) ++ map (λ (f : ℕ × InEpoch). f.1) (filter (λ f. f.0 == j) (map (λ k. (k, p)) ks))) o
      ∙ ap (λ l. map (λ (f : ℕ × InEpoch). f.1) (filter (λ f. f.0 == j) x.replica.pushed) ++ l) (pair_one p j (other_members r) apart member)

  sends_more : (x : Draft) (p : InEpoch) → other_members x.replica ≡ other_members r →
      sent_to j (push_to_members p x).sends ≡ sent_to j x.sends ++ Datagram.Frame x.replica.me j (known x.replica.log) (length (frames_to x.replica j)) p ∷ []
  unfolding push_to_members push_to
  sends_more x p o =
      sent_append j x.sends (map (next_frame x.replica p) (other_members x.replica))
      ∙ ap (λ ks. sent_to j x.sends ++ sent_to j (map (next_frame x.replica p) ks)) o
      ∙ ap (λ l. sent_to j x.sends ++ l) (next_one x.replica p j (other_members r) apart member)

  pushed_same : (x : Draft) (p : InEpoch) → ((push_to_members p x).replica.me ≡ x.replica.me) × ((push_to_members p x).replica.log ≡ x.replica.log)
      × (other_members (push_to_members p x).replica ≡ other_members x.replica) × (acked_by (push_to_members p x).replica j ≡ acked_by x.replica j)
  unfolding push_to_members push_to other_members members_of acked_by
  pushed_same x p = (refl, refl, refl, refl)

  framed : (x : Draft) (p : InEpoch) (i : ℕ) → Ahead x → Datagram.Frame x.replica.me j (known x.replica.log) i p ≡ frame_of r.me (known r.log) j (i, p)
  unfolding frame_of
  framed x p i h = ap (λ k. Datagram.Frame k j (known x.replica.log) i p) h.me ∙ ap (λ e. Datagram.Frame r.me j e i p) h.knows

  pushes : (x : Draft) (p : InEpoch) → Ahead x → Ahead (push_to_members p x)
  pushes x p h =
      let fs = frames_to x.replica j in
      let more = frames_more x p h.others in
      let same = pushed_same x p in
      let a = acked_by r j in
      let fits : a ≤ length (enumerate_from 0 fs) = subst (λ n. a ≤ n) (sym (length-enumerate_from 0 fs)) h.le in
      let all : drop a (enumerate_from 0 (fs ++ p ∷ [])) ≡ drop a (enumerate_from 0 fs) ++ (length fs, p) ∷ [] =
      ap (drop a) (enumerate_more 0 fs p ∙ ap (λ n. enumerate_from 0 fs ++ (n, p) ∷ []) (omega arith)) ∙ drop-append-le a (enumerate_from 0 fs) ((length fs, p) ∷ []) fits in
      let frame = framed x p (length fs) h in
      record {
        me = same.0 ∙ h.me;
        knows = ap known same.1 ∙ h.knows;
        others = same.2 ∙ h.others;
        acked = same.3 ∙ h.acked;
        le = subst (λ l. a ≤ length l) (sym more) (let e = length-append fs (p ∷ []) in let l = h.le in omega (arith, e, l));
        is = sends_more x p h.others ∙ ap (λ l. l ++ Datagram.Frame x.replica.me j (known x.replica.log) (length fs) p ∷ []) h.is
            ∙ ap (λ d. map (frame_of r.me (known r.log) j) (drop a (enumerate_from 0 fs)) ++ d ∷ []) frame
            ∙ sym (map-append (frame_of r.me (known r.log) j) (drop a (enumerate_from 0 fs)) ((length fs, p) ∷ []))
            ∙ ap (map (frame_of r.me (known r.log) j)) (sym all ∙ ap (λ l. drop a (enumerate_from 0 l)) (sym more));
      }

  -- ---- what keeps it

  -- a draft with the same links and the same datagrams
  record Keeps (x y : Draft) : Type 0 where
    me : y.replica.me ≡ x.replica.me
    knows : known y.replica.log ≡ known x.replica.log
    others : other_members y.replica ≡ other_members x.replica
    acked : acked_by y.replica j ≡ acked_by x.replica j
    frames : frames_to y.replica j ≡ frames_to x.replica j
    sends : y.sends ≡ x.sends

  kept : (x y : Draft) → Keeps x y → Ahead x → Ahead y
  kept x y k h = record {
    me = k.me ∙ h.me;
    knows = k.knows ∙ h.knows;
    others = k.others ∙ h.others;
    acked = k.acked ∙ h.acked;
    le = subst (λ l. acked_by r j ≤ length l) (sym k.frames) h.le;
    is = ap (sent_to j) k.sends ∙ h.is ∙ ap (λ l. map (frame_of r.me (known r.log) j) (drop (acked_by r j) (enumerate_from 0 l))) (sym k.frames);
  }

  same_keeps : (x : Draft) → Keeps x x
  same_keeps x = record { me = refl; knows = refl; others = refl; acked = refl; frames = refl; sends = refl }

  keeps_when : (c : Bool) (a b x : Draft) → Keeps x a → Keeps x b → Keeps x (when c then a otherwise b)
  unfolding when◌then◌otherwise◌
  keeps_when true a b x p q = p
  keeps_when false a b x p q = q

  keeps_then : {x y z : Draft} → Keeps x y → Keeps y z → Keeps x z
  keeps_then p q = record { me = q.me ∙ p.me; knows = q.knows ∙ p.knows; others = q.others ∙ p.others; acked = q.acked ∙ p.acked; frames = q.frames ∙ p.frames; sends = q.sends ∙ p.sends }

  issued_keeps : (t : ℕ) (x : Draft) → Keeps x (issued_at t x)
  unfolding issued_at other_members members_of acked_by frames_to
  issued_keeps t x = record { me = refl; knows = refl; others = refl; acked = refl; frames = refl; sends = refl }

  owing_keeps : (ss : List Stamp) (x : Draft) → Keeps x (owing ss x)
  unfolding owing other_members members_of acked_by frames_to
  owing_keeps ss x = record { me = refl; knows = refl; others = refl; acked = refl; frames = refl; sends = refl }

  commit_keeps : (s : Stamp) (x : Draft) → Keeps x (keep (Rec.Commit s) x)
  unfolding keep other_members members_of members known decision acked_by frames_to
  commit_keeps s x = record { me = refl; knows = refl; others = refl; acked = refl; frames = refl; sends = refl }

  run_keeps : (es : List Entry) (x : Draft) → Keeps x (commit_run es x)
  unfolding commit_run
  run_keeps [] x = same_keeps x
  run_keeps (e ∷ es) x = keeps_when (is_ready x.replica e.stamp) _ x x (keeps_then (commit_keeps e.stamp x) (run_keeps es (keep (Rec.Commit e.stamp) x))) (same_keeps x)

  commits_keep : (x : Draft) → Keeps x (commits x)
  unfolding commits
  commits_keep x = keeps_when (active x.replica.log) _ x x (run_keeps (unexecuted x.replica.log) x) (same_keeps x)

  found_keeps : (w : Waiting) (p : Option (ℕ × Entry)) (x : Draft) → Keeps x (answer_found w p x)
  unfolding answer_found reply_ok reply_dropped reply other_members members_of acked_by frames_to
  found_keeps w (Some p) x = record { me = refl; knows = refl; others = refl; acked = refl; frames = refl; sends = refl }
  found_keeps w None x = keeps_when _ _ _ x (record { me = refl; knows = refl; others = refl; acked = refl; frames = refl; sends = refl })
      (record { me = refl; knows = refl; others = refl; acked = refl; frames = refl; sends = refl })

  each_keeps : (ws : List Waiting) (x : Draft) → Keeps x (answer_each ws x)
  unfolding answer_each
  each_keeps [] x = same_keeps x
  each_keeps (w ∷ ws) x = keeps_then (found_keeps w (find_executed (executed x.replica.log) w.entry) x) (each_keeps ws _)

  replies_keep : (x : Draft) → Keeps x (replies x)
  unfolding replies other_members members_of acked_by frames_to
  replies_keep x = keeps_then (record { me = refl; knows = refl; others = refl; acked = refl; frames = refl; sends = refl }) (each_keeps x.replica.waiting _)

  -- ---- the step

  by_when : (c : Bool) (a b : Draft) → Ahead a → Ahead b → Ahead (when c then a otherwise b)
  unfolding when◌then◌otherwise◌
  by_when true a b p q = p
  by_when false a b p q = q

  by_option : {A : Type 0} (f : A → Draft) (y : Draft) (o : Option A) → ((a : A) → Ahead (f a)) → Ahead y → Ahead (option_map_or f o y)
  by_option f y None p q = q
  by_option f y (Some a) p q = p a

  told_at : (t : ℕ) (p : InEpoch) (x : Draft) → Ahead x → Ahead (push_to_members p (issued_at t x))
  told_at t p x h = pushes (issued_at t x) p (kept x (issued_at t x) (issued_keeps t x) h)

  pays : (reading : ℕ) (ss : List Stamp) (x : Draft) → Ahead x → Ahead (pay_run reading ss x)
  unfolding pay_run pay
  pays reading [] x h = kept x (owing [] x) (owing_keeps [] x) h
  pays reading (s ∷ ss) x h =
      by_option _ (owing (s ∷ ss) x) (would x reading)
      (λ t. by_when _ _ _ (pays reading ss (push_to_members (InEpoch.PrepareOk s t) (issued_at t x)) (told_at t (InEpoch.PrepareOk s t) x h)) (kept x (owing (s ∷ ss) x) (owing_keeps (s ∷ ss) x) h))
      (kept x (owing (s ∷ ss) x) (owing_keeps (s ∷ ss) x) h)

  owed_ahead : (reading : ℕ) (x : Draft) → Ahead x → Ahead (owed_oks reading x)
  unfolding owed_oks
  owed_ahead reading x h = by_when (active x.replica.log) _ x (pays reading x.replica.owed x h) h

  time_ahead : (o : Option ℕ) (x : Draft) → Ahead x → Ahead (send_time o x)
  unfolding send_time
  time_ahead None x h = h
  time_ahead (Some t) x h = told_at t (InEpoch.ClockTime t) x h

  idle_ahead : (reading : ℕ) (x : Draft) → Ahead x → Ahead (idle_at Input.Ticked reading x)
  unfolding idle_at idle
  idle_ahead reading x h = by_when _ _ x (time_ahead (would x reading) x h) h

  all_ahead : (x : Draft) → Ahead x → Ahead (replies (commits x))
  all_ahead x h = kept (commits x) (replies (commits x)) (replies_keep (commits x)) (kept x (commits x) (commits_keep x) h)

  seated : (x : Draft) → x.replica ≡ r → sent_to j x.sends ≡ map (frame_of r.me (known r.log) j) (unacked r j) → acked_by r j ≤ length (frames_to r j) → Ahead x
  unfolding unacked
  seated x e h le = record {
    me = ap (λ (q : Replica). q.me) e;
    knows = ap (λ (q : Replica). known q.log) e;
    others = ap other_members e;
    acked = ap (λ (q : Replica). acked_by q j) e;
    le = subst (λ (q : Replica). acked_by r j ≤ length (frames_to q j)) (sym e) le;
    is = h ∙ ap (λ (q : Replica). map (frame_of r.me (known r.log) j) (drop (acked_by r j) (enumerate_from 0 (frames_to q j)))) (sym e);
  }

  begins : length (unacked r j) ≤ most_again → acked_by r j ≤ length (frames_to r j) → (Ahead (send_again (begun r))) × ((send_again (begun r)).fitting ≡ true)
  unfolding send_again begun
  begins most le =
      let t = all_sent r (other_members r) (begun r) refl in (
        seated (send_again (begun r)) t.0
            (ap (sent_to j) t.1 ∙ just_for r j (other_members r) apart member ∙ ap (map (frame_of r.me (known r.log) j)) (take_all most_again (unacked r j) most)) le,
        t.2,
      )

  at_end : (x : Draft) → Ahead x → sent_to j x.sends ≡ map (frame_of r.me (known r.log) j) (unacked x.replica j)
  unfolding unacked
  at_end x h = h.is ∙ ap (λ n. map (frame_of r.me (known r.log) j) (drop n (enumerate_from 0 (frames_to x.replica j)))) (sym h.acked)

pub steps_send_again : StepsSendAgain
unfolding step if_fitting on_input on_tick begun
steps_send_again r reading j a d m most le =
    let b = begins r j d m most le in
    let ticked : on_input Input.Ticked reading (begun r) ≡ send_again (begun r) = on_true (active r.log) _ _ a in
    let y = if_fitting (begun r) (on_input Input.Ticked reading (begun r)) in
    let is : y ≡ send_again (begun r) = ap (if_fitting (begun r)) ticked ∙ on_true (send_again (begun r)).fitting (send_again (begun r)) (begun r) b.1 in
    let h : Ahead r j d m y = subst (Ahead r j d m) (sym is) b.0 in
    at_end r j d m _ (all_ahead r j d m (idle_at Input.Ticked reading (owed_oks reading y)) (idle_ahead r j d m reading (owed_oks reading y) (owed_ahead r j d m reading y h)))
