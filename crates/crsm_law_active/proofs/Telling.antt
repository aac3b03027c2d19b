-- A step on a frame or an acknowledgement sends little besides frames.
use Rattle.std.proofs.Common.{◌≡◌, ℕ, List, [], ◌∷◌, ◌++◌, length, refl, sym, ap, subst, inl, inr, map, take}
use Rattle.std.specs.Prelude.{IsTrue, Option, Some, None, fold}
use Rattle.crsm_base.specs.Limits.{most_again}
use Rattle.crsm_spec.specs.Choice.{when◌then◌otherwise◌}
use Rattle.crsm_spec.specs.Types.{Stamp, InEpoch, Datagram, Control, Decision}
use Rattle.crsm_spec.specs.Lists.{Among}
use Rattle.crsm_spec.specs.Log.{known, decision, executed, active}
use Rattle.crsm_spec.specs.Replica.{Replica, other_members, unacked}
use Rattle.crsm_spec.specs.Draft.{Draft, begun, keep, send, count_vote, issued_at, push_to_members, push_to, next_frame, send_control, send_decision, send_retrieve, retrieve, would}
use Rattle.crsm_spec.specs.Clients.{commits, replies}
use Rattle.crsm_spec.specs.Frames.{on_frame, on_ack, take_frame, receive, owe, ack, pay, owing, pay_run, owed_oks, send_time, idle, again_frame, again_to, send_again}
use Rattle.crsm_spec.specs.Step.{Input, if_fitting, on_input, on_datagram, on_tick, idle_at, step}
use Rattle.crsm_fact_log.proofs.Lists.{among_left, among_either}
use Rattle.crsm_law_active.specs.Telling.{IsOfLink, IsKnown, TellsLittle, ComesOnLink, LinksTellLittle}
use Rattle.crsm_law_active.specs.Telling.TellsLittle.{OfLinks, OneMessage}
use Rattle.crsm_law_active.proofs.Ending.{on_true, by_when, by_option, ends_before}

-- ---- frames in what is sent

abbrev AllLinks : List (ℕ × Datagram) → Type 0
AllLinks ds = (s : ℕ × Datagram) → Among ds s → IsOfLink s.1

links_then : (xs ys : List (ℕ × Datagram)) → AllLinks xs → AllLinks ys → AllLinks (xs ++ ys)
links_then xs ys p q s m = elim (among_either xs ys s m) [ inl a ↦ p s a | inr a ↦ q s a ]

frames_link : (r : Replica) (p : InEpoch) (ks : List ℕ) → AllLinks (map (next_frame r p) ks)
unfolding next_frame
frames_link r p [] s m = absurd m
frames_link r p (k ∷ ks) s (inl e) = subst (λ (z : ℕ × Datagram). IsOfLink z.1) e tt
frames_link r p (k ∷ ks) s (inr m) = frames_link r p ks s m

module _ (r : Replica) where
  same_sends : (x y : Draft) → y.sends ≡ x.sends → TellsLittle r x → TellsLittle r y
  same_sends x y e (OfLinks h) = OfLinks (λ s m. h s (subst (λ l. Among l s) e m))
  same_sends x y e (OneMessage k c known h g) = OneMessage k c known (λ s m. h s (subst (λ l. Among l s) e m)) (λ s m. subst (λ l. Among l s) (sym e) (g s m))

  more_links : (x y : Draft) (ds : List (ℕ × Datagram)) → y.sends ≡ x.sends ++ ds → AllLinks ds → TellsLittle r x → TellsLittle r y
  more_links x y ds e links (OfLinks h) = OfLinks (λ s m. links_then x.sends ds h links s (subst (λ l. Among l s) e m))
  more_links x y ds e links (OneMessage k c known h g) =
      OneMessage k c known (λ s m. elim (among_either x.sends ds s (subst (λ l. Among l s) e m)) [ inl a ↦ h s a | inr a ↦ inl (links s a) ])
      (λ s m. subst (λ l. Among l s) (sym e) (among_left x.sends ds s (g s m)))

  pushed : (p : InEpoch) (t : ℕ) (x : Draft) → TellsLittle r x → TellsLittle r (push_to_members p (issued_at t x))
  unfolding push_to_members push_to issued_at
  pushed p t x h = more_links x _ (map (next_frame (issued_at t x).replica p) (other_members (issued_at t x).replica)) refl (frames_link (issued_at t x).replica p (other_members (issued_at t x).replica)) h

  owing_tells : (ss : List Stamp) (x : Draft) → TellsLittle r x → TellsLittle r (owing ss x)
  unfolding owing
  owing_tells ss x h = same_sends x _ refl h

  pays : (reading : ℕ) (ss : List Stamp) (x : Draft) → TellsLittle r x → TellsLittle r (pay_run reading ss x)
  unfolding pay_run pay
  pays reading [] x h = owing_tells [] x h
  pays reading (s ∷ ss) x h =
      by_option (TellsLittle r) _ (owing (s ∷ ss) x) (would x reading)
      (λ t e. by_when (TellsLittle r) _ _ _ (pays reading ss (push_to_members (InEpoch.PrepareOk s t) (issued_at t x)) (pushed (InEpoch.PrepareOk s t) t x h)) (owing_tells (s ∷ ss) x h)) (owing_tells (s ∷ ss) x h)

  owed_tells : (reading : ℕ) (x : Draft) → TellsLittle r x → TellsLittle r (owed_oks reading x)
  unfolding owed_oks
  owed_tells reading x h = by_when (TellsLittle r) (active x.replica.log) _ x (pays reading x.replica.owed x h) h

  time_tells : (o : Option ℕ) (x : Draft) → TellsLittle r x → TellsLittle r (send_time o x)
  unfolding send_time
  time_tells None x h = h
  time_tells (Some t) x h = pushed (InEpoch.ClockTime t) t x h

  idle_tells : (input : Input) (reading : ℕ) (x : Draft) → TellsLittle r x → TellsLittle r (idle_at input reading x)
  unfolding idle_at idle
  idle_tells Input.Ticked reading x h = by_when (TellsLittle r) _ _ x (time_tells (would x reading) x h) h
  idle_tells (Input.Came a d) reading x h = h
  idle_tells (Input.Suspected ms) reading x h = h

  after_rule : (input : Input) (reading : ℕ) (x : Draft) → TellsLittle r x → TellsLittle r (replies (commits (idle_at input reading (owed_oks reading x))))
  after_rule input reading x h =
      let y = idle_at input reading (owed_oks reading x) in
      same_sends y (replies (commits y)) (ends_before y).sends (idle_tells input reading (owed_oks reading x) (owed_tells reading x h))

  -- ---- the rules

  nothing : TellsLittle r (begun r)
  unfolding begun
  nothing = OfLinks (λ s m. absurd m)

  one_message : (k : ℕ) (c : Control) → IsKnown r c → TellsLittle r (send_control c (begun r) k)
  unfolding send_control begun
  one_message k c known = by_when (TellsLittle r) _ _ _ (OfLinks (λ s m. absurd m)) (OneMessage k c known (λ s m. inr m) (λ s m. m))

  decision_told : (k : ℕ) → TellsLittle r (send_decision k (begun r))
  unfolding send_decision begun
  decision_told k = by_option (TellsLittle r) _ (begun r) (decision (begun r).replica.log) (λ d e. one_message k (Control.Decide d) (here d e)) nothing
    where
      here : (d : Decision) → decision (begun r).replica.log ≡ Some d → decision r.log ≡ Some d
      here d e = e

  question_asked : (k : ℕ) → TellsLittle r (send_retrieve k (begun r))
  unfolding send_retrieve retrieve begun
  question_asked k = one_message k (Control.Retrieve (known r.log) (length (executed r.log))) (refl, refl)

  acked_only : (k : ℕ) → TellsLittle r (ack k (begun r))
  unfolding ack send begun
  acked_only k = OfLinks (λ s m. elim m [ inl e ↦ subst (λ (z : ℕ × Datagram). IsOfLink z.1) e tt | inr w ↦ absurd w ])

  took : (k : ℕ) (p : InEpoch) → TellsLittle r (take_frame k p (begun r))
  unfolding take_frame receive ack send keep count_vote owe begun
  took k (InEpoch.Prepare g) = OfLinks (λ s m. elim m [ inl e ↦ subst (λ (z : ℕ × Datagram). IsOfLink z.1) e tt | inr w ↦ absurd w ])
  took k (InEpoch.PrepareOk s t) = OfLinks (λ z m. elim m [ inl e ↦ subst (λ (z : ℕ × Datagram). IsOfLink z.1) e tt | inr w ↦ absurd w ])
  took k (InEpoch.ClockTime t) = OfLinks (λ s m. elim m [ inl e ↦ subst (λ (z : ℕ × Datagram). IsOfLink z.1) e tt | inr w ↦ absurd w ])

  frame_tells : (k e seq : ℕ) (p : InEpoch) → TellsLittle r (on_frame k e seq p (begun r))
  unfolding on_frame
  frame_tells k e seq p =
      by_when (TellsLittle r) _ _ _ (decision_told k) (by_when (TellsLittle r) _ _ _ (question_asked k) (by_when (TellsLittle r) _ _ _ nothing
      (by_when (TellsLittle r) _ _ _ (acked_only k) (by_when (TellsLittle r) _ _ _ nothing (took k p)))))

  ack_tells : (k e next : ℕ) → TellsLittle r (on_ack k e next (begun r))
  unfolding on_ack begun
  ack_tells k e next = by_when (TellsLittle r) _ _ _ (OfLinks (λ s m. absurd m)) (OfLinks (λ s m. absurd m))

  input_tells : (input : Input) (reading : ℕ) → ComesOnLink input → TellsLittle r (on_input input reading (begun r))
  unfolding on_input on_datagram
  input_tells (Input.Came a (Datagram.Frame from to e seq p)) reading h = by_when (TellsLittle r) _ _ _ nothing (frame_tells from e seq p)
  input_tells (Input.Came a (Datagram.Ack from to e next)) reading h = by_when (TellsLittle r) _ _ _ nothing (ack_tells from e next)
  input_tells (Input.Came a (Datagram.Part from to boot number index count bytes)) reading h = absurd h
  input_tells (Input.Came a (Datagram.Request c)) reading h = absurd h
  input_tells (Input.Came a (Datagram.Reply client number told)) reading h = absurd h
  input_tells (Input.Came a (Datagram.Operate ms)) reading h = absurd h
  input_tells Input.Ticked reading h = absurd h
  input_tells (Input.Suspected ms) reading h = absurd h

  -- ---- ticks

  again_link : (k : ℕ) (x : Draft) (f : ℕ × InEpoch) → AllLinks x.sends → AllLinks (again_frame k x f).sends
  unfolding again_frame send
  again_link k x f h = links_then x.sends _ h (λ s m. elim m [ inl e ↦ subst (λ (z : ℕ × Datagram). IsOfLink z.1) e tt | inr w ↦ absurd w ])

  again_links : (k : ℕ) (fs : List (ℕ × InEpoch)) (x : Draft) → AllLinks x.sends → AllLinks (fold (again_frame k) x fs).sends
  again_links k [] x h = h
  again_links k (f ∷ fs) x h = again_links k fs (again_frame k x f) (again_link k x f h)

  all_again : (ks : List ℕ) (x : Draft) → AllLinks x.sends → AllLinks (fold again_to x ks).sends
  unfolding again_to
  all_again [] x h = h
  all_again (k ∷ ks) x h = all_again ks (again_to x k) (again_links k (take most_again (unacked x.replica k)) x h)

  tick_links : (reading : ℕ) → IsTrue (active r.log) → AllLinks (on_input Input.Ticked reading (begun r)).sends
  unfolding on_input on_tick send_again begun
  tick_links reading a = subst AllLinks (sym (ap (λ (d : Draft). d.sends) (on_true (active r.log) (send_again (begun r)) _ a))) (all_again (other_members r) (begun r) (λ s m. absurd m))

  -- the same walk with links alone
  abbrev L : Draft → Type 0
  L x = AllLinks x.sends

  links_pushed : (p : InEpoch) (t : ℕ) (x : Draft) → L x → L (push_to_members p (issued_at t x))
  unfolding push_to_members push_to issued_at
  links_pushed p t x h = links_then x.sends _ h (frames_link (issued_at t x).replica p (other_members (issued_at t x).replica))

  links_owing : (ss : List Stamp) (x : Draft) → L x → L (owing ss x)
  unfolding owing
  links_owing ss x h = h

  links_paid : (reading : ℕ) (ss : List Stamp) (x : Draft) → L x → L (pay_run reading ss x)
  unfolding pay_run pay
  links_paid reading [] x h = links_owing [] x h
  links_paid reading (s ∷ ss) x h =
      by_option L _ (owing (s ∷ ss) x) (would x reading)
      (λ t e. by_when L _ _ _ (links_paid reading ss (push_to_members (InEpoch.PrepareOk s t) (issued_at t x)) (links_pushed (InEpoch.PrepareOk s t) t x h)) (links_owing (s ∷ ss) x h)) (links_owing (s ∷ ss) x h)

  links_owed : (reading : ℕ) (x : Draft) → L x → L (owed_oks reading x)
  unfolding owed_oks
  links_owed reading x h = by_when L (active x.replica.log) _ x (links_paid reading x.replica.owed x h) h

  links_time : (o : Option ℕ) (x : Draft) → L x → L (send_time o x)
  unfolding send_time
  links_time None x h = h
  links_time (Some t) x h = links_pushed (InEpoch.ClockTime t) t x h

  links_idle : (reading : ℕ) (x : Draft) → L x → L (idle_at Input.Ticked reading x)
  unfolding idle_at idle
  links_idle reading x h = by_when L _ _ x (links_time (would x reading) x h) h

  links_begun : L (begun r)
  unfolding begun
  links_begun s m = absurd m

step_tells : (r : Replica) (input : Input) (reading : ℕ) → TellsLittle r (on_input input reading (begun r)) → TellsLittle r (step r input reading)
unfolding step if_fitting
step_tells r input reading h = after_rule r input reading _ (by_when (TellsLittle r) _ _ _ h (nothing r))

step_links : (r : Replica) (reading : ℕ) → IsTrue (active r.log) → AllLinks (step r Input.Ticked reading).sends
unfolding step if_fitting
step_links r reading a =
    let y = by_when (L r) (on_input Input.Ticked reading (begun r)).fitting (on_input Input.Ticked reading (begun r)) (begun r) (tick_links r reading a) (links_begun r) in
    let x = when (on_input Input.Ticked reading (begun r)).fitting then on_input Input.Ticked reading (begun r) otherwise begun r in
    let z = idle_at Input.Ticked reading (owed_oks reading x) in
    subst AllLinks (sym (ends_before z).sends) (links_idle r reading (owed_oks reading x) (links_owed r reading x y))

pub links_tell_little : LinksTellLittle
links_tell_little = record {
  on_link = λ r input reading h. step_tells r input reading (input_tells r input reading h);
  on_tick = λ r reading a. step_links r reading a;
}
