-- The log of a replica after a step: the records of the step follow those before.
use Rattle.std.proofs.Common.{◌≡◌, ℕ, ◌-◌, ◌==◌, not, nat_le, Bool, true, false, List, [], ◌∷◌, ◌++◌, length, take, drop, Option, None, Some, refl, ap, ◌∙◌}
use Rattle.std.specs.Prelude.{◌&&◌, fold}
use Rattle.std.specs.List.{enumerate_from, range_with_len}
use Rattle.std.specs.Option.{option_map_or}
use Rattle.crsm_base.specs.Limits.{most_again}
use Rattle.crsm_base.specs.Order.{ballot_lt, ballot_eq}
use Rattle.crsm_spec.specs.Choice.{when◌then◌otherwise◌}
use Rattle.crsm_spec.specs.Clock.{u64_max}
use Rattle.crsm_spec.specs.Paxos.{majority}
use Rattle.crsm_mpspec.specs.declared.rec.MpRec.{MpRec}
use Rattle.crsm_mpspec.specs.declared.message.MpMessage.{MpMessage}
use Rattle.crsm_mpspec.specs.declared.input.MpInput.{MpInput}
use Rattle.crsm_mpspec.specs.declared.line.MpLine.{MpLine}
use Rattle.crsm_mpspec.specs.Types.{Ballot, Command, Value}
use Rattle.crsm_mpspec.specs.Log.{Log, promised, accepted_at, is_chosen, executed}
use Rattle.crsm_mpspec.specs.Replica.{Replica, Report, Note, Waiting, others, has_reported}
use Rattle.crsm_mpspec.specs.Draft.{Draft, begun, keep_as, keep, send, send_to_each, send_to_others, reply, noting, count_vote, await}
use Rattle.crsm_mpspec.specs.Deciding.{choose, choose_accepted, is_voted, choose_voted, propose_as, propose, refuse, submit, take_request, on_request, has_accepted, on_acc, counts, take_vote, on_accd}
use Rattle.crsm_mpspec.specs.Electing.{chosen_among, next_slot, reported_at, choose_reported, propose_reported, lead, lead_by, lead_at_majority, ask, on_lead, on_prep, take_report, on_prom, on_no}
use Rattle.crsm_mpspec.specs.Step.{teach, on_ask, unreported, open_slots, unvoted, propose_again, renew, on_tick, on_message, on_input, answer, answer_each, replies, step}
use Rattle.crsm_mpledger.specs.Sound.{with_records}

with_one : (log : Log) (xs : List MpRec) (x : MpRec) → with_records log (xs ++ x ∷ []) ≡ x ∷ with_records log xs
with_one log [] x = refl
with_one log (y ∷ ys) x = with_one (y ∷ log) ys x

module _ (base : Log) where
  -- the records of the step in progress follow those of the log before
  pub record Grows (x : Draft) : Type 0 where
    pub log : x.replica.log ≡ with_records base x.batch

  -- ---- the single things

  keep_as_grows : (line : MpLine) (rec : MpRec) (x : Draft) → Grows x → Grows (keep_as line rec x)
  unfolding keep_as
  keep_as_grows line rec x h = record { log = ap (λ (l : Log). rec ∷ l) h.log ∙ (let e = with_one base x.batch rec in cc) }

  keep_grows : (rec : MpRec) (x : Draft) → Grows x → Grows (keep rec x)
  unfolding keep
  keep_grows rec x h = keep_as_grows _ rec x h

  send_grows : (m : MpMessage) (x : Draft) (k : ℕ) → Grows x → Grows (send m x k)
  unfolding send
  send_grows m x k h = record { log = h.log }

  each_grows : (ks : List ℕ) (m : MpMessage) (x : Draft) → Grows x → Grows (send_to_each ks m x)
  unfolding send_to_each
  each_grows [] m x h = h
  each_grows (k ∷ ks) m x h = each_grows ks m (send m x k) (send_grows m x k h)

  others_grow : (m : MpMessage) (x : Draft) → Grows x → Grows (send_to_others m x)
  unfolding send_to_others
  others_grow m x h = each_grows (others x.replica) m x h

  reply_grows : (line : MpLine) (x : Draft) → Grows x → Grows (reply line x)
  unfolding reply
  reply_grows line x h = record { log = h.log }

  noting_grows : (note : Note) (x : Draft) → Grows x → Grows (noting note x)
  unfolding noting
  noting_grows note x h = record { log = h.log }

  vote_grows : (slot k : ℕ) (x : Draft) → Grows x → Grows (count_vote slot k x)
  unfolding count_vote
  vote_grows slot k x h = noting_grows _ x h

  await_grows : (slot : ℕ) (c : Command) (x : Draft) → Grows x → Grows (await slot c x)
  unfolding await
  await_grows slot c x h = record { log = h.log }

  either_grows : (b : Bool) (x y : Draft) → Grows x → Grows y → Grows (when b then x otherwise y)
  unfolding when◌then◌otherwise◌
  either_grows true x y h i = h
  either_grows false x y h i = i

  -- ---- deciding

  choose_grows : (slot : ℕ) (v : Value) (x : Draft) → Grows x → Grows (choose slot v x)
  unfolding choose
  choose_grows slot v x h = either_grows (is_chosen slot x.replica.log) x _ h (keep_grows _ x h)

  accepted_grows : (slot : ℕ) (a : Option (Ballot × Value)) (x : Draft) → Grows x → Grows (choose_accepted slot a x)
  unfolding choose_accepted
  accepted_grows slot None x h = h
  accepted_grows slot (Some a) x h = others_grow _ _ (keep_grows _ x h)

  voted_grows : (slot : ℕ) (x : Draft) → Grows x → Grows (choose_voted slot x)
  unfolding choose_voted
  voted_grows slot x h = either_grows (is_voted slot x.replica) _ x (accepted_grows slot (accepted_at slot x.replica.log) x h) h

  propose_as_grows : (line : MpLine) (b : Ballot) (slot : ℕ) (v : Value) (x : Draft) → Grows x → Grows (propose_as line b slot v x)
  unfolding propose_as
  propose_as_grows line b slot v x h = voted_grows slot _ (others_grow _ _ (vote_grows slot _ _ (keep_as_grows line _ x h)))

  propose_grows : (b : Ballot) (slot : ℕ) (v : Value) (x : Draft) → Grows x → Grows (propose b slot v x)
  unfolding propose
  propose_grows b slot v x h = propose_as_grows _ b slot v x h

  refuse_grows : (code : ℕ) (c : Command) (x : Draft) → Grows x → Grows (refuse code c x)
  unfolding refuse
  refuse_grows code c x h = reply_grows _ x h

  submit_grows : (b : Ballot) (slot : ℕ) (c : Command) (x : Draft) → Grows x → Grows (submit b slot c x)
  unfolding submit
  submit_grows b slot c x h = propose_as_grows _ b slot (Some c) _ (await_grows slot c x h)

  request_grows : (c : Command) (note : Note) (x : Draft) → Grows x → Grows (take_request c note x)
  unfolding take_request
  request_grows c Note.Idle x h = refuse_grows 1 c x h
  request_grows c (Note.Asking b start reports) x h = refuse_grows 1 c x h
  request_grows c (Note.Leading b start next reports votes) x h =
      either_grows (not (ballot_eq b (promised x.replica.log))) _ _ (refuse_grows 1 c x h)
      (either_grows (next == u64_max) _ _ (refuse_grows 5 c x h) (submit_grows b next c _ (noting_grows _ x h)))

  on_acc_grows : (from : ℕ) (b : Ballot) (slot : ℕ) (v : Value) (x : Draft) → Grows x → Grows (on_acc from b slot v x)
  unfolding on_acc
  on_acc_grows from b slot v x h =
      either_grows (ballot_lt b (promised x.replica.log)) _ _ (send_grows _ x from h)
      (send_grows _ _ from (either_grows (has_accepted b slot x.replica.log) x _ h (keep_grows _ x h)))

  vote_taken_grows : (from : ℕ) (b : Ballot) (slot : ℕ) (note : Note) (x : Draft) → Grows x → Grows (take_vote from b slot note x)
  unfolding take_vote
  vote_taken_grows from b slot Note.Idle x h = h
  vote_taken_grows from b slot (Note.Asking a start reports) x h = h
  vote_taken_grows from b slot (Note.Leading a start next reports votes) x h =
      either_grows (ballot_eq a b && counts slot from votes x.replica) _ x (voted_grows slot _ (vote_grows slot from x h)) h

  -- ---- electing

  reported_grow : (cs : List (ℕ × Value)) (x : Draft) → Grows x → Grows (fold choose_reported x cs)
  unfolding choose_reported
  reported_grow [] x h = h
  reported_grow (c ∷ cs) x h = reported_grow cs (choose c.0 c.1 x) (choose_grows c.0 c.1 x h)

  proposed_grow : (b : Ballot) (reports : List Report) (slots : List ℕ) (x : Draft) → Grows x → Grows (fold (propose_reported b reports) x slots)
  unfolding propose_reported
  proposed_grow b reports [] x h = h
  proposed_grow b reports (slot ∷ slots) x h =
      proposed_grow b reports slots _ (either_grows (is_chosen slot x.replica.log) x _ h (propose_grows b slot (reported_at slot reports) x h))

  lead_grows : (b : Ballot) (start : ℕ) (reports : List Report) (x : Draft) → Grows x → Grows (lead b start reports x)
  unfolding lead
  lead_grows b start reports x h =
      proposed_grow b reports (range_with_len start (next_slot start reports - start)) _ (noting_grows _ _ (reported_grow (chosen_among reports) x h))

  lead_by_grows : (note : Note) (x : Draft) → Grows x → Grows (lead_by note x)
  unfolding lead_by
  lead_by_grows Note.Idle x h = h
  lead_by_grows (Note.Asking b start reports) x h = either_grows (nat_le (majority x.replica.n) (length reports)) _ x (lead_grows b start reports x h) h
  lead_by_grows (Note.Leading b start next reports votes) x h = h

  majority_grows : (x : Draft) → Grows x → Grows (lead_at_majority x)
  unfolding lead_at_majority
  majority_grows x h = lead_by_grows x.replica.note x h

  ask_grows : (b : Ballot) (x : Draft) → Grows x → Grows (ask b x)
  unfolding ask
  ask_grows b x h = majority_grows _ (others_grow _ _ (noting_grows _ _ (keep_grows (MpRec.Promise b) x h)))

  on_lead_grows : (x : Draft) → Grows x → Grows (on_lead x)
  unfolding on_lead
  on_lead_grows x h = either_grows ((promised x.replica.log).round == u64_max) _ _ (noting_grows _ x h) (ask_grows _ _ (noting_grows _ x h))

  on_prep_grows : (from : ℕ) (b : Ballot) (start : ℕ) (x : Draft) → Grows x → Grows (on_prep from b start x)
  unfolding on_prep
  on_prep_grows from b start x h =
      either_grows (ballot_lt b (promised x.replica.log)) _ _ (send_grows _ x from h)
      (send_grows _ _ from (either_grows (ballot_lt (promised x.replica.log) b) _ x (keep_grows (MpRec.Promise b) x h) h))

  report_grows : (b : Ballot) (r : Report) (note : Note) (x : Draft) → Grows x → Grows (take_report b r note x)
  unfolding take_report
  report_grows b r Note.Idle x h = h
  report_grows b r (Note.Asking a start reports) x h =
      either_grows (ballot_eq a b && not (has_reported reports r.from)) _ x (majority_grows _ (noting_grows _ x h)) h
  report_grows b r (Note.Leading a start next reports votes) x h = h

  -- ---- asking for more

  taught_grow : (from : ℕ) (ps : List (ℕ × Value)) (x : Draft) → Grows x → Grows (fold (teach from) x ps)
  unfolding teach
  taught_grow from [] x h = h
  taught_grow from (p ∷ ps) x h = taught_grow from ps _ (send_grows (MpMessage.Learn p.0 p.1) x from h)

  again_grow : (b : Ballot) (votes : List (ℕ × ℕ)) (slots : List ℕ) (x : Draft) → Grows x → Grows (fold (propose_again b votes) x slots)
  unfolding propose_again
  again_grow b votes [] x h = h
  again_grow b votes (slot ∷ slots) x h = again_grow b votes slots _ (one (accepted_at slot x.replica.log))
    where
      one : (a : Option (Ballot × Value)) → Grows (option_map_or (λ a. send_to_each (unvoted slot votes x.replica) (MpMessage.Acc b slot a.1) x) a x)
      one None = h
      one (Some a) = each_grows (unvoted slot votes x.replica) _ x h

  renew_grows : (note : Note) (x : Draft) → Grows x → Grows (renew note x)
  unfolding renew
  renew_grows Note.Idle x h = h
  renew_grows (Note.Asking b start reports) x h = each_grows (unreported reports x.replica) _ x h
  renew_grows (Note.Leading b start next reports votes) x h = again_grow b votes (open_slots votes x.replica) x h

  -- ---- any input

  message_grows : (from : ℕ) (m : MpMessage) (x : Draft) → Grows x → Grows (on_message from m x)
  unfolding on_message on_prom on_no on_accd on_ask
  message_grows from (MpMessage.Prep b start) x h = on_prep_grows from b start x h
  message_grows from (MpMessage.Prom b accepted chosen) x h = report_grows b _ x.replica.note x h
  message_grows from (MpMessage.No p) x h = noting_grows _ x h
  message_grows from (MpMessage.Acc b slot v) x h = on_acc_grows from b slot v x h
  message_grows from (MpMessage.Accd b slot) x h = vote_taken_grows from b slot x.replica.note x h
  message_grows from (MpMessage.Learn slot v) x h = choose_grows slot v x h
  message_grows from (MpMessage.Ask start) x h = taught_grow from (take most_again (drop start (enumerate_from 0 (executed x.replica.log)))) x h

  input_grows : (input : MpInput) (from : ℕ) (x : Draft) → Grows x → Grows (on_input input from x)
  unfolding on_input on_request on_tick
  input_grows (MpInput.Request c) from x h = request_grows c x.replica.note x h
  input_grows (MpInput.Message m) from x h = message_grows from m x h
  input_grows MpInput.Tick from x h = others_grow _ _ (renew_grows x.replica.note x h)
  input_grows MpInput.Lead from x h = on_lead_grows x h

  -- ---- replies

  answer_grows : (w : Waiting) (v : Option Value) (x : Draft) → Grows x → Grows (answer w v x)
  unfolding answer
  answer_grows w None x h = record { log = h.log }
  answer_grows w (Some v) x h = reply_grows _ x h

  answers_grow : (ws : List Waiting) (x : Draft) → Grows x → Grows (answer_each ws x)
  unfolding answer_each
  answers_grow [] x h = h
  answers_grow (w ∷ ws) x h = answers_grow ws _ (answer_grows w _ x h)

  replies_grow : (x : Draft) → Grows x → Grows (replies x)
  unfolding replies
  replies_grow x h = answers_grow x.replica.waiting _ (record { log = h.log })

-- the records of a step are behind those of the log before
pub step_grows : (r : Replica) (input : MpInput) (from : ℕ) → (step r input from).replica.log ≡ with_records r.log (step r input from).batch
unfolding step begun
step_grows r input from = (replies_grow r.log _ (input_grows r.log input from (begun r) (record { log = refl }))).log
