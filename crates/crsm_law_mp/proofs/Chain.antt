-- A step is a sequence of changes of few kinds: what each of them keeps, the step keeps.
use Rattle.std.proofs.Common.{◌≡◌, ℕ, ◌+◌, ◌-◌, Bool, true, false, not, ◌&&◌, ◌==◌, leb, List, [], ◌∷◌, length, take, drop, refl, Some, None}
use Rattle.std.specs.List.{fold, range_with_len, enumerate_from}
use Rattle.std.specs.Option.{option_map_or}
use Rattle.crsm_base.specs.Limits.{most_again}
use Rattle.crsm_base.specs.Order.{ballot_lt, ballot_eq}
use Rattle.crsm_spec.specs.Choice.{when◌then◌otherwise◌}
use Rattle.crsm_spec.specs.Clock.{u64_max}
use Rattle.crsm_spec.specs.Paxos.{Held, majority}
use Rattle.crsm_safety.proofs.Paxos.Basics.{not_true}
use Rattle.crsm_mpspec.specs.declared.MpRec.{MpRec}
use Rattle.crsm_mpspec.specs.declared.MpMessage.{MpMessage}
use Rattle.crsm_mpspec.specs.declared.MpAccepted.{MpAccepted}
use Rattle.crsm_mpspec.specs.declared.MpChosen.{MpChosen}
use Rattle.crsm_mpspec.specs.declared.MpInput.{MpInput}
use Rattle.crsm_mpspec.specs.declared.MpLine.{MpLine}
use Rattle.crsm_mpspec.specs.Types.{Ballot, Command, Value}
use Rattle.crsm_mpspec.specs.Log.{promised, accepted_at, accepted_from, chosen_from, is_chosen, executed}
use Rattle.crsm_mpspec.specs.Replica.{Report, Note, others, without_lead, refused_by, with_report, has_reported, voters_at, votes_of, with_vote}
use Rattle.crsm_mpspec.specs.Draft.{Draft, keep_as, keep, line_of, send, send_to_each, send_to_others, noting, count_vote, await}
use Rattle.crsm_mpspec.specs.Deciding.{choose, choose_accepted, is_voted, choose_voted, propose_as, propose, refuse, submit, take_request, on_request, has_accepted, on_acc, counts, take_vote, on_accd}
use Rattle.crsm_mpspec.specs.Electing.{report, reported_at, chosen_among, next_slot, choose_reported, propose_reported, lead, lead_by, lead_at_majority, ask, on_lead, on_prep, take_report, on_prom, on_no}
use Rattle.crsm_mpspec.specs.Step.{teach, on_ask, open_slots, unreported, unvoted, propose_again, renew, on_tick, on_message, on_input}

-- a choice is kept only of a slot that is not known
abbrev pub IsNew : MpRec → Draft → Type 0
IsNew (MpRec.Choose s v) x = is_chosen s x.replica.log ≡ false
IsNew _ x = Unit {0}

-- the command of a request is one of these
abbrev pub AsksFor : (Command → Type 0) → MpInput → Type 0
AsksFor Requested (MpInput.Request c) = Requested c
AsksFor Requested _ = Unit {0}

module _ (P : Draft → Type 0) (Requested : Command → Type 0)
    (sends : (x : Draft) (m : MpMessage) (to : ℕ) → P x → P (send m x to))
    (notes : (x : Draft) (note : Note) → P x → P (noting note x))
    (keeps : (x : Draft) (rec : MpRec) → IsNew rec x → P x → P (keep rec x))
    (refuses : (x : Draft) (code : ℕ) (c : Command) → P x → P (refuse code c x))
    (submits : (x : Draft) (b : Ballot) (s : ℕ) (c : Command) → Requested c → P x →
    P (keep_as (MpLine.Submit x.replica.me s b.round b.by c.client c.number) (MpRec.Accept s b (Some c)) (await s c x))) where
  each : (ks : List ℕ) (m : MpMessage) (x : Draft) → P x → P (send_to_each ks m x)
  unfolding send_to_each
  each [] m x p = p
  each (k ∷ ks) m x p = each ks m (send m x k) (sends x m k p)

  all : (m : MpMessage) (x : Draft) → P x → P (send_to_others m x)
  unfolding send_to_others
  all m x p = each (others x.replica) m x p

  -- ---- deciding

  chosen : (s : ℕ) (v : Value) (x : Draft) → P x → P (choose s v x)
  unfolding choose when◌then◌otherwise◌
  chosen s v x p = go (is_chosen s x.replica.log) refl
    where
      go : (t : Bool) → is_chosen s x.replica.log ≡ t → P (when t then x otherwise keep (MpRec.Choose s v) x)
      go true e = p
      go false e = keeps x (MpRec.Choose s v) e p

  voted : (s : ℕ) (x : Draft) → P x → P (choose_voted s x)
  unfolding choose_voted is_voted when◌then◌otherwise◌ choose_accepted
  voted s x p = go (leb (majority x.replica.n) (length (voters_at s (votes_of x.replica.note)))) (not (is_chosen s x.replica.log)) refl (accepted_at s x.replica.log)
    where
      go : (t u : Bool) → not (is_chosen s x.replica.log) ≡ u → (o : Held Value) → P (when t && u then choose_accepted s o x otherwise x)
      go true true e None = p
      go true true e (Some v) = all (MpMessage.Learn s v.1) (keep (MpRec.Choose s v.1) x) (keeps x (MpRec.Choose s v.1) (not_true _ e) p)
      go true false e o = p
      go false u e o = p

  proposed : (line : MpLine) (b : Ballot) (s : ℕ) (v : Value) (x : Draft) → P (keep_as line (MpRec.Accept s b v) x) → P (propose_as line b s v x)
  unfolding propose_as count_vote
  proposed line b s v x p =
      let y : Draft = keep_as line (MpRec.Accept s b v) x in
      let z : Draft = noting (with_vote s x.replica.me y.replica.note) y in
      voted s (send_to_others (MpMessage.Acc b s v) z) (all (MpMessage.Acc b s v) z (notes y (with_vote s x.replica.me y.replica.note) p))

  requested : (c : Command) → Requested c → (x : Draft) → P x → P (on_request c x)
  unfolding on_request take_request when◌then◌otherwise◌ submit noting
  requested c ok x p = go x.replica.note
    where
      go : (note : Note) → P (take_request c note x)
      go Note.Idle = refuses x 1 c p
      go (Note.Asking b start reports) = refuses x 1 c p
      go (Note.Leading b start next reports votes) = by_tests (not (ballot_eq b (promised x.replica.log))) (next == u64_max)
        where
          y : Draft
          y = noting (Note.Leading b start (next + 1) reports votes) x

          by_tests : (t u : Bool) → P (when t then refuse 1 c x otherwise when u then refuse 5 c x otherwise submit b next c y)
          by_tests true u = refuses x 1 c p
          by_tests false true = refuses x 5 c p
          by_tests false false =
              proposed (MpLine.Submit y.replica.me next b.round b.by c.client c.number) b next (Some c) (await next c y)
              (submits y b next c ok (notes x (Note.Leading b start (next + 1) reports votes) p))

  accepted : (from : ℕ) (b : Ballot) (s : ℕ) (v : Value) (x : Draft) → P x → P (on_acc from b s v x)
  unfolding on_acc when◌then◌otherwise◌
  accepted from b s v x p = go (ballot_lt b (promised x.replica.log)) (has_accepted b s x.replica.log)
    where
      go : (t u : Bool) → P (when t then send (MpMessage.No (promised x.replica.log)) x from otherwise send (MpMessage.Accd b s) (when u then x otherwise keep (MpRec.Accept s b v) x) from)
      go true u = sends x (MpMessage.No (promised x.replica.log)) from p
      go false true = sends x (MpMessage.Accd b s) from p
      go false false = sends (keep (MpRec.Accept s b v) x) (MpMessage.Accd b s) from (keeps x (MpRec.Accept s b v) tt p)

  counted : (from : ℕ) (b : Ballot) (s : ℕ) (x : Draft) → P x → P (on_accd from b s x)
  unfolding on_accd take_vote when◌then◌otherwise◌ count_vote
  counted from b s x p = go x.replica.note
    where
      go : (note : Note) → P (take_vote from b s note x)
      go Note.Idle = p
      go (Note.Asking c start reports) = p
      go (Note.Leading c start next reports votes) = by_test (ballot_eq c b && counts s from votes x.replica)
        where
          by_test : (t : Bool) → P (when t then choose_voted s (noting (with_vote s from x.replica.note) x) otherwise x)
          by_test true = voted s (noting (with_vote s from x.replica.note) x) (notes x (with_vote s from x.replica.note) p)
          by_test false = p

  -- ---- electing

  chosen_each : (cs : List (ℕ × Value)) (x : Draft) → P x → P (fold choose_reported x cs)
  unfolding choose_reported
  chosen_each [] x p = p
  chosen_each (c ∷ cs) x p = chosen_each cs (choose c.0 c.1 x) (chosen c.0 c.1 x p)

  proposed_each : (b : Ballot) (reports : List Report) (ss : List ℕ) (x : Draft) → P x → P (fold (propose_reported b reports) x ss)
  unfolding propose_reported when◌then◌otherwise◌ propose keep line_of
  proposed_each b reports [] x p = p
  proposed_each b reports (s ∷ ss) x p = go (is_chosen s x.replica.log) (λ y q. proposed_each b reports ss y q)
    where
      made : Draft
      made = propose b s (reported_at s reports) x

      go : (t : Bool) → ((y : Draft) → P y → P (fold (propose_reported b reports) y ss)) → P (fold (propose_reported b reports) (when t then x otherwise made) ss)
      go true rest = rest x p
      go false rest = rest made (proposed (MpLine.Accept x.replica.me s b.round b.by) b s (reported_at s reports) x (keeps x (MpRec.Accept s b (reported_at s reports)) tt p))

  led : (note : Note) (x : Draft) → P x → P (lead_by note x)
  unfolding lead_by lead when◌then◌otherwise◌
  led Note.Idle x p = p
  led (Note.Leading b start next reports votes) x p = p
  led (Note.Asking b start reports) x p = go (leb (majority x.replica.n) (length reports))
    where
      go : (t : Bool) → P (when t then lead b start reports x otherwise x)
      go true =
          let next : ℕ = next_slot start reports in
          let y : Draft = fold choose_reported x (chosen_among reports) in
          proposed_each b reports (range_with_len start (next - start)) (noting (Note.Leading b start next reports []) y)
          (notes y (Note.Leading b start next reports []) (chosen_each (chosen_among reports) x p))
      go false = p

  asked : (b : Ballot) (x : Draft) → P x → P (ask b x)
  unfolding ask lead_at_majority
  asked b x p =
      let y : Draft = keep (MpRec.Promise b) x in
      let start : ℕ = length (executed y.replica.log) in
      let note : Note = Note.Asking b start (report start y.replica ∷ []) in
      let z : Draft = send_to_others (MpMessage.Prep b start) (noting note y) in
      led z.replica.note z (all (MpMessage.Prep b start) (noting note y) (notes y note (keeps x (MpRec.Promise b) tt p)))

  wished : (x : Draft) → P x → P (on_lead x)
  unfolding on_lead when◌then◌otherwise◌
  wished x p = go ((promised x.replica.log).round == u64_max)
    where
      y : Draft
      y = noting (without_lead x.replica.note) x

      next : Ballot
      next = record { round = (promised x.replica.log).round + 1; by = x.replica.me }

      go : (t : Bool) → P (when t then y otherwise ask next y)
      go true = notes x (without_lead x.replica.note) p
      go false = asked next y (notes x (without_lead x.replica.note) p)

  prepared : (from : ℕ) (b : Ballot) (start : ℕ) (x : Draft) → P x → P (on_prep from b start x)
  unfolding on_prep when◌then◌otherwise◌
  prepared from b start x p = go (ballot_lt b (promised x.replica.log)) (ballot_lt (promised x.replica.log) b)
    where
      kept : (u : Bool) → P (when u then keep (MpRec.Promise b) x otherwise x)
      kept true = keeps x (MpRec.Promise b) tt p
      kept false = p

      tells : Draft → Draft
      tells y = send (MpMessage.Prom b (accepted_from start y.replica.log) (chosen_from start y.replica.log)) y from

      go : (t u : Bool) → P (when t then send (MpMessage.No (promised x.replica.log)) x from otherwise tells (when u then keep (MpRec.Promise b) x otherwise x))
      go true u = sends x (MpMessage.No (promised x.replica.log)) from p
      go false u = sends (when u then keep (MpRec.Promise b) x otherwise x) _ from (kept u)

  reported : (from : ℕ) (b : Ballot) (told : List MpAccepted) (known : List MpChosen) (x : Draft) → P x → P (on_prom from b told known x)
  unfolding on_prom take_report when◌then◌otherwise◌ lead_at_majority
  reported from b told known x p = go x.replica.note
    where
      y : Report
      y = record { from = from; accepted = told; chosen = known }

      go : (note : Note) → P (take_report b y note x)
      go Note.Idle = p
      go (Note.Leading c start next reports votes) = p
      go (Note.Asking c start reports) = by_test (ballot_eq c b && not (has_reported reports from))
        where
          z : Draft
          z = noting (Note.Asking c start (with_report y reports)) x

          by_test : (t : Bool) → P (when t then lead_by z.replica.note z otherwise x)
          by_test true = led z.replica.note z (notes x (Note.Asking c start (with_report y reports)) p)
          by_test false = p

  -- ---- ticks, and what is told

  taught : (from : ℕ) (ps : List (ℕ × Value)) (x : Draft) → P x → P (fold (teach from) x ps)
  unfolding teach
  taught from [] x p = p
  taught from (q ∷ ps) x p = taught from ps (send (MpMessage.Learn q.0 q.1) x from) (sends x (MpMessage.Learn q.0 q.1) from p)

  again : (b : Ballot) (votes : List (ℕ × ℕ)) (ss : List ℕ) (x : Draft) → P x → P (fold (propose_again b votes) x ss)
  unfolding propose_again
  again b votes [] x p = p
  again b votes (s ∷ ss) x p = go (accepted_at s x.replica.log) (λ y q. again b votes ss y q)
    where
      go : (o : Held Value) → ((y : Draft) → P y → P (fold (propose_again b votes) y ss)) →
          P (fold (propose_again b votes) (option_map_or (λ v. send_to_each (unvoted s votes x.replica) (MpMessage.Acc b s v.1) x) o x) ss)
      go None rest = rest x p
      go (Some v) rest = rest (send_to_each (unvoted s votes x.replica) (MpMessage.Acc b s v.1) x) (each (unvoted s votes x.replica) (MpMessage.Acc b s v.1) x p)

  renewed : (note : Note) (x : Draft) → P x → P (renew note x)
  unfolding renew
  renewed Note.Idle x p = p
  renewed (Note.Asking b start reports) x p = each (unreported reports x.replica) (MpMessage.Prep b start) x p
  renewed (Note.Leading b start next reports votes) x p = again b votes (open_slots votes x.replica) x p

  -- any input
  pub input_keeps : (input : MpInput) (from : ℕ) → AsksFor Requested input → (x : Draft) → P x → P (on_input input from x)
  unfolding on_input on_message on_tick on_ask on_no
  input_keeps (MpInput.Request c) from ok x p = requested c ok x p
  input_keeps (MpInput.Message (MpMessage.Prep b start)) from ok x p = prepared from b start x p
  input_keeps (MpInput.Message (MpMessage.Prom b told known)) from ok x p = reported from b told known x p
  input_keeps (MpInput.Message (MpMessage.No b)) from ok x p = notes x (refused_by b x.replica.note) p
  input_keeps (MpInput.Message (MpMessage.Acc b s v)) from ok x p = accepted from b s v x p
  input_keeps (MpInput.Message (MpMessage.Accd b s)) from ok x p = counted from b s x p
  input_keeps (MpInput.Message (MpMessage.Learn s v)) from ok x p = chosen s v x p
  input_keeps (MpInput.Message (MpMessage.Ask start)) from ok x p = taught from (take most_again (drop start (enumerate_from 0 (executed x.replica.log)))) x p
  input_keeps MpInput.Tick from ok x p = all (MpMessage.Ask (length (executed x.replica.log))) (renew x.replica.note x) (renewed x.replica.note x p)
  input_keeps MpInput.Lead from ok x p = wished x p
