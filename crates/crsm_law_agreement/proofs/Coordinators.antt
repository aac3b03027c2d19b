-- The relation of a coordinator to the ballots of its instance, and that it stays while logs grow and offers are made.
use Rattle.std.proofs.Common.{◌≡◌, ℕ, ◌+◌, List, [], ◌∷◌, ◌∙◌, ap, inr}
use Rattle.crsm_spec.specs.Types.{Ballot, Decision, Rec}
use Rattle.crsm_spec.specs.Lists.{Among}
use Rattle.crsm_spec.specs.Log.{Log, known}
use Rattle.crsm_spec.specs.Paxos.{Answer}
use Rattle.crsm_spec.specs.Replica.{Coordinator}
use Rattle.crsm_fact_log.specs.Logs.{Extends, same, more}
use Rattle.crsm_fact_log.proofs.Logged.{extends_trans}
use Rattle.crsm_law_collection.specs.Paging.{AreParts}
use Rattle.crsm_law_collection.proofs.Pages.{pages_stay}
use Rattle.crsm_law_agreement.specs.Ballots.{Offer, IsOffered, IsComplete, HasPromised, NamesOffered, IsSound, AreSound, IsChosen}

-- ---- coordinators

-- Replica k, which knows epoch e by this log, asks for ballot b: it has promised the ballot, and nothing is offered in
-- it yet.
pub record IsAsking (n : ℕ) (logs : ℕ → Log) (offers : List Offer) (k e : ℕ) (log : Log) (b : Ballot) (own : Decision) (answers : List (Answer Decision)) : Type 0 where
  pub complete : IsComplete n logs (e + 1) own
  pub by : b.by ≡ k
  pub on_record : Among log (Rec.Promise (e + 1) b)
  pub none_yet : (o : Offer) → Among offers o → o.instance ≡ e + 1 → o.ballot ≡ b → ⊥
  pub promised : (a : Answer Decision) → Among answers a → HasPromised logs (e + 1) b a
  pub named : (a : Answer Decision) → Among answers a → NamesOffered offers (e + 1) a

-- its ballot offers the value, which these have accepted
pub record IsProposing (n : ℕ) (logs : ℕ → Log) (offers : List Offer) (e : ℕ) (b : Ballot) (own value : Decision) (acceptors : List ℕ) : Type 0 where
  pub complete : IsComplete n logs (e + 1) own
  pub offered : IsOffered offers (e + 1) b value
  pub voted : (j : ℕ) → Among acceptors j → Among (logs j) (Rec.Accept (e + 1) b value)

abbrev pub CoordinatorHolds : ℕ → (ℕ → Log) → List Offer → ℕ → ℕ → Log → Coordinator → Type 0
CoordinatorHolds n logs offers k e log Coordinator.Idle = Unit {0}
CoordinatorHolds n logs offers k e log (Coordinator.Collecting ms pages) = AreParts e logs pages
CoordinatorHolds n logs offers k e log (Coordinator.Preparing b own answers) = IsAsking n logs offers k e log b own answers
CoordinatorHolds n logs offers k e log (Coordinator.Proposing b own value acceptors) = IsProposing n logs offers e b own value acceptors
CoordinatorHolds n logs offers k e log (Coordinator.Preempted own seen) = IsComplete n logs (e + 1) own

-- ---- logs go on

pub extends_among : {a b : Log} → Extends a b → (rec : Rec) → Among a rec → Among b rec
extends_among same rec h = h
extends_among (more r e) rec h = inr (extends_among e rec h)

module _ (n : ℕ) (logs later : ℕ → Log) (grows : (k : ℕ) → Extends (logs k) (later k)) where
  pub complete_on : (i : ℕ) (d : Decision) → IsComplete n logs i d → IsComplete n later i d
  complete_on i d c = record {
    by = c.by;
    log = c.log;
    earlier = extends_trans c.earlier (grows c.by);
    next = c.next;
    members = c.members;
    named = c.named;
    pages = c.pages;
    parts = pages_stay (known c.log) logs later c.pages grows c.parts;
    many = c.many;
    is = c.is;
    names = c.names;
  }

  pub promised_on : (i : ℕ) (b : Ballot) (a : Answer Decision) → HasPromised logs i b a → HasPromised later i b a
  promised_on i b a p = record { log = p.log; earlier = extends_trans p.earlier (grows a.replica); next = p.next; has_promised = p.has_promised; had_accepted = p.had_accepted }

  sound_on : (os : List Offer) (o : Offer) → IsSound n logs os o → IsSound n later os o
  sound_on os o s = record {
    log = s.log;
    was = extends_trans s.was (grows o.ballot.by);
    next = s.next;
    only = s.only;
    complete = complete_on o.instance o.own s.complete;
    many = s.many;
    promised = λ a h. promised_on o.instance o.ballot a (s.promised a h);
    named = s.named;
  }

  pub sounds_on : (os : List Offer) → AreSound n logs os → AreSound n later os
  sounds_on [] s = tt
  sounds_on (o ∷ os) s = (sound_on os o s.0, sounds_on os s.1)

  pub chosen_on : (d : Decision) → IsChosen n logs d → IsChosen n later d
  chosen_on d c = record {
    by = c.by;
    log = c.log;
    earlier = extends_trans c.earlier (grows c.by);
    next = c.next;
    ballot = c.ballot;
    voters = c.voters;
    many = c.many;
    accepted = λ k h. extends_among (grows k) (Rec.Accept d.epoch c.ballot d) (c.accepted k h);
  }

-- ---- more is offered

module _ (offers more_offers : List Offer) (sub : (o : Offer) → Among offers o → Among more_offers o) where
  pub offered_more : (i : ℕ) (b : Ballot) (d : Decision) → IsOffered offers i b d → IsOffered more_offers i b d
  offered_more i b d t = record { offer = t.offer; among = sub t.offer t.among; instance = t.instance; ballot = t.ballot; value = t.value }

  pub names_more : (i : ℕ) (a : Answer Decision) → NamesOffered offers i a → NamesOffered more_offers i a
  names_more i a h b d e = offered_more i b d (h b d e)

  -- A coordinator stays, where nothing more is offered in k's ballots.
  pub coordinator_on : (n : ℕ) (logs later : ℕ → Log) → ((k : ℕ) → Extends (logs k) (later k)) → (k : ℕ) → ((o : Offer) → Among more_offers o → o.ballot.by ≡ k → Among offers o) → (e : ℕ) (log : Log) (coordinator : Coordinator) →
      CoordinatorHolds n logs offers k e log coordinator → CoordinatorHolds n later more_offers k e log coordinator
  coordinator_on n logs later grows k back e log Coordinator.Idle g = tt
  coordinator_on n logs later grows k back e log (Coordinator.Collecting ms pages) g = pages_stay e logs later pages grows g
  coordinator_on n logs later grows k back e log (Coordinator.Preparing b own answers) g = record {
    complete = complete_on n logs later grows (e + 1) own g.complete;
    by = g.by;
    on_record = g.on_record;
    none_yet = λ o h at is. g.none_yet o (back o h (ap (λ (c : Ballot). c.by) is ∙ g.by)) at is;
    promised = λ a h. promised_on n logs later grows (e + 1) b a (g.promised a h);
    named = λ a h. names_more (e + 1) a (g.named a h);
  }
  coordinator_on n logs later grows k back e log (Coordinator.Proposing b own value acceptors) g = record {
    complete = complete_on n logs later grows (e + 1) own g.complete;
    offered = offered_more (e + 1) b value g.offered;
    voted = λ j h. extends_among (grows j) (Rec.Accept (e + 1) b value) (g.voted j h);
  }
  coordinator_on n logs later grows k back e log (Coordinator.Preempted own seen) g = complete_on n logs later grows (e + 1) own g

-- ---- one more record

pub coordinator_keeps : (n : ℕ) (logs : ℕ → Log) (offers : List Offer) (k e : ℕ) (log : Log) (rec : Rec) (coordinator : Coordinator) → CoordinatorHolds n logs offers k e log coordinator → CoordinatorHolds n logs offers k e (rec ∷ log) coordinator
coordinator_keeps n logs offers k e log rec Coordinator.Idle g = g
coordinator_keeps n logs offers k e log rec (Coordinator.Collecting ms pages) g = g
coordinator_keeps n logs offers k e log rec (Coordinator.Preparing b own answers) g =
    record { complete = g.complete; by = g.by; on_record = inr g.on_record; none_yet = g.none_yet; promised = g.promised; named = g.named }
coordinator_keeps n logs offers k e log rec (Coordinator.Proposing b own value acceptors) g = g
coordinator_keeps n logs offers k e log rec (Coordinator.Preempted own seen) g = g
