-- A running replica when one part of it changes.
use Rattle.std.proofs.Common.{◌≡◌, ℕ, ◌<◌, ◌≤◌, true, refl, sym, ◌∙◌, ap, subst, arith, List, [], ◌∷◌, length, Option, Some, None, IfSome}
use Rattle.std.specs.Prelude.{Result, Ok, Err, IfOk}
use Rattle.crsm_base.specs.Order.{stamp_eq}
use Rattle.crsm_spec.specs.Types.{Stamp, InEpoch}
use Rattle.crsm_spec.specs.Log.{Log, active, unexecuted, last_stamp}
use Rattle.crsm_spec.specs.Clock.{issue}
use Rattle.crsm_spec.specs.Parts.{Piece}
use Rattle.crsm_spec.specs.Replica.{Replica, Coordinator, Waiting, members_of, other_members, last_issued, latest_from, frames_to}
use Rattle.crsm_spec.specs.Lists.{first_of}
use Rattle.crsm_spec.specs.Ready.{all_received}
use Rattle.crsm_commit.specs.Received.{LatestStands}
use Rattle.crsm_commit.specs.Pending.{PendingStands}
use Rattle.crsm_commit.specs.declared.latest.Latest.{Latest}
use Rattle.crsm_commit.specs.declared.pending.Pending.{Pending}
use Rattle.crsm_commit.proofs.Bits.{same_stamp}
use Rattle.crsm_phase.specs.Owed.{without}
use Rattle.crsm_replica_epoch.specs.Linked.{LinksStand, others_of}
use Rattle.crsm_replica_epoch.specs.EpochState.{EpochStands, EachFits, is_above}
use Rattle.crsm_replica_epoch.specs.declared.link.Link.{Link}
use Rattle.crsm_replica_epoch.specs.declared.links.Links.{Links}
use Rattle.crsm_replica_epoch.specs.declared.state.EpochState.{EpochState}
use Rattle.crsm_replica_epoch.proofs.Linking.{links_beside, with_taken, with_acked}
use Rattle.crsm_replica_epoch.proofs.Pushing.{with_pushed}
use Rattle.crsm_replica_epoch.proofs.Times.{received_more, from_one_more, issued_above, issued_at_it}

-- what it stands for does not depend on these
pub beside : (running : EpochState) (r : Replica) (parts : List Piece) (coordinator : Coordinator) (made : ℕ) (waiting : List Waiting) → EpochStands running r →
    EpochStands running (record r { parts = parts; coordinator = coordinator; made = made; waiting = waiting })
unfolding EpochStands last_issued all_received
beside running r parts coordinator made waiting s = record {
  fitting = s.fitting;
  clock = s.clock;
  latest = s.latest;
  from_one = s.from_one;
  owed = s.owed;
  links = links_beside running.links r r.log r.votes r.owed parts coordinator made waiting s.links;
  waiting = s.waiting;
}

-- each record of its log fits behind those before it
pub each_fits : (running : EpochState) (r : Replica) → EpochStands running r → EachFits r.me r.n r.log
unfolding EpochStands
each_fits running r s = s.fitting

-- other entries and votes
pub with_pending : (running : EpochState) (r : Replica) (pending : Pending) (log : Log) (votes : List (Stamp × ℕ)) → EpochStands running r → EachFits r.me r.n log →
    (active log ≡ true → PendingStands pending (is_above (last_stamp log)) (unexecuted log) votes) → EpochStands (record running { pending = pending }) (record r { log = log; votes = votes })
unfolding EpochStands last_issued all_received
with_pending running r pending log votes s fit w = record {
  fitting = fit;
  clock = s.clock;
  latest = s.latest;
  from_one = s.from_one;
  owed = s.owed;
  links = links_beside running.links r log votes r.owed r.parts r.coordinator r.made r.waiting s.links;
  waiting = w;
}

-- other debts
pub with_owed : (running : EpochState) (r : Replica) (owed owed' : List Stamp) → EpochStands running r → owed ≡ owed' → EpochStands (record running { owed = owed }) (record r { owed = owed' })
unfolding EpochStands last_issued all_received
with_owed running r owed owed' s e = record {
  fitting = s.fitting;
  clock = s.clock;
  latest = s.latest;
  from_one = s.from_one;
  owed = e;
  links = links_beside running.links r r.log r.votes owed' r.parts r.coordinator r.made r.waiting s.links;
  waiting = s.waiting;
}

-- other acknowledgements
pub with_acks : (running : EpochState) (r : Replica) (k next : ℕ) (links : Links) → EpochStands running r → LinksStand links (with_acked r k next) → EpochStands (record running { links = links }) (with_acked r k next)
unfolding EpochStands last_issued all_received
with_acks running r k next links s l = record { fitting = s.fitting; clock = s.clock; latest = s.latest; from_one = s.from_one; owed = s.owed; links = l; waiting = s.waiting }

-- one more frame and time
pub with_frame : (running : EpochState) (r : Replica) (k time : ℕ) (links : Links) (latest : Latest) → EpochStands running r → latest_from r.received k < time →
    LinksStand links (with_taken r k time) → ((received : List (ℕ × ℕ)) → LatestStands running.latest received → LatestStands latest ((k, time) ∷ received)) →
    EpochStands (record running { links = links; latest = latest }) (with_taken r k time)
unfolding EpochStands last_issued
with_frame running r k time links latest s above l received = record {
  fitting = s.fitting;
  clock = s.clock;
  latest = received_more latest r k time (k ∷ r.taken) (received (all_received r) s.latest);
  from_one = from_one_more r k time (k ∷ r.taken) (omega arith) s.from_one;
  owed = s.owed;
  links = l;
  waiting = s.waiting;
}

-- one more time issued, with what is pushed
pub with_issued : (running : EpochState) (r : Replica) (clock time : ℕ) (payload : InEpoch) (ks : List ℕ) (links : Links) (latest : Latest) → EpochStands running r → last_issued r < time → clock ≡ time →
    LinksStand links (with_pushed r time payload ks) → ((received : List (ℕ × ℕ)) → LatestStands running.latest received → LatestStands latest ((r.me, time) ∷ received)) →
    EpochStands (record running { clock = clock; links = links; latest = latest }) (with_pushed r time payload ks)
unfolding EpochStands last_issued all_received first_of
with_issued running r clock time payload ks links latest s above is l received = record {
  fitting = s.fitting;
  clock = is;
  latest = received (all_received r) s.latest;
  from_one = (omega arith, s.from_one);
  owed = s.owed;
  links = l;
  waiting = s.waiting;
}

-- ---- its parts

pub the_links : (running : EpochState) (r : Replica) → EpochStands running r → LinksStand running.links r
unfolding EpochStands
the_links running r s = s.links

pub the_waiting : (running : EpochState) (r : Replica) → EpochStands running r → active r.log ≡ true → PendingStands running.pending (is_above (last_stamp r.log)) (unexecuted r.log) r.votes
unfolding EpochStands
the_waiting running r s = s.waiting

-- ---- results

pub if_ok : {X E : Type 0} {P Q : X → Type 0} (result : Result X E) → IfOk result P → ((x : X) → P x → Q x) → IfOk result Q
if_ok (Ok x) p more = more x p
if_ok (Err e) p more = tt

-- ---- debts

pub the_debts : (running : EpochState) (r : Replica) → EpochStands running r → running.owed ≡ r.owed
unfolding EpochStands
the_debts running r s = s.owed

-- the first of some
pub first_is : (owed : List Stamp) (s : Stamp) (ss : List Stamp) → owed ≡ s ∷ ss → first_of owed ≡ Some s
unfolding first_of
first_is [] s ss e = absurd (cc)
first_is (t ∷ ts) s ss e = let same : t ≡ s = cc in ap (λ u. Some u) same

-- it is paid
pub first_paid : (owed : List Stamp) (first s : Stamp) (ss : List Stamp) → owed ≡ s ∷ ss → first_of owed ≡ Some first → without first owed ≡ ss
first_paid owed first s ss e f =
    let same : first ≡ s = cc (sym f ∙ first_is owed s ss e) in
    let test : stamp_eq s first ≡ true = ap (stamp_eq s) same ∙ same_stamp s in
    ap (without first) e ∙ rw test refl

-- ---- a time is issued

pub issued_last : (running : EpochState) (r : Replica) → EpochStands running r → running.clock ≡ last_issued r
unfolding EpochStands
issued_last running r s = s.clock

if_some : {X : Type 0} (P : X → Type 0) (o : Option X) (x : X) → o ≡ Some x → IfSome o P → P x
if_some P None x e p = absurd (cc)
if_some P (Some y) x e p = let same : y ≡ x = cc in subst P same p

pub pushed_at : (running : EpochState) (r : Replica) (clock time reading me : ℕ) (payload : InEpoch) (members : List ℕ) (links : Links) (latest : Latest) (issued : Option ℕ) → EpochStands running r → me ≡ r.me →
    members ≡ members_of r → issue (last_issued r) reading ≡ Some time → issued ≡ issue running.clock time → IfSome issued (λ t. clock ≡ t) →
    ((received : List (ℕ × ℕ)) → LatestStands running.latest received → LatestStands latest ((me, time) ∷ received)) →
    ((q : Replica) → LinksStand running.links q → last_issued q < time → LinksStand links (with_pushed q time payload (others_of me members))) →
    EpochStands (record running { clock = clock; links = links; latest = latest }) (with_pushed r time payload (other_members r))
unfolding other_members
pushed_at running r clock time reading me payload members links latest issued s mine known would is set receives pushes =
    let above : last_issued r < time = issued_above (last_issued r) reading time would in
    let again : issued ≡ Some time = is ∙ ap (λ l. issue l time) (issued_last running r s) ∙ issued_at_it (last_issued r) reading time would in
    with_issued running r clock time payload (others_of r.me (members_of r)) links latest s above (if_some (λ t. clock ≡ t) issued time again set)
    (subst (λ ks. LinksStand links (with_pushed r time payload (others_of r.me ks))) known
    (subst (λ m. LinksStand links (with_pushed r time payload (others_of m members))) mine (pushes r (the_links running r s) above)))
    (subst (λ m. (received : List (ℕ × ℕ)) → LatestStands running.latest received → LatestStands latest ((m, time) ∷ received)) mine receives)

-- ---- frames

some_link : (links : List Link) → length links ≡ 15 → Link
some_link [] e = absurd (omega (arith, e))
some_link (l ∷ links) e = l

-- there are no more frames to another replica than the time says that was issued last
pub few_sent : (running : EpochState) (r : Replica) (k : ℕ) → EpochStands running r → k < 15 → length (frames_to r k) ≤ last_issued r
unfolding EpochStands
few_sent running r k s within = (s.links.each k (some_link running.links.links s.links.count) within).few_sent
