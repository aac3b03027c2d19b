-- Turns, groups that are kept, and the datagrams and replies sent.
use Rattle.std.proofs.Common.{◌≡◌, ℕ, zero, suc, ◌<◌, ◌≤◌, List, [], ◌∷◌, ◌++◌, length, refl, sym, ap, subst, inl, inr, arith}
use Rattle.std.specs.Prelude.{◌^◌, Option, Some, None, slice_get, option_map, drop}
use Rattle.std.specs.Option.{option_map_or}
use Rattle.std.specs.List.{AllByRecursion}
use Rattle.std.proofs.lemmas.List.{append-nil}
use Rattle.crsm_base.specs.MessageReading.{datagram_of}
use Rattle.crsm_base.proofs.Parsers.{IsBytes}
use Rattle.crsm_base.proofs.DatagramLaws.{datagram_of-spelt}
use Rattle.crsm_spec.specs.Types.{Datagram}
use Rattle.crsm_spec.specs.Lists.{Among, first_of}
use Rattle.crsm_spec.specs.Replica.{Replica}
use Rattle.crsm_spec.specs.Draft.{Draft, begun}
use Rattle.crsm_spec.specs.Node.{Turn, turn, input_of}
use Rattle.crsm_spec.specs.Step.{Input, step}
use Rattle.crsm_spec.specs.World.{Site, World}
use Rattle.crsm_fact_log.proofs.Lists.{among_either}
use Rattle.crsm_law_steps.specs.Happenings.{WasSent}
use Rattle.crsm_law_steps.specs.Happenings.CanCome.{IsTick, IsSuspicion}
use Rattle.crsm_law_epoch.proofs.LogWorlds.{all_held}
use Rattle.crsm_law_cluster.specs.Clusters.{Outgoing, outgoing_of, Process, Host, Cluster, while_up, kept, with_process, with_turn, posted, sent_of}
use Rattle.crsm_law_cluster.specs.Lawful.{IsByte, CanTake}
use Rattle.crsm_law_cluster.proofs.Pending.{Pending, keep_all}
use Rattle.crsm_law_cluster.proofs.Pending.Pending.{nothing, one_more}
use Rattle.crsm_law_cluster.proofs.Came.{ShowsSent, comes_as}
use Rattle.crsm_law_cluster.proofs.Shown.{Out, Shown, Moved, stay}
use Rattle.crsm_law_cluster.proofs.Shown.Shown.{absent, unstarted, of_down, of_up}
use Rattle.crsm_law_cluster.proofs.Witnesses.{IsWitnessed, reached_by, told_later}

-- ---- a group is kept

pub keep_moved : (n : ℕ) (w : World) (k : ℕ) (p : Host) (s : Option Site) → slice_get w.sites k ≡ s → IsWitnessed n w → length w.sites ≤ 15 → Shown n w k p s → Moved n w k (while_up p (kept p))
unfolding while_up kept
keep_moved n w k _ _ e g few absent = stay n w k (record { log = []; process = None }) g few (subst (Shown n w k (record { log = []; process = None })) (sym e) absent)
keep_moved n w k _ _ e g few (unstarted lt) = stay n w k (record { log = []; process = None }) g few (subst (Shown n w k (record { log = []; process = None })) (sym e) (unstarted lt))
keep_moved n w k _ _ e g few (of_down log) = stay n w k (record { log = log; process = None }) g few (subst (Shown n w k (record { log = log; process = None })) (sym e) (of_down log))
keep_moved n w k _ _ e g few (of_up r x p o) =
    let v = keep_all n w k r x.replica x.pending g e p in
    record {
      world = v.world;
      reached = v.reached;
      few = (let l = v.size in omega (arith, l, few));
      later = v.later;
      goes_on = v.goes_on;
      others = v.others;
      there = subst (Shown n v.world k _) (sym v.up) (of_up x.replica (record x { pending = []; outbox = x.outbox ++ x.pending }) nothing (record {
        sent = λ j d a. elim (among_either x.outbox x.pending (Outgoing.ToReplica j d) a) [ inl b ↦ v.later k j d (o.sent j d b) | inr b ↦ v.out j d b ];
        told = λ y a. elim (among_either x.outbox x.pending (Outgoing.ToClient y) a) [ inl b ↦ told_later n w v.world y v.goes_on (o.told y b) | inr b ↦ v.told y b ];
      }));
    }

-- ---- turns

are_bytes : (bytes : List ℕ) → AllByRecursion IsByte bytes → IsBytes bytes
are_bytes [] h i = omega arith
are_bytes (b ∷ bytes) h zero = h.0
are_bytes (b ∷ bytes) h (suc i) = are_bytes bytes h.1 i

module _ (n : ℕ) (c : Cluster) (w : World) (k : ℕ) (g : IsWitnessed n w) (shows : ShowsSent c w) (r : Replica) (e : slice_get w.sites k ≡ Some (Site.Up r)) (x : Process) (p : Pending w k r x.pending x.replica)
    (reading : ℕ) (lt : reading < 2 ^ 64) where
  number : x.replica.me ≡ k
  number = let v = keep_all n w k r x.replica x.pending g e p in ((all_held n v.world (reached_by n v.world v.reached)).sites k (Site.Up x.replica) v.up).number

  abbrev Goes : Draft → Type 0
  Goes y = Pending w k r (x.pending ++ outgoing_of y) y.replica

  goes_nowhere : Goes (begun x.replica)
  unfolding begun outgoing_of
  goes_nowhere = subst (λ ps. Pending w k r ps x.replica) (sym (append-nil x.pending)) p

  goes_in : (a : ℕ) (bytes : List ℕ) → CanTake c k (Turn.In a bytes) → (o : Option Datagram) → datagram_of bytes ≡ o → Goes (option_map_or (λ i. step x.replica i reading) (option_map (Input.Came a) o) (begun x.replica))
  goes_in a bytes can None is = goes_nowhere
  goes_in a bytes can (Some d) is =
      let y = comes_as c w shows k x.replica number a reading d (datagram_of-spelt bytes d (are_bytes bytes can.0) is).fits (can.1 d is) in
      subst Goes (sym y.is) (one_more p y.input reading lt y.can)

  turned : (t : Turn) → CanTake c k t → Pending w k r (with_turn t reading x).pending (with_turn t reading x).replica
  unfolding with_turn turn input_of
  turned (Turn.In a bytes) can = goes_in a bytes can (datagram_of bytes) refl
  turned Turn.Tick can = one_more p Input.Ticked reading lt IsTick
  turned (Turn.Suspect ms) can = one_more p (Input.Suspected ms) reading lt (IsSuspicion ms can)

  turn_out : (t : Turn) → Out n w k x.outbox → Out n w k (with_turn t reading x).outbox
  unfolding with_turn
  turn_out t o = o

pub take_moved : (n : ℕ) (c : Cluster) (w : World) (k : ℕ) (p : Host) (s : Option Site) (t : Turn) (reading : ℕ) → slice_get w.sites k ≡ s → IsWitnessed n w → length w.sites ≤ 15 → ShowsSent c w → reading < 2 ^ 64 → CanTake c k t →
    Shown n w k p s → Moved n w k (while_up p (λ x. with_process p (with_turn t reading x)))
unfolding while_up with_process
take_moved n c w k _ _ t reading e g few shows lt can absent = stay n w k (record { log = []; process = None }) g few (subst (Shown n w k (record { log = []; process = None })) (sym e) absent)
take_moved n c w k _ _ t reading e g few shows lt can (unstarted f) = stay n w k (record { log = []; process = None }) g few (subst (Shown n w k (record { log = []; process = None })) (sym e) (unstarted f))
take_moved n c w k _ _ t reading e g few shows lt can (of_down log) = stay n w k (record { log = log; process = None }) g few (subst (Shown n w k (record { log = log; process = None })) (sym e) (of_down log))
take_moved n c w k _ _ t reading e g few shows lt can (of_up r x p o) =
    stay n w k (record { log = r.log; process = Some (with_turn t reading x) }) g few (subst (Shown n w k (record { log = r.log; process = Some (with_turn t reading x) })) (sym e)
    (of_up r (with_turn t reading x) (turned n c w k g shows r e x p reading lt t can) (turn_out n c w k g shows r e x p reading lt t o)))

-- ---- what goes out

among_dropped : (ps : List Outgoing) (y : Outgoing) → Among (drop 1 ps) y → Among ps y
among_dropped [] y a = a
among_dropped (q ∷ ps) y a = inr a

pub post_moved : (n : ℕ) (w : World) (k : ℕ) (p : Host) (s : Option Site) → slice_get w.sites k ≡ s → IsWitnessed n w → length w.sites ≤ 15 → Shown n w k p s → Moved n w k (while_up p (λ x. with_process p (posted x)))
unfolding while_up with_process posted
post_moved n w k _ _ e g few absent = stay n w k (record { log = []; process = None }) g few (subst (Shown n w k (record { log = []; process = None })) (sym e) absent)
post_moved n w k _ _ e g few (unstarted f) = stay n w k (record { log = []; process = None }) g few (subst (Shown n w k (record { log = []; process = None })) (sym e) (unstarted f))
post_moved n w k _ _ e g few (of_down log) = stay n w k (record { log = log; process = None }) g few (subst (Shown n w k (record { log = log; process = None })) (sym e) (of_down log))
post_moved n w k _ _ e g few (of_up r x p o) =
    stay n w k _ g few (subst (Shown n w k (record { log = r.log; process = Some (posted x) })) (sym e) (of_up r (posted x) p (record { sent = λ j d a. o.sent j d (among_dropped x.outbox (Outgoing.ToReplica j d) a); told = λ y a. o.told y (among_dropped x.outbox (Outgoing.ToClient y) a) })))

-- what goes out next had been sent in the world
pub out_sent : (n : ℕ) (w : World) (k : ℕ) (p : Host) (s : Option Site) → Shown n w k p s → (j : ℕ) (d : Datagram) → Among (sent_of (option_map_or (λ (x : Process). first_of x.outbox) p.process None)) (j, d) → WasSent w k j d
unfolding sent_of first_of
out_sent n w k _ _ absent j d a = absurd a
out_sent n w k _ _ (unstarted f) j d a = absurd a
out_sent n w k _ _ (of_down log) j d a = absurd a
out_sent n w k _ _ (of_up r x p o) j d a = go x.outbox o a
  where
    go : (ps : List Outgoing) → Out n w k ps → Among (sent_of (first_of ps)) (j, d) → WasSent w k j d
    go [] h b = absurd b
    go (Outgoing.ToClient y ∷ ps) h b = absurd b
    go (Outgoing.ToReplica i y ∷ ps) h (inl q) = h.sent j d (inl (same_outgoing i y q))
      where
        same_outgoing : (i : ℕ) (y : Datagram) → ◌≡◌ {A = ℕ × Datagram} (i, y) (j, d) → Outgoing.ToReplica i y ≡ Outgoing.ToReplica j d
        same_outgoing i y q = ap (λ (z : ℕ × Datagram). Outgoing.ToReplica z.0 z.1) q
    go (Outgoing.ToReplica i y ∷ ps) h (inr b) = absurd b
