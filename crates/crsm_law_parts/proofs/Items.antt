-- The same of all that the nodes of a history hand to their ports.
use Rattle.std.proofs.Common.{◌≡◌, ℕ, zero, suc, ◌≤◌, List, [], ◌∷◌, ◌++◌, map, sym, subst, inl, inr}
use Rattle.std.specs.Prelude.{Some, None, slice_get, drop}
use Rattle.std.specs.Option.{option_map_or}
use Rattle.std.proofs.lemmas.Option.{none-some, same_Some}
use Rattle.crsm_spec.specs.Clock.{u64_max}
use Rattle.crsm_spec.specs.Types.{Datagram}
use Rattle.crsm_spec.specs.Lists.{Among, first_of, numbers_below}
use Rattle.crsm_spec.specs.Log.{Log}
use Rattle.crsm_spec.specs.Draft.{Draft}
use Rattle.crsm_spec.specs.Step.{boot}
use Rattle.crsm_spec.specs.Node.{Turn, turn}
use Rattle.crsm_fact_log.proofs.Lists.{among_either}
use Rattle.crsm_law_epoch.proofs.Words.{among_unmap}
use Rattle.crsm_law_cluster.specs.Clusters.{Event, Outgoing, outgoing_of, Process, Host, Cluster, empty_host, host_at, with_host, started, with_turn, kept, while_up, with_process, posted, after, unborn, next_out}
use Rattle.crsm_law_cluster.proofs.Along.{always, changed}
use Rattle.crsm_law_parts.specs.Handed.{IsHanded}
use Rattle.crsm_law_parts.proofs.Steps.{IsNumbered, IsGood, good_turn, good_boot}

abbrev pub IsFine : Outgoing → Type 0
IsFine (Outgoing.ToReplica to d) = IsNumbered d
IsFine (Outgoing.ToClient a) = Unit {0}

abbrev AreFine : List Outgoing → Type 0
AreFine os = (o : Outgoing) → Among os o → IsFine o

record Fine (x : Process) : Type 0 where
  made : x.replica.made ≤ u64_max
  pending : AreFine x.pending
  outbox : AreFine x.outbox

data FineHost : Host → Type 0 where
  idle : (log : Log) → FineHost (record { log = log; process = None })
  busy : (log : Log) (x : Process) → Fine x → FineHost (record { log = log; process = Some x })

fine_then : (os ps : List Outgoing) → AreFine os → AreFine ps → AreFine (os ++ ps)
fine_then os ps f g o a = elim (among_either os ps o a) [ inl b ↦ f o b | inr b ↦ g o b ]

fine_drop : (os : List Outgoing) → AreFine os → AreFine (drop 1 os)
fine_drop [] f o a = absurd a
fine_drop (p ∷ os) f o a = f o (inr a)

fine_out : (x : Draft) → IsGood x → AreFine (outgoing_of x)
unfolding outgoing_of
fine_out x g = fine_then (map (λ s. Outgoing.ToReplica s.0 s.1) x.sends) (map Outgoing.ToClient x.replies)
    (λ o a. let t = among_unmap (λ s. Outgoing.ToReplica s.0 s.1) x.sends o a in subst IsFine t.2 (g.sends t.0 t.1))
    (λ o a. let t = among_unmap Outgoing.ToClient x.replies o a in subst IsFine t.2 tt)

boots : (k m : ℕ) (p : Host) → FineHost p → FineHost (started k m p.log p.process)
unfolding started
boots k m _ (busy log x f) = busy log x f
boots k m _ (idle log) =
    let d = boot k m log in
    let g = good_boot k m log in
    busy d.replica.log (record { replica = d.replica; pending = []; outbox = outgoing_of d }) (record { made = g.made; pending = λ o a. absurd a; outbox = fine_out d g })

takes : (t : Turn) (reading : ℕ) (p : Host) → FineHost p → FineHost (while_up p (λ x. with_process p (with_turn t reading x)))
unfolding while_up with_process with_turn
takes t reading _ (idle log) = idle log
takes t reading _ (busy log x f) =
    let y = turn x.replica (t, reading) in
    let g = good_turn x.replica t reading f.made in
    busy log _ (record { made = g.made; pending = fine_then x.pending (outgoing_of y) f.pending (fine_out y g); outbox = f.outbox })

keeps : (p : Host) → FineHost p → FineHost (while_up p (kept p))
unfolding while_up kept
keeps _ (idle log) = idle log
keeps _ (busy log x f) = busy x.replica.log _ (record { made = f.made; pending = λ o a. absurd a; outbox = fine_then x.outbox x.pending f.outbox f.pending })

posts : (p : Host) → FineHost p → FineHost (while_up p (λ x. with_process p (posted x)))
unfolding while_up with_process posted
posts _ (idle log) = idle log
posts _ (busy log x f) = busy log _ (record { made = f.made; pending = f.pending; outbox = fine_drop x.outbox f.outbox })

stops : (p : Host) → FineHost p → FineHost (record p { process = None })
stops _ (idle log) = idle log
stops _ (busy log x f) = idle log

abbrev AllFine : ℕ → Cluster → Type 0
AllFine i c = (k : ℕ) → FineHost (host_at c k)

one_changed : (c : Cluster) (j : ℕ) (p : Host) → AllFine 0 c → FineHost p → AllFine 0 (with_host c j p)
one_changed c j p all f k = elim (changed c j k p) [ inl e ↦ subst FineHost (sym e) (all k) | inr t ↦ subst FineHost (sym t.1) f ]

same_hosts : (c : Cluster) (ss : List (ℕ × Datagram)) → AllFine 0 c → AllFine 0 (record c { sent = ss })
unfolding host_at
same_hosts c ss all k = all k

fine_after : (c : Cluster) (e : Event) → AllFine 0 c → AllFine 0 (after c e)
unfolding after
fine_after c (Event.Boots k) all = one_changed c k _ all (boots k c.n (host_at c k) (all k))
fine_after c (Event.Takes k t reading) all = one_changed c k _ all (takes t reading (host_at c k) (all k))
fine_after c (Event.Keeps k) all = one_changed c k _ all (keeps (host_at c k) (all k))
fine_after c (Event.Sends k) all = same_hosts _ _ (one_changed c k _ all (posts (host_at c k) (all k)))
fine_after c (Event.Fails k) all = one_changed c k _ all (posts (host_at c k) (all k))
fine_after c (Event.Stops k) all = one_changed c k _ all (stops (host_at c k) (all k))

none_there : FineHost empty_host
unfolding empty_host
none_there = idle []

fine_unborn : (n : ℕ) → AllFine 0 (unborn n)
unfolding unborn host_at
fine_unborn n k = go (numbers_below 15) k
  where
    go : (ks : List ℕ) (i : ℕ) → FineHost (option_map_or (λ p. p) (slice_get (map (λ k. empty_host) ks) i) empty_host)
    go [] i = none_there
    go (j ∷ ks) zero = none_there
    go (j ∷ ks) (suc i) = go ks i

next_fine : (c : Cluster) (k : ℕ) (o : Outgoing) → AllFine 0 c → next_out c k ≡ Some o → IsFine o
unfolding next_out first_of
next_fine c k o all e = go (host_at c k) (all k) e
  where
    first : (os : List Outgoing) → AreFine os → first_of os ≡ Some o → IsFine o
    first [] f q = absurd (none-some o q)
    first (p ∷ os) f q = f o (inl (same_Some p o q))

    go : (p : Host) → FineHost p → option_map_or (λ (x : Process). first_of x.outbox) p.process None ≡ Some o → IsFine o
    go _ (idle log) q = absurd (none-some o q)
    go _ (busy log x f) q = first x.outbox f.outbox q

pub handed_fine : (n : ℕ) (h : List Event) (k : ℕ) (o : Outgoing) → IsHanded n h k o → IsFine o
handed_fine n h k o t =
    next_fine t.1 k o (always n h (λ i c. AllFine 0 c) (λ i c e at next all. fine_after c e all) (fine_unborn n) t.0 t.1 t.3.cluster) t.5
