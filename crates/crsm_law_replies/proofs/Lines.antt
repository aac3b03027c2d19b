-- A reply that goes out with an answer has the line of that answer.
use Rattle.std.proofs.Common.{◌≡◌, ℕ, zero, suc, List, [], ◌∷◌, ◌++◌, map, refl, sym, subst, inl, inr, Bool, true, false}
use Rattle.std.specs.Prelude.{Option, Some, None, drop, nat_lt, slice_get}
use Rattle.std.specs.Option.{option_map_or}
use Rattle.std.proofs.lemmas.Option.{none-some, same_Some}
use Rattle.crsm_spec.specs.Choice.{when◌then◌otherwise◌}
use Rattle.crsm_spec.specs.Types.{Command, Datagram, Entry, Line, Outcome}
use Rattle.crsm_spec.specs.Lists.{Among, first_of, numbers_below}
use Rattle.crsm_spec.specs.Log.{Log, executed}
use Rattle.crsm_spec.specs.Replica.{Replica, Waiting}
use Rattle.crsm_spec.specs.Draft.{Draft, Reply, begun, reply, keep, count_vote, issued_at, push_to, push_to_members}
use Rattle.crsm_spec.specs.Clients.{submit, await, refuse, replies, answer_each, answer_found, reply_ok, reply_dropped, find_executed, is_dropped}
use Rattle.crsm_spec.specs.Step.{Input, step, boot, first_boot, founding_boot, boot_again}
use Rattle.crsm_spec.specs.Node.{Turn, input_of, turn}
use Rattle.crsm_fact_log.proofs.Lists.{among_either}
use Rattle.crsm_fact_step.specs.Changes.{Changes, stay, and_then}
use Rattle.crsm_fact_step.proofs.Fitted.{step_changes}
use Rattle.crsm_law_runs.proofs.Effects.{Effect, effect}
use Rattle.crsm_law_runs.proofs.Effects.Effect.{Still, Quiet, Took, Stamped, Refused, Executed, AdoptedTail, AdoptedPage, Answered}
use Rattle.crsm_law_cluster.specs.Clusters.{Event, Outgoing, outgoing_of, Process, Host, Cluster, empty_host, host_at, with_host, started, with_turn, kept, while_up, with_process, posted, next_out, after, unborn}
use Rattle.crsm_law_cluster.specs.Going.{IsReplied}
use Rattle.crsm_law_cluster.proofs.Along.{always, changed}

-- the line of an answer is that of this answer
abbrev pub IsLineFor : Outcome → Line → Type 0
IsLineFor (Outcome.Answered a) line = (k : ℕ) × (client : ℕ) × (number : ℕ) × (place : ℕ) × (line ≡ Line.ReplyOk k client number place a)
IsLineFor (Outcome.Refused why) line = Unit {0}

abbrev IsMatched : Reply → Type 0
IsMatched a = IsLineFor a.says a.line

-- ---- a step

abbrev AllMatched : Draft → Type 0
AllMatched x = (a : Reply) → Among x.replies a → IsMatched a

more_matched : (x : Draft) (a : Reply) → IsMatched a → AllMatched x → AllMatched (reply a x)
unfolding reply
more_matched x a s h b m = elim (among_either x.replies (a ∷ []) b m) [
  | inl n ↦ h b n
  | inr n ↦ elim n [ inl e ↦ subst IsMatched e s | inr nothing ↦ absurd nothing ]
]

found_matched : (f : Waiting) (o : Option (ℕ × Entry)) (x : Draft) → AllMatched x → AllMatched (answer_found f o x)
unfolding answer_found reply_ok reply_dropped when◌then◌otherwise◌
found_matched f (Some p) x h = more_matched x _ (x.replica.me, f.entry.command.client, f.entry.command.number, p.0, refl) h
found_matched f None x h = go (is_dropped x.replica f.entry)
  where
    go : (b : Bool) → AllMatched (when b then reply_dropped f x otherwise record x { replica = record x.replica { waiting = x.replica.waiting ++ f ∷ [] } })
    go true = more_matched x _ tt h
    go false = h

each_matched : (fs : List Waiting) (x : Draft) → AllMatched x → AllMatched (answer_each fs x)
unfolding answer_each
each_matched [] x h = h
each_matched (f ∷ fs) x h = each_matched fs (answer_found f (find_executed (executed x.replica.log) f.entry) x) (found_matched f (find_executed (executed x.replica.log) f.entry) x h)

module _ (r : Replica) (input : Input) (t : ℕ) where
  same_matched : (x y : Draft) → y.replies ≡ x.replies → AllMatched x → AllMatched y
  same_matched x y e h a m = h a (subst (λ rs. Among rs a) e m)

  submit_matched : (a : ℕ) (c : Command) (s : ℕ) (x : Draft) → AllMatched x → AllMatched (submit a c s x)
  unfolding submit await keep count_vote issued_at push_to push_to_members
  submit_matched a c s x h = h

  effect_matched : (x y : Draft) → Effect r input t x y → AllMatched x → AllMatched y
  unfolding refuse replies
  effect_matched x y (Still l s q) h = same_matched x y q.replies h
  effect_matched x y (Quiet rec q k) h = same_matched x y k.silent.replies h
  effect_matched x y (Took a j e i f is o og k) h = same_matched x y k.silent.replies h
  effect_matched x y (Stamped a c s is) h = submit_matched a c s x h
  effect_matched x y (Refused a c why) h = more_matched x _ tt h
  effect_matched x y (Executed e f k) h = same_matched x y k.silent.replies h
  effect_matched x y (AdoptedTail d is k) h = same_matched x y k.silent.replies h
  effect_matched x y (AdoptedPage j e from es is k) h = same_matched x y k.silent.replies h
  effect_matched x y Answered h = each_matched x.replica.waiting (record x { replica = record x.replica { waiting = [] } }) h

  changes_matched : {y : Draft} → Changes r input t (begun r) y → AllMatched y
  unfolding begun
  changes_matched stay = λ a m. absurd m
  changes_matched (and_then {y = y} {z = z} p c f) = effect_matched y z (effect r input t y z c) (changes_matched p)

  step_matched : AllMatched (step r input t)
  step_matched = changes_matched (step_changes r input t)

begun_matched : (r : Replica) → AllMatched (begun r)
unfolding begun
begun_matched r a m = absurd m

turn_matched : (r : Replica) (t : Turn) (reading : ℕ) → AllMatched (turn r (t, reading))
unfolding turn
turn_matched r t reading = go (input_of t)
  where
    go : (o : Option Input) → AllMatched (option_map_or (λ i. step r i reading) o (begun r))
    go None = begun_matched r
    go (Some i) = step_matched r i reading

boot_matched : (k n : ℕ) (log : Log) → AllMatched (boot k n log)
unfolding boot first_boot founding_boot boot_again keep begun when◌then◌otherwise◌
boot_matched k n (rec ∷ log) = λ a m. absurd m
boot_matched k n [] = go (nat_lt k n)
  where
    go : (b : Bool) → AllMatched (when b then founding_boot k n otherwise boot_again k n [])
    go true = λ a m. absurd m
    go false = λ a m. absurd m

-- ---- what waits in a process

abbrev OutMatched : List Outgoing → Type 0
OutMatched os = (a : Reply) → Among os (Outgoing.ToClient a) → IsMatched a

out_matched : (x : Draft) → AllMatched x → OutMatched (outgoing_of x)
unfolding outgoing_of
out_matched x h a m = elim (among_either (map (λ s. Outgoing.ToReplica s.0 s.1) x.sends) (map Outgoing.ToClient x.replies) (Outgoing.ToClient a) m) [
  | inl n ↦ absurd (none x.sends n)
  | inr n ↦ h a (back x.replies n)
]
  where
    none : (ss : List (ℕ × Datagram)) → Among (map (λ s. Outgoing.ToReplica s.0 s.1) ss) (Outgoing.ToClient a) → ⊥
    none [] n = n
    none (s ∷ ss) (inl e) = absurd cc
    none (s ∷ ss) (inr n) = none ss n

    same : (b : Reply) → Outgoing.ToClient b ≡ Outgoing.ToClient a → b ≡ a
    same b e = cc

    back : (us : List Reply) → Among (map Outgoing.ToClient us) (Outgoing.ToClient a) → Among us a
    back [] n = n
    back (b ∷ us) (inl e) = inl (same b e)
    back (b ∷ us) (inr n) = inr (back us n)

both_matched : (os ps : List Outgoing) → OutMatched os → OutMatched ps → OutMatched (os ++ ps)
both_matched os ps f g a m = elim (among_either os ps (Outgoing.ToClient a) m) [ inl n ↦ f a n | inr n ↦ g a n ]

rest_matched : (os : List Outgoing) → OutMatched os → OutMatched (drop 1 os)
rest_matched [] f a m = f a m
rest_matched (o ∷ os) f a m = f a (inr m)

record ProcessMatched (x : Process) : Type 0 where
  pending : OutMatched x.pending
  outbox : OutMatched x.outbox

data HostMatched : Host → Type 0 where
  idle : (log : Log) → HostMatched (record { log = log; process = None })
  busy : (log : Log) (x : Process) → ProcessMatched x → HostMatched (record { log = log; process = Some x })

-- ---- events

nothing : OutMatched []
nothing a m = absurd m

boots : (k m : ℕ) (p : Host) → HostMatched p → HostMatched (started k m p.log p.process)
unfolding started
boots k m _ (busy log x b) = busy log x b
boots k m _ (idle log) = busy _ _ (record { pending = nothing; outbox = out_matched (boot k m log) (boot_matched k m log) })

stops : (p : Host) → HostMatched p → HostMatched (record p { process = None })
stops _ (idle log) = idle log
stops _ (busy log x b) = idle log

keeps : (p : Host) → HostMatched p → HostMatched (while_up p (kept p))
unfolding while_up kept
keeps _ (idle log) = idle log
keeps _ (busy log x b) = busy _ _ (record { pending = nothing; outbox = both_matched x.outbox x.pending b.outbox b.pending })

posts : (p : Host) → HostMatched p → HostMatched (while_up p (λ x. with_process p (posted x)))
unfolding while_up with_process posted
posts _ (idle log) = idle log
posts _ (busy log x b) = busy log _ (record { pending = b.pending; outbox = rest_matched x.outbox b.outbox })

takes : (t : Turn) (reading : ℕ) (p : Host) → HostMatched p → HostMatched (while_up p (λ x. with_process p (with_turn t reading x)))
unfolding while_up with_process with_turn
takes t reading _ (idle log) = idle log
takes t reading _ (busy log x b) =
    busy log _ (record { pending = both_matched x.pending (outgoing_of (turn x.replica (t, reading))) b.pending (out_matched (turn x.replica (t, reading)) (turn_matched x.replica t reading)); outbox = b.outbox })

one_host : (c : Cluster) (j k : ℕ) (p : Host) → HostMatched p → HostMatched (host_at c k) → HostMatched (host_at (with_host c j p) k)
one_host c j k p new old = elim (changed c j k p) [
  | inl e ↦ subst HostMatched (sym e) old
  | inr t ↦ subst HostMatched (sym t.1) new
]

AllHosts : Cluster → Type 0
AllHosts c = (k : ℕ) → HostMatched (host_at c k)

same_hosts : (c : Cluster) (ss : List (ℕ × Datagram)) (k : ℕ) → HostMatched (host_at c k) → HostMatched (host_at (record c { sent = ss }) k)
unfolding host_at
same_hosts c ss k g = g

event_matched : (c : Cluster) (e : Event) → AllHosts c → AllHosts (after c e)
unfolding after AllHosts
event_matched c (Event.Boots j) g k = one_host c j k _ (boots j c.n (host_at c j) (g j)) (g k)
event_matched c (Event.Takes j t reading) g k = one_host c j k _ (takes t reading (host_at c j) (g j)) (g k)
event_matched c (Event.Keeps j) g k = one_host c j k _ (keeps (host_at c j) (g j)) (g k)
event_matched c (Event.Sends j) g k = same_hosts _ _ k (one_host c j k _ (posts (host_at c j) (g j)) (g k))
event_matched c (Event.Fails j) g k = one_host c j k _ (posts (host_at c j) (g j)) (g k)
event_matched c (Event.Stops j) g k = one_host c j k _ (stops (host_at c j) (g j)) (g k)

unborn_host : (ks : List ℕ) (k : ℕ) → option_map_or (λ (p : Host). p) (slice_get (map (λ i. empty_host) ks) k) empty_host ≡ empty_host
unborn_host [] k = refl
unborn_host (i ∷ ks) zero = refl
unborn_host (i ∷ ks) (suc k) = unborn_host ks k

unborn_matched : (n : ℕ) → AllHosts (unborn n)
unfolding unborn host_at empty_host AllHosts
unborn_matched n k = subst HostMatched (sym (unborn_host (numbers_below 15) k)) nobody
  where
    nobody : HostMatched empty_host
    nobody = idle []

-- ---- what goes out

goes_matched : (p : Host) (a : Reply) → HostMatched p → option_map_or (λ (x : Process). first_of x.outbox) p.process None ≡ Some (Outgoing.ToClient a) → IsMatched a
unfolding first_of
goes_matched _ a (idle log) e = absurd (none-some _ e)
goes_matched _ a (busy log x b) e = go x.outbox b.outbox e
  where
    go : (os : List Outgoing) → OutMatched os → first_of os ≡ Some (Outgoing.ToClient a) → IsMatched a
    go [] f q = absurd (none-some _ q)
    go (o ∷ os) f q = f a (inl (same_Some o (Outgoing.ToClient a) q))

pub replied_line : (n : ℕ) (h : List Event) (i k : ℕ) (a : Reply) → IsReplied n h i k a → IsLineFor a.says a.line
unfolding next_out AllHosts
replied_line n h i k a s =
    goes_matched (host_at s.0 k) a (always n h (λ m c. AllHosts c) (λ m c e at next g. event_matched c e g) (unborn_matched n) i s.0 s.1.cluster k) s.2
