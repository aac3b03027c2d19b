-- Lists of events: the clusters, turns and sends along them.
use Rattle.std.proofs.Common.{◌≡◌, ℕ, ◌<◌, List, [], ◌∷◌, ◌++◌, refl, sym, ◌∙◌, ap, subst, inl, inr, cond, append_assoc}
use Rattle.std.specs.Prelude.{◌^◌, Option, Some, None, slice_get, drop, option_map, option_to_list}
use Rattle.std.specs.Option.{option_map_or}
use Rattle.std.specs.List.{AllByRecursion}
use Rattle.std.proofs.lemmas.Bool.{cases_eq, eq-eqb, ne_eqb}
use Rattle.std.proofs.lemmas.List.{append-nil}
use Rattle.std.proofs.lemmas.Option.{none-some}
use Rattle.crsm_base.specs.MessageReading.{datagram_of}
use Rattle.crsm_spec.specs.Types.{Datagram}
use Rattle.crsm_spec.specs.Lists.{Among, first_of}
use Rattle.crsm_spec.specs.Replica.{Replica}
use Rattle.crsm_spec.specs.Draft.{begun}
use Rattle.crsm_spec.specs.Step.{Input, step}
use Rattle.crsm_spec.specs.Node.{Turn, input_of, turn, outputs_from}
use Rattle.crsm_law_cluster.specs.Clusters.{Event, Outgoing, outgoing_of, Process, Host, Cluster, empty_host, host_at, next_out, after}
use Rattle.crsm_law_cluster.specs.Histories.{clusters_from, last_from}
use Rattle.crsm_law_cluster.specs.Lawful.{MayHappen, IsLawfulFrom}
use Rattle.crsm_spec_process.specs.Turns.{replica_after}
use Rattle.crsm_law_lives.specs.Events.{node_of}
use Rattle.crsm_law_lives.specs.Sending.{handed_by, out_at, outs_from}
use Rattle.crsm_law_calm.specs.Rounds.{turn_at, turns_of}

-- ---- clusters

pub last_then : (c : Cluster) (xs ys : List Event) → last_from c (xs ++ ys) ≡ last_from (last_from c xs) ys
unfolding last_from
last_then c [] ys = refl
last_then c (x ∷ xs) ys = last_then (after c x) xs ys

pub first_in : (c : Cluster) (es : List Event) → Among (clusters_from c es) c
unfolding clusters_from
first_in c [] = inl refl
first_in c (e ∷ es) = inl refl

pub last_in : (c : Cluster) (es : List Event) → Among (clusters_from c es) (last_from c es)
unfolding clusters_from last_from
last_in c [] = inl refl
last_in c (e ∷ es) = inr (last_in (after c e) es)

pub clusters_left : (c : Cluster) (xs ys : List Event) (d : Cluster) → Among (clusters_from c xs) d → Among (clusters_from c (xs ++ ys)) d
unfolding clusters_from
clusters_left c [] ys d (inl e) = subst (Among (clusters_from c ys)) e (first_in c ys)
clusters_left c [] ys d (inr a) = absurd a
clusters_left c (x ∷ xs) ys d (inl e) = inl e
clusters_left c (x ∷ xs) ys d (inr a) = inr (clusters_left (after c x) xs ys d a)

pub clusters_right : (c : Cluster) (xs ys : List Event) (d : Cluster) → Among (clusters_from (last_from c xs) ys) d → Among (clusters_from c (xs ++ ys)) d
unfolding clusters_from last_from
clusters_right c [] ys d a = a
clusters_right c (x ∷ xs) ys d a = inr (clusters_right (after c x) xs ys d a)

pub lawful_left : (c : Cluster) (xs ys : List Event) → IsLawfulFrom c (xs ++ ys) → IsLawfulFrom c xs
lawful_left c [] ys l = tt
lawful_left c (x ∷ xs) ys l = (l.0, lawful_left (after c x) xs ys l.1)

pub lawful_right : (c : Cluster) (xs ys : List Event) → IsLawfulFrom c (xs ++ ys) → IsLawfulFrom (last_from c xs) ys
unfolding last_from
lawful_right c [] ys l = l
lawful_right c (x ∷ xs) ys l = lawful_right (after c x) xs ys l.1

pub all_left : {A : Type 0} (P : A → Type 0) (xs ys : List A) → AllByRecursion P (xs ++ ys) → AllByRecursion P xs
all_left P [] ys h = tt
all_left P (x ∷ xs) ys h = (h.0, all_left P xs ys h.1)

pub all_right : {A : Type 0} (P : A → Type 0) (xs ys : List A) → AllByRecursion P (xs ++ ys) → AllByRecursion P ys
all_right P [] ys h = h
all_right P (x ∷ xs) ys h = all_right P xs ys h.1

pub all_then : {A : Type 0} (P : A → Type 0) (xs ys : List A) → AllByRecursion P xs → AllByRecursion P ys → AllByRecursion P (xs ++ ys)
all_then P [] ys h g = g
all_then P (x ∷ xs) ys h g = (h.0, all_then P xs ys h.1 g)

-- ---- what goes out

pub outs_then : (k : ℕ) (c : Cluster) (xs ys : List Event) → outs_from k c (xs ++ ys) ≡ outs_from k c xs ++ outs_from k (last_from c xs) ys
unfolding outs_from last_from
outs_then k c [] ys = refl
outs_then k c (x ∷ xs) ys = ap (λ z. out_at k c x ++ z) (outs_then k (after c x) xs ys) ∙ sym (append_assoc (out_at k c x) (outs_from k (after c x) xs) (outs_from k (last_from (after c x) xs) ys))

pub out_other : (c : Cluster) (k : ℕ) (e : Event) → (node_of e ≡ k → ⊥) → out_at k c e ≡ []
unfolding out_at node_of
out_other c k (Event.Boots j) ne = refl
out_other c k (Event.Takes j t reading) ne = refl
out_other c k (Event.Keeps j) ne = refl
out_other c k (Event.Sends j) ne = ap (λ b. cond b (option_to_list (next_out c k)) []) (ne_eqb j k ne)
out_other c k (Event.Fails j) ne = refl
out_other c k (Event.Stops j) ne = refl

pub first_rest : (os : List Outgoing) → option_to_list (first_of os) ++ drop 1 os ≡ os
unfolding first_of
first_rest [] = refl
first_rest (o ∷ os) = refl

-- ---- turns

pub turn_other : (k : ℕ) (e : Event) → (node_of e ≡ k → ⊥) → turn_at k e ≡ []
unfolding turn_at node_of
turn_other k (Event.Boots j) ne = refl
turn_other k (Event.Takes j t reading) ne = ap (λ b. cond b ((t, reading) ∷ []) []) (ne_eqb j k ne)
turn_other k (Event.Keeps j) ne = refl
turn_other k (Event.Sends j) ne = refl
turn_other k (Event.Fails j) ne = refl
turn_other k (Event.Stops j) ne = refl

pub turn_own : (j k : ℕ) (t : Turn) (reading : ℕ) → j ≡ k → turn_at k (Event.Takes j t reading) ≡ (t, reading) ∷ []
unfolding turn_at
turn_own j k t reading e = ap (λ b. cond b ((t, reading) ∷ []) []) (eq-eqb j k e)

abbrev pub IsSmall : Turn × ℕ → Type 0
IsSmall t = t.1 < 2 ^ 64

small_turn : (k : ℕ) (c : Cluster) (e : Event) → MayHappen c e → AllByRecursion IsSmall (turn_at k e)
unfolding turn_at node_of
small_turn k c (Event.Takes j t reading) m = elim (cases_eq j k) [
  | inl e ↦ subst (AllByRecursion IsSmall) (sym (turn_own j k t reading e)) (m.0, tt)
  | inr ne ↦ subst (AllByRecursion IsSmall) (sym (turn_other k (Event.Takes j t reading) ne)) tt
]
small_turn k c (Event.Boots j) m = tt
small_turn k c (Event.Keeps j) m = tt
small_turn k c (Event.Sends j) m = tt
small_turn k c (Event.Fails j) m = tt
small_turn k c (Event.Stops j) m = tt

-- the turns of a lawful history have readings of 64 bits
pub small_readings : (k : ℕ) (c : Cluster) (es : List Event) → IsLawfulFrom c es → AllByRecursion IsSmall (turns_of k es)
unfolding turns_of
small_readings k c [] l = tt
small_readings k c (e ∷ es) l = all_then IsSmall (turn_at k e) (turns_of k es) (small_turn k c e l.0) (small_readings k (after c e) es l.1)

pub handed_then : (r : Replica) (ts us : List (Turn × ℕ)) → handed_by r (ts ++ us) ≡ handed_by r ts ++ handed_by (replica_after r ts) us
unfolding handed_by outputs_from replica_after
handed_then r [] us = refl
handed_then r (t ∷ ts) us = ap (λ z. outgoing_of (turn r t) ++ z) (handed_then (turn r t).replica ts us) ∙ sym (append_assoc (outgoing_of (turn r t)) (handed_by (turn r t).replica ts) (handed_by (replica_after (turn r t).replica ts) us))

pub handed_one : (r : Replica) (t : Turn × ℕ) → handed_by r (t ∷ []) ≡ outgoing_of (turn r t)
unfolding handed_by outputs_from
handed_one r t = append-nil (outgoing_of (turn r t))

-- a turn in which a datagram is received
pub datagram_turn : (r : Replica) (a : ℕ) (bytes : List ℕ) (reading : ℕ) (d : Datagram) → datagram_of bytes ≡ Some d → turn r (Turn.In a bytes, reading) ≡ step r (Input.Came a d) reading
unfolding turn input_of
datagram_turn r a bytes reading d is = ap (λ o. option_map_or (λ i. step r i reading) (option_map (Input.Came a) o) (begun r)) is

pub tick_turn : (r : Replica) (reading : ℕ) → turn r (Turn.Tick, reading) ≡ step r Input.Ticked reading
unfolding turn input_of
tick_turn r reading = refl

-- ---- hosts

pub host_there : (c : Cluster) (k : ℕ) (x : Process) → (host_at c k).process ≡ Some x → (q : Host) × (slice_get c.hosts k ≡ Some q)
unfolding host_at empty_host
host_there c k x e = go (slice_get c.hosts k) refl e
  where
    go : (o : Option Host) → slice_get c.hosts k ≡ o → (option_map_or (λ (q : Host). q) o empty_host).process ≡ Some x → (q : Host) × (slice_get c.hosts k ≡ Some q)
    go None is r = absurd (none-some x r)
    go (Some q) is r = (q, is)
