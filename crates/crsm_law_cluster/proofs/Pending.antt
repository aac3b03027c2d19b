-- Turns that are not kept yet, and the world in which they are steps.
use Rattle.std.proofs.Common.{◌≡◌, ℕ, ◌<◌, List, [], ◌∷◌, ◌++◌, length, map, refl, ◌∙◌, inl, inr, false}
use Rattle.std.specs.Prelude.{◌^◌, Some, slice_get}
use Rattle.crsm_spec.specs.Types.{Datagram}
use Rattle.crsm_spec.specs.Lists.{Among}
use Rattle.crsm_spec.specs.Replica.{Replica}
use Rattle.crsm_spec.specs.Draft.{Draft, Reply}
use Rattle.crsm_spec.specs.Step.{Input, step}
use Rattle.crsm_spec.specs.World.{Site, Packet, World, whole_step, after_step, packet_of}
use Rattle.crsm_spec.specs.Moments.{begun_at}
use Rattle.crsm_fact_log.specs.Logs.{same}
use Rattle.crsm_fact_log.proofs.Lists.{among_left, among_right, among_either}
use Rattle.crsm_law_steps.specs.Laws.{LogsGoOn}
use Rattle.crsm_law_steps.specs.Happenings.{WasSent, CanCome}
use Rattle.crsm_law_steps.specs.Happenings.Marks.{none}
use Rattle.crsm_law_steps.specs.Happenings.CanCome.{IsPacket, IsCommand, IsReply, IsTick, IsSuspicion}
use Rattle.crsm_law_steps.specs.Happenings.Ends.{IsWhole}
use Rattle.crsm_law_steps.specs.Happenings.Happens.{Steps}
use Rattle.crsm_law_steps.proofs.Moments.{moment_goes_on, on_then}
use Rattle.crsm_law_cluster.specs.Clusters.{Outgoing, outgoing_of}
use Rattle.crsm_law_epoch.proofs.Words.{among_map}
use Rattle.crsm_law_cluster.proofs.Lists.{got_set, got_other, set_length}
use Rattle.crsm_law_cluster.specs.Told.{IsTold}
use Rattle.crsm_law_cluster.proofs.Witnesses.{IsWitnessed, then_by, act_of, brings, told_later, tells_of_step}

pub data Pending (w : World) (k : ℕ) (r : Replica) : List Outgoing → Replica → Type 0 where
  nothing : Pending w k r [] r
  one_more : {ps : List Outgoing} {q : Replica} → Pending w k r ps q → (i : Input) (t : ℕ) → t < 2 ^ 64 → CanCome w k i →
      Pending w k r (ps ++ outgoing_of (step q i t)) (step q i t).replica

abbrev pub Later : World → World → Type 0
Later w u = (from to : ℕ) (d : Datagram) → WasSent w from to d → WasSent u from to d

comes_later : (w u : World) (k : ℕ) (i : Input) → Later w u → CanCome w k i → CanCome u k i
comes_later w u k i l (IsPacket from d s) = IsPacket from d (l from k d s)
comes_later w u k i l (IsCommand a c f) = IsCommand a c f
comes_later w u k i l (IsReply a c m t) = IsReply a c m t
comes_later w u k i l IsTick = IsTick
comes_later w u k i l (IsSuspicion ms f) = IsSuspicion ms f

pub pending_later : (w u : World) (k : ℕ) (r q : Replica) (ps : List Outgoing) → Later w u → Pending w k r ps q → Pending u k r ps q
pending_later w u k r q ps l nothing = nothing
pending_later w u k r q ps l (one_more p i t lt c) = one_more (pending_later w u k r _ _ l p) i t lt (comes_later w u k i l c)

-- the world in which these turns are steps
pub record Kept (n : ℕ) (w : World) (k : ℕ) (ps : List Outgoing) (q : Replica) : Type 0 where
  pub world : World
  pub reached : IsWitnessed n world
  pub up : slice_get world.sites k ≡ Some (Site.Up q)
  pub others : (j : ℕ) → (j ≡ k → ⊥) → slice_get world.sites j ≡ slice_get w.sites j
  pub later : Later w world
  pub goes_on : LogsGoOn w world
  pub size : length world.sites ≡ length w.sites
  pub out : (j : ℕ) (d : Datagram) → Among ps (Outgoing.ToReplica j d) → WasSent world k j d
  pub told : (a : Reply) → Among ps (Outgoing.ToClient a) → IsTold n world a

pub made_packet : (k j : ℕ) (d : Datagram) (x : Draft) (ms : List Packet) → Among (outgoing_of x) (Outgoing.ToReplica j d) → Among (ms ++ map (packet_of k) x.sends) (record { from = k; to = j; datagram = d; used = false })
unfolding outgoing_of packet_of
made_packet k j d x ms a = among_right ms (map (packet_of k) x.sends) _ (elim (among_either (map (λ s. Outgoing.ToReplica s.0 s.1) x.sends) (map Outgoing.ToClient x.replies) (Outgoing.ToReplica j d) a) [
  | inl b ↦ go x.sends b
  | inr b ↦ absurd (none_to_client x.replies b)
])
  where
    go : (ss : List (ℕ × Datagram)) → Among (map (λ s. Outgoing.ToReplica s.0 s.1) ss) (Outgoing.ToReplica j d) → Among (map (packet_of k) ss) (record { from = k; to = j; datagram = d; used = false })
    go [] b = absurd b
    go (s ∷ ss) (inl e) = inl (same_packet s.0 s.1 e)
      where
        same_packet : (i : ℕ) (c : Datagram) → Outgoing.ToReplica i c ≡ Outgoing.ToReplica j d → packet_of k (i, c) ≡ record { from = k; to = j; datagram = d; used = false }
        same_packet i c e = cc
    go (s ∷ ss) (inr b) = inr (go ss b)

    none_to_client : (rs : List Reply) → Among (map Outgoing.ToClient rs) (Outgoing.ToReplica j d) → ⊥
    none_to_client [] b = b
    none_to_client (r ∷ rs) (inl e) = absurd (cc)
    none_to_client (r ∷ rs) (inr b) = none_to_client rs b

made_reply : (a : Reply) (x : Draft) → Among (outgoing_of x) (Outgoing.ToClient a) → Among x.replies a
unfolding outgoing_of
made_reply a x h = elim (among_either (map (λ s. Outgoing.ToReplica s.0 s.1) x.sends) (map Outgoing.ToClient x.replies) (Outgoing.ToClient a) h) [
  | inl b ↦ none_to_replica x.sends b
  | inr b ↦ go x.replies b
]
  where
    none_to_replica : (ss : List (ℕ × Datagram)) → Among (map (λ s. Outgoing.ToReplica s.0 s.1) ss) (Outgoing.ToClient a) → Among x.replies a
    none_to_replica [] b = absurd b
    none_to_replica (s ∷ ss) (inl e) = absurd (cc)
    none_to_replica (s ∷ ss) (inr b) = none_to_replica ss b

    go : (rs : List Reply) → Among (map Outgoing.ToClient rs) (Outgoing.ToClient a) → Among rs a
    go [] b = absurd b
    go (r ∷ rs) (inl e) = inl (same_reply r e)
      where
        same_reply : (r : Reply) → Outgoing.ToClient r ≡ Outgoing.ToClient a → r ≡ a
        same_reply r e = cc
    go (r ∷ rs) (inr b) = inr (go rs b)

-- the line of each reply is one of the step's
whole_lines : (w : World) (k : ℕ) (x : Draft) (a : Reply) → Among x.replies a → Among (whole_step w k x).lines a.line
unfolding whole_step after_step
whole_lines w k x a h = among_right _ (map (λ (a : Reply). a.line) x.replies) a.line (among_map (λ (a : Reply). a.line) x.replies a h)

pub keep_all : (n : ℕ) (w : World) (k : ℕ) (r q : Replica) (ps : List Outgoing) → IsWitnessed n w → slice_get w.sites k ≡ Some (Site.Up r) → Pending w k r ps q → Kept n w k ps q
unfolding begun_at whole_step after_step
keep_all n w k r q ps g up nothing = record { world = w; reached = g; up = up; others = λ j ne. refl; later = λ from to d s. s; goes_on = λ j. same; size = refl; out = λ j d a. absurd a; told = λ a m. absurd m }
keep_all n w k r q ps g up (one_more {ps = ps'} {q = q'} p i t lt c) =
    let v = keep_all n w k r q' ps' g up p in
    let x = step q' i t in
    let can = comes_later w v.world k i v.later c in
    let m = Steps v.world none k q' v.up i t lt can (whole_step v.world k x) IsWhole in
    let led = brings k t can in
    let on = moment_goes_on v.world (begun_at v.world (whole_step v.world k x)) m in
    record {
      world = (whole_step v.world k x).after;
      reached = then_by v.reached (act_of k t can) m led;
      goes_on = on_then w v.world (whole_step v.world k x).after v.goes_on on;
      up = got_set v.world.sites k (Site.Up q') (Site.Up x.replica) v.up;
      others = λ j ne. got_other v.world.sites k j (Site.Up x.replica) ne ∙ v.others j ne;
      later = λ from to d s. let z = v.later from to d s in (z.0, among_left v.world.packets (map (packet_of k) x.sends) _ z.1);
      size = set_length v.world.sites k (Site.Up x.replica) ∙ v.size;
      out = λ j d a. elim (among_either ps' (outgoing_of x) (Outgoing.ToReplica j d) a) [
        | inl b ↦ (let z = v.out j d b in (z.0, among_left v.world.packets (map (packet_of k) x.sends) _ z.1))
        | inr b ↦ (false, made_packet k j d x v.world.packets b)
      ];
      told = λ a h. elim (among_either ps' (outgoing_of x) (Outgoing.ToClient a) h) [
        | inl b ↦ told_later n v.world (whole_step v.world k x).after a on (v.told a b)
        | inr b ↦ tells_of_step n v.world (begun_at v.world (whole_step v.world k x)) k q' i t a v.reached (act_of k t can) m led (whole_lines v.world k x a (made_reply a x b)) (made_reply a x b)
      ];
    }
