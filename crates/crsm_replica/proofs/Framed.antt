-- A state that has pushed a payload, or retransmitted frames.
use Rattle.std.proofs.Common.{◌≡◌, ℕ, ◌+◌, ◌<◌, ◌^◌, Bool, true, false, List, [], ◌∷◌, ◌++◌, refl, sym, ◌∙◌, ap, subst, arith, length, drop, take, map, All, suc, zero}
use Rattle.std.specs.Prelude.{◌==◌, filter, fold, if◌then◌else◌, Some}
use Rattle.std.specs.List.{AllByRecursion, enumerate_from}
use Rattle.std.proofs.lemmas.List.{append-nil, append_assoc}
use Rattle.std.proofs.lemmas.List.Elements.{recursion_from_All}
use Rattle.crsm_base.specs.Limits.{most_again}
use Rattle.crsm_base.specs.Messages.{FitsPayload}
use Rattle.crsm_fact_log.proofs.Lists.{all-append, all-drop, all-take}
use Rattle.crsm_fact_log.proofs.LogsFit.{known_small}
use Rattle.crsm_replica_output.specs.declared.output.Output.{Output}
use Rattle.crsm_replica_output.specs.Made.{OutputStands, made_of}
use Rattle.crsm_replica_epoch.specs.declared.state.EpochState.{EpochState}
use Rattle.crsm_replica_epoch.specs.EpochState.{EpochStands}
use Rattle.crsm_replica_epoch.proofs.Kept.{few_sent}
use Rattle.crsm_replica_epoch.proofs.Times.{issued_above}
use Rattle.crsm_spec.specs.Types.{InEpoch, Datagram}
use Rattle.crsm_spec.specs.Log.{known}
use Rattle.crsm_spec.specs.Replica.{Replica, members_of, other_members, last_issued, frames_to, acked_by, unacked}
use Rattle.crsm_spec.specs.Draft.{Draft, would, send, next_frame, push_to, push_to_members, issued_at}
use Rattle.crsm_spec.specs.Frames.{again_frame, again_to}
use Rattle.crsm_replica.specs.declared.state.ReplicaState.{ReplicaState}
use Rattle.crsm_replica.specs.Again.{frame_again}
use Rattle.crsm_replica.specs.Sound.{FitsSend, FitsPushed}
use Rattle.crsm_replica.specs.Replica.{StandsInside}
use Rattle.crsm_replica.proofs.Rebuilt.{sent, ran}

-- ---- a payload is pushed

pushed-fit : (payload : InEpoch) → FitsPayload payload → (ks : List ℕ) → AllByRecursion (λ k. k < 15) ks → AllByRecursion FitsPushed (map (λ k. (k, payload)) ks)
pushed-fit payload fit [] below = tt
pushed-fit payload fit (k ∷ ks) below = ((below.0, fit), pushed-fit payload fit ks below.1)

next-fits : (r : Replica) (payload : InEpoch) (k : ℕ) → FitsPayload payload → r.me < 15 → known r.log < 2 ^ 64 → length (frames_to r k) < 2 ^ 64 → k < 15 → FitsSend (next_frame r payload k)
unfolding next_frame
next-fits r payload k fit me now few below = (below, (me, below, now, few, fit))

next-fit : (r : Replica) (payload : InEpoch) → FitsPayload payload → r.me < 15 → known r.log < 2 ^ 64 → ((k : ℕ) → k < 15 → length (frames_to r k) < 2 ^ 64) →
    (ks : List ℕ) → AllByRecursion (λ k. k < 15) ks → AllByRecursion FitsSend (map (next_frame r payload) ks)
next-fit r payload fit me now few [] below = tt
next-fit r payload fit me now few (k ∷ ks) below =
    (next-fits r payload k fit me now (few k below.0) below.0, next-fit r payload fit me now few ks below.1)

would-is : (x : Draft) (reading time : ℕ) → would x reading ≡ Some time → last_issued x.replica < time
unfolding would
would-is x reading time is = issued_above (last_issued x.replica) reading time is

pub pushed : (state : ReplicaState) (x : Draft) (reading time : ℕ) (payload : InEpoch) (output : Output) (epoch_state : EpochState) (ks : List ℕ) → StandsInside state x → FitsPayload payload →
    would x reading ≡ Some time → time < 2 ^ 64 → ks ≡ other_members x.replica → All (λ k. k < 15) ks →
    OutputStands output (record (made_of x) { sends = x.sends ++ map (next_frame x.replica payload) ks }) →
    EpochStands epoch_state (record x.replica { issued = time ∷ x.replica.issued; pushed = x.replica.pushed ++ map (λ k. (k, payload)) (other_members x.replica) }) →
    StandsInside (record state { epoch_state = epoch_state; output = output }) (push_to_members payload (issued_at time x))
unfolding push_to_members push_to issued_at other_members members_of next_frame frames_to
pushed state x reading time payload output epoch_state ks s fit is small same below holds runs =
    let r = x.replica in
    let all : AllByRecursion (λ k. k < 15) (other_members r) = subst (AllByRecursion (λ k. k < 15)) same (recursion_from_All (λ k. k < 15) ks below) in
    let few : (k : ℕ) → k < 15 → length (frames_to r k) < 2 ^ 64 = λ k within. omega (arith, few_sent state.epoch_state r k s.epoch_state within, would-is x reading time is) in
    let first = ran state x epoch_state (time ∷ r.issued) r.received r.votes r.owed (r.pushed ++ map (λ k. (k, payload)) (other_members r)) r.acked r.taken s runs s.sound.owed
    (all-append FitsPushed r.pushed (map (λ k. (k, payload)) (other_members r)) s.sound.pushed (pushed-fit payload fit (other_members r) all)) in
    sent (record state { epoch_state = epoch_state })
    (record x { replica = record r { issued = time ∷ r.issued; pushed = r.pushed ++ map (λ k. (k, payload)) (other_members r) } })
    output x.excess (x.sends ++ map (next_frame r payload) (other_members r)) x.replies first
    (subst (λ js. OutputStands output (record (made_of x) { sends = x.sends ++ map (next_frame r payload) js })) same holds)
    (all-append FitsSend x.sends (map (next_frame r payload) (other_members r)) s.sound.sends
    (next-fit r payload fit s.sound.number (known_small r.log s.sound.spelt) few (other_members r) all)) s.sound.replies

-- ---- frames go again

again-all : (k : ℕ) (x : Draft) (fs : List (ℕ × InEpoch)) → fold (again_frame k) x fs ≡ record x { sends = x.sends ++ map (frame_again x.replica.me (known x.replica.log) k) fs }
unfolding again_frame send frame_again
again-all k x [] = ap (λ sends. record x { sends = sends }) (sym (append-nil x.sends))
again-all k x (f ∷ fs) =
    again-all k (record x { sends = x.sends ++ (k, Datagram.Frame x.replica.me k (known x.replica.log) f.0 f.1) ∷ [] }) fs
    ∙ ap (λ sends. record x { sends = sends })
    (append_assoc x.sends ((k, Datagram.Frame x.replica.me k (known x.replica.log) f.0 f.1) ∷ []) (map (frame_again x.replica.me (known x.replica.log) k) fs))

abbrev FitsNumbered : ℕ × InEpoch → Type 0
FitsNumbered f = (f.0 < 2 ^ 64) × FitsPayload f.1

numbered-fit : (n : ℕ) (fs : List InEpoch) → AllByRecursion FitsPayload fs → n + length fs < 2 ^ 64 → AllByRecursion FitsNumbered (enumerate_from n fs)
numbered-fit n [] fit small = tt
numbered-fit n (f ∷ fs) fit small = ((omega (arith, small), fit.0), numbered-fit (n + 1) fs fit.1 (omega (arith, small)))

frames-fit : (pushed : List (ℕ × InEpoch)) (k : ℕ) → AllByRecursion FitsPushed pushed → AllByRecursion FitsPayload (map (λ f. f.1) (filter (λ f. f.0 == k) pushed))
frames-fit [] k all = tt
frames-fit (f ∷ pushed) k all = by_test (f.0 == k) (frames-fit pushed k all.1)
  where
    by_test : (b : Bool) → AllByRecursion FitsPayload (map (λ f. f.1) (filter (λ f. f.0 == k) pushed)) →
        AllByRecursion FitsPayload (map (λ f. f.1) (if b then f ∷ filter (λ f. f.0 == k) pushed else filter (λ f. f.0 == k) pushed))
    by_test true rest = (all.0.1, rest)
    by_test false rest = rest

unacked-fit : (r : Replica) (k : ℕ) → AllByRecursion FitsPushed r.pushed → length (frames_to r k) < 2 ^ 64 → AllByRecursion FitsNumbered (take most_again (unacked r k))
unfolding unacked frames_to
unacked-fit r k all small =
    all-take FitsNumbered _ most_again (all-drop FitsNumbered (enumerate_from 0 (frames_to r k)) _ (numbered-fit 0 (frames_to r k) (frames-fit r.pushed k all) (omega (arith, small))))

again-fit : (me epoch k : ℕ) → me < 15 → epoch < 2 ^ 64 → k < 15 → (fs : List (ℕ × InEpoch)) → AllByRecursion FitsNumbered fs → AllByRecursion FitsSend (map (frame_again me epoch k) fs)
unfolding frame_again
again-fit me epoch k small now below [] all = tt
again-fit me epoch k small now below (f ∷ fs) all = ((below, (small, below, now, all.0.0, all.0.1)), again-fit me epoch k small now below fs all.1)

pub again : (state : ReplicaState) (x : Draft) (k : ℕ) (output : Output) (fs : List (ℕ × InEpoch)) → StandsInside state x → k < 15 → length (frames_to x.replica k) < 2 ^ 64 →
    fs ≡ take most_again (unacked x.replica k) → OutputStands output (record (made_of x) { sends = x.sends ++ map (frame_again x.replica.me (known x.replica.log) k) fs }) →
    StandsInside (record state { output = output }) (again_to x k)
unfolding again_to
again state x k output fs s below small same holds =
    let r = x.replica in
    let fit : AllByRecursion FitsNumbered fs = subst (AllByRecursion FitsNumbered) (sym same) (unacked-fit r k s.sound.pushed small) in
    subst (StandsInside (record state { output = output })) (sym (again-all k x fs) ∙ ap (fold (again_frame k) x) same)
    (sent state x output x.excess (x.sends ++ map (frame_again r.me (known r.log) k) fs) x.replies s holds
    (all-append FitsSend x.sends (map (frame_again r.me (known r.log) k) fs) s.sound.sends
    (again-fit r.me (known r.log) k s.sound.number (known_small r.log s.sound.spelt) below fs fit)) s.sound.replies)

none-kept : (n : ℕ) → drop {A = ℕ × InEpoch} n [] ≡ []
none-kept zero = refl
none-kept (suc n) = refl

no-frames : (fs : List InEpoch) → length fs ≡ 0 → fs ≡ []
no-frames [] e = refl
no-frames (f ∷ fs) e = absurd (omega (arith, e))

-- where nothing was pushed, nothing goes again
pub again-none : (state : ReplicaState) (x : Draft) (k : ℕ) → StandsInside state x → length (frames_to x.replica k) ≡ 0 → StandsInside state (again_to x k)
unfolding again_to unacked
again-none state x k s none =
    let nothing : take most_again (unacked x.replica k) ≡ [] =
    ap (λ fs. take most_again (drop (acked_by x.replica k) (enumerate_from 0 fs))) (no-frames (frames_to x.replica k) none) ∙ ap (take most_again) (none-kept (acked_by x.replica k)) in
    subst (StandsInside state) (sym (ap (fold (again_frame k) x) nothing)) s
