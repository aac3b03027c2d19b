-- The replies to a waiting client.
use Rattle.std.proofs.Common.{◌≡◌, ℕ, true, false, List, [], ◌∷◌, ◌++◌, refl, sym, ap, subst, ◌∙◌, map, take, append-nil, append_assoc}
use Rattle.std.specs.Prelude.{Option, Some, None}
use Rattle.std.specs.List.{AllByRecursion}
use Rattle.std.specs.Option.{option_map}
use Rattle.crsm_base.specs.Spelling.{FitsAnswer, FitsEntry}
use Rattle.crsm_base.specs.Store.{answer_after}
use Rattle.crsm_fact_log.proofs.Lists.{all-take}
use Rattle.crsm_replica_results.specs.Answering.{answered}
use Rattle.crsm_spec.specs.Types.{Entry, Answer}
use Rattle.crsm_spec.specs.Choice.{when◌then◌otherwise◌}
use Rattle.crsm_spec.specs.Log.{executed}
use Rattle.crsm_spec.specs.Replica.{Waiting}
use Rattle.crsm_spec.specs.Draft.{Draft}
use Rattle.crsm_replica.specs.declared.state.ReplicaState.{ReplicaState}
use Rattle.crsm_replica.specs.declared.state.Waiting.{Waiting as WaitingInMemory}
use Rattle.crsm_replica.specs.Sound.{FitsWaiting}
use Rattle.crsm_replica.specs.Replica.{ReplicaStands, on_paper}
use Rattle.crsm_replica.proofs.StoreFits.{answer-fits}
use Rattle.crsm_spec.specs.Clients.{find_executed, answer_found, answer_each, is_dropped, reply_ok, reply_dropped, replies}

abbrev placed : List Entry → ℕ × Entry → ℕ × Answer
placed done p = (p.0, answer_after (take p.0 done) p.1)

-- its entry is executed
pub found-some : (w : Waiting) (x : Draft) (place : ℕ) (a : Answer) → Some (place, a) ≡ answered (executed x.replica.log) w.entry →
    answer_found w (find_executed (executed x.replica.log) w.entry) x ≡ reply_ok w place a x
unfolding answered answer_found
found-some w x place a e = go (find_executed (executed x.replica.log) w.entry) e
  where
    go : (o : Option (ℕ × Entry)) → ◌≡◌ {A = Option (ℕ × Answer)} (Some (place, a)) (option_map (placed (executed x.replica.log)) o) → answer_found w o x ≡ reply_ok w place a x
    go None e = absurd (cc)
    go (Some p) e =
        let same : ◌≡◌ {A = ℕ × Answer} (place, a) (placed (executed x.replica.log) p) = cc in
        ap (λ (q : ℕ × Answer). reply_ok w q.0 q.1 x) (sym same)

-- it is not
pub found-none : (w : Waiting) (x : Draft) → None ≡ answered (executed x.replica.log) w.entry → answer_found w (find_executed (executed x.replica.log) w.entry) x ≡ answer_found w None x
unfolding answered
found-none w x e = go (find_executed (executed x.replica.log) w.entry) e
  where
    go : (o : Option (ℕ × Entry)) → ◌≡◌ {A = Option (ℕ × Answer)} None (option_map (placed (executed x.replica.log)) o) → answer_found w o x ≡ answer_found w None x
    go None e = refl
    go (Some p) e = absurd (cc)

-- and then its answer has an encoding
pub answered-fits : (done : List Entry) (e : Entry) (place : ℕ) (a : Answer) → AllByRecursion FitsEntry done → Some (place, a) ≡ answered done e → FitsAnswer a
unfolding answered
answered-fits done e place a fit is = go (find_executed done e) is
  where
    go : (o : Option (ℕ × Entry)) → ◌≡◌ {A = Option (ℕ × Answer)} (Some (place, a)) (option_map (placed done) o) → FitsAnswer a
    go None is = absurd (cc)
    go (Some p) is =
        let same : ◌≡◌ {A = ℕ × Answer} (place, a) (placed done p) = cc in
        subst (λ (q : ℕ × Answer). FitsAnswer q.1) (sym same) (answer-fits (take p.0 done) p.1 (all-take FitsEntry done p.0 fit))

pub none-dropped : (w : Waiting) (x : Draft) → is_dropped x.replica w.entry ≡ true → answer_found w None x ≡ reply_dropped w x
unfolding answer_found when◌then◌otherwise◌
none-dropped w x e = rw e refl

pub none-waits : (w : Waiting) (x : Draft) → is_dropped x.replica w.entry ≡ false →
    answer_found w None x ≡ record x { replica = record x.replica { waiting = x.replica.waiting ++ w ∷ [] } }
unfolding answer_found when◌then◌otherwise◌
none-waits w x e = rw e refl

-- one more client
pub answer-more : (ws : List Waiting) (w : Waiting) (x : Draft) →
    answer_each (ws ++ w ∷ []) x ≡ answer_found w (find_executed (executed (answer_each ws x).replica.log) w.entry) (answer_each ws x)
unfolding answer_each
answer-more [] w x = refl
answer-more (v ∷ ws) w x = answer-more ws w (answer_found v (find_executed (executed x.replica.log) v.entry) x)

-- ---- clients that all wait on

-- the client's entry is neither executed nor dropped
abbrev pub Waits : Draft → Waiting → Type 0
Waits x w = (None ≡ answered (executed x.replica.log) w.entry) × (is_dropped x.replica w.entry ≡ false)

abbrev with_waiting : Draft → List Waiting → Draft
with_waiting x ws = record x { replica = record x.replica { waiting = ws } }

wait-each : (x : Draft) (done ws : List Waiting) → AllByRecursion (Waits x) ws → answer_each ws (with_waiting x done) ≡ with_waiting x (done ++ ws)
unfolding answer_each is_dropped
wait-each x done [] all = ap (with_waiting x) (sym (append-nil done))
wait-each x done (w ∷ ws) all =
    let y : Draft = with_waiting x done in
    ap (answer_each ws) (found-none w y all.0.0 ∙ none-waits w y all.0.1)
    ∙ wait-each x (done ++ w ∷ []) ws all.1
    ∙ ap (with_waiting x) (append_assoc done (w ∷ []) ws)

pub replies-wait : (x : Draft) → AllByRecursion (Waits x) x.replica.waiting → replies x ≡ x
unfolding replies
replies-wait x all = wait-each x [] x.replica.waiting all

pub waits-paper : (x : Draft) (ws : List WaitingInMemory) → AllByRecursion (λ w. Waits x (on_paper w)) ws → AllByRecursion (Waits x) (map on_paper ws)
waits-paper x [] all = tt
waits-paper x (w ∷ ws) all = (all.0, waits-paper x ws all.1)

-- one in the middle
pub middle-fits : (P : Waiting → Type 0) (ws : List Waiting) (w : Waiting) (vs : List Waiting) → AllByRecursion P (ws ++ w ∷ vs) → P w
middle-fits P [] w vs all = all.0
middle-fits P (u ∷ ws) w vs all = middle-fits P ws w vs all.1

-- all waiting clients have encodings
pub waiting-fits : (state : ReplicaState) (x : Draft) → ReplicaStands state x → AllByRecursion FitsWaiting x.replica.waiting
unfolding ReplicaStands
waiting-fits state x s = s.sound.waiting
