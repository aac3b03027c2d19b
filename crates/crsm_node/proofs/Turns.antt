-- Turns appended to others.
use Rattle.std.proofs.Common.{◌≡◌, ℕ, suc, ◌+◌, List, [], ◌∷◌, ◌++◌, length, map, refl, sym, ◌∙◌, ap, arith, append_assoc, length-append}
use Rattle.std.proofs.lemmas.List.{append-nil}
use Rattle.std.proofs.lemmas.Grind.{flat_map-append}
use Rattle.std.specs.List.{flat_map}
use Rattle.crsm_fact_step.proofs.Batches.{turn_grown}
use Rattle.crsm_spec.specs.Draft.{Draft}
use Rattle.crsm_spec.specs.Node.{Turn, outputs_from, turn}
use Rattle.crsm_spec.specs.Replica.{Replica}
use Rattle.crsm_spec_process.specs.Lives.{Group, kept_turns}
use Rattle.crsm_replica_detector.specs.Watching.{Watch, watched}
use Rattle.crsm_spec_process.specs.Turns.{replica_after}
use Rattle.crsm_replica_detector.specs.Wished.{AreWished, Fulfils, empty_receive, empty_receives, watch_after, wish_of}
use Rattle.crsm_node.specs.Kept.{bodies_in_log, body_in_log}
use Rattle.crsm_node.specs.Sent.{steps_by_group}

-- ---- one turn more

pub replica_more : (r : Replica) (ts : List (Turn × ℕ)) (t : Turn × ℕ) → replica_after r (ts ++ t ∷ []) ≡ (turn (replica_after r ts) t).replica
unfolding replica_after
replica_more r [] t = refl
replica_more r (x ∷ ts) t = replica_more (turn r x).replica ts t

pub watch_more : (w : Watch) (ts : List (Turn × ℕ)) (t : Turn × ℕ) → watch_after w (ts ++ t ∷ []) ≡ watched (watch_after w ts) t
unfolding watch_after
watch_more w [] t = refl
watch_more w (x ∷ ts) t = watch_more (watched w x) ts t

pub outputs_more : (r : Replica) (ts : List (Turn × ℕ)) (t : Turn × ℕ) → outputs_from r (ts ++ t ∷ []) ≡ outputs_from r ts ++ turn (replica_after r ts) t ∷ []
unfolding replica_after outputs_from
outputs_more r [] t = refl
outputs_more r (x ∷ ts) t = ap (λ (xs : List Draft). turn r x ∷ xs) (outputs_more (turn r x).replica ts t)

pub wished_more : (w : Watch) (r : Replica) (ts : List (Turn × ℕ)) (t : Turn × ℕ) → AreWished w r ts → Fulfils (wish_of (watch_after w ts) (replica_after r ts)) t.0 → AreWished w r (ts ++ t ∷ [])
unfolding AreWished watch_after replica_after
wished_more w r [] t are is = (is, tt)
wished_more w r (x ∷ ts) t are is = (are.0, wished_more (watched w x) (turn r x).replica ts t are.1 is)

pub empty_more : (w : Watch) (r : Replica) (ts : List (Turn × ℕ)) (t : Turn × ℕ) →
    empty_receives w r (ts ++ t ∷ []) ≡ empty_receives w r ts + empty_receive (wish_of (watch_after w ts) (replica_after r ts)) t.0
unfolding empty_receives watch_after replica_after
empty_more w r [] t = omega arith
empty_more w r (x ∷ ts) t = omega (arith, empty_more (watched w x) (turn r x).replica ts t)

pub count_more : (ts : List (Turn × ℕ)) (t : Turn × ℕ) → length (ts ++ t ∷ []) ≡ length ts + 1
count_more ts t = length-append ts (t ∷ [])

-- ---- turns behind others

-- it is the same replica, of as many
pub same_replica : (r : Replica) (ts : List (Turn × ℕ)) → ((replica_after r ts).me ≡ r.me) × ((replica_after r ts).n ≡ r.n)
unfolding replica_after
same_replica r [] = (refl, refl)
same_replica r (t ∷ ts) =
    let one = turn_grown r t in
    let on = same_replica (turn r t).replica ts in
    (on.0 ∙ one.me, on.1 ∙ one.n)

pub replica_append : (r : Replica) (ts us : List (Turn × ℕ)) → replica_after r (ts ++ us) ≡ replica_after (replica_after r ts) us
unfolding replica_after
replica_append r [] us = refl
replica_append r (t ∷ ts) us = replica_append (turn r t).replica ts us

pub outputs_append : (r : Replica) (ts us : List (Turn × ℕ)) → outputs_from r (ts ++ us) ≡ outputs_from r ts ++ outputs_from (replica_after r ts) us
unfolding replica_after outputs_from
outputs_append r [] us = refl
outputs_append r (t ∷ ts) us = ap (λ (xs : List Draft). turn r t ∷ xs) (outputs_append (turn r t).replica ts us)

pub count_outputs : (r : Replica) (ts : List (Turn × ℕ)) → length (outputs_from r ts) ≡ length ts
unfolding outputs_from
count_outputs r [] = refl
count_outputs r (t ∷ ts) = ap (λ n. suc n) (count_outputs (turn r t).replica ts)

-- ---- one group more

pub kept_more : (groups : List Group) (g : Group) → kept_turns (groups ++ g ∷ []) ≡ kept_turns groups ++ g.turns
unfolding kept_turns
kept_more groups g = flat_map-append (λ (x : Group). x.turns) groups (g ∷ []) ∙ ap (λ (ts : List (Turn × ℕ)). flat_map (λ (x : Group). x.turns) groups ++ ts) (append-nil g.turns)

-- the bodies of groups, with those of the turns behind them
pub bodies_more : (r : Replica) (groups : List Group) (ts : List (Turn × ℕ)) →
    bodies_in_log r (map (λ (g : Group). g.turns) groups ++ ts ∷ []) ≡ bodies_in_log r (map (λ (g : Group). g.turns) groups) ++ body_in_log (outputs_from (replica_after r (kept_turns groups)) ts)
unfolding bodies_in_log steps_by_group replica_after kept_turns
bodies_more r [] ts = append-nil (body_in_log (outputs_from r ts))
bodies_more r (g ∷ groups) ts =
    let rest = bodies_more (replica_after r g.turns) groups ts in
    let first : List (List ℕ) = body_in_log (outputs_from r g.turns) in
    ap (λ (xs : List (List ℕ)). first ++ xs)
    (rest ∙ ap (λ (x : Replica). bodies_in_log (replica_after r g.turns) (map (λ (k : Group). k.turns) groups) ++ body_in_log (outputs_from x ts)) (sym (replica_append r g.turns (flat_map (λ (k : Group). k.turns) groups))))
    ∙ sym (append_assoc first (bodies_in_log (replica_after r g.turns) (map (λ (k : Group). k.turns) groups)) (body_in_log (outputs_from (replica_after r (g.turns ++ flat_map (λ (k : Group). k.turns) groups)) ts)))
