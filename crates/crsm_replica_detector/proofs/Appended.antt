-- Turns appended to others.
use Rattle.std.proofs.Common.{◌≡◌, ◌↔◌, ℕ, ◌+◌, List, [], ◌∷◌, ◌++◌, refl, ap, sym, zero-add, add_assoc, ◌∙◌}
use Rattle.crsm_spec.specs.Replica.{Replica}
use Rattle.crsm_spec.specs.Node.{Turn, turn}
use Rattle.crsm_replica_detector.specs.Watching.{Watch, watched}
use Rattle.crsm_spec_process.specs.Turns.{replica_after}
use Rattle.crsm_replica_detector.specs.Wished.{AreWished, empty_receive, empty_receives, watch_after, wish_of}

pub watch_append : (w : Watch) (ts us : List (Turn × ℕ)) → watch_after w (ts ++ us) ≡ watch_after (watch_after w ts) us
unfolding watch_after
watch_append w [] us = refl
watch_append w (t ∷ ts) us = watch_append (watched w t) ts us

pub replica_append : (r : Replica) (ts us : List (Turn × ℕ)) → replica_after r (ts ++ us) ≡ replica_after (replica_after r ts) us
unfolding replica_after
replica_append r [] us = refl
replica_append r (t ∷ ts) us = replica_append (turn r t).replica ts us

split : (w : Watch) (r : Replica) (ts us : List (Turn × ℕ))
    → AreWished w r (ts ++ us) → AreWished w r ts × AreWished (watch_after w ts) (replica_after r ts) us
unfolding AreWished watch_after replica_after
split w r [] us h = (tt, h)
split w r (t ∷ ts) us h = let rest = split (watched w t) (turn r t).replica ts us h.1 in ((h.0, rest.0), rest.1)

joined : (w : Watch) (r : Replica) (ts us : List (Turn × ℕ))
    → AreWished w r ts × AreWished (watch_after w ts) (replica_after r ts) us → AreWished w r (ts ++ us)
unfolding AreWished watch_after replica_after
joined w r [] us h = h.1
joined w r (t ∷ ts) us h = (h.0.0, joined (watched w t) (turn r t).replica ts us (h.0.1, h.1))

pub wished_append : (w : Watch) (r : Replica) (ts us : List (Turn × ℕ))
    → AreWished w r (ts ++ us) ↔ (AreWished w r ts × AreWished (watch_after w ts) (replica_after r ts) us)
wished_append w r ts us = (split w r ts us, joined w r ts us)

pub empty_append : (w : Watch) (r : Replica) (ts us : List (Turn × ℕ))
    → empty_receives w r (ts ++ us) ≡ empty_receives w r ts + empty_receives (watch_after w ts) (replica_after r ts) us
unfolding empty_receives watch_after replica_after
empty_append w r [] us = sym (zero-add _)
empty_append w r (t ∷ ts) us =
    let here = empty_receive (wish_of w r) t.0 in
    ap (λ (k : ℕ). here + k) (empty_append (watched w t) (turn r t).replica ts us) ∙ sym (add_assoc here _ _)
