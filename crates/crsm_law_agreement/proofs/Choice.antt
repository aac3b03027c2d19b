-- After an epoch with one Spec all chosen decisions are equal.
use Rattle.std.proofs.Common.{◌≡◌, ℕ, zero, suc, ◌+◌, ◌<◌, ◌≤◌, List, [], ◌∷◌, refl, sym, ◌∙◌, ap, subst, inl, inr, true, false, arith, map, length, get_or}
use Rattle.std.specs.Prelude.{IsTrue, Option, Some, None, count_by}
use Rattle.std.specs.List.{Contains}
use Rattle.std.proofs.lemmas.Bool.{leb-true, false≢true}
use Rattle.std.proofs.lemmas.Option.{none-some}
use Rattle.std.proofs.lemmas.List.Elements.{Contains-append_right}
use Rattle.crsm_base.specs.Order.{ballot_lt}
use Rattle.crsm_base.proofs.Orders.{below-irrefl, le_trans, below_not_back, compare}
use Rattle.crsm_spec.specs.Types.{Ballot, Decision, Rec}
use Rattle.crsm_spec.specs.Lists.{Among, has}
use Rattle.crsm_spec.specs.Log.{Log, known, spec}
use Rattle.crsm_spec.specs.Paxos.{Answer, Found, majority, best_of, value_of, value_of_best}
use Rattle.crsm_spec.specs.Quorum.{has_majority}
use Rattle.crsm_fact_log.specs.Logs.{AllFit}
use Rattle.crsm_safety.proofs.Paxos.Best.{IsBest, best_is}
use Rattle.crsm_law_collection.proofs.Choosing.{meet}
use Rattle.crsm_fact_log.proofs.Lists.{has_from}
use Rattle.crsm_law_collection.proofs.Law.{reports_make}
use Rattle.crsm_fact_log.proofs.Logged.{end_fits}
use Rattle.crsm_law_collection.proofs.Pages.{pages_report}
use Rattle.crsm_law_collection.specs.Collecting.{IsCollected}
use Rattle.crsm_law_collection.specs.Paging.{AreParts}
use Rattle.crsm_spec.specs.Collect.{whole_ones, collected}
use Rattle.crsm_law_epoch.proofs.Words.{among_unmap}
use Rattle.crsm_law_agreement.specs.Ballots.{Offer, IsOffered, IsComplete, IsSound, AreSound, AreBallots}
use Rattle.crsm_law_agreement.specs.DecisionLaws.{IsSpecOf, ChoicesAreOne, DecidedAreComplete, CompleteAreCollected}
use Rattle.crsm_law_agreement.proofs.DecidedLogs.{accept_held, accept_before}

-- ---- lists

pub contains_among : {A : Type 0} (xs : List A) (x : A) → Among xs x → Contains xs x
contains_among [] x h = absurd h
contains_among (y ∷ ys) x (inl e) = subst (λ z. Contains (y ∷ ys) z) e (0, omega arith, refl)
contains_among (y ∷ ys) x (inr h) = Contains-append_right (y ∷ []) ys x (contains_among ys x h)

at_place : {A : Type 0} (xs : List A) (x : A) (i : ℕ) → i < length xs → get_or xs i x ≡ x → Among xs x
at_place [] x i lt e = absurd (omega (arith, lt))
at_place (y ∷ ys) x zero lt e = inl e
at_place (y ∷ ys) x (suc i) lt e = inr (at_place ys x i (omega (arith, lt)) e)

among_contains : {A : Type 0} (xs : List A) (x : A) → Contains xs x → Among xs x
among_contains xs x c = at_place xs x c.0 c.1 c.2

many_is : (counted ks : List ℕ) → IsTrue (has_majority counted ks) → majority (length counted) ≤ count_by (has ks) counted
unfolding has_majority
many_is counted ks h = leb-true (majority (length counted)) (count_by (has ks) counted) h

-- two majorities share a replica
pub share : (counted ks js : List ℕ) → IsTrue (has_majority counted ks) → IsTrue (has_majority counted js) → (k : ℕ) × Among ks k × Among js k
share counted ks js h i = let t = meet (has ks) (has js) counted (many_is counted ks h) (many_is counted js i) in (t.0, has_from ks t.0 t.1, has_from js t.0 t.2)

-- ---- offers

pub same_offer : (n : ℕ) (logs : ℕ → Log) (os : List Offer) → AreSound n logs os → (p q : Offer) → Among os p → Among os q → p.instance ≡ q.instance → p.ballot ≡ q.ballot → p ≡ q
same_offer n logs [] h p q a b i e = absurd a
same_offer n logs (o ∷ os) h p q (inl a) (inl b) i e = sym a ∙ b
same_offer n logs (o ∷ os) h p q (inl a) (inr b) i e = absurd (h.0.only q b (sym i ∙ ap (λ z. z.instance) (sym a)) (sym e ∙ ap (λ z. z.ballot) (sym a)))
same_offer n logs (o ∷ os) h p q (inr a) (inl b) i e = absurd (h.0.only p a (i ∙ ap (λ z. z.instance) (sym b)) (e ∙ ap (λ z. z.ballot) (sym b)))
same_offer n logs (o ∷ os) h p q (inr a) (inr b) i e = same_offer n logs os h.1 p q a b i e

pub one_value : (n : ℕ) (logs : ℕ → Log) (os : List Offer) → AreSound n logs os → (i : ℕ) (b : Ballot) (c d : Decision) → IsOffered os i b c → IsOffered os i b d → c ≡ d
one_value n logs os h i b c d p q =
    let e = same_offer n logs os h p.offer q.offer p.among q.among (p.instance ∙ sym q.instance) (p.ballot ∙ sym q.ballot) in
    sym p.value ∙ ap (λ (o : Offer). value_of o.own o.answers) e ∙ q.value

-- the value that answers leave is the own one, or was named by one of them, in a ballot that is not below any that was
-- named
pub data Leaves (own : Decision) (answers : List (Answer Decision)) : Decision → Type 0 where
  Own : ((a : Answer Decision) → Among answers a → a.accepted ≡ None) → Leaves own answers own
  Named : (a : Answer Decision) (b : Ballot) (d : Decision) → Among answers a → a.accepted ≡ Some (b, d) →
      ((x : Answer Decision) (c : Ballot) (v : Decision) → Among answers x → x.accepted ≡ Some (c, v) → ballot_lt b c ≡ false) → Leaves own answers d

pub leaves : (own : Decision) (answers : List (Answer Decision)) → Leaves own answers (value_of own answers)
leaves own answers = go (best_of answers) (best_is Decision answers)
  where
    go : (best : Option (Found Decision)) → IsBest Decision answers best → Leaves own answers (value_of_best own best)
    go None is = Own (λ a h. is a (contains_among answers a h))
    go (Some f) is = Named (record { replica = f.replica; accepted = Some (f.ballot, f.value) }) f.ballot f.value (among_contains answers _ is.named) refl
        (λ x c v h e. is.greatest x (contains_among answers x h) (c, v) e)

-- ---- what a majority has accepted

module _ (n e : ℕ) (counted : List ℕ) (logs : ℕ → Log) (fit : (k : ℕ) → AllFit k n (logs k)) (all : AreBallots n logs) (specs : IsSpecOf n e counted logs)
    (b : Ballot) (d : Decision) (voters : List ℕ) (many : IsTrue (has_majority counted voters)) (voted : (k : ℕ) → Among voters k → Among (logs k) (Rec.Accept (e + 1) b d)) where
  known_is : (i k : ℕ) → i ≡ k + 1 → i ≡ e + 1 → k ≡ e
  known_is i k p q = omega (arith, p, q)

  -- an offer above it, where those before it keep to it
  above_follows : (o : Offer) (os : List Offer) → IsSound n logs os o → o.instance ≡ e + 1 → ballot_lt b o.ballot ≡ true →
      ((p : Offer) → Among os p → p.instance ≡ e + 1 → ballot_lt p.ballot b ≡ false → value_of p.own p.answers ≡ d) → value_of o.own o.answers ≡ d
  above_follows o os s at lt before =
      let in_spec = specs o.ballot.by s.log s.was (known_is o.instance (known s.log) s.next at) in
      let k = share counted voters (map (λ a. a.replica) o.answers) many (subst (λ l. IsTrue (has_majority l (map (λ a. a.replica) o.answers))) in_spec s.many) in
      let a = among_unmap (λ (x : Answer Decision). x.replica) o.answers k.0 k.2 in
      let p = s.promised a.0 a.1 in
      let next_is = sym at ∙ p.next in
      let was = accept_before a.0.replica n p.log (logs a.0.replica) (e + 1) b d p.earlier (fit a.0.replica) next_is (subst (λ z. ballot_lt b z ≡ true) (sym p.has_promised) lt)
      (voted a.0.replica (subst (Among voters) (sym a.2) k.1)) in
      let held = accept_held a.0.replica n p.log (e + 1) b d (end_fits a.0.replica n p.earlier (fit a.0.replica)) was next_is in
      go a.0 a.1 held.ballot held.value (p.had_accepted ∙ held.is) held.not_below (value_of o.own o.answers) (leaves o.own o.answers)
    where
      go : (a : Answer Decision) → Among o.answers a → (c : Ballot) (v : Decision) → a.accepted ≡ Some (c, v) → ballot_lt c b ≡ false → (u : Decision) → Leaves o.own o.answers u → u ≡ d
      go a h c v is low u (Own none) = absurd (none-some (c, v) (sym (none a h) ∙ is))
      go a h c v is low u (Named x f w g names top) =
          let t = s.named x g f w names in
          sym t.value ∙ before t.offer t.among (t.instance ∙ at) (subst (λ z. ballot_lt z b ≡ false) (sym t.ballot) (le_trans b c f low (top a c v h is)))

  voted_offered : IsOffered all.offers (e + 1) b d
  voted_offered = let k = share counted voters voters many many in all.accepted k.0 (e + 1) b d (voted k.0 k.1)

  -- each offer of the ballot or of one above is of d
  follows : (os : List Offer) → AreSound n logs os → ((o : Offer) → Among os o → Among all.offers o) → (o : Offer) → Among os o → o.instance ≡ e + 1 → ballot_lt o.ballot b ≡ false → value_of o.own o.answers ≡ d
  follows [] s sub p a at low = absurd a
  follows (o ∷ os) s sub p (inr a) at low = follows os s.1 (λ q h. sub q (inr h)) p a at low
  follows (o ∷ os) s sub p (inl same) at low = subst (λ (z : Offer). value_of z.own z.answers ≡ d) same (elim (compare b o.ballot) [
    | inl lt ↦ above_follows o os s.0 at_o lt (follows os s.1 (λ q h. sub q (inr h)))
    | inr q ↦ elim q [
      | inl eq ↦ one_value n logs all.offers all.sound (e + 1) b (value_of o.own o.answers) d (record { offer = o; among = sub o (inl refl); instance = at_o; ballot = sym eq; value = refl }) voted_offered
      | inr gt ↦ absurd (false≢true (sym (subst (λ (z : Offer). ballot_lt z.ballot b ≡ false) (sym same) low) ∙ gt))
    ]
  ])
    where
      at_o : o.instance ≡ e + 1
      at_o = ap (λ (z : Offer). z.instance) same ∙ at

  -- what was accepted in the ballot or in one above is d
  pub accepted_follows : (k : ℕ) (c : Ballot) (v : Decision) → Among (logs k) (Rec.Accept (e + 1) c v) → ballot_lt c b ≡ false → v ≡ d
  accepted_follows k c v a low =
      let t = all.accepted k (e + 1) c v a in
      sym t.value ∙ follows all.offers all.sound (λ o h. h) t.offer t.among t.instance (subst (λ z. ballot_lt z b ≡ false) (sym t.ballot) low)

pub choices_are_one : ChoicesAreOne
choices_are_one n e counted logs fit all specs j k c d hc hd ec ed =
    let p = all.decided j c hc in
    let q = all.decided k d hd in
    let many_p = subst (λ l. IsTrue (has_majority l p.voters)) (specs p.by p.log p.earlier (known_at c.epoch (known p.log) p.next ec)) p.many in
    let many_q = subst (λ l. IsTrue (has_majority l q.voters)) (specs q.by q.log q.earlier (known_at d.epoch (known q.log) q.next ed)) q.many in
    let voted_p = λ (i : ℕ) (h : Among p.voters i). subst (λ z. Among (logs i) (Rec.Accept z p.ballot c)) ec (p.accepted i h) in
    let voted_q = λ (i : ℕ) (h : Among q.voters i). subst (λ z. Among (logs i) (Rec.Accept z q.ballot d)) ed (q.accepted i h) in
    let some_p = share counted p.voters p.voters many_p many_p in
    let some_q = share counted q.voters q.voters many_q many_q in
    let up = λ (low : ballot_lt q.ballot p.ballot ≡ false). sym (accepted_follows n e counted logs fit all specs p.ballot c p.voters many_p voted_p some_q.0 q.ballot d (voted_q some_q.0 some_q.1) low) in
    let down = λ (low : ballot_lt p.ballot q.ballot ≡ false). accepted_follows n e counted logs fit all specs q.ballot d q.voters many_q voted_q some_p.0 p.ballot c (voted_p some_p.0 some_p.1) low in
    elim (compare p.ballot q.ballot) [
      | inl lt ↦ up (below_not_back p.ballot q.ballot lt)
      | inr r ↦ elim r [
        | inl eq ↦ up (subst (λ z. ballot_lt z p.ballot ≡ false) eq (below-irrefl p.ballot))
        | inr gt ↦ down (below_not_back q.ballot p.ballot gt)
      ]
    ]
  where
    known_at : (i k : ℕ) → i ≡ k + 1 → i ≡ e + 1 → k ≡ e
    known_at i k p q = omega (arith, p, q)

-- ---- what is offered was made of reports

complete_value : (n : ℕ) (logs : ℕ → Log) (o : Offer) (os : List Offer) → IsSound n logs os o → ((p : Offer) → Among os p → IsComplete n logs p.instance (value_of p.own p.answers)) → (u : Decision) → Leaves o.own o.answers u → IsComplete n logs o.instance u
complete_value n logs o os s before u (Own none) = s.complete
complete_value n logs o os s before u (Named x f w g names top) =
    let t = s.named x g f w names in
    subst (λ z. IsComplete n logs o.instance z) t.value (subst (λ z. IsComplete n logs z (value_of t.offer.own t.offer.answers)) t.instance (before t.offer t.among))

offers_complete : (n : ℕ) (logs : ℕ → Log) (os : List Offer) → AreSound n logs os → (o : Offer) → Among os o → IsComplete n logs o.instance (value_of o.own o.answers)
offers_complete n logs [] s o a = absurd a
offers_complete n logs (o ∷ os) s p (inr a) = offers_complete n logs os s.1 p a
offers_complete n logs (o ∷ os) s p (inl same) =
    subst (λ (z : Offer). IsComplete n logs z.instance (value_of z.own z.answers)) same (complete_value n logs o os s.0 (offers_complete n logs os s.1) (value_of o.own o.answers) (leaves o.own o.answers))

offered_complete : (n : ℕ) (logs : ℕ → Log) (all : AreBallots n logs) (i : ℕ) (b : Ballot) (d : Decision) → IsOffered all.offers i b d → IsComplete n logs i d
offered_complete n logs all i b d t =
    subst (λ z. IsComplete n logs i z) t.value (subst (λ z. IsComplete n logs z (value_of t.offer.own t.offer.answers)) t.instance (offers_complete n logs all.offers all.sound t.offer t.among))

pub decided_are_complete : DecidedAreComplete
decided_are_complete n logs all = (
  λ k i b d a. offered_complete n logs all i b d (all.accepted k i b d a),
  λ k d a.
      let t = all.decided k d a in
      let v = share (spec n t.log) t.voters t.voters t.many t.many in
      offered_complete n logs all d.epoch t.ballot d (all.accepted v.0 d.epoch t.ballot d (t.accepted v.0 v.1)),
)

-- what is made of whole reports of an epoch is a collection of it
pub complete_are_collected : CompleteAreCollected
complete_are_collected n e begins counted logs facts specs i d at c =
    let knows = known_at (known c.log) c.next in
    let is_spec = specs c.by c.log c.earlier knows in
    let parts : AreParts e logs c.pages = subst (λ z. AreParts z logs c.pages) knows c.parts in
    let many = subst (λ l. IsTrue (has_majority l (whole_ones l c.pages))) is_spec c.many in
    let made = reports_make e n begins counted c.members c.named logs c.log c.pages facts knows (facts.begin c.by c.log c.earlier knows)
    (many_is counted (whole_ones counted c.pages) many) (pages_report e counted logs c.pages parts) in
    subst (IsCollected e begins counted logs) (sym (c.is ∙ ap (λ l. collected l c.named c.log c.members c.pages) is_spec)) made
  where
    known_at : (k : ℕ) → i ≡ k + 1 → k ≡ e
    known_at k p = omega (arith, p, at)
