-- A list of a history in which one of its answers is seen.
use Rattle.std.proofs.Common.{◌≡◌, ℕ, zero, suc, ◌+◌, Bool, true, false, cond, List, [], ◌∷◌, refl, sym, ◌∙◌, ap, subst, arith}
use Rattle.std.specs.Prelude.{◌==◌, Some, None, slice_get}
use Rattle.std.proofs.lemmas.Bool.{eq-eqb, eqb-true}
use Rattle.std.proofs.lemmas.Option.{none-some, same_Some}
use Rattle.crsm_spec.specs.Types.{Answer, Entry, Line}
use Rattle.crsm_spec.specs.Draft.{Reply}
use Rattle.crsm_law_cluster.specs.Clusters.{Event}
use Rattle.crsm_law_cluster.specs.Going.{IsReplied}
use Rattle.crsm_law_cluster.specs.OneList.{one_list}
use Rattle.crsm_law_cluster.specs.ClusterLaws.{IsHistory, AnswersAreRight}
use Rattle.crsm_law_cluster.specs.RequestLaws.{EntriesWereSubmitted}
use Rattle.crsm_law_shards.specs.Served.{Answered, Served, entries_of}
use Rattle.crsm_law_shards.specs.Clusters.{AnswersAreSeen, IsAsked, IsHad, IsSeen}

module _ (place : ℕ) (b : Answered) where
  -- the entry at place p, which is answered if that is the place
  abbrev at_place : ℕ → Entry → Served
  at_place p e = record { entry = e; asked = 0; answered = cond (p == place) (Some b) None }

  abbrev from_place : ℕ → List Entry → List Served
  from_place p [] = []
  from_place p (e ∷ es) = at_place p e ∷ from_place (suc p) es

  entries_are : (p : ℕ) (es : List Entry) → entries_of (from_place p es) ≡ es
  entries_are p [] = refl
  entries_are p (e ∷ es) = ap (λ l. e ∷ l) (entries_are (suc p) es)

  got : (p : ℕ) (es : List Entry) (j : ℕ) (x : Served) → slice_get (from_place p es) j ≡ Some x → (e : Entry) × (slice_get es j ≡ Some e) × (at_place (p + j) e ≡ x)
  got p [] j x at = absurd (none-some x at)
  got p (e ∷ es) zero x at = (e, refl, subst (λ i. at_place i e ≡ x) (omega arith) (same_Some (at_place p e) x at))
  got p (e ∷ es) (suc j) x at = let t = got (suc p) es j x at in (t.0, t.1, subst (λ i. at_place i t.0 ≡ x) (omega arith) t.2)

  put : (p : ℕ) (es : List Entry) (j : ℕ) (e : Entry) → slice_get es j ≡ Some e → slice_get (from_place p es) j ≡ Some (at_place (p + j) e)
  put p [] j e at = absurd (none-some e at)
  put p (f ∷ es) zero e at = subst (λ i. Some (at_place p f) ≡ Some (at_place i e)) (omega arith) (ap (λ g. Some (at_place p g)) (same_Some f e at))
  put p (f ∷ es) (suc j) e at = subst (λ i. slice_get (from_place (suc p) es) j ≡ Some (at_place i e)) (omega arith) (put (suc p) es j e at)

  only_there : (p : ℕ) (a : Answered) → cond (p == place) (Some b) None ≡ Some a → (p ≡ place) × (b ≡ a)
  only_there p a is = go (p == place) refl is
    where
      go : (c : Bool) → (p == place) ≡ c → cond c (Some b) None ≡ Some a → (p ≡ place) × (b ≡ a)
      go true e f = (eqb-true p place e, same_Some b a f)
      go false e f = absurd (none-some a f)

module _ (right : AnswersAreRight) (submitted : EntriesWereSubmitted) (n : ℕ) (h : List Event) (q : IsHistory n h) (time : ℕ → ℕ) (i k by client number place : ℕ) (a : Answer) (reply : Reply)
    (sent : IsReplied n h i k reply) (line : reply.line ≡ Line.ReplyOk by client number place a) where
  abbrev seen_answer : Answered
  seen_answer = record { answer = a; had = time i }

  abbrev the_list : List Served
  the_list = from_place place seen_answer 0 (one_list n h)

  asked : (p : ℕ) (x : Served) → slice_get the_list p ≡ Some x → IsAsked n h time x
  asked p x at =
      let t = got place seen_answer 0 (one_list n h) p x at in
      let s = submitted n h q p t.0 t.1 in
      subst (IsAsked n h time) t.2 (record { event = s.0; address = s.1; submitted = s.2; before = omega arith })

  had : IsHad n h time place seen_answer
  had = record { event = i; node = k; reply = reply; sent = sent; by = by; client = client; number = number; line = line; after = omega arith }

  answered : (p : ℕ) (x : Served) (c : Answered) → slice_get the_list p ≡ Some x → x.answered ≡ Some c → IsHad n h time p c
  answered p x c at is =
      let t = got place seen_answer 0 (one_list n h) p x at in
      let w = only_there place seen_answer (0 + p) c (ap (λ (y : Served). y.answered) t.2 ∙ is) in
      let here : place ≡ p = sym w.0 ∙ omega arith in
      subst (λ d. IsHad n h time p d) w.1 (subst (λ r. IsHad n h time r seen_answer) here had)

  is_seen : IsSeen n h time the_list
  is_seen = record { entries = entries_are place seen_answer 0 (one_list n h); asked = asked; answered = answered }

  there : (x : Served) × (slice_get the_list place ≡ Some x) × (x.answered ≡ Some seen_answer)
  there =
      let r = (right n h q).answered i k by client number place a reply sent line in (
        at_place place seen_answer (0 + place) r.entry,
        put place seen_answer 0 (one_list n h) place r.entry r.at.0,
        ap (λ (c : Bool). cond c (Some seen_answer) None) (eq-eqb (0 + place) place (omega arith)),
      )

pub answers_seen : AnswersAreRight → EntriesWereSubmitted → AnswersAreSeen
answers_seen right submitted n h q time i k by client number place a reply sent line =
    let t = there right submitted n h q time i k by client number place a reply sent line in
    (the_list right submitted n h q time i k by client number place a reply sent line, is_seen right submitted n h q time i k by client number place a reply sent line, t.0, t.1, t.2)
