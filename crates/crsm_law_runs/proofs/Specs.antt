-- The Spec of each epoch has distinct replicas, and is the same at every world of a run.
use Rattle.std.proofs.Common.{◌≡◌, ℕ, zero, suc, ◌+◌, ◌≤◌, List, [], ◌∷◌, length, refl, sym, ◌∙◌, ap, subst, inl, inr, Bool, true, false, cond, nat_eq, arith}
use Rattle.std.specs.Prelude.{◌⊎◌, Option, Some, None, slice_get, find, filter, flat_map, count_by, unwrap_or, ◌==◌}
use Rattle.std.specs.List.{IsDistinct, AllByRecursion}
use Rattle.std.specs.Option.{option_map_or}
use Rattle.std.proofs.lemmas.Bool.{eqb-true, eq-eqb, false≢true, ne_eqb}
use Rattle.std.proofs.lemmas.Option.{none-some, same_Some}
use Rattle.std.proofs.lemmas.List.Sums.{length-filter}
use Rattle.crsm_spec.specs.Types.{Entry, Decision, Rec}
use Rattle.crsm_spec.specs.Lists.{Among, numbers_below}
use Rattle.crsm_spec.specs.Log.{Log, known, decision, spec}
use Rattle.crsm_spec.specs.Quorum.{spec_decided}
use Rattle.crsm_spec.specs.Replica.{LogPage}
use Rattle.crsm_spec.specs.Collect.{collected}
use Rattle.crsm_spec.specs.Paxos.{majority, IsMajority}
use Rattle.crsm_spec.specs.World.{Site, World, begin, log_of, log_at}
use Rattle.crsm_spec.specs.Acts.{Act}
use Rattle.crsm_spec.specs.Run.{ArePossible, last_world}
use Rattle.crsm_spec.specs.Decided.{decisions, decisions_in, decision_of, spec_at}
use Rattle.crsm_fact_log.specs.Logs.{Extends}
use Rattle.crsm_law_steps.specs.Happenings.{IsReached}
use Rattle.crsm_fact_log.proofs.Lists.{flat_in, kept_from}
use Rattle.crsm_fact_log.proofs.Logged.{end_fits}
use Rattle.crsm_law_epoch.specs.Numbers.{Distinct}
use Rattle.crsm_law_epoch.proofs.Words.{distinct_range, distinct_filter}
use Rattle.crsm_law_epoch.specs.Ordered.{IsOrdered, AreOrdered}
use Rattle.crsm_law_epoch.specs.LogWorlds.{HasFewBoots}
use Rattle.crsm_law_epoch.proofs.LogWorlds.{all_held, logs_fit, decisions_are_ordered}
use Rattle.crsm_law_epoch.proofs.LogMembers.{members_distinct}
use Rattle.crsm_law_steps.proofs.Happen.{got_among}
use Rattle.crsm_law_messages.specs.Counted.{AllSpelt}
use Rattle.crsm_law_agreement.proofs.Choice.{contains_among, decided_are_complete}
use Rattle.crsm_law_agreement.proofs.Coordinators.{extends_among}
use Rattle.crsm_law_agreement.proofs.DecidedWorlds.{ballots_hold}
use Rattle.crsm_law_agreement.proofs.BallotsAgree.{Knows, First, Later, knows, decided_later, decisions_are_one}
use Rattle.crsm_law_runs.proofs.Runs.{last_on}
use Rattle.crsm_law_runs.specs.Last.{IsLast, IsBefore, start_in, GoesOnWith, IsDurableIn, DecisionsAgreeIn}
use Rattle.crsm_law_runs.proofs.Last.{end_before, last_of_run}
use Rattle.crsm_law_runs.proofs.DurableLists.{among_contains}
use Rattle.crsm_law_runs.proofs.Decisions.{decided_in}

-- ---- majorities

all_apart : (k : ℕ) (ks : List ℕ) → (Among ks k → ⊥) → AllByRecursion (λ j. nat_eq k j ≡ false) ks
all_apart k [] h = tt
all_apart k (j ∷ ks) h = (not_equal (λ e. h (inl (sym e))), all_apart k ks (λ a. h (inr a)))
  where
    not_equal : (k ≡ j → ⊥) → nat_eq k j ≡ false
    not_equal ne = ne_eqb k j ne

is_distinct : (ks : List ℕ) → Distinct ks → IsDistinct nat_eq ks
unfolding IsDistinct
is_distinct [] d = tt
is_distinct (k ∷ ks) d = (all_apart k ks d.0, is_distinct ks d.1)

-- those of a Spec that pass a test
pub passing : (counted : List ℕ) (test : ℕ → Bool) → Distinct counted → majority (length counted) ≤ count_by test counted → IsMajority counted (filter test counted)
passing counted test d many = record {
  distinct = is_distinct (filter test counted) (distinct_filter test counted d);
  of_spec = λ r c. contains_among counted r (kept_from test counted r (among_contains (filter test counted) r c)).0;
  enough = let l = length-filter test counted in omega (arith, l, many);
}

-- ---- distinct Specs

ordered_of : (log : Log) (d : Decision) → AreOrdered log → Among log (Rec.Decide d) → IsOrdered d
ordered_of [] d h a = absurd a
ordered_of (Rec.Decide c ∷ log) d h (inl e) = subst IsOrdered (same_decision c d e) h.0
  where
    same_decision : (c d : Decision) → Rec.Decide c ≡ Rec.Decide d → c ≡ d
    same_decision c d e = cc
ordered_of (rec ∷ log) d h (inr a) = ordered_of log d h.1 a
ordered_of (Rec.Boot me n ∷ log) d h (inl e) = absurd (cc)
ordered_of (Rec.Prepare f ∷ log) d h (inl e) = absurd (cc)
ordered_of (Rec.Commit s ∷ log) d h (inl e) = absurd (cc)
ordered_of (Rec.Adopt place es ∷ log) d h (inl e) = absurd (cc)
ordered_of (Rec.Suspend x ∷ log) d h (inl e) = absurd (cc)
ordered_of (Rec.Promise i b ∷ log) d h (inl e) = absurd (cc)
ordered_of (Rec.Accept i b c ∷ log) d h (inl e) = absurd (cc)
ordered_of (Rec.Enter x ∷ log) d h (inl e) = absurd (cc)

collected_spec : (counted : List ℕ) (named : Option (List ℕ)) (log : Log) (ms : List ℕ) (pages : List LogPage) → (collected counted named log ms pages).spec ≡ named
unfolding collected
collected_spec counted named log ms pages = refl

collected_members : (counted : List ℕ) (named : Option (List ℕ)) (log : Log) (ms : List ℕ) (pages : List LogPage) → (collected counted named log ms pages).members ≡ ms
unfolding collected
collected_members counted named log ms pages = refl

spec_of_decision : (n : ℕ) (log : Log) (o : Option Decision) → decision log ≡ o → spec n log ≡ spec_decided n o
unfolding spec
spec_of_decision n log o e = ap (spec_decided n) e

none_named : (n : ℕ) → Distinct (spec_decided n None)
unfolding spec_decided numbers_below
none_named n = distinct_range 0 n

some_named : (n : ℕ) (d : Decision) → ((s : List ℕ) → d.spec ≡ Some s → Distinct s) → Distinct (spec_decided n (Some d))
unfolding spec_decided numbers_below
some_named n d h = go d.spec refl
  where
    go : (o : Option (List ℕ)) → d.spec ≡ o → Distinct (unwrap_or o (numbers_below n))
    go None e = distinct_range 0 n
    go (Some s) e = h s e

module _ (n : ℕ) (w : World) (q : IsReached n w) (few : HasFewBoots w) (spelt : AllSpelt n w) where
  pub distinct_spec : (e : ℕ) (k : ℕ) (log : Log) → Extends log (log_at w k) → known log ≡ e → Distinct (spec n log)
  distinct_spec zero k log x kn = go (decision log) refl (knows k n log (end_fits k n x (logs_fit n w q few k)) 0 kn)
    where
      go : (o : Option Decision) → decision log ≡ o → Knows log 0 o → Distinct (spec n log)
      go None is (First h) = subst Distinct (sym (spec_of_decision n log None is)) (none_named n)
      go (Some _) is (Later d a at lt) = absurd (omega (arith, lt))
  distinct_spec (suc e) k log x kn = go (decision log) refl (knows k n log (end_fits k n x (logs_fit n w q few k)) (suc e) kn) (λ j b y km. distinct_spec e j b y km)
    where
      known_at : (i j : ℕ) → i ≡ j + 1 → i ≡ suc e → j ≡ e
      known_at i j h g = omega (arith, h, g)

      go : (o : Option Decision) → decision log ≡ o → Knows log (suc e) o → ((j : ℕ) (b : Log) → Extends b (log_at w j) → known b ≡ e → Distinct (spec n b)) → Distinct (spec n log)
      go None is (First h) before = absurd (omega (arith, h))
      go (Some _) is (Later d a at lt) before =
          let there = extends_among x (Rec.Decide d) a in
          let c = (decided_are_complete n (log_at w) (ballots_hold n w q few spelt)).1 k d there in
          let named : d.spec ≡ c.named = ap (λ (z : Decision). z.spec) c.is ∙ collected_spec (spec n c.log) c.named c.log c.members c.pages in
          let members : d.members ≡ c.members = ap (λ (z : Decision). z.members) c.is ∙ collected_members (spec n c.log) c.named c.log c.members c.pages in
          subst Distinct (sym (spec_of_decision n log (Some d) is)) (some_named n d (λ s e'. elim (c.names s (sym named ∙ e')) [
            | inl h ↦ subst Distinct (sym h) (before c.by c.log c.earlier (known_at d.epoch (known c.log) c.next at))
            | inr h ↦ subst Distinct (members ∙ sym h) (members_distinct d.members (ordered_of (log_at w k) d (decisions_are_ordered n w q k) there))
          ]))

-- ---- the Spec that a run gives an epoch

find_none : (e : ℕ) (ds : List Decision) → find (λ d. d.epoch == e) ds ≡ None → (d : Decision) → Among ds d → d.epoch ≡ e → ⊥
find_none e [] h d a at = a
find_none e (c ∷ ds) h d a at = go (c.epoch == e) refl h a (λ q b. find_none e ds q d b at)
  where
    go : (b : Bool) → (c.epoch == e) ≡ b → cond b (Some c) (find (λ d. d.epoch == e) ds) ≡ None → (c ≡ d) ⊎ Among ds d → (find (λ d. d.epoch == e) ds ≡ None → Among ds d → ⊥) → ⊥
    go true t q r rest = none-some c (sym q)
    go false t q (inl is) rest = false≢true (sym t ∙ eq-eqb c.epoch e (ap (λ (z : Decision). z.epoch) is ∙ at))
    go false t q (inr b) rest = rest q b

find_some : (e : ℕ) (ds : List Decision) (d : Decision) → find (λ d. d.epoch == e) ds ≡ Some d → Among ds d × (d.epoch ≡ e)
find_some e [] d h = absurd (none-some d h)
find_some e (c ∷ ds) d h = go (c.epoch == e) refl h (λ q. find_some e ds d q)
  where
    go : (b : Bool) → (c.epoch == e) ≡ b → cond b (Some c) (find (λ d. d.epoch == e) ds) ≡ Some d → (find (λ d. d.epoch == e) ds ≡ Some d → Among ds d × (d.epoch ≡ e)) → Among (c ∷ ds) d × (d.epoch ≡ e)
    go true t q rest = (inl (same_Some c d q), subst (λ (z : Decision). z.epoch ≡ e) (same_Some c d q) (eqb-true c.epoch e t))
    go false t q rest = let r = rest q in (inr r.0, r.1)

in_decisions : (log : Log) (d : Decision) → Among log (Rec.Decide d) → Among (decisions log) d
unfolding decisions
in_decisions [] d a = absurd a
in_decisions (Rec.Decide c ∷ log) d (inl e) = inl (same_decision c d e)
  where
    same_decision : (c d : Decision) → Rec.Decide c ≡ Rec.Decide d → c ≡ d
    same_decision c d e = cc
in_decisions (Rec.Decide c ∷ log) d (inr a) = inr (in_decisions log d a)
in_decisions (Rec.Boot me n ∷ log) d (inl e) = absurd (cc)
in_decisions (Rec.Boot me n ∷ log) d (inr a) = in_decisions log d a
in_decisions (Rec.Prepare f ∷ log) d (inl e) = absurd (cc)
in_decisions (Rec.Prepare f ∷ log) d (inr a) = in_decisions log d a
in_decisions (Rec.Commit s ∷ log) d (inl e) = absurd (cc)
in_decisions (Rec.Commit s ∷ log) d (inr a) = in_decisions log d a
in_decisions (Rec.Adopt place es ∷ log) d (inl e) = absurd (cc)
in_decisions (Rec.Adopt place es ∷ log) d (inr a) = in_decisions log d a
in_decisions (Rec.Suspend x ∷ log) d (inl e) = absurd (cc)
in_decisions (Rec.Suspend x ∷ log) d (inr a) = in_decisions log d a
in_decisions (Rec.Promise i b ∷ log) d (inl e) = absurd (cc)
in_decisions (Rec.Promise i b ∷ log) d (inr a) = in_decisions log d a
in_decisions (Rec.Accept i b c ∷ log) d (inl e) = absurd (cc)
in_decisions (Rec.Accept i b c ∷ log) d (inr a) = in_decisions log d a
in_decisions (Rec.Enter x ∷ log) d (inl e) = absurd (cc)
in_decisions (Rec.Enter x ∷ log) d (inr a) = in_decisions log d a

-- what is on record is one of the world's decisions
pub in_world : (w : World) (k : ℕ) (d : Decision) → Among (log_at w k) (Rec.Decide d) → Among (decisions_in w) d
unfolding decisions_in log_at
in_world w k d a = go (slice_get w.sites k) refl a
  where
    go : (o : Option Site) → slice_get w.sites k ≡ o → Among (option_map_or log_of o []) (Rec.Decide d) → Among (flat_map (λ s. decisions (log_of s)) w.sites) d
    go None e b = absurd b
    go (Some s) e b = flat_in (λ s. decisions (log_of s)) w.sites s d (got_among w.sites k s e) (in_decisions (log_of s) d b)

module _ (n : ℕ) (end : World) (list : List Entry) (last : IsLast n end list) where
  -- it is that of each log that knows the epoch
  pub spec_is : (e k : ℕ) (log : Log) → Extends log (log_at end k) → known log ≡ e → spec n log ≡ spec_at end e
  unfolding spec_at decision_of
  spec_is e k log x kn =
      let w = end_before n end list last in
      let size = (all_held n end w.reached).size in
      go (decision log) refl (knows k n log (end_fits k n x (logs_fit n end w.reached w.spelt.few k)) e kn) (find (λ d. d.epoch == e) (decisions_in end)) refl
      ∙ ap (λ m. spec_decided m (find (λ d. d.epoch == e) (decisions_in end))) (sym size)
    where
      go : (o : Option Decision) → decision log ≡ o → Knows log e o → (f : Option Decision) → find (λ d. d.epoch == e) (decisions_in end) ≡ f → spec n log ≡ spec_decided n f
      go None is (First h) None q = spec_of_decision n log None is
      go None is (First h) (Some c) q =
          let w = end_before n end list last in
          let t = find_some e (decisions_in end) c q in
          let r = decided_in end c t.0 in
          let l = decided_later r.0 n (log_at end r.0) c (logs_fit n end w.reached w.spelt.few r.0) r.1 in
          let at = t.1 in absurd (omega (arith, l, at, h))
      go (Some _) is (Later d a at lt) None q = absurd (find_none e (decisions_in end) q d (in_world end k d (extends_among x (Rec.Decide d) a)) at)
      go (Some _) is (Later d a at lt) (Some c) q =
          let w = end_before n end list last in
          let t = find_some e (decisions_in end) c q in
          let r = decided_in end c t.0 in
          let same_one = decisions_are_one n end w.reached w.spelt.few w.spelt.messages k r.0 d c (extends_among x (Rec.Decide d) a) r.1 (at ∙ sym t.1) in
          spec_of_decision n log (Some d) is ∙ ap (λ z. spec_decided n (Some z)) same_one
