-- Decisions that are collected or proposed can be encoded.
use Rattle.std.proofs.Common.{◌≡◌, ℕ, ◌+◌, ◌≤◌, List, [], ◌∷◌, length, refl, sym, ◌∙◌, ap, subst, inl, inr, Bool, true, false, cond, arith}
use Rattle.std.specs.Prelude.{◌⊎◌, IsTrue, Option, Some, None, nat_le, fold, flat_map, unwrap_or, bytes_eq, option_map}
use Rattle.std.specs.List.{list_all}
use Rattle.std.proofs.lemmas.Bool.{and_parts, leb-true}
use Rattle.std.proofs.lemmas.Slice.Eq.{bytes_eq-Decides}
use Rattle.crsm_base.specs.Limits.{most_entries, most_bytes}
use Rattle.crsm_base.specs.Members.{IsMembers}
use Rattle.crsm_base.specs.Spelling.{FitsOption, FitsStamp, FitsEntry, FitsDecision}
use Rattle.crsm_base.specs.Messages.{FitsVote}
use Rattle.crsm_spec.specs.Types.{Ballot, Entry, Decision}
use Rattle.crsm_spec.specs.Lists.{Among, has, last_of, numbers_below}
use Rattle.crsm_spec.specs.Log.{Log, known, start, decision, spec, above}
use Rattle.crsm_spec.specs.Quorum.{spec_decided}
use Rattle.crsm_spec.specs.Paxos.{Answer, Found, value_of, value_of_best, best_of, better_answer, better_held, better, counts_before}
use Rattle.crsm_spec.specs.Replica.{Replica, LogPage, spec_of, next_spec, named_spec}
use Rattle.crsm_spec.specs.Collect.{pages_of, whole_ones, all_entries, first_pages, base_of, floor_of, union, collected, size_of, is_within, cursor}
use Rattle.crsm_spec.specs.Coordinate.{most_collected}
use Rattle.crsm_fact_log.proofs.Lists.{kept_from, flat_from, all_from, last_among, first_among}
use Rattle.crsm_fact_log.proofs.Sorted.{rises_above, above_from}
use Rattle.crsm_fact_log.proofs.Union.{union_rises, union_from}
use Rattle.crsm_fact_log.proofs.Pages.{firsts_from, top_from}
use Rattle.crsm_fact_log.proofs.EntriesFit.{bytes_size, rises_in}
use Rattle.crsm_fact_log.specs.Logs.{AreSpelt}
use Rattle.crsm_fact_log.proofs.LogsFit.{decision_fits}
use Rattle.crsm_fact_log.specs.Pages.{AnswersFit, FitPages}

-- ---- what answers leave to propose

abbrev FitsBest : Option (Found Decision) → Type 0
FitsBest None = Unit {0}
FitsBest (Some f) = FitsDecision f.value

better_of : (o : Option (Found Decision)) (f : Found Decision) → FitsBest o → FitsDecision f.value → FitsBest (better o f)
better_of None f h g = g
better_of (Some e) f h g = go (counts_before f e)
  where
    go : (c : Bool) → FitsBest (cond c (Some f) (Some e))
    go true = g
    go false = h

better_with : (o : Option (Found Decision)) (k : ℕ) (held : Option (Ballot × Decision)) → FitsBest o → FitsOption FitsVote held → FitsBest (better_held o k held)
better_with o k None h g = h
better_with o k (Some v) h g = better_of o (record { ballot = v.0; replica = k; value = v.1 }) h g.1

best_among : (o : Option (Found Decision)) (found : List (Answer Decision)) → FitsBest o → AnswersFit found → FitsBest (fold better_answer o found)
best_among o [] h g = h
best_among o (a ∷ found) h g = best_among (better_answer o a) found (better_with o a.replica a.accepted h g.0) g.1

pub value_fits : (own : Decision) (found : List (Answer Decision)) → FitsDecision own → AnswersFit found → FitsDecision (value_of own found)
value_fits own found h g = go (best_of found) (best_among None found tt g)
  where
    go : (o : Option (Found Decision)) → FitsBest o → FitsDecision (value_of_best own o)
    go None w = h
    go (Some f) w = w

-- ---- the Spec that is named

-- the Spec of the known epoch, where a decision names it
spec_named : (n : ℕ) (o : Option Decision) → FitsOption FitsDecision o → (spec_decided n o ≡ numbers_below n) ⊎ IsMembers (spec_decided n o)
unfolding spec_decided
spec_named n None f = inl refl
spec_named n (Some d) f = go d.spec f.spec
  where
    go : (s : Option (List ℕ)) → FitsOption IsMembers s → (unwrap_or s (numbers_below n) ≡ numbers_below n) ⊎ IsMembers (unwrap_or s (numbers_below n))
    go None g = inl refl
    go (Some ks) g = inr g

first_is : (n : ℕ) → spec_decided n None ≡ numbers_below n
unfolding spec_decided
first_is n = refl

pub named_fits : (r : Replica) (ms : List ℕ) → IsMembers ms → AreSpelt r.log → FitsOption IsMembers (named_spec r ms)
unfolding named_spec next_spec spec_of spec
named_fits r ms members spelt = go (next_spec r ms) (next_is (list_all (has (spec_of r)) ms))
  where
    next_is : (c : Bool) → (cond c (spec_of r) ms ≡ numbers_below r.n) ⊎ IsMembers (cond c (spec_of r) ms)
    next_is true = spec_named r.n (decision r.log) (decision_fits r.log spelt)
    next_is false = inr members

    go : (ks : List ℕ) → (ks ≡ numbers_below r.n) ⊎ IsMembers ks → FitsOption IsMembers (cond (bytes_eq ks (spec_decided r.n None)) None (Some ks))
    go ks (inl e) = subst (λ (b : Bool). FitsOption IsMembers (cond b None (Some ks))) (sym ((bytes_eq-Decides ks (spec_decided r.n None)).1 (e ∙ sym (first_is r.n)))) tt
    go ks (inr m) = pick (bytes_eq ks (spec_decided r.n None))
      where
        pick : (b : Bool) → FitsOption IsMembers (cond b None (Some ks))
        pick true = tt
        pick false = m

-- ---- what pages make

of_pages : (pages : List LogPage) (k : ℕ) (p : LogPage) → Among (pages_of pages k) p → Among pages p
unfolding pages_of
of_pages pages k p a = (kept_from _ pages p a).0

pub cursor_fits : (x : ℕ) (pages : List LogPage) (k : ℕ) → FitPages x pages → FitsOption FitsStamp (cursor pages k)
unfolding cursor
cursor_fits x pages k h = go (last_of (flat_map (λ (p : LogPage). p.entries) (pages_of pages k))) (λ z e. last_among (flat_map (λ (p : LogPage). p.entries) (pages_of pages k)) z e)
  where
    go : (o : Option Entry) → ((z : Entry) → o ≡ Some z → Among (flat_map (λ (p : LogPage). p.entries) (pages_of pages k)) z) → FitsOption FitsStamp (option_map (λ e. e.stamp) o)
    go None f = tt
    go (Some z) f =
        let t = flat_from (λ (p : LogPage). p.entries) (pages_of pages k) z (f z refl) in
        ((h t.0 (of_pages pages k t.0 t.1)).entries z t.2).0.stamp

-- an entry of reports
reported : (x : ℕ) (ks : List ℕ) (pages : List LogPage) → FitPages x pages → (z : Entry) → Among (all_entries ks pages) z → FitsEntry z × (z.epoch ≡ x)
unfolding all_entries
reported x ks pages h z a =
    let t = flat_from (λ k. flat_map (λ (p : LogPage). p.entries) (pages_of pages k)) ks z a in
    let u = flat_from (λ (p : LogPage). p.entries) (pages_of pages t.0) z t.2 in
    (h u.0 (of_pages pages t.0 u.0 u.1)).entries z u.2

base_small : (x s : ℕ) (ks : List ℕ) (pages : List LogPage) → s ≤ most_collected → FitPages x pages → base_of s (first_pages ks pages) ≤ most_collected
unfolding base_of
base_small x s ks pages small h = elim (top_from (first_pages ks pages)) [
  | inl e ↦ omega (arith, e, small)
  | inr t ↦ (let f = firsts_from pages ks t.0 t.1 in
      let q = (h t.0 (of_pages pages f.0 t.0 (first_among (pages_of pages f.0) t.0 f.2))).executed in
      let e = t.2 in omega (arith, e, q, small))
]

pub collected_fits : (spec : List ℕ) (named : Option (List ℕ)) (log : Log) (ms : List ℕ) (pages : List LogPage) → FitsOption IsMembers named → IsMembers ms →
    known log ≤ most_collected → start log ≤ most_collected → FitPages (known log) pages → IsTrue (is_within (collected spec named log ms pages).tail) →
    FitsDecision (collected spec named log ms pages)
unfolding collected is_within
collected_fits spec named log ms pages names members small begins h within =
    let ks = whole_ones spec pages in
    let firsts = first_pages ks pages in
    let base = base_of (start log) firsts in
    let floor = floor_of base firsts in
    let all = all_entries ks pages in
    let tail = above floor (union all) in
    let b = base_small (known log) (start log) ks pages begins h in
    let w = and_parts (nat_le (length tail) most_entries) (nat_le (size_of tail) most_bytes) within in
    let most = leb-true (length tail) most_entries w.0 in
    let size = leb-true (size_of tail) most_bytes w.1 in
    let same_size = bytes_size tail in
    let each : (z : Entry) → Among tail z → FitsEntry z × (z.epoch ≡ known log) = λ z a. reported (known log) ks pages h z (union_from all z (above_from floor (union all) z a).0) in
    record {
      spec = names;
      epoch = omega (arith, small);
      first = omega arith;
      members = members;
      base_len = omega (arith, b);
      tail = record {
        most = most;
        fit = all_from FitsEntry tail (λ z a. (each z a).0);
        rises = rises_in (known log) tail (rises_above floor (union all) (union_rises all)) (λ z a. (each z a).1);
        size = omega (arith, size, same_size);
      };
      before = all_from (λ (e : Entry). e.epoch + 1 ≡ known log + 1) tail (λ z a. ap (λ i. i + 1) (each z a).1);
      end = omega (arith, b, most);
    }
