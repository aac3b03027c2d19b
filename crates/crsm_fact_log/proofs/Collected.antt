-- A collection, whatever pages came.
use Rattle.std.proofs.Common.{◌≡◌, ℕ, ◌<◌, ◌≤◌, refl, sym, ◌⊎◌, inl, inr, arith, List, map}
use Rattle.std.proofs.lemmas.Bool.{cases_lt}
use Rattle.std.specs.Prelude.{◌==◌, find, flat_map, max, Option, Some, None}
use Rattle.std.specs.Option.{option_map_or}
use Rattle.crsm_spec.specs.Types.{Entry}
use Rattle.crsm_spec.specs.Lists.{Among, first_of, greatest}
use Rattle.crsm_spec.specs.Log.{start}
use Rattle.crsm_spec.specs.Collect.{pages_of, whole_ones, all_entries, first_pages, base_of, floor_of, union, collected}
use Rattle.crsm_spec.specs.Replica.{LogPage}
use Rattle.crsm_fact_log.specs.Collected.{CollectedIsMade}
use Rattle.crsm_fact_log.proofs.Lists.{flat_from, flat_in}
use Rattle.crsm_fact_log.proofs.Pages.{firsts_from, firsts_in, top_high, top_from, found_from, found_none}
use Rattle.crsm_fact_log.proofs.Merge.{above_same}
use Rattle.crsm_fact_log.proofs.Sorted.{rises_above, above_from, above_in}
use Rattle.crsm_fact_log.proofs.Union.{union_rises, union_from, union_has}

pub collected_is_made : CollectedIsMade
unfolding collected base_of floor_of all_entries
collected_is_made counted members named log pages =
    record {
      floor = floor_of base firsts;
      rises = rises_above (floor_of base firsts) (union es) (union_rises es);
      from = λ z m. let a = above_from (floor_of base firsts) (union es) z m in
          (flat_from (λ k. flat_map (λ p. p.entries) (pages_of pages k)) ks z (union_from es z a.0), a.1);
      all = λ k z m i a.
          let w = union_has es z (flat_in (λ k. flat_map (λ p. p.entries) (pages_of pages k)) ks k z m i) in
          (w.0, above_in (floor_of base firsts) (union es) w.0 w.1 (above_same (floor_of base firsts) z w.0 (sym w.2) a), w.2);
      low = omega arith;
      high = λ k p m f. let t = top_high firsts p (firsts_in pages ks k p m f) in omega (arith, t);
      base = go (find (λ p. p.executed == base) firsts) refl;
    }
  where
    ks : List ℕ
    ks = whole_ones counted pages

    firsts : List LogPage
    firsts = first_pages ks pages

    es : List Entry
    es = flat_map (λ k. flat_map (λ p. p.entries) (pages_of pages k)) ks

    base : ℕ
    base = max (start log) (greatest (map (λ p. p.executed) firsts))

    none : find (λ p. p.executed == base) firsts ≡ None → (start log < greatest (map (λ p. p.executed) firsts)) ⊎ (greatest (map (λ p. p.executed) firsts) ≤ start log) →
        (greatest (map (λ p. p.executed) firsts) ≡ 0) ⊎ ((p : LogPage) × Among firsts p × (p.executed ≡ greatest (map (λ p. p.executed) firsts))) → base ≡ start log
    none f (inl l) (inl z) = absurd (omega (arith, z))
    none f (inl l) (inr r) = absurd (found_none base firsts r.0 f r.1 (omega (arith, r.2)))
    none f (inr l) r = omega arith

    go : (o : Option LogPage) → find (λ p. p.executed == base) firsts ≡ o → ((base ≡ start log) × (option_map_or (λ p. p.last) o None ≡ None)) ⊎ ((k : ℕ) × (p : LogPage) × Among ks k × (first_of (pages_of pages k) ≡ Some p) × (p.executed ≡ base) × (option_map_or (λ p. p.last) o None ≡ p.last))
    go None f = inl (none f (cases_lt (start log) (greatest (map (λ p. p.executed) firsts))) (top_from firsts), refl)
    go (Some p) f =
        let s = found_from base firsts p f in
        let r = firsts_from pages ks p s.0 in
        inr (r.0, p, r.1, r.2, s.1, refl)
