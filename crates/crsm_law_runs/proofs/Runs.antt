-- The worlds of a run, and its one list.
use Rattle.std.proofs.Common.{◌≡◌, ℕ, ◌<◌, ◌≤◌, List, [], ◌∷◌, length, refl, sym, subst, inl, inr, arith, map, length-append}
use Rattle.std.specs.Prelude.{◌⊎◌, Option, Some, None, slice_get, option_to_list}
use Rattle.std.specs.List.{range_with_len}
use Rattle.std.specs.Option.{option_map_or}
use Rattle.crsm_spec.specs.Types.{Entry, Rec}
use Rattle.crsm_spec.specs.Lists.{Among, IsPrefixOf, numbers_below}
use Rattle.crsm_spec.specs.Log.{Log, executed, entry_of}
use Rattle.crsm_spec.specs.World.{World, Moment, Site, begin, log_of, log_at}
use Rattle.crsm_spec.specs.Acts.{Act}
use Rattle.crsm_spec.specs.Moments.{world_after}
use Rattle.crsm_spec.specs.Run.{ArePossible, all_worlds, all_lists, last_world, moments, moments_of_run, the_list, longest}
use Rattle.crsm_fact_log.specs.Logs.{Extends, same, more}
use Rattle.crsm_law_steps.specs.Laws.{LogsGoOn}
use Rattle.crsm_law_steps.specs.Happenings.{IsReached}
use Rattle.crsm_law_steps.proofs.Happen.{runs}
use Rattle.crsm_law_steps.proofs.Moments.{logs_grow, same_end}
use Rattle.crsm_fact_log.proofs.Lists.{flat_from, flat_in}
use Rattle.crsm_law_epoch.proofs.Words.{among_unmap, among_map, is_range}
use Rattle.crsm_law_bounds.specs.Bounds.{IsSpelt}
use Rattle.crsm_law_bounds.proofs.Short.{runs_are_spelt}
use Rattle.crsm_law_agreement.proofs.Agree.{lists_agree}
use Rattle.crsm_law_runs.specs.Runs.{IsOnTheWay, WorldsAreOnTheWay, IsTheList, ListIsOne}
use Rattle.crsm_law_runs.proofs.RunLists.{each_of, of_each, longest_among, none_longer, shorter_prefix, empty_prefix}

-- ---- worlds

last_of : (w : World) (ms : List Moment) → Among (w ∷ map (λ m. m.after) ms) (world_after w ms)
unfolding world_after
last_of w [] = inl refl
last_of w (m ∷ ms) = inr (last_of m.after ms)

-- the last world is one of all
pub last_among : (n : ℕ) (acts : List Act) → Among (all_worlds n acts) (last_world n acts)
unfolding all_worlds moments_of_run last_world
last_among n acts = subst (Among (begin n ∷ map (λ m. m.after) (moments (begin n) acts))) (same_end (begin n) acts) (last_of (begin n) (moments (begin n) acts))

pub on_the_way : (n : ℕ) (acts : List Act) → n ≤ 15 → ArePossible (begin n) acts → (w : World) → Among (all_worlds n acts) w → IsOnTheWay n acts w
on_the_way n acts most p w a = record {
  reached = each_of (IsReached n) (all_worlds n acts) (runs n acts p).reached w a;
  spelt = each_of (IsSpelt n) (all_worlds n acts) (runs_are_spelt n acts most p) w a;
  goes_on = each_of (λ v. LogsGoOn v (last_world n acts)) (all_worlds n acts) (logs_grow n acts p) w a;
}

pub worlds_are_on_the_way : WorldsAreOnTheWay
worlds_are_on_the_way n acts most p = (
  of_each (IsOnTheWay n acts) (all_worlds n acts) (λ w a. on_the_way n acts most p w a),
  on_the_way n acts most p (last_world n acts) (last_among n acts),
)

-- ---- lists

-- each list of a run is what some log of a world of it has executed
pub list_from : (n : ℕ) (acts : List Act) (es : List Entry) → Among (all_lists n acts) es → (k : ℕ) × (w : World) × Among (all_worlds n acts) w × (executed (log_at w k) ≡ es)
unfolding all_lists
list_from n acts es a =
    let t = flat_from (λ k. map (λ w. executed (log_at w k)) (all_worlds n acts)) (numbers_below 15) es a in
    let u = among_unmap (λ w. executed (log_at w t.0)) (all_worlds n acts) es t.2 in
    (t.0, u.0, u.1, u.2)

pub list_in : (n : ℕ) (acts : List Act) (k : ℕ) (w : World) → k < 15 → Among (all_worlds n acts) w → Among (all_lists n acts) (executed (log_at w k))
unfolding all_lists numbers_below
list_in n acts k w lt a =
    flat_in (λ k. map (λ w. executed (log_at w k)) (all_worlds n acts)) (range_with_len 0 15) k (executed (log_at w k)) (is_range 0 15 k (omega arith) (omega (arith, lt)))
    (among_map (λ w. executed (log_at w k)) (all_worlds n acts) w a)

-- a log that has a record is that of a replica with a small number
some_log : (w : World) (k : ℕ) → ((k : ℕ) (s : Site) → slice_get w.sites k ≡ Some s → k < 15) → (k < 15) ⊎ (log_at w k ≡ [])
unfolding log_at
some_log w k small = go (slice_get w.sites k) refl
  where
    go : (o : Option Site) → slice_get w.sites k ≡ o → (k < 15) ⊎ (option_map_or log_of o [] ≡ [])
    go None e = inr refl
    go (Some s) e = inl (small k s e)

one_longer : (rec : Rec) (log : Log) → length (executed log) ≤ length (executed (rec ∷ log))
unfolding executed
one_longer (Rec.Boot me n) log = omega arith
one_longer (Rec.Prepare e) log = omega arith
one_longer (Rec.Commit s) log = let a = length-append (executed log) (option_to_list (entry_of log s)) in omega (arith, a)
one_longer (Rec.Adopt place es) log = let a = length-append (executed log) es in omega (arith, a)
one_longer (Rec.Suspend x) log = omega arith
one_longer (Rec.Promise i b) log = omega arith
one_longer (Rec.Accept i b d) log = omega arith
one_longer (Rec.Decide d) log = omega arith
one_longer (Rec.Enter x) log = omega arith

-- a list never gets shorter
pub executed_longer : (a b : Log) → Extends a b → length (executed a) ≤ length (executed b)
executed_longer a b same = omega arith
executed_longer a b (more {new = c} rec x) = let t = executed_longer a c x in let u = one_longer rec c in omega (arith, t, u)

none_executed : (log : Log) → log ≡ [] → length (executed log) ≤ 0
unfolding executed
none_executed log e = subst (λ l. length (executed l) ≤ 0) (sym e) (omega arith)

module _ (n : ℕ) (acts : List Act) (most : n ≤ 15) (p : ArePossible (begin n) acts) where
  pub last_on : IsOnTheWay n acts (last_world n acts)
  last_on = on_the_way n acts most p (last_world n acts) (last_among n acts)

  pub agree : (j k : ℕ) (a b : Log) → Extends a (log_at (last_world n acts) j) → Extends b (log_at (last_world n acts) k) → IsPrefixOf (executed a) (executed b) ⊎ IsPrefixOf (executed b) (executed a)
  agree = lists_agree n (last_world n acts) last_on.reached last_on.spelt.few last_on.spelt.messages

  list_is : (the_list n acts ≡ []) ⊎ ((k : ℕ) × (log : Log) × Extends log (log_at (last_world n acts) k) × (the_list n acts ≡ executed log))
  unfolding the_list
  list_is = elim (longest_among (all_lists n acts)) [
    | inl e ↦ inl e
    | inr a ↦ (let t = list_from n acts (longest (all_lists n acts)) a in
        inr (t.0, log_at t.1 t.0, (on_the_way n acts most p t.1 t.2).goes_on t.0, sym t.3))
  ]

  -- no list is longer
  shorter : (k : ℕ) (log : Log) → Extends log (log_at (last_world n acts) k) → length (executed log) ≤ length (the_list n acts)
  unfolding the_list
  shorter k log x = elim (some_log (last_world n acts) k last_on.spelt.numbers) [
    | inl lt ↦ (let t = none_longer (all_lists n acts) (executed (log_at (last_world n acts) k)) (list_in n acts k (last_world n acts) lt (last_among n acts)) in
        let u = executed_longer log (log_at (last_world n acts) k) x in omega (arith, t, u))
    | inr e ↦ (let t = none_executed (log_at (last_world n acts) k) e in let u = executed_longer log (log_at (last_world n acts) k) x in omega (arith, t, u))
  ]

  ends : (k : ℕ) (log : Log) → Extends log (log_at (last_world n acts) k) → IsPrefixOf (executed log) (the_list n acts)
  ends k log x = go list_is
    where
      go : (the_list n acts ≡ []) ⊎ ((j : ℕ) × (b : Log) × Extends b (log_at (last_world n acts) j) × (the_list n acts ≡ executed b)) → IsPrefixOf (executed log) (the_list n acts)
      go (inl e) = subst (IsPrefixOf (executed log)) (sym e) (empty_prefix (executed log) (subst (λ z. length (executed log) ≤ length z) e (shorter k log x)))
      go (inr t) = subst (IsPrefixOf (executed log)) (sym t.3) (shorter_prefix (executed log) (executed t.1) (agree k t.0 log t.1 x t.2) (subst (λ z. length (executed log) ≤ length z) t.3 (shorter k log x)))

  pub is_the_list : IsTheList n acts
  is_the_list = record {
    is = list_is;
    prefixes = of_each (λ es. IsPrefixOf es (the_list n acts)) (all_lists n acts) (λ es a.
        let t = list_from n acts es a in subst (λ z. IsPrefixOf z (the_list n acts)) t.3 (ends t.0 (log_at t.1 t.0) ((on_the_way n acts most p t.1 t.2).goes_on t.0)));
    ends = ends;
  }

pub list_is_one : ListIsOne
list_is_one n acts most p = is_the_list n acts most p
