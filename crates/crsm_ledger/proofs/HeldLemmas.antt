-- What a ledger holds, entry by entry.
use Rattle.std.proofs.Common.{◌≡◌, ℕ, Bool, true, false, List, [], ◌∷◌, ◌++◌, refl, ap, sym, ◌∙◌, subst, arith, length, inl, inr}
use Rattle.std.specs.Prelude.{IsTrue, Some, Result, Ok, Err, OnOk, OnErr, map, set, slice_get, if◌then◌else◌}
use Rattle.std.specs.List.{AllByRecursion}
use Rattle.std.proofs.Math.Logic.{∥∥₁_elim, ∥∥₁_map}
use Rattle.std.proofs.Props.{props}
use Rattle.std.proofs.lemmas.List.{map-append}
use Rattle.crsm_base.specs.Order.{stamp_lt}
use Rattle.crsm_base.specs.Spelling.{FitsEntry, IsBefore, Rises, RisesAfter, entry_bytes}
use Rattle.crsm_spec.specs.Types.{Entry}
use Rattle.crsm_spec.specs.Log.{with_entry}
use Rattle.crsm_fact_log.proofs.EntriesFit.{stamp_before}
use Rattle.crsm_fact_log.proofs.Lists.{all-append, get_inside}
use Rattle.crsm_fact_log.proofs.Logged.{Apart, newest_all}
use Rattle.crsm_ledger.specs.declared.history.History.{History}
use Rattle.crsm_ledger.specs.declared.kept.Kept.{Kept}
use Rattle.crsm_ledger.specs.declared.kept.LoggedItem.{LoggedItem}
use Rattle.crsm_ledger.specs.Executed.{Grows, HistoryStands, Spells}
use Rattle.crsm_ledger.specs.Held.{CanBeLogged, HasEntries}
use Rattle.crsm_ledger.specs.Sorted.{AreKeptFor, IsKept, IsKeptFor, IsPlaced, marked}
use Rattle.crsm_ledger.proofs.ExecutedLemmas.{length-spells, stands-spells}
use Rattle.crsm_ledger.proofs.LoggedLemmas.{kept-at, kept-more, marked-next, with_entry-all}

-- ---- the order of the logged entries

before-in : (x : ℕ) (a b : Entry) → a.epoch ≡ x → b.epoch ≡ x → IsTrue (stamp_lt a.stamp b.stamp) → IsBefore a b
before-in x a b here there less = inr (here ∙ sym there, stamp_before a.stamp b.stamp less)

after-with : (x : ℕ) (d e : Entry) (es : List Entry) → e.epoch ≡ x → AllByRecursion (λ f. f.epoch ≡ x) es → AllByRecursion (λ f. Apart e f) es → IsBefore d e → RisesAfter d es → RisesAfter d (with_entry e es)
unfolding with_entry
after-with x d e [] here all apart first rise = (first, tt)
after-with x d e (f ∷ fs) here all apart first rise =
    go (stamp_lt e.stamp f.stamp) refl apart.0 (λ before. after-with x f e fs here all.1 apart.1 before rise.1)
  where
    go : (b : Bool) → stamp_lt e.stamp f.stamp ≡ b → Apart e f → (IsBefore f e → RisesAfter f (with_entry e fs)) → RisesAfter d (if b then e ∷ f ∷ fs else f ∷ with_entry e fs)
    go true less a more = (first, (before-in x e f here all.0 less, rise.1))
    go false less (inl q) more = absurd (cc (sym less ∙ q))
    go false less (inr q) more = (rise.0, more (before-in x f e all.0 here q))

rises-with : (x : ℕ) (e : Entry) (es : List Entry) → e.epoch ≡ x → AllByRecursion (λ f. f.epoch ≡ x) es → AllByRecursion (λ f. Apart e f) es → Rises es → Rises (with_entry e es)
unfolding with_entry
rises-with x e [] here all apart rise = tt
rises-with x e (f ∷ fs) here all apart rise = go (stamp_lt e.stamp f.stamp) refl apart.0
  where
    go : (b : Bool) → stamp_lt e.stamp f.stamp ≡ b → Apart e f → Rises (if b then e ∷ f ∷ fs else f ∷ with_entry e fs)
    go true less a = (before-in x e f here all.0 less, rise)
    go false less (inl q) = absurd (cc (sym less ∙ q))
    go false less (inr q) = after-with x f e fs here all.1 apart.1 (before-in x f e all.0 here q) rise

-- ---- what is held

pub held-none : (h : History) (x : ℕ) (items : List LoggedItem) → HistoryStands h x [] → items ≡ [] → HasEntries h.spelt h.epoch items
held-none h x items has none = record {
  done = [];
  logged = [];
  executed = stands-spells has;
  kept = subst (λ (is : List LoggedItem). AreKeptFor [] is []) (sym none) tt;
  fit = tt;
  of_epoch = tt;
  rise = tt;
}

held-log : (encodings : List (List ℕ)) (x : ℕ) (items new : List LoggedItem) (e : Entry) → FitsEntry e → CanBeLogged x items e → ((done es : List Entry) → AreKeptFor done items es → AreKeptFor done new (with_entry e es)) → HasEntries encodings x items → HasEntries encodings x new
held-log encodings x items new e fits can insert h = record {
  done = h.done;
  logged = with_entry e h.logged;
  executed = h.executed;
  kept = insert h.done h.logged h.kept;
  fit = with_entry-all FitsEntry e h.logged fits h.fit;
  of_epoch = with_entry-all (λ f. f.epoch ≡ x) e h.logged can.epoch h.of_epoch;
  rise = rises-with x e h.logged can.epoch h.of_epoch (newest_all e h.logged (can.newest h.done h.logged h.kept)) h.rise;
}

-- an entry is logged, or memory ran out
pub held-insert : {T E : Type 0} (r : Result T E) (encodings : List (List ℕ)) (x : ℕ) (items new : List LoggedItem) (e : Entry) → FitsEntry e → CanBeLogged x items e → ((done es : List Entry) → AreKeptFor done items es → OnOk r (AreKeptFor done new (with_entry e es))) → OnErr r (new ≡ items) → HasEntries encodings x items → HasEntries encodings x new
held-insert (Ok u) encodings x items new e fits can insert same h = held-log encodings x items new e fits can insert h
held-insert (Err u) encodings x items new e fits can insert same h = subst (λ (is : List LoggedItem). HasEntries encodings x is) (sym same) h

pub held-begin : (encodings new : List (List ℕ)) (x y : ℕ) (items none : List LoggedItem) → new ≡ encodings → none ≡ [] → HasEntries encodings x items → HasEntries new y none
held-begin encodings new x y items none same empty h = record {
  done = h.done;
  logged = [];
  executed = subst (λ (es : List (List ℕ)). Spells es h.done) (sym same) h.executed;
  kept = subst (λ (is : List LoggedItem). AreKeptFor h.done is []) (sym empty) tt;
  fit = tt;
  of_epoch = tt;
  rise = tt;
}

pub held-grows : (old new : History) (items : List LoggedItem) → Grows old new → HasEntries old.spelt old.epoch items → HasEntries new.spelt new.epoch items
held-grows old new items g h = record {
  done = h.done ++ g.more;
  logged = h.logged;
  executed = record {
    spelt = g.spelt ∙ ap (λ (es : List (List ℕ)). es ++ map entry_bytes g.more) h.executed.spelt ∙ sym (map-append entry_bytes h.done g.more);
    fit = all-append FitsEntry h.done g.more h.executed.fit g.fit;
  };
  kept = kept-more h.done g.more items h.logged h.kept;
  fit = h.fit;
  of_epoch = subst (λ (x : ℕ). AllByRecursion (λ e. e.epoch ≡ x) h.logged) (sym g.epoch) h.of_epoch;
  rise = h.rise;
}

-- the entry of the item with this index is executed
pub held-next : (old new : History) (items : List LoggedItem) (k place : ℕ) (i : LoggedItem) → new.epoch ≡ old.epoch → slice_get items k ≡ Some i → place ≡ length old.spelt → ((es : List Entry) (e : Entry) → Spells old.spelt es → IsKept es i.kept e → Spells new.spelt (es ++ e ∷ [])) → HasEntries old.spelt old.epoch items → HasEntries new.spelt new.epoch (set items k (marked i place))
held-next old new items k place i epoch there place_is spells h =
    let at : (e : Entry) × (slice_get h.logged k ≡ Some e) × IsKeptFor h.done i e = kept-at h.done items h.logged k i h.kept there in
    record {
      done = h.done ++ at.0 ∷ [];
      logged = h.logged;
      executed = spells h.done at.0 h.executed at.2.kept;
      kept = marked-next h.done h.logged items k place i at.0 h.kept there at.1 (place_is ∙ length-spells old.spelt h.done h.executed);
      fit = h.fit;
      of_epoch = subst (λ (x : ℕ). AllByRecursion (λ e. e.epoch ≡ x) h.logged) (sym epoch) h.of_epoch;
      rise = h.rise;
    }

placed : (n : ℕ) (kept : Kept) → ∥ ((done : List Entry) × (e : Entry) × (n ≡ length done) × IsKept done kept e) ∥₁ → IsPlaced n kept
placed n (Kept.Whole entry) some = tt
placed n (Kept.Executed place) some =
    ∥∥₁_elim some (hlevel props) (λ s. let within = get_inside s.0 place s.1 s.3 in omega (arith, within, s.2))

-- the place of the item with this index is that of an executed entry
pub placed-at : (encodings : List (List ℕ)) (x : ℕ) (items : List LoggedItem) (k : ℕ) (i : LoggedItem) → ∥ HasEntries encodings x items ∥₁ → slice_get items k ≡ Some i → IsPlaced (length encodings) i.kept
placed-at encodings x items k i held there =
    placed (length encodings) i.kept
    (∥∥₁_map held (λ h. let at : (e : Entry) × (slice_get h.logged k ≡ Some e) × IsKeptFor h.done i e = kept-at h.done items h.logged k i h.kept there in (h.done, at.0, length-spells encodings h.done h.executed, at.2.kept)))
