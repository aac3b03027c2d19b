-- Each epoch has an opening: the beginning that the decision before it gives.
use Rattle.std.proofs.Common.{◌≡◌, ℕ, suc, ◌+◌, ◌<◌, ◌≤◌, List, [], ◌++◌, length, take, refl, sym, ◌∙◌, ap, subst, inl, inr, arith, length-append}
use Rattle.std.specs.Prelude.{◌⊎◌, Option, Some, None, slice_get}
use Rattle.std.specs.Option.{option_map_or}
use Rattle.std.proofs.lemmas.Bool.{cases_lt}
use Rattle.std.proofs.lemmas.Option.{none-some, same_Some}
use Rattle.crsm_spec.specs.Types.{Entry, Decision, Rec}
use Rattle.crsm_spec.specs.Lists.{Among, IsPrefixOf}
use Rattle.crsm_spec.specs.Log.{Log, known, decision, start, executed}
use Rattle.crsm_fact_log.specs.Logs.{AllFit, Extends}
use Rattle.crsm_law_collection.specs.Collecting.{CommitOf, EpochFacts, IsCollected}
use Rattle.crsm_law_collection.specs.Starts.{AgreeBelow}
use Rattle.crsm_law_collection.proofs.Law.{are_well_made}
use Rattle.crsm_fact_log.proofs.Lists.{get_some, get_left, get_inside}
use Rattle.crsm_fact_log.proofs.Logged.{end_fits, logged_epoch}
use Rattle.crsm_law_collection.proofs.Prefixes.{lists_are_prefixes}
use Rattle.crsm_law_steps.proofs.Happen.{got_among}
use Rattle.crsm_law_epoch.proofs.CommitLogs.{unexecuted_logged}
use Rattle.crsm_law_agreement.proofs.BallotsAgree.{Knows, First, Later, knows, decided_later}
use Rattle.crsm_law_agreement.proofs.Coordinators.{extends_among}
use Rattle.crsm_law_agreement.specs.Openings.{IsOpening, IsPlaced}
use Rattle.crsm_law_agreement.proofs.Lists.{get_append, get_take, take_get, taken_length, get_right}

start_none : (log : Log) → decision log ≡ None → start log ≡ 0
unfolding start
start_none log h = ap (λ o. option_map_or (λ d. d.base_len + length d.tail) o 0) h

start_some : (log : Log) (d : Decision) → decision log ≡ Some d → start log ≡ d.base_len + length d.tail
unfolding start
start_some log d h = ap (λ o. option_map_or (λ d. d.base_len + length d.tail) o 0) h

-- ---- the first epoch

pub first_opening : (n : ℕ) (logs : ℕ → Log) → ((k : ℕ) → AllFit k n (logs k)) → IsOpening 0 [] logs
first_opening n logs fit = record {
  before = λ k log x lt. absurd (omega (arith, lt));
  older = λ p x q. absurd (none-some x q);
  begin = λ k log x kn. begin_of log (decision log) refl (knows k n log (end_fits k n x (fit k)) 0 kn);
  tail = λ k d a at. let t = decided_later k n (logs k) d (fit k) a in absurd (omega (arith, at, t));
}
  where
    begin_of : (log : Log) (o : Option Decision) → decision log ≡ o → Knows log 0 o → start log ≡ 0
    begin_of log None is (First h) = start_none log is
    begin_of log (Some _) is (Later d a at lt) = absurd (omega (arith, lt))

-- ---- the next one

module _ (n e : ℕ) (opening : List Entry) (counted : List ℕ) (logs : ℕ → Log) (opens : IsOpening e opening logs)
    (placed : (k : ℕ) (log : Log) → Extends log (logs k) → known log ≡ e → IsPlaced e opening logs log) (facts : EpochFacts e n (length opening) counted logs)
    (d : Decision) (made : IsCollected e (length opening) counted logs d) (h : ℕ) (holder : Log) (holds : Extends holder (logs h)) (holder_knows : known holder ≡ e)
    (long : d.base_len ≤ length (executed holder)) (only : (k : ℕ) (c : Decision) → Among (logs k) (Rec.Decide c) → c.epoch ≡ suc e → c ≡ d) where
  abbrev pub next_opening : List Entry
  next_opening = take d.base_len (executed holder) ++ d.tail

  low : length opening ≤ d.base_len
  low = (are_well_made e n (length opening) counted logs d facts made).low

  agree : AgreeBelow e (length opening) logs
  agree j k log other x kn y km p a b lt f g =
      same_Some a b (sym (below (placed j log x kn p a f)) ∙ below (placed k other y km p b g))
    where
      below : {z : Entry} → (slice_get opening p ≡ Some z) ⊎ ((length opening ≤ p) × CommitOf e logs p z) → slice_get opening p ≡ Some z
      below (inl q) = q
      below (inr q) = let l = q.0 in absurd (omega (arith, lt, l))

  prefix_get : (xs ys : List Entry) → IsPrefixOf xs ys → (p : ℕ) (x : Entry) → slice_get xs p ≡ Some x → slice_get ys p ≡ Some x
  prefix_get xs ys f p x q = subst (λ l. slice_get l p ≡ Some x) f.1 (get_left xs f.0 p x q)

  -- what knows e is a prefix of it
  of_known : (k : ℕ) (log : Log) → Extends log (logs k) → known log ≡ e → (p : ℕ) (x : Entry) → slice_get (executed log) p ≡ Some x → slice_get next_opening p ≡ Some x
  of_known k log x kn = prefix_get (executed log) next_opening (lists_are_prefixes e n (length opening) counted logs d h holder k log facts agree made holds holder_knows long x kn)

  -- and so is the opening before
  pub of_opening : (p : ℕ) (x : Entry) → slice_get opening p ≡ Some x → slice_get next_opening p ≡ Some x
  of_opening p x q =
      let lt = get_inside opening p x q in
      let l = low in
      let there = get_some (executed holder) p (omega (arith, lt, l, long)) in
      get_left (take d.base_len (executed holder)) d.tail p x (take_get d.base_len (executed holder) p x (omega (arith, lt, l)) (there.1 ∙ sym (at_holder lt there.0 (placed h holder holds holder_knows p there.0 there.1)) ∙ q))
    where
      at_holder : p < length opening → (y : Entry) → (slice_get opening p ≡ Some y) ⊎ ((length opening ≤ p) × CommitOf e logs p y) → slice_get opening p ≡ Some y
      at_holder lt y (inl a) = a
      at_holder lt y (inr a) = let l = a.0 in absurd (omega (arith, lt, l))

  next_length : length next_opening ≡ d.base_len + length d.tail
  next_length = length-append (take d.base_len (executed holder)) d.tail ∙ ap (λ z. z + length d.tail) (taken_length d.base_len (executed holder) long)

  next_before : (k : ℕ) (log : Log) → Extends log (logs k) → known log < suc e → (p : ℕ) (x : Entry) → slice_get (executed log) p ≡ Some x → slice_get next_opening p ≡ Some x
  next_before k log x lt p y q = elim (cases_lt (known log) e) [
    | inl l ↦ of_opening p y (opens.before k log x l p y q)
    | inr g ↦ of_known k log x (omega (arith, lt, g)) p y q
  ]

  pub tail_epoch : (x : Entry) → Among d.tail x → x.epoch ≡ e
  tail_epoch x a = let t = (are_well_made e n (length opening) counted logs d facts made).logged_are x a in logged_epoch e (logs t.0) x t.1

  next_older : (p : ℕ) (x : Entry) → slice_get next_opening p ≡ Some x → x.epoch < suc e
  next_older p x q = elim (get_append (take d.base_len (executed holder)) d.tail p x q) [
    | inl a ↦ of_holder (placed h holder holds holder_knows p x (get_take d.base_len (executed holder) p x a))
    | inr a ↦ (let is = tail_epoch x (got_among d.tail a.0 x a.2) in omega (arith, is))
  ]
    where
      of_holder : (slice_get opening p ≡ Some x) ⊎ ((length opening ≤ p) × CommitOf e logs p x) → x.epoch < suc e
      of_holder (inl a) = let l = opens.older p x a in omega (arith, l)
      of_holder (inr a) = let c = a.1 in let is = (unexecuted_logged c.log x c.next).1 in let k = c.epoch in omega (arith, is, k)

  -- behind an earlier opening there are newer entries
  pub newer_next : (f : ℕ) (o : List Entry) → f < suc e → ((p : ℕ) (x : Entry) → length o ≤ p → slice_get opening p ≡ Some x → f ≤ x.epoch) → (p : ℕ) (x : Entry) → length o ≤ p → slice_get next_opening p ≡ Some x → f ≤ x.epoch
  newer_next f o lt older p x le q = elim (get_append (take d.base_len (executed holder)) d.tail p x q) [
    | inl a ↦ of_holder (placed h holder holds holder_knows p x (get_take d.base_len (executed holder) p x a))
    | inr a ↦ (let is = tail_epoch x (got_among d.tail a.0 x a.2) in omega (arith, is, lt))
  ]
    where
      of_holder : (slice_get opening p ≡ Some x) ⊎ ((length opening ≤ p) × CommitOf e logs p x) → f ≤ x.epoch
      of_holder (inl a) = older p x le a
      of_holder (inr a) = let c = a.1 in let is = (unexecuted_logged c.log x c.next).1 in let k = c.epoch in omega (arith, is, k, lt)

  next_begin : (k : ℕ) (log : Log) → Extends log (logs k) → known log ≡ suc e → start log ≡ length next_opening
  next_begin k log x kn = go (decision log) refl (knows k n log (end_fits k n x (facts.fit k)) (suc e) kn)
    where
      go : (o : Option Decision) → decision log ≡ o → Knows log (suc e) o → start log ≡ length next_opening
      go None is (First z) = absurd (omega (arith, z))
      go (Some _) is (Later c a at lt) =
          start_some log c is ∙ ap (λ (y : Decision). y.base_len + length y.tail) (only k c (extends_among x (Rec.Decide c) a) at) ∙ sym next_length

  next_tail : (k : ℕ) (c : Decision) → Among (logs k) (Rec.Decide c) → c.epoch ≡ suc e → (i : ℕ) (y : Entry) → slice_get c.tail i ≡ Some y → slice_get next_opening (c.base_len + i) ≡ Some y
  next_tail k c a at i y q =
      let is = only k c a at in
      subst (λ (z : Decision). slice_get next_opening (z.base_len + i) ≡ Some y) (sym is)
      (get_right (take d.base_len (executed holder)) d.tail d.base_len i y (taken_length d.base_len (executed holder) long) (subst (λ (z : Decision). slice_get z.tail i ≡ Some y) is q))

  pub opens_next : IsOpening (suc e) next_opening logs
  opens_next = record { before = next_before; older = next_older; begin = next_begin; tail = next_tail }
