-- The facts of an epoch are kept, record by record.
use Rattle.std.proofs.Common.{◌≡◌, ℕ, ◌+◌, ◌<◌, ◌≤◌, Bool, true, false, refl, sym, ◌∙◌, subst, ap, ◌⊎◌, inl, inr, arith, List, [], ◌∷◌, ◌++◌, length, cond, length-append}
use Rattle.std.proofs.lemmas.Bool.{eq-eqb, eqb-true, cases_eq}
use Rattle.std.proofs.lemmas.Option.{same_Some, none-some}
use Rattle.std.specs.Prelude.{IsTrue, ◌==◌, Option, Some, None, count_by, slice_get}
use Rattle.crsm_spec.specs.Types.{Stamp, Entry, Rec}
use Rattle.crsm_base.specs.Order.{stamp_eq}
use Rattle.crsm_spec.specs.Lists.{has, Among, first_of}
use Rattle.crsm_spec.specs.Log.{entry_of, Log, decision, known, start, with_entry, logged_in, logged, executed, last_stamp, unexecuted}
use Rattle.crsm_spec.specs.Paxos.{majority}
use Rattle.crsm_spec.specs.Fits.{fits}
use Rattle.crsm_fact_log.specs.Logs.{Extends, same, more, AllFit}
use Rattle.crsm_law_collection.specs.Collecting.{CommitOf, EpochFacts}
use Rattle.crsm_law_collection.specs.Keeping.{Origins, OwesOfState, FactsOfStateGoOn, OneMore, Owes, FactsBegin, FactsGoOn}
use Rattle.crsm_fact_log.proofs.Sorted.{Lt, lt_not, le_self, le_both, eq_le, above_from}
use Rattle.crsm_fact_log.proofs.Lists.{all_at, get_inside}
use Rattle.crsm_fact_log.proofs.Logged.{Apart, newest_all, entry_in, prepare_known, extends_trans, entry_from, logged_grows, decide_above}
use Rattle.crsm_law_collection.proofs.Orderly.{commit_fit, orderly, logged_now}
use Rattle.crsm_law_collection.proofs.Suffices.{either_part, first_with, adopt_parts, found_logged, executed_upto}

-- ---- the empty logs

no_end : (log : Log) (rec : Rec) → Extends (rec ∷ log) [] → ⊥
no_end log rec x = elim x [ ]

end_empty : (log : Log) → Extends log [] → log ≡ []
end_empty log same = refl

no_logged : (e : ℕ) (y : Entry) → Among (logged_in e []) y → ⊥
unfolding logged_in
no_logged e y m = m

no_executed : (log : Log) (p : ℕ) (x : Entry) → log ≡ [] → slice_get (executed log) p ≡ Some x → ⊥
unfolding executed entry_of
no_executed log p x e f = none-some x (ap (λ l. slice_get (executed l) p) (sym e) ∙ f)

start_empty : (log : Log) (e begins : ℕ) → log ≡ [] → known log ≡ e → (e ≡ 0 → begins ≡ 0) → start log ≡ begins
unfolding known start decision
start_empty log e begins f g h = ap start f ∙ sym (h (sym g ∙ ap known f))

pub facts_begin : FactsBegin
facts_begin e n begins spec h =
    record {
      fit = λ k. tt;
      begin = λ k log x knows. start_empty log e begins (end_empty log x) knows h;
      replicated = λ p x c. absurd (no_end c.log (Rec.Commit x.stamp) c.kept);
      one = λ j k x y m i g. absurd (no_logged e x m);
      stable = λ p x c k y m l. absurd (no_logged e y m);
      before = λ k log x knows p y l f. absurd (no_executed log p y (end_empty log x) f);
      behind = λ k log x knows p y l f. absurd (no_executed log p y (end_empty log x) f);
    }

-- ---- one more record

end_cases : (a l : Log) (rec : Rec) → Extends a (rec ∷ l) → (a ≡ rec ∷ l) ⊎ Extends a l
end_cases a l rec same = inl refl
end_cases a l rec (more r x) = inr x

logged_cases : (e : ℕ) (log : Log) (rec : Rec) (y : Entry) → Among (logged_in e (rec ∷ log)) y → Among (logged_in e log) y ⊎ ((rec ≡ Rec.Prepare y) × (y.epoch ≡ e))
unfolding logged_in
logged_cases e log (Rec.Prepare z) y m = go (z.epoch == e) refl m
  where
    go : (b : Bool) → (z.epoch == e) ≡ b → Among (cond b (with_entry z (logged_in e log)) (logged_in e log)) y → Among (logged_in e log) y ⊎ ((Rec.Prepare z ≡ Rec.Prepare y) × (y.epoch ≡ e))
    go true f n = elim (entry_from z (logged_in e log) y n) [ inl i ↦ inl i | inr g ↦ inr (ap Rec.Prepare g, subst (λ (w : Entry). w.epoch ≡ e) g (eqb-true z.epoch e f)) ]
    go false f n = inl n
logged_cases e log _ y m = inl m

abbrev prepared : Rec → Option Entry
prepared (Rec.Prepare y) = Some y
prepared _ = None

head_is : (r s : Rec) (a b : Log) → r ∷ a ≡ s ∷ b → (r ≡ s) × (a ≡ b)
head_is r s a b e = (cc e, cc e)

-- executed entries of a log with one more record
module _ (e n begins : ℕ) (spec : List ℕ) (logs later : ℕ → Log) (k : ℕ) (rec : Rec) (facts : EpochFacts e n begins spec logs) (step : OneMore logs later k rec) (fit : IsTrue (fits k n (logs k) rec)) (owes : Owes e begins spec logs k rec) where
  grown : (j : ℕ) → Extends (logs j) (later j)
  grown j = elim (cases_eq j k) [ inl g ↦ subst (λ i. Extends (logs i) (later i)) (sym g) (subst (Extends (logs k)) (sym step.here) (more rec same)) | inr g ↦ subst (Extends (logs j)) (sym (step.other j g)) same ]

  end_was : (j : ℕ) (log : Log) → Extends log (later j) → Extends log (logs j) ⊎ ((j ≡ k) × (log ≡ rec ∷ logs k))
  end_was j log x = elim (cases_eq j k) [ inl g ↦ at g (end_cases log (logs k) rec (subst (Extends log) (ap later g ∙ step.here) x)) | inr g ↦ inl (subst (Extends log) (step.other j g) x) ]
    where
      at : j ≡ k → (log ≡ rec ∷ logs k) ⊎ Extends log (logs k) → Extends log (logs j) ⊎ ((j ≡ k) × (log ≡ rec ∷ logs k))
      at g (inl h) = inr (g, h)
      at g (inr h) = inl (subst (λ i. Extends log (logs i)) (sym g) h)

  logged_was : (j : ℕ) (y : Entry) → Among (logged_in e (later j)) y → Among (logged_in e (logs j)) y ⊎ ((rec ≡ Rec.Prepare y) × (y.epoch ≡ e))
  logged_was j y m = elim (cases_eq j k) [ inl g ↦ at g (logged_cases e (logs k) rec y (subst (λ l. Among (logged_in e l) y) (ap later g ∙ step.here) m)) | inr g ↦ inl (subst (λ l. Among (logged_in e l) y) (step.other j g) m) ]
    where
      at : j ≡ k → Among (logged_in e (logs k)) y ⊎ ((rec ≡ Rec.Prepare y) × (y.epoch ≡ e)) → Among (logged_in e (logs j)) y ⊎ ((rec ≡ Rec.Prepare y) × (y.epoch ≡ e))
      at g (inl h) = inl (subst (λ i. Among (logged_in e (logs i)) y) (sym g) h)
      at g (inr h) = inr h

  -- a commit is one of before, or the new record
  commit_was : (p : ℕ) (x : Entry) (c : CommitOf e later p x) → Extends (Rec.Commit x.stamp ∷ c.log) (logs c.by) ⊎ ((rec ≡ Rec.Commit x.stamp) × (c.log ≡ logs k))
  commit_was p x c = elim (end_was c.by (Rec.Commit x.stamp ∷ c.log) c.kept) [ inl h ↦ inl h | inr h ↦ (let r = head_is (Rec.Commit x.stamp) rec c.log (logs k) h.1 in inr (sym r.0, r.1)) ]

  old : (p : ℕ) (x : Entry) (c : CommitOf e later p x) → Extends (Rec.Commit x.stamp ∷ c.log) (logs c.by) → CommitOf e logs p x
  old p x c h = record { by = c.by; log = c.log; kept = h; epoch = c.epoch; next = c.next; place_is = c.place_is }

  now : (p : ℕ) (x : Entry) → CommitOf e logs p x → CommitOf e later p x
  now p x c = record { by = c.by; log = c.log; kept = extends_trans c.kept (grown c.by); epoch = c.epoch; next = c.next; place_is = c.place_is }

  owes_commit : (s : Stamp) → rec ≡ Rec.Commit s → Owes e begins spec logs k (Rec.Commit s)
  owes_commit s g = subst (Owes e begins spec logs k) g owes

  owes_prepare : (y : Entry) → rec ≡ Rec.Prepare y → Owes e begins spec logs k (Rec.Prepare y)
  owes_prepare y g = subst (Owes e begins spec logs k) g owes

  knows_prepare : (y : Entry) → rec ≡ Rec.Prepare y → y.epoch ≡ e → known (logs k) ≡ e
  knows_prepare y g h = sym (prepare_known k n (logs k) y (subst (λ r. IsTrue (fits k n (logs k) r)) g fit)).0 ∙ h

  fits_now : (j : ℕ) → AllFit j n (later j)
  fits_now j = elim (cases_eq j k) [ inl g ↦ subst (λ i. AllFit i n (later i)) (sym g) (subst (AllFit k n) (sym step.here) (fit, facts.fit k)) | inr g ↦ subst (AllFit j n) (sym (step.other j g)) (facts.fit j) ]

  replicated : (p : ℕ) (x : Entry) → CommitOf e later p x → (test : ℕ → Bool) × (majority (length spec) ≤ count_by test spec) × ((j : ℕ) → IsTrue (test j) → Among (logged_in e (later j)) x)
  replicated p x c = elim (commit_was p x c) [ inl h ↦ grow (facts.replicated p x (old p x c h)) | inr h ↦ grow (owes_commit x.stamp h.0 (ap known (sym h.1) ∙ c.epoch) x (ap (λ l. first_of (unexecuted l)) (sym h.1) ∙ c.next)).0 ]
    where
      grow : (test : ℕ → Bool) × (majority (length spec) ≤ count_by test spec) × ((j : ℕ) → IsTrue (test j) → Among (logged_in e (logs j)) x) → (test : ℕ → Bool) × (majority (length spec) ≤ count_by test spec) × ((j : ℕ) → IsTrue (test j) → Among (logged_in e (later j)) x)
      grow r = (r.0, r.1, λ j t. logged_grows e x (grown j) (r.2 j t))

  one : (i j : ℕ) (x y : Entry) → Among (logged_in e (later i)) x → Among (logged_in e (later j)) y → x.stamp ≡ y.stamp → x ≡ y
  one i j x y m o g = go (logged_was i x m) (logged_was j y o)
    where
      go : Among (logged_in e (logs i)) x ⊎ ((rec ≡ Rec.Prepare x) × (x.epoch ≡ e)) → Among (logged_in e (logs j)) y ⊎ ((rec ≡ Rec.Prepare y) × (y.epoch ≡ e)) → x ≡ y
      go (inl a) (inl b) = facts.one i j x y a b g
      go (inl a) (inr b) = (owes_prepare y b.0 (knows_prepare y b.0 b.1)).0 i x a g
      go (inr a) (inl b) = sym ((owes_prepare x a.0 (knows_prepare x a.0 a.1)).0 j y b (sym g))
      go (inr a) (inr b) = same_Some x y (ap prepared (sym a.0 ∙ b.0))

  stable : (p : ℕ) (x : Entry) (c : CommitOf e later p x) (j : ℕ) (y : Entry) → Among (logged_in e (later j)) y → y.stamp.time ≤ x.stamp.time → Among (logged_in e c.log) y
  unfolding old
  stable p x c j y m l = go (commit_was p x c) (logged_was j y m)
    where
      go : Extends (Rec.Commit x.stamp ∷ c.log) (logs c.by) ⊎ ((rec ≡ Rec.Commit x.stamp) × (c.log ≡ logs k)) → Among (logged_in e (logs j)) y ⊎ ((rec ≡ Rec.Prepare y) × (y.epoch ≡ e)) → Among (logged_in e c.log) y
      go (inl h) (inl a) = facts.stable p x (old p x c h) j y a l
      go (inl h) (inr a) = (owes_prepare y a.0 (knows_prepare y a.0 a.1)).1 p x (old p x c h) l
      go (inr h) (inl a) = subst (λ w. Among (logged_in e w) y) (sym h.1) ((owes_commit x.stamp h.0 (ap known (sym h.1) ∙ c.epoch) x (ap (λ w. first_of (unexecuted w)) (sym h.1) ∙ c.next)).1 j y a l)
      go (inr h) (inr a) = absurd (none-some y (ap prepared (sym h.0 ∙ a.0)))

  -- ---- the new end

  abbrev Begins : Rec → Type 0
  Begins r = known (r ∷ logs k) ≡ e → start (r ∷ logs k) ≡ begins

  begins_new : (r : Rec) → Owes e begins spec logs k r → Begins r
  unfolding known start decision
  begins_new (Rec.Decide d) o g = (o g).0
  begins_new (Rec.Boot a b) o g = facts.begin k (logs k) same g
  begins_new (Rec.Prepare y) o g = facts.begin k (logs k) same g
  begins_new (Rec.Commit s) o g = facts.begin k (logs k) same g
  begins_new (Rec.Adopt place es) o g = facts.begin k (logs k) same g
  begins_new (Rec.Suspend y) o g = facts.begin k (logs k) same g
  begins_new (Rec.Promise i b) o g = facts.begin k (logs k) same g
  begins_new (Rec.Accept i b d) o g = facts.begin k (logs k) same g
  begins_new (Rec.Enter y) o g = facts.begin k (logs k) same g

  begin : (j : ℕ) (log : Log) → Extends log (later j) → known log ≡ e → start log ≡ begins
  begin j log x knows = elim (end_was j log x) [ inl h ↦ facts.begin j log h knows | inr h ↦ ap start h.1 ∙ begins_new rec owes (ap known (sym h.1) ∙ knows) ]

  -- what an executed entry is at its place
  abbrev Right : ℕ → Entry → Type 0
  Right p y = (p < begins → y.epoch < e) × (begins ≤ p → CommitOf e later p y)

  right_old : known (logs k) ≡ e → (p : ℕ) (y : Entry) → slice_get (executed (logs k)) p ≡ Some y → Right p y
  right_old knows p y f = (λ l. facts.before k (logs k) same knows p y l f, λ l. now p y (facts.behind k (logs k) same knows p y l f))

  right_commit : (s : Stamp) → rec ≡ Rec.Commit s → known (logs k) ≡ e → (p : ℕ) (y : Entry) → p ≡ length (executed (logs k)) → Among (logged (logs k)) y → IsTrue (stamp_eq y.stamp s) → Right p y
  unfolding unexecuted
  right_commit s g knows p y q m t =
      let f = commit_fit k n (logs k) s (subst (λ r. IsTrue (fits k n (logs k) r)) g fit) in
      let o = orderly e n begins spec logs facts k (logs k) same knows f.0 in
      let long = length-append o.prefix o.done in
      let whole : length (executed (logs k)) ≡ length (o.prefix ++ o.done) = ap length o.executed_is in
      let z = first_with s (unexecuted (logs k)) f.1 in
      let in_log : (w : Entry) → Among (logged (logs k)) w → Among (logged_in e (logs k)) w = λ w i. subst (λ zs. Among zs w) (logged_now (logs k) e knows) i in
      let a = eq_le z.0.stamp s z.3 in
      let b = eq_le y.stamp s t in
      let stamps : z.0.stamp ≡ y.stamp = le_both z.0.stamp s a.0 a.1 ∙ sym (le_both y.stamp s b.0 b.1) in
      let is : z.0 ≡ y = facts.one k k z.0 y (in_log z.0 (above_from (last_stamp (logs k)) (logged (logs k)) z.0 z.2).0) (in_log y m) stamps in
      let kept : Extends (Rec.Commit y.stamp ∷ logs k) (later k) = subst (λ l. Extends (Rec.Commit y.stamp ∷ logs k) l) (sym (step.here ∙ ap (λ r. r ∷ logs k) (g ∙ ap Rec.Commit (sym (le_both y.stamp s b.0 b.1))))) same in
      (λ l. absurd (omega (arith, long, whole, o.prefix_is, q)), λ l. record { by = k; log = logs k; kept = kept; epoch = knows; next = z.1 ∙ ap Some is; place_is = sym q })

  right_new : (r : Rec) → rec ≡ r → known (r ∷ logs k) ≡ e → (p : ℕ) (y : Entry) → slice_get (executed (r ∷ logs k)) p ≡ Some y → Right p y
  unfolding known decision executed entry_of
  right_new (Rec.Boot a b) g knows p y f = right_old knows p y f
  right_new (Rec.Prepare z) g knows p y f = right_old knows p y f
  right_new (Rec.Commit s) g knows p y f =
      elim (either_part (executed (logs k)) _ p y f) [
        | inl i ↦ right_old knows p y i
        | inr i ↦ (let o = found_logged (logs k) s i.0 y i.2 in right_commit s g knows p y (omega (arith, i.1, o.0)) o.1 o.2)
      ]
  right_new (Rec.Adopt place es) g knows p y f =
      elim (either_part (executed (logs k)) es p y f) [
        | inl i ↦ right_old knows p y i
        | inr i ↦ (let a = adopt_parts k n (logs k) place es (subst (λ r. IsTrue (fits k n (logs k) r)) g fit) in
            let o = subst (Owes e begins spec logs k) g owes knows i.0 y i.2 in
            let q : p ≡ place + i.0 = omega (arith, i.1, a.0) in
            (λ l. o.0 (omega arith), λ l. subst (λ q. CommitOf e later q y) (sym q) (now (place + i.0) y (o.1 (omega arith)))))
      ]
  right_new (Rec.Suspend z) g knows p y f = right_old knows p y f
  right_new (Rec.Promise i b) g knows p y f = right_old knows p y f
  right_new (Rec.Accept i b d) g knows p y f = right_old knows p y f
  right_new (Rec.Decide d) g knows p y f =
      let u = executed_upto k n (logs k) (facts.fit k) p y f in
      let a = decide_above k n (logs k) d (subst (λ r. IsTrue (fits k n (logs k) r)) g fit) in
      let o = subst (Owes e begins spec logs k) g owes knows in
      let i = get_inside (executed (logs k)) p y f in
      (λ l. omega (arith, u, a, knows), λ l. absurd (omega (arith, i, o.1)))
  right_new (Rec.Enter z) g knows p y f = right_old knows p y f

  right : (j : ℕ) (log : Log) → Extends log (later j) → known log ≡ e → (p : ℕ) (y : Entry) → slice_get (executed log) p ≡ Some y → Right p y
  right j log x knows p y f =
      elim (end_was j log x) [
        | inl h ↦ (λ l. facts.before j log h knows p y l f, λ l. now p y (facts.behind j log h knows p y l f))
        | inr h ↦ right_new rec refl (ap known (sym h.1) ∙ knows) p y (ap (λ w. slice_get (executed w) p) (sym h.1) ∙ f)
      ]

  pub facts_now : EpochFacts e n begins spec later
  facts_now =
      record {
        fit = fits_now;
        begin = begin;
        replicated = replicated;
        one = one;
        stable = stable;
        before = λ j log x knows p y l f. (right j log x knows p y f).0 l;
        behind = λ j log x knows p y l f. (right j log x knows p y f).1 l;
      }

pub facts_go_on : FactsGoOn
facts_go_on e n begins spec logs later k rec facts step fit owes = facts_now e n begins spec logs later k rec facts step fit owes

-- ---- by origins

entry_new : (e : ℕ) (log : Log) (y : Entry) → y.epoch ≡ e → Among (logged_in e (Rec.Prepare y ∷ log)) y
unfolding logged_in
entry_new e log y g = subst (λ b. Among (cond b (with_entry y (logged_in e log)) (logged_in e log)) y) (sym (eq-eqb y.epoch e g)) (entry_in y (logged_in e log))

module _ (e n begins : ℕ) (spec member : List ℕ) (logs later : ℕ → Log) (k : ℕ) (facts : EpochFacts e n begins spec logs) (origins : Origins e member logs) where
  -- an own entry has a stamp of its own
  fresh : (y : Entry) → IsTrue (fits k n (logs k) (Rec.Prepare y)) → known (logs k) ≡ e → y.stamp.origin ≡ k → (j : ℕ) (z : Entry) → Among (logged_in e (logs j)) z → z.stamp ≡ y.stamp → ⊥
  fresh y fit knows own j z m g =
      let o = (origins j z m).1 in
      let there : Among (logged_in e (logs k)) z = subst (λ i. Among (logged_in e (logs i)) z) (ap (λ (s : Stamp). s.origin) g ∙ own) o in
      let f = prepare_known k n (logs k) y fit in
      let a = all_at (λ f. Apart y f) (logged (logs k)) z (newest_all y (logged (logs k)) f.1) (subst (λ zs. Among zs z) (sym (logged_now (logs k) e knows)) there) in
      elim a [ inl l ↦ lt_not y.stamp y.stamp (subst (λ s. Lt y.stamp s) g l) (le_self y.stamp) | inr l ↦ lt_not y.stamp y.stamp (subst (λ s. Lt s y.stamp) g l) (le_self y.stamp) ]

  owes_so : (rec : Rec) → IsTrue (fits k n (logs k) rec) → OwesOfState e begins spec member logs k rec → Owes e begins spec logs k rec
  owes_so (Rec.Prepare y) fit o = λ knows.
      elim (o knows).1 [
        | inl r ↦ (λ j z m g. facts.one j y.stamp.origin z y m r g, λ p x c l. facts.stable p x c y.stamp.origin y r l)
        | inr r ↦ (λ j z m g. absurd (fresh y fit knows r.0 j z m g), λ p x c l. (let t = r.1 p x c in absurd (omega arith)))
      ]
  owes_so (Rec.Commit s) fit o = λ knows x f.
      ((o knows x f).0, λ j y m l. let r = origins j y m in (o knows x f).1 y.stamp.origin y r.0 r.1 refl l)
  owes_so (Rec.Boot a b) fit o = o
  owes_so (Rec.Adopt place es) fit o = o
  owes_so (Rec.Suspend y) fit o = o
  owes_so (Rec.Promise i b) fit o = o
  owes_so (Rec.Accept i b d) fit o = o
  owes_so (Rec.Decide d) fit o = o
  owes_so (Rec.Enter y) fit o = o

  module _ (rec : Rec) (step : OneMore logs later k rec) (fit : IsTrue (fits k n (logs k) rec)) (o : OwesOfState e begins spec member logs k rec) where
    wide : (j : ℕ) → Extends (logs j) (later j)
    wide j = grown e n begins spec logs later k rec facts step fit (owes_so rec fit o) j

    origins_now : Origins e member later
    origins_now j y m = go (logged_was e n begins spec logs later k rec facts step fit (owes_so rec fit o) j y m)
      where
        own : y.stamp.origin ≡ k → rec ≡ Rec.Prepare y → y.epoch ≡ e → Among (logged_in e (later y.stamp.origin)) y
        own g h i = subst (λ a. Among (logged_in e (later a)) y) (sym g) (subst (λ l. Among (logged_in e l) y) (sym (step.here ∙ ap (λ r. r ∷ logs k) h)) (entry_new e (logs k) y i))

        go : Among (logged_in e (logs j)) y ⊎ ((rec ≡ Rec.Prepare y) × (y.epoch ≡ e)) → IsTrue (has member y.stamp.origin) × Among (logged_in e (later y.stamp.origin)) y
        go (inl i) = let r = origins j y i in (r.0, logged_grows e y (wide y.stamp.origin) r.1)
        go (inr i) =
            let knows : known (logs k) ≡ e = sym (prepare_known k n (logs k) y (subst (λ r. IsTrue (fits k n (logs k) r)) i.0 fit)).0 ∙ i.1 in
            let r = subst (OwesOfState e begins spec member logs k) i.0 o knows in
            (r.0, elim r.1 [ inl a ↦ logged_grows e y (wide y.stamp.origin) a | inr a ↦ own a.0 i.0 i.1 ])

pub facts_of_state_go_on : FactsOfStateGoOn
facts_of_state_go_on e n begins spec member logs later k rec facts origins step fit o = (
  facts_go_on e n begins spec logs later k rec facts step fit (owes_so e n begins spec member logs later k facts origins rec fit o),
  origins_now e n begins spec member logs later k facts origins rec step fit o,
)
