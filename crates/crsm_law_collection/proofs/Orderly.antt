-- While a replica is active in an epoch, it has executed the epoch's start and then, by its own commits, a prefix of
-- what it has logged.
use Rattle.std.proofs.Common.{◌≡◌, ℕ, suc, ◌+◌, ◌<◌, Bool, true, false, refl, sym, ◌∙◌, subst, ap, ◌⊎◌, inl, inr, arith, List, [], ◌∷◌, ◌++◌, length, cond, append_assoc, length-append}
use Rattle.std.proofs.lemmas.List.{append-nil}
use Rattle.std.proofs.lemmas.Bool.{eqb-true, eq-eqb, ne_eqb, and_parts, false≢true}
use Rattle.std.proofs.lemmas.Option.{same_Some, none-some}
use Rattle.std.specs.Prelude.{IsTrue, not, ◌==◌, ◌&&◌, ◌||◌, Option, Some, None, filter, find, option_map, option_to_list, slice_get}
use Rattle.std.specs.Option.{option_map_or}
use Rattle.std.specs.List.{last_or}
use Rattle.crsm_spec.specs.Types.{Stamp, Entry, Rec}
use Rattle.crsm_base.specs.Order.{stamp_lt, stamp_eq}
use Rattle.crsm_spec.specs.Lists.{Among, first_of, last_of}
use Rattle.crsm_spec.specs.Log.{entry_of, Log, decision, known, start, with_entry, logged_in, logged, executed, last_stamp, above, unexecuted, live, suspended, active, has_entered}
use Rattle.crsm_spec.specs.Fits.{fits, is_newest}
use Rattle.crsm_fact_log.specs.Logs.{Extends, same, more}
use Rattle.crsm_fact_log.specs.Rising.{Rises}
use Rattle.crsm_law_collection.specs.Collecting.{CommitOf, EpochFacts}
use Rattle.crsm_fact_log.proofs.Sorted.{Lt, Le, lt_not, le_self, le_both, lt_is_le, lt_or_le, le_time, eq_le, le_trans, same_rising, upto, upto_from, upto_in, rises_upto, rises_above, above_from, above_in}
use Rattle.crsm_fact_log.proofs.Lists.{all_at, all_from, among_left, among_right, among_either, get_left}
use Rattle.crsm_fact_log.proofs.Logged.{extends_trans, end_fits, entry_in, Apart, newest_all, prepare_known, logged_rises, logged_epoch, logged_grows}

-- ---- rising lists in two parts

rises_apart : (xs ys : List Entry) (a b : Entry) → Rises (xs ++ ys) → Among xs a → Among ys b → Lt a.stamp b.stamp
rises_apart [] ys a b h m n = absurd m
rises_apart (x ∷ xs) ys a b h (inl e) n = subst (λ (w : Entry). Lt w.stamp b.stamp) e (all_at (λ z. Lt x.stamp z.stamp) (xs ++ ys) b h.0 (among_right xs ys b n))
rises_apart (x ∷ xs) ys a b h (inr m) n = rises_apart xs ys a b h.1 m n

pub rises_left : (xs ys : List Entry) → Rises (xs ++ ys) → Rises xs
rises_left [] ys h = tt
rises_left (x ∷ xs) ys h = (all_from (λ z. Lt x.stamp z.stamp) xs (λ z m. all_at (λ z. Lt x.stamp z.stamp) (xs ++ ys) z h.0 (among_left xs ys z m)), rises_left xs ys h.1)

rises_right : (xs ys : List Entry) → Rises (xs ++ ys) → Rises ys
rises_right [] ys h = h
rises_right (x ∷ xs) ys h = rises_right xs ys h.1

-- the last is the greatest
pub last_top : (x : Entry) (xs : List Entry) → Rises (x ∷ xs) → (l : Entry) × (last_or (Some x) xs ≡ Some l) × Among (x ∷ xs) l × ((z : Entry) → Among (x ∷ xs) z → Le z.stamp l.stamp)
last_top x [] h = (x, refl, inl refl, λ z m. elim m [ inl e ↦ subst (λ (w : Entry). Le w.stamp x.stamp) e (le_self x.stamp) | inr n ↦ absurd n ])
last_top x (y ∷ ys) h =
    let r = last_top y ys h.1 in
    (r.0, r.1, inr r.2, λ z m. elim m [ inl e ↦ subst (λ (w : Entry). Le w.stamp r.0.stamp) e (lt_is_le x.stamp r.0.stamp (all_at (λ z. Lt x.stamp z.stamp) (y ∷ ys) r.0 h.0 r.2)) | inr n ↦ r.3 z n ])

-- what is above the last of the first part is the second
pub above_last : (xs ys : List Entry) → Rises (xs ++ ys) → above (option_map (λ e. e.stamp) (last_of xs)) (xs ++ ys) ≡ ys
unfolding last_of above
above_last [] ys h = refl
above_last (x ∷ xs) ys h = go (last_or (Some x) xs) refl
  where
    go : (o : Option Entry) → last_or (Some x) xs ≡ o → above (option_map (λ e. e.stamp) o) (x ∷ xs ++ ys) ≡ ys
    go None e = absurd (none-some _ (sym e ∙ (last_top x xs (rises_left (x ∷ xs) ys h)).1))
    go (Some l) e =
        let t = last_top x xs (rises_left (x ∷ xs) ys h) in
        let f : t.0 ≡ l = same_Some _ _ (sym t.1 ∙ e) in
        same_rising (above (Some l.stamp) (x ∷ xs ++ ys)) ys (rises_above (Some l.stamp) (x ∷ xs ++ ys) h) (rises_right (x ∷ xs) ys h)
        (λ z m. let r = above_from (Some l.stamp) (x ∷ xs ++ ys) z m in
        elim (among_either (x ∷ xs) ys z r.0) [ inl n ↦ absurd (lt_not l.stamp z.stamp r.1 (subst (λ (w : Entry). Le z.stamp w.stamp) f (t.3 z n))) | inr n ↦ n ])
        (λ z m. above_in (Some l.stamp) (x ∷ xs ++ ys) z (among_right (x ∷ xs) ys z m) (rises_apart (x ∷ xs) ys l z h (subst (Among (x ∷ xs)) f t.2) m))

-- what is up to the head of the second part
upto_next : (xs ys : List Entry) (x : Entry) → Rises (xs ++ x ∷ ys) → upto (Some x.stamp) (xs ++ x ∷ ys) ≡ xs ++ x ∷ []
upto_next xs ys x h =
    same_rising (upto (Some x.stamp) (xs ++ x ∷ ys)) (xs ++ x ∷ []) (rises_upto (Some x.stamp) (xs ++ x ∷ ys) h) (rises_left (xs ++ x ∷ []) ys (subst Rises (sym (append_assoc xs (x ∷ []) ys)) h))
    (λ z m. let r = upto_from x.stamp (xs ++ x ∷ ys) z m in
    elim (among_either xs (x ∷ ys) z r.0) [ inl n ↦ among_left xs (x ∷ []) z n | inr n ↦ among_right xs (x ∷ []) z (last z n r.1) ])
    (λ z m. upto_in x.stamp (xs ++ x ∷ ys) z (elim (among_either xs (x ∷ []) z m) [ inl n ↦ among_left xs (x ∷ ys) z n | inr n ↦ among_right xs (x ∷ ys) z (elim n [ inl e ↦ inl e | inr o ↦ absurd o ]) ])
    (elim (among_either xs (x ∷ []) z m) [ inl n ↦ lt_is_le z.stamp x.stamp (rises_apart xs (x ∷ ys) z x h n (inl refl)) | inr n ↦ elim n [ inl e ↦ subst (λ (w : Entry). Le w.stamp x.stamp) e (le_self x.stamp) | inr o ↦ absurd o ] ]))
  where
    last : (z : Entry) → Among (x ∷ ys) z → Le z.stamp x.stamp → Among (x ∷ []) z
    last z (inl e) l = inl e
    last z (inr n) l = absurd (lt_not x.stamp z.stamp (all_at (λ w. Lt x.stamp w.stamp) ys z (rises_right xs (x ∷ ys) h).0 n) l)

find_next : (s : Stamp) (xs ys : List Entry) (x : Entry) → Rises (xs ++ x ∷ ys) → IsTrue (stamp_eq x.stamp s) → find (λ e. stamp_eq e.stamp s) (xs ++ x ∷ ys) ≡ Some x
find_next s [] ys x h e = ap (λ b. cond b (Some x) (find (λ e. stamp_eq e.stamp s) ys)) e
find_next s (y ∷ xs) ys x h e = go (stamp_eq y.stamp s) refl (find_next s xs ys x h.1 e)
  where
    go : (b : Bool) → stamp_eq y.stamp s ≡ b → find (λ e. stamp_eq e.stamp s) (xs ++ x ∷ ys) ≡ Some x → cond b (Some y) (find (λ e. stamp_eq e.stamp s) (xs ++ x ∷ ys)) ≡ Some x
    go true f r =
        let a = eq_le y.stamp s f in
        let b = eq_le x.stamp s e in
        absurd (lt_not y.stamp x.stamp (all_at (λ z. Lt y.stamp z.stamp) (xs ++ x ∷ ys) x h.0 (among_right xs (x ∷ ys) x (inl refl))) (le_trans x.stamp s y.stamp b.0 a.1))
    go false f r = r

entry_behind : (y : Entry) (xs ys : List Entry) → ((d : Entry) → Among xs d → Le d.stamp y.stamp) → with_entry y (xs ++ ys) ≡ xs ++ with_entry y ys
unfolding with_entry
entry_behind y [] ys h = refl
entry_behind y (x ∷ xs) ys h = go (stamp_lt y.stamp x.stamp) refl (entry_behind y xs ys (λ d m. h d (inr m)))
  where
    go : (b : Bool) → stamp_lt y.stamp x.stamp ≡ b → with_entry y (xs ++ ys) ≡ xs ++ with_entry y ys → cond b (y ∷ x ∷ xs ++ ys) (x ∷ with_entry y (xs ++ ys)) ≡ x ∷ xs ++ with_entry y ys
    go true e r = absurd (lt_not y.stamp x.stamp e (h x (inl refl)))
    go false e r = ap (λ zs. x ∷ zs) r

-- ---- what a filter by epoch leaves

filter_none : (e : ℕ) (xs ys : List Entry) → ((x : Entry) → Among xs x → x.epoch < e) → ((y : Entry) → Among ys y → y.epoch ≡ e) → filter (λ x. x.epoch == e) (xs ++ ys) ≡ ys
filter_none e [] [] h k = refl
filter_none e [] (y ∷ ys) h k = ap (λ b. cond b (y ∷ filter (λ x. x.epoch == e) ys) (filter (λ x. x.epoch == e) ys)) (eq-eqb y.epoch e (k y (inl refl))) ∙ ap (λ zs. y ∷ zs) (filter_none e [] ys (λ x m. absurd m) (λ z m. k z (inr m)))
filter_none e (x ∷ xs) ys h k =
    ap (λ b. cond b (x ∷ filter (λ x. x.epoch == e) (xs ++ ys)) (filter (λ x. x.epoch == e) (xs ++ ys))) (ne_eqb x.epoch e (λ f. let l = h x (inl refl) in omega arith)) ∙ filter_none e xs ys (λ z m. h z (inr m)) k

among_get : {A : Type 0} (xs : List A) (x : A) → Among xs x → (i : ℕ) × (i < length xs) × (slice_get xs i ≡ Some x)
among_get [] x m = absurd m
among_get (y ∷ ys) x (inl e) = (0, omega arith, ap Some e)
among_get (y ∷ ys) x (inr m) = let r = among_get ys x m in (suc r.0, omega (arith, r.1), r.2)

-- ---- an active replica

-- a commit of z that an end of this log has made
abbrev Own : (e : ℕ) (logs : ℕ → Log) → Log → Entry → Type 0
Own e logs log z = (p : ℕ) × (c : CommitOf e logs p z) × Extends c.log log

pub record Orderly (e begins : ℕ) (logs : ℕ → Log) (log : Log) : Type 0 where
  pub prefix : List Entry
  pub done : List Entry
  pub rest : List Entry
  pub executed_is : executed log ≡ prefix ++ done
  pub logged_is : logged_in e log ≡ done ++ rest
  pub prefix_is : length prefix ≡ begins
  pub own : (z : Entry) → Among done z → Own e logs log z

pub commit_fit : (me n : ℕ) (log : Log) (s : Stamp) → IsTrue (fits me n log (Rec.Commit s)) → IsTrue (active log) × IsTrue (option_map_or (λ z. stamp_eq z.stamp s) (first_of (unexecuted log)) false)
unfolding fits
commit_fit me n log s h = and_parts (active log) _ h

no_first : (s : Stamp) → IsTrue (option_map_or (λ (z : Entry). stamp_eq z.stamp s) (first_of []) false) → ⊥
unfolding first_of
no_first s h = false≢true h

first_eq : (s : Stamp) (z : Entry) (zs : List Entry) → IsTrue (option_map_or (λ (z : Entry). stamp_eq z.stamp s) (first_of (z ∷ zs)) false) → IsTrue (stamp_eq z.stamp s)
unfolding first_of
first_eq s z zs h = h

first_is : (z : Entry) (zs : List Entry) → first_of (z ∷ zs) ≡ Some z
unfolding first_of
first_is z zs = refl

pub first_from : (xs : List Entry) (x : Entry) → first_of xs ≡ Some x → (ys : List Entry) × (xs ≡ x ∷ ys)
unfolding first_of
first_from [] x h = absurd (none-some x h)
first_from (y ∷ ys) x h = (ys, ap (λ z. z ∷ ys) (same_Some y x h))

pub enter_fit : (me n : ℕ) (log : Log) (y : ℕ) → IsTrue (fits me n log (Rec.Enter y)) → length (executed log) ≡ start log
unfolding fits
enter_fit me n log y h =
    let a = and_parts _ (not (has_entered y log)) h in
    let b = and_parts _ (length (executed log) == start log) a.0 in
    eqb-true (length (executed log)) (start log) b.1

adopt_fit : (me n : ℕ) (log : Log) (place : ℕ) (es : List Entry) → IsTrue (fits me n log (Rec.Adopt place es)) → IsTrue (active log) → ⊥
unfolding fits active
adopt_fit me n log place es h a = go (live log) (suspended log) (and_parts _ (not (live log) || suspended log) h).1 a
  where
    go : (b c : Bool) → IsTrue (not b || c) → IsTrue (b && not c) → ⊥
    go true true f g = false≢true g
    go true false f g = false≢true f
    go false c f g = false≢true g

not_suspended : (b : Bool) → IsTrue (b && not true) → ⊥
not_suspended true h = false≢true h
not_suspended false h = false≢true h

pub logged_now : (log : Log) (e : ℕ) → known log ≡ e → logged log ≡ logged_in e log
unfolding logged
logged_now log e k = ap (λ x. logged_in x log) k

module _ (e n begins : ℕ) (spec : List ℕ) (logs : ℕ → Log) (facts : EpochFacts e n begins spec logs) where
  rising : (k : ℕ) (log : Log) → Extends log (logs k) → Rises (logged_in e log)
  rising k log x = logged_rises k n e log (end_fits k n x (facts.fit k))

  -- the last executed stamp, and what is not executed
  module _ (k : ℕ) (log : Log) (x : Extends log (logs k)) (knows : known log ≡ e) (o : Orderly e begins logs log) where
    older : (z : Entry) → Among o.prefix z → z.epoch < e
    older z m =
        let g = among_get o.prefix z m in
        facts.before k log x knows g.0 z (omega (arith, g.1, o.prefix_is)) (subst (λ zs. slice_get zs g.0 ≡ Some z) (sym o.executed_is) (get_left o.prefix o.done g.0 z g.2))

    of_epoch : (z : Entry) → Among o.done z → z.epoch ≡ e
    of_epoch z m = logged_epoch e log z (subst (λ zs. Among zs z) (sym o.logged_is) (among_left o.done o.rest z m))

    last_is : last_stamp log ≡ option_map (λ e. e.stamp) (last_of o.done)
    unfolding last_stamp
    last_is =
        ap (λ f. option_map (λ (z : Entry). z.stamp) (last_of (filter (λ z. z.epoch == f) (executed log)))) knows
        ∙ ap (λ zs. option_map (λ (z : Entry). z.stamp) (last_of (filter (λ z. z.epoch == e) zs))) o.executed_is
        ∙ ap (λ zs. option_map (λ (z : Entry). z.stamp) (last_of zs)) (filter_none e o.prefix o.done older of_epoch)

    unexecuted_is : unexecuted log ≡ o.rest
    unfolding unexecuted logged
    unexecuted_is =
        ap (λ s. above s (logged_in (known log) log)) last_is
        ∙ ap (λ f. above (option_map (λ e. e.stamp) (last_of o.done)) (logged_in f log)) knows
        ∙ ap (above (option_map (λ e. e.stamp) (last_of o.done))) o.logged_is
        ∙ above_last o.done o.rest (subst Rises o.logged_is (rising k log x))

  -- ---- each record

  prepare_keeps : (k : ℕ) (log : Log) (y : Entry) → Extends (Rec.Prepare y ∷ log) (logs k) → known log ≡ e → Orderly e begins logs log → Orderly e begins logs (Rec.Prepare y ∷ log)
  unfolding executed entry_of logged_in logged
  prepare_keeps k log y x knows o =
      record {
        prefix = o.prefix;
        done = o.done;
        rest = with_entry y o.rest;
        executed_is = o.executed_is;
        logged_is =
            ap (λ b. cond b (with_entry y (logged_in e log)) (logged_in e log)) here
            ∙ ap (with_entry y) o.logged_is
            ∙ entry_behind y o.done o.rest low;
        prefix_is = o.prefix_is;
        own = λ z m. let r = o.own z m in (r.0, r.1, more (Rec.Prepare y) r.2);
      }
    where
      fit : (y.epoch ≡ known log) × IsTrue (is_newest y (logged log)) × IsTrue (active log)
      fit = prepare_known k n log y (end_fits k n x (facts.fit k)).0

      here : (y.epoch == e) ≡ true
      here = eq-eqb y.epoch e (fit.0 ∙ knows)

      now : Among (logged_in e (logs k)) y
      now = logged_grows e y x (subst (λ b. Among (cond b (with_entry y (logged_in e log)) (logged_in e log)) y) (sym here) (entry_in y (logged_in e log)))

      apart : Among (logged_in e log) y → ⊥
      apart m =
          let a = all_at (λ f. Apart y f) _ y (newest_all y _ fit.1) (subst (λ f. Among (logged_in f log) y) (sym knows) m) in
          elim a [ inl l ↦ lt_not y.stamp y.stamp l (le_self y.stamp) | inr l ↦ lt_not y.stamp y.stamp l (le_self y.stamp) ]

      low : (d : Entry) → Among o.done d → Le d.stamp y.stamp
      low d m = go (lt_or_le y.stamp d.stamp)
        where
          go : Lt y.stamp d.stamp ⊎ Le d.stamp y.stamp → Le d.stamp y.stamp
          go (inl l) =
              let r = o.own d m in
              absurd (apart (logged_grows e y r.2 (facts.stable r.0 d r.1 k y now (le_time y.stamp d.stamp (lt_is_le y.stamp d.stamp l)))))
          go (inr l) = l

  commit_one : (k : ℕ) (log : Log) (s : Stamp) → Extends (Rec.Commit s ∷ log) (logs k) → known log ≡ e → (o : Orderly e begins logs log) (z : Entry) (zs : List Entry) → o.rest ≡ z ∷ zs → IsTrue (stamp_eq z.stamp s) →
      Orderly e begins logs (Rec.Commit s ∷ log)
  unfolding executed entry_of logged_in
  commit_one k log s x knows o z zs f h =
      record {
        prefix = o.prefix;
        done = o.done ++ z ∷ [];
        rest = zs;
        executed_is =
            ap (λ r. executed log ++ option_to_list r) found
            ∙ ap (λ es. es ++ z ∷ []) o.executed_is
            ∙ append_assoc o.prefix o.done (z ∷ []);
        logged_is = logged_is ∙ sym (append_assoc o.done (z ∷ []) zs);
        prefix_is = o.prefix_is;
        own = λ w m. elim (among_either o.done (z ∷ []) w m) [ inl i ↦ older_own w i | inr i ↦ elim i [ inl g ↦ subst (Own e logs (Rec.Commit s ∷ log)) g new_own | inr j ↦ absurd j ] ];
      }
    where
      end : Extends log (logs k)
      end = extends_trans (more (Rec.Commit s) same) x

      logged_is : logged_in e log ≡ o.done ++ z ∷ zs
      logged_is = o.logged_is ∙ ap (λ r. o.done ++ r) f

      found : find (λ w. stamp_eq w.stamp s) (logged log) ≡ Some z
      found =
          ap (λ es. find (λ (w : Entry). stamp_eq w.stamp s) es) (logged_now log e knows ∙ logged_is)
          ∙ find_next s o.done zs z (subst Rises logged_is (rising k log end)) h

      older_own : (w : Entry) → Among o.done w → Own e logs (Rec.Commit s ∷ log) w
      older_own w m = let r = o.own w m in (r.0, r.1, more (Rec.Commit s) r.2)

      stamps : s ≡ z.stamp
      stamps = let r = eq_le z.stamp s h in le_both s z.stamp r.1 r.0

      new_own : Own e logs (Rec.Commit s ∷ log) z
      new_own =
          (length (executed log), record { by = k; log = log; kept = subst (λ t. Extends (Rec.Commit t ∷ log) (logs k)) stamps x; epoch = knows; next = ap first_of (unexecuted_is k log end knows o ∙ f) ∙ first_is z zs; place_is = refl }, more (Rec.Commit s) same)

  commit_keeps : (k : ℕ) (log : Log) (s : Stamp) → Extends (Rec.Commit s ∷ log) (logs k) → known log ≡ e → (o : Orderly e begins logs log) → Orderly e begins logs (Rec.Commit s ∷ log)
  commit_keeps k log s x knows o = go o.rest refl (ready fit.1)
    where
      end : Extends log (logs k)
      end = extends_trans (more (Rec.Commit s) same) x

      fit : IsTrue (active log) × IsTrue (option_map_or (λ z. stamp_eq z.stamp s) (first_of (unexecuted log)) false)
      fit = commit_fit k n log s (end_fits k n x (facts.fit k)).0

      ready : IsTrue (option_map_or (λ z. stamp_eq z.stamp s) (first_of (unexecuted log)) false) → IsTrue (option_map_or (λ z. stamp_eq z.stamp s) (first_of o.rest) false)
      ready h = subst (λ zs. IsTrue (option_map_or (λ (z : Entry). stamp_eq z.stamp s) (first_of zs) false)) (unexecuted_is k log end knows o) h

      go : (zs : List Entry) → o.rest ≡ zs → IsTrue (option_map_or (λ z. stamp_eq z.stamp s) (first_of zs) false) → Orderly e begins logs (Rec.Commit s ∷ log)
      go [] f h = absurd (no_first s h)
      go (z ∷ zs) f h = commit_one k log s x knows o z zs f (first_eq s z zs h)

  enter_keeps : (k : ℕ) (log : Log) (y : ℕ) → Extends (Rec.Enter y ∷ log) (logs k) → known log ≡ e → Orderly e begins logs (Rec.Enter y ∷ log)
  unfolding executed entry_of logged_in
  enter_keeps k log y x knows =
      record {
        prefix = executed log;
        done = [];
        rest = logged_in e log;
        executed_is = sym (append-nil (executed log));
        logged_is = refl;
        prefix_is = enter_fit k n log y (end_fits k n x (facts.fit k)).0 ∙ facts.begin k log (extends_trans (more (Rec.Enter y) same) x) knows;
        own = λ z m. absurd m;
      }

  -- what is active is orderly
  pub orderly : (k : ℕ) (log : Log) → Extends log (logs k) → known log ≡ e → IsTrue (active log) → Orderly e begins logs log
  unfolding known decision active live suspended executed entry_of logged_in
  orderly k [] x knows h = absurd (false≢true h)
  orderly k (Rec.Boot me m ∷ log) x knows h = absurd (false≢true h)
  orderly k (Rec.Prepare y ∷ log) x knows h = prepare_keeps k log y x knows (orderly k log (extends_trans (more (Rec.Prepare y) same) x) knows h)
  orderly k (Rec.Commit s ∷ log) x knows h = commit_keeps k log s x knows (orderly k log (extends_trans (more (Rec.Commit s) same) x) knows h)
  orderly k (Rec.Adopt place es ∷ log) x knows h = absurd (adopt_fit k n log place es (end_fits k n x (facts.fit k)).0 h)
  orderly k (Rec.Suspend y ∷ log) x knows h = absurd (not_suspended (live log) h)
  orderly k (Rec.Promise i b ∷ log) x knows h =
      let o = orderly k log (extends_trans (more (Rec.Promise i b) same) x) knows h in
      record { prefix = o.prefix; done = o.done; rest = o.rest; executed_is = o.executed_is; logged_is = o.logged_is; prefix_is = o.prefix_is; own = λ z m. let r = o.own z m in (r.0, r.1, more (Rec.Promise i b) r.2) }
  orderly k (Rec.Accept i b d ∷ log) x knows h =
      let o = orderly k log (extends_trans (more (Rec.Accept i b d) same) x) knows h in
      record { prefix = o.prefix; done = o.done; rest = o.rest; executed_is = o.executed_is; logged_is = o.logged_is; prefix_is = o.prefix_is; own = λ z m. let r = o.own z m in (r.0, r.1, more (Rec.Accept i b d) r.2) }
  orderly k (Rec.Decide d ∷ log) x knows h = absurd (false≢true h)
  orderly k (Rec.Enter y ∷ log) x knows h = enter_keeps k log y x knows

  -- ---- what a commit is the last of

  -- the entries up to the committed one that its replica had logged
  pub cut : (p : ℕ) (x : Entry) → CommitOf e logs p x → List Entry
  cut p x c = upto (Some x.stamp) (logged_in e c.log)

  commit_end : (p : ℕ) (x : Entry) (c : CommitOf e logs p x) → Extends c.log (logs c.by)
  commit_end p x c = extends_trans (more (Rec.Commit x.stamp) same) c.kept

  commit_orderly : (p : ℕ) (x : Entry) (c : CommitOf e logs p x) → Orderly e begins logs c.log
  commit_orderly p x c = orderly c.by c.log (commit_end p x c) c.epoch (commit_fit c.by n c.log x.stamp (end_fits c.by n c.kept (facts.fit c.by)).0).0

  cut_is : (p : ℕ) (x : Entry) (c : CommitOf e logs p x) → (upto (Some x.stamp) (logged_in e c.log) ≡ (commit_orderly p x c).done ++ x ∷ []) × Among (logged_in e c.log) x
  cut_is p x c =
      let o = commit_orderly p x c in
      let f = first_from o.rest x (ap first_of (sym (unexecuted_is c.by c.log (commit_end p x c) c.epoch o)) ∙ c.next) in
      let l : logged_in e c.log ≡ o.done ++ x ∷ f.0 = o.logged_is ∙ ap (λ r. o.done ++ r) f.1 in
      (ap (upto (Some x.stamp)) l ∙ upto_next o.done f.0 x (subst Rises l (rising c.by c.log (commit_end p x c))), subst (λ zs. Among zs x) (sym l) (among_right o.done (x ∷ f.0) x (inl refl)))

  pub cut_length : (p : ℕ) (x : Entry) (c : CommitOf e logs p x) → suc p ≡ begins + length (cut p x c)
  unfolding cut
  cut_length p x c =
      let o = commit_orderly p x c in
      let l : length (cut p x c) ≡ length (o.done ++ x ∷ []) = ap length (cut_is p x c).0 in
      let m = length-append o.done (x ∷ []) in
      let q : p ≡ length (o.prefix ++ o.done) = sym c.place_is ∙ ap length o.executed_is in
      let r = length-append o.prefix o.done in
      omega (arith, l, m, q, r, o.prefix_is)

  pub cut_has : (p : ℕ) (x : Entry) (c : CommitOf e logs p x) → Among (cut p x c) x
  unfolding cut
  cut_has p x c = upto_in x.stamp (logged_in e c.log) x (cut_is p x c).1 (le_self x.stamp)

  pub cut_rises : (p : ℕ) (x : Entry) (c : CommitOf e logs p x) → Rises (cut p x c)
  unfolding cut
  cut_rises p x c = rises_upto (Some x.stamp) (logged_in e c.log) (rising c.by c.log (commit_end p x c))

  -- each of them was committed
  pub cut_commits : (p : ℕ) (x : Entry) (c : CommitOf e logs p x) (z : Entry) → Among (cut p x c) z → (q : ℕ) × CommitOf e logs q z
  unfolding cut
  cut_commits p x c z m =
      let o = commit_orderly p x c in
      elim (among_either o.done (x ∷ []) z (subst (λ zs. Among zs z) (cut_is p x c).0 m)) [ inl i ↦ (let r = o.own z i in (r.0, r.1)) | inr i ↦ elim i [ inl g ↦ (p, subst (CommitOf e logs p) g c) | inr j ↦ absurd j ] ]

  -- each was logged at some replica, and nothing that was logged is missing
  pub cut_from : (p : ℕ) (x : Entry) (c : CommitOf e logs p x) (z : Entry) → Among (cut p x c) z → Among (logged_in e (logs c.by)) z × Le z.stamp x.stamp
  unfolding cut
  cut_from p x c z m = let r = upto_from x.stamp (logged_in e c.log) z m in (logged_grows e z (commit_end p x c) r.0, r.1)

  pub cut_in : (p : ℕ) (x : Entry) (c : CommitOf e logs p x) (k : ℕ) (z : Entry) → Among (logged_in e (logs k)) z → Le z.stamp x.stamp → Among (cut p x c) z
  unfolding cut
  cut_in p x c k z m l = upto_in x.stamp (logged_in e c.log) z (facts.stable p x c k z m (le_time z.stamp x.stamp l)) l
