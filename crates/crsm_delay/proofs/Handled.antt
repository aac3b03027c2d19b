-- The effect of one more line on a reader, and of the end.
use Rattle.std.proofs.Common.{◌≡◌, ℕ, ◌+◌, ◌<◌, ◌≤◌, ◌++◌, List, [], ◌∷◌, refl, sym, ◌∙◌, ap, subst, inl, inr, Bool, true, false, cond, arith}
use Rattle.std.specs.Prelude.{Option, Some, None, Result, Ok, Err, IfOk, IfErr, OnOk, find, nat_le, nat_lt, not, ◌==◌, ◌&&◌, ◌||◌, ◌⊎◌}
use Rattle.std.specs.Option.{option_map_or}
use Rattle.std.specs.List.{AllByRecursion}
use Rattle.std.proofs.Math.Logic.{∥∥₁_elim, ∥∥₁_map}
use Rattle.std.proofs.Props.{props}
use Rattle.std.proofs.lemmas.Bool.{false≢true, and_parts, or_cases}
use Rattle.std.proofs.lemmas.Bool.Decides.{nat_tests}
use Rattle.std.proofs.lemmas.List.{append-nil}
use Rattle.std.proofs.lemmas.Option.{none-some, same_Some}
use Rattle.crsm_port_lines.specs.Handling.{Text, Handles, EndsWell, StopsAt}
use Rattle.crsm_port_lines.specs.declared.InputEnd.{InputEnd}
use Rattle.crsm_port_lines.specs.declared.Stop.{Stop}
use Rattle.crsm_schedule.specs.Grammar.{IsSize, first_text}
use Rattle.crsm_fact_log.proofs.Lists.{all-push}
use Rattle.crsm_spec_plan.specs.declared.Plan.{Plan}
use Rattle.crsm_spec_plan.specs.declared.Offset.{Offset as Ahead}
use Rattle.crsm_spec_plan.specs.declared.Delay.{Delay as Takes}
use Rattle.crsm_spec_plan.specs.Plans.{FitsPlan, most_delay, most_moment, offset_of, delay_of, stamped, reading}
use Rattle.crsm_delay.specs.Exactly.{EndsExactly}
use Rattle.crsm_delay.specs.Grammar.{FitsLine, line_text}
use Rattle.crsm_delay.specs.Drafts.{can_follow, empty, with_line}
use Rattle.crsm_delay.specs.Advancing.{Advanced, Advances, IsRead, Reads, RefusedAfter}
use Rattle.crsm_delay.specs.Reading.{AddsWritten, HasRead, IsWritten, StopsUnread, ReadsSo, plans_of}
use Rattle.crsm_delay.specs.declared.line.PlanLine.{PlanLine}
use Rattle.crsm_delay.specs.declared.line.PlanLine.TheVariants.{Offset, Delay, Command}
use Rattle.crsm_delay.specs.declared.draft.Draft.{Draft}
use Rattle.crsm_delay.specs.declared.handling.PlanCause.{PlanCause}
use Rattle.crsm_delay.specs.declared.reader.PlanReader.{PlanReader}
use Rattle.crsm_delay.specs.declared.handling.Wanted.{Wanted}

-- ---- one line

pub first_reads : (text : Text) (n : ℕ) (d : Draft) → IsSize n → text ≡ first_text n → d ≡ empty n → Advances None text (Some d)
unfolding Advances
first_reads text n d size t e = subst (λ x. Advanced None x (Some d)) (sym t) (subst (λ x. Advanced None (first_text n) (Some x)) (sym e) (Advanced.IsFirst n size))

pub next_reads : (d new : Draft) (line : PlanLine) (text : Text) → FitsLine line → text ≡ line_text line → can_follow d line ≡ true → new ≡ with_line d line → Advances (Some d) text (Some new)
unfolding Advances
next_reads d new line text fits t can e =
    subst (λ x. Advanced (Some d) x (Some new)) (sym t) (subst (λ x. Advanced (Some d) (line_text line) (Some x)) (sym e) (Advanced.IsNext d line fits can))

pub unread : (d : Draft) (text : Text) (result : Option PlanLine) → ((l : PlanLine) → FitsLine l → text ≡ line_text l → result ≡ Some l) → result ≡ None → StopsUnread (Stop.Refused PlanCause.Unreadable) (Some d) text
unfolding StopsUnread
unread d text result only none = (refl, λ line fits can t. none-some line (sym none ∙ only line fits t))

pub not_allowed : (d : Draft) (line : PlanLine) (text : Text) (result : Option PlanLine) → ((l : PlanLine) → FitsLine l → text ≡ line_text l → result ≡ Some l) → result ≡ Some line → can_follow d line ≡ false →
    StopsUnread (Stop.Refused PlanCause.Unreadable) (Some d) text
unfolding StopsUnread
not_allowed d line text result only is refused = (refl, λ other fits can t. false≢true (sym refused ∙ ap (can_follow d) (same_Some line other (sym is ∙ only other fits t)) ∙ can))

pub no_memory : (old : Option Draft) (text : Text) → StopsUnread Stop.NoMemory old text
unfolding StopsUnread
no_memory old text = tt

pub no_first : (old : Option Draft) (text : Text) → old ≡ None → RefusedAfter None text → StopsUnread (Stop.Refused PlanCause.Unreadable) old text
unfolding StopsUnread
no_first old text e r = (refl, subst (λ o. RefusedAfter o text) (sym e) r)

-- ---- what was read

-- a line that was not added changes nothing
pub still_read : {D E : Type 0} (result : Result D E) (old new : Draft) (text : Text) → ∥ IsRead (Some old) ∥₁ → IfOk result (λ d. Advances (Some old) text (Some new)) → IfErr result (λ e. new ≡ old) → ∥ IsRead (Some new) ∥₁
unfolding Advances
still_read (Ok d) old new text read a kept = ∥∥₁_map read (λ r. record { texts = r.texts ++ text ∷ []; reads = Reads.more text r.reads a })
still_read (Err e) old new text read a kept = subst (λ (d : Draft). ∥ IsRead (Some d) ∥₁) (sym kept) read

pub first_read : (draft : Draft) (text : Text) → Advances None text (Some draft) → ∥ IsRead (Some draft) ∥₁
unfolding Advances
first_read draft text a = ∣ record { texts = [] ++ text ∷ []; reads = Reads.more text Reads.nothing a } ∣₁

pub none_read : ∥ IsRead None ∥₁
none_read = ∣ record { texts = []; reads = Reads.nothing } ∣₁

-- ---- the handler

handled : (wanted : Wanted) (old : Option Draft) (new : PlanReader) (lines : List Text) (shown text before : Text) → Advances old text new.draft → new.wanted ≡ wanted → ReadsSo old lines shown → Handles (plans_of wanted) new lines shown text before before
unfolding Advances
handled wanted old new lines shown text before a same so = record { more = []; added = sym (append-nil before); now = record { so = record { reads = Reads.more text so.reads a; none = append-nil shown ∙ so.none }; same = same } }

pub line_ok : {D : Type 0} (result : Result D (Stop PlanCause)) (wanted : Wanted) (old new : PlanReader) (lines : List Text) (shown text before : Text) →
    IfOk result (λ d. Advances old.draft text new.draft) → new.wanted ≡ old.wanted → HasRead wanted old lines shown → OnOk result (Handles (plans_of wanted) new lines shown text before before)
line_ok (Ok d) wanted old new lines shown text before a same has = handled wanted old.draft new lines shown text before a (same ∙ has.same) has.so
line_ok (Err e) wanted old new lines shown text before a same has = tt

stops : (stop : Stop PlanCause) (wanted : Wanted) (old : Option Draft) (lines : List Text) (shown text before after : Text) → after ≡ before → StopsUnread stop old text → ReadsSo old lines shown → StopsAt (plans_of wanted) lines shown text before after stop
unfolding StopsUnread
stops (Stop.Refused cause) wanted old lines shown text before after e s so = (record { draft = old; so = so; refused = s.1; unreadable = s.0 }, e)
stops Stop.NoMemory wanted old lines shown text before after e s so = ([], sym (append-nil after ∙ e))

pub line_err : {D : Type 0} (result : Result D (Stop PlanCause)) (wanted : Wanted) (old : PlanReader) (lines : List Text) (shown text before after : Text) → after ≡ before →
    IfErr result (λ stop. StopsUnread stop old.draft text) → HasRead wanted old lines shown → IfErr result (λ stop. StopsAt (plans_of wanted) lines shown text before after stop)
line_err (Ok d) wanted old lines shown text before after e s has = tt
line_err (Err stop) wanted old lines shown text before after e s has = stops stop wanted old.draft lines shown text before after e s has.so

-- ---- what is read fits

record IsGood (d : Draft) : Type 0 where
  pub some : 1 ≤ d.plan.n
  pub most : d.plan.n ≤ 15
  pub offsets : AllByRecursion (λ (o : Ahead). o.by ≤ most_moment) d.plan.offsets
  pub delays : AllByRecursion (λ (x : Takes). x.by ≤ most_delay) d.plan.delays
  pub origin : d.is_whole ≡ true → (d.plan.origin < d.plan.n) × (d.plan.at ≤ most_moment) × (1 ≤ stamped d.plan)

IsGoodYet : Option Draft → Type 0
IsGoodYet None = Unit {0}
IsGoodYet (Some d) = IsGood d

lt_of : (a b : ℕ) → nat_lt a b ≡ true → a < b
lt_of a b e = grind (arith, nat_tests, e)

le_of : (a b : ℕ) → nat_le a b ≡ true → a ≤ b
le_of a b e = grind (arith, nat_tests, e)

not_true : (b : Bool) → not b ≡ true → b ≡ false
not_true true e = absurd (false≢true e)
not_true false e = refl

found_small : {A : Type 0} (p : A → Bool) (v : A → ℕ) (m : ℕ) (xs : List A) → AllByRecursion (λ x. v x ≤ m) xs → option_map_or v (find p xs) 0 ≤ m
found_small p v m [] h = omega arith
found_small p v m (x ∷ xs) h = go (p x) h.0 (found_small p v m xs h.1)
  where
    go : (b : Bool) → v x ≤ m → option_map_or v (find p xs) 0 ≤ m → option_map_or v (cond b (Some x) (find p xs)) 0 ≤ m
    go true a b = a
    go false a b = b

offsets_small : (plan : Plan) (k : ℕ) → AllByRecursion (λ (o : Ahead). o.by ≤ most_moment) plan.offsets → offset_of plan k ≤ most_moment
unfolding offset_of
offsets_small plan k h = found_small (λ o. o.replica == k) (λ (o : Ahead). o.by) most_moment plan.offsets h

delays_small : (plan : Plan) (a b : ℕ) → AllByRecursion (λ (x : Takes). x.by ≤ most_delay) plan.delays → delay_of plan a b ≤ most_delay
unfolding delay_of
delays_small plan a b h = go (a == b) (found_small (λ d. d.from == a && d.to == b) (λ (x : Takes). x.by) most_delay plan.delays h)
  where
    go : (c : Bool) → option_map_or (λ (x : Takes). x.by) (find (λ d. d.from == a && d.to == b) plan.delays) 0 ≤ most_delay →
        cond c 0 (option_map_or (λ (x : Takes). x.by) (find (λ d. d.from == a && d.to == b) plan.delays) 0) ≤ most_delay
    go true h = omega arith
    go false h = h

good_command : (d : Draft) (r at : ℕ) → IsGood d → (nat_lt r d.plan.n && nat_le at most_moment) ≡ true → (nat_lt 0 at || nat_lt 0 (offset_of d.plan r)) ≡ true → IsGood (with_line d (Command r at))
unfolding stamped reading offset_of
good_command d r at g fit some =
    let parts = and_parts (nat_lt r d.plan.n) (nat_le at most_moment) fit in
    record {
      some = g.some;
      most = g.most;
      offsets = g.offsets;
      delays = g.delays;
      origin = λ w. (lt_of r d.plan.n parts.0, le_of at most_moment parts.1, reads (or_cases (nat_lt 0 at) (nat_lt 0 (offset_of d.plan r)) some));
    }
  where
    reads : ((nat_lt 0 at ≡ true) ⊎ (nat_lt 0 (offset_of d.plan r) ≡ true)) → 1 ≤ at + offset_of d.plan r
    reads (inl e) = let lt = lt_of 0 at e in omega (arith, lt)
    reads (inr e) = let lt = lt_of 0 (offset_of d.plan r) e in omega (arith, lt)

good_next : (d : Draft) (line : PlanLine) → can_follow d line ≡ true → IsGood d → IsGood (with_line d line)
good_next d (Offset r by) can g =
    let p = and_parts (not d.is_whole) _ can in
    let q = and_parts (nat_lt r d.plan.n && nat_le by most_moment) _ p.1 in
    let b = and_parts (nat_lt r d.plan.n) (nat_le by most_moment) q.0 in
    record { some = g.some; most = g.most; offsets = all-push _ d.plan.offsets _ g.offsets (le_of by most_moment b.1); delays = g.delays; origin = λ w. absurd (false≢true (sym (not_true d.is_whole p.0) ∙ w)) }
good_next d (Delay from to by) can g =
    let p = and_parts (not d.is_whole) _ can in
    let q = and_parts ((nat_lt from d.plan.n && nat_lt to d.plan.n) && not (from == to)) _ p.1 in
    let b = and_parts (nat_le by most_delay) _ q.1 in
    record { some = g.some; most = g.most; offsets = g.offsets; delays = all-push _ d.plan.delays _ g.delays (le_of by most_delay b.0); origin = λ w. absurd (false≢true (sym (not_true d.is_whole p.0) ∙ w)) }
good_next d (Command r at) can g =
    let p = and_parts (not d.is_whole) _ can in
    let q = and_parts (nat_lt r d.plan.n && nat_le at most_moment) _ p.1 in
    good_command d r at g q.0 q.1

good_more : (old new : Option Draft) (text : Text) → Advanced old text new → IsGoodYet old → IsGoodYet new
unfolding IsGoodYet
good_more old new text (Advanced.IsFirst n size) g = record { some = size.0; most = size.1; offsets = tt; delays = tt; origin = λ w. absurd (false≢true w) }
good_more old new text (Advanced.IsNext d line fits can) g = good_next d line can g

good_reads : (texts : List Text) (o : Option Draft) → Reads texts o → IsGoodYet o
unfolding IsGoodYet
good_reads texts o Reads.nothing = tt
good_reads texts o (Reads.more {old = old} text r a) = good_more old o text a (good_reads _ old r)

fits_plan : (texts : List Text) (d : Draft) → Reads texts (Some d) → d.is_whole ≡ true → FitsPlan d.plan
unfolding IsGoodYet
fits_plan texts d r w =
    let g = good_reads texts (Some d) r in
    let o = g.origin w in
    record { some = g.some; most = g.most; origin = o.0; at = o.1; offsets = λ k. offsets_small d.plan k g.offsets; delays = λ a b. delays_small d.plan a b g.delays; reads = o.2 }

fits_prop : (plan : Plan) → IsProp (FitsPlan plan)
fits_prop plan = hlevel props

-- a whole plan that was read is within its bounds
pub whole_fits : (draft : Option Draft) (d : Draft) → ∥ IsRead draft ∥₁ → draft ≡ Some d → d.is_whole ≡ true → FitsPlan d.plan
whole_fits draft d read is whole = ∥∥₁_elim read (fits_prop d.plan) (λ r. fits_plan r.texts d (subst (λ o. Reads r.texts o) is r.reads) whole)

pub ends_well : (wanted : Wanted) (r : PlanReader) (d : Draft) (lines : List Text) (shown before after : Text) → r.draft ≡ Some d → d.is_whole ≡ true →
    AddsWritten r.wanted d.plan before after → HasRead wanted r lines shown → EndsWell (plans_of wanted) lines shown before after
ends_well wanted r d lines shown before after is whole adds has =
    let reads = subst (λ o. Reads lines o) is has.so.reads in
    let fits = fits_plan lines d reads whole in
    record {
      last = adds.more;
      added = adds.added;
      may = record { draft = d; so = record { reads = reads; none = has.so.none }; whole = whole; fits = fits; last_is = subst (λ w. IsWritten w d.plan adds.more) has.same adds.written };
    }

pub begins : (r : PlanReader) (wanted : Wanted) → r.draft ≡ None → r.wanted ≡ wanted → HasRead wanted r [] []
begins r wanted e same = record { so = subst (λ o. ReadsSo o [] []) (sym e) (record { reads = Reads.nothing; none = refl }); same = same }

pub exactly_so : (w v : Wanted) (left : Option Text) (in_old in_new out_old out_new : ℕ) (result : InputEnd PlanCause) → w ≡ v → EndsExactly w left in_old in_new out_old out_new result → EndsExactly v left in_old in_new out_old out_new result
exactly_so w v left in_old in_new out_old out_new result e h = subst (λ (x : Wanted). EndsExactly x left in_old in_new out_old out_new result) e h
