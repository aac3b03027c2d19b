-- The history with one more executed entry.
use Rattle.std.proofs.Common.{◌≡◌, ℕ, suc, zero, Bool, true, false, ◌<◌, List, [], ◌∷◌, ◌++◌, refl, ap, sym, ◌∙◌, arith, length, append_assoc, subst}
use Rattle.std.specs.Prelude.{filter, map, slice_get, Option, None, Some, ◌==◌, ◌||◌, ◌&&◌, nat_lt, if◌then◌else◌}
use Rattle.std.specs.List.{AllByRecursion}
use Rattle.std.specs.Option.{option_map, option_map_or}
use Rattle.std.proofs.lemmas.Grind.{fold-append}
use Rattle.std.proofs.lemmas.List.{map-append}
use Rattle.std.proofs.lemmas.Bool.Decides.{nat_tests}
use Rattle.crsm_base.specs.Order.{stamp_lt, entry_lt}
use Rattle.crsm_base.specs.Spelling.{entry_bytes, FitsEntry}
use Rattle.crsm_base.specs.Store.{Rows, after, apply, no_rows, answer_after}
use Rattle.crsm_spec.specs.Types.{Stamp, Entry, Line, Answer}
use Rattle.crsm_spec.specs.Lists.{last_of}
use Rattle.crsm_spec.specs.Log.{Log, known, executed, last_stamp}
use Rattle.crsm_spec.specs.Fits.{goes_on}
use Rattle.crsm_spec.specs.Lines.{exec_line, exec_lines}
use Rattle.crsm_ledger.specs.declared.history.History.{History}
use Rattle.crsm_ledger.specs.declared.history.Position.{Position}
use Rattle.crsm_ledger.specs.Executed.{Grows, HistoryStands, Spells, position_of, last_stamp_in, goes_on_behind}
use Rattle.crsm_ledger.specs.Pieces.{IsSpelling}
use Rattle.crsm_fact_log.proofs.Lists.{all-append, all-push, map-push, filter-push, slice_get-map, length-map, last_or-push, append-none}

pub last_of-push : {X : Type 0} (xs : List X) (x : X) → last_of (xs ++ x ∷ []) ≡ Some x
unfolding last_of
last_of-push xs x = last_or-push None xs x

pub after-push : (es : List Entry) (e : Entry) → after (es ++ e ∷ []) ≡ (apply (after es) e.command).0
unfolding after
after-push es e = fold-append (λ rows e. (apply rows e.command).0) no_rows es (e ∷ [])

pub position_of-push : (es : List Entry) (e : Entry) → position_of (es ++ e ∷ []) ≡ Some (record { epoch = e.epoch; stamp = e.stamp })
unfolding position_of
position_of-push es e = rw (last_of-push es e)

pub exec_lines-push : (me : ℕ) (done es : List Entry) (e : Entry) → exec_lines me done (es ++ e ∷ []) ≡ exec_lines me done es ++ exec_line me (done ++ es) e ∷ []
unfolding exec_lines
exec_lines-push me done [] e = rw (append-none done)
exec_lines-push me done (f ∷ es) e =
    ap (λ rest. exec_line me done f ∷ rest) (exec_lines-push me (done ++ f ∷ []) es e ∙ ap (λ d. exec_lines me (done ++ f ∷ []) es ++ exec_line me d e ∷ []) (append_assoc done (f ∷ []) es))

stamped_by_test : (same : Bool) (e : Entry) (before : List Entry) → option_map (λ f. f.stamp) (last_of (before ++ (if same then e ∷ [] else []))) ≡ (if same then Some e.stamp else option_map (λ f. f.stamp) (last_of before))
stamped_by_test true e before = rw (last_of-push before e)
stamped_by_test false e before = rw (append-none before)

pub last_stamp_in-push : (x : ℕ) (es : List Entry) (e : Entry) → last_stamp_in x (es ++ e ∷ []) ≡ (if e.epoch == x then Some e.stamp else last_stamp_in x es)
unfolding last_stamp_in
last_stamp_in-push x es e =
    ap (λ kept. option_map (λ f. f.stamp) (last_of kept)) (filter-push (λ f. f.epoch == x) es e)
    ∙ stamped_by_test (e.epoch == x) e (filter (λ f. f.epoch == x) es)

-- the fields after an entry more
pub executes : (h : History) (x : ℕ) (es : List Entry) (e : Entry) (spelt : List (List ℕ)) (spelling : List ℕ) (rows : Rows) (last : Option Position) (last_stamp : Option Stamp) → HistoryStands h x es → FitsEntry e → spelt ≡ h.spelt ++ entry_bytes e ∷ [] → rows ≡ (apply h.store e.command).0 → last ≡ Some (record { epoch = e.epoch; stamp = e.stamp }) → last_stamp ≡ (if e.epoch == h.epoch then Some e.stamp else h.last_stamp) → HistoryStands (record h { spelt = spelt; spelling = spelling; store = rows; last = last; last_stamp = last_stamp }) x (es ++ e ∷ [])
executes h x es e spelt spelling rows last last_stamp before fits s r l t = record {
  spelt = s ∙ ap (λ bytes. bytes ++ entry_bytes e ∷ []) before.spelt ∙ sym (map-push entry_bytes es e);
  rows = r ∙ ap (λ rows. (apply rows e.command).0) before.rows ∙ sym (after-push es e);
  last = l ∙ sym (position_of-push es e);
  epoch = before.epoch;
  last_stamp = t ∙ ap (λ k. if e.epoch == k then Some e.stamp else h.last_stamp) before.epoch ∙ ap (λ o. if e.epoch == x then Some e.stamp else o) before.last_stamp ∙ sym (last_stamp_in-push x es e);
  fit = all-push FitsEntry es e before.fit fits;
}

-- the line of the entry that was executed, by the fields before
pub exec_line-is : (h : History) (x : ℕ) (es : List Entry) (e : Entry) (me : ℕ) (answer : Answer) → HistoryStands h x es → answer ≡ (apply h.store e.command).1 → Line.Exec me (length h.spelt) e.epoch e.stamp e.command.client e.command.number answer ≡ exec_line me es e
unfolding exec_line answer_after
exec_line-is h x es e me answer before is =
    rw (is, before.rows, before.spelt, length-map entry_bytes es)

pub length-spelt : (h : History) (x : ℕ) (es : List Entry) → HistoryStands h x es → length h.spelt ≡ length es
length-spelt h x es has = ap length has.spelt ∙ length-map entry_bytes es

-- what is encoded among the executed entries
pub stands-spells : {h : History} {x : ℕ} {es : List Entry} → HistoryStands h x es → Spells h.spelt es
stands-spells has = record { spelt = has.spelt; fit = has.fit }

pub slice_get-spells : (encodings : List (List ℕ)) (es : List Entry) (i : ℕ) → Spells encodings es → slice_get encodings i ≡ option_map entry_bytes (slice_get es i)
slice_get-spells encodings es i s = ap (λ spelt. slice_get spelt i) s.spelt ∙ slice_get-map entry_bytes es i

pub slice_get-spelt : (h : History) (x : ℕ) (es : List Entry) (i : ℕ) → HistoryStands h x es → slice_get h.spelt i ≡ option_map entry_bytes (slice_get es i)
slice_get-spelt h x es i has = slice_get-spells h.spelt es i (stands-spells has)

pub length-spells : (encodings : List (List ℕ)) (es : List Entry) → Spells encodings es → length encodings ≡ length es
length-spells encodings es s = ap length s.spelt ∙ length-map entry_bytes es

-- ---- what grows

pub grows-none : (old new : History) → new.spelt ≡ old.spelt → new.epoch ≡ old.epoch → Grows old new
grows-none old new same epoch = record { more = []; fit = tt; spelt = same ∙ sym (append-none old.spelt); epoch = epoch }

pub grows-one : (old new : History) (e : Entry) → FitsEntry e → new.spelt ≡ old.spelt ++ entry_bytes e ∷ [] → new.epoch ≡ old.epoch → Grows old new
grows-one old new e fits pushed epoch = record { more = e ∷ []; fit = (fits, tt); spelt = pushed; epoch = epoch }

pub grows-trans : (a b c : History) → Grows a b → Grows b c → Grows a c
grows-trans a b c first second = record {
  more = first.more ++ second.more;
  fit = all-append FitsEntry first.more second.more first.fit second.fit;
  spelt = second.spelt ∙ ap (λ bytes. bytes ++ map entry_bytes second.more) first.spelt
      ∙ append_assoc a.spelt (map entry_bytes first.more) (map entry_bytes second.more)
      ∙ ap (λ bytes. a.spelt ++ bytes) (sym (map-append entry_bytes first.more second.more));
  epoch = second.epoch ∙ first.epoch;
}

none_of_epoch : (x : ℕ) (es : List Entry) → AllByRecursion (λ e. e.epoch < x) es → filter (λ e. e.epoch == x) es ≡ []
none_of_epoch x [] below = refl
none_of_epoch x (e ∷ es) below = let other : (e.epoch == x) ≡ false = grind (arith, nat_tests, below.0) in rw other (none_of_epoch x es below.1)

pub begins : (h : History) (x y : ℕ) (es : List Entry) → HistoryStands h x es → AllByRecursion (λ e. e.epoch < y) es → HistoryStands (record h { epoch = y; last_stamp = None }) y es
unfolding last_stamp_in last_of
begins h x y es before below = record {
  spelt = before.spelt;
  rows = before.rows;
  last = before.last;
  epoch = refl;
  last_stamp = rw (none_of_epoch y es below) refl;
  fit = before.fit;
}

by_last : (o : Option Entry) (e : Entry) → option_map_or (λ (p : Position). nat_lt p.epoch e.epoch || (p.epoch == e.epoch && stamp_lt p.stamp e.stamp)) (option_map (λ f. record { epoch = f.epoch; stamp = f.stamp }) o) true ≡ option_map_or (λ f. entry_lt f e) o true
unfolding entry_lt
by_last None e = refl
by_last (Some f) e = refl

pub goes_on-position : (done es : List Entry) → goes_on_behind (position_of done) es ≡ goes_on done es
unfolding goes_on_behind goes_on position_of entry_lt
goes_on-position done [] = refl
goes_on-position done (e ∷ es) = by_last (last_of done) e

-- an entry that stands in a list that fits
pub fits_at : (es : List Entry) (i : ℕ) (e : Entry) → AllByRecursion FitsEntry es → slice_get es i ≡ Some e → FitsEntry e
fits_at [] i e all is = cc
fits_at (f ∷ es) zero e all is = let same : f ≡ e = cc in subst FitsEntry same all.0
fits_at (f ∷ es) (suc i) e all is = fits_at es i e all.1 is

-- the entry with this encoding at an index
by_found : (o : Option Entry) (bytes : List ℕ) → Some bytes ≡ option_map entry_bytes o → (e : Entry) × (o ≡ Some e) × (bytes ≡ entry_bytes e)
by_found None bytes is = cc
by_found (Some e) bytes is = (e, refl, (cc))

pub entry_at : (es : List Entry) (i : ℕ) (bytes : List ℕ) → AllByRecursion FitsEntry es → Some bytes ≡ option_map entry_bytes (slice_get es i) → (e : Entry) × (slice_get es i ≡ Some e) × (bytes ≡ entry_bytes e) × FitsEntry e
entry_at es i bytes all is =
    let found : (e : Entry) × (slice_get es i ≡ Some e) × (bytes ≡ entry_bytes e) = by_found (slice_get es i) bytes is in
    (found.0, found.1, found.2, fits_at es i found.0 all found.1)

-- what was read is the entry, if the entry would be read
pub first_same : (o : Option (Entry × ℕ)) (a e : Entry) (k len : ℕ) → o ≡ Some (e, len) → o ≡ Some (a, k) → a ≡ e
first_same o a e k len p q = let both : Some a ≡ Some e = ap (λ (r : Option (Entry × ℕ)). option_map (λ (x : Entry × ℕ). x.0) r) (sym q ∙ p) in cc

-- what an encoding is read back as
pub is_read : {bytes : List ℕ} (o : Option (Entry × ℕ)) (s : IsSpelling bytes) → ((e : Entry) (rest : List ℕ) → FitsEntry e → bytes ≡ entry_bytes e ++ rest → o ≡ Some (e, length (entry_bytes e))) → None ≡ o → ⊥
is_read o s again none =
    let found = again s.entry [] s.fits (s.is ∙ sym (append-none (entry_bytes s.entry))) in
    cc (none, found)

pub exec_lines-none : (me : ℕ) (done : List Entry) → exec_lines me done [] ≡ []
unfolding exec_lines
exec_lines-none me done = refl

-- the lines of one entry more
pub lines-push : (me : ℕ) (done es : List Entry) (e : Entry) (before : List Line) → (before ++ exec_lines me done es) ++ exec_line me (done ++ es) e ∷ [] ≡ before ++ exec_lines me done (es ++ e ∷ [])
lines-push me done es e before =
    append_assoc before (exec_lines me done es) (exec_line me (done ++ es) e ∷ []) ∙ ap (λ (rest : List Line). before ++ rest) (sym (exec_lines-push me done es e))

pub last_stamp-in : (log : Log) → last_stamp_in (known log) (executed log) ≡ last_stamp log
unfolding last_stamp_in last_stamp
last_stamp-in log = refl

pub ruleset executed_rules = (executes, exec_line-is, length-spelt, slice_get-spelt, begins)
