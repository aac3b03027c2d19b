-- The entries of a page, one after another.
use Rattle.std.proofs.Common.{◌≡◌, ◌∙◌, ℕ, ◌+◌, ◌<◌, ◌≤◌, refl, ap, sym, subst, List, [], ◌∷◌, ◌++◌, length, arith, drop, true}
use Rattle.std.specs.Prelude.{◌-◌, Some, None, slice_get}
use Rattle.std.specs.List.{AllByRecursion}
use Rattle.std.proofs.lemmas.Bool.Decides.{nat_tests}
use Rattle.std.proofs.lemmas.List.{append_assoc, append-nil}
use Rattle.crsm_base.specs.Order.{stamp_lt, entry_lt}
use Rattle.crsm_base.specs.Spelling.{entry_bytes, FitsEntries, FitsEntry, IsBefore, Rises}
use Rattle.crsm_spec.specs.Types.{Entry, Control}
use Rattle.crsm_spec.specs.Lists.{last_of}
use Rattle.crsm_spec.specs.Log.{Log, executed, known}
use Rattle.crsm_spec.specs.Fits.{goes_on}
use Rattle.crsm_spec.specs.Controls.{page_from}
use Rattle.crsm_spec.specs.Collect.{run_within, first_page}
use Rattle.crsm_fact_log.proofs.EntriesFit.{IsBehind, drop_rises, entry_before, page_fits, rises_then}
use Rattle.crsm_fact_log.proofs.Lists.{all-push}
use Rattle.crsm_suspend.proofs.FrozenLemmas.{left, run_next, run_none, run_stops}
use Rattle.crsm_transfer.specs.Paging.{page_at}
use Rattle.crsm_transfer.proofs.NewLemmas.{is_lt, not_lt}

-- ---- entries that rise

before_tested : (a b : Entry) → IsBefore a b → entry_lt a b ≡ true
unfolding entry_lt stamp_lt
before_tested a b h = grind (arith, nat_tests)

-- the test of the entry behind the last of others, as a fact
tested_behind : (es : List Entry) (e : Entry) → goes_on es (e ∷ []) ≡ true → IsBehind es e
unfolding goes_on last_of
tested_behind [] e h = tt
tested_behind (f ∷ []) e h = entry_before f e h
tested_behind (f ∷ g ∷ es) e h = tested_behind (g ∷ es) e h

rises_tested : (es : List Entry) (e : Entry) (rest : List Entry) → Rises (es ++ e ∷ rest) → goes_on es (e ∷ []) ≡ true
unfolding goes_on last_of
rises_tested [] e rest h = refl
rises_tested (f ∷ []) e rest h = before_tested f e h.0
rises_tested (f ∷ g ∷ es) e rest h = rises_tested (g ∷ es) e rest h.1

-- ---- a page in the making

-- The entries begin a page, whatever comes next, and leave this room in it. They have encodings and rise.
pub record IsBegun (entries : List Entry) (room : ℕ) : Type 0 where
  pub run : (rest : List Entry) → first_page (entries ++ rest) ≡ entries ++ run_within room rest
  pub fit : AllByRecursion FitsEntry entries
  pub rises : Rises entries

begun_empty : IsBegun [] 65536
unfolding first_page
begun_empty = record { run = λ rest. refl; fit = tt; rises = tt }

pub begun_none : (entries : List Entry) → entries ≡ [] → IsBegun entries 65536
begun_none entries none = subst (λ es. IsBegun es 65536) (sym none) begun_empty

pub begun_fits : (entries : List Entry) (room : ℕ) → IsBegun entries room → FitsEntries entries
begun_fits entries room begun =
    subst FitsEntries (ap first_page (sym (append-nil entries)) ∙ begun.run [] ∙ ap (λ es. entries ++ es) (run_none room) ∙ append-nil entries)
    (page_fits entries begun.fit begun.rises)

-- the entry that comes next goes in
pub begun_more : (entries more : List Entry) (room size : ℕ) (e : Entry) → size ≡ length (entry_bytes e) → size ≤ room → goes_on entries (e ∷ []) ≡ true → FitsEntry e →
    more ≡ entries ++ e ∷ [] → IsBegun entries room → IsBegun more (room - size)
begun_more entries more room size e long within behind fits is begun =
    subst (λ es. IsBegun es (room - size)) (sym is) (record {
      run = λ rest.
          ap first_page (append_assoc entries (e ∷ []) rest)
          ∙ begun.run (e ∷ rest)
          ∙ ap (λ es. entries ++ es) (run_next room e rest (subst (λ n. n ≤ room) long within) ∙ ap (λ n. e ∷ run_within (room - n) rest) (sym long))
          ∙ sym (append_assoc entries (e ∷ []) (run_within (room - size) rest));
      fit = all-push FitsEntry entries e begun.fit fits;
      rises = rises_then entries e [] begun.rises (tested_behind entries e behind) tt;
    })

-- ---- the executed entries from a place on

-- one more of them is among those that have come
pub done_more : (entries more all : List Entry) (from place : ℕ) (e : Entry) → slice_get all place ≡ Some e → more ≡ entries ++ e ∷ [] →
    entries ++ drop place all ≡ drop from all → more ++ drop (place + 1) all ≡ drop from all
done_more entries more all from place e there is done =
    ap (λ es. es ++ drop (place + 1) all) is ∙ append_assoc entries (e ∷ []) (drop (place + 1) all)
    ∙ ap (λ es. entries ++ es) (sym (left all place e there)) ∙ done

-- the next one takes more room than there is
pub full_page : (entries all : List Entry) (room size from place : ℕ) (e : Entry) → size ≡ length (entry_bytes e) → room < size → slice_get all place ≡ Some e →
    entries ++ drop place all ≡ drop from all → IsBegun entries room → entries ≡ first_page (drop from all)
full_page entries all room size from place e long over there done begun =
    sym (ap first_page (sym done) ∙ begun.run (drop place all)
    ∙ ap (λ es. entries ++ run_within room es) (left all place e there)
    ∙ ap (λ es. entries ++ es) (run_stops room e (drop (place + 1) all) (subst (λ n. room < n) long over)) ∙ append-nil entries)

-- there is no next one
pub last_page : (entries all : List Entry) (room from place : ℕ) → drop place all ≡ [] →
    entries ++ drop place all ≡ drop from all → IsBegun entries room → entries ≡ first_page (drop from all)
last_page entries all room from place none done begun =
    sym (ap first_page (sym done) ∙ begun.run (drop place all) ∙ ap (λ es. entries ++ run_within room es) none
    ∙ ap (λ es. entries ++ es) (run_none room) ∙ append-nil entries)

-- of entries that rise the next one goes on
pub next_goes_on : (entries all : List Entry) (from place : ℕ) (e : Entry) → Rises all → slice_get all place ≡ Some e →
    entries ++ drop place all ≡ drop from all → goes_on entries (e ∷ []) ≡ true
next_goes_on entries all from place e rise there done =
    rises_tested entries e (drop (place + 1) all)
    (subst Rises (sym done ∙ ap (λ es. entries ++ es) (left all place e there)) (drop_rises from all rise))

-- ---- the message

pub page_none : (log : Log) (from : ℕ) → length (executed log) ≤ from → None ≡ page_at log from
unfolding page_at
page_none log from l = rw (not_lt from (length (executed log)) l) refl

pub page_some : (log : Log) (epoch from : ℕ) (es : List Entry) → from < length (executed log) → epoch ≡ known log → es ≡ first_page (drop from (executed log)) →
    Some (Control.Page epoch from es) ≡ page_at log from
unfolding page_at page_from
page_some log epoch from es l e h = rw (is_lt from (length (executed log)) l, e, h) refl
