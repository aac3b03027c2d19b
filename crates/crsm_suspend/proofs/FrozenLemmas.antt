-- The page of a frozen log, entry by entry.
use Rattle.std.proofs.Common.{arith, ◌≡◌, ◌∙◌, ℕ, suc, ◌+◌, ◌<◌, ◌≤◌, Bool, true, false, refl, sym, ap, List, [], ◌∷◌, ◌++◌, cond, length, drop}
use Rattle.std.specs.Prelude.{◌-◌, ◌==◌, filter, nat_le, slice_get, Option, Some, None}
use Rattle.std.proofs.lemmas.Bool.Decides.{nat_tests}
use Rattle.std.proofs.lemmas.List.{append_assoc, append-nil, drop_more, length-append}
use Rattle.std.proofs.lemmas.Option.{get_or_from_slice_get}
use Rattle.crsm_fact_log.proofs.Lists.{get_inside}
use Rattle.crsm_spec.specs.Types.{Stamp, Entry, Control}
use Rattle.crsm_base.specs.Order.{stamp_lt}
use Rattle.crsm_base.specs.Spelling.{entry_bytes}
use Rattle.crsm_spec.specs.Log.{Log, above, known, executed, logged, last_stamp}
use Rattle.crsm_spec.specs.Collect.{run_within, first_page, frozen, asked_of, suspend_ok}
use Rattle.crsm_suspend.specs.Pages.{is_over, asked_stamp, IsPageOf}

pub over_some : (o : Option Stamp) (floor s : Stamp) → o ≡ Some floor → stamp_lt floor s ≡ is_over o s
unfolding is_over
over_some o floor s e = rw e refl

pub over_none : (o : Option Stamp) (s : Stamp) → o ≡ None → true ≡ is_over o s
unfolding is_over
over_none o s e = rw e refl

pub above_next : (o : Option Stamp) (e : Entry) (es : List Entry) (b : Bool) → is_over o e.stamp ≡ b → above o (e ∷ es) ≡ cond b (e ∷ above o es) (above o es)
unfolding above is_over
above_next None e es b h = ap (λ c. cond c (e ∷ es) es) h
above_next (Some s) e es b h = ap (λ c. cond c (e ∷ filter (λ f. stamp_lt s f.stamp) es) (filter (λ f. stamp_lt s f.stamp) es)) h

pub above_none : (o : Option Stamp) → above o [] ≡ []
unfolding above
above_none None = refl
above_none (Some s) = refl

is_le : (a b : ℕ) → a ≤ b → nat_le a b ≡ true
is_le a b h = grind (arith, nat_tests)

not_le : (a b : ℕ) → b < a → nat_le a b ≡ false
not_le a b h = grind (arith, nat_tests)

pub run_next : (room : ℕ) (e : Entry) (es : List Entry) → length (entry_bytes e) ≤ room → run_within room (e ∷ es) ≡ e ∷ run_within (room - length (entry_bytes e)) es
unfolding run_within
run_next room e es h = rw (is_le (length (entry_bytes e)) room h) refl

pub run_stops : (room : ℕ) (e : Entry) (es : List Entry) → room < length (entry_bytes e) → run_within room (e ∷ es) ≡ []
unfolding run_within
run_stops room e es h = rw (not_le (length (entry_bytes e)) room h) refl

pub run_none : (room : ℕ) → run_within room [] ≡ []
unfolding run_within
run_none room = refl

-- A page in progress, the room that is left and the entries still to come make the page of all the entries.
pub record IsPaging (page : List Entry) (room : ℕ) (rest all : List Entry) : Type 0 where
  pub run : page ++ run_within room rest ≡ first_page all
  pub long : length page + length rest ≡ length all

-- what is left of a list from a place on
pub left : {A : Type 0} (xs : List A) (i : ℕ) (x : A) → slice_get xs i ≡ Some x → drop i xs ≡ x ∷ drop (i + 1) xs
left xs i x at = drop_more xs i x (get_inside xs i x at) ∙ ap (λ y. y ∷ drop (i + 1) xs) (get_or_from_slice_get xs i x x at)

pub begins : (es page : List Entry) → page ≡ [] → IsPaging page 65536 es es
unfolding first_page
begins es page e = rw e (record { run = refl; long = omega arith })

module _ (page all rest : List Entry) (room : ℕ) (e : Entry) (so_far : IsPaging page room (e ∷ rest) all) where
  -- the entry goes in
  pub goes_in : (more : List Entry) (size : ℕ) → size ≡ length (entry_bytes e) → size ≤ room → more ≡ page ++ e ∷ [] → IsPaging more (room - size) rest all
  goes_in more size s l m =
      let fits : length (entry_bytes e) ≤ room = omega (arith, s, l) in
      let grown : length more ≡ length page + 1 = ap (λ (xs : List Entry). length xs) m ∙ length-append page (e ∷ []) in
      record {
        run = ap (λ xs. xs ++ run_within (room - size) rest) m ∙ append_assoc page (e ∷ []) (run_within (room - size) rest)
            ∙ ap (λ n. page ++ e ∷ run_within (room - n) rest) s
            ∙ ap (λ xs. page ++ xs) (sym (run_next room e rest fits)) ∙ so_far.run;
        long = omega (arith, grown, so_far.long);
      }

  -- the entry does not go in, and the page is full
  pub is_full : (size : ℕ) → size ≡ length (entry_bytes e) → room < size → IsPageOf all page false
  is_full size s l =
      let over : room < length (entry_bytes e) = omega (arith, s, l) in
      record {
        entries = sym (append-nil page) ∙ ap (λ xs. page ++ xs) (sym (run_stops room e rest over)) ∙ so_far.run;
        mark = apart (length page) (length rest) (length all) so_far.long;
      }
    where
      apart : (a b c : ℕ) → a + suc b ≡ c → false ≡ (a == c)
      apart a b c t = grind (arith, nat_tests)

-- all that there is goes in
pub is_all : (all page rest : List Entry) (room : ℕ) → rest ≡ [] → IsPaging page room rest all → IsPageOf all page true
is_all all page rest room none so_far =
    let same : length page + 0 ≡ length all = ap (λ (xs : List Entry). length page + length xs) (sym none) ∙ so_far.long in
    record {
      entries = sym (append-nil page) ∙ ap (λ xs. page ++ xs) (sym (ap (λ xs. run_within room xs) none ∙ run_none room)) ∙ so_far.run;
      mark = equal (length page) (length all) same;
    }
  where
    equal : (a b : ℕ) → a + 0 ≡ b → true ≡ (a == b)
    equal a b t = grind (arith, nat_tests)

-- ---- the answer

asked_is : (log : Log) (after : Option Stamp) → asked_of log after ≡ above (asked_stamp after (last_stamp log)) (logged log)
unfolding asked_of frozen
asked_is log None = refl
asked_is log (Some s) = refl

pub answer_is : (log : Log) (after last floor : Option Stamp) (epoch done : ℕ) (whole : Bool) (page : List Entry) →
    epoch ≡ known log → done ≡ length (executed log) → last ≡ last_stamp log → floor ≡ asked_stamp after last → IsPageOf (above floor (logged log)) page whole →
    Control.SuspendOk epoch done last after whole page ≡ suspend_ok log after
unfolding suspend_ok
answer_is log after last floor epoch done whole page e d l f p =
    let all : above floor (logged log) ≡ asked_of log after =
    ap (λ o. above o (logged log)) (f ∙ ap (λ t. asked_stamp after t) l) ∙ sym (asked_is log after) in
    let q : page ≡ first_page (asked_of log after) = p.entries ∙ ap (λ xs. first_page xs) all in
    let v : whole ≡ (length (first_page (asked_of log after)) == length (asked_of log after)) =
    p.mark ∙ ap (λ (xs : List Entry). length page == length xs) all ∙ ap (λ (xs : List Entry). length xs == length (asked_of log after)) q in
    rw (e, d, l, v, q) refl
