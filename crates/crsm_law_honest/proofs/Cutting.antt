-- A sheet that lacks its last line, by computation.
use Rattle.std.proofs.Common.{◌≡◌, ℕ, zero, suc, Bool, true, false, ◌<◌, List, [], ◌∷◌, ◌++◌, refl, sym, ◌∙◌, ap, subst, inl, inr, arith}
use Rattle.std.specs.Prelude.{◌==◌, Some, slice_get}
use Rattle.std.specs.List.{AllByRecursion, flat_map}
use Rattle.std.proofs.lemmas.Bool.{eqb-true}
use Rattle.std.proofs.lemmas.List.{append-nil}
use Rattle.std.proofs.lemmas.Option.{none-some, same_Some}
use Rattle.crsm_base.specs.Messages.{datagram_bytes}
use Rattle.crsm_base.specs.MessageReading.{datagram_of}
use Rattle.crsm_spec.specs.Types.{Datagram, Entry, InEpoch}
use Rattle.crsm_spec.specs.Lists.{Among}
use Rattle.crsm_spec.specs.Node.{Turn}
use Rattle.crsm_spec.specs.Step.{founding_boot}
use Rattle.crsm_fact_log.specs.Logs.{Logged}
use Rattle.crsm_spec_process.specs.Lives.{Life, kept_turns}
use Rattle.crsm_law_examples.proofs.Opened.{the_model}
use Rattle.crsm_law_cluster.specs.Clusters.{Event, Outgoing, after, empty_host, host_at, kept, log_in, next_out, outgoing_of, posted, sent_of, started, unborn, while_up, with_host, with_process, with_turn}
use Rattle.crsm_law_cluster.specs.Histories.{clusters, clusters_from, last_cluster, last_from}
use Rattle.crsm_law_cases.proofs.Checks.{all_bytes, all_short, are_bytes, short_cluster}
use Rattle.crsm_law_cases.proofs.Happening.{asked, put_a, read_back, small_bytes}
use Rattle.crsm_law_lives.specs.Events.{AreEventsOf, events_of, fate_events, group_events, life_events, lives_of, node_of, take_events}
use Rattle.crsm_law_lives.specs.Premises.{DisksKeep, FindWhatIsLeft, IsProcess, NobodyForges, Ran, SpeaksTrue}
use Rattle.crsm_law_lives.proofs.Laws.{got_among}
use Rattle.crsm_law_sheets.specs.Sheets.{Sheet, last_log, list_of, log_after, one_list}
use Rattle.crsm_law_sheets.specs.Verdicts.{AreInOne, IsLastOf, IsStranger}
use Rattle.crsm_law_honest.specs.Honest.{AreWrittenBy, EndComplete, IsComplete, IsWrittenBy}
use Rattle.crsm_law_honest.specs.Cases.{CutSheetsRaiseAlarms}
use Rattle.crsm_law_honest.proofs.Agreeing.{founding_logs}

-- ---- the history

abbrev the_entry : Entry
the_entry = record { epoch = 0; stamp = record { time = 5; origin = 0 }; command = put_a }

abbrev prepare : Datagram
prepare = Datagram.Frame 0 1 0 0 (InEpoch.Prepare the_entry)

unfoldable prepare_bytes : List ℕ
prepare_bytes = datagram_bytes prepare

abbrev asked_turn : Turn × ℕ
asked_turn = (Turn.In 77 asked, 5)

abbrev told_turn : Turn × ℕ
told_turn = (Turn.In 70 prepare_bytes, 6)

abbrev first_life : Life
first_life = record { me = 0; found = []; groups = record { turns = asked_turn ∷ []; fates = true ∷ [] } ∷ []; lost = []; ended = true }

abbrev second_life : Life
second_life = record { me = 1; found = []; groups = record { turns = told_turn ∷ []; fates = [] } ∷ []; lost = []; ended = false }

abbrev lives : List Life
lives = first_life ∷ second_life ∷ []

abbrev sending : List Event
sending = Event.Boots 0 ∷ Event.Takes 0 (Turn.In 77 asked) 5 ∷ Event.Keeps 0 ∷ []

abbrev history : List Event
history =
    Event.Boots 0 ∷ Event.Takes 0 (Turn.In 77 asked) 5 ∷ Event.Keeps 0 ∷ Event.Sends 0 ∷ Event.Stops 0 ∷ Event.Boots 1
    ∷ Event.Takes 1 (Turn.In 70 prepare_bytes) 6 ∷ Event.Keeps 1 ∷ []

prepare_small : all_bytes prepare_bytes ≡ true
unfolding the_model prepare_bytes all_bytes
prepare_small = refl

prepare_back : datagram_of prepare_bytes ≡ Some prepare
unfolding the_model prepare_bytes
prepare_back = refl

goes_out : next_out (last_from (unborn 2) sending) 0 ≡ Some (Outgoing.ToReplica 1 prepare)
unfolding the_model asked empty_host unborn outgoing_of started with_turn kept while_up with_process posted host_at log_in with_host next_out sent_of after last_from
goes_out = refl

is_short : all_short (last_cluster 2 history).hosts ≡ true
unfolding the_model asked prepare_bytes all_short empty_host unborn outgoing_of started with_turn kept while_up with_process posted host_at log_in with_host next_out sent_of after last_from last_cluster
is_short = refl

-- ---- its processes

-- what is so of replica 0, of 1 and of all others
by_number : (P : ℕ → Type 0) → P 0 → P 1 → ((k : ℕ) → (0 == k) ≡ false → (1 == k) ≡ false → P k) → (k : ℕ) → P k
by_number P zeroth first others k = go (0 == k) (1 == k) refl refl
  where
    go : (a b : Bool) → (0 == k) ≡ a → (1 == k) ≡ b → P k
    go true b p q = subst P (eqb-true 0 k p) zeroth
    go false true p q = subst P (eqb-true 1 k q) first
    go false false p q = others k p q

are_events : AreEventsOf lives history
unfolding events_of lives_of life_events group_events take_events fate_events node_of
are_events = by_number (λ k. events_of k history ≡ flat_map life_events (lives_of k lives)) refl refl (λ k p q. rw (p, q) refl)

find_what_is_left : DisksKeep 2 lives
unfolding lives_of
find_what_is_left =
    by_number (λ k. FindWhatIsLeft 2 [] (lives_of k lives)) (refl, inl refl, tt) (refl, inl refl, tt) (λ k p q. rw (p, q) tt)

are_processes : AllByRecursion IsProcess lives
unfolding kept_turns
are_processes = (
  record { number = omega arith; turns = ((omega arith, are_bytes asked small_bytes), tt) },
  (record { number = omega arith; turns = ((omega arith, are_bytes prepare_bytes prepare_small), tt) }, tt),
)

-- ---- the network

-- the sixth event takes what the third sent
was_sent : (k : ℕ) (d : Datagram) → 1 ≡ k → prepare ≡ d → SpeaksTrue 2 history 6 k d
unfolding clusters clusters_from last_from
was_sent k d to is = subst (λ j. SpeaksTrue 2 history 6 j d) to (subst (SpeaksTrue 2 history 6 1) is (λ here other. record {
  place = 3;
  before = omega arith;
  cluster = last_from (unborn 2) sending;
  at = record { cluster = refl; event = refl };
  is = goes_out;
}))

asks : (k : ℕ) (d : Datagram) → Datagram.Request put_a ≡ d → SpeaksTrue 2 history 1 k d
asks k d is = subst (SpeaksTrue 2 history 1 k) is tt

nobody_forges : NobodyForges 2 history
nobody_forges i k address reading bytes c d at is = go i at.event is
  where
    go : (i : ℕ) → slice_get history i ≡ Some (Event.Takes k (Turn.In address bytes) reading) → datagram_of bytes ≡ Some d → SpeaksTrue 2 history i k d
    go zero e is = absurd cc
    go (suc zero) e is = (let same : asked ≡ bytes = cc in asks k d (same_Some _ d (sym read_back ∙ ap datagram_of same ∙ is)))
    go (suc (suc zero)) e is = absurd cc
    go (suc (suc (suc zero))) e is = absurd cc
    go (suc (suc (suc (suc zero)))) e is = absurd cc
    go (suc (suc (suc (suc (suc zero))))) e is = absurd cc
    go (suc (suc (suc (suc (suc (suc zero)))))) e is =
        let same : prepare_bytes ≡ bytes = cc in
        let to : 1 ≡ k = cc in
        was_sent k d to (same_Some _ d (sym prepare_back ∙ ap datagram_of same ∙ is))
    go (suc (suc (suc (suc (suc (suc (suc zero))))))) e is = absurd cc
    go (suc (suc (suc (suc (suc (suc (suc (suc i)))))))) e is = absurd (none-some _ e)

ran : Ran 2 lives history
ran = record { are = are_events; processes = are_processes; disk = find_what_is_left; network = nobody_forges }

-- ---- its sheets

abbrev cut_sheet : Sheet
cut_sheet = record { me = 0; opened = 1; found = []; turns = [] }

abbrev whole_sheet : Sheet
whole_sheet = record { me = 0; opened = 1; found = []; turns = asked_turn ∷ [] }

abbrev other_sheet : Sheet
other_sheet = record { me = 1; opened = 1; found = []; turns = told_turn ∷ [] }

abbrev two : Sheet → List Sheet
two s = s ∷ other_sheet ∷ []

by_sheet : (P : Sheet → Type 0) (s : Sheet) → P s → P other_sheet → (t : Sheet) → Among (two s) t → P t
by_sheet P s own other t (inl e) = subst P e own
by_sheet P s own other t (inr (inl e)) = subst P e other
by_sheet P s own other t (inr (inr e)) = absurd e

abbrev IsOfSome : Sheet → Type 0
IsOfSome s = (l : Life) × Among lives l × IsWrittenBy l s

written : (s : Sheet) → IsOfSome s → AreWrittenBy lives (two s)
unfolding kept_turns
written s own = by_sheet IsOfSome s own (second_life, inr (inl refl), record { me = refl; found = refl; turns = ([], refl) })

cut_written : AreWrittenBy lives (two cut_sheet)
unfolding kept_turns
cut_written = written cut_sheet (first_life, inl refl, record { me = refl; found = refl; turns = (asked_turn ∷ [], refl) })

whole_written : AreWrittenBy lives (two whole_sheet)
unfolding kept_turns
whole_written = written whole_sheet (first_life, inl refl, record { me = refl; found = refl; turns = ([], refl) })

-- ---- without the line

cut_list : one_list 2 (two cut_sheet) ≡ the_entry ∷ []
unfolding the_model asked prepare_bytes log_after
cut_list = refl

none_here : list_of 2 cut_sheet ≡ []
unfolding the_model log_after
none_here = refl

one_there : list_of 2 other_sheet ≡ the_entry ∷ []
unfolding the_model prepare_bytes log_after
one_there = refl

cut_lists : AreInOne 2 (two cut_sheet) (two cut_sheet)
cut_lists = (
  (the_entry ∷ [], ap (λ es. es ++ the_entry ∷ []) none_here ∙ sym cut_list),
  (([], append-nil (list_of 2 other_sheet) ∙ one_there ∙ sym cut_list), tt),
)

first_is_last : (s : Sheet) → s.me ≡ 0 → IsLastOf 2 (two s) 0 s
first_is_last s me = record { i = 0; there = refl; me = me; last = later }
  where
    later : (j : ℕ) (t : Sheet) → 0 < j → slice_get (two s) j ≡ Some t → t.me ≡ 0 → ⊥
    later zero t lt at is = absurd (omega (arith, lt))
    later (suc zero) t lt at is = (let one = ap (λ (z : Sheet). z.me) (same_Some other_sheet t at) in absurd (omega (arith, one, is)))
    later (suc (suc j)) t lt at is = absurd (none-some t at)

cut_log : last_log 2 cut_sheet ≡ (founding_boot 0 2).replica.log
unfolding the_model log_after
cut_log = refl

cut_stranger : IsStranger 2 (two cut_sheet) 0
cut_stranger = (
  (the_entry, ap (λ es. slice_get es 0) cut_list, cut_sheet, first_is_last cut_sheet refl, λ l. founding_logs 0 2 the_entry (subst (λ log. Logged log the_entry) cut_log l)),
  λ q lt is. absurd (omega (arith, lt)),
)

-- ---- with it

whole_list : one_list 2 (two whole_sheet) ≡ the_entry ∷ []
unfolding the_model asked prepare_bytes log_after
whole_list = refl

log_of_first : log_in (last_cluster 2 history) 0 ≡ last_log 2 whole_sheet
unfolding the_model asked prepare_bytes log_after empty_host unborn outgoing_of started with_turn kept while_up with_process posted host_at log_in with_host next_out sent_of after last_from last_cluster
log_of_first = refl

log_of_second : log_in (last_cluster 2 history) 1 ≡ last_log 2 other_sheet
unfolding the_model asked prepare_bytes log_after empty_host unborn outgoing_of started with_turn kept while_up with_process posted host_at log_in with_host next_out sent_of after last_from last_cluster
log_of_second = refl

complete_of : (s : Sheet) → log_in (last_cluster 2 history) s.me ≡ last_log 2 s → IsComplete 2 history s
complete_of s is e own l = subst (λ log. Logged log e) is l

complete : EndComplete 2 history (two whole_sheet)
complete k s of_it =
    by_sheet (IsComplete 2 history) whole_sheet (complete_of whole_sheet log_of_first) (complete_of other_sheet log_of_second) s
    (got_among (two whole_sheet) of_it.i s of_it.there)

pub cut_sheets_raise_alarms : CutSheetsRaiseAlarms
cut_sheets_raise_alarms = record {
  ls = lives;
  h = history;
  ran = ran;
  short = short_cluster (last_cluster 2 history) is_short;
  cut = two cut_sheet;
  cut_written = cut_written;
  cut_lists = cut_lists;
  stranger = cut_stranger;
  whole = two whole_sheet;
  whole_written = whole_written;
  complete = complete;
  entry = the_entry;
  list = whole_list;
}
