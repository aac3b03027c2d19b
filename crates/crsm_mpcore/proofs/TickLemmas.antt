-- The retransmissions at a tick, with one more replica.
use Rattle.std.proofs.Common.{Vec, Global, get_or, length, ◌≡◌, ℕ, zero, suc, ◌+◌, ◌<◌, Bool, true, false, List, [], ◌∷◌, ◌++◌, IsTrue, Some, refl, ap, sym, subst, ◌∙◌, arith}
use Rattle.std.specs.Prelude.{◌==◌, ◌&&◌, ◌||◌, not, cond, is_some, map, filter, fold, take, Option, None}
use Rattle.std.specs.BTreeMap.{get, is_at, keys}
use Rattle.std.specs.List.{AllByRecursion, range_with_len}
use Rattle.std.specs.Map.{keys_of, lookup}
use Rattle.std.specs.Option.{option_map, option_map_or}
use Rattle.std.specs.Ordering.{nat_cmp}
use Rattle.std.proofs.lemmas.Grind.{fold-append}
use Rattle.std.proofs.lemmas.Bool.Decides.{nat_tests}
use Rattle.crsm_fact_log.proofs.Lists.{all_from, all-take, has_in}
use Rattle.crsm_base.specs.Limits.{most_again}
use Rattle.crsm_spec.specs.Choice.{when◌then◌otherwise◌}
use Rattle.crsm_spec.specs.Lists.{has, numbers_below}
use Rattle.crsm_mpspec.specs.declared.message.MpMessage.{MpMessage}
use Rattle.crsm_mpspec.specs.Types.{Ballot, Value}
use Rattle.crsm_mpspec.specs.Log.{Log, accepted_at}
use Rattle.crsm_mpspec.specs.Replica.{Replica, Report, Note, others, has_reported, voters_at}
use Rattle.crsm_mpspec.specs.Draft.{Draft, send, send_to_each}
use Rattle.crsm_mpspec.specs.Step.{unreported, open_slots, unvoted, propose_again, renew}
use Rattle.crsm_mpreplica.specs.declared.note.Asking.{Asking}
use Rattle.crsm_mpreplica.specs.declared.note.Leading.{Leading}
use Rattle.crsm_mpreplica.specs.declared.note.Note.{Note as NoteInMemory}
use Rattle.crsm_mpreplica.specs.declared.note.MpReport.{MpReport as ReportInMemory}
use Rattle.crsm_mpreplica.specs.Fitting.{FitsMessage}
use Rattle.crsm_mpreplica.specs.Notes.{NoteStands, IsAsking, IsLeading, report_of, open_of, with_voters}
use Rattle.crsm_mpledger.specs.Sound.{IsSound}
use Rattle.crsm_mpcore.proofs.SoundLemmas.{accepted-fits}
use Rattle.crsm_mpcore.specs.Ticks.{send_if, send_where, question, ask_again, is_voter, proposal, IsOpen, slots_again, propose_slot, propose_all_again}

-- ---- to one replica more

range-snoc : (a n : ℕ) → range_with_len a (suc n) ≡ range_with_len a n ++ (a + n) ∷ []
range-snoc a zero = ap (λ (k : ℕ). k ∷ []) (omega arith)
range-snoc a (suc n) = ap (λ (ks : List ℕ). a ∷ ks) (range-snoc (a + 1) n ∙ ap (λ (k : ℕ). range_with_len (a + 1) n ++ k ∷ []) (omega arith))

numbers-snoc : (n : ℕ) → numbers_below (n + 1) ≡ numbers_below n ++ n ∷ []
unfolding numbers_below
numbers-snoc n = ap (λ (k : ℕ). range_with_len 0 k) (one_more n) ∙ range-snoc 0 n ∙ ap (λ (k : ℕ). range_with_len 0 n ++ k ∷ []) (from_zero n)
  where
    one_more : (n : ℕ) → n + 1 ≡ suc n
    one_more n = omega arith

    from_zero : (n : ℕ) → 0 + n ≡ n
    from_zero n = omega arith

sent-next : (q : ℕ → Option MpMessage) (k : ℕ) (x : Draft) → send_where q (k + 1) x ≡ send_if q (send_where q k x) k
unfolding send_where
sent-next q k x = ap (fold (send_if q) x) (numbers-snoc k) ∙ fold-append (send_if q) x (numbers_below k) (k ∷ [])

pub sent-none-yet : (q : ℕ → Option MpMessage) (x : Draft) → send_where q 0 x ≡ x
unfolding send_where numbers_below
sent-none-yet q x = refl

pub sent-one : (q : ℕ → Option MpMessage) (k : ℕ) (x : Draft) (m : MpMessage) → q k ≡ Some m → send_where q (k + 1) x ≡ send m (send_where q k x) k
unfolding send_if
sent-one q k x m is = sent-next q k x ∙ rw (is) refl

pub sent-nothing : (q : ℕ → Option MpMessage) (k : ℕ) (x : Draft) → q k ≡ None → send_where q (k + 1) x ≡ send_where q k x
unfolding send_if
sent-nothing q k x is = sent-next q k x ∙ rw (is) refl

-- messages leave the replica as it is
if-replica : (q : ℕ → Option MpMessage) (x : Draft) (k : ℕ) → (send_if q x k).replica ≡ x.replica
unfolding send_if send
if-replica q x k = by_case (q k)
  where
    by_case : (o : Option MpMessage) → (option_map_or (λ m. send m x k) o x).replica ≡ x.replica
    by_case None = refl
    by_case (Some m) = refl

fold-replica : (q : ℕ → Option MpMessage) (ks : List ℕ) (x : Draft) → (fold (send_if q) x ks).replica ≡ x.replica
fold-replica q [] x = refl
fold-replica q (k ∷ ks) x = fold-replica q ks (send_if q x k) ∙ if-replica q x k

pub where-replica : (q : ℕ → Option MpMessage) (n : ℕ) (x : Draft) → (send_where q n x).replica ≡ x.replica
unfolding send_where
where-replica q n x = fold-replica q (numbers_below n) x

-- ---- to those of the others that pass a test

filter-twice : (p q : ℕ → Bool) (ks : List ℕ) → filter p (filter q ks) ≡ filter (λ k. q k && p k) ks
filter-twice p q [] = refl
filter-twice p q (k ∷ ks) = by_test (q k) (p k) refl (filter-twice p q ks)
  where
    by_test : (s t : Bool) → p k ≡ t → filter p (filter q ks) ≡ filter (λ k. q k && p k) ks → filter p (cond s (k ∷ filter q ks) (filter q ks)) ≡ cond (s && t) (k ∷ filter (λ k. q k && p k) ks) (filter (λ k. q k && p k) ks)
    by_test true true is more = rw (is) (ap (λ (js : List ℕ). k ∷ js) more)
    by_test true false is more = rw (is) more
    by_test false t is more = more

sends-filtered : (q : ℕ → Option MpMessage) (p : ℕ → Bool) (m : MpMessage) → ((k : ℕ) → q k ≡ (when p k then Some m otherwise None)) → (ks : List ℕ) (x : Draft) → fold (send_if q) x ks ≡ send_to_each (filter p ks) m x
unfolding send_to_each send_if when◌then◌otherwise◌
sends-filtered q p m is [] x = refl
sends-filtered q p m is (k ∷ ks) x = by_test (sends-filtered q p m is ks) (p k) refl
  where
    by_test : ((y : Draft) → fold (send_if q) y ks ≡ fold (send m) y (filter p ks)) → (t : Bool) → p k ≡ t → fold (send_if q) (send_if q x k) ks ≡ fold (send m) x (cond t (k ∷ filter p ks) (filter p ks))
    by_test more true e = rw (is k, e) (more (send m x k))
    by_test more false e = rw (is k, e) (more x)

sends-nothing : (q : ℕ → Option MpMessage) → ((k : ℕ) → q k ≡ None) → (ks : List ℕ) (x : Draft) → fold (send_if q) x ks ≡ x
unfolding send_if
sends-nothing q is [] x = refl
sends-nothing q is (k ∷ ks) x = rw (is k) (sends-nothing q is ks x)

-- ---- promises

asks : (b : Ballot) (start : ℕ) (reports : List Report) (x : Draft) → send_where (question x.replica.me (Note.Asking b start reports)) x.replica.n x ≡ renew (Note.Asking b start reports) x
unfolding send_where renew unreported others question
asks b start reports x =
    sends-filtered (question x.replica.me (Note.Asking b start reports)) (λ k. not (k == x.replica.me) && not (has_reported reports k)) (MpMessage.Prep b start) (λ k. refl) (numbers_below x.replica.n) x
    ∙ ap (λ (ks : List ℕ). send_to_each ks (MpMessage.Prep b start) x) (sym (filter-twice (λ k. not (has_reported reports k)) (λ k. not (k == x.replica.me)) (numbers_below x.replica.n)))

pub question-fits : (note : NoteInMemory) (me k : ℕ) (log : Log) (p : Note) (m : MpMessage) → NoteStands note me log p → question me p k ≡ Some m → FitsMessage m
unfolding question when◌then◌otherwise◌
question-fits note me k log Note.Idle m s is = absurd cc
question-fits note me k log (Note.Leading b start next reports votes) m s is = absurd cc
question-fits NoteInMemory.Idle me k log (Note.Asking b start reports) m s is = absurd s
question-fits (NoteInMemory.Leading l) me k log (Note.Asking b start reports) m s is = absurd s
question-fits (NoteInMemory.Asking a) me k log (Note.Asking b start reports) m s is = by_test (not (k == me) && not (has_reported reports k)) is
  where
    inside : (n : MpMessage) → ◌≡◌ {A = Option MpMessage} (Some n) (Some m) → n ≡ m
    inside n e = cc

    by_test : (t : Bool) → (when t then Some (MpMessage.Prep b start) otherwise None) ≡ Some m → FitsMessage m
    by_test true e = subst FitsMessage (inside (MpMessage.Prep b start) e) s.ballot_fits
    by_test false e = absurd cc

-- ---- voters

lookup-map : {X Y : Type 0} (t : ℕ → Bool) (f : X → Y) (es : List (ℕ × X)) → lookup t (map (λ e. (e.0, f e.1)) es) ≡ option_map f (lookup t es)
lookup-map t f [] = refl
lookup-map {Y = Y} t f (e ∷ es) = by_test (t e.0) (lookup-map t f es)
  where
    by_test : (u : Bool) → lookup t (map (λ e. (e.0, f e.1)) es) ≡ option_map f (lookup t es) → cond u (Some (f e.1)) (lookup t (map (λ e. (e.0, f e.1)) es)) ≡ option_map f (cond u (Some e.1) (lookup t es))
    by_test true more = refl
    by_test false more = more

lookup-voters : (votes : List (ℕ × ℕ)) (slot : ℕ) (ss : List ℕ) → IsTrue (has ss slot) → lookup (is_at (nat_cmp slot)) (map (with_voters votes) ss) ≡ Some (voters_at slot votes)
unfolding has with_voters
lookup-voters votes slot [] member = absurd cc
lookup-voters votes slot (s ∷ ss) member = by_test (lookup-voters votes slot ss) (s == slot) refl member
  where
    test : (q k : ℕ) → is_at (nat_cmp q) k ≡ (k == q)
    test q k = grind (arith, nat_tests)

    same : (j k : ℕ) → (j == k) ≡ true → j ≡ k
    same j k e = grind (arith, nat_tests, e)

    by_test : (IsTrue (has ss slot) → lookup (is_at (nat_cmp slot)) (map (with_voters votes) ss) ≡ Some (voters_at slot votes)) → (t : Bool) → (s == slot) ≡ t → IsTrue (t || has ss slot) → lookup (is_at (nat_cmp slot)) (map (with_voters votes) (s ∷ ss)) ≡ Some (voters_at slot votes)
    by_test more true e member = rw (test slot s, e) (ap (λ (j : ℕ). Some (voters_at j votes)) (same s slot e))
    by_test more false e member = rw (test slot s, e) (more member)

pub voters-stand : (l : Leading) (me : ℕ) (log : Log) (b : Ballot) (next : ℕ) (votes : List (ℕ × ℕ)) (slot k : ℕ) → IsLeading l me log b next votes → IsTrue (has (open_of me log votes) slot) → is_voter l slot k ≡ has (voters_at slot votes) k
unfolding is_voter
voters-stand l me log b next votes slot k s member = by_entry (get nat_cmp l.open slot) found
  where
    found : option_map (λ (w : Vec ℕ Global). w.items) (get nat_cmp l.open slot) ≡ Some (voters_at slot votes)
    found =
        sym (lookup-map (is_at (nat_cmp slot)) (λ (w : Vec ℕ Global). w.items) l.open.entries) ∙ ap (lookup (is_at (nat_cmp slot))) s.open_are
        ∙ lookup-voters votes slot (open_of me log votes) member

    inside : (ks : List ℕ) → ◌≡◌ {A = Option (List ℕ)} (Some ks) (Some (voters_at slot votes)) → ks ≡ voters_at slot votes
    inside ks e = cc

    by_entry : (o : Option (Vec ℕ Global)) → option_map (λ (w : Vec ℕ Global). w.items) o ≡ Some (voters_at slot votes) → option_map_or (λ (w : Vec ℕ Global). has w.items k) o false ≡ has (voters_at slot votes) k
    by_entry None e = absurd cc
    by_entry (Some w) e = ap (λ (ks : List ℕ). has ks k) (inside w.items e)

-- ---- open slots

keys-map : {X Y : Type 0} (f : X → Y) (es : List (ℕ × X)) → keys_of (map (λ e. (e.0, f e.1)) es) ≡ keys_of es
keys-map f [] = refl
keys-map f (e ∷ es) = ap (λ (ks : List ℕ). e.0 ∷ ks) (keys-map f es)

keys-voters : (votes : List (ℕ × ℕ)) (ss : List ℕ) → keys_of (map (with_voters votes) ss) ≡ ss
unfolding with_voters
keys-voters votes [] = refl
keys-voters votes (s ∷ ss) = ap (λ (ks : List ℕ). s ∷ ks) (keys-voters votes ss)

pub open-keys : (l : Leading) (me : ℕ) (log : Log) (b : Ballot) (next : ℕ) (votes : List (ℕ × ℕ)) → IsLeading l me log b next votes → keys l.open ≡ open_of me log votes
open-keys l me log b next votes s =
    sym (keys-map (λ (w : Vec ℕ Global). w.items) l.open.entries) ∙ ap keys_of s.open_are ∙ keys-voters votes (open_of me log votes)

pub slots-open : (r : Replica) (note : Note) → AllByRecursion (λ s. IsOpen s r note) (slots_again r note)
unfolding slots_again open_slots open_of
slots-open r Note.Idle = tt
slots-open r (Note.Asking b start reports) = tt
slots-open r (Note.Leading b start next reports votes) =
    let ks = open_of r.me r.log votes in all-take (λ s. IsTrue (has ks s)) ks most_again (all_from (λ s. IsTrue (has ks s)) ks (λ s among. has_in ks s among))

-- ---- proposals

proposes-at : (b : Ballot) (start next : ℕ) (reports : List Report) (votes : List (ℕ × ℕ)) (slot : ℕ) (x : Draft) (o : Option (Ballot × Value)) → accepted_at slot x.replica.log ≡ o
    → fold (send_if (proposal slot x.replica (Note.Leading b start next reports votes))) x (numbers_below x.replica.n)
    ≡ option_map_or (λ a. send_to_each (unvoted slot votes x.replica) (MpMessage.Acc b slot a.1) x) o x
unfolding proposal when◌then◌otherwise◌ unvoted others
proposes-at b start next reports votes slot x None is =
    sends-nothing (proposal slot x.replica (Note.Leading b start next reports votes)) none (numbers_below x.replica.n) x
  where
    none : (k : ℕ) → proposal slot x.replica (Note.Leading b start next reports votes) k ≡ None
    none k = rw (is) (stays (not (k == x.replica.me) && not (has (voters_at slot votes) k)))
      where
        stays : (t : Bool) → ◌≡◌ {A = Option MpMessage} (when t then None otherwise None) None
        stays true = refl
        stays false = refl
proposes-at b start next reports votes slot x (Some a) is =
    sends-filtered (proposal slot x.replica (Note.Leading b start next reports votes)) (λ k. not (k == x.replica.me) && not (has (voters_at slot votes) k)) (MpMessage.Acc b slot a.1) one (numbers_below x.replica.n) x
    ∙ ap (λ (ks : List ℕ). send_to_each ks (MpMessage.Acc b slot a.1) x) receivers
  where
    one : (k : ℕ) → proposal slot x.replica (Note.Leading b start next reports votes) k ≡ (when not (k == x.replica.me) && not (has (voters_at slot votes) k) then Some (MpMessage.Acc b slot a.1) otherwise None)
    one k = rw (is) refl

    receivers : filter (λ k. not (k == x.replica.me) && not (has (voters_at slot votes) k)) (numbers_below x.replica.n) ≡ unvoted slot votes x.replica
    receivers = sym (filter-twice (λ k. not (has (voters_at slot votes) k)) (λ k. not (k == x.replica.me)) (numbers_below x.replica.n))

proposes : (b : Ballot) (start next : ℕ) (reports : List Report) (votes : List (ℕ × ℕ)) (slot : ℕ) (x : Draft) → x.replica.note ≡ Note.Leading b start next reports votes → propose_slot slot x ≡ propose_again b votes x slot
unfolding propose_slot send_where propose_again
proposes b start next reports votes slot x is =
    ap (λ (p : Note). fold (send_if (proposal slot x.replica p)) x (numbers_below x.replica.n)) is
    ∙ proposes-at b start next reports votes slot x (accepted_at slot x.replica.log) refl

pub slot-replica : (slot : ℕ) (x : Draft) → (propose_slot slot x).replica ≡ x.replica
unfolding propose_slot
slot-replica slot x = where-replica (proposal slot x.replica x.replica.note) x.replica.n x

pub slots-replica : (slots : List ℕ) (x : Draft) → (fold (λ y slot. propose_slot slot y) x slots).replica ≡ x.replica
slots-replica [] x = refl
slots-replica (s ∷ ss) x = slots-replica ss (propose_slot s x) ∙ slot-replica s x

proposes-each : (b : Ballot) (start next : ℕ) (reports : List Report) (votes : List (ℕ × ℕ)) (slots : List ℕ) (x : Draft) → x.replica.note ≡ Note.Leading b start next reports votes
    → fold (λ y slot. propose_slot slot y) x slots ≡ fold (propose_again b votes) x slots
proposes-each b start next reports votes [] x is = refl
proposes-each b start next reports votes (s ∷ ss) x is =
    let same = proposes b start next reports votes s x is in
    proposes-each b start next reports votes ss (propose_slot s x) (ap (λ (r : Replica). r.note) (slot-replica s x) ∙ is)
    ∙ ap (λ (y : Draft). fold (propose_again b votes) y ss) same

-- ---- all of it

pub ask-replica : (x : Draft) → (ask_again x).replica ≡ x.replica
unfolding ask_again
ask-replica x = where-replica (question x.replica.me x.replica.note) x.replica.n x

pub again-replica : (x : Draft) → (propose_all_again x).replica ≡ x.replica
unfolding propose_all_again
again-replica x = slots-replica (slots_again x.replica x.replica.note) x

asked : (x : Draft) (note : Note) → x.replica.note ≡ note → ask_again x ≡ send_where (question x.replica.me note) x.replica.n x
unfolding ask_again
asked x note is = ap (λ (p : Note). send_where (question x.replica.me p) x.replica.n x) is

proposed : (x : Draft) (note : Note) → x.replica.note ≡ note → propose_all_again x ≡ fold (λ y slot. propose_slot slot y) x (slots_again x.replica note)
unfolding propose_all_again
proposed x note is = ap (λ (p : Note). fold (λ y slot. propose_slot slot y) x (slots_again x.replica p)) is

asks-nothing : (x : Draft) (note : Note) → x.replica.note ≡ note → ((k : ℕ) → question x.replica.me note k ≡ None) → ask_again x ≡ x
unfolding send_where
asks-nothing x note is none = asked x note is ∙ nothing
  where
    nothing : send_where (question x.replica.me note) x.replica.n x ≡ x
    nothing = sends-nothing (question x.replica.me note) none (numbers_below x.replica.n) x

proposes-nothing : (x : Draft) (note : Note) → x.replica.note ≡ note → ((r : Replica) → slots_again r note ≡ []) → propose_all_again x ≡ x
proposes-nothing x note is none = proposed x note is ∙ rw (none x.replica) refl

pub renews : (x : Draft) → propose_all_again (ask_again x) ≡ renew x.replica.note x
unfolding renew slots_again question
renews x = by_note x.replica.note refl
  where
    by_note : (note : Note) → x.replica.note ≡ note → propose_all_again (ask_again x) ≡ renew note x
    by_note Note.Idle is = ap propose_all_again (asks-nothing x Note.Idle is (λ k. refl)) ∙ proposes-nothing x Note.Idle is (λ r. refl)
    by_note (Note.Asking b start reports) is =
        proposes-nothing (ask_again x) (Note.Asking b start reports) (ap (λ (r : Replica). r.note) (ask-replica x) ∙ is) (λ r. refl)
        ∙ asked x (Note.Asking b start reports) is ∙ asks b start reports x
    by_note (Note.Leading b start next reports votes) is =
        let note = Note.Leading b start next reports votes in
        ap propose_all_again (asks-nothing x note is (λ k. refl)) ∙ proposed x note is ∙ proposes-each b start next reports votes (open_slots votes x.replica) x is

-- ---- the open slots

pub leading-slots : (l : Leading) (r : Replica) (p : Note) → NoteStands (NoteInMemory.Leading l) r.me r.log p → take most_again (keys l.open) ≡ slots_again r p
unfolding slots_again open_slots open_of
leading-slots l r Note.Idle s = absurd s
leading-slots l r (Note.Asking b start reports) s = absurd s
leading-slots l r (Note.Leading b start next reports votes) s = ap (λ (ks : List ℕ). take most_again ks) (open-keys l r.me r.log b next votes s)

pub idle-slots : (note : NoteInMemory) (r : Replica) (p : Note) → NoteStands note r.me r.log p → ((l : Leading) → note ≡ NoteInMemory.Leading l → ⊥) → slots_again r p ≡ []
unfolding slots_again
idle-slots note r Note.Idle s not = refl
idle-slots note r (Note.Asking b start reports) s not = refl
idle-slots NoteInMemory.Idle r (Note.Leading b start next reports votes) s not = absurd s
idle-slots (NoteInMemory.Asking a) r (Note.Leading b start next reports votes) s not = absurd s
idle-slots (NoteInMemory.Leading l) r (Note.Leading b start next reports votes) s not = absurd (not l refl)

-- ---- questions

has-reports : (es : List (ℕ × ReportInMemory)) (k : ℕ) → is_some (lookup (is_at (nat_cmp k)) es) ≡ has_reported (map report_of es) k
unfolding has_reported has report_of
has-reports [] k = refl
has-reports (e ∷ es) k = rw (test k e.0) (by_test (e.0 == k) (has-reports es k))
  where
    test : (q j : ℕ) → is_at (nat_cmp q) j ≡ (j == q)
    test q j = grind (arith, nat_tests)

    by_test : (t : Bool) → is_some (lookup (is_at (nat_cmp k)) es) ≡ has_reported (map report_of es) k → is_some (cond t (Some e.1) (lookup (is_at (nat_cmp k)) es)) ≡ (t || has_reported (map report_of es) k)
    by_test true more = refl
    by_test false more = more

pub no-question-to-itself : (me : ℕ) (p : Note) (k : ℕ) → k ≡ me → None ≡ question me p k
unfolding question when◌then◌otherwise◌
no-question-to-itself me Note.Idle k is = refl
no-question-to-itself me (Note.Leading b start next reports votes) k is = refl
no-question-to-itself me (Note.Asking b start reports) k is = rw (same k me is) refl
  where
    same : (j k : ℕ) → j ≡ k → (j == k) ≡ true
    same j k e = grind (arith, nat_tests, e)

pub no-question : (note : NoteInMemory) (me : ℕ) (log : Log) (p : Note) (k : ℕ) → NoteStands note me log p → ((a : Asking) → note ≡ NoteInMemory.Asking a → ⊥) → None ≡ question me p k
unfolding question
no-question note me log Note.Idle k s not = refl
no-question note me log (Note.Leading b start next reports votes) k s not = refl
no-question NoteInMemory.Idle me log (Note.Asking b start reports) k s not = absurd s
no-question (NoteInMemory.Asking a) me log (Note.Asking b start reports) k s not = absurd (not a refl)
no-question (NoteInMemory.Leading l) me log (Note.Asking b start reports) k s not = absurd s

reported-as : (a : Asking) (b : Ballot) (start : ℕ) (reports : List Report) (k : ℕ) (t : Bool) → IsAsking a b start reports → is_some (lookup (is_at (nat_cmp k)) a.reports.entries) ≡ t → has_reported reports k ≡ t
reported-as a b start reports k t s is = subst (λ (rs : List Report). has_reported rs k ≡ t) s.reports_are (sym (has-reports a.reports.entries k) ∙ is)

pub answered : (a : Asking) (me : ℕ) (log : Log) (p : Note) (k : ℕ) → NoteStands (NoteInMemory.Asking a) me log p → is_some (lookup (is_at (nat_cmp k)) a.reports.entries) ≡ true → None ≡ question me p k
unfolding question when◌then◌otherwise◌
answered a me log Note.Idle k s is = absurd s
answered a me log (Note.Leading b start next reports votes) k s is = absurd s
answered a me log (Note.Asking b start reports) k s is = rw (reported-as a b start reports k true s is) (either (not (k == me)))
  where
    either : (t : Bool) → ◌≡◌ {A = Option MpMessage} None (when t && false then Some (MpMessage.Prep b start) otherwise None)
    either true = refl
    either false = refl

pub unanswered : (a : Asking) (me : ℕ) (log : Log) (p : Note) (k : ℕ) → NoteStands (NoteInMemory.Asking a) me log p → (k ≡ me → ⊥) → is_some (lookup (is_at (nat_cmp k)) a.reports.entries) ≡ false
    → Some (MpMessage.Prep a.ballot a.start) ≡ question me p k
unfolding question when◌then◌otherwise◌
unanswered a me log Note.Idle k s other is = absurd s
unanswered a me log (Note.Leading b start next reports votes) k s other is = absurd s
unanswered a me log (Note.Asking b start reports) k s other is = rw (differs k me other, reported-as a b start reports k false s is, s.ballot, s.start_is) refl
  where
    differs : (j k : ℕ) → (j ≡ k → ⊥) → (j == k) ≡ false
    differs j k e = grind (arith, nat_tests, e)

-- ---- proposals, replica by replica

pub no-proposal-to-itself : (slot : ℕ) (r : Replica) (p : Note) (k : ℕ) → k ≡ r.me → None ≡ proposal slot r p k
unfolding proposal when◌then◌otherwise◌
no-proposal-to-itself slot r Note.Idle k is = refl
no-proposal-to-itself slot r (Note.Asking b start reports) k is = refl
no-proposal-to-itself slot r (Note.Leading b start next reports votes) k is = rw (same k r.me is) refl
  where
    same : (j k : ℕ) → j ≡ k → (j == k) ≡ true
    same j k e = grind (arith, nat_tests, e)

pub no-proposal : (note : NoteInMemory) (slot : ℕ) (r : Replica) (p : Note) (k : ℕ) → NoteStands note r.me r.log p → ((l : Leading) → note ≡ NoteInMemory.Leading l → ⊥) → None ≡ proposal slot r p k
unfolding proposal
no-proposal note slot r Note.Idle k s not = refl
no-proposal note slot r (Note.Asking b start reports) k s not = refl
no-proposal NoteInMemory.Idle slot r (Note.Leading b start next reports votes) k s not = absurd s
no-proposal (NoteInMemory.Asking a) slot r (Note.Leading b start next reports votes) k s not = absurd s
no-proposal (NoteInMemory.Leading l) slot r (Note.Leading b start next reports votes) k s not = absurd (not l refl)

pub voted : (l : Leading) (slot : ℕ) (r : Replica) (p : Note) (k : ℕ) → NoteStands (NoteInMemory.Leading l) r.me r.log p → IsOpen slot r p → is_voter l slot k ≡ true → None ≡ proposal slot r p k
unfolding proposal when◌then◌otherwise◌
voted l slot r Note.Idle k s is_open is = absurd s
voted l slot r (Note.Asking b start reports) k s is_open is = absurd s
voted l slot r (Note.Leading b start next reports votes) k s is_open is =
    rw (sym (voters-stand l r.me r.log b next votes slot k s is_open) ∙ is) (either (not (k == r.me)))
  where
    either : (t : Bool) → ◌≡◌ {A = Option MpMessage} None (when t && false then option_map (λ a. MpMessage.Acc b slot a.1) (accepted_at slot r.log) otherwise None)
    either true = refl
    either false = refl

pub not-accepted : (l : Leading) (slot : ℕ) (r : Replica) (p : Note) (k : ℕ) → NoteStands (NoteInMemory.Leading l) r.me r.log p → accepted_at slot r.log ≡ None → None ≡ proposal slot r p k
unfolding proposal when◌then◌otherwise◌
not-accepted l slot r Note.Idle k s is = absurd s
not-accepted l slot r (Note.Asking b start reports) k s is = absurd s
not-accepted l slot r (Note.Leading b start next reports votes) k s is = rw (is) (either (not (k == r.me) && not (has (voters_at slot votes) k)))
  where
    either : (t : Bool) → ◌≡◌ {A = Option MpMessage} None (when t then None otherwise None)
    either true = refl
    either false = refl

pub proposed-to : (l : Leading) (slot : ℕ) (r : Replica) (p : Note) (k : ℕ) (a : Ballot × Value) → NoteStands (NoteInMemory.Leading l) r.me r.log p → IsOpen slot r p → (k ≡ r.me → ⊥) → is_voter l slot k ≡ false
    → accepted_at slot r.log ≡ Some a → Some (MpMessage.Acc l.ballot slot a.1) ≡ proposal slot r p k
unfolding proposal when◌then◌otherwise◌
proposed-to l slot r Note.Idle k a s is_open other is at = absurd s
proposed-to l slot r (Note.Asking b start reports) k a s is_open other is at = absurd s
proposed-to l slot r (Note.Leading b start next reports votes) k a s is_open other is at =
    rw (differs k r.me other, sym (voters-stand l r.me r.log b next votes slot k s is_open) ∙ is, at, s.ballot) refl
  where
    differs : (j k : ℕ) → (j ≡ k → ⊥) → (j == k) ≡ false
    differs j k e = grind (arith, nat_tests, e)

-- what is proposed again fits
pub proposal-fits : (note : NoteInMemory) (slot : ℕ) (r : Replica) (p : Note) (k : ℕ) (m : MpMessage) → NoteStands note r.me r.log p → IsSound r.log → proposal slot r p k ≡ Some m → FitsMessage m
unfolding proposal when◌then◌otherwise◌
proposal-fits note slot r Note.Idle k m s sound is = absurd cc
proposal-fits note slot r (Note.Asking b start reports) k m s sound is = absurd cc
proposal-fits NoteInMemory.Idle slot r (Note.Leading b start next reports votes) k m s sound is = absurd s
proposal-fits (NoteInMemory.Asking a) slot r (Note.Leading b start next reports votes) k m s sound is = absurd s
proposal-fits (NoteInMemory.Leading l) slot r (Note.Leading b start next reports votes) k m s sound is =
    by_test (not (k == r.me) && not (has (voters_at slot votes) k)) (accepted_at slot r.log) refl is
  where
    inside : (n : MpMessage) → ◌≡◌ {A = Option MpMessage} (Some n) (Some m) → n ≡ m
    inside n e = cc

    by_test : (t : Bool) (o : Option (Ballot × Value)) → accepted_at slot r.log ≡ o → (when t then option_map (λ a. MpMessage.Acc b slot a.1) o otherwise None) ≡ Some m → FitsMessage m
    by_test false o at e = absurd cc
    by_test true None at e = absurd cc
    by_test true (Some a) at e =
        let f = accepted-fits slot r.log a sound at in subst FitsMessage (inside (MpMessage.Acc b slot a.1) e) (s.ballot_fits, f.0, f.2)

pub take-got : {A : Type 0} (xs : List A) (i : ℕ) (d : A) → i < length xs → take (i + 1) xs ≡ take i xs ++ get_or xs i d ∷ []
take-got [] i d l = absurd (omega (arith, l))
take-got {A = A} (x ∷ xs) zero d l = refl
take-got {A = A} (x ∷ xs) (suc i) d l =
    ap (λ (n : ℕ). take n (x ∷ xs)) (one_more (suc i)) ∙ ap (λ (ys : List A). x ∷ ys) (ap (λ (n : ℕ). take n xs) (sym (one_more i)) ∙ take-got xs i d (omega (arith, l)))
  where
    one_more : (n : ℕ) → n + 1 ≡ suc n
    one_more n = omega arith
