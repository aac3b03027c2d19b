-- A lead: its facts about a slot, and one more vote.
use Rattle.std.proofs.Common.{BTreeMap, Vec, Global, ◌≡◌, ℕ, suc, ◌<◌, Bool, inl, true, false, List, [], ◌∷◌, ◌++◌, Some, None, refl, ap, sym, subst, ◌∙◌, arith}
use Rattle.std.specs.Prelude.{◌==◌, ◌&&◌, IsTrue, nat_le, not, length, map, filter, if◌then◌else◌, cond}
use Rattle.std.specs.List.{All, AllByRecursion}
use Rattle.std.specs.List.Sorted.{IsStrictlySortedBy}
use Rattle.std.specs.Map.{keys_of, lookup, set_value}
use Rattle.std.specs.BTreeMap.{is_at}
use Rattle.std.specs.Option.{option_map}
use Rattle.std.specs.Ordering.{nat_cmp}
use Rattle.std.proofs.lemmas.Bool.Decides.{nat_tests}
use Rattle.std.proofs.lemmas.Bool.{eqb-true, and_parts, and_right, true≢false}
use Rattle.std.proofs.lemmas.List.{map-append}
use Rattle.crsm_base.specs.Order.{ballot_eq}
use Rattle.crsm_spec.specs.Lists.{has}
use Rattle.crsm_spec.specs.Paxos.{majority}
use Rattle.crsm_fact_log.proofs.Lists.{all-push, all_more, among_left, among_right, append-none, filter-push, has_from, has_in}
use Rattle.crsm_mpspec.specs.Deciding.{counts}
use Rattle.crsm_mpspec.specs.Log.{Log, is_chosen}
use Rattle.crsm_mpspec.specs.Replica.{Replica, Note as NoteOnPaper, slots_of, voters_at, votes_of, with_vote}
use Rattle.crsm_mpspec.specs.Types.{Ballot}
use Rattle.crsm_mpreplica.specs.declared.note.Leading.{Leading}
use Rattle.crsm_mpreplica.specs.declared.note.Note.{Note}
use Rattle.crsm_mpreplica.specs.Notes.{IsLeading, NoteStands, awaits_vote, open_of, with_voters}
use Rattle.crsm_mpreplica.proofs.KeyLemmas.{at-key, change_at, eqb-sym, get-mapped, one_some, same_eqb, written}

-- ---- who voted, and where

-- who votes at a slot and where a replica votes are two ways to read the same votes
has-voted : (slot k : ℕ) (votes : List (ℕ × ℕ)) → has (slots_of k votes) slot ≡ has (voters_at slot votes) k
unfolding has slots_of voters_at
has-voted slot k [] = refl
has-voted slot k (v ∷ votes) = by_tests (v.0 == slot) (v.1 == k) refl refl (has-voted slot k votes)
  where
    by_tests : (a b : Bool) → (v.0 == slot) ≡ a → (v.1 == k) ≡ b → has (slots_of k votes) slot ≡ has (voters_at slot votes) k → has (slots_of k (v ∷ votes)) slot ≡ has (voters_at slot (v ∷ votes)) k
    by_tests true true p q same = rw (q, p, q) refl
    by_tests true false p q same = rw (q, p, q) same
    by_tests false true p q same = rw (q, p) same
    by_tests false false p q same = rw (q, p) same

has-kept : (test : ℕ → Bool) (ss : List ℕ) (slot : ℕ) → has (filter test ss) slot ≡ (has ss slot && test slot)
unfolding has
has-kept test [] slot = refl
has-kept test (s ∷ ss) slot = by_tests (s == slot) (test s) refl refl (has-kept test ss slot)
  where
    by_tests : (a b : Bool) → (s == slot) ≡ a → test s ≡ b → has (filter test ss) slot ≡ (has ss slot && test slot) → has (filter test (s ∷ ss)) slot ≡ (has (s ∷ ss) slot && test slot)
    by_tests true true p q same = rw (q, p) (sym (subst (λ j. test j ≡ true) (eqb-true s slot p) q))
    by_tests true false p q same =
        let off = subst (λ j. test j ≡ false) (eqb-true s slot p) q in
        rw (q, p) (same ∙ and_right (has ss slot) (test slot) off ∙ sym off)
    by_tests false true p q same = rw (q, p) same
    by_tests false false p q same = rw (q, p) same

get-voters : (slot : ℕ) (votes : List (ℕ × ℕ)) (ss : List ℕ) → lookup (is_at (nat_cmp slot)) (map (with_voters votes) ss) ≡ (if has ss slot then Some (voters_at slot votes) else None)
unfolding with_voters has
get-voters slot votes [] = refl
get-voters slot votes (s ∷ ss) = by_test (s == slot) refl (get-voters slot votes ss)
  where
    by_test : (a : Bool) → (s == slot) ≡ a → lookup (is_at (nat_cmp slot)) (map (with_voters votes) ss) ≡ (if has ss slot then Some (voters_at slot votes) else None)
        → lookup (is_at (nat_cmp slot)) (map (with_voters votes) (s ∷ ss)) ≡ (if has (s ∷ ss) slot then Some (voters_at slot votes) else None)
    by_test true p same = rw (at-key slot s, p) (ap (λ (j : ℕ). Some (voters_at j votes)) (eqb-true s slot p))
    by_test false p same = rw (at-key slot s, p) same

-- the slot is open, as the votes say
abbrev pub is_open : ℕ → ℕ → Log → List (ℕ × ℕ) → Bool
is_open slot me log votes = has (voters_at slot votes) me && not (is_chosen slot log)

has-open : (slot me : ℕ) (log : Log) (votes : List (ℕ × ℕ)) → has (open_of me log votes) slot ≡ is_open slot me log votes
unfolding open_of
has-open slot me log votes = has-kept (λ s. not (is_chosen s log)) (slots_of me votes) slot ∙ ap (λ (t : Bool). t && not (is_chosen slot log)) (has-voted slot me votes)

-- what is found in a lead at a slot: its voters, where it is open
pub get-lead : (l : Leading) (slot me : ℕ) (log : Log) (b : Ballot) (next : ℕ) (votes : List (ℕ × ℕ)) → IsLeading l me log b next votes
    → option_map (λ (w : Vec ℕ Global). w.items) (lookup (is_at (nat_cmp slot)) l.open.entries) ≡ (if is_open slot me log votes then Some (voters_at slot votes) else None)
get-lead l slot me log b next votes s =
    sym (get-mapped (is_at (nat_cmp slot)) (λ (w : Vec ℕ Global). w.items) l.open.entries)
    ∙ ap (lookup (is_at (nat_cmp slot))) s.open_are
    ∙ get-voters slot votes (open_of me log votes)
    ∙ ap (λ (t : Bool). if t then Some (voters_at slot votes) else None) (has-open slot me log votes)

-- ---- the results of a search

yes_if : {X : Type 0} (t : Bool) (w v : X) → Some w ≡ (if t then Some v else None) → (t ≡ true) × (w ≡ v)
yes_if true w v e = (refl, one_some w v e)
yes_if false w v e = absurd cc

no_if : {X : Type 0} (t : Bool) (v : X) → None ≡ (if t then Some v else None) → t ≡ false
no_if true v e = absurd (no_some v e)
  where
    no_some : {X : Type 0} (v : X) → None ≡ Some v → ⊥
    no_some v e = cc
no_if false v e = refl

pub found-open : (l : Leading) (w : Vec ℕ Global) (slot me : ℕ) (log : Log) (b : Ballot) (next : ℕ) (votes : List (ℕ × ℕ)) → IsLeading l me log b next votes
    → lookup (is_at (nat_cmp slot)) l.open.entries ≡ Some w → (is_open slot me log votes ≡ true) × (w.items ≡ voters_at slot votes)
found-open l w slot me log b next votes s found =
    yes_if (is_open slot me log votes) w.items (voters_at slot votes)
    (sym (ap (option_map (λ (w : Vec ℕ Global). w.items)) found) ∙ get-lead l slot me log b next votes s)

pub found-none : (l : Leading) (slot me : ℕ) (log : Log) (b : Ballot) (next : ℕ) (votes : List (ℕ × ℕ)) → IsLeading l me log b next votes
    → lookup (is_at (nat_cmp slot)) l.open.entries ≡ None → is_open slot me log votes ≡ false
found-none l slot me log b next votes s none =
    no_if (is_open slot me log votes) (voters_at slot votes)
    (sym (ap (option_map (λ (w : Vec ℕ Global). w.items)) none) ∙ get-lead l slot me log b next votes s)

-- ---- one vote more

pushed-if : (t : Bool) (f : ℕ × ℕ → ℕ) (v : ℕ × ℕ) → map f (if t then v ∷ [] else []) ≡ (if t then f v ∷ [] else [])
pushed-if true f v = refl
pushed-if false f v = refl

kept-more : (test : ℕ × ℕ → Bool) (f : ℕ × ℕ → ℕ) (votes : List (ℕ × ℕ)) (v : ℕ × ℕ) → map f (filter test (votes ++ v ∷ [])) ≡ map f (filter test votes) ++ (if test v then f v ∷ [] else [])
kept-more test f votes v =
    ap (map f) (filter-push test votes v)
    ∙ map-append f (filter test votes) (if test v then v ∷ [] else [])
    ∙ ap (λ (ks : List ℕ). map f (filter test votes) ++ ks) (pushed-if (test v) f v)

pub voters-more : (s slot k : ℕ) (votes : List (ℕ × ℕ)) → voters_at s (votes ++ (slot, k) ∷ []) ≡ voters_at s votes ++ (if slot == s then k ∷ [] else [])
unfolding voters_at
voters-more s slot k votes = kept-more (λ v. v.0 == s) (λ v. v.1) votes (slot, k)

pub slots-more : (j slot k : ℕ) (votes : List (ℕ × ℕ)) → slots_of j (votes ++ (slot, k) ∷ []) ≡ slots_of j votes ++ (if k == j then slot ∷ [] else [])
unfolding slots_of
slots-more j slot k votes = kept-more (λ v. v.1 == j) (λ v. v.0) votes (slot, k)

-- with the vote of another replica the voters of its slot are one more
voted-all : (slot k : ℕ) (votes : List (ℕ × ℕ)) (ss : List ℕ) → change_at (λ (ks : List ℕ). ks ++ k ∷ []) slot (map (with_voters votes) ss) ≡ map (with_voters (votes ++ (slot, k) ∷ [])) ss
unfolding change_at with_voters
voted-all slot k votes [] = refl
voted-all slot k votes (s ∷ ss) = ap (λ (ks : List ℕ). (s, ks) ∷ change_at (λ (ks : List ℕ). ks ++ k ∷ []) slot (map (with_voters votes) ss)) (by_test (slot == s) ∙ sym (voters-more s slot k votes))
    ∙ ap (λ (es : List (ℕ × List ℕ)). (s, voters_at s (votes ++ (slot, k) ∷ [])) ∷ es) (voted-all slot k votes ss)
  where
    by_test : (t : Bool) → (if t then voters_at s votes ++ k ∷ [] else voters_at s votes) ≡ voters_at s votes ++ (if t then k ∷ [] else [])
    by_test true = refl
    by_test false = sym (append-none (voters_at s votes))

slots-same : (me slot k : ℕ) (votes : List (ℕ × ℕ)) → (k == me) ≡ false → slots_of me (votes ++ (slot, k) ∷ []) ≡ slots_of me votes
slots-same me slot k votes other = slots-more me slot k votes ∙ rw (other) (append-none (slots_of me votes))

-- the vote of another replica at an open slot
pub voted : (l : Leading) (rest : BTreeMap ℕ (Vec ℕ Global)) (w more : Vec ℕ Global) (slot k me : ℕ) (log : Log) (b : Ballot) (next : ℕ) (votes : List (ℕ × ℕ))
    → IsLeading l me log b next votes → IsStrictlySortedBy nat_cmp (keys_of l.open.entries) → lookup (is_at (nat_cmp slot)) l.open.entries ≡ Some w
    → has (slots_of me votes) slot ≡ true → (k == me) ≡ false → more.items ≡ w.items ++ k ∷ [] → rest.entries ≡ set_value (is_at (nat_cmp slot)) l.open.entries more
    → IsLeading (record l { «open» = rest }) me log b next (votes ++ (slot, k) ∷ [])
unfolding open_of
voted l rest w more slot k me log b next votes s sorted found mine other pushed is =
    let same = slots-same me slot k votes other in
    record {
      ballot = s.ballot;
      next_is = s.next_is;
      open_are =
          ap (map (λ (e : ℕ × Vec ℕ Global). (e.0, e.1.items))) is
          ∙ written (λ (w : Vec ℕ Global). w.items) (λ (ks : List ℕ). ks ++ k ∷ []) slot l.open.entries w more sorted found pushed
          ∙ ap (change_at (λ (ks : List ℕ). ks ++ k ∷ []) slot) s.open_are
          ∙ voted-all slot k votes (open_of me log votes)
          ∙ ap (λ (ss : List ℕ). map (with_voters (votes ++ (slot, k) ∷ [])) (filter (λ s. not (is_chosen s log)) ss)) (sym same);
      proposed = subst (λ (ss : List ℕ). AllByRecursion (λ (v : ℕ × ℕ). IsTrue (has ss v.0)) (votes ++ (slot, k) ∷ [])) (sym same)
          (all-push (λ (v : ℕ × ℕ). IsTrue (has (slots_of me votes) v.0)) votes (slot, k) s.proposed mine);
      ballot_fits = s.ballot_fits;
    }

differs : (ks : List ℕ) (k me : ℕ) → has ks me ≡ true → has ks k ≡ false → (k == me) ≡ false
differs ks k me is not_is = by_test (k == me) refl
  where
    by_test : (t : Bool) → (k == me) ≡ t → (k == me) ≡ false
    by_test true e = absurd (true≢false (sym is ∙ ap (has ks) (sym (eqb-true k me e)) ∙ not_is))
    by_test false e = e

-- ---- whether a vote counts

-- the vote of k counts where h: the leader has voted at the slot, not v: k has not, and not c: its value is not known
counted : (h v c : Bool) → ((h && not v) && not c) ≡ true → (h ≡ true) × (v ≡ false) × (c ≡ false)
counted true false false e = (refl, refl, refl)
counted true false true e = absurd cc
counted true true c e = absurd cc
counted false v c e = absurd cc

closed_out : (h v o : Bool) → (h && o) ≡ false → ((h && not v) && o) ≡ false
closed_out true v true e = absurd cc
closed_out true v false e = and_right (not v) false refl
closed_out false v o e = refl

opened_up : (h c : Bool) → (h && not c) ≡ true → (h ≡ true) × (c ≡ false)
opened_up true false e = (refl, refl)
opened_up true true e = absurd cc
opened_up false c e = absurd cc

and_true : (b : Bool) → (b && true) ≡ b
and_true true = refl
and_true false = refl

-- a vote at an open slot counts once for each replica
pub vote-is : (l : Leading) (w : Vec ℕ Global) (b : Ballot) (slot k : ℕ) (r : Replica) (p : NoteOnPaper) → NoteStands (Note.Leading l) r.me r.log p
    → lookup (is_at (nat_cmp slot)) l.open.entries ≡ Some w → (ballot_eq l.ballot b && not (has w.items k)) ≡ awaits_vote b slot k r p
unfolding awaits_vote counts
vote-is l w b slot k r (NoteOnPaper.Leading a start next reports votes) s found =
    let f = found-open l w slot r.me r.log a next votes s found in
    let o = opened_up (has (voters_at slot votes) r.me) (is_chosen slot r.log) f.0 in
    rw (o.0, o.1, s.ballot, f.1) (ap (λ (t : Bool). ballot_eq a b && t) (sym (and_true (not (has (voters_at slot votes) k)))))
vote-is l w b slot k r NoteOnPaper.Idle s found = absurd s
vote-is l w b slot k r (NoteOnPaper.Asking a start reports) s found = absurd s

-- none counts where the slot is not open
pub vote-closed : (l : Leading) (b : Ballot) (slot k : ℕ) (r : Replica) (p : NoteOnPaper) → NoteStands (Note.Leading l) r.me r.log p
    → lookup (is_at (nat_cmp slot)) l.open.entries ≡ None → false ≡ awaits_vote b slot k r p
unfolding awaits_vote counts
vote-closed l b slot k r (NoteOnPaper.Leading a start next reports votes) s none =
    sym (and_right (ballot_eq a b) (counts slot k votes r)
    (closed_out (has (voters_at slot votes) r.me) (has (voters_at slot votes) k) (not (is_chosen slot r.log)) (found-none l slot r.me r.log a next votes s none)))
vote-closed l b slot k r NoteOnPaper.Idle s none = absurd s
vote-closed l b slot k r (NoteOnPaper.Asking a start reports) s none = absurd s

-- nor where the replica does not lead
pub vote-none : (note : Note) (b : Ballot) (slot k : ℕ) (r : Replica) (p : NoteOnPaper) → ((l : Leading) → note ≡ Note.Leading l → ⊥) → NoteStands note r.me r.log p → false ≡ awaits_vote b slot k r p
unfolding awaits_vote
vote-none (Note.Leading l) b slot k r p other s = absurd (other l refl)
vote-none Note.Idle b slot k r NoteOnPaper.Idle other s = refl
vote-none (Note.Asking a) b slot k r (NoteOnPaper.Asking c start reports) other s = refl
vote-none _ b slot k r _ other s = absurd s

pub awaited-counts : (b : Ballot) (slot k : ℕ) (r : Replica) (p : NoteOnPaper) → awaits_vote b slot k r p ≡ true → counts slot k (votes_of p) r ≡ true
unfolding awaits_vote votes_of
awaited-counts b slot k r (NoteOnPaper.Leading a start next reports votes) e = (and_parts (ballot_eq a b) (counts slot k votes r) e).1
awaited-counts b slot k r NoteOnPaper.Idle e = absurd cc
awaited-counts b slot k r (NoteOnPaper.Asking a start reports) e = absurd cc

-- ---- the vote of another replica

pub votes-none : (note : Note) (me : ℕ) (log : Log) (p : NoteOnPaper) → ((l : Leading) → note ≡ Note.Leading l → ⊥) → NoteStands note me log p → votes_of p ≡ []
unfolding votes_of
votes-none (Note.Leading l) me log p other s = absurd (other l refl)
votes-none Note.Idle me log NoteOnPaper.Idle other s = refl
votes-none (Note.Asking a) me log (NoteOnPaper.Asking c start reports) other s = refl
votes-none _ me log _ other s = absurd s

-- where the replica does not lead, no vote counts
pub uncounted : (slot k : ℕ) (r : Replica) (votes : List (ℕ × ℕ)) → votes ≡ [] → counts slot k votes r ≡ true → ⊥
unfolding counts voters_at has
uncounted slot k r votes none e = absurd (true≢false (sym e ∙ ap (λ (vs : List (ℕ × ℕ)). counts slot k vs r) none))

pub added : (l : Leading) (rest : BTreeMap ℕ (Vec ℕ Global)) (w more : Vec ℕ Global) (slot k : ℕ) (r : Replica) (p : NoteOnPaper) → NoteStands (Note.Leading l) r.me r.log p
    → counts slot k (votes_of p) r ≡ true → IsStrictlySortedBy nat_cmp (keys_of l.open.entries) → lookup (is_at (nat_cmp slot)) l.open.entries ≡ Some w
    → more.items ≡ w.items ++ k ∷ [] → rest.entries ≡ set_value (is_at (nat_cmp slot)) l.open.entries more
    → NoteStands (Note.Leading (record l { «open» = rest })) r.me r.log (with_vote slot k p)
unfolding counts votes_of with_vote
added l rest w more slot k r (NoteOnPaper.Leading a start next reports votes) s counting sorted found pushed is =
    let t = counted (has (voters_at slot votes) r.me) (has (voters_at slot votes) k) (is_chosen slot r.log) counting in
    voted l rest w more slot k r.me r.log a next votes s sorted found (has-voted slot r.me votes ∙ t.0) (differs (voters_at slot votes) k r.me t.0 t.1) pushed is
added l rest w more slot k r NoteOnPaper.Idle s counting sorted found pushed is = absurd s
added l rest w more slot k r (NoteOnPaper.Asking a start reports) s counting sorted found pushed is = absurd s

-- a vote that counts is for an open slot
pub not-closed : (l : Leading) (slot k : ℕ) (r : Replica) (p : NoteOnPaper) → NoteStands (Note.Leading l) r.me r.log p → counts slot k (votes_of p) r ≡ true
    → lookup (is_at (nat_cmp slot)) l.open.entries ≡ None → ⊥
unfolding counts votes_of
not-closed l slot k r (NoteOnPaper.Leading a start next reports votes) s counting none =
    let t = counted (has (voters_at slot votes) r.me) (has (voters_at slot votes) k) (is_chosen slot r.log) counting in
    true≢false (sym (rw (t.0, t.2) refl) ∙ found-none l slot r.me r.log a next votes s none)
not-closed l slot k r NoteOnPaper.Idle s counting none = s
not-closed l slot k r (NoteOnPaper.Asking a start reports) s counting none = s

-- ---- the leader's own vote

-- a slot whose value is known is not open
known-drops : (slot : ℕ) (log : Log) (ss : List ℕ) → is_chosen slot log ≡ true → filter (λ s. not (is_chosen s log)) (ss ++ slot ∷ []) ≡ filter (λ s. not (is_chosen s log)) ss
known-drops slot log ss known = filter-push (λ s. not (is_chosen s log)) ss slot ∙ rw (known) (append-none (filter (λ s. not (is_chosen s log)) ss))

unknown-stays : (slot : ℕ) (log : Log) (ss : List ℕ) → is_chosen slot log ≡ false → filter (λ s. not (is_chosen s log)) (ss ++ slot ∷ []) ≡ filter (λ s. not (is_chosen s log)) ss ++ slot ∷ []
unknown-stays slot log ss unknown = filter-push (λ s. not (is_chosen s log)) ss slot ∙ rw (unknown) refl

own-slots : (me slot : ℕ) (votes : List (ℕ × ℕ)) → slots_of me (votes ++ (slot, me) ∷ []) ≡ slots_of me votes ++ slot ∷ []
own-slots me slot votes = slots-more me slot me votes ∙ rw (same_eqb me me refl) refl

-- the voters at the other slots are as before
others-same : (slot k : ℕ) (votes : List (ℕ × ℕ)) (ss : List ℕ) → AllByRecursion (λ s. (slot == s) ≡ false) ss → map (with_voters votes) ss ≡ map (with_voters (votes ++ (slot, k) ∷ [])) ss
unfolding with_voters
others-same slot k votes [] all = refl
others-same slot k votes (s ∷ ss) all =
    ap (λ (ks : List ℕ). (s, ks) ∷ map (with_voters votes) ss) (sym (voters-more s slot k votes ∙ rw (all.0) (append-none (voters_at s votes))))
    ∙ ap (λ (es : List (ℕ × List ℕ)). (s, voters_at s (votes ++ (slot, k) ∷ [])) ∷ es) (others-same slot k votes ss all.1)

known-apart : (slot : ℕ) (log : Log) (ss : List ℕ) → is_chosen slot log ≡ true → AllByRecursion (λ s. (slot == s) ≡ false) (filter (λ s. not (is_chosen s log)) ss)
known-apart slot log [] known = tt
known-apart slot log (s ∷ ss) known = by_test (is_chosen s log) refl (filter (λ s. not (is_chosen s log)) ss) (known-apart slot log ss known)
  where
    apart : (t : Bool) → (slot == s) ≡ t → is_chosen s log ≡ false → (slot == s) ≡ false
    apart true e f = absurd (true≢false (sym known ∙ ap (λ (j : ℕ). is_chosen j log) (eqb-true slot s e) ∙ f))
    apart false e f = e

    by_test : (b : Bool) → is_chosen s log ≡ b → (xs : List ℕ) → AllByRecursion (λ s. (slot == s) ≡ false) xs → AllByRecursion (λ s. (slot == s) ≡ false) (cond (not b) (s ∷ xs) xs)
    by_test true e xs all = all
    by_test false e xs all = (apart (slot == s) refl e, all)

has-left : (xs ys : List ℕ) (k : ℕ) → IsTrue (has xs k) → IsTrue (has (xs ++ ys) k)
has-left xs ys k h = has_in (xs ++ ys) k (among_left xs ys k (has_from xs k h))

has-last : (xs : List ℕ) (k : ℕ) → IsTrue (has (xs ++ k ∷ []) k)
has-last xs k = has_in (xs ++ k ∷ []) k (among_right xs (k ∷ []) k (inl refl))

proposed-more : (me slot : ℕ) (votes : List (ℕ × ℕ)) → AllByRecursion (λ (v : ℕ × ℕ). IsTrue (has (slots_of me votes) v.0)) votes
    → AllByRecursion (λ (v : ℕ × ℕ). IsTrue (has (slots_of me (votes ++ (slot, me) ∷ [])) v.0)) (votes ++ (slot, me) ∷ [])
proposed-more me slot votes all =
    let ss = slots_of me votes in
    subst (λ (us : List ℕ). AllByRecursion (λ (v : ℕ × ℕ). IsTrue (has us v.0)) (votes ++ (slot, me) ∷ [])) (sym (own-slots me slot votes))
    (all-push (λ (v : ℕ × ℕ). IsTrue (has (ss ++ slot ∷ []) v.0)) votes (slot, me)
    (all_more (λ (v : ℕ × ℕ). IsTrue (has ss v.0)) (λ (v : ℕ × ℕ). IsTrue (has (ss ++ slot ∷ []) v.0)) (λ v h. has-left ss (slot ∷ []) v.0 h) votes all)
    (has-last ss slot))

-- the leader's vote at a slot whose value is known
pub opened-known : (note : Note) (slot me : ℕ) (log : Log) (p : NoteOnPaper) → is_chosen slot log ≡ true → NoteStands note me log p → NoteStands note me log (with_vote slot me p)
unfolding with_vote open_of
opened-known Note.Idle slot me log NoteOnPaper.Idle known s = tt
opened-known (Note.Asking a) slot me log (NoteOnPaper.Asking b start reports) known s = s
opened-known (Note.Leading l) slot me log (NoteOnPaper.Leading b start next reports votes) known s =
    let kept = ap (filter (λ s. not (is_chosen s log))) (own-slots me slot votes) ∙ known-drops slot log (slots_of me votes) known in
    record {
      ballot = s.ballot;
      next_is = s.next_is;
      open_are = s.open_are ∙ others-same slot me votes (open_of me log votes) (known-apart slot log (slots_of me votes) known)
          ∙ ap (map (with_voters (votes ++ (slot, me) ∷ []))) (sym kept);
      proposed = proposed-more me slot votes s.proposed;
      ballot_fits = s.ballot_fits;
    }
opened-known _ slot me log _ known s = absurd s

pub opened-idle : (note : Note) (slot k me : ℕ) (log : Log) (p : NoteOnPaper) → ((l : Leading) → note ≡ Note.Leading l → ⊥) → NoteStands note me log p → NoteStands note me log (with_vote slot k p)
unfolding with_vote
opened-idle (Note.Leading l) slot k me log p other s = absurd (other l refl)
opened-idle Note.Idle slot k me log NoteOnPaper.Idle other s = tt
opened-idle (Note.Asking a) slot k me log (NoteOnPaper.Asking b start reports) other s = s
opened-idle _ slot k me log _ other s = absurd s

-- where no slot is proposed at, nobody votes
no-votes : (slot : ℕ) (ss : List ℕ) (votes : List (ℕ × ℕ)) → AllByRecursion (λ (v : ℕ × ℕ). IsTrue (has ss v.0)) votes → has ss slot ≡ false → voters_at slot votes ≡ []
unfolding voters_at
no-votes slot ss [] all none = refl
no-votes slot ss (v ∷ votes) all none = by_test (v.0 == slot) refl (no-votes slot ss votes all.1 none)
  where
    by_test : (t : Bool) → (v.0 == slot) ≡ t → voters_at slot votes ≡ [] → voters_at slot (v ∷ votes) ≡ []
    by_test true e more = absurd (true≢false (sym (subst (λ j. has ss j ≡ true) (eqb-true v.0 slot e) all.0) ∙ none))
    by_test false e more = rw (e) more

apart-below : (slot : ℕ) (ss : List ℕ) → All (λ q. q < slot) ss → AllByRecursion (λ s. (slot == s) ≡ false) ss
apart-below slot [] all = tt
apart-below slot (s ∷ ss) all = (differs_below slot s (all 0 0 (omega arith)), apart-below slot ss (λ j d l. all (suc j) d (omega (arith, l))))
  where
    differs_below : (a b : ℕ) → b < a → (a == b) ≡ false
    differs_below a b l = grind (arith, nat_tests, l)

absent-apart : (slot : ℕ) (ss : List ℕ) → AllByRecursion (λ s. (slot == s) ≡ false) ss → has ss slot ≡ false
unfolding has
absent-apart slot [] all = refl
absent-apart slot (s ∷ ss) all = rw (eqb-sym s slot, all.0) (absent-apart slot ss all.1)

keys-are : (es : List (ℕ × Vec ℕ Global)) (votes : List (ℕ × ℕ)) (ss : List ℕ) → map (λ (e : ℕ × Vec ℕ Global). (e.0, e.1.items)) es ≡ map (with_voters votes) ss → keys_of es ≡ ss
unfolding with_voters
keys-are es votes ss is = firsts es ∙ ap (map (λ (e : ℕ × List ℕ). e.0)) is ∙ seconds ss
  where
    firsts : (es : List (ℕ × Vec ℕ Global)) → keys_of es ≡ map (λ (e : ℕ × List ℕ). e.0) (map (λ (e : ℕ × Vec ℕ Global). (e.0, e.1.items)) es)
    firsts [] = refl
    firsts (e ∷ es) = ap (λ (ks : List ℕ). e.0 ∷ ks) (firsts es)

    seconds : (ss : List ℕ) → map (λ (e : ℕ × List ℕ). e.0) (map (with_voters votes) ss) ≡ ss
    seconds [] = refl
    seconds (s ∷ ss) = ap (λ (ks : List ℕ). s ∷ ks) (seconds ss)

-- the leader's vote at a slot behind all open ones
pub opened : (l : Leading) (rest : BTreeMap ℕ (Vec ℕ Global)) (voters : Vec ℕ Global) (slot me : ℕ) (log : Log) (p : NoteOnPaper) → is_chosen slot log ≡ false
    → rest.entries ≡ l.open.entries ++ (slot, voters) ∷ [] → All (λ q. q < slot) (keys_of l.open.entries) → voters.items ≡ me ∷ [] → NoteStands (Note.Leading l) me log p
    → NoteStands (Note.Leading (record l { «open» = rest })) me log (with_vote slot me p)
unfolding with_vote open_of with_voters
opened l rest voters slot me log (NoteOnPaper.Leading b start next reports votes) unknown is behind own s =
    let open_is = open_of me log votes in
    let apart = apart-below slot open_is (subst (λ (ss : List ℕ). All (λ q. q < slot) ss) (keys-are l.open.entries votes open_is s.open_are) behind) in
    let unopened = sym (has-kept (λ s. not (is_chosen s log)) (slots_of me votes) slot) ∙ absent-apart slot open_is apart in
    let none = no-votes slot (slots_of me votes) votes s.proposed (unproposed (has (slots_of me votes) slot) (is_chosen slot log) unknown unopened) in
    let here : voters_at slot (votes ++ (slot, me) ∷ []) ≡ me ∷ [] = voters-more slot slot me votes ∙ rw (same_eqb slot slot refl, none) refl in
    record {
      ballot = s.ballot;
      next_is = s.next_is;
      open_are =
          ap (map (λ (e : ℕ × Vec ℕ Global). (e.0, e.1.items))) is
          ∙ map-append (λ (e : ℕ × Vec ℕ Global). (e.0, e.1.items)) l.open.entries ((slot, voters) ∷ [])
          ∙ ap (λ (es : List (ℕ × List ℕ)). es ++ (slot, voters.items) ∷ []) (s.open_are ∙ others-same slot me votes open_is apart)
          ∙ ap (λ (ks : List ℕ). map (with_voters (votes ++ (slot, me) ∷ [])) open_is ++ (slot, ks) ∷ []) (own ∙ sym here)
          ∙ sym (map-append (with_voters (votes ++ (slot, me) ∷ [])) open_is (slot ∷ []))
          ∙ ap (map (with_voters (votes ++ (slot, me) ∷ []))) (sym (ap (filter (λ s. not (is_chosen s log))) (own-slots me slot votes) ∙ unknown-stays slot log (slots_of me votes) unknown));
      proposed = proposed-more me slot votes s.proposed;
      ballot_fits = s.ballot_fits;
    }
  where
    unproposed : (h c : Bool) → c ≡ false → (h && not c) ≡ false → h ≡ false
    unproposed h false e f = sym (and_true h) ∙ f
    unproposed h true e f = absurd cc
opened l rest voters slot me log NoteOnPaper.Idle unknown is behind own s = absurd s
opened l rest voters slot me log (NoteOnPaper.Asking b start reports) unknown is behind own s = absurd s

-- ---- a majority of votes

few : (n : ℕ) → nat_le (majority n) 0 ≡ false
few n = grind (arith, nat_tests)

-- the voters at an open slot, against the votes of the definitions
pub voted-is : (l : Leading) (w : Vec ℕ Global) (slot n me : ℕ) (log : Log) (p : NoteOnPaper) → NoteStands (Note.Leading l) me log p → lookup (is_at (nat_cmp slot)) l.open.entries ≡ Some w
    → nat_le (majority n) (length w.items) ≡ (nat_le (majority n) (length (voters_at slot (votes_of p))) && not (is_chosen slot log))
unfolding votes_of
voted-is l w slot n me log (NoteOnPaper.Leading b start next reports votes) s found =
    let f = found-open l w slot me log b next votes s found in
    let o = opened_up (has (voters_at slot votes) me) (is_chosen slot log) f.0 in
    rw (f.1, o.1) (sym (and_true (nat_le (majority n) (length (voters_at slot votes)))))
voted-is l w slot n me log NoteOnPaper.Idle s found = absurd s
voted-is l w slot n me log (NoteOnPaper.Asking b start reports) s found = absurd s

pub unvoted-is : (l : Leading) (slot n me : ℕ) (log : Log) (p : NoteOnPaper) → NoteStands (Note.Leading l) me log p → lookup (is_at (nat_cmp slot)) l.open.entries ≡ None
    → false ≡ (nat_le (majority n) (length (voters_at slot (votes_of p))) && not (is_chosen slot log))
unfolding votes_of
unvoted-is l slot n me log (NoteOnPaper.Leading b start next reports votes) s none =
    by_known (is_chosen slot log) (found-none l slot me log b next votes s none)
  where
    by_known : (c : Bool) → (has (voters_at slot votes) me && not c) ≡ false → false ≡ (nat_le (majority n) (length (voters_at slot votes)) && not c)
    by_known true e = sym (and_right (nat_le (majority n) (length (voters_at slot votes))) false refl)
    by_known false e =
        let nobody = no-votes slot (slots_of me votes) votes s.proposed (has-voted slot me votes ∙ sym (and_true (has (voters_at slot votes) me)) ∙ e) in
        rw (nobody, few n) refl
unvoted-is l slot n me log NoteOnPaper.Idle s none = absurd s
unvoted-is l slot n me log (NoteOnPaper.Asking b start reports) s none = absurd s

pub none-voted : (slot n : ℕ) (log : Log) (votes : List (ℕ × ℕ)) → votes ≡ [] → false ≡ (nat_le (majority n) (length (voters_at slot votes)) && not (is_chosen slot log))
unfolding voters_at
none-voted slot n log votes none = rw (none, few n) refl
