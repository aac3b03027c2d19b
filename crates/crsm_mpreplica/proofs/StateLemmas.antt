-- The replica that a state stands for, after one change more.
use Rattle.std.proofs.Common.{◌≡◌, ℕ, zero, suc, List, [], ◌∷◌, ◌++◌, length, drop, refl, ap, sym, ◌∙◌, append_assoc}
use Rattle.std.specs.Prelude.{not, filter, map}
use Rattle.std.proofs.lemmas.List.{append-nil}
use Rattle.crsm_mpspec.specs.Types.{Ballot, Value}
use Rattle.crsm_mpspec.specs.declared.message.MpMessage.{MpMessage}
use Rattle.crsm_mpspec.specs.declared.line.MpLine.{MpLine}
use Rattle.crsm_mpspec.specs.declared.rec.MpRec.{MpRec}
use Rattle.crsm_mpspec.specs.Log.{Log, choices, chosen_at, is_chosen, end, executed, run_from}
use Rattle.crsm_mpspec.specs.Draft.{Draft, exec_lines, executions, keep, keep_as, line_of, send, send_to_each}
use Rattle.crsm_mpspec.specs.Replica.{Note as NoteOnPaper, slots_of}
use Rattle.crsm_mpreplica.specs.declared.note.Note.{Note}
use Rattle.crsm_mpreplica.specs.Made.{outcome_of}
use Rattle.crsm_mpreplica.specs.Notes.{NoteStands, open_of, with_voters}

-- whatever is open over one log is open over another of the same choices
open-same : (k : ℕ) (log other : Log) (votes : List (ℕ × ℕ)) → ((s : ℕ) → is_chosen s log ≡ is_chosen s other) → open_of k log votes ≡ open_of k other votes
unfolding open_of
open-same k log other votes same = kept (slots_of k votes)
  where
    kept : (xs : List ℕ) → filter (λ s. not (is_chosen s log)) xs ≡ filter (λ s. not (is_chosen s other)) xs
    kept [] = refl
    kept (s ∷ xs) = rw (same s, kept xs) refl

-- a note stands over a log of the same choices
pub note-same : (note : Note) (me : ℕ) (log other : Log) (p : NoteOnPaper) → ((s : ℕ) → is_chosen s log ≡ is_chosen s other) → NoteStands note me log p → NoteStands note me other p
note-same Note.Idle me log other NoteOnPaper.Idle same s = tt
note-same (Note.Asking a) me log other (NoteOnPaper.Asking b start reports) same s = s
note-same (Note.Leading l) me log other (NoteOnPaper.Leading b start next reports votes) same s = record {
  ballot = s.ballot;
  next_is = s.next_is;
  open_are = s.open_are ∙ ap (λ (slots : List ℕ). map (with_voters votes) slots) (open-same me log other votes same);
  proposed = s.proposed;
  ballot_fits = s.ballot_fits;
}
note-same _ me log other _ same s = absurd s

nothing_left : {A : Type 0} (xs : List A) → drop (length xs) xs ≡ []
nothing_left [] = refl
nothing_left (x ∷ xs) = nothing_left xs

pub exec-none : (me : ℕ) (log : Log) (rec : MpRec) → executed (rec ∷ log) ≡ executed log → executions me log rec ≡ []
unfolding executions exec_lines
exec-none me log rec same = ap (λ (vs : List Value). exec_lines me (executed log) (drop (length (executed log)) vs)) same ∙ ap (λ (vs : List Value). exec_lines me (executed log) vs) (nothing_left (executed log))

run-quiet : (rec : MpRec) (log : Log) → ((s : ℕ) → chosen_at s (rec ∷ log) ≡ chosen_at s log) → (m a : ℕ) → run_from m a (rec ∷ log) ≡ run_from m a log
unfolding run_from
run-quiet rec log same zero a = refl
run-quiet rec log same (suc m) a = rw (same a, run-quiet rec log same m (suc a)) refl

executed-promise : (log : Log) (b : Ballot) → executed (MpRec.Promise b ∷ log) ≡ executed log
unfolding executed end choices chosen_at
executed-promise log b = run-quiet (MpRec.Promise b) log (λ q. refl) (end log) 0

promise-executes : (me : ℕ) (log : Log) (b : Ballot) → executions me log (MpRec.Promise b) ≡ []
promise-executes me log b = exec-none me log (MpRec.Promise b) (executed-promise log b)

-- a promise adds its line alone
pub promise-tells : (x : Draft) (b : Ballot) (me : ℕ) → me ≡ x.replica.me
    → record (outcome_of x) { batch = x.batch ++ MpRec.Promise b ∷ []; lines = x.lines ++ MpLine.Promise me b.round b.by ∷ [] } ≡ outcome_of (keep (MpRec.Promise b) x)
unfolding keep keep_as line_of
promise-tells x b me same = rw (same, promise-executes x.replica.me x.replica.log b) refl

executed-accept : (log : Log) (slot : ℕ) (b : Ballot) (v : Value) → executed (MpRec.Accept slot b v ∷ log) ≡ executed log
unfolding executed end choices chosen_at
executed-accept log slot b v = run-quiet (MpRec.Accept slot b v) log (λ q. refl) (end log) 0

-- an acceptance adds its line alone
pub accept-tells : (x : Draft) (line : MpLine) (slot : ℕ) (b : Ballot) (v : Value)
    → record (outcome_of x) { batch = x.batch ++ MpRec.Accept slot b v ∷ []; lines = x.lines ++ line ∷ [] } ≡ outcome_of (keep_as line (MpRec.Accept slot b v) x)
unfolding keep_as
accept-tells x line slot b v = rw (exec-none x.replica.me x.replica.log (MpRec.Accept slot b v) (executed-accept x.replica.log slot b v)) refl

-- ---- to several replicas

-- a message to each of these
pub sent-each : (ks : List ℕ) (message : MpMessage) (x : Draft) → send_to_each ks message x ≡ record x { sends = x.sends ++ map (λ k. (k, message)) ks }
unfolding send_to_each send
sent-each [] message x = ap (λ (sends : List (ℕ × MpMessage)). record x { sends = sends }) (sym (append-nil x.sends))
sent-each (k ∷ ks) message x =
    sent-each ks message (send message x k)
    ∙ ap (λ (sends : List (ℕ × MpMessage)). record x { sends = sends }) (append_assoc x.sends ((k, message) ∷ []) (map (λ j. (j, message)) ks))
