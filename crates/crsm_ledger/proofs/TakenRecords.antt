-- Records whose encodings were read before.
use Rattle.std.proofs.Common.{◌≡◌, ℕ, ◌<◌, ◌+◌, ◌-◌, ◌≤◌, List, [], ◌++◌, length, take, Option, None, Some, Result, Err, refl, sym, ap, ◌∙◌, subst, arith, length-append, append_assoc, drop}
use Rattle.std.proofs.lemmas.List.{drop_at, take-append-le, take_all}
use Rattle.std.specs.Prelude.{IfErr}
use Rattle.crsm_base.specs.Spelling.{FitsBallot, FitsDecision, FitsEntries, FitsEntry, ballot_bytes, decision_bytes, entries_bytes, members_bytes, spec_bytes, u64_bytes}
use Rattle.crsm_base.specs.Parser.{◌>>=◌}
use Rattle.crsm_base.specs.Reading.{ballot_at, decision_at, entries_at, entry_at, u64_at}
use Rattle.crsm_base.specs.Records.{FitsRec, rec_bytes}
use Rattle.crsm_base.specs.RecordReading.{accept_at, adopt_at, decide_rec_at, rec_at}
use Rattle.crsm_base.proofs.RecordLaws.{rec_parses}
use Rattle.crsm_base.proofs.BodyLaws.{HasRead as HasReadAny}
use Rattle.crsm_base.proofs.Numbers.{u64_parses}
use Rattle.crsm_base.proofs.Parsers.{IsBytes, IsBytes-back}
use Rattle.crsm_base.proofs.Decisions.{decision_parses}
use Rattle.crsm_base.proofs.EntriesLemmas.{entries_parse}
use Rattle.crsm_base.proofs.Sizes.{u64_long}
use Rattle.crsm_base.proofs.Fields.{ballot_parses, entry_parses}
use Rattle.crsm_spec.specs.Types.{Ballot, Decision, Entry, Rec}
use Rattle.crsm_ledger.specs.declared.error.LedgerError.{LedgerError}
use Rattle.crsm_ledger.specs.Taken.{HasRead, IsAtHand, IsTail}

-- no accepted decision was read before
pub none_at_hand : (a : Option (Ballot × Decision)) → IsAtHand [] a
none_at_hand None = tt
none_at_hand (Some a) = λ some. absurd (let no : 0 < length {A = ℕ} [] = some in omega (arith, no))

-- the encoding of the accepted decision, followed by other bytes, is read as that decision
pub again_at : (at_hand bytes rest : List ℕ) (b : Ballot) (d : Decision) (a : Option (Ballot × Decision)) → a ≡ Some (b, d) → IsAtHand at_hand a → (0 < length at_hand) × (bytes ≡ at_hand ++ rest) → FitsDecision d × (decision_at bytes ≡ Some (d, rest)) × (at_hand ≡ decision_bytes d)
again_at at_hand bytes rest b d a is spelt starts =
    let known = subst (IsAtHand at_hand) is spelt starts.0 in
    (known.0, ap decision_at (starts.1 ∙ ap (λ (s : List ℕ). s ++ rest) known.1) ∙ decision_parses.again d rest known.0, known.1)

-- the bytes of the entry that was read
pub entry_fits : (bytes rest : List ℕ) (e : Entry) → IsBytes bytes → entry_at bytes ≡ Some (e, rest) → FitsEntry e
entry_fits bytes rest e ok is = (entry_parses.takes bytes e rest ok is).0

-- the rest is no longer than what was read
pub rest_short : (bytes rest : List ℕ) (d : Decision) → IsBytes bytes → decision_at bytes ≡ Some (d, rest) → length rest ≤ length bytes
rest_short bytes rest d ok is =
    let t = decision_parses.takes bytes d rest ok is in omega (arith, ap length t.1, length-append (decision_bytes d) rest)

-- what lies before the rest are the bytes of the decision that was read
pub before_rest : (bytes rest : List ℕ) (d : Decision) → IsBytes bytes → decision_at bytes ≡ Some (d, rest) → FitsDecision d × (take (length bytes - length rest) bytes ≡ decision_bytes d)
before_rest bytes rest d ok is =
    let t = decision_parses.takes bytes d rest ok is in
    let count : length bytes - length rest ≡ length (decision_bytes d) = omega (arith, ap length t.1, length-append (decision_bytes d) rest) in
    (t.0, ap (λ k. take k bytes) count ∙ ap (take (length (decision_bytes d))) t.1 ∙ take-append-le (length (decision_bytes d)) (decision_bytes d) rest (omega arith) ∙ take_all (length (decision_bytes d)) (decision_bytes d) (omega arith))

-- behind a number and a ballot there are bytes
pub text_bytes : (bytes mid text : List ℕ) (i : ℕ) (b : Ballot) → IsBytes bytes → u64_at bytes ≡ Some (i, mid) → ballot_at mid ≡ Some (b, text) → IsBytes text
text_bytes bytes mid text i b ok number ballot =
    let n = u64_parses.takes bytes i mid ok number in
    let within = IsBytes-back (u64_bytes i) mid bytes n.1 ok in
    let t = ballot_parses.takes mid b text within ballot in IsBytes-back (ballot_bytes b) text mid t.1 within

-- a decision is read as the record of it
pub decide_is : (bytes rest : List ℕ) (d : Decision) → decision_at bytes ≡ Some (d, rest) → decide_rec_at bytes ≡ Some (Rec.Decide d, rest)
unfolding decide_rec_at
decide_is bytes rest d e = ap (λ (r : Option (Decision × List ℕ)). r >>= λ a. Some (Rec.Decide a.0, a.1)) e

-- so is a decision that is accepted
pub accept_is : (bytes mid text rest : List ℕ) (i : ℕ) (b : Ballot) (d : Decision) → u64_at bytes ≡ Some (i, mid) → ballot_at mid ≡ Some (b, text) → decision_at text ≡ Some (d, rest) → accept_at bytes ≡ Some (Rec.Accept i b d, rest)
unfolding accept_at
accept_is bytes mid text rest i b d number ballot decision = rw (number, ballot, decision) refl

-- the ballot that was read behind a number
pub ballot_fits : (bytes mid text : List ℕ) (i : ℕ) (b : Ballot) → IsBytes bytes → u64_at bytes ≡ Some (i, mid) → ballot_at mid ≡ Some (b, text) → FitsBallot b
ballot_fits bytes mid text i b ok number ballot =
    let n = u64_parses.takes bytes i mid ok number in (ballot_parses.takes mid b text (IsBytes-back (u64_bytes i) mid bytes n.1 ok) ballot).0

-- the record that was read has an encoding
pub rec_fits : (bytes rest : List ℕ) (rec : Rec) → IsBytes bytes → rec_at bytes ≡ Some (rec, rest) → FitsRec rec
rec_fits bytes rest rec ok is = (rec_parses.takes bytes rec rest ok is).0

-- what was read of a body, as of any list
pub read_so_far : {body : List ℕ} {recs : List Rec} {rest : List ℕ} → HasRead body recs rest → HasReadAny rec_bytes FitsRec body recs rest
read_so_far h = record { fit = h.fit; is = h.is }

-- what is said of an answer that is this error
pub is_error : {T : Type 0} (r : Result T LedgerError) (e : LedgerError) (P : LedgerError → Type 0) → r ≡ Err e → P e → IfErr r P
is_error {T = T} r e P is bad = subst (λ (a : Result T LedgerError). IfErr a P) (sym is) bad

-- no tail was read before
pub none_of_tail : (d : Decision) → IsTail [] d
none_of_tail d some = absurd (let no : 0 < length {A = ℕ} [] = some in omega (arith, no))

-- the encoding of the tail, followed by other bytes, is read as that tail
pub tail_at : (tail bytes rest : List ℕ) (d : Decision) → IsTail tail d → (0 < length tail) × (bytes ≡ tail ++ rest) → FitsEntries d.tail × (entries_at bytes ≡ Some (d.tail, rest))
tail_at tail bytes rest d spelt starts =
    let known = spelt starts.0 in
    (known.0, ap entries_at (starts.1 ∙ ap (λ (s : List ℕ). s ++ rest) known.1) ∙ entries_parse.again d.tail rest known.0)

-- entries behind a place are read as the record that adopts them
pub adopt_is : (bytes text rest : List ℕ) (place : ℕ) (es : List Entry) → u64_at bytes ≡ Some (place, text) → entries_at text ≡ Some (es, rest) → adopt_at bytes ≡ Some (Rec.Adopt place es, rest)
unfolding adopt_at
adopt_is bytes text rest place es number entries = rw (number, entries) refl

-- the tail comes last in a decision
pub tail_last : (d : Decision) (k : ℕ) → k ≡ 8 + (length (spec_bytes d.spec) + (length (members_bytes d.members) + 8)) → (k ≤ length (decision_bytes d)) × (drop k (decision_bytes d) ≡ entries_bytes d.tail)
unfolding decision_bytes
tail_last d k is =
    let e = u64_bytes d.epoch in
    let s = spec_bytes d.spec in
    let m = members_bytes d.members in
    let b = u64_bytes d.base_len in
    let t = entries_bytes d.tail in
    let grouped : e ++ (s ++ (m ++ (b ++ t))) ≡ (e ++ (s ++ (m ++ b))) ++ t =
    ap (λ (x : List ℕ). e ++ (s ++ x)) (sym (append_assoc m b t)) ∙ ap (λ (x : List ℕ). e ++ x) (sym (append_assoc s (m ++ b) t)) ∙ sym (append_assoc e (s ++ (m ++ b)) t) in
    let prefix : k ≡ length (e ++ (s ++ (m ++ b))) =
    omega (arith, is, u64_long d.epoch, u64_long d.base_len, length-append e (s ++ (m ++ b)), length-append s (m ++ b), length-append m b) in
    let within : k ≤ length (e ++ (s ++ (m ++ (b ++ t)))) = omega (arith, prefix, ap length grouped, length-append (e ++ (s ++ (m ++ b))) t) in
    (within, ap (drop k) grouped ∙ drop_at (e ++ (s ++ (m ++ b))) t k (sym prefix))
