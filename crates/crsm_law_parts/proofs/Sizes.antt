-- The lengths of datagrams that are no parts, and of marks.
use Rattle.std.proofs.Common.{◌≤◌, ℕ, zero, suc, List, ◌++◌, length, Option, Some, None, arith}
use Rattle.std.proofs.lemmas.List.{length-append}
use Rattle.crsm_base.specs.Members.{IsMembers}
use Rattle.crsm_base.specs.Messages.{payload_bytes, FitsPayload, datagram_bytes, FitsDatagram}
use Rattle.crsm_base.specs.Spelling.{u16_bytes, u64_bytes, stamp_bytes, val_bytes, FitsVal, option_bytes, FitsOption, FitsEntry, entry_bytes, command_bytes, FitsCommand, members_bytes, answer_bytes, FitsAnswer, outcome_bytes, FitsOutcome}
use Rattle.crsm_base.proofs.Sizes.{u64_long, stamp_long, entry_short}
use Rattle.crsm_spec.specs.Types.{Answer, Command, Datagram, Entry, InEpoch, Outcome}
use Rattle.crsm_wire.specs.Marks.{mark_in}
use Rattle.crsm_base.proofs.MembersLemmas.{members_le}
use Rattle.crsm_law_parts.specs.Laws.{IsPart}
use Rattle.crsm_law_parts.proofs.Values.{IsShort}

pub mark_short : (cluster : ℕ) → length (mark_in cluster) ≤ 9
mark_short zero = omega arith
mark_short (suc c) = let h = u64_long (suc c) in omega (arith, h)

val_short : (v : List ℕ) → FitsVal v → length (val_bytes v) ≤ 514
unfolding val_bytes u16_bytes
val_short v f = let most = f.most in omega (arith, most)

option_short : (v : Option (List ℕ)) → FitsOption FitsVal v → length (option_bytes val_bytes v) ≤ 515
option_short None f = omega arith
option_short (Some v) f = let h = val_short v f in omega (arith, h)

answer_long : (a : Answer) → IsShort a → length (answer_bytes a) ≤ 516
unfolding answer_bytes
answer_long (Answer.Found v) f = let h = val_short v f in omega (arith, h)
answer_long Answer.Missing f = omega arith
answer_long Answer.Done f = omega arith
answer_long (Answer.Differs v) f = let h = option_short v f in omega (arith, h)
answer_long (Answer.Stale n) f = let h = u64_long n in omega (arith, h)
answer_long Answer.NoRoom f = omega arith

abbrev pub IsShortOutcome : Outcome → Type 0
IsShortOutcome (Outcome.Answered a) = IsShort a
IsShortOutcome (Outcome.Refused why) = Unit {0}

outcome_long : (o : Outcome) → IsShortOutcome o → length (outcome_bytes o) ≤ 517
unfolding outcome_bytes
outcome_long (Outcome.Answered a) f = let h = answer_long a f in omega (arith, h)
outcome_long (Outcome.Refused why) f = omega arith

pub reply_long : (client number : ℕ) (o : Outcome) → IsShortOutcome o → length (datagram_bytes (Datagram.Reply client number o)) ≤ 1149
unfolding datagram_bytes
reply_long client number o f =
    let h = outcome_long o f in
    let a = u64_long client in
    let b = u64_long number in
    omega (arith, h, a, b, length-append (u64_bytes client) (u64_bytes number ++ outcome_bytes o), length-append (u64_bytes number) (outcome_bytes o))

abbrev pub FitsIn : InEpoch → Type 0
FitsIn (InEpoch.Prepare e) = FitsEntry e
FitsIn (InEpoch.PrepareOk s at) = Unit {0}
FitsIn (InEpoch.ClockTime at) = Unit {0}

payload_long : (p : InEpoch) → FitsIn p → length (payload_bytes p) ≤ 1130
unfolding payload_bytes
payload_long (InEpoch.Prepare e) f = let h = entry_short e f in omega (arith, h)
payload_long (InEpoch.PrepareOk s at) f = let a = stamp_long s in let b = u64_long at in omega (arith, a, b, length-append (stamp_bytes s) (u64_bytes at))
payload_long (InEpoch.ClockTime at) f = let b = u64_long at in omega (arith, b)

pub frame_long : (from to epoch seq : ℕ) (p : InEpoch) → FitsIn p → length (datagram_bytes (Datagram.Frame from to epoch seq p)) ≤ 1149
unfolding datagram_bytes
frame_long from to epoch seq p f =
    let h = payload_long p f in
    let a = u64_long epoch in
    let b = u64_long seq in
    omega (arith, h, a, b, length-append (u64_bytes epoch) (u64_bytes seq ++ payload_bytes p), length-append (u64_bytes seq) (payload_bytes p))

pub ack_long : (from to epoch next : ℕ) → length (datagram_bytes (Datagram.Ack from to epoch next)) ≤ 1149
unfolding datagram_bytes
ack_long from to epoch next =
    let a = u64_long epoch in
    let b = u64_long next in
    omega (arith, a, b, length-append (u64_bytes epoch) (u64_bytes next))

-- ---- with encodings

fits_in : (p : InEpoch) → FitsPayload p → FitsIn p
fits_in (InEpoch.Prepare e) f = f
fits_in (InEpoch.PrepareOk s at) f = tt
fits_in (InEpoch.ClockTime at) f = tt

short_answer : (a : Answer) → FitsAnswer a → IsShort a
short_answer (Answer.Found v) f = f
short_answer Answer.Missing f = tt
short_answer Answer.Done f = tt
short_answer (Answer.Differs v) f = f
short_answer (Answer.Stale n) f = tt
short_answer Answer.NoRoom f = tt

short_outcome : (o : Outcome) → FitsOutcome o → IsShortOutcome o
short_outcome (Outcome.Answered a) f = short_answer a f
short_outcome (Outcome.Refused why) f = tt

-- an entry of the command is longer
request_long : (c : Command) → FitsCommand c → length (datagram_bytes (Datagram.Request c)) ≤ 1149
unfolding datagram_bytes entry_bytes
request_long c f =
    let e : Entry = record { epoch = 0; stamp = record { time = 0; origin = 0 }; command = c } in
    let s = entry_short e (record { epoch = omega arith; stamp = record { time = omega arith; origin = omega arith }; command = f }) in
    omega (arith, s, length-append (u64_bytes 0) (stamp_bytes e.stamp ++ command_bytes c), length-append (stamp_bytes e.stamp) (command_bytes c))

operate_long : (ms : List ℕ) → IsMembers ms → length (datagram_bytes (Datagram.Operate ms)) ≤ 1149
unfolding datagram_bytes members_bytes
operate_long ms f = let le = members_le ms f in omega (arith, le)

pub others_long : (d : Datagram) → FitsDatagram d → (IsPart d → ⊥) → length (datagram_bytes d) ≤ 1149
others_long (Datagram.Frame from to epoch seq p) f other = frame_long from to epoch seq p (fits_in p f.4)
others_long (Datagram.Ack from to epoch next) f other = ack_long from to epoch next
others_long (Datagram.Part from to boot number index count bytes) f other = absurd (other tt)
others_long (Datagram.Request c) f other = request_long c f
others_long (Datagram.Reply client number o) f other = reply_long client number o (short_outcome o f.2)
others_long (Datagram.Operate ms) f other = operate_long ms f
