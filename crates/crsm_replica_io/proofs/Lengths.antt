-- The greatest lengths of encodings of datagrams.
use Rattle.std.proofs.Common.{◌≡◌, ◌≤◌, ℕ, List, ◌++◌, length, Some, None, Bool, true, false, nat_lt, ◌==◌, ◌+◌, cond, arith}
use Rattle.std.proofs.lemmas.List.{length-append}
use Rattle.crsm_base.specs.declared.command.Command.{Command}
use Rattle.crsm_base.specs.declared.command.Entry.{Entry}
use Rattle.crsm_base.specs.declared.answer.Answer.{Answer}
use Rattle.crsm_base.specs.declared.answer.Answer.TheVariants.{Found, Missing, Done, Differs, Stale, NoRoom}
use Rattle.crsm_base.specs.declared.answer.Outcome.{Outcome}
use Rattle.crsm_base.specs.declared.answer.Outcome.TheVariants.{Answered, Refused}
use Rattle.crsm_base.specs.declared.datagram.InEpoch.{InEpoch}
use Rattle.crsm_base.specs.declared.datagram.InEpoch.TheVariants as payload
use Rattle.crsm_base.specs.declared.datagram.Datagram.{Datagram}
use Rattle.crsm_base.specs.declared.datagram.Datagram.TheVariants as datagram
use Rattle.crsm_base.specs.Limits.{part_bytes, most_parts, most_last_bytes}
use Rattle.crsm_base.specs.Spelling.{u8_bytes, u16_bytes, u32_bytes, u64_bytes, stamp_bytes, val_bytes, FitsVal, command_bytes, FitsCommand, entry_bytes, answer_bytes, FitsAnswer, outcome_bytes, FitsOutcome, members_bytes}
use Rattle.crsm_base.specs.Messages.{payload_bytes, FitsPayload, datagram_bytes, FitsDatagram, part_most}
use Rattle.crsm_port.specs.Meaning.{IsShort}
use Rattle.crsm_base.proofs.Sizes.{u64_long, entry_short}
use Rattle.crsm_base.proofs.MembersLemmas.{members_le}

u32_long : (n : ℕ) → length (u32_bytes n) ≡ 4
unfolding u32_bytes
u32_long n = refl'
  where
    refl' : length (u32_bytes n) ≡ 4
    refl' = omega arith

-- a command is a part of an entry
command_short : (c : Command) → FitsCommand c → length (command_bytes c) ≤ 1129
unfolding entry_bytes stamp_bytes
command_short c f =
    let e : Entry = record { epoch = 0; stamp = record { time = 0; origin = 0 }; command = c } in
    let whole = entry_short e (record { epoch = omega arith; stamp = record { time = omega arith; origin = omega arith }; command = f }) in
    omega (arith, whole, length-append (u64_bytes 0) ((u64_bytes 0 ++ u8_bytes 0) ++ command_bytes c), length-append (u64_bytes 0 ++ u8_bytes 0) (command_bytes c))

payload_short : (p : InEpoch) → FitsPayload p → length (payload_bytes p) ≤ 1130
unfolding payload_bytes stamp_bytes
payload_short (payload.Prepare e) f = let h = entry_short e f in omega (arith, h)
payload_short (payload.PrepareOk s at) f =
    omega (arith, u64_long at, u64_long s.time, length-append (u64_bytes s.time ++ u8_bytes s.origin) (u64_bytes at), length-append (u64_bytes s.time) (u8_bytes s.origin))
payload_short (payload.ClockTime at) f = omega (arith, u64_long at)

val_short : (v : List ℕ) → FitsVal v → length (val_bytes v) ≤ 514
unfolding val_bytes u16_bytes
val_short v f = let most = f.most in omega (arith, most)

answer_short : (a : Answer) → FitsAnswer a → length (answer_bytes a) ≤ 600
unfolding answer_bytes
answer_short (Found v) f = let h = val_short v f in omega (arith, h)
answer_short Missing f = omega arith
answer_short Done f = omega arith
answer_short (Differs None) f = omega arith
answer_short (Differs (Some v)) f = let h = val_short v f in omega (arith, h)
answer_short (Stale n) f = omega (arith, u64_long n)
answer_short NoRoom f = omega arith

outcome_short : (o : Outcome) → FitsOutcome o → length (outcome_bytes o) ≤ 601
unfolding outcome_bytes
outcome_short (Answered a) f = let h = answer_short a f in omega (arith, h)
outcome_short (Refused r) f = omega arith

part_short : (index count : ℕ) → part_most index count ≤ 8000
part_short index count = go (nat_lt (index + 1) count) (count == most_parts)
  where
    go : (b c : Bool) → cond b part_bytes (cond c most_last_bytes part_bytes) ≤ 8000
    go true c = omega arith
    go false true = omega arith
    go false false = omega arith

-- each datagram is short enough for each port
pub datagram_short : (d : Datagram) → FitsDatagram d → IsShort (datagram_bytes d)
unfolding datagram_bytes members_bytes
datagram_short (datagram.Frame from to epoch seq p) f =
    let h = payload_short p f.4 in
    omega (arith, h, u64_long epoch, u64_long seq, length-append (u64_bytes epoch) (u64_bytes seq ++ payload_bytes p), length-append (u64_bytes seq) (payload_bytes p))
datagram_short (datagram.Ack from to epoch next) f =
    omega (arith, u64_long epoch, u64_long next, length-append (u64_bytes epoch) (u64_bytes next))
datagram_short (datagram.Part from to boot number index count bytes) f =
    let h = f.7 in
    let g = part_short index count in
    omega (
      arith,
      h,
      g,
      u64_long boot,
      u64_long number,
      u32_long index,
      u32_long count,
      length-append (u64_bytes boot) (u64_bytes number ++ (u32_bytes index ++ (u32_bytes count ++ bytes))),
      length-append (u64_bytes number) (u32_bytes index ++ (u32_bytes count ++ bytes)),
      length-append (u32_bytes index) (u32_bytes count ++ bytes),
      length-append (u32_bytes count) bytes,
    )
datagram_short (datagram.Request c) f = let h = command_short c f in omega (arith, h)
datagram_short (datagram.Reply client number o) f =
    let h = outcome_short o f.2 in
    omega (arith, h, u64_long client, u64_long number, length-append (u64_bytes client) (u64_bytes number ++ outcome_bytes o), length-append (u64_bytes number) (outcome_bytes o))
datagram_short (datagram.Operate ms) f = let h = members_le ms f in omega (arith, h)
