-- The lengths of control messages.
use Rattle.std.proofs.Common.{◌≤◌, ℕ, ◌+◌, List, ◌∷◌, ◌++◌, length, Bool, true, false, arith}
use Rattle.std.specs.Prelude.{Option, Some, None}
use Rattle.std.proofs.lemmas.List.{length-append}
use Rattle.crsm_base.specs.declared.stamp.Stamp.{Stamp}
use Rattle.crsm_base.specs.declared.stamp.Ballot.{Ballot}
use Rattle.crsm_base.specs.declared.command.Entry.{Entry}
use Rattle.crsm_base.specs.declared.decision.Decision.{Decision}
use Rattle.crsm_base.specs.declared.control.Control.{Control}
use Rattle.crsm_base.specs.declared.control.Control.TheVariants as control
use Rattle.crsm_base.specs.Members.{IsMembers}
use Rattle.crsm_base.specs.Spelling.{u8_bytes, u32_bytes, u64_bytes, stamp_bytes, ballot_bytes, option_bytes, FitsOption, entries_bytes, FitsEntries, members_bytes, spec_bytes, decision_bytes, FitsDecision}
use Rattle.crsm_base.specs.Messages.{bool_bytes, vote_bytes, FitsVote, control_bytes, FitsControl}
use Rattle.crsm_base.proofs.MembersLemmas.{members_le}

-- bytes that are no more than this
abbrev UpTo : ℕ → List ℕ → Type 0
UpTo most bytes = length bytes ≤ most

both : (xs ys : List ℕ) {a b : ℕ} → UpTo a xs → UpTo b ys → UpTo (a + b) (xs ++ ys)
both xs ys h g = omega (arith, h, g, length-append xs ys)

tagged : (tag : ℕ) (xs : List ℕ) {a : ℕ} → UpTo a xs → UpTo (1 + a) (tag ∷ xs)
tagged tag xs h = omega (arith, h)

u8 : (n : ℕ) → UpTo 1 (u8_bytes n)
u8 n = omega arith

u64 : (n : ℕ) → UpTo 8 (u64_bytes n)
unfolding u64_bytes
u64 n = omega arith

stamp : (s : Stamp) → UpTo 9 (stamp_bytes s)
unfolding stamp_bytes
stamp s = both (u64_bytes s.time) (u8_bytes s.origin) (u64 s.time) (u8 s.origin)

ballot : (b : Ballot) → UpTo 9 (ballot_bytes b)
unfolding ballot_bytes
ballot b = both (u64_bytes b.round) (u8_bytes b.by) (u64 b.round) (u8 b.by)

bool : (b : Bool) → UpTo 1 (bool_bytes b)
bool true = omega arith
bool false = omega arith

option_stamp : (s : Option Stamp) → UpTo 10 (option_bytes stamp_bytes s)
option_stamp None = omega arith
option_stamp (Some s) = tagged (1) (stamp_bytes s) (stamp s)

entries : (es : List Entry) → FitsEntries es → UpTo 2097156 (entries_bytes es)
unfolding entries_bytes u32_bytes
entries es f = let size = f.size in omega (arith, size)

members : (ks : List ℕ) → IsMembers ks → UpTo 16 (members_bytes ks)
unfolding members_bytes
members ks f = let h = members_le ks f in omega (arith, h, length-append (u8_bytes (length ks)) ks)

spec : (s : Option (List ℕ)) → FitsOption IsMembers s → UpTo 16 (spec_bytes s)
unfolding spec_bytes
spec None f = omega arith
spec (Some ks) f = let h = members_le ks f in omega (arith, h, length-append (u8_bytes (128 + length ks)) ks)

decision : (d : Decision) → FitsDecision d → UpTo 2097204 (decision_bytes d)
unfolding decision_bytes
decision d f =
    let last = both (u64_bytes d.base_len) (entries_bytes d.tail) (u64 d.base_len) (entries d.tail f.tail) in
    let more = both (members_bytes d.members) (u64_bytes d.base_len ++ entries_bytes d.tail) (members d.members f.members) last in
    let most = both (spec_bytes d.spec) (members_bytes d.members ++ (u64_bytes d.base_len ++ entries_bytes d.tail)) (spec d.spec f.spec) more in
    both (u64_bytes d.epoch) (spec_bytes d.spec ++ (members_bytes d.members ++ (u64_bytes d.base_len ++ entries_bytes d.tail))) (u64 d.epoch) most

accepted : (v : Option (Ballot × Decision)) → FitsOption FitsVote v → UpTo 2097214 (option_bytes vote_bytes v)
accepted None f = omega arith
accepted (Some v) f = tagged (1) (vote_bytes v) (both (ballot_bytes v.0) (decision_bytes v.1) (ballot v.0) (decision v.1 f.1))

-- ---- control messages

pub some : (c : Control) → 1 ≤ length (control_bytes c)
unfolding control_bytes
some (control.Suspend epoch after) = omega arith
some (control.SuspendOk epoch executed last after whole es) = omega arith
some (control.P1a instance b) = omega arith
some (control.P1b instance b v) = omega arith
some (control.P1no instance b promised) = omega arith
some (control.P2a instance b d) = omega arith
some (control.P2b instance b) = omega arith
some (control.Decide d) = omega arith
some (control.Retrieve known from) = omega arith
some (control.Page known from es) = omega arith

pub few : (c : Control) → FitsControl c → length (control_bytes c) ≤ 2162688
unfolding control_bytes
few (control.Suspend epoch after) f =
    let h = both (u64_bytes epoch) (option_bytes stamp_bytes after) (u64 epoch) (option_stamp after) in omega (arith, h)
few (control.SuspendOk epoch executed last after whole es) f =
    let a = both (bool_bytes whole) (entries_bytes es) (bool whole) (entries es f.4) in
    let b = both (option_bytes stamp_bytes after) (bool_bytes whole ++ entries_bytes es) (option_stamp after) a in
    let d = both (option_bytes stamp_bytes last) (option_bytes stamp_bytes after ++ (bool_bytes whole ++ entries_bytes es)) (option_stamp last) b in
    let e = both (u64_bytes executed) (option_bytes stamp_bytes last ++ (option_bytes stamp_bytes after ++ (bool_bytes whole ++ entries_bytes es))) (u64 executed) d in
    let h = both (u64_bytes epoch) (u64_bytes executed ++ (option_bytes stamp_bytes last ++ (option_bytes stamp_bytes after ++ (bool_bytes whole ++ entries_bytes es)))) (u64 epoch) e in
    omega (arith, h)
few (control.P1a instance b) f = let h = both (u64_bytes instance) (ballot_bytes b) (u64 instance) (ballot b) in omega (arith, h)
few (control.P1b instance b v) f =
    let a = both (ballot_bytes b) (option_bytes vote_bytes v) (ballot b) (accepted v f.2) in
    let h = both (u64_bytes instance) (ballot_bytes b ++ option_bytes vote_bytes v) (u64 instance) a in omega (arith, h)
few (control.P1no instance b promised) f =
    let a = both (ballot_bytes b) (ballot_bytes promised) (ballot b) (ballot promised) in
    let h = both (u64_bytes instance) (ballot_bytes b ++ ballot_bytes promised) (u64 instance) a in omega (arith, h)
few (control.P2a instance b d) f =
    let a = both (ballot_bytes b) (decision_bytes d) (ballot b) (decision d f.2) in
    let h = both (u64_bytes instance) (ballot_bytes b ++ decision_bytes d) (u64 instance) a in omega (arith, h)
few (control.P2b instance b) f = let h = both (u64_bytes instance) (ballot_bytes b) (u64 instance) (ballot b) in omega (arith, h)
few (control.Decide d) f = let h = decision d f in omega (arith, h)
few (control.Retrieve known from) f = let h = both (u64_bytes known) (u64_bytes from) (u64 known) (u64 from) in omega (arith, h)
few (control.Page known from es) f =
    let a = both (u64_bytes from) (entries_bytes es) (u64 from) (entries es f.2) in
    let h = both (u64_bytes known) (u64_bytes from ++ entries_bytes es) (u64 known) a in omega (arith, h)
