-- The rules that decide a slot, by the tests of a state.
use Rattle.std.proofs.Common.{◌≡◌, ℕ, true, false, refl}
use Rattle.std.specs.Prelude.{Bool, not, nat_le, length}
use Rattle.std.proofs.lemmas.Bool.{and_parts}
use Rattle.crsm_spec.specs.Choice.{when◌then◌otherwise◌}
use Rattle.crsm_spec.specs.Paxos.{majority}
use Rattle.crsm_mpspec.specs.declared.rec.MpRec.{MpRec}
use Rattle.crsm_mpspec.specs.Types.{Ballot, Value}
use Rattle.crsm_mpspec.specs.Log.{is_chosen}
use Rattle.crsm_mpspec.specs.Draft.{Draft, count_vote, keep}
use Rattle.crsm_mpspec.specs.Deciding.{choose, choose_voted, is_voted, on_accd, take_vote}
use Rattle.crsm_mpspec.specs.Replica.{Note, Replica, voters_at, votes_of}
use Rattle.crsm_mpreplica.specs.Notes.{awaits_vote}

-- a vote in this ballot is taken where it is awaited
vote-taken : (from : ℕ) (b : Ballot) (slot : ℕ) (x : Draft) (note : Note) → take_vote from b slot note x ≡ (when awaits_vote b slot from x.replica note then choose_voted slot (count_vote slot from x) otherwise x)
unfolding take_vote awaits_vote when◌then◌otherwise◌
vote-taken from b slot x Note.Idle = refl
vote-taken from b slot x (Note.Asking a start reports) = refl
vote-taken from b slot x (Note.Leading a start next reports votes) = refl

pub accd-is : (from : ℕ) (b : Ballot) (slot : ℕ) (x : Draft) → on_accd from b slot x ≡ (when awaits_vote b slot from x.replica x.replica.note then choose_voted slot (count_vote slot from x) otherwise x)
unfolding on_accd
accd-is from b slot x = vote-taken from b slot x x.replica.note

-- ---- choosing

pub not_true : (b : Bool) → not b ≡ true → b ≡ false
not_true true e = absurd cc
not_true false e = refl

pub not_false : (b : Bool) → not b ≡ false → b ≡ true
not_false true e = refl
not_false false e = absurd cc

-- a slot that a majority voted at has no known value
pub voted-unknown : (slot : ℕ) (r : Replica) → is_voted slot r ≡ true → is_chosen slot r.log ≡ false
unfolding is_voted
voted-unknown slot r voted = not_true (is_chosen slot r.log) (and_parts (nat_le (majority r.n) (length (voters_at slot (votes_of r.note)))) (not (is_chosen slot r.log)) voted).1

pub choose-unknown : (slot : ℕ) (v : Value) (x : Draft) → is_chosen slot x.replica.log ≡ false → choose slot v x ≡ keep (MpRec.Choose slot v) x
unfolding choose when◌then◌otherwise◌
choose-unknown slot v x unknown = rw (unknown) refl
