-- Parts of the rules that decide a slot, as functions of the core have them.
use Rattle.std.specs.Prelude.{ℕ}
use Rattle.crsm_spec.specs.Choice.{when◌then◌otherwise◌}
use Rattle.crsm_mpspec.specs.declared.message.MpMessage.{MpMessage}
use Rattle.crsm_mpspec.specs.declared.rec.MpRec.{MpRec}
use Rattle.crsm_mpspec.specs.Types.{Ballot, Value}
use Rattle.crsm_mpspec.specs.Draft.{Draft, count_vote, keep, send_to_others}
use Rattle.crsm_mpspec.specs.Deciding.{choose_voted, has_accepted}

-- counts the leader's own vote, and asks the others to accept
unfoldable pub ask_to_accept : Ballot → ℕ → Value → Draft → Draft
ask_to_accept b slot v x = choose_voted slot (send_to_others (MpMessage.Acc b slot v) (count_vote slot x.replica.me x))

-- accepts, unless the replica has accepted in this ballot before
unfoldable pub accept_once : Ballot → ℕ → Value → Draft → Draft
accept_once b slot v x = when has_accepted b slot x.replica.log then x otherwise keep (MpRec.Accept slot b v) x
