-- The next input that a node wants, by its times and its log. Readings are in microseconds.
use Rattle.std.specs.Prelude.{◌≡◌, ℕ, ◌+◌, Bool, true, false, ◌==◌, ◌&&◌, ◌||◌, not, nat_lt, nat_le, if◌then◌else◌, List, length, filter, Option, None, Some}
use Rattle.std.specs.List.{list_all}
use Rattle.crsm_spec.specs.Log.{Log, spec, members, live, active}
use Rattle.crsm_spec.specs.Paxos.{majority}
use Rattle.crsm_spec.specs.Lists.{has}
use Rattle.crsm_replica_io.specs.declared.input.WantedInput.{WantedInput}
use Rattle.crsm_replica_io.specs.declared.input.WantedInput.TheVariants as what
use Rattle.crsm_replica_detector.specs.Watching.{Times, Watch}

-- 10 ms after the last tick
unfoldable pub tick_is_due : Times → Bool
tick_is_due t = nat_le (t.ticked + 10000) t.newest

-- I am wanted, and each replica that was heard less than 5 s ago
unfoldable pub is_wanted : ℕ → Times → ℕ → Bool
is_wanted me t k = k == me || nat_lt t.newest (t.heard k + 5000000)

-- the wanted replicas of the known epoch's Spec
unfoldable pub wanted : ℕ → ℕ → Times → Log → List ℕ
wanted me n t log = filter (is_wanted me t) (spec n log)

-- Whether the known epoch should end, where these are wanted: I take no part in it, or some member is not wanted.
unfoldable pub should_end : ℕ → Log → List ℕ → Bool
should_end n log ms = not (active log) || not (list_all (has ms) (members n log))

-- Whether it is up to me to say so: I am the least that is wanted, or have not entered the epoch.
unfoldable pub is_up_to : ℕ → Log → List ℕ → Bool
is_up_to me log ms = not (live log) || list_all (nat_le me) ms

-- Whether these should be the next members: they are a majority of the Spec, and it is up to me to say that the known
-- epoch should end.
unfoldable pub should_be_members : ℕ → ℕ → Log → List ℕ → Bool
should_be_members me n log ms = nat_le (majority (length (spec n log))) (length ms) && should_end n log ms && is_up_to me log ms

-- Whether I may suspect others: I am of the Spec, and 5 s have passed since I last did.
unfoldable pub may_suspect : ℕ → List ℕ → Times → Bool
may_suspect me spec t = has spec me && nat_le (t.suspected + 5000000) t.newest

-- whether I suspect all that are not wanted, where these are
unfoldable pub suspects : ℕ → ℕ → Times → Log → List ℕ → Bool
suspects me n t log ms = may_suspect me (spec n log) t && should_be_members me n log ms

-- the replicas that are wanted, where I suspect all others
abbrev pub Suspects : ℕ → ℕ → Times → Log → Option (List ℕ) → Type 0
Suspects me n t log None = suspects me n t log (wanted me n t log) ≡ false
Suspects me n t log (Some ms) = (suspects me n t log ms ≡ true) × (ms ≡ wanted me n t log)

-- the next input of replica me, in a cluster that began with n, at these times and with this log
unfoldable pub wish_at : ℕ → ℕ → Times → Log → WantedInput
wish_at me n t log =
    let ms = wanted me n t log in
    if tick_is_due t then what.Tick else if suspects me n t log ms then what.Suspect ms else what.Receive

-- the same of any node; one without a reading receives
unfoldable pub wish : ℕ → ℕ → Watch → Log → WantedInput
wish me n None log = what.Receive
wish me n (Some t) log = wish_at me n t log
