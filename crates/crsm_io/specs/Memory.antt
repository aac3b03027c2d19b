-- The states of a source and of a sink in memory.
use Rattle.std.specs.Prelude.{ℕ, ◌+◌, List}
use Rattle.crsm_port_faults.specs.Counts.{raised}
use Rattle.crsm_port_faults.specs.Failing.{Failing, IsListed}

-- the bytes still to be read, the calls made with those that fail, and the number of faults
pub record Playback : Type 0 where
  pub left : List ℕ
  pub failing : Failing
  pub faults : ℕ

-- the bytes written, the room for more, the calls made with those that fail, and the number of faults
pub record Recording : Type 0 where
  pub written : List ℕ
  pub room : ℕ
  pub failing : Failing
  pub faults : ℕ

-- the next call is one of those that fail
abbrev pub NextIsListed : Failing → Type 0
NextIsListed failing = IsListed failing.listed (failing.calls + 1)

-- the same after one more call
abbrev pub one_later : Failing → Failing
one_later failing = record failing { calls = raised failing.calls }
