-- What the sender's end of a link stands for.
use Rattle.std.specs.Prelude.{◌≡◌, ℕ, ◌+◌, ◌≤◌, List, length, drop, Some, slice_get}
use Rattle.std.specs.List.{enumerate_from}
use Rattle.crsm_base.specs.declared.InEpoch.{InEpoch}
use Rattle.crsm_link.specs.declared.outbound.Out.{Out}

-- the frames that are not acknowledged, with their numbers, where all below next have come
abbrev pub unacked : List InEpoch → ℕ → List (ℕ × InEpoch)
unacked pushed next = drop next (enumerate_from 0 pushed)

-- The frame has the number at which its payload was pushed.
abbrev pub IsFrameOf : List InEpoch → ℕ × InEpoch → Type 0
IsFrameOf pushed frame = slice_get pushed frame.0 ≡ Some frame.1

-- The sender's end stands for all payloads that were pushed, in order, and the greatest number that was acknowledged.
pub record OutStands (out : Out) (pushed : List InEpoch) (acked : ℕ) : Type 0 where
  pub frames : out.frames.items ≡ drop acked pushed
  pub first : out.first ≡ acked
  pub within : acked ≤ length pushed

-- how many payloads were pushed
abbrev pub pushed_count : Out → ℕ
pushed_count out = out.first + length out.frames.items

-- for the payloads that were pushed, and how many are acknowledged
abbrev pub WhereStands : Out → (List InEpoch → ℕ → Type 0) → Type 0
WhereStands out P = (pushed : List InEpoch) (acked : ℕ) → OutStands out pushed acked → P pushed acked
