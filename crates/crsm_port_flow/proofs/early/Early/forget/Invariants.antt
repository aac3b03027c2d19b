use Rattle.std.proofs.Common.{◌≡◌, ◌<◌, ℕ}
use Rattle.crsm_port_flow.specs.Early.{IsFrameBelow, KeepsSome, LosesBelow, kept_at}
use Rattle.crsm_port_flow.proofs.early.Early.forget.Given as goal

abbrev pub invariant-loop-number : goal.invariant-loop-number
invariant-loop-number l = record {
  only : KeepsSome l.initial.self.frames.items l.self.frames.items;
  links : l.self.links ≡ l.initial.self.links;
  lost : LosesBelow l.of l.least l.initial.self.frames.items l.self.frames.items;
  gone : (k : ℕ) → k < l.number → IsFrameBelow l.of l.least (kept_at l.of k l.self.frames.items) → ⊥;
}
