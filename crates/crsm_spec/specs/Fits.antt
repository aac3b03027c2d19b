-- Which record may follow which in a log.
use Rattle.std.specs.Prelude.{ℕ, ◌+◌, Bool, true, false, ◌==◌, ◌&&◌, ◌||◌, not, nat_lt, nat_le, List, [], ◌∷◌, length, Some}
use Rattle.std.specs.Option.{option_map_or}
use Rattle.std.specs.List.{list_all}
use Rattle.crsm_spec.specs.Types.{Entry, Rec}
use Rattle.crsm_base.specs.Order.{stamp_eq, ballot_lt, entry_lt}
use Rattle.crsm_spec.specs.Lists.{has, first_of, last_of}
unfoldable pub use Rattle.crsm_base.specs.Replicas.{can_be_members}
use Rattle.crsm_spec.specs.Quorum.{spec_decided}
use Rattle.crsm_spec.specs.Clock.{u64_max}
use Rattle.crsm_spec.specs.Log.{Log, known, start, members, spec, logged, executed, unexecuted, boots, has_entered, live, suspended, active, promised, accepted}

-- whether the log has the record of a boot
unfoldable pub booted : Log → Bool
booted log = nat_lt 0 (boots log)

-- whether each logged entry of the same origin has a smaller time
unfoldable pub is_newest : Entry → List Entry → Bool
is_newest e es = list_all (λ f. not (f.stamp.origin == e.stamp.origin) || nat_lt f.stamp.time e.stamp.time) es

-- whether the entries extend the executed ones, in order
unfoldable pub goes_on : List Entry → List Entry → Bool
goes_on done [] = false
goes_on done (e ∷ es) = option_map_or (λ f. entry_lt f e) (last_of done) true

-- Whether a record may be appended to the log of replica me of n.
unfoldable pub fits : ℕ → ℕ → Log → Rec → Bool
fits me n log (Rec.Boot m k) = (m == me && k == n) && nat_lt (boots log) u64_max
fits me n log (Rec.Prepare e) =
    ((active log && e.epoch == known log) && has (members n log) e.stamp.origin) && is_newest e (logged log)
fits me n log (Rec.Commit s) =
    active log && option_map_or (λ e. stamp_eq e.stamp s) (first_of (unexecuted log)) false
fits me n log (Rec.Adopt place es) =
    (((booted log && place == length (executed log)) && list_all (λ e. nat_le e.epoch (known log)) es)
    && goes_on (executed log) es) && (not (live log) || suspended log)
fits me n log (Rec.Suspend x) = (booted log && x == known log) && not (suspended log)
fits me n log (Rec.Promise i b) = (booted log && i == known log + 1) && ballot_lt (promised log) b
fits me n log (Rec.Accept i b d) =
    ((((booted log && i == known log + 1) && d.epoch == known log + 1) && not (ballot_lt b (promised log)))
    && option_map_or (λ a. ballot_lt a.0 b) (accepted log) true)
    && nat_le d.base_len (length (executed log))
fits me n log (Rec.Decide d) =
    (booted log && nat_lt (known log) d.epoch) && can_be_members (spec_decided n (Some d)) d.members
fits me n log (Rec.Enter x) =
    (((booted log && x == known log) && has (members n log) me) && length (executed log) == start log)
    && not (has_entered x log)
