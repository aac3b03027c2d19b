-- What is read with one more line.
use Rattle.std.proofs.Common.{◌≡◌, ℕ, ◌+◌, List, [], ◌∷◌, ◌++◌, Option, Some, None, Result, Ok, Err, OnOk, length, refl, ap, sym, ◌∙◌, subst}
use Rattle.crsm_port_lines.specs.Handling.{Handles}
use Rattle.crsm_port_lines.specs.declared.Stop.{Stop}
use Rattle.crsm_sim_schedule.specs.Handled.{AdvancesTo}
use Rattle.crsm_sim_schedule.specs.Replayed.{IsRead, ReplayedSo, replayed}
use Rattle.crsm_sim_schedule.specs.Rules.{Rules}
use Rattle.crsm_sim_schedule.specs.Schedules.{Schedule}
use Rattle.crsm_sim_schedule.specs.State.{IsGood, StandsAt, count_of}
use Rattle.crsm_sim_schedule.specs.declared.cause.Cause.{Cause}
use Rattle.crsm_sim_schedule.specs.declared.handling.Replaying.{Replaying}
use Rattle.crsm_sim_schedule.proofs.Lines.{count_lines}

module _ {S : Type 0} (rules : Rules) (stands : S → Schedule → Type 0) where
  -- a line that was handled
  handles_by : (new : Option S) (at : ℕ) (line before after : List ℕ) (read : Option Schedule) (lines : List (List ℕ)) (shown : List ℕ) (r : Replaying S) → r.simulation ≡ new
      → AdvancesTo rules stands new read line before after → IsRead rules read lines shown → Handles (replayed rules stands) r lines shown line before after
  handles_by None at line before after read lines shown r holds goes is = absurd goes
  handles_by (Some held) at line before after read lines shown r holds goes is = record {
    more = goes.more;
    added = goes.added;
    now = record {
      read = Some goes.next;
      is = record {
        good = goes.can_run;
        lines_are = ap (λ (ls : List (List ℕ)). ls ++ line ∷ []) is.lines_are ∙ sym goes.lines_are;
        shown_is = ap (λ (t : List ℕ). t ++ goes.more) is.shown_is ∙ sym goes.shown;
      };
      here = subst (λ h. StandsAt stands h (Some goes.next)) (sym holds) goes.stands;
    };
  }

  handles : (r : Replaying S) (at : ℕ) (line before after : List ℕ) (old : Option S) (lines : List (List ℕ)) (shown : List ℕ)
      → ((read : Option Schedule) → at ≡ count_of read + 1 → IsGood rules read → StandsAt stands old read → AdvancesTo rules stands r.simulation read line before after)
      → at ≡ length lines + 1 → ReplayedSo rules stands old lines shown → Handles (replayed rules stands) r lines shown line before after
  handles r at line before after old lines shown goes number so =
      let count : at ≡ count_of so.read + 1 = number ∙ ap (λ (ls : List (List ℕ)). length ls + 1) so.is.lines_are ∙ ap (λ n. n + 1) (sym (count_lines so.read)) in
      handles_by r.simulation at line before after so.read lines shown r refl (goes so.read count so.is.good so.here) so.is

  -- the same of a result that may be an error
  pub handles_if : (result : Result (Unit {0}) (Stop Cause)) (r : Replaying S) (at : ℕ) (line before after : List ℕ) (old : Option S) (lines : List (List ℕ)) (shown : List ℕ)
      → ((read : Option Schedule) → at ≡ count_of read + 1 → IsGood rules read → StandsAt stands old read → OnOk result (AdvancesTo rules stands r.simulation read line before after))
      → at ≡ length lines + 1 → ReplayedSo rules stands old lines shown → OnOk result (Handles (replayed rules stands) r lines shown line before after)
  handles_if (Ok x) r at line before after old lines shown says number so = handles r at line before after old lines shown says number so
  handles_if (Err e) r at line before after old lines shown says number so = tt
