-- What a world answers, as the rules of the store have it.
use Rattle.std.specs.Option.{option_map}
use Rattle.std.proofs.Common.{◌≡◌, ◌≢◌, ℕ, ◌+◌, List, ◌++◌, Option, Some, None, refl, ap, sym, ◌∙◌, subst}
use Rattle.crsm_mpspec.specs.declared.MpLine.{MpLine}
use Rattle.crsm_schedule.specs.declared.Event.{Event}
use Rattle.crsm_schedule.specs.Grammar.{IsSize, FitsEvent}
use Rattle.crsm_sim_schedule.specs.Rules.{Begins, Happens}
use Rattle.crsm_sim_schedule.specs.Schedules as read
use Rattle.crsm_sim_schedule.specs.declared.Cause.{Cause}
use Rattle.crsm_mpspec.specs.Moments.{act}
use Rattle.crsm_mpspec.specs.Possible.{Cause as WhyNot, possible}
use Rattle.crsm_mpspec.specs.World.{World, begin, first_lines, finals}
use Rattle.crsm_mpspec.specs.declared.MpBad.{MpBad}
use Rattle.crsm_mpworld.specs.declared.MpWorld.{MpWorld as Held}
use Rattle.crsm_mpworld.specs.Doing.{act_of, cause_of}
use Rattle.crsm_mpworld.specs.Schedule.{IsSchedule, line_count, last_world}
use Rattle.crsm_mpworld.specs.World.{MpWorldStands}
use Rattle.crsm_mpreplay.proofs.Schedules.{no_events, with_event, last_world-none, transcript-none, schedule-none, last_world-push, transcript-push, schedule-push}
use Rattle.crsm_mpreplay.specs.Causes.{cause_told}
use Rattle.crsm_mpreplay.specs.Transcript.{lines_text, finals_text, transcript}
use Rattle.crsm_mpreplay.specs.Rules.{IsImpossible, LeadsTo, leader_rules, of_leader}
use Rattle.crsm_mpreplay.proofs.Exact.{none_not_some, same}

pub begins : (held : Held) (lines : List MpLine) (n : ℕ) (before after : List ℕ) → IsSize n → MpWorldStands held (begin n) → lines ≡ first_lines n → after ≡ before ++ lines_text 1 lines
    → Begins leader_rules (LeadsTo held) n before after
unfolding no_events
begins held lines n before after size here told added = record {
  can_run = schedule-none n size;
  stands = subst (λ c. MpWorldStands held c) (sym (last_world-none n)) here;
  added = added ∙ ap (λ ls. before ++ lines_text 1 ls) told ∙ ap (λ t. before ++ t) (sym (transcript-none n));
}

-- the number of the line of the next event
same_number : (s : read.Schedule) (at : ℕ) → at ≡ read.line_count s + 1 → at ≡ line_count (of_leader s) + 1
unfolding read.line_count line_count
same_number s at is = is

pub happens : (held : Held) (lines : List MpLine) (s : read.Schedule) (e : Event) (at : ℕ) (before after : List ℕ) → FitsEvent e → at ≡ read.line_count s + 1 → IsSchedule (of_leader s)
    → possible (last_world (of_leader s)) (act_of e) ≡ None → MpWorldStands held (act (last_world (of_leader s)) (act_of e)).after → lines ≡ (act (last_world (of_leader s)) (act_of e)).lines
    → after ≡ before ++ lines_text at lines → Happens leader_rules (LeadsTo held) s e before after
unfolding with_event
happens held lines s e at before after fits number good here stands told added = record {
  can_run = schedule-push (of_leader s) e good (record { fits = fits; possible_here = here });
  stands = subst (λ c. MpWorldStands held c) (sym (last_world-push (of_leader s) e)) stands;
  more = lines_text at lines;
  shown = transcript-push at (of_leader s) e (same_number s at number) ∙ ap (λ ls. transcript (of_leader s) ++ lines_text at ls) (sym told);
  added = added;
}

-- the refusal that a cause names
record Named (o : Option WhyNot) (cause : Cause) : Type 0 where
  bad : WhyNot
  is : o ≡ Some bad
  named : cause_told bad ≡ cause

named_by : (o : Option WhyNot) (cause : Cause) → option_map cause_told o ≡ Some cause → Named o cause
named_by None cause e = absurd (none_not_some cause e)
named_by (Some bad) cause e = record { bad = bad; is = refl; named = same (cause_told bad) cause e }

not_memory : (bad : MpBad) (cause : Cause) → option_map cause_told (cause_of bad) ≡ Some cause → bad ≢ MpBad.NoMemory
unfolding cause_of
not_memory bad cause named is = none_not_some cause (ap (λ b. option_map cause_told (cause_of b)) (sym is) ∙ named)

pub is_impossible : (w : World) (e : Event) (bad : MpBad) (cause : Cause) → (bad ≢ MpBad.NoMemory → possible w (act_of e) ≡ cause_of bad) → option_map cause_told (cause_of bad) ≡ Some cause
    → IsImpossible w e cause
is_impossible w e bad cause told named =
    let why = named_by (cause_of bad) cause named in
    record { why = why.bad; is = told (not_memory bad cause named) ∙ why.is; named = why.named }

pub ends : (s : read.Schedule) (lines : List MpLine) → lines ≡ finals (last_world (of_leader s)) → lines_text 0 lines ≡ finals_text (of_leader s)
unfolding finals_text
ends s lines is = ap (λ ls. lines_text 0 ls) is
