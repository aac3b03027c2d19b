-- What a world answers, as the rules of a cluster have it.
use Rattle.std.specs.Option.{option_map}
use Rattle.std.proofs.Common.{◌≡◌, ◌≢◌, ℕ, ◌+◌, List, [], ◌∷◌, ◌++◌, Option, Some, None, refl, ap, sym, ◌∙◌, subst}
use Rattle.crsm_base.specs.declared.Line.{Line}
use Rattle.crsm_schedule.specs.declared.Event.{Event}
use Rattle.crsm_schedule.specs.Grammar.{IsSize, FitsEvent}
use Rattle.crsm_schedule.specs.Transcript.{lines_text}
use Rattle.crsm_sim_schedule.specs.Rules.{Begins, Happens}
use Rattle.crsm_sim_schedule.specs.Schedules as read
use Rattle.crsm_sim_schedule.specs.declared.Cause.{Cause}
use Rattle.crsm_spec.specs.Acts.{Bad as WhyNot}
use Rattle.crsm_spec.specs.Moments.{act}
use Rattle.crsm_spec.specs.Possible.{possible}
use Rattle.crsm_spec.specs.World.{World, begin, first_lines, finals}
use Rattle.crsm_world.specs.declared.Bad.{Bad}
use Rattle.crsm_world.specs.declared.World.{World as Held}
use Rattle.crsm_world.specs.Doing.{act_of, bad_of}
use Rattle.crsm_world.specs.Schedule.{Schedule, IsSchedule, no_events, with_event, line_count, last_world, finals_text, transcript}
use Rattle.crsm_world.specs.World.{WorldStands}
use Rattle.crsm_world.proofs.Schedules.{last_world-none, transcript-none, schedule-none, last_world-push, transcript-push, schedule-push}
use Rattle.crsm_cmd_replay.specs.Causes.{cause_of}
use Rattle.crsm_cmd_replay.specs.Rules.{IsImpossible, LeadsTo, cluster_rules, of_cluster}
use Rattle.crsm_cmd_replay.proofs.Exact.{none_not_some, same}

pub begins : (held : Held) (lines : List Line) (n : ℕ) (before after : List ℕ) → IsSize n → WorldStands held (begin n) → lines ≡ first_lines n → after ≡ before ++ lines_text 1 lines
    → Begins cluster_rules (LeadsTo held) n before after
unfolding no_events
begins held lines n before after size here told added = record {
  can_run = schedule-none n size;
  stands = subst (λ c. WorldStands held c) (sym (last_world-none n)) here;
  added = added ∙ ap (λ ls. before ++ lines_text 1 ls) told ∙ ap (λ t. before ++ t) (sym (transcript-none n));
}

-- the number of the line of the next event
same_number : (s : read.Schedule) (at : ℕ) → at ≡ read.line_count s + 1 → at ≡ line_count (of_cluster s) + 1
unfolding read.line_count line_count
same_number s at is = is

pub happens : (held : Held) (lines : List Line) (s : read.Schedule) (e : Event) (at : ℕ) (before after : List ℕ) → FitsEvent e → at ≡ read.line_count s + 1 → IsSchedule (of_cluster s)
    → possible (last_world (of_cluster s)) (act_of e) ≡ None → WorldStands held (act (last_world (of_cluster s)) (act_of e)).after → lines ≡ (act (last_world (of_cluster s)) (act_of e)).lines
    → after ≡ before ++ lines_text at lines → Happens cluster_rules (LeadsTo held) s e before after
unfolding with_event
happens held lines s e at before after fits number good here stands told added = record {
  can_run = schedule-push (of_cluster s) e good (record { fits = fits; possible_here = here });
  stands = subst (λ c. WorldStands held c) (sym (last_world-push (of_cluster s) e)) stands;
  more = lines_text at lines;
  shown = transcript-push at (of_cluster s) e (same_number s at number) ∙ ap (λ ls. transcript (of_cluster s) ++ lines_text at ls) (sym told);
  added = added;
}

-- the refusal that a cause names
record Named (o : Option WhyNot) (cause : Cause) : Type 0 where
  bad : WhyNot
  is : o ≡ Some bad
  named : cause_of bad ≡ cause

named_by : (o : Option WhyNot) (cause : Cause) → option_map cause_of o ≡ Some cause → Named o cause
named_by None cause e = absurd (none_not_some cause e)
named_by (Some bad) cause e = record { bad = bad; is = refl; named = same (cause_of bad) cause e }

not_memory : (bad : Bad) (cause : Cause) → option_map cause_of (bad_of bad) ≡ Some cause → bad ≢ Bad.NoMemory
unfolding bad_of
not_memory bad cause named is = none_not_some cause (ap (λ b. option_map cause_of (bad_of b)) (sym is) ∙ named)

pub is_impossible : (w : World) (e : Event) (bad : Bad) (cause : Cause) → (bad ≢ Bad.NoMemory → possible w (act_of e) ≡ bad_of bad) → option_map cause_of (bad_of bad) ≡ Some cause
    → IsImpossible w e cause
is_impossible w e bad cause told named =
    let why = named_by (bad_of bad) cause named in
    record { bad = why.bad; is = told (not_memory bad cause named) ∙ why.is; named = why.named }

pub ends : (s : read.Schedule) (lines : List Line) → lines ≡ finals (last_world (of_cluster s)) → lines_text 0 lines ≡ finals_text (of_cluster s)
unfolding finals_text
ends s lines is = ap (λ ls. lines_text 0 ls) is
