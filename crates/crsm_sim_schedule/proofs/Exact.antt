-- Nothing of a schedule that can be run is refused, and nothing is refused for two causes: so the loop over lines
-- answers exactly.
use Rattle.std.proofs.Common.{◌≡◌, ℕ, ◌+◌, ◌≤◌, inl, inr, List, [], ◌∷◌, ◌++◌, Option, Some, None, map, length, refl, ap, sym, ◌∙◌, subst}
use Rattle.std.specs.List.{AllByRecursion}
use Rattle.crsm_port_lines.specs.Exact as loop
use Rattle.crsm_port_lines.specs.Exact.{Exact, Fits, MayEnd, reason_of}
use Rattle.crsm_port_lines.specs.Handling.{Handling}
use Rattle.crsm_port_lines.specs.Run as lines_run
use Rattle.crsm_port_lines.specs.State.{IsLine}
use Rattle.crsm_port_lines.specs.declared.LineRefusal.{LineRefusal}
use Rattle.crsm_port_lines.specs.declared.InputEnd.{InputEnd}
use Rattle.crsm_schedule.specs.Grammar.{FitsEvent, event_text, first_text}
use Rattle.crsm_schedule.specs.declared.Event.{Event}
use Rattle.crsm_sim_schedule.specs.Rules.{Rules, AreExact}
use Rattle.crsm_sim_schedule.specs.Schedules.{Schedule}
use Rattle.crsm_sim_schedule.specs.Causes.{cause_in}
use Rattle.crsm_sim_schedule.specs.Refused.{BeginsBad, CutLine, Refused, bad_line, cut_line, long_line}
use Rattle.crsm_sim_schedule.specs.Replayed.{IsRead, replayed}
use Rattle.crsm_sim_schedule.specs.Run.{IsRefused, WhereBad, WhereSchedule, WhereTooLong}
use Rattle.crsm_sim_schedule.specs.State.{IsGood, count_of, lines_read, shown_text}
use Rattle.crsm_sim_schedule.specs.declared.cause.Cause.{Cause}
use Rattle.crsm_sim_schedule.specs.declared.handling.Replaying.{Replaying}
use Rattle.crsm_sim_schedule.proofs.Lines.{TextLaws, count_lines, good_not_refused, long_unreadable, next_read, nil_not_cons, one_cause, read_is, same_read}

module _ {S : Type 0} (laws : TextLaws) (rules : Rules) (exactly : AreExact rules) (stands : S → Schedule → Type 0) where
  -- what is said of the loop over lines
  abbrev loops : Handling (Replaying S) Cause
  loops = replayed rules stands

  -- ---- lines

  -- lines of a schedule that can be run fit
  fits : (read : Option Schedule) → IsGood rules read → Fits loops (lines_read read)
  fits read good before more line shown cause is refused =
      good_not_refused laws rules exactly refused.read cause line
      (next_read laws rules exactly read refused.read line more good refused.is.good (is ∙ ap (λ (ls : List (List ℕ)). ls ++ line ∷ more) refused.is.lines_are)) refused.refused

  -- behind its first line the input may end
  may_end : (s : Schedule) → MayEnd loops (lines_read (Some s))
  may_end s shown cause refused = nil_not_cons (first_text s.replicas) (map event_text s.events) (sym refused.lines_are)

  pub exact : Exact loops
  exact = record {
    unreadable = Cause.Unreadable;
    handled = λ r lines shown after. subst (Fits loops) (sym after.is.lines_are) (fits after.read after.is.good);
    ended = λ lines shown last ends. subst (MayEnd loops) (sym ends.is.lines_are) (may_end ends.schedule);
    one_reason = λ lines shown other line c d p q.
        let same = same_read laws rules exactly p.read q.read p.is.good q.is.good (sym p.is.lines_are ∙ q.is.lines_are) in
        one_cause laws rules exactly q.read c d line (subst (λ (r : Option Schedule). Refused rules r c line) same p.refused) q.refused;
    long_reason = λ lines shown line cause p long. long_unreadable laws rules exactly p.read cause line p.refused long;
    one_end = λ lines shown other c d p q. p.unreadable ∙ sym q.unreadable;
  }

  events_are_lines : (es : List Event) → AllByRecursion FitsEvent es → AllByRecursion IsLine (map event_text es)
  events_are_lines [] fit = tt
  events_are_lines (e ∷ es) fit =
      let p = laws.event_lines e fit.0 in (record { lacks = p.0; short = p.1 }, events_are_lines es fit.1)

  are_lines : (read : Option Schedule) → IsGood rules read → AllByRecursion IsLine (lines_read read)
  are_lines None good = tt
  are_lines (Some s) good =
      let fits = exactly.fits s good in
      let p = laws.first_lines s.replicas fits.size in
      (record { lacks = p.0; short = p.1 }, events_are_lines s.events fits.fit)

  -- ---- bad lines

  -- what begins badly does so for the loop over lines
  record ForLoop (read : Option Schedule) (left : Option (List ℕ)) (cause : Cause) (text : List ℕ) : Type 0 where
    why : LineRefusal Cause
    told : reason_of loops exact why ≡ cause
    bad : lines_run.BeginsBad loops (lines_read read) (shown_text rules read) left why text

  is_read : (read : Option Schedule) → IsGood rules read → IsRead rules read (lines_read read) (shown_text rules read)
  is_read read good = record { good = good; lines_are = refl; shown_is = refl }

  cut_for_loop : (read : Option Schedule) (left : Option (List ℕ)) (cause : Cause) (text : List ℕ) → cause ≡ Cause.Unreadable → CutLine read left text → ForLoop read left cause text
  unfolding exact
  cut_for_loop None left cause [] is b = record {
    why = LineRefusal.Refused Cause.Unreadable;
    told = sym is;
    bad = lines_run.bad_end Cause.Unreadable refl (record { none = refl; ended = b.ended; refused = record { lines_are = refl; shown_is = refl; unreadable = refl } });
  }
  cut_for_loop None left cause (t ∷ text) is b = record {
    why = LineRefusal.Cut;
    told = sym is;
    bad = lines_run.cut_line refl (record { lacks = b.lacks; some = λ e. (cc); ended = b.ended });
  }
  cut_for_loop (Some s) left cause text is b = record {
    why = LineRefusal.Cut;
    told = sym is;
    bad = lines_run.cut_line refl (record { lacks = b.lacks; some = b.cut; ended = b.ended });
  }

  for_loop : (read : Option Schedule) (left : Option (List ℕ)) (cause : Cause) (text : List ℕ) → IsGood rules read → BeginsBad rules read left cause text → ForLoop read left cause text
  unfolding exact
  for_loop read left cause text good (bad_line b) = record {
    why = LineRefusal.Refused cause;
    told = refl;
    bad = lines_run.bad_line cause refl (record {
      line = b.line;
      rest = b.rest;
      text_is = b.text_is;
      lacks = b.lacks;
      refused = record { read = read; is = is_read read good; refused = b.refused };
    });
  }
  for_loop read left cause text good (long_line is b) = record {
    why = LineRefusal.TooLong;
    told = sym is;
    bad = lines_run.long_line refl b;
  }
  for_loop read left cause text good (cut_line is b) = cut_for_loop read left cause text is b

  cause_is : (bad : LineRefusal Cause) → reason_of loops exact bad ≡ cause_in bad
  unfolding exact
  cause_is (LineRefusal.Refused cause) = refl
  cause_is LineRefusal.TooLong = refl
  cause_is LineRefusal.Cut = refl

  -- ---- by what the loop over lines answers

  module _ (result : InputEnd Cause) (left : Option (List ℕ)) where
    pub completed : (P : Type 0) → loop.WhereWhole loops exact left P → WhereSchedule rules left (λ s. P)
    completed P loop_says = λ s good is within.
        let text = read_is (Some s) in
        loop_says (lines_read (Some s)) (fits (Some s) good) (may_end s) (are_lines (Some s) good) (is ∙ ap (λ (t : List ℕ). Some t) text)
        (subst (λ (t : List ℕ). length t ≤ 1073741824) text within)

    told_so : (line : ℕ) (why cause : Cause) → why ≡ cause → loop.IsRefused loops exact line why result → IsRefused line cause result
    told_so line why cause same (inl named) = inl (record { why = named.bad; told = sym (cause_is named.bad) ∙ named.told ∙ same; is = named.is })
    told_so line why cause same (inr none) = inr none

    pub refused : (Q : Type 0 → Type 0) → ((A B : Type 0) → (A → B) → Q A → Q B)
        → loop.WhereBad loops exact left (λ line why. Q (loop.IsRefused loops exact line why result)) → WhereBad rules left (λ read cause. Q (IsRefused (count_of read + 1) cause result))
    refused Q maps loop_says = λ read text more cause good is bad within.
        let whole = read_is read in
        let b = for_loop read (Some more) cause text good bad in
        let line_is : length (lines_read read) + 1 ≡ count_of read + 1 = ap (λ (k : ℕ). k + 1) (sym (count_lines read)) in
        subst (λ (line : ℕ). Q (IsRefused line cause result)) line_is
        (maps (loop.IsRefused loops exact (length (lines_read read) + 1) (reason_of loops exact b.why) result) (IsRefused (length (lines_read read) + 1) cause result)
        (told_so (length (lines_read read) + 1) (reason_of loops exact b.why) cause b.told)
        (loop_says (lines_read read) (shown_text rules read) text more b.why (fits read good) (are_lines read good) (is ∙ ap (λ (t : List ℕ). Some (t ++ (text ++ more))) whole) b.bad
        (subst (λ (t : List ℕ). length (t ++ text) ≤ 1073741824) whole within)))

    pub too_long : (P : Type 0) → loop.WhereTooLong loops exact left P → WhereTooLong rules left P
    too_long P loop_says = λ read rest more good lacks short long some is.
        let whole = read_is read in
        loop_says (lines_read read) rest more (fits read good) (are_lines read good) (record { lacks = lacks; short = short })
        (ap (λ (t : List ℕ). length (t ++ rest)) (sym whole) ∙ long) some (is ∙ ap (λ (t : List ℕ). Some (t ++ (rest ++ more))) whole)
