-- The effect of the loop over lines is that of a replay.
use Rattle.std.proofs.Common.{◌≡◌, ℕ, ◌+◌, ◌≤◌, List, [], ◌∷◌, ◌++◌, Option, Some, None, length, refl, ap, sym, ◌∙◌, subst}
use Rattle.crsm_io.specs.Streams.{Takes, Puts, PutsPrefix, AtEnd}
use Rattle.crsm_text.specs.Words.{Lacks}
use Rattle.crsm_port_lines.specs.Handling.{Begins, Handling}
use Rattle.crsm_port_lines.specs.Run as loop
use Rattle.crsm_port_lines.specs.Run.{Ran as LoopRan}
use Rattle.crsm_port_lines.specs.State.{Reached, read_text as text_of_lines}
use Rattle.crsm_port_lines.specs.declared.LineRefusal.{LineRefusal}
use Rattle.crsm_port_lines.specs.declared.InputEnd.{InputEnd}
use Rattle.crsm_sim_schedule.specs.Rules.{Rules}
use Rattle.crsm_sim_schedule.specs.Schedules.{Schedule}
use Rattle.crsm_sim_schedule.specs.Causes.{cause_in}
use Rattle.crsm_sim_schedule.specs.Refused.{BeginsBad, CutShort, bad_line, cut_line, long_line}
use Rattle.crsm_sim_schedule.specs.Replayed.{IsRead, replayed}
use Rattle.crsm_sim_schedule.specs.Run.{Ran, RanPartly, RanSoFar, RanToBad, RanToEnd, RanTooLong, of_all, of_transcript}
use Rattle.crsm_sim_schedule.specs.State.{StandsAt, read_text, shown_text}
use Rattle.crsm_sim_schedule.specs.declared.handling.Replaying.{Replaying}
use Rattle.crsm_sim_schedule.specs.declared.cause.Cause.{Cause}
use Rattle.crsm_sim_schedule.proofs.Lines.{count_lines, read_is}

module _ {S : Type 0} (rules : Rules) (stands : S → Schedule → Type 0) where
  -- what is said of the loop over lines
  abbrev loops : Handling (Replaying S) Cause
  loops = replayed rules stands

  -- nothing has been read
  pub begins : (r : Replaying S) → r.simulation ≡ None → Begins loops r
  begins r none = record { read = None; is = record { good = tt; lines_are = refl; shown_is = refl }; here = subst (λ h. StandsAt stands h None) (sym none) tt }

  module _ (lines : List (List ℕ)) (shown : List ℕ) (read : Option Schedule) (is : IsRead rules read lines shown) where
    text_is : text_of_lines lines ≡ read_text read
    text_is = ap text_of_lines is.lines_are ∙ sym (read_is read)

    takes_so : (b a : Option (List ℕ)) (rest : List ℕ) → Takes b a (text_of_lines lines ++ rest) → Takes b a (read_text read ++ rest)
    takes_so b a rest t = subst (λ (x : List ℕ). Takes b a (x ++ rest)) text_is t

    puts_so : (d w : Option (List ℕ)) → Puts d w shown → Puts d w (shown_text rules read)
    puts_so d w p = subst (λ (x : List ℕ). Puts d w x) is.shown_is p

    bad_so : (b a d w : Option (List ℕ)) (line : ℕ) (cause : Cause) (rest : List ℕ) → line ≡ length lines + 1 → length (text_of_lines lines ++ rest) ≤ 1073741824
        → Takes b a (text_of_lines lines ++ rest) → Puts d w shown → BeginsBad rules read a cause rest → RanToBad rules b a d w line cause
    bad_so b a d w line cause rest line_is within takes puts bad = record {
      read = read;
      good = is.good;
      line_is = line_is ∙ ap (λ (ls : List (List ℕ)). length ls + 1) is.lines_are ∙ ap (λ n. n + 1) (sym (count_lines read));
      rest = rest;
      within = subst (λ (x : List ℕ). length (x ++ rest) ≤ 1073741824) text_is within;
      takes = takes_so b a rest takes;
      bad = bad;
      puts = puts_so d w puts;
    }

  cut_short : (read : Option Schedule) (rest : List ℕ) → (rest ≡ [] → ⊥) → CutShort read rest
  cut_short None rest some = tt
  cut_short (Some s) rest some = some

  -- the lines and the text of what was reached
  reached_is : (lines : List (List ℕ)) (shown : List ℕ) (r : Reached loops lines shown) → IsRead rules r.after.read lines shown
  reached_is lines shown r = r.after.is

  to_end : (b a d w : Option (List ℕ)) → loop.RanToEnd loops b a d w → RanToEnd rules b a d w
  to_end b a d w ran =
      let s = ran.ends.schedule in
      let text = text_is ran.lines ran.shown (Some s) ran.ends.is in
      record {
        schedule = s;
        good = ran.ends.is.good;
        takes = subst (λ (x : List ℕ). Takes b a x) text ran.takes;
        ended = ran.ended;
        short = subst (λ (x : List ℕ). length x ≤ 1073741824) text ran.short;
        puts = subst (λ (x : List ℕ). Puts d w x) ((λ i. ran.ends.is.shown_is i ++ ran.ends.last_is i)) ran.puts;
      }

  first_bad : (b a d w : Option (List ℕ)) (line : ℕ) (lines : List (List ℕ)) (shown rest : List ℕ) → line ≡ length lines + 1 → length (text_of_lines lines ++ rest) ≤ 1073741824
      → Takes b a (text_of_lines lines ++ rest) → Puts d w shown → lines ≡ [] → shown ≡ [] → rest ≡ [] → AtEnd a → RanToBad rules b a d w line Cause.Unreadable
  first_bad b a d w line lines shown rest line_is within takes puts no_lines no_text none ended =
      bad_so lines shown None (record { good = tt; lines_are = no_lines; shown_is = no_text }) b a d w line Cause.Unreadable rest line_is within takes puts
      (cut_line refl (record { lacks = subst (λ (x : List ℕ). Lacks 10 x) (sym none) tt; cut = tt; ended = ended }))

  to_bad : (b a d w : Option (List ℕ)) (line : ℕ) (why : LineRefusal Cause) (ran : loop.RanToBad loops b a d w line why) → loop.BeginsBad loops ran.lines ran.shown a why ran.rest → RanToBad rules b a d w line (cause_in why)
  to_bad b a d w line why ran (loop.bad_line cause is bad) =
      subst (λ (y : LineRefusal Cause). RanToBad rules b a d w line (cause_in y)) (sym is)
      (bad_so ran.lines ran.shown bad.refused.read bad.refused.is b a d w line cause ran.rest ran.line_is ran.within ran.takes ran.puts
      (bad_line (record { line = bad.line; rest = bad.rest; text_is = bad.text_is; lacks = bad.lacks; refused = bad.refused.refused })))
  to_bad b a d w line why ran (loop.long_line is bad) =
      subst (λ (y : LineRefusal Cause). RanToBad rules b a d w line (cause_in y)) (sym is)
      (bad_so ran.lines ran.shown ran.reached.after.read (reached_is ran.lines ran.shown ran.reached) b a d w line Cause.Unreadable ran.rest ran.line_is ran.within ran.takes ran.puts
      (long_line refl bad))
  to_bad b a d w line why ran (loop.cut_line is bad) =
      subst (λ (y : LineRefusal Cause). RanToBad rules b a d w line (cause_in y)) (sym is)
      (bad_so ran.lines ran.shown ran.reached.after.read (reached_is ran.lines ran.shown ran.reached) b a d w line Cause.Unreadable ran.rest ran.line_is ran.within ran.takes ran.puts
      (cut_line refl (record { lacks = bad.lacks; cut = cut_short ran.reached.after.read ran.rest bad.some; ended = bad.ended })))
  to_bad b a d w line why ran (loop.bad_end cause is bad) =
      subst (λ (y : LineRefusal Cause). RanToBad rules b a d w line (cause_in y)) (sym is) (subst (λ (y : Cause). RanToBad rules b a d w line y) (sym bad.refused.unreadable)
      (first_bad b a d w line ran.lines ran.shown ran.rest ran.line_is ran.within ran.takes ran.puts bad.refused.lines_are bad.refused.shown_is bad.none bad.ended))

  partly : (b a d w : Option (List ℕ)) (ran : loop.RanPartly loops b a d w) → loop.WrotePart loops ran.lines ran.shown ran.rest a d w → RanPartly rules b a d w
  partly b a d w ran (loop.of_lines put) =
      let read = ran.reached.after.read in
      let is = reached_is ran.lines ran.shown ran.reached in
      record {
        read = read;
        good = is.good;
        rest = ran.rest;
        takes = takes_so ran.lines ran.shown read is b a ran.rest ran.takes;
        wrote = of_transcript (subst (λ (x : List ℕ). PutsPrefix d w x) is.shown_is put);
      }
  partly b a d w ran (loop.of_all last ends none ended put) = record {
    read = Some ends.schedule;
    good = ends.is.good;
    rest = ran.rest;
    takes = takes_so ran.lines ran.shown (Some ends.schedule) ends.is b a ran.rest ran.takes;
    wrote = of_all none ended (subst (λ (x : List ℕ). PutsPrefix d w x) ((λ i. ends.is.shown_is i ++ ends.last_is i)) put);
  }

  so_far : (b a d w : Option (List ℕ)) → loop.RanSoFar loops b a d w → RanSoFar rules b a d w
  so_far b a d w ran =
      let read = ran.reached.after.read in
      let is = reached_is ran.lines ran.shown ran.reached in
      record {
        read = read;
        good = is.good;
        rest = ran.rest;
        whole = ran.part.lacks;
        short = ran.part.short;
        takes = takes_so ran.lines ran.shown read is b a ran.rest ran.takes;
        puts = puts_so ran.lines ran.shown read is d w ran.puts;
      }

  too_long : (b a d w : Option (List ℕ)) → loop.RanTooLong loops b a d w → RanTooLong rules b a d w
  too_long b a d w ran =
      let read = ran.reached.after.read in
      let is = reached_is ran.lines ran.shown ran.reached in
      record {
        read = read;
        good = is.good;
        rest = ran.rest;
        whole = ran.part.lacks;
        short = ran.part.short;
        long = ap (λ (x : List ℕ). length (x ++ ran.rest)) (sym (text_is ran.lines ran.shown read is)) ∙ ran.long;
        more = ran.more;
        takes = takes_so ran.lines ran.shown read is b a (ran.rest ++ ran.more ∷ []) ran.takes;
        puts = puts_so ran.lines ran.shown read is d w ran.puts;
      }

  pub ran_so : (result : InputEnd Cause) (b a d w : Option (List ℕ)) → LoopRan loops result b a d w → Ran rules result b a d w
  unfolding Ran LoopRan
  ran_so InputEnd.Done b a d w ran = to_end b a d w ran
  ran_so (InputEnd.BadLine line why) b a d w ran = to_bad b a d w line why ran ran.bad
  ran_so InputEnd.ReadFault b a d w ran = so_far b a d w ran
  ran_so InputEnd.WriteFault b a d w ran = partly b a d w ran ran.wrote
  ran_so InputEnd.NoMemory b a d w ran = partly b a d w ran ran.wrote
  ran_so InputEnd.InputTooLong b a d w ran = too_long b a d w ran
