-- The effect of the loop over lines is that of a replay.
use Rattle.std.proofs.Common.{◌≡◌, ℕ, ◌+◌, ◌≤◌, List, [], ◌∷◌, ◌++◌, Option, length, refl, ap, sym, ◌∙◌, subst}
use Rattle.crsm_io.specs.Streams.{Takes, Puts}
use Rattle.crsm_text.specs.Words.{Lacks}
use Rattle.crsm_port_lines.specs.Handling.{Text}
use Rattle.crsm_port_lines.specs.Run as loop
use Rattle.crsm_port_lines.specs.Run.{Ran as LoopRan}
use Rattle.crsm_port_lines.specs.State.{read_text}
use Rattle.crsm_port_lines.specs.declared.LineRefusal.{LineRefusal}
use Rattle.crsm_port_lines.specs.declared.InputEnd.{InputEnd}
use Rattle.crsm_text_sheet.specs.Sheets.{sheet_text}
use Rattle.crsm_cmd_replay_node.specs.Causes.{cause_in}
use Rattle.crsm_cmd_replay_node.specs.Handled.{Spells, sheet_of_node}
use Rattle.crsm_cmd_replay_node.specs.Refused.{BeginsBad, bad_line, cut_line, long_line}
use Rattle.crsm_cmd_replay_node.specs.Run.{Ran, RanPartly, RanSoFar, RanToBad, RanToEnd, RanTooLong, of_all, of_lines}
use Rattle.crsm_cmd_replay_node.specs.declared.cause.SheetCause.{SheetCause}
use Rattle.crsm_cmd_replay_node.proofs.Texts.{count, read_is}

module _ (me n : ℕ) where
  module _ (texts : List Text) (shown : Text) (s : Spells me n texts shown) where
    text_is : read_text texts ≡ sheet_text s.lines
    text_is = ap read_text s.texts_are ∙ read_is s.lines

    count_is : length texts ≡ length s.lines
    count_is = ap length s.texts_are ∙ count s.lines

    takes_so : (b a : Option Text) (rest : Text) → Takes b a (read_text texts ++ rest) → Takes b a (sheet_text s.lines ++ rest)
    takes_so b a rest t = subst (λ (x : Text). Takes b a (x ++ rest)) text_is t

    bad_so : (b a d w : Option Text) (line : ℕ) (cause : SheetCause) (rest : Text) → line ≡ length texts + 1 → length (read_text texts ++ rest) ≤ 1073741824
        → Takes b a (read_text texts ++ rest) → Puts d w shown → BeginsBad me n s.lines a cause rest → RanToBad me n b a d w line cause
    bad_so b a d w line cause rest line_is within takes puts bad = record {
      lines = s.lines;
      shown = shown;
      is = s.is;
      line_is = line_is ∙ ap (λ (k : ℕ). k + 1) count_is;
      rest = rest;
      within = subst (λ (x : Text). length (x ++ rest) ≤ 1073741824) text_is within;
      takes = takes_so b a rest takes;
      bad = bad;
      puts = puts;
    }

  to_end : (b a d w : Option Text) → loop.RanToEnd (sheet_of_node me n) b a d w → RanToEnd me n b a d w
  to_end b a d w ran =
      let s = ran.ends.spells in
      let text = text_is ran.lines ran.shown s in
      record {
        lines = s.lines;
        fit = s.is.fit;
        text = ran.shown ++ ran.last;
        shows = ran.ends.whole;
        takes = subst (λ (x : Text). Takes b a x) text ran.takes;
        ended = ran.ended;
        short = subst (λ (x : Text). length x ≤ 1073741824) text ran.short;
        puts = ran.puts;
      }

  to_bad : (b a d w : Option Text) (line : ℕ) (why : LineRefusal SheetCause) (ran : loop.RanToBad (sheet_of_node me n) b a d w line why)
      → loop.BeginsBad (sheet_of_node me n) ran.lines ran.shown a why ran.rest → RanToBad me n b a d w line (cause_in why)
  to_bad b a d w line why ran (loop.bad_line cause is bad) =
      let s = bad.refused.spells in
      subst (λ (y : LineRefusal SheetCause). RanToBad me n b a d w line (cause_in y)) (sym is)
      (bad_so ran.lines ran.shown s b a d w line cause ran.rest ran.line_is ran.within ran.takes ran.puts
      (bad_line (record { line = bad.line; rest = bad.rest; text_is = bad.text_is; lacks = bad.lacks; refused = bad.refused.refused })))
  to_bad b a d w line why ran (loop.long_line is bad) =
      let s = ran.reached.after.spells in
      subst (λ (y : LineRefusal SheetCause). RanToBad me n b a d w line (cause_in y)) (sym is)
      (bad_so ran.lines ran.shown s b a d w line SheetCause.Unreadable ran.rest ran.line_is ran.within ran.takes ran.puts (long_line refl bad))
  to_bad b a d w line why ran (loop.cut_line is bad) =
      let s = ran.reached.after.spells in
      subst (λ (y : LineRefusal SheetCause). RanToBad me n b a d w line (cause_in y)) (sym is)
      (bad_so ran.lines ran.shown s b a d w line SheetCause.Unreadable ran.rest ran.line_is ran.within ran.takes ran.puts
      (cut_line refl (record { lacks = bad.lacks; cut = λ none. absurd (bad.some none); ended = bad.ended })))
  to_bad b a d w line why ran (loop.bad_end cause is bad) =
      let s = bad.refused.spells in
      subst (λ (y : LineRefusal SheetCause). RanToBad me n b a d w line (cause_in y)) (sym is)
      (bad_so ran.lines ran.shown s b a d w line cause ran.rest ran.line_is ran.within ran.takes ran.puts
      (cut_line bad.refused.unreadable
      (record { lacks = subst (λ (x : Text). Lacks 10 x) (sym bad.none) tt; cut = λ none. bad.refused.no_sheet; ended = bad.ended })))

  partly : (b a d w : Option Text) (ran : loop.RanPartly (sheet_of_node me n) b a d w) → loop.WrotePart (sheet_of_node me n) ran.lines ran.shown ran.rest a d w → RanPartly me n b a d w
  partly b a d w ran (loop.of_lines put) =
      let s = ran.reached.after.spells in
      record {
        lines = s.lines;
        shown = ran.shown;
        is = s.is;
        rest = ran.rest;
        takes = takes_so ran.lines ran.shown s b a ran.rest ran.takes;
        wrote = of_lines put;
      }
  partly b a d w ran (loop.of_all last ends none ended put) = record {
    lines = ends.spells.lines;
    shown = ran.shown;
    is = ends.spells.is;
    rest = ran.rest;
    takes = takes_so ran.lines ran.shown ends.spells b a ran.rest ran.takes;
    wrote = of_all (ran.shown ++ last) ends.whole none ended put;
  }

  so_far : (b a d w : Option Text) → loop.RanSoFar (sheet_of_node me n) b a d w → RanSoFar me n b a d w
  so_far b a d w ran =
      let s = ran.reached.after.spells in
      record {
        lines = s.lines;
        shown = ran.shown;
        is = s.is;
        rest = ran.rest;
        part = ran.part;
        takes = takes_so ran.lines ran.shown s b a ran.rest ran.takes;
        puts = ran.puts;
      }

  too_long : (b a d w : Option Text) → loop.RanTooLong (sheet_of_node me n) b a d w → RanTooLong me n b a d w
  too_long b a d w ran =
      let s = ran.reached.after.spells in
      record {
        lines = s.lines;
        shown = ran.shown;
        is = s.is;
        rest = ran.rest;
        part = ran.part;
        long = ap (λ (x : Text). length (x ++ ran.rest)) (sym (text_is ran.lines ran.shown s)) ∙ ran.long;
        more = ran.more;
        takes = takes_so ran.lines ran.shown s b a (ran.rest ++ ran.more ∷ []) ran.takes;
        puts = ran.puts;
      }

  pub ran_so : (result : InputEnd SheetCause) (b a d w : Option Text) → LoopRan (sheet_of_node me n) result b a d w → Ran me n result b a d w
  unfolding Ran LoopRan
  ran_so InputEnd.Done b a d w ran = to_end b a d w ran
  ran_so (InputEnd.BadLine line why) b a d w ran = to_bad b a d w line why ran ran.bad
  ran_so InputEnd.ReadFault b a d w ran = so_far b a d w ran
  ran_so InputEnd.WriteFault b a d w ran = partly b a d w ran ran.wrote
  ran_so InputEnd.NoMemory b a d w ran = partly b a d w ran ran.wrote
  ran_so InputEnd.InputTooLong b a d w ran = too_long b a d w ran
