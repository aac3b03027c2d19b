-- A line is handled or refused by the results of the reader and the replay.
use Rattle.std.proofs.Common.{◌≡◌, ℕ, List, [], ◌∷◌, ◌++◌, Result, Ok, Err, IfErr, OnOk, map, refl, ap, sym, ◌∙◌, subst, append-nil}
use Rattle.crsm_base.specs.declared.Line.{Line}
use Rattle.crsm_port_lines.specs.Handling.{EndsWell, Handles, StopsAt, Text}
use Rattle.crsm_port_lines.specs.declared.Stop.{Stop}
use Rattle.crsm_schedule.specs.Transcript.{line_text}
use Rattle.crsm_text_sheet.specs.declared.line.SheetLine.{SheetLine}
use Rattle.crsm_text_sheet.specs.Grammar.{FitsSheetLine, sheet_line_text}
use Rattle.crsm_replica_rerun.specs.Replaying.{AddsText, Ends, IsNoSheet, RerunStands}
use Rattle.crsm_replica_rerun.specs.Sheets.{BeginASheet}
use Rattle.crsm_replica_rerun.specs.Texts.{IsNodeText, shown_text, steps_text}
use Rattle.crsm_cmd_replay_node.specs.Handled.{NoEnd, RefusedBehind, RefusedLine, Spells, StandsBehind, StopsLine, StopsUnread, sheet_of_node}
use Rattle.crsm_cmd_replay_node.specs.Refused.{Refused}
use Rattle.crsm_cmd_replay_node.specs.declared.cause.SheetCause.{SheetCause}
use Rattle.crsm_cmd_replay_node.specs.declared.handling.SheetReplay.{SheetReplay}
use Rattle.crsm_cmd_replay_node.proofs.Texts.{fit_push, texts_push}

-- no steps have no text
no_text : (lines : List SheetLine) → [] ≡ shown_text 1 lines []
unfolding shown_text steps_text
no_text lines = refl

-- nothing has been read
pub begins : (me n : ℕ) (replay : SheetReplay) → RerunStands me n 1 replay.rerun [] [] → StandsBehind me n replay [] []
begins me n replay stands = record {
  spells = record { lines = []; texts_are = refl; is = record { fit = tt; steps = []; leads = stands.leads; shown_is = no_text [] } };
  stands = stands;
}

module _ (me n : ℕ) (texts : List Text) (shown : Text) where
  -- a text that is not a line
  pub unread : (stop : Stop SheetCause) (text before : Text) → StopsUnread stop text → Spells me n texts shown
      → StopsAt (sheet_of_node me n) texts shown text before before stop
  unread (Stop.Refused cause) text before stops spells = (
    subst (λ (c : SheetCause). RefusedBehind me n texts shown c text) (sym stops.0)
        (record { spells = spells; refused = λ line fits is begun. stops.1 line fits is }),
    refl,
  )
  unread Stop.NoMemory text before stops spells = ([], sym (append-nil before))

  -- a line that is replayed
  pub handles : (old new : SheetReplay) (line : SheetLine) (text before after : Text) (b : StandsBehind me n old texts shown) → FitsSheetLine line → text ≡ sheet_line_text line
      → AddsText me n 1 new.rerun b.spells.lines b.spells.is.steps line before after → Handles (sheet_of_node me n) new texts shown text before after
  handles old new line text before after b fits is adds =
      let s = b.spells in
      record {
        more = adds.text;
        added = adds.added;
        now = record {
          spells = record {
            lines = s.lines ++ line ∷ [];
            texts_are = ap (λ (ts : List Text). ts ++ text ∷ []) s.texts_are ∙ ap (λ (t : Text). map sheet_line_text s.lines ++ t ∷ []) is ∙ sym (texts_push s.lines line);
            is = record {
              fit = fit_push s.lines line s.is.fit fits;
              steps = s.is.steps ++ adds.more;
              leads = adds.stands.leads;
              shown_is = ap (λ (t : Text). t ++ adds.text) s.is.shown_is ∙ sym adds.shows;
            };
          };
          stands = adds.stands;
        };
      }

  -- a line that is refused
  refused_so : (lines : List SheetLine) (cause : SheetCause) (line : SheetLine) (text : Text) → text ≡ sheet_line_text line
      → ((l : SheetLine) → FitsSheetLine l → text ≡ sheet_line_text l → line ≡ l) → RefusedLine me n lines line cause → Refused me n lines text cause
  refused_so lines SheetCause.Unreadable line text is one refused =
      λ l fits text_is begun. refused (subst (λ (k : SheetLine). BeginASheet (lines ++ k ∷ [])) (sym (one l fits text_is)) begun)
  refused_so lines (SheetCause.BadLog entry why) line text is one refused = (is ∙ ap sheet_line_text refused.0, refused.1)

  pub stops : (stop : Stop SheetCause) (line : SheetLine) (text before after : Text) (s : Spells me n texts shown) → text ≡ sheet_line_text line
      → ((l : SheetLine) → FitsSheetLine l → text ≡ sheet_line_text l → line ≡ l) → StopsLine me n s.lines line before after stop
      → StopsAt (sheet_of_node me n) texts shown text before after stop
  stops (Stop.Refused cause) line text before after s is one stopped = (record { spells = s; refused = refused_so s.lines cause line text is one stopped.0 }, stopped.1)
  stops Stop.NoMemory line text before after s is one stopped = stopped

  -- the end of a sheet
  pub ends : (line : Line) (before after : Text) (s : Spells me n texts shown) → Ends me n 1 s.lines s.is.steps line → after ≡ before ++ line_text 0 line
      → EndsWell (sheet_of_node me n) texts shown before after
  ends line before after s e added = record {
    last = line_text 0 line;
    added = added;
    may = record { spells = s; whole = subst (IsNodeText me n 1 s.lines) (ap (λ (t : Text). t ++ line_text 0 line) (sym s.is.shown_is)) e.text };
  }

  pub no_end : (s : Spells me n texts shown) → IsNoSheet s.lines → NoEnd me n texts shown SheetCause.Unreadable
  no_end s none = record { spells = s; no_sheet = none; unreadable = refl }

-- ---- answers

pub on_ok : {X E : Type 0} (result : Result X E) (A B : Type 0) → (A → B) → OnOk result A → OnOk result B
on_ok (Ok x) A B f a = f a
on_ok (Err e) A B f a = tt

pub if_err : {X E : Type 0} (result : Result X E) (P Q : E → Type 0) → ((e : E) → P e → Q e) → IfErr result P → IfErr result Q
if_err (Ok x) P Q f p = tt
if_err (Err e) P Q f p = f e p
