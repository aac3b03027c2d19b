-- The effect of one more line of an input on an audit, and of its end.
use Rattle.std.proofs.Common.{◌≡◌, ℕ, ◌+◌, List, [], ◌∷◌, ◌++◌, Result, Ok, Err, IfErr, map, length, refl, ap, sym, ◌∙◌, subst}
use Rattle.std.proofs.lemmas.List.{append-nil, length-map}
use Rattle.crsm_port_lines.specs.Handling.{EndsWell, Handles, StopsAt, StopsAtEnd, Text}
use Rattle.crsm_port_lines.specs.declared.Stop.{Stop}
use Rattle.crsm_cmd_replay_node.specs.declared.cause.SheetCause.{SheetCause}
use Rattle.crsm_audit.specs.Handled.{HasHandled, MayNotEnd, Spells, StandsBehind, StopsEnd, StopsLine, StopsUnread, audited}
use Rattle.crsm_audit.specs.Lines.{BeginAnAudit, FitsLine, line_text}
use Rattle.crsm_audit.specs.Sheets.{IsAudited}
use Rattle.crsm_audit.specs.Taking.{EndsWith}
use Rattle.crsm_audit.specs.declared.state.Audit.{Audit}
use Rattle.crsm_audit.specs.declared.line.AuditLine.{AuditLine}
use Rattle.crsm_audit.proofs.Spelling.{fit_push, texts_push}

-- nothing has been read
pub begins : (n : ℕ) (audit : Audit) → audit.n ≡ n → StandsBehind audit [] → HasHandled n audit [] []
begins n audit n_is stands = record { spells = record { lines = []; fit = tt; are = refl; begin = record { named = []; more = []; is = refl } }; none = refl; n_is = n_is; stands = stands }

-- the number of a line
pub number_is : (at : ℕ) (texts : List Text) (s : Spells texts) → at ≡ length texts + 1 → at ≡ length s.lines + 1
number_is at texts s is = is ∙ ap (λ (k : ℕ). k + 1) (ap length s.are ∙ length-map s.lines line_text)

module _ (n : ℕ) (texts : List Text) (shown : Text) where
  -- a text that is not a line
  pub unread : (stop : Stop SheetCause) (text before : Text) → StopsUnread stop text → Spells texts → StopsAt (audited n) texts shown text before before stop
  unread (Stop.Refused cause) text before stops spells = (record { spells = spells; unreadable = stops.0; none = λ line fits is begun. stops.1 line fits is }, refl)
  unread Stop.NoMemory text before stops spells = ([], sym (append-nil before))

  -- a line that is taken
  pub handles : (old new : Audit) (line : AuditLine) (text before : Text) (h : HasHandled n old texts shown) → FitsLine line → text ≡ line_text line → new.n ≡ old.n
      → BeginAnAudit (h.spells.lines ++ line ∷ []) → StandsBehind new (h.spells.lines ++ line ∷ []) → Handles (audited n) new texts shown text before before
  handles old new line text before h fits is n_is begun stands =
      let s = h.spells in
      record {
        more = [];
        added = sym (append-nil before);
        now = record {
          spells = record {
            lines = s.lines ++ line ∷ [];
            fit = fit_push s.lines line s.fit fits;
            are = ap (λ (ts : List Text). ts ++ text ∷ []) s.are ∙ ap (λ (t : Text). map line_text s.lines ++ t ∷ []) is ∙ sym (texts_push s.lines line);
            begin = begun;
          };
          none = append-nil shown ∙ h.none;
          n_is = n_is ∙ h.n_is;
          stands = stands;
        };
      }

  -- a line that is refused
  pub stops : (stop : Stop SheetCause) (line : AuditLine) (text before : Text) (s : Spells texts) → text ≡ line_text line
      → ((l : AuditLine) → FitsLine l → text ≡ line_text l → line ≡ l) → StopsLine s.lines line stop → StopsAt (audited n) texts shown text before before stop
  stops (Stop.Refused cause) line text before s is one stopped = (
    record {
      spells = s;
      unreadable = stopped.0;
      none = λ l fits text_is begun. stopped.1 (subst (λ (k : AuditLine). BeginAnAudit (s.lines ++ k ∷ [])) (sym (one l fits text_is)) begun);
    },
    refl,
  )
  stops Stop.NoMemory line text before s is one stopped = ([], sym (append-nil before))

  -- the end
  pub ends : (audit : Audit) (before after : Text) (h : HasHandled n audit texts shown) → EndsWith audit.n h.spells.lines before after → EndsWell (audited n) texts shown before after
  ends audit before after h e = record {
    last = e.text;
    added = e.added;
    may = record { spells = h.spells; whole = e.whole; audited = subst (λ (k : ℕ). IsAudited k h.spells.lines e.text) h.n_is e.audited };
  }

  pub no_end : (audit : Audit) (stop : Stop SheetCause) (h : HasHandled n audit texts shown) → StopsEnd audit.n h.spells.lines stop → StopsAtEnd (audited n) texts shown stop
  no_end audit (Stop.Refused cause) h why = record { spells = h.spells; why = subst (λ (k : ℕ). MayNotEnd k h.spells.lines cause) h.n_is why }
  no_end audit Stop.NoMemory h why = tt

-- ---- answers

pub if_err : {X E : Type 0} (result : Result X E) (P Q : E → Type 0) → ((e : E) → P e → Q e) → IfErr result P → IfErr result Q
if_err (Ok x) P Q f p = tt
if_err (Err e) P Q f p = f e p
