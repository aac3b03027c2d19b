-- The effect of a line, and of the end, on an audit.
use Rattle.std.proofs.Common.{◌≡◌, ◌≢◌, ℕ, ◌+◌, ◌-◌, List, [], ◌∷◌, ◌++◌, map, length, get_or, set, refl, sym, ◌∙◌, ap, subst, append_assoc, inl, inr, arith}
use Rattle.std.specs.Prelude.{Some, None, Result, Ok, Err, IfErr, OnOk}
use Rattle.std.specs.List.{AllByRecursion}
use Rattle.std.proofs.lemmas.List.{append-nil, length-append, map-append}
use Rattle.std.proofs.lemmas.Option.{same_Some}
use Rattle.crsm_law_sheets.specs.Laws.{AgreeingSheetsAreSafe, AreSafe, IsSound}
use Rattle.crsm_law_sheets.specs.Sheets.{Sheet, log_after, one_list}
use Rattle.crsm_fact_log.specs.Logs.{AllFit, AreSpelt}
use Rattle.crsm_replica_rerun.specs.declared.error.RerunError.{RerunError}
use Rattle.crsm_replica_rerun.specs.declared.stage.SheetStage.{SheetStage}
use Rattle.crsm_replica_rerun.specs.declared.stage.SheetStage.TheVariants as sheet_stages
use Rattle.crsm_replica_rerun.specs.Replaying.{HasOpened, LeadsTo, RerunStands}
use Rattle.crsm_replica_rerun.specs.Sheets.{LeadTo, Replays}
use Rattle.crsm_replica_rerun.specs.Stages.{IsOpen, IsRefusal, Leads, StageStands as SheetStageStands}
use Rattle.crsm_replica_rerun.proofs.Prefixes.{bodies_are_no_sheet}
use Rattle.crsm_text_sheet.specs.declared.line.SheetLine.{SheetLine}
use Rattle.crsm_text_sheet.specs.declared.line.SheetLine.TheVariants.{Open}
use Rattle.crsm_text_sheet.specs.declared.line.SheetLine.TheVariants as written
use Rattle.crsm_text_sheet.specs.Sheets.{entry_line, sheet_of}
use Rattle.crsm_spec.specs.Draft.{Draft}
use Rattle.crsm_spec.specs.Log.{Log, executed}
use Rattle.crsm_spec.specs.Node.{outputs}
use Rattle.crsm_audit.specs.Accounts.{AccountStands, AccountsStand, dropped_from, own_logged, spelt}
use Rattle.crsm_audit.specs.Verdict.{IsVerdict}
use Rattle.crsm_audit.specs.declared.account.Account.{Account}
use Rattle.crsm_audit.specs.declared.verdict.Verdict.{Verdict}
use Rattle.crsm_audit.specs.Lines.{BeginAnAudit, IsAnAudit, follows, progress_after}
use Rattle.crsm_audit.specs.Lists.{places_of}
use Rattle.crsm_audit.specs.Sheets.{AreSheetsOf, HoldBadLog, IsSheetOf, NodeSheet, WhereAgreed, sheets_from, sheets_in}
use Rattle.crsm_audit.specs.State.{AccountOf, AtHand, SheetAdvances, SheetStands, StageStands, WhereSheetStands, left_by, progress_at, progress_of}
use Rattle.crsm_audit.specs.Taking.{AllDone, EndsWith, Refuses}
use Rattle.crsm_audit.specs.Texts.{verdict_text}
use Rattle.crsm_audit.specs.declared.state.BadLog.{BadLog}
use Rattle.crsm_audit.specs.declared.state.Sheets.{Sheets}
use Rattle.crsm_audit.specs.declared.state.Stage.{Stage}
use Rattle.crsm_audit.specs.declared.state.Stage.TheVariants as stages
use Rattle.crsm_audit.specs.declared.line.AuditLine.{AuditLine}
use Rattle.crsm_audit.specs.declared.line.AuditLine.TheVariants as lines
use Rattle.crsm_audit.specs.declared.line.Progress.{Progress}
use Rattle.crsm_audit.specs.declared.line.Progress.TheVariants.{Before, Finding, Running}
use Rattle.crsm_audit.proofs.Logs.{any_start, lines_count, some_steps, steps_count}
use Rattle.crsm_audit.proofs.Parts.{accounts_more, sheets_more, with_last}
use Rattle.crsm_audit.proofs.Places.{bodies_do_not_run, leads_begin, no_line, not_followed, progress_more, running_is_whole, whole_runs}

-- before the `open` of the last sheet the lines are no audit
pub unfinished : (ls : List AuditLine) (p : Progress) → progress_after Before ls ≡ Some p → p ≢ Running → IsAnAudit ls → ⊥
unfinished ls p leads other whole = other (same_Some p Running (sym leads ∙ whole_runs ls whole))

-- ---- the progress of a sheet

-- a sheet of which bodies alone were read is not open
pub finding_at : (me n : ℕ) (stage : SheetStage) (own : List SheetLine) (steps : List Draft) (bodies : List (List ℕ)) → own ≡ map entry_line bodies
    → SheetStageStands me n stage own steps → progress_at stage ≡ Finding
finding_at me n (sheet_stages.Finding found) own steps bodies is s = refl
finding_at me n (sheet_stages.Running core) own steps bodies is s = absurd (bodies_are_no_sheet own bodies is s.sheet.bodies s.sheet.turns s.sheet.is)
finding_at me n sheet_stages.Spent own steps bodies is s = absurd s

pub open_runs : (stage : SheetStage) → IsOpen stage → progress_at stage ≡ Running
open_runs (sheet_stages.Finding bodies) o = absurd o
open_runs (sheet_stages.Running core) o = refl
open_runs sheet_stages.Spent o = refl

pub closed_finds : (me n : ℕ) (stage : SheetStage) (own : List SheetLine) (steps : List Draft) → SheetStageStands me n stage own steps → (IsOpen stage → ⊥) → progress_at stage ≡ Finding
closed_finds me n (sheet_stages.Finding bodies) own steps s closed = refl
closed_finds me n (sheet_stages.Running core) own steps s closed = absurd (closed tt)
closed_finds me n sheet_stages.Spent own steps s closed = absurd s

-- a line that was replayed may follow
pub leads_follow : (old : SheetStage) (l : SheetLine) (new : SheetStage) → Leads old l new → follows (progress_at old) (lines.Sheet l) ≡ Some (progress_at new)
leads_follow (sheet_stages.Finding a) (written.Entry x) (sheet_stages.Finding b) h = refl
leads_follow (sheet_stages.Finding a) (written.Entry x) (sheet_stages.Running core) h = absurd h
leads_follow (sheet_stages.Finding a) (written.Entry x) sheet_stages.Spent h = absurd h
leads_follow (sheet_stages.Finding a) written.Open (sheet_stages.Finding b) h = absurd h
leads_follow (sheet_stages.Finding a) written.Open (sheet_stages.Running core) h = refl
leads_follow (sheet_stages.Finding a) written.Open sheet_stages.Spent h = absurd h
leads_follow (sheet_stages.Finding a) (written.In r d x) (sheet_stages.Finding b) h = absurd h
leads_follow (sheet_stages.Finding a) (written.In r d x) (sheet_stages.Running core) h = absurd h
leads_follow (sheet_stages.Finding a) (written.In r d x) sheet_stages.Spent h = absurd h
leads_follow (sheet_stages.Finding a) (written.Tick r) (sheet_stages.Finding b) h = absurd h
leads_follow (sheet_stages.Finding a) (written.Tick r) (sheet_stages.Running core) h = absurd h
leads_follow (sheet_stages.Finding a) (written.Tick r) sheet_stages.Spent h = absurd h
leads_follow (sheet_stages.Finding a) (written.Suspect r m) (sheet_stages.Finding b) h = absurd h
leads_follow (sheet_stages.Finding a) (written.Suspect r m) (sheet_stages.Running core) h = absurd h
leads_follow (sheet_stages.Finding a) (written.Suspect r m) sheet_stages.Spent h = absurd h
leads_follow (sheet_stages.Running c) (written.In r d x) (sheet_stages.Running core) h = refl
leads_follow (sheet_stages.Running c) (written.Tick r) (sheet_stages.Running core) h = refl
leads_follow (sheet_stages.Running c) (written.Suspect r m) (sheet_stages.Running core) h = refl
leads_follow (sheet_stages.Running c) (written.Entry x) (sheet_stages.Running core) h = absurd h
leads_follow (sheet_stages.Running c) written.Open (sheet_stages.Running core) h = absurd h
leads_follow (sheet_stages.Running c) l (sheet_stages.Finding b) h = absurd h
leads_follow (sheet_stages.Running c) l sheet_stages.Spent h = absurd h
leads_follow sheet_stages.Spent l (sheet_stages.Finding b) h = absurd h
leads_follow sheet_stages.Spent l (sheet_stages.Running core) h = absurd h
leads_follow sheet_stages.Spent l sheet_stages.Spent h = absurd h

-- ---- a sheet begins

pub begins : (n : ℕ) → StageStands n stages.Before []
unfolding progress_after
begins n = record { leads = refl; known = refl }

pub new_account : (me n first : ℕ) (a : Account) → a.me ≡ me → a.entries.list ≡ [] → a.entries.held ≡ [] → a.dropped.items ≡ [] → AccountOf me n first [] [] a
unfolding own_logged
new_account me n first a me_is list held dropped [] is = record {
  me_is = me_is;
  list = list;
  held = λ log kept. held ∙ ap (λ (l : Log). spelt (own_logged me l)) (sym kept);
  dropped = dropped;
}
new_account me n first a me_is list held dropped (b ∷ bodies) is = absurd (cc)

pub begun : (n at me : ℕ) (ls : List AuditLine) (old : List Account) (now : Sheets) (a : Account) → AllDone n old ls → at ≡ length ls + 1 → now.accounts.items ≡ old ++ a ∷ []
    → RerunStands me n (at + 1) now.rerun [] [] → ((first : ℕ) → AccountOf me n first [] [] a) → StageStands n (stages.Replaying now) (ls ++ lines.Node me ∷ [])
begun n at me ls old now a d at_is now_is stands account =
    let first : at + 1 ≡ length ls + 2 = omega (arith, at_is) in
    record {
      leads = d.next me ∙ ap (λ (p : Progress). Some p) (sym (finding_at me n now.rerun.stage [] [] [] refl stands.stage));
      known = record {
        before = ls;
        sheets = d.sheets;
        are = d.are;
        done = old;
        stand = d.stand;
        me = me;
        own = [];
        lines_are = refl;
        account = a;
        accounts_are = now_is;
        steps = [];
        stands = record { replayed = subst (λ (k : ℕ). RerunStands me n k now.rerun [] []) first stands; account = account (length ls + 2) };
      };
    }

-- ---- a sheet is whole

-- the sheet that the lines of node me are
sheet_here : (me n first : ℕ) (own : List SheetLine) (steps : List Draft) → Replays me n own steps → Sheet
sheet_here me n first own steps p = record { me = me; opened = first + length p.sheet.bodies; found = p.sheet.log; turns = p.sheet.turns }

account_stands : (me n first : ℕ) (own : List SheetLine) (steps : List Draft) (a : Account) (p : Replays me n own steps) → AccountOf me n first own steps a
    → AccountStands n a (sheet_here me n first own steps p)
unfolding sheet_here
account_stands me n first own [] a p h = absurd (some_steps me n p.sheet.log p.sheet.turns (sym p.are))
account_stands me n first own (x ∷ xs) a p h =
    let steps = x ∷ xs in
    let sheet = p.sheet in
    let left : left_by steps ≡ log_after sheet.log (outputs me n sheet.log sheet.turns) = any_start [] sheet.log x xs ∙ ap (log_after sheet.log) p.are in
    let lines_are : length own ≡ length (sheet_of sheet.bodies sheet.turns) = ap length sheet.is in
    let count = lines_count sheet.bodies sheet.turns in
    let steps_are : length steps ≡ length (outputs me n sheet.log sheet.turns) = ap length p.are in
    let made = steps_count me n sheet.log sheet.turns in
    let opened : first + (length own - length steps) ≡ first + length sheet.bodies = omega (arith, lines_are, count, steps_are, made) in
    record {
      me = h.me_is;
      list = h.list ∙ ap (λ (l : Log). spelt (executed l)) left;
      held = h.held ∙ ap (λ (l : Log). spelt (own_logged me l)) left;
      dropped = h.dropped ∙ ap (λ (k : ℕ). dropped_from k steps) opened ∙ ap (dropped_from (first + length sheet.bodies)) p.are;
      sound = record { fit = subst (AllFit me n) left h.fit; spelt = subst AreSpelt left h.are_spelt };
    }

-- the current sheet has run, so it is a sheet
replays : (n : ℕ) (now : Sheets) (ls : List AuditLine) (h : AtHand n now ls) → progress_after Before ls ≡ Some Running → Replays h.me n h.own h.steps
replays n now ls h runs = go h.stands.replayed.leads
  where
    go : LeadTo h.me n h.own h.steps → Replays h.me n h.own h.steps
    go (inr p) = p
    go (inl p) = absurd (bodies_do_not_run h.before h.me p.0.bodies (
        ap (progress_after Before) (sym (h.lines_are ∙ ap (λ (own : List SheetLine). h.before ++ lines.Node h.me ∷ map lines.Sheet own) p.0.is)) ∙ runs
        ))

pub done_at_hand : (n : ℕ) (now : Sheets) (ls : List AuditLine) → AtHand n now ls → progress_after Before ls ≡ Some Running → AllDone n now.accounts.items ls
unfolding sheet_here
done_at_hand n now ls h runs =
    let p = replays n now ls h runs in
    let first = length h.before + 2 in
    let s = sheet_here h.me n first h.own h.steps p in
    let node : NodeSheet = record { me = h.me; first = first; lines = h.own } in
    let is : IsSheetOf n node s = record { sheet = p.sheet; is = refl } in
    let nodes : sheets_in ls ≡ sheets_in h.before ++ node ∷ [] = ap sheets_in h.lines_are ∙ with_last h.before h.me h.own in
    record {
      sheets = h.sheets ++ s ∷ [];
      are = subst (λ (ns : List NodeSheet). AreSheetsOf n ns (h.sheets ++ s ∷ [])) (sym nodes) (sheets_more n (sheets_in h.before) h.sheets node s h.are is);
      stand = subst (λ (kept : List Account). AccountsStand n kept (h.sheets ++ s ∷ [])) (sym h.accounts_are)
          (accounts_more n h.done h.sheets h.account s h.stand (account_stands h.me n first h.own h.steps h.account p h.stands.account));
      next = λ me. progress_more Before Running ls (lines.Node me) runs;
    }

no_sheets : (ls : List AuditLine) → ls ≡ [] → sheets_in ls ≡ []
unfolding sheets_from
no_sheets ls none = ap sheets_in none

-- before the first line none is
pub none_done : (n : ℕ) (ls : List AuditLine) → ls ≡ [] → AllDone n [] ls
unfolding progress_after
none_done n ls none = record {
  sheets = [];
  are = subst (λ (ns : List NodeSheet). AreSheetsOf n ns []) (sym (no_sheets ls none)) tt;
  stand = tt;
  next = λ me. ap (λ (xs : List AuditLine). progress_after Before (xs ++ lines.Node me ∷ [])) none;
}

-- ---- the last account

last_at : (xs ys : List Account) (y d : Account) → xs ≡ ys ++ y ∷ [] → get_or xs (length xs - 1) d ≡ y
last_at xs ys y d is =
    let count : length (ys ++ y ∷ []) - 1 ≡ length ys = (let c = length-append ys (y ∷ []) in omega (arith, c)) in
    subst (λ (zs : List Account). get_or zs (length zs - 1) d ≡ y) (sym is) (ap (λ (k : ℕ). get_or (ys ++ y ∷ []) k d) count ∙ go ys)
  where
    go : (zs : List Account) → get_or (zs ++ y ∷ []) (length zs) d ≡ y
    go [] = refl
    go (z ∷ zs) = go zs

last_set : (xs ys : List Account) (y z : Account) → xs ≡ ys ++ y ∷ [] → set xs (length xs - 1) z ≡ ys ++ z ∷ []
last_set xs ys y z is =
    let count : length (ys ++ y ∷ []) - 1 ≡ length ys = (let c = length-append ys (y ∷ []) in omega (arith, c)) in
    subst (λ (ws : List Account). set ws (length ws - 1) z ≡ ys ++ z ∷ []) (sym is) (ap (λ (k : ℕ). set (ys ++ y ∷ []) k z) count ∙ go ys)
  where
    go : (ws : List Account) → set (ws ++ y ∷ []) (length ws) z ≡ ws ++ z ∷ []
    go [] = refl
    go (w ∷ ws) = ap (λ (vs : List Account). w ∷ vs) (go ws)

-- ---- one more line of the current sheet

lines_more : (ls before : List AuditLine) (me : ℕ) (own : List SheetLine) (l : SheetLine) → ls ≡ before ++ lines.Node me ∷ map lines.Sheet own
    → ls ++ lines.Sheet l ∷ [] ≡ before ++ lines.Node me ∷ map lines.Sheet (own ++ l ∷ [])
lines_more ls before me own l is =
    ap (λ (x : List AuditLine). x ++ lines.Sheet l ∷ []) is
    ∙ append_assoc before (lines.Node me ∷ map lines.Sheet own) (lines.Sheet l ∷ [])
    ∙ ap (λ (x : List AuditLine). before ++ lines.Node me ∷ x) (sym (map-append lines.Sheet own (l ∷ [])))

module _ (n : ℕ) (old : Sheets) (ls : List AuditLine) (l : SheetLine) (h : AtHand n old ls) (last : Account)
    (last_is : last ≡ get_or old.accounts.items (length old.accounts.items - 1) last) where
  -- the current sheet is that of the last account
  here : SheetStands h.me n (length h.before + 2) old.rerun last h.own h.steps
  here =
      let same : last ≡ h.account = last_is ∙ last_at old.accounts.items h.done h.account last h.accounts_are in
      subst (λ (a : Account). SheetStands h.me n (length h.before + 2) old.rerun a h.own h.steps) (sym same) h.stands

  pub still_at_hand : (now : Sheets) (a : Account) → now.accounts.items ≡ set old.accounts.items (length old.accounts.items - 1) a
      → WhereSheetStands old.rerun last (λ me n first own steps. SheetAdvances me n first now.rerun a own steps l) → AtHand n now (ls ++ lines.Sheet l ∷ [])
  still_at_hand now a set_is advances =
      let adv = advances h.me n (length h.before + 2) h.own h.steps here in
      record {
        before = h.before;
        sheets = h.sheets;
        are = h.are;
        done = h.done;
        stand = h.stand;
        me = h.me;
        own = h.own ++ l ∷ [];
        lines_are = lines_more ls h.before h.me h.own l h.lines_are;
        account = a;
        accounts_are = set_is ∙ last_set old.accounts.items h.done h.account a h.accounts_are;
        steps = h.steps ++ adv.more;
        stands = adv.stands;
      }

  -- why the line is not replayed
  pub refuses : (why : RerunError) → WhereSheetStands old.rerun last (λ me n first own steps. IsRefusal me n own l why) → Refuses n ls old l why
  refuses RerunError.NoMemory refused = tt
  refuses RerunError.Misplaced refused =
      no_line (ls ++ lines.Sheet l ∷ []) h.before h.me (h.own ++ l ∷ []) (lines_more ls h.before h.me h.own l h.lines_are)
      (refused h.me n (length h.before + 2) h.own h.steps here)
  refuses (RerunError.BadLog entry why) refused =
      let r = refused h.me n (length h.before + 2) h.own h.steps here in
      let bad = r.1 in
      let bodies = bad.are.bodies in
      let own : h.own ++ l ∷ [] ≡ map entry_line bodies ++ Open ∷ [] = ap (λ (o : List SheetLine). o ++ l ∷ []) bad.are.is ∙ ap (λ (x : SheetLine). map entry_line bodies ++ x ∷ []) r.0 in (
        r.0,
        finding_at h.me n old.rerun.stage h.own h.steps bodies bad.are.is h.stands.replayed.stage,
        record {
          before = h.before;
          sheets = h.sheets;
          are = h.are;
          me = h.me;
          bodies = bodies;
          more = [];
          is =
              lines_more ls h.before h.me h.own l h.lines_are
              ∙ ap (λ (o : List SheetLine). h.before ++ lines.Node h.me ∷ map lines.Sheet o) own
              ∙ ap (λ (x : List AuditLine). h.before ++ lines.Node h.me ∷ x) (sym (append-nil (map lines.Sheet (map entry_line bodies ++ Open ∷ []))));
          bad = bad.bad;
        },
      )

  -- the same of what the replay returns
  pub still_on : {X : Type 0} (result : Result X RerunError) (now : Sheets) (a : Account) → now.accounts.items ≡ set old.accounts.items (length old.accounts.items - 1) a
      → WhereSheetStands old.rerun last (λ me n first own steps. OnOk result (SheetAdvances me n first now.rerun a own steps l)) → OnOk result (AtHand n now (ls ++ lines.Sheet l ∷ []))
  still_on (Ok x) now a set_is advances = still_at_hand now a set_is advances
  still_on (Err why) now a set_is advances = tt

  pub refuses_on : {X : Type 0} (result : Result X RerunError) → WhereSheetStands old.rerun last (λ me n first own steps. IfErr result (IsRefusal me n own l)) → IfErr result (Refuses n ls old l)
  refuses_on (Ok x) refused = tt
  refuses_on (Err why) refused = refuses why refused

-- the audit behind a line that was replayed
pub replays_on : (n : ℕ) (old new : Sheets) (ls : List AuditLine) (l : SheetLine) → StageStands n (stages.Replaying old) ls → LeadsTo old.rerun l new.rerun
    → AtHand n new (ls ++ lines.Sheet l ∷ []) → StageStands n (stages.Replaying new) (ls ++ lines.Sheet l ∷ [])
replays_on n old new ls l s leads now = record {
  leads = progress_more Before (progress_at old.rerun.stage) ls (lines.Sheet l) s.leads ∙ leads_follow old.rerun.stage l new.rerun.stage leads;
  known = now;
}

-- and behind the `open` of a bad log
pub turns_bad : (n : ℕ) (old : Sheets) (ls : List AuditLine) (l : SheetLine) (bad : BadLog) → StageStands n (stages.Replaying old) ls → Refuses n ls old l (RerunError.BadLog bad.entry bad.why)
    → StageStands n (stages.Refusing bad Running) (ls ++ lines.Sheet l ∷ [])
turns_bad n old ls l bad s why = record {
  leads = progress_more Before (progress_at old.rerun.stage) ls (lines.Sheet l) s.leads
      ∙ ap (λ (p : Progress). follows p (lines.Sheet l)) why.1 ∙ ap (λ (x : SheetLine). follows Finding (lines.Sheet x)) why.0;
  known = why.2;
}

-- a sheet that is not open is followed by no other
pub not_ended : (n : ℕ) (old : Sheets) (ls : List AuditLine) (me : ℕ) → StageStands n (stages.Replaying old) ls → (HasOpened old.rerun → ⊥) → BeginAnAudit (ls ++ lines.Node me ∷ []) → ⊥
not_ended n old ls me s closed =
    let h = s.known in
    let finds = closed_finds h.me n old.rerun.stage h.own h.steps h.stands.replayed.stage closed in
    not_followed Finding ls (lines.Node me) (s.leads ∙ ap (λ (p : Progress). Some p) finds) refl

-- nor is it whole
pub not_whole : (n : ℕ) (old : Sheets) (ls : List AuditLine) → StageStands n (stages.Replaying old) ls → (HasOpened old.rerun → ⊥) → IsAnAudit ls → ⊥
not_whole n old ls s closed whole =
    let h = s.known in
    let finds = closed_finds h.me n old.rerun.stage h.own h.steps h.stands.replayed.stage closed in
    unfinished ls Finding (s.leads ∙ ap (λ (p : Progress). Some p) finds) apart whole
  where
    apart : Finding ≢ Running
    apart e = cc

-- where it is open, it may be the last
pub opened_runs : (n : ℕ) (old : Sheets) (ls : List AuditLine) → StageStands n (stages.Replaying old) ls → HasOpened old.rerun → progress_after Before ls ≡ Some Running
opened_runs n old ls s o = s.leads ∙ ap (λ (p : Progress). Some p) (open_runs old.rerun.stage o)

-- ---- a line behind a bad log

-- a bad log stays bad
pub still_bad : (n : ℕ) (ls : List AuditLine) (l : AuditLine) (entry why : ℕ) → HoldBadLog n ls entry why → HoldBadLog n (ls ++ l ∷ []) entry why
still_bad n ls l entry why h =
    let head = map lines.Sheet (map entry_line h.bodies ++ Open ∷ []) in
    record {
      before = h.before;
      sheets = h.sheets;
      are = h.are;
      me = h.me;
      bodies = h.bodies;
      more = h.more ++ l ∷ [];
      is =
          ap (λ (x : List AuditLine). x ++ l ∷ []) h.is
          ∙ append_assoc h.before (lines.Node h.me ∷ (head ++ h.more)) (l ∷ [])
          ∙ ap (λ (x : List AuditLine). h.before ++ lines.Node h.me ∷ x) (append_assoc head h.more (l ∷ []));
      bad = h.bad;
    }

-- a line that may follow there
pub stays_bad : (n : ℕ) (ls : List AuditLine) (l : AuditLine) (bad : BadLog) (p q : Progress) → StageStands n (stages.Refusing bad p) ls → follows p l ≡ Some q
    → StageStands n (stages.Refusing bad q) (ls ++ l ∷ [])
stays_bad n ls l bad p q s next = record { leads = progress_more Before p ls l s.leads ∙ next; known = still_bad n ls l bad.entry bad.why s.known }

-- ---- the first line

none_before : (l : AuditLine) → ((me : ℕ) → l ≡ lines.Node me → ⊥) → follows Before l ≡ None
none_before (lines.Node me) other = absurd (other me refl)
none_before (lines.Sheet (written.Entry b)) other = refl
none_before (lines.Sheet written.Open) other = refl
none_before (lines.Sheet (written.In r a b)) other = refl
none_before (lines.Sheet (written.Tick r)) other = refl
none_before (lines.Sheet (written.Suspect r m)) other = refl

-- it names a node
pub not_first : (n : ℕ) (ls : List AuditLine) (l : AuditLine) → StageStands n stages.Before ls → ((me : ℕ) → l ≡ lines.Node me → ⊥) → BeginAnAudit (ls ++ l ∷ []) → ⊥
not_first n ls l s other = not_followed Before ls l s.leads (none_before l other)

-- behind a bad log a line is refused by its place alone
pub not_behind_bad : (n : ℕ) (ls : List AuditLine) (l : AuditLine) (bad : BadLog) (p : Progress) → StageStands n (stages.Refusing bad p) ls → follows p l ≡ None → BeginAnAudit (ls ++ l ∷ []) → ⊥
not_behind_bad n ls l bad p s none = not_followed p ls l s.leads none

-- ---- any line

-- a line that was taken begins an audit with those before it
pub taken : (n : ℕ) (stage : Stage) (ls : List AuditLine) (l : AuditLine) → StageStands n stage (ls ++ l ∷ []) → BeginAnAudit (ls ++ l ∷ []) × StageStands n stage (ls ++ l ∷ [])
taken n stage ls l s = (leads_begin (ls ++ l ∷ []) (progress_of stage) s.leads, s)

-- ---- the end

pub not_begun : (n : ℕ) (ls : List AuditLine) → StageStands n stages.Before ls → IsAnAudit ls → ⊥
not_begun n ls s = unfinished ls Before s.leads apart
  where
    apart : Before ≢ Running
    apart e = cc

pub not_whole_bad : (n : ℕ) (ls : List AuditLine) (bad : BadLog) (p : Progress) → StageStands n (stages.Refusing bad p) ls → p ≢ Running → IsAnAudit ls → ⊥
not_whole_bad n ls bad p s other = unfinished ls p s.leads other

pub whole_bad : (n : ℕ) (ls : List AuditLine) (bad : BadLog) → StageStands n (stages.Refusing bad Running) ls → IsAnAudit ls × HoldBadLog n ls bad.entry bad.why
whole_bad n ls bad s = (running_is_whole ls s.leads, s.known)

are_sound : (n : ℕ) (accounts : List Account) (sheets : List Sheet) → AccountsStand n accounts sheets → AllByRecursion (IsSound n) sheets
are_sound n [] [] h = tt
are_sound n [] (s ∷ sheets) h = absurd h
are_sound n (a ∷ accounts) [] h = absurd h
are_sound n (a ∷ accounts) (s ∷ sheets) h = (h.0.sound, are_sound n accounts sheets h.1)

safe_where : AgreeingSheetsAreSafe → (n : ℕ) (sheets : List Sheet) (verdict : Verdict) → AllByRecursion (IsSound n) sheets → IsVerdict n sheets verdict → WhereAgreed verdict (AreSafe n sheets)
safe_where law n sheets (Verdict.List i p) sound is = tt
safe_where law n sheets (Verdict.Stranger p) sound is = tt
safe_where law n sheets (Verdict.Dropped i line) sound is = tt
safe_where law n sheets (Verdict.Agree count) sound is = law n sheets sound is.0

pub concludes : AgreeingSheetsAreSafe → (n : ℕ) (accounts : List Account) (ls : List AuditLine) (verdict : Verdict) (before after : List ℕ)
    → AllDone n accounts ls → IsAnAudit ls → ((sheets : List Sheet) → AccountsStand n accounts sheets → IsVerdict n sheets verdict)
    → ((sheets : List Sheet) → AccountsStand n accounts sheets → after ≡ before ++ verdict_text (places_of (one_list n sheets)) verdict) → EndsWith n ls before after
concludes law n accounts ls verdict before after d whole judged added =
    let is = judged d.sheets d.stand in
    record {
      text = verdict_text (places_of (one_list n d.sheets)) verdict;
      added = added d.sheets d.stand;
      whole = whole;
      audited = record {
        sheets = d.sheets;
        are = d.are;
        verdict = verdict;
        is = is;
        safe = safe_where law n d.sheets verdict (are_sound n accounts d.sheets d.stand) is;
        text_is = refl;
      };
    }

-- ---- answers

pub later : {X E : Type 0} (result : Result X E) (A B : Type 0) → (A → OnOk result B) → OnOk result (A → B)
later (Ok x) A B f = f
later (Err e) A B f = tt

pub on_ok : {X E : Type 0} (result : Result X E) (A B : Type 0) → (A → B) → OnOk result A → OnOk result B
on_ok (Ok x) A B f a = f a
on_ok (Err e) A B f a = tt

pub at_err : {X E : Type 0} (P : E → Type 0) (result : Result X E) (e f : E) → result ≡ Err e → e ≡ f → IfErr result P → P f
at_err P result e f is same p = subst P same (subst (λ r. IfErr r P) is p)
