-- The account of a sheet after one more line.
use Rattle.std.proofs.Common.{◌≡◌, ◌≢◌, ℕ, ◌+◌, ◌-◌, List, [], ◌∷◌, ◌++◌, map, length, refl, sym, ◌∙◌, ap, subst, append_assoc, inl, inr, arith}
use Rattle.std.proofs.lemmas.List.{append-nil, length-append, map-append}
use Rattle.crsm_base.specs.Records.{SpeltBody}
use Rattle.crsm_base.specs.Spelling.{entry_bytes}
use Rattle.crsm_core.specs.Core.{Answers}
use Rattle.crsm_law_sheets.specs.Laws.{ExecutedListsGrow}
use Rattle.crsm_law_sheets.specs.Sheets.{log_after}
use Rattle.crsm_law_sheets.specs.Verdicts.{lines_told}
use Rattle.crsm_ledger.specs.declared.ledger.Ledger.{Ledger}
use Rattle.crsm_ledger.specs.Ledger.{LedgerStands}
use Rattle.crsm_fact_log.specs.Logs.{AllFit, AreSpelt, with_records}
use Rattle.crsm_replica_output.specs.declared.batch.Batch.{Batch}
use Rattle.crsm_replica_output.specs.Made.{line_of}
use Rattle.crsm_replica_rerun.specs.declared.rerun.Rerun.{Rerun}
use Rattle.crsm_replica_rerun.specs.Replaying.{Advances, HasOpened, OpenedBehind, SaysLog}
use Rattle.crsm_replica_rerun.specs.Sheets.{LeadTo, Replays, replica_of}
use Rattle.crsm_replica_rerun.specs.Stages.{AnswersAll}
use Rattle.crsm_text_sheet.specs.declared.line.SheetLine.{SheetLine}
use Rattle.crsm_text_sheet.specs.declared.line.SheetLine.TheVariants.{Entry, Open, In, Tick, Suspect}
use Rattle.crsm_text_sheet.specs.Sheets.{entry_line, sheet_of, turn_line}
use Rattle.crsm_spec.specs.Draft.{Draft}
use Rattle.crsm_spec.specs.Lists.{IsPrefixOf}
use Rattle.crsm_spec.specs.Log.{Log, executed}
use Rattle.crsm_spec.specs.Node.{Turn, outputs}
use Rattle.crsm_spec.specs.Types.{Entry as LogEntry, Rec}
use Rattle.crsm_fact_step.specs.Steps.{BatchesAreLogged}
use Rattle.crsm_audit.specs.Accounts.{dropped_from, dropped_in, own_in, own_logged, spelt}
use Rattle.crsm_audit.specs.declared.account.Account.{Account}
use Rattle.crsm_audit.specs.declared.place.Dropped.{Dropped}
use Rattle.crsm_audit.specs.State.{AccountOf, FoundAccount, SheetAdvances, SheetStands, StepsAccount, left_by}
use Rattle.crsm_audit.proofs.Bodies.{last_body, one_prefix, same_prefix}
use Rattle.crsm_audit.proofs.Logs.{AreLogged, any_start, dropped_more, kept_more, last_me, lines_count, log_more, logged_more, none_after, none_dropped, own_more, sheet_leaves, sheet_logged, some_steps, steps_count}
use Rattle.crsm_audit.proofs.Places.{entry_not_last}

-- ---- the log

-- behind a line that is no body it was opened
pub is_opened : (line : SheetLine) (rerun : Rerun) → ((b : List ℕ) → line ≢ Entry b) → OpenedBehind line rerun → HasOpened rerun
is_opened (Entry b) rerun not_body o = absurd (not_body b refl)
is_opened Open rerun not_body o = o
is_opened (In r a b) rerun not_body o = o
is_opened (Tick r) rerun not_body o = o
is_opened (Suspect r m) rerun not_body o = o

-- ---- a body

-- what was added to the account by a body
pub record Finds (body : List ℕ) (old new : Account) : Type 0 where
  pub held : (recs : List Rec) → SpeltBody recs body → new.entries.held ≡ old.entries.held ++ spelt (own_in old.me recs)
  pub me : new.me ≡ old.me
  pub list : new.entries.list ≡ old.entries.list
  pub dropped : new.dropped.items ≡ old.dropped.items

found_more : (me n : ℕ) (bodies : List (List ℕ)) (body : List ℕ) (old new : Account) → FoundAccount me n bodies old → Finds body old new → FoundAccount me n (bodies ++ body ∷ []) new
found_more me n bodies body old new f g = record {
  me_is = g.me ∙ f.me_is;
  list = g.list ∙ f.list;
  held = λ log kept.
      let k = kept_more me n [] bodies body log kept in
      g.held k.recs k.spelt
      ∙ ap (λ (es : List (List ℕ)). es ++ spelt (own_in old.me k.recs)) (f.held k.log k.before)
      ∙ ap (λ (i : ℕ). spelt (own_logged me k.log) ++ spelt (own_in i k.recs)) f.me_is
      ∙ sym (map-append entry_bytes (own_logged me k.log) (own_in me k.recs))
      ∙ ap spelt (sym (own_more me k.log k.recs))
      ∙ ap (λ (l : Log). spelt (own_logged me l)) (sym k.is);
  dropped = g.dropped ∙ f.dropped;
}

no_parts : {A : Type 0} (xs ys : List A) → xs ++ ys ≡ [] → xs ≡ []
no_parts [] ys e = refl
no_parts (x ∷ xs) ys e = absurd (cc)

-- a sheet with bodies alone has made no step
only_bodies : (me n : ℕ) (own : List SheetLine) (body : List ℕ) (steps : List Draft) → LeadTo me n (own ++ Entry body ∷ []) steps → steps ≡ []
only_bodies me n own body steps (inl p) = p.1
only_bodies me n own body steps (inr p) = absurd (entry_not_last own body p.sheet.bodies p.sheet.turns p.sheet.is)

pub finds : (me n first : ℕ) (old new : Rerun) (before after : Account) (own : List SheetLine) (steps : List Draft) (body : List ℕ) (batch : Batch)
    → SheetStands me n first old before own steps → Advances me n first new own steps (Entry body) batch → Finds body before after → SheetAdvances me n first new after own steps (Entry body)
finds me n first old new before after own steps body batch s a f =
    let none = only_bodies me n own body (steps ++ a.more) a.stands.leads in
    record {
      more = a.more;
      stands = record {
        replayed = a.stands;
        account = subst (λ (xs : List Draft). AccountOf me n first (own ++ Entry body ∷ []) xs after) (sym none) (
            λ bodies is.
            let last = last_body own (Entry body) bodies is in
            let one : body ≡ last.body = (cc) in
            let so : AccountOf me n first own [] before = subst (λ (xs : List Draft). AccountOf me n first own xs before) (no_parts steps a.more none) s.account in
            subst (λ (bs : List (List ℕ)). FoundAccount me n bs after) (sym last.is)
            (found_more me n last.before last.body before after (so last.before last.own_is) (subst (λ (b : List ℕ). Finds b before after) one f))
            );
      };
    }

-- ---- a step

-- what was added to the account by a step, at the line with this number
pub record Takes (at : ℕ) (batch : Batch) (ledger : Ledger) (old new : Account) : Type 0 where
  pub held : new.entries.held ≡ old.entries.held ++ spelt (own_in old.me batch.records)
  pub dropped : new.dropped.items ≡ old.dropped.items ++ dropped_in at batch.lines
  pub list : (me n : ℕ) (log : Log) (es : List LogEntry) → LedgerStands me n ledger log → IsPrefixOf es (executed log) → old.entries.list ≡ spelt es → new.entries.list ≡ spelt (executed log)
  pub me : new.me ≡ old.me

-- the account before the step: of this log and these steps, with a part of what is executed now
record Had (me opened : ℕ) (steps : List Draft) (start : Log) (x : Draft) (a : Account) : Type 0 where
  pub me_is : a.me ≡ me
  pub es : List LogEntry
  pub list : a.entries.list ≡ spelt es
  pub prefix : IsPrefixOf es (executed x.replica.log)
  pub held : a.entries.held ≡ spelt (own_logged me start)
  pub dropped : a.dropped.items ≡ dropped_from opened steps
  pub logged : x.replica.log ≡ with_records start x.batch

lines_are : (batch : Batch) (x : Draft) → Answers batch x → batch.lines ≡ lines_told x
unfolding line_of
lines_are batch x a = a.made.lines

took : (me n opened at m k : ℕ) (steps : List Draft) (start : Log) (x : Draft) (batch : Batch) (ledger : Ledger) (old new : Account) → Had me opened steps start x old
    → Takes at batch ledger old new → Answers batch x → at ≡ opened + length steps → LedgerStands m k ledger x.replica.log → AllFit me n x.replica.log → AreSpelt x.replica.log
    → StepsAccount me n opened (steps ++ x ∷ []) new
took me n opened at m k steps start x batch ledger old new h t a at_is says fit spelt_so =
    let left : left_by (steps ++ x ∷ []) ≡ x.replica.log = log_more [] steps x in
    record {
      me_is = t.me ∙ h.me_is;
      list = t.list m k x.replica.log h.es says h.prefix h.list ∙ ap (λ (l : Log). spelt (executed l)) (sym left);
      held =
          t.held
          ∙ ap (λ (es : List (List ℕ)). es ++ spelt (own_in old.me batch.records)) h.held
          ∙ ap (λ (i : ℕ). spelt (own_logged me start) ++ spelt (own_in i batch.records)) h.me_is
          ∙ ap (λ (recs : List Rec). spelt (own_logged me start) ++ spelt (own_in me recs)) a.made.records
          ∙ sym (map-append entry_bytes (own_logged me start) (own_in me x.batch))
          ∙ ap spelt (sym (own_more me start x.batch))
          ∙ ap (λ (l : Log). spelt (own_logged me l)) (sym h.logged ∙ sym left);
      dropped =
          t.dropped
          ∙ ap (λ (ds : List Dropped). ds ++ dropped_in at batch.lines) h.dropped
          ∙ ap (λ (ls : List _). dropped_from opened steps ++ dropped_in at ls) (lines_are batch x a)
          ∙ ap (λ (i : ℕ). dropped_from opened steps ++ dropped_in i (lines_told x)) at_is
          ∙ sym (dropped_more opened steps x);
      fit = subst (AllFit me n) (sym left) fit;
      are_spelt = subst AreSpelt (sym left) spelt_so;
    }

-- ---- which step a line has led to

-- behind `open` a line leads to one step
module _ (me n : ℕ) (own : List SheetLine) (line : SheetLine) (not_body : (b : List ℕ) → line ≢ Entry b) where
  no_bodies : (bodies : List (List ℕ)) → own ++ line ∷ [] ≡ map entry_line bodies → ⊥
  no_bodies bodies is = let last = last_body own line bodies is in not_body last.body last.line_is

  -- before the first step the lines are bodies, and this one is `open`
  pub first_step : (bodies : List (List ℕ)) (turns : List (Turn × ℕ)) → own ++ line ∷ [] ≡ sheet_of bodies turns → length turns ≡ 0 → own ≡ map entry_line bodies
  unfolding sheet_of
  first_step bodies [] is none = same_prefix own (map entry_line bodies) line Open is
  first_step bodies (t ∷ turns) is none = absurd (omega (arith, none))

  -- behind steps there is one more
  pub no_step_less : (bodies others : List (List ℕ)) (turns later : List (Turn × ℕ)) → own ≡ sheet_of bodies turns → own ++ line ∷ [] ≡ sheet_of others later → length turns ≡ length later → ⊥
  unfolding sheet_of
  no_step_less bodies others turns later is more same =
      let front = one_prefix bodies others (map turn_line turns ++ line ∷ []) (map turn_line later)
      (sym (append_assoc (map entry_line bodies) (Open ∷ map turn_line turns) (line ∷ [])) ∙ ap (λ (ls : List SheetLine). ls ++ line ∷ []) (sym is) ∙ more) in
      let a : length own ≡ length (sheet_of bodies turns) = ap length is in
      let b : length (own ++ line ∷ []) ≡ length (sheet_of others later) = ap length more in
      let c = length-append own (line ∷ []) in
      let d = lines_count bodies turns in
      let e = lines_count others later in
      let f : length bodies ≡ length others = ap length front in
      omega (arith, a, b, c, d, e, f, same)

-- ---- the step

-- the log of the sheet is that of its last step
record LastStep (me n : ℕ) (lines : List SheetLine) (steps : List Draft) (x : Draft) (ledger : Ledger) (says : SaysLog me n lines (steps ++ x ∷ []) ledger) : Type 0 where
  pub stands : LedgerStands (replica_of says.sheet).me (replica_of says.sheet).n ledger x.replica.log
  pub fit : AllFit me n x.replica.log
  pub are_spelt : AreSpelt x.replica.log
  pub logged : x.replica.log ≡ with_records (log_after says.sheet.log steps) x.batch

last_step : BatchesAreLogged → (me n : ℕ) (lines : List SheetLine) (steps : List Draft) (x : Draft) (ledger : Ledger) (says : SaysLog me n lines (steps ++ x ∷ []) ledger)
    → LastStep me n lines steps x ledger says
last_step law me n lines steps x ledger says =
    let sheet = says.sheet in
    let r = replica_of sheet in
    let same : r.log ≡ x.replica.log = sheet_leaves me n sheet.log [] sheet.turns ∙ ap (log_after []) (sym says.are) ∙ log_more [] steps x in
    let is = last_me law me n sheet.log sheet.turns in
    record {
      stands = subst (LedgerStands r.me r.n ledger) same says.says;
      fit = subst (AllFit me n) same (subst (λ (k : ℕ). AllFit me k r.log) is.1 (subst (λ (k : ℕ). AllFit k r.n r.log) is.0 says.fit));
      are_spelt = subst AreSpelt same says.spelt;
      logged = logged_more me n sheet.log steps x (subst (AreLogged me n sheet.log) (sym says.are) (sheet_logged law me n sheet.log sheet.turns));
    }

module _ (grows : ExecutedListsGrow) (law : BatchesAreLogged) (me n first : ℕ) (before after : Account) (own : List SheetLine) (line : SheetLine)
    (not_body : (b : List ℕ) → line ≢ Entry b) (batch : Batch) (ledger : Ledger) (t : Takes (first + length own) batch ledger before after) where
  -- the boot
  boots : (x : Draft) → ((bodies : List (List ℕ)) → own ≡ map entry_line bodies → FoundAccount me n bodies before) → Answers batch x
      → SaysLog me n (own ++ line ∷ []) (x ∷ []) ledger → StepsAccount me n (first + (length (own ++ line ∷ []) - length (x ∷ []))) (x ∷ []) after
  boots x found a says =
      let sheet = says.sheet in
      let len = length-append own (line ∷ []) in
      let count : 1 ≡ length (outputs me n sheet.log sheet.turns) = ap length says.are in
      let steps = steps_count me n sheet.log sheet.turns in
      let none : length sheet.turns ≡ 0 = omega (arith, count, steps) in
      let f = found sheet.bodies (first_step me n own line not_body sheet.bodies sheet.turns sheet.is none) in
      let opened = first + (length (own ++ line ∷ []) - length (x ∷ [])) in
      let last = last_step law me n (own ++ line ∷ []) [] x ledger says in
      took me n opened (first + length own) (replica_of sheet).me (replica_of sheet).n [] (log_after sheet.log []) x batch ledger before after
      (record {
        me_is = f.me_is;
        es = [];
        list = f.list;
        prefix = (executed x.replica.log, refl);
        held = f.held sheet.log sheet.kept ∙ ap (λ (l : Log). spelt (own_logged me l)) (sym (none_after sheet.log));
        dropped = f.dropped ∙ none_dropped opened;
        logged = last.logged;
      }) t a (omega (arith, len)) last.stands last.fit last.are_spelt

  -- a turn
  turns_on : (y : Draft) (ys : List Draft) (x : Draft) (p : Replays me n own (y ∷ ys)) → StepsAccount me n (first + (length own - length (y ∷ ys))) (y ∷ ys) before → Answers batch x
      → SaysLog me n (own ++ line ∷ []) ((y ∷ ys) ++ x ∷ []) ledger
      → StepsAccount me n (first + (length (own ++ line ∷ []) - length ((y ∷ ys) ++ x ∷ []))) ((y ∷ ys) ++ x ∷ []) after
  turns_on y ys x p h a says =
      let steps = y ∷ ys in
      let sheet = says.sheet in
      let opened = first + (length own - length steps) in
      let len = length-append own (line ∷ []) in
      let more = length-append steps (x ∷ []) in
      let lines : length own ≡ length (sheet_of p.sheet.bodies p.sheet.turns) = ap length p.sheet.is in
      let lines_are = lines_count p.sheet.bodies p.sheet.turns in
      let count : length steps ≡ length (outputs me n p.sheet.log p.sheet.turns) = ap length p.are in
      let count_is = steps_count me n p.sheet.log p.sheet.turns in
      let fits : length (outputs me n p.sheet.log p.sheet.turns) ≡ length p.sheet.turns + 1 = count_is in
      let same : opened ≡ first + (length (own ++ line ∷ []) - length (steps ++ x ∷ [])) = omega (arith, len, more) in
      let last = last_step law me n (own ++ line ∷ []) steps x ledger says in
      let start : log_after sheet.log steps ≡ left_by steps = any_start sheet.log [] y ys in
      let logged : x.replica.log ≡ with_records (left_by steps) x.batch = last.logged ∙ ap (λ (l : Log). with_records l x.batch) start in
      subst (λ (k : ℕ). StepsAccount me n k (steps ++ x ∷ []) after) same
      (took me n opened (first + length own) (replica_of sheet).me (replica_of sheet).n steps (left_by steps) x batch ledger before after
      (record {
        me_is = h.me_is;
        es = executed (left_by steps);
        list = h.list;
        prefix = subst (λ (l : Log). IsPrefixOf (executed (left_by steps)) (executed l)) (sym logged) (grows (left_by steps) x.batch);
        held = h.held;
        dropped = h.dropped;
        logged = logged;
      }) t a (omega (arith, lines, lines_are, count, fits)) last.stands last.fit last.are_spelt)

  account_of : (steps more : List Draft) → LeadTo me n own steps → AccountOf me n first own steps before → AnswersAll batch more → SaysLog me n (own ++ line ∷ []) (steps ++ more) ledger
      → AccountOf me n first (own ++ line ∷ []) (steps ++ more) after
  account_of [] [] leads h a says = absurd (some_steps me n says.sheet.log says.sheet.turns (sym says.are))
  account_of [] (x ∷ []) leads h a says = boots x h a says
  account_of [] (x ∷ z ∷ more) leads h a says = absurd a
  account_of (y ∷ ys) more (inl p) h a says = absurd (not_nil y ys p.1)
    where
      not_nil : (y : Draft) (ys : List Draft) → y ∷ ys ≡ [] → ⊥
      not_nil y ys e = cc
  account_of (y ∷ ys) [] (inr p) h a says =
      let count : length (y ∷ ys) ≡ length (outputs me n p.sheet.log p.sheet.turns) = ap length p.are in
      let now : length ((y ∷ ys) ++ []) ≡ length (outputs me n says.sheet.log says.sheet.turns) = ap length says.are in
      let none : length ((y ∷ ys) ++ []) ≡ length (y ∷ ys) = ap length (append-nil (y ∷ ys)) in
      let a_is = steps_count me n p.sheet.log p.sheet.turns in
      let b_is = steps_count me n says.sheet.log says.sheet.turns in
      absurd (no_step_less me n own line not_body p.sheet.bodies says.sheet.bodies p.sheet.turns says.sheet.turns p.sheet.is says.sheet.is (omega (arith, count, now, none, a_is, b_is)))
  account_of (y ∷ ys) (x ∷ []) (inr p) h a says = turns_on y ys x p h a says
  account_of (y ∷ ys) (x ∷ z ∷ more) (inr p) h a says = absurd a

  pub steps_on : (old new : Rerun) (steps : List Draft) → SheetStands me n first old before own steps → (adv : Advances me n first new own steps line batch)
      → SaysLog me n (own ++ line ∷ []) (steps ++ adv.more) ledger → SheetAdvances me n first new after own steps line
  steps_on old new steps s adv says = record {
    more = adv.more;
    stands = record { replayed = adv.stands; account = account_of steps adv.more s.replayed.leads s.account adv.answers says };
  }
