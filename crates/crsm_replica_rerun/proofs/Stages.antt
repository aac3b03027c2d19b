-- The effect of a line on a stage, and on its replay.
use Rattle.std.proofs.Common.{◌≡◌, ℕ, ◌+◌, List, [], ◌∷◌, ◌++◌, refl, sym, ◌∙◌, ap, subst, arith, inl, inr}
use Rattle.std.specs.Prelude.{Ok}
use Rattle.std.specs.Global.{Box}
use Rattle.crsm_base.specs.declared.Line.{Line}
use Rattle.std.proofs.lemmas.List.{append-nil, length-append}
use Rattle.crsm_spec.specs.Log.{Log}
use Rattle.crsm_spec.specs.Replica.{Replica}
use Rattle.crsm_spec.specs.Draft.{Draft}
use Rattle.crsm_spec.specs.Step.{boot}
use Rattle.crsm_spec.specs.Node.{Turn, turn}
use Rattle.crsm_spec.specs.World.{Site, final_line}
use Rattle.crsm_replica_output.specs.declared.batch.Batch.{Batch}
use Rattle.crsm_core.specs.declared.replica.Core.{Core}
use Rattle.crsm_core.specs.Core.{Answers, CoreStands}
use Rattle.crsm_ledger.specs.Recovered.{AreKept, IsBadAt}
use Rattle.crsm_schedule.specs.Transcript.{line_text}
use Rattle.crsm_text_sheet.specs.declared.line.SheetLine.{SheetLine}
use Rattle.crsm_text_sheet.specs.declared.line.SheetLine.TheVariants.{Entry, Open}
use Rattle.crsm_text_sheet.specs.Sheets.{turn_line}
use Rattle.crsm_replica_rerun.specs.declared.error.RerunError.{RerunError}
use Rattle.crsm_replica_rerun.specs.declared.stage.SheetStage.{SheetStage}
use Rattle.crsm_replica_rerun.specs.declared.stage.SheetStage.TheVariants as stages
use Rattle.crsm_replica_rerun.specs.declared.rerun.Rerun.{Rerun}
use Rattle.crsm_replica_rerun.specs.Sheets.{BeginASheet, LeadTo, replica_after, replica_of, steps_of}
use Rattle.crsm_replica_rerun.specs.Stages.{AnswersAll, BootsOn, IfBadLog, IsNothing, IsRefusal, Runs, StageAdvances, StageStands, TakesLine}
use Rattle.crsm_replica_rerun.specs.Texts.{ending_of, shown_text, steps_text}
use Rattle.crsm_replica_rerun.specs.Replaying.{AddsText, Advances, Ends, IsNoSheet, RerunStands}
use Rattle.crsm_replica_rerun.proofs.Prefixes.{IsNoTurn, bodies_are_no_sheet, bodies_more, not_before_open, not_behind_open, opened, turns_more}
use Rattle.crsm_replica_rerun.proofs.Steps.{after_boot, after_more, outputs_boot, outputs_more}
use Rattle.crsm_replica_rerun.proofs.StepTexts.{shown_more}

-- ---- a stage

-- a body more
pub finds : (me n : ℕ) (bodies : List (List ℕ)) (body : List ℕ) (lines : List SheetLine) (steps : List Draft) (batch : Batch)
    → StageStands me n (stages.Finding bodies) lines steps → IsNothing batch → StageAdvances me n (stages.Finding (bodies ++ body ∷ [])) lines steps (Entry body) batch
finds me n bodies body lines steps batch s nothing = record {
  more = [];
  answers = nothing;
  stands = (ap (λ (ls : List SheetLine). ls ++ Entry body ∷ []) s.0 ∙ sym (bodies_more bodies body), append-nil steps ∙ s.1);
}

-- the boot
pub opens : (me n : ℕ) (bodies : List (List ℕ)) (core : Box Core) (lines : List SheetLine) (steps : List Draft) (batch : Batch) (log : Log)
    → StageStands me n (stages.Finding bodies) lines steps → AreKept me n [] bodies log → BootsOn me n log core.value batch
    → StageAdvances me n (stages.Running core) lines steps Open batch
opens me n bodies core lines steps batch log s kept boots = record {
  more = boot me n log ∷ [];
  answers = boots.answers;
  stands = record {
    sheet = record { bodies = bodies; turns = []; log = log; is = ap (λ (ls : List SheetLine). ls ++ Open ∷ []) s.0 ∙ sym (opened bodies); kept = kept };
    are = ap (λ (xs : List Draft). xs ++ boot me n log ∷ []) s.1 ∙ sym (outputs_boot me n log);
    stands = subst (CoreStands core.value) (sym (after_boot (boot me n log).replica)) boots.stands;
  };
}

-- a turn
pub turns_core : (me n : ℕ) (old new : Core) (lines : List SheetLine) (steps : List Draft) (t : Turn × ℕ) (batch : Batch)
    → ((r : Replica) → CoreStands old r → Answers batch (turn r t) × CoreStands new (turn r t).replica)
    → Runs me n old lines steps → (x : Draft) × Answers batch x × Runs me n new (lines ++ turn_line t ∷ []) (steps ++ x ∷ [])
turns_core me n old new lines steps t batch takes runs =
    let sheet = runs.sheet in
    let r : Replica = replica_after (boot me n sheet.log).replica sheet.turns in
    let step = takes r runs.stands in (
      turn r t,
      step.0,
      record {
        sheet = record {
          bodies = sheet.bodies;
          turns = sheet.turns ++ t ∷ [];
          log = sheet.log;
          is = ap (λ (ls : List SheetLine). ls ++ turn_line t ∷ []) sheet.is ∙ sym (turns_more sheet.bodies sheet.turns t);
          kept = sheet.kept;
        };
        are = ap (λ (xs : List Draft). xs ++ turn r t ∷ []) runs.are ∙ sym (outputs_more me n sheet.log sheet.turns t);
        stands = subst (CoreStands new) (sym (after_more (boot me n sheet.log).replica sheet.turns t)) step.1;
      },
    )

pub turns : (me n : ℕ) (old : Core) (new : Box Core) (lines : List SheetLine) (steps : List Draft) (t : Turn × ℕ) (batch : Batch)
    → Runs me n old lines steps → ((r : Replica) → CoreStands old r → Answers batch (turn r t) × CoreStands new.value (turn r t).replica)
    → StageAdvances me n (stages.Running new) lines steps (turn_line t) batch
turns me n old new lines steps t batch runs takes =
    let a = turns_core me n old new.value lines steps t batch takes runs in
    record { more = a.0 ∷ []; answers = a.1; stands = a.2 }

-- a turn before `open`
pub too_early : (me n : ℕ) (bodies : List (List ℕ)) (lines : List SheetLine) (steps : List Draft) (t : Turn × ℕ)
    → StageStands me n (stages.Finding bodies) lines steps → BeginASheet (lines ++ turn_line t ∷ []) → ⊥
too_early me n bodies lines steps t s = not_before_open t lines bodies s.0

-- what is no turn, behind `open`
pub too_late : (me n : ℕ) (core : Box Core) (lines : List SheetLine) (steps : List Draft) (l : SheetLine) → IsNoTurn l
    → StageStands me n (stages.Running core) lines steps → BeginASheet (lines ++ l ∷ []) → ⊥
too_late me n core lines steps l none runs = not_behind_open l none lines runs.sheet.bodies runs.sheet.turns runs.sheet.is

-- the same of a stage that is no other
pub refused_early : (me n : ℕ) (stage : SheetStage) (lines : List SheetLine) (steps : List Draft) (t : Turn × ℕ)
    → StageStands me n stage lines steps → ((core : Box Core) → stage ≡ stages.Running core → ⊥) → BeginASheet (lines ++ turn_line t ∷ []) → ⊥
refused_early me n (stages.Finding bodies) lines steps t s not = too_early me n bodies lines steps t s
refused_early me n (stages.Running core) lines steps t s not = absurd (not core refl)
refused_early me n stages.Spent lines steps t s not = absurd s

pub refused_late : (me n : ℕ) (stage : SheetStage) (lines : List SheetLine) (steps : List Draft) (l : SheetLine) → IsNoTurn l
    → StageStands me n stage lines steps → ((bodies : List (List ℕ)) → stage ≡ stages.Finding bodies → ⊥) → BeginASheet (lines ++ l ∷ []) → ⊥
refused_late me n (stages.Finding bodies) lines steps l none s not = absurd (not bodies refl)
refused_late me n (stages.Running core) lines steps l none s not = too_late me n core lines steps l none s
refused_late me n stages.Spent lines steps l none s not = absurd s

-- the log is bad, or memory ran out
pub refused_log : (me n : ℕ) (bodies : List (List ℕ)) (lines : List SheetLine) (steps : List Draft) (why : RerunError)
    → StageStands me n (stages.Finding bodies) lines steps → IfBadLog why (IsBadAt me n bodies) → IsRefusal me n lines Open why
refused_log me n bodies lines steps RerunError.Misplaced s bad = absurd bad
refused_log me n bodies lines steps (RerunError.BadLog entry why) s bad = (refl, record { are = record { bodies = bodies; is = s.0 }; bad = bad })
refused_log me n bodies lines steps RerunError.NoMemory s bad = tt

-- bodies alone are no sheet
pub no_sheet : (me n : ℕ) (stage : SheetStage) (bodies : List (List ℕ)) (lines : List SheetLine) (steps : List Draft)
    → stage ≡ stages.Finding bodies → StageStands me n stage lines steps → IsNoSheet lines
no_sheet me n stage bodies lines steps is s =
    let found = subst (λ (x : SheetStage). StageStands me n x lines steps) is s in bodies_are_no_sheet lines bodies found.0

-- ---- the replay

leads_of : (me n : ℕ) (stage : SheetStage) (lines : List SheetLine) (steps : List Draft) → StageStands me n stage lines steps → LeadTo me n lines steps
leads_of me n (stages.Finding bodies) lines steps s = inl (record { bodies = bodies; is = s.0 }, s.1)
leads_of me n (stages.Running core) lines steps s = inr (record { sheet = s.sheet; are = s.are })
leads_of me n stages.Spent lines steps s = absurd s

module _ (me n first : ℕ) (old : Rerun) (lines : List SheetLine) (steps : List Draft) (s : RerunStands me n first old lines steps) where
  inside : StageStands old.me old.n old.stage lines steps
  inside =
      subst (λ (k : ℕ). StageStands k old.n old.stage lines steps) (sym s.is_me)
      (subst (λ (k : ℕ). StageStands me k old.stage lines steps) (sym s.began) s.stage)

  pub advances : (new : Rerun) (line : SheetLine) (batch : Batch) → TakesLine old.me old.n old.stage line (Ok batch) new.stage
      → new.me ≡ old.me → new.n ≡ old.n → new.next ≡ old.next + 1 → Advances me n first new lines steps line batch
  advances new line batch takes same_me same_n next =
      let a = takes lines steps inside in
      let ls : List SheetLine = lines ++ line ∷ [] in
      let xs : List Draft = steps ++ a.more in
      let stage : StageStands me n new.stage ls xs =
      subst (λ (k : ℕ). StageStands k n new.stage ls xs) s.is_me
      (subst (λ (k : ℕ). StageStands old.me k new.stage ls xs) s.began a.stands) in
      let one = length-append lines (line ∷ []) in
      let was = s.next in
      record {
        more = a.more;
        answers = a.answers;
        stands = record { is_me = same_me ∙ s.is_me; began = same_n ∙ s.began; next = omega (arith, one, was, next); stage = stage; leads = leads_of me n new.stage ls xs stage };
      }

  -- the text of a line
  pub adds_text : (new : Rerun) (line : SheetLine) (batch : Batch) (before after : List ℕ) → Advances me n first new lines steps line batch
      → ((xs : List Draft) → AnswersAll batch xs → after ≡ before ++ steps_text old.next xs) → AddsText me n first new lines steps line before after
  adds_text new line batch before after a added = record {
    more = a.more;
    stands = a.stands;
    text = steps_text old.next a.more;
    added = added a.more a.answers;
    shows = shown_more me n first lines steps line a.more batch s.leads a.stands.leads a.answers
        ∙ ap (λ (k : ℕ). shown_text first lines steps ++ steps_text k a.more) (sym s.next);
  }

  -- the end of a sheet
  pub ends : (core : Box Core) → old.stage ≡ stages.Running core → (line : Line)
      → ((r : Replica) → CoreStands core.value r → line ≡ final_line (old.me, Site.Up r)) → Ends me n first lines steps line
  ends core is line final =
      let runs = subst (λ (x : SheetStage). StageStands me n x lines steps) is s.stage in
      let r : Replica = replica_of runs.sheet in
      let last : line ≡ ending_of runs.sheet = final r runs.stands ∙ ap (λ (k : ℕ). final_line (k, Site.Up r)) s.is_me in
      record {
        sheet = runs.sheet;
        are = runs.are;
        is = last;
        text = record {
          sheet = runs.sheet;
          is = ap (λ (xs : List Draft). shown_text first lines xs ++ line_text 0 line) runs.are
              ∙ ap (λ (l : Line). shown_text first lines (steps_of runs.sheet) ++ line_text 0 l) last;
        };
      }
