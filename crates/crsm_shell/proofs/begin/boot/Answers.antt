use Rattle.std.proofs.Common.{ℕ, List, ◌++◌, sym, ◌∙◌, ap, subst}
use Rattle.std.proofs.Math.Logic.{∥∥₁_elim, ∥∥₁_map}
use Rattle.std.specs.List.{AllByRecursion}
use Rattle.crsm_base.specs.declared.rec.Rec.{Rec}
use Rattle.crsm_base.specs.Records.{FitsRec, body_bytes}
use Rattle.crsm_shell.proofs.Boots.{boot_lines}
use Rattle.crsm_shell.proofs.Propositions.{records_prop}
use Rattle.crsm_shell.proofs.begin.boot.Goals as goal

pub begin-requires : goal.begin-requires
begin-requires c = λ _. ∥∥₁_map c.requires (λ one. record { me = one.me; n = one.n; log = one.log; awaits = one.awaits.waits; room = one.room })

pub write_records-requires : goal.write_records-requires
write_records-requires c =
    subst (AllByRecursion FitsRec) (sym c.as_slice.ensures)
    (∥∥₁_elim c.requires (records_prop c.in_ok-batch.batch.records) (λ one. (c.in_ok-batch.ensures.ruled one.me one.n one.log one.awaits one.room).0.records))

pub returns : goal.returns
returns c me n log awaits room =
    let a = c.in_ok-batch.ensures.ruled me n log awaits room in
    record {
      core = a.1;
      body = c.in-Ok.ensures.behind ∙ ap (λ (b : List ℕ). b ++ body_bytes c.as_slice.result.now) c.new-body.ensures
          ∙ ap (λ (rs : List Rec). body_bytes rs) (c.as_slice.ensures ∙ a.0.made.records);
      lines = boot_lines me n log c.in_ok-batch.batch a.0.made;
      spelt = subst (AllByRecursion FitsRec) a.0.made.records a.0.records;
    }
