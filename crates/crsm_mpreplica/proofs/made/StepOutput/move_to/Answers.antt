use Rattle.std.proofs.Common.{◌∙◌, ap}
use Rattle.crsm_mpspec.specs.declared.batch.MpBatch.{MpBatch}
use Rattle.crsm_mpreplica.proofs.made.StepOutput.move_to.Goals as goal

pub returns-clause-out : goal.returns-clause-out
returns-clause-out c o s =
    let was = c.swap.ensures.y_after in
    record {
      records = ap (λ (b : MpBatch). b.records) was ∙ s.records;
      sends = ap (λ (b : MpBatch). b.sends) was ∙ s.sends;
      lines = ap (λ (b : MpBatch). b.lines) was ∙ s.lines;
      replies = ap (λ (b : MpBatch). b.replies) was ∙ s.replies;
      records_fit = s.records_fit;
      sends_fit = s.sends_fit;
    }

pub returns-clause-none : goal.returns-clause-none
returns-clause-none c o s =
    record {
      records = c.clear.ensures.records;
      lines = c.clear.ensures.lines;
      sends = c.clear.ensures.sends;
      replies = c.clear.ensures.replies;
      records_fit = tt;
      sends_fit = tt;
    }
