-- The output of a step, with one item more.
use Rattle.std.proofs.Common.{◌≡◌, ℕ, List, [], ◌∷◌, ◌++◌, map, refl, ap, sym, ◌∙◌}
use Rattle.std.specs.List.{AllByRecursion}
use Rattle.std.proofs.lemmas.List.{map-append}
use Rattle.crsm_fact_log.proofs.Lists.{all-append, all-push}
use Rattle.crsm_mpspec.specs.declared.line.MpLine.{MpLine}
use Rattle.crsm_mpspec.specs.declared.message.MpMessage.{MpMessage}
use Rattle.crsm_mpspec.specs.declared.rec.MpRec.{MpRec}
use Rattle.crsm_mpspec.specs.declared.send.MpSend.{MpSend}
use Rattle.crsm_mpspec.specs.Records.{FitsRec}
use Rattle.crsm_mpspec.specs.Sends.{sends_to}
use Rattle.crsm_mpreplica.specs.declared.made.StepOutput.{StepOutput}
use Rattle.crsm_mpreplica.specs.Fitting.{FitsMessage}
use Rattle.crsm_mpreplica.specs.Made.{MadeStands, Outcome, FitsSent, to_send}

pub records : (m : StepOutput) (o : Outcome) (rec : MpRec) (after : List MpRec) → MadeStands m o → FitsRec rec → after ≡ m.batch.records ++ rec ∷ []
    → MadeStands (record m { batch = record m.batch { records = after } }) (record o { batch = o.batch ++ rec ∷ [] })
records m o rec after s fits is = record {
  records = is ∙ ap (λ (recs : List MpRec). recs ++ rec ∷ []) s.records;
  lines = s.lines;
  sends = s.sends;
  replies = s.replies;
  records_fit = all-push FitsRec o.batch rec s.records_fit fits;
  sends_fit = s.sends_fit;
}

pub tells : (m : StepOutput) (o : Outcome) (line : MpLine) (after : List MpLine) → MadeStands m o → after ≡ m.batch.lines ++ line ∷ []
    → MadeStands (record m { batch = record m.batch { lines = after } }) (record o { lines = o.lines ++ line ∷ [] })
tells m o line after s is = record {
  records = s.records;
  lines = is ∙ ap (λ (ls : List MpLine). ls ++ line ∷ []) s.lines;
  sends = s.sends;
  replies = s.replies;
  records_fit = s.records_fit;
  sends_fit = s.sends_fit;
}

to_each : (message : MpMessage) (ks : List ℕ) → map to_send (map (λ k. (k, message)) ks) ≡ sends_to message ks
unfolding to_send
to_each message [] = refl
to_each message (k ∷ ks) = ap (λ (ms : List MpSend). to_send (k, message) ∷ ms) (to_each message ks)

each-fits : (message : MpMessage) (ks : List ℕ) → FitsMessage message → AllByRecursion FitsSent (map (λ k. (k, message)) ks)
each-fits message [] fits = tt
each-fits message (k ∷ ks) fits = (fits, each-fits message ks fits)

-- a message to each of these
pub sends : (m : StepOutput) (o : Outcome) (ks : List ℕ) (message : MpMessage) (after : List MpSend) → MadeStands m o → FitsMessage message
    → after ≡ m.batch.sends ++ sends_to message ks → MadeStands (record m { batch = record m.batch { sends = after } }) (record o { sends = o.sends ++ map (λ k. (k, message)) ks })
sends m o ks message after s fits is = record {
  records = s.records;
  lines = s.lines;
  sends = is ∙ ap (λ (ms : List MpSend). ms ++ sends_to message ks) s.sends ∙ ap (λ (ms : List MpSend). map to_send o.sends ++ ms) (sym (to_each message ks)) ∙ sym (map-append to_send o.sends (map (λ k. (k, message)) ks));
  replies = s.replies;
  records_fit = s.records_fit;
  sends_fit = all-append FitsSent o.sends (map (λ k. (k, message)) ks) s.sends_fit (each-fits message ks fits);
}

pub replied : (m : StepOutput) (o : Outcome) (line : MpLine) (after : List MpLine) → MadeStands m o → after ≡ m.batch.replies ++ line ∷ []
    → MadeStands (record m { batch = record m.batch { replies = after } }) (record o { replies = o.replies ++ line ∷ [] })
replied m o line after s is = record {
  records = s.records;
  lines = s.lines;
  sends = s.sends;
  replies = is ∙ ap (λ (ls : List MpLine). ls ++ line ∷ []) s.replies;
  records_fit = s.records_fit;
  sends_fit = s.sends_fit;
}
