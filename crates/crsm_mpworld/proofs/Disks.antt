-- Logs on disks whose calls do not fail, and what is left on them.
use Rattle.std.proofs.Common.{◌≡◌, ℕ, ◌<◌, ◌≤◌, Bool, true, false, List, [], ◌∷◌, ◌++◌, length, map, Option, Some, None, refl, sym, ◌∙◌, ap, subst, arith}
use Rattle.std.specs.List.{AllByRecursion, flat_map}
use Rattle.std.specs.Option.{option_map_or}
use Rattle.std.proofs.lemmas.List.{length-append}
use Rattle.std.proofs.Math.Logic.{∥∥₁_elim}
use Rattle.crsm_port_faults.specs.Plan.{Plan}
use Rattle.crsm_disk.specs.Memory.{Memory, meaning_of, good_left, holding}
use Rattle.crsm_log.specs.Format.{reading, found, bodies_in, bodies_of}
use Rattle.crsm_log.specs.Log.{Used, less}
use Rattle.crsm_log.specs.Words.{disk_of}
use Rattle.crsm_log.specs.declared.log.Log.{Log as DiskLog}
use Rattle.crsm_mpspec.specs.declared.rec.MpRec.{MpRec}
use Rattle.crsm_mpspec.specs.Log.{Log}
use Rattle.crsm_mpspec.specs.Records.{FitsRec, SpeltBody, body_bytes, rec_bytes}
use Rattle.crsm_mpspec.specs.Replica.{Replica}
use Rattle.crsm_mpspec.specs.World.{body_size}
use Rattle.crsm_mpspec.specs.Draft.{begun}
use Rattle.crsm_mpspec.specs.Step.{step}
use Rattle.crsm_mpspec.specs.declared.batch.MpBatch.{MpBatch}
use Rattle.crsm_mpspec.specs.declared.input.MpInput.{MpInput}
use Rattle.crsm_mpspec.specs.declared.message.MpMessage.{MpMessage}
use Rattle.crsm_mpreplica.specs.Made.{Answers, FitsSent, outcome_of, to_send}
use Rattle.crsm_mpledger.specs.Sound.{IsSound, AreBodies, with_records}
use Rattle.crsm_mpcore.specs.declared.replica.MpCore.{MpCore}
use Rattle.crsm_mpcore.specs.Core.{MpCoreStands}
use Rattle.crsm_mpworld.specs.Fits.{FitsSend}
use Rattle.crsm_mpworld.specs.Disks.{IsDisk, IsSomeOn, IsOn, bytes_of}
use Rattle.crsm_mpworld.proofs.Fits.{records_prop, sends_prop}
use Rattle.crsm_mpworld.proofs.Growing.{step_grows}

-- what cannot be
pub both : (b : Bool) → b ≡ true → b ≡ false → ⊥
both b is other = cc

-- ---- calls that go well

-- the plan of a disk in memory for its calls
abbrev pub plan_of : Memory → Plan
plan_of m = record { calls = m.room_calls; bytes = m.room_bytes; good = good_left m }

-- where all calls went well before, all go well after some of them
pub well_after : (k : ℕ) (p : Plan) (new : Memory) → p.good ≡ None → Used k p (meaning_of new).plan → good_left new ≡ None
well_after k p new well used =
    let told : Some (plan_of new) ≡ Some used.left.0 = used.left.1 in
    ap (λ (o : Option Plan). option_map_or (λ (q : Plan). q.good) o None) told ∙ used.left.2 ∙ ap (less k) well

-- ---- bodies

pub rec_some : (r : MpRec) → 0 < length (rec_bytes r)
unfolding rec_bytes
rec_some MpRec.Boot = omega arith
rec_some (MpRec.Promise b) = omega arith
rec_some (MpRec.Accept slot b v) = omega arith
rec_some (MpRec.Choose slot v) = omega arith

-- where there are records there are bytes
pub body_some : (recs : List MpRec) → 0 < length recs → 0 < length (body_bytes recs)
unfolding body_bytes
body_some [] h = absurd (omega (arith, h))
body_some (r ∷ recs) h = let some = rec_some r in let long = length-append (rec_bytes r) (flat_map rec_bytes recs) in omega (arith, some, long)

-- and without records there are none
pub no_size : (recs : List MpRec) → length recs ≤ 0 → 0 ≡ body_size recs
unfolding body_size body_bytes
no_size [] h = refl
no_size (r ∷ recs) h = absurd (omega (arith, h))

pub spelt_body : (recs : List MpRec) → AllByRecursion FitsRec recs → 1 ≤ length recs → SpeltBody recs (body_bytes recs)
spelt_body recs fit some = record { fits = record { some = some; fit = fit }; is = refl }

-- one body more
pub bodies_push : (log before : Log) (bodies : List (List ℕ)) (body : List ℕ) (recs : List MpRec) → AreBodies log bodies before → SpeltBody recs body →
    AreBodies log (bodies ++ body ∷ []) (with_records before recs)
bodies_push log before [] body recs are spelt = (recs, spelt, ap (λ l. with_records l recs) are)
bodies_push log before (b ∷ bodies) body recs are spelt = (are.0, are.1, bodies_push (with_records log are.0) before bodies body recs are.2 spelt)

pub on_disk : (disk : Memory) (bodies : List (List ℕ)) (log : Log) → reading (bytes_of disk) ≡ found bodies → AreBodies [] bodies log → IsSound log → IsDisk disk log
on_disk disk bodies log is are sound =
    let same : bodies_of (bytes_of disk) ≡ bodies = ap bodies_in is in
    record { sound = sound; whole = is ∙ sym (ap found same); bodies = subst (λ (bs : List (List ℕ)). AreBodies [] bs log) (sym same) are }

-- the disk with a body more
pub with_body : (old new : Memory) (log : Log) (recs : List MpRec) (body : List ℕ) → IsDisk old log → SpeltBody recs body → IsSound (with_records log recs) →
    reading (bytes_of new) ≡ found (bodies_of (bytes_of old) ++ body ∷ []) → IsDisk new (with_records log recs)
with_body old new log recs body h spelt sound is =
    on_disk new (bodies_of (bytes_of old) ++ body ∷ []) (with_records log recs) is (bodies_push [] log (bodies_of (bytes_of old)) body recs h.bodies spelt) sound

-- no bodies are read from an empty disk
pub empty_bodies : (disk : Memory) (bodies : List (List ℕ)) → disk ≡ holding [] [] None 0 → reading (bytes_of disk) ≡ found bodies → bodies ≡ []
empty_bodies disk bodies e is = ap bodies_in (sym is ∙ ap (λ d. reading (bytes_of d)) e)

-- the log of a core is sound
pub core_sound : (core : MpCore) (r : Replica) → MpCoreStands core r → IsSound r.log
unfolding begun
core_sound core r h = h.stands.ledger.sound

-- A core has made a step, whose records are kept.
pub stepped : {g : _} (core new_core : MpCore) (log new_log : DiskLog Memory g) (r : Replica) (input : MpInput) (from : ℕ) (recs : List MpRec) → IsOn core log r →
    recs ≡ (step r input from).batch → MpCoreStands new_core (step r input from).replica →
    ((kept : Log) → IsDisk (disk_of log) kept → IsSound (with_records kept recs) → IsDisk (disk_of new_log) (with_records kept recs)) →
    IsOn new_core new_log (step r input from).replica
stepped core new_core log new_log r input from recs up is stands keeps =
    let whole : with_records r.log recs ≡ (step r input from).replica.log = ap (with_records r.log) is ∙ sym (step_grows r input from) in
    let sound = subst IsSound (sym whole) (core_sound new_core (step r input from).replica stands) in
    record { stands = stands; kept = subst (IsDisk (disk_of new_log)) whole (keeps r.log up.kept sound) }

-- the records of a step fit, whatever replica the core is
pub batch_fits : {g : _} (core : MpCore) (log : DiskLog Memory g) (input : MpInput) (from : ℕ) (batch : MpBatch) → ∥ IsSomeOn core log ∥₁ →
    ((r : Replica) → MpCoreStands core r → Answers batch (outcome_of (step r input from))) → AllByRecursion FitsRec batch.records
batch_fits core log input from batch some made =
    ∥∥₁_elim some (records_prop batch.records) (λ s.
    let a = made s.replica s.is.stands in subst (AllByRecursion FitsRec) (sym a.records) a.records_fit)

-- so does each message
fit_mapped : (xs : List (ℕ × MpMessage)) → AllByRecursion FitsSent xs → AllByRecursion FitsSend (map to_send xs)
unfolding to_send
fit_mapped [] fit = tt
fit_mapped (x ∷ xs) fit = (fit.0, fit_mapped xs fit.1)

pub batch_sends : {g : _} (core : MpCore) (log : DiskLog Memory g) (input : MpInput) (from : ℕ) (batch : MpBatch) → ∥ IsSomeOn core log ∥₁ →
    ((r : Replica) → MpCoreStands core r → Answers batch (outcome_of (step r input from))) → AllByRecursion FitsSend batch.sends
batch_sends core log input from batch some made =
    ∥∥₁_elim some (sends_prop batch.sends) (λ s.
    let a = made s.replica s.is.stands in subst (AllByRecursion FitsSend) (sym a.sends) (fit_mapped _ a.sends_fit))
