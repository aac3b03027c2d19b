-- The output of a boot.
use Rattle.std.proofs.Common.{◌≡◌, ℕ, ◌<◌, ◌≤◌, ◌+◌, Bool, true, false, cond, List, [], ◌∷◌, ◌++◌, length, refl, sym, ap, ◌∙◌, subst, arith}
use Rattle.std.proofs.Math.Logic.{∥∥₁_elim}
use Rattle.std.proofs.Props.{props}
use Rattle.std.proofs.lemmas.List.{length-append}
use Rattle.std.specs.List.{flat_map}
use Rattle.std.specs.Prelude.{fold, ◌^◌, if◌then◌else◌}
use Rattle.crsm_disk.specs.Memory.{Memory, meaning_of}
use Rattle.crsm_log.specs.Format.{Entry, Items, whole, broken, reading, reading_in, found, bodies_among, bodies_in, bodies_of, entries_in, is_cluster, items_of, size}
use Rattle.crsm_log.specs.Log.{IsSettled}
use Rattle.crsm_log.specs.Words.{disk_of}
use Rattle.crsm_log.specs.declared.log.Log.{Log as DiskLog}
use Rattle.crsm_mpspec.specs.declared.rec.MpRec.{MpRec}
use Rattle.crsm_mpspec.specs.Log.{Log, boots, is_boot}
use Rattle.crsm_mpspec.specs.Records.{SpeltBody, body_bytes, rec_bytes}
use Rattle.crsm_mpspec.specs.Replica.{fresh, note_after}
use Rattle.crsm_mpspec.specs.Draft.{begun, keep, keep_as}
use Rattle.crsm_mpspec.specs.Step.{boot}
use Rattle.crsm_mpspec.specs.World.{body_size}
use Rattle.crsm_mpledger.specs.Sound.{AreBodies, with_records}
use Rattle.crsm_mpcore.specs.declared.replica.MpCore.{MpCore}
use Rattle.crsm_mpcore.specs.Core.{CanBoot, MpCoreStands}
use Rattle.crsm_mpworld.specs.Disks.{IsDisk, IsSomeOn, IsOn, bytes_of}
use Rattle.crsm_mpworld.proofs.Disks.{body_some, rec_some, spelt_body, with_body}

-- a boot leaves nothing but one record more
boot_is : (me n : ℕ) (log : Log) → (boot me n log).replica ≡ fresh me n (MpRec.Boot ∷ log)
unfolding boot keep keep_as begun fresh note_after
boot_is me n log = refl

pub boot_size : (me n : ℕ) (log : Log) → body_size (MpRec.Boot ∷ []) ≡ body_size (boot me n log).batch
unfolding boot keep keep_as begun
boot_size me n log = refl

counted : (m : ℕ) (log : Log) → fold (λ a x. a + cond (is_boot x) 1 0) (m + 1) log ≡ fold (λ a x. a + cond (is_boot x) 1 0) m log + 1
counted m [] = refl
counted m (rec ∷ log) = ap (λ (k : ℕ). fold (λ a x. a + cond (is_boot x) 1 0) k log) (omega arith) ∙ counted (m + cond (is_boot rec) 1 0) log

pub boot_count : (log : Log) → boots (MpRec.Boot ∷ log) ≡ boots log + 1
unfolding boots is_boot
boot_count log = counted 0 log

-- the boots that the log of a replica counts, which has just booted
pub fresh_boots : (me n : ℕ) (log : Log) (count : ℕ) → count ≡ boots (fresh me n (MpRec.Boot ∷ log)).log → count ≡ boots log + 1
unfolding fresh
fresh_boots me n log count is = is ∙ boot_count log

pub boot_body : 0 < length (body_bytes (MpRec.Boot ∷ []))
boot_body = body_some (MpRec.Boot ∷ []) (omega arith)

pub log_of_fresh : (me n : ℕ) (log : Log) → (fresh me n log).log ≡ log
unfolding fresh
log_of_fresh me n log = refl

-- a core of a log that is on the disk, before its first step
pub core_fresh : {g : _} (core : MpCore) (new_log : DiskLog Memory g) (me n : ℕ) (log : Log) → MpCoreStands core (fresh me n log) → IsDisk (disk_of new_log) log →
    IsOn core new_log (fresh me n log)
core_fresh core new_log me n log stands kept = record { stands = stands; kept = subst (IsDisk (disk_of new_log)) (sym (log_of_fresh me n log)) kept }

-- The body of a boot was put on the disk, and the core counts it.
pub booted : {g : _} (core : MpCore) (old_log new_log : DiskLog Memory g) (me n : ℕ) (log : Log) (body put : List ℕ) → body ≡ body_bytes (MpRec.Boot ∷ []) → put ≡ body →
    IsDisk (disk_of old_log) log → reading (bytes_of (disk_of new_log)) ≡ found (bodies_of (bytes_of (disk_of old_log)) ++ put ∷ []) →
    MpCoreStands core (fresh me n (MpRec.Boot ∷ log)) → IsOn core new_log (boot me n log).replica
booted core old_log new_log me n log body put is e h now stands =
    let recs = MpRec.Boot ∷ [] in
    let spelt : SpeltBody recs put = subst (SpeltBody recs) (sym (e ∙ is)) (spelt_body recs (tt, tt) (omega arith)) in
    let kept = with_body (disk_of old_log) (disk_of new_log) log recs put h spelt (tt, h.sound) now in
    subst (IsOn core new_log) (sym (boot_is me n log)) (core_fresh core new_log me n (MpRec.Boot ∷ log) stands kept)

-- ---- a log has fewer boots than bytes

abbrev text_len : List (List ℕ) → ℕ
text_len [] = 0
text_len (body ∷ bodies) = length body + text_len bodies

records_few : (recs : List MpRec) → length recs ≤ length (body_bytes recs)
unfolding body_bytes
records_few [] = omega arith
records_few (r ∷ recs) =
    let some = rec_some r in
    let long = length-append (rec_bytes r) (flat_map rec_bytes recs) in
    let rest = records_few recs in omega (arith, some, long, rest)

boots_one : (rec : MpRec) (log : Log) → boots (rec ∷ log) ≤ boots log + 1
unfolding boots is_boot
boots_one MpRec.Boot log = let e = boot_count log in omega (arith, e)
boots_one (MpRec.Promise b) log = let e : boots (MpRec.Promise b ∷ log) ≡ boots log = refl in omega (arith, e)
boots_one (MpRec.Accept slot b v) log = let e : boots (MpRec.Accept slot b v ∷ log) ≡ boots log = refl in omega (arith, e)
boots_one (MpRec.Choose slot v) log = let e : boots (MpRec.Choose slot v ∷ log) ≡ boots log = refl in omega (arith, e)

boots_with : (log : Log) (recs : List MpRec) → boots (with_records log recs) ≤ boots log + length recs
boots_with log [] = omega arith
boots_with log (r ∷ recs) = let one = boots_one r log in let rest = boots_with (r ∷ log) recs in omega (arith, one, rest)

boots_are : (log all : Log) (bodies : List (List ℕ)) → AreBodies log bodies all → boots all ≤ boots log + text_len bodies
boots_are log all [] are = let e = ap boots are in omega (arith, e)
boots_are log all (body ∷ bodies) are =
    let here = boots_with log are.0 in
    let few = records_few are.0 in
    let long = ap length are.1.is in
    let rest = boots_are (with_records log are.0) all bodies are.2 in omega (arith, here, few, long, rest)

entry_text : (b : Bool) (e : Entry) (es : List Entry) → text_len (bodies_among es) ≤ size es → text_len (if b then bodies_among es else e.bytes ∷ bodies_among es) ≤ 5 + length e.bytes + size es
entry_text true e es h = omega (arith, h)
entry_text false e es h = omega (arith, h)

entries_text : (es : List Entry) → text_len (bodies_among es) ≤ size es
entries_text [] = omega arith
entries_text (e ∷ es) = entry_text (is_cluster e.field) e es (entries_text es)

items_text : (items : Items) → text_len (bodies_in (reading_in items)) ≤ size (entries_in items)
items_text (whole es) = entries_text es
items_text (broken n) = omega arith

pub no_boots : boots [] ≡ 0
unfolding boots
no_boots = refl

-- so one more can be counted
pub can_boot : {g : _} (core : MpCore) (on_disk : DiskLog Memory g) (end : ℕ) → IsSettled (meaning_of (disk_of on_disk)) end → end ≤ 2 ^ 62 → ∥ IsSomeOn core on_disk ∥₁ → CanBoot core
unfolding begun
can_boot core on_disk end settled small some =
    ∥∥₁_elim some (hlevel props) (λ s.
    let few = boots_are [] s.replica.log (bodies_of (bytes_of (disk_of on_disk))) s.is.kept.bodies in
    let text = items_text (items_of (bytes_of (disk_of on_disk))) in
    let place = settled.place in
    let is = s.is.stands.stands.ledger.boots in
    let none = no_boots in omega (arith, few, text, place, small, is, none))
