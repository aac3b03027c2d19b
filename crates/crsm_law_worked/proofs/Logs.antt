-- The log files of the worked runs hold their logs, by computation.
use Rattle.std.proofs.Common.{List, [], ap, arith, inl, inr, length, refl, subst, sym, true, ℕ, ◌++◌, ◌+◌, ◌<◌, ◌∙◌, ◌∷◌, ◌≡◌, ◌≤◌, ◌⊎◌}
use Rattle.std.specs.Prelude.{nat_le, nat_lt}
use Rattle.std.specs.List.{AllByRecursion, flat_map}
use Rattle.std.proofs.lemmas.Bool.{leb-true, ltb-true}
use Rattle.crsm_base.specs.declared.limits.TheConstants.{MAX_LOG_BYTES}
use Rattle.crsm_base.specs.Limits.{most_bytes}
use Rattle.crsm_base.specs.Records.{FitsRec, SpeltBody, body_bytes}
use Rattle.crsm_base.specs.Spelling.{FitsBallot, FitsCommand, FitsDecision, FitsEntry, FitsStamp, entry_bytes}
use Rattle.crsm_spec.specs.Types.{Rec}
use Rattle.crsm_spec.specs.Log.{Log}
use Rattle.crsm_fact_log.specs.Logs.{with_records}
use Rattle.crsm_law_examples.proofs.Opened.{the_model}
use Rattle.crsm_log.specs.Format.{bodies_in, bodies_of, found, gate_in, is_cluster, length_of, may_stand, reading, stands}
use Rattle.crsm_ledger.specs.Recovered.{AreKept}
use Rattle.crsm_shell.specs.Shell.{HasLog}
use Rattle.crsm_shell.specs.Flushing.{IsFull}
use Rattle.crsm_node.specs.Kept.{HasBehind}
use Rattle.crsm_law_worked.specs.Values.{adopted, changing, decision, entry_b, entry_c, first_ballot, first_boot, first_kept, first_log, first_not_kept, kept_log, lost_entry, new_boot, other_log, put_b, put_c, second_boot, second_kept, second_log, stamp_at, used_log}
use Rattle.crsm_law_worked.specs.Files.{adopted_body, begun_file, bodies_found, first_boot_body, second_boot_body, change_body, changed_file, file_with, first_file, first_kept_body, second_kept_body, kept_bodies, lost_body, lost_file, new_boot_body, new_file, other_file, reused_file, second_begun_file, second_file, third_file, used_bodies, used_file}

-- ---- the bodies of each file

pub reads_begun : reading begun_file ≡ found (first_boot_body ∷ [])
unfolding the_model begun_file file_with first_boot_body is_cluster length_of may_stand stands
reads_begun = refl

pub reads_first : reading first_file ≡ found (first_boot_body ∷ first_kept_body ∷ [])
unfolding the_model first_file file_with first_boot_body first_kept_body is_cluster length_of may_stand stands
reads_first = refl

pub reads_lost : reading lost_file ≡ found (first_boot_body ∷ first_kept_body ∷ lost_body ∷ [])
unfolding the_model lost_file file_with first_boot_body first_kept_body lost_body is_cluster length_of may_stand stands
reads_lost = refl

pub reads_second_begun : reading second_begun_file ≡ found (first_boot_body ∷ first_kept_body ∷ second_boot_body ∷ [])
unfolding the_model second_begun_file file_with first_boot_body first_kept_body second_boot_body is_cluster length_of may_stand stands
reads_second_begun = refl

pub reads_changed : reading changed_file ≡ found (first_boot_body ∷ first_kept_body ∷ second_boot_body ∷ change_body ∷ [])
unfolding the_model changed_file file_with first_boot_body first_kept_body second_boot_body change_body is_cluster length_of may_stand stands
reads_changed = refl

pub reads_second : reading second_file ≡ found (first_boot_body ∷ first_kept_body ∷ second_boot_body ∷ change_body ∷ second_kept_body ∷ [])
unfolding the_model second_file file_with first_boot_body first_kept_body second_boot_body change_body second_kept_body is_cluster length_of may_stand stands
reads_second = refl

pub reads_third : reading third_file ≡ found (first_boot_body ∷ first_kept_body ∷ lost_body ∷ second_boot_body ∷ [])
unfolding the_model third_file file_with first_boot_body first_kept_body lost_body second_boot_body is_cluster length_of may_stand stands
reads_third = refl

pub reads_new : reading new_file ≡ found (new_boot_body ∷ [])
unfolding the_model new_file file_with new_boot_body is_cluster length_of may_stand stands
reads_new = refl

pub reads_used : reading used_file ≡ found used_bodies
unfolding the_model used_file file_with new_boot_body adopted_body is_cluster length_of may_stand stands
reads_used = refl

pub reads_reused : reading reused_file ≡ found (new_boot_body ∷ adopted_body ∷ new_boot_body ∷ [])
unfolding the_model reused_file file_with new_boot_body adopted_body is_cluster length_of may_stand stands
reads_reused = refl

pub reads_other : reading other_file ≡ found (first_boot_body ∷ lost_body ∷ [])
unfolding the_model other_file file_with first_boot_body lost_body is_cluster length_of may_stand stands
reads_other = refl

pub has_bodies : (file : List ℕ) (bodies : List (List ℕ)) → reading file ≡ found bodies → bodies_of file ≡ bodies
has_bodies file bodies is = ap bodies_in is

-- a file with more bodies than another has them behind those of the other
pub behind_those : (file : List ℕ) (bodies : List (List ℕ)) → reading file ≡ found bodies → (later : List ℕ) (more : List (List ℕ)) → reading later ≡ found (bodies ++ more) → HasBehind file more later
behind_those file bodies is later more has = has ∙ ap (λ (bs : List (List ℕ)). found (bs ++ more)) (sym (has_bodies file bodies is))

-- ---- there is room

pub room : (file body : List ℕ) → nat_le (gate_in file) 1000 ≡ true → nat_le (length body) 1000 ≡ true → IsFull file body → ⊥
room file body g b full = go full.1
  where
    go : (MAX_LOG_BYTES < gate_in file + 6 + length body) ⊎ (2147483648 ≤ length body) → ⊥
    go (inl past) =
        let gate = leb-true (gate_in file) 1000 g in
        let size = leb-true (length body) 1000 b in
        let limit : MAX_LOG_BYTES ≡ 4294967296 = refl in
        absurd (omega (arith, gate, size, limit, past))
    go (inr past) = let size = leb-true (length body) 1000 b in absurd (omega (arith, size, past))

pub room_for_boot : IsFull [] first_boot_body → ⊥
unfolding the_model first_boot_body is_cluster length_of may_stand stands
room_for_boot = room [] first_boot_body refl refl

pub room_for_first : IsFull begun_file first_kept_body → ⊥
unfolding the_model begun_file file_with first_boot_body first_kept_body is_cluster length_of may_stand stands
room_for_first = room begun_file first_kept_body refl refl

pub room_for_lost : IsFull first_file lost_body → ⊥
unfolding the_model first_file file_with first_boot_body first_kept_body lost_body is_cluster length_of may_stand stands
room_for_lost = room first_file lost_body refl refl

pub room_for_second_boot : IsFull first_file second_boot_body → ⊥
unfolding the_model first_file file_with first_boot_body first_kept_body second_boot_body is_cluster length_of may_stand stands
room_for_second_boot = room first_file second_boot_body refl refl

pub room_for_third_boot : IsFull lost_file second_boot_body → ⊥
unfolding the_model lost_file file_with first_boot_body first_kept_body lost_body second_boot_body is_cluster length_of may_stand stands
room_for_third_boot = room lost_file second_boot_body refl refl

pub room_for_new_boot : IsFull [] new_boot_body → ⊥
unfolding the_model new_boot_body is_cluster length_of may_stand stands
room_for_new_boot = room [] new_boot_body refl refl

pub room_for_used_boot : IsFull used_file new_boot_body → ⊥
unfolding the_model used_file file_with new_boot_body adopted_body is_cluster length_of may_stand stands
room_for_used_boot = room used_file new_boot_body refl refl

pub room_for_change : IsFull second_begun_file change_body → ⊥
unfolding the_model second_begun_file file_with first_boot_body first_kept_body second_boot_body change_body is_cluster length_of may_stand stands
room_for_change = room second_begun_file change_body refl refl

pub room_for_second : IsFull changed_file second_kept_body → ⊥
unfolding the_model changed_file file_with first_boot_body first_kept_body second_boot_body change_body second_kept_body is_cluster length_of may_stand stands
room_for_second = room changed_file second_kept_body refl refl

pub room_for_other : IsFull begun_file lost_body → ⊥
unfolding the_model begun_file file_with first_boot_body lost_body is_cluster length_of may_stand stands
room_for_other = room begun_file lost_body refl refl

pub lost_some : 0 < length lost_body
unfolding the_model lost_body
lost_some = ltb-true 0 (length lost_body) refl

-- ---- records that have an encoding

fits_b : FitsCommand put_b
fits_b = record { client = omega arith; number = omega arith; op = (record { some = omega arith; most = omega arith }, record { most = omega arith }) }

fits_c : FitsCommand put_c
fits_c = record { client = omega arith; number = omega arith; op = (record { some = omega arith; most = omega arith }, record { most = omega arith }) }

fits_stamp : (time : ℕ) → nat_lt time 10000000 ≡ true → FitsStamp (stamp_at time)
fits_stamp time lt = let less = ltb-true time 10000000 lt in record { time = omega (arith, less); origin = omega arith }

fits_decision : FitsDecision decision
fits_decision = record {
  spec = tt;
  epoch = omega arith;
  first = omega arith;
  members = (omega arith, omega arith, tt);
  base_len = omega arith;
  tail = record { most = omega arith; fit = tt; rises = tt; size = omega arith };
  before = tt;
  end = omega arith;
}

fits_ballot : FitsBallot first_ballot
fits_ballot = record { round = omega arith; by = omega arith }

fits_entry_b : FitsEntry entry_b
fits_entry_b = record { epoch = omega arith; stamp = fits_stamp 5 refl; command = fits_b }

fits_lost_entry : FitsEntry lost_entry
fits_lost_entry = record { epoch = omega arith; stamp = fits_stamp 7 refl; command = fits_c }

fits_entry_c : FitsEntry entry_c
fits_entry_c = record { epoch = omega arith; stamp = fits_stamp 6000002 refl; command = fits_c }

fit_first_boot : AllByRecursion FitsRec first_boot
fit_first_boot = ((omega arith, omega arith), (omega arith, tt))

fit_first_kept : AllByRecursion FitsRec first_kept
fit_first_kept = (fits_entry_b, (fits_stamp 5 refl, tt))

pub fit_first_not_kept : AllByRecursion FitsRec first_not_kept
fit_first_not_kept = (fits_lost_entry, (fits_stamp 7 refl, tt))

fit_second_boot : AllByRecursion FitsRec second_boot
fit_second_boot = ((omega arith, omega arith), tt)

fit_new_boot : AllByRecursion FitsRec new_boot
fit_new_boot = ((omega arith, omega arith), tt)

adopted_small : length (flat_map entry_bytes (lost_entry ∷ [])) ≤ most_bytes
unfolding the_model
adopted_small = leb-true (length (flat_map entry_bytes (lost_entry ∷ []))) most_bytes refl

fit_adopted : AllByRecursion FitsRec adopted
fit_adopted = ((omega arith, record { most = omega arith; fit = (fits_lost_entry, tt); rises = tt; size = adopted_small }), tt)

fit_changing : AllByRecursion FitsRec changing
fit_changing = (omega arith, ((omega arith, fits_ballot), ((omega arith, fits_ballot, fits_decision), (fits_decision, (omega arith, tt)))))

fit_second_kept : AllByRecursion FitsRec second_kept
fit_second_kept = (fits_entry_c, (fits_stamp 6000002 refl, tt))

pub spelt : (recs : List Rec) → 1 ≤ length recs → AllByRecursion FitsRec recs → SpeltBody recs (body_bytes recs)
spelt recs some fit = record { fits = record { some = some; fit = fit }; is = refl }

-- ---- the logs

pub kept_found : AreKept 0 1 [] bodies_found first_log
unfolding the_model first_boot_body first_kept_body
kept_found = (
  first_boot,
  spelt first_boot (omega arith) fit_first_boot,
  (refl, (refl, tt)),
  (first_kept, spelt first_kept (omega arith) fit_first_kept, (refl, (refl, tt)), refl),
)

pub kept_lost : AreKept 0 1 [] kept_bodies kept_log
unfolding the_model first_boot_body first_kept_body lost_body
kept_lost = (
  first_boot,
  spelt first_boot (omega arith) fit_first_boot,
  (refl, (refl, tt)),
  (
    first_kept,
    spelt first_kept (omega arith) fit_first_kept,
    (refl, (refl, tt)),
    (first_not_kept, spelt first_not_kept (omega arith) fit_first_not_kept, (refl, (refl, tt)), refl),
  ),
)

pub kept_third : AreKept 0 1 [] (first_boot_body ∷ first_kept_body ∷ lost_body ∷ second_boot_body ∷ []) (with_records kept_log second_boot)
unfolding the_model first_boot_body first_kept_body lost_body second_boot_body
kept_third = (
  first_boot,
  spelt first_boot (omega arith) fit_first_boot,
  (refl, (refl, tt)),
  (
    first_kept,
    spelt first_kept (omega arith) fit_first_kept,
    (refl, (refl, tt)),
    (
      first_not_kept,
      spelt first_not_kept (omega arith) fit_first_not_kept,
      (refl, (refl, tt)),
      (second_boot, spelt second_boot (omega arith) fit_second_boot, (refl, tt), refl),
    ),
  ),
)

pub kept_new : AreKept 1 1 [] (new_boot_body ∷ []) (with_records [] new_boot)
unfolding the_model new_boot_body
kept_new = (new_boot, spelt new_boot (omega arith) fit_new_boot, (refl, tt), refl)

pub kept_used : AreKept 1 1 [] used_bodies used_log
unfolding the_model new_boot_body adopted_body
kept_used = (
  new_boot,
  spelt new_boot (omega arith) fit_new_boot,
  (refl, tt),
  (adopted, spelt adopted (omega arith) fit_adopted, (refl, tt), refl),
)

pub kept_reused : AreKept 1 1 [] (new_boot_body ∷ adopted_body ∷ new_boot_body ∷ []) (with_records used_log new_boot)
unfolding the_model new_boot_body adopted_body
kept_reused = (
  new_boot,
  spelt new_boot (omega arith) fit_new_boot,
  (refl, tt),
  (
    adopted,
    spelt adopted (omega arith) fit_adopted,
    (refl, tt),
    (new_boot, spelt new_boot (omega arith) fit_new_boot, (refl, tt), refl),
  ),
)

pub kept_second : AreKept 0 1 [] (first_boot_body ∷ first_kept_body ∷ second_boot_body ∷ change_body ∷ second_kept_body ∷ []) second_log
unfolding the_model first_boot_body first_kept_body second_boot_body change_body second_kept_body
kept_second = (
  first_boot,
  spelt first_boot (omega arith) fit_first_boot,
  (refl, (refl, tt)),
  (
    first_kept,
    spelt first_kept (omega arith) fit_first_kept,
    (refl, (refl, tt)),
    (
      second_boot,
      spelt second_boot (omega arith) fit_second_boot,
      (refl, tt),
      (
        changing,
        spelt changing (omega arith) fit_changing,
        (refl, (refl, (refl, (refl, (refl, tt))))),
        (second_kept, spelt second_kept (omega arith) fit_second_kept, (refl, (refl, tt)), refl),
      ),
    ),
  ),
)

pub kept_other : AreKept 0 1 [] (first_boot_body ∷ lost_body ∷ []) other_log
unfolding the_model first_boot_body lost_body
kept_other = (
  first_boot,
  spelt first_boot (omega arith) fit_first_boot,
  (refl, (refl, tt)),
  (first_not_kept, spelt first_not_kept (omega arith) fit_first_not_kept, (refl, (refl, tt)), refl),
)

pub has_log : (me : ℕ) (file : List ℕ) (bodies : List (List ℕ)) (log : Log) → reading file ≡ found bodies → AreKept me 1 [] bodies log → HasLog me 1 file log
unfolding HasLog
has_log me file bodies log is kept =
    let same = has_bodies file bodies is in
    record { whole = is ∙ ap found (sym same); kept = subst (λ (bs : List (List ℕ)). AreKept me 1 [] bs log) (sym same) kept }
