-- The runs that take no turn: over the file with what was not synced, that of replica 1 for the first time, and that over
-- a file of another cluster.
use Rattle.std.proofs.Common.{Global, Vec, [], arith, length, refl, subst, sym, ℕ, ◌∷◌, ◌≡◌}
use Rattle.crsm_spec.specs.Step.{boot}
use Rattle.crsm_fact_log.specs.Logs.{with_records}
use Rattle.crsm_law_examples.proofs.Opened.{the_model}
use Rattle.crsm_ledger.specs.Recovered.{AreKept}
use Rattle.crsm_shell.specs.Booting.{boot_body}
use Rattle.crsm_node.specs.Running.{RunsLife}
use Rattle.crsm_log.specs.Claim.{IsOpenTo}
use Rattle.crsm_log.specs.Format.{cluster_of, is_cluster, length_of, may_stand, stands}
use Rattle.crsm_law_worked.specs.Values.{kept_log, new_boot, second_boot, used_log}
use Rattle.crsm_law_worked.specs.Files.{adopted_body, file_with, first_boot_body, first_kept_body, kept_bodies, lost_body, lost_file, new_boot_body, new_file, reused_file, second_boot_body, third_file, used_bodies, used_file}
use Rattle.crsm_law_worked.specs.Orders.{order_for, order_of}
use Rattle.crsm_law_worked.specs.Devices.{Moment, at}
use Rattle.crsm_law_worked.proofs.Idle.{Boots, idle_run}
use Rattle.crsm_law_worked.proofs.Logs.{kept_lost, kept_new, kept_reused, kept_third, kept_used, reads_lost, reads_new, reads_reused, reads_third, reads_used, room_for_new_boot, room_for_third_boot, room_for_used_boot}
use Rattle.crsm_node.specs.declared.errors.NodeEnd.TheVariants as ends

-- ---- the file with what was not synced

third_body : boot_body 0 1 kept_log ≡ second_boot_body
unfolding the_model second_boot_body
third_body = refl

third_log : (boot 0 1 kept_log).replica.log ≡ with_records kept_log second_boot
unfolding the_model
third_log = refl

lost_names_none : IsOpenTo 0 (cluster_of lost_file)
unfolding the_model lost_file file_with first_boot_body first_kept_body lost_body is_cluster length_of may_stand stands
lost_names_none = tt

pub third_boots : Boots 0 lost_file kept_bodies kept_log third_file second_boot_body
third_boots = record {
  reads = reads_lost;
  kept = kept_lost;
  names_none = lost_names_none;
  body_is = third_body;
  room = room_for_third_boot;
  reads_later = reads_third;
  kept_later = subst (AreKept 0 1 [] (first_boot_body ∷ first_kept_body ∷ lost_body ∷ second_boot_body ∷ [])) (sym third_log) kept_third;
}

unfoldable pub third_run : (peers : Vec ℕ Global) (two : length peers.items ≡ 2) → RunsLife (order_of 0 peers two) (at Moment.ThirdBegins) (at Moment.ThirdEnds) ends.Done
third_run peers two = idle_run 0 (omega arith) lost_file kept_bodies kept_log third_file second_boot_body third_boots peers two

-- ---- no file

new_body : boot_body 1 1 [] ≡ new_boot_body
unfolding the_model new_boot_body
new_body = refl

new_log : (boot 1 1 []).replica.log ≡ with_records [] new_boot
unfolding the_model
new_log = refl

pub new_boots : Boots 1 [] [] [] new_file new_boot_body
new_boots = record {
  reads = refl;
  kept = refl;
  names_none = tt;
  body_is = new_body;
  room = room_for_new_boot;
  reads_later = reads_new;
  kept_later = subst (AreKept 1 1 [] (new_boot_body ∷ [])) (sym new_log) kept_new;
}

unfoldable pub new_run : (peers : Vec ℕ Global) (two : length peers.items ≡ 2) → RunsLife (order_for 1 0 (omega arith) peers two) (at Moment.NewBegins) (at Moment.NewEnds) ends.Done
new_run peers two = idle_run 1 (omega arith) [] [] [] new_file new_boot_body new_boots peers two

-- ---- a file of another cluster

used_body : boot_body 1 1 used_log ≡ new_boot_body
unfolding the_model new_boot_body
used_body = refl

log_used : (boot 1 1 used_log).replica.log ≡ with_records used_log new_boot
unfolding the_model
log_used = refl

used_names_none : IsOpenTo 0 (cluster_of used_file)
unfolding the_model used_file file_with new_boot_body adopted_body is_cluster length_of may_stand stands
used_names_none = tt

pub used_boots : Boots 1 used_file used_bodies used_log reused_file new_boot_body
used_boots = record {
  reads = reads_used;
  kept = kept_used;
  names_none = used_names_none;
  body_is = used_body;
  room = room_for_used_boot;
  reads_later = reads_reused;
  kept_later = subst (AreKept 1 1 [] (new_boot_body ∷ adopted_body ∷ new_boot_body ∷ [])) (sym log_used) kept_reused;
}

unfoldable pub used_run : (peers : Vec ℕ Global) (two : length peers.items ≡ 2) → RunsLife (order_for 1 0 (omega arith) peers two) (at Moment.UsedBegins) (at Moment.UsedEnds) ends.Done
used_run peers two = idle_run 1 (omega arith) used_file used_bodies used_log reused_file new_boot_body used_boots peers two
