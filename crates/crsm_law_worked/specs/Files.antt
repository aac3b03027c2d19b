-- The log files of the worked runs.
use Rattle.std.specs.Prelude.{List, [], length, ℕ, ◌++◌, ◌∷◌}
use Rattle.crsm_base.specs.Records.{body_bytes}
use Rattle.crsm_log.specs.Format.{four_bytes}
use Rattle.crsm_law_worked.specs.Values.{adopted, changing, first_boot, first_kept, first_not_kept, new_boot, second_boot, second_kept}

-- the file of a log with these bodies, each behind an open gate, and a closed gate behind them
unfoldable pub file_with : List (List ℕ) → List ℕ
file_with [] = 0 ∷ []
file_with (body ∷ bodies) = 1 ∷ four_bytes (length body) ++ (body ++ file_with bodies)

-- the bodies, in the order in which they are written
unfoldable pub first_boot_body : List ℕ
first_boot_body = body_bytes first_boot

unfoldable pub first_kept_body : List ℕ
first_kept_body = body_bytes first_kept

unfoldable pub lost_body : List ℕ
lost_body = body_bytes first_not_kept

unfoldable pub second_boot_body : List ℕ
second_boot_body = body_bytes second_boot

unfoldable pub change_body : List ℕ
change_body = body_bytes changing

unfoldable pub second_kept_body : List ℕ
second_kept_body = body_bytes second_kept

unfoldable pub new_boot_body : List ℕ
new_boot_body = body_bytes new_boot

unfoldable pub adopted_body : List ℕ
adopted_body = body_bytes adopted

-- the bodies that the second run finds
abbrev pub bodies_found : List (List ℕ)
bodies_found = first_boot_body ∷ first_kept_body ∷ []

-- those that the first run leaves where its last group is on the disk though the sync of it failed
abbrev pub kept_bodies : List (List ℕ)
kept_bodies = first_boot_body ∷ first_kept_body ∷ lost_body ∷ []

-- those of replica 1 of another cluster, which has adopted an entry
abbrev pub used_bodies : List (List ℕ)
used_bodies = new_boot_body ∷ adopted_body ∷ []

-- the file once the first run has booted, once it has kept its first group, and with the group that it lost
unfoldable pub begun_file : List ℕ
begun_file = file_with (first_boot_body ∷ [])

unfoldable pub first_file : List ℕ
first_file = file_with bodies_found

unfoldable pub lost_file : List ℕ
lost_file = file_with (first_boot_body ∷ first_kept_body ∷ lost_body ∷ [])

-- the file once the second run has booted, once it has changed the epoch, and at its end
unfoldable pub second_begun_file : List ℕ
second_begun_file = file_with (first_boot_body ∷ first_kept_body ∷ second_boot_body ∷ [])

unfoldable pub changed_file : List ℕ
changed_file = file_with (first_boot_body ∷ first_kept_body ∷ second_boot_body ∷ change_body ∷ [])

unfoldable pub second_file : List ℕ
second_file = file_with (first_boot_body ∷ first_kept_body ∷ second_boot_body ∷ change_body ∷ second_kept_body ∷ [])

-- the file with the group whose sync failed, once a run has booted on it
unfoldable pub third_file : List ℕ
third_file = file_with (first_boot_body ∷ first_kept_body ∷ lost_body ∷ second_boot_body ∷ [])

-- the file of replica 1, once it has booted
unfoldable pub new_file : List ℕ
new_file = file_with (new_boot_body ∷ [])

-- the file of replica 1 of another cluster, and once a run has booted on it
unfoldable pub used_file : List ℕ
used_file = file_with used_bodies

unfoldable pub reused_file : List ℕ
reused_file = file_with (new_boot_body ∷ adopted_body ∷ new_boot_body ∷ [])

-- the file of a run that boots anew and takes what the first run lost
unfoldable pub other_file : List ℕ
other_file = file_with (first_boot_body ∷ lost_body ∷ [])
