-- Devices before and after runs of nodes.
use Rattle.std.specs.Prelude.{List, None, Option, Some, [], true, ℕ, ◌<◌, ◌∷◌, ◌≡◌, ◌⊎◌}
use Rattle.std.proofs.Common.{arith, inl, inr, refl}
use Rattle.crsm_spec.specs.Lists.{Among}
use Rattle.crsm_clock.specs.Readings.{Readings}
use Rattle.std.proofs.lemmas.Option.{none-some}
use Rattle.crsm_port_image.specs.Calls.{History, contents}
use Rattle.crsm_disk.specs.Meaning.{Meaning as DiskMeaning}
use Rattle.crsm_port.specs.Meaning.{Meaning as PortMeaning, Packet, plain}
use Rattle.crsm_spec_process.specs.Lives.{kept_turns}
use Rattle.crsm_node.specs.Running.{Devices}
use Rattle.crsm_text_sheet.specs.Sheets.{sheet_of, sheet_text}
use Rattle.crsm_law_worked.specs.Values.{answered, answered_too, asked, asked_too, first_life, other_life, second_life}
use Rattle.crsm_law_worked.specs.Files.{begun_file, bodies_found, changed_file, first_file, kept_bodies, lost_file, new_file, other_file, reused_file, second_begun_file, second_file, third_file, used_bodies, used_file}

-- ---- each device

-- what a crash since a moment may have left: what it may leave now, or one of the earlier files
abbrev pub LeftSince : (now : ℕ) → (outcomes earlier : List (List ℕ)) → ℕ → List ℕ → Type 0
LeftSince now outcomes earlier t c = Among outcomes c ⊎ ((t < now) × Among earlier c)

pub only_outcomes : (now : ℕ) (outcomes earlier : List (List ℕ)) (c : List ℕ) → LeftSince now outcomes earlier now c → Among outcomes c
only_outcomes now outcomes earlier c (inl is) = is
only_outcomes now outcomes earlier c (inr is) = absurd (omega (arith, is.0))

pub none_told : (seen : List ℕ) (h : History) → None ≡ Some h → contents h.first h.calls ≡ seen
none_told seen h is = absurd (none-some h is)

-- An honest disk: a read returns these bytes, and a crash leaves one of these files, at an earlier moment of its run one
-- of the others.
abbrev pub disk_with : (seen : List ℕ) → (outcomes earlier : List (List ℕ)) → Among outcomes seen → (moment faults : ℕ) → DiskMeaning
disk_with seen outcomes earlier is_one moment faults = record {
  seen = seen;
  honest = true;
  may_leave = Among outcomes;
  moment = moment;
  left_since = LeftSince moment outcomes earlier;
  history = None;
  plan = None;
  fill = None;
  faults = faults;
  renewed = None;
  borrowed_as = None;
  as_read = λ _. is_one;
  as_told = none_told seen;
  counts_now = λ t c le is. inl is;
  only_now = only_outcomes moment outcomes earlier;
}

-- a port with these datagrams waiting, taken and sent, after this many receives that were empty
abbrev pub port_with : (waiting taken sent : List Packet) → (empties : ℕ) → PortMeaning
port_with waiting taken sent empties = record {
  traffic = Some (record { waiting = waiting; taken = taken; sent = sent });
  framing = plain;
  plan = None;
  faults = 0;
  losses = 0;
  empties = empties;
  too_long = 0;
  borrowed_as = None;
}

-- a clock that gave this reading last, and gives these next
abbrev pub clock_with : ℕ → List ℕ → Option Readings
clock_with latest ahead = Some (record { latest = latest; ahead = ahead })

abbrev pub packet : ℕ → List ℕ → Packet
packet address bytes = record { address = address; bytes = bytes }

-- ---- a run that takes no turn

-- all devices of a node that finds this file
abbrev pub idle_begins : List ℕ → Devices
idle_begins file = record {
  disk = disk_with file (file ∷ []) [] (inl refl) 0 0;
  port = port_with [] [] [] 0;
  clock = clock_with 0 [];
  sheet = Some [];
  faults = 0;
}

-- the same once it has booted on it, where the file had these bodies
abbrev pub idle_ends : (file later : List ℕ) → List (List ℕ) → Devices
idle_ends file later bodies = record {
  disk = disk_with later (later ∷ []) (file ∷ []) (inl refl) 1 0;
  port = port_with [] [] [] 0;
  clock = clock_with 0 [];
  sheet = Some (sheet_text (sheet_of bodies []));
  faults = 0;
}

-- ---- all devices of each run

-- before and after the first run, and before and after the second; before and after one that finds what the first had
-- not synced, that of another replica, and one that finds a file of another cluster; and before and after one that does
-- not find the file of the first
pub data Moment : Type 0 where
  FirstBegins : Moment
  FirstEnds : Moment
  SecondBegins : Moment
  SecondEnds : Moment
  ThirdBegins : Moment
  ThirdEnds : Moment
  NewBegins : Moment
  NewEnds : Moment
  UsedBegins : Moment
  UsedEnds : Moment
  OtherBegins : Moment
  OtherEnds : Moment

-- The first run finds an empty file. Its disk fails at the last group, which a crash then leaves or not: the second run
-- finds the file without it.
abbrev pub at : Moment → Devices
at Moment.FirstBegins = record {
  disk = disk_with [] ([] ∷ []) [] (inl refl) 0 0;
  port = port_with (packet 77 asked ∷ packet 78 asked_too ∷ []) [] [] 0;
  clock = clock_with 0 (5 ∷ 6 ∷ 7 ∷ []);
  sheet = Some [];
  faults = 0;
}
at Moment.FirstEnds = record {
  disk = disk_with first_file (first_file ∷ lost_file ∷ []) ([] ∷ begun_file ∷ []) (inl refl) 1 1;
  port = port_with [] (packet 77 asked ∷ packet 78 asked_too ∷ []) (packet 77 answered ∷ []) 1;
  clock = clock_with 7 [];
  sheet = Some (sheet_text (sheet_of [] (kept_turns first_life.groups)));
  faults = 0;
}
at Moment.SecondBegins = record {
  disk = disk_with first_file (first_file ∷ []) [] (inl refl) 0 0;
  port = port_with (packet 78 asked_too ∷ []) [] [] 0;
  clock = clock_with 0 (1000 ∷ 6000000 ∷ 6000001 ∷ 6000002 ∷ []);
  sheet = Some [];
  faults = 0;
}
at Moment.SecondEnds = record {
  disk = disk_with second_file (second_file ∷ []) (first_file ∷ second_begun_file ∷ changed_file ∷ []) (inl refl) 1 0;
  port = port_with [] (packet 78 asked_too ∷ []) (packet 78 answered_too ∷ []) 2;
  clock = clock_with 6000002 [];
  sheet = Some (sheet_text (sheet_of bodies_found (kept_turns second_life.groups)));
  faults = 0;
}
at Moment.ThirdBegins = idle_begins lost_file
at Moment.ThirdEnds = idle_ends lost_file third_file kept_bodies
at Moment.NewBegins = idle_begins []
at Moment.NewEnds = idle_ends [] new_file []
at Moment.UsedBegins = idle_begins used_file
at Moment.UsedEnds = idle_ends used_file reused_file used_bodies
at Moment.OtherBegins = record {
  disk = disk_with [] ([] ∷ []) [] (inl refl) 0 0;
  port = port_with (packet 78 asked_too ∷ []) [] [] 0;
  clock = clock_with 0 (7 ∷ []);
  sheet = Some [];
  faults = 0;
}
at Moment.OtherEnds = record {
  disk = disk_with other_file (other_file ∷ []) ([] ∷ begun_file ∷ []) (inl refl) 1 0;
  port = port_with [] (packet 78 asked_too ∷ []) (packet 78 answered_too ∷ []) 0;
  clock = clock_with 7 [];
  sheet = Some (sheet_text (sheet_of [] (kept_turns other_life.groups)));
  faults = 0;
}
