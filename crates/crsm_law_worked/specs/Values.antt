-- The requests, turns and processes of the worked runs.
use Rattle.std.specs.Prelude.{List, None, [], true, ℕ, ◌∷◌}
use Rattle.crsm_base.specs.Messages.{datagram_bytes}
use Rattle.crsm_spec.specs.Types.{Answer, Ballot, Command, Datagram, Decision, Entry, Op, Outcome, Rec, Stamp}
use Rattle.crsm_spec.specs.Log.{Log}
use Rattle.crsm_spec.specs.Node.{Turn}
use Rattle.crsm_fact_log.specs.Logs.{with_records}
use Rattle.crsm_spec_process.specs.Lives.{Life}

-- ---- what clients send and get

-- client 7 puts b at a, and client 8 puts c there
abbrev pub put_b : Command
put_b = record { client = 7; number = 1; op = Op.Put (97 ∷ []) (98 ∷ []) }

abbrev pub put_c : Command
put_c = record { client = 8; number = 1; op = Op.Put (97 ∷ []) (99 ∷ []) }

unfoldable pub asked : List ℕ
asked = datagram_bytes (Datagram.Request put_b)

unfoldable pub asked_too : List ℕ
asked_too = datagram_bytes (Datagram.Request put_c)

unfoldable pub answered : List ℕ
answered = datagram_bytes (Datagram.Reply 7 1 (Outcome.Answered Answer.Done))

unfoldable pub answered_too : List ℕ
answered_too = datagram_bytes (Datagram.Reply 8 1 (Outcome.Answered Answer.Done))

-- ---- the records of each group

abbrev pub stamp_at : ℕ → Stamp
stamp_at time = record { time = time; origin = 0 }

abbrev pub entry_b : Entry
entry_b = record { epoch = 0; stamp = stamp_at 5; command = put_b }

-- the entry of client 8 as it is lost, and as it is logged when the client asks again
abbrev pub lost_entry : Entry
lost_entry = record { epoch = 0; stamp = stamp_at 7; command = put_c }

abbrev pub entry_c : Entry
entry_c = record { epoch = 1; stamp = stamp_at 6000002; command = put_c }

abbrev pub first_ballot : Ballot
first_ballot = record { round = 1; by = 0 }

abbrev pub decision : Decision
decision = record { epoch = 1; spec = None; members = 0 ∷ []; base_len = 1; tail = [] }

-- the first process: its boot, its group, and the group that it loses
abbrev pub first_boot : List Rec
first_boot = Rec.Boot 0 1 ∷ Rec.Enter 0 ∷ []

abbrev pub first_kept : List Rec
first_kept = Rec.Prepare entry_b ∷ Rec.Commit (stamp_at 5) ∷ []

abbrev pub first_not_kept : List Rec
first_not_kept = Rec.Prepare lost_entry ∷ Rec.Commit (stamp_at 7) ∷ []

-- the second one: its boot, the change of the epoch, and its last group
abbrev pub second_boot : List Rec
second_boot = Rec.Boot 0 1 ∷ []

abbrev pub changing : List Rec
changing = Rec.Suspend 0 ∷ Rec.Promise 1 first_ballot ∷ Rec.Accept 1 first_ballot decision ∷ Rec.Decide decision ∷ Rec.Enter 1 ∷ []

abbrev pub second_kept : List Rec
second_kept = Rec.Prepare entry_c ∷ Rec.Commit (stamp_at 6000002) ∷ []

-- the log that the first process leaves, and that of the second
abbrev pub first_log : Log
first_log = with_records (with_records [] first_boot) first_kept

abbrev pub second_log : Log
second_log = with_records (with_records (with_records first_log second_boot) changing) second_kept

-- ---- the processes

-- It takes the request of client 7 and finds no other datagram; it keeps both turns and answers. It takes the request of
-- client 8, and is stopped before this is synced.
abbrev pub first_life : Life
first_life = record {
  me = 0;
  found = [];
  groups = record { turns = (Turn.In 77 asked, 5) ∷ (Turn.Tick, 6) ∷ []; fates = true ∷ [] } ∷ [];
  lost = (Turn.In 78 asked_too, 7) ∷ [];
  ended = true;
}

-- It boots on the log that the first one left. After 5 seconds without an epoch that it takes part in it begins the next
-- one, and then answers client 8, which asks again.
abbrev pub second_life : Life
second_life = record {
  me = 0;
  found = first_log;
  groups = record { turns = (Turn.Tick, 1000) ∷ []; fates = [] } ∷ record { turns = (Turn.Tick, 6000000) ∷ []; fates = [] }
      ∷ record { turns = (Turn.Suspect (0 ∷ []), 6000001) ∷ []; fates = [] }
      ∷ record { turns = (Turn.In 78 asked_too, 6000002) ∷ []; fates = true ∷ [] } ∷ [];
  lost = [];
  ended = true;
}

-- the first process, where its last group is on the disk though the sync of it failed: it kept the group
abbrev pub kept_life : Life
kept_life = record {
  me = 0;
  found = [];
  groups = record { turns = (Turn.In 77 asked, 5) ∷ (Turn.Tick, 6) ∷ []; fates = true ∷ [] } ∷ record { turns = (Turn.In 78 asked_too, 7) ∷ []; fates = [] } ∷ [];
  lost = [];
  ended = true;
}

-- the log that it leaves then
abbrev pub kept_log : Log
kept_log = with_records first_log first_not_kept

-- a process that boots on a log, and ends
abbrev pub idle_life : ℕ → Log → Life
idle_life me log = record { me = me; found = log; groups = []; lost = []; ended = true }

-- replica 0 on that log
abbrev pub third_life : Life
third_life = idle_life 0 kept_log

-- replica 1, which the cluster did not begin with, boots for the first time
abbrev pub new_life : Life
new_life = idle_life 1 []

abbrev pub new_boot : List Rec
new_boot = Rec.Boot 1 1 ∷ []

-- replica 1 of another cluster has adopted an entry of client 8; replica 1 of this one boots on its log
abbrev pub adopted : List Rec
adopted = Rec.Adopt 0 (lost_entry ∷ []) ∷ []

abbrev pub used_log : Log
used_log = with_records (with_records [] new_boot) adopted

abbrev pub used_life : Life
used_life = idle_life 1 used_log

-- It boots where the file of the first process is missing, and answers client 8 at once.
abbrev pub other_life : Life
other_life = record { me = 0; found = []; groups = record { turns = (Turn.In 78 asked_too, 7) ∷ []; fates = true ∷ [] } ∷ []; lost = []; ended = true }

abbrev pub other_log : Log
other_log = with_records (with_records [] first_boot) first_not_kept
