-- A process that boots on a log file and takes no turn.
use Rattle.std.proofs.Common.{Global, List, Vec, [], ap, arith, inl, inr, length, refl, subst, sym, ℕ, ◌++◌, ◌<◌, ◌∷◌, ◌≡◌, ◌⊎◌}
use Rattle.std.specs.Prelude.{Ok, Result}
use Rattle.crsm_spec.specs.Lists.{Among}
use Rattle.crsm_spec.specs.Log.{Log}
use Rattle.crsm_spec.specs.Node.{outputs_from}
use Rattle.crsm_spec.specs.Replica.{Replica}
use Rattle.crsm_spec.specs.Step.{boot}
use Rattle.crsm_spec_process.specs.Turns.{gone, not_gone, replica_after}
use Rattle.crsm_spec_process.specs.Lives.{HaveFates, kept_turns}
use Rattle.crsm_ledger.specs.Recovered.{AreKept}
use Rattle.crsm_replica_io.specs.Outgoing.{packets_for}
use Rattle.crsm_shell.specs.Shell.{sends_of}
use Rattle.crsm_shell.specs.Booting.{ReadsAsBefore, boot_body}
use Rattle.crsm_shell.specs.Flushing.{IsFull}
use Rattle.crsm_replica_detector.specs.Wished.{AreWished, empty_receives}
use Rattle.crsm_replica_detector.specs.Watching.{unwatched}
use Rattle.crsm_node.specs.Sent.{AreAddressed, fates_of, handed_out, packets_gone, packets_missing, steps_by_group}
use Rattle.crsm_node.specs.Received.{GivesAll, datagrams_in}
use Rattle.crsm_node.specs.Kept.{HasBehind, IsLeftOf, PutInTurn, bodies_in_log}
use Rattle.crsm_node.specs.Serving.{Carries, Takes}
use Rattle.crsm_node.specs.Running.{KeepsLife, RunsLife}
use Rattle.crsm_log.specs.Claim.{IsOpenTo}
use Rattle.crsm_log.specs.Format.{cluster_of, found, reading}
use Rattle.crsm_node.specs.declared.errors.NodeError.{NodeError}
use Rattle.crsm_law_worked.specs.Values.{idle_life}
use Rattle.crsm_law_worked.specs.Orders.{order_for}
use Rattle.crsm_law_worked.specs.Devices.{LeftSince, clock_with, idle_begins, idle_ends}
use Rattle.crsm_law_worked.proofs.Logs.{behind_those, has_log}
use Rattle.crsm_node.specs.declared.errors.NodeEnd.TheVariants as ends

-- The file has these bodies of the log and names no cluster; there is room for this body of the boot, and the later file
-- has it behind them.
pub record Boots (me : ℕ) (file : List ℕ) (bodies : List (List ℕ)) (log : Log) (later body : List ℕ) : Type 0 where
  pub reads : reading file ≡ found bodies
  pub kept : AreKept me 1 [] bodies log
  pub names_none : IsOpenTo 0 (cluster_of file)
  pub body_is : boot_body me 1 log ≡ body
  pub room : IsFull file body → ⊥
  pub reads_later : reading later ≡ found (bodies ++ body ∷ [])
  pub kept_later : AreKept me 1 [] (bodies ++ body ∷ []) (boot me 1 log).replica.log

abbrev went_well : Result (Unit {0}) NodeError
went_well = Ok tt

-- ---- no turn, and no datagram

pub takes_none : (start : Replica) → Takes start unwatched [] (clock_with 0 []) (clock_with 0 [])
unfolding AreWished GivesAll
takes_none start = record { wished = tt; can_be = tt; readings = refl }

pub carries_none : (start : Replica) (peers file later : List ℕ) (bodies : List (List ℕ)) → Carries peers start unwatched [] [] (idle_begins file).port (idle_ends file later bodies).port
unfolding outputs_from kept_turns datagrams_in packets_gone packets_missing handed_out fates_of gone not_gone sends_of packets_for empty_receives
carries_none start peers file later bodies = record {
  traffic = record { came = []; waited = refl; told = refl; are = refl; out = refl };
  empties = omega arith;
  losses = omega arith;
  too_long = refl;
  faults = omega arith;
  framing = refl;
  borrowed_as = refl;
}

pub addressed_none : (start : Replica) (peers : List ℕ) → AreAddressed peers start []
unfolding outputs_from kept_turns gone handed_out fates_of sends_of
addressed_none start peers = tt

module _ (me : ℕ) (small : me < 2) (file : List ℕ) (bodies : List (List ℕ)) (log : Log) (later body : List ℕ) (boots : Boots me file bodies log later body) where
  abbrev start : Replica
  start = (boot me 1 log).replica

  -- ---- what its disk has

  abbrev all_kept : List (List ℕ)
  all_kept = boot_body me 1 log ∷ []

  all_so : all_kept ≡ body ∷ []
  all_so = ap (λ (b : List ℕ). b ∷ []) boots.body_is

  is_behind : HasBehind file (body ∷ []) later
  is_behind = behind_those file bodies boots.reads later (body ∷ []) boots.reads_later

  has_all : HasBehind file all_kept later
  has_all = subst (λ (bs : List (List ℕ)). HasBehind file bs later) (sym all_so) is_behind

  put_so : PutInTurn all_kept file later
  unfolding PutInTurn
  put_so = subst (λ (bs : List (List ℕ)). PutInTurn bs file later) (sym all_so) (later, is_behind, boots.room, refl)

  left_at_end : (c : List ℕ) → Among (later ∷ []) c → HasBehind file all_kept c
  left_at_end c (inl is) = subst (HasBehind file all_kept) is has_all
  left_at_end c (inr never) = absurd never

  left_in_life : (t : ℕ) (c : List ℕ) → LeftSince 1 (later ∷ []) (file ∷ []) t c → ReadsAsBefore (idle_begins file).disk c ⊎ IsLeftOf file all_kept c
  left_in_life t c (inl (inl is)) = inr (record { prefix = all_kept; of = ([], refl); has = subst (HasBehind file all_kept) is has_all })
  left_in_life t c (inl (inr never)) = absurd never
  left_in_life t c (inr (lt, inl is)) = inl (inl (inl is))
  left_in_life t c (inr (lt, inr never)) = absurd never

  pub keeps : (peers : Vec ℕ Global) (two : length peers.items ≡ 2) →
      KeepsLife (order_for me 0 small peers two) (idle_life me log) (idle_begins file).disk (idle_ends file later bodies).disk went_well
  unfolding kept_turns bodies_in_log steps_by_group replica_after
  keeps peers two = record {
    claimed_file = file;
    file = later;
    claims = refl;
    put = put_so;
    bodies = has_all;
    is = λ _. refl;
    log = has_log me later (bodies ++ body ∷ []) start.log boots.reads_later boots.kept_later;
    stops = tt;
    synced = left_at_end;
    any_moment = record {
      later = omega arith;
      each = λ c is. left_in_life 0 c is;
      before = λ t c le is. inr (left_in_life t c is);
    };
  }

  -- ---- the run

  unfoldable pub idle_run : (peers : Vec ℕ Global) (two : length peers.items ≡ 2) → RunsLife (order_for me 0 small peers two) (idle_begins file) (idle_ends file later bodies) ends.Done
  unfolding kept_turns HaveFates handed_out fates_of gone sends_of
  idle_run peers two = record {
    life = idle_life me log;
    bodies = bodies;
    result = went_well;
    ends_so = refl;
    me = refl;
    ended = refl;
    kept = boots.kept;
    found = λ _. (boots.reads, boots.names_none);
    most = omega arith;
    are_groups = tt;
    fates = tt;
    addressed = addressed_none start peers.items;
    takes = takes_none start;
    carries = carries_none start peers.items file later bodies;
    goes = record { honest = refl; fill = refl; borrowed_as = refl; later = omega arith };
    keeps = λ _. keeps peers two;
    writes = refl;
    done = (refl, refl);
  }
