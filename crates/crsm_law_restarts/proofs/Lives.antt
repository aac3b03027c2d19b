-- What a run that was booted leaves in its log file.
use Rattle.std.proofs.Common.{◌≡◌, ℕ, ◌<◌, ◌≤◌, List, [], ◌∷◌, ◌++◌, length, true, refl, sym, ◌∙◌, ap, subst, inl, inr, arith, append_assoc}
use Rattle.std.specs.Prelude.{◌⊎◌, ◌^◌, IsTrue, Result, Ok, Err}
use Rattle.std.specs.List.{AllByRecursion}
use Rattle.crsm_base.specs.Records.{FitsRec}
use Rattle.crsm_spec.specs.Replica.{Replica}
use Rattle.crsm_spec.specs.Step.{boot}
use Rattle.crsm_spec.specs.Node.{Turn, outputs_from, turn}
use Rattle.crsm_spec_process.specs.Lives.{HaveFates, Life, before_last, kept_turns}
use Rattle.crsm_spec_process.specs.Turns.{replica_after}
use Rattle.crsm_fact_step.proofs.Batches.{turn_grown}
use Rattle.crsm_ledger.specs.Recovered.{AreKept}
use Rattle.crsm_log.specs.Format.{bodies_in, bodies_of, found, reading}
use Rattle.crsm_shell.specs.Booting.{boot_body}
use Rattle.crsm_shell.specs.Flushing.{IsFull}
use Rattle.crsm_shell.specs.Shell.{HasLog, group_body, records_of}
use Rattle.crsm_law_lives.specs.Events.{left_by}
use Rattle.crsm_law_lives.specs.Premises.{IsProcess}
use Rattle.crsm_law_lives.specs.Sending.{HasFates, handed_by}
use Rattle.crsm_law_processes.specs.Files.{LeavesBodies, size_of, with_lost_kept}
use Rattle.crsm_law_processes.proofs.Bodies.{all_turns, kept_after_all}
use Rattle.crsm_node.specs.Kept.{HasBehind, bodies_in_log}
use Rattle.crsm_node.specs.Running.{Devices, KeepsLife, RunsLife, booted}
use Rattle.crsm_node.specs.Serving.{IsLeftAtEnd, StopsAt, turns_by_group}
use Rattle.crsm_node.specs.declared.errors.NodeEnd.{NodeEnd}
use Rattle.crsm_node.specs.declared.errors.NodeError.{NodeError}
use Rattle.crsm_node.specs.declared.errors.NodeError.TheVariants as errors
use Rattle.crsm_node.specs.declared.order.NodeOrder.{NodeOrder}
use Rattle.crsm_law_restarts.specs.Processes.{WasLife}
use Rattle.crsm_law_restarts.proofs.Logs.{boot_count, boot_mine, kept_fit, kept_more, log_after, turns_fit}
use Rattle.crsm_law_restarts.proofs.Packets.{have_fates, have_fates_more}
use Rattle.crsm_law_restarts.proofs.Sizes.{fits_in, put_small, size_push}

-- ---- turns behind turns

turns_after : (r : Replica) (ts us : List (Turn × ℕ)) → replica_after r (ts ++ us) ≡ replica_after (replica_after r ts) us
unfolding replica_after
turns_after r [] us = refl
turns_after r (t ∷ ts) us = turns_after (turn r t).replica ts us

same_numbers : (r : Replica) (ts : List (Turn × ℕ)) → ((replica_after r ts).me ≡ r.me) × ((replica_after r ts).n ≡ r.n)
unfolding replica_after
same_numbers r [] = (refl, refl)
same_numbers r (t ∷ ts) = let one = turn_grown r t in let on = same_numbers (turn r t).replica ts in (on.0 ∙ one.me, on.1 ∙ one.n)

-- ---- what the end leaves

-- with the last group, too, only where the disk failed at it
which_is_left : (before : List ℕ) (bodies : List (List ℕ)) (r : Replica) (lost : List (Turn × ℕ)) (result : Result (Unit {0}) NodeError) (c : List ℕ) → IsLeftAtEnd before bodies r lost result c →
    HasBehind before bodies c
    ⊎ ((result ≡ Err errors.DiskFault) × (0 < length (group_body (outputs_from r lost))) × HasBehind before (bodies ++ group_body (outputs_from r lost) ∷ []) c)
which_is_left before bodies r lost (Ok x) c h = inl h
which_is_left before bodies r lost (Err errors.PortFault) c h = inl h
which_is_left before bodies r lost (Err errors.DiskFault) c (inl h) = inl h
which_is_left before bodies r lost (Err errors.DiskFault) c (inr h) = inr (refl, h.0, h.1)
which_is_left before bodies r lost (Err errors.LogFull) c h = inl h
which_is_left before bodies r lost (Err errors.WriteFault) c h = inl h
which_is_left before bodies r lost (Err errors.Failed) c h = inl h
which_is_left before bodies r lost (Err errors.NoMemory) c h = inl h

-- These processes, one or none, lead from the first bodies to those of the file.
pub record LeadsTo (n k : ℕ) (found_bodies : List (List ℕ)) (l : Life) (file : List ℕ) : Type 0 where
  pub left : List (List ℕ)
  pub reads : reading file ≡ found left
  pub leaves : LeavesBodies n l found_bodies left
  pub ended : l.ended ≡ true
  pub mine : l.me ≡ k
  pub process : IsProcess l
  pub fates : HasFates n l
  pub small : size_of left ≤ 2 ^ 32

module _ (order : NodeOrder) (old new : Devices) (end : NodeEnd) (run : RunsLife order old new end) (honest : IsTrue old.disk.honest) where
  abbrev l : Life
  l = run.life

  abbrev start : Replica
  start = booted order l.found

  abbrev last : Replica
  last = replica_after start (kept_turns l.groups)

  abbrev boots : List ℕ
  boots = boot_body order.me order.n l.found

  abbrev bodies : List (List ℕ)
  bodies = bodies_in_log start (turns_by_group l.groups)

  abbrev body : List ℕ
  body = group_body (outputs_from last l.lost)

  keeps : KeepsLife order l old.disk new.disk run.result
  keeps = run.keeps honest

  found_in : bodies_of old.disk.seen ≡ run.bodies
  found_in = ap bodies_in (run.found honest).0

  abbrev left : List (List ℕ)
  left = bodies_of keeps.file

  left_is : left ≡ bodies_of old.disk.seen ++ (boots ∷ bodies)
  left_is = ap bodies_in keeps.bodies

  left_log : AreKept order.me order.n [] left last.log
  unfolding HasLog
  left_log = keeps.log.kept

  left_small : size_of run.bodies ≤ 2 ^ 32 → size_of left ≤ 2 ^ 32
  left_small room =
      let same = ap size_of (ap bodies_in keeps.claims ∙ found_in) in
      put_small (boots ∷ bodies) keeps.claimed_file keeps.file keeps.put (omega (arith, same, room))

  is_process : order.me < 15 → IsProcess l
  is_process number = record { number = subst (λ (k : ℕ). k < 15) (sym run.me) number; turns = run.takes.can_be }

  -- ---- without the last group

  leaves_it : size_of left ≤ 2 ^ 32 → LeavesBodies order.n l run.bodies left
  unfolding left_by
  leaves_it few = record {
    found_log = subst (λ (k : ℕ). AreKept k order.n [] run.bodies l.found) (sym run.me) run.kept;
    left_log = subst (λ (k : ℕ). AreKept k order.n [] left (replica_after (boot k order.n l.found).replica (kept_turns l.groups)).log) (sym run.me) left_log;
    small = omega (arith, few);
  }

  have_its_fates : HasFates order.n l
  have_its_fates = subst (λ (k : ℕ). HaveFates handed_by (boot k order.n l.found).replica (before_last l.groups)) (sym run.me) (have_fates start l.groups run.fates)

  pub without_lost : order.me < 15 → size_of run.bodies ≤ 2 ^ 32 → (c : List ℕ) → HasBehind old.disk.seen (boots ∷ bodies) c → LeadsTo order.n order.me run.bodies l c
  without_lost number room c is =
      let few = left_small room in
      record {
        left = left;
        reads = is ∙ ap found (sym left_is);
        leaves = leaves_it few;
        ended = run.ended;
        mine = run.me;
        process = is_process number;
        fates = have_its_fates;
        small = few;
      }

  -- ---- with it

  module _ (failed : run.result ≡ Err errors.DiskFault) (some : 0 < length body) where
    stops : (IsFull keeps.file body → ⊥) × AllByRecursion FitsRec (records_of (outputs_from last l.lost))
    stops = subst (λ (why : Result (Unit {0}) NodeError). StopsAt last l.lost keeps.file why) failed keeps.stops

    all_log : AreKept order.me order.n [] (left ++ body ∷ []) (replica_after last l.lost).log
    all_log =
        let numbers = same_numbers start (kept_turns l.groups) in
        let fitting = turns_fit order.me order.n last l.lost (record {
          me_is = numbers.0 ∙ boot_mine order.me order.n l.found;
          n_is = numbers.1 ∙ boot_count order.me order.n l.found;
          fit = kept_fit order.me order.n [] last.log left left_log tt;
        }) in
        kept_more order.me order.n left last.log (replica_after last l.lost).log (records_of (outputs_from last l.lost)) left_log stops.1 (log_after last l.lost) fitting.fit some

    all_after : (k : ℕ) → replica_after (boot k order.n l.found).replica (kept_turns (with_lost_kept l).groups) ≡ replica_after (replica_after (boot k order.n l.found).replica (kept_turns l.groups)) l.lost
    unfolding with_lost_kept
    all_after k = ap (replica_after (boot k order.n l.found).replica) (all_turns l.groups l.lost) ∙ turns_after (boot k order.n l.found).replica (kept_turns l.groups) l.lost

    all_small : size_of run.bodies ≤ 2 ^ 32 → size_of (left ++ body ∷ []) ≤ 2 ^ 32
    all_small room =
        let push = size_push left body in
        let fits = fits_in keeps.file body stops.0 (left_small room) in
        omega (arith, push, fits)

    leaves_all : size_of (left ++ body ∷ []) ≤ 2 ^ 32 → LeavesBodies order.n (with_lost_kept l) run.bodies (left ++ body ∷ [])
    unfolding with_lost_kept left_by
    leaves_all few = record {
      found_log = subst (λ (k : ℕ). AreKept k order.n [] run.bodies l.found) (sym run.me) run.kept;
      left_log = subst (λ (k : ℕ). AreKept k order.n [] (left ++ body ∷ []) (replica_after (boot k order.n l.found).replica (kept_turns (with_lost_kept l).groups)).log) (sym run.me)
          (subst (λ (r : Replica). AreKept order.me order.n [] (left ++ body ∷ []) r.log) (sym (all_after order.me)) all_log);
      small = omega (arith, few);
    }

    have_all_fates : HasFates order.n (with_lost_kept l)
    unfolding with_lost_kept
    have_all_fates =
        subst (λ (k : ℕ). HaveFates handed_by (boot k order.n l.found).replica (before_last (l.groups ++ record { turns = l.lost; fates = [] } ∷ []))) (sym run.me)
        (have_fates_more start l.groups l.lost run.fates)

    all_mine : ((with_lost_kept l).me ≡ order.me) × ((with_lost_kept l).ended ≡ true)
    unfolding with_lost_kept
    all_mine = (run.me, run.ended)

    pub with_lost : order.me < 15 → size_of run.bodies ≤ 2 ^ 32 → (c : List ℕ) → HasBehind old.disk.seen ((boots ∷ bodies) ++ body ∷ []) c →
        LeadsTo order.n order.me run.bodies (with_lost_kept l) c
    with_lost number room c is =
        let few = all_small room in
        record {
          left = left ++ body ∷ [];
          reads = is ∙ ap found (sym (ap (λ (bs : List (List ℕ)). bs ++ body ∷ []) left_is ∙ append_assoc (bodies_of old.disk.seen) (boots ∷ bodies) (body ∷ [])));
          leaves = leaves_all few;
          ended = all_mine.1;
          mine = all_mine.0;
          process = kept_after_all l (is_process number);
          fates = have_all_fates;
          small = few;
        }

  -- ---- either

  pub leads : order.me < 15 → size_of run.bodies ≤ 2 ^ 32 → (c : List ℕ) → new.disk.may_leave c → (m : Life) × WasLife l run.result (m ∷ []) × LeadsTo order.n order.me run.bodies m c
  leads number room c is = go (which_is_left old.disk.seen (boots ∷ bodies) last l.lost run.result c (keeps.synced c is))
    where
      go : HasBehind old.disk.seen (boots ∷ bodies) c ⊎ ((run.result ≡ Err errors.DiskFault) × (0 < length body) × HasBehind old.disk.seen ((boots ∷ bodies) ++ body ∷ []) c) →
          (m : Life) × WasLife l run.result (m ∷ []) × LeadsTo order.n order.me run.bodies m c
      go (inl h) = (l, inl refl, without_lost number room c h)
      go (inr h) = (with_lost_kept l, inr (h.0, refl), with_lost h.0 h.1 number room c h.2)
