-- Runs over disks that lose what was synced.
use Rattle.std.proofs.Common.{Global, List, Vec, [], ap, arith, inl, inr, length, refl, subst, sym, ℕ, ◌∙◌, ◌∷◌, ◌≡◌, ◌≤◌}
use Rattle.std.proofs.lemmas.Bool.{false≢true}
use Rattle.crsm_spec.specs.Types.{Entry}
use Rattle.crsm_spec.specs.Lists.{Among}
use Rattle.crsm_spec.specs.Step.{boot}
use Rattle.crsm_spec.specs.Node.{Turn, turn}
use Rattle.crsm_spec_process.specs.Lives.{kept_steps, kept_turns}
use Rattle.crsm_law_examples.proofs.Opened.{the_model}
use Rattle.crsm_node.specs.Running.{RunsLife}
use Rattle.crsm_law_restarts.specs.Runs.{HasNoBody}
use Rattle.crsm_law_worked.specs.Values.{asked, asked_too, entry_b, first_life, lost_entry, other_life}
use Rattle.crsm_law_worked.specs.Files.{first_boot_body, first_file, first_kept_body, lost_body, lost_file}
use Rattle.crsm_law_worked.specs.Orders.{order_of}
use Rattle.crsm_law_worked.specs.Devices.{Moment}
use Rattle.crsm_law_worked.specs.Breaking.{ClustersAreSmall, Disagree, Executes, ForgetfulDisksBreak, LostFilesBreak, forgetting}
use Rattle.crsm_log.specs.Format.{bodies_of, found, reading}
use Rattle.crsm_law_worked.proofs.Logs.{has_bodies, reads_first, reads_lost}
use Rattle.crsm_node.specs.declared.errors.NodeEnd.TheVariants as ends
use Rattle.crsm_law_worked.proofs.First as first
use Rattle.crsm_law_worked.proofs.Other as other

-- ---- the processes disagree

pub first_executes : Executes 1 first_life entry_b
unfolding the_model asked kept_turns kept_steps
first_executes = record { step = turn (boot 0 1 []).replica (Turn.In 77 asked, 5); kept = inr (inl refl); list = refl }

pub other_executes : Executes 1 other_life lost_entry
unfolding the_model asked_too kept_turns kept_steps
other_executes = record { step = turn (boot 0 1 []).replica (Turn.In 78 asked_too, 7); kept = inr (inl refl); list = refl }

abbrev client_of : Entry → ℕ
client_of e = e.command.client

pub differ : entry_b ≡ lost_entry → ⊥
differ e = (let clients : ◌≡◌ {A = ℕ} 7 8 = ap client_of e in absurd (omega (arith, clients)))

pub disagree : Disagree 1 first_life other_life
disagree = record { first = entry_b; did = first_executes; second = lost_entry; does = other_executes; differ = differ }

-- ---- the second run finds another file

not_empty : (file body : List ℕ) (bodies : List (List ℕ)) → reading file ≡ found (body ∷ bodies) → file ≡ [] → ⊥
not_empty file body bodies has is =
    let count : length (body ∷ bodies) ≡ 0 = ap length (sym (has_bodies file (body ∷ bodies) has) ∙ ap bodies_of is) in
    absurd (omega (arith, count))

not_left : Among (first_file ∷ lost_file ∷ []) [] → ⊥
not_left (inl is) = not_empty first_file first_boot_body (first_kept_body ∷ []) reads_first is
not_left (inr (inl is)) = not_empty lost_file first_boot_body (first_kept_body ∷ lost_body ∷ []) reads_lost is
not_left (inr (inr never)) = absurd never

-- ---- a disk that forgets

module _ (peers : Vec ℕ Global) (two : length peers.items ≡ 2) where
  pub lost_files_break : LostFilesBreak peers two
  unfolding first.first_run other.other_run
  lost_files_break = record {
    first = record { me = refl; count = refl; honest = refl; ran = (λ _. inr (first.first_run peers two), λ numbered. absurd (numbered refl)) };
    second = record { me = refl; count = refl; honest = refl; ran = (λ _. inr (other.other_run peers two), λ numbered. absurd (numbered refl)) };
    finds = inl refl;
    not_left = not_left;
    were = (
      first_life ∷ [],
      other_life ∷ [],
      refl,
      (λ _. inr (first.first_run peers two, inl refl), λ numbered. absurd (numbered refl)),
      (other_life ∷ [], [], refl, (λ _. inr (other.other_run peers two, inl refl), λ numbered. absurd (numbered refl)), refl),
    );
    disagree = disagree;
  }

  forgotten : RunsLife (order_of 3 peers two) (forgetting Moment.FirstBegins) (forgetting Moment.FirstEnds) ends.DiskFault
  unfolding kept_turns
  forgotten = record {
    life = first_life;
    bodies = [];
    result = first.stopped;
    ends_so = refl;
    me = refl;
    ended = refl;
    kept = refl;
    found = λ honest. absurd (false≢true honest);
    most = omega arith;
    are_groups = first.are_groups;
    fates = first.have_fates;
    addressed = first.are_addressed peers.items;
    takes = first.can_be_taken;
    carries = first.carries peers.items;
    goes = record { honest = refl; fill = refl; borrowed_as = refl; later = omega arith };
    keeps = λ honest. absurd (false≢true honest);
    writes = refl;
    done = omega arith;
  }

  again : RunsLife (order_of 1 peers two) (forgetting Moment.OtherBegins) (forgetting Moment.OtherEnds) ends.Done
  unfolding kept_turns
  again = record {
    life = other_life;
    bodies = [];
    result = other.went_well;
    ends_so = refl;
    me = refl;
    ended = refl;
    kept = refl;
    found = λ honest. absurd (false≢true honest);
    most = omega arith;
    are_groups = other.are_groups;
    fates = other.have_fates;
    addressed = other.are_addressed peers.items;
    takes = other.can_be_taken;
    carries = other.carries peers.items;
    goes = record { honest = refl; fill = refl; borrowed_as = refl; later = omega arith };
    keeps = λ honest. absurd (false≢true honest);
    writes = refl;
    done = (refl, refl);
  }

  pub forgetful_disks_break : ForgetfulDisksBreak peers two
  unfolding forgotten again
  forgetful_disks_break = record {
    first = (λ _. inr forgotten, λ numbered. absurd (numbered refl));
    second = (λ _. inr again, λ numbered. absurd (numbered refl));
    no_body = λ file is. subst HasNoBody (sym is) refl;
    left = λ file is. is;
    dishonest = λ m. refl;
    were = (
      first_life ∷ [],
      other_life ∷ [],
      refl,
      (λ _. inr (forgotten, inl refl), λ numbered. absurd (numbered refl)),
      (other_life ∷ [], [], refl, (λ _. inr (again, inl refl), λ numbered. absurd (numbered refl)), refl),
    );
    disagree = disagree;
  }

pub clusters_are_small : ClustersAreSmall
clusters_are_small n k x run = subst (λ (m : ℕ). m ≤ 15) run.count x.order.few
