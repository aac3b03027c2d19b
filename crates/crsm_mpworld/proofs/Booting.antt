-- The effect of a boot.
use Rattle.std.proofs.Common.{◌≡◌, ◌+◌, ℕ, zero, suc, List, [], ◌∷◌, ◌++◌, drop, length, refl, ap, sym, ◌∙◌, subst, append-nil, Some}
use Rattle.std.specs.Prelude.{slice_get}
use Rattle.crsm_mpspec.specs.declared.line.MpLine.{MpLine}
use Rattle.crsm_mpspec.specs.declared.rec.MpRec.{MpRec}
use Rattle.crsm_mpspec.specs.Draft.{begun, executions, exec_lines, keep, keep_as, line_of}
use Rattle.crsm_mpspec.specs.Log.{Log, and_then, boots, chosen_at, choices, end, executed, run_from}
use Rattle.crsm_mpspec.specs.Moments.{start_at}
use Rattle.crsm_mpspec.specs.Replica.{fresh}
use Rattle.crsm_mpspec.specs.Step.{boot}
use Rattle.crsm_mpspec.specs.World.{Packet, Site, World, after_step, log_of, send_lines, whole_step}
use Rattle.crsm_mpworld.specs.declared.place.BootSize.{BootSize}
use Rattle.crsm_mpworld.specs.declared.world.MpWorld.{MpWorld}
use Rattle.crsm_mpworld.specs.Packets.{MpNetworkStands}
use Rattle.crsm_mpworld.specs.Sites.{BootsTo}
use Rattle.crsm_mpworld.specs.World.{Leads}
use Rattle.crsm_mpworld.proofs.Turns.{log_here}

run_boot : (most slot : ℕ) (log : Log) → run_from most slot (MpRec.Boot ∷ log) ≡ run_from most slot log
unfolding run_from chosen_at choices
run_boot zero slot log = refl
run_boot (suc most) slot log = ap (and_then (chosen_at slot log)) (run_boot most (suc slot) log)

-- nothing is executed by a boot
executed_boot : (log : Log) → executed (MpRec.Boot ∷ log) ≡ executed log
unfolding executed end choices
executed_boot log = run_boot (end log) 0 log

drop_all : {A : Type 0} (xs : List A) → drop (length xs) xs ≡ []
drop_all [] = refl
drop_all (x ∷ xs) = drop_all xs

none_executed : (me : ℕ) (log : Log) → executions me log MpRec.Boot ≡ []
unfolding executions exec_lines
none_executed me log = ap (λ vs. exec_lines me (executed log) (drop (length (executed log)) vs)) (executed_boot log) ∙ ap (exec_lines me (executed log)) (drop_all (executed log))

boot_lines : (me n : ℕ) (log : Log) → (boot me n log).lines ≡ MpLine.Boot me (boots log + 1) ∷ []
unfolding boot keep keep_as begun fresh line_of
boot_lines me n log = ap (λ ls. MpLine.Boot me (boots log + 1) ∷ ls) (none_executed me log)

boot_sends : (me n : ℕ) (log : Log) → (boot me n log).sends ≡ []
unfolding boot keep keep_as begun
boot_sends me n log = refl

boot_replies : (me n : ℕ) (log : Log) → (boot me n log).replies ≡ []
unfolding boot keep keep_as begun
boot_replies me n log = refl

pub started : (v : World) (k : ℕ) (log : Log) (made : BootSize) (w : MpWorld) (lines : List MpLine) → slice_get v.sites k ≡ Some (Site.Down log)
    → BootsTo made log w.sites v.n v.sites k → MpNetworkStands w.network v.packets (v.bytes + made.size) → w.n ≡ v.n → lines ≡ MpLine.Boot k made.count ∷ []
    → Leads (start_at v k) w lines
unfolding start_at whole_step after_step send_lines log_of boot keep keep_as begun
started v k log made w lines down booted network count told =
    let here = log_here v k (Site.Down log) down in
    rw here (record {
      after = record {
        n = count;
        sites = booted.1;
        network = subst (λ (b : ℕ). MpNetworkStands w.network (v.packets ++ []) (v.bytes + b)) booted.0.size
            (subst (λ (ps : List Packet). MpNetworkStands w.network ps (v.bytes + made.size)) (sym (append-nil v.packets)) network);
      };
      told = told ∙ ap (λ c. MpLine.Boot k c ∷ []) booted.0.count ∙ sym (boot_lines k v.n log) ∙ sym (append-nil (boot k v.n log).lines) ∙ sym (append-nil ((boot k v.n log).lines ++ []));
    })
