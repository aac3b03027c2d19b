use Rattle.std.proofs.Common.{◌≡◌, inl, inr, IsTrue, false, List, [], ◌++◌, ◌∙◌, refl, sym, ap, subst, arith}
use Rattle.std.specs.Prelude.{Option, Some, ℕ, Result, Err}
use Rattle.crsm_log.specs.declared.errors.ClaimError.{ClaimError}
use Rattle.std.specs.Borrow.{MutBor}
use Rattle.std.proofs.lemmas.List.{append-nil}
use Rattle.crsm_port.specs.Meaning.{Meaning as PortMeaning}
use Rattle.crsm_disk.specs.Meaning.{LeavesOnly, Meaning, Only}
use Rattle.crsm_replica_detector.specs.Watching.{unwatched}
use Rattle.crsm_spec_process.specs.Lives.{kept_turns}
use Rattle.crsm_log.specs.Format.{bodies_of, found}
use Rattle.crsm_spec.specs.Draft.{Draft}
use Rattle.crsm_spec.specs.Log.{Log}
use Rattle.crsm_spec.specs.Replica.{Replica}
use Rattle.crsm_shell.specs.Shell.{HasLog, ShellStands}
use Rattle.crsm_shell.specs.Words.{disk_of, has_failed, peers_of, pending_of}
use Rattle.crsm_shell.specs.declared.shell.Shell.{Shell}
use Rattle.crsm_node.specs.Kept.{HasBehind, HasLogOf}
use Rattle.crsm_node.specs.Order.{peers_in}
use Rattle.crsm_node.specs.Sent.{AreAddressed}
use Rattle.crsm_node.specs.Serving.{Carries}
use Rattle.crsm_log.specs.Claim.{Claims, IsClaimedOrBefore}
use Rattle.crsm_node.specs.Errors.{boot_end}
use Rattle.crsm_node.specs.Running.{Runs, booted, devices_of, end_of, unlent_disk, unlent_port}
use Rattle.crsm_node.specs.Devices.{node_of}
use Rattle.crsm_node.specs.declared.errors.NodeError.TheVariants as node_errors
use Rattle.crsm_node.specs.declared.errors.NodeEnd.{NodeEnd}
use Rattle.crsm_node.proofs.Starts.{boot_mine, boot_refused, claim_refused, claims_lent, run_lent}
use Rattle.crsm_node.proofs.Lived.{life_ends, life_of, life_writes, lived_still, opening_memory, opening_prefix, runs_life}
use Rattle.crsm_node.proofs.run.run_over.Goals as goal

abbrev name : ℕ → Option ℕ
name k = Some k

abbrev failing : ClaimError → Result (Unit {0}) ClaimError
failing why = Err why

pub returns-in-Err-clause-runs : goal.returns-in-Err-clause-runs
returns-in-Err-clause-runs g c =
    let old = g.D.Disk.meaning c.args.disk.now in
    let new = g.D.Disk.meaning c.claim.new.disk in
    let e = c.in-Err.ensures in
    let d = claim_refused c.args.order.now old new c.in-Err.why e.goes (λ is. e.fault (ap failing is)) e.err e.any_moment in
    subst (λ (x : NodeEnd). Runs c.args.order.now (devices_of g.D.Disk.meaning g.P.Port.meaning g.C.Clock.readings g.O.Sink.written g.O.Sink.faults c.args.disk.now c.args.port.now c.args.clock.now c.args.sheet.now)
    (devices_of g.D.Disk.meaning g.P.Port.meaning g.C.Clock.readings g.O.Sink.written g.O.Sink.faults c.claim.new.disk c.args.port.now c.args.clock.now c.args.sheet.now) x) (sym c.from.ensures)
    (inl (record { out = d.out; port = refl; clock = refl; sheet = refl; goes = d.goes; stays = d.stays; any_moment = d.any_moment }))

-- a disk that is lent
abbrev borrowed_as : {D : Type 0} → (D → Meaning) → MutBor D → Meaning
borrowed_as meaning d = record (meaning d.now) { borrowed_as = Some d.ghost_name }

same_some : (a b : ℕ) → name a ≡ name b → a ≡ b
same_some a b is = cc

pub returns-in-Err-boot-clause-runs : goal.returns-in-Err-boot-clause-runs
returns-in-Err-boot-clause-runs g c =
    let old = g.D.Disk.meaning c.args.disk.now in
    let mid = g.D.Disk.meaning c.claim.new.disk in
    let k = Some c.boot-arg-1.given in
    let disk = c.in-Err-boot._disk in
    let e = c.in-Err-boot.ensures in
    let f = c.in_default.ensures in
    let claimed = record mid { borrowed_as = k } in
    let d = boot_refused c.args.order.now old claimed (borrowed_as g.D.Disk.meaning disk) c.in-Err-boot.why f.goes.honest f.goes.fill f.goes.later
    (λ honest. claims_lent old mid c.args.order.now.cluster k (f.ok honest)) (λ honest. run_lent old mid (IsClaimedOrBefore old c.args.order.now.cluster) k (f.any_moment honest)) e.refused e.left_refused in
    let back = c.disk-in-Err-boot-1.given.1 (same_some c.boot-arg-1.given disk.ghost_name (sym e.refused.goes.borrowed_as)) in
    let at = devices_of g.D.Disk.meaning g.P.Port.meaning g.C.Clock.readings g.O.Sink.written g.O.Sink.faults in
    subst (λ (x : NodeEnd). Runs c.args.order.now (at c.args.disk.now c.args.port.now c.args.clock.now c.args.sheet.now) (at c.disk-in-Err-boot-1.given.0 c.args.port.now c.args.clock.now c.args.sheet.now) x) (sym c.from-in-Err-boot.ensures)
    (subst (λ (x : g.row.D.Denot). Runs c.args.order.now (at c.args.disk.now c.args.port.now c.args.clock.now c.args.sheet.now) (at x c.args.port.now c.args.clock.now c.args.sheet.now) (boot_end c.in-Err-boot.why)) (sym back)
    (inl (record { out = d.out; port = refl; clock = refl; sheet = refl; goes = d.goes; stays = d.stays; any_moment = d.any_moment })))

file_has : {D : Type 0} {g : _} (shell : Shell D g) (m : Meaning) (kept : Log) (r : Replica) (steps : List Draft) → ShellStands shell m kept r steps → IsTrue m.honest → HasBehind m.seen [] m.seen
unfolding ShellStands HasLog
file_has shell m kept r steps s honest = (s.file honest).whole ∙ ap found (sym (append-nil (bodies_of m.seen)))

log_has : {D : Type 0} {g : _} (shell : Shell D g) (m : Meaning) (r : Replica) → ShellStands shell m r.log r [] → IsTrue m.honest → HasLogOf r m.seen
unfolding ShellStands
log_has shell m r s honest = s.file honest

same_disk : {D : Type 0} {g : _} (s s' : Shell D g) → s' ≡ s → disk_of s' ≡ disk_of s
same_disk s s' is = ap disk_of is

not_failed : {D : Type 0} {g : _} (shell : Shell D g) (m : Meaning) (kept : Log) (r : Replica) (steps : List Draft) → ShellStands shell m kept r steps → has_failed shell ≡ false
unfolding ShellStands
not_failed shell m kept r steps s = s.well

none_pending : {D : Type 0} {g : _} (shell : Shell D g) (m : Meaning) (kept : Log) (r : Replica) → ShellStands shell m kept r [] → pending_of shell ≡ 0
unfolding ShellStands
none_pending shell m kept r s = s.pending

pub run_shell-ended-requires : goal.run_shell-ended-requires
run_shell-ended-requires g c =
    let order = c.args.order.now in
    let s = c.in-Ok.booted.shell in
    let e = c.in-Ok.ensures in
    let log = e.found.0 in
    let r = booted order log in
    let m = borrowed_as g.D.Disk.meaning (disk_of s) in
    let stands = (e.boots log e.found.1).stands in
    record { idle = none_pending s m r.log r stands; well = not_failed s m r.log r [] stands }

pub end_of-requires : goal.end_of-requires
end_of-requires g c = c.run_shell-ended.ensures.went

pub returns-in-Ok-clause-runs : goal.returns-in-Ok-clause-runs
returns-in-Ok-clause-runs g c =
    let order = c.args.order.now in
    let old = g.D.Disk.meaning c.args.disk.now in
    let mid = g.D.Disk.meaning c.claim.new.disk in
    let k = Some c.boot-arg-1.given in
    let n : Meaning = record mid { borrowed_as = k } in
    let b = c.in-Ok.booted in
    let e = c.in-Ok.ensures in
    let f = c.in_default.ensures in
    let s = b.shell in
    let s' = c.run_shell-ended.new.shell in
    let o = borrowed_as g.D.Disk.meaning (disk_of s) in
    let log = e.found.0 in
    let kept = e.found.1 in
    let boots = e.boots log kept in
    let r = booted order log in
    let result = c.run_shell-ended.result in
    let ran = c.run_shell-ended.ensures.runs r boots.stands (sym (boot_mine order.me order.n log)) in
    let at = devices_of g.D.Disk.meaning g.P.Port.meaning g.C.Clock.readings g.O.Sink.written g.O.Sink.faults in
    let a = g.P.Port.meaning c.args.port.now in
    let z = g.P.Port.meaning c.run_shell-ended.new.port in
    let before = g.C.Clock.readings c.args.clock.now in
    let after = g.C.Clock.readings c.run_shell-ended.new.clock in
    let had = g.O.Sink.written c.args.sheet.now in
    let has = g.O.Sink.written c.run_shell-ended.new.sheet in
    let faults = g.O.Sink.faults c.args.sheet.now in
    let more = g.O.Sink.faults c.run_shell-ended.new.sheet in
    let addresses : peers_of s ≡ peers_in order = e.peers ∙ c.deref.ensures.value in
    let first = f.goes.later in
    let second = e.goes.later in
    let claimed : IsTrue old.honest → Claims old n order.cluster = λ honest. claims_lent old mid order.cluster k (f.ok honest) in
    let left : IsTrue old.honest → LeavesOnly old n (IsClaimedOrBefore old order.cluster) = λ honest. run_lent old mid (IsClaimedOrBefore old order.cluster) k (f.any_moment honest) in
    let Final : g.row.D.Denot → Type 0 = λ x. Runs order (at c.args.disk.now c.args.port.now c.args.clock.now c.args.sheet.now) (at x c.run_shell-ended.new.port c.run_shell-ended.new.clock c.run_shell-ended.new.sheet) c.end_of.result in
    let back : (disk_of s').ghost_name ≡ (disk_of s).ghost_name → c.disk-1.given.0 ≡ (disk_of s').now = λ same.
    c.disk-1.given.1 (sym (same_some (disk_of s).ghost_name c.boot-arg-1.given e.goes.borrowed_as) ∙ sym same ∙ ap (λ (d : MutBor g.row.D.Denot). d.ghost_name) (sym c.into_disk-disk.ensures.disk))
    ∙ ap (λ (d : MutBor g.row.D.Denot). d.now) c.into_disk-disk.ensures.disk in
    elim ran [
      | inl served ↦
          let v = served.serves in
          let p = borrowed_as g.D.Disk.meaning (disk_of s') in
          subst Final (sym (back (same_some (disk_of s').ghost_name (disk_of s).ghost_name v.goes.borrowed_as)))
          (inr (runs_life order log v.groups v.lost old n o p a z before after had has faults more result c.end_of.result b.bodies c.logs_are_one.ensures f.goes.honest f.goes.fill f.goes.later e.goes claimed left e.bodies kept
          (λ honest. e.added honest log kept) e.left (record {
            most = v.most;
            are_groups = v.are_groups;
            fates = v.fates;
            addressed = subst (λ (ps : List ℕ). AreAddressed ps r v.groups) addresses v.addressed;
            takes = v.takes;
            carries = subst (λ (ps : List ℕ). Carries ps r unwatched (kept_turns v.groups ++ v.lost) v.groups a z) addresses v.carries;
            goes = v.goes;
            keeps = v.keeps;
          }) c.end_of.ensures (life_writes b.bodies (life_of order log v.groups v.lost) had (g.O.Sink.written served.between) has result served.opened v.writes)
          (life_ends order (life_of order log v.groups v.lost) r unwatched v.groups v.lost
          (node_of (borrowed_as g.D.Disk.meaning) g.P.Port.meaning g.C.Clock.readings g.O.Sink.written g.O.Sink.faults s served.before c.args.port.now c.args.clock.now served.between)
          (node_of (borrowed_as g.D.Disk.meaning) g.P.Port.meaning g.C.Clock.readings g.O.Sink.written g.O.Sink.faults s' served.after c.run_shell-ended.new.port c.run_shell-ended.new.clock c.run_shell-ended.new.sheet)
          (record { disk = unlent_disk old; port = unlent_port a; clock = before; sheet = had; faults = faults }) (record { disk = unlent_disk p; port = unlent_port z; clock = after; sheet = has; faults = more }) result refl refl v.ends refl refl served.later refl (omega (arith, first, second)) refl)))
      | inr failed ↦
          let t = failed.0 in
          let same = same_disk s s' failed.1 in
          let final = back (ap (λ (d : MutBor g.row.D.Denot). d.ghost_name) same) ∙ ap (λ (d : MutBor g.row.D.Denot). d.now) same in
          let has_none = file_has s o r.log r [] boots.stands in
          let only : IsTrue o.honest → Only o.seen o.may_leave = λ honest. (s.log.sound honest (s.well (not_failed s o r.log r [] boots.stands))).durable in
          subst Final (sym final)
          (elim t.why [
            | inl w ↦
                inr (runs_life order log [] [] old n o o a z before after had has faults more (Err node_errors.WriteFault) c.end_of.result b.bodies c.logs_are_one.ensures f.goes.honest f.goes.fill f.goes.later e.goes claimed left e.bodies kept
                (λ honest. e.added honest log kept) e.left (lived_still order log before after a z o (Err node_errors.WriteFault) failed.2 failed.3 (λ q. tt) refl has_none only (log_has s o r boots.stands)) (c.end_of.ensures ∙ ap end_of w.0)
                (opening_prefix order log b.bodies had has t.wrote) (w.1, refl))
            | inr memory ↦
                inr (runs_life order log [] [] old n o o a z before after had has faults more (Err node_errors.NoMemory) c.end_of.result b.bodies c.logs_are_one.ensures f.goes.honest f.goes.fill f.goes.later e.goes claimed left e.bodies kept
                (λ honest. e.added honest log kept) e.left (lived_still order log before after a z o (Err node_errors.NoMemory) failed.2 failed.3 (λ q. tt) refl has_none only (log_has s o r boots.stands)) (c.end_of.ensures ∙ ap end_of memory)
                (opening_memory order log b.bodies had has t.wrote) tt)
          ])
    ]

pub returns-in-Ok-clause-too_long : goal.returns-in-Ok-clause-too_long
returns-in-Ok-clause-too_long g c =
    let order = c.args.order.now in
    let e = c.in-Ok.ensures in
    let log = e.found.0 in
    elim (c.run_shell-ended.ensures.runs (booted order log) (e.boots log e.found.1).stands (sym (boot_mine order.me order.n log))) [
      | inl served ↦ served.serves.carries.too_long
      | inr failed ↦ ap (λ (m : PortMeaning). m.too_long) failed.2
    ]

pub returns-in-Ok-clause-framing : goal.returns-in-Ok-clause-framing
returns-in-Ok-clause-framing g c =
    let order = c.args.order.now in
    let e = c.in-Ok.ensures in
    let log = e.found.0 in
    elim (c.run_shell-ended.ensures.runs (booted order log) (e.boots log e.found.1).stands (sym (boot_mine order.me order.n log))) [
      | inl served ↦ served.serves.carries.framing
      | inr failed ↦ ap (λ (m : PortMeaning). m.framing) failed.2
    ]

pub returns-in-Ok-clause-borrowed_as : goal.returns-in-Ok-clause-borrowed_as
returns-in-Ok-clause-borrowed_as g c =
    let order = c.args.order.now in
    let e = c.in-Ok.ensures in
    let log = e.found.0 in
    elim (c.run_shell-ended.ensures.runs (booted order log) (e.boots log e.found.1).stands (sym (boot_mine order.me order.n log))) [
      | inl served ↦ served.serves.carries.borrowed_as
      | inr failed ↦ ap (λ (m : PortMeaning). m.borrowed_as) failed.2
    ]
