use Rattle.std.proofs.Common.{◌≡◌, [], None, arith, length, refl, subst, sym}
use Rattle.std.proofs.Math.Logic.{∥∥₁_elim}
use Rattle.std.proofs.Props.{props}
use Rattle.crsm_disk.specs.Memory.{good_left}
use Rattle.crsm_sim_machine.specs.declared.stopped.Left.TheVariants as left
use Rattle.crsm_sim_machine.proofs.Disks.{renamed, renamed_left}
use Rattle.crsm_sim_machine.proofs.Ups.{is_well}
use Rattle.crsm_sim_machine.proofs.stopped.stopped_by.Goals as goal

-- ---- steps are pending

pub returns-then-pending-gt0-clause-stands : goal.returns-then-pending-gt0-clause-stands
returns-then-pending-gt0-clause-stands c me n r up =
    let d = c.into_disk.result in
    let image = c.into_disk.ensures.image r.log r [] (record { first = d.first; calls = d.calls }) d.fill up.stands refl refl in
    renamed _ r.log r.me me r.n n up.is_me up.began (record {
      left = c.in_ok-disk.ensures r.me r.n r.log image;
      summary = c.summary_of-summary.ensures r.me r.n r.log (c.state.ensures r.log r [] up.stands);
    })

pub returns-then-pending-gt0-clause-some : goal.returns-then-pending-gt0-clause-some
returns-then-pending-gt0-clause-some c me n h =
    let d = c.into_disk.result in
    let r = h.replica in
    let image = c.into_disk.ensures.image h.kept r h.steps (record { first = d.first; calls = d.calls }) d.fill h.is.stands refl refl in
    record { log = h.kept; has = renamed_left (left.Disk _) h.kept r.me me r.n n h.is.is_me h.is.began (c.in_ok-disk.ensures r.me r.n h.kept image) }

-- ---- none is

pub into_log-requires : goal.into_log-requires
into_log-requires c =
    ∥∥₁_elim c.requires (hlevel props) (λ up. let h = up.2 in is_well c.args.shell h.kept h.replica h.steps h.is.stands)

pub returns-clause-stands : goal.returns-clause-stands
returns-clause-stands c me n r up =
    renamed _ r.log r.me me r.n n up.is_me up.began (record {
      left = record { stands = c.into_log.ensures.stands r.log r [] up.stands refl; well = subst (λ d. good_left d ≡ None) (sym c.into_log.ensures.disk) up.well };
      summary = c.summary_of-summary.ensures r.me r.n r.log (c.state.ensures r.log r [] up.stands);
    })

pub returns-clause-some : goal.returns-clause-some
returns-clause-some c me n h =
    let r = h.replica in
    let few = c.if-pending-gt0.false in
    let counted = c.pending.ensures.steps h.kept r h.steps h.is.stands in
    let none : length h.steps ≡ 0 = omega (arith, few, counted) in
    record {
      log = r.log;
      has = renamed_left (left.Log _) r.log r.me me r.n n h.is.is_me h.is.began (record {
        stands = c.into_log.ensures.stands h.kept r h.steps h.is.stands none;
        well = subst (λ d. good_left d ≡ None) (sym c.into_log.ensures.disk) h.is.well;
      });
    }
