use Rattle.std.proofs.Common.{◌<◌, ℕ, List, length, refl, sym, ap, subst, ◌∙◌}
use Rattle.std.proofs.Math.Logic.{∥∥₁_map}
use Rattle.crsm_log.specs.Words.{gate_of}
use Rattle.crsm_mpspec.specs.World.{body_size}
use Rattle.crsm_mpworld.proofs.Boots.{boot_body, boot_size, booted, can_boot, fresh_boots}
use Rattle.crsm_mpworld.proofs.place.Machine.boot.Goals as goal

pub keep-requires-clause-some : goal.keep-requires-clause-some
keep-requires-clause-some c = subst (λ (bytes : List ℕ). 0 < length bytes) (sym (c.as_slice.ensures ∙ c.in_ok-write_body.ensures)) boot_body

pub boot-requires-clause-few : goal.boot-requires-clause-few
boot-requires-clause-few c =
    let old = c.args.self.now in
    can_boot old.core old.log (gate_of old.log) (old.log.sound refl (old.unfailed c.if-self.false)) old.log.small (old.stands c.if-self.false)

pub returns : goal.returns
unfolding body_size
returns c r is =
    let me = c.args.me in
    let n = c.args.n in
    let stands = c.boot.ensures r is.on.stands in
    let on = booted c.boot.new.self c.args.self.now.log c.keep.new.log me n r.log c.write_body.new.body c.as_slice.result.now c.in_ok-write_body.ensures c.as_slice.ensures is.on.kept
    c.in_ok-keep.ensures.kept stands in (
      record {
        count = fresh_boots me n r.log c.boots.result (c.boots.ensures _ (c.ledger.ensures _ stands));
        size = ap length (c.as_slice-2.ensures ∙ c.in_ok-write_body.ensures) ∙ boot_size me n r.log;
      },
      record { unspent = refl; on = on },
    )

-- it is that of some replica
pub invariant_of-self-2-clause-stands : goal.invariant_of-self-2-clause-stands
invariant_of-self-2-clause-stands c unspent =
    ∥∥₁_map (c.args.self.now.stands c.if-self.false) (λ s.
    record {
      replica = _;
      is = booted c.boot.new.self c.args.self.now.log c.keep.new.log c.args.me c.args.n s.replica.log c.write_body.new.body c.as_slice.result.now c.in_ok-write_body.ensures c.as_slice.ensures s.is.kept
          c.in_ok-keep.ensures.kept (c.boot.ensures s.replica s.is.stands);
    })
