use Rattle.std.proofs.Common.{◌∙◌, ap, arith, length, sym, subst}
use Rattle.crsm_spec.specs.Node.{Turn}
use Rattle.crsm_spec.specs.Moments.{single}
use Rattle.crsm_sim_machine.specs.Arriving.{turn_of}
use Rattle.crsm_world.specs.Turning.{ending_of, turn_at}
use Rattle.crsm_spec.specs.Types.{Datagram}
use Rattle.crsm_schedule.specs.declared.Single.{Single}
use Rattle.crsm_schedule.specs.Grammar.{FitsSingle}
use Rattle.crsm_world.specs.Doing.{single_of}
use Rattle.crsm_world.specs.Turning.{IsGenuine}
use Rattle.crsm_world.proofs.Turns.{turn_datagram, turn_tick, turn_suspect, turn_junk}
use Rattle.crsm_world.proofs.Leading.{on_as}
use Rattle.crsm_world.proofs.world.World.add_single.Goals as goal

pub returns-in_ok-request-in-Request : goal.returns-in_ok-request-in-Request
unfolding single single_of
returns-in_ok-request-in-Request c v h g =
    let fits = subst (λ (s : Single). FitsSingle s) c.in-Request.is c.requires.fits in
    rw c.in-Request.is (on_as _ _ _ _ _ _ (sym (turn_datagram (ending_of c.args.ending) v c.in-Request.replica c.in-Request.command.client (Datagram.Request c.in-Request.command) c.in-Request.reading fits.command_fits)) (c.in_ok-request-in-Request.ensures v h))

pub returns-in_ok-go-in-Go : goal.returns-in_ok-go-in-Go
unfolding single_of
returns-in_ok-go-in-Go c v h g = rw c.in-Go.is (c.in_ok-go-in-Go.ensures v h)

pub returns-in_ok-come-in-Again : goal.returns-in_ok-come-in-Again
unfolding single single_of
returns-in_ok-come-in-Again c v h g = rw c.in-Again.is (c.in_ok-come-in-Again.ensures v h)

pub returns-in_ok-arrive-in-Tick : goal.returns-in_ok-arrive-in-Tick
unfolding single single_of turn_of
returns-in_ok-arrive-in-Tick c v h g = rw c.in-Tick.is (on_as _ _ _ _ _ _ (sym (turn_tick (ending_of c.args.ending) v c.in-Tick.replica c.in-Tick.reading)) (c.in_ok-arrive-in-Tick.ensures v h))

pub returns-in_ok-arrive-in-Suspect : goal.returns-in_ok-arrive-in-Suspect
unfolding single single_of turn_of
returns-in_ok-arrive-in-Suspect c v h g =
    let e = ap (λ ms. turn_at (ending_of c.args.ending) v c.in-Suspect.replica (Turn.Suspect ms) c.in-Suspect.reading) c.in_ok-copy-in-Suspect.ensures
    ∙ turn_suspect (ending_of c.args.ending) v c.in-Suspect.replica c.in-Suspect.reading c.in-Suspect.members in
    rw c.in-Suspect.is (on_as _ _ _ _ _ _ (sym e) (c.in_ok-arrive-in-Suspect.ensures v h))

pub returns-in_ok-bytes_arrive-in-Junk : goal.returns-in_ok-bytes_arrive-in-Junk
unfolding single single_of
returns-in_ok-bytes_arrive-in-Junk c v h g =
    let none = subst (λ (s : Single). IsGenuine s) c.in-Junk.is g in
    let e = ap (λ b. turn_at (ending_of c.args.ending) v c.in-Junk.replica (Turn.In 0 b) c.in-Junk.reading) c.as_slice.ensures
    ∙ turn_junk (ending_of c.args.ending) v c.in-Junk.replica 0 c.in-Junk.reading c.in-Junk.bytes none in
    rw c.in-Junk.is (on_as _ _ _ _ _ _ (sym e) (c.in_ok-bytes_arrive-in-Junk.ensures v h))

pub bytes_arrive-requires-clause-short : goal.bytes_arrive-requires-clause-short
bytes_arrive-requires-clause-short c =
    let fits = subst (λ (s : Single). FitsSingle s) c.in-Junk.is c.requires.fits in
    let all = ap length c.as_slice.ensures in
    let most = fits.most in
    omega (arith, all, most)
