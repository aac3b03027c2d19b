use Rattle.std.proofs.Common.{Some, ◌≡◌}
use Rattle.std.specs.Prelude.{slice_get}
use Rattle.crsm_base.specs.Store.{after}
use Rattle.crsm_spec.specs.Log.{executed}
use Rattle.crsm_cmd_dump.proofs.Listing.{listed_more}
use Rattle.crsm_cmd_dump.proofs.catalog.Catalog.of.Goals as goal

pub loop-place-init : goal.loop-place-init
unfolding after
loop-place-init c = λ me n log stands. c.in_ok-catalog.ensures

pub loop-place-preserved : goal.loop-place-preserved
loop-place-preserved c = λ me n log stands.
    let there : slice_get (executed log) c.loop-place.place ≡ Some c.in_ok-entry.entry = c.in_ok-entry.ensures.value me n log stands in
    listed_more _ (executed log) c.loop-place.place c.in_ok-entry.entry there (c.in_ok-take.ensures _ (c.loop-place.invariant me n log stands))
