-- After a sync a crash leaves what a read returns.
use Rattle.std.proofs.Common.{◌≡◌, IsTrue, [], ◌∷◌, refl, ◌∙◌, ap}
use Rattle.std.specs.Prelude.{Option, Some, None, true}
use Rattle.crsm_port_image.specs.Calls.{Call, History, noted, synced}
use Rattle.crsm_log.specs.Log.{is_quiet, recorded}

sync_quiet : (h : Option History) → is_quiet (noted synced h) ≡ true
sync_quiet None = refl
sync_quiet (Some h) = refl

pub noted_quiet : (now before : Option History) → now ≡ noted synced before → IsTrue (is_quiet now)
noted_quiet now before is = ap is_quiet is ∙ sync_quiet before

pub pair_quiet : (now before : Option History) (call : Call) → now ≡ recorded (call ∷ synced ∷ []) before → IsTrue (is_quiet now)
pair_quiet now before call is = noted_quiet now (noted call before) is
