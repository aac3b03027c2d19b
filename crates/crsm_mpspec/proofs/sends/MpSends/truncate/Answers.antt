use Rattle.std.proofs.Common.{◌≡◌, ◌-◌, ◌<◌, length, sym, ap, ◌∙◌, arith}
use Rattle.std.proofs.lemmas.List.{length-set}
use Rattle.crsm_mpspec.specs.Sends.{sends_of}
use Rattle.crsm_mpspec.proofs.SendLemmas.{cut-sends, kept-next, length-sends, missing-next}
use Rattle.crsm_mpspec.proofs.sends.MpSends.truncate.Goals as goal

pub loop-left-preserved : goal.loop-left-preserved
loop-left-preserved c =
    let items = c.loop-left.self-inside.items.items in
    let i = c.loop-left.kept in
    let left = c.loop-left.left in
    let m = c.index_mut-multicast.result.now in
    let cut = record m { receivers = c.truncate-left.new.self } in
    let within : i < length items = omega arith in
    let fewer : c.truncate-left.result ≡ left - length (sends_of m) = c.truncate-left.ensures.missing ∙ ap (λ (k : _). left - k) (sym (length-sends m)) in
    record {
      within = omega (arith, length-set items i cut);
      kept = rw fewer (kept-next sends_of items i left m cut within c.index_mut-multicast.ensures.value (cut-sends m c.truncate-left.new.self left c.truncate-left.ensures.kept) ∙ c.loop-left.invariant.kept);
      missing = rw fewer (missing-next sends_of items i left m cut within c.index_mut-multicast.ensures.value ∙ c.loop-left.invariant.missing);
    }
