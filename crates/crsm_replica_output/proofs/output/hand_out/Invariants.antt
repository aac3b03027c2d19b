use Rattle.std.proofs.Common.{◌≡◌, ◌++◌, length, map}
use Rattle.std.specs.Vec.Iter.{into_iter_items, into_iter_len}
use Rattle.crsm_replica_output.specs.Made.{on_paper, to_address, line_of}
use Rattle.crsm_replica_output.proofs.output.hand_out.Given as goal

abbrev pub invariant-loop-reply : goal.invariant-loop-reply
invariant-loop-reply l = (l.sends ++ map to_address (map on_paper (into_iter_items l.reply-iterator)) ≡ l.fn.sends ++ map to_address (map on_paper l.fn.replies.items))
    × (l.lines ++ map line_of (map on_paper (into_iter_items l.reply-iterator)) ≡ l.fn.lines ++ map line_of (map on_paper l.fn.replies.items))
    × (into_iter_len l.reply-iterator ≡ length (into_iter_items l.reply-iterator))
