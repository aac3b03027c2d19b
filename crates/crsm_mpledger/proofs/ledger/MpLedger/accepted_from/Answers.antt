use Rattle.std.proofs.Common.{rules, ◌≡◌, ◌<◌, ◌≤◌, ◌++◌, ◌∷◌, [], Some, length, get_or, refl, ◌∙◌, ap, sym, arith, take_all}
use Rattle.std.specs.Prelude.{map, filter, slice_get, ◌&&◌, true}
use Rattle.std.specs.Ordering.{nat_cmp, is_le}
use Rattle.std.specs.Map.Iter.{deref_pair}
use Rattle.std.proofs.lemmas.Map.Iter.{iter_end}
use Rattle.std.proofs.lemmas.Option.{slice_get_read}
use Rattle.crsm_mpspec.specs.Log.{by_slot, accepts, accepted_from, from_slot}
use Rattle.crsm_mpledger.specs.BySlot.{numbered}
use Rattle.crsm_mpledger.proofs.SlotLemmas.{accepted_of, entries-from_slot}
use Rattle.crsm_mpledger.proofs.NumberedLemmas.{none_before, reported-next, reported-whole}
use Rattle.crsm_mpledger.proofs.ledger.MpLedger.accepted_from.Goals as goal

pub loop-slot-init : goal.loop-slot-init
loop-slot-init c =
    let empty : c.new-accepts.result.items ≡ [] = search rules in
    (omega arith, empty ∙ ap (λ es. map accepted_of es) (sym (none_before 0 c.args.start c.args.start c.args.self.now.accepted.prefix.items (omega arith))))

pub loop-slot-preserved : goal.loop-slot-preserved
loop-slot-preserved c =
    let slot = c.loop-slot.slot in
    let xs = c.args.self.now.accepted.prefix.items in
    let value = c.index-first-slot.result in
    let below : slot < length xs = search rules in
    let is : slice_get xs slot ≡ Some value
    = slice_get_read xs (length xs) slot value refl below (c.index-first-slot.is ∙ ap (λ ys. get_or ys slot value) c.prefix-first.ensures) in
    let more : c.push.new.self.items ≡ c.loop-slot.accepts.items ++ accepted_of (slot, value) ∷ [] = search rules in
    (omega (arith, c.loop-slot.invariant.0), reported-next accepted_of c.args.start slot xs value c.loop-slot.accepts.items c.push.new.self.items c.loop-slot.invariant.0 is c.loop-slot.invariant.1 more)

pub loop-slot-2-init : goal.loop-slot-2-init
loop-slot-2-init c =
    let xs = c.args.self.now.accepted.prefix.items in
    let most : length xs ≤ c.loop-slot.slot = search rules in
    c.loop-slot.invariant.1 ∙ ap (λ ys. map accepted_of (from_slot c.args.start (numbered 0 ys))) (take_all c.loop-slot.slot xs most) ∙ search rules

pub returns : goal.returns
unfolding accepted_from
returns c log s =
    let whole : map deref_pair c.loop-slot-2.yielded ≡ c.range-slot-items.result = search (rules, iter_end) in
    let es = c.args.self.now.accepted.beyond.entries in
    let part = whole ∙ c.range-slot-items.ensures.between tt ∙ ap (λ zs. filter (λ e. is_le (nat_cmp c.args.start e.0) && true) zs) c.beyond.ensures ∙ entries-from_slot c.args.start es in
    c.in_ok-list.ensures ∙ reported-whole accepted_of c.args.start c.args.self.now.accepted.prefix.items es (by_slot (accepts log)) c.loop-slot-2.accepts.items s.accepted.is
    (c.loop-slot-2.invariant ∙ ap (λ zs. map accepted_of (from_slot c.args.start (numbered 0 c.args.self.now.accepted.prefix.items)) ++ map accepted_of zs) part)
