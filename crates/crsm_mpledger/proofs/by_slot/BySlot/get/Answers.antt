use Rattle.std.proofs.Common.{rules, ◌≡◌, ◌<◌, ◌≤◌, length, ◌∙◌, ap, sym, arith}
use Rattle.std.specs.Prelude.{slice_get}
use Rattle.std.specs.Option.{option_copied}
use Rattle.std.specs.Ordering.{nat_cmp}
use Rattle.std.specs.Map.{lookup}
use Rattle.std.specs.BTreeMap.{is_at}
use Rattle.crsm_mpledger.proofs.NumberedLemmas.{get-listed, get-beyond, lent-item}
use Rattle.crsm_mpledger.proofs.by_slot.BySlot.get.Goals as goal

pub returns-then-slot-len : goal.returns-then-slot-len
returns-then-slot-len g c entries s =
    let slot = c.args.slot in
    let xs = c.args.self.now.prefix.items in
    let same : c.deref.result.now ≡ xs = search rules in
    let below : slot < length xs = search rules in
    let is : option_copied c.get.result ≡ slice_get xs slot
    = lent-item c.deref.result.now slot c.get.result c.get.ensures.lookup.0 c.get.ensures.lookup.1 ∙ ap (λ ys. slice_get ys slot) same in
    is ∙ sym (get-listed 0 slot slot xs c.args.self.now.beyond.entries (omega arith) below)
    ∙ ap (λ es. lookup (is_at (nat_cmp slot)) es) s.is

pub returns-else-slot-len : goal.returns-else-slot-len
returns-else-slot-len g c entries s =
    let slot = c.args.slot in
    let most : length c.args.self.now.prefix.items ≤ slot = search rules in
    c.get-else-slot-len.ensures.value
    ∙ sym (get-beyond 0 slot c.args.self.now.prefix.items c.args.self.now.beyond.entries (omega (arith, most)))
    ∙ ap (λ es. lookup (is_at (nat_cmp slot)) es) s.is
