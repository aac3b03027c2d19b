use Rattle.std.proofs.Common.{rules, ◌≡◌, ◌++◌, ◌∷◌, [], ◌<◌, suc, length, ◌∙◌, ap, sym, subst, arith}
use Rattle.std.specs.Ordering.{nat_cmp}
use Rattle.std.specs.BTreeMap.{insert_entry}
use Rattle.std.proofs.lemmas.List.{length-set, length-append}
use Rattle.crsm_mpledger.specs.BySlot.{AreFrom, SlotsStand, numbered}
use Rattle.crsm_mpledger.proofs.NumberedLemmas.{insert-listed, insert-beyond, insert-between, are_from-insert}
use Rattle.crsm_mpledger.proofs.by_slot.BySlot.insert.Goals as goal

pub returns-then-slot-len : goal.returns-then-slot-len
returns-then-slot-len g c entries s =
    let slot = c.args.slot in
    let value = c.args.value in
    let xs = c.args.self.now.prefix.items in
    let es = c.args.self.now.beyond.entries in
    let above : length xs < slot = search rules in
    record {
      is = ap (λ zs. numbered 0 xs ++ zs) c.in_ok-insert.ensures.entries ∙ sym (insert-beyond 0 slot value xs es (omega (arith, above)))
          ∙ ap (λ zs. insert_entry nat_cmp zs slot value) s.is;
      apart = subst (AreFrom (suc (length xs))) (sym c.in_ok-insert.ensures.entries) (are_from-insert (suc (length xs)) slot value es (omega (arith, above)) s.apart);
    }

pub returns-then-slot-len-2 : goal.returns-then-slot-len-2
returns-then-slot-len-2 g c entries s =
    let slot = c.args.slot in
    let value = c.args.value in
    let xs = c.args.self.now.prefix.items in
    let es = c.args.self.now.beyond.entries in
    let below : slot < length xs = search rules in
    record {
      is = sym (insert-listed 0 slot slot value xs es (omega arith) below) ∙ ap (λ zs. insert_entry nat_cmp zs slot value) s.is;
      apart = subst (λ n. AreFrom (suc n) es) (sym (length-set xs slot value)) s.apart;
    }

pub returns : goal.returns
returns g c entries s =
    let slot = c.args.slot in
    let value = c.args.value in
    let xs = c.args.self.now.prefix.items in
    let es = c.args.self.now.beyond.entries in
    let at : slot ≡ length xs = search rules in
    let grown : c.push.new.self.items ≡ xs ++ value ∷ [] = search rules in
    let long : length c.push.new.self.items ≡ suc slot = ap length grown ∙ length-append xs (value ∷ []) ∙ omega (arith, at) in
    let apart = subst (λ n. AreFrom (suc n) es) (sym at) s.apart in
    subst (SlotsStand c.close_gap.new.self)
    (ap (λ zs. numbered 0 zs ++ es) grown ∙ insert-between slot value xs es at apart ∙ ap (λ zs. insert_entry nat_cmp zs slot value) s.is)
    (c.in_ok-close_gap.ensures (subst (λ n. AreFrom n es) (sym long) apart))
