use Rattle.std.proofs.Common.{◌≡◌, ℕ, List, [], ◌∷◌, ◌++◌, subst, sym, ap, arith, ◌∙◌, append_assoc}
use Rattle.crsm_text_words.specs.Addresses.{address_text, addresses_text}
use Rattle.crsm_text_words.proofs.Listed.{Fit, Fit-push, Ahead, ahead_all, ahead_next, ahead_last, addresses-cons}
use Rattle.crsm_text_words.proofs.address.read_list.Goals as goal

pub loop-prefix-init : goal.loop-prefix-init
loop-prefix-init c =
    let e : c.new-addresses.result.items ≡ [] = c.new-addresses.ensures.items in
    record {
      fit = subst (λ (xs : List ℕ). Fit xs) (sym e) tt;
      found = λ ns some t. subst (λ (xs : List ℕ). c.args.word.now ≡ addresses_text (xs ++ ns)) (sym e) t;
      only = λ ns fit some t. subst (λ (xs : List ℕ). Ahead ns xs c.args.word.now) (sym e) (ahead_all ns c.args.word.now fit some t);
    }

pub loop-prefix-preserved : goal.loop-prefix-preserved
loop-prefix-preserved c =
    let items : List ℕ = c.loop-prefix.addresses.items in
    let number : ℕ = c.in-Some-read_address.address in
    let behind : List ℕ = c.in-Some.behind.now in
    let e : c.push.new.self.items ≡ items ++ number ∷ [] = c.in_ok-push.ensures.items in
    let spelt : c.in-Some.prefix.now ≡ address_text number = c.in-Some-read_address.ensures.found.1 in
    let split : c.loop-prefix.rest.now ≡ c.in-Some.prefix.now ++ 44 ∷ behind = c.in-Some.ensures.found in
    record {
      fit = subst (λ (xs : List ℕ). Fit xs) (sym e) (Fit-push items number c.loop-prefix.invariant.fit c.in-Some-read_address.ensures.found.0);
      found = λ ns some t.
          let left : c.loop-prefix.rest.now ≡ addresses_text (number ∷ ns) =
          split ∙ ap (λ (s : List ℕ). s ++ 44 ∷ behind) spelt ∙ ap (λ (s : List ℕ). address_text number ++ 44 ∷ s) t ∙ sym (addresses-cons number ns some) in
          c.loop-prefix.invariant.found (number ∷ ns) (omega arith) left
          ∙ ap addresses_text (sym (append_assoc items (number ∷ []) ns) ∙ ap (λ (s : List ℕ). s ++ ns) (sym e));
      only = λ ns fit some t.
          let a = ahead_next ns items c.loop-prefix.rest.now c.in-Some.prefix.now behind (c.loop-prefix.invariant.only ns fit some t) c.in-Some.ensures.word split in
          let same : number ≡ a.0 = cc (c.in-Some-read_address.ensures.only a.0 a.1 a.2) in
          subst (λ (xs : List ℕ). Ahead ns xs behind) (ap (λ (k : ℕ). items ++ k ∷ []) (sym same) ∙ sym e) a.3;
    }

pub returns-in_default-read_address-clause-only : goal.returns-in_default-read_address-clause-only
returns-in_default-read_address-clause-only c = λ ns fit some t.
    let a = ahead_next ns c.loop-prefix.addresses.items c.loop-prefix.rest.now c.in-Some.prefix.now c.in-Some.behind.now (c.loop-prefix.invariant.only ns fit some t) c.in-Some.ensures.word c.in-Some.ensures.found in
    cc (c.in_default-read_address.ensures.only a.0 a.1 a.2)

pub returns-in_default-read_address-2-clause-only : goal.returns-in_default-read_address-2-clause-only
returns-in_default-read_address-2-clause-only c = λ ns fit some t.
    let a = ahead_last ns c.loop-prefix.addresses.items c.loop-prefix.rest.now (c.loop-prefix.invariant.only ns fit some t) (λ prefix behind lacks split. c.in_default.ensures.only prefix behind lacks split) in
    cc (c.in_default-read_address-2.ensures.only a.0 a.1 a.2)

pub returns-clause-only : goal.returns-clause-only
returns-clause-only c = λ ns fit some t.
    let a = ahead_last ns c.loop-prefix.addresses.items c.loop-prefix.rest.now (c.loop-prefix.invariant.only ns fit some t) (λ prefix behind lacks split. c.in_default.ensures.only prefix behind lacks split) in
    let same : c.in-Some-read_address-2.address ≡ a.0 = cc (c.in-Some-read_address-2.ensures.only a.0 a.1 a.2) in
    let e : c.push-2.new.self.items ≡ c.loop-prefix.addresses.items ++ c.in-Some-read_address-2.address ∷ [] = c.in_ok-push-2.ensures.items in
    e ∙ ap (λ (k : ℕ). c.loop-prefix.addresses.items ++ k ∷ []) same ∙ sym a.3
