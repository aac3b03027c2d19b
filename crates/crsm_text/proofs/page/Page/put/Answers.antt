use Rattle.std.proofs.Common.{◌≡◌, ◌+◌, ◌-◌, ◌++◌, ◌∷◌, [], ℕ, List, decimal, length, take, arith, ap, ◌∙◌, append_assoc, rules}
use borrow.Rule.Slice.PartMut.{put_mid}
use Rattle.crsm_text.specs.Words.{named}
use Rattle.crsm_text.proofs.Copies.{copied_to}
use Rattle.crsm_text.proofs.page.Page.put.Goals as goal

pub returns : goal.returns
returns c =
    let begin : ℕ = c.self.inside.len in
    let bytes : List ℕ = c.self.inside.bytes in
    let text : List ℕ = c.number.inside.text in
    let len : ℕ = c.number.inside.len in
    let words : List ℕ = named c.args.name.now c.args.values.now ++ c.args.end.now in
    let copy : c.copy_from_slice.new.self ≡ text = c.copy_from_slice.ensures.after in
    let size : length c.copy_from_slice.new.self ≡ begin + 24 - begin = ap length copy ∙ c.number.told ∙ omega arith in
    let room : length bytes ≡ 1024 = search rules in
    let number : take (begin + len) (put_mid begin (begin + 24 - begin) bytes c.copy_from_slice.new.self) ≡ c.args.self.now ++ (decimal c.args.number.now ++ 32 ∷ []) =
    copied_to bytes c.copy_from_slice.new.self begin (begin + 24 - begin) len size (omega (arith, room, c.self.invariant)) (omega (arith, c.number.invariant.0))
    ∙ ap (λ s. take begin bytes ++ take len s) copy
    ∙ ap (λ s. s ++ take len text) c.self.view_is
    ∙ ap (λ s. c.args.self.now ++ s) c.number.invariant.1
    ∙ ap (λ n. c.args.self.now ++ (decimal n ++ 32 ∷ [])) c.number.view_is in
    c.put_words-self-inside.ensures.written
    ∙ ap (λ s. s ++ words) number
    ∙ append_assoc c.args.self.now (decimal c.args.number.now ++ 32 ∷ []) words
    ∙ ap (λ s. c.args.self.now ++ s) (append_assoc (decimal c.args.number.now) (32 ∷ []) words)
