use Rattle.std.proofs.Common.{◌∙◌, ap, sym, subst, [], ◌∷◌, ◌++◌, List, ℕ}
use Rattle.crsm_ledger.specs.declared.spelt.SpellingRange.{SpellingRange}
use Rattle.crsm_ledger.specs.Pieces.{IsSpelling, pieces, piece}
use Rattle.crsm_ledger.proofs.PiecesLemmas.{keeps-trans, on_err, pieces-kept, pieces-push, spelling_short, spelt-kept, spelt-push}
use Rattle.crsm_ledger.proofs.spelt.Spelt.push.Goals as goal

pub invariant_of-self : goal.invariant_of-self
invariant_of-self c =
    spelt-kept c.self.inside.chunks.items c.make_room.new.chunks.items c.self.inside.places.items c.make_room.ensures.keeps c.self.invariant

pub invariant_of-self-in_err-place : goal.invariant_of-self-in_err-place
invariant_of-self-in_err-place c =
    spelt-kept c.self.inside.chunks.items c.append.new.chunks.items c.self.inside.places.items
    (keeps-trans c.self.inside.chunks.items c.make_room.new.chunks.items c.append.new.chunks.items c.make_room.ensures.keeps c.append.ensures.keeps)
    c.self.invariant

pub invariant_of-self-in_err-push : goal.invariant_of-self-in_err-push
invariant_of-self-in_err-push c =
    rw c.in_err-push.ensures.items
    (spelt-kept c.self.inside.chunks.items c.append.new.chunks.items c.self.inside.places.items
    (keeps-trans c.self.inside.chunks.items c.make_room.new.chunks.items c.append.new.chunks.items c.make_room.ensures.keeps c.append.ensures.keeps)
    c.self.invariant)

pub invariant_of-self-2 : goal.invariant_of-self-2
invariant_of-self-2 c =
    rw c.in_ok-push.ensures.items
    (spelt-push c.append.new.chunks.items c.self.inside.places.items c.in_ok-place.place
    (spelt-kept c.self.inside.chunks.items c.append.new.chunks.items c.self.inside.places.items
    (keeps-trans c.self.inside.chunks.items c.make_room.new.chunks.items c.append.new.chunks.items c.make_room.ensures.keeps c.append.ensures.keeps)
    c.self.invariant)
    c.in_ok-place.ensures.placed.0
    (subst (λ (bytes : List ℕ). IsSpelling bytes) (sym c.in_ok-place.ensures.placed.1) c.requires))

pub returns-clause-ok : goal.returns-clause-ok
returns-clause-ok c =
    ap (λ (ps : List SpellingRange). pieces c.append.new.chunks.items ps) c.in_ok-push.ensures.items
    ∙ pieces-push c.append.new.chunks.items c.self.inside.places.items c.in_ok-place.place
    ∙ ap (λ (before : List (List ℕ)). before ++ piece c.append.new.chunks.items c.in_ok-place.place ∷ [])
    (pieces-kept c.self.inside.chunks.items c.append.new.chunks.items c.self.inside.places.items
    (keeps-trans c.self.inside.chunks.items c.make_room.new.chunks.items c.append.new.chunks.items c.make_room.ensures.keeps c.append.ensures.keeps)
    c.self.invariant.0)
    ∙ ap (λ (bytes : List ℕ). pieces c.self.inside.chunks.items c.self.inside.places.items ++ bytes ∷ []) c.in_ok-place.ensures.placed.1
    ∙ ap (λ (before : List (List ℕ)). before ++ c.args.bytes.now ∷ []) c.self.view_is

pub append-requires-clause-short : goal.append-requires-clause-short
append-requires-clause-short c = spelling_short c.args.bytes.now c.requires

pub returns-in_err-make_room-clause-err : goal.returns-in_err-make_room-clause-err
returns-in_err-make_room-clause-err c =
    on_err c.from_residual.result _
    (pieces-kept c.self.inside.chunks.items c.make_room.new.chunks.items c.self.inside.places.items c.make_room.ensures.keeps c.self.invariant.0 ∙ c.self.view_is)

pub returns-in_err-place-clause-err : goal.returns-in_err-place-clause-err
returns-in_err-place-clause-err c =
    on_err c.from_residual-in_err-place.result _
    (pieces-kept c.self.inside.chunks.items c.append.new.chunks.items c.self.inside.places.items
    (keeps-trans c.self.inside.chunks.items c.make_room.new.chunks.items c.append.new.chunks.items c.make_room.ensures.keeps c.append.ensures.keeps)
    c.self.invariant.0
    ∙ c.self.view_is)

pub returns-in_err-push-clause-err : goal.returns-in_err-push-clause-err
returns-in_err-push-clause-err c =
    on_err c.from_residual-in_err-push.result _
    (ap (λ (ps : List SpellingRange). pieces c.append.new.chunks.items ps) c.in_err-push.ensures.items
    ∙ pieces-kept c.self.inside.chunks.items c.append.new.chunks.items c.self.inside.places.items
    (keeps-trans c.self.inside.chunks.items c.make_room.new.chunks.items c.append.new.chunks.items c.make_room.ensures.keeps c.append.ensures.keeps)
    c.self.invariant.0
    ∙ c.self.view_is)
