use Rattle.std.proofs.Common.{◌∙◌, ◌∷◌, [], ◌++◌, ap}
use Rattle.crsm_audit.specs.Entries.{EntryLists}
use Rattle.crsm_audit.proofs.KeptEntries.{kept_held, more_places}
use Rattle.crsm_audit.proofs.entries.AccountEntries.hold.Goals as goal

pub returns-in_err-push-clause-list : goal.returns-in_err-push-clause-list
returns-in_err-push-clause-list c = c.in_ok-place.ensures.0.same c.self.inside.list.items c.self.invariant.list_within ∙ ap (λ (e : EntryLists). e.list) c.self.view_is

pub invariant_of-self-2 : goal.invariant_of-self-2
invariant_of-self-2 c =
    let i = c.self.inside in
    kept_held i.kept c.keep.new.kept i.list.items i.held.items c.push.new.self.items c.args.bytes.now c.in_ok-place.place c.self.invariant c.in_ok-place.ensures.0 c.in_ok-push.ensures.items

pub returns-clause-held : goal.returns-clause-held
returns-clause-held c =
    let i = c.self.inside in
    (more_places i.kept c.keep.new.kept c.args.bytes.now c.in_ok-place.place i.held.items c.push.new.self.items c.in_ok-place.ensures.0 c.self.invariant.held_within c.in_ok-push.ensures.items).1
    ∙ ap (λ (e : EntryLists). e.held ++ c.args.bytes.now ∷ []) c.self.view_is

pub returns-clause-list : goal.returns-clause-list
returns-clause-list c = c.in_ok-place.ensures.0.same c.self.inside.list.items c.self.invariant.list_within ∙ ap (λ (e : EntryLists). e.list) c.self.view_is
