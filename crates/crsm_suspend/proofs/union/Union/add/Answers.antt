use Rattle.std.proofs.Common.{◌≡◌, ◌∙◌, sym, ap, subst, true, false}
use Rattle.std.specs.Prelude.{is_some, List, map}
use Rattle.std.specs.BTreeMap.{is_at, insert_entry}
use Rattle.std.specs.Map.{lookup}
use Rattle.crsm_spec.specs.Types.{Stamp, Entry}
use Rattle.crsm_spec.specs.Collect.{with_new}
use Rattle.crsm_suspend.specs.Union.{IsByStamp}
use Rattle.crsm_suspend.proofs.UnionLemmas.{order_of, known_stamp, new_stamp, stays_by_stamp}
use Rattle.crsm_suspend.proofs.union.Union.add.Goals as goal

pub returns-then-contains_key : goal.returns-then-contains_key
returns-then-contains_key c =
    let f : is_some (lookup (is_at (order_of c.args.entry.now.stamp)) c.self.inside.entries.entries) ≡ true = cc (c.contains_key.ensures) in
    sym c.self.view_is ∙ sym (known_stamp c.self.inside.entries.entries c.args.entry.now c.self.invariant f) ∙ ap (λ xs. with_new xs c.args.entry.now) c.self.view_is

pub invariant_of-self-2 : goal.invariant_of-self-2
invariant_of-self-2 c =
    let f : is_some (lookup (is_at (order_of c.args.entry.now.stamp)) c.self.inside.entries.entries) ≡ false = cc (c.contains_key.ensures) in
    let copy : c.in_ok-copy.copy ≡ c.args.entry.now = c.in_ok-copy.ensures in
    let all : c.insert.new.self.entries ≡ insert_entry order_of c.self.inside.entries.entries c.args.entry.now.stamp c.in_ok-copy.copy = c.in_ok-insert.ensures.entries in
    subst IsByStamp (sym all) (stays_by_stamp c.self.inside.entries.entries c.args.entry.now.stamp c.in_ok-copy.copy (ap (λ (e : Entry). e.stamp) (sym copy)) c.self.invariant f)

pub returns : goal.returns
returns c =
    let f : is_some (lookup (is_at (order_of c.args.entry.now.stamp)) c.self.inside.entries.entries) ≡ false = cc (c.contains_key.ensures) in
    let copy : c.in_ok-copy.copy ≡ c.args.entry.now = c.in_ok-copy.ensures in
    let all : c.insert.new.self.entries ≡ insert_entry order_of c.self.inside.entries.entries c.args.entry.now.stamp c.in_ok-copy.copy = c.in_ok-insert.ensures.entries in
    ap (λ (es : List (Stamp × Entry)). map (λ p. p.1) es) all
    ∙ new_stamp c.self.inside.entries.entries c.args.entry.now.stamp c.in_ok-copy.copy (ap (λ (e : Entry). e.stamp) (sym copy)) c.self.invariant.at f
    ∙ ap (λ e. with_new (map (λ p. p.1) c.self.inside.entries.entries) e) copy ∙ ap (λ xs. with_new xs c.args.entry.now) c.self.view_is
