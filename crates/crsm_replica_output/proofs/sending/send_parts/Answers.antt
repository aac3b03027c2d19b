use Rattle.std.proofs.Common.{◌≡◌, ◌≤◌, ℕ, List, [], ◌∷◌, ◌++◌, length, map, subst, sym, ◌∙◌}
use Rattle.crsm_base.specs.declared.datagram.Datagram.TheVariants as datagram
use Rattle.crsm_base.specs.Messages.{control_bytes}
use Rattle.crsm_spec.specs.Types.{Datagram}
use Rattle.crsm_spec.specs.Draft.{parts_to}
use Rattle.crsm_segment.specs.Pieces.{sends_of}
use Rattle.crsm_replica_output.specs.Made.{OutputStands, to_replica}
use Rattle.crsm_replica_output.proofs.Parts.{as_cut, one_part}
use Rattle.crsm_replica_output.proofs.Sizes.{some, few}
use Rattle.crsm_replica_output.proofs.sending.send_parts.Goals as goal

pub cut-requires-clause-some : goal.cut-requires-clause-some
cut-requires-clause-some c = subst (λ (bytes : List ℕ). 1 ≤ length bytes) (sym c.requires.of.spelt) (some c.requires.control)

pub cut-requires-clause-few : goal.cut-requires-clause-few
cut-requires-clause-few c = subst (λ (bytes : List ℕ). length bytes ≤ 2162688) (sym c.requires.of.spelt) (few c.requires.control c.requires.of.fits)

pub returns : goal.returns
returns c r m control s me boot number is =
    let sends : c.in_ok-parts.parts ≡ map to_replica (parts_to r c.args.to control) =
    c.in_ok-parts.ensures
    ∙ (λ j. sends_of (me j) c.args.to (boot j) (number j) (is.spelt j))
    ∙ as_cut r c.args.to control in
    c.in_ok-send_all.ensures m (parts_to r c.args.to control) s sends

pub returns-then-spelling : goal.returns-then-spelling
returns-then-spelling c r m control s me boot number is =
    let short : length (control_bytes control) ≤ 8000 = subst (λ (bytes : List ℕ). length bytes ≤ 8000) is.spelt c.if-spelling.true in
    let part : (c.args.to, datagram.Part c.args.from c.args.to c.args.boot c.args.number 0 1 c.args.spelling.now) ∷ [] ≡ parts_to r c.args.to control =
    (λ j. (c.args.to, datagram.Part (me j) c.args.to (boot j) (number j) 0 1 (is.spelt j)) ∷ [])
    ∙ sym (one_part r c.args.to control (some control) short) in
    subst (λ (sent : List (ℕ × Datagram)). OutputStands c.send_at_once.new.output (record m { sends = m.sends ++ sent })) part (c.in_ok-send_at_once.ensures m s)
