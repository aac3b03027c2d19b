use Rattle.std.proofs.Common.{◌∙◌, sym, subst, ap}
use Rattle.std.specs.Prelude.{List}
use Rattle.crsm_segment.specs.Gather.{GatherStands}
use Rattle.crsm_segment.specs.Taking.{piece, whole_of}
use Rattle.crsm_spec.specs.Parts.{Piece}
use Rattle.crsm_replica.proofs.gathered.Gathered.take.Goals as goal

pub returns : goal.returns
returns c parts s =
    let p = piece c.args.from c.args.boot c.args.number c.args.index c.args.count c.args.bytes.now in
    let was : GatherStands c.self.inside.inside parts = subst (λ g. GatherStands g parts) (sym c.self.view_is) s in (
      subst (λ (ps : List Piece). GatherStands c.take.new.self ps) (c.parts_of_datagrams.ensures.taken p parts c.requires.sized) (c.in_ok-taken.ensures.state parts was),
      c.whole_message.ensures ∙ ap whole_of (c.in_ok-taken.ensures.taken parts was) ∙ c.parts_of_datagrams.ensures.whole p parts c.requires.sized,
    )
