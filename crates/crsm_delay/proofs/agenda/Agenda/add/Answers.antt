use Rattle.crsm_delay.proofs.Listing.{put_at}
use Rattle.crsm_delay.proofs.agenda.Agenda.add.Goals as goal

pub returns : goal.returns
returns c = put_at c.args.event c.args.self.now.events.items c.as_slice.result.now c.insert.new.self.items c.place_of-place.result c.as_slice.ensures.value c.in_ok-insert.ensures.items c.place_of-place.ensures.behind c.place_of-place.ensures.ahead
