use Rattle.crsm_port_image.proofs.Painted.{image_is}
use Rattle.crsm_port_image.proofs.fills_as_image.Goals as goal

pub returns : goal.returns
returns c first calls fill = image_is first calls fill
