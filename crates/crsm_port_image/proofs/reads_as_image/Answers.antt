use Rattle.crsm_port_image.proofs.Images.{reads_image}
use Rattle.crsm_port_image.proofs.reads_as_image.Goals as goal

pub returns : goal.returns
returns c first calls = reads_image first calls
