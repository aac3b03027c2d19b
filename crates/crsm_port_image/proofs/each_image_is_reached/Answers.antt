use Rattle.crsm_port_image.proofs.Reached.{reached}
use Rattle.crsm_port_image.proofs.each_image_is_reached.Goals as goal

pub returns : goal.returns
returns c first calls image torn = reached first calls image torn
