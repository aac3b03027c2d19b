use Rattle.crsm_law_cluster.proofs.Once.{replies_go_out_once}
use Rattle.crsm_law_cluster.proofs.replies_go_out_once.Goals as goal

pub returns : goal.returns
returns z n h q i j k l a b s said one = replies_go_out_once n h q i j k l a b s said one
