use Rattle.crsm_law_nodes.proofs.Nodes.{sheets_are_right}
use Rattle.crsm_law_nodes.proofs.sheets_are_right.Goals as goal

pub returns : goal.returns
returns c n ls h few r short l m lines s first text t = sheets_are_right c.sheets_have_one_text.ensures c.steps_are_right.ensures n ls h few r short l m lines s first text t
