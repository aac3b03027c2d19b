use Rattle.crsm_core.proofs.parts.handle.Goals as goal

pub returns : goal.returns
returns c = c.on_control-handled.ensures
