use Rattle.std.proofs.Common.{◌++◌, ◌∷◌, []}
use Rattle.crsm_mpreplica.proofs.records.keep.Goals as goal

pub returns-clause-made : goal.returns-clause-made
returns-clause-made c o s fits = c.in_ok-record.ensures (record o { lines = o.lines ++ c.args.line ∷ [] }) (c.in_ok-tell.ensures o s) fits
