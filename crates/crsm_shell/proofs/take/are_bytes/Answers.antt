use Rattle.std.proofs.Common.{◌<◌, ℕ, List, [], ◌∷◌, get_or, suc}
use Rattle.std.specs.List.{AllByRecursion}
use Rattle.crsm_shell.proofs.take.are_bytes.Goals as goal

all_from : (bytes : List ℕ) → ((k : ℕ) → get_or bytes k 0 < 256) → AllByRecursion (λ b. b < 256) bytes
all_from [] each = tt
all_from (b ∷ bytes) each = (each 0, all_from bytes (λ k. each (suc k)))

pub returns : goal.returns
returns c = all_from c.args.buffer.now (λ k. (c.type_inv.buffer k).fits)
