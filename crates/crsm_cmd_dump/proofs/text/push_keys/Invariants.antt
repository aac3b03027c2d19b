use Rattle.std.proofs.Common.{◌≡◌, ◌++◌}
use Rattle.std.specs.List.{flat_map}
use Rattle.crsm_cmd_dump.specs.Texts.{key_row}
use Rattle.crsm_cmd_dump.proofs.text.push_keys.Given as goal

-- with the lines of the keys to come it is the whole text
abbrev pub invariant-loop-key : goal.invariant-loop-key
invariant-loop-key l = l.out ++ flat_map key_row l.key-iterator ≡ l.initial.out ++ flat_map key_row l.keys.entries
