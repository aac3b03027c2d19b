-- The bytes of a command or an entry before the values of its operation.
use Rattle.std.specs.Prelude.{ℕ, List, ◌∷◌, ◌++◌}
use Rattle.crsm_base.specs.declared.Command.{Command}
use Rattle.crsm_base.specs.declared.Entry.{Entry}
use Rattle.crsm_base.specs.Spelling.{key_bytes, stamp_bytes, u64_bytes}

-- a command's two numbers, the tag of its operation, and the key
abbrev pub command_head : Command → ℕ → List ℕ → List ℕ
command_head command tag key = u64_bytes command.client ++ (u64_bytes command.number ++ tag ∷ key_bytes key)

-- an entry's epoch and stamp, and then the same of its command
abbrev pub entry_head : Entry → ℕ → List ℕ → List ℕ
entry_head entry tag key = (u64_bytes entry.epoch ++ stamp_bytes entry.stamp) ++ command_head entry.command tag key
