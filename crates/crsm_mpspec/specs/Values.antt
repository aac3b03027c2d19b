-- Values in the store, and when two commands are the same.
use Rattle.std.specs.Prelude.{Bool, false, ◌==◌, ◌&&◌, bytes_eq, List, fold}
use Rattle.std.specs.Option.{option_eq, option_map_or}
use Rattle.crsm_base.specs.Store.{Rows, no_rows, apply}
use Rattle.crsm_mpspec.specs.Types.{Op, Command, Answer, Value}

-- ---- the store

-- the rows after a value; a noop changes nothing
unfoldable pub apply_value : Rows → Value → Rows
apply_value rows v = option_map_or (λ c. (apply rows c).0) v rows

-- the rows after values
unfoldable pub rows_after : List Value → Rows
rows_after vs = fold apply_value no_rows vs

-- the answer to the command that comes after these
unfoldable pub answer_after : List Value → Command → Answer
answer_after vs c = (apply (rows_after vs) c).1

-- ---- equal commands

unfoldable pub op_eq : Op → Op → Bool
op_eq (Op.Get k) (Op.Get l) = bytes_eq k l
op_eq (Op.Put k v) (Op.Put l w) = bytes_eq k l && bytes_eq v w
op_eq (Op.Delete k) (Op.Delete l) = bytes_eq k l
op_eq (Op.Cas k expected new) (Op.Cas l expected' new') =
    bytes_eq k l && (option_eq bytes_eq expected expected' && option_eq bytes_eq new new')
op_eq _ _ = false

unfoldable pub command_eq : Command → Command → Bool
command_eq c d = c.client == d.client && (c.number == d.number && op_eq c.op d.op)

-- the value is this command
unfoldable pub is_command : Command → Value → Bool
is_command c v = option_map_or (command_eq c) v false
