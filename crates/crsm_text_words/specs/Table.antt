-- The commands of the program: their names, and how many values each may have.
use Rattle.std.specs.Prelude.{ℕ, ◌==◌, ◌&&◌, Bool, true, false, List, [], ◌∷◌, Option, Some, find, fold, codes, if◌then◌else◌, nat_lt, nat_le, length}
use Rattle.std.specs.Option.{option_map_or}
use Rattle.std.specs.Str.{bytes_eq}
use Rattle.clap.specs.Words.{App, Rule, Shape, Text, new_app, new_rule, with_rule, with_subcommand}

-- a command's name, the number of its labels in help, and the minimum and maximum number of its values
pub record Row : Type 0 where
  pub name : Text
  pub labels : ℕ
  pub least : ℕ
  pub most : ℕ

abbrev pub row : Text → ℕ → ℕ → ℕ → Row
row name labels least most = record { name = name; labels = labels; least = least; most = most }

abbrev pub table : List Row
table =
    row (codes "replay") 0 0 0
    ∷ row (codes "replay-node") 2 2 2
    ∷ row (codes "node") 4 4 4
    ∷ row (codes "client") 5 5 8
    ∷ row (codes "operate") 2 2 2
    ∷ row (codes "soak") 3 3 3
    ∷ row (codes "audit") 1 1 1
    ∷ row (codes "lock") 6 6 6
    ∷ row (codes "delay") 1 0 1
    ∷ row (codes "dump") 3 2 3
    ∷ row (codes "replay-mp") 0 0 0
    ∷ []

abbrev pub row_named : Text → List Row → Option Row
row_named name rows = find (λ r. bytes_eq r.name name) rows

abbrev pub within : Row → ℕ → Bool
within r n = nat_le r.least n && nat_le n r.most

-- the words are a command's name and as many values as its row allows
abbrev pub fits : List Text → Bool
fits [] = false
fits (name ∷ values) = option_map_or (λ r. within r (length values)) (row_named name table) false

-- ---- the same, as it is declared to `clap`

-- one positional with all values of the command
abbrev pub values_rule : Row → Rule
values_rule r = record (new_rule (codes "values")) {
  range = Some (record { start_inclusive = r.least; end_inclusive = r.most });
  value_names = r.labels;
  required = nat_lt 0 r.least;
}

abbrev pub taking_app : Row → App
taking_app r = with_rule (new_app r.name) (values_rule r)

abbrev pub row_app : Row → App
row_app r = if r.most == 0 then new_app r.name else taking_app r

abbrev pub top_shape : Shape
top_shape = record (new_app (codes "crsm")).top {
  no_binary_name = true;
  disable_help_subcommand = true;
  has_version = true;
  subcommand_required = true;
}

abbrev pub top_app : App
top_app = record { top = top_shape; subs = [] }

abbrev pub product_app : App
product_app = fold (λ app r. with_subcommand app (row_app r).top) top_app table
