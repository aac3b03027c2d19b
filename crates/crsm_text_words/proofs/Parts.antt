-- The command's name and values, as a caller reads them from `clap`'s matches.
use Rattle.std.proofs.Common.{◌≡◌, ◌∙◌, Bool, cond, true, false, refl, ap, sym, map, List, [], ◌∷◌, Option, Some, None}
use Rattle.std.specs.Prelude.{option_map, unwrap_or, codes, find}
use Rattle.std.specs.Str.{bytes_eq}
use Rattle.clap.specs.Facts.{Entry}
use Rattle.clap.specs.Matches.{matched_of, raw_values}
use Rattle.clap.specs.Walk.{Row, Text, all_of, row_of, rows_of}
use Rattle.clap.specs.declared.parser.matches.Found.{Found}
use Rattle.crsm_text_words.specs.Split.{parts}

-- the values of the first entry with this id are those of its row
row_values : (id : Text) (es : List Entry) → option_map raw_values (option_map (λ e. e.1) (find (λ e. bytes_eq e.0.now id) es)) ≡ option_map (λ r. r.values) (find (λ r. bytes_eq r.id id) (map row_of es))
row_values id [] = refl
row_values id (e ∷ es) = go (row_values id es) (bytes_eq e.0.now id)
  where
    go : option_map raw_values (option_map (λ e. e.1) (find (λ e. bytes_eq e.0.now id) es)) ≡ option_map (λ r. r.values) (find (λ r. bytes_eq r.id id) (map row_of es))
        → (b : Bool) → option_map raw_values (option_map (λ e. e.1) (cond b (Some e) (find (λ e. bytes_eq e.0.now id) es))) ≡ option_map (λ r. r.values) (cond b (Some (row_of e)) (find (λ r. bytes_eq r.id id) (map row_of es)))
    go later true = refl
    go later false = later

pub found_values : (f : Found) (id : Text) → option_map raw_values (matched_of f id) ≡ all_of id (rows_of f)
found_values f id = row_values id f.entries.items

-- what a name and rows are parts of
pub parts_are : {B : Type 0} (o : Option B) (name_of : B → Text) (rows_in : B → List Row) (name : Text) (rows : List Row) (values : List Text) → Some name ≡ option_map name_of o
    → Some rows ≡ option_map (λ (p : Text × List Row). p.1) (option_map (λ b. (name_of b, rows_in b)) o) → unwrap_or (all_of (codes "values") rows) [] ≡ values
    → parts (option_map (λ b. (name_of b, rows_in b)) o) ≡ name ∷ values
parts_are None name_of rows_in name rows values is_name is_rows is = absurd (cc is_name)
parts_are (Some b) name_of rows_in name rows values is_name is_rows is =
    let n : name_of b ≡ name = cc is_name in
    let r : rows_in b ≡ rows = cc is_rows in
    (λ i. n i ∷ unwrap_or (all_of (codes "values") (r i)) []) ∙ ap (λ (vs : List Text). name ∷ vs) is

pub no_parts : {B : Type 0} (o : Option B) (name_of : B → Text) (rows_in : B → List Row) → None ≡ option_map name_of o → parts (option_map (λ b. (name_of b, rows_in b)) o) ≡ []
no_parts None name_of rows_in none = refl
no_parts (Some b) name_of rows_in none = absurd (cc none)
