-- Values that can be encoded, with the lengths of their encodings in bytes.
use Rattle.std.specs.Prelude.{◌≡◌, ℕ, ◌≤◌, List, length}
use Rattle.std.specs.List.{flat_map, AllByRecursion}
use Rattle.crsm_base.specs.declared.command.Entry.{Entry}
use Rattle.crsm_base.specs.Spelling.{entry_bytes, FitsEntry}

-- the value can be encoded, in `size` bytes, which are at most `most`
pub record IsSized {X : Type 0} (spell : X → List ℕ) (Fits : X → Type 0) (most : ℕ) (x : X) (size : ℕ) : Type 0 where
  pub fits : Fits x
  pub size_is : size ≡ length (spell x)
  pub few : size ≤ most

-- each entry can be encoded, in `size` bytes together
pub record AreSized (es : List Entry) (size : ℕ) : Type 0 where
  pub fit : AllByRecursion FitsEntry es
  pub size_is : size ≡ length (flat_map entry_bytes es)
