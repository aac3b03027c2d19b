-- The keys and values of generated operations: single bytes.
use Rattle.std.specs.Prelude.{◌≡◌, ◌<◌, ℕ, List, [], ◌∷◌}
use Rattle.crsm_base.specs.declared.Op.{Op}
use Rattle.crsm_base.specs.Spelling.{FitsOption}

pub record IsOneByte (bytes : List ℕ) : Type 0 where
  pub byte : ℕ
  pub is : bytes ≡ byte ∷ []
  pub small : byte < 256

abbrev pub HasOneByte : Op → Type 0
HasOneByte (Op.Get key) = IsOneByte key
HasOneByte (Op.Put key val) = IsOneByte key × IsOneByte val
HasOneByte (Op.Delete key) = IsOneByte key
HasOneByte (Op.Cas key expected new) = IsOneByte key × FitsOption IsOneByte expected × FitsOption IsOneByte new
