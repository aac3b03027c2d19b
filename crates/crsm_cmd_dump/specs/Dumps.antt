-- What the bytes of a log file say, and which are refused.
use Rattle.std.specs.Prelude.{◌≡◌, ◌⊎◌, ℕ, List, [], length}
use Rattle.crsm_ledger.specs.Recovered.{AreKept, IsBadAt}
use Rattle.crsm_log.specs.Format.{bad, cluster_of, found, reading}
use Rattle.crsm_spec.specs.Log.{Log}
use Rattle.crsm_cmd_dump.specs.Texts.{Text, cluster_number, dump_text}
use Rattle.crsm_cmd_dump.specs.declared.part.Part.{Part}

-- The text is the dump of a file of replica me, in a cluster that began with n: the file holds bodies, their records
-- are a log, and the text says what the log says.
pub record IsDump (me n : ℕ) (part : Part) (file text : Text) : Type 0 where
  pub bodies : List Text
  pub log : Log
  pub holds : reading file ≡ found bodies
  pub kept : AreKept me n [] bodies log
  pub text_is : text ≡ dump_text part n (cluster_number (cluster_of file)) (length bodies) log

-- a body is missing after an open gate
abbrev pub IsMissing : Text → (entry why : ℕ) → Type 0
IsMissing file entry why = (why ≡ 10) × (reading file ≡ bad entry)

-- the bodies are not a log
pub record IsNoLog (me n : ℕ) (file : Text) (entry why : ℕ) : Type 0 where
  pub bodies : List Text
  pub holds : reading file ≡ found bodies
  pub bad_at : IsBadAt me n bodies entry why

-- a boot on the file is refused for this body and this reason
abbrev pub IsRefused : (me n : ℕ) → Text → (entry why : ℕ) → Type 0
IsRefused me n file entry why = IsMissing file entry why ⊎ IsNoLog me n file entry why
