-- The results of reading an input, and of parsing a log file.
use Rattle.std.specs.Prelude.{◌≡◌, ℕ, Option}
use Rattle.crsm_io.specs.Streams.{Takes}
use Rattle.crsm_log.specs.Format.{cluster_of, found, reading}
use Rattle.crsm_cmd_dump.specs.Dumps.{IsMissing, IsRefused}
use Rattle.crsm_cmd_dump.specs.Run.{ReadTooMuch}
use Rattle.crsm_cmd_dump.specs.Texts.{Text, cluster_number}
use Rattle.crsm_cmd_dump.specs.declared.ending.DumpEnd.{DumpEnd}
use Rattle.crsm_cmd_dump.specs.declared.file.LogFile.{LogFile}

-- a part of the input was read
abbrev pub ReadsPart : (before after : Option Text) → Type 0
ReadsPart before after = (taken : Text) × Takes before after taken

-- the ending of a read that stopped
abbrev pub StopsReading : (before after : Option Text) → DumpEnd → Type 0
StopsReading before after DumpEnd.ReadFault = ReadsPart before after
StopsReading before after DumpEnd.NoMemory = ReadsPart before after
StopsReading before after DumpEnd.LogTooLong = ReadTooMuch before after
StopsReading before after _ = ⊥

-- the file holds these bodies, and names this cluster
pub record Shows (file : Text) (log : LogFile) : Type 0 where
  pub holds : reading file ≡ found log.bodies
  pub names : log.cluster ≡ cluster_number (cluster_of file)

-- the file holds no bodies, or memory ran out
abbrev pub IsNoFile : Text → DumpEnd → Type 0
IsNoFile file (DumpEnd.BadLog entry why) = IsMissing file entry why
IsNoFile file DumpEnd.NoMemory = Unit {0}
IsNoFile file _ = ⊥

-- the file is refused, or memory ran out
abbrev pub IsBadFile : (me n : ℕ) → Text → DumpEnd → Type 0
IsBadFile me n file (DumpEnd.BadLog entry why) = IsRefused me n file entry why
IsBadFile me n file DumpEnd.NoMemory = Unit {0}
IsBadFile me n file _ = ⊥
