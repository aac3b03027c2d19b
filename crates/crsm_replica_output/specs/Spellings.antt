-- Encodings of control messages.
use Rattle.std.specs.Prelude.{◌≡◌, ℕ, List}
use Rattle.crsm_base.specs.declared.Control.{Control}
use Rattle.crsm_base.specs.Messages.{control_bytes, FitsControl}
use Rattle.crsm_spec.specs.Log.{boots}
use Rattle.crsm_spec.specs.Replica.{Replica}
use Rattle.crsm_replica_output.specs.Made.{Made, OutputStands}
use Rattle.crsm_replica_output.specs.declared.output.Output.{Output}

pub record IsSpellingOf (bytes : List ℕ) (c : Control) : Type 0 where
  pub fits : FitsControl c
  pub spelt : bytes ≡ control_bytes c

-- of some control message
pub record IsSpelling (bytes : List ℕ) : Type 0 where
  pub control : Control
  pub of : IsSpellingOf bytes control

-- for a replica whose next control message has these numbers, the content of the output, and the message with this
-- encoding
abbrev pub WhereNext : Output → (from boot number : ℕ) → List ℕ → (Replica → Made → Control → Type 0) → Type 0
WhereNext output from boot number spelling P =
    (r : Replica) (m : Made) (c : Control) → OutputStands output m → from ≡ r.me → boot ≡ boots r.log → number ≡ r.made → IsSpellingOf spelling c → P r m c
