-- What a dump that ended so says of the input, and which ending an input has.
use Rattle.std.proofs.Common.{◌≡◌, ◌≢◌, ℕ, ◌<◌, ◌≤◌, List, ◌++◌, length, length-append, append-nil, Option, Some, None, refl, ap, sym, ◌∙◌, subst, arith, inl, inr}
use Rattle.crsm_base.specs.Limits.{most_log_bytes}
use Rattle.crsm_io.specs.Streams.{AtEnd, Puts, PutsPrefix, Takes}
use Rattle.crsm_ledger.specs.declared.error.LedgerError.{LedgerError}
use Rattle.crsm_ledger.specs.Recovered.{IfBadLog, IsBadAt}
use Rattle.crsm_log.specs.Format.{found, reading}
use Rattle.crsm_cmd_dump.specs.declared.ending.DumpEnd.{DumpEnd}
use Rattle.crsm_cmd_dump.specs.declared.part.Part.{Part}
use Rattle.crsm_cmd_dump.specs.Dumps.{IsDump, IsRefused}
use Rattle.crsm_cmd_dump.specs.Ending.{end_of}
use Rattle.crsm_cmd_dump.specs.Reading.{IsBadFile, IsNoFile, StopsReading}
use Rattle.crsm_cmd_dump.specs.Run.{Dumps, Ends, Ran, ReadAll, WhereLog, WhereRefused, WhereTooLong}
use Rattle.crsm_cmd_dump.specs.Texts.{Text}

-- ---- what was taken of an input

same_file : (file taken : Text) (b a : Option Text) → b ≡ Some file → Takes b a taken → AtEnd a → taken ≡ file
same_file file taken b None is takes ended = let bad : Some file ≡ None = sym is ∙ takes in absurd (cc)
same_file file taken b (Some rest) is takes ended =
    let whole : Some file ≡ Some (taken ++ rest) = sym is ∙ takes in
    let same : file ≡ taken ++ rest = cc in
    sym (append-nil taken) ∙ ap (λ (r : Text). taken ++ r) (sym ended) ∙ sym same

taken_within : (file taken : Text) (b a : Option Text) → b ≡ Some file → Takes b a taken → length taken ≤ length file
taken_within file taken b None is takes = let bad : Some file ≡ None = sym is ∙ takes in absurd (cc)
taken_within file taken b (Some rest) is takes =
    let whole : Some file ≡ Some (taken ++ rest) = sym is ∙ takes in
    let same : file ≡ taken ++ rest = cc in
    let lengths = ap length same ∙ length-append taken rest in
    omega (arith, lengths)

the_file : (file taken : Text) (b a : Option Text) → b ≡ Some file → ReadAll b a taken → taken ≡ file
the_file file taken b a is read = same_file file taken b a is read.takes read.ended

-- ---- which ending an input has

module _ (me n : ℕ) (part : Part) (b a d w : Option Text) where
  pub completes : (result : DumpEnd) → Ran me n part result b a d w → (result ≡ DumpEnd.ReadFault → ⊥) → (result ≡ DumpEnd.WriteFault → ⊥)
      → ((file x y : Text) → IsDump me n part file x → IsDump me n part file y → x ≡ y) → ((file text : Text) (e v : ℕ) → IsDump me n part file text → IsRefused me n file e v → ⊥)
      → WhereLog me n part b (Dumps d w result)
  unfolding Ran
  completes DumpEnd.Done ran no_read no_write one kept = λ file text is short dump.
      let same = the_file file ran.file b a is ran.read in
      inl (refl, subst (λ (t : Text). Puts d w t) (one file ran.text text (subst (λ (f : Text). IsDump me n part f ran.text) same ran.is) dump) ran.puts)
  completes (DumpEnd.BadLog e v) ran no_read no_write one kept = λ file text is short dump.
      absurd (kept file text e v dump (subst (λ (f : Text). IsRefused me n f e v) (the_file file ran.file b a is ran.read) ran.bad))
  completes DumpEnd.ReadFault ran no_read no_write one kept = λ file text is short dump. absurd (no_read refl)
  completes DumpEnd.WriteFault ran no_read no_write one kept = λ file text is short dump. absurd (no_write refl)
  completes DumpEnd.NoMemory ran no_read no_write one kept = λ file text is short dump. inr refl
  completes DumpEnd.LogTooLong ran no_read no_write one kept = λ file text is short dump.
      let within = taken_within file ran.1.taken b a is ran.1.takes in
      let more = ran.1.more in
      absurd (omega (arith, within, more, short))

  pub refuses : (result : DumpEnd) → Ran me n part result b a d w → (result ≡ DumpEnd.ReadFault → ⊥) → (result ≡ DumpEnd.WriteFault → ⊥)
      → ((file text : Text) (e v : ℕ) → IsDump me n part file text → IsRefused me n file e v → ⊥)
      → ((file : Text) (e v x y : ℕ) → IsRefused me n file e v → IsRefused me n file x y → (e ≡ x) × (v ≡ y))
      → WhereRefused me n b (λ entry why. Ends (DumpEnd.BadLog entry why) result)
  unfolding Ran
  refuses DumpEnd.Done ran no_read no_write kept one = λ file entry why is short bad.
      absurd (kept file ran.text entry why (subst (λ (f : Text). IsDump me n part f ran.text) (the_file file ran.file b a is ran.read) ran.is) bad)
  refuses (DumpEnd.BadLog e v) ran no_read no_write kept one = λ file entry why is short bad.
      let same = one file e v entry why (subst (λ (f : Text). IsRefused me n f e v) (the_file file ran.file b a is ran.read) ran.bad) bad in
      inl (λ i. DumpEnd.BadLog (same.0 i) (same.1 i))
  refuses DumpEnd.ReadFault ran no_read no_write kept one = λ file entry why is short bad. absurd (no_read refl)
  refuses DumpEnd.WriteFault ran no_read no_write kept one = λ file entry why is short bad. absurd (no_write refl)
  refuses DumpEnd.NoMemory ran no_read no_write kept one = λ file entry why is short bad. inr refl
  refuses DumpEnd.LogTooLong ran no_read no_write kept one = λ file entry why is short bad.
      let within = taken_within file ran.1.taken b a is ran.1.takes in
      let more = ran.1.more in
      absurd (omega (arith, within, more, short))

  not_whole : (file taken : Text) → b ≡ Some file → most_log_bytes < length file → ReadAll b a taken → ⊥
  not_whole file taken is long read =
      let same = ap length (the_file file taken b a is read) in
      let within = read.within in
      omega (arith, same, within, long)

  pub is_long : (result : DumpEnd) → Ran me n part result b a d w → (result ≡ DumpEnd.ReadFault → ⊥) → (result ≡ DumpEnd.WriteFault → ⊥) → WhereTooLong b (Ends DumpEnd.LogTooLong result)
  unfolding Ran
  is_long DumpEnd.Done ran no_read no_write = λ file is long. absurd (not_whole file ran.file is long ran.read)
  is_long (DumpEnd.BadLog e v) ran no_read no_write = λ file is long. absurd (not_whole file ran.file is long ran.read)
  is_long DumpEnd.ReadFault ran no_read no_write = λ file is long. absurd (no_read refl)
  is_long DumpEnd.WriteFault ran no_read no_write = λ file is long. absurd (no_write refl)
  is_long DumpEnd.NoMemory ran no_read no_write = λ file is long. inr refl
  is_long DumpEnd.LogTooLong ran no_read no_write = λ file is long. inl refl

  pub limited : (result : DumpEnd) → Ran me n part result b a d w → (file : Text) → b ≡ Some file → most_log_bytes < length file → result ≢ DumpEnd.Done
  unfolding Ran
  limited DumpEnd.Done ran file is long done = not_whole file ran.file is long ran.read
  limited (DumpEnd.BadLog e v) ran file is long done = cc done
  limited DumpEnd.ReadFault ran file is long done = cc done
  limited DumpEnd.WriteFault ran file is long done = cc done
  limited DumpEnd.NoMemory ran file is long done = cc done
  limited DumpEnd.LogTooLong ran file is long done = cc done

  pub is_within : (result : DumpEnd) → Ran me n part result b a d w → (file : Text) → b ≡ Some file → length file ≤ most_log_bytes → result ≢ DumpEnd.LogTooLong
  unfolding Ran
  is_within DumpEnd.Done ran file is short too_long = cc too_long
  is_within (DumpEnd.BadLog e v) ran file is short too_long = cc too_long
  is_within DumpEnd.ReadFault ran file is short too_long = cc too_long
  is_within DumpEnd.WriteFault ran file is short too_long = cc too_long
  is_within DumpEnd.NoMemory ran file is short too_long = cc too_long
  is_within DumpEnd.LogTooLong ran file is short too_long =
      let within = taken_within file ran.1.taken b a is ran.1.takes in
      let more = ran.1.more in
      omega (arith, within, more, short)

  -- ---- how a dump ran

  -- the read stopped
  pub stopped : (result : DumpEnd) → w ≡ d → StopsReading b a result → Ran me n part result b a d w
  unfolding Ran
  stopped DumpEnd.Done same stops = absurd stops
  stopped (DumpEnd.BadLog e v) same stops = absurd stops
  stopped DumpEnd.ReadFault same stops = (same, stops.0, stops.1)
  stopped DumpEnd.WriteFault same stops = absurd stops
  stopped DumpEnd.NoMemory same stops = (same, stops.0, stops.1)
  stopped DumpEnd.LogTooLong same stops = (same, stops)

  -- the file was refused, or memory ran out
  pub refused : (result : DumpEnd) (file : Text) → w ≡ d → ReadAll b a file → IsBadFile me n file result → Ran me n part result b a d w
  unfolding Ran
  refused DumpEnd.Done file same read bad = absurd bad
  refused (DumpEnd.BadLog e v) file same read bad = record { file = file; read = read; bad = bad; nothing = same }
  refused DumpEnd.ReadFault file same read bad = absurd bad
  refused DumpEnd.WriteFault file same read bad = absurd bad
  refused DumpEnd.NoMemory file same read bad = (same, file, read.takes)
  refused DumpEnd.LogTooLong file same read bad = absurd bad

  pub ended : (file text : Text) → ReadAll b a file → IsDump me n part file text → Puts d w text → Ran me n part DumpEnd.Done b a d w
  unfolding Ran
  ended file text read is puts = record { file = file; text = text; read = read; is = is; puts = puts }

  pub partly : (file text : Text) → ReadAll b a file → IsDump me n part file text → PutsPrefix d w text → Ran me n part DumpEnd.WriteFault b a d w
  unfolding Ran
  partly file text read is puts = record { file = file; text = text; read = read; is = is; puts = puts }

-- ---- files that are refused

-- no ending of a file is a fault
pub no_fault : (me n : ℕ) (file : Text) (result : DumpEnd) → IsBadFile me n file result → (result ≢ DumpEnd.ReadFault) × (result ≢ DumpEnd.WriteFault)
no_fault me n file DumpEnd.Done bad = absurd bad
no_fault me n file (DumpEnd.BadLog e v) bad = (λ is. (cc is), λ is. (cc is))
no_fault me n file DumpEnd.ReadFault bad = absurd bad
no_fault me n file DumpEnd.WriteFault bad = absurd bad
no_fault me n file DumpEnd.NoMemory bad = (λ is. (cc is), λ is. (cc is))
no_fault me n file DumpEnd.LogTooLong bad = absurd bad

pub no_file : (me n : ℕ) (file : Text) (result : DumpEnd) → IsNoFile file result → IsBadFile me n file result
no_file me n file DumpEnd.Done none = absurd none
no_file me n file (DumpEnd.BadLog e v) none = inl none
no_file me n file DumpEnd.ReadFault none = absurd none
no_file me n file DumpEnd.WriteFault none = absurd none
no_file me n file DumpEnd.NoMemory none = tt
no_file me n file DumpEnd.LogTooLong none = absurd none

pub no_log : (me n : ℕ) (file : Text) (bodies : List Text) (error : LedgerError) → reading file ≡ found bodies → IfBadLog error (IsBadAt me n bodies) → IsBadFile me n file (end_of error)
no_log me n file bodies (LedgerError.BadLog e v) holds bad = inr (record { bodies = bodies; holds = holds; bad_at = bad })
no_log me n file bodies (LedgerError.NotFit v) holds bad = absurd bad
no_log me n file bodies LedgerError.NoMemory holds bad = tt

-- the read met no fault of the output
pub no_write_fault : (b a : Option Text) (result : DumpEnd) → StopsReading b a result → result ≢ DumpEnd.WriteFault
no_write_fault b a DumpEnd.Done stops = absurd stops
no_write_fault b a (DumpEnd.BadLog e v) stops = absurd stops
no_write_fault b a DumpEnd.ReadFault stops = λ is. (cc is)
no_write_fault b a DumpEnd.WriteFault stops = absurd stops
no_write_fault b a DumpEnd.NoMemory stops = λ is. (cc is)
no_write_fault b a DumpEnd.LogTooLong stops = λ is. (cc is)
