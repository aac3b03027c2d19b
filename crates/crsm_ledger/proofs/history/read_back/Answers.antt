use Rattle.std.proofs.Common.{◌≡◌, [], ◌++◌, ◌∙◌, sym, subst, length}
use Rattle.crsm_base.specs.Spelling.{entry_bytes, FitsEntry}
use Rattle.crsm_fact_log.proofs.Lists.{append-none}
use Rattle.crsm_ledger.proofs.ExecutedLemmas.{first_same, is_read}
use Rattle.crsm_ledger.proofs.history.read_back.Goals as goal

pub unreachable-requires : goal.unreachable-requires
unreachable-requires c = is_read c.in_ok-entry.field-0 c.requires c.in_ok-entry.ensures.again (sym c.in-None.is)

pub returns-clause-value : goal.returns-clause-value
returns-clause-value c = λ e fits is.
    let whole : c.args.bytes.now ≡ entry_bytes e ++ [] = is ∙ sym (append-none (entry_bytes e)) in
    first_same c.in_ok-entry.field-0 c.in-Some.entry e c.in-Some.field-0-1 (length (entry_bytes e)) (c.in_ok-entry.ensures.again e [] fits whole) c.in-Some.is

pub returns-clause-fit : goal.returns-clause-fit
returns-clause-fit c =
    let e = c.requires.entry in
    let whole : c.args.bytes.now ≡ entry_bytes e ++ [] = c.requires.is ∙ sym (append-none (entry_bytes e)) in
    subst FitsEntry (sym (first_same c.in_ok-entry.field-0 c.in-Some.entry e c.in-Some.field-0-1 (length (entry_bytes e)) (c.in_ok-entry.ensures.again e [] c.requires.fits whole) c.in-Some.is)) c.requires.fits
