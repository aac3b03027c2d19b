use Rattle.std.proofs.Common.{◌≡◌, ◌∙◌, ap, sym, arith, drop, List, [], ◌∷◌, ◌++◌, true, false}
use Rattle.std.proofs.lemmas.List.{drop_all}
use Rattle.crsm_spec.specs.Types.{Entry}
use Rattle.crsm_spec.specs.Log.{executed}
use Rattle.crsm_spec.specs.Fits.{goes_on}
use Rattle.crsm_transfer.proofs.PageLemmas.{begun_none, begun_more, begun_fits, done_more, full_page, last_page, next_goes_on}
use Rattle.crsm_transfer.proofs.paging.entries_from.Goals as goal

pub loop-place-init : goal.loop-place-init
loop-place-init c = record {
  begun = begun_none c.new-entries.result c.new-entries.ensures;
  done = λ me n log s. ap (λ (es : List Entry). es ++ drop c.args.from (executed log)) c.new-entries.ensures;
}

pub executed_at-requires : goal.executed_at-requires
executed_at-requires c = omega (arith, c.loop-place-test.true, c.executed_len-place-end.ensures.count)

pub returns-then-size-room-clause-value : goal.returns-then-size-room-clause-value
returns-then-size-room-clause-value c = λ me n log s rise.
    full_page c.loop-place.entries (executed log) c.loop-place.room c.entry_size-size.result c.args.from c.loop-place.place c.in_ok-entry.entry
    c.entry_size-size.ensures.value c.if-size-room.true (c.in_ok-entry.ensures.value me n log s) (c.loop-place.invariant.done me n log s) c.loop-place.invariant.begun

pub returns-then-size-room-clause-fits : goal.returns-then-size-room-clause-fits
returns-then-size-room-clause-fits c = begun_fits c.loop-place.entries c.loop-place.room c.loop-place.invariant.begun

pub returns-then-not-goes_on-clause-value : goal.returns-then-not-goes_on-clause-value
returns-then-not-goes_on-clause-value c = λ me n log s rise.
    let next = next_goes_on c.loop-place.entries (executed log) c.args.from c.loop-place.place c.in_ok-entry.entry rise (c.in_ok-entry.ensures.value me n log s) (c.loop-place.invariant.done me n log s) in
    let apart : goes_on c.loop-place.entries (c.in_ok-entry.entry ∷ []) ≡ false =
    ap (λ (es : List Entry). goes_on es (c.in_ok-entry.entry ∷ [])) (sym c.as_slice.ensures) ∙ sym c.goes_on.ensures ∙ c.if-not-goes_on.true in
    absurd (cc (sym next ∙ apart))

pub returns-then-not-goes_on-clause-fits : goal.returns-then-not-goes_on-clause-fits
returns-then-not-goes_on-clause-fits c = begun_fits c.loop-place.entries c.loop-place.room c.loop-place.invariant.begun

pub loop-place-preserved : goal.loop-place-preserved
loop-place-preserved c =
    let behind : goes_on c.loop-place.entries (c.in_ok-entry.entry ∷ []) ≡ true =
    ap (λ (es : List Entry). goes_on es (c.in_ok-entry.entry ∷ [])) (sym c.as_slice.ensures) ∙ sym c.goes_on.ensures ∙ c.if-not-goes_on.false in
    record {
      begun = begun_more c.loop-place.entries c.push.new.self c.loop-place.room c.entry_size-size.result c.in_ok-entry.entry c.entry_size-size.ensures.value c.if-size-room.false behind
          c.in_ok-entry.ensures.fit c.in_ok-push.ensures.ok c.loop-place.invariant.begun;
      done = λ me n log s.
          done_more c.loop-place.entries c.push.new.self (executed log) c.args.from c.loop-place.place c.in_ok-entry.entry (c.in_ok-entry.ensures.value me n log s) c.in_ok-push.ensures.ok
          (c.loop-place.invariant.done me n log s);
    }

pub returns-clause-value : goal.returns-clause-value
returns-clause-value c = λ me n log s rise.
    let end = c.executed_len-place-end.ensures.value me n log s in
    last_page c.loop-place.entries (executed log) c.loop-place.room c.args.from c.loop-place.place (drop_all c.loop-place.place (executed log) (omega (arith, end)))
    (c.loop-place.invariant.done me n log s) c.loop-place.invariant.begun

pub returns-clause-fits : goal.returns-clause-fits
returns-clause-fits c = begun_fits c.loop-place.entries c.loop-place.room c.loop-place.invariant.begun
