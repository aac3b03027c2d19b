use Rattle.std.proofs.Common.{◌≡◌, ◌<◌, ◌≤◌, ◌^◌, ◌-◌, ◌∷◌, [], ◌∙◌, arith, ap, sym, subst, length, true, decimal}
use Rattle.std.proofs.lemmas.Result.{err_from_is_err_and}
use Rattle.hex.specs.Hex.{encode_lower}
use Rattle.crsm_text_words.specs.declared.order.LockTask.{LockTask}
use Rattle.crsm_text_words.specs.Orders.{IsLock, action_text}
use Rattle.crsm_text_words.proofs.Asking.{lock_same}
use Rattle.crsm_text_words.proofs.tasks.lock_of.Goals as goal

number_fits : (t : LockTask) → IsLock t → t.number < 2 ^ 64
number_fits t is = let n = is.number in omega (arith, n)

pub returns-in_default-clause-only : goal.returns-in_default-clause-only
returns-in_default-clause-only c = λ t is e. absurd (c.in_default.ensures.only t.to t.turns _ is.to is.turns e)

pub returns-in_default-take_numbers-clause-only : goal.returns-in_default-take_numbers-clause-only
returns-in_default-take_numbers-clause-only c = λ t is e.
    let one = c.in-Some.ensures.only t.to t.turns _ is.to is.turns e in
    absurd (c.in_default-take_numbers.ensures.only t.client t.number _ is.client (number_fits t is) one.2)

pub returns-in_default-lock_words-clause-only : goal.returns-in_default-lock_words-clause-only
returns-in_default-lock_words-clause-only c = λ t is e.
    let one = c.in-Some.ensures.only t.to t.turns _ is.to is.turns e in
    let two = c.in-Some-take_numbers.ensures.only t.client t.number _ is.client (number_fits t is) one.2 in
    absurd (c.in_default-lock_words.ensures.only (encode_lower t.key) t.action two.2)

pub returns-then-number-clause-only : goal.returns-then-number-clause-only
returns-then-number-clause-only c = λ t is e.
    let one = c.in-Some.ensures.only t.to t.turns _ is.to is.turns e in
    let two = c.in-Some-take_numbers.ensures.only t.client t.number _ is.client (number_fits t is) one.2 in
    let same = two.1 in
    let below = is.number in
    let most = c.if-number.true in
    absurd (omega (arith, same, below, most))

pub returns-in_err-key-clause-only : goal.returns-in_err-key-clause-only
returns-in_err-key-clause-only c = λ t is e.
    let one = c.in-Some.ensures.only t.to t.turns _ is.to is.turns e in
    let two = c.in-Some-take_numbers.ensures.only t.client t.number _ is.client (number_fits t is) one.2 in
    let three = c.in-Some-lock_words.ensures.only (encode_lower t.key) t.action two.2 in
    let k = c.in_err-key.ensures.only t.key is.key is.bytes three.0 in
    let r = err_from_is_err_and c.from_residual.result c.from_residual.ensures.1 in rw (r.1, r.2) k

pub returns-clause-only : goal.returns-clause-only
returns-clause-only c = λ t is e.
    let one = c.in-Some.ensures.only t.to t.turns _ is.to is.turns e in
    let two = c.in-Some-take_numbers.ensures.only t.client t.number _ is.client (number_fits t is) one.2 in
    let three = c.in-Some-lock_words.ensures.only (encode_lower t.key) t.action two.2 in
    let key : c.in_ok-key.key ≡ t.key = c.in_ok-key.ensures.only t.key is.key is.bytes three.0 in
    lock_same _ t one.0 one.1 two.0 two.1 key three.1
