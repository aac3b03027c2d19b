-- The entries of a page that are new to a log, and how the page compares with it.
use Rattle.std.proofs.Common.{◌≡◌, ◌∙◌, ℕ, ◌<◌, ◌≤◌, refl, ap, sym, List, length, arith, Bool, true, false, cond}
use Rattle.std.specs.Prelude.{◌-◌, ◌==◌, ◌||◌, ◌&&◌, not, nat_lt, take, drop, Option, None, Some, unwrap_or}
use Rattle.std.specs.Option.{option_map_or}
use Rattle.std.proofs.lemmas.Bool.Decides.{nat_tests}
use Rattle.crsm_spec.specs.Types.{Entry, Decision}
use Rattle.crsm_spec.specs.Choice.{when◌then◌otherwise◌}
use Rattle.crsm_spec.specs.Log.{Log, decision, executed, known, active, live, suspended}
use Rattle.crsm_spec.specs.Controls.{new_entries}
use Rattle.crsm_ledger.specs.Ledger.{known_decision, founding}
use Rattle.crsm_transfer.specs.declared.answer.Fit.TheVariants.{Ahead, Gap, Nothing, Adopt}
use Rattle.crsm_transfer.specs.Fitting.{new_above, fit_of}

pub is_lt : (a b : ℕ) → a < b → nat_lt a b ≡ true
is_lt a b h = grind (arith, nat_tests)

pub not_lt : (a b : ℕ) → b ≤ a → nat_lt a b ≡ false
not_lt a b h = grind (arith, nat_tests)

when_is : {A : Type 0} (b : Bool) (x y : A) → (when b then x otherwise y) ≡ cond b x y
unfolding when◌then◌otherwise◌
when_is true x y = refl
when_is false x y = refl

by_decision : (o : Option Decision) (n done : ℕ) (new : List Entry) →
    option_map_or (λ d. when nat_lt done d.base_len then take (d.base_len - done) new otherwise new) o new
    ≡ cond (nat_lt done ((unwrap_or o (founding n)).base_len)) (take ((unwrap_or o (founding n)).base_len - done) new) new
by_decision None n done new = rw (not_lt done 0 (omega arith)) refl
by_decision (Some d) n done new = when_is (nat_lt done d.base_len) (take (d.base_len - done) new) new

-- they are what the known decision leaves
new_is : (n : ℕ) (log : Log) (from : ℕ) (es : List Entry) →
    new_entries log from es ≡ new_above (length (executed log)) ((known_decision n log).base_len) from es
unfolding new_entries new_above known_decision
new_is n log from es = by_decision (decision log) n (length (executed log)) (drop (length (executed log) - from) es)

pub new_as : (n : ℕ) (log : Log) (done base from : ℕ) (es new : List Entry) → done ≡ length (executed log) → base ≡ (known_decision n log).base_len →
    new ≡ new_above done base from es → new ≡ new_entries log from es
new_as n log done base from es new d b h = h ∙ ap (λ x. new_above x base from es) d ∙ ap (λ x. new_above (length (executed log)) x from es) b ∙ sym (new_is n log from es)

pub below_base : (done base from : ℕ) (es new : List Entry) → new ≡ drop (done - from) es → done < base → take (base - done) new ≡ new_above done base from es
unfolding new_above
below_base done base from es new h l = rw (is_lt done base l) (ap (λ xs. take (base - done) xs) h)

pub from_base : (done base from : ℕ) (es new : List Entry) → new ≡ drop (done - from) es → base ≤ done → new ≡ new_above done base from es
unfolding new_above
from_base done base from es new h l = rw (not_lt done base l) h

-- ---- how it fits

pub fit_ahead : (log : Log) (epoch from : ℕ) (es : List Entry) → known log < epoch → Ahead ≡ fit_of log epoch from es
unfolding fit_of
fit_ahead log epoch from es l = rw (is_lt (known log) epoch l) refl

pub fit_gap : (log : Log) (epoch from : ℕ) (es : List Entry) → epoch ≤ known log → length (executed log) < from → Gap ≡ fit_of log epoch from es
unfolding fit_of
fit_gap log epoch from es e l = rw (not_lt (known log) epoch e, is_lt (length (executed log)) from l) refl

pub fit_active : (log : Log) (epoch from : ℕ) (es : List Entry) → epoch ≤ known log → from ≤ length (executed log) → active log ≡ true → Nothing ≡ fit_of log epoch from es
unfolding fit_of
fit_active log epoch from es e l a = rw (not_lt (known log) epoch e, not_lt (length (executed log)) from l, a) refl

none_of_fit : (b : Bool) (new : List Entry) → (length new == 0) ≡ true → Nothing ≡ cond (b || (length new == 0)) Nothing (Adopt new)
none_of_fit true new l = refl
none_of_fit false new l = rw l refl

last_of_fit : (b : Bool) (new : List Entry) → b ≡ false → (length new == 0) ≡ false → Adopt new ≡ cond (b || (length new == 0)) Nothing (Adopt new)
last_of_fit true new b l = absurd (cc)
last_of_fit false new b l = rw l refl

pub fit_nothing : (log : Log) (epoch from : ℕ) (es new : List Entry) → epoch ≤ known log → from ≤ length (executed log) →
    new ≡ new_entries log from es → (length new == 0) ≡ true → Nothing ≡ fit_of log epoch from es
unfolding fit_of
fit_nothing log epoch from es new e l n z =
    rw (not_lt (known log) epoch e, not_lt (length (executed log)) from l)
    (none_of_fit (active log) new z ∙ ap (λ xs. cond (active log || (length xs == 0)) Nothing (Adopt xs)) n)

pub fit_adopt : (log : Log) (epoch from : ℕ) (es copy new : List Entry) → epoch ≤ known log → from ≤ length (executed log) → active log ≡ false →
    copy ≡ new → new ≡ new_entries log from es → (length new == 0) ≡ false → Adopt copy ≡ fit_of log epoch from es
unfolding fit_of
fit_adopt log epoch from es copy new e l a c n z =
    rw (not_lt (known log) epoch e, not_lt (length (executed log)) from l)
    (ap (λ xs. Adopt xs) c ∙ last_of_fit (active log) new a z ∙ ap (λ xs. cond (active log || (length xs == 0)) Nothing (Adopt xs)) n)

pub held : (log : Log) → suspended log ≡ true → false ≡ active log
unfolding active
held log h = go (live log) h
  where
    go : (b : Bool) → suspended log ≡ true → false ≡ b && not (suspended log)
    go true h = rw h refl
    go false h = refl

pub not_held : (log : Log) (b : Bool) → suspended log ≡ false → b ≡ live log → b ≡ active log
unfolding active
not_held log b h l = l ∙ go (live log) h
  where
    go : (b : Bool) → suspended log ≡ false → b ≡ b && not (suspended log)
    go true h = rw h refl
    go false h = refl
