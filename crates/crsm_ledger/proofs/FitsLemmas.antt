-- The condition of each kind of record, by the fields.
use Rattle.std.proofs.Common.{◌≡◌, ℕ, Bool, true, false, ◌+◌, List, refl, sym, subst, ◌∙◌, length}
use Rattle.std.specs.Prelude.{◌==◌, ◌&&◌, ◌||◌, not, nat_lt, nat_le, Option, unwrap_or}
use Rattle.std.specs.List.{list_all}
use Rattle.std.specs.Option.{option_map_or}
use Rattle.std.proofs.lemmas.Bool.Decides.{Decides-eqb}
use Rattle.crsm_base.specs.Order.{stamp_eq, ballot_lt}
use Rattle.crsm_spec.specs.Types.{Stamp, Ballot, Entry, Decision, Rec}
use Rattle.crsm_spec.specs.Clock.{u64_max}
use Rattle.crsm_spec.specs.Lists.{has, first_of, numbers_below}
use Rattle.crsm_spec.specs.Quorum.{spec_decided}
use Rattle.crsm_spec.specs.Log.{Log, known, start, members, boots, active, above, last_stamp, unexecuted, executed, logged, has_entered}
use Rattle.crsm_spec.specs.Fits.{fits, booted, is_newest, can_be_members}
use Rattle.crsm_ledger.specs.declared.ledger.Ledger.{Ledger}
use Rattle.crsm_ledger.specs.Executed.{position_of, goes_on_behind}
use Rattle.crsm_ledger.specs.Held.{CanBeLogged, HasNext}
use Rattle.crsm_ledger.specs.Ledger.{FieldsStand}
use Rattle.crsm_ledger.specs.Sorted.{AreKeptFor}
use Rattle.crsm_ledger.specs.declared.kept.LoggedItem.{LoggedItem}
use Rattle.crsm_ledger.proofs.ExecutedLemmas.{goes_on-position}
use Rattle.crsm_fact_log.proofs.Known.{known-epoch, known-members}
use Rattle.crsm_ledger.proofs.ReadLemmas.{me-is, n-is, boots-is, known-is, start-is, live-is, suspended-is, entered-is, promised-is, accepted-is}

pub fits-boot : {me n : ℕ} {l : Ledger} {log : Log} (s : FieldsStand me n l log) (m k : ℕ) → ((m == l.me && k == l.n) && nat_lt l.boots u64_max) ≡ fits me n log (Rec.Boot m k)
unfolding fits
fits-boot s m k = rw (me-is s, n-is s, boots-is s)

pub fits-prepare : {me n : ℕ} {l : Ledger} {log : Log} (s : FieldsStand me n l log) (e : Entry) → ((((l.is_live && not l.is_suspended) && e.epoch == l.known.epoch) && has l.known.members e.stamp.origin) && is_newest e (logged log)) ≡ fits me n log (Rec.Prepare e)
unfolding fits active
fits-prepare {n = n} {log = log} s e = rw (live-is s, suspended-is s, known-is s, known-epoch n log, known-members n log)

pub fits-commit : {me n : ℕ} {l : Ledger} {log : Log} (s : FieldsStand me n l log) (t : Stamp) (last : Option Stamp) → last ≡ last_stamp log → ((l.is_live && not l.is_suspended) && option_map_or (λ e. stamp_eq e.stamp t) (first_of (above last (logged log))) false) ≡ fits me n log (Rec.Commit t)
unfolding fits active unexecuted
fits-commit s t last is = rw (live-is s, suspended-is s, is)

pub fits-adopt : {me n : ℕ} {l : Ledger} {log : Log} (s : FieldsStand me n l log) (place : ℕ) (es : List Entry) → ((((nat_lt 0 l.boots && place == length (executed log)) && list_all (λ e. nat_le e.epoch l.known.epoch) es) && goes_on_behind (position_of (executed log)) es) && (not l.is_live || l.is_suspended)) ≡ fits me n log (Rec.Adopt place es)
unfolding fits booted
fits-adopt {n = n} {log = log} s place es = rw (boots-is s, known-is s, known-epoch n log, goes_on-position (executed log) es, live-is s, suspended-is s)

pub fits-suspend : {me n : ℕ} {l : Ledger} {log : Log} (s : FieldsStand me n l log) (x : ℕ) → ((nat_lt 0 l.boots && x == l.known.epoch) && not l.is_suspended) ≡ fits me n log (Rec.Suspend x)
unfolding fits booted
fits-suspend {n = n} {log = log} s x = rw (boots-is s, known-is s, known-epoch n log, suspended-is s)

pub fits-promise : {me n : ℕ} {l : Ledger} {log : Log} (s : FieldsStand me n l log) (i : ℕ) (b : Ballot) → ((nat_lt 0 l.boots && i == l.known.epoch + 1) && ballot_lt l.promised b) ≡ fits me n log (Rec.Promise i b)
unfolding fits booted
fits-promise {n = n} {log = log} s i b = rw (boots-is s, known-is s, known-epoch n log, promised-is s)

pub fits-accept : {me n : ℕ} {l : Ledger} {log : Log} (s : FieldsStand me n l log) (i : ℕ) (b : Ballot) (d : Decision) → (((((nat_lt 0 l.boots && i == l.known.epoch + 1) && d.epoch == l.known.epoch + 1) && not (ballot_lt b l.promised)) && option_map_or (λ a. ballot_lt a.0 b) l.accepted true) && nat_le d.base_len (length (executed log))) ≡ fits me n log (Rec.Accept i b d)
unfolding fits booted
fits-accept {n = n} {log = log} s i b d = rw (boots-is s, known-is s, known-epoch n log, promised-is s, accepted-is s)

pub fits-decide : {me n : ℕ} {l : Ledger} {log : Log} (s : FieldsStand me n l log) (d : Decision) → ((nat_lt 0 l.boots && nat_lt l.known.epoch d.epoch) && can_be_members (unwrap_or d.spec (numbers_below l.n)) d.members) ≡ fits me n log (Rec.Decide d)
unfolding fits booted spec_decided
fits-decide {n = n} {log = log} s d = rw (boots-is s, known-is s, known-epoch n log, n-is s)

entered_there : (x k : ℕ) (f : ℕ → Bool) (a b c : Bool) → (x == k ≡ true → x ≡ k) → ((((a && x == k) && b) && c) && not (f k)) ≡ ((((a && x == k) && b) && c) && not (f x))
entered_there x k f false b c same = refl
entered_there x k f true b c same = by_test (x == k) same
  where
    by_test : (t : Bool) → (t ≡ true → x ≡ k) → (((t && b) && c) && not (f k)) ≡ (((t && b) && c) && not (f x))
    by_test true same = rw (same refl)
    by_test false same = refl

pub fits-enter : {me n : ℕ} {l : Ledger} {log : Log} (s : FieldsStand me n l log) (x : ℕ) → ((((nat_lt 0 l.boots && x == l.known.epoch) && has l.known.members l.me) && length (executed log) == l.start) && not l.has_entered) ≡ fits me n log (Rec.Enter x)
unfolding fits booted
fits-enter {me = me} {n = n} {log = log} s x =
    rw (boots-is s, known-is s, known-epoch n log, known-members n log, me-is s, start-is s, entered-is s)
    (entered_there x (known log) (λ k. has_entered k log) (nat_lt 0 (boots log)) (has (members n log) me) (length (executed log) == start log) ((Decides-eqb x (known log)).0))

-- ---- what follows from a record that fits

fifth : (a b c d e : Bool) → ((((a && b) && c) && d) && e) ≡ true → (c ≡ true) × (e ≡ true)
fifth true true true true e is = (refl, is)
fifth true true true false e is = cc
fifth true true false d e is = cc
fifth true false c d e is = cc
fifth false b c d e is = cc

third : (a b c : Bool) → ((a && b) && c) ≡ true → c ≡ true
third true true c is = is
third true false c is = cc
third false b c is = cc

pub can-log : (a b d newest : Bool) (epoch x : ℕ) (items : List LoggedItem) (e : Entry) → ((((a && b) && e.epoch == epoch) && d) && newest) ≡ true → epoch ≡ x → ((done es : List Entry) → AreKeptFor done items es → newest ≡ is_newest e es) → CanBeLogged x items e
can-log a b d newest epoch x items e passes is newer =
    let both : ((e.epoch == epoch) ≡ true) × (newest ≡ true) = fifth a b (e.epoch == epoch) d newest passes in
    record { epoch = (Decides-eqb e.epoch epoch).0 both.0 ∙ is; newest = λ done es all. sym (newer done es all) ∙ both.1 }

pub can-commit : (a b next : Bool) (last old : Option Stamp) (items : List LoggedItem) → ((a && b) && next) ≡ true → last ≡ old → (next ≡ true → HasNext last items) → HasNext old items
can-commit a b next last old items passes same some = subst (λ (o : Option Stamp). HasNext o items) same (some (third a b next passes))
