-- The facts of the known epoch's decision.
use Rattle.std.proofs.Common.{◌≡◌, ◌<◌, ◌≤◌, ℕ, zero, suc, ◌+◌, Bool, true, false, cond, List, [], ◌∷◌, refl, sym, ap, ◌∙◌, arith, inl, inr}
use Rattle.std.specs.Prelude.{◌&&◌, ◌||◌, ◌==◌, not, nat_lt, nat_eq, Option, Some, None, unwrap_or, if◌then◌else◌}
use Rattle.std.specs.List.{AllByRecursion, list_any, range_with_len}
use Rattle.std.proofs.lemmas.Bool.{cases_lt}
use Rattle.std.proofs.lemmas.Bool.Decides.{nat_tests}
use Rattle.std.specs.Option.{option_map_or}
use Rattle.crsm_base.specs.Order.{stamp_lt, stamp_eq}
use Rattle.crsm_base.specs.Records.{FitsRec}
use Rattle.crsm_base.specs.Spelling.{FitsStamp, FitsEntry, FitsOption}
use Rattle.crsm_ledger.specs.Ledger.{founding, known_decision}
use Rattle.crsm_fact_log.proofs.Known.{known-spec}
use Rattle.crsm_commit.specs.Waiting.{without_entry}
use Rattle.crsm_replica_epoch.specs.First.{ready_first, ready_of}
use Rattle.crsm_replica_results.proofs.Kept.{next_is}
use Rattle.crsm_spec.specs.Types.{Stamp, Entry, Decision}
use Rattle.crsm_spec.specs.Lists.{has, numbers_below, first_of}
use Rattle.crsm_spec.specs.Ready.{is_ready}
use Rattle.crsm_spec.specs.Replica.{Replica}
use Rattle.crsm_spec.specs.Choice.{when◌then◌otherwise◌}
use Rattle.crsm_spec.specs.Frames.{with_stamp}
use Rattle.crsm_spec.specs.Log.{Log, decision, spec, unexecuted}

base_of : (n : ℕ) (o : Option Decision) → (unwrap_or o (founding n)).base_len ≡ option_map_or (λ d. d.base_len) o 0
base_of n None = refl
base_of n (Some d) = refl

pub known-base : (n : ℕ) (log : Log) → (known_decision n log).base_len ≡ option_map_or (λ d. d.base_len) (decision log) 0
unfolding known_decision
known-base n log = base_of n (decision log)

none_of : (n : ℕ) (o : Option Decision) → ((d : Decision) → o ≡ Some d → 1 ≤ d.epoch) → (unwrap_or o (founding n)).epoch ≡ 0 → None ≡ o
none_of n None later is = refl
none_of n (Some d) later is = let least = later d refl in absurd (omega (arith, least, is))

pub none-known : (n : ℕ) (log : Log) → ((d : Decision) → decision log ≡ Some d → 1 ≤ d.epoch) → (known_decision n log).epoch ≡ 0 → None ≡ decision log
unfolding known_decision
none-known n log later is = none_of n (decision log) later is

some_of : (n : ℕ) (o : Option Decision) → ((unwrap_or o (founding n)).epoch ≡ 0 → ⊥) → Some (unwrap_or o (founding n)) ≡ o
some_of n None not = absurd (not refl)
some_of n (Some d) not = refl

pub some-known : (n : ℕ) (log : Log) → ((known_decision n log).epoch ≡ 0 → ⊥) → Some (known_decision n log) ≡ decision log
unfolding known_decision
some-known n log not = some_of n (decision log) not

by_order : (b : Bool) (s t : Stamp) (ts more : List Stamp) → FitsStamp s → FitsStamp t × AllByRecursion FitsStamp ts → AllByRecursion FitsStamp more →
    AllByRecursion FitsStamp (when b then s ∷ t ∷ ts otherwise t ∷ more)
unfolding when◌then◌otherwise◌
by_order true s t ts more here all rest = (here, all)
by_order false s t ts more here all rest = (all.0, rest)

pub owed-one : (s : Stamp) (ss : List Stamp) → FitsStamp s → AllByRecursion FitsStamp ss → AllByRecursion FitsStamp (with_stamp s ss)
unfolding with_stamp
owed-one s [] here all = (here, tt)
owed-one s (t ∷ ts) here all = by_order (stamp_lt s t) s t ts (with_stamp s ts) here all (owed-one s ts here all.1)

pub held : (a b : Bool) → b ≡ true → false ≡ (a && not b)
held true true is = refl
held true false is = cc
held false b is = refl

pub free : (a b : Bool) → b ≡ false → a ≡ (a && not b)
free true true is = cc
free true false is = refl
free false b is = refl

pub named-spec : (n : ℕ) (log : Log) (d : Decision) (ms : List ℕ) → d ≡ known_decision n log → d.spec ≡ Some ms → ms ≡ spec n log
named-spec n log d ms known is =
    ap (λ (o : Option (List ℕ)). unwrap_or o (numbers_below n)) (sym is)
    ∙ ap (λ (e : Decision). unwrap_or e.spec (numbers_below n)) known
    ∙ known-spec n log

true_or : (a b : Bool) → b ≡ true → (a || b) ≡ true
true_or true b is = refl
true_or false b is = is

not_in : (k a n : ℕ) → a + n ≤ k → list_any (λ j. j == k) (range_with_len a n) ≡ false
not_in k a zero most = refl
not_in k a (suc n) most =
    let here : nat_eq a k ≡ false = grind (arith, nat_tests, most) in
    let rest = not_in k (a + 1) n (omega (arith, most)) in
    (λ j. here j || rest j)

is_in : (k a n : ℕ) → a ≤ k → k < a + n → list_any (λ j. j == k) (range_with_len a n) ≡ true
is_in k a zero least most = absurd (omega (arith, least, most))
is_in k a (suc n) least most = elim (cases_lt a k) [
  | inl later ↦ true_or (nat_eq a k) (list_any (λ j. j == k) (range_with_len (a + 1) n)) (is_in k (a + 1) n (omega (arith, later)) (omega (arith, most)))
  | inr end ↦
      let here : nat_eq a k ≡ true = grind (arith, nat_tests, least, end) in
      ap (λ b. b || list_any (λ j. j == k) (range_with_len (a + 1) n)) here
]

first_numbers : (n k : ℕ) → nat_lt k n ≡ has (numbers_below n) k
unfolding has numbers_below
first_numbers n k = elim (cases_lt k n) [
  | inl less ↦ let yes : nat_lt k n ≡ true = grind (arith, nat_tests, less) in yes ∙ sym (is_in k 0 n (omega arith) (omega (arith, less)))
  | inr most ↦ let no : nat_lt k n ≡ false = grind (arith, nat_tests, most) in no ∙ sym (not_in k 0 n (omega (arith, most)))
]

pub first-spec : (n : ℕ) (log : Log) (d : Decision) (k m : ℕ) → d ≡ known_decision n log → d.spec ≡ None → m ≡ n → nat_lt k m ≡ has (spec n log) k
first-spec n log d k m known is same =
    let all : numbers_below n ≡ spec n log =
    ap (λ (o : Option (List ℕ)). unwrap_or o (numbers_below n)) (sym is) ∙ ap (λ (e : Decision). unwrap_or e.spec (numbers_below n)) known ∙ known-spec n log in
    ap (λ (i : ℕ). nat_lt k i) same ∙ first_numbers n k ∙ ap (λ ks. has ks k) all

fits_first : (r : Replica) (b : Bool) (t : Stamp) → FitsStamp t → FitsOption FitsStamp (if b then Some t else None)
fits_first r true t fit = fit
fits_first r false t fit = tt

first_fits : (r : Replica) (es : List Entry) → ((e : Entry) → first_of es ≡ Some e → FitsEntry e) → FitsOption FitsStamp (ready_first r es)
unfolding ready_first first_of
first_fits r [] fit = tt
first_fits r (e ∷ es) fit = fits_first r (is_ready r e.stamp) e.stamp (fit e refl).stamp

pub ready-fits : (r : Replica) → AllByRecursion FitsRec r.log → FitsOption FitsStamp (ready_of r)
unfolding ready_of
ready-fits r spelt = first_fits r (unexecuted r.log) (λ e is. (next_is r.log e spelt is).1.1)

same_self : (s : Stamp) → stamp_eq s s ≡ true
unfolding stamp_eq
same_self s = grind (arith, nat_tests)

pub without_first : (e : Entry) (es : List Entry) → without_entry e.stamp (e ∷ es) ≡ es
without_first e es = ap (λ b. cond b es (e ∷ without_entry e.stamp es)) (same_self e.stamp)
