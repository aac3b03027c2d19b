-- An epoch with an opening and one Spec meets the premises of the law of collection.
use Rattle.std.proofs.Common.{◌≡◌, ℕ, ◌<◌, ◌≤◌, List, ◌∷◌, length, refl, sym, ◌∙◌, ap, subst, inl, inr, Bool, arith}
use Rattle.std.specs.Prelude.{◌⊎◌, IsTrue, Some, slice_get, count_by}
use Rattle.std.specs.Option.{option_map_or}
use Rattle.crsm_spec.specs.Types.{Entry, Rec}
use Rattle.crsm_spec.specs.Lists.{Among, has, numbers_below}
use Rattle.crsm_spec.specs.Log.{Log, known, decision, members, logged_in, has_entered}
use Rattle.crsm_spec.specs.Paxos.{majority}
use Rattle.crsm_spec.specs.World.{World, log_at}
use Rattle.crsm_fact_log.specs.Logs.{Extends, same, more, Logged}
use Rattle.crsm_law_steps.specs.Happenings.{IsReached}
use Rattle.crsm_fact_log.proofs.Logged.{extends_trans, logged_is}
use Rattle.crsm_law_epoch.specs.Worlds.{seats, sent_in}
use Rattle.crsm_law_epoch.proofs.Worlds.{seat_log_at}
use Rattle.crsm_law_collection.specs.Collecting.{CommitOf, EpochFacts}
use Rattle.crsm_law_epoch.specs.LogWorlds.{HasFewBoots}
use Rattle.crsm_law_epoch.proofs.LogWorlds.{logs_fit, epochs_hold_always}
use Rattle.crsm_law_epoch.specs.Witness.{Witnessed}
use Rattle.crsm_law_epoch.proofs.CommitLogs.{unexecuted_logged}
use Rattle.crsm_law_epoch.proofs.CommitWorlds.{commits_are_witnessed}
use Rattle.crsm_law_messages.specs.Counted.{AllSpelt}
use Rattle.crsm_law_agreement.specs.DecisionLaws.{IsSpecOf}
use Rattle.crsm_law_agreement.proofs.BallotsAgree.{known_are_one}
use Rattle.crsm_law_agreement.specs.Openings.{IsOpening, IsPlaced}
use Rattle.crsm_law_agreement.proofs.Logs.{entered_as, is_logged}
use Rattle.crsm_law_agreement.proofs.Worlds.{one_entry, all_placed}
use Rattle.crsm_fact_log.proofs.Lists.{get_inside}

same_members : (n : ℕ) (a b : Log) → decision a ≡ decision b → members n a ≡ members n b
unfolding members
same_members n a b h = ap (λ o. option_map_or (λ d. d.members) o (numbers_below n)) h

pub epoch_facts : (n : ℕ) (w : World) → IsReached n w → HasFewBoots w → AllSpelt n w → (e : ℕ) (opening : List Entry) (counted : List ℕ) → IsOpening e opening (log_at w) → IsSpecOf n e counted (log_at w) →
    EpochFacts e n (length opening) counted (log_at w)
epoch_facts n w q few spelt e opening counted opens specs =
    record {
      fit = logs_fit n w q few;
      begin = opens.begin;
      replicated = replicated;
      one = one;
      stable = stable;
      before = λ k log x kn p y lt f. older p y lt (placed k log x kn p y f);
      behind = λ k log x kn p y le f. later p y le (placed k log x kn p y f);
    }
  where
    placed : (k : ℕ) (log : Log) → Extends log (log_at w k) → known log ≡ e → IsPlaced e opening (log_at w) log
    placed k log x kn = all_placed n w q few spelt e opening opens k log x kn

    older : (p : ℕ) (y : Entry) → p < length opening → (slice_get opening p ≡ Some y) ⊎ ((length opening ≤ p) × CommitOf e (log_at w) p y) → y.epoch < e
    older p y lt (inl a) = opens.older p y a
    older p y lt (inr b) = let l = b.0 in absurd (omega (arith, lt, l))

    later : (p : ℕ) (y : Entry) → length opening ≤ p → (slice_get opening p ≡ Some y) ⊎ ((length opening ≤ p) × CommitOf e (log_at w) p y) → CommitOf e (log_at w) p y
    later p y le (inl a) = let l = get_inside opening p y a in absurd (omega (arith, le, l))
    later p y le (inr b) = b.1

    at_seat : (k : ℕ) (f : Entry) → Logged (log_at w k) f → Logged (seats w k).log f
    at_seat k f h = subst (λ l. Logged l f) (sym (seat_log_at w k)) h

    at_log : (k : ℕ) (f : Entry) → Logged (seats w k).log f → Logged (log_at w k) f
    at_log k f h = subst (λ l. Logged l f) (seat_log_at w k) h

    witness : (p : ℕ) (x : Entry) (c : CommitOf e (log_at w) p x) → Witnessed n (seats w) (sent_in w) c.by c.log x
    witness p x c = commits_are_witnessed n w q few c.by c.log x (subst (Extends (Rec.Commit x.stamp ∷ c.log)) (sym (seat_log_at w c.by)) c.kept, c.next)

    old : (p : ℕ) (x : Entry) (c : CommitOf e (log_at w) p x) → Extends c.log (log_at w c.by)
    old p x c = extends_trans (more (Rec.Commit x.stamp) same) c.kept

    replicated : (p : ℕ) (x : Entry) (c : CommitOf e (log_at w) p x) → (test : ℕ → Bool) × (majority (length counted) ≤ count_by test counted) × ((k : ℕ) → IsTrue (test k) → Among (logged_in e (log_at w k)) x)
    replicated p x c =
        let t = witness p x c in (
          t.voters,
          subst (λ l. majority (length l) ≤ count_by t.voters l) (specs c.by c.log (old p x c) c.epoch) t.many,
          λ k h. is_logged e (log_at w k) x (at_log k x (t.logged k h)) ((unexecuted_logged c.log x c.next).1 ∙ c.epoch),
        )

    one : (j k : ℕ) (x y : Entry) → Among (logged_in e (log_at w j)) x → Among (logged_in e (log_at w k)) y → x.stamp ≡ y.stamp → x ≡ y
    one j k x y a b is =
        let f = logged_is e (log_at w j) x a in
        let g = logged_is e (log_at w k) y b in
        one_entry n w q few j k x y f.0 g.0 (f.1 ∙ sym g.1) is

    stable : (p : ℕ) (x : Entry) (c : CommitOf e (log_at w) p x) (k : ℕ) (y : Entry) → Among (logged_in e (log_at w k)) y → y.stamp.time ≤ x.stamp.time → Among (logged_in e c.log) y
    stable p x c k y a le =
        let facts = epochs_hold_always n w q few in
        let l = logged_is e (log_at w k) y a in
        let m = y.stamp.origin in
        let own = facts.own k y (at_seat k y l.0) in
        let entered = subst (λ z. IsTrue (has_entered e z)) (seat_log_at w m) (subst (λ z. IsTrue (has_entered z (seats w m).log)) l.1 (facts.stamped m y own refl)) in
        let was = entered_as m n e (log_at w m) (logs_fit n w q few m) entered in
        let equal = same_members n was.old c.log (known_are_one n w q few spelt m c.by was.old c.log was.earlier (old p x c) (was.epoch ∙ sym c.epoch)) in
        let mem = subst (λ ms. IsTrue (has ms m)) equal was.member in
        is_logged e c.log y ((witness p x c).older m y mem own (l.1 ∙ sym c.epoch) refl le) l.1
