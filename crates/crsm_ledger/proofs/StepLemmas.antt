-- The fields after one more record: the facts of the longer log.
use Rattle.std.proofs.Common.{◌≡◌, ℕ, Bool, true, false, ◌<◌, ◌≤◌, ◌+◌, List, [], ◌∷◌, ◌++◌, refl, ap, sym, ◌∙◌, subst, arith, length, zero-add, add_comm, cond}
use Rattle.std.proofs.lemmas.List.Sums.{sum_by-cons}
use Rattle.std.specs.Prelude.{◌==◌, ◌||◌, None, Some, find, if◌then◌else◌}
use Rattle.std.specs.List.{AllByRecursion}
use Rattle.std.proofs.lemmas.Bool.Decides.{nat_tests, Decides-eqb}
use Rattle.crsm_base.specs.Order.{stamp_eq}
use Rattle.crsm_spec.specs.Types.{Stamp, Ballot, Entry, Decision, Rec}
use Rattle.crsm_spec.specs.Lists.{first_of, numbers_below}
use Rattle.crsm_spec.specs.Log.{Log, decision, known, start, boots, is_boot, is_enter, live, suspended, has_entered, promised, no_ballot, accepted, with_entry, logged_in, logged, entry_of, executed, last_stamp, unexecuted}
use Rattle.crsm_ledger.specs.declared.ledger.Ledger.{Ledger}
use Rattle.crsm_ledger.specs.declared.held.HeldEntries.{HeldEntries}
use Rattle.crsm_ledger.specs.Executed.{HistoryStands}
use Rattle.crsm_ledger.specs.Held.{Holds}
use Rattle.crsm_ledger.specs.Ledger.{Facts, FieldsStand, facts_of, fields_of, known_decision}
use Rattle.crsm_fact_log.proofs.Lists.{all-push, all-append, all_more}
use Rattle.crsm_ledger.proofs.LoggedLemmas.{stamp_eq-same, find-above, kept-more}
use Rattle.crsm_ledger.specs.Sorted.{AreKeptFor}
use Rattle.crsm_ledger.specs.declared.kept.LoggedItem.{LoggedItem}

-- ---- boots

boots-boot : (m k : ℕ) (log : Log) → boots (Rec.Boot m k ∷ log) ≡ boots log + 1
unfolding boots is_boot
boots-boot m k log = sum_by-cons (λ r. cond (is_boot r) 1 0) (Rec.Boot m k) log ∙ add_comm 1 (boots log)

boots-other : (rec : Rec) (log : Log) → is_boot rec ≡ false → boots (rec ∷ log) ≡ boots log
unfolding boots
boots-other rec log other =
    sum_by-cons (λ r. cond (is_boot r) 1 0) rec log ∙ ap (λ (b : Bool). cond b 1 0 + boots log) other ∙ zero-add (boots log)

-- ---- records that name no entry

pub says-boot : {me n : ℕ} {l : Ledger} {log : Log} (s : FieldsStand me n l log) (m k : ℕ) → FieldsStand me n (record l { boots = l.boots + 1; is_live = false }) (Rec.Boot m k ∷ log)
unfolding facts_of is_boot known known_decision decision start live suspended has_entered promised accepted logged logged_in executed is_enter
says-boot {me} {n} {l} {log} s m k = record {
  few = s.few;
  facts = ap (λ (f : Facts). record f { boots = f.boots + 1; live = false }) s.facts
      ∙ ap (λ (b : ℕ). record (facts_of me n log) { boots = b; live = false }) (sym (boots-boot m k log));
  executed = s.executed;
  kept = s.kept;
  none_above = record { logged = s.none_above.logged; entered = s.none_above.entered; executed = s.none_above.executed };
}

pub says-suspend : {me n : ℕ} {l : Ledger} {log : Log} (s : FieldsStand me n l log) (x : ℕ) → FieldsStand me n (record l { is_suspended = true }) (Rec.Suspend x ∷ log)
unfolding facts_of is_boot known known_decision decision start live suspended has_entered promised accepted logged logged_in executed is_enter
says-suspend {me} {n} {l} {log} s x = record {
  few = s.few;
  facts = ap (λ (f : Facts). record f { suspended = true }) s.facts
      ∙ ap (λ (b : ℕ). record (facts_of me n log) { suspended = true; boots = b }) (sym (boots-other (Rec.Suspend x) log refl));
  executed = s.executed;
  kept = s.kept;
  none_above = record { logged = s.none_above.logged; entered = s.none_above.entered; executed = s.none_above.executed };
}

pub says-promise : {me n : ℕ} {l : Ledger} {log : Log} (s : FieldsStand me n l log) (i : ℕ) (b : Ballot) → FieldsStand me n (record l { promised = b }) (Rec.Promise i b ∷ log)
unfolding facts_of is_boot known known_decision decision start live suspended has_entered promised accepted logged logged_in executed is_enter
says-promise {me} {n} {l} {log} s i b = record {
  few = s.few;
  facts = ap (λ (f : Facts). record f { promised = b }) s.facts
      ∙ ap (λ (count : ℕ). record (facts_of me n log) { promised = b; boots = count }) (sym (boots-other (Rec.Promise i b) log refl));
  executed = s.executed;
  kept = s.kept;
  none_above = record { logged = s.none_above.logged; entered = s.none_above.entered; executed = s.none_above.executed };
}

pub says-accept : {me n : ℕ} {l : Ledger} {log : Log} (s : FieldsStand me n l log) (i : ℕ) (b : Ballot) (d : Decision) → FieldsStand me n (record l { promised = b; accepted = Some (b, d) }) (Rec.Accept i b d ∷ log)
unfolding facts_of is_boot known known_decision decision start live suspended has_entered promised accepted logged logged_in executed is_enter
says-accept {me} {n} {l} {log} s i b d = record {
  few = s.few;
  facts = ap (λ (f : Facts). record f { promised = b; accepted = Some (b, d) }) s.facts
      ∙ ap (λ (count : ℕ). record (facts_of me n log) { promised = b; accepted = Some (b, d); boots = count }) (sym (boots-other (Rec.Accept i b d) log refl));
  executed = s.executed;
  kept = s.kept;
  none_above = record { logged = s.none_above.logged; entered = s.none_above.entered; executed = s.none_above.executed };
}

eqb-false : (x y : ℕ) → x < y → (x == y) ≡ false
eqb-false x y less = grind (arith, nat_tests)

eqb-true : (x y : ℕ) → x ≡ y → (x == y) ≡ true
eqb-true x y same = (Decides-eqb x y).1 same

pub says-enter : {me n : ℕ} {l : Ledger} {log : Log} (s : FieldsStand me n l log) (x : ℕ) → x ≡ known log → FieldsStand me n (record l { is_live = true; has_entered = true }) (Rec.Enter x ∷ log)
unfolding facts_of is_boot known known_decision decision start live suspended has_entered promised accepted logged logged_in executed is_enter
says-enter {me} {n} {l} {log} s x is = record {
  few = s.few;
  facts = ap (λ (f : Facts). record f { live = true; entered = true }) s.facts
      ∙ ap (λ (count : ℕ). record (facts_of me n log) { live = true; entered = true; boots = count }) (sym (boots-other (Rec.Enter x) log refl))
      ∙ ap (λ (same : Bool). record (facts_of me n log) { live = true; entered = same || has_entered (known log) log; boots = boots (Rec.Enter x ∷ log) }) (sym (eqb-true x (known log) is));
  executed = s.executed;
  kept = s.kept;
  none_above = record {
    logged = s.none_above.logged;
    entered = λ y after. rw (eqb-false x y (let below : known log < y = after in omega (arith, is, below))) (s.none_above.entered y after);
    executed = s.none_above.executed;
  };
}

pub says-decide : {me n : ℕ} {l : Ledger} {log : Log} (s : FieldsStand me n l log) (d : Decision) (held : HeldEntries) → known log < d.epoch → Holds held.history held.logged d.epoch (executed log) [] → FieldsStand me n (record l { known = d; start = d.base_len + length d.tail; is_live = false; is_suspended = false; has_entered = false; promised = no_ballot; accepted = None; held = held }) (Rec.Decide d ∷ log)
unfolding facts_of is_boot known known_decision decision start live suspended has_entered promised accepted logged logged_in executed is_enter
says-decide {me} {n} {l} {log} s d held after begun = record {
  few = s.few;
  facts = ap (λ (f : Facts). record f { known = d; start = d.base_len + length d.tail; live = false; suspended = false; entered = false; promised = no_ballot; accepted = None }) s.facts
      ∙ ap (λ (count : ℕ). record (facts_of me n log) { known = d; start = d.base_len + length d.tail; live = false; suspended = false; entered = false; promised = no_ballot; accepted = None; boots = count }) (sym (boots-other (Rec.Decide d) log refl))
      ∙ ap (λ (entered : Bool). record (facts_of me n log) { known = d; start = d.base_len + length d.tail; live = false; suspended = false; entered = entered; promised = no_ballot; accepted = None; boots = boots (Rec.Decide d ∷ log) }) (sym (s.none_above.entered d.epoch after));
  executed = begun.executed;
  kept = subst (λ (es : List Entry). AreKeptFor (executed log) held.logged es) (sym (s.none_above.logged d.epoch after)) begun.kept;
  none_above = record {
    logged = λ y later. s.none_above.logged y (let more : d.epoch < y = later in omega (arith, after, more));
    entered = λ y later. s.none_above.entered y (let more : d.epoch < y = later in omega (arith, after, more));
    executed = all_more (λ e. e.epoch ≤ known log) (λ e. e.epoch ≤ d.epoch) (λ e below. omega (arith, after, below)) (executed log) s.none_above.executed;
  };
}

-- ---- records that name entries

pub says-prepare : {me n : ℕ} {l : Ledger} {log : Log} (s : FieldsStand me n l log) (e : Entry) (held : HeldEntries) → e.epoch ≡ known log → Holds held.history held.logged (known log) (executed log) (with_entry e (logged log)) → FieldsStand me n (record l { held = held }) (Rec.Prepare e ∷ log)
unfolding facts_of is_boot known known_decision decision start live suspended has_entered promised accepted logged logged_in executed is_enter
says-prepare {me} {n} {l} {log} s e held is holds = record {
  few = s.few;
  facts = s.facts ∙ ap (λ (count : ℕ). record (facts_of me n log) { boots = count }) (sym (boots-other (Rec.Prepare e) log refl));
  executed = holds.executed;
  kept = subst (λ (same : Bool). AreKeptFor (executed log) held.logged (if same then with_entry e (logged log) else logged log)) (sym (eqb-true e.epoch (known log) is)) holds.kept;
  none_above = record {
    logged = λ y after. rw (eqb-false e.epoch y (let below : known log < y = after in omega (arith, is, below))) (s.none_above.logged y after);
    entered = s.none_above.entered;
    executed = s.none_above.executed;
  };
}

-- the entry that a commit of this stamp executes
pub committed : (log : Log) (t : Stamp) (e : Entry) → first_of (unexecuted log) ≡ Some e → stamp_eq e.stamp t ≡ true → entry_of log t ≡ Some e
unfolding unexecuted entry_of
committed log t e next same =
    subst (λ (u : Stamp). find (λ f. stamp_eq f.stamp u) (logged log) ≡ Some e) (stamp_eq-same e.stamp t same)
    (find-above (last_stamp log) (logged log) e next)

pub says-commit : {me n : ℕ} {l : Ledger} {log : Log} (s : FieldsStand me n l log) (t : Stamp) (e : Entry) (held : HeldEntries) → first_of (unexecuted log) ≡ Some e → stamp_eq e.stamp t ≡ true → e.epoch ≡ known log → Holds held.history held.logged (known log) (executed log ++ e ∷ []) (logged log) → FieldsStand me n (record l { held = held }) (Rec.Commit t ∷ log)
unfolding facts_of is_boot known known_decision decision start live suspended has_entered promised accepted logged logged_in executed is_enter
says-commit {me} {n} {l} {log} s t e held next same of_known holds = record {
  few = s.few;
  facts = s.facts ∙ ap (λ (count : ℕ). record (facts_of me n log) { boots = count }) (sym (boots-other (Rec.Commit t) log refl));
  executed = rw (committed log t e next same) holds.executed;
  kept = rw (committed log t e next same) holds.kept;
  none_above = record {
    logged = s.none_above.logged;
    entered = s.none_above.entered;
    executed = rw (committed log t e next same) (all-push (λ f. f.epoch ≤ known log) (executed log) e s.none_above.executed (let here : e.epoch ≤ known log = omega (arith, of_known) in here));
  };
}

pub says-adopt : {me n : ℕ} {l : Ledger} {log : Log} (s : FieldsStand me n l log) (place : ℕ) (es : List Entry) (held : HeldEntries) → AllByRecursion (λ e. e.epoch ≤ known log) es → HistoryStands held.history (known log) (executed log ++ es) → held.logged ≡ l.held.logged → FieldsStand me n (record l { held = held }) (Rec.Adopt place es ∷ log)
unfolding facts_of is_boot known known_decision decision start live suspended has_entered promised accepted logged logged_in executed is_enter
says-adopt {me} {n} {l} {log} s place es held below done same = record {
  few = s.few;
  facts = s.facts ∙ ap (λ (count : ℕ). record (facts_of me n log) { boots = count }) (sym (boots-other (Rec.Adopt place es) log refl));
  executed = done;
  kept = subst (λ (is : List LoggedItem). AreKeptFor (executed log ++ es) is (logged log)) (sym same) (kept-more (executed log) es l.held.logged (logged log) s.kept);
  none_above = record {
    logged = s.none_above.logged;
    entered = s.none_above.entered;
    executed = all-append (λ f. f.epoch ≤ known log) (executed log) es s.none_above.executed below;
  };
}

-- ---- no record

pub says-nothing : (me n : ℕ) (l : Ledger) (founders members : List ℕ) (tail : List Entry) → n ≤ 15 → fields_of l ≡ record { me = me; n = n; founders = founders; boots = 0; known = record { epoch = 0; spec = None; members = members; base_len = 0; tail = tail }; start = 0; live = false; suspended = false; entered = false; promised = no_ballot; accepted = None } → founders ≡ numbers_below n → members ≡ numbers_below n → tail ≡ [] → Holds l.held.history l.held.logged 0 [] [] → FieldsStand me n l []
unfolding facts_of boots known known_decision decision start live suspended has_entered promised accepted logged logged_in executed
says-nothing me n l founders members tail few fields first all none holds = record {
  few = few;
  facts = fields
      ∙ ap (λ (ks : List ℕ). record { me = me; n = n; founders = ks; boots = 0; known = record { epoch = 0; spec = None; members = members; base_len = 0; tail = tail }; start = 0; live = false; suspended = false; entered = false; promised = no_ballot; accepted = None }) first
      ∙ ap (λ (ks : List ℕ). record { me = me; n = n; founders = numbers_below n; boots = 0; known = record { epoch = 0; spec = None; members = ks; base_len = 0; tail = tail }; start = 0; live = false; suspended = false; entered = false; promised = no_ballot; accepted = None }) all
      ∙ ap (λ (es : List Entry). record { me = me; n = n; founders = numbers_below n; boots = 0; known = record { epoch = 0; spec = None; members = numbers_below n; base_len = 0; tail = es }; start = 0; live = false; suspended = false; entered = false; promised = no_ballot; accepted = None }) none;
  executed = holds.executed;
  kept = holds.kept;
  none_above = record { logged = λ x after. refl; entered = λ x after. refl; executed = tt };
}

-- the mark of a spent ledger says nothing of the log
pub says-marked : {me n : ℕ} {l : Ledger} {log : Log} → FieldsStand me n l log → (mark : Bool) → FieldsStand me n (record l { is_spent = mark }) log
says-marked s mark = record { few = s.few; facts = s.facts; executed = s.executed; kept = s.kept; none_above = s.none_above }
