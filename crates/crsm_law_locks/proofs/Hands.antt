-- A lock changes hands, by computation.
use Rattle.std.proofs.Common.{◌≡◌, ℕ, Some, None, refl, lit<, take, subst}
use Rattle.std.proofs.lemmas.Option.{same_Some}
use Rattle.crsm_base.specs.Spelling.{u64_bytes}
use Rattle.crsm_base.specs.Store.{after, answer_after, apply, bytes_lt, change_key, client_row, done, no_rows, operate, put_key, serve, value_at, with_client, with_key}
use Rattle.crsm_spec.specs.Types.{Answer, Entry}
use Rattle.crsm_spec.specs.Safe.{AnswersAt}
use Rattle.crsm_lease.specs.declared.lock.Lock.{Lock}
use Rattle.crsm_lease.specs.declared.rule.Action.{Action}
use Rattle.crsm_lease.specs.Locks.{lock_bytes}
use Rattle.crsm_lease.specs.Rules.{Asks, found_by, granted, rule}
use Rattle.crsm_law_locks.specs.Grants.{IsGrant, IsHeld, IsLawful, IsRepeat, TakesEffect}
use Rattle.crsm_law_locks.specs.Example.{LocksChangeHands, asking, asks_again, changing_hands, the_key}

-- ---- the rules are kept

first_asks : Asks Action.Take 5 (asking 1 5 1 None (Lock.Held 1 5)).command.op
unfolding rule found_by granted
first_asks = record { key = the_key; found = None; lock = Lock.Free 0; wanted = Lock.Held 1 5; client = lit< tt; has = refl; ruled = refl; is = refl }

second_asks : Asks Action.Give 5 (asking 2 5 2 (Some (Lock.Held 1 5)) (Lock.Free 1)).command.op
unfolding rule found_by granted
second_asks = record {
  key = the_key;
  found = Some (lock_bytes (Lock.Held 1 5));
  lock = Lock.Held 1 5;
  wanted = Lock.Free 1;
  client = lit< tt;
  has = record { fits = (lit< tt, lit< tt); is = refl };
  ruled = refl;
  is = refl;
}

third_asks : (time : ℕ) → Asks Action.Take 6 (asks_again time).command.op
unfolding rule found_by granted
third_asks time = record {
  key = the_key;
  found = Some (lock_bytes (Lock.Free 1));
  lock = Lock.Free 1;
  wanted = Lock.Held 2 6;
  client = lit< tt;
  has = record { fits = lit< tt; is = refl };
  ruled = refl;
  is = refl;
}

fourth_asks : Asks Action.Break 7 (asking 4 7 1 (Some (Lock.Held 2 6)) (Lock.Held 3 7)).command.op
unfolding rule found_by granted
fourth_asks = record {
  key = the_key;
  found = Some (lock_bytes (Lock.Held 2 6));
  lock = Lock.Held 2 6;
  wanted = Lock.Held 3 7;
  client = lit< tt;
  has = record { fits = (lit< tt, lit< tt); is = refl };
  ruled = refl;
  is = refl;
}

all_lawful : IsLawful the_key changing_hands
all_lawful =
    (λ _. (Action.Take, first_asks), (λ _. (Action.Give, second_asks), (λ _. (Action.Take, third_asks 3), (λ _. (Action.Break, fourth_asks), (λ _. (Action.Take, third_asks 5), tt)))))

-- ---- what takes effect

first_done : TakesEffect changing_hands 0 (asking 1 5 1 None (Lock.Held 1 5))
unfolding after answer_after apply serve done operate change_key put_key with_key with_client client_row value_at no_rows bytes_lt lock_bytes u64_bytes
first_done = record { done = (refl, refl); new = λ r. r }

second_done : TakesEffect changing_hands 1 (asking 2 5 2 (Some (Lock.Held 1 5)) (Lock.Free 1))
unfolding after answer_after apply serve done operate change_key put_key with_key with_client client_row value_at no_rows bytes_lt lock_bytes u64_bytes
second_done = record { done = (refl, refl); new = λ r. let e : ◌≡◌ {A = ℕ} 1 2 = r in absurd cc }

third_done : TakesEffect changing_hands 2 (asks_again 3)
unfolding after answer_after apply serve done operate change_key put_key with_key with_client client_row value_at no_rows bytes_lt lock_bytes u64_bytes
third_done = record { done = (refl, refl); new = λ r. r }

fourth_done : TakesEffect changing_hands 3 (asking 4 7 1 (Some (Lock.Held 2 6)) (Lock.Held 3 7))
unfolding after answer_after apply serve done operate change_key put_key with_key with_client client_row value_at no_rows bytes_lt lock_bytes u64_bytes
fourth_done = record { done = (refl, refl); new = λ r. r }

-- the repeat gets its answer again
fifth_answered : AnswersAt changing_hands 4 (asks_again 5) Answer.Done
unfolding after answer_after apply serve done operate change_key put_key with_key with_client client_row value_at no_rows bytes_lt lock_bytes u64_bytes
fifth_answered = (refl, refl)

-- and grants nothing
no_grant : (fence owner : ℕ) → IsGrant the_key changing_hands 4 fence owner → ⊥
unfolding after apply serve done operate change_key put_key with_key with_client client_row value_at no_rows bytes_lt lock_bytes u64_bytes
no_grant fence owner g =
    let same : asks_again 5 ≡ g.entry = same_Some (asks_again 5) g.entry g.effect.done.0 in
    g.effect.new (subst (λ (e : Entry). IsRepeat (after (take 4 changing_hands)).clients e.command) same refl)

held_last : IsHeld the_key changing_hands 5 3 7
unfolding after answer_after apply serve done operate change_key put_key with_key with_client client_row value_at no_rows bytes_lt lock_bytes u64_bytes
held_last = refl

pub hands : LocksChangeHands
hands = record {
  lawful = all_lawful;
  taken = record { entry = asking 1 5 1 None (Lock.Held 1 5); expected = None; fits = (lit< tt, lit< tt); effect = first_done; is = refl };
  returned = record { entry = asking 2 5 2 (Some (Lock.Held 1 5)) (Lock.Free 1); client = refl; effect = second_done; is = refl };
  taken_again = record { entry = asks_again 3; expected = Some (lock_bytes (Lock.Free 1)); fits = (lit< tt, lit< tt); effect = third_done; is = refl };
  broken = record {
    entry = asking 4 7 1 (Some (Lock.Held 2 6)) (Lock.Held 3 7);
    wanted = Some (lock_bytes (Lock.Held 3 7));
    other = λ e. cc;
    effect = fourth_done;
    asked = fourth_asks;
    is = refl;
  };
  granted = record { entry = asking 4 7 1 (Some (Lock.Held 2 6)) (Lock.Held 3 7); expected = Some (lock_bytes (Lock.Held 2 6)); fits = (lit< tt, lit< tt); effect = fourth_done; is = refl };
  answered = fifth_answered;
  repeats = no_grant;
  held = held_last;
}
