-- A lawful list in which a lock changes hands: 5 takes it and gives it back, 6 takes it, 7 breaks it, 6 repeats itself.
use Rattle.std.specs.Prelude.{ℕ, List, [], ◌∷◌, Option, Some, None}
use Rattle.crsm_spec.specs.Types.{Answer, Entry}
use Rattle.crsm_spec.specs.Safe.{AnswersAt}
use Rattle.crsm_lease.specs.declared.lock.Lock.{Lock}
use Rattle.crsm_lease.specs.Locks.{lock_bytes}
use Rattle.crsm_lease.specs.Rules.{cas_to}
use Rattle.crsm_law_locks.specs.Grants.{IsBreak, IsGrant, IsHeld, IsLawful, IsReturn}

abbrev pub the_key : List ℕ
the_key = 97 ∷ []

-- a client's command, by its time, the client, its number, the lock that was found and the lock that is wanted
abbrev pub asking : ℕ → ℕ → ℕ → Option Lock → Lock → Entry
asking time client number None wanted = record {
  epoch = 0;
  stamp = record { time = time; origin = 0 };
  command = record { client = client; number = number; op = cas_to the_key None wanted };
}
asking time client number (Some found) wanted = record {
  epoch = 0;
  stamp = record { time = time; origin = 0 };
  command = record { client = client; number = number; op = cas_to the_key (Some (lock_bytes found)) wanted };
}

-- what client 6 asks, twice under one number
abbrev pub asks_again : ℕ → Entry
asks_again time = asking time 6 1 (Some (Lock.Free 1)) (Lock.Held 2 6)

abbrev pub changing_hands : List Entry
changing_hands =
    asking 1 5 1 None (Lock.Held 1 5)
    ∷ asking 2 5 2 (Some (Lock.Held 1 5)) (Lock.Free 1)
    ∷ asks_again 3
    ∷ asking 4 7 1 (Some (Lock.Held 2 6)) (Lock.Held 3 7)
    ∷ asks_again 5
    ∷ []

-- The properties of the example: a grant after a return, a grant by a break, and a repeat that is answered and grants
-- nothing.
pub record LocksChangeHands : Type 0 where
  pub lawful : IsLawful the_key changing_hands
  pub taken : IsGrant the_key changing_hands 0 1 5
  pub returned : IsReturn the_key changing_hands 1 1 5
  pub taken_again : IsGrant the_key changing_hands 2 2 6
  pub broken : IsBreak the_key changing_hands 3 2 6
  pub granted : IsGrant the_key changing_hands 3 3 7
  pub answered : AnswersAt changing_hands 4 (asks_again 5) Answer.Done
  pub repeats : (fence owner : ℕ) → IsGrant the_key changing_hands 4 fence owner → ⊥
  pub held : IsHeld the_key changing_hands 5 3 7
