-- Wanted inputs by their parts.
use Rattle.std.proofs.Common.{◌≡◌, ℕ, true, List, nat_le, refl, ap, subst, ◌∙◌, false, Option, Some, None, unwrap_or}
use Rattle.std.specs.List.{list_all}
use Rattle.std.specs.Option.{option_map_or}
use Rattle.crsm_spec.specs.Types.{Decision}
use Rattle.crsm_spec.specs.Lists.{numbers_below}
use Rattle.crsm_spec.specs.Log.{Log, decision, live, members}
use Rattle.crsm_ledger.specs.Ledger.{founding, known_decision}
use Rattle.crsm_replica_io.specs.declared.input.WantedInput.TheVariants as WantedInput
use Rattle.crsm_replica_detector.specs.declared.timers.Timers.{Timers}
use Rattle.crsm_replica_detector.specs.Detector.{AreAlike, TimersStand, times_of}
use Rattle.crsm_replica_detector.specs.Watching.{Times, Watch, further, heard_at}
use Rattle.crsm_replica_detector.specs.Wishing.{Suspects, is_up_to, suspects, tick_is_due, wanted, wish_at}

members_by : (n : ℕ) (o : Option Decision) → (unwrap_or o (founding n)).members ≡ option_map_or (λ (d : Decision). d.members) o (numbers_below n)
members_by n None = refl
members_by n (Some d) = refl

-- the members are those of the known decision
pub members_known : (n : ℕ) (log : Log) → (known_decision n log).members ≡ members n log
unfolding known_decision members
members_known n log = members_by n (decision log)

pub up_to_live : (me : ℕ) (log : Log) (ms : List ℕ) → live log ≡ true → list_all (nat_le me) ms ≡ is_up_to me log ms
unfolding is_up_to
up_to_live me log ms l = rw l refl

-- ---- what is wished where no tick is due

suspect_here : (me n : ℕ) (t : Times) (log : Log) → tick_is_due t ≡ false → suspects me n t log (wanted me n t log) ≡ true
    → WantedInput.Suspect (wanted me n t log) ≡ wish_at me n t log
unfolding wish_at
suspect_here me n t log due s = rw (due, s) refl

pub suspect_wished : (me n : ℕ) (t : Times) (log : Log) (ms : List ℕ) → tick_is_due t ≡ false → Suspects me n t log (Some ms)
    → WantedInput.Suspect ms ≡ wish_at me n t log
suspect_wished me n t log ms due h =
    let S : List ℕ → Type 0 = λ ks. suspects me n t log ks ≡ true in
    ap WantedInput.Suspect h.1 ∙ suspect_here me n t log due (subst S h.1 h.0)

pub receive_wished : (me n : ℕ) (t : Times) (log : Log) → tick_is_due t ≡ false → Suspects me n t log None → WantedInput.Receive ≡ wish_at me n t log
unfolding wish_at
receive_wished me n t log due s = rw (due, s) refl

-- ---- what stands after a further reading

pub further_stands : (old : Option Timers) (t new : Timers) (from : Option ℕ) (reading : ℕ) → old ≡ Some t
    → ((u : Times) → AreAlike (times_of t) u → AreAlike (times_of new) (further from reading u))
    → (w : Watch) → TimersStand old w → TimersStand (Some new) (heard_at from reading w)
further_stands None t new from reading e f w h = let no : ⊥ = cc in absurd no
further_stands (Some o) t new from reading e f None h = absurd h
further_stands (Some o) t new from reading e f (Some u) h =
    let P : Timers → Type 0 = λ x. AreAlike (times_of x) u in
    let same : o ≡ t = cc in
    f u (subst P same h)
