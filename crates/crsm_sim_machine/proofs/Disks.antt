-- Disks whose calls do not fail, and what is left on them.
use Rattle.std.proofs.Common.{◌≡◌, ℕ, [], Option, Some, None, refl, ◌∙◌, ap, subst}
use Rattle.std.specs.Option.{option_map_or}
use Rattle.std.specs.Prelude.{unwrap_or}
use Rattle.crsm_port_faults.specs.Plan.{Plan}
use Rattle.crsm_disk.specs.Contract.{Arms}
use Rattle.crsm_disk.specs.Memory.{Memory, meaning_of, good_left}
use Rattle.crsm_log.specs.Log.{Used, less}
use Rattle.crsm_spec.specs.Log.{Log, decision, known, executed}
use Rattle.crsm_sim_machine.specs.declared.stopped.Left.{Left}
use Rattle.crsm_sim_machine.specs.declared.stopped.Stopped.{Stopped}
use Rattle.crsm_sim_machine.specs.States.{HasLeft, IsDisk, IsStopped, SumsUp}

-- the plan of a disk in memory for its calls
abbrev pub plan_of : Memory → Plan
plan_of m = record { calls = m.room_calls; bytes = m.room_bytes; good = good_left m }

-- where all calls went well before, all go well after some of them
pub well_after : (k : ℕ) (p : Plan) (new : Memory) → p.good ≡ None → Used k p (meaning_of new).plan → good_left new ≡ None
well_after k p new well used =
    let told : Some (plan_of new) ≡ Some used.left.0 = used.left.1 in
    ap (λ (o : Option Plan). option_map_or (λ (q : Plan). q.good) o None) told ∙ used.left.2 ∙ ap (less k) well

-- if all calls of an armed disk succeeded, this number of further ones do
pub armed_good : (calls : ℕ) (old new : Memory) (fill : ℕ) → good_left old ≡ None → Arms (Some calls) fill (meaning_of old) (meaning_of new) → good_left new ≡ Some calls
armed_good calls old new fill well arms =
    let q = arms.stops (plan_of old) refl in
    let told : Some (plan_of new) ≡ Some q.0 = q.1 in
    ap (λ (o : Option Plan). option_map_or (λ (p : Plan). p.good) o None) told ∙ q.2.good well

-- what it is armed with fills its image
pub armed_fill : (calls : Option ℕ) (fill : ℕ) (old new : Memory) → Arms calls fill (meaning_of old) (meaning_of new) → new.fill ≡ fill
armed_fill calls fill old new arms = ap (λ (o : Option ℕ). unwrap_or o fill) arms.fill

-- an empty log says nothing
pub nothing_told : SumsUp (record { known = 0; executed = 0 }) []
unfolding known executed decision
nothing_told = record { known = refl; executed = refl }

-- the same place, under other names of its numbers
pub renamed : (left : Stopped) (log : Log) (a b c d : ℕ) → a ≡ b → c ≡ d → IsStopped a c left log → IsStopped b d left log
renamed left log a b c d p q h = subst (λ x. IsStopped b x left log) q (subst (λ x. IsStopped x c left log) p h)

pub renamed_left : (left : Left) (log : Log) (a b c d : ℕ) → a ≡ b → c ≡ d → HasLeft a c left log → HasLeft b d left log
renamed_left left log a b c d p q h = subst (λ x. HasLeft b x left log) q (subst (λ x. HasLeft x c left log) p h)

pub renamed_disk : (disk : Memory) (log : Log) (a b c d : ℕ) → a ≡ b → c ≡ d → IsDisk a c disk log → IsDisk b d disk log
renamed_disk disk log a b c d p q h = subst (λ x. IsDisk b x disk log) q (subst (λ x. IsDisk x c disk log) p h)
