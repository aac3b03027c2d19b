-- Turns of a node that suspects a replica, by computation.
use Rattle.std.proofs.Common.{◌≡◌, ℕ, zero, suc, ◌<◌, List, [], ◌∷◌, refl, sym, ◌∙◌, subst, inl, inr, arith, take}
use Rattle.std.specs.Prelude.{Option, Some, slice_get}
use Rattle.std.proofs.lemmas.Option.{none-some, same_Some}
use Rattle.crsm_base.specs.Messages.{datagram_bytes}
use Rattle.crsm_spec.specs.Types.{Datagram}
use Rattle.crsm_spec.specs.Node.{Turn}
use Rattle.crsm_spec.specs.Replica.{Replica}
use Rattle.crsm_spec.specs.Step.{boot}
use Rattle.crsm_shell.specs.Taking.{heard_in, sender_of}
use Rattle.crsm_replica_detector.specs.Wished.{AreWished}
use Rattle.crsm_replica_detector.specs.Wishing.{is_up_to, is_wanted, may_suspect, should_be_members, should_end, suspects, tick_is_due, wanted, wish, wish_at}
use Rattle.crsm_law_examples.proofs.Opened.{the_model}
use Rattle.crsm_law_wishes.specs.Example.{ReplicasAreSuspected}
use Rattle.crsm_law_wishes.specs.Laws.{AreTurnsOf}
use Rattle.crsm_law_wishes.specs.Readings.{HearsFrom, IsLastWordOf, IsNow}

-- replica 0 of three, and a datagram of replica 1
abbrev booted : Replica
booted = (boot 0 3 []).replica

unfoldable word : List ℕ
word = datagram_bytes (Datagram.Ack 1 0 0 0)

abbrev turns : List (Turn × ℕ)
turns = (Turn.Tick, 0) ∷ (Turn.In 70 word, 4999999) ∷ (Turn.Tick, 5000000) ∷ (Turn.Suspect (0 ∷ 1 ∷ []), 5000001) ∷ []

are : AreTurnsOf booted turns
unfolding the_model word heard_in sender_of AreWished is_up_to is_wanted may_suspect should_be_members should_end suspects tick_is_due wanted wish wish_at
are = (tt, (tt, (tt, (refl, tt))))

from_one : heard_in (Turn.In 70 word) ≡ Some 1
unfolding the_model word heard_in sender_of
from_one = refl

no_word : (k : ℕ) → HearsFrom k Turn.Tick → ⊥
unfolding heard_in
no_word k h = none-some k h

now : IsNow turns 3 5000000
now = record { place = 2; turn = Turn.Tick; there = refl; of_kind = inl tt; none_later = later }
  where
    later : (q : ℕ) (t : Turn × ℕ) → 2 < q → slice_get (take 3 turns) q ≡ Some t → Unit {0} → ⊥
    later zero t lt at k = absurd (omega (arith, lt))
    later (suc zero) t lt at k = absurd (omega (arith, lt))
    later (suc (suc zero)) t lt at k = absurd (omega (arith, lt))
    later (suc (suc (suc q))) t lt at k = none-some t at

heard : IsLastWordOf turns 3 1 4999999
heard = record { place = 1; turn = Turn.In 70 word; there = refl; of_kind = inl from_one; none_later = later }
  where
    later : (q : ℕ) (t : Turn × ℕ) → 1 < q → slice_get (take 3 turns) q ≡ Some t → HearsFrom 1 t.0 → ⊥
    later zero t lt at k = absurd (omega (arith, lt))
    later (suc zero) t lt at k = absurd (omega (arith, lt))
    later (suc (suc zero)) t lt at k = no_word 1 (subst (λ (z : Turn × ℕ). HearsFrom 1 z.0) (sym (same_Some (Turn.Tick, 5000000) t at)) k)
    later (suc (suc (suc q))) t lt at k = none-some t at

silent : IsLastWordOf turns 3 2 0
silent = record { place = 0; turn = Turn.Tick; there = refl; of_kind = inr refl; none_later = later }
  where
    other : ◌≡◌ {A = Option ℕ} (Some 1) (Some 2) → ⊥
    other e = (let same = same_Some 1 2 e in absurd (omega (arith, same)))

    later : (q : ℕ) (t : Turn × ℕ) → 0 < q → slice_get (take 3 turns) q ≡ Some t → HearsFrom 2 t.0 → ⊥
    later zero t lt at k = absurd (omega (arith, lt))
    later (suc zero) t lt at k = other (sym from_one ∙ subst (λ (z : Turn × ℕ). HearsFrom 2 z.0) (sym (same_Some (Turn.In 70 word, 4999999) t at)) k)
    later (suc (suc zero)) t lt at k = no_word 2 (subst (λ (z : Turn × ℕ). HearsFrom 2 z.0) (sym (same_Some (Turn.Tick, 5000000) t at)) k)
    later (suc (suc (suc q))) t lt at k = none-some t at

pub replicas_suspected : ReplicasAreSuspected
replicas_suspected = record {
  replica = booted;
  turns = turns;
  are = are;
  suspects = record { reading = 5000001; there = refl };
  now = now;
  heard = heard;
  silent = silent;
}
