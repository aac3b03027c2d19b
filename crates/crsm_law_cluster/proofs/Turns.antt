-- A turn is a step on its input, which is a request if its bytes are one, or it changes nothing.
use Rattle.std.proofs.Common.{◌≡◌, ℕ, List, [], refl, ◌∙◌, ap}
use Rattle.std.specs.Prelude.{Option, Some, None, option_map}
use Rattle.std.specs.Option.{option_map_or}
use Rattle.std.proofs.lemmas.Option.{none-some, same_Some}
use Rattle.crsm_base.specs.MessageReading.{datagram_of}
use Rattle.crsm_spec.specs.Types.{Stamp, Command, Datagram}
use Rattle.crsm_spec.specs.Replica.{Replica}
use Rattle.crsm_spec.specs.Draft.{begun}
use Rattle.crsm_spec.specs.Step.{Input, step}
use Rattle.crsm_spec.specs.Node.{Turn, input_of, turn}
use Rattle.crsm_law_cluster.proofs.Logging.{Logs, nothing_logged, step_logs}
use Rattle.crsm_law_cluster.proofs.Balance.{Balanced, step_balanced}

-- the turn takes the bytes of a request of this command from this address
pub record Asks (t : Turn) (a : ℕ) (c : Command) : Type 0 where
  pub bytes : List ℕ
  pub is : t ≡ Turn.In a bytes
  pub asks : datagram_of bytes ≡ Some (Datagram.Request c)

asks_for : (t : Turn) (a : ℕ) (c : Command) → input_of t ≡ Some (Input.Came a (Datagram.Request c)) → Asks t a c
unfolding input_of
asks_for (Turn.In b bytes) a c e = go (datagram_of bytes) refl e
  where
    go : (o : Option Datagram) → datagram_of bytes ≡ o → option_map (Input.Came b) o ≡ Some (Input.Came a (Datagram.Request c)) → Asks (Turn.In b bytes) a c
    go None is q = absurd (none-some _ q)
    go (Some d) is q = record { bytes = bytes; is = ap (λ z. Turn.In z bytes) (same_address d (same_Some _ _ q)); asks = is ∙ ap (λ z. Some z) (same_request d (same_Some _ _ q)) }
      where
        same_address : (d : Datagram) → Input.Came b d ≡ Input.Came a (Datagram.Request c) → b ≡ a
        same_address d q = cc

        same_request : (d : Datagram) → Input.Came b d ≡ Input.Came a (Datagram.Request c) → d ≡ Datagram.Request c
        same_request d q = cc
asks_for Turn.Tick a c e = absurd (cc)
asks_for (Turn.Suspect ms) a c e = absurd (cc)

module _ (r : Replica) (t : Turn) (reading : ℕ) where
  pub turn_logs : Logs r (Asks t) (turn r (t, reading))
  unfolding turn
  turn_logs = go (input_of t) refl
    where
      go : (o : Option Input) → input_of t ≡ o → Logs r (Asks t) (option_map_or (λ i. step r i reading) o (begun r))
      go None is = nothing_logged r (Asks t)
      go (Some i) is = step_logs r i reading (Asks t) (λ a c e. asks_for t a c (is ∙ ap (λ z. Some z) e))

  pub turn_balanced : (epoch : ℕ) (stamp : Stamp) (before most : ℕ) → Balanced r (Asks t) epoch stamp before most (begun r) [] → Balanced r (Asks t) epoch stamp before most (turn r (t, reading)) []
  unfolding turn
  turn_balanced epoch stamp before most h = go (input_of t) refl
    where
      go : (o : Option Input) → input_of t ≡ o → Balanced r (Asks t) epoch stamp before most (option_map_or (λ i. step r i reading) o (begun r)) []
      go None is = h
      go (Some i) is = step_balanced r (Asks t) epoch stamp before most i reading (λ a c e. asks_for t a c (is ∙ ap (λ z. Some z) e)) h
