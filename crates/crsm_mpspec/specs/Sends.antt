-- Messages to several replicas.
use Rattle.std.specs.Prelude.{ℕ, ◌==◌, not, List, [], ◌∷◌, map, filter}
use Rattle.crsm_spec.specs.Lists.{numbers_below}
use Rattle.crsm_mpspec.specs.declared.message.MpMessage.{MpMessage}
use Rattle.crsm_mpspec.specs.declared.send.MpSend.{MpSend}
use Rattle.crsm_mpspec.specs.declared.multicast.MpReceivers.{MpReceivers}
use Rattle.crsm_mpspec.specs.declared.multicast.MpMulticast.{MpMulticast}

-- the replicas below n but for me, ascending
abbrev pub others_below : (me n : ℕ) → List ℕ
others_below me n = filter (λ k. not (k == me)) (numbers_below n)

-- the receivers, ascending
abbrev pub receivers : MpReceivers → List ℕ
receivers (MpReceivers.One to) = to ∷ []
receivers (MpReceivers.Others me n) = others_below me n

-- the message to each of these
abbrev pub sends_to : MpMessage → List ℕ → List MpSend
sends_to m ks = map (λ k. record { to = k; message = m }) ks

-- the messages that a multicast is
abbrev pub sends_of : MpMulticast → List MpSend
sends_of m = sends_to m.message (receivers m.receivers)
