-- A turn of a node, unless it was forged, is an input that its replica can receive in a world that shows what was sent.
use Rattle.std.proofs.Common.{◌≡◌, ℕ, refl, sym, ◌∙◌, Bool, true, false}
use Rattle.crsm_base.specs.Messages.{FitsDatagram}
use Rattle.crsm_spec.specs.Types.{Datagram, Outcome, Refusal}
use Rattle.crsm_spec.specs.Lists.{Among}
use Rattle.crsm_spec.specs.Replica.{Replica}
use Rattle.crsm_spec.specs.Draft.{begun}
use Rattle.crsm_spec.specs.Frames.{is_astray}
use Rattle.crsm_spec.specs.Step.{Input, step}
use Rattle.crsm_spec.specs.World.{World}
use Rattle.crsm_law_steps.specs.Happenings.{WasSent, CanCome}
use Rattle.crsm_law_steps.specs.Happenings.CanCome.{IsPacket, IsCommand, IsReply, IsSuspicion}
use Rattle.crsm_fact_log.proofs.Tests.{not_astray}
use Rattle.crsm_law_cluster.specs.Clusters.{Cluster}
use Rattle.crsm_law_cluster.specs.Lawful.{IsGenuine, WasSentTo}
use Rattle.crsm_law_cluster.proofs.Same.{operate_is, frame_from, ack_from, part_from, frame_astray, ack_astray, part_astray}

-- the world shows what went out
abbrev pub ShowsSent : Cluster → World → Type 0
ShowsSent c w = (k : ℕ) (d : Datagram) → Among c.sent (k, d) → (j : ℕ) × WasSent w j k d

-- the step on this datagram is the step on an input that can come
pub record ComesAs (w : World) (k : ℕ) (r : Replica) (address : ℕ) (d : Datagram) (t : ℕ) : Type 0 where
  pub input : Input
  pub can : CanCome w k input
  pub is : step r (Input.Came address d) t ≡ step r input t

some_outcome : Outcome
some_outcome = Outcome.Refused Refusal.NotLive

begun_me : (r : Replica) → (begun r).replica.me ≡ r.me
unfolding begun
begun_me r = refl

module _ (c : Cluster) (w : World) (shows : ShowsSent c w) (k : ℕ) (r : Replica) (me : r.me ≡ k) (a t : ℕ) where
  -- what is not astray was sent; its address does not count
  sent : (from to : ℕ) (d : Datagram) → WasSentTo c k from to d → is_astray (begun r).replica from to ≡ false → (j : ℕ) × WasSent w j k d
  sent from to d was here =
      let n = not_astray (begun r).replica from to here in
      shows k d (was (n.1 ∙ begun_me r ∙ me) (λ e. n.0 (e ∙ sym me ∙ sym (begun_me r))))

  pub comes_as : (d : Datagram) → FitsDatagram d → IsGenuine c k d → ComesAs w k r a d t
  comes_as (Datagram.Frame from to e seq p) fits was = go (is_astray (begun r).replica from to) refl
    where
      go : (b : Bool) → is_astray (begun r).replica from to ≡ b → ComesAs w k r a (Datagram.Frame from to e seq p) t
      go true is = record { input = Input.Came a (Datagram.Reply 0 0 some_outcome); can = IsReply a 0 0 some_outcome; is = frame_astray r a from to e seq p t some_outcome is }
      go false is = let s = sent from to (Datagram.Frame from to e seq p) was is in
          record { input = Input.Came s.0 (Datagram.Frame from to e seq p); can = IsPacket s.0 (Datagram.Frame from to e seq p) s.1; is = frame_from r a s.0 from to e seq p t }
  comes_as (Datagram.Ack from to e next) fits was = go (is_astray (begun r).replica from to) refl
    where
      go : (b : Bool) → is_astray (begun r).replica from to ≡ b → ComesAs w k r a (Datagram.Ack from to e next) t
      go true is = record { input = Input.Came a (Datagram.Reply 0 0 some_outcome); can = IsReply a 0 0 some_outcome; is = ack_astray r a from to e next t some_outcome is }
      go false is = let s = sent from to (Datagram.Ack from to e next) was is in
          record { input = Input.Came s.0 (Datagram.Ack from to e next); can = IsPacket s.0 (Datagram.Ack from to e next) s.1; is = ack_from r a s.0 from to e next t }
  comes_as (Datagram.Part from to boot number index count bytes) fits was = go (is_astray (begun r).replica from to) refl
    where
      d : Datagram
      d = Datagram.Part from to boot number index count bytes

      go : (b : Bool) → is_astray (begun r).replica from to ≡ b → ComesAs w k r a (Datagram.Part from to boot number index count bytes) t
      go true is = record { input = Input.Came a (Datagram.Reply 0 0 some_outcome); can = IsReply a 0 0 some_outcome; is = part_astray r a from to boot number index count bytes t some_outcome is }
      go false is = let s = sent from to (Datagram.Part from to boot number index count bytes) was is in
          record { input = Input.Came s.0 (Datagram.Part from to boot number index count bytes); can = IsPacket s.0 (Datagram.Part from to boot number index count bytes) s.1; is = part_from r a s.0 from to boot number index count bytes t }
  comes_as (Datagram.Request command) fits was = record { input = Input.Came a (Datagram.Request command); can = IsCommand a command fits; is = refl }
  comes_as (Datagram.Reply client number told) fits was = record { input = Input.Came a (Datagram.Reply client number told); can = IsReply a client number told; is = refl }
  comes_as (Datagram.Operate members) fits was = record { input = Input.Suspected members; can = IsSuspicion members fits; is = operate_is r a members t }
