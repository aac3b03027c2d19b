-- The effect of a flush on the port: the reservation, and then the sends.
use Rattle.std.proofs.Common.{◌≡◌, ℕ, ◌≤◌, List, length, map, refl, sym, ◌∙◌, ap, subst}
use Rattle.std.specs.Prelude.{Option, Some, None, option_map}
use Rattle.crsm_port_faults.specs.Failing.{one_less}
use Rattle.crsm_port_faults.specs.Plan.{HasRoom, Plan}
use Rattle.crsm_port.specs.Meaning.{Meaning, Packet}
use Rattle.crsm_replica_io.specs.Outgoing.{GoesOut, SendsAll, bytes_in, raised_by, with_all_sent}
use Rattle.crsm_shell.specs.Flushing.{GoesWell, SendsPackets}

-- room is made, and the calls go as well as before
abbrev pub HasMade : ℕ → ℕ → Meaning → Meaning → Type 0
HasMade sends bytes old mid = (p : Plan) → old.plan ≡ Some p → (q : Plan) × (mid.plan ≡ Some q) × HasRoom sends bytes p q

well_some : (plan : Option Plan) → GoesWell plan → (p : Plan) × (plan ≡ Some p) × (p.good ≡ None)
well_some None h = absurd h
well_some (Some p) h = (p, refl, h)

module _ (packets : List Packet) (old mid new : Meaning) (same : mid ≡ record old { plan = mid.plan }) (room : HasMade (length packets) (bytes_in packets) old mid) where
  out_of : GoesOut packets mid new → GoesOut packets old new
  out_of o = record {
    out = o.out;
    missing = o.missing;
    lacks = o.lacks;
    counted = subst (λ (k : ℕ). raised_by o.missing k ≤ new.losses) (ap (λ (m : Meaning). m.losses) same) o.counted;
    traffic = o.traffic ∙ ap (λ (m : Meaning). option_map (with_all_sent (map m.framing.wrap o.out)) m.traffic) same;
  }

  whole_of : SendsAll packets mid new → GoesWell old.plan → (new.traffic ≡ option_map (with_all_sent (map old.framing.wrap packets)) old.traffic) × (new.losses ≡ old.losses) × GoesWell new.plan
  whole_of s well =
      let p = well_some old.plan well in
      let q = room p.0 p.1 in
      let none : q.0.good ≡ None = q.2.good ∙ p.2 in
      let w = s.whole q.0 q.1 none q.2.calls q.2.bytes in (
        w.traffic ∙ ap (λ (m : Meaning). option_map (with_all_sent (map m.framing.wrap packets)) m.traffic) same,
        w.losses ∙ ap (λ (m : Meaning). m.losses) same,
        subst GoesWell (sym w.plan) (ap one_less none),
      )

  pub sends_packets : SendsAll packets mid new → SendsPackets packets old new
  sends_packets s = record {
    faults = s.faults ∙ ap (λ (m : Meaning). m.faults) same;
    empties = s.empties ∙ ap (λ (m : Meaning). m.empties) same;
    too_long = s.too_long ∙ ap (λ (m : Meaning). m.too_long) same;
    later = subst (λ (k : ℕ). k ≤ new.losses) (ap (λ (m : Meaning). m.losses) same) s.later;
    framing = s.framing ∙ ap (λ (m : Meaning). m.framing) same;
    borrowed_as = s.borrowed_as ∙ ap (λ (m : Meaning). m.borrowed_as) same;
    out = out_of s.out;
    whole = whole_of s;
  }
