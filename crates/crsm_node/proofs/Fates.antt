-- Which part of the output is sent.
use Rattle.std.proofs.Common.{◌≡◌, inl, inr, ℕ, suc, ◌+◌, Bool, true, false, List, [], ◌∷◌, ◌++◌, length, refl, sym, ◌∙◌, ap, subst, arith, length-append}
use Rattle.std.proofs.lemmas.List.{append-nil}
use Rattle.std.proofs.lemmas.Grind.{flat_map-append}
use Rattle.std.specs.Prelude.{Option, Some, None, IsSome}
use Rattle.std.specs.List.{AllByRecursion, flat_map}
use Rattle.crsm_base.specs.declared.send.Send.{Send}
use Rattle.crsm_base.specs.Messages.{datagram_bytes}
use Rattle.crsm_spec.specs.Draft.{Draft}
use Rattle.crsm_spec.specs.Node.{Turn, outputs_from}
use Rattle.crsm_spec.specs.Replica.{Replica}
use Rattle.crsm_spec_process.specs.Lives.{Group, HaveFates, kept_turns}
use Rattle.crsm_spec_process.specs.Turns.{gone, not_gone, replica_after}
use Rattle.crsm_port.specs.Meaning.{Packet}
use Rattle.crsm_shell.specs.Shell.{sends_in, sends_of}
use Rattle.crsm_replica_io.specs.Outgoing.{Lacks, address_of, packet_for, packets_for, sent_packets}
use Rattle.crsm_node.specs.Sent.{AreAddressed, HasAddress, fates_of, handed_out, packets_gone, packets_missing, sends_from}
use Rattle.crsm_node.proofs.Groups.{all_append}
use Rattle.crsm_node.proofs.Turns.{kept_more, outputs_append, replica_append}

-- ---- packets

pub packets_append : (peers : List ℕ) (a b : List Send) → packets_for peers (a ++ b) ≡ packets_for peers a ++ packets_for peers b
unfolding packets_for
packets_append peers a b = flat_map-append (packet_for peers) a b

pub sends_append : (a b : List Draft) → sends_of (a ++ b) ≡ sends_of a ++ sends_of b
unfolding sends_of
sends_append a b = flat_map-append sends_in a b

-- ---- the fates of some sends

-- these are the fates of the output, if this number of packets are lost and these were sent
pub record AreFates (peers : List ℕ) (sends : List Send) (missing : ℕ) (out : List Packet) : Type 0 where
  pub fates : List Bool
  pub each : length fates ≡ length sends
  pub went : packets_for peers (gone sends fates) ≡ out
  pub lost : length (packets_for peers (not_gone sends fates)) ≡ missing
  pub addressed : AllByRecursion (HasAddress peers) (gone sends fates)

-- a send whose receiver has no address
unaddressed : (peers : List ℕ) (s : Send) (sends : List Send) (missing : ℕ) (out : List Packet) → address_of peers s.to ≡ None → AreFates peers sends missing out → AreFates peers (s ∷ sends) missing out
unfolding gone not_gone packets_for packet_for
unaddressed peers s sends missing out none f =
    record {
      fates = false ∷ f.fates;
      each = ap (λ n. suc n) f.each;
      went = f.went;
      lost = ap (λ (a : Option ℕ). length (sent_packets a (datagram_bytes s.datagram) ++ flat_map (packet_for peers) (not_gone sends f.fates))) none ∙ f.lost;
      addressed = f.addressed;
    }

went_out : (peers : List ℕ) (s : Send) (sends : List Send) (missing : ℕ) (out : List Packet) (a : ℕ) → address_of peers s.to ≡ Some a → AreFates peers sends missing out →
    AreFates peers (s ∷ sends) missing ((record { address = a; bytes = datagram_bytes s.datagram }) ∷ out)
unfolding gone not_gone packets_for packet_for
went_out peers s sends missing out a some f =
    record {
      fates = true ∷ f.fates;
      each = ap (λ n. suc n) f.each;
      went = ap (λ (x : Option ℕ). sent_packets x (datagram_bytes s.datagram) ++ flat_map (packet_for peers) (gone sends f.fates)) some
          ∙ ap (λ (ps : List Packet). (record { address = a; bytes = datagram_bytes s.datagram }) ∷ ps) f.went;
      lost = f.lost;
      addressed = (subst (λ (x : Option ℕ). IsSome x) (sym some) refl, f.addressed);
    }

was_lost : (peers : List ℕ) (s : Send) (sends : List Send) (missing : ℕ) (out : List Packet) (a : ℕ) → address_of peers s.to ≡ Some a → AreFates peers sends missing out →
    AreFates peers (s ∷ sends) (suc missing) out
unfolding gone not_gone packets_for packet_for
was_lost peers s sends missing out a some f =
    record {
      fates = false ∷ f.fates;
      each = ap (λ n. suc n) f.each;
      went = f.went;
      lost = ap (λ (x : Option ℕ). length (sent_packets x (datagram_bytes s.datagram) ++ flat_map (packet_for peers) (not_gone sends f.fates))) some ∙ ap (λ n. suc n) f.lost;
      addressed = f.addressed;
    }

abbrev Finds : List ℕ → List Send → Type 0
Finds peers sends = (missing : ℕ) (out : List Packet) → Lacks missing (packets_for peers sends) out → AreFates peers sends missing out

at_address : (peers : List ℕ) (s : Send) (sends : List Send) → Finds peers sends → (a : Option ℕ) → address_of peers s.to ≡ a → (missing : ℕ) (out : List Packet) →
    Lacks missing (sent_packets a (datagram_bytes s.datagram) ++ packets_for peers sends) out → AreFates peers (s ∷ sends) missing out
at_address peers s sends finds None none missing out lacks = unaddressed peers s sends missing out none (finds missing out lacks)
at_address peers s sends finds (Some a) some missing out (inl h) =
    subst (λ (ps : List Packet). AreFates peers (s ∷ sends) missing ps) (sym h.1) (went_out peers s sends missing h.0 a some (finds missing h.0 h.2))
at_address peers s sends finds (Some a) some missing out (inr h) =
    subst (λ (m : ℕ). AreFates peers (s ∷ sends) m out) (sym h.1) (was_lost peers s sends h.0 out a some (finds h.0 out h.2))

-- this number of packets are lost: there are fates that say which
pub fates_for : (peers : List ℕ) (sends : List Send) (missing : ℕ) (out : List Packet) → Lacks missing (packets_for peers sends) out → AreFates peers sends missing out
unfolding packets_for gone not_gone packet_for
fates_for peers [] missing out h = record { fates = []; each = refl; went = sym h.1; lost = sym h.0; addressed = tt }
fates_for peers (s ∷ sends) missing out h = at_address peers s sends (λ m o l. fates_for peers sends m o l) (address_of peers s.to) refl missing out h

-- ---- the fates of groups

gone_append : (a b : List Send) (f k : List Bool) → length f ≡ length a → gone (a ++ b) (f ++ k) ≡ gone a f ++ gone b k
unfolding gone
gone_append [] b [] k same = refl
gone_append [] b (x ∷ f) k same = absurd (omega (arith, same))
gone_append (s ∷ a) b [] k same = absurd (omega (arith, same))
gone_append (s ∷ a) b (true ∷ f) k same = ap (λ (xs : List Send). s ∷ xs) (gone_append a b f k (omega (arith, same)))
gone_append (s ∷ a) b (false ∷ f) k same = gone_append a b f k (omega (arith, same))

not_gone_append : (a b : List Send) (f k : List Bool) → length f ≡ length a → not_gone (a ++ b) (f ++ k) ≡ not_gone a f ++ not_gone b k
unfolding not_gone
not_gone_append [] b [] k same = refl
not_gone_append [] b (x ∷ f) k same = absurd (omega (arith, same))
not_gone_append (s ∷ a) b [] k same = absurd (omega (arith, same))
not_gone_append (s ∷ a) b (true ∷ f) k same = not_gone_append a b f k (omega (arith, same))
not_gone_append (s ∷ a) b (false ∷ f) k same = ap (λ (xs : List Send). s ∷ xs) (not_gone_append a b f k (omega (arith, same)))

pub handed_more : (r : Replica) (groups : List Group) (g : Group) → handed_out r (groups ++ g ∷ []) ≡ handed_out r groups ++ sends_of (outputs_from (replica_after r (kept_turns groups)) g.turns)
unfolding handed_out
handed_more r groups g =
    ap (λ (ts : List (Turn × ℕ)). sends_of (outputs_from r ts)) (kept_more groups g) ∙ ap sends_of (outputs_append r (kept_turns groups) g.turns)
    ∙ sends_append (outputs_from r (kept_turns groups)) (outputs_from (replica_after r (kept_turns groups)) g.turns)

pub fates_more : (groups : List Group) (g : Group) → fates_of (groups ++ g ∷ []) ≡ fates_of groups ++ g.fates
unfolding fates_of
fates_more groups g = flat_map-append (λ (x : Group). x.fates) groups (g ∷ []) ∙ ap (λ (fs : List Bool). flat_map (λ (x : Group). x.fates) groups ++ fs) (append-nil g.fates)

-- groups with fates for what each hands out have as many as they hand out together
pub fates_fit : (r : Replica) (groups : List Group) → HaveFates sends_from r groups → length (fates_of groups) ≡ length (handed_out r groups)
unfolding HaveFates fates_of handed_out kept_turns sends_of outputs_from
fates_fit r [] h = refl
fates_fit r (g ∷ groups) h =
    let rest : List (Turn × ℕ) = flat_map (λ (x : Group). x.turns) groups in
    let later = fates_fit (replica_after r g.turns) groups h.1 in
    let cut : flat_map sends_in (outputs_from r (g.turns ++ rest)) ≡ flat_map sends_in (outputs_from r g.turns) ++ flat_map sends_in (outputs_from (replica_after r g.turns) rest) =
    ap (flat_map sends_in) (outputs_append r g.turns rest) ∙ flat_map-append sends_in (outputs_from r g.turns) (outputs_from (replica_after r g.turns) rest) in
    let long = ap length cut ∙ length-append (flat_map sends_in (outputs_from r g.turns)) (flat_map sends_in (outputs_from (replica_after r g.turns) rest)) in
    let here = length-append g.fates (flat_map (λ (x : Group). x.fates) groups) in
    let first = h.0 in
    omega (arith, later, long, here, first)

pub have_fates_more : (r : Replica) (groups : List Group) (g : Group) → HaveFates sends_from r groups → length g.fates ≡ length (sends_of (outputs_from (replica_after r (kept_turns groups)) g.turns)) → HaveFates sends_from r (groups ++ g ∷ [])
unfolding HaveFates kept_turns replica_after
have_fates_more r [] g h is = (is, tt)
have_fates_more r (x ∷ groups) g h is = (
  h.0,
  have_fates_more (replica_after r x.turns) groups g h.1
      (is ∙ ap (λ (q : Replica). length (sends_of (outputs_from q g.turns))) (replica_append r x.turns (flat_map (λ (k : Group). k.turns) groups))),
)

module _ (peers : List ℕ) (r : Replica) (groups : List Group) (have : HaveFates sends_from r groups) (ts : List (Turn × ℕ)) (missing : ℕ) (out : List Packet)
    (f : AreFates peers (sends_of (outputs_from (replica_after r (kept_turns groups)) ts)) missing out) where
  abbrev sends : List Send
  sends = sends_of (outputs_from (replica_after r (kept_turns groups)) ts)

  abbrev pub with_group : List Group
  with_group = groups ++ (record { turns = ts; fates = f.fates }) ∷ []

  all_gone : gone (handed_out r with_group) (fates_of with_group) ≡ gone (handed_out r groups) (fates_of groups) ++ gone sends f.fates
  all_gone =
      ap (λ (xs : List Send). gone xs (fates_of with_group)) (handed_more r groups (record { turns = ts; fates = f.fates }))
      ∙ ap (λ (fs : List Bool). gone (handed_out r groups ++ sends) fs) (fates_more groups (record { turns = ts; fates = f.fates }))
      ∙ gone_append (handed_out r groups) sends (fates_of groups) f.fates (fates_fit r groups have)

  all_not_gone : not_gone (handed_out r with_group) (fates_of with_group) ≡ not_gone (handed_out r groups) (fates_of groups) ++ not_gone sends f.fates
  all_not_gone =
      ap (λ (xs : List Send). not_gone xs (fates_of with_group)) (handed_more r groups (record { turns = ts; fates = f.fates }))
      ∙ ap (λ (fs : List Bool). not_gone (handed_out r groups ++ sends) fs) (fates_more groups (record { turns = ts; fates = f.fates }))
      ∙ not_gone_append (handed_out r groups) sends (fates_of groups) f.fates (fates_fit r groups have)

  pub gone_more : packets_gone peers r with_group ≡ packets_gone peers r groups ++ out
  unfolding packets_gone
  gone_more =
      ap (packets_for peers) all_gone ∙ packets_append peers (gone (handed_out r groups) (fates_of groups)) (gone sends f.fates)
      ∙ ap (λ (ps : List Packet). packets_for peers (gone (handed_out r groups) (fates_of groups)) ++ ps) f.went

  pub missing_more : packets_missing peers r with_group ≡ packets_missing peers r groups + missing
  unfolding packets_missing
  missing_more =
      ap (λ (xs : List Send). length (packets_for peers xs)) all_not_gone
      ∙ ap length (packets_append peers (not_gone (handed_out r groups) (fates_of groups)) (not_gone sends f.fates))
      ∙ length-append (packets_for peers (not_gone (handed_out r groups) (fates_of groups))) (packets_for peers (not_gone sends f.fates))
      ∙ ap (λ n. length (packets_for peers (not_gone (handed_out r groups) (fates_of groups))) + n) f.lost

  pub addressed_more : AreAddressed peers r groups → AreAddressed peers r with_group
  addressed_more are =
      subst (λ (xs : List Send). AllByRecursion (HasAddress peers) xs) (sym all_gone)
      (all_append (HasAddress peers) (gone (handed_out r groups) (fates_of groups)) (gone sends f.fates) are f.addressed)
