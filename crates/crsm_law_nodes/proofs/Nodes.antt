-- Nodes as the program runs them.
use Rattle.std.proofs.Common.{◌≡◌, ℕ, zero, suc, List, [], ◌∷◌, ◌++◌, refl, subst, inl, inr, arith}
use Rattle.std.specs.Prelude.{Some}
use Rattle.std.specs.List.{AllByRecursion}
use Rattle.crsm_base.specs.MessageReading.{datagram_of}
use Rattle.crsm_spec.specs.Types.{Datagram}
use Rattle.crsm_spec.specs.Lists.{Among, IsPrefixOf}
use Rattle.crsm_spec.specs.Draft.{Draft}
use Rattle.crsm_spec.specs.Replica.{Replica}
use Rattle.crsm_spec.specs.Step.{boot}
use Rattle.crsm_spec.specs.Node.{Turn, turn, outputs_from, outputs}
use Rattle.crsm_schedule.specs.Transcript.{line_text}
use Rattle.crsm_wire.specs.Inverse.{AreBytes}
use Rattle.crsm_port_peers.specs.Laws.{SendersAreNamed}
use Rattle.crsm_replica_rerun.specs.Laws.{SheetsHaveOneText}
use Rattle.crsm_replica_rerun.specs.Sheets.{IsSheet}
use Rattle.crsm_replica_rerun.specs.Texts.{IsNodeText, ending_of, shown_text}
use Rattle.crsm_spec_process.specs.Lives.{Life, kept_turns, kept_steps}
use Rattle.crsm_law_cluster.specs.Clusters.{Event, Cluster}
use Rattle.crsm_law_cluster.specs.Lawful.{IsByte}
use Rattle.crsm_law_cluster.specs.Going.{IsAt}
use Rattle.crsm_law_lives.specs.Events.{AreEventsOf}
use Rattle.crsm_law_lives.specs.Premises.{IsProcess, SpeaksTrue, NobodyForges}
use Rattle.crsm_law_lives.specs.Laws.{StepsAreRight}
use Rattle.crsm_law_lives.proofs.Laws.{turns_of, got_among}
use Rattle.crsm_law_nodes.specs.Addresses.{AreOwn, NobodyBorrows, AddressesSuffice}
use Rattle.crsm_law_nodes.specs.Sheets.{SheetsAreRight}

-- ---- addresses

are_bytes : (bytes : List ℕ) → AllByRecursion IsByte bytes → AreBytes bytes
are_bytes [] h i = omega arith
are_bytes (b ∷ bytes) h zero = h.0
are_bytes (b ∷ bytes) h (suc i) = are_bytes bytes h.1 i

module _ (named : SendersAreNamed) (n : ℕ) (ls : List Life) (h : List Event) (peers : List ℕ) (are : AreEventsOf ls h) (ps : AllByRecursion IsProcess ls) (own : AreOwn peers h) (net : NobodyBorrows peers n h) where
  small : (i k address reading : ℕ) (bytes : List ℕ) (c : Cluster) → IsAt n h i c (Event.Takes k (Turn.In address bytes) reading) → AreBytes bytes
  small i k address reading bytes c at = are_bytes bytes (turns_of ls h are ps k (Turn.In address bytes) reading (got_among h i _ at.event)).1

  true_of : (i k address reading : ℕ) (bytes : List ℕ) (c : Cluster) (d : Datagram) → IsAt n h i c (Event.Takes k (Turn.In address bytes) reading) → datagram_of bytes ≡ Some d → SpeaksTrue n h i k d
  true_of i k address reading bytes c (Datagram.Frame from to epoch seq payload) at is = λ here ne.
      net i from k address reading bytes c _ at (own i k address reading bytes at.event from (named bytes _ from (small i k address reading bytes c at) is refl)) is (refl, here)
  true_of i k address reading bytes c (Datagram.Ack from to epoch next) at is = λ here ne.
      net i from k address reading bytes c _ at (own i k address reading bytes at.event from (named bytes _ from (small i k address reading bytes c at) is refl)) is (refl, here)
  true_of i k address reading bytes c (Datagram.Part from to boot number index count body) at is = λ here ne.
      net i from k address reading bytes c _ at (own i k address reading bytes at.event from (named bytes _ from (small i k address reading bytes c at) is refl)) is (refl, here)
  true_of i k address reading bytes c (Datagram.Request command) at is = tt
  true_of i k address reading bytes c (Datagram.Reply client number told) at is = tt
  true_of i k address reading bytes c (Datagram.Operate members) at is = tt

  pub nobody_forges : NobodyForges n h
  nobody_forges i k address reading bytes c d at is = true_of i k address reading bytes c d at is

pub addresses_suffice : SendersAreNamed → AddressesSuffice
addresses_suffice named n ls h peers are ps disk own net = record { are = are; processes = ps; disk = disk; network = nobody_forges named n ls h peers are ps own net }

-- ---- sheets

-- the steps of the first turns are the first steps
first_among : (r : Replica) (ts us : List (Turn × ℕ)) (x : Draft) → Among (outputs_from r ts) x → Among (outputs_from r (ts ++ us)) x
unfolding outputs_from
first_among r [] us x a = absurd a
first_among r (t ∷ ts) us x (inl e) = inl e
first_among r (t ∷ ts) us x (inr a) = inr (first_among (turn r t).replica ts us x a)

first_steps : (n : ℕ) (l : Life) (ts : List (Turn × ℕ)) → IsPrefixOf ts (kept_turns l.groups) → (x : Draft) → Among (outputs l.me n l.found ts) x → Among (kept_steps n l) x
unfolding outputs kept_steps
first_steps n l ts p x (inl e) = inl e
first_steps n l ts p x (inr a) = inr (subst (λ us. Among (outputs_from (boot l.me n l.found).replica us) x) p.1 (first_among (boot l.me n l.found).replica ts p.0 x a))

pub sheets_are_right : SheetsHaveOneText → StepsAreRight → SheetsAreRight
sheets_are_right one right n ls h few r short l m lines s first text t =
    let sheet : IsSheet l.me n lines = record { bodies = s.bodies; turns = s.turns; log = l.found; is = s.is; kept = s.kept } in
    let final = line_text 0 (ending_of sheet) in
    let steps = outputs l.me n l.found s.turns in
    let same_text : IsNodeText l.me n first lines (shown_text first lines steps ++ final) = record { sheet = sheet; is = refl } in
    record {
      steps = steps;
      final = final;
      is = one l.me n first lines text (shown_text first lines steps ++ final) t same_text;
      right = λ x a. right n ls h few r short l m x (first_steps n l s.turns s.prefix x a);
    }
