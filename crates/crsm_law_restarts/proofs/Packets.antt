-- What a node's port sent, and what a process sends in a history.
use Rattle.std.proofs.Common.{◌≡◌, ℕ, Bool, true, false, List, [], ◌∷◌, ◌++◌, length, map, refl, sym, ◌∙◌, ap, arith}
use Rattle.std.specs.List.{flat_map}
use Rattle.std.proofs.lemmas.Grind.{flat_map-append}
use Rattle.std.proofs.lemmas.List.{length-map, map-append}
use Rattle.crsm_base.specs.declared.send.Send.{Send}
use Rattle.crsm_spec.specs.Types.{Datagram}
use Rattle.crsm_spec.specs.Draft.{Draft, Reply}
use Rattle.crsm_spec.specs.Replica.{Replica}
use Rattle.crsm_spec.specs.Step.{boot}
use Rattle.crsm_spec.specs.Node.{Turn, outputs_from, turn}
use Rattle.crsm_spec_process.specs.Lives.{Group, HaveFates, before_last, kept_turns}
use Rattle.crsm_spec_process.specs.Turns.{gone, replica_after}
use Rattle.crsm_shell.specs.Shell.{sends_in, sends_of}
use Rattle.crsm_replica_io.specs.Outgoing.{packets_for}
use Rattle.crsm_replica_output.specs.Made.{to_address, to_replica}
use Rattle.crsm_law_cluster.specs.Clusters.{Outgoing, outgoing_of}
use Rattle.crsm_law_lives.specs.Sending.{handed_by, sent_by, sent_from}
use Rattle.crsm_node.specs.Sent.{fates_of, handed_out, packets_gone, sends_from}
use Rattle.crsm_law_restarts.specs.Laws.{PacketsAreTheirs, send_of}

-- ---- what is handed out

of_replicas : (sends : List (ℕ × Datagram)) → map to_replica sends ≡ map send_of (map (λ s. Outgoing.ToReplica s.0 s.1) sends)
unfolding send_of
of_replicas [] = refl
of_replicas (s ∷ sends) = ap (λ (xs : List Send). to_replica s ∷ xs) (of_replicas sends)

of_clients : (replies : List Reply) → map to_address replies ≡ map send_of (map Outgoing.ToClient replies)
unfolding send_of
of_clients [] = refl
of_clients (a ∷ replies) = ap (λ (xs : List Send). to_address a ∷ xs) (of_clients replies)

of_step : (x : Draft) → sends_in x ≡ map send_of (outgoing_of x)
unfolding sends_in outgoing_of
of_step x =
    ap (λ (xs : List Send). xs ++ map to_address x.replies) (of_replicas x.sends)
    ∙ ap (λ (xs : List Send). map send_of (map (λ s. Outgoing.ToReplica s.0 s.1) x.sends) ++ xs) (of_clients x.replies)
    ∙ sym (map-append send_of (map (λ s. Outgoing.ToReplica s.0 s.1) x.sends) (map Outgoing.ToClient x.replies))

of_steps : (xs : List Draft) → sends_of xs ≡ map send_of (flat_map outgoing_of xs)
unfolding sends_of
of_steps [] = refl
of_steps (x ∷ xs) =
    ap (λ (s : List Send). s ++ flat_map sends_in xs) (of_step x) ∙ ap (λ (s : List Send). map send_of (outgoing_of x) ++ s) (of_steps xs)
    ∙ sym (map-append send_of (outgoing_of x) (flat_map outgoing_of xs))

pub of_turns : (r : Replica) (ts : List (Turn × ℕ)) → sends_of (outputs_from r ts) ≡ map send_of (handed_by r ts)
unfolding handed_by
of_turns r ts = of_steps (outputs_from r ts)

-- ---- fates

as_many : (r : Replica) (ts : List (Turn × ℕ)) → length (sends_of (outputs_from r ts)) ≡ length (handed_by r ts)
as_many r ts = ap length (of_turns r ts) ∙ length-map (handed_by r ts) send_of

-- what a node hands out has as many fates as what a history sends
pub have_fates : (r : Replica) (gs : List Group) → HaveFates sends_from r gs → HaveFates handed_by r (before_last gs)
unfolding HaveFates before_last
have_fates r [] h = tt
have_fates r (g ∷ []) h = tt
have_fates r (g ∷ x ∷ gs) h = (h.0 ∙ as_many r g.turns, have_fates (replica_after r g.turns) (x ∷ gs) h.1)

-- so have they where one group more is kept, of which nothing was sent
pub have_fates_more : (r : Replica) (gs : List Group) (ts : List (Turn × ℕ)) → HaveFates sends_from r gs → HaveFates handed_by r (before_last (gs ++ record { turns = ts; fates = [] } ∷ []))
unfolding HaveFates before_last
have_fates_more r [] ts h = tt
have_fates_more r (g ∷ []) ts h = (h.0 ∙ as_many r g.turns, tt)
have_fates_more r (g ∷ x ∷ gs) ts h = (h.0 ∙ as_many r g.turns, have_fates_more (replica_after r g.turns) (x ∷ gs) ts h.1)

-- ---- what goes out

gone_both : (a b : List Send) (f k : List Bool) → length f ≡ length a → gone (a ++ b) (f ++ k) ≡ gone a f ++ gone b k
unfolding gone
gone_both [] b [] k same = refl
gone_both [] b (x ∷ f) k same = absurd (omega (arith, same))
gone_both (s ∷ a) b [] k same = absurd (omega (arith, same))
gone_both (s ∷ a) b (true ∷ f) k same = ap (λ (xs : List Send). s ∷ xs) (gone_both a b f k (omega (arith, same)))
gone_both (s ∷ a) b (false ∷ f) k same = gone_both a b f k (omega (arith, same))

gone_map : (os : List Outgoing) (fates : List Bool) → gone (map send_of os) fates ≡ map send_of (gone os fates)
unfolding gone
gone_map [] fates = refl
gone_map (o ∷ os) [] = refl
gone_map (o ∷ os) (true ∷ fates) = ap (λ (xs : List Send). send_of o ∷ xs) (gone_map os fates)
gone_map (o ∷ os) (false ∷ fates) = gone_map os fates

turns_both : (r : Replica) (ts us : List (Turn × ℕ)) → outputs_from r (ts ++ us) ≡ outputs_from r ts ++ outputs_from (replica_after r ts) us
unfolding outputs_from replica_after
turns_both r [] us = refl
turns_both r (t ∷ ts) us = ap (λ (xs : List Draft). turn r t ∷ xs) (turns_both (turn r t).replica ts us)

handed_both : (r : Replica) (ts us : List (Turn × ℕ)) → sends_of (outputs_from r (ts ++ us)) ≡ sends_of (outputs_from r ts) ++ sends_of (outputs_from (replica_after r ts) us)
unfolding sends_of
handed_both r ts us = ap (flat_map sends_in) (turns_both r ts us) ∙ flat_map-append sends_in (outputs_from r ts) (outputs_from (replica_after r ts) us)

pub all_gone : (r : Replica) (gs : List Group) → HaveFates sends_from r gs → gone (handed_out r gs) (fates_of gs) ≡ map send_of (sent_from r gs)
unfolding HaveFates handed_out fates_of kept_turns sent_from sends_of outputs_from gone
all_gone r [] h = refl
all_gone r (g ∷ gs) h =
    let later : List (Turn × ℕ) = flat_map (λ (x : Group). x.turns) gs in
    let fates : List Bool = flat_map (λ (x : Group). x.fates) gs in
    ap (λ (xs : List Send). gone xs (g.fates ++ fates)) (handed_both r g.turns later)
    ∙ gone_both (sends_of (outputs_from r g.turns)) (sends_of (outputs_from (replica_after r g.turns) later)) g.fates fates h.0
    ∙ ap (λ (xs : List Send). gone xs g.fates ++ gone (sends_of (outputs_from (replica_after r g.turns) later)) fates) (of_turns r g.turns)
    ∙ ap (λ (xs : List Send). xs ++ gone (sends_of (outputs_from (replica_after r g.turns) later)) fates) (gone_map (handed_by r g.turns) g.fates)
    ∙ ap (λ (xs : List Send). map send_of (gone (handed_by r g.turns) g.fates) ++ xs) (all_gone (replica_after r g.turns) gs h.1)
    ∙ sym (map-append send_of (gone (handed_by r g.turns) g.fates) (sent_from (replica_after r g.turns) gs))

pub packets_are_theirs : PacketsAreTheirs
unfolding packets_gone sent_by
packets_are_theirs n peers l h = ap (packets_for peers) (all_gone (boot l.me n l.found).replica l.groups h)
