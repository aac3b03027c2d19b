-- The datagrams of groups of turns, and which of them are sent.
use Rattle.std.specs.Prelude.{ℕ, Bool, List, [], ◌∷◌, length, IsSome}
use Rattle.std.specs.List.{AllByRecursion, flat_map}
use Rattle.crsm_base.specs.declared.send.Send.{Send}
use Rattle.crsm_spec.specs.Draft.{Draft}
use Rattle.crsm_spec.specs.Node.{Turn, outputs_from}
use Rattle.crsm_spec.specs.Replica.{Replica}
use Rattle.crsm_spec_process.specs.Lives.{Group, kept_turns}
use Rattle.crsm_spec_process.specs.Turns.{gone, not_gone, replica_after}
use Rattle.crsm_port.specs.Meaning.{Packet}
use Rattle.crsm_shell.specs.Shell.{sends_of}
use Rattle.crsm_replica_io.specs.Outgoing.{address_of, packets_for}

-- the steps of each of these lists of turns, of which this replica takes the first
unfoldable pub steps_by_group : Replica → List (List (Turn × ℕ)) → List (List Draft)
steps_by_group r [] = []
steps_by_group r (turns ∷ groups) = outputs_from r turns ∷ steps_by_group (replica_after r turns) groups

-- the output of turns, in order
abbrev pub sends_from : Replica → List (Turn × ℕ) → List Send
sends_from r turns = sends_of (outputs_from r turns)

-- the output of the turns of groups, in order, and the fate of each
unfoldable pub handed_out : Replica → List Group → List Send
handed_out r groups = sends_from r (kept_turns groups)

unfoldable pub fates_of : List Group → List Bool
fates_of groups = flat_map (λ g. g.fates) groups

-- its receiver has an address
abbrev pub HasAddress : List ℕ → Send → Type 0
HasAddress peers s = IsSome (address_of peers s.to)

-- the datagrams of groups that went out
unfoldable pub packets_gone : List ℕ → Replica → List Group → List Packet
packets_gone peers r groups = packets_for peers (gone (handed_out r groups) (fates_of groups))

-- how many did not, of those that have an address
unfoldable pub packets_missing : List ℕ → Replica → List Group → ℕ
packets_missing peers r groups = length (packets_for peers (not_gone (handed_out r groups) (fates_of groups)))

-- all that was sent has an address
abbrev pub AreAddressed : List ℕ → Replica → List Group → Type 0
AreAddressed peers r groups = AllByRecursion (HasAddress peers) (gone (handed_out r groups) (fates_of groups))
