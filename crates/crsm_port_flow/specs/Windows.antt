-- The frames of each link that were sent and are not acknowledged.
use Rattle.std.specs.Prelude.{◌≡◌, ◌⊎◌, ◌+◌, ◌-◌, ◌*◌, ◌<◌, ◌≤◌, ◌==◌, if◌then◌else◌, ℕ, Bool, List, true, min, nat_lt, replicate, slice_index_or, slice_set}
use Rattle.std.specs.List.{list_any}
use Rattle.crsm_port_flow.specs.Early.{after}
use Rattle.crsm_port_flow.specs.Heads.{HasHead}
use Rattle.crsm_port_flow.specs.Taken.{IsPeer}
use Rattle.crsm_port_flow.specs.Went.{IsRecent}
use Rattle.crsm_port_flow.specs.declared.hearing.Peer.{Peer}
use Rattle.crsm_port_flow.specs.declared.window.Link.{Link}
use Rattle.crsm_port_flow.specs.declared.window.Window.{Window}

-- the frames of a link that are under way: sent, and not acknowledged
abbrev pub under_way : Link → ℕ
under_way link = link.sent - link.acknowledged

-- the most frames of a link under way at which requests go up: 64 for each member, that is each link with frames and this node, and 128
abbrev pub most_under_way : Window → ℕ
most_under_way w = 64 * (min w.used 15 + 1) + 128

-- whether more than `most` frames are under way on one of the links
abbrev pub has_past : ℕ → List Link → Bool
has_past most links = list_any (λ link. nat_lt most (under_way link)) links

-- a peer is behind: more frames to it are under way, in the newest epoch, than may be while requests go up, and less than a second ago one to any peer was acknowledged, or the first of a link's that are under way was sent
abbrev pub IsBehind : ℕ → Window → Type 0
IsBehind now w = IsRecent w.since now 1_000_000 × (has_past (most_under_way w) w.links ≡ true)

-- ---- what a window counts

-- the links of an epoch of which no frame was sent
abbrev pub new_window : ℕ → Window
new_window epoch = record { epoch = epoch; links = replicate 15 (record { sent = 0; acknowledged = 0 }); used = 0; since = 0 }

-- the link to a replica
abbrev pub link_of : Window → ℕ → Link
link_of w to = slice_index_or w.links to (record { sent = 0; acknowledged = 0 })

-- the window once a frame is sent on a link
abbrev pub with_sent : ℕ → ℕ → ℕ → Window → Window
with_sent to number now w = record w {
  links = slice_set w.links to (record { sent = after number; acknowledged = (link_of w to).acknowledged });
  used = (if (link_of w to).sent == 0 then after w.used else w.used);
  since = (if under_way (link_of w to) == 0 then now else w.since);
}

-- a frame of the window's epoch is sent on a link, which is no earlier one
abbrev pub SendsNext : ℕ → ℕ → ℕ → Window → Window → Type 0
SendsNext to number now old new = (to < 15) × ((link_of old to).sent ≤ number) × (new ≡ with_sent to number now old)

-- it is sent so, or is an earlier one or on no link, and nothing changes
abbrev pub SendsIn : ℕ → ℕ → ℕ → Window → Window → Type 0
SendsIn to number now old new = SendsNext to number now old new ⊎ (new ≡ old)

-- a frame is sent: of the newest epoch it counts, and where that is a newer one than before, it is the first
abbrev pub CountsSent : (to epoch number now : ℕ) → Window → Window → Type 0
CountsSent to epoch number now old new = ((epoch ≡ old.epoch) × SendsIn to number now old new) ⊎ (((old.epoch < epoch) × SendsIn to number now (new_window epoch) new) ⊎ (new ≡ old))

-- a number that a replica expects is acknowledged, where it is one of those that were sent and are not; otherwise nothing changes
abbrev pub CountsExpected : (from epoch next now : ℕ) → Window → Window → Type 0
CountsExpected from epoch next now old new =
    ((epoch ≡ old.epoch) × (from < 15) × ((link_of old from).acknowledged < next) × (next ≤ (link_of old from).sent)
    × (new ≡ record old { links = slice_set old.links from (record { sent = (link_of old from).sent; acknowledged = next }); since = now }))
    ⊎ (new ≡ old)

-- what is sent counts in the window if it is a frame
abbrev pub WindowSends : List ℕ → ℕ → Window → Window → Type 0
WindowSends bytes now old new = ((from to epoch number : ℕ) × HasHead 1 from to epoch number bytes × CountsSent to epoch number now old new) ⊎ (new ≡ old)

-- what comes counts in it if it is an acknowledgement
abbrev pub WindowHears : List ℕ → ℕ → Window → Window → Type 0
WindowHears bytes now old new = ((from to epoch number : ℕ) × HasHead 2 from to epoch number bytes × CountsExpected from epoch number now old new) ⊎ (new ≡ old)

-- and comes from a peer
abbrev pub WindowTakes : ℕ → List ℕ → ℕ → List Peer → Window → Window → Type 0
WindowTakes from bytes now peers old new = (IsPeer from peers × WindowHears bytes now old new) ⊎ (new ≡ old)
