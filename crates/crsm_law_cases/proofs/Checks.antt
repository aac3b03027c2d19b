-- The parts of a worked history that are checked by computation.
use Rattle.std.proofs.Common.{◌≡◌, ℕ, zero, suc, ◌<◌, ◌≤◌, List, [], ◌∷◌, length, refl, subst, Bool, true, false, cond, arith}
use Rattle.std.specs.Prelude.{◌^◌, nat_lt, nat_le, Some, slice_get}
use Rattle.std.specs.List.{AllByRecursion}
use Rattle.std.specs.Option.{option_map_or}
use Rattle.std.proofs.lemmas.Bool.{ltb-true, leb-true, false≢true}
use Rattle.std.proofs.lemmas.Option.{same_Some}
use Rattle.crsm_base.specs.MessageReading.{datagram_of}
use Rattle.crsm_spec.specs.Types.{Command, Datagram}
use Rattle.crsm_spec.specs.Lists.{Among}
use Rattle.crsm_spec.specs.Node.{Turn}
use Rattle.crsm_law_cluster.specs.Clusters.{Event, Host, Cluster, empty_host, host_at, log_in}
use Rattle.crsm_law_cluster.specs.Lawful.{IsByte, IsGenuine, MayHappen}
use Rattle.crsm_law_cluster.specs.HistoryLaws.{HasShortLogs}

-- ---- checks

unfoldable pub all_bytes : List ℕ → Bool
all_bytes [] = true
all_bytes (b ∷ bs) = cond (nat_lt b 256) (all_bytes bs) false

pub are_bytes : (bs : List ℕ) → all_bytes bs ≡ true → AllByRecursion IsByte bs
unfolding all_bytes
are_bytes [] e = tt
are_bytes (b ∷ bs) e = go (nat_lt b 256) refl e (are_bytes bs)
  where
    go : (c : Bool) → nat_lt b 256 ≡ c → cond c (all_bytes bs) false ≡ true → (all_bytes bs ≡ true → AllByRecursion IsByte bs) → AllByRecursion IsByte (b ∷ bs)
    go true lt e rest = (ltb-true b 256 lt, rest e)
    go false lt e rest = absurd (false≢true e)

unfoldable pub all_short : List Host → Bool
all_short [] = true
all_short (p ∷ ps) = cond (nat_le (length p.log) (2 ^ 50)) (all_short ps) false

abbrev IsShortAt : List Host → ℕ → Type 0
IsShortAt ps k = length (option_map_or (λ (p : Host). p) (slice_get ps k) empty_host).log ≤ 2 ^ 50

are_short : (ps : List Host) → all_short ps ≡ true → (k : ℕ) → IsShortAt ps k
unfolding all_short empty_host
are_short [] e k = omega arith
are_short (p ∷ ps) e k = go (nat_le (length p.log) (2 ^ 50)) refl e k (are_short ps)
  where
    go : (c : Bool) → nat_le (length p.log) (2 ^ 50) ≡ c → cond c (all_short ps) false ≡ true → (k : ℕ) → (all_short ps ≡ true → (k : ℕ) → IsShortAt ps k) → IsShortAt (p ∷ ps) k
    go true le e zero rest = leb-true (length p.log) (2 ^ 50) le
    go true le e (suc k) rest = rest e k
    go false le e k rest = absurd (false≢true e)

pub short_cluster : (c : Cluster) → all_short c.hosts ≡ true → HasShortLogs c
unfolding log_in host_at
short_cluster c e k = are_short c.hosts e k

pub asks : (c : Cluster) (k address reading : ℕ) (bytes : List ℕ) (command : Command) → reading < 2 ^ 64 → all_bytes bytes ≡ true → datagram_of bytes ≡ Some (Datagram.Request command) → MayHappen c (Event.Takes k (Turn.In address bytes) reading)
asks c k address reading bytes command lt small is = (lt, (are_bytes bytes small, λ d e. genuine d (same_Some (Datagram.Request command) d (subst (λ o. o ≡ Some d) is e))))
  where
    genuine : (d : Datagram) → Datagram.Request command ≡ d → IsGenuine c k d
    genuine d e = subst (IsGenuine c k) e tt

-- what was sent can be taken
genuine_if_sent : (c : Cluster) (k : ℕ) (d : Datagram) → Among c.sent (k, d) → IsGenuine c k d
genuine_if_sent c k (Datagram.Frame from to epoch seq payload) a = λ is ne. a
genuine_if_sent c k (Datagram.Ack from to epoch next) a = λ is ne. a
genuine_if_sent c k (Datagram.Part from to boot number index count bytes) a = λ is ne. a
genuine_if_sent c k (Datagram.Request command) a = tt
genuine_if_sent c k (Datagram.Reply client number told) a = tt
genuine_if_sent c k (Datagram.Operate members) a = tt

pub comes : (c : Cluster) (k address reading : ℕ) (bytes : List ℕ) (d : Datagram) → reading < 2 ^ 64 → all_bytes bytes ≡ true → datagram_of bytes ≡ Some d → Among c.sent (k, d) → MayHappen c (Event.Takes k (Turn.In address bytes) reading)
comes c k address reading bytes d lt small is sent = (lt, (are_bytes bytes small, λ e f. subst (IsGenuine c k) (same_Some d e (subst (λ o. o ≡ Some e) is f)) (genuine_if_sent c k d sent)))
