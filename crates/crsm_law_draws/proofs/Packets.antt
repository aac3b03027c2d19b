-- A reached world has counted at least one byte for each datagram.
use Rattle.std.proofs.Common.{◌≡◌, ℕ, zero, suc, ◌-◌, ◌≤◌, Bool, true, false, cond, List, [], ◌∷◌, ◌++◌, length, map, Option, Some, None, refl, ap, arith}
use Rattle.std.proofs.lemmas.List.{length-append, length-map}
use Rattle.std.specs.Prelude.{◌==◌, slice_get, slice_set, take}
use Rattle.std.proofs.lemmas.List.Sums.{sum_by-cons}
use Rattle.std.specs.Option.{option_map_or}
use Rattle.crsm_base.specs.Messages.{datagram_bytes}
use Rattle.crsm_spec.specs.Types.{Datagram}
use Rattle.crsm_spec.specs.Draft.{Draft, Reply}
use Rattle.crsm_spec.specs.Moments.{silent, begun_at, use_up, with_room, start_at}
use Rattle.crsm_spec.specs.Step.{boot}
use Rattle.crsm_spec.specs.World.{Packet, Site, World, Moment, begin, after_step, cut_step, down, log_at, lost_step, packet_of, packets_size, then_down, whole_step, with_site}
use Rattle.crsm_law_steps.specs.Happenings.{Ends, Happens, IsReached, Marks}
use Rattle.crsm_law_steps.specs.Happenings.Ends.{IsWhole, IsCut, IsLost}
use Rattle.crsm_law_steps.specs.Happenings.Happens.{Nothing, Steps, Junk, Stops, Joins, Starts}
use Rattle.crsm_law_steps.specs.Happenings.IsReached.{first, next}
use Rattle.crsm_law_steps.specs.Happenings.Marks.{none, mark}

abbrev pub IsCounted : World → Type 0
IsCounted w = length w.packets ≤ w.bytes

-- ---- datagrams have bytes

some_bytes : (d : Datagram) → 1 ≤ length (datagram_bytes d)
unfolding datagram_bytes
some_bytes (Datagram.Frame from to epoch seq payload) = omega arith
some_bytes (Datagram.Ack from to epoch seq) = omega arith
some_bytes (Datagram.Part from to life number index count bytes) = omega arith
some_bytes (Datagram.Request command) = omega arith
some_bytes (Datagram.Reply client number outcome) = omega arith
some_bytes (Datagram.Operate members) = omega arith

enough_bytes : (sends : List (ℕ × Datagram)) → length sends ≤ packets_size sends
unfolding packets_size
enough_bytes [] = omega arith
enough_bytes (s ∷ sends) =
    let sum = sum_by-cons (λ (a : ℕ × Datagram). length (datagram_bytes a.1)) s sends in
    let one = some_bytes s.1 in
    let rest = enough_bytes sends in
    omega (arith, sum, one, rest)

-- ---- what a moment adds

set_length : {A : Type 0} (xs : List A) (k : ℕ) (y : A) → length (slice_set xs k y) ≡ length xs
set_length [] k y = refl
set_length (x ∷ xs) zero y = refl
set_length (x ∷ xs) (suc k) y = ap suc (set_length xs k y)

used_counted : (i : ℕ) (w : World) → IsCounted w → IsCounted (use_up i w)
unfolding use_up
used_counted i w h =
    elim (slice_get w.packets i) as (λ (o : Option Packet). length (option_map_or (λ m. slice_set w.packets i (record m { used = true })) o w.packets) ≤ w.bytes) [
      | None ↦ h
      | Some m ↦ let same = set_length w.packets i (record m { used = true }) in omega (arith, same, h)
    ]

marked_counted : {w v : World} → Marks w v → IsCounted w → IsCounted v
marked_counted none h = h
marked_counted (mark {v = v} i p) h = used_counted i v (marked_counted p h)

stepped_counted : (w : World) (k : ℕ) (x : Draft) (site : Site) (sends : List (ℕ × Datagram)) (replies : List Reply) → IsCounted w → IsCounted (after_step w k x site sends replies).after
unfolding after_step
stepped_counted w k x site sends replies h =
    let size = length-append w.packets (map (packet_of k) sends) in
    let count = length-map sends (packet_of k) in
    let bytes = enough_bytes sends in
    omega (arith, size, count, bytes, h)

ended_counted : (w : World) (k : ℕ) (x : Draft) (m : Moment) → Ends w k x m → IsCounted w → IsCounted m.after
unfolding whole_step cut_step lost_step then_down down with_site
ended_counted w k x m IsWhole h = stepped_counted w k x (Site.Up x.replica) x.sends x.replies h
ended_counted w k x m (IsCut count) h = stepped_counted w k x (Site.Down x.replica.log) (take count x.sends) (take (count - length x.sends) x.replies) h
ended_counted w k x m IsLost h = h

roomy_counted : (w : World) (k : ℕ) → IsCounted w → IsCounted (with_room w k)
unfolding with_room
roomy_counted w k h =
    elim (k == length w.sites) as (λ (b : Bool). IsCounted (cond b (record w { sites = w.sites ++ Site.Down [] ∷ [] }) w)) [ true ↦ h | false ↦ h ]

started_counted : (w : World) (k : ℕ) → IsCounted w → IsCounted (start_at w k).after
unfolding start_at begun_at
started_counted w k h =
    let v = with_room w k in
    ended_counted v k (boot k v.n (log_at v k)) (whole_step v k (boot k v.n (log_at v k))) IsWhole (roomy_counted w k h)

happened_counted : (w : World) (m : Moment) → Happens w m → IsCounted w → IsCounted m.after
unfolding silent begun_at down with_site
happened_counted w m (Nothing v p) h = marked_counted p h
happened_counted w m (Steps v p k r up input reading lt c z ends) h = ended_counted v k _ z ends (marked_counted p h)
happened_counted w m (Junk k r up z ends) h = ended_counted w k _ z ends h
happened_counted w m (Stops k) h = h
happened_counted w m (Joins f) h = roomy_counted w (length w.sites) h
happened_counted w m (Starts k d f) h = started_counted w k h

first_counted : (n : ℕ) → IsCounted (begin n)
unfolding begin
first_counted n = omega arith

pub reached_counted : (n : ℕ) (w : World) → IsReached n w → IsCounted w
reached_counted n w first = first_counted n
reached_counted n w (next {w = u} {m = m} q h) = happened_counted u m h (reached_counted n u q)
