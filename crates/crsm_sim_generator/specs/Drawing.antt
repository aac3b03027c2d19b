-- The generation of a run's events.
use Rattle.std.specs.Prelude.{ℕ, ◌+◌, ◌-◌, ◌^◌, Bool, ◌&&◌, ◌||◌, ◌==◌, nat_lt, nat_le, min, if◌then◌else◌, List, [], ◌∷◌, length, Option, None, Some, option_map, slice_get, slice_index, slice_set, unwrap_or}
use Rattle.std.specs.Option.{option_map_or}
use Rattle.crsm_base.specs.declared.Command.{Command}
use Rattle.crsm_base.specs.declared.Op.{Op}
use Rattle.crsm_base.specs.Replicas.{majority}
use Rattle.crsm_schedule.specs.declared.Event.{Event}
use Rattle.crsm_schedule.specs.declared.Single.{Single}
use Rattle.crsm_sim_generator.specs.declared.drawing.Drawing.{Drawing}
use Rattle.crsm_sim_generator.specs.declared.kind.EventHead.{EventHead}
use Rattle.crsm_sim_generator.specs.declared.kind.EventKind.{EventKind}
use Rattle.crsm_sim_generator.specs.Sequence.{later, draw}
use Rattle.crsm_sim_generator.specs.View.{View, is_up_in, up_replicas, down_replicas, fresh_to_any, fresh_to_up, used_to_up}

-- nothing is drawn yet
unfoldable pub begun : ℕ → Drawing
begun number = record { latest = number; now = 0; numbers = 0 ∷ 0 ∷ 0 ∷ 0 ∷ [] }

-- the result of a draw, and the state after it
abbrev pub Drawn : Type 0 → Type 0
Drawn A = A × Drawing

-- the state after this number of draws
unfoldable pub behind : ℕ → Drawing → Drawing
behind draws s = record s { latest = later s.latest draws }

-- a sum, or the greatest number of 64 bits
unfoldable pub capped_sum : ℕ → ℕ → ℕ
capped_sum a b = min (a + b) (2 ^ 64 - 1)

-- ---- what every event begins with: time goes by, and a kind, a replica and its reading are drawn

-- how often each kind comes, of a hundred events
unfoldable pub kind_of : ℕ → EventKind
kind_of k =
    if nat_lt k 25 then EventKind.Request
    else if nat_lt k 70 then EventKind.Go
    else if nat_lt k 75 then EventKind.Again
    else if nat_lt k 80 then EventKind.Lose
    else if nat_lt k 90 then EventKind.Tick
    else if nat_lt k 92 then EventKind.Crash
    else if nat_lt k 95 then EventKind.Start
    else if nat_lt k 97 then EventKind.Suspect
    else if nat_lt k 99 then EventKind.Settle
    else EventKind.Cut

unfoldable pub after_head : Drawing → Drawing
after_head s = record s { latest = later s.latest 4; now = capped_sum s.now (draw s.latest 0 20) }

-- in a cluster of n replicas
unfoldable pub head_of : ℕ → Drawing → EventHead
head_of n s =
    record {
      kind = kind_of (draw s.latest 1 100);
      replica = draw s.latest 2 n;
      reading = capped_sum (capped_sum s.now (draw s.latest 0 20)) (draw s.latest 3 200);
    }

-- ---- commands

-- A client's next command has a new number, but of ten one has the latest again.
unfoldable pub number_behind : (number tenth : ℕ) → ℕ
number_behind number tenth = if number == 0 || nat_lt 0 tenth then capped_sum number 1 else number

-- the expected value of a compare-and-set: none, or a byte
unfoldable pub drawn_expected : ℕ → Option (List ℕ) × ℕ
drawn_expected x = if draw x 0 2 == 0 then (None, later x 1) else (Some (draw x 1 256 ∷ []), later x 2)

-- a compare-and-set of the key
unfoldable pub drawn_cas : (key : List ℕ) → ℕ → Op × ℕ
drawn_cas key x = let expected = drawn_expected x in (Op.Cas key expected.0 (Some (draw expected.1 0 256 ∷ [])), later expected.1 1)

-- An operation of this kind, of 0 to 3, by the draws behind x, and the number of the sequence behind these.
unfoldable pub op_of_kind : (kind x : ℕ) → Op × ℕ
op_of_kind kind x =
    let key = (97 + draw x 0 8) ∷ [] in
    if kind == 0 then (Op.Get key, later x 1)
    else if kind == 1 then (Op.Put key (draw x 1 256 ∷ []), later x 2)
    else if kind == 2 then (Op.Delete key, later x 1)
    else drawn_cas key (later x 1)

unfoldable pub drawn_op : ℕ → Op × ℕ
drawn_op x = op_of_kind (draw x 0 4) (later x 1)

-- a command of one of the clients 1 to 4
unfoldable pub drawn_command : Drawing → Drawn Command
drawn_command s =
    let i = draw s.latest 0 4 in
    let number = number_behind (slice_index s.numbers i) (draw s.latest 1 10) in
    let op = drawn_op (later s.latest 2) in
    (record { client = 1 + i; number = number; op = op.0 }, record s { latest = op.1; numbers = slice_set s.numbers i number })

-- ---- events

-- One of the first of these, at most `most`, by one draw. Nothing is drawn if there is none.
unfoldable pub one_of : ℕ → List ℕ → Drawing → Drawn (Option ℕ)
one_of most numbers s =
    if length numbers == 0 then (None, s)
    else (slice_get numbers (draw s.latest 0 (min most (length numbers))), behind 1 s)

-- the event, if it is possible
unfoldable pub if_possible : Bool → Event → Option Event
if_possible possible e = if possible then Some e else None

-- The event of this kind in a cluster of n replicas with this view, at replica r or at this reading. It is none if
-- there is nothing to choose from, or the event is not possible.
unfoldable pub asked : EventKind → (n : ℕ) → View → (r reading : ℕ) → Drawing → Drawn (Option Event)
asked EventKind.Request n v r reading s =
    let command = drawn_command s in (if_possible (is_up_in v r) (Event.One (Single.Request r reading command.0)), command.1)
asked EventKind.Go n v r reading s =
    let number = one_of 8 (fresh_to_up v) s in (option_map (λ i. Event.One (Single.Go i reading)) number.0, number.1)
asked EventKind.Again n v r reading s =
    let number = one_of (length (used_to_up v)) (used_to_up v) s in (option_map (λ i. Event.One (Single.Again i reading)) number.0, number.1)
asked EventKind.Lose n v r reading s = let number = one_of 8 (fresh_to_any v) s in (option_map Event.Lose number.0, number.1)
asked EventKind.Tick n v r reading s = (if_possible (is_up_in v r) (Event.One (Single.Tick r reading)), s)
asked EventKind.Crash n v r reading s = (if_possible (is_up_in v r) (Event.Crash r), s)
asked EventKind.Start n v r reading s = (option_map Event.Start (slice_get (down_replicas v) 0), s)
asked EventKind.Suspect n v r reading s =
    let are_enough = nat_le (majority n) (length (up_replicas v)) in
    (if_possible (is_up_in v r && are_enough) (Event.One (Single.Suspect r reading (up_replicas v))), s)
asked EventKind.Settle n v r reading s = (Some (Event.Settle reading), s)
asked EventKind.Cut n v r reading s = (option_map (λ i. Event.CutKept 0 (Single.Go i reading)) (slice_get (fresh_to_up v) 0), s)

-- in place of an event that is not possible: a tick of the least replica that is up, or else the start of replica 0
unfoldable pub otherwise : View → (reading : ℕ) → Event
otherwise v reading = option_map_or (λ r. Event.One (Single.Tick r reading)) (slice_get (up_replicas v) 0) (Event.Start 0)

-- the next event of a cluster of n replicas that is seen so
unfoldable pub drawn_next : (n : ℕ) → View → Drawing → Drawn Event
drawn_next n v s =
    let h = head_of n s in
    let a = asked h.kind n v h.replica h.reading (after_head s) in (unwrap_or a.0 (otherwise v h.reading), a.1)
