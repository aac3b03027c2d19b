-- Timelines: the events of a cluster that runs by a plan, each with its moment.
use Rattle.std.specs.Prelude.{◌≡◌, ◌≢◌, ◌⊎◌, ℕ, ◌+◌, ◌<◌, ◌==◌, Bool, false, List, [], ◌∷◌, ◌++◌, length, map, filter, drop, Some, slice_get}
use Rattle.std.specs.List.{AllByRecursion}
use Rattle.crsm_spec.specs.Types.{Op, Command, Line}
use Rattle.crsm_spec.specs.Lists.{Among}
use Rattle.crsm_spec.specs.World.{Packet, World, begin}
use Rattle.crsm_spec.specs.Acts.{Single, Act}
use Rattle.crsm_spec.specs.Moments.{act}
use Rattle.crsm_spec_plan.specs.declared.plan.Plan.{Plan}
use Rattle.crsm_spec_plan.specs.Plans.{delay_of, reading, stamped, arrival}

-- an event of one step, and the moment at which it happens
pub record Timed : Type 0 where
  pub moment : ℕ
  pub does : Single

-- the acts of the events
unfoldable pub acts_of : List Timed → List Act
acts_of es = map (λ e. Act.One e.does) es

-- ---- datagrams sent

-- a datagram, and the moment at which it was sent
pub record Sent : Type 0 where
  pub moment : ℕ
  pub packet : Packet

-- the datagrams that the events send from world w on, in order
unfoldable pub sent_from : World → List Timed → List Sent
sent_from w [] = []
sent_from w (e ∷ es) =
    let v = (act w (Act.One e.does)).after in
    map (λ m. record { moment = e.moment; packet = m }) (drop (length w.packets) v.packets) ++ sent_from v es

-- All datagrams that the events send, in the order of their numbers.
unfoldable pub sent : Plan → List Timed → List Sent
sent plan es = sent_from (begin plan.n) es

-- ---- events that are due

-- the command of a plan: client 7 puts a value, as its command 1
unfoldable pub the_command : Command
the_command = record { client = 7; number = 1; op = Op.Put (97 ∷ []) (98 ∷ []) }

-- the event that the command reaches the origin
unfoldable pub request : Plan → Timed
request plan = record { moment = plan.at; does = Single.Request plan.origin (stamped plan) the_command }

-- the event of a tick at k, at this moment
unfoldable pub tick : Plan → ℕ → ℕ → Timed
tick plan k moment = record { moment = moment; does = Single.Tick k (reading plan k moment) }

-- the event that datagram i is delivered, after its delay
unfoldable pub delivery : Plan → ℕ → Sent → Timed
delivery plan i s =
    let moment = s.moment + delay_of plan s.packet.from s.packet.to in
    record { moment = moment; does = Single.Go i (reading plan s.packet.to moment) }

-- The event has to happen once these have: the command's arrival, the delivery of each datagram that they send, and a
-- tick of each other replica whose clock is not past the timestamp when it receives the command, as soon as the clock
-- is.
pub data IsDue (plan : Plan) (es : List Timed) : Timed → Type 0 where
  Comes : IsDue plan es (request plan)
  Ticks : (k moment : ℕ) → k < plan.n → k ≢ plan.origin → reading plan k moment ≡ stamped plan + 1 → arrival plan k < moment →
      IsDue plan es (tick plan k moment)
  Arrives : (i : ℕ) (s : Sent) → slice_get (sent plan es) i ≡ Some s → IsDue plan es (delivery plan i s)

-- ---- the order

-- Events of one moment: the command's arrival is first, then ticks by replica, then deliveries by number.
abbrev pub IsBefore : Single → Single → Type 0
IsBefore (Single.Request k t c) (Single.Tick j u) = Unit {0}
IsBefore (Single.Request k t c) (Single.Go i u) = Unit {0}
IsBefore (Single.Tick k t) (Single.Tick j u) = k < j
IsBefore (Single.Tick k t) (Single.Go i u) = Unit {0}
IsBefore (Single.Go i t) (Single.Go j u) = i < j
IsBefore _ _ = ⊥

-- event e happens before f
abbrev pub Precedes : Timed → Timed → Type 0
Precedes e f = (e.moment < f.moment) ⊎ ((e.moment ≡ f.moment) × IsBefore e.does f.does)

-- each event happens before all that follow it
abbrev pub InOrder : List Timed → Type 0
InOrder [] = Unit {0}
InOrder (e ∷ es) = AllByRecursion (Precedes e) es × InOrder es

-- ---- timelines

-- Each event is due by the datagrams sent before it, each event that is due by all of them is in the list, and the list
-- is in order.
pub record IsTimeline (plan : Plan) (es : List Timed) : Type 0 where
  pub caused : (before after : List Timed) (e : Timed) → es ≡ before ++ e ∷ after → IsDue plan before e
  pub complete : (e : Timed) → IsDue plan es e → Among es e
  pub ordered : InOrder es

-- ---- executions

-- whether the line is the execution of an entry at replica i
unfoldable pub is_exec : ℕ → Line → Bool
is_exec i (Line.Exec k place epoch s client number a) = k == i
is_exec i _ = false

-- the moment of each such line, in order, from world w on
unfoldable pub exec_from : ℕ → World → List Timed → List ℕ
exec_from i w [] = []
exec_from i w (e ∷ es) =
    let m = act w (Act.One e.does) in map (λ l. e.moment) (filter (is_exec i) m.lines) ++ exec_from i m.after es

-- the moments at which replica i executes an entry
unfoldable pub exec_moments : Plan → ℕ → List Timed → List ℕ
exec_moments plan i es = exec_from i (begin plan.n) es
