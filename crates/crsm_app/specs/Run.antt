-- The effects of a run, by its words and its status.
use Rattle.std.specs.Prelude.{◌≡◌, ◌⊎◌, List}
use Rattle.std.specs.List.{All}
use Rattle.clap.specs.Words.{Text}
use Rattle.crsm_port_faults.specs.Counts.{Rose}
use Rattle.crsm_text_words.specs.Answers.{OrderMade, OrderRefused}
use Rattle.crsm_text_words.specs.Orders.{AsksFor}
use Rattle.crsm_text_words.specs.Split.{IsPlain}
use Rattle.crsm_text_words.specs.declared.order.Order.{Order}
use Rattle.crsm_text_words.specs.declared.order.Task.{Task}
use Rattle.crsm_text_words.specs.declared.read.WordsError.{WordsError}
use Rattle.crsm_app.specs.Devices.{Devices, Untouched}
use Rattle.crsm_app.specs.Did.{Did}
use Rattle.crsm_app.specs.Tasks.{IsAsker}
use Rattle.crsm_app.specs.declared.status.Status.{Status}

-- ---- words

-- they were read as those of an order whose task is of this kind
pub record AskForTask (IsKind : Task → Type 0) (words : List Text) : Type 0 where
  pub order : Order
  pub made : OrderMade words order
  pub kind : IsKind order.task

-- they ask for nothing
abbrev pub AskForNothing : List Text → Type 0
AskForNothing words = OrderRefused words WordsError.Usage

-- where they do not begin with a hyphen, and ask for this order
abbrev pub WhereAsked : List Text → (Order → Type 0) → Type 0
WhereAsked words P = All IsPlain words → (order : Order) → AsksFor order words → P order

-- ---- what was done

-- Words were read as those of an order, which was done; or they are at fault or memory ran out, and nothing was done.
pub data Ran (words : List Text) (result : Status) (old new : Devices) : Type 0 where
  did : (order : Order) → OrderMade words order → Did order.cluster order.task result old new → Ran words result old new
  at_fault : OrderRefused words WordsError.Usage → result ≡ Status.Usage → Untouched old new → Ran words result old new
  no_memory : result ≡ Status.NoMemory → Untouched old new → Ran words result old new

-- the port failed in a receive or, where the task asks a replica, in a send
abbrev pub PortFailed : (old new : Devices) → Task → Type 0
PortFailed old new task = Rose old.port.faults new.port.faults ⊎ (IsAsker task × Rose old.port.losses new.port.losses)

-- a fault is answered only where it was counted
pub record FaultsAreCounted (words : List Text) (result : Status) (old new : Devices) : Type 0 where
  pub read : result ≡ Status.ReadFault → Rose old.read_faults new.read_faults
  pub write : result ≡ Status.WriteFault → Rose old.write_faults new.write_faults
  pub port : result ≡ Status.PortFault → AskForTask (PortFailed old new) words
  pub disk : result ≡ Status.DiskFault → Rose old.disk.faults new.disk.faults
