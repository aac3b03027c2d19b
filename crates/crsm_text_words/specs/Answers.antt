-- The results of parsing a command line.
use Rattle.std.specs.Prelude.{◌≡◌, ◌⊎◌, Bool, true, false, List, [], Result, Ok, Err, MatchResult}
use Rattle.std.specs.List.{list_any}
use Rattle.clap.specs.Words.{Text, fault_of}
use Rattle.clap.specs.declared.error.kind.ErrorKind.{ErrorKind}
use Rattle.clap.specs.declared.error.kind.ErrorKind.TheVariants.{DisplayHelp, DisplayVersion}
use Rattle.crsm_text.specs.declared.error.LineError.{LineError}
use Rattle.crsm_text.specs.declared.error.LineError.TheVariants.{Unreadable, NoMemory as OutOfMemory}
use Rattle.crsm_text_words.specs.Orders.{Asks, InFront, task_words, cluster_words}
use Rattle.crsm_text_words.specs.Split.{is_usage, taken}
use Rattle.crsm_text_words.specs.Table.{product_app}
use Rattle.crsm_text_words.specs.declared.order.Order.{Order}
use Rattle.crsm_text_words.specs.declared.order.Task.{Task}
use Rattle.crsm_text_words.specs.declared.order.Task.TheVariants.{Show}
use Rattle.crsm_text_words.specs.declared.read.WordsError.{WordsError}
use Rattle.crsm_text_words.specs.declared.read.WordsError.TheVariants.{Usage, NoMemory}

abbrev pub refusal_of : LineError → WordsError
refusal_of Unreadable = Usage
refusal_of OutOfMemory = NoMemory

-- the parser returns this value, unless memory runs out
abbrev pub Reads : {X : Type 0} → Result X WordsError → X → Type 0
Reads (Ok x) y = x ≡ y
Reads (Err r) y = r ≡ NoMemory

-- ---- help and the version

abbrev pub IsShown : Task → Type 0
IsShown (Show text) = Unit {0}
IsShown _ = ⊥

-- whether the error asks for help or the version
abbrev pub asks_text : ErrorKind → Bool
asks_text DisplayHelp = true
asks_text DisplayVersion = true
asks_text _ = false

-- the result for an error of `clap`: a text to show if help or the version was asked for, otherwise a refusal
abbrev pub AnswersError : ErrorKind → Result Task WordsError → Type 0
AnswersError kind result = MatchResult result (λ task. IsShown task × (asks_text kind ≡ true)) (λ r. (r ≡ NoMemory) ⊎ ((r ≡ Usage) × (is_usage kind ≡ true)))

-- ---- by what `clap` takes words for

pub data TaskFor (words : List Text) (task : Task) : Type 0 where
  shown : IsShown task → list_any asks_text (fault_of product_app words) ≡ true → TaskFor words task
  asked : fault_of product_app words ≡ [] → Asks task (taken words) → TaskFor words task

pub data RefusedFor (words : List Text) (r : WordsError) : Type 0 where
  no_memory : r ≡ NoMemory → RefusedFor words r
  at_fault : r ≡ Usage → list_any is_usage (fault_of product_app words) ≡ true → RefusedFor words r
  for_nothing : r ≡ Usage → ((task : Task) → Asks task (taken words) → ⊥) → RefusedFor words r

abbrev pub TaskBy : List Text → Result Task WordsError → Type 0
TaskBy words result = MatchResult result (TaskFor words) (RefusedFor words)

pub data OrderMade (words : List Text) (made : Order) : Type 0 where
  text : InFront made (cluster_words words) → IsShown made.task → list_any asks_text (fault_of product_app (task_words words)) ≡ true → OrderMade words made
  order : fault_of product_app (task_words words) ≡ [] → InFront made (cluster_words words) → Asks made.task (taken (task_words words)) → OrderMade words made

pub data OrderRefused (words : List Text) (r : WordsError) : Type 0 where
  memory : r ≡ NoMemory → OrderRefused words r
  fault : r ≡ Usage → list_any is_usage (fault_of product_app (task_words words)) ≡ true → OrderRefused words r
  nothing : r ≡ Usage → ((order : Order) → InFront order (cluster_words words) → Asks order.task (taken (task_words words)) → ⊥) → OrderRefused words r

abbrev pub OrderBy : List Text → Result Order WordsError → Type 0
OrderBy words result = MatchResult result (OrderMade words) (OrderRefused words)
