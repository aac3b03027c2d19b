-- The result of splitting words with `clap`.
use Rattle.std.specs.Prelude.{◌≡◌, ◌⊎◌, Bool, true, false, List, [], ◌∷◌, Option, Some, None, option_map, unwrap_or, Result, MatchResult, codes}
use Rattle.clap.specs.Lexer.{strip_byte}
use Rattle.clap.specs.Words.{FailsBy, Row as Found, Text, all_of, fault_of, kind_of, subcommand_of, subcommand_rows_of}
use Rattle.clap.specs.declared.error.Error.{Error}
use Rattle.clap.specs.declared.error.kind.ErrorKind.{ErrorKind}
use Rattle.clap.specs.declared.error.kind.ErrorKind.TheVariants.{DisplayHelp, DisplayVersion, OutOfMemory}
use Rattle.clap.specs.declared.parser.matches.ArgMatches.{ArgMatches}
use Rattle.crsm_text_words.specs.Table.{fits, product_app}

-- the word does not begin with a hyphen
abbrev pub IsPlain : Text → Type 0
IsPlain word = strip_byte 45 word ≡ None

-- a command's name and its values, as one list; empty if there is no command
abbrev pub parts : Option (Text × List Found) → List Text
parts None = []
parts (Some p) = p.0 ∷ unwrap_or (all_of (codes "values") p.1) []

-- the command that `clap` finds in the words
abbrev pub taken : List Text → List Text
taken words = parts (subcommand_of product_app words)

-- the error is a fault of the words: neither did memory run out, nor was help or the version asked for
abbrev pub is_usage : ErrorKind → Bool
is_usage OutOfMemory = false
is_usage DisplayHelp = false
is_usage DisplayVersion = false
is_usage _ = true

-- any words: they are split only if `clap` finds no fault; an error is such a fault, or memory ran out
abbrev pub SplitsBy : List Text → Result ArgMatches Error → Type 0
SplitsBy words result =
    FailsBy (fault_of product_app words) result × MatchResult result (λ m. parts (subcommand_rows_of m) ≡ taken words) (λ e. Unit {0})

-- words that do not begin with a hyphen: they are split only if they are a command's name and as many values as its row
-- allows, and the result has these words; an error means that memory ran out, or that they are not
abbrev pub SplitsExactly : List Text → Result ArgMatches Error → Type 0
SplitsExactly words result = MatchResult result
    (λ m. (fits words ≡ true) × (parts (subcommand_rows_of m) ≡ words))
    (λ e. (kind_of e ≡ OutOfMemory) ⊎ ((is_usage (kind_of e) ≡ true) × (fits words ≡ false)))
