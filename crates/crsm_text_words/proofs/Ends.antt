-- The results of parsing the program's words.
use Rattle.std.proofs.Common.{◌≡◌, ◌∙◌, ◌⊎◌, ◌&&◌, inl, inr, ap, sym, subst, List, [], ◌∷◌, true, false, Bool, refl, Result, Ok, Err, IfOk}
use Rattle.std.specs.List.{All, list_all}
use Rattle.clap.specs.Words.{App, FailsBy, HasMatchesOf, IsAmong, Kinds, Text, fault_of, is_simple_and_free, kind_of, subcommand_of}
use Rattle.clap.specs.Simple.{is_simple}
use Rattle.clap.specs.declared.error.Error.{Error}
use Rattle.clap.specs.declared.parser.matches.ArgMatches.{ArgMatches}
use Rattle.clap.specs.declared.error.kind.ErrorKind.{ErrorKind}
use Rattle.clap.specs.declared.error.kind.ErrorKind.TheVariants.{OutOfMemory}
use Rattle.crsm_text_words.specs.Split.{IsPlain, SplitsBy, SplitsExactly, is_usage, parts, taken}
use Rattle.crsm_text_words.specs.Table.{fits, product_app}
use Rattle.crsm_text_words.proofs.Table.{is_free, is_simple_app, refuses, takes_fitting}

and_left : (a b : Bool) → (a && b) ≡ true → a ≡ true
and_left true b e = refl
and_left false b e = e

and_right : (a b : Bool) → (a && b) ≡ true → b ≡ true
and_right true b e = e
and_right false b e = absurd (cc e)

all_usage : (k : ErrorKind) (ks : Kinds) → list_all is_usage ks ≡ true → IsAmong k ks → is_usage k ≡ true
all_usage k [] e among = absurd among
all_usage k (x ∷ xs) e (inl is) = ap is_usage is ∙ and_left (is_usage x) (list_all is_usage xs) e
all_usage k (x ∷ xs) e (inr later) = all_usage k xs (and_right (is_usage x) (list_all is_usage xs) e) later

not_among : (k : ErrorKind) (ks : Kinds) → ks ≡ [] → IsAmong k ks → ⊥
not_among k [] e among = among
not_among k (x ∷ xs) e among = cc e

plain_err : (words : List Text) (k : ErrorKind) → All IsPlain words → (k ≡ OutOfMemory) ⊎ IsAmong k (fault_of product_app words)
    → (k ≡ OutOfMemory) ⊎ ((is_usage k ≡ true) × (fits words ≡ false))
plain_err words k plain (inl memory) = inl memory
plain_err words k plain (inr among) = inr (all_usage k (fault_of product_app words) (refuses words plain).1 among, go (fits words) refl)
  where
    go : (b : Bool) → fits words ≡ b → fits words ≡ false
    go false is = is
    go true is = absurd (not_among k (fault_of product_app words) ((refuses words plain).0.1 is) among)

plain_ok : (words : List Text) → All IsPlain words → fault_of product_app words ≡ [] → (fits words ≡ true) × (taken words ≡ words)
plain_ok words plain none = let ok = (refuses words plain).0.0 none in (ok, takes_fitting words plain ok)

module _ (words : List Text) (a : App) (is : a ≡ product_app) where
  faults : (result : Result ArgMatches Error) → (is_simple_and_free a ≡ true → FailsBy (fault_of a words) result) → FailsBy (fault_of product_app words) result
  faults result kinds = subst (λ (b : App). FailsBy (fault_of b words) result) is (kinds (ap is_simple_and_free is ∙ is_free))

  taken_by : (m : ArgMatches) → HasMatchesOf a words m → parts (Rattle.clap.specs.Words.subcommand_rows_of m) ≡ taken words
  taken_by m matches = ap parts ((matches (ap is_simple is ∙ is_simple_app)).1 ∙ ap (λ (b : App). subcommand_of b words) is)

  pub splits_by : (result : Result ArgMatches Error) → (is_simple_and_free a ≡ true → FailsBy (fault_of a words) result) → IfOk result (HasMatchesOf a words) → SplitsBy words result
  splits_by (Ok m) kinds matches = (faults (Ok m) kinds, taken_by m matches)
  splits_by (Err e) kinds matches = (faults (Err e) kinds, tt)

  pub splits_exactly : (result : Result ArgMatches Error) → (is_simple_and_free a ≡ true → FailsBy (fault_of a words) result) → IfOk result (HasMatchesOf a words) → All IsPlain words → SplitsExactly words result
  splits_exactly (Ok m) kinds matches plain = let p = plain_ok words plain (faults (Ok m) kinds) in (p.0, taken_by m matches ∙ p.1)
  splits_exactly (Err e) kinds matches plain = plain_err words (kind_of e) plain (faults (Err e) kinds)
