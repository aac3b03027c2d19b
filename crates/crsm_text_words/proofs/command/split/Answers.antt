use Rattle.std.proofs.Common.{map, string_bytes}
use Rattle.clap.specs.Words.{app_of}
use Rattle.crsm_text_words.proofs.Ends.{splits_by, splits_exactly}
use Rattle.crsm_text_words.proofs.command.split.Goals as goal

pub returns-clause-any : goal.returns-clause-any
returns-clause-any c =
    splits_by (map string_bytes c.args.words.now) (app_of c.in_ok-command.command) c.in_ok-command.ensures c.try_get_matches_from.result
    c.try_get_matches_from.ensures.kinds c.try_get_matches_from.ensures.matches

pub returns-clause-plain : goal.returns-clause-plain
returns-clause-plain c =
    splits_exactly (map string_bytes c.args.words.now) (app_of c.in_ok-command.command) c.in_ok-command.ensures c.try_get_matches_from.result
    c.try_get_matches_from.ensures.kinds c.try_get_matches_from.ensures.matches
