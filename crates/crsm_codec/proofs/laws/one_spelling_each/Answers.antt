use Rattle.crsm_base.proofs.Parsers.{one_spelling}
use Rattle.crsm_base.proofs.Numbers.{u8_parses, u16_parses, u32_parses, u64_parses}
use Rattle.crsm_base.proofs.Fields.{replica_parses, stamp_parses, ballot_parses, key_parses, val_parses, option_val_parses, op_parses, command_parses, entry_parses}
use Rattle.crsm_base.proofs.ControlLaws.{option_stamp_parses, option_vote_parses}
use Rattle.crsm_base.proofs.EntriesLemmas.{entries_parse, members_parse}
use Rattle.crsm_base.proofs.Decisions.{decision_parses}
use Rattle.crsm_base.proofs.Outcomes.{answer_parses, outcome_parses}
use Rattle.crsm_base.proofs.RecordLaws.{rec_parses}
use Rattle.crsm_codec.proofs.Bodies.{same_body}
use Rattle.crsm_codec.proofs.laws.one_spelling_each.Goals as goal

pub returns-clause-u8_has_one : goal.returns-clause-u8_has_one
returns-clause-u8_has_one c = λ a b s t x y sa tb e. one_spelling u8_parses a b s t x y sa tb e

pub returns-clause-u16_has_one : goal.returns-clause-u16_has_one
returns-clause-u16_has_one c = λ a b s t x y sa tb e. one_spelling u16_parses a b s t x y sa tb e

pub returns-clause-u32_has_one : goal.returns-clause-u32_has_one
returns-clause-u32_has_one c = λ a b s t x y sa tb e. one_spelling u32_parses a b s t x y sa tb e

pub returns-clause-u64_has_one : goal.returns-clause-u64_has_one
returns-clause-u64_has_one c = λ a b s t x y sa tb e. one_spelling u64_parses a b s t x y sa tb e

pub returns-clause-replica_has_one : goal.returns-clause-replica_has_one
returns-clause-replica_has_one c = λ a b s t x y sa tb e. one_spelling replica_parses a b s t x y sa tb e

pub returns-clause-stamp_has_one : goal.returns-clause-stamp_has_one
returns-clause-stamp_has_one c = λ a b s t x y sa tb e. one_spelling stamp_parses a b s t x y sa tb e

pub returns-clause-option_stamp_has_one : goal.returns-clause-option_stamp_has_one
returns-clause-option_stamp_has_one c = λ a b s t x y sa tb e. one_spelling option_stamp_parses a b s t x y sa tb e

pub returns-clause-ballot_has_one : goal.returns-clause-ballot_has_one
returns-clause-ballot_has_one c = λ a b s t x y sa tb e. one_spelling ballot_parses a b s t x y sa tb e

pub returns-clause-key_has_one : goal.returns-clause-key_has_one
returns-clause-key_has_one c = λ a b s t x y sa tb e. one_spelling key_parses a b s t x y sa tb e

pub returns-clause-val_has_one : goal.returns-clause-val_has_one
returns-clause-val_has_one c = λ a b s t x y sa tb e. one_spelling val_parses a b s t x y sa tb e

pub returns-clause-option_val_has_one : goal.returns-clause-option_val_has_one
returns-clause-option_val_has_one c = λ a b s t x y sa tb e. one_spelling option_val_parses a b s t x y sa tb e

pub returns-clause-op_has_one : goal.returns-clause-op_has_one
returns-clause-op_has_one c = λ a b s t x y sa tb e. one_spelling op_parses a b s t x y sa tb e

pub returns-clause-command_has_one : goal.returns-clause-command_has_one
returns-clause-command_has_one c = λ a b s t x y sa tb e. one_spelling command_parses a b s t x y sa tb e

pub returns-clause-entry_has_one : goal.returns-clause-entry_has_one
returns-clause-entry_has_one c = λ a b s t x y sa tb e. one_spelling entry_parses a b s t x y sa tb e

pub returns-clause-entries_has_one : goal.returns-clause-entries_has_one
returns-clause-entries_has_one c = λ a b s t x y sa tb e. one_spelling entries_parse a b s t x y sa tb e

pub returns-clause-members_has_one : goal.returns-clause-members_has_one
returns-clause-members_has_one c = λ a b s t x y sa tb e. one_spelling members_parse a b s t x y sa tb e

pub returns-clause-decision_has_one : goal.returns-clause-decision_has_one
returns-clause-decision_has_one c = λ a b s t x y sa tb e. one_spelling decision_parses a b s t x y sa tb e

pub returns-clause-option_vote_has_one : goal.returns-clause-option_vote_has_one
returns-clause-option_vote_has_one c = λ a b s t x y sa tb e. one_spelling option_vote_parses a b s t x y sa tb e

pub returns-clause-answer_has_one : goal.returns-clause-answer_has_one
returns-clause-answer_has_one c = λ a b s t x y sa tb e. one_spelling answer_parses a b s t x y sa tb e

pub returns-clause-outcome_has_one : goal.returns-clause-outcome_has_one
returns-clause-outcome_has_one c = λ a b s t x y sa tb e. one_spelling outcome_parses a b s t x y sa tb e

pub returns-clause-rec_has_one : goal.returns-clause-rec_has_one
returns-clause-rec_has_one c = λ a b s t x y sa tb e. one_spelling rec_parses a b s t x y sa tb e

pub returns-clause-body_has_one : goal.returns-clause-body_has_one
returns-clause-body_has_one c = λ a b s sa sb. same_body s a b sa sb
