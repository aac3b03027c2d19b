use Rattle.crsm_law_texts.proofs.Events.{Lacks-event_text, Lacks-first_text, length-event_text, length-first_text}
use Rattle.crsm_law_texts.proofs.spelt_are_lines.Goals as goal

pub returns-clause-events : goal.returns-clause-events
returns-clause-events c e fits = (Lacks-event_text e fits, length-event_text e fits)

pub returns-clause-first : goal.returns-clause-first
returns-clause-first c n size = (Lacks-first_text n size, length-first_text n size)
