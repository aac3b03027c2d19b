use Rattle.crsm_text.proofs.Digits.{encode_take}
use Rattle.crsm_text.proofs.print.push_piece.Goals as goal

pub returns : goal.returns
returns c = rw (c.digits_of-row.ensures, c.copy_from_slice.ensures.after, encode_take c.args.piece.now _) at c.append.ensures.ok
