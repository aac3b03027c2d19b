use Rattle.std.proofs.Common.{sym, arith}
use Rattle.crsm_base.specs.MessageReading.{datagram_of}
use Rattle.crsm_base.proofs.Wholes.{all_none}
use Rattle.crsm_base.proofs.DatagramLaws.{datagram_whole}
use Rattle.crsm_wire.proofs.Same.{read_is_spelt, read_is_that}
use Rattle.crsm_wire.proofs.read.read_datagram.Goals as goal

pub returns-clause-found : goal.returns-clause-found
returns-clause-found c = read_is_spelt c.args.bytes.now c.read_whole.result (λ i. omega (arith, c.type_inv.bytes i)) c.read_whole.ensures.one

pub returns-clause-value : goal.returns-clause-value
unfolding datagram_of
returns-clause-value c = c.read_whole.ensures.one

pub returns-clause-not_one : goal.returns-clause-not_one
returns-clause-not_one c = λ is. all_none datagram_whole c.args.bytes.now (sym (c.read_whole.ensures.none is))

pub returns-clause-none : goal.returns-clause-none
unfolding datagram_of
returns-clause-none c = c.read_whole.ensures.none

pub returns-clause-again : goal.returns-clause-again
returns-clause-again c = read_is_that c.args.bytes.now c.read_whole.result c.read_whole.ensures.one
