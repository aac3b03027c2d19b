use Rattle.std.proofs.Common.{◌≡◌, ◌∙◌, ◌+◌, Some, length, drop, ap, refl, sym}
use Rattle.std.proofs.lemmas.List.{drop-drop}
use Rattle.crsm_port.specs.Passing.{Cut, Only}
use Rattle.crsm_port_packets.specs.Format.{entry_at}
use Rattle.crsm_port_packets.specs.Waiting.{waiting_in}
use Rattle.crsm_port_packets.proofs.Unpackings.{cut_more, of_more, stand_later, stands_first}
use Rattle.crsm_port_packets.proofs.unpacking.Unpacking.take.Goals as goal

pub returns-clause-waited : goal.returns-clause-waited
returns-clause-waited c =
    let u = c.args.self.now in
    let bytes = c.in_ok-bytes.bytes.now in
    let entries = drop u.next u.entries.items in
    let rest : c.in_ok-rest.rest.now ≡ entries = c.in_ok-rest.ensures.some ∙ ap (drop u.next) c.as_slice.ensures.value in
    let is : entry_at entries ≡ Some (bytes, c.in_ok-bytes.field-0-1.now) = ap entry_at (sym rest) ∙ c.in_ok-bytes.ensures.first in
    of_more (Cut (waiting_in u)) (Cut (Only u.from bytes)) c.hand_up.new.buf c.hand_up.result
    (cut_more (waiting_in u) (Only u.from bytes) (stands_first u.from entries bytes c.in_ok-bytes.field-0-1.now is)) c.hand_up.ensures.cut

pub returns-clause-rest : goal.returns-clause-rest
returns-clause-rest c =
    let u = c.args.self.now in
    let bytes = c.in_ok-bytes.bytes.now in
    let behind = c.in_ok-bytes.field-0-1.now in
    let entries = drop u.next u.entries.items in
    let rest : c.in_ok-rest.rest.now ≡ entries = c.in_ok-rest.ensures.some ∙ ap (drop u.next) c.as_slice.ensures.value in
    let is : entry_at entries ≡ Some (bytes, behind) = ap entry_at (sym rest) ∙ c.in_ok-bytes.ensures.first in
    let after : drop (u.next + (2 + length bytes)) u.entries.items ≡ behind =
    sym (c.in_ok-bytes.ensures.rest ∙ ap (drop (2 + length bytes)) rest ∙ drop-drop (2 + length bytes) u.next u.entries.items) in
    stand_later u.from entries bytes behind (drop (u.next + (2 + length bytes)) u.entries.items) is after

pub returns-clause-next : goal.returns-clause-next
returns-clause-next c =
    let u = c.args.self.now in
    let bytes = c.in_ok-bytes.bytes.now in
    let behind = c.in_ok-bytes.field-0-1.now in
    let entries = drop u.next u.entries.items in
    let rest : c.in_ok-rest.rest.now ≡ entries = c.in_ok-rest.ensures.some ∙ ap (drop u.next) c.as_slice.ensures.value in
    let is : entry_at entries ≡ Some (bytes, behind) = ap entry_at (sym rest) ∙ c.in_ok-bytes.ensures.first in
    let after : drop (u.next + (2 + length bytes)) u.entries.items ≡ behind =
    sym (c.in_ok-bytes.ensures.rest ∙ ap (drop (2 + length bytes)) rest ∙ drop-drop (2 + length bytes) u.next u.entries.items) in
    (bytes, behind, is, after, refl, c.hand_up.ensures.goes)
