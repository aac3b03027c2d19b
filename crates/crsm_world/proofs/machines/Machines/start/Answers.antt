use Rattle.std.proofs.Common.{arith}
use Rattle.std.proofs.Common.{◌<◌, length}
use Rattle.std.proofs.lemmas.Option.{slice_get_within}
use Rattle.crsm_world.specs.Machines.{roomed}
use Rattle.crsm_world.proofs.Sites.{boot_set, machine_here, machines_length}
use Rattle.crsm_world.proofs.machines.Machines.start.Goals as goal

pub returns-then-k-len : goal.returns-then-k-len
returns-then-k-len c n places h l log e =
    let s = c.in_ok-make_room.ensures.stands n places h l in
    let w = slice_get_within (roomed places c.args.k) c.args.k _ e in
    let m = machines_length c.make_room.new.self n (roomed places c.args.k) s in
    let a = c.len.ensures in let b = c.make_room.new.self.items.ok.0 in let d = c.if-k-len.true in
    absurd (omega arith)

pub returns : goal.returns
returns c n places h l log e =
    let s = c.in_ok-make_room.ensures.stands n places h l in
    let k : c.args.k < length c.make_room.new.self.items.items = let a = c.len.ensures in let b = c.make_room.new.self.items.ok.0 in let d = c.if-k-len.false in omega arith in
    boot_set c.make_room.new.self n (roomed places c.args.k) c.args.k log c.index_mut.result.now c.start.new.self c.in_ok-boot.boot s k c.index_mut.ensures.value e c.in_ok-boot.ensures

pub start-requires : goal.start-requires
start-requires c =
    let items = c.make_room.new.self.items in
    let k : c.args.k < length items.items = let a = c.len.ensures in let b = items.ok.0 in let d = c.if-k-len.false in omega arith in
    c.in_ok-make_room.ensures.not_up c.requires c.index_mut.result.now (machine_here items.items c.args.k _ k c.index_mut.ensures.value)
