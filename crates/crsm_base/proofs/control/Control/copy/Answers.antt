use Rattle.std.proofs.Common.{◌∙◌, ap, sym}
use Rattle.crsm_base.specs.declared.control.Control.TheVariants as control
use Rattle.crsm_base.proofs.control.Control.copy.Goals as goal

-- ---- messages of plain numbers

pub returns-in-Suspend : goal.returns-in-Suspend
returns-in-Suspend c = sym c.in-Suspend.is

pub returns-in-P1a : goal.returns-in-P1a
returns-in-P1a c = sym c.in-P1a.is

pub returns-in-P1no : goal.returns-in-P1no
returns-in-P1no c = sym c.in-P1no.is

pub returns-in-P2b : goal.returns-in-P2b
returns-in-P2b c = sym c.in-P2b.is

pub returns-in-Retrieve : goal.returns-in-Retrieve
returns-in-Retrieve c = sym c.in-Retrieve.is

-- ---- messages with entries or a decision

pub returns-in_ok-copy-in-SuspendOk : goal.returns-in_ok-copy-in-SuspendOk
returns-in_ok-copy-in-SuspendOk c =
    let m = c.in-SuspendOk in
    ap (control.SuspendOk m.epoch m.executed m.last m.after m.whole) c.in_ok-copy-in-SuspendOk.ensures ∙ sym m.is

pub returns-in_ok-copy_accepted-in-P1b : goal.returns-in_ok-copy_accepted-in-P1b
returns-in_ok-copy_accepted-in-P1b c =
    let m = c.in-P1b in
    ap (control.P1b m.instance m.ballot) c.in_ok-copy_accepted-in-P1b.ensures ∙ sym m.is

pub returns-in_ok-copy-in-P2a : goal.returns-in_ok-copy-in-P2a
returns-in_ok-copy-in-P2a c =
    let m = c.in-P2a in
    ap (control.P2a m.instance m.ballot) c.in_ok-copy-in-P2a.ensures ∙ sym m.is

pub returns-in_ok-copy-in-Decide : goal.returns-in_ok-copy-in-Decide
returns-in_ok-copy-in-Decide c = ap control.Decide c.in_ok-copy-in-Decide.ensures ∙ sym c.in-Decide.is

pub returns-in_ok-copy-in-Page : goal.returns-in_ok-copy-in-Page
returns-in_ok-copy-in-Page c =
    let m = c.in-Page in
    ap (control.Page m.known m.from) c.in_ok-copy-in-Page.ensures ∙ sym m.is
