use Rattle.std.proofs.Common.{◌∙◌, ap, sym}
use Rattle.crsm_base.specs.declared.line.Line.TheVariants as line
use Rattle.crsm_base.proofs.line.Line.copy.Goals as goal

-- ---- lines of plain numbers

pub returns-in-Boot : goal.returns-in-Boot
returns-in-Boot c = sym c.in-Boot.is

pub returns-in-Submit : goal.returns-in-Submit
returns-in-Submit c = sym c.in-Submit.is

pub returns-in-Log : goal.returns-in-Log
returns-in-Log c = sym c.in-Log.is

pub returns-in-Suspend : goal.returns-in-Suspend
returns-in-Suspend c = sym c.in-Suspend.is

pub returns-in-Promise : goal.returns-in-Promise
returns-in-Promise c = sym c.in-Promise.is

pub returns-in-Accept : goal.returns-in-Accept
returns-in-Accept c = sym c.in-Accept.is

pub returns-in-Enter : goal.returns-in-Enter
returns-in-Enter c = sym c.in-Enter.is

pub returns-in-TooMany : goal.returns-in-TooMany
returns-in-TooMany c = sym c.in-TooMany.is

pub returns-in-ReplyNo : goal.returns-in-ReplyNo
returns-in-ReplyNo c = sym c.in-ReplyNo.is

pub returns-in-ReplyDropped : goal.returns-in-ReplyDropped
returns-in-ReplyDropped c = sym c.in-ReplyDropped.is

pub returns-in-Down : goal.returns-in-Down
returns-in-Down c = sym c.in-Down.is

pub returns-in-Final : goal.returns-in-Final
returns-in-Final c = sym c.in-Final.is

-- ---- lines with a value that is copied

pub returns-in_ok-copy-in-Exec : goal.returns-in_ok-copy-in-Exec
returns-in_ok-copy-in-Exec c =
    let l = c.in-Exec in
    ap (line.Exec l.replica l.place l.epoch l.stamp l.client l.number) c.in_ok-copy-in-Exec.ensures ∙ sym l.is

pub returns-in_ok-copy-in-Decide : goal.returns-in_ok-copy-in-Decide
returns-in_ok-copy-in-Decide c =
    let l = c.in-Decide in
    ap (λ members. line.Decide l.replica l.epoch members l.base_len l.count) c.in_ok-copy-in-Decide.ensures ∙ sym l.is

pub returns-in_ok-copy-in-Send : goal.returns-in_ok-copy-in-Send
returns-in_ok-copy-in-Send c =
    let l = c.in-Send in
    ap (line.Send l.index l.from l.to l.kind) c.in_ok-copy-in-Send.ensures ∙ sym l.is

pub returns-in_ok-copy-in-ReplyOk : goal.returns-in_ok-copy-in-ReplyOk
returns-in_ok-copy-in-ReplyOk c =
    let l = c.in-ReplyOk in
    ap (line.ReplyOk l.replica l.client l.number l.place) c.in_ok-copy-in-ReplyOk.ensures ∙ sym l.is

pub returns-in_ok-copy-in-Out : goal.returns-in_ok-copy-in-Out
returns-in_ok-copy-in-Out c = ap (line.Out c.in-Out.to) c.in_ok-copy-in-Out.ensures ∙ sym c.in-Out.is

pub returns-in_ok-copy-in-Back : goal.returns-in_ok-copy-in-Back
returns-in_ok-copy-in-Back c = ap (line.Back c.in-Back.address) c.in_ok-copy-in-Back.ensures ∙ sym c.in-Back.is
