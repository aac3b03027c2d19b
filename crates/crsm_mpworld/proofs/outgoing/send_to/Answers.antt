use Rattle.std.proofs.Common.{◌∙◌, ◌++◌, ◌∷◌, [], ap, length}
use Rattle.crsm_mpspec.specs.declared.line.MpLine.{MpLine}
use Rattle.crsm_mpspec.specs.World.{send_line, send_lines}
use Rattle.crsm_mpworld.proofs.outgoing.send_to.Goals as goal

pub returns-clause-sent : goal.returns-clause-sent
unfolding send_lines send_line
returns-clause-sent c m last kind packets bytes h = record {
  stands = c.in_ok-send.ensures.sent c.args.k m last packets bytes h;
  told = c.in_ok-push.ensures.ok
      ∙ ap (λ n. c.args.lines.now ++ MpLine.Send n c.args.k c.args.to c.args.kind ∷ []) (c.count.ensures packets bytes h)
      ∙ ap (λ t. c.args.lines.now ++ MpLine.Send (length packets) c.args.k c.args.to t ∷ []) kind;
}
