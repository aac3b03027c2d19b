use Rattle.std.proofs.Common.{◌≡◌, ◌∙◌, List, ℕ, inr, subst, sym, arith}
use Rattle.crsm_port_packets.specs.Cutting.{IsFragmentOf, SendsFragments}
use Rattle.crsm_port_packets.proofs.Cuttings.{cut_went, err_of, fragment_sent, loss_behind, was_ok}
use Rattle.crsm_port_packets.proofs.cutting.send_fragments.Goals as goal

pub returns-in_err-send-clause-sends : goal.returns-in_err-send-clause-sends
returns-in_err-send-clause-sends g c =
    let is = subst (λ (x : List ℕ). IsFragmentOf c.args.bytes.now c.args.name.now x) (sym c.as_slice.ensures.value) c.write_fragment.ensures.fragment in
    cut_went (g.P.Port.may_send c.args.port.now) (g.P.Port.may_send c.loop-index.port) (g.P.Port.may_send c.send.new.self) c.args.to c.args.bytes.now c.args.name.now c.as_slice.result.now c.loop-index.invariant.sends is
    c.send.ensures.passes_on.one_more_sent

pub returns-in_err-send-clause-refused : goal.returns-in_err-send-clause-refused
returns-in_err-send-clause-refused g c =
    err_of c.from_residual.result _ (inr (loss_behind c.args.to c.args.bytes.now c.args.name.now c.div_ceil-count.result c.loop-index.index (g.P.Port.meaning c.args.port.now) (g.P.Port.meaning c.loop-index.port) (g.P.Port.meaning c.send.new.self) c.loop-index.invariant.sent c.in_err-send.ensures.sends.failed))

pub loop-index-preserved : goal.loop-index-preserved
loop-index-preserved g c =
    let is = subst (λ (x : List ℕ). IsFragmentOf c.args.bytes.now c.args.name.now x) (sym c.as_slice.ensures.value) c.write_fragment.ensures.fragment in record {
      gives = λ a d h. c.loop-index.invariant.gives a d (c.send.ensures.passes_on.no_more_given a d h);
      sends = cut_went (g.P.Port.may_send c.args.port.now) (g.P.Port.may_send c.loop-index.port) (g.P.Port.may_send c.send.new.self) c.args.to c.args.bytes.now c.args.name.now c.as_slice.result.now c.loop-index.invariant.sends is
          c.send.ensures.passes_on.one_more_sent;
      sent = fragment_sent c.args.to c.args.bytes.now c.args.name.now c.as_slice.result.now c.div_ceil-count.result c.loop-index.index (g.P.Port.meaning c.args.port.now) (g.P.Port.meaning c.loop-index.port) (g.P.Port.meaning c.send.new.self) c.send.result
          (c.as_slice.ensures.value ∙ c.write_fragment.ensures.items) (was_ok c.send.result c.in_ok-send.field-0 c.in_ok-send.was) c.loop-index.invariant.sent c.send.ensures.sends;
      roomy = c.write_fragment.ensures.capacity;
    }

pub returns-clause-goes : goal.returns-clause-goes
returns-clause-goes g c =
    let count = c.div_ceil-count.result in
    let all : c.loop-index.index ≡ count = omega (arith, c.loop-index-test.false, c.loop-index.auto.index-end) in (
      count,
      omega (arith, c.div_ceil-count.ensures),
      omega (arith, c.if-count-gt-MOST_FRAGMENTS.false),
      subst (λ (n : ℕ). SendsFragments c.args.to c.args.bytes.now c.args.name.now count n (g.P.Port.meaning c.args.port.now) (g.P.Port.meaning c.loop-index.port)) all c.loop-index.invariant.sent,
    )
