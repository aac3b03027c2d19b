use Rattle.std.proofs.Common.{◌≡◌, ◌∙◌, ℕ, true, false, refl, subst, arith}
use Rattle.std.specs.Prelude.{◌==◌}
use Rattle.std.proofs.lemmas.Bool.Decides.{nat_tests}
use Rattle.crsm_spec.specs.Lists.{numbers_below}
use Rattle.crsm_mpspec.specs.Sends.{others_below}
use Rattle.crsm_mpworld.specs.Effects.{HasSent, to_each}
use Rattle.crsm_mpworld.proofs.Letting.{sent_more, sent_none}
use Rattle.crsm_mpworld.proofs.Marked.{still_has_last, still_last}
use Rattle.crsm_mpworld.proofs.Receivers.{others_next, others_same}
use Rattle.crsm_mpworld.proofs.outgoing.send_to_others.Goals as goal
use Rattle.crsm_mpworld.proofs.outgoing.send_to_others.Goals.{then-to-me+in_ok-send_to, else-to-me}

pub loop-to-init : goal.loop-to-init
unfolding numbers_below
loop-to-init c = record {
  last = refl;
  sent = λ m last kind packets bytes h. sent_none c.args.k packets bytes c.args.lines.now c.args.network.now h;
}

pub loop-to-preserved : goal.loop-to-preserved
loop-to-preserved c =
    let me = c.args.me in
    let to = c.loop-to.to in
    let i = c.loop-to.invariant in
    elim c.if-to-me.branch [
      | then-to-me+in_ok-send_to w ↦
          let other : (to == me) ≡ false = grind (arith, nat_tests, w.if-to-me.true) in
          record {
            last = rw w.network-is (w.send_to.ensures.last ∙ i.last);
            sent = λ m last kind packets bytes h.
                rw (w.network-is, w.lines-is, others_next m me to other)
                (sent_more c.args.k (to_each m (others_below me to)) _ packets bytes c.args.lines.now c.loop-to.lines w.send_to.new.lines c.loop-to.network w.send_to.new.network
                (i.sent m last kind packets bytes h)
                (w.in_ok-send_to.ensures.sent m (still_last c.args.network.now c.loop-to.network c.args.k m i.last last) kind _ bytes (i.sent m last kind packets bytes h).stands));
          }
      | else-to-me w ↦
          let same : (to == me) ≡ true = grind (arith, nat_tests, w.if-to-me.false) in
          record {
            last = rw w.network-is i.last;
            sent = λ m last kind packets bytes h. rw (w.network-is, w.lines-is, others_same me to same) (i.sent m last kind packets bytes h);
          }
    ]

pub send_to-requires : goal.send_to-requires
send_to-requires c = still_has_last c.args.network.now c.loop-to.network c.loop-to.invariant.last c.requires

pub returns : goal.returns
returns c m last kind packets bytes h =
    let end : c.loop-to.to ≡ c.args.n = omega (arith, c.loop-to-test.false, c.loop-to.auto.to-end) in
    subst (λ (n : ℕ). HasSent c.args.k (to_each m (others_below c.args.me n)) packets bytes c.args.lines.now c.loop-to.network c.loop-to.lines) end
    (c.loop-to.invariant.sent m last kind packets bytes h)
