use Rattle.std.proofs.Common.{sym, arith}
use Rattle.crsm_kv.proofs.StoredLemmas.{by_heads, by_heads_back}
use Rattle.crsm_kv.proofs.stored.StoredKeyOrd.cmp.Goals as goal

pub returns-then-self-other : goal.returns-then-self-other
returns-then-self-other c =
    rw (← c.self.view_is, ← c.other.view_is) (sym (by_heads 0 8 c.self.inside.key c.other.inside.key c.self.invariant.1 c.other.invariant.1 (omega (arith, c.self.invariant.0, c.other.invariant.0, c.if-self-other.true))))

pub returns-then-self-other-2 : goal.returns-then-self-other-2
returns-then-self-other-2 c =
    rw (← c.self.view_is, ← c.other.view_is) (sym (by_heads_back c.self.inside.key c.other.inside.key c.self.invariant.1 c.other.invariant.1 (omega (arith, c.self.invariant.0, c.other.invariant.0, c.if-self-other-2.true))))
