use Rattle.std.proofs.Common.{◌∙◌, ap, sym, subst}
use Rattle.crsm_kv.specs.Stored.{head_of, AreBytes}
use Rattle.crsm_kv.proofs.stored.StoredKey.copy_of.Goals as goal

pub invariant_of-result : goal.invariant_of-result
invariant_of-result c =
    let same = c.as_slice.ensures ∙ sym c.in_ok-copy.ensures in
    (c.head_of.ensures.head ∙ ap head_of same, subst AreBytes same c.head_of.ensures.bytes)
