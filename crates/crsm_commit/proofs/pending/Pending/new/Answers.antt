use Rattle.std.proofs.Common.{◌∙◌, ap, sym, refl, [], ◌∷◌}
use Rattle.crsm_spec.specs.Lists.{first_of}
use Rattle.crsm_commit.specs.Masks.{mask_at}
use Rattle.crsm_commit.proofs.Bits.{none_voted}
use Rattle.crsm_commit.proofs.Filed.{all_empty}
use Rattle.crsm_commit.proofs.pending.Pending.new.Goals as goal

pub returns : goal.returns
unfolding first_of
returns c tracked = record {
  count = refl;
  ascending = tt;
  queues = λ i within. all_empty (c.new.result ∷ c.new-2.result ∷ c.new-3.result ∷ c.new-4.result ∷ c.new-5.result ∷ c.new-6.result ∷ c.new-7.result ∷ c.new-8.result ∷ c.new-9.result ∷ c.new-10.result ∷ c.new-11.result ∷ c.new-12.result ∷ c.new-13.result ∷ c.new-14.result ∷ c.new-15.result ∷ c.new-16.result ∷ []) i (c.new.ensures, (c.new-2.ensures, (c.new-3.ensures, (c.new-4.ensures, (c.new-5.ensures, (c.new-6.ensures, (c.new-7.ensures, (c.new-8.ensures, (c.new-9.ensures, (c.new-10.ensures, (c.new-11.ensures, (c.new-12.ensures, (c.new-13.ensures, (c.new-14.ensures, (c.new-15.ensures, (c.new-16.ensures, (tt)))))))))))))))));
  first = refl;
  masks = λ s t. ap (λ masks. mask_at masks s) c.new-17.ensures ∙ sym (none_voted s);
}
