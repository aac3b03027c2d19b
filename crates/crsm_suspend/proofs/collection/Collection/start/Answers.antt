use Rattle.std.proofs.Common.{◌+◌, ap, sym, subst, refl, ◌≤◌, ◌∷◌, []}
use Rattle.crsm_spec.specs.Coordinate.{most_collected}
use Rattle.crsm_suspend.proofs.GrowLemmas.{no_reports}
use Rattle.crsm_suspend.proofs.collection.Collection.start.Goals as goal

pub returns : goal.returns
returns c = λ log e b. record {
  epoch = sym e;
  next = ap (λ n. n + 1) (sym e);
  begins = sym b;
  spec_is = refl;
  named_is = refl;
  members_are = refl;
  reports = no_reports (c.new.result ∷ c.new-2.result ∷ c.new-3.result ∷ c.new-4.result ∷ c.new-5.result ∷ c.new-6.result ∷ c.new-7.result ∷ c.new-8.result ∷ c.new-9.result ∷ c.new-10.result ∷ c.new-11.result ∷ c.new-12.result ∷ c.new-13.result ∷ c.new-14.result ∷ c.new-15.result ∷ []) refl
      (c.new.ensures, (c.new-2.ensures, (c.new-3.ensures, (c.new-4.ensures, (c.new-5.ensures, (c.new-6.ensures, (c.new-7.ensures, (c.new-8.ensures, (c.new-9.ensures, (c.new-10.ensures, (c.new-11.ensures, (c.new-12.ensures, (c.new-13.ensures, (c.new-14.ensures, (c.new-15.ensures, tt)))))))))))))));
  low_epoch = subst (λ n. n ≤ most_collected) (sym e) c.requires.epoch;
  low_start = subst (λ n. n ≤ most_collected) (sym b) c.requires.start;
  told = tt;
}
