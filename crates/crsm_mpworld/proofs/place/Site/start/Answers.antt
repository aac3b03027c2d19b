use Rattle.std.proofs.Common.{ℕ, refl, subst}
use Rattle.crsm_mpspec.specs.Log.{Log}
use Rattle.crsm_mpspec.specs.Step.{boot}
use Rattle.crsm_mpworld.specs.Sites.{Boots, IsAs}
use Rattle.crsm_mpworld.proofs.place.Site.start.Goals as goal

pub returns : goal.returns
returns c me n log h =
    let old = c.args.self.now in
    let P : ℕ → ℕ → Type 0 = λ i j. Boots c.in_ok-boot.boot i j log × IsAs c.boot.new.self (boot i j log).replica in
    let left = h.place.1 in
    let Q : Log → Type 0 = λ l. Boots c.in_ok-boot.boot old.me old.n l × IsAs c.boot.new.self (boot old.me old.n l).replica in
    let made = subst Q left.2 (c.in_ok-boot.ensures left.0 left.1) in
    let here : P me n = subst (λ (j : ℕ). P me j) h.n_is (subst (λ (i : ℕ). P i old.n) h.me_is made) in
    (here.0, record { me_is = h.me_is; n_is = h.n_is; place = (refl, here.1) })
