-- A map's entries under the order of stamps.
use Rattle.std.proofs.Common.{◌≡◌, ℕ, Bool, true, false, refl, sym, ◌∙◌, ap, List, [], ◌∷◌, Option, arith}
use Rattle.std.specs.Prelude.{◌==◌, ◌&&◌, unwrap_or, if◌then◌else◌, cond}
use Rattle.std.specs.Ordering.{is_eq, nat_cmp, ordering_then}
use Rattle.std.specs.declared.cmp.Ordering.{Ordering}
use Rattle.std.specs.declared.cmp.Ordering.TheVariants.{Less, Equal, Greater}
use Rattle.std.specs.BTreeMap.{is_at}
use Rattle.std.proofs.lemmas.Bool.Decides.{nat_tests}
use Rattle.std.specs.Map.{lookup}
use Rattle.crsm_base.specs.declared.Stamp.{Stamp}
use Rattle.crsm_base.specs.Order.{stamp_eq}
use Rattle.crsm_base.specs.contracts.stamp.StampOrd.TheImpl as order
use Rattle.crsm_commit.specs.Masks.{mask_at}

is_eq-nat_cmp : (a b : ℕ) → is_eq (nat_cmp a b) ≡ (a == b)
is_eq-nat_cmp a b = grind (arith, nat_tests)

is_eq-then : (o p : Ordering) → is_eq (ordering_then o p) ≡ (is_eq o && is_eq p)
is_eq-then Less p = refl
is_eq-then Equal p = refl
is_eq-then Greater p = refl

pub ties : (s r : Stamp) → is_eq ((order.cmp-value).it s r) ≡ stamp_eq s r
unfolding stamp_eq
ties s r =
    is_eq-then (nat_cmp s.time r.time) (nat_cmp s.origin r.origin)
    ∙ ap (λ b. b && is_eq (nat_cmp s.origin r.origin)) (is_eq-nat_cmp s.time r.time) ∙ ap (λ b. (s.time == r.time) && b) (is_eq-nat_cmp s.origin r.origin)

-- a look-up by the order is one by equality
pub found_at : (s : Stamp) (es : List (Stamp × ℕ)) → lookup (is_at ((order.cmp-value).it s)) es ≡ lookup (stamp_eq s) es
found_at s [] = refl
found_at s (e ∷ es) = rw (ties s e.0, found_at s es) refl

either : (b : Bool) (here there : Option ℕ) → unwrap_or (cond b here there) 0 ≡ (if b then unwrap_or here 0 else unwrap_or there 0)
either true here there = refl
either false here there = refl

-- the masks where a map was changed at one stamp
pub changed_at : (stamp s : Stamp) (old new : List (Stamp × ℕ)) (mask : Option ℕ) →
    lookup (is_at ((order.cmp-value).it s)) new ≡ cond (is_at ((order.cmp-value).it stamp) s) mask (lookup (is_at ((order.cmp-value).it s)) old) →
    mask_at new s ≡ (if stamp_eq stamp s then unwrap_or mask 0 else mask_at old s)
changed_at stamp s old new mask e =
    ap (λ o. unwrap_or o 0) (sym (found_at s new) ∙ e)
    ∙ either (is_at ((order.cmp-value).it stamp) s) mask (lookup (is_at ((order.cmp-value).it s)) old)
    ∙ rw (ties stamp s, found_at s old) refl
