-- Control messages about the known epoch.
use Rattle.std.proofs.Common.{◌≡◌, ◌+◌, ◌<◌, ℕ, List, [], ◌∷◌, refl, sym, ap, ◌∙◌, length, take, get_or}
use Rattle.std.specs.Prelude.{fold, Option, Some, None}
use Rattle.std.specs.Option.{option_map_or}
use Rattle.std.proofs.lemmas.List.{take_more}
use Rattle.std.proofs.lemmas.Grind.{fold-append}
use Rattle.crsm_spec.specs.Types.{Decision, Control}
use Rattle.crsm_spec.specs.Log.{decision}
use Rattle.crsm_spec.specs.Draft.{Draft, send_control, send_to_each, send_decision}

-- it is sent where there is one
pub send_control-known : (k : ℕ) (x : Draft) (d : Decision) → decision x.replica.log ≡ Some d → send_decision k x ≡ send_control (Control.Decide d) x k
unfolding send_decision
send_control-known k x d is = ap (λ o. option_map_or (λ e. send_control (Control.Decide e) x k) o x) is

none-is : (o : Option Decision) → ((d : Decision) → o ≡ Some d → ⊥) → o ≡ None
none-is None never = refl
none-is (Some d) never = absurd (never d refl)

pub send_control-unknown : (k : ℕ) (x : Draft) → ((d : Decision) → decision x.replica.log ≡ Some d → ⊥) → send_decision k x ≡ x
unfolding send_decision
send_control-unknown k x never = ap (λ o. option_map_or (λ e. send_control (Control.Decide e) x k) o x) (none-is (decision x.replica.log) never)

-- one more is sent
pub send_control-more : (c : Control) (x : Draft) (ks : List ℕ) (i d : ℕ) → i < length ks → send_control c (send_to_each (take i ks) c x) (get_or ks i d) ≡ send_to_each (take (i + 1) ks) c x
unfolding send_to_each
send_control-more c x ks i d within =
    sym (ap (λ js. fold (send_control c) x js) (take_more ks i d within) ∙ fold-append (send_control c) x (take i ks) (get_or ks i d ∷ []))

pub send_control-none : (c : Control) (x : Draft) → send_to_each [] c x ≡ x
unfolding send_to_each
send_control-none c x = refl
