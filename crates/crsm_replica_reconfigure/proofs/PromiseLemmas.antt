-- The rules of an acceptor.
use Rattle.std.proofs.Common.{◌≡◌, ℕ, ◌+◌, ◌<◌, ◌≤◌, refl, sym, ◌∙◌, ap, arith, Bool, true, false, length}
use Rattle.std.specs.Prelude.{nat_le}
use Rattle.std.proofs.lemmas.Bool.Decides.{nat_tests}
use Rattle.crsm_base.specs.Order.{ballot_lt, ballot_eq}
use Rattle.crsm_spec.specs.Types.{Ballot, Decision, Rec, Control}
use Rattle.crsm_spec.specs.Log.{known, promised, executed}
use Rattle.crsm_spec.specs.Draft.{Draft, keep, send_control, send_decision, send_retrieve}
use Rattle.crsm_spec.specs.Coordinate.{has_accepted}
use Rattle.crsm_spec.specs.Controls.{if_next, send_promise, on_p1a, on_p2a}
use Rattle.crsm_replica_reconfigure.proofs.DraftLemmas.{when_yes, when_no, send_fitting, decision_fitting, retrieve_fitting}

pub next_old : (k i : ℕ) (x y : Draft) → i ≤ known x.replica.log → if_next k i x y ≡ send_decision k x
unfolding if_next
next_old k i x y h = when_yes _ _ _ (grind (arith, nat_tests))

pub next_later : (k i : ℕ) (x y : Draft) → known x.replica.log + 1 < i → if_next k i x y ≡ send_retrieve k x
unfolding if_next
next_later k i x y h = when_no _ _ _ (grind (arith, nat_tests)) ∙ when_yes _ _ _ (grind (arith, nat_tests))

pub next_here : (k i : ℕ) (x y : Draft) → i ≡ known x.replica.log + 1 → if_next k i x y ≡ y
unfolding if_next
next_here k i x y h = when_no _ _ _ (grind (arith, nat_tests)) ∙ when_no _ _ _ (grind (arith, nat_tests))

pub other_fitting : (k i : ℕ) (x y : Draft) → (i ≡ known x.replica.log + 1 → ⊥) → (if_next k i x y).fitting ≡ x.fitting
unfolding if_next
other_fitting k i x y h = go (nat_le i (known x.replica.log)) refl
  where
    go : (b : Bool) → nat_le i (known x.replica.log) ≡ b → (if_next k i x y).fitting ≡ x.fitting
    go true e = ap (λ z. z.fitting) (next_old k i x y (grind (arith, nat_tests))) ∙ decision_fitting k x
    go false e =
        let far : known x.replica.log + 1 < i = distinct i (known x.replica.log) h e in
        ap (λ z. z.fitting) (next_later k i x y far) ∙ retrieve_fitting k x
      where
        distinct : (a b : ℕ) → (a ≡ b + 1 → ⊥) → nat_le a b ≡ false → b + 1 < a
        distinct a b n e = let l : b < a = grind (arith, nat_tests) in omega (arith, n, l)

-- ---- a ballot asks for a promise

pub p1a_promises : (k i : ℕ) (b top : Ballot) (x : Draft) → i ≡ known x.replica.log + 1 → top ≡ promised x.replica.log → ballot_lt top b ≡ true →
    on_p1a k i b x ≡ send_promise k i b (keep (Rec.Promise i b) x)
unfolding on_p1a
p1a_promises k i b top x n t h = next_here k i x _ n ∙ when_yes _ _ _ (ap (λ p. ballot_lt p b) (sym t) ∙ h)

pub p1a_repeats : (k i : ℕ) (b top : Ballot) (x : Draft) → i ≡ known x.replica.log + 1 → top ≡ promised x.replica.log → ballot_lt top b ≡ false → ballot_eq top b ≡ true →
    on_p1a k i b x ≡ send_promise k i b x
unfolding on_p1a
p1a_repeats k i b top x n t h e = next_here k i x _ n ∙ when_no _ _ _ (ap (λ p. ballot_lt p b) (sym t) ∙ h) ∙ when_yes _ _ _ (ap (λ p. ballot_eq p b) (sym t) ∙ e)

pub p1a_refuses : (k i : ℕ) (b top : Ballot) (x : Draft) → i ≡ known x.replica.log + 1 → top ≡ promised x.replica.log → ballot_lt top b ≡ false → ballot_eq top b ≡ false →
    on_p1a k i b x ≡ send_control (Control.P1no i b top) x k
unfolding on_p1a
p1a_refuses k i b top x n t h e =
    next_here k i x _ n ∙ when_no _ _ _ (ap (λ p. ballot_lt p b) (sym t) ∙ h) ∙ when_no _ _ _ (ap (λ p. ballot_eq p b) (sym t) ∙ e) ∙ ap (λ p. send_control (Control.P1no i b p) x k) (sym t)

pub promise_fitting : (k i : ℕ) (b : Ballot) (x : Draft) → (send_promise k i b x).fitting ≡ x.fitting
unfolding send_promise
promise_fitting k i b x = send_fitting _ x k

-- ---- a ballot proposes

pub p2a_refuses : (k i : ℕ) (b top : Ballot) (d : Decision) (x : Draft) → i ≡ known x.replica.log + 1 → top ≡ promised x.replica.log → ballot_lt b top ≡ true →
    on_p2a k i b d x ≡ send_control (Control.P1no i b top) x k
unfolding on_p2a
p2a_refuses k i b top d x n t h = next_here k i x _ n ∙ when_yes _ _ _ (ap (λ p. ballot_lt b p) (sym t) ∙ h) ∙ ap (λ p. send_control (Control.P1no i b p) x k) (sym t)

pub p2a_repeats : (k i : ℕ) (b top : Ballot) (d : Decision) (x : Draft) → i ≡ known x.replica.log + 1 → top ≡ promised x.replica.log → ballot_lt b top ≡ false → has_accepted b x ≡ true →
    on_p2a k i b d x ≡ send_control (Control.P2b i b) x k
unfolding on_p2a
p2a_repeats k i b top d x n t h a = next_here k i x _ n ∙ when_no _ _ _ (ap (λ p. ballot_lt b p) (sym t) ∙ h) ∙ when_yes _ _ _ a

pub p2a_lacks : (k i : ℕ) (b top : Ballot) (d : Decision) (x : Draft) (done : ℕ) → i ≡ known x.replica.log + 1 → top ≡ promised x.replica.log → ballot_lt b top ≡ false → has_accepted b x ≡ false →
    done ≡ length (executed x.replica.log) → done < d.base_len → on_p2a k i b d x ≡ send_retrieve k x
unfolding on_p2a
p2a_lacks k i b top d x done n t h a e l =
    next_here k i x _ n ∙ when_no _ _ _ (ap (λ p. ballot_lt b p) (sym t) ∙ h) ∙ when_no _ _ _ a ∙ when_yes _ _ _ (grind (arith, nat_tests))

pub p2a_accepts : (k i : ℕ) (b top : Ballot) (d : Decision) (x : Draft) (done : ℕ) → i ≡ known x.replica.log + 1 → top ≡ promised x.replica.log → ballot_lt b top ≡ false → has_accepted b x ≡ false →
    done ≡ length (executed x.replica.log) → d.base_len ≤ done → on_p2a k i b d x ≡ send_control (Control.P2b i b) (keep (Rec.Accept i b d) x) k
unfolding on_p2a
p2a_accepts k i b top d x done n t h a e l =
    next_here k i x _ n ∙ when_no _ _ _ (ap (λ p. ballot_lt b p) (sym t) ∙ h) ∙ when_no _ _ _ a ∙ when_no _ _ _ (grind (arith, nat_tests))
