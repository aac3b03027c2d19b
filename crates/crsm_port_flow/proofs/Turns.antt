-- Requests in their turn.
use Rattle.std.proofs.Common.{◌≡◌, ◌∙◌, ◌++◌, ◌<◌, ℕ, Bool, true, false, cond, List, [], ◌∷◌, None, Some, length, ap, ap₂, refl, slice_index_or, sym, append_assoc, arith}
use Rattle.std.specs.Prelude.{◌&&◌, ◌==◌}
use Rattle.std.proofs.lemmas.Bool.{eqb-true}
use Rattle.std.proofs.lemmas.Option.{none-some}
use Rattle.std.proofs.lemmas.List.Elements.{All-push}
use Rattle.crsm_port_flow.specs.Turns.{DropsOver, IsOver, LeavesSome, reading_of}
use Rattle.crsm_port_flow.specs.declared.commands.Command.{Command}
use Rattle.crsm_port_flow.specs.declared.requests.Opened.{Opened}
use Rattle.crsm_port_flow.specs.declared.requests.Waiting.{Waiting}

-- the first one, and those behind it
pub first_of : (os : List Opened) (o : Opened) → 0 < length os → o ≡ slice_index_or os 0 o → (later : List Opened) × (os ≡ o ∷ later)
first_of [] o some at = absurd (omega (arith, some))
first_of (x ∷ xs) o some at = (xs, ap (λ (y : Opened). y ∷ xs) (sym at))

-- one more is dropped
pub drops_more : (now : ℕ) (old between new : List Waiting) (r : Waiting) → DropsOver now old between → between ≡ r ∷ new → IsOver now r → DropsOver now old new
drops_more now old between new r (gone, is, all) first over =
    (gone ++ r ∷ [], is ∙ ap (λ (rs : List Waiting). gone ++ rs) first ∙ sym (append_assoc gone (r ∷ []) new), All-push (IsOver now) gone r all over)

pub drops_none : (now : ℕ) (old new : List Waiting) → new ≡ old → DropsOver now old new
drops_none now old new same = ([], sym same, λ k d lt. absurd (omega (arith, lt)))

-- ---- commands by their readings

both_true : (p q : Bool) → true ≡ (p && q) → (p ≡ true) × (q ≡ true)
both_true true true e = (refl, refl)
both_true true false e = cc
both_true false q e = cc

pub same_command : (a b : Command) → true ≡ ((a.client == b.client) && (a.number == b.number)) → a ≡ b
same_command a b e =
    let (one, other) = both_true (a.client == b.client) (a.number == b.number) e in
    ap₂ (λ (x y : ℕ). let c : Command = record { client = x; number = y } in c) (eqb-true a.client b.client one) (eqb-true a.number b.number other)

-- one is taken out
pub leaves_one : (old new : List (Command × ℕ)) (test : Command → Bool) → ((q : Command) → reading_of q new ≡ cond (test q) None (reading_of q old)) → LeavesSome old new
leaves_one old new test is c at got = go (test c) (is c)
  where
    go : (b : Bool) → reading_of c new ≡ cond b None (reading_of c old) → reading_of c old ≡ Some at
    go true e = absurd (none-some at (sym e ∙ got))
    go false e = sym e ∙ got
