-- What a port of packets hands up is one of the datagrams that it gives, and it gives no more after a packet than before.
use Rattle.std.proofs.Common.{◌≡◌, ℕ, List, ◌∷◌, Option, Some, None, Ok, Err, refl, sym, subst, inl, inr}
use Rattle.std.specs.Prelude.{IfOk, IfSome, Result}
use Rattle.crsm_base.specs.declared.memory.Failed.{Failed}
use Rattle.crsm_port.specs.Passing.{Cut, Datagrams, IsOf, NoMore, Only, either}
use Rattle.crsm_port.specs.declared.port.Recv.{Recv}
use Rattle.crsm_port_packets.specs.Carrying.{Fragments, bundled_in, put_together}
use Rattle.crsm_port_packets.specs.Format.{FragmentFields}
use Rattle.crsm_port_packets.specs.Held.{Opens, fragments_with, made_of, unpacked}
use Rattle.crsm_port_packets.specs.Kept.{Forgets, kept_in}
use Rattle.crsm_port_packets.specs.Waiting.{waiting_in}
use Rattle.crsm_port_packets.specs.declared.received.Received.{Received}
use Rattle.crsm_port_packets.proofs.Unpackings.{cut_more, of_more}

pub put_more : (F G : Fragments) → ((address : ℕ) (f : FragmentFields) → G address f → F address f) → NoMore (put_together F) (put_together G)
put_more F G more address d (number, pieces, some, is, all) = (number, pieces, some, is, λ i lt. more address _ (all i lt))

-- the packet came from below
pub only_more : (P : Datagrams) (from : ℕ) (packet : List ℕ) → P from packet → NoMore P (Only from packet)
only_more P from packet came a b (at, same) = subst (λ (x : ℕ). P x b) (sym at) (subst (λ (x : List ℕ). P from x) (sym same) came)

module _ (P Q : Datagrams) (more : NoMore P Q) where
  bundled_more : NoMore (bundled_in P) (bundled_in Q)
  bundled_more a d (entries, came, stands) = (entries, more a (20 ∷ 0 ∷ entries) came, stands)

  pub fragments_more : (r : Received) (address : ℕ) (f : FragmentFields) → fragments_with Q r address f → fragments_with P r address f
  fragments_more r address f has = elim has [
    | inl kept ↦ inl kept
    | inr w ↦ inr (w.0, more address w.0 w.1, w.2)
  ]

  module _ (old new : Received) (waiting : NoMore (either (waiting_in old.unpacking) (bundled_in P)) (waiting_in new.unpacking))
      (kept : (address : ℕ) (f : FragmentFields) → kept_in new.fragments.pieces.items address f → fragments_with P old address f) where
    with_more : (address : ℕ) (f : FragmentFields) → fragments_with Q new address f → fragments_with P old address f
    with_more address f has = elim has [
      | inl here ↦ kept address f here
      | inr w ↦ inr (w.0, more address w.0 w.1, w.2)
    ]

    waited : (a : ℕ) (d : List ℕ) → waiting_in new.unpacking a d → made_of P old a d
    waited a d waits = elim (waiting a d waits) [
      | inl before ↦ inr (inl before)
      | inr stands ↦ inl (inr stands)
    ]

    made_more : NoMore (made_of P old) (made_of Q new)
    made_more a d is = elim is [
      | inl came ↦ elim came [
        | inl alone ↦ inl (inl (alone.0, more a d alone.1))
        | inr stands ↦ inl (inr (bundled_more a d stands))
      ]
      | inr rest ↦ elim rest [
        | inl waits ↦ waited a d waits
        | inr whole ↦ inr (inr (put_more (fragments_with P old) (fragments_with Q new) with_more a d whole))
      ]
    ]

    pub unpacked_more : NoMore (unpacked P old) (unpacked Q new)
    unpacked_more = cut_more (made_of P old) (made_of Q new) made_more

-- ---- after each call

module _ (P Q : Datagrams) (old new : Received) (more : NoMore P Q) where
  -- nothing was taken
  pub waits_less : NoMore (waiting_in old.unpacking) (waiting_in new.unpacking) → new.fragments ≡ old.fragments → NoMore (unpacked P old) (unpacked Q new)
  waits_less less same = unpacked_more P Q more old new (λ a d is. inl (less a d is))
      (λ a f is. inl (subst (λ (fs : _). kept_in fs.pieces.items a f) same is))

  -- fragments were forgotten
  pub forgets_more : (let held : Received = record old { fragments = new.fragments } in new ≡ held) → Forgets old.fragments.pieces.items new.fragments.pieces.items → NoMore (unpacked P old) (unpacked Q new)
  forgets_more same forgets = unpacked_more P Q more old new (λ a d is. inl (subst (λ (r : Received). waiting_in r.unpacking a d) same is))
      (λ a f (at, is). inl (at, forgets (record { from = a; at = at; fragment = f }) is))

  -- a packet from below was taken
  pub opened : (from : ℕ) (packet : List ℕ) → P from packet → Opens from packet old new → NoMore (unpacked P old) (unpacked Q new)
  opened from packet came opens = unpacked_more P Q more old new
      (λ a d is. elim (opens.waiting a d is) [
        | inl before ↦ inl before
        | inr w ↦ inr (w.0, only_more P from packet came a (20 ∷ 0 ∷ w.0) w.1, w.2)
      ])
      (λ a f is. fragments_more P (Only from packet) (only_more P from packet came) old a f (opens.kept a f is))

module _ (P : Datagrams) (old : Received) (buffer : List ℕ) (got : Recv) where
  module _ (from : ℕ) (packet : List ℕ) (came : P from packet) where
    -- one whose last fragment came
    pub is_whole : IsOf (Cut (put_together (fragments_with (Only from packet) old))) buffer got → IsOf (unpacked P old) buffer got
    is_whole is = of_more (unpacked P old) (Cut (put_together (fragments_with (Only from packet) old))) buffer got
        (cut_more (made_of P old) (put_together (fragments_with (Only from packet) old))
        (λ a d w. inr (inr (put_more (fragments_with P old) (fragments_with (Only from packet) old) (fragments_more P (Only from packet) (only_more P from packet came) old) a d w)))) is

  -- one of the bundle that is being taken apart
  pub is_next : IsOf (Cut (waiting_in old.unpacking)) buffer got → IsOf (unpacked P old) buffer got
  is_next is = of_more (unpacked P old) (Cut (waiting_in old.unpacking)) buffer got (cut_more (made_of P old) (waiting_in old.unpacking) (λ a d w. inr (inl w))) is

-- ---- where there may be no datagram

-- the last fragment of one may have come
pub may_be_whole : (from : ℕ) (packet : List ℕ) (old : Received) (buffer : List ℕ) (got : Option Recv) → IfSome got (IsOf (Cut (put_together (fragments_with (Only from packet) old))) buffer)
    → IfSome got (IsOf (unpacked (Only from packet) old) buffer)
may_be_whole from packet old buffer None is = tt
may_be_whole from packet old buffer (Some got) is = is_whole (Only from packet) old buffer got from packet (refl, refl) is

pub may_be_of : (D E : Datagrams) (buffer : List ℕ) (got : Option Recv) → NoMore D E → IfSome got (IsOf E buffer) → IfSome got (IsOf D buffer)
may_be_of D E buffer None more is = tt
may_be_of D E buffer (Some got) more is = of_more D E buffer got more is

pub ok_may_be_of : (D E : Datagrams) (buffer : List ℕ) (result : Result (Option Recv) Failed) → NoMore D E → IfOk result (λ got. IfSome got (IsOf E buffer)) → IfOk result (λ got. IfSome got (IsOf D buffer))
ok_may_be_of D E buffer (Ok got) more is = may_be_of D E buffer got more is
ok_may_be_of D E buffer (Err error) more is = tt

-- the packet came from below
pub unpacked_from : (P : Datagrams) (from : ℕ) (packet : List ℕ) (old : Received) → P from packet → NoMore (unpacked P old) (unpacked (Only from packet) old)
unpacked_from P from packet old came = waits_less P (Only from packet) old old (only_more P from packet came) (λ a d is. is) refl
