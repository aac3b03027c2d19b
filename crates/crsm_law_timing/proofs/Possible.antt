-- Each event of a timeline is possible.
use Rattle.std.proofs.Common.{◌≡◌, ℕ, ◌≤◌, [], ◌∷◌, ◌∙◌, ap, Bool, false, cond, arith}
use Rattle.std.specs.Prelude.{Some, None, slice_get, not}
use Rattle.std.specs.Option.{option_map_or}
use Rattle.std.proofs.lemmas.Bool.Decides.{nat_tests}
use Rattle.crsm_base.specs.Spelling.{FitsCommand}
use Rattle.crsm_spec.specs.Types.{Command}
use Rattle.crsm_spec.specs.Replica.{Replica}
use Rattle.crsm_spec.specs.World.{Site, Packet, World, is_up, is_up_at, is_full}
use Rattle.crsm_spec.specs.Acts.{Single, Act, Bad}
use Rattle.crsm_spec.specs.Possible.{first_bad, is_none_of, is_down_at, is_not_sent, is_receiver_down, is_used, causes_at, causes_of_single, causes_of, possible}
use Rattle.crsm_fact_log.proofs.Lists.{get_inside}
use Rattle.crsm_spec_plan.specs.Timelines.{the_command}

pub command_can_be_spelt : FitsCommand the_command
unfolding the_command
command_can_be_spelt = record { client = omega arith; number = omega arith; op = (record { some = omega arith; most = omega arith }, record { most = omega arith }) }

not_full : (w : World) → w.bytes ≤ 200000 → is_full w ≡ false
unfolding is_full
not_full w le = grind (arith, nat_tests, le)

is_there : (w : World) (k : ℕ) (r : Replica) → slice_get w.sites k ≡ Some (Site.Up r) → is_none_of w k ≡ false
unfolding is_none_of
is_there w k r e = let lt = get_inside w.sites k (Site.Up r) e in grind (arith, nat_tests, lt)

is_not_down : (w : World) (k : ℕ) (r : Replica) → slice_get w.sites k ≡ Some (Site.Up r) → is_down_at w k ≡ false
unfolding is_down_at is_up_at is_up
is_not_down w k r e = ap (λ o. not (option_map_or is_up o false)) e

first_of_three : (a b c : Bool) (x y z : Bad) → a ≡ false → b ≡ false → c ≡ false → first_bad ((a, x) ∷ (b, y) ∷ (c, z) ∷ []) ≡ None
unfolding first_bad
first_of_three a b c x y z p q r = ap (λ d. cond d (Some x) (first_bad ((b, y) ∷ (c, z) ∷ []))) p ∙ ap (λ d. cond d (Some y) (first_bad ((c, z) ∷ []))) q ∙ ap (λ d. cond d (Some z) None) r

first_of_four : (a b c d : Bool) (x y z u : Bad) → a ≡ false → b ≡ false → c ≡ false → d ≡ false → first_bad ((a, x) ∷ (b, y) ∷ (c, z) ∷ (d, u) ∷ []) ≡ None
unfolding first_bad
first_of_four a b c d x y z u p q r s = ap (λ e. cond e (Some x) (first_bad ((b, y) ∷ (c, z) ∷ (d, u) ∷ []))) p ∙ first_of_three b c d y z u q r s

pub request_possible : (w : World) (k t : ℕ) (c : Command) (r : Replica) → w.bytes ≤ 200000 → slice_get w.sites k ≡ Some (Site.Up r) → possible w (Act.One (Single.Request k t c)) ≡ None
unfolding possible causes_of causes_of_single causes_at
request_possible w k t c r le e = first_of_three _ _ _ _ _ _ (not_full w le) (is_there w k r e) (is_not_down w k r e)

pub tick_possible : (w : World) (k t : ℕ) (r : Replica) → w.bytes ≤ 200000 → slice_get w.sites k ≡ Some (Site.Up r) → possible w (Act.One (Single.Tick k t)) ≡ None
unfolding possible causes_of causes_of_single causes_at
tick_possible w k t r le e = first_of_three _ _ _ _ _ _ (not_full w le) (is_there w k r e) (is_not_down w k r e)

sent_there : (w : World) (i : ℕ) (m : Packet) → slice_get w.packets i ≡ Some m → is_not_sent w i ≡ false
unfolding is_not_sent
sent_there w i m e = let lt = get_inside w.packets i m e in grind (arith, nat_tests, lt)

still_fresh : (w : World) (i : ℕ) (m : Packet) → slice_get w.packets i ≡ Some m → m.used ≡ false → is_used w i ≡ false
unfolding is_used
still_fresh w i m e f = ap (λ o. option_map_or (λ (m : Packet). m.used) o false) e ∙ f

receiver_up : (w : World) (i : ℕ) (m : Packet) (r : Replica) → slice_get w.packets i ≡ Some m → slice_get w.sites m.to ≡ Some (Site.Up r) → is_receiver_down w i ≡ false
unfolding is_receiver_down
receiver_up w i m r e u = ap (λ o. option_map_or (λ (m : Packet). is_down_at w m.to) o false) e ∙ is_not_down w m.to r u

pub go_possible : (w : World) (i t : ℕ) (m : Packet) (r : Replica) → w.bytes ≤ 200000 → slice_get w.packets i ≡ Some m → m.used ≡ false → slice_get w.sites m.to ≡ Some (Site.Up r) →
    possible w (Act.One (Single.Go i t)) ≡ None
unfolding possible causes_of causes_of_single
go_possible w i t m r le e f u = first_of_four _ _ _ _ _ _ _ _ (not_full w le) (sent_there w i m e) (still_fresh w i m e f) (receiver_up w i m r e u)
