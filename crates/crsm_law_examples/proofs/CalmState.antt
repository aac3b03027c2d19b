-- After one request three replicas are calm, and two calm rounds are possible.
use Rattle.std.proofs.Common.{◌≡◌, ℕ, zero, suc, ◌+◌, ◌<◌, ◌≤◌, List, [], ◌∷◌, ◌++◌, length, refl, sym, ap, subst, inl, inr, false, arith, get_or}
use Rattle.std.specs.Prelude.{Some, Option, slice_get, Contains}
use Rattle.std.specs.List.{AllByRecursion}
use Rattle.crsm_spec.specs.Types.{Op, Entry, Rec}
use Rattle.crsm_spec.specs.Lists.{Among}
use Rattle.crsm_spec.specs.Replica.{Replica, fresh, unacked}
use Rattle.crsm_spec.specs.World.{Site, Packet, World, begin, log_at}
use Rattle.crsm_spec.specs.Acts.{Act, IsU64}
use Rattle.crsm_spec.specs.Run.{ArePossible, after_acts, last_world}
use Rattle.crsm_spec.specs.Calm.{IsPart, IsLaterDecide, IsOpen, IsCalm, IsCalmAt, IsUpAs, calm_round}
use Rattle.crsm_law_examples.specs.Words.{request, stamp}
use Rattle.crsm_law_examples.specs.Calming.{all_three, ComesToCalm}
use Rattle.crsm_law_examples.proofs.Opened.{the_model}

abbrev schedule : List Act
schedule = Act.One (request 0 5 7 1 (Op.Put (97 ∷ []) (98 ∷ []))) ∷ []

abbrev calm_world : World
calm_world = last_world 3 schedule

abbrev later_world : World
later_world = after_acts calm_world (calm_round all_three 20)

abbrev submitted : Entry
submitted = record { epoch = 0; stamp = stamp 5 0; command = record { client = 7; number = 1; op = Op.Put (97 ∷ []) (98 ∷ []) } }

small : (n : ℕ) → n ≤ 255 → IsU64 n
small n le = omega (arith, le)

possible_run : ArePossible (begin 3) schedule
unfolding the_model
possible_run = ((small 0 (omega arith), small 5 (omega arith), record { client = omega arith; number = omega arith; op = (record { some = omega arith; most = omega arith }, record { most = omega arith }) }), refl, tt)

-- ---- lists

at_place : {A : Type 0} (xs : List A) (x : A) (i : ℕ) → i < length xs → get_or xs i x ≡ x → Among xs x
at_place [] x i lt e = absurd (omega (arith, lt))
at_place (y ∷ ys) x zero lt e = inl e
at_place (y ∷ ys) x (suc i) lt e = inr (at_place ys x i (omega (arith, lt)) e)

among : {A : Type 0} (xs : List A) (x : A) → Contains xs x → Among xs x
among xs x c = at_place xs x c.0 c.1 c.2

each : {A : Type 0} (P : A → Type 0) (xs : List A) (x : A) → AllByRecursion P xs → Contains xs x → P x
each P xs x all c = go xs (among xs x c) all
  where
    go : (ys : List _) → Among ys x → AllByRecursion P ys → P x
    go [] m all = absurd m
    go (y ∷ ys) (inl e) all = subst P e all.0
    go (y ∷ ys) (inr m) all = go ys m all.1

-- ---- replicas

replica_of : Option Site → Replica
replica_of (Some (Site.Up r)) = r
replica_of _ = fresh 0 0 []

at_number : World → ℕ → Replica
at_number w k = replica_of (slice_get w.sites k)

up_is : (w : World) (k : ℕ) (r : Replica) → IsUpAs w k r → at_number w k ≡ r
unfolding at_number replica_of
up_is w k r up = ap replica_of up

-- ---- the calm state

links_short : (w : World) (k : ℕ) → AllByRecursion (λ j. length (unacked (at_number w k) j) ≤ 16) all_three → (j : ℕ) → Contains all_three j → length (unacked (at_number w k) j) ≤ 16
links_short w k all j c = each (λ i. length (unacked (at_number w k) i) ≤ 16) all_three j all c

member_0 : IsCalmAt 0 all_three calm_world 0
unfolding the_model at_number replica_of
member_0 = record {
  replica = at_number calm_world 0;
  up = refl;
  calm = record { known = refl; active = refl; counts = refl; links = links_short calm_world 0 (omega arith, (omega arith, (omega arith, tt))); owed = omega arith };
}

member_1 : IsCalmAt 0 all_three calm_world 1
unfolding the_model at_number replica_of
member_1 = record {
  replica = at_number calm_world 1;
  up = refl;
  calm = record { known = refl; active = refl; counts = refl; links = links_short calm_world 1 (omega arith, (omega arith, (omega arith, tt))); owed = omega arith };
}

member_2 : IsCalmAt 0 all_three calm_world 2
unfolding the_model at_number replica_of
member_2 = record {
  replica = at_number calm_world 2;
  up = refl;
  calm = record { known = refl; active = refl; counts = refl; links = links_short calm_world 2 (omega arith, (omega arith, (omega arith, tt))); owed = omega arith };
}

none_later : (k : ℕ) → AllByRecursion (λ rec. IsLaterDecide 0 rec → ⊥) (log_at calm_world k)
unfolding the_model
none_later zero = ((λ d. d), ((λ d. d), ((λ d. d), tt)))
none_later (suc zero) = ((λ d. d), ((λ d. d), tt))
none_later (suc (suc zero)) = ((λ d. d), ((λ d. d), tt))
none_later (suc (suc (suc k))) = tt

no_parts : AllByRecursion (λ (m : Packet). m.used ≡ false → IsPart m.datagram → ⊥) calm_world.packets
unfolding the_model
no_parts = ((λ u p. p), ((λ u p. p), tt))

one_entry : (k : ℕ) → AllByRecursion (λ rec. (f : Entry) → rec ≡ Rec.Prepare f → submitted ≡ f) (log_at calm_world k)
unfolding the_model
one_entry zero = ((λ f e. cc), ((λ f e. absurd (cc)), ((λ f e. absurd (cc)), tt)))
one_entry (suc zero) = ((λ f e. absurd (cc)), ((λ f e. absurd (cc)), tt))
one_entry (suc (suc zero)) = ((λ f e. absurd (cc)), ((λ f e. absurd (cc)), tt))
one_entry (suc (suc (suc k))) = tt

is_calm : IsCalm 0 all_three calm_world
is_calm = record {
  up = (member_0, (member_1, (member_2, tt)));
  latest = λ k rec c. each (λ z. IsLaterDecide 0 z → ⊥) (log_at calm_world k) rec (none_later k) c;
  quiet = λ m c. each (λ (z : Packet). z.used ≡ false → IsPart z.datagram → ⊥) calm_world.packets m no_parts c;
  entries = submitted ∷ [];
  all_open = λ f o. only f (each (λ z. (g : Entry) → z ≡ Rec.Prepare g → submitted ≡ g) (log_at calm_world o.by) (Rec.Prepare f) (one_entry o.by) o.logged f refl);
  few_open = omega arith;
}
  where
    only : (f : Entry) → submitted ≡ f → Contains (submitted ∷ []) f
    only f e = subst (Contains (submitted ∷ [])) e (0, omega arith, refl)

is_open : IsOpen 0 all_three calm_world submitted
unfolding the_model
is_open = record {
  epoch = refl;
  by = 0;
  member = (0, omega arith, refl);
  logged = (0, omega arith, refl);
  unfinished = λ all. absurd (among [] submitted all.0);
}

-- ---- readings

low : ℕ → World → ℕ → Type 0
low reading w k = AllByRecursion (λ t. t + 10 ≤ reading) (at_number w k).issued

reading_above : (reading : ℕ) (w : World) → ((k : ℕ) → low reading w k) → (k t : ℕ) (r : Replica) → Contains all_three k → IsUpAs w k r → Contains r.issued t → t + 10 ≤ reading
unfolding low
reading_above reading w all k t r member up c = each (λ z. z + 10 ≤ reading) (at_number w k).issued t (all k) (subst (λ (z : Replica). Contains z.issued t) (sym (up_is w k r up)) c)

first_low : (k : ℕ) → low 20 calm_world k
unfolding the_model low at_number replica_of
first_low zero = (omega arith, tt)
first_low (suc zero) = tt
first_low (suc (suc zero)) = tt
first_low (suc (suc (suc k))) = tt

second_low : (k : ℕ) → low 60 later_world k
unfolding the_model low at_number replica_of
second_low zero = (omega arith, (omega arith, tt))
second_low (suc zero) = (omega arith, (omega arith, tt))
second_low (suc (suc zero)) = (omega arith, (omega arith, tt))
second_low (suc (suc (suc k))) = tt

possible_rounds : ArePossible calm_world (calm_round all_three 20 ++ calm_round all_three 60)
unfolding the_model
possible_rounds = (
  (small 0 (omega arith), small 20 (omega arith)),
  refl,
  (
    (small 1 (omega arith), small 20 (omega arith)),
    refl,
    (
      (small 2 (omega arith), small 20 (omega arith)),
      refl,
      (
        small 20 (omega arith),
        refl,
        (
          (small 0 (omega arith), small 60 (omega arith)),
          refl,
          (
            (small 1 (omega arith), small 60 (omega arith)),
            refl,
            (
              (small 2 (omega arith), small 60 (omega arith)),
              refl,
              (small 60 (omega arith), refl, tt),
            ),
          ),
        ),
      ),
    ),
  ),
)

pub calming : ComesToCalm
unfolding the_model
calming = record {
  acts = schedule;
  possible = possible_run;
  calm = is_calm;
  entry = submitted;
  open_entry = is_open;
  first = record { above = reading_above 20 calm_world first_low; below = omega arith };
  second = record { above = reading_above 60 later_world second_low; below = omega arith };
  rounds = possible_rounds;
  room = refl;
}
