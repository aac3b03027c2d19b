-- The state of a replica of a timeline, by its progress with the command.
use Rattle.std.proofs.Common.{◌≡◌, ◌≢◌, ℕ, zero, suc, ◌+◌, ◌<◌, ◌≤◌, List, [], ◌∷◌, ◌++◌, length, refl, sym, ◌∙◌, ap, subst, inl, inr, Bool, true, false, cond, arith, map}
use Rattle.std.specs.Prelude.{IsTrue, ◌⊎◌, Some, None, nat_le, ◌==◌, ◌&&◌, ◌||◌, count_by, filter, option_map, option_to_list}
use Rattle.std.specs.List.{list_all, list_any, range_with_len}
use Rattle.std.proofs.lemmas.Bool.{false≢true, eq-eqb, eqb-true, and_parts, cases_eq}
use Rattle.std.proofs.lemmas.Bool.Decides.{nat_tests}
use Rattle.std.proofs.lemmas.List.Sums.{sum_by-cons}
use Rattle.crsm_base.specs.Order.{stamp_eq, stamp_lt}
use Rattle.crsm_spec.specs.Types.{Stamp, Entry, Rec}
use Rattle.crsm_spec.specs.Lists.{Among, first_of, last_of, numbers_below}
use Rattle.crsm_spec.specs.Paxos.{majority}
use Rattle.crsm_spec.specs.Quorum.{spec_decided}
use Rattle.crsm_spec.specs.Log.{Log, known, decision, members, spec, active, live, suspended, logged, logged_in, with_entry, unexecuted, executed, entry_of, last_stamp, above}
use Rattle.crsm_spec.specs.Replica.{Replica, members_of, spec_of}
use Rattle.crsm_spec.specs.Ready.{is_ready, is_replicated, is_stable, is_next, all_received, reached, voted, votes_for}
use Rattle.crsm_fact_log.proofs.Lists.{list_all_at, among_left, among_right, among_either}
use Rattle.crsm_fact_log.proofs.Sorted.{eq_self}
use Rattle.crsm_law_epoch.proofs.Words.{among_map, among_unmap, any_is, range_is, is_range}
use Rattle.crsm_spec_plan.specs.declared.Plan.{Plan}
use Rattle.crsm_spec_plan.specs.Plans.{stamped}
use Rattle.crsm_spec_plan.specs.Timelines.{the_command}

abbrev pub the_stamp : Plan → Stamp
the_stamp plan = record { time = stamped plan; origin = plan.origin }

abbrev pub the_entry : Plan → Entry
the_entry plan = record { epoch = 0; stamp = the_stamp plan; command = the_command }

-- The progress of a replica: nothing is logged; the command is, and its acknowledgement is pending; a time was issued;
-- the command is executed.
pub data Part : Type 0 where
  Bare : Part
  Owing : Part
  Passed : ℕ → Part
  Done : ℕ → Part

abbrev pub log_in : Plan → ℕ → Part → Log
log_in plan k Part.Bare = Rec.Enter 0 ∷ Rec.Boot k plan.n ∷ []
log_in plan k Part.Owing = Rec.Prepare (the_entry plan) ∷ Rec.Enter 0 ∷ Rec.Boot k plan.n ∷ []
log_in plan k (Part.Passed t) = Rec.Prepare (the_entry plan) ∷ Rec.Enter 0 ∷ Rec.Boot k plan.n ∷ []
log_in plan k (Part.Done t) = Rec.Commit (the_stamp plan) ∷ Rec.Prepare (the_entry plan) ∷ Rec.Enter 0 ∷ Rec.Boot k plan.n ∷ []

abbrev pub issued_in : Part → List ℕ
issued_in Part.Bare = []
issued_in Part.Owing = []
issued_in (Part.Passed t) = t ∷ []
issued_in (Part.Done t) = t ∷ []

abbrev pub owed_in : Plan → Part → List Stamp
owed_in plan Part.Bare = []
owed_in plan Part.Owing = the_stamp plan ∷ []
owed_in plan (Part.Passed t) = []
owed_in plan (Part.Done t) = []

-- a time that was issued is not below the command's
abbrev pub IsPast : Plan → Part → Type 0
IsPast plan Part.Bare = Unit {0}
IsPast plan Part.Owing = Unit {0}
IsPast plan (Part.Passed t) = stamped plan ≤ t
IsPast plan (Part.Done t) = stamped plan ≤ t

abbrev pub HasLogged : Part → Type 0
HasLogged Part.Bare = ⊥
HasLogged _ = Unit {0}

-- nothing was pushed yet
abbrev pub IsFirst : Part → Type 0
IsFirst Part.Bare = Unit {0}
IsFirst Part.Owing = Unit {0}
IsFirst _ = ⊥

-- Replica k is r, so far with the command.
pub record Plays (plan : Plan) (k : ℕ) (p : Part) (r : Replica) : Type 0 where
  pub me : r.me ≡ k
  pub n : r.n ≡ plan.n
  pub log : r.log ≡ log_in plan k p
  pub issued : r.issued ≡ issued_in p
  pub owed : r.owed ≡ owed_in plan p
  pub past : IsPast plan p
  pub pushed : IsFirst p → r.pushed ≡ []
  pub took : (m t : ℕ) → Among r.received (m, t) → Among r.taken m
  pub heard : (m : ℕ) → Among r.taken m → (t : ℕ) × Among r.received (m, t) × (stamped plan ≤ t)
  pub votes : (m : ℕ) → Among r.taken m → m ≢ plan.origin → Among r.votes (the_stamp plan, m)
  pub own : HasLogged p → Among r.votes (the_stamp plan, k) × Among r.votes (the_stamp plan, plan.origin)
  pub apart : (m : ℕ) → Among r.taken m → m ≢ k

-- all others have been heard
abbrev pub IsComplete : Plan → ℕ → Replica → Type 0
IsComplete plan k r = (m : ℕ) → m < plan.n → m ≢ k → Among r.taken m

-- ---- what the logs say

pub is_active : (plan : Plan) (k : ℕ) (p : Part) → IsTrue (active (log_in plan k p))
unfolding active live suspended
is_active plan k Part.Bare = refl
is_active plan k Part.Owing = refl
is_active plan k (Part.Passed t) = refl
is_active plan k (Part.Done t) = refl

pub is_known : (plan : Plan) (k : ℕ) (p : Part) → known (log_in plan k p) ≡ 0
unfolding known decision
is_known plan k Part.Bare = refl
is_known plan k Part.Owing = refl
is_known plan k (Part.Passed t) = refl
is_known plan k (Part.Done t) = refl

pub are_members : (plan : Plan) (k : ℕ) (p : Part) → members plan.n (log_in plan k p) ≡ numbers_below plan.n
unfolding members decision
are_members plan k Part.Bare = refl
are_members plan k Part.Owing = refl
are_members plan k (Part.Passed t) = refl
are_members plan k (Part.Done t) = refl

pub is_spec : (plan : Plan) (k : ℕ) (p : Part) → spec plan.n (log_in plan k p) ≡ numbers_below plan.n
unfolding spec spec_decided decision
is_spec plan k Part.Bare = refl
is_spec plan k Part.Owing = refl
is_spec plan k (Part.Passed t) = refl
is_spec plan k (Part.Done t) = refl

lt_self : (s : Stamp) → stamp_lt s s ≡ false
unfolding stamp_lt
lt_self s = grind (arith, nat_tests)

-- what is logged and not executed
abbrev pub left_in : Plan → Part → List Entry
left_in plan Part.Bare = []
left_in plan Part.Owing = the_entry plan ∷ []
left_in plan (Part.Passed t) = the_entry plan ∷ []
left_in plan (Part.Done t) = []

pub is_left : (plan : Plan) (k : ℕ) (p : Part) → unexecuted (log_in plan k p) ≡ left_in plan p
unfolding unexecuted above last_stamp logged logged_in with_entry known decision executed entry_of last_of
is_left plan k Part.Bare = refl
is_left plan k Part.Owing = refl
is_left plan k (Part.Passed t) = refl
is_left plan k (Part.Done t) =
    let s = the_stamp plan in
    let e = the_entry plan in
    ap (λ (b : Bool). above (option_map (λ (f : Entry). f.stamp) (last_of (filter (λ f. f.epoch == 0) (option_to_list (cond b (Some e) None))))) (e ∷ [])) (eq_self s)
    ∙ ap (λ (b : Bool). cond b (e ∷ []) []) (lt_self s)

-- what the commit of the command executes
pub finds_it : (plan : Plan) (k t : ℕ) → entry_of (log_in plan k (Part.Passed t)) (the_stamp plan) ≡ Some (the_entry plan)
unfolding entry_of logged logged_in with_entry known decision
finds_it plan k t = ap (λ (b : Bool). cond b (Some (the_entry plan)) None) (eq_self (the_stamp plan))

-- ---- who is ready

counts_all : (p : ℕ → Bool) (ks : List ℕ) → ((m : ℕ) → Among ks m → IsTrue (p m)) → count_by p ks ≡ length ks
counts_all p [] h = refl
counts_all p (k ∷ ks) h =
    let e = counts_all p ks (λ m a. h m (inr a)) in
    sum_by-cons (λ j. cond (p j) 1 0) k ks ∙ ap (λ (b : Bool). cond b 1 0 + count_by p ks) (h k (inl refl)) ∙ omega (arith, e)

pub all_of : (p : ℕ → Bool) (ks : List ℕ) → ((m : ℕ) → Among ks m → IsTrue (p m)) → IsTrue (list_all p ks)
all_of p [] h = refl
all_of p (k ∷ ks) h = both (p k) (list_all p ks) (h k (inl refl)) (all_of p ks (λ m a. h m (inr a)))
  where
    both : (a b : Bool) → a ≡ true → b ≡ true → (a && b) ≡ true
    both true b e f = f
    both false b e f = absurd (false≢true e)

pub any_of : {A : Type 0} (p : A → Bool) (xs : List A) (x : A) → Among xs x → IsTrue (p x) → IsTrue (list_any p xs)
any_of p [] x m h = absurd m
any_of p (y ∷ ys) x (inl e) h = either (p y) (list_any p ys) (subst (λ z. IsTrue (p z)) (sym e) h)
  where
    either : (a b : Bool) → a ≡ true → (a || b) ≡ true
    either true b q = refl
    either false b q = absurd (false≢true q)
any_of p (y ∷ ys) x (inr m) h = either (p y) (list_any p ys) (any_of p ys x m h)
  where
    either : (a b : Bool) → b ≡ true → (a || b) ≡ true
    either true b q = refl
    either false b q = q

pub below_is : (n k : ℕ) → Among (numbers_below n) k → k < n
unfolding numbers_below
below_is n k m = let t = range_is 0 n k m in omega (arith, t.1)

pub is_below : (n k : ℕ) → k < n → Among (numbers_below n) k
unfolding numbers_below
is_below n k lt = is_range 0 n k (omega arith) (omega (arith, lt))

pub many_below : (n : ℕ) → length (numbers_below n) ≡ n
unfolding numbers_below
many_below n = range_length 0 n
  where
    range_length : (a n : ℕ) → length (range_with_len a n) ≡ n
    range_length a zero = refl
    range_length a (suc n) = ap suc (range_length (a + 1) n)

-- who was heard at the time or later
reached_from : (plan : Plan) (k : ℕ) (p : Part) (r : Replica) → Plays plan k p r → (m : ℕ) → m ≢ k → IsTrue (reached (all_received r) (stamped plan) m) → Among r.taken m
unfolding reached all_received
reached_from plan k p r h m ne is =
    let a = any_is (λ h. h.0 == m && nat_le (stamped plan) h.1) (map (λ t. (r.me, t)) r.issued ++ r.received) is in
    let same : a.0.0 ≡ m = eqb-true (a.0.0) m (and_parts (a.0.0 == m) (nat_le (stamped plan) a.0.1) a.2).0 in
    go a.0 same (among_either (map (λ t. (r.me, t)) r.issued) r.received a.0 a.1)
  where
    go : (x : ℕ × ℕ) → x.0 ≡ m → Among (map (λ t. (r.me, t)) r.issued) x ⊎ Among r.received x → Among r.taken m
    go x e (inl i) = let u = among_unmap (λ t. (r.me, t)) r.issued x i in absurd (ne (sym e ∙ sym (ap (λ (z : ℕ × ℕ). z.0) u.2) ∙ h.me))
    go x e (inr i) = h.took m x.1 (subst (λ (z : ℕ × ℕ). Among r.received z) (pair x m e) i)
      where
        pair : (x : ℕ × ℕ) (m : ℕ) → x.0 ≡ m → x ≡ (m, x.1)
        pair x m e = ap (λ (z : ℕ). (z, x.1)) e

its_reach : (plan : Plan) (k : ℕ) (t : ℕ) (r : Replica) → Plays plan k (Part.Passed t) r → (m : ℕ) → Among r.taken m ⊎ (m ≡ k) → IsTrue (reached (all_received r) (stamped plan) m)
unfolding reached all_received
its_reach plan k t r h m (inl a) =
    let g = h.heard m a in
    any_of (λ h. h.0 == m && nat_le (stamped plan) h.1) _ (m, g.0) (among_right (map (λ t. (r.me, t)) r.issued) r.received (m, g.0) g.1) (passes m (eq-eqb m m refl) g.0 g.2)
  where
    passes : (j : ℕ) → j == m ≡ true → (u : ℕ) → stamped plan ≤ u → (j == m && nat_le (stamped plan) u) ≡ true
    passes j e u le = ap (λ (b : Bool). b && nat_le (stamped plan) u) e ∙ grind (arith, nat_tests, le)
its_reach plan k t r h m (inr e) =
    any_of (λ h. h.0 == m && nat_le (stamped plan) h.1) _ (r.me, t) (among_left _ r.received (r.me, t) (among_map (λ t. (r.me, t)) r.issued t (subst (λ l. Among l t) (sym h.issued) (inl refl)))) (passes r.me (eq-eqb r.me m (h.me ∙ sym e)) t h.past)
  where
    passes : (j : ℕ) → j == m ≡ true → (u : ℕ) → stamped plan ≤ u → (j == m && nat_le (stamped plan) u) ≡ true
    passes j e u le = ap (λ (b : Bool). b && nat_le (stamped plan) u) e ∙ grind (arith, nat_tests, le)

its_vote : (plan : Plan) (k : ℕ) (t : ℕ) (r : Replica) → Plays plan k (Part.Passed t) r → (m : ℕ) → Among r.taken m ⊎ (m ≡ k) → IsTrue (voted r.votes (the_stamp plan) m)
unfolding voted
its_vote plan k t r h m where_is = counts m (at where_is)
  where
    at : Among r.taken m ⊎ (m ≡ k) → Among r.votes (the_stamp plan, m)
    at (inr e) = subst (λ j. Among r.votes (the_stamp plan, j)) (sym e) (h.own tt).0
    at (inl a) = elim (cases_eq m plan.origin) [
      | inl e ↦ subst (λ j. Among r.votes (the_stamp plan, j)) (sym e) (h.own tt).1
      | inr ne ↦ h.votes m a ne
    ]

    counts : (j : ℕ) → Among r.votes (the_stamp plan, j) → IsTrue (list_any (λ v. stamp_eq v.0 (the_stamp plan) && v.1 == j) r.votes)
    counts j a = any_of (λ v. stamp_eq v.0 (the_stamp plan) && v.1 == j) r.votes (the_stamp plan, j) a (ap (λ (b : Bool). b && j == j) (eq_self (the_stamp plan)) ∙ eq-eqb j j refl)

all_there : (plan : Plan) (k : ℕ) (r : Replica) → IsComplete plan k r → (m : ℕ) → Among (numbers_below plan.n) m → Among r.taken m ⊎ (m ≡ k)
all_there plan k r c m a = elim (cases_eq m k) [ inl e ↦ inr e | inr ne ↦ inl (c m (below_is plan.n m a) ne) ]

half : (n : ℕ) → 1 ≤ n → majority n ≤ n
half n le = omega arith

first_is : (plan : Plan) (t : ℕ) → is_next (left_in plan (Part.Passed t)) (the_stamp plan) ≡ true
unfolding is_next first_of
first_is plan t = eq_self (the_stamp plan)

-- who has passed the time and heard all others executes the command
pub is_ready_then : (plan : Plan) (k : ℕ) (t : ℕ) (r : Replica) → 1 ≤ plan.n → Plays plan k (Part.Passed t) r → IsComplete plan k r → is_ready r (the_stamp plan) ≡ true
unfolding is_ready is_replicated is_stable spec_of members_of votes_for
is_ready_then plan k t r some h c =
    let voters = subst (λ l. IsTrue (nat_le (majority (length l)) (count_by (voted r.votes (the_stamp plan)) l))) (sym (specs_are)) (enough) in
    let stable = subst (λ l. IsTrue (list_all (reached (all_received r) (stamped plan)) l)) (sym members_are) (all_of _ (numbers_below plan.n) (λ m a. its_reach plan k t r h m (all_there plan k r c m a))) in
    let next = ap (λ l. is_next l (the_stamp plan)) (ap unexecuted h.log ∙ is_left plan k (Part.Passed t)) ∙ first_is plan t in
    three _ _ _ voters stable next
  where
    specs_are : spec r.n r.log ≡ numbers_below plan.n
    specs_are = ap (λ n. spec n r.log) h.n ∙ ap (spec plan.n) h.log ∙ is_spec plan k (Part.Passed t)

    members_are : members r.n r.log ≡ numbers_below plan.n
    members_are = ap (λ n. members n r.log) h.n ∙ ap (members plan.n) h.log ∙ are_members plan k (Part.Passed t)

    enough : IsTrue (nat_le (majority (length (numbers_below plan.n))) (count_by (voted r.votes (the_stamp plan)) (numbers_below plan.n)))
    enough =
        let all = counts_all (voted r.votes (the_stamp plan)) (numbers_below plan.n) (λ m a. its_vote plan k t r h m (all_there plan k r c m a)) in
        let many = many_below plan.n in
        let le : majority (length (numbers_below plan.n)) ≤ count_by (voted r.votes (the_stamp plan)) (numbers_below plan.n) = subst (λ x. majority (length (numbers_below plan.n)) ≤ x) (sym all) (half (length (numbers_below plan.n)) (subst (λ x. 1 ≤ x) (sym many) some)) in
        grind (arith, nat_tests, le)

    three : (a b c : Bool) → a ≡ true → b ≡ true → c ≡ true → ((a && b) && c) ≡ true
    three true true c e f g = g
    three true false c e f g = absurd (false≢true f)
    three false b c e f g = absurd (false≢true e)

none_issued : (p : Part) → IsFirst p → (t : ℕ) → Among (issued_in p) t → ⊥
none_issued Part.Bare f t a = absurd a
none_issued Part.Owing f t a = absurd a
none_issued (Part.Passed u) f t a = absurd f
none_issued (Part.Done u) f t a = absurd f

not_heard : (plan : Plan) (k : ℕ) (p : Part) (r : Replica) → IsFirst p → Plays plan k p r → IsTrue (reached (all_received r) (stamped plan) k) → ⊥
unfolding reached all_received
not_heard plan k p r f h is =
    let a = any_is (λ h. h.0 == k && nat_le (stamped plan) h.1) (map (λ t. (r.me, t)) r.issued ++ r.received) is in
    let same : a.0.0 ≡ k = eqb-true (a.0.0) k (and_parts (a.0.0 == k) (nat_le (stamped plan) a.0.1) a.2).0 in
    go a.0 same (among_either (map (λ t. (r.me, t)) r.issued) r.received a.0 a.1)
  where
    go : (x : ℕ × ℕ) → x.0 ≡ k → Among (map (λ t. (r.me, t)) r.issued) x ⊎ Among r.received x → ⊥
    go x e (inl i) = let u = among_unmap (λ t. (r.me, t)) r.issued x i in none_issued p f u.0 (subst (λ l. Among l u.0) h.issued u.1)
    go x e (inr i) = h.apart x.0 (h.took x.0 x.1 i) e

-- who is ready has heard all others, and has issued a time
pub complete_if_ready : (plan : Plan) (k : ℕ) (p : Part) (r : Replica) → k < plan.n → Plays plan k p r → is_ready r (the_stamp plan) ≡ true → IsComplete plan k r × (IsFirst p → ⊥)
unfolding is_ready is_stable members_of
complete_if_ready plan k p r lt h ready =
    let all : IsTrue (list_all (reached (all_received r) (stamped plan)) (members r.n r.log)) = (and_parts _ _ (and_parts _ _ ready).0).1 in
    let here = subst (λ l. IsTrue (list_all (reached (all_received r) (stamped plan)) l)) members_are all in (
      λ m below ne. reached_from plan k p r h m ne (list_all_at _ (numbers_below plan.n) m here (is_below plan.n m below)),
      λ f. not_heard plan k p r f h (list_all_at _ (numbers_below plan.n) k here (is_below plan.n k lt)),
    )
  where
    members_are : members r.n r.log ≡ numbers_below plan.n
    members_are = ap (λ n. members n r.log) h.n ∙ ap (members plan.n) h.log ∙ are_members plan k p
