-- When the first of the waiting entries is ready.
use Rattle.std.proofs.Common.{◌≡◌, ℕ, ◌<◌, ◌≤◌, Bool, true, false, refl, sym, ◌∙◌, ap, subst, arith, List, [], ◌∷◌, length, max, Some, None}
use Rattle.std.specs.Prelude.{◌==◌, ◌&&◌, ◌||◌, nat_le, if◌then◌else◌}
use Rattle.std.specs.Option.{option_map}
use Rattle.std.specs.List.{list_all, list_any, AllByRecursion}
use Rattle.std.proofs.lemmas.Bool.Decides.{nat_tests}
use Rattle.crsm_base.specs.declared.Stamp.{Stamp}
use Rattle.crsm_base.specs.declared.Entry.{Entry}
use Rattle.crsm_base.specs.Members.{IsMembers}
use Rattle.crsm_spec.specs.Lists.{first_of}
use Rattle.crsm_spec.specs.Paxos.{majority}
use Rattle.crsm_spec.specs.Ready.{reached, votes_for, is_replicated, is_stable}
use Rattle.crsm_commit.specs.Waiting.{stamp_of}
use Rattle.crsm_commit.specs.Pending.{may_commit, first_ready}

-- nothing waits
pub none_ready : (spec members : List ℕ) (received : List (ℕ × ℕ)) (votes : List (Stamp × ℕ)) (waiting : List Entry) →
    None ≡ option_map stamp_of (first_of waiting) → None ≡ first_ready spec members received votes waiting
unfolding first_of
none_ready spec members received votes [] e = refl
none_ready spec members received votes (f ∷ es) e = absurd (cc)

-- the first one that waits
pub first_decides : (spec members : List ℕ) (received : List (ℕ × ℕ)) (votes : List (Stamp × ℕ)) (waiting : List Entry) (s : Stamp) (b : Bool) →
    Some s ≡ option_map stamp_of (first_of waiting) → may_commit spec members received votes s ≡ b →
    (if b then Some s else None) ≡ first_ready spec members received votes waiting
unfolding first_of
first_decides spec members received votes [] s b e test = absurd (cc)
first_decides spec members received votes (f ∷ es) s b e test =
    let same : s ≡ f.stamp = cc in
    ap (λ c. if c then Some s else None) (sym test) ∙ ap (λ t. if may_commit spec members received votes t then Some t else None) same

-- a fact of the first one
pub of_first : (P : Entry → Type 0) (Q : Stamp → Type 0) (waiting : List Entry) (s : Stamp) → ((e : Entry) → P e → Q e.stamp) →
    Some s ≡ option_map stamp_of (first_of waiting) → AllByRecursion P waiting → Q s
unfolding first_of
of_first P Q [] s each e all = absurd (cc)
of_first P Q (f ∷ es) s each e all = (let same : f.stamp ≡ s = cc in subst Q same (each f all.0))

-- ---- where each received time is at least 1, a time of 0 is reached with the first time received

reached_from_one : (received : List (ℕ × ℕ)) (time k : ℕ) → AllByRecursion (λ h. 1 ≤ h.1) received → reached received (max time 1) k ≡ reached received time k
unfolding reached
reached_from_one [] time k all = refl
reached_from_one (h ∷ received) time k all =
    let one : 1 ≤ h.1 = all.0 in
    let test : nat_le (max time 1) h.1 ≡ nat_le time h.1 = grind (arith, nat_tests) in
    ap (λ b. (h.0 == k && b) || list_any (λ g. g.0 == k && nat_le (max time 1) g.1) received) test
    ∙ ap (λ b. (h.0 == k && nat_le time h.1) || b) (reached_from_one received time k all.1)

all_reached_from_one : (received : List (ℕ × ℕ)) (time : ℕ) (members : List ℕ) → AllByRecursion (λ h. 1 ≤ h.1) received →
    list_all (reached received (max time 1)) members ≡ list_all (reached received time) members
all_reached_from_one received time [] all = refl
all_reached_from_one received time (k ∷ members) all =
    ap (λ b. b && list_all (reached received (max time 1)) members) (reached_from_one received time k all)
    ∙ ap (λ b. reached received time k && b) (all_reached_from_one received time members all)

-- what the counts decide
pub decided : (spec members : List ℕ) (received : List (ℕ × ℕ)) (votes : List (Stamp × ℕ)) (s : Stamp) (time most count least : ℕ) →
    AllByRecursion (λ h. 1 ≤ h.1) received → time ≡ max s.time 1 → most ≡ majority (length spec) → count ≡ votes_for spec votes s →
    nat_le time least ≡ list_all (reached received time) members →
    may_commit spec members received votes s ≡ (nat_le most count && nat_le time least)
unfolding is_replicated is_stable
decided spec members received votes s time most count least all is enough counted e =
    let stable : list_all (reached received s.time) members ≡ nat_le time least =
    sym (all_reached_from_one received s.time members all) ∙ ap (λ t. list_all (reached received t) members) (sym is) ∙ sym e in
    rw (enough, counted, stable) refl

pub both : (a b c d : ℕ) → a ≤ b → c ≤ d → (nat_le a b && nat_le c d) ≡ true
both a b c d h k = grind (arith, nat_tests)

never_second : (a : Bool) (c d : ℕ) → d < c → (a && nat_le c d) ≡ false
never_second true c d h = grind (arith, nat_tests)
never_second false c d h = refl

-- some member's time is not reached
pub unstable : (spec members : List ℕ) (received : List (ℕ × ℕ)) (votes : List (Stamp × ℕ)) (s : Stamp) (time least : ℕ) →
    AllByRecursion (λ h. 1 ≤ h.1) received → time ≡ max s.time 1 → nat_le time least ≡ list_all (reached received time) members → least < time →
    may_commit spec members received votes s ≡ false
unfolding is_stable
unstable spec members received votes s time least all is e above =
    let stable : list_all (reached received s.time) members ≡ nat_le time least =
    sym (all_reached_from_one received s.time members all) ∙ ap (λ t. list_all (reached received t) members) (sym is) ∙ sym e in
    ap (λ b. is_replicated spec votes s && b) stable ∙ never_second (is_replicated spec votes s) time least above

-- too few have voted
pub too_few : (spec members : List ℕ) (received : List (ℕ × ℕ)) (votes : List (Stamp × ℕ)) (s : Stamp) →
    votes_for spec votes s < majority (length spec) → may_commit spec members received votes s ≡ false
unfolding is_replicated
too_few spec members received votes s few =
    let e : nat_le (majority (length spec)) (votes_for spec votes s) ≡ false = grind (arith, nat_tests) in
    ap (λ b. b && is_stable members received s) e

-- there is a member
pub some_member : (members : List ℕ) → IsMembers members → 1 ≤ length members
some_member [] h = absurd h
some_member (k ∷ members) h = omega arith
