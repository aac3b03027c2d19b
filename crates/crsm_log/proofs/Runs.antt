-- Two calls of a disk that change it, and what a log says of them.
use Rattle.std.proofs.Common.{◌<◌, ◌≤◌, ◌≡◌, ◌↔◌, ℕ, zero, suc, ◌-◌, List, [], ◌∷◌, ◌++◌, drop, length, take, min, Result, Ok, Err, IsErr, refl, sym, ◌∙◌, ap, subst, arith}
use Rattle.std.specs.Prelude.{Option, Some, None, OnOk}
use Rattle.crsm_base.specs.declared.memory.Failed.{Failed}
use Rattle.crsm_port_faults.specs.Failing.{one_less}
use Rattle.crsm_port_faults.specs.Plan.{HasRoom, Plan, spent}
use Rattle.crsm_port_image.specs.Calls.{Call, noted}
use Rattle.crsm_disk.specs.Contract.{Answers, Goes as Moves}
use Rattle.crsm_disk.specs.Meaning.{LeavesOnly, Meaning, Only}
use Rattle.crsm_port_image.specs.Bytes.{Torn, ReadsAt}
use Rattle.std.proofs.lemmas.List.{take_all, take_at}
use Rattle.crsm_disk.proofs.Moments.{started, goes_on}
use Rattle.crsm_log.specs.Log.{less, recorded, Goes, Ran, Serves, HasPlace}

-- where one more call does not meet the end, one more goes well
pub serves_one : (good : Option ℕ) → (good ≡ Some 0 → ⊥) → Serves 1 good
serves_one None never = tt
serves_one (Some zero) never = absurd (never refl)
serves_one (Some (suc k)) never = omega arith

pub serves_two : (good : Option ℕ) → Serves 1 good → (one_less good ≡ Some 0 → ⊥) → Serves 2 good
serves_two None one never = tt
serves_two (Some zero) one never = absurd (omega arith)
serves_two (Some (suc zero)) one never = absurd (never refl)
serves_two (Some (suc (suc k))) one never = omega arith

pub meets_one : (good : Option ℕ) → Serves 1 good → one_less good ≡ Some 0 → good ≡ Some 1
meets_one None one is = absurd (cc)
meets_one (Some zero) one is = absurd (omega arith)
meets_one (Some (suc zero)) one is = refl
meets_one (Some (suc (suc k))) one is = let e : suc (suc k) - 1 ≡ 0 = cc in absurd (omega (arith, e))

pub not_zero : {T : Type 0} (good : Option ℕ) (x : T) → (IsErr {E = Failed} (Ok x) ↔ (good ≡ Some 0)) → good ≡ Some 0 → ⊥
not_zero good x iff is = let e = iff.1 is in cc

module _ {T : Type 0} (first second : Call) (bytes : ℕ) (old mid new : Meaning) (x : T) (one : Answers 1 bytes old mid (Ok x)) (told : mid.history ≡ noted first old.history) where
  goes : {r : Result T Failed} → Answers 1 0 mid new r → Goes old new
  goes two = record { honest = two.honest ∙ one.honest; fill = two.fill ∙ one.fill; borrowed_as = two.borrowed_as ∙ one.borrowed_as; later = omega (arith, one.later, two.later) }

  served : (p : Plan) → old.plan ≡ Some p → HasPlace 2 bytes p → Serves 1 p.good
  served p is place = serves_one p.good (not_zero p.good x (one.plan.exact p is (omega arith) place.1))

  pub both : (y : T) → Answers 1 0 mid new (Ok y) → new.history ≡ noted second mid.history → Ran (first ∷ second ∷ []) (HasPlace 2 bytes) old new (Ok x)
  both y two then = record {
    goes = goes two;
    fault = tt;
    history = then ∙ ap (noted second) told;
    good = λ p is place. serves_two p.good (served p is place) (not_zero (one_less p.good) y (two.plan.exact (spent 1 bytes p) (one.plan.spends p is) (omega (arith, place.0)) (omega arith)));
    stops = tt;
  }

  pub second_fails : (f : Failed) → Answers {T = T} 1 0 mid new (Err f) → new.history ≡ mid.history → Ran {T = T} (first ∷ second ∷ []) (HasPlace 2 bytes) old new (Err f)
  second_fails f two then = record {
    goes = goes two;
    fault = omega (arith, one.later, two.failed);
    history = tt;
    good = λ p is place. tt;
    stops = record {
      made = 1;
      short = omega arith;
      history = then ∙ told;
      good = λ p is place. meets_one p.good (served p is place) ((two.plan.exact (spent 1 bytes p) (one.plan.spends p is) (omega (arith, place.0)) (omega arith)).0 refl);
    };
  }

  pub spends_both : (y : T) → Answers 1 0 mid new (Ok y) → (p : Plan) → old.plan ≡ Some p → new.plan ≡ Some (spent 1 0 (spent 1 bytes p))
  spends_both y two p is = two.plan.spends (spent 1 bytes p) (one.plan.spends p is)

-- a write that changed nothing
torn_not : (at n : ℕ) (l : List ℕ) → Torn at n l l
torn_not at n l = record { before = take_min at l; after = refl; no_shorter = omega arith; no_longer = omega arith }
  where
    take_min : (at : ℕ) (l : List ℕ) → take (min at (length l)) l ≡ take at l
    take_min zero l = let e : min 0 (length l) ≡ 0 = omega arith in ap (λ (k : ℕ). take k l) e
    take_min (suc at) [] = let e : min (suc at) 0 ≡ 0 = omega arith in ap (λ (k : ℕ). take k []) e
    take_min (suc at) (x ∷ l) = let e : min (suc at) (suc (length l)) ≡ suc (min at (length l)) = omega arith in rw e (ap (λ (t : List ℕ). x ∷ t) (take_min at l))

-- what a crash leaves while these bytes are written and made sure of
pub torn_only : (at n : ℕ) (old mid new : Meaning) → Only old.seen old.may_leave → Moves (Torn at n) old mid → Moves (λ d c. c ≡ d) mid new → LeavesOnly old new (Torn at n old.seen)
torn_only at n old mid new only first second =
    let P : List ℕ → Type 0 = Torn at n old.seen in
    let here : (c : List ℕ) → old.may_leave c → P c = λ c now. subst P (sym (only c now)) (torn_not at n old.seen) in
    let torn : (c : List ℕ) → mid.may_leave c → P c = λ c now. let from = first.follows c now in subst (λ (d : List ℕ). Torn at n d c) (only from.0 from.1) from.2 in
    let after : (c : List ℕ) → new.may_leave c → P c = λ c now. let from = second.follows c now in subst P (sym from.2) (torn from.0 from.1) in
    goes_on old mid new P (goes_on old old mid P (started old P here) first.time torn) second.time after

pub torn_first : (at n : ℕ) (old mid : Meaning) → Only old.seen old.may_leave → Moves (Torn at n) old mid → LeavesOnly old mid (Torn at n old.seen)
torn_first at n old mid only first =
    let P : List ℕ → Type 0 = Torn at n old.seen in
    let here : (c : List ℕ) → old.may_leave c → P c = λ c now. subst P (sym (only c now)) (torn_not at n old.seen) in
    let torn : (c : List ℕ) → mid.may_leave c → P c = λ c now. let from = first.follows c now in subst (λ (d : List ℕ). Torn at n d c) (only from.0 from.1) from.2 in
    goes_on old old mid P (started old P here) first.time torn

four_serve : (good : Option ℕ) → Serves 2 good → Serves 2 (one_less (one_less good)) → Serves 4 good
four_serve None two more = tt
four_serve (Some k) two more = omega (arith, two, more)

two_more : (good : Option ℕ) (k : ℕ) → Serves 2 good → one_less (one_less good) ≡ Some k → good ≡ Some (suc (suc k))
two_more None k two is = absurd (cc)
two_more (Some n) k two is = let e : n - 1 - 1 ≡ k = cc in ap Some (omega (arith, two, e))

serves_three : (good : Option ℕ) → Serves 2 good → (one_less (one_less good) ≡ Some 0 → ⊥) → Serves 3 good
serves_three None two never = tt
serves_three (Some k) two never = omega (arith, two, above k never)
  where
    above : (k : ℕ) → (one_less (one_less (Some k)) ≡ Some 0 → ⊥) → 2 < k
    above zero never = absurd (never refl)
    above (suc zero) never = absurd (never refl)
    above (suc (suc zero)) never = absurd (never refl)
    above (suc (suc (suc k))) never = omega arith

less_three : (good : Option ℕ) → one_less (one_less (one_less good)) ≡ less 3 good
less_three None = refl
less_three (Some k) = ap Some (omega arith)

pub less_four : (good : Option ℕ) → one_less (one_less (one_less (one_less good))) ≡ less 4 good
less_four None = refl
less_four (Some k) = ap Some (omega arith)

-- the two calls of a write and the two of another
module _ {T : Type 0} (c1 c2 c3 c4 : Call) (serves : Plan → Type 0) (old : Meaning) (b1 b2 : ℕ)
    (place1 : (p : Plan) → serves p → HasPlace 2 b1 p) where
  pub first_pair_fails : (new : Meaning) (f : Failed) → Ran {T = T} (c1 ∷ c2 ∷ []) (HasPlace 2 b1) old new (Err f) → Ran {T = T} (c1 ∷ c2 ∷ c3 ∷ c4 ∷ []) serves old new (Err f)
  first_pair_fails new f r = record {
    goes = r.goes;
    fault = r.fault;
    history = tt;
    good = λ p is s. tt;
    stops = record {
      made = r.stops.made;
      short = omega (arith, r.stops.short);
      history = r.stops.history ∙ ap (λ (cs : List Call). recorded cs old.history) (same_take r.stops.made r.stops.short);
      good = λ p is s. r.stops.good p is (place1 p s);
    };
  }
    where
      same_take : (k : ℕ) → k < 2 → take k (c1 ∷ c2 ∷ []) ≡ take k (c1 ∷ c2 ∷ c3 ∷ c4 ∷ [])
      same_take zero lt = refl
      same_take (suc zero) lt = refl
      same_take (suc (suc k)) lt = absurd (omega (arith, lt))

  module _ (place2 : (p : Plan) → serves p → HasPlace 2 b2 (spent 1 0 (spent 1 b1 p))) (mid new : Meaning) (x : T) (r1 : Ran (c1 ∷ c2 ∷ []) (HasPlace 2 b1) old mid (Ok x)) (left : (p : Plan) → old.plan ≡ Some p → mid.plan ≡ Some (spent 1 0 (spent 1 b1 p))) where
    both_go : Goes mid new → Goes old new
    both_go g = record { honest = g.honest ∙ r1.goes.honest; fill = g.fill ∙ r1.goes.fill; borrowed_as = g.borrowed_as ∙ r1.goes.borrowed_as; later = omega (arith, g.later, r1.goes.later) }

    pub second_pair_fails : (f : Failed) → Ran {T = T} (c3 ∷ c4 ∷ []) (HasPlace 2 b2) mid new (Err f) → Ran {T = T} (c1 ∷ c2 ∷ c3 ∷ c4 ∷ []) serves old new (Err f)
    second_pair_fails f r = record {
      goes = both_go r.goes;
      fault = omega (arith, r.fault, r1.goes.later);
      history = tt;
      good = λ p is s. tt;
      stops = record {
        made = suc (suc r.stops.made);
        short = omega (arith, r.stops.short);
        history = r.stops.history ∙ ap (recorded (take r.stops.made (c3 ∷ c4 ∷ []))) r1.history;
        good = λ p is s. two_more p.good r.stops.made (r1.good p is (place1 p s)) (r.stops.good (spent 1 0 (spent 1 b1 p)) (left p is) (place2 p s));
      };
    }

    pub both_pairs : (y : T) → Ran (c3 ∷ c4 ∷ []) (HasPlace 2 b2) mid new (Ok y) → Ran (c1 ∷ c2 ∷ c3 ∷ c4 ∷ []) serves old new (Ok x)
    both_pairs y r = record {
      goes = both_go r.goes;
      fault = tt;
      history = r.history ∙ ap (recorded (c3 ∷ c4 ∷ [])) r1.history;
      good = λ p is s. four_serve p.good (r1.good p is (place1 p s)) (r.good (spent 1 0 (spent 1 b1 p)) (left p is) (place2 p s));
      stops = tt;
    }

-- what a plan says of the calls of a mount: a sync, the length, a read
module _ {A : Type 0} (m1 m2 : Meaning) (calls bytes : ℕ) (some : 1 ≤ calls) (p q : Plan) (room : m1.plan ≡ Some q) (has : HasRoom calls bytes p q) (x : A) (sync : Answers 1 0 m1 m2 (Ok x)) where
  sync_serves : Serves 1 q.good
  sync_serves = serves_one q.good (not_zero q.good x (sync.plan.exact q room (omega (arith, has.calls, some)) (omega arith)))

  pub sync_meets : (f : Failed) → Answers {T = A} 1 0 m1 m2 (Err f) → p.good ≡ Some 0
  sync_meets f fails = sym has.good ∙ (fails.plan.exact q room (omega (arith, has.calls, some)) (omega arith)).0 refl

  pub len_meets : {B : Type 0} (m3 : Meaning) (f : Failed) → Answers {T = B} 0 0 m2 m3 (Err f) → p.good ≡ Some 1
  len_meets m3 f len = sym has.good ∙ meets_one q.good sync_serves ((len.plan.exact (spent 1 0 q) (sync.plan.spends q room) (omega arith) (omega arith)).0 refl)

  module _ {B : Type 0} (m3 : Meaning) (y : B) (len : Answers 0 0 m2 m3 (Ok y)) where
    len_serves : Serves 2 q.good
    len_serves = serves_two q.good sync_serves (not_zero (one_less q.good) y (len.plan.exact (spent 1 0 q) (sync.plan.spends q room) (omega arith) (omega arith)))

    pub read_meets : {C : Type 0} (m4 : Meaning) (f : Failed) → Answers {T = C} 0 0 m3 m4 (Err f) → p.good ≡ Some 2
    read_meets m4 f read = sym has.good ∙ two_more q.good 0 len_serves ((read.plan.exact (spent 0 0 (spent 1 0 q)) (len.plan.spends (spent 1 0 q) (sync.plan.spends q room)) (omega arith) (omega arith)).0 refl)

    pub fetched : {C : Type 0} (m4 : Meaning) (z : C) → Answers 0 0 m3 m4 (Ok z) → (r : Plan) × (m4.plan ≡ Some r) × (r.good ≡ less 3 p.good) × Serves 3 p.good × HasPlace (calls - 1) bytes r
    fetched m4 z read =
        let r3 = spent 0 0 (spent 1 0 q) in
        let at3 = len.plan.spends (spent 1 0 q) (sync.plan.spends q room) in
        let three = not_zero (one_less (one_less q.good)) z (read.plan.exact r3 at3 (omega arith) (omega arith)) in
        let S : Option ℕ → Type 0 = λ g. Serves 3 g in (
          spent 0 0 r3,
          read.plan.spends r3 at3,
          less_three q.good ∙ ap (less 3) has.good,
          subst S has.good (serves_three q.good len_serves three),
          (omega (arith, has.calls, some), omega (arith, has.bytes)),
        )

-- a whole read gives all there is
pub whole_read : (seen before after : List ℕ) (n : ℕ) → ReadsAt seen 0 before after n → length before ≡ length seen → take n after ≡ seen
whole_read seen before after n r same =
    let all : n ≡ length seen = omega (arith, r.count, same) in
    let prefix : take n seen ≡ seen = take_all n seen (omega (arith, all)) in
    ap (take n) r.read ∙ ap (λ (l : List ℕ). take n (l ++ drop n before)) prefix ∙ take_at seen (drop n before) n (sym all)

-- what holds of an `Ok` implies
pub on_ok : {T E : Type 0} (r : Result T E) (P Q : Type 0) → (P → Q) → OnOk r P → OnOk r Q
on_ok (Ok x) P Q f p = f p
on_ok (Err e) P Q f p = tt
