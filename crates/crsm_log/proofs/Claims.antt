-- The effect of a claim on a log.
use Rattle.std.proofs.Common.{◌≡◌, IsTrue, inl, inr, ⊎_elim, ℕ, ◌+◌, ◌-◌, List, [], ◌∷◌, ◌++◌, length, nat_lt, Ok, Err, refl, sym, ◌∙◌, ap, subst, arith, ◌≤◌, Bool, true, false, not, if◌then◌else◌, ◌==◌}
use Rattle.std.specs.Prelude.{Option, Some, None}
use Rattle.std.proofs.lemmas.Bool.Decides.{nat_tests}
use Rattle.crsm_base.specs.declared.memory.Failed.{Failed}
use Rattle.crsm_port_faults.specs.Plan.{Plan}
use Rattle.crsm_port_image.specs.Calls.{Call, History, noted}
use Rattle.crsm_disk.specs.Meaning.{LeavesOnly, Meaning}
use Rattle.crsm_disk.proofs.Moments.{joined, weaker}
use Rattle.crsm_log.specs.Format.{bodies_in, bodies_of, cluster_among, cluster_entry, cluster_of, entries_in, found, gate_in, reading, reading_in}
use Rattle.crsm_log.specs.Log.{HasPlace, IsAsBefore, IsSettled, MeetsIn, Mounts, Ran, Refuses, Serves, ServesPut, Used, entry_calls, less, mount_calls, mount_count, recorded}
use Rattle.crsm_log.specs.Claim.{Claims, Forbids, Holds, IsClaimed, IsClaimedOrBefore, IsOpenTo, RefusesClaim, claimed, entry_if, wants_entry}
use Rattle.crsm_log.specs.Errors.{claim_error}
use Rattle.crsm_log.specs.declared.entry.LogContents.{LogContents}
use Rattle.crsm_log.specs.declared.errors.ClaimError.{ClaimError}
use Rattle.crsm_log.specs.declared.errors.ClaimError.TheVariants as claims
use Rattle.crsm_log.specs.declared.errors.MountError.{MountError}
use Rattle.crsm_log.specs.declared.errors.MountError.TheVariants as mounts

-- calls behind calls
recorded-append : (xs ys : List Call) (h : Option History) → recorded (xs ++ ys) h ≡ recorded ys (recorded xs h)
recorded-append [] ys h = refl
recorded-append (x ∷ xs) ys h = recorded-append xs ys (noted x h)

-- what the answer on an entry says
zero_by : (k : ℕ) → (t : Bool) → k == 0 ≡ t → not t ≡ true → k ≡ 0 → ⊥
zero_by k true is wants zero = absurd (cc)
zero_by k false is wants zero = grind (arith, nat_tests)

pub wants_some : (c : Option ℕ) (k : ℕ) → wants_entry c k ≡ true → (c ≡ None) × (k ≡ 0 → ⊥)
wants_some None k wants = (refl, zero_by k (k == 0) refl wants)
wants_some (Some n) k wants = absurd (cc)

stays_by : (k : ℕ) (t : Bool) → not t ≡ false → (if t then None else Some k) ≡ None
stays_by k true wants = refl
stays_by k false wants = absurd (cc)

pub claimed_stays : (c : Option ℕ) (k : ℕ) → wants_entry c k ≡ false → claimed c k ≡ c
claimed_stays None k wants = stays_by k (k == 0) wants
claimed_stays (Some n) k wants = refl

claimed_by : (k : ℕ) (t : Bool) → not t ≡ true → (if t then None else Some k) ≡ Some k
claimed_by k true wants = absurd (cc)
claimed_by k false wants = refl

pub claimed_new : (c : Option ℕ) (k : ℕ) → wants_entry c k ≡ true → claimed c k ≡ Some k
claimed_new None k wants = claimed_by k (k == 0) wants
claimed_new (Some n) k wants = absurd (cc)

-- so many calls went well, and so many more
pub later : (n k : ℕ) (good : Option ℕ) → Serves n good → less n good ≡ Some k → good ≡ Some (n + k)
later n k None serves is = absurd (cc)
later n k (Some g) serves is = let e : g - n ≡ k = cc in ap Some (omega (arith, serves, e))

serves_both : (n m : ℕ) (good : Option ℕ) → Serves n good → Serves m (less n good) → Serves (n + m) good
serves_both n m None one two = tt
serves_both n m (Some g) one two = omega (arith, one, two)

-- a mount makes three calls at least
serves_three : (file : List ℕ) (good : Option ℕ) → Serves (mount_count file) good → Serves 3 good
serves_three file None serves = tt
serves_three file (Some g) serves = go (nat_lt (length file) 6) serves
  where
    go : (t : Bool) → (if t then 5 else 3) ≤ g → 3 ≤ g
    go true most = omega (arith, most)
    go false most = most

less_both : (n m : ℕ) (good : Option ℕ) → less m (less n good) ≡ less (n + m) good
less_both n m None = refl
less_both n m (Some g) = ap Some (omega arith)

module _ (m0 m1 : Meaning) (held : LogContents) (cluster : ℕ) (mount : Mounts m0 m1 held.gate held.bodies) (holds : IsTrue m0.honest → Holds m0 m1 held) where
  whole : IsTrue m0.honest → reading m0.seen ≡ found (bodies_of m0.seen)
  whole honest = let read = mount.read honest in read ∙ sym (ap (λ r. found (bodies_in r)) read)

  wants_is : IsTrue m0.honest → wants_entry (cluster_of m0.seen) cluster ≡ wants_entry held.cluster cluster
  wants_is honest = ap (λ c. wants_entry c cluster) (holds honest).cluster

  pub as_before : IsTrue m0.honest → LeavesOnly m0 m1 (IsClaimedOrBefore m0 cluster)
  as_before honest = weaker m0 m1 (IsAsBefore m0) (IsClaimedOrBefore m0 cluster) (mount.any_moment honest) (λ c was. before_is c was)
    where
      before_is : (c : List ℕ) → IsAsBefore m0 c → IsClaimedOrBefore m0 cluster c
      before_is c was = elim was [
        | inl left ↦ inl left
        | inr is ↦ inr (record { bodies = ap reading_in is; names = inl (ap (λ i. cluster_among (entries_in i)) is) })
      ]

  -- no entry is wanted
  pub claims_as_is : IsOpenTo cluster held.cluster → wants_entry held.cluster cluster ≡ false → IsTrue m0.honest → Claims m0 m1 cluster
  claims_as_is open_to wants honest =
      let none : wants_entry (cluster_of m0.seen) cluster ≡ false = wants_is honest ∙ wants in
      let C : Bool → Type 0 = λ t. m1.history ≡ recorded (mount_calls m0.seen ++ entry_if t (gate_in m0.seen) cluster) m0.history in
      let N : Bool → (p : Plan) → Type 0 = λ t p. Used (mount_count m0.seen + (if t then 4 else 0)) p m1.plan in
      record {
        whole = whole honest;
        open_to = subst (IsOpenTo cluster) (sym (holds honest).cluster) open_to;
        bodies = mount.kept honest ∙ sym (mount.read honest);
        names = mount.cluster honest ∙ sym (claimed_stays (cluster_of m0.seen) cluster none);
        durable = (mount.settled honest).durable;
        history = subst C (sym none) (mount.history honest ∙ sym (recorded-append (mount_calls m0.seen) [] m0.history));
        good = λ p is.
            let U : ℕ → Type 0 = λ n. Used n p m1.plan in
            subst (λ t. N t p) (sym none) (subst U (omega arith) (mount.good honest p is));
      }

  -- it may not be claimed
  pub forbidden : (why : ClaimError) → Forbids held.gate held.cluster cluster why → IsTrue m0.honest → RefusesClaim m0 m1 cluster why
  forbidden claims.DiskFault no_way honest = absurd no_way
  forbidden (claims.BadGate entry) no_way honest = absurd no_way
  forbidden (claims.OtherCluster n) because honest = record {
    bad_gate = λ entry is. absurd (cc);
    other = λ k is. let same : n ≡ k = cc in ((holds honest).cluster ∙ because.0 ∙ ap Some same, λ e. because.1 (same ∙ e));
    full = λ end is. absurd (cc);
    unwritten = λ _. ⊎_elim (λ seen. seen) (λ short. absurd (let e : None ≡ Some n = sym short.1 ∙ because.0 in cc)) (holds honest).unwritten;
    as_before = λ _. mount.any_moment honest;
    good = λ is. absurd (cc);
    served = λ _ p is. serves_three m0.seen p.good (mount.good honest p is).served;
  }
  forbidden (claims.Full n) because honest = record {
    bad_gate = λ entry is. absurd (cc);
    other = λ k is. absurd (cc);
    full = λ end is. let same : n ≡ end = cc in ((holds honest).cluster ∙ because.0, because.1, sym same ∙ because.2 ∙ ap (λ (k : ℕ). k + 14) (sym (holds honest).gate), omega (arith, same, because.3));
    unwritten = λ _. ⊎_elim (λ seen. seen) (λ short. absurd (omega (arith, short.0, because.2, because.3))) (holds honest).unwritten;
    as_before = λ _. mount.any_moment honest;
    good = λ is. absurd (cc);
    served = λ _ p is. serves_three m0.seen p.good (mount.good honest p is).served;
  }
  forbidden claims.NoMemory no_way honest = absurd no_way

  -- an entry is put
  module _ (m2 : Meaning) (wants : wants_entry held.cluster cluster ≡ true) (room : (p : Plan) → m0.plan ≡ Some p → (q : Plan) × (m1.plan ≡ Some q) × HasPlace 4 14 q) where
    pub none : IsTrue m0.honest → cluster_of m1.seen ≡ None
    none honest = mount.cluster honest ∙ (holds honest).cluster ∙ (wants_some held.cluster cluster wants).0

    wanted : IsTrue m0.honest → wants_entry (cluster_of m0.seen) cluster ≡ true
    wanted honest = wants_is honest ∙ wants

    serves : IsTrue m0.honest → (p : Plan) → m0.plan ≡ Some p → (q : Plan) → m1.plan ≡ Some q → ServesPut held.gate 14 m1 q
    serves honest p is q at =
        let had = room p is in
        let same : had.0 ≡ q = let e : Some had.0 ≡ Some q = sym had.1 ∙ at in cc in
        let place = subst (HasPlace 4 14) same had.2 in
        record { honest = mount.goes.honest ∙ honest; inside = (mount.settled honest).inside; calls = place.0; written = place.1 }

    pub claims_by_entry : Ran {T = Unit {0}} (entry_calls held.gate (cluster_entry cluster)) (ServesPut held.gate 14 m1) m1 m2 (Ok tt)
        → ((q : Plan) → m1.plan ≡ Some q → (r : Plan) × (m2.plan ≡ Some r) × (r.good ≡ less 4 q.good))
        → IsSettled m2 (held.gate + 13) → reading m2.seen ≡ reading m1.seen → cluster_of m2.seen ≡ Some cluster → IsTrue m0.honest → Claims m0 m2 cluster
    claims_by_entry ran left settled bodies named honest =
        let h = holds honest in
        let yes = wanted honest in
        let C : Bool → Type 0 = λ t. m2.history ≡ recorded (mount_calls m0.seen ++ entry_if t (gate_in m0.seen) cluster) m0.history in
        let N : Bool → (p : Plan) → Type 0 = λ t p. Used (mount_count m0.seen + (if t then 4 else 0)) p m2.plan in
        record {
          whole = whole honest;
          open_to = subst (IsOpenTo cluster) (sym ((holds honest).cluster ∙ (wants_some held.cluster cluster wants).0)) tt;
          bodies = bodies ∙ mount.kept honest ∙ sym (mount.read honest);
          names = named ∙ sym (claimed_new (cluster_of m0.seen) cluster yes);
          durable = settled.durable;
          history = subst C (sym yes) (ran.history ∙ ap (recorded (entry_calls held.gate (cluster_entry cluster))) (mount.history honest) ∙ sym (recorded-append (mount_calls m0.seen) (entry_calls held.gate (cluster_entry cluster)) m0.history) ∙ ap (λ (k : ℕ). recorded (mount_calls m0.seen ++ entry_calls k (cluster_entry cluster)) m0.history) (sym h.gate));
          good = λ p is.
              let used = mount.good honest p is in
              let q = used.left.0 in
              let more = left q used.left.1 in
              let S : Option ℕ → Type 0 = λ good. Serves 4 good in
              subst (λ t. N t p) (sym yes) (record {
                served = serves_both (mount_count m0.seen) 4 p.good used.served (subst S used.left.2 (ran.good q used.left.1 (serves honest p is q used.left.1)));
                left = (more.0, more.1, more.2 ∙ ap (less 4) used.left.2 ∙ less_both (mount_count m0.seen) 4 p.good);
              });
        }

    pub entry_fails : (f : Failed) → Ran {T = Unit {0}} (entry_calls held.gate (cluster_entry cluster)) (ServesPut held.gate 14 m1) m1 m2 (Err f) → IsTrue m0.honest → RefusesClaim m0 m2 cluster claims.DiskFault
    entry_fails f ran honest =
        let yes = wanted honest in
        let M : Bool → Type 0 = λ t. MeetsIn (mount_count m0.seen + (if t then 4 else 0)) m0.plan in
        record {
          bad_gate = λ entry is. absurd (cc);
          other = λ k is. absurd (cc);
          full = λ end is. absurd (cc);
          unwritten = λ not_fault. absurd (not_fault refl);
          as_before = λ not_fault. absurd (not_fault refl);
          good = λ _. subst M (sym yes) (λ p is.
              let used = mount.good honest p is in
              let met = ran.stops.good used.left.0 used.left.1 (serves honest p is used.left.0 used.left.1) in
              (mount_count m0.seen + ran.stops.made, omega (arith, ran.stops.short), later (mount_count m0.seen) ran.stops.made p.good used.served (sym used.left.2 ∙ met)));
          served = λ no_way. absurd no_way;
        }

    pub entry_leaves : (IsTrue m1.honest → LeavesOnly m1 m2 (IsClaimed m1.seen cluster)) → IsTrue m0.honest → LeavesOnly m0 m2 (IsClaimedOrBefore m0 cluster)
    entry_leaves run honest = joined m0 m1 m2 (IsClaimedOrBefore m0 cluster) (as_before honest) (weaker m1 m2 (IsClaimed m1.seen cluster) (IsClaimedOrBefore m0 cluster) (run (mount.goes.honest ∙ honest)) (λ c is. inr (record {
      bodies = is.bodies ∙ mount.kept honest ∙ sym (mount.read honest);
      names = ⊎_elim (λ same. inl (same ∙ mount.cluster honest)) (λ new. inr (new ∙ ap (λ k. claimed k cluster) (mount.cluster honest))) is.names;
    })))

-- a log that is not mounted
pub not_claimed : (m0 m1 : Meaning) (cluster : ℕ) (why : MountError) → Refuses m0 m1 why → IsTrue m0.honest → RefusesClaim m0 m1 cluster (claim_error why)
not_claimed m0 m1 cluster mounts.DiskFault r honest = record {
  bad_gate = λ entry is. absurd (cc);
  other = λ k is. absurd (cc);
  full = λ end is. absurd (cc);
  unwritten = λ not_fault. absurd (not_fault refl);
  as_before = λ _. r.any_moment honest;
  good = λ _ p is. let met = r.good honest refl p is in (met.0, omega (arith, met.1), met.2);
  served = λ no_way. absurd no_way;
}
not_claimed m0 m1 cluster (mounts.BadGate n) r honest = record {
  bad_gate = λ entry is. let same : n ≡ entry = cc in r.bad_gate honest entry (ap mounts.BadGate same);
  other = λ k is. absurd (cc);
  full = λ end is. absurd (cc);
  unwritten = λ _. r.unwritten honest (λ is. cc);
  as_before = λ _. r.any_moment honest;
  good = λ is. absurd (cc);
  served = λ _. r.served n refl;
}
not_claimed m0 m1 cluster mounts.NoMemory r honest = record {
  bad_gate = λ entry is. absurd (cc);
  other = λ k is. absurd (cc);
  full = λ end is. absurd (cc);
  unwritten = λ _. r.unwritten honest (λ is. cc);
  as_before = λ _. r.any_moment honest;
  good = λ is. absurd (cc);
  served = λ no_way. absurd no_way;
}

pub refused_leaves : (m0 m1 : Meaning) (cluster : ℕ) (why : MountError) → Refuses m0 m1 why → IsTrue m0.honest → LeavesOnly m0 m1 (IsClaimedOrBefore m0 cluster)
refused_leaves m0 m1 cluster why r honest = weaker m0 m1 (IsAsBefore m0) (IsClaimedOrBefore m0 cluster) (r.any_moment honest) (λ c was. before_is c was)
  where
    before_is : (c : List ℕ) → IsAsBefore m0 c → IsClaimedOrBefore m0 cluster c
    before_is c was = elim was [
      | inl left ↦ inl left
      | inr is ↦ inr (record { bodies = ap reading_in is; names = inl (ap (λ i. cluster_among (entries_in i)) is) })
    ]
