-- The effect of a mount on a disk.
use Rattle.std.proofs.Common.{◌≡◌, ◌≤◌, IsTrue, inl, inr, false, ℕ, ◌+◌, ◌-◌, ◌<◌, List, [], ◌∷◌, ◌++◌, length, get_or, drop, replicate, refl, sym, ◌∙◌, ap, subst, arith, length-drop}
use Rattle.std.specs.Prelude.{Option, Some, None, IfSome}
use Rattle.std.proofs.lemmas.Bool.Decides.{nat_tests}
use Rattle.crsm_log.specs.declared.entry.LogContents.{LogContents}
use Rattle.crsm_log.specs.First.{ReadsFile, all_entries}
use Rattle.crsm_log.specs.Claim.{Holds}
use Rattle.crsm_port_image.specs.Bytes.{Torn, overwritten}
use Rattle.crsm_port_image.specs.Calls.{History, noted, synced, wrote}
use Rattle.crsm_port_faults.specs.Failing.{one_less}
use Rattle.crsm_port_faults.specs.Plan.{Plan, spent}
use Rattle.crsm_disk.specs.Meaning.{Meaning, LeavesOnly, Only, Same}
use Rattle.crsm_disk.proofs.Moments.{joined, unchanged, weaker}
use Rattle.crsm_log.specs.Format.{bad, broken, found, reading, reading_in, bodies_in, cluster_among, cluster_of, entries_in, entries_of, gate_in, items_of, last_gate, size, whole}
use Rattle.crsm_log.specs.Log.{Fetches, Goes, IsAsBefore, IsSettled, Mounts, Serves, Used, less, mount_calls, mount_count, recorded}
use Rattle.crsm_log.proofs.Puts.{whole_reading}
use Rattle.crsm_log.proofs.Quiet.{noted_quiet, pair_quiet}
use Rattle.crsm_log.proofs.Crash.{items_long, items_short}

-- a short file gets a closed gate
module _ (m0 m1 m2 : Meaning) (short : length m0.seen < 6) (same : m1.seen ≡ m0.seen) where
  pub short_leaves : LeavesOnly m0 m1 (IsAsBefore m0) → LeavesOnly m1 m2 (Torn 0 1 m1.seen) → LeavesOnly m0 m2 (IsAsBefore m0)
  short_leaves first second =
      joined m0 m1 m2 (IsAsBefore m0) first
      (weaker m1 m2 (Torn 0 1 m1.seen) (IsAsBefore m0) second (λ c torn. inr (items_short c (omega (arith, torn.no_longer, ap length same, short)) ∙ sym (items_short m0.seen short))))

  abbrev after : List ℕ
  after = 0 ∷ drop 1 m1.seen

  pub gate_written : m2.seen ≡ overwritten m1.seen 0 (0 ∷ []) → m2.seen ≡ 0 ∷ drop 1 m1.seen
  gate_written is = is ∙ (let e : 0 - length m1.seen ≡ 0 = omega arith in ap (λ (k : ℕ). replicate k 0 ++ (0 ∷ []) ++ drop 1 m1.seen) e)

  pub short_settles : m2.seen ≡ overwritten m1.seen 0 (0 ∷ []) → Only m2.seen m2.may_leave → m2.history ≡ recorded (wrote 0 (0 ∷ []) ∷ synced ∷ []) m1.history → IsSettled m2 0 × (items_of m2.seen ≡ whole [])
  short_settles is only told =
      let at = gate_written is in
      let small : length m2.seen < 6 = omega (arith, ap length at, length-drop 1 m1.seen, ap length same, short) in
      let none = items_short m2.seen small in (
        record {
          whole = whole_reading m2.seen [] none;
          place = sym (ap (λ i. size (entries_in i)) none);
          inside = omega (arith, ap length at);
          shut = let z : get_or m2.seen 0 0 ≡ 0 = ap (λ (l : List ℕ). get_or l 0 0) at in λ one. absurd (omega (arith, z, one));
          durable = only;
          quiet = pair_quiet m2.history m1.history (wrote 0 (0 ∷ [])) told;
        },
        none,
      )

-- a longer one is settled as it is
pub long_settles : (m : Meaning) (bs : List (List ℕ)) (end : ℕ) → reading m.seen ≡ found bs → end ≡ gate_in m.seen → end < length m.seen → (get_or m.seen end 0 ≡ 1 → ⊥) → Only m.seen m.may_leave → (before : Option History) → m.history ≡ noted synced before → IsSettled m end
long_settles m bs end read place inside shut only before told = record {
  whole = read ∙ sym (ap (λ r. found (bodies_in r)) read);
  place = place;
  inside = inside;
  shut = shut;
  durable = only;
  quiet = noted_quiet m.history before told;
}

-- a byte that was made to last changes nothing else
module _ (k b : ℕ) (m0 m1 m2 : Meaning) (file : List ℕ) (same : Same m1 m2) where
  pub fetched_on : Fetches k b m0 m1 file → m2.plan ≡ m1.plan → Fetches k b m0 m2 file
  fetched_on fetch plan = record {
    read = fetch.read;
    seen = λ honest. same.seen ∙ fetch.seen honest;
    durable = λ honest c now. fetch.durable honest c ((same.images c).0 now) ∙ sym same.seen;
    history = same.history ∙ fetch.history;
    plan = λ p is. let room = fetch.plan p is in (room.0, plan ∙ room.1, room.2, room.3, room.4);
  }

  pub gone_on : Goes m0 m1 → m2.fill ≡ m1.fill → m1.faults ≤ m2.faults → Goes m0 m2
  gone_on goes fill later = record {
    honest = same.honest ∙ goes.honest;
    fill = fill ∙ goes.fill;
    borrowed_as = same.borrowed_as ∙ goes.borrowed_as;
    later = omega (arith, goes.later, later);
  }

  pub left_on : (IsTrue m0.honest → LeavesOnly m0 m1 (IsAsBefore m0)) → IsTrue m0.honest → LeavesOnly m0 m2 (IsAsBefore m0)
  left_on moments honest = unchanged m0 m1 m2 (IsAsBefore m0) (moments honest) same

-- a whole file of 6 bytes or more
module _ (k b : ℕ) (m0 m1 : Meaning) (file : List ℕ) (held : LogContents) (long : 6 ≤ length file) (fetch : Fetches k b m0 m1 file) (r : ReadsFile file held) where
  all_of : items_of file ≡ all_entries false file
  all_of = items_long file long

  file_reads : reading file ≡ found held.bodies
  file_reads = ap reading_in (items_long file long) ∙ r.read

  long_seen : IsTrue m0.honest → 6 ≤ length m0.seen
  long_seen honest = omega (arith, ap length (fetch.read honest), long)

  one_sync : (l : List ℕ) → 6 ≤ length l → mount_calls l ≡ synced ∷ []
  one_sync l le = grind (arith, nat_tests)

  three : (l : List ℕ) → 6 ≤ length l → mount_count l ≡ 3
  three l le = grind (arith, nat_tests)

  pub long_mounts : Goes m0 m1 → (IsTrue m0.honest → LeavesOnly m0 m1 (IsAsBefore m0)) → IfSome held.last (λ at. m1.renewed ≡ Some at) → Mounts m0 m1 held.gate held.bodies
  long_mounts goes moments renewed = record {
    goes = goes;
    settled = λ honest.
        let at : m1.seen ≡ file = fetch.seen honest ∙ sym (fetch.read honest) in
        let shut = r.shut (omega (arith, long)) in
        long_settles m1 held.bodies held.gate (ap reading at ∙ file_reads)
        (sym (ap gate_in at ∙ ap (λ i. size (entries_in i)) (items_long file long) ∙ r.place))
        (omega (arith, shut.0, ap length at))
        (λ one. shut.1 (ap (λ (l : List ℕ). get_or l held.gate 0) (sym at) ∙ one))
        (fetch.durable honest) m0.history fetch.history;
    read = λ honest. ap reading (sym (fetch.read honest)) ∙ file_reads;
    kept = λ honest. ap reading (fetch.seen honest ∙ sym (fetch.read honest)) ∙ file_reads;
    cluster = λ honest. ap cluster_of (fetch.seen honest);
    gate = λ honest. sym (ap gate_in (sym (fetch.read honest)) ∙ ap (λ i. size (entries_in i)) (items_long file long) ∙ r.place);
    any_moment = moments;
    history = λ honest. fetch.history ∙ ap (λ calls. recorded calls m0.history) (sym (one_sync m0.seen (long_seen honest)));
    good = λ honest p is.
        let room = fetch.plan p is in
        let U : ℕ → Type 0 = λ n. Used n p m1.plan in
        subst U (sym (three m0.seen (long_seen honest))) (record { served = room.3; left = (room.0, room.1, room.2) });
    renewed = λ honest.
        let R : Option ℕ → Type 0 = λ last. IfSome last (λ at. m1.renewed ≡ Some at) in
        subst R (r.last ∙ ap (λ i. last_gate (entries_in i)) (sym (items_long file long)) ∙ ap (λ l. last_gate (entries_of l)) (fetch.read honest)) renewed;
  }

  pub long_opened : IsTrue m0.honest → IfSome held.last (λ at. get_or m1.seen at 0 ≡ 1)
  long_opened honest =
      let O : List ℕ → Type 0 = λ l. IfSome held.last (λ at. get_or l at 0 ≡ 1) in
      subst O (fetch.read honest ∙ sym (fetch.seen honest)) r.opened

  pub long_holds : IsTrue m0.honest → Holds m0 m1 held
  long_holds honest = record {
    cluster = ap cluster_of (sym (fetch.read honest)) ∙ ap (λ i. cluster_among (entries_in i)) (items_long file long) ∙ r.cluster;
    gate = ap gate_in (sym (fetch.read honest)) ∙ ap (λ i. size (entries_in i)) (items_long file long) ∙ r.place;
    unwritten = inl (fetch.seen honest);
  }

pub long_bad : (file seen : List ℕ) (entry : ℕ) → 6 ≤ length file → file ≡ seen → all_entries false file ≡ broken entry → reading seen ≡ bad entry
long_bad file seen entry long is broken_is = ap reading (sym is) ∙ ap reading_in (items_long file long ∙ broken_is)

pub short_holds : (m0 m2 : Meaning) (held : LogContents) → length m0.seen < 6 → held.gate ≡ 0 → held.cluster ≡ None → Holds m0 m2 held
short_holds m0 m2 held short gate cluster = record {
  cluster = ap (λ i. cluster_among (entries_in i)) (items_short m0.seen short) ∙ sym cluster;
  gate = ap (λ i. size (entries_in i)) (items_short m0.seen short) ∙ sym gate;
  unwritten = inr (gate, cluster);
}

-- a short file has no entry whose gate could be renewed
pub short_renews : (m0 m2 : Meaning) → length m0.seen < 6 → IfSome (last_gate (entries_of m0.seen)) (λ at. m2.renewed ≡ Some at)
short_renews m0 m2 short =
    let R : Option ℕ → Type 0 = λ last. IfSome last (λ at. m2.renewed ≡ Some at) in
    subst R (sym (ap (λ i. last_gate (entries_in i)) (items_short m0.seen short))) tt

pub three_more : (good : Option ℕ) (k : ℕ) → Serves 3 good → less 3 good ≡ Some k → good ≡ Some (3 + k)
three_more None k three is = absurd (cc)
three_more (Some n) k three is = let e : n - 3 ≡ k = cc in ap Some (omega (arith, three, e))

pub five_serve : (good : Option ℕ) → Serves 3 good → Serves 2 (less 3 good) → Serves 5 good
five_serve None three two = tt
five_serve (Some n) three two = omega (arith, three, two)

-- three calls and two more
pub used_five : (p q : Plan) (bytes : ℕ) (new : Option Plan) → Serves 3 p.good → q.good ≡ less 3 p.good → Serves 2 q.good → new ≡ Some (spent 1 0 (spent 1 bytes q)) → Used 5 p new
used_five p q bytes new three is two now =
    let S : Option ℕ → Type 0 = λ g. Serves 2 g in
    record {
      served = five_serve p.good three (subst S is two);
      left = (spent 1 0 (spent 1 bytes q), now, ap (λ (g : Option ℕ). one_less (one_less g)) is ∙ two_fewer p.good);
    }
  where
    two_fewer : (good : Option ℕ) → one_less (one_less (less 3 good)) ≡ less 5 good
    two_fewer None = refl
    two_fewer (Some n) = ap Some (omega arith)
