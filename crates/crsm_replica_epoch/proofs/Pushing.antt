-- Links, a payload pushed to members.
use Rattle.std.proofs.Common.{◌≡◌, ℕ, ◌+◌, ◌<◌, ◌≤◌, Bool, true, false, refl, sym, ◌∙◌, ap, subst, arith, List, [], ◌∷◌, ◌++◌, length, length-append, length-set, get_or, set, take, zero, suc}
use Rattle.std.specs.Prelude.{◌==◌, ◌||◌, not, map, filter, if◌then◌else◌}
use Rattle.std.specs.List.{AllByRecursion, list_any}
use Rattle.std.proofs.lemmas.Bool.{eq-eqb}
use Rattle.std.proofs.lemmas.Bool.Decides.{nat_tests}
use Rattle.std.proofs.lemmas.List.{map-append, append-nil, append_assoc, take_more}
use Rattle.std.proofs.lemmas.List.Elements.{filter-append}
use Rattle.crsm_base.specs.Members.{IsMembers, RisesWithin}
use Rattle.crsm_spec.specs.Types.{InEpoch}
use Rattle.crsm_spec.specs.Lists.{first_of}
use Rattle.crsm_spec.specs.Replica.{Replica, last_issued, latest_from, frames_to, acked_by, next_from}
use Rattle.crsm_link.specs.Sent.{OutStands}
use Rattle.crsm_replica_epoch.specs.Linked.{LinkStands, LinksStand, others_of}
use Rattle.crsm_replica_epoch.specs.declared.link.Link.{Link}
use Rattle.crsm_replica_epoch.specs.declared.links.Links.{Links}
use Rattle.crsm_replica_epoch.proofs.Linking.{AllStand, one_changed}

-- the replica that issued a time and pushed a payload to these
abbrev pub with_pushed : Replica → ℕ → InEpoch → List ℕ → Replica
with_pushed r time payload ks = record r { issued = time ∷ r.issued; pushed = r.pushed ++ map (λ k. (k, payload)) ks }

unfoldable frames_of : List (ℕ × InEpoch) → ℕ → List InEpoch
frames_of pushed k = map (λ f. f.1) (filter (λ f. f.0 == k) pushed)

frames_append : (xs ys : List (ℕ × InEpoch)) (k : ℕ) → frames_of (xs ++ ys) k ≡ frames_of xs k ++ frames_of ys k
unfolding frames_of
frames_append xs ys k =
    ap (map (λ f. f.1)) (filter-append (λ f. f.0 == k) xs ys) ∙ map-append (λ f. f.1) (filter (λ f. f.0 == k) xs) (filter (λ f. f.0 == k) ys)

frames_one : (j k : ℕ) (payload : InEpoch) (b : Bool) → (j == k) ≡ b → frames_of ((j, payload) ∷ []) k ≡ (if b then payload ∷ [] else [])
unfolding frames_of
frames_one j k payload true e = rw e refl
frames_one j k payload false e = rw e refl

-- to k nothing is pushed with what is pushed to others
frames_none : (ks : List ℕ) (k : ℕ) (payload : InEpoch) → AllByRecursion (λ j. (j == k) ≡ false) ks → frames_of (map (λ j. (j, payload)) ks) k ≡ []
unfolding frames_of
frames_none [] k payload all = refl
frames_none (j ∷ ks) k payload all = let e : (j == k) ≡ false = all.0 in rw e (frames_none ks k payload all.1)

pushed_none : (r : Replica) (time : ℕ) (payload : InEpoch) (ks : List ℕ) (k : ℕ) → AllByRecursion (λ j. (j == k) ≡ false) ks →
    frames_to (with_pushed r time payload ks) k ≡ frames_to r k
unfolding frames_to frames_of
pushed_none r time payload ks k all =
    frames_append r.pushed (map (λ j. (j, payload)) ks) k ∙ ap (λ fs. frames_of r.pushed k ++ fs) (frames_none ks k payload all) ∙ append-nil (frames_of r.pushed k)

regrouped : (pushed : List (ℕ × InEpoch)) (payload : InEpoch) (ks : List ℕ) (j : ℕ) →
    pushed ++ map (λ k. (k, payload)) (ks ++ j ∷ []) ≡ (pushed ++ map (λ k. (k, payload)) ks) ++ (j, payload) ∷ []
regrouped pushed payload ks j = ap (λ fs. pushed ++ fs) (map-append (λ k. (k, payload)) ks (j ∷ [])) ∙ sym (append_assoc pushed (map (λ k. (k, payload)) ks) ((j, payload) ∷ []))

pushed_one : (r : Replica) (time : ℕ) (payload : InEpoch) (ks : List ℕ) (j k : ℕ) (b : Bool) → (j == k) ≡ b →
    frames_to (with_pushed r time payload (ks ++ j ∷ [])) k ≡ frames_to (with_pushed r time payload ks) k ++ (if b then payload ∷ [] else [])
unfolding frames_to frames_of
pushed_one r time payload ks j k b e =
    ap (λ fs. frames_of fs k) (regrouped r.pushed payload ks j) ∙ frames_append (r.pushed ++ map (λ i. (i, payload)) ks) ((j, payload) ∷ []) k
    ∙ ap (λ fs. frames_of (r.pushed ++ map (λ i. (i, payload)) ks) k ++ fs) (frames_one j k payload b e)

-- ---- one more member

pushes : (old new : Link) (r : Replica) (time : ℕ) (payload : InEpoch) (ks : List ℕ) (j : ℕ) → AllByRecursion (λ i. (i == j) ≡ false) ks →
    length (frames_to r j) < time → LinkStands old (with_pushed r time payload ks) j →
    ((pushed : List InEpoch) (acked : ℕ) → OutStands old.sender pushed acked → length pushed < time → OutStands new.sender (pushed ++ payload ∷ []) acked) →
    new.receiver ≡ old.receiver → LinkStands new (with_pushed r time payload (ks ++ j ∷ [])) j
unfolding last_issued first_of acked_by next_from latest_from
pushes old new r time payload ks j fresh few l sent receiver =
    let more : frames_to (with_pushed r time payload (ks ++ j ∷ [])) j ≡ frames_to (with_pushed r time payload ks) j ++ payload ∷ [] =
    pushed_one r time payload ks j j true (eq-eqb j j refl) in
    let before : length (frames_to (with_pushed r time payload ks) j) ≡ length (frames_to r j) = ap length (pushed_none r time payload ks j fresh) in
    record {
      sent = subst (λ fs. OutStands new.sender fs (acked_by r j)) (sym more) (sent _ (acked_by r j) l.sent (omega (arith, before)));
      next = ap (λ i. i.next) receiver ∙ l.next;
      few_sent = omega (arith, ap length more, length-append (frames_to (with_pushed r time payload ks) j) (payload ∷ []), before);
      few_taken = l.few_taken;
    }

pushes_other : (link : Link) (r : Replica) (time : ℕ) (payload : InEpoch) (ks : List ℕ) (j k : ℕ) → (j == k) ≡ false →
    LinkStands link (with_pushed r time payload ks) k → LinkStands link (with_pushed r time payload (ks ++ j ∷ [])) k
unfolding last_issued first_of acked_by next_from latest_from
pushes_other link r time payload ks j k test l =
    let same : frames_to (with_pushed r time payload (ks ++ j ∷ [])) k ≡ frames_to (with_pushed r time payload ks) k =
    pushed_one r time payload ks j k false test ∙ append-nil (frames_to (with_pushed r time payload ks) k) in
    record {
      sent = subst (λ fs. OutStands link.sender fs (acked_by r k)) (sym same) l.sent;
      next = l.next;
      few_sent = omega (arith, ap length same, l.few_sent);
      few_taken = l.few_taken;
    }

pub pushed_stand : (links : Links) (r : Replica) (time : ℕ) (payload : InEpoch) (ks : List ℕ) (j : ℕ) (none new : Link) →
    LinksStand links (with_pushed r time payload ks) → j < 15 → AllByRecursion (λ i. (i == j) ≡ false) ks → length (frames_to r j) < time →
    ((pushed : List InEpoch) (acked : ℕ) → OutStands (get_or links.links j none).sender pushed acked → length pushed < time → OutStands new.sender (pushed ++ payload ∷ []) acked) →
    new.receiver ≡ (get_or links.links j none).receiver → AllStand (set links.links j new) (with_pushed r time payload (ks ++ j ∷ []))
pushed_stand links r time payload ks j none new s within fresh few sent receiver =
    one_changed links.links (with_pushed r time payload (ks ++ j ∷ [])) j new s.count within
    (pushes (get_or links.links j none) new r time payload ks j fresh few (s.each j none within) sent receiver)
    (λ k other below test. pushes_other (get_or links.links k other) r time payload ks j k test (s.each k other below))

-- nothing is pushed yet
pub before_pushing : (links : Links) (r : Replica) (time : ℕ) (payload : InEpoch) → last_issued r < time → LinksStand links r → LinksStand links (with_pushed r time payload [])
unfolding last_issued first_of acked_by next_from latest_from
before_pushing links r time payload above s = record {
  count = s.count;
  each = λ k none within.
      let l = s.each k none within in
      let same : frames_to (with_pushed r time payload []) k ≡ frames_to r k = pushed_none r time payload [] k tt in
      record { sent = subst (λ fs. OutStands (get_or links.links k none).sender fs (acked_by r k)) (sym same) l.sent; next = l.next; few_sent = omega (arith, ap length same, l.few_sent); few_taken = l.few_taken };
}

-- ---- the members in turn

below_if : (b : Bool) (m : ℕ) (k : ℕ) (ks : List ℕ) → k < m → AllByRecursion (λ j. (j == m) ≡ false) ks → AllByRecursion (λ j. (j == m) ≡ false) (if b then k ∷ ks else ks)
below_if true m k ks h all = ((grind (arith, nat_tests)), all)
below_if false m k ks h all = all

rest_above : (low high : ℕ) (ks : List ℕ) (i d : ℕ) → RisesWithin low high ks → i < length ks → low ≤ get_or ks i d
rest_above low high [] i d rises within = absurd (omega arith)
rest_above low high (k ∷ ks) zero d rises within = rises.0
rest_above low high (k ∷ ks) (suc i) d rises within = let h = rest_above (k + 1) high ks i d rises.2 (omega arith) in omega (arith, h, rises.0)

none_again : (low high me : ℕ) (ks : List ℕ) (i d : ℕ) → RisesWithin low high ks → i < length ks →
    AllByRecursion (λ j. (j == get_or ks i d) ≡ false) (others_of me (take i ks))
none_again low high me [] i d rises within = absurd (omega arith)
none_again low high me (k ∷ ks) zero d rises within = tt
none_again low high me (k ∷ ks) (suc i) d rises within =
    let h = rest_above (k + 1) high ks i d rises.2 (omega arith) in
    below_if (not (k == me)) (get_or ks i d) k (others_of me (take i ks)) (omega (arith, h)) (none_again (k + 1) high me ks i d rises.2 (omega arith))

pub not_yet : (me : ℕ) (members : List ℕ) (i d : ℕ) → IsMembers members → i < length members →
    AllByRecursion (λ j. (j == get_or members i d) ≡ false) (others_of me (take i members))
not_yet me [] i d h within = absurd h
not_yet me (k ∷ members) i d h within = none_again 0 15 me (k ∷ members) i d h within

pub others_more : (me : ℕ) (members : List ℕ) (i d : ℕ) (b : Bool) → i < length members → (get_or members i d == me) ≡ b →
    others_of me (take (i + 1) members) ≡ others_of me (take i members) ++ (if b then [] else get_or members i d ∷ [])
others_more me members i d b within e =
    ap (others_of me) (take_more members i d within) ∙ filter-append (λ k. not (k == me)) (take i members) (get_or members i d ∷ [])
    ∙ ap (λ ks. others_of me (take i members) ++ ks) (one b e)
  where
    one : (b : Bool) → (get_or members i d == me) ≡ b → others_of me (get_or members i d ∷ []) ≡ (if b then [] else get_or members i d ∷ [])
    one true e = rw e refl
    one false e = rw e refl

-- one of the others that passes
pub any_other : (p : ℕ → Bool) (me : ℕ) (members : List ℕ) (i d : ℕ) → i < length members → (get_or members i d == me) ≡ false → p (get_or members i d) ≡ true →
    list_any p (others_of me members) ≡ true
any_other p me [] i d within other passes = absurd (omega arith)
any_other p me (k ∷ members) zero d within other passes = rw (other, passes) refl
any_other p me (k ∷ members) (suc i) d within other passes = any_if (not (k == me)) (any_other p me members i d (omega arith) other passes)
  where
    or_true : (b : Bool) → (b || true) ≡ true
    or_true true = refl
    or_true false = refl

    any_if : (b : Bool) → list_any p (others_of me members) ≡ true → list_any p (if b then k ∷ others_of me members else others_of me members) ≡ true
    any_if true h = ap (λ b. p k || b) h ∙ or_true (p k)
    any_if false h = h

-- ---- one member in turn

-- it is another one, and the payload is pushed to it
pub pushed_next : (before links : Links) (r : Replica) (time : ℕ) (payload copy : InEpoch) (me : ℕ) (members : List ℕ) (i d : ℕ) (none new : Link) →
    IsMembers members → i < length members → get_or members i d < 15 → (get_or members i d == me) ≡ false → copy ≡ payload → LinksStand before r → last_issued r < time →
    LinksStand links (with_pushed r time payload (others_of me (take i members))) →
    ((pushed : List InEpoch) (acked : ℕ) → OutStands (get_or links.links (get_or members i d) none).sender pushed acked → length pushed < time → OutStands new.sender (pushed ++ copy ∷ []) acked) →
    new.receiver ≡ (get_or links.links (get_or members i d) none).receiver →
    LinksStand (record links { links = set links.links (get_or members i d) new }) (with_pushed r time payload (others_of me (take (i + 1) members)))
pushed_next before links r time payload copy me members i d none new are within below other same s above so_far sent receiver = record {
  count = length-set links.links (get_or members i d) new ∙ so_far.count;
  each = subst (λ ks. AllStand (set links.links (get_or members i d) new) (with_pushed r time payload ks)) (sym (others_more me members i d false within other))
      (pushed_stand links r time payload (others_of me (take i members)) (get_or members i d) none new so_far below (not_yet me members i d are within)
      (omega (arith, (s.each (get_or members i d) none below).few_sent))
      (λ pushed acked stands few. subst (λ p. OutStands new.sender (pushed ++ p ∷ []) acked) same (sent pushed acked stands few)) receiver);
}

-- it is me, and is passed over
pub passed_over : (links : Links) (r : Replica) (time : ℕ) (payload : InEpoch) (me : ℕ) (members : List ℕ) (i d : ℕ) → i < length members → (get_or members i d == me) ≡ true →
    LinksStand links (with_pushed r time payload (others_of me (take i members))) → LinksStand links (with_pushed r time payload (others_of me (take (i + 1) members)))
passed_over links r time payload me members i d within same s =
    subst (λ ks. LinksStand links (with_pushed r time payload ks)) (sym (others_more me members i d true within same ∙ append-nil (others_of me (take i members)))) s
