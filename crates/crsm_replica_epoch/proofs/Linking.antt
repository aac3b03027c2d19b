-- Links, one frame more.
use Rattle.std.proofs.Common.{◌≡◌, ℕ, ◌+◌, ◌<◌, ◌≤◌, Bool, true, false, cond, refl, sym, ◌∙◌, ap, subst, arith, List, [], ◌∷◌, ◌⊎◌, inl, inr, length, get_or, set, max, zero, suc, zero-add, get_or-set_same, get_or-set_other}
use Rattle.std.specs.Prelude.{◌==◌, map, filter, count_by}
use Rattle.std.specs.List.{AllByRecursion}
use Rattle.std.proofs.lemmas.Bool.{eqb-true, eq-eqb}
use Rattle.std.proofs.lemmas.List.Sums.{sum_by-cons}
use Rattle.crsm_spec.specs.Types.{Stamp, InEpoch, Rec}
use Rattle.crsm_spec.specs.Lists.{greatest}
use Rattle.crsm_spec.specs.Parts.{Piece}
use Rattle.crsm_spec.specs.Replica.{Replica, Coordinator, Waiting, last_issued, latest_from, frames_to, acked_by, next_from}
use Rattle.crsm_commit.proofs.Filed.{bool_cases}
use Rattle.crsm_link.specs.Sent.{OutStands}
use Rattle.crsm_replica_epoch.specs.Linked.{LinkStands, LinksStand}
use Rattle.crsm_replica_epoch.specs.declared.link.Link.{Link}
use Rattle.crsm_replica_epoch.specs.declared.links.Links.{Links}
use Rattle.crsm_replica_epoch.proofs.Times.{latest_more, latest_if}

-- ---- all links

abbrev pub AllStand : List Link → Replica → Type 0
AllStand links r = (k : ℕ) (none : Link) → k < 15 → LinkStands (get_or links k none) r k

at : (P : Link → Type 0) (links : List Link) (k : ℕ) (none : Link) → AllByRecursion P links → k < length links → P (get_or links k none)
at P [] k none all within = absurd (omega arith)
at P (l ∷ links) zero none all within = all.0
at P (l ∷ links) (suc k) none all within = at P links k none all.1 (omega arith)

-- a new link
abbrev pub IsNew : Link → Type 0
IsNew link = OutStands link.sender [] 0 × (link.receiver.next ≡ 0)

new_stands : (link : Link) (r : Replica) (k : ℕ) → r.pushed ≡ [] → r.acked ≡ [] → r.taken ≡ [] → IsNew link → LinkStands link r k
unfolding frames_to acked_by next_from greatest
new_stands link r k pushed acked taken new =
    let frames : frames_to r k ≡ [] = ap (λ fs. map (λ f. f.1) (filter (λ f. f.0 == k) fs)) pushed in
    let none : acked_by r k ≡ 0 = ap (λ (xs : List (ℕ × ℕ)). greatest (map (λ a. a.1) (filter (λ a. a.0 == k) xs))) acked in
    let next : next_from r k ≡ 0 = ap (count_by (λ j. j == k)) taken in
    record {
      sent = subst (λ a. OutStands link.sender (frames_to r k) a) (sym none) (subst (λ fs. OutStands link.sender fs 0) (sym frames) new.0);
      next = new.1 ∙ sym next;
      few_sent = omega (arith, ap length frames);
      few_taken = omega (arith, next);
    }

pub all_new : (links : List Link) (r : Replica) → length links ≡ 15 → r.pushed ≡ [] → r.acked ≡ [] → r.taken ≡ [] → AllByRecursion IsNew links → AllStand links r
all_new links r len pushed acked taken all k none within = new_stands _ r k pushed acked taken (at IsNew links k none all (omega arith))

-- what the links stand for does not depend on these
pub links_beside : (links : Links) (r : Replica) (log : List Rec) (votes : List (Stamp × ℕ)) (owed : List Stamp) (parts : List Piece) (coordinator : Coordinator) (made : ℕ) (waiting : List Waiting) →
    LinksStand links r → LinksStand links (record r { log = log; votes = votes; owed = owed; parts = parts; coordinator = coordinator; made = made; waiting = waiting })
unfolding last_issued latest_from frames_to acked_by next_from
links_beside links r log votes owed parts coordinator made waiting s = record {
  count = s.count;
  each = λ k none within. let l = s.each k none within in record { sent = l.sent; next = l.next; few_sent = l.few_sent; few_taken = l.few_taken };
}

same_or_not : (k j : ℕ) → (k ≡ j) ⊎ ((k == j) ≡ false)
same_or_not k j = elim (bool_cases (k == j)) [ inl e ↦ inl (eqb-true k j e) | inr e ↦ inr e ]

differs : (k j : ℕ) → (k == j) ≡ false → k ≡ j → ⊥
differs k j test e = cc (sym test ∙ eq-eqb k j e)

-- one link changes
pub one_changed : (links : List Link) (q : Replica) (k : ℕ) (new : Link) → length links ≡ 15 → k < 15 → LinkStands new q k →
    ((j : ℕ) (none : Link) → j < 15 → (k == j) ≡ false → LinkStands (get_or links j none) q j) → AllStand (set links k new) q
one_changed links q k new len within here there j none below =
    elim (same_or_not k j) [
      | inl e ↦ subst (λ i. LinkStands (get_or (set links k new) i none) q i) e (subst (λ l. LinkStands l q k) (sym (get_or-set_same links k new none (omega arith))) here)
      | inr test ↦ subst (λ l. LinkStands l q j) (sym (get_or-set_other links k j new none (λ e. differs k j test (sym e)))) (there j none below test)
    ]

-- a link stands on where its frames are the same
moved : (link : Link) (r q : Replica) (k : ℕ) → frames_to r k ≡ frames_to q k → acked_by r k ≡ acked_by q k → next_from r k ≡ next_from q k →
    last_issued r ≤ last_issued q → latest_from r.received k ≤ latest_from q.received k → LinkStands link r k → LinkStands link q k
moved link r q k frames acked next issued received l = record {
  sent = subst (λ a. OutStands link.sender (frames_to q k) a) acked (subst (λ fs. OutStands link.sender fs (acked_by r k)) frames l.sent);
  next = l.next ∙ next;
  few_sent = omega (arith, ap length frames, l.few_sent);
  few_taken = omega (arith, next, l.few_taken);
}

-- ---- a frame is taken

abbrev pub with_taken : Replica → ℕ → ℕ → Replica
with_taken r k time = record r { taken = k ∷ r.taken; received = (k, time) ∷ r.received }

count_more : (k j : ℕ) (taken : List ℕ) → count_by (λ i. i == j) (k ∷ taken) ≡ cond (k == j) 1 0 + count_by (λ i. i == j) taken
count_more k j taken = sum_by-cons (λ i. cond (i == j) 1 0) k taken

next_more : (r : Replica) (k j time : ℕ) → next_from (with_taken r k time) j ≡ cond (k == j) 1 0 + next_from r j
unfolding next_from
next_more r k j time = count_more k j r.taken

latest_there : (b : Bool) (t l : ℕ) → b ≡ true → latest_if b t l ≡ max t l
unfolding latest_if
latest_there true t l e = refl
latest_there false t l e = absurd (cc)

latest_elsewhere : (b : Bool) (t l : ℕ) → b ≡ false → latest_if b t l ≡ l
unfolding latest_if
latest_elsewhere true t l e = absurd (cc)
latest_elsewhere false t l e = refl

frames_as : (r : Replica) (k j time : ℕ) → frames_to r j ≡ frames_to (with_taken r k time) j
unfolding frames_to
frames_as r k j time = refl

acked_as : (r : Replica) (k j time : ℕ) → acked_by r j ≡ acked_by (with_taken r k time) j
unfolding acked_by
acked_as r k j time = refl

issued_as : (r : Replica) (k time : ℕ) → last_issued r ≡ last_issued (with_taken r k time)
unfolding last_issued
issued_as r k time = refl

took : (old new : Link) (r : Replica) (k time : ℕ) → latest_from r.received k < time → LinkStands old r k →
    (old.receiver.next < time → new.receiver.next ≡ old.receiver.next + 1) → new.sender ≡ old.sender → LinkStands new (with_taken r k time) k
took old new r k time above l next sender =
    let test : (k == k) ≡ true = eq-eqb k k refl in
    let more : next_from (with_taken r k time) k ≡ 1 + next_from r k = next_more r k k time ∙ ap (λ b. cond b 1 0 + next_from r k) test in
    let received : latest_from ((k, time) ∷ r.received) k ≡ max time (latest_from r.received k) =
    latest_more k time k r.received ∙ latest_there (k == k) time (latest_from r.received k) test in
    record {
      sent = subst (λ a. OutStands new.sender (frames_to (with_taken r k time) k) a) (acked_as r k k time)
          (subst (λ fs. OutStands new.sender fs (acked_by r k)) (frames_as r k k time) (subst (λ o. OutStands o (frames_to r k) (acked_by r k)) (sym sender) l.sent));
      next = next (omega (arith, l.next, l.few_taken)) ∙ omega (arith, more, l.next);
      few_sent = omega (arith, ap length (frames_as r k k time), issued_as r k time, l.few_sent);
      few_taken = omega (arith, more, received, l.few_taken);
    }

took_other : (link : Link) (r : Replica) (k j time : ℕ) → (k == j) ≡ false → LinkStands link r j → LinkStands link (with_taken r k time) j
took_other link r k j time test l =
    moved link r (with_taken r k time) j (frames_as r k j time) (acked_as r k j time)
    (sym (next_more r k j time ∙ ap (λ b. cond b 1 0 + next_from r j) test ∙ zero-add (next_from r j)))
    (omega (arith, issued_as r k time))
    (omega (arith, latest_more k time j r.received ∙ latest_elsewhere (k == j) time (latest_from r.received j) test)) l

pub taken_stand : (links : Links) (r : Replica) (k time : ℕ) (none new : Link) → LinksStand links r → k < 15 → latest_from r.received k < time →
    ((get_or links.links k none).receiver.next < time → new.receiver.next ≡ (get_or links.links k none).receiver.next + 1) →
    new.sender ≡ (get_or links.links k none).sender → AllStand (set links.links k new) (with_taken r k time)
taken_stand links r k time none new s within above next sender =
    one_changed links.links (with_taken r k time) k new s.count within (took (get_or links.links k none) new r k time above (s.each k none within) next sender)
    (λ j other below test. took_other (get_or links.links j other) r k j time test (s.each j other below))

-- ---- frames are acknowledged

abbrev pub with_acked : Replica → ℕ → ℕ → Replica
with_acked r k next = record r { acked = (k, next) ∷ r.acked }

acked_if : (b : Bool) (k next j : ℕ) (acked : List (ℕ × ℕ)) → (k == j) ≡ b →
    greatest (map (λ a. a.1) (filter (λ a. a.0 == j) ((k, next) ∷ acked))) ≡ latest_if b next (greatest (map (λ a. a.1) (filter (λ a. a.0 == j) acked)))
unfolding greatest latest_if
acked_if true k next j acked e = rw e refl
acked_if false k next j acked e = rw e refl

acked_more : (r : Replica) (k next j : ℕ) → acked_by (with_acked r k next) j ≡ latest_if (k == j) next (acked_by r j)
unfolding acked_by
acked_more r k next j = acked_if (k == j) k next j r.acked refl

acks : (old new : Link) (r : Replica) (k next : ℕ) → next ≤ length (frames_to r k) → LinkStands old r k →
    ((pushed : List InEpoch) (acked : ℕ) → OutStands old.sender pushed acked → next ≤ length pushed → OutStands new.sender pushed (max next acked)) →
    new.receiver ≡ old.receiver → LinkStands new (with_acked r k next) k
unfolding last_issued latest_from frames_to next_from
acks old new r k next within l sent receiver =
    let more : acked_by (with_acked r k next) k ≡ max next (acked_by r k) = acked_more r k next k ∙ latest_there (k == k) next (acked_by r k) (eq-eqb k k refl) in
    record {
      sent = subst (λ a. OutStands new.sender (frames_to r k) a) (sym more) (sent (frames_to r k) (acked_by r k) l.sent within);
      next = ap (λ i. i.next) receiver ∙ l.next;
      few_sent = l.few_sent;
      few_taken = l.few_taken;
    }

acks_other : (link : Link) (r : Replica) (k j next : ℕ) → (k == j) ≡ false → LinkStands link r j → LinkStands link (with_acked r k next) j
unfolding last_issued latest_from frames_to next_from
acks_other link r k j next test l = record {
  sent = subst (λ a. OutStands link.sender (frames_to r j) a) (sym (acked_more r k next j ∙ latest_elsewhere (k == j) next (acked_by r j) test)) l.sent;
  next = l.next;
  few_sent = l.few_sent;
  few_taken = l.few_taken;
}

pub acked_stand : (links : Links) (r : Replica) (k next : ℕ) (none new : Link) → LinksStand links r → k < 15 → next ≤ length (frames_to r k) →
    ((pushed : List InEpoch) (acked : ℕ) → OutStands (get_or links.links k none).sender pushed acked → next ≤ length pushed → OutStands new.sender pushed (max next acked)) →
    new.receiver ≡ (get_or links.links k none).receiver → AllStand (set links.links k new) (with_acked r k next)
acked_stand links r k next none new s within upto sent receiver =
    one_changed links.links (with_acked r k next) k new s.count within (acks (get_or links.links k none) new r k next upto (s.each k none within) sent receiver)
    (λ j other below test. acks_other (get_or links.links j other) r k j next test (s.each j other below))
