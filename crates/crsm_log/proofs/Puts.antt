-- The effect of the two writes of a put on a settled file.
use Rattle.std.proofs.Common.{◌≡◌, ◌≢◌, IsTrue, inl, inr, ℕ, ◌+◌, ◌-◌, ◌<◌, ◌≤◌, min, List, [], ◌∷◌, ◌++◌, length, get_or, take, drop, replicate, refl, sym, ◌∙◌, ap, subst, arith, append_assoc, length-append, length-take, take-append-drop, Bool, true, false, nat_lt}
use Rattle.std.proofs.lemmas.Bool.{cases_eq}
use Rattle.std.proofs.lemmas.Bool.Decides.{nat_tests}
use Rattle.std.proofs.lemmas.List.{take_at, drop_at, drop_more, take_more, append-nil, length-replicate}
use Rattle.std.proofs.Math.Seq.{get_or-append_seam}
use Rattle.crsm_port_image.specs.Bytes.{Torn, overwritten}
use Rattle.crsm_disk.specs.Meaning.{Meaning, Only, LeavesOnly}
use Rattle.crsm_disk.proofs.Moments.{weaker}
use Rattle.crsm_log.specs.Format.{four_bytes, found, reading, reading_in, size, bodies_among, bodies_in, bodies_of, cluster_among, cluster_entry, cluster_of, body_entry, eight_bytes, has_after, length_of, may_stand, Entry, Items, whole, broken, entries_in, entries_of, items_of, is_cluster}
use Rattle.crsm_log.specs.Log.{Follows, IsSettled, IsBeforeOrAfter, IsWithOrWithout, HasCluster, entry_bytes, is_quiet, recorded}
use Rattle.crsm_log.proofs.Quiet.{pair_quiet}
use Rattle.crsm_port_image.specs.Calls.{synced, wrote}
use Rattle.crsm_log.proofs.Entries.{size-push, body_field, body_length, body_may, bodies-push_body, bodies-push_cluster, cluster-push_body, cluster-push_cluster, no_cluster}
use Rattle.crsm_log.proofs.Crash.{IsRun, run_of, items_long, items_short, shut_reads, open_reads, staged, length_staged, eight_back}
use Rattle.crsm_log.specs.Claim.{IsClaimed, claimed}
use Rattle.std.specs.Prelude.{Option, Some, None, not, ◌==◌}

pub run_of_items : (l : List ℕ) (es : List Entry) → items_of l ≡ whole es → IsRun false es (take (size es) l)
run_of_items l es e = go (nat_lt (length l) 6) refl
  where
    go : (t : Bool) → nat_lt (length l) 6 ≡ t → IsRun false es (take (size es) l)
    go true is =
        let lt : length l < 6 = grind (arith, nat_tests) in
        let none : whole [] ≡ whole es = sym (items_short l lt) ∙ e in
        let nil : [] ≡ es = cc in
        let P : List Entry → Type 0 = λ b. IsRun false b (take (size b) l) in
        subst P nil refl
    go false is = let le : 6 ≤ length l = grind (arith, nat_tests) in run_of es (length l) false l (sym (items_long l le) ∙ e)

-- what is read as bodies has no bad gate
pub whole_of : (i : Items) → reading_in i ≡ found (bodies_in (reading_in i)) → i ≡ whole (entries_in i)
whole_of (whole es) is = refl
whole_of (broken k) is = absurd (cc)

pub settled_items : (m : Meaning) (end : ℕ) → IsSettled m end → items_of m.seen ≡ whole (entries_of m.seen)
settled_items m end s = whole_of (items_of m.seen) s.whole

pub whole_reading : (l : List ℕ) (es : List Entry) → items_of l ≡ whole es → reading l ≡ found (bodies_of l)
whole_reading l es is = let P : Items → Type 0 = λ i. reading_in i ≡ found (bodies_in (reading_in i)) in subst P (sym is) refl

-- a settled file is a run, a closed gate and what stands behind it
module _ (l : List ℕ) (end : ℕ) (es : List Entry) (read : items_of l ≡ whole es) (place : end ≡ size es) (inside : end < length l) (shut : get_or l end 0 ≢ 1) where
  pub run : List ℕ
  run = take end l

  pub is_run : IsRun false es (take end l)
  is_run = let P : ℕ → Type 0 = λ n. IsRun false es (take n l) in subst P (sym place) (run_of_items l es read)

  pub run_long : length (take end l) ≡ end
  run_long = omega (arith, length-take end l, inside)

  gate_in : take (end + 1) l ≡ take end l ++ get_or l end 0 ∷ []
  gate_in = take_more l end 0 inside

  -- the closed gate stands in each outcome of the first write
  pub torn_behind : (n : ℕ) (c : List ℕ) → Torn (end + 1) n l c → items_of c ≡ whole es
  torn_behind n c torn =
      let m : min (end + 1) (length l) ≡ end + 1 = omega (arith, inside) in
      let prefix : take (end + 1) c ≡ take (end + 1) l = sym (ap (λ (k : ℕ). take k c) m) ∙ torn.before in
      let parts : c ≡ take end l ++ get_or l end 0 ∷ drop (end + 1) c =
      sym (take-append-drop (end + 1) c) ∙ ap (λ (t : List ℕ). t ++ drop (end + 1) c) (prefix ∙ gate_in) ∙ append_assoc (take end l) (get_or l end 0 ∷ []) (drop (end + 1) c) in
      ap items_of parts ∙ shut_reads es (take end l) (get_or l end 0) (drop (end + 1) c) is_run shut

  pub written_behind : (e : Entry) → overwritten l (end + 1) (entry_bytes e) ≡ staged (take end l) (get_or l end 0) e (drop (end + 1 + length (entry_bytes e)) l)
  written_behind e =
      let entry = entry_bytes e in
      let junk = drop (end + 1 + length entry) l in
      let none : end + 1 - length l ≡ 0 = omega (arith, inside) in
      ap (λ (k : ℕ). take (end + 1) l ++ replicate k 0 ++ entry ++ junk) none
      ∙ ap (λ (t : List ℕ). t ++ entry ++ junk) (append-nil (take (end + 1) l) ∙ gate_in)
      ∙ simp append_assoc

-- one byte over the gate
module _ (run : List ℕ) (end : ℕ) (long : length run ≡ end) (gate : ℕ) (e : Entry) (junk : List ℕ) where
  abbrev rest : List ℕ
  rest = four_bytes e.field ++ e.bytes ++ 0 ∷ junk

  regroup : (g : ℕ) → staged run g e junk ≡ (run ++ g ∷ []) ++ rest
  regroup g = sym (append_assoc run (g ∷ []) rest)

  back : drop (end + 1) (staged run gate e junk) ≡ rest
  back = ap (λ (t : List ℕ). drop (end + 1) t) (regroup gate) ∙ drop_at (run ++ gate ∷ []) rest (end + 1) (omega (arith, length-append run (gate ∷ []), long))

  size_is : length (staged run gate e junk) ≡ end + 6 + length e.bytes + length junk
  size_is = omega (arith, length_staged run gate e junk, long)

  pub torn_gate : (c : List ℕ) → Torn end 1 (staged run gate e junk) c → c ≡ staged run (get_or c end 0) e junk
  torn_gate c torn =
      let m : min end (length (staged run gate e junk)) ≡ end = omega (arith, size_is) in
      let prefix : take end c ≡ run = sym (ap (λ (k : ℕ). take k c) m) ∙ torn.before ∙ take_at run (gate ∷ rest) end long in
      let inside : end < length c = omega (arith, torn.no_shorter, size_is) in
      sym (take-append-drop end c) ∙ ap (λ (t : List ℕ). t ++ drop end c) prefix
      ∙ ap (λ (t : List ℕ). run ++ t) (drop_more c end 0 inside ∙ ap (λ (t : List ℕ). get_or c end 0 ∷ t) (torn.after ∙ back))

  pub written_gate : overwritten (staged run gate e junk) end (1 ∷ []) ≡ staged run 1 e junk
  written_gate =
      let none : end - length (staged run gate e junk) ≡ 0 = omega (arith, size_is) in
      ap (λ (k : ℕ). take end (staged run gate e junk) ++ replicate k 0 ++ (1 ∷ []) ++ drop (end + 1) (staged run gate e junk)) none
      ∙ ap (λ (t : List ℕ). t ++ (1 ∷ []) ++ drop (end + 1) (staged run gate e junk)) (append-nil (take end (staged run gate e junk)) ∙ take_at run (gate ∷ rest) end long)
      ∙ ap (λ (t : List ℕ). run ++ (1 ∷ []) ++ t) back
      ∙ append_assoc run (1 ∷ []) rest

  pub next_gate : get_or (staged run 1 e junk) (end + 5 + length e.bytes) 0 ≡ 0
  next_gate =
      let prefix : List ℕ = run ++ 1 ∷ (four_bytes e.field ++ e.bytes) in
      let whole : staged run 1 e junk ≡ (run ++ 1 ∷ (four_bytes e.field ++ e.bytes)) ++ 0 ∷ junk = sym (append_assoc run (1 ∷ (four_bytes e.field ++ e.bytes)) (0 ∷ junk)) in
      let at : end + 5 + length e.bytes ≡ length (run ++ 1 ∷ (four_bytes e.field ++ e.bytes)) = omega (arith, length-append run (1 ∷ (four_bytes e.field ++ e.bytes)), long) in
      ap (λ (t : List ℕ). get_or t (end + 5 + length e.bytes) 0) whole
      ∙ ap (λ (k : ℕ). get_or ((run ++ 1 ∷ (four_bytes e.field ++ e.bytes)) ++ 0 ∷ junk) k 0) at
      ∙ get_or-append_seam (run ++ 1 ∷ (four_bytes e.field ++ e.bytes)) 0 junk 0

  -- whatever stands at the gate, these entries or one more
  pub gate_reads : (es : List Entry) (g : ℕ) → IsRun false es run → Follows es e → IsWithOrWithout es e (staged run g e junk)
  gate_reads es g r fits = elim (cases_eq g 1) [
    | inl o ↦ inr (ap (λ (k : ℕ). items_of (staged run k e junk)) o ∙ open_reads es run e junk r fits)
    | inr s ↦ inl (shut_reads es run g rest r s)
  ]

  pub settles : (es : List Entry) (m : Meaning) → IsRun false es run → Follows es e → end ≡ size es → m.seen ≡ staged run 1 e junk → Only m.seen m.may_leave → IsTrue (is_quiet m.history) → IsSettled m (end + 5 + length e.bytes) × (items_of m.seen ≡ whole (es ++ e ∷ []))
  settles es m r fits place is only quiet =
      let read : items_of m.seen ≡ whole (es ++ e ∷ []) = ap items_of is ∙ open_reads es run e junk r fits in (
        record {
          whole = whole_reading m.seen (es ++ e ∷ []) read;
          place = omega (arith, ap (λ i. size (entries_in i)) read, size-push es e, place);
          inside = omega (arith, ap length is, length_staged run 1 e junk, long);
          shut = let z : get_or m.seen (end + 5 + length e.bytes) 0 ≡ 0 = ap (λ (t : List ℕ). get_or t (end + 5 + length e.bytes) 0) is ∙ next_gate in λ one. absurd (omega (arith, z, one));
          durable = only;
          quiet = quiet;
        },
        read,
      )

pub length_overwritten : (l : List ℕ) (at : ℕ) (bs : List ℕ) → at + length bs ≤ length (overwritten l at bs)
length_overwritten l at bs =
    let prefix = take at l ++ replicate (at - length l) 0 in
    omega (
      arith,
      length-append (take at l ++ replicate (at - length l) 0 ++ bs) (drop (at + length bs) l),
      length-append (take at l ++ replicate (at - length l) 0) bs,
      length-append (take at l) (replicate (at - length l) 0),
      length-take at l,
      length-replicate {A = ℕ} (at - length l) 0,
    )

-- the calls that put an entry on a settled disk
module _ (old mid new : Meaning) (end : ℕ) (e : Entry) (entry : List ℕ) (is : entry ≡ entry_bytes e) (s : IsSettled old end) where
  abbrev es : List Entry
  es = entries_of old.seen

  abbrev junk : List ℕ
  junk = drop (end + 1 + length (entry_bytes e)) old.seen

  read : items_of old.seen ≡ whole (entries_of old.seen)
  read = settled_items old end s

  pub first_leaves : LeavesOnly old mid (Torn (end + 1) (length entry) old.seen) → LeavesOnly old mid (IsWithOrWithout (entries_of old.seen) e)
  first_leaves first = weaker old mid (Torn (end + 1) (length entry) old.seen) (IsWithOrWithout es e) first (λ c torn. inl (torn_behind old.seen end es read s.place s.inside s.shut (length entry) c torn))

  stages : mid.seen ≡ overwritten old.seen (end + 1) entry → mid.seen ≡ staged (take end old.seen) (get_or old.seen end 0) e junk
  stages written = written ∙ ap (overwritten old.seen (end + 1)) is ∙ written_behind old.seen end es read s.place s.inside s.shut e

  long : length (take end old.seen) ≡ end
  long = run_long old.seen end es read s.place s.inside s.shut

  runs : IsRun false es (take end old.seen)
  runs = is_run old.seen end es read s.place s.inside s.shut

  module _ (fits : Follows (entries_of old.seen) e) where
    pub second_leaves : mid.seen ≡ overwritten old.seen (end + 1) entry → LeavesOnly mid new (Torn end 1 mid.seen) → LeavesOnly mid new (IsWithOrWithout (entries_of old.seen) e)
    second_leaves written second =
        weaker mid new (Torn end 1 mid.seen) (IsWithOrWithout es e) second (λ c torn.
        let T : List ℕ → Type 0 = λ l. Torn end 1 l c in
        let at : c ≡ staged (take end old.seen) (get_or c end 0) e junk = torn_gate (take end old.seen) end long (get_or old.seen end 0) e junk c (subst T (stages written) torn) in
        subst (IsWithOrWithout es e) (sym at) (gate_reads (take end old.seen) end long (get_or old.seen end 0) e junk es (get_or c end 0) runs fits))

    pub put_settles : mid.seen ≡ overwritten old.seen (end + 1) entry → new.seen ≡ overwritten mid.seen end (1 ∷ []) → Only new.seen new.may_leave → new.history ≡ recorded (wrote end (1 ∷ []) ∷ synced ∷ []) mid.history → IsSettled new (end + 5 + length e.bytes) × (items_of new.seen ≡ whole (entries_of old.seen ++ e ∷ []))
    put_settles written opened only told =
        let seen_is : new.seen ≡ staged (take end old.seen) 1 e junk =
        opened ∙ ap (λ (l : List ℕ). overwritten l end (1 ∷ [])) (stages written) ∙ written_gate (take end old.seen) end long (get_or old.seen end 0) e junk in
        settles (take end old.seen) end long (get_or old.seen end 0) e junk es new runs fits s.place seen_is only (pair_quiet new.history mid.history (wrote end (1 ∷ [])) told)

-- a body may stand anywhere
pub body_follows : (before : List Entry) (body : List ℕ) → length body < 2147483648 → Follows before (body_entry body)
body_follows before body lt = record { long = sym (body_length body lt); may = body_may _ body lt }

-- what it adds
module _ (body : List ℕ) (lt : length body < 2147483648) (l : List ℕ) (before : List Entry) where
  pub body_reads : items_of l ≡ whole (before ++ body_entry body ∷ []) → reading l ≡ found (bodies_among before ++ body ∷ [])
  body_reads is = ap reading_in is ∙ ap found (bodies-push_body before (body_entry body) (body_field body lt))

  pub body_cluster : items_of l ≡ whole (before ++ body_entry body ∷ []) → cluster_of l ≡ cluster_among before
  body_cluster is = ap (λ i. cluster_among (entries_in i)) is ∙ cluster-push_body before (body_entry body) (body_field body lt)

-- the bodies of a settled file
pub bodies_settled : (m : Meaning) (end : ℕ) → IsSettled m end → bodies_among (entries_of m.seen) ≡ bodies_of m.seen
bodies_settled m end s = sym (ap (λ i. bodies_in (reading_in i)) (settled_items m end s))

module _ (old new : Meaning) (end : ℕ) (body : List ℕ) (lt : length body < 2147483648) (s : IsSettled old end) where
  abbrev had : List Entry
  had = entries_of old.seen

  is_left : (c : List ℕ) → IsWithOrWithout (entries_of old.seen) (body_entry body) c → IsBeforeOrAfter (bodies_of old.seen) body c × HasCluster (cluster_of old.seen) c
  is_left c left = elim left [
    | inl is ↦ (inl (ap reading_in is ∙ ap found (bodies_settled old end s)), ap (λ i. cluster_among (entries_in i)) is)
    | inr is ↦ (inr (body_reads body lt c had is ∙ ap (λ (bs : List (List ℕ)). found (bs ++ body ∷ [])) (bodies_settled old end s)), body_cluster body lt c had is)
  ]

  pub body_leaves : LeavesOnly old new (IsWithOrWithout (entries_of old.seen) (body_entry body)) → LeavesOnly old new (IsBeforeOrAfter (bodies_of old.seen) body)
  body_leaves run = weaker old new (IsWithOrWithout had (body_entry body)) (IsBeforeOrAfter (bodies_of old.seen) body) run (λ c left. (is_left c left).0)

  pub cluster_leaves : LeavesOnly old new (IsWithOrWithout (entries_of old.seen) (body_entry body)) → LeavesOnly old new (HasCluster (cluster_of old.seen))
  cluster_leaves run = weaker old new (IsWithOrWithout had (body_entry body)) (HasCluster (cluster_of old.seen)) run (λ c left. (is_left c left).1)

  pub body_settles : items_of new.seen ≡ whole (entries_of old.seen ++ body_entry body ∷ []) → reading new.seen ≡ found (bodies_of old.seen ++ body ∷ [])
  body_settles is = body_reads body lt new.seen had is ∙ ap (λ (bs : List (List ℕ)). found (bs ++ body ∷ [])) (bodies_settled old end s)

-- the first cluster entry of a log
cluster_field : is_cluster 2147483656 ≡ true
unfolding is_cluster
cluster_field = refl

refl_length : (cluster : ℕ) → length (eight_bytes cluster) ≡ length_of 2147483656
unfolding length_of is_cluster
refl_length cluster = refl

not_zero_test : (k : ℕ) → (k ≡ 0 → ⊥) → not (k == 0) ≡ true
not_zero_test k some = grind (arith, nat_tests)

may_first : (cluster : ℕ) → (cluster ≡ 0 → ⊥) → (h : Bool) → h ≡ false → may_stand h 2147483656 (eight_bytes cluster) ≡ true
unfolding may_stand
may_first cluster some h none = rw (cluster_field, none, eight_back cluster) (not_zero_test cluster some)

pub claimed_first : (cluster : ℕ) → (cluster ≡ 0 → ⊥) → (c : Option ℕ) → c ≡ None → claimed c cluster ≡ Some cluster
claimed_first cluster some None none = let t : cluster == 0 ≡ false = grind (arith, nat_tests) in rw t refl
claimed_first cluster some (Some k) none = absurd (cc)

module _ (cluster : ℕ) (some : cluster ≡ 0 → ⊥) (before : List Entry) (none : cluster_among before ≡ None) where
  pub cluster_follows : Follows before (cluster_entry cluster)
  cluster_follows = record { long = refl_length cluster; may = may_first cluster some (has_after false before) (no_cluster false before none) }

  module _ (l : List ℕ) (is : items_of l ≡ whole (before ++ cluster_entry cluster ∷ [])) where
    pub cluster_reads : reading l ≡ found (bodies_among before)
    cluster_reads = ap reading_in is ∙ ap found (bodies-push_cluster before (cluster_entry cluster) cluster_field)

    pub cluster_found : cluster_of l ≡ Some cluster
    cluster_found = ap (λ i. cluster_among (entries_in i)) is ∙ cluster-push_cluster before (cluster_entry cluster) none cluster_field ∙ ap Some (eight_back cluster)

module _ (old new : Meaning) (end cluster : ℕ) (some : cluster ≡ 0 → ⊥) (none : cluster_of old.seen ≡ None) (s : IsSettled old end) where
  abbrev held : List Entry
  held = entries_of old.seen

  as_read : reading old.seen ≡ found (bodies_among (entries_of old.seen))
  as_read = ap reading_in (settled_items old end s)

  is_claimed : (c : List ℕ) → IsWithOrWithout (entries_of old.seen) (cluster_entry cluster) c → IsClaimed old.seen cluster c
  is_claimed c left = elim left [
    | inl is ↦ record { bodies = ap reading_in (is ∙ sym (settled_items old end s)); names = inl (ap (λ i. cluster_among (entries_in i)) is) }
    | inr is ↦ record { bodies = cluster_reads cluster some held none c is ∙ sym as_read; names = inr (cluster_found cluster some held none c is ∙ sym (claimed_first cluster some (cluster_of old.seen) none)) }
  ]

  pub claim_leaves : LeavesOnly old new (IsWithOrWithout (entries_of old.seen) (cluster_entry cluster)) → LeavesOnly old new (IsClaimed old.seen cluster)
  claim_leaves run = weaker old new (IsWithOrWithout held (cluster_entry cluster)) (IsClaimed old.seen cluster) run is_claimed

  pub claim_settles : items_of new.seen ≡ whole (entries_of old.seen ++ cluster_entry cluster ∷ []) → (reading new.seen ≡ reading old.seen) × (cluster_of new.seen ≡ Some cluster)
  claim_settles is = (cluster_reads cluster some held none new.seen is ∙ sym as_read, cluster_found cluster some held none new.seen is)
