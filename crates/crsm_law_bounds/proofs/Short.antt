-- The logs of a possible run are short: its bytes count their records, and a moment adds few.
use Rattle.std.proofs.Common.{◌≡◌, ℕ, zero, suc, ◌+◌, ◌*◌, ◌<◌, ◌≤◌, List, [], ◌∷◌, ◌++◌, length, refl, sym, ◌∙◌, ap, subst, inl, inr, Bool, true, false, cond, arith, map}
use Rattle.std.specs.Prelude.{◌⊎◌, Option, Some, None, slice_get, slice_set, nat_lt, ◌==◌, sum_by}
use Rattle.std.specs.Option.{option_map_or}
use Rattle.std.specs.List.{AllByRecursion, range_with_len, flat_map}
use Rattle.std.proofs.lemmas.Bool.{leb-false}
use Rattle.std.proofs.lemmas.Option.{none-some}
use Rattle.std.proofs.lemmas.List.{length-append}
use Rattle.std.proofs.lemmas.List.Sums.{sum_by-cons}
use Rattle.std.proofs.lemmas.List.Concat.{flat_map-cons}
use Rattle.crsm_base.specs.Limits.{most_world}
use Rattle.crsm_base.specs.Records.{rec_bytes, body_bytes}
use Rattle.crsm_spec.specs.Choice.{when◌then◌otherwise◌}
use Rattle.crsm_spec.specs.Types.{Rec}
use Rattle.crsm_spec.specs.Lists.{numbers_below}
use Rattle.crsm_spec.specs.Log.{Log}
use Rattle.crsm_spec.specs.Replica.{Replica, fresh}
use Rattle.crsm_spec.specs.Draft.{Draft, begun, keep}
use Rattle.crsm_spec.specs.Step.{step, boot, boot_again, founding_boot, first_boot}
use Rattle.crsm_spec.specs.World.{Site, World, Moment, begin, log_of, log_at, with_site, body_size, is_full, whole_step, cut_step, lost_step, down, after_step, then_down}
use Rattle.crsm_spec.specs.Acts.{Single, Act, Bad, FitsAct}
use Rattle.crsm_spec.specs.Moments.{use_up, silent, begun_at, with_room, start_at, single, go_each, go_all, deliverable, moments_of, world_after, act}
use Rattle.crsm_spec.specs.Possible.{first_bad, possible, causes_of}
use Rattle.crsm_spec.specs.Run.{ArePossible, moments, moments_of_run, all_worlds}
use Rattle.crsm_law_steps.specs.Happenings.{Marks, Ends, Happens, IsReached, GoOn}
use Rattle.crsm_law_steps.specs.Happenings.Marks.{none, mark}
use Rattle.crsm_law_steps.specs.Happenings.Ends.{IsWhole, IsCut, IsLost}
use Rattle.crsm_law_steps.specs.Happenings.Happens.{Nothing, Steps, Junk, Stops, Joins, Starts}
use Rattle.crsm_law_steps.proofs.Moments.{set_case}
use Rattle.crsm_law_steps.proofs.Happen.{act_happens, runs}
use Rattle.crsm_law_epoch.specs.Seats.{Seat}
use Rattle.crsm_law_epoch.proofs.Worlds.{marked_sites, seat_log_at, room_seats}
use Rattle.crsm_law_epoch.proofs.LogWorlds.{get_range, from_zero}
use Rattle.crsm_law_bounds.specs.Bounds.{HasShortLogs, IsSpelt, RunsAreSpelt}
use Rattle.crsm_law_bounds.proofs.Counts.{others_in, commits_in, all_in}
use Rattle.crsm_law_bounds.proofs.StepGrowth.{IsKept, step_kept}
use Rattle.crsm_law_bounds.proofs.Worlds.{short_logs_are_spelt}

-- ---- bytes

some_bytes : (rec : Rec) → 1 ≤ length (rec_bytes rec)
unfolding rec_bytes
some_bytes (Rec.Boot me n) = omega arith
some_bytes (Rec.Prepare e) = omega arith
some_bytes (Rec.Commit s) = omega arith
some_bytes (Rec.Adopt place es) = omega arith
some_bytes (Rec.Suspend x) = omega arith
some_bytes (Rec.Promise i b) = omega arith
some_bytes (Rec.Accept i b d) = omega arith
some_bytes (Rec.Decide d) = omega arith
some_bytes (Rec.Enter x) = omega arith

batch_bytes : (recs : List Rec) → length recs ≤ body_size recs
unfolding body_size body_bytes
batch_bytes [] = omega arith
batch_bytes (rec ∷ recs) =
    let t = batch_bytes recs in
    let b = some_bytes rec in
    let e = ap (λ (s : List ℕ). length s) (flat_map-cons rec_bytes rec recs) ∙ length-append (rec_bytes rec) (flat_map rec_bytes recs) in omega (arith, t, b, e)

-- the bytes of the world count the records of each log
abbrev Counted : World → Type 0
Counted w = (k : ℕ) → length (log_at w k) ≤ w.bytes

-- ---- what a moment adds

abbrev IsMore : Log → Log → Type 0
IsMore a b = (others_in b ≤ others_in a + 6) × (commits_in b ≤ commits_in a + (others_in a + 6))

record Grown (v u : World) : Type 0 where
  each : (j : ℕ) → IsMore (log_at v j) (log_at u j)
  counted : Counted v → Counted u

same_more : (a b : Log) → b ≡ a → IsMore a b
same_more a b e = let o = ap others_in e in let c = ap commits_in e in (omega (arith, o), omega (arith, c))

pub log_set : (v u : World) (k : ℕ) (t : Site) → u.sites ≡ slice_set v.sites k t → (j : ℕ) → (log_at u j ≡ log_at v j) ⊎ ((j ≡ k) × (log_at u j ≡ log_of t))
unfolding log_at
log_set v u k t e j = elim (set_case v.sites k t j) [
  | inl q ↦ inl (ap (λ o. option_map_or log_of o []) (ap (λ ss. slice_get ss j) e ∙ q))
  | inr q ↦ inr (q.0, ap (λ o. option_map_or log_of o []) (ap (λ ss. slice_get ss j) e ∙ q.1))
]

same_logs : (v u : World) → u.sites ≡ v.sites → (j : ℕ) → log_at u j ≡ log_at v j
unfolding log_at
same_logs v u e j = ap (λ ss. option_map_or log_of (slice_get ss j) []) e

-- logs that stay, and bytes that do not fall
grown_same : (v u : World) → ((j : ℕ) → log_at u j ≡ log_at v j) → v.bytes ≤ u.bytes → Grown v u
grown_same v u same le = record {
  each = λ j. same_more (log_at v j) (log_at u j) (same j);
  counted = λ c j. let a = c j in let l = ap length (same j) in omega (arith, a, l, le);
}

grown_then : {v u z : World} → ((j : ℕ) → log_at u j ≡ log_at v j) → u.bytes ≡ v.bytes → Grown u z → Grown v z
grown_then {v} {u} {z} same bytes g = record {
  each = λ j. subst (λ l. IsMore l (log_at z j)) (same j) (g.each j);
  counted = λ c. g.counted (λ j. let a = c j in let l = ap length (same j) in omega (arith, a, l, bytes));
}

-- one replica's log grows by what its draft has kept
grown_at : (v u : World) (k : ℕ) (t : Site) (x : Draft) → u.sites ≡ slice_set v.sites k t → log_of t ≡ x.replica.log → v.bytes + body_size x.batch ≤ u.bytes → IsKept (log_at v k) x → Grown v u
grown_at v u k t x sites is bytes kept = record {
  each = λ j. elim (log_set v u k t sites j) [
    | inl e ↦ same_more (log_at v j) (log_at u j) e
    | inr q ↦ subst (λ i. IsMore (log_at v i) (log_at u j)) (sym q.0) (subst (IsMore (log_at v k)) (sym (q.1 ∙ is)) (kept.others, kept.commits))
  ];
  counted = λ c j. elim (log_set v u k t sites j) [
    | inl e ↦ (let a = c j in let l = ap length e in omega (arith, a, l, bytes))
    | inr q ↦ (let a = c k in let l = ap length (q.1 ∙ is) in let b = kept.batch in let d = batch_bytes x.batch in omega (arith, a, l, b, d, bytes))
  ];
}

down_logs : (v : World) (k j : ℕ) → log_at (down v k).after j ≡ log_at v j
unfolding down with_site log_of
down_logs v k j = elim (log_set v (down v k).after k (Site.Down (log_at v k)) refl j) [
  | inl e ↦ e
  | inr q ↦ q.1 ∙ ap (log_at v) (sym q.0)
]

down_bytes : (v : World) (k : ℕ) → (down v k).after.bytes ≡ v.bytes
unfolding down with_site
down_bytes v k = refl

down_grown : (v : World) (k : ℕ) → Grown v (down v k).after
down_grown v k = let b = down_bytes v k in grown_same v (down v k).after (down_logs v k) (omega (arith, b))

ends_grown : (v : World) (k : ℕ) (x : Draft) (m : Moment) → Ends v k x m → IsKept (log_at v k) x → Grown v m.after
unfolding whole_step cut_step lost_step then_down after_step log_of
ends_grown v k x m IsWhole kept = grown_at v (whole_step v k x).after k (Site.Up x.replica) x refl refl (omega arith) kept
ends_grown v k x m (IsCut count) kept = grown_at v (cut_step count v k x).after k (Site.Down x.replica.log) x refl refl (omega arith) kept
ends_grown v k x m IsLost kept = down_grown v k

up_log : (v : World) (k : ℕ) (r : Replica) → slice_get v.sites k ≡ Some (Site.Up r) → log_at v k ≡ r.log
unfolding log_at log_of
up_log v k r e = ap (λ o. option_map_or log_of o []) e

begun_kept : (r : Replica) → IsKept r.log (begun r)
unfolding begun
begun_kept r = record { others = omega arith; commits = omega arith; batch = omega arith }

marked_bytes : {w v : World} → Marks w v → v.bytes ≡ w.bytes
unfolding use_up
marked_bytes none = refl
marked_bytes (mark i p) = marked_bytes p

-- ---- starts

boot_kept : (k n : ℕ) (log : Log) → IsKept log (boot k n log)
unfolding boot first_boot founding_boot boot_again keep begun fresh when◌then◌otherwise◌
boot_kept k n (rec ∷ log) = record { others = omega arith; commits = omega arith; batch = omega arith }
boot_kept k n [] = go (nat_lt k n)
  where
    go : (c : Bool) → IsKept [] (when c then founding_boot k n otherwise boot_again k n [])
    go true = record { others = omega arith; commits = omega arith; batch = omega arith }
    go false = record { others = omega arith; commits = omega arith; batch = omega arith }

room_bytes : (w : World) (k : ℕ) → (with_room w k).bytes ≡ w.bytes
unfolding with_room
room_bytes w k = go (k == length w.sites)
  where
    go : (c : Bool) → (cond c (record w { sites = w.sites ++ Site.Down [] ∷ [] }) w).bytes ≡ w.bytes
    go true = refl
    go false = refl

room_logs : (w : World) (k j : ℕ) → log_at (with_room w k) j ≡ log_at w j
room_logs w k j = sym (seat_log_at (with_room w k) j) ∙ ap (λ (s : Seat). s.log) (sym (room_seats w k j)) ∙ seat_log_at w j

start_grown : (w : World) (k : ℕ) → Grown w (start_at w k).after
unfolding start_at begun_at
start_grown w k =
    let v = with_room w k in
    let x = boot k v.n (log_at v k) in
    grown_then (room_logs w k) (room_bytes w k) (ends_grown v k x (whole_step v k x) IsWhole (boot_kept k v.n (log_at v k)))

moment_grown : (w : World) (m : Moment) → Happens w m → Grown w m.after
unfolding silent begun_at
moment_grown w m (Nothing v p) = let b = marked_bytes p in grown_same w v (same_logs w v (marked_sites p)) (omega (arith, b))
moment_grown w m (Steps v p k r e input reading lt c z ends) =
    grown_then (same_logs w v (marked_sites p)) (marked_bytes p) (ends_grown v k (step r input reading) z ends (subst (λ l. IsKept l (step r input reading)) (sym (up_log v k r e)) (step_kept r input reading)))
moment_grown w m (Junk k r e z ends) = ends_grown w k (begun r) z ends (subst (λ l. IsKept l (begun r)) (sym (up_log w k r e)) (begun_kept r))
moment_grown w m (Stops k) = down_grown w k
moment_grown w m (Joins f) = let b = room_bytes w (length w.sites) in grown_same w (with_room w (length w.sites)) (room_logs w (length w.sites)) (omega (arith, b))
moment_grown w m (Starts k d f) = start_grown w k

-- ---- a few moments behind a world that is not full

-- so long are logs at most, i moments behind such a world
abbrev IsFew : ℕ → Log → Type 0
IsFew i log = (others_in log ≤ 536870912 + 6 * i) × (commits_in log ≤ 536870912 + 1073741824 * i)

abbrev AreFew : ℕ → World → Type 0
AreFew i w = (k : ℕ) → IsFew i (log_at w k)

few_more : (i : ℕ) (w u : World) → i ≤ 32 → Grown w u → AreFew i w → AreFew (i + 1) u
few_more i w u le g h k =
    let a = (h k).0 in
    let b = (h k).1 in
    let c = (g.each k).0 in
    let d = (g.each k).1 in (omega (arith, a, c), omega (arith, a, b, d, le))

few_short : (i : ℕ) (w : World) → i ≤ 33 → AreFew i w → HasShortLogs w
few_short i w le h k = let a = (h k).0 in let b = (h k).1 in let c = all_in (log_at w k) in omega (arith, a, b, c, le)

few_here : (w : World) → Counted w → is_full w ≡ false → AreFew 0 w
unfolding is_full
few_here w c full k =
    let a = c k in
    let b = leb-false most_world w.bytes full in
    let d = all_in (log_at w k) in (omega (arith, a, b, d), omega (arith, a, b, d))

-- ---- acts

abbrev AllShort : List Moment → Type 0
AllShort ms = AllByRecursion HasShortLogs (map (λ m. m.after) ms)

-- at most 33 moments in all, behind a world that is not full
few_moments : (i : ℕ) (w : World) (ms : List Moment) → AreFew i w → Counted w → GoOn w ms → i + length ms ≤ 33 → AllShort ms × Counted (world_after w ms)
unfolding world_after
few_moments i w [] h c g le = (tt, c)
few_moments i w (m ∷ ms) h c g le =
    let grown = moment_grown w m g.1 in
    let few = few_more i w m.after (omega (arith, le)) grown h in
    let t = few_moments (i + 1) m.after ms few (grown.counted c) g.2 (omega (arith, le)) in
    ((few_short (i + 1) m.after (omega (arith, le)) few, t.0), t.1)

one_moment : (w : World) (m : Moment) → is_full w ≡ false → Counted w → GoOn w (m ∷ []) → AllShort (m ∷ []) × Counted (world_after w (m ∷ []))
one_moment w m full c g = few_moments 0 w (m ∷ []) (few_here w c full) c g (omega arith)

all_long : (t : ℕ) (is : List ℕ) (w : World) → length (go_all t is w) ≡ length is
unfolding go_all
all_long t [] w = refl
all_long t (i ∷ is) w = ap suc (all_long t is (single whole_step w (Single.Go i t)).after)

-- each delivery of a settling begins in a world that is not full
settles : (t : ℕ) (is : List ℕ) (w : World) → Counted w → GoOn w (go_each t is w) → AllShort (go_each t is w) × Counted (world_after w (go_each t is w))
unfolding go_each world_after
settles t [] w c g = (tt, c)
settles t (i ∷ is) w c g = go (is_full w) refl g (λ d h. settles t is (single whole_step w (Single.Go i t)).after d h)
  where
    m : Moment
    m = single whole_step w (Single.Go i t)

    go : (b : Bool) → is_full w ≡ b → GoOn w (cond b [] (m ∷ go_each t is m.after)) → (Counted m.after → GoOn m.after (go_each t is m.after) → AllShort (go_each t is m.after) × Counted (world_after m.after (go_each t is m.after))) →
        AllShort (cond b [] (m ∷ go_each t is m.after)) × Counted (world_after w (cond b [] (m ∷ go_each t is m.after)))
    go true e h more = (tt, c)
    go false e h more =
        let grown = moment_grown w m h.1 in
        let r = more (grown.counted c) h.2 in ((few_short 1 m.after (omega arith) (few_more 0 w m.after (omega arith) grown (few_here w c e)), r.0), r.1)

not_full : (w : World) (a : Act) → possible w a ≡ None → is_full w ≡ false
unfolding possible first_bad
not_full w a h = go (is_full w) h
  where
    go : (c : Bool) → cond c (Some (Bad.Full w.bytes)) (first_bad (causes_of w a)) ≡ None → c ≡ false
    go true q = absurd (none-some (Bad.Full w.bytes) (sym q))
    go false q = refl

act_short : (w : World) (a : Act) → Counted w → FitsAct a → possible w a ≡ None → GoOn w (moments_of w a) → AllShort (moments_of w a) × Counted (world_after w (moments_of w a))
unfolding moments_of
act_short w (Act.One s) c f p g = one_moment w _ (not_full w _ p) c g
act_short w (Act.Lose i) c f p g = one_moment w _ (not_full w _ p) c g
act_short w (Act.Crash k) c f p g = one_moment w _ (not_full w _ p) c g
act_short w (Act.Start k) c f p g = one_moment w _ (not_full w _ p) c g
act_short w (Act.Settle t) c f p g = settles t (deliverable w) w c g
act_short w (Act.CutLost s) c f p g = one_moment w _ (not_full w _ p) c g
act_short w (Act.CutKept count s) c f p g = one_moment w _ (not_full w _ p) c g
act_short w (Act.Batch t is) c f p g =
    let l = all_long t is w in
    let most = f.1.most in few_moments 0 w (go_all t is w) (few_here w c (not_full w _ p)) c g (omega (arith, l, most))
act_short w (Act.CutLostBatch t is) c f p g = one_moment w _ (not_full w _ p) c g
act_short w (Act.CutAt calls fill s) c f p g = one_moment w _ (not_full w _ p) c g

-- ---- runs

all_append : (P : World → Type 0) (ms ns : List Moment) → AllByRecursion P (map (λ m. m.after) ms) → AllByRecursion P (map (λ m. m.after) ns) → AllByRecursion P (map (λ m. m.after) (ms ++ ns))
all_append P [] ns h g = g
all_append P (m ∷ ms) ns h g = (h.0, all_append P ms ns h.1 g)

acts_short : (w : World) (acts : List Act) → Counted w → ArePossible w acts → AllShort (moments w acts)
unfolding moments act
acts_short w [] c p = tt
acts_short w (a ∷ acts) c p =
    let t = act_short w a c p.0 p.1 (act_happens w a p.0 p.1) in
    all_append HasShortLogs (moments_of w a) _ t.0 (acts_short (act w a).after acts t.1 p.2)

-- ---- the first world

sum_one : (f : ℕ → ℕ) (a n i : ℕ) → i < n → f (a + i) ≤ sum_by f (range_with_len a n)
sum_one f a zero i lt = absurd (omega (arith, lt))
sum_one f a (suc n) zero lt =
    let e = sum_by-cons f a (range_with_len (a + 1) n) in
    let is : f (a + 0) ≡ f a = ap f (omega arith) in omega (arith, e, is)
sum_one f a (suc n) (suc i) lt =
    let t = sum_one f (a + 1) n i (omega (arith, lt)) in
    let e = sum_by-cons f a (range_with_len (a + 1) n) in
    let is : f (a + suc i) ≡ f (a + 1 + i) = ap f (omega arith) in omega (arith, t, e, is)

founding_length : (k n : ℕ) → length (founding_boot k n).replica.log ≡ 2
unfolding founding_boot boot_again keep begun fresh
founding_length k n = refl

founding_batch : (k n : ℕ) → length (founding_boot k n).batch ≡ 2
unfolding founding_boot boot_again keep begun fresh
founding_batch k n = refl

first_counted : (n : ℕ) (k : ℕ) → (length (log_at (begin n) k) ≤ 2) × (length (log_at (begin n) k) ≤ (begin n).bytes)
unfolding begin log_at log_of numbers_below
first_counted n k = go (slice_get (map (λ i. Site.Up (founding_boot i n).replica) (range_with_len 0 n)) k) refl
  where
    f : ℕ → ℕ
    f i = body_size (founding_boot i n).batch

    go : (o : Option Site) → slice_get (map (λ i. Site.Up (founding_boot i n).replica) (range_with_len 0 n)) k ≡ o →
        (length (option_map_or log_of o []) ≤ 2) × (length (option_map_or log_of o []) ≤ sum_by f (range_with_len 0 n))
    go None e = (omega arith, omega arith)
    go (Some s) e =
        let t = get_range (λ i. Site.Up (founding_boot i n).replica) 0 n k s e in
        let is = ap (λ z. length (log_of z)) (sym (from_zero n k s t.1)) ∙ founding_length k n in
        let b = batch_bytes (founding_boot k n).batch in
        let l = founding_batch k n in
        let sum = sum_one f 0 n k t.0 in
        let same : f (0 + k) ≡ f k = ap f (omega arith) in (omega (arith, is), omega (arith, is, b, l, sum, same))

-- ---- whole runs

pub run_short : (n : ℕ) (acts : List Act) → ArePossible (begin n) acts → AllByRecursion HasShortLogs (all_worlds n acts)
unfolding all_worlds moments_of_run
run_short n acts p = (λ k. let t = (first_counted n k).0 in omega (arith, t), acts_short (begin n) acts (λ k. (first_counted n k).1) p)

all_both : (P Q R : World → Type 0) → ((w : World) → P w → Q w → R w) → (ws : List World) → AllByRecursion P ws → AllByRecursion Q ws → AllByRecursion R ws
all_both P Q R f [] h g = tt
all_both P Q R f (w ∷ ws) h g = (f w h.0 g.0, all_both P Q R f ws h.1 g.1)

pub runs_are_spelt : RunsAreSpelt
runs_are_spelt n acts most p =
    all_both (IsReached n) HasShortLogs (IsSpelt n) (λ w r short. short_logs_are_spelt n w most r short) (all_worlds n acts) (runs n acts p).reached (run_short n acts p)
