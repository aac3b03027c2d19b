-- Sheets that agree are safe.
use Rattle.std.proofs.Common.{◌≡◌, ◌≢◌, ◌⊎◌, ℕ, zero, suc, ◌+◌, ◌<◌, ◌≤◌, List, [], ◌∷◌, ◌++◌, map, refl, sym, ◌∙◌, ap, subst, inl, inr, Bool, true, false, cond, arith}
use Rattle.std.specs.Prelude.{◌⊎◌, Some, slice_get, IsTrue, ◌==◌, nat_lt, not, ◌||◌, length, fold, if◌then◌else◌}
use Rattle.std.specs.List.{AllByRecursion}
use Rattle.std.proofs.lemmas.Bool.{cases_lt, eq-eqb, ltb-true, false≢true}
use Rattle.std.proofs.lemmas.Option.{none-some, same_Some}
use Rattle.crsm_base.specs.Spelling.{Rises, RisesAfter, IsBefore}
use Rattle.crsm_base.specs.Store.{answer_after}
use Rattle.crsm_spec.specs.Types.{Stamp, Entry, Answer, Refusal, Outcome, Rec, Line}
use Rattle.crsm_spec.specs.Lists.{Among, IsPrefixOf}
use Rattle.crsm_spec.specs.Log.{Log, executed, known, decision, logged, logged_in, with_entry}
use Rattle.crsm_spec.specs.Fits.{fits, is_newest}
use Rattle.crsm_spec.specs.Draft.{Draft, Reply}
use Rattle.crsm_spec.specs.Run.{longest}
use Rattle.crsm_fact_log.specs.Logs.{AllFit, Extends, same, more, Logged}
use Rattle.crsm_fact_log.proofs.Logged.{extends_trans, end_fits, prepare_known, entry_in, entry_keeps, decide_above}
use Rattle.crsm_fact_log.proofs.LogsFit.{executed_rises}
use Rattle.crsm_fact_log.proofs.Lists.{all_at, list_all_at}
use Rattle.crsm_fact_step.specs.Changes.{StepsAreChanges}
use Rattle.crsm_law_sheets.specs.Laws.{AreSafe, IsRightBy, IsSound, KeepsRealTime}
use Rattle.crsm_law_sheets.specs.Sheets.{Sheet, last_log, list_of, one_list, steps_of}
use Rattle.crsm_law_sheets.specs.Verdicts.{Agree, DropsExecuted, lines_told}
use Rattle.crsm_law_sheets.proofs.Drafts.{Denied, IsAnswer, IsSubmitted, IsTold, Lost, Told, logged_in_more}
use Rattle.crsm_law_sheets.proofs.Prefixes.{executed_prefix, get_in, placed, prefix_trans, take_in}
use Rattle.crsm_law_sheets.proofs.Runs.{sheet_along, step_at, two_steps}

-- ---- the order of entries

before_then : (a b c : Entry) → IsBefore a b → IsBefore b c → IsBefore a c
before_then a b c p q = grind arith

clash : (a b : Entry) → IsBefore a b → IsBefore b a → ⊥
clash a b p q = grind arith

same_keys : (a b c d : Entry) → a.epoch ≡ c.epoch → a.stamp ≡ c.stamp → b.epoch ≡ d.epoch → b.stamp ≡ d.stamp → IsBefore a b → IsBefore c d
same_keys a b c d p q r s h =
    let p' = ap (λ (z : Stamp). z.time) q in
    let q' = ap (λ (z : Stamp). z.origin) q in
    let r' = ap (λ (z : Stamp). z.time) s in
    let s' = ap (λ (z : Stamp). z.origin) s in
    grind arith

after_at : (e : Entry) (es : List Entry) (p : ℕ) (a : Entry) → RisesAfter e es → slice_get es p ≡ Some a → IsBefore e a
after_at e [] p a h g = absurd (none-some a g)
after_at e (f ∷ es) zero a h g = subst (IsBefore e) (same_Some f a g) h.0
after_at e (f ∷ es) (suc p) a h g = before_then e f a h.0 (after_at f es p a h.1 g)

rest_rises : (e : Entry) (es : List Entry) → RisesAfter e es → Rises es
rest_rises e [] h = tt
rest_rises e (f ∷ es) h = h.1

-- of two places of a list that rises
pub rises_at : (es : List Entry) (p q : ℕ) (a b : Entry) → Rises es → slice_get es p ≡ Some a → slice_get es q ≡ Some b → q < p → IsBefore b a
rises_at [] p q a b h g k lt = absurd (none-some a g)
rises_at (e ∷ es) zero q a b h g k lt = absurd (omega (arith, lt))
rises_at (e ∷ es) (suc p) zero a b h g k lt = subst (λ z. IsBefore z a) (same_Some e b k) (after_at e es p a h g)
rises_at (e ∷ es) (suc p) (suc q) a b h g k lt = rises_at es p q a b (rest_rises e es h) g k (omega (arith, lt))

-- where an entry is before another, its place is
place_before : (es : List Entry) (p q : ℕ) (a b : Entry) → Rises es → slice_get es p ≡ Some a → slice_get es q ≡ Some b → IsBefore a b → p < q
place_before es p q a b h g k before = elim (cases_lt p q) [
  | inl lt ↦ lt
  | inr le ↦ elim (cases_lt q p) [
    | inl lt ↦ absurd (clash a b before (rises_at es p q a b h g k lt))
    | inr ge ↦ (let e : p ≡ q = omega (arith, le, ge) in
        let is : a ≡ b = same_Some a b (sym g ∙ subst (λ i. slice_get es i ≡ Some b) (sym e) k) in
        absurd (clash a b before (subst (λ z. IsBefore z a) is (subst (IsBefore a) (sym is) before))))
  ]
]

-- ---- an own entry that is logged later

same_prepared : (e f : Entry) → Rec.Prepare e ≡ Rec.Prepare f → e ≡ f
same_prepared e f q = cc

has_logged : (log : Log) (f : Entry) → Logged log f → Among (logged_in f.epoch log) f
unfolding logged_in
has_logged [] f h = absurd h
has_logged (Rec.Prepare e ∷ log) f h = go h (λ m. has_logged log f m)
  where
    first : e ≡ f → (b : Bool) → (e.epoch == f.epoch) ≡ b → Among (cond b (with_entry e (logged_in f.epoch log)) (logged_in f.epoch log)) f
    first is true q = subst (Among (with_entry e (logged_in f.epoch log))) is (entry_in e (logged_in f.epoch log))
    first is false q = absurd (false≢true (sym q ∙ eq-eqb e.epoch f.epoch (ap (λ (z : Entry). z.epoch) is)))

    other : Among (logged_in f.epoch log) f → (b : Bool) → Among (cond b (with_entry e (logged_in f.epoch log)) (logged_in f.epoch log)) f
    other m true = entry_keeps e (logged_in f.epoch log) f m
    other m false = m

    go : Logged (Rec.Prepare e ∷ log) f → (Logged log f → Among (logged_in f.epoch log) f) → Among (cond (e.epoch == f.epoch) (with_entry e (logged_in f.epoch log)) (logged_in f.epoch log)) f
    go (inl q) r = first (same_prepared e f q) (e.epoch == f.epoch) refl
    go (inr m) r = other (r m) (e.epoch == f.epoch)
has_logged (Rec.Boot a b ∷ log) f (inr m) = has_logged log f m
has_logged (Rec.Boot a b ∷ log) f (inl q) = absurd (cc)
has_logged (Rec.Commit s ∷ log) f (inr m) = has_logged log f m
has_logged (Rec.Commit s ∷ log) f (inl q) = absurd (cc)
has_logged (Rec.Adopt p es ∷ log) f (inr m) = has_logged log f m
has_logged (Rec.Adopt p es ∷ log) f (inl q) = absurd (cc)
has_logged (Rec.Suspend x ∷ log) f (inr m) = has_logged log f m
has_logged (Rec.Suspend x ∷ log) f (inl q) = absurd (cc)
has_logged (Rec.Promise i b ∷ log) f (inr m) = has_logged log f m
has_logged (Rec.Promise i b ∷ log) f (inl q) = absurd (cc)
has_logged (Rec.Accept i b d ∷ log) f (inr m) = has_logged log f m
has_logged (Rec.Accept i b d ∷ log) f (inl q) = absurd (cc)
has_logged (Rec.Decide d ∷ log) f (inr m) = has_logged log f m
has_logged (Rec.Decide d ∷ log) f (inl q) = absurd (cc)
has_logged (Rec.Enter x ∷ log) f (inr m) = has_logged log f m
has_logged (Rec.Enter x ∷ log) f (inl q) = absurd (cc)

known_more : (me n : ℕ) (log : Log) (rec : Rec) → IsTrue (fits me n log rec) → known log ≤ known (rec ∷ log)
unfolding known decision
known_more me n log (Rec.Boot a b) h = omega arith
known_more me n log (Rec.Prepare e) h = omega arith
known_more me n log (Rec.Commit s) h = omega arith
known_more me n log (Rec.Adopt p es) h = omega arith
known_more me n log (Rec.Suspend x) h = omega arith
known_more me n log (Rec.Promise i b) h = omega arith
known_more me n log (Rec.Accept i b d) h = omega arith
known_more me n log (Rec.Decide d) h = let lt = decide_above me n log d h in omega (arith, lt)
known_more me n log (Rec.Enter x) h = omega arith

known_of : (me n : ℕ) (log : Log) (f : Entry) → AllFit me n log → Logged log f → f.epoch ≤ known log
known_of me n [] f h m = absurd m
known_of me n (rec ∷ log) f h (inr m) = let p = known_of me n log f h.1 m in let q = known_more me n log rec h.0 in omega (arith, p, q)
known_of me n (rec ∷ log) f h (inl e) =
    let p = (prepare_known me n log f (subst (λ r. IsTrue (fits me n log r)) e h.0)).0 in let q = known_more me n log rec h.0 in omega (arith, p, q)

-- what a replica logs under its own number comes after all that it has logged so
newer : (me n : ℕ) (log : Log) (e f : Entry) → AllFit me n (Rec.Prepare e ∷ log) → Logged log f → f.stamp.origin ≡ e.stamp.origin → IsBefore f e
unfolding logged is_newest
newer me n log e f h m o =
    let p = prepare_known me n log e h.0 in
    let le = known_of me n log f h.1 m in
    let is = p.0 in
    elim (cases_lt f.epoch e.epoch) [
      | inl lt ↦ inl lt
      | inr ge ↦ (let at : f.epoch ≡ known log = omega (arith, le, ge, is) in
          let t = list_all_at _ (logged_in (known log) log) f p.1 (subst (λ x. Among (logged_in x log) f) at (has_logged log f m)) in
          inr (at ∙ sym is, inl (later (f.stamp.origin == e.stamp.origin) (eq-eqb f.stamp.origin e.stamp.origin o) t)))
    ]
  where
    later : (a : Bool) → a ≡ true → IsTrue (not a || nat_lt f.stamp.time e.stamp.time) → f.stamp.time < e.stamp.time
    later true q t = ltb-true f.stamp.time e.stamp.time t
    later false q t = absurd (false≢true q)

-- ---- the one list

unfoldable longer : List Entry → List Entry → List Entry
longer best es = if nat_lt (length best) (length es) then es else best

longest_is : (lists : List (List Entry)) → longest lists ≡ fold longer [] lists
unfolding longest longer
longest_is lists = refl

either : (best es : List Entry) → (longer best es ≡ best) ⊎ (longer best es ≡ es)
unfolding longer
either best es = go (nat_lt (length best) (length es))
  where
    go : (b : Bool) → (cond b es best ≡ best) ⊎ (cond b es best ≡ es)
    go true = inr refl
    go false = inl refl

picked : (lists : List (List Entry)) (best : List Entry) → (fold longer best lists ≡ best) ⊎ Among lists (fold longer best lists)
picked [] best = inl refl
picked (es ∷ lists) best = elim (picked lists (longer best es)) [
  | inl e ↦ elim (either best es) [ inl q ↦ inl (e ∙ q) | inr q ↦ inr (inl (sym (e ∙ q))) ]
  | inr m ↦ inr (inr m)
]

listed : (n : ℕ) (sheets : List Sheet) (es : List Entry) → Among (map (list_of n) sheets) es → (s : Sheet) × Among sheets s × (list_of n s ≡ es)
listed n [] es h = absurd h
listed n (s ∷ sheets) es (inl e) = (s, inl refl, e)
listed n (s ∷ sheets) es (inr h) = let t = listed n sheets es h in (t.0, inr t.1, t.2)

pub ascending : (n : ℕ) (sheets : List Sheet) → AllByRecursion (IsSound n) sheets → Rises (one_list n sheets)
ascending n sheets sound = subst Rises (sym (longest_is (map (list_of n) sheets))) (elim (picked (map (list_of n) sheets) []) [
  | inl e ↦ subst Rises (sym e) tt
  | inr m ↦ (let t = listed n sheets _ m in let s = all_at (IsSound n) sheets t.0 sound t.1 in subst Rises t.2 (executed_rises t.0.me n (last_log n t.0) s.fit s.spelt))
])

-- ---- replies

not_both : (k c m place : ℕ) (v : Answer) (l : Line) → l ≡ Line.ReplyOk k c m place v → (k' c' m' code : ℕ) → l ≡ Line.ReplyNo k' c' m' code → ⊥
not_both k c m place v l e k' c' m' code f = cc

not_lost : (k c m place : ℕ) (v : Answer) (l : Line) → l ≡ Line.ReplyOk k c m place v → (k' c' m' x : ℕ) (s : Stamp) → l ≡ Line.ReplyDropped k' c' m' x s → ⊥
not_lost k c m place v l e k' c' m' x s f = cc

one_place : (k c m p : ℕ) (v : Answer) (k' c' m' p' : ℕ) (v' : Answer) → Line.ReplyOk k c m p v ≡ Line.ReplyOk k' c' m' p' v' → p ≡ p'
one_place k c m p v k' c' m' p' v' e = cc

denied : (one : List Entry) (me : ℕ) (a : Reply) (why : Refusal) → why ≢ Refusal.Dropped → IsRightBy one me a (Outcome.Refused why)
denied one me a Refusal.NotLive ne = tt
denied one me a Refusal.Suspended ne = tt
denied one me a Refusal.Busy ne = tt
denied one me a Refusal.Congested ne = tt
denied one me a Refusal.ClockSpent ne = tt
denied one me a Refusal.Dropped ne = absurd (ne refl)

-- the line of a reply is one of its step
told_in : (x : Draft) (a : Reply) → Among x.replies a → Among (lines_told x) a.line
told_in x a h = after (x.lines ++ x.excess) (map (λ (b : Reply). b.line) x.replies) a.line (mapped x.replies h)
  where
    after : (xs ys : List Line) (l : Line) → Among ys l → Among (xs ++ ys) l
    after [] ys l h = h
    after (x ∷ xs) ys l h = inr (after xs ys l h)

    mapped : (bs : List Reply) → Among bs a → Among (map (λ (b : Reply). b.line) bs) a.line
    mapped [] h = absurd h
    mapped (b ∷ bs) (inl e) = inl (ap (λ (b : Reply). b.line) e)
    mapped (b ∷ bs) (inr h) = inr (mapped bs h)

module _ (law : StepsAreChanges) (n : ℕ) (sheets : List Sheet) (sound : AllByRecursion (IsSound n) sheets) (agree : Agree n sheets) where
  abbrev one : List Entry
  one = one_list n sheets

  at_all_moments : (s : Sheet) → Among sheets s → (log : Log) → Extends log (last_log n s) → IsPrefixOf (executed log) one
  at_all_moments s m log ext =
      prefix_trans (executed log) (list_of n s) one (executed_prefix log (last_log n s) ext) (all_at (λ t. IsPrefixOf (list_of n t) one) sheets s agree.lists m)

  answered : (s : Sheet) → Among sheets s → (log : Log) → Extends log (last_log n s) → (a : Reply) (t : IsAnswer s.me log a) → slice_get one t.place ≡ Some t.entry
  answered s m log ext a t = get_in (executed t.before) one t.place t.entry (at_all_moments s m t.before (extends_trans t.grows ext)) t.there

  right : (s : Sheet) → Among sheets s → (x : Draft) → Among (steps_of n s) x → (a : Reply) → Among x.replies a → IsRightBy one s.me a a.says
  right s m x h a r =
      let p = placed (steps_of n s) x h in
      let at = step_at s.me s.found (steps_of n s) p.0 x (sheet_along law s.me n s.found s.turns) p.1 in
      go at.ends p.0 p.1 (at.good.told a r)
    where
      go : Extends x.replica.log (last_log n s) → (i : ℕ) → slice_get (steps_of n s) i ≡ Some x → IsTold s.me x.replica.log a → IsRightBy one s.me a a.says
      go ext i there (Denied why says ne line) = subst (IsRightBy one s.me a) (sym says) (denied one s.me a why ne)
      go ext i there (Told t) =
          let pre = at_all_moments s m t.before (extends_trans t.grows ext) in
          subst (IsRightBy one s.me a) (sym t.says)
          (t.place, t.entry, t.line, (answered s m x.replica.log ext a t, ap (λ l. answer_after l t.entry) (sym (take_in (executed t.before) one t.place t.entry pre t.there))))
      go ext i there (Lost epoch stamp says line) =
          subst (IsRightBy one s.me a) (sym says) (
            epoch,
            stamp,
            line,
            λ named.
                all_at (λ t. (l : ℕ) → DropsExecuted n sheets t l → ⊥) sheets s agree.dropped m (s.opened + i)
                (epoch, stamp, record { i = i; step = x; there = there; line_is = refl; replica = s.me; client = a.client; number = a.number; told = subst (Among (lines_told x)) line (told_in x a r) }, named),
          )

  real_time : (s : Sheet) → Among sheets s → KeepsRealTime one (steps_of n s)
  real_time s m i j k client number place k' epoch time client' number' q x y a v e lt at_i told line at_j submitted at_q epoch_is stamp_is =
      let two = two_steps s.me s.found (steps_of n s) i j x y lt (sheet_along law s.me n s.found s.turns) at_i at_j in
      go two.before two.grows two.ends (two.earlier.told a told) (two.later.submits k' epoch time client' number' submitted)
    where
      go : (before : Log) → Extends x.replica.log before → Extends y.replica.log (last_log n s) → IsTold s.me x.replica.log a → IsSubmitted s.me before y.replica.log k' epoch time → place < q
      go before grows ends (Denied why says ne deny) sub = absurd (not_both k client number place v a.line line deny.0 deny.1 deny.2 deny.3 deny.4)
      go before grows ends (Lost x' s' says lost) sub = absurd (not_lost k client number place v a.line line s.me a.client a.number x' s' lost)
      go before grows ends (Told t) sub =
          let on : Extends x.replica.log sub.before = extends_trans grows sub.grows in
          let kept = extends_trans sub.kept ends in
          let whole : Extends x.replica.log (last_log n s) = extends_trans on (extends_trans (more (Rec.Prepare sub.entry) same) kept) in
          let own = logged_in_more t.before sub.before t.own (extends_trans t.grows on) t.logged in
          let fit = (all_at (IsSound n) sheets s sound m).fit in
          let origin : t.own.stamp.origin ≡ sub.entry.stamp.origin = t.is_own ∙ sym sub.own ∙ ap (λ (z : Stamp). z.origin) (sym sub.stamp_is) in
          let before_it = newer s.me n sub.before sub.entry t.own (end_fits s.me n kept fit) own origin in
          let keys = same_keys t.own sub.entry t.entry e (sym t.epoch) (sym t.stamp) (sub.epoch_is ∙ sym epoch_is) (sub.stamp_is ∙ sym stamp_is) before_it in
          let place_is : t.place ≡ place = one_place s.me a.client a.number t.place _ k client number place v (sym t.line ∙ line) in
          subst (λ p. p < q) place_is (place_before one t.place q t.entry e (ascending n sheets sound) (answered s m x.replica.log whole a t) at_q keys)

  pub safe : AreSafe n sheets
  safe = record { prefixes = at_all_moments; ascending = ascending n sheets sound; replies = right; real_time = real_time }
