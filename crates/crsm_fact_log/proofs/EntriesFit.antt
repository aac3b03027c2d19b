-- Lists of entries that can be encoded: their parts, and pages.
use Rattle.std.proofs.Common.{◌≡◌, ℕ, zero, suc, ◌+◌, ◌-◌, ◌*◌, ◌<◌, ◌≤◌, List, [], ◌∷◌, ◌++◌, length, take, drop, refl, sym, ◌∙◌, ap, inl, inr, Bool, true, false, cond, arith}
use Rattle.std.specs.Prelude.{◌⊎◌, IsTrue, nat_le, nat_lt, ◌==◌, ◌&&◌}
use Rattle.std.specs.List.{flat_map, AllByRecursion}
use Rattle.std.proofs.lemmas.Bool.{leb-true, ltb-true, eqb-true, and_parts, or_cases}
use Rattle.std.proofs.lemmas.List.{length-append}
use Rattle.std.proofs.lemmas.List.Concat.{flat_map-cons, length-flat_map}
use Rattle.crsm_base.specs.Limits.{page_bytes}
use Rattle.crsm_base.specs.Spelling.{u64_bytes, stamp_bytes, command_bytes, entry_bytes, op_bytes, FitsEntry, IsBefore, RisesAfter, Rises, FitsEntries}
use Rattle.crsm_base.specs.Order.{stamp_lt, entry_lt}
use Rattle.crsm_base.proofs.Sizes.{u64_long}
use Rattle.crsm_fact_log.specs.Rising as by_stamp
use Rattle.crsm_fact_log.proofs.Lists.{all-take, all-drop}
use Rattle.crsm_spec.specs.Types.{Stamp, Entry}
use Rattle.crsm_spec.specs.Lists.{Among}
use Rattle.crsm_spec.specs.Collect.{first_page, run_within, size_of}

-- ---- sizes

-- the bytes of entries, one after the other
abbrev pub bytes_of : List Entry → ℕ
bytes_of es = length (flat_map entry_bytes es)

pub bytes_more : (e : Entry) (es : List Entry) → bytes_of (e ∷ es) ≡ length (entry_bytes e) + bytes_of es
bytes_more e es = ap (λ (s : List ℕ). length s) (flat_map-cons entry_bytes e es) ∙ length-append (entry_bytes e) (flat_map entry_bytes es)

pub bytes_size : (es : List Entry) → bytes_of es ≡ size_of es
unfolding size_of
bytes_size es = length-flat_map entry_bytes es

pub entry_long : (e : Entry) → 16 ≤ length (entry_bytes e)
unfolding entry_bytes command_bytes
entry_long e =
    let rest = u64_bytes e.command.client ++ (u64_bytes e.command.number ++ op_bytes e.command.op) in
    let a = length-append (u64_bytes e.epoch) (stamp_bytes e.stamp ++ rest) in
    let b = length-append (stamp_bytes e.stamp) rest in
    let c = length-append (u64_bytes e.command.client) (u64_bytes e.command.number ++ op_bytes e.command.op) in
    let x = u64_long e.epoch in
    let y = u64_long e.command.client in
    omega (arith, a, b, c, x, y)

-- ---- parts of a list

take_after : (k : ℕ) (e : Entry) (es : List Entry) → RisesAfter e es → RisesAfter e (take k es)
take_after zero e es h = tt
take_after (suc k) e [] h = tt
take_after (suc k) e (f ∷ fs) h = (h.0, take_after k f fs h.1)

take_rises : (k : ℕ) (es : List Entry) → Rises es → Rises (take k es)
take_rises zero es h = tt
take_rises (suc k) [] h = tt
take_rises (suc k) (e ∷ es) h = take_after k e es h

pub rises_tail : (e : Entry) (es : List Entry) → RisesAfter e es → Rises es
rises_tail e [] h = tt
rises_tail e (f ∷ fs) h = h.1

pub drop_rises : (k : ℕ) (es : List Entry) → Rises es → Rises (drop k es)
drop_rises zero es h = h
drop_rises (suc k) [] h = tt
drop_rises (suc k) (e ∷ es) h = drop_rises k es (rises_tail e es h)

take_less : (k : ℕ) (es : List Entry) → (length (take k es) ≤ length es) × (bytes_of (take k es) ≤ bytes_of es)
take_less zero es = (omega arith, omega arith)
take_less (suc k) [] = (omega arith, omega arith)
take_less (suc k) (e ∷ es) =
    let t = take_less k es in
    let a = bytes_more e es in
    let b = bytes_more e (take k es) in
    let l = t.0 in
    let m = t.1 in (omega (arith, l), omega (arith, a, b, m))

drop_less : (k : ℕ) (es : List Entry) → (length (drop k es) ≤ length es) × (bytes_of (drop k es) ≤ bytes_of es)
drop_less zero es = (omega arith, omega arith)
drop_less (suc k) [] = (omega arith, omega arith)
drop_less (suc k) (e ∷ es) =
    let t = drop_less k es in
    let a = bytes_more e es in
    let l = t.0 in
    let m = t.1 in (omega (arith, l), omega (arith, a, m))

pub take_fits : (k : ℕ) (es : List Entry) → FitsEntries es → FitsEntries (take k es)
take_fits k es f =
    let l = take_less k es in
    let p = l.0 in
    let q = l.1 in
    let a = f.most in
    let b = f.size in
    record { most = omega (arith, a, p); fit = all-take FitsEntry es k f.fit; rises = take_rises k es f.rises; size = omega (arith, b, q) }

pub drop_fits : (k : ℕ) (es : List Entry) → FitsEntries es → FitsEntries (drop k es)
drop_fits k es f =
    let l = drop_less k es in
    let p = l.0 in
    let q = l.1 in
    let a = f.most in
    let b = f.size in
    record { most = omega (arith, a, p); fit = all-drop FitsEntry es k f.fit; rises = drop_rises k es f.rises; size = omega (arith, b, q) }

-- ---- pages

run_bytes : (room : ℕ) (es : List Entry) → bytes_of (run_within room es) ≤ room
unfolding run_within
run_bytes room [] = omega arith
run_bytes room (e ∷ es) = go (run_bytes (room - length (entry_bytes e)) es) (nat_le (length (entry_bytes e)) room) refl
  where
    go : bytes_of (run_within (room - length (entry_bytes e)) es) ≤ room - length (entry_bytes e) → (c : Bool) → nat_le (length (entry_bytes e)) room ≡ c →
        bytes_of (cond c (e ∷ run_within (room - length (entry_bytes e)) es) []) ≤ room
    go h true q = let a = bytes_more e (run_within (room - length (entry_bytes e)) es) in let b = leb-true (length (entry_bytes e)) room q in omega (arith, h, a, b)
    go h false q = omega arith

run_all : (P : Entry → Type 0) (room : ℕ) (es : List Entry) → AllByRecursion P es → AllByRecursion P (run_within room es)
unfolding run_within
run_all P room [] h = tt
run_all P room (e ∷ es) h = go (run_all P (room - length (entry_bytes e)) es h.1) (nat_le (length (entry_bytes e)) room)
  where
    go : AllByRecursion P (run_within (room - length (entry_bytes e)) es) → (c : Bool) → AllByRecursion P (cond c (e ∷ run_within (room - length (entry_bytes e)) es) [])
    go g true = (h.0, g)
    go g false = tt

run_after : (room : ℕ) (e : Entry) (es : List Entry) → RisesAfter e es → RisesAfter e (run_within room es)
unfolding run_within
run_after room e [] h = tt
run_after room e (f ∷ fs) h = go (run_after (room - length (entry_bytes f)) f fs h.1) (nat_le (length (entry_bytes f)) room)
  where
    go : RisesAfter f (run_within (room - length (entry_bytes f)) fs) → (c : Bool) → RisesAfter e (cond c (f ∷ run_within (room - length (entry_bytes f)) fs) [])
    go g true = (h.0, g)
    go g false = tt

run_rises : (room : ℕ) (es : List Entry) → Rises es → Rises (run_within room es)
unfolding run_within
run_rises room [] h = tt
run_rises room (e ∷ es) h = go (nat_le (length (entry_bytes e)) room)
  where
    go : (c : Bool) → Rises (cond c (e ∷ run_within (room - length (entry_bytes e)) es) [])
    go true = run_after (room - length (entry_bytes e)) e es h
    go false = tt

many_bytes : (es : List Entry) → 16 * length es ≤ bytes_of es
many_bytes [] = omega arith
many_bytes (e ∷ es) = let a = bytes_more e es in let b = entry_long e in let c = many_bytes es in omega (arith, a, b, c)

pub page_fits : (es : List Entry) → AllByRecursion FitsEntry es → Rises es → FitsEntries (first_page es)
unfolding first_page
page_fits es fit rises =
    let b = run_bytes page_bytes es in
    let m = many_bytes (run_within page_bytes es) in
    record { most = omega (arith, b, m); fit = run_all FitsEntry page_bytes es fit; rises = run_rises page_bytes es rises; size = omega (arith, b) }

-- ---- lists put together

-- e stands behind the last of them, if there is one
abbrev pub IsBehind : List Entry → Entry → Type 0
IsBehind [] e = Unit {0}
IsBehind (f ∷ []) e = IsBefore f e
IsBehind (f ∷ g ∷ fs) e = IsBehind (g ∷ fs) e

after_then : (d : Entry) (fs : List Entry) (e : Entry) (es : List Entry) → RisesAfter d fs → IsBehind (d ∷ fs) e → RisesAfter e es → RisesAfter d (fs ++ e ∷ es)
after_then d [] e es h b r = (b, r)
after_then d (f ∷ fs) e es h b r = (h.0, after_then f fs e es h.1 b r)

pub rises_then : (fs : List Entry) (e : Entry) (es : List Entry) → Rises fs → IsBehind fs e → Rises (e ∷ es) → Rises (fs ++ e ∷ es)
rises_then [] e es h b r = r
rises_then (f ∷ fs) e es h b r = after_then f fs e es h b r

-- ---- facts of each

-- ---- orders as tests

pub stamp_before : (s t : Stamp) → IsTrue (stamp_lt s t) → (s.time < t.time) ⊎ ((s.time ≡ t.time) × (s.origin < t.origin))
unfolding stamp_lt
stamp_before s t h = elim (or_cases (nat_lt s.time t.time) (s.time == t.time && nat_lt s.origin t.origin) h) [
  | inl a ↦ inl (ltb-true s.time t.time a)
  | inr a ↦ (let p = and_parts (s.time == t.time) (nat_lt s.origin t.origin) a in inr (eqb-true s.time t.time p.0, ltb-true s.origin t.origin p.1))
]

pub entry_before : (a b : Entry) → IsTrue (entry_lt a b) → IsBefore a b
unfolding entry_lt
entry_before a b h = elim (or_cases (nat_lt a.epoch b.epoch) (a.epoch == b.epoch && stamp_lt a.stamp b.stamp) h) [
  | inl e ↦ inl (ltb-true a.epoch b.epoch e)
  | inr e ↦ (let p = and_parts (a.epoch == b.epoch) (stamp_lt a.stamp b.stamp) e in inr (eqb-true a.epoch b.epoch p.0, stamp_before a.stamp b.stamp p.1))
]

-- entries of one epoch that rise by stamp
pub rises_in : (x : ℕ) (es : List Entry) → by_stamp.Rises es → ((z : Entry) → Among es z → z.epoch ≡ x) → Rises es
rises_in x [] h ep = tt
rises_in x (e ∷ []) h ep = tt
rises_in x (e ∷ f ∷ fs) h ep =
    (inr (ep e (inl refl) ∙ sym (ep f (inr (inl refl))), stamp_before e.stamp f.stamp h.0.0), rises_in x (f ∷ fs) h.1 (λ z a. ep z (inr a)))
