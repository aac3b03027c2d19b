-- The parts of one message, each received once, make up the message.
use Rattle.std.proofs.Common.{◌≡◌, ℕ, zero, suc, ◌+◌, List, [], ◌∷◌, ◌++◌, length, refl, sym, ◌∙◌, ap, subst, inl, inr, Bool, true, false, cond, arith, get_or, not}
use Rattle.std.specs.Prelude.{◌⊎◌, IsTrue, Some, None, ◌==◌, ◌&&◌, ◌||◌, filter, flat_map}
use Rattle.std.specs.List.{concat, list_any, list_all, range_with_len}
use Rattle.std.proofs.lemmas.Bool.{and_parts, cases_eq, eq-eqb, ne_eqb, eqb-true, false≢true}
use Rattle.std.proofs.lemmas.Option.{none-some, same_Some}
use Rattle.std.proofs.lemmas.List.{append-nil}
use Rattle.crsm_spec.specs.Lists.{Among, numbers_below}
use Rattle.crsm_spec.specs.Parts.{Piece, is_same_message, kept_of, has_index, is_complete, is_old, is_odd, joined, with_part, whole_with, cut}
use Rattle.crsm_law_messages.proofs.Words.{both}
use Rattle.crsm_fact_log.proofs.Lists.{among_either, kept_from, kept_in}
use Rattle.crsm_fact_log.proofs.Parts.{joined_again}

-- ---- parts of one message

pub same_keys : (p q : Piece) → IsTrue (is_same_message p q) → (p.from ≡ q.from) × (p.boot ≡ q.boot) × (p.number ≡ q.number)
unfolding is_same_message
same_keys p q h =
    let a = and_parts (p.from == q.from) (p.boot == q.boot && p.number == q.number) h in
    let b = and_parts (p.boot == q.boot) (p.number == q.number) a.1 in
    (eqb-true p.from q.from a.0, eqb-true p.boot q.boot b.0, eqb-true p.number q.number b.1)

keys_same : (p q : Piece) → p.from ≡ q.from → p.boot ≡ q.boot → p.number ≡ q.number → IsTrue (is_same_message p q)
unfolding is_same_message
keys_same p q f b n = both (p.from == q.from) (p.boot == q.boot && p.number == q.number) (eq-eqb p.from q.from f) (both (p.boot == q.boot) (p.number == q.number) (eq-eqb p.boot q.boot b) (eq-eqb p.number q.number n))

-- of each message each index stands once
abbrev pub IsOnce : List Piece → Type 0
IsOnce [] = Unit {0}
IsOnce (q ∷ qs) = ((z : Piece) → Among qs z → IsTrue (is_same_message q z) → q.index ≡ z.index → ⊥) × IsOnce qs

once_push : (parts : List Piece) (p : Piece) → IsOnce parts → ((z : Piece) → Among parts z → IsTrue (is_same_message z p) → z.index ≡ p.index → ⊥) → IsOnce (parts ++ p ∷ [])
once_push [] p o new = (λ z h. absurd h, tt)
once_push (q ∷ qs) p o new = (
  λ z h s e. elim (among_either qs (p ∷ []) z h) [
    | inl a ↦ o.0 z a s e
    | inr b ↦ elim b [ inl w ↦ new q (inl refl) (subst (λ y. IsTrue (is_same_message q y)) (sym w) s) (e ∙ ap (λ y. y.index) (sym w)) | inr w ↦ w ]
  ],
  once_push qs p o.1 (λ z a. new z (inr a)),
)

index_found : (qs : List Piece) (z : Piece) (i : ℕ) → Among qs z → z.index ≡ i → IsTrue (has_index qs i)
unfolding has_index
index_found [] z i h e = absurd h
index_found (q ∷ qs) z i (inl w) e = or_first (q.index == i) (list_any (λ r. r.index == i) qs) (eq-eqb q.index i (ap (λ y. y.index) w ∙ e))
  where
    or_first : (a b : Bool) → IsTrue a → IsTrue (a || b)
    or_first true b h = refl
    or_first false b h = absurd (false≢true h)
index_found (q ∷ qs) z i (inr h) e = or_second (q.index == i) (list_any (λ r. r.index == i) qs) (index_found qs z i h e)
  where
    or_second : (a b : Bool) → IsTrue b → IsTrue (a || b)
    or_second true b h = refl
    or_second false b h = h

pub once_with : (p : Piece) (parts : List Piece) → IsOnce parts → IsOnce (with_part p parts)
unfolding with_part kept_of
once_with p parts o = go (is_old p parts || is_odd p parts) (has_index (filter (is_same_message p) parts) p.index) refl
  where
    go : (b h : Bool) → has_index (filter (is_same_message p) parts) p.index ≡ h → IsOnce (cond (b || h) parts (parts ++ p ∷ []))
    go true h e = o
    go false true e = o
    go false false e = once_push parts p o (λ z a s i.
        let t = same_keys z p s in
        false≢true (sym e ∙ index_found (filter (is_same_message p) parts) z p.index (kept_in (is_same_message p) parts z a (keys_same p z (sym t.0) (sym t.1) (sym t.2))) i))

pub with_among : (p : Piece) (parts : List Piece) (q : Piece) → Among (with_part p parts) q → Among parts q ⊎ (p ≡ q)
unfolding with_part
with_among p parts q = go ((is_old p parts || is_odd p parts) || has_index (kept_of p parts) p.index)
  where
    go : (b : Bool) → Among (cond b parts (parts ++ p ∷ [])) q → Among parts q ⊎ (p ≡ q)
    go true h = inl h
    go false h = elim (among_either parts (p ∷ []) q h) [ inl a ↦ inl a | inr b ↦ elim b [ inl e ↦ inr e | inr w ↦ absurd w ] ]

-- ---- what stands at an index

abbrev AreApart : List Piece → Type 0
AreApart [] = Unit {0}
AreApart (q ∷ qs) = ((z : Piece) → Among qs z → q.index ≡ z.index → ⊥) × AreApart qs

kept_apart : (p : Piece) (parts : List Piece) → IsOnce parts → AreApart (filter (is_same_message p) parts)
kept_apart p [] o = tt
kept_apart p (q ∷ qs) o = go (is_same_message p q) refl (kept_apart p qs o.1)
  where
    go : (b : Bool) → is_same_message p q ≡ b → AreApart (filter (is_same_message p) qs) → AreApart (cond b (q ∷ filter (is_same_message p) qs) (filter (is_same_message p) qs))
    go true e rest = (
      λ z h i. (let t = kept_from (is_same_message p) qs z h in let a = same_keys p q e in let b = same_keys p z t.1 in
          o.0 z t.0 (keys_same q z (sym a.0 ∙ b.0) (sym a.1 ∙ b.1) (sym a.2 ∙ b.2)) i),
      rest,
    )
    go false e rest = rest

abbrev at_index : ℕ → List Piece → List ℕ
at_index i qs = flat_map (λ q. cond (q.index == i) q.bytes []) qs

none_there : (i : ℕ) (qs : List Piece) → ((z : Piece) → Among qs z → z.index ≡ i → ⊥) → at_index i qs ≡ []
none_there i [] h = refl
none_there i (q ∷ qs) h = ap (λ b. cond b q.bytes [] ++ at_index i qs) (ne_eqb q.index i (λ e. h q (inl refl) e)) ∙ none_there i qs (λ z a. h z (inr a))

module _ (f : ℕ → List ℕ) where
  one_there : (i : ℕ) (qs : List Piece) → AreApart qs → ((z : Piece) → Among qs z → z.bytes ≡ f z.index) → IsTrue (has_index qs i) → at_index i qs ≡ f i
  unfolding has_index
  one_there i [] d b h = absurd (false≢true h)
  one_there i (q ∷ qs) d b h = elim (cases_eq q.index i) [
    | inl e ↦ ap (λ c. cond c q.bytes [] ++ at_index i qs) (eq-eqb q.index i e)
        ∙ ap (λ l. q.bytes ++ l) (none_there i qs (λ z a w. d.0 z a (e ∙ sym w)))
        ∙ append-nil q.bytes ∙ b q (inl refl) ∙ ap f e
    | inr ne ↦ ap (λ c. cond c q.bytes [] ++ at_index i qs) (ne_eqb q.index i ne)
        ∙ one_there i qs d.1 (λ z a. b z (inr a)) (subst (λ c. IsTrue (c || list_any (λ r. r.index == i) qs)) (ne_eqb q.index i ne) h)
  ]

  all_there : (n a : ℕ) (qs : List Piece) → AreApart qs → ((z : Piece) → Among qs z → z.bytes ≡ f z.index) → IsTrue (list_all (has_index qs) (range_with_len a n)) →
      flat_map (λ i. at_index i qs) (range_with_len a n) ≡ flat_map f (range_with_len a n)
  all_there zero a qs d b h = refl
  all_there (suc n) a qs d b h =
      let t = and_parts (has_index qs a) (list_all (has_index qs) (range_with_len (a + 1) n)) h in
      ap (λ l. l ++ flat_map (λ i. at_index i qs) (range_with_len (a + 1) n)) (one_there a qs d b t.0) ∙ ap (λ l. f a ++ l) (all_there n (a + 1) qs d b t.1)

  all_pieces : (ps : List (List ℕ)) (a : ℕ) → ((i : ℕ) → f (a + i) ≡ get_or ps i []) → flat_map f (range_with_len a (length ps)) ≡ concat ps
  all_pieces [] a h = refl
  all_pieces (p ∷ ps) a h =
      ap (λ l. l ++ flat_map f (range_with_len (a + 1) (length ps))) (ap f (omega arith) ∙ h 0)
      ∙ ap (λ l. p ++ l) (all_pieces ps (a + 1) (λ i. ap f (omega arith) ∙ h (suc i)))

-- The message that is whole is the one that was cut, where each part of it that came is a part of that one.
pub whole_is : (m : List ℕ) (p : Piece) (parts : List Piece) (message : List ℕ) → IsOnce parts → p.count ≡ length (cut m) →
    ((q : Piece) → Among (with_part p parts) q → IsTrue (is_same_message p q) → q.bytes ≡ get_or (cut m) q.index []) → whole_with p parts ≡ Some message → message ≡ m
unfolding whole_with is_complete joined kept_of numbers_below
whole_is m p parts message once count bytes w =
    let kept = filter (is_same_message p) (with_part p parts) in
    go (is_old p parts || is_odd p parts) (list_all (has_index kept) (range_with_len 0 p.count)) refl w
  where
    go : (o b : Bool) → list_all (has_index (filter (is_same_message p) (with_part p parts))) (range_with_len 0 p.count) ≡ b →
        cond (o || not b) None (Some (flat_map (λ i. at_index i (filter (is_same_message p) (with_part p parts))) (range_with_len 0 p.count))) ≡ Some message → message ≡ m
    go true b e h = absurd (none-some message h)
    go false false e h = absurd (none-some message h)
    go false true e h =
        let kept = filter (is_same_message p) (with_part p parts) in
        let f : ℕ → List ℕ = λ i. get_or (cut m) i [] in
        sym (same_Some _ message h)
        ∙ all_there f p.count 0 kept (kept_apart p (with_part p parts) (once_with p parts once))
        (λ z a. let t = kept_from (is_same_message p) (with_part p parts) z a in bytes z t.0 t.1) e
        ∙ ap (λ c. flat_map f (range_with_len 0 c)) count
        ∙ all_pieces f (cut m) 0 (λ i. ap f (omega arith)) ∙ joined_again m
