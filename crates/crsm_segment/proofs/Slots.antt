-- The slots of a message against the parts taken of it.
use Rattle.std.proofs.Common.{◌≡◌, ◌≢◌, ℕ, ◌<◌, Bool, true, false, cond, not, ◌||◌, ◌==◌, nat_eq, List, [], ◌∷◌, ◌++◌, map, length, get_or, filter, replicate, arith, inl, inr, refl, sym, subst, ap, ◌∙◌, Option, Some, None, is_some, unwrap_or}
use Rattle.std.specs.List.{Contains, list_any, list_all, flat_map}
use Rattle.std.proofs.Math.ListN.{set}
use Rattle.std.proofs.lemmas.Bool.Decides.{nat_tests}
use Rattle.std.proofs.lemmas.List.{get_or-set_same, get_or-set_other, get_or-replicate, length-set, length-replicate, ext_get_or}
use Rattle.std.proofs.lemmas.List.FromFn.{get_or-map-range_with_len, length-map-range_with_len}
use Rattle.std.proofs.lemmas.List.Folds.{list_all-map, flat_map-map}
use Rattle.std.proofs.lemmas.List.Elements.{Contains-push, Contains-push_cases, Contains-append_right}
use Rattle.crsm_spec.specs.Lists.{numbers_below}
use Rattle.crsm_spec.specs.Parts.{Piece, is_same_message, kept_of, has_index, is_complete, joined}
use Rattle.crsm_segment.specs.Gathering.{Gathering, has_slot, with_slot, is_filled, all_bytes, after_add}
use Rattle.crsm_segment.specs.Answering.{answer_of_add}
use Rattle.crsm_segment.specs.Taking.{taken_whole}
use Rattle.crsm_segment.specs.Gather.{is_of, is_newer, bytes_at, AreOnce, EachOnce, IsNewest}
use Rattle.crsm_segment.specs.declared.message.PartOutcome.TheVariants.{Whole, More}
use Rattle.crsm_segment.proofs.Facts.{in_filter, filter_push, some_at, bytes_at_push, bytes_at_other, once_push, bytes_once}

-- a part of the message that is gathered
abbrev pub next_part : ℕ → Gathering → ℕ → List ℕ → Piece
next_part from g i bytes = record { from = from; boot = g.boot; number = g.number; index = i; count = g.count; bytes = bytes }

-- the parts taken of it
abbrev pub kept_parts : ℕ → Gathering → List Piece → List Piece
kept_parts from g parts = filter (is_of from g.boot g.number) parts

-- the message is the newest, and some of its parts may have been taken
pub record Collects (from : ℕ) (g : Gathering) (parts : List Piece) : Type 0 where
  pub none_newer : (q : Piece) → Contains parts q → is_newer from g.boot g.number q ≡ false
  pub counts : (q : Piece) → Contains parts q → is_of from g.boot g.number q ≡ true → q.count ≡ g.count
  pub given : list_all (has_index (kept_parts from g parts)) (numbers_below g.count) ≡ g.given
  pub slots : g.given ≡ false → g.slots ≡ map (bytes_at (kept_parts from g parts)) (numbers_below g.count)

own_key : (from : ℕ) (g : Gathering) (i : ℕ) (bytes : List ℕ) → is_of from g.boot g.number (next_part from g i bytes) ≡ true
own_key from g i bytes = grind (arith, nat_tests)

not_newer : (from : ℕ) (g : Gathering) (i : ℕ) (bytes : List ℕ) → is_newer from g.boot g.number (next_part from g i bytes) ≡ false
not_newer from g i bytes = grind (arith, nat_tests)

-- ---- slots

pub slot_at : (kept : List Piece) (count i : ℕ) → i < count → get_or (map (bytes_at kept) (numbers_below count)) i None ≡ bytes_at kept i
unfolding numbers_below
slot_at kept count i below = get_or-map-range_with_len (bytes_at kept) 0 count i i None below (omega arith)

slots_length : (kept : List Piece) (count : ℕ) → length (map (bytes_at kept) (numbers_below count)) ≡ count
unfolding numbers_below
slots_length kept count = length-map-range_with_len (bytes_at kept) 0 count

slots_push : (kept : List Piece) (p : Piece) (count : ℕ) → has_index kept p.index ≡ false → p.index < count →
    set (map (bytes_at kept) (numbers_below count)) p.index (Some p.bytes) ≡ map (bytes_at (kept ++ p ∷ [])) (numbers_below count)
slots_push kept p count none below =
    ext_get_or None _ _
    (length-set (map (bytes_at kept) (numbers_below count)) p.index (Some p.bytes) ∙ slots_length kept count ∙ sym (slots_length (kept ++ p ∷ []) count))
    (λ i within. at i (let l = length-set (map (bytes_at kept) (numbers_below count)) p.index (Some p.bytes) in let m = slots_length kept count in omega arith))
  where
    at : (i : ℕ) → i < count →
        get_or (set (map (bytes_at kept) (numbers_below count)) p.index (Some p.bytes)) i None ≡ get_or (map (bytes_at (kept ++ p ∷ [])) (numbers_below count)) i None
    at i low = go (nat_eq i p.index) refl
      where
        go : (b : Bool) → nat_eq i p.index ≡ b →
            get_or (set (map (bytes_at kept) (numbers_below count)) p.index (Some p.bytes)) i None ≡ get_or (map (bytes_at (kept ++ p ∷ [])) (numbers_below count)) i None
        go true same =
            let is : i ≡ p.index = grind (arith, nat_tests) in
            ap (λ n. get_or (set (map (bytes_at kept) (numbers_below count)) p.index (Some p.bytes)) n None) is
            ∙ get_or-set_same (map (bytes_at kept) (numbers_below count)) p.index (Some p.bytes) None (let m = slots_length kept count in omega arith)
            ∙ sym (bytes_at_push kept p none) ∙ ap (bytes_at (kept ++ p ∷ [])) (sym is) ∙ sym (slot_at (kept ++ p ∷ []) count i low)
        go false other =
            let apart : i ≢ p.index = grind (arith, nat_tests) in
            get_or-set_other (map (bytes_at kept) (numbers_below count)) p.index i (Some p.bytes) None apart
            ∙ slot_at kept count i low ∙ sym (bytes_at_other kept p i apart) ∙ sym (slot_at (kept ++ p ∷ []) count i low)

pub empty_slots : (count : ℕ) → replicate count None ≡ map (bytes_at []) (numbers_below count)
empty_slots count =
    let none : Option (List ℕ) = None in
    ext_get_or none _ _ (length-replicate count none ∙ sym (slots_length [] count))
    (λ i within. let low : i < count = let l = length-replicate count none in omega arith in
    get_or-replicate count i none none low ∙ sym (slot_at [] count i low))

filled_is : (kept : List Piece) (count : ℕ) → is_filled (map (bytes_at kept) (numbers_below count)) ≡ list_all (has_index kept) (numbers_below count)
filled_is kept count = list_all-map is_some (bytes_at kept) (numbers_below count) ∙ (λ j. list_all (λ i. some_at kept i j) (numbers_below count))

joined_is : (kept : List Piece) (count : ℕ) → AreOnce kept → joined count kept ≡ all_bytes (map (bytes_at kept) (numbers_below count))
unfolding joined
joined_is kept count once =
    (λ j. flat_map (λ i. bytes_once kept i once j) (numbers_below count))
    ∙ sym (flat_map-map (λ o. unwrap_or o []) (bytes_at kept) (numbers_below count))

any_found : {X : Type 0} (f : X → Bool) (xs : List X) → list_any f xs ≡ true → (x : X) × Contains xs x × (f x ≡ true)
any_found f [] e = absurd (no e)
  where
    no : false ≡ true → ⊥
    no e = cc
any_found f (x ∷ xs) e = go (f x) refl e (any_found f xs)
  where
    go : (b : Bool) → f x ≡ b → (b || list_any f xs) ≡ true → (list_any f xs ≡ true → (y : _) × Contains xs y × (f y ≡ true)) → (y : _) × Contains (x ∷ xs) y × (f y ≡ true)
    go true is e rest = (x, (0, omega arith, refl), is)
    go false is e rest = let (y, c, k) = rest e in (y, Contains-append_right (x ∷ []) xs y c, k)

-- ---- a part that is neither old nor invalid

module _ (from : ℕ) (g : Gathering) (parts : List Piece) (i : ℕ) (bytes : List ℕ) (c : Collects from g parts) (below : i < g.count) (is_open : g.given ≡ false) where
  slot_is : has_slot g i ≡ has_index (kept_parts from g parts) i
  slot_is =
      ap (λ s. is_some (get_or s i None)) (c.slots is_open)
      ∙ ap is_some (slot_at (kept_parts from g parts) g.count i below) ∙ some_at (kept_parts from g parts) i

  kept_push : kept_parts from g (parts ++ next_part from g i bytes ∷ []) ≡ kept_parts from g parts ++ next_part from g i bytes ∷ []
  kept_push = filter_push (is_of from g.boot g.number) parts (next_part from g i bytes) (own_key from g i bytes)

  slots_are : has_index (kept_parts from g parts) i ≡ false →
      with_slot g i bytes ≡ map (bytes_at (kept_parts from g (parts ++ next_part from g i bytes ∷ []))) (numbers_below g.count)
  slots_are none =
      ap (λ s. set s i (Some bytes)) (c.slots is_open)
      ∙ slots_push (kept_parts from g parts) (next_part from g i bytes) g.count none below
      ∙ ap (λ k. map (bytes_at k) (numbers_below g.count)) (sym kept_push)

  complete_is : has_index (kept_parts from g parts) i ≡ false →
      list_all (has_index (kept_parts from g (parts ++ next_part from g i bytes ∷ []))) (numbers_below g.count) ≡ is_filled (with_slot g i bytes)
  complete_is none = sym (filled_is (kept_parts from g (parts ++ next_part from g i bytes ∷ [])) g.count) ∙ ap is_filled (sym (slots_are none))

  pub newest_add : IsNewest from (after_add g i bytes) (cond (has_index (kept_parts from g parts) i) parts (parts ++ next_part from g i bytes ∷ []))
  unfolding has_index
  newest_add =
      subst (λ h. IsNewest from (cond h g (cond (is_filled (with_slot g i bytes)) (record g { slots = []; given = true }) (record g { slots = with_slot g i bytes })))
      (cond (has_index (kept_parts from g parts) i) parts (parts ++ next_part from g i bytes ∷ [])))
      (sym slot_is) (go (has_index (kept_parts from g parts) i) refl (is_filled (with_slot g i bytes)) refl)
    where
      newer : (q : Piece) → Contains (parts ++ next_part from g i bytes ∷ []) q → is_newer from g.boot g.number q ≡ false
      newer q k = elim (Contains-push_cases parts (next_part from g i bytes) q k) [
        | inl old ↦ c.none_newer q old
        | inr new ↦ subst (λ z. is_newer from g.boot g.number z ≡ false) new (not_newer from g i bytes)
      ]

      counted : (q : Piece) → Contains (parts ++ next_part from g i bytes ∷ []) q → is_of from g.boot g.number q ≡ true → q.count ≡ g.count
      counted q k of = elim (Contains-push_cases parts (next_part from g i bytes) q k) [
        | inl old ↦ c.counts q old of
        | inr new ↦ sym (ap (λ z. z.count) new)
      ]

      go : (b : Bool) → has_index (kept_parts from g parts) i ≡ b → (f : Bool) → is_filled (with_slot g i bytes) ≡ f →
          IsNewest from (cond b g (cond f (record g { slots = []; given = true }) (record g { slots = with_slot g i bytes })))
          (cond b parts (parts ++ next_part from g i bytes ∷ []))
      go true has f filled =
          let (q, k, is) = any_found (λ q. q.index == i) (kept_parts from g parts) has in
          let (there, of) = in_filter (is_of from g.boot g.number) parts q k in
          record { none_newer = c.none_newer; some = (q, there, of); counts = c.counts; given = c.given; slots = c.slots }
      go false none true filled =
          record {
            none_newer = newer;
            some = (next_part from g i bytes, Contains-push parts (next_part from g i bytes), own_key from g i bytes);
            counts = counted;
            given = complete_is none ∙ filled;
            slots = λ e. absurd (no e);
          }
        where
          no : true ≡ false → ⊥
          no e = cc
      go false none false filled =
          record {
            none_newer = newer;
            some = (next_part from g i bytes, Contains-push parts (next_part from g i bytes), own_key from g i bytes);
            counts = counted;
            given = complete_is none ∙ filled ∙ sym is_open;
            slots = λ e. slots_are none;
          }

  -- what is answered
  abbrev whole_over : List Piece → Option (List ℕ)
  whole_over kept = cond (not (is_complete (next_part from g i bytes) kept)) None (Some (joined g.count kept))

  pub answer_add : EachOnce parts → answer_of_add g i bytes ≡
      taken_whole (whole_over (kept_of (next_part from g i bytes) (cond (has_index (kept_parts from g parts) i) parts (parts ++ next_part from g i bytes ∷ []))))
  unfolding taken_whole is_complete kept_of is_same_message
  answer_add once =
      ap (λ h. cond h More (cond (is_filled (with_slot g i bytes)) (Whole (all_bytes (with_slot g i bytes))) More)) slot_is
      ∙ go (has_index (kept_parts from g parts) i) refl
    where
      no_more : taken_whole (whole_over (kept_parts from g parts)) ≡ More
      no_more = ap (λ b. taken_whole (cond (not b) None (Some (joined g.count (kept_parts from g parts))))) (c.given ∙ is_open)

      once_more : has_index (kept_parts from g parts) i ≡ false → AreOnce (kept_parts from g (parts ++ next_part from g i bytes ∷ []))
      once_more none = subst AreOnce (sym kept_push) (once_push (kept_parts from g parts) (next_part from g i bytes) (once (next_part from g i bytes)) none)

      by_filled : has_index (kept_parts from g parts) i ≡ false → (f : Bool) →
          cond f (Whole (all_bytes (with_slot g i bytes))) More
          ≡ taken_whole (cond (not f) None (Some (joined g.count (kept_parts from g (parts ++ next_part from g i bytes ∷ [])))))
      by_filled none true =
          ap Whole (ap all_bytes (slots_are none) ∙ sym (joined_is (kept_parts from g (parts ++ next_part from g i bytes ∷ [])) g.count (once_more none)))
      by_filled none false = refl

      go : (b : Bool) → has_index (kept_parts from g parts) i ≡ b →
          cond b More (cond (is_filled (with_slot g i bytes)) (Whole (all_bytes (with_slot g i bytes))) More)
          ≡ taken_whole (whole_over (kept_of (next_part from g i bytes) (cond b parts (parts ++ next_part from g i bytes ∷ []))))
      go true has = sym no_more
      go false none =
          by_filled none (is_filled (with_slot g i bytes))
          ∙ ap (λ b. taken_whole (cond (not b) None (Some (joined g.count (kept_parts from g (parts ++ next_part from g i bytes ∷ [])))))) (sym (complete_is none))
