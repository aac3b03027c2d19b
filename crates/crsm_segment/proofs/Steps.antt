-- The state of the peers stands for the parts taken, after each part.
use Rattle.std.proofs.Common.{◌≡◌, ◌≢◌, ℕ, zero, suc, ◌<◌, Bool, true, false, cond, not, ◌&&◌, ◌||◌, ◌==◌, nat_eq, nat_lt, List, [], ◌∷◌, ◌++◌, map, length, get_or, filter, replicate, arith, refl, sym, subst, ap, ◌∙◌, Option, Some, None, Result}
use Rattle.std.specs.List.{Contains, list_any, list_all}
use Rattle.std.proofs.Math.ListN.{set}
use Rattle.std.proofs.lemmas.Bool.Decides.{nat_tests}
use Rattle.std.proofs.lemmas.List.{get_or-set_same, get_or-set_other, get_or-replicate, length-set, length-replicate}
use Rattle.std.specs.Result.{IfOk, OnOk}
use Rattle.std.proofs.lemmas.Result.{on_ok_weaker, IfOk-weaker}
use Rattle.crsm_spec.specs.Lists.{numbers_below}
use Rattle.crsm_spec.specs.Parts.{Piece, is_older, is_same_message, kept_of, has_index, is_complete, is_old, is_odd, whole_with, joined}
use Rattle.crsm_segment.specs.Gathering.{Gathering, part_of, is_before, is_same, has_passed, has_other_count, fits, empty_gathering, gathering_for, after_add, after_heading}
use Rattle.crsm_segment.specs.Answering.{answer_of, answer_of_add}
use Rattle.crsm_segment.specs.Taking.{is_sized, after_part, taken_whole, taken_of}
use Rattle.crsm_segment.specs.Gather.{is_of, is_newer, bytes_at, EachOnce, IsNewest, PeerStands, GatherStands}
use Rattle.crsm_segment.specs.declared.message.Heading.{Heading}
use Rattle.crsm_segment.specs.declared.message.PartOutcome.{PartOutcome}
use Rattle.crsm_segment.specs.declared.message.PartOutcome.TheVariants.{Old, Odd}
use Rattle.crsm_segment.proofs.Facts.{either_false, both_false, any_true, any_false, all_equal, filter_none, in_filter, to_filter}
use Rattle.crsm_segment.proofs.Slots.{Collects, next_part, empty_slots, newest_add, answer_add}
use Rattle.crsm_segment.proofs.Peers.{not_false, and_false, unchanged_old, unchanged_odd, unchanged_size, with_is, changed, once_after, other_after, old_itself}

-- ---- a part against the newest message

no_part : (from : ℕ) (q : Piece) (h : Heading) (bytes : List ℕ) → (from == q.from) ≡ false →
    (is_older (part_of from h bytes) q ≡ false) × (is_same_message (part_of from h bytes) q ≡ false)
unfolding is_older is_same_message
no_part from q h bytes e = (
  ap (λ b. b && (nat_lt h.boot q.boot || (h.boot == q.boot && nat_lt h.number q.number))) e,
  ap (λ b. b && (h.boot == q.boot && h.number == q.number)) e,
)

before_newest : (from : ℕ) (g : Gathering) (h : Heading) (bytes : List ℕ) (q : Piece) → is_of from g.boot g.number q ≡ true → is_before h g ≡ true →
    is_older (part_of from h bytes) q ≡ true
unfolding is_older
before_newest from g h bytes q of before = grind (arith, nat_tests)

after_newest : (from : ℕ) (g : Gathering) (h : Heading) (q : Piece) → is_newer from g.boot g.number q ≡ false → is_before h g ≡ false → is_same h g ≡ false →
    is_newer from h.boot h.number q ≡ false
after_newest from g h q newer before same = grind (arith, nat_tests)

beside_newest : (from : ℕ) (g : Gathering) (h : Heading) (q : Piece) → is_newer from g.boot g.number q ≡ false → is_before h g ≡ false → is_same h g ≡ false →
    is_of from h.boot h.number q ≡ false
beside_newest from g h q newer before same = grind (arith, nat_tests)

same_boot : (h : Heading) (g : Gathering) → is_same h g ≡ true → h.boot ≡ g.boot
same_boot h g e = grind (arith, nat_tests)

same_number : (h : Heading) (g : Gathering) → is_same h g ≡ true → h.number ≡ g.number
same_number h g e = grind (arith, nat_tests)

-- the part by the message's own boot and number
its_part : (from : ℕ) (h : Heading) (g : Gathering) (bytes : List ℕ) → is_same h g ≡ true →
    part_of from h bytes ≡ record { from = from; boot = g.boot; number = g.number; index = h.index; count = h.count; bytes = bytes }
its_part from h g bytes e = λ j. record { from = from; boot = same_boot h g e j; number = same_number h g e j; index = h.index; count = h.count; bytes = bytes }

old_is : (from : ℕ) (peer : Option Gathering) (parts : List Piece) (h : Heading) (bytes : List ℕ) → PeerStands from peer parts →
    is_old (part_of from h bytes) parts ≡ has_passed peer h
unfolding is_old is_older is_same_message
old_is from None parts h bytes s =
    any_false _ parts (λ q c. let n = no_part from q h bytes (s q c) in
    both_false _ _ n.0 (ap (λ b. b && is_complete q (kept_of (part_of from h bytes) parts)) n.1))
old_is from (Some g) parts h bytes s = go (is_before h g) refl (is_same h g) refl
  where
    test : Piece → Bool
    test q = is_older (part_of from h bytes) q || (is_same_message (part_of from h bytes) q && is_complete q (kept_of (part_of from h bytes) parts))

    go : (b : Bool) → is_before h g ≡ b → (e : Bool) → is_same h g ≡ e → list_any test parts ≡ (b || (e && g.given))
    go true before e same =
        let (q, c, of) = s.some in
        any_true test parts q c (ap (λ b. b || (is_same_message (part_of from h bytes) q && is_complete q (kept_of (part_of from h bytes) parts))) (before_newest from g h bytes q of before))
    go false before true same = ap (λ p. is_old p parts) (its_part from h g bytes same) ∙ old_itself from g parts s h.index h.count bytes
    go false before false other =
        any_false test parts (λ q c.
        both_false _ _ (after_newest from g h q (s.none_newer q c) before other)
        (ap (λ b. b && is_complete q (kept_of (part_of from h bytes) parts)) (beside_newest from g h q (s.none_newer q c) before other)))

odd_is : (from : ℕ) (peer : Option Gathering) (parts : List Piece) (h : Heading) (bytes : List ℕ) → PeerStands from peer parts → has_passed peer h ≡ false →
    is_odd (part_of from h bytes) parts ≡ has_other_count peer h
unfolding is_odd kept_of is_same_message
odd_is from None parts h bytes s new =
    ap (λ k. not (list_all (λ (q : Piece). q.count == h.count) k))
    (filter_none (is_of from h.boot h.number) parts (λ q c. ap (λ b. b && (h.boot == q.boot && h.number == q.number)) (s q c)))
odd_is from (Some g) parts h bytes s new = go (is_same h g) refl
  where
    go : (e : Bool) → is_same h g ≡ e → not (list_all (λ q. q.count == h.count) (filter (is_of from h.boot h.number) parts)) ≡ (e && not (g.count == h.count))
    go true same =
        let (q, c, of) = s.some in
        ap (λ k. not (list_all (λ (q : Piece). q.count == h.count) k)) (λ j. filter (is_of from (same_boot h g same j) (same_number h g same j)) parts)
        ∙ ap not (all_equal (λ (q : Piece). q.count == h.count) (g.count == h.count) (filter (is_of from g.boot g.number) parts) q
        (to_filter (is_of from g.boot g.number) parts q c of)
        (λ y k. let (there, is) = in_filter (is_of from g.boot g.number) parts y k in ap (λ n. n == h.count) (s.counts y there is)))
    go false other =
        let before : is_before h g ≡ false = (either_false (is_before h g) (is_same h g && g.given) new).0 in
        ap (λ k. not (list_all (λ (q : Piece). q.count == h.count) k))
        (filter_none (is_of from h.boot h.number) parts (λ q c. beside_newest from g h q (s.none_newer q c) before other))

-- ---- where a part goes

sized_below : (p : Piece) → is_sized p ≡ true → p.index < p.count
unfolding is_sized
sized_below p e = grind (arith, nat_tests)

sized_of : (from : ℕ) (h : Heading) (bytes : List ℕ) → is_sized (part_of from h bytes) ≡ fits h bytes
unfolding is_sized
sized_of from h bytes = refl

none_all : (n : ℕ) → 0 < n → list_all (has_index []) (numbers_below n) ≡ false
unfolding has_index numbers_below
none_all zero pos = absurd (omega arith)
none_all (suc n) pos = refl

fresh_collects : (from : ℕ) (parts : List Piece) (h : Heading) → 0 < h.count →
    ((q : Piece) → Contains parts q → is_newer from h.boot h.number q ≡ false) → ((q : Piece) → Contains parts q → is_of from h.boot h.number q ≡ false) →
    Collects from (empty_gathering h) parts
fresh_collects from parts h some newer of =
    let kept : filter (is_of from h.boot h.number) parts ≡ [] = filter_none (is_of from h.boot h.number) parts of in
    record {
      none_newer = newer;
      counts = λ q c is. absurd (clash (is_of from h.boot h.number q) is (of q c));
      given = ap (λ k. list_all (has_index k) (numbers_below h.count)) kept ∙ none_all h.count some;
      slots = λ e. empty_slots h.count ∙ ap (λ k. map (bytes_at k) (numbers_below h.count)) (sym kept);
    }
  where
    clash : (b : Bool) → b ≡ true → b ≡ false → ⊥
    clash b h k = cc

record Fitting (from : ℕ) (g : Gathering) (parts : List Piece) (h : Heading) (bytes : List ℕ) : Type 0 where
  pub collects : Collects from g parts
  pub part : part_of from h bytes ≡ next_part from g h.index bytes
  pub below : h.index < g.count
  pub is_open : g.given ≡ false

fresh_fitting : (from : ℕ) (parts : List Piece) (h : Heading) (bytes : List ℕ) → fits h bytes ≡ true →
    ((q : Piece) → Contains parts q → is_newer from h.boot h.number q ≡ false) → ((q : Piece) → Contains parts q → is_of from h.boot h.number q ≡ false) →
    Fitting from (empty_gathering h) parts h bytes
fresh_fitting from parts h bytes fit newer of =
    let low : h.index < h.count = sized_below (part_of 0 h bytes) fit in
    record { collects = fresh_collects from parts h (omega arith) newer of; part = refl; below = low; is_open = refl }

fitting : (from : ℕ) (peer : Option Gathering) (parts : List Piece) (h : Heading) (bytes : List ℕ) → PeerStands from peer parts →
    has_passed peer h ≡ false → has_other_count peer h ≡ false → fits h bytes ≡ true → Fitting from (gathering_for peer h) parts h bytes
fitting from None parts h bytes s new counted fit =
    fresh_fitting from parts h bytes fit
    (λ q c. ap (λ b. b && (nat_lt h.boot q.boot || (h.boot == q.boot && nat_lt h.number q.number))) (s q c))
    (λ q c. ap (λ b. b && (h.boot == q.boot && h.number == q.number)) (s q c))
fitting from (Some g) parts h bytes s new counted fit = go (is_same h g) refl
  where
    before : is_before h g ≡ false
    before = (either_false (is_before h g) (is_same h g && g.given) new).0

    go : (e : Bool) → is_same h g ≡ e → Fitting from (cond e g (empty_gathering h)) parts h bytes
    go true same =
        let equal : (g.count == h.count) ≡ true = not_false _ (and_false (is_same h g) _ same counted) in
        let count : h.count ≡ g.count = grind (arith, nat_tests) in
        let low : h.index < h.count = sized_below (part_of 0 h bytes) fit in
        record {
          collects = record { none_newer = s.none_newer; counts = s.counts; given = s.given; slots = s.slots };
          part = λ j. record { from = from; boot = same_boot h g same j; number = same_number h g same j; index = h.index; count = count j; bytes = bytes };
          below = omega arith;
          is_open = and_false (is_same h g) g.given same (either_false (is_before h g) (is_same h g && g.given) new).1;
        }
    go false other =
        fresh_fitting from parts h bytes fit
        (λ q c. after_newest from g h q (s.none_newer q c) before other)
        (λ q c. beside_newest from g h q (s.none_newer q c) before other)

-- ---- one peer after a part

newest_of : (from : ℕ) (g : Gathering) (parts : List Piece) (i : ℕ) (bytes : List ℕ) → Collects from g parts → i < g.count → g.given ≡ false →
    IsNewest from (after_add g i bytes) (cond (has_index (kept_of (next_part from g i bytes) parts) i) parts (parts ++ next_part from g i bytes ∷ []))
unfolding kept_of is_same_message
newest_of from g parts i bytes c below is_open = newest_add from g parts i bytes c below is_open

added : (from : ℕ) (g : Gathering) (parts : List Piece) (h : Heading) (bytes : List ℕ) → Fitting from g parts h bytes →
    IsNewest from (after_add g h.index bytes) (cond (has_index (kept_of (part_of from h bytes) parts) h.index) parts (parts ++ part_of from h bytes ∷ []))
added from g parts h bytes f =
    subst (λ z. IsNewest from (after_add g h.index bytes) (cond (has_index (kept_of z parts) h.index) parts (parts ++ z ∷ []))) (sym f.part)
    (newest_of from g parts h.index bytes f.collects f.below f.is_open)

peer_after : (from : ℕ) (peer : Option Gathering) (parts : List Piece) (h : Heading) (bytes : List ℕ) → PeerStands from peer parts →
    PeerStands from (after_heading peer h bytes) (after_part (part_of from h bytes) parts)
peer_after from peer parts h bytes s = go (has_passed peer h) refl (has_other_count peer h) refl (fits h bytes) refl
  where
    unchanged : after_part (part_of from h bytes) parts ≡ parts → PeerStands from peer (after_part (part_of from h bytes) parts)
    unchanged e = subst (PeerStands from peer) (sym e) s

    go : (a : Bool) → has_passed peer h ≡ a → (b : Bool) → has_other_count peer h ≡ b → (f : Bool) → fits h bytes ≡ f →
        PeerStands from (cond (a || (b || not f)) peer (Some (after_add (gathering_for peer h) h.index bytes))) (after_part (part_of from h bytes) parts)
    go true old b odd f fit = unchanged (unchanged_old (part_of from h bytes) parts (old_is from peer parts h bytes s ∙ old))
    go false old true odd f fit = unchanged (unchanged_odd (part_of from h bytes) parts (odd_is from peer parts h bytes s old ∙ odd))
    go false old false odd false fit = unchanged (unchanged_size (part_of from h bytes) parts (sized_of from h bytes ∙ fit))
    go false old false odd true fit =
        let f = fitting from peer parts h bytes s old odd fit in
        let is : after_part (part_of from h bytes) parts ≡ cond (has_index (kept_of (part_of from h bytes) parts) h.index) parts (parts ++ part_of from h bytes ∷ []) =
        changed (part_of from h bytes) parts (sized_of from h bytes ∙ fit) (old_is from peer parts h bytes s ∙ old) (odd_is from peer parts h bytes s old ∙ odd) in
        subst (λ z. IsNewest from (after_add (gathering_for peer h) h.index bytes) z) (sym is) (added from (gathering_for peer h) parts h bytes f)

pub whole_is : (p : Piece) (parts : List Piece) → is_old p parts ≡ false → is_odd p parts ≡ false →
    let after : List Piece = cond (has_index (kept_of p parts) p.index) parts (parts ++ p ∷ []) in
    whole_with p parts ≡ cond (not (is_complete p (kept_of p after))) None (Some (joined p.count (kept_of p after)))
unfolding whole_with
whole_is p parts old odd =
    ap (λ z. cond ((is_old p parts || is_odd p parts) || not (is_complete p (kept_of p z))) None (Some (joined p.count (kept_of p z)))) (with_is p parts old odd)
    ∙ ap (λ b. let after : List Piece = cond (has_index (kept_of p parts) p.index) parts (parts ++ p ∷ []) in
    cond (b || not (is_complete p (kept_of p after))) None (Some (joined p.count (kept_of p after)))) (both_false (is_old p parts) (is_odd p parts) old odd)

added_answer : (from : ℕ) (g : Gathering) (parts : List Piece) (i : ℕ) (bytes : List ℕ) → Collects from g parts → i < g.count → g.given ≡ false → EachOnce parts →
    let p : Piece = next_part from g i bytes in
    let after : List Piece = cond (has_index (kept_of p parts) i) parts (parts ++ p ∷ []) in
    answer_of_add g i bytes ≡ taken_whole (cond (not (is_complete p (kept_of p after))) None (Some (joined p.count (kept_of p after))))
unfolding kept_of is_same_message
added_answer from g parts i bytes c below is_open once = answer_add from g parts i bytes c below is_open once

peer_answer : (from : ℕ) (peer : Option Gathering) (parts : List Piece) (h : Heading) (bytes : List ℕ) → PeerStands from peer parts → EachOnce parts →
    answer_of peer h bytes ≡ taken_of (part_of from h bytes) parts
unfolding taken_of
peer_answer from peer parts h bytes s once = go (has_passed peer h) refl (has_other_count peer h) refl (fits h bytes) refl
  where
    rest : Bool → Bool → Bool → PartOutcome
    rest a b f = cond a Old (cond (b || not f) Odd (taken_whole (whole_with (part_of from h bytes) parts)))

    go : (a : Bool) → has_passed peer h ≡ a → (b : Bool) → has_other_count peer h ≡ b → (f : Bool) → fits h bytes ≡ f →
        cond a Old (cond (b || not f) Odd (answer_of_add (gathering_for peer h) h.index bytes))
        ≡ rest (is_old (part_of from h bytes) parts) (is_odd (part_of from h bytes) parts) (is_sized (part_of from h bytes))
    go true old b odd f fit = sym (ap (λ z. rest z (is_odd (part_of from h bytes) parts) (is_sized (part_of from h bytes))) (old_is from peer parts h bytes s ∙ old))
    go false old true odd f fit =
        sym (ap (λ z. rest z (is_odd (part_of from h bytes) parts) (is_sized (part_of from h bytes))) (old_is from peer parts h bytes s ∙ old)
        ∙ ap (λ z. rest false z (is_sized (part_of from h bytes))) (odd_is from peer parts h bytes s old ∙ odd))
    go false old false odd false fit =
        sym (ap (λ z. rest z (is_odd (part_of from h bytes) parts) (is_sized (part_of from h bytes))) (old_is from peer parts h bytes s ∙ old)
        ∙ ap (λ z. rest false z (is_sized (part_of from h bytes))) (odd_is from peer parts h bytes s old ∙ odd)
        ∙ ap (λ z. rest false false z) (sized_of from h bytes ∙ fit))
    go false old false odd true fit =
        let f = fitting from peer parts h bytes s old odd fit in
        by_whole (gathering_for peer h) f
        ∙ ap taken_whole (sym (whole_is (part_of from h bytes) parts (old_is from peer parts h bytes s ∙ old) (odd_is from peer parts h bytes s old ∙ odd)))
        ∙ sym (ap (λ z. rest z (is_odd (part_of from h bytes) parts) (is_sized (part_of from h bytes))) (old_is from peer parts h bytes s ∙ old)
        ∙ ap (λ z. rest false z (is_sized (part_of from h bytes))) (odd_is from peer parts h bytes s old ∙ odd)
        ∙ ap (λ z. rest false false z) (sized_of from h bytes ∙ fit))
      where
        by_whole : (g : Gathering) → Fitting from g parts h bytes →
            let p : Piece = part_of from h bytes in
            let after : List Piece = cond (has_index (kept_of p parts) h.index) parts (parts ++ p ∷ []) in
            answer_of_add g h.index bytes ≡ taken_whole (cond (not (is_complete p (kept_of p after))) None (Some (joined p.count (kept_of p after))))
        by_whole g f =
            subst (λ p. let after : List Piece = cond (has_index (kept_of p parts) h.index) parts (parts ++ p ∷ []) in
            answer_of_add g h.index bytes ≡ taken_whole (cond (not (is_complete p (kept_of p after))) None (Some (joined p.count (kept_of p after))))) (sym f.part)
            (added_answer from g parts h.index bytes f.collects f.below f.is_open once)

-- ---- all peers

pub stands_after : (peers : List (Option Gathering)) (from : ℕ) (h : Heading) (bytes : List ℕ) (parts : List Piece) → from < length peers → GatherStands peers parts →
    GatherStands (set peers from (after_heading (get_or peers from None) h bytes)) (after_part (part_of from h bytes) parts)
stands_after peers from h bytes parts within s = record { once = once_after (part_of from h bytes) parts s.once; peer = λ k low. at k low (nat_eq k from) refl }
  where
    new : Option Gathering
    new = after_heading (get_or peers from None) h bytes

    at : (k : ℕ) → k < length (set peers from new) → (b : Bool) → nat_eq k from ≡ b → PeerStands k (get_or (set peers from new) k None) (after_part (part_of from h bytes) parts)
    at k low true same =
        let is : k ≡ from = grind (arith, nat_tests) in
        subst (λ j. PeerStands j (get_or (set peers from new) j None) (after_part (part_of from h bytes) parts)) (sym is)
        (subst (λ o. PeerStands from o (after_part (part_of from h bytes) parts)) (sym (get_or-set_same peers from new None within))
        (peer_after from (get_or peers from None) parts h bytes (s.peer from within)))
    at k low false other =
        let apart : k ≢ from = grind (arith, nat_tests) in
        let far : (k == from) ≡ false = grind (arith, nat_tests) in
        let there : k < length peers = let l = length-set peers from new in omega arith in
        subst (λ o. PeerStands k o (after_part (part_of from h bytes) parts)) (sym (get_or-set_other peers from k new None apart))
        (other_after k (part_of from h bytes) far (get_or peers k None) parts (s.peer k there))

pub answer_after : (peers : List (Option Gathering)) (from : ℕ) (h : Heading) (bytes : List ℕ) (parts : List Piece) → from < length peers → GatherStands peers parts →
    answer_of (get_or peers from None) h bytes ≡ taken_of (part_of from h bytes) parts
answer_after peers from h bytes parts within s = peer_answer from (get_or peers from None) parts h bytes (s.peer from within) s.once

stands_for_none : (from : ℕ) (o : Option Gathering) → o ≡ None → PeerStands from o []
stands_for_none from o e = subst (λ o. PeerStands from o []) (sym e) (λ q c. absurd (let i = c.1 in omega arith))

pub stands_at_first : (n : ℕ) → GatherStands (replicate n None) []
unfolding kept_of
stands_at_first n =
    let none : Option Gathering = None in
    record {
      once = λ p. tt;
      peer = λ from low. stands_for_none from (get_or (replicate n none) from none) (get_or-replicate n from none none (let l = length-replicate n none in omega arith));
    }

same_at : {A : Type 0} (xs : List A) (i : ℕ) (d e : A) → i < length xs → get_or xs i d ≡ get_or xs i e
same_at [] i d e low = absurd (omega arith)
same_at (x ∷ xs) zero d e low = refl
same_at (x ∷ xs) (suc i) d e low = same_at xs i d e (omega arith)

-- ---- a call of `take`

pub take_stands : {T E : Type 0} (r : Result T E) (peers view : List (Option Gathering)) (from : ℕ) (h : Heading) (bytes : List ℕ) (old new : Option Gathering) →
    peers ≡ view → from < length view → old ≡ get_or peers from old → OnOk r (new ≡ after_heading old h bytes) →
    OnOk r ((parts : List Piece) → GatherStands view parts → GatherStands (set peers from new) (after_part (part_of from h bytes) parts))
take_stands r peers view from h bytes old new is within o state =
    on_ok_weaker r (λ e parts s.
    let low : from < length peers = subst (λ v. from < length v) (sym is) within in
    let at : old ≡ get_or peers from None = o ∙ same_at peers from old None low in
    subst (λ z. GatherStands (set peers from z) (after_part (part_of from h bytes) parts)) (sym (e ∙ ap (λ o. after_heading o h bytes) at))
    (stands_after peers from h bytes parts low (subst (λ v. GatherStands v parts) (sym is) s))) state

pub take_answers : {E : Type 0} (r : Result PartOutcome E) (peers view : List (Option Gathering)) (from : ℕ) (h : Heading) (bytes : List ℕ) (old : Option Gathering) →
    peers ≡ view → from < length view → old ≡ get_or peers from old → IfOk r (λ taken. taken ≡ answer_of old h bytes) →
    IfOk r (λ taken. (parts : List Piece) → GatherStands view parts → taken ≡ taken_of (part_of from h bytes) parts)
take_answers r peers view from h bytes old is within o answered =
    IfOk-weaker r (λ taken. taken ≡ answer_of old h bytes) (λ taken. (parts : List Piece) → GatherStands view parts → taken ≡ taken_of (part_of from h bytes) parts)
    (λ taken e parts s.
    let low : from < length peers = subst (λ v. from < length v) (sym is) within in
    let at : old ≡ get_or peers from None = o ∙ same_at peers from old None low in
    e ∙ ap (λ o. answer_of o h bytes) at ∙ answer_after peers from h bytes parts low (subst (λ v. GatherStands v parts) (sym is) s)) answered
