-- A whole message is all parts of one message, and one that was cut.
use Rattle.std.proofs.Common.{◌≡◌, ℕ, ◌+◌, ◌<◌, Bool, true, false, cond, not, ◌||◌, ◌==◌, List, [], ◌∷◌, ◌++◌, map, length, get_or, filter, arith, inl, inr, refl, sym, subst, ap, ◌∙◌, Option, Some, None, unwrap_or, append_assoc, append-nil}
use Rattle.std.specs.List.{Contains, concat, list_any, list_all, flat_map, range_with_len, enumerate_from}
use Rattle.std.proofs.lemmas.Bool.Decides.{nat_tests}
use Rattle.std.proofs.lemmas.List.{get_or-map, length-map, ext_get_or}
use Rattle.std.proofs.lemmas.List.Concat.{concat_is}
use Rattle.std.proofs.lemmas.List.Elements.{Contains-push, Contains-push_cases, Contains-append_left, Contains-append_right}
use Rattle.std.proofs.lemmas.List.Folds.{list_all-map, flat_map-map}
use Rattle.std.proofs.lemmas.List.FromFn.{get_or-map-range_with_len, length-map-range_with_len, get_or-enumerate_from, length-enumerate_from}
use Rattle.std.proofs.lemmas.List.Sums.{AllPass-from_list_all}
use Rattle.crsm_base.specs.declared.send.Send.{Send}
use Rattle.crsm_spec.specs.Lists.{numbers_below}
use Rattle.crsm_spec.specs.Parts.{Piece, is_same_message, kept_of, has_index, is_complete, is_old, is_odd, joined, whole_with, cut}
use Rattle.crsm_fact_log.proofs.Parts.{joined_again}
use Rattle.crsm_segment.specs.Pieces.{send_of, piece_of, sends_of}
use Rattle.crsm_segment.specs.Taking.{piece, is_sized, after_part, taken_whole, taken_of}
use Rattle.crsm_segment.specs.Gather.{bytes_at, AreOnce, EachOnce}
use Rattle.crsm_segment.specs.Arriving.{Cut, AreApart, IsOf, IsWholeOf, taken_from}
use Rattle.crsm_segment.specs.declared.message.PartOutcome.TheVariants.{Whole, More, Old, Odd}
use Rattle.crsm_segment.proofs.Facts.{in_filter, to_filter, bytes_once}
use Rattle.crsm_segment.proofs.Peers.{not_false, changed, after_cases, once_after, of_key}
use Rattle.crsm_segment.proofs.Steps.{whole_is}

-- ---- along what arrives

pub one_arrived : (seen parts : List Piece) (p : Piece) → ((q : Piece) → Contains parts q → Contains seen q) → (q : Piece) → Contains (after_part p parts) q → Contains (seen ++ p ∷ []) q
one_arrived seen parts p known =
    after_cases (λ z. (q : Piece) → Contains z q → Contains (seen ++ p ∷ []) q) p parts
    (λ q c. Contains-append_left seen (p ∷ []) q (known q c))
    (λ _ q c. elim (Contains-push_cases parts p q c) [
      | inl old ↦ Contains-append_left seen (p ∷ []) q (known q old)
      | inr new ↦ subst (λ z. Contains (seen ++ p ∷ []) z) new (Contains-push seen p)
    ])

all_arrived : (seen parts rest : List Piece) → ((q : Piece) → Contains parts q → Contains seen q) → (q : Piece) → Contains (taken_from parts rest) q → Contains (seen ++ rest) q
all_arrived seen parts [] known q c = subst (λ z. Contains z q) (sym (append-nil seen)) (known q c)
all_arrived seen parts (p ∷ rest) known q c =
    subst (λ z. Contains z q) (append_assoc seen (p ∷ []) rest)
    (all_arrived (seen ++ p ∷ []) (after_part p parts) rest (one_arrived seen parts p known) q c)

once_along : (parts rest : List Piece) → EachOnce parts → EachOnce (taken_from parts rest)
once_along parts [] once = once
once_along parts (p ∷ rest) once = once_along (after_part p parts) rest (once_after p parts once)

once_at_first : EachOnce []
unfolding kept_of
once_at_first p = tt

-- ---- what Whole says

record SaysWhole (last : Piece) (parts : List Piece) (message : List ℕ) : Type 0 where
  pub old : is_old last parts ≡ false
  pub odd : is_odd last parts ≡ false
  pub sized : is_sized last ≡ true
  pub whole : whole_with last parts ≡ Some message

says_whole : (last : Piece) (parts : List Piece) (message : List ℕ) → taken_of last parts ≡ Whole message → SaysWhole last parts message
unfolding taken_of taken_whole
says_whole last parts message = go (is_old last parts) refl (is_odd last parts) refl (is_sized last) refl (whole_with last parts) refl
  where
    go : (a : Bool) → is_old last parts ≡ a → (b : Bool) → is_odd last parts ≡ b → (f : Bool) → is_sized last ≡ f → (o : Option (List ℕ)) → whole_with last parts ≡ o →
        cond a Old (cond (b || not f) Odd (taken_whole o)) ≡ Whole message → SaysWhole last parts message
    go true old b odd f sized o is e = absurd (no e)
      where
        no : Old ≡ Whole message → ⊥
        no e = cc
    go false old true odd f sized o is e = absurd (no e)
      where
        no : Odd ≡ Whole message → ⊥
        no e = cc
    go false old false odd false sized o is e = absurd (no e)
      where
        no : Odd ≡ Whole message → ⊥
        no e = cc
    go false old false odd true sized None is e = absurd (no e)
      where
        no : More ≡ Whole message → ⊥
        no e = cc
    go false old false odd true sized (Some m) is e =
        let same : m ≡ message = cc in
        record { old = old; odd = odd; sized = sized; whole = is ∙ ap (λ z. Some z) same }

record Gathered (last : Piece) (after : List Piece) (message : List ℕ) : Type 0 where
  pub complete : is_complete last (kept_of last after) ≡ true
  pub is : message ≡ joined last.count (kept_of last after)

gathered_by : (b : Bool) (x message : List ℕ) → cond (not b) None (Some x) ≡ Some message → (b ≡ true) × (message ≡ x)
gathered_by true x message e = (refl, cc)
gathered_by false x message e = absurd (no e)
  where
    no : None ≡ Some message → ⊥
    no e = cc

gathered : (last : Piece) (parts : List Piece) (message : List ℕ) → SaysWhole last parts message → Gathered last (after_part last parts) message
gathered last parts message s =
    let after : List Piece = cond (has_index (kept_of last parts) last.index) parts (parts ++ last ∷ []) in
    let is : after_part last parts ≡ after = changed last parts s.sized s.old s.odd in
    let whole : cond (not (is_complete last (kept_of last after))) None (Some (joined last.count (kept_of last after))) ≡ Some message = sym (whole_is last parts s.old s.odd) ∙ s.whole in
    let (complete, joins) = gathered_by (is_complete last (kept_of last after)) (joined last.count (kept_of last after)) message whole in
    subst (λ z. Gathered last z message) (sym is) (record { complete = complete; is = joins })

-- ---- the parts of the message

all_pass : {X : Type 0} (f : X → Bool) (xs : List X) (x : X) → list_all f xs ≡ true → Contains xs x → f x ≡ true
all_pass f xs x e c = ap f (sym c.2) ∙ AllPass-from_list_all f xs e c.0 x c.1

counts_alike : (last : Piece) (parts : List Piece) → is_odd last parts ≡ false → (q : Piece) → Contains (kept_of last (after_part last parts)) q → q.count ≡ last.count
unfolding is_odd kept_of
counts_alike last parts odd =
    after_cases (λ z. (q : Piece) → Contains (filter (is_same_message last) z) q → q.count ≡ last.count) last parts old
    (λ _ q c.
    let (there, same) = in_filter (is_same_message last) (parts ++ last ∷ []) q c in
    elim (Contains-push_cases parts last q there) [
      | inl before ↦ old q (to_kept q before same)
      | inr new ↦ sym (ap (λ z. z.count) new)
    ])
  where
    old : (q : Piece) → Contains (filter (is_same_message last) parts) q → q.count ≡ last.count
    old q c =
        let e : (q.count == last.count) ≡ true = all_pass (λ (r : Piece). r.count == last.count) (filter (is_same_message last) parts) q (not_false _ odd) c in
        grind (arith, nat_tests)

    to_kept : (q : Piece) → Contains parts q → is_same_message last q ≡ true → Contains (filter (is_same_message last) parts) q
    to_kept q c e = to_filter (is_same_message last) parts q c e

found_at : (kept : List Piece) (i : ℕ) → has_index kept i ≡ true → (q : Piece) × Contains kept q × (q.index ≡ i) × (bytes_at kept i ≡ Some q.bytes)
unfolding has_index
found_at [] i e = absurd (no e)
  where
    no : false ≡ true → ⊥
    no e = cc
found_at (q ∷ qs) i e = go (q.index == i) refl e (found_at qs i)
  where
    go : (b : Bool) → (q.index == i) ≡ b → (b || list_any (λ r. r.index == i) qs) ≡ true →
        (list_any (λ r. r.index == i) qs ≡ true → (r : Piece) × Contains qs r × (r.index ≡ i) × (bytes_at qs i ≡ Some r.bytes)) →
        (r : Piece) × Contains (q ∷ qs) r × (r.index ≡ i) × (cond b (Some q.bytes) (bytes_at qs i) ≡ Some r.bytes)
    go true same e rest = (q, (0, omega arith, refl), (grind (arith, nat_tests)), refl)
    go false other e rest = let (r, c, at, is) = rest e in (r, Contains-append_right (q ∷ []) qs r c, at, is)

at_each : (f : ℕ → Bool) (n i : ℕ) → list_all f (numbers_below n) ≡ true → i < n → f i ≡ true
unfolding numbers_below
at_each f n i e low =
    sym (get_or-map-range_with_len f 0 n i i false low (omega arith))
    ∙ AllPass-from_list_all (λ b. b) (map f (range_with_len 0 n)) (list_all-map (λ b. b) f (range_with_len 0 n) ∙ e) i false
    (let l = length-map-range_with_len f 0 n in omega arith)

-- the bytes of each part
abbrev pieces_of : List Piece → ℕ → List (List ℕ)
pieces_of kept count = map (λ i. unwrap_or (bytes_at kept i) []) (numbers_below count)

pieces_length : (kept : List Piece) (count : ℕ) → length (pieces_of kept count) ≡ count
unfolding numbers_below
pieces_length kept count = length-map-range_with_len (λ i. unwrap_or (bytes_at kept i) []) 0 count

piece_at : (kept : List Piece) (count i : ℕ) → i < count → get_or (pieces_of kept count) i [] ≡ unwrap_or (bytes_at kept i) []
unfolding numbers_below
piece_at kept count i low = get_or-map-range_with_len (λ i. unwrap_or (bytes_at kept i) []) 0 count i i [] low (omega arith)

joined_pieces : (kept : List Piece) (count : ℕ) → AreOnce kept → joined count kept ≡ concat (pieces_of kept count)
unfolding joined
joined_pieces kept count once =
    (λ j. flat_map (λ i. bytes_once kept i once j) (numbers_below count))
    ∙ sym (concat_is (pieces_of kept count) ∙ flat_map-map (λ x. x) (λ i. unwrap_or (bytes_at kept i) []) (numbers_below count))

kept_arrived : (before : List Piece) (last q : Piece) → Contains (kept_of last (after_part last (taken_from [] before))) q →
    Contains (before ++ last ∷ []) q × ((last.from ≡ q.from) × (last.boot ≡ q.boot) × (last.number ≡ q.number))
unfolding kept_of is_same_message
kept_arrived before last q c =
    let (there, same) = in_filter (is_same_message last) (after_part last (taken_from [] before)) q c in (
      one_arrived before (taken_from [] before) last (all_arrived [] [] before (λ r k. k)) q there,
      of_key last.from last.boot last.number q same,
    )

pub whole_parts : (before : List Piece) (last : Piece) (message : List ℕ) → taken_of last (taken_from [] before) ≡ Whole message → IsWholeOf (before ++ last ∷ []) last message
unfolding is_complete
whole_parts before last message h =
    let parts : List Piece = taken_from [] before in
    let s = says_whole last parts message h in
    let g = gathered last parts message s in
    let kept : List Piece = kept_of last (after_part last parts) in
    let once : EachOnce (after_part last parts) = once_after last parts (once_along [] before once_at_first) in
    record {
      pieces = pieces_of kept last.count;
      count = pieces_length kept last.count;
      parts = λ i within.
          let low : i < last.count = let l = pieces_length kept last.count in omega arith in
          let (q, c, at, bytes) = found_at kept i (at_each (has_index kept) last.count i g.complete low) in
          let there = kept_arrived before last q c in
          let key = there.1 in
          let count : q.count ≡ last.count = counts_alike last parts s.odd q c in
          let is : q.bytes ≡ get_or (pieces_of kept last.count) i [] = ap (λ o. unwrap_or o []) (sym bytes) ∙ sym (piece_at kept last.count i low) in
          subst (λ z. Contains (before ++ last ∷ []) z) (λ j. record { from = sym key.0 j; boot = sym key.1 j; number = sym key.2 j; index = at j; count = count j; bytes = is j }) there.0;
      is = g.is ∙ joined_pieces kept last.count (once last);
    }

-- ---- parts that were cut

record IsPartOf (sender its_boot its_number : ℕ) (m : List ℕ) (p : Piece) : Type 0 where
  pub from : p.from ≡ sender
  pub boot : p.boot ≡ its_boot
  pub number : p.number ≡ its_number
  pub count : p.count ≡ length (cut m)
  pub bytes : p.bytes ≡ get_or (cut m) p.index []

sent_alike : (to : ℕ) (a b : Piece) → send_of to a ≡ send_of to b → (a.from ≡ b.from) × (a.boot ≡ b.boot) × (a.number ≡ b.number) × (a.index ≡ b.index) × (a.count ≡ b.count) × (a.bytes ≡ b.bytes)
unfolding send_of
sent_alike to a b e = let d = ap (λ (s : Send). s.datagram) e in (cc, cc, cc, cc, cc, cc)

cut_part : (from to boot number : ℕ) (m : List ℕ) (p : Piece) → Contains (sends_of from to boot number m) (send_of to p) → IsPartOf from boot number m p
unfolding sends_of
cut_part from to boot number m p (i, within, is) =
    let f : ℕ × List ℕ → Send = λ x. send_of to (piece_of from boot number m x.0 x.1) in
    let low : i < length (enumerate_from 0 (cut m)) = let l = length-map (enumerate_from 0 (cut m)) f in omega arith in
    let low' : i < length (cut m) = let l = length-enumerate_from 0 (cut m) in omega arith in
    let at : get_or (map f (enumerate_from 0 (cut m))) i (send_of to p) ≡ f (0 + i, get_or (cut m) i []) =
    get_or-map f (enumerate_from 0 (cut m)) i (0, []) (send_of to p) low ∙ ap f (get_or-enumerate_from 0 (cut m) i (0, []) low') in
    let (from', boot', number', index', count', bytes') = sent_alike to (piece_of from boot number m (0 + i) (get_or (cut m) i [])) p (sym at ∙ is) in
    let index : i ≡ p.index = let e : 0 + i ≡ p.index = index' in omega arith in
    record { from = sym from'; boot = sym boot'; number = sym number'; count = sym count'; bytes = sym bytes' ∙ ap (λ n. get_or (cut m) n []) index }

pub whole_cut : (cuts : List Cut) (before : List Piece) (last : Piece) (message : List ℕ) → AreApart cuts →
    ((p : Piece) → Contains (before ++ last ∷ []) p → IsOf cuts p) → taken_of last (taken_from [] before) ≡ Whole message →
    (c : Cut) × Contains cuts c × (message ≡ c.message)
whole_cut cuts before last message apart of_cuts h =
    let w = whole_parts before last message h in
    let o = of_cuts last (Contains-push before last) in
    let is_part = cut_part o.cut.from o.to o.cut.boot o.cut.number o.cut.message last o.sent in
    let same : w.pieces ≡ cut o.cut.message =
    ext_get_or [] w.pieces (cut o.cut.message) (w.count ∙ is_part.count)
    (λ i within.
    let q : Piece = piece last.from last.boot last.number i last.count (get_or w.pieces i []) in
    let p = of_cuts q (w.parts i within) in
    let its = cut_part p.cut.from p.to p.cut.boot p.cut.number p.cut.message q p.sent in
    let message_is : p.cut.message ≡ o.cut.message = apart p.cut o.cut p.was_cut o.was_cut
    (sym its.from ∙ is_part.from) (sym its.boot ∙ is_part.boot) (sym its.number ∙ is_part.number) in
    its.bytes ∙ ap (λ m. get_or (cut m) i []) message_is) in
    (o.cut, o.was_cut, w.is ∙ ap concat same ∙ joined_again o.cut.message)
