-- Places in lists, and that lines stay right when a run is extended.
use Rattle.std.proofs.Common.{zero, suc, ◌≡◌, ℕ, ◌+◌, ◌<◌, ◌≤◌, ◌⊎◌, List, [], ◌∷◌, ◌++◌, map, length, arith, inl, inr, refl, sym, subst, ap, Some, None}
use Rattle.std.specs.List.{Contains, slice_get, flat_map, enumerate_from, range_with_len}
use Rattle.std.proofs.lemmas.List.Elements.{Contains-append_left, Contains-append_right}
use Rattle.crsm_mpspec.specs.declared.MpLine.{MpLine}
use Rattle.crsm_mpspec.specs.Types.{Command, Answer, Value}
use Rattle.crsm_mpspec.specs.World.{World}
use Rattle.crsm_mpspec.specs.Run.{TraceLine}
use Rattle.crsm_mpspec.specs.Safe.{IsSubmitAt, WasSubmitted}
use Rattle.crsm_law_mp.proofs.Lists.{cons_cases, first_in, later_in, none_in}
use Rattle.crsm_law_mp.specs.Kept.{IsList, IsAnswered, IsEarlier, IsRightLine}

pub none_some : {X : Type 0} (x : X) → None ≡ Some x → ⊥
none_some x e = cc

module _ {A : Type 0} where
  pub get_left : (xs ys : List A) (i : ℕ) (x : A) → slice_get xs i ≡ Some x → slice_get (xs ++ ys) i ≡ Some x
  get_left [] ys i x e = absurd (none_some x e)
  get_left (z ∷ xs) ys zero x e = e
  get_left (z ∷ xs) ys (suc i) x e = get_left xs ys i x e

  pub get_right : (xs ys : List A) (i : ℕ) (x : A) → slice_get ys i ≡ Some x → slice_get (xs ++ ys) (length xs + i) ≡ Some x
  get_right [] ys i x e = let same : i ≡ 0 + i = omega arith in subst (λ j. slice_get ys j ≡ Some x) same e
  get_right (z ∷ xs) ys i x e = let same : suc (length xs + i) ≡ suc (length xs) + i = omega arith in subst (λ j. slice_get (z ∷ xs ++ ys) j ≡ Some x) same (get_right xs ys i x e)

  pub get_cases : (xs ys : List A) (i : ℕ) (x : A) → slice_get (xs ++ ys) i ≡ Some x → (slice_get xs i ≡ Some x) ⊎ ((j : ℕ) × (i ≡ length xs + j) × (slice_get ys j ≡ Some x))
  get_cases [] ys i x e = inr (i, omega arith, e)
  get_cases (z ∷ xs) ys zero x e = inl e
  get_cases (z ∷ xs) ys (suc i) x e = elim (get_cases xs ys i x e) [ inl here ↦ inl here | inr later ↦ inr (later.0, (let h = later.1 in omega arith), later.2) ]

  pub place_of : (xs : List A) (x : A) → Contains xs x → (i : ℕ) × (i < length xs) × (slice_get xs i ≡ Some x)
  place_of [] x c = absurd (none_in x c)
  place_of (z ∷ xs) x c =
      elim (cons_cases z xs x c) [
        | inl is ↦ (0, omega arith, ap (λ y. Some y) is)
        | inr rest ↦ let (i, less, e) = place_of xs x rest in (suc i, omega arith, e)
      ]

  pub get_within : (xs : List A) (i : ℕ) (x : A) → slice_get xs i ≡ Some x → i < length xs
  get_within [] i x e = absurd (none_some x e)
  get_within (z ∷ xs) zero x e = omega arith
  get_within (z ∷ xs) (suc i) x e = let h = get_within xs i x e in omega arith

pub get_map : {A B : Type 0} (f : A → B) (xs : List A) (i : ℕ) (y : B) → slice_get (map f xs) i ≡ Some y → (x : A) × (slice_get xs i ≡ Some x) × (f x ≡ y)
get_map f [] i y e = absurd (none_some y e)
get_map f (x ∷ xs) zero y e = (x, refl, (let s : f x ≡ y = cc in s))
get_map f (x ∷ xs) (suc i) y e = get_map f xs i y e

pub map_get : {A B : Type 0} (f : A → B) (xs : List A) (i : ℕ) (x : A) → slice_get xs i ≡ Some x → slice_get (map f xs) i ≡ Some (f x)
map_get f [] i x e = absurd (none_some x e)
map_get f (y ∷ xs) zero x e = let same : y ≡ x = cc in ap (λ z. Some (f z)) same
map_get f (y ∷ xs) (suc i) x e = map_get f xs i x e

pub in_enumerated : {A : Type 0} (k : ℕ) (xs : List A) (i : ℕ) (x : A) → slice_get xs i ≡ Some x → Contains (enumerate_from k xs) (k + i, x)
in_enumerated k [] i x e = absurd (none_some x e)
in_enumerated k (y ∷ xs) zero x e =
    let same : y ≡ x = cc in let at : k ≡ k + 0 = omega arith in
    subst (λ j. Contains ((k, y) ∷ enumerate_from (k + 1) xs) (j, x)) at (subst (λ z. Contains ((k, y) ∷ enumerate_from (k + 1) xs) (k, z)) same (first_in (k, y) (enumerate_from (k + 1) xs)))
in_enumerated k (y ∷ xs) (suc i) x e =
    let at : (k + 1) + i ≡ k + suc i = omega arith in
    subst (λ j. Contains ((k, y) ∷ enumerate_from (k + 1) xs) (j, x)) at (later_in (k, y) (enumerate_from (k + 1) xs) ((k + 1) + i, x) (in_enumerated (k + 1) xs i x e))

pub in_flat : {A B : Type 0} (f : A → List B) (xs : List A) (x : A) (y : B) → Contains xs x → Contains (f x) y → Contains (flat_map f xs) y
in_flat f [] x y c d = absurd (none_in x c)
in_flat f (z ∷ xs) x y c d =
    elim (cons_cases z xs x c) [
      | inl is ↦ Contains-append_left (f z) (flat_map f xs) y (subst (λ w. Contains (f w) y) (sym is) d)
      | inr rest ↦ Contains-append_right (f z) (flat_map f xs) y (in_flat f xs x y rest d)
    ]

pub get_range : (len a i j : ℕ) → slice_get (range_with_len a len) i ≡ Some j → j ≡ a + i
get_range zero a i j e = absurd (none_some j e)
get_range (suc len) a zero j e = let same : a ≡ j = cc in omega arith
get_range (suc len) a (suc i) j e = let h = get_range len (a + 1) i j e in omega arith

-- ---- a run goes on

module _ (lines more : List TraceLine) where
  pub submit_more : (i k slot : ℕ) (c : Command) → IsSubmitAt lines i k slot c → IsSubmitAt (lines ++ more) i k slot c
  submit_more i k slot c s = (s.0, s.1, s.2, s.3, get_left lines more i _ s.4)

  pub was_more : (i j k slot client number : ℕ) (c : Command) → i ≤ j → WasSubmitted lines i k slot client number c → WasSubmitted (lines ++ more) j k slot client number c
  was_more i j k slot client number c less s = record {
    line = s.line;
    before = let b = s.before in omega arith;
    submitted = submit_more s.line k slot c s.submitted;
    of_client = s.of_client;
    of_number = s.of_number;
  }

  pub earlier_more : (i j : ℕ) (c : Command) → i ≤ j → IsEarlier lines i c → IsEarlier (lines ++ more) j c
  earlier_more i j c less e = record {
    line = e.line;
    before = let b = e.before in omega arith;
    replica = e.replica;
    slot = e.slot;
    submitted = submit_more e.line e.replica e.slot c e.submitted;
  }

  module _ (worlds later : List World) where
    pub list_more : (es : List Value) → IsList worlds es → IsList (worlds ++ later) es
    list_more es l = record { world = l.world; of = Contains-append_left worlds later l.world l.of; replica = l.replica; below = l.below; is = l.is }

    answered_more : (slot client number : ℕ) (a : Answer) → IsAnswered worlds slot client number a → IsAnswered (worlds ++ later) slot client number a
    answered_more slot client number a r = record {
      es = r.es;
      list = list_more r.es r.list;
      command = r.command;
      at = r.at;
      answer = r.answer;
      of_client = r.of_client;
      of_number = r.of_number;
    }

    pub right_more : (i : ℕ) (line : MpLine) → IsRightLine lines worlds i line → IsRightLine (lines ++ more) (worlds ++ later) i line
    unfolding answered_more
    right_more i (MpLine.Exec k slot client number a) r = answered_more slot client number a r
    right_more i (MpLine.ExecNoop k slot) r = (r.0, list_more r.0 r.1, r.2)
    right_more i (MpLine.ReplyOk k client number slot a) r = record {
      answered = answered_more slot client number a r.answered;
      submitted = was_more i i k slot client number r.answered.command (omega arith) r.submitted;
      earlier = λ q d low is. earlier_more i i d (omega arith) (r.earlier q d low is);
    }
    right_more i (MpLine.ReplyDropped k client number slot) r = record {
      es = r.es;
      list = list_more r.es r.list;
      command = r.command;
      value = r.value;
      at = r.at;
      other = r.other;
      submitted = was_more i i k slot client number r.command (omega arith) r.submitted;
    }
    right_more i (MpLine.Boot k count) r = tt
    right_more i (MpLine.Submit k slot round by client number) r = tt
    right_more i (MpLine.Accept k slot round by) r = tt
    right_more i (MpLine.Promise k round by) r = tt
    right_more i (MpLine.Choose k slot) r = tt
    right_more i (MpLine.Send j from to kind) r = tt
    right_more i (MpLine.ReplyNo k client number code) r = tt
    right_more i (MpLine.Down k) r = tt
    right_more i (MpLine.Final k up count) r = tt
