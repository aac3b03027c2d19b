-- The results of the searches in accounts are those of the definitions for their sheets.
use Rattle.std.proofs.Common.{◌≡◌, ℕ, zero, suc, ◌<◌, ◌≤◌, List, [], ◌∷◌, ◌++◌, length, take, map, refl, sym, ◌∙◌, ap, subst, inl, inr, Bool, true, false, cond, arith}
use Rattle.std.specs.Prelude.{◌⊎◌, Some, slice_get, fold, nat_lt, ◌==◌, if◌then◌else◌}
use Rattle.std.specs.List.{AllByRecursion}
use Rattle.std.proofs.lemmas.Bool.{eq-eqb}
use Rattle.std.proofs.lemmas.List.{length-map}
use Rattle.std.proofs.lemmas.Option.{none-some, same_Some}
use Rattle.crsm_base.specs.Spelling.{FitsEntry, SpeltEntry, entry_bytes}
use Rattle.crsm_codec.specs.Readers.{OneSpelling}
use Rattle.crsm_spec.specs.Types.{Entry, Rec}
use Rattle.crsm_spec.specs.Lists.{Among, IsPrefixOf}
use Rattle.crsm_spec.specs.Log.{Log}
use Rattle.crsm_spec.specs.Run.{longest}
use Rattle.crsm_fact_log.specs.Logs.{Logged}
use Rattle.crsm_fact_log.proofs.LogsFit.{executed_fits, logged_fits}
use Rattle.crsm_law_sheets.specs.Laws.{IsSound}
use Rattle.crsm_law_sheets.specs.Sheets.{Sheet, last_log, list_of, one_list}
use Rattle.crsm_law_sheets.specs.Verdicts as sheets_are
use Rattle.crsm_law_sheets.specs.Verdicts.{AreInOne, Drops, DropsExecuted, DropsNone, HasNamed, IsLastOf, IsStrange, lines_told}
use Rattle.crsm_audit.specs.Accounts.{AccountStands, AccountsStand, own_logged, own_of, spelt}
use Rattle.crsm_audit.specs.Judging.{AreWithin, IsLast, IsOdd, StrangeAt}
use Rattle.crsm_audit.specs.Lists.{IsWithin, longer, longest_of, place_of, places_of}
use Rattle.crsm_audit.specs.declared.account.Account.{Account}
use Rattle.crsm_audit.specs.declared.place.ExecutedEntry.{ExecutedEntry}
use Rattle.crsm_audit.proofs.Searching.{all_got, inside, mapped, unmapped}

-- ---- accounts and sheets, place by place

-- the sheet of an account
pub sheet_at : (n : ℕ) (accounts : List Account) (sheets : List Sheet) (i : ℕ) (a : Account) → AccountsStand n accounts sheets → slice_get accounts i ≡ Some a
    → (s : Sheet) × (slice_get sheets i ≡ Some s) × AccountStands n a s
sheet_at n [] [] i a h g = absurd (none-some a g)
sheet_at n [] (s ∷ sheets) i a h g = absurd h
sheet_at n (b ∷ accounts) [] i a h g = absurd h
sheet_at n (b ∷ accounts) (s ∷ sheets) zero a h g = (s, refl, subst (λ (z : Account). AccountStands n z s) (same_Some b a g) h.0)
sheet_at n (b ∷ accounts) (s ∷ sheets) (suc i) a h g = sheet_at n accounts sheets i a h.1 g

-- the account of a sheet
pub account_at : (n : ℕ) (accounts : List Account) (sheets : List Sheet) (i : ℕ) (s : Sheet) → AccountsStand n accounts sheets → slice_get sheets i ≡ Some s
    → (a : Account) × (slice_get accounts i ≡ Some a) × AccountStands n a s
account_at n [] [] i s h g = absurd (none-some s g)
account_at n [] (t ∷ sheets) i s h g = absurd h
account_at n (b ∷ accounts) [] i s h g = absurd h
account_at n (b ∷ accounts) (t ∷ sheets) zero s h g = (b, refl, subst (AccountStands n b) (same_Some t s g) h.0)
account_at n (b ∷ accounts) (t ∷ sheets) (suc i) s h g = account_at n accounts sheets i s h.1 g

-- what holds of each of the first sheets
pub all_first : {A : Type 0} (P : A → Type 0) (xs : List A) (i : ℕ) → ((j : ℕ) (x : A) → j < i → slice_get xs j ≡ Some x → P x) → AllByRecursion P (take i xs)
all_first P xs zero h = tt
all_first P [] (suc i) h = tt
all_first P (x ∷ xs) (suc i) h = (h 0 x (omega arith) refl, all_first P xs i (λ j y lt g. h (suc j) y (omega (arith, lt)) g))

pub all_of : {A : Type 0} (P : A → Type 0) (xs : List A) → ((j : ℕ) (x : A) → slice_get xs j ≡ Some x → P x) → AllByRecursion P xs
all_of P [] h = tt
all_of P (x ∷ xs) h = (h 0 x refl, all_of P xs (λ j y g. h (suc j) y g))

-- ---- the one list

-- a longer list is longer as bytes
unfoldable longer_list : List Entry → List Entry → List Entry
longer_list best es = if nat_lt (length best) (length es) then es else best

longest_is : (lists : List (List Entry)) → longest lists ≡ fold longer_list [] lists
unfolding longest longer_list
longest_is lists = refl

longer_spelt : (best es : List Entry) → longer (spelt best) (spelt es) ≡ spelt (longer_list best es)
unfolding longer longer_list
longer_spelt best es =
    ap₂ (λ (a b : ℕ). cond (nat_lt a b) (spelt es) (spelt best)) (length-map best entry_bytes) (length-map es entry_bytes)
    ∙ go (nat_lt (length best) (length es))
  where
    ap₂ : {A B C : Type 0} (f : A → B → C) {a b : A} {x y : B} → a ≡ b → x ≡ y → f a x ≡ f b y
    ap₂ f {a} {b} {x} {y} p q = ap (λ z. f z x) p ∙ ap (f b) q

    go : (c : Bool) → cond c (spelt es) (spelt best) ≡ spelt (cond c es best)
    go true = refl
    go false = refl

folds : (n : ℕ) (accounts : List Account) (sheets : List Sheet) (best : List Entry) → AccountsStand n accounts sheets
    → fold (λ (b : List (List ℕ)) (a : Account). longer b a.entries.list) (spelt best) accounts ≡ spelt (fold longer_list best (map (list_of n) sheets))
folds n [] [] best h = refl
folds n [] (s ∷ sheets) best h = absurd h
folds n (a ∷ accounts) [] best h = absurd h
folds n (a ∷ accounts) (s ∷ sheets) best h =
    ap (λ (z : List (List ℕ)). fold (λ (b : List (List ℕ)) (a : Account). longer b a.entries.list) z accounts) (ap (longer (spelt best)) h.0.list ∙ longer_spelt best (list_of n s))
    ∙ folds n accounts sheets (longer_list best (list_of n s)) h.1

-- the longest list of the accounts is the one list
pub one_spelt : (n : ℕ) (accounts : List Account) (sheets : List Sheet) → AccountsStand n accounts sheets → longest_of accounts ≡ spelt (one_list n sheets)
unfolding longest_of
one_spelt n accounts sheets h = folds n accounts sheets [] h ∙ ap spelt (sym (longest_is (map (list_of n) sheets)))

-- ---- which entries fit

fits_of : (n : ℕ) (s : Sheet) → IsSound n s → AllByRecursion FitsEntry (list_of n s)
fits_of n s sound = executed_fits (last_log n s) sound.spelt

longer_fits : (best es : List Entry) → AllByRecursion FitsEntry best → AllByRecursion FitsEntry es → AllByRecursion FitsEntry (longer_list best es)
unfolding longer_list
longer_fits best es p q = go (nat_lt (length best) (length es))
  where
    go : (c : Bool) → AllByRecursion FitsEntry (cond c es best)
    go true = q
    go false = p

folded_fit : (n : ℕ) (accounts : List Account) (sheets : List Sheet) (best : List Entry) → AccountsStand n accounts sheets → AllByRecursion FitsEntry best
    → AllByRecursion FitsEntry (fold longer_list best (map (list_of n) sheets))
folded_fit n [] [] best h f = f
folded_fit n [] (s ∷ sheets) best h f = absurd h
folded_fit n (a ∷ accounts) [] best h f = absurd h
folded_fit n (a ∷ accounts) (s ∷ sheets) best h f = folded_fit n accounts sheets (longer_list best (list_of n s)) h.1 (longer_fits best (list_of n s) f (fits_of n s h.0.sound))

pub one_fits : (n : ℕ) (accounts : List Account) (sheets : List Sheet) → AccountsStand n accounts sheets → AllByRecursion FitsEntry (one_list n sheets)
one_fits n accounts sheets h = subst (AllByRecursion FitsEntry) (sym (longest_is (map (list_of n) sheets))) (folded_fit n accounts sheets [] h tt)

-- ---- own entries

own_is : (me : ℕ) (rec : Rec) (e : Entry) → Among (own_of me rec) e → rec ≡ Rec.Prepare e
own_is me (Rec.Prepare f) e h = go (f.stamp.origin == me) h
  where
    go : (c : Bool) → Among (cond c (f ∷ []) []) e → Rec.Prepare f ≡ Rec.Prepare e
    go true (inl q) = ap Rec.Prepare q
    go true (inr q) = absurd q
    go false q = absurd q
own_is me (Rec.Boot a b) e h = absurd h
own_is me (Rec.Commit s) e h = absurd h
own_is me (Rec.Adopt p es) e h = absurd h
own_is me (Rec.Suspend x) e h = absurd h
own_is me (Rec.Promise i b) e h = absurd h
own_is me (Rec.Accept i b d) e h = absurd h
own_is me (Rec.Decide d) e h = absurd h
own_is me (Rec.Enter x) e h = absurd h

pub two : {A : Type 0} (xs ys : List A) (a : A) → Among (xs ++ ys) a → Among xs a ⊎ Among ys a
two [] ys a h = inr h
two (x ∷ xs) ys a (inl e) = inl (inl e)
two (x ∷ xs) ys a (inr h) = elim (two xs ys a h) [ inl i ↦ inl (inr i) | inr i ↦ inr i ]

pub left : {A : Type 0} (xs ys : List A) (a : A) → Among xs a → Among (xs ++ ys) a
left [] ys a h = absurd h
left (x ∷ xs) ys a (inl e) = inl e
left (x ∷ xs) ys a (inr h) = inr (left xs ys a h)

pub right : {A : Type 0} (xs ys : List A) (a : A) → Among ys a → Among (xs ++ ys) a
right [] ys a h = h
right (x ∷ xs) ys a h = inr (right xs ys a h)

pub got : {A : Type 0} (xs : List A) (i : ℕ) (a : A) → slice_get xs i ≡ Some a → Among xs a
got [] i a h = absurd (none-some a h)
got (x ∷ xs) zero a h = inl (same_Some x a h)
got (x ∷ xs) (suc i) a h = inr (got xs i a h)

pub placed : {A : Type 0} (xs : List A) (a : A) → Among xs a → (p : ℕ) × (slice_get xs p ≡ Some a)
placed [] a h = absurd h
placed (x ∷ xs) a (inl e) = (0, ap (λ z. Some z) e)
placed (x ∷ xs) a (inr h) = let t = placed xs a h in (suc t.0, t.1)

own_logged_is : (me : ℕ) (log : Log) (e : Entry) → Among (own_logged me log) e → Logged log e
unfolding own_logged
own_logged_is me [] e h = absurd h
own_logged_is me (rec ∷ log) e h = elim (two (own_logged me log) (own_of me rec) e h) [ inl i ↦ inr (own_logged_is me log e i) | inr i ↦ inl (own_is me rec e i) ]

logged_is_own : (log : Log) (e : Entry) → Logged log e → Among (own_logged e.stamp.origin log) e
unfolding own_logged
logged_is_own [] e h = absurd h
logged_is_own (rec ∷ log) e (inr h) = left (own_logged e.stamp.origin log) (own_of e.stamp.origin rec) e (logged_is_own log e h)
logged_is_own (rec ∷ log) e (inl h) =
    right (own_logged e.stamp.origin log) (own_of e.stamp.origin rec) e (subst (λ r. Among (own_of e.stamp.origin r) e) (sym h)
    (subst (λ c. Among (cond c (e ∷ []) []) e) (sym (eq-eqb e.stamp.origin e.stamp.origin refl)) (inl refl)))

-- ---- lists

module _ (law : OneSpelling SpeltEntry) where
  one_entry : (a b : Entry) → FitsEntry a → FitsEntry b → entry_bytes a ≡ entry_bytes b → a ≡ b
  one_entry a b p q e =
      (law a b (entry_bytes a) (entry_bytes b) [] [] (record { fits = p; is = refl }) (record { fits = q; is = refl }) (ap (λ l. l ++ []) e)).0

  within_prefix : (xs ys : List Entry) → AllByRecursion FitsEntry xs → AllByRecursion FitsEntry ys → IsWithin (spelt xs) (spelt ys) → IsPrefixOf xs ys
  within_prefix [] ys f g h = (ys, refl)
  within_prefix (x ∷ xs) [] f g h = absurd (none-some (entry_bytes x) (h 0 (entry_bytes x) refl))
  within_prefix (x ∷ xs) (y ∷ ys) f g h =
      let same : x ≡ y = one_entry x y f.0 g.0 (sym (same_Some (entry_bytes y) (entry_bytes x) (h 0 (entry_bytes x) refl))) in
      let rest = within_prefix xs ys f.1 g.1 (λ q z k. h (suc q) z k) in
      (rest.0, ap (λ l. x ∷ l) rest.1 ∙ ap (λ z. z ∷ ys) same)

  same_prefix : (xs ys : List Entry) (p : ℕ) → AllByRecursion FitsEntry xs → AllByRecursion FitsEntry ys → p ≤ length xs
      → ((q : ℕ) → q < p → slice_get (spelt ys) q ≡ slice_get (spelt xs) q) → take p xs ≡ take p ys
  same_prefix xs ys zero f g le h = refl
  same_prefix [] ys (suc p) f g le h = absurd (omega (arith, le))
  same_prefix (x ∷ xs) [] (suc p) f g le h = absurd (none-some (entry_bytes x) (h 0 (omega arith)))
  same_prefix (x ∷ xs) (y ∷ ys) (suc p) f g le h =
      let same : x ≡ y = one_entry x y f.0 g.0 (sym (same_Some (entry_bytes y) (entry_bytes x) (h 0 (omega arith)))) in
      ap (λ z. z ∷ take p xs) same ∙ ap (λ l. y ∷ l) (same_prefix xs ys p f.1 g.1 (omega (arith, le)) (λ q lt. h (suc q) (omega (arith, lt))))

  module _ (n : ℕ) (accounts : List Account) (sheets : List Sheet) (stand : AccountsStand n accounts sheets) (one : List (List ℕ)) (one_is : one ≡ spelt (one_list n sheets)) where
    in_one : (a : Account) (s : Sheet) → AccountStands n a s → IsWithin a.entries.list one → IsPrefixOf (list_of n s) (one_list n sheets)
    in_one a s h w =
        within_prefix (list_of n s) (one_list n sheets) (fits_of n s h.sound) (one_fits n accounts sheets stand)
        (subst (λ l. IsWithin l (spelt (one_list n sheets))) h.list (subst (IsWithin a.entries.list) one_is w))

    pub odd_sheet : (i p : ℕ) → IsOdd accounts one i p → sheets_are.IsOddList n sheets i p
    odd_sheet i p odd =
        let t = sheet_at n accounts sheets i odd.account stand odd.there in
        let d = odd.differs in
        let e = unmapped entry_bytes (list_of n t.0) p d.element (subst (λ l. slice_get l p ≡ Some d.element) t.2.list d.there) in
        let lt = inside (list_of n t.0) p e.0 e.1 in (
          t.0,
          t.1,
          (
            e.0,
            e.1,
            (λ h. d.not_there (subst (λ l. slice_get l p ≡ Some d.element) (sym one_is) (mapped entry_bytes (one_list n sheets) p e.0 h ∙ ap (λ z. Some z) e.2))),
            same_prefix (list_of n t.0) (one_list n sheets) p (fits_of n t.0 t.2.sound) (one_fits n accounts sheets stand) (omega (arith, lt))
                (λ q less. subst (λ l. slice_get l q ≡ slice_get (spelt (list_of n t.0)) q) one_is (subst (λ l. slice_get one q ≡ slice_get l q) t.2.list (d.same q less))),
          ),
          all_first (λ s. IsPrefixOf (list_of n s) (one_list n sheets)) sheets i (λ j s less there.
              let a = account_at n accounts sheets j s stand there in in_one a.0 s a.2 (odd.before j a.0 less a.1)),
        )

    pub all_in_one : AreWithin accounts one → AreInOne n sheets sheets
    all_in_one within = all_of (λ s. IsPrefixOf (list_of n s) (one_list n sheets)) sheets (λ j s there.
        let a = account_at n accounts sheets j s stand there in in_one a.0 s a.2 (within j a.0 a.1))

    -- ---- strangers

    module _ (places : List ExecutedEntry) (places_are : places ≡ places_of (one_list n sheets)) where
      last_sheet : (k : ℕ) (l : (i : ℕ) × IsLast accounts k i) → (s : Sheet) × AccountStands n l.1.account s × IsLastOf n sheets k s
      last_sheet k (i, l) =
          let t = sheet_at n accounts sheets i l.account stand l.there in (
            t.0,
            t.2,
            record {
              i = i;
              there = t.1;
              me = sym t.2.me ∙ l.me;
              last = λ j s less there e. (let a = account_at n accounts sheets j s stand there in l.last j a.0 less a.1 (a.2.me ∙ e));
            },
          )

      pub strange_there : (p : ℕ) → StrangeAt accounts one places p → IsStrange n sheets p
      strange_there p s =
          let e = unmapped place_of (one_list n sheets) p s.place (subst (λ l. slice_get l p ≡ Some s.place) places_are s.named) in
          let origin : s.place.stamp.origin ≡ e.0.stamp.origin = ap (λ (z : ExecutedEntry). z.stamp.origin) (sym e.2) in
          let never = s.never in
          let bytes : entry_bytes e.0 ≡ never.bytes = same_Some (entry_bytes e.0) never.bytes (sym (mapped entry_bytes (one_list n sheets) p e.0 e.1) ∙ subst (λ l. slice_get l p ≡ Some never.bytes) one_is never.there) in
          let t = last_sheet s.place.stamp.origin (never.never.i, never.never.last) in (
            e.0,
            e.1,
            t.0,
            subst (λ k. IsLastOf n sheets k t.0) origin t.2,
            λ logged.
                let me : e.0.stamp.origin ≡ t.0.me = sym origin ∙ sym t.2.me in
                let held = placed (own_logged t.0.me (last_log n t.0)) e.0 (subst (λ k. Among (own_logged k (last_log n t.0)) e.0) me (logged_is_own (last_log n t.0) e.0 logged)) in
                never.never.never held.0 (subst (λ l. slice_get l held.0 ≡ Some never.bytes) (sym t.1.held) (mapped entry_bytes (own_logged t.0.me (last_log n t.0)) held.0 e.0 held.1 ∙ ap (λ z. Some z) bytes)),
          )

      pub strange_here : (p : ℕ) → IsStrange n sheets p → StrangeAt accounts one places p
      strange_here p (e, at, s, l, none) =
          let a = account_at n accounts sheets l.i s stand l.there in
          let sound = a.2.sound in
          record {
            place = place_of e;
            named = subst (λ z. slice_get z p ≡ Some (place_of e)) (sym places_are) (mapped place_of (one_list n sheets) p e at);
            never = record {
              bytes = entry_bytes e;
              there = subst (λ z. slice_get z p ≡ Some (entry_bytes e)) (sym one_is) (mapped entry_bytes (one_list n sheets) p e at);
              never = record {
                i = l.i;
                last = record {
                  account = a.0;
                  there = a.1;
                  me = a.2.me ∙ l.me;
                  last = λ j b less there me. (let t = sheet_at n accounts sheets j b stand there in l.last j t.0 less t.1 (sym t.2.me ∙ me));
                };
                never = λ q h.
                    let f = unmapped entry_bytes (own_logged s.me (last_log n s)) q (entry_bytes e) (subst (λ z. slice_get z q ≡ Some (entry_bytes e)) a.2.held h) in
                    let logged = own_logged_is s.me (last_log n s) f.0 (got (own_logged s.me (last_log n s)) q f.0 f.1) in
                    let same = one_entry f.0 e (logged_fits (last_log n s) f.0 sound.spelt logged) (all_got FitsEntry (one_list n sheets) p e (one_fits n accounts sheets stand) at) f.2 in
                    none (subst (Logged (last_log n s)) same logged);
              };
            };
          }
