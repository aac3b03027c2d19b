-- Commands reported as dropped, and the lines of these reports.
use Rattle.std.proofs.Common.{◌≡◌, ℕ, zero, suc, ◌+◌, ◌≤◌, List, [], ◌∷◌, ◌++◌, refl, sym, ◌∙◌, ap, subst, inl, inr, arith}
use Rattle.std.specs.Prelude.{Some, slice_get}
use Rattle.std.specs.List.{AllByRecursion}
use Rattle.std.proofs.lemmas.Bool.{cases_lt}
use Rattle.std.proofs.lemmas.Option.{none-some, same_Some}
use Rattle.crsm_spec.specs.Types.{Stamp, Line}
use Rattle.crsm_spec.specs.Lists.{Among}
use Rattle.crsm_spec.specs.Draft.{Draft}
use Rattle.crsm_law_sheets.specs.Laws.{EntriesStandInOrder, IsSound, OneListRises}
use Rattle.crsm_law_sheets.specs.Sheets.{Sheet, one_list, steps_of}
use Rattle.crsm_law_sheets.specs.Verdicts as sheets_are
use Rattle.crsm_law_sheets.specs.Verdicts.{Drops, DropsExecuted, DropsNone, HasNamed, lines_told}
use Rattle.crsm_audit.specs.Accounts.{AccountStands, AccountsStand, dropped_from, dropped_in, dropped_of}
use Rattle.crsm_audit.specs.Judging.{IsFirstDropped, IsNamed, NoneDropped, NoneNamed}
use Rattle.crsm_audit.specs.Lists.{IsAscending, IsBeforeName, place_of, places_of}
use Rattle.crsm_audit.specs.declared.account.Account.{Account}
use Rattle.crsm_audit.specs.declared.place.Dropped.{Dropped}
use Rattle.crsm_audit.specs.declared.place.ExecutedEntry.{ExecutedEntry}
use Rattle.crsm_fact_log.proofs.Lists.{all_at, all_from}
use Rattle.crsm_audit.proofs.Searching.{mapped, unmapped}
use Rattle.crsm_audit.proofs.Verdicts.{account_at, all_first, all_of, got, left, placed, right, sheet_at, two}

-- ---- lines

-- the line that calls a command dropped
record IsToldBy (at : ℕ) (lines : List Line) (d : Dropped) : Type 0 where
  at_is : d.line ≡ at
  replica : ℕ
  client : ℕ
  number : ℕ
  told : Among lines (Line.ReplyDropped replica client number d.epoch d.stamp)

one_told : (at : ℕ) (l : Line) (d : Dropped) → Among (dropped_of at l) d → IsToldBy at (l ∷ []) d
one_told at (Line.ReplyDropped k c m x s) d (inl e) =
    subst (IsToldBy at (Line.ReplyDropped k c m x s ∷ [])) e (record { at_is = refl; replica = k; client = c; number = m; told = inl refl })
one_told at (Line.ReplyDropped k c m x s) d (inr h) = absurd h
one_told at (Line.Boot a b) d h = absurd h
one_told at (Line.Submit a b c e f) d h = absurd h
one_told at (Line.Log a b c) d h = absurd h
one_told at (Line.Exec a b c e f g i) d h = absurd h
one_told at (Line.Suspend a b) d h = absurd h
one_told at (Line.Promise a b c e) d h = absurd h
one_told at (Line.Accept a b c e) d h = absurd h
one_told at (Line.Decide a b c e f) d h = absurd h
one_told at (Line.Enter a b) d h = absurd h
one_told at (Line.TooMany a b c e) d h = absurd h
one_told at (Line.Send a b c e f) d h = absurd h
one_told at (Line.ReplyOk a b c e f) d h = absurd h
one_told at (Line.ReplyNo a b c e) d h = absurd h
one_told at (Line.Down a) d h = absurd h
one_told at (Line.Final a b c e) d h = absurd h
one_told at (Line.Out a b) d h = absurd h
one_told at (Line.Back a b) d h = absurd h

told_by : (at : ℕ) (lines : List Line) (d : Dropped) → Among (dropped_in at lines) d → IsToldBy at lines d
told_by at [] d h = absurd h
told_by at (l ∷ lines) d h = elim (two (dropped_of at l) (dropped_in at lines) d h) [
  | inl i ↦ (let t = one_told at l d i in record { at_is = t.at_is; replica = t.replica; client = t.client; number = t.number; told = left (l ∷ []) lines _ t.told })
  | inr i ↦ (let t = told_by at lines d i in record { at_is = t.at_is; replica = t.replica; client = t.client; number = t.number; told = inr t.told })
]

abbrev name_of : ℕ → ℕ → Stamp → Dropped
name_of at epoch stamp = record { line = at; epoch = epoch; stamp = stamp }

is_noted : (at : ℕ) (lines : List Line) (k c m epoch : ℕ) (stamp : Stamp) → Among lines (Line.ReplyDropped k c m epoch stamp) → Among (dropped_in at lines) (name_of at epoch stamp)
is_noted at [] k c m epoch stamp h = absurd h
is_noted at (l ∷ lines) k c m epoch stamp (inl e) = left (dropped_of at l) (dropped_in at lines) (name_of at epoch stamp) (subst (λ z. Among (dropped_of at z) (name_of at epoch stamp)) (sym e) (inl refl))
is_noted at (l ∷ lines) k c m epoch stamp (inr h) = right (dropped_of at l) (dropped_in at lines) (name_of at epoch stamp) (is_noted at lines k c m epoch stamp h)

-- ---- steps

record IsToldAt (at : ℕ) (steps : List Draft) (d : Dropped) : Type 0 where
  i : ℕ
  step : Draft
  there : slice_get steps i ≡ Some step
  told : IsToldBy (at + i) (lines_told step) d

told_at : (at : ℕ) (steps : List Draft) (d : Dropped) → Among (dropped_from at steps) d → IsToldAt at steps d
unfolding dropped_from
told_at at [] d h = absurd h
told_at at (x ∷ steps) d h = elim (two (dropped_in at (lines_told x)) (dropped_from (at + 1) steps) d h) [
  | inl i ↦ (let same : at ≡ at + 0 = omega arith in record { i = 0; step = x; there = refl; told = subst (λ z. IsToldBy z (lines_told x) d) same (told_by at (lines_told x) d i) })
  | inr i ↦ (let t = told_at (at + 1) steps d i in
      let same : at + 1 + t.i ≡ at + suc t.i = omega arith in
      record { i = suc t.i; step = t.step; there = t.there; told = subst (λ z. IsToldBy z (lines_told t.step) d) same t.told })
]

noted_at : (at : ℕ) (steps : List Draft) (i : ℕ) (x : Draft) (k c m epoch : ℕ) (stamp : Stamp) → slice_get steps i ≡ Some x → Among (lines_told x) (Line.ReplyDropped k c m epoch stamp)
    → Among (dropped_from at steps) (name_of (at + i) epoch stamp)
unfolding dropped_from
noted_at at [] i x k c m epoch stamp g h = absurd (none-some x g)
noted_at at (y ∷ steps) zero x k c m epoch stamp g h =
    let same : at ≡ at + 0 = omega arith in
    left (dropped_in at (lines_told y)) (dropped_from (at + 1) steps) (name_of (at + 0) epoch stamp)
    (subst (λ z. Among (dropped_in at (lines_told y)) (name_of z epoch stamp)) same
    (is_noted at (lines_told y) k c m epoch stamp (subst (λ (z : Draft). Among (lines_told z) (Line.ReplyDropped k c m epoch stamp)) (sym (same_Some y x g)) h)))
noted_at at (y ∷ steps) (suc i) x k c m epoch stamp g h =
    let same : at + 1 + i ≡ at + suc i = omega arith in
    right (dropped_in at (lines_told y)) (dropped_from (at + 1) steps) (name_of (at + suc i) epoch stamp)
    (subst (λ z. Among (dropped_from (at + 1) steps) (name_of z epoch stamp)) same (noted_at (at + 1) steps i x k c m epoch stamp g h))

-- ---- their order

-- no later one is of an earlier line
abbrev Ascends : List Dropped → Type 0
Ascends [] = Unit {0}
Ascends (d ∷ ds) = AllByRecursion (λ e. d.line ≤ e.line) ds × Ascends ds

append_ascends : (at : ℕ) (xs ys : List Dropped) → ((d : Dropped) → Among xs d → d.line ≡ at) → ((d : Dropped) → Among ys d → at ≤ d.line) → Ascends ys → Ascends (xs ++ ys)
append_ascends at [] ys f g h = h
append_ascends at (x ∷ xs) ys f g h = (
  all_from (λ e. x.line ≤ e.line) (xs ++ ys) (λ e m. elim (two xs ys e m) [
    | inl a ↦ (let p = f x (inl refl) in let q = f e (inr a) in omega (arith, p, q))
    | inr b ↦ (let p = f x (inl refl) in let q = g e b in omega (arith, p, q))
  ]),
  append_ascends at xs ys (λ d m. f d (inr m)) g h,
)

steps_ascend : (at : ℕ) (steps : List Draft) → Ascends (dropped_from at steps)
unfolding dropped_from
steps_ascend at [] = tt
steps_ascend at (x ∷ steps) =
    append_ascends at (dropped_in at (lines_told x)) (dropped_from (at + 1) steps) (λ d m. (told_by at (lines_told x) d m).at_is)
    (λ d m. let t = told_at (at + 1) steps d m in let is = t.told.at_is in omega (arith, is)) (steps_ascend (at + 1) steps)

ascends_at : (ds : List Dropped) (k q : ℕ) (d e : Dropped) → Ascends ds → slice_get ds k ≡ Some d → slice_get ds q ≡ Some e → k ≤ q → d.line ≤ e.line
ascends_at [] k q d e h g i le = absurd (none-some d g)
ascends_at (x ∷ ds) zero zero d e h g i le = let is = ap (λ (z : Dropped). z.line) (sym (same_Some x d g) ∙ same_Some x e i) in omega (arith, is)
ascends_at (x ∷ ds) zero (suc q) d e h g i le =
    let p = all_at (λ z. x.line ≤ z.line) ds e h.0 (got ds q e i) in let is = ap (λ (z : Dropped). z.line) (same_Some x d g) in omega (arith, p, is)
ascends_at (x ∷ ds) (suc k) zero d e h g i le = absurd (omega (arith, le))
ascends_at (x ∷ ds) (suc k) (suc q) d e h g i le = ascends_at ds k q d e h.1 g i (omega (arith, le))

-- ---- sheets

module _ (n : ℕ) (accounts : List Account) (sheets : List Sheet) (stand : AccountsStand n accounts sheets) (places : List ExecutedEntry) (places_are : places ≡ places_of (one_list n sheets)) where
  named_there : (d : Dropped) → IsNamed places d → HasNamed (one_list n sheets) d.epoch d.stamp
  named_there d h =
      let e = unmapped place_of (one_list n sheets) h.p h.place (subst (λ l. slice_get l h.p ≡ Some h.place) places_are h.there) in
      (h.p, e.0, e.1, ap (λ (z : ExecutedEntry). z.epoch) e.2 ∙ h.epoch, ap (λ (z : ExecutedEntry). z.stamp) e.2 ∙ h.stamp)

  named_here : (d : Dropped) → HasNamed (one_list n sheets) d.epoch d.stamp → IsNamed places d
  named_here d (p, e, at, epoch, stamp) = record {
    p = p;
    place = place_of e;
    there = subst (λ l. slice_get l p ≡ Some (place_of e)) (sym places_are) (mapped place_of (one_list n sheets) p e at);
    epoch = epoch;
    stamp = stamp;
  }

  -- what an account has is what its sheet says
  drops_there : (a : Account) (s : Sheet) → AccountStands n a s → (k : ℕ) (d : Dropped) → slice_get a.dropped.items k ≡ Some d → IsNamed places d → DropsExecuted n sheets s d.line
  drops_there a s h k d at named =
      let t = told_at s.opened (steps_of n s) d (got (dropped_from s.opened (steps_of n s)) k d (subst (λ l. slice_get l k ≡ Some d) h.dropped at)) in (
        d.epoch,
        d.stamp,
        record { i = t.i; step = t.step; there = t.there; line_is = t.told.at_is; replica = t.told.replica; client = t.told.client; number = t.told.number; told = t.told.told },
        named_there d named,
      )

  record IsHere (a : Account) (line : ℕ) : Type 0 where
    k : ℕ
    name : Dropped
    there : slice_get a.dropped.items k ≡ Some name
    line_is : name.line ≡ line
    named : IsNamed places name

  drops_here : (a : Account) (s : Sheet) → AccountStands n a s → (line : ℕ) → DropsExecuted n sheets s line → IsHere a line
  drops_here a s h line (epoch, stamp, d, named) =
      let noted = noted_at s.opened (steps_of n s) d.i d.step d.replica d.client d.number epoch stamp d.there d.told in
      let p = placed (dropped_from s.opened (steps_of n s)) (name_of (s.opened + d.i) epoch stamp) noted in
      record {
        k = p.0;
        name = name_of (s.opened + d.i) epoch stamp;
        there = subst (λ l. slice_get l p.0 ≡ Some (name_of (s.opened + d.i) epoch stamp)) (sym h.dropped) p.1;
        line_is = sym d.line_is;
        named = named_here (name_of (s.opened + d.i) epoch stamp) named;
      }

  none_of : (a : Account) (s : Sheet) → AccountStands n a s → NoneNamed places a.dropped.items → DropsNone n sheets s
  none_of a s h none line drops = let t = drops_here a s h line drops in none t.k t.name t.there t.named

  pub none_dropped : NoneDropped accounts places → sheets_are.NoneDropped n sheets
  none_dropped none = all_of (DropsNone n sheets) sheets (λ j s there. let a = account_at n accounts sheets j s stand there in none_of a.0 s a.2 (none j a.0 a.1))

  pub first_dropped : (i line : ℕ) → IsFirstDropped accounts places i line → sheets_are.IsDropped n sheets i line
  first_dropped i line f =
      let t = sheet_at n accounts sheets i f.account stand f.there in
      let first = f.first in (
        t.0,
        t.1,
        subst (DropsExecuted n sheets t.0) (sym first.line_is) (drops_there f.account t.0 t.2 first.k first.name first.there first.named),
        all_first (DropsNone n sheets) sheets i (λ j s less there. let a = account_at n accounts sheets j s stand there in none_of a.0 s a.2 (f.before j a.0 less a.1)),
        λ other less drops.
            let h = drops_here f.account t.0 t.2 other drops in
            let ascends = subst Ascends (sym t.2.dropped) (steps_ascend t.0.opened (steps_of n t.0)) in
            elim (cases_lt h.k first.k) [
              | inl before ↦ first.before h.k h.name before h.there h.named
              | inr ge ↦ (let le = ascends_at f.account.dropped.items first.k h.k first.name h.name ascends first.there h.there ge in
                  let line_is = first.line_is in
                  let other_is = h.line_is in
                  absurd (omega (arith, le, line_is, other_is, less)))
            ],
      )

-- ---- the order of names

all_sound : (n : ℕ) (accounts : List Account) (sheets : List Sheet) → AccountsStand n accounts sheets → AllByRecursion (IsSound n) sheets
all_sound n [] [] h = tt
all_sound n [] (s ∷ sheets) h = absurd h
all_sound n (a ∷ accounts) [] h = absurd h
all_sound n (a ∷ accounts) (s ∷ sheets) h = (h.0.sound, all_sound n accounts sheets h.1)

-- the names of the one list ascend
pub names_ascend : OneListRises → EntriesStandInOrder → (n : ℕ) (accounts : List Account) (sheets : List Sheet) → AccountsStand n accounts sheets → (names : List ExecutedEntry)
    → names ≡ places_of (one_list n sheets) → IsAscending names
names_ascend rises order n accounts sheets stand names are = λ p q a b at_p at_q less.
    let e = unmapped place_of (one_list n sheets) p a (subst (λ l. slice_get l p ≡ Some a) are at_p) in
    let f = unmapped place_of (one_list n sheets) q b (subst (λ l. slice_get l q ≡ Some b) are at_q) in
    let before = order (one_list n sheets) p q e.0 f.0 (rises n sheets (all_sound n accounts sheets stand)) e.1 f.1 less in
    subst (λ (z : ExecutedEntry). IsBeforeName z.epoch z.stamp a.epoch a.stamp) f.2 (subst (λ (z : ExecutedEntry). IsBeforeName f.0.epoch f.0.stamp z.epoch z.stamp) e.2 before)
