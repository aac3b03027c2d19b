-- Bodies that are put one after another, and what a crash leaves of them.
use Rattle.std.proofs.Common.{◌≡◌, inl, inr, ⊎_elim, ℕ, List, [], ◌∷◌, ◌++◌, refl, sym, ◌∙◌, ap, subst, arith, append_assoc}
use Rattle.std.proofs.lemmas.List.{append-nil}
use Rattle.crsm_disk.specs.Meaning.{LeavesOnly, Meaning, Only, Same}
use Rattle.crsm_log.specs.Format.{bodies_in, bodies_of, found, reading}
use Rattle.crsm_spec.specs.Lists.{IsPrefixOf}
use Rattle.crsm_shell.specs.Flushing.{Adds, IsFull, IsLeft}
use Rattle.crsm_node.specs.Kept.{HasBehind, HasBehindOrMore, IsLeftOf, PutInTurn, body_if_some}

-- ---- the bodies

pub put_more : (bodies : List (List ℕ)) (body a b c : List ℕ) → PutInTurn bodies a b → Adds body b c → (IsFull b body → ⊥) → PutInTurn (bodies ++ body_if_some body) a c
unfolding PutInTurn
put_more [] [] a b c put adds fits = adds ∙ put
put_more [] (x ∷ body) a b c put adds fits =
    let P : List ℕ → Type 0 = λ f. (reading c ≡ found (bodies_of f ++ (x ∷ body) ∷ [])) × (IsFull f (x ∷ body) → ⊥) in
    let h = subst P put (adds, fits) in
    (c, h.0, h.1, refl)
put_more (first ∷ bodies) body a b c put adds fits = (put.0, put.1, put.2, put_more bodies body put.0 b c put.3 adds fits)

-- the bodies of a file that is read so
bodies_read : (file : List ℕ) (bodies : List (List ℕ)) → reading file ≡ found bodies → bodies_of file ≡ bodies
bodies_read file bodies is = ap bodies_in is

pub has_more : (before : List ℕ) (bodies : List (List ℕ)) (body b c : List ℕ) → HasBehind before bodies b → Adds body b c → HasBehind before (bodies ++ body_if_some body) c
has_more before bodies [] b c has adds =
    ap reading adds ∙ has ∙ ap (λ (xs : List (List ℕ)). found (bodies_of before ++ xs)) (sym (append-nil bodies))
has_more before bodies (x ∷ body) b c has adds =
    adds ∙ ap (λ (xs : List (List ℕ)). found (xs ++ (x ∷ body) ∷ [])) (bodies_read b (bodies_of before ++ bodies) has)
    ∙ ap found (append_assoc (bodies_of before) bodies ((x ∷ body) ∷ []))

-- ---- what a crash leaves

-- a prefix of bodies is one of more bodies
prefix_longer : (xs bodies more : List (List ℕ)) → IsPrefixOf xs bodies → IsPrefixOf xs (bodies ++ more)
prefix_longer xs bodies more h = (h.0 ++ more, sym (append_assoc xs h.0 more) ∙ ap (λ (ys : List (List ℕ)). ys ++ more) h.1)

left_longer : (before : List ℕ) (bodies more : List (List ℕ)) (file : List ℕ) → IsLeftOf before bodies file → IsLeftOf before (bodies ++ more) file
left_longer before bodies more file h = record { prefix = h.prefix; of = prefix_longer h.prefix bodies more h.of; has = h.has }

-- a file that a flush leaves
left_by_flush : (before : List ℕ) (bodies : List (List ℕ)) (body b file : List ℕ) → HasBehind before bodies b → IsLeft (bodies_of b) body file → IsLeftOf before (bodies ++ body_if_some body) file
left_by_flush before bodies body b file has (inl without) = record {
  prefix = bodies;
  of = (body_if_some body, refl);
  has = without ∙ ap found (bodies_read b (bodies_of before ++ bodies) has);
}
left_by_flush before bodies [] b file has (inr h) = absurd (omega (arith, h.0))
left_by_flush before bodies (x ∷ body) b file has (inr h) = record {
  prefix = bodies ++ (x ∷ body) ∷ [];
  of = ([], append-nil (bodies ++ (x ∷ body) ∷ []));
  has = h.1 ∙ ap (λ (xs : List (List ℕ)). found (xs ++ (x ∷ body) ∷ [])) (bodies_read b (bodies_of before ++ bodies) has)
      ∙ ap found (append_assoc (bodies_of before) bodies ((x ∷ body) ∷ []));
}

-- all bodies of before are synced, and that of the flush may be
pub synced_by_flush : (before : List ℕ) (bodies : List (List ℕ)) (body b file : List ℕ) → HasBehind before bodies b → IsLeft (bodies_of b) body file → HasBehindOrMore before bodies body file
synced_by_flush before bodies body b file has (inl without) = inl (without ∙ ap found (bodies_read b (bodies_of before ++ bodies) has))
synced_by_flush before bodies body b file has (inr h) = inr (
  h.0,
  h.1 ∙ ap (λ (xs : List (List ℕ)). found (xs ++ body ∷ [])) (bodies_read b (bodies_of before ++ bodies) has) ∙ ap found (append_assoc (bodies_of before) bodies (body ∷ [])),
)

-- what a crash leaves where the last bytes are synced
pub synced_now : (before : List ℕ) (bodies : List (List ℕ)) (file : List ℕ) (left : List ℕ → Type 0) → HasBehind before bodies file → Only file left → (c : List ℕ) → left c → HasBehind before bodies c
synced_now before bodies file left has only c is = ap reading (only c is) ∙ has

-- ---- runs of a disk

-- a run behind a run
pub runs_on : (old mid new : Meaning) (P Q R : List ℕ → Type 0) → LeavesOnly old mid P → LeavesOnly mid new Q → ((c : List ℕ) → P c → R c) → ((c : List ℕ) → Q c → R c) → LeavesOnly old new R
runs_on old mid new P Q R first second from_first from_second = record {
  later = omega (arith, first.later, second.later);
  each = λ c left. ⊎_elim (λ was. from_first c (first.each c was)) (from_second c) (second.before old.moment c first.later left);
  before = λ t c le left. ⊎_elim (λ was. ⊎_elim (λ x. inl x) (λ p. inr (from_first c p)) (first.before t c le was)) (λ q. inr (from_second c q)) (second.before t c (omega (arith, le, first.later)) left);
}

-- a run behind which nothing changes
pub runs_no_further : (old mid new : Meaning) (P : List ℕ → Type 0) → LeavesOnly old mid P → Same mid new → LeavesOnly old new P
runs_no_further old mid new P run same = record {
  later = omega (arith, run.later, same.moment);
  each = λ c left. run.each c ((same.left old.moment c).0 left);
  before = λ t c le left. run.before t c le ((same.left t c).0 left);
}

-- where nothing was called a crash leaves what it may leave now
pub not_begun : (m : Meaning) (before : List ℕ) → HasBehind before [] m.seen → Only m.seen m.may_leave → LeavesOnly m m (IsLeftOf before [])
not_begun m before has only = record {
  later = omega arith;
  each = λ c left. record { prefix = []; of = ([], refl); has = ap reading (only c (m.only_now c left)) ∙ has };
  before = λ t c le left. inl left;
}

-- a group more
pub left_more : (old mid new : Meaning) (bodies : List (List ℕ)) (body : List ℕ) → HasBehind old.seen bodies mid.seen → LeavesOnly old mid (IsLeftOf old.seen bodies) →
    LeavesOnly mid new (IsLeft (bodies_of mid.seen) body) → LeavesOnly old new (IsLeftOf old.seen (bodies ++ body_if_some body))
left_more old mid new bodies body has first second =
    runs_on old mid new (IsLeftOf old.seen bodies) (IsLeft (bodies_of mid.seen) body) (IsLeftOf old.seen (bodies ++ body_if_some body)) first second
    (left_longer old.seen bodies (body_if_some body)) (λ c. left_by_flush old.seen bodies body mid.seen c has)
