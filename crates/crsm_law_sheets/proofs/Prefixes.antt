-- The executed list of a log is a prefix of that of a longer log.
use Rattle.std.proofs.Common.{◌≡◌, ℕ, zero, suc, List, [], ◌∷◌, ◌++◌, take, refl, sym, ◌∙◌, ap, subst, inl, inr, append_assoc}
use Rattle.std.specs.Prelude.{Some, slice_get, option_to_list}
use Rattle.std.proofs.lemmas.List.{append-nil}
use Rattle.std.proofs.lemmas.Option.{none-some, same_Some}
use Rattle.crsm_spec.specs.Types.{Rec}
use Rattle.crsm_spec.specs.Lists.{Among, IsPrefixOf}
use Rattle.crsm_spec.specs.Log.{Log, executed, entry_of}
use Rattle.crsm_fact_log.specs.Logs.{Extends, same, more, with_records}

pub prefix_self : {A : Type 0} (xs : List A) → IsPrefixOf xs xs
prefix_self xs = ([], append-nil xs)

pub prefix_trans : {A : Type 0} (xs ys zs : List A) → IsPrefixOf xs ys → IsPrefixOf ys zs → IsPrefixOf xs zs
prefix_trans xs ys zs p q = (p.0 ++ q.0, sym (append_assoc xs p.0 q.0) ∙ ap (λ l. l ++ q.0) p.1 ∙ q.1)

one_more : (rec : Rec) (log : Log) → IsPrefixOf (executed log) (executed (rec ∷ log))
unfolding executed
one_more (Rec.Boot a b) log = prefix_self (executed log)
one_more (Rec.Prepare e) log = prefix_self (executed log)
one_more (Rec.Commit s) log = (option_to_list (entry_of log s), refl)
one_more (Rec.Adopt p es) log = (es, refl)
one_more (Rec.Suspend x) log = prefix_self (executed log)
one_more (Rec.Promise i b) log = prefix_self (executed log)
one_more (Rec.Accept i b d) log = prefix_self (executed log)
one_more (Rec.Decide d) log = prefix_self (executed log)
one_more (Rec.Enter x) log = prefix_self (executed log)

pub executed_prefix : (a b : Log) → Extends a b → IsPrefixOf (executed a) (executed b)
executed_prefix a b same = prefix_self (executed a)
executed_prefix a b (more {new = c} rec p) = prefix_trans (executed a) (executed c) (executed b) (executed_prefix a c p) (one_more rec c)

pub records_prefix : (log : Log) (recs : List Rec) → IsPrefixOf (executed log) (executed (with_records log recs))
records_prefix log [] = prefix_self (executed log)
records_prefix log (rec ∷ recs) =
    prefix_trans (executed log) (executed (rec ∷ log)) (executed (with_records (rec ∷ log) recs)) (one_more rec log) (records_prefix (rec ∷ log) recs)

-- ---- places

pub get_in : {A : Type 0} (xs ys : List A) (p : ℕ) (x : A) → IsPrefixOf xs ys → slice_get xs p ≡ Some x → slice_get ys p ≡ Some x
get_in xs ys p x pre h = subst (λ l. slice_get l p ≡ Some x) pre.1 (go xs pre.0 p h)
  where
    go : {A : Type 0} {x : A} (xs ys : List A) (p : ℕ) → slice_get xs p ≡ Some x → slice_get (xs ++ ys) p ≡ Some x
    go {x = x} [] ys p h = absurd (none-some x h)
    go (z ∷ xs) ys zero h = h
    go (z ∷ xs) ys (suc p) h = go xs ys p h

pub take_in : {A : Type 0} (xs ys : List A) (p : ℕ) (x : A) → IsPrefixOf xs ys → slice_get xs p ≡ Some x → take p ys ≡ take p xs
take_in xs ys p x pre h = subst (λ l. take p l ≡ take p xs) pre.1 (go xs pre.0 p h)
  where
    go : {A : Type 0} {x : A} (xs ys : List A) (p : ℕ) → slice_get xs p ≡ Some x → take p (xs ++ ys) ≡ take p xs
    go {x = x} [] ys p h = absurd (none-some x h)
    go (z ∷ xs) ys zero h = refl
    go (z ∷ xs) ys (suc p) h = ap (λ l. z ∷ l) (go xs ys p h)

pub got : {A : Type 0} (xs : List A) (i : ℕ) (a : A) → slice_get xs i ≡ Some a → Among xs a
got [] i a h = absurd (none-some a h)
got (x ∷ xs) zero a h = inl (same_Some x a h)
got (x ∷ xs) (suc i) a h = inr (got xs i a h)

pub placed : {A : Type 0} (xs : List A) (a : A) → Among xs a → (p : ℕ) × (slice_get xs p ≡ Some a)
placed [] a h = absurd h
placed (x ∷ xs) a (inl e) = (0, ap (λ z. Some z) e)
placed (x ∷ xs) a (inr h) = let t = placed xs a h in (suc t.0, t.1)
