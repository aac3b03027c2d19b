-- An ordered map's entries, read and changed, are the rows of the keys.
use Rattle.std.proofs.Common.{◌≡◌, ℕ, Bool, true, List, [], ◌∷◌, refl, ap, sym, ◌∙◌}
use Rattle.std.specs.Prelude.{bytes_eq, if◌then◌else◌}
use Rattle.std.specs.Ordering.{is_eq, is_lt, nat_cmp, match_ordering}
use Rattle.std.specs.declared.cmp.Ordering.{Ordering}
use Rattle.std.specs.declared.cmp.Ordering.TheVariants.{Less, Equal, Greater}
use Rattle.std.specs.Cmp.Lexicographic.{slice_cmp}
use Rattle.std.specs.Map.{lookup, remove_entry}
use Rattle.std.specs.BTreeMap.{insert_entry, is_at}
use Rattle.std.proofs.lemmas.Map.Text.{is_eq-slice_cmp}
use Rattle.std.proofs.lemmas.Bool.Decides.{same_from_decides, Decides-like}
use Rattle.std.proofs.lemmas.Slice.Eq.{bytes_eq-Decides}
use Rattle.crsm_base.proofs.KeyOrder.{slice_cmp-bytes_lt}
use Rattle.crsm_base.specs.Store.{value_at, with_key, without_key, bytes_lt}

bytes_eq-sym : (a b : List ℕ) → bytes_eq a b ≡ bytes_eq b a
bytes_eq-sym a b = same_from_decides (bytes_eq a b) (bytes_eq b a) (bytes_eq-Decides a b) (Decides-like (bytes_eq b a) sym sym (bytes_eq-Decides b a))

at-bytes_eq : (key other : List ℕ) → is_at (slice_cmp nat_cmp key) other ≡ bytes_eq other key
at-bytes_eq key other = is_eq-slice_cmp key other ∙ bytes_eq-sym key other

-- a choice by an order is the choice by its two tests
by_tests : {X : Type 0} (o : Ordering) (same less : Bool) (a b b' c c' : X) → is_eq o ≡ same → is_lt o ≡ less → (same ≡ true → b ≡ b') → c ≡ c' → match_ordering o a b c ≡ (if same then b' else (if less then a else c'))
by_tests Less same less a b b' c c' s l here after = rw (← s, ← l)
by_tests Equal same less a b b' c c' s l here after = rw (← s) (here (sym s))
by_tests Greater same less a b b' c c' s l here after = rw (← s, ← l) after

pub lookup-value_at : (key : List ℕ) (rows : List (List ℕ × List ℕ)) → lookup (is_at (slice_cmp nat_cmp key)) rows ≡ value_at key rows
unfolding value_at
lookup-value_at key [] = refl
lookup-value_at key (row ∷ rows) = rw (at-bytes_eq key row.0, lookup-value_at key rows)

pub remove_entry-without_key : (key : List ℕ) (rows : List (List ℕ × List ℕ)) → remove_entry (is_at (slice_cmp nat_cmp key)) rows ≡ without_key key rows
unfolding without_key
remove_entry-without_key key [] = refl
remove_entry-without_key key (row ∷ rows) = rw (at-bytes_eq key row.0, remove_entry-without_key key rows)

pub insert_entry-with_key : (rows : List (List ℕ × List ℕ)) (key value : List ℕ) → insert_entry (slice_cmp nat_cmp) rows key value ≡ with_key key value rows
unfolding with_key
insert_entry-with_key [] key value = refl
insert_entry-with_key (row ∷ rows) key value =
    by_tests (slice_cmp nat_cmp key row.0) (bytes_eq row.0 key) (bytes_lt key row.0)
    ((key, value) ∷ row ∷ rows) ((row.0, value) ∷ rows) ((key, value) ∷ rows)
    (row ∷ insert_entry (slice_cmp nat_cmp) rows key value) (row ∷ with_key key value rows)
    (at-bytes_eq key row.0)
    (slice_cmp-bytes_lt key row.0)
    (λ same. ap (λ k. (k, value) ∷ rows) ((bytes_eq-Decides row.0 key).0 same))
    (ap (λ after. row ∷ after) (insert_entry-with_key rows key value))

pub ruleset keys_rules = (lookup-value_at, remove_entry-without_key, insert_entry-with_key)
