-- The lengths of encodings in bytes.
use Rattle.std.proofs.Common.{arith, ◌≡◌, ◌∙◌, ap, sym, ℕ, ◌+◌, ◌<◌, refl, List, [], ◌∷◌, ◌++◌, length, take, get_or}
use Rattle.std.specs.Prelude.{Option, sum_by}
use Rattle.std.proofs.lemmas.List.{length-append, take_more}
use Rattle.std.proofs.lemmas.List.Sums.{sum_by-append, sum_by-cons}
use Rattle.crsm_base.specs.declared.command.Op.{Op}
use Rattle.crsm_base.specs.declared.command.Op.TheVariants.{Get, Put, Delete, Cas}
use Rattle.crsm_base.specs.declared.command.Entry.{Entry}
use Rattle.crsm_spec.specs.Collect.{size_of}
use Rattle.crsm_base.specs.Spelling.{u8_bytes, u16_bytes, u64_bytes, stamp_bytes, key_bytes, val_bytes, option_bytes, op_bytes, command_bytes, entry_bytes}
use Rattle.crsm_base.proofs.Sizes.{u64_long, stamp_long}

pub key_long : (k : List ℕ) → 1 + length k ≡ length (key_bytes k)
unfolding key_bytes
key_long k = omega (arith, length-append (u8_bytes (length k)) k)

pub val_long : (v : List ℕ) → 2 + length v ≡ length (val_bytes v)
unfolding val_bytes u16_bytes
val_long v = omega arith

pub put_long : (k v : List ℕ) → 1 + (length (key_bytes k) + length (val_bytes v)) ≡ length (op_bytes (Put k v))
unfolding op_bytes
put_long k v = omega (arith, length-append (key_bytes k) (val_bytes v))

pub get_long : (k : List ℕ) → 1 + length (key_bytes k) ≡ length (op_bytes (Get k))
unfolding op_bytes
get_long k = omega arith

pub delete_long : (k : List ℕ) → 1 + length (key_bytes k) ≡ length (op_bytes (Delete k))
unfolding op_bytes
delete_long k = omega arith

pub cas_long : (k : List ℕ) (a b : Option (List ℕ)) →
    1 + (length (key_bytes k) + (length (option_bytes val_bytes a) + length (option_bytes val_bytes b))) ≡ length (op_bytes (Cas k a b))
unfolding op_bytes
cas_long k a b =
    omega (arith, length-append (key_bytes k) (option_bytes val_bytes a ++ option_bytes val_bytes b), length-append (option_bytes val_bytes a) (option_bytes val_bytes b))

pub entry_long : (e : Entry) → 33 + length (op_bytes e.command.op) ≡ length (entry_bytes e)
unfolding entry_bytes command_bytes
entry_long e =
    let a = u64_long e.epoch in
    let s = stamp_long e.stamp in
    let x = u64_long e.command.client in
    let y = u64_long e.command.number in
    omega (arith, a, s, x, y, length-append (u64_bytes e.epoch) (stamp_bytes e.stamp ++ (u64_bytes e.command.client ++ (u64_bytes e.command.number ++ op_bytes e.command.op))), length-append (stamp_bytes e.stamp) (u64_bytes e.command.client ++ (u64_bytes e.command.number ++ op_bytes e.command.op)), length-append (u64_bytes e.command.client) (u64_bytes e.command.number ++ op_bytes e.command.op), length-append (u64_bytes e.command.number) (op_bytes e.command.op))

-- ---- of an operation, by its kind

pub get_is : (o : Op) (k : List ℕ) (n : ℕ) → o ≡ Get k → n ≡ length (key_bytes k) → 1 + n ≡ length (op_bytes o)
get_is o k n e h = ap (λ m. 1 + m) h ∙ get_long k ∙ ap (λ p. length (op_bytes p)) (sym e)

pub delete_is : (o : Op) (k : List ℕ) (n : ℕ) → o ≡ Delete k → n ≡ length (key_bytes k) → 1 + n ≡ length (op_bytes o)
delete_is o k n e h = ap (λ m. 1 + m) h ∙ delete_long k ∙ ap (λ p. length (op_bytes p)) (sym e)

pub put_is : (o : Op) (k v : List ℕ) (n m : ℕ) → o ≡ Put k v → n ≡ length (key_bytes k) → m ≡ length (val_bytes v) → 1 + n + m ≡ length (op_bytes o)
put_is o k v n m e h i = let l = put_long k v in let s : 1 + n + m ≡ length (op_bytes (Put k v)) = omega (arith, l, h, i) in s ∙ ap (λ p. length (op_bytes p)) (sym e)

pub cas_is : (o : Op) (k : List ℕ) (a b : Option (List ℕ)) (n m l : ℕ) → o ≡ Cas k a b → n ≡ length (key_bytes k) → m ≡ length (option_bytes val_bytes a) → l ≡ length (option_bytes val_bytes b) →
    1 + n + m + l ≡ length (op_bytes o)
cas_is o k a b n m l e h i j = let t = cas_long k a b in let s : 1 + n + m + l ≡ length (op_bytes (Cas k a b)) = omega (arith, t, h, i, j) in s ∙ ap (λ p. length (op_bytes p)) (sym e)

-- ---- of many entries

pub no_size : size_of [] ≡ 0
unfolding size_of
no_size = refl

pub size_more : (es : List Entry) (i : ℕ) (e : Entry) (n : ℕ) → i < length es → e ≡ get_or es i e → n ≡ length (entry_bytes e) → size_of (take (i + 1) es) ≡ size_of (take i es) + n
unfolding size_of
size_more es i e n l at size =
    ap (sum_by (λ (f : Entry). length (entry_bytes f))) (take_more es i e l)
    ∙ sum_by-append (λ (f : Entry). length (entry_bytes f)) (take i es) (get_or es i e ∷ [])
    ∙ ap (λ m. sum_by (λ (f : Entry). length (entry_bytes f)) (take i es) + m)
    (sum_by-cons (λ (f : Entry). length (entry_bytes f)) (get_or es i e) [] ∙ one (get_or es i e) ∙ ap (λ (f : Entry). length (entry_bytes f)) (sym at) ∙ sym size)
  where
    one : (f : Entry) → length (entry_bytes f) + 0 ≡ length (entry_bytes f)
    one f = omega arith
