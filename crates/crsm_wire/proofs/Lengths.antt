-- The lengths of encodings in bytes.
use Rattle.std.proofs.Common.{arith, ◌≡◌, sym, subst, ℕ, ◌+◌, ◌<◌, ◌≤◌, List, ◌++◌, length}
use Rattle.std.specs.Prelude.{Option}
use Rattle.std.proofs.lemmas.List.{length-append}
use Rattle.crsm_base.specs.declared.command.Op.{Op}
use Rattle.crsm_base.specs.declared.command.Op.TheVariants.{Get, Put, Delete, Cas}
use Rattle.crsm_base.specs.declared.command.Entry.{Entry}
use Rattle.crsm_base.specs.Spelling.{u8_bytes, u16_bytes, u64_bytes, stamp_bytes, FitsStamp, key_bytes, FitsKey, val_bytes, FitsVal, option_bytes, FitsOption, op_bytes, FitsOp, command_bytes, entry_bytes, FitsEntry}
use Rattle.crsm_base.proofs.Sizes.{u64_long, stamp_long}
use Rattle.crsm_wire.specs.Sized.{IsSized}

pub key_sized : (k : List ℕ) → 1 ≤ length k → length k ≤ 64 → IsSized key_bytes FitsKey 65 k (length k + 1)
unfolding key_bytes
key_sized k some most =
    record {
      fits = record { some = some; most = most };
      size_is = omega (arith, length-append (u8_bytes (length k)) k);
      few = omega (arith, most);
    }

pub val_sized : (v : List ℕ) → length v ≤ 512 → IsSized val_bytes FitsVal 514 v (length v + 2)
unfolding val_bytes u16_bytes
val_sized v most = record { fits = record { most = most }; size_is = omega arith; few = omega (arith, most) }

-- ---- of an operation, by its kind

pub get_sized : (o : Op) (k : List ℕ) (n : ℕ) → o ≡ Get k → IsSized key_bytes FitsKey 65 k n → IsSized op_bytes FitsOp 1096 o (n + 1)
unfolding op_bytes
get_sized o k n e s =
    subst (λ p. IsSized op_bytes FitsOp 1096 p (n + 1)) (sym e) (record { fits = s.fits; size_is = omega (arith, s.size_is); few = omega (arith, s.few) })

pub delete_sized : (o : Op) (k : List ℕ) (n : ℕ) → o ≡ Delete k → IsSized key_bytes FitsKey 65 k n → IsSized op_bytes FitsOp 1096 o (n + 1)
unfolding op_bytes
delete_sized o k n e s =
    subst (λ p. IsSized op_bytes FitsOp 1096 p (n + 1)) (sym e) (record { fits = s.fits; size_is = omega (arith, s.size_is); few = omega (arith, s.few) })

pub put_sized : (o : Op) (k v : List ℕ) (n m : ℕ) → o ≡ Put k v → IsSized key_bytes FitsKey 65 k n → IsSized val_bytes FitsVal 514 v m →
    IsSized op_bytes FitsOp 1096 o (n + m + 1)
unfolding op_bytes
put_sized o k v n m e s t =
    subst (λ p. IsSized op_bytes FitsOp 1096 p (n + m + 1)) (sym e) (record {
      fits = (s.fits, t.fits);
      size_is = omega (arith, s.size_is, t.size_is, length-append (key_bytes k) (val_bytes v));
      few = omega (arith, s.few, t.few);
    })

pub cas_sized : (o : Op) (k : List ℕ) (a b : Option (List ℕ)) (n m l : ℕ) → o ≡ Cas k a b → IsSized key_bytes FitsKey 65 k n →
    IsSized (option_bytes val_bytes) (FitsOption FitsVal) 515 a m → IsSized (option_bytes val_bytes) (FitsOption FitsVal) 515 b l →
    IsSized op_bytes FitsOp 1096 o (n + m + l + 1)
unfolding op_bytes
cas_sized o k a b n m l e s t u =
    subst (λ p. IsSized op_bytes FitsOp 1096 p (n + m + l + 1)) (sym e) (record {
      fits = (s.fits, t.fits, u.fits);
      size_is = omega (arith, s.size_is, t.size_is, u.size_is, length-append (key_bytes k) (option_bytes val_bytes a ++ option_bytes val_bytes b), length-append (option_bytes val_bytes a) (option_bytes val_bytes b));
      few = omega (arith, s.few, t.few, u.few);
    })

-- ---- of an entry

pub entry_sized : (e : Entry) (n : ℕ) → e.epoch < 18446744073709551616 → e.command.client < 18446744073709551616 → e.command.number < 18446744073709551616 →
    FitsStamp e.stamp → IsSized op_bytes FitsOp 1096 e.command.op n → IsSized entry_bytes FitsEntry 1129 e (n + 33)
unfolding entry_bytes command_bytes
entry_sized e n epoch client number stamp s =
    let a = u64_long e.epoch in
    let b = stamp_long e.stamp in
    let x = u64_long e.command.client in
    let y = u64_long e.command.number in
    record {
      fits = record { epoch = epoch; stamp = stamp; command = record { client = client; number = number; op = s.fits } };
      size_is = omega (arith, s.size_is, a, b, x, y, length-append (u64_bytes e.epoch) (stamp_bytes e.stamp ++ (u64_bytes e.command.client ++ (u64_bytes e.command.number ++ op_bytes e.command.op))), length-append (stamp_bytes e.stamp) (u64_bytes e.command.client ++ (u64_bytes e.command.number ++ op_bytes e.command.op)), length-append (u64_bytes e.command.client) (u64_bytes e.command.number ++ op_bytes e.command.op), length-append (u64_bytes e.command.number) (op_bytes e.command.op));
      few = omega (arith, s.few);
    }
