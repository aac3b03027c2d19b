use Rattle.std.proofs.Common.{◌≡◌, ℕ, ◌+◌, List, [], ◌++◌, take, drop, Option, Some, None, refl, ap, sym, ◌∙◌, append_assoc}
use Rattle.std.proofs.Math.Seq.{take-add}
use Rattle.std.proofs.lemmas.List.{append-nil}
use Rattle.crsm_io.specs.Streams.{Takes, Puts}

-- one put after another
pub puts_after : (a b c : Option (List ℕ)) (x y : List ℕ) → Puts a b x → Puts b c y → Puts a c (x ++ y)
puts_after None b c x y p q = rw p at q
puts_after (Some h) b c x y p q =
    let e : c ≡ Some (h ++ x ++ y) = rw p at q in
    e ∙ ap Some (append_assoc h x y)

-- nothing put
pub puts_none : (a : Option (List ℕ)) → Puts a a []
puts_none None = refl
puts_none (Some h) = ap Some (sym (append-nil h))

-- one taking after another
pub takes_after : (a b c : Option (List ℕ)) (x y : List ℕ) → Takes a b x → Takes b c y → Takes a c (x ++ y)
takes_after a b None x y p q = rw q at p
takes_after a b (Some h) x y p q =
    let e : a ≡ Some (x ++ (y ++ h)) = rw q at p in
    e ∙ ap Some (sym (append_assoc x y h))

-- nothing taken
pub takes_none : (a : Option (List ℕ)) → Takes a a []
takes_none None = refl
takes_none (Some h) = refl

-- a longer prefix put
pub puts_more : (a b c : Option (List ℕ)) (bytes : List ℕ) (i n : ℕ) → Puts a b (take i bytes) → Puts b c (take n (drop i bytes)) → Puts a c (take (i + n) bytes)
puts_more a b c bytes i n p q = rw take-add (puts_after a b c _ _ p q)
