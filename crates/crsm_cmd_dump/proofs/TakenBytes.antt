-- Bytes taken one after another.
use Rattle.std.proofs.Common.{◌≡◌, [], ◌++◌, Option, Some, None, refl, ap, sym, ◌∙◌, subst, append_assoc, append-nil}
use Rattle.crsm_io.specs.Streams.{Takes}
use Rattle.crsm_cmd_dump.specs.Texts.{Text}

pub taken_none : (a : Option Text) → Takes a a []
taken_none None = refl
taken_none (Some h) = refl

pub taken_more : (a b c : Option Text) (x y : Text) → Takes a b x → Takes b c y → Takes a c (x ++ y)
taken_more a b None x y p q = rw q at p
taken_more a b (Some h) x y p q =
    let e : a ≡ Some (x ++ (y ++ h)) = rw q at p in
    e ∙ ap Some (sym (append_assoc x y h))

-- and then nothing more
pub taken_all : (a b c : Option Text) (x : Text) → Takes a b x → Takes b c [] → Takes a c x
taken_all a b c x p q = subst (λ (t : Text). Takes a c t) (append-nil x) (taken_more a b c x [] p q)
