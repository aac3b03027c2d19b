-- The first bytes of a key as one number, by whose order keys are ordered where these numbers differ.
use Rattle.std.specs.Prelude.{◌<◌, ◌+◌, ◌*◌, ℕ, zero, suc, List, [], ◌∷◌, get_or}

-- the number whose digits, to the base of 256, are those of `head` and then the first n bytes; missing bytes are zeros
unfoldable pub head_from : ℕ → ℕ → List ℕ → ℕ
head_from head zero bytes = head
head_from head (suc n) [] = head_from (head * 256) n []
head_from head (suc n) (byte ∷ bytes) = head_from (head * 256 + byte) n bytes

-- the number of the first eight bytes
abbrev pub head_of : List ℕ → ℕ
head_of bytes = head_from 0 8 bytes

-- each of the list's numbers is a byte
abbrev pub AreBytes : List ℕ → Type 0
AreBytes bytes = (i : ℕ) → get_or bytes i 0 < 256
