-- Texts of whole lines, and the part of a text that was written.
use Rattle.std.proofs.Common.{◌≡◌, ℕ, ◌+◌, ◌<◌, ◌≤◌, List, [], ◌∷◌, ◌++◌, Option, Some, None, length, refl, ap, sym, ◌∙◌, arith, append_assoc, length-append, take, zero, suc}
use Rattle.std.specs.List.{AllByRecursion}
use Rattle.std.specs.Option.{IsSomeAnd}
use Rattle.std.proofs.lemmas.List.{append-nil}
use Rattle.crsm_text.specs.Words.{Lacks}
use Rattle.crsm_io.specs.Streams.{Puts, PutsPrefix}
use Rattle.crsm_io.proofs.Steps.{puts_after, puts_none}
use Rattle.crsm_port_lines.specs.Handling.{Text}
use Rattle.crsm_port_lines.specs.State.{IsLine, ended, read_text}

-- ---- lines

-- one line more
pub read_text-push : (lines : List Text) (line : Text) → read_text (lines ++ line ∷ []) ≡ read_text lines ++ ended line
read_text-push [] line = append-nil (ended line)
read_text-push (l ∷ lines) line = ap (λ (y : Text). ended l ++ y) (read_text-push lines line) ∙ sym (append_assoc (ended l) (read_text lines) (ended line))

pub are_lines-push : (lines : List Text) (line : Text) → AllByRecursion IsLine lines → IsLine line → AllByRecursion IsLine (lines ++ line ∷ [])
are_lines-push [] line are is = (is, tt)
are_lines-push (l ∷ lines) line are is = (are.0, are_lines-push lines line are.1 is)

pub count-push : (lines : List Text) (line : Text) → length (lines ++ line ∷ []) ≡ length lines + 1
count-push lines line = let a = length-append lines (line ∷ []) in omega (arith, a)

pub lacks_prefix : (xs : List ℕ) (n : ℕ) → Lacks 10 xs → Lacks 10 (take n xs)
lacks_prefix xs zero lacks = tt
lacks_prefix [] (suc n) lacks = tt
lacks_prefix (x ∷ xs) (suc n) lacks = (lacks.0, lacks_prefix xs n lacks.1)

-- a list that has no such element
pub no_split : (c : ℕ) (xs : List ℕ) → ((word rest : List ℕ) → Lacks c word → xs ≡ word ++ c ∷ rest → ⊥) → Lacks c xs
no_split c [] none = tt
no_split c (x ∷ xs) none =
    let first : x ≡ c → ⊥ = λ e. none [] xs tt (ap (λ y. y ∷ xs) e) in
    (first, no_split c xs (λ word rest lacks is. none (x ∷ word) rest (first, lacks) (ap (λ ys. x ∷ ys) is)))

-- an answer that is none is none such
pub none_such : {X : Type 0} (answer : Option X) (P : X → Type 0) → answer ≡ None → IsSomeAnd answer P → ⊥
none_such None P none some = some
none_such (Some x) P none some = cc

take_nil : (n : ℕ) → take {A = ℕ} n [] ≡ []
take_nil zero = refl
take_nil (suc n) = refl

-- a prefix of one byte
pub one_byte : (xs : List ℕ) (n : ℕ) → 0 < n → n ≤ length xs → length xs ≡ 1 → (x : ℕ) × (take n xs ≡ x ∷ [])
one_byte [] n some within len = absurd (omega arith)
one_byte (x ∷ []) zero some within len = absurd (omega arith)
one_byte (x ∷ []) (suc n) some within len = (x, ap (λ ys. x ∷ ys) (take_nil n))
one_byte (x ∷ y ∷ ys) n some within len = absurd (omega arith)

-- ---- what is written

-- all of a prefix of it
pub all_prefix : (w v : Option Text) (text prefix rest : Text) → text ≡ prefix ++ rest → Puts w v prefix → PutsPrefix w v text
all_prefix w v text prefix rest cut put = record { prefix = prefix; rest = rest; cut = cut; put = put }

-- a prefix of a prefix of it
pub prefix_prefix : (w v : Option Text) (text prefix rest : Text) → text ≡ prefix ++ rest → PutsPrefix w v prefix → PutsPrefix w v text
prefix_prefix w v text prefix rest cut put = record {
  prefix = put.prefix;
  rest = put.rest ++ rest;
  cut = cut ∙ ap (λ ys. ys ++ rest) put.cut ∙ append_assoc put.prefix put.rest rest;
  put = put.put;
}

-- nothing of it
pub none_prefix : (w : Option Text) (text : Text) → PutsPrefix w w text
none_prefix w text = record { prefix = []; rest = text; cut = refl; put = puts_none w }

no_prefix : (x y : Text) → [] ≡ x ++ y → x ≡ []
no_prefix [] y e = refl
no_prefix (n ∷ x) y e = absurd (omega (arith, ap length e))

-- a prefix of it, and then nothing
pub prefix_then : (w v u : Option Text) (text : Text) → PutsPrefix w v text → PutsPrefix v u [] → PutsPrefix w u text
prefix_then w v u text one other =
    let none : one.prefix ++ other.prefix ≡ one.prefix = ap (λ ys. one.prefix ++ ys) (no_prefix other.prefix other.rest other.cut) ∙ append-nil one.prefix in
    record {
      prefix = one.prefix ++ other.prefix;
      rest = one.rest;
      cut = one.cut ∙ ap (λ ys. ys ++ one.rest) (sym none);
      put = puts_after w v u one.prefix other.prefix one.put other.put;
    }

-- a prefix of what comes behind a text that was put
pub put_then : (w v u : Option Text) (one text : Text) → Puts w v one → PutsPrefix v u text → PutsPrefix w u (one ++ text)
put_then w v u one text put more = record {
  prefix = one ++ more.prefix;
  rest = more.rest;
  cut = ap (λ ys. one ++ ys) more.cut ∙ sym (append_assoc one more.prefix more.rest);
  put = puts_after w v u one more.prefix put more.put;
}
