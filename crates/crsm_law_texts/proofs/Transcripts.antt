-- The text of a transcript determines its lines: cut at line feeds and spaces it is words, and each word has one value.
use Rattle.std.proofs.Common.{◌≡◌, ◌≢◌, ℕ, ◌+◌, ◌*◌, ◌^◌, ◌<◌, ◌≤◌, List, [], ◌∷◌, ◌++◌, Option, Some, None, true, nat_lt, map, length, get_or, codes, decimal, refl, ap, sym, ◌∙◌, arith, append_assoc}
use Rattle.std.specs.List.{AllByRecursion, list_all}
use Rattle.std.proofs.lemmas.Fmt.{decimal_injective}
use Rattle.std.proofs.lemmas.Bool.Decides.{nat_tests}
use Rattle.std.proofs.lemmas.List.{append-nil}
use Rattle.hex.specs.Hex.{encode_lower, lower_digits, IsBytes}
use Rattle.crsm_base.specs.declared.stamp.Stamp.{Stamp}
use Rattle.crsm_base.specs.declared.Op.TheVariants.{Put, Cas}
use Rattle.crsm_base.specs.declared.Answer.{Answer}
use Rattle.crsm_base.specs.declared.Answer.TheVariants.{Found, Missing, Done, Differs, Stale, NoRoom}
use Rattle.crsm_base.specs.declared.SendKind.{SendKind}
use Rattle.crsm_base.specs.declared.SendKind.TheVariants.{Frame, Ack, Part}
use Rattle.crsm_base.specs.declared.State.{State}
use Rattle.crsm_base.specs.declared.State.TheVariants.{Live, Held, Out as IsOut, Down as IsDown}
use Rattle.crsm_base.specs.declared.Line.{Line}
use Rattle.crsm_base.specs.declared.Line.TheVariants.{Boot, Submit, Log, Exec, Suspend, Promise, Accept, Decide, Enter, TooMany, Send, ReplyOk, ReplyNo, ReplyDropped, Down, Final, Out, Back}
use Rattle.crsm_base.specs.Spelling.{FitsOption}
use Rattle.crsm_text.specs.Words.{Lacks, spaced, named, numbers, commas}
use Rattle.crsm_text.specs.Values.{value_text, option_text, answer_text}
use Rattle.crsm_text.proofs.WordsLemmas.{Lacks-decimal, Lacks-encode_lower, split_unique, lacks_not, and_true}
use Rattle.crsm_text.proofs.Texts.{Lacks-value_text, Lacks-option_text}
use Rattle.crsm_text.proofs.Named.{named_numbers, commas_after, commas-commas_after}
use Rattle.crsm_text.proofs.Commas.{Fit}
use Rattle.crsm_text.proofs.TextLaws.{Lacks-join, hex_injective, commas_injective, op_injective, first_digit}
use Rattle.crsm_schedule.specs.Transcript.{kind_text, state_text, line_words, line_text}
use Rattle.crsm_law_texts.specs.Texts.{numbers_in_answer, bytes_in_answer, FitsLine, Printed, FitsPrinted, printed_text, number_before, lines_of, TranscriptsAreOne}

-- ---- words of a line

abbrev answer_name : Answer → List ℕ
answer_name (Found val) = codes "found"
answer_name Missing = codes "missing"
answer_name Done = codes "done"
answer_name (Differs val) = codes "differs"
answer_name (Stale number) = codes "stale"
answer_name NoRoom = codes "noroom"

abbrev answer_rest : Answer → List (List ℕ)
answer_rest (Found val) = value_text val ∷ []
answer_rest (Differs val) = option_text val ∷ []
answer_rest (Stale number) = decimal number ∷ []
answer_rest answer = []

abbrev words_of : Line → List (List ℕ)
words_of (Boot replica count) = codes "boot" ∷ map decimal (replica ∷ count ∷ [])
words_of (Submit replica epoch time client number) = codes "submit" ∷ map decimal (replica ∷ epoch ∷ time ∷ client ∷ number ∷ [])
words_of (Log replica epoch stamp) = codes "log" ∷ map decimal (replica ∷ epoch ∷ stamp.time ∷ stamp.origin ∷ [])
words_of (Exec replica place epoch stamp client number answer) =
    codes "exec" ∷ (map decimal (replica ∷ place ∷ epoch ∷ stamp.time ∷ stamp.origin ∷ client ∷ number ∷ []) ++ answer_name answer ∷ answer_rest answer)
words_of (Suspend replica epoch) = codes "suspend" ∷ map decimal (replica ∷ epoch ∷ [])
words_of (Promise replica instance round by) = codes "promise" ∷ map decimal (replica ∷ instance ∷ round ∷ by ∷ [])
words_of (Accept replica instance round by) = codes "accept" ∷ map decimal (replica ∷ instance ∷ round ∷ by ∷ [])
words_of (Decide replica epoch members base_len count) =
    codes "decide" ∷ (map decimal (replica ∷ epoch ∷ []) ++ commas members ∷ map decimal (base_len ∷ count ∷ []))
words_of (Enter replica epoch) = codes "enter" ∷ map decimal (replica ∷ epoch ∷ [])
words_of (TooMany replica epoch count bytes) = codes "toomany" ∷ map decimal (replica ∷ epoch ∷ count ∷ bytes ∷ [])
words_of (Send index sender receiver kind bytes) = codes "send" ∷ (map decimal (index ∷ sender ∷ receiver ∷ []) ++ kind_text kind ∷ encode_lower bytes ∷ [])
words_of (ReplyOk replica client number place answer) =
    codes "reply" ∷ (map decimal (replica ∷ client ∷ number ∷ []) ++ codes "ok" ∷ decimal place ∷ answer_name answer ∷ answer_rest answer)
words_of (ReplyNo replica client number code) = codes "reply" ∷ (map decimal (replica ∷ client ∷ number ∷ []) ++ codes "no" ∷ map decimal (code ∷ []))
words_of (ReplyDropped replica client number epoch stamp) =
    codes "reply" ∷ (map decimal (replica ∷ client ∷ number ∷ []) ++ codes "no" ∷ map decimal (6 ∷ epoch ∷ stamp.time ∷ stamp.origin ∷ []))
words_of (Down replica) = codes "down" ∷ map decimal (replica ∷ [])
words_of (Final replica state known executed) = codes "final" ∷ (map decimal (replica ∷ []) ++ state_text state ∷ map decimal (known ∷ executed ∷ []))
words_of (Out receiver bytes) = codes "out" ∷ (map decimal (receiver ∷ []) ++ encode_lower bytes ∷ [])
words_of (Back address bytes) = codes "back" ∷ (map decimal (address ∷ []) ++ encode_lower bytes ∷ [])

-- some words, a space, and more words
spaced_then : (x : List ℕ) (xs : List (List ℕ)) (y : List ℕ) (ys : List (List ℕ)) → spaced (x ∷ xs) ++ 32 ∷ spaced (y ∷ ys) ≡ spaced (x ∷ (xs ++ y ∷ ys))
spaced_then x [] y ys = refl
spaced_then x (z ∷ xs) y ys = append_assoc x (32 ∷ spaced (z ∷ xs)) (32 ∷ spaced (y ∷ ys)) ∙ ap (λ (s : List ℕ). x ++ 32 ∷ s) (spaced_then z xs y ys)

answer_is : (a : Answer) → answer_text a ≡ spaced (answer_name a ∷ answer_rest a)
answer_is (Found val) = refl
answer_is Missing = refl
answer_is Done = refl
answer_is (Differs val) = refl
answer_is (Stale number) = refl
answer_is NoRoom = refl

named_then : (name : List ℕ) (ns : List ℕ) (text : List ℕ) (y : List ℕ) (ys : List (List ℕ)) → text ≡ spaced (y ∷ ys)
    → named name ns ++ 32 ∷ text ≡ spaced (name ∷ (map decimal ns ++ y ∷ ys))
named_then name ns text y ys is = ap (λ (s : List ℕ). named name ns ++ 32 ∷ s) is ∙ spaced_then name (map decimal ns) y ys

words_are : (l : Line) → line_words l ≡ spaced (words_of l)
words_are (Exec r p e s c n a) =
    named_then (codes "exec") (r ∷ p ∷ e ∷ s.time ∷ s.origin ∷ c ∷ n ∷ []) (answer_text a) (answer_name a) (answer_rest a) (answer_is a)
words_are (Decide r e ms b c) =
    named_then (codes "decide") (r ∷ e ∷ []) (commas ms ++ numbers (b ∷ c ∷ [])) (commas ms) (map decimal (b ∷ c ∷ [])) (sym (named_numbers (commas ms) (b ∷ c ∷ [])))
words_are (Send i f t k b) =
    named_then (codes "send") (i ∷ f ∷ t ∷ []) (kind_text k ++ 32 ∷ encode_lower b) (kind_text k) (encode_lower b ∷ []) refl
words_are (ReplyOk r c n p a) =
    named_then (codes "reply") (r ∷ c ∷ n ∷ []) (named (codes "ok") (p ∷ []) ++ 32 ∷ answer_text a) (codes "ok") (decimal p ∷ answer_name a ∷ answer_rest a)
    (named_then (codes "ok") (p ∷ []) (answer_text a) (answer_name a) (answer_rest a) (answer_is a))
words_are (ReplyNo r c n k) =
    named_then (codes "reply") (r ∷ c ∷ n ∷ []) (named (codes "no") (k ∷ [])) (codes "no") (map decimal (k ∷ [])) refl
words_are (ReplyDropped r c n e s) =
    named_then (codes "reply") (r ∷ c ∷ n ∷ []) (named (codes "no") (6 ∷ e ∷ s.time ∷ s.origin ∷ [])) (codes "no") (map decimal (6 ∷ e ∷ s.time ∷ s.origin ∷ [])) refl
words_are (Final r s k x) =
    named_then (codes "final") (r ∷ []) (state_text s ++ numbers (k ∷ x ∷ [])) (state_text s) (map decimal (k ∷ x ∷ [])) (sym (named_numbers (state_text s) (k ∷ x ∷ [])))
words_are (Out r b) = named_then (codes "out") (r ∷ []) (encode_lower b) (encode_lower b) [] refl
words_are (Back a b) = named_then (codes "back") (a ∷ []) (encode_lower b) (encode_lower b) [] refl
words_are l = refl

-- ---- no word has a space or a line feed

-- each byte is a letter or a digit
letters_lack : (c : ℕ) (word : List ℕ) → c < 44 → list_all (λ x. nat_lt 44 x) word ≡ true → Lacks c word
letters_lack c [] low all = tt
letters_lack c (x ∷ xs) low all =
    let p = and_true (nat_lt 44 x) (list_all (λ x. nat_lt 44 x) xs) all in
    (λ same. let above : nat_lt 44 x ≡ true = p.0 in absurd (grind (arith, nat_tests)), letters_lack c xs low p.1)

all_then : {X : Type 0} (P : X → Type 0) (xs ys : List X) → AllByRecursion P xs → AllByRecursion P ys → AllByRecursion P (xs ++ ys)
all_then P [] ys all more = more
all_then P (x ∷ xs) ys all more = (all.0, all_then P xs ys all.1 more)

decimals_lack : (c : ℕ) (ns : List ℕ) → c < 44 → Fit ns → AllByRecursion (Lacks c) (map decimal ns)
decimals_lack c [] low fit = tt
decimals_lack c (n ∷ ns) low fit = (Lacks-decimal c n (omega (arith, low)) fit.0, decimals_lack c ns low fit.1)

prefix_fits : (ms ns : List ℕ) → Fit (ms ++ ns) → Fit ms
prefix_fits [] ns fit = tt
prefix_fits (m ∷ ms) ns fit = (fit.0, prefix_fits ms ns fit.1)

rest_fits : (ms ns : List ℕ) → Fit (ms ++ ns) → Fit ns
rest_fits [] ns fit = fit
rest_fits (m ∷ ms) ns fit = rest_fits ms ns fit.1

hex_lacks : (c : ℕ) (bytes : List ℕ) → 0 < c → c < 44 → Lacks c (encode_lower bytes)
hex_lacks c bytes pos low = Lacks-encode_lower c bytes pos (letters_lack c lower_digits low refl)

answer_lacks : (c : ℕ) (a : Answer) → 0 < c → c < 44 → Fit (numbers_in_answer a) → AllByRecursion (Lacks c) (answer_name a ∷ answer_rest a)
answer_lacks c (Found val) pos low fit =
    (letters_lack c (codes "found") low refl, (Lacks-value_text c val pos (letters_lack c lower_digits low refl) (letters_lack c (codes "empty") low refl), tt))
answer_lacks c Missing pos low fit = (letters_lack c (codes "missing") low refl, tt)
answer_lacks c Done pos low fit = (letters_lack c (codes "done") low refl, tt)
answer_lacks c (Differs val) pos low fit =
    (letters_lack c (codes "differs") low refl, (Lacks-option_text c val pos (letters_lack c lower_digits low refl) (letters_lack c (codes "empty") low refl) (letters_lack c (codes "none") low refl), tt))
answer_lacks c (Stale number) pos low fit = (letters_lack c (codes "stale") low refl, decimals_lack c (number ∷ []) low fit)
answer_lacks c NoRoom pos low fit = (letters_lack c (codes "noroom") low refl, tt)

kind_lacks : (c : ℕ) (k : SendKind) → c < 44 → Lacks c (kind_text k)
kind_lacks c Frame low = letters_lack c (codes "frame") low refl
kind_lacks c Ack low = letters_lack c (codes "ack") low refl
kind_lacks c Part low = letters_lack c (codes "part") low refl

state_lacks : (c : ℕ) (s : State) → c < 44 → Lacks c (state_text s)
state_lacks c Live low = letters_lack c (codes "live") low refl
state_lacks c Held low = letters_lack c (codes "held") low refl
state_lacks c IsOut low = letters_lack c (codes "out") low refl
state_lacks c IsDown low = letters_lack c (codes "down") low refl

commas_lack : (c : ℕ) (ns : List ℕ) → c < 44 → Fit ns → Lacks c (commas ns)
commas_lack c ns low fit = Lacks-join c 44 (map decimal ns) (λ e. absurd (omega (arith, e, low))) (decimals_lack c ns low fit)

-- a name and numbers
plain_lack : (c : ℕ) (name ns : List ℕ) → c < 44 → list_all (λ x. nat_lt 44 x) name ≡ true → Fit ns → AllByRecursion (Lacks c) (name ∷ map decimal ns)
plain_lack c name ns low letters fit = (letters_lack c name low letters, decimals_lack c ns low fit)

-- a name, numbers and more words
longer_lack : (c : ℕ) (name ns : List ℕ) (more : List (List ℕ)) → c < 44 → list_all (λ x. nat_lt 44 x) name ≡ true → Fit ns → AllByRecursion (Lacks c) more
    → AllByRecursion (Lacks c) (name ∷ (map decimal ns ++ more))
longer_lack c name ns more low letters fit all = (letters_lack c name low letters, all_then (Lacks c) (map decimal ns) more (decimals_lack c ns low fit) all)

words_lack : (c : ℕ) (l : Line) → 0 < c → c < 44 → FitsLine l → AllByRecursion (Lacks c) (words_of l)
words_lack c (Boot r k) pos low fits = plain_lack c (codes "boot") (r ∷ k ∷ []) low refl fits.numbers_fit
words_lack c (Submit r e t k n) pos low fits = plain_lack c (codes "submit") (r ∷ e ∷ t ∷ k ∷ n ∷ []) low refl fits.numbers_fit
words_lack c (Log r e s) pos low fits = plain_lack c (codes "log") (r ∷ e ∷ s.time ∷ s.origin ∷ []) low refl fits.numbers_fit
words_lack c (Exec r p e s k n a) pos low fits =
    let ns : List ℕ = r ∷ p ∷ e ∷ s.time ∷ s.origin ∷ k ∷ n ∷ [] in
    longer_lack c (codes "exec") ns (answer_name a ∷ answer_rest a) low refl (prefix_fits ns (numbers_in_answer a) fits.numbers_fit)
    (answer_lacks c a pos low (rest_fits ns (numbers_in_answer a) fits.numbers_fit))
words_lack c (Suspend r e) pos low fits = plain_lack c (codes "suspend") (r ∷ e ∷ []) low refl fits.numbers_fit
words_lack c (Promise r i b k) pos low fits = plain_lack c (codes "promise") (r ∷ i ∷ b ∷ k ∷ []) low refl fits.numbers_fit
words_lack c (Accept r i b k) pos low fits = plain_lack c (codes "accept") (r ∷ i ∷ b ∷ k ∷ []) low refl fits.numbers_fit
words_lack c (Decide r e ms b k) pos low fits =
    let f = fits.numbers_fit in
    longer_lack c (codes "decide") (r ∷ e ∷ []) (commas ms ∷ map decimal (b ∷ k ∷ [])) low refl (f.0, (f.1.0, tt))
    (commas_lack c ms low f.1.1.1.1, decimals_lack c (b ∷ k ∷ []) low (f.1.1.0, (f.1.1.1.0, tt)))
words_lack c (Enter r e) pos low fits = plain_lack c (codes "enter") (r ∷ e ∷ []) low refl fits.numbers_fit
words_lack c (TooMany r e k b) pos low fits = plain_lack c (codes "toomany") (r ∷ e ∷ k ∷ b ∷ []) low refl fits.numbers_fit
words_lack c (Send i f t k b) pos low fits =
    longer_lack c (codes "send") (i ∷ f ∷ t ∷ []) (kind_text k ∷ encode_lower b ∷ []) low refl fits.numbers_fit (kind_lacks c k low, (hex_lacks c b pos low, tt))
words_lack c (ReplyOk r k n p a) pos low fits =
    let f = fits.numbers_fit in
    longer_lack c (codes "reply") (r ∷ k ∷ n ∷ []) (codes "ok" ∷ decimal p ∷ answer_name a ∷ answer_rest a) low refl (f.0, (f.1.0, (f.1.1.0, tt)))
    (letters_lack c (codes "ok") low refl, (Lacks-decimal c p (omega (arith, low)) f.1.1.1.0, answer_lacks c a pos low f.1.1.1.1))
words_lack c (ReplyNo r k n o) pos low fits =
    let f = fits.numbers_fit in
    longer_lack c (codes "reply") (r ∷ k ∷ n ∷ []) (codes "no" ∷ map decimal (o ∷ [])) low refl (f.0, (f.1.0, (f.1.1.0, tt)))
    (plain_lack c (codes "no") (o ∷ []) low refl f.1.1.1)
words_lack c (ReplyDropped r k n e s) pos low fits =
    let f = fits.numbers_fit in
    longer_lack c (codes "reply") (r ∷ k ∷ n ∷ []) (codes "no" ∷ map decimal (6 ∷ e ∷ s.time ∷ s.origin ∷ [])) low refl (f.0, (f.1.0, (f.1.1.0, tt)))
    (plain_lack c (codes "no") (6 ∷ e ∷ s.time ∷ s.origin ∷ []) low refl (omega arith, f.1.1.1))
words_lack c (Down r) pos low fits = plain_lack c (codes "down") (r ∷ []) low refl fits.numbers_fit
words_lack c (Final r s k x) pos low fits =
    let f = fits.numbers_fit in
    longer_lack c (codes "final") (r ∷ []) (state_text s ∷ map decimal (k ∷ x ∷ [])) low refl (f.0, tt) (state_lacks c s low, decimals_lack c (k ∷ x ∷ []) low f.1)
words_lack c (Out r b) pos low fits = longer_lack c (codes "out") (r ∷ []) (encode_lower b ∷ []) low refl fits.numbers_fit (hex_lacks c b pos low, tt)
words_lack c (Back a b) pos low fits = longer_lack c (codes "back") (a ∷ []) (encode_lower b ∷ []) low refl fits.numbers_fit (hex_lacks c b pos low, tt)

-- ---- one value for each word

no_bytes : IsBytes []
no_bytes = λ i. omega arith

-- a value is told by its text, as an operation with it is
value_told : (v w : List ℕ) → IsBytes v → IsBytes w → value_text v ≡ value_text w → v ≡ w
value_told v w are are_too e =
    let ops : Put [] v ≡ Put [] w = op_injective (Put [] v) (Put [] w) (no_bytes, are) (no_bytes, are_too) (ap (λ (s : List ℕ). spaced (codes "put" ∷ encode_lower [] ∷ s ∷ [])) e) in cc

option_told : (v w : Option (List ℕ)) → FitsOption IsBytes v → FitsOption IsBytes w → option_text v ≡ option_text w → v ≡ w
option_told v w are are_too e =
    let ops : Cas [] v None ≡ Cas [] w None =
    op_injective (Cas [] v None) (Cas [] w None) (no_bytes, are, tt) (no_bytes, are_too, tt)
    (ap (λ (s : List ℕ). spaced (codes "cas" ∷ encode_lower [] ∷ s ∷ option_text None ∷ [])) e) in cc

option_bytes : (v : Option (List ℕ)) → IsBytes (bytes_in_answer (Differs v)) → FitsOption IsBytes v
option_bytes None are = tt
option_bytes (Some v) are = are

tail_same : {X : Type 0} (x y : X) (xs ys : List X) → x ∷ xs ≡ y ∷ ys → xs ≡ ys
tail_same x y xs ys e = cc

head_same : {X : Type 0} (x y : X) (xs ys : List X) → x ∷ xs ≡ y ∷ ys → x ≡ y
head_same x y xs ys e = cc

abbrev letter : ℕ → List (List ℕ) → ℕ
letter k [] = 0
letter k (w ∷ ws) = get_or w k 0

answer_told : (a b : Answer) → Fit (numbers_in_answer a) → Fit (numbers_in_answer b) → IsBytes (bytes_in_answer a) → IsBytes (bytes_in_answer b)
    → answer_name a ∷ answer_rest a ≡ answer_name b ∷ answer_rest b → a ≡ b
answer_told (Found v) (Found w) fit gits are are_too e =
    let texts : value_text v ≡ value_text w = head_same (value_text v) (value_text w) [] [] (tail_same (codes "found") (codes "found") (value_text v ∷ []) (value_text w ∷ []) e) in
    ap (λ (x : List ℕ). Found x) (value_told v w are are_too texts)
answer_told Missing Missing fit gits are are_too e = refl
answer_told Done Done fit gits are are_too e = refl
answer_told (Differs v) (Differs w) fit gits are are_too e =
    let texts : option_text v ≡ option_text w = head_same (option_text v) (option_text w) [] [] (tail_same (codes "differs") (codes "differs") (option_text v ∷ []) (option_text w ∷ []) e) in
    ap (λ (x : Option (List ℕ)). Differs x) (option_told v w (option_bytes v are) (option_bytes w are_too) texts)
answer_told (Stale m) (Stale n) fit gits are are_too e =
    let texts : decimal m ≡ decimal n = head_same (decimal m) (decimal n) [] [] (tail_same (codes "stale") (codes "stale") (decimal m ∷ []) (decimal n ∷ []) e) in
    ap (λ (x : ℕ). Stale x) (decimal_injective m n fit.0 gits.0 texts)
answer_told NoRoom NoRoom fit gits are are_too e = refl
answer_told a b fit gits are are_too e =
    let names : answer_name a ≡ answer_name b = head_same (answer_name a) (answer_name b) (answer_rest a) (answer_rest b) e in
    let first : get_or (answer_name a) 0 0 ≡ get_or (answer_name b) 0 0 = ap (λ (s : List ℕ). get_or s 0 0) names in
    let second : get_or (answer_name a) 1 0 ≡ get_or (answer_name b) 1 0 = ap (λ (s : List ℕ). get_or s 1 0) names in
    absurd (omega (arith, first, second))

kind_told : (k l : SendKind) → kind_text k ≡ kind_text l → k ≡ l
kind_told Frame Frame e = refl
kind_told Ack Ack e = refl
kind_told Part Part e = refl
kind_told k l e = let first : get_or (kind_text k) 0 0 ≡ get_or (kind_text l) 0 0 = ap (λ (s : List ℕ). get_or s 0 0) e in absurd (omega (arith, first))

state_told : (s t : State) → state_text s ≡ state_text t → s ≡ t
state_told Live Live e = refl
state_told Held Held e = refl
state_told IsOut IsOut e = refl
state_told IsDown IsDown e = refl
state_told s t e = let first : get_or (state_text s) 0 0 ≡ get_or (state_text t) 0 0 = ap (λ (x : List ℕ). get_or x 0 0) e in absurd (omega (arith, first))

members_told : (ms ns : List ℕ) → Fit ms → Fit ns → commas ms ≡ commas ns → ms ≡ ns
members_told [] [] fit gits e = refl
members_told [] (n ∷ ns) fit gits e =
    let d = first_digit n (commas_after ns) gits.0 in
    let same : get_or (commas []) 0 0 ≡ get_or (decimal n ++ commas_after ns) 0 0 = ap (λ (s : List ℕ). get_or s 0 0) (e ∙ commas-commas_after n ns) in
    absurd (omega (arith, d, same))
members_told (m ∷ ms) [] fit gits e =
    let d = first_digit m (commas_after ms) fit.0 in
    let same : get_or (commas []) 0 0 ≡ get_or (decimal m ++ commas_after ms) 0 0 = ap (λ (s : List ℕ). get_or s 0 0) (sym e ∙ commas-commas_after m ms) in
    absurd (omega (arith, d, same))
members_told (m ∷ ms) (n ∷ ns) fit gits e = commas_injective (m ∷ ms) (n ∷ ns) fit gits (omega arith) (omega arith) e

stamp_same : (s t : Stamp) → s.time ≡ t.time → s.origin ≡ t.origin → s ≡ t
stamp_same s t time origin =
    let one : s ≡ record { time = t.time; origin = s.origin } = ap (λ (x : ℕ). let made : Stamp = record { time = x; origin = s.origin } in made) time in
    let two : record { time = t.time; origin = s.origin } ≡ t = ap (λ (x : ℕ). let made : Stamp = record { time = t.time; origin = x } in made) origin in
    one ∙ two

-- as many numbers, and what comes behind them
decimals_told : (ms ns : List ℕ) (x y : List (List ℕ)) → Fit ms → Fit ns → length ms ≡ length ns → map decimal ms ++ x ≡ map decimal ns ++ y → (ms ≡ ns) × (x ≡ y)
decimals_told [] [] x y fit gits len e = (refl, e)
decimals_told [] (n ∷ ns) x y fit gits len e = absurd (omega (arith, len))
decimals_told (m ∷ ms) [] x y fit gits len e = absurd (omega (arith, len))
decimals_told (m ∷ ms) (n ∷ ns) x y fit gits len e =
    let first : m ≡ n = decimal_injective m n fit.0 gits.0 (head_same (decimal m) (decimal n) (map decimal ms ++ x) (map decimal ns ++ y) e) in
    let rest = decimals_told ms ns x y fit.1 gits.1 (omega (arith, len)) (tail_same (decimal m) (decimal n) (map decimal ms ++ x) (map decimal ns ++ y) e) in
    let later : ms ≡ ns = rest.0 in
    (cc, rest.1)

-- a name, numbers and what comes behind them
named_told : (name ms ns : List ℕ) (x y : List (List ℕ)) → Fit ms → Fit ns → length ms ≡ length ns → name ∷ (map decimal ms ++ x) ≡ name ∷ (map decimal ns ++ y) → (ms ≡ ns) × (x ≡ y)
named_told name ms ns x y fit gits len e = decimals_told ms ns x y fit gits len (tail_same name name (map decimal ms ++ x) (map decimal ns ++ y) e)

-- the same, with nothing behind them
plain_told : (name ms ns : List ℕ) → Fit ms → Fit ns → length ms ≡ length ns → name ∷ map decimal ms ≡ name ∷ map decimal ns → ms ≡ ns
plain_told name [] [] fit gits len e = refl
plain_told name [] (n ∷ ns) fit gits len e = absurd (omega (arith, len))
plain_told name (m ∷ ms) [] fit gits len e = absurd (omega (arith, len))
plain_told name (m ∷ ms) (n ∷ ns) fit gits len e =
    let tails : map decimal (m ∷ ms) ≡ map decimal (n ∷ ns) = tail_same name name (map decimal (m ∷ ms)) (map decimal (n ∷ ns)) e in
    let first : m ≡ n = decimal_injective m n fit.0 gits.0 (head_same (decimal m) (decimal n) (map decimal ms) (map decimal ns) tails) in
    let later : ms ≡ ns = plain_told name ms ns fit.1 gits.1 (omega (arith, len)) (ap (λ (s : List (List ℕ)). name ∷ s) (tail_same (decimal m) (decimal n) (map decimal ms) (map decimal ns) tails)) in
    cc

exec_told : (r p e k n q o f l i : ℕ) (s t : Stamp) (a b : Answer) → FitsLine (Exec r p e s k n a) → FitsLine (Exec q o f t l i b)
    → words_of (Exec r p e s k n a) ≡ words_of (Exec q o f t l i b) → Exec r p e s k n a ≡ Exec q o f t l i b
exec_told r p e k n q o f l i s t a b fits gits same =
    let ms : List ℕ = r ∷ p ∷ e ∷ s.time ∷ s.origin ∷ k ∷ n ∷ [] in
    let ns : List ℕ = q ∷ o ∷ f ∷ t.time ∷ t.origin ∷ l ∷ i ∷ [] in
    let u = named_told (codes "exec") ms ns (answer_name a ∷ answer_rest a) (answer_name b ∷ answer_rest b)
    (prefix_fits ms (numbers_in_answer a) fits.numbers_fit) (prefix_fits ns (numbers_in_answer b) gits.numbers_fit) refl same in
    let all : r ∷ p ∷ e ∷ s.time ∷ s.origin ∷ k ∷ n ∷ [] ≡ q ∷ o ∷ f ∷ t.time ∷ t.origin ∷ l ∷ i ∷ [] = u.0 in
    let stamp : s ≡ t = stamp_same s t (cc) (cc) in
    let answer : a ≡ b = answer_told a b (rest_fits ms (numbers_in_answer a) fits.numbers_fit) (rest_fits ns (numbers_in_answer b) gits.numbers_fit) fits.are_bytes gits.are_bytes u.1 in
    cc

-- replies differ in the fifth word
abbrev fifth : List (List ℕ) → ℕ
fifth ws = get_or (get_or ws 4 []) 0 0

fifth_differs : (vs ws : List (List ℕ)) → vs ≡ ws → fifth vs ≢ fifth ws → ⊥
fifth_differs vs ws e other = other (ap fifth e)

-- the letters of a line's name, as one number
abbrev name_letters : List (List ℕ) → ℕ
name_letters ws = letter 0 ws * 65536 + letter 1 ws * 256 + letter 2 ws

words_told : (l m : Line) → FitsLine l → FitsLine m → words_of l ≡ words_of m → l ≡ m
words_told (Boot r k) (Boot q l) fits gits e =
    let all : r ∷ k ∷ [] ≡ q ∷ l ∷ [] = plain_told (codes "boot") (r ∷ k ∷ []) (q ∷ l ∷ []) fits.numbers_fit gits.numbers_fit refl e in cc
words_told (Submit r e t k n) (Submit q f u l i) fits gits same =
    let all : r ∷ e ∷ t ∷ k ∷ n ∷ [] ≡ q ∷ f ∷ u ∷ l ∷ i ∷ [] =
    plain_told (codes "submit") (r ∷ e ∷ t ∷ k ∷ n ∷ []) (q ∷ f ∷ u ∷ l ∷ i ∷ []) fits.numbers_fit gits.numbers_fit refl same in cc
words_told (Log r e s) (Log q f t) fits gits same =
    let all : r ∷ e ∷ s.time ∷ s.origin ∷ [] ≡ q ∷ f ∷ t.time ∷ t.origin ∷ [] =
    plain_told (codes "log") (r ∷ e ∷ s.time ∷ s.origin ∷ []) (q ∷ f ∷ t.time ∷ t.origin ∷ []) fits.numbers_fit gits.numbers_fit refl same in
    let stamp : s ≡ t = stamp_same s t (cc) (cc) in
    cc
words_told (Exec r p e s k n a) (Exec q o f t l i b) fits gits same = exec_told r p e k n q o f l i s t a b fits gits same
words_told (Suspend r e) (Suspend q f) fits gits same =
    let all : r ∷ e ∷ [] ≡ q ∷ f ∷ [] = plain_told (codes "suspend") (r ∷ e ∷ []) (q ∷ f ∷ []) fits.numbers_fit gits.numbers_fit refl same in cc
words_told (Promise r i b k) (Promise q j c l) fits gits same =
    let all : r ∷ i ∷ b ∷ k ∷ [] ≡ q ∷ j ∷ c ∷ l ∷ [] =
    plain_told (codes "promise") (r ∷ i ∷ b ∷ k ∷ []) (q ∷ j ∷ c ∷ l ∷ []) fits.numbers_fit gits.numbers_fit refl same in cc
words_told (Accept r i b k) (Accept q j c l) fits gits same =
    let all : r ∷ i ∷ b ∷ k ∷ [] ≡ q ∷ j ∷ c ∷ l ∷ [] =
    plain_told (codes "accept") (r ∷ i ∷ b ∷ k ∷ []) (q ∷ j ∷ c ∷ l ∷ []) fits.numbers_fit gits.numbers_fit refl same in cc
words_told (Decide r e ms b k) (Decide q f ns c l) fits gits same =
    let x = fits.numbers_fit in
    let y = gits.numbers_fit in
    let u = named_told (codes "decide") (r ∷ e ∷ []) (q ∷ f ∷ []) (commas ms ∷ map decimal (b ∷ k ∷ [])) (commas ns ∷ map decimal (c ∷ l ∷ []))
    (x.0, (x.1.0, tt)) (y.0, (y.1.0, tt)) refl same in
    let first : r ∷ e ∷ [] ≡ q ∷ f ∷ [] = u.0 in
    let members : ms ≡ ns = members_told ms ns x.1.1.1.1 y.1.1.1.1 (head_same (commas ms) (commas ns) (map decimal (b ∷ k ∷ [])) (map decimal (c ∷ l ∷ [])) u.1) in
    let last : b ∷ k ∷ [] ≡ c ∷ l ∷ [] =
    plain_told (commas ns) (b ∷ k ∷ []) (c ∷ l ∷ []) (x.1.1.0, (x.1.1.1.0, tt)) (y.1.1.0, (y.1.1.1.0, tt)) refl
    (ap (λ (s : List (List ℕ)). commas ns ∷ s) (tail_same (commas ms) (commas ns) (map decimal (b ∷ k ∷ [])) (map decimal (c ∷ l ∷ [])) u.1)) in
    cc
words_told (Enter r e) (Enter q f) fits gits same =
    let all : r ∷ e ∷ [] ≡ q ∷ f ∷ [] = plain_told (codes "enter") (r ∷ e ∷ []) (q ∷ f ∷ []) fits.numbers_fit gits.numbers_fit refl same in cc
words_told (TooMany r e k b) (TooMany q f l c) fits gits same =
    let all : r ∷ e ∷ k ∷ b ∷ [] ≡ q ∷ f ∷ l ∷ c ∷ [] =
    plain_told (codes "toomany") (r ∷ e ∷ k ∷ b ∷ []) (q ∷ f ∷ l ∷ c ∷ []) fits.numbers_fit gits.numbers_fit refl same in cc
words_told (Send i f t k b) (Send j g u l d) fits gits same =
    let x = named_told (codes "send") (i ∷ f ∷ t ∷ []) (j ∷ g ∷ u ∷ []) (kind_text k ∷ encode_lower b ∷ []) (kind_text l ∷ encode_lower d ∷ []) fits.numbers_fit gits.numbers_fit refl same in
    let first : i ∷ f ∷ t ∷ [] ≡ j ∷ g ∷ u ∷ [] = x.0 in
    let kind : k ≡ l = kind_told k l (head_same (kind_text k) (kind_text l) (encode_lower b ∷ []) (encode_lower d ∷ []) x.1) in
    let rest = tail_same (kind_text k) (kind_text l) (encode_lower b ∷ []) (encode_lower d ∷ []) x.1 in
    let bytes : b ≡ d = hex_injective b d fits.are_bytes gits.are_bytes (head_same (encode_lower b) (encode_lower d) [] [] rest) in
    cc
words_told (ReplyOk r k n p a) (ReplyOk q l i o b) fits gits same =
    let x = fits.numbers_fit in
    let y = gits.numbers_fit in
    let u = named_told (codes "reply") (r ∷ k ∷ n ∷ []) (q ∷ l ∷ i ∷ []) (codes "ok" ∷ decimal p ∷ answer_name a ∷ answer_rest a) (codes "ok" ∷ decimal o ∷ answer_name b ∷ answer_rest b)
    (x.0, (x.1.0, (x.1.1.0, tt))) (y.0, (y.1.0, (y.1.1.0, tt))) refl same in
    let first : r ∷ k ∷ n ∷ [] ≡ q ∷ l ∷ i ∷ [] = u.0 in
    let v = named_told (codes "ok") (p ∷ []) (o ∷ []) (answer_name a ∷ answer_rest a) (answer_name b ∷ answer_rest b) (x.1.1.1.0, tt) (y.1.1.1.0, tt) refl u.1 in
    let place : p ∷ [] ≡ o ∷ [] = v.0 in
    let answer : a ≡ b = answer_told a b x.1.1.1.1 y.1.1.1.1 fits.are_bytes gits.are_bytes v.1 in
    cc
words_told (ReplyNo r k n c) (ReplyNo q l i d) fits gits same =
    let x = fits.numbers_fit in
    let y = gits.numbers_fit in
    let u = named_told (codes "reply") (r ∷ k ∷ n ∷ []) (q ∷ l ∷ i ∷ []) (codes "no" ∷ map decimal (c ∷ [])) (codes "no" ∷ map decimal (d ∷ []))
    (x.0, (x.1.0, (x.1.1.0, tt))) (y.0, (y.1.0, (y.1.1.0, tt))) refl same in
    let first : r ∷ k ∷ n ∷ [] ≡ q ∷ l ∷ i ∷ [] = u.0 in
    let last : c ∷ [] ≡ d ∷ [] = plain_told (codes "no") (c ∷ []) (d ∷ []) x.1.1.1 y.1.1.1 refl u.1 in
    cc
words_told (ReplyDropped r k n e s) (ReplyDropped q l i f t) fits gits same =
    let x = fits.numbers_fit in
    let y = gits.numbers_fit in
    let u = named_told (codes "reply") (r ∷ k ∷ n ∷ []) (q ∷ l ∷ i ∷ []) (codes "no" ∷ map decimal (6 ∷ e ∷ s.time ∷ s.origin ∷ [])) (codes "no" ∷ map decimal (6 ∷ f ∷ t.time ∷ t.origin ∷ []))
    (x.0, (x.1.0, (x.1.1.0, tt))) (y.0, (y.1.0, (y.1.1.0, tt))) refl same in
    let first : r ∷ k ∷ n ∷ [] ≡ q ∷ l ∷ i ∷ [] = u.0 in
    let last : 6 ∷ e ∷ s.time ∷ s.origin ∷ [] ≡ 6 ∷ f ∷ t.time ∷ t.origin ∷ [] =
    plain_told (codes "no") (6 ∷ e ∷ s.time ∷ s.origin ∷ []) (6 ∷ f ∷ t.time ∷ t.origin ∷ []) (omega arith, x.1.1.1) (omega arith, y.1.1.1) refl u.1 in
    let stamp : s ≡ t = stamp_same s t (cc) (cc) in
    cc
words_told (Down r) (Down q) fits gits same =
    let all : r ∷ [] ≡ q ∷ [] = plain_told (codes "down") (r ∷ []) (q ∷ []) fits.numbers_fit gits.numbers_fit refl same in cc
words_told (Final r s k x) (Final q t l y) fits gits same =
    let f = fits.numbers_fit in
    let g = gits.numbers_fit in
    let u = named_told (codes "final") (r ∷ []) (q ∷ []) (state_text s ∷ map decimal (k ∷ x ∷ [])) (state_text t ∷ map decimal (l ∷ y ∷ [])) (f.0, tt) (g.0, tt) refl same in
    let first : r ∷ [] ≡ q ∷ [] = u.0 in
    let state : s ≡ t = state_told s t (head_same (state_text s) (state_text t) (map decimal (k ∷ x ∷ [])) (map decimal (l ∷ y ∷ [])) u.1) in
    let last : k ∷ x ∷ [] ≡ l ∷ y ∷ [] =
    plain_told (state_text t) (k ∷ x ∷ []) (l ∷ y ∷ []) f.1 g.1 refl
    (ap (λ (z : List (List ℕ)). state_text t ∷ z) (tail_same (state_text s) (state_text t) (map decimal (k ∷ x ∷ [])) (map decimal (l ∷ y ∷ [])) u.1)) in
    cc
words_told (Out r b) (Out q d) fits gits same =
    let u = named_told (codes "out") (r ∷ []) (q ∷ []) (encode_lower b ∷ []) (encode_lower d ∷ []) fits.numbers_fit gits.numbers_fit refl same in
    let first : r ∷ [] ≡ q ∷ [] = u.0 in
    let bytes : b ≡ d = hex_injective b d fits.are_bytes gits.are_bytes (head_same (encode_lower b) (encode_lower d) [] [] u.1) in
    cc
words_told (Back a b) (Back c d) fits gits same =
    let u = named_told (codes "back") (a ∷ []) (c ∷ []) (encode_lower b ∷ []) (encode_lower d ∷ []) fits.numbers_fit gits.numbers_fit refl same in
    let first : a ∷ [] ≡ c ∷ [] = u.0 in
    let bytes : b ≡ d = hex_injective b d fits.are_bytes gits.are_bytes (head_same (encode_lower b) (encode_lower d) [] [] u.1) in
    cc
words_told (ReplyOk r k n p a) (ReplyNo q l i d) fits gits same = absurd (fifth_differs (words_of (ReplyOk r k n p a)) (words_of (ReplyNo q l i d)) same (λ e. omega (arith, e)))
words_told (ReplyOk r k n p a) (ReplyDropped q l i f t) fits gits same =
    absurd (fifth_differs (words_of (ReplyOk r k n p a)) (words_of (ReplyDropped q l i f t)) same (λ e. omega (arith, e)))
words_told (ReplyNo q l i d) (ReplyOk r k n p a) fits gits same = absurd (fifth_differs (words_of (ReplyNo q l i d)) (words_of (ReplyOk r k n p a)) same (λ e. omega (arith, e)))
words_told (ReplyDropped q l i f t) (ReplyOk r k n p a) fits gits same =
    absurd (fifth_differs (words_of (ReplyDropped q l i f t)) (words_of (ReplyOk r k n p a)) same (λ e. omega (arith, e)))
words_told (ReplyNo r k n c) (ReplyDropped q l i f t) fits gits same =
    let lengths : length (words_of (ReplyNo r k n c)) ≡ length (words_of (ReplyDropped q l i f t)) = ap length same in absurd (omega (arith, lengths))
words_told (ReplyDropped q l i f t) (ReplyNo r k n c) fits gits same =
    let lengths : length (words_of (ReplyDropped q l i f t)) ≡ length (words_of (ReplyNo r k n c)) = ap length same in absurd (omega (arith, lengths))
words_told l m fits gits same =
    let names : name_letters (words_of l) ≡ name_letters (words_of m) = ap name_letters same in absurd (omega (arith, names))

-- ---- one line for each text

-- words without a space are told by what they are together
spaced_told : (vs ws : List (List ℕ)) → AllByRecursion (Lacks 32) vs → AllByRecursion (Lacks 32) ws → 1 ≤ length vs → 1 ≤ length ws → spaced vs ≡ spaced ws → vs ≡ ws
spaced_told [] ws p q some some_too e = absurd (omega (arith, some))
spaced_told (v ∷ vs) [] p q some some_too e = absurd (omega (arith, some_too))
spaced_told (v ∷ []) (w ∷ []) p q some some_too e = ap (λ (s : List ℕ). s ∷ []) e
spaced_told (v ∷ []) (w ∷ x ∷ ws) p q some some_too e = absurd (lacks_not 32 v w (spaced (x ∷ ws)) p.0 e)
spaced_told (v ∷ u ∷ vs) (w ∷ []) p q some some_too e = absurd (lacks_not 32 w v (spaced (u ∷ vs)) q.0 (sym e))
spaced_told (v ∷ u ∷ vs) (w ∷ x ∷ ws) p q some some_too e =
    let s = split_unique 32 v w (spaced (u ∷ vs)) (spaced (x ∷ ws)) p.0 q.0 e in
    let first : v ≡ w = s.0 in
    let rest : u ∷ vs ≡ x ∷ ws = spaced_told (u ∷ vs) (x ∷ ws) p.1 q.1 (omega arith) (omega arith) s.1 in
    cc

-- the number before a line
abbrev prefix : ℕ → Line → List (List ℕ)
prefix at (Final r s k x) = []
prefix at line = decimal at ∷ []

abbrev printed_words : Printed → List (List ℕ)
printed_words p = prefix p.at p.line ++ words_of p.line

-- a line with no number is a final line, and any other has one
data Fronted (at : ℕ) (l : Line) : Type 0 where
  unnumbered : number_before at l ≡ None → prefix at l ≡ [] → letter 0 (words_of l) ≡ 102 → Fronted at l
  numbered_by : number_before at l ≡ Some at → prefix at l ≡ decimal at ∷ [] → Fronted at l

fronted : (at : ℕ) (l : Line) → Fronted at l
fronted at (Final r s k x) = unnumbered refl refl refl
fronted at l = numbered_by refl refl

some_words : (l : Line) → 1 ≤ length (words_of l)
some_words (Boot r k) = omega arith
some_words l = omega arith

length_then : (xs ys : List (List ℕ)) → 1 ≤ length ys → 1 ≤ length (xs ++ ys)
length_then [] ys some = some
length_then (x ∷ xs) ys some = omega arith

line_is : (at : ℕ) (l : Line) → line_text at l ≡ spaced (prefix at l ++ words_of l) ++ 10 ∷ []
line_is at (Final r s k x) = ap (λ (y : List ℕ). y ++ 10 ∷ []) (words_are (Final r s k x))
line_is at l = ap (λ (y : List ℕ). decimal at ++ 32 ∷ (y ++ 10 ∷ [])) (words_are l) ∙ sym (append_assoc (decimal at) (32 ∷ spaced (words_of l)) (10 ∷ []))

front_lacks : (c at : ℕ) (l : Line) → c < 44 → at < 2 ^ 64 → AllByRecursion (Lacks c) (prefix at l)
front_lacks c at (Final r s k x) low fits = tt
front_lacks c at l low fits = (Lacks-decimal c at (omega (arith, low)) fits, tt)

printed_lacks : (c : ℕ) (p : Printed) → 0 < c → c < 44 → FitsPrinted p → AllByRecursion (Lacks c) (printed_words p)
printed_lacks c p pos low fits = all_then (Lacks c) (prefix p.at p.line) (words_of p.line) (front_lacks c p.at p.line low fits.at_fits) (words_lack c p.line pos low fits.line_fits)

no_feed : (p : Printed) → FitsPrinted p → Lacks 10 (spaced (printed_words p))
no_feed p fits = Lacks-join 10 32 (printed_words p) (λ e. absurd (omega (arith, e))) (printed_lacks 10 p (omega arith) (omega arith) fits)

abbrev told_of : Printed → Option ℕ × Line
told_of p = (number_before p.at p.line, p.line)

abbrev numbered_line : Option ℕ → Line → Option ℕ × Line
numbered_line at line = (at, line)

pair_same : (a b : Option ℕ) (l m : Line) → a ≡ b → l ≡ m → numbered_line a l ≡ numbered_line b m
pair_same a b l m x y = ap (λ (at : Option ℕ). numbered_line at l) x ∙ ap (λ (line : Line). numbered_line b line) y

-- a number does not begin as a final line does
not_final : (at : ℕ) (ws vs : List (List ℕ)) → at < 2 ^ 64 → letter 0 vs ≡ 102 → decimal at ∷ ws ≢ vs
not_final at ws vs fits final e =
    let d = first_digit at [] fits in
    let first : letter 0 (decimal at ∷ ws) ≡ letter 0 vs = ap (letter 0) e in
    let same : get_or (decimal at ++ []) 0 0 ≡ get_or (decimal at) 0 0 = ap (λ (s : List ℕ). get_or s 0 0) (append-nil (decimal at)) in
    omega (arith, d, first, same, final)

printed_told : (p q : Printed) → FitsPrinted p → FitsPrinted q → printed_words p ≡ printed_words q → told_of p ≡ told_of q
printed_told p q fits gits e = elim (fronted p.at p.line) [
  | unnumbered a b c ↦ elim (fronted q.at q.line) [
    | unnumbered x y z ↦
        let words : words_of p.line ≡ words_of q.line = ap (λ (s : List (List ℕ)). s ++ words_of p.line) (sym b) ∙ e ∙ ap (λ (s : List (List ℕ)). s ++ words_of q.line) y in
        pair_same (number_before p.at p.line) (number_before q.at q.line) p.line q.line (a ∙ sym x) (words_told p.line q.line fits.line_fits gits.line_fits words)
    | numbered_by x y ↦
        absurd (not_final q.at (words_of q.line) (words_of p.line) gits.at_fits c
        (ap (λ (s : List (List ℕ)). s ++ words_of q.line) (sym y) ∙ sym e ∙ ap (λ (s : List (List ℕ)). s ++ words_of p.line) b))
  ]
  | numbered_by a b ↦ elim (fronted q.at q.line) [
    | unnumbered x y z ↦
        absurd (not_final p.at (words_of p.line) (words_of q.line) fits.at_fits z
        (ap (λ (s : List (List ℕ)). s ++ words_of p.line) (sym b) ∙ e ∙ ap (λ (s : List (List ℕ)). s ++ words_of q.line) y))
    | numbered_by x y ↦
        let all : decimal p.at ∷ words_of p.line ≡ decimal q.at ∷ words_of q.line =
        ap (λ (s : List (List ℕ)). s ++ words_of p.line) (sym b) ∙ e ∙ ap (λ (s : List (List ℕ)). s ++ words_of q.line) y in
        let at : p.at ≡ q.at = decimal_injective p.at q.at fits.at_fits gits.at_fits (head_same (decimal p.at) (decimal q.at) (words_of p.line) (words_of q.line) all) in
        let words : words_of p.line ≡ words_of q.line = tail_same (decimal p.at) (decimal q.at) (words_of p.line) (words_of q.line) all in
        pair_same (number_before p.at p.line) (number_before q.at q.line) p.line q.line (a ∙ ap (λ (n : ℕ). Some n) at ∙ sym x)
        (words_told p.line q.line fits.line_fits gits.line_fits words)
  ]
]

-- the first line before all that follows
first_text_is : (p : Printed) (ps : List Printed) → printed_text (p ∷ ps) ≡ spaced (printed_words p) ++ 10 ∷ printed_text ps
first_text_is p ps = ap (λ (s : List ℕ). s ++ printed_text ps) (line_is p.at p.line) ∙ append_assoc (spaced (printed_words p)) (10 ∷ []) (printed_text ps)

pub transcripts_are_one : TranscriptsAreOne
transcripts_are_one [] [] fit gits e = refl
transcripts_are_one [] (q ∷ qs) fit gits e = absurd (lacks_not 10 [] (spaced (printed_words q)) (printed_text qs) tt (e ∙ first_text_is q qs))
transcripts_are_one (p ∷ ps) [] fit gits e = absurd (lacks_not 10 [] (spaced (printed_words p)) (printed_text ps) tt (sym e ∙ first_text_is p ps))
transcripts_are_one (p ∷ ps) (q ∷ qs) fit gits e =
    let cut = split_unique 10 (spaced (printed_words p)) (spaced (printed_words q)) (printed_text ps) (printed_text qs) (no_feed p fit.0) (no_feed q gits.0)
    (sym (first_text_is p ps) ∙ e ∙ first_text_is q qs) in
    let words : printed_words p ≡ printed_words q =
    spaced_told (printed_words p) (printed_words q) (printed_lacks 32 p (omega arith) (omega arith) fit.0) (printed_lacks 32 q (omega arith) (omega arith) gits.0)
    (length_then (prefix p.at p.line) (words_of p.line) (some_words p.line)) (length_then (prefix q.at q.line) (words_of q.line) (some_words q.line)) cut.0 in
    let first : told_of p ≡ told_of q = printed_told p q fit.0 gits.0 words in
    let rest : lines_of ps ≡ lines_of qs = transcripts_are_one ps qs fit.1 gits.1 cut.1 in
    cc
