-- Texts of events have no line feed, have bounded lengths, and differ for different events.
use Rattle.std.proofs.Common.{◌≡◌, ◌≢◌, ℕ, ◌+◌, ◌^◌, ◌<◌, ◌≤◌, List, [], ◌∷◌, ◌++◌, length, get_or, codes, decimal, refl, ap, sym, ◌∙◌, arith}
use Rattle.std.specs.List.{AllByRecursion}
use Rattle.std.proofs.lemmas.Fmt.{decimal_injective}
use Rattle.hex.specs.Hex.{encode_lower}
use Rattle.crsm_base.specs.declared.Command.{Command}
use Rattle.crsm_base.specs.declared.Op.{Op}
use Rattle.crsm_text.specs.Words.{Lacks, spaced, commas}
use Rattle.crsm_text.specs.Values.{op_text}
use Rattle.crsm_text.proofs.WordsLemmas.{Lacks-test}
use Rattle.crsm_base.proofs.MembersLemmas.{members_le}
use Rattle.crsm_text.proofs.Commas.{members_fit, members_some}
use Rattle.crsm_text.proofs.TextLaws.{no_feed_decimal, no_feed_hex, no_feed_commas, no_feed_spaced, no_feed_op, length-decimal, length-hex, length-two, length-commas, length-op, hex_injective, decimal_split, commas_injective, op_injective, first_digit}
use Rattle.crsm_schedule.specs.declared.event.Single.{Single}
use Rattle.crsm_schedule.specs.declared.event.Single.TheVariants.{Request, Go, Again, Tick, Suspect, Junk}
use Rattle.crsm_schedule.specs.declared.event.Event.{Event}
use Rattle.crsm_schedule.specs.declared.event.Event.TheVariants.{One, Lose, Crash, Start, Settle, CutLost, CutKept, Batch, CutLostBatch, CutAt}
use Rattle.crsm_schedule.specs.Grammar.{IsSize, FitsBatch, FitsSingle, FitsEvent, first_text, batch_text, single_text, event_text}
use Rattle.crsm_schedule.proofs.EventLaws.{single_marks, letters, kept_is_not_lost, kept_is_not_at}

-- ---- no line feed

no_feed_word : (word : List ℕ) → (rest : List (List ℕ)) → Lacks 10 word → AllByRecursion (Lacks 10) rest → Lacks 10 (spaced (word ∷ rest))
no_feed_word word rest lacks all = no_feed_spaced (word ∷ rest) (lacks, all)

no_feed_one : (name : List ℕ) (n : ℕ) → Lacks 10 name → n < 2 ^ 64 → Lacks 10 (spaced (name ∷ decimal n ∷ []))
no_feed_one name n lacks fits = no_feed_word name (decimal n ∷ []) lacks (no_feed_decimal n fits, tt)

no_feed_two : (name : List ℕ) (m n : ℕ) → Lacks 10 name → m < 2 ^ 64 → n < 2 ^ 64 → Lacks 10 (spaced (name ∷ decimal m ∷ decimal n ∷ []))
no_feed_two name m n lacks fits fits_too = no_feed_word name (decimal m ∷ decimal n ∷ []) lacks (no_feed_decimal m fits, (no_feed_decimal n fits_too, tt))

no_feed_three : (name : List ℕ) (m n : ℕ) (word : List ℕ) → Lacks 10 name → m < 2 ^ 64 → n < 2 ^ 64 → Lacks 10 word → Lacks 10 (spaced (name ∷ decimal m ∷ decimal n ∷ word ∷ []))
no_feed_three name m n word lacks fits fits_too last =
    no_feed_word name (decimal m ∷ decimal n ∷ word ∷ []) lacks (no_feed_decimal m fits, (no_feed_decimal n fits_too, (last, tt)))

pub no_feed_single : (s : Single) → FitsSingle s → Lacks 10 (single_text s)
no_feed_single (Request r t c) fits =
    no_feed_spaced (codes "request" ∷ decimal r ∷ decimal t ∷ decimal c.client ∷ decimal c.number ∷ op_text c.op ∷ []) (
      Lacks-test 10 (codes "request") refl,
      (
        no_feed_decimal r fits.replica_fits,
        (
          no_feed_decimal t fits.reading_fits,
          (no_feed_decimal c.client fits.command_fits.client, (no_feed_decimal c.number fits.command_fits.number, (no_feed_op c.op, tt))),
        ),
      ),
    )
no_feed_single (Go i t) fits = no_feed_two (codes "go") i t (Lacks-test 10 (codes "go") refl) fits.0 fits.1
no_feed_single (Again i t) fits = no_feed_two (codes "again") i t (Lacks-test 10 (codes "again") refl) fits.0 fits.1
no_feed_single (Tick r t) fits = no_feed_two (codes "tick") r t (Lacks-test 10 (codes "tick") refl) fits.0 fits.1
no_feed_single (Suspect r t m) fits =
    no_feed_three (codes "suspect") r t (commas m) (Lacks-test 10 (codes "suspect") refl) fits.replica_fits fits.reading_fits (no_feed_commas m (members_fit m fits.are_members))
no_feed_single (Junk r t b) fits =
    no_feed_three (codes "junk") r t (encode_lower b) (Lacks-test 10 (codes "junk") refl) fits.replica_fits fits.reading_fits (no_feed_hex b)

no_feed_batch : (t : ℕ) (ns : List ℕ) → FitsBatch t ns → Lacks 10 (batch_text t ns)
no_feed_batch t ns fits =
    no_feed_spaced (codes "batch" ∷ decimal t ∷ commas ns ∷ []) (Lacks-test 10 (codes "batch") refl, (no_feed_decimal t fits.0, (no_feed_commas ns fits.1.fit, tt)))

-- no event's text has a line feed
pub Lacks-event_text : (e : Event) → FitsEvent e → Lacks 10 (event_text e)
Lacks-event_text (One s) fits = no_feed_single s fits
Lacks-event_text (Lose n) fits = no_feed_one (codes "lose") n (Lacks-test 10 (codes "lose") refl) fits
Lacks-event_text (Crash n) fits = no_feed_one (codes "crash") n (Lacks-test 10 (codes "crash") refl) fits
Lacks-event_text (Start n) fits = no_feed_one (codes "start") n (Lacks-test 10 (codes "start") refl) fits
Lacks-event_text (Settle n) fits = no_feed_one (codes "settle") n (Lacks-test 10 (codes "settle") refl) fits
Lacks-event_text (CutLost s) fits =
    no_feed_spaced (codes "cut" ∷ codes "lost" ∷ single_text s ∷ []) (Lacks-test 10 (codes "cut") refl, (Lacks-test 10 (codes "lost") refl, (no_feed_single s fits, tt)))
Lacks-event_text (CutKept k s) fits =
    no_feed_spaced (codes "cut" ∷ decimal k ∷ single_text s ∷ []) (Lacks-test 10 (codes "cut") refl, (no_feed_decimal k fits.0, (no_feed_single s fits.1, tt)))
Lacks-event_text (Batch t ns) fits = no_feed_batch t ns fits
Lacks-event_text (CutLostBatch t ns) fits =
    no_feed_spaced (codes "cut" ∷ codes "lost" ∷ batch_text t ns ∷ []) (Lacks-test 10 (codes "cut") refl, (Lacks-test 10 (codes "lost") refl, (no_feed_batch t ns fits, tt)))
Lacks-event_text (CutAt k f s) fits =
    no_feed_spaced (codes "cut" ∷ codes "at" ∷ decimal k ∷ decimal f ∷ single_text s ∷ [])
    (Lacks-test 10 (codes "cut") refl, (Lacks-test 10 (codes "at") refl, (no_feed_decimal k (omega arith), (no_feed_decimal f (omega arith), (no_feed_single s fits.2, tt)))))

pub Lacks-first_text : (n : ℕ) → IsSize n → Lacks 10 (first_text n)
Lacks-first_text n size = no_feed_one (codes "replicas") n (Lacks-test 10 (codes "replicas") refl) (omega arith)

-- ---- lengths

length-one : (name : List ℕ) (n : ℕ) → n < 2 ^ 64 → length (spaced (name ∷ decimal n ∷ [])) ≤ length name + 21
length-one name n fits = let d = length-decimal n fits in let a = length-two 32 name (decimal n) in omega (arith, d, a)

length-word : (n : ℕ) (rest : List ℕ) → n < 2 ^ 64 → length (decimal n ++ 32 ∷ rest) ≤ 21 + length rest
length-word n rest fits = let d = length-decimal n fits in let a = length-two 32 (decimal n) rest in omega (arith, d, a)

length-numbers : (name : List ℕ) (m n : ℕ) → m < 2 ^ 64 → n < 2 ^ 64 → length (spaced (name ∷ decimal m ∷ decimal n ∷ [])) ≤ length name + 42
length-numbers name m n fits fits_too =
    let a = length-two 32 name (decimal m ++ 32 ∷ decimal n) in
    let w = length-word m (decimal n) fits in
    let d = length-decimal n fits_too in
    omega (arith, a, w, d)

length-three : (name : List ℕ) (m n : ℕ) (word : List ℕ) → m < 2 ^ 64 → n < 2 ^ 64 → length (spaced (name ∷ decimal m ∷ decimal n ∷ word ∷ [])) ≤ length name + 43 + length word
length-three name m n word fits fits_too =
    let a = length-two 32 name (decimal m ++ 32 ∷ (decimal n ++ 32 ∷ word)) in
    let w = length-word m (decimal n ++ 32 ∷ word) fits in
    let v = length-word n word fits_too in
    omega (arith, a, w, v)

pub length-single : (s : Single) → FitsSingle s → length (single_text s) ≤ 17000
length-single (Request r t c) fits =
    let o = length-op c.op fits.command_fits.op in
    let d = length-word c.number (op_text c.op) fits.command_fits.number in
    let w = length-word c.client (decimal c.number ++ 32 ∷ op_text c.op) fits.command_fits.client in
    let a = length-three (codes "request") r t (decimal c.client ++ 32 ∷ (decimal c.number ++ 32 ∷ op_text c.op)) fits.replica_fits fits.reading_fits in
    omega (arith, o, d, w, a)
length-single (Go i t) fits = let a = length-numbers (codes "go") i t fits.0 fits.1 in omega (arith, a)
length-single (Again i t) fits = let a = length-numbers (codes "again") i t fits.0 fits.1 in omega (arith, a)
length-single (Tick r t) fits = let a = length-numbers (codes "tick") r t fits.0 fits.1 in omega (arith, a)
length-single (Suspect r t m) fits =
    let few = members_le m fits.are_members in
    let w = length-commas m (members_fit m fits.are_members) in
    let a = length-three (codes "suspect") r t (commas m) fits.replica_fits fits.reading_fits in
    omega (arith, few, w, a)
length-single (Junk r t b) fits =
    let w = length-hex b in
    let few = fits.most in
    let a = length-three (codes "junk") r t (encode_lower b) fits.replica_fits fits.reading_fits in
    omega (arith, w, few, a)

length-batch : (t : ℕ) (ns : List ℕ) → FitsBatch t ns → length (batch_text t ns) ≤ 17000
length-batch t ns fits =
    let few = fits.1.most in
    let w = length-commas ns fits.1.fit in
    let v = length-word t (commas ns) fits.0 in
    let a = length-two 32 (codes "batch") (decimal t ++ 32 ∷ commas ns) in
    omega (arith, few, w, v, a)

-- each event's text is shorter than a line may be
pub length-event_text : (e : Event) → FitsEvent e → length (event_text e) ≤ 16777216
length-event_text (One s) fits = let w = length-single s fits in omega (arith, w)
length-event_text (Lose n) fits = let a = length-one (codes "lose") n fits in omega (arith, a)
length-event_text (Crash n) fits = let a = length-one (codes "crash") n fits in omega (arith, a)
length-event_text (Start n) fits = let a = length-one (codes "start") n fits in omega (arith, a)
length-event_text (Settle n) fits = let a = length-one (codes "settle") n fits in omega (arith, a)
length-event_text (CutLost s) fits = let w = length-single s fits in omega (arith, w)
length-event_text (CutKept k s) fits = let w = length-single s fits.1 in let v = length-word k (single_text s) fits.0 in omega (arith, w, v)
length-event_text (Batch t ns) fits = let w = length-batch t ns fits in omega (arith, w)
length-event_text (CutLostBatch t ns) fits = let w = length-batch t ns fits in omega (arith, w)
length-event_text (CutAt k f s) fits =
    let w = length-single s fits.2 in
    let v = length-word f (single_text s) (omega arith) in
    let u = length-word k (decimal f ++ 32 ∷ single_text s) (omega arith) in
    omega (arith, w, v, u)

pub length-first_text : (n : ℕ) → IsSize n → length (first_text n) ≤ 16777216
length-first_text n size = let a = length-one (codes "replicas") n (omega arith) in omega (arith, a)

-- ---- one event for each text

-- a name, two numbers and a word
three_split : (m n k l : ℕ) (x y : List ℕ) → m < 2 ^ 64 → n < 2 ^ 64 → k < 2 ^ 64 → l < 2 ^ 64
    → decimal m ++ 32 ∷ (decimal n ++ 32 ∷ x) ≡ decimal k ++ 32 ∷ (decimal l ++ 32 ∷ y) → (m ≡ k) × (n ≡ l) × (x ≡ y)
three_split m n k l x y fm fn fk fl e =
    let s = decimal_split m k (decimal n ++ 32 ∷ x) (decimal l ++ 32 ∷ y) fm fk e in
    let t = decimal_split n l x y fn fl s.1 in
    (s.0, t.0, t.1)

two_split : (m n k l : ℕ) → m < 2 ^ 64 → n < 2 ^ 64 → k < 2 ^ 64 → l < 2 ^ 64 → decimal m ++ 32 ∷ decimal n ≡ decimal k ++ 32 ∷ decimal l → (m ≡ k) × (n ≡ l)
two_split m n k l fm fn fk fl e =
    let s = decimal_split m k (decimal n) (decimal l) fm fk e in
    (s.0, decimal_injective n l fn fl s.1)

command_injective : (c d : Command) → c.client ≡ d.client → c.number ≡ d.number → c.op ≡ d.op → c ≡ d
command_injective c d client number op =
    let one : c ≡ record { client = d.client; number = c.number; op = c.op } = ap (λ (x : ℕ). let made : Command = record { client = x; number = c.number; op = c.op } in made) client in
    let two : record { client = d.client; number = c.number; op = c.op } ≡ record { client = d.client; number = d.number; op = c.op } =
    ap (λ (x : ℕ). let made : Command = record { client = d.client; number = x; op = c.op } in made) number in
    let three : record { client = d.client; number = d.number; op = c.op } ≡ d = ap (λ (x : Op). let made : Command = record { client = d.client; number = d.number; op = x } in made) op in
    one ∙ two ∙ three

pub single_injective : (s t : Single) → FitsSingle s → FitsSingle t → single_text s ≡ single_text t → s ≡ t
single_injective (Request r t c) (Request q u d) fits gits e =
    let a = three_split r t q u (decimal c.client ++ 32 ∷ (decimal c.number ++ 32 ∷ op_text c.op)) (decimal d.client ++ 32 ∷ (decimal d.number ++ 32 ∷ op_text d.op))
    fits.replica_fits fits.reading_fits gits.replica_fits gits.reading_fits (cc) in
    let b = three_split c.client c.number d.client d.number (op_text c.op) (op_text d.op)
    fits.command_fits.client fits.command_fits.number gits.command_fits.client gits.command_fits.number a.2 in
    let op : c.op ≡ d.op = op_injective c.op d.op fits.bytes gits.bytes b.2 in
    let command : c ≡ d = command_injective c d b.0 b.1 op in
    let replica : r ≡ q = a.0 in
    let reading : t ≡ u = a.1 in
    cc
single_injective (Go i t) (Go j u) fits gits e =
    let a = two_split i t j u fits.0 fits.1 gits.0 gits.1 (cc) in let x : i ≡ j = a.0 in let y : t ≡ u = a.1 in cc
single_injective (Again i t) (Again j u) fits gits e =
    let a = two_split i t j u fits.0 fits.1 gits.0 gits.1 (cc) in let x : i ≡ j = a.0 in let y : t ≡ u = a.1 in cc
single_injective (Tick i t) (Tick j u) fits gits e =
    let a = two_split i t j u fits.0 fits.1 gits.0 gits.1 (cc) in let x : i ≡ j = a.0 in let y : t ≡ u = a.1 in cc
single_injective (Suspect r t m) (Suspect q u n) fits gits e =
    let a = three_split r t q u (commas m) (commas n) fits.replica_fits fits.reading_fits gits.replica_fits gits.reading_fits (cc) in
    let members : m ≡ n = commas_injective m n (members_fit m fits.are_members) (members_fit n gits.are_members) (members_some m fits.are_members) (members_some n gits.are_members) a.2 in
    let replica : r ≡ q = a.0 in
    let reading : t ≡ u = a.1 in
    cc
single_injective (Junk r t b) (Junk q u d) fits gits e =
    let a = three_split r t q u (encode_lower b) (encode_lower d) fits.replica_fits fits.reading_fits gits.replica_fits gits.reading_fits (cc) in
    let bytes : b ≡ d = hex_injective b d fits.are_bytes gits.are_bytes a.2 in
    let replica : r ≡ q = a.0 in
    let reading : t ≡ u = a.1 in
    cc
single_injective s t fits gits e =
    let first : get_or (single_text s) 0 0 ≡ get_or (single_text t) 0 0 = ap (λ (x : List ℕ). get_or x 0 0) e in
    absurd (omega (arith, first))

batch_injective : (t u : ℕ) (ms ns : List ℕ) → FitsBatch t ms → FitsBatch u ns → batch_text t ms ≡ batch_text u ns → (t ≡ u) × (ms ≡ ns)
batch_injective t u ms ns fits gits e =
    let s = decimal_split t u (commas ms) (commas ns) fits.0 gits.0 (cc) in
    (s.0, commas_injective ms ns fits.1.fit gits.1.fit fits.1.some gits.1.some s.1)

single_is_not_batch : (s : Single) (t : ℕ) (ns : List ℕ) → single_text s ≢ batch_text t ns
single_is_not_batch s t ns e = (single_marks s).batch (letters 0 (single_text s) (batch_text t ns) e)

-- equal texts are those of one event
pub event_injective : (e f : Event) → FitsEvent e → FitsEvent f → event_text e ≡ event_text f → e ≡ f
event_injective (One s) (One t) fits gits e = ap (λ (x : Single). One x) (single_injective s t fits gits e)
event_injective (Lose m) (Lose n) fits gits e = ap (λ (x : ℕ). Lose x) (decimal_injective m n fits gits (cc))
event_injective (Crash m) (Crash n) fits gits e = ap (λ (x : ℕ). Crash x) (decimal_injective m n fits gits (cc))
event_injective (Start m) (Start n) fits gits e = ap (λ (x : ℕ). Start x) (decimal_injective m n fits gits (cc))
event_injective (Settle m) (Settle n) fits gits e = ap (λ (x : ℕ). Settle x) (decimal_injective m n fits gits (cc))
event_injective (CutLost s) (CutLost t) fits gits e = ap (λ (x : Single). CutLost x) (single_injective s t fits gits (cc))
event_injective (CutKept k s) (CutKept l t) fits gits e =
    let a = decimal_split k l (single_text s) (single_text t) fits.0 gits.0 (cc) in
    let sends : k ≡ l = a.0 in
    let single : s ≡ t = single_injective s t fits.1 gits.1 a.1 in
    cc
event_injective (Batch t ms) (Batch u ns) fits gits e =
    let a = batch_injective t u ms ns fits gits e in let reading : t ≡ u = a.0 in let numbers : ms ≡ ns = a.1 in cc
event_injective (CutLostBatch t ms) (CutLostBatch u ns) fits gits e =
    let a = batch_injective t u ms ns fits gits (cc) in let reading : t ≡ u = a.0 in let numbers : ms ≡ ns = a.1 in cc
event_injective (CutAt k f s) (CutAt l g t) fits gits e =
    let a = three_split k f l g (single_text s) (single_text t) (omega arith) (omega arith) (omega arith) (omega arith) (cc) in
    let calls : k ≡ l = a.0 in
    let fill : f ≡ g = a.1 in
    let single : s ≡ t = single_injective s t fits.2 gits.2 a.2 in
    cc
event_injective (CutLost s) (CutLostBatch t ns) fits gits e = absurd (single_is_not_batch s t ns (cc))
event_injective (CutLostBatch t ns) (CutLost s) fits gits e = absurd (single_is_not_batch s t ns (cc))
event_injective (CutKept k s) (CutLost t) fits gits e = absurd (kept_is_not_lost k (single_text s) (111 ∷ 115 ∷ 116 ∷ 32 ∷ single_text t) fits.0 (cc))
event_injective (CutKept k s) (CutLostBatch t ns) fits gits e = absurd (kept_is_not_lost k (single_text s) (111 ∷ 115 ∷ 116 ∷ 32 ∷ batch_text t ns) fits.0 (cc))
event_injective (CutKept k s) (CutAt l g t) fits gits e = absurd (kept_is_not_at k (single_text s) (116 ∷ 32 ∷ (decimal l ++ 32 ∷ (decimal g ++ 32 ∷ single_text t))) fits.0 (cc))
event_injective (CutLost t) (CutKept k s) fits gits e = absurd (kept_is_not_lost k (single_text s) (111 ∷ 115 ∷ 116 ∷ 32 ∷ single_text t) gits.0 (cc))
event_injective (CutLostBatch t ns) (CutKept k s) fits gits e = absurd (kept_is_not_lost k (single_text s) (111 ∷ 115 ∷ 116 ∷ 32 ∷ batch_text t ns) gits.0 (cc))
event_injective (CutAt l g t) (CutKept k s) fits gits e = absurd (kept_is_not_at k (single_text s) (116 ∷ 32 ∷ (decimal l ++ 32 ∷ (decimal g ++ 32 ∷ single_text t))) gits.0 (cc))
event_injective (One s) f fits gits e =
    let marks = single_marks s in
    let first = letters 0 (single_text s) (event_text f) e in
    let second = letters 1 (single_text s) (event_text f) e in
    absurd (omega (arith, marks.lose, marks.cut, marks.batch, marks.suspect, first, second))
event_injective e (One t) fits gits same =
    let marks = single_marks t in
    let first = letters 0 (event_text e) (single_text t) same in
    let second = letters 1 (event_text e) (single_text t) same in
    absurd (omega (arith, marks.lose, marks.cut, marks.batch, marks.suspect, first, second))
event_injective e f fits gits same =
    let first = letters 0 (event_text e) (event_text f) same in
    let second = letters 1 (event_text e) (event_text f) same in
    let fifth = letters 4 (event_text e) (event_text f) same in
    absurd (omega (arith, first, second, fifth))

pub first_injective : (m n : ℕ) → IsSize m → IsSize n → first_text m ≡ first_text n → m ≡ n
first_injective m n size size_too e = decimal_injective m n (omega arith) (omega arith) (cc)
