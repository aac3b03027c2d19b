-- The first letters of an event's text determine its kind, and the parts of an event that is cut.
use Rattle.std.proofs.Common.{◌≡◌, ◌≢◌, ℕ, ◌^◌, ◌<◌, ◌≤◌, List, ◌∷◌, ◌++◌, get_or, codes, decimal, refl, ap, sym, arith}
use Rattle.crsm_text.specs.Words.{commas}
use Rattle.crsm_text.proofs.TextLaws.{first_digit}
use Rattle.crsm_schedule.specs.declared.event.Single.{Single}
use Rattle.crsm_schedule.specs.declared.event.Single.TheVariants.{Request, Go, Again, Tick, Suspect, Junk}
use Rattle.crsm_schedule.specs.declared.event.Event.{Event}
use Rattle.crsm_schedule.specs.declared.event.Event.TheVariants.{One, CutLost, CutKept, CutLostBatch, CutAt}
use Rattle.crsm_schedule.specs.Grammar.{FitsBatch, FitsSingle, FitsEvent, batch_text, single_text, event_text}

-- the first letters of a step of one replica are those of no other line
pub record SingleMarks (first second : ℕ) : Type 0 where
  pub lose : first ≢ 108
  pub cut : first ≢ 99
  pub batch : first ≢ 98
  pub suspect : first ≡ 115 → second ≡ 117

pub single_marks : (s : Single) → SingleMarks (get_or (single_text s) 0 0) (get_or (single_text s) 1 0)
single_marks (Request r t c) = record { lose = λ e. omega (arith, e); cut = λ e. omega (arith, e); batch = λ e. omega (arith, e); suspect = λ e. absurd (omega (arith, e)) }
single_marks (Go i t) = record { lose = λ e. omega (arith, e); cut = λ e. omega (arith, e); batch = λ e. omega (arith, e); suspect = λ e. absurd (omega (arith, e)) }
single_marks (Again i t) = record { lose = λ e. omega (arith, e); cut = λ e. omega (arith, e); batch = λ e. omega (arith, e); suspect = λ e. absurd (omega (arith, e)) }
single_marks (Tick r t) = record { lose = λ e. omega (arith, e); cut = λ e. omega (arith, e); batch = λ e. omega (arith, e); suspect = λ e. absurd (omega (arith, e)) }
single_marks (Suspect r t m) = record { lose = λ e. omega (arith, e); cut = λ e. omega (arith, e); batch = λ e. omega (arith, e); suspect = λ e. refl }
single_marks (Junk r t b) = record { lose = λ e. omega (arith, e); cut = λ e. omega (arith, e); batch = λ e. omega (arith, e); suspect = λ e. absurd (omega (arith, e)) }

pub letters : (k : ℕ) (x y : List ℕ) → x ≡ y → get_or x k 0 ≡ get_or y k 0
letters k x y e = ap (λ (s : List ℕ). get_or s k 0) e

pub kept_is_not_lost : (k : ℕ) (x y : List ℕ) → k < 2 ^ 64 → decimal k ++ 32 ∷ x ≢ 108 ∷ y
kept_is_not_lost k x y fits e = let d = first_digit k (32 ∷ x) fits in let same = letters 0 (decimal k ++ 32 ∷ x) (108 ∷ y) e in omega (arith, d, same)

pub kept_is_not_at : (k : ℕ) (x y : List ℕ) → k < 2 ^ 64 → decimal k ++ 32 ∷ x ≢ 97 ∷ y
kept_is_not_at k x y fits e = let d = first_digit k (32 ∷ x) fits in let same = letters 0 (decimal k ++ 32 ∷ x) (97 ∷ y) e in omega (arith, d, same)

-- the parts of a step that is stopped at the device
pub record CutAtParts (text : List ℕ) (e : Event) : Type 0 where
  pub calls : ℕ
  pub fill : ℕ
  pub single : Single
  pub is : e ≡ CutAt calls fill single
  pub few : calls ≤ 4
  pub byte : fill < 256
  pub fits : FitsSingle single
  pub split : text ≡ decimal calls ++ 32 ∷ (decimal fill ++ 32 ∷ single_text single)

pub cut_at_parts : (text : List ℕ) (e : Event) → FitsEvent e → codes "cut at " ++ text ≡ event_text e → CutAtParts text e
cut_at_parts text (CutAt k f s) fits same = record { calls = k; fill = f; single = s; is = refl; few = fits.0; byte = fits.1; fits = fits.2; split = cc }
cut_at_parts text (CutKept k s) fits same =
    absurd (kept_is_not_at k (single_text s) (116 ∷ 32 ∷ text) fits.0 (let tails : decimal k ++ 32 ∷ single_text s ≡ 97 ∷ 116 ∷ 32 ∷ text = cc in tails))
cut_at_parts text (One s) fits same = absurd ((single_marks s).cut (sym (letters 0 (codes "cut at " ++ text) (single_text s) same)))
cut_at_parts text e fits same =
    let first = letters 0 (codes "cut at " ++ text) (event_text e) same in
    let second = letters 1 (codes "cut at " ++ text) (event_text e) same in
    let fifth = letters 4 (codes "cut at " ++ text) (event_text e) same in
    absurd (omega (arith, first, second, fifth))

-- a text does not begin so
abbrev pub Lacks-prefix : List ℕ → List ℕ → Type 0
Lacks-prefix prefix text = (rest : List ℕ) → text ≢ prefix ++ rest

-- the parts of a step that is stopped before its records are kept
pub record LostParts (text : List ℕ) (e : Event) : Type 0 where
  pub single : Single
  pub is : e ≡ CutLost single
  pub fits : FitsSingle single
  pub split : text ≡ single_text single

pub lost_parts : (text : List ℕ) (e : Event) → FitsEvent e → Lacks-prefix (codes "batch ") text → codes "cut lost " ++ text ≡ event_text e → LostParts text e
lost_parts text (CutLost s) fits none same = record { single = s; is = refl; fits = fits; split = cc }
lost_parts text (CutLostBatch t ns) fits none same =
    absurd (none (decimal t ++ 32 ∷ commas ns) (let tails : text ≡ batch_text t ns = cc in tails))
lost_parts text (CutKept k s) fits none same =
    absurd (kept_is_not_lost k (single_text s) (111 ∷ 115 ∷ 116 ∷ 32 ∷ text) fits.0 (let tails : decimal k ++ 32 ∷ single_text s ≡ 108 ∷ 111 ∷ 115 ∷ 116 ∷ 32 ∷ text = cc in tails))
lost_parts text (One s) fits none same = absurd ((single_marks s).cut (sym (letters 0 (codes "cut lost " ++ text) (single_text s) same)))
lost_parts text e fits none same =
    let first = letters 0 (codes "cut lost " ++ text) (event_text e) same in
    let second = letters 1 (codes "cut lost " ++ text) (event_text e) same in
    let fifth = letters 4 (codes "cut lost " ++ text) (event_text e) same in
    absurd (omega (arith, first, second, fifth))

-- the parts of steps of a group of which the first is stopped
pub record LostBatchParts (text : List ℕ) (e : Event) : Type 0 where
  pub reading : ℕ
  pub numbers : List ℕ
  pub is : e ≡ CutLostBatch reading numbers
  pub fits : FitsBatch reading numbers
  pub split : text ≡ decimal reading ++ 32 ∷ commas numbers

pub lost_batch_parts : (text : List ℕ) (e : Event) → FitsEvent e → codes "cut lost batch " ++ text ≡ event_text e → LostBatchParts text e
lost_batch_parts text (CutLostBatch t ns) fits same = record { reading = t; numbers = ns; is = refl; fits = fits; split = cc }
lost_batch_parts text (CutLost s) fits same =
    absurd ((single_marks s).batch (letters 0 (single_text s) (codes "batch " ++ text) (let tails : single_text s ≡ codes "batch " ++ text = cc in tails)))
lost_batch_parts text (CutKept k s) fits same =
    absurd (kept_is_not_lost k (single_text s) (111 ∷ 115 ∷ 116 ∷ 32 ∷ (codes "batch " ++ text)) fits.0
    (let tails : decimal k ++ 32 ∷ single_text s ≡ 108 ∷ 111 ∷ 115 ∷ 116 ∷ 32 ∷ (codes "batch " ++ text) = cc in tails))
lost_batch_parts text (One s) fits same = absurd ((single_marks s).cut (sym (letters 0 (codes "cut lost batch " ++ text) (single_text s) same)))
lost_batch_parts text e fits same =
    let first = letters 0 (codes "cut lost batch " ++ text) (event_text e) same in
    let second = letters 1 (codes "cut lost batch " ++ text) (event_text e) same in
    let fifth = letters 4 (codes "cut lost batch " ++ text) (event_text e) same in
    absurd (omega (arith, first, second, fifth))
