-- Numbers with a comma between each two, read one at a time.
use Rattle.std.proofs.Common.{◌≡◌, ◌≢◌, ◌≤◌, ◌<◌, ◌^◌, ◌+◌, ℕ, length, List, [], ◌∷◌, ◌++◌, decimal, refl, ap, sym, ◌∙◌, arith, append_assoc}
use Rattle.std.specs.List.{AllByRecursion}
use Rattle.crsm_base.specs.Members.{RisesWithin, IsMembers}
use Rattle.crsm_text.specs.Words.{Lacks, commas}
use Rattle.crsm_text.proofs.WordsLemmas.{Lacks-decimal, split_unique, lacks_not}

abbrev pub Fit : List ℕ → Type 0
Fit ns = AllByRecursion (λ n. n < 2 ^ 64) ns

pub Fit-push : (ns : List ℕ) (n : ℕ) → Fit ns → n < 2 ^ 64 → Fit (ns ++ n ∷ [])
Fit-push [] n fit small = (small, tt)
Fit-push (m ∷ ns) n fit small = (fit.0, Fit-push ns n fit.1 small)

pub commas-cons : (n : ℕ) (ns : List ℕ) → 1 ≤ length ns → commas (n ∷ ns) ≡ decimal n ++ 44 ∷ commas ns
commas-cons n [] some = absurd (omega (arith, some))
commas-cons n (m ∷ ns) some = refl

-- of these numbers some were read, and the rest is spelt by what is left
pub record Ahead (numbers read : List ℕ) (left : List ℕ) : Type 0 where
  pub next : ℕ
  pub later : List ℕ
  pub is : numbers ≡ read ++ next ∷ later
  pub fits : next < 2 ^ 64
  pub later_fit : Fit later
  pub text : left ≡ commas (next ∷ later)

pub ahead_all : (ns left : List ℕ) → Fit ns → 1 ≤ length ns → left ≡ commas ns → Ahead ns [] left
ahead_all [] left fit some e = absurd (omega (arith, some))
ahead_all (n ∷ ns) left fit some e = record { next = n; later = ns; is = refl; fits = fit.0; later_fit = fit.1; text = e }

-- what stands before a comma is the next number
pub ahead_prefix : (n : ℕ) (later prefix behind : List ℕ) → n < 2 ^ 64 → Lacks 44 prefix → prefix ++ 44 ∷ behind ≡ commas (n ∷ later)
    → (prefix ≡ decimal n) × (1 ≤ length later) × (behind ≡ commas later)
ahead_prefix n [] prefix behind fits lacks e = absurd (lacks_not 44 (decimal n) prefix behind (Lacks-decimal 44 n (omega arith) fits) (sym e))
ahead_prefix n (m ∷ later) prefix behind fits lacks e =
    let s = split_unique 44 prefix (decimal n) behind (commas (m ∷ later)) lacks (Lacks-decimal 44 n (omega arith) fits) e in
    (s.0, omega arith, s.1)

pub ahead_next : (ns read left : List ℕ) (prefix behind : List ℕ) → Ahead ns read left → Lacks 44 prefix → left ≡ prefix ++ 44 ∷ behind
    → (n : ℕ) × (n < 2 ^ 64) × (prefix ≡ decimal n) × Ahead ns (read ++ n ∷ []) behind
ahead_next ns read left prefix behind a lacks e =
    let f = ahead_prefix a.next a.later prefix behind a.fits lacks (sym e ∙ a.text) in
    let b = ahead_all a.later behind a.later_fit f.1 f.2 in (
      a.next,
      a.fits,
      f.0,
      record {
        next = b.next;
        later = b.later;
        is = a.is ∙ ap (λ (s : List ℕ). read ++ a.next ∷ s) b.is ∙ sym (append_assoc read (a.next ∷ []) (b.next ∷ b.later));
        fits = b.fits;
        later_fit = b.later_fit;
        text = b.text;
      },
    )

-- without a comma one number is left
pub ahead_last : (ns read left : List ℕ) → Ahead ns read left → ((prefix behind : List ℕ) → Lacks 44 prefix → left ≢ prefix ++ 44 ∷ behind)
    → (n : ℕ) × (n < 2 ^ 64) × (left ≡ decimal n) × (ns ≡ read ++ n ∷ [])
ahead_last ns read left a none = last_by a.next a.later a.is a.fits a.text where
  last_by : (n : ℕ) (later : List ℕ) → ns ≡ read ++ n ∷ later → n < 2 ^ 64 → left ≡ commas (n ∷ later)
      → (n : ℕ) × (n < 2 ^ 64) × (left ≡ decimal n) × (ns ≡ read ++ n ∷ [])
  last_by n [] is fits text = (n, fits, text, is)
  last_by n (m ∷ later) is fits text = absurd (none (decimal n) (commas (m ∷ later)) (Lacks-decimal 44 n (omega arith) fits) text)

rises_fit : (low : ℕ) (ks : List ℕ) → RisesWithin low 15 ks → Fit ks
rises_fit low [] rises = tt
rises_fit low (k ∷ ks) rises = (omega (arith, rises.1), rises_fit (k + 1) ks rises.2)

rises_below : (low : ℕ) (ks : List ℕ) → RisesWithin low 15 ks → AllByRecursion (λ n. n < 15) ks
rises_below low [] rises = tt
rises_below low (k ∷ ks) rises = (rises.1, rises_below (k + 1) ks rises.2)

pub members_fit : (ks : List ℕ) → IsMembers ks → Fit ks
members_fit [] are = absurd are
members_fit (k ∷ ks) are = rises_fit 0 (k ∷ ks) are

pub members_below : (ks : List ℕ) → IsMembers ks → AllByRecursion (λ n. n < 15) ks
members_below [] are = absurd are
members_below (k ∷ ks) are = rises_below 0 (k ∷ ks) are

pub members_some : (ks : List ℕ) → IsMembers ks → 1 ≤ length ks
members_some [] are = absurd are
members_some (k ∷ ks) are = omega arith
