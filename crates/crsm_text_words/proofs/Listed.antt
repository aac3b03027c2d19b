-- Addresses with a comma between each two, read one at a time.
use Rattle.std.proofs.Common.{◌≡◌, ◌≢◌, ◌≤◌, ◌<◌, ◌^◌, ◌+◌, ℕ, length, List, [], ◌∷◌, ◌++◌, refl, ap, sym, ◌∙◌, arith, append_assoc}
use Rattle.std.specs.List.{AllByRecursion}
use Rattle.crsm_text.specs.Words.{Lacks}
use Rattle.crsm_text.proofs.WordsLemmas.{split_unique, lacks_not}
use Rattle.crsm_text_words.specs.Addresses.{address_text, addresses_text}
use Rattle.crsm_text_words.proofs.AddressLaws.{lacks_comma}

abbrev pub Fit : List ℕ → Type 0
Fit ns = AllByRecursion (λ n. n < 2 ^ 48) ns

pub Fit-push : (ns : List ℕ) (n : ℕ) → Fit ns → n < 2 ^ 48 → Fit (ns ++ n ∷ [])
Fit-push [] n fit small = (small, tt)
Fit-push (m ∷ ns) n fit small = (fit.0, Fit-push ns n fit.1 small)

pub addresses-cons : (n : ℕ) (ns : List ℕ) → 1 ≤ length ns → addresses_text (n ∷ ns) ≡ address_text n ++ 44 ∷ addresses_text ns
addresses-cons n [] some = absurd (omega (arith, some))
addresses-cons n (m ∷ ns) some = refl

-- of these addresses some were read, and the rest is spelt by what is left
pub record Ahead (all read : List ℕ) (left : List ℕ) : Type 0 where
  pub next : ℕ
  pub later : List ℕ
  pub is : all ≡ read ++ next ∷ later
  pub fits : next < 2 ^ 48
  pub later_fit : Fit later
  pub text : left ≡ addresses_text (next ∷ later)

pub ahead_all : (ns left : List ℕ) → Fit ns → 1 ≤ length ns → left ≡ addresses_text ns → Ahead ns [] left
ahead_all [] left fit some e = absurd (omega (arith, some))
ahead_all (n ∷ ns) left fit some e = record { next = n; later = ns; is = refl; fits = fit.0; later_fit = fit.1; text = e }

-- what stands before a comma is the next address
pub ahead_prefix : (n : ℕ) (later prefix behind : List ℕ) → n < 2 ^ 48 → Lacks 44 prefix → prefix ++ 44 ∷ behind ≡ addresses_text (n ∷ later)
    → (prefix ≡ address_text n) × (1 ≤ length later) × (behind ≡ addresses_text later)
ahead_prefix n [] prefix behind fits lacks e = absurd (lacks_not 44 (address_text n) prefix behind (lacks_comma n fits) (sym e))
ahead_prefix n (m ∷ later) prefix behind fits lacks e =
    let s = split_unique 44 prefix (address_text n) behind (addresses_text (m ∷ later)) lacks (lacks_comma n fits) e in
    (s.0, omega arith, s.1)

pub ahead_next : (ns read left : List ℕ) (prefix behind : List ℕ) → Ahead ns read left → Lacks 44 prefix → left ≡ prefix ++ 44 ∷ behind
    → (n : ℕ) × (n < 2 ^ 48) × (prefix ≡ address_text n) × Ahead ns (read ++ n ∷ []) behind
ahead_next ns read left prefix behind a lacks e =
    let f = ahead_prefix a.next a.later prefix behind a.fits lacks (sym e ∙ a.text) in
    let b = ahead_all a.later behind a.later_fit f.1 f.2 in (
      a.next,
      a.fits,
      f.0,
      record {
        next = b.next;
        later = b.later;
        is = a.is ∙ ap (λ (s : List ℕ). read ++ a.next ∷ s) b.is ∙ sym (append_assoc read (a.next ∷ []) (b.next ∷ b.later));
        fits = b.fits;
        later_fit = b.later_fit;
        text = b.text;
      },
    )

-- without a comma one address is left
pub ahead_last : (ns read left : List ℕ) → Ahead ns read left → ((prefix behind : List ℕ) → Lacks 44 prefix → left ≢ prefix ++ 44 ∷ behind)
    → (n : ℕ) × (n < 2 ^ 48) × (left ≡ address_text n) × (ns ≡ read ++ n ∷ [])
ahead_last ns read left a none = last_by a.next a.later a.is a.fits a.text where
  last_by : (n : ℕ) (later : List ℕ) → ns ≡ read ++ n ∷ later → n < 2 ^ 48 → left ≡ addresses_text (n ∷ later)
      → (n : ℕ) × (n < 2 ^ 48) × (left ≡ address_text n) × (ns ≡ read ++ n ∷ [])
  last_by n [] is fits text = (n, fits, text, is)
  last_by n (m ∷ later) is fits text = absurd (none (address_text n) (addresses_text (m ∷ later)) (lacks_comma n fits) text)
