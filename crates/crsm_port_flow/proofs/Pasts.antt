-- Frames that are past no longer wait, and no other is lost.
use Rattle.std.proofs.Common.{◌≡◌, ◌∙◌, ◌+◌, ◌-◌, ◌*◌, ◌%◌, ◌^◌, ◌<◌, ◌≤◌, min, ℕ, List, [], ◌∷◌, length, refl, Option, Some, None, true, set, sym, ap, subst, inl, inr, arith}
use Rattle.std.proofs.lemmas.Bool.Decides.{nat_tests}
use Rattle.std.proofs.lemmas.Option.{none-some}
use Rattle.std.specs.Prelude.{◌⊎◌, Contains, nat_lt, slice_get, slice_index_or}
use Rattle.crsm_port_flow.proofs.Earlies.{get_set, set_at, set_none, set_rest}
use Rattle.crsm_port_flow.specs.Early.{AreFrames, Expects, IsFrameBelow, Learns, LosesBelow, NoneBelow, Waits, after, kept_at, least_kept, place_of}
use Rattle.crsm_port_flow.specs.Followed.{IsPast}
use Rattle.crsm_port_flow.specs.declared.datagram.Datagram.{Datagram}
use Rattle.crsm_port_flow.specs.declared.early.Frame.{Frame}
use Rattle.crsm_port_flow.specs.declared.early.Link.{Link}

pub lt_of : (a b : ℕ) → nat_lt a b ≡ true → a < b
lt_of a b test = grind (arith, nat_tests)

pub test_of : (a b : ℕ) → a < b → nat_lt a b ≡ true
test_of a b lt = grind (arith, nat_tests)

pub loses_none : (from least : ℕ) (old new : List (Option Frame)) → new ≡ old → LosesBelow from least old new
loses_none from least old new same f has = inl (subst (λ (xs : List (Option Frame)). Contains xs (Some f)) (sym same) has)

module _ (from least : ℕ) where
  -- one that is past is taken out
  pub loses_more : (start old new : List (Option Frame)) (place : ℕ) → new ≡ set old place None → IsFrameBelow from least (slice_index_or old place None) → LosesBelow from least start old → LosesBelow from least start new
  loses_more start old new place gone (g, at, sender, below) lost f has = elim (lost f has) [
    | inl waits ↦ elim (set_rest old place g at f waits) [
      | inl still ↦ inl (subst (λ (xs : List (Option Frame)). Contains xs (Some f)) (sym gone) still)
      | inr same ↦ inr (ap (λ (x : Frame). x.from) same ∙ sender, subst (λ (n : ℕ). n < least) (sym (ap (λ (x : Frame). x.number) same)) below)
    ]
    | inr past ↦ inr past
  ]

  cases : (k i : ℕ) → k < i + 1 → (k < i) ⊎ (k ≡ i)
  cases k i lt = grind arith

  module _ (old new : List (Option Frame)) (place i : ℕ) (is : place ≡ place_of from i) where
    pub none_more : place < length old → new ≡ set old place None → ((k : ℕ) → k < i → IsFrameBelow from least (kept_at from k old) → ⊥) → (k : ℕ) → k < i + 1 → IsFrameBelow from least (kept_at from k new) → ⊥
    none_more within gone before k lt (f, at, sender, below) = elim (cases k i lt) [
      | inl earlier ↦ before k earlier (f, set_none old place (place_of from k) f (subst (λ (xs : List (Option Frame)). slice_index_or xs (place_of from k) None ≡ Some f) gone at), sender, below)
      | inr here ↦
          let there : slice_index_or new (place_of from k) None ≡ None =
          subst (λ (xs : List (Option Frame)). slice_index_or xs (place_of from k) None ≡ None) (sym gone) (set_at old place (place_of from k) None (is ∙ ap (place_of from) (sym here)) within) in
          none-some f (sym there ∙ at)
    ]

    pub none_still : new ≡ old → (IsFrameBelow from least (slice_index_or old place None) → ⊥) → ((k : ℕ) → k < i → IsFrameBelow from least (kept_at from k old) → ⊥) → (k : ℕ) → k < i + 1 → IsFrameBelow from least (kept_at from k new) → ⊥
    none_still same none before k lt below = elim (cases k i lt) [
      | inl earlier ↦ before k earlier (subst (λ (xs : List (Option Frame)). IsFrameBelow from least (kept_at from k xs)) same below)
      | inr here ↦ none (subst (λ (p : ℕ). IsFrameBelow from least (slice_index_or old p None)) (ap (place_of from) here ∙ sym is) (subst (λ (xs : List (Option Frame)). IsFrameBelow from least (kept_at from k xs)) same below))
    ]

  -- all places of the sender were looked at
  pub all_gone : (frames : List (Option Frame)) (n : ℕ) → 1_024 ≤ n → ((k : ℕ) → k < n → IsFrameBelow from least (kept_at from k frames) → ⊥) → NoneBelow from least frames
  all_gone frames n le none number below (f, at, sender, is) =
      let within : number % 1_024 < n = omega (arith, le) in
      let again : (number % 1_024) % 1_024 ≡ number % 1_024 = omega arith in
      let same : place_of from number ≡ place_of from (number % 1_024) = ap (λ (m : ℕ). from % 15 * 1_024 + m) (sym again) in
      none (number % 1_024) within (f, ap (λ (p : ℕ). slice_index_or frames p None) (sym same) ∙ at, sender, subst (λ (m : ℕ). m < least) (sym is) below)

-- what is learnt of a link that is news
pub is_news : (of epoch next least k : ℕ) (link : Link) (links links_now : List Link) (frames frames_now : List (Option Frame)) → slice_get links of ≡ Some link → k ≡ of → least ≡ least_kept epoch next link
    → links_now ≡ set links k (record link { epoch = epoch; next = next }) → LosesBelow of least frames frames_now → NoneBelow of least frames_now → Learns of epoch next links links_now frames frames_now
is_news of epoch next least k link links links_now frames frames_now there same is moved lost none =
    inr (
      link,
      there,
      moved ∙ ap (λ (i : ℕ). set links i (record link { epoch = epoch; next = next })) same,
      subst (λ (n : ℕ). LosesBelow of n frames frames_now) is lost,
      subst (λ (n : ℕ). NoneBelow of n frames_now) is none,
    )

-- ---- what becomes of the frames that waited

module _ (of epoch next : ℕ) (links mid last_links : List Link) (frames between frames_now : List (Option Frame)) (ready : List Datagram) where
  pub loses_past : Learns of epoch next links mid frames between → ((f : Frame) → Contains between (Some f) → Contains frames_now (Some f) ⊎ Contains ready f.datagram)
      → (f : Frame) → Contains frames (Some f) → (Contains frames_now (Some f) ⊎ Contains ready f.datagram) ⊎ IsPast of epoch next links f
  loses_past learns kept f has = elim learns [
    | inl known ↦ inl (kept f (subst (λ (xs : List (Option Frame)). Contains xs (Some f)) (sym known.2) has))
    | inr w ↦
        let (link, there, moved, lost, none) = w in
        elim (lost f has) [
          | inl still ↦ inl (kept f still)
          | inr past ↦ inr (link, there, past.0, past.1)
        ]
  ]

  not_below : (number last : ℕ) (ds : List Datagram) → AreFrames of number ds last between → min number (2 ^ 64 - 1) ≤ last
  not_below number last [] is = omega (arith, is)
  not_below number last (d ∷ ds) (waits, rest) = omega (arith, not_below (after number) last ds rest)

  pub is_expected : next < 2 ^ 64 → Learns of epoch next links mid frames between
      → ((e number : ℕ) → Expects of e number mid → (behind : List Datagram) × (last : ℕ) × AreFrames of number behind last between × Expects of e last last_links × (Waits of last frames_now → ⊥))
      → (link : Link) → slice_get links of ≡ Some link → (last : ℕ) × (next ≤ last) × Expects of epoch last last_links × (Waits of last frames_now → ⊥)
  is_expected fits learns follows link there = elim learns [
    | inl old ↦
        let (in_epoch, later) = old.0 link there in
        let known : Expects of epoch link.next mid = (link, subst (λ (ls : List Link). slice_get ls of ≡ Some link) (sym old.1) there, in_epoch, refl) in
        let (behind, last, are, expects, none) = follows epoch link.next known in
        (last, omega (arith, not_below link.next last behind are, later, fits), expects, none)
    | inr w ↦
        let (l, at, moved, _, _) = w in
        let news : Link = record l { epoch = epoch; next = next } in
        let known : Expects of epoch next mid = (news, subst (λ (ls : List Link). slice_get ls of ≡ Some news) (sym moved) (get_set links of l news at), refl, refl) in
        let (behind, last, are, expects, none) = follows epoch next known in
        (last, omega (arith, not_below next last behind are, fits), expects, none)
  ]
