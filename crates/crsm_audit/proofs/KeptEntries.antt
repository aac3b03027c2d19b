-- Bodies at places, and more of them.
use Rattle.std.proofs.Common.{◌≡◌, ℕ, suc, zero, ◌<◌, List, [], ◌∷◌, ◌++◌, map, length, get_or, refl, sym, ◌∙◌, ap, subst, arith, length-append}
use Rattle.std.specs.Prelude.{slice_get, Some}
use Rattle.std.specs.List.{AllByRecursion}
use Rattle.std.proofs.lemmas.List.{length-map}
use Rattle.std.proofs.lemmas.Option.{none-some, same_Some}
use Rattle.crsm_fact_log.proofs.Lists.{all-push, get_or-grown}
use Rattle.crsm_audit.specs.Entries.{AreKept, AreWithin, Has, IsAnEntry, bodies_at}
use Rattle.crsm_audit.proofs.Searching.{all_got}

pub bodies_count : (kept : List (List ℕ)) (places : List ℕ) → length (bodies_at kept places) ≡ length places
unfolding bodies_at
bodies_count kept places = length-map places (λ p. get_or kept p [])

pub no_bodies : (kept : List (List ℕ)) → bodies_at kept [] ≡ []
unfolding bodies_at
no_bodies kept = refl

-- the body at one place
pub body_there : (kept : List (List ℕ)) (places : List ℕ) (i : ℕ) (bytes : List ℕ) → i < length places → slice_get kept (get_or places i 0) ≡ Some bytes → slice_get (bodies_at kept places) i ≡ Some bytes
unfolding bodies_at
body_there kept [] i bytes lt is = absurd (omega (arith, lt))
body_there kept (p ∷ places) zero bytes lt is = got kept p is
  where
    got : (xs : List (List ℕ)) (k : ℕ) → slice_get xs k ≡ Some bytes → Some (get_or xs k []) ≡ Some bytes
    got [] k e = absurd (none-some bytes e)
    got (x ∷ xs) zero e = e
    got (x ∷ xs) (suc k) e = got xs k e
body_there kept (p ∷ places) (suc i) bytes lt is = body_there kept places i bytes (omega (arith, lt)) is

-- ---- one body more

pub still_within : (kept : List (List ℕ)) (body : List ℕ) (places : List ℕ) → AreWithin kept places → AreWithin (kept ++ body ∷ []) places
still_within kept body [] all = tt
still_within kept body (p ∷ places) all =
    let first = all.0 in
    let count = length-append kept (body ∷ []) in
    (omega (arith, first, count), still_within kept body places all.1)

pub still_bodies : (kept : List (List ℕ)) (body : List ℕ) (places : List ℕ) → AreWithin kept places → bodies_at (kept ++ body ∷ []) places ≡ bodies_at kept places
unfolding bodies_at
still_bodies kept body [] all = refl
still_bodies kept body (p ∷ places) all =
    ap (λ (here : List ℕ). here ∷ map (λ (q : ℕ). get_or (kept ++ body ∷ []) q []) places) (get_or-grown kept (body ∷ []) p [] all.0)
    ∙ ap (λ (rest : List (List ℕ)). get_or kept p [] ∷ rest) (still_bodies kept body places all.1)

-- ---- one place more

pub place_pushed : (kept : List (List ℕ)) (places : List ℕ) (p : ℕ) (bytes : List ℕ) → slice_get kept p ≡ Some bytes → bodies_at kept (places ++ p ∷ []) ≡ bodies_at kept places ++ bytes ∷ []
unfolding bodies_at
place_pushed kept [] p bytes is = ap (λ (b : List ℕ). b ∷ []) (got kept p is)
  where
    got : (xs : List (List ℕ)) (k : ℕ) → slice_get xs k ≡ Some bytes → get_or xs k [] ≡ bytes
    got [] k e = absurd (none-some bytes e)
    got (x ∷ xs) zero e = same_Some x bytes e
    got (x ∷ xs) (suc k) e = got xs k e
place_pushed kept (q ∷ places) p bytes is = ap (λ (rest : List (List ℕ)). get_or kept q [] ∷ rest) (place_pushed kept places p bytes is)

pub last_there : (kept : List (List ℕ)) (body : List ℕ) → slice_get (kept ++ body ∷ []) (length kept) ≡ Some body
last_there [] body = refl
last_there (k ∷ kept) body = last_there kept body

pub got_within : (kept : List (List ℕ)) (p : ℕ) (bytes : List ℕ) → slice_get kept p ≡ Some bytes → p < length kept
got_within [] p bytes is = absurd (none-some bytes is)
got_within (k ∷ kept) zero bytes is = omega arith
got_within (k ∷ kept) (suc p) bytes is = let less = got_within kept p bytes is in omega (arith, less)

-- ---- all that is kept

pub has_pushed : (old new : List (List ℕ)) (bytes : List ℕ) (place : ℕ) → AllByRecursion IsAnEntry old → IsAnEntry bytes → place ≡ length old → new ≡ old ++ bytes ∷ [] → Has old new bytes place
has_pushed old new bytes place all is at grown =
    subst (λ (k : ℕ). Has old new bytes k) (sym at) (subst (λ (ks : List (List ℕ)). Has old ks bytes (length old)) (sym grown) record {
      there = last_there old bytes;
      entries = all-push IsAnEntry old bytes all is;
      within = still_within old bytes;
      same = still_bodies old bytes;
    })

pub has_found : (kept : List (List ℕ)) (bytes : List ℕ) (place : ℕ) → AllByRecursion IsAnEntry kept → slice_get kept place ≡ Some bytes → Has kept kept bytes place
has_found kept bytes place all there = record { there = there; entries = all; within = λ places w. w; same = λ places w. refl }

-- with its place at the end of one list
pub more_places : (old new : List (List ℕ)) (bytes : List ℕ) (place : ℕ) (places more : List ℕ) → Has old new bytes place → AreWithin old places → more ≡ places ++ place ∷ []
    → AreWithin new more × (bodies_at new more ≡ bodies_at old places ++ bytes ∷ [])
more_places old new bytes place places more has within is =
    let here = has.within places within in (
      subst (AreWithin new) (sym is) (all-push (λ (p : ℕ). p < length new) places place here (got_within new place bytes has.there)),
      ap (bodies_at new) is ∙ place_pushed new places place bytes has.there ∙ ap (λ (bs : List (List ℕ)). bs ++ bytes ∷ []) (has.same places within),
    )

pub kept_list : (old new : List (List ℕ)) (list held more : List ℕ) (bytes : List ℕ) (place : ℕ) → AreKept old list held → Has old new bytes place → more ≡ list ++ place ∷ [] → AreKept new more held
kept_list old new list held more bytes place k has is = record {
  entries = has.entries;
  list_within = (more_places old new bytes place list more has k.list_within is).0;
  held_within = has.within held k.held_within;
}

pub kept_held : (old new : List (List ℕ)) (list held more : List ℕ) (bytes : List ℕ) (place : ℕ) → AreKept old list held → Has old new bytes place → more ≡ held ++ place ∷ [] → AreKept new list more
kept_held old new list held more bytes place k has is = record {
  entries = has.entries;
  list_within = has.within list k.list_within;
  held_within = (more_places old new bytes place held more has k.held_within is).0;
}

pub kept_same : (old new : List (List ℕ)) (list held : List ℕ) (bytes : List ℕ) (place : ℕ) → AreKept old list held → Has old new bytes place → AreKept new list held
kept_same old new list held bytes place k has = record { entries = has.entries; list_within = has.within list k.list_within; held_within = has.within held k.held_within }

pub entry_at : (kept : List (List ℕ)) (place : ℕ) (bytes : List ℕ) → AllByRecursion IsAnEntry kept → slice_get kept place ≡ Some bytes → IsAnEntry bytes
entry_at kept place bytes all there = all_got IsAnEntry kept place bytes all there
