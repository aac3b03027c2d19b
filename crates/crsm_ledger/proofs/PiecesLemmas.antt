-- The bytes of ranges stay when chunks grow.
use Rattle.std.proofs.Common.{◌≡◌, ℕ, suc, zero, ◌<◌, ◌≤◌, ◌+◌, ◌-◌, List, [], ◌∷◌, ◌++◌, refl, ap, sym, ◌∙◌, arith, length, get_or, set, length-append, subst}
use Rattle.std.specs.Prelude.{slice_range, slice_get, Some, None, Result, Ok, Err, OnErr}
use Rattle.std.specs.List.{AllByRecursion}
use Rattle.crsm_fact_log.proofs.Lists.{all_got, all-push, get_or-grown, get_or-set, at_set, length-set, range-grown, range-end}
use Rattle.crsm_ledger.specs.declared.spelt.SpellingRange.{SpellingRange}
use Rattle.crsm_ledger.specs.Pieces.{piece, pieces, AreSpelt, HasOpenChunk, IsSpelling, IsWithin, Keeps}
use Rattle.crsm_base.proofs.Sizes.{entry_short}

-- what holds anyway holds at an error
pub on_err : {T E : Type 0} (r : Result T E) (P : Type 0) → P → OnErr r P
on_err (Ok t) P p = tt
on_err (Err e) P p = p

-- ---- chunks

pub keeps-refl : (chunks : List (List ℕ)) → Keeps chunks chunks
keeps-refl chunks = record { within = λ p w. w; same = λ p w. refl }

pub keeps-trans : (a b c : List (List ℕ)) → Keeps a b → Keeps b c → Keeps a c
keeps-trans a b c first then = record {
  within = λ p w. then.within p (first.within p w);
  same = λ p w. then.same p (first.within p w) ∙ first.same p w;
}

-- a further chunk
pub keeps-push : (chunks : List (List ℕ)) (chunk : List ℕ) → Keeps chunks (chunks ++ chunk ∷ [])
keeps-push chunks chunk = record {
  within = λ p w. record {
    chunk = omega (arith, w.chunk, length-append chunks (chunk ∷ []));
    end = rw (get_or-grown chunks (chunk ∷ []) p.chunk [] w.chunk) w.end;
  };
  same = λ p w. ap (λ c. slice_range c p.start (p.start + p.size)) (get_or-grown chunks (chunk ∷ []) p.chunk [] w.chunk);
}

-- more bytes in a chunk
pub keeps-set : (chunks : List (List ℕ)) (i : ℕ) (bytes : List ℕ) → i < length chunks → Keeps chunks (set chunks i (get_or chunks i [] ++ bytes))
keeps-set chunks i bytes within = record {
  within = λ p w. record {
    chunk = omega (arith, w.chunk, length-set chunks i (get_or chunks i [] ++ bytes));
    end = at_set (λ c. (p.start + p.size) ≤ length c) chunks i p.chunk (get_or chunks i [] ++ bytes) [] within w.chunk
        (λ is. let here : (p.start + p.size) ≤ length (get_or chunks i []) = subst (λ (k : ℕ). (p.start + p.size) ≤ length (get_or chunks k [])) is w.end in omega (arith, here, length-append (get_or chunks i []) bytes))
        w.end;
  };
  same = λ p w. at_set (λ c. slice_range c p.start (p.start + p.size) ≡ piece chunks p) chunks i p.chunk (get_or chunks i [] ++ bytes) [] within w.chunk
      (λ is. let here : (p.start + p.size) ≤ length (get_or chunks i []) = subst (λ (k : ℕ). (p.start + p.size) ≤ length (get_or chunks k [])) is w.end in
      range-grown (get_or chunks i []) bytes p.start (p.start + p.size) (omega arith) here ∙ ap (λ k. slice_range (get_or chunks k []) p.start (p.start + p.size)) (sym is))
      refl;
}

-- the new bytes stand at the end of the chunk
pub within-set : (chunks : List (List ℕ)) (i start size : ℕ) (bytes : List ℕ) → i < length chunks → start ≡ length (get_or chunks i []) → size ≡ length bytes → IsWithin (set chunks i (get_or chunks i [] ++ bytes)) (record { chunk = i; start = start; size = size })
within-set chunks i start size bytes within begins long = record {
  chunk = omega (arith, within, length-set chunks i (get_or chunks i [] ++ bytes));
  end = rw (get_or-set chunks i (get_or chunks i [] ++ bytes) [] within) (omega (arith, begins, long, length-append (get_or chunks i []) bytes));
}

pub piece-set : (chunks : List (List ℕ)) (i start size : ℕ) (bytes : List ℕ) → i < length chunks → start ≡ length (get_or chunks i []) → size ≡ length bytes → piece (set chunks i (get_or chunks i [] ++ bytes)) (record { chunk = i; start = start; size = size }) ≡ bytes
piece-set chunks i start size bytes within begins long =
    rw (get_or-set chunks i (get_or chunks i [] ++ bytes) [] within, long, begins) (range-end (get_or chunks i []) bytes)

-- a chunk that was begun is open
pub open-push : (chunks : List (List ℕ)) (chunk : List ℕ) → chunk ≡ [] → HasOpenChunk (chunks ++ chunk ∷ [])
open-push chunks chunk none =
    let count : length (chunks ++ chunk ∷ []) ≡ length chunks + 1 = length-append chunks (chunk ∷ []) in
    let last : length (chunks ++ chunk ∷ []) - 1 ≡ length chunks = omega (arith, count) in record {
      some = omega (arith, count);
      most = rw (last, at_end chunks chunk, none) (omega arith);
    }
  where
    at_end : (cs : List (List ℕ)) (c : List ℕ) → get_or (cs ++ c ∷ []) (length cs) [] ≡ c
    at_end [] c = refl
    at_end (d ∷ cs) c = at_end cs c

pub spelling_short : (bytes : List ℕ) → IsSpelling bytes → length bytes ≤ 1129
spelling_short bytes s = omega (arith, ap length s.is, entry_short s.entry s.fits)

-- ---- all places

pub all-kept : (old new : List (List ℕ)) (ps : List SpellingRange) → Keeps old new → AllByRecursion (IsWithin old) ps → AllByRecursion (IsWithin new) ps
all-kept old new [] keeps all = tt
all-kept old new (p ∷ ps) keeps all = (keeps.within p all.0, all-kept old new ps keeps all.1)

pub pieces-kept : (old new : List (List ℕ)) (ps : List SpellingRange) → Keeps old new → AllByRecursion (IsWithin old) ps → pieces new ps ≡ pieces old ps
unfolding pieces
pieces-kept old new [] keeps all = refl
pieces-kept old new (p ∷ ps) keeps all =
    ap (λ here. here ∷ pieces new ps) (keeps.same p all.0) ∙ ap (λ rest. piece old p ∷ rest) (pieces-kept old new ps keeps all.1)

pub pieces-push : (chunks : List (List ℕ)) (ps : List SpellingRange) (p : SpellingRange) → pieces chunks (ps ++ p ∷ []) ≡ pieces chunks ps ++ piece chunks p ∷ []
unfolding pieces
pieces-push chunks [] p = refl
pieces-push chunks (q ∷ ps) p = ap (λ rest. piece chunks q ∷ rest) (pieces-push chunks ps p)

pub pieces-at : (chunks : List (List ℕ)) (ps : List SpellingRange) (i : ℕ) (d : SpellingRange) → i < length ps → slice_get (pieces chunks ps) i ≡ Some (piece chunks (get_or ps i d))
unfolding pieces
pieces-at chunks [] i d within = absurd (omega arith)
pieces-at chunks (p ∷ ps) zero d within = refl
pieces-at chunks (p ∷ ps) (suc i) d within = pieces-at chunks ps i d (omega arith)

pub pieces-beyond : (chunks : List (List ℕ)) (ps : List SpellingRange) (i : ℕ) → length ps ≤ i → slice_get (pieces chunks ps) i ≡ None
unfolding pieces
pieces-beyond chunks [] i beyond = refl
pieces-beyond chunks (p ∷ ps) zero beyond = absurd (omega arith)
pieces-beyond chunks (p ∷ ps) (suc i) beyond = pieces-beyond chunks ps i (omega arith)

pub length-pieces : (chunks : List (List ℕ)) (ps : List SpellingRange) → length (pieces chunks ps) ≡ length ps
unfolding pieces
length-pieces chunks [] = refl
length-pieces chunks (p ∷ ps) = ap (λ k. suc k) (length-pieces chunks ps)

-- ---- encodings

pub spelt-kept : (old new : List (List ℕ)) (ps : List SpellingRange) → Keeps old new → AreSpelt old ps → AreSpelt new ps
spelt-kept old new ps keeps both = (
  all-kept old new ps keeps both.0,
  subst (λ (ss : List (List ℕ)). AllByRecursion IsSpelling ss) (sym (pieces-kept old new ps keeps both.0)) both.1,
)

pub spelt-push : (chunks : List (List ℕ)) (ps : List SpellingRange) (p : SpellingRange) → AreSpelt chunks ps → IsWithin chunks p → IsSpelling (piece chunks p) → AreSpelt chunks (ps ++ p ∷ [])
spelt-push chunks ps p both within spelling = (
  all-push (IsWithin chunks) ps p both.0 within,
  subst (λ (ss : List (List ℕ)). AllByRecursion IsSpelling ss) (sym (pieces-push chunks ps p)) (all-push IsSpelling (pieces chunks ps) (piece chunks p) both.1 spelling),
)

pub none_spelt : AreSpelt [] []
unfolding pieces
none_spelt = (tt, tt)

pub spelling_at : (ss : List (List ℕ)) (i : ℕ) (bytes : List ℕ) → AllByRecursion IsSpelling ss → slice_get ss i ≡ Some bytes → IsSpelling bytes
spelling_at [] i bytes all is = cc
spelling_at (s ∷ ss) zero bytes all is = let same : s ≡ bytes = cc in subst IsSpelling same all.0
spelling_at (s ∷ ss) (suc i) bytes all is = spelling_at ss i bytes all.1 is

pub ruleset pieces_rules = (keeps-refl, keeps-push, keeps-set, within-set, piece-set, open-push, length-pieces, pieces-at, pieces-beyond, all_got)
