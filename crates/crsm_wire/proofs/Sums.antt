-- The sizes of entries, one after the other, and tests of all of them.
use Rattle.std.proofs.Common.{arith, ◌≡◌, ◌∙◌, refl, sym, ap, subst, ℕ, ◌+◌, ◌<◌, ◌≤◌, Bool, true, ◌&&◌, eqb, List, [], ◌∷◌, ◌++◌, length, take, get_or}
use Rattle.std.specs.List.{flat_map, AllByRecursion, list_all}
use Rattle.std.proofs.lemmas.Bool.{eqb-true}
use Rattle.std.proofs.lemmas.List.{length-append, take_more}
use Rattle.crsm_base.specs.declared.command.Entry.{Entry}
use Rattle.crsm_base.specs.Spelling.{entry_bytes, FitsEntry, FitsEntries}
use Rattle.crsm_base.specs.Reading.{is_rising}
use Rattle.crsm_wire.specs.Sized.{IsSized, AreSized}
use Rattle.crsm_wire.proofs.Rising.{rise, first, second}

pub none_sized : AreSized [] 0
none_sized = record { fit = tt; size_is = refl }

all_more : (es : List Entry) (e : Entry) → AllByRecursion FitsEntry es → FitsEntry e → AllByRecursion FitsEntry (es ++ e ∷ [])
all_more [] e h f = (f, tt)
all_more (x ∷ es) e h f = (h.0, all_more es e h.1 f)

bytes_more : (es : List Entry) (e : Entry) → length (flat_map entry_bytes (es ++ e ∷ [])) ≡ length (flat_map entry_bytes es) + length (entry_bytes e)
bytes_more [] e = omega (arith, length-append (entry_bytes e) [])
bytes_more (x ∷ es) e =
    let h = bytes_more es e in
    omega (arith, h, length-append (entry_bytes x) (flat_map entry_bytes (es ++ e ∷ [])), length-append (entry_bytes x) (flat_map entry_bytes es))

pub one_more : (es : List Entry) (i n m : ℕ) (e : Entry) → i < length es → e ≡ get_or es i e → AreSized (take i es) n → IsSized entry_bytes FitsEntry 1129 e m →
    AreSized (take (i + 1) es) (n + m)
one_more es i n m e l at so_far s =
    let is : take (i + 1) es ≡ take i es ++ e ∷ [] = take_more es i e l ∙ ap (λ (f : Entry). take i es ++ f ∷ []) (sym at) in
    subst (λ (fs : List Entry). AreSized fs (n + m)) (sym is) (record {
      fit = all_more (take i es) e so_far.fit s.fits;
      size_is = let h = bytes_more (take i es) e in omega (arith, h, so_far.size_is, s.size_is);
    })

pub all_before : (epoch : ℕ) (es : List Entry) → list_all (λ e. eqb (e.epoch + 1) epoch) es ≡ true → AllByRecursion (λ e. e.epoch + 1 ≡ epoch) es
all_before epoch [] h = tt
all_before epoch (e ∷ es) h = (eqb-true (e.epoch + 1) epoch (first _ _ h), all_before epoch es (second _ _ h))

-- a list of entries whose tests all say yes
pub entries_fit : (es : List Entry) (n : ℕ) → length es ≤ 4096 → is_rising es ≡ true → AreSized es n → n ≤ 2097152 → FitsEntries es
entries_fit es n most rising sized few =
    record { most = most; fit = sized.fit; rises = rise es rising; size = subst (λ m. m ≤ 2097152) sized.size_is few }
