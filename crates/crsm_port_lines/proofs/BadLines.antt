-- A text that begins with a bad line begins with no accepted one, and the line is bad for one reason only.
use Rattle.std.proofs.Common.{◌≡◌, ◌+◌, ◌<◌, ◌≤◌, inl, inr, List, [], ◌∷◌, ◌++◌, Option, Some, length, refl, ap, sym, ◌∙◌, subst, arith, append_assoc, length-append}
use Rattle.std.specs.List.{AllByRecursion}
use Rattle.std.proofs.lemmas.List.{append-nil}
use Rattle.crsm_text.proofs.WordsLemmas.{split_unique, lacks_not}
use Rattle.crsm_port_lines.specs.Exact.{Exact, Fits, MayEnd, reason_of}
use Rattle.crsm_port_lines.specs.Handling.{Handling, Text}
use Rattle.crsm_port_lines.specs.Run.{BeginsBad, bad_end, bad_line, cut_line, long_line}
use Rattle.crsm_port_lines.specs.State.{IsLine, read_text}
use Rattle.crsm_port_lines.specs.declared.lines.LineRefusal.{LineRefusal}
use Rattle.crsm_port_lines.proofs.Splits.{both_nil, first_line, line_first, more_lines, no_lines, prefix_first, prefix_short, split_lines}

-- a line that begins a text, before what follows the text
line_whole : (line rest r k more text : Text) → text ≡ line ++ 10 ∷ rest → text ++ r ≡ k ++ 10 ∷ more → line ++ 10 ∷ (rest ++ r) ≡ k ++ 10 ∷ more
line_whole line rest r k more text is e = sym (append_assoc line (10 ∷ rest) r) ∙ ap (λ y. y ++ r) (sym is) ∙ e

module _ {H R : Type 0} (h : Handling H R) (x : Exact h) where
  -- ---- what begins well does not begin badly

  pub not_bad : (lines ks : List Text) (shown : Text) (after : Option Text) (why : LineRefusal R) (rest r k more : Text)
      → Fits h (lines ++ k ∷ ks) → IsLine k → rest ++ r ≡ k ++ 10 ∷ more → after ≡ Some r → BeginsBad h lines shown after why rest → ⊥
  not_bad lines ks shown after why rest r k more fits is e left (bad_line w why_is b) =
      let cut = split_unique 10 b.line k (b.rest ++ r) more b.lacks is.lacks (line_whole b.line b.rest r k more rest b.text_is e) in
      fits lines ks k shown w refl (subst (λ (y : Text). h.refuses lines shown w y) cut.0 b.refused)
  not_bad lines ks shown after why rest r k more fits is e left (long_line why_is b) =
      let whole : b.line ++ (b.rest ++ r) ≡ k ++ 10 ∷ more = sym (append_assoc b.line b.rest r) ∙ ap (λ y. y ++ r) (sym b.text_is) ∙ e in
      let short = prefix_short b.line k (b.rest ++ r) more b.lacks whole in
      let long = b.long in
      let limit = is.short in
      omega (arith, short, long, limit)
  not_bad lines ks shown after why rest r k more fits is e left (cut_line why_is b) =
      let none : r ≡ [] = rw left at b.ended in
      let whole : rest ≡ k ++ 10 ∷ more = sym (append-nil rest) ∙ ap (λ y. rest ++ y) (sym none) ∙ e in
      lacks_not 10 rest k more b.lacks whole
  not_bad lines ks shown after why rest r k more fits is e left (bad_end w why_is b) =
      let none : r ≡ [] = rw left at b.ended in
      let whole : r ≡ k ++ 10 ∷ more = ap (λ y. y ++ r) (sym b.none) ∙ e in
      lacks_not 10 [] k more tt (sym none ∙ whole)

  -- nothing at all is a bad end only where the input may not end
  not_bad_end : (lines : List Text) (shown : Text) (after : Option Text) (why : LineRefusal R) (rest : Text)
      → MayEnd h lines → rest ≡ [] → BeginsBad h lines shown after why rest → ⊥
  not_bad_end lines shown after why rest may none (bad_line w why_is b) = lacks_not 10 [] b.line b.rest tt (sym none ∙ b.text_is)
  not_bad_end lines shown after why rest may none (long_line why_is b) =
      let len : length rest ≡ length b.line + length b.rest = ap length b.text_is ∙ length-append b.line b.rest in
      let zero : length rest ≡ 0 = ap length none in
      let long = b.long in
      omega (arith, len, zero, long)
  not_bad_end lines shown after why rest may none (cut_line why_is b) = b.some none
  not_bad_end lines shown after why rest may none (bad_end w why_is b) = may shown w b.refused

  fits_ahead : (lines whole ks : List Text) (shown : Text) (after : Option Text) (why : LineRefusal R) (rest r : Text)
      → Fits h whole → MayEnd h whole → AllByRecursion IsLine whole → whole ≡ lines ++ ks → rest ++ r ≡ read_text ks ++ [] → after ≡ Some r
      → BeginsBad h lines shown after why rest → ⊥
  fits_ahead lines whole [] shown after why rest r fits may are same text left bad =
      not_bad_end lines shown after why rest (subst (MayEnd h) (same ∙ append-nil lines) may) (both_nil rest r (sym text)) bad
  fits_ahead lines whole (k ∷ ks) shown after why rest r fits may are same text left bad =
      let more = more_lines lines (k ∷ ks) (subst (λ (ls : List Text). AllByRecursion IsLine ls) same are) in
      not_bad lines ks shown after why rest r k (read_text ks ++ []) (subst (Fits h) same fits) more.0 (text ∙ first_line k ks []) left bad

  -- a whole input that fits has no bad line
  pub whole_not_bad : (lines whole : List Text) (shown : Text) (after : Option Text) (why : LineRefusal R) (rest r : Text)
      → Fits h whole → MayEnd h whole → AllByRecursion IsLine whole → AllByRecursion IsLine lines
      → read_text whole ≡ read_text lines ++ (rest ++ r) → after ≡ Some r → BeginsBad h lines shown after why rest → ⊥
  whole_not_bad lines whole shown after why rest r fits may are ls text left bad =
      elim (split_lines whole lines [] (rest ++ r) are ls (append-nil (read_text whole) ∙ text)) [
        | inl p ↦ fits_ahead lines whole p.more shown after why rest r fits may are p.lines p.rest left bad
        | inr p ↦
            let none : p.more ≡ [] = no_lines p.more (rest ++ r) p.rest in
            let nothing : [] ≡ rest ++ r = p.rest ∙ ap (λ (ks : List Text). read_text ks ++ (rest ++ r)) none in
            let same : whole ≡ lines = sym (append-nil whole) ∙ ap (λ (ks : List Text). whole ++ ks) (sym none) ∙ sym p.lines in
            not_bad_end lines shown after why rest (subst (MayEnd h) same may) (both_nil rest r nothing) bad
      ]

  -- ---- one text begins badly for one reason

  reasons : (c d : LineRefusal R) → c ≡ d → reason_of h x c ≡ reason_of h x d
  reasons c d is = ap (λ (b : LineRefusal R). reason_of h x b) is

  -- where nothing stands on one side, nothing does on the other
  none_before : (y u z v : Text) → y ++ u ≡ z ++ v → z ≡ [] → v ≡ [] → y ≡ []
  none_before [] u z v e p q = refl
  none_before (a ∷ y) u z v e p q = let none : a ∷ (y ++ u) ≡ [] = e ∙ ap (λ k. k ++ v) p ∙ q in absurd (cc)

  long_not_empty : (line rest y : Text) → y ≡ line ++ rest → length line ≡ 16777217 → y ≡ [] → ⊥
  long_not_empty line rest y is long none =
      let len = length-append line rest in let zero : length (line ++ rest) ≡ 0 = ap length (sym is ∙ none) in omega (arith, len, zero, long)

  same_reason : (lines : List Text) (shown other : Text) (left : Option Text) (c d : LineRefusal R) (y z u v : Text) → y ++ u ≡ z ++ v → left ≡ Some u
      → BeginsBad h lines shown left c y → BeginsBad h lines other (Some v) d z → reason_of h x c ≡ reason_of h x d
  same_reason lines shown other left c d y z u v text is (bad_line r c_is b) (bad_line s d_is o) =
      let whole = sym (line_first b.line b.rest u y b.text_is) ∙ text ∙ line_first o.line o.rest v z o.text_is in
      let cut = split_unique 10 b.line o.line (b.rest ++ u) (o.rest ++ v) b.lacks o.lacks whole in
      let one : r ≡ s = x.one_reason lines shown other o.line r s (subst (λ (k : Text). h.refuses lines shown r k) cut.0 b.refused) o.refused in
      reasons c _ c_is ∙ one ∙ reasons _ d (sym d_is)
  same_reason lines shown other left c d y z u v text is (bad_line r c_is b) (long_line d_is o) =
      let whole = sym (prefix_first o.line o.rest v z o.text_is) ∙ sym text ∙ line_first b.line b.rest u y b.text_is in
      let short = prefix_short o.line b.line (o.rest ++ v) (b.rest ++ u) o.lacks whole in
      let long = o.long in
      reasons c _ c_is ∙ x.long_reason lines shown b.line r b.refused (omega (arith, short, long)) ∙ reasons _ d (sym d_is)
  same_reason lines shown other left c d y z u v text is (bad_line r c_is b) (cut_line d_is o) =
      let none : v ≡ [] = o.ended in
      let whole = sym (append-nil z) ∙ ap (λ k. z ++ k) (sym none) ∙ sym text ∙ line_first b.line b.rest u y b.text_is in
      absurd (lacks_not 10 z b.line (b.rest ++ u) o.lacks whole)
  same_reason lines shown other left c d y z u v text is (bad_line r c_is b) (bad_end s d_is o) =
      let none : v ≡ [] = o.ended in
      let whole : [] ≡ b.line ++ 10 ∷ (b.rest ++ u) = ap (λ k. k ++ []) (sym o.none) ∙ ap (λ k. z ++ k) (sym none) ∙ sym text ∙ line_first b.line b.rest u y b.text_is in
      absurd (lacks_not 10 [] b.line (b.rest ++ u) tt whole)
  same_reason lines shown other left c d y z u v text is (long_line c_is b) (bad_line s d_is o) =
      let whole = sym (prefix_first b.line b.rest u y b.text_is) ∙ text ∙ line_first o.line o.rest v z o.text_is in
      let short = prefix_short b.line o.line (b.rest ++ u) (o.rest ++ v) b.lacks whole in
      let long = b.long in
      reasons c _ c_is ∙ sym (x.long_reason lines other o.line s o.refused (omega (arith, short, long))) ∙ reasons _ d (sym d_is)
  same_reason lines shown other left c d y z u v text is (long_line c_is b) (long_line d_is o) =
      reasons c _ c_is ∙ reasons _ d (sym d_is)
  same_reason lines shown other left c d y z u v text is (long_line c_is b) (cut_line d_is o) =
      reasons c _ c_is ∙ reasons _ d (sym d_is)
  same_reason lines shown other left c d y z u v text is (long_line c_is b) (bad_end s d_is o) =
      absurd (long_not_empty b.line b.rest y b.text_is b.long (none_before y u z v text o.none o.ended))
  same_reason lines shown other left c d y z u v text is (cut_line c_is b) (bad_line s d_is o) =
      let none : u ≡ [] = rw is at b.ended in
      let whole = sym (append-nil y) ∙ ap (λ k. y ++ k) (sym none) ∙ text ∙ line_first o.line o.rest v z o.text_is in
      absurd (lacks_not 10 y o.line (o.rest ++ v) b.lacks whole)
  same_reason lines shown other left c d y z u v text is (cut_line c_is b) (long_line d_is o) =
      reasons c _ c_is ∙ reasons _ d (sym d_is)
  same_reason lines shown other left c d y z u v text is (cut_line c_is b) (cut_line d_is o) =
      reasons c _ c_is ∙ reasons _ d (sym d_is)
  same_reason lines shown other left c d y z u v text is (cut_line c_is b) (bad_end s d_is o) =
      absurd (b.some (none_before y u z v text o.none o.ended))
  same_reason lines shown other left c d y z u v text is (bad_end r c_is b) (bad_line s d_is o) =
      let none : u ≡ [] = rw is at b.ended in
      let whole : [] ≡ o.line ++ 10 ∷ (o.rest ++ v) = ap (λ k. k ++ []) (sym b.none) ∙ ap (λ k. y ++ k) (sym none) ∙ text ∙ line_first o.line o.rest v z o.text_is in
      absurd (lacks_not 10 [] o.line (o.rest ++ v) tt whole)
  same_reason lines shown other left c d y z u v text is (bad_end r c_is b) (long_line d_is o) =
      let none : u ≡ [] = rw is at b.ended in
      absurd (long_not_empty o.line o.rest z o.text_is o.long (none_before z v y u (sym text) b.none none))
  same_reason lines shown other left c d y z u v text is (bad_end r c_is b) (cut_line d_is o) =
      let none : u ≡ [] = rw is at b.ended in
      absurd (o.some (none_before z v y u (sym text) b.none none))
  same_reason lines shown other left c d y z u v text is (bad_end r c_is b) (bad_end s d_is o) =
      reasons c _ c_is ∙ x.one_end lines shown other r s b.refused o.refused ∙ reasons _ d (sym d_is)

  pub record Same (ls ms : List Text) (c d : LineRefusal R) : Type 0 where
    pub count : length ls ≡ length ms
    pub reason : reason_of h x c ≡ reason_of h x d

  more_read : (ls ms ks : List Text) (shown other : Text) (left : Option Text) (c d : LineRefusal R) (y z u v : Text) → Fits h ls → AllByRecursion IsLine ls
      → ls ≡ ms ++ ks → z ++ v ≡ read_text ks ++ (y ++ u) → left ≡ Some u → BeginsBad h ls shown left c y → BeginsBad h ms other (Some v) d z → Same ls ms c d
  more_read ls ms [] shown other left c d y z u v fits are same text is bad o =
      let one : ls ≡ ms = same ∙ append-nil ms in
      record {
        count = ap length one;
        reason = same_reason ms shown other left c d y z u v (sym text) is (subst (λ (ks : List Text). BeginsBad h ks shown left c y) one bad) o;
      }
  more_read ls ms (k ∷ ks) shown other left c d y z u v fits are same text is bad o =
      let more = more_lines ms (k ∷ ks) (subst (λ (ks : List Text). AllByRecursion IsLine ks) same are) in
      absurd (not_bad ms ks other (Some v) d z v k (read_text ks ++ (y ++ u)) (subst (Fits h) same fits) more.0 (text ∙ first_line k ks (y ++ u)) refl o)

  less_read : (ls ms ks : List Text) (shown other : Text) (left : Option Text) (c d : LineRefusal R) (y z u v : Text) → Fits h ms → AllByRecursion IsLine ms
      → ms ≡ ls ++ ks → y ++ u ≡ read_text ks ++ (z ++ v) → left ≡ Some u → BeginsBad h ls shown left c y → BeginsBad h ms other (Some v) d z → Same ls ms c d
  less_read ls ms [] shown other left c d y z u v fits are same text is bad o =
      let one : ls ≡ ms = sym (same ∙ append-nil ls) in
      record {
        count = ap length one;
        reason = same_reason ms shown other left c d y z u v text is (subst (λ (ks : List Text). BeginsBad h ks shown left c y) one bad) o;
      }
  less_read ls ms (k ∷ ks) shown other left c d y z u v fits are same text is bad o =
      let more = more_lines ls (k ∷ ks) (subst (λ (ks : List Text). AllByRecursion IsLine ks) same are) in
      absurd (not_bad ls ks shown left c y u k (read_text ks ++ (z ++ v)) (subst (Fits h) same fits) more.0 (text ∙ first_line k ks (z ++ v)) is bad)

  pub same_bad : (ls ms : List Text) (shown other : Text) (left : Option Text) (c d : LineRefusal R) (y z u v : Text) → Fits h ls → Fits h ms
      → AllByRecursion IsLine ls → AllByRecursion IsLine ms → read_text ls ++ (y ++ u) ≡ read_text ms ++ (z ++ v) → left ≡ Some u
      → BeginsBad h ls shown left c y → BeginsBad h ms other (Some v) d z → Same ls ms c d
  same_bad ls ms shown other left c d y z u v p q are and text is bad o = elim (split_lines ls ms (y ++ u) (z ++ v) are and text) [
    | inl g ↦ more_read ls ms g.more shown other left c d y z u v p are g.lines g.rest is bad o
    | inr g ↦ less_read ls ms g.more shown other left c d y z u v q and g.lines g.rest is bad o
  ]

  -- ---- a bad line comes before the limit

  -- A part of a line that is not too long, and more behind it, do not begin badly within the part.
  no_bad_part : (ms : List Text) (other : Text) (d : LineRefusal R) (rest z text more : Text) → IsLine rest → 0 < length z
      → rest ++ z ≡ text ++ more → length text ≤ length rest → BeginsBad h ms other (Some more) d text → ⊥
  no_bad_part ms other d rest z text more part some seam within (bad_line s d_is b) =
      let prefix = prefix_short rest b.line z (b.rest ++ more) part.lacks (seam ∙ line_first b.line b.rest more text b.text_is) in
      let len : length text ≡ length b.line + length (10 ∷ b.rest) = ap length b.text_is ∙ length-append b.line (10 ∷ b.rest) in
      omega (arith, prefix, len, within)
  no_bad_part ms other d rest z text more part some seam within (long_line d_is b) =
      let len : length text ≡ length b.line + length b.rest = ap length b.text_is ∙ length-append b.line b.rest in
      let long = b.long in
      let short = part.short in
      omega (arith, len, long, within, short)
  no_bad_part ms other d rest z text more part some seam within (cut_line d_is b) =
      let none : more ≡ [] = b.ended in
      let len : length (rest ++ z) ≡ length text = ap length (seam ∙ ap (λ y. text ++ y) none ∙ append-nil text) in
      let sum : length (rest ++ z) ≡ length rest + length z = length-append rest z in
      omega (arith, len, sum, some, within)
  no_bad_part ms other d rest z text more part some seam within (bad_end s d_is b) =
      let none : more ≡ [] = b.ended in
      let len : length (rest ++ z) ≡ length text = ap length (seam ∙ ap (λ y. text ++ y) none ∙ append-nil text) in
      let sum : length (rest ++ z) ≡ length rest + length z = length-append rest z in
      omega (arith, len, sum, some, within)

  -- the same, where lines were read before
  part_by : (ls ms ks : List Text) (other : Text) (d : LineRefusal R) (rest z text more : Text) → Fits h ls → AllByRecursion IsLine ls → IsLine rest → 0 < length z
      → length (read_text ms ++ text) ≤ length (read_text ls ++ rest) → ls ≡ ms ++ ks → text ++ more ≡ read_text ks ++ (rest ++ z)
      → BeginsBad h ms other (Some more) d text → ⊥
  part_by ls ms [] other d rest z text more fits are part some within same seam bad =
      let texts : length (read_text ls) ≡ length (read_text ms) = ap (λ (ks : List Text). length (read_text ks)) (same ∙ append-nil ms) in
      let a : length (read_text ms ++ text) ≡ length (read_text ms) + length text = length-append (read_text ms) text in
      let b : length (read_text ls ++ rest) ≡ length (read_text ls) + length rest = length-append (read_text ls) rest in
      no_bad_part ms other d rest z text more part some (sym seam) (omega (arith, a, b, texts, within)) bad
  part_by ls ms (k ∷ ks) other d rest z text more fits are part some within same seam bad =
      let ahead = more_lines ms (k ∷ ks) (subst (λ (ks : List Text). AllByRecursion IsLine ks) same are) in
      not_bad ms ks other (Some more) d text more k (read_text ks ++ (rest ++ z)) (subst (Fits h) same fits) ahead.0 (seam ∙ first_line k ks (rest ++ z)) refl bad

  part_within : (ls ms ks : List Text) (other : Text) (d : LineRefusal R) (rest z text more : Text) → IsLine rest → 0 < length z
      → length (read_text ms ++ text) ≤ length (read_text ls ++ rest) → ms ≡ ls ++ ks → rest ++ z ≡ read_text ks ++ (text ++ more)
      → BeginsBad h ms other (Some more) d text → ⊥
  part_within ls ms [] other d rest z text more part some within same seam bad =
      let texts : length (read_text ms) ≡ length (read_text ls) = ap (λ (ks : List Text). length (read_text ks)) (same ∙ append-nil ls) in
      let a : length (read_text ms ++ text) ≡ length (read_text ms) + length text = length-append (read_text ms) text in
      let b : length (read_text ls ++ rest) ≡ length (read_text ls) + length rest = length-append (read_text ls) rest in
      no_bad_part ms other d rest z text more part some seam (omega (arith, a, b, texts, within)) bad
  part_within ls ms (k ∷ ks) other d rest z text more part some within same seam bad =
      let prefix = prefix_short rest k z (read_text ks ++ (text ++ more)) part.lacks (seam ∙ first_line k ks (text ++ more)) in
      let whole : read_text ms ++ [] ≡ read_text ls ++ (k ++ 10 ∷ (read_text ks ++ [])) = ap (λ (ys : List Text). read_text ys ++ []) same ∙ read_more ls in
      let long : length (read_text ms ++ []) ≡ length (read_text ls) + length (k ++ 10 ∷ (read_text ks ++ [])) = ap length whole ∙ length-append (read_text ls) (k ++ 10 ∷ (read_text ks ++ [])) in
      let line : length (k ++ 10 ∷ (read_text ks ++ [])) ≡ length k + length (10 ∷ (read_text ks ++ [])) = length-append k (10 ∷ (read_text ks ++ [])) in
      let none : length (read_text ms ++ []) ≡ length (read_text ms) = ap length (append-nil (read_text ms)) in
      let a : length (read_text ms ++ text) ≡ length (read_text ms) + length text = length-append (read_text ms) text in
      let b : length (read_text ls ++ rest) ≡ length (read_text ls) + length rest = length-append (read_text ls) rest in
      omega (arith, prefix, long, line, none, a, b, within)
    where
      read_more : (ls : List Text) → read_text (ls ++ k ∷ ks) ++ [] ≡ read_text ls ++ (k ++ 10 ∷ (read_text ks ++ []))
      read_more [] = first_line k ks []
      read_more (l ∷ ls) = append_assoc (l ++ 10 ∷ []) (read_text (ls ++ k ∷ ks)) [] ∙ ap (λ y. (l ++ 10 ∷ []) ++ y) (read_more ls)
          ∙ sym (append_assoc (l ++ 10 ∷ []) (read_text ls) (k ++ 10 ∷ (read_text ks ++ [])))

  -- where whole lines and a part of a line reach the limit, no bad line stands before it
  pub bad_before_limit : (ls ms : List Text) (other : Text) (d : LineRefusal R) (rest z text more : Text) → Fits h ls → AllByRecursion IsLine ls → AllByRecursion IsLine ms
      → IsLine rest → 0 < length z → length (read_text ms ++ text) ≤ length (read_text ls ++ rest) → read_text ls ++ (rest ++ z) ≡ read_text ms ++ (text ++ more)
      → BeginsBad h ms other (Some more) d text → ⊥
  bad_before_limit ls ms other d rest z text more fits are and part some within seam bad = elim (split_lines ls ms (rest ++ z) (text ++ more) are and seam) [
    | inl g ↦ part_by ls ms g.more other d rest z text more fits are part some within g.lines g.rest bad
    | inr g ↦ part_within ls ms g.more other d rest z text more part some within g.lines g.rest bad
  ]
