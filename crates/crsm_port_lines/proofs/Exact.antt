-- Which inputs are accepted, which are refused and for which line, and which are too long.
use Rattle.std.proofs.Common.{◌≡◌, ◌≢◌, ℕ, ◌+◌, ◌<◌, ◌≤◌, inl, inr, List, [], ◌∷◌, ◌++◌, Option, Some, length, refl, ap, sym, ◌∙◌, subst, arith, append_assoc, length-append}
use Rattle.std.specs.List.{AllByRecursion}
use Rattle.std.proofs.lemmas.List.{append-nil}
use Rattle.crsm_port_lines.specs.Exact.{Exact, Fits, IsDone, IsRefused, IsTooLong, MayEnd, reason_of}
use Rattle.crsm_port_lines.specs.Handling.{Handling, Text}
use Rattle.crsm_port_lines.specs.Run.{BeginsBad, Ran, RanToBad, RanToEnd, RanTooLong}
use Rattle.crsm_port_lines.specs.State.{IsLine, Reached, read_text}
use Rattle.crsm_port_lines.specs.declared.lines.LineRefusal.{LineRefusal}
use Rattle.crsm_port_lines.specs.declared.run.InputEnd.{InputEnd}
use Rattle.crsm_port_lines.proofs.BadLines.{bad_before_limit, same_bad, whole_not_bad}
use Rattle.crsm_port_lines.proofs.Splits.{told}

module _ {H R : Type 0} (h : Handling H R) where
  -- ---- limits

  -- more bytes were taken than the limit
  long_text : (before after had has : Option Text) (bytes : Text) → RanTooLong h before after had has → before ≡ Some bytes → 1073741824 < length bytes
  long_text before after had has bytes ran is =
      let lines = ran.lines in
      let t = told bytes (read_text lines ++ (ran.rest ++ ran.more ∷ [])) after (rw is at ran.takes) in
      let whole : length bytes ≡ length (read_text lines ++ (ran.rest ++ ran.more ∷ [])) + length t.0 =
      ap length t.2 ∙ length-append (read_text lines ++ (ran.rest ++ ran.more ∷ [])) t.0 in
      let one : length (read_text lines ++ (ran.rest ++ ran.more ∷ [])) ≡ length (read_text lines ++ ran.rest) + 1 =
      ap length (sym (append_assoc (read_text lines) ran.rest (ran.more ∷ []))) ∙ length-append (read_text lines ++ ran.rest) (ran.more ∷ []) in
      let long = ran.long in
      omega (arith, whole, one, long)

  ended_short : (before after had has : Option Text) (bytes : Text) → RanToEnd h before after had has → before ≡ Some bytes → length bytes ≤ 1073741824
  ended_short before after had has bytes ran is =
      let t = told bytes (read_text ran.lines) after (rw is at ran.takes) in
      let none : t.0 ≡ [] = rw t.1 at ran.ended in
      let same : bytes ≡ read_text ran.lines = t.2 ∙ ap (λ y. read_text ran.lines ++ y) none ∙ append-nil (read_text ran.lines) in
      let len : length bytes ≡ length (read_text ran.lines) = ap length same in
      let short = ran.short in
      omega (arith, len, short)

  -- what runs to its end is within the limit
  pub not_done : (result : InputEnd R) (before after had has : Option Text) (bytes : Text) → Ran h result before after had has
      → before ≡ Some bytes → 1073741824 < length bytes → result ≢ InputEnd.Done
  unfolding Ran
  not_done result before after had has bytes ran is long done =
      let ended : RanToEnd h before after had has = subst (λ (r : InputEnd R). Ran h r before after had has) done ran in
      let short = ended_short before after had has bytes ended is in
      omega (arith, short, long)

  -- what is within the limit is not too long
  pub not_too_long : (result : InputEnd R) (before after had has : Option Text) (bytes : Text) → Ran h result before after had has
      → before ≡ Some bytes → length bytes ≤ 1073741824 → result ≢ InputEnd.InputTooLong
  unfolding Ran
  not_too_long result before after had has bytes ran is short too_long =
      let ended : RanTooLong h before after had has = subst (λ (r : InputEnd R). Ran h r before after had has) too_long ran in
      let long = long_text before after had has bytes ended is in
      omega (arith, short, long)

  module _ (x : Exact h) where
    reached_fits : (lines : List Text) (shown : Text) → Reached h lines shown → Fits h lines
    reached_fits lines shown r = x.handled r.handler lines shown r.after

    -- ---- what fits is not refused

    bad_of_whole : (before after had has : Option Text) (line : ℕ) (why : LineRefusal R) (whole : List Text) → RanToBad h before after had has line why
        → Fits h whole → MayEnd h whole → AllByRecursion IsLine whole → before ≡ Some (read_text whole) → ⊥
    bad_of_whole before after had has line why whole ran fits may are is =
        let t = told (read_text whole) (read_text ran.lines ++ ran.rest) after (rw is at ran.takes) in
        whole_not_bad h x ran.lines whole ran.shown after why ran.rest t.0 fits may are ran.reached.are_lines
        (t.2 ∙ append_assoc (read_text ran.lines) ran.rest t.0) t.1 ran.bad

    pub completed : (result : InputEnd R) (before after had has : Option Text) (whole : List Text) → Ran h result before after had has
        → result ≢ InputEnd.ReadFault → result ≢ InputEnd.WriteFault
        → Fits h whole → MayEnd h whole → AllByRecursion IsLine whole → before ≡ Some (read_text whole) → length (read_text whole) ≤ 1073741824 → IsDone result
    unfolding Ran
    completed InputEnd.Done before after had has whole ran r w fits may are is short = inl refl
    completed (InputEnd.BadLine line why) before after had has whole ran r w fits may are is short = absurd (bad_of_whole before after had has line why whole ran fits may are is)
    completed InputEnd.ReadFault before after had has whole ran r w fits may are is short = absurd (r refl)
    completed InputEnd.WriteFault before after had has whole ran r w fits may are is short = absurd (w refl)
    completed InputEnd.NoMemory before after had has whole ran r w fits may are is short = inr refl
    completed InputEnd.InputTooLong before after had has whole ran r w fits may are is short =
        let long = long_text before after had has (read_text whole) ran is in absurd (omega (arith, long, short))

    -- ---- an input with a bad line is refused for it

    -- it does not run to its end
    whole_of_bad : (before after had has : Option Text) (lines : List Text) (shown text more : Text) (why : LineRefusal R) → RanToEnd h before after had has
        → AllByRecursion IsLine lines → before ≡ Some (read_text lines ++ (text ++ more)) → BeginsBad h lines shown (Some more) why text → ⊥
    whole_of_bad before after had has lines shown text more why ran are is bad =
        let t = told (read_text lines ++ (text ++ more)) (read_text ran.lines) after (rw is at ran.takes) in
        let none : t.0 ≡ [] = rw t.1 at ran.ended in
        let whole : read_text ran.lines ≡ read_text lines ++ (text ++ more) =
        sym (append-nil (read_text ran.lines)) ∙ ap (λ y. read_text ran.lines ++ y) (sym none) ∙ sym t.2 in
        whole_not_bad h x lines ran.lines shown (Some more) why text more (reached_fits ran.lines ran.shown ran.reached)
        (x.ended ran.lines ran.shown ran.last ran.ends) ran.reached.are_lines are whole refl bad

    -- nor up to the limit
    bad_of_long : (before after had has : Option Text) (lines : List Text) (shown text more : Text) (why : LineRefusal R) → RanTooLong h before after had has
        → AllByRecursion IsLine lines → before ≡ Some (read_text lines ++ (text ++ more)) → BeginsBad h lines shown (Some more) why text
        → length (read_text lines ++ text) ≤ 1073741824 → ⊥
    bad_of_long before after had has lines shown text more why ran are is bad within =
        let ls = ran.lines in
        let t = told (read_text lines ++ (text ++ more)) (read_text ls ++ (ran.rest ++ ran.more ∷ [])) after (rw is at ran.takes) in
        let seam : read_text ls ++ (ran.rest ++ (ran.more ∷ t.0)) ≡ read_text lines ++ (text ++ more) =
        ap (λ y. read_text ls ++ y) (sym (append_assoc ran.rest (ran.more ∷ []) t.0)) ∙ sym (append_assoc (read_text ls) (ran.rest ++ ran.more ∷ []) t.0) ∙ sym t.2 in
        let long = ran.long in
        bad_before_limit h x ls lines shown why ran.rest (ran.more ∷ t.0) text more (reached_fits ls ran.shown ran.reached) ran.reached.are_lines are ran.part
        (omega arith) (omega (arith, long, within)) seam bad

    pub refused : (result : InputEnd R) (before after had has : Option Text) (lines : List Text) (shown text more : Text) (why : LineRefusal R) → Ran h result before after had has
        → result ≢ InputEnd.ReadFault → result ≢ InputEnd.WriteFault
        → Fits h lines → AllByRecursion IsLine lines → before ≡ Some (read_text lines ++ (text ++ more)) → BeginsBad h lines shown (Some more) why text
        → length (read_text lines ++ text) ≤ 1073741824 → IsRefused h x (length lines + 1) (reason_of h x why) result
    unfolding Ran
    refused InputEnd.Done before after had has lines shown text more why ran r w fits are is bad short =
        absurd (whole_of_bad before after had has lines shown text more why ran are is bad)
    refused (InputEnd.BadLine line c) before after had has lines shown text more why ran r w fits are is bad short =
        let ls = ran.lines in
        let t = told (read_text lines ++ (text ++ more)) (read_text ls ++ ran.rest) after (rw is at ran.takes) in
        let p = same_bad h x ls lines ran.shown shown after c why ran.rest text t.0 more (reached_fits ls ran.shown ran.reached) fits ran.reached.are_lines are
        (sym (append_assoc (read_text ls) ran.rest t.0) ∙ sym t.2) t.1 ran.bad bad in
        let line_is : line ≡ length lines + 1 = ran.line_is ∙ ap (λ n. n + 1) p.count in
        inl (record { bad = c; told = p.reason; is = ap (λ (n : ℕ). InputEnd.BadLine n c) line_is })
    refused InputEnd.ReadFault before after had has lines shown text more why ran r w fits are is bad short = absurd (r refl)
    refused InputEnd.WriteFault before after had has lines shown text more why ran r w fits are is bad short = absurd (w refl)
    refused InputEnd.NoMemory before after had has lines shown text more why ran r w fits are is bad short = inr refl
    refused InputEnd.InputTooLong before after had has lines shown text more why ran r w fits are is bad short =
        absurd (bad_of_long before after had has lines shown text more why ran are is bad short)

    -- ---- too long

    -- a bad line is none within the limit
    long_of_bad : (before after had has : Option Text) (line : ℕ) (why : LineRefusal R) (lines : List Text) (rest more : Text) → RanToBad h before after had has line why
        → Fits h lines → AllByRecursion IsLine lines → IsLine rest → length (read_text lines ++ rest) ≡ 1073741824 → 0 < length more
        → before ≡ Some (read_text lines ++ (rest ++ more)) → ⊥
    long_of_bad before after had has line why lines rest more ran fits are part long some is =
        let t = told (read_text lines ++ (rest ++ more)) (read_text ran.lines ++ ran.rest) after (rw is at ran.takes) in
        let within = ran.within in
        bad_before_limit h x lines ran.lines ran.shown why rest more ran.rest t.0 fits are ran.reached.are_lines part some (omega (arith, within, long))
        (t.2 ∙ append_assoc (read_text ran.lines) ran.rest t.0) (subst (λ (left : Option Text). BeginsBad h ran.lines ran.shown left why ran.rest) t.1 ran.bad)

    pub too_long : (result : InputEnd R) (before after had has : Option Text) (lines : List Text) (rest more : Text) → Ran h result before after had has
        → result ≢ InputEnd.ReadFault → result ≢ InputEnd.WriteFault
        → Fits h lines → AllByRecursion IsLine lines → IsLine rest → length (read_text lines ++ rest) ≡ 1073741824 → 0 < length more
        → before ≡ Some (read_text lines ++ (rest ++ more)) → IsTooLong result
    unfolding Ran
    too_long InputEnd.Done before after had has lines rest more ran r w fits are part long some is =
        let most = ended_short before after had has (read_text lines ++ (rest ++ more)) ran is in
        let whole : length (read_text lines ++ (rest ++ more)) ≡ length (read_text lines ++ rest) + length more =
        ap length (sym (append_assoc (read_text lines) rest more)) ∙ length-append (read_text lines ++ rest) more in
        absurd (omega (arith, most, whole, long, some))
    too_long (InputEnd.BadLine line why) before after had has lines rest more ran r w fits are part long some is =
        absurd (long_of_bad before after had has line why lines rest more ran fits are part long some is)
    too_long InputEnd.ReadFault before after had has lines rest more ran r w fits are part long some is = absurd (r refl)
    too_long InputEnd.WriteFault before after had has lines rest more ran r w fits are part long some is = absurd (w refl)
    too_long InputEnd.NoMemory before after had has lines rest more ran r w fits are part long some is = inr refl
    too_long InputEnd.InputTooLong before after had has lines rest more ran r w fits are part long some is = inl refl
