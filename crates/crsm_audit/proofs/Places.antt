-- The lines with which an audit begins, and their progress.
use Rattle.std.proofs.Common.{◌≡◌, ◌≢◌, ℕ, List, [], ◌∷◌, ◌++◌, map, refl, sym, ◌∙◌, ap, subst, append_assoc}
use Rattle.std.specs.Prelude.{Option, Some, None}
use Rattle.std.specs.List.{flat_map}
use Rattle.std.specs.Option.{option_and_then}
use Rattle.std.proofs.lemmas.List.{append-nil, map-append}
use Rattle.std.proofs.lemmas.Option.{none-some, same_Some}
use Rattle.crsm_spec.specs.Node.{Turn}
use Rattle.crsm_text_sheet.specs.declared.line.SheetLine.{SheetLine}
use Rattle.crsm_text_sheet.specs.declared.line.SheetLine.TheVariants.{Entry, Open, In, Tick, Suspect}
use Rattle.crsm_text_sheet.specs.Sheets.{entry_line, sheet_of, turn_line}
use Rattle.crsm_replica_rerun.specs.Sheets.{BeginASheet}
use Rattle.crsm_audit.specs.Lines.{BeginAnAudit, IsAnAudit, NamedSheet, follows, lines_of, progress_after}
use Rattle.crsm_audit.specs.declared.line.AuditLine.{AuditLine}
use Rattle.crsm_audit.specs.declared.line.AuditLine.TheVariants.{Node, Sheet}
use Rattle.crsm_audit.specs.declared.line.Progress.{Progress}
use Rattle.crsm_audit.specs.declared.line.Progress.TheVariants.{Before, Finding, Running}

-- ---- lines one after another

on_from : List AuditLine → Option Progress → Option Progress
on_from ls o = option_and_then (λ q. progress_after q ls) o

progress_append : (p : Progress) (xs ys : List AuditLine) → progress_after p (xs ++ ys) ≡ on_from ys (progress_after p xs)
unfolding progress_after on_from
progress_append p [] ys = refl
progress_append p (x ∷ xs) ys = go (follows p x) (λ q. progress_append q xs ys)
  where
    go : (o : Option Progress) → ((q : Progress) → progress_after q (xs ++ ys) ≡ option_and_then (λ r. progress_after r ys) (progress_after q xs))
        → option_and_then (λ q. progress_after q (xs ++ ys)) o ≡ option_and_then (λ q. progress_after q ys) (option_and_then (λ q. progress_after q xs) o)
    go None rest = refl
    go (Some q) rest = rest q

pub progress_more : (p q : Progress) (ls : List AuditLine) (l : AuditLine) → progress_after p ls ≡ Some q → progress_after p (ls ++ l ∷ []) ≡ follows q l
unfolding progress_after on_from
progress_more p q ls l e = progress_append p ls (l ∷ []) ∙ ap (on_from (l ∷ [])) e ∙ go (follows q l)
  where
    go : (o : Option Progress) → option_and_then (λ r. Some r) o ≡ o
    go None = refl
    go (Some r) = refl

-- ---- sheets

entries_lead : (bodies : List (List ℕ)) (more : List SheetLine) → progress_after Finding (map Sheet (map entry_line bodies ++ more)) ≡ progress_after Finding (map Sheet more)
unfolding progress_after
entries_lead [] more = refl
entries_lead (b ∷ bodies) more = entries_lead bodies more

turns_lead : (turns : List (Turn × ℕ)) → progress_after Running (map Sheet (map turn_line turns)) ≡ Some Running
unfolding progress_after
turns_lead [] = refl
turns_lead ((Turn.In a b, r) ∷ turns) = turns_lead turns
turns_lead ((Turn.Tick, r) ∷ turns) = turns_lead turns
turns_lead ((Turn.Suspect m, r) ∷ turns) = turns_lead turns

pub sheet_leads : (bodies : List (List ℕ)) (turns : List (Turn × ℕ)) → progress_after Finding (map Sheet (sheet_of bodies turns)) ≡ Some Running
unfolding sheet_of progress_after
sheet_leads bodies turns = entries_lead bodies (Open ∷ map turn_line turns) ∙ turns_lead turns

pub bodies_lead : (bodies : List (List ℕ)) → progress_after Finding (map Sheet (map entry_line bodies)) ≡ Some Finding
unfolding progress_after
bodies_lead [] = refl
bodies_lead (b ∷ bodies) = bodies_lead bodies

-- no sheet ends with a body
pub entry_not_last : (own : List SheetLine) (b : List ℕ) (bodies : List (List ℕ)) (turns : List (Turn × ℕ)) → own ++ Entry b ∷ [] ≡ sheet_of bodies turns → ⊥
unfolding progress_after on_from
entry_not_last own b bodies turns is =
    go (progress_after Finding (map Sheet own)) (
    sym (progress_append Finding (map Sheet own) (Sheet (Entry b) ∷ []))
    ∙ ap (progress_after Finding) (sym (map-append Sheet own (Entry b ∷ [])) ∙ ap (map Sheet) is)
    ∙ sheet_leads bodies turns
    )
  where
    apart : Some Finding ≡ Some Running → ⊥
    apart e = cc

    go : (o : Option Progress) → option_and_then (λ q. progress_after q (Sheet (Entry b) ∷ [])) o ≡ Some Running → ⊥
    go None e = none-some Running e
    go (Some Before) e = none-some Running e
    go (Some Finding) e = apart e
    go (Some Running) e = none-some Running e

-- nor is a sheet with bodies alone whole
pub bodies_do_not_run : (before : List AuditLine) (me : ℕ) (bodies : List (List ℕ)) → progress_after Before (before ++ Node me ∷ map Sheet (map entry_line bodies)) ≡ Some Running → ⊥
unfolding progress_after on_from
bodies_do_not_run before me bodies runs =
    let ls = map Sheet (map entry_line bodies) in
    go (progress_after Before before) (sym (progress_append Before before (Node me ∷ ls)) ∙ runs)
  where
    found : progress_after Finding (map Sheet (map entry_line bodies)) ≡ Some Running → ⊥
    found e = let apart : Some Finding ≡ Some Running = sym (bodies_lead bodies) ∙ e in cc

    go : (o : Option Progress) → option_and_then (λ q. progress_after q (Node me ∷ map Sheet (map entry_line bodies))) o ≡ Some Running → ⊥
    go None e = none-some Running e
    go (Some Before) e = found e
    go (Some Finding) e = none-some Running e
    go (Some Running) e = found e

more_lead : (named : List NamedSheet) → progress_after Running (flat_map lines_of named) ≡ Some Running
unfolding progress_after on_from
more_lead [] = refl
more_lead (s ∷ named) =
    progress_append Running (lines_of s) (flat_map lines_of named) ∙ ap (on_from (flat_map lines_of named)) (sheet_leads s.bodies s.turns) ∙ more_lead named

named_lead : (s : NamedSheet) (named : List NamedSheet) → progress_after Before (flat_map lines_of (s ∷ named)) ≡ Some Running
unfolding progress_after on_from
named_lead s named =
    progress_append Before (lines_of s) (flat_map lines_of named) ∙ ap (on_from (flat_map lines_of named)) (sheet_leads s.bodies s.turns) ∙ more_lead named

pub whole_runs : (ls : List AuditLine) → IsAnAudit ls → progress_after Before ls ≡ Some Running
whole_runs ls a = ap (progress_after Before) a.is ∙ go a.named a.some
  where
    go : (named : List NamedSheet) → named ≢ [] → progress_after Before (flat_map lines_of named) ≡ Some Running
    go [] some = absurd (some refl)
    go (s ∷ named) some = named_lead s named

-- what an audit begins with leads somewhere
begin_leads : (ls : List AuditLine) → BeginAnAudit ls → progress_after Before ls ≡ None → ⊥
unfolding progress_after on_from
begin_leads ls b none =
    go b.named (sym (ap (progress_after Before) b.is) ∙ progress_append Before ls b.more ∙ ap (on_from b.more) none)
  where
    go : (named : List NamedSheet) → progress_after Before (flat_map lines_of named) ≡ None → ⊥
    go [] e = none-some Before (sym e)
    go (s ∷ named) e = none-some Running (sym e ∙ named_lead s named)

-- a line that may not follow is that of no audit
pub not_followed : (p : Progress) (ls : List AuditLine) (l : AuditLine) → progress_after Before ls ≡ Some p → follows p l ≡ None → BeginAnAudit (ls ++ l ∷ []) → ⊥
not_followed p ls l e none b = begin_leads (ls ++ l ∷ []) b (progress_more Before p ls l e ∙ none)

-- ---- the lines of one sheet

-- lines of one sheet alone are those that it begins with
prefix_of : (xs zs : List SheetLine) (more : List AuditLine) (named : List NamedSheet) → map Sheet xs ++ more ≡ map Sheet zs ++ flat_map lines_of named
    → (rest : List SheetLine) × (xs ++ rest ≡ zs)
prefix_of [] zs more named e = (zs, refl)
prefix_of (x ∷ xs) [] more [] e = absurd (cc)
prefix_of (x ∷ xs) [] more (s ∷ named) e = absurd (cc)
prefix_of (x ∷ xs) (z ∷ zs) more named e =
    let head : x ≡ z = cc in
    let tails : map Sheet xs ++ more ≡ map Sheet zs ++ flat_map lines_of named = cc in
    let r = prefix_of xs zs more named tails in
    (r.0, ap (λ (l : SheetLine). l ∷ (xs ++ r.0)) head ∙ ap (λ (ls : List SheetLine). z ∷ ls) r.1)

-- what stands behind a line that names a node begins a sheet
begins_one : (before : List AuditLine) (zs : List SheetLine) (named : List NamedSheet) (me : ℕ) (xs : List SheetLine) (more : List AuditLine)
    → before ++ Node me ∷ (map Sheet xs ++ more) ≡ map Sheet zs ++ flat_map lines_of named → BeginASheet xs
begins_one [] (z ∷ zs) named me xs more e = absurd (cc)
begins_one [] [] [] me xs more e = absurd (cc)
begins_one (b ∷ before) [] [] me xs more e = absurd (cc)
begins_one [] [] (s ∷ named) me xs more e =
    let tails : map Sheet xs ++ more ≡ map Sheet (sheet_of s.bodies s.turns) ++ flat_map lines_of named = cc in
    let r = prefix_of xs (sheet_of s.bodies s.turns) more named tails in
    record { bodies = s.bodies; turns = s.turns; more = r.0; is = r.1 }
begins_one (b ∷ before) [] (s ∷ named) me xs more e =
    let tails : before ++ Node me ∷ (map Sheet xs ++ more) ≡ map Sheet (sheet_of s.bodies s.turns) ++ flat_map lines_of named = cc in
    begins_one before (sheet_of s.bodies s.turns) named me xs more tails
begins_one (b ∷ before) (z ∷ zs) named me xs more e =
    let tails : before ++ Node me ∷ (map Sheet xs ++ more) ≡ map Sheet zs ++ flat_map lines_of named = cc in
    begins_one before zs named me xs more tails

-- lines that begin no sheet are in no audit
pub no_line : (ls before : List AuditLine) (me : ℕ) (xs : List SheetLine) → ls ≡ before ++ Node me ∷ map Sheet xs → (BeginASheet xs → ⊥) → BeginAnAudit ls → ⊥
no_line ls before me xs is none b =
    none (begins_one before [] b.named me xs b.more (
    sym (append_assoc before (Node me ∷ map Sheet xs) b.more) ∙ ap (λ (x : List AuditLine). x ++ b.more) (sym is) ∙ b.is
    ))

-- ---- the form of lines with this progress

Shape : Progress → List AuditLine → Type 0
Shape Before ls = ls ≡ []
Shape Finding ls = (named : List NamedSheet) × (me : ℕ) × (bodies : List (List ℕ)) × (ls ≡ flat_map lines_of named ++ Node me ∷ map Sheet (map entry_line bodies))
Shape Running ls = (named : List NamedSheet) × (last : NamedSheet) × (ls ≡ flat_map lines_of named ++ lines_of last)

flat_more : (named : List NamedSheet) (s : NamedSheet) → flat_map lines_of (named ++ s ∷ []) ≡ flat_map lines_of named ++ lines_of s
flat_more [] s = append-nil (lines_of s)
flat_more (x ∷ named) s = ap (λ (ls : List AuditLine). lines_of x ++ ls) (flat_more named s) ∙ sym (append_assoc (lines_of x) (flat_map lines_of named) (lines_of s))

entries_more : (bodies : List (List ℕ)) (b : List ℕ) → map Sheet (map entry_line (bodies ++ b ∷ [])) ≡ map Sheet (map entry_line bodies) ++ Sheet (Entry b) ∷ []
entries_more [] b = refl
entries_more (c ∷ bodies) b = ap (λ (ls : List AuditLine). Sheet (Entry c) ∷ ls) (entries_more bodies b)

opened : (bodies : List (List ℕ)) → map Sheet (sheet_of bodies []) ≡ map Sheet (map entry_line bodies) ++ Sheet Open ∷ []
unfolding sheet_of
opened bodies = map-append Sheet (map entry_line bodies) (Open ∷ [])

turned : (bodies : List (List ℕ)) (turns : List (Turn × ℕ)) (t : Turn × ℕ) → map Sheet (sheet_of bodies (turns ++ t ∷ [])) ≡ map Sheet (sheet_of bodies turns) ++ Sheet (turn_line t) ∷ []
unfolding sheet_of
turned bodies turns t =
    ap (λ (ls : List SheetLine). map Sheet (map entry_line bodies ++ Open ∷ ls)) (map-append turn_line turns (t ∷ []))
    ∙ ap (map Sheet) (sym (append_assoc (map entry_line bodies) (Open ∷ map turn_line turns) (turn_line t ∷ [])))
    ∙ map-append Sheet (map entry_line bodies ++ Open ∷ map turn_line turns) (turn_line t ∷ [])

-- one line more behind the last sheet
behind_last : (named : List NamedSheet) (ls last more : List AuditLine) (l : AuditLine) → ls ≡ flat_map lines_of named ++ last → more ≡ last ++ l ∷ [] → ls ++ l ∷ [] ≡ flat_map lines_of named ++ more
behind_last named ls last more l is e =
    ap (λ (x : List AuditLine). x ++ l ∷ []) is ∙ append_assoc (flat_map lines_of named) last (l ∷ []) ∙ ap (λ (x : List AuditLine). flat_map lines_of named ++ x) (sym e)

turn_more : (ls : List AuditLine) (t : Turn × ℕ) → Shape Running ls → Shape Running (ls ++ Sheet (turn_line t) ∷ [])
unfolding Shape
turn_more ls t s =
    let last = s.1 in (
      s.0,
      record { me = last.me; bodies = last.bodies; turns = last.turns ++ t ∷ [] },
      behind_last s.0 ls (lines_of last) _ (Sheet (turn_line t)) s.2 (ap (λ (x : List AuditLine). Node last.me ∷ x) (turned last.bodies last.turns t)),
    )

shape_more : (p q : Progress) (ls : List AuditLine) (l : AuditLine) → follows p l ≡ Some q → Shape p ls → Shape q (ls ++ l ∷ [])
unfolding Shape
shape_more Before q ls (Node me) e s = subst (λ (x : Progress). Shape x (ls ++ Node me ∷ [])) (same_Some Finding q e) ([], me, [], ap (λ (x : List AuditLine). x ++ Node me ∷ []) s)
shape_more Running q ls (Node me) e s =
    subst (λ (x : Progress). Shape x (ls ++ Node me ∷ [])) (same_Some Finding q e)
    (s.0 ++ s.1 ∷ [], me, [], ap (λ (x : List AuditLine). x ++ Node me ∷ []) (s.2 ∙ sym (flat_more s.0 s.1)))
shape_more Finding q ls (Sheet (Entry b)) e s =
    subst (λ (x : Progress). Shape x (ls ++ Sheet (Entry b) ∷ [])) (same_Some Finding q e)
    (s.0, s.1, s.2 ++ b ∷ [], behind_last s.0 ls _ _ (Sheet (Entry b)) s.3 (ap (λ (x : List AuditLine). Node s.1 ∷ x) (entries_more s.2 b)))
shape_more Finding q ls (Sheet Open) e s =
    subst (λ (x : Progress). Shape x (ls ++ Sheet Open ∷ [])) (same_Some Running q e)
    (s.0, record { me = s.1; bodies = s.2; turns = [] }, behind_last s.0 ls _ _ (Sheet Open) s.3 (ap (λ (x : List AuditLine). Node s.1 ∷ x) (opened s.2)))
shape_more Running q ls (Sheet (In r a b)) e s = subst (λ (x : Progress). Shape x (ls ++ Sheet (In r a b) ∷ [])) (same_Some Running q e) (turn_more ls (Turn.In a b, r) s)
shape_more Running q ls (Sheet (Tick r)) e s = subst (λ (x : Progress). Shape x (ls ++ Sheet (Tick r) ∷ [])) (same_Some Running q e) (turn_more ls (Turn.Tick, r) s)
shape_more Running q ls (Sheet (Suspect r m)) e s = subst (λ (x : Progress). Shape x (ls ++ Sheet (Suspect r m) ∷ [])) (same_Some Running q e) (turn_more ls (Turn.Suspect m, r) s)
shape_more Finding q ls (Node me) e s = absurd (none-some q e)
shape_more Finding q ls (Sheet (In r a b)) e s = absurd (none-some q e)
shape_more Finding q ls (Sheet (Tick r)) e s = absurd (none-some q e)
shape_more Finding q ls (Sheet (Suspect r m)) e s = absurd (none-some q e)
shape_more Running q ls (Sheet (Entry b)) e s = absurd (none-some q e)
shape_more Running q ls (Sheet Open) e s = absurd (none-some q e)
shape_more Before q ls (Sheet (Entry b)) e s = absurd (none-some q e)
shape_more Before q ls (Sheet Open) e s = absurd (none-some q e)
shape_more Before q ls (Sheet (In r a b)) e s = absurd (none-some q e)
shape_more Before q ls (Sheet (Tick r)) e s = absurd (none-some q e)
shape_more Before q ls (Sheet (Suspect r m)) e s = absurd (none-some q e)

shape_along : (done ls : List AuditLine) (p q : Progress) → Shape p done → progress_after p ls ≡ Some q → Shape q (done ++ ls)
unfolding progress_after
shape_along done [] p q s e = subst (λ (x : Progress). Shape x (done ++ [])) (same_Some p q e) (subst (Shape p) (sym (append-nil done)) s)
shape_along done (l ∷ ls) p q s e = go (follows p l) refl e (λ r f. shape_along (done ++ l ∷ []) ls r q (shape_more p r done l f s))
  where
    go : (o : Option Progress) → follows p l ≡ o → option_and_then (λ r. progress_after r ls) o ≡ Some q
        → ((r : Progress) → follows p l ≡ Some r → progress_after r ls ≡ Some q → Shape q ((done ++ l ∷ []) ++ ls)) → Shape q (done ++ l ∷ ls)
    go None f h rest = absurd (none-some q h)
    go (Some r) f h rest = subst (Shape q) (append_assoc done (l ∷ []) ls) (rest r f h)

shape_of : (ls : List AuditLine) (p : Progress) → progress_after Before ls ≡ Some p → Shape p ls
unfolding Shape
shape_of ls p e = shape_along [] ls Before p refl e

-- lines that lead somewhere begin an audit
pub leads_begin : (ls : List AuditLine) (p : Progress) → progress_after Before ls ≡ Some p → BeginAnAudit ls
unfolding Shape
leads_begin ls p e = go p (shape_of ls p e)
  where
    go : (p : Progress) → Shape p ls → BeginAnAudit ls
    go Before s = record { named = []; more = []; is = append-nil ls ∙ s }
    go Finding s =
        let last : NamedSheet = record { me = s.1; bodies = s.2; turns = [] } in
        record {
          named = s.0 ++ last ∷ [];
          more = Sheet Open ∷ [];
          is = behind_last s.0 ls _ _ (Sheet Open) s.3 (ap (λ (x : List AuditLine). Node s.1 ∷ x) (opened s.2)) ∙ sym (flat_more s.0 last);
        }
    go Running s = record { named = s.0 ++ s.1 ∷ []; more = []; is = append-nil ls ∙ s.2 ∙ sym (flat_more s.0 s.1) }

-- and behind the `open` of the last sheet they are one
pub running_is_whole : (ls : List AuditLine) → progress_after Before ls ≡ Some Running → IsAnAudit ls
unfolding Shape
running_is_whole ls e =
    let s = shape_of ls Running e in
    record { named = s.0 ++ s.1 ∷ []; some = λ none. some s.0 s.1 none; is = s.2 ∙ sym (flat_more s.0 s.1) }
  where
    some : (named : List NamedSheet) (s : NamedSheet) → named ++ s ∷ [] ≢ []
    some [] s e = cc
    some (x ∷ named) s e = cc
