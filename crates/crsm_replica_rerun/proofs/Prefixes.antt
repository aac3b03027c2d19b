-- The prefixes of sheets, and the lines that can follow.
use Rattle.std.proofs.Common.{◌≡◌, ◌≢◌, ℕ, List, [], ◌∷◌, ◌++◌, map, refl, sym, ◌∙◌, ap, append_assoc}
use Rattle.std.proofs.lemmas.List.{map-append}
use Rattle.crsm_spec.specs.Node.{Turn}
use Rattle.crsm_text_sheet.specs.declared.line.SheetLine.{SheetLine}
use Rattle.crsm_text_sheet.specs.declared.line.SheetLine.TheVariants.{Entry, Open}
use Rattle.crsm_text_sheet.specs.Sheets.{entry_line, turn_line, sheet_of}
use Rattle.crsm_replica_rerun.specs.Sheets.{BeginASheet}

-- one body more
pub bodies_more : (bodies : List (List ℕ)) (body : List ℕ) → map entry_line (bodies ++ body ∷ []) ≡ map entry_line bodies ++ Entry body ∷ []
bodies_more bodies body = map-append entry_line bodies (body ∷ [])

-- the sheet of a boot alone
pub opened : (bodies : List (List ℕ)) → sheet_of bodies [] ≡ map entry_line bodies ++ Open ∷ []
unfolding sheet_of
opened bodies = refl

-- one turn more
pub turns_more : (bodies : List (List ℕ)) (turns : List (Turn × ℕ)) (t : Turn × ℕ) → sheet_of bodies (turns ++ t ∷ []) ≡ sheet_of bodies turns ++ turn_line t ∷ []
unfolding sheet_of
turns_more bodies turns t =
    ap (λ (ls : List SheetLine). map entry_line bodies ++ Open ∷ ls) (map-append turn_line turns (t ∷ []))
    ∙ sym (append_assoc (map entry_line bodies) (Open ∷ map turn_line turns) (turn_line t ∷ []))

-- ---- what stands nowhere behind `open`, and what stands nowhere before it

-- no turn has this line
abbrev pub IsNoTurn : SheetLine → Type 0
IsNoTurn l = (t : Turn × ℕ) → l ≢ turn_line t

pub entry_is_no_turn : (body : List ℕ) → IsNoTurn (Entry body)
entry_is_no_turn body (Turn.In a b, r) e = cc
entry_is_no_turn body (Turn.Tick, r) e = cc
entry_is_no_turn body (Turn.Suspect m, r) e = cc

pub open_is_no_turn : IsNoTurn Open
open_is_no_turn (Turn.In a b, r) e = cc
open_is_no_turn (Turn.Tick, r) e = cc
open_is_no_turn (Turn.Suspect m, r) e = cc

among_turns : (l : SheetLine) → IsNoTurn l → (turns later : List (Turn × ℕ)) (more : List SheetLine) → map turn_line turns ++ l ∷ more ≢ map turn_line later
among_turns l none [] [] more e = cc
among_turns l none [] (u ∷ later) more e = none u (cc)
among_turns l none (t ∷ turns) [] more e = cc
among_turns l none (t ∷ turns) (u ∷ later) more e =
    let tails : map turn_line turns ++ l ∷ more ≡ map turn_line later = cc in among_turns l none turns later more tails

behind : (l : SheetLine) → IsNoTurn l → (turns later : List (Turn × ℕ)) (more : List SheetLine) (bodies others : List (List ℕ))
    → map entry_line bodies ++ Open ∷ (map turn_line turns ++ l ∷ more) ≢ map entry_line others ++ Open ∷ map turn_line later
behind l none turns later more [] [] e = among_turns l none turns later more (let tails : map turn_line turns ++ l ∷ more ≡ map turn_line later = cc in tails)
behind l none turns later more [] (c ∷ others) e = let heads : Open ≡ Entry c = cc in cc
behind l none turns later more (b ∷ bodies) [] e = let heads : Entry b ≡ Open = cc in cc
behind l none turns later more (b ∷ bodies) (c ∷ others) e =
    let tails : map entry_line bodies ++ Open ∷ (map turn_line turns ++ l ∷ more) ≡ map entry_line others ++ Open ∷ map turn_line later = cc in
    behind l none turns later more bodies others tails

-- behind `open` come turns alone
pub not_behind_open : (l : SheetLine) → IsNoTurn l → (lines : List SheetLine) (bodies : List (List ℕ)) (turns : List (Turn × ℕ)) → lines ≡ sheet_of bodies turns → BeginASheet (lines ++ l ∷ []) → ⊥
unfolding sheet_of
not_behind_open l none lines bodies turns is b =
    let whole : map entry_line bodies ++ Open ∷ (map turn_line turns ++ l ∷ b.more) ≡ map entry_line b.bodies ++ Open ∷ map turn_line b.turns =
    sym (append_assoc (map entry_line bodies) (Open ∷ map turn_line turns) (l ∷ b.more)) ∙ sym (append_assoc (map entry_line bodies ++ Open ∷ map turn_line turns) (l ∷ []) b.more)
    ∙ ap (λ (ls : List SheetLine). (ls ++ l ∷ []) ++ b.more) (sym is) ∙ b.is in
    behind l none turns b.turns b.more bodies b.bodies whole

before : (t : Turn × ℕ) (later : List (Turn × ℕ)) (more : List SheetLine) (bodies others : List (List ℕ))
    → map entry_line bodies ++ turn_line t ∷ more ≢ map entry_line others ++ Open ∷ map turn_line later
before t later more [] [] e = open_is_no_turn t (let heads : Open ≡ turn_line t = cc in heads)
before t later more [] (c ∷ others) e = entry_is_no_turn c t (let heads : Entry c ≡ turn_line t = cc in heads)
before t later more (b ∷ bodies) [] e = let heads : Entry b ≡ Open = cc in cc
before t later more (b ∷ bodies) (c ∷ others) e =
    let tails : map entry_line bodies ++ turn_line t ∷ more ≡ map entry_line others ++ Open ∷ map turn_line later = cc in
    before t later more bodies others tails

-- no turn comes before `open`
pub not_before_open : (t : Turn × ℕ) (lines : List SheetLine) (bodies : List (List ℕ)) → lines ≡ map entry_line bodies → BeginASheet (lines ++ turn_line t ∷ []) → ⊥
unfolding sheet_of
not_before_open t lines bodies is b =
    let whole : map entry_line bodies ++ turn_line t ∷ b.more ≡ map entry_line b.bodies ++ Open ∷ map turn_line b.turns =
    sym (append_assoc (map entry_line bodies) (turn_line t ∷ []) b.more) ∙ ap (λ (ls : List SheetLine). (ls ++ turn_line t ∷ []) ++ b.more) (sym is) ∙ b.is in
    before t b.turns b.more bodies b.bodies whole

bare : (bodies others : List (List ℕ)) (turns : List (Turn × ℕ)) → map entry_line bodies ≢ map entry_line others ++ Open ∷ map turn_line turns
bare [] [] turns e = cc
bare [] (c ∷ others) turns e = cc
bare (b ∷ bodies) [] turns e = let heads : Entry b ≡ Open = cc in cc
bare (b ∷ bodies) (c ∷ others) turns e = let tails : map entry_line bodies ≡ map entry_line others ++ Open ∷ map turn_line turns = cc in bare bodies others turns tails

-- bodies alone are no sheet
pub bodies_are_no_sheet : (lines : List SheetLine) (bodies : List (List ℕ)) → lines ≡ map entry_line bodies → (others : List (List ℕ)) (turns : List (Turn × ℕ)) → lines ≡ sheet_of others turns → ⊥
unfolding sheet_of
bodies_are_no_sheet lines bodies is others turns e = bare bodies others turns (sym is ∙ e)
