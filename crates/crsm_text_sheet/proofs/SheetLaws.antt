-- The lines of a sheet determine the log bodies and the turns.
use Rattle.std.proofs.Common.{◌≡◌, ℕ, List, [], ◌∷◌, ◌++◌, map, refl}
use Rattle.crsm_spec.specs.Node.{Turn}
use Rattle.crsm_text_sheet.specs.declared.line.SheetLine.TheVariants.{Entry, Open}
use Rattle.crsm_text_sheet.specs.Sheets.{entry_line, turn_line, sheet_of}

turn_injective : (t u : Turn × ℕ) → turn_line t ≡ turn_line u → t ≡ u
turn_injective (Turn.In a b, r) (Turn.In c d, s) e = let address : a ≡ c = cc in let bytes : b ≡ d = cc in let reading : r ≡ s = cc in cc
turn_injective (Turn.Tick, r) (Turn.Tick, s) e = let reading : r ≡ s = cc in cc
turn_injective (Turn.Suspect m, r) (Turn.Suspect n, s) e = let members : m ≡ n = cc in let reading : r ≡ s = cc in cc
turn_injective (Turn.In a b, r) (Turn.Tick, s) e = cc
turn_injective (Turn.In a b, r) (Turn.Suspect n, s) e = cc
turn_injective (Turn.Tick, r) (Turn.In c d, s) e = cc
turn_injective (Turn.Tick, r) (Turn.Suspect n, s) e = cc
turn_injective (Turn.Suspect m, r) (Turn.In c d, s) e = cc
turn_injective (Turn.Suspect m, r) (Turn.Tick, s) e = cc

turns_injective : (ts us : List (Turn × ℕ)) → map turn_line ts ≡ map turn_line us → ts ≡ us
turns_injective [] [] e = refl
turns_injective [] (u ∷ us) e = cc
turns_injective (t ∷ ts) [] e = cc
turns_injective (t ∷ ts) (u ∷ us) e =
    let heads : turn_line t ≡ turn_line u = cc in
    let tails : map turn_line ts ≡ map turn_line us = cc in
    let first : t ≡ u = turn_injective t u heads in
    let rest : ts ≡ us = turns_injective ts us tails in
    cc

pub sheet_parts : (bodies others : List (List ℕ)) (turns later : List (Turn × ℕ)) → sheet_of bodies turns ≡ sheet_of others later → (bodies ≡ others) × (turns ≡ later)
unfolding sheet_of
sheet_parts bodies others turns later e = parts bodies others e where
  parts : (bs cs : List (List ℕ)) → map entry_line bs ++ Open ∷ map turn_line turns ≡ map entry_line cs ++ Open ∷ map turn_line later → (bs ≡ cs) × (turns ≡ later)
  parts [] [] same = (refl, turns_injective turns later (let tails : map turn_line turns ≡ map turn_line later = cc in tails))
  parts [] (c ∷ cs) same = let heads : Open ≡ Entry c = cc in cc
  parts (b ∷ bs) [] same = let heads : Entry b ≡ Open = cc in cc
  parts (b ∷ bs) (c ∷ cs) same =
      let tails : map entry_line bs ++ Open ∷ map turn_line turns ≡ map entry_line cs ++ Open ∷ map turn_line later = cc in
      let r = parts bs cs tails in
      let head : b ≡ c = cc in
      let rest : bs ≡ cs = r.0 in
      (cc, r.1)
