-- The text of steps, one after another, and of a batch.
use Rattle.std.proofs.Common.{◌≡◌, ℕ, ◌+◌, ◌-◌, suc, List, [], ◌∷◌, ◌++◌, map, length, take, refl, sym, ◌∙◌, ap, arith, append_assoc, inl, inr}
use Rattle.std.specs.Prelude.{cond, count_by}
use Rattle.std.proofs.lemmas.List.Sums.{sum_by-cons}
use Rattle.std.proofs.lemmas.List.{append-nil, length-append, length-map}
use Rattle.std.proofs.lemmas.Grind.{flat_map-append}
use Rattle.std.proofs.Math.Seq.{take-append_seam}
use Rattle.crsm_base.specs.declared.Line.{Line}
use Rattle.crsm_base.specs.declared.send.Send.{Send}
use Rattle.crsm_spec.specs.Log.{Log}
use Rattle.crsm_spec.specs.Types.{Datagram}
use Rattle.crsm_spec.specs.Replica.{Replica}
use Rattle.crsm_spec.specs.Draft.{Draft, Reply}
use Rattle.crsm_spec.specs.Step.{boot}
use Rattle.crsm_spec.specs.Node.{Turn, turn, outputs, outputs_from}
use Rattle.crsm_replica_output.specs.declared.batch.Batch.{Batch}
use Rattle.crsm_replica_output.specs.Made.{IsBatchOf, line_of, made_of, to_address, to_replica}
use Rattle.crsm_schedule.specs.Transcript.{line_text, lines_text}
use Rattle.crsm_text_sheet.specs.declared.line.SheetLine.{SheetLine}
use Rattle.crsm_text_sheet.specs.declared.line.SheetLine.TheVariants.{Entry, Open}
use Rattle.crsm_text_sheet.specs.Sheets.{entry_line, turn_line, sheet_of}
use Rattle.crsm_replica_rerun.specs.Batches.{goes_to_client, send_line}
use Rattle.crsm_replica_rerun.specs.Sheets.{LeadTo, Replays}
use Rattle.crsm_replica_rerun.specs.Stages.{AnswersAll}
use Rattle.crsm_replica_rerun.specs.Texts.{back_line, out_line, shown_text, step_lines, steps_text}

-- ---- a batch

count_replies : (replies : List Reply) → count_by goes_to_client (map to_address replies) ≡ length replies
unfolding to_address
count_replies [] = refl
count_replies (a ∷ replies) =
    let rest = count_replies replies in
    let one : 1 + count_by goes_to_client (map to_address replies) ≡ suc (length replies) = omega (arith, rest) in
    sum_by-cons (λ (s : Send). cond (goes_to_client s) 1 0) (to_address a) (map to_address replies) ∙ one

count_sends : (sends : List (ℕ × Datagram)) (replies : List Reply) → count_by goes_to_client (map to_replica sends ++ map to_address replies) ≡ length replies
unfolding to_replica
count_sends [] replies = count_replies replies
count_sends (s ∷ sends) replies =
    let rest = count_sends sends replies in
    let none : 0 + count_by goes_to_client (map to_replica sends ++ map to_address replies) ≡ length replies = omega (arith, rest) in
    sum_by-cons (λ (s : Send). cond (goes_to_client s) 1 0) (to_replica s) (map to_replica sends ++ map to_address replies) ∙ none

back_lines : (replies : List Reply) → map send_line (map to_address replies) ≡ map back_line replies
unfolding to_address
back_lines [] = refl
back_lines (a ∷ replies) = ap (λ (ls : List Line). back_line a ∷ ls) (back_lines replies)

sent_lines : (sends : List (ℕ × Datagram)) (replies : List Reply) → map send_line (map to_replica sends ++ map to_address replies) ≡ map out_line sends ++ map back_line replies
unfolding to_replica
sent_lines [] replies = back_lines replies
sent_lines (s ∷ sends) replies = ap (λ (ls : List Line). out_line s ∷ ls) (sent_lines sends replies)

own_lines : (own : List Line) (replies : List Reply) → take (length (own ++ map line_of replies) - length replies) (own ++ map line_of replies) ≡ own
own_lines own replies =
    let long = length-append own (map line_of replies) in
    let many = length-map replies line_of in
    let count : length (own ++ map line_of replies) - length replies ≡ length own = omega (arith, long, many) in
    ap (λ (k : ℕ). take k (own ++ map line_of replies)) count ∙ take-append_seam own (map line_of replies)

-- the lines of a batch without those of replies, and those of its datagrams
abbrev pub batch_lines : Batch → List Line
batch_lines batch = take (length batch.lines - count_by goes_to_client batch.sends) batch.lines ++ map send_line batch.sends

batch_step : (batch : Batch) (x : Draft) → IsBatchOf batch (made_of x) → batch_lines batch ≡ step_lines x
unfolding step_lines
batch_step batch x is =
    let own : List Line = x.lines ++ x.excess in
    let replies : List Line = map line_of x.replies in
    let sends : List Send = map to_replica x.sends ++ map to_address x.replies in
    ap (λ (ls : List Line). take (length ls - count_by goes_to_client batch.sends) ls ++ map send_line batch.sends) is.lines
    ∙ ap (λ (ss : List Send). take (length (own ++ replies) - count_by goes_to_client ss) (own ++ replies) ++ map send_line ss) is.sends
    ∙ ap (λ (k : ℕ). take (length (own ++ replies) - k) (own ++ replies) ++ map send_line sends) (count_sends x.sends x.replies)
    ∙ ap (λ (ls : List Line). ls ++ map send_line sends) (own_lines own x.replies)
    ∙ ap (λ (ls : List Line). own ++ ls) (sent_lines x.sends x.replies)

-- what is added for a batch is the text of its steps
pub added_steps : (batch : Batch) (steps : List Draft) (at : ℕ) (out : List ℕ) → AnswersAll batch steps
    → (out ++ lines_text at (take (length batch.lines - count_by goes_to_client batch.sends) batch.lines)) ++ lines_text at (map send_line batch.sends) ≡ out ++ steps_text at steps
unfolding steps_text
added_steps batch [] at out nothing =
    ap (λ (ls : List Line). (out ++ lines_text at (take (length ls - count_by goes_to_client batch.sends) ls)) ++ lines_text at (map send_line batch.sends)) nothing.lines
    ∙ ap (λ (ss : List Send). (out ++ lines_text at (take (0 - count_by goes_to_client ss) [])) ++ lines_text at (map send_line ss)) nothing.sends
    ∙ append-nil (out ++ [])
added_steps batch (x ∷ []) at out answers =
    let own : List Line = take (length batch.lines - count_by goes_to_client batch.sends) batch.lines in
    let sent : List Line = map send_line batch.sends in
    append_assoc out (lines_text at own) (lines_text at sent)
    ∙ ap (λ (s : List ℕ). out ++ s) (sym (flat_map-append (line_text at) own sent) ∙ ap (lines_text at) (batch_step batch x answers.made) ∙ sym (append-nil (lines_text at (step_lines x))))
added_steps batch (x ∷ y ∷ xs) at out answers = absurd answers

-- ---- steps

text_of_more : (at : ℕ) (xs ys : List Draft) → steps_text at (xs ++ ys) ≡ steps_text at xs ++ steps_text (at + length xs) ys
unfolding steps_text
text_of_more at [] ys = ap (λ (k : ℕ). steps_text k ys) (let same : at ≡ at + 0 = omega arith in same)
text_of_more at (x ∷ xs) ys =
    let next : at + 1 + length xs ≡ at + suc (length xs) = omega arith in
    ap (λ (s : List ℕ). lines_text at (step_lines x) ++ s) (text_of_more (at + 1) xs ys ∙ ap (λ (k : ℕ). steps_text (at + 1) xs ++ steps_text k ys) next)
    ∙ sym (append_assoc (lines_text at (step_lines x)) (steps_text (at + 1) xs) (steps_text (at + suc (length xs)) ys))

count_turns : (r : Replica) (ts : List (Turn × ℕ)) → length (outputs_from r ts) ≡ length ts
unfolding outputs_from
count_turns r [] = refl
count_turns r (t ∷ ts) = ap suc (count_turns (turn r t).replica ts)

count_steps : (me n : ℕ) (log : Log) (ts : List (Turn × ℕ)) → length (outputs me n log ts) ≡ suc (length ts)
unfolding outputs
count_steps me n log ts = ap suc (count_turns (boot me n log).replica ts)

count_lines : (bodies : List (List ℕ)) (turns : List (Turn × ℕ)) → length (sheet_of bodies turns) ≡ length bodies + suc (length turns)
unfolding sheet_of
count_lines bodies turns =
    let long = length-append (map entry_line bodies) (Open ∷ map turn_line turns) in
    let many = length-map bodies entry_line in
    let more = length-map turns turn_line in
    omega (arith, long, many, more)

same_bodies : (bodies others : List (List ℕ)) (xs ys : List SheetLine) → map entry_line bodies ++ Open ∷ xs ≡ map entry_line others ++ Open ∷ ys → length bodies ≡ length others
same_bodies [] [] xs ys e = refl
same_bodies [] (c ∷ others) xs ys e = let heads : Open ≡ Entry c = cc in cc
same_bodies (b ∷ bodies) [] xs ys e = let heads : Entry b ≡ Open = cc in cc
same_bodies (b ∷ bodies) (c ∷ others) xs ys e =
    let tails : map entry_line bodies ++ Open ∷ xs ≡ map entry_line others ++ Open ∷ ys = cc in ap suc (same_bodies bodies others xs ys tails)

-- a line behind a sheet leads to a step
no_quiet : (me n : ℕ) (lines : List SheetLine) (l : SheetLine) (steps more : List Draft) → Replays me n lines steps → Replays me n (lines ++ l ∷ []) more → length steps ≡ length more → ⊥
unfolding sheet_of
no_quiet me n lines l steps more old new same =
    let o = old.sheet in
    let p = new.sheet in
    let whole : map entry_line o.bodies ++ Open ∷ (map turn_line o.turns ++ l ∷ []) ≡ map entry_line p.bodies ++ Open ∷ map turn_line p.turns =
    sym (append_assoc (map entry_line o.bodies) (Open ∷ map turn_line o.turns) (l ∷ [])) ∙ ap (λ (ls : List SheetLine). ls ++ l ∷ []) (sym o.is) ∙ p.is in
    let bodies = same_bodies o.bodies p.bodies (map turn_line o.turns ++ l ∷ []) (map turn_line p.turns) whole in
    let before = ap length old.are ∙ count_steps me n o.log o.turns in
    let after = ap length new.are ∙ count_steps me n p.log p.turns in
    let short = ap length o.is ∙ count_lines o.bodies o.turns in
    let long = ap length p.is ∙ count_lines p.bodies p.turns in
    let one = length-append lines (l ∷ []) in
    omega (arith, bodies, before, after, short, long, one, same)

-- no more steps than lines
few_steps : (me n : ℕ) (lines : List SheetLine) (steps : List Draft) → LeadTo me n lines steps → (k : ℕ) × (length lines ≡ k + length steps)
few_steps me n lines steps (inl none) = (length lines, (let no = ap length none.1 in omega (arith, no)))
few_steps me n lines steps (inr runs) =
    let many = ap length runs.are ∙ count_steps me n runs.sheet.log runs.sheet.turns in
    let long = ap length runs.sheet.is ∙ count_lines runs.sheet.bodies runs.sheet.turns in
    (length runs.sheet.bodies, omega (arith, many, long))

nothing_before : (me n : ℕ) (lines : List SheetLine) (l : SheetLine) (steps : List Draft) → LeadTo me n lines steps → LeadTo me n (lines ++ l ∷ []) (steps ++ []) → steps ≡ []
nothing_before me n lines l steps (inl none) new = none.1
nothing_before me n lines l steps (inr old) (inl none) = sym (append-nil steps) ∙ none.1
nothing_before me n lines l steps (inr old) (inr new) = absurd (no_quiet me n lines l steps (steps ++ []) old new (ap length (sym (append-nil steps))))

-- a line that leads to nothing, where nothing came before
quiet_line : (first : ℕ) (lines : List SheetLine) (l : SheetLine) (xs : List Draft) → xs ≡ []
    → steps_text (first + (length (lines ++ l ∷ []) - length (xs ++ []))) (xs ++ []) ≡ steps_text (first + (length lines - length xs)) xs ++ steps_text (first + length lines) []
unfolding steps_text
quiet_line first lines l [] e = refl
quiet_line first lines l (x ∷ xs) e = cc

-- the text of one line more
pub shown_more : (me n first : ℕ) (lines : List SheetLine) (steps : List Draft) (l : SheetLine) (more : List Draft) (batch : Batch)
    → LeadTo me n lines steps → LeadTo me n (lines ++ l ∷ []) (steps ++ more) → AnswersAll batch more
    → shown_text first (lines ++ l ∷ []) (steps ++ more) ≡ shown_text first lines steps ++ steps_text (first + length lines) more
unfolding shown_text
shown_more me n first lines steps l [] batch old new answers = quiet_line first lines l steps (nothing_before me n lines l steps old new)
shown_more me n first lines steps l (x ∷ []) batch old new answers =
    let few = few_steps me n lines steps old in
    let within = few.1 in
    let one = length-append lines (l ∷ []) in
    let two = length-append steps (x ∷ []) in
    let start : first + (length (lines ++ l ∷ []) - length (steps ++ x ∷ [])) ≡ first + (length lines - length steps) = omega (arith, one, two, within) in
    let at : first + (length lines - length steps) + length steps ≡ first + length lines = omega (arith, within) in
    ap (λ (k : ℕ). steps_text k (steps ++ x ∷ [])) start
    ∙ text_of_more (first + (length lines - length steps)) steps (x ∷ [])
    ∙ ap (λ (k : ℕ). steps_text (first + (length lines - length steps)) steps ++ steps_text k (x ∷ [])) at
shown_more me n first lines steps l (x ∷ y ∷ more) batch old new answers = absurd answers
