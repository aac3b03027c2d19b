-- Each moment keeps the world sound.
use Rattle.std.proofs.Common.{◌≡◌, ℕ, ◌⊎◌, List, [], ◌∷◌, ◌++◌, inl, inr, refl, sym, subst, ap, Option, Some, None}
use Rattle.std.specs.List.{Contains, slice_get}
use Rattle.std.proofs.lemmas.List.Elements.{Contains-push, Contains-push_cases, Contains-append_left}
use Rattle.crsm_mpspec.specs.declared.MpInput.{MpInput}
use Rattle.crsm_mpspec.specs.declared.MpLine.{MpLine}
use Rattle.crsm_mpspec.specs.Types.{Command, Value}
use Rattle.crsm_mpspec.specs.Replica.{Replica, Waiting}
use Rattle.crsm_mpspec.specs.Draft.{Draft, begun, reply}
use Rattle.crsm_mpspec.specs.Deciding.{on_request}
use Rattle.crsm_mpspec.specs.Log.{executed}
use Rattle.crsm_mpspec.specs.Step.{answer, answer_each, replies, on_input, step}
use Rattle.crsm_mpspec.specs.World.{Site, World, Moment, after_step, whole_step, then_down, cut_step, lost_step, down}
use Rattle.crsm_mpspec.specs.Moments.{silent, begun_at}
use Rattle.crsm_law_mp.specs.Slots.{Past, Slots}
use Rattle.crsm_law_mp.specs.Seats.{IsSound}
use Rattle.crsm_law_mp.specs.Happenings.{Marks, Ends, Happens, Tells, IsNext}
use Rattle.crsm_law_mp.specs.Happenings.Marks.{none, mark}
use Rattle.crsm_law_mp.specs.Happenings.Ends.{IsWhole, IsCut, IsLost}
use Rattle.crsm_law_mp.specs.Happenings.Happens.{Nothing, Steps, Stops, Starts}
use Rattle.crsm_law_mp.proofs.Leading.{request_told}
use Rattle.crsm_law_mp.proofs.Worlds.{sound_more, use_up_sound, use_up_made, InStep, begins_step, steps, whole_sound, cut_sound, down_sound, start_sound}

-- replies leave the lines of records
pub answered_lines : (ws : List Waiting) (x : Draft) → (answer_each ws x).lines ≡ x.lines
unfolding answer_each answer reply
answered_lines [] x = refl
answered_lines (w ∷ ws) x = go (slice_get (executed x.replica.log) w.slot) (λ y. answered_lines ws y)
  where
    go : (o : Option Value) → ((y : Draft) → (answer_each ws y).lines ≡ y.lines) → (answer_each ws (answer w o x)).lines ≡ x.lines
    go None rest = rest _
    go (Some v) rest = rest _

pub replied_lines : (x : Draft) → (replies x).lines ≡ x.lines
unfolding replies
replied_lines x = answered_lines x.replica.waiting (record x { replica = record x.replica { waiting = [] } })

same_past : (past : Past) (command : Option Command) (lines : List MpLine) → IsNext past past command lines
same_past past command lines = record { submitted = λ c there. inl there; known = refl }

-- a line of a step is one of its moment, unless the step is lost
kept_line : (v : World) (k : ℕ) (x : Draft) (m : Moment) → Ends v k x m → (m.after ≡ (down v k).after) ⊎ ((line : MpLine) → Contains x.lines line → Contains m.lines line)
unfolding whole_step cut_step then_down after_step lost_step
kept_line v k x m IsWhole = inr (λ line c. Contains-append_left _ _ line (Contains-append_left x.lines _ line c))
kept_line v k x m (IsCut count) = inr (λ line c. Contains-append_left _ _ line (Contains-append_left _ _ line (Contains-append_left x.lines _ line c)))
kept_line v k x m IsLost = inl refl

module _ (n : ℕ) where
  marked : (past : Past) (w v : World) → Marks w v → IsSound n past w → IsSound n past v
  marked past w v none s = s
  marked past w v (mark i) s = use_up_sound n past i w s

  marked_made : (past : Past) (w v : World) (marks : Marks w v) (s : IsSound n past w) → (marked past w v marks s).made ≡ s.made
  unfolding marked
  marked_made past w v none s = refl
  marked_made past w v (mark i) s = use_up_made n past i w s

  ends : (past : Past) (v : World) (sound : IsSound n past v) (k : ℕ) (r : Replica) (is : slice_get v.sites k ≡ Some (Site.Up r)) (x : Draft) (slots : Slots) →
      InStep n past v sound k r is x slots → (m : Moment) → Ends v k x m → IsSound n past m.after
  unfolding lost_step
  ends past v sound k r is x slots a m IsWhole = whole_sound n past v sound k r is x slots a
  ends past v sound k r is x slots a m (IsCut count) = cut_sound n past v sound k r is x slots a count
  ends past v sound k r is x slots a m IsLost = down_sound n past v sound k

  -- a request
  module _ (past : Past) (v : World) (sound : IsSound n past v) (k : ℕ) (r : Replica) (is : slice_get v.sites k ≡ Some (Site.Up r)) (c : Command) (from : ℕ)
      (m : Moment) (e : Ends v k (step r (MpInput.Request c) from) m) where
    with_command : Past
    with_command = record { submitted = past.submitted ++ c ∷ []; known = past.known }

    lines_are : (step r (MpInput.Request c) from).lines ≡ (on_request c (begun r)).lines
    unfolding step on_input
    lines_are = replied_lines (on_request c (begun r))

    submits : Tells (on_request c (begun r)).lines c → (more : Past) × IsSound n more m.after × IsNext past more (Some c) m.lines
    unfolding with_command
    submits told = elim (kept_line v k (step r (MpInput.Request c) from) m e) [
      | inl lost ↦ (past, subst (λ z. IsSound n past z) (sym lost) (down_sound n past v sound k), same_past past (Some c) m.lines)
      | inr kept ↦
          let later : IsSound n with_command v = sound_more n past with_command v (record {
            submitted = λ d there. Contains-append_left past.submitted (c ∷ []) d there;
            known = λ s u there. inl there;
          }) sound in
          let (slots, a) = steps n with_command v later k r is (MpInput.Request c) from (inl (Contains-push past.submitted c)) in (
            with_command,
            ends with_command v later k r is (step r (MpInput.Request c) from) slots a m e,
            record {
              submitted = λ d there. elim (Contains-push_cases past.submitted c d there) [
                | inl old ↦ inl old
                | inr same ↦ inr (
                  ap (λ z. Some z) same,
                  subst (λ z. Tells m.lines z) same (record {
                    replica = told.replica;
                    slot = told.slot;
                    round = told.round;
                    told = kept _ (subst (λ ls. Contains ls (MpLine.Submit told.replica told.slot told.round told.replica c.client c.number)) (sym lines_are) told.told);
                  }),
                )
              ];
              known = refl;
            },
          )
    ]

    pub asked : (more : Past) × IsSound n more m.after × IsNext past more (Some c) m.lines
    asked = elim (request_told n past _ _ k (begun r) sound.slots (begins_step n past v sound k r is) c) [
      | inl refused ↦
          let (slots, a) = steps n past v sound k r is (MpInput.Request c) from (inr refused) in
          (past, ends past v sound k r is (step r (MpInput.Request c) from) slots a m e, same_past past (Some c) m.lines)
      | inr told ↦ submits (record { replica = k; slot = told.0; round = told.1; told = told.2 })
    ]

  pub keeps : (past : Past) (w : World) (command : Option Command) (m : Moment) → IsSound n past w → Happens w command m → (more : Past) × IsSound n more m.after × IsNext past more command m.lines
  unfolding silent begun_at
  keeps past w command m sound (Nothing v marks) = (past, marked past w v marks sound, same_past past command [])
  keeps past w command m sound (Steps v marks k r is (MpInput.Request c) from can mm e) =
      subst (λ o. (more : Past) × IsSound n more mm.after × IsNext past more o mm.lines) (sym can)
      (asked past v (marked past w v marks sound) k r is c from mm e)
  keeps past w command m sound (Steps v marks k r is (MpInput.Message o) from can mm e) =
      let (p, there, by, says) = can in
      let made : Contains sound.made (from, o) = subst (λ j. Contains sound.made (j, o)) by (subst (λ z. Contains sound.made (p.from, z)) says (sound.sent p there)) in
      let (slots, a) = steps n past v (marked past w v marks sound) k r is (MpInput.Message o) from
      (subst (λ all. Contains all (from, o)) (sym (marked_made past w v marks sound)) made) in
      (past, ends past v (marked past w v marks sound) k r is (step r (MpInput.Message o) from) slots a mm e, same_past past command mm.lines)
  keeps past w command m sound (Steps v marks k r is MpInput.Tick from can mm e) =
      let (slots, a) = steps n past v (marked past w v marks sound) k r is MpInput.Tick from tt in
      (past, ends past v (marked past w v marks sound) k r is (step r MpInput.Tick from) slots a mm e, same_past past command mm.lines)
  keeps past w command m sound (Steps v marks k r is MpInput.Lead from can mm e) =
      let (slots, a) = steps n past v (marked past w v marks sound) k r is MpInput.Lead from tt in
      (past, ends past v (marked past w v marks sound) k r is (step r MpInput.Lead from) slots a mm e, same_past past command mm.lines)
  keeps past w command m sound (Stops k) = (past, down_sound n past w sound k, same_past past command (down w k).lines)
  keeps past w command m sound (Starts k within) = (past, start_sound n past w sound k within, same_past past command _)
