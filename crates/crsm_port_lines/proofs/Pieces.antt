-- What each call of the loop does, in the words of its contract.
use Rattle.std.proofs.Common.{◌≡◌, ℕ, ◌+◌, ◌<◌, ◌≤◌, List, [], ◌∷◌, ◌++◌, Option, Result, Ok, Err, OnOk, IfErr, length, refl, ap, sym, subst, arith, append_assoc, length-append}
use Rattle.std.proofs.lemmas.List.{append-nil}
use Rattle.crsm_text.specs.Words.{Lacks}
use Rattle.crsm_text.proofs.WordsLemmas.{Lacks-append}
use Rattle.crsm_io.specs.Streams.{Takes, Puts, PutsPrefix, AtEnd}
use Rattle.crsm_port_lines.specs.Handling.{Begins, EndsWell, Handles, Handling, StopsAt, Text}
use Rattle.crsm_port_lines.specs.State.{IsLine, State}
use Rattle.crsm_port_lines.specs.Run.{CarriesOn, Ends, Finishes, Halts, Ran, SoFar, ending_of}
use Rattle.crsm_port_lines.specs.declared.handler.Stop.{Stop}
use Rattle.crsm_port_lines.specs.declared.lines.LineRefusal.{LineRefusal}
use Rattle.crsm_port_lines.specs.declared.lines.Halt.{Halt}
use Rattle.crsm_port_lines.specs.declared.run.InputEnd.{InputEnd}
use Rattle.crsm_port_lines.proofs.Stream.{carries_then, flushed, halts_then, line_bad, more, more_part, partly, taken_more, too_long}
use Rattle.crsm_port_lines.proofs.Ends.{cut_bad, end_bad, finish_partly, finish_well, nothing_ran, ran_so_far, ran_too_long}
use Rattle.crsm_port_lines.proofs.Texts.{all_prefix, none_prefix, prefix_prefix, prefix_then}

module _ {H R : Type 0} (h : Handling H R) where
  -- ---- a line

  -- how the handler answers a line, whatever was handled before
  abbrev pub Advances : State H → State H → Text → Type 0
  Advances old new line = (lines : List Text) (shown : Text) → old.number ≡ length lines → h.after old.handler lines shown → Handles h new.handler lines shown line old.pending new.pending

  abbrev pub Stops : State H → State H → Text → Stop R → Type 0
  Stops old new line stop = (lines : List Text) (shown : Text) → old.number ≡ length lines → h.after old.handler lines shown → StopsAt h lines shown line old.pending new.pending stop

  fits_line : (old : State H) (tail : Text) → IsLine old.part → Lacks 10 tail → length old.part + length tail ≤ 16777216 → IsLine (old.part ++ tail)
  fits_line old tail part lacks short =
      let len = length-append old.part tail in
      record { lacks = Lacks-append 10 old.part tail part.lacks lacks; short = omega (arith, len, short) }

  pub line_carries : (w : Option Text) (old new : State H) (tail : Text) → Advances old new (old.part ++ tail) → Lacks 10 tail → length old.part + length tail ≤ 16777216
      → new.number ≡ old.number + 1 → new.part ≡ [] → CarriesOn h w w old new (tail ++ 10 ∷ []) []
  unfolding CarriesOn
  line_carries w old new tail advances lacks short number none = λ before after had ahead total s.
      let t = subst (λ ys. SoFar h before after had w old ys total) (append_assoc tail (10 ∷ []) ahead) s in
      more h before after had w old new tail ahead total t (fits_line old tail t.part lacks short) (advances t.lines t.shown t.number t.reached) number none

  pub line_refused : (w : Option Text) (old new : State H) (tail : Text) (why : R) → Lacks 10 tail → Stops old new (old.part ++ tail) (Stop.Refused why)
      → Halts h (InputEnd.BadLine (old.number + 1) (LineRefusal.Refused why)) w w old new (tail ++ 10 ∷ [])
  unfolding Halts Ran
  line_refused w old new tail why lacks stops = λ before after had ahead total short s.
      let t = subst (λ ys. SoFar h before after had w old ys total) (append_assoc tail (10 ∷ []) ahead) s in
      let p = stops t.lines t.shown t.number t.reached in
      record {
        ran = λ now put. line_bad h before after had w now old tail ahead total why short t lacks p.0 (subst (λ x. Puts w now x) p.1 put);
        partly = λ now put. partly h before after had w now old ((tail ++ 10 ∷ []) ++ ahead) total s (subst (λ x. PutsPrefix w now x) p.1 put);
      }

  -- memory ran out, and a prefix of what was pending still is
  pub no_memory_halts : (w : Option Text) (old new : State H) (bytes lost : Text) → old.pending ≡ new.pending ++ lost → Halts h InputEnd.NoMemory w w old new bytes
  unfolding Halts Ran
  no_memory_halts w old new bytes lost cut = λ before after had ahead total short s. record {
    ran = λ now put. partly h before after had w now old (bytes ++ ahead) total s (all_prefix w now old.pending new.pending lost cut put);
    partly = λ now put. partly h before after had w now old (bytes ++ ahead) total s (prefix_prefix w now old.pending new.pending lost cut put);
  }

  pub line_out_of_memory : (w : Option Text) (old new : State H) (tail : Text) → Stops old new (old.part ++ tail) Stop.NoMemory → Halts h InputEnd.NoMemory w w old new (tail ++ 10 ∷ [])
  unfolding Halts Ran
  line_out_of_memory w old new tail stops = λ before after had ahead total short s.
      let p = stops s.lines s.shown s.number s.reached in
      record {
        ran = λ now put. partly h before after had w now old ((tail ++ 10 ∷ []) ++ ahead) total s (all_prefix w now old.pending new.pending p.0 p.1 put);
        partly = λ now put. partly h before after had w now old ((tail ++ 10 ∷ []) ++ ahead) total s (prefix_prefix w now old.pending new.pending p.0 p.1 put);
      }

  -- ---- a prefix of a line

  pub prefix_carries : (w : Option Text) (old new : State H) (prefix : Text) → Lacks 10 prefix → length old.part + length prefix ≤ 16777216
      → new.handler ≡ old.handler → new.number ≡ old.number → new.part ≡ old.part ++ prefix → new.pending ≡ old.pending → CarriesOn h w w old new prefix []
  unfolding CarriesOn
  prefix_carries w old new prefix lacks short handler number part pending = λ before after had ahead total s.
      more_part h before after had w old new prefix ahead total s lacks short handler number part pending

  pub prefix_halts : (w : Option Text) (old new : State H) (prefix : Text) → Lacks 10 prefix → 16777216 < length old.part + length prefix
      → new.pending ≡ old.pending → Halts h (InputEnd.BadLine (old.number + 1) LineRefusal.TooLong) w w old new prefix
  unfolding Halts Ran
  prefix_halts w old new prefix lacks long same = λ before after had ahead total short s. record {
    ran = λ now put. too_long h before after had w now old prefix ahead total short s lacks long (subst (λ x. Puts w now x) same put);
    partly = λ now put. partly h before after had w now old (prefix ++ ahead) total s (subst (λ x. PutsPrefix w now x) same put);
  }

  -- the same, where the line has its end
  pub whole_halts : (w : Option Text) (old new : State H) (tail : Text) → Lacks 10 tail → 16777216 < length old.part + length tail
      → new.pending ≡ old.pending → Halts h (InputEnd.BadLine (old.number + 1) LineRefusal.TooLong) w w old new (tail ++ 10 ∷ [])
  unfolding Halts
  whole_halts w old new tail lacks long same = λ before after had ahead total short s.
      let halts : Halts h (InputEnd.BadLine (old.number + 1) LineRefusal.TooLong) w w old new tail = prefix_halts w old new tail lacks long same in
      halts before after had ((10 ∷ []) ++ ahead) total short (subst (λ ys. SoFar h before after had w old ys total) (append_assoc tail (10 ∷ []) ahead) s)

  -- ---- what is pending is written

  pub flush_carries : (w v : Option Text) (old new : State H) → Puts w v old.pending
      → new ≡ record { handler = old.handler; number = old.number; part = old.part; pending = [] } → CarriesOn h w v old new [] []
  unfolding CarriesOn
  flush_carries w v old new put is = λ before after had ahead total s. flushed h before after had w v old new ahead total s put is

  flush_halts : (w v : Option Text) (old new : State H) → PutsPrefix w v old.pending → new.pending ≡ [] → Halts h InputEnd.WriteFault w v old new []
  unfolding Halts Ran
  flush_halts w v old new put none = λ before after had ahead total short s. record {
    ran = λ now more.
        partly h before after had w now old ahead total s
        (prefix_then w v now old.pending put (all_prefix v now [] [] [] refl (subst (λ x. Puts v now x) none more)));
    partly = λ now more. partly h before after had w now old ahead total s (prefix_then w v now old.pending put (subst (λ x. PutsPrefix v now x) none more));
  }

  -- the same of an answer
  pub flush_on : {X : Type 0} (result : Result X (Halt R)) (w v : Option Text) (old new : State H) → OnOk result (Puts w v old.pending)
      → new ≡ record { handler = old.handler; number = old.number; part = old.part; pending = [] } → OnOk result (CarriesOn h w v old new [] [])
  flush_on (Ok x) w v old new put is = flush_carries w v old new put is
  flush_on (Err e) w v old new put is = tt

  pub flush_off : {X : Type 0} (result : Result X (Halt R)) (w v : Option Text) (old new : State H) → IfErr result (λ halt. halt ≡ Halt.WriteFault) → PutsPrefix w v old.pending
      → new ≡ record { handler = old.handler; number = old.number; part = old.part; pending = [] } → IfErr result (λ halt. Halts h (ending_of halt) w v old new [])
  flush_off (Ok x) w v old new fault put is = tt
  flush_off (Err e) w v old new fault put is =
      subst (λ halt. Halts h (ending_of halt) w v old new []) (sym fault) (flush_halts w v old new put (ap (λ (st : State H). st.pending) is))

  -- ---- a piece

  pub nothing_carries : (w : Option Text) (st : State H) (bytes : Text) → CarriesOn h w w st st bytes bytes
  unfolding CarriesOn
  nothing_carries w st bytes = λ before after had ahead total s. s

  -- a run that halted, once what was pending is written
  halted_ends : (result : InputEnd R) (w v u : Option Text) (old mid : State H) (bytes : Text) → Halts h result w v old mid bytes → Puts v u mid.pending → Ends h result w u old bytes
  unfolding Halts Ends
  halted_ends result w v u old mid bytes halts put = λ before after had ahead total short s. (halts before after had ahead total short s).ran u put

  halted_faults : (result : InputEnd R) (w v u : Option Text) (old mid : State H) (bytes : Text) → Halts h result w v old mid bytes → PutsPrefix v u mid.pending → Ends h InputEnd.WriteFault w u old bytes
  unfolding Halts Ends Ran
  halted_faults result w v u old mid bytes halts put = λ before after had ahead total short s. (halts before after had ahead total short s).partly u put

  carried_faults : (w v u : Option Text) (old mid : State H) (bytes : Text) → CarriesOn h w v old mid bytes [] → PutsPrefix v u mid.pending → Ends h InputEnd.WriteFault w u old bytes
  unfolding CarriesOn Ends Ran
  carried_faults w v u old mid bytes on put = λ before after had ahead total short s. partly h before after had v u mid ahead total (on before after had ahead total s) put

  -- the last bytes of a piece
  pub carries_if : {X : Type 0} (result : Result X (Halt R)) (w v : Option Text) (x y z : State H) (bytes rest : Text) → CarriesOn h w v x y bytes rest
      → OnOk result (CarriesOn h v v y z rest []) → OnOk result (CarriesOn h w v x z bytes [])
  carries_if (Ok r) w v x y z bytes rest one other = carries_then h w v v x y z bytes rest [] one other
  carries_if (Err e) w v x y z bytes rest one other = tt

  pub halts_if : {X : Type 0} (result : Result X (Halt R)) (w v : Option Text) (x y z : State H) (bytes rest : Text) → CarriesOn h w v x y bytes rest
      → IfErr result (λ halt. Halts h (ending_of halt) v v y z rest) → IfErr result (λ halt. Halts h (ending_of halt) w v x z bytes)
  halts_if (Ok r) w v x y z bytes rest one other = tt
  halts_if (Err e) w v x y z bytes rest one other = halts_then h (ending_of e) w v v x y z bytes rest one other

  -- what a piece is to the run, by what its lines are
  pub piece_carries : {X : Type 0} (taken : Result X (Halt R)) (w v u : Option Text) (old mid new : State H) (bytes : Text) → OnOk taken (CarriesOn h w v old mid bytes [])
      → Puts v u mid.pending → new ≡ record { handler = mid.handler; number = mid.number; part = mid.part; pending = [] } → OnOk taken (CarriesOn h w u old new bytes [])
  piece_carries (Ok x) w v u old mid new bytes on put is = carries_then h w v u old mid new bytes [] [] on (flush_carries v u mid new put is)
  piece_carries (Err e) w v u old mid new bytes on put is = tt

  pub piece_ends : {X : Type 0} (taken : Result X (Halt R)) (w v u : Option Text) (old mid : State H) (bytes : Text) → IfErr taken (λ halt. Halts h (ending_of halt) w v old mid bytes)
      → Puts v u mid.pending → IfErr taken (λ halt. Ends h (ending_of halt) w u old bytes)
  piece_ends (Ok x) w v u old mid bytes halts put = tt
  piece_ends (Err e) w v u old mid bytes halts put = halted_ends (ending_of e) w v u old mid bytes halts put

  pub piece_faults : {X : Type 0} (taken : Result X (Halt R)) (w v u : Option Text) (old mid : State H) (bytes : Text) → OnOk taken (CarriesOn h w v old mid bytes [])
      → IfErr taken (λ halt. Halts h (ending_of halt) w v old mid bytes) → PutsPrefix v u mid.pending → Ends h InputEnd.WriteFault w u old bytes
  piece_faults (Ok x) w v u old mid bytes on halts put = carried_faults w v u old mid bytes on put
  piece_faults (Err e) w v u old mid bytes on halts put = halted_faults (ending_of e) w v u old mid bytes halts put

  -- bytes that were taken are handled
  pub carries_at : (b a c d w v : Option Text) (old new : State H) (total : ℕ) (xs : Text)
      → SoFar h b a d w old [] total → Takes a c xs → CarriesOn h w v old new xs [] → SoFar h b c d v new [] (total + length xs)
  unfolding CarriesOn
  carries_at b a c d w v old new total xs s takes on =
      on b c d [] (total + length xs) (subst (λ ys. SoFar h b c d w old ys (total + length xs)) (sym (append-nil xs)) (taken_more h b a c d w old total xs s takes))

  pub ends_at : (result : InputEnd R) (b a c d w v : Option Text) (old : State H) (total : ℕ) (xs : Text)
      → SoFar h b a d w old [] total → Takes a c xs → total + length xs ≤ 1073741824 → Ends h result w v old xs → Ran h result b c d v
  unfolding Ends
  ends_at result b a c d w v old total xs s takes short ends =
      ends b c d [] (total + length xs) short (subst (λ ys. SoFar h b c d w old ys (total + length xs)) (sym (append-nil xs)) (taken_more h b a c d w old total xs s takes))

  -- ---- the end of the input

  pub cut_finishes : (w : Option Text) (st : State H) → st.pending ≡ [] → (st.part ≡ [] → ⊥) → Finishes h (InputEnd.BadLine (st.number + 1) LineRefusal.Cut) w w st
  unfolding Finishes Ran
  cut_finishes w st done some = λ before after had total within ended s. cut_bad h before after had w st total within ended s done some

  pub refused_finishes : (w : Option Text) (st : State H) (why : R) → st.pending ≡ [] → st.part ≡ []
      → ((lines : List Text) (shown : Text) → h.after st.handler lines shown → h.refuses_end lines shown why) → Finishes h (InputEnd.BadLine (st.number + 1) (LineRefusal.Refused why)) w w st
  unfolding Finishes Ran
  refused_finishes w st why done none refused = λ before after had total within ended s.
      end_bad h before after had w st total why within ended s done none (refused s.lines s.shown s.reached)

  pub no_memory_finishes : (w : Option Text) (st : State H) → Finishes h InputEnd.NoMemory w w st
  unfolding Finishes Ran
  no_memory_finishes w st = λ before after had total within ended s. partly h before after had w w st [] total s (none_prefix w st.pending)

  -- how the handler ends the input, whatever was handled before
  abbrev pub EndsInput : State H → Text → Type 0
  EndsInput st text = (lines : List Text) (shown : Text) → h.after st.handler lines shown → EndsWell h lines shown [] text

  pub partly_finishes : (w v : Option Text) (st : State H) (text : Text) → st.pending ≡ [] → st.part ≡ [] → EndsInput st text → PutsPrefix w v text → Finishes h InputEnd.WriteFault w v st
  unfolding Finishes Ran
  partly_finishes w v st text done none ends put = λ before after had total within ended s.
      let e = ends s.lines s.shown s.reached in
      finish_partly h before after had w v st total e.last ended s done none e.may (subst (λ x. PutsPrefix w v x) e.added put)

  pub well_finishes : (w v : Option Text) (st : State H) (text : Text) → st.pending ≡ [] → st.part ≡ [] → EndsInput st text → Puts w v text → Finishes h InputEnd.Done w v st
  unfolding Finishes Ran
  well_finishes w v st text done none ends put = λ before after had total within ended s.
      let e = ends s.lines s.shown s.reached in
      finish_well h before after had w v st total e.last within ended s done none e.may (subst (λ x. Puts w v x) e.added put)

  pub finishes_at : (result : InputEnd R) (b a c d w v : Option Text) (st : State H) (total : ℕ)
      → SoFar h b a d w st [] total → Takes a c [] → total ≤ 1073741824 → AtEnd c → Finishes h result w v st → Ran h result b c d v
  unfolding Finishes
  finishes_at result b a c d w v st total s takes within ended finishes = finishes b c d (total + 0) (omega (arith, within)) ended (taken_more h b a c d w st total [] s takes)

  -- ---- faults and limits

  pub read_fault_at : (b a c d w : Option Text) (st : State H) (total : ℕ) → SoFar h b a d w st [] total → st.pending ≡ [] → Takes a c [] → Ran h InputEnd.ReadFault b c d w
  unfolding Ran
  read_fault_at b a c d w st total s done takes = ran_so_far h b c d w st (total + 0) (taken_more h b a c d w st total [] s takes) done

  pub too_long_at : (b a c d w : Option Text) (st : State H) (x : ℕ) → SoFar h b a d w st [] 1073741824 → st.pending ≡ [] → Takes a c (x ∷ []) → Ran h InputEnd.InputTooLong b c d w
  unfolding Ran
  too_long_at b a c d w st x s done takes = ran_too_long h b a c d w st x s done takes

  pub no_memory_at : (handler : H) (b d : Option Text) → Begins h handler → Ran h InputEnd.NoMemory b b d d
  unfolding Ran
  no_memory_at handler b d begins = nothing_ran h handler b d begins
