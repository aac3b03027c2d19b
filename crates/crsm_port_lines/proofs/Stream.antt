-- The loop continues within the input, or ends at a bad line.
use Rattle.std.proofs.Common.{◌≡◌, ℕ, ◌+◌, ◌<◌, ◌≤◌, List, [], ◌∷◌, ◌++◌, Option, length, refl, ap, sym, ◌∙◌, subst, arith, append_assoc, length-append, take, drop}
use Rattle.std.proofs.lemmas.List.{append-nil, length-take-le, take-append-drop}
use Rattle.crsm_text.specs.Words.{Lacks}
use Rattle.crsm_text.proofs.WordsLemmas.{Lacks-append}
use Rattle.crsm_io.specs.Streams.{Takes, Puts, PutsPrefix}
use Rattle.crsm_io.proofs.Steps.{puts_after, takes_after}
use Rattle.crsm_port_lines.specs.Handling.{Handles, Handling, Text}
use Rattle.crsm_port_lines.specs.State.{IsLine, Reached, State, ended, read_text}
use Rattle.crsm_port_lines.specs.Run.{CarriesOn, Halts, RanPartly, RanToBad, SoFar, bad_line, long_line, of_lines}
use Rattle.crsm_port_lines.specs.declared.lines.LineRefusal.{LineRefusal}
use Rattle.crsm_port_lines.specs.declared.run.InputEnd.{InputEnd}
use Rattle.crsm_port_lines.proofs.Texts.{are_lines-push, count-push, lacks_prefix, read_text-push}

module _ {H R : Type 0} (h : Handling H R) where
  -- what was reached
  pub reached_of : (b a d w : Option Text) (st : State H) (ahead : Text) (total : ℕ) (s : SoFar h b a d w st ahead total) → Reached h s.lines s.shown
  reached_of b a d w st ahead total s = record { handler = st.handler; after = s.reached; are_lines = s.are_lines }

  -- ---- a whole line

  -- what is so far, once one more line was handled and its text is pending
  pub more : (b a d w : Option Text) (old new : State H) (tail ahead : Text) (total : ℕ) (s : SoFar h b a d w old (tail ++ 10 ∷ ahead) total) → IsLine (old.part ++ tail)
      → Handles h new.handler s.lines s.shown (old.part ++ tail) old.pending new.pending → new.number ≡ old.number + 1 → new.part ≡ []
      → SoFar h b a d w new ahead total
  more b a d w old new tail ahead total s is handled number_is none =
      let line : Text = old.part ++ tail in
      let lines : List Text = s.lines ++ line ∷ [] in
      let text : read_text s.lines ++ (old.part ++ (tail ++ 10 ∷ ahead)) ≡ read_text lines ++ (new.part ++ ahead) =
      ap (λ (ys : Text). read_text s.lines ++ ys) (sym (append_assoc old.part tail (10 ∷ ahead)) ∙ sym (append_assoc line (10 ∷ []) ahead))
      ∙ sym (append_assoc (read_text s.lines) (ended line) ahead) ∙ ap (λ (ys : Text). ys ++ ahead) (sym (read_text-push s.lines line))
      ∙ ap (λ (ys : Text). read_text lines ++ (ys ++ ahead)) (sym none) in
      let long : length new.part ≡ 0 = ap length none in
      record {
        lines = lines;
        shown = s.shown ++ handled.more;
        reached = handled.now;
        are_lines = are_lines-push s.lines line s.are_lines is;
        number = number_is ∙ ap (λ n. n + 1) s.number ∙ sym (count-push s.lines line);
        part = record { lacks = subst (λ ys. Lacks 10 ys) (sym none) tt; short = omega (arith, long) };
        takes = subst (λ x. Takes b a x) text s.takes;
        taken_len = ap length (sym text) ∙ s.taken_len;
        written = s.written;
        puts = s.puts;
        shown_is = ap (λ (ys : Text). ys ++ handled.more) s.shown_is ∙ append_assoc s.written old.pending handled.more ∙ ap (λ (ys : Text). s.written ++ ys) (sym handled.added);
      }

  -- ---- what is pending is written

  -- all of it
  pub flushed : (b a d w v : Option Text) (old new : State H) (ahead : Text) (total : ℕ)
      → SoFar h b a d w old ahead total → Puts w v old.pending → new ≡ record { handler = old.handler; number = old.number; part = old.part; pending = [] }
      → SoFar h b a d v new ahead total
  flushed b a d w v old new ahead total s put is =
      subst (λ st. SoFar h b a d v st ahead total) (sym is) (record {
        lines = s.lines;
        shown = s.shown;
        reached = s.reached;
        are_lines = s.are_lines;
        number = s.number;
        part = s.part;
        takes = s.takes;
        taken_len = s.taken_len;
        written = s.written ++ old.pending;
        puts = puts_after d w v s.written old.pending s.puts put;
        shown_is = s.shown_is ∙ sym (append-nil (s.written ++ old.pending));
      })

  -- what was written, once all of it is
  pub all_put : (b a d w v : Option Text) (st : State H) (ahead : Text) (total : ℕ) (s : SoFar h b a d w st ahead total) → Puts w v st.pending → Puts d v s.shown
  all_put b a d w v st ahead total s put = subst (λ x. Puts d v x) (sym s.shown_is) (puts_after d w v s.written st.pending s.puts put)

  -- what was written, where nothing is pending
  pub nothing_pending : (b a d w : Option Text) (st : State H) (ahead : Text) (total : ℕ) (s : SoFar h b a d w st ahead total) → st.pending ≡ [] → Puts d w s.shown
  nothing_pending b a d w st ahead total s none =
      subst (λ x. Puts d w x) (sym (s.shown_is ∙ ap (λ (ys : Text). s.written ++ ys) none ∙ append-nil s.written)) s.puts

  -- a prefix of it
  pub partly : (b a d w v : Option Text) (st : State H) (ahead : Text) (total : ℕ) → SoFar h b a d w st ahead total → PutsPrefix w v st.pending → RanPartly h b a d v
  partly b a d w v st ahead total s put = record {
    lines = s.lines;
    shown = s.shown;
    reached = reached_of b a d w st ahead total s;
    rest = st.part ++ ahead;
    takes = s.takes;
    wrote = of_lines (record {
      prefix = s.written ++ put.prefix;
      rest = put.rest;
      cut = s.shown_is ∙ ap (λ (ys : Text). s.written ++ ys) put.cut ∙ sym (append_assoc s.written put.prefix put.rest);
      put = puts_after d w v s.written put.prefix s.puts put.put;
    });
  }

  -- ---- a line that is refused

  pub line_bad : (b a d w v : Option Text) (old : State H) (tail ahead : Text) (total : ℕ) (why : R) → total ≤ 1073741824
      → (s : SoFar h b a d w old (tail ++ 10 ∷ ahead) total) → Lacks 10 tail → h.refuses s.lines s.shown why (old.part ++ tail)
      → Puts w v old.pending → RanToBad h b a d v (old.number + 1) (LineRefusal.Refused why)
  line_bad b a d w v old tail ahead total why within s lacks refused put = record {
    lines = s.lines;
    shown = s.shown;
    reached = reached_of b a d w old (tail ++ 10 ∷ ahead) total s;
    line_is = ap (λ n. n + 1) s.number;
    rest = old.part ++ (tail ++ 10 ∷ ahead);
    within = subst (λ n. n ≤ 1073741824) (sym s.taken_len) within;
    takes = s.takes;
    bad = bad_line why refl (record {
      line = old.part ++ tail;
      rest = ahead;
      text_is = sym (append_assoc old.part tail (10 ∷ ahead));
      lacks = Lacks-append 10 old.part tail s.part.lacks lacks;
      refused = refused;
    });
    puts = all_put b a d w v old (tail ++ 10 ∷ ahead) total s put;
  }

  -- ---- a prefix of a line

  pub more_part : (b a d w : Option Text) (old new : State H) (prefix ahead : Text) (total : ℕ)
      → SoFar h b a d w old (prefix ++ ahead) total → Lacks 10 prefix → length old.part + length prefix ≤ 16777216
      → new.handler ≡ old.handler → new.number ≡ old.number → new.part ≡ old.part ++ prefix → new.pending ≡ old.pending → SoFar h b a d w new ahead total
  more_part b a d w old new prefix ahead total s lacks short handler_is number_is part_is pending_is =
      let text : read_text s.lines ++ (old.part ++ (prefix ++ ahead)) ≡ read_text s.lines ++ (new.part ++ ahead) =
      ap (λ (ys : Text). read_text s.lines ++ ys) (sym (append_assoc old.part prefix ahead) ∙ ap (λ (ys : Text). ys ++ ahead) (sym part_is)) in
      let long : length new.part ≡ length old.part + length prefix = ap length part_is ∙ length-append old.part prefix in
      record {
        lines = s.lines;
        shown = s.shown;
        reached = subst (λ (x : H). h.after x s.lines s.shown) (sym handler_is) s.reached;
        are_lines = s.are_lines;
        number = number_is ∙ s.number;
        part = record { lacks = subst (λ ys. Lacks 10 ys) (sym part_is) (Lacks-append 10 old.part prefix s.part.lacks lacks); short = omega (arith, long, short) };
        takes = subst (λ x. Takes b a x) text s.takes;
        taken_len = ap length (sym text) ∙ s.taken_len;
        written = s.written;
        puts = s.puts;
        shown_is = s.shown_is ∙ ap (λ (ys : Text). s.written ++ ys) (sym pending_is);
      }

  -- a line that is too long
  pub too_long : (b a d w v : Option Text) (old : State H) (prefix ahead : Text) (total : ℕ) → total ≤ 1073741824
      → SoFar h b a d w old (prefix ++ ahead) total → Lacks 10 prefix → 16777216 < length old.part + length prefix
      → Puts w v old.pending → RanToBad h b a d v (old.number + 1) LineRefusal.TooLong
  too_long b a d w v old prefix ahead total within s lacks long put =
      let whole : Text = old.part ++ prefix in
      let len : length whole ≡ length old.part + length prefix = length-append old.part prefix in
      record {
        lines = s.lines;
        shown = s.shown;
        reached = reached_of b a d w old (prefix ++ ahead) total s;
        line_is = ap (λ n. n + 1) s.number;
        rest = old.part ++ (prefix ++ ahead);
        within = subst (λ n. n ≤ 1073741824) (sym s.taken_len) within;
        takes = s.takes;
        bad = long_line refl (record {
          line = take 16777217 whole;
          rest = drop 16777217 whole ++ ahead;
          text_is =
              sym (append_assoc old.part prefix ahead) ∙ ap (λ (ys : Text). ys ++ ahead) (sym (take-append-drop 16777217 whole))
              ∙ append_assoc (take 16777217 whole) (drop 16777217 whole) ahead;
          lacks = lacks_prefix whole 16777217 (Lacks-append 10 old.part prefix s.part.lacks lacks);
          long = length-take-le 16777217 whole (omega (arith, len, long));
        });
        puts = all_put b a d w v old (prefix ++ ahead) total s put;
      }

  -- ---- one after another

  pub carries_then : (w v u : Option Text) (x y z : State H) (bytes rest last : Text) → CarriesOn h w v x y bytes rest → CarriesOn h v u y z rest last → CarriesOn h w u x z bytes last
  unfolding CarriesOn
  carries_then w v u x y z bytes rest last one other = λ before after had ahead total s. other before after had ahead total (one before after had ahead total s)

  -- the same, where the bytes that are handled next are a prefix of the rest
  carries_line : (w v : Option Text) (x y : State H) (line behind : Text) → CarriesOn h w v x y (line ++ 10 ∷ []) [] → CarriesOn h w v x y (line ++ 10 ∷ behind) behind
  unfolding CarriesOn
  carries_line w v x y line behind on = λ before after had ahead total s.
      on before after had (behind ++ ahead) total
      (subst (λ ys. SoFar h before after had w x ys total) (append_assoc line (10 ∷ behind) ahead ∙ sym (append_assoc line (10 ∷ []) (behind ++ ahead))) s)

  pub halts_then : (result : InputEnd R) (w v u : Option Text) (x y z : State H) (bytes rest : Text) → CarriesOn h w v x y bytes rest → Halts h result v u y z rest → Halts h result w u x z bytes
  unfolding CarriesOn Halts
  halts_then result w v u x y z bytes rest one other = λ before after had ahead total within s. other before after had ahead total within (one before after had ahead total s)

  halts_line : (result : InputEnd R) (w v : Option Text) (x y : State H) (line behind : Text) → Halts h result w v x y (line ++ 10 ∷ []) → Halts h result w v x y (line ++ 10 ∷ behind)
  unfolding Halts
  halts_line result w v x y line behind halts = λ before after had ahead total within s.
      halts before after had (behind ++ ahead) total within
      (subst (λ ys. SoFar h before after had w x ys total) (append_assoc line (10 ∷ behind) ahead ∙ sym (append_assoc line (10 ∷ []) (behind ++ ahead))) s)

  -- the line at the prefix of the rest
  pub past_line : (w v : Option Text) (x y z : State H) (bytes rest line behind : Text) → rest ≡ line ++ 10 ∷ behind → CarriesOn h w v x y bytes rest
      → CarriesOn h v v y z (line ++ 10 ∷ []) [] → CarriesOn h w v x z bytes behind
  past_line w v x y z bytes rest line behind is one other =
      carries_then w v v x y z bytes rest behind one (subst (λ ys. CarriesOn h v v y z ys behind) (sym is) (carries_line v v y z line behind other))

  pub at_line : (result : InputEnd R) (w v : Option Text) (x y z : State H) (bytes rest line behind : Text) → rest ≡ line ++ 10 ∷ behind → CarriesOn h w v x y bytes rest
      → Halts h result v v y z (line ++ 10 ∷ []) → Halts h result w v x z bytes
  at_line result w v x y z bytes rest line behind is one other =
      halts_then result w v v x y z bytes rest one (subst (λ ys. Halts h result v v y z ys) (sym is) (halts_line result v v y z line behind other))

  -- what is pending behind it
  pub past_flush : (w v u : Option Text) (x y z : State H) (bytes rest : Text) → CarriesOn h w v x y bytes rest → CarriesOn h v u y z [] [] → CarriesOn h w u x z bytes rest
  unfolding CarriesOn
  past_flush w v u x y z bytes rest one other = λ before after had ahead total s. other before after had (rest ++ ahead) total (one before after had ahead total s)

  pub at_flush : (result : InputEnd R) (w v u : Option Text) (x y z : State H) (bytes rest : Text) → CarriesOn h w v x y bytes rest → Halts h result v u y z [] → Halts h result w u x z bytes
  unfolding CarriesOn Halts
  at_flush result w v u x y z bytes rest one other = λ before after had ahead total within s.
      other before after had (rest ++ ahead) total within (one before after had ahead total s)

  -- bytes that were taken are ahead
  pub taken_more : (b a c d w : Option Text) (st : State H) (total : ℕ) (xs : Text)
      → SoFar h b a d w st [] total → Takes a c xs → SoFar h b c d w st xs (total + length xs)
  taken_more b a c d w st total xs s t =
      let text : read_text s.lines ++ (st.part ++ []) ++ xs ≡ read_text s.lines ++ (st.part ++ xs) =
      append_assoc (read_text s.lines) (st.part ++ []) xs ∙ ap (λ (ys : Text). read_text s.lines ++ (ys ++ xs)) (append-nil st.part) in
      record {
        lines = s.lines;
        shown = s.shown;
        reached = s.reached;
        are_lines = s.are_lines;
        number = s.number;
        part = s.part;
        takes = subst (λ x. Takes b c x) text (takes_after b a c (read_text s.lines ++ (st.part ++ [])) xs s.takes t);
        taken_len = ap length (sym text) ∙ length-append (read_text s.lines ++ (st.part ++ [])) xs ∙ ap (λ n. n + length xs) s.taken_len;
        written = s.written;
        puts = s.puts;
        shown_is = s.shown_is;
      }
