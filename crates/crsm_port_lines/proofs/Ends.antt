-- The loop ends: at the end of its input, at a fault, at a limit.
use Rattle.std.proofs.Common.{◌≡◌, ℕ, ◌+◌, ◌≤◌, [], ◌∷◌, ◌++◌, Option, length, refl, ap, sym, ◌∙◌, subst, append_assoc}
use Rattle.std.proofs.lemmas.List.{append-nil}
use Rattle.crsm_io.specs.Streams.{Takes, Puts, PutsPrefix, AtEnd}
use Rattle.crsm_io.proofs.Steps.{puts_after, puts_none, takes_after, takes_none}
use Rattle.crsm_port_lines.specs.Handling.{Begins, Handling, Text}
use Rattle.crsm_port_lines.specs.State.{State, read_text}
use Rattle.crsm_port_lines.specs.Run.{BeginsBad, RanPartly, RanSoFar, RanToBad, RanToEnd, RanTooLong, SoFar, bad_end, cut_line, of_all, of_lines}
use Rattle.crsm_port_lines.specs.declared.lines.LineRefusal.{LineRefusal}
use Rattle.crsm_port_lines.proofs.Stream.{nothing_pending, reached_of}
use Rattle.crsm_port_lines.proofs.Texts.{put_then}

module _ {H R : Type 0} (h : Handling H R) where
  -- what is left bad at the end
  ends_bad : (b a d w : Option Text) (st : State H) (total : ℕ) (why : LineRefusal R) → total ≤ 1073741824 → (s : SoFar h b a d w st [] total) → st.pending ≡ []
      → BeginsBad h s.lines s.shown a why st.part → RanToBad h b a d w (st.number + 1) why
  ends_bad b a d w st total why within s done bad = record {
    lines = s.lines;
    shown = s.shown;
    reached = reached_of h b a d w st [] total s;
    line_is = ap (λ n. n + 1) s.number;
    rest = st.part;
    within = subst (λ n. n ≤ 1073741824) (sym s.taken_len ∙ ap (λ (ys : Text). length (read_text s.lines ++ ys)) (append-nil st.part)) within;
    takes = rw append-nil at s.takes;
    bad = bad;
    puts = nothing_pending h b a d w st [] total s done;
  }

  -- the end comes in the middle of a line
  pub cut_bad : (b a d w : Option Text) (st : State H) (total : ℕ) → total ≤ 1073741824 → AtEnd a → SoFar h b a d w st [] total → st.pending ≡ []
      → (st.part ≡ [] → ⊥) → RanToBad h b a d w (st.number + 1) LineRefusal.Cut
  cut_bad b a d w st total within ended s done some = ends_bad b a d w st total LineRefusal.Cut within s done (cut_line refl (record { lacks = s.part.lacks; some = some; ended = ended }))

  -- it comes where it may not
  pub end_bad : (b a d w : Option Text) (st : State H) (total : ℕ) (why : R) → total ≤ 1073741824 → AtEnd a → (s : SoFar h b a d w st [] total) → st.pending ≡ []
      → st.part ≡ [] → h.refuses_end s.lines s.shown why → RanToBad h b a d w (st.number + 1) (LineRefusal.Refused why)
  end_bad b a d w st total why within ended s done none refused =
      ends_bad b a d w st total (LineRefusal.Refused why) within s done (bad_end why refl (record { none = none; ended = ended; refused = refused }))

  -- a prefix of the text of the end was written
  pub finish_partly : (b a d w v : Option Text) (st : State H) (total : ℕ) (last : Text) → AtEnd a → (s : SoFar h b a d w st [] total) → st.pending ≡ [] → st.part ≡ []
      → h.ends s.lines s.shown last → PutsPrefix w v last → RanPartly h b a d v
  finish_partly b a d w v st total last ended s done none ends put = record {
    lines = s.lines;
    shown = s.shown;
    reached = reached_of h b a d w st [] total s;
    rest = st.part ++ [];
    takes = s.takes;
    wrote = of_all last ends (append-nil st.part ∙ none) ended (put_then d w v s.shown last (nothing_pending h b a d w st [] total s done) put);
  }

  -- all of it was
  pub finish_well : (b a d w v : Option Text) (st : State H) (total : ℕ) (last : Text) → total ≤ 1073741824 → AtEnd a → (s : SoFar h b a d w st [] total) → st.pending ≡ [] → st.part ≡ []
      → h.ends s.lines s.shown last → Puts w v last → RanToEnd h b a d v
  finish_well b a d w v st total last within ended s done none ends put =
      let text : read_text s.lines ++ (st.part ++ []) ≡ read_text s.lines = ap (λ (y : Text). read_text s.lines ++ (y ++ [])) none ∙ append-nil (read_text s.lines) in
      record {
        lines = s.lines;
        shown = s.shown;
        last = last;
        reached = reached_of h b a d w st [] total s;
        ends = ends;
        takes = subst (λ x. Takes b a x) text s.takes;
        ended = ended;
        short = subst (λ n. n ≤ 1073741824) (sym s.taken_len ∙ ap length text) within;
        puts = puts_after d w v s.shown last (nothing_pending h b a d w st [] total s done) put;
      }

  -- all whole lines are handled
  pub ran_so_far : (b a d w : Option Text) (st : State H) (total : ℕ) → SoFar h b a d w st [] total → st.pending ≡ [] → RanSoFar h b a d w
  ran_so_far b a d w st total s done = record {
    lines = s.lines;
    shown = s.shown;
    reached = reached_of h b a d w st [] total s;
    rest = st.part;
    part = s.part;
    takes = rw append-nil at s.takes;
    puts = nothing_pending h b a d w st [] total s done;
  }

  -- one byte beyond the limit
  pub ran_too_long : (b a c d w : Option Text) (st : State H) (x : ℕ) → SoFar h b a d w st [] 1073741824 → st.pending ≡ [] → Takes a c (x ∷ []) → RanTooLong h b c d w
  ran_too_long b a c d w st x s done t =
      let text : read_text s.lines ++ (st.part ++ []) ++ (x ∷ []) ≡ read_text s.lines ++ (st.part ++ x ∷ []) =
      append_assoc (read_text s.lines) (st.part ++ []) (x ∷ []) ∙ ap (λ (ys : Text). read_text s.lines ++ (ys ++ x ∷ [])) (append-nil st.part) in
      record {
        lines = s.lines;
        shown = s.shown;
        reached = reached_of h b a d w st [] 1073741824 s;
        rest = st.part;
        part = s.part;
        long = rw append-nil at s.taken_len;
        more = x;
        takes = subst (λ y. Takes b c y) text (takes_after b a c (read_text s.lines ++ (st.part ++ [])) (x ∷ []) s.takes t);
        puts = nothing_pending h b a d w st [] 1073741824 s done;
      }

  -- nothing was read or written
  pub nothing_ran : (handler : H) (b d : Option Text) → Begins h handler → RanPartly h b b d d
  nothing_ran handler b d begins = record {
    lines = [];
    shown = [];
    reached = record { handler = handler; after = begins; are_lines = tt };
    rest = [];
    takes = takes_none b;
    wrote = of_lines (record { prefix = []; rest = []; cut = refl; put = puts_none d });
  }
