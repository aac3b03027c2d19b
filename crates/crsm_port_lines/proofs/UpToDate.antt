-- After each piece that it is fed, the loop has written the text of all whole lines.
use Rattle.std.proofs.Common.{◌≡◌, [], ◌++◌, Option, Some, Result, Ok, Err, OnOk, length, ap, sym, ◌∙◌, subst, arith, append_assoc}
use Rattle.std.proofs.lemmas.List.{append-nil}
use Rattle.crsm_io.specs.Streams.{Takes}
use Rattle.crsm_io.proofs.Steps.{puts_none}
use Rattle.crsm_text.specs.Words.{Lacks}
use Rattle.crsm_port_lines.specs.Handling.{Begins, Handling, Text}
use Rattle.crsm_port_lines.specs.State.{State, read_text}
use Rattle.crsm_port_lines.specs.Run.{CarriesOn, IsUpToDate}
use Rattle.crsm_port_lines.specs.declared.lines.Halt.{Halt}
use Rattle.crsm_port_lines.proofs.Stream.{nothing_pending}

some_same : {A : Type 0} (x y : A) → Some x ≡ Some y → x ≡ y
some_same x y e = cc

-- what is told of the bytes that were taken, where all are
all_taken_in : (x y z : Text) → Takes (Some (x ++ [])) (Some []) (y ++ (z ++ [])) → x ≡ y ++ z
all_taken_in x y z t =
    sym (append-nil x) ∙ some_same (x ++ []) ((y ++ (z ++ [])) ++ []) t ∙ append-nil (y ++ (z ++ [])) ∙ ap (λ (ys : Text). y ++ ys) (append-nil z)

module _ {H R : Type 0} (h : Handling H R) where
  -- nothing has come yet
  pub begins_up_to_date : (had : Option Text) (new : State H) → Begins h new.handler → new.number ≡ 0 → new.part ≡ [] → new.pending ≡ [] → IsUpToDate h had had new []
  begins_up_to_date had new begins number part pending =
      let long : length new.part ≡ 0 = ap length part in
      record {
        lines = [];
        shown = [];
        reached = begins;
        are_lines = tt;
        number = number;
        part = record { lacks = subst (λ ys. Lacks 10 ys) (sym part) tt; short = omega (arith, long) };
        taken_is = sym part;
        puts = puts_none had;
        none_pending = pending;
      }

  stays_up_to_date : (had w v : Option Text) (old new : State H) (bytes taken : Text) → CarriesOn h w v old new bytes [] → new.pending ≡ []
      → IsUpToDate h had w old taken → IsUpToDate h had v new (taken ++ bytes)
  unfolding CarriesOn
  stays_up_to_date had w v old new bytes taken on none u =
      let text : read_text u.lines ++ (old.part ++ (bytes ++ [])) ≡ taken ++ bytes =
      sym (append_assoc (read_text u.lines) old.part (bytes ++ [])) ∙ ap (λ (ys : Text). ys ++ (bytes ++ [])) (sym u.taken_is) ∙ ap (λ (ys : Text). taken ++ ys) (append-nil bytes) in
      let s = on (Some ((taken ++ bytes) ++ [])) (Some []) had [] (length (taken ++ bytes)) (record {
        lines = u.lines;
        shown = u.shown;
        reached = u.reached;
        are_lines = u.are_lines;
        number = u.number;
        part = u.part;
        takes = ap (λ (ys : Text). Some (ys ++ [])) (sym text);
        taken_len = ap length text;
        written = u.shown;
        puts = u.puts;
        shown_is = sym (append-nil u.shown) ∙ ap (λ (ys : Text). u.shown ++ ys) (sym u.none_pending);
      }) in record {
        lines = s.lines;
        shown = s.shown;
        reached = s.reached;
        are_lines = s.are_lines;
        number = s.number;
        part = s.part;
        taken_is = all_taken_in (taken ++ bytes) (read_text s.lines) new.part s.takes;
        puts = nothing_pending h (Some ((taken ++ bytes) ++ [])) (Some []) had v new [] (length (taken ++ bytes)) s none;
        none_pending = none;
      }

  pub feeds : {X : Type 0} (result : Result X (Halt R)) (w v : Option Text) (old new : State H) (bytes : Text) → OnOk result (CarriesOn h w v old new bytes []) → new.pending ≡ []
      → (had : Option Text) (taken : Text) → IsUpToDate h had w old taken → OnOk result (IsUpToDate h had v new (taken ++ bytes))
  feeds (Ok x) w v old new bytes on none had taken u = stays_up_to_date had w v old new bytes taken on none u
  feeds (Err e) w v old new bytes on none had taken u = tt
