-- The replicas that execute by a step: none by its sends and replies.
use Rattle.std.proofs.Common.{◌≡◌, ℕ, ◌+◌, List, [], ◌∷◌, ◌++◌, length, refl, ◌∙◌, ap, Bool, true, false, cond, map}
use Rattle.std.specs.Prelude.{filter, ◌==◌}
use Rattle.std.proofs.lemmas.List.{append-nil}
use Rattle.crsm_spec.specs.Types.{Entry, Rec, Datagram, Line}
use Rattle.crsm_spec.specs.Lines.{exec_line}
use Rattle.crsm_spec.specs.Log.{active, unexecuted}
use Rattle.crsm_spec.specs.Ready.{is_ready}
use Rattle.crsm_spec.specs.Draft.{Draft, keep}
use Rattle.crsm_spec.specs.Clients.{commit_run, commits, replies}
use Rattle.crsm_spec.specs.World.{World, send_line, send_lines, whole_step, after_step}
use Rattle.crsm_law_active.proofs.Ending.{by_when}
use Rattle.crsm_spec_plan.specs.Timelines.{is_exec}
use Rattle.crsm_law_timing.proofs.Closing.{all_answered}

filter_both : {A : Type 0} (p : A → Bool) (xs ys : List A) → filter p (xs ++ ys) ≡ filter p xs ++ filter p ys
filter_both p [] ys = refl
filter_both p (x ∷ xs) ys = go (p x) (filter_both p xs ys)
  where
    go : (b : Bool) → filter p (xs ++ ys) ≡ filter p xs ++ filter p ys → cond b (x ∷ filter p (xs ++ ys)) (filter p (xs ++ ys)) ≡ cond b (x ∷ filter p xs) (filter p xs) ++ filter p ys
    go true h = ap (λ l. x ∷ l) h
    go false h = h

sends_quiet : (i k : ℕ) (n : ℕ) (sends : List (ℕ × Datagram)) → filter (is_exec i) (send_lines k n sends) ≡ []
unfolding send_lines send_line is_exec
sends_quiet i k n [] = refl
sends_quiet i k n (s ∷ sends) = sends_quiet i k (n + 1) sends

-- what commits leave
abbrev IsUntold : Draft → Draft → Type 0
IsUntold y z = (z.excess ≡ y.excess) × (z.replies ≡ y.replies)

keeps : (y z : Draft) (e : Entry) → IsUntold y z → IsUntold y (keep (Rec.Commit e.stamp) z)
unfolding keep
keeps y z e h = h

run_untold : (es : List Entry) (y z : Draft) → IsUntold y z → IsUntold y (commit_run es z)
unfolding commit_run
run_untold [] y z h = h
run_untold (e ∷ es) y z h = by_when (IsUntold y) (is_ready z.replica e.stamp) _ _ (run_untold es y (keep (Rec.Commit e.stamp) z) (keeps y z e h)) h

commits_untold : (y : Draft) → IsUntold y (commits y)
unfolding commits
commits_untold y = by_when (IsUntold y) (active y.replica.log) _ _ (run_untold (unexecuted y.replica.log) y y (refl, refl)) (refl, refl)

lines_of_step : (v : World) (k : ℕ) (x : Draft) → (n : ℕ) × ((whole_step v k x).lines ≡ ((x.lines ++ x.excess) ++ send_lines k n x.sends) ++ map (λ a. a.line) x.replies)
unfolding whole_step after_step
lines_of_step v k x = (length v.packets, refl)

pub quiet_end : (i : ℕ) (v : World) (k : ℕ) (x y : Draft) → x ≡ replies (commits y) → y.excess ≡ [] → y.replies ≡ [] → filter (is_exec i) (whole_step v k x).lines ≡ filter (is_exec i) x.lines
quiet_end i v k x y is none no_replies =
    let p = is_exec i in
    let n = (lines_of_step v k x).0 in
    let excess : x.excess ≡ [] = ap (λ (d : Draft). d.excess) is ∙ (all_answered (commits y)).excess ∙ (commits_untold y).0 ∙ none in
    let told : filter p (map (λ a. a.line) x.replies) ≡ [] =
    ap (λ (d : Draft). filter p (map (λ a. a.line) d.replies)) is ∙ (all_answered (commits y)).quiet i ∙ ap (λ rs. filter p (map (λ a. a.line) rs)) ((commits_untold y).1 ∙ no_replies) in
    ap (filter p) (lines_of_step v k x).1
    ∙ filter_both p ((x.lines ++ x.excess) ++ send_lines k n x.sends) (map (λ a. a.line) x.replies)
    ∙ ap (λ l. filter p ((x.lines ++ x.excess) ++ send_lines k n x.sends) ++ l) told
    ∙ append-nil (filter p ((x.lines ++ x.excess) ++ send_lines k n x.sends))
    ∙ filter_both p (x.lines ++ x.excess) (send_lines k n x.sends)
    ∙ ap (λ l. filter p (x.lines ++ x.excess) ++ l) (sends_quiet i k n x.sends)
    ∙ append-nil (filter p (x.lines ++ x.excess))
    ∙ ap (λ l. filter p (x.lines ++ l)) excess
    ∙ ap (filter p) (append-nil x.lines)

-- an exec line of k says so of k alone
pub exec_line_of : (i k : ℕ) (e : Entry) (ls : List Line) → filter (is_exec i) ls ≡ [] → filter (is_exec i) (ls ++ exec_line k [] e ∷ []) ≡ cond (k == i) (exec_line k [] e ∷ []) []
unfolding is_exec exec_line
exec_line_of i k e ls none = filter_both (is_exec i) ls (exec_line k [] e ∷ []) ∙ ap (λ l. l ++ filter (is_exec i) (exec_line k [] e ∷ [])) none
