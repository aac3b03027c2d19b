-- A calm step serves each client that waited.
use Rattle.std.proofs.Common.{◌≡◌, ℕ, List, [], ◌∷◌, ◌++◌, refl, sym, ◌∙◌, ap, subst, inl, inr, Bool, true, false, map, take}
use Rattle.std.specs.Prelude.{Option, Some, None}
use Rattle.std.proofs.lemmas.List.{map-append}
use Rattle.crsm_base.specs.Store.{answer_after}
use Rattle.crsm_spec.specs.Choice.{when◌then◌otherwise◌}
use Rattle.crsm_spec.specs.Types.{Entry, Line}
use Rattle.crsm_spec.specs.Lists.{Among}
use Rattle.crsm_spec.specs.Log.{executed}
use Rattle.crsm_spec.specs.Replica.{Waiting}
use Rattle.crsm_spec.specs.Draft.{Draft, Reply, begun, reply}
use Rattle.crsm_spec.specs.Clients.{commits, replies, answer_each, answer_found, reply_ok, reply_dropped, find_executed, is_dropped}
use Rattle.crsm_spec.specs.Frames.{owed_oks}
use Rattle.crsm_spec.specs.Step.{if_fitting, on_input, idle_at, step}
use Rattle.crsm_fact_log.proofs.Lists.{among_left, among_right}
use Rattle.crsm_law_active.specs.Answering.{answer_line, IsServed, StepsAnswer}
use Rattle.crsm_law_active.specs.Answering.IsServed.{Waits, Answered, Dropped}
use Rattle.crsm_law_active.proofs.Ending.{all_commits, pays_in}
use Rattle.crsm_law_active.proofs.Staying.{fitting_hears}

-- the lines of the replies
abbrev lines_in : Draft → List Line
lines_in x = map (λ (a : Reply). a.line) x.replies

-- what was done for c stays done: the log stays, nothing that was told is taken back, and who waits goes on waiting
record IsKept (x y : Draft) : Type 0 where
  me : y.replica.me ≡ x.replica.me
  log : y.replica.log ≡ x.replica.log
  waiting : (c : Waiting) → Among x.replica.waiting c → Among y.replica.waiting c
  lines : (l : Line) → Among (lines_in x) l → Among (lines_in y) l

kept_self : (x : Draft) → IsKept x x
kept_self x = record { me = refl; log = refl; waiting = λ c m. m; lines = λ l m. m }

more_lines : (xs : List Reply) (a : Reply) (l : Line) → Among (map (λ (a : Reply). a.line) xs) l → Among (map (λ (a : Reply). a.line) (xs ++ a ∷ [])) l
more_lines xs a l m = subst (λ ls. Among ls l) (sym (map-append (λ (a : Reply). a.line) xs (a ∷ []))) (among_left (map (λ (a : Reply). a.line) xs) (a.line ∷ []) l m)

last_line : (xs : List Reply) (a : Reply) → Among (map (λ (a : Reply). a.line) (xs ++ a ∷ [])) a.line
last_line xs a = subst (λ ls. Among ls a.line) (sym (map-append (λ (a : Reply). a.line) xs (a ∷ []))) (among_right (map (λ (a : Reply). a.line) xs) (a.line ∷ []) a.line (inl refl))

found_kept : (w : Waiting) (o : Option (ℕ × Entry)) (x : Draft) → IsKept x (answer_found w o x)
unfolding answer_found reply_ok reply_dropped reply when◌then◌otherwise◌
found_kept w (Some p) x = record { me = refl; log = refl; waiting = λ c m. m; lines = λ l m. more_lines x.replies _ l m }
found_kept w None x = go (is_dropped x.replica w.entry)
  where
    go : (b : Bool) → IsKept x (when b then reply_dropped w x otherwise record x { replica = record x.replica { waiting = x.replica.waiting ++ w ∷ [] } })
    go true = record { me = refl; log = refl; waiting = λ c m. m; lines = λ l m. more_lines x.replies _ l m }
    go false = record { me = refl; log = refl; waiting = λ c m. among_left x.replica.waiting (w ∷ []) c m; lines = λ l m. m }

kept_then : {x y z : Draft} → IsKept x y → IsKept y z → IsKept x z
kept_then p q = record { me = q.me ∙ p.me; log = q.log ∙ p.log; waiting = λ c m. q.waiting c (p.waiting c m); lines = λ l m. q.lines l (p.lines l m) }

each_kept : (ws : List Waiting) (x : Draft) → IsKept x (answer_each ws x)
unfolding answer_each
each_kept [] x = kept_self x
each_kept (w ∷ ws) x = kept_then (found_kept w (find_executed (executed x.replica.log) w.entry) x) (each_kept ws _)

same_line : (x y : Draft) (c : Waiting) (p : ℕ × Entry) → y.replica.me ≡ x.replica.me → y.replica.log ≡ x.replica.log → answer_line x c p ≡ answer_line y c p
unfolding answer_line
same_line x y c p me log = rw (me, log) refl

served_on : (x y : Draft) (c : Waiting) → IsKept x y → IsServed x c → IsServed y c
unfolding is_dropped
served_on x y c k (Waits none m) = Waits (ap (λ l. find_executed (executed l) c.entry) k.log ∙ none) (k.waiting c m)
served_on x y c k (Answered p found m) =
    Answered p (ap (λ l. find_executed (executed l) c.entry) k.log ∙ found) (subst (Among (lines_in y)) (same_line x y c p k.me k.log) (k.lines (answer_line x c p) m))
served_on x y c k (Dropped h) = Dropped (ap (λ l. is_dropped (record x.replica { log = l }) c.entry) k.log ∙ h)

-- a client whose turn it is
found_served : (c : Waiting) (o : Option (ℕ × Entry)) (x : Draft) → find_executed (executed x.replica.log) c.entry ≡ o → IsServed (answer_found c o x) c
unfolding answer_found reply_ok reply_dropped reply answer_line is_dropped when◌then◌otherwise◌
found_served c (Some p) x e = Answered p e (told x)
  where
    told : (x : Draft) → Among (lines_in (reply_ok c p.0 (answer_after (take p.0 (executed x.replica.log)) p.1) x)) (answer_line (reply_ok c p.0 (answer_after (take p.0 (executed x.replica.log)) p.1) x) c p)
    told x = last_line x.replies _
found_served c None x e = go (is_dropped x.replica c.entry) refl
  where
    go : (b : Bool) → is_dropped x.replica c.entry ≡ b → IsServed (when b then reply_dropped c x otherwise record x { replica = record x.replica { waiting = x.replica.waiting ++ c ∷ [] } }) c
    go true h = Dropped h
    go false h = Waits e (among_right x.replica.waiting (c ∷ []) c (inl refl))

each_served : (ws : List Waiting) (x : Draft) (c : Waiting) → Among ws c → IsServed (answer_each ws x) c
unfolding answer_each
each_served [] x c m = absurd m
each_served (w ∷ ws) x c (inl e) =
    let y = answer_found w (find_executed (executed x.replica.log) w.entry) x in
    served_on y (answer_each ws y) c (each_kept ws y) (subst (IsServed y) e (found_served w (find_executed (executed x.replica.log) w.entry) x refl))
each_served (w ∷ ws) x c (inr m) = each_served ws _ c m

pub replies_serve : (x : Draft) (c : Waiting) → Among x.replica.waiting c → IsServed (replies x) c
unfolding replies
replies_serve x c m = each_served x.replica.waiting _ c m

pub steps_answer : StepsAnswer
unfolding step
steps_answer r input reading calm c m =
    let y = if_fitting (begun r) (on_input input reading (begun r)) in
    let z = idle_at input reading (owed_oks reading y) in
    let same = (all_commits z).waiting ∙ (pays_in input reading y).waiting ∙ (fitting_hears r input reading calm).waiting in
    replies_serve (commits z) c (subst (λ ws. Among ws c) (sym same) m)
