-- The lines that a step makes of its records and replies name no datagram.
use Rattle.std.proofs.Common.{◌≡◌, ℕ, List, [], ◌∷◌, ◌++◌, refl, sym, ◌∙◌, ap, Bool, true, false, map, Option, None, Some, append_assoc}
use Rattle.std.specs.Prelude.{option_to_list, ◌==◌, if◌then◌else◌}
use Rattle.crsm_spec.specs.Choice.{when◌then◌otherwise◌}
use Rattle.crsm_spec.specs.Clock.{u64_max}
use Rattle.crsm_spec.specs.Types.{Entry, Rec, InEpoch, Control, Line}
use Rattle.crsm_spec.specs.Lines.{exec_line, exec_lines, lines_of}
use Rattle.crsm_spec.specs.Log.{Log, entry_of, executed}
use Rattle.crsm_spec.specs.Replica.{Replica, Waiting}
use Rattle.crsm_spec.specs.Draft.{Draft, Reply, keep, noting, send, reply, count_vote, issued_at, push_to_members, push_to, send_control}
use Rattle.crsm_spec.specs.Clients.{refuse, submit, await, replies, answer_each, answer_found, reply_ok, reply_dropped, is_dropped, find_executed}
use Rattle.crsm_spec.specs.Frames.{take_frame, receive, owe, ack, pay, owing, again_frame}
use Rattle.crsm_spec.specs.Coordinate.{forget_epoch}
use Rattle.crsm_spec.specs.Step.{Input}
use Rattle.crsm_fact_step.specs.Changes.{Change, Changes, stay, and_then}
use Rattle.crsm_fact_step.specs.Changes.Change.{Submits, Refuses, Commits, Replies, Takes, Acks, IsAcked, Pays, Owes, SendsTime, SendsAgain, SendsControl, Gathers, Suspends, Collects, TakesPage, Completes, Refrains, GivesUp, Asks, CountsAnswer, Proposes, IsPreempted, AcceptsOwn, CountsVote, Promises, Accepts, Chooses, Learns, AdoptsTail, AdoptsPage, Enters}
use Rattle.crsm_law_pending.specs.Posts.{post_of, posts}

-- ---- lines

pub posts_then : (ls ms : List Line) → posts (ls ++ ms) ≡ posts ls ++ posts ms
unfolding posts
posts_then [] ms = refl
posts_then (l ∷ ls) ms = ap (λ ps. post_of l ++ ps) (posts_then ls ms) ∙ sym (append_assoc (post_of l) (posts ls) (posts ms))

silent_then : (ls ms : List Line) → posts ls ≡ [] → posts ms ≡ [] → posts (ls ++ ms) ≡ []
silent_then ls ms p q = posts_then ls ms ∙ ap (λ ps. ps ++ posts ms) p ∙ q

exec_silent : (me : ℕ) (done es : List Entry) → posts (exec_lines me done es) ≡ []
unfolding posts post_of exec_lines exec_line
exec_silent me done [] = refl
exec_silent me done (e ∷ es) = exec_silent me (done ++ e ∷ []) es

record_silent : (me : ℕ) (log : Log) (rec : Rec) → posts (lines_of me log rec) ≡ []
unfolding posts post_of lines_of
record_silent me log (Rec.Boot m n) = refl
record_silent me log (Rec.Prepare e) = own (e.stamp.origin == me)
  where
    own : (b : Bool) → posts ((if b then Line.Submit me e.epoch e.stamp.time e.command.client e.command.number else Line.Log me e.epoch e.stamp) ∷ []) ≡ []
    own true = refl
    own false = refl
record_silent me log (Rec.Commit s) = exec_silent me (executed log) (option_to_list (entry_of log s))
record_silent me log (Rec.Adopt place es) = exec_silent me (executed log) es
record_silent me log (Rec.Suspend x) = refl
record_silent me log (Rec.Promise i b) = refl
record_silent me log (Rec.Accept i b d) = refl
record_silent me log (Rec.Decide d) = refl
record_silent me log (Rec.Enter x) = refl

-- ---- drafts

-- no line but those of its sends tells of a datagram
pub record IsSilent (x : Draft) : Type 0 where
  pub lines : posts x.lines ≡ []
  pub excess : posts x.excess ≡ []
  pub replies : posts (map (λ a. a.line) x.replies) ≡ []

-- the same lines and replies
record IsAsBefore (x y : Draft) : Type 0 where
  lines : y.lines ≡ x.lines
  excess : y.excess ≡ x.excess
  replies : y.replies ≡ x.replies

as_before : {x y : Draft} → IsAsBefore x y → IsSilent x → IsSilent y
as_before p h = record {
  lines = ap posts p.lines ∙ h.lines;
  excess = ap posts p.excess ∙ h.excess;
  replies = ap (λ (rs : List Reply). posts (map (λ a. a.line) rs)) p.replies ∙ h.replies;
}

before_when : {x a b : Draft} (c : Bool) → IsAsBefore x a → IsAsBefore x b → IsAsBefore x (when c then a otherwise b)
unfolding when◌then◌otherwise◌
before_when true p q = p
before_when false p q = q

same : (x y : Draft) → y.lines ≡ x.lines → y.excess ≡ x.excess → y.replies ≡ x.replies → IsSilent x → IsSilent y
same x y l e r h = as_before {x = x} {y = y} (record { lines = l; excess = e; replies = r }) h

tell_before : (c : Control) (k : ℕ) (x : Draft) → IsAsBefore x (send_control c x k)
unfolding send_control
tell_before c k x = before_when (x.replica.made == u64_max) (record { lines = refl; excess = refl; replies = refl }) (record { lines = refl; excess = refl; replies = refl })

-- a record is kept
kept : (rec : Rec) (x y : Draft) → y.lines ≡ x.lines ++ lines_of x.replica.me x.replica.log rec → y.excess ≡ x.excess → y.replies ≡ x.replies → IsSilent x → IsSilent y
kept rec x y l e r h = record {
  lines = ap posts l ∙ silent_then x.lines (lines_of x.replica.me x.replica.log rec) h.lines (record_silent x.replica.me x.replica.log rec);
  excess = ap posts e ∙ h.excess;
  replies = ap (λ (rs : List Reply). posts (map (λ a. a.line) rs)) r ∙ h.replies;
}

-- ---- replies

map_end : {A B : Type 0} (f : A → B) (xs : List A) (a : A) → map f (xs ++ a ∷ []) ≡ map f xs ++ f a ∷ []
map_end f [] a = refl
map_end f (x ∷ xs) a = ap (λ l. f x ∷ l) (map_end f xs a)

replied : (a : Reply) (x y : Draft) → y.lines ≡ x.lines → y.excess ≡ x.excess → y.replies ≡ x.replies ++ a ∷ [] → posts (a.line ∷ []) ≡ [] → IsSilent x → IsSilent y
replied a x y l e r none h = record {
  lines = ap posts l ∙ h.lines;
  excess = ap posts e ∙ h.excess;
  replies = ap (λ (rs : List Reply). posts (map (λ a. a.line) rs)) r ∙ ap posts (map_end (λ (a : Reply). a.line) x.replies a) ∙ silent_then (map (λ a. a.line) x.replies) (a.line ∷ []) h.replies none;
}

found_silent : (w : Waiting) (p : Option (ℕ × Entry)) (x : Draft) → IsSilent x → IsSilent (answer_found w p x)
unfolding answer_found reply_ok reply_dropped reply when◌then◌otherwise◌ posts post_of
found_silent w (Some p) x h = replied _ x _ refl refl refl refl h
found_silent w None x h = dropped (is_dropped x.replica w.entry)
  where
    dropped : (b : Bool) → IsSilent (when b then reply_dropped w x otherwise record x { replica = record x.replica { waiting = x.replica.waiting ++ w ∷ [] } })
    dropped true = replied _ x _ refl refl refl refl h
    dropped false = same x _ refl refl refl h

each_silent : (ws : List Waiting) (x : Draft) → IsSilent x → IsSilent (answer_each ws x)
unfolding answer_each
each_silent [] x h = h
each_silent (w ∷ ws) x h = each_silent ws (answer_found w (find_executed (executed x.replica.log) w.entry) x) (found_silent w (find_executed (executed x.replica.log) w.entry) x h)

replies_silent : (x : Draft) → IsSilent x → IsSilent (replies x)
unfolding replies
replies_silent x h = each_silent x.replica.waiting (record x { replica = record x.replica { waiting = [] } }) (same x _ refl refl refl h)

-- ---- changes

module _ (r : Replica) (input : Input) (reading : ℕ) where
  change_silent : (x y : Draft) → Change r input reading x y → IsSilent x → IsSilent y
  unfolding refuse submit await push_to_members push_to count_vote issued_at keep noting reply send take_frame receive owe ack pay owing again_frame forget_epoch posts post_of
  change_silent x y (Submits a c t i h w) before = kept _ x y refl refl refl before
  change_silent x y (Refuses a c why i h) before = replied _ x y refl refl refl refl before
  change_silent x y (Commits e a h w) before = kept _ x y refl refl refl before
  change_silent x y Replies before = replies_silent x before
  change_silent x y (Takes a j e seq (InEpoch.Prepare g) i o h p q d) before = kept _ x y refl refl refl before
  change_silent x y (Takes a j e seq (InEpoch.PrepareOk s at) i o h p q d) before = same x y refl refl refl before
  change_silent x y (Takes a j e seq (InEpoch.ClockTime at) i o h p q d) before = same x y refl refl refl before
  change_silent x y (Acks j p) before = same x y refl refl refl before
  change_silent x y (IsAcked j next p h) before = same x y refl refl refl before
  change_silent x y (Pays s t a m w lt) before = same x y refl refl refl before
  change_silent x y (Owes ss a h) before = same x y refl refl refl before
  change_silent x y (SendsTime t a i w) before = same x y refl refl refl before
  change_silent x y (SendsAgain j g a m h) before = same x y refl refl refl before
  change_silent x y (SendsControl j c h) before = as_before {x = x} {y = y} (tell_before c j x) before
  change_silent x y (Gathers a p i o) before = same x y refl refl refl before
  change_silent x y (Suspends h) before = kept _ x y refl refl refl before
  change_silent x y (Collects ms asked h s) before = same x y refl refl refl before
  change_silent x y (TakesPage ms pages e after p q h m i w) before = same x y refl refl refl before
  change_silent x y (Completes ms pages q h w) before = same x y refl refl refl before
  change_silent x y (Refrains d) before = record { lines = before.lines; excess = silent_then x.excess _ before.excess refl; replies = before.replies }
  change_silent x y (GivesUp own seen q) before = same x y refl refl refl before
  change_silent x y (Asks own seen b q by lt) before = kept _ x y refl refl refl before
  change_silent x y (CountsAnswer b own answers a q i h) before = same x y refl refl refl before
  change_silent x y (Proposes b own answers q h) before = same x y refl refl refl before
  change_silent x y (IsPreempted b own value acceptors top answers q h) before = same x y refl refl refl before
  change_silent x y (AcceptsOwn b own value acceptors q h i j) before = kept _ x y refl refl refl before
  change_silent x y (CountsVote b own value acceptors j q v) before = same x y refl refl refl before
  change_silent x y (Promises j b h lt) before = kept _ x y refl refl refl before
  change_silent x y (Accepts j b d h i l m) before = kept _ x y refl refl refl before
  change_silent x y (Chooses b own d acceptors q h) before = kept _ x y refl refl refl before
  change_silent x y (Learns j d h lt) before = kept _ x y refl refl refl before
  change_silent x y (AdoptsTail d h i j) before = kept _ x y refl refl refl before
  change_silent x y (AdoptsPage j e from es h i l) before = kept _ x y refl refl refl before
  change_silent x y (Enters h) before = kept _ x y refl refl refl before

  pub changes_silent : (x y : Draft) → Changes r input reading x y → IsSilent x → IsSilent y
  changes_silent x y stay s = s
  changes_silent x y (and_then {y = v} cs c fits) s = change_silent v y c (changes_silent x v cs s)
