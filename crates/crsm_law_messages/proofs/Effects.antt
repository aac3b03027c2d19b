-- The effect of a change on a replica's received parts and message numbers, and on the parts that it sends.
use Rattle.std.proofs.Common.{◌≡◌, ℕ, ◌+◌, List, [], ◌∷◌, ◌++◌, refl, ◌∙◌, ap, subst, inl, inr, Bool, true, false, cond, arith, map}
use Rattle.std.specs.Prelude.{◌⊎◌, Option, Some, None, count_by}
use Rattle.std.proofs.lemmas.List.Sums.{sum_by-cons}
use Rattle.crsm_spec.specs.Choice.{when◌then◌otherwise◌}
use Rattle.crsm_spec.specs.Types.{Entry, Rec, InEpoch, Datagram, Control}
use Rattle.crsm_spec.specs.Lists.{Among}
use Rattle.crsm_spec.specs.Log.{Log, known, boots, is_boot, executed}
use Rattle.crsm_spec.specs.Frames.{take_frame, receive, owe, ack, pay, owing, again_frame}
use Rattle.crsm_spec.specs.Parts.{Piece, with_part}
use Rattle.crsm_spec.specs.Replica.{Replica, Waiting}
use Rattle.crsm_spec.specs.Draft.{Draft, keep, noting, send, reply, count_vote, issued_at, push_to_members, push_to, next_frame, send_control}
use Rattle.crsm_spec.specs.Clients.{refuse, submit, await, replies, answer_each, answer_found, reply_ok, reply_dropped, find_executed, is_dropped}
use Rattle.crsm_spec.specs.Coordinate.{forget_epoch}
use Rattle.crsm_spec.specs.Step.{Input}
use Rattle.crsm_fact_step.specs.Messages.{IsSent, Answers}
use Rattle.crsm_fact_step.specs.Changes.{Change}
use Rattle.crsm_fact_step.specs.Changes.Change.{Submits, Refuses, Commits, Replies, Takes, Acks, IsAcked, Pays, Owes, SendsTime, SendsAgain, SendsControl, Gathers, Suspends, Collects, TakesPage, Completes, Refrains, GivesUp, Asks, CountsAnswer, Proposes, IsPreempted, AcceptsOwn, CountsVote, Promises, Accepts, Chooses, Learns, AdoptsTail, AdoptsPage, Enters}
use Rattle.crsm_law_messages.proofs.Words.{among_unmap}
use Rattle.crsm_fact_log.proofs.Lists.{among_either}

-- ---- boots

pub boots_skip : (rec : Rec) (log : Log) → is_boot rec ≡ false → boots (rec ∷ log) ≡ boots log
unfolding boots
boots_skip rec log e = let s = sum_by-cons (λ r. cond (is_boot r) 1 0) rec log in s ∙ ap (λ b. cond b 1 0 + count_by is_boot log) e ∙ omega arith

pub boots_more : (me n : ℕ) (log : Log) → boots (Rec.Boot me n ∷ log) ≡ boots log + 1
unfolding boots is_boot
boots_more me n log = let s = sum_by-cons (λ r. cond (is_boot r) 1 0) (Rec.Boot me n) log in s ∙ omega arith

-- ---- kinds of changes

-- the datagram is no part
abbrev pub IsNoPart : Datagram → Type 0
IsNoPart d = (a j b i y c : ℕ) (bytes : List ℕ) → d ≡ Datagram.Part a j b i y c bytes → ⊥

pub record IsQuiet (x y : Draft) : Type 0 where
  pub me : y.replica.me ≡ x.replica.me
  pub boots : boots y.replica.log ≡ boots x.replica.log
  pub made : y.replica.made ≡ x.replica.made
  pub parts : y.replica.parts ≡ x.replica.parts
  pub sends : (s : ℕ × Datagram) → Among y.sends s → Among x.sends s ⊎ IsNoPart s.1

pub data PartsChange (r : Replica) (input : Input) (x : Draft) : Draft → Type 0 where
  Quiet : {y : Draft} → IsQuiet x y → PartsChange r input x y
  SendsOne : (k : ℕ) (c : Control) → IsSent x c → Answers r input c → PartsChange r input x (send_control c x k)
  GathersOne : (address : ℕ) (p : Piece) → input ≡ Input.Came address (Datagram.Part p.from r.me p.boot p.number p.index p.count p.bytes) →
      PartsChange r input x (record x { replica = record x.replica { parts = with_part p x.replica.parts } })

no_more : (x y : Draft) → y.sends ≡ x.sends → (s : ℕ × Datagram) → Among y.sends s → Among x.sends s ⊎ IsNoPart s.1
no_more x y e s h = inl (subst (λ l. Among l s) e h)

more : (x : Draft) (ds : List (ℕ × Datagram)) → ((s : ℕ × Datagram) → Among ds s → IsNoPart s.1) → (s : ℕ × Datagram) → Among (x.sends ++ ds) s → Among x.sends s ⊎ IsNoPart s.1
more x ds isnt s h = elim (among_either x.sends ds s h) [ inl a ↦ inl a | inr b ↦ inr (isnt s b) ]

frame_no : (m j e i : ℕ) (p : InEpoch) → IsNoPart (Datagram.Frame m j e i p)
frame_no m j e i p a k b n y c bytes h = absurd (cc)

ack_no : (m j e i : ℕ) → IsNoPart (Datagram.Ack m j e i)
ack_no m j e i a k b n y c bytes h = absurd (cc)

one_no : (k : ℕ) (d : Datagram) → IsNoPart d → (s : ℕ × Datagram) → Among ((k, d) ∷ []) s → IsNoPart s.1
one_no k d isnt s (inl e) = subst (λ t. IsNoPart t.1) e isnt
one_no k d isnt s (inr h) = absurd h

frames_no : (r : Replica) (p : InEpoch) (ks : List ℕ) (s : ℕ × Datagram) → Among (map (next_frame r p) ks) s → IsNoPart s.1
unfolding next_frame
frames_no r p ks s h = let t = among_unmap (next_frame r p) ks s h in subst (λ u. IsNoPart u.1) t.2 (frame_no r.me t.0 (known r.log) _ p)

-- ---- replies

quiet_self : (x : Draft) → IsQuiet x x
quiet_self x = record { me = refl; boots = refl; made = refl; parts = refl; sends = λ s h. inl h }

quiet_then : (x y z : Draft) → IsQuiet x y → IsQuiet y z → IsQuiet x z
quiet_then x y z p q = record {
  me = q.me ∙ p.me;
  boots = q.boots ∙ p.boots;
  made = q.made ∙ p.made;
  parts = q.parts ∙ p.parts;
  sends = λ s h. elim (q.sends s h) [ inl a ↦ p.sends s a | inr b ↦ inr b ];
}

found_quiet : (w : Waiting) (p : Option (ℕ × Entry)) (x : Draft) → IsQuiet x (answer_found w p x)
unfolding answer_found reply_ok reply_dropped reply when◌then◌otherwise◌
found_quiet w (Some p) x = record { me = refl; boots = refl; made = refl; parts = refl; sends = λ s h. inl h }
found_quiet w None x = go (is_dropped x.replica w.entry)
  where
    go : (c : Bool) → IsQuiet x (when c then reply_dropped w x otherwise record x { replica = record x.replica { waiting = x.replica.waiting ++ w ∷ [] } })
    go true = record { me = refl; boots = refl; made = refl; parts = refl; sends = λ s h. inl h }
    go false = record { me = refl; boots = refl; made = refl; parts = refl; sends = λ s h. inl h }

each_quiet : (ws : List Waiting) (x : Draft) → IsQuiet x (answer_each ws x)
unfolding answer_each
each_quiet [] x = quiet_self x
each_quiet (w ∷ ws) x =
    let y = answer_found w (find_executed (executed x.replica.log) w.entry) x in
    quiet_then x y (answer_each ws y) (found_quiet w (find_executed (executed x.replica.log) w.entry) x) (each_quiet ws y)

replies_quiet : (x : Draft) → IsQuiet x (replies x)
unfolding replies
replies_quiet x =
    let y = record x { replica = record x.replica { waiting = [] } } in
    quiet_then x y (replies x) (record { me = refl; boots = refl; made = refl; parts = refl; sends = λ s h. inl h }) (each_quiet x.replica.waiting y)

-- ---- each change

module _ (r : Replica) (input : Input) (reading : ℕ) where
  -- a change that keeps no record and sends nothing
  still : (x y : Draft) → y.replica.me ≡ x.replica.me → y.replica.log ≡ x.replica.log → y.replica.made ≡ x.replica.made → y.replica.parts ≡ x.replica.parts → y.sends ≡ x.sends → PartsChange r input x y
  still x y me log made parts sends = Quiet (record { me = me; boots = ap boots log; made = made; parts = parts; sends = no_more x y sends })

  -- a change that keeps a record and sends nothing
  kept : (rec : Rec) (x y : Draft) → is_boot rec ≡ false → y.replica.log ≡ rec ∷ x.replica.log → y.replica.me ≡ x.replica.me → y.replica.made ≡ x.replica.made → y.replica.parts ≡ x.replica.parts → y.sends ≡ x.sends → PartsChange r input x y
  kept rec x y b log me made parts sends = Quiet (record { me = me; boots = ap boots log ∙ boots_skip rec x.replica.log b; made = made; parts = parts; sends = no_more x y sends })

  -- a change that sends what is no part
  sent : (x y : Draft) (ds : List (ℕ × Datagram)) → y.replica.me ≡ x.replica.me → boots y.replica.log ≡ boots x.replica.log → y.replica.made ≡ x.replica.made → y.replica.parts ≡ x.replica.parts → y.sends ≡ x.sends ++ ds →
      ((s : ℕ × Datagram) → Among ds s → IsNoPart s.1) → PartsChange r input x y
  sent x y ds me b made parts sends isnt = Quiet (record { me = me; boots = b; made = made; parts = parts; sends = λ s h. more x ds isnt s (subst (λ l. Among l s) sends h) })

  pub parts_change : (x y : Draft) → Change r input reading x y → PartsChange r input x y
  unfolding submit refuse await push_to_members push_to count_vote issued_at keep noting reply send take_frame receive owe ack pay owing again_frame forget_epoch is_boot
  parts_change x y (Submits a c t i h w) = sent x y _ refl (boots_skip _ x.replica.log refl) refl refl refl (frames_no _ _ _)
  parts_change x y (Refuses a c why i h) = still x y refl refl refl refl refl
  parts_change x y (Commits e a h w) = kept _ x y refl refl refl refl refl refl
  parts_change x y Replies = Quiet (replies_quiet x)
  parts_change x y (Takes a k e seq (InEpoch.Prepare g) i o h p n d) = sent x y _ refl (boots_skip _ x.replica.log refl) refl refl refl (one_no k _ (ack_no _ _ _ _))
  parts_change x y (Takes a k e seq (InEpoch.PrepareOk s at) i o h p n d) = sent x y _ refl refl refl refl refl (one_no k _ (ack_no _ _ _ _))
  parts_change x y (Takes a k e seq (InEpoch.ClockTime at) i o h p n d) = sent x y _ refl refl refl refl refl (one_no k _ (ack_no _ _ _ _))
  parts_change x y (Acks k p) = sent x y _ refl refl refl refl refl (one_no k _ (ack_no _ _ _ _))
  parts_change x y (IsAcked k next p h) = still x y refl refl refl refl refl
  parts_change x y (Pays s t a m w lt) = sent x y _ refl refl refl refl refl (frames_no _ _ _)
  parts_change x y (Owes ss a h) = still x y refl refl refl refl refl
  parts_change x y (SendsTime t a i w) = sent x y _ refl refl refl refl refl (frames_no _ _ _)
  parts_change x y (SendsAgain k g a m h) = sent x y _ refl refl refl refl refl (one_no k _ (frame_no _ _ _ _ _))
  parts_change x y (SendsControl k c h) = SendsOne k c h.0 h.1
  parts_change x y (Gathers a p i o) = GathersOne a p i
  parts_change x y (Suspends h) = kept _ x y refl refl refl refl refl refl
  parts_change x y (Collects ms asked h s) = still x y refl refl refl refl refl
  parts_change x y (TakesPage ms pages e after p n h m i w) = still x y refl refl refl refl refl
  parts_change x y (Completes ms pages n h w) = still x y refl refl refl refl refl
  parts_change x y (Refrains d) = still x y refl refl refl refl refl
  parts_change x y (GivesUp own seen n) = still x y refl refl refl refl refl
  parts_change x y (Asks own seen b n by lt) = kept _ x y refl refl refl refl refl refl
  parts_change x y (CountsAnswer b own answers a n i h) = still x y refl refl refl refl refl
  parts_change x y (Proposes b own answers n h) = still x y refl refl refl refl refl
  parts_change x y (IsPreempted b own value acceptors top answers n h) = still x y refl refl refl refl refl
  parts_change x y (AcceptsOwn b own value acceptors n h i j) = kept _ x y refl refl refl refl refl refl
  parts_change x y (CountsVote b own value acceptors k n v) = still x y refl refl refl refl refl
  parts_change x y (Promises k b h lt) = kept _ x y refl refl refl refl refl refl
  parts_change x y (Accepts k b d h i j l) = kept _ x y refl refl refl refl refl refl
  parts_change x y (Chooses b own d acceptors n h) = kept _ x y refl refl refl refl refl refl
  parts_change x y (Learns k d h lt) = kept _ x y refl refl refl refl refl refl
  parts_change x y (AdoptsTail d h i j) = kept _ x y refl refl refl refl refl refl
  parts_change x y (AdoptsPage k e from es h i j) = kept _ x y refl refl refl refl refl refl
  parts_change x y (Enters h) = kept _ x y refl refl refl refl refl refl
