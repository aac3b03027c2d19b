-- The lines of a step are right for each list that extends its executed list.
use Rattle.std.proofs.Common.{◌≡◌, ℕ, List, [], ◌∷◌, ◌++◌, refl, ◌∙◌, subst, inl, inr, Bool, true, false, cond}
use Rattle.std.specs.Prelude.{◌==◌, nat_lt, Option, Some, None, option_to_list}
use Rattle.std.specs.Option.{option_map_or}
use Rattle.crsm_spec.specs.Choice.{when◌then◌otherwise◌}
use Rattle.crsm_spec.specs.Types.{Entry, Rec, Datagram, Line}
use Rattle.crsm_spec.specs.Lists.{Among, IsPrefixOf}
use Rattle.crsm_spec.specs.Log.{Log, executed, entry_of}
use Rattle.crsm_spec.specs.Lines.{lines_of, exec_lines}
use Rattle.crsm_spec.specs.Replica.{Replica, Waiting, fresh}
use Rattle.crsm_spec.specs.Draft.{Draft, begun, keep, reply}
use Rattle.crsm_spec.specs.Clients.{refuse, replies, answer_each, answer_found, reply_ok, reply_dropped, find_executed, is_dropped}
use Rattle.crsm_spec.specs.Step.{Input, step, boot, first_boot, founding_boot, boot_again}
use Rattle.crsm_spec.specs.Node.{Turn, turn, input_of}
use Rattle.crsm_spec.specs.World.{World}
use Rattle.crsm_fact_log.proofs.Lists.{among_either}
use Rattle.crsm_fact_step.specs.Changes.{Changes, stay, and_then}
use Rattle.crsm_fact_step.proofs.Fitted.{step_changes}
use Rattle.crsm_fact_step.proofs.Walk.{same_when}
use Rattle.crsm_law_runs.proofs.Drafts.{quiet_lines}
use Rattle.crsm_law_runs.proofs.Effects.{Effect, effect, IsKept}
use Rattle.crsm_law_runs.proofs.Effects.Effect.{Still, Quiet, Took, Stamped, Refused, Executed, AdoptedTail, AdoptedPage, Answered}
use Rattle.crsm_law_runs.proofs.Steps.{is_stamped}
use Rattle.crsm_law_runs.proofs.Words.{IsRight, exec_right}
use Rattle.crsm_law_cluster.proofs.Logging.{goes}
use Rattle.crsm_law_cluster.proofs.Executed.{prefix_then, executed_prefix}

found_lines : (f : Waiting) (o : Option (ℕ × Entry)) (x : Draft) → (answer_found f o x).lines ≡ x.lines
unfolding answer_found reply_ok reply_dropped reply
found_lines f (Some p) x = refl
found_lines f None x = same_when (λ (y : Draft). y.lines) (is_dropped x.replica f.entry) _ _ x refl refl

each_lines : (fs : List Waiting) (x : Draft) → (answer_each fs x).lines ≡ x.lines
unfolding answer_each
each_lines [] x = refl
each_lines (f ∷ fs) x = each_lines fs (answer_found f (find_executed (executed x.replica.log) f.entry) x) ∙ found_lines f (find_executed (executed x.replica.log) f.entry) x

replies_lines : (x : Draft) → (replies x).lines ≡ x.lines
unfolding replies
replies_lines x = each_lines x.replica.waiting (record x { replica = record x.replica { waiting = [] } })

module _ (end : World) (list : List Entry) where
  abbrev AllRight : Draft → Type 0
  AllRight x = (l : Line) → Among x.lines l → IsRight end list l

  abbrev IsOf : Draft → Type 0
  IsOf x = IsPrefixOf (executed x.replica.log) list

  same_lines : (x y : Draft) → y.lines ≡ x.lines → AllRight x → AllRight y
  same_lines x y e h l a = h l (subst (λ ls. Among ls l) e a)

  more_lines : (rec : Rec) (x y : Draft) → IsKept rec x y → ((l : Line) → Among (lines_of x.replica.me x.replica.log rec) l → IsRight end list l) → AllRight x → AllRight y
  more_lines rec x y k new h l a = elim (among_either x.lines (lines_of x.replica.me x.replica.log rec) l (subst (λ ls. Among ls l) k.lines a)) [ inl b ↦ h l b | inr b ↦ new l b ]

  -- the lines of entries that are executed
  runs_right : (me : ℕ) (log : Log) (es : List Entry) → IsPrefixOf (executed log ++ es) list → (l : Line) → Among (exec_lines me (executed log) es) l → IsRight end list l
  runs_right me log es p l a = (exec_right end list me (executed log) es p.0 p.1 l a).0

  logs_right : (me : ℕ) (log : Log) (f : Entry) (l : Line) → Among (lines_of me log (Rec.Prepare f)) l → IsRight end list l
  unfolding lines_of
  logs_right me log f l a = go (f.stamp.origin == me) a
    where
      go : (b : Bool) → Among (cond b (Line.Submit me f.epoch f.stamp.time f.command.client f.command.number) (Line.Log me f.epoch f.stamp) ∷ []) l → IsRight end list l
      go true (inl e) = subst (IsRight end list) e tt
      go true (inr e) = absurd e
      go false (inl e) = subst (IsRight end list) e tt
      go false (inr e) = absurd e

  module _ (r : Replica) (input : Input) (t : ℕ) where
    effect_right : (x y : Draft) → Effect r input t x y → IsOf y → AllRight x → AllRight y
    unfolding refuse reply lines_of executed
    effect_right x y (Still l s q) p h = same_lines x y s h
    effect_right x y (Quiet rec q k) p h = more_lines rec x y k (λ l a. (quiet_lines x.replica.me x.replica.log rec q l a).right end list) h
    effect_right x y (Took a j e i f is o og k) p h = more_lines (Rec.Prepare f) x y k (λ l a. logs_right x.replica.me x.replica.log f l a) h
    effect_right x y (Stamped a c s is) p h = λ l m. elim (among_either x.lines _ l (subst (λ ls. Among ls l) (is_stamped a c s x).lines m)) [
      | inl b ↦ h l b
      | inr b ↦ elim b [ inl e ↦ subst (IsRight end list) e tt | inr e ↦ absurd e ]
    ]
    effect_right x y (Refused a c why) p h = h
    effect_right x y (Executed e f k) p h = more_lines (Rec.Commit e.stamp) x y k
        (runs_right x.replica.me x.replica.log (option_to_list (entry_of x.replica.log e.stamp)) (subst (λ log. IsPrefixOf (executed log) list) k.log p)) h
    effect_right x y (AdoptedTail d is k) p h = more_lines _ x y k (runs_right x.replica.me x.replica.log _ (subst (λ log. IsPrefixOf (executed log) list) k.log p)) h
    effect_right x y (AdoptedPage j e from es is k) p h = more_lines _ x y k (runs_right x.replica.me x.replica.log _ (subst (λ log. IsPrefixOf (executed log) list) k.log p)) h
    effect_right x y Answered p h = same_lines x (replies x) (replies_lines x) h

    changes_right : {y : Draft} → Changes r input t (begun r) y → IsOf y → AllRight y
    unfolding begun
    changes_right stay p = λ l a. absurd a
    changes_right (and_then {y = y} {z = z} p c f) q =
        let g = goes r input t (λ a d. input ≡ Input.Came a (Datagram.Request d)) (λ a d e. e) y z c in
        effect_right y z (effect r input t y z c) q (changes_right p (prefix_then (executed y.replica.log) (executed z.replica.log) list (executed_prefix y.replica.log z.replica.log g.grows) q))

    step_right : IsOf (step r input t) → AllRight (step r input t)
    step_right = changes_right (step_changes r input t)

  pub turn_right : (r : Replica) (t : Turn × ℕ) → IsOf (turn r t) → AllRight (turn r t)
  unfolding turn begun
  turn_right r t = go (input_of t.0)
    where
      go : (o : Option Input) → IsOf (option_map_or (λ i. step r i t.1) o (begun r)) → AllRight (option_map_or (λ i. step r i t.1) o (begun r))
      go None p = λ l a. absurd a
      go (Some i) p = step_right r i t.1 p

  pub boot_right : (k n : ℕ) (log : Log) → AllRight (boot k n log)
  unfolding boot first_boot founding_boot boot_again keep begun fresh lines_of when◌then◌otherwise◌
  boot_right k n (rec ∷ log) l (inl e) = subst (IsRight end list) e tt
  boot_right k n (rec ∷ log) l (inr e) = absurd e
  boot_right k n [] l a = go (nat_lt k n) a
    where
      go : (b : Bool) → Among (when b then founding_boot k n otherwise boot_again k n []).lines l → IsRight end list l
      go true (inl e) = subst (IsRight end list) e tt
      go true (inr (inl e)) = subst (IsRight end list) e tt
      go true (inr (inr e)) = absurd e
      go false (inl e) = subst (IsRight end list) e tt
      go false (inr e) = absurd e
