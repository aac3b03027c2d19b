-- The replies of a step are those of its lines.
use Rattle.std.proofs.Common.{◌≡◌, ℕ, List, [], ◌∷◌, ◌++◌, refl, subst, inl, inr, Bool, true, false}
use Rattle.std.specs.Prelude.{Option, Some, None}
use Rattle.crsm_spec.specs.Choice.{when◌then◌otherwise◌}
use Rattle.crsm_spec.specs.Types.{Entry, Command}
use Rattle.crsm_spec.specs.Lists.{Among}
use Rattle.crsm_spec.specs.Log.{executed}
use Rattle.crsm_spec.specs.Replica.{Replica, Waiting}
use Rattle.crsm_spec.specs.Draft.{Draft, Reply, begun, reply, keep, count_vote, issued_at, push_to, push_to_members}
use Rattle.crsm_spec.specs.Clients.{submit, await, refuse, replies, answer_each, answer_found, reply_ok, reply_dropped, find_executed, is_dropped}
use Rattle.crsm_spec.specs.Step.{Input, step}
use Rattle.crsm_fact_log.proofs.Lists.{among_either}
use Rattle.crsm_fact_step.specs.Changes.{Changes, stay, and_then}
use Rattle.crsm_fact_step.proofs.Fitted.{step_changes}
use Rattle.crsm_law_runs.proofs.Effects.{Effect, effect}
use Rattle.crsm_law_runs.proofs.Effects.Effect.{Still, Quiet, Took, Stamped, Refused, Executed, AdoptedTail, AdoptedPage, Answered}
use Rattle.crsm_law_cluster.specs.Told.{Says}

abbrev IsSaid : Reply → Type 0
IsSaid a = Says a.client a.number a.says a.line

abbrev AllSaid : Draft → Type 0
AllSaid x = (a : Reply) → Among x.replies a → IsSaid a

more_said : (x : Draft) (a : Reply) → IsSaid a → AllSaid x → AllSaid (reply a x)
unfolding reply
more_said x a s h b m = elim (among_either x.replies (a ∷ []) b m) [
  | inl n ↦ h b n
  | inr n ↦ elim n [ inl e ↦ subst IsSaid e s | inr nothing ↦ absurd nothing ]
]

found_said : (f : Waiting) (o : Option (ℕ × Entry)) (x : Draft) → AllSaid x → AllSaid (answer_found f o x)
unfolding answer_found reply_ok reply_dropped when◌then◌otherwise◌
found_said f (Some p) x h = more_said x _ (refl, refl, refl) h
found_said f None x h = go (is_dropped x.replica f.entry)
  where
    go : (b : Bool) → AllSaid (when b then reply_dropped f x otherwise record x { replica = record x.replica { waiting = x.replica.waiting ++ f ∷ [] } })
    go true = more_said x _ (refl, refl, refl) h
    go false = h

each_said : (fs : List Waiting) (x : Draft) → AllSaid x → AllSaid (answer_each fs x)
unfolding answer_each
each_said [] x h = h
each_said (f ∷ fs) x h = each_said fs (answer_found f (find_executed (executed x.replica.log) f.entry) x) (found_said f (find_executed (executed x.replica.log) f.entry) x h)

module _ (r : Replica) (input : Input) (t : ℕ) where
  same_said : (x y : Draft) → y.replies ≡ x.replies → AllSaid x → AllSaid y
  same_said x y e h a m = h a (subst (λ rs. Among rs a) e m)

  submit_said : (a : ℕ) (c : Command) (s : ℕ) (x : Draft) → AllSaid x → AllSaid (submit a c s x)
  unfolding submit await keep count_vote issued_at push_to push_to_members
  submit_said a c s x h = h

  effect_said : (x y : Draft) → Effect r input t x y → AllSaid x → AllSaid y
  unfolding refuse replies
  effect_said x y (Still l s q) h = same_said x y q.replies h
  effect_said x y (Quiet rec q k) h = same_said x y k.silent.replies h
  effect_said x y (Took a j e i f is o og k) h = same_said x y k.silent.replies h
  effect_said x y (Stamped a c s is) h = submit_said a c s x h
  effect_said x y (Refused a c why) h = more_said x _ tt h
  effect_said x y (Executed e f k) h = same_said x y k.silent.replies h
  effect_said x y (AdoptedTail d is k) h = same_said x y k.silent.replies h
  effect_said x y (AdoptedPage j e from es is k) h = same_said x y k.silent.replies h
  effect_said x y Answered h = each_said x.replica.waiting (record x { replica = record x.replica { waiting = [] } }) h

  changes_said : {y : Draft} → Changes r input t (begun r) y → AllSaid y
  unfolding begun
  changes_said stay = λ a m. absurd m
  changes_said (and_then {y = y} {z = z} p c f) = effect_said y z (effect r input t y z c) (changes_said p)

  pub step_says : (a : Reply) → Among (step r input t).replies a → Says a.client a.number a.says a.line
  step_says = changes_said (step_changes r input t)
