-- What a step tells beside its replies: it reports no command as dropped that the one list has.
use Rattle.std.proofs.Common.{◌≡◌, ℕ, List, [], ◌∷◌, refl, sym, ◌∙◌, subst, inl, inr, Bool, true, false}
use Rattle.std.specs.Prelude.{nat_lt, Option, Some, None}
use Rattle.std.specs.Option.{option_map_or}
use Rattle.crsm_spec.specs.Choice.{when◌then◌otherwise◌}
use Rattle.crsm_spec.specs.Types.{Stamp, Entry, Line}
use Rattle.crsm_spec.specs.Lists.{Among}
use Rattle.crsm_spec.specs.Log.{Log, executed}
use Rattle.crsm_spec.specs.Replica.{Replica, Waiting, fresh}
use Rattle.crsm_spec.specs.Draft.{Draft, begun, keep, reply}
use Rattle.crsm_spec.specs.Clients.{refuse, replies, answer_each, answer_found, reply_ok, reply_dropped, find_executed, is_dropped}
use Rattle.crsm_spec.specs.Step.{Input, step, boot, first_boot, founding_boot, boot_again}
use Rattle.crsm_spec.specs.Node.{Turn, turn, input_of}
use Rattle.crsm_fact_step.specs.Changes.{Changes, stay, and_then}
use Rattle.crsm_fact_step.proofs.Fitted.{step_changes}
use Rattle.crsm_fact_step.proofs.Walk.{same_when}
use Rattle.crsm_law_runs.proofs.Effects.{ArePlain, Effect, IsPlain, effect}
use Rattle.crsm_law_runs.proofs.Effects.Effect.{Still, Quiet, Took, Stamped, Refused, Executed, AdoptedTail, AdoptedPage, Answered}
use Rattle.crsm_law_runs.proofs.Steps.{is_stamped}

-- ---- lines of refused collections are plain

found_excess : (f : Waiting) (o : Option (ℕ × Entry)) (x : Draft) → (answer_found f o x).excess ≡ x.excess
unfolding answer_found reply_ok reply_dropped reply
found_excess f (Some p) x = refl
found_excess f None x = same_when (λ (y : Draft). y.excess) (is_dropped x.replica f.entry) _ _ x refl refl

each_excess : (fs : List Waiting) (x : Draft) → (answer_each fs x).excess ≡ x.excess
unfolding answer_each
each_excess [] x = refl
each_excess (f ∷ fs) x = each_excess fs (answer_found f (find_executed (executed x.replica.log) f.entry) x) ∙ found_excess f (find_executed (executed x.replica.log) f.entry) x

replies_excess : (x : Draft) → (replies x).excess ≡ x.excess
unfolding replies
replies_excess x = each_excess x.replica.waiting (record x { replica = record x.replica { waiting = [] } })

module _ (r : Replica) (input : Input) (reading : ℕ) where
  effect_plain : (x y : Draft) → Effect r input reading x y → ArePlain x.excess → ArePlain y.excess
  unfolding refuse reply
  effect_plain x y (Still l s q) h = q.excess h
  effect_plain x y (Quiet rec q k) h = k.silent.excess h
  effect_plain x y (Took a j e i f is o og k) h = k.silent.excess h
  effect_plain x y (Stamped a c t is) h = subst ArePlain (sym (is_stamped a c t x).excess) h
  effect_plain x y (Refused a c why) h = h
  effect_plain x y (Executed e f k) h = k.silent.excess h
  effect_plain x y (AdoptedTail d is k) h = k.silent.excess h
  effect_plain x y (AdoptedPage j e from es is k) h = k.silent.excess h
  effect_plain x y Answered h = subst ArePlain (sym (replies_excess x)) h

  changes_plain : {y : Draft} → Changes r input reading (begun r) y → ArePlain y.excess
  unfolding begun
  changes_plain stay = tt
  changes_plain (and_then {y = y} {z = z} p c f) = effect_plain y z (effect r input reading y z c) (changes_plain p)

pub turn_plain : (r : Replica) (t : Turn × ℕ) → ArePlain (turn r t).excess
unfolding turn begun
turn_plain r t = go (input_of t.0)
  where
    go : (o : Option Input) → ArePlain (option_map_or (λ i. step r i t.1) o (begun r)).excess
    go None = tt
    go (Some i) = changes_plain r i t.1 (step_changes r i t.1)

pub boot_plain : (k n : ℕ) (log : Log) → ArePlain (boot k n log).excess
unfolding boot first_boot founding_boot boot_again keep begun fresh when◌then◌otherwise◌
boot_plain k n (rec ∷ log) = tt
boot_plain k n [] = go (nat_lt k n)
  where
    go : (b : Bool) → ArePlain (when b then founding_boot k n otherwise boot_again k n []).excess
    go true = tt
    go false = tt

-- plain lines report no command as dropped
pub none_dropped : (ls : List Line) → ArePlain ls → (k client number epoch : ℕ) (s : Stamp) → Among ls (Line.ReplyDropped k client number epoch s) → ⊥
none_dropped [] h k client number epoch s a = a
none_dropped (l ∷ ls) h k client number epoch s (inl e) = subst IsPlain e h.0
none_dropped (l ∷ ls) h k client number epoch s (inr a) = none_dropped ls h.1 k client number epoch s a
