-- Drafts that are alike in all on which the records of a begun proposal depend.
use Rattle.std.proofs.Common.{◌≡◌, ℕ, ◌+◌, List, [], ◌∷◌, refl, sym, ◌∙◌, subst, Bool, true, false}
use Rattle.std.specs.Prelude.{◌&&◌, ◌==◌, ◌++◌, not}
use Rattle.std.proofs.lemmas.Bool.{false≢true, eq-eqb}
use Rattle.crsm_spec.specs.Types.{Rec, Control}
use Rattle.crsm_spec.specs.Choice.{when◌then◌otherwise◌}
use Rattle.crsm_spec.specs.Log.{known, decision, executed, promised, accepted, suspended}
use Rattle.crsm_spec.specs.Fits.{fits, booted}
use Rattle.crsm_spec.specs.Replica.{Coordinator}
use Rattle.crsm_spec.specs.Draft.{Draft, keep, noting, parts_to, send_control, send_to_each, send_to_all}
use Rattle.crsm_spec.specs.Clock.{u64_max}
use Rattle.crsm_spec.specs.Coordinate.{suspend_once}
use Rattle.crsm_replica.specs.Sound.{IsSound}
use Rattle.crsm_replica_reconfigure.specs.Rules.{BeginsAlike}
use Rattle.crsm_replica_reconfigure.proofs.DraftLemmas.{and_first, booted_more, keep_fitting}
use Rattle.crsm_replica_reconfigure.proofs.SuspendLemmas.{once_done, once_now}

pub alike_self : (x : Draft) → IsSound x → BeginsAlike x x
alike_self x s = record { me = refl; n = refl; knows = refl; promises = refl; accepts = refl; executes = refl; on_record = s.on_record; fitting = s.fitting }

-- whatever the coordinator is
pub alike_noted : (m : Coordinator) (x y : Draft) → BeginsAlike x y → BeginsAlike x (noting m y)
unfolding noting
alike_noted m x y a = record { me = a.me; n = a.n; knows = a.knows; promises = a.promises; accepts = a.accepts; executes = a.executes; on_record = a.on_record; fitting = a.fitting }

-- whatever was sent
alike_send : (c : Control) (x y : Draft) (k : ℕ) → BeginsAlike x y → BeginsAlike x (send_control c y k)
unfolding send_control when◌then◌otherwise◌
alike_send c x y k a = go (y.replica.made == u64_max)
  where
    go : (t : Bool) → BeginsAlike x (when t then y otherwise record y { replica = record y.replica { made = y.replica.made + 1 }; sends = y.sends ++ parts_to y.replica k c })
    go true = a
    go false = record { me = a.me; n = a.n; knows = a.knows; promises = a.promises; accepts = a.accepts; executes = a.executes; on_record = a.on_record; fitting = a.fitting }

pub alike_each : (ks : List ℕ) (c : Control) (x y : Draft) → BeginsAlike x y → BeginsAlike x (send_to_each ks c y)
unfolding send_to_each
alike_each [] c x y a = a
alike_each (k ∷ ks) c x y a = alike_each ks c x (send_control c y k) (alike_send c x y k a)

pub alike_sent : (c : Control) (x y : Draft) → BeginsAlike x y → BeginsAlike x (send_to_all c y)
unfolding send_to_all
alike_sent c x y a = alike_each _ c x y a

-- ---- once the known epoch is suspended

suspend_kept : (x : Draft) → IsSound x → suspended x.replica.log ≡ false → (keep (Rec.Suspend (known x.replica.log)) x).fitting ≡ true
unfolding fits
suspend_kept x s h = keep_fitting _ x ∙ and_first _ _ s.fitting ∙ all (booted x.replica.log) (known x.replica.log == known x.replica.log) (suspended x.replica.log) s.on_record (eq-eqb (known x.replica.log) (known x.replica.log) refl) h
  where
    all : (p q r : Bool) → p ≡ true → q ≡ true → r ≡ false → ((p && q) && not r) ≡ true
    all true true false h i j = refl
    all true true true h i j = absurd (false≢true (sym j))
    all true false r h i j = absurd (false≢true i)
    all false q r h i j = absurd (false≢true h)

alike_kept : (x : Draft) (e : ℕ) → IsSound x → (keep (Rec.Suspend e) x).fitting ≡ true → BeginsAlike x (keep (Rec.Suspend e) x)
unfolding keep decision promised accepted executed
alike_kept x e s fit = record { me = refl; n = refl; knows = refl; promises = refl; accepts = refl; executes = refl; on_record = booted_more (Rec.Suspend e) x.replica.log s.on_record; fitting = fit }

pub alike_suspended : (x : Draft) → IsSound x → BeginsAlike x (suspend_once x)
alike_suspended x s = go (suspended x.replica.log) refl
  where
    go : (t : Bool) → suspended x.replica.log ≡ t → BeginsAlike x (suspend_once x)
    go true h = subst (λ y. BeginsAlike x y) (sym (once_done x h)) (alike_self x s)
    go false h = subst (λ y. BeginsAlike x y) (sym (once_now x h)) (alike_kept x (known x.replica.log) s (suspend_kept x s h))
