-- Acting on the outcomes of pages follows the rules of the protocol.
use Rattle.std.proofs.Common.{◌≡◌, ◌∙◌, ℕ, Bool, true, false, refl, ap, List, [], ◌∷◌, ◌++◌, Option, Some}
use Rattle.std.specs.Prelude.{◌&&◌, not}
use Rattle.crsm_spec.specs.Types.{Stamp, Decision, Control}
use Rattle.crsm_spec.specs.Choice.{when◌then◌otherwise◌}
use Rattle.crsm_spec.specs.Lists.{has}
use Rattle.crsm_spec.specs.Log.{known}
use Rattle.crsm_spec.specs.Replica.{Coordinator, LogPage, spec_of, named_spec}
use Rattle.crsm_spec.specs.Draft.{Draft, noting, send_control}
use Rattle.crsm_spec.specs.Quorum.{has_majority}
use Rattle.crsm_spec.specs.Collect.{whole_ones, collected, cursor, is_whole, is_within}
use Rattle.crsm_spec.specs.Coordinate.{on_complete, on_whole}
use Rattle.crsm_spec.specs.Controls.{is_page_of, take_page, on_suspend_ok, if_spec, on_control}
use Rattle.crsm_suspend.specs.Collecting.{is_asked, page_in, got_decided, got_whole, got_more, got_page, got_of, pages_after}
use Rattle.crsm_suspend.specs.declared.got.PageOutcome.TheVariants as PageOutcome
use Rattle.crsm_suspend.specs.Coordinating.{on_got, PagesAreTaken, ReportsAreCounted}
use Rattle.crsm_suspend.proofs.CollectLemmas.{more_from}

decided : (ms : List ℕ) (pages : List LogPage) (d : Decision) (x : Draft) → on_complete d (noting (Coordinator.Collecting ms pages) x) ≡ on_got ms pages (got_decided d) x
unfolding on_complete got_decided on_got when◌then◌otherwise◌
decided ms pages d x = go (is_within d.tail) refl
  where
    go : (b : Bool) → is_within d.tail ≡ b → on_complete d (noting (Coordinator.Collecting ms pages) x) ≡ on_got ms pages (got_decided d) x
    go true e = rw e refl
    go false e = rw e refl

pub reports_are_counted : ReportsAreCounted
unfolding on_whole got_whole on_got when◌then◌otherwise◌
reports_are_counted ms pages x = go (has_majority (spec_of x.replica) (whole_ones (spec_of x.replica) pages)) refl
  where
    go : (b : Bool) → has_majority (spec_of x.replica) (whole_ones (spec_of x.replica) pages) ≡ b →
        on_whole ms pages x ≡ on_got ms pages (got_whole x.replica.log (spec_of x.replica) (named_spec x.replica ms) ms pages) x
    go true e = rw e (decided ms pages (collected (spec_of x.replica) (named_spec x.replica ms) x.replica.log ms pages) x)
    go false e = rw e refl

-- ---- a page

asked_on : (ms : List ℕ) (all : List LogPage) (k : ℕ) (s : Stamp) (x : Draft) → cursor all k ≡ Some s →
    send_control (Control.Suspend (known x.replica.log) (cursor all k)) (noting (Coordinator.Collecting ms all) x) k ≡ on_got ms all (got_more k (cursor all k)) x
unfolding on_got
asked_on ms all k s x e = rw e refl

page_taken : (ms : List ℕ) (pages : List LogPage) (e : ℕ) (after : Option Stamp) (p : LogPage) (x : Draft) → is_asked x.replica.log (spec_of x.replica) pages e after p ≡ true →
    take_page ms pages p x ≡ on_got ms (pages ++ p ∷ []) (got_page x.replica.log (spec_of x.replica) (named_spec x.replica ms) ms (pages ++ p ∷ []) p) x
unfolding take_page got_page when◌then◌otherwise◌
page_taken ms pages e after p x h = go p.whole refl
  where
    all : List LogPage
    all = pages ++ p ∷ []

    go : (b : Bool) → p.whole ≡ b →
        (when b then on_whole ms all x otherwise send_control (Control.Suspend (known x.replica.log) (cursor all p.from)) (noting (Coordinator.Collecting ms all) x) p.from)
        ≡ on_got ms all (when b then got_whole x.replica.log (spec_of x.replica) (named_spec x.replica ms) ms all otherwise got_more p.from (cursor all p.from)) x
    go true w = reports_are_counted ms all x
    go false w = let s = more_from x.replica.log (spec_of x.replica) pages e after p h w in asked_on ms all p.from s.0 x s.1

asked_as : (x : Draft) (pages : List LogPage) (e : ℕ) (after : Option Stamp) (p : LogPage) (a b : Bool) → has (spec_of x.replica) p.from ≡ a →
    (is_page_of (known x.replica.log) e (cursor pages p.from) after p && not (is_whole pages p.from)) ≡ b → is_asked x.replica.log (spec_of x.replica) pages e after p ≡ (a && b)
unfolding is_asked
asked_as x pages e after p a b f g = ap (λ c. c && (is_page_of (known x.replica.log) e (cursor pages p.from) after p && not (is_whole pages p.from))) f ∙ ap (λ c. a && c) g

same : (ms : List ℕ) (pages : List LogPage) (x : Draft) → x ≡ on_got ms pages PageOutcome.Stranger x
unfolding on_got
same ms pages x = refl

pub pages_are_taken : PagesAreTaken
unfolding on_control if_spec on_suspend_ok when◌then◌otherwise◌
pages_are_taken k e executed last after whole es ms pages x coordinator =
    ap (λ n. if_spec k x (on_suspend_ok e after p n x)) coordinator ∙ go (has (spec_of x.replica) k) (is_page_of (known x.replica.log) e (cursor pages k) after p && not (is_whole pages k)) refl refl
  where
    p : LogPage
    p = page_in k executed last whole es

    asked : (a b : Bool) → has (spec_of x.replica) k ≡ a → (is_page_of (known x.replica.log) e (cursor pages k) after p && not (is_whole pages k)) ≡ b →
        is_asked x.replica.log (spec_of x.replica) pages e after p ≡ (a && b)
    asked a b f g = asked_as x pages e after p a b f g

    go : (a b : Bool) → has (spec_of x.replica) k ≡ a → (is_page_of (known x.replica.log) e (cursor pages k) after p && not (is_whole pages k)) ≡ b →
        if_spec k x (on_suspend_ok e after p (Coordinator.Collecting ms pages) x)
        ≡ on_got ms (pages_after x.replica.log (spec_of x.replica) pages k (Control.SuspendOk e executed last after whole es))
        (got_of x.replica.log (spec_of x.replica) (named_spec x.replica ms) ms pages k (Control.SuspendOk e executed last after whole es)) x
    go true true f g = rw (f, g, asked true true f g) (page_taken ms pages e after p x (asked true true f g))
    go true false f g = rw (f, g, asked true false f g) (same ms pages x)
    go false b f g = rw (f, asked false b f g) (same ms pages x)
