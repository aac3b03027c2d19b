-- A page that is accepted is the answer of its sender's suspended log.
use Rattle.std.proofs.Common.{◌≡◌, ℕ, List, [], ◌∷◌, ◌++◌, length, refl, sym, ◌∙◌, ap, subst, Bool, false}
use Rattle.std.specs.Prelude.{IsTrue, Option, Some, None, ◌==◌, ◌||◌, nat_lt}
use Rattle.std.specs.Option.{option_eq}
use Rattle.std.proofs.lemmas.Bool.{and_parts, eqb-true, false≢true}
use Rattle.crsm_base.specs.Order.{stamp_eq}
use Rattle.crsm_spec.specs.Types.{Stamp, Entry, Control}
use Rattle.crsm_spec.specs.Log.{Log, known, suspended}
use Rattle.crsm_spec.specs.Replica.{LogPage}
use Rattle.crsm_spec.specs.Collect.{suspend_ok, is_whole, cursor}
use Rattle.crsm_spec.specs.Controls.{is_page_of}
use Rattle.crsm_fact_log.specs.Logs.{Extends, AllFit}
use Rattle.crsm_fact_log.proofs.Tests.{same_stamp}
use Rattle.crsm_law_collection.specs.Paging.{answer_page, AreParts}
use Rattle.crsm_law_collection.proofs.Pages.{pages_go_on, answers_are_pages}

same_option : (a b : Option Stamp) → IsTrue (option_eq stamp_eq a b) → a ≡ b
same_option None None h = refl
same_option None (Some t) h = absurd (false≢true h)
same_option (Some s) None h = absurd (false≢true h)
same_option (Some s) (Some t) h = ap (λ z. Some z) (same_stamp s t h)

-- the page that is asked for at this place
record IsNext (e known : ℕ) (asked after : Option Stamp) (p : LogPage) : Type 0 where
  pub epoch : e ≡ known
  pub place : after ≡ asked
  pub some : IsTrue (nat_lt 0 (length p.entries) || p.whole)

is_next : (known e : ℕ) (asked after : Option Stamp) (p : LogPage) → IsTrue (is_page_of known e asked after p) → IsNext e known asked after p
unfolding is_page_of
is_next known e asked after p h =
    let t = and_parts _ _ h in
    let u = and_parts _ _ t.0 in
    let v = and_parts (e == known) (option_eq stamp_eq after asked) u.0 in
    record {
      epoch = eqb-true e known v.0;
      place = same_option after asked v.1;
      some = (and_parts (nat_lt 0 (length p.entries) || p.whole) _ t.1).0;
    }

record SameOk (e done : ℕ) (last after : Option Stamp) (whole : Bool) (es : List Entry) (e' done' : ℕ) (last' after' : Option Stamp) (whole' : Bool) (es' : List Entry) : Type 0 where
  pub epoch : e ≡ e'
  pub executed : done ≡ done'
  pub last_is : last ≡ last'
  pub whole_is : whole ≡ whole'
  pub entries : es ≡ es'

same_ok : (e done : ℕ) (last after : Option Stamp) (whole : Bool) (es : List Entry) (e' done' : ℕ) (last' after' : Option Stamp) (whole' : Bool) (es' : List Entry) →
    Control.SuspendOk e done last after whole es ≡ Control.SuspendOk e' done' last' after' whole' es' → SameOk e done last after whole es e' done' last' after' whole' es'
same_ok e done last after whole es e' done' last' after' whole' es' h = record { epoch = cc; executed = cc; last_is = cc; whole_is = cc; entries = cc }

same_page : (p q : LogPage) → p.from ≡ q.from → p.executed ≡ q.executed → p.last ≡ q.last → p.whole ≡ q.whole → p.entries ≡ q.entries → p ≡ q
same_page p q a b c d e = λ i. record { from = a i; executed = b i; last = c i; whole = d i; entries = e i }

from_is : (k : ℕ) (log : Log) (after : Option Stamp) → (answer_page k log after).from ≡ k
unfolding answer_page
from_is k log after = refl

-- the pages with this one are parts of reports still
pub takes_page : (n : ℕ) (logs : ℕ → Log) → ((k : ℕ) → AllFit k n (logs k)) → (known_is e : ℕ) (pages : List LogPage) (after : Option Stamp) (p : LogPage) (old : Log) →
    AreParts known_is logs pages → IsTrue (is_page_of known_is e (cursor pages p.from) after p) → is_whole pages p.from ≡ false → Extends old (logs p.from) → IsTrue (suspended old) →
    Control.SuspendOk e p.executed p.last after p.whole p.entries ≡ suspend_ok old after → AreParts known_is logs (pages ++ p ∷ [])
takes_page n logs fit k0 e pages after p old parts next not_whole earlier frozen is =
    let t = is_next k0 e (cursor pages p.from) after p next in
    let q = answer_page p.from old after in
    let s = same_ok e p.executed p.last after p.whole p.entries (known old) q.executed q.last after q.whole q.entries (is ∙ answers_are_pages p.from old after) in
    let same = same_page p q (sym (from_is p.from old after)) s.executed s.last_is s.whole_is s.entries in
    let at = same ∙ ap (λ z. answer_page p.from old z) t.place in
    subst (λ z. AreParts k0 logs (pages ++ z ∷ [])) (sym at)
    (pages_go_on k0 n logs pages p.from old fit parts (earlier, sym s.epoch ∙ t.epoch, frozen) not_whole (subst (λ (z : LogPage). IsTrue (nat_lt 0 (length z.entries) || z.whole)) at t.some))
