-- Lists of upcoming events: one is inserted, and the datagrams reported by lines are looked at one after another.
use Rattle.std.proofs.Common.{◌≡◌, ℕ, zero, suc, ◌+◌, ◌<◌, ◌≤◌, List, [], ◌∷◌, ◌++◌, length, refl, sym, ◌∙◌, ap, subst, arith, map, take, drop, get_or}
use Rattle.std.specs.List.{AllByRecursion, insert}
use Rattle.std.proofs.lemmas.List.{map-append}
use Rattle.crsm_spec.specs.Types.{Line}
use Rattle.crsm_fact_log.proofs.Lists.{halves}
use Rattle.crsm_spec_plan.specs.declared.Plan.{Plan}
use Rattle.crsm_spec_plan.specs.Plans.{FitsPlan}
use Rattle.crsm_spec_plan.specs.Timelines.{Timed, Precedes}
use Rattle.crsm_law_pending.specs.Posts.{Post, post_of, posts}
use Rattle.crsm_law_pending.specs.Agendas.{IsAgenda, IsAhead, IsPut, LacksPosts, delivery_of}
use Rattle.crsm_law_pending.specs.Following.{AgendasGoOn}
use Rattle.crsm_delay.specs.Upcoming.{IsAheadOf, timed_of}
use Rattle.crsm_delay.specs.declared.upcoming.Upcoming.{Upcoming}

-- ---- one is put in

all_map : (P : Timed → Type 0) (us : List Upcoming) → AllByRecursion (λ u. P (timed_of u)) us → AllByRecursion P (map timed_of us)
all_map P [] h = tt
all_map P (u ∷ us) h = (h.0, all_map P us h.1)

ahead_map : (u : Upcoming) (us : List Upcoming) → IsAheadOf u us → IsAhead (timed_of u) (map timed_of us)
ahead_map u [] h = tt
ahead_map u (v ∷ vs) h = h

pub put_at : (u : Upcoming) (old seen new : List Upcoming) (place : ℕ) → seen ≡ old → new ≡ insert old place u → AllByRecursion (λ v. Precedes (timed_of u) (timed_of v) → ⊥) (take place seen) → IsAheadOf u (drop place seen) →
    IsPut (timed_of u) (map timed_of old) (map timed_of new)
put_at u old seen new place same is behind ahead = record {
  before = map timed_of (take place old);
  after = map timed_of (drop place old);
  old_is = ap (map timed_of) (halves old place) ∙ map-append timed_of (take place old) (drop place old);
  new_is = ap (map timed_of) is ∙ map-append timed_of (take place old) (u ∷ drop place old);
  behind = all_map (λ g. Precedes (timed_of u) g → ⊥) (take place old) (subst (λ l. AllByRecursion (λ v. Precedes (timed_of u) (timed_of v) → ⊥) (take place l)) same behind);
  ahead = ahead_map u (drop place old) (subst (λ l. IsAheadOf u (drop place l)) same ahead);
}

-- ---- one line after another

first_line : (l : Line) (ls : List Line) → posts (l ∷ ls) ≡ post_of l ++ posts ls
unfolding posts
first_line l ls = refl

one_line : (lines : List Line) (i : ℕ) (line : Line) → i < length lines → line ≡ get_or lines i line → posts (drop i lines) ≡ post_of line ++ posts (drop (i + 1) lines)
one_line [] i line lt e = absurd (omega (arith, lt))
one_line (l ∷ ls) zero line lt e = first_line l ls ∙ ap (λ (x : Line). post_of x ++ posts ls) (sym e)
one_line (l ∷ ls) (suc i) line lt e = one_line ls i line (omega (arith, lt)) e ∙ ap (λ n. post_of line ++ posts (drop n (l ∷ ls))) (later i)
  where
    later : (i : ℕ) → suc (i + 1) ≡ suc i + 1
    later i = omega arith

no_line : (lines : List Line) (i : ℕ) → length lines ≤ i → drop i lines ≡ []
no_line [] zero le = refl
no_line [] (suc i) le = refl
no_line (l ∷ ls) zero le = absurd (omega (arith, le))
no_line (l ∷ ls) (suc i) le = no_line ls i (omega (arith, le))

none_posted : posts [] ≡ []
unfolding posts
none_posted = refl

module _ (law : AgendasGoOn) (plan : Plan) (fit : FitsPlan plan) (es : List Timed) (moment : ℕ) (lines : List Line) (i : ℕ) where
  -- the line reports a datagram, whose delivery is inserted
  pub line_told : (line : Line) (p : Post) (f : Timed) (old new : List Timed) → i < length lines → line ≡ get_or lines i line → post_of line ≡ p ∷ [] → f ≡ delivery_of plan moment p → IsPut f old new →
      LacksPosts plan es old (posts (drop i lines)) moment → LacksPosts plan es new (posts (drop (i + 1) lines)) moment
  line_told line p f old new lt is tells f_is put h =
      law.put plan es old new p (posts (drop (i + 1) lines)) moment fit
      (subst (λ ps. LacksPosts plan es old ps moment) (one_line lines i line lt is ∙ ap (λ ps. ps ++ posts (drop (i + 1) lines)) tells) h)
      (subst (λ g. IsPut g old new) f_is put)

  -- it reports none
  pub line_silent : (line : Line) (old : List Timed) → i < length lines → line ≡ get_or lines i line → post_of line ≡ [] →
      LacksPosts plan es old (posts (drop i lines)) moment → LacksPosts plan es old (posts (drop (i + 1) lines)) moment
  line_silent line old lt is none h = subst (λ ps. LacksPosts plan es old ps moment) (one_line lines i line lt is ∙ ap (λ ps. ps ++ posts (drop (i + 1) lines)) none) h

  -- all lines were looked at
  pub lines_end : (pending : List Timed) → length lines ≤ i → LacksPosts plan es pending (posts (drop i lines)) moment → IsAgenda plan es pending
  lines_end pending le h = law.whole plan es pending moment (subst (λ ps. LacksPosts plan es pending ps moment) (ap posts (no_line lines i le) ∙ none_posted) h)
