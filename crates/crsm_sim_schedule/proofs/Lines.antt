-- A text as whole lines: which of them can follow, and which are refused.
use Rattle.std.proofs.Common.{◌≡◌, ℕ, ◌<◌, List, [], ◌∷◌, ◌++◌, Option, Some, None, map, length, refl, ap, sym, ◌∙◌, subst, arith, append_assoc}
use Rattle.std.specs.List.{AllByRecursion, flat_map}
use Rattle.std.proofs.lemmas.List.{length-map}
use Rattle.crsm_schedule.specs.declared.Event.{Event}
use Rattle.crsm_text.specs.Words.{Lacks}
use Rattle.crsm_text.proofs.WordsLemmas.{split_unique, lacks_not}
use Rattle.crsm_schedule.specs.Grammar.{IsSize, FitsEvent, first_text, event_text}
use Rattle.crsm_law_texts.specs.Texts.{EventsHaveOneText, FirstLinesHaveOneText, EventsAreLines, FirstLinesAreLines}
use Rattle.crsm_sim_schedule.specs.Rules.{Rules, AreExact}
use Rattle.crsm_sim_schedule.specs.Schedules.{Schedule, FitsSchedule, SchedulesAreOne, ended, schedule_text, line_count}
use Rattle.crsm_sim_schedule.specs.State.{read_text, lines_read, IsGood, count_of}
use Rattle.crsm_sim_schedule.specs.Refused.{RefusedNext, unreadable_next, impossible_next, Refused}
use Rattle.crsm_sim_schedule.specs.declared.cause.Cause.{Cause}

-- what is known of the texts of events and of first lines
pub record TextLaws : Type 0 where
  pub events : EventsHaveOneText
  pub first : FirstLinesHaveOneText
  pub event_lines : EventsAreLines
  pub first_lines : FirstLinesAreLines

-- ---- constructors

pub heads_same : {A : Type 0} (x y : A) (xs ys : List A) → x ∷ xs ≡ y ∷ ys → x ≡ y
heads_same x y xs ys e = cc

pub tails_same : {A : Type 0} (x y : A) (xs ys : List A) → x ∷ xs ≡ y ∷ ys → xs ≡ ys
tails_same x y xs ys e = cc

pub nil_not_cons : {A : Type 0} (x : A) (xs : List A) → [] ≡ x ∷ xs → ⊥
nil_not_cons x xs e = cc

pub some_same : {A : Type 0} (x y : A) → Some x ≡ Some y → x ≡ y
some_same x y e = cc

pub none_not_some : {A : Type 0} (x : A) → None ≡ Some x → ⊥
none_not_some x e = cc

-- ---- lines of a text

flat_map-map : (es : List Event) → flat_map (λ e. ended (event_text e)) es ≡ flat_map ended (map event_text es)
flat_map-map [] = refl
flat_map-map (e ∷ es) = ap (λ ys. ended (event_text e) ++ ys) (flat_map-map es)

pub read_is : (r : Option Schedule) → read_text r ≡ flat_map ended (lines_read r)
unfolding schedule_text
read_is None = refl
read_is (Some s) = ap (λ ys. ended (first_text s.replicas) ++ ys) (flat_map-map s.events)

pub count_lines : (r : Option Schedule) → count_of r ≡ length (lines_read r)
unfolding line_count
count_lines None = refl
count_lines (Some s) = let e = length-map s.events event_text in omega (arith, e)

events_lack : TextLaws → (es : List Event) → AllByRecursion FitsEvent es → AllByRecursion (Lacks 10) (map event_text es)
events_lack laws [] p = tt
events_lack laws (e ∷ es) p = ((laws.event_lines e p.0).0, events_lack laws es p.1)

-- ---- what comes next in a schedule

pub record GoodFirst (k : List ℕ) : Type 0 where
  pub replicas : ℕ
  pub size : IsSize replicas
  pub text : k ≡ first_text replicas

-- the line is an event that follows in a schedule that can be run
pub record GoodEvent (rules : Rules) (s : Schedule) (k : List ℕ) : Type 0 where
  pub next : Schedule
  pub can_run : rules.can_run next
  pub event : Event
  pub fits : FitsEvent event
  pub text : k ≡ event_text event
  pub more : List Event
  pub replicas_are : next.replicas ≡ s.replicas
  pub events_are : next.events ≡ s.events ++ event ∷ more

abbrev pub GoodNext : Rules → Option Schedule → List ℕ → Type 0
GoodNext rules None k = GoodFirst k
GoodNext rules (Some s) k = GoodEvent rules s k

-- of two lists of events with one text as far as one of them goes, one continues the other
record Continues (fs es : List Event) (k : List ℕ) : Type 0 where
  event : Event
  fits : FitsEvent event
  text : k ≡ event_text event
  more : List Event
  is : es ≡ fs ++ event ∷ more

continues : TextLaws → (fs es : List Event) (k : List ℕ) (ks : List (List ℕ)) → AllByRecursion FitsEvent fs → AllByRecursion FitsEvent es
    → map event_text es ≡ map event_text fs ++ k ∷ ks → Continues fs es k
continues laws [] [] k ks f g same = absurd (nil_not_cons k ks same)
continues laws [] (e ∷ es) k ks f g same =
    record { event = e; fits = g.0; text = sym (heads_same (event_text e) k (map event_text es) ks same); more = es; is = refl }
continues laws (x ∷ fs) [] k ks f g same = absurd (nil_not_cons (event_text x) (map event_text fs ++ k ∷ ks) same)
continues laws (x ∷ fs) (e ∷ es) k ks f g same =
    let here = heads_same (event_text e) (event_text x) (map event_text es) (map event_text fs ++ k ∷ ks) same in
    let tails = tails_same (event_text e) (event_text x) (map event_text es) (map event_text fs ++ k ∷ ks) same in
    let one : e ≡ x = laws.events e x g.0 f.0 here in
    let rest = continues laws fs es k ks f.1 g.1 tails in
    record {
      event = rest.event;
      fits = rest.fits;
      text = rest.text;
      more = rest.more;
      is = ap (λ y. y ∷ es) one ∙ ap (λ ys. x ∷ ys) rest.is;
    }

next_good : TextLaws → (rules : Rules) → AreExact rules → (r : Option Schedule) (s : Schedule) (k : List ℕ) (ks : List (List ℕ)) → IsGood rules r → rules.can_run s
    → lines_read (Some s) ≡ lines_read r ++ k ∷ ks → GoodNext rules r k
next_good laws rules exactly None s k ks good runs same =
    record { replicas = s.replicas; size = (exactly.fits s runs).size; text = sym (heads_same (first_text s.replicas) k (map event_text s.events) ks same) }
next_good laws rules exactly (Some q) s k ks good runs same =
    let here = heads_same (first_text s.replicas) (first_text q.replicas) (map event_text s.events) (map event_text q.events ++ k ∷ ks) same in
    let tails = tails_same (first_text s.replicas) (first_text q.replicas) (map event_text s.events) (map event_text q.events ++ k ∷ ks) same in
    let fits = exactly.fits s runs in
    let before = exactly.fits q good in
    let c = continues laws q.events s.events k ks before.fit fits.fit tails in
    record {
      next = s;
      can_run = runs;
      event = c.event;
      fits = c.fits;
      text = c.text;
      more = c.more;
      replicas_are = laws.first s.replicas q.replicas fits.size before.size here;
      events_are = c.is;
    }

-- what was read, where it has as many lines as another schedule and more
pub next_read : TextLaws → (rules : Rules) → AreExact rules → (r s : Option Schedule) (k : List ℕ) (ks : List (List ℕ)) → IsGood rules r → IsGood rules s
    → lines_read r ≡ lines_read s ++ k ∷ ks → GoodNext rules s k
next_read laws rules exactly None None k ks p q same = absurd (nil_not_cons k ks same)
next_read laws rules exactly None (Some s) k ks p q same = absurd (nil_not_cons (first_text s.replicas) (map event_text s.events ++ k ∷ ks) same)
next_read laws rules exactly (Some r) s k ks p q same = next_good laws rules exactly s r k ks q p same

-- two schedules with one text are one
same_events : TextLaws → (fs es : List Event) → AllByRecursion FitsEvent fs → AllByRecursion FitsEvent es → map event_text es ≡ map event_text fs → es ≡ fs
same_events laws [] [] f g same = refl
same_events laws [] (e ∷ es) f g same = absurd (nil_not_cons (event_text e) (map event_text es) (sym same))
same_events laws (x ∷ fs) [] f g same = absurd (nil_not_cons (event_text x) (map event_text fs) same)
same_events laws (x ∷ fs) (e ∷ es) f g same =
    let here = heads_same (event_text e) (event_text x) (map event_text es) (map event_text fs) same in
    let tails = tails_same (event_text e) (event_text x) (map event_text es) (map event_text fs) same in
    let one : e ≡ x = laws.events e x g.0 f.0 here in
    let rest : es ≡ fs = same_events laws fs es f.1 g.1 tails in
    ap (λ y. y ∷ es) one ∙ ap (λ ys. x ∷ ys) rest

schedule_of : ℕ → List Event → Schedule
schedule_of n es = record { replicas = n; events = es }

schedule_same : (r s : Schedule) → r.replicas ≡ s.replicas → r.events ≡ s.events → r ≡ s
unfolding schedule_of
schedule_same r s a b = ap (λ n. schedule_of n r.events) a ∙ ap (λ es. schedule_of s.replicas es) b

-- two schedules with the same lines are one
same_lines : TextLaws → (r s : Schedule) → FitsSchedule r → FitsSchedule s → lines_read (Some r) ≡ lines_read (Some s) → r ≡ s
same_lines laws r s p q same =
    let here = heads_same (first_text r.replicas) (first_text s.replicas) (map event_text r.events) (map event_text s.events) same in
    let tails = tails_same (first_text r.replicas) (first_text s.replicas) (map event_text r.events) (map event_text s.events) same in
    let one : r.replicas ≡ s.replicas = laws.first r.replicas s.replicas p.size q.size here in
    let events : r.events ≡ s.events = same_events laws s.events r.events q.fit p.fit tails in
    schedule_same r s one events

pub same_read : TextLaws → (rules : Rules) → AreExact rules → (r s : Option Schedule) → IsGood rules r → IsGood rules s → lines_read r ≡ lines_read s → r ≡ s
same_read laws rules exactly None None p q same = refl
same_read laws rules exactly None (Some s) p q same = absurd (nil_not_cons (first_text s.replicas) (map event_text s.events) same)
same_read laws rules exactly (Some r) None p q same = absurd (nil_not_cons (first_text r.replicas) (map event_text r.events) (sym same))
same_read laws rules exactly (Some r) (Some s) p q same = ap (λ (x : Schedule). Some x) (same_lines laws r s (exactly.fits r p) (exactly.fits s q) same)

-- one text is cut into lines in one way
lines_told : (ls ms : List (List ℕ)) → AllByRecursion (Lacks 10) ls → AllByRecursion (Lacks 10) ms → flat_map ended ls ≡ flat_map ended ms → ls ≡ ms
lines_told [] [] p q e = refl
lines_told [] (m ∷ ms) p q e = absurd (lacks_not 10 [] m (flat_map ended ms) tt (e ∙ append_assoc m (10 ∷ []) (flat_map ended ms)))
lines_told (l ∷ ls) [] p q e = absurd (lacks_not 10 [] l (flat_map ended ls) tt (sym e ∙ append_assoc l (10 ∷ []) (flat_map ended ls)))
lines_told (l ∷ ls) (m ∷ ms) p q e =
    let cut = split_unique 10 l m (flat_map ended ls) (flat_map ended ms) p.0 q.0 (sym (append_assoc l (10 ∷ []) (flat_map ended ls)) ∙ e ∙ append_assoc m (10 ∷ []) (flat_map ended ms)) in
    ap (λ x. x ∷ ls) cut.0 ∙ ap (λ xs. m ∷ xs) (lines_told ls ms p.1 q.1 cut.1)

schedule_lacks : TextLaws → (s : Schedule) → FitsSchedule s → AllByRecursion (Lacks 10) (lines_read (Some s))
schedule_lacks laws s fits = ((laws.first_lines s.replicas fits.size).0, events_lack laws s.events fits.fit)

pub schedules_told : TextLaws → SchedulesAreOne
schedules_told laws r s fits gits same =
    same_lines laws r s fits gits
    (lines_told (lines_read (Some r)) (lines_read (Some s)) (schedule_lacks laws r fits) (schedule_lacks laws s gits) (sym (read_is (Some r)) ∙ same ∙ read_is (Some s)))

-- ---- what is refused

module _ (laws : TextLaws) (rules : Rules) (exactly : AreExact rules) where
  -- a good line is not refused
  good_event : (s : Schedule) (cause : Cause) (k : List ℕ) → GoodEvent rules s k → RefusedNext rules s cause k → ⊥
  good_event s cause k g (unreadable_next is none) = none g.event g.fits g.text
  good_event s cause k g (impossible_next i) =
      let one : i.event ≡ g.event = laws.events i.event g.event i.fits g.fits (sym i.text ∙ g.text) in
      exactly.none_refused s g.next g.event g.more cause g.can_run g.replicas_are g.events_are (subst (λ e. rules.refuses s e cause) one i.refused)

  pub good_not_refused : (r : Option Schedule) (cause : Cause) (k : List ℕ) → GoodNext rules r k → Refused rules r cause k → ⊥
  good_not_refused None cause k g refused = refused.1 g.replicas g.size g.text
  good_not_refused (Some s) cause k g refused = good_event s cause k g refused

  -- a line is refused for one cause
  one_next : (s : Schedule) (c d : Cause) (k : List ℕ) → RefusedNext rules s c k → RefusedNext rules s d k → c ≡ d
  one_next s c d k (unreadable_next p x) (unreadable_next q y) = p ∙ sym q
  one_next s c d k (unreadable_next p x) (impossible_next y) = absurd (x y.event y.fits y.text)
  one_next s c d k (impossible_next x) (unreadable_next q y) = absurd (y x.event x.fits x.text)
  one_next s c d k (impossible_next x) (impossible_next y) =
      let one : x.event ≡ y.event = laws.events x.event y.event x.fits y.fits (sym x.text ∙ y.text) in
      exactly.one_cause s y.event c d (subst (λ e. rules.refuses s e c) one x.refused) y.refused

  pub one_cause : (r : Option Schedule) (c d : Cause) (k : List ℕ) → Refused rules r c k → Refused rules r d k → c ≡ d
  one_cause None c d k p q = p.0 ∙ sym q.0
  one_cause (Some s) c d k p q = one_next s c d k p q

  -- a line that is too long is refused as unreadable
  pub long_unreadable : (r : Option Schedule) (c : Cause) (k : List ℕ) → Refused rules r c k → 16777216 < length k → c ≡ Cause.Unreadable
  long_unreadable None c k p long = p.0
  long_unreadable (Some s) c k (unreadable_next is x) long = is
  long_unreadable (Some s) c k (impossible_next x) long =
      let short = (laws.event_lines x.event x.fits).1 in
      let len : length k ≡ length (event_text x.event) = ap length x.text in
      absurd (omega (arith, short, len, long))
