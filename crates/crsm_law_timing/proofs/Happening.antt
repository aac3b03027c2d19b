-- A timeline of two replicas: the origin's clock is ahead, so that the other waits for its own.
use Rattle.std.proofs.Common.{◌≡◌, ◌≢◌, ℕ, zero, suc, ◌+◌, ◌<◌, ◌≤◌, List, [], ◌∷◌, ◌++◌, refl, sym, ◌∙◌, ap, subst, inl, inr, Bool, true, false, cond, arith, append_assoc}
use Rattle.std.specs.Prelude.{Some, None, slice_get, ◌==◌, ◌&&◌}
use Rattle.std.specs.Option.{option_map_or}
use Rattle.std.proofs.lemmas.List.{append-nil}
use Rattle.std.proofs.lemmas.Option.{none-some, same_Some}
use Rattle.crsm_spec.specs.Lists.{Among}
use Rattle.crsm_spec.specs.Types.{Stamp, Op, Entry, InEpoch, Datagram}
use Rattle.crsm_spec.specs.Acts.{Single}
use Rattle.crsm_spec_plan.specs.declared.Plan.{Plan}
use Rattle.crsm_spec_plan.specs.declared.Offset.{Offset}
use Rattle.crsm_spec_plan.specs.declared.Delay.{Delay}
use Rattle.crsm_spec_plan.specs.Plans.{FitsPlan, delay_of, offset_of, reading, stamped, arrival, most_moment, most_delay}
use Rattle.crsm_spec_plan.specs.Timelines.{Timed, Sent, sent, sent_from, the_command, request, tick, delivery, IsDue, Precedes, InOrder}
use Rattle.crsm_law_timing.proofs.Opened.{the_model}
use Rattle.crsm_law_timing.specs.Commits.{WaitsForClock}

-- ---- causes, event by event

AllCaused : Plan → List Timed → List Timed → Type 0
AllCaused plan before [] = Unit {0}
AllCaused plan before (e ∷ after) = IsDue plan before e × AllCaused plan (before ++ e ∷ []) after

head_same : (e f : Timed) (xs ys : List Timed) → (e ∷ xs) ≡ (f ∷ ys) → e ≡ f
head_same e f xs ys q = cc

tail_same : (e f : Timed) (xs ys : List Timed) → (e ∷ xs) ≡ (f ∷ ys) → xs ≡ ys
tail_same e f xs ys q = cc

never_nil : (e : Timed) (xs : List Timed) → [] ≡ e ∷ xs → ⊥
never_nil e xs q = cc

caused_from : (plan : Plan) (before rest : List Timed) → AllCaused plan before rest → (prefix after : List Timed) (e : Timed) → rest ≡ prefix ++ e ∷ after → IsDue plan (before ++ prefix) e
unfolding AllCaused
caused_from plan before [] c [] after e q = absurd (never_nil e after q)
caused_from plan before [] c (f ∷ prefix) after e q = absurd (never_nil f (prefix ++ e ∷ after) q)
caused_from plan before (g ∷ rest) c [] after e q = subst (λ l. IsDue plan l e) (sym (append-nil before)) (subst (IsDue plan before) (head_same g e rest after q) c.0)
caused_from plan before (g ∷ rest) c (f ∷ prefix) after e q =
    let h = head_same g f rest (prefix ++ e ∷ after) q in
    subst (λ l. IsDue plan l e) (append_assoc before (f ∷ []) prefix)
    (caused_from plan (before ++ f ∷ []) rest (subst (λ z. AllCaused plan (before ++ z ∷ []) rest) h c.1) prefix after e (tail_same g f rest (prefix ++ e ∷ after) q))

-- ---- the plan and its events

abbrev slow : Plan
slow = record { n = 2; offsets = record { replica = 0; by = 100 } ∷ []; delays = record { from = 0; to = 1; by = 5 } ∷ []; origin = 0; at = 50 }

abbrev sent_as : (moment from to : ℕ) → Datagram → Sent
sent_as moment from to d = record { moment = moment; packet = record { from = from; to = to; datagram = d; used = false } }

abbrev stamp : Stamp
stamp = record { time = 150; origin = 0 }

abbrev entry : Entry
entry = record { epoch = 0; stamp = stamp; command = record { client = 7; number = 1; op = Op.Put (97 ∷ []) (98 ∷ []) } }

abbrev letters : List Sent
letters =
    sent_as 50 0 1 (Datagram.Frame 0 1 0 0 (InEpoch.Prepare entry))
    ∷ sent_as 55 1 0 (Datagram.Ack 1 0 0 1)
    ∷ sent_as 151 1 0 (Datagram.Frame 1 0 0 0 (InEpoch.PrepareOk stamp 151))
    ∷ sent_as 151 0 1 (Datagram.Ack 0 1 0 1)
    ∷ []

abbrev events : List Timed
events =
    record { moment = 50; does = Single.Request 0 150 (record { client = 7; number = 1; op = Op.Put (97 ∷ []) (98 ∷ []) }) }
    ∷ record { moment = 55; does = Single.Go 0 55 }
    ∷ record { moment = 55; does = Single.Go 1 155 }
    ∷ record { moment = 151; does = Single.Tick 1 151 }
    ∷ record { moment = 151; does = Single.Go 2 251 }
    ∷ record { moment = 156; does = Single.Go 3 156 }
    ∷ []

all_letters : sent slow events ≡ letters
unfolding the_model sent sent_from
all_letters = refl

-- ---- it is a timeline

fits : FitsPlan slow
unfolding delay_of offset_of stamped reading
fits = record {
  some = omega arith;
  most = omega arith;
  origin = omega arith;
  at = omega arith;
  offsets = λ k. ahead (0 == k);
  delays = λ a b. takes (a == b) (0 == a && 1 == b);
  reads = omega arith;
}
  where
    ahead : (b : Bool) → option_map_or (λ (o : Offset). o.by) (cond b (Some (record { replica = 0; by = 100 })) None) 0 ≤ most_moment
    ahead true = omega arith
    ahead false = omega arith

    takes : (b c : Bool) → cond b 0 (option_map_or (λ (d : Delay). d.by) (cond c (Some (record { from = 0; to = 1; by = 5 })) None) 0) ≤ most_delay
    takes true c = omega arith
    takes false true = omega arith
    takes false false = omega arith

causes : AllCaused slow [] events
unfolding AllCaused the_model sent sent_from delay_of offset_of reading stamped arrival request tick delivery the_command
causes = (
  IsDue.Comes,
  (
    IsDue.Arrives 0 (sent_as 50 0 1 (Datagram.Frame 0 1 0 0 (InEpoch.Prepare entry))) refl,
    (
      IsDue.Arrives 1 (sent_as 55 1 0 (Datagram.Ack 1 0 0 1)) refl,
      (
        IsDue.Ticks 1 151 (omega arith) (λ q. absurd (omega (arith, q))) refl (omega arith),
        (
          IsDue.Arrives 2 (sent_as 151 1 0 (Datagram.Frame 1 0 0 0 (InEpoch.PrepareOk stamp 151))) refl,
          (
            IsDue.Arrives 3 (sent_as 151 0 1 (Datagram.Ack 0 1 0 1)) refl,
            tt,
          ),
        ),
      ),
    ),
  ),
)

sooner : (e f : Timed) → e.moment < f.moment → Precedes e f
sooner e f lt = inl lt

ordered : InOrder events
ordered = (
  (inl (omega arith), (inl (omega arith), (inl (omega arith), (inl (omega arith), (inl (omega arith), tt))))),
  (
    (inr (refl, omega arith), (inl (omega arith), (inl (omega arith), (inl (omega arith), tt)))),
    (
      (inl (omega arith), (inl (omega arith), (inl (omega arith), tt))),
      (
        (inr (refl, tt), (inl (omega arith), tt)),
        (
          (inl (omega arith), tt),
          (
            tt,
            tt,
          ),
        ),
      ),
    ),
  ),
)

delivered : (i : ℕ) (s : Sent) → slice_get letters i ≡ Some s → Among events (delivery slow i s)
unfolding delivery delay_of reading offset_of
delivered zero s g = subst (λ z. Among events (delivery slow 0 z)) (same_Some _ s g) (inr (inl refl))
delivered (suc zero) s g = subst (λ z. Among events (delivery slow 1 z)) (same_Some _ s g) (inr (inr (inl refl)))
delivered (suc (suc zero)) s g = subst (λ z. Among events (delivery slow 2 z)) (same_Some _ s g) (inr (inr (inr (inr (inl refl)))))
delivered (suc (suc (suc zero))) s g = subst (λ z. Among events (delivery slow 3 z)) (same_Some _ s g) (inr (inr (inr (inr (inr (inl refl))))))
delivered (suc (suc (suc (suc i)))) s g = absurd (none-some s g)

ticked : (k moment : ℕ) → k ≡ 1 → reading slow k moment ≡ stamped slow + 1 → Among events (tick slow k moment)
unfolding tick reading stamped offset_of
ticked k moment e reads =
    let r : moment + 0 ≡ 151 = subst (λ j. reading slow j moment ≡ 151) e reads in
    let m : moment ≡ 151 = omega (arith, r) in
    subst (λ j. Among events (tick slow j moment)) (sym e) (subst (λ n. Among events (tick slow 1 n)) (sym m) (inr (inr (inr (inl refl)))))

comes : Among events (request slow)
unfolding request stamped reading offset_of the_command
comes = inl refl

complete : (f : Timed) → IsDue slow events f → Among events f
complete f IsDue.Comes = comes
complete f (IsDue.Ticks k moment lt ne reads late) = ticked k moment (one k lt ne) reads
  where
    one : (k : ℕ) → k < 2 → k ≢ 0 → k ≡ 1
    one zero lt ne = absurd (ne refl)
    one (suc zero) lt ne = refl
    one (suc (suc k)) lt ne = absurd (omega (arith, lt))
complete f (IsDue.Arrives i s g) = delivered i s (sym (ap (λ l. slice_get l i) all_letters) ∙ g)

waits : Among events (tick slow 1 151)
unfolding tick reading offset_of
waits = inr (inr (inr (inl refl)))

pub timelines_happen : WaitsForClock
timelines_happen = record {
  plan = slow;
  events = events;
  fits = fits;
  timeline = record {
    caused = λ before after e q. caused_from slow [] events causes before after e q;
    complete = complete;
    ordered = ordered;
  };
  replica = 1;
  moment = 151;
  waits = waits;
}
