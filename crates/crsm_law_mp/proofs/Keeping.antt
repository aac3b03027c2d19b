-- A moment keeps the invariant of a run.
use Rattle.std.proofs.Common.{◌≡◌, ℕ, ◌+◌, ◌<◌, ◌≤◌, ◌⊎◌, Bool, true, false, List, [], ◌∷◌, ◌++◌, map, length, take, arith, inl, inr, refl, sym, subst, ap, ◌∙◌, Option, Some, None, length-append}
use Rattle.std.specs.List.{Contains, slice_get, flat_map, enumerate_from}
use Rattle.std.proofs.lemmas.List.{length-map}
use Rattle.std.proofs.lemmas.List.Elements.{Contains-append_left, Contains-append_right, Contains-append_cases, Contains-push, Contains-push_cases}
use Rattle.crsm_spec.specs.Acts.{Act}
use Rattle.crsm_spec.specs.Safe.{command_of}
use Rattle.crsm_spec.specs.Choice.{when◌then◌otherwise◌}
use Rattle.crsm_spec.specs.Lists.{numbers_below}
use Rattle.crsm_safety.proofs.Paxos.Instances.{proposed}
use Rattle.crsm_safety.proofs.Paxos.Basics.{got}
use Rattle.crsm_mpspec.specs.declared.MpLine.{MpLine}
use Rattle.crsm_mpspec.specs.Types.{Command, Answer, Value}
use Rattle.crsm_mpspec.specs.Log.{at_slot, choices, chosen_at, executed}
use Rattle.crsm_mpspec.specs.Values.{answer_after, is_command}
use Rattle.crsm_mpspec.specs.Replica.{Replica, Waiting}
use Rattle.crsm_mpspec.specs.Draft.{Draft}
use Rattle.crsm_mpspec.specs.Step.{reply_line}
use Rattle.std.specs.Option.{option_map_or}
use Rattle.crsm_mpspec.specs.World.{Site, World, Moment, log_of, log_at}
use Rattle.crsm_mpspec.specs.Run.{TraceLine, traced}
use Rattle.crsm_mpspec.specs.Safe.{WasSubmitted}
use Rattle.crsm_law_mp.specs.Slots.{Past}
use Rattle.crsm_law_mp.proofs.Agree.{invariant}
use Rattle.crsm_law_mp.specs.Seats.{IsSound}
use Rattle.crsm_law_mp.specs.Happenings.{Happens, IsNext}
use Rattle.crsm_law_mp.proofs.Telling.{executed_chosen, in_flat_map, in_enumerate}
use Rattle.crsm_law_mp.proofs.Worlds.{sound_more, seat_chosen, is_replica}
use Rattle.crsm_law_mp.proofs.Moments.{keeps}
use Rattle.crsm_law_mp.specs.Kept.{IsList, IsEarlier, IsRightLine, Kept}
use Rattle.crsm_law_mp.proofs.Told.{IsRight, Lawful}
use Rattle.crsm_law_mp.proofs.Replying.{IsAnswer, command_is, command_is_not}
use Rattle.crsm_law_mp.proofs.Places.{none_some, get_left, get_right, get_cases, place_of, get_within, get_map, map_get, in_enumerated, in_flat, was_more, earlier_more, right_more}

-- a line that says nothing that could be wrong, and is not of a submission
abbrev pub IsQuiet : MpLine → Type 0
IsQuiet (MpLine.Send i from to kind) = Unit {0}
IsQuiet (MpLine.Down k) = Unit {0}
IsQuiet (MpLine.ReplyNo k client number code) = Unit {0}
IsQuiet _ = ⊥

-- a command that a replica knows was submitted
pub known_submitted : (n : ℕ) (past : Past) (w : World) → IsSound n past w → (k s : ℕ) (d : Command) → chosen_at s (log_at w k) ≡ Some (Some d) → Contains past.submitted d
known_submitted n past w sound k s d is =
    let chosen = sound.holds.chosen s k (Some d) (seat_chosen w k s ∙ is) in
    sound.holds.owned s (record { ballot = chosen.ballot; value = Some d }) d
    (proposed Value (numbers_below n) (sound.slots s) (invariant (numbers_below n) (sound.slots s) (sound.holds.reached s)) (Some d) chosen) refl

-- ---- all that is executed in a world

all_known : ℕ → World → List (ℕ × Value)
all_known n v = flat_map (λ k. enumerate_from 0 (executed (log_at v k))) (numbers_below n)

known_chosen : (n : ℕ) (v : World) (s : ℕ) (u : Value) → Contains (all_known n v) (s, u) → (k : ℕ) × (chosen_at s (log_at v k) ≡ Some u)
unfolding all_known
known_chosen n v s u c =
    let (k, member, here) = in_flat_map (λ k. enumerate_from 0 (executed (log_at v k))) (numbers_below n) (s, u) c in
    let (i, at, is) = in_enumerate 0 (executed (log_at v k)) (s, u) here in
    let same : i ≡ s = omega arith in
    (k, executed_chosen (log_at v k) s u (subst (λ j. slice_get (executed (log_at v k)) j ≡ Some u) same is))

no_log : (s : ℕ) (u : Value) → slice_get (executed []) s ≡ Some u → ⊥
unfolding chosen_at at_slot choices
no_log s u e = none_chosen (executed_chosen [] s u e)
  where
    none_chosen : chosen_at s [] ≡ Some u → ⊥
    none_chosen e = none_some u e

executed_known : (n : ℕ) (v : World) → length v.sites ≡ n → (k s : ℕ) (u : Value) → slice_get (executed (log_at v k)) s ≡ Some u → Contains (all_known n v) (s, u)
unfolding all_known log_at
executed_known n v size k s u is = go (slice_get v.sites k) refl is
  where
    go : (o : Option Site) → slice_get v.sites k ≡ o → slice_get (executed (option_map_or log_of o [])) s ≡ Some u → Contains (all_known n v) (s, u)
    go None e is = absurd (no_log s u is)
    go (Some site) e is =
        in_flat (λ j. enumerate_from 0 (executed (option_map_or log_of (slice_get v.sites j) []))) (numbers_below n) k (s, u)
        (is_replica n k (subst (λ l. k < l) size (get_within v.sites k site e)))
        (subst (λ o. Contains (enumerate_from 0 (executed (option_map_or log_of o []))) (s, u)) (sym e)
        (let at : 0 + s ≡ s = omega arith in subst (λ j. Contains (enumerate_from 0 (executed (log_of site))) (j, u)) at (in_enumerated 0 (executed (log_of site)) s u is)))

-- a reply is no submission
not_submit : (t : Bool) (k client number slot : ℕ) (b : Answer) (k' s round by client' number' : ℕ) →
    (when t then MpLine.ReplyOk k client number slot b otherwise MpLine.ReplyDropped k client number slot) ≡ MpLine.Submit k' s round by client' number' → ⊥
unfolding when◌then◌otherwise◌
not_submit true k client number slot b k' s round by client' number' e = cc
not_submit false k client number slot b k' s round by client' number' e = cc

module _ (n : ℕ) (lines : List TraceLine) (worlds : List World) (w : World) (kept : Kept n lines worlds w) (a : Act) (m : Moment) (h : Happens w (command_of (Some a)) m) where
  -- the lines of the moment, and the run with it
  new : List TraceLine
  new = map (traced (Some a)) m.lines

  abbrev pub run : List TraceLine
  run = lines ++ map (traced (Some a)) m.lines

  abbrev pub after : List World
  after = worlds ++ m.after ∷ []

  length-run : length run ≡ length lines + length m.lines
  length-run = length-append lines (map (traced (Some a)) m.lines) ∙ ap (λ l. length lines + l) (length-map m.lines (traced (Some a)))

  -- a line of the moment in the run
  in_run : (j : ℕ) (line : MpLine) → slice_get m.lines j ≡ Some line → slice_get run (length lines + j) ≡ Some (record { by = Some a; line = line })
  unfolding traced
  in_run j line e = get_right lines (map (traced (Some a)) m.lines) j (record { by = Some a; line = line }) (map_get (traced (Some a)) m.lines j line e)

  next : (more : Past) × IsSound n more m.after × IsNext kept.past more (command_of (Some a)) m.lines
  next = keeps n kept.past w (command_of (Some a)) m kept.sound h

  past' : Past
  past' = record { submitted = next.0.submitted; known = next.0.known ++ all_known n m.after }

  sound' : IsSound n past' m.after
  unfolding past'
  sound' = sound_more n next.0 past' m.after (record {
    submitted = λ c there. there;
    known = λ s u c. elim (Contains-append_cases next.0.known (all_known n m.after) (s, u) c) [
      | inl old ↦ inl old
      | inr new ↦ inr (known_chosen n m.after s u new)
    ];
  }) next.1

  known' : (es : List Value) → IsList after es → (s : ℕ) (u : Value) → slice_get es s ≡ Some u → Contains past'.known (s, u)
  unfolding past'
  known' es l s u is =
      elim (Contains-push_cases worlds m.after l.world l.of) [
        | inl old ↦
            let before : Contains kept.past.known (s, u) = kept.known es (record { world = l.world; of = old; replica = l.replica; below = l.below; is = l.is }) s u is in
            Contains-append_left next.0.known _ _ (subst (λ z. Contains z (s, u)) (sym next.2.known) before)
        | inr now ↦
            let here : slice_get (executed (log_at m.after l.replica)) s ≡ Some u = subst (λ z. slice_get (executed (log_at z l.replica)) s ≡ Some u) (sym now) (subst (λ z. slice_get z s ≡ Some u) l.is is) in
            Contains-append_right next.0.known (all_known n m.after) (s, u) (executed_known n m.after next.1.places l.replica s u here)
      ]

  submitted' : (c : Command) → Contains past'.submitted c → IsEarlier run (length run) c
  unfolding past'
  submitted' c there =
      elim (next.2.submitted c there) [
        | inl old ↦ earlier_more lines (map (traced (Some a)) m.lines) (length lines) (length run) c (let l = length-run in omega arith) (kept.submitted c old)
        | inr told ↦
            let (j, less, e) = place_of m.lines _ told.1.told in
            record {
              line = length lines + j;
              before = let l = length-run in omega arith;
              replica = told.1.replica;
              slot = told.1.slot;
              submitted = (Some a, told.1.round, told.1.replica, told.0, in_run j _ e);
            }
      ]

  -- it is enough to look at who waits and at the new lines
  pub goes_on : ((k : ℕ) (r : Replica) → slice_get m.after.sites k ≡ Some (Site.Up r) → (wt : Waiting) → Contains r.waiting wt →
      WasSubmitted run (length run) k wt.slot wt.command.client wt.command.number wt.command) →
      ((j : ℕ) (line : MpLine) → slice_get m.lines j ≡ Some line → IsRightLine run after (length lines + j) line) → Kept n run after m.after
  unfolding traced
  goes_on waits right = record {
    past = past';
    sound = sound';
    sizes = λ v c. elim (Contains-push_cases worlds m.after v c) [ inl old ↦ kept.sizes v old | inr now ↦ subst (λ z. length z.sites ≡ n) now next.1.places ];
    known = known';
    submitted = submitted';
    waits = waits;
    right = λ i t e. elim (get_cases lines (map (traced (Some a)) m.lines) i t e) [
      | inl old ↦ right_more lines (map (traced (Some a)) m.lines) worlds (m.after ∷ []) i t.line (kept.right i t old)
      | inr later ↦
          let (line, at, is) = get_map (traced (Some a)) m.lines later.0 t later.2 in
          subst (λ z. IsRightLine run after i z.line) is (subst (λ z. IsRightLine run after z line) (sym later.1) (right later.0 line at))
    ];
  }

  quiet_right : (i : ℕ) (line : MpLine) → IsQuiet line → IsRightLine run after i line
  quiet_right i (MpLine.Send j from to kind) q = tt
  quiet_right i (MpLine.Down k) q = tt
  quiet_right i (MpLine.ReplyNo k client number code) q = tt
  quiet_right i (MpLine.Exec _ _ _ _ _) q = absurd q
  quiet_right i (MpLine.ExecNoop _ _) q = absurd q
  quiet_right i (MpLine.ReplyOk _ _ _ _ _) q = absurd q
  quiet_right i (MpLine.ReplyDropped _ _ _ _) q = absurd q
  quiet_right i (MpLine.Boot _ _) q = absurd q
  quiet_right i (MpLine.Submit _ _ _ _ _ _) q = absurd q
  quiet_right i (MpLine.Accept _ _ _ _) q = absurd q
  quiet_right i (MpLine.Promise _ _ _) q = absurd q
  quiet_right i (MpLine.Choose _ _) q = absurd q
  quiet_right i (MpLine.Final _ _ _) q = absurd q

  -- who waited before was told
  waited : (k : ℕ) (r : Replica) → slice_get w.sites k ≡ Some (Site.Up r) → (wt : Waiting) → Contains r.waiting wt → (i : ℕ) → length lines ≤ i →
      WasSubmitted run i k wt.slot wt.command.client wt.command.number wt.command
  waited k r is wt c i more = was_more lines (map (traced (Some a)) m.lines) (length lines) i k wt.slot wt.command.client wt.command.number wt.command more (kept.waits k r is wt c)

  -- a moment at which no replica steps
  pub plain : ((line : MpLine) → Contains m.lines line → IsQuiet line) → ((k : ℕ) (r : Replica) → slice_get m.after.sites k ≡ Some (Site.Up r) → slice_get w.sites k ≡ Some (Site.Up r)) →
      Kept n run after m.after
  plain quiet ups =
      goes_on (λ k r is wt c. waited k r (ups k r is) wt c (length run) (let l = length-run in omega arith))
      (λ j line e. quiet_right (length lines + j) line (quiet line (got m.lines j line e)))

  -- ---- a replica steps

  -- What a moment tells and leaves at which replica k makes the step y: the lines of its records, and then others.
  pub record IsStep (k : ℕ) (r : Replica) (y : Draft) : Type 0 where
    pub mine : r.me ≡ k
    pub lawful : Lawful r (command_of (Some a)) y
    pub others : List MpLine
    pub tells : m.lines ≡ y.lines ++ others
    pub quiet : (line : MpLine) → Contains others line → IsQuiet line ⊎ IsAnswer y line
    pub below : k < length m.after.sites
    pub log : log_at m.after k ≡ y.replica.log
    pub olds : (wt : Waiting) → Contains r.waiting wt → slice_get w.sites k ≡ Some (Site.Up r)
    pub ups : (j : ℕ) (q : Replica) → slice_get m.after.sites j ≡ Some (Site.Up q) →
        (slice_get w.sites j ≡ Some (Site.Up q)) ⊎ ((j ≡ k) × ((wt : Waiting) → Contains q.waiting wt → Contains y.replica.waiting wt))

  module _ (k : ℕ) (r : Replica) (y : Draft) (st : IsStep k r y) where
    line_at : (j : ℕ) (line : MpLine) → slice_get m.lines j ≡ Some line → slice_get (y.lines ++ st.others) j ≡ Some line
    line_at j line e = subst (λ ls. slice_get ls j ≡ Some line) st.tells e

    record_at : (j : ℕ) (line : MpLine) → slice_get y.lines j ≡ Some line → slice_get m.lines j ≡ Some line
    record_at j line e = subst (λ ls. slice_get ls j ≡ Some line) (sym st.tells) (get_left y.lines st.others j line e)

    es : List Value
    es = executed y.replica.log

    listed : IsList after es
    unfolding es
    listed = record { world = m.after; of = Contains-push worlds m.after; replica = k; below = st.below; is = ap executed (sym st.log) }

    -- who waits was told before the replies
    told_at : (wt : Waiting) → Contains y.replica.waiting wt → (i : ℕ) → length lines + length y.lines ≤ i → WasSubmitted run i k wt.slot wt.command.client wt.command.number wt.command
    told_at wt c i more =
        elim (st.lawful.waits wt c) [
          | inl old ↦ waited k r (st.olds wt old) wt old i (omega arith)
          | inr told ↦
              let (j, less, e) = place_of y.lines _ told.1.2 in
              record {
                line = length lines + j;
                before = omega arith;
                submitted = (Some a, told.1.0, told.1.1, told.0, in_run j _ (record_at j _ (subst (λ z. slice_get y.lines j ≡ Some (MpLine.Submit z wt.slot told.1.0 told.1.1 wt.command.client wt.command.number)) st.mine e)));
                of_client = refl;
                of_number = refl;
              }
        ]

    no_submission : (line : MpLine) → IsQuiet line ⊎ IsAnswer y line → (k' s round by client number : ℕ) → line ≡ MpLine.Submit k' s round by client number → ⊥
    unfolding reply_line
    no_submission line q k' s round by client number is =
        elim q [
          | inl quiet ↦ subst IsQuiet is quiet
          | inr answer ↦ not_submit (is_command answer.waiting.command answer.value) _ _ _ _ _ k' s round by client number (sym answer.told ∙ is)
        ]

    -- each command up to a slot that is executed was submitted before the replies
    before_replies : (q : ℕ) (d : Command) → slice_get es q ≡ Some (Some d) → (i : ℕ) → length lines + length y.lines ≤ i → IsEarlier run i d
    unfolding es
    before_replies q d is i late =
        let known : chosen_at q (log_at m.after k) ≡ Some (Some d) = subst (λ log. chosen_at q log ≡ Some (Some d)) (sym st.log) (executed_chosen y.replica.log q (Some d) is) in
        elim (next.2.submitted d (known_submitted n next.0 m.after next.1 k q d known)) [
          | inl old ↦ earlier_more lines (map (traced (Some a)) m.lines) (length lines) i d (omega arith) (kept.submitted d old)
          | inr told ↦
              let (j, less, e) = place_of m.lines _ told.1.told in
              let here : j < length y.lines = elim (get_cases y.lines st.others j _ (line_at j _ e)) [
                | inl kept_here ↦ get_within y.lines j _ kept_here
                | inr other ↦ absurd (no_submission _ (st.quiet _ (got st.others other.0 _ other.2)) told.1.replica told.1.slot told.1.round told.1.replica d.client d.number refl)
              ] in
              record {
                line = length lines + j;
                before = omega arith;
                replica = told.1.replica;
                slot = told.1.slot;
                submitted = (Some a, told.1.round, told.1.replica, told.0, in_run j _ e);
              }
        ]

    -- a line of a record
    record_right : (i : ℕ) (line : MpLine) → IsRight es line → IsRightLine run after i line
    record_right i (MpLine.Exec p slot client number b) (c, (at, answer), of_client, of_number) = record {
      es = es;
      list = listed;
      command = c;
      at = at;
      answer = answer;
      of_client = of_client;
      of_number = of_number;
    }
    record_right i (MpLine.ExecNoop p slot) e = (es, listed, e)
    record_right i (MpLine.ReplyOk _ _ _ _ _) e = absurd e
    record_right i (MpLine.ReplyDropped _ _ _ _) e = absurd e
    record_right i (MpLine.Boot p count) e = tt
    record_right i (MpLine.Submit p slot round by client number) e = tt
    record_right i (MpLine.Accept p slot round by) e = tt
    record_right i (MpLine.Promise p round by) e = tt
    record_right i (MpLine.Choose p slot) e = tt
    record_right i (MpLine.Send j from to kind) e = tt
    record_right i (MpLine.ReplyNo p client number code) e = tt
    record_right i (MpLine.Down p) e = tt
    record_right i (MpLine.Final p up count) e = tt

    -- a reply
    reply_right : (i : ℕ) → length lines + length y.lines ≤ i → (wt : Waiting) → Contains y.replica.waiting wt → (v : Value) → slice_get es wt.slot ≡ Some v →
        IsRightLine run after i (reply_line k es wt v)
    unfolding reply_line when◌then◌otherwise◌
    reply_right i late wt c v is = go (is_command wt.command v) refl
      where
        go : (t : Bool) → is_command wt.command v ≡ t →
            IsRightLine run after i (when t then MpLine.ReplyOk k wt.command.client wt.command.number wt.slot (answer_after (take wt.slot es) wt.command)
            otherwise MpLine.ReplyDropped k wt.command.client wt.command.number wt.slot)
        go true e = record {
          answered = record {
            es = es;
            list = listed;
            command = wt.command;
            at = is ∙ ap (λ z. Some z) (command_is wt.command v e);
            answer = refl;
            of_client = refl;
            of_number = refl;
          };
          submitted = told_at wt c i late;
          earlier = λ q d low at. before_replies q d at i late;
        }
        go false e = record {
          es = es;
          list = listed;
          command = wt.command;
          value = v;
          at = is;
          other = command_is_not wt.command v e;
          submitted = told_at wt c i late;
        }

    other_right : (i : ℕ) → length lines + length y.lines ≤ i → (line : MpLine) → IsQuiet line ⊎ IsAnswer y line → IsRightLine run after i line
    unfolding es
    other_right i late line q =
        elim q [
          | inl quiet ↦ quiet_right i line quiet
          | inr answer ↦
              let mine : y.replica.me ≡ k = st.lawful.me ∙ st.mine in
              let here : IsRightLine run after i (reply_line k es answer.waiting answer.value) = reply_right i late answer.waiting answer.waited answer.value answer.there in
              subst (λ l. IsRightLine run after i l) (sym answer.told) (subst (λ p. IsRightLine run after i (reply_line p es answer.waiting answer.value)) (sym mine) here)
        ]

    -- a step keeps what holds
    pub stepped : Kept n run after m.after
    unfolding es
    stepped =
        goes_on
        (λ j q is wt c. elim (st.ups j q is) [
          | inl old ↦ waited j q old wt c (length run) (let l = length-run in omega arith)
          | inr mine ↦ subst (λ p. WasSubmitted run (length run) p wt.slot wt.command.client wt.command.number wt.command) (sym mine.0)
              (told_at wt (mine.1 wt c) (length run) (let l = length-run in let t = ap length st.tells in let s = length-append y.lines st.others in omega arith))
        ])
        (λ j line e. elim (get_cases y.lines st.others j line (line_at j line e)) [
          | inl here ↦ record_right (length lines + j) line (st.lawful.lines line (got y.lines j line here))
          | inr other ↦ other_right (length lines + j) (let o = other.1 in omega arith) line (st.quiet line (got st.others other.0 line other.2))
        ])
