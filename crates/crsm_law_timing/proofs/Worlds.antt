-- One more event of a timeline: the world after it, what it sends, and which replica executes.
use Rattle.std.proofs.Common.{◌≡◌, ℕ, zero, suc, List, [], ◌∷◌, ◌++◌, length, refl, sym, ◌∙◌, ap, true, map, drop, append_assoc}
use Rattle.std.specs.Prelude.{Some, filter, slice_get, slice_set}
use Rattle.std.specs.Option.{option_map_or}
use Rattle.std.proofs.lemmas.List.{append-nil}
use Rattle.crsm_spec.specs.Types.{Datagram, Line}
use Rattle.crsm_spec.specs.Replica.{Replica}
use Rattle.crsm_spec.specs.Draft.{Draft}
use Rattle.crsm_spec.specs.Step.{Input, step}
use Rattle.crsm_spec.specs.World.{Site, Packet, World, Moment, begin, whole_step}
use Rattle.crsm_spec.specs.Acts.{Single, Act}
use Rattle.crsm_spec.specs.Moments.{use_up, begun_at, step_at_site, step_at, come, single, moments_of, world_after, lines_of, act}
use Rattle.crsm_spec.specs.Run.{after_acts}
use Rattle.crsm_spec_plan.specs.declared.Plan.{Plan}
use Rattle.crsm_spec_plan.specs.Timelines.{Timed, Sent, acts_of, sent_from, sent, is_exec, exec_from, exec_moments}

-- the world after these events
unfoldable pub at : Plan → List Timed → World
at plan es = after_acts (begin plan.n) (acts_of es)

-- what an event comes to
unfoldable pub done : World → Timed → Moment
done w e = single whole_step w e.does

pub act_is : (w : World) (e : Timed) → (act w (Act.One e.does)).after ≡ (done w e).after
unfolding act moments_of world_after done
act_is w e = refl

lines_are : (w : World) (e : Timed) → (act w (Act.One e.does)).lines ≡ (done w e).lines
unfolding act moments_of lines_of done
lines_are w e = append-nil (single whole_step w e.does).lines

-- from a world on
go_on : (w : World) (es : List Timed) → World
go_on w es = after_acts w (acts_of es)

one_more : (w : World) (before : List Timed) (e : Timed) → after_acts w (acts_of (before ++ e ∷ [])) ≡ (done (after_acts w (acts_of before)) e).after
unfolding after_acts acts_of
one_more w [] e = act_is w e
one_more w (f ∷ fs) e = one_more (act w (Act.One f.does)).after fs e

pub at_more : (plan : Plan) (before : List Timed) (e : Timed) → at plan (before ++ e ∷ []) ≡ (done (at plan before) e).after
unfolding at
at_more plan before e = one_more (begin plan.n) before e

-- what an event sends
unfoldable pub sends_by : World → Timed → List Sent
sends_by w e = map (λ m. record { moment = e.moment; packet = m }) (drop (length w.packets) (done w e).after.packets)

sent_more_from : (w : World) (before : List Timed) (e : Timed) → sent_from w (before ++ e ∷ []) ≡ sent_from w before ++ sends_by (after_acts w (acts_of before)) e
unfolding sent_from after_acts acts_of sends_by
sent_more_from w [] e =
    append-nil (map (λ m. record { moment = e.moment; packet = m }) (drop (length w.packets) (act w (Act.One e.does)).after.packets))
    ∙ ap (λ (v : World). map (λ m. record { moment = e.moment; packet = m }) (drop (length w.packets) v.packets)) (act_is w e)
sent_more_from w (f ∷ fs) e =
    let v = (act w (Act.One f.does)).after in
    let here = map (λ m. record { moment = f.moment; packet = m }) (drop (length w.packets) v.packets) in
    ap (λ l. here ++ l) (sent_more_from v fs e) ∙ sym (append_assoc here (sent_from v fs) _)

pub sent_more : (plan : Plan) (before : List Timed) (e : Timed) → sent plan (before ++ e ∷ []) ≡ sent plan before ++ sends_by (at plan before) e
unfolding sent at
sent_more plan before e = sent_more_from (begin plan.n) before e

sent_split_from : (w : World) (before after : List Timed) → (more : List Sent) × (sent_from w (before ++ after) ≡ sent_from w before ++ more)
unfolding sent_from
sent_split_from w [] after = (sent_from w after, refl)
sent_split_from w (f ∷ fs) after =
    let v = (act w (Act.One f.does)).after in
    let here = map (λ m. record { moment = f.moment; packet = m }) (drop (length w.packets) v.packets) in
    let r = sent_split_from v fs after in
    (r.0, ap (λ l. here ++ l) r.1 ∙ sym (append_assoc here (sent_from v fs) r.0))

-- what is sent stays sent
pub sent_split : (plan : Plan) (before after : List Timed) → (more : List Sent) × (sent plan (before ++ after) ≡ sent plan before ++ more)
unfolding sent
sent_split plan before after = sent_split_from (begin plan.n) before after

-- who executes by an event
unfoldable pub execs_by : ℕ → World → Timed → List ℕ
execs_by i w e = map (λ l. e.moment) (filter (is_exec i) (done w e).lines)

execs_more_from : (i : ℕ) (w : World) (before : List Timed) (e : Timed) → exec_from i w (before ++ e ∷ []) ≡ exec_from i w before ++ execs_by i (after_acts w (acts_of before)) e
unfolding exec_from after_acts acts_of execs_by
execs_more_from i w [] e = append-nil (map (λ l. e.moment) (filter (is_exec i) (act w (Act.One e.does)).lines)) ∙ ap (λ ls. map (λ (l : Line). e.moment) (filter (is_exec i) ls)) (lines_are w e)
execs_more_from i w (f ∷ fs) e =
    let m = act w (Act.One f.does) in
    let here = map (λ (l : Line). f.moment) (filter (is_exec i) m.lines) in
    ap (λ l. here ++ l) (execs_more_from i m.after fs e) ∙ sym (append_assoc here (exec_from i m.after fs) _)

pub execs_more : (plan : Plan) (i : ℕ) (before : List Timed) (e : Timed) → exec_moments plan i (before ++ e ∷ []) ≡ exec_moments plan i before ++ execs_by i (at plan before) e
unfolding exec_moments at
execs_more plan i before e = execs_more_from i (begin plan.n) before e

-- ---- the step of an event

-- A step of replica k, which is r, on an input; v is the world with the datagram used up.
pub record IsStep (w : World) (e : Timed) (v : World) (k : ℕ) (r : Replica) (x : Draft) : Type 0 where
  pub sites : v.sites ≡ w.sites
  pub size : length v.packets ≡ length w.packets
  pub bytes : v.bytes ≡ w.bytes
  pub after : (done w e).after ≡ (whole_step v k x).after
  pub lines : (done w e).lines ≡ (whole_step v k x).lines

step_up : (w : World) (k : ℕ) (r : Replica) (input : Input) (t : ℕ) → slice_get w.sites k ≡ Some (Site.Up r) → step_at whole_step w k input t ≡ whole_step w k (step r input t)
unfolding step_at step_at_site
step_up w k r input t e = ap (step_at_site whole_step w k input t) e

pub request_is : (w : World) (moment k t : ℕ) (c : _) (r : Replica) → slice_get w.sites k ≡ Some (Site.Up r) →
    IsStep w (record { moment = moment; does = Single.Request k t c }) w k r (step r (Input.Came c.client (Datagram.Request c)) t)
unfolding done single
request_is w moment k t c r e =
    let is = step_up w k r (Input.Came c.client (Datagram.Request c)) t e in
    record { sites = refl; size = refl; bytes = refl; after = ap (λ (m : Moment). m.after) is; lines = ap (λ (m : Moment). m.lines) is }

pub tick_is : (w : World) (moment k t : ℕ) (r : Replica) → slice_get w.sites k ≡ Some (Site.Up r) →
    IsStep w (record { moment = moment; does = Single.Tick k t }) w k r (step r Input.Ticked t)
unfolding done single
tick_is w moment k t r e =
    let is = step_up w k r Input.Ticked t e in
    record { sites = refl; size = refl; bytes = refl; after = ap (λ (m : Moment). m.after) is; lines = ap (λ (m : Moment). m.lines) is }

pub set_length : {A : Type 0} (xs : List A) (i : ℕ) (a : A) → length (slice_set xs i a) ≡ length xs
set_length [] i a = refl
set_length (x ∷ xs) zero a = refl
set_length (x ∷ xs) (suc i) a = ap suc (set_length xs i a)

used_up : (w : World) (i : ℕ) (m : Packet) → slice_get w.packets i ≡ Some m → use_up i w ≡ record w { packets = slice_set w.packets i (record m { used = true }) }
unfolding use_up
used_up w i m e = ap (λ o. record w { packets = option_map_or (λ m. slice_set w.packets i (record m { used = true })) o w.packets }) e

pub go_is : (w : World) (moment i t : ℕ) (m : Packet) (r : Replica) → slice_get w.packets i ≡ Some m → slice_get w.sites m.to ≡ Some (Site.Up r) →
    IsStep w (record { moment = moment; does = Single.Go i t }) (record w { packets = slice_set w.packets i (record m { used = true }) }) m.to r (step r (Input.Came m.from m.datagram) t)
unfolding done single begun_at come
go_is w moment i t m r e up =
    let v = record w { packets = slice_set w.packets i (record m { used = true }) } in
    let is : come whole_step (use_up i w) t (slice_get w.packets i) ≡ whole_step v m.to (step r (Input.Came m.from m.datagram) t) =
    ap (come whole_step (use_up i w) t) e ∙ ap (λ u. step_at whole_step u m.to (Input.Came m.from m.datagram) t) (used_up w i m e) ∙ step_up v m.to r (Input.Came m.from m.datagram) t up in
    record {
      sites = refl;
      size = set_length w.packets i (record m { used = true });
      bytes = refl;
      after = ap (λ (m : Moment). m.after) is;
      lines = ap (λ (m : Moment). m.lines) is;
    }
