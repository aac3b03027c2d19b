-- The lines of a step are right, and each client that waits has a line of its submission.
use Rattle.std.proofs.Common.{zero, suc, ◌≡◌, ℕ, ◌<◌, ◌≤◌, ◌⊎◌, Bool, true, false, cond, ◌==◌, List, [], ◌∷◌, ◌++◌, length, take, drop, append_assoc, arith, inl, inr, refl, sym, subst, ap, ◌∙◌, Option, Some, None}
use Rattle.std.specs.List.{Contains, slice_get}
use Rattle.std.proofs.lemmas.List.Elements.{Contains-append_left, Contains-append_right, Contains-append_cases, Contains-push_cases}
use Rattle.std.specs.Prelude.{is_some}
use Rattle.crsm_spec.specs.Lists.{greatest}
use Rattle.crsm_safety.proofs.Paxos.Majority.{nat_eq_is}
use Rattle.crsm_safety.proofs.Paxos.Basics.{clash}
use Rattle.crsm_mpspec.specs.declared.MpRec.{MpRec}
use Rattle.crsm_mpspec.specs.declared.MpMessage.{MpMessage}
use Rattle.crsm_mpspec.specs.declared.MpInput.{MpInput}
use Rattle.crsm_mpspec.specs.declared.MpLine.{MpLine}
use Rattle.crsm_mpspec.specs.Types.{Ballot, Command, Value}
use Rattle.crsm_mpspec.specs.Log.{Log, choices, chosen_at, is_chosen, at_slot, end, and_then, run_from, executed}
use Rattle.crsm_mpspec.specs.Values.{answer_after}
use Rattle.crsm_mpspec.specs.Replica.{Replica, Note, Waiting}
use Rattle.crsm_mpspec.specs.Draft.{Draft, begun, exec_line, exec_lines, executions, line_of, keep_as, keep, send, reply, noting, await}
use Rattle.crsm_mpspec.specs.Deciding.{refuse}
use Rattle.crsm_mpspec.specs.Step.{on_input}
use Rattle.crsm_mpspec.specs.Safe.{AnswersAt}
use Rattle.crsm_law_mp.proofs.Lists.{cons_cases, first_in, none_in}
use Rattle.crsm_law_mp.proofs.Places.{none_some}
use Rattle.crsm_law_mp.proofs.Chain.{IsNew, AsksFor, input_keeps}

-- each value of the first list stands at its place in the second
abbrev pub Begins : List Value → List Value → Type 0
Begins xs ys = (i : ℕ) (v : Value) → slice_get xs i ≡ Some v → slice_get ys i ≡ Some v

-- ---- lists that go on

some_same : {X : Type 0} (x y : X) → Some x ≡ Some y → x ≡ y
some_same x y e = cc

pub take_same : (n : ℕ) (xs ys : List Value) → Begins xs ys → n ≤ length xs → take n xs ≡ take n ys
take_same zero xs ys b most = refl
take_same (suc n) [] ys b most = absurd (omega arith)
take_same (suc n) (x ∷ xs) [] b most = absurd (none_some x (b 0 x refl))
take_same (suc n) (x ∷ xs) (y ∷ ys) b most =
    let same : y ≡ x = some_same y x (b 0 x refl) in
    subst (λ z. x ∷ take n xs ≡ z ∷ take n ys) (sym same) (ap (λ zs. x ∷ zs) (take_same n xs ys (λ i v e. b (suc i) v e) (omega arith)))

pub split_at : (xs ys : List Value) → Begins xs ys → ys ≡ xs ++ drop (length xs) ys
split_at [] ys b = refl
split_at (x ∷ xs) [] b = absurd (none_some x (b 0 x refl))
split_at (x ∷ xs) (y ∷ ys) b =
    let same : y ≡ x = some_same y x (b 0 x refl) in
    subst (λ z. z ∷ ys ≡ x ∷ xs ++ drop (length xs) ys) (sym same) (ap (λ zs. x ∷ zs) (split_at xs ys (λ i v e. b (suc i) v e)))

get_mid : (xs : List Value) (v : Value) (ys : List Value) → slice_get (xs ++ v ∷ ys) (length xs) ≡ Some v
get_mid [] v ys = refl
get_mid (x ∷ xs) v ys = get_mid xs v ys

take_mid : (xs ys : List Value) → take (length xs) (xs ++ ys) ≡ xs
take_mid [] ys = refl
take_mid (x ∷ xs) ys = ap (λ zs. x ∷ zs) (take_mid xs ys)

pub within : (xs : List Value) (i : ℕ) (v : Value) → slice_get xs i ≡ Some v → i < length xs
within [] i v e = absurd (none_some v e)
within (x ∷ xs) zero v e = omega arith
within (x ∷ xs) (suc i) v e = let h = within xs i v e in omega arith

-- ---- a log that goes on

-- what is known in the first log is known in the second
abbrev pub Knows : Log → Log → Type 0
Knows log more = (s : ℕ) (v : Value) → chosen_at s log ≡ Some v → chosen_at s more ≡ Some v

run_more : (most more slot : ℕ) (log log' : Log) → most ≤ more → Knows log log' → Begins (run_from most slot log) (run_from more slot log')
unfolding run_from and_then
run_more zero more slot log log' less knows i v e = absurd (none_some v e)
run_more (suc most) zero slot log log' less knows i v e = absurd (omega arith)
run_more (suc most) (suc more) slot log log' less knows i v e =
    go (chosen_at slot log) refl i e (run_more most more (suc slot) log log' (omega arith) knows)
  where
    go : (o : Option Value) → chosen_at slot log ≡ o → (i : ℕ) → slice_get (and_then o (run_from most (suc slot) log)) i ≡ Some v →
        Begins (run_from most (suc slot) log) (run_from more (suc slot) log') → slice_get (and_then (chosen_at slot log') (run_from more (suc slot) log')) i ≡ Some v
    go None is i e rest = absurd (none_some v e)
    go (Some u) is zero e rest = subst (λ o. slice_get (and_then o (run_from more (suc slot) log')) 0 ≡ Some v) (sym (knows slot u is)) e
    go (Some u) is (suc i) e rest = subst (λ o. slice_get (and_then o (run_from more (suc slot) log')) (suc i) ≡ Some v) (sym (knows slot u is)) (rest i v e)

pub executed_more : (log log' : Log) → end log ≤ end log' → Knows log log' → Begins (executed log) (executed log')
unfolding executed
executed_more log log' less knows = run_more (end log) (end log') 0 log log' less knows

end_more : (rec : MpRec) (log : Log) → end log ≤ end (rec ∷ log)
unfolding end choices greatest
end_more MpRec.Boot log = omega arith
end_more (MpRec.Promise b) log = omega arith
end_more (MpRec.Accept s b v) log = omega arith
end_more (MpRec.Choose s v) log = omega arith

-- a record that is new keeps what is known
knows_more : (rec : MpRec) (x : Draft) → IsNew rec x → Knows x.replica.log (rec ∷ x.replica.log)
unfolding chosen_at at_slot choices is_chosen
knows_more MpRec.Boot x new s v e = e
knows_more (MpRec.Promise b) x new s v e = e
knows_more (MpRec.Accept t b u) x new s v e = e
knows_more (MpRec.Choose t u) x new s v e = go (t == s) refl
  where
    go : (z : Bool) → (t == s) ≡ z → cond z (Some u) (at_slot s (choices x.replica.log)) ≡ Some v
    go true same =
        let known : is_some (at_slot t (choices x.replica.log)) ≡ true = subst (λ j. is_some (at_slot j (choices x.replica.log)) ≡ true) (sym (nat_eq_is t s same)) (subst (λ o. is_some o ≡ true) (sym e) refl) in
        absurd (clash _ known new)
    go false same = e

pub goes_on : (rec : MpRec) (x : Draft) → IsNew rec x → Begins (executed x.replica.log) (executed (rec ∷ x.replica.log))
goes_on rec x new = executed_more x.replica.log (rec ∷ x.replica.log) (end_more rec x.replica.log) (knows_more rec x new)

-- ---- lines of records

-- what a line says of an executed list; a line of a record is no reply
abbrev pub IsRight : List Value → MpLine → Type 0
IsRight es (MpLine.Exec k slot client number a) = (c : Command) × AnswersAt es slot c a × (c.client ≡ client) × (c.number ≡ number)
IsRight es (MpLine.ExecNoop k slot) = slice_get es slot ≡ Some None
IsRight es (MpLine.ReplyOk k client number slot a) = ⊥
IsRight es (MpLine.ReplyDropped k client number slot) = ⊥
IsRight es _ = Unit {0}

pub right_more : (es more : List Value) → Begins es more → (line : MpLine) → IsRight es line → IsRight more line
right_more es more b (MpLine.Exec k slot client number a) (c, (at, answer), of_client, of_number) = (
  c,
  (b slot (Some c) at, answer ∙ ap (λ vs. answer_after vs c) (take_same slot es more b (let h = within es slot (Some c) at in omega arith))),
  of_client,
  of_number,
)
right_more es more b (MpLine.ExecNoop k slot) at = b slot None at
right_more es more b (MpLine.ReplyOk _ _ _ _ _) r = absurd r
right_more es more b (MpLine.ReplyDropped _ _ _ _) r = absurd r
right_more es more b (MpLine.Boot k count) r = tt
right_more es more b (MpLine.Submit k slot round by client number) r = tt
right_more es more b (MpLine.Accept k slot round by) r = tt
right_more es more b (MpLine.Promise k round by) r = tt
right_more es more b (MpLine.Choose k slot) r = tt
right_more es more b (MpLine.Send i from to kind) r = tt
right_more es more b (MpLine.ReplyNo k client number code) r = tt
right_more es more b (MpLine.Down k) r = tt
right_more es more b (MpLine.Final k up count) r = tt

exec_right : (me : ℕ) (done vs es : List Value) → es ≡ done ++ vs → (line : MpLine) → Contains (exec_lines me done vs) line → IsRight es line
unfolding exec_lines exec_line
exec_right me done [] es is line c = absurd (none_in line c)
exec_right me done (v ∷ vs) es is line c =
    elim (cons_cases (exec_line me done v) (exec_lines me (done ++ v ∷ []) vs) line c) [
      | inl here ↦ subst (λ z. IsRight z line) (sym is) (subst (λ l. IsRight (done ++ v ∷ vs) l) here (of v))
      | inr rest ↦ exec_right me (done ++ v ∷ []) vs es (is ∙ sym (append_assoc done (v ∷ []) vs)) line rest
    ]
  where
    of : (u : Value) → IsRight (done ++ u ∷ vs) (exec_line me done u)
    of None = get_mid done None vs
    of (Some d) = (d, (get_mid done (Some d) vs, ap (λ zs. answer_after zs d) (sym (take_mid done (Some d ∷ vs)))), refl, refl)

executions_right : (me : ℕ) (rec : MpRec) (x : Draft) → IsNew rec x → (line : MpLine) → Contains (executions me x.replica.log rec) line → IsRight (executed (rec ∷ x.replica.log)) line
unfolding executions
executions_right me rec x new line c =
    exec_right me (executed x.replica.log) (drop (length (executed x.replica.log)) (executed (rec ∷ x.replica.log))) (executed (rec ∷ x.replica.log))
    (split_at (executed x.replica.log) (executed (rec ∷ x.replica.log)) (goes_on rec x new)) line c

record_right : (me : ℕ) (log : Log) (rec : MpRec) (es : List Value) → IsRight es (line_of me log rec)
unfolding line_of
record_right me log MpRec.Boot es = tt
record_right me log (MpRec.Promise b) es = tt
record_right me log (MpRec.Accept s b v) es = tt
record_right me log (MpRec.Choose s v) es = tt

-- ---- a step

-- a refused request's reply
abbrev pub IsRefusal : MpLine → Type 0
IsRefusal (MpLine.ReplyNo k client number code) = Unit {0}
IsRefusal _ = ⊥

-- a line says that what this client waits for was submitted
abbrev pub IsToldBy : List MpLine → ℕ → Waiting → Type 0
IsToldBy lines me w = (round : ℕ) × (by : ℕ) × Contains lines (MpLine.Submit me w.slot round by w.command.client w.command.number)

-- What holds of a step of replica r so far, before its replies, in which this is requested.
pub record Lawful (r : Replica) (command : Option Command) (x : Draft) : Type 0 where
  pub me : x.replica.me ≡ r.me
  pub lines : (line : MpLine) → Contains x.lines line → IsRight (executed x.replica.log) line
  pub waits : (w : Waiting) → Contains x.replica.waiting w → Contains r.waiting w ⊎ ((command ≡ Some w.command) × IsToldBy x.lines r.me w)
  pub refusals : (line : MpLine) → Contains x.replies line → IsRefusal line

module _ (r : Replica) (command : Option Command) where
  sends-lawful : (x : Draft) (m : MpMessage) (to : ℕ) → Lawful r command x → Lawful r command (send m x to)
  unfolding send
  sends-lawful x m to h = record { me = h.me; lines = h.lines; waits = h.waits; refusals = h.refusals }

  notes-lawful : (x : Draft) (note : Note) → Lawful r command x → Lawful r command (noting note x)
  unfolding noting
  notes-lawful x note h = record { me = h.me; lines = h.lines; waits = h.waits; refusals = h.refusals }

  -- the lines of a step with those of one record more
  lines_right : (x : Draft) (rec : MpRec) → IsNew rec x → (line : MpLine) → ((es : List Value) → IsRight es line) → Lawful r command x →
      (l : MpLine) → Contains (x.lines ++ line ∷ executions x.replica.me x.replica.log rec) l → IsRight (executed (rec ∷ x.replica.log)) l
  lines_right x rec new line plain h l c =
      elim (Contains-append_cases x.lines (line ∷ executions x.replica.me x.replica.log rec) l c) [
        | inl old ↦ right_more (executed x.replica.log) (executed (rec ∷ x.replica.log)) (goes_on rec x new) l (h.lines l old)
        | inr later ↦ elim (cons_cases line (executions x.replica.me x.replica.log rec) l later) [
          | inl here ↦ subst (λ z. IsRight (executed (rec ∷ x.replica.log)) z) here (plain (executed (rec ∷ x.replica.log)))
          | inr rest ↦ executions_right x.replica.me rec x new l rest
        ]
      ]

  still_told : (lines more : List MpLine) (w : Waiting) → IsToldBy lines r.me w → IsToldBy (lines ++ more) r.me w
  still_told lines more w t = (t.0, t.1, Contains-append_left lines more _ t.2)

  keeps-lawful : (x : Draft) (rec : MpRec) → IsNew rec x → Lawful r command x → Lawful r command (keep rec x)
  unfolding keep keep_as
  keeps-lawful x rec new h = record {
    me = h.me;
    lines = lines_right x rec new (line_of x.replica.me x.replica.log rec) (λ es. record_right x.replica.me x.replica.log rec es) h;
    waits = λ w c. elim (h.waits w c) [ inl old ↦ inl old | inr told ↦ inr (told.0, still_told x.lines _ w told.1) ];
    refusals = h.refusals;
  }

  refuses-lawful : (x : Draft) (code : ℕ) (c : Command) → Lawful r command x → Lawful r command (refuse code c x)
  unfolding refuse reply
  refuses-lawful x code c h = record {
    me = h.me;
    lines = h.lines;
    waits = h.waits;
    refusals = λ line there. elim (Contains-push_cases x.replies _ line there) [
      | inl old ↦ h.refusals line old
      | inr is ↦ subst IsRefusal is tt
    ];
  }

  submits-lawful : (x : Draft) (b : Ballot) (s : ℕ) (c : Command) → command ≡ Some c → Lawful r command x →
      Lawful r command (keep_as (MpLine.Submit x.replica.me s b.round b.by c.client c.number) (MpRec.Accept s b (Some c)) (await s c x))
  unfolding keep_as await
  submits-lawful x b s c asked h = record {
    me = h.me;
    lines = lines_right x (MpRec.Accept s b (Some c)) tt (MpLine.Submit x.replica.me s b.round b.by c.client c.number) (λ es. tt) h;
    waits = λ w there. elim (Contains-push_cases x.replica.waiting _ w there) [
      | inl old ↦ elim (h.waits w old) [ inl before ↦ inl before | inr told ↦ inr (told.0, still_told x.lines _ w told.1) ]
      | inr is ↦ inr (subst (λ z. (command ≡ Some z.command) × IsToldBy (x.lines ++ MpLine.Submit x.replica.me s b.round b.by c.client c.number ∷ executions x.replica.me x.replica.log (MpRec.Accept s b (Some c))) r.me z) is (
        asked,
        (
          b.round,
          b.by,
          Contains-append_right x.lines _ _ (subst (λ j. Contains (MpLine.Submit x.replica.me s b.round b.by c.client c.number ∷ executions x.replica.me x.replica.log (MpRec.Accept s b (Some c)))
              (MpLine.Submit j s b.round b.by c.client c.number)) h.me (first_in _ _)),
        ),
      ))
    ];
    refusals = h.refusals;
  }

  pub begun_lawful : Lawful r command (begun r)
  unfolding begun
  begun_lawful = record { me = refl; lines = λ line c. absurd (none_in line c); waits = λ w c. inl c; refusals = λ line c. absurd (none_in line c) }

  -- the rule of an input, before the replies
  pub input_lawful : (input : MpInput) (from : ℕ) → AsksFor (λ c. command ≡ Some c) input → Lawful r command (on_input input from (begun r))
  input_lawful input from ok =
      input_keeps (Lawful r command) (λ c. command ≡ Some c) sends-lawful notes-lawful keeps-lawful refuses-lawful submits-lawful input from ok (begun r) begun_lawful

  -- a boot, or any other record that is kept at first
  pub kept_lawful : (rec : MpRec) → IsNew rec (begun r) → Lawful r command (keep rec (begun r))
  kept_lawful rec new = keeps-lawful (begun r) rec new begun_lawful
