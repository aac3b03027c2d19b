-- The lines of events, and the ticks of a plan.
use Rattle.std.proofs.Common.{◌≡◌, ℕ, ◌+◌, ◌-◌, ◌<◌, ◌≤◌, List, [], ◌∷◌, ◌++◌, refl, sym, ◌∙◌, ap, arith, append_assoc, decimal}
use Rattle.std.specs.Prelude.{codes}
use Rattle.crsm_schedule.specs.Grammar.{single_text}
use Rattle.crsm_text.specs.Words.{named}
use Rattle.crsm_text.specs.Values.{op_text}
use Rattle.hex.specs.Hex.{encode_with}
use Rattle.std.specs.List.{join_with_byte}
use Rattle.crsm_spec_plan.specs.declared.Plan.{Plan}
use Rattle.crsm_spec_plan.specs.Plans.{FitsPlan, arrival, delay_of, offset_of, reading, stamped}
use Rattle.crsm_spec_plan.specs.Timelines.{tick, the_command}
use Rattle.crsm_delay.specs.Upcoming.{IsTick, spelt_of, timed_of}
use Rattle.crsm_delay.specs.declared.upcoming.UpcomingKind.{UpcomingKind}

put_text : codes " put 61 62\n" ≡ 32 ∷ op_text the_command.op ++ 10 ∷ []
unfolding the_command encode_with
put_text = refl

numbers_are : (the_command.client ≡ 7) × (the_command.number ≡ 1)
unfolding the_command
numbers_are = (refl, refl)

join_end : (a b c d e rest text : List ℕ) →
    (text ++ join_with_byte 32 (a ∷ b ∷ c ∷ d ∷ e ∷ [])) ++ (32 ∷ rest ++ 10 ∷ []) ≡ text ++ (join_with_byte 32 (a ∷ b ∷ c ∷ d ∷ e ∷ rest ∷ []) ++ 10 ∷ [])
join_end a b c d e rest text = simp append_assoc

pub request_line : (text : List ℕ) (replica now : ℕ) →
    (text ++ named (codes "request") (replica ∷ now ∷ 7 ∷ 1 ∷ [])) ++ codes " put 61 62\n" ≡ text ++ (single_text (spelt_of (UpcomingKind.Request replica now)) ++ 10 ∷ [])
request_line text replica now =
    ap (λ l. (text ++ named (codes "request") (replica ∷ now ∷ 7 ∷ 1 ∷ [])) ++ l) put_text
    ∙ ap (λ n. (text ++ named (codes "request") (replica ∷ now ∷ n ∷ 1 ∷ [])) ++ (32 ∷ op_text the_command.op ++ 10 ∷ [])) (sym numbers_are.0)
    ∙ ap (λ n. (text ++ named (codes "request") (replica ∷ now ∷ the_command.client ∷ n ∷ [])) ++ (32 ∷ op_text the_command.op ++ 10 ∷ [])) (sym numbers_are.1)
    ∙ join_end (codes "request") (decimal replica) (decimal now) (decimal the_command.client) (decimal the_command.number) (op_text the_command.op) text

-- ---- ticks

pub reads_stamped : (plan : Plan) (x : ℕ) → FitsPlan plan → x ≡ reading plan plan.origin plan.at → (x ≡ stamped plan) × (x ≤ 2000000000000)
unfolding stamped reading
reads_stamped plan x fit e = let a = fit.at in let o = fit.offsets plan.origin in (e, omega (arith, e, a, o))

arrival_is : (plan : Plan) (k d : ℕ) → d ≡ delay_of plan plan.origin k → plan.at + d ≡ arrival plan k
unfolding arrival
arrival_is plan k d e = ap (λ n. plan.at + n) e

pub is_past : (plan : Plan) (k x d r : ℕ) → FitsPlan plan → x ≡ reading plan plan.origin plan.at → d ≡ delay_of plan plan.origin k → r ≡ reading plan k (plan.at + d) → x + 1 ≤ r → stamped plan < reading plan k (arrival plan k)
is_past plan k x d r fit e a b le =
    let s = (reads_stamped plan x fit e).0 in
    let z = ap (reading plan k) (arrival_is plan k d a) in
    omega (arith, s, z, b, le)

-- the clock is not past when the command comes
later : (plan : Plan) (k x d r o : ℕ) → x ≡ stamped plan → plan.at + d ≡ arrival plan k → r ≡ reading plan k (plan.at + d) → o ≡ offset_of plan k → r < x + 1 → (o ≤ x + 1) × (arrival plan k < x + 1 - o) × (reading plan k (x + 1 - o) ≡ stamped plan + 1)
unfolding reading
later plan k x d r o s a b p lt = (omega (arith, a, b, p, lt), omega (arith, a, b, p, lt), omega (arith, s, a, b, p, lt))

pub offset_below : (plan : Plan) (k x d r o : ℕ) → FitsPlan plan → x ≡ reading plan plan.origin plan.at → d ≡ delay_of plan plan.origin k → r ≡ reading plan k (plan.at + d) → o ≡ offset_of plan k → r < x + 1 → o ≤ x + 1
offset_below plan k x d r o fit e a b p lt = (later plan k x d r o (reads_stamped plan x fit e).0 (arrival_is plan k d a) b p lt).0

tick_is : (plan : Plan) (k moment past : ℕ) → past ≡ reading plan k moment → timed_of (record { moment = moment; kind = UpcomingKind.Tick k past }) ≡ tick plan k moment
unfolding tick
tick_is plan k moment past e = ap (λ n. timed_of (record { moment = moment; kind = UpcomingKind.Tick k n })) e

pub a_tick : (plan : Plan) (k x d r o : ℕ) → FitsPlan plan → x ≡ reading plan plan.origin plan.at → d ≡ delay_of plan plan.origin k → r ≡ reading plan k (plan.at + d) → o ≡ offset_of plan k → r < x + 1 →
    IsTick plan k (record { moment = x + 1 - o; kind = UpcomingKind.Tick k (x + 1) })
a_tick plan k x d r o fit e a b p lt =
    let s = (reads_stamped plan x fit e).0 in
    let l = later plan k x d r o s (arrival_is plan k d a) b p lt in
    record { is = tick_is plan k (x + 1 - o) (x + 1) (ap (λ n. n + 1) s ∙ sym l.2); reads = l.2; late = l.1 }
