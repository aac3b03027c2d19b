-- Each number is that of one event that has to happen.
use Rattle.std.proofs.Common.{◌≡◌, ℕ, ◌+◌, ◌<◌, List, length, refl, sym, ◌∙◌, ap, subst, arith}
use Rattle.std.specs.Prelude.{slice_get}
use Rattle.std.proofs.lemmas.Option.{same_Some}
use Rattle.crsm_fact_log.proofs.Lists.{get_inside}
use Rattle.crsm_spec_plan.specs.declared.Plan.{Plan}
use Rattle.crsm_spec_plan.specs.Plans.{FitsPlan, reading, stamped}
use Rattle.crsm_spec_plan.specs.Timelines.{Timed, Sent, sent, request, tick, delivery, IsDue}
use Rattle.crsm_law_pending.specs.Agendas.{number_of}

pub request_number : (plan : Plan) → number_of (request plan).does ≡ 0
unfolding request number_of
request_number plan = refl

pub tick_number : (plan : Plan) (k moment : ℕ) → number_of (tick plan k moment).does ≡ 1 + k
unfolding tick number_of
tick_number plan k moment = refl

pub go_number : (plan : Plan) (i : ℕ) (s : Sent) → number_of (delivery plan i s).does ≡ 16 + i
unfolding delivery number_of
go_number plan i s = refl

-- what has to happen has a number below those of datagrams that were not sent
pub due_below : (plan : Plan) (es : List Timed) (f : Timed) → FitsPlan plan → IsDue plan es f → number_of f.does < 16 + length (sent plan es)
due_below plan es f fit IsDue.Comes = let n = request_number plan in omega (arith, n)
due_below plan es f fit (IsDue.Ticks k moment lt ne reads late) = let n = tick_number plan k moment in let m = fit.most in omega (arith, n, lt, m)
due_below plan es f fit (IsDue.Arrives i s g) = let n = go_number plan i s in let b = get_inside (sent plan es) i s g in omega (arith, n, b)

same_moment : (plan : Plan) (k j m n : ℕ) → k ≡ j → reading plan k m ≡ stamped plan + 1 → reading plan j n ≡ stamped plan + 1 → m ≡ n
unfolding reading
same_moment plan k j m n q a b = let c = subst (λ i. reading plan i m ≡ stamped plan + 1) q a in omega (arith, c, b)

-- two events of one number are one
pub one_number : (plan : Plan) (es : List Timed) (f g : Timed) → FitsPlan plan → IsDue plan es f → IsDue plan es g → number_of f.does ≡ number_of g.does → f ≡ g
one_number plan es f g fit IsDue.Comes IsDue.Comes q = refl
one_number plan es f g fit IsDue.Comes (IsDue.Ticks k m lt ne reads late) q = absurd (let a = request_number plan in let b = tick_number plan k m in omega (arith, a, b, q))
one_number plan es f g fit IsDue.Comes (IsDue.Arrives i s h) q = absurd (let a = request_number plan in let b = go_number plan i s in omega (arith, a, b, q))
one_number plan es f g fit (IsDue.Ticks k m lt ne reads late) IsDue.Comes q = absurd (let a = request_number plan in let b = tick_number plan k m in omega (arith, a, b, q))
one_number plan es f g fit (IsDue.Ticks k m lt ne reads late) (IsDue.Ticks j n lt' ne' reads' late') q =
    let a = tick_number plan k m in
    let b = tick_number plan j n in
    let same : k ≡ j = omega (arith, a, b, q) in
    ap (λ i. tick plan i m) same ∙ ap (tick plan j) (same_moment plan k j m n same reads reads')
one_number plan es f g fit (IsDue.Ticks k m lt ne reads late) (IsDue.Arrives i s h) q = absurd (let a = tick_number plan k m in let b = go_number plan i s in let n = fit.most in omega (arith, a, b, q, lt, n))
one_number plan es f g fit (IsDue.Arrives i s h) IsDue.Comes q = absurd (let a = request_number plan in let b = go_number plan i s in omega (arith, a, b, q))
one_number plan es f g fit (IsDue.Arrives i s h) (IsDue.Ticks k m lt ne reads late) q = absurd (let a = tick_number plan k m in let b = go_number plan i s in let n = fit.most in omega (arith, a, b, q, lt, n))
one_number plan es f g fit (IsDue.Arrives i s h) (IsDue.Arrives j z h') q =
    let a = go_number plan i s in
    let b = go_number plan j z in
    let same : i ≡ j = omega (arith, a, b, q) in
    ap (delivery plan i) (same_Some s z (sym h ∙ ap (slice_get (sent plan es)) same ∙ h')) ∙ ap (λ n. delivery plan n z) same
