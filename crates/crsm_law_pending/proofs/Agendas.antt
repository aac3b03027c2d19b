-- The pending events while a plan is followed.
use Rattle.std.proofs.Common.{◌≡◌, ◌≢◌, ℕ, ◌+◌, ◌<◌, List, [], ◌∷◌, ◌++◌, length, refl, sym, ◌∙◌, ap, subst, inl, inr, arith, map, drop, append_assoc, append-nil}
use Rattle.std.specs.Prelude.{◌⊎◌, Some, slice_get}
use Rattle.std.specs.List.{AllByRecursion}
use Rattle.std.proofs.lemmas.Bool.{cases_lt}
use Rattle.std.proofs.lemmas.List.{length-append}
use Rattle.crsm_spec.specs.Acts.{Act, Single}
use Rattle.crsm_spec.specs.Lists.{Among}
use Rattle.crsm_spec.specs.Moments.{act}
use Rattle.crsm_spec.specs.World.{Packet, World}
use Rattle.crsm_fact_log.proofs.Lists.{all_at, among_left, among_right, among_either, get_inside}
use Rattle.crsm_spec_plan.specs.declared.Plan.{Plan}
use Rattle.crsm_spec_plan.specs.Plans.{FitsPlan, arrival, delay_of, reading, stamped}
use Rattle.crsm_spec_plan.specs.Timelines.{Timed, Sent, sent, sent_from, request, tick, delivery, IsDue, Precedes}
use Rattle.crsm_law_pending.specs.Posts.{Post, SendsAreTold, new_packets, posts, posts_from}
use Rattle.crsm_law_timing.specs.SoFar.{IsNext, IsSoFar, world_after}
use Rattle.crsm_law_timing.proofs.Order.{asymmetric, not_itself}
use Rattle.crsm_law_timing.proofs.Worlds.{at, done, act_is, sends_by, sent_more}
use Rattle.crsm_law_timing.proofs.Letters.{get_right}
use Rattle.crsm_law_timing.proofs.Behind.{due_either, due_later, due_then}
use Rattle.crsm_law_timing.proofs.SoFar.{reached}
use Rattle.crsm_law_pending.specs.Agendas.{IsAgenda, IsPending, IsPut, LacksPosts, delivery_of, number_of}
use Rattle.crsm_law_pending.specs.Following.{AgendasBegin, AgendasGoOn}
use Rattle.crsm_law_pending.proofs.Numbers.{request_number, tick_number, go_number, due_below, one_number}
use Rattle.crsm_law_pending.proofs.Puts.{put_in_order, put_there, put_stays, put_from}

-- ---- one event is put in, or there is none of its number

pub puts : (plan : Plan) (es : List Timed) (known : ℕ) (old new : List Timed) (f : Timed) → FitsPlan plan → IsPending plan es known old → IsDue plan es f → number_of f.does ≡ known → IsPut f old new → IsPending plan es (known + 1) new
puts plan es known old new f fit h due is put = record {
  ordered = put_in_order f old new put h.ordered (λ g a. elim (due_either plan es f g due (h.due g a)) [
    | inl p ↦ inl p
    | inr (inl q) ↦ absurd (apart g (inr a) q)
    | inr (inr p) ↦ inr p
  ]);
  due = λ g a. elim (put_from f old new put g a) [ inl b ↦ h.due g b | inr q ↦ subst (IsDue plan es) q due ];
  not_yet = λ g a happened. elim (put_from f old new put g a) [ inl b ↦ h.not_yet g b happened | inr q ↦ apart g (inl happened) q ];
  all = λ g d lt. elim (cases_lt (number_of g.does) known) [
    | inl less ↦ elim (h.all g d less) [ inl a ↦ inl a | inr a ↦ inr (put_stays f old new put g a) ]
    | inr ge ↦ inr (subst (Among new) (one_number plan es f g fit due d (omega (arith, is, lt, ge))) (put_there f old new put))
  ];
  below = λ g a. elim a [
    | inl happened ↦ (let b = h.below g (inl happened) in omega (arith, b))
    | inr a ↦ elim (put_from f old new put g a) [
      | inl b ↦ (let c = h.below g (inr b) in omega (arith, c))
      | inr q ↦ (let c = ap (λ (x : Timed). number_of x.does) q in omega (arith, c, is))
    ]
  ];
}
  where
    apart : (g : Timed) → Among es g ⊎ Among old g → f ≡ g → ⊥
    apart g a q = let b = h.below g a in let c = ap (λ (x : Timed). number_of x.does) q in absurd (omega (arith, b, c, is))

pub passes : (plan : Plan) (es : List Timed) (known : ℕ) (old : List Timed) → IsPending plan es known old → ((f : Timed) → IsDue plan es f → number_of f.does ≡ known → ⊥) → IsPending plan es (known + 1) old
passes plan es known old h none = record {
  ordered = h.ordered;
  due = h.due;
  not_yet = h.not_yet;
  all = λ g d lt. elim (cases_lt (number_of g.does) known) [
    | inl less ↦ h.all g d less
    | inr ge ↦ absurd (none g d (omega (arith, lt, ge)))
  ];
  below = λ g a. let b = h.below g a in omega (arith, b);
}

-- ---- the beginning

nothing : (plan : Plan) → IsPending plan [] 0 []
nothing plan = record {
  ordered = tt;
  due = λ f a. absurd a;
  not_yet = λ f a b. a;
  all = λ f d lt. absurd (omega (arith, lt));
  below = λ f a. elim a [ inl b ↦ absurd b | inr b ↦ absurd b ];
}

first_request : (plan : Plan) (old new : List Timed) → FitsPlan plan → IsPending plan [] 0 old → IsPut (request plan) old new → IsPending plan [] 1 new
first_request plan old new fit h put = puts plan [] 0 old new (request plan) fit h IsDue.Comes (request_number plan) put

none_sent : (plan : Plan) → sent plan [] ≡ []
unfolding sent sent_from
none_sent plan = refl

two_more : (k : ℕ) → (1 + k) + 1 ≡ 2 + k
two_more k = omega arith

a_tick : (plan : Plan) (k moment : ℕ) (old new : List Timed) → FitsPlan plan → k < plan.n → k ≢ plan.origin → reading plan k moment ≡ stamped plan + 1 → arrival plan k < moment →
    IsPending plan [] (1 + k) old → IsPut (tick plan k moment) old new → IsPending plan [] (2 + k) new
a_tick plan k moment old new fit lt ne reads late h put =
    subst (λ n. IsPending plan [] n new) (two_more k) (puts plan [] (1 + k) old new (tick plan k moment) fit h (IsDue.Ticks k moment lt ne reads late) (tick_number plan k moment) put)

past_already : (plan : Plan) (k moment : ℕ) → stamped plan < reading plan k (arrival plan k) → reading plan k moment ≡ stamped plan + 1 → arrival plan k < moment → ⊥
unfolding reading
past_already plan k moment past reads late = absurd (omega (arith, past, reads, late))

none_due : (plan : Plan) (k : ℕ) → (k ≡ plan.origin) ⊎ (stamped plan < reading plan k (arrival plan k)) → (f : Timed) → IsDue plan [] f → number_of f.does ≡ 1 + k → ⊥
none_due plan k why f IsDue.Comes q = let n = request_number plan in absurd (omega (arith, n, q))
none_due plan k why f (IsDue.Ticks j moment lt ne reads late) q =
    let n = tick_number plan j moment in
    let same : j ≡ k = omega (arith, n, q) in
    elim why [
      | inl e ↦ ne (same ∙ e)
      | inr past ↦ past_already plan k moment past (subst (λ i. reading plan i moment ≡ stamped plan + 1) same reads) (subst (λ i. arrival plan i < moment) same late)
    ]
none_due plan k why f (IsDue.Arrives i s g) q = nothing_sent g
  where
    nothing_sent : slice_get (sent plan []) i ≡ Some s → ⊥
    nothing_sent g = let b = get_inside (sent plan []) i s g in let z = ap length (none_sent plan) in absurd (omega (arith, b, z))

no_tick : (plan : Plan) (k : ℕ) (old : List Timed) → (k ≡ plan.origin) ⊎ (stamped plan < reading plan k (arrival plan k)) → IsPending plan [] (1 + k) old → IsPending plan [] (2 + k) old
no_tick plan k old why h = subst (λ n. IsPending plan [] n old) (two_more k) (passes plan [] (1 + k) old h (none_due plan k why))

first_whole : (plan : Plan) (old : List Timed) → FitsPlan plan → IsPending plan [] (1 + plan.n) old → IsAgenda plan [] old
first_whole plan old fit h = record {
  ordered = h.ordered;
  due = h.due;
  not_yet = h.not_yet;
  all = λ f d lt. h.all f d (small f d);
  below = λ f a. let b = h.below f a in let m = fit.most in omega (arith, b, m);
}
  where
    small : (f : Timed) → IsDue plan [] f → number_of f.does < 1 + plan.n
    small f IsDue.Comes = let n = request_number plan in omega (arith, n)
    small f (IsDue.Ticks k moment lt ne reads late) = let n = tick_number plan k moment in omega (arith, n, lt)
    small f (IsDue.Arrives i s g) = let b = get_inside (sent plan []) i s g in let z = ap length (none_sent plan) in absurd (omega (arith, b, z))

pub agendas_begin : AgendasBegin
agendas_begin = record { none = nothing; request = first_request; tick = a_tick; no_tick = no_tick; whole = first_whole }

-- ---- the next event

is_next : (plan : Plan) (es rest : List Timed) (e : Timed) → FitsPlan plan → IsAgenda plan es (e ∷ rest) → IsNext plan es e
is_next plan es rest e fit h = record {
  due = h.due e (inl refl);
  not_yet = h.not_yet e (inl refl);
  earliest = λ f d p. elim (h.all f d (due_below plan es f fit d)) [
    | inl a ↦ a
    | inr (inl q) ↦ absurd (not_itself f (subst (Precedes f) q p))
    | inr (inr a) ↦ absurd (asymmetric e f (all_at (Precedes e) rest f h.ordered.0 a) p)
  ];
}

-- what is left is to happen after it, but for what it sends
left_then : (plan : Plan) (es rest : List Timed) (e : Timed) → FitsPlan plan → IsAgenda plan es (e ∷ rest) → IsPending plan (es ++ e ∷ []) (16 + length (sent plan es)) rest
left_then plan es rest e fit h = record {
  ordered = h.ordered.1;
  due = λ f a. due_later plan es (e ∷ []) f (h.due f (inr a));
  not_yet = λ f a b. elim (among_either es (e ∷ []) f b) [
    | inl c ↦ h.not_yet f (inr a) c
    | inr (inl q) ↦ not_itself e (subst (Precedes e) (sym q) (all_at (Precedes e) rest f h.ordered.0 a))
    | inr (inr c) ↦ c
  ];
  all = λ f d lt. elim (due_then plan es e f d) [
    | inl was ↦ elim (h.all f was lt) [
      | inl a ↦ inl (among_left es (e ∷ []) f a)
      | inr (inl q) ↦ inl (among_right es (e ∷ []) f (inl q))
      | inr (inr a) ↦ inr a
    ]
    | inr n ↦ absurd (let q = ap (λ (x : Timed). number_of x.does) n.is in let g = go_number plan n.number n.letter in let b = n.new in omega (arith, q, g, b, lt))
  ];
  below = λ f a. elim a [
    | inl b ↦ elim (among_either es (e ∷ []) f b) [
      | inl c ↦ h.below f (inl c)
      | inr (inl q) ↦ subst (λ (x : Timed). number_of x.does < 16 + length (sent plan es)) q (h.below e (inr (inl refl)))
      | inr (inr c) ↦ absurd c
    ]
    | inr b ↦ h.below f (inr (inr b))
  ];
}

-- ---- what it sends

packets_of : (moment : ℕ) (ms : List Packet) → map (λ (s : Sent). s.packet) (map (λ m. record { moment = moment; packet = m }) ms) ≡ ms
packets_of moment [] = refl
packets_of moment (m ∷ ms) = ap (λ l. m ∷ l) (packets_of moment ms)

moments_of : (moment : ℕ) (ms : List Packet) → AllByRecursion (λ (s : Sent). s.moment ≡ moment) (map (λ m. record { moment = moment; packet = m }) ms)
moments_of moment [] = tt
moments_of moment (m ∷ ms) = (refl, moments_of moment ms)

new_are : (w : World) (e : Timed) → new_packets w (Act.One e.does) ≡ drop (length w.packets) (done w e).after.packets
unfolding new_packets
new_are w e = ap (λ (v : World). drop (length w.packets) v.packets) (act_is w e)

world_is : (plan : Plan) (es : List Timed) → world_after plan es ≡ at plan es
unfolding world_after at
world_is plan es = refl

-- ---- one datagram after another

delivery_is : (plan : Plan) (s : Sent) (moment : ℕ) (p : Post) → s.moment ≡ moment → p.from ≡ s.packet.from → p.to ≡ s.packet.to → delivery plan p.number s ≡ delivery_of plan moment p
unfolding delivery delivery_of
delivery_is plan s moment p m f t =
    ap (λ n. from_to n s.packet.from s.packet.to) m ∙ ap (λ a. from_to moment a s.packet.to) (sym f) ∙ ap (from_to moment p.from) (sym t)
  where
    from_to : ℕ → ℕ → ℕ → Timed
    from_to n a b = record { moment = n + delay_of plan a b; does = Single.Go p.number (reading plan b (n + delay_of plan a b)) }

post_head : (p q : Post) (ps qs : List Post) → (p ∷ ps) ≡ (q ∷ qs) → p ≡ q
post_head p q ps qs e = cc

post_tail : (p q : Post) (ps qs : List Post) → (p ∷ ps) ≡ (q ∷ qs) → ps ≡ qs
post_tail p q ps qs e = cc

post_none : (p : Post) (ps : List Post) → [] ≡ p ∷ ps → ⊥
post_none p ps e = cc

one_longer : (prefix : List Sent) (s : Sent) → length (prefix ++ s ∷ []) ≡ length prefix + 1
one_longer prefix s = let e = length-append prefix (s ∷ []) in omega (arith, e)

plus_one : (n : ℕ) → (16 + n) + 1 ≡ 16 + (n + 1)
plus_one n = omega arith

another_of : (plan : Plan) (es old new : List Timed) (p : Post) (left : List Post) (moment : ℕ) → FitsPlan plan → (prefix rest : List Sent) → sent plan es ≡ prefix ++ rest →
    IsPending plan es (16 + length prefix) old → AllByRecursion (λ s. s.moment ≡ moment) rest → p ∷ left ≡ posts_from (length prefix) (map (λ s. s.packet) rest) →
    IsPut (delivery_of plan moment p) old new → LacksPosts plan es new left moment
unfolding posts_from
another_of plan es old new p left moment fit prefix [] is pends then posts put = absurd (post_none p left (sym posts))
another_of plan es old new p left moment fit prefix (s ∷ rest) is pends then posts put =
    let head = post_head p _ left _ posts in
    let number : p.number ≡ length prefix = ap (λ (x : Post). x.number) head in
    let f = delivery_of plan moment p in
    let same : delivery plan p.number s ≡ f = delivery_is plan s moment p then.0 (ap (λ (x : Post). x.from) head) (ap (λ (x : Post). x.to) head) in
    let got : slice_get (sent plan es) p.number ≡ Some s =
    ap (λ l. slice_get l p.number) is ∙ ap (slice_get (prefix ++ s ∷ rest)) (number ∙ length_zero (length prefix)) ∙ get_right prefix (s ∷ rest) 0 s refl in
    let due : IsDue plan es f = subst (IsDue plan es) same (IsDue.Arrives p.number s got) in
    let is_number : number_of f.does ≡ 16 + length prefix = ap (λ (x : Timed). number_of x.does) (sym same) ∙ go_number plan p.number s ∙ ap (λ n. 16 + n) number in
    record {
      prefix = prefix ++ s ∷ [];
      rest = rest;
      sent_is = is ∙ sym (append_assoc prefix (s ∷ []) rest);
      pends = subst (λ n. IsPending plan es n new) (plus_one (length prefix) ∙ ap (λ n. 16 + n) (sym (one_longer prefix s))) (puts plan es (16 + length prefix) old new f fit pends due is_number put);
      then = then.1;
      posts_are = post_tail p _ left _ posts ∙ ap (λ n. posts_from n (map (λ (s : Sent). s.packet) rest)) (sym (one_longer prefix s));
    }
  where
    length_zero : (n : ℕ) → n ≡ n + 0
    length_zero n = omega arith

another : (plan : Plan) (es old new : List Timed) (p : Post) (left : List Post) (moment : ℕ) → FitsPlan plan → LacksPosts plan es old (p ∷ left) moment → IsPut (delivery_of plan moment p) old new →
    LacksPosts plan es new left moment
another plan es old new p left moment fit h put = another_of plan es old new p left moment fit h.prefix h.rest h.sent_is h.pends h.then h.posts_are put

all_told : (plan : Plan) (es pending : List Timed) (moment : ℕ) → LacksPosts plan es pending [] moment → IsAgenda plan es pending
unfolding posts_from
all_told plan es pending moment h = go h.rest h.sent_is h.posts_are
  where
    go : (rest : List Sent) → sent plan es ≡ h.prefix ++ rest → [] ≡ posts_from (length h.prefix) (map (λ (s : Sent). s.packet) rest) → IsAgenda plan es pending
    go [] is none = subst (λ n. IsPending plan es n pending) (ap (λ (l : List Sent). 16 + length l) (sym (is ∙ append-nil h.prefix))) h.pends
    go (s ∷ rest) is none = absurd (post_none _ _ none)

module _ (law : SendsAreTold) where
  told : (plan : Plan) (es rest : List Timed) (e : Timed) → FitsPlan plan → IsSoFar plan es → IsAgenda plan es (e ∷ rest) →
      LacksPosts plan (es ++ e ∷ []) rest (posts (act (world_after plan es) (Act.One e.does)).lines) e.moment
  unfolding sends_by
  told plan es rest e fit so h =
      let w = at plan es in
      let ms = drop (length w.packets) (done w e).after.packets in
      record {
        prefix = sent plan es;
        rest = sends_by w e;
        sent_is = sent_more plan es e;
        pends = left_then plan es rest e fit h;
        then = moments_of e.moment ms;
        posts_are =
            ap (λ v. posts (act v (Act.One e.does)).lines) (world_is plan es)
            ∙ law w e.does
            ∙ ap (posts_from (length w.packets)) (new_are w e)
            ∙ ap (λ n. posts_from n ms) (sym (reached plan es fit so).size)
            ∙ ap (posts_from (length (sent plan es))) (sym (packets_of e.moment ms));
      }

  pub agendas_go_on : AgendasGoOn
  agendas_go_on = record { next = is_next; told = told; put = another; whole = all_told }
