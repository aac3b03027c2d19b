-- The datagrams that replicas of a timeline have sent to each other, those delivered, and when a replica executes by
-- them.
use Rattle.std.proofs.Common.{◌≡◌, ◌≢◌, ℕ, zero, suc, ◌+◌, ◌-◌, ◌<◌, ◌≤◌, List, [], ◌∷◌, ◌++◌, length, refl, sym, ◌∙◌, ap, subst, inl, inr, Bool, true, false, cond, arith, map}
use Rattle.std.specs.Prelude.{◌⊎◌, Some, slice_get, not, ◌==◌}
use Rattle.std.proofs.lemmas.Bool.{cases_eq, eq-eqb, ne_eqb, false≢true}
use Rattle.std.proofs.lemmas.Option.{none-some, same_Some}
use Rattle.crsm_spec.specs.Types.{InEpoch, Datagram}
use Rattle.crsm_spec.specs.Lists.{Among, greatest, numbers_below}
use Rattle.crsm_spec.specs.Acts.{Single}
use Rattle.crsm_fact_log.proofs.Lists.{among_left, among_right, among_either, kept_from, kept_in, get_left}
use Rattle.crsm_law_epoch.proofs.Words.{among_map, among_unmap}
use Rattle.crsm_spec_plan.specs.declared.Plan.{Plan}
use Rattle.crsm_spec_plan.specs.Plans.{delay_of, offset_of, reading, stamped, others, arrival, ok_at, commit_at}
use Rattle.crsm_spec_plan.specs.Timelines.{Timed, Sent, sent, request, tick, delivery}
use Rattle.crsm_law_timing.proofs.Local.{Part, HasLogged, IsFirst, the_stamp, the_entry, below_is, is_below}

-- ---- letters

abbrev pub IsFrame : Datagram → Type 0
IsFrame (Datagram.Frame from to epoch seq p) = Unit {0}
IsFrame _ = ⊥

-- no Ack is sent later
abbrev pub latest : ℕ
latest = 2001000000001

abbrev pub letter : ℕ → ℕ → ℕ → Datagram → Sent
letter moment m k d = record { moment = moment; packet = record { from = m; to = k; datagram = d; used = false } }

-- what is sent: the command, an acknowledgement of it, or an Ack of a link
pub data IsLetter (plan : Plan) (s : Sent) : Type 0 where
  IsCommand : (k : ℕ) → k < plan.n → k ≢ plan.origin → s ≡ letter plan.at plan.origin k (Datagram.Frame plan.origin k 0 0 (InEpoch.Prepare (the_entry plan))) → IsLetter plan s
  IsOk : (m k u : ℕ) → m < plan.n → k < plan.n → m ≢ plan.origin → m ≢ k → stamped plan ≤ u →
      s ≡ letter (ok_at plan m) m k (Datagram.Frame m k 0 0 (InEpoch.PrepareOk (the_stamp plan) u)) → IsLetter plan s
  IsAck : (m k a t : ℕ) → m < plan.n → k < plan.n → m ≢ k → t ≤ latest → s ≡ letter t m k (Datagram.Ack m k 0 a) → IsLetter plan s

-- a frame from m to k
pub record IsFrom (m k : ℕ) (s : Sent) : Type 0 where
  pub frame : IsFrame s.packet.datagram
  pub from : s.packet.from ≡ m
  pub to : s.packet.to ≡ k

pub no_frame : (t m k a : ℕ) (s : Sent) → s ≡ letter t m k (Datagram.Ack m k 0 a) → IsFrame s.packet.datagram → ⊥
no_frame t m k a s e f = subst (λ (z : Sent). IsFrame z.packet.datagram) e f

-- a frame of another than the origin is sent when that one acknowledges
pub ok_moment : (plan : Plan) (m k : ℕ) (s : Sent) → IsLetter plan s → IsFrom m k s → m ≢ plan.origin → s.moment ≡ ok_at plan m
ok_moment plan m k s (IsLetter.IsCommand j lt ne e) f o = absurd (o (sym f.from ∙ ap (λ (z : Sent). z.packet.from) e))
ok_moment plan m k s (IsLetter.IsOk i j u p q far ne le e) f o = ap (λ (z : Sent). z.moment) e ∙ ap (ok_at plan) (sym (ap (λ (z : Sent). z.packet.from) e) ∙ f.from)
ok_moment plan m k s (IsLetter.IsAck i j a t p q ne le e) f o = absurd (no_frame t i j a s e f.frame)

-- one of the origin when the command comes
pub command_moment : (plan : Plan) (k : ℕ) (s : Sent) → IsLetter plan s → IsFrom plan.origin k s → s.moment ≡ plan.at
command_moment plan k s (IsLetter.IsCommand j lt ne e) f = ap (λ (z : Sent). z.moment) e
command_moment plan k s (IsLetter.IsOk i j u p q far ne le e) f = absurd (far (sym (ap (λ (z : Sent). z.packet.from) e) ∙ f.from))
command_moment plan k s (IsLetter.IsAck i j a t p q ne le e) f = absurd (no_frame t i j a s e f.frame)

-- ---- lists

pub get_parts : {A : Type 0} (xs ys : List A) (i : ℕ) (a : A) → slice_get (xs ++ ys) i ≡ Some a → (slice_get xs i ≡ Some a) ⊎ ((j : ℕ) × (i ≡ length xs + j) × (slice_get ys j ≡ Some a))
get_parts [] ys i a e = inr (i, omega arith, e)
get_parts (x ∷ xs) ys zero a e = inl e
get_parts (x ∷ xs) ys (suc i) a e = elim (get_parts xs ys i a e) [
  | inl h ↦ inl h
  | inr h ↦ (let q = h.1 in inr (h.0, omega (arith, q), h.2))
]

pub get_right : {A : Type 0} (xs ys : List A) (j : ℕ) (a : A) → slice_get ys j ≡ Some a → slice_get (xs ++ ys) (length xs + j) ≡ Some a
get_right [] ys j a e = subst (λ i. slice_get ys i ≡ Some a) (zero_plus j) e
  where
    zero_plus : (j : ℕ) → j ≡ 0 + j
    zero_plus j = omega arith
get_right (x ∷ xs) ys j a e = subst (λ i. slice_get (x ∷ (xs ++ ys)) i ≡ Some a) (one_more (length xs) j) (get_right xs ys j a e)
  where
    one_more : (n j : ℕ) → suc (n + j) ≡ suc n + j
    one_more n j = omega arith

pub among_get : {A : Type 0} (xs : List A) (a : A) → Among xs a → (j : ℕ) × (slice_get xs j ≡ Some a)
among_get [] a m = absurd m
among_get (x ∷ xs) a (inl e) = (0, ap Some e)
among_get (x ∷ xs) a (inr m) = let t = among_get xs a m in (suc t.0, t.1)

-- ---- what a replica has sent and taken

-- the tick of k
unfoldable pub tick_of : Plan → ℕ → Timed
tick_of plan k = tick plan k (stamped plan + 1 - offset_of plan k)

-- The progress of k by what has happened: the origin has logged the command if it arrived; another replica has if it
-- received its frame, and has acknowledged it if its clock is past the timestamp.
pub record AtOrigin (plan : Plan) (before : List Timed) (p : Part) : Type 0 where
  pub begun : HasLogged p → Among before (request plan)
  pub begins : Among before (request plan) → HasLogged p
  pub owes : p ≡ Part.Owing → ⊥

pub record Elsewhere (plan : Plan) (before : List Timed) (k : ℕ) (p : Part) (taken : List ℕ) : Type 0 where
  pub has : HasLogged p → Among taken plan.origin
  pub had : Among taken plan.origin → HasLogged p
  pub owes : p ≡ Part.Owing → (reading plan k (arrival plan k) ≤ stamped plan) × (Among before (tick_of plan k) → ⊥)
  pub paid : (IsFirst p → ⊥) → reading plan k (arrival plan k) ≤ stamped plan → Among before (tick_of plan k)
  pub passed : (IsFirst p → ⊥) → (f : Timed) × Among before f × (ok_at plan k ≤ f.moment)

pub record Facts (plan : Plan) (before : List Timed) (k : ℕ) (p : Part) (tk : List ℕ) : Type 0 where
  pub origin : k ≡ plan.origin → AtOrigin plan before p
  pub other : k ≢ plan.origin → Elsewhere plan before k p tk
  pub silent : IsFirst p → (i : ℕ) (s : Sent) → slice_get (sent plan before) i ≡ Some s → s.packet.from ≡ k → IsFrame s.packet.datagram → ⊥
  pub spoke : (IsFirst p → ⊥) → (j : ℕ) → j < plan.n → j ≢ k → (i : ℕ) × (s : Sent) × (slice_get (sent plan before) i ≡ Some s) × IsFrom k j s
  pub came : (m : ℕ) → Among tk m → (i : ℕ) × (s : Sent) × (slice_get (sent plan before) i ≡ Some s) × IsFrom m k s × Among before (delivery plan i s)
  pub took : (i : ℕ) (s : Sent) → slice_get (sent plan before) i ≡ Some s → s.packet.to ≡ k → IsFrame s.packet.datagram → Among before (delivery plan i s) → Among tk s.packet.from

-- each delivery so far is of a datagram that was sent
abbrev pub AreNumbered : Plan → List Timed → Type 0
AreNumbered plan before = (f : Timed) (i t : ℕ) → Among before f → f.does ≡ Single.Go i t → i < length (sent plan before)

-- the event delivers a frame from m to k
abbrev pub Delivers : Plan → List Timed → Timed → ℕ → ℕ → Type 0
Delivers plan before e m k = (i : ℕ) × (s : Sent) × (slice_get (sent plan before) i ≡ Some s) × IsFrom m k s × (e ≡ delivery plan i s)

pub go_of : (plan : Plan) (i : ℕ) (s : Sent) → (delivery plan i s).does ≡ Single.Go i (reading plan s.packet.to (delivery plan i s).moment)
unfolding delivery
go_of plan i s = refl

-- the same after one event more
module _ (plan : Plan) (before : List Timed) (e : Timed) (new : List Sent) (is : sent plan (before ++ e ∷ []) ≡ sent plan before ++ new) where
  abbrev out : List Sent
  out = sent plan before

  pub old_new : (i : ℕ) (s : Sent) → slice_get (sent plan (before ++ e ∷ [])) i ≡ Some s → (slice_get out i ≡ Some s) ⊎ ((length out ≤ i) × Among new s)
  old_new i s g = elim (get_parts out new i s (sym (ap (λ l. slice_get l i) is) ∙ g)) [
    | inl h ↦ inl h
    | inr h ↦ (let q = h.1 in inr (omega (arith, q), get_in new h.0 s h.2))
  ]
    where
      get_in : (xs : List Sent) (i : ℕ) (a : Sent) → slice_get xs i ≡ Some a → Among xs a
      get_in [] i a e = absurd (none-some a e)
      get_in (x ∷ xs) zero a e = inl (same_Some x a e)
      get_in (x ∷ xs) (suc i) a e = inr (get_in xs i a e)

  pub still : (i : ℕ) (s : Sent) → slice_get out i ≡ Some s → slice_get (sent plan (before ++ e ∷ [])) i ≡ Some s
  still i s g = ap (λ l. slice_get l i) is ∙ get_left out new i s g

  pub facts_more : (k : ℕ) (p q : Part) (tk now : List ℕ) → Facts plan before k p tk → AreNumbered plan before → ((i t : ℕ) → e.does ≡ Single.Go i t → i < length out) →
      ((m : ℕ) → Among tk m → Among now m) → ((m : ℕ) → Among now m → Among tk m ⊎ Delivers plan before e m k) →
      ((i : ℕ) (s : Sent) → slice_get out i ≡ Some s → s.packet.to ≡ k → IsFrame s.packet.datagram → e ≡ delivery plan i s → Among now s.packet.from) →
      (IsFirst q → IsFirst p × ((s : Sent) → Among new s → s.packet.from ≡ k → IsFrame s.packet.datagram → ⊥)) →
      ((IsFirst q → ⊥) → (IsFirst p → ⊥) ⊎ ((j : ℕ) → j < plan.n → j ≢ k → (s : Sent) × Among new s × IsFrom k j s)) →
      (k ≡ plan.origin → AtOrigin plan (before ++ e ∷ []) q) → (k ≢ plan.origin → Elsewhere plan (before ++ e ∷ []) k q now) → Facts plan (before ++ e ∷ []) k q now
  facts_more k p q tk now h numbered number grows taken delivered silent spoke origin other = record {
    origin = origin;
    other = other;
    silent = λ f i s g from frame. elim (old_new i s g) [
      | inl o ↦ h.silent (silent f).0 i s o from frame
      | inr n ↦ (silent f).1 s n.1 from frame
    ];
    spoke = λ nf j lt ne. elim (spoke nf) [
      | inl np ↦ (let t = h.spoke np j lt ne in (t.0, t.1, still t.0 t.1 t.2, t.3))
      | inr made ↦ (let t = made j lt ne in let g = among_get new t.0 t.1 in (length out + g.0, t.0, ap (λ l. slice_get l (length out + g.0)) is ∙ get_right out new g.0 t.0 g.1, t.2))
    ];
    came = λ m a. elim (taken m a) [
      | inl o ↦ (let t = h.came m o in (t.0, t.1, still t.0 t.1 t.2, t.3, among_left before (e ∷ []) _ t.4))
      | inr d ↦ (d.0, d.1, still d.0 d.1 d.2, d.3, subst (λ f. Among (before ++ e ∷ []) f) d.4 (among_right before (e ∷ []) e (inl refl)))
    ];
    took = took;
  }
    where
      took_old : (i : ℕ) (s : Sent) → slice_get out i ≡ Some s → s.packet.to ≡ k → IsFrame s.packet.datagram → Among before (delivery plan i s) ⊎ Among (e ∷ []) (delivery plan i s) → Among now s.packet.from
      took_old i s g to frame (inl b) = grows s.packet.from (h.took i s g to frame b)
      took_old i s g to frame (inr (inl q)) = delivered i s g to frame q
      took_old i s g to frame (inr (inr z)) = absurd z

      not_yet : (i : ℕ) (s : Sent) → length out ≤ i → Among before (delivery plan i s) ⊎ Among (e ∷ []) (delivery plan i s) → ⊥
      not_yet i s le (inl b) = let lt = numbered (delivery plan i s) i _ b (go_of plan i s) in absurd (omega (arith, le, lt))
      not_yet i s le (inr (inl q)) = let lt = number i _ (ap (λ (f : Timed). f.does) q ∙ go_of plan i s) in absurd (omega (arith, le, lt))
      not_yet i s le (inr (inr z)) = z

      took : (i : ℕ) (s : Sent) → slice_get (sent plan (before ++ e ∷ [])) i ≡ Some s → s.packet.to ≡ k → IsFrame s.packet.datagram → Among (before ++ e ∷ []) (delivery plan i s) → Among now s.packet.from
      took i s g to frame a = elim (old_new i s g) [
        | inl o ↦ took_old i s o to frame (among_either before (e ∷ []) _ a)
        | inr n ↦ absurd (not_yet i s n.0 (among_either before (e ∷ []) _ a))
      ]

pub facts_done : (plan : Plan) (before : List Timed) (k t : ℕ) (tk : List ℕ) → Facts plan before k (Part.Passed t) tk → Facts plan before k (Part.Done t) tk
facts_done plan before k t tk h = record {
  origin = λ e. let o = h.origin e in record { begun = o.begun; begins = o.begins; owes = λ q. absurd (cc) };
  other = λ e. let o = h.other e in record { has = o.has; had = o.had; owes = λ q. absurd (cc); paid = o.paid; passed = o.passed };
  silent = λ f. absurd f;
  spoke = λ f. h.spoke f;
  came = h.came;
  took = h.took;
}

-- ---- when the command commits

most_is : (xs : List ℕ) (m : ℕ) → ((x : ℕ) → Among xs x → x ≤ m) → greatest xs ≤ m
unfolding greatest
most_is [] m h = omega arith
most_is (x ∷ xs) m h =
    let a = h x (inl refl) in
    let b = most_is xs m (λ y i. h y (inr i)) in
    omega (arith, a, b)

pub no_less : (xs : List ℕ) (m : ℕ) → Among xs m → m ≤ greatest xs
unfolding greatest
no_less [] m a = absurd a
no_less (x ∷ xs) m (inl e) = omega (arith, e)
no_less (x ∷ xs) m (inr a) = let b = no_less xs m a in omega (arith, b)

pub no_delay : (plan : Plan) (k : ℕ) → delay_of plan k k ≡ 0
unfolding delay_of
no_delay plan k = chosen (k == k) _ (eq-eqb k k refl)
  where
    chosen : (b : Bool) (x : ℕ) → b ≡ true → cond b 0 x ≡ 0
    chosen true x e = refl
    chosen false x e = absurd (false≢true e)

pub at_ok : (plan : Plan) (k : ℕ) → plan.at ≤ ok_at plan k
unfolding ok_at arrival
at_ok plan k = omega arith

pub is_other : (plan : Plan) (j : ℕ) → Among (others plan) j → (j < plan.n) × (j ≢ plan.origin)
unfolding others
is_other plan j a =
    let t = kept_from (λ k. not (k == plan.origin)) (numbers_below plan.n) j a in
    (below_is plan.n j t.0, λ e. absurd (false≢true (sym (ap not (eq-eqb j plan.origin e)) ∙ t.1)))

pub other_is : (plan : Plan) (j : ℕ) → j < plan.n → j ≢ plan.origin → Among (others plan) j
unfolding others
other_is plan j lt ne = kept_in (λ k. not (k == plan.origin)) (numbers_below plan.n) j (is_below plan.n j lt) (ap not (ne_eqb j plan.origin ne))

-- the moment of the event by which k executes: the command's own, or that at which the acknowledgement of j comes
pub data Reason (plan : Plan) (k moment : ℕ) : Type 0 where
  AtOnce : moment ≡ plan.at → Reason plan k moment
  ByOk : (j : ℕ) → j < plan.n → j ≢ plan.origin → moment ≡ ok_at plan j + delay_of plan j k → Reason plan k moment

pub commits_at : (plan : Plan) (before : List Timed) (k moment : ℕ) (p : Part) (tk : List ℕ) → k < plan.n → HasLogged p → (IsFirst p → ⊥) → Facts plan before k p tk →
    ((m : ℕ) → m < plan.n → m ≢ k → Among tk m) → ((i : ℕ) (s : Sent) → slice_get (sent plan before) i ≡ Some s → IsLetter plan s) →
    ((f : Timed) → Among before f → f.moment ≤ moment) → Reason plan k moment → commit_at plan k ≡ moment
unfolding commit_at request delivery
commits_at plan before k moment p tk below logged later h all letters until why =
    let list = plan.at ∷ map (λ j. ok_at plan j + delay_of plan j k) (others plan) in
    let a = most_is list moment (λ x i. bound x i) in
    let b = no_less list moment (reason why) in
    omega (arith, a, b)
  where
    own : k ≢ plan.origin → ok_at plan k ≤ moment
    own ne = let f = (h.other ne).passed later in let le = until f.0 f.1 in let lt = f.2 in omega (arith, le, lt)

    ok_comes : (j : ℕ) → j < plan.n → j ≢ plan.origin → ok_at plan j + delay_of plan j k ≤ moment
    ok_comes j lt ne = elim (cases_eq j k) [
      | inl e ↦ (let le = own (λ q. ne (e ∙ q)) in let z : delay_of plan j k ≡ 0 = ap (λ i. delay_of plan i k) e ∙ no_delay plan k in let s : ok_at plan j ≡ ok_at plan k = ap (ok_at plan) e in omega (arith, le, z, s))
      | inr nk ↦ (let c = h.came j (all j lt nk) in let le = until _ c.4 in
          let m = ok_moment plan j k c.1 (letters c.0 c.1 c.2) c.3 ne in
          let d : delay_of plan c.1.packet.from c.1.packet.to ≡ delay_of plan j k = ap (λ i. delay_of plan i c.1.packet.to) c.3.from ∙ ap (delay_of plan j) c.3.to in omega (arith, le, m, d))
    ]

    first : plan.at ≤ moment
    first = elim (cases_eq k plan.origin) [
      | inl e ↦ until (request plan) ((h.origin e).begun logged)
      | inr ne ↦ (let le = own ne in let lt = at_ok plan k in omega (arith, le, lt))
    ]

    bound : (x : ℕ) → Among (plan.at ∷ map (λ j. ok_at plan j + delay_of plan j k) (others plan)) x → x ≤ moment
    bound x (inl e) = subst (λ z. z ≤ moment) e first
    bound x (inr a) =
        let t = among_unmap (λ j. ok_at plan j + delay_of plan j k) (others plan) x a in
        let o = is_other plan t.0 t.1 in
        subst (λ z. z ≤ moment) t.2 (ok_comes t.0 o.0 o.1)

    reason : Reason plan k moment → Among (plan.at ∷ map (λ j. ok_at plan j + delay_of plan j k) (others plan)) moment
    reason (Reason.AtOnce e) = inl (sym e)
    reason (Reason.ByOk j lt ne e) = inr (subst (λ z. Among (map (λ j. ok_at plan j + delay_of plan j k) (others plan)) z) (sym e) (among_map (λ j. ok_at plan j + delay_of plan j k) (others plan) j (other_is plan j lt ne)))
