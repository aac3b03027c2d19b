-- The frames that a replica of a timeline pushes to the others.
use Rattle.std.proofs.Common.{◌≡◌, ◌≢◌, ℕ, zero, suc, ◌<◌, List, [], ◌∷◌, refl, sym, ◌∙◌, ap, subst, inl, inr, map}
use Rattle.std.specs.Prelude.{◌⊎◌, Some, slice_get, not, ◌==◌}
use Rattle.std.proofs.lemmas.Bool.{eq-eqb, ne_eqb, false≢true}
use Rattle.std.proofs.lemmas.Option.{none-some, same_Some}
use Rattle.crsm_spec.specs.Types.{InEpoch, Datagram}
use Rattle.crsm_spec.specs.Lists.{Among, numbers_below}
use Rattle.crsm_spec.specs.World.{packet_of}
use Rattle.crsm_fact_log.proofs.Lists.{kept_from, kept_in}
use Rattle.crsm_law_epoch.specs.Numbers.{Distinct}
use Rattle.crsm_law_epoch.proofs.Words.{among_map, among_unmap, get_among, distinct_range, distinct_filter}
use Rattle.crsm_spec_plan.specs.declared.Plan.{Plan}
use Rattle.crsm_spec_plan.specs.Timelines.{Sent}
use Rattle.crsm_law_timing.proofs.Local.{below_is, is_below}
use Rattle.crsm_law_timing.proofs.Paying.{peers, frames}
use Rattle.crsm_law_timing.proofs.Letters.{letter, IsFrom, no_frame}
use Rattle.crsm_law_timing.proofs.Standing.{letters_of, letter_is}

peer_is : (plan : Plan) (k j : ℕ) → Among (peers plan k) j → (j < plan.n) × (j ≢ k)
peer_is plan k j a =
    let t = kept_from (λ j. not (j == k)) (numbers_below plan.n) j a in
    (below_is plan.n j t.0, λ e. absurd (false≢true (sym (ap not (eq-eqb j k e)) ∙ t.1)))

is_peer : (plan : Plan) (k j : ℕ) → j < plan.n → j ≢ k → Among (peers plan k) j
is_peer plan k j lt ne = kept_in (λ j. not (j == k)) (numbers_below plan.n) j (is_below plan.n j lt) (ap not (ne_eqb j k ne))

distinct_peers : (plan : Plan) (k : ℕ) → Distinct (peers plan k)
unfolding numbers_below
distinct_peers plan k = distinct_filter (λ j. not (j == k)) (numbers_below plan.n) (distinct_range 0 plan.n)

-- each of them is a frame to another replica
pub pushed_is : (plan : Plan) (moment k : ℕ) (payload : InEpoch) (s : Sent) → Among (letters_of moment k (frames plan k payload)) s →
    (j : ℕ) × (j < plan.n) × (j ≢ k) × (s ≡ letter moment k j (Datagram.Frame k j 0 0 payload))
pushed_is plan moment k payload s a =
    let t = letter_is moment k (frames plan k payload) s a in
    let u = among_unmap {B = ℕ × Datagram} (λ j. (j, Datagram.Frame k j 0 0 payload)) (peers plan k) t.0 t.1 in
    let p = peer_is plan k u.0 u.1 in
    (u.0, p.0, p.1, t.2 ∙ ap (λ (d : ℕ × Datagram). letter moment k d.0 d.1) (sym u.2))

-- there is one to each
pub is_pushed : (plan : Plan) (moment k : ℕ) (payload : InEpoch) (j : ℕ) → j < plan.n → j ≢ k → (s : Sent) × Among (letters_of moment k (frames plan k payload)) s × IsFrom k j s
unfolding packet_of
is_pushed plan moment k payload j lt ne =
    let d : ℕ × Datagram = (j, Datagram.Frame k j 0 0 payload) in
    let a = among_map {B = ℕ × Datagram} (λ j. (j, Datagram.Frame k j 0 0 payload)) (peers plan k) j (is_peer plan k j lt ne) in
    let b = among_map (packet_of k) (frames plan k payload) d a in
    (letter moment k j d.1, among_map {B = Sent} (λ m. record { moment = moment; packet = m }) (map (packet_of k) (frames plan k payload)) (packet_of k d) b, record { frame = tt; from = refl; to = refl })

get_distinct : (ks : List ℕ) → Distinct ks → (i j m : ℕ) → slice_get ks i ≡ Some m → slice_get ks j ≡ Some m → i ≡ j
get_distinct [] d i j m p q = absurd (none-some m p)
get_distinct (k ∷ ks) d zero zero m p q = refl
get_distinct (k ∷ ks) d zero (suc j) m p q = absurd (d.0 (subst (λ z. Among ks z) (sym (same_Some k m p)) (get_among ks j m q)))
get_distinct (k ∷ ks) d (suc i) zero m p q = absurd (d.0 (subst (λ z. Among ks z) (sym (same_Some k m q)) (get_among ks i m p)))
get_distinct (k ∷ ks) d (suc i) (suc j) m p q = ap suc (get_distinct ks d.1 i j m p q)

to_whom : (moment k : ℕ) (payload : InEpoch) (js : List ℕ) (i : ℕ) (s : Sent) → slice_get (letters_of moment k (map (λ j. (j, Datagram.Frame k j 0 0 payload)) js)) i ≡ Some s → slice_get js i ≡ Some s.packet.to
unfolding packet_of
to_whom moment k payload [] i s e = absurd (none-some s e)
to_whom moment k payload (j ∷ js) zero s e = ap (λ (z : Sent). Some z.packet.to) (same_Some _ s e)
to_whom moment k payload (j ∷ js) (suc i) s e = to_whom moment k payload js i s e

-- and no second one
pub pushed_apart : (plan : Plan) (moment k : ℕ) (payload : InEpoch) (i j m : ℕ) (s z : Sent) →
    slice_get (letters_of moment k (frames plan k payload)) i ≡ Some s → slice_get (letters_of moment k (frames plan k payload)) j ≡ Some z → IsFrom k m s → IsFrom k m z → i ≡ j
pushed_apart plan moment k payload i j m s z g h f f' =
    get_distinct (peers plan k) (distinct_peers plan k) i j m (to_whom moment k payload (peers plan k) i s g ∙ ap Some f.to) (to_whom moment k payload (peers plan k) j z h ∙ ap Some f'.to)

-- an Ack before them changes nothing
pub acked_apart : (plan : Plan) (moment k a b : ℕ) (payload : InEpoch) (i j m : ℕ) (s z : Sent) →
    slice_get (letters_of moment k ((b, Datagram.Ack k b 0 a) ∷ frames plan k payload)) i ≡ Some s →
    slice_get (letters_of moment k ((b, Datagram.Ack k b 0 a) ∷ frames plan k payload)) j ≡ Some z → IsFrom k m s → IsFrom k m z → i ≡ j
unfolding packet_of
acked_apart plan moment k a b payload zero j m s z g h f f' = absurd (no_frame moment k b a s (sym (same_Some _ s g)) f.frame)
acked_apart plan moment k a b payload (suc i) zero m s z g h f f' = absurd (no_frame moment k b a z (sym (same_Some _ z h)) f'.frame)
acked_apart plan moment k a b payload (suc i) (suc j) m s z g h f f' = ap suc (pushed_apart plan moment k payload i j m s z g h f f')

pub one_ack : (moment k a b : ℕ) (s : Sent) → Among (letters_of moment k ((b, Datagram.Ack k b 0 a) ∷ [])) s → s ≡ letter moment k b (Datagram.Ack k b 0 a)
unfolding packet_of
one_ack moment k a b s (inl e) = sym e
one_ack moment k a b s (inr e) = absurd e

pub ack_then : (plan : Plan) (moment k a b : ℕ) (payload : InEpoch) (s : Sent) → Among (letters_of moment k ((b, Datagram.Ack k b 0 a) ∷ frames plan k payload)) s →
    (s ≡ letter moment k b (Datagram.Ack k b 0 a)) ⊎ Among (letters_of moment k (frames plan k payload)) s
unfolding packet_of
ack_then plan moment k a b payload s (inl e) = inl (sym e)
ack_then plan moment k a b payload s (inr m) = inr m
