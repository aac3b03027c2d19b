-- The traffic and the counters of a port over consecutive calls.
use Rattle.std.proofs.Common.{◌≡◌, ℕ, ◌+◌, ◌≤◌, List, [], ◌∷◌, ◌++◌, map, refl, sym, ◌∙◌, ap, subst, arith, append_assoc}
use Rattle.std.proofs.lemmas.List.{append-nil, map-append}
use Rattle.std.specs.Prelude.{Option, Some, None, option_map}
use Rattle.crsm_clock.specs.Readings.{Gives, Readings}
use Rattle.crsm_port_faults.specs.Counts.{Rose}
use Rattle.crsm_port.specs.Meaning.{Framing, Packet, Traffic}
use Rattle.crsm_replica_io.specs.Outgoing.{raised_by, with_all_sent}
use Rattle.crsm_node.specs.Received.{BothTell, GivesAll, Passes, received}

-- ---- counts

pub raised_then : (a b x y z : ℕ) → raised_by a x ≤ y → raised_by b y ≤ z → raised_by (a + b) x ≤ z
raised_then a b x y z first second = omega (arith, first, second)

pub raised_none : (x y : ℕ) → x ≤ y → raised_by 0 x ≤ y
raised_none x y le = omega (arith, le)

pub raised_within : (a x y z : ℕ) → raised_by a x ≤ y → y ≤ z → raised_by a x ≤ z
raised_within a x y z first le = omega (arith, first, le)

pub rose_later : (x y z u : ℕ) → x ≤ y → Rose y z → z ≤ u → Rose x u
rose_later x y z u before rose after = omega (arith, before, rose, after)

-- ---- readings

pub gives_more : (readings : List ℕ) (reading : ℕ) (a b c : Option Readings) → GivesAll readings a b → Gives b c reading → GivesAll (readings ++ reading ∷ []) a c
unfolding GivesAll
gives_more [] reading a b c all one = (c, subst (λ (x : Option Readings). Gives x c reading) all one, refl)
gives_more (t ∷ readings) reading a b c all one = (all.0, all.1, gives_more readings reading all.0 b c all.2 one)

-- ---- the traffic

pub both_then : (R S T : Traffic → Traffic → Type 0) (a b c : Option Traffic) → ((t u v : Traffic) → R t u → S u v → T t v) → BothTell R a b → BothTell S b c → BothTell T a c
both_then R S T None None None joins r s = tt
both_then R S T None None (Some v) joins r s = absurd s
both_then R S T None (Some u) c joins r s = absurd r
both_then R S T (Some t) None c joins r s = absurd r
both_then R S T (Some t) (Some u) None joins r s = absurd s
both_then R S T (Some t) (Some u) (Some v) joins r s = joins t u v r s

pub both_weaker : (R S : Traffic → Traffic → Type 0) (a b : Option Traffic) → ((t u : Traffic) → R t u → S t u) → BothTell R a b → BothTell S a b
both_weaker R S None None implies r = tt
both_weaker R S None (Some u) implies r = absurd r
both_weaker R S (Some t) None implies r = absurd r
both_weaker R S (Some t) (Some u) implies r = implies t u r

pub both_same : (R : Traffic → Traffic → Type 0) (a : Option Traffic) → ((t : Traffic) → R t t) → BothTell R a a
both_same R None here = tt
both_same R (Some t) here = here t

pub passes_none : (framing : Framing) (t : Traffic) → Passes framing [] [] t t
passes_none framing t = record { came = []; waited = refl; told = sym (append-nil t.taken); are = refl; out = sym (append-nil t.sent) }

pub passes_then : (framing : Framing) (took more went out : List Packet) (t u v : Traffic) → Passes framing took went t u → Passes framing more out u v → Passes framing (took ++ more) (went ++ out) t v
passes_then framing took more went out t u v p q = record {
  came = p.came ++ q.came;
  waited = p.waited ∙ ap (λ (ps : List Packet). p.came ++ ps) q.waited ∙ sym (append_assoc p.came q.came v.waiting);
  told = q.told ∙ ap (λ (ps : List Packet). ps ++ q.came) p.told ∙ append_assoc t.taken p.came q.came;
  are = ap (λ (ps : List Packet). ps ++ more) p.are ∙ ap (λ (ps : List Packet). map (received framing) p.came ++ ps) q.are ∙ sym (map-append (received framing) p.came q.came);
  out = q.out ∙ ap (λ (ps : List Packet). ps ++ map framing.wrap out) p.out ∙ append_assoc t.sent (map framing.wrap went) (map framing.wrap out)
      ∙ ap (λ (ps : List Packet). t.sent ++ ps) (sym (map-append framing.wrap went out));
}

-- the packets sent follow those that were sent before
sends_pass : (framing : Framing) (out : List Packet) (a : Option Traffic) → BothTell (Passes framing [] out) a (option_map (with_all_sent (map framing.wrap out)) a)
sends_pass framing out None = tt
sends_pass framing out (Some t) = record { came = []; waited = refl; told = sym (append-nil t.taken); are = refl; out = refl }

pub sent_passes : (framing : Framing) (out : List Packet) (a b : Option Traffic) → b ≡ option_map (with_all_sent (map framing.wrap out)) a → BothTell (Passes framing [] out) a b
sent_passes framing out a b is = subst (λ (x : Option Traffic). BothTell (Passes framing [] out) a x) (sym is) (sends_pass framing out a)
