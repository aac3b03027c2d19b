-- The turns that a node has taken, some of them pending, and further ones.
use Rattle.std.proofs.Common.{◌≡◌, IsTrue, ℕ, ◌≤◌, List, [], ◌∷◌, ◌++◌, map, sym, ◌∙◌, ap, subst, arith, append_assoc}
use Rattle.std.proofs.lemmas.List.{append-nil, map-append}
use Rattle.std.proofs.lemmas.Grind.{flat_map-append}
use Rattle.std.specs.Prelude.{Option, Some, None}
use Rattle.std.specs.List.{AllByRecursion, flat_map}
use Rattle.crsm_clock.specs.Readings.{Gives, Readings}
use Rattle.crsm_disk.specs.Meaning.{LeavesOnly, Meaning as DiskMeaning, Only}
use Rattle.crsm_io.specs.Streams.{Puts, PutsPrefix}
use Rattle.crsm_spec_process.specs.Lives.{Group, HaveFates, kept_turns}
use Rattle.crsm_log.specs.Format.{bodies_of}
use Rattle.crsm_log.specs.Log.{Goes}
use Rattle.crsm_port.specs.Meaning.{Framing, Meaning as PortMeaning, Packet}
use Rattle.crsm_text_sheet.specs.declared.line.SheetLine.{SheetLine}
use Rattle.crsm_text_sheet.specs.Grammar.{sheet_line_text}
use Rattle.crsm_text_sheet.specs.Sheets.{sheet_text, turn_line}
use Rattle.crsm_spec.specs.Node.{Turn, outputs_from}
use Rattle.crsm_spec.specs.Replica.{Replica}
use Rattle.crsm_replica_io.specs.Outgoing.{GoesOut, packets_for, raised_by}
use Rattle.crsm_replica_detector.specs.Watching.{Watch}
use Rattle.crsm_spec_process.specs.Turns.{CanBeTaken, replica_after}
use Rattle.crsm_replica_detector.specs.Wished.{Fulfils, empty_receive, empty_receives, watch_after, wish_of}
use Rattle.crsm_shell.specs.Flushing.{Adds, IsFull, IsLeft}
use Rattle.crsm_shell.specs.Shell.{group_body, sends_of}
use Rattle.crsm_node.specs.Kept.{HasBehind, HasLogOf, IsLeftOf, PutInTurn, bodies_in_log, body_in_log}
use Rattle.crsm_node.specs.Received.{BothTell, GivesAll, Passes, datagram_in, datagrams_in, readings_of}
use Rattle.crsm_node.specs.Sent.{packets_gone, packets_missing, sends_from}
use Rattle.crsm_node.specs.Serving.{Carries, Takes, turns_by_group, turns_text}
use Rattle.crsm_node.specs.Steps.{TakesOff}
use Rattle.crsm_node.proofs.Disks.{has_more, left_more, put_more}
use Rattle.crsm_node.proofs.Fates.{AreFates, gone_more, missing_more, with_group}
use Rattle.crsm_node.proofs.Ports.{both_then, gives_more, passes_then, raised_then, sent_passes}
use Rattle.crsm_node.proofs.Turns.{bodies_more, empty_more, kept_more, replica_append, wished_more}

-- ---- one turn more

all_more : (ts : List (Turn × ℕ)) (t : Turn × ℕ) → AllByRecursion CanBeTaken ts → CanBeTaken t → AllByRecursion CanBeTaken (ts ++ t ∷ [])
all_more [] t all one = (one, tt)
all_more (x ∷ ts) t all one = (all.0, all_more ts t all.1 one)

pub takes_more : (r : Replica) (w : Watch) (ts : List (Turn × ℕ)) (t : Turn × ℕ) (a b c : Option Readings) → Takes r w ts a b →
    Fulfils (wish_of (watch_after w ts) (replica_after r ts)) t.0 → CanBeTaken t → Gives b c t.1 → Takes r w (ts ++ t ∷ []) a c
takes_more r w ts t a b c takes fulfils can_be gives = record {
  wished = wished_more w r ts t takes.wished fulfils;
  can_be = all_more ts t takes.can_be can_be;
  readings = subst (λ (xs : List ℕ). GivesAll xs a c) (sym (map-append (λ (u : Turn × ℕ). u.1) ts (t ∷ []))) (gives_more (readings_of ts) t.1 a b c takes.readings gives);
}

datagrams_more : (ts : List (Turn × ℕ)) (t : Turn × ℕ) → datagrams_in (ts ++ t ∷ []) ≡ datagrams_in ts ++ datagram_in t.0
unfolding datagrams_in
datagrams_more ts t = flat_map-append (λ (u : Turn × ℕ). datagram_in u.0) ts (t ∷ []) ∙ ap (λ (ps : List Packet). flat_map (λ (u : Turn × ℕ). datagram_in u.0) ts ++ ps) (append-nil (datagram_in t.0))

pub carries_more : (peers : List ℕ) (r : Replica) (w : Watch) (ts : List (Turn × ℕ)) (t : Turn × ℕ) (groups : List Group) (a b c : PortMeaning) →
    Carries peers r w ts groups a b → TakesOff (wish_of (watch_after w ts) (replica_after r ts)) t.0 b c → Carries peers r w (ts ++ t ∷ []) groups a c
carries_more peers r w ts t groups a b c carries off =
    let out : List Packet = packets_gone peers r groups in
    let took : List Packet = datagrams_in ts in
    let here : BothTell (Passes a.framing (datagram_in t.0) []) b.traffic c.traffic = subst (λ (framing : Framing). BothTell (Passes framing (datagram_in t.0) []) b.traffic c.traffic) carries.framing off.traffic in
    let all : BothTell (Passes a.framing (took ++ datagram_in t.0) (out ++ [])) a.traffic c.traffic =
    both_then (Passes a.framing took out) (Passes a.framing (datagram_in t.0) []) (Passes a.framing (took ++ datagram_in t.0) (out ++ [])) a.traffic b.traffic c.traffic
    (passes_then a.framing took (datagram_in t.0) out []) carries.traffic here in
    let losses = off.losses in
    let faults = off.faults in
    let lost = carries.losses in
    let failed = carries.faults in
    record {
      traffic = subst (λ (ps : List Packet). BothTell (Passes a.framing ps out) a.traffic c.traffic) (sym (datagrams_more ts t))
          (subst (λ (ps : List Packet). BothTell (Passes a.framing (took ++ datagram_in t.0) ps) a.traffic c.traffic) (append-nil out) all);
      empties = subst (λ (k : ℕ). raised_by k a.empties ≤ c.empties) (sym (empty_more w r ts t))
          (raised_then (empty_receives w r ts) (empty_receive (wish_of (watch_after w ts) (replica_after r ts)) t.0) a.empties b.empties c.empties carries.empties off.empties);
      losses = subst (λ (k : ℕ). raised_by (packets_missing peers r groups) a.losses ≤ k) (sym off.losses) carries.losses;
      too_long = off.too_long ∙ carries.too_long;
      faults = subst (λ (k : ℕ). a.faults ≤ k) (sym off.faults) carries.faults;
      framing = off.framing ∙ carries.framing;
      borrowed_as = off.borrowed_as ∙ carries.borrowed_as;
    }

-- ---- one group more

text_append : (ts us : List (Turn × ℕ)) → turns_text (ts ++ us) ≡ turns_text ts ++ turns_text us
unfolding turns_text
text_append ts us = ap sheet_text (map-append turn_line ts us) ∙ flat_map-append (λ (l : SheetLine). sheet_line_text l ++ 10 ∷ []) (map turn_line ts) (map turn_line us)

pub text_more : (ts : List (Turn × ℕ)) (t : Turn × ℕ) → turns_text (ts ++ t ∷ []) ≡ turns_text ts ++ (sheet_line_text (turn_line t) ++ 10 ∷ [])
unfolding turns_text
text_more ts t = text_append ts (t ∷ []) ∙ ap (λ (xs : List ℕ). turns_text ts ++ xs) (append-nil (sheet_line_text (turn_line t) ++ 10 ∷ []))

pub puts_then : (a b c : Option (List ℕ)) (x y : List ℕ) → Puts a b x → Puts b c y → Puts a c (x ++ y)
puts_then None b c x y one two = subst (λ (m : Option (List ℕ)). Puts m c y) one two
puts_then (Some had) b c x y one two = subst (λ (m : Option (List ℕ)). Puts m c y) one two ∙ ap Some (append_assoc had x y)

pub written_more : (a b c : Option (List ℕ)) (groups : List Group) (g : Group) → Puts a b (turns_text (kept_turns groups)) → Puts b c (turns_text g.turns) → Puts a c (turns_text (kept_turns (groups ++ g ∷ [])))
written_more a b c groups g one two =
    subst (λ (x : List ℕ). Puts a c x) (sym (ap turns_text (kept_more groups g) ∙ text_append (kept_turns groups) g.turns)) (puts_then a b c (turns_text (kept_turns groups)) (turns_text g.turns) one two)

-- the same where a prefix is put
pub prefix_more : (a b c : Option (List ℕ)) (groups : List Group) (g : Group) → Puts a b (turns_text (kept_turns groups)) → PutsPrefix b c (turns_text g.turns) → PutsPrefix a c (turns_text (kept_turns (groups ++ g ∷ [])))
prefix_more a b c groups g one two = record {
  prefix = turns_text (kept_turns groups) ++ two.prefix;
  rest = two.rest;
  cut = ap turns_text (kept_more groups g) ∙ text_append (kept_turns groups) g.turns ∙ ap (λ (x : List ℕ). turns_text (kept_turns groups) ++ x) two.cut ∙ sym (append_assoc (turns_text (kept_turns groups)) two.prefix two.rest);
  put = puts_then a b c (turns_text (kept_turns groups)) two.prefix one two.put;
}

pub goes_then : (a b c : DiskMeaning) → Goes a b → Goes b c → Goes a c
goes_then a b c one two =
    let first = one.later in
    let second = two.later in
    record { honest = two.honest ∙ one.honest; fill = two.fill ∙ one.fill; borrowed_as = two.borrowed_as ∙ one.borrowed_as; later = omega (arith, first, second) }

-- what groups left on a disk
pub record OnDisk (r : Replica) (groups : List Group) (old new : DiskMeaning) : Type 0 where
  pub goes : Goes old new
  pub put : IsTrue old.honest → PutInTurn (bodies_in_log r (turns_by_group groups)) old.seen new.seen
  pub has : IsTrue old.honest → HasBehind old.seen (bodies_in_log r (turns_by_group groups)) new.seen
  pub log : IsTrue old.honest → HasLogOf (replica_after r (kept_turns groups)) new.seen
  pub durable : IsTrue old.honest → Only new.seen new.may_leave
  pub any_moment : IsTrue old.honest → LeavesOnly old new (IsLeftOf old.seen (bodies_in_log r (turns_by_group groups)))

-- the bodies of groups with one more
bodies_with : (r : Replica) (groups : List Group) (g : Group) → bodies_in_log r (turns_by_group (groups ++ g ∷ [])) ≡ bodies_in_log r (turns_by_group groups) ++ body_in_log (outputs_from (replica_after r (kept_turns groups)) g.turns)
bodies_with r groups g = ap (bodies_in_log r) (map-append (λ (x : Group). x.turns) groups (g ∷ [])) ∙ bodies_more r groups g.turns

pub disk_more : (r : Replica) (groups : List Group) (g : Group) (a b c : DiskMeaning) → OnDisk r groups a b → Goes b c →
    (IsTrue b.honest → Adds (group_body (outputs_from (replica_after r (kept_turns groups)) g.turns)) b.seen c.seen) →
    (IsTrue b.honest → LeavesOnly b c (IsLeft (bodies_of b.seen) (group_body (outputs_from (replica_after r (kept_turns groups)) g.turns)))) →
    (IsTrue b.honest → IsFull b.seen (group_body (outputs_from (replica_after r (kept_turns groups)) g.turns)) → ⊥) →
    (IsTrue c.honest → HasLogOf (replica_after (replica_after r (kept_turns groups)) g.turns) c.seen) → (IsTrue c.honest → Only c.seen c.may_leave) → OnDisk r (groups ++ g ∷ []) a c
disk_more r groups g a b c on goes adds leaves fits logged durable =
    let body : List ℕ = group_body (outputs_from (replica_after r (kept_turns groups)) g.turns) in
    let bodies : List (List ℕ) = bodies_in_log r (turns_by_group groups) in
    let same = sym (bodies_with r groups g) in
    let trusts : IsTrue a.honest → IsTrue b.honest = λ honest. subst IsTrue (sym on.goes.honest) honest in
    let trusts' : IsTrue a.honest → IsTrue c.honest = λ honest. subst IsTrue (sym (goes.honest ∙ on.goes.honest)) honest in
    let after : replica_after (replica_after r (kept_turns groups)) g.turns ≡ replica_after r (kept_turns (groups ++ g ∷ [])) =
    sym (replica_append r (kept_turns groups) g.turns) ∙ ap (replica_after r) (sym (kept_more groups g)) in
    record {
      goes = goes_then a b c on.goes goes;
      put = λ honest. subst (λ (xs : List (List ℕ)). PutInTurn xs a.seen c.seen) same (put_more bodies body a.seen b.seen c.seen (on.put honest) (adds (trusts honest)) (fits (trusts honest)));
      has = λ honest. subst (λ (xs : List (List ℕ)). HasBehind a.seen xs c.seen) same (has_more a.seen bodies body b.seen c.seen (on.has honest) (adds (trusts honest)));
      log = λ honest. subst (λ (q : Replica). HasLogOf q c.seen) after (logged (trusts' honest));
      durable = λ honest. durable (trusts' honest);
      any_moment = λ honest. subst (λ (xs : List (List ℕ)). LeavesOnly a c (IsLeftOf a.seen xs)) same
          (left_more a b c bodies body (on.has honest) (on.any_moment honest) (leaves (trusts honest)));
    }

pub carries_group : (peers : List ℕ) (r : Replica) (w : Watch) (ts : List (Turn × ℕ)) (groups : List Group) (us : List (Turn × ℕ)) (a b c : PortMeaning) → (have : HaveFates sends_from r groups) →
    (f : GoesOut (packets_for peers (sends_of (outputs_from (replica_after r (kept_turns groups)) us))) b c) → c.framing ≡ b.framing → c.borrowed_as ≡ b.borrowed_as → c.empties ≡ b.empties → c.too_long ≡ b.too_long → c.faults ≡ b.faults →
    (k : AreFates peers (sends_of (outputs_from (replica_after r (kept_turns groups)) us)) f.missing f.out) →
    Carries peers r w ts groups a b → Carries peers r w ts (with_group peers r groups have us f.missing f.out k) a c
carries_group peers r w ts groups us a b c have f framing borrowed_as empties too_long faults k carries =
    let out : List Packet = packets_gone peers r groups in
    let took : List Packet = datagrams_in ts in
    let more : BothTell (Passes b.framing [] f.out) b.traffic c.traffic = sent_passes b.framing f.out b.traffic c.traffic f.traffic in
    let here : BothTell (Passes a.framing [] f.out) b.traffic c.traffic = subst (λ (x : Framing). BothTell (Passes x [] f.out) b.traffic c.traffic) carries.framing more in
    let all : BothTell (Passes a.framing (took ++ []) (out ++ f.out)) a.traffic c.traffic =
    both_then (Passes a.framing took out) (Passes a.framing [] f.out) (Passes a.framing (took ++ []) (out ++ f.out)) a.traffic b.traffic c.traffic
    (passes_then a.framing took [] out f.out) carries.traffic here in
    record {
      traffic = subst (λ (ps : List Packet). BothTell (Passes a.framing took ps) a.traffic c.traffic) (sym (gone_more peers r groups have us f.missing f.out k))
          (subst (λ (ps : List Packet). BothTell (Passes a.framing ps (out ++ f.out)) a.traffic c.traffic) (append-nil took) all);
      empties = subst (λ (x : ℕ). raised_by (empty_receives w r ts) a.empties ≤ x) (sym empties) carries.empties;
      losses = subst (λ (x : ℕ). raised_by x a.losses ≤ c.losses) (sym (missing_more peers r groups have us f.missing f.out k))
          (raised_then (packets_missing peers r groups) f.missing a.losses b.losses c.losses carries.losses f.counted);
      too_long = too_long ∙ carries.too_long;
      faults = subst (λ (x : ℕ). a.faults ≤ x) (sym faults) carries.faults;
      framing = framing ∙ carries.framing;
      borrowed_as = borrowed_as ∙ carries.borrowed_as;
    }
