-- The result of a request, call by call.
use Rattle.std.proofs.Common.{◌≡◌, ℕ, ◌+◌, ◌<◌, List, [], ◌∷◌, ◌++◌, Some, None, Result, Ok, Err, IsErrAnd, refl, sym, ap, subst, inl, inr, arith}
use Rattle.std.specs.List.{AllByRecursion}
use Rattle.crsm_base.specs.declared.Command.{Command}
use Rattle.crsm_base.specs.declared.Outcome.{Outcome}
use Rattle.crsm_port_faults.specs.Counts.{Rose}
use Rattle.crsm_port.specs.Cluster.{over}
use Rattle.crsm_port.specs.Meaning.{Framing, Meaning, Packet}
use Rattle.crsm_client.specs.Asking.{Asks, IsOther, IsPaced, request_to}
use Rattle.crsm_client.specs.Exchange.{Exchange, Exchanges, IsLater, IsQuiet, turns_in}
use Rattle.crsm_client.specs.Turns.{BringsReply, ReceivesOnce, SendsRequests, due, requests}
use Rattle.crsm_client.specs.declared.error.AskError.{AskError}
use Rattle.crsm_client.specs.declared.error.AskError.TheVariants.{NoAnswer, PortFault, NoMemory}
use Rattle.crsm_client.proofs.Exchanging.{both, goes_on, none_exchanged, quiet_on, turns_in-both, with_none, with_requests}
use Rattle.crsm_client.proofs.Pacing.{none_paced, one_paced, paced_at}

all_append : {X : Type 0} (P : X → Type 0) (xs ys : List X) → AllByRecursion P xs → AllByRecursion P ys → AllByRecursion P (xs ++ ys)
all_append P [] ys a b = b
all_append P (x ∷ xs) ys a b = (a.0, all_append P xs ys a.1 b)

same_quiet : (m : Meaning) → IsQuiet m m
same_quiet m = record { faults = refl; losses = refl }

later_on : (a b c : Meaning) → IsQuiet a b → IsLater b c → IsLater a c
later_on a b c q l = let f = l.faults in let g = l.losses in record { faults = omega (arith, q.faults, f); losses = omega (arith, q.losses, g) }

-- the second exchange is over a port whose framing is that of the first
on_first : (cluster : ℕ) (request : Packet) (x : Exchange) (a b c : Meaning) → b.framing ≡ a.framing → Exchanges (over cluster b.framing) request x b c → Exchanges (over cluster a.framing) request x b c
on_first cluster request x a b c same e = let P : Framing → Type 0 = λ k. Exchanges (over cluster k) request x b c in subst P same e

module _ (cluster to : ℕ) (command : Command) (resend : ℕ) where
  -- no reply in this number of turns
  abbrev pub SoFar : ℕ → Meaning → Meaning → Type 0
  SoFar turns old new = Asks cluster to command turns resend old new (Err NoAnswer)

  -- and the request went out, where it was due
  pub record Sent (turn : ℕ) (old new : Meaning) : Type 0 where
    pub exchange : Exchange
    pub exchanges : Exchanges (over cluster old.framing) (request_to to command) exchange old new
    pub none : AllByRecursion (IsOther to command) exchange.received
    pub over_turns : turns_in exchange ≡ turn
    pub paced : IsPaced resend (turn + 1) exchange.requests
    pub quiet : IsQuiet old new

  nothing : (m : Meaning) → Exchanges (over cluster m.framing) (request_to to command) (requests 0) m m
  nothing m = none_exchanged (over cluster m.framing) (request_to to command) m m refl refl refl refl

  pub begins : (m : Meaning) → SoFar 0 m m
  begins m = record {
    exchange = requests 0;
    exchanges = nothing m;
    ended = record { none = tt; over = refl; paced = none_paced resend; quiet = same_quiet m };
  }

  -- memory ran out before the first turn
  pub never_began : (turns : ℕ) (m : Meaning) → Asks cluster to command turns resend m m (Err NoMemory)
  never_began turns m = record {
    exchange = requests 0;
    exchanges = nothing m;
    ended = record { within = omega arith; paced = none_paced resend; quiet = same_quiet m };
  }

  -- an error that is passed on
  pub passed_on : (turns : ℕ) (old new : Meaning) (e : AskError) (result : Result Outcome AskError) → IsErrAnd result (λ x. x ≡ e) → Asks cluster to command turns resend old new (Err e)
      → Asks cluster to command turns resend old new result
  passed_on turns old new e (Ok outcome) is a = absurd is
  passed_on turns old new e (Err x) is a = rw is a

  pub never_began_so : (turns : ℕ) (m : Meaning) (result : Result Outcome AskError) → IsErrAnd result (λ e. e ≡ NoMemory) → Asks cluster to command turns resend m m result
  never_began_so turns m (Ok outcome) is = absurd is
  never_began_so turns m (Err e) is = rw is (never_began turns m)

  module _ (T : Type 0) (turn : ℕ) (old now new : Meaning) (a : SoFar turn old now) where
    pub sent : (x : T) → 0 < resend → SendsRequests (due resend turn) cluster (request_to to command) now new (Ok x) → Sent turn old new
    sent x some s = record {
      exchange = record a.exchange { requests = a.exchange.requests + due resend turn };
      exchanges = with_requests (over cluster old.framing) (request_to to command) (due resend turn) a.exchange old now new a.exchanges
          (on_first cluster (request_to to command) (requests (due resend turn)) old now new a.exchanges.same_framing s.0);
      none = a.ended.none;
      over_turns = a.ended.over;
      paced = one_paced resend turn a.exchange.requests some a.ended.paced;
      quiet = quiet_on old now new a.ended.quiet s.1;
    }

    pub not_sent : (n turns : ℕ) (e : AskError) → turn < turns → SendsRequests {T = T} n cluster (request_to to command) now new (Err e) → Asks cluster to command turns resend old new (Err e)
    not_sent n turns NoAnswer within s = absurd s
    not_sent n turns PortFault within (x, rose, later) = record {
      exchange = a.exchange;
      exchanges = with_none (over cluster old.framing) (request_to to command) a.exchange old now new a.exchanges (on_first cluster (request_to to command) (requests 0) old now new a.exchanges.same_framing x);
      ended = record {
        none = a.ended.none;
        within = omega (arith, a.ended.over);
        fault = inl (subst (λ (n : ℕ). Rose n new.losses) a.ended.quiet.losses rose, paced_at resend turn (turns_in a.exchange) a.exchange.requests a.exchange.requests (sym a.ended.over) refl a.ended.paced);
        later = later_on old now new a.ended.quiet later;
      };
    }
    not_sent n turns NoMemory within (x, quiet) = record {
      exchange = a.exchange;
      exchanges = with_none (over cluster old.framing) (request_to to command) a.exchange old now new a.exchanges (on_first cluster (request_to to command) (requests 0) old now new a.exchanges.same_framing x);
      ended = record {
        within = omega (arith, a.ended.over);
        paced = paced_at resend turn (turns_in a.exchange) a.exchange.requests a.exchange.requests (sym a.ended.over) refl a.ended.paced;
        quiet = quiet_on old now new a.ended.quiet quiet;
      };
    }

  module _ (turn : ℕ) (old now new : Meaning) (a : Sent turn old now) where
    module _ (x : Exchange) (r : ReceivesOnce cluster x now new) where
      received : Exchanges (over cluster old.framing) (request_to to command) (both a.exchange x) old new
      received =
          goes_on (over cluster old.framing) (request_to to command) a.exchange x old now new a.exchanges
          (on_first cluster (request_to to command) x old now new a.exchanges.same_framing (r.exchanges (request_to to command)))

      turns_are : turns_in (both a.exchange x) ≡ turn + 1
      turns_are = omega (arith, turns_in-both a.exchange x, r.once, a.over_turns)

      paced_on : (turns : ℕ) → turns ≡ turn + 1 → IsPaced resend turns (a.exchange.requests + x.requests)
      paced_on turns is = paced_at resend (turn + 1) turns a.exchange.requests (a.exchange.requests + x.requests) (sym is) (omega (arith, r.none_sent)) a.paced

      quiet_now : IsQuiet old new
      quiet_now = quiet_on old now new a.quiet r.quiet

    pub goes_unanswered : BringsReply cluster to command now new (Ok None) → SoFar (turn + 1) old new
    goes_unanswered (x, r, none) = record {
      exchange = both a.exchange x;
      exchanges = received x r;
      ended = record {
        none = all_append (IsOther to command) a.exchange.received x.received a.none none;
        over = turns_are x r;
        paced = paced_on x r (turn + 1) refl;
        quiet = quiet_now x r;
      };
    }

    pub answered : (turns : ℕ) (outcome : Outcome) → turn < turns → BringsReply cluster to command now new (Ok (Some outcome)) → Asks cluster to command turns resend old new (Ok outcome)
    answered turns outcome within (x, d, r, is, reply) = record {
      exchange = both a.exchange x;
      exchanges = received x r;
      ended = record {
        reply = record { others = a.exchange.received; reply = d; received_are = ap (λ (ds : List Packet). a.exchange.received ++ ds) is; none_before = a.none; is_reply = reply };
        within = omega (arith, turns_are x r);
        some = let first = (paced_on x r (turns_in (both a.exchange x)) (turns_are x r) 0).1 in omega (arith, first, turns_are x r);
        paced = paced_on x r (turns_in (both a.exchange x)) (turns_are x r);
        quiet = quiet_now x r;
      };
    }

    pub fails : (turns : ℕ) (e : AskError) → turn < turns → BringsReply cluster to command now new (Err e) → Asks cluster to command turns resend old new (Err e)
    fails turns NoAnswer within b = absurd b
    fails turns PortFault within (x, rose, later) = record {
      exchange = a.exchange;
      exchanges = with_none (over cluster old.framing) (request_to to command) a.exchange old now new a.exchanges
          (on_first cluster (request_to to command) (requests 0) old now new a.exchanges.same_framing (x (request_to to command)));
      ended = record {
        none = a.none;
        within = omega (arith, a.over_turns);
        fault = inr (subst (λ (n : ℕ). Rose n new.faults) a.quiet.faults rose, paced_at resend (turn + 1) (turns_in a.exchange + 1) a.exchange.requests a.exchange.requests (ap (λ (n : ℕ). n + 1) (sym a.over_turns)) refl a.paced);
        later = later_on old now new a.quiet later;
      };
    }
    fails turns NoMemory within (x, r) = record {
      exchange = both a.exchange x;
      exchanges = received x r;
      ended = record {
        within = omega (arith, turns_are x r);
        paced = paced_on x r (turns_in (both a.exchange x)) (turns_are x r);
        quiet = quiet_now x r;
      };
    }
