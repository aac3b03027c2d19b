-- What a client that asked for a command knows: its reply was sent by a node, for an entry of its command.
use Rattle.std.proofs.Common.{◌≡◌, ℕ, List, [], ◌∷◌, ◌++◌, refl, sym, ap, subst, inl, inr}
use Rattle.std.specs.Prelude.{Result, Ok, Err, Some, slice_get}
use Rattle.crsm_spec.specs.Types.{Answer, Command, Entry, Outcome}
use Rattle.crsm_spec.specs.Lists.{Among}
use Rattle.crsm_client.specs.Asking.{Asks, Ends, EndsWithReply}
use Rattle.crsm_client.specs.Exchange.{Exchange}
use Rattle.crsm_client.specs.declared.error.AskError.{AskError}
use Rattle.crsm_port.specs.Meaning.{Meaning, Packet}
use Rattle.crsm_law_cluster.specs.Clusters.{Event}
use Rattle.crsm_law_cluster.specs.OneList.{one_list}
use Rattle.crsm_law_cluster.specs.ClusterLaws.{IsHistory}
use Rattle.crsm_law_cluster.specs.RequestLaws.{EntriesWereSubmitted}
use Rattle.crsm_law_once.specs.Laws.{OneChangesKeys}
use Rattle.crsm_law_replies.specs.First.{TellsFirst}
use Rattle.crsm_law_replies.specs.Laws.{RepliesTellTheFirst}
use Rattle.crsm_law_shown.specs.Heard.{ComeFromNodes, IsOnlyUseOf, IsSentByNode}
use Rattle.crsm_law_shown.specs.Shown.{IsDoneOnce, IsKnown, IsTheStores}

last_among : {X : Type 0} (xs : List X) (x : X) → Among (xs ++ x ∷ []) x
last_among [] x = inl refl
last_among (y ∷ xs) x = inr (last_among xs x)

module _ (tell : RepliesTellTheFirst) (submitted : EntriesWereSubmitted) (once : OneChangesKeys) (n : ℕ) (h : List Event) (q : IsHistory n h) (command : Command) (only : IsOnlyUseOf n h command) where
  -- an entry of the client's number is of this command
  pub is_command : (place : ℕ) (e : Entry) → slice_get (one_list n h) place ≡ Some e → e.command.client ≡ command.client → e.command.number ≡ command.number → e.command ≡ command
  is_command place e at client number = let s = submitted n h q place e at in only s.0 e.stamp.origin s.1 e.command s.2.taken client number

  tells : (a : Answer) → IsSentByNode n h command.client command.number (Outcome.Answered a) → TellsFirst (one_list n h) command.client command.number a
  tells a s =
      subst (λ m. TellsFirst (one_list n h) command.client m a) s.to_number
      (subst (λ c. TellsFirst (one_list n h) c s.reply.number a) s.to_client (tell n h q s.event s.node s.reply a s.replied s.says))

  the_stores : (a : Answer) → TellsFirst (one_list n h) command.client command.number a → IsTheStores n h command a
  the_stores a t =
      let s = submitted n h q t.place t.here.entry t.here.at.0 in
      record {
        place = t.place;
        entry = t.here.entry;
        at = t.here.at;
        is_command = is_command t.place t.here.entry t.here.at.0 t.here.asked_by t.here.numbered;
        event = s.0;
        address = s.1;
        submitted = s.2;
        tells = t;
      }

  done_once : IsDoneOnce n h command
  done_once p r a b = once (one_list n h) p r command.client command.number a b

  pub known : (cluster to turns resend : ℕ) (old new : Meaning) (result : Result Outcome AskError) (asked : Asks cluster to command turns resend old new result) → ComeFromNodes n h asked.exchange.received → IsKnown n h command result
  known cluster to turns resend old new result asked come = go result asked.ended
    where
      sent : (outcome : Outcome) → EndsWithReply to command outcome asked.exchange.received → IsSentByNode n h command.client command.number outcome
      sent outcome r =
          come r.reply (subst (λ (ds : List Packet). Among ds r.reply) (sym r.received_are) (last_among r.others r.reply)) command.client command.number outcome r.is_reply.spelt

      go : (result : Result Outcome AskError) → Ends to command turns resend old new asked.exchange result → IsKnown n h command result
      go (Ok (Outcome.Answered a)) ended = the_stores a (tells a (sent (Outcome.Answered a) ended.reply))
      go (Ok (Outcome.Refused why)) ended = done_once
      go (Err e) ended = done_once
