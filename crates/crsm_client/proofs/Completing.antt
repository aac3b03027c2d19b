-- There is an answer if and only if the reply was received.
use Rattle.std.proofs.Common.{◌≡◌, ◌∙◌, ℕ, List, [], ◌∷◌, ◌++◌, map, Result, Ok, Err, inl, inr, refl, sym, ap, subst}
use Rattle.std.proofs.lemmas.List.{append_cancel_left}
use Rattle.std.specs.List.{AllByRecursion}
use Rattle.crsm_base.specs.declared.Command.{Command}
use Rattle.crsm_base.specs.declared.Outcome.{Outcome}
use Rattle.crsm_port.specs.Cluster.{over}
use Rattle.crsm_port.specs.Meaning.{Meaning, Packet}
use Rattle.crsm_client.specs.Asking.{Asks, IsAnswered, IsOther, IsReply, IsUnanswered, WhereNotReplied, WhereReplied}
use Rattle.crsm_client.specs.Exchange.{received_of}
use Rattle.crsm_client.specs.declared.error.AskError.{AskError}
use Rattle.crsm_client.specs.declared.error.AskError.TheVariants.{NoAnswer, PortFault, NoMemory}

-- what holds of the images of all holds of one's
one_of : {A B : Type 0} (P : B → Type 0) (f : A → B) (before after : List A) (x : A) → AllByRecursion P (map f (before ++ x ∷ after)) → P (f x)
one_of P f [] after x all = all.0
one_of P f (y ∷ before) after x all = one_of P f before after x all.1

-- an image in a list is that of an element
pub record Splits {A B : Type 0} (f : A → B) (xs : List A) (y : B) : Type 0 where
  pub before : List A
  pub at : A
  pub after : List A
  pub are : xs ≡ before ++ at ∷ after
  pub image : f at ≡ y

module _ {A B : Type 0} (f : A → B) where
  behind : (x : A) (xs : List A) (y : B) → Splits f xs y → Splits f (x ∷ xs) y
  behind x xs y s = record { before = x ∷ s.before; at = s.at; after = s.after; are = ap (λ (l : List A). x ∷ l) s.are; image = s.image }

  split : (xs : List A) (ys : List B) (y : B) → map f xs ≡ ys ++ y ∷ [] → Splits f xs y
  split [] [] y is = absurd (cc)
  split [] (z ∷ ys) y is = absurd (cc)
  split (x ∷ xs) [] y is = record { before = []; at = x; after = xs; are = refl; image = cc }
  split (x ∷ xs) (z ∷ ys) y is = behind x xs y (split xs ys y (cc))

module _ (cluster to : ℕ) (command : Command) (turns resend : ℕ) (old new : Meaning) where
  pub complete : (result : Result Outcome AskError) → Asks cluster to command turns resend old new result → WhereReplied cluster to command old new (IsAnswered result)
  complete (Ok outcome) a t u is at took no_fault no_loss = tt
  complete (Err NoMemory) a t u is at took no_fault no_loss = tt
  complete (Err NoAnswer) a t u is at took no_fault no_loss =
      let moves = a.exchanges.moves t u is at in
      let f : Packet → Packet = received_of (over cluster old.framing) in
      let same : moves.packets ≡ took.before ++ took.reply ∷ took.after = append_cancel_left t.taken moves.packets (took.before ++ took.reply ∷ took.after) (sym moves.taken ∙ took.taken) in
      let all = subst (λ (ds : List Packet). AllByRecursion (IsOther to command) ds) (moves.received_are ∙ ap (map f) same) a.ended.none in
      one_of (IsOther to command) f took.before took.after took.reply all took.outcome took.is_reply
  complete (Err PortFault) a t u is at took no_fault no_loss = elim a.ended.fault [ inl lost ↦ no_loss lost.0 | inr failed ↦ no_fault failed.0 ]

  pub unanswered : (result : Result Outcome AskError) → Asks cluster to command turns resend old new result → WhereNotReplied cluster to command old new (IsUnanswered result)
  unanswered (Err NoAnswer) a t u is at none no_fault no_loss = tt
  unanswered (Err NoMemory) a t u is at none no_fault no_loss = tt
  unanswered (Err PortFault) a t u is at none no_fault no_loss = elim a.ended.fault [ inl lost ↦ no_loss lost.0 | inr failed ↦ no_fault failed.0 ]
  unanswered (Ok outcome) a t u is at none no_fault no_loss =
      let moves = a.exchanges.moves t u is at in
      let reply = a.ended.reply in
      let cut = split (received_of (over cluster old.framing)) moves.packets reply.others reply.reply (sym moves.received_are ∙ reply.received_are) in
      none (record {
        before = cut.before;
        reply = cut.at;
        after = cut.after;
        taken = moves.taken ∙ ap (λ (ds : List Packet). t.taken ++ ds) cut.are;
        outcome = outcome;
        is_reply = subst (IsReply to command outcome) (sym cut.image) reply.is_reply;
      })
