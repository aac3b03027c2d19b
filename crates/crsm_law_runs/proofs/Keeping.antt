-- Executed entries are in the records of a log.
use Rattle.std.proofs.Common.{◌≡◌, ℕ, zero, suc, [], ◌∷◌, refl, inl, inr}
use Rattle.std.specs.Prelude.{Option, Some, None, slice_get, option_to_list}
use Rattle.std.proofs.lemmas.Option.{none-some, same_Some}
use Rattle.crsm_spec.specs.Types.{Entry, Rec}
use Rattle.crsm_spec.specs.Lists.{Among}
use Rattle.crsm_spec.specs.Log.{Log, executed, entry_of}
use Rattle.crsm_spec.specs.Durable.{HoldsEntry}
use Rattle.crsm_law_steps.proofs.Happen.{got_among}
use Rattle.crsm_law_agreement.proofs.Choice.{contains_among}
use Rattle.crsm_law_agreement.proofs.Lists.{get_append}
use Rattle.crsm_law_agreement.proofs.Placed.{entry_is}

pub record Keeps (log : Log) (x : Entry) : Type 0 where
  pub rec : Rec
  pub among : Among log rec
  pub holds : HoldsEntry x rec

keeps_more : (r : Rec) (log : Log) (x : Entry) → Keeps log x → Keeps (r ∷ log) x
keeps_more r log x k = record { rec = k.rec; among = inr k.among; holds = k.holds }

-- an executed entry is in the record that executed it, or in the one that logged it
pub executed_kept : (log : Log) (p : ℕ) (x : Entry) → slice_get (executed log) p ≡ Some x → Keeps log x
unfolding executed
executed_kept [] p x q = absurd (none-some x q)
executed_kept (Rec.Commit s ∷ log) p x q = elim (get_append (executed log) (option_to_list (entry_of log s)) p x q) [
  | inl a ↦ keeps_more (Rec.Commit s) log x (executed_kept log p x a)
  | inr a ↦ new a.0 (entry_of log s) refl a.2
]
  where
    new : (i : ℕ) (o : Option Entry) → entry_of log s ≡ o → slice_get (option_to_list o) i ≡ Some x → Keeps (Rec.Commit s ∷ log) x
    new i None e g = absurd (none-some x g)
    new (suc i) (Some z) e g = absurd (none-some x g)
    new zero (Some z) e g = record { rec = Rec.Prepare z; among = inr (entry_is log s z e).0; holds = same_Some z x g }
executed_kept (Rec.Adopt place es ∷ log) p x q = elim (get_append (executed log) es p x q) [
  | inl a ↦ keeps_more (Rec.Adopt place es) log x (executed_kept log p x a)
  | inr a ↦ record { rec = Rec.Adopt place es; among = inl refl; holds = contains_among es x (got_among es a.0 x a.2) }
]
executed_kept (Rec.Boot me n ∷ log) p x q = keeps_more (Rec.Boot me n) log x (executed_kept log p x q)
executed_kept (Rec.Prepare f ∷ log) p x q = keeps_more (Rec.Prepare f) log x (executed_kept log p x q)
executed_kept (Rec.Suspend e ∷ log) p x q = keeps_more (Rec.Suspend e) log x (executed_kept log p x q)
executed_kept (Rec.Promise i b ∷ log) p x q = keeps_more (Rec.Promise i b) log x (executed_kept log p x q)
executed_kept (Rec.Accept i b d ∷ log) p x q = keeps_more (Rec.Accept i b d) log x (executed_kept log p x q)
executed_kept (Rec.Decide d ∷ log) p x q = keeps_more (Rec.Decide d) log x (executed_kept log p x q)
executed_kept (Rec.Enter e ∷ log) p x q = keeps_more (Rec.Enter e) log x (executed_kept log p x q)
