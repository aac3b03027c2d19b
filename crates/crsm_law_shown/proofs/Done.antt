-- The first entry of a number that has an answer of its operation: it is executed there, and is no repeat.
use Rattle.std.proofs.Common.{◌≡◌, ℕ, ◌<◌, ◌≤◌, List, length, take, Option, Some, None, refl, sym, ap, subst, ◌∙◌, inl, inr, arith}
use Rattle.std.specs.Prelude.{◌⊎◌, slice_get}
use Rattle.std.specs.Option.{IsSomeAnd}
use Rattle.std.proofs.lemmas.Bool.{cases_eq, cases_lt}
use Rattle.std.proofs.lemmas.Option.{slice_get_within}
use Rattle.crsm_base.specs.Store.{Client, after, answer_after, client_row, found, operate, value_at}
use Rattle.crsm_spec.specs.Types.{Answer, Command, Entry, Op}
use Rattle.crsm_spec.specs.Safe.{AnswersAt}
use Rattle.crsm_law_cluster.specs.Clusters.{Event}
use Rattle.crsm_law_cluster.specs.OneList.{one_list}
use Rattle.crsm_law_locks.specs.Grants.{IsRepeat, TakesEffect}
use Rattle.crsm_law_once.specs.Numbered.{AllLowerBefore, HasNoRoomFor, IsAnswered, IsExecuted, IsStaleAt, store_at}
use Rattle.crsm_law_once.specs.Laws.{NewNumbersAreExecuted, PassedNumbersAreStale}
use Rattle.crsm_law_once.proofs.Places.{row_from}
use Rattle.crsm_law_replies.specs.First.{IsFirst, NoneBefore, TellsFirst}
use Rattle.crsm_law_shown.specs.Shown.{IsTheStores}

-- the answer is one of the operation itself
abbrev pub IsOwn : Answer → Type 0
IsOwn a = ((m : ℕ) → a ≡ Answer.Stale m → ⊥) × (a ≡ Answer.NoRoom → ⊥)

-- The first entry of the command's number is one of the command, and has this answer.
pub record IsDoneAt (es : List Entry) (command : Command) (a : Answer) : Type 0 where
  pub first : ℕ
  pub entry : Entry
  pub at : AnswersAt es first entry a
  pub is_command : entry.command ≡ command
  pub none_before : NoneBefore es first command.client command.number

module _ (es : List Entry) (command : Command) (a : Answer) (is_command : (place : ℕ) (e : Entry) → slice_get es place ≡ Some e → e.command.client ≡ command.client → e.command.number ≡ command.number → e.command ≡ command) where
  pub done_at : ((m : ℕ) → a ≡ Answer.Stale m → ⊥) → TellsFirst es command.client command.number a → IsDoneAt es command a
  done_at own t = elim t.tells [
    | inr stale ↦ absurd (own stale.higher stale.says)
    | inl same ↦ (let x = t.is_first.answered in record {
      first = t.first;
      entry = x.entry;
      at = (x.at.0, same ∙ x.at.1);
      is_command = is_command t.first x.entry x.at.0 x.asked_by x.numbered;
      none_before = t.is_first.none_before;
    })
  ]

module _ (es : List Entry) (command : Command) (a : Answer) (d : IsDoneAt es command a) where
  abbrev answered : IsAnswered es d.first command.client command.number a
  answered = record { entry = d.entry; at = d.at; asked_by = ap (λ (c : Command). c.client) d.is_command; numbered = ap (λ (c : Command). c.number) d.is_command }

  pub inside : d.first ≤ length es
  inside = let lt = slice_get_within es d.first d.entry d.at.0 in omega (arith, lt)

  lower : PassedNumbersAreStale → IsOwn a → AllLowerBefore es d.first command.client command.number
  lower passed own r e lt at client = elim (cases_lt e.command.number command.number) [
    | inl less ↦ less
    | inr le ↦ elim (cases_eq e.command.number command.number) [
      | inl same ↦ absurd (d.none_before r e lt at client same)
      | inr other ↦ absurd (never (passed es r d.first command.client command.number e.command.number (answer_after (take r es) e) a lt (above e.command.number command.number le other)
          (record { entry = e; at = (at, refl); asked_by = client; numbered = refl }) answered))
    ]
  ]
    where
      above : (m k : ℕ) → k ≤ m → (m ≡ k → ⊥) → k < m
      above m k le other = omega (arith, le, other)

      never : IsStaleAt es d.first command.client command.number a ⊎ (HasNoRoomFor es d.first command.client × (a ≡ Answer.NoRoom)) → ⊥
      never (inl stale) = own.0 stale.higher stale.says
      never (inr none) = own.1 none.1

  pub is_executed : NewNumbersAreExecuted → PassedNumbersAreStale → IsOwn a → IsExecuted es d.first d.entry a
  is_executed new passed own = elim (new es d.first command.client command.number a answered (lower passed own)) [ inl x ↦ x | inr none ↦ absurd (own.1 none.1) ]

  pub is_no_repeat : ¬ IsRepeat (after (take d.first es)).clients d.entry.command
  is_no_repeat repeat = go (client_row d.entry.command.client (after (take d.first es)).clients) refl repeat
    where
      go : (o : Option Client) → client_row d.entry.command.client (after (take d.first es)).clients ≡ o → IsSomeAnd o (λ row. row.number ≡ d.entry.command.number) → ⊥
      go None is r = absurd r
      go (Some row) is r =
          let f = row_from es d.first d.entry.command.client row is in
          d.none_before f.earlier f.entry f.before f.at (f.asked_by ∙ answered.asked_by) (f.numbered ∙ r ∙ answered.numbered)

-- what a get finds
found_some : (o : Option (List ℕ)) (value : List ℕ) → Answer.Found value ≡ found o → o ≡ Some value
unfolding found
found_some None value e = absurd cc
found_some (Some w) value e = cc

found_none : (o : Option (List ℕ)) → Answer.Missing ≡ found o → o ≡ None
unfolding found
found_none None e = refl
found_none (Some w) e = absurd cc

get_answer : (es : List Entry) (place : ℕ) (e : Entry) (a : Answer) (key : List ℕ) → e.command.op ≡ Op.Get key → IsExecuted es place e a → a ≡ found (value_at key (store_at es place).keys)
unfolding operate
get_answer es place e a key is x = x.answer ∙ ap (λ op. (operate (store_at es place).keys op).1) is

pub found_there : (es : List Entry) (place : ℕ) (e : Entry) (value key : List ℕ) → e.command.op ≡ Op.Get key → IsExecuted es place e (Answer.Found value) → value_at key (after (take place es)).keys ≡ Some value
found_there es place e value key is x = found_some (value_at key (after (take place es)).keys) value (get_answer es place e (Answer.Found value) key is x)

pub missing_there : (es : List Entry) (place : ℕ) (e : Entry) (key : List ℕ) → e.command.op ≡ Op.Get key → IsExecuted es place e Answer.Missing → value_at key (after (take place es)).keys ≡ None
missing_there es place e key is x = found_none (value_at key (after (take place es)).keys) (get_answer es place e Answer.Missing key is x)
