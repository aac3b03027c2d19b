-- A catalog that follows the commands of an executed list.
use Rattle.std.proofs.Common.{◌≡◌, ℕ, ◌+◌, zero, suc, arith, true, false, List, [], ◌∷◌, ◌++◌, take, Some, ap, sym, ◌∙◌, subst}
use Rattle.std.specs.Prelude.{slice_get}
use Rattle.crsm_base.specs.declared.Answer.{Answer}
use Rattle.crsm_base.specs.declared.Command.{Command}
use Rattle.crsm_base.specs.declared.Entry.{Entry}
use Rattle.crsm_base.specs.Store.{Client, Rows, after, apply, with_client}
use Rattle.crsm_cmd_dump.specs.Catalogs.{Lists, changed, clients_of, is_done, is_executed}
use Rattle.crsm_cmd_dump.specs.declared.catalog.Catalog.{Catalog}
use Rattle.crsm_cmd_dump.proofs.Following.{after_more, executed_follows, followed, others_keep}

module _ (old new : Catalog) (rows : Rows) (c : Command) (answer : Answer) (applied : (new.store, answer) ≡ apply old.store c) (lists : Lists old rows) where
  at_rows : (new.store, answer) ≡ apply rows c
  at_rows = subst (λ (r : Rows). (new.store, answer) ≡ apply r c) lists.store applied

  -- of a command that is executed
  pub took_executed : is_executed (clients_of old.clients.entries) c ≡ true → new.keys.entries ≡ changed c.op (is_done answer) old.keys.entries
      → clients_of new.clients.entries ≡ with_client (record { client = c.client; number = c.number; answer = answer }) (clients_of old.clients.entries)
      → Lists new (apply rows c).0
  took_executed executed keys clients =
      let answer_is : answer ≡ (apply rows c).1 = ap (λ p. p.1) at_rows in
      let follows = executed_follows rows c (subst (λ (cs : List Client). is_executed cs c ≡ true) lists.clients executed) in
      let then : (apply rows c).0 ≡ followed rows c answer = follows ∙ ap (followed rows c) (sym answer_is) in
      record {
        store = ap (λ p. p.0) at_rows;
        keys = keys ∙ ap (changed c.op (is_done answer)) lists.keys ∙ sym (ap (λ (r : Rows). r.keys) then);
        clients = clients ∙ ap (with_client (record { client = c.client; number = c.number; answer = answer })) lists.clients ∙ sym (ap (λ (r : Rows). r.clients) then);
      }

  -- of another command
  pub took_other : is_executed (clients_of old.clients.entries) c ≡ false → new.keys.entries ≡ old.keys.entries
      → clients_of new.clients.entries ≡ clients_of old.clients.entries → Lists new (apply rows c).0
  took_other other keys clients =
      let kept = others_keep rows c (subst (λ (cs : List Client). is_executed cs c ≡ false) lists.clients other) in
      record {
        store = ap (λ p. p.0) at_rows;
        keys = keys ∙ lists.keys ∙ sym (ap (λ (r : Rows). r.keys) kept);
        clients = clients ∙ lists.clients ∙ sym (ap (λ (r : Rows). r.clients) kept);
      }

take_more : (es : List Entry) (p : ℕ) (e : Entry) → slice_get es p ≡ Some e → take (suc p) es ≡ take p es ++ e ∷ []
take_more [] p e there = absurd (cc)
take_more (x ∷ es) zero e there = let same : x ≡ e = cc in ap (λ (y : Entry). y ∷ []) same
take_more (x ∷ es) (suc p) e there = ap (λ (l : List Entry). x ∷ l) (take_more es p e there)

one_more : (p : ℕ) → suc p ≡ p + 1
one_more p = omega arith

-- one more entry of the list is followed
pub listed_more : (catalog : Catalog) (es : List Entry) (p : ℕ) (e : Entry) → slice_get es p ≡ Some e → Lists catalog (apply (after (take p es)) e.command).0 → Lists catalog (after (take (p + 1) es))
listed_more catalog es p e there lists =
    subst (λ (k : ℕ). Lists catalog (after (take k es))) (one_more p) (subst (Lists catalog) (sym (after_more (take p es) e) ∙ ap after (sym (take_more es p e there))) lists)
