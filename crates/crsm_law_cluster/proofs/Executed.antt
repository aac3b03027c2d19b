-- Executed entries keep their places and answers.
use Rattle.std.proofs.Common.{◌≡◌, ℕ, List, [], ◌∷◌, ◌++◌, take, refl, sym, ◌∙◌, ap, subst, arith, append_assoc}
use Rattle.std.specs.Prelude.{option_to_list}
use Rattle.std.proofs.lemmas.List.{append-nil}
use Rattle.crsm_base.specs.Store.{answer_after}
use Rattle.crsm_spec.specs.Types.{Entry, Answer, Rec}
use Rattle.crsm_spec.specs.Lists.{IsPrefixOf}
use Rattle.crsm_spec.specs.Log.{Log, executed, entry_of}
use Rattle.crsm_spec.specs.Safe.{AnswersAt}
use Rattle.crsm_fact_log.specs.Logs.{Extends, same, more}
use Rattle.crsm_fact_log.proofs.Lists.{get_inside}
use Rattle.crsm_law_runs.proofs.Drafts.{take_prefix}
use Rattle.crsm_law_runs.proofs.DurableLists.{prefix_get}

one_prefix : (rec : Rec) (log : Log) → IsPrefixOf (executed log) (executed (rec ∷ log))
unfolding executed
one_prefix (Rec.Boot me n) log = ([], append-nil (executed log))
one_prefix (Rec.Prepare e) log = ([], append-nil (executed log))
one_prefix (Rec.Commit s) log = (option_to_list (entry_of log s), refl)
one_prefix (Rec.Adopt place es) log = (es, refl)
one_prefix (Rec.Suspend x) log = ([], append-nil (executed log))
one_prefix (Rec.Promise i b) log = ([], append-nil (executed log))
one_prefix (Rec.Accept i b d) log = ([], append-nil (executed log))
one_prefix (Rec.Decide d) log = ([], append-nil (executed log))
one_prefix (Rec.Enter x) log = ([], append-nil (executed log))

pub prefix_then : {A : Type 0} (xs ys zs : List A) → IsPrefixOf xs ys → IsPrefixOf ys zs → IsPrefixOf xs zs
prefix_then xs ys zs p q = (p.0 ++ q.0, sym (append_assoc xs p.0 q.0) ∙ ap (λ l. l ++ q.0) p.1 ∙ q.1)

-- a log that goes on keeps its executed list in front
pub executed_prefix : (a b : Log) → Extends a b → IsPrefixOf (executed a) (executed b)
executed_prefix a b same = ([], append-nil (executed a))
executed_prefix a b (more {new = c} rec x) = prefix_then (executed a) (executed c) (executed (rec ∷ c)) (executed_prefix a c x) (one_prefix rec c)

pub answers_prefix : (xs ys : List Entry) → IsPrefixOf xs ys → (place : ℕ) (e : Entry) (a : Answer) → AnswersAt xs place e a → AnswersAt ys place e a
answers_prefix xs ys p place e a h =
    let inside = get_inside xs place e h.0 in
    let taken : take place ys ≡ take place xs = subst (λ l. take place l ≡ take place xs) p.1 (take_prefix xs p.0 place (omega (arith, inside))) in
    (prefix_get xs ys p place e h.0, h.1 ∙ ap (λ l. answer_after l e) (sym taken))
