use Rattle.std.proofs.Common.{◌≡◌, ◌∷◌, List, IfOk, map, string_bytes, codes, ap, sym, subst}
use Rattle.std.proofs.lemmas.Result.{err_from_is_err_and}
use Rattle.std.specs.List.{All}
use Rattle.clap.specs.Words.{Text}
use Rattle.crsm_text_words.specs.Answers.{OrderBy, Reads}
use Rattle.crsm_text_words.specs.Orders.{AsksFor}
use Rattle.crsm_text_words.specs.Split.{IsPlain}
use Rattle.crsm_text_words.proofs.Clusters.{peer_by, task_peer}
use Rattle.crsm_text_words.proofs.Leaf.{tail}
use Rattle.crsm_text_words.proofs.read.read_words.Goals as goal

-- the words behind the number of a cluster
plain_rest : (words rest : List Text) (number : Text) → words ≡ codes "cluster" ∷ number ∷ rest → All IsPlain words → All IsPlain rest
plain_rest words rest number is plain = tail number rest (tail (codes "cluster") (number ∷ rest) (subst (λ (ws : List Text). All IsPlain ws) is plain))

pub returns-in-Some-clause-found : goal.returns-in-Some-clause-found
returns-in-Some-clause-found c = λ plain.
    let is = c.in-Some.ensures.found in
    subst (λ (ws : List Text). IfOk c.order_in.result (λ order. AsksFor order ws)) (sym is) (c.order_in.ensures.found (plain_rest _ _ _ is plain))

pub returns-in-Some-clause-only : goal.returns-in-Some-clause-only
returns-in-Some-clause-only c = λ plain order asks.
    let is = c.in-Some.ensures.found in
    c.order_in.ensures.only (plain_rest _ _ _ is plain) order (subst (λ (ws : List Text). AsksFor order ws) is asks)

pub returns-in-Some-clause-any : goal.returns-in-Some-clause-any
returns-in-Some-clause-any c = subst (λ (ws : List Text). OrderBy ws c.order_in.result) (sym c.in-Some.ensures.found) c.order_in.ensures.any

pub returns-in-Some-clause-peer : goal.returns-in-Some-clause-peer
returns-in-Some-clause-peer c = peer_by _ c.order_in.result c.order_in.ensures.any

pub returns-clause-peer : goal.returns-clause-peer
returns-clause-peer c = task_peer (map string_bytes c.args.words.now) c.in_ok-task.task c.in_ok-task.ensures.any
