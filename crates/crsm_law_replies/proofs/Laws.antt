-- The laws of clients' numbers in histories, from those of lists.
use Rattle.std.proofs.Common.{◌≡◌, ℕ, List, subst, inl, inr}
use Rattle.std.specs.Prelude.{◌⊎◌}
use Rattle.crsm_spec.specs.Types.{Answer, Entry}
use Rattle.crsm_spec.specs.Lists.{IsPrefixOf}
use Rattle.crsm_spec.specs.Log.{executed}
use Rattle.crsm_law_cluster.specs.Clusters.{log_in}
use Rattle.crsm_law_cluster.specs.OneList.{one_list}
use Rattle.crsm_law_cluster.specs.HistoryLaws.{LogFilesAgree}
use Rattle.crsm_law_cluster.specs.ClusterLaws.{AnswersAreRight}
use Rattle.crsm_law_once.specs.Numbered.{ChangesKeys, IsAnswered}
use Rattle.crsm_law_once.specs.Laws.{AnswersTellTheFirst, OldNumbersChangeNothing, OneChangesKeys}
use Rattle.crsm_law_replies.specs.Laws.{NumbersChangeKeysOnce, RepliesTellTheFirst}
use Rattle.crsm_law_replies.proofs.Lines.{IsLineFor, replied_line}
use Rattle.crsm_law_replies.proofs.First.{tells_first}
use Rattle.crsm_law_replies.proofs.Prefixes.{answered_in, changes_in}

pub replies_tell : AnswersAreRight → OldNumbersChangeNothing → AnswersTellTheFirst → RepliesTellTheFirst
replies_tell right old first n h q i k reply a s says =
    let line = subst (λ o. IsLineFor o reply.line) says (replied_line n h i k reply s) in
    let r = (right n h q).answered i k line.0 line.1 line.2 line.3 a reply s line.4 in
    tells_first old first (one_list n h) line.3 reply.client reply.number a (record { entry = r.entry; at = r.at; asked_by = r.client; numbered = r.number })

module _ (xs ys : List Entry) (p q client number : ℕ) (a b : Answer) where
  pub one_place : OneChangesKeys → IsPrefixOf xs ys ⊎ IsPrefixOf ys xs → IsAnswered xs p client number a → IsAnswered ys q client number b → ChangesKeys xs p → ChangesKeys ys q → p ≡ q
  one_place one (inl f) x y at_p at_q = one ys p q client number a b (answered_in xs ys f p client number a x) y (changes_in xs ys f p client number a x at_p) at_q
  one_place one (inr f) x y at_p at_q = one xs p q client number a b x (answered_in ys xs f q client number b y) at_p (changes_in ys xs f q client number b y at_q)

pub keys_once : LogFilesAgree → OneChangesKeys → NumbersChangeKeysOnce
keys_once agree one n h q c d at_c at_d j k p r client number a b =
    one_place (executed (log_in c j)) (executed (log_in d k)) p r client number a b one (agree n h q.most q.lawful q.short c d at_c at_d j k)
