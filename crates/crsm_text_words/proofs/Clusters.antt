-- The result for a task behind the number of a cluster.
use Rattle.std.proofs.Common.{◌≡◌, ◌∙◌, ◌⊎◌, inl, inr, ℕ, ◌<◌, ◌≤◌, ◌-◌, ◌^◌, ◌||◌, Bool, true, false, cond, refl, ap, sym, subst, map, List, [], ◌∷◌, length, get_or, take, drop, Result, Ok, Err, IfOk, IfErr, arith, codes, decimal, true≢false}
use Rattle.std.specs.List.{All, list_any}
use Rattle.std.specs.Str.{bytes_eq}
use Rattle.std.proofs.lemmas.Fmt.{decimal_injective}
use Rattle.std.proofs.lemmas.List.{take_rest}
use Rattle.clap.specs.Words.{HasKind, IsAmong, Kinds, Text, fault_of, kind_of}
use Rattle.clap.specs.declared.error.Error.{Error}
use Rattle.clap.specs.declared.error.kind.ErrorKind.{ErrorKind}
use Rattle.clap.specs.declared.error.kind.ErrorKind.TheVariants.{OutOfMemory}
use Rattle.crsm_text_words.specs.Answers.{AnswersError, IsShown, OrderBy, OrderMade, OrderRefused, Reads, RefusedFor, TaskBy, TaskFor, asked, asks_text, at_fault, fault, for_nothing, memory, no_memory, nothing, order, shown, text}
use Rattle.crsm_text_words.specs.Orders.{Asks, AsksFor, InFront, NamesCluster, task_words, cluster_words}
use Rattle.crsm_text_words.specs.Plans.{HasOwnPeer}
use Rattle.crsm_text_words.specs.Split.{is_usage, taken}
use Rattle.crsm_text_words.specs.Table.{product_app}
use Rattle.crsm_text_words.specs.declared.order.Order.{Order}
use Rattle.crsm_text_words.specs.declared.order.Task.{Task}
use Rattle.crsm_text_words.specs.declared.order.Task.TheVariants.{Show, Replay, ReplayNode, Node, Client, Operate, Soak, Audit, Lock, Delay, DelayTimes, ReplayMp, Dump}
use Rattle.crsm_text_words.specs.declared.read.WordsError.{WordsError}
use Rattle.crsm_text_words.specs.declared.read.WordsError.TheVariants.{Usage}
use Rattle.crsm_text_words.proofs.Asking.{one_kind}

-- ---- errors of `clap`

any_of : (f : ErrorKind → Bool) (k : ErrorKind) (ks : Kinds) → IsAmong k ks → f k ≡ true → list_any f ks ≡ true
any_of f k [] among holds = absurd among
any_of f k (x ∷ xs) (inl is) holds = ap (λ (b : Bool). b || list_any f xs) (sym (ap f is) ∙ holds)
any_of f k (x ∷ xs) (inr later) holds = go (any_of f k xs later holds) (f x)
  where
    go : list_any f xs ≡ true → (b : Bool) → b || list_any f xs ≡ true
    go so true = refl
    go so false = so

pub answered : (words : List Text) (e : Error) (result : Result Task WordsError) → HasKind (fault_of product_app words) e → AnswersError (kind_of e) result → TaskBy words result
answered words e (Ok task) (inl out) answer = absurd (true≢false (sym answer.1 ∙ ap asks_text out))
answered words e (Ok task) (inr among) answer = shown answer.0 (any_of asks_text (kind_of e) (fault_of product_app words) among answer.1)
answered words e (Err r) has (inl out) = no_memory out
answered words e (Err r) (inl out) (inr answer) = absurd (true≢false (sym answer.1 ∙ ap is_usage out))
answered words e (Err r) (inr among) (inr answer) = at_fault answer.0 (any_of is_usage (kind_of e) (fault_of product_app words) among answer.1)

-- ---- behind the number of a cluster

-- who answers a task in a cluster
abbrev pub Made : ℕ → Task → Result Order WordsError → Type 0
Made cluster task result = IfOk result (λ o. NamesCluster task × (o ≡ record { cluster = cluster; task = task }))

abbrev pub Unmade : Task → Result Order WordsError → Type 0
Unmade task result = IfErr result (λ r. (r ≡ Usage) × (NamesCluster task → ⊥))

pub found_in : (result : Result Order WordsError) (cluster : ℕ) (number : Text) (task : Task) (rest : List Text) → 0 < cluster → cluster < 2 ^ 64 → number ≡ decimal cluster → Asks task rest
    → Made cluster task result → IfOk result (λ o. AsksFor o (codes "cluster" ∷ number ∷ rest))
found_in (Ok o) cluster number task rest above below is asks made =
    subst (λ (x : Order). AsksFor x (codes "cluster" ∷ number ∷ rest)) (sym made.1) ((above, below, made.0, is), asks)
found_in (Err r) cluster number task rest above below is asks made = tt

pub only_in : (result : Result Order WordsError) (cluster : ℕ) (number : Text) (task : Task) (rest : List Text) → cluster < 2 ^ 64 → number ≡ decimal cluster → ((other : Task) → Asks other rest → task ≡ other)
    → Made cluster task result → Unmade task result → (asked_for : Order) → AsksFor asked_for (codes "cluster" ∷ number ∷ rest) → Reads result asked_for
only_in (Ok o) cluster number task rest below is one made unmade asked_for asks =
    let same : cluster ≡ asked_for.cluster = decimal_injective cluster asked_for.cluster below asks.0.1 (sym is ∙ asks.0.3) in
    let task_is : task ≡ asked_for.task = one asked_for.task asks.1 in
    made.1 ∙ (λ i. record { cluster = same i; task = task_is i })
only_in (Err r) cluster number task rest below is one made unmade asked_for asks =
    absurd (unmade.1 (subst NamesCluster (sym (one asked_for.task asks.1)) asks.0.2))

shown_here : (task : Task) → IsShown task → NamesCluster task
shown_here (Show t) is = tt
shown_here Replay is = absurd is
shown_here (ReplayNode me n) is = absurd is
shown_here (Node t) is = absurd is
shown_here (Client to turns command) is = absurd is
shown_here (Operate to members) is = absurd is
shown_here (Soak number n steps) is = absurd is
shown_here (Audit n) is = absurd is
shown_here (Lock t) is = absurd is
shown_here Delay is = absurd is
shown_here DelayTimes is = absurd is
shown_here ReplayMp is = absurd is
shown_here (Dump me n part) is = absurd is

pub any_in : (result : Result Order WordsError) (cluster : ℕ) (number : Text) (task : Task) (rest : List Text) → 0 < cluster → cluster < 2 ^ 64 → number ≡ decimal cluster
    → TaskFor rest task → Made cluster task result → Unmade task result → OrderBy (codes "cluster" ∷ number ∷ rest) result
any_in (Ok o) cluster number task rest above below is (shown is_text why) made unmade =
    let front_is = subst (λ (x : Order). InFront x (codes "cluster" ∷ number ∷ [])) (sym made.1) (above, below, made.0, is) in
    text front_is (subst (λ (x : Order). IsShown x.task) (sym made.1) is_text) why
any_in (Ok o) cluster number task rest above below is (asked none asks) made unmade =
    let front_is = subst (λ (x : Order). InFront x (codes "cluster" ∷ number ∷ [])) (sym made.1) (above, below, made.0, is) in
    order none front_is (subst (λ (x : Order). Asks x.task (taken rest)) (sym made.1) asks)
any_in (Err r) cluster number task rest above below is (shown is_text why) made unmade = absurd (unmade.1 (shown_here task is_text))
any_in (Err r) cluster number task rest above below is (asked none asks) made unmade =
    nothing unmade.0 (λ asked_for in_front asks_for. unmade.1 (one_kind task asked_for.task (taken rest) asks asks_for in_front.2))

-- memory ran out, or the words behind the number are refused
pub refused_in : (number : Text) (rest : List Text) (r : WordsError) → RefusedFor rest r → OrderRefused (codes "cluster" ∷ number ∷ rest) r
refused_in number rest r (no_memory out) = memory out
refused_in number rest r (at_fault usage why) = fault usage why
refused_in number rest r (for_nothing usage none) = nothing usage (λ asked_for in_front asks. none asked_for.task asks)

-- the number is none of a cluster
pub no_number : (number : Text) (rest : List Text) → ((n : ℕ) → 0 < n → n < 2 ^ 64 → number ≡ decimal n → ⊥) → OrderRefused (codes "cluster" ∷ number ∷ rest) Usage
no_number number rest none = nothing refl (λ asked_for in_front asks. none asked_for.cluster in_front.0 in_front.1 in_front.3)

-- ---- a node's own address

own_peer : (task : Task) (words : List Text) → Asks task words → HasOwnPeer task
own_peer (Show t) words asks = tt
own_peer Replay words asks = tt
own_peer (ReplayNode me n) words asks = tt
own_peer (Node t) words asks = asks.0.me
own_peer (Client to turns command) words asks = tt
own_peer (Operate to members) words asks = tt
own_peer (Soak number n steps) words asks = tt
own_peer (Audit n) words asks = tt
own_peer (Lock t) words asks = tt
own_peer Delay words asks = tt
own_peer DelayTimes words asks = tt
own_peer ReplayMp words asks = tt
own_peer (Dump me n part) words asks = tt

shown_peer : (task : Task) → IsShown task → HasOwnPeer task
shown_peer (Show t) is = tt
shown_peer Replay is = tt
shown_peer (ReplayNode me n) is = tt
shown_peer (Node t) is = absurd is
shown_peer (Client to turns command) is = tt
shown_peer (Operate to members) is = tt
shown_peer (Soak number n steps) is = tt
shown_peer (Audit n) is = tt
shown_peer (Lock t) is = tt
shown_peer Delay is = tt
shown_peer DelayTimes is = tt
shown_peer ReplayMp is = tt
shown_peer (Dump me n part) is = tt

made_peer : (words : List Text) (o : Order) → OrderMade words o → HasOwnPeer o.task
made_peer words o (text no_front is_text why) = shown_peer o.task is_text
made_peer words o (order none in_front asks) = own_peer o.task (taken (task_words words)) asks

pub peer_by : (words : List Text) (result : Result Order WordsError) → OrderBy words result → IfOk result (λ o. HasOwnPeer o.task)
peer_by words (Ok o) by = made_peer words o by
peer_by words (Err r) by = tt

pub task_peer : (words : List Text) (task : Task) → TaskFor words task → HasOwnPeer task
task_peer words task (shown is_text why) = shown_peer task is_text
task_peer words task (asked none asks) = own_peer task (taken words) asks

-- ---- the words of a cluster

pub two_words : {A : Type 0} (f : A → Text) (ws : List A) (x y : A) → 2 ≤ length ws → x ≡ get_or ws 0 x → y ≡ get_or ws 1 y → map f ws ≡ f x ∷ f y ∷ map f (take (length ws - 2) (drop 2 ws))
two_words f [] x y some first second = absurd (omega (arith, some))
two_words f (w ∷ []) x y some first second = absurd (omega (arith, some))
two_words f (w ∷ v ∷ ws) x y some first second =
    let rest : take (length (w ∷ v ∷ ws) - 2) (drop 2 (w ∷ v ∷ ws)) ≡ ws = take_rest (w ∷ v ∷ ws) 2 in
    (λ i. f (sym first i) ∷ f (sym second i) ∷ map f (sym rest i))

pub few_words : (ws : List Text) → length ws < 2 → (cluster_words ws ≡ []) × (task_words ws ≡ ws)
few_words [] few = (refl, refl)
few_words (w ∷ []) few = (refl, refl)
few_words (w ∷ v ∷ ws) few = absurd (omega (arith, few))

pub other_words : (ws rest : List Text) (word number : Text) → ws ≡ word ∷ number ∷ rest → bytes_eq word (codes "cluster") ≡ false → (cluster_words ws ≡ []) × (task_words ws ≡ ws)
other_words ws rest word number is other =
    (ap cluster_words is ∙ ap (λ (b : Bool). cond b (word ∷ number ∷ []) []) other, ap task_words is ∙ ap (λ (b : Bool). cond b rest (word ∷ number ∷ rest)) other ∙ sym is)
