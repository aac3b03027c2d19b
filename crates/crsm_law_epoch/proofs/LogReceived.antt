-- The decision in a control message that can be parsed has members that rise.
use Rattle.std.proofs.Common.{◌≡◌, ℕ, zero, suc, List, [], ◌∷◌, refl, ap, subst, Bool, true, false, cond}
use Rattle.std.specs.Prelude.{Option, Some, None, nat_lt, ◌==◌}
use Rattle.std.proofs.lemmas.Option.{none-some, same_Some}
use Rattle.crsm_base.specs.Members.{IsMembers}
use Rattle.crsm_base.specs.Parser.{Parser, passing, both, made, or_tag, no_tag, whole, u8_at, ◌>>=◌}
use Rattle.crsm_base.specs.Reading.{is_members, members_at, spec_members_at, spec_at, run_at, bare_decision_at, decision_at, is_decision, u64_at, ballot_at, entries_at}
use Rattle.crsm_base.specs.MessageReading.{option_stamp_at, bool_at, control_of, control_at, suspend_at, suspend_ok_at, p1a_at, p1b_at, p1no_at, p2a_at, p2b_at, decide_at, retrieve_at, page_at, vote_at, option_vote_at}
use Rattle.crsm_base.proofs.MembersTests.{test_members}
use Rattle.crsm_spec.specs.Types.{Ballot, Decision, Control}
use Rattle.crsm_law_epoch.specs.Ordered.{IsOrdered}

-- a value and the bytes after it
abbrev got : {X : Type 0} → X → List ℕ → Option (X × List ℕ)
got x rest = Some (x, rest)

-- two values and the bytes after them
abbrev pair_got : {A B : Type 0} → A → B → List ℕ → Option ((A × B) × List ℕ)
pair_got a b rest = Some ((a, b), rest)

-- what is read has a property
abbrev Reads : {X : Type 0} → Parser X → (X → Type 0) → Type 0
Reads {X} at P = (bytes : List ℕ) (x : X) (rest : List ℕ) → at bytes ≡ got x rest → P x

same_first : {X : Type 0} (x y : X) (p q : List ℕ) → got x p ≡ got y q → x ≡ y
same_first {X} x y p q h = let a : X × List ℕ = (x, p) in let b : X × List ℕ = (y, q) in ap (λ t. t.0) (same_Some a b h)

reads_passing : {X : Type 0} (test : X → Bool) (at : Parser X) (P : X → Type 0) → ((x : X) → test x ≡ true → P x) → Reads (passing test at) P
reads_passing {X} test at P f bytes x rest h = go (at bytes) h
  where
    by_test : (b : Bool) (y : X) (r : List ℕ) → test y ≡ b → cond b (got y r) None ≡ got x rest → P x
    by_test true y r e q = subst P (same_first y x r rest q) (f y e)
    by_test false y r e q = absurd (none-some _ q)

    go : (o : Option (X × List ℕ)) → (o >>= λ y. cond (test y.0) (got y.0 y.1) None) ≡ got x rest → P x
    go None q = absurd (none-some _ q)
    go (Some (y, r)) q = by_test (test y) y r refl q

-- a test that does not matter
reads_passed : {X : Type 0} (test : X → Bool) (at : Parser X) (P : X → Type 0) → Reads at P → Reads (passing test at) P
reads_passed {X} test at P f bytes x rest h = go (at bytes) refl h
  where
    by_test : (b : Bool) (y : X) (r : List ℕ) → at bytes ≡ Some (y, r) → cond b (got y r) None ≡ got x rest → P x
    by_test true y r e q = subst P (same_first y x r rest q) (f bytes y r e)
    by_test false y r e q = absurd (none-some _ q)

    go : (o : Option (X × List ℕ)) → at bytes ≡ o → (o >>= λ y. cond (test y.0) (got y.0 y.1) None) ≡ got x rest → P x
    go None e q = absurd (none-some _ q)
    go (Some (y, r)) e q = by_test (test y) y r e q

reads_made : {A X : Type 0} (make : A → X) (at : Parser A) (P : X → Type 0) → Reads at (λ a. P (make a)) → Reads (made make at) P
reads_made {A} {X} make at P f bytes x rest h = go (at bytes) refl h
  where
    go : (o : Option (A × List ℕ)) → at bytes ≡ o → (o >>= λ a. got (make a.0) a.1) ≡ got x rest → P x
    go None e q = absurd (none-some _ q)
    go (Some (a, r)) e q = subst P (same_first (make a) x r rest q) (f bytes a r e)

-- of two values in turn
reads_first : {A B : Type 0} (f : Parser A) (s : Parser B) (P : A → Type 0) → Reads f P → Reads (both f s) (λ p. P p.0)
reads_first {A} {B} f s P h bytes x rest e = go (f bytes) refl e
  where
    then : (a : A) (r : List ℕ) → f bytes ≡ Some (a, r) → (o : Option (B × List ℕ)) → (o >>= λ b. pair_got a b.0 b.1) ≡ got x rest → P x.0
    then a r q None w = absurd (none-some _ w)
    then a r q (Some (b, t)) w = (let p : A × B = (a, b) in subst (λ q. P q.0) (same_first p x t rest w) (h bytes a r q))

    go : (o : Option (A × List ℕ)) → f bytes ≡ o → (o >>= λ a. s a.1 >>= λ b. pair_got a.0 b.0 b.1) ≡ got x rest → P x.0
    go None q w = absurd (none-some _ w)
    go (Some (a, r)) q w = then a r q (s r) w

reads_second : {A B : Type 0} (f : Parser A) (s : Parser B) (P : B → Type 0) → Reads s P → Reads (both f s) (λ p. P p.1)
reads_second {A} {B} f s P h bytes x rest e = go (f bytes) e
  where
    then : (a : A) (r : List ℕ) → (o : Option (B × List ℕ)) → s r ≡ o → (o >>= λ b. pair_got a b.0 b.1) ≡ got x rest → P x.1
    then a r None q w = absurd (none-some _ w)
    then a r (Some (b, t)) q w = (let p : A × B = (a, b) in subst (λ q. P q.1) (same_first p x t rest w) (h r b t q))

    go : (o : Option (A × List ℕ)) → (o >>= λ a. s a.1 >>= λ b. pair_got a.0 b.0 b.1) ≡ got x rest → P x.1
    go None w = absurd (none-some _ w)
    go (Some (a, r)) w = then a r (s r) refl w

-- ---- decisions

reads_members : Reads members_at IsMembers
unfolding members_at
reads_members = reads_passing is_members (λ bytes. u8_at bytes >>= λ len. run_at len.0 len.1) IsMembers test_members

reads_spec_members : Reads spec_members_at (λ p. IsMembers p.1)
unfolding spec_members_at
reads_spec_members [] x rest h = absurd (none-some _ h)
reads_spec_members (b ∷ bytes) x rest h = go (nat_lt b 128) h
  where
    bare : List ℕ → Option (List ℕ) × List ℕ
    bare ms = (None, ms)

    named : List ℕ × List ℕ → Option (List ℕ) × List ℕ
    named p = (Some p.0, p.1)

    go : (c : Bool) → cond c (made bare members_at (b ∷ bytes)) (made named (both spec_at members_at) (b ∷ bytes)) ≡ got x rest → IsMembers x.1
    go true q = reads_made bare members_at (λ p. IsMembers p.1) reads_members (b ∷ bytes) x rest q
    go false q = reads_made named (both spec_at members_at) (λ p. IsMembers p.1) (reads_second spec_at members_at IsMembers reads_members) (b ∷ bytes) x rest q

reads_bare : Reads bare_decision_at IsOrdered
unfolding bare_decision_at
reads_bare = reads_made (λ p. record { epoch = p.0; spec = p.1.0.0; members = p.1.0.1; base_len = p.1.1.0; tail = p.1.1.1 }) (both u64_at (both spec_members_at (both u64_at entries_at))) IsOrdered
    (reads_second u64_at (both spec_members_at (both u64_at entries_at)) (λ p. IsMembers p.0.1) (reads_first spec_members_at (both u64_at entries_at) (λ p. IsMembers p.1) reads_spec_members))

reads_decision : Reads decision_at IsOrdered
unfolding decision_at
reads_decision = reads_passed is_decision bare_decision_at IsOrdered reads_bare

-- ---- control messages

-- a decision that was accepted, if there is one
abbrev pub IsOrderedHeld : Option (Ballot × Decision) → Type 0
IsOrderedHeld None = Unit {0}
IsOrderedHeld (Some v) = IsOrdered v.1

-- each decision that the message names
abbrev pub IsOrderedControl : Control → Type 0
IsOrderedControl (Control.P1b i b accepted) = IsOrderedHeld accepted
IsOrderedControl (Control.P2a i b d) = IsOrdered d
IsOrderedControl (Control.Decide d) = IsOrdered d
IsOrderedControl _ = Unit {0}

reads_held : Reads option_vote_at IsOrderedHeld
unfolding option_vote_at vote_at
reads_held [] x rest h = absurd (none-some _ h)
reads_held (zero ∷ bytes) x rest h = subst IsOrderedHeld (same_first None x bytes rest h) tt
reads_held (suc zero ∷ bytes) x rest h = go (both ballot_at decision_at bytes) refl h
  where
    go : (o : Option ((Ballot × Decision) × List ℕ)) → both ballot_at decision_at bytes ≡ o → (o >>= λ v. got (Some v.0) v.1) ≡ got x rest → IsOrderedHeld x
    go None e q = absurd (none-some _ q)
    go (Some (v, r)) e q = subst IsOrderedHeld (same_first (Some v) x r rest q) (reads_second ballot_at decision_at IsOrdered reads_decision bytes v r e)
reads_held (suc (suc b) ∷ bytes) x rest h = absurd (none-some _ h)

reads_tag : {X : Type 0} (t tag : ℕ) (here : Parser X) (other : ℕ → Parser X) (P : X → Type 0) → Reads here P → Reads (other tag) P → Reads (or_tag t here other tag) P
reads_tag {X} t tag here other P f g bytes x rest h = go (tag == t) h
  where
    go : (c : Bool) → cond c (here bytes) (other tag bytes) ≡ got x rest → P x
    go true q = f bytes x rest q
    go false q = g bytes x rest q

reads_none : {X : Type 0} (tag : ℕ) (P : X → Type 0) → Reads {X = X} (no_tag tag) P
reads_none tag P bytes x rest h = absurd (none-some _ h)

-- a value that names no decision
reads_any : {A : Type 0} (make : A → Control) (at : Parser A) → ((a : A) → IsOrderedControl (make a)) → Reads (made make at) IsOrderedControl
reads_any make at f = reads_made make at IsOrderedControl (λ bytes a rest h. f a)

reads_suspend : Reads suspend_at IsOrderedControl
unfolding suspend_at
reads_suspend = reads_any (λ p. Control.Suspend p.0 p.1) (both u64_at option_stamp_at) (λ a. tt)

reads_suspend_ok : Reads suspend_ok_at IsOrderedControl
unfolding suspend_ok_at
reads_suspend_ok = reads_any (λ p. Control.SuspendOk p.0 p.1.0 p.1.1.0 p.1.1.1.0 p.1.1.1.1.0 p.1.1.1.1.1) (both u64_at (both u64_at (both option_stamp_at (both option_stamp_at (both bool_at entries_at))))) (λ a. tt)

reads_p1a : Reads p1a_at IsOrderedControl
unfolding p1a_at
reads_p1a = reads_any (λ p. Control.P1a p.0 p.1) (both u64_at ballot_at) (λ a. tt)

reads_p1b : Reads p1b_at IsOrderedControl
unfolding p1b_at
reads_p1b = reads_made (λ p. Control.P1b p.0 p.1.0 p.1.1) (both u64_at (both ballot_at option_vote_at)) IsOrderedControl (reads_second u64_at (both ballot_at option_vote_at) (λ p. IsOrderedHeld p.1) (reads_second ballot_at option_vote_at IsOrderedHeld reads_held))

reads_p1no : Reads p1no_at IsOrderedControl
unfolding p1no_at
reads_p1no = reads_any (λ p. Control.P1no p.0 p.1.0 p.1.1) (both u64_at (both ballot_at ballot_at)) (λ a. tt)

reads_p2a : Reads p2a_at IsOrderedControl
unfolding p2a_at
reads_p2a = reads_made (λ p. Control.P2a p.0 p.1.0 p.1.1) (both u64_at (both ballot_at decision_at)) IsOrderedControl (reads_second u64_at (both ballot_at decision_at) (λ p. IsOrdered p.1) (reads_second ballot_at decision_at IsOrdered reads_decision))

reads_p2b : Reads p2b_at IsOrderedControl
unfolding p2b_at
reads_p2b = reads_any (λ p. Control.P2b p.0 p.1) (both u64_at ballot_at) (λ a. tt)

reads_decide : Reads decide_at IsOrderedControl
unfolding decide_at
reads_decide = reads_made (λ d. Control.Decide d) decision_at IsOrderedControl reads_decision

reads_retrieve : Reads retrieve_at IsOrderedControl
unfolding retrieve_at
reads_retrieve = reads_any (λ p. Control.Retrieve p.0 p.1) (both u64_at u64_at) (λ a. tt)

reads_page : Reads page_at IsOrderedControl
unfolding page_at
reads_page = reads_any (λ p. Control.Page p.0 p.1.0 p.1.1) (both u64_at (both u64_at entries_at)) (λ a. tt)

-- the kinds from each tag on

abbrev from_10 : ℕ → Parser Control
from_10 = or_tag 10 page_at no_tag

reads_from_10 : (tag : ℕ) → Reads (from_10 tag) IsOrderedControl
reads_from_10 tag = reads_tag 10 tag page_at no_tag IsOrderedControl reads_page (reads_none tag IsOrderedControl)

abbrev from_9 : ℕ → Parser Control
from_9 = or_tag 9 retrieve_at from_10

reads_from_9 : (tag : ℕ) → Reads (from_9 tag) IsOrderedControl
reads_from_9 tag = reads_tag 9 tag retrieve_at from_10 IsOrderedControl reads_retrieve (reads_from_10 tag)

abbrev from_8 : ℕ → Parser Control
from_8 = or_tag 8 decide_at from_9

reads_from_8 : (tag : ℕ) → Reads (from_8 tag) IsOrderedControl
reads_from_8 tag = reads_tag 8 tag decide_at from_9 IsOrderedControl reads_decide (reads_from_9 tag)

abbrev from_7 : ℕ → Parser Control
from_7 = or_tag 7 p2b_at from_8

reads_from_7 : (tag : ℕ) → Reads (from_7 tag) IsOrderedControl
reads_from_7 tag = reads_tag 7 tag p2b_at from_8 IsOrderedControl reads_p2b (reads_from_8 tag)

abbrev from_6 : ℕ → Parser Control
from_6 = or_tag 6 p2a_at from_7

reads_from_6 : (tag : ℕ) → Reads (from_6 tag) IsOrderedControl
reads_from_6 tag = reads_tag 6 tag p2a_at from_7 IsOrderedControl reads_p2a (reads_from_7 tag)

abbrev from_5 : ℕ → Parser Control
from_5 = or_tag 5 p1no_at from_6

reads_from_5 : (tag : ℕ) → Reads (from_5 tag) IsOrderedControl
reads_from_5 tag = reads_tag 5 tag p1no_at from_6 IsOrderedControl reads_p1no (reads_from_6 tag)

abbrev from_4 : ℕ → Parser Control
from_4 = or_tag 4 p1b_at from_5

reads_from_4 : (tag : ℕ) → Reads (from_4 tag) IsOrderedControl
reads_from_4 tag = reads_tag 4 tag p1b_at from_5 IsOrderedControl reads_p1b (reads_from_5 tag)

abbrev from_3 : ℕ → Parser Control
from_3 = or_tag 3 p1a_at from_4

reads_from_3 : (tag : ℕ) → Reads (from_3 tag) IsOrderedControl
reads_from_3 tag = reads_tag 3 tag p1a_at from_4 IsOrderedControl reads_p1a (reads_from_4 tag)

abbrev from_2 : ℕ → Parser Control
from_2 = or_tag 2 suspend_ok_at from_3

reads_from_2 : (tag : ℕ) → Reads (from_2 tag) IsOrderedControl
reads_from_2 tag = reads_tag 2 tag suspend_ok_at from_3 IsOrderedControl reads_suspend_ok (reads_from_3 tag)

abbrev from_1 : ℕ → Parser Control
from_1 = or_tag 1 suspend_at from_2

reads_from_1 : (tag : ℕ) → Reads (from_1 tag) IsOrderedControl
reads_from_1 tag = reads_tag 1 tag suspend_at from_2 IsOrderedControl reads_suspend (reads_from_2 tag)

reads_control : Reads control_at IsOrderedControl
unfolding control_at u8_at
reads_control [] x rest h = absurd (none-some _ h)
reads_control (tag ∷ bytes) x rest h = reads_from_1 tag bytes x rest h

pub received_ordered : (bytes : List ℕ) (c : Control) → control_of bytes ≡ Some c → IsOrderedControl c
unfolding control_of
received_ordered bytes c h = go (control_at bytes) refl h
  where
    go : (o : Option (Control × List ℕ)) → control_at bytes ≡ o → whole o ≡ Some c → IsOrderedControl c
    go None e q = absurd (none-some c q)
    go (Some (d, [])) e q = subst IsOrderedControl (same_Some d c q) (reads_control bytes d [] e)
    go (Some (d, b ∷ rest)) e q = absurd (none-some c q)
