-- The replica that a state stands for after one change.
use Rattle.std.proofs.Common.{◌≡◌, ◌<◌, ◌≤◌, ℕ, ◌+◌, Bool, true, false, List, [], ◌∷◌, ◌++◌, map, refl, sym, ◌∙◌, subst, arith, cond, count_by}
use Rattle.std.specs.Prelude.{◌&&◌, ◌==◌, nat_eq, Option, None, Some}
use Rattle.std.specs.Global.{Vec}
use Rattle.std.specs.List.{AllByRecursion}
use Rattle.std.proofs.lemmas.Bool.Decides.{nat_tests}
use Rattle.std.proofs.lemmas.List.Sums.{sum_by-cons}
use Rattle.crsm_base.specs.Records.{FitsRec}
use Rattle.crsm_base.specs.Spelling.{FitsStamp}
use Rattle.crsm_ledger.specs.declared.ledger.Ledger.{Ledger}
use Rattle.crsm_ledger.specs.Ledger.{LedgerStands}
use Rattle.crsm_fact_log.proofs.Lists.{all-push, all-append}
use Rattle.crsm_replica_coordinator.specs.declared.coordinator.Coordinator.{Coordinator as CoordinatorInMemory}
use Rattle.crsm_replica_coordinator.specs.Coordinator.{CoordinatorStands}
use Rattle.crsm_replica_output.specs.declared.output.Output.{Output}
use Rattle.crsm_replica_output.specs.Made.{Made, OutputStands, made_of, nothing}
use Rattle.crsm_spec.specs.Types.{Stamp, Decision, Rec, InEpoch, Datagram, Line}
use Rattle.crsm_spec.specs.Choice.{when◌then◌otherwise◌}
use Rattle.crsm_spec.specs.Log.{Log, decision, boots, is_boot}
use Rattle.crsm_spec.specs.Fits.{fits, booted}
use Rattle.crsm_spec.specs.Lines.{lines_of}
use Rattle.crsm_spec.specs.Replica.{Coordinator, Waiting}
use Rattle.crsm_spec.specs.Draft.{Draft, Reply, begun}
use Rattle.crsm_spec.specs.Step.{if_fitting}
use Rattle.crsm_segment.specs.Gather.{GatherStands}
use Rattle.crsm_spec.specs.Parts.{Piece}
use Rattle.crsm_spec.specs.Clock.{u64_max}
use Rattle.crsm_replica_epoch.specs.declared.state.EpochState.{EpochState}
use Rattle.crsm_replica_epoch.specs.EpochState.{EpochStands, IsNoEnter}
use Rattle.crsm_replica_epoch.proofs.Kept.{beside}
use Rattle.crsm_replica_results.proofs.Kept.{rises_kept, sent_kept}
use Rattle.crsm_replica.specs.declared.state.ReplicaState.{ReplicaState}
use Rattle.crsm_replica.specs.declared.gathered.Gathered.{Gathered}
use Rattle.crsm_replica.specs.declared.state.Waiting.{Waiting as WaitingInMemory}
use Rattle.crsm_replica.specs.Recorded.{Applied, InBoth, Recorded}
use Rattle.crsm_replica.specs.Sound.{FitsSend, FitsReply, FitsWaiting, FitsPushed}
use Rattle.crsm_replica.specs.Replica.{StandsInside, IsPlain, learnt, on_paper}

-- ---- what the step has made

pub sent : (state : ReplicaState) (x : Draft) (output : Output) (excess : List Line) (sends : List (ℕ × Datagram)) (replies : List Reply) → StandsInside state x →
    OutputStands output (record (made_of x) { excess = excess; sends = sends; replies = replies }) → AllByRecursion FitsSend sends → AllByRecursion FitsReply replies →
    StandsInside (record state { output = output }) (record x { excess = excess; sends = sends; replies = replies })
sent state x output excess sends replies s holds fit fits_too = record {
  me = s.me;
  ledger = s.ledger;
  epoch_state = s.epoch_state;
  gathered = s.gathered;
  coordinator = s.coordinator;
  made = s.made;
  waiting = s.waiting;
  output = holds;
  told = s.told;
  sound = record { number = s.sound.number; some = s.sound.some; few = s.sound.few; spelt = s.sound.spelt; batch = s.sound.batch; sends = fit; replies = fits_too; waiting = s.sound.waiting; owed = s.sound.owed; pushed = s.sound.pushed; made = s.sound.made; rises = s.sound.rises; later = s.sound.later; kept = s.sound.kept; on_record = s.sound.on_record; fitting = s.sound.fitting };
}

-- ---- what is kept of the epoch

pub ran : (state : ReplicaState) (x : Draft) (epoch_state : EpochState) (issued : List ℕ) (received : List (ℕ × ℕ)) (votes : List (Stamp × ℕ)) (owed : List Stamp)
    (pushed : List (ℕ × InEpoch)) (acked : List (ℕ × ℕ)) (taken : List ℕ) → StandsInside state x →
    EpochStands epoch_state (record x.replica { issued = issued; received = received; votes = votes; owed = owed; pushed = pushed; acked = acked; taken = taken }) →
    AllByRecursion FitsStamp owed → AllByRecursion FitsPushed pushed →
    StandsInside (record state { epoch_state = epoch_state })
    (record x { replica = record x.replica { issued = issued; received = received; votes = votes; owed = owed; pushed = pushed; acked = acked; taken = taken } })
ran state x epoch_state issued received votes owed pushed acked taken s runs fit fits_too = record {
  me = s.me;
  ledger = s.ledger;
  epoch_state = runs;
  gathered = s.gathered;
  coordinator = s.coordinator;
  made = s.made;
  waiting = s.waiting;
  output = s.output;
  told = s.told;
  sound = record { number = s.sound.number; some = s.sound.some; few = s.sound.few; spelt = s.sound.spelt; batch = s.sound.batch; sends = s.sound.sends; replies = s.sound.replies; waiting = s.sound.waiting; owed = fit; pushed = fits_too; made = s.sound.made; rises = s.sound.rises; later = s.sound.later; kept = s.sound.kept; on_record = s.sound.on_record; fitting = s.sound.fitting };
}

-- ---- the coordinator, the parts and the waiting clients

pub noted : (state : ReplicaState) (x : Draft) (coordinator : CoordinatorInMemory) (m : Coordinator) → StandsInside state x → CoordinatorStands coordinator x.replica.me x.replica.n (decision x.replica.log) m →
    StandsInside (record state { coordinator = coordinator }) (record x { replica = record x.replica { coordinator = m } })
noted state x coordinator m s is = record {
  me = s.me;
  ledger = s.ledger;
  epoch_state = beside state.epoch_state x.replica x.replica.parts m x.replica.made x.replica.waiting s.epoch_state;
  gathered = s.gathered;
  coordinator = is;
  made = s.made;
  waiting = s.waiting;
  output = s.output;
  told = s.told;
  sound = record { number = s.sound.number; some = s.sound.some; few = s.sound.few; spelt = s.sound.spelt; batch = s.sound.batch; sends = s.sound.sends; replies = s.sound.replies; waiting = s.sound.waiting; owed = s.sound.owed; pushed = s.sound.pushed; made = s.sound.made; rises = s.sound.rises; later = s.sound.later; kept = s.sound.kept; on_record = s.sound.on_record; fitting = s.sound.fitting };
}

pub awaits : (state : ReplicaState) (x : Draft) (now : Vec WaitingInMemory) (waiting : List Waiting) → StandsInside state x → map on_paper now.items ≡ waiting → AllByRecursion FitsWaiting waiting →
    StandsInside (record state { waiting = now }) (record x { replica = record x.replica { waiting = waiting } })
awaits state x now waiting s is fit = record {
  me = s.me;
  ledger = s.ledger;
  epoch_state = beside state.epoch_state x.replica x.replica.parts x.replica.coordinator x.replica.made waiting s.epoch_state;
  gathered = s.gathered;
  coordinator = s.coordinator;
  made = s.made;
  waiting = is;
  output = s.output;
  told = s.told;
  sound = record { number = s.sound.number; some = s.sound.some; few = s.sound.few; spelt = s.sound.spelt; batch = s.sound.batch; sends = s.sound.sends; replies = s.sound.replies; waiting = fit; owed = s.sound.owed; pushed = s.sound.pushed; made = s.sound.made; rises = s.sound.rises; later = s.sound.later; kept = s.sound.kept; on_record = s.sound.on_record; fitting = s.sound.fitting };
}

pub gathered_one : (state : ReplicaState) (x : Draft) (gathered : Gathered) (parts : List Piece) → StandsInside state x → GatherStands gathered parts →
    StandsInside (record state { gathered = gathered }) (record x { replica = record x.replica { parts = parts } })
gathered_one state x gathered parts s has = record {
  me = s.me;
  ledger = s.ledger;
  epoch_state = beside state.epoch_state x.replica parts x.replica.coordinator x.replica.made x.replica.waiting s.epoch_state;
  gathered = has;
  coordinator = s.coordinator;
  made = s.made;
  waiting = s.waiting;
  output = s.output;
  told = s.told;
  sound = record { number = s.sound.number; some = s.sound.some; few = s.sound.few; spelt = s.sound.spelt; batch = s.sound.batch; sends = s.sound.sends; replies = s.sound.replies; waiting = s.sound.waiting; owed = s.sound.owed; pushed = s.sound.pushed; made = s.sound.made; rises = s.sound.rises; later = s.sound.later; kept = s.sound.kept; on_record = s.sound.on_record; fitting = s.sound.fitting };
}

pub sent_one : (state : ReplicaState) (x : Draft) (output : Output) (more : List (ℕ × Datagram)) (made : ℕ) → StandsInside state x →
    OutputStands output (record (made_of x) { sends = x.sends ++ more }) → AllByRecursion FitsSend more → made ≡ x.replica.made + 1 → made < 18446744073709551616 →
    StandsInside (record state { output = output; made = made }) (record x { replica = record x.replica { made = x.replica.made + 1 }; sends = x.sends ++ more })
sent_one state x output more made s holds fit next small = record {
  me = s.me;
  ledger = s.ledger;
  epoch_state = beside state.epoch_state x.replica x.replica.parts x.replica.coordinator (x.replica.made + 1) x.replica.waiting s.epoch_state;
  gathered = s.gathered;
  coordinator = s.coordinator;
  made = next;
  waiting = s.waiting;
  output = holds;
  told = s.told;
  sound = record { number = s.sound.number; some = s.sound.some; few = s.sound.few; spelt = s.sound.spelt; batch = s.sound.batch; sends = all-append FitsSend x.sends more s.sound.sends fit; replies = s.sound.replies; waiting = s.sound.waiting; owed = s.sound.owed; pushed = s.sound.pushed; made = subst (λ (n : ℕ). n < 18446744073709551616) next small; rises = s.sound.rises; later = s.sound.later; kept = s.sound.kept; on_record = s.sound.on_record; fitting = s.sound.fitting };
}

pub is_last : (n : ℕ) → n ≡ u64_max → (n == u64_max) ≡ true
is_last n e = grind (arith, nat_tests, e)

last_by_test : (n : ℕ) (b : Bool) → nat_eq n u64_max ≡ b → (n ≡ u64_max → ⊥) → b ≡ false
last_by_test n true e other = absurd (other (grind (arith, nat_tests, e)))
last_by_test n false e other = refl

pub not_last : (n : ℕ) → (n ≡ u64_max → ⊥) → (n == u64_max) ≡ false
not_last n other = last_by_test n (nat_eq n u64_max) refl other

-- ---- a record

pub spelt_later : (log : Log) → ((d : Decision) → decision log ≡ Some d → 1 ≤ d.epoch) → (rec : Rec) → FitsRec rec → (d : Decision) → decision (rec ∷ log) ≡ Some d → 1 ≤ d.epoch
unfolding decision
spelt_later log later (Rec.Boot m k) fit d is = later d is
spelt_later log later (Rec.Prepare e) fit d is = later d is
spelt_later log later (Rec.Commit t) fit d is = later d is
spelt_later log later (Rec.Adopt place es) fit d is = later d is
spelt_later log later (Rec.Suspend y) fit d is = later d is
spelt_later log later (Rec.Promise i b) fit d is = later d is
spelt_later log later (Rec.Accept i b a) fit d is = later d is
spelt_later log later (Rec.Decide a) fit d is = let same : a ≡ d = cc in subst (λ (b : Decision). 1 ≤ b.epoch) same fit.first
spelt_later log later (Rec.Enter y) fit d is = later d is

pub same_decision : (log : Log) (rec : Rec) → IsPlain rec → decision (rec ∷ log) ≡ decision log
unfolding decision
same_decision log (Rec.Boot m k) plain = refl
same_decision log (Rec.Prepare e) plain = refl
same_decision log (Rec.Commit t) plain = refl
same_decision log (Rec.Adopt place es) plain = refl
same_decision log (Rec.Suspend y) plain = refl
same_decision log (Rec.Promise i b) plain = refl
same_decision log (Rec.Accept i b a) plain = refl
same_decision log (Rec.Decide a) plain = absurd plain
same_decision log (Rec.Enter y) plain = absurd plain

more_boots : (b : Bool) (n : ℕ) → 0 < n → 0 < cond b 1 0 + n
more_boots true n p = omega (arith, p)
more_boots false n p = omega (arith, p)

pub still_booted : (log : Log) (rec : Rec) → booted log ≡ true → booted (rec ∷ log) ≡ true
unfolding booted boots
still_booted log rec is =
    let before : 0 < count_by is_boot log = grind (arith, nat_tests, is) in
    let more : count_by is_boot (rec ∷ log) ≡ cond (is_boot rec) 1 0 + count_by is_boot log = sum_by-cons (λ r. cond (is_boot r) 1 0) rec log in
    let after = more_boots (is_boot rec) (count_by is_boot log) before in
    grind (arith, nat_tests, more, after)

pub fitting_both : (a b : Bool) → a ≡ true → b ≡ true → (a && b) ≡ true
fitting_both true true p q = refl
fitting_both true false p q = q
fitting_both false b p q = p

pub recorded : (state : ReplicaState) (x : Draft) (rec : Rec) (ledger : Ledger) (output : Output) (epoch_state : EpochState) (coordinator : CoordinatorInMemory) (m : Coordinator)
    (issued : List ℕ) (received : List (ℕ × ℕ)) (votes : List (Stamp × ℕ)) (owed : List Stamp) (pushed : List (ℕ × InEpoch)) (acked : List (ℕ × ℕ)) (taken : List ℕ) →
    StandsInside state x → fits x.replica.me x.replica.n x.replica.log rec ≡ true → FitsRec rec →
    InBoth x.replica.me x.replica.n x.replica.log rec (made_of x) ledger output →
    EpochStands epoch_state (record x.replica { log = rec ∷ x.replica.log; coordinator = m; issued = issued; received = received; votes = votes; owed = owed; pushed = pushed; acked = acked; taken = taken }) →
    CoordinatorStands coordinator x.replica.me x.replica.n (decision (rec ∷ x.replica.log)) m →
    AllByRecursion FitsStamp owed → AllByRecursion FitsPushed pushed →
    StandsInside (record state { ledger = ledger; output = output; epoch_state = epoch_state; coordinator = coordinator })
    (record x {
      replica = record x.replica { log = rec ∷ x.replica.log; coordinator = m; issued = issued; received = received; votes = votes; owed = owed; pushed = pushed; acked = acked; taken = taken };
      batch = x.batch ++ rec ∷ [];
      lines = x.lines ++ lines_of x.replica.me x.replica.log rec;
      fitting = x.fitting && fits x.replica.me x.replica.n x.replica.log rec;
    })
recorded state x rec ledger output epoch_state coordinator m issued received votes owed pushed acked taken s fit spelt both runs noted_too fit_owed fit_pushed = record {
  me = s.me;
  ledger = both.says;
  epoch_state = runs;
  gathered = s.gathered;
  coordinator = noted_too;
  made = s.made;
  waiting = s.waiting;
  output = both.holds;
  told = sent_kept x.replica.me x.replica.log rec x.lines s.told;
  sound = record { number = s.sound.number; some = s.sound.some; few = s.sound.few; spelt = (spelt, s.sound.spelt); batch = all-push FitsRec x.batch rec s.sound.batch spelt; sends = s.sound.sends; replies = s.sound.replies; waiting = s.sound.waiting; owed = fit_owed; pushed = fit_pushed; made = s.sound.made; rises = rises_kept x.replica.me x.replica.n x.replica.log rec fit spelt s.sound.spelt s.ledger.says.none_above.executed s.sound.rises; later = spelt_later x.replica.log s.sound.later rec spelt; kept = (fit, s.sound.kept); on_record = still_booted x.replica.log rec s.sound.on_record; fitting = fitting_both x.fitting _ s.sound.fitting fit };
}

pub fitting_not : (a b : Bool) → b ≡ false → (a && b) ≡ false
fitting_not true b q = q
fitting_not false b q = refl

pub it_fits : (fit : Bool) (me n : ℕ) (log : Log) (rec : Rec) (m : Made) (ledger : Ledger) (output : Output) → fit ≡ true →
    (fit ≡ fits me n log rec) × Recorded fit me n log rec m ledger output → (fits me n log rec ≡ true) × InBoth me n log rec m ledger output
it_fits true me n log rec m ledger output is p = (sym p.0, p.1)
it_fits false me n log rec m ledger output is p = absurd (cc)

pub it_does_not : (fit : Bool) (me n : ℕ) (log : Log) (rec : Rec) (m : Made) (ledger : Ledger) (output : Output) → fit ≡ false →
    (fit ≡ fits me n log rec) × Recorded fit me n log rec m ledger output → (fits me n log rec ≡ false) × LedgerStands me n ledger log × OutputStands output m
it_does_not true me n log rec m ledger output is p = absurd (cc)
it_does_not false me n log rec m ledger output is p = (sym p.0, p.1.0, p.1.1)

-- the ledger has it, and these are its lines
pub applied_one : (o : Option (List Line)) (lines : List Line) (me n : ℕ) (log : Log) (rec : Rec) (ledger : Ledger) → o ≡ Some lines → Applied o me n log rec ledger →
    (fits me n log rec ≡ true) × (lines ≡ lines_of me log rec) × LedgerStands me n ledger (rec ∷ log)
applied_one None lines me n log rec ledger is p = absurd (cc)
applied_one (Some found) lines me n log rec ledger is p = (let same : found ≡ lines = cc in (p.0, sym same ∙ p.1, p.2))

-- it has it not
pub applied_none : (o : Option (List Line)) (me n : ℕ) (log : Log) (rec : Rec) (ledger : Ledger) → ((lines : List Line) → o ≡ Some lines → ⊥) →
    Applied o me n log rec ledger → (fits me n log rec ≡ false) × LedgerStands me n ledger log
applied_none None me n log rec ledger is_none p = p
applied_none (Some found) me n log rec ledger is_none p = absurd (is_none found refl)

-- the output has it too
pub in_both : (me n : ℕ) (log : Log) (rec : Rec) (m : Made) (ledger : Ledger) (output new : Output) (lines : List Line) → LedgerStands me n ledger (rec ∷ log) →
    lines ≡ lines_of me log rec → OutputStands output m →
    ((m : Made) → OutputStands output m → OutputStands new (record m { batch = m.batch ++ rec ∷ []; lines = m.lines ++ lines })) → InBoth me n log rec m ledger new
in_both me n log rec m ledger output new lines says same holds keeps = record {
  says = says;
  holds = subst (λ ls. OutputStands new (record m { batch = m.batch ++ rec ∷ []; lines = m.lines ++ ls })) same (keeps m holds);
}

pub unrecorded : (state : ReplicaState) (x : Draft) (ledger : Ledger) (output : Output) → StandsInside state x → LedgerStands x.replica.me x.replica.n ledger x.replica.log → OutputStands output (made_of x) →
    StandsInside (record state { ledger = ledger; output = output }) x
unrecorded state x ledger output s says holds = record {
  me = s.me;
  ledger = says;
  epoch_state = s.epoch_state;
  gathered = s.gathered;
  coordinator = s.coordinator;
  made = s.made;
  waiting = s.waiting;
  output = holds;
  told = s.told;
  sound = s.sound;
}

pub no_enter : (rec : Rec) → IsPlain rec → IsNoEnter rec
no_enter (Rec.Boot m k) plain = tt
no_enter (Rec.Prepare e) plain = tt
no_enter (Rec.Commit t) plain = tt
no_enter (Rec.Adopt place es) plain = tt
no_enter (Rec.Suspend y) plain = tt
no_enter (Rec.Promise i b) plain = tt
no_enter (Rec.Accept i b a) plain = tt
no_enter (Rec.Decide a) plain = tt
no_enter (Rec.Enter y) plain = plain

-- ---- the next step

pub begun_again : (state : ReplicaState) (x : Draft) (output : Output) → StandsInside state x → OutputStands output nothing → StandsInside (record state { output = output }) (begun x.replica)
unfolding begun
begun_again state x output s holds = record {
  me = s.me;
  ledger = s.ledger;
  epoch_state = s.epoch_state;
  gathered = s.gathered;
  coordinator = s.coordinator;
  made = s.made;
  waiting = s.waiting;
  output = holds;
  told = tt;
  sound = record { number = s.sound.number; some = s.sound.some; few = s.sound.few; spelt = s.sound.spelt; batch = tt; sends = tt; replies = tt; waiting = s.sound.waiting; owed = s.sound.owed; pushed = s.sound.pushed; made = s.sound.made; rises = s.sound.rises; later = s.sound.later; kept = s.sound.kept; on_record = s.sound.on_record; fitting = refl };
}

-- ---- an input that does not fit

pub chosen : (b : Bool) (x y : Draft) → b ≡ true → (when b then y otherwise x) ≡ y
unfolding when◌then◌otherwise◌
chosen true x y e = refl
chosen false x y e = cc

pub kept_old : (b : Bool) (x y : Draft) → b ≡ false → (when b then y otherwise x) ≡ x
unfolding when◌then◌otherwise◌
kept_old false x y e = refl
kept_old true x y e = cc

pub where_fit : (x y : Draft) → y.fitting ≡ true → if_fitting x y ≡ y
unfolding if_fitting
where_fit x y is = chosen y.fitting x y is

pub where_not : (x y : Draft) → y.fitting ≡ false → if_fitting x y ≡ x
unfolding if_fitting
where_not x y is = kept_old y.fitting x y is

pub chosen_x : (b : Bool) (x y : Draft) → b ≡ true → (when b then x otherwise y) ≡ x
chosen_x b x y e = chosen b y x e

pub other_x : (b : Bool) (x y : Draft) → b ≡ false → (when b then x otherwise y) ≡ y
other_x b x y e = kept_old b y x e

-- ---- the same draft in other words

pub moved : {state : ReplicaState} {y z : Draft} → z ≡ y → StandsInside state y → StandsInside state z
moved {state} e s = subst (λ (w : Draft). StandsInside state w) (sym e) s

pub learnt_same : {state : ReplicaState} {d e : Decision} (b : Bool) (x : Draft) → d ≡ e → (b ≡ (learnt d x).fitting) × StandsInside state (if_fitting x (learnt d x)) →
    (b ≡ (learnt e x).fitting) × StandsInside state (if_fitting x (learnt e x))
learnt_same {state} b x same p = subst (λ (f : Decision). (b ≡ (learnt f x).fitting) × StandsInside state (if_fitting x (learnt f x))) same p
