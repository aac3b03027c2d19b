-- Disks over others: calls that are handed on, and calls that are not.
use Rattle.std.proofs.Common.{ℕ, ◌≡◌, ◌≤◌, ◌+◌, List, length, refl, inl, arith}
use Rattle.std.proofs.lemmas.List.{take_all, take_min}
use Rattle.std.proofs.lemmas.Result.{on_err_weaker}
use Rattle.std.specs.Prelude.{Option, None, Result, OnErr}
use Rattle.crsm_base.specs.declared.memory.Failed.{Failed}
use Rattle.crsm_port_faults.specs.Counts.{Rose}
use Rattle.crsm_port_faults.specs.Plan.{Spends}
use Rattle.crsm_port_image.specs.Bytes.{Shortened, Torn}
use Rattle.crsm_disk.specs.Contract.{Answers, Goes}
use Rattle.crsm_disk.specs.Meaning.{Elapses, Meaning, Same}
use Rattle.crsm_law_killed.specs.Stopping.{disk_with}

-- ---- counters

no_plan : {T : Type 0} (calls bytes : ℕ) (result : Result T Failed) → Spends calls bytes None None result
no_plan calls bytes result = record { untold = λ is. is; told = λ p is. absurd (cc); exact = λ p is. absurd (cc); spends = λ p is. absurd (cc) }

-- a failure below, where no more are refused
rises : (a b r s : ℕ) → s ≡ r → Rose a b → Rose (a + r) (b + s)
rises a b r s same rose = omega arith

rose_below : {T : Type 0} (a b r s : ℕ) (result : Result T Failed) → s ≡ r → OnErr result (Rose a b) → OnErr result (Rose (a + r) (b + s))
rose_below a b r s result same failed = on_err_weaker result (rises a b r s same) failed

-- a refusal
refusal_rises : (a r s : ℕ) → Rose r s → Rose (a + r) (a + s)
refusal_rises a r s rose = omega arith

rose_refused : {T : Type 0} (a r s : ℕ) (result : Result T Failed) → OnErr result (Rose r s) → OnErr result (Rose (a + r) (a + s))
rose_refused a r s result failed = on_err_weaker result (refusal_rises a r s) failed

-- ---- handed on

pub same_below : (a b : Meaning) (f g : ℕ) (r s : Option ℕ) → Same a b → Same (disk_with f r a) (disk_with g s b)
same_below a b f g r s same = record { seen = same.seen; images = same.images; moment = same.moment; left = same.left; history = same.history; honest = same.honest; borrowed_as = same.borrowed_as }

elapses_below : (a b : Meaning) (f g : ℕ) (r s : Option ℕ) → Elapses a b → Elapses (disk_with f r a) (disk_with g s b)
elapses_below a b f g r s time = record { later = time.later; nothing_else = time.nothing_else; keeps = time.keeps }

pub goes_below : (step : List ℕ → List ℕ → Type 0) (a b : Meaning) (f g : ℕ) (r s : Option ℕ) → Goes step a b → Goes step (disk_with f r a) (disk_with g s b)
goes_below step a b f g r s goes = record { follows = goes.follows; time = elapses_below a b f g r s goes.time }

pub answers_below : {T : Type 0} (calls bytes : ℕ) (a b : Meaning) (f g : ℕ) (r s : Option ℕ) (result : Result T Failed) → g ≡ f → Answers calls bytes a b result →
    Answers calls bytes (disk_with f r a) (disk_with g s b) result
answers_below calls bytes a b f g r s result same answer = record {
  honest = answer.honest;
  fill = refl;
  borrowed_as = answer.borrowed_as;
  later = let later = answer.later in omega arith;
  failed = rose_below a.faults b.faults f g result same answer.failed;
  plan = no_plan calls bytes result;
}

-- ---- not handed on

same_as_before : (m : Meaning) → Same m m
same_as_before m = record { seen = refl; images = λ c. ((λ is. is), λ is. is); moment = refl; left = λ t c. ((λ is. is), λ is. is); history = refl; honest = refl; borrowed_as = refl }

pub stopped_same : (m : Meaning) (f g : ℕ) (r : Option ℕ) → Same (disk_with f r m) (disk_with g r m)
stopped_same m f g r = same_below m m f g r r (same_as_before m)

pub stopped_goes : (step : List ℕ → List ℕ → Type 0) (m : Meaning) (f g : ℕ) (r : Option ℕ) → ((c : List ℕ) → step c c) → Goes step (disk_with f r m) (disk_with g r m)
stopped_goes step m f g r stays = record {
  follows = λ c is. (c, is, stays c);
  time = record { later = omega arith; nothing_else = λ t c le was. inl was; keeps = λ t c le was. was };
}

pub stopped_answers : {T : Type 0} (calls bytes : ℕ) (m : Meaning) (f g : ℕ) (r : Option ℕ) (result : Result T Failed) → f ≤ g → OnErr result (Rose f g) →
    Answers calls bytes (disk_with f r m) (disk_with g r m) result
stopped_answers calls bytes m f g r result later failed =
    record { honest = refl; fill = refl; borrowed_as = refl; later = omega arith; failed = rose_refused m.faults f g result failed; plan = no_plan calls bytes result }

pub torn_stays : (at n : ℕ) (c : List ℕ) → Torn at n c c
torn_stays at n c = record { before = take_min at c; after = refl; no_shorter = omega arith; no_longer = omega arith }

pub shortened_stays : (n : ℕ) (c : List ℕ) → Shortened n c c
shortened_stays n c = record { no_shorter = omega arith; prefix = take_all (length c) c (omega arith) }

pub ruleset disk_rules = (same_below, goes_below, answers_below, stopped_same, stopped_goes, stopped_answers, torn_stays, shortened_stays)
