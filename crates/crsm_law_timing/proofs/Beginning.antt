-- The state of a timeline before its first event.
use Rattle.std.proofs.Common.{◌≡◌, ℕ, zero, suc, ◌+◌, ◌*◌, ◌<◌, ◌≤◌, List, [], ◌∷◌, length, refl, sym, ◌∙◌, ap, subst, arith, map}
use Rattle.std.specs.Prelude.{Some, slice_get, sum_by}
use Rattle.std.specs.List.{range_with_len}
use Rattle.std.proofs.lemmas.Option.{none-some}
use Rattle.std.proofs.lemmas.List.Sums.{sum_by-cons}
use Rattle.crsm_base.specs.Records.{rec_bytes, body_bytes}
use Rattle.crsm_base.specs.Spelling.{u64_bytes}
use Rattle.crsm_spec.specs.Lists.{numbers_below}
use Rattle.crsm_spec.specs.Replica.{Replica, fresh}
use Rattle.crsm_spec.specs.Draft.{begun, keep}
use Rattle.crsm_spec.specs.Step.{boot_again, founding_boot}
use Rattle.crsm_spec.specs.Run.{after_acts}
use Rattle.crsm_spec.specs.World.{Site, begin, body_size}
use Rattle.crsm_spec_plan.specs.declared.Plan.{Plan}
use Rattle.crsm_spec_plan.specs.Plans.{FitsPlan}
use Rattle.crsm_spec_plan.specs.Timelines.{Sent, sent, sent_from, acts_of, exec_moments, exec_from}
use Rattle.crsm_law_timing.proofs.Local.{Part, Plays, many_below}
use Rattle.crsm_law_timing.proofs.Worlds.{at}
use Rattle.crsm_law_timing.proofs.Letters.{Facts}
use Rattle.crsm_law_timing.proofs.Weights.{sites_weight, packets_weight, site_weight, weight_issued}
use Rattle.crsm_law_timing.proofs.Standing.{Actor, Stands}

founder : ℕ → ℕ → Replica
founder k n = (founding_boot k n).replica

get_range : {A : Type 0} (f : ℕ → A) (a n i : ℕ) → i < n → slice_get (map f (range_with_len a n)) i ≡ Some (f (a + i))
get_range f a zero i lt = absurd (omega (arith, lt))
get_range f a (suc n) zero lt = ap (λ j. Some (f j)) (omega arith)
get_range f a (suc n) (suc i) lt = get_range f (a + 1) n i (omega (arith, lt)) ∙ ap (λ j. Some (f j)) (omega arith)

founder_up : (n k : ℕ) → k < n → slice_get (begin n).sites k ≡ Some (Site.Up (founder k n))
unfolding begin numbers_below founder
founder_up n k lt = get_range (λ k. Site.Up (founding_boot k n).replica) 0 n k lt ∙ ap (λ j. Some (Site.Up (founding_boot j n).replica)) (omega arith)

founder_plays : (plan : Plan) (k : ℕ) → Plays plan k Part.Bare (founder k plan.n)
unfolding founder founding_boot boot_again keep begun fresh
founder_plays plan k = record {
  me = refl;
  n = refl;
  log = refl;
  issued = refl;
  owed = refl;
  past = tt;
  pushed = λ f. refl;
  took = λ m t a. absurd a;
  heard = λ m a. absurd a;
  votes = λ m a ne. absurd a;
  own = λ l. absurd l;
  apart = λ m a. absurd a;
}

none_taken : (k n : ℕ) → (founder k n).taken ≡ []
unfolding founder founding_boot boot_again keep begun fresh
none_taken k n = refl

none_sent : (plan : Plan) → sent plan [] ≡ []
unfolding sent sent_from
none_sent plan = refl

none_executed : (plan : Plan) (i : ℕ) → exec_moments plan i [] ≡ []
unfolding exec_moments exec_from
none_executed plan i = refl

nothing_at : (plan : Plan) (i : ℕ) (s : Sent) → slice_get (sent plan []) i ≡ Some s → ⊥
nothing_at plan i s g = none-some s (sym (ap (λ l. slice_get l i) (none_sent plan)) ∙ g)

first_facts : (plan : Plan) (k : ℕ) → Facts plan [] k Part.Bare []
first_facts plan k = record {
  origin = λ q. record { begun = λ l. absurd l; begins = λ a. absurd a; owes = λ z. absurd (cc) };
  other = λ q. record { has = λ l. absurd l; had = λ a. absurd a; owes = λ z. absurd (cc); paid = λ nf le. absurd (nf tt); passed = λ nf. absurd (nf tt) };
  silent = λ f i s g from frame. nothing_at plan i s g;
  spoke = λ nf j lt ne. absurd (nf tt);
  came = λ m a. absurd a;
  took = λ i s g to f a. absurd a;
}

first_actor : (plan : Plan) (k : ℕ) → k < plan.n → Actor plan [] (begin plan.n) k
first_actor plan k lt = record {
  replica = founder k plan.n;
  part = Part.Bare;
  up = founder_up plan.n k lt;
  plays = founder_plays plan k;
  unfinished = λ t q c. absurd (cc);
  execs = none_executed plan k;
  facts = subst (Facts plan [] k Part.Bare) (sym (none_taken k plan.n)) (first_facts plan k);
}

sum_most : {A : Type 0} (f : A → ℕ) (c : ℕ) → ((a : A) → f a ≤ c) → (xs : List A) → sum_by f xs ≤ c * length xs
sum_most f c h [] = omega arith
sum_most f c h (x ∷ xs) =
    let a = h x in
    let b = sum_most f c h xs in
    let p = sum_by-cons f x xs in
    let m = one_more c (length xs) in
    omega (arith, a, b, p, m)
  where
    one_more : (c n : ℕ) → c * suc n ≡ c + c * n
    one_more c n = grind arith

founding_kept : (k n : ℕ) → body_size (founding_boot k n).batch ≤ 100
unfolding founding_boot boot_again keep begun fresh body_size body_bytes rec_bytes u64_bytes
founding_kept k n = omega arith

first_bytes : (n : ℕ) → (begin n).bytes ≤ 100 * length (numbers_below n)
unfolding begin
first_bytes n = sum_most (λ k. body_size (founding_boot k n).batch) 100 (λ k. founding_kept k n) (numbers_below n)

site_most : (s : Site) → site_weight s ≤ 8000
site_most (Site.Down log) = omega arith
site_most (Site.Up r) = go r.issued
  where
    go : (ts : List ℕ) → weight_issued ts ≤ 8000
    go [] = omega arith
    go (t ∷ ts) = omega arith

map_length : {A B : Type 0} (f : A → B) (xs : List A) → length (map f xs) ≡ length xs
map_length f [] = refl
map_length f (z ∷ zs) = ap suc (map_length f zs)

first_weight : (n : ℕ) → sites_weight (begin n).sites ≤ 8000 * length (begin n).sites
unfolding sites_weight
first_weight n = sum_most site_weight 8000 site_most (begin n).sites

first_sites : (n : ℕ) → length (begin n).sites ≡ length (numbers_below n)
unfolding begin
first_sites n = map_length (λ k. Site.Up (founding_boot k n).replica) (numbers_below n)

no_packets : (n : ℕ) → ((begin n).packets ≡ []) × (packets_weight [] ≡ 0)
unfolding begin packets_weight
no_packets n = (refl, refl)

pub at_first : (plan : Plan) → begin plan.n ≡ at plan []
unfolding at after_acts acts_of
at_first plan = refl

pub begins : (plan : Plan) → FitsPlan plan → Stands plan [] (begin plan.n)
begins plan fit = record {
  size = (let a = ap length (none_sent plan) in let b = ap length (no_packets plan.n).0 in omega (arith, a, b));
  there = λ i s g. absurd (nothing_at plan i s g);
  letters = λ i s g. absurd (nothing_at plan i s g);
  alone = λ i j m k s z g h f f'. absurd (nothing_at plan i s g);
  numbered = λ f i t a d. absurd a;
  actors = first_actor plan;
  few = (let p = ap length (no_packets plan.n).0 in omega (arith, p));
  weight = (let b = first_bytes plan.n in
      let s = first_weight plan.n in
      let l = first_sites plan.n in
      let m = many_below plan.n in
      let p = ap packets_weight (no_packets plan.n).0 in
      let z = (no_packets plan.n).1 in
      let n = fit.most in
      omega (arith, b, s, l, m, p, z, n));
}
