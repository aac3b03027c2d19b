-- Counts of more lines, and the greatest number with one more line.
use Rattle.std.proofs.Common.{◌≡◌, ◌<◌, ◌≤◌, ◌+◌, ◌*◌, ◌^◌, ℕ, Bool, cond, List, [], ◌∷◌, ◌++◌, length, get_or, take, ap, sym, ◌∙◌, arith}
use Rattle.std.specs.Prelude.{fold, max}
use Rattle.std.specs.List.{count_by}
use Rattle.std.proofs.lemmas.List.{take_more}
use Rattle.std.proofs.lemmas.List.Sums.{fold-append, sum_by-append}
use Rattle.crsm_spec.specs.Types.{Line}
use Rattle.crsm_cmd_soak.specs.Counting.{greatest, is_answer, is_drop, is_refusal, is_send, is_submission}
use Rattle.crsm_cmd_soak.specs.Soak.{IsBelow, more}
use Rattle.crsm_cmd_soak.specs.declared.summary.Summary.{Summary}

add_counts : (test : Line → Bool) (n : ℕ) (xs ys : List Line) → n + count_by test xs + count_by test ys ≡ n + count_by test (xs ++ ys)
add_counts test n xs ys = let sum = sum_by-append (λ x. cond (test x) 1 0) xs ys in omega (arith, sum)

-- lines behind lines
pub more_more : (s : Summary) (a b : ℕ) (xs ys : List Line) → more (more s a xs) b ys ≡ more s (a + b) (xs ++ ys)
unfolding more
more_more s a b xs ys =
    let steps : s.steps + a + b ≡ s.steps + (a + b) = omega arith in
    let submitted = add_counts is_submission s.submitted xs ys in
    let answered = add_counts is_answer s.answered xs ys in
    let refused = add_counts is_refusal s.refused xs ys in
    let dropped = add_counts is_drop s.dropped xs ys in
    let datagrams = add_counts is_send s.datagrams xs ys in
    λ i. record {
      steps = steps i;
      submitted = submitted i;
      executed = s.executed;
      answered = answered i;
      refused = refused i;
      dropped = dropped i;
      epoch = s.epoch;
      datagrams = datagrams i;
    }

-- no event more
pub none_more : (s : Summary) → more s 0 [] ≡ s
unfolding more
none_more s =
    λ i. record {
      steps = same s.steps i;
      submitted = same s.submitted i;
      executed = s.executed;
      answered = same s.answered i;
      refused = same s.refused i;
      dropped = same s.dropped i;
      epoch = s.epoch;
      datagrams = same s.datagrams i;
    }
  where
    same : (n : ℕ) → n + 0 ≡ n
    same n = omega arith

-- ---- how great the counts are

at_most : (a m n : ℕ) → m ≤ n → a ≤ m * 2 ^ 64 → a ≤ n * 2 ^ 64
at_most a m n le h = omega (arith, le, h)

pub below_most : (m n : ℕ) (s : Summary) → m ≤ n → IsBelow m s → IsBelow n s
below_most m n s le h =
    let steps = h.steps in
    record {
      steps = omega (arith, steps, le);
      submitted = at_most _ m n le h.submitted;
      answered = at_most _ m n le h.answered;
      refused = at_most _ m n le h.refused;
      dropped = at_most _ m n le h.dropped;
      datagrams = at_most _ m n le h.datagrams;
    }

-- ---- the greatest number

-- one line more
pub greatest_more : (f : Line → ℕ) (lines : List Line) (i : ℕ) (line : Line) → i < length lines → line ≡ get_or lines i line → max (greatest f (take i lines)) (f line) ≡ greatest f (take (i + 1) lines)
unfolding greatest
greatest_more f lines i line l e =
    sym (ap (fold (λ most line. max most (f line)) 0) (take_more lines i line l ∙ ap (λ x. take i lines ++ x ∷ []) (sym e))
    ∙ fold-append (λ most line. max most (f line)) 0 (take i lines) (line ∷ []))
