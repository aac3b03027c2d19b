-- The division of turns into groups.
use Rattle.std.proofs.Common.{◌≡◌, ℕ, ◌+◌, ◌<◌, List, [], ◌∷◌, ◌++◌, length, refl, ◌∙◌, ap, subst, arith, length-append}
use Rattle.std.specs.List.{AllByRecursion}
use Rattle.crsm_spec.specs.Node.{Turn}
use Rattle.crsm_spec_process.specs.Groups.{AreGroups, IsClosed, IsDatagram, IsGroup}

pub all_append : {A : Type 0} (P : A → Type 0) (xs ys : List A) → AllByRecursion P xs → AllByRecursion P ys → AllByRecursion P (xs ++ ys)
all_append P [] ys h k = k
all_append P (x ∷ xs) ys h k = (h.0, all_append P xs ys h.1 k)

-- these turns may be followed by others in their group
pub record AreOpen (ts : List (Turn × ℕ)) : Type 0 where
  pub datagrams : AllByRecursion IsDatagram ts
  pub few : length ts < 256

pub none_open : AreOpen []
none_open = record { datagrams = tt; few = omega arith }

-- with one turn more they are a group
abbrev pub group_of : (ts : List (Turn × ℕ)) (t : Turn × ℕ) → AreOpen ts → IsGroup (ts ++ t ∷ [])
group_of ts t open_ = record { before = ts; last = t; are = refl; datagrams = open_.datagrams; few = open_.few }

pub open_more : (ts : List (Turn × ℕ)) (t : Turn × ℕ) → AreOpen ts → IsDatagram t → length (ts ++ t ∷ []) < 256 → AreOpen (ts ++ t ∷ [])
open_more ts t open_ is few = record { datagrams = all_append IsDatagram ts (t ∷ []) open_.datagrams (is, tt); few = few }

-- some turns are all but the last one, and this
split_last : (t : Turn × ℕ) (ts : List (Turn × ℕ)) → (before : List (Turn × ℕ)) × (last : Turn × ℕ) × (t ∷ ts ≡ before ++ last ∷ [])
split_last t [] = ([], t, refl)
split_last t (u ∷ ts) = let s = split_last u ts in (t ∷ s.0, s.1, ap (λ (xs : List (Turn × ℕ)). t ∷ xs) s.2)

all_before : (P : Turn × ℕ → Type 0) (xs ys : List (Turn × ℕ)) → AllByRecursion P (xs ++ ys) → AllByRecursion P xs
all_before P [] ys h = tt
all_before P (x ∷ xs) ys h = (h.0, all_before P xs ys h.1)

-- turns that may be followed are a group if there are some
pub open_group : (t : Turn × ℕ) (ts : List (Turn × ℕ)) → AreOpen (t ∷ ts) → IsGroup (t ∷ ts)
open_group t ts open_ =
    let s = split_last t ts in
    let long : length (t ∷ ts) ≡ length s.0 + 1 = ap length s.2 ∙ length-append s.0 (s.1 ∷ []) in
    let few = open_.few in
    record {
      before = s.0;
      last = s.1;
      are = s.2;
      datagrams = all_before IsDatagram s.0 (s.1 ∷ []) (subst (λ (xs : List (Turn × ℕ)). AllByRecursion IsDatagram xs) s.2 open_.datagrams);
      few = omega (arith, long, few);
    }

-- ---- groups behind which others may stand

abbrev pub IsShut : List (Turn × ℕ) → Type 0
IsShut ts = (g : IsGroup ts) × IsClosed g

pub shut_groups : (groups : List (List (Turn × ℕ))) → AllByRecursion IsShut groups → AreGroups groups
shut_groups [] h = tt
shut_groups (g ∷ groups) h = (h.0.0, λ _. h.0.1, shut_groups groups h.1)

pub groups_more : (groups : List (List (Turn × ℕ))) (ts : List (Turn × ℕ)) → AllByRecursion IsShut groups → IsGroup ts → AreGroups (groups ++ ts ∷ [])
groups_more [] ts h g = (g, λ some. absurd (some refl), tt)
groups_more (x ∷ groups) ts h g = (h.0.0, λ _. h.0.1, groups_more groups ts h.1 g)

pub shut_more : (groups : List (List (Turn × ℕ))) (ts : List (Turn × ℕ)) → AllByRecursion IsShut groups → IsShut ts → AllByRecursion IsShut (groups ++ ts ∷ [])
shut_more groups ts h s = all_append IsShut groups (ts ∷ []) h (s, tt)
