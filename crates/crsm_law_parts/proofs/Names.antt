-- The first bytes of a part tell all of it but its content.
use Rattle.std.proofs.Common.{◌≡◌, ℕ, zero, suc, ◌+◌, ◌<◌, ◌≤◌, ◌^◌, List, [], ◌∷◌, ◌++◌, length, take, refl, sym, ◌∙◌, ap, arith}
use Rattle.std.proofs.lemmas.List.{length-append}
use Rattle.std.proofs.lemmas.Option.{same_Some}
use Rattle.crsm_base.specs.Messages.{datagram_bytes}
use Rattle.crsm_base.specs.Spelling.{u32_bytes, u64_bytes}
use Rattle.crsm_base.specs.Reading.{u32_at, u64_at}
use Rattle.crsm_base.proofs.Sizes.{u64_long}
use Rattle.crsm_base.proofs.Numbers.{u32_parses, u64_parses}
use Rattle.crsm_spec.specs.Types.{Datagram}

-- the first bytes of lists that begin alike
take_fewer : (m n : ℕ) (xs : List ℕ) → m ≤ n → take m (take n xs) ≡ take m xs
take_fewer zero n xs le = refl
take_fewer (suc m) zero xs le = absurd (omega (arith, le))
take_fewer (suc m) (suc n) [] le = refl
take_fewer (suc m) (suc n) (x ∷ xs) le = ap (λ l. x ∷ l) (take_fewer m n xs (omega (arith, le)))

fewer_same : (m n : ℕ) (xs ys : List ℕ) → m ≤ n → take n xs ≡ take n ys → take m xs ≡ take m ys
fewer_same m n xs ys le e = sym (take_fewer m n xs le) ∙ ap (take m) e ∙ take_fewer m n ys le

-- behind a common beginning
behind : (p : List ℕ) (n m : ℕ) (x y : List ℕ) → length p + m ≤ n → take n (p ++ x) ≡ take n (p ++ y) → take m x ≡ take m y
behind [] n m x y le e = fewer_same m n x y (omega (arith, le)) e
behind (b ∷ p) zero m x y le e = absurd (omega (arith, le))
behind (b ∷ p) (suc n) m x y le e = behind p n m x y (omega (arith, le)) (cc e)

-- two beginnings of one length
record Same (p q : List ℕ) (m : ℕ) (x y : List ℕ) : Type 0 where
  front : p ≡ q
  rest : take m x ≡ take m y

fronts : (p q : List ℕ) (m n : ℕ) (x y : List ℕ) → length p ≡ length q → length p + m ≤ n → take n (p ++ x) ≡ take n (q ++ y) → Same p q m x y
fronts [] [] m n x y l le e = record { front = refl; rest = fewer_same m n x y (omega (arith, le)) e }
fronts [] (b ∷ q) m n x y l le e = absurd (omega (arith, l))
fronts (a ∷ p) [] m n x y l le e = absurd (omega (arith, l))
fronts (a ∷ p) (b ∷ q) m zero x y l le e = absurd (omega (arith, le))
fronts (a ∷ p) (b ∷ q) m (suc n) x y l le e =
    let t = fronts p q m n x y (omega (arith, l)) (omega (arith, le)) (cc e) in
    let first : a ≡ b = cc e in
    record { front = ap (λ z. z ∷ p) first ∙ ap (λ l. b ∷ l) t.front; rest = t.rest }

u32_long : (n : ℕ) → length (u32_bytes n) ≡ 4
unfolding u32_bytes
u32_long n = omega arith

u64_same : (x y : ℕ) → x < 2 ^ 64 → y < 2 ^ 64 → u64_bytes x ≡ u64_bytes y → x ≡ y
u64_same x y a b e = ap (λ (p : ℕ × List ℕ). p.0) (same_Some (x, []) (y, []) (sym (u64_parses.again x [] a) ∙ ap (λ s. u64_at (s ++ [])) e ∙ u64_parses.again y [] b))

u32_same : (x y : ℕ) → x < 2 ^ 32 → y < 2 ^ 32 → u32_bytes x ≡ u32_bytes y → x ≡ y
u32_same x y a b e = ap (λ (p : ℕ × List ℕ). p.0) (same_Some (x, []) (y, []) (sym (u32_parses.again x [] a) ∙ ap (λ s. u32_at (s ++ [])) e ∙ u32_parses.again y [] b))

-- the numbers of a part
pub record Numbers : Type 0 where
  pub from : ℕ
  pub to : ℕ
  pub boot : ℕ
  pub number : ℕ
  pub index : ℕ
  pub count : ℕ

-- each has an encoding
pub record AreSmall (p : Numbers) : Type 0 where
  pub boot : p.boot < 2 ^ 64
  pub number : p.number < 2 ^ 64
  pub index : p.index < 2 ^ 32
  pub count : p.count < 2 ^ 32

abbrev pub part_of : Numbers → List ℕ → Datagram
part_of p bytes = Datagram.Part p.from p.to p.boot p.number p.index p.count bytes

pub record AreSame (p q : Numbers) : Type 0 where
  pub from : p.from ≡ q.from
  pub to : p.to ≡ q.to
  pub boot : p.boot ≡ q.boot
  pub number : p.number ≡ q.number
  pub index : p.index ≡ q.index
  pub count : p.count ≡ q.count

abbrev fields : Numbers → List ℕ → List ℕ
fields p bytes = u64_bytes p.boot ++ (u64_bytes p.number ++ (u32_bytes p.index ++ (u32_bytes p.count ++ bytes)))

part_is : (p : Numbers) (bytes : List ℕ) → datagram_bytes (part_of p bytes) ≡ (3 ∷ p.from ∷ p.to ∷ []) ++ fields p bytes
unfolding datagram_bytes
part_is p bytes = refl

-- a part with a content
pub part_long : (p : Numbers) (bytes : List ℕ) → length (datagram_bytes (part_of p bytes)) ≡ 27 + length bytes
part_long p bytes =
    let is = ap length (part_is p bytes) in
    let a = u64_long p.boot in
    let b = u64_long p.number in
    let c = u32_long p.index in
    let d = u32_long p.count in
    omega (
      arith,
      is,
      a,
      b,
      c,
      d,
      length-append (u64_bytes p.boot) (u64_bytes p.number ++ (u32_bytes p.index ++ (u32_bytes p.count ++ bytes))),
      length-append (u64_bytes p.number) (u32_bytes p.index ++ (u32_bytes p.count ++ bytes)),
      length-append (u32_bytes p.index) (u32_bytes p.count ++ bytes),
      length-append (u32_bytes p.count) bytes,
    )

pub name_tells : (mark : List ℕ) (p q : Numbers) (x y : List ℕ) → length mark ≤ 9 → AreSmall p → AreSmall q → take 36 (mark ++ datagram_bytes (part_of p x)) ≡ take 36 (mark ++ datagram_bytes (part_of q y)) → AreSame p q
name_tells mark p q x y short ps qs e =
    let inner : take 27 (datagram_bytes (part_of p x)) ≡ take 27 (datagram_bytes (part_of q y)) = behind mark 36 27 (datagram_bytes (part_of p x)) (datagram_bytes (part_of q y)) (omega (arith, short)) e in
    let spelt : take 27 ((3 ∷ p.from ∷ p.to ∷ []) ++ fields p x) ≡ take 27 ((3 ∷ q.from ∷ q.to ∷ []) ++ fields q y) = sym (ap (take 27) (part_is p x)) ∙ inner ∙ ap (take 27) (part_is q y) in
    let a = fronts (3 ∷ p.from ∷ p.to ∷ []) (3 ∷ q.from ∷ q.to ∷ []) 24 27 (fields p x) (fields q y) refl (omega arith) spelt in
    let heads = a.front in
    let bp = u64_long p.boot in
    let bq = u64_long q.boot in
    let np = u64_long p.number in
    let nq = u64_long q.number in
    let ip = u32_long p.index in
    let iq = u32_long q.index in
    let cp = u32_long p.count in
    let cq = u32_long q.count in
    let b = fronts (u64_bytes p.boot) (u64_bytes q.boot) 16 24 _ _ (bp ∙ sym bq) (omega (arith, bp)) a.rest in
    let c = fronts (u64_bytes p.number) (u64_bytes q.number) 8 16 _ _ (np ∙ sym nq) (omega (arith, np)) b.rest in
    let d = fronts (u32_bytes p.index) (u32_bytes q.index) 4 8 _ _ (ip ∙ sym iq) (omega (arith, ip)) c.rest in
    let f = fronts (u32_bytes p.count) (u32_bytes q.count) 0 4 _ _ (cp ∙ sym cq) (omega (arith, cp)) d.rest in
    record {
      from = cc heads;
      to = cc heads;
      boot = u64_same p.boot q.boot ps.boot qs.boot b.front;
      number = u64_same p.number q.number ps.number qs.number c.front;
      index = u32_same p.index q.index ps.index qs.index d.front;
      count = u32_same p.count q.count ps.count qs.count f.front;
    }
