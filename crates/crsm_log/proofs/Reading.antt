-- Parsing of a file, entry by entry.
use Rattle.std.proofs.Common.{◌≡◌, inl, inr, ℕ, ◌+◌, ◌<◌, ◌≤◌, List, [], ◌∷◌, ◌++◌, length, get_or, drop, refl, sym, ◌∙◌, ap, subst, arith, length-append, Bool, true, false, ◌||◌, nat_lt, if◌then◌else◌}
use Rattle.std.specs.Prelude.{Option, Some, None, IfSome, is_some, option_map}
use Rattle.std.proofs.lemmas.Bool.{cases_eq}
use Rattle.std.proofs.lemmas.List.{append-nil, drop-drop, get_or-drop}
use Rattle.crsm_log.specs.First.{BeginsWith, EndsHere, ReadsFile, all_entries}
use Rattle.crsm_log.specs.declared.entry.LogContents.{LogContents}
use Rattle.crsm_log.specs.Format.{Entry, Items, whole, broken, behind as with_entry, bodies_among, cluster_among, entries_in, found, has_after, is_cluster, last_gate, length_of, may_stand, number_in, reading_in, size}
use Rattle.crsm_log.proofs.Entries.{onto, onto-whole, onto-broken, onto-push, size-push, has-push, bodies-push_body, bodies-push_cluster, cluster-push_body, cluster-push_cluster, first_closed, length_le-size}

-- so far these bodies were read and this cluster, and these bytes are left
pub record HasRead (file bytes : List ℕ) (gate entry : ℕ) (bodies : List (List ℕ)) (cluster last : Option ℕ) : Type 0 where
  pub items : List Entry
  pub read : onto items (all_entries (has_after false items) bytes) ≡ all_entries false file
  pub bodies_are : bodies ≡ bodies_among items
  pub cluster_is : cluster ≡ cluster_among items
  pub has_one : has_after false items ≡ is_some cluster
  pub place : gate ≡ size items
  pub count : entry ≡ length bodies
  pub all : gate + length bytes ≡ length file
  pub behind : bytes ≡ drop gate file
  pub more : 0 < length file → 0 < length bytes
  pub last_is : last ≡ last_gate items
  pub last_open : IfSome last (λ at. get_or file at 0 ≡ 1)

pub begun : (file : List ℕ) → HasRead file file 0 0 [] None None
begun file = record {
  items = [];
  read = refl;
  bodies_are = refl;
  cluster_is = refl;
  has_one = refl;
  place = refl;
  count = refl;
  all = omega arith;
  behind = refl;
  more = λ some. some;
  last_is = refl;
  last_open = tt;
}

-- one entry more is at the end of the others
last-push : (es : List Entry) (e : Entry) → last_gate (es ++ e ∷ []) ≡ Some (size es)
last-push [] e = refl
last-push (x ∷ []) e = ap Some (omega arith)
last-push (x ∷ y ∷ es) e = ap (option_map (λ (at : ℕ). 5 + length x.bytes + at)) (last-push (y ∷ es) e)

-- an entry is more than nothing
not_none : (e : Entry) (i : Items) → whole [] ≡ with_entry e i → ⊥
not_none e (whole es) is = cc
not_none e (broken k) is = cc

none_of : (c : Option ℕ) → is_some c ≡ false → c ≡ None
none_of None is = refl
none_of (Some n) is = absurd (cc)

first_only : (h : Bool) (field : ℕ) (bytes : List ℕ) → is_cluster field ≡ true → may_stand h field bytes ≡ true → h ≡ false
unfolding may_stand
first_only true field bytes is may = let q : false ≡ true = sym (ap (λ (t : Bool). if t then false else nat_lt field 2147483648) is) ∙ may in absurd (cc)
first_only false field bytes is may = refl

or_true : (h : Bool) → h || true ≡ true
or_true true = refl
or_true false = refl

or_false : (h : Bool) → h || false ≡ h
or_false true = refl
or_false false = refl

module _ (file bytes : List ℕ) (gate entry : ℕ) (bodies : List (List ℕ)) (cluster last : Option ℕ) (r : HasRead file bytes gate entry bodies cluster last) where
  gate_at : get_or bytes 0 0 ≡ get_or file gate 0
  gate_at = ap (λ (l : List ℕ). get_or l 0 0) r.behind ∙ get_or-drop gate file 0 0 ∙ ap (λ (k : ℕ). get_or file k 0) (omega arith)

  module _ (h : Bool) (one : h ≡ is_some cluster) (field : ℕ) (content rest : List ℕ) (b : BeginsWith h field content rest bytes) where
    abbrev e : Entry
    e = record { field = field; bytes = content }

    is_h : h ≡ has_after false r.items
    is_h = one ∙ sym r.has_one

    reads : onto (r.items ++ record { field = field; bytes = content } ∷ []) (all_entries (has_after false (r.items ++ record { field = field; bytes = content } ∷ [])) rest) ≡ all_entries false file
    reads =
        ap (λ (t : Bool). onto (r.items ++ e ∷ []) (all_entries t rest)) (has-push false r.items e ∙ ap (λ (t : Bool). t || is_cluster field) (sym is_h))
        ∙ onto-push r.items e (all_entries (h || is_cluster field) rest)
        ∙ ap (onto r.items) (sym b.read)
        ∙ ap (λ (t : Bool). onto r.items (all_entries t bytes)) is_h
        ∙ r.read

    at : gate + (5 + length content) ≡ size (r.items ++ record { field = field; bytes = content } ∷ [])
    at = omega (arith, size-push r.items e, r.place)

    all_is : gate + (5 + length content) + length rest ≡ length file
    all_is = omega (arith, r.all, b.lengths)

    rest_at : rest ≡ drop (gate + (5 + length content)) file
    rest_at = b.rest_is ∙ ap (drop (5 + length content)) r.behind ∙ drop-drop (5 + length content) gate file

    is_open : get_or file gate 0 ≡ 1
    is_open = elim (cases_eq (get_or bytes 0 0) 1) [
      | inl one ↦ sym gate_at ∙ one
      | inr other ↦ absurd (not_none e (all_entries (h || is_cluster field) rest) (sym (first_closed bytes h other) ∙ b.read))
    ]

    pub read_body : is_cluster field ≡ false → HasRead file rest (gate + (5 + length content)) (entry + 1) (bodies ++ content ∷ []) cluster (Some gate)
    read_body is = record {
      items = r.items ++ e ∷ [];
      read = reads;
      bodies_are = ap (λ (bs : List (List ℕ)). bs ++ content ∷ []) r.bodies_are ∙ sym (bodies-push_body r.items e is);
      cluster_is = r.cluster_is ∙ sym (cluster-push_body r.items e is);
      has_one = has-push false r.items e ∙ ap (λ (t : Bool). has_after false r.items || t) is ∙ or_false (has_after false r.items) ∙ r.has_one;
      place = at;
      count = omega (arith, r.count, length-append bodies (content ∷ []));
      all = all_is;
      behind = rest_at;
      more = λ _. b.more;
      last_is = ap Some r.place ∙ sym (last-push r.items e);
      last_open = is_open;
    }

    pub read_cluster : is_cluster field ≡ true → HasRead file rest (gate + (5 + length content)) entry bodies (Some (number_in content)) (Some gate)
    read_cluster is =
        let none : cluster_among r.items ≡ None = sym r.cluster_is ∙ none_of cluster (sym one ∙ first_only h field content is b.may) in
        record {
          items = r.items ++ e ∷ [];
          read = reads;
          bodies_are = r.bodies_are ∙ sym (bodies-push_cluster r.items e is);
          cluster_is = sym (cluster-push_cluster r.items e none is);
          has_one = has-push false r.items e ∙ ap (λ (t : Bool). has_after false r.items || t) is ∙ or_true (has_after false r.items);
          place = at;
          count = r.count;
          all = all_is;
          behind = rest_at;
          more = λ _. b.more;
          last_is = ap Some r.place ∙ sym (last-push r.items e);
          last_open = is_open;
        }

  pub ends : (h : Bool) → h ≡ is_some cluster → EndsHere h bytes → all_entries false file ≡ whole r.items
  ends h one e =
      sym r.read ∙ ap (λ (t : Bool). onto r.items (all_entries t bytes)) (r.has_one ∙ sym one) ∙ ap (onto r.items) e.read ∙ onto-whole r.items [] ∙ ap whole (append-nil r.items)

  pub breaks : (h : Bool) → h ≡ is_some cluster → all_entries h bytes ≡ broken 0 → all_entries false file ≡ broken entry
  breaks h one e =
      sym r.read ∙ ap (λ (t : Bool). onto r.items (all_entries t bytes)) (r.has_one ∙ sym one) ∙ ap (onto r.items) e ∙ onto-broken r.items 0
      ∙ ap broken (omega (arith, r.count, ap length r.bodies_are))

  pub gate_shut : (h : Bool) → EndsHere h bytes → 0 < length file → (gate < length file) × (get_or file gate 0 ≡ 1 → ⊥)
  gate_shut h e some =
      (omega (arith, r.all, r.more some), λ one. e.shut (gate_at ∙ one))

  pub few : entry ≤ gate
  few = omega (arith, r.count, ap length r.bodies_are, length_le-size r.items, r.place)

  pub file_read : (h : Bool) → h ≡ is_some cluster → EndsHere h bytes → (held : LogContents) → held.gate ≡ gate → held.bodies ≡ bodies → held.cluster ≡ cluster → held.last ≡ last → ReadsFile file held
  file_read h one e held at had named end =
      let all : all_entries false file ≡ whole r.items = ends h one e in
      record {
        read = ap reading_in all ∙ ap found (sym r.bodies_are ∙ sym had);
        cluster = ap (λ i. cluster_among (entries_in i)) all ∙ sym r.cluster_is ∙ sym named;
        place = ap (λ i. size (entries_in i)) all ∙ sym r.place ∙ sym at;
        within = omega (arith, at, r.all);
        shut = λ some.
            let now = gate_shut h e some in
            (omega (arith, at, now.0), λ one. now.1 (ap (λ (k : ℕ). get_or file k 0) (sym at) ∙ one));
        last = end ∙ r.last_is ∙ sym (ap (λ i. last_gate (entries_in i)) all);
        opened = let O : Option ℕ → Type 0 = λ k. IfSome k (λ at. get_or file at 0 ≡ 1) in subst O (sym end) r.last_open;
      }

pub cluster_long : (field : ℕ) → is_cluster field ≡ true → length_of field ≡ 8
unfolding length_of
cluster_long field is = rw is refl
