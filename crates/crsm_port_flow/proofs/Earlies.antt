-- Frames that wait, and datagrams of peers that are ready.
use Rattle.std.proofs.Common.{◌≡◌, ◌∙◌, ◌<◌, ◌≤◌, ◌++◌, ℕ, zero, suc, List, [], ◌∷◌, length, set, refl, sym, ap, subst, arith, inl, inr, Option, Some, None, Vec, Global, Result, Ok, Err}
use Rattle.std.proofs.lemmas.List.{append_assoc, get_or-set_same}
use Rattle.std.proofs.lemmas.List.Elements.{Contains-append_left, Contains-append_right}
use Rattle.std.proofs.lemmas.List.Sums.{sum_by-cons}
use Rattle.std.proofs.lemmas.Option.{none-some}
use Rattle.std.specs.Prelude.{◌⊎◌, Contains, OnErr, OnOk, slice_get, slice_index_or}
use Rattle.crsm_port.specs.Passing.{Datagrams, NoMore, either}
use Rattle.crsm_port_flow.proofs.Keepings.{push_cases}
use Rattle.crsm_port_flow.specs.Early.{AreFrames, Expects, IsEarlyIn, KeepsSome, NoneNext, TakesNext, Waits, WaitsAs, after, frames_at, frames_in, place_of}
use Rattle.crsm_port_flow.specs.Kept.{Is, KeepsOnly, early_in, packet_of, ready_in}
use Rattle.crsm_port_flow.specs.Taken.{IsMadeReady, StaysReady}
use Rattle.crsm_port_flow.specs.declared.datagram.Datagram.{Datagram}
use Rattle.crsm_port_flow.specs.declared.early.Early.{Early}
use Rattle.crsm_port_flow.specs.declared.early.Frame.{Frame}
use Rattle.crsm_port_flow.specs.declared.early.Link.{Link}
use Rattle.crsm_port_flow.specs.declared.heads.Head.{Head}

-- ---- places

pub frame_same : (f g : Frame) → Some f ≡ Some g → f ≡ g
frame_same f g e = cc

pub item_any : (xs : List (Option Frame)) (k : ℕ) (d e : Option Frame) → k < length xs → slice_index_or xs k d ≡ slice_index_or xs k e
item_any [] k d e lt = absurd (omega (arith, lt))
item_any (x ∷ xs) zero d e lt = refl
item_any (x ∷ xs) (suc k) d e lt = item_any xs k d e (omega (arith, lt))

pub item_is : (xs : List (Option Frame)) (k : ℕ) (x : Option Frame) → k < length xs → x ≡ slice_index_or xs k x → x ≡ slice_index_or xs k None
item_is xs k x lt is = is ∙ item_any xs k x None lt

-- what is at a place is put there again
pub set_same : {X : Type 0} (xs : List X) (k : ℕ) (x : X) → x ≡ slice_index_or xs k x → set xs k x ≡ xs
set_same [] k x is = refl
set_same {X = X} (y ∷ xs) zero x is = ap (λ (z : X). z ∷ xs) is
set_same {X = X} (y ∷ xs) (suc k) x is = ap (λ (ys : List X). y ∷ ys) (set_same xs k x is)

-- a frame at a place is one of those that wait
pub place_contains : (xs : List (Option Frame)) (k : ℕ) (f : Frame) → slice_index_or xs k None ≡ Some f → Contains xs (Some f)
place_contains [] k f is = absurd (none-some f is)
place_contains (x ∷ xs) zero f is = (zero, omega arith, is)
place_contains (x ∷ xs) (suc k) f is = let w = place_contains xs k f is in (suc w.0, omega (arith, w.1), w.2)

pub contains_place : (xs : List (Option Frame)) (f : Frame) → Contains xs (Some f) → (k : ℕ) × (slice_index_or xs k None ≡ Some f)
contains_place xs f (k, lt, is) = (k, item_any xs k None (Some f) lt ∙ is)

pub keeps_contains : (xs ys : List (Option Frame)) → KeepsSome xs ys → (f : Frame) → Contains ys (Some f) → Contains xs (Some f)
keeps_contains xs ys keeps f has = let w = contains_place ys f has in place_contains xs w.0 f (keeps w.0 f w.1)

pub set_at : (xs : List (Option Frame)) (k place : ℕ) (y : Option Frame) → k ≡ place → k < length xs → slice_index_or (set xs k y) place None ≡ y
set_at xs k place y same lt = subst (λ (i : ℕ). slice_index_or (set xs k y) i None ≡ y) same (get_or-set_same xs k y None lt)

-- a place is emptied
pub set_none : (xs : List (Option Frame)) (k : ℕ) → KeepsSome xs (set xs k None)
set_none [] k i f is = is
set_none (x ∷ xs) zero zero f is = absurd (none-some f is)
set_none (x ∷ xs) zero (suc i) f is = is
set_none (x ∷ xs) (suc k) zero f is = is
set_none (x ∷ xs) (suc k) (suc i) f is = set_none xs k i f is

pub set_rest : (xs : List (Option Frame)) (k : ℕ) (g : Frame) → slice_index_or xs k None ≡ Some g → (f : Frame) → Contains xs (Some f) → Contains (set xs k None) (Some f) ⊎ (f ≡ g)
set_rest [] k g at f (i, lt, is) = absurd (omega (arith, lt))
set_rest (x ∷ xs) zero g at f (zero, lt, is) = inr (frame_same f g (sym is ∙ at))
set_rest (x ∷ xs) zero g at f (suc i, lt, is) = inl (suc i, omega (arith, lt), is)
set_rest (x ∷ xs) (suc k) g at f (zero, lt, is) = inl (zero, omega arith, is)
set_rest (x ∷ xs) (suc k) g at f (suc i, lt, is) = elim (set_rest xs k g at f (i, omega (arith, lt), is)) [
  | inl w ↦ inl (suc w.0, omega (arith, w.1), w.2)
  | inr e ↦ inr e
]

pub keeps_some_same : (xs ys : List (Option Frame)) → ys ≡ xs → KeepsSome xs ys
keeps_some_same xs ys same k f at = subst (λ (zs : List (Option Frame)). slice_index_or zs k None ≡ Some f) same at

pub none_pushed : (xs ys : List (Option Frame)) → KeepsSome [] xs → ys ≡ xs ++ None ∷ [] → KeepsSome [] ys
none_pushed xs ys before same k f at = none_at xs before k (subst (λ (zs : List (Option Frame)). slice_index_or zs k None ≡ Some f) same at)
  where
    none_at : (zs : List (Option Frame)) → KeepsSome [] zs → (i : ℕ) → slice_index_or (zs ++ None ∷ []) i None ≡ Some f → None ≡ Some f
    none_at [] keeps zero is = is
    none_at [] keeps (suc i) is = is
    none_at (z ∷ zs) keeps zero is = keeps zero f is
    none_at (z ∷ zs) keeps (suc i) is = none_at zs (λ j g w. keeps (suc j) g w) i is

-- ---- how many wait

pub frames_within : (frames : List (Option Frame)) → frames_in frames ≤ length frames
frames_within [] = omega arith
frames_within (None ∷ fs) = omega (arith, sum_by-cons frames_at None fs, frames_within fs)
frames_within (Some f ∷ fs) = omega (arith, sum_by-cons frames_at (Some f) fs, frames_within fs)

pub frames_fewer : (xs ys : List (Option Frame)) → KeepsSome xs ys → frames_in ys ≤ frames_in xs
frames_fewer xs [] keeps = omega arith
frames_fewer [] (None ∷ ys) keeps = omega (arith, sum_by-cons frames_at None ys, frames_fewer [] ys (λ k f at. keeps (suc k) f at))
frames_fewer [] (Some g ∷ ys) keeps = absurd (none-some g (keeps zero g refl))
frames_fewer (x ∷ xs) (None ∷ ys) keeps = omega (arith, sum_by-cons frames_at x xs, sum_by-cons frames_at None ys, frames_fewer xs ys (λ k f at. keeps (suc k) f at))
frames_fewer (x ∷ xs) (Some g ∷ ys) keeps = omega (arith, sum_by-cons frames_at x xs, sum_by-cons frames_at (Some g) ys, ap frames_at (keeps zero g refl), frames_fewer xs ys (λ k f at. keeps (suc k) f at))

-- ---- the frame that is expected next

pub get_set : (ls : List Link) (i : ℕ) (x y : Link) → slice_get ls i ≡ Some x → slice_get (set ls i y) i ≡ Some y
get_set [] i x y is = absurd (none-some x is)
get_set (l ∷ ls) zero x y is = refl
get_set (l ∷ ls) (suc i) x y is = get_set ls i x y is

link_same : (l k : Link) → Some l ≡ Some k → l ≡ k
link_same l k e = cc

pub set_get : (ls : List Link) (k from : ℕ) (y : Link) → k ≡ from → k < length ls → slice_get (set ls k y) from ≡ Some y
set_get ls k from y same lt = subst (λ (i : ℕ). slice_get (set ls k y) i ≡ Some y) same (here ls k lt)
  where
    here : (xs : List Link) (i : ℕ) → i < length xs → slice_get (set xs i y) i ≡ Some y
    here [] i within = absurd (omega (arith, within))
    here (x ∷ xs) zero within = refl
    here (x ∷ xs) (suc i) within = here xs i (omega (arith, within))

pub got_same : (ls : List Link) (k : ℕ) (l link : Link) → slice_get ls k ≡ Some l → link ≡ slice_index_or ls k link → link ≡ l
got_same [] k l link at is = absurd (none-some l at)
got_same (x ∷ ls) zero l link at is = is ∙ link_same x l at
got_same (x ∷ ls) (suc k) l link at is = got_same ls k l link at is

pub get_is : (ls : List Link) (k from : ℕ) (link : Link) → k ≡ from → k < length ls → link ≡ slice_index_or ls k link → slice_get ls from ≡ Some link
get_is ls k from link same lt is = subst (λ (i : ℕ). slice_get ls i ≡ Some link) same (here ls k lt is)
  where
    here : (xs : List Link) (i : ℕ) → i < length xs → link ≡ slice_index_or xs i link → slice_get xs i ≡ Some link
    here [] i within at = absurd (omega (arith, within))
    here (x ∷ xs) zero within at = ap Some (sym at)
    here (x ∷ xs) (suc i) within at = here xs i (omega (arith, within)) at

pub got_within : (ls : List Link) (k : ℕ) (l : Link) → slice_get ls k ≡ Some l → k < length ls
got_within [] k l at = absurd (none-some l at)
got_within (x ∷ ls) zero l at = omega arith
got_within (x ∷ ls) (suc k) l at = omega (arith, got_within ls k l at)

pub waits_before : (from number : ℕ) (d : Datagram) (xs ys : List (Option Frame)) → KeepsSome xs ys → WaitsAs from number d ys → WaitsAs from number d xs
waits_before from number d xs ys keeps (f, at, sender, same, is) = (f, keeps (place_of from number) f at, sender, same, is)

module _ (from : ℕ) (d : Datagram) (links links_now : List Link) (frames frames_now : List (Option Frame)) (takes : TakesNext from d links links_now frames frames_now) where
  pub takes_keeps : KeepsSome frames frames_now
  takes_keeps k f at = let (link, _, _, _, gone) = takes in set_none frames (place_of from link.next) k f (subst (λ (xs : List (Option Frame)). slice_index_or xs k None ≡ Some f) gone at)

  pub takes_was : (f : Frame) × Contains frames (Some f) × (f.datagram ≡ d)
  takes_was = let (link, _, (f, at, _, _, is), _, _) = takes in (f, place_contains frames (place_of from link.next) f at, is)

  pub takes_rest : (f : Frame) → Contains frames (Some f) → Contains frames_now (Some f) ⊎ (f.datagram ≡ d)
  takes_rest f has =
      let (link, _, (g, at, _, _, is), _, gone) = takes in
      elim (set_rest frames (place_of from link.next) g at f has) [
        | inl stays ↦ inl (subst (λ (xs : List (Option Frame)). Contains xs (Some f)) (sym gone) stays)
        | inr same ↦ inr (ap (λ (x : Frame). x.datagram) same ∙ is)
      ]

  pub takes_expected : (epoch number : ℕ) → Expects from epoch number links → WaitsAs from number d frames × Expects from epoch (after number) links_now
  takes_expected epoch number (l, at, in_epoch, is) =
      let (link, there, waits, more, _) = takes in
      let same : link ≡ l = link_same link l (sym there ∙ at) in
      let next : link.next ≡ number = ap (λ (x : Link). x.next) same ∙ is in
      let moved_on : Link = record link { next = after link.next } in (
        subst (λ (n : ℕ). WaitsAs from n d frames) next waits,
        (moved_on, subst (λ (ls : List Link). slice_get ls from ≡ Some moved_on) (sym more) (get_set links from link moved_on there), ap (λ (x : Link). x.epoch) same ∙ in_epoch, ap after next),
      )

-- a frame that is expected is not early
pub expected_not_early : (from epoch number : ℕ) (links : List Link) → Expects from epoch number links → IsEarlyIn from epoch number links → ⊥
expected_not_early from epoch number links (l, at, _, is) (k, there, early) = omega (arith, early.1, ap (λ (x : Link). x.next) (link_same l k (sym at ∙ there)), is)

pub frames_more : (from number : ℕ) (ds : List Datagram) (last : ℕ) (d : Datagram) (frames : List (Option Frame)) → AreFrames from number ds last frames → WaitsAs from last d frames → AreFrames from number (ds ++ d ∷ []) (after last) frames
frames_more from number [] last d frames is waits = (subst (λ (n : ℕ). WaitsAs from n d frames) (sym is) waits, ap after is)
frames_more from number (x ∷ ds) last d frames (first, rest) waits = (first, frames_more from (after number) ds last d frames rest waits)

pub none_next : (from epoch last : ℕ) (links : List Link) (frames : List (Option Frame)) → NoneNext from links frames → Expects from epoch last links → Waits from last frames → ⊥
none_next from epoch last links frames none (link, at, _, is) waits = none link at (subst (λ (n : ℕ). Waits from n frames) (sym is) waits)

-- ---- the datagrams of peers: those that are ready, and those that wait

abbrev both : List Datagram → List (Option Frame) → Datagrams
both ready frames = either (ready_in ready) (early_in frames)

module _ (ready ready_now : List Datagram) (frames frames_now : List (Option Frame)) where
  pub peers_keep : (from : ℕ) (bytes : List ℕ) → KeepsOnly from bytes (ready_in ready) (ready_in ready_now) → KeepsOnly from bytes (early_in frames) (early_in frames_now) → KeepsOnly from bytes (both ready frames) (both ready_now frames_now)
  peers_keep from bytes is_ready early a b has = elim has [
    | inl now ↦ elim (is_ready a b now) [
      | inl only ↦ inl only
      | inr before ↦ inr (inl before)
    ]
    | inr waits ↦ elim (early a b waits) [
      | inl only ↦ inl only
      | inr before ↦ inr (inr before)
    ]
  ]

  pub peers_rest : NoMore (ready_in ready) (ready_in ready_now) → KeepsSome frames frames_now → NoMore (both ready frames) (both ready_now frames_now)
  peers_rest is_ready early a b has = elim has [
    | inl now ↦ inl (is_ready a b now)
    | inr waits ↦ inr (waits.0, keeps_contains frames frames_now early waits.0 waits.1, waits.2)
  ]

  -- a frame that waited is ready
  pub moved : (d : Datagram) → ready_now ≡ ready ++ d ∷ [] → (f : Frame) × Contains frames (Some f) × (f.datagram ≡ d) → KeepsSome frames frames_now → NoMore (both ready frames) (both ready_now frames_now)
  moved d same (f, was, is) early a b has = elim has [
    | inl now ↦ elim (push_cases packet_of ready d (record { address = a; bytes = b }) (subst (λ (ds : List Datagram). ready_in ds a b) same now)) [
      | inl before ↦ inl before
      | inr this ↦ inr (f, was, ap packet_of is ∙ sym this)
    ]
    | inr waits ↦ inr (waits.0, keeps_contains frames frames_now early waits.0 waits.1, waits.2)
  ]

pub nothing_kept : (ready : List Datagram) (frames : List (Option Frame)) → ready ≡ [] → KeepsSome [] frames → NoMore (λ _ _. ⊥) (both ready frames)
nothing_kept ready frames none keeps a b has = elim has [
  | inl is_ready ↦ let w = subst (λ (ds : List Datagram). ready_in ds a b) none is_ready in omega (arith, w.1)
  | inr waits ↦ let w = keeps_contains [] frames keeps waits.0 waits.1 in omega (arith, w.1)
]

pub waits_same : (from number : ℕ) (d : Datagram) (v w : Vec (Option Frame) Global) → w ≡ v → WaitsAs from number d v.items → WaitsAs from number d w.items
waits_same from number d v w same waits = subst (λ (x : Vec (Option Frame) Global). WaitsAs from number d x.items) (sym same) waits

pub waits_in : (from number : ℕ) (d : Datagram) (e g : Early) → g ≡ e → WaitsAs from number d e.frames.items → WaitsAs from number d g.frames.items
waits_in from number d e g same waits = subst (λ (x : Early). WaitsAs from number d x.frames.items) (sym same) waits

pub early_still : (from : ℕ) (bytes : List ℕ) (old : List (Option Frame)) (v w : Vec (Option Frame) Global) → w ≡ v → KeepsOnly from bytes (early_in old) (early_in v.items) → KeepsOnly from bytes (early_in old) (early_in w.items)
early_still from bytes old v w same keeps = subst (λ (x : Vec (Option Frame) Global). KeepsOnly from bytes (early_in old) (early_in x.items)) (sym same) keeps

pub ok_map : {E : Type 0} (r : Result (Unit {0}) E) (P Q : Type 0) → (P → Q) → OnOk r P → OnOk r Q
ok_map (Ok u) P Q f p = f p
ok_map (Err e) P Q f p = tt

pub ok_later : {E : Type 0} (r : Result (Unit {0}) E) (A P : Type 0) → (A → OnOk r P) → OnOk r (A → P)
ok_later (Ok u) A P f = f
ok_later (Err e) A P f = tt

pub ok_three : {E : Type 0} (r : Result (Unit {0}) E) (P Q R S : Type 0) → (P → Q → R → S) → OnOk r P → OnOk r Q → OnOk r R → OnOk r S
ok_three (Ok u) P Q R S f p q r = f p q r
ok_three (Err e) P Q R S f p q r = tt

pub err_map : {E : Type 0} (r : Result (Unit {0}) E) (P Q : Type 0) → (P → Q) → OnErr r P → OnErr r Q
err_map (Ok u) P Q f p = tt
err_map (Err e) P Q f p = f p

pub ok_of : {E : Type 0} (r : Result (Unit {0}) E) (P : Type 0) → P → OnOk r P
ok_of (Ok u) P p = p
ok_of (Err e) P p = tt

pub frames_same : (v w : Vec (Option Frame) Global) → w ≡ v → w.items ≡ v.items
frames_same v w same = ap (λ (x : Vec (Option Frame) Global). x.items) same

-- ---- order

pub made_ready : (from : ℕ) (bytes : List ℕ) (old mid new : List Datagram) (d : Datagram) → Is from bytes d → mid ≡ old ++ d ∷ [] → StaysReady mid new → IsMadeReady from bytes old new
made_ready from bytes old mid new d is same (more, then) = (d, more, is, then ∙ ap (λ (ds : List Datagram). ds ++ more) same ∙ append_assoc old (d ∷ []) more)

pub head_same : (h k : Head) → Some h ≡ Some k → h ≡ k
head_same h k e = cc

pub none_behind : (ds : List Datagram) → ds ++ [] ≡ ds
none_behind [] = refl
none_behind (d ∷ ds) = ap (λ (r : List Datagram). d ∷ r) (none_behind ds)

pub stays_same : (old new : List Datagram) → new ≡ old → StaysReady old new
stays_same old new same = ([], same ∙ sym (none_behind old))

-- one more is ready
pub holds_still : (old new : List Datagram) (d e : Datagram) → new ≡ old ++ d ∷ [] → Contains old e → Contains new e
holds_still old new d e more has = subst (λ (ds : List Datagram). Contains ds e) (sym more) (Contains-append_left old (d ∷ []) e has)

pub holds_last : (old new : List Datagram) (d e : Datagram) → new ≡ old ++ d ∷ [] → e ≡ d → Contains new e
holds_last old new d e more is = subst (λ (ds : List Datagram). Contains ds e) (sym more) (Contains-append_right old (d ∷ []) e (zero, omega arith, sym is))

pub stays_then : (old between new : List Datagram) → StaysReady old between → StaysReady between new → StaysReady old new
stays_then old between new (one, is) (other, same) = (one ++ other, same ∙ ap (λ (ds : List Datagram). ds ++ other) is ∙ append_assoc old one other)
