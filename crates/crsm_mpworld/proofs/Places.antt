-- Sites in memory and in the definitions, one by one.
use Rattle.std.proofs.Common.{◌≡◌, ◌<◌, ◌≤◌, ◌+◌, ℕ, zero, suc, Bool, true, false, cond, ltb, List, [], ◌∷◌, ◌++◌, length, map, take, get_or, set, replicate, Option, Some, None, refl, ap, sym, ◌∙◌, subst, arith, take_all}
use Rattle.std.specs.Prelude.{slice_get}
use Rattle.std.specs.List.{enumerate_from}
use Rattle.std.specs.Option.{option_map_or}
use Rattle.std.proofs.lemmas.Bool.{ltb-true, ltb-false, lt-ltb}
use Rattle.std.proofs.lemmas.List.{take_more, map-append, replicate_more}
use Rattle.std.proofs.lemmas.List.FromFn.{length-enumerate_from, get_or-enumerate_from}
use Rattle.std.proofs.lemmas.Option.{none-some, slice_get_past, slice_get-get_or, get_or_from_slice_get}
use Rattle.crsm_mpspec.specs.declared.line.MpLine.{MpLine}
use Rattle.crsm_mpspec.specs.World.{Site as Place, is_up, final_line}
use Rattle.crsm_mpworld.specs.declared.place.Site.{Site}
use Rattle.crsm_mpworld.specs.Sites.{SiteStands, SitesStand, is_up_in, up_in}

-- a site that was looked up is there
pub looked_up : (ss ys : List Site) (k : ℕ) → ys ≡ ss → true ≡ ltb k (length ys) → k < length ss
looked_up ss ys k e b = let l = ltb-true k (length ys) (sym b) in let f = ap length e in omega (arith, l, f)

module _ (n : ℕ) where
  pub sites_length : (k : ℕ) (ss : List Site) (ps : List Place) → SitesStand n k ss ps → length ss ≡ length ps
  sites_length k [] [] h = refl
  sites_length k (s ∷ ss) (p ∷ ps) h = ap suc (sites_length (suc k) ss ps h.1)
  sites_length k [] (p ∷ ps) h = absurd h
  sites_length k (s ∷ ss) [] h = absurd h

  -- the place of site i
  here : (k : ℕ) (ss : List Site) (ps : List Place) (i : ℕ) (s : Site) → SitesStand n k ss ps → slice_get ss i ≡ Some s →
      (p : Place) × (slice_get ps i ≡ Some p) × SiteStands s (k + i) n p
  here k [] [] i s h e = absurd (none-some s e)
  here k (a ∷ ss) (b ∷ ps) zero s h e =
      let x : a ≡ s = ap (λ (o : Option Site). option_map_or (λ y. y) o a) e in
      let z : k ≡ k + 0 = omega arith in
      (b, refl, subst (λ (j : ℕ). SiteStands s j n b) z (subst (λ t. SiteStands t k n b) x h.0))
  here k (a ∷ ss) (b ∷ ps) (suc i) s h e =
      let r = here (suc k) ss ps i s h.1 e in
      let z : suc k + i ≡ k + suc i = omega arith in
      (r.0, r.1, subst (λ (j : ℕ). SiteStands s j n r.0) z r.2)
  here k [] (b ∷ ps) i s h e = absurd h
  here k (a ∷ ss) [] i s h e = absurd h

  -- Another site and place at i, where the others are as before.
  put : (k : ℕ) (ss : List Site) (ps : List Place) (i : ℕ) (s : Site) (p : Place) → SitesStand n k ss ps → SiteStands s (k + i) n p →
      SitesStand n k (set ss i s) (set ps i p)
  put k [] [] i s p h is = tt
  put k (a ∷ ss) (b ∷ ps) zero s p h is = (let z : k + 0 ≡ k = omega arith in subst (λ (j : ℕ). SiteStands s j n p) z is, h.1)
  put k (a ∷ ss) (b ∷ ps) (suc i) s p h is =
      (h.0, put (suc k) ss ps i s p h.1 (let z : k + suc i ≡ suc k + i = omega arith in subst (λ (j : ℕ). SiteStands s j n p) z is))
  put k [] (b ∷ ps) i s p h is = absurd h
  put k (a ∷ ss) [] i s p h is = absurd h

  more : (k : ℕ) (ss : List Site) (ps : List Place) (s : Site) (p : Place) → SitesStand n k ss ps → SiteStands s (k + length ss) n p →
      SitesStand n k (ss ++ s ∷ []) (ps ++ p ∷ [])
  more k [] [] s p h is = (let z : k + 0 ≡ k = omega arith in subst (λ (j : ℕ). SiteStands s j n p) z is, tt)
  more k (a ∷ ss) (b ∷ ps) s p h is =
      (h.0, more (suc k) ss ps s p h.1 (let z : k + suc (length ss) ≡ suc k + length ss = omega arith in subst (λ (j : ℕ). SiteStands s j n p) z is))
  more k [] (b ∷ ps) s p h is = absurd h
  more k (a ∷ ss) [] s p h is = absurd h

  -- ---- one site

  -- the place of the site that was looked up
  pub site_got : (ss : List Site) (places : List Place) (k : ℕ) (s : Site) (ys : List Site) → SitesStand n 0 ss places → ys ≡ ss →
      true ≡ ltb k (length ys) → s ≡ get_or ys k s → (p : Place) × (slice_get places k ≡ Some p) × SiteStands s k n p
  site_got ss places k s ys h e b is =
      let there : slice_get ys k ≡ Some s = slice_get-get_or ys k s (ltb-true k (length ys) (sym b)) ∙ ap Some (sym is) in
      let r = here 0 ss places k s h (ap (λ xs. slice_get xs k) (sym e) ∙ there) in
      let z : 0 + k ≡ k = omega arith in
      (r.0, r.1, subst (λ (j : ℕ). SiteStands s j n r.0) z r.2)

  pub site_missed : (ss : List Site) (places : List Place) (k : ℕ) (ys : List Site) → SitesStand n 0 ss places → ys ≡ ss → false ≡ ltb k (length ys) →
      slice_get places k ≡ None
  site_missed ss places k ys h e b =
      slice_get_past places k (let l = sites_length 0 ss places h in let m = ltb-false k (length ys) (sym b) in let f = ap length e in omega arith)

  same_some : (p q : Place) → Some p ≡ Some q → p ≡ q
  same_some p q e = cc

  pub site_at : (ss : List Site) (places : List Place) (k : ℕ) (s : Site) (p : Place) → SitesStand n 0 ss places → k < length ss → s ≡ get_or ss k s →
      slice_get places k ≡ Some p → SiteStands s k n p
  site_at ss places k s p h l is e =
      let r = site_got ss places k s ss h refl (sym (lt-ltb k (length ss) l)) is in
      subst (λ q. SiteStands s k n q) (same_some r.0 p (sym r.1 ∙ e)) r.2

  pub site_set : (ss : List Site) (places : List Place) (k : ℕ) (s : Site) (p : Place) → SitesStand n 0 ss places → SiteStands s k n p →
      SitesStand n 0 (set ss k s) (set places k p)
  site_set ss places k s p h is = put 0 ss places k s p h (let z : k ≡ 0 + k = omega arith in subst (λ (j : ℕ). SiteStands s j n p) z is)

  -- one more site
  pub site_next : (ss : List Site) (k : ℕ) (s : Site) (p : Place) → length ss ≡ k → SitesStand n 0 ss (replicate k p) → SiteStands s k n p →
      SitesStand n 0 (ss ++ s ∷ []) (replicate (k + 1) p)
  site_next ss k s p e h is =
      subst (SitesStand n 0 (ss ++ s ∷ [])) (replicate_more k p) (more 0 ss (replicate k p) s p h (let z : k ≡ 0 + length ss = omega arith in subst (λ (j : ℕ). SiteStands s j n p) z is))

  -- ---- who is up

  pub ups_next : (ss : List Site) (places : List Place) (i : ℕ) (s : Site) (ups : List Bool) (up : Bool) → SitesStand n 0 ss places → i < length ss →
      s ≡ get_or ss i s → ((p : Place) → SiteStands s i n p → up ≡ is_up p) → ups ≡ map is_up (take i places) → ups ++ up ∷ [] ≡ map is_up (take (i + 1) places)
  ups_next ss places i s ups up h l is f e =
      let r = site_got ss places i s ss h refl (sym (lt-ltb i (length ss) l)) is in
      ap (λ us. us ++ up ∷ []) e ∙ ap (λ u. map is_up (take i places) ++ u ∷ []) (f r.0 r.2)
      ∙ sym (map-append is_up (take i places) (r.0 ∷ []))
      ∙ ap (map is_up) (ap (λ p. take i places ++ p ∷ []) (sym (get_or_from_slice_get places i r.0 r.0 r.1)) ∙ sym (take_more places i r.0 (omega (arith, l, sites_length 0 ss places h))))

  -- ---- the last lines

  pub finals_next : (ss : List Site) (places : List Place) (i : ℕ) (s : Site) (lines : List MpLine) (line : MpLine) → SitesStand n 0 ss places → i < length ss →
      s ≡ get_or ss i s → ((p : Place) → SiteStands s i n p → line ≡ final_line (i, p)) → lines ≡ map final_line (take i (enumerate_from 0 places)) →
      lines ++ line ∷ [] ≡ map final_line (take (i + 1) (enumerate_from 0 places))
  finals_next ss places i s lines line h l is f e =
      let r = site_got ss places i s ss h refl (sym (lt-ltb i (length ss) l)) is in
      let m : i < length (enumerate_from 0 places) = omega (arith, l, sites_length 0 ss places h, length-enumerate_from 0 places) in
      let g : get_or (enumerate_from 0 places) i (i, r.0) ≡ (i, r.0) =
      get_or-enumerate_from 0 places i (i, r.0) (omega (arith, l, sites_length 0 ss places h))
      ∙ (let z : 0 + i ≡ i = omega arith in ap (λ j. (j, get_or places i r.0)) z) ∙ ap (λ q. (i, q)) (get_or_from_slice_get places i r.0 r.0 r.1) in
      ap (λ ls. ls ++ line ∷ []) e ∙ ap (λ x. map final_line (take i (enumerate_from 0 places)) ++ x ∷ []) (f r.0 r.2)
      ∙ sym (map-append final_line (take i (enumerate_from 0 places)) ((i, r.0) ∷ []))
      ∙ ap (map final_line) (ap (λ x. take i (enumerate_from 0 places) ++ x ∷ []) (sym g) ∙ sym (take_more (enumerate_from 0 places) i (i, r.0) m))

  pub finals_done : (ss : List Site) (places : List Place) (i : ℕ) → SitesStand n 0 ss places → length ss ≤ i →
      map final_line (take i (enumerate_from 0 places)) ≡ map final_line (enumerate_from 0 places)
  finals_done ss places i h l = ap (map final_line) (take_all i (enumerate_from 0 places) (omega (arith, l, sites_length 0 ss places h, length-enumerate_from 0 places)))

-- ---- who is up, in the definitions

pub up_got : (places : List Place) (k : ℕ) (p : Place) → slice_get places k ≡ Some p → is_up_in places k ≡ is_up p
unfolding is_up_in
up_got places k p e = ap (λ o. option_map_or is_up o false) e

pub up_missed : (places : List Place) (k : ℕ) → slice_get places k ≡ None → is_up_in places k ≡ false
unfolding is_up_in
up_missed places k e = ap (λ o. option_map_or is_up o false) e

pub up_some : (places : List Place) (k : ℕ) → is_up_in places k ≡ true → Some k ≡ up_in places k
unfolding up_in
up_some places k e = sym (ap (λ b. cond b (Some k) None) e)

pub up_none : (places : List Place) (k : ℕ) → is_up_in places k ≡ false → None ≡ up_in places k
unfolding up_in
up_none places k e = sym (ap (λ b. cond b (Some k) None) e)
