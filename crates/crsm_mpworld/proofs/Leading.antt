-- The effects of the endings of a step.
use Rattle.std.proofs.Common.{◌≡◌, ◌-◌, ℕ, List, [], ◌∷◌, ◌++◌, length, take, Some, append_assoc, ap, sym, ◌∙◌, subst, append-nil, refl}
use Rattle.std.specs.Prelude.{slice_get, slice_set}
use Rattle.crsm_mpspec.specs.declared.input.MpInput.{MpInput}
use Rattle.crsm_mpspec.specs.declared.line.MpLine.{MpLine}
use Rattle.crsm_mpspec.specs.Draft.{Draft}
use Rattle.crsm_mpspec.specs.Step.{step}
use Rattle.crsm_mpspec.specs.World.{Site, World, Moment, Ending, whole_step, cut_step, then_down, after_step, down, with_site, log_of}
use Rattle.crsm_mpspec.specs.Moments.{silent, begun_at, step_at, world_after, lines_of}
use Rattle.crsm_mpworld.specs.declared.ending.MpEffects.{MpEffects}
use Rattle.crsm_mpworld.specs.declared.network.MpNetwork.{MpNetwork}
use Rattle.crsm_mpworld.specs.declared.site.MpStep.{MpStep}
use Rattle.crsm_mpworld.specs.declared.sites.Sites.{Sites}
use Rattle.crsm_mpworld.specs.declared.world.MpWorld.{MpWorld}
use Rattle.crsm_mpworld.specs.Effects.{LetsOut, Leaves, LeadsOn, WorldLeadsOn}
use Rattle.crsm_mpworld.specs.Packets.{MpNetworkStands}
use Rattle.crsm_mpworld.specs.Sites.{StandFor}
use Rattle.crsm_mpworld.specs.World.{Leads}
use Rattle.crsm_mpworld.proofs.Turns.{IsUp, step_here, log_here}

-- ---- behind other lines

pub on_as : (m o : Moment) (n : ℕ) (s : Sites) (p : MpNetwork) (before lines : List MpLine) → m ≡ o → LeadsOn o n s p before lines → LeadsOn m n s p before lines
on_as m o n s p before lines e h = subst (λ (x : Moment). LeadsOn x n s p before lines) (sym e) h

pub on_count : (m : Moment) (n k : ℕ) (s : Sites) (p : MpNetwork) (before lines : List MpLine) → n ≡ k → LeadsOn m k s p before lines → LeadsOn m n s p before lines
on_count m n k s p before lines e h = record { count = e ∙ h.count; places = h.places; packets = h.packets; told = h.told }

pub on_still : (v : World) (s : Sites) (p : MpNetwork) (lines : List MpLine) → StandFor s v.n v.sites → MpNetworkStands p v.packets v.bytes → LeadsOn (silent v v) v.n s p lines lines
unfolding silent
on_still v s p lines places packets = record { count = refl; places = places; packets = packets; told = sym (append-nil lines) }

pub on_whole : (v : World) (k : ℕ) (x : Draft) (s : Sites) (p : MpNetwork) (before lines : List MpLine) → StandFor s v.n (slice_set v.sites k (Site.Up x.replica))
    → LetsOut before v.packets v.bytes k x x.sends x.replies p lines → LeadsOn (whole_step v k x) v.n s p before lines
unfolding whole_step after_step
on_whole v k x s p before lines h o = record { count = refl; places = h; packets = o.stands; told = o.told }

pub on_kept : (count : ℕ) (v : World) (k : ℕ) (x : Draft) (s : Sites) (p : MpNetwork) (before lines all : List MpLine) → StandFor s v.n (slice_set v.sites k (Site.Down x.replica.log))
    → LetsOut before v.packets v.bytes k x (take count x.sends) (take (count - length x.sends) x.replies) p lines → all ≡ lines ++ MpLine.Down k ∷ [] → LeadsOn (cut_step count v k x) v.n s p before all
unfolding cut_step then_down after_step
on_kept count v k x s p before lines all h o e = record { count = refl; places = h; packets = o.stands; told = e ∙ ap (λ ls. ls ++ MpLine.Down k ∷ []) o.told ∙ append_assoc before _ (MpLine.Down k ∷ []) }

pub on_down : (v : World) (k : ℕ) (place : Site) (s : Sites) (p : MpNetwork) (before all : List MpLine) → slice_get v.sites k ≡ Some place → StandFor s v.n (slice_set v.sites k (Site.Down (log_of place)))
    → MpNetworkStands p v.packets v.bytes → all ≡ before ++ MpLine.Down k ∷ [] → LeadsOn (down v k) v.n s p before all
unfolding down with_site
on_down v k place s p before all e h packets g = record {
  count = refl;
  places = subst (λ (log : _). StandFor s v.n (slice_set v.sites k (Site.Down log))) (sym (log_here v k place e)) h;
  packets = packets;
  told = g;
}

pub on_begun : (v : World) (m : Moment) (n : ℕ) (s : Sites) (p : MpNetwork) (before lines : List MpLine) → LeadsOn m n s p before lines → LeadsOn (begun_at v m) n s p before lines
unfolding begun_at
on_begun v m n s p before lines h = record { count = h.count; places = h.places; packets = h.packets; told = h.told }

-- behind no lines
pub leads_on : (m : Moment) (w : MpWorld) (before lines : List MpLine) → before ≡ [] → WorldLeadsOn m w before lines → Leads m w lines
leads_on m w before lines e h = record { after = record { n = h.count; sites = h.places; network = h.packets }; told = h.told ∙ ap (λ ls. ls ++ m.lines) e }

-- ---- what is left

pub leaves_as : (m n : Moment) (v : World) (l : MpEffects) (t : MpStep) (s : Sites) → m ≡ n → Leaves n v l t s → Leaves m v l t s
leaves_as m n v l t s e h = subst (λ (x : Moment). Leaves x v l t s) (sym e) h

pub leaves_here : (ends : Ending) (v : World) (k j : ℕ) (input : MpInput) (from : ℕ) (l : MpEffects) (t : MpStep) (s : Sites) (u : IsUp v.sites k j) → Leaves (ends v j (step u.replica input from)) v l t s → Leaves (step_at ends v k input from) v l t s
leaves_here ends v k j input from l t s u h =
    leaves_as (step_at ends v k input from) (ends v j (step u.replica input from)) v l t s (step_here ends v k input from u.replica u.up ∙ ap (λ i. ends v i (step u.replica input from)) (sym u.number)) h

-- ---- whole acts

pub leads_as : (m n : Moment) (w : MpWorld) (lines : List MpLine) → m ≡ n → Leads n w lines → Leads m w lines
leads_as m n w lines e h = subst (λ (x : Moment). Leads x w lines) (sym e) h

-- these moments as one
unfoldable pub together : World → List Moment → Moment
together w ms = record { before = w; after = world_after w ms; lines = lines_of ms }

-- one moment as an act
pub leads_one : (v : World) (m : Moment) (w : MpWorld) (lines : List MpLine) → Leads m w lines → Leads (together v (m ∷ [])) w lines
unfolding together world_after lines_of
leads_one v m w lines h = record { after = h.after; told = h.told ∙ sym (append-nil m.lines) }

pub leads_none : (v : World) (w : MpWorld) (lines : List MpLine) → lines ≡ [] → StandFor w.sites v.n v.sites → MpNetworkStands w.network v.packets v.bytes → w.n ≡ v.n → Leads (together v []) w lines
unfolding together world_after lines_of
leads_none v w lines e s p n = record { after = record { n = n; sites = s; network = p }; told = e }
