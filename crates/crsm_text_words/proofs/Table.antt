-- What `clap` does with a name and the values after it.
use Rattle.std.proofs.Common.{◌≡◌, ◌∙◌, ◌⊎◌, inl, inr, ℕ, ◌&&◌, Bool, cond, true, false, refl, ap, sym, subst, map, List, [], ◌∷◌, ◌++◌, length, Option, Some, None, arith, append_assoc, append-nil, codes, nat_le, nat_lt}
use Rattle.std.specs.List.{All, fold, find, list_all}
use Rattle.std.specs.Str.{bytes_eq}
use Rattle.std.specs.Bool.{Decides}
use Rattle.std.specs.Option.{option_map, option_map_or}
use Rattle.std.specs.Prelude.{is_some, option_and_then, unwrap_or}
use Rattle.std.proofs.lemmas.Slice.Eq.{bytes_eq-Decides}
use Rattle.clap.specs.Walk.{Names, Text, Walk, answers_to, finished, idle, all_of, nothing_held, rows_after, settled, stop_after, subcommand_met, walk, walk_from, walked}
use Rattle.clap.specs.Simple.{App, Shape, built, entered, filled_from, help_rule, version_rule, is_simple, label_of, rows_at, subcommand_of}
use Rattle.clap.specs.Kinds.{Kinds, or_else}
use Rattle.clap.specs.declared.error.kind.ErrorKind.TheVariants as kind
use Rattle.clap.specs.Faults.{built_fault, check_fault, defaults_fault, entered_fault, fault_of, is_simple_and_free, level_fault, settle_fault, turn_fault, walk_fault}
use Rattle.clap.proofs.OnLiterals.{clap_on_literals}
use Rattle.clap.proofs.FaultLemmas.{stopped_fault}
use Rattle.crsm_text_words.specs.Split.{IsPlain, parts, taken}
use Rattle.crsm_text_words.specs.Table.{Row, fits, product_app, row_named, table, top_shape, within}
use Rattle.crsm_text_words.proofs.Leaf.{Fails, IsBuilt, no_values, one_value, several_values, always_fails, fails_as, first_stops, found_values, head, level_of, no_dashes, no_long, no_short, tail, values_of}

pub is_free : is_simple_and_free product_app ≡ true
unfolding clap_on_literals
is_free = refl

pub is_simple_app : is_simple product_app ≡ true
unfolding clap_on_literals
is_simple_app = refl

-- ---- the commands as `clap` has built them

abbrev subs : List Shape
subs = (built product_app).subs

abbrev top : Shape
top = record top_shape { rules = filled_from 1 (help_rule ∷ version_rule ∷ []); is_leaf = false; is_built = true }

-- each is built from its row
abbrev AreBuilt : List Shape → List Row → Type 0
AreBuilt [] [] = Unit {0}
AreBuilt (s ∷ ss) (r ∷ rs) = (label_of s ≡ (r.name, [])) × (IsBuilt s r × AreBuilt ss rs)
AreBuilt [] (r ∷ rs) = ⊥
AreBuilt (s ∷ ss) [] = ⊥

all_built : AreBuilt subs table
unfolding clap_on_literals
all_built = (
  refl,
  (
    no_values refl refl refl,
    (
      refl,
      (
        several_values true refl refl refl (omega arith),
        (
          refl,
          (
            several_values true refl refl refl (omega arith),
            (
              refl,
              (
                several_values true refl refl refl (omega arith),
                (
                  refl,
                  (
                    several_values true refl refl refl (omega arith),
                    (
                      refl,
                      (
                        several_values true refl refl refl (omega arith),
                        (
                          refl,
                          (
                            one_value refl refl refl,
                            (
                              refl,
                              (
                                several_values true refl refl refl (omega arith),
                                (
                                  refl,
                                  (
                                    several_values false refl refl refl (omega arith),
                                    (
                                      refl,
                                      (
                                        several_values true refl refl refl (omega arith),
                                        (refl, (no_values refl refl refl, tt)),
                                      ),
                                    ),
                                  ),
                                ),
                              ),
                            ),
                          ),
                        ),
                      ),
                    ),
                  ),
                ),
              ),
            ),
          ),
        ),
      ),
    ),
  ),
)

fault_is : (words : List Text) → fault_of product_app words ≡ built_fault (record { top = top; subs = subs }) nothing_held words
unfolding clap_on_literals
fault_is words = refl

taken_is : (words : List Text) → taken words ≡ parts (entered (record { top = top; subs = subs }) (stop_after top.rules (map label_of subs) words))
unfolding clap_on_literals
taken_is words = refl

no_words : fault_of product_app [] ≡ kind.MissingSubcommand ∷ []
unfolding clap_on_literals
no_words = refl

-- ---- a name in the table

-- the command that a name names, and its row
record Met (name : Text) (ss : List Shape) (rs : List Row) : Type 0 where
  s : Shape
  r : Row
  found : find (λ t. answers_to name (label_of t)) ss ≡ Some s
  row_is : row_named name rs ≡ Some r
  label : label_of s ≡ (name, [])
  is : IsBuilt s r

record Unmet (name : Text) (ss : List Shape) (rs : List Row) : Type 0 where
  found : find (λ t. answers_to name (label_of t)) ss ≡ None
  row_is : row_named name rs ≡ None

text_cases : (a b : Text) → ((a ≡ b) × (bytes_eq a b ≡ true)) ⊎ (bytes_eq a b ≡ false)
text_cases a b = go (bytes_eq a b) refl (bytes_eq-Decides a b)
  where
    go : (r : Bool) → bytes_eq a b ≡ r → Decides r (a ≡ b) → ((a ≡ b) × (bytes_eq a b ≡ true)) ⊎ (bytes_eq a b ≡ false)
    go true e d = inl (d.0 refl, e)
    go false e d = inr e

answers_by : (name : Text) (s : Shape) (r : Row) (b : Bool) → label_of s ≡ (r.name, []) → bytes_eq r.name name ≡ b → answers_to name (label_of s) ≡ b
answers_by name s r true label is = ap (answers_to name) label ∙ rw is refl
answers_by name s r false label is = ap (answers_to name) label ∙ rw is refl

look_up : (name : Text) (ss : List Shape) (rs : List Row) → AreBuilt ss rs → Met name ss rs ⊎ Unmet name ss rs
look_up name [] [] all = inr (record { found = refl; row_is = refl })
look_up name [] (r ∷ rs) all = absurd all
look_up name (s ∷ ss) [] all = absurd all
look_up name (s ∷ ss) (r ∷ rs) all = elim (text_cases r.name name) [
  | inl is ↦ inl (record {
    s = s;
    r = r;
    found = ap (λ (b : Bool). cond b (Some s) (find (λ t. answers_to name (label_of t)) ss)) (answers_by name s r true all.0 is.1);
    row_is = ap (λ (b : Bool). cond b (Some r) (row_named name rs)) is.1;
    label = all.0 ∙ ap (λ (n : Text). (n, [])) is.0;
    is = all.1.0;
  })
  | inr other ↦
      let skip = ap (λ (b : Bool). cond b (Some s) (find (λ t. answers_to name (label_of t)) ss)) (answers_by name s r false all.0 other) in
      let skip_row = ap (λ (b : Bool). cond b (Some r) (row_named name rs)) other in
      elim (look_up name ss rs all.1.1) [
        | inl m ↦ inl (record { s = m.s; r = m.r; found = skip ∙ m.found; row_is = skip_row ∙ m.row_is; label = m.label; is = m.is })
        | inr u ↦ inr (record { found = skip ∙ u.found; row_is = skip_row ∙ u.row_is })
      ]
]

find_label : (name : Text) (ss : List Shape) → find (answers_to name) (map label_of ss) ≡ option_map label_of (find (λ t. answers_to name (label_of t)) ss)
find_label name [] = refl
find_label name (t ∷ ts) = go (find_label name ts) (answers_to name (label_of t))
  where
    go : find (answers_to name) (map label_of ts) ≡ option_map label_of (find (λ u. answers_to name (label_of u)) ts)
        → (b : Bool) → cond b (Some (label_of t)) (find (answers_to name) (map label_of ts)) ≡ option_map label_of (cond b (Some t) (find (λ u. answers_to name (label_of u)) ts))
    go later true = refl
    go later false = later

met_is : (name : Text) (ss : List Shape) (o : Option Shape) → find (λ t. answers_to name (label_of t)) ss ≡ o → subcommand_met (map label_of ss) idle name ≡ option_map (λ s. (label_of s).0) o
met_is name ss o found = ap (option_map (λ (l : Text × List Text). l.0)) (find_label name ss ∙ ap (option_map label_of) found) ∙ twice o
  where
    twice : (o : Option Shape) → option_map (λ (l : Text × List Text). l.0) (option_map label_of o) ≡ option_map (λ s. (label_of s).0) o
    twice None = refl
    twice (Some s) = refl

-- ---- a name that is met

and_false : (b : Bool) → b && false ≡ false
and_false true = refl
and_false false = refl

nil_end : (k : Kinds) → or_else k [] ≡ k
nil_end [] = refl
nil_end (x ∷ xs) = refl

stopped_walk : (names : Names) (w : Walk) (n : Text) (acc values : List Text) → fold (walked top.rules names) (record w { stopped = Some (n, acc) }) values ≡ record w { stopped = Some (n, acc ++ values) }
unfolding walked
stopped_walk names w n acc [] = ap (λ (l : List Text). record w { stopped = Some (n, l) }) (sym (append-nil acc))
stopped_walk names w n acc (x ∷ xs) = stopped_walk names w n (acc ++ x ∷ []) xs ∙ ap (λ (l : List Text). record w { stopped = Some (n, l) }) (append_assoc acc (x ∷ []) xs)

module _ (ss : List Shape) (name : Text) where
  abbrev names : Names
  names = map label_of ss

  abbrev app : App
  app = record { top = top; subs = ss }

  abbrev entering : List Text → Walk
  entering values = record (walk_from nothing_held) { stopped = Some (name, values) }

  -- what is left of the top level, where its walk comes to w and its steps to these kinds
  abbrev left : Walk → Kinds → Kinds
  left w steps = or_else steps (or_else (entered_fault app w.stopped) (or_else (settle_fault top.rules top.args_override_self w.held)
      (or_else (defaults_fault (settled top.rules w.held).rows top.rules) (check_fault top (finished top.rules w.held) (is_some (entered app w.stopped))))))

  name_walked : subcommand_met names idle name ≡ Some name → walked top.rules names (walk_from nothing_held) name ≡ entering []
  unfolding walked
  name_walked met = rw met refl

  name_turn : subcommand_met names idle name ≡ Some name → turn_fault top names (walk_from nothing_held) name ≡ []
  name_turn met = rw (met, and_false (bytes_eq name (codes "help"))) refl

  all_walked : (values : List Text) → subcommand_met names idle name ≡ Some name → walk top.rules names nothing_held (name ∷ values) ≡ entering values
  all_walked values met = ap (λ (w : Walk). fold (walked top.rules names) w values) (name_walked met) ∙ stopped_walk names (walk_from nothing_held) name [] values

  left_of : (s : Shape) (values : List Text) → find (λ t. answers_to name (label_of t)) ss ≡ Some s → left (entering values) [] ≡ level_fault s [] nothing_held values false []
  unfolding clap_on_literals
  left_of s values found =
      ap (λ (o : Option Shape). or_else (option_map_or (λ t. level_fault t [] nothing_held values false []) o []) (check_fault top [] (is_some (option_map (λ t. rows_at t values) o)))) found
      ∙ nil_end (level_fault s [] nothing_held values false [])

  met_fault : (s : Shape) (values : List Text) → subcommand_met names idle name ≡ Some name → find (λ t. answers_to name (label_of t)) ss ≡ Some s
      → built_fault app nothing_held (name ∷ values) ≡ level_fault s [] nothing_held values false []
  unfolding walk_fault
  met_fault s values met found =
      ap (λ (w : Walk). left w (or_else (turn_fault top names (walk_from nothing_held) name) (walk_fault top names (walked top.rules names (walk_from nothing_held) name) values))) (all_walked values met)
      ∙ ap (λ (k : Kinds). left (entering values) (or_else k (walk_fault top names (walked top.rules names (walk_from nothing_held) name) values))) (name_turn met)
      ∙ ap (λ (w : Walk). left (entering values) (walk_fault top names w values)) (name_walked met)
      ∙ ap (λ (k : Kinds). left (entering values) k) (stopped_fault top names (walk_from nothing_held) (name, []) values)
      ∙ left_of s values found

  met_parts : (s : Shape) (values : List Text) → subcommand_met names idle name ≡ Some name → find (λ t. answers_to name (label_of t)) ss ≡ Some s
      → parts (entered app (stop_after top.rules names (name ∷ values))) ≡ s.name ∷ found_values s values
  met_parts s values met found =
      ap (λ (w : Walk). parts (entered app w.stopped)) (all_walked values met)
      ∙ ap (λ (o : Option Shape). parts (option_map (λ t. rows_at t values) o)) found

  unmet_turn : IsPlain name → subcommand_met names idle name ≡ None → turn_fault top names (walk_from nothing_held) name ≡ kind.UnknownArgument ∷ kind.InvalidSubcommand ∷ []
  unfolding clap_on_literals
  unmet_turn plain met = rw (met, no_dashes name plain, no_long name plain, no_short name plain) refl

-- ---- all words

fits_by : (name : Text) (values : List Text) (o : Option Row) → row_named name table ≡ o → fits (name ∷ values) ≡ option_map_or (λ r. within r (length values)) o false
fits_by name values o is = ap (λ (x : Option Row). option_map_or (λ r. within r (length values)) x false) is

met_name : (name : Text) (rs : List Row) (m : Met name subs rs) → subcommand_met (map label_of subs) idle name ≡ Some name
met_name name rs m = met_is name subs (Some m.s) m.found ∙ ap (λ (l : Text × List Text). Some l.0) m.label

-- of words that do not begin with a hyphen, `clap` refuses exactly those that do not fit
pub refuses : (words : List Text) → All IsPlain words → Fails (fault_of product_app words) (fits words)
refuses [] plain = fails_as _ (kind.MissingSubcommand ∷ []) _ false no_words refl (always_fails kind.MissingSubcommand [] refl)
refuses (name ∷ values) plain = elim (look_up name subs table all_built) [
  | inl m ↦
      fails_as _ _ _ (within m.r (length values)) (fault_is (name ∷ values) ∙ met_fault subs name m.s values (met_name name table m) m.found) (fits_by name values (Some m.r) m.row_is)
      (level_of m.s m.r m.is values (tail name values plain))
  | inr u ↦
      let stop = (walk top.rules (map label_of subs) nothing_held (name ∷ values)).stopped in
      fails_as _ (kind.UnknownArgument ∷ kind.InvalidSubcommand ∷ []) _ false
      (fault_is (name ∷ values)
      ∙ first_stops top (map label_of subs) name values (is_some (entered (record { top = top; subs = subs }) stop)) (entered_fault (record { top = top; subs = subs }) stop)
      kind.UnknownArgument (kind.InvalidSubcommand ∷ []) (unmet_turn subs name (head name values plain) (met_is name subs None u.found)))
      (fits_by name values None u.row_is) (always_fails kind.UnknownArgument (kind.InvalidSubcommand ∷ []) refl)
]

none_fit : (name : Text) (values : List Text) → row_named name table ≡ None → fits (name ∷ values) ≡ true → ⊥
none_fit name values none ok = let bad : false ≡ true = sym (fits_by name values None none) ∙ ok in cc bad

-- and takes those that fit for themselves
pub takes_fitting : (words : List Text) → All IsPlain words → fits words ≡ true → taken words ≡ words
takes_fitting [] plain ok = absurd (cc ok)
takes_fitting (name ∷ values) plain ok = elim (look_up name subs table all_built) [
  | inl m ↦
      let some : within m.r (length values) ≡ true = sym (fits_by name values (Some m.r) m.row_is) ∙ ok in
      taken_is (name ∷ values) ∙ met_parts subs name m.s values (met_name name table m) m.found
      ∙ ap (λ (vs : List Text). m.s.name ∷ vs) (values_of m.s m.r m.is values (tail name values plain) some)
      ∙ ap (λ (l : Text × List Text). l.0 ∷ values) m.label
  | inr u ↦ absurd (none_fit name values u.row_is ok)
]
