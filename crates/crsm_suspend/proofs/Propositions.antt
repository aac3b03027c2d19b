-- The proof that entries have an encoding is unique.
use Rattle.std.proofs.Common.{◌≡◌, ◌<◌, ℕ, List, [], ◌∷◌, ap, inl, inr, arith}
use Rattle.std.specs.Prelude.{◌⊎◌, Option, Some, None}
use Rattle.std.specs.List.{AllByRecursion}
use Rattle.std.specs.Coded.{×_prop, Unit-prop}
use Rattle.std.proofs.Props.{props}
use Rattle.crsm_base.specs.declared.command.Op.{Op}
use Rattle.crsm_base.specs.declared.command.Op.TheVariants.{Get, Put, Delete, Cas}
use Rattle.crsm_base.specs.declared.command.Command.{Command}
use Rattle.crsm_base.specs.declared.command.Entry.{Entry}
use Rattle.crsm_base.specs.Spelling.{FitsCommand, FitsEntries, FitsEntry, FitsOp, FitsOption, FitsVal, IsBefore, Rises, RisesAfter}

option_prop : {X : Type 0} (Fits : X → Type 0) → ((x : X) → IsProp (Fits x)) → (o : Option X) → IsProp (FitsOption Fits o)
option_prop Fits h None = Unit-prop
option_prop Fits h (Some x) = h x

pub all_prop : {X : Type 0} (P : X → Type 0) → ((x : X) → IsProp (P x)) → (xs : List X) → IsProp (AllByRecursion P xs)
all_prop P h [] = Unit-prop
all_prop P h (x ∷ xs) = ×_prop (h x) (all_prop P h xs)

-- two facts that exclude each other
either_prop : {A B : Type 0} → IsProp A → IsProp B → (A → B → ⊥) → IsProp (A ⊎ B)
either_prop p q apart (inl a) (inl b) = ap inl (p a b)
either_prop p q apart (inl a) (inr b) = absurd (apart a b)
either_prop p q apart (inr a) (inl b) = absurd (apart b a)
either_prop p q apart (inr a) (inr b) = ap inr (q a b)

-- ---- lists that rise

stamps_prop : (a b : Entry) → IsProp (a.stamp.time < b.stamp.time ⊎ ((a.stamp.time ≡ b.stamp.time) × (a.stamp.origin < b.stamp.origin)))
stamps_prop a b = either_prop (hlevel props) (hlevel props) (λ l e. let t = e.0 in omega (arith, l, t))

before_prop : (a b : Entry) → IsProp (IsBefore a b)
before_prop a b =
    either_prop (hlevel props) (×_prop (hlevel props) (stamps_prop a b)) (λ l e. let t = e.0 in omega (arith, l, t))

rises_prop : (e : Entry) (es : List Entry) → IsProp (RisesAfter e es)
rises_prop e [] = Unit-prop
rises_prop e (f ∷ fs) = ×_prop (before_prop e f) (rises_prop f fs)

all_rise_prop : (es : List Entry) → IsProp (Rises es)
all_rise_prop [] = Unit-prop
all_rise_prop (e ∷ es) = rises_prop e es

-- ---- fields

val_prop : (v : List ℕ) → IsProp (FitsVal v)
val_prop v = hlevel props

maybe_val_prop : (o : Option (List ℕ)) → IsProp (FitsOption FitsVal o)
maybe_val_prop o = option_prop FitsVal val_prop o

op_prop : (o : Op) → IsProp (FitsOp o)
op_prop (Get k) = hlevel props
op_prop (Put k v) = hlevel props
op_prop (Delete k) = hlevel props
op_prop (Cas k expected new) = hlevel (props, maybe_val_prop)

command_prop : (c : Command) → IsProp (FitsCommand c)
command_prop c = let op = op_prop c.op in hlevel (props, op)

entry_prop : (e : Entry) → IsProp (FitsEntry e)
entry_prop e = let command = command_prop e.command in hlevel (props, command)

pub entries_prop : (es : List Entry) → IsProp (FitsEntries es)
entries_prop es = let each = all_prop FitsEntry entry_prop es in let rises = all_rise_prop es in hlevel (props, each, rises)
