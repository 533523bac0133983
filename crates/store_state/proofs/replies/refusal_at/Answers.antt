use Rattle.std.proofs.Common.{ℕ, List, [], ◌∷◌, ap, ◌∙◌}
use Rattle.std.specs.Prelude.{slice_get}
use Rattle.tree_calls.specs.declared.reply.Refusal.{Refusal}
use Rattle.tree_calls.specs.declared.reply.Refusal.TheVariants.{NoEntry, NotDir, IsDir, Exists, NotEmpty, Denied, TooBig, TooMany, NoRoom, ReadOnly, Locked, OpenConflict, InUse, Loop, NoFileset, CrossFileset, NotLocked, NotOpened, AlreadyLocked, AlreadyOpened, NotHome}
use Rattle.store_state.proofs.replies.refusal_at.Goals as goal

-- the refusals, with a right that is told
abbrev all : ℕ → List Refusal
all right =
    NoEntry ∷ NotDir ∷ IsDir ∷ Exists ∷ NotEmpty ∷ Denied right ∷ TooBig ∷ TooMany ∷ NoRoom ∷ ReadOnly ∷ Locked ∷ OpenConflict ∷
    InUse ∷ Loop ∷ NoFileset ∷ CrossFileset ∷ NotLocked ∷ NotOpened ∷ AlreadyLocked ∷ AlreadyOpened ∷ NotHome ∷ []

pub returns : goal.returns
returns c = c.pick.ensures ∙ ap (λ right. slice_get (all right) c.args.place) c.from_bits.ensures
