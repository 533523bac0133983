-- How the last reply is kept: by the code of its refusal, 0 for done, and the right that a denial tells.
use Rattle.std.specs.Prelude.{ℕ, ◌-◌, ◌==◌, bit_and, if◌then◌else◌, List, [], ◌∷◌, slice_get}
use Rattle.std.specs.Option.{option_map_or}
use Rattle.tree_calls.specs.declared.reply.Refusal.{Refusal}
use Rattle.tree_calls.specs.declared.reply.Refusal.TheVariants.{
  NoEntry,
  NotDir,
  IsDir,
  Exists,
  NotEmpty,
  Denied,
  TooBig,
  TooMany,
  NoRoom,
  ReadOnly,
  Locked,
  OpenConflict,
  InUse,
  Loop,
  NoFileset,
  CrossFileset,
  NotLocked,
  NotOpened,
  AlreadyLocked,
  AlreadyOpened,
  NotHome,
}
use Rattle.tree_calls.specs.declared.reply.Reply.{Reply}
use Rattle.tree_calls.specs.declared.reply.Reply.TheVariants.{Ok as ReplyOk, Refused}
use Rattle.tree_calls.specs.declared.ship.Record.{Record}

-- the code of a refusal: its place among all, from 1
abbrev pub refusal_code : Refusal → ℕ
refusal_code NoEntry = 1
refusal_code NotDir = 2
refusal_code IsDir = 3
refusal_code Exists = 4
refusal_code NotEmpty = 5
refusal_code (Denied rights) = 6
refusal_code TooBig = 7
refusal_code TooMany = 8
refusal_code NoRoom = 9
refusal_code ReadOnly = 10
refusal_code Locked = 11
refusal_code OpenConflict = 12
refusal_code InUse = 13
refusal_code Loop = 14
refusal_code NoFileset = 15
refusal_code CrossFileset = 16
refusal_code NotLocked = 17
refusal_code NotOpened = 18
refusal_code AlreadyLocked = 19
refusal_code AlreadyOpened = 20
refusal_code NotHome = 21

-- the right that it tells, of which the lowest six bits count
abbrev pub refusal_right : Refusal → ℕ
refusal_right (Denied rights) = bit_and rights 63
refusal_right _ = 0

-- the code of a reply to a change, which is done or refused
abbrev pub reply_code : Reply → ℕ
reply_code (Refused refusal) = refusal_code refusal
reply_code _ = 0

abbrev pub reply_right : Reply → ℕ
reply_right (Refused refusal) = refusal_right refusal
reply_right _ = 0

-- the refusals in the order of their codes; of a right the lowest six bits count
abbrev pub refusals : ℕ → List Refusal
refusals right =
    NoEntry ∷ NotDir ∷ IsDir
    ∷ Exists ∷ NotEmpty ∷ Denied (bit_and right 63) ∷ TooBig ∷ TooMany ∷ NoRoom ∷ ReadOnly ∷ Locked ∷ OpenConflict ∷
    InUse ∷ Loop ∷ NoFileset ∷ CrossFileset ∷ NotLocked ∷ NotOpened ∷ AlreadyLocked ∷ AlreadyOpened ∷ NotHome ∷ []

-- the reply of a code
abbrev pub reply_of : ℕ → ℕ → Reply
reply_of code right =
    if code == 0 then ReplyOk
    else option_map_or (λ refusal. Refused refusal) (slice_get (refusals right) (code - 1)) ReplyOk

-- the reply that is kept
abbrev pub kept_reply : Record → Reply
kept_reply kept = reply_of kept.code kept.right
