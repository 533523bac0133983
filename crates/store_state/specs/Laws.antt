-- What makes the record of a store believable.
use Rattle.std.specs.Prelude.{◌≡◌, ◌<◌, ℕ}
use Rattle.tree_calls.specs.declared.reply.Refusal.{Refusal}
use Rattle.tree_calls.specs.declared.reply.Refusal.TheVariants.{Denied}
use Rattle.tree_calls.specs.declared.reply.Reply.TheVariants.{Ok as Accepted, Refused}
use Rattle.tree_calls.specs.declared.ship.Record.{Record}
use Rattle.store_state.specs.Outcomes.{change_decided}
use Rattle.store_state.specs.Replies.{kept_reply}

-- the right that a refusal tells
abbrev pub told_right : Refusal → ℕ
told_right (Denied rights) = rights
told_right _ = 0

-- the reply to a change that is kept is the one that was given; rights are below 64
pub record RepliesAreKept : Type 0 where
  pub done : (number : ℕ) (kept : Record) → kept_reply (change_decided number Accepted kept) ≡ Accepted
  pub refused : (number : ℕ) (refusal : Refusal) (kept : Record)
      → told_right refusal < 64 → kept_reply (change_decided number (Refused refusal) kept) ≡ Refused refusal
