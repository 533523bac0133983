-- The reply that is kept is the one that was given.
use Rattle.std.proofs.Common.{◌≡◌, ◌<◌, ℕ, refl, ap, ◌∙◌, arith}
use Rattle.std.specs.Prelude.{bit_and}
use Rattle.std.proofs.lemmas.Nat.{and_mask}
use Rattle.tree_calls.specs.declared.reply.Refusal.{Refusal}
use Rattle.tree_calls.specs.declared.reply.Refusal.TheVariants.{NoEntry, NotDir, IsDir, Exists, NotEmpty, Denied, TooBig, TooMany, NoRoom, ReadOnly, Locked, OpenConflict, InUse, Loop, NoFileset, CrossFileset, NotLocked, NotOpened, AlreadyLocked, AlreadyOpened, NotHome}
use Rattle.tree_calls.specs.declared.reply.Reply.TheVariants.{Refused}
use Rattle.tree_calls.specs.declared.ship.Record.{Record}
use Rattle.store_state.specs.Laws.{told_right, RepliesAreKept}
use Rattle.store_state.specs.Outcomes.{change_decided}
use Rattle.store_state.specs.Replies.{kept_reply}

masked : (n : ℕ) → n < 64 → bit_and n 63 ≡ n
masked n h = let e = and_mask n 6 in omega (arith, e, h)

kept_refused : (number : ℕ) (refusal : Refusal) (kept : Record) → told_right refusal < 64 → kept_reply (change_decided number (Refused refusal) kept) ≡ Refused refusal
kept_refused number (Denied rights) kept h = ap (λ n. Refused (Denied n)) (ap (λ n. bit_and n 63) (masked rights h) ∙ masked rights h)
kept_refused number NoEntry kept h = refl
kept_refused number NotDir kept h = refl
kept_refused number IsDir kept h = refl
kept_refused number Exists kept h = refl
kept_refused number NotEmpty kept h = refl
kept_refused number TooBig kept h = refl
kept_refused number TooMany kept h = refl
kept_refused number NoRoom kept h = refl
kept_refused number ReadOnly kept h = refl
kept_refused number Locked kept h = refl
kept_refused number OpenConflict kept h = refl
kept_refused number InUse kept h = refl
kept_refused number Loop kept h = refl
kept_refused number NoFileset kept h = refl
kept_refused number CrossFileset kept h = refl
kept_refused number NotLocked kept h = refl
kept_refused number NotOpened kept h = refl
kept_refused number AlreadyLocked kept h = refl
kept_refused number AlreadyOpened kept h = refl
kept_refused number NotHome kept h = refl

pub replies_are_kept : RepliesAreKept
replies_are_kept = record { done = λ number kept. refl; refused = kept_refused }
