-- What holds of every token manager.
use Rattle.std.specs.Prelude.{◌≡◌, ◌≤◌, ◌<◌, ℕ, ◌+◌, ◌*◌, ◌^◌, Bool, true, false, ◌&&◌, nat_lt, nat_le, List, length}
use Rattle.std.specs.Prelude.{Option, Some, None, is_some, IfSome, All, AllPairs}
use Rattle.base_types.specs.declared.limits.TheConstants.{NEEDS_MAX}
use Rattle.token_types.specs.declared.token.Token.{Token}
use Rattle.token_types.specs.declared.token.TokenId.{TokenId}
use Rattle.token_types.specs.Conflicts.{conflict, blocks}
use Rattle.token_table.specs.Tables.{IsSound, has_id}
use Rattle.token_table.specs.declared.notes.Note.{Note}
use Rattle.token_table.specs.Marks.{note_at}
use Rattle.token_manager.specs.declared.grants.Grants.{Grants}
use Rattle.token_manager.specs.declared.want.Want.{Want}
use Rattle.token_manager.specs.Managers.{Manager}

-- whether a number was asked: it isn't above the last one
abbrev pub was_asked : Option ℕ → ℕ → Bool
was_asked None number = false
was_asked (Some latest) number = nat_le number latest

-- whether a want waits for a token that was granted by a later want, which then has passed it
abbrev pub is_passed : Token → ℕ → Want → Bool
is_passed token number want = nat_lt want.number number && blocks want.host want.needs token

-- what is noted of a token is of its host, and where it was granted to a want, this one was asked and passed none
pub record IsNoted (latest : Option ℕ) (queue : List Want) (token : Token) (note : Note) : Type 0 where
  pub host : note.host ≡ token.host
  pub asked : IfSome note.want (λ number. was_asked latest number ≡ true)
  pub in_turn : IfSome note.want (λ number. All (λ want. is_passed token number want ≡ false) queue)

pub record IsLawful (grants : Grants) (queue : List Want) (latest : Option ℕ) : Type 0 where
  -- no two tokens have one number, and none will be given again
  pub table : IsSound grants.table
  -- each token is noted, and nothing else is
  pub known : (id : TokenId) → is_some (note_at grants.notes id) ≡ has_id grants.table.tokens id
  -- none was granted past an earlier want that conflicts
  pub noted : All (λ token. IfSome (note_at grants.notes token.id) (IsNoted latest queue token)) grants.table.tokens
  -- the numbers of the queued wants rise
  pub rising : AllPairs (λ a b. a.number < b.number) queue
  pub asked : All (λ want. was_asked latest want.number ≡ true) queue

-- the laws of a token manager
unfoldable pub KeepsLaws : Manager → Type 0
KeepsLaws manager = IsLawful manager.grants manager.queue manager.latest

-- the sequence numbers suffice for the queued wants, and for all that can still be asked
pub record HasRoom (last asked : ℕ) (queue : List Want) : Type 0 where
  pub few : asked ≤ 2 ^ 44
  pub small : All (λ want. length want.needs ≤ NEEDS_MAX) queue
  pub room : last + NEEDS_MAX * length queue ≤ NEEDS_MAX * asked

-- granted tokens of two hosts don't conflict
abbrev pub AreAtPeace : List Token → Type 0
AreAtPeace tokens = AllPairs (λ a b. conflict a b ≡ false) tokens

abbrev pub IsAtPeace : Manager → Type 0
IsAtPeace manager = AreAtPeace manager.grants.table.tokens
