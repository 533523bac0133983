-- What the pieces of a give-back leave of a file, in the rules and in a store.
use Rattle.std.specs.Prelude.{IfSome, List, None, Option, [], ℕ, ◌∷◌, ◌≡◌, ◌≤◌}
use Rattle.tree_calls.specs.declared.part.Piece.{Piece}
use Rattle.tree_objects.specs.declared.content.Content.{Content}
use Rattle.tree_objects.specs.declared.content.Content.TheVariants.{File}
use Rattle.base_types.specs.declared.ids.Fid.{Fid}
use Rattle.base_types.specs.declared.ids.HostId.{HostId}
use Rattle.base_types.specs.declared.ids.ServerId.{ServerId}
use Rattle.base_types.specs.declared.limits.TheConstants.{FILE_BYTES_MAX}
use Rattle.tree_calls.specs.declared.roster.Roster.{Roster}
use Rattle.message_types.specs.Soundness.{AreFileBytes, IsHost, PiecesRise}
use Rattle.store_acts.specs.Sound.{IsAct}
use Rattle.store_acts.specs.declared.act.Act.TheVariants.{Give}
use Rattle.store_state.specs.Giving.{content_given as store_given}
use Rattle.run_rules.specs.Kept.{content_given}

-- Where pieces rise, a store that is given them keeps what the rules say.
abbrev pub GivesAreAlike : Type 0
GivesAreAlike = (pieces : List Piece) (len : Option ℕ) (content : Content) → PiecesRise pieces
    → store_given pieces len content ≡ content_given pieces len content

-- two pieces for one byte
abbrev pub two : List Piece
two = record { from = 0; bytes = 1 ∷ [] } ∷ record { from = 0; bytes = 2 ∷ [] } ∷ []

abbrev pub file : Content
file = File [] (0 ∷ []) [] None

-- Of such pieces, which don't rise, the first one counts by the rules, and the last one in a store.
pub record PiecesDiffer : Type 0 where
  pub by_rules : content_given two None file ≡ File [] (1 ∷ []) [] None
  pub in_store : store_given two None file ≡ File [] (2 ∷ []) [] None

-- a store may be given the pieces of a sound give-back, and they rise
pub record GivesFit : Type 0 where
  pub acts : (roster : Roster) (server : ServerId) (host : HostId) (number : ℕ) (fid : Fid) (pieces : List Piece)
      (given : Option ℕ)
      → IsHost roster host → AreFileBytes pieces → IfSome given (λ n. n ≤ FILE_BYTES_MAX)
      → IsAct roster server (Give host number fid pieces given)
  pub rise : (pieces : List Piece) → AreFileBytes pieces → PiecesRise pieces
