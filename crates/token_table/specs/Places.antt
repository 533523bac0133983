-- Where tokens stand in the list of a table, and how those of one file are found.
use Rattle.std.specs.Prelude.{◌≡◌, ℕ, Bool, ◌==◌, ◌&&◌, if◌then◌else◌, List, [], ◌∷◌, ◌++◌, map}
use Rattle.std.specs.Prelude.{unwrap_or}
use Rattle.std.specs.List.{filter}
use Rattle.std.specs.declared.cmp.Ordering.{Ordering}
use Rattle.std.specs.Ordering.{ordering_then, nat_cmp, is_gt}
use Rattle.std.specs.BTreeMap.{BTreeMap, get, values}
use Rattle.base_types.specs.declared.ids.Fid.{Fid}
use Rattle.base_types.specs.declared.ids.ServerId.{ServerId}
use Rattle.token_types.specs.declared.token.Token.{Token}
use Rattle.token_types.specs.declared.token.TokenId.{TokenId}

-- the sequence number of a token that was granted in the present epoch, and 0 of each other one
abbrev pub rank : ServerId → ℕ → TokenId → ℕ
rank server epoch id = if (id.server.0 == server.0) && (id.epoch == epoch) then id.seq else 0

abbrev pub Place : Type 0
Place = ℕ × (ℕ × (ℕ × ℕ))

-- where a token stands: by its rank, and else by its server, epoch and sequence number
abbrev pub place_of : ServerId → ℕ → TokenId → Place
place_of server epoch id = (rank server epoch id, (id.server.0, (id.epoch, id.seq)))

abbrev pub FileKey : Type 0
FileKey = ℕ × (ℕ × ℕ)

abbrev pub file_key : Fid → FileKey
file_key fid = (fid.fileset.0, (fid.anode, fid.unique))

abbrev pub place_cmp : Place → Place → Ordering
place_cmp a b =
    ordering_then (nat_cmp a.0 b.0)
    (ordering_then (nat_cmp a.1.0 b.1.0) (ordering_then (nat_cmp a.1.1.0 b.1.1.0) (nat_cmp a.1.1.1 b.1.1.1)))

abbrev pub file_cmp : FileKey → FileKey → Ordering
file_cmp a b = ordering_then (nat_cmp a.0 b.0) (ordering_then (nat_cmp a.1.0 b.1.0) (nat_cmp a.1.1 b.1.1))

abbrev pub same_key : FileKey → FileKey → Bool
same_key a b = (a.0 == b.0) && (a.1.0 == b.1.0) && (a.1.1 == b.1.1)

-- the tokens that a map has of a file
abbrev pub tokens_at : BTreeMap FileKey (List Token) → FileKey → List Token
tokens_at files key = unwrap_or (get file_cmp files key) []

-- whether a token stands before another
abbrev pub comes_before : ServerId → ℕ → Token → Token → Bool
comes_before server epoch other token = is_gt (place_cmp (place_of server epoch token.id)
    (place_of server epoch other.id))

-- the tokens with one more, behind those that stand before it
abbrev pub placed : ServerId → ℕ → Token → List Token → List Token
placed server epoch token [] = token ∷ []
placed server epoch token (x ∷ xs) =
    if comes_before server epoch x token then x ∷ placed server epoch token xs else token ∷ x ∷ xs

-- the tokens that a file has, where those of one file change
abbrev pub at_file : FileKey → (List Token → List Token) → FileKey → List Token → List Token
at_file own change key tokens = if same_key own key then change tokens else tokens

-- the same with one token more, behind all others of its file
abbrev pub and_token : Token → FileKey → List Token → List Token
and_token token key tokens = at_file (file_key token.fid) (λ own. own ++ token ∷ []) key tokens

-- the same with one token more, in its place
abbrev pub and_placed : ServerId → ℕ → Token → FileKey → List Token → List Token
and_placed server epoch token key tokens = at_file (file_key token.fid) (placed server epoch token) key tokens

pub record ShelfView : Type 0 where
  pub server : ServerId
  pub epoch : ℕ
  -- in the order of their places
  pub tokens : List Token

-- each file has those of the tokens that are its own, in their order
abbrev pub AreByFile : List Token → BTreeMap FileKey (List Token) → Type 0
AreByFile tokens files =
    (key : FileKey) → tokens_at files key ≡ filter (λ token. same_key (file_key token.fid) key) tokens

-- each token has its place, and each file has its tokens
pub record IsShelf (server : ServerId) (epoch : ℕ) (tokens : BTreeMap Place Token)
    (files : BTreeMap FileKey (List Token)) : Type 0 where
  pub placed : tokens.entries ≡ map (λ token. (place_of server epoch token.id, token)) (values tokens)
  pub by_file : AreByFile (values tokens) files
