-- What sound messages of a program say fits.
use Rattle.std.proofs.Common.{◌≡◌, ◌≤◌, ℕ, true, List, [], ◌∷◌, length, refl, sym, subst, arith}
use Rattle.std.specs.Prelude.{Option, IfSome}
use Rattle.std.proofs.lemmas.Bool.{eq-eqb}
use Rattle.base_types.specs.declared.ids.ServerId.{ServerId}
use Rattle.base_types.specs.declared.ids.HostId.{HostId}
use Rattle.tree_calls.specs.declared.part.Piece.{Piece}
use Rattle.tree_calls.specs.declared.part.DirEntry.{DirEntry}
use Rattle.tree_calls.specs.declared.part.Status.{Status}
use Rattle.tree_calls.specs.declared.roster.Roster.{Roster}
use Rattle.tree_calls.specs.declared.ship.ShipPart.{ShipPart}
use Rattle.tree_calls.specs.declared.ship.ShipPart.TheVariants.{Head, Object}
use Rattle.token_types.specs.declared.token.Token.{Token}
use Rattle.token_types.specs.declared.token.TokenId.{TokenId}
use Rattle.message_types.specs.declared.asking.Change.{Change as ChangeOf}
use Rattle.message_types.specs.declared.asking.Fetch.{Fetch as FetchOf}
use Rattle.message_types.specs.declared.giving.Give.{Give}
use Rattle.message_types.specs.declared.giving.Reclaim.{Reclaim as ReclaimOf}
use Rattle.message_types.specs.declared.giving.Reclaimed.{Reclaimed as ReclaimedOf}
use Rattle.message_types.specs.declared.moving.Shipped.{Shipped as ShippedOf}
use Rattle.message_types.specs.declared.telling.Bring.{Bring}
use Rattle.message_types.specs.declared.telling.Done.{Done as DoneOf}
use Rattle.message_types.specs.declared.telling.Grant.{Grant as GrantOf}
use Rattle.message_types.specs.declared.tokens.Named.{Named}
use Rattle.message_types.specs.declared.tokens.Revoke.{Revoke as RevokeOf}
use Rattle.message_types.specs.Soundness.{
  Each,
  IsServer,
  IsHost,
  IsToken,
  IsBrought,
  IsTold,
  IsOutcome,
  IsPart,
  IsEnd,
  IsBody,
  HasMoves,
  IsKept,
  Brings,
  IsFetch,
  IsGrant,
  IsChange,
  IsDone,
  AreNamed,
  IsGiveBack,
  IsRevoke,
  IsClaim,
  IsReply,
}
use Rattle.message_types.specs.declared.giving.Ends.{Ends}
use Rattle.message_types.specs.declared.giving.Outstanding.{Outstanding}
use Rattle.message_types.specs.declared.giving.AppliedGive.{AppliedGive}
use Rattle.message_types.specs.declared.message.Body.{Body}
use Rattle.message_types.specs.declared.message.Body.TheVariants.{
  Hello,
  Fetch,
  Grant,
  Change,
  Done,
  Revoke,
  Returned,
  Kept,
  GiveBack,
  Gone,
  Reclaim,
  Reclaimed,
  Restarted,
  Down,
  Bye,
  NotHere,
  Ship,
  Shipped,
}
use Rattle.message_types.specs.declared.message.Message.{Message}
use Rattle.message_types.specs.declared.telling.DoneIs.{DoneIs}
use Rattle.message_types.specs.declared.telling.DoneIs.TheVariants.{Reply as Replied, Known, Granted, Again, Elsewhere}
use Rattle.message_parts.specs.Spelled.{number}
use Rattle.message_parts.specs.Words.{short, long, spell_u32, spell_optional}
use Rattle.message_parts.specs.Tokens.{spell_id, spell_need, spell_token}
use Rattle.message_parts.specs.Objects.{spell_entry, spell_status, list_count}
use Rattle.message_parts.specs.Requests.{spell_outstanding, spell_applied, spell_record}
use Rattle.message_spelling.specs.Bodies.{
  spell_fetch,
  spell_grant,
  spell_change,
  outcome_tag,
  outcome_fields,
  spell_outcome,
  spell_done,
  spell_revoke,
  spell_named,
  spell_ends,
  spell_give,
  spell_gone,
  spell_reclaim,
  spell_reclaimed,
  spell_mover,
  part_tag,
  part_fields,
  spell_part,
  spell_shipped,
  unmoved,
  body_fields,
}
use Rattle.message_laws.specs.Typed.{
  IsU32,
  IsListOf,
  TypedId,
  TypedToken,
  TypedNeed,
  TypedEntry,
  TypedStatus,
  TypedRecord,
  TypedPart,
  TypedOutcome,
  TypedEnds,
  TypedApplied,
  TypedBring,
  TypedOutstanding,
  TypedBody,
}
use Rattle.message_laws.proofs.Fits.{both, flag_in, each_both, short_in, long_in, optional_in}
use Rattle.message_laws.proofs.Parts.{
  InRange,
  u32_in,
  u64_in,
  host_in,
  server_in,
  fileset_in,
  fid_in,
  id_in,
  name_in,
  need_in,
  token_in,
  pieces_in,
  entry_in,
  status_in,
  record_in,
  applied_in,
  outstanding_in,
}
use Rattle.message_laws.proofs.Calls.{call_in, ending_in, reply_in}

each_then : {A : Type 0} (P Q : A → Type 0) → ((x : A) → P x → Q x) → (xs : List A) → Each P xs → Each Q xs
each_then P Q f [] h = tt
each_then P Q f (x ∷ xs) h = (f x h.0, each_then P Q f xs h.1)

each_of : {A : Type 0} (P : A → Type 0) → ((x : A) → P x) → (xs : List A) → Each P xs
each_of P f [] = tt
each_of P f (x ∷ xs) = (f x, each_of P f xs)

-- what is told of an object
status_there : (status : Option Status) (pieces : List Piece) (entries : List DirEntry) → IsTold status pieces entries
    → IfSome status TypedStatus → (spell_optional spell_status status).fits ≡ true
status_there status pieces entries s h =
    optional_in (λ x. length x.lists ≡ list_count x.dir) TypedStatus spell_status status_in status s.lists h

entries_there : (status : Option Status) (pieces : List Piece) (entries : List DirEntry) → IsTold status pieces entries
    → Each TypedEntry entries → (short spell_entry entries).fits ≡ true
entries_there status pieces entries s h =
    short_in TypedEntry spell_entry entry_in entries (let f = s.few in omega (arith, f)) h

outcome_tag_in : (x : DoneIs) → (number 1 0 4 (outcome_tag x)).fits ≡ true
unfolding number
outcome_tag_in (Replied reply) = refl
outcome_tag_in (Known fileset) = refl
outcome_tag_in Granted = refl
outcome_tag_in Again = refl
outcome_tag_in (Elsewhere server) = refl

part_tag_in : (x : ShipPart) → (number 1 0 1 (part_tag x)).fits ≡ true
unfolding number
part_tag_in (Head name objects records mover) = refl
part_tag_in (Object anode unique status pieces entries) = refl

ends_in : (x : Ends) → IsEnd x.call → TypedEnds x → (spell_ends x).fits ≡ true
unfolding spell_ends
ends_in x e h = both (u32_in x.k h.0) (ending_in x.call e h.1)

unmoved_in : (moves : ℕ) → moves ≡ 0 → (unmoved moves).fits ≡ true
unmoved_in moves e = eq-eqb moves 0 e

module _ (roster : Roster) (near : (server : ServerId) → IsServer roster server → InRange server)
    (low : (host : HostId) → IsHost roster host → host.0 ≤ 16)
    (m : Message) (server : IsServer roster m.server) (host : IsHost roster m.host) where
  at_server : (s : ServerId) → s ≡ m.server → InRange s
  at_server s e = near s (subst (IsServer roster) (sym e) server)

  own : (x : Token) → IsToken m x → InRange x.id.server × (x.host.0 ≤ 16)
  own x s = (at_server x.id.server s.server, low x.host (subst (IsHost roster) (sym s.host) host))

  ids_in : (ids : List TokenId) → Each (λ (id : TokenId). id.server ≡ m.server) ids → IsListOf TypedId ids
      → (long spell_id ids).fits ≡ true
  ids_in ids s h =
      long_in (λ (id : TokenId). id.server ≡ m.server) TypedId spell_id
      (λ id e t. id_in id (at_server id.server e) t) ids s h

  declared_in : (ids : List TokenId) → Each (λ (id : TokenId). IsServer roster id.server) ids → IsListOf TypedId ids
      → (long spell_id ids).fits ≡ true
  declared_in ids s h =
      long_in (λ (id : TokenId). IsServer roster id.server) TypedId spell_id
      (λ id e t. id_in id (near id.server e) t) ids s h

  tokens_in : (xs : List Token) → Each (IsToken m) xs → IsListOf TypedToken xs → (long spell_token xs).fits ≡ true
  tokens_in xs s h = long_in (IsToken m) TypedToken spell_token (λ x s t. token_in x (own x s) t) xs s h

  outcome_in : (x : DoneIs) → IsOutcome roster m x → TypedOutcome x → (outcome_fields x).fits ≡ true
  unfolding outcome_fields
  outcome_in (Replied reply) s h = reply_in reply s h
  outcome_in (Known fileset) s h = fileset_in fileset h
  outcome_in Granted s h = refl
  outcome_in Again s h = refl
  outcome_in (Elsewhere other) s h = server_in other (near other s)

  part_in : (at : ℕ) (x : ShipPart) → IsPart roster at x → TypedPart x → (part_fields x).fits ≡ true
  unfolding part_fields spell_mover
  part_in at (Head name objects records mover) s h =
      let few : length records ≤ 65535 = let n = s.1.hosts in omega (arith, n) in
      both (name_in name h.0) (both (u32_in objects h.1)
      (both (short_in (λ x. IsKept x × TypedRecord x) spell_record record_in records few
      (each_both IsKept TypedRecord records s.1.kept h.2))
      (both (host_in mover.host (low mover.host s.1.host)) (both (u64_in mover.number h.3)
      (both (u32_in mover.k h.4) (call_in roster near mover.call s.1.call h.5))))))
  part_in at (Object anode unique status pieces entries) s h =
      both (u32_in anode h.0) (both (u32_in unique h.1) (both (status_there status pieces entries s.3 h.2)
      (both (pieces_in pieces s.3.bytes h.3) (entries_there status pieces entries s.3 h.4))))

  fetch_in : (x : FetchOf) → IsFetch m x → TypedBody (Fetch x) → (spell_fetch x).fits ≡ true
  unfolding spell_fetch
  fetch_in x s h =
      both (u64_in x.number h.0) (both (fid_in x.fid h.1) (short_in TypedNeed spell_need need_in x.needs s.count h.2))

  brought_in : (x : Bring) → Brings m x → TypedBring x → (long spell_token x.tokens).fits ≡ true
  brought_in x s h =
      tokens_in x.tokens (each_then (IsBrought m x.fid) (IsToken m) (λ token b. b.own) x.tokens s.tokens) h.3

  grant_in : (x : GrantOf) → IsGrant m x → TypedBody (Grant x) → (spell_grant x).fits ≡ true
  unfolding spell_grant
  grant_in x s h =
      both (u64_in x.bring.number h.0.0) (both (fid_in x.bring.fid h.0.1) (both (u64_in x.bring.stamp h.0.2)
      (both (status_there x.status x.pieces x.entries s.told h.1) (both (brought_in x.bring s.brings h.0)
      (both (pieces_in x.pieces s.told.bytes h.2) (entries_there x.status x.pieces x.entries s.told h.3))))))

  change_in : (x : ChangeOf) → IsChange roster m x → TypedBody (Change x) → (spell_change x).fits ≡ true
  unfolding spell_change
  change_in x s h =
      both (u64_in x.number h.0) (both (fileset_in x.fileset h.1) (both (fid_in x.fid h.2) (both (flag_in x.enter)
      (both (u32_in x.k h.3) (call_in roster near x.call s.call h.4)))))

  done_in : (x : DoneOf) → IsDone roster m x → TypedBody (Done x) → (spell_done x).fits ≡ true
  unfolding spell_done spell_outcome
  done_in x s h =
      both (u64_in x.bring.number h.2.0) (both (fileset_in x.fileset h.0)
      (both (both (outcome_tag_in x.outcome) (outcome_in x.outcome s.outcome h.1)) (both (fid_in x.bring.fid h.2.1)
      (both (u64_in x.bring.stamp h.2.2) (brought_in x.bring s.brings h.2)))))

  revoke_in : (x : RevokeOf) → IsRevoke m x → TypedBody (Revoke x) → (spell_revoke x).fits ≡ true
  unfolding spell_revoke
  revoke_in x s h = both (fid_in x.fid h.0) (both (u64_in x.stamp h.1) (ids_in x.ids s.named.issued h.2))

  named_in : (x : Named) → AreNamed m x.fid x.ids → TypedBody (Returned x) → (spell_named x).fits ≡ true
  unfolding spell_named
  named_in x s h = both (fid_in x.fid h.0) (ids_in x.ids s.issued h.1)

  give_in : (x : Give) → IsGiveBack roster m x → TypedBody (GiveBack x) → (spell_give x).fits ≡ true
  unfolding spell_give
  give_in x s h =
      both (u64_in x.number h.0) (both (fid_in x.fid h.1) (both (declared_in x.ids s.declared h.2)
      (both (pieces_in x.pieces s.bytes h.3)
      (both (optional_in (λ n. n ≤ 65536) IsU32 spell_u32 (λ n s t. u32_in n t) x.length s.size h.4)
      (optional_in (λ (ends : Ends). IsEnd ends.call) TypedEnds spell_ends ends_in x.ends s.ends h.5)))))

  gone_in : (x : AppliedGive) → TypedApplied x → (spell_gone x).fits ≡ true
  unfolding spell_gone
  gone_in x h = both (u64_in x.number h.1) (fileset_in x.fileset h.0)

  claim_in : (x : ReclaimOf) → IsClaim m x → TypedBody (Reclaim x) → (spell_reclaim x).fits ≡ true
  unfolding spell_reclaim
  claim_in x s h =
      both (tokens_in x.tokens s.tokens h.0)
      (long_in (λ (o : Outstanding). Unit {0}) TypedOutstanding spell_outstanding (λ o s t. outstanding_in o t)
      x.numbers (each_of (λ (o : Outstanding). Unit {0}) (λ o. tt) x.numbers) h.1)

  reclaimed_in : (x : ReclaimedOf) → Each (λ (id : TokenId). id.server ≡ m.server) x.left_out → TypedBody (Reclaimed x)
      → (spell_reclaimed x).fits ≡ true
  unfolding spell_reclaimed
  reclaimed_in x s h =
      both (long_in (λ (a : AppliedGive). Unit {0}) TypedApplied spell_applied (λ a s t. applied_in a t) x.applied
      (each_of (λ (a : AppliedGive). Unit {0}) (λ a. tt) x.applied) h.0) (ids_in x.left_out s h.1)

  shipped_in : (x : ShippedOf) → IsServer roster x.to × IsReply x.reply → TypedBody (Shipped x)
      → (spell_shipped x).fits ≡ true
  unfolding spell_shipped
  shipped_in x s h =
      both (server_in x.to (near x.to s.0)) (both (u64_in x.ship h.0)
      (both (u32_in x.at h.1) (reply_in x.reply s.1 h.2)))

  pub body_in : (moves : ℕ) (body : Body) → IsU32 moves → HasMoves body moves → IsBody roster m body → TypedBody body
      → (body_fields moves body).fits ≡ true
  unfolding body_fields spell_part
  body_in moves Hello n z s h = unmoved_in moves z
  body_in moves (Fetch x) n z s h = both (fetch_in x s h) (u32_in moves n)
  body_in moves (Grant x) n z s h = both (grant_in x s h) (u32_in moves n)
  body_in moves (Change x) n z s h = both (change_in x s h) (u32_in moves n)
  body_in moves (Done x) n z s h = both (done_in x s h) (u32_in moves n)
  body_in moves (Revoke x) n z s h = both (revoke_in x s h) (u32_in moves n)
  body_in moves (Returned x) n z s h = both (named_in x s h) (u32_in moves n)
  body_in moves (Kept x) n z s h = both (named_in x s h) (u32_in moves n)
  body_in moves (GiveBack x) n z s h = both (give_in x s h) (u32_in moves n)
  body_in moves (Gone x) n z s h = both (gone_in x h) (u32_in moves n)
  body_in moves (Reclaim x) n z s h = both (unmoved_in moves z) (claim_in x s h)
  body_in moves (Reclaimed x) n z s h = both (unmoved_in moves z) (reclaimed_in x s h)
  body_in moves Restarted n z s h = unmoved_in moves z
  body_in moves Down n z s h = unmoved_in moves z
  body_in moves Bye n z s h = unmoved_in moves z
  body_in moves (NotHere x) n z s h =
      both (fileset_in x.fileset h) (both (u32_in moves n) (server_in x.to (near x.to s)))
  body_in moves (Ship x) n z s h =
      both (server_in x.to (near x.to s.0)) (both (u64_in x.ship h.0) (both (fileset_in x.fileset h.1)
      (both (u32_in moves n) (both (u32_in x.at h.2) (both (part_tag_in x.part) (part_in x.at x.part s.1 h.3))))))
  body_in moves (Shipped x) n z s h = both (unmoved_in moves z) (shipped_in x s h)
