-- Messages that are spellable are those of a program.
use Rattle.std.proofs.Common.{◌≡◌, ◌&&◌, ℕ, true, arith}
use Rattle.std.proofs.lemmas.Bool.{and_parts, eqb-true}
use Rattle.tree_calls.specs.declared.ship.ShipPart.{ShipPart}
use Rattle.tree_calls.specs.declared.ship.ShipPart.TheVariants.{Head, Object}
use Rattle.message_types.specs.declared.asking.Change.{Change as ChangeOf}
use Rattle.message_types.specs.declared.asking.Fetch.{Fetch as FetchOf}
use Rattle.message_types.specs.declared.giving.Give.{Give}
use Rattle.message_types.specs.declared.giving.Reclaim.{Reclaim as ReclaimOf}
use Rattle.message_types.specs.declared.giving.Reclaimed.{Reclaimed as ReclaimedOf}
use Rattle.message_types.specs.declared.moving.Shipped.{Shipped as ShippedOf}
use Rattle.message_types.specs.declared.telling.Bring.{Bring}
use Rattle.message_types.specs.declared.telling.Done.{Done as DoneOf}
use Rattle.message_types.specs.declared.telling.Grant.{Grant as GrantOf}
use Rattle.message_types.specs.declared.tokens.Named.{Named}
use Rattle.message_types.specs.declared.tokens.Revoke.{Revoke as RevokeOf}
use Rattle.message_types.specs.declared.giving.AppliedGive.{AppliedGive}
use Rattle.message_types.specs.declared.giving.Ends.{Ends}
use Rattle.message_types.specs.declared.message.Direction.{Direction}
use Rattle.message_types.specs.declared.message.Direction.TheVariants.{ToServer, ToHost, BetweenServers}
use Rattle.message_types.specs.declared.message.Body.{Body}
use Rattle.message_types.specs.declared.message.Body.TheVariants.{
  Hello,
  Fetch,
  Grant,
  Change,
  Done,
  Revoke,
  Returned,
  Kept,
  GiveBack,
  Gone,
  Reclaim,
  Reclaimed,
  Restarted,
  Down,
  Bye,
  NotHere,
  Ship,
  Shipped,
}
use Rattle.message_types.specs.declared.telling.DoneIs.{DoneIs}
use Rattle.message_types.specs.declared.telling.DoneIs.TheVariants.{Reply as Replied, Known, Granted, Again, Elsewhere}
use Rattle.message_parts.specs.Spelled.{number}
use Rattle.message_parts.specs.Words.{coded, host_code, spell_server, spell_u32, spell_u64, long}
use Rattle.message_parts.specs.Tokens.{spell_fid, spell_id, spell_need, spell_token}
use Rattle.message_parts.specs.Objects.{spell_entry, spell_status}
use Rattle.message_parts.specs.Requests.{spell_outstanding, spell_applied, spell_record}
use Rattle.message_spelling.specs.Bodies.{
  spell_fetch,
  spell_grant,
  spell_change,
  outcome_fields,
  spell_outcome,
  spell_done,
  spell_revoke,
  spell_named,
  spell_ends,
  spell_give,
  spell_gone,
  spell_reclaim,
  spell_reclaimed,
  spell_mover,
  part_fields,
  spell_part,
  spell_shipped,
  unmoved,
  body_tag,
  body_fields,
}
use Rattle.message_spelling.specs.Messages.{
  direction_code,
  least_direction,
  most_direction,
  most_host,
  most_epoch,
  spell_message,
}
use Rattle.message_laws.specs.Typed.{
  IsU32,
  IsU64,
  TypedId,
  TypedToken,
  TypedNeed,
  TypedEntry,
  TypedStatus,
  TypedRecord,
  TypedPart,
  TypedOutcome,
  TypedEnds,
  TypedApplied,
  TypedBring,
  TypedOutstanding,
  TypedBody,
}
use Rattle.message_laws.specs.Laws.{SpellableIsTyped}
use Rattle.message_laws.proofs.Back.{
  parts,
  number_of,
  u32_of,
  u64_of,
  fileset_of,
  fid_of,
  id_of,
  need_of,
  token_of,
  name_of,
  pieces_of,
  entry_of,
  status_of,
  record_of,
  applied_of,
  outstanding_of,
  short_of,
  long_of,
  optional_of,
}
use Rattle.message_laws.proofs.BackCalls.{call_of, ending_of, reply_of}

outcome_of : (x : DoneIs) → (outcome_fields x).fits ≡ true → TypedOutcome x
unfolding outcome_fields
outcome_of (Replied reply) f = reply_of reply f
outcome_of (Known fileset) f = fileset_of fileset f
outcome_of Granted f = tt
outcome_of Again f = tt
outcome_of (Elsewhere server) f = tt

ends_of : (x : Ends) → (spell_ends x).fits ≡ true → TypedEnds x
unfolding spell_ends
ends_of x f = let p = parts f in (u32_of x.k p.0, ending_of x.call p.1)

part_of : (x : ShipPart) → (part_fields x).fits ≡ true → TypedPart x
unfolding part_fields spell_mover
part_of (Head name objects records mover) f =
    let p = parts f in let q = parts p.1 in let r = parts q.1 in
    let s = parts ((parts r.1).1) in let t = parts s.1 in (
      name_of name p.0,
      u32_of objects q.0,
      short_of TypedRecord spell_record record_of records r.0,
      u64_of mover.number s.0,
      u32_of mover.k t.0,
      call_of mover.call t.1,
    )
part_of (Object anode unique status pieces entries) f =
    let p = parts f in let q = parts p.1 in let r = parts q.1 in let s = parts r.1 in (
      u32_of anode p.0,
      u32_of unique q.0,
      optional_of TypedStatus spell_status status_of status r.0,
      pieces_of pieces s.0,
      short_of TypedEntry spell_entry entry_of entries s.1,
    )

unmoved_of : (moves : ℕ) → (unmoved moves).fits ≡ true → IsU32 moves
unmoved_of moves f = let e = eqb-true moves 0 f in omega (arith, e)

brought_of : (x : Bring) → IsU64 x.number → (spell_fid x.fid).fits ≡ true → (spell_u64 x.stamp).fits ≡ true
    → (long spell_token x.tokens).fits ≡ true → TypedBring x
brought_of x n f s t = (n, fid_of x.fid f, u64_of x.stamp s, long_of TypedToken spell_token token_of x.tokens t)

fetch_of : (x : FetchOf) → (spell_fetch x).fits ≡ true → TypedBody (Fetch x)
unfolding spell_fetch
fetch_of x f =
    let p = parts f in let q = parts p.1 in
    (u64_of x.number p.0, fid_of x.fid q.0, short_of TypedNeed spell_need need_of x.needs q.1)

grant_of : (x : GrantOf) → (spell_grant x).fits ≡ true → TypedBody (Grant x)
unfolding spell_grant
grant_of x f =
    let p = parts f in let q = parts p.1 in let r = parts q.1 in let s = parts r.1 in let t = parts s.1 in
    let u = parts t.1 in (
      brought_of x.bring (u64_of x.bring.number p.0) q.0 r.0 t.0,
      optional_of TypedStatus spell_status status_of x.status s.0,
      pieces_of x.pieces u.0,
      short_of TypedEntry spell_entry entry_of x.entries u.1,
    )

change_of : (x : ChangeOf) → (spell_change x).fits ≡ true → TypedBody (Change x)
unfolding spell_change
change_of x f =
    let p = parts f in let q = parts p.1 in let r = parts q.1 in let s = parts ((parts r.1).1) in
    (u64_of x.number p.0, fileset_of x.fileset q.0, fid_of x.fid r.0, u32_of x.k s.0, call_of x.call s.1)

done_of : (x : DoneOf) → (spell_done x).fits ≡ true → TypedBody (Done x)
unfolding spell_done spell_outcome
done_of x f =
    let p = parts f in let q = parts p.1 in let r = parts q.1 in let s = parts r.1 in let t = parts s.1 in (
      fileset_of x.fileset q.0,
      outcome_of x.outcome ((parts r.0).1),
      brought_of x.bring (u64_of x.bring.number p.0) s.0 t.0 t.1,
    )

revoke_of : (x : RevokeOf) → (spell_revoke x).fits ≡ true → TypedBody (Revoke x)
unfolding spell_revoke
revoke_of x f =
    let p = parts f in let q = parts p.1 in
    (fid_of x.fid p.0, u64_of x.stamp q.0, long_of TypedId spell_id id_of x.ids q.1)

named_of : (x : Named) → (spell_named x).fits ≡ true → TypedBody (Returned x)
unfolding spell_named
named_of x f = let p = parts f in (fid_of x.fid p.0, long_of TypedId spell_id id_of x.ids p.1)

give_of : (x : Give) → (spell_give x).fits ≡ true → TypedBody (GiveBack x)
unfolding spell_give
give_of x f =
    let p = parts f in let q = parts p.1 in let r = parts q.1 in let s = parts r.1 in let t = parts s.1 in (
      u64_of x.number p.0,
      fid_of x.fid q.0,
      long_of TypedId spell_id id_of x.ids r.0,
      pieces_of x.pieces s.0,
      optional_of IsU32 spell_u32 u32_of x.length t.0,
      optional_of TypedEnds spell_ends ends_of x.ends t.1,
    )

gone_of : (x : AppliedGive) → (spell_gone x).fits ≡ true → TypedBody (Gone x)
unfolding spell_gone
gone_of x f = let p = parts f in (fileset_of x.fileset p.1, u64_of x.number p.0)

claim_of : (x : ReclaimOf) → (spell_reclaim x).fits ≡ true → TypedBody (Reclaim x)
unfolding spell_reclaim
claim_of x f =
    let p = parts f in (
      long_of TypedToken spell_token token_of x.tokens p.0,
      long_of TypedOutstanding spell_outstanding outstanding_of x.numbers p.1,
    )

reclaimed_of : (x : ReclaimedOf) → (spell_reclaimed x).fits ≡ true → TypedBody (Reclaimed x)
unfolding spell_reclaimed
reclaimed_of x f =
    let p = parts f in
    (long_of TypedApplied spell_applied applied_of x.applied p.0, long_of TypedId spell_id id_of x.left_out p.1)

shipped_of : (x : ShippedOf) → (spell_shipped x).fits ≡ true → TypedBody (Shipped x)
unfolding spell_shipped
shipped_of x f =
    let p = parts ((parts f).1) in let q = parts p.1 in (u64_of x.ship p.0, u32_of x.at q.0, reply_of x.reply q.1)

body_of : (moves : ℕ) (body : Body) → (body_fields moves body).fits ≡ true → IsU32 moves × TypedBody body
unfolding body_fields spell_part
body_of moves Hello f = (unmoved_of moves f, tt)
body_of moves (Fetch x) f = let b = parts f in (u32_of moves b.1, fetch_of x b.0)
body_of moves (Grant x) f = let b = parts f in (u32_of moves b.1, grant_of x b.0)
body_of moves (Change x) f = let b = parts f in (u32_of moves b.1, change_of x b.0)
body_of moves (Done x) f = let b = parts f in (u32_of moves b.1, done_of x b.0)
body_of moves (Revoke x) f = let b = parts f in (u32_of moves b.1, revoke_of x b.0)
body_of moves (Returned x) f = let b = parts f in (u32_of moves b.1, named_of x b.0)
body_of moves (Kept x) f = let b = parts f in (u32_of moves b.1, named_of x b.0)
body_of moves (GiveBack x) f = let b = parts f in (u32_of moves b.1, give_of x b.0)
body_of moves (Gone x) f = let b = parts f in (u32_of moves b.1, gone_of x b.0)
body_of moves (Reclaim x) f = let b = parts f in (unmoved_of moves b.0, claim_of x b.1)
body_of moves (Reclaimed x) f = let b = parts f in (unmoved_of moves b.0, reclaimed_of x b.1)
body_of moves Restarted f = (unmoved_of moves f, tt)
body_of moves Down f = (unmoved_of moves f, tt)
body_of moves Bye f = (unmoved_of moves f, tt)
body_of moves (NotHere x) f =
    let p = parts f in let q = parts p.1 in (u32_of moves q.0, fileset_of x.fileset p.0)
body_of moves (Ship x) f =
    let p = parts ((parts f).1) in let q = parts p.1 in let r = parts q.1 in let s = parts r.1 in
    (u32_of moves r.0, (u64_of x.ship p.0, fileset_of x.fileset q.0, u32_of x.at s.0, part_of x.part ((parts s.1).1)))
body_of moves (Shipped x) f = let b = parts f in (unmoved_of moves b.0, shipped_of x b.1)

epoch_of : (way : Direction) (epoch : ℕ) → (number 8 0 (most_epoch way) epoch).fits ≡ true → IsU64 epoch
epoch_of ToServer epoch f = let h = (number_of 8 0 18446744073709551615 epoch f).1 in omega (arith, h)
epoch_of ToHost epoch f = let h = (number_of 8 0 18446744073709551615 epoch f).1 in omega (arith, h)
epoch_of BetweenServers epoch f = let h = (number_of 8 0 0 epoch f).1 in omega (arith, h)

pub typed : SpellableIsTyped
unfolding spell_message
typed m f =
    let kind = (number 1 1 18 (body_tag m.body)).fits in
    let way =
    (coded (least_direction (body_tag m.body)) (most_direction (body_tag m.body)) direction_code m.direction).fits in
    let host = (coded 0 (most_host m.direction) host_code m.host).fits in
    let server = (spell_server m.server).fits in
    let epoch = (number 8 0 (most_epoch m.direction) m.epoch).fits in
    let body = (body_fields m.moves m.body).fits in
    let p = and_parts kind (way && (host && (server && (epoch && body)))) f in
    let q = and_parts way (host && (server && (epoch && body))) p.1 in
    let r = and_parts host (server && (epoch && body)) q.1 in
    let s = and_parts server (epoch && body) r.1 in
    let t = and_parts epoch body s.1 in
    let b = body_of m.moves m.body t.1 in
    (epoch_of m.direction m.epoch t.0, b.0, b.1)
