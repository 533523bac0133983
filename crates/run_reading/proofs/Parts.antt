-- Ids, tokens and needs, read back from JSON.
use Rattle.std.proofs.Common.{◌≡◌, refl, false, codes, if◌then◌else◌}
use Rattle.base_types.specs.declared.ids.Fid.{Fid}
use Rattle.base_types.specs.declared.ids.OpenKind.{OpenKind}
use Rattle.base_types.specs.declared.ids.OpenKind.TheVariants.{Exclusive, Executing, Reading, Shared, Writing}
use Rattle.json.specs.Json.{Json}
use Rattle.message_json.specs.Parts.{fid_json, id_json, kind_json, need_json, open_json, token_json}
use Rattle.message_json.specs.Values.{tagged}
use Rattle.run_reading.proofs.Forms.{
  IsRead,
  flag_of,
  held,
  is_case,
  is_null,
  part,
  span_is,
  span_of,
  whole_is,
  whole_of,
}
use Rattle.run_reading.specs.Messages.{TypedFid, TypedNeed, TypedToken, TypedTokenId}
use Rattle.token_types.specs.declared.token.Kind.{Kind}
use Rattle.token_types.specs.declared.token.Kind.TheVariants.{Bytes, Lock, Opening, Status}
use Rattle.token_types.specs.declared.token.Need.{Need}
use Rattle.token_types.specs.declared.token.Token.{Token}
use Rattle.token_types.specs.declared.token.TokenId.{TokenId}

unfoldable pub fid_of : Json → Fid
fid_of j = record {
  fileset = record { 0 = whole_of (part 0 j) };
  anode = whole_of (part 1 j);
  unique = whole_of (part 2 j);
}

unfoldable pub open_of : Json → OpenKind
open_of j =
    if is_case (codes "reading") j then Reading else
    if is_case (codes "writing") j then Writing else
    if is_case (codes "executing") j then Executing else
    if is_case (codes "shared") j then Shared else
    Exclusive

unfoldable pub id_of : Json → TokenId
id_of j = record {
  server = record { 0 = whole_of (part 0 j) };
  epoch = whole_of (part 1 j);
  seq = whole_of (part 2 j);
}

unfoldable pub kind_of : Json → Kind
kind_of j =
    if is_case (codes "bytes") j then Bytes (flag_of (part 0 (held j))) (span_of (part 1 (held j))) else
    if is_case (codes "status") j then Status (flag_of (part 0 (held j))) else
    if is_case (codes "lock") j then Lock (flag_of (part 0 (held j))) (span_of (part 1 (held j))) else
    Opening (open_of (held j))

unfoldable pub token_of : Json → Token
token_of j = record {
  id = id_of (part 0 j);
  host = record { 0 = whole_of (part 1 j) };
  fid = fid_of (part 2 j);
  kind = kind_of (part 3 j);
}

unfoldable pub need_of : Json → Need
need_of j = record {
  fid = fid_of (part 0 j);
  kind = kind_of (part 1 j);
}

pub fid_is : (x : Fid) → TypedFid x → IsRead fid_of fid_json x
unfolding fid_json fid_of
fid_is x t =
    let a0 = whole_is x.fileset.0 t.0 in
    let a1 = whole_is x.anode t.1 in
    let a2 = whole_is x.unique t.2 in
    (rw (a0.0, a1.0, a2.0), (a0.1, (a1.1, (a2.1, tt))))

pub fid_some : (x : Fid) → is_null (fid_json x) ≡ false
unfolding fid_json
fid_some x = refl

pub open_is : (x : OpenKind) → IsRead open_of open_json x
unfolding tagged open_json open_of
open_is Reading = (refl, tt)
open_is Writing = (refl, tt)
open_is Executing = (refl, tt)
open_is Shared = (refl, tt)
open_is Exclusive = (refl, tt)

pub id_is : (x : TokenId) → TypedTokenId x → IsRead id_of id_json x
unfolding id_json id_of
id_is x t =
    let a0 = whole_is x.server.0 t.0 in
    let a1 = whole_is x.epoch t.1 in
    let a2 = whole_is x.seq t.2 in
    (rw (a0.0, a1.0, a2.0), (a0.1, (a1.1, (a2.1, tt))))

pub kind_is : (x : Kind) → IsRead kind_of kind_json x
unfolding tagged kind_json kind_of
kind_is (Bytes update span) =
    let a1 = span_is span in
    (rw a1.0, ((tt, (a1.1, tt)), tt))
kind_is (Status update) = (refl, ((tt, tt), tt))
kind_is (Lock writing span) =
    let a1 = span_is span in
    (rw a1.0, ((tt, (a1.1, tt)), tt))
kind_is (Opening it) =
    let a0 = open_is it in
    (rw a0.0, (a0.1, tt))

pub token_is : (x : Token) → TypedToken x → IsRead token_of token_json x
unfolding token_json token_of
token_is x t =
    let a0 = id_is x.id t.0 in
    let a1 = whole_is x.host.0 t.1 in
    let a2 = fid_is x.fid t.2 in
    let a3 = kind_is x.kind in
    (rw (a0.0, a1.0, a2.0, a3.0), (a0.1, (a1.1, (a2.1, (a3.1, tt)))))

pub need_is : (x : Need) → TypedNeed x → IsRead need_of need_json x
unfolding need_json need_of
need_is x t =
    let a0 = fid_is x.fid t in
    let a1 = kind_is x.kind in
    (rw (a0.0, a1.0), (a0.1, (a1.1, tt)))
