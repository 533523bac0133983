use Rattle.std.proofs.Common.{◌≡◌, take, true}
use Rattle.std.specs.List.{list_any}
use Rattle.token_types.specs.Conflicts.{same_id}
use Rattle.token_types.specs.declared.token.TokenId.{TokenId}
use Rattle.host_gives.specs.Named.{Keeps, has_id}
use Rattle.host_gives.proofs.named.note_ids.Given as goal

abbrev pub invariant-loop-id : goal.invariant-loop-id
invariant-loop-id l = record {
  keeps : Keeps l.initial.named l.named;
  noted : (id : TokenId) → list_any (λ other. same_id other id) (take l.id-index l.ids) ≡ true
      → has_id l.named id ≡ true;
}
