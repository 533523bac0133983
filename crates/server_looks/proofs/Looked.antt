-- What a store tells of a call, by the parts that the code asks for.
use Rattle.std.proofs.Common.{◌≡◌, ◌∙◌, ℕ, List, [], true, false, sym, ap, subst}
use Rattle.std.specs.Prelude.{if◌then◌else◌, is_none, Bool, Option, Some, None, unwrap_or}
use Rattle.std.specs.Option.{option_map_or}
use Rattle.base_types.specs.declared.ids.FilesetId.{FilesetId}
use Rattle.base_types.specs.declared.ids.HostId.{HostId}
use Rattle.base_types.specs.declared.ids.ServerId.{ServerId}
use Rattle.base_types.specs.declared.user.User.{User}
use Rattle.tree_calls.specs.declared.call.Call.{Call}
use Rattle.tree_calls.specs.declared.call.Call.TheVariants.{MoveFileset}
use Rattle.tree_calls.specs.declared.part.Status.{Status}
use Rattle.tree_calls.specs.declared.reply.Refusal.TheVariants.{NoFileset}
use Rattle.message_types.specs.declared.asking.Change.{Change as ChangeOf}
use Rattle.need_host.specs.Walks.{root_of}
use Rattle.store_memory.specs.Reading.{status_told}
use Rattle.store_state.specs.Rows.{found_named, itself, numbered_id, numbered_name}
use Rattle.store_state.specs.declared.state.StoreState.{StoreState}
use Rattle.server_keeps.specs.Asking.{change_needs, change_refused, entered_told, is_own, move_refused, move_told}
use Rattle.server_keeps.specs.Asking.{needs_some, needs_told}
use Rattle.server_keeps.specs.Asking.{own_refusal, refusal_told, server_of}
use Rattle.server_looks.specs.Acts.{numbered_at}

-- a call that names its fileset is numbered under it
pub named_at : (state : StoreState) (call : Call) (name : List ℕ) (found : Option FilesetId) (id : FilesetId)
    → Some name ≡ numbered_name call
    → found ≡ found_named state name → id ≡ unwrap_or found itself → id ≡ numbered_at state call
named_at state call name found id e f g =
    g ∙ ap (λ o. unwrap_or o itself) f ∙ ap (λ o. unwrap_or (numbered_id state o) itself) e

pub unnamed_at : (state : StoreState) (call : Call) (o : Option (List ℕ)) → o ≡ numbered_name call → o ≡ None → itself
    ≡ numbered_at state call
unnamed_at state call o e f = ap (λ p. unwrap_or (numbered_id state p) itself) (sym f ∙ e)

-- why a fileset that was found can't be moved
pub moved_if : (state later : StoreState) (server to : ServerId) (user other : User) (name : List ℕ)
    (found : Option FilesetId) (id : FilesetId) (status : Option Status)
    → state.server ≡ server → later ≡ state → found ≡ found_named state name → found ≡ Some id → Some other ≡ Some user
    → status ≡ status_told later (root_of id)
    → move_refused server other to status ≡ move_told state user name to
moved_if state later server to user other name found id status s l f g u e =
    let named : found_named state name ≡ Some id = sym f ∙ g in
    let told : status ≡ status_told state (root_of id) = e ∙ ap (λ (x : StoreState). status_told x (root_of id)) l in
    let same : other ≡ user = cc in
    ap (λ (x : User). move_refused server x to status) same
    ∙ ap (λ (o : Option Status). move_refused server user to o) told
    ∙ ap (λ (x : ServerId). move_refused x user to (status_told state (root_of id))) (sym s)
    ∙ ap (λ (o : Option FilesetId). option_map_or
    (λ i. move_refused state.server user to (status_told state (root_of i))) o (Some NoFileset)) (sym named)

-- why a call is refused that moves a fileset of the server
pub moved_told : (state : StoreState) (server at to : ServerId) (host : HostId) (user : User) (call : Call)
    (name : List ℕ) → state.server ≡ server
    → is_own server (server_of call) ≡ true → call ≡ MoveFileset at name to → move_told state user name to
    ≡ refusal_told state host user call
moved_told state server at to host user call name s o e =
    let own : is_own state.server (server_of call) ≡ true = subst (λ (x : ServerId). is_own x (server_of call) ≡ true)
    (sym s) o in
    ap (own_refusal state host user) (sym e) ∙ ap
    (λ (b : Bool). if b then own_refusal state host user call else Some NoFileset) (sym own)

-- a Change that doesn't enter is refused as its call is, and needs what that needs
pub calls_refused : (state : StoreState) (host : HostId) (user : User) (change : ChangeOf) → change.enter ≡ false
    → refusal_told state host user change.call ≡ change_refused state host user change
calls_refused state host user change e =
    ap (λ (b : Bool). if b then (if is_none (entered_told state change.call) then Some NoFileset else None) else
    refusal_told state host user change.call) (sym e)

pub calls_need : (state : StoreState) (host : HostId) (user : User) (change : ChangeOf) → change.enter ≡ false
    → (if needs_some change.call (refusal_told state host user change.call) then needs_told state user change.call else
    []) ≡ change_needs state host user change
calls_need state host user change e =
    ap (λ (b : Bool). if b then [] else
    (if needs_some change.call (refusal_told state host user change.call) then needs_told state user change.call
    else [])) (sym e)
