-- The end of a label is never answered by a bare ok.
use Rattle.base_types.specs.Outcomes.{either}
use Rattle.base_types.specs.declared.ids.FilesetId.{FilesetId}
use Rattle.base_types.specs.declared.ids.HostId.{HostId}
use Rattle.base_types.specs.declared.user.User.{User}
use Rattle.host_tables.proofs.Plain.{needs_ended}
use Rattle.host_tables.specs.Stands.{needs_from, verdict_from}
use Rattle.host_tables.specs.Tables.{content, home_of, own_of}
use Rattle.host_tables.specs.declared.tables.Tables.{Tables}
use Rattle.need_host.specs.Calls.{Own, call_look, from_root, refuse, sync_look, sync_verdict}
use Rattle.need_host.specs.Calls.Verdict.{Frees, Gives, Replies}
use Rattle.need_host.specs.Looks.{View, needs_of, outcome}
use Rattle.need_host.specs.Looks.Look.{Ends}
use Rattle.need_host.specs.Walks.{file_look, root_of}
use Rattle.run_rules.specs.Tokens.{end_call, end_of}
use Rattle.run_rules.specs.declared.step.Labelled.{Labelled}
use Rattle.std.proofs.Common.{Bool, List, Option, Some, [], ap, false, if◌then◌else◌, not, refl, true, ℕ, ◌∙◌, ◌≡◌}
use Rattle.token_types.specs.declared.token.Kind.{Kind}
use Rattle.token_types.specs.declared.token.Kind.TheVariants.{Bytes, Lock as LockKind, Opening, Status}
use Rattle.tree_answers.specs.Locks.{has_lock}
use Rattle.tree_answers.specs.Opens.{has_open}
use Rattle.tree_calls.specs.declared.call.Call.TheVariants.{CloseFile, Sync, Unlock}
use Rattle.tree_calls.specs.declared.place.Place.{Place as NamedPlace}
use Rattle.tree_calls.specs.declared.reply.Refusal.{Refusal}
use Rattle.tree_calls.specs.declared.reply.Refusal.TheVariants.{NotLocked, NotOpened}
use Rattle.tree_calls.specs.declared.reply.Reply.TheVariants.{Ok as Fine, Refused}

by_has : (r : Refusal) (has gives : Bool) (view : View) → outcome view (if not has then refuse r
    else Ends (if gives then Gives else Frees)) ≡ Replies Fine → ⊥
by_has r true true view e = absurd (cc)
by_has r true false view e = absurd (cc)
by_has r false gives view e = absurd (cc)

unlock_ends : (view : View) (own : Own) (host : HostId) (user : User) (label : List ℕ)
    → outcome view (call_look own host user (Unlock label)) ≡ Replies Fine → ⊥
unfolding call_look
unlock_ends view own host user label e = by_has NotLocked (has_lock own.locks host label) (own.gives_lock label) view e

close_ends : (view : View) (own : Own) (host : HostId) (user : User) (label : List ℕ)
    → outcome view (call_look own host user (CloseFile label)) ≡ Replies Fine → ⊥
unfolding call_look
close_ends view own host user label e = by_has NotOpened (has_open own.opens host label) (own.gives_open label) view e

by_kind : (view : View) (own : Own) (host : HostId) (user : User) (kind : Kind) (label : List ℕ)
    → outcome view (call_look own host user (end_call kind label)) ≡ Replies Fine → ⊥
by_kind view own host user (Bytes update span) label e = unlock_ends view own host user label e
by_kind view own host user (Status update) label e = unlock_ends view own host user label e
by_kind view own host user (LockKind writing span) label e = unlock_ends view own host user label e
by_kind view own host user (Opening kind) label e = close_ends view own host user label e

pub no_end : (m : Tables) (u : Labelled) → verdict_from m (end_of u) ≡ Replies Fine → ⊥
no_end m u e = by_kind (content m.cache) (own_of m) m.host m.user u.token.kind u.label e

-- what the end of a label needs: nothing
needs_none : (r : Refusal) (has gives : Bool) (view : View) → needs_of view (if not has then refuse r
    else Ends (if gives then Gives else Frees)) ≡ []
needs_none r true gives view = refl
needs_none r false gives view = refl

unlock_needs : (view : View) (own : Own) (host : HostId) (user : User) (label : List ℕ)
    → needs_of view (call_look own host user (Unlock label)) ≡ []
unfolding call_look
unlock_needs view own host user label = needs_none NotLocked (has_lock own.locks host label) (own.gives_lock label) view

close_needs : (view : View) (own : Own) (host : HostId) (user : User) (label : List ℕ)
    → needs_of view (call_look own host user (CloseFile label)) ≡ []
unfolding call_look
close_needs view own host user label = needs_none NotOpened (has_open own.opens host label) (own.gives_open label) view

kind_needs : (view : View) (own : Own) (host : HostId) (user : User) (kind : Kind) (label : List ℕ)
    → needs_of view (call_look own host user (end_call kind label)) ≡ []
kind_needs view own host user (Bytes update span) label = unlock_needs view own host user label
kind_needs view own host user (Status update) label = unlock_needs view own host user label
kind_needs view own host user (LockKind writing span) label = unlock_needs view own host user label
kind_needs view own host user (Opening kind) label = close_needs view own host user label

pub end_needs : (m : Tables) (u : Labelled) → needs_from m (end_of u) ≡ []
end_needs m u = kind_needs (content m.cache) (own_of m) m.host m.user u.token.kind u.label

-- what a Sync needs: what leads to its file
pub sync_needs : (m : Tables) (place : NamedPlace) (id : FilesetId) → home_of m.homes place.server place.fileset
    ≡ Some id
    → needs_from m (Sync place) ≡ needs_of (content m.cache) (file_look m.user (root_of id) place.path)
unfolding call_look sync_look
sync_needs m place id e =
    ap (λ (o : Option FilesetId). needs_of (content m.cache)
    (from_root place.server o (λ root. sync_look (own_of m) m.user root place.path))) e
    ∙ needs_ended (content m.cache) (file_look m.user (root_of id) place.path)
    (λ seen. either seen (sync_verdict (own_of m)) (λ refusal. Replies (Refused refusal)))
