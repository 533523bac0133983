-- What a call waits for outlasts what leaves alone its host's tokens, contents, labels and filesets: the need that it
-- lacks, or the question that it asks.
use Rattle.base_types.specs.Outcomes.{either}
use Rattle.base_types.specs.declared.ids.Fid.{Fid}
use Rattle.base_types.specs.declared.ids.FilesetId.{FilesetId}
use Rattle.base_types.specs.declared.ids.HostId.{HostId}
use Rattle.base_types.specs.declared.user.User.{User}
use Rattle.host_manager.proofs.Running.{AsksWhy}
use Rattle.host_tables.proofs.Resting.{ask_rests, lack_rests}
use Rattle.host_tables.specs.Stands.{IsAtRest, IsWaiting}
use Rattle.host_tables.specs.Stands.IsWaiting.{ForDone, ForGrant}
use Rattle.host_tables.specs.Tables.{content, held_of, own_of}
use Rattle.host_tables.specs.declared.calls.Request.{Request}
use Rattle.host_tables.specs.declared.calls.Request.TheVariants.{Change as AChange, Fetch as AFetch}
use Rattle.host_tables.specs.declared.tables.Tables.{Tables}
use Rattle.need_host.proofs.Looking.{outcome_on}
use Rattle.need_host.proofs.Updates.{needs_on}
use Rattle.need_host.specs.Calls.{Own, call_look, from_root, judged, lock_look, refuse, sync_look}
use Rattle.need_host.specs.Calls.{sync_verdict}
use Rattle.need_host.specs.Calls.Verdict.{Asks, Frees, Gives, Replies}
use Rattle.need_host.specs.Looks.{CoverAll, IsFirstLack, View, needs_of, outcome}
use Rattle.need_host.specs.Looks.Look.{Ends}
use Rattle.need_host.specs.Questions.{Question}
use Rattle.need_host.specs.Walks.{file_look, root_of}
use Rattle.run_rules.specs.declared.step.Asked.{Asked}
use Rattle.run_rules.specs.declared.step.Step.{Step}
use Rattle.std.proofs.Common.{Bool, Err, List, None, Ok, Option, Result, Some, false, if◌then◌else◌, inl, inr, not}
use Rattle.std.proofs.Common.{refl, subst, sym, true, ℕ, ◌∙◌, ◌≡◌}
use Rattle.token_types.specs.declared.token.Need.{Need}
use Rattle.tree_answers.specs.Locks.{has_lock}
use Rattle.tree_answers.specs.Opens.{has_open}
use Rattle.tree_calls.specs.declared.call.Call.{Call}
use Rattle.tree_calls.specs.declared.call.Call.TheVariants.{CloneFileset, CloseFile, Create, GetAcl}
use Rattle.tree_calls.specs.declared.call.Call.TheVariants.{List as ListNames, Lock, MakeDir, MoveFileset, NewFileset}
use Rattle.tree_calls.specs.declared.call.Call.TheVariants.{OpenFile, Read, Remove, Rename, SetAcl, Stat, Sync}
use Rattle.tree_calls.specs.declared.call.Call.TheVariants.{Truncate, Unlock, Write}
use Rattle.tree_calls.specs.declared.place.Place.{Place as NamedPlace}
use Rattle.tree_calls.specs.declared.reply.Refusal.{Refusal}
use Rattle.tree_calls.specs.declared.reply.Refusal.TheVariants.{NotLocked, NotOpened}
use Rattle.tree_calls.specs.declared.reply.Reply.TheVariants.{Ok as Fine, Refused}
use Rattle.tree_laws.specs.Parts.{Nature}

-- # What is clean, and what is given back for, counts for what is answered alone
abbrev pub with_ways : Own → (Fid → Bool) → (List ℕ → Bool) → (List ℕ → Bool) → Own
with_ways own clean locks opens =
    record own { is_clean = clean; gives_lock = locks; gives_open = opens }

module _ (own : Own) (clean : Fid → Bool) (locks opens : List ℕ → Bool) (host : HostId) (user : User) (view : View)
  where
    abbrev other : Own
    other = with_ways own clean locks opens

    -- the end of a label needs nothing, and isn't asked of a server

    end_needs : (r : Refusal) (has a b : Bool)
        → needs_of view (if not has then refuse r else Ends (if a then Gives else Frees))
        ≡ needs_of view (if not has then refuse r else Ends (if b then Gives else Frees))
    end_needs r true a b = refl
    end_needs r false a b = refl

    end_asks : (q : Question) (r : Refusal) (has gives : Bool)
        → outcome view (if not has then refuse r else Ends (if gives then Gives else Frees)) ≡ Asks q → ⊥
    end_asks q r true true e = absurd (cc)
    end_asks q r true false e = absurd (cc)
    end_asks q r false gives e = absurd (cc)

    -- a Sync of a fileset that was entered isn't either
    sync_needs : (place : NamedPlace) (o : Option FilesetId)
        → needs_of view (from_root place.server o (λ root. judged (file_look user root place.path)
        (sync_verdict other)))
        ≡ needs_of view (from_root place.server o (λ root. judged (file_look user root place.path) (sync_verdict own)))
    sync_needs place None = refl
    sync_needs place (Some id) =
        needs_on view (file_look user (root_of id) place.path)
        (λ found. Ends (either found (sync_verdict other) (λ refusal. Replies (Refused refusal))))
        ∙ sym (needs_on view (file_look user (root_of id) place.path)
        (λ found. Ends (either found (sync_verdict own) (λ refusal. Replies (Refused refusal)))))

    clean_asks : (q : Question) (b : Bool) → (if b then Replies Fine else Gives) ≡ Asks q → ⊥
    clean_asks q true e = absurd (cc)
    clean_asks q false e = absurd (cc)

    found_asks : (q : Question) (f : Result (Fid × Nature) Refusal)
        → either f (sync_verdict own) (λ refusal. Replies (Refused refusal)) ≡ Asks q → ⊥
    found_asks q (Ok found) e = clean_asks q (own.is_clean found.0) e
    found_asks q (Err refusal) e = absurd (cc)

    sync_asks : (q : Question) (place : NamedPlace) (o : Option FilesetId)
        → outcome view (from_root place.server o (λ root. judged (file_look user root place.path) (sync_verdict own)))
        ≡ Asks q
        → outcome view (from_root place.server o (λ root. judged (file_look user root place.path) (sync_verdict other)))
        ≡ Asks q
    sync_asks q place None e = e
    sync_asks q place (Some id) e = absurd (found_asks q (outcome view (file_look user (root_of id) place.path))
        (sym (outcome_on view (file_look user (root_of id) place.path)
        (λ found. Ends (either found (sync_verdict own) (λ refusal. Replies (Refused refusal))))) ∙ e))

    pub needs_same : (call : Call) → needs_of view (call_look other host user call)
        ≡ needs_of view (call_look own host user call)
    unfolding call_look sync_look lock_look
    needs_same (NewFileset server name objects owner) = refl
    needs_same (Create place) = refl
    needs_same (MakeDir place) = refl
    needs_same (Remove place) = refl
    needs_same (Rename from to) = refl
    needs_same (Truncate place len) = refl
    needs_same (SetAcl place which list) = refl
    needs_same (CloneFileset server source new) = refl
    needs_same (Read place from len) = refl
    needs_same (Write place from bytes) = refl
    needs_same (ListNames place) = refl
    needs_same (Stat place) = refl
    needs_same (GetAcl place which) = refl
    needs_same (Sync place) = sync_needs place (own.seen place.server place.fileset)
    needs_same (Lock label place writing from len) = refl
    needs_same (Unlock label) = end_needs NotLocked (has_lock own.locks host label) (locks label) (own.gives_lock label)
    needs_same (OpenFile label place kind) = refl
    needs_same (CloseFile label) = end_needs NotOpened (has_open own.opens host label) (opens label)
        (own.gives_open label)
    needs_same (MoveFileset server name to) = refl

    pub asks_same : (q : Question) (call : Call) → outcome view (call_look own host user call) ≡ Asks q
        → outcome view (call_look other host user call) ≡ Asks q
    unfolding call_look sync_look lock_look
    asks_same q (NewFileset server name objects owner) e = e
    asks_same q (Create place) e = e
    asks_same q (MakeDir place) e = e
    asks_same q (Remove place) e = e
    asks_same q (Rename from to) e = e
    asks_same q (Truncate place len) e = e
    asks_same q (SetAcl place which list) e = e
    asks_same q (CloneFileset server source new) e = e
    asks_same q (Read place from len) e = e
    asks_same q (Write place from bytes) e = e
    asks_same q (ListNames place) e = e
    asks_same q (Stat place) e = e
    asks_same q (GetAcl place which) e = e
    asks_same q (Sync place) e = sync_asks q place (own.seen place.server place.fileset) e
    asks_same q (Lock label place writing from len) e = e
    asks_same q (Unlock label) e =
        absurd (end_asks q NotLocked (has_lock own.locks host label) (own.gives_lock label) e)
    asks_same q (OpenFile label place kind) e = e
    asks_same q (CloseFile label) e =
        absurd (end_asks q NotOpened (has_open own.opens host label) (own.gives_open label) e)
    asks_same q (MoveFileset server name to) e = e

-- # By the tables
-- other tables, with what a call looks at as before
abbrev pub beside : Tables → Tables → Tables
beside m x = record x {
  host = m.host;
  user = m.user;
  cache = m.cache;
  uses = m.uses;
  ending = m.ending;
  homes = m.homes;
}

pub why_stays : (m x : Tables) (call : Call) → AsksWhy m call → AsksWhy (beside m x) call
why_stays m x call (inl (need, lack)) = inl (
  need,
  subst (λ (needs : List Need). IsFirstLack (held_of m) needs need)
      (sym (needs_same (own_of m) (own_of (beside m x)).is_clean (own_of m).gives_lock (own_of m).gives_open m.host
      m.user (content m.cache) call)) lack,
)
why_stays m x call (inr (question, verdict, covered)) = inr (
  question,
  asks_same (own_of m) (own_of (beside m x)).is_clean (own_of m).gives_lock (own_of m).gives_open m.host m.user
      (content m.cache) question call verdict,
  subst (CoverAll (held_of m)) (sym (needs_same (own_of m) (own_of (beside m x)).is_clean (own_of m).gives_lock
      (own_of m).gives_open m.host m.user (content m.cache) call)) covered,
)

-- # It rests
-- while its request is outstanding
pub waits_rest : (m : Tables) (past : List Step) (c : Asked) → m.call ≡ Some c → (m.request ≡ None → ⊥)
    → AsksWhy m c.call → IsAtRest m past
waits_rest m past c open_is busy why = by_request m.request refl
  where
    by_why : AsksWhy m c.call → IsWaiting m past c.call → IsAtRest m past
    by_why (inl (need, lack)) waits = lack_rests m past c need open_is lack waits
    by_why (inr (question, verdict, covered)) waits = ask_rests m past c question open_is verdict waits

    by_request : (r : Option Request) → m.request ≡ r → IsAtRest m past
    by_request None e = absurd (busy e)
    by_request (Some (AFetch f)) e = by_why why (ForGrant f e)
    by_request (Some (AChange v d)) e = by_why why (ForDone v d e)
