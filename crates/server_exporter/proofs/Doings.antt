-- What the store keeps once a Change has had its effect: what the server keeps.
use Rattle.std.proofs.Common.{◌≡◌, ◌==◌, ◌≤◌, ℕ, Bool, true, false, List, [], ◌∷◌, ◌++◌, Option, None, Some, inl, inr}
use Rattle.std.proofs.Common.{refl, sym, ◌∙◌, ap, subst, arith, eqb-true, leb-true, length}
use Rattle.std.specs.Prelude.{unwrap_or}
use Rattle.std.proofs.lemmas.Bool.{and_parts, cases_Bool, false≢true}
use Rattle.base_types.specs.declared.ids.FilesetId.{FilesetId}
use Rattle.base_types.specs.declared.ids.HostId.{HostId}
use Rattle.base_types.specs.declared.ids.ServerId.{ServerId}
use Rattle.base_types.specs.declared.limits.TheConstants.{HOSTS_MAX}
use Rattle.base_types.specs.declared.user.User.{User}
use Rattle.tree_answers.specs.declared.tree.Tree.{Tree}
use Rattle.tree_calls.specs.declared.call.Call.{Call}
use Rattle.tree_calls.specs.declared.call.Call.TheVariants.{CloneFileset, CloseFile, Create, GetAcl, List as ListNames}
use Rattle.tree_calls.specs.declared.call.Call.TheVariants.{Lock, MakeDir, MoveFileset, NewFileset, OpenFile, Read}
use Rattle.tree_calls.specs.declared.call.Call.TheVariants.{Remove, Rename, SetAcl, Stat, Sync, Truncate, Unlock, Write}
use Rattle.tree_calls.specs.declared.reply.Refusal.{Refusal}
use Rattle.tree_calls.specs.declared.reply.Refusal.TheVariants.{NoFileset}
use Rattle.tree_calls.specs.declared.reply.Reply.{Reply}
use Rattle.tree_calls.specs.declared.reply.Reply.TheVariants.{Access, Bytes, Facts, Names, Ok as Accepted, Refused}
use Rattle.tree_calls.specs.declared.roster.Roster.{Roster}
use Rattle.message_types.specs.Soundness.{IsCall, IsHost}
use Rattle.message_types.specs.declared.asking.Change.{Change as ChangeOf}
use Rattle.need_laws.specs.Known.{IsAt}
use Rattle.run_rules.specs.Kept.{filesets_through, is_refusal}
use Rattle.run_rules.specs.ServerDecides.{NotRefused, RefusedOn, kept_reply}
use Rattle.run_rules.specs.Wants.{moves_fileset}
use Rattle.run_rules.specs.declared.applied.Applied.{Applied}
use Rattle.run_rules.specs.declared.applied.Applied.TheVariants.{Done}
use Rattle.run_rules.specs.declared.applied.Written.{Written}
use Rattle.run_rules.specs.declared.step.Cause.{Cause}
use Rattle.server_decides.specs.StoreKeeping.{StandsFor}
use Rattle.server_decides.proofs.Changes.{changes_are_kept}
use Rattle.server_decides.proofs.Replies.{replies_are_kept}
use Rattle.store_acts.specs.Acts.{act_done}
use Rattle.store_acts.specs.Sound.{HasName, IsDecided, IsFor}
use Rattle.store_laws.specs.Calls.{IsNewChange}
use Rattle.store_state.specs.Outcomes.{change_decided, now_done}
use Rattle.store_state.specs.Replies.{kept_reply as told_reply}
use Rattle.store_state.specs.Rows.{answer_to as store_answer, itself, numbered_id, numbered_name}
use Rattle.store_state.specs.declared.done.Done.{Done as DoneOf}
use Rattle.store_state.specs.declared.state.StoreState.{StoreState}
use Rattle.server_decides.specs.Acting.{KeepsSo, MayDo}
use Rattle.server_decides.specs.Asking.{Asks, change_refused, is_own, server_of}
use Rattle.server_decides.proofs.Acting.{drafts_stand}
use Rattle.server_decides.proofs.Asking.{changes_are_told}
use Rattle.server_decides.proofs.Repeating.{acts_are_steady}
use Rattle.server_decides.specs.Acts.{IsLimited, IsRepeatable, doing, next_number, numbered_at}

-- # A Change that isn't refused is about the server's own filesets

server_is : (a b : ServerId) → (a.0 == b.0) ≡ true → a ≡ b
server_is a b e = let q : a.0 ≡ b.0 = eqb-true a.0 b.0 e in λ i. record { 0 = q i }

-- a call that has its effect is at the server by which it says its fileset
is_at : (server : ServerId) (call : Call) → IsDecided call → is_own server (server_of call) ≡ true → IsAt server call
is_at server (NewFileset at name objects owner) d e = server_is at server e
is_at server (Create place) d e = server_is place.server server e
is_at server (MakeDir place) d e = server_is place.server server e
is_at server (Remove place) d e = server_is place.server server e
is_at server (Rename from to) d e = server_is from.server server e
is_at server (Truncate place len) d e = server_is place.server server e
is_at server (SetAcl place which list) d e = server_is place.server server e
is_at server (CloneFileset at source new) d e = server_is at server e
is_at server (Read place from len) d e = absurd d
is_at server (Write place from bytes) d e = absurd d
is_at server (ListNames place) d e = absurd d
is_at server (Stat place) d e = absurd d
is_at server (GetAcl place which) d e = absurd d
is_at server (Sync place) d e = absurd d
is_at server (Lock label place writing from len) d e = absurd d
is_at server (Unlock label) d e = absurd d
is_at server (OpenFile label place kind) d e = absurd d
is_at server (CloseFile label) d e = absurd d
is_at server (MoveFileset at name to) d e = absurd d

refusal_of : (reply : Reply) → is_refusal reply ≡ true → (r : Refusal) × (reply ≡ Refused r)
refusal_of (Refused r) e = (r, refl)
refusal_of Accepted e = absurd (cc)
refusal_of (Bytes bytes) e = absurd (cc)
refusal_of (Names names) e = absurd (cc)
refusal_of (Facts facts) e = absurd (cc)
refusal_of (Access list) e = absurd (cc)

-- the number of hosts is within what a store has records for
pub few_hosts : (tree : Tree) (state : StoreState) (host : HostId) → StandsFor tree state → IsHost state.roster host
    → host.0 ≤ HOSTS_MAX
few_hosts tree state host k known =
    let roster : IsHost tree.roster host = subst (λ (r : Roster). IsHost r host) k.keeps.roster known in
    let four = and_parts _ _ (and_parts _ _ (and_parts _ _ k.formed.roster).0).0 in
    let most : length tree.roster.hosts ≤ HOSTS_MAX = leb-true (length tree.roster.hosts) HOSTS_MAX
    (and_parts _ _ four.0).1 in
    omega (arith, roster, most)

-- a store that keeps a tree keeps no more than it has room for
pub limited_by : (tree : Tree) (state : StoreState) → StandsFor tree state → IsLimited state
limited_by tree state k =
    let four = and_parts _ _ (and_parts _ _ (and_parts _ _ k.formed.roster).0).0 in
    let most : length tree.roster.hosts ≤ HOSTS_MAX = leb-true (length tree.roster.hosts) HOSTS_MAX
    (and_parts _ _ four.0).1 in record {
      limits = k.keeps.storable.limits;
      hosts = subst (λ (r : Roster). length r.hosts ≤ HOSTS_MAX) (sym k.keeps.roster) most;
    }

module _ (tree : Tree) (st : StoreState) (host : HostId) (user : User) (c : ChangeOf) (asks : Asks tree st host user c)
    (accepted : NotRefused tree host c) (enters : c.enter ≡ false) (decided : IsDecided c.call) where
  none_told : (o : Option Refusal) → change_refused st host user c ≡ o → o ≡ None
  none_told None e = refl
  none_told (Some r) e = absurd (accepted r (changes_are_told.refused tree st host user c r asks e))

  own_by : (b : Bool) → c.enter ≡ b → (d : Bool) → is_own st.server (server_of c.call) ≡ d → d ≡ true
  own_by true f d e = absurd (false≢true (sym enters ∙ f))
  own_by false f true e = refl
  own_by false f false e = absurd (let told : change_refused st host user c ≡ Some NoFileset = rw (f, e) refl in
      let none = none_told (change_refused st host user c) refl in let q = sym told ∙ none in cc)

  own : IsAt st.server c.call
  own = is_at st.server c.call decided (own_by c.enter refl (is_own st.server (server_of c.call)) refl)

  -- it moves nothing
  module _ (stays : moves_fileset c.call ≡ false) (known : IsHost st.roster host) (asked : IsCall st.roster c.call)
      (for_it : IsFor st.server c.call) (named : HasName c.call) where
    refused_on : (r : Refusal) → kept_reply tree host c.call ≡ Refused r → RefusedOn tree host c r
    refused_on r e =
        (e, (λ t. absurd (false≢true (sym enters ∙ t))), (λ t. absurd (false≢true (sym stays ∙ t))))

    not_refusal : is_refusal (kept_reply tree host c.call) ≡ false
    not_refusal = elim (cases_Bool (is_refusal (kept_reply tree host c.call))) [
      | inl e ↦ absurd (let r = refusal_of (kept_reply tree host c.call) e in accepted r.0 (refused_on r.0 r.1))
      | inr e ↦ e
    ]

    its : (id : FilesetId) × (numbered_id st (numbered_name c.call) ≡ Some id)
    its = drafts_stand.numbered tree st host c.call asks.stands own not_refusal

    abbrev number : ℕ
    number = next_number st host (numbered_at st c.call)

    new : (id : FilesetId) → numbered_id st (numbered_name c.call) ≡ Some id → IsNewChange st id host number
    new id e = subst (λ (i : FilesetId). IsNewChange st id host (next_number st host i))
        (sym (ap (λ (o : Option FilesetId). unwrap_or o itself) e)) (drafts_stand.next st id host)

    pub may_do_it : MayDo tree st host number c.call
    may_do_it = record {
      own = own;
      act = (known, decided, for_it, asked);
      name = named;
      accepted = not_refusal;
      new = new;
    }

    -- the store accepts it
    done_is : (act_done st (doing st host c.call)).done ≡ now_done Accepted
    done_is = (changes_are_kept tree st host number c.call its.0 asks.stands own (known, decided, for_it, asked) named
        its.1 (new its.0 its.1) not_refusal).done

    replied : (act_done st (doing st host c.call)).done ≡ now_done (kept_reply tree host c.call)
    replied = drafts_stand.replied tree st host number c.call asks.stands may_do_it

    pub accepted_is : kept_reply tree host c.call ≡ Accepted
    accepted_is = ap (λ (o : DoneOf). o.reply) (sym replied ∙ done_is)

    pub reply_is : (act_done st (doing st host c.call)).done.reply ≡ kept_reply tree host c.call
    reply_is = ap (λ (o : DoneOf). o.reply) replied

    told_is : (store_answer st host c.call).reply ≡ Accepted
    told_is = replies_are_kept tree st host c.call asks.stands own ∙ accepted_is

    -- and may be given it once more
    pub done_again : IsRepeatable st (doing st host c.call)
    done_again =
        let s = acts_are_steady.done st host number c.call asks.stands.keeps.storable.limits
        (few_hosts tree st host asks.stands known)
        (λ kept. subst (λ (r : Reply). told_reply (change_decided number r kept) ≡ r) (sym told_is) refl) in
        record { fits = named; fits_again = named; state_same = s.state_same; reply_same = s.reply_same }

-- what the store keeps after it
pub done_stored : (cause : Cause) (tree : Tree) (applied : List Applied) (st : StoreState) (v : Written)
    → KeepsSo cause tree applied st
    → MayDo (filesets_through cause applied tree) st v.answer.host
    (next_number st v.answer.host (numbered_at st v.answer.call)) v.answer.call
    → is_refusal v.answer.reply ≡ false
    → KeepsSo cause tree (applied ++ Done v ∷ []) (act_done st (doing st v.answer.host v.answer.call)).state
done_stored cause tree applied st v keeps may accepted =
    drafts_stand.done cause tree applied st (next_number st v.answer.host (numbered_at st v.answer.call)) v keeps may
    accepted
